use Rattle.std.proofs.Common.{◌++◌, ◌∷◌, []}
use Rattle.cany_relcan.proofs.OrderFacts.{ascending_drop, ascending_more}
use Rattle.cany_relcan.proofs.timers.Timers.start.Goals as goal

pub invariant_of-self : goal.invariant_of-self
invariant_of-self c = (
  rw c.push_back.ensures.items
      (ascending_drop _ (c.self.inside.running.items ++ c.args.timer ∷ [])
      (ascending_more c.self.inside.running.items c.args.timer c.self.invariant.0 (rw (← c.self.view_is) at c.requires.later))),
  c.start_of_oldest-self-inside.ensures,
)
