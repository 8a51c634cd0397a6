-- Before the slot of the next closing, and that of the next message of the backlog, an idle notice
-- changes nothing.
use Rattle.std.proofs.Common.{◌≡◌, ◌-◌, ◌<◌, ◌≤◌, None, length, ap, sym, ◌∙◌, subst, arith}
use Rattle.cany_totcan.specs.Backlog.{next_given}
use Rattle.cany_totcan.specs.Queue.{oldest_from}
use Rattle.cany_totcan.specs.Totcan.{TotcanParts}
use Rattle.cany_totcan.proofs.RestFacts.{closing_none, rests}
use Rattle.cany_totcan.proofs.totcan.Totcan.wake.Goals as goal

pub returns : goal.returns
returns c = record {
  rests = λ scenario past messages count h early.
      let v = c.args.self.now in
      let slot = length past in
      let before_closing : slot < c.closing-closing.result = omega (arith, early, c.min.ensures) in
      let before_next : slot < c.wake-next.result = omega (arith, early, c.min.ensures) in
      let none_closes : v.bound ≤ slot → oldest_from (slot - v.bound) v.queue.items ≡ None =
      subst (λ (w : TotcanParts). w.bound ≤ slot → oldest_from (slot - w.bound) w.queue.items ≡ None) c.self.view_is
      (c.closing-closing.ensures slot before_closing) in
      rests scenario v.node past messages count v h (closing_none slot v none_closes)
      (ap (λ (w : TotcanParts). next_given slot w.spacing w.backlog) (sym c.self.view_is) ∙ c.wake-next.ensures slot before_next);
}
