use Rattle.std.proofs.Common.{◌≡◌}
use Rattle.std.specs.Prelude.{None}
use Rattle.can_controller.proofs.SeenFacts.{taken_seen}
use Rattle.can_controller.proofs.controller.Controller.see_taken.Goals as goal

pub returns-clause-seen : goal.returns-clause-seen
returns-clause-seen c = λ frame brings.
    let running : c.self.inside.stopped ≡ None = rw (← c.self.view_is) at c.requires.running in
    rw (← c.self.view_is)
    (taken_seen c.self.inside frame c.args.notice.now c.after_receipt-self-inside.result c.keep.new.ring c.self.invariant running brings c.after_receipt-self-inside.ensures c.keep.ensures)
