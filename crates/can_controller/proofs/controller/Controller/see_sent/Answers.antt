use Rattle.std.proofs.Common.{◌≡◌}
use Rattle.std.specs.Prelude.{None}
use Rattle.can_controller.proofs.SeenFacts.{sent_seen}
use Rattle.can_controller.proofs.controller.Controller.see_sent.Goals as goal

pub returns : goal.returns
returns c =
    let running : c.self.inside.stopped ≡ None = rw (← c.self.view_is) at c.requires.running in
    rw (← c.self.view_is)
    (sent_seen c.self.inside c.args.frame.now c.args.notice.now c.drop_frame.new.self c.after_success-self-inside.result c.keep.new.ring c.self.invariant running c.requires.sent
    c.drop_frame.ensures c.after_success-self-inside.ensures c.keep.ensures)
