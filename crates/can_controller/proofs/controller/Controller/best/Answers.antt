use Rattle.can_controller.proofs.PlaceFacts.{no_head}
use Rattle.can_controller.proofs.controller.Controller.best.Goals as goal

pub returns-clause-none : goal.returns-clause-none
returns-clause-none c = rw (← c.self.view_is, c.first.ensures.head) (no_head c.self.inside.waiting.frames)
