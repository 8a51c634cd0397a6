use Rattle.std.proofs.Common.{◌≡◌, ◌+◌, ◌-◌, List, ap, subst, ◌∙◌}
use Rattle.std.specs.Prelude.{slice_get, Some}
use Rattle.cany_base.specs.declared.notice.Notice.{Notice}
use Rattle.cany_base.specs.declared.notice.NoticeKind.{NoticeKind}
use Rattle.cany_base.specs.Scenario.{ScenarioParts}
use Rattle.cany_model.specs.declared.share.Share.TheVariants.{Idle}
use Rattle.can_controller.specs.Controller.{ControllerState, seen}
use Rattle.cany_node.specs.Node.{NodeParts, Reads}
use Rattle.cany_world.specs.Incarnations.{HasTurned}
use Rattle.cany_world.specs.Resting.{noticed}
use Rattle.cany_world.proofs.resting.pass_to_turn.Goals as goal

pub returns-clause-turn : goal.returns-clause-turn
returns-clause-turn c =
    let same : c.see.new.self ≡ noticed c.args.next (c.args.slots - 1) c.args.controller.now =
    c.see.ensures ∙ ap (seen (c.args.next + (c.args.slots - 1)) Idle) c.pass_over.ensures.controller in
    record {
      before = c.pass_over.new.node;
      passed = c.pass_over.ensures.node;
      turn = subst (λ (x : ControllerState). (it : NodeParts) → slice_get c.pass_over.new.node.nodes c.pass_over.new.node.present ≡ Some it
          → (scenario : ScenarioParts) (past : List NoticeKind) (notice : Notice) → Reads scenario past notice it x
          → HasTurned scenario past notice it c.pass_over.new.node c.turn.new.self x c.turn.new.ctl) same c.turn.ensures.turn;
    }
