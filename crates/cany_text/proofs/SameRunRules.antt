-- No rule of a turn reads the journal that a scenario has of its own: with another one each
-- computes to the same.
use Rattle.std.specs.Prelude.{◌≡◌, ℕ, zero, suc, List, Option, refl}
use Rattle.cany_base.specs.declared.notice.NoticeKind.{NoticeKind}
use Rattle.cany_base.specs.declared.step.Step.{Step}
use Rattle.cany_base.specs.Scenario.{ScenarioParts}
use Rattle.cany_model.specs.Bus.State.{Incarnation}
use Rattle.cany_model.specs.Rules.Backlog.{asked, backlog, backlog_effects}
use Rattle.cany_model.specs.Rules.Edcan.{edcan_effects}
use Rattle.cany_model.specs.Rules.Effect.{TurnRule}
use Rattle.cany_model.specs.Rules.Life.{failure_effects, life_effects}
use Rattle.cany_model.specs.Rules.Membership.{ask_effects, exchange_effects, install_effects}
use Rattle.cany_model.specs.Rules.Relcan.{relcan_effects}
use Rattle.cany_model.specs.Rules.Sends.{send_effects}
use Rattle.cany_model.specs.Rules.KnowledgeOf.{knowledge_of}
use Rattle.cany_model.specs.Rules.Totcan.{totcan_effects}
use Rattle.cany_model.specs.Rules.Turn.{effects_for, turn_effects}
use Rattle.cany_text.specs.Replayed.{with_journal}

-- a turn with all its rules open, to be named where they are to compute
unfoldable pub open_turn : TurnRule
unfolding asked ask_effects backlog backlog_effects edcan_effects exchange_effects failure_effects install_effects life_effects relcan_effects send_effects knowledge_of totcan_effects turn_effects
open_turn scenario i past = turn_effects scenario i past

-- what an incarnation does in a turn
pub same_effects : (given : Option (List Step)) (scenario : ScenarioParts) (number : ℕ) (inc : Incarnation) (i : ℕ) (past : List NoticeKind)
    → effects_for number (with_journal given scenario) inc i past ≡ effects_for number scenario inc i past
unfolding open_turn
same_effects given scenario zero inc i past = refl
same_effects given scenario (suc number) inc i past = refl
