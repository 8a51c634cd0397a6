-- What a node does in its turn rests on no fault rule: at a scenario with other rules it is the
-- same.
use Rattle.std.proofs.Common.{◌≡◌, ℕ, zero, suc, ◌+◌, List, [], ◌∷◌, refl}
use Rattle.cany_base.specs.declared.notice.NoticeKind.{NoticeKind}
use Rattle.cany_base.specs.declared.rule.Rule.{Rule}
use Rattle.cany_base.specs.declared.step.Step.{Step}
use Rattle.cany_base.specs.declared.step.Step.TheVariants as step
use Rattle.cany_base.specs.Scenario.{ScenarioParts}
use Rattle.cany_model.specs.Bus.Restart.{after_entries, after_restarts, nodes_after_entries}
use Rattle.cany_model.specs.Bus.State.{Incarnation, NodeState, RunState}
use Rattle.cany_model.specs.Rules.Backlog.{asked, backlog, backlog_effects}
use Rattle.cany_model.specs.Rules.Edcan.{edcan_effects}
use Rattle.cany_model.specs.Rules.KnowledgeOf.{knowledge_of}
use Rattle.cany_model.specs.Rules.Life.{failure_effects, life_effects}
use Rattle.cany_model.specs.Rules.Membership.{ask_effects, exchange_effects, install_effects}
use Rattle.cany_model.specs.Rules.Relcan.{relcan_effects}
use Rattle.cany_model.specs.Rules.Sends.{send_effects}
use Rattle.cany_model.specs.Rules.Totcan.{totcan_effects}
use Rattle.cany_model.specs.Rules.Turn.{effects_for, scenario_for, turn_effects}
use Rattle.cany_model.specs.Runs.Run.{after_turn, reply}

-- the scenario with these rules in place of its own
abbrev pub with_rules : ScenarioParts → List Rule → ScenarioParts
with_rules scenario rules = record scenario { rules = rules }

-- ---- what a node knows, and its backlog

knowledge : (sc : ScenarioParts) (rules : List Rule) (i : ℕ) (past : List NoticeKind) → knowledge_of (with_rules sc rules) i past ≡ knowledge_of sc i past
unfolding knowledge_of
knowledge sc rules i [] = refl
knowledge sc rules i (notice ∷ before) = rw (knowledge sc rules i before) refl

backlog_same : (sc : ScenarioParts) (rules : List Rule) (i : ℕ) (past : List NoticeKind) → backlog (with_rules sc rules) i past ≡ backlog sc i past
unfolding backlog
backlog_same sc rules i [] = refl
backlog_same sc rules i (notice ∷ before) = rw (backlog_same sc rules i before) refl

asked_same : (sc : ScenarioParts) (rules : List Rule) (i : ℕ) (past : List NoticeKind) → asked (with_rules sc rules) i past ≡ asked sc i past
unfolding asked
asked_same sc rules i [] = refl
asked_same sc rules i (notice ∷ before) = rw (asked_same sc rules i before, backlog_same sc rules i (notice ∷ before)) refl

-- ---- what it does, by every protocol

turn_same : (sc : ScenarioParts) (rules : List Rule) (i : ℕ) (past : List NoticeKind) → turn_effects (with_rules sc rules) i past ≡ turn_effects sc i past
unfolding turn_effects edcan_effects relcan_effects totcan_effects failure_effects exchange_effects install_effects life_effects send_effects ask_effects backlog_effects
turn_same sc rules i [] = refl
turn_same sc rules i (notice ∷ before) =
    rw (knowledge sc rules i before, knowledge sc rules i (notice ∷ before), asked_same sc rules i before, backlog_same sc rules i (notice ∷ before)) refl

effects_same : (number : ℕ) (sc : ScenarioParts) (rules : List Rule) (inc : Incarnation) (i : ℕ) (past : List NoticeKind)
    → effects_for number (with_rules sc rules) inc i past ≡ effects_for number sc inc i past
effects_same zero sc rules inc i past = turn_same sc rules i past
effects_same (suc number) sc rules inc i past = turn_same (scenario_for sc inc) rules i past

-- ---- the steps of a run

pub after_turn_same : (sc : ScenarioParts) (rules : List Rule) (i : ℕ) (s : RunState) → after_turn (with_rules sc rules) i s ≡ after_turn sc i s
unfolding after_turn
after_turn_same sc rules i s = simp effects_same

entries_same : (sc : ScenarioParts) (rules : List Rule) (slot i : ℕ) (nodes : List NodeState)
    → nodes_after_entries (with_rules sc rules) slot i nodes ≡ nodes_after_entries sc slot i nodes
unfolding nodes_after_entries after_entries
entries_same sc rules slot i [] = refl
entries_same sc rules slot i (node ∷ nodes) = rw (entries_same sc rules slot (i + 1) nodes) refl

pub after_restarts_same : (sc : ScenarioParts) (rules : List Rule) (s : RunState) → after_restarts (with_rules sc rules) s ≡ after_restarts sc s
unfolding after_restarts
after_restarts_same sc rules s = simp entries_same

pub reply_same : (sc : ScenarioParts) (rules : List Rule) (s : RunState) (made : Step) → reply (with_rules sc rules) s made ≡ reply sc s made
unfolding reply
reply_same sc rules s step.Slot = refl
reply_same sc rules s (step.Turn i) = refl
