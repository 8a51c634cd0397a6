-- Every run keeps the answers of each running node, by what its incarnation sees.
use Rattle.std.proofs.Common.{◌≡◌, ℕ, suc, ◌-◌, ◌<◌, ◌≤◌, true, List, [], ◌∷◌, length, ap, sym, ◌∙◌, subst, arith}
use Rattle.cany_base.specs.declared.notice.NoticeKind.{NoticeKind}
use Rattle.cany_base.specs.declared.slot_note.SlotNote.{SlotNote}
use Rattle.cany_base.specs.declared.step.Step.{Step}
use Rattle.cany_base.specs.Frame.{FrameParts}
use Rattle.cany_base.specs.Limits.{most_nodes}
use Rattle.cany_base.specs.Scenario.{ScenarioParts}
use Rattle.cany_model.specs.Bus.History.{as_seen, history, seen}
use Rattle.cany_model.specs.Bus.Restart.{after_restarts}
use Rattle.cany_model.specs.Runs.Run.{after_turn, run}
use Rattle.cany_model.specs.Bus.Slot.{after_slot, script, slot_note_of}
use Rattle.cany_model.specs.Bus.State.{Incarnation, NodeState, RunState, node_at, opening, runs}
use Rattle.cany_model.specs.Rules.Effect.{waiting_after}
use Rattle.cany_model.specs.Rules.Totcan.{tot_of_key}
use Rattle.cany_model.specs.Rules.Turn.{scenario_for, turn_effects}
use Rattle.cany_model.proofs.Bus.Restarts.{after_restarts-trace}
use Rattle.cany_model.proofs.Runs.Runs.{IsOrderly}
use Rattle.cany_model.proofs.Bus.Seen.{history-is, length-seen}
use Rattle.cany_model.proofs.Bus.States.{note_at, runs_within}
use Rattle.cany_model.proofs.Runs.Steps.{MayTurn, after_slot-present, after_slot-trace, after_slot-unread, after_turn-node, after_turn-trace, next_notice, node_after_turn, running_before_slot, one_less}
use Rattle.cany_model.proofs.Promises.EachNode.{EachRunning, IsNew, opening_new, slot_lived, each_restarts, each_turn}
use Rattle.cany_model.proofs.Promises.OwnSlotsAlone.{AllWaitForOwnSlots, own_slots_alone_run}
use Rattle.cany_model.proofs.Timed.Common.Ages.{clean_carried, gave, past}
use Rattle.cany_model.proofs.Timed.Order.AcceptanceRelays.{AcceptsLater, Answers, Hears, accepts_later, answers_slot, answers_turn, later_before, later_seen}
use Rattle.cany_model.proofs.Timed.Order.TotKept.{NoSilent, TotKept}
use Rattle.cany_model.proofs.Timed.Order.TotRun.{IsOfRun, along_states, past_next, run_orderly, tot_kept, uncarried}

abbrev pub AnswerNode : ScenarioParts → List SlotNote → ℕ → NodeState → Type 0
AnswerNode scenario T i node = Answers scenario.params i T node.unread node.waiting

abbrev KeptAnswers : ScenarioParts → RunState → Type 0
KeptAnswers scenario s = NoSilent s.trace → AcceptsLater s.trace → EachRunning (AnswerNode scenario) s

-- ---- a node that begins

answers_new : (scenario : ScenarioParts) (T : List SlotNote) (i : ℕ) (node : NodeState) → IsNew scenario T i node → AnswerNode scenario T i node
answers_new scenario T i node new = record {
  to_copy = λ m c q from got d near. absurd (uncarried T new.blank q (tot_of_key m) (clean_carried (tot_of_key m) (note_at T q) d));
  to_sent = λ m q mine from sent d. absurd (uncarried T new.blank q (tot_of_key m) (clean_carried (tot_of_key m) (note_at T q) d));
}

answers_opening : (scenario : ScenarioParts) → KeptAnswers scenario (opening scenario.params.nodes)
answers_opening scenario plain later i running =
    answers_new scenario [] i (node_at (opening scenario.params.nodes).nodes i) (opening_new scenario i running)

-- ---- a slot

answers_after_slot : (scenario : ScenarioParts) (s : RunState) → IsOfRun scenario s → KeptAnswers scenario s
    → KeptAnswers scenario (after_slot (script scenario.rules) s)
answers_after_slot scenario s of h plain later i running =
    let rules = script scenario.rules in
    let note = slot_note_of (script scenario.rules) s in
    let inc = (node_at s.nodes i).present in
    let plains : NoSilent (note ∷ s.trace) = subst NoSilent (after_slot-trace rules s) plain in
    let later' : AcceptsLater (note ∷ s.trace) = subst AcceptsLater (after_slot-trace rules s) later in
    let ran : runs (node_at s.nodes i) ≡ true = (running_before_slot rules s i running).0 in
    let within = runs_within s.nodes i ran in
    let own_slots_alone = subst AllWaitForOwnSlots of.1 (own_slots_alone_run scenario of.0) in
    let lived = slot_lived rules s i (own_slots_alone i ran) ran in
    let next : (node_at (after_slot (script scenario.rules) s).nodes i).unread ≡ suc (node_at s.nodes i).unread =
    let more = after_slot-unread rules s i within in omega (arith, more) in
    rw (next, lived.kept, after_slot-present rules s i within, after_slot-trace rules s)
    (answers_slot scenario.params i (as_seen inc note) (seen inc s.trace) (node_at s.nodes i).unread (node_at s.nodes i).waiting
    (later_seen inc (note ∷ s.trace) later') (h plains.1 (later_before note s.trace later') i ran))

answers_restarts : (scenario : ScenarioParts) (s : RunState) → IsOrderly scenario.params.nodes s → 0 < length s.trace → KeptAnswers scenario s
    → KeptAnswers scenario (after_restarts scenario s)
answers_restarts scenario s o some h plain later =
    each_restarts scenario (AnswerNode scenario) (answers_new scenario) s o some
    (h (subst NoSilent (after_restarts-trace scenario s) plain) (subst AcceptsLater (after_restarts-trace scenario s) later))

-- ---- a turn

-- of the node whose turn it is, over variables: `left` is what it has not read after the turn
turn_answers : (scenario : ScenarioParts) (i : ℕ) (inc : Incarnation) (T : List SlotNote) (unread left : ℕ) (W : List FrameParts)
    (h : List NoticeKind) → unread ≡ suc left → unread ≤ length T → h ≡ past i (seen inc T) unread → AcceptsLater T → Hears i (seen inc T)
    → Answers scenario.params i (seen inc T) unread W
    → Answers scenario.params i (seen inc T) left (waiting_after (turn_effects (scenario_for scenario inc) i (gave i (seen inc T) left ∷ h)) W)
turn_answers scenario i inc T unread left W h next short is later hears a =
    let was : h ≡ past i (seen inc T) (suc left) = is ∙ ap (λ u. past i (seen inc T) u) next in
    rw was
    (answers_turn (scenario_for scenario inc) i (seen inc T) left W (past_next i (seen inc T) left (omega (arith, next, short, length-seen inc T)))
    (later_seen inc T later) hears (subst (λ u. Answers scenario.params i (seen inc T) u W) next a))

answers_after_turn : (scenario : ScenarioParts) → scenario.params.nodes ≤ most_nodes → (s : RunState) (i : ℕ) → IsOfRun scenario s
    → MayTurn s i → KeptAnswers scenario s → KeptAnswers scenario (after_turn scenario i s)
answers_after_turn scenario few s i of may h plain later =
    let plains = subst NoSilent (after_turn-trace scenario i s) plain in
    let laters = subst AcceptsLater (after_turn-trace scenario i s) later in
    let k = h plains laters in
    let tot : TotKept scenario s = subst (λ t. NoSilent t.trace → TotKept scenario t) of.1 (tot_kept scenario few of.0) plains in
    let node = node_at s.nodes i in
    let short : node.unread ≤ length s.trace = (run_orderly scenario s of).unread i in
    let own : AnswerNode scenario (seen node.present s.trace) i (node_after_turn scenario i (next_notice s i ∷ history i s) node) =
    turn_answers scenario i node.present s.trace node.unread (node.unread - 1) node.waiting (history i s) (one_less s i may) short (history-is i s) laters
    (tot.nodes i may.running).heard (k i may.running) in
    each_turn scenario (AnswerNode scenario) s i may short
    (subst (AnswerNode scenario (seen node.present s.trace) i) (sym (after_turn-node scenario i s may short)) own) k

-- ---- every run

pub answers_run : (scenario : ScenarioParts) → scenario.params.nodes ≤ most_nodes → (journal : List Step) → NoSilent (run scenario journal).trace
    → EachRunning (AnswerNode scenario) (run scenario journal)
answers_run scenario few journal plain =
    along_states scenario (KeptAnswers scenario) (answers_opening scenario)
    (record {
      slot = λ s of may h. answers_after_slot scenario s of h;
      restarts = λ s o some h. answers_restarts scenario s o some h;
      turn = λ s i of may h. answers_after_turn scenario few s i of may h;
    })
    journal plain (accepts_later scenario (run scenario journal).trace (tot_kept scenario few journal plain).trace)
