-- The incarnations of a run take part since slots that are not far beyond those that ran, and the
-- entries of their logs are of slots that ran.
use Rattle.std.proofs.Common.{◌≡◌, ℕ, ◌+◌, ◌-◌, ◌<◌, ◌≤◌, ◌==◌, Bool, List, [], ◌∷◌, length, drop, refl, ap, sym, subst, arith, inl, inr, length-drop}
use Rattle.std.specs.Prelude.{Option, Some, None, find, unwrap_or}
use Rattle.std.specs.List.{AllByRecursion}
use Rattle.std.proofs.lemmas.Bool.{cases_Bool, cases_lt}
use Rattle.std.proofs.lemmas.List.{length-map, length-replicate}
use Rattle.cany_base.specs.declared.log_entry.LogEntry.{LogEntry}
use Rattle.cany_base.specs.declared.log_entry.LogEntry.TheVariants.{Deliver, Failed, View}
use Rattle.cany_base.specs.declared.notice.NoticeKind.{NoticeKind}
use Rattle.cany_base.specs.declared.slot_note.SlotNote.{SlotNote}
use Rattle.cany_base.specs.declared.step.Step.{Step}
use Rattle.cany_base.specs.Scenario.{ScenarioParts}
use Rattle.cany_model.specs.Bus.History.{ended_history, given, seen}
use Rattle.cany_model.specs.Bus.Restart.{after_restarts}
use Rattle.cany_model.specs.Bus.Slot.{after_slot, script}
use Rattle.cany_model.specs.Bus.State.{EndedIncarnation, NodeState, RunState, fresh, node_at, opening}
use Rattle.cany_model.specs.Rules.Log.{log_from}
use Rattle.cany_model.specs.Rules.Protocol.{Protocol}
use Rattle.cany_model.specs.Rules.Turn.{scenario_for}
use Rattle.cany_model.specs.Runs.Incarnations.{incarnation_of, incarnations}
use Rattle.cany_model.specs.Runs.Run.{after_turn, run}
use Rattle.cany_model.proofs.Among.{Each-weaker}
use Rattle.cany_model.proofs.Bus.Restarts.{after_restarts-trace, restarts_or_stays}
use Rattle.cany_model.proofs.Bus.Seen.{length-seen}
use Rattle.cany_model.proofs.Bus.States.{node_at-opening, node_at_past}
use Rattle.cany_model.proofs.Rules.ProtocolFacts.{IsFoundedEntry}
use Rattle.cany_model.proofs.Rules.Site.SignRooms.{each_made}
use Rattle.cany_model.proofs.Runs.Runs.{along_run}
use Rattle.cany_model.proofs.Runs.Steps.{after_slot-trace, after_turn-trace}
use Rattle.cany_world.specs.Incarnations.{takes_part_since}
use Rattle.cany_world.proofs.InOrder.{HaveSame, slot_same, turn_same}
use Rattle.cany_check.specs.Accounts.Account.{log_record}
use Rattle.cany_check.specs.Accounts.Words.{entry_slot}

-- ---- since when they take part

-- the slots that an incarnation lets pass before it takes part
abbrev pub delay : ScenarioParts → ℕ
delay scenario = scenario.params.bound + scenario.params.lag

record StartsBy (slot : ℕ) (node : NodeState) : Type 0 where
  present : node.present.from ≤ slot
  ended : AllByRecursion (λ (e : EndedIncarnation). e.incarnation.from ≤ slot) node.ended

abbrev AllStart : ScenarioParts → RunState → Type 0
AllStart scenario s = (i : ℕ) → StartsBy (length s.trace + delay scenario) (node_at s.nodes i)

starts_still : (a b : ℕ) (before after : NodeState) → a ≤ b → HaveSame before after → StartsBy a before → StartsBy b after
starts_still a b before after more same h = record {
  present = rw same.present (omega (arith, h.present, more));
  ended = rw same.ended (Each-weaker (λ (e : EndedIncarnation). e.incarnation.from ≤ a) (λ e. e.incarnation.from ≤ b) (λ e p. omega (arith, p, more)) before.ended h.ended);
}

start_at_opening : (scenario : ScenarioParts) → AllStart scenario (opening scenario.params.nodes)
start_at_opening scenario i = elim (cases_lt i scenario.params.nodes) [
  | inl below ↦ rw (node_at-opening scenario.params.nodes i below) (record { present = omega arith; ended = tt })
  | inr past ↦
      rw (node_at_past (opening scenario.params.nodes).nodes i (omega (arith, past, length-replicate scenario.params.nodes fresh)))
      (record { present = omega arith; ended = tt })
]

start_after_restarts : (scenario : ScenarioParts) (s : RunState) → 0 < length s.trace → AllStart scenario s → AllStart scenario (after_restarts scenario s)
start_after_restarts scenario s some h i =
    subst (λ trace. StartsBy (length trace + delay scenario) (node_at (after_restarts scenario s).nodes i)) (sym (after_restarts-trace scenario s))
    (elim (restarts_or_stays scenario s i) [
      | inl new ↦ rw new.is (record { present = omega (arith, some); ended = ((h i).present, (h i).ended) })
      | inr same ↦ rw same (h i)
    ])

all_start : (scenario : ScenarioParts) (journal : List Step) → AllStart scenario (run scenario journal)
all_start scenario journal =
    along_run scenario (AllStart scenario) (start_at_opening scenario)
    (record {
      slot = λ s o may h i.
          starts_still (length s.trace + delay scenario) (length (after_slot (script scenario.rules) s).trace + delay scenario) (node_at s.nodes i)
          (node_at (after_slot (script scenario.rules) s).nodes i) (omega (arith, ap length (after_slot-trace (script scenario.rules) s)))
          (slot_same (script scenario.rules) s i) (h i);
      restarts = λ s o some h. start_after_restarts scenario s some h;
      turn = λ s i o may h j.
          starts_still (length s.trace + delay scenario) (length (after_turn scenario i s).trace + delay scenario) (node_at s.nodes j)
          (node_at (after_turn scenario i s).nodes j) (omega (arith, ap length (after_turn-trace scenario i s))) (turn_same scenario i s j may (o.unread i)) (h j);
    })
    journal

-- ---- one incarnation

found_has : {X : Type 0} (P : X → Type 0) (p : X → Bool) (xs : List X) → AllByRecursion P xs → (x : X) → find p xs ≡ Some x → P x
found_has P p [] h x found = absurd (cc)
found_has P p (y ∷ xs) h x found = elim (cases_Bool (p y)) [
  | inl here ↦ let some : Some y ≡ Some x = rw here at found in let same : y ≡ x = cc in subst P same h.0
  | inr other ↦ found_has P p xs h.1 x (rw other at found)
]

pub from_early : (scenario : ScenarioParts) (journal : List Step) (i number : ℕ) → let s = run scenario journal in
    (log_record scenario s i number).from ≤ length s.trace + delay scenario
unfolding incarnation_of
from_early scenario journal i number = by_found (incarnation_of s i number) refl
  where
    s : RunState
    s = run scenario journal

    by_found : (o : Option EndedIncarnation) → incarnation_of s i number ≡ o → unwrap_or (takes_part_since s i number) 0 ≤ length s.trace + delay scenario
    by_found None is = rw is (omega arith)
    by_found (Some e) is = rw is (early e is)
      where
        early : (e : EndedIncarnation) → incarnation_of s i number ≡ Some e → e.incarnation.from ≤ length s.trace + delay scenario
        early e found =
            found_has (λ (x : EndedIncarnation). x.incarnation.from ≤ length s.trace + delay scenario) (λ x. x.incarnation.number == number) (incarnations s i)
            ((all_start scenario journal i).present, (all_start scenario journal i).ended) e found

-- ---- the slots of entries

entry_early : (scenario : ScenarioParts) (i : ℕ) (past : List NoticeKind) (p : Protocol) (place : ℕ) (entry : LogEntry)
    → IsFoundedEntry scenario p i (drop place past) entry → entry_slot entry < length past
entry_early scenario i past p place (Deliver slot by msg payload) r = omega (arith, r.now, length-drop place past)
entry_early scenario i past p place (Failed slot node cycle) r = omega (arith, r.now, length-drop place past)
entry_early scenario i past p place (View slot number members) r = omega (arith, r.now, length-drop place past)

ended_short : (i : ℕ) (trace : List SlotNote) (e : EndedIncarnation) → length (ended_history i trace e) ≤ length trace
unfolding ended_history
ended_short i trace e =
    omega (
      arith,
      length-map (drop (length trace - e.next) (seen e.incarnation trace)) (given i),
      length-drop (length trace - e.next) (seen e.incarnation trace),
      length-seen e.incarnation trace,
    )

pub entries_early : (scenario : ScenarioParts) (s : RunState) (i number : ℕ)
    → AllByRecursion (λ entry. entry_slot entry < length s.trace) (log_record scenario s i number).entries
entries_early scenario s i number = by_found (incarnation_of s i number) refl
  where
    by_found : (o : Option EndedIncarnation) → incarnation_of s i number ≡ o
        → AllByRecursion (λ entry. entry_slot entry < length s.trace) (log_record scenario s i number).entries
    by_found None is = rw is tt
    by_found (Some e) is =
        rw is (Each-weaker (λ entry. entry_slot entry < length (ended_history i s.trace e)) (λ entry. entry_slot entry < length s.trace)
        (λ entry h. omega (arith, h, ended_short i s.trace e)) (log_from (scenario_for scenario e.incarnation) i (ended_history i s.trace e))
        (each_made (λ entry. entry_slot entry < length (ended_history i s.trace e)) (scenario_for scenario e.incarnation) i (ended_history i s.trace e)
        (entry_early (scenario_for scenario e.incarnation) i (ended_history i s.trace e))))
