-- Worked rows of a TOTCAN message that is accepted and delivered in time.
use Rattle.std.specs.Prelude.{Bool, ◌≡◌, ℕ, ◌+◌, ◌<◌, ◌≤◌, true, false, List, [], ◌∷◌, Contains, refl}
use Rattle.std.proofs.Common.{ap, arith, lit<, lit≤, subst, sym}
use Rattle.cany_base.specs.declared.log_entry.LogEntry.TheVariants.{Deliver, Failed}
use Rattle.cany_base.specs.declared.message.Service.TheVariants.{Tot}
use Rattle.cany_base.specs.declared.rule.Verdict.TheVariants.{Clean}
use Rattle.cany_base.specs.Scenario.{ScenarioParts}
use Rattle.cany_model.specs.Bus.State.{EndedIncarnation, RunState}
use Rattle.cany_model.specs.Rules.Messages.{Message, message_key}
use Rattle.cany_laws.specs.Acceptance.{DeliversInTime, IsDeliveredByEachOrNone, IsDeliveredInTime, accepted_in_time_as}
use Rattle.cany_laws.specs.Logs.{IsIncarnation, log_as, present_of}
use Rattle.cany_law_rows.proofs.PremiseWords.{asked_of, is_present, of_each, of_entry, run_of}
use Rattle.cany_law_rows.proofs.RowWords.{again, delivers, key, lived, lived_in, of_nodes, row, seen_of, send, slot_rule, two, within, Lived}

-- Node 1 stops in slot 5, starts again at the end of slot 6, and takes part since slot 26. Node 0
-- sends a message that is carried Clean in slot 31: both incarnations that have read its closing
-- had accepted it by then, and both have delivered it. The earlier one of node 1 takes part since
-- before too, but has not read it.
unfoldable sent_later : ScenarioParts
sent_later = two 52 (send Tot 30 0 (1 ∷ []) ∷ []) (slot_rule 5 Clean 2 ∷ []) (again 6 1 ∷ [])

abbrev its_message : Message
its_message = record { slot = 30; origin = 0; seq = 0; service = Tot; payload = 1 ∷ [] }

record Taken : Type 0 where
  came : Lived
  accepted : Bool

abbrev taken_in : RunState → ℕ → EndedIncarnation → Taken
taken_in s i e = record { came = lived_in sent_later s i e; accepted = accepted_in_time_as sent_later s (key 0 0) 31 i e }

abbrev with_it : ℕ → ℕ → ℕ → Taken
with_it from slot failed = record { came = lived from 52 (delivers slot Tot 0 0 (1 ∷ []) ∷ Failed failed 1 1 ∷ []); accepted = true }

-- of all incarnations, and of node 0
record Sent : Type 0 where
  all : List (List Taken)
  first : Taken

abbrev sent_in : RunState → Sent
sent_in s = record { all = of_nodes taken_in 2 s; first = taken_in s 0 (present_of s 0) }

abbrev sent : Sent
sent = record {
  all = (with_it 0 31 39 ∷ []) ∷ (with_it 26 32 41 ∷ record { came = lived 0 5 []; accepted = false } ∷ []) ∷ [];
  first = with_it 0 31 39;
}

taken_by_both : seen_of sent_in sent_later ≡ within sent
unfolding row sent_later
taken_by_both = refl

-- ---- what the laws say of it

abbrev its_run : RunState
its_run = run_of sent_later

seen_in_it : sent_in its_run ≡ sent
seen_in_it = asked_of sent_in sent_later (within sent) taken_by_both

-- each that has read the closing delivers it in time
abbrev DeliversIt : ℕ → Taken → Type 0
DeliversIt i found =
    31 + 19 < found.came.next
    → (slot : ℕ) × Contains found.came.log (delivers slot Tot 0 0 (1 ∷ [])) × (31 ≤ slot) × (slot ≤ 50)

each_that_read_it : (i : ℕ) (e : EndedIncarnation) → IsIncarnation sent_later its_run i e → 31 + 19 < e.next
    → DeliversInTime sent_later its_run its_message 31 i e
unfolding two sent_later
each_that_read_it i e is read =
    let found = of_each DeliversIt taken_in sent_later its_run sent.all (ap (λ (seen : Sent). seen.all) seen_in_it) (
      ((λ next. (31, (0, lit< tt, refl), lit≤ tt, lit≤ tt)), tt),
      (((λ next. (32, (0, lit< tt, refl), lit≤ tt, lit≤ tt)), ((λ next. absurd (omega (arith, next))), tt)), tt),
    ) i e is read in
    record { slot = found.0; stands = found.1; since = found.2; by_then = found.3 }

delivered_in_time : IsDeliveredInTime sent_later its_run its_message 31
unfolding two sent_later
delivered_in_time = record {
  accepted = λ i e h accepted. each_that_read_it i e h.is h.read;
  correct = λ i correct accepted j h. each_that_read_it j (present_of its_run j) (is_present sent_later its_run j h.correct.correct.there) h.read;
}

delivered_by_each : IsDeliveredByEachOrNone sent_later its_run its_message 31
unfolding two sent_later
delivered_by_each i j e f here there slot stands = each_that_read_it j f there.is there.read

-- In time is within `bound` slots: of slot 12, but not of slot 11, it comes in time at node 0.
node_0_has_it : Contains (log_as sent_later its_run 0 (present_of its_run 0)) (Deliver 31 Tot (message_key its_message) (1 ∷ []))
node_0_has_it =
    subst (λ log. Contains log (Deliver 31 Tot (message_key its_message) (1 ∷ []))) (sym (ap (λ (seen : Sent). seen.first.came.log) seen_in_it))
    (0, lit< tt, refl)

in_the_last_slot : DeliversInTime sent_later its_run its_message 12 0 (present_of its_run 0)
unfolding two sent_later
in_the_last_slot = record { slot = 31; stands = node_0_has_it; since = lit≤ tt; by_then = lit≤ tt }

a_slot_too_late : DeliversInTime sent_later its_run its_message 11 0 (present_of its_run 0) → ⊥
unfolding two sent_later
a_slot_too_late says =
    let by_then : says.slot ≤ 11 + 19 = says.by_then in
    let stands = subst (λ log. Contains log (Deliver says.slot Tot (message_key its_message) (1 ∷ [])))
    (ap (λ (seen : Sent). seen.first.came.log) seen_in_it) says.stands in
    let slot : says.slot ≡ 31 =
    of_entry (λ at. at ≡ 31) (λ at node. Unit {0}) (with_it 0 31 39).came.log (refl, (tt, tt)) (Deliver says.slot Tot (message_key its_message) (1 ∷ [])) stands in
    omega (arith, by_then, slot)

-- nor does one of a later slot: it is delivered before
a_slot_too_early : DeliversInTime sent_later its_run its_message 32 0 (present_of its_run 0) → ⊥
unfolding two sent_later
a_slot_too_early says =
    let since = says.since in
    let stands = subst (λ log. Contains log (Deliver says.slot Tot (message_key its_message) (1 ∷ [])))
    (ap (λ (seen : Sent). seen.first.came.log) seen_in_it) says.stands in
    let slot : says.slot ≡ 31 =
    of_entry (λ at. at ≡ 31) (λ at node. Unit {0}) (with_it 0 31 39).came.log (refl, (tt, tt)) (Deliver says.slot Tot (message_key its_message) (1 ∷ [])) stands in
    omega (arith, since, slot)
