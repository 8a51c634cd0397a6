-- Worked rows of failures that are told: of a node that stopped, started again and stopped again,
-- beside one that runs all the time.
use Rattle.std.specs.Prelude.{Bool, ◌≡◌, ◌+◌, ◌<◌, ◌≤◌, true, false, List, [], ◌∷◌, Some, None, Option, ℕ, Contains, refl}
use Rattle.std.specs.List.{list_any, range_with_len}
use Rattle.std.proofs.Common.{ap, arith, lit<, lit≤, ◌∙◌, subst, sym}
use Rattle.std.proofs.lemmas.Bool.{false≢true}
use Rattle.std.proofs.lemmas.Option.{none-some, same_Some}
use Rattle.cany_base.specs.declared.log_entry.LogEntry.{LogEntry}
use Rattle.cany_base.specs.declared.log_entry.LogEntry.TheVariants.{Failed, View}
use Rattle.cany_base.specs.declared.rule.Verdict.TheVariants.{Clean}
use Rattle.cany_base.specs.Nodes.{has}
use Rattle.cany_base.specs.Scenario.{ScenarioParts}
use Rattle.cany_model.specs.Bus.State.{EndedIncarnation, RunState, node_at}
use Rattle.cany_laws.specs.Alarms.{HasStoppedBefore, IsTakenForFailedNowhere, RaisesNoFalseAlarm}
use Rattle.cany_laws.specs.Logs.{IsIncarnation, present_of}
use Rattle.cany_laws.specs.Membership.{knowledge_as}
use Rattle.cany_law_rows.proofs.PremiseWords.{OfEntry, asked_of, is_earlier, is_present, none_of, of_each, of_entry, run_of, stopped_in}
use Rattle.cany_law_rows.proofs.RowWords.{again, lived, lived_in, of_nodes, row, seen_of, set, slot_rule, two, within, Lived}

-- Node 1 stops in slot 5, starts again at the end of slot 6, takes part since slot 26, and stops
-- again in slot 38. Node 0 tells in slot 39 that it has failed: one of its stops, that in slot 5,
-- lies more than one slot before, and not each. Here `silence` is 39, and `life` and `bound` are
-- 19.
unfoldable stopped_twice : ScenarioParts
stopped_twice = two 60 [] (slot_rule 5 Clean 2 ∷ slot_rule 38 Clean 2 ∷ []) (again 6 1 ∷ [])

-- of an incarnation what it came to, when it stopped, whether node 0 counts as failed there after
-- some slot, and whether node 1 does after slot 50: node 0 is in its first incarnation, and has
-- failed nowhere although node 1 started again
record Watched : Type 0 where
  came : Lived
  stopped : Option ℕ
  failed_0 : Bool
  failed_1 : Bool

abbrev has_failed : RunState → ℕ → EndedIncarnation → ℕ → ℕ → Bool
has_failed s i e r slot = has (knowledge_as stopped_twice s slot i e).failed r

abbrev watched_in : RunState → ℕ → EndedIncarnation → Watched
watched_in s i e = record {
  came = lived_in stopped_twice s i e;
  stopped = e.stopped;
  failed_0 = list_any (has_failed s i e 0) (range_with_len 0 60);
  failed_1 = has_failed s i e 1 50;
}

abbrev of_node_0 : Watched
of_node_0 = record { came = lived 0 60 (Failed 39 1 1 ∷ View 57 1 (set 3) ∷ []); stopped = None; failed_0 = false; failed_1 = true }

abbrev of_node_1 : ℕ → ℕ → Watched
of_node_1 from stop = record { came = lived from stop []; stopped = Some stop; failed_0 = false; failed_1 = false }

-- of all incarnations, of the present one of node 0, and the earlier one of node 1
record Alarm : Type 0 where
  all : List (List Watched)
  first : Watched
  earlier : List EndedIncarnation

abbrev alarm_in : RunState → Alarm
alarm_in s = record { all = of_nodes watched_in 2 s; first = watched_in s 0 (present_of s 0); earlier = (node_at s.nodes 1).ended }

abbrev alarm : Alarm
alarm = record { all = (of_node_0 ∷ []) ∷ (of_node_1 26 38 ∷ of_node_1 0 5 ∷ []) ∷ []; first = of_node_0; earlier = stopped_in 5 ∷ [] }

alarm_of_the_first_stop : seen_of alarm_in stopped_twice ≡ within alarm
unfolding row stopped_twice
alarm_of_the_first_stop = refl

-- ---- what the laws say of it

abbrev its_run : RunState
its_run = run_of stopped_twice

seen_in_it : alarm_in its_run ≡ alarm
seen_in_it = asked_of alarm_in stopped_twice (within alarm) alarm_of_the_first_stop

all_in_it : of_nodes watched_in 2 its_run ≡ alarm.all
all_in_it = ap (λ (seen : Alarm). seen.all) seen_in_it

earlier_one_is : IsIncarnation stopped_twice its_run 1 (stopped_in 5)
unfolding two stopped_twice
earlier_one_is = is_earlier stopped_twice its_run 1 (stopped_in 5) (lit< tt) (ap (λ (seen : Alarm). seen.earlier) seen_in_it)

-- Its first stop, in slot 5, lies more than one slot before slot 7, and so before slot 39.
stopped_before : (u : ℕ) → 7 ≤ u → HasStoppedBefore stopped_twice its_run 1 u
unfolding two stopped_twice
stopped_before u late = record { which = stopped_in 5; is = earlier_one_is; slot = 5; stopped = refl; long = omega (arith, late) }

-- and not before slot 6: that it stopped in an earlier slot is not enough
not_before_the_next_slot : HasStoppedBefore stopped_twice its_run 1 6 → ⊥
unfolding two stopped_twice
not_before_the_next_slot says =
    let late : 5 ≤ says.slot =
    of_each (λ i (found : Watched). (slot : ℕ) → found.stopped ≡ Some slot → 5 ≤ slot) watched_in stopped_twice its_run alarm.all all_in_it
    (((λ slot never. absurd (none-some slot never)), tt), ((since_slot 38 (lit≤ tt), (since_slot 5 (lit≤ tt), tt)), tt))
    1 says.which says.is says.slot says.stopped in
    let long : says.slot + 39 < 6 + 38 = says.long in
    omega (arith, late, long)
  where
    since_slot : (stop : ℕ) → 5 ≤ stop → (slot : ℕ) → Some stop ≡ Some slot → 5 ≤ slot
    since_slot stop late slot same = omega (arith, late, same_Some stop slot same)

-- so the failure that node 0 tells of is no false alarm, and it is the only one
abbrev IsOfNode1 : ℕ → ℕ → Type 0
IsOfNode1 slot node = (7 ≤ slot) × (node ≡ 1)

no_false_alarm : RaisesNoFalseAlarm stopped_twice its_run
unfolding two stopped_twice
no_false_alarm i e is u r cycle told =
    let one = of_each (λ j (found : Watched). (entry : LogEntry) → Contains found.came.log entry → OfEntry (λ slot. Unit {0}) IsOfNode1 entry)
    watched_in stopped_twice its_run alarm.all all_in_it (
      (of_entry (λ slot. Unit {0}) IsOfNode1 of_node_0.came.log ((lit≤ tt, refl), (tt, tt)), tt),
      ((of_entry (λ slot. Unit {0}) IsOfNode1 [] tt, (of_entry (λ slot. Unit {0}) IsOfNode1 [] tt, tt)), tt),
    )
    i e is (Failed u r cycle) told in
    subst (λ node. HasStoppedBefore stopped_twice its_run node u) (sym one.1) (stopped_before u one.0)

-- node 0 is taken for failed nowhere
abbrev TakesItForFailed : ℕ → Watched → Type 0
TakesItForFailed i found = (found.came.next ≤ 60) × (found.failed_0 ≡ false)

abbrev IsOfAnother : ℕ → ℕ → Type 0
IsOfAnother slot node = node ≡ 0 → ⊥

node_0_has_failed_nowhere : IsTakenForFailedNowhere stopped_twice its_run 0
unfolding two stopped_twice
node_0_has_failed_nowhere = record {
  counted = λ i e is t read.
      let found = of_each TakesItForFailed watched_in stopped_twice its_run alarm.all all_in_it
      (((lit≤ tt, refl), tt), (((lit≤ tt, refl), ((lit≤ tt, refl), tt)), tt)) i e is in
      none_of (has_failed its_run i e 0) 0 60 found.1 t (omega arith) (omega (arith, read, found.0));
  told = λ i e is u cycle told.
      let other = of_each (λ j (found : Watched). (entry : LogEntry) → Contains found.came.log entry → OfEntry (λ slot. Unit {0}) IsOfAnother entry)
      watched_in stopped_twice its_run alarm.all all_in_it (
        (of_entry (λ slot. Unit {0}) IsOfAnother of_node_0.came.log ((λ same. omega (arith, same)), (tt, tt)), tt),
        ((of_entry (λ slot. Unit {0}) IsOfAnother [] tt, (of_entry (λ slot. Unit {0}) IsOfAnother [] tt, tt)), tt),
      )
      i e is (Failed u 0 cycle) told in
      other refl;
}

-- and node 1 is, after slot 50
node_1_counts_as_failed : IsTakenForFailedNowhere stopped_twice its_run 1 → ⊥
unfolding two stopped_twice
node_1_counts_as_failed says =
    let first = ap (λ (seen : Alarm). seen.first) seen_in_it in
    false≢true (sym (says.counted 0 (present_of its_run 0) (is_present stopped_twice its_run 0 (lit< tt)) 50
    (omega (arith, ap (λ (seen : Watched). seen.came.next) first))) ∙ ap (λ (seen : Watched). seen.failed_1) first)
