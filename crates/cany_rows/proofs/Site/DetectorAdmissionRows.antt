-- Worked rows of nodes that ask to join: runs in which they are admitted, in the cycle that is
-- promised or in the one before, and one in which the ask does not get through. What a run comes to
-- is computed in rows of its own.
use Rattle.std.specs.Prelude.{ℕ, ◌+◌, ◌-◌, ◌*◌, ◌<◌, ◌≤◌, ◌≡◌, ◌⊎◌, Bool, true, false, [], ◌∷◌, Option, Some, Contains, map, replicate, refl}
use Rattle.std.proofs.Common.{ap, arith, inl, inr, lit<, lit≤, ◌∙◌, sym}
use Rattle.std.proofs.lemmas.Bool.{false≢true}
use Rattle.cany_base.specs.declared.log_entry.LogEntry.TheVariants.{View}
use Rattle.cany_base.specs.declared.rule.Verdict.TheVariants.{Clean, Partial}
use Rattle.cany_base.specs.declared.slot_note.SlotNote.{SlotNote}
use Rattle.cany_base.specs.Nodes.{Nodes, has}
use Rattle.cany_base.specs.Scenario.{IsLegalScenario, ScenarioParts}
use Rattle.cany_model.specs.Bus.State.{RunState, node_at, runs, slots_run}
use Rattle.cany_model.specs.Promises.Detector.{IsAdmitted, JoinWasCarried, StandsAfter, members_before}
use Rattle.cany_model.specs.Promises.Hypothesis.{IsWithin}
use Rattle.cany_model.specs.Promises.OneView.{installed}
use Rattle.cany_model.specs.Promises.Settled.{IsCorrect}
use Rattle.cany_model.specs.Rules.Log.{log}
use Rattle.cany_model.proofs.Promises.BreakFacts.{first_break_exact}
use Rattle.cany_rows.proofs.Site.DetectorWords.{detector_row, each_correct, of_installed, run_of, stands_after, two, two_is_legal}
use Rattle.cany_rows.proofs.RowWords.{carries, scenario, set, slot_rule, three}
use Rattle.cany_rows.proofs.Site.SiteWords.{asks_at, join, of_members, with_asks}

-- neither node has node 1 in its view before its turn of this slot
abbrev AreWithoutNode1 : ScenarioParts → RunState → ℕ → Type 0
AreWithoutNode1 sc s slot = (has (members_before sc s slot 0) 1 ≡ false) × (has (members_before sc s slot 1) 1 ≡ false)

node_1_is_outside : (sc : ScenarioParts) (s : RunState) (slot : ℕ) → sc.params.nodes ≡ 2 → AreWithoutNode1 sc s slot
    → (i : ℕ) → IsCorrect sc s i → has (members_before sc s slot i) 1 ≡ false
node_1_is_outside sc s slot nodes both =
    each_correct sc s (λ i. has (members_before sc s slot i) 1 ≡ false) nodes (λ correct. both.0) (λ correct. both.1)

-- its ask is carried Clean in a slot by itself, and heard by the other node
abbrev its_ask : ℕ → ℕ → SlotNote
its_ask slot cycle = carries slot (join 1 cycle) 2 1 Clean 0

join_was_carried : (sc : ScenarioParts) (s : RunState) (slot asked cycle : ℕ) → sc.params.nodes ≡ 2 → Contains s.trace (its_ask slot asked)
    → (cycle - 1) * sc.params.cycle < slot → slot ≤ cycle * sc.params.cycle → AreWithoutNode1 sc s slot → JoinWasCarried sc s 1 cycle
unfolding detector_row
join_was_carried sc s slot asked cycle nodes stands after by_start both = record {
  note = its_ask slot asked;
  stands = stands;
  what = join 1 asked;
  frame = refl;
  join = refl;
  asker = refl;
  clean = refl;
  after = after;
  by_start = by_start;
  outside = node_1_is_outside sc s slot nodes both;
}

node_1_is_in_it : (has (set 3) 1 ≡ true) × (has (set 1) 1 ≡ false)
unfolding detector_row
node_1_is_in_it = (refl, refl)

-- ---- a node that is admitted in the cycle that starts next

-- Node 0 is the one member, and node 1 asks in slot 10 to join it.
abbrev node_1_joins : ScenarioParts
node_1_joins = two 58 1 [] (asks_at 10 1 ∷ []) []

abbrev joined : RunState
joined = run_of node_1_joins

joining_is_legal : IsLegalScenario node_1_joins
unfolding detector_row
joining_is_legal = two_is_legal 58 1 [] (asks_at 10 1 ∷ []) [] (lit≤ tt) (lit≤ tt) (lit< tt) (record {
  rules = tt;
  one_rule = lit≤ tt;
  joins = ((lit< tt, lit< tt), tt);
  few_joins = lit≤ tt;
  leaves = tt;
  few_leaves = lit≤ tt;
})

joining_is_within : IsWithin node_1_joins.params joined.trace
unfolding detector_row
joining_is_within = (first_break_exact node_1_joins.params joined.trace).0 refl

outside_before_the_join : AreWithoutNode1 node_1_joins joined 11
unfolding detector_row
outside_before_the_join = (refl, refl)

-- the premise is met: its ask is carried in slot 11
its_join_is_carried : JoinWasCarried node_1_joins joined 1 1
unfolding detector_row
its_join_is_carried = join_was_carried node_1_joins joined 11 0 1 refl (46, lit< tt, refl) (lit< tt) (lit≤ tt) outside_before_the_join

-- both nodes install a vector that has it
installed_after_the_join : (installed node_1_joins joined 0 1 ≡ Some (set 3)) × (installed node_1_joins joined 1 1 ≡ Some (set 3))
unfolding detector_row
installed_after_the_join = (refl, refl)

-- so it is admitted in cycle 1
abbrev HadJoined : ℕ → Nodes → Type 0
HadJoined i v = (has v 1 ≡ true) ⊎ ((1 < 1) × ((w : Nodes) × (installed node_1_joins joined i (1 - 1) ≡ Some w) × (has w 1 ≡ true)))

it_is_admitted : IsAdmitted node_1_joins joined 1 1
it_is_admitted =
    each_correct node_1_joins joined (λ i. (v : Nodes) → installed node_1_joins joined i 1 ≡ Some v → HadJoined i v) refl
    (λ correct. of_installed (HadJoined 0) (installed node_1_joins joined 0 1) (set 3) installed_after_the_join.0 (inl node_1_is_in_it.0))
    (λ correct. of_installed (HadJoined 1) (installed node_1_joins joined 1 1) (set 3) installed_after_the_join.1 (inl node_1_is_in_it.0))

view_with_it : (log node_1_joins joined 0 ≡ View 57 1 (set 3) ∷ []) × (log node_1_joins joined 1 ≡ View 57 1 (set 3) ∷ [])
unfolding detector_row
view_with_it = (refl, refl)

-- it stands in the view after the turn of slot 57, and not before
members_after_the_end :
    (57 < slots_run joined) × (has (members_before node_1_joins joined (57 + 1) 0) 1 ≡ true)
    × (has (members_before node_1_joins joined (57 + 1) 1) 1 ≡ true)
unfolding detector_row
members_after_the_end = (lit< tt, refl, refl)

stands_after_the_end : StandsAfter node_1_joins joined 1 57
stands_after_the_end =
    stands_after node_1_joins joined 1 57 refl members_after_the_end.0 (λ correct. members_after_the_end.1) (λ correct. members_after_the_end.2)

stands_not_before_the_end : StandsAfter node_1_joins joined 1 56 → ⊥
unfolding detector_row
stands_not_before_the_end stands = false≢true (stands.member 0 (record { there = lit< tt; running = refl }))

-- ---- by the start of a cycle, or after it

-- An ask that is carried in the slot of the start counts in this cycle, and one that is carried
-- later in the next.
abbrev joins_at : ℕ → ScenarioParts
joins_at slot = two 96 1 [] (asks_at slot 1 ∷ []) []

outside_at_the_start : AreWithoutNode1 (joins_at 37) (run_of (joins_at 37)) 38
unfolding detector_row
outside_at_the_start = (refl, refl)

join_in_the_slot_of_the_start : JoinWasCarried (joins_at 37) (run_of (joins_at 37)) 1 1
unfolding detector_row
join_in_the_slot_of_the_start =
    join_was_carried (joins_at 37) (run_of (joins_at 37)) 38 0 1 refl (57, lit< tt, refl) (lit< tt) (lit≤ tt) outside_at_the_start

join_after_the_start : Contains (run_of (joins_at 38)).trace (its_ask 41 1)
unfolding detector_row
join_after_the_start = (54, lit< tt, refl)

-- the vectors of cycles 1 and 2 at both nodes, in each of the two runs
vectors_by_the_slot_of_the_join :
    map (λ slot. map (λ i. map (installed (joins_at slot) (run_of (joins_at slot)) i) (1 ∷ 2 ∷ [])) (0 ∷ 1 ∷ [])) (37 ∷ 38 ∷ [])
    ≡ replicate 2 (Some (set 3) ∷ Some (set 3) ∷ []) ∷ replicate 2 (Some (set 1) ∷ Some (set 3) ∷ []) ∷ []
unfolding detector_row
vectors_by_the_slot_of_the_join = refl

-- ---- a node that was admitted in the cycle before

-- Node 1 asks twice to join: its first ask counts in cycle 1, and its second, carried while the
-- vectors of this are exchanged, in cycle 2. It asks to leave in slot 60, when it is a member. So
-- it stands in the vector of cycle 1, and not in that of cycle 2.
abbrev joins_and_leaves : ScenarioParts
joins_and_leaves = two 96 1 [] (asks_at 10 1 ∷ asks_at 44 1 ∷ []) (asks_at 60 1 ∷ [])

abbrev left : RunState
left = run_of joins_and_leaves

leaving_is_legal : IsLegalScenario joins_and_leaves
unfolding detector_row
leaving_is_legal = two_is_legal 96 1 [] (asks_at 10 1 ∷ asks_at 44 1 ∷ []) (asks_at 60 1 ∷ []) (lit≤ tt) (lit≤ tt) (lit< tt) (record {
  rules = tt;
  one_rule = lit≤ tt;
  joins = ((lit< tt, lit< tt), ((lit< tt, lit< tt), tt));
  few_joins = lit≤ tt;
  leaves = ((lit< tt, lit< tt), tt);
  few_leaves = lit≤ tt;
})

leaving_is_within : IsWithin joins_and_leaves.params left.trace
unfolding detector_row
leaving_is_within = (first_break_exact joins_and_leaves.params left.trace).0 refl

outside_before_the_second_join : AreWithoutNode1 joins_and_leaves left 45
unfolding detector_row
outside_before_the_second_join = (refl, refl)

second_join_is_carried : JoinWasCarried joins_and_leaves left 1 2
unfolding detector_row
second_join_is_carried = join_was_carried joins_and_leaves left 45 1 2 refl (50, lit< tt, refl) (lit< tt) (lit≤ tt) outside_before_the_second_join

-- the vectors of cycles 1 and 2
installed_at_node_0 : (installed joins_and_leaves left 0 (2 - 1) ≡ Some (set 3)) × (installed joins_and_leaves left 0 2 ≡ Some (set 1))
unfolding detector_row
installed_at_node_0 = (refl, refl)

installed_at_node_1 : (installed joins_and_leaves left 1 (2 - 1) ≡ Some (set 3)) × (installed joins_and_leaves left 1 2 ≡ Some (set 1))
unfolding detector_row
installed_at_node_1 = (refl, refl)

abbrev HadLeft : ℕ → Nodes → Type 0
HadLeft i v = (has v 1 ≡ true) ⊎ ((1 < 2) × ((w : Nodes) × (installed joins_and_leaves left i (2 - 1) ≡ Some w) × (has w 1 ≡ true)))

it_was_admitted_before : IsAdmitted joins_and_leaves left 1 2
it_was_admitted_before =
    each_correct joins_and_leaves left (λ i. (v : Nodes) → installed joins_and_leaves left i 2 ≡ Some v → HadLeft i v) refl
    (λ correct. of_installed (HadLeft 0) (installed joins_and_leaves left 0 2) (set 1) installed_at_node_0.1
    (inr (lit< tt, (set 3, installed_at_node_0.0, node_1_is_in_it.0))))
    (λ correct. of_installed (HadLeft 1) (installed joins_and_leaves left 1 2) (set 1) installed_at_node_1.1
    (inr (lit< tt, (set 3, installed_at_node_1.0, node_1_is_in_it.0))))

-- ---- a node that is not admitted

-- Node 2 asks to join, and node 1 rejects the first frame of its ask. The node may stop with that.
unfoldable node_2_joins : ℕ → ScenarioParts
node_2_joins stop = with_asks (asks_at 10 2 ∷ []) [] (of_members 3 (scenario (three 109 1 2) [] (slot_rule 11 (Partial (set 2)) stop ∷ [])))

-- whether node 0 runs at the end of a run of it, and the vector that it installs in cycle 1
abbrev seen_at_node_0 : ScenarioParts → RunState → Bool × Option Nodes
seen_at_node_0 sc s = (runs (node_at s.nodes 0), installed sc s 0 1)

vector_without_node_2 : seen_at_node_0 (node_2_joins 4) (run_of (node_2_joins 4)) ≡ (true, Some (set 3))
unfolding detector_row node_2_joins
vector_without_node_2 = refl

node_2_is_not_in_it : has (set 3) 2 ≡ false
unfolding detector_row
node_2_is_not_in_it = refl

there_are_three : 0 < (node_2_joins 4).params.nodes
unfolding detector_row node_2_joins
there_are_three = lit< tt

-- If it stops, its ask was carried Partial alone, and no vector has it.
partial_join_admits_nobody : IsAdmitted (node_2_joins 4) (run_of (node_2_joins 4)) 2 1 → ⊥
partial_join_admits_nobody says =
    let runs_on : runs (node_at (run_of (node_2_joins 4)).nodes 0) ≡ true = ap (λ (seen : Bool × Option Nodes). seen.0) vector_without_node_2 in
    let installs : installed (node_2_joins 4) (run_of (node_2_joins 4)) 0 1 ≡ Some (set 3) = ap (λ (seen : Bool × Option Nodes). seen.1) vector_without_node_2 in
    elim (says 0 (record { there = there_are_three; running = runs_on }) (set 3) installs) [
      | inl h ↦ false≢true (sym node_2_is_not_in_it ∙ h)
      | inr h ↦ absurd (omega (arith, h.0))
    ]
