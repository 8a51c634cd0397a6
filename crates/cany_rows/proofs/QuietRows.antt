-- Worked rows of the quiet slot, of the slots that make a node ask, and of what a window carries.
use Rattle.std.specs.Prelude.{ℕ, zero, suc, ◌+◌, ◌≡◌, ◌<◌, ◌≤◌, ◌&&◌, ◌||◌, nat_lt, ◌++◌, Bool, true, false, if◌then◌else◌, List, [], ◌∷◌, Option, Some, None, count_by, drop, map, option_map, refl, replicate, take, codes}
use Rattle.std.specs.List.{list_any, range_with_len}
use Rattle.std.proofs.Common.{inl, inr, ap, arith, lit≤, sym, ◌∙◌}
use Rattle.std.proofs.lemmas.Bool.{and_parts, false≢true, ltb-true, or_cases, true≢false}
use Rattle.std.proofs.lemmas.Int.{clamps}
use Rattle.std.proofs.lemmas.List.{length-take}
use Rattle.std.proofs.lemmas.List.Sums.{count_by-le-length}
use Rattle.cany_base.specs.declared.class.Class.TheVariants as class
use Rattle.cany_base.specs.declared.rule.Verdict.TheVariants.{Clean, Lost, Partial, Silent}
use Rattle.cany_base.specs.declared.slot_note.SlotNote.{SlotNote}
use Rattle.cany_base.specs.declared.step.Step.{Step}
use Rattle.cany_base.specs.Frame.{FrameParts}
use Rattle.cany_base.specs.Params.{Parameters}
use Rattle.cany_base.specs.Scenario.{ScenarioParts}
use Rattle.cany_model.specs.Bus.Frames.{identity_of}
use Rattle.cany_model.specs.Runs.Run.{run, slot_state, slot_state_from}
use Rattle.cany_model.specs.Bus.State.{RunState, node_at, runs}
use Rattle.cany_model.specs.Promises.Quiet.{HasFewAskingSlots, HasQuietSlots, IsQuiet, WasQuiet, asks_as, asks_at, asks_for_first_class, is_top, makes_ask, most_asking}
use Rattle.cany_model.specs.Promises.Windows.{HasFew, HasFewAccepts, HasFewLifeSigns, HasFewTotFrames, HasFewVectors, is_clean_of}
use Rattle.cany_model.specs.Rules.Effect.{Ask, Withdraw}
use Rattle.cany_rows.proofs.OrderRows.{early_row, late_reader, order_row, starved, starved_journal}
use Rattle.cany_rows.proofs.RowWords.{accept, carries, ed, first_accept, first_tot, idle, one_tot, report, scenario, set, slot_rule, steps, three, tot, run_of}
use Rattle.cany_rows.proofs.Site.SiteWords.{classes, els, of_members, rha, rounds_of, site_row}

-- ---- what a row is written with

-- of a running node in a state: whether it waits with a frame of the classes that win over all
-- others, and for each notice that it has not read, the newest first, whether this will make it ask
-- for such a frame but a life sign
abbrev first_frames : ScenarioParts → RunState → ℕ → Bool × List Bool
first_frames sc s i =
    if runs (node_at s.nodes i)
    then (list_any (λ f. is_top f.class) (node_at s.nodes i).waiting, map (asks_at sc s i) (range_with_len 0 (node_at s.nodes i).unread))
    else (false, [])

-- of the state in which a slot is run, for each node
unfoldable in_slot : ScenarioParts → List Step → ℕ → Option (List (Bool × List Bool))
unfolding report slot_state_from asks_as
in_slot sc journal t = option_map (λ s. map (first_frames sc s) (range_with_len 0 sc.params.nodes)) (slot_state sc t journal)

-- for each of so many newest slots of a run, the newest first, whether its notice makes a node ask
unfoldable asking : ScenarioParts → ℕ → List Step → List Bool
unfolding report asks_as
asking sc slots journal = let s = run sc journal in map (makes_ask sc s) (range_with_len 0 slots)

unfoldable quiet_row : Unit {0}
unfolding site_row order_row in_slot asking late_reader
quiet_row = tt

-- ---- the classes

classes_that_win : map is_top classes ≡ true ∷ true ∷ true ∷ replicate 7 false
unfolding quiet_row
classes_that_win = refl

-- of them a node is not said to ask for life signs, nor by a withdrawal
asks_that_count :
    map (λ f. asks_for_first_class (Ask f)) (first_accept ∷ rha 0 1 7 ∷ els 0 1 ∷ first_tot ∷ []) ++ asks_for_first_class (Withdraw (identity_of first_accept)) ∷ []
    ≡ true ∷ true ∷ false ∷ false ∷ false ∷ []
unfolding quiet_row
asks_that_count = refl

-- ---- a quiet slot

-- The run of row `totcan_accept_under_lag`. In slot 2 node 0 waits with the frame that accepts its
-- message. In slot 3 nobody waits, but node 3 has not read that frame, and will ask for it. In slot
-- 4 it waits with it, and in slot 5 the others. Slots 0, 1 and 6 are quiet.
quiet_under_lag :
    map (in_slot late_reader (steps (codes ".012.0123.123.123.123.123."))) (0 ∷ 1 ∷ 2 ∷ 3 ∷ 4 ∷ 5 ∷ 6 ∷ 7 ∷ [])
    ≡ Some ((false, []) ∷ (false, []) ∷ (false, []) ∷ (false, []) ∷ [])
    ∷ Some ((false, []) ∷ (false, []) ∷ (false, []) ∷ (false, false ∷ []) ∷ [])
    ∷ Some ((true, []) ∷ (false, []) ∷ (false, []) ∷ (false, false ∷ []) ∷ [])
    ∷ Some ((false, []) ∷ (false, []) ∷ (false, []) ∷ (false, true ∷ []) ∷ [])
    ∷ Some ((false, []) ∷ (false, []) ∷ (false, []) ∷ (true, false ∷ []) ∷ [])
    ∷ Some ((false, []) ∷ (true, []) ∷ (true, []) ∷ (false, false ∷ []) ∷ [])
    ∷ Some ((false, []) ∷ (false, []) ∷ (false, []) ∷ (false, false ∷ []) ∷ [])
    ∷ None ∷ []
unfolding quiet_row
quiet_under_lag = refl

-- The slots whose notices make a node ask, from the newest back to the opening and beyond: slot 4,
-- which nodes 1 and 2 got, slot 2, which node 3 got, and slot 1, at which node 0 asked, which is
-- stopped. In slot 5 all have enough copies.
asking_under_lag :
    asking late_reader 8 (steps (codes ".012.0123.123.123.123.123"))
    ≡ false ∷ true ∷ false ∷ true ∷ true ∷ false ∷ false ∷ false ∷ []
unfolding quiet_row
asking_under_lag = refl

-- it counts in each of these states: before it has read the notice, after, and once it has stopped
-- in slot 2
asking_of_the_origin :
    map (λ journal. asking late_reader 3 (steps journal)) (codes ".012." ∷ codes ".012.0123" ∷ codes ".012.0123." ∷ [])
    ≡ (true ∷ false ∷ false ∷ []) ∷ (true ∷ false ∷ false ∷ []) ∷ (true ∷ true ∷ false ∷ []) ∷ []
unfolding quiet_row
asking_of_the_origin = refl

-- So slot 6 was run in a quiet state. Node 0 waits with its frame for ever, but is stopped.
unfoldable before_slot_6 : RunState
before_slot_6 = run late_reader (steps (codes ".012.0123.123.123.123.123"))

nobody_waits_in_6 : (i : ℕ) → runs (node_at before_slot_6.nodes i) ≡ true
    → list_any (λ f. is_top f.class) (node_at before_slot_6.nodes i).waiting ≡ false
unfolding quiet_row before_slot_6
nobody_waits_in_6 zero running = absurd (false≢true running)
nobody_waits_in_6 (suc zero) running = refl
nobody_waits_in_6 (suc (suc zero)) running = refl
nobody_waits_in_6 (suc (suc (suc zero))) running = refl
nobody_waits_in_6 (suc (suc (suc (suc i)))) running = refl

not_below_0 : {P : Type 0} (k : ℕ) → k < 0 → P
not_below_0 k below = absurd (omega (arith, below))

nobody_asks_in_6 : (i : ℕ) → runs (node_at before_slot_6.nodes i) ≡ true → (age : ℕ) → age < (node_at before_slot_6.nodes i).unread
    → asks_at late_reader before_slot_6 i age ≡ false
unfolding quiet_row before_slot_6
nobody_asks_in_6 zero running age below = absurd (false≢true running)
nobody_asks_in_6 (suc zero) running age below = not_below_0 age below
nobody_asks_in_6 (suc (suc zero)) running age below = not_below_0 age below
nobody_asks_in_6 (suc (suc (suc zero))) running zero below = refl
nobody_asks_in_6 (suc (suc (suc zero))) running (suc age) below = absurd (omega (arith, below))
nobody_asks_in_6 (suc (suc (suc (suc i)))) running age below = absurd (false≢true running)

slot_6_was_quiet : WasQuiet late_reader (steps (codes ".012.0123.123.123.123.123.")) 6
unfolding quiet_row before_slot_6
slot_6_was_quiet = record { state = before_slot_6; ran = refl; quiet = record { waits = nobody_waits_in_6; asks = nobody_asks_in_6 } }

-- ---- vectors and life signs

-- Two of three nodes are members. A cycle starts in slot 8, a message closes 3 slots after its
-- place, and life signs come far off.
unfoldable two_members : ScenarioParts
two_members =
    of_members 3 (scenario (record (three 20 1 2) { lag = 1; bound = 3; cycle = 8; life = 60; silence = 90 }) [] [])

-- In slot 9 the members have not read the start of the cycle, and will ask for their vectors; in
-- slot 10 they wait with them. Node 2 has none, and will ask at the first that it gets: that of
-- slot 10, which it has not read in slot 11.
vectors_are_waited_for :
    map (in_slot two_members (steps (rounds_of 8 (codes ".012") ++ codes "..012.012."))) (8 ∷ 9 ∷ 10 ∷ 11 ∷ [])
    ≡ Some ((false, []) ∷ (false, []) ∷ (false, []) ∷ [])
    ∷ Some ((false, true ∷ []) ∷ (false, true ∷ []) ∷ (false, false ∷ []) ∷ [])
    ∷ Some ((true, false ∷ []) ∷ (true, false ∷ []) ∷ (false, false ∷ []) ∷ [])
    ∷ Some ((false, false ∷ []) ∷ (true, false ∷ []) ∷ (false, true ∷ []) ∷ []) ∷ []
unfolding quiet_row two_members
vectors_are_waited_for = refl

-- slot 8 makes the members ask, and slot 10 node 2
asking_for_vectors :
    asking two_members 12 (steps (rounds_of 8 (codes ".012") ++ codes "..012.012."))
    ≡ false ∷ true ∷ false ∷ true ∷ replicate 8 false
unfolding quiet_row two_members
asking_for_vectors = refl

-- Life signs are due in the turn of slot 4. A notice that makes a node ask for one does not count:
-- slot 5 is quiet, and slot 6, in which they wait, is not.
life_signs_are_waited_for :
    (let sc = of_members 3 (scenario (record (three 20 1 2) { lag = 1; bound = 3; cycle = 8; life = 4; silence = 90 }) [] []) in
    map (in_slot sc (steps (rounds_of 4 (codes ".012") ++ codes "..012."))) (5 ∷ 6 ∷ [])
    ≡ Some ((false, false ∷ []) ∷ (false, false ∷ []) ∷ (false, false ∷ []) ∷ [])
    ∷ Some ((true, false ∷ []) ∷ (true, false ∷ []) ∷ (false, false ∷ []) ∷ []) ∷ [])
unfolding quiet_row
life_signs_are_waited_for = refl

-- ---- a restarted node

-- Node 2 starts again in slot 0, and takes part from slot 4 on. The frame of slot 2 accepts the
-- message: neither node has read it in slot 3, and it makes node 1 ask, but not node 2, from which
-- it is hidden.
hidden_notice_makes_no_node_ask :
    (let sc = record (scenario (record (three 9 1 2) { lag = 1; bound = 2 }) one_tot (slot_rule 0 Clean 4 ∷ [])) {
      restarts = record { slot = 0; node = 2 } ∷ [];
    } in
    map (in_slot sc (steps (codes ".01.012.0."))) (2 ∷ 3 ∷ [])
    ≡ Some ((true, []) ∷ (false, []) ∷ (false, []) ∷ [])
    ∷ Some ((false, []) ∷ (false, true ∷ []) ∷ (false, false ∷ []) ∷ []) ∷ [])
unfolding quiet_row
hidden_notice_makes_no_node_ask = refl

-- ---- windows

-- of each class, in the order of the classes, how many of the slots carried a frame of it Clean
unfoldable clean_counts : List SlotNote → List ℕ
clean_counts trace = map (λ c. count_by (is_clean_of c) trace) classes

-- Each of the four classes that a window is counted for has one Clean slot, and slots of other
-- verdicts. An idle slot is Clean, and carried none.
unfoldable mixed : List SlotNote
mixed =
    carries 12 first_tot 1 6 Clean 0 ∷ idle 11 0 ∷ carries 10 first_tot 1 2 (Partial (set 4)) 0 ∷ carries 9 (els 1 0) 2 5 Clean 0
    ∷ carries 8 (els 1 0) 2 0 Lost 0 ∷ carries 7 (rha 2 1 7) 4 3 Clean 0 ∷ carries 6 (rha 1 1 7) 2 1 (Partial (set 4)) 0
    ∷ carries 5 (rha 0 1 7) 1 2 (Silent (set 4)) 0 ∷ carries 4 first_accept 6 1 Clean 0 ∷ carries 3 first_accept 1 2 (Partial (set 4)) 0
    ∷ carries 2 first_accept 1 0 Lost 0 ∷ carries 1 (ed 0 1 []) 1 6 Clean 0 ∷ idle 0 0 ∷ []

each_is_counted_once : clean_counts mixed ≡ 1 ∷ 1 ∷ 1 ∷ 0 ∷ 0 ∷ 0 ∷ 0 ∷ 1 ∷ 0 ∷ 1 ∷ []
unfolding quiet_row clean_counts mixed
each_is_counted_once = refl

-- the slots that a window of 3 + 1 slots has, as it goes back over 6 slots: it is shorter at the
-- opening
windows_of_4_slots :
    (let trace = map (λ seq. carries seq (accept 0 seq) 1 6 Clean 0) (5 ∷ 4 ∷ 3 ∷ 2 ∷ 1 ∷ 0 ∷ []) in
    let p = record (three 9 1 2) { lag = 1; bound = 3 } in
    map (λ newest. count_by (is_clean_of class.Accept) (take (p.bound + p.lag) (drop newest trace))) (range_with_len 0 8)
    ≡ 4 ∷ 4 ∷ 4 ∷ 3 ∷ 2 ∷ 1 ∷ 0 ∷ 0 ∷ [])
unfolding quiet_row
windows_of_4_slots = refl

-- ---- the most that a window has, where two nodes are on the bus

-- so many slots, each of which carried another frame Clean
unfoldable clean_slots : (ℕ → FrameParts) → ℕ → List SlotNote
clean_slots frame zero = []
clean_slots frame (suc n) = carries n (frame n) 1 2 Clean 0 ∷ clean_slots frame n

-- a window has so many slots and one more
unfoldable window_of : ℕ → Parameters
window_of slots = record (three 99 1 2) { nodes = 2; bound = slots; lag = 1 }

unfoldable window_row : Unit {0}
unfolding quiet_row clean_slots window_of
window_row = tt

not_one_more : (n : ℕ) → n + 1 ≤ n → ⊥
not_one_more n below = omega (arith, below)

-- 8 frames that accept, 6 vectors, 2 life signs and 2 data frames of TOTCAN are allowed, and not
-- one more
nine_accepts_are_too_many : HasFewAccepts (window_of 8) (clean_slots (accept 0) 9) → ⊥
unfolding window_row
nine_accepts_are_too_many few = not_one_more 8 (few 0)

seven_vectors_are_too_many : HasFewVectors (window_of 6) (clean_slots (λ cycle. rha 0 cycle 3) 7) → ⊥
unfolding window_row
seven_vectors_are_too_many few = not_one_more 6 (few 0)

three_life_signs_are_too_many : HasFewLifeSigns (window_of 2) (clean_slots (els 0) 3) → ⊥
unfolding window_row
three_life_signs_are_too_many few = not_one_more 2 (few 0)

three_data_frames_are_too_many : HasFewTotFrames (window_of 2) (clean_slots (λ seq. tot 0 seq []) 3) → ⊥
unfolding window_row
three_data_frames_are_too_many few = not_one_more 2 (few 0)

-- a window has no more frames than slots
few_in_a_short_window : (test : SlotNote → Bool) (most : ℕ) (p : Parameters) (trace : List SlotNote)
    → p.bound + p.lag ≤ most → HasFew test most p trace
few_in_a_short_window test most p trace short newest =
    let window = take (p.bound + p.lag) (drop newest trace) in
    let size = length-take (p.bound + p.lag) (drop newest trace) in
    omega (arith, clamps, count_by-le-length test window, size, short)

as_many_are_allowed :
    (trace : List SlotNote) → HasFewAccepts (window_of 7) trace × HasFewVectors (window_of 5) trace × HasFewLifeSigns (window_of 1) trace
    × HasFewTotFrames (window_of 1) trace
unfolding window_row
as_many_are_allowed trace = (
  few_in_a_short_window _ _ (window_of 7) trace (lit≤ tt),
  few_in_a_short_window _ _ (window_of 5) trace (lit≤ tt),
  few_in_a_short_window _ _ (window_of 1) trace (lit≤ tt),
  few_in_a_short_window _ _ (window_of 1) trace (lit≤ tt),
)

-- how many life signs the newest window of a run of three members has, by the slots between two
-- life signs of a node
unfoldable life_signs : ℕ → ℕ
life_signs life =
    let sc = of_members 7 (scenario (record (three 60 1 2) { life = life; silence = 200 }) [] []) in
    count_by (is_clean_of class.Els) (take (sc.params.bound + sc.params.lag) (run_of sc).trace)

-- each node shows life once in a window of 36 slots, where the formulas are met, and else more
-- often
life_signs_in_a_window : map life_signs (36 ∷ 12 ∷ []) ≡ 3 ∷ 9 ∷ []
unfolding quiet_row life_signs
life_signs_in_a_window = refl

-- for three nodes and two errors 33 frames of the top classes, and 6 slots more
most_that_ask : most_asking (three 9 1 2) ≡ 39
unfolding quiet_row
most_that_ask = refl

-- ---- a bound that is too small

-- The run of row `bound_too_small_breaks_the_order`: of the slots 2, 3 and 4, as many as the bound
-- has, none is quiet.
none_is_quiet :
    map (in_slot starved starved_journal) (2 ∷ 3 ∷ 4 ∷ [])
    ≡ Some ((false, []) ∷ (false, true ∷ []) ∷ (false, []) ∷ [])
    ∷ Some ((true, []) ∷ (true, false ∷ []) ∷ (false, []) ∷ [])
    ∷ Some ((false, []) ∷ (true, true ∷ []) ∷ (true, []) ∷ []) ∷ []
unfolding quiet_row early_row
none_is_quiet = refl

-- node 1 runs, and waits with such a frame or will ask for one at the newest notice
abbrev is_node_1_busy : RunState → Bool
is_node_1_busy s =
    runs (node_at s.nodes 1)
    && (list_any (λ f. is_top f.class) (node_at s.nodes 1).waiting || nat_lt 0 (node_at s.nodes 1).unread && asks_at starved s 1 0)

busy_is_not_quiet : (s : RunState) → is_node_1_busy s ≡ true → IsQuiet starved s → ⊥
busy_is_not_quiet s busy quiet =
    let parts = and_parts (runs (node_at s.nodes 1)) _ busy in
    elim (or_cases (list_any (λ f. is_top f.class) (node_at s.nodes 1).waiting) _ parts.1) [
      | inl waits ↦ true≢false (sym waits ∙ quiet.waits 1 parts.0)
      | inr asks ↦
          let ask = and_parts (nat_lt 0 (node_at s.nodes 1).unread) _ asks in
          true≢false (sym ask.1 ∙ quiet.asks 1 parts.0 0 (ltb-true 0 (node_at s.nodes 1).unread ask.0))
    ]

abbrev is_busy_in : Option RunState → Bool
is_busy_in None = false
is_busy_in (Some s) = is_node_1_busy s

-- a slot in whose state node 1 is busy was run in no quiet one
busy_slot : (t : ℕ) → is_busy_in (slot_state starved t starved_journal) ≡ true → WasQuiet starved starved_journal t → ⊥
busy_slot t busy was = busy_is_not_quiet was.state (sym (ap is_busy_in was.ran) ∙ busy) was.quiet

never_quiet : (t : ℕ) → 2 ≤ t → t < 5 → WasQuiet starved starved_journal t → ⊥
unfolding quiet_row early_row
never_quiet zero from to was = absurd (omega (arith, from))
never_quiet (suc zero) from to was = absurd (omega (arith, from))
never_quiet (suc (suc zero)) from to was = busy_slot 2 refl was
never_quiet (suc (suc (suc zero))) from to was = busy_slot 3 refl was
never_quiet (suc (suc (suc (suc zero)))) from to was = busy_slot 4 refl was
never_quiet (suc (suc (suc (suc (suc t))))) from to was = absurd (omega (arith, to))

bound_too_small_leaves_no_quiet_slot : HasQuietSlots starved starved_journal → ⊥
unfolding quiet_row early_row
bound_too_small_leaves_no_quiet_slot has = let found = has 2 (lit≤ tt) in never_quiet found.0 found.1 found.2 found.3

-- ---- cycles that are too short

-- Two members start a cycle in each second slot, of which 19 may make a node ask in a window.
unfoldable short_of_two : ScenarioParts
short_of_two = of_members 3 (scenario (record (three 42 1 0) { nodes = 2; lag = 60; bound = 1; cycle = 2; life = 99; silence = 199 }) [] [])

too_many_slots_make_a_node_ask : HasFewAskingSlots short_of_two (run_of short_of_two) → ⊥
unfolding quiet_row short_of_two
too_many_slots_make_a_node_ask few = not_one_more 19 (few 0)
