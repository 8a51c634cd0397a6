-- What rows are written with that show the premise of a law, or what a law says, of a run: what a
-- row has computed of it, its incarnations, and its slots.
use Rattle.std.specs.Prelude.{ℕ, zero, suc, ◌+◌, ◌*◌, ◌≤◌, ◌<◌, ◌==◌, ◌&&◌, ◌≡◌, Bool, true, false, List, [], ◌∷◌, Contains, Option, Some, None, drop, map, take, refl}
use Rattle.std.specs.List.{AllByRecursion, list_all, list_any, range_with_len}
use Rattle.std.proofs.Common.{ap, arith, inl, inr, ◌∙◌, subst, sym}
use Rattle.std.proofs.lemmas.Bool.{and_parts, both_ways, cases_eq, false_from_ne_true, false≢true, or_left, or_right}
use Rattle.std.proofs.lemmas.Option.{none-some, same_Some}
use Rattle.cany_base.specs.declared.class.Class.TheVariants as class
use Rattle.cany_base.specs.declared.log_entry.LogEntry.{LogEntry}
use Rattle.cany_base.specs.declared.log_entry.LogEntry.TheVariants.{Deliver, Failed, View}
use Rattle.cany_base.specs.declared.notice.NoticeKind.{NoticeKind}
use Rattle.cany_base.specs.declared.notice.NoticeKind.TheVariants.{Idle, Got, Sent, Bad}
use Rattle.cany_base.specs.declared.slot_note.SlotNote.{SlotNote}
use Rattle.cany_base.specs.declared.step.Step.{Step}
use Rattle.cany_base.specs.Frame.{FrameParts}
use Rattle.cany_base.specs.Nodes.{Nodes}
use Rattle.cany_base.specs.Scenario.{ScenarioParts}
use Rattle.cany_model.specs.Bus.Frames.{same_class}
use Rattle.cany_model.specs.Bus.History.{given}
use Rattle.cany_model.specs.Bus.Slot.{carried}
use Rattle.cany_model.specs.Bus.State.{EndedIncarnation, RunState, node_at, original}
use Rattle.cany_model.specs.Promises.Hypothesis.{IsWithin}
use Rattle.cany_model.specs.Runs.Incarnations.{incarnations}
use Rattle.cany_model.specs.Runs.RoundRobin.{round_robin}
use Rattle.cany_model.specs.Runs.Run.{run}
use Rattle.cany_model.proofs.Among.{Among, Among-drop, Among-from_Contains, Among-map, Among-weaker, Contains-cons, Contains-from_Among, Contains-head, Each-of, any-from_Among}
use Rattle.cany_model.proofs.Bus.Carried.{is_carried}
use Rattle.cany_model.proofs.Bus.Notes.{given-Got}
use Rattle.cany_model.proofs.Promises.BreakFacts.{first_break_exact}
use Rattle.cany_model.proofs.Timed.Views.LoggedViews.{installed_read}
use Rattle.cany_laws.specs.Logs.{IsIncarnation, followed_by, past_of, present_of}
use Rattle.cany_laws.specs.Removal.{GaveNoJoin, got_join}
use Rattle.cany_laws.specs.Views.{installed_as}
use Rattle.cany_laws.proofs.Members.EachView.{past_length}
use Rattle.cany_laws.proofs.Silences.Lives.{lived}
use Rattle.cany_law_rows.proofs.RowWords.{of_nodes, seen_by, seen_in, seen_of, seen_of_is, within, Seen}

-- ---- what a row has computed

-- the run of a scenario by the round robin journal
abbrev pub run_of : ScenarioParts → RunState
run_of sc = run sc (round_robin sc)

-- what a row says of it
pub asked_of : {A : Type 0} (ask : RunState → A) (sc : ScenarioParts) (found : Seen A) → seen_of ask sc ≡ found → ask (run_of sc) ≡ found.seen
unfolding seen_by seen_in
asked_of {A = A} ask sc found row = ap (λ (x : Seen A). x.seen) (sym (seen_of_is ask sc) ∙ row)

-- and of the run of another journal
pub asked_by : {A : Type 0} (ask : RunState → A) (sc : ScenarioParts) (journal : List Step) (found : Seen A) → seen_by ask sc journal ≡ found
    → ask (run sc journal) ≡ found.seen
unfolding seen_by seen_in
asked_by {A = A} ask sc journal found row = ap (λ (x : Seen A). x.seen) row

pub is_within : {A : Type 0} (ask : RunState → A) (sc : ScenarioParts) (answer : A) → seen_of ask sc ≡ within answer
    → IsWithin sc.params (run_of sc).trace
unfolding seen_by seen_in
is_within {A = A} ask sc answer row = (first_break_exact sc.params (run_of sc).trace).0 (ap (λ (x : Seen A). x.broken) (sym (seen_of_is ask sc) ∙ row))

-- ---- incarnations

-- the earlier one of a node that has one
pub is_earlier : (sc : ScenarioParts) (s : RunState) (i : ℕ) (e : EndedIncarnation) → i < sc.params.nodes → (node_at s.nodes i).ended ≡ e ∷ []
    → IsIncarnation sc s i e
is_earlier sc s i e there ended =
    record { there = there; stands = subst (λ all. Contains (present_of s i ∷ all) e) (sym ended) (Contains-cons (present_of s i) e (e ∷ []) (Contains-head e [])) }

-- the incarnation of the opening, which stopped in a slot and had read all before it
abbrev pub stopped_in : ℕ → EndedIncarnation
stopped_in slot = record { incarnation = original; next = slot; stopped = Some slot }

pub is_present : (sc : ScenarioParts) (s : RunState) (i : ℕ) → i < sc.params.nodes → IsIncarnation sc s i (present_of s i)
is_present sc s i there = record { there = there; stands = Contains-head (present_of s i) (node_at s.nodes i).ended }

-- of each answer of each list this holds, of the first list for this node
abbrev pub HoldsFrom : {A : Type 0} → (ℕ → A → Type 0) → ℕ → List (List A) → Type 0
HoldsFrom P i [] = Unit {0}
HoldsFrom P i (answers ∷ lists) = AllByRecursion (P i) answers × HoldsFrom P (i + 1) lists

in_range : {A : Type 0} (P : ℕ → A → Type 0) (answers : ℕ → List A) (first n : ℕ) → HoldsFrom P first (map answers (range_with_len first n))
    → (i : ℕ) → first ≤ i → i < first + n → AllByRecursion (P i) (answers i)
in_range P answers first zero holds i from below = absurd (omega (arith, from, below))
in_range P answers first (suc n) holds i from below = elim (cases_eq first i) [
  | inl same ↦ subst (λ j. AllByRecursion (P j) (answers j)) same holds.0
  | inr other ↦ in_range P answers (first + 1) n holds.1 i (omega (arith, from, other)) (omega (arith, below))
]

-- what holds of the answers that a row has computed for all incarnations of all nodes holds of each
pub of_each : {A : Type 0} (P : ℕ → A → Type 0) (ask : RunState → ℕ → EndedIncarnation → A) (sc : ScenarioParts) (s : RunState) (lists : List (List A))
    → of_nodes ask sc.params.nodes s ≡ lists → HoldsFrom P 0 lists → (i : ℕ) (e : EndedIncarnation) → IsIncarnation sc s i e → P i (ask s i e)
of_each P ask sc s lists same holds i e is =
    let below : i < sc.params.nodes = is.there in
    let all = in_range P (λ j. map (ask s j) (incarnations s j)) 0 sc.params.nodes (subst (HoldsFrom P 0) (sym same) holds) i (omega arith) (omega (arith, below)) in
    Each-of (P i) (ask s i e) (map (ask s i) (incarnations s i)) all
    (Among-map (ask s i) (λ y. y ≡ ask s i e) (incarnations s i)
    (Among-weaker (λ f. f ≡ e) (λ f. ask s i f ≡ ask s i e) (λ f is_e. ap (ask s i) is_e) (incarnations s i)
    (Among-from_Contains (incarnations s i) e is.stands)))

-- ---- slots

-- what holds of each number of a stretch
pub each_of : (test : ℕ → Bool) (first n : ℕ) → list_all test (range_with_len first n) ≡ true → (t : ℕ) → first ≤ t → t < first + n → test t ≡ true
each_of test first zero all t from below = absurd (omega (arith, from, below))
each_of test first (suc n) all t from below =
    let parts = and_parts (test first) (list_all test (range_with_len (first + 1) n)) all in
    elim (cases_eq first t) [
      | inl same ↦ subst (λ u. test u ≡ true) same parts.0
      | inr other ↦ each_of test (first + 1) n parts.1 t (omega (arith, from, other)) (omega (arith, below))
    ]

-- and what none of them has
pub none_of : (test : ℕ → Bool) (first n : ℕ) → list_any test (range_with_len first n) ≡ false → (t : ℕ) → first ≤ t → t < first + n → test t ≡ false
none_of test first zero none t from below = absurd (omega (arith, from, below))
none_of test first (suc n) none t from below = elim (cases_eq first t) [
  | inl same ↦ subst (λ u. test u ≡ false) same
      (false_from_ne_true (test first) (λ has. both_ways (list_any test (range_with_len first (suc n))) none (or_left (test first) _ has)))
  | inr other ↦
      none_of test (first + 1) n
      (false_from_ne_true (list_any test (range_with_len (first + 1) n)) (λ has.
      both_ways (list_any test (range_with_len first (suc n))) none (or_right (test first) _ has)))
      t (omega (arith, from, other)) (omega (arith, below))
]

-- what holds of the first three numbers
pub below_three : (P : ℕ → Type 0) → P 0 → P 1 → P 2 → (k : ℕ) → k < 3 → P k
below_three P none one two zero below = none
below_three P none one two (suc zero) below = one
below_three P none one two (suc (suc zero)) below = two
below_three P none one two (suc (suc (suc k))) below = absurd (omega (arith, below))

-- the note of this age
pub note_in : (trace : List SlotNote) (age : ℕ) (note : SlotNote) → take 1 (drop age trace) ≡ note ∷ [] → Contains trace note
note_in trace age note same =
    Contains-from_Among trace note (Among-drop (λ n. n ≡ note) age trace (first_of (drop age trace) same))
  where
    first_of : (notes : List SlotNote) → take 1 notes ≡ note ∷ [] → Among (λ n. n ≡ note) notes
    first_of [] none = absurd (cc)
    first_of (n ∷ notes) one = let here : n ≡ note = cc in inl here

-- what no note of the trace has, each lacks
pub none_has : (test : SlotNote → Bool) (trace : List SlotNote) → list_any test trace ≡ false → (note : SlotNote) → Contains trace note → test note ≡ false
none_has test trace none note stands =
    false_from_ne_true (test note) (λ has.
    both_ways (list_any test trace) none
    (any-from_Among test trace (Among-weaker (λ n. n ≡ note) (λ n. test n ≡ true) (λ n is. ap test is ∙ has) trace (Among-from_Contains trace note stands))))

-- whether the frame is a JOIN of node r
abbrev pub is_join_of : ℕ → FrameParts → Bool
is_join_of r f = same_class f.class class.Join && f.node == r

-- of a slot that carried none, no node takes one
pub gave_no_join : (r : ℕ) (note : SlotNote) → carried (is_join_of r) note ≡ false → GaveNoJoin r note
gave_no_join r note none j = false_from_ne_true (got_join r (given j note)) (λ got. by_notice (given j note) refl got)
  where
    by_notice : (e : NoticeKind) → given j note ≡ e → got_join r e ≡ true → ⊥
    by_notice Idle is got = false≢true got
    by_notice (Got f) is got = both_ways (carried (is_join_of r) note) none (is_carried (is_join_of r) note f (given-Got j note f is).0 got)
    by_notice (Sent f) is got = false≢true got
    by_notice Bad is got = false≢true got

-- ---- vectors

-- what holds of the vector that was installed
pub of_vector : (P : Nodes → Type 0) (installed : Option Nodes) (found : Nodes) → installed ≡ Some found → P found
    → (v : Nodes) → installed ≡ Some v → P v
of_vector P installed found same holds v also = subst P (same_Some found v (sym same ∙ also)) holds

-- and where none was, all does
pub of_no_vector : (P : Nodes → Type 0) (v : Nodes) → None ≡ Some v → P v
of_no_vector P v never = absurd (none-some v never)

-- an incarnation that installs a vector has read the end of the cycle
pub has_read_the_end : (sc : ScenarioParts) (journal : List Step) (i k : ℕ) (e : EndedIncarnation) → IsIncarnation sc (run sc journal) i e
    → (v : Nodes) → installed_as sc (run sc journal) i e k ≡ Some v → k * sc.params.cycle + sc.params.bound < e.next
has_read_the_end sc journal i k e is v installs =
    omega (arith, installed_read (followed_by sc e) i k (past_of (run sc journal) i e) v installs, past_length sc journal i e (lived sc journal i e is))

-- ---- logs

-- if the entry is a delivery, this holds of its slot, and if it is a failure, that of its slot and
-- of the node
abbrev pub OfEntry : (ℕ → Type 0) → (ℕ → ℕ → Type 0) → LogEntry → Type 0
OfEntry P Q (Deliver slot service msg payload) = P slot
OfEntry P Q (Failed slot node cycle) = Q slot node
OfEntry P Q (View slot number members) = Unit {0}

-- what holds of the entries of a log holds of each
pub of_entry : (P : ℕ → Type 0) (Q : ℕ → ℕ → Type 0) (log : List LogEntry) → AllByRecursion (OfEntry P Q) log
    → (entry : LogEntry) → Contains log entry → OfEntry P Q entry
of_entry P Q log holds entry stands = Each-of (OfEntry P Q) entry log holds (Among-from_Contains log entry stands)
