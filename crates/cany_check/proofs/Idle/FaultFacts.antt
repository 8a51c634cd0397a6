-- The note of a slot, and some node of a set.
use Rattle.std.proofs.Common.{◌≡◌, ℕ, zero, suc, ◌+◌, ◌-◌, ◌^◌, ◌<◌, ◌≤◌, ◌&&◌, Bool, true, false, not, List, [], ◌∷◌, length, reverse, get_or, refl, ap, sym, subst, ◌∙◌, arith, inl, inr, w64}
use Rattle.std.specs.Prelude.{is_some, slice_get, if◌then◌else◌, Some}
use Rattle.std.specs.List.{list_any, range_with_len}
use Rattle.std.specs.Int.{trailing_zeros}
use Rattle.std.proofs.lemmas.Bool.{and_from, cases_Bool, cases_eq, eq-eqb, false≢true, ne_eqb}
use Rattle.std.proofs.lemmas.List.{get_or-reverse, length-reverse}
use Rattle.std.proofs.lemmas.Option.{slice_get-get_or}
use Rattle.cany_base.specs.declared.rule.Verdict.{Verdict}
use Rattle.cany_base.specs.declared.rule.Verdict.TheVariants.{Clean, Lost, Partial, Silent}
use Rattle.cany_base.specs.declared.slot_note.SlotNote.{SlotNote}
use Rattle.cany_base.specs.Limits.{most_nodes}
use Rattle.cany_base.specs.Nodes.{AllBelow, Nodes, has, meet, those_where, is_nobody}
use Rattle.cany_base.specs.Params.{Parameters}
use Rattle.cany_base.specs.Scenario.{IsVerdictOf}
use Rattle.cany_base.proofs.NodesFacts.{AllBelow-bits, bits_where-lt, has_lowest, has_none}
use Rattle.cany_model.specs.Bus.Slot.{is_clean}
use Rattle.cany_model.specs.Bus.State.{RunState}
use Rattle.cany_model.proofs.Bus.Seen.{Numbered}
use Rattle.cany_check.specs.declared.unused_entries.unused_entry.NoFault.{NoFault}
use Rattle.cany_check.specs.declared.unused_entries.unused_entry.NoFault.TheVariants.{Idle, RejectsNobody, StopsNobody}
use Rattle.cany_check.specs.Idle.Unused.{is_receiver, note_of, reject_set, some_node_of, unused_stops, unused_verdict}

-- ---- the note of a slot

note_at_age : (trace : List SlotNote) (age slot : ℕ) → Numbered trace → age + slot + 1 ≡ length trace → note_of slot trace ≡ slice_get trace age
note_at_age [] age slot numbered e = absurd (omega (arith, e))
note_at_age (note ∷ trace) zero slot numbered e = rw (eq-eqb note.slot slot (omega (arith, numbered.0, e))) refl
note_at_age (note ∷ trace) (suc age) slot numbered e =
    rw (ne_eqb note.slot slot (λ same. absurd (omega (arith, same, numbered.0, e)))) (note_at_age trace age slot numbered.1 (omega (arith, e)))

-- its place, oldest first, is the number of the slot
pub note_at_place : (trace oldest : List SlotNote) (slot : ℕ) (note : SlotNote) → Numbered trace → reverse oldest ≡ trace → slot < length oldest → note ≡ get_or oldest slot note
    → note_of slot trace ≡ Some note
note_at_place trace oldest slot note numbered e below at =
    let n = length oldest in
    let age : ℕ = n - 1 - slot in
    let long : length trace ≡ n = ap length (sym e) ∙ length-reverse oldest in
    note_at_age trace age slot numbered (omega (arith, below, long))
    ∙ slice_get-get_or trace age note (omega (arith, below, long))
    ∙ ap (λ t. Some (get_or t age note)) (sym e)
    ∙ ap (λ x. Some x) (get_or-reverse oldest age note (omega (arith, below)))
    ∙ ap (λ k. Some (get_or oldest k note)) (omega (arith, below))
    ∙ ap (λ x. Some x) (sym at)

-- ---- some node of a set

range_none : (t : ℕ → Bool) (from count : ℕ) → ((k : ℕ) → from ≤ k → k < from + count → t k ≡ false) → list_any t (range_with_len from count) ≡ false
range_none t from zero none = refl
range_none t from (suc count) none =
    rw (none from (omega arith) (omega arith)) (range_none t (from + 1) count (λ k low high. none k (omega (arith, low)) (omega (arith, high))))

range_some : (t : ℕ → Bool) (from count k : ℕ) → from ≤ k → k < from + count → t k ≡ true → list_any t (range_with_len from count) ≡ true
range_some t from zero k low high h = absurd (omega (arith, low, high))
range_some t from (suc count) k low high h = elim (cases_Bool (t from)) [
  | inl here ↦ rw here refl
  | inr other ↦ elim (cases_eq from k) [
    | inl same ↦ absurd (false≢true (sym other ∙ ap t same ∙ h))
    | inr later ↦ rw other (range_some t (from + 1) count k (omega (arith, low, later)) (omega (arith, high)) h)
  ]
]

pub some_node : (nodes : Nodes) (t : ℕ → Bool) (k : ℕ) → k < most_nodes → has nodes k ≡ true → t k ≡ true → some_node_of nodes t ≡ true
some_node nodes t k below h passes = range_some (λ i. has nodes i && t i) 0 most_nodes k (omega arith) (omega (arith, below)) (and_from (has nodes k) (t k) h passes)

-- none of those below the number, and so none of a set that has no others
pub no_node : (nodes : Nodes) (t : ℕ → Bool) (count : ℕ) → AllBelow count nodes → ((k : ℕ) → k < count → (has nodes k && t k) ≡ false) → some_node_of nodes t ≡ false
no_node nodes t count below none = range_none (λ i. has nodes i && t i) 0 most_nodes (λ k low high. elim (cases_Bool (has nodes k)) [
  | inl here ↦ none k (below k here)
  | inr other ↦ rw other refl
])

-- the set of a verdict has nodes of the bus alone
pub reject_set_below : (p : Parameters) (verdict : Verdict) → IsVerdictOf p verdict → AllBelow p.nodes (reject_set verdict)
reject_set_below p Clean is = λ node here. absurd (false≢true (sym (has_none node) ∙ here))
reject_set_below p Lost is = λ node here. absurd (false≢true (sym (has_none node) ∙ here))
reject_set_below p (Partial reject) is = is
reject_set_below p (Silent reject) is = is

-- a set that has the nodes of both
pub some_of_both : (a b both : Nodes) → both.bits < 2 ^ most_nodes → ((i : ℕ) → has both i ≡ (has a i && has b i)) → some_node_of a (has b) ≡ not (is_nobody both)
some_of_both a b both small is = elim (cases_eq both.bits 0) [
  | inl none ↦
      rw (eq-eqb both.bits 0 none)
      (range_none (λ i. has a i && has b i) 0 most_nodes (λ k low high. sym (is k) ∙ ap (λ n. has (record { bits = n }) k) none ∙ has_none k))
  | inr some ↦
      let k = trailing_zeros w64 both.bits in
      let has_k : has both k ≡ true = has_lowest both.bits (omega (arith, some)) small in
      rw (ne_eqb both.bits 0 some)
      (range_some (λ i. has a i && has b i) 0 most_nodes k (omega arith) (omega (arith, AllBelow-bits most_nodes both small k has_k)) (sym (is k) ∙ has_k))
]

pub some_of_meet : (a b both : Nodes) → ((i : ℕ) → has both i ≡ (has a i && has b i)) → both ≡ meet a b → some_node_of a (has b) ≡ not (is_nobody both)
unfolding those_where
some_of_meet a b both has_both is =
    some_of_both a b both (subst (λ (nodes : Nodes). nodes.bits < 2 ^ most_nodes) (sym is) (bits_where-lt (λ i. has a i && has b i) most_nodes)) has_both

-- ---- which of the two is said of a verdict

abbrev pub picked : Bool → Bool → Bool → Bool → List NoFault → List NoFault → List NoFault
picked clean idle none some x y = if not clean && idle then x else if not idle && not none && not some then y else []

pub pick_clean : (none some : Bool) (x y : List NoFault) → picked true true none some x y ≡ []
pick_clean true some x y = refl
pick_clean false some x y = refl

pub pick_none : (clean some : Bool) (x y : List NoFault) → picked clean false true some x y ≡ []
pick_none true some x y = refl
pick_none false some x y = refl

pub pick_some : (clean none : Bool) (x y : List NoFault) → picked clean false none true x y ≡ []
pick_some true true x y = refl
pick_some true false x y = refl
pick_some false true x y = refl
pick_some false false x y = refl

pub pick_rejects : (clean : Bool) (x y : List NoFault) → picked clean false false false x y ≡ y
pick_rejects true x y = refl
pick_rejects false x y = refl

module _ (s : RunState) (slot : ℕ) (v : Verdict) (n : SlotNote) (carries : is_some n.frame ≡ true) where
  abbrev rejecting : Bool
  rejecting = some_node_of (reject_set v) (is_receiver s n)

  abbrev idle_there : List NoFault
  idle_there = Idle slot ∷ []

  abbrev rejects_there : List NoFault
  rejects_there = RejectsNobody slot ∷ []

  carried_first : unused_verdict s slot v (Some n) ≡ picked (is_clean v) false (is_nobody (reject_set v)) rejecting idle_there rejects_there
  carried_first =
      ap (λ b. if not (is_clean v) && not b then idle_there else if b && not (is_nobody (reject_set v)) && not rejecting then rejects_there else []) carries

  pub verdict_none : is_nobody (reject_set v) ≡ true → [] ≡ unused_verdict s slot v (Some n)
  verdict_none none =
      sym (carried_first ∙ ap (λ b. picked (is_clean v) false b rejecting idle_there rejects_there) none ∙ pick_none (is_clean v) rejecting idle_there rejects_there)

  pub verdict_some : rejecting ≡ true → [] ≡ unused_verdict s slot v (Some n)
  verdict_some some =
      sym (carried_first ∙ ap (λ b. picked (is_clean v) false (is_nobody (reject_set v)) b idle_there rejects_there) some
      ∙ pick_some (is_clean v) (is_nobody (reject_set v)) idle_there rejects_there)

  pub verdict_rejects : is_nobody (reject_set v) ≡ false → rejecting ≡ false → RejectsNobody slot ∷ [] ≡ unused_verdict s slot v (Some n)
  verdict_rejects any none =
      sym (carried_first ∙ ap (λ b. picked (is_clean v) false b rejecting idle_there rejects_there) any
      ∙ ap (λ b. picked (is_clean v) false false b idle_there rejects_there) none ∙ pick_rejects (is_clean v) idle_there rejects_there)

-- ---- which is said of stops

abbrev stopping : Bool → Bool → List NoFault → List NoFault
stopping none some x = if not none && not some then x else []

stopping_some : (none : Bool) (x : List NoFault) → stopping none true x ≡ []
stopping_some true x = refl
stopping_some false x = refl

module _ (slot : ℕ) (stop : Nodes) (n : SlotNote) where
  abbrev stopped : Bool
  stopped = some_node_of stop (has n.stops)

  abbrev stops_there : List NoFault
  stops_there = StopsNobody slot ∷ []

  pub stops_none : is_nobody stop ≡ true → [] ≡ unused_stops slot stop (Some n)
  stops_none none = sym (ap (λ b. stopping b stopped stops_there) none)

  pub stops_some : stopped ≡ true → [] ≡ unused_stops slot stop (Some n)
  stops_some some = sym (ap (λ b. stopping (is_nobody stop) b stops_there) some ∙ stopping_some (is_nobody stop) stops_there)

  pub stops_nobody : is_nobody stop ≡ false → stopped ≡ false → StopsNobody slot ∷ [] ≡ unused_stops slot stop (Some n)
  stops_nobody any none = sym (ap (λ b. stopping b stopped stops_there) any ∙ ap (λ b. stopping false b stops_there) none)
