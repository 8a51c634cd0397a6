-- A window of bound + lag slots has vectors of one membership cycle alone, and of each node no more
-- than one more than there are nodes.
use Rattle.std.proofs.Common.{◌≡◌, ℕ, zero, suc, ◌+◌, ◌-◌, ◌*◌, ◌<◌, ◌≤◌, ◌⊎◌, ◌==◌, ◌&&◌, inl, inr, Bool, true, false, List, [], ◌∷◌, drop, take, length, Some, count_by, refl, ap, sym, ◌∙◌, subst, arith}
use Rattle.std.proofs.Math.Nat.{mul-le-mul_left}
use Rattle.std.proofs.lemmas.Bool.{and_from, and_parts, both_ways, cases_Bool, cases_lt, cases_order, eq-eqb, eqb-true, false≢true}
use Rattle.cany_base.specs.Limits.{most_nodes}
use Rattle.cany_base.specs.declared.class.Class.TheVariants as class
use Rattle.cany_base.specs.declared.notice.NoticeKind.{NoticeKind}
use Rattle.cany_base.specs.declared.notice.NoticeKind.TheVariants.{Sent}
use Rattle.cany_base.specs.declared.rule.Verdict.{Verdict}
use Rattle.cany_base.specs.declared.rule.Verdict.TheVariants.{Clean, Lost, Partial, Silent}
use Rattle.cany_base.specs.declared.slot_note.SlotNote.{SlotNote}
use Rattle.cany_base.specs.declared.step.Step.{Step}
use Rattle.cany_base.specs.Frame.{FrameParts}
use Rattle.cany_base.specs.Nodes.{AllBelow}
use Rattle.cany_base.specs.Params.{MeetsFormulas, Parameters}
use Rattle.cany_base.specs.Scenario.{ScenarioParts}
use Rattle.cany_model.specs.Bus.Frames.{Identity, same_class}
use Rattle.cany_model.specs.Bus.History.{as_seen, given, is_hidden, seen}
use Rattle.cany_model.specs.Runs.Run.{run}
use Rattle.cany_model.specs.Bus.Slot.{FaultScript, carried, script, slot_note_of, is_clean}
use Rattle.cany_model.specs.Bus.State.{Incarnation, NodeState, RunState, node_at, runs}
use Rattle.cany_model.specs.Promises.Windows.{HasFewVectors, is_clean_of}
use Rattle.cany_model.specs.Rules.Turn.{scenario_for}
use Rattle.cany_model.specs.Rules.Vectors.{rha_of}
use Rattle.cany_model.proofs.Among.{count-drop, count-grows, count-no, count-yes}
use Rattle.cany_model.proofs.Bus.Carried.{carried_frame, is_sent-from, is_sent-true}
use Rattle.cany_model.proofs.Bus.Identities.{same_class-true, same_class_self}
use Rattle.cany_model.proofs.Bus.Notes.{given-Sent, given_sender, note_of-slot, sender_waits}
use Rattle.cany_model.proofs.Runs.Runs.{orderly}
use Rattle.cany_model.proofs.Bus.Seen.{early_hidden, seen_plain}
use Rattle.cany_model.proofs.Bus.States.{no_note, note_at}
use Rattle.cany_model.proofs.Promises.Diffusion.{past_of}
use Rattle.cany_model.proofs.Promises.EachNode.{slot_lived}
use Rattle.cany_model.proofs.Promises.OwnSlotsAlone.{own_slots_alone_run, sent_plain}
use Rattle.cany_model.proofs.Timed.Common.Counting.{Passes, cover, total_most, window_at, window_back}
use Rattle.cany_model.proofs.Timed.Common.OwnSlots.{HasOwnSlots, own_slots, sent_there, sent_when}
use Rattle.cany_model.proofs.Timed.Common.SeenAges.{Sees}
use Rattle.cany_model.proofs.Timed.Views.VectorBudget.{BudgetKept, budget_kept, is_sent_note, sent_count, spent, spent_slot}
use Rattle.cany_model.proofs.Timed.Views.VectorSlots.{IsCycleAge, carried_in, cycle_age, cycle_of_formulas, drop_at, slot_at}

-- ---- counts

pub count_weaker : (t u : SlotNote → Bool) (L : List SlotNote) → ((p : ℕ) → Passes t L p → Passes u L p) → count_by t L ≤ count_by u L
count_weaker t u [] h = omega arith
count_weaker t u (note ∷ L) h =
    let rest = count_weaker t u L (λ p a. h (suc p) a) in
    elim (cases_Bool (t note)) [
      | inl passes ↦ omega (arith, rest, count-yes t note L passes, count-yes u note L (h 0 passes))
      | inr other ↦ omega (arith, rest, count-no t note L other, count-grows u note L)
    ]

count_taken : (t : SlotNote → Bool) (w : ℕ) (L : List SlotNote) → count_by t (take w L) ≤ count_by t L
count_taken t zero L = omega arith
count_taken t (suc w) [] = omega arith
count_taken t (suc w) (note ∷ L) =
    let rest = count_taken t w L in
    elim (cases_Bool (t note)) [
      | inl passes ↦ omega (arith, rest, count-yes t note (take w L) passes, count-yes t note L passes)
      | inr other ↦ omega (arith, rest, count-no t note (take w L) other, count-no t note L other)
    ]

-- none passes, or all that pass stand from the newest one on
newest : (t : SlotNote → Bool) (L : List SlotNote) → (count_by t L ≡ 0) ⊎ ((p : ℕ) × Passes t L p × (count_by t L ≡ count_by t (drop p L)))
newest t [] = inl refl
newest t (note ∷ L) = elim (cases_Bool (t note)) [
  | inl passes ↦ inr (0, passes, refl)
  | inr other ↦ elim (newest t L) [
    | inl none ↦ inl (omega (arith, none, count-no t note L other))
    | inr some ↦ inr (suc some.0, some.1, omega (arith, some.2, count-no t note L other))
  ]
]

-- none passes, or all that pass have one name
one_name : (t : SlotNote → Bool) (by : ℕ → SlotNote → Bool) (L : List SlotNote) → ((p : ℕ) → Passes t L p → (c : ℕ) × Passes (by c) L p)
    → ((p q c : ℕ) → Passes t L p → Passes t L q → Passes (by c) L p → Passes (by c) L q)
    → (count_by t L ≡ 0) ⊎ ((p c : ℕ) × Passes (by c) L p × (count_by t L ≤ count_by (by c) L))
one_name t by L named same = elim (newest t L) [
  | inl none ↦ inl none
  | inr some ↦
      let name = named some.0 some.1 in
      inr (some.0, name.0, name.1, count_weaker t (by name.0) L (λ q passes. same some.0 q name.0 some.1 passes name.1))
]

-- ---- what a node sends of a cycle, by all its incarnations

spent_few : (scenario : ScenarioParts) (k i : ℕ) (trace : List SlotNote) (past : List NoticeKind) (w : List FrameParts)
    → BudgetKept scenario k i trace past w → spent k i trace w ≤ scenario.params.nodes + 1
spent_few scenario k i trace past w h = elim (cases_lt (k * scenario.params.cycle) (length past)) [
  | inr early ↦ omega (arith, h.early early)
  | inl from ↦ elim (cases_lt (k * scenario.params.cycle + scenario.params.bound) (length past)) [
    | inl late ↦ (h.late late).0
    | inr to ↦ omega (arith, h.during from to)
  ]
]

-- slots that an incarnation sees count for it
count_seen : (t : SlotNote → Bool) (inc : Incarnation) (trace : List SlotNote) → ((p : ℕ) → Passes t trace p → Sees inc trace p)
    → count_by t trace ≤ count_by t (seen inc trace)
count_seen t inc [] h = omega arith
count_seen t inc (note ∷ trace) h =
    let rest = count_seen t inc trace (λ p a. h (suc p) a) in
    elim (cases_Bool (t note)) [
      | inr other ↦ omega (arith, rest, count-no t note trace other, count-grows t (as_seen inc note) (seen inc trace))
      | inl passes ↦
          let there : t (as_seen inc note) ≡ true = subst (λ n. t n ≡ true) (sym (seen_plain inc note (h 0 passes))) passes in
          omega (arith, rest, count-yes t note trace passes, count-yes t (as_seen inc note) (seen inc trace) there)
    ]

module _ (scenario : ScenarioParts) (few : scenario.params.nodes ≤ most_nodes) (formulas : MeetsFormulas scenario.params)
    (first : AllBelow scenario.params.nodes scenario.members)
  where
    abbrev p : Parameters
    p = scenario.params

    -- a vector of the cycle that was sent
    sent_vector : (journal : List Step) (k i age : ℕ) → Passes (is_sent_note k i) (run scenario journal).trace age
        → (f : FrameParts) × IsCycleAge p (run scenario journal).trace age f × (f.number ≡ k)
    sent_vector journal k i age h =
        let note : SlotNote = note_at (run scenario journal).trace age in
        let g = is_sent-true (rha_of k i) (given i note) h in
        let frame = (given-Sent i note g.what g.was).0 in (
          g.what,
          cycle_age scenario journal few formulas first age g.what frame (ap (λ (x : Identity). x.class) (sym g.identity)),
          ap (λ (x : Identity). x.number) (sym g.identity),
        )

    -- in the slot in which it sends one, its incarnation sees all that it has sent of the cycle
    sees_own : (journal : List Step) (k i : ℕ) (inc : Incarnation) → (node_at (run scenario journal).nodes i).present ≡ inc
        → runs (node_at (run scenario journal).nodes i) ≡ true
        → length (run scenario journal).trace ≤ k * p.cycle + (p.bound + p.lag) → (0 < inc.number → inc.from ≤ length (run scenario journal).trace)
        → (age : ℕ) → Passes (is_sent_note k i) (run scenario journal).trace age → Sees inc (run scenario journal).trace age
    sees_own journal k i inc is running to from age h =
        let s : RunState = run scenario journal in
        let own = subst (λ (n : Incarnation). HasOwnSlots p s.trace i n) is (own_slots scenario journal i running) in
        elim (sent_when p p.nodes s i inc (orderly scenario journal) own age (rha_of k i) h) [
          | inl sees ↦ sees
          | inr before ↦
              let v = sent_vector journal k i age h in
              let cycle : v.0.number * p.cycle ≡ k * p.cycle = ap (λ n. n * p.cycle) v.2 in
              absurd (omega (arith, v.1.from, cycle, to, before.far, from before.later))
        ]

    few_from : (journal : List Step) (k i age : ℕ) → Passes (is_sent_note k i) (run scenario journal).trace age
        → sent_count k i (drop age (run scenario journal).trace) ≤ p.nodes + 1
    few_from journal k i age h =
        let at = slot_at scenario journal age (sent_there i (run scenario journal).trace age (rha_of k i) h) in
        let s : RunState = run scenario at.before in
        let rules : FaultScript = script scenario.rules in
        let note : SlotNote = slot_note_of rules s in
        let now : is_sent_note k i note ≡ true =
        ap (is_sent_note k i) (sym (drop_at age (run scenario journal).trace note s.trace at.split).0) ∙ h in
        let g = is_sent-true (rha_of k i) (given i note) now in
        let parts = given-Sent i note g.what g.was in
        let running = (sender_waits rules s g.what i parts.0 parts.1).0 in
        let node : NodeState = node_at s.nodes i in
        let inc : Incarnation = node.present in
        let own_slots_alone = own_slots_alone_run scenario at.before i running in
        let plain : is_hidden inc note ≡ false = sent_plain rules s i own_slots_alone g.what parts.0 parts.1 in
        let number : g.what.number ≡ k = ap (λ (x : Identity). x.number) (sym g.identity) in
        let c = carried_in scenario at.before few formulas first at.may g.what parts.0 (ap (λ (x : Identity). x.class) (sym g.identity)) in
        let cycle : g.what.number * p.cycle ≡ k * p.cycle = ap (λ n. n * p.cycle) number in
        let from : 0 < inc.number → inc.from ≤ length s.trace = λ later. elim (cases_lt note.slot inc.from) [
          | inl early ↦ absurd (both_ways (is_hidden inc note) plain (early_hidden inc note later early))
          | inr late ↦ omega (arith, late, note_of-slot rules s)
        ] in
        let trace : List SlotNote = seen inc s.trace in
        let kept = budget_kept scenario at.before few k (cycle_of_formulas p formulas k (omega (arith, c.some, number))) first i running in
        let most = spent_few (scenario_for scenario inc) k i trace (past_of i trace node) node.waiting kept in
        let less = spent_slot k i (as_seen inc note) trace node.waiting (slot_lived rules s i own_slots_alone running).sends in
        let there : is_sent_note k i (as_seen inc note) ≡ true = subst (λ n. is_sent_note k i n ≡ true) (sym (seen_plain inc note plain)) now in
        let older = count_seen (is_sent_note k i) inc s.trace
        (sees_own at.before k i inc refl running (omega (arith, c.to, cycle)) from) in
        let whole = ap (count_by (is_sent_note k i)) at.split in
        let raw = count-yes (is_sent_note k i) note s.trace now in
        let as_it_sees = count-yes (is_sent_note k i) (as_seen inc note) trace there in
        omega (arith, whole, older, less, most, raw, as_it_sees)

    -- a node sends at most one frame more than there are nodes
    pub few_sent : (journal : List Step) (k i : ℕ) → sent_count k i (run scenario journal).trace ≤ p.nodes + 1
    few_sent journal k i = elim (newest (is_sent_note k i) (run scenario journal).trace) [
      | inl none ↦ omega (arith, none)
      | inr some ↦ omega (arith, some.2, few_from journal k i some.0 some.1)
    ]

-- ---- the vectors that were carried Clean

-- those of one cycle
is_clean_vector : ℕ → SlotNote → Bool
is_clean_vector k note = carried (λ f. same_class f.class class.Rha && f.number == k) note && is_clean note.verdict

record IsCleanVector (note : SlotNote) : Type 0 where
  what : FrameParts
  frame : note.frame ≡ Some what
  class : what.class ≡ class.Rha
  clean : note.verdict ≡ Clean

pub clean_is : (v : Verdict) → is_clean v ≡ true → v ≡ Clean
clean_is Clean h = refl
clean_is Lost h = absurd (false≢true h)
clean_is (Partial reject) h = absurd (false≢true h)
clean_is (Silent reject) h = absurd (false≢true h)

clean_vector : (note : SlotNote) → is_clean_of class.Rha note ≡ true → IsCleanVector note
clean_vector note h =
    let parts = and_parts (carried (λ f. same_class f.class class.Rha) note) (is_clean note.verdict) h in
    let some = carried_frame (λ f. same_class f.class class.Rha) note parts.0 in
    record { what = some.what; frame = some.frame; class = same_class-true some.what.class class.Rha some.passes; clean = clean_is note.verdict parts.1 }

-- and their numbers

clean_number : (k : ℕ) (note : SlotNote) → is_clean_vector k note ≡ true → (v : IsCleanVector note) × (v.what.number ≡ k)
unfolding is_clean_vector
clean_number k note h =
    let test : FrameParts → Bool = λ f. same_class f.class class.Rha && f.number == k in
    let parts = and_parts (carried test note) (is_clean note.verdict) h in
    let some = carried_frame test note parts.0 in
    let inner = and_parts (same_class some.what.class class.Rha) (some.what.number == k) some.passes in (
      record { what = some.what; frame = some.frame; class = same_class-true some.what.class class.Rha inner.0; clean = clean_is note.verdict parts.1 },
      eqb-true some.what.number k inner.1,
    )

number_clean : (k : ℕ) (note : SlotNote) (v : IsCleanVector note) → (IsCleanVector.what v).number ≡ k → is_clean_vector k note ≡ true
unfolding is_clean_vector
number_clean k note v number =
    let is : same_class v.what.class class.Rha ≡ true = ap (λ c. same_class c class.Rha) v.class ∙ same_class_self class.Rha in
    let of : (same_class v.what.class class.Rha && v.what.number == k) ≡ true =
    and_from (same_class v.what.class class.Rha) (v.what.number == k) is (eq-eqb v.what.number k number) in
    and_from (carried (λ f. same_class f.class class.Rha && f.number == k) note) (is_clean note.verdict) (rw v.frame of) (rw v.clean refl)

none_clean : (k : ℕ) → is_clean_vector k no_note ≡ false
unfolding is_clean_vector
none_clean k = refl

-- two vectors that are carried in one window are of one cycle
one_cycle : (p : Parameters) → MeetsFormulas p → (c d n m : ℕ) → c * p.cycle < n → n ≤ c * p.cycle + (p.bound + p.lag) → d * p.cycle < m
    → m ≤ d * p.cycle + (p.bound + p.lag) → n < m + (p.bound + p.lag) → m < n + (p.bound + p.lag) → c ≡ d
one_cycle p f c d n m cn nc dm md near near' = elim (cases_order c d) [
  | inl same ↦ same
  | inr (inl less) ↦
      let step : suc c * p.cycle ≤ d * p.cycle = mul-le (suc c) d (omega (arith, less)) in
      let next : suc c * p.cycle ≡ c * p.cycle + p.cycle = grind arith in
      absurd (omega (arith, step, next, nc, dm, near', f.cycle))
  | inr (inr more) ↦
      let step : suc d * p.cycle ≤ c * p.cycle = mul-le (suc d) c (omega (arith, more)) in
      let next : suc d * p.cycle ≡ d * p.cycle + p.cycle = grind arith in
      absurd (omega (arith, step, next, md, cn, near, f.cycle))
]
  where
    mul-le : (a b : ℕ) → a ≤ b → a * p.cycle ≤ b * p.cycle
    mul-le a b h = grind (arith, mul-le-mul_left p.cycle h)

module _ (scenario : ScenarioParts) (few : scenario.params.nodes ≤ most_nodes) (formulas : MeetsFormulas scenario.params)
    (first : AllBelow scenario.params.nodes scenario.members) (journal : List Step)
  where
    abbrev all : List SlotNote
    all = (run scenario journal).trace

    abbrev window : ℕ
    window = scenario.params.bound + scenario.params.lag

    abbrev nodes : ℕ
    nodes = scenario.params.nodes

    age_of : (age : ℕ) (v : IsCleanVector (note_at all age)) → IsCycleAge scenario.params all age (IsCleanVector.what v)
    age_of age v = cycle_age scenario journal few formulas first age v.what v.frame v.class

    same_cycle : (a b : ℕ) (v : IsCleanVector (note_at all a)) (w : IsCleanVector (note_at all b)) → a < b + window → b < a + window
        → (IsCleanVector.what v).number ≡ (IsCleanVector.what w).number
    same_cycle a b v w near near' =
        let x = age_of a v in
        let y = age_of b w in
        one_cycle scenario.params formulas v.what.number w.what.number (length all - suc a) (length all - suc b)
        (omega (arith, x.from)) (omega (arith, x.to)) (omega (arith, y.from)) (omega (arith, y.to)) (omega (arith, near', x.from, y.from))
        (omega (arith, near, x.from, y.from))

    -- those of one cycle were sent by the nodes of the bus
    by_nodes : (k : ℕ) → count_by (is_clean_vector k) all ≤ nodes * (nodes + 1)
    by_nodes k =
        let sums = cover (is_clean_vector k) (is_sent_note k) nodes all (λ age passes. own age passes) in
        let each = total_most (λ i. sent_count k i all) (nodes + 1) (λ i. few_sent scenario few formulas first journal k i) nodes in
        omega (arith, sums, each)
      where
        own : (age : ℕ) → Passes (is_clean_vector k) all age → (i : ℕ) × (i < nodes) × Passes (is_sent_note k i) all age
        own age passes =
            let note : SlotNote = note_at all age in
            let (v, number) = clean_number k note passes in
            let at = age_of age v in
            let f : FrameParts = v.what in
            let sent : given f.node note ≡ Sent f = given_sender f.node note f v.frame at.sender (rw v.clean refl) in (
              f.node,
              at.node,
              is_sent-from (rha_of k f.node) f (given f.node note) sent
                  (λ d. record { class = sym v.class d; number = sym number d; node = f.node }),
            )

    -- the clean vectors of a window are of one cycle
    of_window : (newest : ℕ) → (count_by (is_clean_of class.Rha) (take window (drop newest all)) ≡ 0)
        ⊎ ((k : ℕ) × (count_by (is_clean_of class.Rha) (take window (drop newest all)) ≤ count_by (is_clean_vector k) (take window (drop newest all))))
    of_window newest = elim (one_name (is_clean_of class.Rha) is_clean_vector (take window (drop newest all)) named same) [
      | inl none ↦ inl none
      | inr some ↦ inr (some.1, some.3)
    ]
      where
        here : (t : SlotNote → Bool) → t no_note ≡ false → (q : ℕ) → Passes t (take window (drop newest all)) q
            → (age : ℕ) × (age ≡ newest + q) × (q < window) × Passes t all age
        here t none q passes = window_at t none window newest q all passes

        back : (k q age : ℕ) → age ≡ newest + q → q < window → Passes (is_clean_vector k) all age
            → Passes (is_clean_vector k) (take window (drop newest all)) q
        back k q age at below passes =
            window_back window newest q all (is_clean_vector k) below (subst (λ a. Passes (is_clean_vector k) all a) at passes)

        named : (q : ℕ) → Passes (is_clean_of class.Rha) (take window (drop newest all)) q
            → (k : ℕ) × Passes (is_clean_vector k) (take window (drop newest all)) q
        named q passes =
            let (age, at, below, there) = here (is_clean_of class.Rha) refl q passes in
            let v = clean_vector (note_at all age) there in
            (v.what.number, back v.what.number q age at below (number_clean v.what.number (note_at all age) v refl))

        same : (a b k : ℕ) → Passes (is_clean_of class.Rha) (take window (drop newest all)) a
            → Passes (is_clean_of class.Rha) (take window (drop newest all)) b
            → Passes (is_clean_vector k) (take window (drop newest all)) a → Passes (is_clean_vector k) (take window (drop newest all)) b
        same a b k first_passes passes of =
            let (age, at, below, there) = here (is_clean_vector k) (none_clean k) a of in
            let (age', at', below', there') = here (is_clean_of class.Rha) refl b passes in
            let (v, number) = clean_number k (note_at all age) there in
            let w = clean_vector (note_at all age') there' in
            let equal = same_cycle age age' v w (omega (arith, at, at', below, below')) (omega (arith, at, at', below, below')) in
            back k b age' at' below' (number_clean k (note_at all age') w (sym equal ∙ number))

-- At most so many vectors are carried Clean in a window of bound + lag slots, of all nodes and
-- incarnations.
pub few_vectors : (scenario : ScenarioParts) (journal : List Step) → scenario.params.nodes ≤ most_nodes → MeetsFormulas scenario.params
    → AllBelow scenario.params.nodes scenario.members → HasFewVectors scenario.params (run scenario journal).trace
few_vectors scenario journal few formulas first newest =
    let p : Parameters = scenario.params in
    let trace : List SlotNote = (run scenario journal).trace in
    let rest : List SlotNote = drop newest trace in
    elim (of_window scenario few formulas first journal newest) [
      | inl none ↦ omega (arith, none)
      | inr (k, some) ↦
          let taken = count_taken (is_clean_vector k) (p.bound + p.lag) rest in
          let dropped = count-drop (is_clean_vector k) newest trace in
          let sums = by_nodes scenario few formulas first journal k in
          let product : p.nodes * (p.nodes + 1) ≡ p.nodes * p.nodes + p.nodes = grind arith in
          omega (arith, some, taken, dropped, sums, product)
    ]
