-- The trace as an incarnation sees it: idle before its first slot, and where a slot carries a
-- vector of a cycle before its first.
use Rattle.std.proofs.Common.{◌≡◌, ℕ, zero, suc, ◌-◌, ◌<◌, ◌≤◌, ◌==◌, ◌||◌, ◌⊎◌, inl, inr, Bool, true, false, not, nat_lt, if◌then◌else◌, List, [], ◌∷◌, map, drop, take, length, None, Some, refl, ap, sym, ◌∙◌, subst, arith}
use Rattle.std.proofs.lemmas.Bool.{and_from, and_parts, and_right, cases_Bool, eq-eqb, eqb-false, le-ltb, lt-ltb, ltb-true, ne_eqb, not-true, not_from_false, or_cases, or_left, or_right}
use Rattle.std.proofs.lemmas.List.{length-map}
use Rattle.cany_base.specs.declared.class.Class.TheVariants as class
use Rattle.cany_base.specs.declared.notice.NoticeKind.{NoticeKind}
use Rattle.cany_base.specs.declared.notice.NoticeKind.TheVariants.{Idle}
use Rattle.cany_base.specs.declared.slot_note.SlotNote.{SlotNote}
use Rattle.cany_base.specs.Frame.{FrameParts}
use Rattle.cany_model.specs.Bus.Frames.{same_class}
use Rattle.cany_model.specs.Bus.History.{as_seen, carries_early, ended_history, given, history, is_hidden, seen, trace_for}
use Rattle.cany_model.specs.Bus.State.{Incarnation, RunState, node_at, reads}
use Rattle.cany_model.proofs.Among.{Among, Among-from_map, Among-map, Among-weaker}
use Rattle.cany_model.proofs.Bus.Notes.{given_idle}

-- ---- one slot

pub seen_plain : (inc : Incarnation) (note : SlotNote) → is_hidden inc note ≡ false → as_seen inc note ≡ note
unfolding as_seen
seen_plain inc note h = rw h refl

pub seen_hidden : (inc : Incarnation) (note : SlotNote) → is_hidden inc note ≡ true → (as_seen inc note).frame ≡ None
unfolding as_seen
seen_hidden inc note h = rw h refl

pub seen_idle : (i : ℕ) (inc : Incarnation) (note : SlotNote) → is_hidden inc note ≡ true → given i (as_seen inc note) ≡ Idle
seen_idle i inc note h = given_idle i (as_seen inc note) (seen_hidden inc note h)

pub seen_verdict : (inc : Incarnation) (note : SlotNote) → (as_seen inc note).verdict ≡ note.verdict
unfolding as_seen
seen_verdict inc note = either (is_hidden inc note)
  where
    either : (b : Bool) → (if b then record note { frame = None } else note).verdict ≡ note.verdict
    either true = refl
    either false = refl

not_first : (inc : Incarnation) → 0 < inc.number → not (inc.number == 0) ≡ true
not_first inc later = not_from_false (inc.number == 0) (ne_eqb inc.number 0 (λ e. omega (arith, e, later)))

-- the slots before the first one of a restarted node are hidden
pub early_hidden : (inc : Incarnation) (note : SlotNote) → 0 < inc.number → note.slot < inc.from → is_hidden inc note ≡ true
unfolding is_hidden
early_hidden inc note later early =
    and_from (not (inc.number == 0)) (nat_lt note.slot inc.from || carries_early inc.cycle note) (not_first inc later)
    (or_left (nat_lt note.slot inc.from) (carries_early inc.cycle note) (lt-ltb note.slot inc.from early))

-- and so are those that carry a vector of a cycle before its first
pub vector_hidden : (inc : Incarnation) (note : SlotNote) → 0 < inc.number → carries_early inc.cycle note ≡ true → is_hidden inc note ≡ true
unfolding is_hidden
vector_hidden inc note later early =
    and_from (not (inc.number == 0)) (nat_lt note.slot inc.from || carries_early inc.cycle note) (not_first inc later)
    (or_right (nat_lt note.slot inc.from) (carries_early inc.cycle note) early)

-- the others are not
pub hidden_not : (inc : Incarnation) (note : SlotNote) → inc.from ≤ note.slot → carries_early inc.cycle note ≡ false → is_hidden inc note ≡ false
unfolding is_hidden
hidden_not inc note late plain = rw (le-ltb note.slot inc.from late, plain) (and_right (not (inc.number == 0)) false refl)

-- why a slot is hidden
pub hidden_why : (inc : Incarnation) (note : SlotNote) → is_hidden inc note ≡ true
    → (0 < inc.number) × ((note.slot < inc.from) ⊎ (carries_early inc.cycle note ≡ true))
unfolding is_hidden
hidden_why inc note h =
    let parts = and_parts (not (inc.number == 0)) (nat_lt note.slot inc.from || carries_early inc.cycle note) h in (
      some inc.number (not-true (inc.number == 0) parts.0),
      elim (or_cases (nat_lt note.slot inc.from) (carries_early inc.cycle note) parts.1) [
        | inl early ↦ inl (ltb-true note.slot inc.from early)
        | inr vector ↦ inr vector
      ],
    )
  where
    some : (n : ℕ) → (n == 0) ≡ false → 0 < n
    some n k = let other = eqb-false n 0 k in omega (arith, other)

-- a slot that carries a frame of another class carries no vector
pub carries_other : (cycle : ℕ) (note : SlotNote) (f : FrameParts) → note.frame ≡ Some f → same_class f.class class.Rha ≡ false
    → carries_early cycle note ≡ false
carries_other cycle note f frame other = rw (frame, other) refl

-- what holds of a slot as it is seen, and of no idle one, holds of the slot
pub seen_one : (P : SlotNote → Type 0) → ((note : SlotNote) → note.frame ≡ None → P note → ⊥) → (inc : Incarnation) (note : SlotNote)
    → P (as_seen inc note) → (is_hidden inc note ≡ false) × P note
seen_one P never inc note h = elim (cases_Bool (is_hidden inc note)) [
  | inl hidden ↦ absurd (never (as_seen inc note) (seen_hidden inc note hidden) h)
  | inr plain ↦ (plain, subst P (seen_plain inc note plain) h)
]

-- what is seen to be carried was
pub seen_frame : (inc : Incarnation) (note : SlotNote) (f : FrameParts) → (as_seen inc note).frame ≡ Some f → note.frame ≡ Some f
seen_frame inc note f h = (seen_one (λ n. n.frame ≡ Some f) idle inc note h).1
  where
    idle : (n : SlotNote) → n.frame ≡ None → n.frame ≡ Some f → ⊥
    idle n none some = cc

-- ---- a trace

pub Among-seen : (P : SlotNote → Type 0) → ((note : SlotNote) → note.frame ≡ None → P note → ⊥) → (inc : Incarnation) (trace : List SlotNote)
    → Among P (seen inc trace) → Among P trace
Among-seen P never inc trace h =
    Among-weaker (λ note. P (as_seen inc note)) P (λ note p. (seen_one P never inc note p).1) trace (Among-from_map (as_seen inc) P trace h)

-- and the other way, where the slot is not hidden
pub Among-to_seen : (P : SlotNote → Type 0) (inc : Incarnation) (trace : List SlotNote)
    → Among (λ note. P note × (is_hidden inc note ≡ false)) trace → Among P (seen inc trace)
Among-to_seen P inc trace h =
    Among-map (as_seen inc) P trace
    (Among-weaker (λ note. P note × (is_hidden inc note ≡ false)) (λ note. P (as_seen inc note))
    (λ note p. subst P (sym (seen_plain inc note p.1)) p.0) trace h)

pub length-seen : (inc : Incarnation) (trace : List SlotNote) → length (seen inc trace) ≡ length trace
length-seen inc trace = length-map trace (as_seen inc)

pub drop_seen : (n : ℕ) (inc : Incarnation) (trace : List SlotNote) → drop n (seen inc trace) ≡ seen inc (drop n trace)
drop_seen zero inc trace = refl
drop_seen (suc n) inc [] = refl
drop_seen (suc n) inc (note ∷ trace) = drop_seen n inc trace

pub take_seen : (n : ℕ) (inc : Incarnation) (trace : List SlotNote) → take n (seen inc trace) ≡ seen inc (take n trace)
take_seen zero inc trace = refl
take_seen (suc n) inc [] = refl
take_seen (suc n) inc (note ∷ trace) = ap (λ t. as_seen inc note ∷ t) (take_seen n inc trace)

-- the incarnation of the opening sees all
pub seen_original : (inc : Incarnation) (trace : List SlotNote) → inc.number ≡ 0 → seen inc trace ≡ trace
unfolding is_hidden
seen_original inc [] first = refl
seen_original inc (note ∷ trace) first =
    let plain : is_hidden inc note ≡ false = rw (eq-eqb inc.number 0 first) refl in
    rw (seen_plain inc note plain) (ap (λ t. note ∷ t) (seen_original inc trace first))

pub trace_for-is : (inc : Incarnation) (trace : List SlotNote) → trace_for inc.number inc trace ≡ seen inc trace
trace_for-is inc trace = by_number inc.number refl
  where
    by_number : (number : ℕ) → inc.number ≡ number → trace_for number inc trace ≡ seen inc trace
    by_number zero first = sym (seen_original inc trace first)
    by_number (suc number) later = refl

-- ---- what an incarnation has read

-- of what a restarted node has read, newest first: nothing of the slots before its first
abbrev pub IsSeenPast : Incarnation → List NoticeKind → Type 0
IsSeenPast inc [] = Unit {0}
IsSeenPast inc (e ∷ past) = (0 < inc.number → length past < inc.from → e ≡ Idle) × IsSeenPast inc past

-- a trace whose notes say which slot they are of
abbrev pub Numbered : List SlotNote → Type 0
Numbered [] = Unit {0}
Numbered (note ∷ trace) = (note.slot ≡ length trace) × Numbered trace

pub numbered_drop : (n : ℕ) (trace : List SlotNote) → Numbered trace → Numbered (drop n trace)
numbered_drop zero trace h = h
numbered_drop (suc n) [] h = tt
numbered_drop (suc n) (note ∷ trace) h = numbered_drop n trace h.1

pub seen_past : (i : ℕ) (inc : Incarnation) (trace : List SlotNote) → Numbered trace → IsSeenPast inc (map (given i) (seen inc trace))
seen_past i inc [] h = tt
seen_past i inc (note ∷ trace) h = (
  λ later early.
      seen_idle i inc note
      (early_hidden inc note later (omega (arith, early, h.0, length-map (seen inc trace) (given i), length-seen inc trace))),
  seen_past i inc trace h.1,
)

pub seen_past_of : (i n : ℕ) (inc : Incarnation) (trace : List SlotNote) → Numbered trace
    → IsSeenPast inc (map (given i) (drop n (seen inc trace)))
seen_past_of i n inc trace h =
    subst (λ t. IsSeenPast inc (map (given i) t)) (sym (drop_seen n inc trace)) (seen_past i inc (drop n trace) (numbered_drop n trace h))

pub history-is : (i : ℕ) (s : RunState)
    → history i s ≡ map (given i) (drop (node_at s.nodes i).unread (seen (node_at s.nodes i).present s.trace))
unfolding history
history-is i s = ap (λ t. map (given i) (drop (node_at s.nodes i).unread t)) (trace_for-is (node_at s.nodes i).present s.trace)

-- the present incarnation has read what it would have read if it ended now
pub ended_history-present : (i : ℕ) (s : RunState) → (node_at s.nodes i).unread ≤ length s.trace
    → ended_history i s.trace (record { incarnation = (node_at s.nodes i).present; next = reads s i; stopped = (node_at s.nodes i).stopped }) ≡ history i s
unfolding ended_history
ended_history-present i s within =
    let left : length s.trace - reads s i ≡ (node_at s.nodes i).unread = omega (arith, within) in
    ap (λ n. map (given i) (drop n (seen (node_at s.nodes i).present s.trace))) left ∙ sym (history-is i s)
