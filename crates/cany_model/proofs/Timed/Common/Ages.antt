-- What a node has read, by the ages of the slots.
use Rattle.std.proofs.Common.{◌≡◌, ℕ, zero, suc, ◌+◌, ◌<◌, ◌≤◌, ◌&&◌, inl, inr, Bool, true, false, List, [], ◌∷◌, map, take, drop, length, slice_index_or, refl, ap, sym, ◌∙◌, arith}
use Rattle.std.specs.List.{list_any}
use Rattle.std.proofs.lemmas.Bool.{false≢true, or_cases, or_left, or_right, both_ways, cases_Bool, and_parts}
use Rattle.cany_base.specs.declared.message.MsgKey.{MsgKey}
use Rattle.cany_base.specs.declared.notice.NoticeKind.{NoticeKind}
use Rattle.cany_base.specs.declared.notice.NoticeKind.TheVariants.{Idle}
use Rattle.cany_base.specs.declared.slot_note.SlotNote.{SlotNote}
use Rattle.cany_model.specs.Bus.Frames.{Identity, is_of}
use Rattle.cany_model.specs.Bus.History.{given, is_got, is_sent, copies, has_own}
use Rattle.cany_model.specs.Bus.Slot.{carried, is_clean}
use Rattle.cany_model.specs.Rules.Totcan.{after_place, holds, is_recent, tot_of_key}
use Rattle.cany_model.proofs.Among.{count-yes, count-grows}
use Rattle.cany_model.proofs.Bus.Notes.{given_idle}
use Rattle.cany_model.proofs.Bus.States.{note_at, no_note}

-- what node i has read of a trace of which so many are unread
abbrev pub past : ℕ → List SlotNote → ℕ → List NoticeKind
past i trace unread = map (given i) (drop unread trace)

-- what the slot of this age gave node i
abbrev pub gave : ℕ → List SlotNote → ℕ → NoticeKind
gave i trace age = given i (note_at trace age)

abbrev pub Gets : ℕ → List SlotNote → ℕ → Identity → Type 0
Gets i trace age x = is_got x (gave i trace age) ≡ true

abbrev pub Sends : ℕ → List SlotNote → ℕ → Identity → Type 0
Sends i trace age x = is_sent x (gave i trace age) ≡ true

abbrev pub carries : Identity → SlotNote → Bool
carries x note = carried (is_of x) note

abbrev pub Carried : List SlotNote → ℕ → Identity → Type 0
Carried trace age x = carries x (note_at trace age) ≡ true

abbrev pub carries_clean : Identity → SlotNote → Bool
carries_clean x note = carries x note && is_clean note.verdict

abbrev pub Clean : List SlotNote → ℕ → Identity → Type 0
Clean trace age x = carries_clean x (note_at trace age) ≡ true

-- the data of the message were carried Clean
abbrev pub Done : List SlotNote → ℕ → MsgKey → Type 0
Done trace age m = Clean trace age (tot_of_key m)

pub gave_none : (i age : ℕ) → gave i [] age ≡ Idle
gave_none i age = given_idle i no_note refl

pub carried_there : (x : Identity) (trace : List SlotNote) (age : ℕ) → Carried trace age x → age < length trace
carried_there x [] age h = absurd (false≢true h)
carried_there x (note ∷ trace) zero h = omega arith
carried_there x (note ∷ trace) (suc age) h = omega (arith, carried_there x trace age h)

pub clean_carried : (x : Identity) (note : SlotNote) → carries_clean x note ≡ true → carries x note ≡ true
clean_carried x note h = (and_parts (carries x note) (is_clean note.verdict) h).0

-- ---- tests of what was read

pub any_take : (t : NoticeKind → Bool) (i b u : ℕ) (trace : List SlotNote) → list_any t (take b (past i trace u)) ≡ true
    → (q : ℕ) × (u ≤ q) × (q < u + b) × (t (gave i trace q) ≡ true)
any_take t i zero zero trace h = absurd (false≢true h)
any_take t i (suc b) zero [] h = absurd (false≢true h)
any_take t i (suc b) zero (note ∷ trace) h = elim (or_cases (t (given i note)) (list_any t (take b (map (given i) trace))) h) [
  | inl now ↦ (0, omega arith, omega arith, now)
  | inr before ↦ let r = any_take t i b 0 trace before in (suc r.0, omega arith, omega (arith, r.2), r.3)
]
any_take t i zero (suc u) trace h = absurd (false≢true h)
any_take t i (suc b) (suc u) [] h = absurd (false≢true h)
any_take t i (suc b) (suc u) (note ∷ trace) h = let r = any_take t i (suc b) u trace h in (suc r.0, omega (arith, r.1), omega (arith, r.2), r.3)

pub any_past : (t : NoticeKind → Bool) (i u : ℕ) (trace : List SlotNote) → list_any t (past i trace u) ≡ true → (q : ℕ) × (u ≤ q) × (t (gave i trace q) ≡ true)
any_past t i u [] h = absurd (by_unread u h)
  where
    by_unread : (u : ℕ) → list_any t (past i [] u) ≡ true → ⊥
    by_unread zero h = false≢true h
    by_unread (suc u) h = false≢true h
any_past t i zero (note ∷ trace) h = elim (or_cases (t (given i note)) (list_any t (map (given i) trace)) h) [
  | inl now ↦ (0, omega arith, now)
  | inr before ↦ let r = any_past t i 0 trace before in (suc r.0, omega arith, r.2)
]
any_past t i (suc u) (note ∷ trace) h = let r = any_past t i u trace h in (suc r.0, omega (arith, r.1), r.2)

pub some_take : (t : NoticeKind → Bool) (i b u q : ℕ) (trace : List SlotNote) → t Idle ≡ false → u ≤ q → q < u + b → t (gave i trace q) ≡ true
    → list_any t (take b (past i trace u)) ≡ true
some_take t i b u q [] idle from to h = absurd (both_ways (t Idle) idle (ap t (sym (gave_none i q)) ∙ h))
some_take t i zero u q (note ∷ trace) idle from to h = absurd (omega (arith, from, to))
some_take t i (suc b) zero zero (note ∷ trace) idle from to h = or_left (t (given i note)) (list_any t (take b (map (given i) trace))) h
some_take t i (suc b) zero (suc q) (note ∷ trace) idle from to h = or_right (t (given i note)) (list_any t (take b (map (given i) trace))) (some_take t i b 0 q trace idle (omega arith) (omega (arith, to)) h)
some_take t i (suc b) (suc u) zero (note ∷ trace) idle from to h = absurd (omega (arith, from))
some_take t i (suc b) (suc u) (suc q) (note ∷ trace) idle from to h = some_take t i (suc b) u q trace idle (omega (arith, from)) (omega (arith, to)) h

pub none_take : (t : NoticeKind → Bool) (i b u q : ℕ) (trace : List SlotNote) → t Idle ≡ false → list_any t (take b (past i trace u)) ≡ false → u ≤ q → q < u + b
    → t (gave i trace q) ≡ true → ⊥
none_take t i b u q trace idle none from to h = both_ways (list_any t (take b (past i trace u))) none (some_take t i b u q trace idle from to h)

pub some_past : (t : NoticeKind → Bool) (i u q : ℕ) (trace : List SlotNote) → t Idle ≡ false → u ≤ q → t (gave i trace q) ≡ true → list_any t (past i trace u) ≡ true
some_past t i u q [] idle from h = absurd (both_ways (t Idle) idle (ap t (sym (gave_none i q)) ∙ h))
some_past t i zero zero (note ∷ trace) idle from h = or_left (t (given i note)) (list_any t (map (given i) trace)) h
some_past t i zero (suc q) (note ∷ trace) idle from h = or_right (t (given i note)) (list_any t (map (given i) trace)) (some_past t i 0 q trace idle (omega arith) h)
some_past t i (suc u) zero (note ∷ trace) idle from h = absurd (omega (arith, from))
some_past t i (suc u) (suc q) (note ∷ trace) idle from h = some_past t i u q trace idle (omega (arith, from)) h

pub at_past : (i b u : ℕ) (trace : List SlotNote) → slice_index_or (past i trace u) b Idle ≡ gave i trace (u + b)
at_past i b u [] = by_unread u ∙ sym (gave_none i (u + b))
  where
    by_unread : (u : ℕ) → slice_index_or (past i [] u) b Idle ≡ Idle
    by_unread zero = refl
    by_unread (suc u) = refl
at_past i zero zero (note ∷ trace) = refl
at_past i (suc b) zero (note ∷ trace) =
    let e : 0 + b ≡ b = omega arith in
    let e' : 0 + suc b ≡ suc b = omega arith in
    at_past i b 0 trace ∙ ap (λ a. gave i trace a) e ∙ sym (ap (λ a. gave i (note ∷ trace) a) e')
at_past i b (suc u) (note ∷ trace) =
    let e : suc u + b ≡ suc (u + b) = omega arith in
    at_past i b u trace ∙ sym (ap (λ a. gave i (note ∷ trace) a) e)

-- ---- the place

pub holds_idle : (m : MsgKey) → holds m Idle ≡ false
holds_idle m = refl

pub open_place : (b i u : ℕ) (m : MsgKey) (trace : List SlotNote) → is_recent b m (past i trace u) ≡ true → (q : ℕ) × (u ≤ q) × (q < u + b) × (holds m (gave i trace q) ≡ true)
unfolding is_recent
open_place b i u m trace h = any_take (holds m) i b u trace h

pub open_from : (b i u q : ℕ) (m : MsgKey) (trace : List SlotNote) → u ≤ q → q < u + b → holds m (gave i trace q) ≡ true → is_recent b m (past i trace u) ≡ true
unfolding is_recent
open_from b i u q m trace from to h = some_take (holds m) i b u q trace refl from to h

-- nothing newer than the age holds the message
abbrev pub NoPlace : ℕ → ℕ → ℕ → MsgKey → List SlotNote → Type 0
NoPlace i u q m trace = (p : ℕ) → u ≤ p → p ≤ q → holds m (gave i trace p) ≡ true → ⊥

pub after_place_any : (t : NoticeKind → Bool) (i u q : ℕ) (m : MsgKey) (trace : List SlotNote) → t Idle ≡ false → NoPlace i u q m trace → u ≤ q → t (gave i trace q) ≡ true
    → list_any t (after_place m (past i trace u)) ≡ true
unfolding after_place
after_place_any t i u q m [] idle none from h = absurd (both_ways (t Idle) idle (ap t (sym (gave_none i q)) ∙ h))
after_place_any t i zero zero m (note ∷ trace) idle none from h =
    elim (cases_Bool (holds m (given i note))) [ inl held ↦ absurd (none 0 (omega arith) (omega arith) held) | inr free ↦ rw free (or_left (t (given i note)) _ h) ]
after_place_any t i zero (suc q) m (note ∷ trace) idle none from h =
    let rest = after_place_any t i 0 q m trace idle (λ p a b. none (suc p) (omega arith) (omega (arith, b))) (omega arith) h in
    elim (cases_Bool (holds m (given i note))) [ inl held ↦ absurd (none 0 (omega arith) (omega arith) held) | inr free ↦ rw free (or_right (t (given i note)) _ rest) ]
after_place_any t i (suc u) zero m (note ∷ trace) idle none from h = absurd (omega (arith, from))
after_place_any t i (suc u) (suc q) m (note ∷ trace) idle none from h = after_place_any t i u q m trace idle (λ p a b. none (suc p) (omega (arith, a)) (omega (arith, b))) (omega (arith, from)) h

count_any : (x : Identity) (l : List NoticeKind) → list_any (is_got x) l ≡ true → 0 < copies x l
unfolding copies
count_any x [] h = absurd (false≢true h)
count_any x (e ∷ l) h = elim (or_cases (is_got x e) (list_any (is_got x) l) h) [
  | inl now ↦ omega (arith, count-yes (is_got x) e l now)
  | inr before ↦ omega (arith, count-grows (is_got x) e l, count_any x l before)
]

pub copies_after_place : (i u q : ℕ) (m : MsgKey) (x : Identity) (trace : List SlotNote) → NoPlace i u q m trace → u ≤ q → Gets i trace q x → 0 < copies x (after_place m (past i trace u))
copies_after_place i u q m x trace none from h = count_any x (after_place m (past i trace u)) (after_place_any (is_got x) i u q m trace refl none from h)

pub own_after_place : (i u q : ℕ) (m : MsgKey) (x : Identity) (trace : List SlotNote) → NoPlace i u q m trace → u ≤ q → Sends i trace q x → has_own x (after_place m (past i trace u)) ≡ true
unfolding has_own
own_after_place i u q m x trace none from h = after_place_any (is_sent x) i u q m trace refl none from h
