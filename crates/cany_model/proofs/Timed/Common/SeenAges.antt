-- What an incarnation sees of the slot of an age, and what that slot was.
use Rattle.std.proofs.Common.{◌≡◌, ℕ, zero, suc, ◌<◌, true, false, List, [], ◌∷◌, None, length, refl, ap, sym, ◌∙◌, subst, arith}
use Rattle.std.proofs.lemmas.Bool.{false≢true}
use Rattle.cany_base.specs.declared.message.MsgKey.{MsgKey}
use Rattle.cany_base.specs.declared.slot_note.SlotNote.{SlotNote}
use Rattle.cany_model.specs.Bus.Frames.{Identity}
use Rattle.cany_model.specs.Bus.History.{as_seen, given, is_got, is_hidden, is_sent, seen}
use Rattle.cany_model.specs.Bus.State.{Incarnation}
use Rattle.cany_model.specs.Promises.Hypothesis.{is_partial_slot_of}
use Rattle.cany_model.specs.Rules.Totcan.{tot_of_key}
use Rattle.cany_model.proofs.Bus.Notes.{given_idle}
use Rattle.cany_model.proofs.Bus.Seen.{seen_one, seen_plain}
use Rattle.cany_model.proofs.Bus.States.{note_at, no_note}
use Rattle.cany_model.proofs.Timed.Common.Ages.{Carried, Clean, Done, Gets, Sends, carries, carries_clean}

-- the incarnation sees the slot of this age
abbrev pub Sees : Incarnation → List SlotNote → ℕ → Type 0
Sees inc T p = is_hidden inc (note_at T p) ≡ false

pub note_at-seen : (inc : Incarnation) (T : List SlotNote) (p : ℕ) → p < length T → note_at (seen inc T) p ≡ as_seen inc (note_at T p)
note_at-seen inc [] p h = absurd (omega (arith, h))
note_at-seen inc (note ∷ T) zero h = refl
note_at-seen inc (note ∷ T) (suc p) h = note_at-seen inc T p (omega (arith, h))

-- ---- what holds of no slot without a frame

abbrev pub IsOfFrame : (SlotNote → Type 0) → Type 0
IsOfFrame P = (note : SlotNote) → note.frame ≡ None → P note → ⊥

pub from_seen : (P : SlotNote → Type 0) → IsOfFrame P → (inc : Incarnation) (T : List SlotNote) (p : ℕ) → P (note_at (seen inc T) p)
    → Sees inc T p × P (note_at T p)
from_seen P never inc [] p h = absurd (never no_note refl h)
from_seen P never inc (note ∷ T) zero h = seen_one P never inc note h
from_seen P never inc (note ∷ T) (suc p) h = from_seen P never inc T p h

pub to_seen : (P : SlotNote → Type 0) (inc : Incarnation) (T : List SlotNote) (p : ℕ) → Sees inc T p → P (note_at T p) → P (note_at (seen inc T) p)
to_seen P inc [] p plain h = h
to_seen P inc (note ∷ T) zero plain h = subst P (sym (seen_plain inc note plain)) h
to_seen P inc (note ∷ T) (suc p) plain h = to_seen P inc T p plain h

carried_frame : (x : Identity) → IsOfFrame (λ note. carries x note ≡ true)
carried_frame x note none h = false≢true (rw none at h)

clean_frame : (x : Identity) → IsOfFrame (λ note. carries_clean x note ≡ true)
clean_frame x note none h = false≢true (rw none at h)

got_frame : (i : ℕ) (x : Identity) → IsOfFrame (λ note. is_got x (given i note) ≡ true)
got_frame i x note none h = false≢true (sym (ap (is_got x) (given_idle i note none)) ∙ h)

sent_frame : (i : ℕ) (x : Identity) → IsOfFrame (λ note. is_sent x (given i note) ≡ true)
sent_frame i x note none h = false≢true (sym (ap (is_sent x) (given_idle i note none)) ∙ h)

partial_frame : (x : Identity) → IsOfFrame (λ note. is_partial_slot_of x note ≡ true)
partial_frame x note none h = false≢true (rw none at h)

-- ---- what it sees, was so

pub carried_from : (inc : Incarnation) (T : List SlotNote) (p : ℕ) (x : Identity) → Carried (seen inc T) p x → Sees inc T p × Carried T p x
carried_from inc T p x h = from_seen (λ note. carries x note ≡ true) (carried_frame x) inc T p h

pub clean_from : (inc : Incarnation) (T : List SlotNote) (p : ℕ) (x : Identity) → Clean (seen inc T) p x → Sees inc T p × Clean T p x
clean_from inc T p x h = from_seen (λ note. carries_clean x note ≡ true) (clean_frame x) inc T p h

pub done_from : (inc : Incarnation) (T : List SlotNote) (p : ℕ) (m : MsgKey) → Done (seen inc T) p m → Sees inc T p × Done T p m
done_from inc T p m h = clean_from inc T p (tot_of_key m) h

pub gets_from : (inc : Incarnation) (T : List SlotNote) (i p : ℕ) (x : Identity) → Gets i (seen inc T) p x → Sees inc T p × Gets i T p x
gets_from inc T i p x h = from_seen (λ note. is_got x (given i note) ≡ true) (got_frame i x) inc T p h

pub sends_from : (inc : Incarnation) (T : List SlotNote) (i p : ℕ) (x : Identity) → Sends i (seen inc T) p x → Sees inc T p × Sends i T p x
sends_from inc T i p x h = from_seen (λ note. is_sent x (given i note) ≡ true) (sent_frame i x) inc T p h

pub partial_from : (inc : Incarnation) (T : List SlotNote) (p : ℕ) (x : Identity) → is_partial_slot_of x (note_at (seen inc T) p) ≡ true
    → Sees inc T p × (is_partial_slot_of x (note_at T p) ≡ true)
partial_from inc T p x h = from_seen (λ note. is_partial_slot_of x note ≡ true) (partial_frame x) inc T p h

-- ---- what was so, it sees where the slot is not hidden

pub carried_to : (inc : Incarnation) (T : List SlotNote) (p : ℕ) (x : Identity) → Sees inc T p → Carried T p x → Carried (seen inc T) p x
carried_to inc T p x plain h = to_seen (λ note. carries x note ≡ true) inc T p plain h

pub clean_to : (inc : Incarnation) (T : List SlotNote) (p : ℕ) (x : Identity) → Sees inc T p → Clean T p x → Clean (seen inc T) p x
clean_to inc T p x plain h = to_seen (λ note. carries_clean x note ≡ true) inc T p plain h

pub done_to : (inc : Incarnation) (T : List SlotNote) (p : ℕ) (m : MsgKey) → Sees inc T p → Done T p m → Done (seen inc T) p m
done_to inc T p m plain h = clean_to inc T p (tot_of_key m) plain h

pub gets_to : (inc : Incarnation) (T : List SlotNote) (i p : ℕ) (x : Identity) → Sees inc T p → Gets i T p x → Gets i (seen inc T) p x
gets_to inc T i p x plain h = to_seen (λ note. is_got x (given i note) ≡ true) inc T p plain h

pub sends_to : (inc : Incarnation) (T : List SlotNote) (i p : ℕ) (x : Identity) → Sees inc T p → Sends i T p x → Sends i (seen inc T) p x
sends_to inc T i p x plain h = to_seen (λ note. is_sent x (given i note) ≡ true) inc T p plain h

pub partial_to : (inc : Incarnation) (T : List SlotNote) (p : ℕ) (x : Identity) → Sees inc T p → is_partial_slot_of x (note_at T p) ≡ true
    → is_partial_slot_of x (note_at (seen inc T) p) ≡ true
partial_to inc T p x plain h = to_seen (λ note. is_partial_slot_of x note ≡ true) inc T p plain h
