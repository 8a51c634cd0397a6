-- What one more slot makes of the slots of a message and of a failure sign.
use Rattle.std.proofs.Common.{◌≡◌, ℕ, Bool, true, false, List, [], ◌∷◌, refl, ap, ◌∙◌, inl, inr}
use Rattle.std.specs.Prelude.{if◌then◌else◌, Option, Some, None}
use Rattle.std.specs.Option.{option_or}
use Rattle.std.proofs.lemmas.Bool.{cases_Bool}
use Rattle.cany_base.specs.declared.slot_note.SlotNote.{SlotNote}
use Rattle.cany_base.specs.Frame.{FrameParts}
use Rattle.cany_model.specs.Bus.Frames.{Identity, identity_of, is_of, same_frame, same_identity}
use Rattle.cany_model.specs.Bus.Slot.{carried}
use Rattle.cany_model.specs.Bus.State.{RunState}
use Rattle.cany_model.specs.Promises.FirstSlots.{first_carried}
use Rattle.cany_model.specs.Rules.Knowledge.{FailureSign, fda_of}
use Rattle.cany_check.specs.declared.account.record.MessageRecord.{MessageRecord}
use Rattle.cany_check.specs.Accounts.Account.{first_and_last, first_where, last_carried, slots_of}
use Rattle.cany_check.specs.Accounts.Records.{message_slots, record_id, sends_record, sign_so_far, slots_after, with_last}

-- ---- the slots that carried a frame of an identity

-- there are both or none
abbrev AreBoth : Option ℕ → Option ℕ → Type 0
AreBoth None None = Unit {0}
AreBoth (Some first) (Some last) = Unit {0}
AreBoth None (Some last) = ⊥
AreBoth (Some first) None = ⊥

first_some : (o : Option ℕ) (slot : ℕ) → AreBoth (option_or o (Some slot)) (Some slot)
first_some None slot = tt
first_some (Some first) slot = tt

first_none : (o : Option ℕ) → option_or o None ≡ o
first_none None = refl
first_none (Some first) = refl

are_both : (x : Identity) (trace : List SlotNote) → AreBoth (first_carried x trace) (last_carried x trace)
unfolding first_carried last_carried
are_both x [] = tt
are_both x (note ∷ before) = elim (cases_Bool (carried (is_of x) note)) [
  | inl passes ↦ rw passes (first_some (first_carried x before) note.slot)
  | inr fails ↦ rw (fails, first_none (first_carried x before)) (are_both x before)
]

one_more : (first last : Option ℕ) (now : Bool) (slot : ℕ) → AreBoth first last
    → first_and_last (option_or first (if now then Some slot else None)) (if now then Some slot else last)
    ≡ (if now then with_last (first_and_last first last) slot else first_and_last first last)
one_more None None true slot h = refl
one_more None None false slot h = refl
one_more (Some a) (Some b) true slot h = refl
one_more (Some a) (Some b) false slot h = refl
one_more None (Some b) now slot h = absurd h
one_more (Some a) None now slot h = absurd h

pub slots_more : (x : Identity) (note : SlotNote) (trace : List SlotNote)
    → slots_of x (note ∷ trace) ≡ (if carried (is_of x) note then with_last (slots_of x trace) note.slot else slots_of x trace)
unfolding first_carried last_carried
slots_more x note trace = one_more (first_carried x trace) (last_carried x trace) (carried (is_of x) note) note.slot (are_both x trace)

pub slots_same : (x : Identity) (note : SlotNote) (trace : List SlotNote) → carried (is_of x) note ≡ false → slots_of x (note ∷ trace) ≡ slots_of x trace
slots_same x note trace fails = slots_more x note trace ∙ ap (λ b. if b then with_last (slots_of x trace) note.slot else slots_of x trace) fails

pub slots_now : (x : Identity) (note : SlotNote) (trace : List SlotNote) → carried (is_of x) note ≡ true → slots_of x (note ∷ trace) ≡ with_last (slots_of x trace) note.slot
slots_now x note trace passes = slots_more x note trace ∙ ap (λ b. if b then with_last (slots_of x trace) note.slot else slots_of x trace) passes

-- ---- those of a message

pub message_more : (m : MessageRecord) (note : SlotNote) (trace : List SlotNote) → message_slots (note ∷ trace) m ≡ slots_after m note (message_slots trace m)
unfolding first_where
message_more m note trace =
    let more = slots_more (record_id m) note trace in
    λ k. record { sent = option_or (first_where (sends_record m) trace) (if sends_record m note then Some note.slot else None); carried = more k }

-- a slot that carried no frame of its identity did not send it
not_sent : (m : MessageRecord) (note : SlotNote) → carried (is_of (record_id m)) note ≡ false → sends_record m note ≡ false
unfolding same_frame
not_sent m note fails = by_frame note.frame refl
  where
    by_frame : (o : Option FrameParts) → note.frame ≡ o → sends_record m note ≡ false
    by_frame None is = rw is refl
    by_frame (Some f) is =
        let other : same_identity (record_id m) (identity_of f) ≡ false = rw is at fails in
        rw (is, other) refl

pub message_same : (m : MessageRecord) (note : SlotNote) (trace : List SlotNote) → carried (is_of (record_id m)) note ≡ false
    → message_slots (note ∷ trace) m ≡ message_slots trace m
message_same m note trace fails =
    message_more m note trace ∙ rw (fails, not_sent m note fails) (λ k. record { sent = (first_none (first_where (sends_record m) trace)) k; carried = slots_of (record_id m) trace })

-- ---- those of a sign

pub sign_same : (s : RunState) (sign : FailureSign) (note : SlotNote) (trace : List SlotNote) → carried (is_of (fda_of sign)) note ≡ false
    → sign_so_far s (note ∷ trace) sign ≡ sign_so_far s trace sign
sign_same s sign note trace fails = ap (λ o. record (sign_so_far s trace sign) { carried = o }) (slots_same (fda_of sign) note trace fails)

pub sign_now : (s : RunState) (sign : FailureSign) (note : SlotNote) (trace : List SlotNote) → carried (is_of (fda_of sign)) note ≡ true
    → sign_so_far s (note ∷ trace) sign ≡ record (sign_so_far s trace sign) { carried = with_last (sign_so_far s trace sign).carried note.slot }
sign_now s sign note trace passes = ap (λ o. record (sign_so_far s trace sign) { carried = o }) (slots_now (fda_of sign) note trace passes)
