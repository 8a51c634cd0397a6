-- What one more slot makes of the slots of all messages: those of one message change, if any do.
use Rattle.std.proofs.Common.{◌≡◌, ℕ, zero, suc, ◌==◌, ◌&&◌, Bool, true, false, List, [], ◌∷◌, map, set, length, get_or, replicate, refl, ap, sym, ◌∙◌, arith, inl, inr}
use Rattle.std.specs.Prelude.{option_map, slice_get, Some, None}
use Rattle.std.specs.List.{position, position_or_len}
use Rattle.std.proofs.lemmas.Bool.{and_parts, cases_Bool, cases_lt, eqb-true, false≢true, lt-ltb}
use Rattle.std.proofs.lemmas.List.Quantifiers.{position-Some}
use Rattle.std.proofs.lemmas.List.Sums.{fails_before_first}
use Rattle.std.proofs.lemmas.Option.{get_or_from_slice_get, slice_get-get_or, slice_get-map, slice_get_within}
use Rattle.cany_base.specs.declared.message.MsgKey.{MsgKey}
use Rattle.cany_base.specs.declared.slot_note.SlotNote.{SlotNote}
use Rattle.cany_base.specs.Frame.{FrameParts}
use Rattle.cany_model.specs.Bus.Frames.{identity_of, is_of, same_class, same_identity}
use Rattle.cany_model.specs.Bus.Slot.{carried}
use Rattle.cany_model.specs.Promises.FirstSlots.{first_carried}
use Rattle.cany_check.specs.declared.account.message_slots.MessageSlots.{MessageSlots}
use Rattle.cany_check.specs.declared.account.record.MessageRecord.{MessageRecord}
use Rattle.cany_check.specs.Accounts.Account.{first_where, last_carried}
use Rattle.cany_check.specs.Accounts.Places.{AreNumbered, place_of}
use Rattle.cany_check.specs.Accounts.Records.{message_slots, record_id, slots_after}
use Rattle.cany_check.specs.Accounts.Words.{same_key}
use Rattle.cany_check.proofs.Deciding.Decided.{same_key-self, same_key-true}
use Rattle.cany_check.proofs.Accounts.NumberedFacts.{one_place}
use Rattle.cany_check.proofs.Accounts.SlotFacts.{message_more, message_same}

-- ---- lists

pub same_maps : {X Y : Type 0} (f g : X → Y) (xs : List X) → ((j : ℕ) (x : X) → slice_get xs j ≡ Some x → f x ≡ g x) → map f xs ≡ map g xs
same_maps f g [] h = refl
same_maps f g (x ∷ xs) h = ap (λ y. y ∷ map f xs) (h 0 x refl) ∙ ap (λ l. g x ∷ l) (same_maps f g xs (λ j y at. h (suc j) y at))

-- one is set, where the others are the same
pub one_set : {X Y : Type 0} (f g : X → Y) (xs : List X) (k : ℕ) (x : X) → slice_get xs k ≡ Some x
    → ((j : ℕ) (y : X) → slice_get xs j ≡ Some y → (j ≡ k → ⊥) → f y ≡ g y) → set (map f xs) k (g x) ≡ map g xs
one_set f g [] k x at h = absurd (cc)
one_set f g (y ∷ xs) zero x at h =
    let here : y ≡ x = cc in
    ap (λ z. g z ∷ map f xs) (sym here) ∙ ap (λ l. g y ∷ l) (same_maps f g xs (λ j z e. h (suc j) z e (λ same. absurd (omega (arith, same)))))
one_set f g (y ∷ xs) (suc k) x at h =
    ap (λ z. z ∷ set (map f xs) k (g x)) (h 0 y refl (λ same. absurd (omega (arith, same))))
    ∙ ap (λ l. g y ∷ l) (one_set f g xs k x at (λ j z e other. h (suc j) z e (λ same. other (omega (arith, same)))))

-- ---- places

pub found_at : {X : Type 0} (p : X → Bool) (xs : List X) (k : ℕ) → position p xs ≡ Some k → (x : X) × (slice_get xs k ≡ Some x) × (p x ≡ true)
found_at p [] k h = absurd (cc)
found_at p (y ∷ xs) k h =
    let at = position-Some p (y ∷ xs) k y h in
    (get_or (y ∷ xs) k y, slice_get-get_or (y ∷ xs) k y at.0, at.1)

pub none_passes : {X : Type 0} (p : X → Bool) (xs : List X) → position p xs ≡ None → (j : ℕ) (x : X) → slice_get xs j ≡ Some x → p x ≡ false
none_passes p xs h j x at = elim (cases_lt (position_or_len p xs) (length xs)) [
  | inl below ↦ absurd (let some : Some (position_or_len p xs) ≡ None = rw (lt-ltb (position_or_len p xs) (length xs) below) at h in cc)
  | inr past ↦
      let within = slice_get_within xs j x at in
      ap p (sym (get_or_from_slice_get xs j x x at)) ∙ fails_before_first p xs j x (omega (arith, past, within))
]

-- ---- a slot that carried a frame

-- what a frame names, if it carries the data of a message
abbrev pub key_of : FrameParts → MsgKey
key_of f = record { origin = f.node; seq = f.number }

-- a message with another key
other_key : (m : MessageRecord) (note : SlotNote) (f : FrameParts) → note.frame ≡ Some f → same_key m.key (key_of f) ≡ false → carried (is_of (record_id m)) note ≡ false
unfolding same_identity
other_key m note f is other = elim (cases_Bool (carried (is_of (record_id m)) note)) [
  | inr fails ↦ fails
  | inl passes ↦
      let here : same_identity (record_id m) (identity_of f) ≡ true = rw is at passes in
      let first = and_parts (same_class (record_id m).class f.class && m.key.seq == f.number) (m.key.origin == f.node) here in
      let second = and_parts (same_class (record_id m).class f.class) (m.key.seq == f.number) first.0 in
      let key : m.key ≡ key_of f = λ k. record { origin = (eqb-true m.key.origin f.node first.1) k; seq = (eqb-true m.key.seq f.number second.1) k } in
      absurd (false≢true (sym other ∙ same_key-self m.key (key_of f) key))
]

module _ (messages : List MessageRecord) (note : SlotNote) (trace : List SlotNote) where
  -- none was carried
  pub idle : note.frame ≡ None → map (message_slots trace) messages ≡ map (message_slots (note ∷ trace)) messages
  idle is = same_maps (message_slots trace) (message_slots (note ∷ trace)) messages (λ j m at. sym (message_same m note trace (rw is refl)))

  module _ (f : FrameParts) (is : note.frame ≡ Some f) where
    pub of_no_message : place_of (key_of f) messages ≡ None → map (message_slots trace) messages ≡ map (message_slots (note ∷ trace)) messages
    of_no_message none =
        same_maps (message_slots trace) (message_slots (note ∷ trace)) messages
        (λ j m at. sym (message_same m note trace (other_key m note f is (none_passes (λ (x : MessageRecord). same_key x.key (key_of f)) messages none j m at))))

    pub of_message : AreNumbered messages → (k : ℕ) (m : MessageRecord) → place_of (key_of f) messages ≡ Some k → slice_get messages k ≡ Some m
        → set (map (message_slots trace) messages) k (slots_after m note (message_slots trace m)) ≡ map (message_slots (note ∷ trace)) messages
    of_message numbered k m found at =
        ap (set (map (message_slots trace) messages) k) (sym (message_more m note trace))
        ∙ one_set (message_slots trace) (message_slots (note ∷ trace)) messages k m at others
      where
        key : m.key ≡ key_of f
        key =
            let w = found_at (λ (x : MessageRecord). same_key x.key (key_of f)) messages k found in
            let some : Some w.0 ≡ Some m = sym w.1 ∙ at in
            let here : w.0 ≡ m = cc in
            ap (λ (x : MessageRecord). x.key) (sym here) ∙ same_key-true w.0.key (key_of f) w.2

        others : (j : ℕ) (x : MessageRecord) → slice_get messages j ≡ Some x → (j ≡ k → ⊥) → message_slots trace x ≡ message_slots (note ∷ trace) x
        others j x at_j other = elim (cases_Bool (same_key x.key (key_of f))) [
          | inl same ↦ absurd (other (one_place messages numbered j k x m at_j at (same_key-true x.key (key_of f) same ∙ sym key)))
          | inr fails ↦ sym (message_same x note trace (other_key x note f is fails))
        ]

    -- the same, where what changes is read off the slots so far
    pub of_message_at : AreNumbered messages → (k : ℕ) (m : MessageRecord) (slots : List MessageSlots) (d r : MessageSlots) → slots ≡ map (message_slots trace) messages
        → place_of (key_of f) messages ≡ Some k → slice_get messages k ≡ Some m → r ≡ slots_after m note (get_or slots k d)
        → set slots k r ≡ map (message_slots (note ∷ trace)) messages
    of_message_at numbered k m slots d r so found at is_r =
        let before : get_or slots k d ≡ message_slots trace m =
        ap (λ l. get_or l k d) so
        ∙ get_or_from_slice_get (map (message_slots trace) messages) k (message_slots trace m) d
        (slice_get-map (message_slots trace) messages k ∙ ap (option_map (message_slots trace)) at) in
        ap (set slots k) (is_r ∙ ap (slots_after m note) before) ∙ ap (λ l. set l k (slots_after m note (message_slots trace m))) so ∙ of_message numbered k m found at

-- ---- before the first slot

pub at_first : (messages : List MessageRecord) → replicate (length messages) (record { sent = None; carried = None }) ≡ map (message_slots []) messages
unfolding first_where first_carried last_carried
at_first [] = refl
at_first (m ∷ messages) = ap (λ l. record { sent = None; carried = None } ∷ l) (at_first messages)
