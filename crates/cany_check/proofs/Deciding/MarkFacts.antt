-- The marks of the messages that a log delivers, one entry after another.
use Rattle.std.proofs.Common.{◌≡◌, ℕ, zero, suc, ◌+◌, ◌<◌, ◌≤◌, ◌==◌, ◌&&◌, ◌||◌, Bool, true, false, not, List, [], ◌∷◌, ◌++◌, set, length, get_or, refl, ap, sym, ◌∙◌, arith, inl, inr, length-set}
use Rattle.std.specs.Prelude.{if◌then◌else◌, is_some, nat_le, slice_get, Option, Some, None}
use Rattle.std.specs.List.{list_any}
use Rattle.std.specs.Option.{option_map_or, option_or}
use Rattle.std.proofs.Math.Bool.{or-false, or-true}
use Rattle.std.proofs.lemmas.Bool.{and_parts, cases_Bool, cases_eq, eq-eqb, false≢true, ne_eqb}
use Rattle.std.proofs.lemmas.List.{get_or-set_other, get_or-set_same}
use Rattle.std.proofs.lemmas.List.Folds.{list_any-append}
use Rattle.std.proofs.lemmas.Option.{slice_get_within}
use Rattle.cany_base.specs.declared.log_entry.LogEntry.{LogEntry}
use Rattle.cany_base.specs.declared.log_entry.LogEntry.TheVariants.{Deliver, Failed, View}
use Rattle.cany_base.specs.declared.message.MsgKey.{MsgKey}
use Rattle.cany_base.specs.declared.message.Service.{Service}
use Rattle.cany_model.specs.Promises.Entries.{delivers_key}
use Rattle.cany_model.specs.Rules.Messages.{is_service}
use Rattle.std.specs.Str.{bytes_eq}
use Rattle.cany_check.specs.declared.account.record.MessageRecord.{MessageRecord}
use Rattle.cany_check.specs.declared.deciders.findings.EntryAt.{EntryAt}
use Rattle.cany_check.specs.Accounts.Account.{AccountParts, LogParts, running}
use Rattle.cany_check.specs.Deciding.Integrity.{first_wrong, first_wrong_of, is_wrong, was_sent_by_then, wrong_in}
use Rattle.cany_check.specs.Deciding.Marks.{AreBelow, AreMarked}
use Rattle.cany_check.specs.Accounts.Places.{AreNumbered, place_of}
use Rattle.cany_check.specs.Accounts.Words.{is_delivery, same_key}
use Rattle.cany_check.proofs.Deciding.Decided.{same_key-self, same_key-true}
use Rattle.cany_check.proofs.Accounts.MessageFacts.{found_at, none_passes}
use Rattle.cany_check.proofs.Accounts.NumberedFacts.{one_place}

-- ---- tests over lists

any_push : {X : Type 0} (t : X → Bool) (xs : List X) (y : X) → list_any t (xs ++ y ∷ []) ≡ (list_any t xs || t y)
any_push t xs y = list_any-append t xs (y ∷ []) ∙ ap (λ b. list_any t xs || b) (or-false (t y))

none_at : {X : Type 0} (t : X → Bool) (xs : List X) → ((j : ℕ) (x : X) → slice_get xs j ≡ Some x → t x ≡ false) → list_any t xs ≡ false
none_at t [] h = refl
none_at t (x ∷ xs) h = rw (h 0 x refl) (none_at t xs (λ j y at. h (suc j) y at))

-- only the element at one place can pass
one_at : {X : Type 0} (t : X → Bool) (xs : List X) (k : ℕ) (x : X) → slice_get xs k ≡ Some x
    → ((j : ℕ) (y : X) → slice_get xs j ≡ Some y → (j ≡ k → ⊥) → t y ≡ false) → list_any t xs ≡ t x
one_at t [] k x at h = absurd (cc)
one_at t (y ∷ xs) zero x at h =
    let here : y ≡ x = cc in
    let rest : list_any t xs ≡ false = none_at t xs (λ j z e. h (suc j) z e (λ same. absurd (omega (arith, same)))) in
    rw rest (or-false (t y)) ∙ ap t here
one_at t (y ∷ xs) (suc k) x at h =
    let first : t y ≡ false = h 0 y refl (λ same. absurd (omega (arith, same))) in
    rw first (one_at t xs k x at (λ j z e other. h (suc j) z e (λ same. other (omega (arith, same)))))

-- ---- entries and keys

-- an entry delivers one key
delivers_one : (entry : LogEntry) (a b : MsgKey) → delivers_key a entry ≡ true → delivers_key b entry ≡ true → a ≡ b
delivers_one (Deliver slot by msg payload) a b h k = sym (same_key-true msg a h) ∙ same_key-true msg b k
delivers_one (Failed slot node cycle) a b h k = absurd (false≢true h)
delivers_one (View slot number members) a b h k = absurd (false≢true h)

-- whether the message was sent by this slot
abbrev by_then : MessageRecord → ℕ → Bool
by_then m slot = option_map_or (λ sent. nat_le sent slot) m.sent false

-- what it delivers is a message of this key
delivered_key : (m : MessageRecord) (entry : LogEntry) (msg : MsgKey) → delivers_key msg entry ≡ true → was_sent_by_then entry m ≡ true → same_key m.key msg ≡ true
delivered_key m (Deliver slot by key payload) msg h sent =
    let whole = and_parts (is_delivery m (Deliver slot by key payload)) (by_then m slot) sent in
    let outer = and_parts (same_key m.key key && is_service m.service by) (bytes_eq m.payload payload) whole.0 in
    let inner = and_parts (same_key m.key key) (is_service m.service by) outer.0 in
    same_key-self m.key msg (same_key-true m.key key inner.0 ∙ same_key-true key msg h)
delivered_key m (Failed slot node cycle) msg h sent = absurd (false≢true h)
delivered_key m (View slot number members) msg h sent = absurd (false≢true h)

not_delivered : (m : MessageRecord) (entry : LogEntry) (msg : MsgKey) → delivers_key msg entry ≡ true → same_key m.key msg ≡ false → was_sent_by_then entry m ≡ false
not_delivered m entry msg h other = elim (cases_Bool (was_sent_by_then entry m)) [
  | inl sent ↦ absurd (false≢true (sym other ∙ delivered_key m entry msg h sent))
  | inr fails ↦ fails
]

-- ---- an entry that delivers a key

module _ (messages : List MessageRecord) (numbered : AreNumbered messages) (number : ℕ) (entry : LogEntry) (msg : MsgKey) (is : delivers_key msg entry ≡ true) where
  -- no message has it
  pub unknown_is_wrong : place_of msg messages ≡ None → (earlier : List LogEntry)
      → true ≡ (list_any (delivers_key msg) earlier || not (list_any (was_sent_by_then entry) messages))
  unknown_is_wrong none earlier =
      let not_sent : list_any (was_sent_by_then entry) messages ≡ false =
      none_at (was_sent_by_then entry) messages
      (λ j m at. not_delivered m entry msg is (none_passes (λ (x : MessageRecord). same_key x.key msg) messages none j m at)) in
      sym (ap (λ b. list_any (delivers_key msg) earlier || not b) not_sent ∙ or-true (list_any (delivers_key msg) earlier))

  module _ (k : ℕ) (m : MessageRecord) (found : place_of msg messages ≡ Some k) (at : slice_get messages k ≡ Some m) where
    key : m.key ≡ msg
    key =
        let w = found_at (λ (x : MessageRecord). same_key x.key msg) messages k found in
        let some : Some w.0 ≡ Some m = sym w.1 ∙ at in
        let here : w.0 ≡ m = cc in
        ap (λ (x : MessageRecord). x.key) (sym here) ∙ same_key-true w.0.key msg w.2

    other_key : (j : ℕ) (x : MessageRecord) → slice_get messages j ≡ Some x → (j ≡ k → ⊥) → same_key x.key msg ≡ false
    other_key j x at_j other = elim (cases_Bool (same_key x.key msg)) [
      | inl same ↦ absurd (other (one_place messages numbered j k x m at_j at (same_key-true x.key msg same ∙ sym key)))
      | inr fails ↦ fails
    ]

    pub wrong_is : (earlier : List LogEntry) (marks : List ℕ) → AreMarked messages number earlier marks
        → ((get_or marks k 0 == number) || not (was_sent_by_then entry m)) ≡ (list_any (delivers_key msg) earlier || not (list_any (was_sent_by_then entry) messages))
    wrong_is earlier marks marked =
        let sent : list_any (was_sent_by_then entry) messages ≡ was_sent_by_then entry m =
        one_at (was_sent_by_then entry) messages k m at (λ j x at_j other. not_delivered x entry msg is (other_key j x at_j other)) in
        ap (λ b. b || not (was_sent_by_then entry m)) (marked.exact k m at ∙ ap (λ x. list_any (delivers_key x) earlier) key)
        ∙ ap (λ b. list_any (delivers_key msg) earlier || not b) (sym sent)

    pub marked_more : (earlier : List LogEntry) (marks : List ℕ) → AreMarked messages number earlier marks
        → AreMarked messages number (earlier ++ entry ∷ []) (set marks k number)
    marked_more earlier marks marked = record { count = length-set marks k number ∙ marked.count; exact = exact; most = most }
      where
        within : k < length marks
        within = omega (arith, marked.count, slice_get_within messages k m at)

        exact : (j : ℕ) (x : MessageRecord) → slice_get messages j ≡ Some x
            → (get_or (set marks k number) j 0 == number) ≡ list_any (delivers_key x.key) (earlier ++ entry ∷ [])
        exact j x at_j = elim (cases_eq j k) [
          | inl here ↦
              let some : Some x ≡ Some m = sym at_j ∙ ap (slice_get messages) here ∙ at in
              let same : x ≡ m = cc in
              let mine : delivers_key x.key entry ≡ true = ap (λ (y : MessageRecord). delivers_key y.key entry) same ∙ ap (λ y. delivers_key y entry) key ∙ is in
              ap (λ n. get_or (set marks k number) n 0 == number) here ∙ ap (λ n. n == number) (get_or-set_same marks k number 0 within)
              ∙ eq-eqb number number refl ∙ sym (or-true (list_any (delivers_key x.key) earlier)) ∙ ap (λ b. list_any (delivers_key x.key) earlier || b) (sym mine)
              ∙ sym (any_push (delivers_key x.key) earlier entry)
          | inr other ↦
              ap (λ n. n == number) (get_or-set_other marks k j number 0 other) ∙ marked.exact j x at_j ∙ sym (or-false (list_any (delivers_key x.key) earlier))
              ∙ ap (λ b. list_any (delivers_key x.key) earlier || b) (sym (not_mine j x at_j other)) ∙ sym (any_push (delivers_key x.key) earlier entry)
        ]
          where
            not_mine : (j : ℕ) (x : MessageRecord) → slice_get messages j ≡ Some x → (j ≡ k → ⊥) → delivers_key x.key entry ≡ false
            not_mine j x at_j other = elim (cases_Bool (delivers_key x.key entry)) [
              | inl passes ↦ absurd (false≢true (sym (other_key j x at_j other) ∙ same_key-self x.key msg (delivers_one entry x.key msg passes is)))
              | inr fails ↦ fails
            ]

        most : (j : ℕ) → get_or (set marks k number) j 0 ≤ number
        most j = elim (cases_eq j k) [
          | inl here ↦
              let is_number : get_or (set marks k number) j 0 ≡ number = ap (λ n. get_or (set marks k number) n 0) here ∙ get_or-set_same marks k number 0 within in
              omega (arith, is_number)
          | inr other ↦ omega (arith, get_or-set_other marks k j number 0 other, marked.most j)
        ]

-- ---- one that delivers nothing

pub marked_still : (messages : List MessageRecord) (number : ℕ) (entry : LogEntry) → ((key : MsgKey) → delivers_key key entry ≡ false)
    → (earlier : List LogEntry) (marks : List ℕ) → AreMarked messages number earlier marks → AreMarked messages number (earlier ++ entry ∷ []) marks
marked_still messages number entry none earlier marks marked = record {
  count = marked.count;
  exact = λ k m at.
      marked.exact k m at ∙ sym (or-false (list_any (delivers_key m.key) earlier)) ∙ ap (λ b. list_any (delivers_key m.key) earlier || b) (sym (none m.key))
      ∙ sym (any_push (delivers_key m.key) earlier entry);
  most = marked.most;
}

-- ---- before the first entry of a log, and after its last

pub marked_none : (messages : List MessageRecord) (number : ℕ) (marks : List ℕ) → AreBelow messages number marks → AreMarked messages number [] marks
marked_none messages number marks below = record {
  count = below.count;
  exact = λ k m at. ne_eqb (get_or marks k 0) number (λ e. absurd (omega (arith, e, below.below k)));
  most = λ k. omega (arith, below.below k);
}

pub below_next : (messages : List MessageRecord) (number : ℕ) (entries : List LogEntry) (marks : List ℕ) → AreMarked messages number entries marks
    → AreBelow messages (number + 1) marks
below_next messages number entries marks marked = record { count = marked.count; below = λ k. omega (arith, marked.most k) }

pub below_still : (messages : List MessageRecord) (number : ℕ) (marks : List ℕ) → AreBelow messages number marks → AreBelow messages (number + 1) marks
below_still messages number marks below = record { count = below.count; below = λ k. omega (arith, below.below k) }

-- ---- one entry after another

pub wrong_delivery : (a : AccountParts) (earlier : List LogEntry) (entry : LogEntry) (slot : ℕ) (by : Service) (msg : MsgKey) (payload : List ℕ) → entry ≡ Deliver slot by msg payload
    → (list_any (delivers_key msg) earlier || not (list_any (was_sent_by_then entry) a.messages)) ≡ is_wrong a earlier entry
wrong_delivery a earlier entry slot by msg payload is = rw is refl

pub wrong_here : (a : AccountParts) (earlier rest : List LogEntry) (entry : LogEntry) → is_wrong a earlier entry ≡ true
    → first_wrong a earlier (entry ∷ rest) ≡ Some (length earlier)
unfolding first_wrong
wrong_here a earlier rest entry h = rw h refl

pub wrong_later : (a : AccountParts) (earlier rest : List LogEntry) (entry : LogEntry) → is_wrong a earlier entry ≡ false
    → first_wrong a earlier (entry ∷ rest) ≡ first_wrong a (earlier ++ entry ∷ []) rest
unfolding first_wrong
wrong_later a earlier rest entry h = rw h refl

pub wrong_nowhere : (a : AccountParts) (earlier : List LogEntry) → first_wrong a earlier [] ≡ None
unfolding first_wrong
wrong_nowhere a earlier = refl

-- ---- one log after another

wrong_now : (a : AccountParts) (x : LogParts) (logs : List LogParts) (found : Option EntryAt) → found ≡ (if x.runs then wrong_in a x else None)
    → first_wrong_of a (running (x ∷ logs)) ≡ option_or found (first_wrong_of a (running logs))
unfolding first_wrong_of
wrong_now a x logs found is = elim (cases_Bool x.runs) [
  | inl runs ↦ let now : found ≡ wrong_in a x = rw runs at is in rw (runs, now) refl
  | inr stopped ↦ let now : found ≡ None = rw stopped at is in rw (stopped, now) refl
]

pub found_first : (a : AccountParts) (x : LogParts) (logs : List LogParts) (found : Option EntryAt) → found ≡ (if x.runs then wrong_in a x else None)
    → is_some found ≡ true → first_wrong_of a (running (x ∷ logs)) ≡ found
found_first a x logs (Some entry) is some = wrong_now a x logs (Some entry) is
found_first a x logs None is some = absurd (false≢true some)

pub found_later : (a : AccountParts) (x : LogParts) (logs : List LogParts) (found : Option EntryAt) → found ≡ (if x.runs then wrong_in a x else None)
    → is_some found ≡ false → first_wrong_of a (running (x ∷ logs)) ≡ first_wrong_of a (running logs)
found_later a x logs None is none = wrong_now a x logs None is
found_later a x logs (Some entry) is none = absurd (false≢true (sym none))

pub none_found : (found : Option EntryAt) → is_some found ≡ false → found ≡ None
none_found None h = refl
none_found (Some entry) h = absurd (false≢true (sym h))
