-- The messages of an account are numbered: each key stands at one place. And those of a scenario
-- are.
use Rattle.std.proofs.Common.{◌≡◌, ℕ, zero, suc, ◌+◌, ◌<◌, ◌≤◌, ◌==◌, Bool, true, List, [], ◌∷◌, map, take, count_by, cond, refl, ap, sym, ◌∙◌, arith, inl, inr}
use Rattle.std.specs.Prelude.{slice_get, Some}
use Rattle.std.proofs.lemmas.Bool.{cases_lt, eq-eqb}
use Rattle.cany_base.specs.declared.message.MsgKey.{MsgKey}
use Rattle.cany_base.specs.declared.message.SendAsk.{SendAsk}
use Rattle.cany_model.specs.Rules.Messages.{Message, is_from, message_key, message_of, messages_after, messages_of}
use Rattle.cany_model.proofs.Among.{count-cons, count-yes}
use Rattle.cany_check.specs.declared.account.record.MessageRecord.{MessageRecord}
use Rattle.cany_check.specs.Accounts.Orderly.{is_of_origin}
use Rattle.cany_check.specs.Accounts.Places.{AreNumbered}

-- ---- counts of beginnings

module _ {X : Type 0} (p : X → Bool) where
  fewer : (xs : List X) (j k : ℕ) → j ≤ k → count_by p (take j xs) ≤ count_by p (take k xs)
  fewer xs zero k h = omega arith
  fewer [] (suc j) zero h = absurd (omega (arith, h))
  fewer [] (suc j) (suc k) h = omega arith
  fewer (x ∷ xs) (suc j) zero h = absurd (omega (arith, h))
  fewer (x ∷ xs) (suc j) (suc k) h =
      omega (arith, count-cons p x (take j xs), count-cons p x (take k xs), fewer xs j k (omega (arith, h)))

  -- one that passes stands between
  fewer_by_one : (xs : List X) (j k : ℕ) (x : X) → slice_get xs j ≡ Some x → p x ≡ true → j < k → count_by p (take j xs) < count_by p (take k xs)
  fewer_by_one [] j k x at passes h = absurd (cc)
  fewer_by_one (y ∷ xs) zero zero x at passes h = absurd (omega (arith, h))
  fewer_by_one (y ∷ xs) zero (suc k) x at passes h =
      let here : y ≡ x = cc in
      omega (arith, count-yes p y (take k xs) (ap p here ∙ passes))
  fewer_by_one (y ∷ xs) (suc j) zero x at passes h = absurd (omega (arith, h))
  fewer_by_one (y ∷ xs) (suc j) (suc k) x at passes h =
      omega (arith, count-cons p y (take j xs), count-cons p y (take k xs), fewer_by_one xs j k x at passes (omega (arith, h)))

-- ---- a key stands at one place

module _ (messages : List MessageRecord) (numbered : AreNumbered messages) where
  not_later : (j k : ℕ) (x y : MessageRecord) → slice_get messages j ≡ Some x → slice_get messages k ≡ Some y → x.key ≡ y.key → j < k → ⊥
  not_later j k x y at_j at_k same later =
      let origin : x.key.origin ≡ y.key.origin = ap (λ (key : MsgKey). key.origin) same in
      let seq : x.key.seq ≡ y.key.seq = ap (λ (key : MsgKey). key.seq) same in
      let first : x.key.seq ≡ count_by (is_of_origin x.key.origin) (take j messages) = numbered j x at_j in
      let second : y.key.seq ≡ count_by (is_of_origin x.key.origin) (take k messages) =
      numbered k y at_k ∙ ap (λ o. count_by (is_of_origin o) (take k messages)) (sym origin) in
      let more = fewer_by_one (is_of_origin x.key.origin) messages j k x at_j (eq-eqb x.key.origin x.key.origin refl) later in
      absurd (omega (arith, seq, first, second, more))

  pub one_place : (j k : ℕ) (x y : MessageRecord) → slice_get messages j ≡ Some x → slice_get messages k ≡ Some y → x.key ≡ y.key → j ≡ k
  one_place j k x y at_j at_k same = elim (cases_lt j k) [
    | inl below ↦ absurd (not_later j k x y at_j at_k same below)
    | inr past ↦ elim (cases_lt k j) [
      | inl above ↦ absurd (not_later k j y x at_k at_j (sym same) above)
      | inr here ↦ omega (arith, past, here)
    ]
  ]

-- ---- the messages of a scenario

module _ (f : Message → MessageRecord) (keys : (m : Message) → (f m).key ≡ message_key m) where
  next_after : (earlier sends : List SendAsk) (k : ℕ) (m : MessageRecord) → slice_get (map f (messages_after earlier sends)) k ≡ Some m
      → m.key.seq ≡ count_by (is_from m.key.origin) earlier + count_by (is_of_origin m.key.origin) (take k (map f (messages_after earlier sends)))
  unfolding messages_after
  next_after earlier [] k m at = absurd (cc)
  next_after earlier (send ∷ sends) zero m at =
      let here : f (message_of earlier send) ≡ m = cc in
      let key : m.key ≡ message_key (message_of earlier send) = ap (λ (r : MessageRecord). r.key) (sym here) ∙ keys (message_of earlier send) in
      let origin : m.key.origin ≡ send.node = ap (λ (x : MsgKey). x.origin) key in
      let seq : m.key.seq ≡ count_by (is_from send.node) earlier = ap (λ (x : MsgKey). x.seq) key in
      omega (arith, seq, ap (λ o. count_by (is_from o) earlier) origin)
  next_after earlier (send ∷ sends) (suc k) m at =
      let first : MessageRecord = f (message_of earlier send) in
      let rest : List MessageRecord = map f (messages_after (send ∷ earlier) sends) in
      let origin : first.key.origin ≡ send.node = ap (λ (x : MsgKey). x.origin) (keys (message_of earlier send)) in
      let same : ◌≡◌ {A = ℕ} (cond (is_from m.key.origin send) 1 0) (cond (is_of_origin m.key.origin first) 1 0) = ap (λ o. cond {A = ℕ} (o == m.key.origin) 1 0) (sym origin) in
      omega (
        arith,
        next_after (send ∷ earlier) sends k m at,
        count-cons (is_from m.key.origin) send earlier,
        count-cons (is_of_origin m.key.origin) first (take k rest),
        same,
      )

  pub are_numbered : (sends : List SendAsk) → AreNumbered (map f (messages_of sends))
  are_numbered sends k m at = omega (arith, next_after [] sends k m at)
