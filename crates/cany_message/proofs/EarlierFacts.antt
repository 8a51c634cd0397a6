-- Where a scenario has a message, it has one of each smaller number of the same origin.
use Rattle.std.proofs.Common.{◌≡◌, ℕ, ◌≤◌, true, inl, inr, List, [], ◌∷◌, Contains, count_by, ap, arith, eq-eqb}
use Rattle.std.proofs.lemmas.Bool.{cases_eq, ne_eqb, or_left, or_right}
use Rattle.cany_base.specs.declared.message.SendAsk.{SendAsk}
use Rattle.cany_base.specs.Scenario.{ScenarioParts}
use Rattle.cany_diffuse.specs.Eager.{is_among}
use Rattle.cany_model.specs.Rules.Messages.{Message, is_from, messages_after, messages_of}
use Rattle.cany_model.proofs.Among.{Among, Among-from_Contains, count-yes, count-no}
use Rattle.cany_message.specs.Numbers.{message_number, numbers_of}

earlier_after : (earlier sends : List SendAsk) (m : Message) (seq : ℕ) → Among (λ k. k ≡ m) (messages_after earlier sends)
    → count_by (is_from m.origin) earlier ≤ seq → seq ≤ m.seq
    → is_among (message_number seq m.origin) (numbers_of (messages_after earlier sends)) ≡ true
unfolding messages_after
earlier_after earlier [] m seq h from upto = absurd h
earlier_after earlier (send ∷ sends) m seq (inl e) from upto =
    let at : count_by (is_from send.node) earlier ≡ m.seq = ap (λ (k : Message). k.seq) e in
    let node : send.node ≡ m.origin = ap (λ (k : Message). k.origin) e in
    let counts : count_by (is_from send.node) earlier ≡ count_by (is_from m.origin) earlier = ap (λ n. count_by (is_from n) earlier) node in
    or_left _ _ (eq-eqb (message_number seq m.origin) (message_number (count_by (is_from send.node) earlier) send.node) (omega arith))
earlier_after earlier (send ∷ sends) m seq (inr h) from upto = elim (cases_eq send.node m.origin) [
  | inl own ↦
      let counts : count_by (is_from send.node) earlier ≡ count_by (is_from m.origin) earlier = ap (λ n. count_by (is_from n) earlier) own in
      let one_more = count-yes (is_from m.origin) send earlier (eq-eqb send.node m.origin own) in
      elim (cases_eq seq (count_by (is_from send.node) earlier)) [
        | inl first ↦ or_left _ _ (eq-eqb (message_number seq m.origin) (message_number (count_by (is_from send.node) earlier) send.node) (omega arith))
        | inr later ↦ or_right _ _ (earlier_after (send ∷ earlier) sends m seq h (omega arith) upto)
      ]
  | inr other ↦
      let as_many = count-no (is_from m.origin) send earlier (ne_eqb send.node m.origin other) in
      or_right _ _ (earlier_after (send ∷ earlier) sends m seq h (omega arith) upto)
]

pub earlier_among : (scenario : ScenarioParts) (m : Message) (seq : ℕ) → Contains (messages_of scenario.sends) m → seq ≤ m.seq
    → is_among (message_number seq m.origin) (numbers_of (messages_of scenario.sends)) ≡ true
earlier_among scenario m seq stands upto =
    earlier_after [] scenario.sends m seq (Among-from_Contains (messages_of scenario.sends) m stands) (omega arith) upto
