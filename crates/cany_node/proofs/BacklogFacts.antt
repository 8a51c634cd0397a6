-- Whether a node has asked for a message, of those that it sends at once and of those of its
-- backlog.
use Rattle.std.specs.Prelude.{nat_lt}
use Rattle.std.proofs.Common.{◌≡◌, ◌≢◌, ℕ, zero, suc, ◌==◌, ◌&&◌, ◌||◌, Bool, true, false, not, List, [], ◌∷◌, length, take, Contains, refl, ap, sym, ◌∙◌, arith}
use Rattle.std.specs.List.{AllByRecursion, list_any}
use Rattle.std.proofs.lemmas.Bool.{false≢true}
use Rattle.std.proofs.lemmas.Bool.Decides.{nat_tests}
use Rattle.cany_base.specs.declared.message.MsgKey.{MsgKey}
use Rattle.cany_base.specs.declared.message.Service.{Service}
use Rattle.cany_base.specs.declared.message.Service.TheVariants.{Ed, Rel, Tot}
use Rattle.cany_base.specs.declared.notice.NoticeKind.{NoticeKind}
use Rattle.cany_base.specs.Scenario.{ScenarioParts}
use Rattle.cany_model.specs.Rules.Backlog.{asked, backlog}
use Rattle.cany_model.specs.Rules.Messages.{Message, message_key, messages_of}
use Rattle.cany_model.specs.Rules.Sends.{is_sent_at_once}
use Rattle.cany_model.specs.Rules.Turn.{has_asked}
use Rattle.cany_model.proofs.Among.{Among-from_Contains}
use Rattle.cany_model.proofs.Rules.Services.AskedFacts.{asked_at_once, asked_of_backlog}
use Rattle.cany_model.proofs.Rules.Services.MessageKeys.{same_message}
use Rattle.cany_totcan.specs.Totcan.{IsOwnTot, has_seq}

-- where none of the first messages has the number
none_numbered : (seq n : ℕ) (messages : List Message) → AllByRecursion (λ k. k.seq ≡ seq → ⊥) messages → list_any (has_seq seq) (take n messages) ≡ false
none_numbered seq zero messages none = refl
none_numbered seq (suc n) [] none = refl
none_numbered seq (suc n) (k ∷ messages) none =
    rw (apart k.seq seq none.0) (none_numbered seq n messages none.1)
  where
    apart : (a b : ℕ) → (a ≡ b → ⊥) → (b == a) ≡ false
    apart a b other = grind (arith, nat_tests)

numbered_turned : (seq : ℕ) (messages : List Message) → list_any (λ k. k.seq == seq) messages ≡ list_any (has_seq seq) messages
numbered_turned seq [] = refl
numbered_turned seq (k ∷ messages) = rw (numbered_turned seq messages, turned k.seq seq) refl
  where
    turned : (a b : ℕ) → (a == b) ≡ (b == a)
    turned a b = grind (arith, nat_tests)

or_first : (a b : Bool) → a ≡ true → a ≡ (a || b)
or_first true b h = refl
or_first false b h = absurd (false≢true h)

or_second : (a b : Bool) → a ≡ false → b ≡ (a || b)
or_second true b h = absurd (false≢true (sym h))
or_second false b h = refl

module _ (scenario : ScenarioParts) (i : ℕ) (past : List NoticeKind) (own : AllByRecursion (IsOwnTot scenario i) (backlog scenario i past)) where
  abbrev first : ℕ → List Message
  first n = take n (backlog scenario i past)

  -- no message of the backlog has the key of one that is sent at once
  not_in_backlog : (m : Message) → Contains (messages_of scenario.sends) m → m.origin ≡ i → is_sent_at_once m.service ≡ true
      → (messages : List Message) → AllByRecursion (IsOwnTot scenario i) messages → AllByRecursion (λ k. k.seq ≡ m.seq → ⊥) messages
  not_in_backlog m stands origin once [] all = tt
  not_in_backlog m stands origin once (k ∷ messages) all = (
    λ seq.
        let same : k ≡ m =
        same_message scenario.sends k m (Among-from_Contains (messages_of scenario.sends) k all.0.stands) (Among-from_Contains (messages_of scenario.sends) m stands)
        (all.0.origin ∙ sym origin) seq in
        absurd (false≢true (ap is_sent_at_once (sym all.0.sent_by ∙ ap (λ (x : Message). x.service) same) ∙ once)),
    not_in_backlog m stands origin once messages all.1,
  )

  -- no message of the backlog has a key that is no message's
  no_message_in : (msg : MsgKey) → ((m : Message) → Contains (messages_of scenario.sends) m → message_key m ≡ msg → m.origin ≢ i) → msg.origin ≡ i
      → (messages : List Message) → AllByRecursion (IsOwnTot scenario i) messages → AllByRecursion (λ k. k.seq ≡ msg.seq → ⊥) messages
  no_message_in msg none origin [] all = tt
  no_message_in msg none origin (k ∷ messages) all = (
    λ seq. none k all.0.stands (λ j. record { origin = (all.0.origin ∙ sym origin) j; seq = seq j }) all.0.origin,
    no_message_in msg none origin messages all.1,
  )

  sent_at_once : (m : Message) → Contains (messages_of scenario.sends) m → m.origin ≡ i → is_sent_at_once m.service ≡ true → (sent : Bool)
      → sent ≡ (is_sent_at_once m.service && nat_lt m.slot (length past) && not (nat_lt m.slot scenario.from))
      → (sent || list_any (has_seq m.seq) (first (asked scenario i past))) ≡ has_asked scenario m i past
  sent_at_once m stands origin once sent at =
      let none = none_numbered m.seq (asked scenario i past) (backlog scenario i past) (not_in_backlog m stands origin once (backlog scenario i past) own) in
      ap (λ b. sent || b) none ∙ or_none sent ∙ at
      ∙ sym (asked_at_once scenario m i past (Among-from_Contains (messages_of scenario.sends) m stands) once origin)
    where
      or_none : (b : Bool) → (b || false) ≡ b
      or_none true = refl
      or_none false = refl

  by_service : (m : Message) → Contains (messages_of scenario.sends) m → m.origin ≡ i → (by : Service) → m.service ≡ by → (sent : Bool) → sent ≡ (is_sent_at_once m.service && nat_lt m.slot (length past) && not (nat_lt m.slot scenario.from))
      → (sent || list_any (has_seq m.seq) (first (asked scenario i past))) ≡ has_asked scenario m i past
  by_service m stands origin Tot is sent at =
      let none : sent ≡ false = at ∙ ap (λ b. is_sent_at_once b && nat_lt m.slot (length past) && not (nat_lt m.slot scenario.from)) is in
      ap (λ b. b || list_any (has_seq m.seq) (first (asked scenario i past))) none
      ∙ sym (numbered_turned m.seq (first (asked scenario i past))) ∙ sym (asked_of_backlog scenario m i past is origin)
  by_service m stands origin Ed is sent at = sent_at_once m stands origin (ap is_sent_at_once is) sent at
  by_service m stands origin Rel is sent at = sent_at_once m stands origin (ap is_sent_at_once is) sent at

  -- what the first answers, where it says yes
  pub asked_then : (m : Message) → Contains (messages_of scenario.sends) m → m.origin ≡ i → (sent : Bool)
      → sent ≡ (is_sent_at_once m.service && nat_lt m.slot (length past) && not (nat_lt m.slot scenario.from)) → sent ≡ true → sent ≡ has_asked scenario m i past
  asked_then m stands origin sent at is = or_first sent (list_any (has_seq m.seq) (first (asked scenario i past))) is ∙ by_service m stands origin m.service refl sent at

  -- and what the second answers, where the first says no
  pub asked_else : (m : Message) → Contains (messages_of scenario.sends) m → m.origin ≡ i → (sent backlogged : Bool)
      → sent ≡ (is_sent_at_once m.service && nat_lt m.slot (length past) && not (nat_lt m.slot scenario.from)) → sent ≡ false
      → backlogged ≡ list_any (has_seq m.seq) (first (asked scenario i past)) → backlogged ≡ has_asked scenario m i past
  asked_else m stands origin sent backlogged at none tot =
      tot ∙ or_second sent (list_any (has_seq m.seq) (first (asked scenario i past))) none ∙ by_service m stands origin m.service refl sent at

  pub none_asked : (msg : MsgKey) → ((m : Message) → Contains (messages_of scenario.sends) m → message_key m ≡ msg → m.origin ≢ i) → msg.origin ≡ i
      → (backlogged : Bool) → backlogged ≡ list_any (has_seq msg.seq) (first (asked scenario i past)) → backlogged ≡ false
  none_asked msg none origin backlogged tot =
      tot ∙ none_numbered msg.seq (asked scenario i past) (backlog scenario i past) (no_message_in msg none origin (backlog scenario i past) own)
