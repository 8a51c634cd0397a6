-- What the scripted sends of a turn ask for.
use Rattle.std.proofs.Common.{◌≡◌, ℕ, ◌≤◌, ◌==◌, ◌&&◌, inl, inr, true, nat_lt, List, [], ◌∷◌, map, filter, length, refl, ap, sym, ◌∙◌, subst, arith}
use Rattle.std.specs.List.{AllByRecursion}
use Rattle.std.proofs.lemmas.Bool.{false≢true, and_parts, and_from, cond_both, eq-eqb, eqb-true, lt-ltb, le-ltb, ltb-false}
use Rattle.cany_base.specs.declared.message.Service.{Service}
use Rattle.cany_base.specs.declared.message.Service.TheVariants.{Ed, Rel, Tot}
use Rattle.cany_base.specs.declared.notice.NoticeKind.{NoticeKind}
use Rattle.cany_base.specs.Frame.{data_class}
use Rattle.cany_base.specs.Scenario.{ScenarioParts}
use Rattle.cany_model.specs.Bus.Frames.{Identity, identity_of, same_class}
use Rattle.cany_model.specs.Rules.Effect.{Ask, entered}
use Rattle.cany_model.specs.Rules.Messages.{Message, messages_of, data_frame, data_id}
use Rattle.cany_model.specs.Rules.Sends.{is_sent_in, is_sent_at_once, scripted_sends, send_effects, sendable}
use Rattle.cany_model.proofs.Among.{Among}
use Rattle.cany_model.proofs.Rules.Waits.{Asks}
use Rattle.cany_model.proofs.Rules.IdleBeforeTakingPart.{IsBegun}
use Rattle.cany_model.proofs.Rules.Services.MessageKeys.{IsOneOf, same_message}
use Rattle.cany_model.proofs.Rules.Services.NoDelivery.{undelivering_is_lawful}
use Rattle.cany_model.proofs.Rules.ProtocolFacts.{IsFounded, IsLawful, MayStart, originates}

-- ---- each effect is founded

pub record IsSentIn (i slot : ℕ) (m : Message) : Type 0 where
  pub at_once : is_sent_at_once m.service ≡ true
  pub origin : m.origin ≡ i
  pub at : m.slot ≡ slot

pub is_sent_in-true : (i slot : ℕ) (m : Message) → is_sent_in i slot m ≡ true → IsSentIn i slot m
is_sent_in-true i slot m h =
    let outer = and_parts (is_sent_at_once m.service && m.origin == i) (m.slot == slot) h in
    let inner = and_parts (is_sent_at_once m.service) (m.origin == i) outer.0 in
    record { at_once = inner.0; origin = eqb-true m.origin i inner.1; at = eqb-true m.slot slot outer.1 }

sends_named : (by : Service) → is_sent_at_once by ≡ true → scripted_sends.names (data_class by) ≡ true
unfolding same_class
sends_named Ed h = refl
sends_named Rel h = refl
sends_named Tot h = absurd (false≢true h)

-- the messages that may be sent in a slot are those of the scenario, from the first slot on whose
-- scripted asks are made
pub sendable_one : (scenario : ScenarioParts) (slot : ℕ) (m : Message) → IsOneOf (sendable scenario slot) m
    → IsOneOf (messages_of scenario.sends) m × (scenario.from ≤ slot)
sendable_one scenario slot m h =
    cond_both (nat_lt slot scenario.from) [] (messages_of scenario.sends) (λ ms. IsOneOf ms m → IsOneOf (messages_of scenario.sends) m × (scenario.from ≤ slot))
    (λ _ none. absurd none) (λ late is. (is, ltb-false slot scenario.from late)) h

pub sendable_late : (scenario : ScenarioParts) (slot : ℕ) → scenario.from ≤ slot → sendable scenario slot ≡ messages_of scenario.sends
sendable_late scenario slot late = rw (le-ltb slot scenario.from late) refl

sends_founded : (scenario : ScenarioParts) (i : ℕ) (e : NoticeKind) (past : List NoticeKind) (messages : List Message)
    → ((m : Message) → IsOneOf messages m → IsOneOf (messages_of scenario.sends) m × (scenario.from ≤ length past))
    → AllByRecursion (IsFounded scenario scripted_sends i (e ∷ past)) (map (λ m. Ask (data_frame m)) (filter (is_sent_in i (length past)) messages))
sends_founded scenario i e past [] are = tt
sends_founded scenario i e past (m ∷ messages) are =
    let rest = sends_founded scenario i e past messages (λ k h. are k (inr h)) in
    cond_both (is_sent_in i (length past) m) (m ∷ filter (is_sent_in i (length past)) messages) (filter (is_sent_in i (length past)) messages)
    (λ kept. AllByRecursion (IsFounded scenario scripted_sends i (e ∷ past)) (map (λ m. Ask (data_frame m)) kept))
    (λ sent.
    let h = is_sent_in-true i (length past) m sent in
    let one = are m (inl refl) in
    ((originates m one.0 h.origin (omega (arith, h.at)) (omega (arith, h.at, one.1)) refl, sends_named m.service h.at_once), rest))
    (λ _. rest)

pub asks_enter_none : (messages : List Message) → entered (map (λ m. Ask (data_frame m)) messages) ≡ []
unfolding entered
asks_enter_none [] = refl
asks_enter_none (m ∷ messages) = asks_enter_none messages

turn_founded : (scenario : ScenarioParts) (i : ℕ) (past : List NoticeKind) → AllByRecursion (IsFounded scenario scripted_sends i past) (send_effects scenario i past)
unfolding send_effects
turn_founded scenario i [] = tt
turn_founded scenario i (e ∷ past) = sends_founded scenario i e past (sendable scenario (length past)) (sendable_one scenario (length past))

sends_muted : (scenario : ScenarioParts) (i : ℕ) (e : NoticeKind) (past : List NoticeKind) → IsBegun scenario (e ∷ past) → send_effects scenario i (e ∷ past) ≡ []
unfolding send_effects
sends_muted scenario i e past begun = rw (lt-ltb (length past) scenario.from (omega (arith, begun.early))) refl

pub sends_are_lawful : IsLawful scripted_sends
unfolding send_effects
sends_are_lawful = undelivering_is_lawful scripted_sends (λ by. refl) (λ scenario m i past. refl) (λ scenario i. refl) sends_muted turn_founded

-- ---- the origin asks in its slot

sent_asked : (i slot : ℕ) (m : Message) (messages : List Message) → IsOneOf messages m → is_sent_in i slot m ≡ true
    → Among (Asks (identity_of (data_frame m))) (map (λ m. Ask (data_frame m)) (filter (is_sent_in i slot) messages))
sent_asked i slot m [] h sent = absurd h
sent_asked i slot m (k ∷ messages) (inl e) sent =
    cond_both (is_sent_in i slot k) (k ∷ filter (is_sent_in i slot) messages) (filter (is_sent_in i slot) messages)
    (λ kept. Among (Asks (identity_of (data_frame m))) (map (λ m. Ask (data_frame m)) kept))
    (λ _. inl (sym (ap (λ n. identity_of (data_frame n)) e)))
    (λ none. absurd (false≢true (sym none ∙ ap (is_sent_in i slot) e ∙ sent)))
sent_asked i slot m (k ∷ messages) (inr h) sent =
    cond_both (is_sent_in i slot k) (k ∷ filter (is_sent_in i slot) messages) (filter (is_sent_in i slot) messages)
    (λ kept. Among (Asks (identity_of (data_frame m))) (map (λ m. Ask (data_frame m)) kept))
    (λ _. inr (sent_asked i slot m messages h sent))
    (λ _. sent_asked i slot m messages h sent)

-- the origin of an EDCAN or RELCAN message asks for its frame in the turn of its slot, if this is
-- one whose scripted asks are made
pub sends_ask : (scenario : ScenarioParts) (i : ℕ) (m : Message) (e : NoticeKind) (past : List NoticeKind) → IsOneOf (messages_of scenario.sends) m
    → is_sent_at_once m.service ≡ true → m.origin ≡ i → scenario.from ≤ m.slot → m.slot ≡ length past
    → Among (Asks (identity_of (data_frame m))) (send_effects scenario i (e ∷ past))
unfolding send_effects
sends_ask scenario i m e past is at_once origin late at =
    sent_asked i (length past) m (sendable scenario (length past))
    (subst (λ ms. IsOneOf ms m) (sym (sendable_late scenario (length past) (omega (arith, late, at)))) is)
    (and_from (is_sent_at_once m.service && m.origin == i) (m.slot == length past)
    (and_from (is_sent_at_once m.service) (m.origin == i) at_once (eq-eqb m.origin i origin)) (eq-eqb m.slot (length past) at))

-- ---- only the origin asks

-- a send that asks for the data frame of a message is that of the message
pub sent_of : (scenario : ScenarioParts) (i slot : ℕ) (m : Message) → IsOneOf (messages_of scenario.sends) m → (messages : List Message)
    → ((k : Message) → IsOneOf messages k → IsOneOf (messages_of scenario.sends) k × (scenario.from ≤ slot))
    → Among (Asks (data_id m)) (map (λ k. Ask (data_frame k)) (filter (is_sent_in i slot) messages)) → (is_sent_in i slot m ≡ true) × (scenario.from ≤ slot)
sent_of scenario i slot m is [] are h = absurd h
sent_of scenario i slot m is (k ∷ messages) are h =
    cond_both (is_sent_in i slot k) (k ∷ filter (is_sent_in i slot) messages) (filter (is_sent_in i slot) messages)
    (λ kept. Among (Asks (data_id m)) (map (λ k. Ask (data_frame k)) kept) → (is_sent_in i slot m ≡ true) × (scenario.from ≤ slot))
    (λ sent a. elim a [
      | inl e ↦
          let one = are k (inl refl) in
          let same : k ≡ m = same_message scenario.sends k m one.0 is (sym (ap (λ (x : Identity). x.node) e)) (sym (ap (λ (x : Identity). x.number) e)) in
          (ap (is_sent_in i slot) (sym same) ∙ sent, one.1)
      | inr later ↦ sent_of scenario i slot m is messages (λ n h. are n (inr h)) later
    ])
    (λ _ a. sent_of scenario i slot m is messages (λ n h. are n (inr h)) a)
    h

-- the scripted sends ask for the data frame of a message at its origin alone, which has read the
-- slot
pub sends_cause : (scenario : ScenarioParts) (i : ℕ) (m : Message) (past : List NoticeKind) → IsOneOf (messages_of scenario.sends) m
    → Among (Asks (data_id m)) (send_effects scenario i past) → MayStart scenario m i past
unfolding send_effects
sends_cause scenario i m [] is h = absurd h
sends_cause scenario i m (e ∷ past) is h =
    let sent = sent_of scenario i (length past) m is (sendable scenario (length past)) (sendable_one scenario (length past)) h in
    let parts = is_sent_in-true i (length past) m sent.0 in
    (parts.origin, omega (arith, parts.at), omega (arith, parts.at, sent.1))
