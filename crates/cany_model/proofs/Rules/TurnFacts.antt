-- What a turn does: what one of the protocols does. Proofs about runs see a turn through these
-- facts alone.
use Rattle.std.proofs.Common.{◌≡◌, ℕ, ◌<◌, ◌≤◌, ◌⊎◌, inl, inr, true, false, List, ◌∷◌, length, ap, sym, ◌∙◌, arith}
use Rattle.std.specs.List.{AllByRecursion}
use Rattle.std.proofs.lemmas.Bool.{cases_lt, false≢true}
use Rattle.cany_base.specs.declared.class.Class.TheVariants as class
use Rattle.cany_base.specs.declared.message.Service.TheVariants.{Rel}
use Rattle.cany_base.specs.declared.notice.NoticeKind.{NoticeKind}
use Rattle.cany_base.specs.Frame.{FrameParts, data_class}
use Rattle.cany_base.specs.Scenario.{ScenarioParts}
use Rattle.cany_model.specs.Bus.Frames.{Identity, identity_of, same_class}
use Rattle.cany_model.specs.Bus.History.{copies, has_own, is_got}
use Rattle.cany_model.specs.Rules.Backlog.{tot_backlog}
use Rattle.cany_model.specs.Rules.Edcan.{edcan}
use Rattle.cany_model.specs.Rules.Effect.{Effect}
use Rattle.cany_model.specs.Rules.Life.{failure_effects, failure_signs, life_signs}
use Rattle.cany_model.specs.Rules.Membership.{scripted_asks, vectors, views}
use Rattle.cany_model.specs.Rules.Messages.{Message, messages_of, data_frame, data_id}
use Rattle.cany_model.specs.Rules.Protocol.{Protocol}
use Rattle.cany_model.specs.Rules.Relcan.{falls_back, fell_back, relcan}
use Rattle.cany_model.specs.Rules.Sends.{is_sent_at_once, scripted_sends}
use Rattle.cany_model.specs.Rules.Totcan.{totcan}
use Rattle.cany_model.specs.Rules.Turn.{protocols, turn_effects}
use Rattle.cany_model.proofs.Among.{Among, Among-flat_map, Among-from_flat_map, Among-weaker, Among-which, Among-with, Each-flat_map, Each-weaker}
use Rattle.cany_model.proofs.Rules.Waits.{Asks, Withdraws, AsksOnly}
use Rattle.cany_model.proofs.Rules.Services.BacklogFacts.{backlog_is_lawful}
use Rattle.cany_model.proofs.Rules.Services.EdcanFacts.{edcan_is_lawful, edcan_relays}
use Rattle.cany_model.proofs.Rules.Site.LifeFacts.{failures_are_lawful, life_is_lawful}
use Rattle.cany_model.proofs.Rules.Services.MessageKeys.{IsOneOf}
use Rattle.cany_model.proofs.Rules.ProtocolFacts.{IsFounded, IsLawful, MayAsk, MayStart, ask_of, asked_start, asks_named, asks_only, is_diffused, withdrawal_of}
use Rattle.cany_model.proofs.Rules.Protocols.{IsProtocol, are_lawful, edcan_is_one, relcan_is_one, sends_are_one}
use Rattle.cany_model.proofs.Rules.Services.RelcanFacts.{relcan_asks, relcan_falls_back, relcan_is_lawful}
use Rattle.cany_model.proofs.Rules.Services.SendFacts.{sends_are_lawful, sends_ask, sends_cause}
use Rattle.cany_model.proofs.Rules.Services.TotcanFacts.{totcan_is_lawful}
use Rattle.cany_model.proofs.Rules.Site.VectorFacts.{vectors_are_lawful}
use Rattle.cany_model.proofs.Rules.Site.ViewFacts.{asks_are_lawful, views_are_lawful}

-- ---- the list

-- an effect of a turn is one of a protocol, and has its reason there
pub record IsEffect (P : Effect → Type 0) (scenario : ScenarioParts) (i : ℕ) (past : List NoticeKind) : Type 0 where
  pub protocol : Protocol
  pub effect : Effect
  pub is : P effect
  pub founded : IsFounded scenario protocol i past effect

effect_in : (P : Effect → Type 0) (scenario : ScenarioParts) (i : ℕ) (past : List NoticeKind) (p : Protocol) → IsLawful p → Among P (p.effects scenario i past)
    → IsEffect P scenario i past
effect_in P scenario i past p lawful h =
    let w = Among-which (λ e. P e × IsFounded scenario p i past e) (p.effects scenario i past)
    (Among-with P (IsFounded scenario p i past) (p.effects scenario i past) (lawful.founded scenario i past) h) in
    record { protocol = p; effect = w.0; is = w.2.0; founded = w.2.1 }

pub turn_effect : (P : Effect → Type 0) (scenario : ScenarioParts) (i : ℕ) (past : List NoticeKind) → Among P (turn_effects scenario i past)
    → IsEffect P scenario i past
unfolding turn_effects
turn_effect P scenario i past h =
    let w = Among-which (λ p. Among P (p.effects scenario i past) × IsLawful p) protocols
    (Among-with (λ p. Among P (p.effects scenario i past)) IsLawful protocols are_lawful
    (Among-from_flat_map (λ p. p.effects scenario i past) P protocols h)) in
    effect_in P scenario i past w.0 w.2.1 w.2.0

-- and each effect of a protocol is one of the turn
pub turn_has : (P : Effect → Type 0) (scenario : ScenarioParts) (i : ℕ) (past : List NoticeKind) (p : Protocol) → IsProtocol p
    → Among P (p.effects scenario i past) → Among P (turn_effects scenario i past)
unfolding turn_effects
turn_has P scenario i past p is h =
    Among-flat_map (λ q. q.effects scenario i past) P protocols
    (Among-weaker (λ q. q ≡ p) (λ q. Among P (q.effects scenario i past)) (λ q e. rw e h) protocols is)

-- ---- a whole turn

-- a frame that is diffused is withdrawn only with more than omit copies
pub turn_withdraws : (scenario : ScenarioParts) (i : ℕ) (x : Identity) (past : List NoticeKind) → is_diffused x.class ≡ true
    → Among (Withdraws x) (turn_effects scenario i past) → scenario.params.omit < copies x past
turn_withdraws scenario i x past diffused h =
    let w = turn_effect (Withdraws x) scenario i past h in
    withdrawal_of scenario w.protocol i past x w.effect w.is w.founded diffused

-- the data frame of a message is asked for because a copy was read, or by its origin, which has
-- read the slot
pub turn_cause_data : (scenario : ScenarioParts) (i : ℕ) (m : Message) (past : List NoticeKind) → IsOneOf (messages_of scenario.sends) m
    → Among (Asks (data_id m)) (turn_effects scenario i past) → MayStart scenario m i past ⊎ (0 < copies (data_id m) past)
turn_cause_data scenario i m past is h =
    let w = turn_effect (Asks (data_id m)) scenario i past h in
    let asked = ask_of scenario w.protocol i past (data_id m) w.effect w.is w.founded in
    asked_start scenario i past m is asked.0 asked.1 asked.2

-- a protocol asks for no frame of a class that it does not name
pub not_asked : (scenario : ScenarioParts) (p : Protocol) → IsLawful p → (i : ℕ) (past : List NoticeKind) (x : Identity) → p.names x.class ≡ false
    → Among (Asks x) (p.effects scenario i past) → ⊥
not_asked scenario p lawful i past x other h = false≢true (sym other ∙ asks_named p lawful scenario i x past h)

-- the data frame of a RELCAN message by its origin, which has read the slot, or by a node that
-- falls back
pub rel_cause : (scenario : ScenarioParts) (i : ℕ) (m : Message) (past : List NoticeKind) → IsOneOf (messages_of scenario.sends) m → m.service ≡ Rel
    → Among (Asks (data_id m)) (turn_effects scenario i past)
    → MayStart scenario m i past ⊎ (fell_back scenario.params.confirm i (data_id m) past ≡ true)
unfolding turn_effects same_class
rel_cause scenario i m past is rel h =
    let of : data_class m.service ≡ class.Rel = ap data_class rel in
    elim (Among-from_flat_map (λ p. p.effects scenario i past) (Asks (data_id m)) protocols h) [
      | inl ed ↦ absurd (not_asked scenario edcan edcan_is_lawful i past (data_id m) (ap edcan.names of) ed)
      | inr (inl late) ↦ inr (relcan_asks scenario i (data_id m) past of late)
      | inr (inr (inl tot)) ↦ absurd (not_asked scenario totcan totcan_is_lawful i past (data_id m) (ap totcan.names of) tot)
      | inr (inr (inr (inl fda))) ↦ absurd (not_asked scenario failure_signs failures_are_lawful i past (data_id m) (ap failure_signs.names of) fda)
      | inr (inr (inr (inr (inl rha)))) ↦ absurd (not_asked scenario vectors vectors_are_lawful i past (data_id m) (ap vectors.names of) rha)
      | inr (inr (inr (inr (inr (inl view))))) ↦ absurd (not_asked scenario views views_are_lawful i past (data_id m) (ap views.names of) view)
      | inr (inr (inr (inr (inr (inr (inl els)))))) ↦
          absurd (not_asked scenario life_signs life_is_lawful i past (data_id m) (ap life_signs.names of) els)
      | inr (inr (inr (inr (inr (inr (inr (inl sent))))))) ↦ inl (sends_cause scenario i m past is sent)
      | inr (inr (inr (inr (inr (inr (inr (inr (inl asks)))))))) ↦
          absurd (not_asked scenario scripted_asks asks_are_lawful i past (data_id m) (ap scripted_asks.names of) asks)
      | inr (inr (inr (inr (inr (inr (inr (inr (inr (inl next))))))))) ↦
          absurd (not_asked scenario tot_backlog backlog_is_lawful i past (data_id m) (ap tot_backlog.names of) next)
      | inr (inr (inr (inr (inr (inr (inr (inr (inr (inr none))))))))) ↦ absurd none
    ]

-- the frame of a failure sign by the rules of failure signs
pub fda_cause : (scenario : ScenarioParts) (i : ℕ) (x : Identity) (past : List NoticeKind) → x.class ≡ class.Fda → Among (Asks x) (turn_effects scenario i past)
    → Among (Asks x) (failure_effects scenario i past)
unfolding turn_effects same_class
fda_cause scenario i x past fda h =
    elim (Among-from_flat_map (λ p. p.effects scenario i past) (Asks x) protocols h) [
      | inl ed ↦ absurd (not_asked scenario edcan edcan_is_lawful i past x (ap edcan.names fda) ed)
      | inr (inl rel) ↦ absurd (not_asked scenario relcan relcan_is_lawful i past x (ap relcan.names fda) rel)
      | inr (inr (inl tot)) ↦ absurd (not_asked scenario totcan totcan_is_lawful i past x (ap totcan.names fda) tot)
      | inr (inr (inr (inl sign))) ↦ sign
      | inr (inr (inr (inr (inl rha)))) ↦ absurd (not_asked scenario vectors vectors_are_lawful i past x (ap vectors.names fda) rha)
      | inr (inr (inr (inr (inr (inl view))))) ↦ absurd (not_asked scenario views views_are_lawful i past x (ap views.names fda) view)
      | inr (inr (inr (inr (inr (inr (inl els)))))) ↦ absurd (not_asked scenario life_signs life_is_lawful i past x (ap life_signs.names fda) els)
      | inr (inr (inr (inr (inr (inr (inr (inl sent))))))) ↦
          absurd (not_asked scenario scripted_sends sends_are_lawful i past x (ap scripted_sends.names fda) sent)
      | inr (inr (inr (inr (inr (inr (inr (inr (inl asks)))))))) ↦
          absurd (not_asked scenario scripted_asks asks_are_lawful i past x (ap scripted_asks.names fda) asks)
      | inr (inr (inr (inr (inr (inr (inr (inr (inr (inl next))))))))) ↦
          absurd (not_asked scenario tot_backlog backlog_is_lawful i past x (ap tot_backlog.names fda) next)
      | inr (inr (inr (inr (inr (inr (inr (inr (inr (inr none))))))))) ↦ absurd none
    ]

-- each frame that is asked for has what follows from the reason
pub turn_only : (P : FrameParts → Type 0) (scenario : ScenarioParts) (i : ℕ) (past : List NoticeKind)
    → ((f : FrameParts) → MayAsk scenario i past f → P f) → AllByRecursion (AsksOnly P) (turn_effects scenario i past)
unfolding turn_effects
turn_only P scenario i past gives =
    Each-flat_map (λ p. p.effects scenario i past) (AsksOnly P) protocols
    (Each-weaker IsLawful (λ p. AllByRecursion (AsksOnly P) (p.effects scenario i past))
    (λ p lawful. Each-weaker (IsFounded scenario p i past) (AsksOnly P) (λ e k. asks_only scenario p i past P e gives k) (p.effects scenario i past) (lawful.founded scenario i past))
    protocols are_lawful)

-- an EDCAN frame is asked for at the first copy, unless the copies are enough already or the node
-- has sent it
pub turn_relays : (scenario : ScenarioParts) (i : ℕ) (x : Identity) (e : NoticeKind) (past : List NoticeKind) → x.class ≡ class.Ed → is_got x e ≡ true
    → copies x (e ∷ past) ≡ 1
    → Among (Asks x) (turn_effects scenario i (e ∷ past)) ⊎ ((scenario.params.omit < copies x (e ∷ past)) ⊎ (has_own x (e ∷ past) ≡ true))
turn_relays scenario i x e past ed got one = elim (edcan_relays scenario i x e past ed got one) [
  | inl a ↦ inl (turn_has (Asks x) scenario i (e ∷ past) edcan edcan_is_one a)
  | inr other ↦ inr other
]

-- a RELCAN frame is asked for by a node that falls back, unless the copies are enough
pub turn_falls_back : (scenario : ScenarioParts) (i : ℕ) (x : Identity) (e : NoticeKind) (past : List NoticeKind)
    → falls_back scenario.params.confirm i x (e ∷ past) ≡ true
    → Among (Asks x) (turn_effects scenario i (e ∷ past)) ⊎ (scenario.params.omit < copies x (e ∷ past))
turn_falls_back scenario i x e past falls = elim (relcan_falls_back scenario i x e past falls) [
  | inl a ↦ inl (turn_has (Asks x) scenario i (e ∷ past) relcan relcan_is_one a)
  | inr many ↦ inr many
]

-- the origin of an EDCAN or RELCAN message asks for its frame in the turn of its slot, if this is
-- one whose scripted asks are made
pub turn_sends : (scenario : ScenarioParts) (i : ℕ) (m : Message) (e : NoticeKind) (past : List NoticeKind) → IsOneOf (messages_of scenario.sends) m
    → is_sent_at_once m.service ≡ true → m.origin ≡ i → scenario.from ≤ m.slot → m.slot ≡ length past
    → Among (Asks (identity_of (data_frame m))) (turn_effects scenario i (e ∷ past))
turn_sends scenario i m e past is at_once origin late at =
    turn_has (Asks (identity_of (data_frame m))) scenario i (e ∷ past) scripted_sends sends_are_one (sends_ask scenario i m e past is at_once origin late at)

-- so an origin that is to send its message asks for its frame, or the slot of the message is behind
-- it
pub asks_at_its_slot : (scenario : ScenarioParts) (m : Message) → IsOneOf (messages_of scenario.sends) m → is_sent_at_once m.service ≡ true
    → (i : ℕ) (e : NoticeKind) (past : List NoticeKind) → MayStart scenario m i (e ∷ past)
    → (m.slot < length past) ⊎ Among (Asks (data_id m)) (turn_effects scenario i (e ∷ past))
asks_at_its_slot scenario m is at_once i e past may = elim (cases_lt m.slot (length past)) [
  | inl before ↦ inl before
  | inr now ↦ let at = may.1 in inr (turn_sends scenario i m e past is at_once may.0 may.2 (omega (arith, at, now)))
]
