-- Why a node asks for the data frame of an EDCAN message: it has got the first copy, or it is the
-- origin, in its turn of the scripted slot.
use Rattle.std.proofs.Common.{◌≡◌, ℕ, ◌==◌, ◌⊎◌, ◌++◌, inl, inr, true, false, not, List, [], ◌∷◌, length, refl, ap, sym, ◌∙◌, arith}
use Rattle.std.specs.List.{AllByRecursion}
use Rattle.std.proofs.lemmas.Bool.{and_parts, cond_both, eqb-true, false≢true, not-true}
use Rattle.cany_base.specs.declared.class.Class.TheVariants as class
use Rattle.cany_base.specs.declared.message.Service.{Service}
use Rattle.cany_base.specs.declared.message.Service.TheVariants.{Ed}
use Rattle.cany_base.specs.declared.notice.NoticeKind.{NoticeKind}
use Rattle.cany_base.specs.declared.notice.NoticeKind.TheVariants.{Idle, Got, Sent, Bad}
use Rattle.cany_base.specs.Frame.{FrameParts, data_class}
use Rattle.cany_base.specs.Scenario.{ScenarioParts}
use Rattle.cany_model.specs.Bus.Frames.{Identity, identity_of, same_class}
use Rattle.cany_model.specs.Bus.History.{copies, has_own, is_got}
use Rattle.cany_model.specs.Rules.Delivery.{delivery, delivery_effects, is_delivery}
use Rattle.cany_model.specs.Rules.Eager.{eager_effects, has_enough, is_first_copy}
use Rattle.cany_model.specs.Rules.Edcan.{edcan_at, edcan_effects}
use Rattle.cany_model.specs.Rules.Effect.{Ask, Enter, Withdraw}
use Rattle.cany_model.specs.Rules.Messages.{Message, data_id, messages_of}
use Rattle.cany_model.specs.Rules.Protocol.{Protocol}
use Rattle.cany_model.specs.Rules.Sends.{send_effects, sendable}
use Rattle.cany_model.specs.Rules.Turn.{protocols, turn_effects}
use Rattle.cany_model.proofs.Among.{Among, Among-append_cases, Among-from_flat_map, Among-gives, Among-with}
use Rattle.cany_model.proofs.Bus.Identities.{same_identity-from}
use Rattle.cany_model.proofs.Promises.Diffusion.{copies_got}
use Rattle.cany_model.proofs.Rules.Services.MessageKeys.{IsOneOf}
use Rattle.cany_model.proofs.Rules.ProtocolFacts.{IsLawful, asks_named}
use Rattle.cany_model.proofs.Rules.Protocols.{are_lawful}
use Rattle.cany_model.proofs.Rules.Services.SendFacts.{is_sent_in-true, sendable_one, sent_of}
use Rattle.cany_model.proofs.Rules.Waits.{Asks}

-- the newest notice brought the first copy, and the node has not read an own transmission of the
-- frame
pub record AtFirstCopy (x : Identity) (e : NoticeKind) (past : List NoticeKind) : Type 0 where
  pub none : copies x past ≡ 0
  pub now : copies x (e ∷ past) ≡ 1
  pub own : has_own x past ≡ false
  pub got : is_got x e ≡ true

-- it is the origin's turn of the scripted slot
pub record AtItsSlot (m : Message) (i : ℕ) (past : List NoticeKind) : Type 0 where
  pub origin : m.origin ≡ i
  pub slot : m.slot ≡ length past

-- ---- the eager rule

pub no_delivery : (x : Identity) (by : Service) (i : ℕ) (f : FrameParts) (e : NoticeKind) (past : List NoticeKind)
    → Among (Asks x) (delivery_effects by i f e past) → ⊥
unfolding delivery_effects
no_delivery x by i f e past h =
    cond_both (is_delivery i f e past) (Enter (delivery (length past) by f) ∷ []) [] (λ effects. Among (Asks x) effects → ⊥)
    (λ _ a. elim a [ inl never ↦ never | inr never ↦ never ]) (λ _ never. never) h

own_before : (x : Identity) (f : FrameParts) (past : List NoticeKind) → has_own x (Got f ∷ past) ≡ false → has_own x past ≡ false
unfolding has_own
own_before x f past h = h

eager_first : (omit : ℕ) (x : Identity) (f : FrameParts) (past : List NoticeKind) → Among (Asks x) (eager_effects omit f (Got f ∷ past))
    → AtFirstCopy x (Got f) past
unfolding eager_effects
eager_first omit x f past h =
    cond_both (has_enough omit (identity_of f) (Got f ∷ past)) (Withdraw (identity_of f) ∷ []) _
    (λ effects. Among (Asks x) effects → AtFirstCopy x (Got f) past)
    (λ _ a. elim a [ inl never ↦ absurd never | inr never ↦ absurd never ])
    (λ _. cond_both (is_first_copy (identity_of f) (Got f ∷ past)) (Ask f ∷ []) [] (λ effects. Among (Asks x) effects → AtFirstCopy x (Got f) past)
    (λ first a. elim a [ inl same ↦ at_first same first | inr never ↦ absurd never ]) (λ _ never. absurd never)) h
  where
    at_first : x ≡ identity_of f → is_first_copy (identity_of f) (Got f ∷ past) ≡ true → AtFirstCopy x (Got f) past
    at_first same first =
        let parts = and_parts (copies (identity_of f) (Got f ∷ past) == 1) (not (has_own (identity_of f) (Got f ∷ past))) first in
        let one : copies x (Got f ∷ past) ≡ 1 = ap (λ y. copies y (Got f ∷ past)) same ∙ eqb-true (copies (identity_of f) (Got f ∷ past)) 1 parts.0 in
        let more = copies_got x (Got f) past (same_identity-from x (identity_of f) same) in
        record {
          none = omega (arith, one, more);
          now = one;
          own = own_before x f past (ap (λ y. has_own y (Got f ∷ past)) same ∙ not-true (has_own (identity_of f) (Got f ∷ past)) parts.1);
          got = same_identity-from x (identity_of f) same;
        }

edcan_first : (scenario : ScenarioParts) (x : Identity) (i : ℕ) (e : NoticeKind) (past : List NoticeKind) → Among (Asks x) (edcan_effects scenario i (e ∷ past))
    → AtFirstCopy x e past
unfolding edcan_effects edcan_at
edcan_first scenario x i Idle past h = absurd h
edcan_first scenario x i Bad past h = absurd h
edcan_first scenario x i (Sent f) past h =
    cond_both (same_class f.class class.Ed) (delivery_effects Ed i f (Sent f) past) [] (λ effects. Among (Asks x) effects → AtFirstCopy x (Sent f) past)
    (λ _ a. absurd (no_delivery x Ed i f (Sent f) past a)) (λ _ never. absurd never) h
edcan_first scenario x i (Got f) past h =
    cond_both (same_class f.class class.Ed) (delivery_effects Ed i f (Got f) past ++ eager_effects scenario.params.omit f (Got f ∷ past)) []
    (λ effects. Among (Asks x) effects → AtFirstCopy x (Got f) past)
    (λ _ a. elim (Among-append_cases (Asks x) (delivery_effects Ed i f (Got f) past) (eager_effects scenario.params.omit f (Got f ∷ past)) a) [
      | inl never ↦ absurd (no_delivery x Ed i f (Got f) past never)
      | inr eager ↦ eager_first scenario.params.omit x f past eager
    ]) (λ _ never. absurd never) h

-- ---- the scripted sends

pub sends_in_slot : (scenario : ScenarioParts) (m : Message) (i : ℕ) (e : NoticeKind) (past : List NoticeKind) → IsOneOf (messages_of scenario.sends) m
    → Among (Asks (data_id m)) (send_effects scenario i (e ∷ past)) → AtItsSlot m i past
unfolding send_effects
sends_in_slot scenario m i e past is h =
    let sent = sent_of scenario i (length past) m is (sendable scenario (length past)) (sendable_one scenario (length past)) h in
    let parts = is_sent_in-true i (length past) m sent.0 in
    record { origin = parts.origin; slot = parts.at }

-- ---- a whole turn

-- why the frame of a message is asked for, where each protocol names no such frames or has this
-- reason
pub asked_why : (scenario : ScenarioParts) (m : Message) (by : Service) → m.service ≡ by → (i : ℕ) (e : NoticeKind) (past : List NoticeKind) (Why : Type 0)
    → AllByRecursion (λ p. (p.names (data_class by) ≡ false) ⊎ (Among (Asks (data_id m)) (p.effects scenario i (e ∷ past)) → Why)) protocols
    → Among (Asks (data_id m)) (turn_effects scenario i (e ∷ past)) → Why
unfolding turn_effects
asked_why scenario m by of i e past Why each h =
    Among-gives (λ p. (Among (Asks (data_id m)) (p.effects scenario i (e ∷ past)) × IsLawful p) × Has p) Why
    (λ p a. elim a.1 [
      | inl other ↦ absurd (false≢true (sym other ∙ sym (ap (λ by. p.names (data_class by)) of)
          ∙ asks_named p a.0.1 scenario i (data_id m) (e ∷ past) a.0.0))
      | inr why ↦ why a.0.0
    ]) protocols
    (Among-with (λ p. Among (Asks (data_id m)) (p.effects scenario i (e ∷ past)) × IsLawful p) Has protocols each
    (Among-with (λ p. Among (Asks (data_id m)) (p.effects scenario i (e ∷ past))) IsLawful protocols are_lawful
    (Among-from_flat_map (λ p. p.effects scenario i (e ∷ past)) (Asks (data_id m)) protocols h)))
  where
    Has : Protocol → Type 0
    Has p = (p.names (data_class by) ≡ false) ⊎ (Among (Asks (data_id m)) (p.effects scenario i (e ∷ past)) → Why)

pub ed_asked : (scenario : ScenarioParts) (m : Message) → IsOneOf (messages_of scenario.sends) m → m.service ≡ Ed
    → (i : ℕ) (e : NoticeKind) (past : List NoticeKind)
    → Among (Asks (data_id m)) (turn_effects scenario i (e ∷ past)) → AtFirstCopy (data_id m) e past ⊎ AtItsSlot m i past
unfolding same_class
ed_asked scenario m is ed i e past =
    asked_why scenario m Ed ed i e past (AtFirstCopy (data_id m) e past ⊎ AtItsSlot m i past) (
      inr (λ a. inl (edcan_first scenario (data_id m) i e past a)),
      (inl refl, (inl refl, (inl refl, (inl refl, (inl refl, (inl refl, (inr (λ a. inr (sends_in_slot scenario m i e past is a)), (inl refl, (inl refl, tt))))))))),
    )
