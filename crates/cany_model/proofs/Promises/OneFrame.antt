-- Every frame of a message's identity that was carried is the message's frame, and its key has no
-- other service.
use Rattle.std.proofs.Common.{◌≡◌, true, Some, Contains, refl, ap, sym, ◌∙◌}
use Rattle.cany_base.specs.declared.message.MsgKey.{MsgKey}
use Rattle.cany_base.specs.declared.message.Service.{Service}
use Rattle.cany_base.specs.declared.message.Service.TheVariants.{Ed, Rel, Tot}
use Rattle.cany_base.specs.declared.slot_note.SlotNote.{SlotNote}
use Rattle.cany_base.specs.Frame.{FrameParts, data_class}
use Rattle.cany_base.specs.Scenario.{ScenarioParts}
use Rattle.cany_model.specs.Bus.Frames.{Identity, identity_of}
use Rattle.cany_model.specs.Rules.Messages.{Message, messages_of, data_frame, data_of}
use Rattle.cany_model.specs.Bus.State.{RunState}
use Rattle.cany_model.proofs.Among.{Among, Among-which, Among-from_Contains}
use Rattle.cany_model.proofs.Bus.Carried.{Carries}
use Rattle.cany_model.proofs.Rules.Services.MessageKeys.{IsOneOf, data_class-one, same_message}
use Rattle.cany_model.proofs.Promises.Sources.{IsSent, IsSourced}
use Rattle.cany_model.proofs.Rules.ProtocolFacts.{is_data}

pub data_carries : (by : Service) → is_data (data_class by) ≡ true
data_carries Ed = refl
data_carries Rel = refl
data_carries Tot = refl

-- two messages of one identity are one
same_data_frame : (scenario : ScenarioParts) (k m : Message) → IsOneOf (messages_of scenario.sends) k → IsOneOf (messages_of scenario.sends) m
    → identity_of (data_frame m) ≡ identity_of (data_frame k) → data_frame k ≡ data_frame m
same_data_frame scenario k m isk is e =
    ap data_frame (same_message scenario.sends k m isk is (sym (ap (λ (x : Identity). x.node) e)) (sym (ap (λ (x : Identity). x.number) e)))

pub only_frame : (scenario : ScenarioParts) (s : RunState) (m : Message) → IsSourced scenario s → IsOneOf (messages_of scenario.sends) m
    → (note : SlotNote) (f : FrameParts) → Contains s.trace note → note.frame ≡ Some f → identity_of (data_frame m) ≡ identity_of f → f ≡ data_frame m
only_frame scenario s m h is note f c frame e =
    let carries : is_data f.class ≡ true = ap (λ (x : Identity). is_data x.class) (sym e) ∙ data_carries m.service in
    let sent : IsSent scenario s.trace f note.slot = h.carried note f c frame carries in
    sym sent.is
    ∙ same_data_frame scenario sent.message m (Among-from_Contains (messages_of scenario.sends) sent.message sent.stands) is (e ∙ sym (ap identity_of sent.is))

-- the message whose data frame a slot carried
record IsOf (scenario : ScenarioParts) (by : Service) (key : MsgKey) : Type 0 where
  message : Message
  is : IsOneOf (messages_of scenario.sends) message
  frame : identity_of (data_frame message) ≡ data_of by key

message_of_carried : (scenario : ScenarioParts) (s : RunState) → IsSourced scenario s → (by : Service) (key : MsgKey)
    → Among (Carries (data_of by key)) s.trace → IsOf scenario by key
message_of_carried scenario s h by key c =
    let w = Among-which (Carries (data_of by key)) s.trace c in
    let carries : is_data w.2.what.class ≡ true = ap (λ (x : Identity). is_data x.class) (sym w.2.identity) ∙ data_carries by in
    let sent = h.carried w.0 w.2.what w.1 w.2.frame carries in
    record {
      message = sent.message;
      is = Among-from_Contains (messages_of scenario.sends) sent.message sent.stands;
      frame = ap identity_of sent.is ∙ sym w.2.identity;
    }

-- only one service carries messages of a key
pub one_service : (scenario : ScenarioParts) (s : RunState) → IsSourced scenario s → (a b : Service) (key : MsgKey)
    → Among (Carries (data_of a key)) s.trace → Among (Carries (data_of b key)) s.trace → a ≡ b
one_service scenario s h a b key ca cb =
    let m = message_of_carried scenario s h a key ca in
    let n = message_of_carried scenario s h b key cb in
    let origin : m.message.origin ≡ n.message.origin = ap (λ (x : Identity). x.node) m.frame ∙ sym (ap (λ (x : Identity). x.node) n.frame) in
    let seq : m.message.seq ≡ n.message.seq = ap (λ (x : Identity). x.number) m.frame ∙ sym (ap (λ (x : Identity). x.number) n.frame) in
    let same : m.message ≡ n.message = same_message scenario.sends m.message n.message m.is n.is origin seq in
    data_class-one a b
    (sym (ap (λ (x : Identity). x.class) m.frame) ∙ ap (λ (k : Message). data_class k.service) same ∙ ap (λ (x : Identity). x.class) n.frame)
