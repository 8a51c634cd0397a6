-- The messages of a scenario: one of each send, and those that have the same key are the same; and
-- their services.
use Rattle.std.specs.Prelude.{slice_get, option_map, Some}
use Rattle.std.proofs.Common.{◌≡◌, ℕ, zero, suc, ◌<◌, ◌≤◌, inl, inr, true, List, [], ◌∷◌, count_by, length, refl, ap, sym, ◌∙◌, arith}
use Rattle.std.proofs.lemmas.Bool.{eq-eqb}
use Rattle.cany_base.specs.declared.message.SendAsk.{SendAsk}
use Rattle.cany_base.specs.declared.message.Service.{Service}
use Rattle.cany_base.specs.declared.message.Service.TheVariants.{Ed, Rel, Tot}
use Rattle.cany_base.specs.Frame.{data_class}
use Rattle.cany_model.specs.Bus.Frames.{same_class}
use Rattle.cany_model.specs.Rules.Messages.{Message, is_from, is_service, message_of, messages_after, messages_of}
use Rattle.cany_model.proofs.Among.{Among, count-yes, count-grows}
use Rattle.cany_model.proofs.Bus.Identities.{same_class-true, same_class_self}

length-messages_after : (earlier sends : List SendAsk) → length (messages_after earlier sends) ≡ length sends
unfolding messages_after
length-messages_after earlier [] = refl
length-messages_after earlier (send ∷ sends) = ap suc (length-messages_after (send ∷ earlier) sends)

pub length-messages_of : (sends : List SendAsk) → length (messages_of sends) ≡ length sends
length-messages_of sends = length-messages_after [] sends

-- the message of the send at a place
pub message_at : (earlier sends : List SendAsk) (index : ℕ) (send : SendAsk) → slice_get sends index ≡ Some send
    → (before : List SendAsk) × (slice_get (messages_after earlier sends) index ≡ Some (message_of before send))
unfolding messages_after
message_at earlier [] index send at = absurd (cc)
message_at earlier (first ∷ sends) zero send at = (earlier, ap (option_map (message_of earlier)) at)
message_at earlier (first ∷ sends) (suc index) send at = message_at (first ∷ earlier) sends index send at

-- the message is one of these
abbrev pub IsOneOf : List Message → Message → Type 0
IsOneOf messages m = Among (λ k. k ≡ m) messages

seq_from : (earlier sends : List SendAsk) (m : Message) → IsOneOf (messages_after earlier sends) m → count_by (is_from m.origin) earlier ≤ m.seq
unfolding messages_after
seq_from earlier [] m h = absurd h
seq_from earlier (send ∷ sends) m (inl e) =
    let at : (message_of earlier send).seq ≡ m.seq = ap (λ k. k.seq) e in
    let from : count_by (is_from send.node) earlier ≡ count_by (is_from m.origin) earlier = ap (λ (k : Message). count_by (is_from k.origin) earlier) e in
    omega arith
seq_from earlier (send ∷ sends) m (inr h) =
    omega (arith, seq_from (send ∷ earlier) sends m h, count-grows (is_from m.origin) send earlier)

later_seq : (earlier sends : List SendAsk) (send : SendAsk) (m : Message) → IsOneOf (messages_after (send ∷ earlier) sends) m → send.node ≡ m.origin
    → count_by (is_from m.origin) earlier < m.seq
later_seq earlier sends send m h e =
    omega (arith, seq_from (send ∷ earlier) sends m h, count-yes (is_from m.origin) send earlier (eq-eqb send.node m.origin e))

-- the message of a later send has another key
apart : (earlier sends : List SendAsk) (send : SendAsk) (k m : Message) → message_of earlier send ≡ k → IsOneOf (messages_after (send ∷ earlier) sends) m
    → k.origin ≡ m.origin → k.seq ≡ m.seq → ⊥
apart earlier sends send k m is h origin seq =
    let at : (message_of earlier send).seq ≡ k.seq = ap (λ (n : Message). n.seq) is in
    let node : send.node ≡ m.origin = ap (λ (n : Message). n.origin) is ∙ origin in
    let counts : count_by (is_from send.node) earlier ≡ count_by (is_from m.origin) earlier = ap (λ n. count_by (is_from n) earlier) node in
    omega (arith, later_seq earlier sends send m h node)

unique : (earlier sends : List SendAsk) (k m : Message) → IsOneOf (messages_after earlier sends) k → IsOneOf (messages_after earlier sends) m
    → k.origin ≡ m.origin → k.seq ≡ m.seq → k ≡ m
unfolding messages_after
unique earlier [] k m a b origin seq = absurd a
unique earlier (send ∷ sends) k m (inl a) (inl b) origin seq = sym a ∙ b
unique earlier (send ∷ sends) k m (inl a) (inr b) origin seq = absurd (apart earlier sends send k m a b origin seq)
unique earlier (send ∷ sends) k m (inr a) (inl b) origin seq = absurd (apart earlier sends send m k b a (sym origin) (sym seq))
unique earlier (send ∷ sends) k m (inr a) (inr b) origin seq = unique (send ∷ earlier) sends k m a b origin seq

pub same_message : (sends : List SendAsk) (k m : Message) → IsOneOf (messages_of sends) k → IsOneOf (messages_of sends) m
    → k.origin ≡ m.origin → k.seq ≡ m.seq → k ≡ m
same_message sends k m a b origin seq = unique [] sends k m a b origin seq

-- ---- services

-- the class of its data frame tells a service
pub data_class-one : (a b : Service) → data_class a ≡ data_class b → a ≡ b
data_class-one Ed Ed e = refl
data_class-one Ed Rel e = absurd (cc)
data_class-one Ed Tot e = absurd (cc)
data_class-one Rel Ed e = absurd (cc)
data_class-one Rel Rel e = refl
data_class-one Rel Tot e = absurd (cc)
data_class-one Tot Ed e = absurd (cc)
data_class-one Tot Rel e = absurd (cc)
data_class-one Tot Tot e = refl

pub is_service-true : (a b : Service) → is_service a b ≡ true → a ≡ b
unfolding is_service
is_service-true a b h = data_class-one a b (same_class-true (data_class a) (data_class b) h)

pub is_service-from : (a b : Service) → a ≡ b → is_service a b ≡ true
unfolding is_service
is_service-from a b e = ap (λ s. same_class (data_class s) (data_class b)) e ∙ same_class_self (data_class b)
