-- Numbers tell messages apart, and there is room for those of a scenario.
use Rattle.std.proofs.Common.{◌≡◌, ℕ, ◌<◌, ◌≤◌, ◌==◌, ◌&&◌, inl, inr, Bool, true, List, [], ◌∷◌, filter, length, ap, sym, ◌∙◌, arith}
use Rattle.std.proofs.lemmas.Bool.Decides.{nat_tests}
use Rattle.std.proofs.lemmas.List.{length-map}
use Rattle.std.proofs.lemmas.List.Sums.{count_by-le-length, length-filter}
use Rattle.cany_base.specs.declared.message.Service.{Service}
use Rattle.cany_base.specs.Frame.{FrameParts}
use Rattle.cany_base.specs.Scenario.{ScenarioParts}
use Rattle.cany_diffuse.specs.Eager.{EagerParts, is_among, IsCounted, HasRoomFor}
use Rattle.cany_diffuse.proofs.RoomFacts.{room_within}
use Rattle.cany_model.specs.Bus.Frames.{Identity}
use Rattle.cany_model.specs.Rules.Messages.{IsOfMessage, Message, is_service, messages_of}
use Rattle.cany_model.specs.Rules.Notices.{NamesMessage}
use Rattle.cany_model.specs.Rules.Rooms.{sends_by}
use Rattle.cany_model.proofs.Among.{Among, Among-from_Contains, Among-weaker, count-from_Among}
use Rattle.cany_base.specs.Limits.{most_nodes}
use Rattle.cany_message.specs.Numbers.{message_number, message_numbers, numbers_of, frame_number}
use Rattle.cany_model.proofs.Rules.Services.MessageKeys.{is_service-from}
use Rattle.cany_message.specs.Table.{CanTake}
use Rattle.cany_model.proofs.Rules.RoomFacts.{count_messages}

one_seq : (s o t p : ℕ) → o < most_nodes → p < most_nodes → message_number s o ≡ message_number t p → s ≡ t
one_seq s o t p ho hp e = omega arith

one_origin : (s o t p : ℕ) → o < most_nodes → p < most_nodes → message_number s o ≡ message_number t p → o ≡ p
one_origin s o t p ho hp e = omega arith

pub same_number : (s o t p : ℕ) → o < most_nodes → p < most_nodes → (message_number s o == message_number t p) ≡ (s == t && o == p)
same_number s o t p ho hp = grind (arith, nat_tests, one_seq s o t p ho hp, one_origin s o t p ho hp)

-- no more sends are by a service than there are
pub few_sends : (scenario : ScenarioParts) (by : Service) → sends_by scenario by ≤ length scenario.sends
few_sends scenario by = count_by-le-length (λ send. is_service by send.service) scenario.sends

-- so where there is a message, some send is by its service
pub some_send : (scenario : ScenarioParts) (by : Service) (x : Identity) → IsOfMessage scenario by x → 0 < sends_by scenario by
some_send scenario by x is =
    omega (
      arith,
      count_messages by [] scenario.sends,
      count-from_Among (λ m. is_service by m.service) (messages_of scenario.sends)
          (Among-weaker (λ m. m ≡ is.message) (λ m. is_service by m.service ≡ true)
          (λ m same. is_service-from by m.service (sym is.sent_by ∙ sym (ap (λ (k : Message). k.service) same)))
          (messages_of scenario.sends) (Among-from_Contains (messages_of scenario.sends) is.message is.stands)),
    )

-- and as many numbers as sends
pub length-message_numbers : (scenario : ScenarioParts) (by : Service)
    → length (message_numbers scenario by) ≡ sends_by scenario by
length-message_numbers scenario by =
    length-map (filter (λ m. is_service by m.service) (messages_of scenario.sends)) (λ m. message_number m.seq m.origin)
    ∙ length-filter (λ m. is_service by m.service) (messages_of scenario.sends)
    ∙ count_messages by [] scenario.sends

-- a message has its number among those of the messages that pass a test, where it passes
number_among : (p : Message → Bool) (messages : List Message) (m : Message) → p m ≡ true → Among (λ k. k ≡ m) messages
    → is_among (message_number m.seq m.origin) (numbers_of (filter p messages)) ≡ true
number_among p [] m passes h = absurd h
number_among p (k ∷ messages) m passes (inl e) =
    grind (arith, nat_tests, ap p e, passes, ap (λ (n : Message). n.seq) e, ap (λ (n : Message). n.origin) e)
number_among p (k ∷ messages) m passes (inr h) = grind (arith, nat_tests, number_among p messages m passes h)

-- the number of a frame that names a message is that of the message
pub named_among : (scenario : ScenarioParts) (by : Service) (f : FrameParts) → NamesMessage scenario by f → is_among (frame_number f) (message_numbers scenario by) ≡ true
named_among scenario by f named =
    let same : message_number named.message.seq named.message.origin ≡ frame_number f = omega (arith, named.number, named.origin) in
    ap (λ n. is_among n (message_numbers scenario by)) (sym same)
    ∙ number_among (λ m. is_service by m.service) (messages_of scenario.sends) named.message (is_service-from by named.message.service (sym named.sent_by))
    (Among-from_Contains (messages_of scenario.sends) named.message named.stands)

pub room_to_take : (number : ℕ) (table : EagerParts) → CanTake number table → IsCounted table → HasRoomFor number table
room_to_take number table can counted = room_within table can.numbers number counted can.room can.all can.this
