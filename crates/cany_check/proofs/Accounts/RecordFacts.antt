-- The records of messages: each is made of what the world tells of its send, and of its slots.
use Rattle.std.proofs.Common.{◌≡◌, ℕ, Bool, List, [], ◌∷◌, map, refl, ap, sym, ◌∙◌}
use Rattle.std.specs.Prelude.{IsSomeAnd, None, Some, option_map, slice_get}
use Rattle.std.proofs.lemmas.Option.{slice_get-map}
use Rattle.cany_base.specs.declared.message.MsgKey.{MsgKey}
use Rattle.cany_base.specs.declared.message.SendAsk.{SendAsk}
use Rattle.cany_base.specs.Nodes.{Nodes}
use Rattle.cany_base.specs.Scenario.{ScenarioParts}
use Rattle.cany_model.specs.Bus.State.{RunState}
use Rattle.cany_model.specs.Rules.Messages.{Message, frames_of, message_key, messages_of}
use Rattle.cany_model.proofs.Rules.Services.MessageKeys.{message_at}
use Rattle.cany_world.specs.Settled.{is_queued, nodes_ahead, waiting_nodes}
use Rattle.cany_check.specs.Accounts.Account.{message_record, unsent_record}
use Rattle.cany_check.specs.Accounts.Records.{message_slots, with_slots}

module _ (scenario : ScenarioParts) (s : RunState) where
  abbrev IsTold : ℕ → (Message → Type 0) → Type 0
  IsTold index P = IsSomeAnd (slice_get (messages_of scenario.sends) index) P

  pub unsent_at : (index : ℕ) (send : SendAsk) → slice_get scenario.sends index ≡ Some send → (key : MsgKey) (queued : Bool) (waits ahead : Nodes)
      → IsTold index (λ m. key ≡ message_key m) → IsTold index (λ m. queued ≡ is_queued scenario s m)
      → IsTold index (λ m. waits ≡ waiting_nodes (frames_of m) s) → IsTold index (λ m. ahead ≡ nodes_ahead scenario s m)
      → slice_get (map (unsent_record scenario s) (messages_of scenario.sends)) index
      ≡ Some (record {
        key = key;
        service = send.service;
        payload = send.payload;
        slot = send.slot;
        sent = None;
        carried = None;
        queued = queued;
        waits = waits;
        ahead = ahead;
      })
  unsent_at index send at key queued waits ahead is_key is_asked is_waiting is_ahead =
      let m = message_at [] scenario.sends index send at in
      let a = rw m.1 at is_key in
      let b = rw m.1 at is_asked in
      let c = rw m.1 at is_waiting in
      let d = rw m.1 at is_ahead in
      slice_get-map (unsent_record scenario s) (messages_of scenario.sends) index ∙ ap (option_map (unsent_record scenario s)) m.1
      ∙ (λ k. Some (record {
        key = (sym a) k;
        service = send.service;
        payload = send.payload;
        slot = send.slot;
        sent = None;
        carried = None;
        queued = (sym b) k;
        waits = (sym c) k;
        ahead = (sym d) k;
      }))

  pub whole_records : (ms : List Message)
      → map (λ r. with_slots r (message_slots s.trace r)) (map (unsent_record scenario s) ms) ≡ map (message_record scenario s) ms
  whole_records [] = refl
  whole_records (m ∷ ms) = ap (λ l. message_record scenario s m ∷ l) (whole_records ms)
