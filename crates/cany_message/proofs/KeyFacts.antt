-- The keys of messages, made one after another.
use Rattle.std.proofs.Common.{◌≡◌, ℕ, ◌+◌, ◌<◌, ◌≤◌, List, [], ◌∷◌, ◌++◌, drop, get_or, length, map, sym, ap, ◌∙◌, append_assoc}
use Rattle.std.proofs.lemmas.List.{append-nil, drop_all}
use Rattle.cany_base.specs.declared.message.MsgKey.{MsgKey}
use Rattle.cany_base.specs.declared.message.SendAsk.{SendAsk}
use Rattle.cany_model.specs.Rules.Messages.{message_key, message_of, messages_after, messages_of}
use Rattle.cany_message.proofs.SequenceFacts.{before, messages_from}

-- these keys are those of the first i messages
abbrev pub AreFirstKeys : List SendAsk → ℕ → List MsgKey → Type 0
AreFirstKeys sends i keys = map message_key (messages_of sends) ≡ keys ++ map message_key (messages_after (before sends i) (drop i sends))

pub keys_next : (sends : List SendAsk) (i : ℕ) (send : SendAsk) (keys : List MsgKey) (seq : ℕ) → AreFirstKeys sends i keys → i < length sends → send ≡ get_or sends i send
    → seq ≡ (message_of (before sends i) send).seq → AreFirstKeys sends (i + 1) (keys ++ record { origin = send.node; seq = seq } ∷ [])
keys_next sends i send keys seq so within here is =
    let rest : List MsgKey = map message_key (messages_after (before sends (i + 1)) (drop (i + 1) sends)) in
    so
    ∙ ap (λ messages. keys ++ map message_key messages) (messages_from sends i send within here)
    ∙ ap (λ n. keys ++ record { origin = send.node; seq = n } ∷ rest) (sym is)
    ∙ sym (append_assoc keys (record { origin = send.node; seq = seq } ∷ []) rest)

pub keys_all : (sends : List SendAsk) (i : ℕ) (keys : List MsgKey) → AreFirstKeys sends i keys → length sends ≤ i → keys ≡ map message_key (messages_of sends)
unfolding messages_after
keys_all sends i keys so all =
    sym (so ∙ ap (λ rest. keys ++ map message_key (messages_after (before sends i) rest)) (drop_all i sends all) ∙ append-nil keys)
