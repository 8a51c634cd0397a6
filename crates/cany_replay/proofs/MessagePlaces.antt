-- The messages of sends by their places in the file.
use Rattle.std.proofs.Common.{◌≡◌, ℕ, zero, suc, ◌<◌, ◌≤◌, List, [], ◌∷◌, count_by, length, get_or, map, refl, ap, sym, ◌∙◌, arith}
use Rattle.std.specs.Prelude.{slice_get, option_map, Some}
use Rattle.std.proofs.lemmas.Bool.{eq-eqb}
use Rattle.std.proofs.lemmas.Option.{get_or_from_slice_get, slice_get_read, slice_get-map}
use Rattle.cany_base.specs.declared.message.MsgKey.{MsgKey}
use Rattle.cany_base.specs.declared.message.SendAsk.{SendAsk}
use Rattle.cany_model.specs.Rules.Messages.{Message, is_from, message_key, message_of, messages_after, messages_of}
use Rattle.cany_model.proofs.Among.{count-yes, count-grows}
use Rattle.cany_model.proofs.Rules.Services.MessageKeys.{length-messages_of, message_at}

length-keys : (ms : List Message) → length (map message_key ms) ≡ length ms
length-keys [] = refl
length-keys (m ∷ ms) = ap suc (length-keys ms)

-- there is a key for each send
pub key_each : (sends : List SendAsk) (keys : List MsgKey) → keys ≡ map message_key (messages_of sends) → length keys ≡ length sends
key_each sends keys are = ap length are ∙ length-keys (messages_of sends) ∙ length-messages_of sends

-- the message of a send at a place, by its key
pub message_there : (sends : List SendAsk) (i : ℕ) (send : SendAsk) (keys : List MsgKey) (key : MsgKey) (d : Message) → i < length sends → send ≡ get_or sends i send
    → keys ≡ map message_key (messages_of sends) → key ≡ get_or keys i key
    → record { slot = send.slot; origin = send.node; seq = key.seq; service = send.service; payload = send.payload } ≡ get_or (messages_of sends) i d
message_there sends i send keys key d inside is keys_are key_is =
    let found : (before : List SendAsk) × (slice_get (messages_of sends) i ≡ Some (message_of before send)) =
    message_at [] sends i send (slice_get_read sends (length sends) i send refl inside is) in
    let m : Message = message_of found.0 send in
    let many : i < length (messages_of sends) = omega (arith, inside, length-messages_of sends) in
    let within : i < length keys = omega (arith, many, ap length keys_are, length-keys (messages_of sends)) in
    let key_at : slice_get keys i ≡ Some key = slice_get_read keys (length keys) i key refl within key_is in
    let key_of : Some key ≡ Some (message_key m) =
    sym key_at ∙ ap (λ ks. slice_get ks i) keys_are ∙ slice_get-map message_key (messages_of sends) i ∙ ap (option_map message_key) found.1 in
    let named : key ≡ message_key m = cc in
    ap (λ (k : MsgKey). record { slot = send.slot; origin = send.node; seq = k.seq; service = send.service; payload = send.payload }) named
    ∙ sym (get_or_from_slice_get (messages_of sends) i m d found.1)

-- each message is from a node of the bus
pub origins_below : (n : ℕ) (earlier sends : List SendAsk) → ((k : ℕ) (d : SendAsk) → k < length sends → (get_or sends k d).node < n) → (i : ℕ) (d : Message) → d.origin < n
    → (get_or (messages_after earlier sends) i d).origin < n
unfolding messages_after
origins_below n earlier [] law i d small = small
origins_below n earlier (send ∷ sends) law zero d small = law 0 send (omega arith)
origins_below n earlier (send ∷ sends) law (suc i) d small =
    origins_below n (send ∷ earlier) sends (λ k e inside. law (suc k) e (omega (arith, inside))) i d small

seq_least : (earlier sends : List SendAsk) (j : ℕ) (d : Message) → j < length sends
    → count_by (is_from (get_or (messages_after earlier sends) j d).origin) earlier ≤ (get_or (messages_after earlier sends) j d).seq
unfolding messages_after
seq_least earlier [] j d inside = absurd (omega (arith, inside))
seq_least earlier (send ∷ sends) zero d inside = omega arith
seq_least earlier (send ∷ sends) (suc j) d inside =
    omega (
      arith,
      seq_least (send ∷ earlier) sends j d (omega (arith, inside)),
      count-grows (is_from (get_or (messages_after (send ∷ earlier) sends) j d).origin) send earlier,
    )

-- of two messages of one origin the later has the greater number
pub seq_grows : (earlier sends : List SendAsk) (i j : ℕ) (d : Message) → i < j → j < length sends
    → (get_or (messages_after earlier sends) i d).origin ≡ (get_or (messages_after earlier sends) j d).origin
    → (get_or (messages_after earlier sends) i d).seq < (get_or (messages_after earlier sends) j d).seq
unfolding messages_after
seq_grows earlier [] i j d before inside own = absurd (omega (arith, inside))
seq_grows earlier (send ∷ sends) i zero d before inside own = absurd (omega (arith, before))
seq_grows earlier (send ∷ sends) zero (suc j) d before inside own =
    let m : Message = get_or (messages_after (send ∷ earlier) sends) j d in
    let counts : count_by (is_from send.node) earlier ≡ count_by (is_from m.origin) earlier = ap (λ n. count_by (is_from n) earlier) own in
    omega (
      arith,
      counts,
      seq_least (send ∷ earlier) sends j d (omega (arith, inside)),
      count-yes (is_from m.origin) send earlier (eq-eqb send.node m.origin own),
    )
seq_grows earlier (send ∷ sends) (suc i) (suc j) d before inside own =
    seq_grows (send ∷ earlier) sends i j d (omega (arith, before)) (omega (arith, inside)) own
