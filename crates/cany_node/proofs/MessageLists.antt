-- The messages of a node among those of a scenario.
use Rattle.std.proofs.Common.{◌≡◌, ℕ, zero, suc, ◌+◌, ◌<◌, ◌≤◌, ◌==◌, Bool, true, false, cond, List, [], ◌∷◌, ◌++◌, length, filter, map, get_or, count_by, refl, ap, sym, ◌∙◌, arith, eqb-true, take, Contains, inl, inr}
use Rattle.std.proofs.lemmas.Bool.Decides.{nat_tests}
use Rattle.std.proofs.lemmas.Bool.{eq-eqb, cases_Bool, cond-true, cond-false, cond_both, false≢true}
use Rattle.std.proofs.lemmas.List.{length-append, length-map, map-append, append-nil, take_more, get_or-map}
use Rattle.std.proofs.lemmas.List.Elements.{filter-append}
use Rattle.cany_base.specs.declared.message.SendAsk.{SendAsk}
use Rattle.cany_model.specs.Rules.Messages.{Message, is_from, message_of, messages_after, messages_of}
use Rattle.cany_model.proofs.Among.{Among, count-cons, count-yes, count-no, Among-from_Contains, Contains-from_Among}
use Rattle.cany_node.specs.declared.agenda.Planned.{Planned}
use Rattle.cany_node.specs.Agenda.{message_from, is_of_node}

-- those that came after the others, newest first
passed : List SendAsk → List SendAsk → List SendAsk
passed earlier [] = earlier
passed earlier (send ∷ sends) = passed (send ∷ earlier) sends

messages-push : (earlier sends : List SendAsk) (send : SendAsk)
    → messages_after earlier (sends ++ send ∷ []) ≡ messages_after earlier sends ++ message_of (passed earlier sends) send ∷ []
unfolding messages_after passed
messages-push earlier [] send = refl
messages-push earlier (first ∷ sends) send = ap (λ ms. message_of earlier first ∷ ms) (messages-push (first ∷ earlier) sends send)

-- as many messages of a node as sends
messages-count : (i : ℕ) (earlier sends : List SendAsk)
    → length (filter (is_of_node i) (messages_after earlier sends)) + count_by (is_from i) earlier ≡ count_by (is_from i) (passed earlier sends)
unfolding messages_after passed
messages-count i earlier [] = omega arith
messages-count i earlier (send ∷ sends) =
    let rest = messages-count i (send ∷ earlier) sends in
    elim (cases_Bool (send.node == i)) [
      | inl same ↦ rw same (omega (arith, rest, count-cons (is_from i) send earlier, cond-true {A = ℕ} (send.node == i) 1 0 same))
      | inr other ↦ rw other (omega (arith, rest, count-cons (is_from i) send earlier, cond-false {A = ℕ} (send.node == i) 1 0 other))
    ]

-- the send of the node that comes after these
abbrev pub next_planned : List Planned → SendAsk → Planned
next_planned planned send = record { slot = send.slot; seq = length planned; service = send.service; payload = send.payload }

module _ (i : ℕ) (sends : List SendAsk) (send : SendAsk) (planned : List Planned) (is : map (message_from i) planned ≡ filter (is_of_node i) (messages_of sends)) where
  all_messages : filter (is_of_node i) (messages_of (sends ++ send ∷ []))
      ≡ filter (is_of_node i) (messages_of sends) ++ filter (is_of_node i) (message_of (passed [] sends) send ∷ [])
  all_messages =
      ap (filter (is_of_node i)) (messages-push [] sends send) ∙ filter-append (is_of_node i) (messages_of sends) (message_of (passed [] sends) send ∷ [])

  pub planned-push : send.node ≡ i → map (message_from i) (planned ++ next_planned planned send ∷ []) ≡ filter (is_of_node i) (messages_of (sends ++ send ∷ []))
  planned-push same =
      let long : length planned ≡ length (filter (is_of_node i) (messages_of sends)) = sym (length-map planned (message_from i)) ∙ ap length is in
      let count : length planned ≡ count_by (is_from i) (passed [] sends) = omega (arith, long, messages-count i [] sends) in
      let one : message_from i (next_planned planned send) ≡ message_of (passed [] sends) send =
      λ k. record { slot = send.slot; origin = (sym same) k; seq = (count ∙ ap (λ n. count_by (is_from n) (passed [] sends)) (sym same)) k; service = send.service; payload = send.payload } in
      map-append (message_from i) planned (next_planned planned send ∷ [])
      ∙ ap (λ ms. ms ++ message_from i (next_planned planned send) ∷ []) is
      ∙ ap (λ m. filter (is_of_node i) (messages_of sends) ++ m ∷ []) one
      ∙ sym (all_messages ∙ ap (λ b. filter (is_of_node i) (messages_of sends) ++ cond b (message_of (passed [] sends) send ∷ []) []) (eq-eqb send.node i same))

  pub planned-skip : (send.node == i) ≡ false → map (message_from i) planned ≡ filter (is_of_node i) (messages_of (sends ++ send ∷ []))
  planned-skip other =
      is ∙ sym (all_messages ∙ ap (λ b. filter (is_of_node i) (messages_of sends) ++ cond b (message_of (passed [] sends) send ∷ []) []) other ∙ append-nil _)

next_taken : (sends : List SendAsk) (k : ℕ) (send : SendAsk) → k < length sends → send ≡ get_or sends k send → take (k + 1) sends ≡ take k sends ++ send ∷ []
next_taken sends k send within is = take_more sends k send within ∙ ap (λ x. take k sends ++ x ∷ []) (sym is)

-- the step to the next send, where it is one of the node and where not
pub planned-next : (i : ℕ) (sends : List SendAsk) (k : ℕ) (send : SendAsk) (planned new : List Planned) (seq : ℕ) → k < length sends → send ≡ get_or sends k send
    → map (message_from i) planned ≡ filter (is_of_node i) (messages_of (take k sends)) → send.node ≡ i → seq ≡ length planned
    → new ≡ planned ++ record { slot = send.slot; seq = seq; service = send.service; payload = send.payload } ∷ []
    → map (message_from i) new ≡ filter (is_of_node i) (messages_of (take (k + 1) sends))
planned-next i sends k send planned new seq within is before same count e =
    let step : new ≡ planned ++ next_planned planned send ∷ [] =
    e ∙ ap (λ n. planned ++ record { slot = send.slot; seq = n; service = send.service; payload = send.payload } ∷ []) count in
    ap (map (message_from i)) step ∙ planned-push i (take k sends) send planned before same
    ∙ ap (λ s. filter (is_of_node i) (messages_of s)) (sym (next_taken sends k send within is))

pub planned-past : (i : ℕ) (sends : List SendAsk) (k : ℕ) (send : SendAsk) (planned new : List Planned) → k < length sends → send ≡ get_or sends k send
    → map (message_from i) planned ≡ filter (is_of_node i) (messages_of (take k sends)) → (send.node ≡ i → ⊥) → new ≡ planned
    → map (message_from i) new ≡ filter (is_of_node i) (messages_of (take (k + 1) sends))
planned-past i sends k send planned new within is before other e =
    ap (map (message_from i)) e ∙ planned-skip i (take k sends) send planned before (different send.node i other)
    ∙ ap (λ s. filter (is_of_node i) (messages_of s)) (sym (next_taken sends k send within is))
  where
    different : (a b : ℕ) → (a ≡ b → ⊥) → (a == b) ≡ false
    different a b ne = grind (arith, nat_tests)

pub planned-more : (new planned : List Planned) (p : Planned) (k : ℕ) → new ≡ planned ++ p ∷ [] → length planned ≤ k → length new ≤ k + 1
planned-more new planned p k e few = omega (arith, ap length e, length-append planned (p ∷ []))

-- so many messages of a node are planned as it sends
own_count : (i : ℕ) (earlier sends : List SendAsk) → length (filter (is_of_node i) (messages_after earlier sends)) ≡ count_by (is_from i) sends
unfolding messages_after
own_count i earlier [] = refl
own_count i earlier (send ∷ sends) =
    let rest = own_count i (send ∷ earlier) sends in
    cond_both (send.node == i) (message_of earlier send ∷ filter (is_of_node i) (messages_after (send ∷ earlier) sends)) (filter (is_of_node i) (messages_after (send ∷ earlier) sends))
    (λ ms. length ms ≡ count_by (is_from i) (send ∷ sends))
    (λ same. omega (arith, rest, count-yes (is_from i) send sends same))
    (λ other. omega (arith, rest, count-no (is_from i) send sends other))

pub planned_count : (i : ℕ) (sends : List SendAsk) (planned : List Planned) → map (message_from i) planned ≡ filter (is_of_node i) (messages_of sends)
    → length planned ≡ count_by (is_from i) sends
planned_count i sends planned is = sym (length-map planned (message_from i)) ∙ ap length is ∙ own_count i [] sends

-- ---- the message of a number

-- the messages of a node are numbered in their order
numbered : (i : ℕ) (earlier sends : List SendAsk) (k : ℕ) (d : Message) → k < length (filter (is_of_node i) (messages_after earlier sends))
    → (get_or (filter (is_of_node i) (messages_after earlier sends)) k d).seq ≡ count_by (is_from i) earlier + k
unfolding messages_after
numbered i earlier [] k d within = absurd (omega arith)
numbered i earlier (send ∷ sends) zero d within =
    cond_both (send.node == i) (message_of earlier send ∷ filter (is_of_node i) (messages_after (send ∷ earlier) sends)) (filter (is_of_node i) (messages_after (send ∷ earlier) sends))
    (λ ms. 0 < length ms → (get_or ms 0 d).seq ≡ count_by (is_from i) earlier + 0)
    (λ same h. ap (λ n. count_by (is_from n) earlier) (eqb-true send.node i same) ∙ omega arith)
    (λ other h. numbered i (send ∷ earlier) sends 0 d h ∙ omega (arith, count-no (is_from i) send earlier other))
    within
numbered i earlier (send ∷ sends) (suc k) d within =
    cond_both (send.node == i) (message_of earlier send ∷ filter (is_of_node i) (messages_after (send ∷ earlier) sends)) (filter (is_of_node i) (messages_after (send ∷ earlier) sends))
    (λ ms. suc k < length ms → (get_or ms (suc k) d).seq ≡ count_by (is_from i) earlier + suc k)
    (λ same h. numbered i (send ∷ earlier) sends k d (omega arith) ∙ omega (arith, count-yes (is_from i) send earlier same))
    (λ other h. numbered i (send ∷ earlier) sends (suc k) d h ∙ omega (arith, count-no (is_from i) send earlier other))
    within

kept : {X : Type 0} (p : X → Bool) (x : X) (xs : List X) → p x ≡ true → Among (λ y. y ≡ x) xs → Among (λ y. y ≡ x) (filter p xs)
kept p x [] pass h = h
kept p x (y ∷ xs) pass (inl e) =
    cond_both (p y) (y ∷ filter p xs) (filter p xs) (λ ys. Among (λ z. z ≡ x) ys) (λ _. inl e) (λ no. absurd (false≢true (sym no ∙ ap p e ∙ pass)))
kept p x (y ∷ xs) pass (inr h) =
    cond_both (p y) (y ∷ filter p xs) (filter p xs) (λ ys. Among (λ z. z ≡ x) ys) (λ _. inr (kept p x xs pass h)) (λ _. kept p x xs pass h)

pub was_there : {X : Type 0} (p : X → Bool) (x : X) (xs : List X) → Among (λ y. y ≡ x) (filter p xs) → Among (λ y. y ≡ x) xs × (p x ≡ true)
was_there p x [] h = absurd h
was_there p x (y ∷ xs) h =
    cond_both (p y) (y ∷ filter p xs) (filter p xs) (λ ys. Among (λ z. z ≡ x) ys → Among (λ z. z ≡ x) (y ∷ xs) × (p x ≡ true))
    (λ pass k. elim k [
      | inl e ↦ (inl e, ap p (sym e) ∙ pass)
      | inr l ↦ let rest = was_there p x xs l in (inr rest.0, rest.1)
    ])
    (λ _ k. let rest = was_there p x xs k in (inr rest.0, rest.1))
    h

module _ (i : ℕ) (sends : List SendAsk) (planned : List Planned) (is : map (message_from i) planned ≡ filter (is_of_node i) (messages_of sends)) where
  own_messages : List Message
  own_messages = filter (is_of_node i) (messages_of sends)

  planned_length : length planned ≡ length own_messages
  unfolding own_messages
  planned_length = sym (length-map planned (message_from i)) ∙ ap length is

  -- the place of a message of the node among all that it sends
  place_among : (m : Message) → Contains (messages_of sends) m → m.origin ≡ i → Contains own_messages m
  unfolding own_messages
  place_among m stands origin =
      Contains-from_Among own_messages m (kept (is_of_node i) m (messages_of sends) (eq-eqb m.origin i origin) (Among-from_Contains (messages_of sends) m stands))

  place_is_number : (m : Message) → (c : Contains own_messages m) → m.seq ≡ c.0
  unfolding own_messages
  place_is_number m c = sym (ap (λ (x : Message). x.seq) c.2) ∙ numbered i [] sends c.0 m c.1 ∙ omega arith

  -- a message of the node is planned at the place of its number
  pub planned_within : (m : Message) → Contains (messages_of sends) m → m.origin ≡ i → m.seq < length planned
  planned_within m stands origin =
      let c = place_among m stands origin in
      omega (arith, place_is_number m c, c.1, planned_length)

  pub planned_message : (m : Message) → Contains (messages_of sends) m → m.origin ≡ i → (p : Planned) → p ≡ get_or planned m.seq p → message_from i p ≡ m
  unfolding own_messages
  planned_message m stands origin p at =
      let c = place_among m stands origin in
      ap (message_from i) at ∙ sym (get_or-map (message_from i) planned m.seq p m (planned_within m stands origin))
      ∙ ap (λ ms. get_or ms m.seq m) is ∙ ap (λ n. get_or own_messages n m) (place_is_number m c) ∙ c.2

  -- what is planned at a place is a message of the node with that number
  pub message_planned : (k : ℕ) (p : Planned) → k < length planned → p ≡ get_or planned k p
      → Contains (messages_of sends) (message_from i p) × (p.seq ≡ k)
  message_planned k p within at =
      let own : List Message = filter (is_of_node i) (messages_of sends) in
      let long : length planned ≡ length own = sym (length-map planned (message_from i)) ∙ ap length is in
      let here : get_or own k (message_from i p) ≡ message_from i p =
      ap (λ ms. get_or ms k (message_from i p)) (sym is) ∙ get_or-map (message_from i) planned k p (message_from i p) within ∙ ap (message_from i) (sym at) in
      let c : Contains own (message_from i p) = (k, omega (arith, within, long), here) in (
        Contains-from_Among (messages_of sends) (message_from i p) (was_there (is_of_node i) (message_from i p) (messages_of sends) (Among-from_Contains own (message_from i p) c)).0,
        sym (ap (λ (x : Message). x.seq) here) ∙ numbered i [] sends k (message_from i p) (omega (arith, within, long)) ∙ omega arith,
      )
