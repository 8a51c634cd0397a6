-- What a node's log delivers by TOTCAN are the messages of the data frames that it has delivered,
-- in that order.
use Rattle.std.proofs.Common.{◌≡◌, ℕ, ◌≤◌, inl, inr, true, false, List, [], ◌∷◌, ◌++◌, map, length, Contains, refl, ap, sym, ◌∙◌, subst, append-nil}
use Rattle.std.specs.List.{AllByRecursion, flat_map}
use Rattle.std.proofs.lemmas.Bool.{cond_both, false≢true}
use Rattle.std.proofs.lemmas.Grind.{flat_map-append}
use Rattle.std.proofs.lemmas.List.{map-append}
use Rattle.cany_base.specs.declared.log_entry.LogEntry.{LogEntry}
use Rattle.cany_base.specs.declared.log_entry.LogEntry.TheVariants.{Deliver, Failed, View}
use Rattle.cany_base.specs.declared.message.MsgKey.{MsgKey}
use Rattle.cany_base.specs.declared.message.Service.TheVariants.{Tot}
use Rattle.cany_base.specs.declared.notice.NoticeKind.{NoticeKind}
use Rattle.cany_base.specs.declared.step.Step.{Step}
use Rattle.cany_base.specs.Frame.{FrameParts}
use Rattle.cany_base.specs.Limits.{most_nodes}
use Rattle.cany_base.specs.Scenario.{ScenarioParts}
use Rattle.cany_model.specs.Bus.Frames.{same_class}
use Rattle.cany_model.specs.Bus.History.{history}
use Rattle.cany_model.specs.Runs.Run.{run}
use Rattle.cany_model.specs.Bus.State.{RunState}
use Rattle.cany_model.specs.Promises.Order.{Content, content_of, tot_content, tot_deliveries}
use Rattle.cany_model.specs.Promises.Entries.{HasDelivered, is_delivery_of}
use Rattle.cany_model.specs.Promises.Safe.{IsSound}
use Rattle.cany_model.specs.Promises.Settled.{IsCorrect}
use Rattle.cany_model.specs.Rules.Backlog.{tot_backlog}
use Rattle.cany_model.specs.Rules.Delivery.{delivery}
use Rattle.cany_model.specs.Rules.Edcan.{edcan}
use Rattle.cany_model.specs.Rules.Effect.{Effect, Ask, Withdraw, Enter, entered}
use Rattle.cany_model.specs.Rules.Life.{failure_signs, life_signs}
use Rattle.cany_model.specs.Rules.Log.{log, log_from}
use Rattle.cany_model.specs.Rules.Membership.{scripted_asks, vectors, views}
use Rattle.cany_model.specs.Rules.Messages.{Message, is_service, message_key, messages_of}
use Rattle.cany_model.specs.Rules.Protocol.{Protocol}
use Rattle.cany_model.specs.Rules.Relcan.{relcan}
use Rattle.cany_model.specs.Rules.Sends.{scripted_sends}
use Rattle.cany_model.specs.Rules.Totcan.{delivered, delivered_now, message_in, totcan}
use Rattle.cany_model.specs.Rules.Turn.{scenario_at, turn_effects}
use Rattle.cany_model.proofs.Among.{Among, Among-flat_map, Among-from_Contains, Among-from_flat_map, Among-map, Among-weaker, Among-which, Contains-from_Among}
use Rattle.cany_model.proofs.Promises.Integrity.{integral}
use Rattle.cany_model.proofs.Rules.Services.DeliveryFacts.{entered-append}
use Rattle.cany_model.proofs.Rules.Services.MessageKeys.{is_service-true, same_message}
use Rattle.cany_model.proofs.Rules.ProtocolFacts.{IsFounded, IsFoundedEntry, IsLawful}
use Rattle.cany_model.proofs.Rules.Protocols.{are_lawful}
use Rattle.cany_model.proofs.Rules.Services.TotcanFacts.{totcan_enters}

abbrev pub content_in : FrameParts → Content
content_in f = record { msg = message_in f; payload = f.payload }

-- ---- what a turn enters

-- the deliveries by TOTCAN that effects enter
abbrev tot_entered : List Effect → List Content
tot_entered effects = tot_deliveries (entered effects)

tot_append : (first rest : List Effect) → tot_entered (first ++ rest) ≡ tot_entered first ++ tot_entered rest
tot_append first rest = ap tot_deliveries (entered-append first rest) ∙ flat_map-append tot_content (entered first) (entered rest)

-- an entry of a protocol that delivers no message by TOTCAN
other_entry : (scenario : ScenarioParts) (p : Protocol) → p.delivers Tot ≡ false → (i : ℕ) (past : List NoticeKind) (entry : LogEntry)
    → IsFoundedEntry scenario p i past entry → tot_content entry ≡ []
other_entry scenario p other i past (Deliver slot by msg payload) r =
    cond_both (is_service by Tot) (record { msg = msg; payload = payload } ∷ []) [] (λ l. l ≡ [])
    (λ same. absurd (false≢true (sym other ∙ ap p.delivers (sym (is_service-true by Tot same)) ∙ r.serves)))
    (λ _. refl)
other_entry scenario p other i past (Failed slot node cycle) r = refl
other_entry scenario p other i past (View slot number members) r = refl

other_enters : (scenario : ScenarioParts) (p : Protocol) → p.delivers Tot ≡ false → (i : ℕ) (past : List NoticeKind) (effects : List Effect)
    → AllByRecursion (IsFounded scenario p i past) effects → tot_entered effects ≡ []
unfolding entered
other_enters scenario p other i past [] h = refl
other_enters scenario p other i past (Ask f ∷ effects) h = other_enters scenario p other i past effects h.1
other_enters scenario p other i past (Withdraw x ∷ effects) h = other_enters scenario p other i past effects h.1
other_enters scenario p other i past (Enter entry ∷ effects) h =
    ap (λ l. l ++ tot_entered effects) (other_entry scenario p other i past entry h.0) ∙ other_enters scenario p other i past effects h.1

-- so protocols that deliver none enter none
abbrev IsOther : Protocol → Type 0
IsOther p = IsLawful p × (p.delivers Tot ≡ false)

others_enter : (scenario : ScenarioParts) (i : ℕ) (past : List NoticeKind) (ps : List Protocol) → AllByRecursion IsOther ps
    → tot_entered (flat_map (λ p. p.effects scenario i past) ps) ≡ []
unfolding entered
others_enter scenario i past [] h = refl
others_enter scenario i past (p ∷ ps) h =
    tot_append (p.effects scenario i past) (flat_map (λ q. q.effects scenario i past) ps)
    ∙ ap (λ l. l ++ tot_entered (flat_map (λ q. q.effects scenario i past) ps))
    (other_enters scenario p h.0.1 i past (p.effects scenario i past) (h.0.0.founded scenario i past))
    ∙ others_enter scenario i past ps h.1

deliveries_are : (slot : ℕ) (frames : List FrameParts) → tot_deliveries (map (delivery slot Tot) frames) ≡ map content_in frames
unfolding is_service same_class
deliveries_are slot [] = refl
deliveries_are slot (f ∷ frames) = ap (λ l. content_in f ∷ l) (deliveries_are slot frames)

-- a turn enters by TOTCAN what it delivers
turn_delivers : (scenario : ScenarioParts) (i : ℕ) (e : NoticeKind) (before : List NoticeKind)
    → tot_entered (turn_effects scenario i (e ∷ before)) ≡ map content_in (delivered_now scenario.params i (e ∷ before))
unfolding turn_effects is_service same_class
turn_delivers scenario i e before =
    let past : List NoticeKind = e ∷ before in
    let effects : Protocol → List Effect = λ p. p.effects scenario i past in
    let after : List Protocol = failure_signs ∷ vectors ∷ views ∷ life_signs ∷ scripted_sends ∷ scripted_asks ∷ tot_backlog ∷ [] in
    let laws = are_lawful in
    let l = laws.1.1.1 in
    let last = l.1.1.1 in
    let of_ed : tot_entered (effects edcan) ≡ [] = other_enters scenario edcan refl i past (effects edcan) (laws.0.founded scenario i past) in
    let of_rel : tot_entered (effects relcan) ≡ [] = other_enters scenario relcan refl i past (effects relcan) (laws.1.0.founded scenario i past) in
    let of_tot : tot_entered (effects totcan) ≡ map content_in (delivered_now scenario.params i past) =
    ap tot_deliveries (totcan_enters scenario i e before) ∙ deliveries_are (length before) (delivered_now scenario.params i past) in
    let of_rest : tot_entered (flat_map effects after) ≡ [] =
    others_enter scenario i past after
    ((l.0, refl), ((l.1.0, refl), ((l.1.1.0, refl), ((last.0, refl), ((last.1.0, refl), ((last.1.1.0, refl), ((last.1.1.1.0, refl), tt))))))) in
    tot_append (effects edcan) (flat_map effects (relcan ∷ totcan ∷ after))
    ∙ ap (λ a. a ++ tot_entered (flat_map effects (relcan ∷ totcan ∷ after))) of_ed
    ∙ tot_append (effects relcan) (flat_map effects (totcan ∷ after))
    ∙ ap (λ a. a ++ tot_entered (flat_map effects (totcan ∷ after))) of_rel
    ∙ tot_append (effects totcan) (flat_map effects after)
    ∙ ap (λ a. tot_entered (effects totcan) ++ a) of_rest
    ∙ append-nil (tot_entered (effects totcan))
    ∙ of_tot

-- ---- the log

pub log_delivers : (scenario : ScenarioParts) (i : ℕ) (past : List NoticeKind)
    → tot_deliveries (log_from scenario i past) ≡ map content_in (delivered scenario.params i past)
unfolding log_from delivered delivered_now
log_delivers scenario i [] = refl
log_delivers scenario i (e ∷ before) =
    flat_map-append tot_content (log_from scenario i before) (entered (turn_effects scenario i (e ∷ before)))
    ∙ ap (λ l. l ++ tot_entered (turn_effects scenario i (e ∷ before))) (log_delivers scenario i before)
    ∙ ap (λ l. map content_in (delivered scenario.params i before) ++ l) (turn_delivers scenario i e before)
    ∙ sym (map-append content_in (delivered scenario.params i before) (delivered_now scenario.params i (e ∷ before)))

-- ---- a message of the log

delivery_content : (m : Message) → m.service ≡ Tot → (entry : LogEntry) → is_delivery_of m entry → Among (λ c. c ≡ content_of m) (tot_content entry)
unfolding is_service same_class
delivery_content m tot (Deliver slot by msg payload) d =
    let same : is_service by Tot ≡ true = ap (λ v. is_service v Tot) (sym d.1 ∙ tot) in
    rw same (inl (λ k. record { msg = (sym d.0) k; payload = (sym d.2) k }))
delivery_content m tot (Failed slot node cycle) d = absurd d
delivery_content m tot (View slot number members) d = absurd d

-- one that a node has delivered stands among the deliveries of its log
pub delivered_content : (scenario : ScenarioParts) (s : RunState) (i : ℕ) (m : Message) → m.service ≡ Tot → HasDelivered scenario s i m
    → Contains (tot_deliveries (log scenario s i)) (content_of m)
delivered_content scenario s i m tot h =
    Contains-from_Among (tot_deliveries (log scenario s i)) (content_of m)
    (Among-flat_map tot_content (λ c. c ≡ content_of m) (log scenario s i)
    (Among-weaker (λ entry. entry ≡ h.entry) (λ entry. Among (λ c. c ≡ content_of m) (tot_content entry))
    (λ entry e. subst (λ x. Among (λ c. c ≡ content_of m) (tot_content x)) (sym e) (delivery_content m tot h.entry h.delivers))
    (log scenario s i) (Among-from_Contains (log scenario s i) h.entry h.stands)))

-- the entry that delivers a message of this key by TOTCAN
record IsTotEntry (key : MsgKey) (entry : LogEntry) : Type 0 where
  slot : ℕ
  payload : List ℕ
  is : entry ≡ Deliver slot Tot key payload

entry_named : (key : MsgKey) (entry : LogEntry) → Among (λ c. c.msg ≡ key) (tot_content entry) → IsTotEntry key entry
entry_named key (Deliver slot by msg payload) h =
    cond_both (is_service by Tot) (record { msg = msg; payload = payload } ∷ []) []
    (λ l. Among (λ (c : Content). c.msg ≡ key) l → IsTotEntry key (Deliver slot by msg payload))
    (λ same a. elim a [
      | inl e ↦ record { slot = slot; payload = payload; is = λ k. Deliver slot ((is_service-true by Tot same) k) (e k) payload }
      | inr none ↦ absurd none
    ])
    (λ _ none. absurd none)
    h
entry_named key (Failed slot node cycle) h = absurd h
entry_named key (View slot number members) h = absurd h

-- what was sent under the key of a message is the message
sound_payload : (scenario : ScenarioParts) (s : RunState) (m : Message) (slot : ℕ) (payload : List ℕ) → Contains (messages_of scenario.sends) m
    → IsSound scenario s (Deliver slot Tot (message_key m) payload) → m.payload ≡ payload
sound_payload scenario s m slot payload stands is =
    let same : is.0 ≡ m =
    same_message scenario.sends is.0 m (Among-from_Contains (messages_of scenario.sends) is.0 is.1)
    (Among-from_Contains (messages_of scenario.sends) m stands)
    (ap (λ (k : MsgKey). k.origin) is.2) (ap (λ (k : MsgKey). k.seq) is.2) in
    ap (λ (n : Message). n.payload) (sym same) ∙ is.4

-- so a node has delivered a message of which it has delivered a data frame
pub named_delivered : (scenario : ScenarioParts) (journal : List Step) → scenario.params.nodes ≤ most_nodes → (i : ℕ)
    → IsCorrect scenario (run scenario journal) i → (m : Message) → Contains (messages_of scenario.sends) m → m.service ≡ Tot
    → Among (λ f. message_in f ≡ message_key m) (delivered scenario.params i (history i (run scenario journal)))
    → HasDelivered scenario (run scenario journal) i m
named_delivered scenario journal few i correct m stands tot h =
    let s : RunState = run scenario journal in
    let key : MsgKey = message_key m in
    let there : Among (λ (c : Content). c.msg ≡ key) (tot_deliveries (log scenario s i)) =
    subst (Among (λ (c : Content). c.msg ≡ key)) (sym (log_delivers (scenario_at scenario s i) i (history i s)))
    (Among-map content_in (λ (c : Content). c.msg ≡ key) (delivered scenario.params i (history i s)) h) in
    let w = Among-which (λ entry. Among (λ (c : Content). c.msg ≡ key) (tot_content entry)) (log scenario s i)
    (Among-from_flat_map tot_content (λ (c : Content). c.msg ≡ key) (log scenario s i) there) in
    let e = entry_named key w.0 w.2 in
    let sound : IsSound scenario s (Deliver e.slot Tot key e.payload) =
    subst (IsSound scenario s) e.is ((integral scenario journal few).sent i correct w.0 w.1) in
    record {
      entry = w.0;
      stands = w.1;
      delivers = subst (is_delivery_of m) (sym e.is) (refl, tot, sound_payload scenario s m e.slot e.payload stands sound);
    }
