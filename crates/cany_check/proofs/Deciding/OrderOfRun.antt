-- Where correct nodes follow one order, no two of them part in the account of the run.
use Rattle.std.proofs.Common.{◌≡◌, ℕ, ◌<◌, ◌≤◌, ◌&&◌, Bool, true, false, List, [], ◌∷◌, ◌++◌, map, refl, ap, sym, ◌∙◌, arith, inl, inr, Contains}
use Rattle.std.specs.Prelude.{filter, find, max, nat_le, if◌then◌else◌, option_map, Option, Some, None}
use Rattle.std.specs.List.{AllByRecursion, flat_map}
use Rattle.std.specs.Option.{option_map_or}
use Rattle.std.proofs.lemmas.Bool.{and_parts, cases_Bool, cases_lt, le-leb, lt-leb}
use Rattle.std.proofs.lemmas.List.{map-append}
use Rattle.std.proofs.lemmas.List.Elements.{filter-append}
use Rattle.cany_base.specs.declared.class.Class.TheVariants as class
use Rattle.cany_base.specs.declared.log_entry.LogEntry.{LogEntry}
use Rattle.cany_base.specs.declared.log_entry.LogEntry.TheVariants.{Deliver, Failed, View}
use Rattle.cany_base.specs.declared.message.MsgKey.{MsgKey}
use Rattle.cany_base.specs.declared.message.Service.TheVariants.{Tot}
use Rattle.cany_base.specs.declared.slot_note.SlotNote.{SlotNote}
use Rattle.cany_base.specs.declared.step.Step.{Step}
use Rattle.cany_base.specs.Frame.{FrameParts}
use Rattle.cany_base.specs.Limits.{most_nodes}
use Rattle.cany_base.specs.Scenario.{ScenarioParts}
use Rattle.cany_model.specs.Bus.Frames.{same_class}
use Rattle.cany_model.specs.Bus.Slot.{is_clean}
use Rattle.cany_model.specs.Bus.State.{RunState, node_at}
use Rattle.cany_model.specs.Promises.FirstSlots.{first_carried}
use Rattle.cany_model.specs.Promises.Order.{Content, FollowsOrder, HasOneOrder, is_accepted_by_some, order, order_by, ordered_in, tot_deliveries}
use Rattle.cany_model.specs.Promises.Settled.{IsCorrect}
use Rattle.cany_model.specs.Rules.Log.{log}
use Rattle.cany_model.specs.Rules.Messages.{Message, data_id, is_service, message_key, messages_of}
use Rattle.cany_model.specs.Rules.Totcan.{message_in}
use Rattle.cany_model.specs.Runs.Run.{run}
use Rattle.cany_model.proofs.Among.{Among, Among-from_Contains, Contains-from_Among, Each-of}
use Rattle.cany_model.proofs.Bus.Carried.{Carries}
use Rattle.cany_model.proofs.Bus.Identities.{same_class-true}
use Rattle.cany_model.proofs.Promises.Firsts.{first_is_first}
use Rattle.cany_model.proofs.Promises.OwnSlotsAlone.{run_numbered}
use Rattle.cany_model.proofs.Promises.Sources.{IsSent, sourced}
use Rattle.cany_model.proofs.Rules.Services.MessageKeys.{same_message}
use Rattle.cany_model.proofs.Rules.ProtocolFacts.{is_data}
use Rattle.cany_model.proofs.Runs.Runs.{orderly}
use Rattle.cany_check.specs.declared.account.record.MessageRecord.{MessageRecord}
use Rattle.cany_check.specs.declared.account.record.FirstAndLast.{FirstAndLast}
use Rattle.cany_check.specs.declared.deciders.findings.Delivery.{Delivery}
use Rattle.cany_check.specs.Accounts.Account.{AccountParts, LogParts, account_of, first_and_last, last_carried, message_record, slots_of}
use Rattle.cany_check.specs.Deciding.OneOrder.{deliveries, deliveries_from, delivery_in, difference, is_carried_from, parting, parting_of}
use Rattle.cany_check.specs.Accounts.Words.{same_key}
use Rattle.cany_check.proofs.Deciding.CorrectLogs.{IsLogOfCorrect, each_correct, log_at, unread_fits}
use Rattle.cany_check.proofs.Deciding.Clashes.{difference_none, keys}
use Rattle.cany_check.proofs.Deciding.Decided.{same_key-true}
use Rattle.cany_check.proofs.Deciding.PartingFacts.{none_of_all}

-- ---- keys

abbrev content_keys : List Content → List MsgKey
content_keys contents = map (λ (c : Content). c.msg) contents

one_more : (b : Bool) (d : Delivery) (c : Content) (ds : List Delivery) (cs : List Content) → d.msg ≡ c.msg → keys ds ≡ content_keys cs
    → keys ((if b then d ∷ [] else []) ++ ds) ≡ content_keys ((if b then c ∷ [] else []) ++ cs)
one_more true d c ds cs e rest = λ k. e k ∷ rest k
one_more false d c ds cs e rest = rest

keys_of_log : (entries : List LogEntry) → keys (flat_map delivery_in entries) ≡ content_keys (tot_deliveries entries)
keys_of_log [] = refl
keys_of_log (Deliver slot by msg payload ∷ entries) =
    one_more (is_service by Tot) (record { msg = msg; slot = slot }) (record { msg = msg; payload = payload }) (flat_map delivery_in entries) (tot_deliveries entries) refl (keys_of_log entries)
keys_of_log (Failed slot node cycle ∷ entries) = keys_of_log entries
keys_of_log (View slot number members ∷ entries) = keys_of_log entries

keys_where : (test : MsgKey → Bool) (ds : List Delivery) → keys (filter (λ d. test d.msg) ds) ≡ filter test (keys ds)
keys_where test [] = refl
keys_where test (d ∷ ds) = elim (cases_Bool (test d.msg)) [
  | inl passes ↦ rw passes (ap (λ rest. d.msg ∷ rest) (keys_where test ds))
  | inr fails ↦ rw fails (keys_where test ds)
]

-- ---- the order from a later slot on

none_pass : (test : MsgKey → Bool) (cs : List Content) → AllByRecursion (λ c. test c.msg ≡ false) cs → filter test (content_keys cs) ≡ []
none_pass test [] h = refl
none_pass test (c ∷ cs) h = rw h.0 (none_pass test cs h.1)

module _ (test : MsgKey → Bool) (accepted : MsgKey → Bool) (from t : ℕ) (later : from ≤ t) where
  abbrev shown : Bool → List Content → List MsgKey
  shown b cs = filter test (content_keys (if b then cs else []))

  -- what a slot before t adds passes no test
  same_part : (slot : ℕ) (cs : List Content) → (slot < t → AllByRecursion (λ c. test c.msg ≡ false) cs) → shown (nat_le from slot) cs ≡ shown (nat_le t slot) cs
  same_part slot cs fails = elim (cases_lt slot t) [
    | inl before ↦ early (nat_le from slot) (fails before) ∙ sym (ap (λ b. shown b cs) (lt-leb t slot before))
    | inr since ↦ ap (λ b. shown b cs) (le-leb from slot (omega (arith, since, later))) ∙ sym (ap (λ b. shown b cs) (le-leb t slot since))
  ]
    where
      early : (b : Bool) → AllByRecursion (λ c. test c.msg ≡ false) cs → shown b cs ≡ []
      early true all = none_pass test cs all
      early false all = refl

  order_cut : (trace : List SlotNote) → AllByRecursion (λ note. note.slot < t → AllByRecursion (λ c. test c.msg ≡ false) (ordered_in accepted note note.frame)) trace
      → filter test (content_keys (order_by accepted from trace)) ≡ filter test (content_keys (order_by accepted t trace))
  unfolding order_by
  order_cut [] h = refl
  order_cut (note ∷ before) h =
      let cs : List Content = ordered_in accepted note note.frame in
      split (order_by accepted from before) (if nat_le from note.slot then cs else [])
      ∙ ap (λ l. l ++ shown (nat_le from note.slot) cs) (order_cut before h.1)
      ∙ ap (λ l. filter test (content_keys (order_by accepted t before)) ++ l) (same_part note.slot cs h.0)
      ∙ sym (split (order_by accepted t before) (if nat_le t note.slot then cs else []))
    where
      split : (xs ys : List Content) → filter test (content_keys (xs ++ ys)) ≡ filter test (content_keys xs) ++ filter test (content_keys ys)
      split xs ys = ap (filter test) (map-append (λ (c : Content). c.msg) xs ys) ∙ filter-append test (content_keys xs) (content_keys ys)

-- ---- in a run

module _ (scenario : ScenarioParts) (journal : List Step) (few : scenario.params.nodes ≤ most_nodes) (one : HasOneOrder scenario (run scenario journal)) where
  abbrev s : RunState
  s = run scenario journal

  abbrev a : AccountParts
  a = account_of scenario s

  -- whether a delivery of the key is kept where what was first carried before slot t is left out
  abbrev keeps : ℕ → MsgKey → Bool
  keeps t key = option_map_or (is_carried_from t) (find (λ m. same_key m.key key) a.messages) false

  -- the message that is found under a key
  record IsFound (key : MsgKey) (r : MessageRecord) : Type 0 where
    message : Message
    stands : Among (λ y. y ≡ message) (messages_of scenario.sends)
    is : r ≡ message_record scenario s message
    named : message_key message ≡ key

  found_in : (key : MsgKey) (ms : List Message) → ((m : Message) → Among (λ y. y ≡ m) ms → Among (λ y. y ≡ m) (messages_of scenario.sends)) → (r : MessageRecord)
      → find (λ m. same_key m.key key) (map (message_record scenario s) ms) ≡ Some r → IsFound key r
  found_in key [] within r h = absurd (cc)
  found_in key (m ∷ ms) within r h = elim (cases_Bool (same_key (message_key m) key)) [
    | inl here ↦
        let some : Some (message_record scenario s m) ≡ Some r = rw here at h in
        let same : message_record scenario s m ≡ r = cc in
        record { message = m; stands = within m (inl refl); is = sym same; named = same_key-true (message_key m) key here }
    | inr other ↦ found_in key ms (λ x c. within x (inr c)) r (rw other at h)
  ]

  found : (key : MsgKey) (r : MessageRecord) → find (λ m. same_key m.key key) a.messages ≡ Some r → IsFound key r
  unfolding account_of
  found key r h = found_in key (messages_of scenario.sends) (λ m c. c) r h

  -- a data frame of TOTCAN is that of the message that its number and node name
  module _ (note : SlotNote) (f : FrameParts) (stands : Contains s.trace note) (frame : note.frame ≡ Some f) (tot : f.class ≡ class.Tot) where
    sent : IsSent scenario s.trace f note.slot
    sent = (sourced scenario journal few).carried note f stands frame (ap is_data tot)

    carries_it : (m : Message) → Among (λ y. y ≡ m) (messages_of scenario.sends) → message_key m ≡ message_in f → Carries (data_id m) note
    carries_it m among named =
        let key : message_key sent.message ≡ message_in f = ap (λ (g : FrameParts). record { origin = g.node; seq = g.number }) sent.is in
        let same : m ≡ sent.message =
        same_message scenario.sends m sent.message among (Among-from_Contains (messages_of scenario.sends) sent.message sent.stands)
        (ap (λ (k : MsgKey). k.origin) (named ∙ sym key)) (ap (λ (k : MsgKey). k.seq) (named ∙ sym key)) in
        record { what = f; frame = frame; identity = ap (λ (x : Message). data_id x) same ∙ ap (λ (g : FrameParts). record { class = g.class; number = g.number; node = g.node }) sent.is }

    not_kept : (t : ℕ) → note.slot < t → keeps t (message_in f) ≡ false
    not_kept t early = by_find (find (λ m. same_key m.key (message_in f)) a.messages) refl
      where
        by_carried : (m : Message) → Carries (data_id m) note → is_carried_from t (message_record scenario s m) ≡ false
        by_carried m carries = by_first (first_carried (data_id m) s.trace) refl
          where
            by_last : (first : ℕ) → first ≤ note.slot → (o : Option ℕ) → option_map_or (λ (x : FirstAndLast). nat_le t x.first) (first_and_last (Some first) o) false ≡ false
            by_last first before (Some last) = lt-leb t first (omega (arith, early, before))
            by_last first before None = refl

            by_first : (o : Option ℕ) → first_carried (data_id m) s.trace ≡ o → option_map_or (λ (x : FirstAndLast). nat_le t x.first) (slots_of (data_id m) s.trace) false ≡ false
            by_first None e = ap (λ o. option_map_or (λ (x : FirstAndLast). nat_le t x.first) (first_and_last o (last_carried (data_id m) s.trace)) false) e
            by_first (Some first) e =
                let all = first_is_first (data_id m) s.trace (run_numbered scenario.params.nodes s (orderly scenario journal)) first e in
                let before : first ≤ note.slot =
                Each-of (λ n. Carries (data_id m) n → first ≤ n.slot) note s.trace all (Among-from_Contains s.trace note stands) carries in
                ap (λ o. option_map_or (λ (x : FirstAndLast). nat_le t x.first) (first_and_last o (last_carried (data_id m) s.trace)) false) e
                ∙ by_last first before (last_carried (data_id m) s.trace)

        by_find : (o : Option MessageRecord) → find (λ m. same_key m.key (message_in f)) a.messages ≡ o → keeps t (message_in f) ≡ false
        by_find None e = ap (λ o. option_map_or (is_carried_from t) o false) e
        by_find (Some r) e =
            let it : IsFound (message_in f) r = found (message_in f) r e in
            ap (λ o. option_map_or (is_carried_from t) o false) e ∙ ap (is_carried_from t) it.is ∙ by_carried it.message (carries_it it.message it.stands it.named)

  -- so what slots before t add to the order is left out
  left_out : (t : ℕ) (accepted : MsgKey → Bool) (note : SlotNote) → Contains s.trace note → note.slot < t
      → (o : Option FrameParts) → note.frame ≡ o → AllByRecursion (λ c. keeps t c.msg ≡ false) (ordered_in accepted note o)
  left_out t accepted note stands early None frame = tt
  left_out t accepted note stands early (Some f) frame = by_test (same_class f.class class.Tot && is_clean note.verdict && accepted (message_in f)) refl
    where
      content : Content
      content = record { msg = message_in f; payload = f.payload }

      by_test : (b : Bool) → (same_class f.class class.Tot && is_clean note.verdict && accepted (message_in f)) ≡ b
          → AllByRecursion (λ c. keeps t c.msg ≡ false) (if b then content ∷ [] else [])
      by_test false e = tt
      by_test true e =
          let parts = and_parts (same_class f.class class.Tot && is_clean note.verdict) (accepted (message_in f)) e in
          let tot = same_class-true f.class class.Tot (and_parts (same_class f.class class.Tot) (is_clean note.verdict) parts.0).0 in
          (not_kept note f stands frame tot t early, tt)

  each_left_out : (t : ℕ) (accepted : MsgKey → Bool) → AllByRecursion (λ note. note.slot < t → AllByRecursion (λ c. keeps t c.msg ≡ false) (ordered_in accepted note note.frame)) s.trace
  each_left_out t accepted = along s.trace (λ note c. c)
    where
      along : (notes : List SlotNote) → ((note : SlotNote) → Among (λ n. n ≡ note) notes → Among (λ n. n ≡ note) s.trace)
          → AllByRecursion (λ note. note.slot < t → AllByRecursion (λ c. keeps t c.msg ≡ false) (ordered_in accepted note note.frame)) notes
      along [] within = tt
      along (note ∷ notes) within = (
        λ early. left_out t accepted note (Contains-from_Among s.trace note (within note (inl refl))) early note.frame refl,
        along notes (λ n c. within n (inr c)),
      )

  -- what a correct node has delivered is a beginning of the order, also where both are cut
  begins : (t i : ℕ) → IsCorrect scenario s i → (node_at s.nodes i).present.from ≤ t
      → (rest : List MsgKey) × (keys (deliveries_from a t (log_at scenario s i)) ++ rest ≡ filter (keeps t) (content_keys (order scenario s t)))
  begins t i c takes =
      let it : FollowsOrder scenario s i = one i c in
      let from : ℕ = (node_at s.nodes i).present.from in
      let mine : List Content = tot_deliveries (log scenario s i) in
      let cut : keys (deliveries_from a t (log_at scenario s i)) ≡ filter (keeps t) (content_keys mine) =
      keys_where (keeps t) (deliveries (log_at scenario s i)) ∙ ap (filter (keeps t)) (keys_of_log (log scenario s i)) in (
        filter (keeps t) (content_keys it.rest),
        ap (λ l. l ++ filter (keeps t) (content_keys it.rest)) cut
            ∙ sym (filter-append (keeps t) (content_keys mine) (content_keys it.rest))
            ∙ ap (filter (keeps t)) (sym (map-append (λ (x : Content). x.msg) mine it.rest))
            ∙ ap (λ l. filter (keeps t) (content_keys l)) (sym it.prefix)
            ∙ order_cut (keeps t) (is_accepted_by_some scenario s) from t takes s.trace (each_left_out t (is_accepted_by_some scenario s)),
      )

  -- ---- no two part

  together : (i j : ℕ) → IsCorrect scenario s i → IsCorrect scenario s j → parting_of a (log_at scenario s i) (log_at scenario s j) ≡ None
  together i j c d =
      let first : LogParts = log_at scenario s i in
      let second : LogParts = log_at scenario s j in
      let t : ℕ = max first.from second.from in
      let here = begins t i c (omega arith) in
      let there = begins t j d (omega arith) in
      let none : difference (deliveries_from a t first) (deliveries_from a t second) ≡ None =
      difference_none (deliveries_from a t first) (deliveries_from a t second) (filter (keeps t) (content_keys (order scenario s t))) here.0 there.0 here.1 there.1 in
      ap (λ o. option_map (λ d. record { first = i; second = j; place = d.place; here = d.here; there = d.there }) o) none

  both_part_not : (x y : LogParts) → IsLogOfCorrect scenario s (unread_fits scenario journal) x → IsLogOfCorrect scenario s (unread_fits scenario journal) y → parting_of a x y ≡ None
  both_part_not x y p q =
      ap (λ (z : LogParts). parting_of a z y) p.2 ∙ ap (λ (z : LogParts). parting_of a (log_at scenario s p.0) z) q.2 ∙ together p.0 q.0 p.1 q.1

  pub nobody_parts : parting a ≡ None
  nobody_parts = none_of_all a (IsLogOfCorrect scenario s (unread_fits scenario journal)) both_part_not (each_correct scenario s (unread_fits scenario journal))
