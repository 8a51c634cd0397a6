-- A TOTCAN message is delivered by the incarnations of all nodes that have read its closing, or by
-- none of them.
use Rattle.std.proofs.Common.{◌≡◌, ℕ, ◌+◌, ◌-◌, ◌≤◌, ◌&&◌, inl, inr, Bool, true, nat_le, if◌then◌else◌, List, [], ◌∷◌, drop, Option, Some, None, refl, ap, sym, ◌∙◌, subst, arith, Contains}
use Rattle.std.specs.List.{range_with_len}
use Rattle.std.proofs.lemmas.Bool.{and_parts, cond_both}
use Rattle.cany_base.proofs.ParamsFacts.{few_nodes}
use Rattle.cany_base.specs.declared.class.Class.TheVariants as class
use Rattle.cany_base.specs.declared.log_entry.LogEntry.TheVariants.{Deliver}
use Rattle.cany_base.specs.declared.message.MsgKey.{MsgKey}
use Rattle.cany_base.specs.declared.message.Service.TheVariants.{Tot}
use Rattle.cany_base.specs.declared.slot_note.SlotNote.{SlotNote}
use Rattle.cany_base.specs.declared.step.Step.{Step}
use Rattle.cany_base.specs.Frame.{FrameParts}
use Rattle.cany_base.specs.Scenario.{IsLegalScenario, ScenarioParts}
use Rattle.cany_model.specs.Bus.Frames.{same_class}
use Rattle.cany_model.specs.Bus.History.{history}
use Rattle.cany_model.specs.Bus.Slot.{is_clean}
use Rattle.cany_model.specs.Bus.State.{EndedIncarnation, Incarnation, RunState, node_at, runs}
use Rattle.cany_model.specs.Promises.Acceptance.{HasReadClosing, WasCarriedClean}
use Rattle.cany_model.specs.Promises.Hypothesis.{IsWithin}
use Rattle.cany_model.specs.Promises.Order.{Content, content_of, has_accepted, is_accepted_by_some, order, order_by, ordered_in, tot_deliveries}
use Rattle.cany_model.specs.Promises.Settled.{IsCorrect}
use Rattle.cany_model.specs.Rules.Log.{log}
use Rattle.cany_model.specs.Rules.Messages.{Message, message_key, messages_of}
use Rattle.cany_model.specs.Rules.Totcan.{is_accepted, message_in}
use Rattle.cany_model.specs.Runs.Run.{run}
use Rattle.cany_model.proofs.Among.{Among, Among-append_cases, Among-append_left, Among-from_Contains}
use Rattle.cany_model.proofs.Bus.Seen.{Numbered}
use Rattle.cany_model.proofs.Bus.States.{runs_within}
use Rattle.cany_model.proofs.Promises.OwnSlotsAlone.{run_numbered}
use Rattle.cany_model.proofs.Runs.Runs.{orderly}
use Rattle.cany_model.proofs.Timed.Guarantees.{accepted_by_all_or_none, ordered}
use Rattle.cany_model.proofs.Timed.Order.OrderLog.{delivered_content}
use Rattle.cany_model.proofs.Timed.Detector.DetectorLaws.{within_front}
use Rattle.cany_laws.specs.Acceptance.{IsDeliveredByEachOrNone, accepted_in_time_as}
use Rattle.cany_laws.specs.Logs.{HasReadClosingAs, log_as}
use Rattle.cany_laws.proofs.Logs.DeliveredInTime.{accepted_delivers}
use Rattle.cany_laws.proofs.Members.EachView.{accepted_by_each, clean_older}
use Rattle.cany_laws.proofs.Logs.IntegralLogs.{lived_correct, lived_log}
use Rattle.cany_laws.proofs.Silences.Lives.{lived}
use Rattle.cany_model.proofs.Timed.Views.StartViews.{front_split}
use Rattle.cany_model.proofs.Timed.Order.Accepts.{some_number}

-- ---- what stands in an order passes its test

slot_passes : (test : MsgKey → Bool) (c : Content) (note : SlotNote) (o : Option FrameParts) → Among (λ d. d ≡ c) (ordered_in test note o) → test c.msg ≡ true
slot_passes test c note None h = absurd h
slot_passes test c note (Some f) h =
    let one : Content = record { msg = message_in f; payload = f.payload } in
    cond_both (same_class f.class class.Tot && is_clean note.verdict && test (message_in f)) (one ∷ []) [] (λ l. Among (λ d. d ≡ c) l → test c.msg ≡ true)
    (λ passes k. elim k [
      | inl is ↦ ap (λ (d : Content). test d.msg) (sym is) ∙ (and_parts (same_class f.class class.Tot && is_clean note.verdict) (test (message_in f)) passes).1
      | inr never ↦ absurd never
    ]) (λ _ k. absurd k) h

order_passes : (test : MsgKey → Bool) (from : ℕ) (c : Content) (trace : List SlotNote) → Among (λ d. d ≡ c) (order_by test from trace) → test c.msg ≡ true
unfolding order_by
order_passes test from c [] h = absurd h
order_passes test from c (note ∷ before) h =
    let now : List Content = if nat_le from note.slot then ordered_in test note note.frame else [] in
    elim (Among-append_cases (λ d. d ≡ c) (order_by test from before) now h) [
      | inl old ↦ order_passes test from c before old
      | inr new ↦
          slot_passes test c note note.frame
          (cond_both (nat_le from note.slot) (ordered_in test note note.frame) [] (λ l. Among (λ d. d ≡ c) l → Among (λ d. d ≡ c) (ordered_in test note note.frame))
          (λ _ k. k) (λ _ k. absurd k) new)
    ]

-- ---- each incarnation

module _ (scenario : ScenarioParts) (legal : IsLegalScenario scenario) (journal : List Step) (within : IsWithin scenario.params (run scenario journal).trace)
    (m : Message) (stands : Contains (messages_of scenario.sends) m) (tot : m.service ≡ Tot) (c : ℕ)
    (clean : WasCarriedClean (run scenario journal).trace (message_key m) c) where
  abbrev key : MsgKey
  key = message_key m

  -- what a running node has delivered, a running node has accepted
  someone_accepted : (to : List Step) → IsWithin scenario.params (run scenario to).trace → (i : ℕ) → IsCorrect scenario (run scenario to) i → (slot : ℕ)
      → Contains (log scenario (run scenario to) i) (Deliver slot Tot (message_key m) m.payload)
      → (x : ℕ) × IsCorrect scenario (run scenario to) x × (has_accepted scenario (run scenario to) (message_key m) x ≡ true)
  someone_accepted to within_to i correct slot logged =
      let s : RunState = run scenario to in
      let from : ℕ = (node_at s.nodes i).present.from in
      let test : MsgKey → Bool = is_accepted_by_some scenario s in
      let content : Contains (tot_deliveries (log scenario s i)) (content_of m) =
      delivered_content scenario s i m tot (record { entry = Deliver slot Tot key m.payload; stands = logged; delivers = (refl, tot, refl) }) in
      let follows = ordered scenario to (few_nodes scenario.params legal.in_range) legal.formulas legal.members within_to i correct in
      let among : Among (λ d. d ≡ content_of m) (order scenario s from) =
      subst (Among (λ d. d ≡ content_of m)) (sym follows.prefix)
      (Among-append_left (λ d. d ≡ content_of m) (tot_deliveries (log scenario s i)) follows.rest
      (Among-from_Contains (tot_deliveries (log scenario s i)) (content_of m) content)) in
      let some : is_accepted_by_some scenario s key ≡ true = order_passes test from (content_of m) s.trace among in
      let x = some_number (λ n. runs (node_at s.nodes n) && has_accepted scenario s key n) (range_with_len 0 scenario.params.nodes) some in
      let parts = and_parts (runs (node_at s.nodes x.0)) (has_accepted scenario s key x.0) x.1 in
      let below = runs_within s.nodes x.0 parts.0 in
      let count = (orderly scenario to).count in
      (x.0, record { there = omega (arith, below, count); running = parts.0 }, parts.1)

  delivers_accepted : (i : ℕ) (e : EndedIncarnation) → HasReadClosingAs scenario (run scenario journal) c i e → (slot : ℕ)
      → Contains (log_as scenario (run scenario journal) i e) (Deliver slot Tot (message_key m) m.payload)
      → accepted_in_time_as scenario (run scenario journal) (message_key m) c i e ≡ true
  delivers_accepted i e h slot logged =
      let l = lived scenario journal i e h.is in
      let s : RunState = run scenario l.front in
      let correct = lived_correct scenario journal i e h.is.there l in
      let within_to = within_front scenario journal l.front l.rest l.whole within in
      let split = front_split scenario journal l.front l.rest l.whole in
      let read = h.read in
      let next = l.next in
      let there : WasCarriedClean s.trace key c =
      clean_older scenario legal journal within split.0 s.trace
      (subst Numbered split.1 (run_numbered scenario.params.nodes (run scenario journal) (orderly scenario journal))) key c (omega (arith, read, next))
      (subst (λ t. WasCarriedClean t key c) split.1 clean) in
      let one = someone_accepted l.front within_to i correct slot
      (subst (λ entries. Contains entries (Deliver slot Tot key m.payload)) (lived_log scenario journal i e l) logged) in
      let closing : HasReadClosing scenario s c i =
      record {
        correct = record { correct = correct; took_part = subst (λ (inc : Incarnation). inc.from ≤ c) (sym l.present) h.took_part };
        read = omega (arith, read, next);
      } in
      let accepted =
      (accepted_by_all_or_none scenario l.front (few_nodes scenario.params legal.in_range) legal.formulas legal.members within_to key c there).by_all
      one.0 one.1 one.2 i closing in
      ap (λ past. is_accepted scenario.params.bound i key (drop (e.next - (c + scenario.params.bound + 1)) past)) (sym l.past)
      ∙ ap (λ n. is_accepted scenario.params.bound i key (drop (n - (c + scenario.params.bound + 1)) (history i s))) (sym next) ∙ accepted

  pub delivered_by_each : IsDeliveredByEachOrNone scenario (run scenario journal) m c
  delivered_by_each i j e f he hf slot logged =
      accepted_delivers scenario legal journal within m stands tot c clean j f hf
      (sym (accepted_by_each scenario legal journal within key c clean i j e f he hf) ∙ delivers_accepted i e he slot logged)
