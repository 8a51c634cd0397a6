-- A TOTCAN message that was carried Clean in slot c and is accepted, is delivered in the slots from
-- c to c + bound.
use Rattle.std.proofs.Common.{◌≡◌, ℕ, zero, suc, ◌+◌, ◌-◌, ◌<◌, ◌≤◌, ◌==◌, count_by, inl, inr, true, false, Option, Some, None, List, [], ◌∷◌, ◌++◌, length, drop, refl, ap, sym, ◌∙◌, subst, arith, Contains, drop-drop, length-append, length-drop}
use Rattle.std.proofs.lemmas.Bool.{and_from, cases_lt, eq-eqb, false≢true}
use Rattle.std.proofs.lemmas.List.{get_or-append-add, get_or_default}
use Rattle.cany_base.proofs.ParamsFacts.{few_nodes}
use Rattle.cany_base.specs.Limits.{most_nodes}
use Rattle.cany_base.specs.declared.class.Class.TheVariants as class
use Rattle.cany_base.specs.declared.log_entry.LogEntry.{LogEntry}
use Rattle.cany_base.specs.declared.log_entry.LogEntry.TheVariants.{Deliver, Failed, View}
use Rattle.cany_base.specs.declared.message.MsgKey.{MsgKey}
use Rattle.cany_base.specs.declared.message.Service.{Service}
use Rattle.cany_base.specs.declared.message.Service.TheVariants.{Tot}
use Rattle.cany_base.specs.declared.notice.NoticeKind.{NoticeKind}
use Rattle.cany_base.specs.declared.slot_note.SlotNote.{SlotNote}
use Rattle.cany_base.specs.declared.step.Step.{Step}
use Rattle.cany_base.specs.Frame.{FrameParts}
use Rattle.cany_base.specs.Scenario.{IsLegalScenario, ScenarioParts}
use Rattle.cany_model.specs.Bus.Frames.{Identity, identity_of, is_of, same_class}
use Rattle.cany_model.specs.Bus.History.{history, is_hidden, seen}
use Rattle.cany_model.specs.Bus.Slot.{carried, is_clean}
use Rattle.cany_model.specs.Bus.State.{EndedIncarnation, Incarnation, RunState, node_at}
use Rattle.cany_model.specs.Promises.Acceptance.{WasCarriedClean}
use Rattle.cany_model.specs.Promises.Entries.{HasDelivered}
use Rattle.cany_model.specs.Promises.Hypothesis.{IsWithin}
use Rattle.cany_model.specs.Promises.Order.{is_accepted_by_some}
use Rattle.cany_model.specs.Rules.Effect.{Effect, Ask, Withdraw, Enter, entered}
use Rattle.cany_model.specs.Rules.Log.{log, log_from}
use Rattle.cany_model.specs.Rules.Protocol.{Protocol}
use Rattle.cany_model.specs.Rules.Turn.{scenario_for, turn_effects}
use Rattle.cany_model.specs.Rules.Messages.{Message, message_key, messages_of}
use Rattle.cany_model.specs.Rules.Totcan.{delivered, is_accepted, tot_of_key}
use Rattle.cany_model.specs.Runs.Run.{run}
use Rattle.cany_model.proofs.Among.{Among, Among-append_cases, Among-append_left, Among-from_Contains, Contains-from_Among}
use Rattle.cany_model.proofs.Bus.Identities.{same_identity-true}
use Rattle.cany_model.proofs.Bus.Seen.{carries_other, hidden_not, history-is}
use Rattle.cany_model.proofs.Bus.States.{no_note, note_at}
use Rattle.cany_model.proofs.Rules.LogFacts.{EntersSome, entered-from}
use Rattle.cany_model.proofs.Rules.ProtocolFacts.{IsFounded, IsFoundedEntry}
use Rattle.cany_model.proofs.Rules.TurnFacts.{turn_effect}
use Rattle.cany_model.proofs.Runs.Runs.{IsOrderly, orderly}
use Rattle.cany_model.proofs.Timed.Common.Ages.{Done, carries_clean, clean_carried, past}
use Rattle.cany_model.proofs.Timed.Order.OneOrder.{Ground, accepted_by_one}
use Rattle.cany_model.specs.Bus.State.{reads}
use Rattle.cany_model.specs.Promises.Entries.{is_delivery_of}
use Rattle.cany_model.specs.Promises.Order.{content_of, tot_deliveries}
use Rattle.cany_model.specs.Rules.Totcan.{message_in}
use Rattle.cany_model.proofs.Among.{Among-weaker, Contains-head, count-from_Among}
use Rattle.cany_model.proofs.Bus.Seen.{Numbered, ended_history-present}
use Rattle.cany_model.proofs.Promises.OwnSlotsAlone.{run_numbered}
use Rattle.cany_model.proofs.Timed.Common.SeenAges.{done_to}
use Rattle.cany_model.proofs.Timed.Guarantees.{accepted_by_all_or_none, slots_are_quiet}
use Rattle.cany_model.proofs.Timed.Order.Accepted.{not_vector}
use Rattle.cany_model.proofs.Timed.Order.Accepts.{acceptance_at}
use Rattle.cany_model.proofs.Timed.Order.OneOrder.{ground_of, has_delivered}
use Rattle.cany_model.proofs.Timed.Order.OrderLog.{delivered_content, named_delivered}
use Rattle.cany_model.proofs.Timed.Order.TotCount.{within_silent}
use Rattle.cany_model.proofs.Timed.Order.TotRun.{tot_kept}
use Rattle.cany_laws.specs.Acceptance.{DeliversInTime, IsDeliveredInTime, accepted_in_time_as}
use Rattle.cany_laws.specs.Logs.{HasReadClosingAs, IsIncarnation, followed_by, past_of, past_to, present_of}
use Rattle.cany_laws.specs.Sequence.{clean_sequence, is_content_of}
use Rattle.cany_laws.proofs.Members.EachView.{clean_older, older_within, past_length}
use Rattle.cany_laws.proofs.Logs.FinalLogs.{entry_read}
use Rattle.cany_laws.proofs.Silences.Lives.{lived}
use Rattle.cany_laws.proofs.Logs.OneSequence.{correct_part, part_among, sequence_done}
use Rattle.cany_laws.proofs.Since.{begins}
use Rattle.cany_laws.proofs.SlotRead.{HadRead, both_read}

-- ---- ages

pub clean_age : (trace : List SlotNote) (nodes : ℕ) (s : RunState) → IsOrderly nodes s → s.trace ≡ trace → (key : MsgKey) (c : ℕ) → WasCarriedClean trace key c
    → (q : ℕ) × (c + suc q ≡ length trace) × Done trace q key
clean_age trace nodes s o is key c w =
    let k : ℕ = w.stands.0 in
    let below : k < length trace = w.stands.1 in
    let at : note_at trace k ≡ w.note = get_or_default trace k no_note w.note below ∙ w.stands.2 in
    let number : (note_at trace k).slot ≡ length trace - 1 - k =
    subst (λ t. (note_at t k).slot ≡ length t - 1 - k) is (o.numbered k (subst (λ t. k < length t) (sym is) below)) in (
      k,
      omega (arith, below, number, ap (λ (n : SlotNote). n.slot) at, w.here),
      ap (λ (n : SlotNote). carries_clean (tot_of_key key) n) at
          ∙ and_from (carried (is_of (tot_of_key key)) w.note) (is_clean w.note.verdict) w.frame (ap is_clean w.clean),
    )

-- what was carried Clean in an older trace
done_later : (trace newer older : List SlotNote) → trace ≡ newer ++ older → (q : ℕ) (key : MsgKey) → Done older q key → Done trace (length newer + q) key
done_later trace newer older split q key d =
    ap (λ t. carries_clean (tot_of_key key) (note_at t (length newer + q))) split
    ∙ ap (carries_clean (tot_of_key key)) (get_or-append-add newer older q no_note) ∙ d

-- a slot that carried a data frame of TOTCAN, and is not before the first in which an incarnation
-- takes part, it sees
pub sees_data : (inc : Incarnation) (note : SlotNote) (key : MsgKey) → inc.from ≤ note.slot → carried (is_of (tot_of_key key)) note ≡ true → is_hidden inc note ≡ false
sees_data inc note key late h = by_frame note.frame refl
  where
    by_frame : (o : Option FrameParts) → note.frame ≡ o → is_hidden inc note ≡ false
    by_frame None is = absurd (false≢true (rw is at h))
    by_frame (Some f) is =
        let same : tot_of_key key ≡ identity_of f = same_identity-true (tot_of_key key) (identity_of f) (rw is at h) in
        let tot : f.class ≡ class.Tot = sym (ap (λ (x : Identity). x.class) same) in
        hidden_not inc note late (carries_other inc.cycle note f is (ap (λ c. same_class c class.Rha) tot ∙ not_vector))

-- ---- logs

-- what stands in the log of a part of what was read stands in the log
pub log_drop : (scenario : ScenarioParts) (i n : ℕ) (past : List NoticeKind) (entry : LogEntry) → Contains (log_from scenario i (drop n past)) entry
    → Contains (log_from scenario i past) entry
unfolding log_from
log_drop scenario i zero past entry c = c
log_drop scenario i (suc n) [] entry c = c
log_drop scenario i (suc n) (e ∷ past) entry c =
    Contains-from_Among (log_from scenario i past ++ entered (turn_effects scenario i (e ∷ past))) entry
    (Among-append_left (λ y. y ≡ entry) (log_from scenario i past) (entered (turn_effects scenario i (e ∷ past)))
    (Among-from_Contains (log_from scenario i past) entry (log_drop scenario i n past entry c)))

-- a delivery in a turn is of its slot
delivers_now : (scenario : ScenarioParts) (i : ℕ) (past : List NoticeKind) (slot : ℕ) (by : Service) (msg : MsgKey) (payload : List ℕ)
    → Among (λ y. y ≡ Deliver slot by msg payload) (entered (turn_effects scenario i past)) → length past ≡ suc slot
delivers_now scenario i past slot by msg payload h =
    let entry : LogEntry = Deliver slot by msg payload in
    let some = entered-from (λ y. y ≡ entry) (turn_effects scenario i past) h in
    let w = turn_effect (EntersSome (λ y. y ≡ entry)) scenario i past some in
    founded w.protocol w.effect w.is w.founded
  where
    founded : (p : Protocol) (e : Effect) → EntersSome (λ y. y ≡ Deliver slot by msg payload) e → IsFounded scenario p i past e → length past ≡ suc slot
    founded p (Ask f) is h = absurd is
    founded p (Withdraw x) is h = absurd is
    founded p (Enter entry) is h = (subst (IsFoundedEntry scenario p i past) is h).now

-- one of an early slot stands in the log of what was read by then
pub log_upto : (scenario : ScenarioParts) (i n d : ℕ) (past : List NoticeKind) → length past ≡ n + d → (slot : ℕ) (by : Service) (msg : MsgKey) (payload : List ℕ) → slot < n
    → Contains (log_from scenario i past) (Deliver slot by msg payload) → Contains (log_from scenario i (drop d past)) (Deliver slot by msg payload)
unfolding log_from
log_upto scenario i n zero past size slot by msg payload early c = c
log_upto scenario i n (suc d) [] size slot by msg payload early c = absurd (omega (arith, size))
log_upto scenario i n (suc d) (e ∷ past) size slot by msg payload early c =
    let entry : LogEntry = Deliver slot by msg payload in
    elim (Among-append_cases (λ y. y ≡ entry) (log_from scenario i past) (entered (turn_effects scenario i (e ∷ past)))
    (Among-from_Contains (log_from scenario i (e ∷ past)) entry c)) [
      | inl before ↦ log_upto scenario i n d past (omega (arith, size)) slot by msg payload early (Contains-from_Among (log_from scenario i past) entry before)
      | inr now ↦ let at = delivers_now scenario i (e ∷ past) slot by msg payload now in absurd (omega (arith, at, size, early))
    ]

-- ---- each incarnation

module _ (scenario : ScenarioParts) (legal : IsLegalScenario scenario) (journal : List Step) (within : IsWithin scenario.params (run scenario journal).trace)
    (m : Message) (stands : Contains (messages_of scenario.sends) m) (tot : m.service ≡ Tot) (c : ℕ)
    (clean : WasCarriedClean (run scenario journal).trace (message_key m) c) where
  abbrev all : List SlotNote
  all = (run scenario journal).trace

  few : scenario.params.nodes ≤ most_nodes
  few = few_nodes scenario.params legal.in_range

  ground : (to : List Step) → IsWithin scenario.params (run scenario to).trace → Ground scenario (run scenario to)
  ground to within_to =
      ground_of scenario to within_to (tot_kept scenario few to (within_silent scenario (run scenario to).trace within_to))
      (acceptance_at scenario to few within_to (slots_are_quiet scenario to few legal.formulas legal.members within_to))

  entry_is : (entry : LogEntry) → is_delivery_of m entry → (slot : ℕ) × (entry ≡ Deliver slot Tot (message_key m) m.payload)
  entry_is (Deliver slot by msg payload) h = (slot, λ k. Deliver slot ((sym h.1 ∙ tot) k) (sym h.0 k) (sym h.2 k))
  entry_is (Failed slot node cycle) h = absurd h
  entry_is (View slot number members) h = absurd h

  -- after a journal in which it has read the closing, and no more, it has delivered the message
  delivered_there : (i : ℕ) (e : EndedIncarnation) → e.incarnation.from ≤ c → accepted_in_time_as scenario (run scenario journal) (message_key m) c i e ≡ true
      → (to : List Step) (newer : List SlotNote) → all ≡ newer ++ (run scenario to).trace → length (run scenario to).trace ≡ suc (c + scenario.params.bound)
      → HadRead scenario journal to (c + scenario.params.bound) i e → HasDelivered scenario (run scenario to) i m
  delivered_there i e took accepted to newer split size h =
      let s : RunState = run scenario to in
      let inc : Incarnation = (node_at s.nodes i).present in
      let within_to = older_within scenario legal journal within s.trace newer split in
      let k = ground to within_to in
      let numbered = run_numbered scenario.params.nodes (run scenario journal) (orderly scenario journal) in
      let there : WasCarriedClean s.trace (message_key m) c =
      clean_older scenario legal journal within newer s.trace (subst Numbered split numbered) (message_key m) c (omega (arith, size))
      (subst (λ t. WasCarriedClean t (message_key m) c) split clean) in
      let age = clean_age s.trace scenario.params.nodes s (orderly scenario to) refl (message_key m) c there in
      let below : age.0 < length s.trace = omega (arith, age.1) in
      let sees : is_hidden inc (note_at s.trace age.0) ≡ false =
      sees_data inc (note_at s.trace age.0) (message_key m)
      (omega (arith, (orderly scenario to).numbered age.0 below, age.1, took, ap (λ (n : Incarnation). n.from) h.present))
      (clean_carried (tot_of_key (message_key m)) (note_at s.trace age.0) age.2) in
      let d : Done (seen inc s.trace) age.0 (message_key m) = done_to inc s.trace age.0 (message_key m) sees age.2 in
      let unread : (node_at s.nodes i).unread ≡ 0 = omega (arith, h.read, size, (orderly scenario to).unread i) in
      let by_some : is_accepted_by_some scenario s (message_key m) ≡ true =
      accepted_by_one scenario s k i h.correct.running (message_key m)
      (ap (is_accepted scenario.params.bound i (message_key m)) (sym (history-is i s) ∙ h.past) ∙ accepted) in
      named_delivered scenario to few i h.correct m stands tot
      (subst (λ l. Among (λ f. message_in f ≡ message_key m) (delivered scenario.params i l)) (sym (history-is i s))
      (has_delivered scenario s k (message_key m) age.0 i h.correct.running d by_some (omega (arith, unread, age.1, size))))

  -- and not before its data frame was carried Clean
  never_early : (i : ℕ) (e : EndedIncarnation) → IsIncarnation scenario (run scenario journal) i e → e.incarnation.from ≤ c → c < e.next → (slot : ℕ) → slot < c
      → Contains (log_from (followed_by scenario e) i (past_to (c - 1) (run scenario journal) i e)) (Deliver slot Tot (message_key m) m.payload) → ⊥
  never_early i e is took read slot early logged =
      let l = lived scenario journal i e is in
      let begins' = begins scenario journal i e l in
      let bound : 0 < scenario.params.bound = omega (arith, legal.in_range.bound.0) in
      let since : e.incarnation.since ≤ c - 1 = elim begins'.apart [
        | inl zero' ↦ omega (arith, zero')
        | inr later ↦ omega (arith, later, took, bound)
      ] in
      let b = both_read scenario journal (c - 1) i i e e is is (omega (arith, read)) (omega (arith, read)) since since in
      let s : RunState = run scenario b.to in
      let within_to = older_within scenario legal journal within s.trace b.newer b.split in
      let logged' : Contains (log scenario s i) (Deliver slot Tot (message_key m) m.payload) =
      subst (λ entries. Contains entries (Deliver slot Tot (message_key m) m.payload))
      (ap (log_from (followed_by scenario e) i) (sym b.one.past) ∙ ap (λ (inc : Incarnation). log_from (scenario_for scenario inc) i (history i s)) (sym b.one.present)) logged in
      let content = delivered_content scenario s i m tot (record { entry = Deliver slot Tot (message_key m) m.payload; stands = logged'; delivers = (refl, tot, refl) }) in
      let among =
      part_among (content_of m) (tot_deliveries (log scenario s i)) (clean_sequence (node_at s.nodes i).present.from s.trace)
      (correct_part scenario legal b.to within_to i b.one.correct) (Among-from_Contains (tot_deliveries (log scenario s i)) (content_of m) content) in
      let counted : 0 < count_by (is_content_of (message_key m)) (clean_sequence (node_at s.nodes i).present.from s.trace) =
      count-from_Among (is_content_of (message_key m)) (clean_sequence (node_at s.nodes i).present.from s.trace)
      (Among-weaker (λ d. d ≡ content_of m) (λ d. is_content_of (message_key m) d ≡ true)
      (λ d e. ap (is_content_of (message_key m)) e ∙ and_from (m.origin == m.origin) (m.seq == m.seq) (eq-eqb m.origin m.origin refl) (eq-eqb m.seq m.seq refl))
      (clean_sequence (node_at s.nodes i).present.from s.trace) among) in
      let done_before = sequence_done (message_key m) (node_at s.nodes i).present.from s.trace counted in
      let size' : length s.trace ≡ c = omega (arith, b.size, early) in
      let q : ℕ = length b.newer + done_before.0 in
      let old : Done all q (message_key m) = done_later all b.newer s.trace b.split done_before.0 (message_key m) done_before.1 in
      let age = clean_age all scenario.params.nodes (run scenario journal) (orderly scenario journal) refl (message_key m) c clean in
      let kept = tot_kept scenario few journal (within_silent scenario all within) in
      kept.trace.data_first age.0 q (message_key m)
      (omega (arith, age.1, size', ap length b.split, length-append b.newer s.trace))
      (clean_carried (tot_of_key (message_key m)) (note_at all age.0) age.2) old

  pub accepted_delivers : (i : ℕ) (e : EndedIncarnation) → HasReadClosingAs scenario (run scenario journal) c i e
      → accepted_in_time_as scenario (run scenario journal) (message_key m) c i e ≡ true → DeliversInTime scenario (run scenario journal) m c i e
  accepted_delivers i e h accepted =
      let s : RunState = run scenario journal in
      let t : ℕ = c + scenario.params.bound in
      let l = lived scenario journal i e h.is in
      let took = h.took_part in
      let read = h.read in
      let since : e.incarnation.since ≤ t = omega (arith, (begins scenario journal i e l).since, took) in
      let b = both_read scenario journal t i i e e h.is h.is read read since since in
      let done_there = delivered_there i e took accepted b.to b.newer b.split b.size b.one in
      let d = entry_is done_there.entry done_there.delivers in
      let entry : LogEntry = Deliver d.0 Tot (message_key m) m.payload in
      let sc : ScenarioParts = followed_by scenario e in
      let then : Contains (log_from sc i (past_to t s i e)) entry =
      subst (λ entries. Contains entries entry)
      (ap (λ (inc : Incarnation). log_from (scenario_for scenario inc) i (history i (run scenario b.to))) b.one.present ∙ ap (log_from sc i) b.one.past)
      (subst (Contains (log scenario (run scenario b.to) i)) d.1 done_there.stands) in
      let size : length (past_to t s i e) ≡ t + 1 = omega (arith, length-drop (e.next - (t + 1)) (past_of s i e), past_length scenario journal i e l, read) in
      record {
        slot = d.0;
        stands = log_drop sc i (e.next - (t + 1)) (past_of s i e) entry then;
        since = elim (cases_lt d.0 c) [
          | inr late ↦ late
          | inl early ↦
              let parts : length (past_to t s i e) ≡ c + (t + 1 - c) = omega (arith, size) in
              let left : drop (t + 1 - c) (past_to t s i e) ≡ past_to (c - 1) s i e =
              drop-drop (t + 1 - c) (e.next - (t + 1)) (past_of s i e) ∙ ap (λ n. drop n (past_of s i e)) (omega (arith, read, early)) in
              absurd (never_early i e h.is took (omega (arith, read)) d.0 early
              (subst (λ l'. Contains (log_from sc i l') entry) left
              (log_upto sc i c (t + 1 - c) (past_to t s i e) parts d.0 Tot (message_key m) m.payload early then)))
        ];
        by_then = omega (arith, entry_read sc i (past_to t s i e) d.0 Tot m m.payload then, size);
      }

  pub delivered_in_time : IsDeliveredInTime scenario (run scenario journal) m c
  delivered_in_time = record {
    accepted = accepted_delivers;
    correct = λ i ci has j cj.
        let s : RunState = run scenario journal in
        let short = (orderly scenario journal).unread j in
        let by_all = (accepted_by_all_or_none scenario journal few legal.formulas legal.members within (message_key m) c clean).by_all i ci has j cj in
        let past_same : past_of s j (present_of s j) ≡ history j s = ended_history-present j s short in
        accepted_delivers j (present_of s j)
        (record {
          is = record { there = cj.correct.correct.there; stands = Contains-head (present_of s j) (node_at s.nodes j).ended };
          took_part = cj.correct.took_part;
          read = cj.read;
        })
        (ap (λ l. is_accepted scenario.params.bound j (message_key m) (drop (reads s j - (c + scenario.params.bound + 1)) l)) past_same ∙ by_all);
  }
