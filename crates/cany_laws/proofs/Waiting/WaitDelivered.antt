-- A message of EDCAN or RELCAN is delivered in the slot that carried its data frame Clean, or
-- before: a node that took part got the frame then, or it sent it, and then it is the origin or had
-- got a copy.
use Rattle.std.proofs.Common.{◌≡◌, ℕ, zero, suc, ◌+◌, ◌-◌, ◌<◌, ◌≤◌, ◌==◌, ◌&&◌, ◌⊎◌, inl, inr, true, List, [], ◌∷◌, ◌++◌, Contains, drop, length, map, refl, ap, sym, ◌∙◌, subst, arith, add-zero, length-append, length-drop}
use Rattle.std.specs.Prelude.{Some}
use Rattle.std.proofs.Math.Seq.{drop-append_seam}
use Rattle.std.proofs.lemmas.Bool.{and_from, cases_Bool, eq-eqb, false≢true, or_left, or_right}
use Rattle.std.proofs.lemmas.List.{get_or-append-add, get_or_default}
use Rattle.cany_laws.proofs.KeptAlongJournal.{drop-map}
use Rattle.cany_base.specs.declared.class.Class.TheVariants as class
use Rattle.cany_base.specs.declared.log_entry.LogEntry.{LogEntry}
use Rattle.cany_base.specs.declared.log_entry.LogEntry.TheVariants.{Deliver}
use Rattle.cany_base.specs.declared.message.Service.{Service}
use Rattle.cany_base.specs.declared.message.Service.TheVariants.{Ed, Rel, Tot}
use Rattle.cany_base.specs.declared.notice.NoticeKind.{NoticeKind}
use Rattle.cany_base.specs.declared.notice.NoticeKind.TheVariants.{Got, Sent}
use Rattle.cany_base.specs.declared.rule.Verdict.TheVariants.{Clean}
use Rattle.cany_base.specs.declared.slot_note.SlotNote.{SlotNote}
use Rattle.cany_base.specs.declared.step.Step.{Step}
use Rattle.cany_base.specs.declared.step.Step.TheVariants as step
use Rattle.cany_base.specs.Frame.{FrameParts}
use Rattle.cany_base.specs.Limits.{most_nodes}
use Rattle.cany_base.specs.Nodes.{has}
use Rattle.cany_base.specs.Scenario.{ScenarioParts}
use Rattle.cany_model.specs.Bus.Frames.{Identity, identity_of, is_of, same_class}
use Rattle.cany_model.specs.Bus.History.{as_seen, copies, given, history, is_got, is_sent, seen}
use Rattle.cany_model.specs.Bus.Slot.{FaultScript, is_success, lets_accept, script, slot_note_of}
use Rattle.cany_model.specs.Bus.State.{Incarnation, NodeState, RunState, node_at, reads, runs, slots_run}
use Rattle.cany_model.specs.Bus.Waiting.{waits}
use Rattle.cany_model.specs.Promises.Acceptance.{history_to}
use Rattle.cany_model.specs.Promises.Settled.{IsCorrectFrom}
use Rattle.cany_model.specs.Rules.Delivery.{brings, delivery}
use Rattle.cany_model.specs.Rules.Edcan.{edcan}
use Rattle.cany_model.specs.Rules.Log.{log, log_from}
use Rattle.cany_model.specs.Rules.Messages.{Message, data_frame, data_id, message_key, messages_of}
use Rattle.cany_model.specs.Rules.Protocol.{Protocol}
use Rattle.cany_model.specs.Rules.Relcan.{relcan}
use Rattle.cany_model.specs.Rules.Sends.{is_sent_at_once}
use Rattle.cany_model.specs.Rules.Turn.{scenario_at, scenario_for, turn_effects}
use Rattle.cany_model.specs.Runs.Run.{run}
use Rattle.cany_model.proofs.Among.{Among, Among-append_left, Among-drop, Among-from_Contains, Among-from_count, Among-weaker, Contains-from_Among, any-from_Among}
use Rattle.cany_model.proofs.Bus.Identities.{same_identity-true}
use Rattle.cany_model.proofs.Bus.Notes.{given_sender, given_taker, running_takes, sender_waits}
use Rattle.cany_model.proofs.Bus.Seen.{carries_other, history-is, hidden_not, seen_plain}
use Rattle.cany_model.proofs.Bus.States.{no_note, note_at}
use Rattle.cany_model.proofs.Promises.Diffusion.{copies_grow, past_of}
use Rattle.cany_model.proofs.Promises.EachNode.{EachRunning, each_running}
use Rattle.cany_model.proofs.Promises.OneFrame.{only_frame}
use Rattle.cany_model.proofs.Promises.Sources.{sourced}
use Rattle.cany_model.proofs.Bus.Carried.{Has, carried_frame}
use Rattle.cany_model.proofs.Rules.Services.DeliveryFacts.{DeliversAtOnce, entry_from_brought}
use Rattle.cany_model.proofs.Rules.Services.EdcanFacts.{edcan_delivers}
use Rattle.cany_model.proofs.Rules.LogFacts.{log_has}
use Rattle.cany_model.proofs.Rules.Services.MessageKeys.{IsOneOf}
use Rattle.cany_model.proofs.Rules.Protocols.{IsProtocol, edcan_is_one, relcan_is_one}
use Rattle.cany_model.proofs.Rules.Services.RelcanFacts.{relcan_delivers}
use Rattle.cany_model.proofs.Rules.TurnFacts.{turn_cause_data}
use Rattle.cany_model.proofs.Runs.FrameInvariants.{history_note}
use Rattle.cany_model.proofs.Runs.Runs.{history-length, orderly}
use Rattle.cany_model.proofs.Runs.SlotStates.{slot_has_state, slot_state-trace, slot_state_is}
use Rattle.cany_model.proofs.Rules.Waits.{waits-from_after}
use Rattle.cany_laws.specs.Waits.{HasDeliveredBy, WasCarriedIn}
use Rattle.cany_laws.proofs.Logs.FinalLogs.{entry_read}
use Rattle.cany_laws.proofs.Since.{begins_now}
use Rattle.cany_laws.proofs.RanSinceSlot.{ran_in, read_to}
use Rattle.cany_laws.proofs.Waiting.WaitNodes.{kept_waits}
use Rattle.cany_model.proofs.Promises.Agrees.{data_is_heard}

-- ---- why a node waits with a data frame

-- it is the origin, or has read a copy
record HasCause (scenario : ScenarioParts) (m : Message) (trace : List SlotNote) (i : ℕ) (node : NodeState) : Type 0 where
  why : waits (data_id m) node.waiting ≡ true → (m.origin ≡ i) ⊎ (0 < copies (data_id m) (past_of i trace node))

has_cause : (scenario : ScenarioParts) (m : Message) → IsOneOf (messages_of scenario.sends) m → (journal : List Step)
    → EachRunning (HasCause scenario m) (run scenario journal)
has_cause scenario m is journal =
    each_running scenario (HasCause scenario m) (record {
      new = λ trace i node new. record { why = λ waiting. absurd (false≢true (subst (λ w. waits (data_id m) w ≡ true) new.waiting waiting)) };
      slot = λ note trace i node after same l h. record {
        why = λ waiting. subst (λ past. (m.origin ≡ i) ⊎ (0 < copies (data_id m) past)) (sym l.past)
            (h.why (kept_waits (data_id m) (given i note) node.waiting (sym (ap (waits (data_id m)) l.kept) ∙ waiting)));
      };
      turn = λ trace i node after same t h. record {
        why = λ waiting.
            let sc : ScenarioParts = scenario_for scenario node.present in
            let past : List NoticeKind = past_of i trace after in
            elim (waits-from_after (data_id m) (turn_effects sc i past) node.waiting (sym (ap (waits (data_id m)) t.waiting) ∙ waiting)) [
              | inr asks ↦ elim (turn_cause_data sc i m past is asks) [ inl starts ↦ inl starts.0 | inr some ↦ inr some ]
              | inl before ↦ elim (h.why before) [
                | inl own ↦ inl own
                | inr some ↦ inr (rw t.past (omega (arith, some, copies_grow (data_id m) t.notice (past_of i trace node))))
              ]
            ];
      };
    }) journal

-- ---- what the slot brought

brought_now : (m : Message) (rules : FaultScript) (s : RunState) (i : ℕ) (f : FrameParts) → i < most_nodes → runs (node_at s.nodes i) ≡ true
    → (slot_note_of rules s).frame ≡ Some f → is_of (data_id m) f ≡ true → (slot_note_of rules s).verdict ≡ Clean
    → (waits (data_id m) (node_at s.nodes i).waiting ≡ true → (m.origin ≡ i) ⊎ (0 < copies (data_id m) (history i s)))
    → (brings i (data_id m) (given i (slot_note_of rules s)) ≡ true) ⊎ (0 < copies (data_id m) (history i s))
brought_now m rules s i f few running frame same clean why =
    let note : SlotNote = slot_note_of rules s in
    let x : Identity = data_id m in
    elim (cases_Bool (has note.senders i)) [
      | inr silent ↦
          let got : given i note ≡ Got f =
          given_taker i note f frame silent (running_takes rules s f i few frame running silent (ap (λ v. lets_accept v i) clean)) in
          inl (or_left (is_got x (given i note)) (x.node == i && is_sent x (given i note)) (ap (is_got x) got ∙ same))
      | inl sent ↦
          let own : given i note ≡ Sent f = given_sender i note f frame sent (ap is_success clean) in
          let waited = (sender_waits rules s f i frame sent).1 in
          let waiting : waits x (node_at s.nodes i).waiting ≡ true =
          any-from_Among (is_of x) (node_at s.nodes i).waiting
          (Among-weaker (λ g. g ≡ f) (λ g. is_of x g ≡ true) (λ g e. ap (is_of x) e ∙ same) (node_at s.nodes i).waiting
          (Among-from_Contains (node_at s.nodes i).waiting f waited)) in
          elim (why waiting) [
            | inr some ↦ inr some
            | inl origin ↦
                inl (or_right (is_got x (given i note)) (m.origin == i && is_sent x (given i note))
                (and_from (m.origin == i) (is_sent x (given i note)) (eq-eqb m.origin i origin) (ap (is_sent x) own ∙ same)))
          ]
    ]

copies_bring : (x : Identity) (i : ℕ) (past : List NoticeKind) → 0 < copies x past → Among (λ e. brings i x e ≡ true) past
unfolding copies
copies_bring x i past some =
    Among-weaker (λ e. is_got x e ≡ true) (λ e. brings i x e ≡ true) (λ e got. or_left (is_got x e) (x.node == i && is_sent x e) got) past
    (Among-from_count (is_got x) past some)

-- ---- the log

-- what the log had when less was read, it has
log_longer : (P : LogEntry → Type 0) (scenario : ScenarioParts) (i n : ℕ) (past : List NoticeKind) → Among P (log_from scenario i (drop n past))
    → Among P (log_from scenario i past)
unfolding log_from
log_longer P scenario i zero past h = h
log_longer P scenario i (suc n) [] h = h
log_longer P scenario i (suc n) (e ∷ past) h = Among-append_left P (log_from scenario i past) _ (log_longer P scenario i n past h)

-- ---- every run

module _ (scenario : ScenarioParts) (journal : List Step) (few : scenario.params.nodes ≤ most_nodes) (m : Message) (is : IsOneOf (messages_of scenario.sends) m)
    (c : ℕ) (w : WasCarriedIn (run scenario journal).trace (data_id m) c 1) (j : ℕ) (correct : IsCorrectFrom scenario (run scenario journal) c j)
    (read : c < reads (run scenario journal) j) where
  abbrev s : RunState
  s = run scenario journal

  -- a notice that it had read by its turn of the slot brings the message
  brought : Among (λ e. brings j (data_id m) e ≡ true) (history_to c j s)
  brought =
      let x : Identity = data_id m in
      let rules : FaultScript = script scenario.rules in
      let o = orderly scenario journal in
      let short : (node_at s.nodes j).unread ≤ length s.trace = o.unread j in
      let ran : c < slots_run s = omega (arith, read, short) in
      let some = slot_has_state scenario c journal ran in
      let way = slot_state_is scenario c journal some.0 some.1 in
      let then : RunState = run scenario way.before in
      let number : length then.trace ≡ c = ap (λ (r : RunState). length r.trace) way.state ∙ way.number in
      let split = slot_state-trace scenario c journal some.0 some.1 in
      let note : SlotNote = slot_note_of rules then in
      let whole : s.trace ≡ split.0 ++ (note ∷ then.trace) =
      split.1 ∙ ap (λ (r : RunState). split.0 ++ (slot_note_of rules r ∷ r.trace)) (sym way.state) in
      let size : length s.trace ≡ length split.0 + suc (length then.trace) = ap length whole ∙ length-append split.0 (note ∷ then.trace) in
      -- the note is that of the slot
      let stands : Contains s.trace w.note = w.stands in
      let at : note_at s.trace stands.0 ≡ w.note = get_or_default s.trace stands.0 no_note w.note stands.1 ∙ stands.2 in
      let slot : (note_at s.trace stands.0).slot ≡ length s.trace - 1 - stands.0 = o.numbered stands.0 stands.1 in
      let named : (note_at s.trace stands.0).slot ≡ w.note.slot = ap (λ (k : SlotNote). k.slot) at in
      let age : stands.0 ≡ length split.0 = omega (arith, slot, named, w.from, w.to, size, number, stands.1) in
      let here : note_at s.trace (length split.0) ≡ note =
      ap (λ k. note_at s.trace k) (sym (add-zero (length split.0))) ∙ ap (λ trace. note_at trace (length split.0 + 0)) whole
      ∙ get_or-append-add split.0 (note ∷ then.trace) 0 no_note in
      let this : w.note ≡ note = sym at ∙ ap (λ k. note_at s.trace k) age ∙ here in
      let f = carried_frame (is_of x) w.note w.frame in
      let frame : note.frame ≡ Some f.what = ap (λ (k : SlotNote). k.frame) (sym this) ∙ f.frame in
      let clean : note.verdict ≡ Clean = ap (λ (k : SlotNote). k.verdict) (sym this) ∙ w.clean in
      -- the node was there
      let since = begins_now scenario journal j in
      let took_part : (node_at s.nodes j).present.from ≤ c = correct.took_part in
      let there = ran_in scenario journal way.before (step.Slot ∷ way.after) way.whole j correct.correct.there correct.correct.running
      (omega (arith, since.since, took_part, number)) in
      let inc : Incarnation = (node_at s.nodes j).present in
      let cause = has_cause scenario m is way.before j there.1 in
      let brings_now = brought_now m rules then j f.what (omega (arith, correct.correct.there, few)) there.1 frame f.passes clean (λ waiting.
      elim (cause.why waiting) [
        | inl own ↦ inl own
        | inr copied ↦ inr (subst (λ past. 0 < copies x past) (sym (history-is j then)) copied)
      ]) in
      let plain : as_seen inc note ≡ note =
      seen_plain inc note (hidden_not inc note (omega (arith, took_part, ap (λ (k : SlotNote). k.slot) this, w.from))
      (carries_other inc.cycle note f.what frame
      (ap (λ (y : Identity). same_class y.class class.Rha) (sym (same_identity-true x (identity_of f.what) f.passes)) ∙ data_is_heard m.service))) in
      let history_is : history_to c j s ≡ given j (as_seen inc note) ∷ map (given j) (seen inc then.trace) =
      read_to j s c short read
      ∙ ap (λ n. map (given j) (seen inc (drop n s.trace))) (newer_slots (length split.0) (length then.trace) size number)
      ∙ ap (λ trace. map (given j) (seen inc (drop (length split.0) trace))) whole
      ∙ ap (λ trace. map (given j) (seen inc trace)) (drop-append_seam split.0 (note ∷ then.trace)) in
      subst (Among (λ e. brings j x e ≡ true)) (sym history_is) (elim brings_now [
        | inl now ↦ inl (ap (λ k. brings j x (given j k)) plain ∙ now)
        | inr copied ↦ inr (older_brings then inc there.0 (copies_bring x j (history j then) copied))
      ])
    where
      newer_slots : (newer old : ℕ) → length (run scenario journal).trace ≡ newer + suc old → old ≡ c
          → length (run scenario journal).trace - (c + 1) ≡ newer
      newer_slots newer old size number = omega (arith, size, number)

      older_brings : (then : RunState) (inc : Incarnation) → inc ≡ (node_at then.nodes j).present → Among (λ e. brings j (data_id m) e ≡ true) (history j then)
          → Among (λ e. brings j (data_id m) e ≡ true) (map (given j) (seen inc then.trace))
      older_brings then inc same h =
          let unread : ℕ = (node_at then.nodes j).unread in
          let part : history j then ≡ drop unread (map (given j) (seen inc then.trace)) =
          history-is j then ∙ ap (λ (k : Incarnation). map (given j) (drop unread (seen k then.trace))) (sym same)
          ∙ sym (drop-map unread (given j) (seen inc then.trace)) in
          Among-drop (λ e. brings j (data_id m) e ≡ true) unread (map (given j) (seen inc then.trace))
          (subst (Among (λ e. brings j (data_id m) e ≡ true)) part h)

  -- so the log has it
  by_protocol : (p : Protocol) → IsProtocol p → DeliversAtOnce p m.service → HasDeliveredBy scenario s m c j
  by_protocol p one at_once =
      let sc : ScenarioParts = scenario_at scenario s j in
      let past : List NoticeKind = history_to c j s in
      let made = entry_from_brought p m.service at_once sc j (data_id m) past refl brought in
      let note = history_note s j made.what (Among-drop (Has made.what) (reads s j - (c + 1)) (history j s) made.read) in
      let same : made.what ≡ data_frame m = only_frame scenario s m (sourced scenario journal few) is note.0 made.what note.1 note.2 made.identity in
      let entry : delivery made.slot m.service made.what ≡ Deliver made.slot m.service (message_key m) m.payload =
      ap (delivery made.slot m.service) same in
      let early : Among (λ y. y ≡ delivery made.slot m.service made.what) (log_from sc j past) =
      log_has (λ y. y ≡ delivery made.slot m.service made.what) sc j p one past made.stands in
      let named : Among (λ y. y ≡ Deliver made.slot m.service (message_key m) m.payload) (log_from sc j past) =
      Among-weaker (λ y. y ≡ delivery made.slot m.service made.what) (λ y. y ≡ Deliver made.slot m.service (message_key m) m.payload)
      (λ y e. e ∙ entry) (log_from sc j past) early in
      let below = entry_read sc j past made.slot m.service m m.payload
      (Contains-from_Among (log_from sc j past) (Deliver made.slot m.service (message_key m) m.payload) named) in
      record {
        slot = made.slot;
        stands = Contains-from_Among (log scenario s j) (Deliver made.slot m.service (message_key m) m.payload)
            (log_longer (λ y. y ≡ Deliver made.slot m.service (message_key m) m.payload) sc j (reads s j - (c + 1)) (history j s) named);
        by_then = omega (arith, below, length-drop (reads s j - (c + 1)) (history j s), history-length j s, read);
      }

  pub delivered_by : is_sent_at_once m.service ≡ true → HasDeliveredBy scenario s m c j
  delivered_by at_once = by_service m.service refl
    where
      by_service : (by : Service) → m.service ≡ by → HasDeliveredBy scenario (run scenario journal) m c j
      by_service Ed e = by_protocol edcan edcan_is_one (subst (DeliversAtOnce edcan) (sym e) edcan_delivers)
      by_service Rel e = by_protocol relcan relcan_is_one (subst (DeliversAtOnce relcan) (sym e) relcan_delivers)
      by_service Tot e = absurd (false≢true (sym (ap is_sent_at_once e) ∙ at_once))
