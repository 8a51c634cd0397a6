-- A message that its origin has asked for: its data frame waits there in each slot that is run
-- later, until one has carried it Clean.
use Rattle.std.proofs.Common.{◌≡◌, ℕ, ◌+◌, ◌-◌, ◌*◌, ◌<◌, ◌≤◌, ◌⊎◌, ◌==◌, ◌&&◌, inl, inr, true, false, not, nat_lt, List, ◌∷◌, ◌++◌, Contains, drop, length, refl, ap, sym, ◌∙◌, subst, arith, drop-drop, length-append, length-drop}
use Rattle.std.specs.List.{AllByRecursion, list_any}
use Rattle.std.proofs.Math.Seq.{drop-append_seam}
use Rattle.std.proofs.lemmas.Bool.{and_from, and_parts, both_ways, cases_Bool, cases_eq, cond-false, le-ltb, lt-ltb, ltb-false, ltb-true, ne_eqb, not-true, not_from_false}
use Rattle.cany_base.specs.declared.slot_note.SlotNote.{SlotNote}
use Rattle.cany_base.specs.declared.step.Step.{Step}
use Rattle.cany_base.specs.declared.step.Step.TheVariants as step
use Rattle.cany_base.specs.Params.{Parameters}
use Rattle.cany_base.specs.Scenario.{IsLegalScenario, ScenarioParts}
use Rattle.cany_model.specs.Bus.Frames.{Identity, identity_of, is_of}
use Rattle.cany_model.specs.Bus.History.{history, seen}
use Rattle.cany_model.specs.Bus.Slot.{carried, is_clean}
use Rattle.cany_model.specs.Bus.State.{Incarnation, RunState, node_at, reads, runs, slots_run}
use Rattle.cany_model.specs.Bus.Waiting.{waits}
use Rattle.cany_model.specs.Promises.Acceptance.{history_to}
use Rattle.cany_model.specs.Promises.Hypothesis.{IsWithin}
use Rattle.cany_model.specs.Promises.Settled.{IsCorrect, origin_has_asked}
use Rattle.cany_model.specs.Rules.Sends.{is_sent_at_once}
use Rattle.cany_model.specs.Rules.Messages.{Message, data_id, messages_of}
use Rattle.cany_model.specs.Rules.Turn.{has_asked, scenario_at, scenario_for}
use Rattle.cany_model.specs.Runs.Run.{is_done, reply, run}
use Rattle.cany_model.proofs.Among.{Among, Among-drop, Among-from_Contains, Among-from_any, Among-place, Among-weaker, Each-weaker, any-from_Among}
use Rattle.cany_model.proofs.Bus.Carried.{CarriesClean, is_carried}
use Rattle.cany_model.proofs.Promises.CleanSlots.{Accepts, clean_from_copies, clean_from_success}
use Rattle.cany_model.proofs.Bus.Identities.{same_identity-from}
use Rattle.cany_model.proofs.Bus.Seen.{history-is}
use Rattle.cany_model.proofs.Promises.WithinSeen.{within_seen}
use Rattle.cany_model.proofs.Bus.States.{no_note}
use Rattle.cany_model.proofs.Promises.Agreement.{seen_clean}
use Rattle.cany_model.proofs.Promises.Diffusion.{Heard}
use Rattle.cany_model.proofs.Rules.Services.AskedFacts.{asked_at_once}
use Rattle.cany_model.proofs.Rules.Services.MessageKeys.{IsOneOf}
use Rattle.cany_model.proofs.Runs.Runs.{history-length, slot_done}
use Rattle.cany_model.proofs.Runs.SlotStates.{slot_has_state, slot_state_is}
use Rattle.cany_model.proofs.Timed.Windows.QuietSlots.{front_trace, within_dropped}
use Rattle.cany_laws.specs.Waits.{HasAskedBy, IsAwaitedThrough, WasAwaited, WasCarriedIn, least_left, interference, waits_since, window}
use Rattle.cany_laws.proofs.Since.{begins_now}
use Rattle.cany_laws.proofs.Waiting.WaitAsked.{WaitsOrGone, asked_since, keeps_asked}
use Rattle.cany_laws.proofs.RanSinceSlot.{ran_in, same_to}
use Rattle.cany_laws.proofs.Waiting.WaitSlots.{carried_at, carried_in_windows, is_clean_frame}
use Rattle.cany_model.proofs.Timed.Views.StartViews.{front_split}

-- ---- one state

-- a frame that its origin waits with no longer was carried Clean
waits_or_carried : (scenario : ScenarioParts) (x : Identity) (s : RunState) (i : ℕ) → IsWithin scenario.params s.trace
    → AllByRecursion (Heard i) (seen (node_at s.nodes i).present s.trace)
    → WaitsOrGone scenario.params.omit x (seen (node_at s.nodes i).present s.trace) i (node_at s.nodes i)
    → (waits x (node_at s.nodes i).waiting ≡ true) ⊎ Among (CarriesClean x) s.trace
waits_or_carried scenario x s i within heard (inl waiting) = inl waiting
waits_or_carried scenario x s i within heard (inr (inl sent)) =
    let inc : Incarnation = (node_at s.nodes i).present in
    inr (seen_clean x s i (clean_from_success scenario.params x (seen inc s.trace) (within_seen scenario.params inc s.trace within) sent))
waits_or_carried scenario x s i within heard (inr (inr many)) =
    let inc : Incarnation = (node_at s.nodes i).present in
    inr (seen_clean x s i
    (clean_from_copies scenario.params i x (seen inc s.trace) (node_at s.nodes i).unread
    (Each-weaker (Heard i) (Accepts i) (λ note k. k.accepts) (seen inc s.trace) heard) (within_seen scenario.params inc s.trace within) many))

-- a slot that carried it Clean
clean_frame : (x : Identity) (note : SlotNote) → CarriesClean x note → is_clean_frame x note ≡ true
clean_frame x note c =
    and_from (carried (is_of x) note) (is_clean note.verdict)
    (is_carried (is_of x) note c.carries.what c.carries.frame (same_identity-from x (identity_of c.carries.what) c.carries.identity)) (ap is_clean c.clean)

-- ---- every run

module _ (scenario : ScenarioParts) (journal : List Step) (within : IsWithin scenario.params (run scenario journal).trace)
    (m : Message) (t : ℕ) (asked : HasAskedBy scenario (run scenario journal) m t) where
  abbrev s : RunState
  s = run scenario journal

  -- when a later slot is run it waits with it, or an earlier slot has carried it Clean
  at_slot : (u : ℕ) → waits_since scenario.params t ≤ u → u < slots_run s
      → WasAwaited scenario journal (data_id m) u ⊎ Among (CarriesClean (data_id m)) (drop (slots_run s - u) s.trace)
  at_slot u late ran =
      let p : Parameters = scenario.params in
      let i : ℕ = m.origin in
      let some = slot_has_state scenario u journal ran in
      let way = slot_state_is scenario u journal some.0 some.1 in
      let before : List Step = way.before in
      let then : RunState = run scenario before in
      let number : length then.trace ≡ u = ap (λ (r : RunState). length r.trace) way.state ∙ way.number in
      let since = begins_now scenario journal i in
      let took_part : (node_at s.nodes i).present.from ≤ t = asked.origin.took_part in
      let here = ran_in scenario journal before (step.Slot ∷ way.after) way.whole i asked.origin.correct.there asked.origin.correct.running
      (omega (arith, since.since, took_part, late, number)) in
      let may = slot_done scenario then (subst (λ (r : RunState). is_done (reply scenario r step.Slot) ≡ true) (sym way.state) way.done) in
      let lag : (node_at then.nodes i).unread ≤ p.lag = may.lag i here.1 in
      let read : t < reads then i = omega (arith, lag, number, late) in
      let same : history_to t i s ≡ history_to t i then = same_to scenario journal before (step.Slot ∷ way.after) way.whole i t here.0 asked.read read in
      let inc : Incarnation = (node_at then.nodes i).present in
      let now : has_asked (scenario_for scenario inc) m i (history_to t i then) ≡ true =
      ap (has_asked (scenario_for scenario inc) m i) (sym same)
      ∙ ap (λ (k : Incarnation). has_asked (scenario_for scenario k) m i (history_to t i s)) (sym here.0) ∙ asked.asked in
      let all : has_asked (scenario_for scenario inc) m i (history i then) ≡ true =
      asked_since (scenario_for scenario inc) m i (reads then i - (t + 1)) (history i then) now in
      let keeps = keeps_asked scenario m is before i here.1 in
      let kept = keeps.kept (subst (λ past. has_asked (scenario_for scenario inc) m i past ≡ true) (history-is i then) all) in
      let part = front_trace scenario before (step.Slot ∷ way.after) in
      let within_then : IsWithin p then.trace =
      subst (IsWithin p) (sym part.1)
      (within_dropped p (run scenario (before ++ step.Slot ∷ way.after)).trace part.0
      (subst (λ j. IsWithin p (run scenario j).trace) way.whole within)) in
      let split = front_split scenario journal before (step.Slot ∷ way.after) way.whole in
      let size : length s.trace ≡ length split.0 + length then.trace = ap length split.1 ∙ length-append split.0 then.trace in
      let older : drop (slots_run s - u) s.trace ≡ then.trace =
      ap (λ n. drop n s.trace) (newer_slots (length split.0) (length then.trace) size number)
      ∙ ap (drop (length split.0)) split.1 ∙ drop-append_seam split.0 then.trace in
      elim (waits_or_carried scenario (data_id m) then i within_then keeps.heard kept) [
        | inl waiting ↦ inl (record {
          state = some.0;
          ran = some.1;
          node = i;
          running = subst (λ (r : RunState). runs (node_at r.nodes i) ≡ true) way.state here.1;
          waits = subst (λ (r : RunState). waits (data_id m) (node_at r.nodes i).waiting ≡ true) way.state waiting;
        })
        | inr gone ↦ inr (subst (Among (CarriesClean (data_id m))) (sym older) gone)
      ]
    where
      is : IsOneOf (messages_of scenario.sends) m
      is = Among-from_Contains (messages_of scenario.sends) m asked.stands

      newer_slots : (newer old : ℕ) → slots_run s ≡ newer + old → old ≡ u → slots_run s - u ≡ newer
      newer_slots newer old size number = omega (arith, size, number)

  pub carried_by : IsLegalScenario scenario → (times : ℕ) → waits_since scenario.params t + times * window scenario.params ≤ slots_run s
      → interference (data_id m) s (waits_since scenario.params t) (times * window scenario.params) < times * least_left scenario.params
      → WasCarriedIn s.trace (data_id m) 0 (waits_since scenario.params t + times * window scenario.params)
  carried_by legal times ran few = elim (cases_Bool (list_any (is_clean_frame (data_id m)) old)) [
    | inl some ↦
        let place = Among-place (λ note. is_clean_frame (data_id m) note ≡ true) no_note newest s.trace
        (Among-from_any (is_clean_frame (data_id m)) old some) in
        carried_at scenario journal (data_id m) 0 end place.0 place.3 (omega (arith, place.2)) (omega (arith, place.1, ran))
    | inr none ↦
        let in_window = carried_in_windows scenario journal legal within (data_id m) first times ran (λ u from to none_before. awaited none u from to) few in
        record {
          note = in_window.note;
          stands = in_window.stands;
          from = omega arith;
          to = omega (arith, in_window.to);
          frame = in_window.frame;
          clean = in_window.clean;
        }
  ]
    where
      first : ℕ
      first = waits_since scenario.params t

      n : ℕ
      n = times * window scenario.params

      end : ℕ
      end = waits_since scenario.params t + times * window scenario.params

      newest : ℕ
      newest = slots_run s - (waits_since scenario.params t + times * window scenario.params)

      old : List SlotNote
      old = drop (slots_run s - (waits_since scenario.params t + times * window scenario.params)) s.trace

      awaited : list_any (is_clean_frame (data_id m)) (drop (slots_run s - (waits_since scenario.params t + times * window scenario.params)) s.trace) ≡ false
          → IsAwaitedThrough scenario journal (data_id m) (waits_since scenario.params t) (times * window scenario.params)
      awaited none u from to = elim (at_slot u from (omega (arith, ran, to))) [
        | inl here ↦ here
        | inr gone ↦
            let last : List SlotNote = drop (slots_run s - (waits_since scenario.params t + times * window scenario.params)) s.trace in
            absurd (both_ways (list_any (is_clean_frame (data_id m)) last) none (any-from_Among (is_clean_frame (data_id m)) last (later u to gone)))
      ]
        where
          later : (k : ℕ) → k < waits_since scenario.params t + times * window scenario.params
              → Among (CarriesClean (data_id m)) (drop (slots_run s - k) s.trace)
              → Among (λ note. is_clean_frame (data_id m) note ≡ true)
              (drop (slots_run s - (waits_since scenario.params t + times * window scenario.params)) s.trace)
          later k below gone =
              let e : ℕ = waits_since scenario.params t + times * window scenario.params in
              let more : ℕ = slots_run s - k - (slots_run s - e) in
              let same : slots_run s - e + more ≡ slots_run s - k = omega (arith, below) in
              Among-weaker (CarriesClean (data_id m)) (λ note. is_clean_frame (data_id m) note ≡ true) (clean_frame (data_id m))
              (drop (slots_run s - e) s.trace)
              (Among-drop (CarriesClean (data_id m)) more (drop (slots_run s - e) s.trace)
              (subst (Among (CarriesClean (data_id m))) (sym (drop-drop more (slots_run s - e) s.trace ∙ ap (λ d. drop d s.trace) same)) gone))

-- ---- a message that is sent at once

-- its origin, once it has asked for it, had asked by its turn of the scripted slot
pub asked_in_its_slot : (scenario : ScenarioParts) (journal : List Step) (m : Message) → Contains (messages_of scenario.sends) m
    → is_sent_at_once m.service ≡ true → IsCorrect scenario (run scenario journal) m.origin → origin_has_asked scenario (run scenario journal) m ≡ true
    → HasAskedBy scenario (run scenario journal) m m.slot
asked_in_its_slot scenario journal m stands at_once correct asked =
    let s : RunState = run scenario journal in
    let i : ℕ = m.origin in
    let sc : ScenarioParts = scenario_at scenario s i in
    let is : IsOneOf (messages_of scenario.sends) m = Among-from_Contains (messages_of scenario.sends) m stands in
    let h = parts (length (history i s)) sc.from (sym (asked_at_once sc m i (history i s) is at_once refl) ∙ asked) in
    let size : length (history i s) ≡ reads s i = history-length i s in
    let read : m.slot < reads s i = omega (arith, h.0, size) in
    let past : length (history_to m.slot i s) ≡ length (history i s) - (reads s i - (m.slot + 1)) = length-drop (reads s i - (m.slot + 1)) (history i s) in
    let least : m.slot < length (history_to m.slot i s) = omega (arith, past, size, read) in
    record {
      stands = stands;
      origin = record { correct = correct; took_part = took_part (node_at s.nodes i).present h.1 refl };
      read = read;
      asked = asked_at_once sc m i (history_to m.slot i s) is at_once refl ∙ whole (length (history_to m.slot i s)) sc.from least h.1;
    }
  where
    parts : (n from : ℕ) → (is_sent_at_once m.service && nat_lt m.slot n && not (nat_lt m.slot from)) ≡ true → (m.slot < n) × (from ≤ m.slot)
    parts n from h =
        let outer = and_parts (is_sent_at_once m.service && nat_lt m.slot n) (not (nat_lt m.slot from)) h in (
          ltb-true m.slot n (and_parts (is_sent_at_once m.service) (nat_lt m.slot n) outer.0).1,
          ltb-false m.slot from (not-true (nat_lt m.slot from) outer.1),
        )

    whole : (n from : ℕ) → m.slot < n → from ≤ m.slot → (is_sent_at_once m.service && nat_lt m.slot n && not (nat_lt m.slot from)) ≡ true
    whole n from read late =
        and_from (is_sent_at_once m.service && nat_lt m.slot n) (not (nat_lt m.slot from))
        (and_from (is_sent_at_once m.service) (nat_lt m.slot n) at_once (lt-ltb m.slot n read))
        (not_from_false (nat_lt m.slot from) (le-ltb m.slot from late))

    took_part : (inc : Incarnation) → (scenario_for scenario inc).from ≤ m.slot
        → inc ≡ (node_at (run scenario journal).nodes m.origin).present → inc.from ≤ m.slot
    took_part inc late same = elim (cases_eq inc.number 0) [
      | inr later ↦ subst (λ n. n ≤ m.slot) (cond-false (inc.number == 0) scenario.from inc.from (ne_eqb inc.number 0 later)) late
      | inl first ↦
          let begun = begins_now scenario journal m.origin in
          let zero : inc.from ≡ 0 = subst (λ (k : Incarnation). k.number ≡ 0 → k.from ≡ 0) (sym same) begun.first first in
          omega (arith, zero)
    ]
