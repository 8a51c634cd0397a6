-- A running node reads all that there is, and no other node changes: so what it has accepted, each
-- incarnation accepts that has read the closing.
use Rattle.std.proofs.Common.{◌≡◌, ℕ, ◌+◌, ◌-◌, ◌<◌, ◌≤◌, ◌&&◌, inl, inr, true, false, List, ◌∷◌, ◌++◌, length, map, drop, refl, ap, sym, ◌∙◌, subst, arith, Contains}
use Rattle.std.specs.List.{range_with_len}
use Rattle.std.proofs.lemmas.Bool.{and_parts, cases_eq, cases_lt, both_ways}
use Rattle.cany_base.proofs.ParamsFacts.{few_nodes}
use Rattle.cany_base.specs.declared.message.MsgKey.{MsgKey}
use Rattle.cany_base.specs.declared.slot_note.SlotNote.{SlotNote}
use Rattle.cany_base.specs.declared.step.Step.{Step}
use Rattle.cany_base.specs.Limits.{most_nodes}
use Rattle.cany_base.specs.Scenario.{IsLegalScenario, ScenarioParts}
use Rattle.cany_model.specs.Bus.History.{ended_history, given, history, is_hidden, seen}
use Rattle.cany_model.specs.Bus.State.{EndedIncarnation, Incarnation, NodeState, RunState, node_at, reads, runs}
use Rattle.cany_model.specs.Promises.Acceptance.{WasCarriedClean}
use Rattle.cany_model.specs.Promises.Hypothesis.{IsWithin}
use Rattle.cany_model.specs.Promises.Order.{has_accepted, is_accepted_by_some}
use Rattle.cany_model.specs.Promises.Settled.{IsCorrect}
use Rattle.cany_model.specs.Rules.Totcan.{is_accepted}
use Rattle.cany_model.specs.Runs.Incarnations.{incarnations}
use Rattle.cany_model.specs.Runs.Run.{run}
use Rattle.cany_model.proofs.Among.{Among, Among-from_Contains, Contains-from_Among, Contains-head}
use Rattle.cany_model.proofs.Bus.Seen.{early_hidden, ended_history-present, history-is}
use Rattle.cany_model.proofs.Bus.States.{note_at, runs_within}
use Rattle.cany_model.proofs.Runs.Runs.{orderly}
use Rattle.cany_model.proofs.Timed.Common.Ages.{past}
use Rattle.cany_model.proofs.Timed.Common.SeenAges.{done_from}
use Rattle.cany_model.proofs.Timed.Guarantees.{accepted_by_all_or_none}
use Rattle.cany_model.proofs.Timed.Order.Accepted.{accepted_done, accepted_on}
use Rattle.cany_model.proofs.Timed.Order.OrderAt.{one_done}
use Rattle.cany_model.proofs.Timed.Order.TotCount.{within_silent}
use Rattle.cany_model.proofs.Timed.Order.TotRun.{tot_kept}
use Rattle.cany_laws.specs.Acceptance.{accepted_in_time_as}
use Rattle.cany_laws.specs.Logs.{HasReadClosingAs, IsIncarnation, past_of, present_of}
use Rattle.cany_laws.proofs.Logs.DeliveredInTime.{clean_age}
use Rattle.cany_laws.proofs.Members.EachView.{accepted_by_each}
use Rattle.cany_laws.proofs.Silences.Lives.{lived}
use Rattle.cany_laws.proofs.Since.{begins_now}
use Rattle.cany_model.proofs.Timed.Order.Accepts.{some_number}
use Rattle.cany_laws.proofs.CaughtUp.{CaughtUp, caught_up}

-- ---- what a running node has accepted

module _ (scenario : ScenarioParts) (legal : IsLegalScenario scenario) where
  few : scenario.params.nodes ≤ most_nodes
  few = few_nodes scenario.params legal.in_range

  -- a slot that an incarnation sees is not before the first in which it takes part
  pub sees_late : (journal : List Step) (i : ℕ) (note : SlotNote) → is_hidden (node_at (run scenario journal).nodes i).present note ≡ false
      → (node_at (run scenario journal).nodes i).present.from ≤ note.slot
  sees_late journal i note sees =
      let inc : Incarnation = (node_at (run scenario journal).nodes i).present in
      let b = begins_now scenario journal i in
      elim (cases_lt note.slot inc.from) [
        | inr late ↦ late
        | inl early ↦ elim (cases_lt 0 inc.number) [
          | inl later ↦ absurd (both_ways (is_hidden inc note) sees (early_hidden inc note later early))
          | inr never ↦ let zero_from = b.first (omega (arith, never)) in omega (arith, zero_from)
        ]
      ]

  module _ (journal : List Step) (within : IsWithin scenario.params (run scenario journal).trace) where
    abbrev s : RunState
    s = run scenario journal

    someone : (key : MsgKey) → is_accepted_by_some scenario (run scenario journal) key ≡ true
        → (j : ℕ) × IsCorrect scenario (run scenario journal) j × (has_accepted scenario (run scenario journal) key j ≡ true)
    someone key some =
        let j = some_number (λ n. runs (node_at s.nodes n) && has_accepted scenario s key n) (range_with_len 0 scenario.params.nodes) some in
        let parts = and_parts (runs (node_at s.nodes j.0)) (has_accepted scenario s key j.0) j.1 in
        let below = runs_within s.nodes j.0 parts.0 in
        let count = (orderly scenario journal).count in
        (j.0, record { there = omega (arith, below, count); running = parts.0 }, parts.1)

    read_now : (j : ℕ) → history j (run scenario journal)
        ≡ past j (seen (node_at (run scenario journal).nodes j).present (run scenario journal).trace) (node_at (run scenario journal).nodes j).unread
    read_now j = history-is j (run scenario journal)

    -- who has accepted a message takes part since the slot that carried its data frame Clean
    took_part : (key : MsgKey) (c : ℕ) → WasCarriedClean (run scenario journal).trace key c → (j : ℕ)
        → has_accepted scenario (run scenario journal) key j ≡ true → (node_at (run scenario journal).nodes j).present.from ≤ c
    took_part key c clean j h =
        let inc : Incarnation = (node_at s.nodes j).present in
        let o = orderly scenario journal in
        let plain = within_silent scenario s.trace within in
        let kept = tot_kept scenario few journal plain in
        let there = accepted_done scenario s.trace inc plain o.numbered kept.trace j (node_at s.nodes j).unread key
        (ap (is_accepted scenario.params.bound j key) (sym (read_now j)) ∙ h) in
        let from = done_from inc s.trace there.0 key there.2 in
        let age = clean_age s.trace scenario.params.nodes s o refl key c clean in
        let same : age.0 ≡ there.0 = one_done s.trace kept.trace.data_first key age.0 there.0 age.2 from.1 in
        let late = sees_late journal j (note_at s.trace there.0) from.0 in
        let number = o.numbered there.0 (omega (arith, same, age.1)) in
        omega (arith, late, number, same, age.1)

    still_accepted : (key : MsgKey) (j : ℕ) (up : CaughtUp scenario journal j) → has_accepted scenario (run scenario journal) key j ≡ true
        → has_accepted scenario (run scenario (journal ++ up.turns)) key j ≡ true
    still_accepted key j up h =
        let inc : Incarnation = (node_at s.nodes j).present in
        let later : RunState = run scenario (journal ++ up.turns) in
        let plain = within_silent scenario s.trace within in
        let all : history j later ≡ past j (seen inc s.trace) 0 =
        history-is j later
        ∙ ap (λ n. map (given j) (drop n (seen (node_at later.nodes j).present later.trace))) up.unread
        ∙ ap (λ (x : Incarnation). map (given j) (seen x later.trace)) up.present
        ∙ ap (λ t. map (given j) (seen inc t)) up.trace in
        ap (is_accepted scenario.params.bound j key) all
        ∙ accepted_on scenario s.trace inc plain (orderly scenario journal).numbered (tot_kept scenario few journal plain).trace j 0 (node_at s.nodes j).unread key
        (omega arith) (ap (is_accepted scenario.params.bound j key) (sym (read_now j)) ∙ h)

    -- once it has read all
    module _ (key : MsgKey) (c j : ℕ) (clean : WasCarriedClean (run scenario journal).trace key c) (correct : IsCorrect scenario (run scenario journal) j)
        (h : has_accepted scenario (run scenario journal) key j ≡ true) (up : CaughtUp scenario journal j) where
      abbrev later : RunState
      later = run scenario (journal ++ up.turns)

      then_in_time : (i : ℕ) (e : EndedIncarnation) → HasReadClosingAs scenario (run scenario journal) c i e → IsIncarnation scenario (run scenario (journal ++ up.turns)) i e
          → accepted_in_time_as scenario (run scenario journal) key c i e ≡ true
      then_in_time i e hi is =
          let t : ℕ = c + scenario.params.bound in
          let within' : IsWithin scenario.params later.trace = subst (IsWithin scenario.params) (sym up.trace) within in
          let clean' : WasCarriedClean later.trace key c = subst (λ x. WasCarriedClean x key c) (sym up.trace) clean in
          let now : IsCorrect scenario later j = record { there = correct.there; running = up.running } in
          let from : (node_at later.nodes j).present.from ≤ c =
          subst (λ (x : Incarnation). x.from ≤ c) (sym up.present) (took_part key c clean j h) in
          let short = (lived scenario journal i e hi.is).short in
          let read : t < reads later j = omega (arith, hi.read, short, up.unread, ap length up.trace) in
          let all = (accepted_by_all_or_none scenario (journal ++ up.turns) few legal.formulas legal.members within' key c clean').by_all j now
          (still_accepted key j up h) j (record { correct = record { correct = now; took_part = from }; read = read }) in
          let its : past_of later j (present_of later j) ≡ history j later = ended_history-present j later ((orderly scenario (journal ++ up.turns)).unread j) in
          let hj : HasReadClosingAs scenario later c j (present_of later j) =
          record { is = record { there = correct.there; stands = Contains-head (present_of later j) (node_at later.nodes j).ended }; took_part = from; read = read } in
          let hi' : HasReadClosingAs scenario later c i e = record { is = is; took_part = hi.took_part; read = hi.read } in
          ap (λ x. is_accepted scenario.params.bound i key (drop (e.next - (t + 1)) (ended_history i x e))) (sym up.trace)
          ∙ accepted_by_each scenario legal (journal ++ up.turns) within' key c clean' i j e (present_of later j) hi' hj
          ∙ ap (λ x. is_accepted scenario.params.bound j key (drop (reads later j - (t + 1)) x)) its
          ∙ all

      ended_stands : (i : ℕ) (e : EndedIncarnation) → Among (λ x. x ≡ e) (node_at (run scenario journal).nodes i).ended
          → Contains (incarnations (run scenario (journal ++ up.turns)) i) e
      ended_stands i e h =
          Contains-from_Among (incarnations later i) e (inr (subst (Among (λ x. x ≡ e)) (sym (up.ended i)) h))

      other_stands : (i : ℕ) (e : EndedIncarnation) → (i ≡ j → ⊥) → Contains (incarnations (run scenario journal) i) e
          → Contains (incarnations (run scenario (journal ++ up.turns)) i) e
      other_stands i e apart h =
          let of : NodeState → List SlotNote → List EndedIncarnation = λ node t.
          record { incarnation = node.present; next = length t - node.unread; stopped = node.stopped } ∷ node.ended in
          subst (λ l. Contains l e) (ap (of (node_at s.nodes i)) (sym up.trace) ∙ ap (λ node. of node later.trace) (sym (up.other i apart))) h

      -- its own present incarnation
      present_in_time : (e : EndedIncarnation) → present_of (run scenario journal) j ≡ e → HasReadClosingAs scenario (run scenario journal) c j e
          → accepted_in_time_as scenario (run scenario journal) key c j e ≡ true
      present_in_time e same hj =
          let own : HasReadClosingAs scenario s c j (present_of s j) = subst (HasReadClosingAs scenario s c j) (sym same) hj in
          let all = (accepted_by_all_or_none scenario journal few legal.formulas legal.members within key c clean).by_all j correct h j
          (record { correct = record { correct = correct; took_part = own.took_part }; read = own.read }) in
          let its : past_of s j (present_of s j) ≡ history j s = ended_history-present j s ((orderly scenario journal).unread j) in
          subst (λ x. accepted_in_time_as scenario s key c j x ≡ true) same
          (ap (λ x. is_accepted scenario.params.bound j key (drop (reads s j - (c + scenario.params.bound + 1)) x)) its ∙ all)

      each_in_time : (i : ℕ) (e : EndedIncarnation) → HasReadClosingAs scenario (run scenario journal) c i e
          → accepted_in_time_as scenario (run scenario journal) key c i e ≡ true
      each_in_time i e hi = elim (cases_eq i j) [
        | inr other ↦ then_in_time i e hi (record { there = hi.is.there; stands = other_stands i e other hi.is.stands })
        | inl this ↦ elim (Among-from_Contains (incarnations s i) e hi.is.stands) [
          | inr old ↦ then_in_time i e hi (record { there = hi.is.there; stands = ended_stands i e old })
          | inl now ↦
              subst (λ k. accepted_in_time_as scenario s key c k e ≡ true) (sym this)
              (present_in_time e (ap (present_of s) (sym this) ∙ now) (subst (λ k. HasReadClosingAs scenario s c k e) this hi))
        ]
      ]

    -- what a running node has accepted by now, each incarnation that takes part since its data
    -- frame was carried Clean, and has read the closing, accepted in time
    pub accepted_in_time_by_each : (key : MsgKey) (c : ℕ) → WasCarriedClean (run scenario journal).trace key c
        → is_accepted_by_some scenario (run scenario journal) key ≡ true → (i : ℕ) (e : EndedIncarnation) → HasReadClosingAs scenario (run scenario journal) c i e
        → accepted_in_time_as scenario (run scenario journal) key c i e ≡ true
    accepted_in_time_by_each key c clean some i e hi =
        let j = someone key some in
        each_in_time key c j.0 clean j.1 j.2 (caught_up scenario j.0 (node_at s.nodes j.0).unread journal j.1.running refl) i e hi
