-- No node asks for the frame that accepts a message, or for that of a failure sign, once it has
-- read a slot that carried it Clean.
use Rattle.std.proofs.Common.{◌≡◌, ℕ, suc, ◌-◌, ◌≤◌, inl, inr, true, List, [], ◌∷◌, refl, ap, sym, ◌∙◌, subst, arith}
use Rattle.std.proofs.lemmas.Bool.{both_ways, cases_lt}
use Rattle.cany_base.specs.declared.message.MsgKey.{MsgKey}
use Rattle.cany_base.specs.declared.notice.NoticeKind.{NoticeKind}
use Rattle.cany_base.specs.declared.slot_note.SlotNote.{SlotNote}
use Rattle.cany_base.specs.Limits.{most_nodes}
use Rattle.cany_base.specs.Scenario.{ScenarioParts}
use Rattle.cany_model.specs.Bus.Frames.{Identity}
use Rattle.cany_model.specs.Bus.History.{has_own, history, is_got, seen}
use Rattle.cany_model.specs.Bus.State.{Incarnation, NodeState, RunState, node_at, runs}
use Rattle.cany_model.specs.Bus.Waiting.{waits}
use Rattle.cany_model.specs.Rules.Knowledge.{FailureSign, fda_of, knows}
use Rattle.cany_model.specs.Rules.KnowledgeOf.{knowledge_of}
use Rattle.cany_model.specs.Rules.Messages.{accept_of_key}
use Rattle.cany_model.specs.Rules.Totcan.{after_place, tot_of_key}
use Rattle.cany_model.specs.Rules.Turn.{scenario_at, scenario_for, turn_effects}
use Rattle.cany_model.proofs.Among.{Among-from_any, Among-get_or}
use Rattle.cany_model.proofs.Bus.Carried.{SentBy, is_sent-true}
use Rattle.cany_model.proofs.Bus.Notes.{given-Sent}
use Rattle.cany_model.proofs.Bus.Seen.{history-is}
use Rattle.cany_model.proofs.Bus.States.{no_note, note_at}
use Rattle.cany_model.proofs.Promises.DiffusionRun.{NodeDiffuses, run_diffuses}
use Rattle.cany_model.proofs.Promises.EachNode.{EachRunning}
use Rattle.cany_model.proofs.Promises.SignAgrees.{sign_duty, sign_is_diffused}
use Rattle.cany_model.proofs.Rules.Site.KnowledgeFacts.{got_is_known}
use Rattle.cany_model.proofs.Rules.TurnFacts.{fda_cause}
use Rattle.cany_model.proofs.Runs.Steps.{after_turn-node, next_notice}
use Rattle.cany_model.proofs.Rules.Waits.{waits-from_after}
use Rattle.cany_model.proofs.Timed.Common.Ages.{Clean, NoPlace, carried_there, clean_carried, copies_after_place, gave, open_place, own_after_place, past, some_past}
use Rattle.cany_model.proofs.Timed.Common.SeenAges.{carried_from, clean_to, sends_from}
use Rattle.cany_model.proofs.Timed.Detector.NoRestarts.{AllOriginal, all_original, sees_all}
use Rattle.cany_model.proofs.Timed.Order.Accepted.{sees_accept}
use Rattle.cany_model.proofs.Timed.Order.TotEffects.{AskCause, asked_then}
use Rattle.cany_model.proofs.Timed.Order.TotKept.{NoSilent, TotKept}
use Rattle.cany_model.proofs.Timed.Order.TotRun.{IsOfRun, run_orderly, tot_kept}
use Rattle.cany_model.proofs.Timed.Order.TotSlots.{holds_carried, sent_carried}
use Rattle.cany_laws.proofs.Frames.CarriedSigns.{asked_is_new}
use Rattle.cany_laws.proofs.Frames.CarriedTogether.{IsFresh}

module _ (scenario : ScenarioParts) (few : scenario.params.nodes ≤ most_nodes) where
  kept_of : (s : RunState) → IsOfRun scenario s → NoSilent s.trace → TotKept scenario s
  kept_of s of plain = subst (λ (r : RunState). NoSilent r.trace → TotKept scenario r) of.1 (tot_kept scenario few of.0) plain

  -- ---- the frame that accepts a message

  module _ (key : MsgKey) (s : RunState) (of : IsOfRun scenario s) (plain : NoSilent s.trace) (i : ℕ) (running : runs (node_at s.nodes i) ≡ true) (u : ℕ)
      (next : (node_at s.nodes i).unread ≡ suc u) where
    abbrev x : Identity
    x = accept_of_key key

    abbrev inc : Incarnation
    inc = (node_at s.nodes i).present

    abbrev S : List SlotNote
    S = seen (node_at s.nodes i).present s.trace

    no_cause : AskCause scenario.params i key (gave i S u) (past i S (suc u)) → (p : ℕ) → suc u ≤ p → Clean s.trace p (accept_of_key key) → ⊥
    no_cause (inl sent) p from clean =
        let t = (kept_of s of plain).trace in
        let a = t.accept_after p key (clean_carried x (note_at s.trace p) clean) in
        let own = sends_from inc s.trace i u (tot_of_key key) sent.0 in
        t.data_first u a.0 key (omega (arith, from, a.1)) (sent_carried (tot_of_key key) i (note_at s.trace u) own.1).0 a.3
    no_cause (inr got) p from clean =
        let k = kept_of s of plain in
        let t = k.trace in
        let a = t.accept_after p key (clean_carried x (note_at s.trace p) clean) in
        let place = open_place scenario.params.bound i (suc u) key S got.1 in
        let held = carried_from inc s.trace place.0 (tot_of_key key) (holds_carried key i (note_at S place.0) place.3) in
        let old : a.0 ≤ place.0 = elim (cases_lt place.0 a.0) [
          | inl newer ↦ absurd (t.data_first place.0 a.0 key newer held.1 a.3)
          | inr older ↦ older
        ] in
        let there = carried_there (tot_of_key key) s.trace place.0 held.1 in
        let sees = sees_accept scenario s.trace inc plain (run_orderly scenario s of).numbered t key p place.0 (omega (arith, old, a.1)) there held.0
        (clean_carried x (note_at s.trace p) clean) in
        let none : NoPlace i (suc u) p key S =
        λ age _ to holds'. t.data_first age a.0 key (omega (arith, to, a.1)) (carried_from inc s.trace age (tot_of_key key) (holds_carried key i (note_at S age) holds')).1 a.3 in
        elim ((k.nodes i running).heard p x (clean_to inc s.trace p x sees clean)) [
          | inl gets ↦ let many = copies_after_place i (suc u) p key x S none from gets in omega (arith, many, got.2)
          | inr sends ↦ both_ways (has_own x (after_place key (past i S (suc u)))) got.3 (own_after_place i (suc u) p key x S none from sends)
        ]

  pub accept_fresh : (key : MsgKey) → IsFresh scenario (accept_of_key key)
  accept_fresh key s of plain i may w =
      let node : NodeState = node_at s.nodes i in
      let S : List SlotNote = seen node.present s.trace in
      let some = may.unread in
      let next : node.unread ≡ suc (node.unread - 1) = omega (arith, some) in
      let read : history i s ≡ past i S (suc (node.unread - 1)) = history-is i s ∙ ap (past i S) next in
      let waiting = ap (λ (n : NodeState). n.waiting) (after_turn-node scenario i s may ((run_orderly scenario s of).unread i)) in
      elim (asked_then (scenario_at scenario s i) i (next_notice s i) (history i s) node.waiting key (ap (waits (accept_of_key key)) (sym waiting) ∙ w)) [
        | inl old ↦ inl old
        | inr asks ↦ inr (λ p from clean.
            no_cause key s of plain i may.running (node.unread - 1) next (subst (AskCause scenario.params i key (next_notice s i)) read asks.1) p (omega (arith, from, next)) clean)
      ]

  -- ---- that of a failure sign

  known_then : scenario.restarts ≡ [] → (sign : FailureSign) → (s : RunState) → IsOfRun scenario s → NoSilent s.trace → (i : ℕ) → runs (node_at s.nodes i) ≡ true
      → (p : ℕ) → (node_at s.nodes i).unread ≤ p → Clean s.trace p (fda_of sign) → knows sign (knowledge_of (scenario_at scenario s i) i (history i s)) ≡ true
  known_then no_restarts sign s of plain i running p from clean =
      let x : Identity = fda_of sign in
      let node : NodeState = node_at s.nodes i in
      let S : List SlotNote = seen node.present s.trace in
      let sc : ScenarioParts = scenario_at scenario s i in
      let all : AllOriginal s = subst AllOriginal of.1 (all_original scenario no_restarts of.0) in
      let cleanS : Clean S p x = subst (λ t. Clean t p x) (sym (sees_all scenario s all i s.trace)) clean in
      let there = carried_there x S p (clean_carried x (note_at S p) cleanS) in
      let read : history i s ≡ past i S node.unread = history-is i s in
      elim (((kept_of s of plain).nodes i running).heard p x cleanS) [
        | inl gets ↦
            ap (λ l. knows sign (knowledge_of sc i l)) read
            ∙ got_is_known sc i sign (past i S node.unread)
            (Among-from_any (is_got x) (past i S node.unread) (some_past (is_got x) i node.unread p S refl from gets))
        | inr sends ↦
            let g = is_sent-true x (gave i S p) sends in
            let parts = given-Sent i (note_at S p) g.what g.was in
            let by : SentBy i x (note_at S p) = record { carries = record { what = g.what; frame = parts.0; identity = g.identity }; sender = parts.1 } in
            let diffuses = subst (λ (r : RunState). EachRunning (NodeDiffuses scenario scenario.params.omit (fda_of sign) (sign_duty sign)) r) of.1
            (run_diffuses scenario scenario.params.omit (fda_of sign) (sign_duty sign) (λ n. sign_is_diffused (scenario_for scenario n) sign) (λ n past' begun. begun) of.0) in
            ap (λ l. knows sign (knowledge_of sc i l)) read
            ∙ (diffuses i running).caused (inr (Among-get_or (SentBy i x) S p no_note there by))
      ]

  pub sign_fresh : scenario.restarts ≡ [] → (sign : FailureSign) → IsFresh scenario (fda_of sign)
  sign_fresh no_restarts sign s of plain i may w =
      let node : NodeState = node_at s.nodes i in
      let sc : ScenarioParts = scenario_at scenario s i in
      let e : NoticeKind = next_notice s i in
      let waiting = ap (λ (n : NodeState). n.waiting) (after_turn-node scenario i s may ((run_orderly scenario s of).unread i)) in
      elim (waits-from_after (fda_of sign) (turn_effects sc i (e ∷ history i s)) node.waiting (ap (waits (fda_of sign)) (sym waiting) ∙ w)) [
        | inl old ↦ inl old
        | inr asks ↦ inr (λ p from clean.
            both_ways (knows sign (knowledge_of sc i (history i s)))
            (asked_is_new sc i e (history i s) sign (fda_cause sc i (fda_of sign) (e ∷ history i s) refl asks))
            (known_then no_restarts sign s of plain i may.running p from clean))
      ]
