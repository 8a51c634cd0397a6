-- Where no frame may be omitted, the origin alone sends the frame that accepts its message: so it
-- is carried Clean once at most.
use Rattle.std.proofs.Common.{◌≡◌, ℕ, zero, suc, ◌+◌, ◌≤◌, ◌&&◌, inl, inr, true, List, [], ◌∷◌, refl, ap, sym, ◌∙◌, subst, arith}
use Rattle.std.proofs.lemmas.Bool.{and_parts, both_ways, cases_eq, cond_both, false≢true, le-leb}
use Rattle.cany_base.specs.declared.class.Class.TheVariants as class
use Rattle.cany_base.specs.declared.message.MsgKey.{MsgKey}
use Rattle.cany_base.specs.declared.notice.NoticeKind.{NoticeKind}
use Rattle.cany_base.specs.declared.notice.NoticeKind.TheVariants.{Idle, Got, Sent, Bad}
use Rattle.cany_base.specs.declared.slot_note.SlotNote.{SlotNote}
use Rattle.cany_base.specs.declared.step.Step.{Step}
use Rattle.cany_base.specs.Frame.{FrameParts}
use Rattle.cany_base.specs.Limits.{most_nodes}
use Rattle.cany_base.specs.Params.{Parameters}
use Rattle.cany_base.specs.Scenario.{ScenarioParts}
use Rattle.cany_model.specs.Bus.Frames.{Identity, identity_of, same_class}
use Rattle.cany_model.specs.Bus.History.{copies, given, history, is_got, is_sent}
use Rattle.cany_model.specs.Bus.Restart.{after_restarts}
use Rattle.cany_model.specs.Bus.Slot.{FaultScript, after_slot, script, slot_note_of}
use Rattle.cany_model.specs.Bus.State.{NodeState, RunState, node_at, runs}
use Rattle.cany_model.specs.Bus.Waiting.{waits}
use Rattle.cany_model.specs.Rules.Eager.{eager_effects, has_enough}
use Rattle.cany_model.specs.Rules.Effect.{Ask, Withdraw}
use Rattle.cany_model.specs.Rules.Messages.{accept_of_key}
use Rattle.cany_model.specs.Rules.Totcan.{accept_effects, after_place, can_be_accepted, message_in}
use Rattle.cany_model.specs.Rules.Turn.{scenario_at}
use Rattle.cany_model.specs.Runs.Run.{after_turn, run}
use Rattle.cany_model.proofs.Among.{Among}
use Rattle.cany_model.proofs.Bus.Carried.{is_sent-true}
use Rattle.cany_model.proofs.Bus.Identities.{same_class-true, same_identity-from}
use Rattle.cany_model.proofs.Bus.Notes.{given-Sent, sender_waits, waits_with-from_Contains}
use Rattle.cany_model.proofs.Bus.Restarts.{after_restarts-trace, restarts_or_stays}
use Rattle.cany_model.proofs.Bus.States.{node_at-opening}
use Rattle.cany_model.proofs.Promises.Diffusion.{copies_got}
use Rattle.cany_model.proofs.Runs.Runs.{IsOrderly, along_run, opening_within}
use Rattle.cany_model.proofs.Runs.Steps.{MayTurn, after_slot-trace, after_slot-waiting, after_turn-node, after_turn-other, after_turn-trace, next_notice, running_before_slot}
use Rattle.cany_model.proofs.Rules.Waits.{waits-from_with}
use Rattle.cany_model.proofs.Timed.Common.Ages.{Sends, carries_clean, gave_none}
use Rattle.cany_model.proofs.Timed.Common.Counting.{at_most_1}
use Rattle.cany_model.proofs.Timed.Common.LastEffect.{AsksFor, last_effect_asks}
use Rattle.cany_model.proofs.Timed.Order.TotEffects.{asked_then, got_after_place}
use Rattle.cany_model.proofs.Timed.Order.TotKept.{NoSilent}
use Rattle.cany_model.proofs.Timed.Order.TotRun.{tot_kept}
use Rattle.cany_laws.specs.Carried.{times_clean}
use Rattle.cany_laws.proofs.Waiting.WaitNodes.{kept_waits}

-- ---- a copy is enough

withdraws_only : (x y : Identity) (f : FrameParts) → Among (AsksFor x f) (Withdraw y ∷ []) → ⊥
withdraws_only x y f (inl h) = let e : Withdraw y ≡ Ask f = h.0 in absurd (cc)
withdraws_only x y f (inr none) = absurd none

enough : (omit : ℕ) (g : FrameParts) (before : List NoticeKind) → omit ≡ 0 → same_class g.class class.Accept ≡ true
    → has_enough omit (identity_of g) (after_place (message_in g) (Got g ∷ before)) ≡ true
enough omit g before none accept =
    let is : is_got (accept_of_key (message_in g)) (Got g) ≡ true =
    same_identity-from (accept_of_key (message_in g)) (identity_of g)
    (λ k. record { class = sym (same_class-true g.class class.Accept accept) k; number = g.number; node = g.node }) in
    let shape : after_place (message_in g) (Got g ∷ before) ≡ Got g ∷ after_place (message_in g) before = got_after_place (message_in g) (Got g) before is in
    let one : copies (identity_of g) (Got g ∷ after_place (message_in g) before) ≡ suc (copies (identity_of g) (after_place (message_in g) before)) =
    copies_got (identity_of g) (Got g) (after_place (message_in g) before) (same_identity-from (identity_of g) (identity_of g) refl) in
    le-leb (omit + 1) (copies (identity_of g) (after_place (message_in g) (Got g ∷ before))) (omega (arith, none, one, ap (copies (identity_of g)) shape))

no_relay : (p : Parameters) (i : ℕ) (x : Identity) (f g : FrameParts) (before : List NoticeKind) → p.omit ≡ 0
    → Among (AsksFor x f) (accept_effects p i (Got g) before) → ⊥
unfolding accept_effects eager_effects
no_relay p i x f g before none h =
    cond_both (same_class g.class class.Accept && can_be_accepted p.bound (message_in g) before) (eager_effects p.omit g (after_place (message_in g) (Got g ∷ before))) []
    (λ es. Among (AsksFor x f) es → ⊥)
    (λ in_time. cond_both (has_enough p.omit (identity_of g) (after_place (message_in g) (Got g ∷ before))) (Withdraw (identity_of g) ∷ []) _
    (λ es. Among (AsksFor x f) es → ⊥) (λ _ k. withdraws_only x (identity_of g) f k)
    (λ few k. both_ways (has_enough p.omit (identity_of g) (after_place (message_in g) (Got g ∷ before))) few
    (enough p.omit g before none (and_parts (same_class g.class class.Accept) (can_be_accepted p.bound (message_in g) before) in_time).0)))
    (λ _ k. absurd k) h

not_got : (p : Parameters) (i : ℕ) (x : Identity) (f : FrameParts) (e : NoticeKind) (before : List NoticeKind) → p.omit ≡ 0 → is_got x e ≡ true
    → Among (AsksFor x f) (accept_effects p i e before) → ⊥
not_got p i x f Idle before none got h = false≢true got
not_got p i x f Bad before none got h = false≢true got
not_got p i x f (Sent g) before none got h = false≢true got
not_got p i x f (Got g) before none got h = no_relay p i x f g before none h

-- ---- every run

module _ (scenario : ScenarioParts) (none : scenario.params.omit ≡ 0) (key : MsgKey) where
  abbrev x : Identity
  x = accept_of_key key

  -- who waits with the frame, or has sent it, is the origin
  record OfOrigin (s : RunState) : Type 0 where
    waiting : (i : ℕ) → runs (node_at s.nodes i) ≡ true → waits (accept_of_key key) (node_at s.nodes i).waiting ≡ true → key.origin ≡ i
    sent : (i p : ℕ) → Sends i s.trace p (accept_of_key key) → key.origin ≡ i

  sent_slot : (rules : FaultScript) (s : RunState) → OfOrigin s → (i p : ℕ) → Sends i (slot_note_of rules s ∷ s.trace) p (accept_of_key key) → key.origin ≡ i
  sent_slot rules s h i (suc p) sends = h.sent i p sends
  sent_slot rules s h i zero sends =
      let g = is_sent-true x (given i (slot_note_of rules s)) sends in
      let parts = given-Sent i (slot_note_of rules s) g.what g.was in
      let waited = sender_waits rules s g.what i parts.0 parts.1 in
      h.waiting i waited.0
      (ap (λ y. waits y (node_at s.nodes i).waiting) g.identity
      ∙ waits-from_with g.what (node_at s.nodes i).waiting (waits_with-from_Contains g.what (node_at s.nodes i).waiting waited.1))

  in_slot : (rules : FaultScript) (s : RunState) → OfOrigin s → OfOrigin (after_slot rules s)
  in_slot rules s h = record {
    waiting = λ i on w.
        let ran = (running_before_slot rules s i on).0 in
        h.waiting i ran (kept_waits x (given i (slot_note_of rules s)) (node_at s.nodes i).waiting (ap (waits x) (sym (after_slot-waiting rules s i ran)) ∙ w));
    sent = λ i p sends. sent_slot rules s h i p (subst (λ t. Sends i t p x) (after_slot-trace rules s) sends);
  }

  at_restart : (s : RunState) → OfOrigin s → OfOrigin (after_restarts scenario s)
  at_restart s h = record {
    waiting = λ i on w. elim (restarts_or_stays scenario s i) [
      | inl new ↦ absurd (false≢true (sym (ap (λ (n : NodeState). waits x n.waiting) new.is) ∙ w))
      | inr same ↦ h.waiting i (sym (ap (λ (n : NodeState). runs n) same) ∙ on) (sym (ap (λ (n : NodeState). waits x n.waiting) same) ∙ w)
    ];
    sent = λ i p sends. h.sent i p (subst (λ t. Sends i t p x) (after_restarts-trace scenario s) sends);
  }

  in_turn : (s : RunState) (i : ℕ) → IsOrderly scenario.params.nodes s → MayTurn s i → OfOrigin s → OfOrigin (after_turn scenario i s)
  in_turn s i o may h = record {
    waiting = λ j on w. elim (cases_eq j i) [
      | inr other ↦
          let node = after_turn-other scenario i s j other in
          h.waiting j (sym (ap (λ (n : NodeState). runs n) node) ∙ on) (sym (ap (λ (n : NodeState). waits x n.waiting) node) ∙ w)
      | inl same ↦ own (subst (λ n. waits x (node_at (after_turn scenario i s).nodes n).waiting ≡ true) same w) ∙ sym same
    ];
    sent = λ j p sends. h.sent j p (subst (λ t. Sends j t p x) (after_turn-trace scenario i s) sends);
  }
    where
      own : waits (accept_of_key key) (node_at (after_turn scenario i s).nodes i).waiting ≡ true → key.origin ≡ i
      own w =
          let sc : ScenarioParts = scenario_at scenario s i in
          let waiting = ap (λ (n : NodeState). n.waiting) (after_turn-node scenario i s may (o.unread i)) in
          elim (asked_then sc i (next_notice s i) (history i s) (node_at s.nodes i).waiting key (ap (waits (accept_of_key key)) (sym waiting) ∙ w)) [
            | inl old ↦ h.waiting i may.running old
            | inr asks ↦ elim (asks.1) [
              | inl sent ↦ sent.1
              | inr got ↦
                  absurd (not_got scenario.params i (accept_of_key key) asks.0.0 (next_notice s i) (history i s) none got.0
                  (last_effect_asks (accept_of_key key) asks.0.0 (accept_effects scenario.params i (next_notice s i) (history i s)) asks.0.1))
            ]
          ]

  of_origin : (journal : List Step) → OfOrigin (run scenario journal)
  of_origin =
      along_run scenario OfOrigin (record {
        waiting = λ i on w.
            let node = node_at-opening scenario.params.nodes i (opening_within scenario.params.nodes i on) in
            absurd (false≢true (sym (ap (λ (n : NodeState). waits x n.waiting) node) ∙ w));
        sent = λ i p sends. absurd (false≢true (sym (ap (is_sent x) (gave_none i p)) ∙ sends));
      }) (record {
        slot = λ s o may h. in_slot (script scenario.rules) s h;
        restarts = λ s o some h. at_restart s h;
        turn = λ s i o may h. in_turn s i o may h;
      })

  pub accepts_once : (journal : List Step) → scenario.params.nodes ≤ most_nodes → NoSilent (run scenario journal).trace
      → times_clean (accept_of_key key) (run scenario journal).trace ≤ 1
  accepts_once journal few plain =
      let T : List SlotNote = (run scenario journal).trace in
      let t = (tot_kept scenario few journal plain).trace in
      let h = of_origin journal in
      at_most_1 (carries_clean (accept_of_key key)) T (λ p q less a b.
      let i = t.sender p (accept_of_key key) a in
      let j = t.sender q (accept_of_key key) b in
      let same : j.0 ≡ i.0 = sym (h.sent j.0 q j.2) ∙ h.sent i.0 p i.2 in
      t.sent_once i.0 p q key less i.2 (subst (λ n. Sends n T q (accept_of_key key)) same j.2))
