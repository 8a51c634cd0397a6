-- Before the origin of an EDCAN message has read the scripted slot, no slot has carried its data
-- frame, and no running node waits with it.
use Rattle.std.proofs.Common.{◌≡◌, ℕ, ◌<◌, ◌≤◌, ◌⊎◌, inl, inr, true, false, List, ◌∷◌, length, ap, sym, ◌∙◌, subst, arith}
use Rattle.std.proofs.lemmas.Bool.{both_ways, cases_Bool, cases_eq, cases_lt, false_from_ne_true}
use Rattle.cany_base.specs.declared.message.Service.TheVariants.{Ed}
use Rattle.cany_base.specs.declared.notice.NoticeKind.{NoticeKind}
use Rattle.cany_base.specs.declared.step.Step.{Step}
use Rattle.cany_base.specs.Scenario.{ScenarioParts}
use Rattle.cany_model.specs.Bus.Frames.{identity_of, is_of}
use Rattle.cany_model.specs.Bus.History.{copies, history, is_got}
use Rattle.cany_model.specs.Bus.Restart.{after_restarts}
use Rattle.cany_model.specs.Bus.Slot.{FaultScript, after_slot, script}
use Rattle.cany_model.specs.Bus.State.{NodeState, RunState, node_at, opening, reads, runs}
use Rattle.cany_model.specs.Bus.Waiting.{waits}
use Rattle.cany_model.specs.Rules.Effect.{waiting_after}
use Rattle.cany_model.specs.Rules.Messages.{Message, data_id, messages_of}
use Rattle.cany_model.specs.Rules.Turn.{scenario_at, turn_effects}
use Rattle.cany_model.specs.Runs.Run.{after_turn, run}
use Rattle.cany_model.proofs.Among.{Among, Among-from_Contains, Among-from_count, Among-weaker, any-from_Among}
use Rattle.cany_model.proofs.Bus.Carried.{Carries, Carries-from_got}
use Rattle.cany_model.proofs.Bus.Identities.{same_identity-from}
use Rattle.cany_model.proofs.Bus.Notes.{note_of-offered}
use Rattle.cany_model.proofs.Bus.Restarts.{after_restarts-trace, restarts_or_stays}
use Rattle.cany_model.proofs.Bus.States.{node_at-opening, node_at_past}
use Rattle.cany_model.proofs.Promises.Agreement.{idle_carries}
use Rattle.cany_model.proofs.Rules.Services.MessageKeys.{IsOneOf}
use Rattle.cany_model.proofs.Runs.FrameInvariants.{history_among}
use Rattle.cany_model.proofs.Runs.Runs.{IsKept, IsOrderly, along_run, history-length, opening_within}
use Rattle.cany_model.proofs.Runs.Steps.{MayTurn, after_slot-length, after_slot-trace, after_slot-waiting, after_turn-history, after_turn-node, after_turn-trace, next_notice, running_before_slot}
use Rattle.cany_model.proofs.Rules.Waits.{waits-from_after}
use Rattle.cany_laws.proofs.Waiting.WaitAsksOnce.{AtFirstCopy, AtItsSlot, ed_asked}
use Rattle.cany_laws.proofs.Waiting.WaitNodes.{kept_waits, new_reads, same_after_turn, same_reads, slot_reads, turn_reads}

-- no slot has carried the frame, and no running node waits with it
pub record IsUnsent (m : Message) (s : RunState) : Type 0 where
  pub carried : Among (Carries (data_id m)) s.trace → ⊥
  pub waiting : (i : ℕ) → runs (node_at s.nodes i) ≡ true → waits (data_id m) (node_at s.nodes i).waiting ≡ false

-- its origin has read the scripted slot, or that is so
abbrev pub IsReadOrUnsent : Message → RunState → Type 0
IsReadOrUnsent m s = (m.slot < reads s m.origin) ⊎ IsUnsent m s

-- a slot takes nothing from what a node has read
slot_grows : (scenario : ScenarioParts) (rules : FaultScript) (s : RunState) → IsOrderly scenario.params.nodes s → (i : ℕ)
    → reads s i ≤ reads (after_slot rules s) i
slot_grows scenario rules s o i = elim (cases_lt i scenario.params.nodes) [
  | inl there ↦ omega (arith, slot_reads scenario rules s o i there)
  | inr past ↦
      let here : (node_at s.nodes i).unread ≡ 0 = ap (λ (n : NodeState). n.unread) (node_at_past s.nodes i (omega (arith, past, o.count))) in
      let later : (node_at (after_slot rules s).nodes i).unread ≡ 0 =
      ap (λ (n : NodeState). n.unread) (node_at_past (after_slot rules s).nodes i (omega (arith, past, o.count, after_slot-length rules s))) in
      omega (arith, here, later, ap length (after_slot-trace rules s))
]

slot_unsent : (m : Message) (rules : FaultScript) (s : RunState) → IsUnsent m s → IsUnsent m (after_slot rules s)
slot_unsent m rules s h = record {
  carried = λ c. elim (subst (Among (Carries (data_id m))) (after_slot-trace rules s) c) [
    | inr before ↦ h.carried before
    | inl now ↦
        let offered = note_of-offered rules s now.what now.frame in
        both_ways (waits (data_id m) (node_at s.nodes offered.node).waiting) (h.waiting offered.node offered.running)
        (any-from_Among (is_of (data_id m)) (node_at s.nodes offered.node).waiting
        (Among-weaker (λ g. g ≡ now.what) (λ g. is_of (data_id m) g ≡ true)
        (λ g e. ap (is_of (data_id m)) e ∙ same_identity-from (data_id m) (identity_of now.what) now.identity) (node_at s.nodes offered.node).waiting
        (Among-from_Contains (node_at s.nodes offered.node).waiting now.what offered.waits)))
  ];
  waiting = λ i running. false_from_ne_true (waits (data_id m) (node_at (after_slot rules s).nodes i).waiting) (λ waiting.
      let ran = (running_before_slot rules s i running).0 in
      both_ways (waits (data_id m) (node_at s.nodes i).waiting) (h.waiting i ran)
      (kept_waits (data_id m) _ (node_at s.nodes i).waiting (sym (ap (waits (data_id m)) (after_slot-waiting rules s i ran)) ∙ waiting)));
}

restarts_unsent : (scenario : ScenarioParts) (m : Message) (s : RunState) → IsUnsent m s → IsUnsent m (after_restarts scenario s)
restarts_unsent scenario m s h = record {
  carried = λ c. h.carried (subst (Among (Carries (data_id m))) (after_restarts-trace scenario s) c);
  waiting = λ i running. elim (restarts_or_stays scenario s i) [
    | inl new ↦ ap (λ (n : NodeState). waits (data_id m) n.waiting) new.is
    | inr stays ↦ ap (λ (n : NodeState). waits (data_id m) n.waiting) stays ∙ h.waiting i (sym (ap (λ (n : NodeState). runs n) stays) ∙ running)
  ];
}

-- copies that were read were carried
pub copies_carried : (m : Message) (s : RunState) (i : ℕ) → 0 < copies (data_id m) (history i s) → Among (Carries (data_id m)) s.trace
unfolding copies
copies_carried m s i some =
    history_among s i (λ e. is_got (data_id m) e ≡ true) (Carries (data_id m)) (idle_carries (data_id m)) (Carries-from_got i (data_id m))
    (Among-from_count (is_got (data_id m)) (history i s) some)

module _ (scenario : ScenarioParts) (m : Message) (is : IsOneOf (messages_of scenario.sends) m) (ed : m.service ≡ Ed) (s : RunState)
    (o : IsOrderly scenario.params.nodes s) (i : ℕ) (may : MayTurn s i) where
  abbrev to : RunState
  to = after_turn scenario i s

  abbrev past : List NoticeKind
  past = history i s

  -- a node that waits with it after its turn did before, or asks for it
  pub waited_or_asked : waits (data_id m) (node_at to.nodes i).waiting ≡ true
      → (waits (data_id m) (node_at s.nodes i).waiting ≡ true) ⊎ (AtFirstCopy (data_id m) (next_notice s i) past ⊎ AtItsSlot m i past)
  waited_or_asked waiting =
      let sc : ScenarioParts = scenario_at scenario s i in
      let is_waiting : (node_at to.nodes i).waiting ≡ waiting_after (turn_effects sc i (next_notice s i ∷ past)) (node_at s.nodes i).waiting =
      ap (λ (n : NodeState). n.waiting) (after_turn-node scenario i s may (o.unread i)) in
      elim (waits-from_after (data_id m) (turn_effects sc i (next_notice s i ∷ past)) (node_at s.nodes i).waiting
      (sym (ap (waits (data_id m)) is_waiting) ∙ waiting)) [
        | inl before ↦ inl before
        | inr asks ↦ inr (ed_asked sc m is ed i (next_notice s i) past asks)
      ]

  turn_grows : (j : ℕ) → reads s j ≤ reads to j
  turn_grows j = elim (cases_eq j i) [
    | inl same ↦ subst (λ k. reads s k ≤ reads to k) (sym same) (omega (arith, turn_reads scenario s i may (o.unread i)))
    | inr other ↦ omega (arith, same_reads s to j (same_after_turn scenario s i j other))
  ]

  turn_unsent : IsUnsent m s → IsReadOrUnsent m to
  turn_unsent h = elim (cases_Bool (waits (data_id m) (node_at to.nodes i).waiting)) [
    | inr none ↦ inr (record {
      carried = λ c. never c;
      waiting = λ j running. elim (cases_eq j i) [
        | inl same ↦ subst (λ k. waits (data_id m) (node_at to.nodes k).waiting ≡ false) (sym same) none
        | inr other ↦
            let node = (same_after_turn scenario s i j other).node in
            ap (λ (n : NodeState). waits (data_id m) n.waiting) node ∙ h.waiting j (sym (ap (λ (n : NodeState). runs n) node) ∙ running)
      ];
    })
    | inl waiting ↦ elim (waited_or_asked waiting) [
      | inl before ↦ absurd (both_ways (waits (data_id m) (node_at s.nodes i).waiting) (h.waiting i may.running) before)
      | inr (inl first) ↦
          let one : copies (data_id m) (history i to) ≡ 1 = ap (copies (data_id m)) (after_turn-history scenario i s may (o.unread i)) ∙ first.now in
          absurd (never (copies_carried m to i (omega (arith, one))))
      | inr (inr now) ↦
          let at : m.slot ≡ length past = now.slot in
          inl (subst (λ k. m.slot < reads to k) (sym now.origin) (omega (arith, at, history-length i s, turn_reads scenario s i may (o.unread i))))
    ]
  ]
    where
      never : Among (Carries (data_id m)) (after_turn scenario i s).trace → ⊥
      never c = h.carried (subst (Among (Carries (data_id m))) (after_turn-trace scenario i s) c)

unsent_kept : (scenario : ScenarioParts) (m : Message) → IsOneOf (messages_of scenario.sends) m → m.service ≡ Ed → IsKept scenario (IsReadOrUnsent m)
unsent_kept scenario m is ed = record {
  slot = λ s o may h. elim h [
    | inl read ↦ inl (omega (arith, read, slot_grows scenario (script scenario.rules) s o m.origin))
    | inr none ↦ inr (slot_unsent m (script scenario.rules) s none)
  ];
  restarts = λ s o some h. elim h [
    | inl read ↦ inl (elim (restarts_or_stays scenario s m.origin) [
      | inl new ↦ omega (arith, read, new_reads scenario s m.origin new)
      | inr stays ↦ omega (arith, read, same_reads s (after_restarts scenario s) m.origin (record { node = stays; trace = after_restarts-trace scenario s }))
    ])
    | inr none ↦ inr (restarts_unsent scenario m s none)
  ];
  turn = λ s i o may h. elim h [
    | inl read ↦ inl (omega (arith, read, turn_grows scenario m is ed s o i may m.origin))
    | inr none ↦ turn_unsent scenario m is ed s o i may none
  ];
}

opening_unsent : (scenario : ScenarioParts) (m : Message) → IsReadOrUnsent m (opening scenario.params.nodes)
opening_unsent scenario m = inr (record {
  carried = λ never. never;
  waiting = λ i running. elim (cases_lt i scenario.params.nodes) [
    | inl there ↦ ap (λ (n : NodeState). waits (data_id m) n.waiting) (node_at-opening scenario.params.nodes i there)
    | inr past ↦ absurd (omega (arith, opening_within scenario.params.nodes i running, past))
  ];
})

-- ---- every run

pub read_or_unsent : (scenario : ScenarioParts) (m : Message) → IsOneOf (messages_of scenario.sends) m → m.service ≡ Ed → (journal : List Step)
    → IsReadOrUnsent m (run scenario journal)
read_or_unsent scenario m is ed journal = along_run scenario (IsReadOrUnsent m) (opening_unsent scenario m) (unsent_kept scenario m is ed) journal
