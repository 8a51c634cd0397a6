-- What becomes of the incarnations of a node while a run goes on: each stays, has read no less, and
-- if it has stopped, has stopped where it did.
use Rattle.std.proofs.Common.{◌≡◌, ℕ, suc, ◌-◌, ◌<◌, ◌≤◌, ◌⊎◌, inl, inr, Bool, true, false, if◌then◌else◌, List, [], ◌∷◌, ◌++◌, length, Option, Some, None, refl, ap, sym, ◌∙◌, subst, arith}
use Rattle.std.specs.Prelude.{is_none}
use Rattle.std.proofs.lemmas.Bool.{both_ways, cases_eq}
use Rattle.cany_base.specs.declared.slot_note.SlotNote.{SlotNote}
use Rattle.cany_base.specs.declared.step.Step.{Step}
use Rattle.cany_base.specs.Nodes.{has}
use Rattle.cany_base.specs.Scenario.{ScenarioParts}
use Rattle.cany_model.specs.Bus.Restart.{after_restarts, ended_at}
use Rattle.cany_model.specs.Bus.Slot.{after_slot, node_after, script, slot_note_of}
use Rattle.cany_model.specs.Bus.State.{EndedIncarnation, Incarnation, NodeState, RunState, fresh, node_at, opening, reads, runs, slots_run}
use Rattle.cany_model.specs.Runs.Incarnations.{incarnations}
use Rattle.cany_model.specs.Runs.Run.{after_turn, run}
use Rattle.cany_model.proofs.Among.{Among, Among-weaker}
use Rattle.cany_model.proofs.Bus.Notes.{note_of-slot}
use Rattle.cany_model.proofs.Bus.Restarts.{after_restarts-trace, restarts_or_stays, running_stays}
use Rattle.cany_model.proofs.Bus.States.{node_at-opening}
use Rattle.cany_model.proofs.Runs.Journals.{reads_other, reads_slot, reads_turn, run_none}
use Rattle.cany_model.proofs.Runs.Runs.{orderly}
use Rattle.cany_model.proofs.Runs.Steps.{MayTurn, after_slot-node, after_slot-present, after_slot-trace, after_turn-other, after_turn-present, after_turn-runs, after_turn-trace, stopped_after_slot}
use Rattle.cany_laws.specs.Logs.{present_of}
use Rattle.cany_laws.proofs.KeptAlongJournal.{after_slot-ended, after_turn-ended, along_pushes, pushed, IsKeptOn, kept_on}

-- the same incarnation, later
pub record Grows (e f : EndedIncarnation) : Type 0 where
  pub same : f.incarnation ≡ e.incarnation
  pub more : e.next ≤ f.next
  pub stops : (t : ℕ) → e.stopped ≡ Some t → f.stopped ≡ Some t

not_running : (o : Option ℕ) (t : ℕ) → o ≡ Some t → is_none o ≡ false
not_running o t e = ap is_none e

-- what a slot makes of a node that ran
stopped_now : (i : ℕ) (note : SlotNote) (node : NodeState) → runs node ≡ true
    → ((node_after i note node).stopped ≡ None) ⊎ ((node_after i note node).stopped ≡ Some note.slot)
unfolding node_after
stopped_now i note node h = rw h (either (has note.stops i))
  where
    either : (b : Bool) → ((if b then Some note.slot else None) ≡ None) ⊎ ((if b then Some note.slot else None) ≡ Some note.slot)
    either true = inr refl
    either false = inl refl

module _ (scenario : ScenarioParts) (i : ℕ) (there : i < scenario.params.nodes) where
  module _ (P : EndedIncarnation → Type 0) (keeps : (e f : EndedIncarnation) → Grows e f → P e → P f) where
    -- the restarts at the end of a slot
    through_restarts : (s : RunState) → 0 < length s.trace → Among P (incarnations s i) → Among P (incarnations (after_restarts scenario s) i)
    through_restarts s some h =
        let later : RunState = after_restarts scenario s in
        let long : length later.trace ≡ length s.trace = ap length (after_restarts-trace scenario s) in
        elim (restarts_or_stays scenario s i) [
          | inr stays ↦
              elim h [
                | inl now ↦ inl (keeps (present_of s i) (present_of later i) (record {
                  same = ap (λ (n : NodeState). n.present) stays;
                  more = omega (arith, long, ap (λ (n : NodeState). n.unread) stays);
                  stops = λ t e. ap (λ (n : NodeState). n.stopped) stays ∙ e;
                }) now)
                | inr before ↦ inr (subst (Among P) (sym (ap (λ (n : NodeState). n.ended) stays)) before)
              ]
          | inl new ↦
              inr (subst (Among P) (sym (ap (λ (n : NodeState). n.ended) new.is)) (elim h [
                | inl now ↦ inl (keeps (present_of s i) (ended_at (slots_run s - 1) (node_at s.nodes i)) (record {
                  same = refl;
                  more = omega (arith, some);
                  stops = λ t e. e;
                }) now)
                | inr before ↦ inr before
              ]))
        ]

    through_slot : (journal : List Step) → Among P (incarnations (run scenario journal) i)
        → Among P (incarnations (after_restarts scenario (after_slot (script scenario.rules) (run scenario journal))) i)
    through_slot journal h =
        let s : RunState = run scenario journal in
        let o = orderly scenario journal in
        let slot : RunState = after_slot (script scenario.rules) s in
        let below : i < length s.nodes = omega (arith, there, o.count) in
        through_restarts slot (omega (arith, ap length (after_slot-trace (script scenario.rules) s))) (elim h [
          | inl now ↦ inl (keeps (present_of s i) (present_of slot i) (record {
            same = after_slot-present (script scenario.rules) s i below;
            more = omega (arith, reads_slot scenario.params.nodes (script scenario.rules) s o i there);
            stops = λ t e. stopped_after_slot (script scenario.rules) s i (not_running (node_at s.nodes i).stopped t e) ∙ e;
          }) now)
          | inr before ↦ inr (subst (Among P) (sym (after_slot-ended (script scenario.rules) s i below)) before)
        ])

    through_turn : (journal : List Step) (j : ℕ) → MayTurn (run scenario journal) j → Among P (incarnations (run scenario journal) i)
        → Among P (incarnations (after_turn scenario j (run scenario journal)) i)
    through_turn journal j may h =
        let s : RunState = run scenario journal in
        let o = orderly scenario journal in
        let to : RunState = after_turn scenario j s in
        elim h [
          | inl now ↦ inl (keeps (present_of s i) (present_of to i) (record {
            same = after_turn-present scenario j s i may (o.unread j);
            more = elim (cases_eq i j) [
              | inl this ↦
                  let more : reads s j ≤ reads to j = omega (arith, reads_turn scenario j s o may) in
                  subst (λ k. reads s k ≤ reads to k) (sym this) more
              | inr other ↦ omega (arith, reads_other scenario j s i other)
            ];
            stops = λ t e. elim (cases_eq i j) [
              | inl this ↦
                  absurd (both_ways (runs (node_at s.nodes i)) (not_running (node_at s.nodes i).stopped t e)
                  (subst (λ k. runs (node_at s.nodes k) ≡ true) (sym this) may.running))
              | inr other ↦ ap (λ (n : NodeState). n.stopped) (after_turn-other scenario j s i other) ∙ e
            ];
          }) now)
          | inr before ↦ inr (subst (Among P) (sym (after_turn-ended scenario j s i may (o.unread j))) before)
        ]

    through_steps : IsKeptOn scenario (λ s. Among P (incarnations s i))
    through_steps = record { slot = λ journal may h. through_slot journal h; turn = λ journal j may h. through_turn journal j may h }

    -- so what one of them has that only grows, one has later
    pub stays_among : (front rest : List Step) → Among P (incarnations (run scenario front) i) → Among P (incarnations (run scenario (front ++ rest)) i)
    stays_among = kept_on scenario (λ s. Among P (incarnations s i)) through_steps

  -- ---- the first stop

  abbrev pub StoppedBefore : ℕ → EndedIncarnation → Type 0
  StoppedBefore n e = (t : ℕ) × (e.stopped ≡ Some t) × (t < n)

  stop_kept : (n : ℕ) (e f : EndedIncarnation) → Grows e f → StoppedBefore n e → StoppedBefore n f
  stop_kept n e f g h = (h.0, g.stops h.0 h.1, h.2)

  -- the node has run in its first incarnation all the time, or one has stopped
  abbrev pub RunsOrStopped : RunState → Type 0
  RunsOrStopped s =
      ((runs (node_at s.nodes i) ≡ true) × ((node_at s.nodes i).present.number ≡ 0)) ⊎ Among (StoppedBefore (length s.trace)) (incarnations s i)

  later_stop : (journal : List Step) (next : Step) → length (run scenario journal).trace ≤ length (run scenario (journal ++ next ∷ [])).trace
      → Among (StoppedBefore (length (run scenario journal).trace)) (incarnations (run scenario journal) i)
      → RunsOrStopped (run scenario (journal ++ next ∷ []))
  later_stop journal next longer h =
      let n : ℕ = length (run scenario journal).trace in
      let m : ℕ = length (run scenario (journal ++ next ∷ [])).trace in
      inr (Among-weaker (StoppedBefore n) (StoppedBefore m) (λ e h. (h.0, h.1, omega (arith, h.2, longer)))
      (incarnations (run scenario (journal ++ next ∷ [])) i)
      (stays_among (StoppedBefore n) (stop_kept n) journal (next ∷ []) h))

  first_slot : (journal : List Step) → runs (node_at (run scenario journal).nodes i) ≡ true → (node_at (run scenario journal).nodes i).present.number ≡ 0
      → RunsOrStopped (after_restarts scenario (after_slot (script scenario.rules) (run scenario journal)))
  first_slot journal running first =
      let s : RunState = run scenario journal in
      let o = orderly scenario journal in
      let slot : RunState = after_slot (script scenario.rules) s in
      let later : RunState = after_restarts scenario slot in
      let note : SlotNote = slot_note_of (script scenario.rules) s in
      let below : i < length s.nodes = omega (arith, there, o.count) in
      let long : length slot.trace ≡ suc (length s.trace) = ap length (after_slot-trace (script scenario.rules) s) in
      let same : length later.trace ≡ length slot.trace = ap length (after_restarts-trace scenario slot) in
      let node : node_at slot.nodes i ≡ node_after i note (node_at s.nodes i) = after_slot-node (script scenario.rules) s i below in
      let present : (node_at slot.nodes i).present.number ≡ 0 =
      ap (λ (n : Incarnation). n.number) (after_slot-present (script scenario.rules) s i below) ∙ first in
      elim (stopped_now i note (node_at s.nodes i) running) [
        | inl none ↦
            let runs_on : runs (node_at slot.nodes i) ≡ true = ap is_none (ap (λ (n : NodeState). n.stopped) node ∙ none) in
            let stays = running_stays scenario slot i runs_on in
            inl (ap (λ (n : NodeState). runs n) stays ∙ runs_on, ap (λ (n : NodeState). n.present.number) stays ∙ present)
        | inr stopped ↦
            let stop : (node_at slot.nodes i).stopped ≡ Some note.slot = ap (λ (n : NodeState). n.stopped) node ∙ stopped in
            let early : note.slot < length later.trace = omega (arith, note_of-slot (script scenario.rules) s, long, same) in
            inr (through_restarts (StoppedBefore (length later.trace)) (stop_kept (length later.trace)) slot (omega (arith, long))
            (inl (note.slot, stop, early)))
      ]

  pub runs_or_stopped : (journal : List Step) → RunsOrStopped (run scenario journal)
  runs_or_stopped = along_pushes (λ journal. RunsOrStopped (run scenario journal)) at_first (λ journal next h. elim (pushed scenario journal next).is [
    | inl refused ↦ subst RunsOrStopped (sym refused) h
    | inr (inl slot) ↦ elim h [
      | inl ran ↦ subst RunsOrStopped (sym slot.1) (first_slot journal ran.0 ran.1)
      | inr stopped ↦ later_stop journal next (longer_by_slot journal next slot.1) stopped
    ]
    | inr (inr turn) ↦ elim h [
      | inl ran ↦ subst RunsOrStopped (sym turn.2) (inl (
        after_turn-runs scenario turn.0 (run scenario journal) i turn.1 ((orderly scenario journal).unread turn.0) ∙ ran.0,
        ap (λ (n : Incarnation). n.number) (after_turn-present scenario turn.0 (run scenario journal) i turn.1 ((orderly scenario journal).unread turn.0))
            ∙ ran.1,
      ))
      | inr stopped ↦ later_stop journal next (longer_by_turn journal next turn.0 turn.2) stopped
    ]
  ])
    where
      at_first : RunsOrStopped (run scenario [])
      at_first =
          let node : node_at (run scenario []).nodes i ≡ fresh =
          ap (λ (r : RunState). node_at r.nodes i) (run_none scenario (opening scenario.params.nodes)) ∙ node_at-opening scenario.params.nodes i there in
          inl (ap (λ (n : NodeState). runs n) node, ap (λ (n : NodeState). n.present.number) node)

      longer_by_slot : (journal : List Step) (next : Step)
          → run scenario (journal ++ next ∷ []) ≡ after_restarts scenario (after_slot (script scenario.rules) (run scenario journal))
          → length (run scenario journal).trace ≤ length (run scenario (journal ++ next ∷ [])).trace
      longer_by_slot journal next is =
          omega (
            arith,
            ap (λ (r : RunState). length r.trace) is,
            ap length (after_restarts-trace scenario (after_slot (script scenario.rules) (run scenario journal))),
            ap length (after_slot-trace (script scenario.rules) (run scenario journal)),
          )

      longer_by_turn : (journal : List Step) (next : Step) (j : ℕ) → run scenario (journal ++ next ∷ []) ≡ after_turn scenario j (run scenario journal)
          → length (run scenario journal).trace ≤ length (run scenario (journal ++ next ∷ [])).trace
      longer_by_turn journal next j is =
          omega (arith, ap (λ (r : RunState). length r.trace) is, ap length (after_turn-trace scenario j (run scenario journal)))
