-- Each incarnation of a node ran when a front of the journal ended, and had then read all that it
-- has read.
use Rattle.std.proofs.Common.{◌≡◌, ℕ, suc, ◌+◌, ◌-◌, ◌<◌, ◌≤◌, inl, inr, true, List, [], ◌∷◌, ◌++◌, length, refl, ap, sym, ◌∙◌, subst, arith, append-nil, append_assoc}
use Rattle.std.specs.List.{AllByRecursion}
use Rattle.std.proofs.lemmas.Bool.{cases_eq}
use Rattle.cany_base.specs.declared.slot_note.SlotNote.{SlotNote}
use Rattle.cany_base.specs.declared.step.Step.{Step}
use Rattle.cany_base.specs.Scenario.{ScenarioParts}
use Rattle.cany_model.specs.Bus.History.{ended_history, history}
use Rattle.cany_model.specs.Bus.Restart.{after_restarts, restarted}
use Rattle.cany_model.specs.Bus.Slot.{FaultScript, after_slot, script, slot_note_of}
use Rattle.cany_model.specs.Bus.State.{EndedIncarnation, NodeState, RunState, fresh, node_at, opening, reads, runs, slots_run}
use Rattle.cany_model.specs.Runs.Incarnations.{incarnations}
use Rattle.cany_model.specs.Runs.Run.{after_turn, run}
use Rattle.cany_model.proofs.Among.{Among-from_Contains, Each-of, Each-weaker}
use Rattle.cany_model.proofs.Bus.Restarts.{after_restarts-trace, restarts_or_stays}
use Rattle.cany_model.proofs.Bus.Seen.{ended_history-present}
use Rattle.cany_model.proofs.Bus.States.{node_at-opening}
use Rattle.cany_model.proofs.Runs.Journals.{run_none}
use Rattle.cany_model.proofs.Runs.Runs.{orderly}
use Rattle.cany_model.proofs.Runs.Steps.{MayTurn, after_slot-present, after_slot-trace, after_slot-unread, after_turn-other, after_turn-runs, after_turn-trace}
use Rattle.cany_laws.specs.Logs.{IsIncarnation, present_of}
use Rattle.cany_laws.proofs.KeptAlongJournal.{after_slot-ended, after_turn-ended, along_pushes, ended_history-longer, pushed}

-- after a front of the journal the node ran in this incarnation, and had read what it has read in
-- all
pub record Lived (scenario : ScenarioParts) (journal : List Step) (i : ℕ) (e : EndedIncarnation) : Type 0 where
  pub front : List Step
  pub rest : List Step
  pub whole : journal ≡ front ++ rest
  pub running : runs (node_at (run scenario front).nodes i) ≡ true
  pub present : (node_at (run scenario front).nodes i).present ≡ e.incarnation
  pub next : reads (run scenario front) i ≡ e.next
  pub past : history i (run scenario front) ≡ ended_history i (run scenario journal).trace e
  pub short : e.next ≤ length (run scenario journal).trace

abbrev pub EachLived : ScenarioParts → ℕ → List Step → Type 0
EachLived scenario i journal = AllByRecursion (Lived scenario journal i) (incarnations (run scenario journal) i)

module _ (scenario : ScenarioParts) (i : ℕ) (there : i < scenario.params.nodes) where
  -- a node that runs, now
  lives : (journal : List Step) → runs (node_at (run scenario journal).nodes i) ≡ true → Lived scenario journal i (present_of (run scenario journal) i)
  lives journal running =
      let o = orderly scenario journal in
      record {
        front = journal;
        rest = [];
        whole = sym (append-nil journal);
        running = running;
        present = refl;
        next = refl;
        past = sym (ended_history-present i (run scenario journal) (o.unread i));
        short = omega arith;
      }

  -- a longer journal whose trace is the same, or has a note more
  abbrev SameTrace : List Step → List Step → Type 0
  SameTrace journal longer = (run scenario longer).trace ≡ (run scenario journal).trace

  extended : (journal : List Step) (next : Step) (e : EndedIncarnation) → Lived scenario journal i e
      → ended_history i (run scenario journal).trace e ≡ ended_history i (run scenario (journal ++ next ∷ [])).trace e
      → e.next ≤ length (run scenario (journal ++ next ∷ [])).trace → Lived scenario (journal ++ next ∷ []) i e
  extended journal next e l past short = record {
    front = l.front;
    rest = l.rest ++ next ∷ [];
    whole = ap (λ j. j ++ next ∷ []) l.whole ∙ append_assoc l.front l.rest (next ∷ []);
    running = l.running;
    present = l.present;
    next = l.next;
    past = l.past ∙ past;
    short = short;
  }

  still : (journal : List Step) (next : Step) → SameTrace journal (journal ++ next ∷ []) → (e : EndedIncarnation) → Lived scenario journal i e
      → Lived scenario (journal ++ next ∷ []) i e
  still journal next same e l =
      extended journal next e l (ap (λ t. ended_history i t e) (sym same)) (subst (λ t. e.next ≤ length t) (sym same) l.short)

  longer : (journal : List Step) (next : Step) (note : SlotNote) → (run scenario (journal ++ next ∷ [])).trace ≡ note ∷ (run scenario journal).trace
      → (e : EndedIncarnation) → Lived scenario journal i e → Lived scenario (journal ++ next ∷ []) i e
  longer journal next note more e l =
      extended journal next e l (sym (ended_history-longer i note (run scenario journal).trace e l.short) ∙ ap (λ t. ended_history i t e) (sym more))
      (subst (λ t. e.next ≤ length t) (sym more) (omega (arith, l.short)))

  -- where it stops is no matter
  stopping : (journal : List Step) (e f : EndedIncarnation) → e.incarnation ≡ f.incarnation → e.next ≡ f.next → Lived scenario journal i e → Lived scenario journal i f
  unfolding ended_history
  stopping journal e f same next l = record {
    front = l.front;
    rest = l.rest;
    whole = l.whole;
    running = l.running;
    present = l.present ∙ same;
    next = l.next ∙ next;
    past = l.past ∙ cc;
    short = omega (arith, l.short, next);
  }

  -- ---- a step more

  after_turns : (journal : List Step) (next : Step) (j : ℕ) → MayTurn (run scenario journal) j
      → run scenario (journal ++ next ∷ []) ≡ after_turn scenario j (run scenario journal) → EachLived scenario i journal → EachLived scenario i (journal ++ next ∷ [])
  after_turns journal next j may is all =
      let s : RunState = run scenario journal in
      let o = orderly scenario journal in
      let to : RunState = after_turn scenario j s in
      let same : SameTrace journal (journal ++ next ∷ []) = ap (λ (r : RunState). r.trace) is ∙ after_turn-trace scenario j s in
      let ended : (node_at (run scenario (journal ++ next ∷ [])).nodes i).ended ≡ (node_at s.nodes i).ended =
      ap (λ (r : RunState). (node_at r.nodes i).ended) is ∙ after_turn-ended scenario j s i may (o.unread j) in (
        elim (cases_eq i j) [
          | inl this ↦
              lives (journal ++ next ∷ [])
              (ap (λ (r : RunState). runs (node_at r.nodes i)) is ∙ after_turn-runs scenario j s i may (o.unread j)
              ∙ subst (λ k. runs (node_at s.nodes k) ≡ true) (sym this) may.running)
          | inr other ↦
              let there' : node_at (run scenario (journal ++ next ∷ [])).nodes i ≡ node_at s.nodes i =
              ap (λ (r : RunState). node_at r.nodes i) is ∙ after_turn-other scenario j s i other in
              let at : present_of s i ≡ present_of (run scenario (journal ++ next ∷ [])) i = cc in
              subst (Lived scenario (journal ++ next ∷ []) i) at (still journal next same (present_of s i) all.0)
        ],
        subst (AllByRecursion (Lived scenario (journal ++ next ∷ []) i)) (sym ended)
            (Each-weaker (Lived scenario journal i) (Lived scenario (journal ++ next ∷ []) i) (still journal next same) (node_at s.nodes i).ended all.1),
      )

  after_slots : (journal : List Step) (next : Step)
      → run scenario (journal ++ next ∷ []) ≡ after_restarts scenario (after_slot (script scenario.rules) (run scenario journal))
      → EachLived scenario i journal → EachLived scenario i (journal ++ next ∷ [])
  after_slots journal next is all =
      let s : RunState = run scenario journal in
      let rules : FaultScript = script scenario.rules in
      let slot : RunState = after_slot rules s in
      let later : RunState = run scenario (journal ++ next ∷ []) in
      let o = orderly scenario journal in
      let below : i < length s.nodes = omega (arith, there, o.count) in
      let note : SlotNote = slot_note_of rules s in
      let more : later.trace ≡ note ∷ s.trace = ap (λ (r : RunState). r.trace) is ∙ after_restarts-trace scenario slot ∙ after_slot-trace rules s in
      let long : length later.trace ≡ suc (length s.trace) = ap length more in
      let unread : (node_at slot.nodes i).unread ≡ (node_at s.nodes i).unread + 1 = after_slot-unread rules s i below in
      let short : (node_at s.nodes i).unread ≤ length s.trace = o.unread i in
      let present : (node_at slot.nodes i).present ≡ (node_at s.nodes i).present = after_slot-present rules s i below in
      let old : Lived scenario (journal ++ next ∷ []) i (present_of s i) = longer journal next note more (present_of s i) all.0 in
      let earlier : AllByRecursion (Lived scenario (journal ++ next ∷ []) i) (node_at s.nodes i).ended =
      Each-weaker (Lived scenario journal i) (Lived scenario (journal ++ next ∷ []) i) (longer journal next note more) (node_at s.nodes i).ended all.1 in
      let ended : (node_at slot.nodes i).ended ≡ (node_at s.nodes i).ended = after_slot-ended rules s i below in
      elim (restarts_or_stays scenario slot i) [
        | inr stays ↦
            let node : node_at later.nodes i ≡ node_at slot.nodes i = ap (λ (r : RunState). node_at r.nodes i) is ∙ stays in
            let same : (present_of s i).next ≡ (present_of later i).next = omega (arith, ap (λ (n : NodeState). n.unread) node, unread, long, short) in (
              stopping (journal ++ next ∷ []) (present_of s i) (present_of later i) (sym (ap (λ (n : NodeState). n.present) node ∙ present)) same old,
              subst (AllByRecursion (Lived scenario (journal ++ next ∷ []) i)) (sym (ap (λ (n : NodeState). n.ended) node ∙ ended)) earlier,
            )
        | inl new ↦
            let node : node_at later.nodes i ≡ restarted scenario.params (slots_run slot - 1) (node_at slot.nodes i) =
            ap (λ (r : RunState). node_at r.nodes i) is ∙ new.is in
            let ran : slots_run slot ≡ suc (length s.trace) = ap length (after_slot-trace rules s) in
            let gone : EndedIncarnation =
            record { incarnation = (node_at slot.nodes i).present; next = slots_run slot - 1 + 1 - (node_at slot.nodes i).unread; stopped = (node_at slot.nodes i).stopped } in
            let same : (present_of s i).next ≡ gone.next = omega (arith, unread, ran, short) in (
              lives (journal ++ next ∷ []) (ap (λ (n : NodeState). runs n) node),
              subst (AllByRecursion (Lived scenario (journal ++ next ∷ []) i)) (sym (ap (λ (n : NodeState). n.ended) node)) (
                stopping (journal ++ next ∷ []) (present_of s i) gone (sym present) same old,
                subst (AllByRecursion (Lived scenario (journal ++ next ∷ []) i)) (sym ended) earlier,
              ),
            )
      ]

  -- ---- every journal

  at_first : EachLived scenario i []
  at_first =
      let node : node_at (run scenario []).nodes i ≡ fresh =
      ap (λ (r : RunState). node_at r.nodes i) (run_none scenario (opening scenario.params.nodes)) ∙ node_at-opening scenario.params.nodes i there in (
        lives [] (ap (λ (n : NodeState). runs n) node),
        subst (AllByRecursion (Lived scenario [] i)) (sym (ap (λ (n : NodeState). n.ended) node)) tt,
      )

  pub each_lived : (journal : List Step) → EachLived scenario i journal
  each_lived = along_pushes (EachLived scenario i) at_first (λ journal next all. elim (pushed scenario journal next).is [
    | inl refused ↦ unchanged journal next refused all
    | inr (inl slot) ↦ after_slots journal next slot.1 all
    | inr (inr turn) ↦ after_turns journal next turn.0 turn.1 turn.2 all
  ])
    where
      unchanged : (journal : List Step) (next : Step) → run scenario (journal ++ next ∷ []) ≡ run scenario journal → EachLived scenario i journal
          → EachLived scenario i (journal ++ next ∷ [])
      unchanged journal next is all =
          let moved : AllByRecursion (Lived scenario (journal ++ next ∷ []) i) (incarnations (run scenario journal) i) =
          Each-weaker (Lived scenario journal i) (Lived scenario (journal ++ next ∷ []) i) (still journal next (ap (λ (r : RunState). r.trace) is))
          (incarnations (run scenario journal) i) all in
          subst (λ (r : RunState). AllByRecursion (Lived scenario (journal ++ next ∷ []) i) (incarnations r i)) (sym is) moved

pub lived : (scenario : ScenarioParts) (journal : List Step) (i : ℕ) (e : EndedIncarnation) → IsIncarnation scenario (run scenario journal) i e
    → Lived scenario journal i e
lived scenario journal i e is =
    Each-of (Lived scenario journal i) e (incarnations (run scenario journal) i) (each_lived scenario i is.there journal)
    (Among-from_Contains (incarnations (run scenario journal) i) e is.stands)
