-- What holds of each front of a journal, and what each step changes at one node.
use Rattle.std.proofs.Common.{◌≡◌, ℕ, zero, suc, ◌-◌, ◌<◌, ◌≤◌, ◌⊎◌, inl, inr, true, List, [], ◌∷◌, ◌++◌, length, map, drop, refl, ap, sym, ◌∙◌, subst, arith, append-nil, append_assoc}
use Rattle.std.specs.Prelude.{Contains}
use Rattle.std.proofs.lemmas.Bool.{cases_Bool, cases_eq}
use Rattle.cany_base.specs.declared.slot_note.SlotNote.{SlotNote}
use Rattle.cany_base.specs.declared.step.Step.{Step}
use Rattle.cany_base.specs.declared.step.Step.TheVariants as step
use Rattle.cany_base.specs.Scenario.{ScenarioParts}
use Rattle.cany_model.specs.Bus.History.{ended_history, given, seen}
use Rattle.cany_model.specs.Bus.Restart.{after_restarts}
use Rattle.cany_model.specs.Bus.Slot.{FaultScript, after_slot, script, slot_note_of}
use Rattle.cany_model.specs.Bus.State.{EndedIncarnation, NodeState, RunState, node_at, opening}
use Rattle.cany_model.specs.Runs.Run.{after_turn, is_done, proceed, reply, run}
use Rattle.cany_model.proofs.Among.{Among-append_right, Among-from_Contains, Contains-from_Among}
use Rattle.cany_model.proofs.Bus.Restarts.{after_restarts-trace}
use Rattle.cany_model.proofs.Runs.Journals.{run_push, step_is, step_refused, run_none}
use Rattle.cany_model.proofs.Runs.Runs.{MaySlot, orderly, slot_done, turn_done, turn_is_done}
use Rattle.cany_model.proofs.Runs.Steps.{MayTurn, after_slot-node, after_turn-node, after_turn-other, node_after-ended, after_slot-trace}

-- ---- along a journal

-- what holds of a front, and of each journal with a step more, holds of all that begin with the
-- front
pub along_rest : (P : List Step → Type 0) → ((journal : List Step) (next : Step) → P journal → P (journal ++ next ∷ [])) → (front rest : List Step) → P front
    → P (front ++ rest)
along_rest P more front [] p = subst P (sym (append-nil front)) p
along_rest P more front (next ∷ rest) p =
    subst P (append_assoc front (next ∷ []) rest) (along_rest P more (front ++ next ∷ []) rest (more front next p))

-- so what holds of the empty journal holds of all
pub along_pushes : (P : List Step → Type 0) → P [] → ((front : List Step) (next : Step) → P front → P (front ++ next ∷ [])) → (journal : List Step) → P journal
along_pushes P first more journal = along_rest P more [] journal first

-- a step more: it is refused, or a slot with the restarts at its end, or a turn
pub record Pushed (scenario : ScenarioParts) (front : List Step) (next : Step) : Type 0 where
  pub is : (run scenario (front ++ next ∷ []) ≡ run scenario front)
      ⊎ ((MaySlot scenario (run scenario front) × (run scenario (front ++ next ∷ []) ≡ after_restarts scenario (after_slot (script scenario.rules) (run scenario front))))
      ⊎ ((i : ℕ) × MayTurn (run scenario front) i × (run scenario (front ++ next ∷ []) ≡ after_turn scenario i (run scenario front))))

pub pushed : (scenario : ScenarioParts) (front : List Step) (next : Step) → Pushed scenario front next
unfolding proceed
pushed scenario front next = record {
  is = elim (cases_Bool (is_done (reply scenario (run scenario front) next))) [
    | inr refused ↦ inl (run_push scenario (opening scenario.params.nodes) front next ∙ step_refused scenario (run scenario front) next refused)
    | inl done ↦ inr (by_step next (run_push scenario (opening scenario.params.nodes) front next ∙ step_is scenario (run scenario front) next done) done)
  ];
}
  where
    s : RunState
    s = run scenario front

    by_step : (made : Step) → run scenario (front ++ next ∷ []) ≡ proceed scenario (run scenario front) made → is_done (reply scenario (run scenario front) made) ≡ true
        → (MaySlot scenario (run scenario front) × (run scenario (front ++ next ∷ []) ≡ after_restarts scenario (after_slot (script scenario.rules) (run scenario front))))
        ⊎ ((i : ℕ) × MayTurn (run scenario front) i × (run scenario (front ++ next ∷ []) ≡ after_turn scenario i (run scenario front)))
    by_step step.Slot is done = inl (slot_done scenario (run scenario front) done, is)
    by_step (step.Turn i) is done = inr (i, turn_done scenario (run scenario front) i (orderly scenario front).count done, is)

-- what each slot with the restarts at its end keeps, and each turn
pub record IsKeptOn (scenario : ScenarioParts) (P : RunState → Type 0) : Type 0 where
  pub slot : (journal : List Step) → MaySlot scenario (run scenario journal) → P (run scenario journal)
      → P (after_restarts scenario (after_slot (script scenario.rules) (run scenario journal)))
  pub turn : (journal : List Step) (i : ℕ) → MayTurn (run scenario journal) i → P (run scenario journal) → P (after_turn scenario i (run scenario journal))

-- what holds of a front, and is kept so, holds of all that begin with the front
pub kept_on : (scenario : ScenarioParts) (P : RunState → Type 0) → IsKeptOn scenario P → (front rest : List Step) → P (run scenario front)
    → P (run scenario (front ++ rest))
kept_on scenario P keeps = along_rest (λ journal. P (run scenario journal)) (λ journal next h. elim (pushed scenario journal next).is [
  | inl refused ↦ subst P (sym refused) h
  | inr (inl slot) ↦ subst P (sym slot.1) (keeps.slot journal slot.0 h)
  | inr (inr turn) ↦ subst P (sym turn.2) (keeps.turn journal turn.0 turn.1 h)
])

-- so what holds after no step holds after each journal
pub kept_always : (scenario : ScenarioParts) (P : RunState → Type 0) → IsKeptOn scenario P → P (opening scenario.params.nodes) → (journal : List Step)
    → P (run scenario journal)
kept_always scenario P keeps first journal = kept_on scenario P keeps [] journal (subst P (sym (run_none scenario (opening scenario.params.nodes))) first)

-- the trace is longer by one after a slot with the restarts at its end
pub one_longer : (scenario : ScenarioParts) (s : RunState)
    → length (after_restarts scenario (after_slot (script scenario.rules) s)).trace ≡ suc (length s.trace)
one_longer scenario s =
    ap length (after_restarts-trace scenario (after_slot (script scenario.rules) s)) ∙ ap length (after_slot-trace (script scenario.rules) s)

-- a turn that may be made is made
pub turn_made : (scenario : ScenarioParts) (front : List Step) (i : ℕ) → MayTurn (run scenario front) i
    → run scenario (front ++ step.Turn i ∷ []) ≡ after_turn scenario i (run scenario front)
unfolding proceed
turn_made scenario front i may =
    run_push scenario (opening scenario.params.nodes) front (step.Turn i)
    ∙ step_is scenario (run scenario front) (step.Turn i) (turn_is_done scenario (run scenario front) i (orderly scenario front).count may)

-- ---- the ended incarnations of a node

-- a slot ends none
pub after_slot-ended : (rules : FaultScript) (s : RunState) (i : ℕ) → i < length s.nodes → (node_at (after_slot rules s).nodes i).ended ≡ (node_at s.nodes i).ended
after_slot-ended rules s i h =
    ap (λ (node : NodeState). node.ended) (after_slot-node rules s i h) ∙ node_after-ended i (slot_note_of rules s) (node_at s.nodes i)

-- nor does a turn
pub after_turn-ended : (scenario : ScenarioParts) (i : ℕ) (s : RunState) (j : ℕ) → MayTurn s i → (node_at s.nodes i).unread ≤ length s.trace
    → (node_at (after_turn scenario i s).nodes j).ended ≡ (node_at s.nodes j).ended
after_turn-ended scenario i s j may short = elim (cases_eq j i) [
  | inl same ↦
      subst (λ k. (node_at (after_turn scenario i s).nodes k).ended ≡ (node_at s.nodes k).ended) (sym same)
      (ap (λ (node : NodeState). node.ended) (after_turn-node scenario i s may short))
  | inr other ↦ ap (λ (node : NodeState). node.ended) (after_turn-other scenario i s j other)
]

-- ---- what an incarnation has read

-- later slots change nothing of it
pub ended_history-longer : (i : ℕ) (note : SlotNote) (trace : List SlotNote) (e : EndedIncarnation) → e.next ≤ length trace
    → ended_history i (note ∷ trace) e ≡ ended_history i trace e
unfolding ended_history
ended_history-longer i note trace e short =
    let more : suc (length trace) - e.next ≡ suc (length trace - e.next) = omega (arith, short) in
    ap (λ n. map (given i) (drop n (seen e.incarnation (note ∷ trace)))) more

-- ---- the trace

-- what stands in an older trace stands in the newer one
pub stands_later : {X : Type 0} (newer older : List X) (x : X) → Contains older x → Contains (newer ++ older) x
stands_later newer older x c =
    Contains-from_Among (newer ++ older) x (Among-append_right (λ y. y ≡ x) newer older (Among-from_Contains older x c))

pub drop-map : {X Y : Type 0} (n : ℕ) (f : X → Y) (xs : List X) → drop n (map f xs) ≡ map f (drop n xs)
drop-map zero f xs = refl
drop-map (suc n) f [] = refl
drop-map (suc n) f (x ∷ xs) = drop-map n f xs
