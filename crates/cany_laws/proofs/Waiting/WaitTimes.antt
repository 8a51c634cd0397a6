-- How often a frame is carried Clean: each node has a number of times left, which no step raises
-- but a restart, by one, and which falls at a node that sent the frame in a slot that carried it
-- Clean.
use Rattle.std.proofs.Common.{◌≡◌, ℕ, zero, suc, ◌+◌, ◌<◌, ◌≤◌, inl, inr, true, List, length, refl, sym, subst, arith}
use Rattle.std.specs.Prelude.{Some}
use Rattle.std.proofs.lemmas.Bool.{and_parts, cases_Bool}
use Rattle.cany_base.specs.declared.slot_note.SlotNote.{SlotNote}
use Rattle.cany_base.specs.declared.step.Step.{Step}
use Rattle.cany_base.specs.Frame.{FrameParts}
use Rattle.cany_base.specs.Scenario.{ScenarioParts}
use Rattle.cany_model.specs.Bus.Frames.{Identity, is_of}
use Rattle.cany_model.specs.Bus.Restart.{after_restarts}
use Rattle.cany_model.specs.Bus.Slot.{after_slot, carried, is_clean, script, slot_note_of}
use Rattle.cany_model.specs.Bus.State.{RunState, opening}
use Rattle.cany_model.specs.Runs.Incarnations.{incarnations}
use Rattle.cany_model.specs.Runs.Run.{after_turn, run}
use Rattle.cany_model.proofs.Among.{count-no, count-yes}
use Rattle.cany_model.proofs.Bus.Carried.{carried_frame}
use Rattle.cany_model.proofs.Bus.Notes.{note_of-offered, IsOffered}
use Rattle.cany_model.proofs.Bus.Restarts.{after_restarts-trace}
use Rattle.cany_model.proofs.Bus.States.{runs_within}
use Rattle.cany_model.proofs.Runs.Runs.{IsOrderly, MaySlot, orderly}
use Rattle.cany_model.proofs.Runs.Journals.{run_none}
use Rattle.cany_model.proofs.Runs.Steps.{MayTurn, after_slot-trace, after_turn-trace}
use Rattle.cany_model.proofs.Timed.Common.Counting.{total}
use Rattle.cany_laws.specs.Carried.{incarnations_of_first, times_clean}
use Rattle.cany_laws.proofs.KeptAlongJournal.{kept_always}
use Rattle.cany_laws.proofs.Waiting.WaitSlots.{is_clean_frame}
use Rattle.cany_laws.proofs.Waiting.WaitTotals.{total_both, total_less, total_most}

-- how many incarnations node i has had
abbrev pub lives : RunState → ℕ → ℕ
lives s i = length (incarnations s i)

-- What is shown of the times that are left at each node, in states of which something is known.
pub record IsLeft (scenario : ScenarioParts) (x : Identity) (Q : RunState → Type 0) (left : RunState → ℕ → ℕ) : Type 0 where
  pub slot : (s : RunState) → IsOrderly scenario.params.nodes s → MaySlot scenario s → Q s → (i : ℕ) → i < scenario.params.nodes
      → left (after_slot (script scenario.rules) s) i ≤ left s i
  pub sent : (s : RunState) → IsOrderly scenario.params.nodes s → MaySlot scenario s → Q s → (f : FrameParts)
      → (slot_note_of (script scenario.rules) s).frame ≡ Some f → is_of x f ≡ true → is_clean (slot_note_of (script scenario.rules) s).verdict ≡ true
      → (o : IsOffered s.nodes f) → left (after_slot (script scenario.rules) s) o.node < left s o.node
  pub slot_lives : (s : RunState) → IsOrderly scenario.params.nodes s → (i : ℕ) → i < scenario.params.nodes
      → lives (after_slot (script scenario.rules) s) i ≡ lives s i
  pub restarts : (s : RunState) (i : ℕ) → i < scenario.params.nodes
      → left (after_restarts scenario s) i + lives s i ≤ left s i + lives (after_restarts scenario s) i
  pub turn : (s : RunState) (i : ℕ) → IsOrderly scenario.params.nodes s → MayTurn s i → Q s → (j : ℕ) → j < scenario.params.nodes
      → left (after_turn scenario i s) j ≤ left s j
  pub turn_lives : (s : RunState) (i : ℕ) → IsOrderly scenario.params.nodes s → MayTurn s i → (j : ℕ) → j < scenario.params.nodes
      → lives (after_turn scenario i s) j ≡ lives s j

pub below_is : (n : ℕ) (s : RunState) → incarnations_of_first s n ≡ total (lives s) n
unfolding incarnations_of_first total
below_is zero s = refl
below_is (suc n) s = omega (arith, below_is n s)

total_same : (f g : ℕ → ℕ) (n : ℕ) → ((i : ℕ) → i < n → f i ≡ g i) → total f n ≡ total g n
unfolding total
total_same f g zero h = refl
total_same f g (suc n) h =
    let here = h n (omega arith) in
    let rest = total_same f g n (λ i below. h i (omega (arith, below))) in
    omega (arith, here, rest)

module _ (scenario : ScenarioParts) (x : Identity) (Q : RunState → Type 0) (left : RunState → ℕ → ℕ) (is : IsLeft scenario x Q left) (more : ℕ) where
  abbrev n : ℕ
  n = scenario.params.nodes

  -- the times that it was carried and those that are left, beside the incarnations
  abbrev Few : RunState → Type 0
  Few s = times_clean x s.trace + total (left s) n ≤ total (lives s) n + more

  few_slot : (s : RunState) → IsOrderly n s → MaySlot scenario s → Q s → Few s → Few (after_slot (script scenario.rules) s)
  few_slot s o may q h =
      let t : RunState = after_slot (script scenario.rules) s in
      let note : SlotNote = slot_note_of (script scenario.rules) s in
      let same = total_same (lives t) (lives s) n (is.slot_lives s o) in
      subst (λ trace. times_clean x trace + total (left t) n ≤ total (lives t) n + more) (sym (after_slot-trace (script scenario.rules) s))
      (elim (cases_Bool (is_clean_frame x note)) [
        | inr other ↦
            let most = total_most (left t) (left s) n (is.slot s o may q) in
            omega (arith, h, same, most, count-no (is_clean_frame x) note s.trace other)
        | inl clean ↦
            let parts = and_parts (carried (is_of x) note) (is_clean note.verdict) clean in
            let f = carried_frame (is_of x) note parts.0 in
            let offered = note_of-offered (script scenario.rules) s f.what f.frame in
            let less = total_less (left t) (left s) n (is.slot s o may q) offered.node
            (omega (arith, runs_within s.nodes offered.node offered.running, o.count))
            (is.sent s o may q f.what f.frame f.passes parts.1 offered) in
            omega (arith, h, same, less, count-yes (is_clean_frame x) note s.trace clean)
      ])

  few_restarts : (s : RunState) → Few s → Few (after_restarts scenario s)
  few_restarts s h =
      let t : RunState = after_restarts scenario s in
      let both = total_both (left t) (lives s) (left s) (lives t) n (is.restarts s) in
      subst (λ trace. times_clean x trace + total (left t) n ≤ total (lives t) n + more) (sym (after_restarts-trace scenario s)) (omega (arith, h, both))

  few_turn : (s : RunState) (i : ℕ) → IsOrderly n s → MayTurn s i → Q s → Few s → Few (after_turn scenario i s)
  few_turn s i o may q h =
      let t : RunState = after_turn scenario i s in
      let most = total_most (left t) (left s) n (is.turn s i o may q) in
      let same = total_same (lives t) (lives s) n (is.turn_lives s i o may) in
      subst (λ trace. times_clean x trace + total (left t) n ≤ total (lives t) n + more) (sym (after_turn-trace scenario i s)) (omega (arith, h, most, same))

  -- so it is carried at most so often
  pub few_times : ((journal : List Step) → Q (run scenario journal)) → Few (opening n) → (journal : List Step)
      → times_clean x (run scenario journal).trace ≤ incarnations_of_first (run scenario journal) n + more
  few_times known few journal =
      let h = kept_always scenario Few (record {
        slot = λ front may h.
            few_restarts (after_slot (script scenario.rules) (run scenario front)) (few_slot (run scenario front) (orderly scenario front) may (known front) h);
        turn = λ front i may h. few_turn (run scenario front) i (orderly scenario front) may (known front) h;
      }) few journal in
      omega (arith, h, below_is n (run scenario journal))
