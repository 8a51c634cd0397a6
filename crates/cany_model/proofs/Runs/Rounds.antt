-- The round robin journal, step by step: the steps of one slot as far as they were made, and one
-- round after another.
use Rattle.std.specs.Prelude.{◌≡◌, ℕ, zero, suc, ◌+◌, ◌≤◌, ◌≢◌, Bool, true, false, cond, nat_lt, List, [], ◌∷◌, ◌++◌, length, map, filter, refl}
use Rattle.std.specs.Cmp.{both_ways}
use Rattle.std.specs.List.{range_with_len}
use Rattle.std.proofs.Common.{sym, ap, ◌∙◌, subst, arith, append_assoc, add-one}
use Rattle.std.proofs.lemmas.Bool.{and_from, and_parts, lt-ltb, ltb-true}
use Rattle.std.proofs.lemmas.List.{map-append, append-nil}
use Rattle.std.proofs.lemmas.List.Elements.{filter-append}
use Rattle.cany_base.specs.declared.step.Step.{Step}
use Rattle.cany_base.specs.declared.step.Step.TheVariants.{Slot, Turn}
use Rattle.cany_base.specs.Scenario.{ScenarioParts}
use Rattle.cany_model.specs.Runs.RoundRobin.{is_to_read, reading_nodes, round, rounds}
use Rattle.cany_model.specs.Runs.Run.{run, run_from, after_step, reply, proceed, is_done, after_turn, is_legal_from, IsLegal}
use Rattle.cany_model.specs.Bus.State.{NodeState, RunState, node_at, opening, runs}
use Rattle.cany_model.proofs.Runs.Journals.{run_none, run_push, run_then, legal_first, legal_next}
use Rattle.cany_model.proofs.Runs.Runs.{orderly, turn_done, turn_is_done}
use Rattle.cany_model.proofs.Bus.States.{runs_within}
use Rattle.cany_model.proofs.Runs.Steps.{MayTurn, after_turn-other}

-- a turn leaves every other node as it is
turn_keeps : (scenario : ScenarioParts) (s : RunState) (i j : ℕ) → j ≢ i → node_at (after_step scenario s (Turn i)).nodes j ≡ node_at s.nodes j
unfolding after_step proceed
turn_keeps scenario s i j other =
    elim (is_done (reply scenario s (Turn i))) as (λ b. node_at (cond b (after_turn scenario i s) s).nodes j ≡ node_at s.nodes j) [
      | true ↦ after_turn-other scenario i s j other
      | false ↦ refl
    ]

-- ---- the turns of a round

-- the turns of the nodes below n that pass the test
abbrev pub turns : (ℕ → Bool) → ℕ → List Step
turns test n = map (λ i. Turn i) (filter test (range_with_len 0 n))

range_from : (a n : ℕ) → range_with_len a (suc n) ≡ range_with_len a n ++ (a + n) ∷ []
range_from a zero = let e : a ≡ a + 0 = omega arith in ap (λ x. x ∷ []) e
range_from a (suc n) =
    let e : a + 1 + n ≡ a + suc n = omega arith in
    ap (λ t. a ∷ t) (range_from (a + 1) n ∙ ap (λ x. range_with_len (a + 1) n ++ x ∷ []) e)

one_turn : (b : Bool) (n : ℕ) → map (λ i. Turn i) (cond b (n ∷ []) []) ≡ cond b (Turn n ∷ []) []
one_turn true n = refl
one_turn false n = refl

turns_more : (test : ℕ → Bool) (n : ℕ) → turns test (n + 1) ≡ turns test n ++ cond (test n) (Turn n ∷ []) []
turns_more test n =
    let e : 0 + n ≡ n = omega arith in
    let r : range_with_len 0 (n + 1) ≡ range_with_len 0 n ++ n ∷ [] = rw add-one (range_from 0 n ∙ ap (λ x. range_with_len 0 n ++ x ∷ []) e) in
    ap (λ t. map (λ i. Turn i) (filter test t)) r
    ∙ ap (map (λ i. Turn i)) (filter-append test (range_with_len 0 n) (n ∷ []))
    ∙ map-append (λ i. Turn i) (filter test (range_with_len 0 n)) (filter test (n ∷ []))
    ∙ ap (λ t. turns test n ++ t) (one_turn (test n) n)

-- ---- a round so far

-- whether node k has something to read in the state to which the journal leads
abbrev pub to_read : ScenarioParts → List Step → ℕ → Bool
to_read scenario journal k = is_to_read (node_at (run scenario journal).nodes k)

-- the slot, and the turns of the nodes below i that have something to read after it; the others are
-- as the slot left them
pub record RoundSoFar (scenario : ScenarioParts) (before now : List Step) (i : ℕ) : Type 0 where
  pub steps : now ≡ before ++ Slot ∷ turns (to_read scenario (before ++ Slot ∷ [])) i
  pub same : (k : ℕ) → i ≤ k → node_at (run scenario now).nodes k ≡ node_at (run scenario (before ++ Slot ∷ [])).nodes k

pub round_begins : (scenario : ScenarioParts) (before now : List Step) → now ≡ before ++ Slot ∷ [] → RoundSoFar scenario before now 0
round_begins scenario before now e = record { steps = e; same = λ k from. ap (λ j. node_at (run scenario j).nodes k) e }

-- the next node has something to read exactly where it has after the slot
same_test : (scenario : ScenarioParts) (before now : List Step) (i : ℕ) → RoundSoFar scenario before now i
    → to_read scenario now i ≡ to_read scenario (before ++ Slot ∷ []) i
same_test scenario before now i so = ap (λ (node : NodeState). is_to_read node) (so.same i (omega arith))

pub round_turn : (scenario : ScenarioParts) (before now next : List Step) (i : ℕ) → RoundSoFar scenario before now i
    → to_read scenario now i ≡ true → next ≡ now ++ Turn i ∷ [] → RoundSoFar scenario before next (i + 1)
round_turn scenario before now next i so reads e =
    let test : ℕ → Bool = to_read scenario (before ++ Slot ∷ []) in
    let more : turns test i ++ Turn i ∷ [] ≡ turns test (i + 1) =
    ap (λ b. turns test i ++ cond b (Turn i ∷ []) []) (sym (sym (same_test scenario before now i so) ∙ reads)) ∙ sym (turns_more test i) in
    record {
      steps = e ∙ ap (λ t. t ++ Turn i ∷ []) so.steps ∙ append_assoc before (Slot ∷ turns test i) (Turn i ∷ []) ∙ ap (λ t. before ++ Slot ∷ t) more;
      same = λ k from.
          ap (λ j. node_at (run scenario j).nodes k) e
          ∙ ap (λ (t : RunState). node_at t.nodes k) (run_push scenario (opening scenario.params.nodes) now (Turn i))
          ∙ turn_keeps scenario (run scenario now) i k (λ same. absurd (omega arith)) ∙ so.same k (omega arith);
    }

pub round_skips : (scenario : ScenarioParts) (before now : List Step) (i : ℕ) → RoundSoFar scenario before now i
    → to_read scenario now i ≡ false → RoundSoFar scenario before now (i + 1)
round_skips scenario before now i so skips =
    let test : ℕ → Bool = to_read scenario (before ++ Slot ∷ []) in
    let more : turns test i ≡ turns test (i + 1) =
    sym (append-nil (turns test i)) ∙ ap (λ b. turns test i ++ cond b (Turn i ∷ []) []) (sym (sym (same_test scenario before now i so) ∙ skips)) ∙ sym (turns_more test i) in
    record { steps = so.steps ∙ ap (λ t. before ++ Slot ∷ t) more; same = λ k from. so.same k (omega arith) }

-- all turns of the slot
pub round_ends : (scenario : ScenarioParts) (before now : List Step) (n : ℕ) → RoundSoFar scenario before now n
    → n ≡ scenario.params.nodes → now ≡ before ++ round scenario (run scenario before)
unfolding round
round_ends scenario before now n so long =
    let s : RunState = run scenario (before ++ Slot ∷ []) in
    so.steps
    ∙ ap (λ m. before ++ Slot ∷ turns (to_read scenario (before ++ Slot ∷ [])) m) (long ∙ sym (orderly scenario (before ++ Slot ∷ [])).count)
    ∙ ap (λ (t : RunState). before ++ Slot ∷ map (λ i. Turn i) (reading_nodes t.nodes)) (run_push scenario (opening scenario.params.nodes) before Slot)

-- ---- which steps of a round are done

pub round_slot_done : (scenario : ScenarioParts) (before : List Step) → IsLegal scenario (before ++ round scenario (run scenario before))
    → is_done (reply scenario (run scenario before) Slot) ≡ true
unfolding round
round_slot_done scenario before legal = legal_next scenario (opening scenario.params.nodes) before Slot _ legal

-- a node with something to read may make its turn
pub may_read : (s : RunState) (i : ℕ) → is_to_read (node_at s.nodes i) ≡ true → MayTurn s i
may_read s i reads =
    let node : NodeState = node_at s.nodes i in
    let parts = and_parts (runs node) (nat_lt 0 node.unread) reads in
    record { there = runs_within s.nodes i parts.0; running = parts.0; unread = ltb-true 0 node.unread parts.1 }

-- and no other node may
pub turn_exactly : (scenario : ScenarioParts) (journal : List Step) (i : ℕ)
    → is_done (reply scenario (run scenario journal) (Turn i)) ≡ to_read scenario journal i
turn_exactly scenario journal i =
    let s : RunState = run scenario journal in
    let node : NodeState = node_at s.nodes i in
    let count : length s.nodes ≡ scenario.params.nodes = (orderly scenario journal).count in
    both_ways (is_done (reply scenario s (Turn i))) (to_read scenario journal i)
    (λ done.
    let may : MayTurn s i = turn_done scenario s i count done in
    and_from (runs node) (nat_lt 0 node.unread) may.running (lt-ltb 0 node.unread may.unread))
    (λ reads. turn_is_done scenario s i count (may_read s i reads))

-- ---- one round after another

-- what is left of the round robin journal
pub rounds_next : (scenario : ScenarioParts) (journal next : List Step) (left n : ℕ) → left ≡ suc n → next ≡ journal ++ round scenario (run scenario journal)
    → next ++ rounds scenario n (run scenario next) ≡ journal ++ rounds scenario left (run scenario journal)
unfolding rounds
rounds_next scenario journal next left n e is =
    let s : RunState = run scenario journal in
    let then : run scenario next ≡ run_from scenario s (round scenario s) = ap (run scenario) is ∙ run_then scenario (opening scenario.params.nodes) journal (round scenario s) in
    ap (λ j. j ++ rounds scenario n (run scenario next)) is
    ∙ append_assoc journal (round scenario s) (rounds scenario n (run scenario next))
    ∙ ap (λ (t : RunState). journal ++ (round scenario s ++ rounds scenario n t)) then
    ∙ ap (λ k. journal ++ rounds scenario k s) (sym e)

pub rounds_none : (scenario : ScenarioParts) (journal : List Step) (n : ℕ) → n ≡ 0 → journal ++ rounds scenario n (run scenario journal) ≡ journal
unfolding rounds
rounds_none scenario journal n e = ap (λ k. journal ++ rounds scenario k (run scenario journal)) e ∙ append-nil journal

pub rounds_opening : (scenario : ScenarioParts) (journal : List Step) (n : ℕ) → journal ≡ [] → journal ++ rounds scenario n (run scenario journal) ≡ rounds scenario n (opening scenario.params.nodes)
rounds_opening scenario journal n e =
    ap (λ j. j ++ rounds scenario n (run scenario j)) e ∙ ap (rounds scenario n) (run_none scenario (opening scenario.params.nodes))

-- the next round of a legal journal is legal
pub next_round_legal : (scenario : ScenarioParts) (journal whole : List Step) (left n : ℕ) → left ≡ suc n → IsLegal scenario whole
    → journal ++ rounds scenario left (run scenario journal) ≡ whole → IsLegal scenario (journal ++ round scenario (run scenario journal))
unfolding rounds
next_round_legal scenario journal whole left n e legal is =
    let s : RunState = run scenario journal in
    let later : List Step = rounds scenario n (run_from scenario s (round scenario s)) in
    let parts : (journal ++ round scenario s) ++ later ≡ whole =
    append_assoc journal (round scenario s) later ∙ ap (λ k. journal ++ rounds scenario k s) (sym e) ∙ is in
    legal_first scenario (opening scenario.params.nodes) (journal ++ round scenario s) later
    (subst (λ j. is_legal_from scenario (opening scenario.params.nodes) j ≡ true) (sym parts) legal)
