-- When a journal repeats itself.
use Rattle.std.proofs.Common.{◌≡◌, ℕ, zero, suc, ◌+◌, ◌*◌, ◌-◌, ◌≤◌, Bool, true, false, cond, List, [], ◌∷◌, ◌++◌, length, map, take, refl, sym, ap, ◌∙◌, arith, append_assoc}
use Rattle.std.specs.Prelude.{filter}
use Rattle.std.specs.List.{range_with_len}
use Rattle.std.proofs.lemmas.List.{append-nil, drop-append-le, drop_all, length-append, length-map, take-append-le, take_all}
use Rattle.std.proofs.lemmas.List.FromFn.{length-range_with_len}
use Rattle.cany_base.specs.declared.step.Step.{Step}
use Rattle.cany_base.specs.declared.step.Step.TheVariants.{Slot, Turn}
use Rattle.cany_base.specs.Scenario.{ScenarioParts}
use Rattle.cany_model.specs.Bus.State.{RunState, node_at, opening}
use Rattle.cany_model.specs.Runs.RoundRobin.{is_to_read, round, rounds, round_robin}
use Rattle.cany_model.specs.Runs.Run.{after_step, run}
use Rattle.cany_model.proofs.Runs.Journals.{run_none, run_push, run_then}
use Rattle.cany_model.proofs.Runs.Runs.{orderly}
use Rattle.cany_world.specs.Journal.{Repeats}

-- of which nothing is known
pub repeats_after_none : (journal : List Step) → Repeats 0 journal
repeats_after_none journal = sym (take_all (length journal - 0) journal (omega arith))

-- ---- a row of steps, so many times

unfoldable copies : ℕ → List Step → List Step
copies zero row = []
copies (suc n) row = row ++ copies n row

copies_turned : (n : ℕ) (row : List Step) → row ++ copies n row ≡ copies n row ++ row
unfolding copies
copies_turned zero row = append-nil row
copies_turned (suc n) row = ap (λ l. row ++ l) (copies_turned n row) ∙ sym (append_assoc row (copies n row) row)

copies_repeat : (n : ℕ) (row : List Step) → Repeats (length row) (copies n row)
unfolding copies
copies_repeat zero row = drop_all (length row) [] (omega arith) ∙ sym (take_all (0 - length row) [] (omega arith))
copies_repeat (suc n) row =
    let rest : List Step = copies n row in
    let left : length (row ++ rest) - length row ≡ length rest = omega (arith, length-append row rest) in
    drop-append-le (length row) row rest (omega arith)
    ∙ ap (λ l. l ++ rest) (drop_all (length row) row (omega arith))
    ∙ sym (take_all (length rest) rest (omega arith))
    ∙ sym (take-append-le (length rest) rest row (omega arith))
    ∙ ap (λ l. take (length rest) l) (sym (copies_turned n row))
    ∙ ap (λ k. take k (row ++ rest)) (sym left)

-- ---- whole rounds

-- the slot, and a turn of each node
abbrev whole_round : ℕ → List Step
whole_round nodes = Slot ∷ map (λ i. Turn i) (range_with_len 0 nodes)

filter_fewer : (test : ℕ → Bool) (xs : List ℕ) → length (filter test xs) ≤ length xs
filter_fewer test [] = omega arith
filter_fewer test (x ∷ xs) = elim (test x) as (λ b. length (cond b (x ∷ filter test xs) (filter test xs)) ≤ suc (length xs)) [
  | true ↦ omega (arith, filter_fewer test xs)
  | false ↦ omega (arith, filter_fewer test xs)
]

-- a list of which none is left out
filter_whole : (test : ℕ → Bool) (xs : List ℕ) → length xs ≤ length (filter test xs) → filter test xs ≡ xs
filter_whole test [] long = refl
filter_whole test (x ∷ xs) long = go (test x) (filter_whole test xs) long
  where
    go : (b : Bool) → (length xs ≤ length (filter test xs) → filter test xs ≡ xs) → suc (length xs) ≤ length (cond b (x ∷ filter test xs) (filter test xs))
        → cond b (x ∷ filter test xs) (filter test xs) ≡ x ∷ xs
    go true others long = ap (λ l. x ∷ l) (others (omega (arith, long)))
    go false others long = absurd (omega (arith, long, filter_fewer test xs))

-- the nodes that have something to read after the slot are at most all
round_nodes : (scenario : ScenarioParts) (journal : List Step) → length (after_step scenario (run scenario journal) Slot).nodes ≡ scenario.params.nodes
round_nodes scenario journal =
    ap (λ (s : RunState). length s.nodes) (sym (run_push scenario (opening scenario.params.nodes) journal Slot))
    ∙ (orderly scenario (journal ++ Slot ∷ [])).count

round_short : (scenario : ScenarioParts) (journal : List Step) → length (round scenario (run scenario journal)) ≤ scenario.params.nodes + 1
unfolding round
round_short scenario journal =
    let s : RunState = after_step scenario (run scenario journal) Slot in
    let test : ℕ → Bool = λ i. is_to_read (node_at s.nodes i) in
    let all : List ℕ = range_with_len 0 (length s.nodes) in
    omega (
      arith,
      round_nodes scenario journal,
      length-map (filter test all) (λ i. Turn i),
      filter_fewer test all,
      length-range_with_len 0 (length s.nodes),
    )

round_is_whole : (scenario : ScenarioParts) (journal : List Step) → scenario.params.nodes + 1 ≤ length (round scenario (run scenario journal))
    → round scenario (run scenario journal) ≡ whole_round scenario.params.nodes
unfolding round
round_is_whole scenario journal long =
    let s : RunState = after_step scenario (run scenario journal) Slot in
    let test : ℕ → Bool = λ i. is_to_read (node_at s.nodes i) in
    let all : List ℕ = range_with_len 0 (length s.nodes) in
    let none_left_out : filter test all ≡ all =
    filter_whole test all (omega (
      arith,
      long,
      round_nodes scenario journal,
      length-map (filter test all) (λ i. Turn i),
      length-range_with_len 0 (length s.nodes),
    )) in
    ap (λ l. Slot ∷ map (λ i. Turn i) l) none_left_out
    ∙ ap (λ n. Slot ∷ map (λ i. Turn i) (range_with_len 0 n)) (round_nodes scenario journal)

-- the state after a round, and the rounds after it
after_round : (scenario : ScenarioParts) (journal : List Step) (n : ℕ)
    → rounds scenario (suc n) (run scenario journal)
    ≡ round scenario (run scenario journal) ++ rounds scenario n (run scenario (journal ++ round scenario (run scenario journal)))
unfolding rounds
after_round scenario journal n =
    let s : RunState = run scenario journal in
    ap (λ (t : RunState). round scenario s ++ rounds scenario n t) (sym (run_then scenario (opening scenario.params.nodes) journal (round scenario s)))

rounds_short : (scenario : ScenarioParts) (journal : List Step) (n : ℕ) → length (rounds scenario n (run scenario journal)) ≤ n * (scenario.params.nodes + 1)
unfolding rounds
rounds_short scenario journal zero = omega arith
rounds_short scenario journal (suc n) =
    let first : List Step = round scenario (run scenario journal) in
    let rest : List Step = rounds scenario n (run scenario (journal ++ first)) in
    omega (
      arith,
      ap (λ (l : List Step). length l) (after_round scenario journal n),
      length-append first rest,
      round_short scenario journal,
      rounds_short scenario (journal ++ first) n,
    )

-- so many steps are only in whole rounds
rounds_are_whole : (scenario : ScenarioParts) (journal : List Step) (n : ℕ) → length (rounds scenario n (run scenario journal)) ≡ n * (scenario.params.nodes + 1)
    → rounds scenario n (run scenario journal) ≡ copies n (whole_round scenario.params.nodes)
unfolding rounds copies
rounds_are_whole scenario journal zero long = refl
rounds_are_whole scenario journal (suc n) long =
    let first : List Step = round scenario (run scenario journal) in
    let rest : List Step = rounds scenario n (run scenario (journal ++ first)) in
    let both : length first + length rest ≡ suc n * (scenario.params.nodes + 1) =
    sym (length-append first rest) ∙ ap (λ (l : List Step). length l) (sym (after_round scenario journal n)) ∙ long in
    let most = rounds_short scenario (journal ++ first) n in
    let one : first ≡ whole_round scenario.params.nodes = round_is_whole scenario journal (omega (arith, both, most)) in
    let others : rest ≡ copies n (whole_round scenario.params.nodes) =
    rounds_are_whole scenario (journal ++ first) n (omega (arith, both, most, round_short scenario journal)) in
    after_round scenario journal n ∙ ap (λ l. l ++ rest) one ∙ ap (λ l. whole_round scenario.params.nodes ++ l) others

-- a full journal of round robin is the same after each round
pub full_repeats : (scenario : ScenarioParts) (journal : List Step) → journal ≡ round_robin scenario
    → length journal ≡ scenario.params.slots * (scenario.params.nodes + 1) → Repeats (scenario.params.nodes + 1) journal
full_repeats scenario journal is full =
    let nodes : ℕ = scenario.params.nodes in
    let slots : ℕ = scenario.params.slots in
    let from_none : journal ≡ rounds scenario slots (run scenario []) =
    is ∙ ap (rounds scenario slots) (sym (run_none scenario (opening nodes))) in
    let whole : journal ≡ copies slots (whole_round nodes) =
    from_none ∙ rounds_are_whole scenario [] slots (ap (λ (l : List Step). length l) (sym from_none) ∙ full) in
    let long : length (whole_round nodes) ≡ nodes + 1 =
    omega (arith, length-map (range_with_len 0 nodes) (λ i. Turn i), length-range_with_len 0 nodes) in
    rw (whole, sym long) (copies_repeat slots (whole_round nodes))
