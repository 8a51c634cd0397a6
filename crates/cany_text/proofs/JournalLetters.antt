-- The letters in which a report writes a journal are read back as its steps.
use Rattle.std.proofs.Common.{◌≡◌, ℕ, suc, ◌<◌, ◌==◌, ◌&&◌, Bool, true, false, not, nat_lt, List, [], ◌∷◌, get_or, map, Option, Some, None, refl, ap, sym, ◌∙◌, arith}
use Rattle.std.specs.Prelude.{All, Ok}
use Rattle.std.specs.List.{list_all, range_with_len}
use Rattle.std.proofs.lemmas.Bool.{and_parts, not-true}
use Rattle.std.proofs.lemmas.Bool.Decides.{nat_tests}
use Rattle.std.proofs.lemmas.List.Elements.{All-head, All-tail}
use Rattle.std.proofs.lemmas.List.FromFn.{get_or-range_with_len, length-range_with_len}
use Rattle.std.proofs.lemmas.List.Sums.{AllPass-from_list_all}
use Rattle.cany_base.specs.declared.format.Format.{Format}
use Rattle.cany_base.specs.declared.format.Format.TheVariants.{One, Two}
use Rattle.cany_base.specs.declared.step.Step.{Step}
use Rattle.cany_base.specs.declared.step.Step.TheVariants.{Slot, Turn}
use Rattle.cany_base.specs.Layout.{layout}
use Rattle.cany_base.specs.Limits.{most_nodes}
use Rattle.cany_text.specs.JournalText.{node_of, step_of, steps_from}
use Rattle.cany_text.specs.ReportLines.{step_letter}

-- a step of a node that the format can have
abbrev pub IsStepIn : Format → Step → Type 0
IsStepIn format Slot = Unit {0}
IsStepIn format (Turn node) = node < (layout format).nodes

-- ---- the letters of the nodes, one by one

abbrev is_node : ℕ → Option ℕ → Bool
is_node node None = false
is_node node (Some other) = other == node

is_node-some : (node : ℕ) (o : Option ℕ) → is_node node o ≡ true → o ≡ Some node
is_node-some node None h = cc h
is_node-some node (Some other) h = ap Some (grind (arith, nat_tests))

-- the letter is not that of a slot, and writes the node
unfoldable is_read_back : ℕ → Bool
unfolding step_letter
is_read_back node = not (step_letter (Turn node) == 46) && is_node node (node_of (step_letter (Turn node)))

each_is_read_back : list_all is_read_back (range_with_len 0 64) ≡ true
unfolding is_read_back
each_is_read_back = refl

read_back : (node : ℕ) → node < most_nodes → is_read_back node ≡ true
read_back node below =
    let there : get_or (range_with_len 0 64) node 0 ≡ node = get_or-range_with_len 0 64 node 0 below ∙ omega arith in
    sym (ap is_read_back there)
    ∙ AllPass-from_list_all is_read_back (range_with_len 0 64) each_is_read_back node 0 (omega (arith, length-range_with_len 0 64, below))

letter_parts : (node : ℕ) → node < most_nodes → ((step_letter (Turn node) == 46) ≡ false) × (node_of (step_letter (Turn node)) ≡ Some node)
unfolding is_read_back
letter_parts node below =
    let parts = and_parts (not (step_letter (Turn node) == 46)) (is_node node (node_of (step_letter (Turn node)))) (read_back node below) in
    (not-true _ parts.0, is_node-some node _ parts.1)

-- ---- steps

nodes_of_any : (format : Format) (node : ℕ) → node < (layout format).nodes → node < most_nodes
nodes_of_any One node h = omega (arith, h)
nodes_of_any Two node h = h

read_turn : (format : Format) (node byte : ℕ) → (byte == 46) ≡ false → node_of byte ≡ Some node → nat_lt node (layout format).nodes ≡ true
    → step_of format byte ≡ Some (Turn node)
unfolding step_of
read_turn format node byte dot digit below = rw (dot, digit, below) refl

-- the letter of a step is read back as the step
pub step_of-letter : (format : Format) (step : Step) → IsStepIn format step → step_of format (step_letter step) ≡ Some step
unfolding step_of step_letter
step_of-letter format Slot h = refl
step_of-letter format (Turn node) h =
    let letter = letter_parts node (nodes_of_any format node h) in
    read_turn format node (step_letter (Turn node)) letter.0 letter.1 (grind (arith, nat_tests))

-- so the letters of steps are read back as the steps, wherever they stand
pub steps_from-letters : (format : Format) (place : ℕ) (steps : List Step) → All (IsStepIn format) steps
    → steps_from format place (map step_letter steps) ≡ Ok steps
unfolding steps_from
steps_from-letters format place [] all = refl
steps_from-letters format place (step ∷ steps) all =
    let first = step_of-letter format step (All-head (IsStepIn format) step steps all) in
    let others = steps_from-letters format (suc place) steps (All-tail (IsStepIn format) step steps all) in
    rw (first, others) refl
