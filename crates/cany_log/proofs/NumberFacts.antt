-- How long the numbers of nodes and of their incarnations are.
use Rattle.std.proofs.Common.{◌≡◌, ℕ, ◌<◌, ◌≤◌, ◌==◌, Bool, true, false, List, [], ◌++◌, length, length-append, append_assoc, sym, arith}
use Rattle.std.specs.Prelude.{if◌then◌else◌, codes, decimal}
use Rattle.std.proofs.lemmas.Fmt.{length-decimal-le}
use Rattle.cany_text.specs.ReportLines.{node_text}

pub node_digits : (node : ℕ) → node < 64 → length (decimal node) ≤ 2
node_digits node small = length-decimal-le 2 node (omega arith) (omega arith) (omega arith)

pub inc_digits : (inc : ℕ) → inc < 256 → length (decimal inc) ≤ 3
inc_digits inc small = length-decimal-le 3 inc (omega arith) (omega arith) (omega arith)

-- the number of an incarnation, where it is not the first
abbrev pub inc_text : ℕ → List ℕ
inc_text inc = if inc == 0 then [] else codes "/" ++ decimal inc

pub inc_text-short : (inc : ℕ) → inc < 256 → length (inc_text inc) ≤ 4
inc_text-short inc few = of_test (inc == 0)
  where
    of_test : (b : Bool) → length (if b then [] else codes "/" ++ decimal inc) ≤ 4
    of_test true = omega arith
    of_test false = omega (arith, inc_digits inc few)

pub node_text-short : (node inc : ℕ) → node < 64 → inc < 256 → length (node_text node inc) ≤ 6
unfolding node_text
node_text-short node inc small few = omega (arith, length-append (decimal node) (inc_text inc), node_digits node small, inc_text-short inc few)

pub node_text-put : (node inc : ℕ) (row : List ℕ) → decimal node ++ (inc_text inc ++ row) ≡ node_text node inc ++ row
unfolding node_text
node_text-put node inc row = sym (append_assoc (decimal node) (inc_text inc) row)
