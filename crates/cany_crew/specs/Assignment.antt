-- What a contract sees of the assignment of a node.
use Rattle.std.specs.Prelude.{ℕ, Option}

-- the assignment of a node: the node, what its gate counts and for which slot it refused a pass
-- last, and for which slot it refused one in the work
pub record AssignmentParts : Type 0 where
  pub node : ℕ
  pub refusals : ℕ
  pub refused_at : Option ℕ
  pub refused : Option ℕ
