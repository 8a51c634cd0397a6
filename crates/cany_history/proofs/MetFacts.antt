-- Vectors that were met, and sets that are part of one another.
use Rattle.std.specs.Prelude.{nat_lt}
use Rattle.std.proofs.Common.{◌≡◌, ℕ, ◌≤◌, true, Option, Some, None, ◌==◌, unwrap_or, IfSome, ap, ◌∙◌, arith}
use Rattle.std.proofs.lemmas.Bool.{eq-eqb}
use Rattle.cany_base.specs.Limits.{most_nodes}
use Rattle.cany_base.specs.Nodes.{Nodes, AllBelow, has}
use Rattle.cany_base.specs.Params.{Parameters}
use Rattle.cany_base.proofs.SetFacts.{below_meet, meet_both, set_where}
use Rattle.cany_model.specs.Rules.Notices.{IsPart}
use Rattle.cany_model.specs.Rules.Vectors.{everybody, met_with}
use Rattle.cany_model.proofs.Rules.Site.KnowledgeNodes.{everybody_below}

-- ---- a vector that was met

-- the set of all nodes of the bus
pub all_nodes : (p : Parameters) (nodes : Nodes) (n : ℕ) → n ≡ p.nodes → p.nodes ≤ most_nodes → AllBelow n nodes
    → ((r : ℕ) → has nodes r ≡ nat_lt r n)
    → nodes ≡ everybody p
all_nodes p nodes n is few below same =
    set_where nodes (λ r. nat_lt r p.nodes) (λ r h. omega (arith, below r h, is, few)) (λ r. same r ∙ ap (nat_lt r) is)

pub met_with_below : (p : Parameters) (own : Option Nodes) (got : Nodes) → IfSome own (AllBelow p.nodes)
    → AllBelow p.nodes (met_with p own got)
met_with_below p None got below = below_meet p.nodes (everybody p) got (everybody_below p)
met_with_below p (Some own) got below = below_meet p.nodes own got below

-- ---- sets that are part of one another

pub bits_same : (a b : Nodes) → a ≡ b → (a.bits == b.bits) ≡ true
bits_same a b h = eq-eqb a.bits b.bits (ap (λ (n : Nodes). n.bits) h)

-- a set that was met is part of each of the two
pub met_part_got : (p : Parameters) (own : Option Nodes) (got : Nodes) → IsPart (met_with p own got) got
met_part_got p own got r h = (meet_both (unwrap_or own (everybody p)) got r h).1

pub met_part_own : (p : Parameters) (own got : Nodes) → IsPart (met_with p (Some own) got) own
met_part_own p own got r h = (meet_both own got r h).0
