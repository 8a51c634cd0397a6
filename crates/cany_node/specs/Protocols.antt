-- The protocols of a node before its first turn.
use Rattle.std.specs.Prelude.{ℕ, [], replicate}
use Rattle.cany_base.specs.declared.notice.NoticeKind.TheVariants.{Idle}
use Rattle.cany_base.specs.Scenario.{ScenarioParts}
use Rattle.cany_edcan.specs.Edcan.{IsEdcanOf}
use Rattle.cany_relcan.specs.Relcan.{IsRelcanOf}
use Rattle.cany_totcan.specs.Totcan.{IsTotcanOf}
use Rattle.cany_node.specs.Membership.{IsMembershipAtRest}
use Rattle.cany_node.specs.declared.protocols.AllButEdcan.{AllButEdcan}
use Rattle.cany_node.specs.declared.protocols.Protocols.{Protocols}
use Rattle.cany_node.specs.declared.protocols.MembershipAndRelcan.{MembershipAndRelcan}

-- what is kept of the site is that of node i after any number of idle slots, whoever its members
-- are, and so is RELCAN
pub record AreMembershipAndRelcanAtRest (scenario : ScenarioParts) (i : ℕ) (p : MembershipAndRelcan) : Type 0 where
  pub membership : IsMembershipAtRest scenario i p.membership
  pub relcan : (n : ℕ) → IsRelcanOf scenario i (replicate n Idle) p.relcan

-- and so is TOTCAN
pub record AreAllButEdcanAtRest (scenario : ScenarioParts) (i : ℕ) (p : AllButEdcan) : Type 0 where
  pub totcan : (n : ℕ) → IsTotcanOf scenario i (replicate n Idle) [] 0 p.totcan
  pub others : AreMembershipAndRelcanAtRest scenario i p.others

pub record AreAtRest (scenario : ScenarioParts) (i : ℕ) (p : Protocols) : Type 0 where
  pub edcan : (n : ℕ) → IsEdcanOf scenario i (replicate n Idle) p.edcan
  pub others : AreAllButEdcanAtRest scenario i p.others
