use Rattle.cany_node.proofs.protocols.build_membership_and_relcan.Goals as goal

pub returns : goal.returns
returns c = record { membership = c.in_ok-membership.ensures; relcan = c.in_ok-relcan.ensures }
