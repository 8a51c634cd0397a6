use Rattle.cany_node.proofs.protocols.build_protocols.Goals as goal

pub returns : goal.returns
returns c = record { edcan = c.in_ok-edcan.ensures; others = c.in_ok-others.ensures }
