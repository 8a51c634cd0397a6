use Rattle.cany_node.proofs.protocols.build_all_but_edcan.Goals as goal

pub returns : goal.returns
returns c = record { totcan = c.in_ok-totcan.ensures; others = c.in_ok-others.ensures }
