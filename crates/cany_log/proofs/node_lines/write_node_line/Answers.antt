use Rattle.cany_log.specs.Fields.{texts_of}
use Rattle.cany_log.proofs.NodeLineFacts.{node_line-is}
use Rattle.cany_log.proofs.node_lines.write_node_line.Goals as goal

pub returns : goal.returns
returns g c =
    rw (node_line-is c.args.node c.args.inc c.args.span.now c.if_later.result c.if_later-2.result (texts_of c.stop_field-stopped.result)
    (rw c.from-2.ensures at c.if_later.ensures) c.if_later-2.ensures c.stop_field-stopped.ensures.texts)
    (rw (c.from.ensures, c.get.ensures.value) at c.write_line.ensures)
