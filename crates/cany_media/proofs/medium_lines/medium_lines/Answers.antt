use Rattle.std.proofs.Common.{◌++◌, ◌∙◌, ap, sym}
use Rattle.std.proofs.lemmas.List.{take_all}
use Rattle.cany_log.proofs.WrittenFacts.{next_item}
use Rattle.cany_media.specs.MediaText.{medium_line, medium_lines}
use Rattle.cany_media.proofs.medium_lines.medium_lines.Goals as goal

pub loop-fault-init : goal.loop-fault-init
loop-fault-init c = c.new-text.ensures.items

pub loop-fault-preserved : goal.loop-fault-preserved
loop-fault-preserved c =
    c.in_ok-put_line.ensures
    ∙ ap (λ t. t ++ medium_line c.fault-item.result) c.loop-fault.invariant
    ∙ sym (next_item medium_line c.args.faults.now c.loop-fault.fault-index c.fault-item.result c.loop-fault-test.true c.fault-item.is)

pub returns : goal.returns
returns c = c.loop-fault.invariant ∙ ap medium_lines (take_all c.loop-fault.fault-index c.args.faults.now c.loop-fault-test.false)
