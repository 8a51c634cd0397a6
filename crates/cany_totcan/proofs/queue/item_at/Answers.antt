use Rattle.std.proofs.Common.{◌∙◌}
use Rattle.cany_totcan.proofs.OpenSetFacts.{item_is}
use Rattle.cany_totcan.proofs.queue.item_at.Goals as goal

pub returns : goal.returns
returns c = c.copied.ensures ∙ item_is c.args.entries.now.items c.args.index c.get.result c.get.ensures.item.3
