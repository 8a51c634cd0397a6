use Rattle.cany_base.proofs.PayloadFacts.{row_of-get}
use Rattle.cany_base.proofs.payload.Payload.byte.Goals as goal

pub returns : goal.returns
returns c = rw c.row.ensures.row (row_of-get c.args.self.now c.args.i c.requires c.row.ensures.short)
