use Rattle.cany_base.proofs.PayloadFacts.{row_of-kept}
use Rattle.cany_base.proofs.payload.Payload.row.Goals as goal

pub returns-clause-row : goal.returns-clause-row
returns-clause-row c = rw (← c.self.view_is) (row_of-kept c.self.inside c.self.invariant)
