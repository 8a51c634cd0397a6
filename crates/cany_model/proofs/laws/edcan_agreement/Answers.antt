-- The law is a lemma on every run.
use Rattle.cany_model.proofs.Promises.EdcanAgrees.{edcan_agrees}
use Rattle.cany_model.proofs.laws.edcan_agreement.Goals as goal

pub returns : goal.returns
returns c = λ scenario journal few within m stands ed. edcan_agrees scenario few journal within m stands ed
