-- The law is a lemma on every run.
use Rattle.cany_model.proofs.Promises.RelcanAgrees.{relcan_agrees}
use Rattle.cany_model.proofs.laws.relcan_agreement.Goals as goal

pub returns : goal.returns
returns c = λ scenario journal few within m stands rel. relcan_agrees scenario few journal within m stands rel
