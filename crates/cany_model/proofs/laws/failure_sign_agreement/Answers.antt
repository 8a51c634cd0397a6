-- The law is a lemma on every run.
use Rattle.cany_model.proofs.Promises.SignAgrees.{sign_agrees}
use Rattle.cany_model.proofs.laws.failure_sign_agreement.Goals as goal

pub returns : goal.returns
returns c = λ scenario journal few within sign. sign_agrees scenario few journal within sign
