use Rattle.cany_model.proofs.Runs.Journals.{unread_within}
use Rattle.cany_model.proofs.laws.unread_notices.Goals as goal

pub returns : goal.returns
returns c = unread_within
