-- The law is a lemma on every journal.
use Rattle.cany_model.proofs.Runs.FollowFacts.{no_fault_exactly}
use Rattle.cany_model.proofs.laws.followed_journals.Goals as goal

pub returns : goal.returns
returns c = no_fault_exactly
