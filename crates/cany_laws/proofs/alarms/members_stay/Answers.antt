use Rattle.cany_laws.proofs.Members.StayingLaws.{stays_unasked, stays_uncarried}
use Rattle.cany_laws.proofs.alarms.members_stay.Goals as goal

pub returns : goal.returns
returns c = record {
  uncarried = λ scenario journal legal within. stays_uncarried scenario legal journal within;
  unasked = λ scenario journal legal within. stays_unasked scenario legal journal within;
}
