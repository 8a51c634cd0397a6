use Rattle.cany_laws.proofs.FalseAlarms.AlarmLaws.{taken_for_failed_nowhere}
use Rattle.cany_laws.proofs.alarms.accuracy.Goals as goal

pub returns : goal.returns
returns c scenario journal legal within r correct first = taken_for_failed_nowhere scenario legal journal within r correct first
