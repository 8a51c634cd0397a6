use Rattle.cany_laws.proofs.FalseAlarms.AlarmLaws.{no_false_alarm}
use Rattle.cany_laws.proofs.alarms.no_false_alarm.Goals as goal

pub returns : goal.returns
returns c scenario journal legal within = no_false_alarm scenario legal journal within
