-- Why a scenario has no run.
use Rattle.cany_model.specs.declared.follow.FollowFault.{FollowFault}
use Rattle.cany_command.specs.declared.running.RunFault.{RunFault}
use Rattle.cany_command.specs.declared.running.RunFault.TheVariants.{Journal, Memory}

-- the fact holds of the journal's fault; want of memory says nothing
abbrev pub IfJournal : RunFault → (FollowFault → Type 0) → Type 0
IfJournal (Journal fault) Fact = Fact fault
IfJournal Memory Fact = Unit {0}
