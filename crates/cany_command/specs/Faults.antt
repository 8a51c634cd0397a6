-- Why a command does not go on.
use Rattle.cany_command.specs.declared.command_fault.CommandFault.{CommandFault}
use Rattle.cany_command.specs.declared.command_fault.CommandFault.TheVariants.{Refused, Memory}

-- the fact holds of the command's own refusal; want of memory says nothing
abbrev pub IfRefused : {R : Type 0} → CommandFault R → (R → Type 0) → Type 0
IfRefused (Refused refusal) Fact = Fact refusal
IfRefused Memory Fact = Unit {0}
