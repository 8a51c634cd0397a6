-- The command `replay`.
use Rattle.std.specs.Prelude.{codes}
use Rattle.cany_command.specs.Performed.{CommandParts, one_word}
use Rattle.cany_text.specs.Report.{report}

-- the one word, and the report of the run
abbrev pub replay_command : CommandParts
replay_command = one_word (codes "replay") report
