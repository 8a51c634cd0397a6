use Rattle.cany_laws.proofs.Waiting.WaitSlots.{carried_in_windows, some_left}
use Rattle.cany_laws.proofs.waits.carried_in_windows.Goals as goal

pub returns : goal.returns
returns c = record {
  some_left = λ scenario legal. some_left scenario.params legal.formulas;
  carried = λ scenario journal legal within x first windows ran awaited few. carried_in_windows scenario journal legal within x first windows ran awaited few;
}
