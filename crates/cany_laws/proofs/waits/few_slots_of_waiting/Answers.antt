use Rattle.cany_laws.proofs.Waiting.WaitSlots.{few_slots_of_waiting}
use Rattle.cany_laws.proofs.waits.few_slots_of_waiting.Goals as goal

pub returns : goal.returns
returns c scenario journal legal within x first n windows ran awaited never short =
    few_slots_of_waiting scenario journal legal within x first n windows ran awaited never short
