use Rattle.cany_laws.proofs.Waiting.WaitMessages.{asked_in_its_slot, carried_by}
use Rattle.cany_laws.proofs.waits.message_is_carried.Goals as goal

pub returns : goal.returns
returns c = record {
  asked = λ scenario journal m stands at_once correct asked. asked_in_its_slot scenario journal m stands at_once correct asked;
  carried = λ scenario journal legal within m t windows asked ran few. carried_by scenario journal within m t asked legal windows ran few;
}
