use Rattle.cany_model.proofs.Among.{Among-from_Contains}
use Rattle.cany_model.specs.Rules.Messages.{messages_of}
use Rattle.cany_laws.proofs.Waiting.WaitDelivered.{delivered_by}
use Rattle.cany_laws.proofs.waits.delivered_when_carried.Goals as goal

pub returns : goal.returns
returns c scenario journal few m stands at_once slot i carried correct read =
    delivered_by scenario journal few m (Among-from_Contains (messages_of scenario.sends) m stands) slot carried i correct read at_once
