use Rattle.cany_model.proofs.Among.{Among-from_Contains}
use Rattle.cany_model.specs.Rules.Messages.{messages_of}
use Rattle.cany_laws.proofs.Waiting.WaitEd.{ed_times}
use Rattle.cany_laws.proofs.Waiting.WaitRel.{rel_times}
use Rattle.cany_laws.proofs.carried.few_data_frames.Goals as goal

pub returns : goal.returns
returns c = record {
  edcan = λ scenario journal few m stands ed. ed_times scenario few m (Among-from_Contains (messages_of scenario.sends) m stands) ed journal;
  relcan = λ scenario journal few m stands rel. rel_times scenario few m (Among-from_Contains (messages_of scenario.sends) m stands) rel journal;
}
