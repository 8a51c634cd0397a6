use Rattle.cany_message.specs.Sequence.{HaveCounted}
use Rattle.cany_message.proofs.KeyFacts.{AreFirstKeys}
use Rattle.cany_message.proofs.SequenceFacts.{before}
use Rattle.cany_message.proofs.keys.keys_of.Given as goal

abbrev pub invariant-loop-send : goal.invariant-loop-send
invariant-loop-send l = record {
  keys : AreFirstKeys l.sends l.send-index l.keys.items;
  counts : HaveCounted (before l.sends l.send-index) l.numbers;
}
