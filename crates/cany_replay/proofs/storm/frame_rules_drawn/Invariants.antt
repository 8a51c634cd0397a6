use Rattle.cany_model.specs.Rules.Messages.{messages_of}
use Rattle.cany_replay.specs.Storm.{fifth_rule_drawn}
use Rattle.cany_replay.proofs.DrawFacts.{HaveDrawn}
use Rattle.cany_replay.proofs.storm.frame_rules_drawn.Given as goal

abbrev pub invariant-loop-q : goal.invariant-loop-q
invariant-loop-q l = HaveDrawn (fifth_rule_drawn (messages_of l.sends)) l.q l.initial.words l.rules.items l.words
