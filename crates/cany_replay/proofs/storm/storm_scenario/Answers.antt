use Rattle.std.proofs.Common.{ap, length, ◌∙◌}
use Rattle.cany_replay.specs.Storm.{send_drawn}
use Rattle.cany_replay.proofs.DrawFacts.{length-drawn}
use Rattle.cany_replay.proofs.StormFacts.{parts_legal}
use Rattle.cany_replay.proofs.storm.storm_scenario.Goals as goal

pub frame_rules_drawn-requires : goal.frame_rules_drawn-requires
frame_rules_drawn-requires c =
    ap length c.deref.ensures.value
    ∙ length-drawn send_drawn 200 c.generator_of-words.result c.sends_drawn.new.words c.in_ok-sends.sends.items c.in_ok-sends.ensures

pub of_parts-requires : goal.of_parts-requires
of_parts-requires c =
    parts_legal _ _ c.in_ok-sends.sends.items c.deref.result.now c.in_ok-rules.rules.items _ c.last_node.result _ _ _
    c.generator_of-words.result c.sends_drawn.new.words c.frame_rules_drawn.new.words c.in_ok-sends.ensures c.deref.ensures.value c.in_ok-rules.ensures
    c.storm_params.ensures c.members.ensures c.in_ok-push.ensures.items c.last_node.ensures c.new.ensures.items c.new-2.ensures.items c.new-3.ensures.items
