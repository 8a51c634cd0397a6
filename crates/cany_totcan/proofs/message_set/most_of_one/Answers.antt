use Rattle.std.proofs.Common.{count_by, ap, arith}
use Rattle.cany_model.specs.Rules.Messages.{is_from}
use Rattle.cany_totcan.proofs.MessageSetFacts.{most_of_more, most_of_none}
use Rattle.cany_totcan.proofs.message_set.most_of_one.Goals as goal

pub loop-i-init : goal.loop-i-init
loop-i-init c = most_of_none c.args.scenario.now.sends

pub loop-i-preserved : goal.loop-i-preserved
loop-i-preserved c =
    let sends = c.args.scenario.now.sends in
    omega (
      arith,
      c.max-most.ensures,
      c.sends_of.ensures,
      ap (λ n. count_by (is_from n) sends) c.of_index.ensures,
      c.loop-i.invariant,
      most_of_more sends c.loop-i.i,
    )
