use Rattle.std.proofs.Common.{◌+◌, ◌<◌, ◌∙◌, length, drop, ap, arith}
use Rattle.std.specs.List.{fold}
use Rattle.cany_base.specs.declared.message.Service.TheVariants.{Ed, Rel, Tot}
use Rattle.cany_check.specs.Deciding.Judged.{fates_by, with_fate}
use Rattle.cany_check.proofs.Deciding.JudgedFacts.{fates_of_rest, judged_of_all}
use Rattle.cany_check.proofs.deciders.judging.of_messages.Goals as goal

pub loop-i-init : goal.loop-i-init
loop-i-init c = record {
  ed = judged_of_all (fates_by Ed c.args.messages.now c.args.told.now);
  rel = judged_of_all (fates_by Rel c.args.messages.now c.args.told.now);
  tot = judged_of_all (fates_by Tot c.args.messages.now c.args.told.now);
}

pub loop-i-preserved : goal.loop-i-preserved
loop-i-preserved c =
    let i = c.loop-i.i in
    let messages = c.args.messages.now in
    let told = c.args.told.now in
    let inside : i < length told = omega arith in
    record {
      ed = ap (λ judged. fold with_fate judged (fates_by Ed (drop (i + 1) messages) (drop (i + 1) told))) c.with_message-judged.ensures.ed
          ∙ fates_of_rest Ed c.loop-i.judged.ed messages told i c.index-messages-i.result c.index-told-i.result c.loop-i-test.true inside ∙ c.loop-i.invariant.ed;
      rel = ap (λ judged. fold with_fate judged (fates_by Rel (drop (i + 1) messages) (drop (i + 1) told))) c.with_message-judged.ensures.rel
          ∙ fates_of_rest Rel c.loop-i.judged.rel messages told i c.index-messages-i.result c.index-told-i.result c.loop-i-test.true inside ∙ c.loop-i.invariant.rel;
      tot = ap (λ judged. fold with_fate judged (fates_by Tot (drop (i + 1) messages) (drop (i + 1) told))) c.with_message-judged.ensures.tot
          ∙ fates_of_rest Tot c.loop-i.judged.tot messages told i c.index-messages-i.result c.index-told-i.result c.loop-i-test.true inside ∙ c.loop-i.invariant.tot;
    }
