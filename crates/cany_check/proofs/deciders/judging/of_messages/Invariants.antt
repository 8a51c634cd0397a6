use Rattle.std.proofs.Common.{◌≡◌, drop}
use Rattle.std.specs.List.{fold}
use Rattle.cany_base.specs.declared.message.Service.TheVariants.{Ed, Rel, Tot}
use Rattle.cany_check.specs.Deciding.Judged.{fates_by, with_fate}
use Rattle.cany_check.specs.Deciding.Verdict.{of_fates}
use Rattle.cany_check.proofs.deciders.judging.of_messages.Given as goal

abbrev pub invariant-loop-i : goal.invariant-loop-i
invariant-loop-i l = record {
  ed : fold with_fate l.judged.ed (fates_by Ed (drop l.i l.messages) (drop l.i l.told)) ≡ of_fates (fates_by Ed l.messages l.told);
  rel : fold with_fate l.judged.rel (fates_by Rel (drop l.i l.messages) (drop l.i l.told)) ≡ of_fates (fates_by Rel l.messages l.told);
  tot : fold with_fate l.judged.tot (fates_by Tot (drop l.i l.messages) (drop l.i l.told)) ≡ of_fates (fates_by Tot l.messages l.told);
}
