use Rattle.std.proofs.Common.{ap, arith, length, map, sym, subst}
use Rattle.cany_check.specs.Accounts.AccountFields.{log_parts}
use Rattle.cany_check.specs.Deciding.Holders.{AreHolders}
use Rattle.cany_check.specs.Deciding.SignSubjects.{sign_since_at, tells_at}
use Rattle.cany_check.proofs.Deciding.SignFacts.{holders_of_one, signs_ascend}
use Rattle.cany_check.proofs.deciders.signs.sign_fates.Goals as goal

pub invariant_of-holders_of : goal.invariant_of-holders_of
invariant_of-holders_of c = signs_ascend c.args.account.now c.signs-signs.ensures.orderly c.signs-signs.result.now c.signs-signs.ensures.signs

pub told_of_all-requires : goal.told_of_all-requires
told_of_all-requires c =
    let a = c.args.account.now in
    let signs = c.signs-signs.result.now in
    let are : AreHolders (length a.signs) (tells_at a.signs) (sign_since_at a.signs) a.logs c.as_slice.result.now =
    subst (λ l. AreHolders (length l) (tells_at l) (sign_since_at l) a.logs c.as_slice.result.now) c.signs-signs.ensures.signs
    (subst (λ l. AreHolders (length signs) (tells_at signs) (sign_since_at signs) l c.as_slice.result.now) c.logs.ensures.logs
    (subst (λ l. AreHolders (length signs) (tells_at signs) (sign_since_at signs) (map log_parts c.logs.result.now) l) (sym c.as_slice.ensures.value) c.in_ok-holders.ensures)) in
    record {
      count = omega (arith, are.count, ap length c.signs-signs.ensures.signs);
      each = λ i x h below x_is h_is. holders_of_one a signs c.as_slice.result.now i x h c.signs-signs.ensures.signs are below x_is h_is;
    }

pub returns : goal.returns
returns c = rw c.signs-signs.ensures.signs at c.told_of_all.ensures
