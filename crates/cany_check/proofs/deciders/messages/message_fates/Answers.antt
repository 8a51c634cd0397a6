use Rattle.std.proofs.Common.{ap, arith, length, sym, subst}
use Rattle.cany_check.specs.Deciding.Holders.{AreHolders}
use Rattle.cany_check.specs.Deciding.MessageSubjects.{delivers_at, since_at}
use Rattle.cany_check.proofs.Deciding.MessageFateFacts.{holders_of_one}
use Rattle.cany_check.proofs.deciders.messages.message_fates.Goals as goal

pub told_of_all-requires : goal.told_of_all-requires
told_of_all-requires c =
    let a = c.args.account.now in
    let are : AreHolders (length a.messages) (delivers_at a.messages) (since_at a.messages) a.logs c.as_slice.result.now =
    subst (AreHolders (length a.messages) (delivers_at a.messages) (since_at a.messages) a.logs) (sym c.as_slice.ensures.value) c.in_ok-holders.ensures in
    record {
      count = omega (arith, are.count, ap length c.messages.ensures.messages);
      each = λ i m h below m_is h_is. holders_of_one a c.messages.result.now c.as_slice.result.now i m h c.messages.ensures.messages are below m_is h_is;
    }

pub returns : goal.returns
returns c = rw c.messages.ensures.messages at c.told_of_all.ensures
