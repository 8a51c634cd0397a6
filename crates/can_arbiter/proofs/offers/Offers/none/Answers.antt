use Rattle.std.proofs.Common.{refl, sym, ◌∙◌, ap, is_some}
use Rattle.can_arbiter.proofs.OfferFacts.{no_offer, all_fit}
use Rattle.can_arbiter.proofs.offers.Offers.none.Goals as goal

pub invariant_of-result : goal.invariant_of-result
invariant_of-result c = record {
  whole = refl;
  fit = all_fit c.args.format;
  known = λ node. c.empty.ensures.has node ∙ sym (ap is_some (no_offer node));
}

pub returns-clause-none : goal.returns-clause-none
returns-clause-none c = no_offer
