use Rattle.std.proofs.Common.{◌≡◌, Some, refl, rules}
use Rattle.cany_base.specs.Nodes.{has}
use Rattle.can_arbiter.specs.Offers.{offer_at}
use Rattle.can_arbiter.proofs.WinnerFacts.{IsDone, still_sends, wins}
use Rattle.can_arbiter.proofs.arbitration.arbitrate.Goals as goal

pub returns : goal.returns
returns c =
    let offered : offer_at c.args.offers.now c.in-Some.first ≡ Some c.unwrap-frame.result = search rules in
    let done : IsDone c.args.offers.now (has c.least_words-sending.result) c.in-Some.first c.unwrap-frame.result = record {
      walked = c.least_words-sending.ensures;
      sends = c.in-Some.ensures.has;
      least = c.in-Some.ensures.least;
      offered = offered;
    } in (
      wins _ _ _ _ done,
      λ node. (
        (λ sends. ((c.senders_of.ensures node).0 sends).1),
        (λ offers. (c.senders_of.ensures node).1 (still_sends _ _ _ _ done node _ offers refl, offers)),
      ),
    )
