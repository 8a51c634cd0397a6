use Rattle.std.proofs.Common.{◌∙◌, ap}
use Rattle.cany_watch.specs.Publishers.{PublisherParts}
use Rattle.cany_watch.proofs.publisher.Publisher.publish.Goals as goal

pub returns-then-is_some-clause-book : goal.returns-then-is_some-clause-book
returns-then-is_some-clause-book g c = (ap (λ (p : PublisherParts). p.book) c.unhold.ensures, ap (λ (p : PublisherParts). p.taken) c.unhold.ensures)

pub returns-then-is_some-clause-shown : goal.returns-then-is_some-clause-shown
returns-then-is_some-clause-shown g c = ap (λ (p : PublisherParts). p.shown) c.unhold.ensures

pub returns-then-is_published-clause-book : goal.returns-then-is_published-clause-book
returns-then-is_published-clause-book g c =
    (ap (λ (p : PublisherParts). p.book) c.unhold.ensures, ap (λ (p : PublisherParts). p.taken) c.unhold.ensures)

pub returns-then-is_published-clause-shown : goal.returns-then-is_published-clause-shown
returns-then-is_published-clause-shown g c = c.is_published.ensures c.if-is_published.true ∙ ap (λ (p : PublisherParts). p.taken) c.unhold.ensures
