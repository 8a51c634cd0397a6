use Rattle.std.proofs.Common.{◌≡◌, ◌++◌, take}
use Rattle.cany_watch.specs.Publishers.{PublisherParts}
use Rattle.cany_watch.proofs.PublishFacts.{so_far_all, so_far_none, took_some}
use Rattle.cany_watch.proofs.publishing.take_all.Goals as goal

pub returns-then-not-append : goal.returns-then-not-append
returns-then-not-append c =
    let old : PublisherParts = c.args.publisher.now in
    let new : PublisherParts = c.append.new.self in
    let before : c.loop-entry.publisher ≡ record old { taken = old.taken ++ take c.loop-entry.entry-index c.args.entries.now } = c.loop-entry.invariant in
    let book : new.book ≡ old.book = cc (c.append.ensures.book.0, before) in
    let shown : new.shown ≡ old.shown = cc (c.append.ensures.book.1, before) in
    let taken : new.taken ≡ old.taken ++ take c.loop-entry.entry-index c.args.entries.now = cc (c.append.ensures.taken, c.if-not-append.true, before) in
    took_some c.args.entries.now old new c.loop-entry.entry-index (λ i. record { book = book i; shown = shown i; taken = taken i })

pub loop-entry-init : goal.loop-entry-init
loop-entry-init c = so_far_none c.args.entries.now c.args.publisher.now

pub returns : goal.returns
returns c =
    so_far_all c.args.entries.now c.args.publisher.now c.loop-entry.publisher c.loop-entry.entry-index c.loop-entry-test.false c.loop-entry.invariant
