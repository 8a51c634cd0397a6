use Rattle.std.proofs.Common.{◌≡◌, ◌++◌, ◌∙◌, ◌≤◌, ap, arith, drop, length, subst}
use Rattle.std.specs.Prelude.{IsSomeAnd}
use Rattle.std.proofs.lemmas.Bool.{eqb-true}
use Rattle.cany_watch.specs.Publishers.{IsWriterOf, PublisherParts, held_list, shown_of}
use Rattle.cany_watch.proofs.Prefixes.{prefix_whole}
use Rattle.cany_watch.proofs.Waiting.{published_begins}
use Rattle.cany_watch.proofs.publisher.Publisher.is_published.Goals as goal

pub returns : goal.returns
returns c same =
    let inside = c.self.inside in
    let w = c.in-Some.writer in
    let is : IsWriterOf inside.taken w.desk.shown.value (drop w.behind w.log.items ++ held_list inside.held) =
    subst (λ o. IsSomeAnd o (λ x. IsWriterOf inside.taken x.desk.shown.value (drop x.behind x.log.items ++ held_list inside.held))) c.in-Some.is c.self.invariant.0 in
    let lengths : c.len.result ≡ c.len-2.result = eqb-true c.len.result c.len-2.result same in
    let short : length inside.taken.entries ≤ length w.desk.shown.value.entries.items = omega (arith, lengths, c.len.ensures, c.len-2.ensures, ap (λ p. length p.entries.items) c.published.ensures) in
    let whole : w.desk.shown.value.entries.items ≡ inside.taken.entries = prefix_whole w.desk.shown.value.entries.items inside.taken.entries (published_begins inside.taken w.desk.shown.value _ is) short in
    subst (λ (p : PublisherParts). p.shown ≡ p.taken) c.self.view_is (ap (λ o. shown_of o (λ x. x.desk.shown.value)) c.in-Some.is ∙ whole)
