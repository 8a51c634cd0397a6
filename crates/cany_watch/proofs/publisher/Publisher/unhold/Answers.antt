use Rattle.std.proofs.Common.{◌≡◌, ◌++◌, ◌∙◌, Option, Some, ap, drop, subst, sym}
use Rattle.std.specs.Prelude.{IsSomeAnd}
use Rattle.cany_watch.specs.declared.published.Growth.{Growth}
use Rattle.cany_watch.specs.Publishers.{IsWriterOf, held_list, shown_of}
use Rattle.cany_watch.proofs.Waiting.{waits_held, waits_still}
use Rattle.cany_watch.proofs.publisher.Publisher.unhold.Goals as goal

pub invariant_of-self : goal.invariant_of-self
invariant_of-self c =
    let same : c.take.new.self ≡ c.self.inside.held = c.take.ensures.after ∙ sym c.in_default.is ∙ c.take.ensures.value in
    rw same c.self.invariant

pub returns-in_default : goal.returns-in_default
returns-in_default c = c.self.view_is

pub invariant_of-self-2 : goal.invariant_of-self-2
invariant_of-self-2 c =
    let inside = c.self.inside in
    let w = c.in-Some-writer.writer in
    let new = c.append.new.self in
    let held : inside.held ≡ Some c.in-Some.held = sym c.take.ensures.value ∙ c.in-Some.is in
    let is : IsWriterOf inside.taken w.desk.shown.value (drop w.behind w.log.items ++ held_list inside.held) =
    subst (λ o. IsSomeAnd o (λ x. IsWriterOf inside.taken x.desk.shown.value (drop x.behind x.log.items ++ held_list inside.held))) c.in-Some-writer.is c.self.invariant.0 in (
      waits_still inside.taken w.desk.shown.value new.desk.shown.value (drop w.behind w.log.items ++ held_list inside.held)
          (drop new.behind new.log.items ++ held_list c.err.result)
          (ap (λ d. d.shown.value) c.append.ensures.desk)
          (ap (λ (o : Option Growth). drop new.behind new.log.items ++ held_list o) c.err.ensures.value
          ∙ waits_held c.append.result c.in-Some.held (drop w.behind w.log.items) (drop new.behind new.log.items) c.append.ensures.pending
          ∙ ap (λ (o : Option Growth). drop w.behind w.log.items ++ held_list o) (sym held)) is,
      c.self.invariant.1,
    )

pub returns : goal.returns
returns c =
    let taken = c.self.inside.taken in
    ap (λ d. record { book = taken.book; shown = d.shown.value.entries.items; taken = taken.entries }) c.append.ensures.desk
    ∙ ap (λ o. record { book = taken.book; shown = shown_of o (λ x. x.desk.shown.value); taken = taken.entries }) (sym c.in-Some-writer.is)
    ∙ c.self.view_is
