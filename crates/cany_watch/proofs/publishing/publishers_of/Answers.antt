use Rattle.std.proofs.Common.{◌≡◌, List, ap, subst, sym, ◌∙◌, ◌+◌, ◌++◌, ◌∷◌, []}
use Rattle.std.proofs.lemmas.Result.{err_from_is_err_and}
use Rattle.cany_watch.specs.Halls.{AreFirst}
use Rattle.cany_watch.specs.Notes.{NoteParts}
use Rattle.cany_watch.specs.Publishers.{PublisherParts, note_of}
use Rattle.cany_watch.proofs.PublishFacts.{first_more}
use Rattle.cany_watch.proofs.publishing.publishers_of.Goals as goal

pub loop-preserved : goal.loop-preserved
loop-preserved g c =
    let told = c.in-Ok.ensures in
    let more = first_more c.loop.counter c.loop.publishers.items c.loop.readings.items c.in-Ok.publisher c.loop.invariant.first told.publisher.0 told.publisher.1 in
    let notes : c.push_reserved-in-Ok.new.self.items ≡ c.loop.readings.items ++ note_of c.in-Ok.publisher ∷ [] = c.push_reserved-in-Ok.ensures.items ∙ ap (λ (n : NoteParts). c.loop.readings.items ++ n ∷ []) told.reading in record {
      first = subst (λ (l : List PublisherParts). AreFirst (c.loop.counter + 1) l c.push_reserved-in-Ok.new.self.items) (sym c.push_reserved.ensures.items)
          (subst (λ (l : List NoteParts). AreFirst (c.loop.counter + 1) (c.loop.publishers.items ++ c.in-Ok.publisher ∷ []) l) (sym notes) more);
      publishers = rw c.push_reserved.ensures.capacity c.loop.invariant.publishers;
      readings = rw c.push_reserved-in-Ok.ensures.capacity c.loop.invariant.readings;
    }

pub returns-in_err-readings : goal.returns-in_err-readings
returns-in_err-readings g c = let p = err_from_is_err_and c.from_residual.result c.from_residual.ensures.1 in rw p.1 tt

pub returns-in_err-publishers : goal.returns-in_err-publishers
returns-in_err-publishers g c =
    let p = err_from_is_err_and c.from_residual-in_err-publishers.result c.from_residual-in_err-publishers.ensures.1 in
    rw p.1 tt
