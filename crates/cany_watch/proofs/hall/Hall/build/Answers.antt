use Rattle.std.proofs.Common.{◌≡◌, ℕ, List, ap, subst, sym, ◌∙◌, arith, slice_get, Some}
use Rattle.std.proofs.lemmas.Result.{err_from_is_err_and}
use Rattle.cany_base.specs.Params.{Parameters}
use Rattle.cany_watch.specs.Halls.{AreFirst, publisher_at}
use Rattle.cany_watch.specs.Lines.{nodes_of}
use Rattle.cany_watch.specs.Notes.{NoteParts}
use Rattle.cany_watch.specs.Publishers.{note_of}
use Rattle.cany_watch.proofs.PublishFacts.{first_of, note_there}
use Rattle.cany_watch.proofs.hall.Hall.build.Goals as goal

pub invariant_of-hall : goal.invariant_of-hall
invariant_of-hall g c =
    let count : c.from-nodes.result ≡ c.args.scenario.now.params.nodes = c.from-nodes.ensures ∙ ap (λ (p : Parameters). p.nodes) (c.behind-scenario.view_is ∙ c.params.ensures.params) in
    let nodes : nodes_of c.in-Ok.world ≡ c.args.scenario.now.params.nodes = ap nodes_of c.in-Ok.ensures in (
      first_of c.in-Ok.world c.in_ok-publishers.publishers.items c.in_ok-publishers.readings.items
          (subst (λ (n : ℕ). AreFirst n c.in_ok-publishers.publishers.items c.in_ok-publishers.readings.items) (count ∙ sym nodes) c.in_ok-publishers.ensures),
      λ e. absurd (cc e),
    )

pub returns-in-Ok-clause-readings : goal.returns-in-Ok-clause-readings
returns-in-Ok-clause-readings g c i less =
    let count : c.from-nodes.result ≡ c.args.scenario.now.params.nodes = c.from-nodes.ensures ∙ ap (λ (p : Parameters). p.nodes) (c.behind-scenario.view_is ∙ c.params.ensures.params) in
    subst (λ (l : List NoteParts). slice_get l i ≡ Some (note_of (publisher_at c.in_ok-publishers.publishers.items i))) (sym c.in_ok-publishers.ensures.notes)
    (note_there c.in_ok-publishers.publishers.items i (omega (arith, c.in_ok-publishers.ensures.count, count, less)))

pub returns-in-Ok-clause-world : goal.returns-in-Ok-clause-world
returns-in-Ok-clause-world g c = c.in-Ok.ensures

pub returns-in-Ok-clause-nothing : goal.returns-in-Ok-clause-nothing
returns-in-Ok-clause-nothing g c = λ i. (c.in_ok-publishers.ensures.empty i).0

pub returns-in_err-publishers : goal.returns-in_err-publishers
returns-in_err-publishers g c =
    let p = err_from_is_err_and c.from_residual.result c.from_residual.ensures.1 in
    rw p.1 (record { world = tt; nothing = tt; count = tt; readings = tt })
