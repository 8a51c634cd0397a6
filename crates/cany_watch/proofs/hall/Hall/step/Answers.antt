use Rattle.std.proofs.Common.{◌≡◌, ℕ, ◌<◌, ◌∙◌, [], ◌∷◌, ◌++◌, arith, sym, ap, subst}
use Rattle.std.specs.Prelude.{if◌then◌else◌}
use mathlib.Core.List.{IsPrefix}
use Rattle.cany_model.specs.declared.reply.StepReply.TheVariants.{Done}
use Rattle.cany_model.specs.Runs.Run.{after_step, is_done, reply}
use Rattle.cany_world.specs.World.{state_of}
use Rattle.cany_watch.specs.Halls.{HallParts, published_of, publisher_at}
use Rattle.cany_watch.specs.Lines.{Longer, nodes_of}
use Rattle.cany_watch.proofs.PublishFacts.{all_of, grown_there, out_begins, out_books, out_grows, still_but, still_of, then_of}
use Rattle.cany_watch.proofs.hall.Hall.step.Goals as goal

pub publish_grown-is_all-requires-clause-are : goal.publish_grown-is_all-requires-clause-are
publish_grown-is_all-requires-clause-are g c =
    still_of c.self.inside.world c.make-reply.new.world c.self.inside.publishers.items c.self.invariant.0 c.make-reply.ensures.grown.longer

pub publish_grown-is_all-requires-clause-node : goal.publish_grown-is_all-requires-clause-node
publish_grown-is_all-requires-clause-node g c = grown_there c.make-reply.result.1 c.self.inside.world c.make-reply.new.world c.make-reply.ensures.grown

pub publish_grown-is_all-requires-clause-others : goal.publish_grown-is_all-requires-clause-others
publish_grown-is_all-requires-clause-others g c = λ is.
    still_but c.make-reply.result.1 c.self.inside.world c.make-reply.new.world c.self.inside.publishers.items c.make-reply.ensures.grown (c.self.invariant.1 is)

pub invariant_of-self : goal.invariant_of-self
invariant_of-self g c =
    let still = still_of c.self.inside.world c.make-reply.new.world c.self.inside.publishers.items c.self.invariant.0 c.make-reply.ensures.grown.longer in (
      then_of _ _ _ _ still c.publish_grown-is_all.ensures,
      all_of c.publish_grown-is_all.result c.make-reply.new.world c.self.inside.publishers.items c.publish_grown-is_all.new.publishers.items still c.publish_grown-is_all.ensures,
    )

pub returns-clause-reply : goal.returns-clause-reply
returns-clause-reply g c =
    subst (λ (h : HallParts). c.make-reply.result.0 ≡ reply h.world.scenario (state_of h.world) c.args.step) c.self.view_is c.make-reply.ensures.reply

pub returns-clause-new : goal.returns-clause-new
returns-clause-new g c =
    subst (λ (h : HallParts). c.make-reply.new.world ≡ (if is_done c.make-reply.result.0 then record h.world { journal = h.world.journal ++ c.args.step ∷ [] } else h.world))
    c.self.view_is c.make-reply.ensures.new

pub returns-clause-run : goal.returns-clause-run
returns-clause-run g c =
    subst (λ (h : HallParts). c.make-reply.result.0 ≡ Done → state_of c.make-reply.new.world ≡ after_step h.world.scenario (state_of h.world) c.args.step)
    c.self.view_is c.make-reply.ensures.run

pub returns-clause-lines : goal.returns-clause-lines
returns-clause-lines g c = (subst (λ (h : HallParts). Longer h.world c.make-reply.new.world) c.self.view_is c.make-reply.ensures.grown.longer).lines

pub returns-clause-grows : goal.returns-clause-grows
returns-clause-grows g c i =
    subst (λ (h : HallParts). IsPrefix (published_of h i) (publisher_at c.publish_grown-is_all.new.publishers.items i).shown) c.self.view_is (out_grows _ _ _ _ c.publish_grown-is_all.ensures i)

pub returns-clause-begins : goal.returns-clause-begins
returns-clause-begins g c i less =
    let longer = c.make-reply.ensures.grown.longer in
    let still = still_of c.self.inside.world c.make-reply.new.world c.self.inside.publishers.items c.self.invariant.0 longer in
    let less' : i < nodes_of c.make-reply.new.world = subst (λ (n : ℕ). i < n) (ap (λ (h : HallParts). nodes_of h.world) (sym c.self.view_is) ∙ sym longer.nodes) less in
    out_begins c.make-reply.new.world c.publish_grown-is_all.new.publishers.items (then_of _ _ _ _ still c.publish_grown-is_all.ensures) i less'

pub returns-clause-all : goal.returns-clause-all
returns-clause-all g c = λ shown i less.
    (c.publish_grown-is_all.ensures.each i (omega (arith, c.self.invariant.0.count, ap (λ (h : HallParts). nodes_of h.world) c.self.view_is, less))).all (c.of.ensures shown)

pub returns-clause-books : goal.returns-clause-books
returns-clause-books g c i =
    subst (λ (h : HallParts). (publisher_at c.publish_grown-is_all.new.publishers.items i).book ≡ (publisher_at h.publishers i).book)
    c.self.view_is (out_books _ _ _ _ c.publish_grown-is_all.ensures i)
