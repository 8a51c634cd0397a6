use Rattle.std.proofs.Common.{◌≡◌, ℕ, ◌+◌, ◌<◌, ◌≤◌, ◌∙◌, ◌++◌, arith, sym, ap, subst}
use mathlib.Core.List.{IsPrefix}
use Rattle.cany_model.specs.Bus.State.{slots_run}
use Rattle.cany_model.specs.Runs.RoundRobin.{rounds}
use Rattle.cany_model.specs.Runs.Run.{IsLegal}
use Rattle.cany_world.specs.World.{state_of}
use Rattle.cany_world.proofs.RoundFacts.{all_but}
use Rattle.cany_watch.specs.Halls.{HallParts, published_of, publisher_at}
use Rattle.cany_watch.specs.Lines.{Longer, nodes_of}
use Rattle.cany_watch.proofs.PublishFacts.{all_of, out_begins, out_books, out_grows, still_of, then_of}
use Rattle.cany_watch.proofs.RoundLines.{rounds_longer}
use Rattle.cany_watch.proofs.hall.Hall.advance.Goals as goal

abbrev MayAdvance : HallParts → ℕ → Type 0
MayAdvance h left = IsLegal h.world.scenario (h.world.journal ++ rounds h.world.scenario left (state_of h.world))

pub advance-fewer-requires-clause-room : goal.advance-fewer-requires-clause-room
advance-fewer-requires-clause-room g c =
    subst (λ (h : HallParts). slots_run (state_of h.world) + c.args.left ≤ h.world.scenario.params.slots) (sym c.self.view_is) c.requires.room

pub advance-fewer-requires-clause-legal : goal.advance-fewer-requires-clause-legal
advance-fewer-requires-clause-legal g c = subst (λ (h : HallParts). MayAdvance h c.args.left) (sym c.self.view_is) c.requires.legal

pub publish_grown-is_all-requires-clause-are : goal.publish_grown-is_all-requires-clause-are
publish_grown-is_all-requires-clause-are g c =
    let longer : Longer c.self.inside.world c.advance-fewer.new.world =
    rounds_longer c.self.inside.world c.advance-fewer.new.world c.args.left c.advance-fewer.result c.advance-fewer.ensures.fewer
    (subst (λ (h : HallParts). MayAdvance h c.args.left) (sym c.self.view_is) c.requires.legal) c.advance-fewer.ensures.new c.advance-fewer.ensures.ran in
    let still = still_of c.self.inside.world c.advance-fewer.new.world c.self.inside.publishers.items c.self.invariant.0 longer in
    still

pub invariant_of-self : goal.invariant_of-self
invariant_of-self g c =
    let longer : Longer c.self.inside.world c.advance-fewer.new.world =
    rounds_longer c.self.inside.world c.advance-fewer.new.world c.args.left c.advance-fewer.result c.advance-fewer.ensures.fewer
    (subst (λ (h : HallParts). MayAdvance h c.args.left) (sym c.self.view_is) c.requires.legal) c.advance-fewer.ensures.new c.advance-fewer.ensures.ran in
    let still = still_of c.self.inside.world c.advance-fewer.new.world c.self.inside.publishers.items c.self.invariant.0 longer in (
      then_of _ _ _ _ still c.publish_grown-is_all.ensures,
      all_of c.publish_grown-is_all.result c.advance-fewer.new.world c.self.inside.publishers.items c.publish_grown-is_all.new.publishers.items still c.publish_grown-is_all.ensures,
    )

pub returns-clause-new : goal.returns-clause-new
returns-clause-new g c = subst (λ (h : HallParts). c.advance-fewer.new.world ≡ all_but h.world c.args.left c.advance-fewer.result) c.self.view_is c.advance-fewer.ensures.new

pub returns-clause-ran : goal.returns-clause-ran
returns-clause-ran g c =
    subst (λ (h : HallParts). slots_run (state_of c.advance-fewer.new.world) + c.advance-fewer.result ≡ slots_run (state_of h.world) + c.args.left)
    c.self.view_is c.advance-fewer.ensures.ran

pub returns-clause-lines : goal.returns-clause-lines
returns-clause-lines g c =
    let longer : Longer c.self.inside.world c.advance-fewer.new.world =
    rounds_longer c.self.inside.world c.advance-fewer.new.world c.args.left c.advance-fewer.result c.advance-fewer.ensures.fewer
    (subst (λ (h : HallParts). MayAdvance h c.args.left) (sym c.self.view_is) c.requires.legal) c.advance-fewer.ensures.new c.advance-fewer.ensures.ran in
    (subst (λ (h : HallParts). Longer h.world c.advance-fewer.new.world) c.self.view_is longer).lines

pub returns-clause-grows : goal.returns-clause-grows
returns-clause-grows g c i =
    subst (λ (h : HallParts). IsPrefix (published_of h i) (publisher_at c.publish_grown-is_all.new.publishers.items i).shown) c.self.view_is (out_grows _ _ _ _ c.publish_grown-is_all.ensures i)

pub returns-clause-begins : goal.returns-clause-begins
returns-clause-begins g c i less =
    let longer : Longer c.self.inside.world c.advance-fewer.new.world =
    rounds_longer c.self.inside.world c.advance-fewer.new.world c.args.left c.advance-fewer.result c.advance-fewer.ensures.fewer
    (subst (λ (h : HallParts). MayAdvance h c.args.left) (sym c.self.view_is) c.requires.legal) c.advance-fewer.ensures.new c.advance-fewer.ensures.ran in
    let still = still_of c.self.inside.world c.advance-fewer.new.world c.self.inside.publishers.items c.self.invariant.0 longer in
    let less' : i < nodes_of c.advance-fewer.new.world = subst (λ (n : ℕ). i < n) (ap (λ (h : HallParts). nodes_of h.world) (sym c.self.view_is) ∙ sym longer.nodes) less in
    out_begins c.advance-fewer.new.world c.publish_grown-is_all.new.publishers.items (then_of _ _ _ _ still c.publish_grown-is_all.ensures) i less'

pub returns-clause-all : goal.returns-clause-all
returns-clause-all g c = λ shown i less.
    (c.publish_grown-is_all.ensures.each i (omega (arith, c.self.invariant.0.count, ap (λ (h : HallParts). nodes_of h.world) c.self.view_is, less))).all (c.of.ensures shown)

pub returns-clause-books : goal.returns-clause-books
returns-clause-books g c i =
    subst (λ (h : HallParts). (publisher_at c.publish_grown-is_all.new.publishers.items i).book ≡ (publisher_at h.publishers i).book)
    c.self.view_is (out_books _ _ _ _ c.publish_grown-is_all.ensures i)
