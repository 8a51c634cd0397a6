use Rattle.std.proofs.Common.{◌≡◌, ◌<◌, refl, sym, ◌∙◌, arith}
use Rattle.std.proofs.lemmas.List.{append-nil}
use Rattle.cany_base.specs.Limits.{most_nodes}
use Rattle.cany_life.specs.LifeSteps.{all_marked, found_below}
use Rattle.cany_life.proofs.FoundFacts.{actions_more, length_found, params_found, state_more}
use Rattle.cany_life.proofs.life.Life.find_among.Goals as goal

pub loop-n-init : goal.loop-n-init
unfolding all_marked found_below
loop-n-init c = record { state = refl; actions = sym (append-nil c.args.out.now.items); few = omega arith; room = refl }

pub find_node-requires-clause-cycle : goal.find_node-requires-clause-cycle
find_node-requires-clause-cycle c = rw (params_found c.args.self.now c.args.members c.args.slot c.loop-n.n c.loop-n.self c.loop-n.invariant.state) c.requires.finds.cycle

pub find_node-requires-clause-number : goal.find_node-requires-clause-number
find_node-requires-clause-number c = rw (params_found c.args.self.now c.args.members c.args.slot c.loop-n.n c.loop-n.self c.loop-n.invariant.state) c.requires.finds.number

pub find_node-requires-clause-known : goal.find_node-requires-clause-known
find_node-requires-clause-known c =
    rw (
      params_found c.args.self.now c.args.members c.args.slot c.loop-n.n c.loop-n.self c.loop-n.invariant.state,
      length_found c.args.self.now c.args.members c.args.slot c.loop-n.n c.loop-n.self c.loop-n.invariant.state,
    )
    c.requires.finds.known

pub loop-n-preserved : goal.loop-n-preserved
loop-n-preserved c =
    let near : c.loop-n.n < most_nodes = omega (arith, c.loop-n-test.true, c.requires.finds.nodes) in
    let at : c.loop-n.self ≡ all_marked (found_below c.args.self.now c.args.members c.args.slot c.loop-n.n) c.args.self.now = c.loop-n.invariant.state in
    record {
      state =
          state_more c.args.self.now c.args.members c.args.slot c.loop-n.n near c.requires.finds.known c.loop-n.self at c.find_node.new.self
          (rw c.of_index.ensures at c.find_node.ensures.state);
      actions =
          actions_more c.args.self.now c.args.members c.args.slot c.loop-n.n near c.requires.finds.known c.loop-n.self at c.args.out.now.items c.loop-n.out.items
          c.find_node.new.out.items c.loop-n.invariant.actions (rw c.of_index.ensures at c.find_node.ensures.actions);
      few = omega (arith, c.find_node.ensures.few, c.loop-n.invariant.few);
      room = c.find_node.ensures.room ∙ c.loop-n.invariant.room;
    }
