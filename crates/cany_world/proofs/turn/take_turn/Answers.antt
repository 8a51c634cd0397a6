use Rattle.std.proofs.Common.{◌≡◌, sym, ap, subst, ◌∙◌, arith}
use Rattle.std.specs.Prelude.{slice_set}
use Rattle.cany_model.specs.Runs.Run.{run, after_turn}
use Rattle.cany_world.specs.Replies.{IfDone, step_reply}
use Rattle.cany_world.specs.Kept.{AreControllersOf, AreNodesOf}
use Rattle.cany_world.proofs.PlaceFacts.{stands_at}
use Rattle.cany_world.proofs.TurnFacts.{turn_reply_is, turned_on, turned_slot}
use Rattle.cany_world.proofs.turn.take_turn.Goals as goal

pub turn-requires : goal.turn-requires
turn-requires c =
    let number : c.from-i.result ≡ c.args.node = c.from-i.ensures ∙ c.get.ensures.value in
    c.requires.turn _ _ (stands_at c.args.nodes.now c.args.node _ c.index-nodes-i.result number c.requires.node)
    (stands_at c.args.controllers.now c.args.node _ c.index-controllers-i.result number (omega (arith, c.requires.node, c.requires.count)))

pub returns-clause-reply : goal.returns-clause-reply
returns-clause-reply c scenario journal row kept =
    let number : c.from-i.result ≡ c.args.node = c.from-i.ensures ∙ c.get.ensures.value in
    ap step_reply c.turn.ensures.reply
    ∙ turn_reply_is scenario (run scenario journal) c.args.node _ (omega (arith, c.requires.node, kept.whole))
    (row.each c.args.node _ (stands_at c.args.controllers.now c.args.node _ c.index-controllers-i.result number (omega (arith, c.requires.node, c.requires.count))))

pub returns-clause-slot : goal.returns-clause-slot
returns-clause-slot c scenario journal row slot is =
    let number : c.from-i.result ≡ c.args.node = c.from-i.ensures ∙ c.get.ensures.value in
    let at = stands_at c.args.controllers.now c.args.node _ c.index-controllers-i.result number (omega (arith, c.requires.node, c.requires.count)) in
    let now = c.requires.turn _ _ (stands_at c.args.nodes.now c.args.node _ c.index-nodes-i.result number c.requires.node) at in
    turned_slot now.it _ c.args.actions.now now.can slot (sym c.turn.ensures.reply ∙ is) ∙ (row.each c.args.node _ at).read

pub returns-clause-done : goal.returns-clause-done
returns-clause-done c scenario journal legal row kept =
    let number : c.from-i.result ≡ c.args.node = c.from-i.ensures ∙ c.get.ensures.value in
    subst (λ k. IfDone (step_reply c.turn.result) (AreControllersOf scenario (after_turn scenario c.args.node (run scenario journal)) (slice_set c.args.controllers.now k c.turn.new.ctl)
    × AreNodesOf scenario (after_turn scenario c.args.node (run scenario journal)) (slice_set c.args.nodes.now k c.turn.new.self)) (Unit {0})) (sym number)
    (turned_on scenario journal c.args.node c.args.nodes.now c.args.controllers.now _ c.turn.new.self _ c.turn.new.ctl (step_reply c.turn.result)
    legal row kept (omega (arith, c.requires.node)) (stands_at c.args.nodes.now c.args.node _ c.index-nodes-i.result number c.requires.node)
    (stands_at c.args.controllers.now c.args.node _ c.index-controllers-i.result number (omega (arith, c.requires.node, c.requires.count)))
    (ap step_reply c.turn.ensures.reply) c.turn.ensures.turn)
