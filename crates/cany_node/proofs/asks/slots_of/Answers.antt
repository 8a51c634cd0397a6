use Rattle.std.proofs.Common.{refl, arith, sym, ap, ◌∙◌}
use Rattle.cany_node.proofs.AskFacts.{slots-few, slots-next, slots-past}
use Rattle.cany_node.proofs.asks.slots_of.Goals as goal
use Rattle.cany_node.proofs.asks.slots_of.Goals.{then-get+in_ok-push, else-get}

pub loop-ask-init : goal.loop-ask-init
loop-ask-init c = record { same = rw c.new-slots.ensures.items refl; few = rw c.new-slots.ensures.items (omega arith) }

pub loop-ask-preserved : goal.loop-ask-preserved
loop-ask-preserved c =
    elim c.if-get.branch [
      | then-get+in_ok-push w ↦ record {
        same = slots-next c.args.node c.args.asks.now c.loop-ask.ask-index c.ask-item.result c.loop-ask.slots.items c.if-get.slots.items
            c.loop-ask-test.true c.ask-item.is c.loop-ask.invariant.same (sym c.get.ensures.value ∙ w.if-get.true ∙ c.get-in-loop-ask.ensures.value)
            (ap (λ v. v.items) w.slots-is ∙ w.in_ok-push.ensures.items);
        few = slots-few c.if-get.slots.items _ _ c.loop-ask.ask-index (ap (λ v. v.items) w.slots-is ∙ w.in_ok-push.ensures.items) c.loop-ask.invariant.few;
      }
      | else-get w ↦ record {
        same = slots-past c.args.node c.args.asks.now c.loop-ask.ask-index c.ask-item.result c.loop-ask.slots.items c.if-get.slots.items
            c.loop-ask-test.true c.ask-item.is c.loop-ask.invariant.same (λ e. w.if-get.false (c.get.ensures.value ∙ e ∙ sym c.get-in-loop-ask.ensures.value))
            (ap (λ v. v.items) w.slots-is);
        few = rw w.slots-is (omega arith);
      }
    ]
