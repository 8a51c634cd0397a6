use Rattle.std.proofs.Common.{◌+◌, ◌∙◌, ap, drop, map, sym, arith}
use Rattle.cany_settle.specs.LastEvent.{greater, greatest}
use Rattle.cany_settle.proofs.LastSlotFacts.{greatest_next}
use Rattle.cany_settle.proofs.events.last_of.Goals as goal

pub loop-i-preserved : goal.loop-i-preserved
loop-i-preserved g c =
    let slot = g.A.Scripted.slot in
    ap (λ n. greater n (greatest (map slot (drop (c.loop-i.i + 1) c.args.asks.now))))
    (c.later-last.ensures ∙ ap (greater c.loop-i.last) c.slot.ensures)
    ∙ greatest_next slot c.args.asks.now c.loop-i.i c.index-asks-i.result c.loop-i.last (omega arith) (sym c.index-asks-i.is)
    ∙ c.loop-i.invariant
