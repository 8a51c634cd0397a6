use Rattle.std.proofs.Common.{◌++◌, ◌∙◌, ap, append-nil, get_or, map, refl, sym}
use Rattle.std.proofs.lemmas.List.{take_all}
use Rattle.cany_media.specs.Single.{blind_rule}
use Rattle.cany_media.proofs.LegalFacts.{blind_more}
use Rattle.cany_media.proofs.single_bus.add_blind_rules.Goals as goal

pub loop-slot-init : goal.loop-slot-init
loop-slot-init c = sym (append-nil c.args.rules.now.items)

pub loop-slot-preserved : goal.loop-slot-preserved
loop-slot-preserved c =
    blind_more c.args.script.now c.args.rules.now.items c.loop-slot.rules.items c.push.new.self.items c.args.slots.now c.loop-slot.slot-index
    (get_or c.args.slots.now c.loop-slot.slot-index 0) c.stops_in.result c.loop-slot-test.true refl c.stops_in.ensures c.loop-slot.invariant c.in_ok-push.ensures.items

pub returns : goal.returns
returns c =
    c.loop-slot.invariant ∙ ap (λ slots. c.args.rules.now.items ++ map (blind_rule c.args.script.now) slots) (take_all c.loop-slot.slot-index c.args.slots.now c.loop-slot-test.false)
