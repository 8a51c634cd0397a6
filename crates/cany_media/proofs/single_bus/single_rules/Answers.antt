use Rattle.std.proofs.Common.{arith, ◌≡◌, ◌+◌, ◌∙◌, refl}
use Rattle.cany_media.proofs.LegalFacts.{rules_are, rules_number}
use Rattle.cany_media.proofs.single_bus.single_rules.Goals as goal

pub returns-then-count-clause-too_many : goal.returns-then-count-clause-too_many
returns-then-count-clause-too_many c rules is =
    let same : c.len.result + c.len-2.result ≡ rules = cc in
    let number = rules_number c.args.scenario.now c.args.plan.now c.in_ok-rules.rules.items c.in_ok-slots.slots.items c.in_ok-rules.ensures c.in_ok-slots.ensures in
    let kept = c.in_ok-rules.rules.ok in
    let blind = c.in_ok-slots.slots.ok in
    (omega arith, omega arith)

pub returns-clause-ok : goal.returns-clause-ok
returns-clause-ok c =
    rules_are c.args.scenario.now c.args.plan.now c.in_ok-rules.rules.items c.add_blind_rules.new.rules.items c.in_ok-slots.slots.items c.in_ok-rules.ensures c.in_ok-slots.ensures
    (c.in_ok-add_blind_rules.ensures ∙ rw (c.deref.ensures.value, c.in_ok-script.ensures) refl)

pub returns-clause-few : goal.returns-clause-few
returns-clause-few c =
    let number = rules_number c.args.scenario.now c.args.plan.now c.in_ok-rules.rules.items c.in_ok-slots.slots.items c.in_ok-rules.ensures c.in_ok-slots.ensures in
    let kept = c.in_ok-rules.rules.ok in
    let blind = c.in_ok-slots.slots.ok in
    omega arith
