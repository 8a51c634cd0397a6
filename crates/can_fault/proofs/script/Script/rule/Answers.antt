-- The table has the rules of the script.
use Rattle.std.proofs.Common.{sym, ◌∙◌}
use Rattle.cany_base.specs.declared.rule.Place.TheVariants.{At}
use Rattle.can_fault.proofs.TableFacts.{none_of, used_attempt, used_slot}
use Rattle.can_fault.proofs.script.Script.rule.Goals as goal

pub returns-in-Some : goal.returns-in-Some
returns-in-Some c =
    rw (← c.self.view_is)
    (used_slot c.self.inside.rules.items c.self.inside.table c.args.slot c.args.carried c.in-Some.rule c.self.invariant (sym c.for_slot.ensures ∙ c.in-Some.is))

pub returns : goal.returns
returns c =
    rw (c.in_ok-frame.was, ← c.self.view_is)
    (c.for_attempt.ensures ∙ used_attempt c.self.inside.rules.items c.self.inside.table c.args.slot c.in_ok-frame.frame c.in_ok-frame.attempt c.self.invariant (sym c.for_slot.ensures ∙ none_of c.for_slot.result c.in_default.not-Some))

pub returns-in_err-frame : goal.returns-in_err-frame
returns-in_err-frame c =
    rw (c.in_err-frame.was, ← c.self.view_is)
    (c.from_residual.ensures ∙ sym (none_of c.for_slot.result c.in_default.not-Some) ∙ c.for_slot.ensures ∙ c.self.invariant (At c.args.slot))
