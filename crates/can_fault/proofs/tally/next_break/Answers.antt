-- A break stays the first, and one that is new comes where there was none.
use Rattle.std.proofs.Common.{◌≡◌, Option, Some, None, true, false, refl, sym, ◌∙◌}
use Rattle.std.specs.Option.{is_some}
use Rattle.std.proofs.lemmas.Bool.{false≢true}
use Rattle.cany_base.specs.declared.slot_note.SlotNote.{SlotNote}
use Rattle.cany_base.specs.Params.{Parameters}
use Rattle.cany_model.specs.declared.breaks.Break.{Break}
use Rattle.cany_model.specs.Promises.Hypothesis.{first_break}
use Rattle.std.proofs.Common.{List, ◌∷◌}
use Rattle.cany_model.proofs.Promises.BreakFacts.{first_break_stays}
use Rattle.can_fault.proofs.BreakFacts.{broken_next, unbroken_more}
use Rattle.can_fault.proofs.KeptFacts.{idle_breaks, idle_kept}
use Rattle.can_fault.proofs.tally.next_break.Goals as goal

none_from : (o : Option Break) → is_some o ≡ false → o ≡ None
none_from None h = refl
none_from (Some b) h = absurd (false≢true (sym h))

stays : (first : Option Break) (p : Parameters) (note : SlotNote) (trace : List SlotNote) → is_some first ≡ true → first ≡ first_break p trace → first ≡ first_break p (note ∷ trace)
stays None p note trace found e = absurd (false≢true found)
stays (Some b) p note trace found e = sym (first_break_stays p note trace b (sym e))

pub returns-then-is_some-clause-next : goal.returns-then-is_some-clause-next
returns-then-is_some-clause-next c = λ p trace slot e kept.
    stays c.args.first p c.args.note.now trace (sym c.is_some.ensures ∙ c.if-is_some.true) e

pub returns-in_err-frame-clause-next : goal.returns-in_err-frame-clause-next
returns-in_err-frame-clause-next c = λ p trace slot e kept.
    let none = none_from c.args.first (sym c.is_some.ensures ∙ c.if-is_some.false) in
    c.from_residual.ensures ∙ sym (unbroken_more p c.args.note.now trace (sym e ∙ none) (idle_breaks p trace c.args.breaks.now c.args.note.now (kept none) c.in_err-frame.was slot))

pub returns-in_err-frame-clause-kept : goal.returns-in_err-frame-clause-kept
returns-in_err-frame-clause-kept c = λ p trace slot e kept unbroken.
    let none = none_from c.args.first (sym c.is_some.ensures ∙ c.if-is_some.false) in
    idle_kept p trace c.args.breaks.now c.args.note.now (kept none) c.in_err-frame.was slot

pub returns-clause-next : goal.returns-clause-next
returns-clause-next c = λ p trace slot e kept.
    let none = none_from c.args.first (sym c.is_some.ensures ∙ c.if-is_some.false) in
    sym (broken_next p c.args.note.now trace c.in_ok-kind.kind (sym e ∙ none) (sym (c.note.ensures.broken p trace (kept none) slot) ∙ c.in_ok-kind.was))
