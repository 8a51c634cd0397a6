-- Each verdict breaks what the model says, and what is kept after it is that of the longer run.
use Rattle.std.proofs.Common.{sym, ◌∙◌}
use Rattle.can_fault.proofs.BreakFacts.{break_silent}
use Rattle.can_fault.proofs.KeptFacts.{clean_breaks, clean_kept, lost_breaks, lost_kept, omit_breaks, partial_breaks, partial_kept}
use Rattle.can_fault.proofs.breaks.Breaks.note.Goals as goal

pub returns-in-Silent-clause-broken : goal.returns-in-Silent-clause-broken
returns-in-Silent-clause-broken c = λ p trace kept slot.
    sym (break_silent p c.args.note.now trace c.args.frame.now c.in-Silent.field-0 c.requires.frame c.in-Silent.is)

pub returns-in-Clean-clause-broken : goal.returns-in-Clean-clause-broken
returns-in-Clean-clause-broken c = λ p trace kept slot.
    clean_breaks p trace c.args.self.now c.args.note.now c.args.frame.now kept (record { frame = c.requires.frame; slot = slot }) c.in-Clean.is

pub returns-in-Clean-clause-kept : goal.returns-in-Clean-clause-kept
returns-in-Clean-clause-kept c = λ p trace kept slot unbroken.
    clean_kept p trace c.args.self.now c.args.note.now c.args.frame.now kept (record { frame = c.requires.frame; slot = slot }) c.in-Clean.is

pub returns-in-Lost-clause-broken : goal.returns-in-Lost-clause-broken
returns-in-Lost-clause-broken c = λ p trace kept slot.
    c.then_some.ensures
    ∙ lost_breaks p trace c.args.self.now c.args.note.now c.args.frame.now kept (record { frame = c.requires.frame; slot = slot })
    c.note.new.self c.note.result c.in-Lost.is c.note.ensures.noted c.note.ensures.crowded

pub returns-in-Lost-clause-kept : goal.returns-in-Lost-clause-kept
returns-in-Lost-clause-kept c = λ p trace kept slot unbroken.
    lost_kept p trace c.args.self.now c.args.note.now c.args.frame.now kept (record { frame = c.requires.frame; slot = slot })
    c.note.new.self c.in-Lost.is c.note.ensures.noted (sym (returns-in-Lost-clause-broken c p trace kept slot) ∙ unbroken)

pub returns-then-not-count-clause-broken : goal.returns-then-not-count-clause-broken
returns-then-not-count-clause-broken c = λ p trace kept slot.
    omit_breaks p trace c.args.self.now c.args.note.now c.args.frame.now kept (record { frame = c.requires.frame; slot = slot })
    c.in-Partial.field-0 c.count.result c.in-Partial.is (rw c.of.ensures at c.count.ensures.below) c.if-not-count.true

pub returns-else-not-count-clause-broken : goal.returns-else-not-count-clause-broken
returns-else-not-count-clause-broken c = λ p trace kept slot.
    c.then_some-in-Partial.ensures
    ∙ partial_breaks p trace c.args.self.now c.args.note.now c.args.frame.now kept (record { frame = c.requires.frame; slot = slot })
    c.in-Partial.field-0 c.count.result c.note-in-Partial.new.self c.note-in-Partial.result c.in-Partial.is (rw c.of.ensures at c.count.ensures.below) c.if-not-count.false
    c.note-in-Partial.ensures.noted c.note-in-Partial.ensures.crowded

pub returns-else-not-count-clause-kept : goal.returns-else-not-count-clause-kept
returns-else-not-count-clause-kept c = λ p trace kept slot unbroken.
    partial_kept p trace c.args.self.now c.args.note.now c.args.frame.now kept (record { frame = c.requires.frame; slot = slot })
    c.in-Partial.field-0 c.note-in-Partial.new.self c.count.new.self c.in-Partial.is c.note-in-Partial.ensures.noted (sym (returns-else-not-count-clause-broken c p trace kept slot) ∙ unbroken)
    (λ other. rw c.of.ensures at (c.count.ensures.counted c.if-not-count.false other))
