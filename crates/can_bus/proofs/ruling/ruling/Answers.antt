use Rattle.std.proofs.Common.{◌≡◌, ◌≤◌, ◌+◌, ℕ, List, [], min, refl, sym, ap, subst, ◌∙◌, arith}
use Rattle.std.specs.Prelude.{Option, Some, None}
use Rattle.cany_base.specs.declared.rule.Rule.{Rule}
use Rattle.cany_base.specs.declared.rule.Verdict.TheVariants.{Clean}
use Rattle.cany_base.specs.declared.slot_note.SlotNote.{SlotNote}
use Rattle.cany_base.specs.Frame.{FrameParts}
use Rattle.cany_base.specs.Nodes.{Nodes, nobody}
use Rattle.cany_base.specs.Limits.{most_slots}
use Rattle.cany_model.specs.Bus.Slot.{script}
use Rattle.can_arbiter.specs.declared.arbitration.Outcome.{Outcome}
use Rattle.can_fault.specs.Rules.{next_attempt}
use Rattle.can_fault.specs.Attempts.{greatest}
use Rattle.can_arbiter.specs.Outcome.{frame_of}
use Rattle.can_bus.proofs.ruling.ruling.Goals as goal

-- without rules a slot is Clean and stops nobody
unruled : (rules : List Rule) (trace : List SlotNote) (frame : Option FrameParts) (stop : Nodes) → rules ≡ [] → stop ≡ nobody
    → record { verdict = Clean; stop = stop } ≡ script rules trace frame
unfolding script
unruled rules trace None stop none nobody_stops = rw (none, nobody_stops) refl
unruled rules trace (Some f) stop none nobody_stops = rw (none, nobody_stops) refl

pub returns-then-is_empty-clause-ruling : goal.returns-then-is_empty-clause-ruling
returns-then-is_empty-clause-ruling c = λ trace counts at short.
    unruled c.args.script.now trace (frame_of c.args.outcome.now) c.empty.result (c.is_empty.ensures.0 c.if-is_empty.true) c.empty.ensures.set

-- a count that no run reaches
counted_low : (count slots : ℕ) → count ≤ slots + 1 → slots ≤ most_slots → min count greatest ≡ count
counted_low count slots low short = omega arith

pub returns-in-Won-clause-ruling : goal.returns-in-Won-clause-ruling
returns-in-Won-clause-ruling c trace counts at short =
    let number : c.count-number.result ≡ next_attempt c.args.script.now trace c.in-Won.frame =
    c.count-number.ensures.number c.args.script.now trace counts
    ∙ counted_low (next_attempt c.args.script.now trace c.in-Won.frame) c.args.slot (subst (λ n. next_attempt c.args.script.now trace c.in-Won.frame ≤ n + 1) (sym at) (c.attempts_are_at_most_slots.ensures c.args.script.now trace c.in-Won.frame)) short in
    c.verdict.ensures.script trace at number ∙ ap (λ (o : Outcome). script c.args.script.now trace (frame_of o)) (sym c.in-Won.is)

pub returns-in-Won-clause-counts : goal.returns-in-Won-clause-counts
returns-in-Won-clause-counts c trace note counts carries =
    c.count-number.ensures.counted c.args.script.now trace note counts (carries ∙ ap frame_of c.in-Won.is)
