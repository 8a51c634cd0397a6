-- One more slot.
use Rattle.std.proofs.Common.{◌≡◌, ℕ, ◌+◌, ◌<◌, Bool, true, false, refl, ap, sym, ◌∙◌, arith, subst, length, if◌then◌else◌}
use Rattle.cany_model.specs.Promises.Hypothesis.{first_break}
use Rattle.can_fault.specs.Tally.{TallyParts, IsTallyOf, is_partial_slot}
use Rattle.can_fault.specs.TallyFields.{parts_of}
use Rattle.can_fault.proofs.TallyFacts.{kept_of, noted_run}
use mir.Val.{bool_byte}
use Rattle.can_fault.proofs.tally.Tally.note.Goals as goal

one_fits : (t : Bool) (n b partials rules : ℕ) → n ≡ (if t then 1 else 0) → (t ≡ true → partials < rules) → rules < b → partials < b → partials + n < b
one_fits true n b partials rules e room small has = omega (arith, room refl)
one_fits false n b partials rules e room small has = omega arith

byte_is : (t : Bool) → bool_byte t ≡ (if t then 1 else 0)
byte_is true = refl
byte_is false = refl

pub overflow_add-self : goal.overflow_add-self
overflow_add-self c =
    let partials : c.self.inside.partials ≡ c.args.self.now.partials = ap (λ (t : TallyParts). t.partials) c.self.view_is in
    let rules : c.self.inside.rules ≡ c.args.self.now.rules = ap (λ (t : TallyParts). t.rules) c.self.view_is in
    let small : c.self.inside.partials + c.from.result < 18446744073709551616 =
    one_fits (is_partial_slot c.args.note.now) c.from.result 18446744073709551616 c.self.inside.partials c.self.inside.rules
    (c.from.ensures ∙ byte_is c.is_partial_slot.result ∙ ap {B = ℕ} (λ t. if t then 1 else 0) c.is_partial_slot.ensures)
    (λ t. omega (arith, c.requires.room t)) (omega (arith, c.self.ranges)) (omega (arith, c.self.ranges)) in
    omega arith

pub returns-clause-run : goal.returns-clause-run
returns-clause-run c = λ trace run.
    let old : IsTallyOf trace (parts_of c.self.inside) = subst (IsTallyOf trace) (sym c.self.view_is) run in
    let slot : c.args.note.now.slot ≡ length trace = c.requires.next ∙ run.slots in
    let first : c.self.inside.first ≡ first_break c.self.inside.params trace = old.first in
    let kept = kept_of trace c.self.inside c.self.invariant old in
    noted_run trace c.self.inside c.args.note.now c.next_break-self-inside.result c.next_break-self-inside.new.breaks c.from.result old slot
    (c.next_break-self-inside.ensures.next c.self.inside.params trace slot first kept)
    (c.next_break-self-inside.ensures.kept c.self.inside.params trace slot first kept)
    (c.from.ensures ∙ byte_is c.is_partial_slot.result ∙ ap {B = ℕ} (λ t. if t then 1 else 0) c.is_partial_slot.ensures)
