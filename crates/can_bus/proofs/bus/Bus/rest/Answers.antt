use Rattle.std.proofs.Common.{◌≡◌, ◌+◌, ◌≤◌, List, length, reverse, ap, refl, subst, sym, ◌∙◌, arith}
use Rattle.std.proofs.lemmas.List.{length-reverse}
use Rattle.cany_base.specs.declared.slot_note.SlotNote.{SlotNote}
use Rattle.can_fault.specs.Tally.{IsTallyOf}
use Rattle.can_bus.specs.Bus.{Follows}
use Rattle.can_bus.specs.BusFields.{parts_of}
use Rattle.can_bus.specs.Rest.{idle_trace}
use Rattle.can_bus.proofs.RestFacts.{follows_idle, length_rested, length-idle_trace, none_more, sound_rested, tally_idle}
use Rattle.can_bus.proofs.bus.Bus.rest.Goals as goal

pub overflow_sub-len : goal.overflow_sub-len
overflow_sub-len c =
    omega (arith, c.len.ensures.len, length_rested c.args.slots c.self.inside c.push_idle.new.trace c.push_idle.ensures.items, c.if-slots-gt0.true)

pub invariant_of-self : goal.invariant_of-self
invariant_of-self c =
    let before : List SlotNote = reverse c.self.inside.trace.items in
    let left : length c.self.inside.trace.items + c.args.slots ≤ c.self.inside.params.slots = omega (arith, length-reverse c.self.inside.trace.items, rw (← c.self.view_is) at c.requires) in
    let long : length (idle_trace c.args.slots before) ≡ c.len.result =
    ap (λ (t : List SlotNote). length t) (sym c.push_idle.ensures.items) ∙ length-reverse c.push_idle.new.trace.items ∙ sym c.len.ensures.len in
    let all : length (idle_trace c.args.slots before) ≡ c.args.slots + length before = length-idle_trace c.args.slots before in
    sound_rested c.args.slots c.self.inside c.push_idle.new.trace c.push_idle.ensures.items c.rest.new.self c.self.invariant c.push_idle.ensures.room left
    (tally_idle c.args.slots _ before c.self.inside.tally c.rest.new.self c.rest.ensures.run (omega (arith, long, all, c.if-slots-gt0.true)) c.self.invariant.tally) c.rest.ensures.params

pub invariant_of-self-else-slots-gt0 : goal.invariant_of-self-else-slots-gt0
invariant_of-self-else-slots-gt0 c =
    let before : List SlotNote = reverse c.self.inside.trace.items in
    let left : length c.self.inside.trace.items + c.args.slots ≤ c.self.inside.params.slots = omega (arith, length-reverse c.self.inside.trace.items, rw (← c.self.view_is) at c.requires) in
    sound_rested c.args.slots c.self.inside c.push_idle.new.trace c.push_idle.ensures.items c.self.inside.tally c.self.invariant c.push_idle.ensures.room left
    (subst (λ (t : List SlotNote). IsTallyOf t c.self.inside.tally) (none_more c.args.slots before (omega (arith, c.if-slots-gt0.false))) c.self.invariant.tally) refl

pub returns-then-slots-gt0-clause-follows : goal.returns-then-slots-gt0-clause-follows
returns-then-slots-gt0-clause-follows c = λ rules was.
    follows_idle rules c.args.slots (parts_of c.self.inside) (parts_of (record c.self.inside { trace = c.push_idle.new.trace; tally = c.rest.new.self }))
    c.push_idle.ensures.items refl c.rest.ensures.rules (subst (Follows rules) (sym c.self.view_is) was)

pub returns-else-slots-gt0-clause-follows : goal.returns-else-slots-gt0-clause-follows
returns-else-slots-gt0-clause-follows c = λ rules was.
    follows_idle rules c.args.slots (parts_of c.self.inside) (parts_of (record c.self.inside { trace = c.push_idle.new.trace }))
    c.push_idle.ensures.items refl refl (subst (Follows rules) (sym c.self.view_is) was)
