use Rattle.std.proofs.Common.{◌≡◌, length, refl, sym, ap, ◌∙◌, arith, vec_len}
use Rattle.cany_crew.specs.Assignment.{AssignmentParts}
use Rattle.cany_crew.proofs.AssignmentFacts.{filled_next, filled_none, first_seats, next_seat}
use Rattle.cany_crew.proofs.assigning.fill_assignments.Goals as goal

pub loop-i-init : goal.loop-i-init
loop-i-init g c =
    let none : length c.args.assignments.now.items ≡ 0 = ap length c.requires.empty in
    let len = c.push_reserved.ensures.len in (
      omega arith,
      omega arith,
      omega (arith, none, len, c.args.assignments.now.ok.0),
      c.push_reserved.ensures.capacity,
      refl,
      filled_none g.G.Gate.refusals c.push_reserved.new.self.items c.args.assignments.now.items c.args.bus c.args.gates.now.items c.args.seats.items c.requires.empty
          c.push_reserved.ensures.items (first_seats (vec_len c.args.seats) c.args.seats.items c.requires.seats),
    )

pub loop-i-preserved : goal.loop-i-preserved
loop-i-preserved g c =
    let i = c.loop-i.invariant in
    let of_seat = c.remove-seat.ensures in
    let of_gate = c.remove-gate.ensures in
    let pushed = c.push_reserved-in-loop-i.ensures in
    let seat_len = of_seat.len in
    let gate_len = of_gate.len in
    let below = c.loop-i-test.true in
    let node : c.new.result.node ≡ c.loop-i.i = ap (λ (p : AssignmentParts). p.node) c.new.ensures ∙ c.of_index.ensures in (
      (let e = i.0 in omega arith),
      (let e = i.1 in omega arith),
      (let e = i.2 in let l = pushed.len in omega arith),
      pushed.capacity ∙ i.3,
      of_gate.capacity ∙ i.4,
      filled_next g.G.Gate.refusals c.loop-i.i c.loop-i.assignments.items c.push_reserved-in-loop-i.new.self.items c.loop-i.gates.items c.remove-gate.new.self.items
          c.args.gates.now.items c.loop-i.seats.items c.remove-seat.new.self.items c.remove-gate.result c.remove-seat.result c.new.result i.5
          (omega arith) of_seat.value of_seat.items (omega arith) of_gate.value of_gate.items
          node (ap (λ (p : AssignmentParts). p.refusals) c.new.ensures) pushed.items,
    )

pub returns-clause-gates : goal.returns-clause-gates
returns-clause-gates g c = c.loop-i.invariant.5.counts

pub returns-clause-count : goal.returns-clause-count
returns-clause-count g c = let count = c.loop-i.invariant.5.count in omega (arith, count)

pub returns-clause-bus : goal.returns-clause-bus
returns-clause-bus g c = c.loop-i.invariant.5.with_bus

pub returns-clause-order : goal.returns-clause-order
returns-clause-order g c = c.loop-i.invariant.5.order

pub new-requires-after_bounds : goal.new-requires-after_bounds
new-requires-after_bounds g c κs within =
    let left = c.loop-i.invariant.0 in
    let below = c.loop-i-test.true in
    next_seat g.G.Gate.refusals c.loop-i.i c.loop-i.assignments.items c.loop-i.gates.items c.args.gates.now.items c.loop-i.seats.items c.remove-seat.new.self.items c.remove-seat.result
    c.loop-i.invariant.5 (omega arith) c.remove-seat.ensures.value c.remove-seat.ensures.items ∙ sym c.of_index.ensures
