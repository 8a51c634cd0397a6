use Rattle.std.proofs.Common.{vec_len, refl, sym, ap, ◌∙◌, arith}
use Rattle.std.specs.Prelude.{is_some}
use Rattle.std.proofs.lemmas.Bool.{eqb-false, eqb-true}
use Rattle.cany_crew.specs.Assignment.{AssignmentParts}
use Rattle.cany_crew.proofs.AssignmentFacts.{emptied_all, emptied_bus, emptied_node, emptied_none, emptied_some}
use Rattle.cany_crew.proofs.assigning.empty_assignments.Goals as goal

pub loop-assignments-init : goal.loop-assignments-init
loop-assignments-init g c =
    (refl, refl, omega arith, emptied_none g.G.Gate.refusals g.G.Gate.refused_at _ c.args.assignments.items c.args.gates.now.items (vec_len c.args.seats.now))

pub loop-assignments-preserved-in-Bus : goal.loop-assignments-preserved-in-Bus
loop-assignments-preserved-in-Bus g c =
    let i = c.loop-assignments.invariant in
    let some = eqb-false (vec_len c.loop-assignments.assignments) 0 (sym c.is_empty.ensures ∙ c.loop-assignments-test.true) in (
      i.0,
      i.1,
      i.2,
      emptied_bus g.G.Gate.refusals g.G.Gate.refused_at _ _ c.args.assignments.items c.loop-assignments.assignments.items c.remove.new.self.items c.args.gates.now.items c.loop-assignments.gates.items
          (vec_len c.args.seats.now) (vec_len c.loop-assignments.seats) c.remove.result c.in-Bus.bus i.3 (omega (arith, some, c.loop-assignments.assignments.ok.0))
          c.remove.ensures.value c.remove.ensures.items c.in-Bus.is refl,
    )

pub loop-assignments-preserved : goal.loop-assignments-preserved
loop-assignments-preserved g c =
    let i = c.loop-assignments.invariant in
    let some = eqb-false (vec_len c.loop-assignments.assignments) 0 (sym c.is_empty.ensures ∙ c.loop-assignments-test.true) in
    let seat_len = c.push_reserved.ensures.len in
    let gate_len = c.push_reserved-in-Node.ensures.len in
    let left = i.2 in (
      c.push_reserved.ensures.capacity ∙ i.0,
      c.push_reserved-in-Node.ensures.capacity ∙ i.1,
      omega (arith, left, seat_len, gate_len),
      emptied_node g.G.Gate.refusals g.G.Gate.refused_at _ c.args.assignments.items c.loop-assignments.assignments.items c.remove.new.self.items c.args.gates.now.items c.loop-assignments.gates.items
          c.push_reserved-in-Node.new.self.items (vec_len c.args.seats.now) (vec_len c.loop-assignments.seats) (vec_len c.push_reserved.new.self) c.remove.result c.in-Node.assignment
          c.assignment.inside.gate i.3 (omega (arith, some, c.loop-assignments.assignments.ok.0)) c.remove.ensures.value c.remove.ensures.items c.in-Node.is
          (sym (ap (λ (p : AssignmentParts). p.refusals) c.assignment.view_is)) (sym (ap (λ (p : AssignmentParts). p.refused_at) c.assignment.view_is))
          c.push_reserved-in-Node.ensures.items seat_len,
    )

pub unreachable-requires : goal.unreachable-requires
unreachable-requires g c =
    let none = eqb-true (vec_len c.loop-assignments.assignments) 0 (sym c.is_empty.ensures ∙ c.loop-assignments-test.false) in
    emptied_some g.G.Gate.refusals g.G.Gate.refused_at _ c.args.assignments.items c.loop-assignments.assignments.items c.args.gates.now.items c.loop-assignments.gates.items
    (vec_len c.args.seats.now) (vec_len c.loop-assignments.seats) (omega (arith, none, c.loop-assignments.assignments.ok.0)) c.loop-assignments.invariant.3 c.requires.bus (ap is_some c.in-None.is)

pub returns-clause-gates : goal.returns-clause-gates
returns-clause-gates g c =
    let none = eqb-true (vec_len c.loop-assignments.assignments) 0 (sym c.is_empty.ensures ∙ c.loop-assignments-test.false) in
    (emptied_all g.G.Gate.refusals g.G.Gate.refused_at _ c.args.assignments.items c.loop-assignments.assignments.items c.args.gates.now.items c.loop-assignments.gates.items
    (vec_len c.args.seats.now) (vec_len c.loop-assignments.seats) (omega (arith, none, c.loop-assignments.assignments.ok.0)) c.loop-assignments.invariant.3).0

pub returns-clause-slots : goal.returns-clause-slots
returns-clause-slots g c =
    let none = eqb-true (vec_len c.loop-assignments.assignments) 0 (sym c.is_empty.ensures ∙ c.loop-assignments-test.false) in
    (emptied_all g.G.Gate.refusals g.G.Gate.refused_at _ c.args.assignments.items c.loop-assignments.assignments.items c.args.gates.now.items c.loop-assignments.gates.items
    (vec_len c.args.seats.now) (vec_len c.loop-assignments.seats) (omega (arith, none, c.loop-assignments.assignments.ok.0)) c.loop-assignments.invariant.3).1

pub returns-clause-seats : goal.returns-clause-seats
returns-clause-seats g c =
    let none = eqb-true (vec_len c.loop-assignments.assignments) 0 (sym c.is_empty.ensures ∙ c.loop-assignments-test.false) in
    (emptied_all g.G.Gate.refusals g.G.Gate.refused_at _ c.args.assignments.items c.loop-assignments.assignments.items c.args.gates.now.items c.loop-assignments.gates.items
    (vec_len c.args.seats.now) (vec_len c.loop-assignments.seats) (omega (arith, none, c.loop-assignments.assignments.ok.0)) c.loop-assignments.invariant.3).2
