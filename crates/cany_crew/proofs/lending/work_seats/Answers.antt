use Rattle.std.proofs.Common.{◌≡◌, ◌-◌, ◌++◌, length, drop, take, refl, ap, ◌∙◌, arith, vec_len, map}
use Rattle.std.proofs.lemmas.List.{length-append, length-map}
use Rattle.cany_crew.specs.Assignments.{counts_of, first_refused}
use Rattle.cany_crew.proofs.AssignmentFacts.{bus_stays, counts_stay, held_within, outcome_is}
use Rattle.cany_crew.proofs.lending.work_seats.Goals as goal

pub empty_assignments-bus-requires-clause-bus : goal.empty_assignments-bus-requires-clause-bus
empty_assignments-bus-requires-clause-bus g c κs within = bus_stays c.fill_assignments.new.assignments.items c.work_all.new.assignments.items c.work_all.ensures ∙ c.fill_assignments.ensures.bus

pub empty_assignments-bus-requires-clause-seats : goal.empty_assignments-bus-requires-clause-seats
empty_assignments-bus-requires-clause-seats g c κs within =
    let n = counts_stay c.fill_assignments.new.assignments.items c.work_all.new.assignments.items c.work_all.ensures in
    let count = c.fill_assignments.ensures.count in
    let room = c.requires.room.1 in
    let none : length c.args.rooms.seats.items ≡ 0 = ap (λ xs. length xs) c.requires.empty.1 in
    omega (arith, n, count, room, none, c.args.rooms.seats.ok)

pub empty_assignments-bus-requires-clause-gates : goal.empty_assignments-bus-requires-clause-gates
empty_assignments-bus-requires-clause-gates g c κs within =
    let n = counts_stay c.fill_assignments.new.assignments.items c.work_all.new.assignments.items c.work_all.ensures in
    let count = c.fill_assignments.ensures.count in
    let room = c.fill_assignments.ensures.room in
    omega (arith, n, count, room)

pub rotate_right-requires : goal.rotate_right-requires
rotate_right-requires g c =
    let n = counts_stay c.fill_assignments.new.assignments.items c.work_all.new.assignments.items c.work_all.ensures in
    let count = c.fill_assignments.ensures.count in
    let mapped : length (map g.G.Gate.refusals c.empty_assignments-bus.new.gates.items) ≡ length c.empty_assignments-bus.new.gates.items =
    length-map c.empty_assignments-bus.new.gates.items g.G.Gate.refusals in
    let len = ap (λ xs. length xs) c.empty_assignments-bus.ensures.gates
    ∙ length-append (map g.G.Gate.refusals c.fill_assignments.new.gates.items) (counts_of c.work_all.new.assignments.items) in
    omega (arith, n, count, mapped, len, c.empty_assignments-bus.new.gates.ok.0, c.len-nodes.ensures)

pub returns-clause-seats : goal.returns-clause-seats
returns-clause-seats g c =
    let n = counts_stay c.fill_assignments.new.assignments.items c.work_all.new.assignments.items c.work_all.ensures in
    let count = c.fill_assignments.ensures.count in
    let back = c.empty_assignments-bus.ensures.seats in
    let none : length c.args.rooms.seats.items ≡ 0 = ap (λ xs. length xs) c.requires.empty.1 in
    omega (arith, n, count, back, none, c.args.rooms.seats.ok)

pub returns-clause-outcome : goal.returns-clause-outcome
returns-clause-outcome g c =
    let len : vec_len c.empty_assignments-bus.new.gates ≡ length c.empty_assignments-bus.new.gates.items = omega (arith, c.empty_assignments-bus.new.gates.ok.0) in
    let nodes : c.len-nodes.result ≡ length (counts_of c.fill_assignments.new.assignments.items) = let count = c.fill_assignments.ensures.count in omega (arith, count, c.len-nodes.ensures) in
    outcome_is g.G.Gate.refusals g.G.Gate.refused_at c.fill_assignments.new.assignments.items c.work_all.new.assignments.items c.args.gates.now.items c.fill_assignments.new.gates.items
    c.empty_assignments-bus.new.gates.items c.rotate_right.new.self.items c.first_refused-held.result (length (counts_of c.fill_assignments.new.assignments.items))
    c.fill_assignments.ensures.order c.work_all.ensures refl c.fill_assignments.ensures.gates c.empty_assignments-bus.ensures.gates
    c.empty_assignments-bus.ensures.slots
    (c.rotate_right.ensures.items
    ∙ ap (λ k. drop (k - c.len-nodes.result) c.empty_assignments-bus.new.gates.items ++ take (k - c.len-nodes.result) c.empty_assignments-bus.new.gates.items) len
    ∙ ap (λ n. drop (length c.empty_assignments-bus.new.gates.items - n) c.empty_assignments-bus.new.gates.items ++ take (length c.empty_assignments-bus.new.gates.items - n) c.empty_assignments-bus.new.gates.items) nodes)
    (c.first_refused-held.ensures ∙ ap first_refused c.as_slice.ensures.value)

pub returns-clause-node : goal.returns-clause-node
returns-clause-node g c =
    held_within c.fill_assignments.new.assignments.items c.work_all.new.assignments.items c.first_refused-held.result _ c.fill_assignments.ensures.order
    c.work_all.ensures c.fill_assignments.ensures.count (c.first_refused-held.ensures ∙ ap first_refused c.as_slice.ensures.value)

pub fill_assignments-requires-clause-empty : goal.fill_assignments-requires-clause-empty
fill_assignments-requires-clause-empty g c κs within = c.requires.empty.0

pub fill_assignments-requires-clause-room : goal.fill_assignments-requires-clause-room
fill_assignments-requires-clause-room g c κs within = c.requires.room.0

pub fill_assignments-requires-clause-seats : goal.fill_assignments-requires-clause-seats
fill_assignments-requires-clause-seats g c κs within = c.requires.seats

pub fill_assignments-requires-clause-nodes : goal.fill_assignments-requires-clause-nodes
fill_assignments-requires-clause-nodes g c κs within = c.requires.nodes

pub fill_assignments-requires-clause-gates : goal.fill_assignments-requires-clause-gates
fill_assignments-requires-clause-gates g c κs within = c.requires.gates
