use Rattle.std.proofs.Common.{◌-◌, length, take, drop, ap, ◌∙◌, arith}
use Rattle.cany_base.specs.Nodes.{node_numbers}
use Rattle.cany_text.specs.ReportLines.{numbers_text}
use Rattle.cany_log.proofs.NumbersFacts.{neighbours-within, neighbours_text}
use Rattle.cany_log.proofs.neighbours.numbers_from_to.Goals as goal

pub slice_bounds-result-count : goal.slice_bounds-result-count
slice_bounds-result-count c =
    omega (arith, c.place_of_number-first.ensures, c.place_of_number-past.ensures, (neighbours-within c.args.start c.args.end c.requires.order c.requires.few).0)

pub slice_bounds-result-start : goal.slice_bounds-result-start
slice_bounds-result-start c =
    omega (arith, c.place_of_number-first.ensures, c.place_of_number-past.ensures, (neighbours-within c.args.start c.args.end c.requires.order c.requires.few).0)

pub slice_bounds-result-end : goal.slice_bounds-result-end
slice_bounds-result-end c =
    omega (arith, c.place_of_number-past.ensures, ap length c.all_numbers.ensures, (neighbours-within c.args.start c.args.end c.requires.order c.requires.few).1)

pub returns : goal.returns
returns c =
    let first = c.place_of_number-first.ensures in
    let count = c.place_of_number-past.result - 1 - c.place_of_number-first.result in
    ap (λ r. take count (drop c.place_of_number-first.result r)) c.all_numbers.ensures
    ∙ ap (λ n. take count (drop n (numbers_text node_numbers))) first
    ∙ neighbours_text c.args.start c.args.end count c.requires.order c.requires.few (omega (arith, first, c.place_of_number-past.ensures))
