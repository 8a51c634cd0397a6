use Rattle.std.proofs.Common.{rules, ◌+◌, ◌<◌, ◌∙◌, List, ap, arith, drop, length, map, sym}
use Rattle.std.specs.Prelude.{option_map, slice_index_or}
use Rattle.std.proofs.lemmas.List.{drop_all}
use Rattle.cany_check.specs.declared.deciders.order.Item.{Item}
use Rattle.cany_check.specs.Accounts.AccountFields.{log_parts}
use Rattle.cany_check.specs.Deciding.Reference.{first_clash, parting_at}
use Rattle.cany_check.proofs.Deciding.MeetingFacts.{first_agrees, first_differs, nobody_left, none_is}
use Rattle.cany_check.proofs.Deciding.NodeOrderFacts.{log_at, place_within, same_length}
use Rattle.cany_check.proofs.deciders.order.first_clash.Goals as goal

pub offset_bounds-logs-order : goal.offset_bounds-logs-order
offset_bounds-logs-order c =
    let within : slice_index_or c.args.order.now c.loop-i.i 0 < length c.args.logs.now = place_within c.args.logs.now c.args.order.now c.requires.places c.loop-i.i 0 c.loop-i-test.true in
    search rules

pub bounds-logs-order : goal.bounds-logs-order
bounds-logs-order c = place_within c.args.logs.now c.args.order.now c.requires.places c.loop-i.i 0 c.loop-i-test.true

pub returns-then-is_some : goal.returns-then-is_some
returns-then-is_some c sorted are =
    let log = c.index-logs-order.result in
    let rest = log_at c.args.logs.now c.args.order.now sorted are c.loop-i.i 0 c.loop-i-test.true log c.index-logs-order.is in
    first_differs c.args.messages.now c.loop-i.reference.items (log_parts log) (drop (c.loop-i.i + 1) sorted) (drop c.loop-i.i sorted) c.in_ok-found.found rest c.in_ok-found.ensures.found
    (sym c.is_some.ensures ∙ c.if-is_some.true)
    ∙ ap (option_map parting_at) (c.loop-i.invariant sorted are)

pub loop-i-preserved : goal.loop-i-preserved
loop-i-preserved c sorted are =
    let log = c.index-logs-order.result in
    let rest = log_at c.args.logs.now c.args.order.now sorted are c.loop-i.i 0 c.loop-i-test.true log c.index-logs-order.is in
    let none = none_is c.in_ok-found.found (sym c.is_some.ensures ∙ c.if-is_some.false) in
    ap (λ (l : List Item). first_clash c.args.messages.now l (drop (c.loop-i.i + 1) sorted)) (c.in_ok-found.ensures.on none)
    ∙ sym (first_agrees c.args.messages.now c.loop-i.reference.items (log_parts log) (drop (c.loop-i.i + 1) sorted) (drop c.loop-i.i sorted) rest (sym c.in_ok-found.ensures.found ∙ none))
    ∙ c.loop-i.invariant sorted are

pub returns : goal.returns
returns c sorted are =
    let ends = drop_all c.loop-i.i sorted (omega (arith, same_length (map log_parts c.args.logs.now) c.args.order.now sorted are, c.loop-i-test.false)) in
    sym (ap (option_map parting_at) (sym (c.loop-i.invariant sorted are) ∙ nobody_left c.args.messages.now c.loop-i.reference.items (drop c.loop-i.i sorted) ends))
