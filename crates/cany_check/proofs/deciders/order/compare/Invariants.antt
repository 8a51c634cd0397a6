use Rattle.std.proofs.Common.{◌≡◌, ◌≤◌, ◌++◌, drop, length}
use Rattle.cany_check.specs.Accounts.AccountFields.{log_parts}
use Rattle.cany_check.specs.Deciding.Meeting.{ahead}
use Rattle.cany_check.specs.Deciding.Reference.{clash, cut, items_in, items_of, with_items}
use Rattle.cany_check.proofs.deciders.order.compare.Given as goal

abbrev pub invariant-loop-entry : goal.invariant-loop-entry
invariant-loop-entry l =
    let rest = cut l.log.from (items_in l.messages l.log.node (drop l.entry-index l.log.entries.now)) in
    let all = items_of l.messages (log_parts l.log) in
    record {
      within : l.cursor.next ≤ length l.reference.items;
      behind : l.cursor.place ≤ l.cursor.next;
      clash_is : clash l.cursor.place (ahead l.log.from l.cursor l.reference.items) rest ≡ clash 0 (cut l.log.from l.fn.reference.items) all;
      list_is : l.reference.items ++ drop (length (ahead l.log.from l.cursor l.reference.items)) rest ≡ with_items l.log.from all l.fn.reference.items;
    }
