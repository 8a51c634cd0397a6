use Rattle.std.specs.VecDeque.{deque_capacity}
use Rattle.cany_totcan.proofs.OpenSetFacts.{kept-none}
use Rattle.cany_totcan.proofs.queue.OpenMessages.build.Goals as goal

pub invariant_of-result : goal.invariant_of-result
invariant_of-result c =
    rw c.in_ok-entries.ensures.items
    (kept-none c.args.numbers c.args.room (deque_capacity c.in_ok-entries.entries) c.in_ok-members.members c.in_ok-members.ensures c.in_ok-entries.ensures.capacity)
