use Rattle.std.proofs.Common.{◌≡◌, ◌≤◌, ◌+◌, length}
use Rattle.cany_node.proofs.GiveFacts.{KeepsGiving}
use Rattle.cany_node.proofs.SendFacts.{KeepsSending}
use Rattle.cany_node.proofs.sending.send_due.Given as goal

abbrev pub invariant-loop-planned : goal.invariant-loop-planned
invariant-loop-planned l = record {
  keeps : KeepsSending l.node l.slot l.fn.agenda l.agenda l.fn.out.items l.out.items;
  giving : KeepsGiving l.node l.slot l.fn.agenda l.agenda l.fn.totcan l.totcan;
  spare : length l.out.items + length l.agenda.left ≤ length l.fn.out.items + length l.fn.agenda.left;
  room : l.out.room ≡ l.fn.out.room;
  edcan : l.edcan ≡ l.fn.edcan;
  relcan : l.relcan ≡ l.fn.relcan;
}

abbrev pub decreases-loop-planned : goal.decreases-loop-planned
decreases-loop-planned l = length l.agenda.left
