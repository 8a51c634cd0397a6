use Rattle.std.proofs.Common.{◌≡◌, List, drop, map}
use Rattle.cany_check.specs.Accounts.Account.{LogParts}
use Rattle.cany_check.specs.Accounts.AccountFields.{log_parts}
use Rattle.cany_check.specs.Deciding.NodeOrder.{AreAt}
use Rattle.cany_check.specs.Deciding.Reference.{first_clash}
use Rattle.cany_check.proofs.deciders.order.first_clash.Given as goal

abbrev pub invariant-loop-i : goal.invariant-loop-i
invariant-loop-i l =
    (sorted : List LogParts) → AreAt (map log_parts l.logs) l.order sorted → first_clash l.messages l.reference.items (drop l.i sorted) ≡ first_clash l.messages l.fn.reference.items sorted
