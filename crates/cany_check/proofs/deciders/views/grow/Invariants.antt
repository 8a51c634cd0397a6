use Rattle.std.proofs.Common.{◌≡◌, ◌+◌, ◌-◌, ℕ, None, length, get_or}
use Rattle.cany_check.proofs.deciders.views.grow.Given as goal

abbrev pub invariant-loop-rows : goal.invariant-loop-rows
invariant-loop-rows l = (k : ℕ) → get_or l.rows.items k None ≡ get_or l.fn.rows.items k None

abbrev pub decreases-loop-rows : goal.decreases-loop-rows
decreases-loop-rows l = l.number + 1 - length l.rows.items
