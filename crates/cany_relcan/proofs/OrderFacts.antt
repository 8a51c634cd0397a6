-- The timers that run stay in the order in which they were started.
use Rattle.std.proofs.Common.{ℕ, zero, suc, ◌<◌, List, [], ◌∷◌, ◌++◌, drop}
use Rattle.std.specs.List.{AllByRecursion}
use Rattle.cany_model.proofs.Among.{Each-append}
use Rattle.cany_relcan.specs.declared.timers.Timer.{Timer}
use Rattle.cany_relcan.specs.Timers.{IsAscending}

-- with one more, which was started later
pub ascending_more : (timers : List Timer) (timer : Timer) → IsAscending timers → AllByRecursion (λ t. t.first < timer.first) timers → IsAscending (timers ++ timer ∷ [])
ascending_more [] timer order later = (tt, tt)
ascending_more (t ∷ timers) timer order later =
    (Each-append (λ u. t.first < u.first) timers (timer ∷ []) order.0 (later.0, tt), ascending_more timers timer order.1 later.1)

-- without the oldest
pub ascending_drop : (n : ℕ) (timers : List Timer) → IsAscending timers → IsAscending (drop n timers)
ascending_drop zero timers order = order
ascending_drop (suc n) [] order = tt
ascending_drop (suc n) (t ∷ timers) order = ascending_drop n timers order.1
