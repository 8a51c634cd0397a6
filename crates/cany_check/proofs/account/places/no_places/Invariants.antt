use Rattle.std.proofs.Common.{◌≡◌, [], replicate}
use Rattle.cany_check.specs.Accounts.Places.{lists_of}
use Rattle.cany_check.proofs.account.places.no_places.Given as goal

abbrev pub invariant-loop : goal.invariant-loop
invariant-loop l = lists_of l.rows.items ≡ replicate l.counter []
