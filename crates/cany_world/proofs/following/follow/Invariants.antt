use Rattle.cany_world.proofs.FollowFacts.{IsAlong}
use Rattle.cany_world.proofs.following.follow.Given as goal

abbrev pub invariant-loop-place : goal.invariant-loop-place
invariant-loop-place l = IsAlong l.fn.world l.world l.journal l.place
