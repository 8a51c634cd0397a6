use Rattle.std.proofs.Common.{◌≡◌, ℕ, ◌+◌, ◌≤◌, subst, arith}
use Rattle.cany_node.specs.Node.{NodeParts}
use Rattle.cany_node.specs.Resting.{IsIdleUntil, RelcanRestsUntil}
use Rattle.cany_node.proofs.Idle.IdleFacts.{idle_sooner}
use Rattle.cany_node.proofs.node.Node.act.Goals as goal

-- the value rests until a slot before that which it keeps
idle_until_then : (idle_until sooner : ℕ) (u v : NodeParts) → u ≡ v → IsIdleUntil idle_until u → sooner ≤ idle_until → IsIdleUntil sooner v
idle_until_then idle_until sooner u v viewed is less = subst (IsIdleUntil sooner) viewed (idle_sooner idle_until sooner u is less)

pub follow_edcan-requires-clause-idle : goal.follow_edcan-requires-clause-idle
follow_edcan-requires-clause-idle c = idle_until_then c.self.inside.idle_until (c.args.notice.now.slot + 1) _ _ c.self.view_is c.self.invariant.idle_until (omega arith)

pub follow_relcan-requires-clause-idle : goal.follow_relcan-requires-clause-idle
follow_relcan-requires-clause-idle c = idle_until_then c.self.inside.idle_until (c.args.notice.now.slot + 1) _ _ c.self.view_is c.self.invariant.idle_until (omega arith)

pub follow_totcan_and_life-requires-clause-idle : goal.follow_totcan_and_life-requires-clause-idle
follow_totcan_and_life-requires-clause-idle c = idle_until_then c.self.inside.idle_until (c.args.notice.now.slot + 1) _ _ c.self.view_is c.self.invariant.idle_until (omega arith)

pub follow_totcan_and_life-requires-clause-relcan : goal.follow_totcan_and_life-requires-clause-relcan
follow_totcan_and_life-requires-clause-relcan c =
    subst (λ (v : NodeParts). RelcanRestsUntil (c.args.notice.now.slot + 1) v.relcan) c.self.view_is
    (λ scenario past notice h early other. c.wake.ensures.rests scenario past notice h (omega (arith, early, c.if-notice-wake.true)) other)
