use Rattle.std.proofs.Common.{sym, subst}
use Rattle.cany_message.specs.Calls.{actions_at}
use Rattle.cany_node.specs.Apply.{AreApplied, CanApply}
use Rattle.cany_node.proofs.AppliedParts.{none_applied}
use Rattle.cany_node.proofs.apply.apply_called.Goals as goal

pub apply_frame-requires : goal.apply_frame-requires
apply_frame-requires c = subst (λ k. CanApply c.args.inc (actions_at c.args.by c.args.notice.now.slot c.args.calls.now k) c.args.ctl.now c.args.log.now) c.in-Got.is c.requires

pub returns-in-Got : goal.returns-in-Got
returns-in-Got c = subst (λ k. AreApplied c.args.inc (actions_at c.args.by c.args.notice.now.slot c.args.calls.now k) c.args.ctl.now c.apply_frame.new.ctl c.args.log.now c.apply_frame.new.log) (sym c.in-Got.is) c.apply_frame.ensures

pub apply_frame-requires-in-Sent : goal.apply_frame-requires-in-Sent
apply_frame-requires-in-Sent c = subst (λ k. CanApply c.args.inc (actions_at c.args.by c.args.notice.now.slot c.args.calls.now k) c.args.ctl.now c.args.log.now) c.in-Sent.is c.requires

pub returns-in-Sent : goal.returns-in-Sent
returns-in-Sent c = subst (λ k. AreApplied c.args.inc (actions_at c.args.by c.args.notice.now.slot c.args.calls.now k) c.args.ctl.now c.apply_frame-in-Sent.new.ctl c.args.log.now c.apply_frame-in-Sent.new.log) (sym c.in-Sent.is) c.apply_frame-in-Sent.ensures

pub returns-in-Idle : goal.returns-in-Idle
returns-in-Idle c = subst (λ k. AreApplied c.args.inc (actions_at c.args.by c.args.notice.now.slot c.args.calls.now k) c.args.ctl.now c.args.ctl.now c.args.log.now c.args.log.now) (sym c.in-Idle.is) (none_applied c.args.inc c.args.ctl.now c.args.log.now)

pub returns-in-Bad : goal.returns-in-Bad
returns-in-Bad c = subst (λ k. AreApplied c.args.inc (actions_at c.args.by c.args.notice.now.slot c.args.calls.now k) c.args.ctl.now c.args.ctl.now c.args.log.now c.args.log.now) (sym c.in-Bad.is) (none_applied c.args.inc c.args.ctl.now c.args.log.now)
