-- A rule for an attempt leaves what stands at other places.
use Rattle.can_fault.proofs.TableFacts.{entered_attempt}
use Rattle.can_fault.proofs.table.RuleTable.enter.Goals as goal

pub returns-in_ok-insert-in-FrameNth-clause-entered : goal.returns-in_ok-insert-in-FrameNth-clause-entered
returns-in_ok-insert-in-FrameNth-clause-entered c =
    let at = c.in-FrameNth in
    entered_attempt c.args.self.now.by_slot c.args.self.now.by_attempt c.insert-in-FrameNth.new.self (record { class = at.class; number = at.number; node = at.node }) at.nth c.args.rule.now at.is
    (λ q. rw (c.new-identity.ensures, c.from-nth.ensures) at (c.in_ok-insert-in-FrameNth.ensures.updates.0 q))
