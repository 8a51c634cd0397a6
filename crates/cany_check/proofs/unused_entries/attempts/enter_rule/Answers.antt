use Rattle.cany_check.proofs.Idle.AttemptFacts.{entered_rule}
use Rattle.cany_check.proofs.unused_entries.attempts.enter_rule.Goals as goal

pub returns-in_ok-insert-in-FrameNth : goal.returns-in_ok-insert-in-FrameNth
returns-in_ok-insert-in-FrameNth c = λ named zero.
    let at = c.in-FrameNth in
    entered_rule named (record { class = at.class; number = at.number; node = at.node }) at.nth c.args.rule.now c.args.counts.now c.insert.new.self at.is zero
    (λ q. rw c.new.ensures at (c.in_ok-insert-in-FrameNth.ensures.updates.0 q))
