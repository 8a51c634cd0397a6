use Rattle.std.proofs.Common.{subst}
use Rattle.cany_check.specs.Idle.Attempts.{AreZero, is_named}
use Rattle.cany_check.proofs.Idle.AttemptFacts.{first_attempts}
use Rattle.cany_check.proofs.unused_entries.attempts.AttemptSlots.of_run.Goals as goal

pub loop-i-init : goal.loop-i-init
loop-i-init c =
    first_attempts (is_named c.args.world.now.scenario) (record { counts = c.in_ok-named_counts.field-0; slots = c.new.result })
    (subst (λ s. AreZero (is_named s) c.in_ok-named_counts.field-0.entries) c.scenario.ensures c.in_ok-named_counts.ensures) c.new.ensures.empty
