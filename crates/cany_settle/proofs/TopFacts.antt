-- What success says of a run.
use Rattle.std.proofs.Common.{◌≡◌, ℕ, Bool, false, not, List, [], ◌∷◌, Option, Some, None, Ok, Err, Contains, IsOkAnd, count_by, refl, ap, arith}
use Rattle.std.specs.Prelude.{IfSome}
use Rattle.cany_base.specs.Scenario.{ScenarioParts}
use Rattle.cany_command.specs.Answers.{IsAnswered}
use Rattle.cany_log.specs.Summary.{open_count}
use Rattle.cany_model.specs.Bus.State.{RunState}
use Rattle.cany_model.specs.Promises.Settled.{is_settled}
use Rattle.cany_model.specs.Rules.Messages.{Message, messages_of}
use Rattle.cany_model.specs.Runs.Follow.{journal_of}
use Rattle.cany_model.specs.Runs.Run.{run}
use Rattle.cany_model.proofs.Among.{Contains-cons, Contains-head, count-no}
use Rattle.cany_settle.specs.LongEnough.{AllSettled}
use Rattle.cany_settle.specs.TailText.{tail_text}
use Rattle.cany_settle.specs.Top.{IsTail}
use Rattle.cany_settle.proofs.LongEnough.{settles_in_the_end}
use Rattle.cany_text.specs.ScenarioText.{scenario_of}
use Rattle.cany_text.specs.TomlKeys.{Read}
use Rattle.cany_text.proofs.ScenarioTextLegal.{scenario_of-begins, scenario_of-legal}

none_counted : (test : Message → Bool) (messages : List Message) → ((m : Message) → Contains messages m → test m ≡ false) → count_by test messages ≡ 0
none_counted test [] h = refl
none_counted test (m ∷ messages) h =
    omega (arith, count-no test m messages (h m (Contains-head m messages)), none_counted test messages (λ k c. h k (Contains-cons m k messages c)))

none_open : (scenario : ScenarioParts) (s : RunState) → AllSettled scenario s → open_count scenario s ≡ 0
unfolding open_count
none_open scenario s settled = none_counted (λ m. not (is_settled scenario s m)) (messages_of scenario.sends) (λ m c. ap not (settled m c))

told : (bytes : List ℕ) (scenario : ScenarioParts) → scenario_of bytes ≡ Ok scenario → (old new : Option (List ℕ))
    → IsAnswered tail_text scenario old new → IsTail scenario old new
told bytes scenario is old new h = record {
  written = h.written;
  promises = h.promises;
  settled = λ within long.
      none_open scenario (run scenario (journal_of scenario))
      (settles_in_the_end scenario (journal_of scenario) (scenario_of-legal bytes scenario is) (scenario_of-begins bytes scenario is) within h.promises.whole long);
}

told_of : (bytes : List ℕ) (read : Read ScenarioParts) → scenario_of bytes ≡ read → (old new : Option (List ℕ))
    → IsOkAnd read (λ scenario. IsAnswered tail_text scenario old new) → IsOkAnd read (λ scenario. IsTail scenario old new)
told_of bytes (Ok scenario) is old new h = told bytes scenario is old new h
told_of bytes (Err fault) is old new h = h

-- of all bytes that the source had
pub told_if : (left : Option (List ℕ)) (old new : Option (List ℕ))
    → IfSome left (λ bytes. IsOkAnd (scenario_of bytes) (λ scenario. IsAnswered tail_text scenario old new))
    → IfSome left (λ bytes. IsOkAnd (scenario_of bytes) (λ scenario. IsTail scenario old new))
told_if None old new h = h
told_if (Some bytes) old new h = told_of bytes (scenario_of bytes) refl old new h
