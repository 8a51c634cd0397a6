use Rattle.std.proofs.Common.{◌≡◌, ℕ, ◌+◌, ◌<◌, ◌≤◌, true}
use Rattle.cany_life.specs.LifeSteps.{is_watched, shown_by}
use Rattle.cany_life.proofs.life.Life.until_silence.Given as goal

abbrev pub invariant-loop-n : goal.invariant-loop-n
invariant-loop-n l = (r : ℕ) → r < l.n → is_watched l.self l.members r ≡ true → l.idle_until ≤ shown_by l.self r + l.self.params.silence
