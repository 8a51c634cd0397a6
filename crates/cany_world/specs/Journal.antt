-- When a journal repeats itself.
use Rattle.std.specs.Prelude.{◌≡◌, ℕ, ◌-◌, List, length, take, drop}
use Rattle.cany_base.specs.declared.step.Step.{Step}

-- after so many steps it is the same again, up to its end
abbrev pub Repeats : ℕ → List Step → Type 0
Repeats period journal = drop period journal ≡ take (length journal - period) journal
