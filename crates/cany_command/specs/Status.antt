-- The exit statuses: their numbers, and what they say of the streams.
use Rattle.std.specs.Prelude.{ℕ, ◌≡◌, ◌+◌, ◌<◌, ◌⊎◌}
use Rattle.cany_command.specs.declared.status.TheConstants.{DONE, OTHER_WORDS, REFUSED, READ_FAULT, WRITE_FAULT, NO_MEMORY, TOO_LONG}

-- ---- the numbers

-- success
abbrev pub done : ℕ
done = 0

-- other words
abbrev pub other_words : ℕ
other_words = 2

-- a refusal
abbrev pub refused : ℕ
refused = 3

-- a fault of the source
abbrev pub read_fault : ℕ
read_fault = 4

-- a fault of the sink
abbrev pub write_fault : ℕ
write_fault = 5

-- out of memory
abbrev pub no_memory : ℕ
no_memory = 6

-- more bytes than a text can have
abbrev pub too_long : ℕ
too_long = 7

-- ---- what they say of the streams

-- the answer was written, of success or of a refusal, or as much of it as the sink took
abbrev pub HasEnded : (ℕ → Type 0) → ℕ → Type 0
HasEnded IsSuccess status = IsSuccess status ⊎ (status ≡ REFUSED) ⊎ (status ≡ WRITE_FAULT)

-- the same, where success has one status
abbrev pub HasAnswered : ℕ → Type 0
HasAnswered status = HasEnded (λ s. s ≡ DONE) status

-- nothing was written
abbrev pub HasNoAnswer : ℕ → Type 0
HasNoAnswer status = (status ≡ OTHER_WORDS) ⊎ (status ≡ READ_FAULT) ⊎ (status ≡ NO_MEMORY) ⊎ (status ≡ TOO_LONG)

-- the status is none of those that a command answers where it does not succeed, nor the one after
-- them, that of a run which a gate held
abbrev pub IsNoFault : ℕ → Type 0
IsNoFault status = (status < OTHER_WORDS) ⊎ (TOO_LONG + 1 < status)
