-- The levels that a frame sends in arbitration, and which of two frames wins by them.
use Rattle.std.specs.Prelude.{◌≡◌, ℕ, ◌+◌, ◌*◌, ◌/◌, ◌%◌, ◌^◌, ◌<◌, Bool, if◌then◌else◌}
use Rattle.std.specs.Int.{bit_at}
use Rattle.cany_base.specs.declared.format.Format.{Format}
use Rattle.cany_base.specs.Frame.{FrameParts, identifier_of, is_remote}

-- bit 31 goes first: 11 base identifier bits, SRR, IDE, 18 further identifier bits, RTR.
-- A dominant level is 0, a recessive one 1: SRR and IDE are recessive
abbrev pub word_of : ℕ → Bool → ℕ
word_of ident remote =
    ident / 2 ^ 18 * 2 ^ 21 + 1 * 2 ^ 20 + 1 * 2 ^ 19
    + ident % 2 ^ 18 * 2 + (if remote then 1 else 0)

-- the levels that a frame sends in arbitration
abbrev pub levels_of : Format → FrameParts → ℕ
levels_of format f = word_of (identifier_of format f) (is_remote f.class)

-- at the first bit in which their levels differ, a sends dominant and b recessive
pub record Beats (format : Format) (a b : FrameParts) : Type 0 where
  pub place : ℕ
  pub same :
      (earlier : ℕ) → place < earlier → bit_at (levels_of format a) earlier ≡ bit_at (levels_of format b) earlier
  pub dominant : bit_at (levels_of format a) place ≡ 0
  pub recessive : bit_at (levels_of format b) place ≡ 1
