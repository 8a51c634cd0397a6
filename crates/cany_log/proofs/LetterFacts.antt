-- The letters of a journal by their places in its alphabet.
use Rattle.std.proofs.Common.{◌≡◌, ℕ, ◌+◌, ◌<◌, ◌≤◌, List, get_or, map, refl, sym, ◌∙◌, ap, arith, nat_lt}
use Rattle.std.specs.Prelude.{codes, if◌then◌else◌}
use Rattle.std.specs.List.{range_with_len}
use Rattle.std.proofs.lemmas.Bool.{le-ltb}
use Rattle.std.proofs.lemmas.List.FromFn.{get_or-map-range_with_len}
use Rattle.cany_base.specs.declared.step.Step.TheVariants.{Slot, Turn}
use Rattle.cany_log.specs.Letters.{letter_of}
use Rattle.cany_text.specs.ReportLines.{step_letter}

abbrev letters : List ℕ
letters = codes "0123456789abcdefghijklmnopqrstuvwxyzABCDEFGHIJKLMNOPQRSTUVWXYZ+-."

-- how far each is from its place, and 19 more
abbrev pub offset : ℕ → ℕ
offset n = if nat_lt n 10 then 67 else (if nat_lt n 36 then 106 else (if nat_lt n 62 then 48 else (if nat_lt n 63 then 0 else 1)))

all_offsets : map (λ n. n + offset n) (range_with_len 0 65) ≡ map (λ n. get_or letters n 0 + 19) (range_with_len 0 65)
all_offsets = refl

pub letter_by_offset : (n : ℕ) → n < 65 → letter_of n + 19 ≡ n + offset n
unfolding letter_of
letter_by_offset n few =
    let at : 0 + n ≡ n = omega arith in
    sym (
    sym (get_or-map-range_with_len (λ n. n + offset n) 0 65 n n 0 few at)
    ∙ ap (λ xs. get_or xs n 0) all_offsets
    ∙ get_or-map-range_with_len (λ n. get_or letters n 0 + 19) 0 65 n n 0 few at
    )

-- past the letters of both cases
pub letter_past_62 : (n : ℕ) → n < 65 → 62 ≤ n → letter_of n + 19 ≡ n + (if nat_lt n 63 then 0 else 1)
letter_past_62 n few past =
    rw (le-ltb n 10 (omega (arith, past)), le-ltb n 36 (omega (arith, past)), le-ltb n 62 past) at (letter_by_offset n few)

all_turns : map letter_of (range_with_len 0 64) ≡ map (λ n. step_letter (Turn n)) (range_with_len 0 64)
unfolding letter_of step_letter
all_turns = refl

pub letter_of_turn : (n : ℕ) → n < 64 → letter_of n ≡ step_letter (Turn n)
letter_of_turn n few =
    let at : 0 + n ≡ n = omega arith in
    sym (get_or-map-range_with_len letter_of 0 64 n n 0 few at)
    ∙ ap (λ xs. get_or xs n 0) all_turns
    ∙ get_or-map-range_with_len (λ n. step_letter (Turn n)) 0 64 n n 0 few at

pub letter_of_slot : letter_of 64 ≡ step_letter Slot
unfolding letter_of step_letter
letter_of_slot = refl
