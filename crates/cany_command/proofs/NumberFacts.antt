-- The number that a word of a command writes.
use Rattle.std.proofs.Common.{◌≡◌, ℕ, ◌^◌, ◌<◌, ◌≤◌, ◌&&◌, Bool, true, false, List, [], ◌∷◌, length, map, get_or, Option, Some, None, Ok, Err, refl, ap, sym, ◌∙◌, arith}
use Rattle.std.specs.Prelude.{Result, nat_le, IfSome}
use Rattle.std.specs.Char.{is_ascii_digit}
use Rattle.std.specs.List.{list_all}
use Rattle.std.specs.Result.{OkIff, result_ok}
use Rattle.std.specs.Str.{all_ascii_digits, bytes_eq}
use Rattle.std.specs.Str.Parse.{ParsesUnsigned, digits_value}
use Rattle.std.proofs.Math.Nat.{pow-le-pow_right}
use Rattle.std.proofs.lemmas.Bool.{and_parts, leb-true}
use Rattle.std.proofs.lemmas.Str.Parse.{digits_value_short, numerals_by_value, parse_digits, tells_all_ascii_digits}
use Rattle.cany_command.specs.Numbers.{is_numeral, named_number, number_of}

digits-are : (word : List ℕ) → all_ascii_digits word ≡ list_all is_ascii_digit word
digits-are [] = refl
digits-are (c ∷ cs) = ap (λ b. is_ascii_digit c && b) (digits-are cs)

-- so many digits write a number below that power of ten
numeral_short : (most : ℕ) (word : List ℕ) → is_numeral most word ≡ true → digits_value 10 word < 10 ^ most
numeral_short most word numeral =
    let both = and_parts (nat_le 1 (length word) && nat_le (length word) most) (list_all is_ascii_digit word) numeral in
    let short = leb-true (length word) most (and_parts (nat_le 1 (length word)) (nat_le (length word) most) both.0).1 in
    digits_value_short (numerals_by_value (λ ds. all_ascii_digits ds ≡ true) tells_all_ascii_digits) word most (digits-are word ∙ both.1) short

by_value : {E : Type 0} (most : ℕ) (word : List ℕ) (r : Result ℕ E) → is_numeral most word ≡ true → digits_value 10 word < 2 ^ 64
    → OkIff r ((0 < length word) × (digits_value 10 word < 2 ^ 64)) (digits_value 10 word) → result_ok r ≡ number_of most word
unfolding number_of
by_value most word (Ok n) numeral small parsed = rw numeral (ap (λ m. Some m) parsed.1)
by_value most word (Err e) numeral small parsed =
    let counted = (and_parts (nat_le 1 (length word) && nat_le (length word) most) (list_all is_ascii_digit word) numeral).0 in
    let some = leb-true 1 (length word) (and_parts (nat_le 1 (length word)) (nat_le (length word) most) counted).0 in
    absurd (parsed (some, small))

-- a numeral of few digits that is parsed is the number of the word
pub number_parsed : {E : Type 0} (most : ℕ) (word : List ℕ) (r : Result ℕ E) → most ≤ 10 → is_numeral most word ≡ true → ParsesUnsigned 64 10 word r
    → result_ok r ≡ number_of most word
number_parsed most word r few numeral parsed =
    let both = and_parts (nat_le 1 (length word) && nat_le (length word) most) (list_all is_ascii_digit word) numeral in
    let small = numeral_short most word numeral in
    let large : 10 ^ most ≤ 10 ^ 10 = pow-le-pow_right {n = 10} (omega arith) few in
    by_value most word r numeral (omega (arith, small, large))
    (parse_digits (numerals_by_value (λ ds. all_ascii_digits ds ≡ true) tells_all_ascii_digits) 64 word r parsed (digits-are word ∙ both.1))

-- and another word is of no number
pub no_number : (most : ℕ) (word : List ℕ) → is_numeral most word ≡ false → None ≡ number_of most word
unfolding number_of
no_number most word other = rw other refl

-- a number of a word is short
pub number_short : (most : ℕ) (word : List ℕ) (r : Option ℕ) → r ≡ number_of most word → IfSome r (λ number. number < 10 ^ most)
unfolding number_of
number_short most word r is = by_numeral (is_numeral most word) refl
  where
    by_numeral : (t : Bool) → is_numeral most word ≡ t → IfSome r (λ number. number < 10 ^ most)
    by_numeral true numeral = rw (is, numeral) (numeral_short most word numeral)
    by_numeral false other = rw (is, other) tt

-- ---- the words

-- a list of two
pub two_words : {A : Type 0} (f : A → List ℕ) (words : List A) (a b : A) → 2 ≤ length words → length words < 3 → a ≡ get_or words 0 a → b ≡ get_or words 1 b
    → map f words ≡ f a ∷ f b ∷ []
two_words f [] a b some few first second = absurd (omega (arith, some))
two_words f (x ∷ []) a b some few first second = absurd (omega (arith, some))
two_words f (x ∷ y ∷ []) a b some few first second = rw (sym first, sym second) refl
two_words f (x ∷ y ∷ z ∷ words) a b some few first second = absurd (omega (arith, few))

pub named : (command : List ℕ) (most : ℕ) (words : List (List ℕ)) (a b shown digits : List ℕ) (t : Bool) (r : Option ℕ) → words ≡ a ∷ b ∷ []
    → shown ≡ a → t ≡ bytes_eq shown command → t ≡ true → digits ≡ b → r ≡ number_of most digits → r ≡ named_number command most words
unfolding named_number
named command most words a b shown digits t r two same test is same_digits number =
    let this : bytes_eq a command ≡ true = ap (λ w. bytes_eq w command) (sym same) ∙ sym test ∙ is in
    number ∙ ap (number_of most) same_digits ∙ sym (ap (named_number command most) two ∙ rw this refl)

pub other_command : (command : List ℕ) (most : ℕ) (words : List (List ℕ)) (a b shown : List ℕ) (t : Bool) → words ≡ a ∷ b ∷ [] → shown ≡ a
    → t ≡ bytes_eq shown command → t ≡ false → None ≡ named_number command most words
unfolding named_number
other_command command most words a b shown t two same test other =
    let this : bytes_eq a command ≡ false = ap (λ w. bytes_eq w command) (sym same) ∙ sym test ∙ other in
    sym (ap (named_number command most) two ∙ rw this refl)

pub too_few : {A : Type 0} (command : List ℕ) (most : ℕ) (f : A → List ℕ) (words : List A) → length words < 2
    → None ≡ named_number command most (map f words)
unfolding named_number
too_few command most f [] few = refl
too_few command most f (x ∷ []) few = refl
too_few command most f (x ∷ y ∷ words) few = absurd (omega (arith, few))

pub too_many : {A : Type 0} (command : List ℕ) (most : ℕ) (f : A → List ℕ) (words : List A) → 3 ≤ length words
    → None ≡ named_number command most (map f words)
unfolding named_number
too_many command most f [] many = absurd (omega (arith, many))
too_many command most f (x ∷ []) many = absurd (omega (arith, many))
too_many command most f (x ∷ y ∷ []) many = absurd (omega (arith, many))
too_many command most f (x ∷ y ∷ z ∷ words) many = refl
