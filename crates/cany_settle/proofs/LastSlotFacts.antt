-- The greatest slot of a list, item by item and from either end.
use Rattle.std.proofs.Common.{◌≡◌, ℕ, zero, suc, ◌+◌, ◌<◌, ◌≤◌, Bool, if◌then◌else◌, List, [], ◌∷◌, ◌++◌, length, drop, get_or, map, reverse, refl, ap, sym, ◌∙◌, arith}
use Rattle.std.proofs.lemmas.Bool.Decides.{nat_tests}
use Rattle.std.proofs.lemmas.List.{drop_more, reverse-append}
use Rattle.cany_base.specs.declared.slot_note.SlotNote.{SlotNote}
use Rattle.cany_settle.specs.LastEvent.{greater, greatest, last_slot}

greater_none : (n : ℕ) → greater n 0 ≡ n
greater_none n = grind (arith, nat_tests)

pub none_greater : (n : ℕ) → greater 0 n ≡ n
none_greater n = grind (arith, nat_tests)

greater_comm : (a b : ℕ) → greater a b ≡ greater b a
greater_comm a b = grind (arith, nat_tests)

greater_assoc : (a b c : ℕ) → greater (greater a b) c ≡ greater a (greater b c)
greater_assoc a b c = grind (arith, nat_tests)

drop_over : {X : Type 0} (n : ℕ) (xs : List X) → length xs ≤ n → drop n xs ≡ []
drop_over zero [] h = refl
drop_over (suc n) [] h = refl
drop_over zero (x ∷ xs) h = absurd (omega (arith, h))
drop_over (suc n) (x ∷ xs) h = drop_over n xs (omega (arith, h))

-- ---- item by item

abbrev pub slot_if : (SlotNote → Bool) → SlotNote → ℕ
slot_if test note = if test note then note.slot else 0

pub last_next : (test : SlotNote → Bool) (notes : List SlotNote) (i : ℕ) (note : SlotNote) (last x : ℕ) → i < length notes → get_or notes i note ≡ note
    → x ≡ slot_if test note → greater (greater last x) (last_slot test (drop (i + 1) notes)) ≡ greater last (last_slot test (drop i notes))
unfolding last_slot
last_next test notes i note last x below at is =
    greater_assoc last x (last_slot test (drop (i + 1) notes))
    ∙ ap (λ y. greater last (greater y (last_slot test (drop (i + 1) notes)))) is
    ∙ ap (λ n. greater last (greater (slot_if test n) (last_slot test (drop (i + 1) notes)))) (sym at)
    ∙ ap (λ l. greater last (last_slot test l)) (sym (drop_more notes i note below))

pub last_done : (test : SlotNote → Bool) (notes : List SlotNote) (i last : ℕ) → length notes ≤ i → greater last (last_slot test (drop i notes)) ≡ last
unfolding last_slot
last_done test notes i last past = ap (λ l. greater last (last_slot test l)) (drop_over i notes past) ∙ greater_none last

pub greatest_next : {X : Type 0} (f : X → ℕ) (xs : List X) (i : ℕ) (x : X) (last : ℕ) → i < length xs → get_or xs i x ≡ x
    → greater (greater last (f x)) (greatest (map f (drop (i + 1) xs))) ≡ greater last (greatest (map f (drop i xs)))
unfolding greatest
greatest_next f xs i x last below at =
    greater_assoc last (f x) (greatest (map f (drop (i + 1) xs)))
    ∙ ap (λ y. greater last (greater (f y) (greatest (map f (drop (i + 1) xs))))) (sym at)
    ∙ ap (λ l. greater last (greatest (map f l))) (sym (drop_more xs i x below))

pub greatest_done : {X : Type 0} (f : X → ℕ) (xs : List X) (i last : ℕ) → length xs ≤ i → greater last (greatest (map f (drop i xs))) ≡ last
unfolding greatest
greatest_done f xs i last past = ap (λ l. greater last (greatest (map f l))) (drop_over i xs past) ∙ greater_none last

-- ---- from either end

last_slot-append : (test : SlotNote → Bool) (a b : List SlotNote) → last_slot test (a ++ b) ≡ greater (last_slot test a) (last_slot test b)
unfolding last_slot
last_slot-append test [] b = sym (none_greater (last_slot test b))
last_slot-append test (note ∷ a) b =
    ap (greater (slot_if test note)) (last_slot-append test a b) ∙ sym (greater_assoc (slot_if test note) (last_slot test a) (last_slot test b))

pub last_slot-reverse : (test : SlotNote → Bool) (notes : List SlotNote) → last_slot test (reverse notes) ≡ last_slot test notes
unfolding last_slot
last_slot-reverse test [] = refl
last_slot-reverse test (note ∷ notes) =
    ap (last_slot test) (reverse-append (note ∷ []) notes)
    ∙ last_slot-append test (reverse notes) (note ∷ [])
    ∙ ap (λ n. greater n (greater (slot_if test note) 0)) (last_slot-reverse test notes)
    ∙ ap (greater (last_slot test notes)) (greater_none (slot_if test note))
    ∙ greater_comm (last_slot test notes) (slot_if test note)
