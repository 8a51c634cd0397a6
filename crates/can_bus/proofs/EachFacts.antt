-- A list whose elements are changed by their places, one after another.
use Rattle.std.proofs.Common.{◌≡◌, ℕ, zero, suc, ◌+◌, ◌<◌, List, [], ◌∷◌, length, get_or, set, refl, ap, sym, ◌∙◌, arith, add-one}
use Rattle.std.specs.Prelude.{Some, slice_get, option_map}
use Rattle.std.proofs.lemmas.Option.{slice_get-get_or}
use Rattle.can_bus.specs.Each.{each}

-- the list with its first n elements changed
abbrev pub changed : {X : Type 0} → (ℕ → X → X) → ℕ → ℕ → List X → List X
changed f i zero xs = xs
changed f i (suc n) [] = []
changed f i (suc n) (x ∷ xs) = f i x ∷ changed f (i + 1) n xs

pub length-changed : {X : Type 0} (f : ℕ → X → X) (i n : ℕ) (xs : List X) → length (changed f i n xs) ≡ length xs
length-changed f i zero xs = refl
length-changed f i (suc n) [] = refl
length-changed f i (suc n) (x ∷ xs) = ap suc (length-changed f (i + 1) n xs)

-- the next element is as it was
pub changed_next : {X : Type 0} (f : ℕ → X → X) (i n : ℕ) (xs : List X) (d : X) → get_or (changed f i n xs) n d ≡ get_or xs n d
changed_next f i zero xs d = refl
changed_next f i (suc n) [] d = refl
changed_next f i (suc n) (x ∷ xs) d = changed_next f (i + 1) n xs d

changed_suc : {X : Type 0} (f : ℕ → X → X) (i n : ℕ) (xs : List X) (x y : X) → n < length xs → x ≡ get_or xs n x → y ≡ f (i + n) x
    → set (changed f i n xs) n y ≡ changed f i (suc n) xs
changed_suc f i zero [] x y within is new = absurd (omega arith)
changed_suc f i zero (z ∷ xs) x y within is new =
    let at : i + 0 ≡ i = omega arith in
    ap (λ t. t ∷ xs) (new ∙ ap (λ k. f k x) at ∙ ap (f i) is)
changed_suc f i (suc n) [] x y within is new = absurd (omega arith)
changed_suc f i (suc n) (z ∷ xs) x y within is new =
    let at : i + suc n ≡ i + 1 + n = omega arith in
    ap (λ t. f i z ∷ t) (changed_suc f (i + 1) n xs x y (omega arith) is (new ∙ ap (λ k. f k x) at))

-- one element more is changed
pub changed_more : {X : Type 0} (f : ℕ → X → X) (n : ℕ) (now xs : List X) (x y : X) → now ≡ changed f 0 n xs → n < length xs → x ≡ get_or now n x → y ≡ f n x
    → set now n y ≡ changed f 0 (n + 1) xs
changed_more f n now xs x y so within is new =
    let at : n ≡ 0 + n = omega arith in
    let was : x ≡ get_or xs n x = is ∙ ap (λ t. get_or t n x) so ∙ changed_next f 0 n xs x in
    ap (λ t. set t n y) so ∙ rw add-one (changed_suc f 0 n xs x y within was (new ∙ ap (λ k. f k x) at))

changed_length : {X : Type 0} (f : ℕ → X → X) (i : ℕ) (xs : List X) → changed f i (length xs) xs ≡ each f i xs
unfolding each
changed_length f i [] = refl
changed_length f i (x ∷ xs) = ap (λ t. f i x ∷ t) (changed_length f (i + 1) xs)

-- all elements are changed
pub changed_all : {X : Type 0} (f : ℕ → X → X) (n : ℕ) (now xs : List X) → now ≡ changed f 0 n xs → n ≡ length xs → now ≡ each f 0 xs
changed_all f n now xs so all = so ∙ ap (λ k. changed f 0 k xs) all ∙ changed_length f 0 xs

pub each-each : {X : Type 0} (f g : ℕ → X → X) (i : ℕ) (xs : List X) → each f i (each g i xs) ≡ each (λ k x. f k (g k x)) i xs
unfolding each
each-each f g i [] = refl
each-each f g i (x ∷ xs) = ap (λ t. f i (g i x) ∷ t) (each-each f g (i + 1) xs)

pub each_same : {X : Type 0} (f g : ℕ → X → X) (i : ℕ) (xs : List X) → ((k : ℕ) (x : X) → f k x ≡ g k x) → each f i xs ≡ each g i xs
unfolding each
each_same f g i [] same = refl
each_same f g i (x ∷ xs) same = ap (λ t. t ∷ each f (i + 1) xs) (same i x) ∙ ap (λ t. g i x ∷ t) (each_same f g (i + 1) xs same)

-- a change that changes nothing
pub each_stays : {X : Type 0} (f : ℕ → X → X) (i : ℕ) (xs : List X) → ((k : ℕ) (x : X) → f k x ≡ x) → xs ≡ each f i xs
unfolding each
each_stays f i [] stays = refl
each_stays f i (x ∷ xs) stays = ap (λ t. t ∷ xs) (sym (stays i x)) ∙ ap (λ t. f i x ∷ t) (each_stays f (i + 1) xs stays)

pub length-each : {X : Type 0} (f : ℕ → X → X) (i : ℕ) (xs : List X) → length (each f i xs) ≡ length xs
unfolding each
length-each f i [] = refl
length-each f i (x ∷ xs) = ap suc (length-each f (i + 1) xs)

pub got : {X : Type 0} (xs : List X) (i : ℕ) (x : X) → i < length xs → x ≡ get_or xs i x → slice_get xs i ≡ Some x
got xs i x within is = slice_get-get_or xs i x within ∙ ap Some (sym is)

get_each_from : {X : Type 0} (f : ℕ → X → X) (i : ℕ) (xs : List X) (k : ℕ) → slice_get (each f i xs) k ≡ option_map (f (i + k)) (slice_get xs k)
unfolding each
get_each_from f i [] k = refl
get_each_from f i (x ∷ xs) zero = let at : i ≡ i + 0 = omega arith in ap (λ j. Some (f j x)) at
get_each_from f i (x ∷ xs) (suc k) =
    let at : i + 1 + k ≡ i + suc k = omega arith in
    get_each_from f (i + 1) xs k ∙ ap (λ j. option_map (f j) (slice_get xs k)) at

-- the element at a place is changed by the place
pub get_each : {X : Type 0} (f : ℕ → X → X) (xs : List X) (k : ℕ) → slice_get (each f 0 xs) k ≡ option_map (f k) (slice_get xs k)
get_each f xs k = let at : 0 + k ≡ k = omega arith in get_each_from f 0 xs k ∙ ap (λ j. option_map (f j) (slice_get xs k)) at
