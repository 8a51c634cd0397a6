-- The order of the levels as numbers is that of keys, and that of the walk.
use Rattle.std.proofs.Common.{◌≡◌, ℕ, zero, suc, ◌+◌, ◌*◌, ◌^◌, ◌<◌, ◌≤◌, ◌/◌, ◌%◌, Bool, true, false, ◌⊎◌, inl, inr, if◌then◌else◌, arith, sym, ◌∙◌, ap, ◌↔◌}
use Rattle.std.specs.Int.{bit_at}
use Rattle.std.proofs.Math.Nat.{two-pow-succ}
use Rattle.std.proofs.lemmas.Bool.{cases_lt, cases_order}
use Rattle.std.proofs.lemmas.Nat.Bits.{bit_at_lowest, bit_at-suc, same_from_bits}
use Rattle.cany_base.specs.declared.format.Format.{Format}
use Rattle.cany_base.specs.Frame.{FrameParts, identifier_of, is_remote, key_of}
use Rattle.can_arbiter.specs.Levels.{levels_of, Beats}

rtr_below : (remote : Bool) → (if remote then 1 else 0) < 2
rtr_below true = omega arith
rtr_below false = omega arith

-- keys in order are words in order, where r and s stand for RTR
words_below : (i j r s : ℕ) → r < 2 → s < 2 → 2 * i + r < 2 * j + s → i / 2 ^ 18 * 2 ^ 21 + 1 * 2 ^ 20 + 1 * 2 ^ 19 + i % 2 ^ 18 * 2 + r < j / 2 ^ 18 * 2 ^ 21 + 1 * 2 ^ 20 + 1 * 2 ^ 19 + j % 2 ^ 18 * 2 + s
words_below i j r s hr hs h = omega arith

words_same : (i j r s : ℕ) → r < 2 → s < 2 → 2 * i + r ≡ 2 * j + s → i / 2 ^ 18 * 2 ^ 21 + 1 * 2 ^ 20 + 1 * 2 ^ 19 + i % 2 ^ 18 * 2 + r ≡ j / 2 ^ 18 * 2 ^ 21 + 1 * 2 ^ 20 + 1 * 2 ^ 19 + j % 2 ^ 18 * 2 + s
words_same i j r s hr hs h = omega arith

pub levels_below : (format : Format) (a b : FrameParts) → key_of format a < key_of format b → levels_of format a < levels_of format b
levels_below format a b h = words_below (identifier_of format a) (identifier_of format b) _ _ (rtr_below (is_remote a.class)) (rtr_below (is_remote b.class)) h

pub levels_same : (format : Format) (a b : FrameParts) → key_of format a ≡ key_of format b → levels_of format a ≡ levels_of format b
levels_same format a b h = words_same (identifier_of format a) (identifier_of format b) _ _ (rtr_below (is_remote a.class)) (rtr_below (is_remote b.class)) h

pub keys_at_most : (format : Format) (a b : FrameParts) → levels_of format a ≤ levels_of format b → key_of format a ≤ key_of format b
keys_at_most format a b h = by_order (cases_lt (key_of format b) (key_of format a))
  where
    by_order : (key_of format b < key_of format a) ⊎ (key_of format a ≤ key_of format b) → key_of format a ≤ key_of format b
    by_order (inl greater) = let wrong : levels_of format b < levels_of format a = levels_below format b a greater in omega arith
    by_order (inr most) = most

pub keys_below : (format : Format) (a b : FrameParts) → levels_of format a < levels_of format b → key_of format a < key_of format b
keys_below format a b h = by_order (cases_order (key_of format a) (key_of format b))
  where
    by_order : (key_of format a ≡ key_of format b) ⊎ ((key_of format a < key_of format b) ⊎ (key_of format b < key_of format a)) → key_of format a < key_of format b
    by_order (inl same) = let wrong : levels_of format a ≡ levels_of format b = levels_same format a b same in omega arith
    by_order (inr (inl less)) = less
    by_order (inr (inr greater)) = let wrong : levels_of format b < levels_of format a = levels_below format b a greater in omega arith

-- two numbers differ first at a place
pub record DifferFirst (x y place : ℕ) : Type 0 where
  pub same : (earlier : ℕ) → place < earlier → bit_at x earlier ≡ bit_at y earlier
  pub zero_bit : bit_at x place ≡ 0
  pub one_bit : bit_at y place ≡ 1

later_half : (x y place : ℕ) → DifferFirst (x / 2) (y / 2) place → DifferFirst x y (suc place)
later_half x y place d = record {
  same = λ earlier h. at earlier h;
  zero_bit = bit_at-suc x place ∙ d.zero_bit;
  one_bit = bit_at-suc y place ∙ d.one_bit;
}
  where
    at : (earlier : ℕ) → suc place < earlier → bit_at x earlier ≡ bit_at y earlier
    at zero h = absurd (omega arith)
    at (suc e) h = bit_at-suc x e ∙ d.same e (omega arith) ∙ sym (bit_at-suc y e)

in_last_bit : (x y : ℕ) → x / 2 ≡ y / 2 → x % 2 ≡ 0 → y % 2 ≡ 1 → DifferFirst x y 0
in_last_bit x y high zero_low one_low = record {
  same = λ earlier h. at earlier h;
  zero_bit = bit_at_lowest x ∙ zero_low;
  one_bit = bit_at_lowest y ∙ one_low;
}
  where
    at : (earlier : ℕ) → 0 < earlier → bit_at x earlier ≡ bit_at y earlier
    at zero h = absurd (omega arith)
    at (suc e) h = bit_at-suc x e ∙ ap (λ n. bit_at n e) high ∙ sym (bit_at-suc y e)

-- the smaller of two numbers has 0 in the first bit in which they differ
pub differ_first : (width x y : ℕ) → x < 2 ^ width → y < 2 ^ width → x < y → (place : ℕ) × DifferFirst x y place
differ_first zero x y hx hy h = absurd (omega arith)
differ_first (suc width) x y hx hy h =
    let double : 2 ^ suc width ≡ 2 ^ width + 2 ^ width = two-pow-succ width in
    let half_x : x / 2 < 2 ^ width = omega arith in
    let half_y : y / 2 < 2 ^ width = omega arith in
    elim (cases_lt (x / 2) (y / 2)) [
      | inl lower ↦ let rest = differ_first width (x / 2) (y / 2) half_x half_y lower in (suc rest.0, later_half x y rest.0 rest.1)
      | inr same ↦ (0, in_last_bit x y (omega arith) (omega arith) (omega arith))
    ]

pub below_from_first : (place x y : ℕ) → DifferFirst x y place → x < y
below_from_first zero x y d =
    let high : x / 2 ≡ y / 2 = same_from_bits (x / 2) (y / 2) (λ i. sym (bit_at-suc x i) ∙ d.same (suc i) (omega arith) ∙ bit_at-suc y i) in
    let low_x : x % 2 ≡ 0 = sym (bit_at_lowest x) ∙ d.zero_bit in
    let low_y : y % 2 ≡ 1 = sym (bit_at_lowest y) ∙ d.one_bit in
    omega arith
below_from_first (suc place) x y d =
    let lower : x / 2 < y / 2 = below_from_first place (x / 2) (y / 2) (record {
      same = λ e h. sym (bit_at-suc x e) ∙ d.same (suc e) (omega arith) ∙ bit_at-suc y e;
      zero_bit = sym (bit_at-suc x place) ∙ d.zero_bit;
      one_bit = sym (bit_at-suc y place) ∙ d.one_bit;
    }) in
    omega arith

-- a number has no more bits than its value
few_bits : (n : ℕ) → n < 2 ^ n
few_bits zero = omega arith
few_bits (suc n) = omega (arith, few_bits n, two-pow-succ n)

pub walk_by_keys : (format : Format) (a b : FrameParts) → Beats format a b ↔ (key_of format a < key_of format b)
walk_by_keys format a b = (
  (λ beats. keys_below format a b (below_from_first beats.place (levels_of format a) (levels_of format b) (record { same = beats.same; zero_bit = beats.dominant; one_bit = beats.recessive }))),
  (λ less.
      let lower : levels_of format a < levels_of format b = levels_below format a b less in
      let most : levels_of format b < 2 ^ levels_of format b = few_bits (levels_of format b) in
      let first = differ_first (levels_of format b) (levels_of format a) (levels_of format b) (omega (arith, lower, most)) most lower in
      record { place = first.0; same = first.1.same; dominant = first.1.zero_bit; recessive = first.1.one_bit }),
)
