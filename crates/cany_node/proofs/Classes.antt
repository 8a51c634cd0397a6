-- A frame whose class is one of three.
use Rattle.std.proofs.Common.{◌≡◌, ◌||◌, inl, inr, true, subst, sym}
use Rattle.std.proofs.lemmas.Bool.{cases_Bool}
use Rattle.cany_base.specs.declared.class.Class.{Class}
use Rattle.cany_model.specs.Bus.Frames.{same_class}
use Rattle.cany_model.proofs.Bus.Identities.{same_class-true}

-- what holds of each of the three holds of a class that is one of them
pub of_three : (P : Class → Type 0) (x y z : Class) → P x → P y → P z → (c : Class) → (same_class c x || (same_class c y || same_class c z)) ≡ true → P c
of_three P x y z first second third c is = elim (cases_Bool (same_class c x)) [
  | inl same ↦ subst P (sym (same_class-true c x same)) first
  | inr other ↦ elim (cases_Bool (same_class c y)) [
    | inl same ↦ subst P (sym (same_class-true c y same)) second
    | inr neither ↦
        let same : same_class c z ≡ true = rw (other, neither) at is in
        subst P (sym (same_class-true c z same)) third
  ]
]
