-- Names and attempts compare alike exactly if they are one.
use Rattle.std.proofs.Common.{◌≡◌, ℕ, ◌==◌, ◌&&◌, true, ap, arith, eqb-true, eq-eqb}
use Rattle.std.proofs.lemmas.Grind.{common_steps}
use Rattle.std.proofs.lemmas.Bool.{and_parts, and_from}
use Rattle.std.proofs.lemmas.Cmp.{tied_itself}
use Rattle.std.proofs.lemmas.Map.Lookups.{exact_pairs, exact_unsigned}
use Rattle.std.specs.declared.cmp.Ordering.TheVariants.{Equal}
use Rattle.std.specs.Cmp.{IsTotalOrder, both_ways, Equal-is}
use Rattle.std.specs.Ordering.{is_eq, nat_cmp}
use Rattle.can_fault.specs.declared.identity.FrameIdentity.{FrameIdentity}
use Rattle.can_fault.specs.declared.identity.Attempt.{Attempt}
use Rattle.can_fault.specs.Identities.{identity_cmp, attempt_cmp, frame_identity, named_identity, attempt_of}
use Rattle.can_fault.specs.contracts.identity.FrameIdentityOrd.TheImpl.Laws as identity_laws
use Rattle.can_fault.specs.contracts.identity.AttemptOrd.TheImpl.Laws as attempt_laws
use Rattle.cany_model.specs.Bus.Frames.{Identity, same_identity}
use Rattle.cany_model.proofs.Bus.Identities.{same_identity-true, same_identity-from}

pub identity_total : IsTotalOrder identity_cmp
identity_total = identity_laws.total-law

pub attempt_total : IsTotalOrder attempt_cmp
attempt_total = attempt_laws.total-law

pub identity_exact : (a b : FrameIdentity) → identity_cmp a b ≡ Equal → a ≡ b
identity_exact a b h = grind (arith, common_steps)

attempt_exact : (a b : Attempt) → attempt_cmp a b ≡ Equal → a ≡ b
attempt_exact a b h =
    let same : (a.identity, a.nth) ≡ (b.identity, b.nth) = exact_pairs identity_cmp nat_cmp identity_exact exact_unsigned (a.identity, a.nth) (b.identity, b.nth) h in
    ap (λ (p : FrameIdentity × ℕ). record { identity = p.0; nth = p.1 }) same

pub same_from_keys : (x y : Identity) → frame_identity x ≡ frame_identity y → same_identity x y ≡ true
same_from_keys x y e = same_identity-from x y (ap named_identity e)

-- names are compared by the identities that they stand for
pub identity_test : (x y : Identity) → is_eq (identity_cmp (frame_identity x) (frame_identity y)) ≡ same_identity x y
identity_test x y =
    both_ways (is_eq (identity_cmp (frame_identity x) (frame_identity y))) (same_identity x y)
    (λ h. same_from_keys x y (identity_exact (frame_identity x) (frame_identity y) ((Equal-is (identity_cmp (frame_identity x) (frame_identity y))).0 h)))
    (λ h. let e : x ≡ y = same_identity-true x y h in
    (Equal-is (identity_cmp (frame_identity x) (frame_identity y))).1 (rw e (tied_itself identity_total (frame_identity y))))

attempt_from : (x y : Identity) (k j : ℕ) → x ≡ y → k ≡ j → attempt_cmp (attempt_of x k) (attempt_of y j) ≡ Equal
attempt_from x y k j e n = rw (e, n) (tied_itself attempt_total (attempt_of y j))

-- and attempts by the identities and the numbers
pub attempt_test : (x y : Identity) (k j : ℕ) → is_eq (attempt_cmp (attempt_of x k) (attempt_of y j)) ≡ (same_identity x y && k == j)
attempt_test x y k j =
    both_ways (is_eq (attempt_cmp (attempt_of x k) (attempt_of y j))) (same_identity x y && k == j)
    (λ h.
    let same : attempt_of x k ≡ attempt_of y j = attempt_exact (attempt_of x k) (attempt_of y j) ((Equal-is (attempt_cmp (attempt_of x k) (attempt_of y j))).0 h) in
    and_from (same_identity x y) (k == j)
    (same_from_keys x y (ap (λ (a : Attempt). a.identity) same))
    (eq-eqb k j (ap (λ (a : Attempt). a.nth) same)))
    (λ h.
    let parts = and_parts (same_identity x y) (k == j) h in
    (Equal-is (attempt_cmp (attempt_of x k) (attempt_of y j))).1
    (attempt_from x y k j (same_identity-true x y parts.0) (eqb-true k j parts.1)))
