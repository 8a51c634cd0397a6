-- What one notice more adds to the copies and transmissions that were read.
use Rattle.std.proofs.Common.{◌≡◌, ℕ, suc, zero, ◌+◌, ◌≤◌, ◌==◌, ◌&&◌, ◌||◌, true, false, List, [], ◌∷◌, length, replicate, refl, ap, sym, ◌∙◌, arith}
use Rattle.std.specs.Prelude.{nat_lt}
use Rattle.std.specs.List.{list_any}
use Rattle.std.proofs.lemmas.Bool.Decides.{nat_tests}
use Rattle.std.proofs.lemmas.List.Sums.{count_by-le-length}
use Rattle.cany_base.specs.declared.class.Class.{Class}
use Rattle.cany_base.specs.declared.notice.NoticeKind.{NoticeKind}
use Rattle.cany_base.specs.declared.notice.NoticeKind.TheVariants.{Idle}
use Rattle.cany_base.specs.Frame.{FrameParts, class_number}
use Rattle.cany_model.specs.Rules.Delivery.{brings}
use Rattle.cany_model.specs.Rules.Relcan.{has_copy}
use Rattle.cany_model.specs.Bus.Frames.{Identity, identity_of, is_of, same_class, same_identity}
use Rattle.cany_model.specs.Bus.History.{copies, has_own, is_got, is_sent}
use Rattle.cany_model.proofs.Among.{count-yes, count-no}
use Rattle.cany_model.proofs.Bus.Identities.{same_class_self}
use Rattle.cany_message.specs.Table.{frame_identity}

-- which frame of a class a frame of that class is
pub is_this : (class : Class) (seq origin : ℕ) (f : FrameParts) → f.class ≡ class → is_of (frame_identity class seq origin) f ≡ (seq == f.number && origin == f.node)
unfolding same_identity
is_this class seq origin f is = rw (is, same_class_self class) refl

-- a frame of another class is none of it
pub is_not_this : (class : Class) (seq origin : ℕ) (f : FrameParts) → same_class f.class class ≡ false → is_of (frame_identity class seq origin) f ≡ false
unfolding same_identity same_class
is_not_this class seq origin f other =
    let apart : (class_number class == class_number f.class) ≡ false = grind (arith, nat_tests, other) in
    rw apart refl

pub identity_is : (class : Class) (f : FrameParts) → f.class ≡ class → identity_of f ≡ frame_identity class f.number f.node
identity_is class f is = λ k. record { class = is k; number = f.number; node = f.node }

pub copies-yes : (x : Identity) (notice : NoticeKind) (past : List NoticeKind) → is_got x notice ≡ true → copies x (notice ∷ past) ≡ copies x past + 1
unfolding copies
copies-yes x notice past h = omega (arith, count-yes (is_got x) notice past h)

pub copies-no : (x : Identity) (notice : NoticeKind) (past : List NoticeKind) → is_got x notice ≡ false → copies x (notice ∷ past) ≡ copies x past
unfolding copies
copies-no x notice past h = count-no (is_got x) notice past h

pub has_own-more : (x : Identity) (notice : NoticeKind) (past : List NoticeKind) → has_own x (notice ∷ past) ≡ (is_sent x notice || has_own x past)
unfolding has_own
has_own-more x notice past = refl

pub copies-few : (x : Identity) (past : List NoticeKind) → copies x past ≤ length past
unfolding copies
copies-few x past = count_by-le-length (is_got x) past

-- ---- idle slots

copies-none : (x : Identity) → copies x [] ≡ 0
unfolding copies
copies-none x = refl

pub copies-idle : (x : Identity) (n : ℕ) → copies x (replicate n Idle) ≡ 0
copies-idle x zero = copies-none x
copies-idle x (suc n) = copies-no x Idle (replicate n Idle) refl ∙ copies-idle x n

pub has_own-idle : (x : Identity) (n : ℕ) → has_own x (replicate n Idle) ≡ false
unfolding has_own
has_own-idle x zero = refl
has_own-idle x (suc n) = has_own-idle x n

-- ---- whether a copy was read

counted_more : (x : Identity) (notice : NoticeKind) (past : List NoticeKind) → nat_lt 0 (copies x (notice ∷ past)) ≡ (is_got x notice || nat_lt 0 (copies x past))
counted_more x notice past = grind (arith, nat_tests, copies-yes x notice past, copies-no x notice past)

pub has_copy-counted : (x : Identity) (past : List NoticeKind) → has_copy x past ≡ nat_lt 0 (copies x past)
has_copy-counted x [] = rw (copies-none x) refl
has_copy-counted x (notice ∷ past) = ap (λ b. is_got x notice || b) (has_copy-counted x past) ∙ sym (counted_more x notice past)

-- ---- which notices bring the message to node i

pub brought : (i : ℕ) (x : Identity) (past : List NoticeKind) → list_any (brings i x) past ≡ (nat_lt 0 (copies x past) || (x.node == i && has_own x past))
unfolding has_own
brought i x [] = rw (copies-none x) (grind (arith, nat_tests))
brought i x (notice ∷ past) = grind (arith, nat_tests, brought i x past, counted_more x notice past)
