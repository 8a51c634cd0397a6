-- A timer whose slot was read, and that no confirmation stopped, made the node fall back.
use Rattle.std.proofs.Common.{◌≡◌, ℕ, zero, suc, ◌&&◌, inl, inr, true, false, not, List, [], ◌∷◌, drop}
use Rattle.std.proofs.lemmas.Bool.{false≢true, and_from, both_ways, cases_Bool, false_from_ne_true, not_from_false, or_cases, or_left, or_right}
use Rattle.cany_base.specs.declared.notice.NoticeKind.{NoticeKind}
use Rattle.cany_model.specs.Bus.Frames.{Identity}
use Rattle.cany_model.specs.Bus.History.{is_got}
use Rattle.cany_model.specs.Rules.Relcan.{confirm_of, falls_back, fell_back, has_confirm, has_copy, is_first_got, is_timed}

-- a test that some notice passes, and none before it
first_here : (x : Identity) (past : List NoticeKind) (e : NoticeKind) → has_copy x (e ∷ past) ≡ true → has_copy x past ≡ false → is_first_got x (e ∷ past) ≡ true
first_here x past e some none = elim (or_cases (is_got x e) (has_copy x past) some) [
  | inl here ↦ and_from (is_got x e) (not (has_copy x past)) here (not_from_false (has_copy x past) none)
  | inr there ↦ absurd (both_ways (has_copy x past) none there)
]

first_at : (x : Identity) (n : ℕ) (e : NoticeKind) (past : List NoticeKind) → has_copy x (drop n (e ∷ past)) ≡ true → has_copy x (drop n past) ≡ false
    → is_first_got x (drop n (e ∷ past)) ≡ true
first_at x zero e past some none = first_here x past e some none
first_at x (suc zero) e [] some none = absurd (false≢true some)
first_at x (suc (suc n)) e [] some none = absurd (false≢true some)
first_at x (suc n) e (d ∷ past) some none = first_at x n d past some none

none_before : (x : Identity) (e : NoticeKind) (past : List NoticeKind) → has_copy x (e ∷ past) ≡ false → has_copy x past ≡ false
none_before x e past none =
    false_from_ne_true (has_copy x past) (λ some. both_ways (has_copy x (e ∷ past)) none (or_right (is_got x e) (has_copy x past) some))

none_copied : (x : Identity) (n : ℕ) → has_copy x (drop n []) ≡ true → ⊥
none_copied x zero h = false≢true h
none_copied x (suc n) h = false≢true h

pub overdue_falls_back : (timer i : ℕ) (x : Identity) (past : List NoticeKind) → is_timed i x ≡ true → has_copy x (drop timer past) ≡ true
    → has_confirm x past ≡ false → fell_back timer i x past ≡ true
unfolding fell_back
overdue_falls_back timer i x [] timed some none = absurd (none_copied x timer some)
overdue_falls_back timer i x (e ∷ past) timed some none = elim (cases_Bool (has_copy x (drop timer past))) [
  | inl early ↦
      or_right (falls_back timer i x (e ∷ past)) (fell_back timer i x past)
      (overdue_falls_back timer i x past timed early (none_before (confirm_of x) e past none))
  | inr now ↦
      or_left (falls_back timer i x (e ∷ past)) (fell_back timer i x past)
      (and_from (is_timed i x && is_first_got x (drop timer (e ∷ past))) (not (has_confirm x (e ∷ past)))
      (and_from (is_timed i x) (is_first_got x (drop timer (e ∷ past))) timed (first_at x timer e past some now))
      (not_from_false (has_confirm x (e ∷ past)) none))
]
