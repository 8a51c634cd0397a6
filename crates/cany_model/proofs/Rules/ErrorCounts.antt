-- No rule tells an error from an idle slot: what is counted and looked for in what was read is the
-- same where errors count as idle slots.
use Rattle.std.proofs.Common.{◌≡◌, ℕ, zero, suc, Bool, List, [], ◌∷◌, map, length, drop, take, count_by, refl, ap, sym, ◌∙◌}
use Rattle.std.specs.Prelude.{slice_index_or}
use Rattle.std.specs.List.{list_any}
use Rattle.cany_base.specs.declared.notice.NoticeKind.{NoticeKind}
use Rattle.cany_base.specs.declared.notice.NoticeKind.TheVariants.{Idle, Got, Sent, Bad}
use Rattle.cany_model.specs.Bus.Frames.{Identity}
use Rattle.cany_model.specs.Bus.History.{copies, has_own, is_got, is_sent}
use Rattle.cany_model.specs.Rules.Notices.{error_as_idle}
use Rattle.cany_model.proofs.Among.{count-cons}

-- what was read, with each error as an idle slot
abbrev pub plain : List NoticeKind → List NoticeKind
plain past = map error_as_idle past

-- the test is the same of an error and of an idle slot
abbrev pub IsBlind : (NoticeKind → Bool) → Type 0
IsBlind test = (e : NoticeKind) → test (error_as_idle e) ≡ test e

pub plain-length : (past : List NoticeKind) → length (plain past) ≡ length past
plain-length [] = refl
plain-length (e ∷ past) = ap suc (plain-length past)

pub plain-drop : (n : ℕ) (past : List NoticeKind) → drop n (plain past) ≡ plain (drop n past)
plain-drop zero past = refl
plain-drop (suc n) [] = refl
plain-drop (suc n) (e ∷ past) = plain-drop n past

pub plain-take : (n : ℕ) (past : List NoticeKind) → take n (plain past) ≡ plain (take n past)
plain-take zero past = refl
plain-take (suc n) [] = refl
plain-take (suc n) (e ∷ past) = ap (λ rest. error_as_idle e ∷ rest) (plain-take n past)

pub plain-at : (past : List NoticeKind) (n : ℕ) → slice_index_or (plain past) n Idle ≡ error_as_idle (slice_index_or past n Idle)
plain-at [] n = refl
plain-at (e ∷ past) zero = refl
plain-at (e ∷ past) (suc n) = plain-at past n

pub plain-any : (test : NoticeKind → Bool) → IsBlind test → (past : List NoticeKind) → list_any test (plain past) ≡ list_any test past
plain-any test blind [] = refl
plain-any test blind (e ∷ past) = rw (blind e, plain-any test blind past) refl

pub plain-count : (test : NoticeKind → Bool) → IsBlind test → (past : List NoticeKind) → count_by test (plain past) ≡ count_by test past
plain-count test blind [] = refl
plain-count test blind (e ∷ past) =
    count-cons test (error_as_idle e) (plain past)
    ∙ rw (blind e, plain-count test blind past) (sym (count-cons test e past))

pub blind_got : (x : Identity) → IsBlind (is_got x)
blind_got x Idle = refl
blind_got x (Got f) = refl
blind_got x (Sent f) = refl
blind_got x Bad = refl

pub blind_sent : (x : Identity) → IsBlind (is_sent x)
blind_sent x Idle = refl
blind_sent x (Got f) = refl
blind_sent x (Sent f) = refl
blind_sent x Bad = refl

pub plain-copies : (x : Identity) (past : List NoticeKind) → copies x (plain past) ≡ copies x past
unfolding copies
plain-copies x past = plain-count (is_got x) (blind_got x) past

pub plain-own : (x : Identity) (past : List NoticeKind) → has_own x (plain past) ≡ has_own x past
unfolding has_own
plain-own x past = plain-any (is_sent x) (blind_sent x) past
