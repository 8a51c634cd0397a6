-- How many life signs of its own a node has sent.
use Rattle.std.proofs.Common.{◌≡◌, ℕ, zero, suc, ◌+◌, ◌*◌, ◌≤◌, inl, inr, false, List, ◌∷◌, length, replicate, refl, ◌∙◌, arith}
use Rattle.std.proofs.Math.Nat.{mul-le-mul_left}
use Rattle.std.proofs.lemmas.Bool.{cases_Bool}
use Rattle.std.proofs.lemmas.List.Sums.{count_by-le-length}
use Rattle.cany_base.specs.declared.notice.NoticeKind.{NoticeKind}
use Rattle.cany_base.specs.declared.notice.NoticeKind.TheVariants.{Idle}
use Rattle.cany_base.specs.Scenario.{ScenarioParts}
use Rattle.cany_model.specs.Rules.Life.{is_own_sign, life_signs_sent}
use Rattle.cany_model.specs.Rules.Notices.{HasFewSigns}
use Rattle.cany_model.proofs.Among.{count-no, count-yes}

pub life_signs_sent-idle : (i n : ℕ) → life_signs_sent i (replicate n Idle) ≡ 0
unfolding life_signs_sent
life_signs_sent-idle i zero = refl
life_signs_sent-idle i (suc n) = count-no (is_own_sign i) Idle (replicate n Idle) refl ∙ life_signs_sent-idle i n

pub life_signs_sent-few : (i : ℕ) (past : List NoticeKind) → life_signs_sent i past ≤ length past
unfolding life_signs_sent
life_signs_sent-few i past = count_by-le-length (is_own_sign i) past

pub few-idle : (scenario : ScenarioParts) (i n : ℕ) → HasFewSigns scenario i (replicate n Idle) (length (replicate n Idle))
few-idle scenario i n = rw (life_signs_sent-idle i n) (omega arith)

-- one notice more
life_signs_sent-more : (i : ℕ) (kind : NoticeKind) (past : List NoticeKind) → life_signs_sent i (kind ∷ past) ≤ life_signs_sent i past + 1
unfolding life_signs_sent
life_signs_sent-more i kind past = elim (cases_Bool (is_own_sign i kind)) [
  | inl own ↦ omega (arith, count-yes (is_own_sign i) kind past own)
  | inr none ↦ omega (arith, count-no (is_own_sign i) kind past none)
]

-- that is no life sign of its own
pub few_other : (scenario : ScenarioParts) (i : ℕ) (kind : NoticeKind) (past : List NoticeKind) (slot : ℕ) → is_own_sign i kind ≡ false
    → HasFewSigns scenario i past slot → HasFewSigns scenario i (kind ∷ past) slot
unfolding life_signs_sent
few_other scenario i kind past slot none few = rw (count-no (is_own_sign i) kind past none) few

-- after none of its own
pub few_first : (scenario : ScenarioParts) (i : ℕ) (kind : NoticeKind) (past : List NoticeKind) (slot : ℕ) → life_signs_sent i past ≡ 0 → scenario.params.life ≤ slot
    → HasFewSigns scenario i (kind ∷ past) slot
few_first scenario i kind past slot none passed =
    let one : life_signs_sent i (kind ∷ past) ≤ 1 = omega (arith, none, life_signs_sent-more i kind past) in
    let few : scenario.params.life * life_signs_sent i (kind ∷ past) ≤ scenario.params.life * 1 = mul-le-mul_left scenario.params.life one in
    omega (arith, few, passed)
