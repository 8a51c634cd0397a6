-- A node that rests in many idle slots, one after another, stands for all of them, and nothing is
-- done in any.
use Rattle.std.proofs.Common.{◌≡◌, ℕ, zero, suc, ◌+◌, ◌≤◌, ◌<◌, List, [], ◌∷◌, ◌++◌, length, replicate, ap, sym, ◌∙◌, subst, arith}
use Rattle.std.proofs.lemmas.List.{length-append, length-replicate}
use Rattle.cany_base.specs.declared.notice.Notice.{Notice}
use Rattle.cany_base.specs.declared.notice.NoticeKind.{NoticeKind}
use Rattle.cany_base.specs.declared.notice.NoticeKind.TheVariants.{Idle}
use Rattle.cany_base.specs.Scenario.{ScenarioParts}
use Rattle.cany_model.specs.Rules.Turn.{turn_effects}
use Rattle.cany_node.specs.Node.{NodeParts, IsNodeOf}
use Rattle.cany_node.specs.Resting.{Rests, RestsUntil}
use Rattle.cany_node.specs.Membership.{IsNextOf}

-- what was heard, and then as many idle slots
abbrev pub rested_past : ℕ → List NoticeKind → List NoticeKind
rested_past slots past = replicate slots Idle ++ past

pub rested_length : (slots : ℕ) (past : List NoticeKind) → length (replicate slots Idle ++ past) ≡ length past + slots
rested_length slots past = omega (arith, length-append (replicate slots Idle) past, length-replicate slots Idle)

-- the next of these slots
rests_next : (scenario : ScenarioParts) (past : List NoticeKind) (v : NodeParts) (wake slots : ℕ) → RestsUntil wake v → IsNodeOf scenario past v
    → length past + slots < wake → length past + slots < scenario.params.slots
    → IsNodeOf scenario (rested_past slots past) (record v { read = length past + slots }) → Rests scenario (rested_past slots past) v
rests_next scenario past v wake slots rests is early within stands =
    let long = rested_length slots past in
    rests scenario (rested_past slots past)
    (subst (λ n. IsNodeOf scenario (rested_past slots past) (record v { read = n })) (sym long) stands)
    (omega (arith, is.read, long)) (omega (arith, early, long)) (omega (arith, within, long))

pub rested : (scenario : ScenarioParts) (past : List NoticeKind) (v : NodeParts) (wake slots : ℕ) → RestsUntil wake v → IsNodeOf scenario past v
    → length past + slots ≤ wake → length past + slots ≤ scenario.params.slots
    → IsNodeOf scenario (replicate slots Idle ++ past) (record v { read = length past + slots })
rested scenario past v wake zero rests is early within =
    subst (λ n. IsNodeOf scenario past (record v { read = n })) (is.read ∙ none_more (length past)) is
  where
    none_more : (n : ℕ) → n ≡ n + 0
    none_more n = omega arith
rested scenario past v wake (suc slots) rests is early within =
    let before = rested scenario past v wake slots rests is (omega (arith, early)) (omega (arith, within)) in
    let next = rests_next scenario past v wake slots rests is (omega (arith, early)) (omega (arith, within)) before in
    subst (λ n. IsNodeOf scenario (Idle ∷ rested_past slots past) (record v { read = n })) (omega (arith, rested_length slots past)) next.stands

-- the same of a value that rested so
pub rested_as : (scenario : ScenarioParts) (past : List NoticeKind) (v w : NodeParts) (wake slots : ℕ) → RestsUntil wake v → IsNodeOf scenario past v
    → w ≡ record v { read = v.read + slots } → length past + slots ≤ wake → length past + slots ≤ scenario.params.slots
    → IsNodeOf scenario (replicate slots Idle ++ past) w
rested_as scenario past v w wake slots rests is state early within =
    subst (IsNodeOf scenario (rested_past slots past)) (sym (state ∙ ap (λ n. record v { read = n + slots }) is.read))
    (rested scenario past v wake slots rests is early within)

pub rested_effects : (scenario : ScenarioParts) (past : List NoticeKind) (v : NodeParts) (wake slots : ℕ) → RestsUntil wake v → IsNodeOf scenario past v
    → length past + slots ≤ wake → length past + slots ≤ scenario.params.slots
    → (n : ℕ) → n < slots → turn_effects scenario v.node (Idle ∷ (replicate n Idle ++ past)) ≡ []
rested_effects scenario past v wake slots rests is early within n less =
    let before = rested scenario past v wake n rests is (omega (arith, early, less)) (omega (arith, within, less)) in
    (rests_next scenario past v wake n rests is (omega (arith, early, less)) (omega (arith, within, less)) before).effects

-- ---- a turn before it wakes

-- the node would rest in the slot of the notice
pub rests_in : (scenario : ScenarioParts) (past : List NoticeKind) (notice : Notice) (v : NodeParts) (wake : ℕ) → RestsUntil wake v → notice.slot < wake
    → IsNodeOf scenario past v → IsNextOf scenario v.node past notice → Rests scenario past v
rests_in scenario past notice v wake rests early is next =
    rests scenario past (subst (λ n. IsNodeOf scenario past (record v { read = n })) is.read is)
    (omega (arith, is.read)) (omega (arith, early, next.next.slot)) (omega (arith, next.next.slot, next.next.within))

module _ (scenario : ScenarioParts) (past : List NoticeKind) (notice : Notice) (v : NodeParts) (wake : ℕ) (rests : RestsUntil wake v)
    (early : notice.slot < wake) (idle : notice.kind ≡ Idle) (is : IsNodeOf scenario past v) (next : IsNextOf scenario v.node past notice) where
  in_turn : Rests scenario past v
  in_turn = rests_in scenario past notice v wake rests early is next

  pub idle_turn-effects : turn_effects scenario v.node (notice.kind ∷ past) ≡ []
  idle_turn-effects = ap (λ k. turn_effects scenario v.node (k ∷ past)) idle ∙ in_turn.effects

  pub idle_turn-stands : (w : NodeParts) → w ≡ record v { read = notice.slot + 1 } → IsNodeOf scenario (notice.kind ∷ past) w
  idle_turn-stands w state =
      subst (λ k. IsNodeOf scenario (k ∷ past) w) (sym idle)
      (subst (IsNodeOf scenario (Idle ∷ past)) (sym (state ∙ ap (λ n. record v { read = n + 1 }) next.next.slot)) in_turn.stands)
