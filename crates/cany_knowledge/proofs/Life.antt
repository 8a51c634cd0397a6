-- When a node last showed life, as another node knows it, and as it knows it of itself.
use Rattle.std.proofs.Common.{◌≡◌, ℕ, ◌<◌, ◌==◌, ◌&&◌, ◌||◌, Bool, true, false, not, if◌then◌else◌, List, [], ◌∷◌, length, Option, Some, None, refl, ap, sym, ◌∙◌}
use Rattle.cany_base.specs.Limits.{most_nodes}
use Rattle.cany_base.specs.declared.notice.NoticeKind.{NoticeKind}
use Rattle.cany_base.specs.declared.notice.NoticeKind.TheVariants.{Idle, Got, Sent, Bad}
use Rattle.cany_base.specs.Frame.{FrameParts}
use Rattle.cany_base.specs.Nodes.{Nodes, has}
use Rattle.cany_base.specs.Scenario.{ScenarioParts}
use Rattle.cany_model.specs.Rules.Knowledge.{Knowledge, after_hearing, after_life, hears_life, shows_life, with_shown}
use Rattle.cany_model.specs.Rules.KnowledgeOf.{ended_in, knowledge_of}
use Rattle.cany_model.proofs.Bus.Notes.{placed_where}
use Rattle.cany_model.proofs.Rules.Site.KnowledgeSteps.{is_admitted, last_after, members_after, members_by, shown_after}
use Rattle.cany_knowledge.specs.ClosedForms.{IsGreatest, hears_itself, is_admitted_in, members_of, shows_life_in, shows_own_life_in}
use Rattle.cany_knowledge.proofs.Slots.{greatest}

-- who comes into the view is who is newly admitted
admitted_by : (r : ℕ) → r < most_nodes → (o : Option Nodes) (old : Nodes) → is_admitted o old r ≡ (has (members_by o old) r && not (has old r))
admitted_by r few (Some v) old = placed_where (λ x. has v x && not (has old x)) r few
admitted_by r few None old = by_test (has old r)
  where
    by_test : (b : Bool) → false ≡ (b && not b)
    by_test true = refl
    by_test false = refl

pub admitted_is : (scenario : ScenarioParts) (i r : ℕ) → r < most_nodes → (e : NoticeKind) (past : List NoticeKind)
    → is_admitted (ended_in scenario.params (length past) e (knowledge_of scenario i past)) (members_of scenario i past) r
    ≡ is_admitted_in scenario i r (e ∷ past)
unfolding knowledge_of is_admitted_in
admitted_is scenario i r few e past =
    let st : Knowledge = knowledge_of scenario i past in
    admitted_by r few (ended_in scenario.params (length past) e st) st.members
    ∙ ap (λ (m : Nodes). has m r && not (has st.members r)) (sym (members_after scenario.params i (length past) e st))

heard_shown : (i r slot : ℕ) (e : NoticeKind) (st : Knowledge)
    → (after_hearing i slot e st).shown r ≡ (if hears_life r e then slot else st.shown r)
unfolding after_life
heard_shown i r slot Idle st = refl
heard_shown i r slot Bad st = refl
heard_shown i r slot (Sent f) st = by_test (shows_life f && f.node == i)
  where
    by_test : (b : Bool) → (if b then record st { last = slot } else st).shown r ≡ st.shown r
    by_test true = refl
    by_test false = refl
heard_shown i r slot (Got f) st = by_test (shows_life f)
  where
    by_test : (b : Bool) → (if b then with_shown f.node slot st else st).shown r ≡ (if b && r == f.node then slot else st.shown r)
    by_test true = refl
    by_test false = refl

heard_last : (i slot : ℕ) (e : NoticeKind) (st : Knowledge) → (after_hearing i slot e st).last ≡ (if hears_itself i e then slot else st.last)
unfolding after_life
heard_last i slot Idle st = refl
heard_last i slot Bad st = refl
heard_last i slot (Sent f) st = by_test (shows_life f && f.node == i)
  where
    by_test : (b : Bool) → (if b then record st { last = slot } else st).last ≡ (if b then slot else st.last)
    by_test true = refl
    by_test false = refl
heard_last i slot (Got f) st = by_test (shows_life f)
  where
    by_test : (b : Bool) → (if b then with_shown f.node slot st else st).last ≡ st.last
    by_test true = refl
    by_test false = refl

either : (a b : Bool) (now old : ℕ) → (if a then now else if b then now else old) ≡ (if a || b then now else old)
either true b now old = refl
either false b now old = refl

shown_next : (scenario : ScenarioParts) (i r : ℕ) → r < most_nodes → (e : NoticeKind) (past : List NoticeKind)
    → (knowledge_of scenario i (e ∷ past)).shown r
    ≡ (if shows_life_in scenario i r (e ∷ past) then length past else (knowledge_of scenario i past).shown r)
unfolding knowledge_of shows_life_in
shown_next scenario i r few e past =
    let st : Knowledge = knowledge_of scenario i past in
    let slot : ℕ = length past in
    shown_after scenario.params i slot e st r
    ∙ ap (λ n. if is_admitted (ended_in scenario.params slot e st) st.members r then slot else n) (heard_shown i r slot e st)
    ∙ ap (λ b. if b then slot else if hears_life r e then slot else st.shown r) (admitted_is scenario i r few e past)
    ∙ either (is_admitted_in scenario i r (e ∷ past)) (hears_life r e) slot (st.shown r)

last_next : (scenario : ScenarioParts) (i : ℕ) → i < most_nodes → (e : NoticeKind) (past : List NoticeKind)
    → (knowledge_of scenario i (e ∷ past)).last
    ≡ (if shows_own_life_in scenario i (e ∷ past) then length past else (knowledge_of scenario i past).last)
unfolding knowledge_of shows_own_life_in
last_next scenario i few e past =
    let st : Knowledge = knowledge_of scenario i past in
    let slot : ℕ = length past in
    last_after scenario.params i slot e st
    ∙ ap (λ n. if is_admitted (ended_in scenario.params slot e st) st.members i then slot else n) (heard_last i slot e st)
    ∙ ap (λ b. if b then slot else if hears_itself i e then slot else st.last) (admitted_is scenario i i few e past)
    ∙ either (is_admitted_in scenario i i (e ∷ past)) (hears_itself i e) slot st.last

shown_first : (scenario : ScenarioParts) (i r : ℕ) → (knowledge_of scenario i []).shown r ≡ 0
unfolding knowledge_of
shown_first scenario i r = refl

last_first : (scenario : ScenarioParts) (i : ℕ) → (knowledge_of scenario i []).last ≡ 0
unfolding knowledge_of
last_first scenario i = refl

pub shown_is_greatest : (scenario : ScenarioParts) (i r : ℕ) (past : List NoticeKind) → r < most_nodes
    → IsGreatest (shows_life_in scenario i r) past ((knowledge_of scenario i past).shown r)
shown_is_greatest scenario i r past few =
    greatest (shows_life_in scenario i r) (λ read. (knowledge_of scenario i read).shown r) (shown_first scenario i r) (shown_next scenario i r few) past

pub last_is_greatest : (scenario : ScenarioParts) (i : ℕ) (past : List NoticeKind) → i < most_nodes
    → IsGreatest (shows_own_life_in scenario i) past (knowledge_of scenario i past).last
last_is_greatest scenario i past few =
    greatest (shows_own_life_in scenario i) (λ read. (knowledge_of scenario i read).last) (last_first scenario i) (last_next scenario i few) past
