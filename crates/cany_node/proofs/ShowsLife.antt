-- A notice that may show life and tells nothing else of the site, in a slot for which nothing is
-- due: the node knows who lives, and nothing is done for the site.
use Rattle.std.specs.Prelude.{nat_le}
use Rattle.std.specs.List.{flat_map}
use Rattle.std.proofs.Common.{◌≡◌, ◌⊎◌, ℕ, ◌+◌, ◌-◌, ◌<◌, ◌==◌, ◌&&◌, Bool, true, false, not, if◌then◌else◌, inl, inr, List, [], ◌∷◌, ◌++◌, filter, length, map, Option, Some, None, refl, ap, sym, ◌∙◌, subst, arith}
use Rattle.std.proofs.lemmas.Bool.{cases_Bool}
use Rattle.std.proofs.lemmas.Bool.Decides.{nat_tests}
use Rattle.cany_base.specs.declared.notice.Notice.{Notice}
use Rattle.cany_base.specs.declared.notice.NoticeKind.{NoticeKind}
use Rattle.cany_base.specs.declared.notice.NoticeKind.TheVariants.{Idle, Got, Sent, Bad}
use Rattle.cany_base.specs.Cycles.{is_start}
use Rattle.cany_base.specs.Nodes.{AllBelow, Nodes}
use Rattle.cany_base.specs.Params.{Parameters}
use Rattle.cany_base.specs.Scenario.{ScenarioParts}
use Rattle.cany_history.specs.History.{IsHistoryOf}
use Rattle.cany_life.specs.Life.{IsLifeOf, IsReading, LifeParts}
use Rattle.cany_life.specs.LifeSteps.{heard}
use Rattle.cany_life.proofs.HeardFacts.{heard_stands}
use Rattle.cany_life.proofs.LearnFacts.{none_stands}
use Rattle.cany_model.specs.Rules.Effect.{Effect}
use Rattle.cany_model.specs.Rules.KnowledgeOf.{after_asking, after_installing, after_meeting, after_notice, ended_in, knowledge_of, met_in, start_in}
use Rattle.cany_model.specs.Rules.Knowledge.{FailureSign, Knowledge, after_finding, after_learning, after_life, found, found_in, has_timed_out, knows, shows_life, sign_in, told, with_shown, with_signs}
use Rattle.cany_model.specs.Rules.Life.{failure_effects, failures_at, fda_copy_effects, life_sign, life_signs_sent, failure_sign_effects}
use Rattle.cany_model.specs.Rules.Membership.{install_effects}
use Rattle.cany_model.specs.Rules.Vectors.{brought, end_effects, ended, exchange_at, met, start_effects, vector_effects}
use Rattle.cany_model.specs.Rules.Views.{after_ask, start_of, view_effects, with_ended}
use Rattle.cany_views.specs.Views.{IsViewsOf}
use Rattle.cany_views.proofs.ViewFacts.{stands_with}
use Rattle.cany_node.specs.Membership.{IsMembershipOf, IsNextOf, MembershipParts, exchange_plain, life_plain, membership_effects}
use Rattle.cany_node.specs.Resting.{MembershipRests}
use Rattle.cany_node.proofs.Idle.MembershipRest.{both_none}
use Rattle.cany_node.proofs.TellsNothingOfTheSite.{IsLifeAtMost, history_same}

-- ---- who lives

-- what is known is the same but for when a node, or this one, last showed life: it may be in this
-- slot
record KnowsWhoLives (slot : ℕ) (before after : Knowledge) : Type 0 where
  shown : ℕ → ℕ
  last : ℕ
  is : after ≡ record before { shown = shown; last = last }
  each : (r : ℕ) → (shown r ≡ before.shown r) ⊎ (shown r ≡ slot)
  own : (last ≡ before.last) ⊎ (last ≡ slot)

one_of : (b : Bool) (now before : ℕ) → ((if b then now else before) ≡ before) ⊎ ((if b then now else before) ≡ now)
one_of true now before = inr refl
one_of false now before = inl refl

same_lives : (slot : ℕ) (st : Knowledge) → KnowsWhoLives slot st st
same_lives slot st = record { shown = st.shown; last = st.last; is = refl; each = λ r. inl refl; own = inl refl }

other_lives : (slot : ℕ) (st : Knowledge) (shows : Bool) (r : ℕ) → KnowsWhoLives slot st (if shows then with_shown r slot st else st)
other_lives slot st true r = record {
  shown = λ q. if q == r then slot else st.shown q;
  last = st.last;
  is = refl;
  each = λ q. one_of (q == r) slot (st.shown q);
  own = inl refl;
}
other_lives slot st false r = same_lives slot st

own_life : (slot : ℕ) (st : Knowledge) (shows : Bool) → KnowsWhoLives slot st (if shows then record st { last = slot } else st)
own_life slot st true = record { shown = st.shown; last = slot; is = refl; each = λ r. inl refl; own = inr refl }
own_life slot st false = same_lives slot st

lives_after : (i slot : ℕ) (e : NoticeKind) (st : Knowledge) → KnowsWhoLives slot st (after_life i slot e st)
unfolding after_life
lives_after i slot Idle st = same_lives slot st
lives_after i slot (Got f) st = other_lives slot st (shows_life f) f.node
lives_after i slot (Sent f) st = own_life slot st (shows_life f && f.node == i)
lives_after i slot Bad st = same_lives slot st

-- ---- silence finds no more

later_shown : (x : Bool) (silence slot before after : ℕ) → 0 < silence → (after ≡ before) ⊎ (after ≡ slot) → (x && nat_le silence (slot - after)) ≡ true
    → (x && nat_le silence (slot - before)) ≡ true
later_shown x silence slot before after some (inl same) timed = ap (λ n. x && nat_le silence (slot - n)) (sym same) ∙ timed
later_shown x silence slot before after some (inr now) timed = grind (arith, nat_tests, some, now, timed)

none_more : (q : FailureSign → Bool) (g : ℕ → FailureSign) (t u : ℕ → Bool) → ((r : ℕ) → u r ≡ true → t r ≡ true) → (rs : List ℕ)
    → filter q (map g (filter t rs)) ≡ [] → filter q (map g (filter u rs)) ≡ []
none_more q g t u weaker [] none = refl
none_more q g t u weaker (r ∷ rs) none = elim (cases_Bool (t r)) [
  | inl timed ↦
      let both : filter q (g r ∷ map g (filter t rs)) ≡ [] = rw timed at none in
      elim (cases_Bool (q (g r))) [
        | inl kept ↦ let some : g r ∷ filter q (map g (filter t rs)) ≡ [] = rw kept at both in absurd (cc)
        | inr dropped ↦
            let rest = none_more q g t u weaker rs (rw dropped at both) in
            elim (cases_Bool (u r)) [
              | inl found_so ↦ rw (found_so, dropped) rest
              | inr not_so ↦ rw not_so rest
            ]
      ]
  | inr not_timed ↦
      elim (cases_Bool (u r)) [
        | inl found_so ↦ let apart : true ≡ false = sym (weaker r found_so) ∙ not_timed in absurd (cc)
        | inr not_so ↦ rw not_so (none_more q g t u weaker rs (rw not_timed at none))
      ]
]

found_later : (p : Parameters) (i slot : ℕ) (before after : Knowledge) → 0 < p.silence → KnowsWhoLives slot before after → found p i slot before ≡ []
    → found p i slot after ≡ []
unfolding found
found_later p i slot before after some lives none =
    subst (λ st. found p i slot st ≡ []) (sym lives.is)
    (none_more (λ sign. not (knows sign before)) (sign_in p slot) (has_timed_out p i slot before)
    (has_timed_out p i slot (record before { shown = lives.shown; last = lives.last }))
    (λ r timed. later_shown _ p.silence slot (before.shown r) (lives.shown r) some (lives.each r) timed) _ none)

-- ---- what is not done

parts_none : (xs ys : List Effect) → xs ++ ys ≡ [] → (xs ≡ []) × (ys ≡ [])
parts_none [] ys none = (refl, none)
parts_none (x ∷ xs) ys none = absurd (cc)

none_found : (omit slot : ℕ) (now : List NoticeKind) (signs : List FailureSign) → flat_map (failure_sign_effects omit slot now) signs ≡ [] → signs ≡ []
unfolding failure_sign_effects
none_found omit slot now [] none = refl
none_found omit slot now (sign ∷ signs) none = absurd (cc)

none_ended : (p : Parameters) (i slot : ℕ) (vector : Option Nodes) → end_effects p i slot vector ≡ [] → vector ≡ None
unfolding end_effects
none_ended p i slot None none = refl
none_ended p i slot (Some v) none = absurd (cc)

not_if : (b : Bool) (effect : Effect) → (if b then effect ∷ [] else []) ≡ [] → b ≡ false
not_if true effect none = absurd (cc)
not_if false effect none = refl

still_not_due : (member : Bool) (slot before after life : ℕ) → 0 < life → (after ≡ before) ⊎ (after ≡ slot) → (member && slot == before + life) ≡ false
    → (member && slot == after + life) ≡ false
still_not_due member slot before after life some (inl same) due = ap (λ n. member && slot == n + life) same ∙ due
still_not_due member slot before after life some (inr now) due = grind (arith, nat_tests, some, now)

vector_of_start : (starts : Bool) (st : Knowledge) (start : Option Nodes)
    → (if starts then record st { vector = start } else st) ≡ record st { vector = if starts then start else st.vector }
vector_of_start true st start = refl
vector_of_start false st start = refl

-- ---- the turn

module _ (scenario : ScenarioParts) (i : ℕ) (past : List NoticeKind) (e : NoticeKind) (only : IsLifeAtMost e) (v : MembershipParts)
    (h : IsMembershipOf scenario i past v) (rests : MembershipRests scenario i past v) where
  abbrev p : Parameters
  p = scenario.params

  abbrev slot : ℕ
  slot = length past

  abbrev before : Knowledge
  before = knowledge_of scenario i past

  abbrev after : Knowledge
  after = after_life i slot e before

  lives : KnowsWhoLives (length past) (knowledge_of scenario i past) (after_life i (length past) e (knowledge_of scenario i past))
  lives = lives_after i slot e before

  -- ---- in an idle slot nothing would be done

  idle_parts : (failure_effects scenario i (Idle ∷ past) ≡ []) × (exchange_plain scenario i (Idle ∷ past) ≡ []) × (life_plain scenario i (Idle ∷ past) ≡ [])
  idle_parts =
      let first = parts_none (failure_effects scenario i (Idle ∷ past)) _ rests.effects in
      let second = parts_none (exchange_plain scenario i (Idle ∷ past)) _ first.1 in
      let third = parts_none (install_effects scenario i (Idle ∷ past)) _ second.1 in
      (first.0, second.0, third.1)

  found_idle : found scenario.params i (length past) (knowledge_of scenario i past) ≡ []
  unfolding failure_effects failures_at told after_life fda_copy_effects with_signs
  found_idle = none_found p.omit slot (Idle ∷ past) (found p i slot before) idle_parts.0

  ended_idle : ended scenario.params (length past) (knowledge_of scenario i past).vector ≡ None
  unfolding exchange_at vector_effects brought met
  ended_idle =
      none_ended p i slot (ended p slot before.vector)
      (parts_none (end_effects p i slot (ended p slot before.vector)) (start_effects p 0 i slot (start_in p i slot Idle before)) idle_parts.1).0

  -- ---- what the node knows

  learnt : after_learning i (length past) e (knowledge_of scenario i past) ≡ after_life i (length past) e (knowledge_of scenario i past)
  unfolding with_signs
  learnt = ap (λ signs. with_signs signs after) (only.sign after)

  found_none : found_in scenario.params i (length past) e (knowledge_of scenario i past) ≡ []
  found_none = ap (found p i slot) learnt ∙ found_later p i slot before after (omega (arith, h.life.limits.legal.in_range.silence.0)) lives found_idle

  finds : after_finding scenario.params i (length past) e (knowledge_of scenario i past) ≡ after_life i (length past) e (knowledge_of scenario i past)
  unfolding with_signs
  finds = ap (λ signs. with_signs signs (after_learning i slot e before)) found_none ∙ learnt

  met_none : met_in scenario.params (length past) e (knowledge_of scenario i past) ≡ (knowledge_of scenario i past).vector
  unfolding met
  met_none = ap (met p before.vector) (only.vector p slot)

  ended_none : ended_in scenario.params (length past) e (knowledge_of scenario i past) ≡ None
  ended_none = ap (ended p slot) met_none ∙ ended_idle

  -- the same but for who lives
  abbrev alive : Knowledge
  alive = record before { shown = lives.shown; last = lives.last }

  asks : after_asking scenario.params i (length past) e (knowledge_of scenario i past) ≡ record (knowledge_of scenario i past) { shown = lives.shown; last = lives.last }
  asks = only.ask (after_finding p i slot e before) ∙ finds ∙ lives.is

  installed : after_installing scenario.params i (length past) e (knowledge_of scenario i past)
      ≡ record (knowledge_of scenario i past) { shown = lives.shown; last = lives.last }
  unfolding with_ended
  installed =
      ap (λ w. with_ended i slot w (after_meeting p i slot e before)) ended_none
      ∙ (λ j. record (asks j) { vector = met_none j })

  installed_idle : after_installing scenario.params i (length past) Idle (knowledge_of scenario i past) ≡ knowledge_of scenario i past
  unfolding with_ended met brought after_ask told after_life with_signs
  installed_idle =
      ap (λ w. with_ended i slot w (after_meeting p i slot Idle before)) ended_idle
      ∙ ap (λ signs. record (with_signs signs before) { vector = before.vector }) found_idle

  -- what a cycle starts with, if one starts, is the same
  start_same : start_in scenario.params i (length past) e (knowledge_of scenario i past) ≡ start_in scenario.params i (length past) Idle (knowledge_of scenario i past)
  start_same =
      ap (λ st. if is_start p slot then start_of i st else None) installed
      ∙ sym (ap (λ st. if is_start p slot then start_of i st else None) installed_idle)

  pub knows_who_lives : knowledge_of scenario i (e ∷ past) ≡ after_life i (length past) e (knowledge_of scenario i past)
  unfolding knowledge_of after_notice
  knows_who_lives =
      let start : Option Nodes = start_of i before in
      let idle : (if is_start p slot then record before { vector = start } else before) ≡ before =
      sym (ap (λ (st : Knowledge). if is_start p slot then record st { vector = start_of i st } else st) installed_idle) ∙ rests.knowledge in
      let same : (if is_start p slot then start else before.vector) ≡ before.vector =
      ap (λ (st : Knowledge). st.vector) (sym (vector_of_start (is_start p slot) before start) ∙ idle) in
      ap (λ (st : Knowledge). if is_start p slot then record st { vector = start_of i st } else st) installed
      ∙ vector_of_start (is_start p slot) alive start
      ∙ ap (λ w. record alive { vector = w }) same
      ∙ sym lives.is

  -- ---- nothing is done

  no_failures : failure_effects scenario i (e ∷ past) ≡ []
  unfolding failure_effects failures_at
  no_failures = λ j.
      flat_map (failure_sign_effects p.omit slot (e ∷ past)) (only.sign after j)
      ++ only.copy p.omit (e ∷ past) j
      ++ flat_map (failure_sign_effects p.omit slot (e ∷ past)) (found_none j)

  no_exchange : exchange_plain scenario i (e ∷ past) ≡ []
  unfolding exchange_at vector_effects brought
  no_exchange =
      (λ j. vector_effects p 0 i slot (e ∷ past) before.vector (only.vector p slot j)
      ++ end_effects p i slot (ended p slot (met p before.vector (only.vector p slot j)))
      ++ start_effects p 0 i slot (start_same j))
      ∙ idle_parts.1

  no_view : install_effects scenario i (e ∷ past) ≡ []
  unfolding install_effects view_effects
  no_view = ap (view_effects p scenario.joins scenario.leaves i slot) ended_none

  no_sign : life_plain scenario i (e ∷ past) ≡ []
  no_sign =
      let idle = not_if _ _ (ap (λ st. life_sign p.life 0 i slot st (life_signs_sent i (Idle ∷ past))) (sym rests.knowledge) ∙ idle_parts.2) in
      ap (λ st. life_sign p.life 0 i slot st (life_signs_sent i (e ∷ past))) (knows_who_lives ∙ lives.is)
      ∙ (rw (still_not_due _ slot before.last lives.last p.life (omega (arith, h.life.limits.legal.in_range.life.0)) lives.own idle) refl)

  pub nothing_done : membership_effects scenario i (e ∷ past) ≡ []
  nothing_done =
      both_none (failure_effects scenario i (e ∷ past)) _ no_failures
      (both_none (exchange_plain scenario i (e ∷ past)) _ no_exchange
      (both_none (install_effects scenario i (e ∷ past)) (life_plain scenario i (e ∷ past)) no_view no_sign))

  -- ---- the value

  views_same : IsViewsOf scenario i (knowledge_of scenario i past) v.views
      → IsViewsOf scenario i (record (knowledge_of scenario i past) { shown = lives.shown; last = lives.last }) v.views
  views_same k =
      stands_with scenario i (knowledge_of scenario i past) (record (knowledge_of scenario i past) { shown = lives.shown; last = lives.last }) v.views
      v.views.members v.views.joiners v.views.leavers k k.below k.members k.joiners k.leavers

-- it stands for the notice too, once life has heard it
pub lives_stand : (scenario : ScenarioParts) (i : ℕ) (past : List NoticeKind) (notice : Notice) → IsLifeAtMost notice.kind → (v : MembershipParts)
    → IsMembershipOf scenario i past v → MembershipRests scenario i past v → IsNextOf scenario i past notice → (life : LifeParts)
    → life ≡ heard notice.slot notice.kind v.life → IsMembershipOf scenario i (notice.kind ∷ past) (record v { life = life })
lives_stand scenario i past notice only v h rests next life is =
    let e : NoticeKind = notice.kind in
    let before : Knowledge = knowledge_of scenario i past in
    let reading : IsReading scenario i past (e ∷ past) (after_life i (length past) e before) (heard notice.slot e v.life) =
    heard_stands scenario i past before before.members v.life h.life e notice.slot next.next.slot next.next.within next.next.readable next.few in
    let read = none_stands scenario i past (after_life i (length past) e before) e e refl only.no_copy (heard notice.slot e v.life) reading in
    let alive = lives scenario i past e only v h rests in
    let knows = knows_who_lives scenario i past e only v h rests in
    let vector : (knowledge_of scenario i (Idle ∷ past)).vector ≡ (knowledge_of scenario i (e ∷ past)).vector =
    ap (λ (st : Knowledge). st.vector) (rests.knowledge) ∙ sym (ap (λ (st : Knowledge). st.vector) (knows ∙ alive.is)) in
    let site : IsViewsOf scenario i (knowledge_of scenario i (e ∷ past)) v.views =
    subst (λ st. IsViewsOf scenario i st v.views) (sym (knows ∙ alive.is)) (views_same scenario i past e only v h rests h.views) in
    record {
      params = h.params;
      failed = subst (λ (st : Knowledge). AllBelow scenario.params.nodes st.failed) (sym (knows ∙ alive.is)) h.failed;
      life = subst (λ l. IsLifeOf scenario i (e ∷ past) (knowledge_of scenario i (e ∷ past)) l) (sym is)
          (subst (λ st. IsLifeOf scenario i (e ∷ past) st (heard notice.slot e v.life)) (learnt scenario i past e only v h rests ∙ sym knows) read);
      history = subst (λ w. IsHistoryOf scenario i (e ∷ past) w v.history) vector
          (history_same scenario i past e only (knowledge_of scenario i (Idle ∷ past)).vector v.history rests.stands.history);
      views = site;
    }
