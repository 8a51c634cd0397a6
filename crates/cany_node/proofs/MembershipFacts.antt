-- What life, the exchange of vectors and the views stand for after each step of a turn.
use Rattle.std.proofs.Common.{◌≡◌, ℕ, inl, inr, ◌+◌, ◌%◌, ◌<◌, ◌==◌, ◌&&◌, Bool, true, false, not, nat_lt, if◌then◌else◌, List, [], ◌∷◌, filter, map, Option, Some, None, option_map, refl, ap, sym, ◌∙◌, subst, arith}
use Rattle.std.specs.List.{AllByRecursion, list_any, range_with_len}
use Rattle.std.proofs.lemmas.Bool.{and_parts, cases_Bool, cond-false, cond_both, eqb-true, false_from_ne_true}
use Rattle.cany_base.specs.declared.class.Class.TheVariants as class
use Rattle.cany_base.specs.declared.notice.NoticeKind.{NoticeKind}
use Rattle.cany_base.specs.declared.notice.NoticeKind.TheVariants.{Idle, Got, Sent, Bad}
use Rattle.cany_base.specs.Nodes.{AllBelow, Nodes, has, with_node}
use Rattle.cany_base.specs.Params.{Parameters}
use Rattle.cany_base.specs.Scenario.{ScenarioParts}
use Rattle.cany_history.specs.declared.ended.Ended.{Ended}
use Rattle.cany_life.specs.Life.{IsLifeOf, LifeParts}
use Rattle.cany_model.specs.Bus.Frames.{same_class}
use Rattle.cany_model.specs.Rules.Notices.{BelongsTo, IsReadable}
use Rattle.cany_model.specs.Rules.KnowledgeOf.{ended_in, after_installing, after_meeting, met_in, start_in}
use Rattle.cany_model.specs.Rules.Knowledge.{FailureSign, Knowledge, found, found_in, after_finding, after_hearing, after_learning, has_timed_out, knows, same_sign, sign_in, sign_of, told, told_in, with_sign, with_signs}
use Rattle.cany_base.specs.Cycles.{cycle_of, is_end, is_start}
use Rattle.cany_model.specs.Rules.Views.{after_ask, start_of, with_ended, with_joiner, with_leaver}
use Rattle.cany_model.proofs.Among.{Each-filter, Each-map, Each-weaker}
use Rattle.cany_model.proofs.Bus.Identities.{same_class-true}
use Rattle.cany_model.proofs.Rules.Site.KnowledgeSteps.{IgnoresAsks, IgnoresLife, IgnoresSigns, IgnoresVector, asks_keep, found_keeps, life_keeps, met_keeps}
use Rattle.cany_model.proofs.Rules.Site.LifeFacts.{numbers_below}
use Rattle.cany_views.specs.Views.{IsViewsOf, ViewsParts}
use Rattle.cany_base.proofs.SetFacts.{below_with}
use Rattle.cany_node.specs.Membership.{KnowsOf, MembershipParts, ended_as}

-- ---- what the parts rest on

-- of what a node knows, life and failure rest on this
pub record SameLife (a b : Knowledge) : Type 0 where
  pub failed : a.failed ≡ b.failed
  pub signs : a.signs ≡ b.signs
  pub shown : (r : ℕ) → a.shown r ≡ b.shown r
  pub last : a.last ≡ b.last

-- and the views on this
pub record SameViews (a b : Knowledge) : Type 0 where
  pub members : a.members ≡ b.members
  pub joiners : a.joiners ≡ b.joiners
  pub leavers : a.leavers ≡ b.leavers

module _ (scenario : ScenarioParts) (i : ℕ) (a b : Knowledge) where
  pub life_moved : (past : List NoticeKind) (v : LifeParts) → SameLife a b → IsLifeOf scenario i past a v → IsLifeOf scenario i past b v
  life_moved past v same h = record {
    limits = h.limits;
    failed = λ r. h.failed r ∙ ap (λ nodes. has nodes r) same.failed;
    signs = record { cycles = h.signs.cycles; known = λ sign is. h.signs.known sign is ∙ ap (list_any (same_sign sign)) same.signs };
    copies = h.copies;
    lives = record {
      nodes = h.lives.nodes;
      are_shown = λ r below. h.lives.are_shown r below ∙ same.shown r;
      is_last = h.lives.is_last ∙ same.last;
      are_sent = h.lives.are_sent;
      few = h.lives.few;
    };
  }

  pub views_moved : (v : ViewsParts) → SameViews a b → IsViewsOf scenario i a v → IsViewsOf scenario i b v
  views_moved v same h = record {
    limits = h.limits;
    members = h.members ∙ same.members;
    joiners = h.joiners ∙ same.joiners;
    leavers = h.leavers ∙ same.leavers;
    below = h.below;
  }

  pub knows_moved : (past : List NoticeKind) (v : MembershipParts) → SameLife a b → SameViews a b → KnowsOf scenario i past a v
      → KnowsOf scenario i past b v
  knows_moved past v life views h = record {
    params = h.params;
    failed = subst (AllBelow scenario.params.nodes) life.failed h.failed;
    life = life_moved past v.life life h.life;
    views = views_moved v.views views h.views;
  }

-- ---- asks

-- the asks that are heard are the same, whatever is known of life
joiner_if : (t : Bool) (r : ℕ) (a b : Knowledge) → SameViews a b
    → SameViews (if t then a else record a { joiners = with_node r a.joiners })
    (if t then b else record b { joiners = with_node r b.joiners })
joiner_if true r a b same = same
joiner_if false r a b same = record { members = same.members; joiners = ap (with_node r) same.joiners; leavers = same.leavers }

joiner_moved : (r : ℕ) (a b : Knowledge) → SameViews a b → SameViews (with_joiner r a) (with_joiner r b)
joiner_moved r a b same =
    subst (λ t. SameViews (with_joiner r a) (if t then b else record b { joiners = with_node r b.joiners }))
    (ap (λ m. has m r) same.members) (joiner_if (has a.members r) r a b same)

leaver_if : (t : Bool) (r : ℕ) (a b : Knowledge) → SameViews a b
    → SameViews (if t then record a { leavers = with_node r a.leavers } else a)
    (if t then record b { leavers = with_node r b.leavers } else b)
leaver_if true r a b same = record { members = same.members; joiners = same.joiners; leavers = ap (with_node r) same.leavers }
leaver_if false r a b same = same

leaver_moved : (r : ℕ) (a b : Knowledge) → SameViews a b → SameViews (with_leaver r a) (with_leaver r b)
leaver_moved r a b same =
    subst (λ t. SameViews (with_leaver r a) (if t then record b { leavers = with_node r b.leavers } else b))
    (ap (λ m. has m r) same.members) (leaver_if (has a.members r) r a b same)

same_if : (t : Bool) (a b c d : Knowledge) → SameViews a b → SameViews c d → SameViews (if t then a else c) (if t then b else d)
same_if true a b c d first second = first
same_if false a b c d first second = second

ask_moved : (e : NoticeKind) (a b : Knowledge) → SameViews a b → SameViews (after_ask e a) (after_ask e b)
unfolding after_ask
ask_moved Idle a b same = same
ask_moved Bad a b same = same
ask_moved (Sent f) a b same =
    same_if (same_class f.class class.Leave) (with_leaver f.node a) (with_leaver f.node b) a b (leaver_moved f.node a b same) same
ask_moved (Got f) a b same =
    same_if (same_class f.class class.Join) (with_joiner f.node a) (with_joiner f.node b)
    (if same_class f.class class.Leave then with_leaver f.node a else a)
    (if same_class f.class class.Leave then with_leaver f.node b else b) (joiner_moved f.node a b same)
    (same_if (same_class f.class class.Leave) (with_leaver f.node a) (with_leaver f.node b) a b (leaver_moved f.node a b same) same)

-- asking leaves the members
pub asked_members : (e : NoticeKind) (st : Knowledge) → (after_ask e st).members ≡ st.members
asked_members e st = asks_keep Nodes (λ s. s.members) (record { joiners = λ n s. refl; leavers = λ n s. refl }) e st

-- ---- what is heard

module _ (p : Parameters) (i slot : ℕ) (e : NoticeKind) (st : Knowledge) where
  met_part : (A : Type 0) (part : Knowledge → A) → IgnoresAsks A part → IgnoresVector A part
      → part (after_finding p i slot e st) ≡ part (after_meeting p i slot e st)
  met_part A part asks vector = sym (met_keeps A part asks vector p i slot e st)

  -- asking, and the vector, leave what is known of life
  pub met_life : SameLife (after_finding p i slot e st) (after_meeting p i slot e st)
  met_life = record {
    failed = met_part Nodes (λ s. s.failed) (record { joiners = λ n s. refl; leavers = λ n s. refl }) (λ w s. refl);
    signs = met_part (List FailureSign) (λ s. s.signs) (record { joiners = λ n s. refl; leavers = λ n s. refl }) (λ w s. refl);
    shown = λ r. met_part ℕ (λ s. s.shown r) (record { joiners = λ n s. refl; leavers = λ n s. refl }) (λ w s. refl);
    last = met_part ℕ (λ s. s.last) (record { joiners = λ n s. refl; leavers = λ n s. refl }) (λ w s. refl);
  }

  found_part : (part : Knowledge → Nodes) → IgnoresLife Nodes part → IgnoresSigns Nodes part → part st ≡ part (after_finding p i slot e st)
  found_part part life signs = sym (found_keeps Nodes part signs p i slot e st ∙ life_keeps Nodes part life i slot e st)

  -- hearing who lives and who has failed leaves what is known of the views
  found_views : SameViews st (after_finding p i slot e st)
  found_views = record {
    members = found_part (λ s. s.members) (record { shown = λ f s. refl; last = λ n s. refl }) (λ sign s. refl);
    joiners = found_part (λ s. s.joiners) (record { shown = λ f s. refl; last = λ n s. refl }) (λ sign s. refl);
    leavers = found_part (λ s. s.leavers) (record { shown = λ f s. refl; last = λ n s. refl }) (λ sign s. refl);
  }

  pub met_views : SameViews (after_ask e st) (after_meeting p i slot e st)
  met_views =
      let same = ask_moved e st (after_finding p i slot e st) found_views in
      record { members = same.members; joiners = same.joiners; leavers = same.leavers }

-- ---- who has failed is a node of the bus

abbrev HasNodeBelow : ℕ → FailureSign → Type 0
HasNodeBelow n sign = sign.node < n

signs_below : (n : ℕ) (signs : List FailureSign) (st : Knowledge) → AllByRecursion (HasNodeBelow n) signs → AllBelow n st.failed
    → AllBelow n (with_signs signs st).failed
unfolding with_signs
signs_below n [] st each below = below
signs_below n (sign ∷ signs) st each below =
    signs_below n signs (with_sign sign st) each.1 (below_with n sign.node st.failed each.0 below)

found_below : (p : Parameters) (i slot : ℕ) (st : Knowledge) → AllByRecursion (HasNodeBelow p.nodes) (found p i slot st)
unfolding found
found_below p i slot st =
    let numbers : List ℕ = range_with_len 0 p.nodes in
    let silent : List ℕ = filter (has_timed_out p i slot st) numbers in
    let each = Each-weaker (λ r. r < 0 + p.nodes) (λ r. r < p.nodes) (λ r h. omega (arith, h)) numbers (numbers_below 0 p.nodes) in
    Each-filter (HasNodeBelow p.nodes) (λ sign. not (knows sign st)) (map (sign_in p slot) silent)
    (Each-map (sign_in p slot) (HasNodeBelow p.nodes) silent (Each-filter (λ r. r < p.nodes) (has_timed_out p i slot st) numbers each))

told_below : (scenario : ScenarioParts) (slot : ℕ) (e : NoticeKind) (st : Knowledge) → IsReadable scenario slot e
    → AllByRecursion (HasNodeBelow scenario.params.nodes) (told e st)
unfolding told
told_below scenario slot Idle st readable = tt
told_below scenario slot Bad st readable = tt
told_below scenario slot (Sent f) st readable = tt
told_below scenario slot (Got f) st readable =
    cond_both (same_class f.class class.Fda && not (knows (sign_of f) st)) (sign_of f ∷ []) []
    (AllByRecursion (HasNodeBelow scenario.params.nodes)) (λ h.
    let fda = same_class-true f.class class.Fda (and_parts (same_class f.class class.Fda) (not (knows (sign_of f) st)) h).0 in
    let names = subst (λ c. BelongsTo scenario slot c f) fda readable in
    (names.node, tt))
    (λ _. tt)

heard_failed : (i slot : ℕ) (e : NoticeKind) (st : Knowledge) → (after_hearing i slot e st).failed ≡ st.failed
heard_failed i slot e st = life_keeps Nodes (λ s. s.failed) (record { shown = λ f s. refl; last = λ n s. refl }) i slot e st

pub found_failed : (scenario : ScenarioParts) (i slot : ℕ) (e : NoticeKind) (st : Knowledge) (at : ℕ) → IsReadable scenario at e
    → AllBelow scenario.params.nodes st.failed → AllBelow scenario.params.nodes (after_finding scenario.params i slot e st).failed
found_failed scenario i slot e st at readable below =
    let p : Parameters = scenario.params in
    let heard = subst (AllBelow p.nodes) (sym (heard_failed i slot e st)) below in
    let told = told_below scenario at e (after_hearing i slot e st) readable in
    let learnt = signs_below p.nodes (told_in i slot e st) (after_hearing i slot e st) told heard in
    signs_below p.nodes (found_in p i slot e st) (after_learning i slot e st) (found_below p i slot (after_learning i slot e st)) learnt

-- ---- a cycle does not start where one ends

start_no_end : (p : Parameters) (slot : ℕ) → 0 < p.bound → is_start p slot ≡ true → is_end p slot ≡ false
start_no_end p slot some start = false_from_ne_true (is_end p slot) (λ ends.
    let starts_at = (and_parts (slot % p.cycle == 0) (nat_lt 0 (cycle_of p slot)) start).0 in
    let none : slot % p.cycle ≡ 0 = eqb-true (slot % p.cycle) 0 starts_at in
    let ends_at = (and_parts (slot % p.cycle == p.bound) (nat_lt 0 (cycle_of p slot)) ends).0 in
    let last : slot % p.cycle ≡ p.bound = eqb-true (slot % p.cycle) p.bound ends_at in
    omega (arith, none, last, some))

-- so a node starts with what it knows before anything is installed
pub starts_as_met : (p : Parameters) (i slot : ℕ) (e : NoticeKind) (st : Knowledge) → 0 < p.bound
    → (if is_start p slot then start_of i (after_meeting p i slot e st) else None) ≡ start_in p i slot e st
unfolding with_ended
starts_as_met p i slot e st some = elim (cases_Bool (is_start p slot)) [
  | inl start ↦
      let none : ended_in p slot e st ≡ None = cond-false (is_end p slot) (met_in p slot e st) None (start_no_end p slot some start) in
      ap (λ w. if is_start p slot then start_of i (with_ended i slot w (after_meeting p i slot e st)) else None) (sym none)
  | inr other ↦
      cond-false (is_start p slot) (start_of i (after_meeting p i slot e st)) None other
      ∙ sym (cond-false (is_start p slot) (start_of i (after_installing p i slot e st)) None other)
]

-- ---- the end of a cycle

-- the vector with which it ended
pub ended_vector : (p : Parameters) (slot : ℕ) (vector : Option Nodes) (e : Ended) → Some e ≡ ended_as p slot vector
    → vector ≡ Some e.vector
ended_vector p slot None e is = cc
ended_vector p slot (Some v) e is = ap (option_map (λ (x : Ended). x.vector)) (sym is)

pub ended_none : (p : Parameters) (slot : ℕ) (vector : Option Nodes) → None ≡ ended_as p slot vector → vector ≡ None
ended_none p slot None is = refl
ended_none p slot (Some v) is = cc
