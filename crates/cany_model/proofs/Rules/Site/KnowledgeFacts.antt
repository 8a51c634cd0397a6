-- What a node knows of the site: nothing while it has only begun, and a sign that becomes known
-- stays known.
use Rattle.std.proofs.Common.{◌≡◌, ℕ, zero, suc, ◌==◌, ◌&&◌, ◌||◌, inl, inr, Bool, true, false, not, List, [], ◌∷◌, ◌++◌, map, filter, drop, length, None, refl, ap, sym, ◌∙◌, subst, arith, ◌≢◌, ◌≤◌, ◌-◌, nat_le}
use Rattle.std.specs.List.{AllByRecursion, list_any, range_with_len}
use Rattle.std.proofs.lemmas.Bool.{false≢true, and_from, and_parts, cases_Bool, cond_both, eq-eqb, eqb-true, not_from_false, or_cases, or_left, or_right, both_ways, leb-true, not-true}
use Rattle.cany_base.specs.declared.class.Class.TheVariants as class
use Rattle.cany_base.specs.declared.notice.NoticeKind.{NoticeKind}
use Rattle.cany_base.specs.declared.notice.NoticeKind.TheVariants.{Idle, Got, Sent, Bad}
use Rattle.cany_base.specs.Params.{Parameters}
use Rattle.cany_base.specs.Scenario.{ScenarioParts}
use Rattle.cany_base.proofs.NodesFacts.{has_none}
use Rattle.cany_model.specs.Bus.Frames.{Identity, identity_of, same_class}
use Rattle.cany_model.specs.Bus.History.{is_got}
use Rattle.cany_base.specs.Nodes.{nobody, has}
use Rattle.cany_model.specs.Rules.KnowledgeOf.{after_notice, after_installing, after_meeting, knowledge_of}
use Rattle.cany_model.specs.Rules.Knowledge.{FailureSign, Knowledge, after_life, fda_of, found, found_in, after_finding, after_hearing, after_learning, has_timed_out, knows, same_sign, shows_life, sign_in, sign_of, knowledge_at_first, told, told_in, with_shown, with_sign, with_signs}
use Rattle.cany_model.specs.Rules.Vectors.{brought, met}
use Rattle.cany_base.specs.Cycles.{is_end, is_start}
use Rattle.cany_model.specs.Rules.Views.{after_ask, start_of, with_ended}
use Rattle.cany_model.proofs.Among.{Among, Each-weaker}
use Rattle.cany_model.proofs.Bus.Carried.{is_got-true}
use Rattle.cany_model.proofs.Bus.Identities.{same_class_self}
use Rattle.cany_model.proofs.Rules.IdleBeforeTakingPart.{IsBegun, begun_before}
use Rattle.cany_model.proofs.Rules.Site.KnowledgeSteps.{signs_after}

-- ---- silence

none_kept : {X : Type 0} (p : X → Bool) → ((x : X) → p x ≡ false) → (xs : List X) → filter p xs ≡ []
none_kept p none [] = refl
none_kept p none (x ∷ xs) = rw (none x) (none_kept p none xs)

silent_none : (p : Parameters) (i slot : ℕ) (st : Knowledge) → st.members ≡ nobody → (r : ℕ) → has_timed_out p i slot st r ≡ false
silent_none p i slot st none r = rw (none, has_none r) refl

-- one that timed out is another node and a member, and has shown no life for as many slots as the
-- silence has
pub record HasTimedOut (p : Parameters) (i slot : ℕ) (st : Knowledge) (r : ℕ) : Type 0 where
  pub member : has st.members r ≡ true
  pub other : r ≢ i
  pub silent : p.silence ≤ slot - st.shown r

pub timed_out : (p : Parameters) (i slot : ℕ) (st : Knowledge) (r : ℕ) → has_timed_out p i slot st r ≡ true → HasTimedOut p i slot st r
timed_out p i slot st r h =
    let member : Bool = has st.members r in
    let other : Bool = not (r == i) in
    let lives : Bool = not (has st.failed r) in
    let all = and_parts (member && other && lives) (nat_le p.silence (slot - st.shown r)) h in
    let two = and_parts member other (and_parts (member && other) lives all.0).0 in
    record {
      member = two.0;
      other = λ same. both_ways (r == i) (not-true (r == i) two.1) (eq-eqb r i same);
      silent = leb-true p.silence (slot - st.shown r) all.1;
    }

-- where there are no members nobody is found to have failed
pub found_none : (p : Parameters) (i slot : ℕ) (st : Knowledge) → st.members ≡ nobody → found p i slot st ≡ []
unfolding found
found_none p i slot st none =
    ap (λ rs. filter (λ sign. not (knows sign st)) (map (sign_in p slot) rs))
    (none_kept (has_timed_out p i slot st) (silent_none p i slot st none) (range_with_len 0 p.nodes))

-- ---- a node that has only begun

no_signs : (st : Knowledge) → with_signs [] st ≡ st
unfolding with_signs
no_signs st = refl

-- what a node knows that is no member and has read nothing
abbrev pub outside : Knowledge
outside = knowledge_at_first nobody

-- in an idle slot it finds nobody, since there are no members
outside_finds : (p : Parameters) (i slot : ℕ) → after_finding p i slot Idle outside ≡ outside
unfolding after_life told with_signs
outside_finds p i slot = ap (λ signs. with_signs signs outside) (found_none p i slot outside refl) ∙ no_signs outside

-- it meets no vector
outside_meets : (p : Parameters) (i slot : ℕ) → after_meeting p i slot Idle outside ≡ outside
unfolding after_ask met brought
outside_meets p i slot = ap (λ (st : Knowledge). record st { vector = None }) (outside_finds p i slot)

-- so none ends the cycle
pub outside_installs : (p : Parameters) (i slot : ℕ) → after_installing p i slot Idle outside ≡ outside
unfolding with_ended met brought
outside_installs p i slot =
    cond_both (is_end p slot) None None (λ w. with_ended i slot w (after_meeting p i slot Idle outside) ≡ outside)
    (λ _. outside_meets p i slot) (λ _. outside_meets p i slot)

-- and it starts the next one with none
outside_starts : (p : Parameters) (i slot : ℕ) → after_notice p i slot Idle outside ≡ outside
unfolding after_notice
outside_starts p i slot =
    let st : Knowledge = after_installing p i slot Idle outside in
    let start : start_of i st ≡ None = ap (start_of i) (outside_installs p i slot) ∙ none_starts in
    cond_both (is_start p slot) (record st { vector = start_of i st }) st (λ s. s ≡ outside)
    (λ _. ap (λ w. record st { vector = w }) start ∙ ap (λ (s : Knowledge). record s { vector = None }) (outside_installs p i slot))
    (λ _. outside_installs p i slot)
  where
    none_starts : start_of i outside ≡ None
    none_starts = rw (has_none i) refl

-- a node that has only begun knows what it knew at first
pub begun_knowledge : (scenario : ScenarioParts) (i : ℕ) (past : List NoticeKind) → IsBegun scenario past
    → knowledge_of scenario i past ≡ knowledge_at_first scenario.members
unfolding knowledge_of
begun_knowledge scenario i [] begun = refl
begun_knowledge scenario i (e ∷ past) begun =
    let none : knowledge_at_first scenario.members ≡ outside = ap knowledge_at_first (begun.outside (omega arith)) in
    ap (λ n. knowledge_of scenario i (n ∷ past)) begun.idle.0
    ∙ ap (after_notice scenario.params i (length past) Idle) (begun_knowledge scenario i past (begun_before scenario e past begun) ∙ none)
    ∙ outside_starts scenario.params i (length past) ∙ sym none

-- so it has the members of the scenario
pub begun_members : (scenario : ScenarioParts) (i : ℕ) (past : List NoticeKind) → IsBegun scenario past
    → (knowledge_of scenario i past).members ≡ scenario.members
begun_members scenario i past begun = ap (λ (st : Knowledge). st.members) (begun_knowledge scenario i past begun)

-- ---- signs

pub same_sign-true : (a b : FailureSign) → same_sign a b ≡ true → a ≡ b
same_sign-true a b h =
    let parts = and_parts (a.node == b.node) (a.cycle == b.cycle) h in
    let node : a.node ≡ b.node = eqb-true a.node b.node parts.0 in
    let cycle : a.cycle ≡ b.cycle = eqb-true a.cycle b.cycle parts.1 in
    λ k. record { node = node k; cycle = cycle k }

same_sign_self : (a : FailureSign) → same_sign a a ≡ true
same_sign_self a = and_from (a.node == a.node) (a.cycle == a.cycle) (eq-eqb a.node a.node refl) (eq-eqb a.cycle a.cycle refl)

pub same_sign-from : (a b : FailureSign) → a ≡ b → same_sign a b ≡ true
same_sign-from a b e = subst (λ s. same_sign a s ≡ true) e (same_sign_self a)

-- one frame tells of one sign
pub fda_one : (a b : FailureSign) → fda_of a ≡ fda_of b → a ≡ b
fda_one a b e = λ k. record { node = (e k).node; cycle = (e k).number }

-- whether these tell of the sign
abbrev pub tells : FailureSign → List FailureSign → Bool
tells sign signs = list_any (same_sign sign) signs

-- ---- what becomes known

-- what tells of a sign counts in either order
swapped : (a b known : Bool) → (b || (a || known)) ≡ ((a || b) || known)
swapped true true known = refl
swapped true false known = refl
swapped false true known = refl
swapped false false known = refl

pub knows_with : (sign : FailureSign) (signs : List FailureSign) (st : Knowledge) → knows sign (with_signs signs st) ≡ (tells sign signs || knows sign st)
unfolding with_signs
knows_with sign [] st = refl
knows_with sign (x ∷ signs) st = knows_with sign signs (with_sign x st) ∙ swapped (same_sign sign x) (tells sign signs) (knows sign st)

pub knows_heard : (sign : FailureSign) (i slot : ℕ) (e : NoticeKind) (st : Knowledge) → knows sign (after_hearing i slot e st) ≡ knows sign st
unfolding after_life
knows_heard sign i slot Idle st = refl
knows_heard sign i slot Bad st = refl
knows_heard sign i slot (Got f) st =
    cond_both (shows_life f) (with_shown f.node slot st) st (λ s. knows sign s ≡ knows sign st) (λ _. refl) (λ _. refl)
knows_heard sign i slot (Sent f) st =
    cond_both (shows_life f && f.node == i) (record st { last = slot }) st (λ s. knows sign s ≡ knows sign st) (λ _. refl) (λ _. refl)

-- the other steps of a turn leave what is known
pub knows_found : (p : Parameters) (i slot : ℕ) (e : NoticeKind) (st : Knowledge) (sign : FailureSign)
    → knows sign (after_notice p i slot e st) ≡ knows sign (after_finding p i slot e st)
knows_found p i slot e st sign = ap (list_any (same_sign sign)) (signs_after p i slot e st)

-- those that become known in the turn: from the notice, and by silence
abbrev pub newly : Parameters → ℕ → ℕ → NoticeKind → Knowledge → List FailureSign
newly p i slot e st = told_in i slot e st ++ found_in p i slot e st

any_two : (sign : FailureSign) (xs ys : List FailureSign) → tells sign (xs ++ ys) ≡ (tells sign xs || tells sign ys)
any_two sign [] ys = refl
any_two sign (x ∷ xs) ys = ap (λ b. same_sign sign x || b) (any_two sign xs ys) ∙ nested (same_sign sign x) (tells sign xs) (tells sign ys)
  where
    nested : (a b c : Bool) → (a || (b || c)) ≡ ((a || b) || c)
    nested true b c = refl
    nested false b c = refl

each_tells : (signs : List FailureSign) → AllByRecursion (λ sign. tells sign signs ≡ true) signs
each_tells [] = tt
each_tells (x ∷ signs) = (
  or_left (same_sign x x) (tells x signs) (same_sign_self x),
  Each-weaker (λ sign. tells sign signs ≡ true) (λ sign. tells sign (x ∷ signs) ≡ true) (λ sign h. or_right (same_sign sign x) (tells sign signs) h) signs
      (each_tells signs),
)

-- a sign is known after a turn where it was known before, or becomes known in it
pub known_after : (scenario : ScenarioParts) (i : ℕ) (e : NoticeKind) (past : List NoticeKind) (sign : FailureSign)
    → knows sign (knowledge_of scenario i (e ∷ past))
    ≡ (tells sign (newly scenario.params i (length past) e (knowledge_of scenario i past)) || knows sign (knowledge_of scenario i past))
unfolding knowledge_of
known_after scenario i e past sign =
    let st : Knowledge = knowledge_of scenario i past in
    let a : List FailureSign = told_in i (length past) e st in
    let b : List FailureSign = found_in scenario.params i (length past) e st in
    knows_found scenario.params i (length past) e st sign
    ∙ knows_with sign b (after_learning i (length past) e st)
    ∙ ap (λ k. tells sign b || k) (knows_with sign a (after_hearing i (length past) e st) ∙ ap (λ k. tells sign a || k) (knows_heard sign i (length past) e st))
    ∙ swapped (tells sign a) (tells sign b) (knows sign st)
    ∙ ap (λ k. k || knows sign st) (sym (any_two sign a b))

-- each that becomes known is known
pub newly_known : (scenario : ScenarioParts) (i : ℕ) (e : NoticeKind) (past : List NoticeKind)
    → AllByRecursion (λ sign. knows sign (knowledge_of scenario i (e ∷ past)) ≡ true) (newly scenario.params i (length past) e (knowledge_of scenario i past))
newly_known scenario i e past =
    let st : Knowledge = knowledge_of scenario i past in
    let signs : List FailureSign = newly scenario.params i (length past) e st in
    Each-weaker (λ sign. tells sign signs ≡ true) (λ sign. knows sign (knowledge_of scenario i (e ∷ past)) ≡ true)
    (λ sign h. known_after scenario i e past sign ∙ or_left (tells sign signs) (knows sign st) h) signs (each_tells signs)

-- what is known stays known
pub known_stays : (scenario : ScenarioParts) (i : ℕ) (e : NoticeKind) (past : List NoticeKind) (sign : FailureSign) → knows sign (knowledge_of scenario i past) ≡ true
    → knows sign (knowledge_of scenario i (e ∷ past)) ≡ true
known_stays scenario i e past sign h =
    known_after scenario i e past sign
    ∙ or_right (tells sign (newly scenario.params i (length past) e (knowledge_of scenario i past))) (knows sign (knowledge_of scenario i past)) h

-- also over several turns
pub known_since : (scenario : ScenarioParts) (i : ℕ) (sign : FailureSign) (place : ℕ) (past : List NoticeKind)
    → knows sign (knowledge_of scenario i (drop place past)) ≡ true → knows sign (knowledge_of scenario i past) ≡ true
known_since scenario i sign zero past h = h
known_since scenario i sign (suc place) [] h = h
known_since scenario i sign (suc place) (e ∷ past) h = known_stays scenario i e past sign (known_since scenario i sign place past h)

-- a node that has only begun knows none
pub begun_knows : (scenario : ScenarioParts) (i : ℕ) (past : List NoticeKind) (sign : FailureSign) → IsBegun scenario past
    → knows sign (knowledge_of scenario i past) ≡ false
begun_knows scenario i past sign begun = ap (knows sign) (begun_knowledge scenario i past begun)

-- ---- a copy that is read makes the sign known

told_of : (e : NoticeKind) (sign : FailureSign) (st : Knowledge) → is_got (fda_of sign) e ≡ true → (tells sign (told e st) || knows sign st) ≡ true
unfolding told
told_of Idle sign st h = absurd (false≢true h)
told_of Bad sign st h = absurd (false≢true h)
told_of (Sent f) sign st h = absurd (false≢true h)
told_of (Got f) sign st h =
    let got = is_got-true (fda_of sign) (Got f) h in
    let same : f ≡ got.what = cc in
    let id : fda_of sign ≡ identity_of f = got.identity ∙ ap identity_of (sym same) in
    let is : sign ≡ sign_of f = λ k. record { node = (id k).node; cycle = (id k).number } in
    let fda : same_class f.class class.Fda ≡ true = ap (λ (y : Identity). same_class y.class class.Fda) (sym id) ∙ same_class_self class.Fda in
    cond_both (same_class f.class class.Fda && not (knows (sign_of f) st)) (sign_of f ∷ []) [] (λ signs. (tells sign signs || knows sign st) ≡ true)
    (λ _. or_left (tells sign (sign_of f ∷ [])) (knows sign st) (or_left (same_sign sign (sign_of f)) false (same_sign-from sign (sign_of f) is)))
    (λ other. elim (cases_Bool (knows (sign_of f) st)) [
      | inl known ↦ ap (λ s. knows s st) is ∙ known
      | inr unknown ↦
          absurd (false≢true (sym other ∙ and_from (same_class f.class class.Fda) (not (knows (sign_of f) st)) fda (not_from_false (knows (sign_of f) st) unknown)))
    ])

pub got_is_known : (scenario : ScenarioParts) (i : ℕ) (sign : FailureSign) (past : List NoticeKind) → Among (λ e. is_got (fda_of sign) e ≡ true) past
    → knows sign (knowledge_of scenario i past) ≡ true
got_is_known scenario i sign [] h = absurd h
got_is_known scenario i sign (e ∷ past) (inr before) = known_stays scenario i e past sign (got_is_known scenario i sign past before)
got_is_known scenario i sign (e ∷ past) (inl now) =
    let st : Knowledge = knowledge_of scenario i past in
    let a : List FailureSign = told_in i (length past) e st in
    let b : List FailureSign = found_in scenario.params i (length past) e st in
    known_after scenario i e past sign
    ∙ ap (λ k. k || knows sign st) (any_two sign a b)
    ∙ elim (or_cases (tells sign a) (knows sign (after_hearing i (length past) e st)) (told_of e sign (after_hearing i (length past) e st) now)) [
      | inl tells_now ↦ or_left (tells sign a || tells sign b) (knows sign st) (or_left (tells sign a) (tells sign b) tells_now)
      | inr known ↦ or_right (tells sign a || tells sign b) (knows sign st) (sym (knows_heard sign i (length past) e st) ∙ known)
    ]
