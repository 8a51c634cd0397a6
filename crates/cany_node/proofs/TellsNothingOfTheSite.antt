-- A notice that tells nothing of the site is to what a node keeps of it as an idle slot.
use Rattle.std.specs.List.{flat_map, list_any}
use Rattle.std.proofs.Common.{◌≡◌, ℕ, ◌+◌, ◌*◌, ◌/◌, ◌≤◌, ◌==◌, ◌&&◌, ◌||◌, Bool, true, false, nat_le, if◌then◌else◌, List, [], ◌∷◌, ◌++◌, length, Option, Some, None, IfSome, count_by, refl, ap, sym, ◌∙◌, subst}
use Rattle.std.proofs.lemmas.Bool.{false_from_ne_true}
use Rattle.can_frame.specs.Classes.{is_of_site}
use Rattle.cany_base.specs.declared.class.Class.{Class}
use Rattle.cany_base.specs.declared.class.Class.TheVariants as class
use Rattle.cany_base.specs.declared.format.Format.{Format}
use Rattle.cany_base.specs.declared.log_entry.LogEntry.TheVariants.{Failed}
use Rattle.cany_base.specs.declared.notice.NoticeKind.{NoticeKind}
use Rattle.cany_base.specs.declared.notice.NoticeKind.TheVariants.{Idle, Got, Sent, Bad}
use Rattle.cany_base.specs.Frame.{FrameParts}
use Rattle.cany_base.specs.Nodes.{AllBelow, Nodes}
use Rattle.cany_base.specs.Params.{Parameters}
use Rattle.cany_base.specs.Scenario.{ScenarioParts}
use Rattle.cany_history.specs.History.{HistoryParts, IsExchangeOf, IsHistoryOf, vector_read}
use Rattle.cany_history.proofs.PastFacts.{more_from_none}
use Rattle.cany_life.specs.Life.{IsLifeOf, LifeParts}
use Rattle.cany_life.proofs.LearnFacts.{IsNoCopy}
use Rattle.cany_model.specs.Bus.Frames.{same_class, same_identity}
use Rattle.cany_model.specs.Bus.History.{copies, is_got}
use Rattle.cany_model.specs.Rules.Effect.{Ask, Enter}
use Rattle.cany_model.specs.Rules.Life.{failure_effects, failures_at, fda_copy_effects, is_own_sign, life_sign, failure_sign_effects, life_signs_sent}
use Rattle.cany_model.specs.Rules.Membership.{install_effects}
use Rattle.cany_model.specs.Rules.KnowledgeOf.{after_notice, ended_in, after_asking, after_installing, met_in, start_in, knowledge_of}
use Rattle.cany_model.specs.Rules.Knowledge.{FailureSign, Knowledge, after_life, fda_frame, fda_of, found, found_in, after_finding, after_learning, shows_life, told, told_in, with_signs}
use Rattle.cany_model.specs.Rules.Vectors.{brought, end_effects, ended, exchange_at, is_just, is_vector_got, is_vector_sent, met, start_effects, vector_effects, vector_in}
use Rattle.cany_base.specs.Cycles.{is_exchange, is_start}
use Rattle.cany_model.specs.Rules.Views.{after_ask, start_of, view_effects, with_ended}
use Rattle.cany_model.proofs.Among.{count-no}
use Rattle.cany_model.proofs.Bus.Identities.{same_class-true}
use Rattle.cany_views.specs.Views.{IsViewsOf}
use Rattle.cany_node.specs.Resting.{MembershipRests}
use Rattle.cany_node.specs.Membership.{IsMembershipOf, MembershipParts, membership_effects, tells_of_site}

-- ---- the class of a frame

-- a class of which a test is false is none of which it is true
pub apart : (test : Class → Bool) (c d : Class) → test c ≡ false → test d ≡ true → same_class c d ≡ false
apart test c d other one = false_from_ne_true (same_class c d) (λ same.
    let e : true ≡ false = sym one ∙ ap test (sym (same_class-true c d same)) ∙ other in absurd (cc))

-- nor the other way round
pub apart_from : (test : Class → Bool) (c d : Class) → test c ≡ false → test d ≡ true → same_class d c ≡ false
apart_from test c d other one = false_from_ne_true (same_class d c) (λ same.
    let e : true ≡ false = sym one ∙ ap test (same_class-true d c same) ∙ other in absurd (cc))

-- ---- what the steps of a turn find in the notice

either : (A : Type 0) (b : Bool) (a : A) → (if b then a else a) ≡ a
either A true a = refl
either A false a = refl

neither : (b : Bool) → (b && false) ≡ false
neither true = refl
neither false = refl

-- whether frames of the class tell more of the site than who lives
abbrev pub tells_more : Class → Bool
tells_more c = same_class c class.Fda || (same_class c class.Rha || (same_class c class.Join || same_class c class.Leave))

-- no sign, no ask and no vector
pub record IsLifeAtMost (e : NoticeKind) : Type 0 where
  pub no_copy : IsNoCopy e
  pub sign : (st : Knowledge) → told e st ≡ []
  pub copy : (omit : ℕ) (past : List NoticeKind) → fda_copy_effects omit e past ≡ []
  pub counted : (sign : FailureSign) → is_got (fda_of sign) e ≡ false
  pub ask : (st : Knowledge) → after_ask e st ≡ st
  pub vector : (p : Parameters) (slot : ℕ) → brought p slot e ≡ None
  pub read : (format : Format) (cycle i : ℕ) → vector_read format cycle i e ≡ None
  pub got : (format : Format) (cycle : ℕ) (v : Nodes) → is_vector_got format cycle v e ≡ false
  pub sent : (format : Format) (cycle i : ℕ) (v : Nodes) → is_vector_sent format cycle i v e ≡ false

-- and nobody who shows life
pub record IsUnheard (e : NoticeKind) : Type 0 where
  pub at_most : IsLifeAtMost e
  pub life : (i slot : ℕ) (st : Knowledge) → after_life i slot e st ≡ st
  pub own : (i : ℕ) → is_own_sign i e ≡ false

more_is : (c : Class) → same_class c class.Fda ≡ false → same_class c class.Rha ≡ false → same_class c class.Join ≡ false → same_class c class.Leave ≡ false
    → tells_more c ≡ false
more_is c fda rha join leave = rw (fda, rha, join, leave) refl

no_more : (c : Class) → is_of_site c ≡ false → tells_more c ≡ false
no_more c other =
    more_is c (apart is_of_site c class.Fda other refl) (apart is_of_site c class.Rha other refl) (apart is_of_site c class.Join other refl)
    (apart is_of_site c class.Leave other refl)

-- a class that tells no more is none of the four that do
record IsNoneOfFour (c : Class) : Type 0 where
  fda : same_class c class.Fda ≡ false
  from_fda : same_class class.Fda c ≡ false
  rha : same_class c class.Rha ≡ false
  join : same_class c class.Join ≡ false
  leave : same_class c class.Leave ≡ false

none_of_four : (c : Class) → tells_more c ≡ false → IsNoneOfFour c
unfolding same_class
none_of_four c other = record {
  fda = apart tells_more c class.Fda other refl;
  from_fda = apart_from tells_more c class.Fda other refl;
  rha = apart tells_more c class.Rha other refl;
  join = apart tells_more c class.Join other refl;
  leave = apart tells_more c class.Leave other refl;
}

no_vector : (format : Format) (cycle : ℕ) (f : FrameParts) → tells_more f.class ≡ false → vector_in format cycle f ≡ None
no_vector format cycle f other = rw (none_of_four f.class other).rha refl

no_life : (f : FrameParts) → is_of_site f.class ≡ false → shows_life f ≡ false
unfolding shows_life
no_life f other =
    rw (apart is_of_site f.class class.Els other refl, apart is_of_site f.class class.Rha other refl, apart is_of_site f.class class.Tot other refl) refl

nothing_just : (v : Nodes) (x : Option Nodes) → x ≡ None → is_just v x ≡ false
unfolding is_just
nothing_just v x none = ap (is_just v) none

pub life_at_most_got : (f : FrameParts) → tells_more f.class ≡ false → IsLifeAtMost (Got f)
unfolding told fda_copy_effects after_ask brought same_identity
life_at_most_got f other =
    let none = none_of_four f.class other in
    record {
      no_copy = none.fda;
      sign = λ st. rw none.fda refl;
      copy = λ omit past. rw none.fda refl;
      counted = λ sign. rw none.from_fda refl;
      ask = λ st. rw (none.join, none.leave) refl;
      vector = λ p slot. rw (no_vector p.format (slot / p.cycle) f other) (either (Option Nodes) (is_exchange p slot) None);
      read = λ format cycle i. no_vector format cycle f other;
      got = λ format cycle v. nothing_just v (vector_in format cycle f) (no_vector format cycle f other);
      sent = λ format cycle i v. refl;
    }

pub life_at_most_sent : (f : FrameParts) → tells_more f.class ≡ false → IsLifeAtMost (Sent f)
unfolding told fda_copy_effects after_ask brought
life_at_most_sent f other = record {
  no_copy = tt;
  sign = λ st. refl;
  copy = λ omit past. refl;
  counted = λ sign. refl;
  ask = λ st. rw (none_of_four f.class other).leave refl;
  vector = λ p slot. refl;
  read = λ format cycle i. ap (λ w. if f.node == i then w else None) (no_vector format cycle f other) ∙ either (Option Nodes) (f.node == i) None;
  got = λ format cycle v. refl;
  sent = λ format cycle i v.
      ap (λ b. f.node == i && b) (nothing_just v (vector_in format cycle f) (no_vector format cycle f other)) ∙ neither (f.node == i);
}

-- where no frame is read, each field computes
pub life_at_most_idle : IsLifeAtMost Idle
unfolding told fda_copy_effects after_ask brought
life_at_most_idle = search

pub life_at_most_bad : IsLifeAtMost Bad
unfolding told fda_copy_effects after_ask brought
life_at_most_bad = search

pub unheard : (e : NoticeKind) → tells_of_site e ≡ false → IsUnheard e
unfolding after_life
unheard (Got f) other = record {
  at_most = life_at_most_got f (no_more f.class other);
  life = λ i slot st. rw (no_life f other) refl;
  own = λ i. refl;
}
unheard (Sent f) other = record {
  at_most = life_at_most_sent f (no_more f.class other);
  life = λ i slot st. rw (no_life f other) refl;
  own = λ i. rw (apart is_of_site f.class class.Els other refl) refl;
}
unheard Idle other = record { at_most = life_at_most_idle; life = λ i slot st. refl; own = λ i. refl }
unheard Bad other = record { at_most = life_at_most_bad; life = λ i slot st. refl; own = λ i. refl }

-- ---- what the node knows after each step

module _ (p : Parameters) (i slot : ℕ) (e : NoticeKind) (u : IsUnheard e) (st : Knowledge) where
  learnt_same : after_learning i slot e st ≡ after_learning i slot Idle st
  unfolding after_life told
  learnt_same = λ j. with_signs (u.at_most.sign (after_life i slot e st) j) (u.life i slot st j)

  pub told_same : told_in i slot e st ≡ told_in i slot Idle st
  unfolding after_life told
  told_same = u.at_most.sign (after_life i slot e st)

  pub found_in_same : found_in p i slot e st ≡ found_in p i slot Idle st
  found_in_same = ap (found p i slot) learnt_same

  found_same : after_finding p i slot e st ≡ after_finding p i slot Idle st
  found_same = λ j. with_signs (found p i slot (learnt_same j)) (learnt_same j)

  asked_same : after_asking p i slot e st ≡ after_asking p i slot Idle st
  unfolding after_ask
  asked_same = u.at_most.ask (after_finding p i slot e st) ∙ found_same

  met_same : met_in p slot e st ≡ met_in p slot Idle st
  unfolding brought
  met_same = ap (met p st.vector) (u.at_most.vector p slot)

  pub ended_same : ended_in p slot e st ≡ ended_in p slot Idle st
  ended_same = ap (ended p slot) met_same

  installed_same : after_installing p i slot e st ≡ after_installing p i slot Idle st
  installed_same = λ j. with_ended i slot (ended_same j) (record (asked_same j) { vector = met_same j })

  pub start_same : start_in p i slot e st ≡ start_in p i slot Idle st
  start_same = ap (λ s. if is_start p slot then start_of i s else None) installed_same

  pub notice_same : after_notice p i slot e st ≡ after_notice p i slot Idle st
  unfolding after_notice
  notice_same = ap (λ (s : Knowledge). if is_start p slot then record s { vector = start_of i s } else s) installed_same

-- ---- the vector of the node

module _ (scenario : ScenarioParts) (i : ℕ) (past : List NoticeKind) (e : NoticeKind) (only : IsLifeAtMost e) where
  exchanged_same : (cycle : ℕ) (own : Option Nodes) (v : HistoryParts) → IsExchangeOf scenario.params cycle i (Idle ∷ past) own v → IsExchangeOf scenario.params cycle i (e ∷ past) own v
  exchanged_same cycle own v h = record {
    more = (more_from_none scenario.params.format cycle i own e (only.read scenario.params.format cycle i), h.more.1);
    copies = by_copies own h.copies;
    sent = by_sent own h.sent;
  }
    where
      by_copies : (o : Option Nodes) → IfSome o (λ w. v.copies ≡ count_by (is_vector_got scenario.params.format cycle w) (Idle ∷ past))
          → IfSome o (λ w. v.copies ≡ count_by (is_vector_got scenario.params.format cycle w) (e ∷ past))
      by_copies None h = tt
      by_copies (Some w) h =
          h ∙ count-no (is_vector_got scenario.params.format cycle w) Idle past refl ∙ sym (count-no (is_vector_got scenario.params.format cycle w) e past (only.got scenario.params.format cycle w))

      by_sent : (o : Option Nodes) → IfSome o (λ w. v.sent ≡ list_any (is_vector_sent scenario.params.format cycle i w) (Idle ∷ past))
          → IfSome o (λ w. v.sent ≡ list_any (is_vector_sent scenario.params.format cycle i w) (e ∷ past))
      by_sent None h = tt
      by_sent (Some w) h = h ∙ sym (ap (λ b. b || list_any (is_vector_sent scenario.params.format cycle i w) past) (only.sent scenario.params.format cycle i w))

  pub history_same : (own : Option Nodes) (v : HistoryParts) → IsHistoryOf scenario i (Idle ∷ past) own v → IsHistoryOf scenario i (e ∷ past) own v
  history_same own v h = record {
    limits = h.limits;
    vector = h.vector;
    below = h.below;
    few = h.few;
    unread = λ cycle early. (only.read scenario.params.format cycle i, (h.unread cycle early).1);
    exchange = λ exchanged. exchanged_same _ own v (h.exchange exchanged);
  }

module _ (scenario : ScenarioParts) (i : ℕ) (past : List NoticeKind) (e : NoticeKind) (u : IsUnheard e) where
  abbrev p : Parameters
  p = scenario.params

  abbrev before : Knowledge
  before = knowledge_of scenario i past

  pub knowledge_same : knowledge_of scenario i (e ∷ past) ≡ knowledge_of scenario i (Idle ∷ past)
  unfolding knowledge_of
  knowledge_same = notice_same p i (length past) e u before

  -- ---- what is counted

  copies_same : (sign : FailureSign) → copies (fda_of sign) (e ∷ past) ≡ copies (fda_of sign) (Idle ∷ past)
  unfolding copies
  copies_same sign = count-no (is_got (fda_of sign)) e past (u.at_most.counted sign) ∙ sym (count-no (is_got (fda_of sign)) Idle past refl)

  signs_same : life_signs_sent i (e ∷ past) ≡ life_signs_sent i (Idle ∷ past)
  unfolding life_signs_sent
  signs_same = count-no (is_own_sign i) e past (u.own i) ∙ sym (count-no (is_own_sign i) Idle past refl)

  -- ---- what is done

  sign_same : (omit slot : ℕ) → failure_sign_effects omit slot (e ∷ past) ≡ failure_sign_effects omit slot (Idle ∷ past)
  unfolding failure_sign_effects
  sign_same omit slot = λ j sign.
      Enter (Failed slot sign.node sign.cycle) ∷ (if nat_le (omit + 1) (copies_same sign j) then [] else Ask (fda_frame sign) ∷ [])

  pub failures_same : failure_effects scenario i (e ∷ past) ≡ failure_effects scenario i (Idle ∷ past)
  unfolding failure_effects failures_at fda_copy_effects
  failures_same = λ j.
      flat_map (sign_same p.omit (length past) j) (told_same p i (length past) e u before j)
      ++ u.at_most.copy p.omit (e ∷ past) j
      ++ flat_map (sign_same p.omit (length past) j) (found_in_same p i (length past) e u before j)

  no_vector_effects : (inc : ℕ) → vector_effects p inc i (length past) (e ∷ past) before.vector (brought p (length past) e) ≡ []
  unfolding vector_effects
  no_vector_effects inc = ap (vector_effects p inc i (length past) (e ∷ past) before.vector) (u.at_most.vector p (length past))

  pub exchange_same : (inc : ℕ) → exchange_at p inc i e past before.vector (start_in p i (length past) e before)
      ≡ exchange_at p inc i Idle past before.vector (start_in p i (length past) Idle before)
  unfolding exchange_at vector_effects brought
  exchange_same inc = λ j.
      no_vector_effects inc j
      ++ end_effects p i (length past) (ended p (length past) (met p before.vector (u.at_most.vector p (length past) j)))
      ++ start_effects p inc i (length past) (start_same p i (length past) e u before j)

  pub install_same : install_effects scenario i (e ∷ past) ≡ install_effects scenario i (Idle ∷ past)
  unfolding install_effects
  install_same = ap (view_effects p scenario.joins scenario.leaves i (length past)) (ended_same p i (length past) e u before)

  pub sign_due_same : (inc : ℕ) → life_sign p.life inc i (length past) (knowledge_of scenario i (e ∷ past)) (life_signs_sent i (e ∷ past))
      ≡ life_sign p.life inc i (length past) (knowledge_of scenario i (Idle ∷ past)) (life_signs_sent i (Idle ∷ past))
  sign_due_same inc = λ j. life_sign p.life inc i (length past) (knowledge_same j) (signs_same j)

  pub site_same : membership_effects scenario i (e ∷ past) ≡ membership_effects scenario i (Idle ∷ past)
  site_same = λ j. failures_same j ++ (exchange_same 0 j ++ (install_same j ++ sign_due_same 0 j))

  -- ---- the value

  life_same : (st : Knowledge) (v : LifeParts) → IsLifeOf scenario i (Idle ∷ past) st v → IsLifeOf scenario i (e ∷ past) st v
  life_same st v h = record {
    limits = h.limits;
    failed = h.failed;
    signs = h.signs;
    copies = record {
      omit = h.copies.omit;
      room = h.copies.room;
      copies = λ sign below. h.copies.copies sign below ∙ sym (copies_same sign);
      signs = h.copies.signs;
    };
    lives = record {
      nodes = h.lives.nodes;
      are_shown = h.lives.are_shown;
      is_last = h.lives.is_last;
      are_sent = h.lives.are_sent ∙ sym signs_same;
      few = subst (λ n. n * scenario.params.life ≤ length (e ∷ past)) (sym signs_same) h.lives.few;
    };
  }

  -- the value stands for the notice as for an idle slot
  pub site_unheard : (v : MembershipParts) → IsMembershipOf scenario i (Idle ∷ past) v → IsMembershipOf scenario i (e ∷ past) v
  site_unheard v h =
      let same : knowledge_of scenario i (Idle ∷ past) ≡ knowledge_of scenario i (e ∷ past) = sym knowledge_same in
      record {
        params = h.params;
        failed = subst (λ (st : Knowledge). AllBelow p.nodes st.failed) same h.failed;
        life = subst (λ st. IsLifeOf scenario i (e ∷ past) st v.life) same (life_same _ v.life h.life);
        history = subst (λ (st : Knowledge). IsHistoryOf scenario i (e ∷ past) st.vector v.history) same (history_same scenario i past e u.at_most _ v.history h.history);
        views = subst (λ st. IsViewsOf scenario i st v.views) same h.views;
      }

  -- where it rests at an idle slot, nothing is done
  pub none_unheard : (v : MembershipParts) → MembershipRests scenario i past v → membership_effects scenario i (e ∷ past) ≡ []
  none_unheard v rests = site_same ∙ rests.effects
