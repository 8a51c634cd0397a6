-- What the steps of a turn make of what a node knows: which fields each step leaves, and what each
-- field is after the turn.
use Rattle.std.proofs.Common.{◌≡◌, ℕ, ◌==◌, ◌&&◌, Bool, true, false, not, if◌then◌else◌, List, [], ◌∷◌, Option, Some, None, refl, ap, ◌∙◌}
use Rattle.std.proofs.lemmas.Bool.{cond_both}
use Rattle.cany_base.specs.declared.class.Class.TheVariants as class
use Rattle.cany_base.specs.declared.notice.NoticeKind.{NoticeKind}
use Rattle.cany_base.specs.declared.notice.NoticeKind.TheVariants.{Idle, Got, Sent, Bad}
use Rattle.cany_base.specs.Nodes.{Nodes, has, those_where, meet, minus, with_node}
use Rattle.cany_base.specs.Params.{Parameters}
use Rattle.cany_model.specs.Bus.Frames.{same_class}
use Rattle.cany_model.specs.Rules.KnowledgeOf.{after_notice, ended_in, after_asking, after_installing, after_meeting, after_starting, met_in, start_in}
use Rattle.cany_model.specs.Rules.Knowledge.{FailureSign, Knowledge, after_life, found_in, after_finding, after_hearing, after_learning, shows_life, told_in, with_shown, with_sign, with_signs}
use Rattle.cany_model.specs.Rules.Vectors.{after_exchange}
use Rattle.cany_base.specs.Cycles.{is_end, is_start}
use Rattle.cany_model.specs.Rules.Views.{after_ask, start_of, with_ended, with_joiner, with_leaver}

-- ---- what a step leaves

-- a part of what a node knows, and which fields it does not rest on
module _ (A : Type 0) (part : Knowledge → A) where
  pub record IgnoresLife : Type 0 where
    pub shown : (by : ℕ → ℕ) (st : Knowledge) → part (record st { shown = by }) ≡ part st
    pub last : (slot : ℕ) (st : Knowledge) → part (record st { last = slot }) ≡ part st

  abbrev pub IgnoresSigns : Type 0
  IgnoresSigns = (sign : FailureSign) (st : Knowledge) → part (with_sign sign st) ≡ part st

  pub record IgnoresAsks : Type 0 where
    pub joiners : (nodes : Nodes) (st : Knowledge) → part (record st { joiners = nodes }) ≡ part st
    pub leavers : (nodes : Nodes) (st : Knowledge) → part (record st { leavers = nodes }) ≡ part st

  abbrev pub IgnoresVector : Type 0
  IgnoresVector = (vector : Option Nodes) (st : Knowledge) → part (record st { vector = vector }) ≡ part st

  pub life_keeps : IgnoresLife → (i slot : ℕ) (e : NoticeKind) (st : Knowledge) → part (after_hearing i slot e st) ≡ part st
  unfolding after_life
  life_keeps ignores i slot Idle st = refl
  life_keeps ignores i slot Bad st = refl
  life_keeps ignores i slot (Got f) st =
      cond_both (shows_life f) (with_shown f.node slot st) st (λ s. part s ≡ part st)
      (λ _. ignores.shown (λ q. if q == f.node then slot else st.shown q) st) (λ _. refl)
  life_keeps ignores i slot (Sent f) st =
      cond_both (shows_life f && f.node == i) (record st { last = slot }) st (λ s. part s ≡ part st) (λ _. ignores.last slot st) (λ _. refl)

  pub signs_keep : IgnoresSigns → (signs : List FailureSign) (st : Knowledge) → part (with_signs signs st) ≡ part st
  unfolding with_signs
  signs_keep ignores [] st = refl
  signs_keep ignores (sign ∷ signs) st = signs_keep ignores signs (with_sign sign st) ∙ ignores sign st

  -- so learning and finding leave what hearing leaves
  pub learnt_keeps : IgnoresSigns → (i slot : ℕ) (e : NoticeKind) (st : Knowledge)
      → part (after_learning i slot e st) ≡ part (after_hearing i slot e st)
  learnt_keeps ignores i slot e st = signs_keep ignores (told_in i slot e st) (after_hearing i slot e st)

  pub found_keeps : IgnoresSigns → (p : Parameters) (i slot : ℕ) (e : NoticeKind) (st : Knowledge)
      → part (after_finding p i slot e st) ≡ part (after_hearing i slot e st)
  found_keeps ignores p i slot e st =
      signs_keep ignores (found_in p i slot e st) (after_learning i slot e st) ∙ learnt_keeps ignores i slot e st

  joiner_keeps : IgnoresAsks → (r : ℕ) (st : Knowledge) → part (with_joiner r st) ≡ part st
  joiner_keeps ignores r st =
      cond_both (has st.members r) st (record st { joiners = with_node r st.joiners }) (λ s. part s ≡ part st)
      (λ _. refl) (λ _. ignores.joiners (with_node r st.joiners) st)

  leaver_keeps : IgnoresAsks → (r : ℕ) (st : Knowledge) → part (with_leaver r st) ≡ part st
  leaver_keeps ignores r st =
      cond_both (has st.members r) (record st { leavers = with_node r st.leavers }) st (λ s. part s ≡ part st)
      (λ _. ignores.leavers (with_node r st.leavers) st) (λ _. refl)

  pub asks_keep : IgnoresAsks → (e : NoticeKind) (st : Knowledge) → part (after_ask e st) ≡ part st
  unfolding after_ask
  asks_keep ignores Idle st = refl
  asks_keep ignores Bad st = refl
  asks_keep ignores (Sent f) st =
      cond_both (same_class f.class class.Leave) (with_leaver f.node st) st (λ s. part s ≡ part st)
      (λ _. leaver_keeps ignores f.node st) (λ _. refl)
  asks_keep ignores (Got f) st =
      cond_both (same_class f.class class.Join) (with_joiner f.node st) (if same_class f.class class.Leave then with_leaver f.node st else st)
      (λ s. part s ≡ part st) (λ _. joiner_keeps ignores f.node st)
      (λ _. cond_both (same_class f.class class.Leave) (with_leaver f.node st) st (λ s. part s ≡ part st)
      (λ _. leaver_keeps ignores f.node st) (λ _. refl))

  -- what is met leaves all but the vector
  pub met_keeps : IgnoresAsks → IgnoresVector → (p : Parameters) (i slot : ℕ) (e : NoticeKind) (st : Knowledge)
      → part (after_meeting p i slot e st) ≡ part (after_finding p i slot e st)
  met_keeps asks vector p i slot e st =
      vector (met_in p slot e st) (after_asking p i slot e st) ∙ asks_keep asks e (after_finding p i slot e st)

  pub start_keeps : IgnoresVector → (p : Parameters) (i slot : ℕ) (e : NoticeKind) (st : Knowledge)
      → part (after_starting p i slot e st) ≡ part (after_installing p i slot e st)
  start_keeps vector p i slot e st =
      let st' : Knowledge = after_installing p i slot e st in
      cond_both (is_start p slot) (record st' { vector = start_of i st' }) st' (λ s. part s ≡ part st')
      (λ _. vector (start_of i st') st') (λ _. refl)

-- ---- the view

-- the members once this has become the view, if one has
abbrev pub members_by : Option Nodes → Nodes → Nodes
members_by None old = old
members_by (Some v) old = v

-- whether node r is newly admitted by it
abbrev pub is_admitted : Option Nodes → Nodes → ℕ → Bool
is_admitted None old r = false
is_admitted (Some v) old r = has (minus v old) r

abbrev pub failed_by : Option Nodes → Nodes → Nodes → Nodes
failed_by None old failed = failed
failed_by (Some v) old failed = those_where (λ r. has failed r && not (has (minus v old) r))

abbrev pub joiners_by : Option Nodes → Nodes → Nodes
joiners_by None joiners = joiners
joiners_by (Some v) joiners = minus joiners v

abbrev pub leavers_by : Option Nodes → Nodes → Nodes
leavers_by None leavers = leavers
leavers_by (Some v) leavers = meet leavers v

module _ (i slot : ℕ) where
  ended_members : (w : Option Nodes) (st : Knowledge) → (with_ended i slot w st).members ≡ members_by w st.members
  unfolding with_ended
  ended_members None st = refl
  ended_members (Some v) st = refl

  ended_failed : (w : Option Nodes) (st : Knowledge) → (with_ended i slot w st).failed ≡ failed_by w st.members st.failed
  unfolding with_ended
  ended_failed None st = refl
  ended_failed (Some v) st = refl

  ended_signs : (w : Option Nodes) (st : Knowledge) → (with_ended i slot w st).signs ≡ st.signs
  unfolding with_ended
  ended_signs None st = refl
  ended_signs (Some v) st = refl

  ended_shown : (w : Option Nodes) (st : Knowledge) (r : ℕ)
      → (with_ended i slot w st).shown r ≡ (if is_admitted w st.members r then slot else st.shown r)
  unfolding with_ended
  ended_shown None st r = refl
  ended_shown (Some v) st r = refl

  ended_last : (w : Option Nodes) (st : Knowledge) → (with_ended i slot w st).last ≡ (if is_admitted w st.members i then slot else st.last)
  unfolding with_ended
  ended_last None st = refl
  ended_last (Some v) st = refl

  ended_joiners : (w : Option Nodes) (st : Knowledge) → (with_ended i slot w st).joiners ≡ joiners_by w st.joiners
  unfolding with_ended
  ended_joiners None st = refl
  ended_joiners (Some v) st = refl

  ended_leavers : (w : Option Nodes) (st : Knowledge) → (with_ended i slot w st).leavers ≡ leavers_by w st.leavers
  unfolding with_ended
  ended_leavers None st = refl
  ended_leavers (Some v) st = refl

  -- the vector is given up where it has become the view
  ended_vector : (end : Bool) (w : Option Nodes) (st : Knowledge) → st.vector ≡ w
      → (with_ended i slot (if end then w else None) st).vector ≡ (if end then None else w)
  unfolding with_ended
  ended_vector true None st same = same
  ended_vector true (Some v) st same = refl
  ended_vector false w st same = same

-- ---- after a turn

module _ (p : Parameters) (i slot : ℕ) (e : NoticeKind) (st : Knowledge) where
  met_members : (after_meeting p i slot e st).members ≡ st.members
  met_members =
      met_keeps Nodes (λ s. s.members) (record { joiners = λ n s. refl; leavers = λ n s. refl }) (λ v s. refl) p i slot e st
      ∙ found_keeps Nodes (λ s. s.members) (λ sign s. refl) p i slot e st
      ∙ life_keeps Nodes (λ s. s.members) (record { shown = λ f s. refl; last = λ n s. refl }) i slot e st

  -- those that stood in the view before the turn, until it has another one
  pub members_after : (after_notice p i slot e st).members ≡ members_by (ended_in p slot e st) st.members
  unfolding after_notice
  members_after =
      start_keeps Nodes (λ s. s.members) (λ v s. refl) p i slot e st
      ∙ ended_members i slot (ended_in p slot e st) (after_meeting p i slot e st)
      ∙ ap (members_by (ended_in p slot e st)) met_members

  -- signs become known in learning and finding alone
  pub signs_after : (after_notice p i slot e st).signs ≡ (after_finding p i slot e st).signs
  unfolding after_notice
  signs_after =
      start_keeps (List FailureSign) (λ s. s.signs) (λ v s. refl) p i slot e st
      ∙ ended_signs i slot (ended_in p slot e st) (after_meeting p i slot e st)
      ∙ met_keeps (List FailureSign) (λ s. s.signs) (record { joiners = λ n s. refl; leavers = λ n s. refl }) (λ v s. refl) p i slot e st

  -- those that have failed are these, without those newly admitted
  pub failed_after : (after_notice p i slot e st).failed ≡ failed_by (ended_in p slot e st) st.members (after_finding p i slot e st).failed
  unfolding after_notice
  failed_after =
      start_keeps Nodes (λ s. s.failed) (λ v s. refl) p i slot e st
      ∙ ended_failed i slot (ended_in p slot e st) (after_meeting p i slot e st)
      ∙ ap (λ old. failed_by (ended_in p slot e st) old (after_meeting p i slot e st).failed) met_members
      ∙ ap (failed_by (ended_in p slot e st) st.members)
      (met_keeps Nodes (λ s. s.failed) (record { joiners = λ n s. refl; leavers = λ n s. refl }) (λ v s. refl) p i slot e st)

  -- a node that is newly admitted shows life in the slot of the turn
  pub shown_after : (r : ℕ) → (after_notice p i slot e st).shown r
      ≡ (if is_admitted (ended_in p slot e st) st.members r then slot else (after_hearing i slot e st).shown r)
  unfolding after_notice
  shown_after r =
      start_keeps ℕ (λ s. s.shown r) (λ v s. refl) p i slot e st
      ∙ ended_shown i slot (ended_in p slot e st) (after_meeting p i slot e st) r
      ∙ ap (λ old. if is_admitted (ended_in p slot e st) old r then slot else (after_meeting p i slot e st).shown r) met_members
      ∙ ap (λ n. if is_admitted (ended_in p slot e st) st.members r then slot else n)
      (met_keeps ℕ (λ s. s.shown r) (record { joiners = λ n s. refl; leavers = λ n s. refl }) (λ v s. refl) p i slot e st
      ∙ found_keeps ℕ (λ s. s.shown r) (λ sign s. refl) p i slot e st)

  -- and so does the node itself
  pub last_after : (after_notice p i slot e st).last
      ≡ (if is_admitted (ended_in p slot e st) st.members i then slot else (after_hearing i slot e st).last)
  unfolding after_notice
  last_after =
      start_keeps ℕ (λ s. s.last) (λ v s. refl) p i slot e st
      ∙ ended_last i slot (ended_in p slot e st) (after_meeting p i slot e st)
      ∙ ap (λ old. if is_admitted (ended_in p slot e st) old i then slot else (after_meeting p i slot e st).last) met_members
      ∙ ap (λ n. if is_admitted (ended_in p slot e st) st.members i then slot else n)
      (met_keeps ℕ (λ s. s.last) (record { joiners = λ n s. refl; leavers = λ n s. refl }) (λ v s. refl) p i slot e st
      ∙ found_keeps ℕ (λ s. s.last) (λ sign s. refl) p i slot e st)

  pub joiners_after : (after_notice p i slot e st).joiners ≡ joiners_by (ended_in p slot e st) (after_asking p i slot e st).joiners
  unfolding after_notice
  joiners_after =
      start_keeps Nodes (λ s. s.joiners) (λ v s. refl) p i slot e st
      ∙ ended_joiners i slot (ended_in p slot e st) (after_meeting p i slot e st)

  pub leavers_after : (after_notice p i slot e st).leavers ≡ leavers_by (ended_in p slot e st) (after_asking p i slot e st).leavers
  unfolding after_notice
  leavers_after =
      start_keeps Nodes (λ s. s.leavers) (λ v s. refl) p i slot e st
      ∙ ended_leavers i slot (ended_in p slot e st) (after_meeting p i slot e st)

  -- the vector is that of the exchange
  installed_vector : (after_installing p i slot e st).vector ≡ (if is_end p slot then None else met_in p slot e st)
  installed_vector = ended_vector i slot (is_end p slot) (met_in p slot e st) (after_meeting p i slot e st) refl

  pub vector_after : (after_notice p i slot e st).vector ≡ after_exchange p slot e (start_in p i slot e st) st.vector
  unfolding after_notice
  vector_after =
      let st' : Knowledge = after_installing p i slot e st in
      cond_both (is_start p slot) (record st' { vector = start_of i st' }) st'
      (λ s. s.vector ≡ after_exchange p slot e (start_in p i slot e st) st.vector)
      (λ start. rw start refl) (λ other. rw other installed_vector)
