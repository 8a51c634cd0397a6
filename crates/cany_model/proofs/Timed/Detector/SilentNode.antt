-- What a node knows of one that sends nothing more: it fails, or leaves the view, or its life lies
-- back; and once it has been silent for too long the node starts no cycle with it.
use Rattle.std.proofs.Common.{◌≡◌, ℕ, ◌+◌, ◌-◌, ◌*◌, ◌<◌, ◌≤◌, ◌⊎◌, ◌==◌, ◌&&◌, ◌||◌, not, inl, inr, if◌then◌else◌, Bool, true, false, List, [], ◌∷◌, ◌++◌, length, map, filter, Option, Some, None, nat_le, refl, ap, sym, ◌∙◌, subst, arith, div-mul-le_self}
use Rattle.std.specs.List.{AllByRecursion, range_with_len}
use Rattle.std.proofs.Math.Nat.{mul-le-mul_right}
use Rattle.std.proofs.lemmas.Bool.{and_from, and_parts, both_ways, cases_Bool, cond-false, cond_both, eq-eqb, false_from_ne_true, false≢true, le-leb, ne_eqb, not-true, not_from_false, or_cases, or_left, or_right}
use Rattle.std.proofs.lemmas.List.FromFn.{get_or-range_with_len, length-range_with_len}
use Rattle.cany_base.specs.Limits.{most_nodes}
use Rattle.cany_base.specs.declared.class.Class.TheVariants as class
use Rattle.cany_base.specs.declared.notice.NoticeKind.{NoticeKind}
use Rattle.cany_base.specs.declared.notice.NoticeKind.TheVariants.{Idle, Got, Sent, Bad}
use Rattle.cany_base.specs.declared.slot_note.SlotNote.{SlotNote}
use Rattle.cany_base.specs.Frame.{FrameParts}
use Rattle.cany_base.specs.Nodes.{Nodes, has, minus}
use Rattle.cany_base.specs.Params.{Parameters}
use Rattle.cany_base.specs.Scenario.{ScenarioParts}
use Rattle.cany_model.specs.Bus.Frames.{same_class}
use Rattle.cany_model.specs.Bus.History.{given}
use Rattle.cany_model.specs.Rules.Notices.{IsReadable}
use Rattle.cany_model.specs.Rules.KnowledgeOf.{after_asking, after_installing, after_meeting, met_in, start_in, knowledge_of}
use Rattle.cany_model.specs.Rules.Knowledge.{FailureSign, Knowledge, after_life, found, found_in, after_finding, after_hearing, after_learning, has_timed_out, knows, same_sign, shows_life, sign_in, sign_of, told, told_in, with_shown, with_sign, with_signs}
use Rattle.cany_base.specs.Cycles.{is_end, is_start}
use Rattle.cany_base.proofs.SetFacts.{has_where}
use Rattle.cany_model.specs.Rules.Views.{start_of, start_vector, with_ended}
use Rattle.cany_model.proofs.Among.{Among, Among-from_any, Among-get_or, Among-map, Among-weaker, Each-append, Each-filter, Each-map}
use Rattle.cany_model.proofs.Bus.EachRead.{EachRead}
use Rattle.cany_model.proofs.Bus.Identities.{same_class-true}
use Rattle.cany_model.proofs.Bus.Notes.{placed_where}
use Rattle.cany_model.proofs.Promises.WaitingIsAskable.{fda_names}
use Rattle.cany_model.proofs.Rules.Site.KnowledgeFacts.{knows_heard, knows_with, known_after, newly, same_sign-true, tells}
use Rattle.cany_model.proofs.Rules.Site.KnowledgeSteps.{asks_keep, failed_after, failed_by, found_keeps, is_admitted, learnt_keeps, life_keeps, shown_after}
use Rattle.cany_model.proofs.Timed.Detector.VectorsAgreeOn.{Says, none_says, some_says}
use Rattle.cany_model.proofs.Timed.Common.KnowledgeAges.{ended_at, full, shown_either}
use Rattle.cany_model.proofs.Timed.Detector.Stopped.{IsOwn, NotFrom, not_heard}

-- ---- with what a node starts a cycle

-- of a slot at which no cycle ends
module _ (p : Parameters) (i slot : ℕ) (e : NoticeKind) (st : Knowledge) where
  pub found_joiners : (after_finding p i slot e st).joiners ≡ st.joiners
  found_joiners =
      found_keeps Nodes (λ s. s.joiners) (λ sign s. refl) p i slot e st
      ∙ life_keeps Nodes (λ s. s.joiners) (record { shown = λ f s. refl; last = λ n s. refl }) i slot e st

  pub found_members : (after_finding p i slot e st).members ≡ st.members
  found_members =
      found_keeps Nodes (λ s. s.members) (λ sign s. refl) p i slot e st
      ∙ life_keeps Nodes (λ s. s.members) (record { shown = λ f s. refl; last = λ n s. refl }) i slot e st

  pub asked_members : (after_asking p i slot e st).members ≡ st.members
  asked_members =
      asks_keep Nodes (λ s. s.members) (record { joiners = λ n s. refl; leavers = λ n s. refl }) e (after_finding p i slot e st) ∙ found_members

  pub asked_failed : (after_asking p i slot e st).failed ≡ (after_finding p i slot e st).failed
  asked_failed = asks_keep Nodes (λ s. s.failed) (record { joiners = λ n s. refl; leavers = λ n s. refl }) e (after_finding p i slot e st)

  pub no_installed : is_end p slot ≡ false → after_installing p i slot e st ≡ after_meeting p i slot e st
  unfolding with_ended
  no_installed no_end = ap (λ w. with_ended i slot w (after_meeting p i slot e st)) (cond-false (is_end p slot) (met_in p slot e st) None no_end)

  -- it says what is said of the vector of a member
  pub start_says : (r : ℕ) (b : Bool) → is_end p slot ≡ false → (has st.members i ≡ true → has (start_vector (after_asking p i slot e st)) r ≡ b)
      → Says r b (start_in p i slot e st)
  start_says r b no_end says =
      let now : Knowledge = after_meeting p i slot e st in
      subst (λ (s : Knowledge). Says r b (if is_start p slot then start_of i s else None)) (sym (no_installed no_end))
      (cond_both (is_start p slot) (start_of i now) None (Says r b)
      (λ _. cond_both (has now.members i) (Some (start_vector now)) None (Says r b)
      (λ member. some_says r b (start_vector now) (says (ap (λ m. has m i) (sym asked_members) ∙ member))) (λ _. none_says r b))
      (λ _. none_says r b))

-- a member that failed, or a node that is outside, which does not ask to join
start_lacks : (r : ℕ) (st : Knowledge) → (has st.members r ≡ false) ⊎ (has st.failed r ≡ true) → has st.joiners r ≡ false
    → has (start_vector st) r ≡ false
start_lacks r st why joiner = false_from_ne_true (has (start_vector st) r) (λ h.
    elim (or_cases (has (minus (minus st.members st.failed) st.leavers) r) (has st.joiners r)
    (has_where (λ q. has (minus (minus st.members st.failed) st.leavers) q || has st.joiners q) r h)) [
      | inr joins ↦ both_ways (has st.joiners r) joiner joins
      | inl stands ↦
          let stays = (and_parts (has (minus st.members st.failed) r) (not (has st.leavers r))
          (has_where (λ q. has (minus st.members st.failed) q && not (has st.leavers q)) r stands)).0 in
          let both =
          and_parts (has st.members r) (not (has st.failed r)) (has_where (λ q. has st.members q && not (has st.failed q)) r stays) in
          elim why [
            | inl out ↦ both_ways (has st.members r) out both.0
            | inr failed ↦ both_ways (has st.failed r) (not-true (has st.failed r) both.1) failed
          ]
    ])

-- so no cycle starts with it
pub lacks_says : (p : Parameters) (i r slot : ℕ) (e : NoticeKind) (st : Knowledge) → is_end p slot ≡ false
    → (has st.members r ≡ false) ⊎ (has (after_finding p i slot e st).failed r ≡ true) → has (after_asking p i slot e st).joiners r ≡ false
    → Says r false (start_in p i slot e st)
lacks_says p i r slot e st no_end why joiner =
    start_says p i slot e st r false no_end (λ member. start_lacks r (after_asking p i slot e st)
    (elim why [
      | inl out ↦ inl (ap (λ m. has m r) (asked_members p i slot e st) ∙ out)
      | inr failed ↦ inr (ap (λ m. has m r) (asked_failed p i slot e st) ∙ failed)
    ]) joiner)

-- ---- life that is not shown

-- the notice brings no frame that r alone sends
abbrev pub NothingOf : ℕ → NoticeKind → Type 0
NothingOf r e = (f : FrameParts) → e ≡ Got f → IsOwn f → f.node ≡ r → ⊥

-- it brings no frame by which r shows life
abbrev pub NoLifeOf : ℕ → NoticeKind → Type 0
NoLifeOf r e = (f : FrameParts) → e ≡ Got f → shows_life f ≡ true → f.node ≡ r → ⊥

pub no_life : (i slot r : ℕ) (e : NoticeKind) (st : Knowledge) → NoLifeOf r e → (after_hearing i slot e st).shown r ≡ st.shown r
unfolding after_life
no_life i slot r Idle st h = refl
no_life i slot r Bad st h = refl
no_life i slot r (Sent f) st h =
    cond_both (shows_life f && f.node == i) (record st { last = slot }) st (λ s. s.shown r ≡ st.shown r) (λ _. refl) (λ _. refl)
no_life i slot r (Got f) st h =
    cond_both (shows_life f) (with_shown f.node slot st) st (λ s. s.shown r ≡ st.shown r)
    (λ life. rw (ne_eqb r f.node (λ e. h f refl life (sym e))) refl) (λ _. refl)

pub learnt_no_life : (i slot r : ℕ) (e : NoticeKind) (st : Knowledge) → NoLifeOf r e → (after_learning i slot e st).shown r ≡ st.shown r
learnt_no_life i slot r e st h = learnt_keeps ℕ (λ s. s.shown r) (λ sign s. refl) i slot e st ∙ no_life i slot r e st h

shown_first : (scenario : ScenarioParts) (i r : ℕ) → (knowledge_of scenario i []).shown r ≤ 0
unfolding knowledge_of
shown_first scenario i r = omega arith

-- it lies before what was read
shown_before : (scenario : ScenarioParts) (i r : ℕ) (past : List NoticeKind) → (knowledge_of scenario i past).shown r ≤ length past
shown_before scenario i r [] = shown_first scenario i r
shown_before scenario i r (e ∷ past) = elim (shown_either scenario i e past r) [
  | inl now ↦ omega (arith, now)
  | inr same ↦ omega (arith, same, shown_before scenario i r past)
]

pub shown_by : (scenario : ScenarioParts) (i r : ℕ) (e : NoticeKind) (past : List NoticeKind)
    → (knowledge_of scenario i (e ∷ past)).shown r ≤ length past
shown_by scenario i r e past = elim (shown_either scenario i e past r) [
  | inl now ↦ omega (arith, now)
  | inr same ↦ omega (arith, same, shown_before scenario i r past)
]

-- ---- a failure that stays

pub with_signs_still : (r : ℕ) (signs : List FailureSign) (st : Knowledge) → r < most_nodes → has st.failed r ≡ true → has (with_signs signs st).failed r ≡ true
unfolding with_signs
with_signs_still r [] st few h = h
with_signs_still r (sign ∷ signs) st few h =
    with_signs_still r signs (with_sign sign st) few (placed_where (λ q. has st.failed q || q == sign.node) r few ∙ or_left (has st.failed r)
    (r == sign.node) h)

pub with_signs_named : (r : ℕ) (signs : List FailureSign) (st : Knowledge) → r < most_nodes → Among (λ sign. sign.node ≡ r) signs
    → has (with_signs signs st).failed r ≡ true
unfolding with_signs
with_signs_named r [] st few h = absurd h
with_signs_named r (sign ∷ signs) st few (inl now) =
    with_signs_still r signs (with_sign sign st) few
    (placed_where (λ q. has st.failed q || q == sign.node) r few ∙ or_right (has st.failed r) (r == sign.node) (eq-eqb r sign.node (sym now)))
with_signs_named r (sign ∷ signs) st few (inr later) = with_signs_named r signs (with_sign sign st) few later

module _ (p : Parameters) (i r slot : ℕ) (e : NoticeKind) (st : Knowledge) (few : r < most_nodes) where
  pub learnt_still : has (after_learning i slot e st).failed r ≡ true → has (after_finding p i slot e st).failed r ≡ true
  learnt_still h = with_signs_still r (found_in p i slot e st) (after_learning i slot e st) few h

  pub found_still : has st.failed r ≡ true → has (after_finding p i slot e st).failed r ≡ true
  found_still h =
      learnt_still (with_signs_still r (told_in i slot e st) (after_hearing i slot e st) few
      (ap (λ m. has m r) (life_keeps Nodes (λ s. s.failed) (record { shown = λ f s. refl; last = λ n s. refl }) i slot e st) ∙ h))

-- a member is not newly admitted
pub not_admitted : (v : Option Nodes) (old : Nodes) (r : ℕ) → has old r ≡ true → is_admitted v old r ≡ false
not_admitted None old r h = refl
not_admitted (Some v) old r h = false_from_ne_true (has (minus v old) r) (λ k.
    both_ways (has old r)
    (not-true (has old r) (and_parts (has v r) (not (has old r)) (has_where (λ x. has v x && not (has old x)) r k)).1) h)

pub failed_by_still : (v : Option Nodes) (old failed : Nodes) (r : ℕ) → r < most_nodes → is_admitted v old r ≡ false → has failed r ≡ true
    → has (failed_by v old failed) r ≡ true
failed_by_still None old failed r few none h = h
failed_by_still (Some v) old failed r few none h =
    placed_where (λ q. has failed q && not (has (minus v old) q)) r few
    ∙ and_from (has failed r) (not (has (minus v old) r)) h (not_from_false (has (minus v old) r) none)

module _ (scenario : ScenarioParts) (i r : ℕ) (e : NoticeKind) (past : List NoticeKind)
    (member : has (knowledge_of scenario i past).members r ≡ true) where
  pub failed_next : r < most_nodes → has (knowledge_of scenario i past).failed r ≡ true → has (knowledge_of scenario i (e ∷ past)).failed r ≡ true
  unfolding knowledge_of
  failed_next few h =
      let st : Knowledge = knowledge_of scenario i past in
      ap (λ m. has m r) (failed_after scenario.params i (length past) e st)
      ∙ failed_by_still (ended_at scenario i e past) st.members (after_finding scenario.params i (length past) e st).failed r few
      (not_admitted (ended_at scenario i e past) st.members r member) (found_still scenario.params i r (length past) e st few h)

  shown_kept : NothingOf r e → (knowledge_of scenario i (e ∷ past)).shown r ≡ (knowledge_of scenario i past).shown r
  unfolding knowledge_of
  shown_kept h =
      let st : Knowledge = knowledge_of scenario i past in
      shown_after scenario.params i (length past) e st r
      ∙ cond-false (is_admitted (ended_at scenario i e past) st.members r) (length past) ((after_hearing i (length past) e st).shown r)
      (not_admitted (ended_at scenario i e past) st.members r member)
      ∙ no_life i (length past) r e st (λ f is life. h f is (inl life))

-- ---- out of the view, failed, or silent since

-- r is outside the view, or has failed, or has shown no life since the slot
abbrev pub IsOutOrSilent : ScenarioParts → ℕ → ℕ → ℕ → List SlotNote → Type 0
IsOutOrSilent scenario r i slot o =
    (has (full scenario i o).members r ≡ false) ⊎ ((has (full scenario i o).failed r ≡ true) ⊎ ((full scenario i o).shown r ≤ slot))

-- it is so after slots in which r sends nothing, where it does not come into the view
pub stays_out_or_silent : (scenario : ScenarioParts) (r i slot : ℕ) → r < most_nodes → (base mid : List SlotNote) → AllByRecursion (NotFrom r) mid
    → IsOutOrSilent scenario r i slot base
    → ((newer : List SlotNote) (note : SlotNote) (older : List SlotNote) → mid ≡ newer ++ (note ∷ older)
    → has (full scenario i (older ++ base)).members r ≡ false → has (full scenario i (note ∷ (older ++ base))).members r ≡ false)
    → IsOutOrSilent scenario r i slot (mid ++ base)
stays_out_or_silent scenario r i slot few base [] silent first excluded = first
stays_out_or_silent scenario r i slot few base (note ∷ mid) silent first excluded =
    let before =
    stays_out_or_silent scenario r i slot few base mid silent.1 first (λ newer n older e out. excluded (note ∷ newer) n older (ap (λ t. note ∷ t) e) out) in
    let past : List NoticeKind = map (given i) (mid ++ base) in
    let nothing : NothingOf r (given i note) = not_heard r i note silent.0 in
    elim (cases_Bool (has (full scenario i (mid ++ base)).members r)) [
      | inr out ↦ inl (excluded [] note mid refl out)
      | inl there ↦ elim before [
        | inl out ↦ absurd (both_ways (has (full scenario i (mid ++ base)).members r) out there)
        | inr (inl failed) ↦ inr (inl (failed_next scenario i r (given i note) past there few failed))
        | inr (inr old) ↦ inr (inr (omega (arith, old, shown_kept scenario i r (given i note) past there nothing)))
      ]
    ]

-- ---- the signs that are known

abbrev IsBefore : Parameters → ℕ → FailureSign → Type 0
IsBefore p slot sign = sign.cycle * p.cycle ≤ slot

found_before : (p : Parameters) (i slot : ℕ) (st : Knowledge) → AllByRecursion (IsBefore p slot) (found p i slot st)
unfolding found
found_before p i slot st =
    Each-filter (IsBefore p slot) (λ sign. not (knows sign st)) (map (sign_in p slot) (filter (has_timed_out p i slot st) (range_with_len 0 p.nodes)))
    (Each-map (sign_in p slot) (IsBefore p slot) (filter (has_timed_out p i slot st) (range_with_len 0 p.nodes))
    (each (filter (has_timed_out p i slot st) (range_with_len 0 p.nodes))))
  where
    each : (rs : List ℕ) → AllByRecursion (λ r. IsBefore p slot (sign_in p slot r)) rs
    each [] = tt
    each (r ∷ rs) = (div-mul-le_self slot p.cycle, each rs)

told_before : (scenario : ScenarioParts) (slot : ℕ) (e : NoticeKind) (st : Knowledge) → IsReadable scenario slot e
    → AllByRecursion (IsBefore scenario.params slot) (told e st)
unfolding told
told_before scenario slot Idle st read = tt
told_before scenario slot Bad st read = tt
told_before scenario slot (Sent f) st read = tt
told_before scenario slot (Got f) st read =
    cond_both (same_class f.class class.Fda && not (knows (sign_of f) st)) (sign_of f ∷ []) [] (AllByRecursion (IsBefore scenario.params slot))
    (λ h.
    let fda = same_class-true f.class class.Fda (and_parts (same_class f.class class.Fda) (not (knows (sign_of f) st)) h).0 in
    let names = fda_names scenario slot f fda read in
    (omega (arith, mul-le-mul_right scenario.params.cycle names.number, div-mul-le_self slot scenario.params.cycle), tt))
    (λ _. tt)

tells_before : (p : Parameters) (slot : ℕ) (sign : FailureSign) (signs : List FailureSign) → AllByRecursion (IsBefore p slot) signs → tells sign signs ≡ true
    → IsBefore p slot sign
tells_before p slot sign [] all h = absurd (false≢true h)
tells_before p slot sign (s ∷ signs) all h = elim (or_cases (same_sign sign s) (tells sign signs) h) [
  | inl same ↦ subst (IsBefore p slot) (sym (same_sign-true sign s same)) all.0
  | inr later ↦ tells_before p slot sign signs all.1 later
]

none_known : (scenario : ScenarioParts) (i : ℕ) (sign : FailureSign) → knows sign (knowledge_of scenario i []) ≡ false
unfolding knowledge_of
none_known scenario i sign = refl

-- a sign that is known is of a cycle that had started by then
pub known_begun : (scenario : ScenarioParts) (i : ℕ) (sign : FailureSign) (past : List NoticeKind) → EachRead (IsReadable scenario) past
    → knows sign (knowledge_of scenario i past) ≡ true → sign.cycle * scenario.params.cycle < length past
known_begun scenario i sign [] read h = absurd (both_ways (knows sign (knowledge_of scenario i [])) (none_known scenario i sign) h)
known_begun scenario i sign (e ∷ past) read h =
    let st : Knowledge = knowledge_of scenario i past in
    let p : Parameters = scenario.params in
    let slot : ℕ = length past in
    elim (or_cases (tells sign (newly p i slot e st)) (knows sign st) (sym (known_after scenario i e past sign) ∙ h)) [
      | inr before ↦ let old = known_begun scenario i sign past read.1 before in omega (arith, old)
      | inl now ↦
          let all = Each-append (IsBefore p slot) (told_in i slot e st) (found_in p i slot e st)
          (told_before scenario slot e (after_hearing i slot e st) read.0) (found_before p i slot (after_learning i slot e st)) in
          let begun = tells_before p slot sign (newly p i slot e st) all now in
          omega (arith, begun)
    ]

-- ---- silence is found

pub among_filter : {X : Type 0} (P : X → Type 0) (test : X → Bool) → ((x : X) → P x → test x ≡ true) → (xs : List X) → Among P xs
    → Among P (filter test xs)
among_filter P test passes [] h = h
among_filter P test passes (x ∷ xs) (inl now) = rw (passes x now) (inl now)
among_filter P test passes (x ∷ xs) (inr later) =
    cond_both (test x) (x ∷ filter test xs) (filter test xs) (Among P) (λ _. inr (among_filter P test passes xs later))
    (λ _. among_filter P test passes xs later)

pub in_range : (n r : ℕ) → r < n → Among (λ q. q ≡ r) (range_with_len 0 n)
in_range n r below =
    let same : 0 + r ≡ r = omega arith in
    Among-get_or (λ q. q ≡ r) (range_with_len 0 n) r 0 (subst (λ m. r < m) (sym (length-range_with_len 0 n)) below)
    (get_or-range_with_len 0 n r 0 below ∙ same)

-- a silent member whose sign of this cycle is not known is found to have failed
pub silence_found : (p : Parameters) (i r slot : ℕ) (e : NoticeKind) (st : Knowledge) → r < most_nodes → r < p.nodes
    → has_timed_out p i slot (after_learning i slot e st) r ≡ true → knows (sign_in p slot r) (after_learning i slot e st) ≡ false
    → has (after_finding p i slot e st).failed r ≡ true
unfolding found
silence_found p i r slot e st few below silent unknown =
    let now : Knowledge = after_learning i slot e st in
    let quiet : List ℕ = filter (has_timed_out p i slot now) (range_with_len 0 p.nodes) in
    let this : FailureSign → Type 0 = λ sign. sign ≡ sign_in p slot r in
    let there : Among (λ q. q ≡ r) quiet =
    among_filter (λ q. q ≡ r) (has_timed_out p i slot now) (λ q e. ap (has_timed_out p i slot now) e ∙ silent) (range_with_len 0 p.nodes)
    (in_range p.nodes r below) in
    let named : Among this (map (sign_in p slot) quiet) =
    Among-map (sign_in p slot) this quiet (Among-weaker (λ q. q ≡ r) (λ q. this (sign_in p slot q)) (λ q e. ap (sign_in p slot) e) quiet there) in
    let left : Among this (found p i slot now) =
    among_filter this (λ sign. not (knows sign now)) (λ sign e. not_from_false (knows sign now) (ap (λ x. knows x now) e ∙ unknown))
    (map (sign_in p slot) quiet) named in
    with_signs_named r (found p i slot now) now few
    (Among-weaker this (λ sign. sign.node ≡ r) (λ sign e. ap (λ (s : FailureSign). s.node) e) (found p i slot now) left)

-- the sign of this cycle is not known when the cycle starts, where no notice tells of it
pub learnt_unknown : (p : Parameters) (i r slot : ℕ) (e : NoticeKind) (st : Knowledge) → r < most_nodes → has (after_learning i slot e st).failed r ≡ false
    → knows (sign_in p slot r) st ≡ false → knows (sign_in p slot r) (after_learning i slot e st) ≡ false
learnt_unknown p i r slot e st few standing unknown =
    let sign : FailureSign = sign_in p slot r in
    false_from_ne_true (knows sign (after_learning i slot e st)) (λ h.
    elim (or_cases (tells sign (told_in i slot e st)) (knows sign (after_hearing i slot e st))
    (sym (knows_with sign (told_in i slot e st) (after_hearing i slot e st)) ∙ h)) [
      | inr before ↦ both_ways (knows sign st) unknown (sym (knows_heard sign i slot e st) ∙ before)
      | inl now ↦ both_ways (has (after_learning i slot e st).failed r) standing
          (with_signs_named r (told_in i slot e st) (after_hearing i slot e st) few
          (Among-weaker (λ s. same_sign sign s ≡ true) (λ s. s.node ≡ r) (λ s same. ap (λ (x : FailureSign). x.node) (sym (same_sign-true sign s same)))
          (told_in i slot e st) (Among-from_any (same_sign sign) (told_in i slot e st) now)))
    ])

-- a member that was not heard since a slot, so long before this one, has failed
pub silent_found : (p : Parameters) (i r slot last : ℕ) (e : NoticeKind) (st : Knowledge) → r < most_nodes → r < p.nodes → (r ≡ i → ⊥)
    → knows (sign_in p slot r) st ≡ false → last + p.silence ≤ slot → has st.members r ≡ true → (after_learning i slot e st).shown r ≤ last
    → has (after_finding p i slot e st).failed r ≡ true
silent_found p i r slot last e st few below other unknown late there old = elim (cases_Bool (has (after_learning i slot e st).failed r)) [
  | inl failed ↦ learnt_still p i r slot e st few failed
  | inr standing ↦
      let now : Knowledge = after_learning i slot e st in
      let member : has now.members r ≡ true =
      ap (λ m. has m r) (learnt_keeps Nodes (λ s. s.members) (λ sign s. refl) i slot e st
      ∙ life_keeps Nodes (λ s. s.members) (record { shown = λ f s. refl; last = λ n s. refl }) i slot e st) ∙ there in
      let long : nat_le p.silence (slot - now.shown r) ≡ true =
      le-leb p.silence (slot - now.shown r) (omega (arith, old, late)) in
      let silent : has_timed_out p i slot now r ≡ true =
      and_from (has now.members r && not (r == i) && not (has now.failed r)) (nat_le p.silence (slot - now.shown r))
      (and_from (has now.members r && not (r == i)) (not (has now.failed r))
      (and_from (has now.members r) (not (r == i)) member (not_from_false (r == i) (ne_eqb r i other)))
      (not_from_false (has now.failed r) standing)) long in
      silence_found p i r slot e st few below silent (learnt_unknown p i r slot e st few standing unknown)
]

-- so a member has failed once it has been silent for too long
pub silent_fails : (p : Parameters) (i r slot last : ℕ) (e : NoticeKind) (st : Knowledge) → r < most_nodes → r < p.nodes → (r ≡ i → ⊥)
    → NothingOf r e → knows (sign_in p slot r) st ≡ false → last + p.silence ≤ slot
    → (has st.members r ≡ false) ⊎ ((has st.failed r ≡ true) ⊎ (st.shown r ≤ last))
    → (has st.members r ≡ false) ⊎ (has (after_finding p i slot e st).failed r ≡ true)
silent_fails p i r slot last e st few below other nothing unknown late (inl out) = inl out
silent_fails p i r slot last e st few below other nothing unknown late (inr (inl failed)) = inr (found_still p i r slot e st few failed)
silent_fails p i r slot last e st few below other nothing unknown late (inr (inr old)) = elim (cases_Bool (has st.members r)) [
  | inr out ↦ inl out
  | inl there ↦ inr (silent_found p i r slot last e st few below other unknown late there (omega (arith, learnt_no_life i slot r e st (λ f is life. nothing f is (inl life)), old)))
]
