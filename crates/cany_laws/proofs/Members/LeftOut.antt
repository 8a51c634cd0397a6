-- A node that has failed at a member when a cycle starts is in no vector that is installed in it.
use Rattle.std.proofs.Common.{◌≡◌, ℕ, zero, suc, ◌+◌, ◌-◌, ◌*◌, ◌<◌, ◌≤◌, ◌==◌, nat_lt, inl, inr, true, false, List, ◌∷◌, length, Option, Some, None, refl, ap, sym, ◌∙◌, subst, arith}
use Rattle.std.proofs.lemmas.Bool.{and_from, both_ways, cond-false, cond-true, eq-eqb, lt-ltb, false_from_ne_true}
use Rattle.cany_base.proofs.ParamsFacts.{few_nodes}
use Rattle.cany_base.specs.Cycles.{cycle_of, is_end, is_start}
use Rattle.cany_base.specs.declared.notice.NoticeKind.{NoticeKind}
use Rattle.cany_base.specs.declared.step.Step.{Step}
use Rattle.cany_base.specs.Nodes.{Nodes, has, meet}
use Rattle.cany_base.specs.Params.{Parameters}
use Rattle.cany_base.specs.Scenario.{IsLegalScenario, ScenarioParts}
use Rattle.cany_model.specs.Bus.State.{EndedIncarnation, RunState}
use Rattle.cany_model.specs.Promises.Hypothesis.{IsWithin}
use Rattle.cany_model.specs.Rules.Knowledge.{Knowledge, after_finding}
use Rattle.cany_model.specs.Rules.KnowledgeOf.{after_installing, knowledge_of, met_in, start_in}
use Rattle.cany_model.specs.Rules.Vectors.{after_exchange, brought, met, met_with}
use Rattle.cany_model.specs.Rules.Views.{start_of, start_vector}
use Rattle.cany_model.specs.Runs.Run.{run}
use Rattle.cany_model.proofs.Rules.Site.CycleFacts.{in_exchange, in_start}
use Rattle.cany_model.proofs.Rules.Site.KnowledgeSteps.{failed_after, failed_by, members_by, vector_after}
use Rattle.cany_model.proofs.Timed.Common.KnowledgeAges.{ended_at, members_next}
use Rattle.cany_model.proofs.Timed.Detector.Removal.{asked_none, member_no_joiner}
use Rattle.cany_model.proofs.Timed.Detector.SilentNode.{asked_members, lacks_says, no_installed}
use Rattle.cany_model.proofs.Timed.Detector.VectorsAgreeOn.{Says}
use Rattle.cany_model.proofs.Timed.Views.StartViews.{start_no_end}
use Rattle.cany_model.proofs.Timed.Views.VectorLastEffect.{IsCycle, at_end, at_place}
use Rattle.cany_model.proofs.Timed.Views.VectorSets.{meet_left}
use Rattle.cany_model.proofs.Timed.Views.VectorSlots.{cycle_of_formulas}
use Rattle.cany_laws.specs.Detection.{FailedAtStart, IsLeftOut, WasSilentAtStart}
use Rattle.cany_laws.specs.Logs.{followed_by}
use Rattle.cany_laws.specs.Membership.{knowledge_as, members_as}
use Rattle.cany_laws.specs.Views.{installed_as}
use Rattle.cany_laws.proofs.Silences.Detected.{detected}
use Rattle.cany_laws.proofs.Members.EachView.{each_installs_one, view_read}
use Rattle.cany_laws.proofs.Members.EqualMembers.{ended_as, ended_installs, ended_none, first_read, first_read-length, first_read-more, members_more, next_read}
use Rattle.cany_laws.proofs.Silences.Lives.{Lived, lived}

-- ---- the vector of a member

-- it has one, and node r is not in it
pub record Lacks (r : ℕ) (vector : Option Nodes) : Type 0 where
  pub set : Nodes
  pub is : vector ≡ Some set
  pub out : has set r ≡ false

met_lacks : (p : Parameters) (r : ℕ) (old got : Option Nodes) → Lacks r old → Lacks r (met p old got)
unfolding met
met_lacks p r old None h = h
met_lacks p r old (Some w) h = record {
  set = meet h.set w;
  is = ap (λ o. Some (met_with p o w)) h.is;
  out = false_from_ne_true (has (meet h.set w) r) (λ k. both_ways (has h.set r) h.out (meet_left h.set w r k));
}

module _ (scenario : ScenarioParts) (i : ℕ) (e : NoticeKind) (past : List NoticeKind) where
  abbrev p : Parameters
  p = scenario.params

  abbrev st : Knowledge
  st = knowledge_of scenario i past

  failed_is : ended_at scenario i e past ≡ None → (knowledge_of scenario i (e ∷ past)).failed ≡ (after_finding p i (length past) e st).failed
  unfolding knowledge_of
  failed_is none =
      failed_after p i (length past) e st ∙ ap (λ o. failed_by o st.members (after_finding p i (length past) e st).failed) none

  vector_next : (knowledge_of scenario i (e ∷ past)).vector ≡ after_exchange p (length past) e (start_in p i (length past) e st) st.vector
  unfolding knowledge_of
  vector_next = vector_after p i (length past) e st

  -- between the start of the cycle and its end
  lacks_on : (r k : ℕ) → p.bound ≤ p.cycle → k * p.cycle < length past → length past < k * p.cycle + p.bound → Lacks r st.vector
      → Lacks r (knowledge_of scenario i (e ∷ past)).vector
  lacks_on r k short after before h =
      let inside = in_exchange p k (length past) short after before in
      let same : (knowledge_of scenario i (e ∷ past)).vector ≡ met p st.vector (brought p (length past) e) =
      vector_next
      ∙ cond-false (is_start p (length past)) (start_in p i (length past) e st) _ inside.start
      ∙ cond-false (is_end p (length past)) None (met p st.vector (brought p (length past) e)) inside.last in
      subst (Lacks r) (sym same) (met_lacks p r st.vector (brought p (length past) e) h)

  -- what becomes the view at its end
  lacks_ended : (r : ℕ) → is_end p (length past) ≡ true → Lacks r st.vector → Lacks r (ended_at scenario i e past)
  lacks_ended r end h =
      subst (Lacks r) (sym (cond-true (is_end p (length past)) (met_in p (length past) e st) None end)) (met_lacks p r st.vector (brought p (length past) e) h)

  -- at its start, where the node is a member, and r one that has failed
  lacks_first : (r : ℕ) → is_start p (length past) ≡ true → is_end p (length past) ≡ false → has (knowledge_of scenario i (e ∷ past)).members i ≡ true
      → has (knowledge_of scenario i (e ∷ past)).members r ≡ true → has (knowledge_of scenario i (e ∷ past)).failed r ≡ true
      → Lacks r (knowledge_of scenario i (e ∷ past)).vector
  lacks_first r start no_end own member failed =
      let slot : ℕ = length past in
      let none : ended_at scenario i e past ≡ None = cond-false (is_end p slot) (met_in p slot e st) None no_end in
      let same_members : (knowledge_of scenario i (e ∷ past)).members ≡ st.members = members_next scenario i e past ∙ ap (λ v. members_by v st.members) none in
      let old : has st.members r ≡ true = ap (λ m. has m r) (sym same_members) ∙ member in
      let fails : has (after_finding p i slot e st).failed r ≡ true = ap (λ m. has m r) (sym (failed_next none)) ∙ failed in
      let says : Says r false (start_in p i slot e st) =
      lacks_says p i r slot e st no_end (inr fails) (asked_none p i r slot e st (inl old) (member_no_joiner scenario i r past old)) in
      let now : (knowledge_of scenario i (e ∷ past)).vector ≡ start_in p i slot e st =
      vector_next ∙ cond-true (is_start p slot) (start_in p i slot e st) _ start in
      let some = starts (ap (λ m. has m i) (sym same_members) ∙ own) start no_end in
      record { set = some.0; is = now ∙ some.1; out = says some.0 some.1 }
    where
      failed_next : ended_at scenario i e past ≡ None → (knowledge_of scenario i (e ∷ past)).failed ≡ (after_finding scenario.params i (length past) e (knowledge_of scenario i past)).failed
      failed_next none = failed_is none

      starts : has (knowledge_of scenario i past).members i ≡ true → is_start scenario.params (length past) ≡ true → is_end scenario.params (length past) ≡ false
          → (v : Nodes) × (start_in scenario.params i (length past) e (knowledge_of scenario i past) ≡ Some v)
      starts own start no_end =
          let now : Knowledge = after_installing scenario.params i (length past) e (knowledge_of scenario i past) in
          let there : has now.members i ≡ true =
          ap (λ m. has m i) (ap (λ (k : Knowledge). k.members) (no_installed scenario.params i (length past) e (knowledge_of scenario i past) no_end)
          ∙ asked_members scenario.params i (length past) e (knowledge_of scenario i past)) ∙ own in (
            start_vector now,
            cond-true (is_start scenario.params (length past)) (start_of i now) None start ∙ cond-true (has now.members i) (Some (start_vector now)) None there,
          )

-- ---- of each incarnation

module _ (scenario : ScenarioParts) (legal : IsLegalScenario scenario) (journal : List Step) (i r k : ℕ) (e : EndedIncarnation) (some : 0 < k)
    (l : Lived scenario journal i e) (read : k * scenario.params.cycle + scenario.params.bound < e.next) where
  abbrev sc : ScenarioParts
  sc = followed_by scenario e

  abbrev q : Parameters
  q = scenario.params

  c : IsCycle q k
  c = cycle_of_formulas q legal.formulas k some

  abbrev K : ℕ → Knowledge
  K n = knowledge_of sc i (first_read n (run scenario journal) i e)

  more : (n : ℕ) → n < e.next → K (n + 1) ≡ knowledge_of sc i (next_read n (run scenario journal) i e ∷ first_read n (run scenario journal) i e)
  more n short = ap (knowledge_of sc i) (first_read-more scenario journal i n e l short)

  size : (n : ℕ) → n ≤ e.next → length (first_read n (run scenario journal) i e) ≡ n
  size n short = first_read-length scenario journal i n e l short

  lacks_from : (d : ℕ) → d < q.bound → Lacks r (K (k * q.cycle + 1)).vector → Lacks r (K (k * q.cycle + 1 + d)).vector
  lacks_from zero below h = subst (λ n. Lacks r (K n).vector) (omega arith) h
  lacks_from (suc d) below h =
      let n : ℕ = k * q.cycle + 1 + d in
      let at : length (first_read n (run scenario journal) i e) ≡ n = size n (omega (arith, read, below)) in
      let next : n + 1 ≡ k * q.cycle + 1 + suc d = omega arith in
      let long = c.long in
      subst (λ m. Lacks r (K m).vector) next
      (subst (λ (st : Knowledge). Lacks r st.vector) (sym (more n (omega (arith, read, below))))
      (lacks_on sc i (next_read n (run scenario journal) i e) (first_read n (run scenario journal) i e) r k (omega (arith, long)) (omega (arith, at)) (omega (arith, at, below))
      (lacks_from d (omega (arith, below)) h)))

  pub installs_lacking : has (members_as scenario (run scenario journal) (k * q.cycle) i e) i ≡ true
      → has (members_as scenario (run scenario journal) (k * q.cycle) i e) r ≡ true
      → has (knowledge_as scenario (run scenario journal) (k * q.cycle) i e).failed r ≡ true
      → Lacks r (installed_as scenario (run scenario journal) i e k)
  unfolding ended_as
  installs_lacking own member failed =
      let s : RunState = run scenario journal in
      let n : ℕ = k * q.cycle in
      let long = c.long in
      let exchanged = c.exchanged in
      let short : n < e.next = omega (arith, read) in
      let at : length (first_read n s i e) ≡ n = size n (omega (arith, read)) in
      let start : is_start q (length (first_read n s i e)) ≡ true = in_start q k (length (first_read n s i e)) some (omega (arith, long)) at in
      let no_end' : is_end q (length (first_read n s i e)) ≡ false = start_no_end q k (length (first_read n s i e)) c at in
      let same = more n short in
      let first : Lacks r (K (n + 1)).vector =
      subst (λ (st : Knowledge). Lacks r st.vector) (sym same)
      (lacks_first sc i (next_read n s i e) (first_read n s i e) r start no_end'
      (ap (λ (st : Knowledge). has st.members i) (sym same) ∙ own) (ap (λ (st : Knowledge). has st.members r) (sym same) ∙ member)
      (ap (λ (st : Knowledge). has st.failed r) (sym same) ∙ failed)) in
      let last : ℕ = n + q.bound in
      let up : n + 1 + (q.bound - 1) ≡ last = omega (arith, exchanged) in
      let before : Lacks r (K last).vector = subst (λ m. Lacks r (K m).vector) up (lacks_from (q.bound - 1) (omega (arith, exchanged)) first) in
      let at_last : length (first_read last s i e) ≡ last = size last (omega (arith, read)) in
      let end : is_end q (length (first_read last s i e)) ≡ true = ends_there (length (first_read last s i e)) at_last in
      subst (Lacks r) (ended_installs scenario journal i k last e l read refl)
      (lacks_ended sc i (next_read last s i e) (first_read last s i e) r end before)
    where
      ends_there : (slot : ℕ) → slot ≡ k * scenario.params.cycle + scenario.params.bound → is_end scenario.params slot ≡ true
      ends_there slot at =
          let c' = cycle_of_formulas scenario.params legal.formulas k some in
          let long = c'.long in
          at_end scenario.params k slot scenario.params.bound (at_place scenario.params k slot scenario.params.bound at (omega (arith, long)))
          ∙ and_from (scenario.params.bound == scenario.params.bound) (nat_lt 0 k) (eq-eqb scenario.params.bound scenario.params.bound refl) (lt-ltb 0 k some)

-- so nobody has it in the cycle
pub left_out : (scenario : ScenarioParts) → IsLegalScenario scenario → (journal : List Step) → IsWithin scenario.params (run scenario journal).trace
    → (i r k : ℕ) (e : EndedIncarnation) → FailedAtStart scenario (run scenario journal) r k i e → IsLeftOut scenario (run scenario journal) r k
left_out scenario legal journal within i r k e h j f jf v is =
    let s : RunState = run scenario journal in
    let lacks = installs_lacking scenario legal journal i r k e h.some (lived scenario journal i e h.is) h.read h.own h.member h.failed in
    let mine = view_read scenario legal journal within i e h.is k lacks.set lacks.is in
    let theirs = view_read scenario legal journal within j f jf k v is in
    let same : Some lacks.set ≡ Some v = sym lacks.is ∙ (each_installs_one scenario legal journal within k).alike i j e f mine theirs ∙ is in
    let one : lacks.set ≡ v = cc in
    ap (λ x. has x r) (sym one) ∙ lacks.out

-- ---- silence until the start

pub silent_is_left_out : (scenario : ScenarioParts) → IsLegalScenario scenario → (journal : List Step) → IsWithin scenario.params (run scenario journal).trace
    → (i r k : ℕ) (e : EndedIncarnation) → WasSilentAtStart scenario (run scenario journal) r k i e → IsLeftOut scenario (run scenario journal) r k
silent_is_left_out scenario legal journal within i r k e h =
    let q : Parameters = scenario.params in
    let s : RunState = run scenario journal in
    let l = lived scenario journal i e h.heard.is in
    let n : ℕ = k * q.cycle in
    let c : IsCycle q k = cycle_of_formulas q legal.formulas k h.some in
    let long = c.long in
    let enough = h.enough in
    let read = h.read_end in
    let silence : 0 < q.silence = omega (arith, legal.in_range.silence.0) in
    let one : n - 1 + 1 ≡ n = omega (arith, enough, silence) in
    let no_end : is_end q n ≡ false = start_no_end q k n c refl in
    let still : members_as scenario s n i e ≡ members_as scenario s (n - 1) i e =
    members_more scenario journal i n e l (omega (arith, read))
    ∙ ap (λ v. members_by v (knowledge_of (followed_by scenario e) i (first_read n s i e)).members)
    (ended_none scenario journal i n e l (omega (arith, read)) no_end)
    ∙ ap (λ m. (knowledge_of (followed_by scenario e) i (first_read m s i e)).members) (sym one) in
    let found = detected scenario journal (few_nodes q legal.in_range) i r (n - q.silence) n e h.heard (omega (arith, enough)) in
    let cycle : cycle_of q n ≡ k = (at_place q k n 0 (omega arith) (omega (arith, long))).cycle in
    left_out scenario legal journal within i r k e (record {
      is = h.heard.is;
      some = h.some;
      read = h.read_end;
      own = ap (λ m. has m i) still ∙ h.own;
      member = ap (λ m. has m r) still ∙ h.heard.member (n - 1) (omega (arith, enough, silence)) (omega (arith, enough, silence));
      failed = found.after_start (omega (arith, ap (λ d. d * q.cycle) cycle, enough, silence));
    })
