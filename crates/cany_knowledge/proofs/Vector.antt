-- The vector of a node in a cycle, and the view that comes of it.
use Rattle.std.proofs.Common.{◌≡◌, ℕ, suc, ◌+◌, ◌-◌, ◌*◌, ◌<◌, ◌≤◌, ◌==◌, ◌&&◌, ◌||◌, ◌++◌, inl, inr, Bool, true, false, nat_le, nat_lt, if◌then◌else◌, List, [], ◌∷◌, length, Option, Some, None, unwrap_or, refl, ap, sym, ◌∙◌, subst, arith}
use Rattle.std.specs.List.{list_all}
use Rattle.std.proofs.lemmas.Bool.{and_from, and_left, and_right, cases_Bool, cases_eq, cases_lt, cond-false, cond-true, cond_both, eq-eqb, le-ltb, lt-leb, lt-ltb}
use Rattle.cany_base.specs.Limits.{most_nodes}
use Rattle.cany_base.specs.declared.notice.NoticeKind.{NoticeKind}
use Rattle.cany_base.specs.declared.notice.NoticeKind.TheVariants.{Idle, Got, Sent, Bad}
use Rattle.cany_base.specs.Cycles.{cycle_of, is_end, is_exchange, is_start}
use Rattle.cany_base.specs.Nodes.{Nodes, has, those_where, meet, minus, plus}
use Rattle.cany_base.specs.Params.{MeetsFormulas, Parameters}
use Rattle.cany_base.specs.Scenario.{ScenarioParts}
use Rattle.cany_base.proofs.NodesFacts.{has-those_where, same_as_those_where}
use Rattle.cany_model.specs.Rules.Knowledge.{Knowledge}
use Rattle.cany_model.specs.Rules.KnowledgeOf.{after_installing, after_notice, after_starting, ended_in, knowledge_of, met_in, start_in}
use Rattle.cany_model.specs.Rules.Vectors.{after_exchange, brought, everybody, met, met_with}
use Rattle.cany_model.specs.Rules.Views.{start_of}
use Rattle.cany_model.proofs.Rules.Site.CycleFacts.{in_start}
use Rattle.cany_model.proofs.Rules.Site.KnowledgeSteps.{members_after, members_by, vector_after}
use Rattle.cany_model.proofs.Timed.Views.SameView.{end_place}
use Rattle.cany_model.proofs.Timed.Views.VectorLastEffect.{IsAt, IsCycle, at_end, at_exchange, at_place, at_start, brings, brought_in, brought_out, exchange_in, no_end, no_start}
use Rattle.cany_model.proofs.Timed.Views.VectorSlots.{cycle_of_formulas}
use Rattle.cany_knowledge.specs.ClosedForms.{installed_in, listed, members_of, met_with_all, met_with_some, up_to, vector_got, vector_of_cycle, vectors_got}
use Rattle.cany_knowledge.proofs.Slots.{up_to_newest, up_to_older}

-- ---- sets

same_where : (a b : ℕ → Bool) → ((r : ℕ) → (nat_lt r most_nodes && a r) ≡ (nat_lt r most_nodes && b r)) → those_where a ≡ those_where b
same_where a b same = same_as_those_where (those_where a) b (λ r. has-those_where a r ∙ same r)

swapped : (a b rest : Bool) → ((a && rest) && b) ≡ (a && (b && rest))
swapped true true true = refl
swapped true true false = refl
swapped true false true = refl
swapped true false false = refl
swapped false b rest = refl

-- one vector more is met
met_one : (set w : Nodes) (vectors : List Nodes) → meet (met_with_all set vectors) w ≡ met_with_all set (w ∷ vectors)
met_one set w vectors =
    same_where (λ r. has (met_with_all set vectors) r && has w r) (λ r. has set r && list_all (λ v. has v r) (w ∷ vectors))
    (λ r. ap (λ b. nat_lt r most_nodes && (b && has w r)) (has-those_where (λ x. has set x && list_all (λ v. has v x) vectors) r)
    ∙ placed (nat_lt r most_nodes) (has set r) (has w r) (list_all (λ v. has v r) vectors))
  where
    placed : (here a b rest : Bool) → (here && ((here && (a && rest)) && b)) ≡ (here && (a && (b && rest)))
    placed true a b rest = swapped a b rest
    placed false a b rest = refl

met_first : (set w : Nodes) → meet set w ≡ met_with_all set (w ∷ [])
met_first set w = same_where (λ r. has set r && has w r) (λ r. has set r && list_all (λ v. has v r) (w ∷ [])) (λ r. plain (nat_lt r most_nodes) (has set r) (has w r))
  where
    plain : (here a b : Bool) → (here && (a && b)) ≡ (here && (a && (b && true)))
    plain here a true = refl
    plain here a false = refl

-- none is met
met_none : (test : ℕ → Bool) → met_with_all (those_where test) [] ≡ those_where test
met_none test =
    same_where (λ r. has (those_where test) r && true) test
    (λ r. ap (λ b. nat_lt r most_nodes && (b && true)) (has-those_where test r) ∙ plain (nat_lt r most_nodes) (test r))
  where
    plain : (here a : Bool) → (here && ((here && a) && true)) ≡ (here && a)
    plain true true = refl
    plain true false = refl
    plain false a = refl

-- ---- a vector that is got

abbrev by_start : Bool → Nodes → Nodes → List Nodes → Option Nodes
by_start member set all vectors = if member then Some (met_with_all set vectors) else met_with_some all vectors

got_more : (p : Parameters) (member : Bool) (set : Nodes) (vectors : List Nodes) (o : Option Nodes)
    → met p (by_start member set (everybody p) vectors) o ≡ by_start member set (everybody p) (listed o ++ vectors)
unfolding met
got_more p member set vectors None = refl
got_more p true set vectors (Some w) = ap (λ v. Some v) (met_one set w vectors)
got_more p false set [] (Some w) = ap (λ v. Some v) (met_first (everybody p) w)
got_more p false set (v ∷ vectors) (Some w) = ap (λ v. Some v) (met_one (everybody p) w (v ∷ vectors))

got_is : (p : Parameters) (k : ℕ) (e : NoticeKind) → brings p.format k e ≡ vector_got p k e
got_is p k Idle = refl
got_is p k (Got f) = refl
got_is p k (Sent f) = refl
got_is p k Bad = refl

module _ (scenario : ScenarioParts) (i k : ℕ) (formulas : MeetsFormulas scenario.params) (some : 0 < k) where
  abbrev p : Parameters
  p = scenario.params

  c : IsCycle p k
  c = cycle_of_formulas p formulas k some

  -- after the start one turn meets what its notice brings
  got_next : (e : NoticeKind) (past : List NoticeKind) → k * p.cycle < length past → length past ≤ k * p.cycle + p.bound
      → met p (vector_of_cycle scenario i k past) (brought p (length past) e) ≡ vector_of_cycle scenario i k (e ∷ past)
  unfolding vector_of_cycle vectors_got
  got_next e past from to =
      let slot : ℕ = length past in
      let q : ℕ = slot - k * p.cycle in
      let a : IsAt p k slot q = at_place p k slot q (omega (arith, from)) (omega (arith, from, to, c.long)) in
      let start : Knowledge = knowledge_of scenario i (up_to (k * p.cycle) past) in
      let set : Nodes = plus (minus (minus start.members start.failed) start.leavers) start.joiners in
      let got : List Nodes = vectors_got p k past in
      ap (met p (by_start (has start.members i) set (everybody p) got))
      (brought_in p k slot e a.cycle (exchange_in p k slot q c a (omega (arith, from)) (omega (arith, from, to))) ∙ got_is p k e)
      ∙ got_more p (has start.members i) set got (vector_got p k e)
      ∙ ap (by_start (has start.members i) set (everybody p))
      (sym (cond-true (nat_lt (k * p.cycle) slot) (listed (vector_got p k e) ++ got) [] (lt-ltb (k * p.cycle) slot from)))
      ∙ ap (λ read. let now = knowledge_of scenario i read in
      by_start (has now.members i) (plus (minus (minus now.members now.failed) now.leavers) now.joiners) (everybody p) (vectors_got p k (e ∷ past)))
      (sym (up_to_older e past (k * p.cycle) from))

  -- at the start it is what the node starts with
  got_first : (e : NoticeKind) (past : List NoticeKind) → length past ≡ k * p.cycle
      → (knowledge_of scenario i (e ∷ past)).vector ≡ vector_of_cycle scenario i k (e ∷ past)
  unfolding vector_of_cycle vectors_got knowledge_of after_notice
  got_first e past at =
      let slot : ℕ = length past in
      let st : Knowledge = knowledge_of scenario i past in
      let start : is_start p slot ≡ true = in_start p k slot some (omega (arith, c.long)) at in
      let now : Knowledge = after_installing p i slot e st in
      let after : Knowledge = after_starting p i slot e st in
      let same : start_of i now ≡ start_of i after =
      cond_both (is_start p slot) (record now { vector = start_of i now }) now (λ (s : Knowledge). start_of i now ≡ start_of i s) (λ _. refl) (λ _. refl) in
      let none : vectors_got p k (e ∷ past) ≡ [] =
      cond-false (nat_lt (k * p.cycle) slot) (listed (vector_got p k e) ++ vectors_got p k past) [] (le-ltb (k * p.cycle) slot (omega (arith, at))) in
      let here : up_to (k * p.cycle) (e ∷ past) ≡ e ∷ past = ap (λ n. up_to n (e ∷ past)) (sym at) ∙ up_to_newest e past in
      vector_after p i slot e st
      ∙ cond-true (is_start p slot) (start_in p i slot e st) (if is_end p slot then None else met p st.vector (brought p slot e)) start
      ∙ cond-true (is_start p slot) (start_of i now) None start
      ∙ same
      ∙ unmet after
      ∙ ap (λ got. by_start (has after.members i) (plus (minus (minus after.members after.failed) after.leavers) after.joiners) (everybody p) got) (sym none)
      ∙ ap (λ read. let s = knowledge_of scenario i read in
      by_start (has s.members i) (plus (minus (minus s.members s.failed) s.leavers) s.joiners) (everybody p) (vectors_got p k (e ∷ past))) (sym here)
    where
      unmet : (s : Knowledge)
          → start_of i s ≡ by_start (has s.members i) (plus (minus (minus s.members s.failed) s.leavers) s.joiners) (everybody scenario.params) []
      unmet s = by_member (has s.members i)
        where
          set : Nodes
          set = plus (minus (minus s.members s.failed) s.leavers) s.joiners

          by_member : (b : Bool) → (if b then Some set else None) ≡ by_start b set (everybody scenario.params) []
          by_member true = ap (λ v. Some v) (sym (met_none (λ r. has (minus (minus s.members s.failed) s.leavers) r || has s.joiners r)))
          by_member false = refl

  got_later : (e : NoticeKind) (past : List NoticeKind) → k * p.cycle < length past → length past < k * p.cycle + p.bound
      → (knowledge_of scenario i past).vector ≡ vector_of_cycle scenario i k past
      → (knowledge_of scenario i (e ∷ past)).vector ≡ vector_of_cycle scenario i k (e ∷ past)
  unfolding knowledge_of
  got_later e past from to before =
      let slot : ℕ = length past in
      let st : Knowledge = knowledge_of scenario i past in
      let q : ℕ = slot - k * p.cycle in
      let a : IsAt p k slot q = at_place p k slot q (omega (arith, from)) (omega (arith, from, to, c.long)) in
      vector_after p i slot e st
      ∙ cond-false (is_start p slot) (start_in p i slot e st) (if is_end p slot then None else met p st.vector (brought p slot e))
      (no_start p k slot q a (omega (arith, from)))
      ∙ cond-false (is_end p slot) None (met p st.vector (brought p slot e)) (no_end p k slot q a (λ same. omega (arith, same, from, to)))
      ∙ ap (λ o. met p o (brought p slot e)) before
      ∙ got_next e past from (omega (arith, to))

  pub vector_is : (past : List NoticeKind) → k * p.cycle < length past → length past ≤ k * p.cycle + p.bound
      → (knowledge_of scenario i past).vector ≡ vector_of_cycle scenario i k past
  vector_is [] from to = absurd (omega (arith, from))
  vector_is (e ∷ past) from to = elim (cases_lt (k * p.cycle) (length past)) [
    | inl after ↦ got_later e past after (omega (arith, to)) (vector_is past after (omega (arith, to)))
    | inr now ↦ got_first e past (omega (arith, now, from))
  ]

-- ---- no vector

-- a turn in which no cycle starts, and no vector is exchanged or one ends, leaves a node without
-- one
module _ (scenario : ScenarioParts) (i : ℕ) (e : NoticeKind) (past : List NoticeKind) (start : is_start scenario.params (length past) ≡ false) where
  vector_there : (knowledge_of scenario i (e ∷ past)).vector
      ≡ (if is_end scenario.params (length past) then None
      else met scenario.params (knowledge_of scenario i past).vector (brought scenario.params (length past) e))
  unfolding knowledge_of
  vector_there =
      let p : Parameters = scenario.params in
      let slot : ℕ = length past in
      let st : Knowledge = knowledge_of scenario i past in
      vector_after p i slot e st
      ∙ cond-false (is_start p slot) (start_in p i slot e st) (if is_end p slot then None else met p st.vector (brought p slot e)) start

  vector_ended : is_end scenario.params (length past) ≡ true → (knowledge_of scenario i (e ∷ past)).vector ≡ None
  vector_ended last =
      vector_there
      ∙ cond-true (is_end scenario.params (length past)) None
      (met scenario.params (knowledge_of scenario i past).vector (brought scenario.params (length past) e)) last

  vector_kept : is_end scenario.params (length past) ≡ false → is_exchange scenario.params (length past) ≡ false
      → (knowledge_of scenario i (e ∷ past)).vector ≡ (knowledge_of scenario i past).vector
  unfolding met
  vector_kept last out =
      let p : Parameters = scenario.params in
      let old : Option Nodes = (knowledge_of scenario i past).vector in
      vector_there
      ∙ cond-false (is_end p (length past)) None (met p old (brought p (length past) e)) last
      ∙ ap (met p old) (brought_out p (length past) e out)

no_vector_first : (scenario : ScenarioParts) (i : ℕ) → (knowledge_of scenario i []).vector ≡ None
unfolding knowledge_of
no_vector_first scenario i = refl

-- in the first cycle, which has no start
pub no_vector_before : (scenario : ScenarioParts) (i : ℕ) (past : List NoticeKind) → MeetsFormulas scenario.params
    → length past ≤ scenario.params.cycle → (knowledge_of scenario i past).vector ≡ None
no_vector_before scenario i [] formulas short = no_vector_first scenario i
no_vector_before scenario i (e ∷ past) formulas short =
    let p : Parameters = scenario.params in
    let slot : ℕ = length past in
    let a : IsAt p 0 slot slot = at_place p 0 slot slot (omega arith) (omega (arith, short)) in
    vector_kept scenario i e past (at_start p 0 slot slot a ∙ and_right (slot == 0) (nat_lt 0 0) refl)
    (at_end p 0 slot slot a ∙ and_right (slot == p.bound) (nat_lt 0 0) refl)
    (at_exchange p 0 slot slot a ∙ and_right (nat_lt 0 slot && nat_le slot p.bound) (nat_lt 0 0) refl)
    ∙ no_vector_before scenario i past formulas (omega (arith, short))

-- and from the end of a cycle to the start of the next
pub no_vector_after : (scenario : ScenarioParts) (i k : ℕ) (past : List NoticeKind) → MeetsFormulas scenario.params → 0 < k
    → k * scenario.params.cycle + scenario.params.bound < length past → length past ≤ k * scenario.params.cycle + scenario.params.cycle
    → (knowledge_of scenario i past).vector ≡ None
no_vector_after scenario i k [] formulas some from to = absurd (omega (arith, from))
no_vector_after scenario i k (e ∷ past) formulas some from to =
    let p : Parameters = scenario.params in
    let slot : ℕ = length past in
    let q : ℕ = slot - k * p.cycle in
    let c : IsCycle p k = cycle_of_formulas p formulas k some in
    let a : IsAt p k slot q = at_place p k slot q (omega (arith, from)) (omega (arith, from, to)) in
    let start : is_start p slot ≡ false = no_start p k slot q a (omega (arith, from, c.exchanged)) in
    elim (cases_lt p.bound q) [
      | inr last ↦
          vector_ended scenario i e past start
          (at_end p k slot q a ∙ and_from (q == p.bound) (nat_lt 0 k) (eq-eqb q p.bound (omega (arith, from, last))) (lt-ltb 0 k some))
      | inl later ↦
          vector_kept scenario i e past start (no_end p k slot q a (λ same. omega (arith, same, later)))
          (at_exchange p k slot q a
          ∙ and_left (nat_lt 0 q && nat_le q p.bound) (nat_lt 0 k) (and_right (nat_lt 0 q) (nat_le q p.bound) (lt-leb q p.bound later)))
          ∙ no_vector_after scenario i k past formulas some (omega (arith, from, later)) (omega (arith, to))
    ]

-- ---- the view

pub ended_is : (scenario : ScenarioParts) (i : ℕ) (e : NoticeKind) (past : List NoticeKind) → MeetsFormulas scenario.params
    → ended_in scenario.params (length past) e (knowledge_of scenario i past) ≡ installed_in scenario i (e ∷ past)
unfolding installed_in
ended_is scenario i e past formulas =
    let p : Parameters = scenario.params in
    let slot : ℕ = length past in
    let k : ℕ = cycle_of p slot in
    let st : Knowledge = knowledge_of scenario i past in
    let word : Option Nodes = vector_of_cycle scenario i k (e ∷ past) in
    elim (cases_Bool (is_end p slot)) [
      | inr other ↦ cond-false (is_end p slot) (met_in p slot e st) None other ∙ sym (cond-false (is_end p slot) word None other)
      | inl last ↦
          let at = end_place p slot last in
          let c = cycle_of_formulas p formulas k at.0 in
          let from : k * p.cycle < slot = omega (arith, at.1, c.exchanged) in
          cond-true (is_end p slot) (met_in p slot e st) None last
          ∙ ap (λ o. met p o (brought p slot e)) (vector_is scenario i k formulas at.0 past from (omega (arith, at.1)))
          ∙ got_next scenario i k formulas at.0 e past from (omega (arith, at.1))
          ∙ sym (cond-true (is_end p slot) word None last)
    ]

pub view_is : (scenario : ScenarioParts) (i : ℕ) (e : NoticeKind) (past : List NoticeKind) → MeetsFormulas scenario.params
    → members_of scenario i (e ∷ past) ≡ unwrap_or (installed_in scenario i (e ∷ past)) (members_of scenario i past)
unfolding knowledge_of
view_is scenario i e past formulas =
    let st : Knowledge = knowledge_of scenario i past in
    members_after scenario.params i (length past) e st
    ∙ ap (λ o. members_by o st.members) (ended_is scenario i e past formulas)
    ∙ by_vector (installed_in scenario i (e ∷ past)) st.members
  where
    by_vector : (o : Option Nodes) (old : Nodes) → members_by o old ≡ unwrap_or o old
    by_vector None old = refl
    by_vector (Some v) old = refl
