-- Until which slot silence finds nobody.
use Rattle.std.specs.Prelude.{nat_le}
use Rattle.std.proofs.Common.{◌≡◌, ℕ, zero, suc, ◌+◌, ◌-◌, ◌<◌, ◌≤◌, ◌==◌, ◌&&◌, inl, inr, Bool, true, false, not, List, [], ◌++◌, length, set, get_or, refl, ap, sym, ◌∙◌, arith}
use Rattle.std.proofs.lemmas.Bool.{cases_Bool, cases_eq, leb-true}
use Rattle.std.proofs.lemmas.List.{append-nil, get_or-set_other, get_or-set_same}
use Rattle.cany_base.specs.declared.actions.Action.{Action}
use Rattle.cany_base.specs.Limits.{most_nodes}
use Rattle.cany_base.specs.Nodes.{Nodes, has, with_node}
use Rattle.cany_base.proofs.SetFacts.{has-with_node}
use Rattle.cany_life.specs.Life.{LifeParts}
use Rattle.cany_life.specs.LifeSteps.{IsIdleUntil, all_marked, found_actions, found_below, has_timed_out_at, is_watched}

-- where more nodes have failed, no more are watched
fewer_watched : (other failed more : Bool) → (failed ≡ true → more ≡ true) → (other && not more) ≡ true → (other && not failed) ≡ true
fewer_watched true true true grows h = absurd (cc)
fewer_watched true true false grows h = let e : false ≡ true = grows refl in absurd (cc)
fewer_watched true false more grows h = refl
fewer_watched false failed more grows h = absurd (cc)

-- one that fails is one the more
pub failed_more : (node : ℕ) (failed more watched : Nodes) (own r : ℕ) → r < most_nodes → more ≡ with_node node failed
    → (has watched r && not (r == own) && not (has more r)) ≡ true → (has watched r && not (r == own) && not (has failed r)) ≡ true
failed_more node failed more watched own r near is h =
    fewer_watched (has watched r && not (r == own)) (has failed r) (has more r)
    (λ e. ap (λ s. has s r) is ∙ has-with_node r node failed near ∙ rw e refl) h

-- a node that shows life in a slot is not silent before as many slots later as the silence has
pub shown_later : (shown : List ℕ) (node slot silence idle_until r : ℕ) → node < length shown → idle_until ≤ slot + silence → idle_until ≤ get_or shown r 0 + silence
    → idle_until ≤ get_or (set shown node slot) r 0 + silence
shown_later shown node slot silence idle_until r there late before = elim (cases_eq r node) [
  | inl same ↦
      let is : get_or (set shown node slot) r 0 ≡ slot = ap (λ k. get_or (set shown node slot) k 0) same ∙ get_or-set_same shown node slot 0 there in
      omega (arith, is, late)
  | inr apart ↦ omega (arith, get_or-set_other shown node r slot 0 apart, before)
]

-- ---- what is found in a slot before it

module _ (v : LifeParts) (members : Nodes) (slot : ℕ) (some : 0 < v.params.silence) (idle_until : IsIdleUntil (slot + 1) members v) where
  none_silent : (r : ℕ) → r < most_nodes → has_timed_out_at v members slot r ≡ false
  none_silent r near = elim (cases_Bool (is_watched v members r)) [
    | inl watched ↦ rw watched (elim (cases_Bool (nat_le v.params.silence (slot - get_or v.shown r 0))) [
      | inl silent ↦ absurd (omega (arith, some, leb-true v.params.silence (slot - get_or v.shown r 0) silent, idle_until r near watched))
      | inr none ↦ none
    ])
    | inr none ↦ rw none refl
  ]

  pub none_found : (n : ℕ) → n ≤ most_nodes → found_below v members slot n ≡ []
  unfolding found_below
  none_found zero few = refl
  none_found (suc n) few = rw (none_found n (omega (arith, few)), none_silent n (omega (arith, few))) refl

-- and so nothing changes, and nothing is done
pub idle_state : (v : LifeParts) (members : Nodes) (slot : ℕ) → found_below v members slot v.params.nodes ≡ []
    → v ≡ all_marked (found_below v members slot v.params.nodes) v
unfolding all_marked
idle_state v members slot none = rw none refl

pub idle_actions : (v : LifeParts) (members : Nodes) (slot : ℕ) (before : List Action) → found_below v members slot v.params.nodes ≡ []
    → before ≡ before ++ found_actions v slot (found_below v members slot v.params.nodes)
idle_actions v members slot before none = rw none (sym (append-nil before))
