-- What a value stands for once signs become known.
use Rattle.std.specs.Prelude.{nat_lt}
use Rattle.std.proofs.Common.{◌≡◌, ℕ, ◌<◌, ◌==◌, ◌&&◌, ◌||◌, Bool, true, false, inl, inr, List, [], ◌∷◌, length, set, refl, ap, sym, ◌∙◌, arith}
use Rattle.std.specs.List.{AllByRecursion}
use Rattle.std.proofs.lemmas.Bool.{cases_eq, eq-eqb, ne_eqb}
use Rattle.std.proofs.lemmas.List.{get_or-set_other, get_or-set_same}
use Rattle.cany_base.specs.declared.notice.NoticeKind.{NoticeKind}
use Rattle.cany_base.specs.Limits.{most_nodes}
use Rattle.cany_base.specs.Nodes.{Nodes, has, nobody, with_node}
use Rattle.cany_base.specs.Scenario.{ScenarioParts}
use Rattle.cany_base.proofs.NodesFacts.{has-those_where}
use Rattle.cany_base.proofs.ParamsFacts.{few_nodes}
use Rattle.cany_base.proofs.SetFacts.{has-with_node}
use Rattle.cany_diffuse.specs.Eager.{EagerParts}
use Rattle.cany_model.specs.Rules.Knowledge.{FailureSign, Knowledge, knows, with_sign, with_signs}
use Rattle.cany_life.specs.Life.{AreCopies, IsReading, IsSignOf, LifeParts, known_in}
use Rattle.cany_life.specs.LifeSteps.{all_marked, marked}
use Rattle.cany_life.proofs.MarkFacts.{length-marked}

-- the sets of nodes at which two tests agree have the same nodes
same_failed : (a b : Nodes) (node r : ℕ) → has a r ≡ has b r → has (with_node node a) r ≡ has (with_node node b) r
same_failed a b node r same =
    has-those_where (λ q. has a q || q == node) r ∙ ap (λ t. nat_lt r most_nodes && (t || r == node)) same ∙ sym (has-those_where (λ q. has b q || q == node) r)

module _ (scenario : ScenarioParts) (i : ℕ) (counted past : List NoticeKind) where
  -- which signs are known once one is marked
  known_marked : (knowledge : Knowledge) (v : LifeParts) (sign : FailureSign) → IsReading scenario i counted past knowledge v → IsSignOf scenario sign
      → (q : FailureSign) → IsSignOf scenario q → has (known_in (marked sign v).known q.cycle) q.node ≡ knows q (with_sign sign knowledge)
  unfolding marked
  known_marked knowledge v sign h of q of_q =
      let near : q.node < most_nodes = omega (arith, of_q.node, few_nodes scenario.params h.limits.legal.in_range) in
      let within : sign.cycle < length v.known = omega (arith, of.cycle, h.signs.cycles) in
      let sets : List Nodes = set v.known sign.cycle (with_node sign.node (known_in v.known sign.cycle)) in
      elim (cases_eq q.cycle sign.cycle) [
        | inl same ↦
            ap (λ c. has (known_in sets c) q.node) same
            ∙ ap (λ s. has s q.node) (get_or-set_same v.known sign.cycle (with_node sign.node (known_in v.known sign.cycle)) nobody within)
            ∙ has-with_node q.node sign.node (known_in v.known sign.cycle) near
            ∙ ap (λ c. has (known_in v.known c) q.node || q.node == sign.node) (sym same)
            ∙ ap (λ b. b || q.node == sign.node) (h.signs.known q of_q)
            ∙ swapped (knows q knowledge) (q.node == sign.node) (q.cycle == sign.cycle) (eq-eqb q.cycle sign.cycle same)
        | inr apart ↦
            ap (λ s. has s q.node) (get_or-set_other v.known sign.cycle q.cycle (with_node sign.node (known_in v.known sign.cycle)) nobody apart)
            ∙ h.signs.known q of_q ∙ other (knows q knowledge) (q.node == sign.node) (q.cycle == sign.cycle) (ne_eqb q.cycle sign.cycle apart)
      ]
    where
      swapped : (known node cycle : Bool) → cycle ≡ true → (known || node) ≡ ((node && cycle) || known)
      swapped true true true e = refl
      swapped true false true e = refl
      swapped false true true e = refl
      swapped false false true e = refl
      swapped known node false e = absurd (cc)

      other : (known node cycle : Bool) → cycle ≡ false → known ≡ ((node && cycle) || known)
      other known true false e = refl
      other known false false e = refl
      other known node true e = absurd (cc)

  stands_marked : (knowledge : Knowledge) (v : LifeParts) (sign : FailureSign) → IsReading scenario i counted past knowledge v → IsSignOf scenario sign
      → IsReading scenario i counted past (with_sign sign knowledge) (marked sign v)
  unfolding marked all_marked
  stands_marked knowledge v sign h of = record {
    limits = h.limits;
    failed = λ r. same_failed v.failed knowledge.failed sign.node r (h.failed r);
    signs = record { cycles = length-marked (sign ∷ []) v ∙ h.signs.cycles; known = known_marked knowledge v sign h of };
    copies = h.copies;
    lives = h.lives;
  }

  -- one sign after another
  pub stands_all : (knowledge : Knowledge) (v : LifeParts) (signs : List FailureSign) → IsReading scenario i counted past knowledge v → AllByRecursion (IsSignOf scenario) signs
      → IsReading scenario i counted past (with_signs signs knowledge) (all_marked signs v)
  unfolding with_signs all_marked
  stands_all knowledge v [] h each = h
  stands_all knowledge v (sign ∷ signs) h each = stands_all (with_sign sign knowledge) (marked sign v) signs (stands_marked knowledge v sign h each.0) each.1

-- with another table of copies
pub stands_counted : (scenario : ScenarioParts) (i : ℕ) (counted more past : List NoticeKind) (knowledge : Knowledge) (v : LifeParts) (table : EagerParts)
    → AreCopies scenario more table → IsReading scenario i counted past knowledge v → IsReading scenario i more past knowledge (record v { copies = table })
stands_counted scenario i counted more past knowledge v table copies h =
    record { limits = h.limits; failed = h.failed; signs = h.signs; copies = copies; lives = h.lives }
