-- What signs that become known leave as it was.
use Rattle.std.proofs.Common.{◌≡◌, List, [], ◌∷◌, ◌++◌, length, refl, ap, ◌∙◌, length-set}
use Rattle.cany_model.specs.Rules.Knowledge.{FailureSign}
use Rattle.cany_life.specs.Life.{LifeParts, known_in}
use Rattle.cany_base.specs.Nodes.{with_node}
use Rattle.cany_life.specs.LifeSteps.{all_marked, marked}

-- of a value only the failed nodes and the signs change
pub marks_rest : (signs : List FailureSign) (v : LifeParts) → all_marked signs v ≡ record v { failed = (all_marked signs v).failed; known = (all_marked signs v).known }
unfolding all_marked marked
marks_rest [] v = refl
marks_rest (sign ∷ signs) v = marks_rest signs (marked sign v)

module _ (signs : List FailureSign) (v w : LifeParts) (is : w ≡ all_marked signs v) where
  pub marked-rest : w ≡ record v { failed = w.failed; known = w.known }
  marked-rest = rw is (marks_rest signs v)

  pub marked-node : w.node ≡ v.node
  marked-node = ap (λ (x : LifeParts). x.node) marked-rest

  pub marked-params : w.params ≡ v.params
  marked-params = ap (λ (x : LifeParts). x.params) marked-rest

pub all_marked-append : (xs ys : List FailureSign) (v : LifeParts) → all_marked (xs ++ ys) v ≡ all_marked ys (all_marked xs v)
unfolding all_marked
all_marked-append [] ys v = refl
all_marked-append (x ∷ xs) ys v = all_marked-append xs ys (marked x v)

pub length-marked : (signs : List FailureSign) (v : LifeParts) → length (all_marked signs v).known ≡ length v.known
unfolding all_marked marked
length-marked [] v = refl
length-marked (sign ∷ signs) v = length-marked signs (marked sign v) ∙ length-set v.known sign.cycle (with_node sign.node (known_in v.known sign.cycle))
