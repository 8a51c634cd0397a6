-- Publishing and entering keep the rule of the readers and the writer.
use Rattle.std.proofs.Common.{◌≡◌, ◌≢◌, ℕ, List, Option, Some, None, set, refl, subst, ◌∙◌, ⊎_elim}
use mathlib.Core.Option.{some}
use lib.ListN.{get_elem?}
use Rattle.left_right.specs.Register.{Admits, TurnsAt, Forks, Merges, Turns}
use Rattle.atomic_table.proofs.Lists.{at_set, at_snoc}
use Rattle.cany_watch.specs.declared.published.Published.{Published}
use Rattle.cany_watch.specs.Notes.{NoteParts, Follows}
use Rattle.cany_watch.specs.Shown.{Keeps, Shows, FollowsAny, IsShown}
use Rattle.cany_watch.proofs.Prefixes.{prefix_self, prefix_trans}

pub follows_self : (n : NoteParts) → Follows n n
follows_self n = (refl, prefix_self n.entries)

pub follows_trans : (a b c : NoteParts) → Follows a b → Follows b c → Follows a c
follows_trans a b c p q = (q.0 ∙ p.0, prefix_trans a.entries b.entries c.entries p.1 q.1)

pub any_trans : (v : Option NoteParts) (b c : NoteParts) → FollowsAny v b → Follows b c → FollowsAny v c
any_trans None b c p q = tt
any_trans (Some a) b c p q = follows_trans a b c p q

-- what is published goes from x to a y that follows it
pub shows : (seat : ℕ) (v : Option NoteParts) (x y : Published) → IsShown y → Follows x.front y.front → TurnsAt Keeps seat v x y Shows
shows seat v x y shown follows views kept at = (
  Some y.front,
  record {
    shown = shown;
    known = λ j u e. ⊎_elim (λ (t : (j ≡ seat) × (Some y.front ≡ u)). subst (λ (w : Option NoteParts). FollowsAny w y.front) t.1 (follows_self y.front))
        (λ (t : (j ≢ seat) × (get_elem? views j ≡ some u)). any_trans u x.front y.front (kept.known j u t.1) follows)
        (at_set views seat j (Some y.front) u e);
  },
  (refl, any_trans v x.front y.front (kept.known seat v at) follows, shown),
)

pub enters : (seat : ℕ) (v : Option NoteParts) → Turns Keeps seat v (λ x. x) Shows
enters seat v x views kept at = shows seat v x x kept.shown (follows_self x.front) views kept at

pub admits : Admits Keeps None
admits x views kept = record {
  shown = kept.shown;
  known = λ j u e. ⊎_elim (kept.known j u) (λ (t : None ≡ u). subst (λ (w : Option NoteParts). FollowsAny w x.front) t tt) (at_snoc views None u j e);
}

-- a note of the writer's is as good as the writer's own view
set_known : (x : Published) (views : List (Option NoteParts)) (seat : ℕ) (v : Option NoteParts) → Keeps x views → FollowsAny v x.front → Keeps x (set views seat v)
set_known x views seat v kept follows = record {
  shown = kept.shown;
  known = λ j u e. ⊎_elim (λ (t : (j ≡ seat) × (v ≡ u)). subst (λ (w : Option NoteParts). FollowsAny w x.front) t.1 follows)
      (λ (t : (j ≢ seat) × (get_elem? views j ≡ some u)). kept.known j u t.1) (at_set views seat j v u e);
}

pub forks : (seat : ℕ) (v : Option NoteParts) → Forks Keeps seat v v v
forks seat v x views kept at =
    let both = set_known x views seat v kept (kept.known seat v at) in record {
      shown = kept.shown;
      known = λ j u e. ⊎_elim (both.known j u) (λ (t : v ≡ u). subst (λ (w : Option NoteParts). FollowsAny w x.front) t (kept.known seat v at)) (at_snoc (set views seat v) v u j e);
    }

pub merges : (seat : ℕ) (v : Option NoteParts) (other : ℕ) (w : Option NoteParts) → Merges Keeps seat v other w w None
merges seat v other w x views kept at apart there =
    let known : FollowsAny w x.front = ⊎_elim (λ (t : (other ≡ seat) × (w ≡ w)). absurd (apart t.0)) (λ (t : (other ≢ seat) × (get_elem? views other ≡ some w)). kept.known other w t.1) (at_set views seat other w w there) in
    set_known x (set views seat w) other None (set_known x views seat w kept known) tt
