-- The winner of a slot is what the first node offers of those that offer a frame of the least key.
use Rattle.std.proofs.Common.{◌≡◌, ℕ, zero, suc, ◌<◌, ◌≤◌, Bool, true, false, nat_lt, List, [], ◌∷◌, ◌++◌, refl, ap, sym, subst, ◌∙◌, arith}
use Rattle.std.specs.Prelude.{Option, Some, None, if◌then◌else◌}
use Rattle.std.specs.List.{flat_map}
use Rattle.std.proofs.lemmas.Bool.Decides.{nat_tests}
use Rattle.std.proofs.lemmas.Option.{same_Some}
use Rattle.cany_base.specs.declared.format.Format.{Format}
use Rattle.cany_base.specs.Frame.{FrameParts, class_number, key_of}
use Rattle.cany_model.specs.Bus.Frames.{is_before, same_class}
use Rattle.cany_model.specs.Bus.Slot.{better, least_frame, offered, winner}
use Rattle.cany_model.specs.Bus.State.{NodeState, node_at}
use Rattle.can_frame.specs.Identifier.{FitsIdentifier}
use Rattle.can_arbiter.specs.Outcome.{Wins}
use Rattle.can_controller.specs.Waiting.{LesserKeyWins}
use Rattle.cany_model.proofs.Promises.FewLifeSignsOrder.{compared, is_not_before}

-- ---- the order of frames

before_before : (a b c : ℕ) (r s t : Bool) → (r ≡ true → s ≡ true → t ≡ true) → compared a b r ≡ true → compared b c s ≡ true → compared a c t ≡ true
before_before a b c true true t rest first second = let least : t ≡ true = rest refl refl in grind (arith, nat_tests)
before_before a b c true false t rest first second = grind (arith, nat_tests)
before_before a b c false s t rest first second = grind (arith, nat_tests)

less_less : (a b c : ℕ) → nat_lt a b ≡ true → nat_lt b c ≡ true → nat_lt a c ≡ true
less_less a b c first second = grind (arith, nat_tests)

is_before_before : (f g h : FrameParts) → is_before f g ≡ true → is_before g h ≡ true → is_before f h ≡ true
unfolding is_before same_class
is_before_before f g h =
    before_before (class_number f.class) (class_number g.class) (class_number h.class) _ _ _
    (before_before f.number g.number h.number _ _ _ (before_before f.node g.node h.node _ _ _ (less_less f.inc g.inc h.inc)))

later_wins : (f g : FrameParts) → is_before g f ≡ true → better f (Some g) ≡ g
later_wins f g e = ap (λ b. if b then g else f) e

earlier_wins : (f g : FrameParts) → is_before g f ≡ false → better f (Some g) ≡ f
earlier_wins f g e = ap (λ b. if b then g else f) e

-- the winner of three does not depend on where they are parted
by_tests : (x g h : FrameParts) (p q : Bool) → is_before h g ≡ p → is_before g x ≡ q → better x (Some (better g (Some h))) ≡ better (better x (Some g)) (Some h)
by_tests x g h true true hg gx =
    ap (λ y. better x (Some y)) (later_wins g h hg) ∙ later_wins x h (is_before_before h g x hg gx)
    ∙ sym (ap (λ y. better y (Some h)) (later_wins x g gx) ∙ later_wins g h hg)
by_tests x g h true false hg gx =
    ap (λ y. better x (Some y)) (later_wins g h hg) ∙ sym (ap (λ y. better y (Some h)) (earlier_wins x g gx))
by_tests x g h false true hg gx =
    ap (λ y. better x (Some y)) (earlier_wins g h hg) ∙ later_wins x g gx
    ∙ sym (ap (λ y. better y (Some h)) (later_wins x g gx) ∙ earlier_wins g h hg)
by_tests x g h false false hg gx =
    ap (λ y. better x (Some y)) (earlier_wins g h hg) ∙ earlier_wins x g gx
    ∙ sym (ap (λ y. better y (Some h)) (earlier_wins x g gx) ∙ earlier_wins x h (is_not_before h g x hg gx))

-- the winner of two, of which each may be none
abbrev pick : Option FrameParts → Option FrameParts → Option FrameParts
pick None o = o
pick (Some f) o = Some (better f o)

better_pick : (x : FrameParts) (a b : Option FrameParts) → better x (pick a b) ≡ better (better x a) b
better_pick x None b = refl
better_pick x (Some g) None = refl
better_pick x (Some g) (Some h) = by_tests x g h (is_before h g) (is_before g x) refl refl

least_append : (xs ys : List FrameParts) → least_frame (xs ++ ys) ≡ pick (least_frame xs) (least_frame ys)
unfolding least_frame
least_append [] ys = refl
least_append (x ∷ xs) ys = ap (λ o. Some (better x o)) (least_append xs ys) ∙ ap Some (better_pick x (least_frame xs) (least_frame ys))

winner_cons : (n : NodeState) (ns : List NodeState) → winner (n ∷ ns) ≡ pick (least_frame (offered n)) (winner ns)
unfolding winner
winner_cons n ns = least_append (offered n) (flat_map offered ns)

winner_none : winner [] ≡ None
unfolding winner least_frame
winner_none = refl

-- ---- what the nodes offer, by their numbers

abbrev pub offer_of : List NodeState → ℕ → Option FrameParts
offer_of nodes k = least_frame (offered (node_at nodes k))

clash : (o : Option FrameParts) (f : FrameParts) → o ≡ None → o ≡ Some f → ⊥
clash o f a b = cc

one_key : (format : Format) (f g : FrameParts) → f ≡ g → key_of format f ≡ key_of format g
one_key format f g e = ap (key_of format) e

less_true : (a b : ℕ) → nat_lt a b ≡ true → a < b
less_true a b e = grind (arith, nat_tests)

less_false : (a b : ℕ) → nat_lt a b ≡ false → b ≤ a
less_false a b e = grind (arith, nat_tests)

-- the winner is offered later
from_rest : (format : Format) (offers : ℕ → Option FrameParts) (f : FrameParts) → Wins format (λ k. offers (suc k)) f
    → ((g : FrameParts) → offers 0 ≡ Some g → key_of format f < key_of format g) → Wins format offers f
from_rest format offers f rest first = record {
  node = suc rest.node;
  offered = rest.offered;
  least_key = λ k g. at_least k g;
  least_node = λ k g. no_earlier k g;
}
  where
    at_least : (k : ℕ) (g : FrameParts) → offers k ≡ Some g → key_of format f ≤ key_of format g
    at_least zero g e = omega (arith, first g e)
    at_least (suc k) g e = rest.least_key k g e

    no_earlier : (k : ℕ) (g : FrameParts) → offers k ≡ Some g → key_of format g ≡ key_of format f → suc rest.node ≤ k
    no_earlier zero g e same = absurd (omega (arith, first g e))
    no_earlier (suc k) g e same = omega (arith, rest.least_node k g e same)

-- the winner is offered first
from_first : (format : Format) (offers : ℕ → Option FrameParts) (f : FrameParts) → offers 0 ≡ Some f
    → ((k : ℕ) (g : FrameParts) → offers (suc k) ≡ Some g → key_of format f ≤ key_of format g) → Wins format offers f
from_first format offers f first rest = record {
  node = 0;
  offered = first;
  least_key = λ k g. at_least k g;
  least_node = λ k g e same. omega arith;
}
  where
    at_least : (k : ℕ) (g : FrameParts) → offers k ≡ Some g → key_of format f ≤ key_of format g
    at_least zero g e = omega (arith, one_key format f g (same_Some f g (sym first ∙ e)))
    at_least (suc k) g e = rest k g e

pick_none : (a b : Option FrameParts) → pick a b ≡ None → (a ≡ None) × (b ≡ None)
pick_none None b e = (refl, e)
pick_none (Some f) b e = cc

-- where there is no winner, no node offers
pub no_winner : (nodes : List NodeState) → winner nodes ≡ None → (k : ℕ) → offer_of nodes k ≡ None
unfolding node_at least_frame
no_winner [] e k = refl
no_winner (n ∷ ns) e zero = (pick_none (least_frame (offered n)) (winner ns) (sym (winner_cons n ns) ∙ e)).0
no_winner (n ∷ ns) e (suc k) = no_winner ns (pick_none (least_frame (offered n)) (winner ns) (sym (winner_cons n ns) ∙ e)).1 k

-- and where no node offers, there is no winner
pub no_offers : (nodes : List NodeState) → ((k : ℕ) → offer_of nodes k ≡ None) → winner nodes ≡ None
unfolding node_at
no_offers [] none = winner_none
no_offers (n ∷ ns) none = winner_cons n ns ∙ ap (λ o. pick o (winner ns)) (none 0) ∙ no_offers ns (λ k. none (suc k))

module _ (format : Format) (lesser_wins : LesserKeyWins format) where
  by_order : (offers : ℕ → Option FrameParts) (g h f : FrameParts) (lost : Bool) → offers 0 ≡ Some g → Wins format (λ k. offers (suc k)) h
      → ((k : ℕ) (r : FrameParts) → offers k ≡ Some r → FitsIdentifier format r) → is_before h g ≡ lost → better g (Some h) ≡ f → Wins format offers f
  by_order offers g h f true first rest fit order e =
      let key : nat_lt (key_of format h) (key_of format g) ≡ true = sym (lesser_wins h g (fit (suc rest.node) h rest.offered) (fit 0 g first)) ∙ order in
      let less : key_of format h < key_of format g = less_true (key_of format h) (key_of format g) key in
      let P : FrameParts → Type 0 = Wins format offers in
      subst P (sym (later_wins g h order) ∙ e)
      (from_rest format offers h rest (λ r at. omega (arith, one_key format g r (same_Some g r (sym first ∙ at)))))
  by_order offers g h f false first rest fit order e =
      let key : nat_lt (key_of format h) (key_of format g) ≡ false = sym (lesser_wins h g (fit (suc rest.node) h rest.offered) (fit 0 g first)) ∙ order in
      let no_less : key_of format g ≤ key_of format h = less_false (key_of format h) (key_of format g) key in
      let P : FrameParts → Type 0 = Wins format offers in
      subst P (sym (earlier_wins g h order) ∙ e)
      (from_first format offers g first (λ k r at. omega (arith, rest.least_key k r at)))

  joined : (offers : ℕ → Option FrameParts) (a b : Option FrameParts) (f : FrameParts) → offers 0 ≡ a → pick a b ≡ Some f
      → ((k : ℕ) (r : FrameParts) → offers k ≡ Some r → FitsIdentifier format r)
      → (b ≡ None → (k : ℕ) → offers (suc k) ≡ None) → ((h : FrameParts) → b ≡ Some h → Wins format (λ k. offers (suc k)) h) → Wins format offers f
  joined offers None b f first e fit none rest =
      from_rest format offers f (rest f e) (λ g at. absurd (clash (offers 0) g first at))
  joined offers (Some g) None f first e fit none rest =
      from_first format offers f (first ∙ e) (λ k r at. absurd (clash (offers (suc k)) r (none refl k) at))
  joined offers (Some g) (Some h) f first e fit none rest =
      by_order offers g h f (is_before h g) first (rest h refl) fit refl (same_Some (better g (Some h)) f e)

  pub winner_wins : (nodes : List NodeState) (f : FrameParts) → ((k : ℕ) (r : FrameParts) → offer_of nodes k ≡ Some r → FitsIdentifier format r)
      → winner nodes ≡ Some f → Wins format (offer_of nodes) f
  unfolding node_at
  winner_wins [] f fit e = absurd (clash (winner []) f winner_none e)
  winner_wins (n ∷ ns) f fit e =
      joined (offer_of (n ∷ ns)) (least_frame (offered n)) (winner ns) f refl (sym (winner_cons n ns) ∙ e) fit (no_winner ns)
      (λ h at. winner_wins ns h (λ k r. fit (suc k) r) at)
