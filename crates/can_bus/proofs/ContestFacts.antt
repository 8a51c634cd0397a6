-- What arbitration over the offers gives is what the definition of a slot says of the frame and its
-- senders.
use Rattle.std.proofs.Common.{◌≡◌, ℕ, ◌<◌, ◌≤◌, ◌&&◌, ◌||◌, ◌⊎◌, Bool, true, false, nat_lt, cond, List, [], ◌∷◌, refl, ap, sym, subst, ◌∙◌, arith, inl, inr}
use Rattle.std.specs.Prelude.{All, Option, Some, None, slice_get}
use Rattle.std.specs.Cmp.{both_ways}
use Rattle.std.proofs.lemmas.Bool.{and_from, and_parts, cases_lt, lt-ltb}
use Rattle.std.proofs.lemmas.List.Elements.{All-head, All-tail}
use Rattle.std.proofs.lemmas.Option.{same_Some}
use Rattle.cany_base.specs.Limits.{most_nodes}
use Rattle.cany_base.specs.declared.format.Format.{Format}
use Rattle.cany_base.specs.Frame.{FrameParts, key_of}
use Rattle.cany_base.specs.Nodes.{Nodes, has, those_where}
use Rattle.cany_base.proofs.NodesFacts.{same_as_those_where}
use Rattle.cany_model.specs.Bus.Frames.{same_frame}
use Rattle.cany_model.specs.Bus.Slot.{least_frame, offered, sends, winner}
use Rattle.cany_model.specs.Bus.State.{NodeState, node_at, runs, absent}
use Rattle.cany_model.specs.Bus.Waiting.{waits_with}
use Rattle.cany_model.proofs.Bus.Identities.{same_frame-true, same_frame_self}
use Rattle.can_arbiter.specs.declared.arbitration.Outcome.{Outcome}
use Rattle.can_arbiter.specs.declared.arbitration.Outcome.TheVariants.{Idle, Won}
use Rattle.can_arbiter.specs.Outcome.{AreSendersAmong, IsOutcomeAmong, Wins, frame_of}
use Rattle.can_controller.specs.Waiting.{LesserKeyWins}
use Rattle.can_bus.specs.Contest.{IsContestOf, StandInOrder, HasSenders}
use Rattle.can_bus.proofs.WinnerFacts.{offer_of, no_winner, winner_wins}
use Rattle.can_frame.specs.Identifier.{FitsIdentifier}

clash : (o : Option FrameParts) (f : FrameParts) → o ≡ None → o ≡ Some f → ⊥
clash o f a b = cc

-- ---- the senders

same_as_self : (f g : FrameParts) → g ≡ f → same_frame f g ≡ true
same_as_self f g e = rw e (same_frame_self f)

head_waits : (f : FrameParts) (xs : List FrameParts) → slice_get xs 0 ≡ Some f → waits_with f xs ≡ true
head_waits f [] e = cc
head_waits f (x ∷ xs) e = ap (λ b. b || waits_with f xs) (same_as_self f x (same_Some x f e))

-- what holds of each frame of a list holds of one that waits there
holds_of : (P : FrameParts → Type 0) (f : FrameParts) (xs : List FrameParts) → All P xs → waits_with f xs ≡ true → P f
holds_of P f [] all there = cc
holds_of P f (x ∷ xs) all there = at (same_frame f x) refl there (λ h. holds_of P f xs (All-tail P x xs all) h)
  where
    at : (b : Bool) → same_frame f x ≡ b → (b || waits_with f xs) ≡ true → (waits_with f xs ≡ true → P f) → P f
    at true e h later = subst P (sym (same_frame-true f x e)) (All-head P x xs all)
    at false e h later = later h

-- a frame that waits, and that no frame at the head beats, is the head
waits_at_head : (format : Format) (f : FrameParts) (xs : List FrameParts) → StandInOrder format xs → waits_with f xs ≡ true
    → ((g : FrameParts) → slice_get xs 0 ≡ Some g → key_of format f ≤ key_of format g) → slice_get xs 0 ≡ Some f
waits_at_head format f [] order there least = cc
waits_at_head format f (x ∷ xs) order there least = elim (holds_of (λ g. (g ≡ x) ⊎ (key_of format x < key_of format g)) f (x ∷ xs) order.least_key there) [
  | inl same ↦ ap Some (sym same)
  | inr above ↦ absurd (omega (arith, above, least x refl))
]

offered_by : (node : NodeState) (b : Bool) → runs node ≡ b → offered node ≡ cond b node.waiting []
offered_by node b e = ap (λ r. cond r node.waiting []) e

offers_sends : (format : Format) (f : FrameParts) (node : NodeState) (b : Bool) → runs node ≡ b → StandInOrder format (offered node) → least_frame (offered node) ≡ Some f → sends f node ≡ true
offers_sends format f node true e order offers =
    let head : slice_get node.waiting 0 ≡ Some f = ap (λ (xs : List FrameParts). slice_get xs 0) (sym (offered_by node true e)) ∙ sym order.head ∙ offers in
    and_from (runs node) (waits_with f node.waiting) e (head_waits f node.waiting head)
offers_sends format f node false e order offers =
    let head : None ≡ Some f = ap (λ (xs : List FrameParts). slice_get xs 0) (sym (offered_by node false e)) ∙ sym order.head ∙ offers in
    cc

sends_offers : (format : Format) (f : FrameParts) (node : NodeState) → StandInOrder format (offered node) → ((g : FrameParts) → least_frame (offered node) ≡ Some g → key_of format f ≤ key_of format g)
    → sends f node ≡ true → least_frame (offered node) ≡ Some f
sends_offers format f node order least sent =
    let parts = and_parts (runs node) (waits_with f node.waiting) sent in
    let all : offered node ≡ node.waiting = offered_by node true parts.0 in
    let same : slice_get (offered node) 0 ≡ slice_get node.waiting 0 = ap (λ (xs : List FrameParts). slice_get xs 0) all in
    order.head ∙ same ∙ waits_at_head format f node.waiting (subst (StandInOrder format) all order) parts.1 (λ g at. least g (order.head ∙ same ∙ at))

absent_sends : (f : FrameParts) → sends f absent ≡ false
absent_sends f = refl

and_false : (b : Bool) → false ≡ (b && false)
and_false true = refl
and_false false = refl

below_all : (nodes : List NodeState) (f : FrameParts) (i : ℕ) → ((k : ℕ) → most_nodes ≤ k → node_at nodes k ≡ absent)
    → sends f (node_at nodes i) ≡ (nat_lt i most_nodes && sends f (node_at nodes i))
below_all nodes f i past = elim (cases_lt i most_nodes) [
  | inl below ↦ sym (ap (λ b. b && sends f (node_at nodes i)) (lt-ltb i most_nodes below))
  | inr above ↦
      let none : sends f (node_at nodes i) ≡ false = ap (sends f) (past i above) ∙ absent_sends f in
      none ∙ and_false (nat_lt i most_nodes) ∙ sym (ap (λ b. nat_lt i most_nodes && b) none)
]

-- one frame wins at most
one_winner : (format : Format) (offers : ℕ → Option FrameParts) (f g : FrameParts) → Wins format offers f → Wins format offers g → f ≡ g
one_winner format offers f g first second =
    let at_most : key_of format f ≤ key_of format g = first.least_key second.node g second.offered in
    let at_least : key_of format g ≤ key_of format f = second.least_key first.node f first.offered in
    let one_way : first.node ≤ second.node = first.least_node second.node g second.offered (omega arith) in
    let other_way : second.node ≤ first.node = second.least_node first.node f first.offered (omega arith) in
    let node : first.node ≡ second.node = omega arith in
    same_Some f g (sym first.offered ∙ ap offers node ∙ second.offered)

-- ---- of what the nodes offer

module _ (format : Format) (nodes : List NodeState) (lesser_wins : LesserKeyWins format) (fit : (k : ℕ) (f : FrameParts) → offer_of nodes k ≡ Some f → FitsIdentifier format f)
    (in_order : (k : ℕ) → StandInOrder format (offered (node_at nodes k))) where
  senders_are : (f : FrameParts) (senders : Nodes) → ((k : ℕ) → most_nodes ≤ k → node_at nodes k ≡ absent)
      → Wins format (offer_of nodes) f × AreSendersAmong (offer_of nodes) f senders → senders ≡ those_where (λ i. sends f (node_at nodes i))
  senders_are f senders past outcome =
      same_as_those_where senders (λ i. sends f (node_at nodes i)) (λ i.
      both_ways (has senders i) (sends f (node_at nodes i))
      (λ h. offers_sends format f (node_at nodes i) (runs (node_at nodes i)) refl (in_order i) ((outcome.1 i).0 h))
      (λ h. (outcome.1 i).1 (sends_offers format f (node_at nodes i) (in_order i) (λ g at. outcome.0.least_key i g at) h))
      ∙ below_all nodes f i past)

  frame_is : (outcome : Outcome) (o : Option FrameParts) → IsOutcomeAmong format (offer_of nodes) outcome → winner nodes ≡ o → frame_of outcome ≡ o
  frame_is Idle None outcome e = refl
  frame_is Idle (Some f) outcome e =
      let wins : Wins format (offer_of nodes) f = winner_wins format lesser_wins nodes f fit e in
      absurd (clash (offer_of nodes wins.node) f (outcome wins.node) wins.offered)
  frame_is (Won f senders) None outcome e =
      absurd (clash (offer_of nodes outcome.0.node) f (no_winner nodes e outcome.0.node) outcome.0.offered)
  frame_is (Won f senders) (Some g) outcome e =
      ap Some (one_winner format (offer_of nodes) f g outcome.0 (winner_wins format lesser_wins nodes g fit e))

  has_senders : (outcome : Outcome) → ((k : ℕ) → most_nodes ≤ k → node_at nodes k ≡ absent) → IsOutcomeAmong format (offer_of nodes) outcome → HasSenders nodes outcome
  has_senders Idle past outcome = tt
  has_senders (Won f senders) past outcome = senders_are f senders past outcome

  pub contested : (outcome : Outcome) → ((k : ℕ) → most_nodes ≤ k → node_at nodes k ≡ absent) → IsOutcomeAmong format (offer_of nodes) outcome → IsContestOf nodes outcome
  contested outcome past it = record { frame = frame_is outcome (winner nodes) it refl; senders = has_senders outcome past it }
