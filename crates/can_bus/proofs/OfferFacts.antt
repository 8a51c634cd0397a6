-- What the controllers offer.
use Rattle.std.proofs.Common.{◌≡◌, ◌≢◌, ℕ, ◌<◌, ◌≤◌, ◌+◌, true, false, nat_lt, cond, List, [], refl, ap, sym, subst, ◌∙◌, arith, inl, inr}
use Rattle.std.specs.Prelude.{Option, Some, None, IfSome, is_none, is_some}
use Rattle.std.proofs.lemmas.Bool.{cases_lt, lt-ltb, le-ltb}
use Rattle.cany_base.specs.declared.format.Format.{Format}
use Rattle.cany_base.specs.Frame.{FrameParts}
use Rattle.cany_model.specs.Bus.Slot.{least_frame, offered}
use Rattle.cany_model.specs.Bus.State.{NodeState, node_at, absent}
use Rattle.can_frame.specs.Identifier.{FitsIdentifier}
use Rattle.can_arbiter.specs.Outcome.{IsEntered}
use Rattle.can_bus.specs.Contest.{StandInOrder}
use Rattle.can_bus.proofs.WinnerFacts.{offer_of}

no_frame_in_order : (format : Format) → StandInOrder format []
unfolding least_frame
no_frame_in_order format = record { head = refl; least_key = tt }

least_of_none : None ≡ least_frame []
unfolding least_frame
least_of_none = refl

stops_running : (s : Option ℕ) → is_some s ≡ true → is_none s ≡ false
stops_running None e = cc
stops_running (Some slot) e = refl

runs_still : (s : Option ℕ) → is_some s ≡ false → is_none s ≡ true
runs_still None e = refl
runs_still (Some slot) e = cc

pub offered_stopped : (node : NodeState) → is_some node.stopped ≡ true → offered node ≡ []
offered_stopped node e = ap (λ b. cond b node.waiting []) (stops_running node.stopped e)

pub offered_running : (node : NodeState) → is_some node.stopped ≡ false → offered node ≡ node.waiting
offered_running node e = ap (λ b. cond b node.waiting []) (runs_still node.stopped e)

pub stopped_offers : (node : NodeState) → is_some node.stopped ≡ true → None ≡ least_frame (offered node)
stopped_offers node e = least_of_none ∙ ap least_frame (sym (offered_stopped node e))

pub stopped_in_order : (format : Format) (node : NodeState) → is_some node.stopped ≡ true → StandInOrder format (offered node)
stopped_in_order format node e = subst (StandInOrder format) (sym (offered_stopped node e)) (no_frame_in_order format)

pub running_in_order : (format : Format) (node : NodeState) → is_some node.stopped ≡ false → StandInOrder format node.waiting → StandInOrder format (offered node)
running_in_order format node e order = subst (StandInOrder format) (sym (offered_running node e)) order

-- ---- going over the nodes

pub absent_offers : least_frame (offered absent) ≡ None
absent_offers = sym least_of_none

pub absent_in_order : (format : Format) → StandInOrder format (offered absent)
absent_in_order format = no_frame_in_order format

-- what the nodes below this one offer
abbrev pub offers_below : List NodeState → ℕ → ℕ → Option FrameParts
offers_below nodes i k = cond (nat_lt k i) (offer_of nodes k) None

below_here : (nodes : List NodeState) (i k : ℕ) → k < i → offers_below nodes i k ≡ offer_of nodes k
below_here nodes i k below = ap (λ b. cond b (offer_of nodes k) None) (lt-ltb k i below)

pub not_below : (nodes : List NodeState) (i k : ℕ) → i ≤ k → offers_below nodes i k ≡ None
not_below nodes i k above = ap (λ b. cond b (offer_of nodes k) None) (le-ltb k i above)

same_below : (nodes : List NodeState) (i k : ℕ) → k ≢ i → offers_below nodes (i + 1) k ≡ offers_below nodes i k
same_below nodes i k apart = elim (cases_lt k i) [
  | inl below ↦ below_here nodes (i + 1) k (omega arith) ∙ sym (below_here nodes i k below)
  | inr above ↦ not_below nodes (i + 1) k (omega (arith, apart)) ∙ sym (not_below nodes i k above)
]

-- the next node enters what it offers
pub next_entered : (nodes : List NodeState) (i : ℕ) (node : NodeState) → node_at nodes i ≡ node
    → IsEntered i (least_frame (offered node)) (offers_below nodes i) (offers_below nodes (i + 1))
next_entered nodes i node at = record {
  last = λ k above. not_below nodes i k above;
  here = below_here nodes (i + 1) i (omega arith) ∙ ap (λ n. least_frame (offered n)) at;
  others = λ k apart. same_below nodes i k apart;
}

-- what all nodes offer, of which there are so many
pub all_below : (nodes : List NodeState) (n : ℕ) → ((k : ℕ) → n ≤ k → node_at nodes k ≡ absent) → offers_below nodes n ≡ offer_of nodes
all_below nodes n past = λ j k. each k j
  where
    each : (k : ℕ) → offers_below nodes n k ≡ offer_of nodes k
    each k = elim (cases_lt k n) [
      | inl below ↦ below_here nodes n k below
      | inr above ↦ not_below nodes n k above ∙ sym (ap (λ x. least_frame (offered x)) (past k above) ∙ absent_offers)
    ]

-- each offer fits an identifier
pub all_fit : (format : Format) (nodes : List NodeState) (n : ℕ) → ((k : ℕ) → k < n → IfSome (offer_of nodes k) (FitsIdentifier format))
    → ((k : ℕ) → n ≤ k → node_at nodes k ≡ absent) → (k : ℕ) (f : FrameParts) → offer_of nodes k ≡ Some f → FitsIdentifier format f
all_fit format nodes n fit past k f e = elim (cases_lt k n) [
  | inl below ↦ subst (λ (o : Option FrameParts). IfSome o (FitsIdentifier format)) e (fit k below)
  | inr above ↦ let none : None ≡ Some f = sym (ap (λ x. least_frame (offered x)) (past k above) ∙ absent_offers) ∙ e in cc
]

pub all_in_order : (format : Format) (nodes : List NodeState) (n : ℕ) → ((k : ℕ) → k < n → StandInOrder format (offered (node_at nodes k)))
    → ((k : ℕ) → n ≤ k → node_at nodes k ≡ absent) → (k : ℕ) → StandInOrder format (offered (node_at nodes k))
all_in_order format nodes n order past k = elim (cases_lt k n) [
  | inl below ↦ order k below
  | inr above ↦ subst (λ (x : NodeState). StandInOrder format (offered x)) (sym (past k above)) (absent_in_order format)
]
