-- What a contract sees of the assignments of the workers.
use Rattle.std.specs.Prelude.{◌≡◌, ℕ, ◌+◌, ◌<◌, Bool, true, false, List, [], ◌∷◌, length, slice_index_or, Option, Some, None}
use Rattle.cany_crew.specs.declared.assignment.Assignment.{Assignment}
use Rattle.cany_crew.specs.declared.assignment.Assignment.TheVariants.{Bus, Node}
use Rattle.cany_crew.specs.Gates.{CountsRefusal}
use Rattle.cany_crew.specs.Assignment.{AssignmentParts}

-- what the gates at the assignments count
abbrev pub counts_of : {L B G : Type 0} → List (Assignment L B G) → List ℕ
counts_of [] = []
counts_of (Bus seat ∷ assignments) = counts_of assignments
counts_of (Node assignment ∷ assignments) = assignment.refusals ∷ counts_of assignments

-- for which slots the gates at the assignments refused a pass last
abbrev pub slots_of : {L B G : Type 0} → List (Assignment L B G) → List (Option ℕ)
slots_of [] = []
slots_of (Bus seat ∷ assignments) = slots_of assignments
slots_of (Node assignment ∷ assignments) = assignment.refused_at ∷ slots_of assignments

-- whether the assignment of the bus is one of them
abbrev pub has_bus : {L B G : Type 0} → List (Assignment L B G) → Bool
has_bus [] = false
has_bus (Bus seat ∷ assignments) = true
has_bus (Node assignment ∷ assignments) = has_bus assignments

-- the assignments of nodes are those of this one and of those that follow it, in their order
abbrev pub AreFrom : {L B G : Type 0} → ℕ → List (Assignment L B G) → Type 0
AreFrom node [] = Unit {0}
AreFrom node (Bus seat ∷ assignments) = AreFrom node assignments
AreFrom node (Node assignment ∷ assignments) = (assignment.node ≡ node) × AreFrom (node + 1) assignments

abbrev pub refused_or : ℕ → Option ℕ → Option (ℕ × ℕ) → Option (ℕ × ℕ)
refused_or node None otherwise = otherwise
refused_or node (Some slot) otherwise = Some (node, slot)

-- of the passes that were refused that of the least node: the node and the slot
abbrev pub first_refused : {L B G : Type 0} → List (Assignment L B G) → Option (ℕ × ℕ)
first_refused [] = None
first_refused (Bus seat ∷ assignments) = first_refused assignments
first_refused (Node assignment ∷ assignments) = refused_or assignment.node assignment.refused (first_refused assignments)

-- ---- the work

-- the assignment of the same node, whose gate was asked until it refused a pass, or refused none
pub record IsWorked (before after : AssignmentParts) : Type 0 where
  pub node : after.node ≡ before.node
  pub gate : CountsRefusal before.refusals after.refused after.refusals after.refused_at

-- what the work makes of an assignment
abbrev pub IsAfterWork : {L B G : Type 0} → Assignment L B G → Assignment L B G → Type 0
IsAfterWork (Bus seat) (Bus seat') = Unit {0}
IsAfterWork (Bus seat) (Node assignment) = ⊥
IsAfterWork (Node assignment) (Bus seat) = ⊥
IsAfterWork (Node assignment) (Node assignment') = IsWorked assignment assignment'

-- what the work makes of all assignments
pub record AreAfterWork {L B G : Type 0} (before after : List (Assignment L B G)) : Type 0 where
  pub len : length after ≡ length before
  pub each : (i : ℕ) (d : Assignment L B G) → i < length before → IsAfterWork (slice_index_or before i d) (slice_index_or after i d)
