-- Nodes by number, and notes by age.
use Rattle.std.specs.Prelude.{◌≡◌, ℕ, zero, suc, ◌+◌, ◌<◌, ◌≤◌, ◌≢◌, true, List, [], ◌∷◌, ◌++◌, None, length, slice_index_or, slice_set, refl}
use Rattle.std.specs.List.{AllByRecursion}
use Rattle.std.proofs.Common.{sym, ap, ◌∙◌, inl, inr, arith, add-zero}
use Rattle.std.proofs.lemmas.Bool.{false≢true, cases_lt}
use Rattle.std.proofs.lemmas.List.{get_or-set_same, get_or-set_other, get_or_past, get_or-replicate}
use Rattle.cany_base.specs.declared.rule.Verdict.TheVariants.{Clean}
use Rattle.cany_base.specs.declared.slot_note.SlotNote.{SlotNote}
use Rattle.cany_model.specs.Bus.Slot.{node_after, nodes_after}
use Rattle.cany_base.specs.Nodes.{nobody}
use Rattle.cany_model.specs.Bus.State.{NodeState, fresh, absent, opening, node_at, runs}

-- what stands past the last note
abbrev pub no_note : SlotNote
no_note = record { slot = 0; frame = None; senders = nobody; takers = nobody; verdict = Clean; stops = nobody }

-- the note at an age: 0 is the age of the newest slot
abbrev pub note_at : List SlotNote → ℕ → SlotNote
note_at trace age = slice_index_or trace age no_note

-- what holds of each note of the newer slots holds of the notes at their ages
pub each_in_front : (P : SlotNote → Type 0) (xs ys : List SlotNote) (age : ℕ) → AllByRecursion P xs → age < length xs → P (note_at (xs ++ ys) age)
each_in_front P [] ys age h below = absurd (omega (arith, below))
each_in_front P (x ∷ xs) ys zero h below = h.0
each_in_front P (x ∷ xs) ys (suc age) h below = each_in_front P xs ys age h.1 (omega (arith, below))

pub node_at_past : (nodes : List NodeState) (i : ℕ) → length nodes ≤ i → node_at nodes i ≡ absent
unfolding node_at
node_at_past nodes i h = get_or_past nodes i absent h

pub runs_within : (nodes : List NodeState) (i : ℕ) → runs (node_at nodes i) ≡ true → i < length nodes
runs_within nodes i h =
    elim (cases_lt i (length nodes)) [
      | inl below ↦ below
      | inr past ↦ absurd (false≢true (sym (ap (λ node. runs node) (node_at_past nodes i past)) ∙ h))
    ]

pub node_at-set_same : (nodes : List NodeState) (i : ℕ) (node : NodeState) → i < length nodes → node_at (slice_set nodes i node) i ≡ node
unfolding node_at
node_at-set_same nodes i node h = get_or-set_same nodes i node absent h

pub node_at-set_other : (nodes : List NodeState) (i j : ℕ) (node : NodeState) → j ≢ i → node_at (slice_set nodes i node) j ≡ node_at nodes j
unfolding node_at
node_at-set_other nodes i j node h = get_or-set_other nodes i j node absent h

pub node_at-opening : (nodes i : ℕ) → i < nodes → node_at (opening nodes).nodes i ≡ fresh
unfolding node_at
node_at-opening nodes i h = get_or-replicate nodes i fresh absent h

pub length-nodes_after : (k : ℕ) (note : SlotNote) (nodes : List NodeState) → length (nodes_after k note nodes) ≡ length nodes
unfolding nodes_after
length-nodes_after k note [] = refl
length-nodes_after k note (node ∷ nodes) = ap suc (length-nodes_after (k + 1) note nodes)

pub node_at-nodes_after : (k : ℕ) (note : SlotNote) (nodes : List NodeState) (i : ℕ) → i < length nodes
    → node_at (nodes_after k note nodes) i ≡ node_after (k + i) note (node_at nodes i)
unfolding nodes_after node_at
node_at-nodes_after k note [] i h = absurd (omega arith)
node_at-nodes_after k note (node ∷ nodes) zero h = ap (λ n. node_after n note node) (sym (add-zero k))
node_at-nodes_after k note (node ∷ nodes) (suc i) h =
    let e : k + 1 + i ≡ k + suc i = omega arith in
    node_at-nodes_after (k + 1) note nodes i (omega arith) ∙ ap (λ n. node_after n note (slice_index_or nodes i absent)) e
