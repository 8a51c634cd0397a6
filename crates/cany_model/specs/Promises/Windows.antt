-- How many Clean frames of some classes a window of slots can carry.
use Rattle.std.specs.Prelude.{ℕ, ◌+◌, ◌*◌, ◌≤◌, ◌&&◌, Bool, List, count_by, drop, take}
use Rattle.cany_base.specs.declared.class.Class.{Class}
use Rattle.cany_base.specs.declared.class.Class.TheVariants as class
use Rattle.cany_base.specs.declared.slot_note.SlotNote.{SlotNote}
use Rattle.cany_base.specs.Params.{Parameters}
use Rattle.cany_model.specs.Bus.Frames.{same_class}
use Rattle.cany_model.specs.Bus.Slot.{carried, is_clean}

-- whether the slot carried a frame of this class Clean
abbrev pub is_clean_of : Class → SlotNote → Bool
is_clean_of c note = carried (λ f. same_class f.class c) note && is_clean note.verdict

-- any window of bound + lag consecutive slots, or fewer, has at most so many of this kind
abbrev pub HasFew : (SlotNote → Bool) → ℕ → Parameters → List SlotNote → Type 0
HasFew test most p trace = (newest : ℕ) → count_by test (take (p.bound + p.lag) (drop newest trace)) ≤ most

-- of each node, for each origin, two frames that accept
abbrev pub HasFewAccepts : Parameters → List SlotNote → Type 0
HasFewAccepts p trace = HasFew (is_clean_of class.Accept) (2 * (p.nodes * p.nodes)) p trace

-- of each node one vector more than there are nodes
abbrev pub HasFewVectors : Parameters → List SlotNote → Type 0
HasFewVectors p trace = HasFew (is_clean_of class.Rha) (p.nodes * p.nodes + p.nodes) p trace

-- of each node one life sign
abbrev pub HasFewLifeSigns : Parameters → List SlotNote → Type 0
HasFewLifeSigns p trace = HasFew (is_clean_of class.Els) p.nodes p trace

-- of each origin one data frame of TOTCAN
abbrev pub HasFewTotFrames : Parameters → List SlotNote → Type 0
HasFewTotFrames p trace = HasFew (is_clean_of class.Tot) p.nodes p trace
