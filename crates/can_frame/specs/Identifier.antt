-- What fits an identifier, and how identifiers and keys order frames.
use Rattle.std.specs.Prelude.{ℕ, ◌≡◌, ◌<◌, ◌^◌, ◌⊎◌}
use Rattle.cany_base.specs.declared.format.Format.{Format}
use Rattle.cany_base.specs.Frame.{FrameParts, class_number, FitsIncarnation, SameIdentity}
use Rattle.cany_base.specs.Layout.{layout}
use Rattle.cany_base.specs.Limits.{most_numbers}

-- number and node fit the fields of the format
abbrev pub FitsFormat : Format → FrameParts → Type 0
FitsFormat format f = (f.number < 2 ^ (layout format).number_width) × (f.node < 2 ^ (layout format).node_width)

-- such a number as the frames of a run have, and a node that there can be in the format
abbrev pub AreSmall : Format → (number node : ℕ) → Type 0
AreSmall format number node = (number < most_numbers) × (node < (layout format).nodes)

-- number and node of the frame are such
abbrev pub HasSmallNumbers : Format → FrameParts → Type 0
HasSmallNumbers format f = AreSmall format f.number f.node

-- number and node fit, and the class can tell the incarnation
abbrev pub FitsIdentifier : Format → FrameParts → Type 0
FitsIdentifier format f = FitsFormat format f × FitsIncarnation f.class f.inc

-- class, number, node and incarnation, which an identifier tells, are the same
abbrev pub AgreeInIdentifier : FrameParts → FrameParts → Type 0
AgreeInIdentifier a b = SameIdentity a b × (a.inc ≡ b.inc)

-- by class, then number, then node, then incarnation
abbrev pub IsOrderedBefore : FrameParts → FrameParts → Type 0
IsOrderedBefore a b =
    (class_number a.class < class_number b.class)
    ⊎ ((a.class ≡ b.class) × (a.number < b.number))
    ⊎ ((a.class ≡ b.class) × (a.number ≡ b.number) × (a.node < b.node))
    ⊎ (SameIdentity a b × (a.inc < b.inc))
