-- The bytes of a payload, and a set of nodes as such bytes.
use Rattle.std.specs.Prelude.{ℕ, ◌==◌, if◌then◌else◌, List, length, Option, Some, None}
use Rattle.std.specs.Int.{Width, w32, w64, to_be_bytes, from_be_bytes}
use Rattle.cany_base.specs.declared.format.Format.{Format}
use Rattle.cany_base.specs.declared.format.Format.TheVariants.{One, Two}
use Rattle.cany_base.specs.Layout.{layout}
use Rattle.cany_base.specs.Nodes.{Nodes}

-- the width of the number that a vector's bytes make
abbrev pub vector_width : Format → Width
vector_width One = w32
vector_width Two = w64

-- the bits of the set as the bytes of the format, most significant first
abbrev pub vector_bytes : Format → Nodes → List ℕ
vector_bytes format nodes = to_be_bytes (vector_width format) nodes.bits

-- the set that so many bytes stand for
abbrev pub vector_of : Format → List ℕ → Option Nodes
vector_of format bytes =
    if length bytes == (layout format).vector then Some (record { bits = from_be_bytes (vector_width format) bytes }) else None
