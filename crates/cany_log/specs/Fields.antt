-- The pieces that the code makes lines of.
use Rattle.std.specs.Prelude.{ℕ, ◌+◌, List, [], ◌∷◌, Option, Some, None, if◌then◌else◌, length, codes, decimal}
use Rattle.std.specs.List.{flat_map}
use Rattle.cany_base.specs.Nodes.{Nodes, is_nobody}
use Rattle.cany_log.specs.declared.text_field.TextField.{TextField}
use Rattle.cany_log.specs.declared.text_field.TextField.TheVariants.{Text, Number, Count, SignedNumber, Node, Byte, Bytes, Set, NumberIfAny, SetIfAny}
use Rattle.cany_text.specs.RefusalLines.{signed_decimal}
use Rattle.cany_text.specs.ReportLines.{byte_text, node_text, payload_text, set_text}

-- the word and the number, where there is one
abbrev pub number_if_any : List ℕ → Option ℕ → List (List ℕ)
number_if_any word None = []
number_if_any word (Some n) = word ∷ decimal n ∷ []

-- the word and the set, where it has a node
abbrev pub set_if_any : List ℕ → Nodes → List (List ℕ)
set_if_any word nodes = if is_nobody nodes then [] else word ∷ set_text nodes ∷ []

-- the fields that a piece is: one, or two or none
abbrev pub texts_of : TextField → List (List ℕ)
texts_of (Text text) = text.now ∷ []
texts_of (Number n) = decimal n ∷ []
texts_of (Count n) = decimal n ∷ []
texts_of (SignedNumber n) = signed_decimal n ∷ []
texts_of (Node node inc) = node_text node inc ∷ []
texts_of (Byte byte) = byte_text byte ∷ []
texts_of (Bytes payload) = payload_text payload ∷ []
texts_of (Set nodes) = set_text nodes ∷ []
texts_of (NumberIfAny word n) = number_if_any word.now n
texts_of (SetIfAny word nodes) = set_if_any word.now nodes

-- the fields of an incarnation that tell whether it stopped, and in which slot
abbrev pub stop_texts : Option ℕ → List (List ℕ)
stop_texts None = codes "correct" ∷ []
stop_texts (Some slot) = codes "stopped" ∷ decimal slot ∷ []

-- fields, each with a space before it
abbrev pub spaced : List (List ℕ) → List ℕ
spaced texts = flat_map (λ text. 32 ∷ text) texts

-- ---- how many bytes a field has at most

-- a number of 64 bits, which may be below zero
abbrev pub most_number_bytes : ℕ
most_number_bytes = 20

-- a number of 128 bits
abbrev pub most_count_bytes : ℕ
most_count_bytes = 39

-- a node and the number of its incarnation
abbrev pub most_node_bytes : ℕ
most_node_bytes = 6

-- a byte in hexadecimal
abbrev pub most_byte_bytes : ℕ
most_byte_bytes = 2

-- a payload of 8 bytes
abbrev pub most_payload_bytes : ℕ
most_payload_bytes = 17

-- a set of 64 nodes
abbrev pub most_set_bytes : ℕ
most_set_bytes = 181

-- and a piece, with the spaces before its fields
abbrev pub most_bytes : TextField → ℕ
most_bytes (Text text) = 1 + length text.now
most_bytes (Number n) = 1 + most_number_bytes
most_bytes (Count n) = 1 + most_count_bytes
most_bytes (SignedNumber n) = 1 + most_number_bytes
most_bytes (Node node inc) = 1 + most_node_bytes
most_bytes (Byte byte) = 1 + most_byte_bytes
most_bytes (Bytes payload) = 1 + most_payload_bytes
most_bytes (Set nodes) = 1 + most_set_bytes
most_bytes (NumberIfAny word n) = (1 + length word.now) + (1 + most_number_bytes)
most_bytes (SetIfAny word nodes) = (1 + length word.now) + (1 + most_set_bytes)

-- and pieces together
abbrev pub room_of : List TextField → ℕ
room_of [] = 0
room_of (field ∷ fields) = most_bytes field + room_of fields
