-- The words of the command `media`: the word of the command, and then a word for each fault of a
-- line, as `0:5-9:down` or
-- `1:5-9:split:0,2`.
use Rattle.std.specs.Prelude.{ℕ, ◌==◌, nat_le, nat_lt, if◌then◌else◌, List, [], ◌∷◌, Option, Some, None, option_map, option_and_then, codes, IsSome}
use Rattle.std.specs.List.{slice_split}
use Rattle.std.specs.Str.{bytes_eq}
use Rattle.cany_base.specs.Limits.{most_nodes}
use Rattle.cany_base.specs.Nodes.{Nodes, nobody, with_node}
use Rattle.cany_command.specs.Numbers.{number_of}
use Rattle.cany_media.specs.declared.line.Line.{Line}
use Rattle.cany_media.specs.declared.line.Line.TheVariants.{Down, Split}
use Rattle.cany_media.specs.Plan.{FaultParts}

-- the parts of a text between the bytes of this kind
unfoldable pub parts : ℕ → List ℕ → List (List ℕ)
parts mark text = slice_split (λ byte. byte == mark) text

abbrev pub most_slot_digits : ℕ
most_slot_digits = 6

abbrev pub most_node_digits : ℕ
most_node_digits = 2

-- ---- the parts of a fault

-- `0` or `1`
unfoldable pub line_number : List ℕ → Option ℕ
line_number word = if bytes_eq word (codes "0") then Some 0 else if bytes_eq word (codes "1") then Some 1 else None

-- the slots from one to another that is not below it
abbrev pub span_between : Option ℕ → Option ℕ → Option (ℕ × ℕ)
span_between None to = None
span_between (Some from) None = None
span_between (Some from) (Some to) = if nat_le from to then Some (from, to) else None

unfoldable pub span_of : List (List ℕ) → Option (ℕ × ℕ)
span_of [] = None
span_of (from ∷ []) = None
span_of (from ∷ to ∷ []) = span_between (number_of most_slot_digits from) (number_of most_slot_digits to)
span_of (from ∷ to ∷ other ∷ others) = None

abbrev pub if_node : ℕ → Option ℕ
if_node number = if nat_lt number most_nodes then Some number else None

-- the number of a node
unfoldable pub node_of : List ℕ → Option ℕ
node_of word = option_and_then if_node (number_of most_node_digits word)

-- the set with the nodes of these words too, where each is one of a node; one may stand there twice
unfoldable pub set_with : Nodes → List (List ℕ) → Option Nodes
set_with nodes [] = Some nodes
set_with nodes (word ∷ words) = option_and_then (λ node. set_with (with_node node nodes) words) (node_of word)

abbrev pub down_of : List ℕ → Option Line
down_of word = if bytes_eq word (codes "down") then Some Down else None

abbrev pub split_of : List ℕ → List ℕ → Option Line
split_of word nodes = if bytes_eq word (codes "split") then option_map (λ part. Split part) (set_with nobody (parts 44 nodes)) else None

-- `down`, or `split` and the nodes of a part
unfoldable pub state_of : List (List ℕ) → Option Line
state_of [] = None
state_of (word ∷ []) = down_of word
state_of (word ∷ nodes ∷ []) = split_of word nodes
state_of (word ∷ nodes ∷ other ∷ others) = None

-- ---- a fault, and all of them

abbrev pub fault_from : Option ℕ → Option (ℕ × ℕ) → Option Line → Option FaultParts
fault_from None span state = None
fault_from (Some line) None state = None
fault_from (Some line) (Some span) None = None
fault_from (Some line) (Some span) (Some state) = Some (record { line = line; from = span.0; to = span.1; state = state })

-- the line, the span and the state, with a colon between them
unfoldable pub fault_of : List (List ℕ) → Option FaultParts
fault_of [] = None
fault_of (line ∷ []) = None
fault_of (line ∷ span ∷ state) = fault_from (line_number line) (span_of (parts 45 span)) (state_of state)

abbrev pub fault_in : List ℕ → Option FaultParts
fault_in word = fault_of (parts 58 word)

abbrev pub with_fault : Option FaultParts → Option (List FaultParts) → Option (List FaultParts)
with_fault None faults = None
with_fault (Some fault) None = None
with_fault (Some fault) (Some faults) = Some (fault ∷ faults)

unfoldable pub faults_in : List (List ℕ) → Option (List FaultParts)
faults_in [] = Some []
faults_in (word ∷ words) = with_fault (fault_in word) (faults_in words)

-- the faults that the words name, where they are of the form
unfoldable pub media_faults : List (List ℕ) → Option (List FaultParts)
media_faults [] = None
media_faults (command ∷ words) = if bytes_eq command (codes "media") then faults_in words else None

abbrev pub AreMedia : List (List ℕ) → Type 0
AreMedia words = IsSome (media_faults words)
