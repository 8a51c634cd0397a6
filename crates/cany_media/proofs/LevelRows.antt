-- Worked rows of the two lines of a bus of three nodes: what comes over a line to each node, and
-- what each node reads. A recessive level is true, a dominant one false.
use Rattle.std.specs.Prelude.{ℕ, ◌≡◌, Bool, true, false, not, if◌then◌else◌, List, [], ◌∷◌, filter, map, refl}
use Rattle.std.specs.List.{list_any, range_with_len}
use Rattle.cany_base.specs.Nodes.{has}
use Rattle.cany_model.proofs.RowWords.{set}
use Rattle.cany_media.specs.declared.line.Line.{Line}
use Rattle.cany_media.specs.declared.line.Line.TheVariants.{Whole, Down, Split}
use Rattle.cany_media.specs.Lines.{bus_level, has_whole, is_whole, level_at, level_on, reaches, some_node}

-- the three nodes, and the eight sets of them
abbrev nodes : List ℕ
nodes = 0 ∷ 1 ∷ 2 ∷ []

abbrev sets : List ℕ
sets = range_with_len 0 8

-- the nodes of this set send a dominant level, and the others a recessive one
abbrev sent_by : ℕ → ℕ → Bool
sent_by dominant i = not (has (set dominant) i)

abbrev all_three : Bool → List Bool
all_three b = b ∷ b ∷ b ∷ []

-- ---- what comes over a line

-- for each node, whether the levels of node 0, 1 and 2 come to it
abbrev hear : Line → List (List Bool)
hear line = map (λ i. map (reaches line i) nodes) nodes

all_hear_all : hear Whole ≡ all_three true ∷ all_three true ∷ all_three true ∷ []
all_hear_all = refl

-- over a line that is down a node does not even hear itself
nobody_hears : hear Down ≡ all_three false ∷ all_three false ∷ all_three false ∷ []
nobody_hears = refl

-- nodes 0 and 2 are one part, node 1 is the other
parts_hear_themselves :
    hear (Split (set 5)) ≡ (true ∷ false ∷ true ∷ []) ∷ (false ∷ true ∷ false ∷ []) ∷ (true ∷ false ∷ true ∷ []) ∷ []
unfolding has
parts_hear_themselves = refl

-- ---- what each node reads on one line

abbrev read_on : Line → ℕ → List Bool
read_on line dominant = map (level_on line 3 (sent_by dominant)) nodes

-- one dominant level is read by all on a whole line, and by nobody on one that is down
one_is_read_by_all : map (read_on Whole) (0 ∷ 2 ∷ 7 ∷ []) ≡ all_three true ∷ all_three false ∷ all_three false ∷ []
unfolding has
one_is_read_by_all = refl

down_is_recessive : map (read_on Down) (0 ∷ 2 ∷ 7 ∷ []) ≡ all_three true ∷ all_three true ∷ all_three true ∷ []
unfolding has
down_is_recessive = refl

-- on a split line it is read in the part of its sender
one_is_read_in_its_part :
    map (read_on (Split (set 5))) (0 ∷ 1 ∷ 2 ∷ 3 ∷ [])
    ≡ all_three true ∷ (false ∷ true ∷ false ∷ []) ∷ (true ∷ false ∷ true ∷ []) ∷ all_three false ∷ []
unfolding has
one_is_read_in_its_part = refl

-- ---- the level of the bus

-- a node past the bus does not count
one_decides_the_bus : map (λ dominant. bus_level 3 (sent_by dominant)) (0 ∷ 2 ∷ 7 ∷ 8 ∷ []) ≡ true ∷ false ∷ false ∷ true ∷ []
unfolding has
one_decides_the_bus = refl

-- ---- what each node takes of two lines

abbrev read_at : Line × Line → ℕ → List Bool
read_at lines dominant = map (level_at lines 3 (sent_by dominant)) nodes

-- what one line does not bring the other may
other_line_brings_it : map (read_at (Split (set 1), Split (set 4))) (1 ∷ 2 ∷ 4 ∷ []) ≡ (false ∷ false ∷ true ∷ []) ∷ all_three false ∷ (true ∷ false ∷ false ∷ []) ∷ []
unfolding has
other_line_brings_it = refl

abbrev is_same : Bool → Bool → Bool
is_same a b = if a then b else not b

-- the sets of senders at which some node reads another level than that of the bus
abbrev misread : Line × Line → List ℕ
misread lines = filter (λ dominant. list_any (λ level. not (is_same level (bus_level 3 (sent_by dominant)))) (read_at lines dominant)) sets

-- one whole line is enough
whole_lines_are_one_bus :
    map misread ((Whole, Whole) ∷ (Down, Whole) ∷ (Whole, Split (set 5)) ∷ []) ≡ [] ∷ [] ∷ [] ∷ []
unfolding has
whole_lines_are_one_bus = refl

-- so is a line that is split by all nodes, or by nobody: nodes past the bus do not count
splits_of_all_are_one_bus :
    map misread ((Split (set 7), Down) ∷ (Down, Split (set 63)) ∷ (Split (set 56), Split (set 1)) ∷ []) ≡ [] ∷ [] ∷ [] ∷ []
unfolding has
splits_of_all_are_one_bus = refl

-- two lines of which none is whole are none
parted_lines_are_no_bus :
    map misread ((Down, Down) ∷ (Down, Split (set 1)) ∷ (Split (set 1), Split (set 1)) ∷ (Split (set 1), Split (set 4)) ∷ [])
    ≡ (1 ∷ 2 ∷ 3 ∷ 4 ∷ 5 ∷ 6 ∷ 7 ∷ []) ∷ (1 ∷ 2 ∷ 4 ∷ 6 ∷ []) ∷ (1 ∷ 2 ∷ 4 ∷ 6 ∷ []) ∷ (1 ∷ 4 ∷ []) ∷ []
unfolding has
parted_lines_are_no_bus = refl

-- ---- which lines are whole

-- of a bus of three nodes: whole, down, split by one, by all three, by more than there are, and by
-- nodes that are not there
whole_of_three :
    map (is_whole 3) (Whole ∷ Down ∷ Split (set 1) ∷ Split (set 7) ∷ Split (set 63) ∷ Split (set 56) ∷ [])
    ≡ true ∷ false ∷ false ∷ true ∷ true ∷ true ∷ []
unfolding some_node has
whole_of_three = refl

-- split by nodes 0, 1 and 2: a fourth node is parted from them
split_of_three : map (λ n. is_whole n (Split (set 7))) (1 ∷ 2 ∷ 3 ∷ 4 ∷ 64 ∷ []) ≡ true ∷ true ∷ true ∷ false ∷ false ∷ []
unfolding some_node has
split_of_three = refl

one_of_two_is_enough :
    map (has_whole 3) ((Whole, Down) ∷ (Split (set 1), Whole) ∷ (Split (set 7), Down) ∷ (Down, Down) ∷ (Split (set 1), Split (set 4)) ∷ [])
    ≡ true ∷ true ∷ true ∷ false ∷ false ∷ []
unfolding some_node has
one_of_two_is_enough = refl
