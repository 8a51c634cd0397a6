-- The two lines of a bus: what comes over a line from one node to another, and what a node reads at
-- a bit. A level is true where it is recessive, so a wired AND is recessive where every level is.
use Rattle.std.specs.Prelude.{ℕ, ◌&&◌, ◌||◌, Bool, true, false, not, min, if◌then◌else◌}
use Rattle.std.specs.List.{list_all, list_any, range_with_len}
use Rattle.cany_base.specs.Limits.{most_nodes}
use Rattle.cany_base.specs.Nodes.{has}
use Rattle.cany_media.specs.declared.line.Line.{Line}
use Rattle.cany_media.specs.declared.line.Line.TheVariants.{Whole, Down, Split}

-- whether the level that node j sends comes over the line to node i: of a split line, where both
-- stand in one part
abbrev pub reaches : Line → ℕ → ℕ → Bool
reaches Whole i j = true
reaches Down i j = false
reaches (Split part) i j = if has part i then has part j else not (has part j)

-- what node i reads on a line of a bus of so many nodes: the wired AND of the levels that come to
-- it
abbrev pub level_on : Line → ℕ → (ℕ → Bool) → ℕ → Bool
level_on line nodes sent i = list_all (λ j. not (reaches line i j) || sent j) (range_with_len 0 nodes)

-- what it takes of two lines: the AND of what it reads on them
abbrev pub level_at : Line × Line → ℕ → (ℕ → Bool) → ℕ → Bool
level_at lines nodes sent i = level_on lines.0 nodes sent i && level_on lines.1 nodes sent i

-- what every node reads on one bus: the wired AND of the levels of all
abbrev pub bus_level : ℕ → (ℕ → Bool) → Bool
bus_level nodes sent = list_all sent (range_with_len 0 nodes)

-- whether some node of a bus of so many passes the test; there are no more than the most that a bus
-- can have
unfoldable pub some_node : ℕ → (ℕ → Bool) → Bool
some_node nodes test = list_any test (range_with_len 0 (min nodes most_nodes))

-- whether a line parts no two nodes of a bus of so many: one that is split by nobody, or by all of
-- them, is whole
abbrev pub is_whole : ℕ → Line → Bool
is_whole nodes Whole = true
is_whole nodes Down = false
is_whole nodes (Split part) = not (some_node nodes (has part) && some_node nodes (λ i. not (has part i)))

-- whether one of the two is whole
abbrev pub has_whole : ℕ → Line × Line → Bool
has_whole nodes lines = is_whole nodes lines.0 || is_whole nodes lines.1
