-- The limits of scenarios, texts and reports, each with its unit.
use Rattle.std.specs.Prelude.{ℕ}
use Rattle.cany_base.specs.declared.format.Format.{Format}
use Rattle.cany_base.specs.declared.format.Format.TheVariants.{One, Two}

-- nodes of the bus, in any format
abbrev pub most_nodes : ℕ
most_nodes = 64

-- errors: the greatest counter with which a node still runs
abbrev pub greatest_error_counter : ℕ
greatest_error_counter = 127

-- scripted sends of a scenario
abbrev pub most_sends : ℕ
most_sends = 20000

-- fault rules of a scenario
abbrev pub most_rules : ℕ
most_rules = 20000

-- scripted joins of a scenario
abbrev pub most_joins : ℕ
most_joins = 1000

-- scripted leaves of a scenario
abbrev pub most_leaves : ℕ
most_leaves = 1000

-- restart entries of a scenario
abbrev pub most_restarts : ℕ
most_restarts = 64

-- restart entries of one node
abbrev pub most_restarts_of_node : ℕ
most_restarts_of_node = 15

-- notices: the greatest `lag`
abbrev pub greatest_lag : ℕ
greatest_lag = 8

-- Partial slots of an identity: the greatest `omit`
abbrev pub greatest_omit : ℕ
greatest_omit = 8

-- Lost or Partial slots of a window: the greatest `errors`
abbrev pub greatest_errors : ℕ
greatest_errors = 1000

-- slots: the greatest `bound`, `cycle`, `life`, `silence` or `confirm` that a text may give
abbrev pub greatest_given : ℕ
greatest_given = 1000000

-- slots: the greatest value that one of these may have where the text leaves it to its default
abbrev pub greatest_default : ℕ
greatest_default = 4000000

-- numbers of frames: every frame of a run has one below it, in any format
abbrev pub most_numbers : ℕ
most_numbers = 32768

-- slots: the longest run, in any format
abbrev pub most_slots : ℕ
most_slots = 400000

-- slots: the longest run in a format
abbrev pub greatest_slots : Format → ℕ
greatest_slots One = 100000
greatest_slots Two = most_slots

-- numbers of frames: the greatest that a fault rule may name in a format, which is the greatest of
-- its identifiers
abbrev pub greatest_number : Format → ℕ
greatest_number One = 65535
greatest_number Two = 32767

-- attempts: the greatest number of an attempt that a fault rule may name; a run has no more
-- attempts than slots
abbrev pub greatest_attempt : Format → ℕ
greatest_attempt format = greatest_slots format

-- bytes of a scenario text
abbrev pub most_text_bytes : ℕ
most_text_bytes = 33554432

-- bytes of a report line, its newline counted
abbrev pub most_line_bytes : ℕ
most_line_bytes = 1024
