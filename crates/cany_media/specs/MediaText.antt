-- What the command `media` writes: a line for each fault of a line, and the report of the run; or
-- the line of its own refusal.
use Rattle.std.specs.Prelude.{ℕ, List, [], ◌∷◌, ◌++◌, codes, decimal}
use Rattle.std.specs.List.{flat_map}
use Rattle.cany_base.specs.declared.step.Step.{Step}
use Rattle.cany_base.specs.Scenario.{ScenarioParts}
use Rattle.cany_text.specs.Report.{report}
use Rattle.cany_text.specs.ReportLines.{line_of, set_text}
use Rattle.cany_media.specs.declared.line.Line.{Line}
use Rattle.cany_media.specs.declared.line.Line.TheVariants.{Whole, Down, Split}
use Rattle.cany_media.specs.declared.refusal.MediaRefusal.{MediaRefusal}
use Rattle.cany_media.specs.declared.refusal.MediaRefusal.TheVariants.{Overlap, TooMany}
use Rattle.cany_media.specs.Plan.{FaultParts}

-- how a line is, with the set as it was given; no word of a fault says that a line is whole
abbrev pub state_fields : Line → List (List ℕ)
state_fields Whole = codes "whole" ∷ []
state_fields Down = codes "down" ∷ []
state_fields (Split part) = codes "split" ∷ set_text part ∷ []

unfoldable pub medium_line : FaultParts → List ℕ
medium_line fault =
    line_of (codes "medium" ∷ decimal fault.line ∷ decimal fault.from ∷ decimal fault.to ∷ state_fields fault.state)

-- the lines of the faults, in their order
abbrev pub medium_lines : List FaultParts → List ℕ
medium_lines faults = flat_map medium_line faults

-- and the report of the run
abbrev pub media_text : List FaultParts → ScenarioParts → List Step → List ℕ
media_text faults scenario journal = medium_lines faults ++ report scenario journal

-- the place of the first fault that shares a slot with an earlier one, or how many rules the
-- scenario of one bus would have
unfoldable pub media_refusal_line : MediaRefusal → List ℕ
media_refusal_line (Overlap index) = line_of (codes "refused overlap" ∷ decimal index ∷ [])
media_refusal_line (TooMany rules) = line_of (codes "refused too many blind slots" ∷ decimal rules ∷ [])
