-- What a node knows of the site after all that it has read: one step after another in each turn,
-- each from what it knew before the turn.
use Rattle.std.specs.Prelude.{ℕ, if◌then◌else◌, List, [], ◌∷◌, length, Option, None}
use Rattle.cany_base.specs.declared.notice.NoticeKind.{NoticeKind}
use Rattle.cany_base.specs.Nodes.{Nodes}
use Rattle.cany_base.specs.Params.{Parameters}
use Rattle.cany_base.specs.Scenario.{ScenarioParts}
use Rattle.cany_model.specs.Rules.Knowledge.{Knowledge, after_finding, knowledge_at_first}
use Rattle.cany_model.specs.Rules.Vectors.{brought, ended, met}
use Rattle.cany_base.specs.Cycles.{is_start}
use Rattle.cany_model.specs.Rules.Views.{after_ask, start_of, with_ended}

-- After it has heard who lives and learnt who failed, it hears who asks to join and to leave.
abbrev pub after_asking : Parameters → ℕ → ℕ → NoticeKind → Knowledge → Knowledge
after_asking p i slot notice before = after_ask notice (after_finding p i slot notice before)

-- it meets its vector with the one that the notice brings
abbrev pub met_in : Parameters → ℕ → NoticeKind → Knowledge → Option Nodes
met_in p slot notice before = met p before.vector (brought p slot notice)

abbrev pub after_meeting : Parameters → ℕ → ℕ → NoticeKind → Knowledge → Knowledge
after_meeting p i slot notice before = record (after_asking p i slot notice before) { vector = met_in p slot notice before }

-- the vector that becomes its view in this turn
abbrev pub ended_in : Parameters → ℕ → NoticeKind → Knowledge → Option Nodes
ended_in p slot notice before = ended p slot (met_in p slot notice before)

abbrev pub after_installing : Parameters → ℕ → ℕ → NoticeKind → Knowledge → Knowledge
after_installing p i slot notice before = with_ended i slot (ended_in p slot notice before) (after_meeting p i slot notice before)

-- what it starts a cycle with, if one starts in this turn
abbrev pub start_in : Parameters → ℕ → ℕ → NoticeKind → Knowledge → Option Nodes
start_in p i slot notice before = if is_start p slot then start_of i (after_installing p i slot notice before) else None

abbrev pub after_starting : Parameters → ℕ → ℕ → NoticeKind → Knowledge → Knowledge
after_starting p i slot notice before =
    if is_start p slot
    then record (after_installing p i slot notice before) { vector = start_of i (after_installing p i slot notice before) }
    else after_installing p i slot notice before

-- after the turn
unfoldable pub after_notice : Parameters → ℕ → ℕ → NoticeKind → Knowledge → Knowledge
after_notice p i slot notice before = after_starting p i slot notice before

-- what node i knows once it has read this
unfoldable pub knowledge_of : ScenarioParts → ℕ → List NoticeKind → Knowledge
knowledge_of scenario i [] = knowledge_at_first scenario.members
knowledge_of scenario i (notice ∷ before) = after_notice scenario.params i (length before) notice (knowledge_of scenario i before)
