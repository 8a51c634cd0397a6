-- Worked rows of how often the data frame of an EDCAN or RELCAN message is carried.
use Rattle.std.specs.Prelude.{◌≡◌, ℕ, ◌&&◌, List, [], ◌∷◌, filter, map, refl, reverse}
use Rattle.cany_base.specs.declared.message.Service.TheVariants.{Ed, Rel}
use Rattle.cany_base.specs.declared.rule.Verdict.TheVariants.{Clean, Lost}
use Rattle.cany_base.specs.Params.{default_parameters}
use Rattle.cany_base.specs.Scenario.{ScenarioParts}
use Rattle.cany_model.specs.Bus.Frames.{is_of}
use Rattle.cany_model.specs.Bus.Slot.{carried, is_clean}
use Rattle.cany_model.specs.Bus.State.{RunState}
use Rattle.cany_model.specs.Rules.Messages.{Message, data_id}
use Rattle.cany_laws.specs.Carried.{incarnations_of_first, times_clean}
use Rattle.cany_law_rows.proofs.RowWords.{again, row, seen_of, send, slot_rule, two, within}

-- the slots that carried the data frame of a message Clean, how often that is, and how many
-- incarnations there have been
record Times : Type 0 where
  slots : List ℕ
  clean : ℕ
  incarnations : ℕ

abbrev times_in : Message → RunState → Times
times_in m s = record {
  slots = reverse (map (λ note. note.slot) (filter (λ note. carried (is_of (data_id m)) note && is_clean note.verdict) s.trace));
  clean = times_clean (data_id m) s.trace;
  incarnations = incarnations_of_first s 2;
}

-- In a run without restarts as often as there are nodes, which are as many incarnations: the row
-- `WaitRows.carried_and_delivered_in_slot_3` has it.

-- With a restart it may be carried more often than there are nodes. Node 0 sends in slot 1, stops,
-- and starts again; the relay of node 1 is lost in slot 2 and carried in slot 3, which the new
-- incarnation of node 0 hears: it relays it too. So that the row is short, the bound has one slot,
-- which the formulas do not allow; the law does not ask for them.
unfoldable with_restart : ScenarioParts
with_restart =
    let sc = two 8 (send Ed 0 0 (1 ∷ []) ∷ []) (slot_rule 1 Clean 1 ∷ slot_rule 2 Lost 0 ∷ []) (again 1 0 ∷ []) in
    record sc { params = record (default_parameters 2 8) { bound = 1 } }

as_often_as_incarnations :
    seen_of (times_in (record { slot = 0; origin = 0; seq = 0; service = Ed; payload = 1 ∷ [] })) with_restart
    ≡ within (record { slots = 1 ∷ 3 ∷ 4 ∷ []; clean = 3; incarnations = 3 })
unfolding row with_restart incarnations_of_first
as_often_as_incarnations = refl

-- A RELCAN message as often as there are nodes: its origin stops before it has confirmed it, and
-- the other node falls back.
unfoldable unconfirmed : ScenarioParts
unconfirmed = two 14 (send Rel 0 0 (1 ∷ []) ∷ []) (slot_rule 1 Clean 1 ∷ []) []

as_often_as_nodes :
    seen_of (times_in (record { slot = 0; origin = 0; seq = 0; service = Rel; payload = 1 ∷ [] })) unconfirmed
    ≡ within (record { slots = 1 ∷ 12 ∷ []; clean = 2; incarnations = 2 })
unfolding row unconfirmed incarnations_of_first
as_often_as_nodes = refl
