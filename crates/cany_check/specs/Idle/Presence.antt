-- An incarnation of a node, as it is told, and what it did in a slot.
use Rattle.std.specs.Prelude.{◌≡◌, ℕ, Bool}
use Rattle.cany_model.specs.Bus.State.{EndedIncarnation}
use Rattle.cany_model.specs.Runs.Incarnations.{span_from}
use Rattle.cany_check.specs.declared.unused_entries.presence.Activity.{Activity}
use Rattle.cany_check.specs.declared.unused_entries.presence.Activity.TheVariants.{Ran, MadeAsks}
use Rattle.cany_check.specs.declared.unused_entries.presence.Stay.{Stay}
use Rattle.cany_check.specs.Idle.Unused.{made_asks_as, ran_as}

-- what is told is this incarnation
pub record IsStay (stay : Stay) (e : EndedIncarnation) : Type 0 where
  pub span : stay.span ≡ span_from e
  pub from : stay.from ≡ e.incarnation.from

abbrev pub did : Activity → ℕ → EndedIncarnation → Bool
did Ran slot e = ran_as slot e
did MadeAsks slot e = made_asks_as slot e
