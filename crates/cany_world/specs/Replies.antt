-- What becomes of a step by its reply.
use Rattle.std.specs.Prelude.{Bool, true, false, MatchBool}
use Rattle.cany_model.specs.declared.reply.StepReply.{StepReply}
use Rattle.cany_model.specs.declared.reply.StepReply.TheVariants.{Done, NothingYet, Stopped}
use Rattle.cany_model.specs.Runs.Run.{is_done}
use Rattle.cany_node.specs.declared.reply.TurnReply.{TurnReply}
use Rattle.cany_node.specs.declared.reply.TurnReply.TheVariants as turn

-- the first where the step is done, the second where it is refused
abbrev pub IfDone : StepReply → Type 0 → Type 0 → Type 0
IfDone r P Q = MatchBool (is_done r) P Q

-- the answer of a node to its turn, as the reply to the step
abbrev pub step_reply : TurnReply → StepReply
step_reply (turn.Turned slot) = Done
step_reply (turn.NothingYet now) = NothingYet now
step_reply (turn.Stopped slot) = Stopped slot

-- whether the node took its turn
abbrev pub has_turned : TurnReply → Bool
has_turned (turn.Turned slot) = true
has_turned (turn.NothingYet now) = false
has_turned (turn.Stopped slot) = false
