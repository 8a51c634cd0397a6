use Rattle.std.proofs.Common.{◌≡◌, ◌<◌, Option, length, ap, sym, ◌∙◌}
use Rattle.std.specs.Prelude.{slice_get, option_map}
use Rattle.cany_base.specs.Frame.{FrameParts}
use Rattle.cany_totcan.specs.declared.queue.Open.{Open}
use Rattle.cany_totcan.specs.Totcan.{TotcanParts}
use Rattle.cany_totcan.proofs.DueFacts.{each_frame_at, first_accepted, first_none, first_pending}
use Rattle.cany_totcan.proofs.totcan.Totcan.next_accepted.Goals as goal

-- the frame of the first message that is not done
abbrev pending_frame : TotcanParts → Option FrameParts
pending_frame v = option_map (λ x. x.frame) (slice_get v.queue.items v.queue.done)

abbrev frame_of : Option Open → Option FrameParts
frame_of first = option_map (λ e. e.placed.frame) first

pending_is : (v w : TotcanParts) (first is : Option Open) → w ≡ v → frame_of first ≡ pending_frame w → first ≡ is → pending_frame v ≡ frame_of is
pending_is v w first is same found was = ap pending_frame (sym same) ∙ sym found ∙ ap frame_of was

pub returns-in_err-first : goal.returns-in_err-first
returns-in_err-first c =
    c.from_residual.ensures ∙ first_none c.args.self.now (pending_is _ _ _ _ c.self.view_is c.first_open.ensures.first c.in_err-first.was)

pub is_accepted-requires-clause-own : goal.is_accepted-requires-clause-own
is_accepted-requires-clause-own c =
    each_frame_at (λ f. f.node ≡ c.args.self.now.node → f.number < length c.args.self.now.backlog.own) c.args.self.now.queue.items c.args.self.now.queue.done
    c.in_ok-first.first.placed.frame c.requires (pending_is _ _ _ _ c.self.view_is c.first_open.ensures.first c.in_ok-first.was)

pub returns-then-is_accepted : goal.returns-then-is_accepted
returns-then-is_accepted c =
    first_accepted c.args.self.now c.in_ok-first.first.placed.frame (pending_is _ _ _ _ c.self.view_is c.first_open.ensures.first c.in_ok-first.was)
    (sym c.is_accepted.ensures ∙ c.if-is_accepted.true)

pub returns-else-is_accepted : goal.returns-else-is_accepted
returns-else-is_accepted c =
    first_pending c.args.self.now c.in_ok-first.first.placed.frame (pending_is _ _ _ _ c.self.view_is c.first_open.ensures.first c.in_ok-first.was)
    (sym c.is_accepted.ensures ∙ c.if-is_accepted.false)
