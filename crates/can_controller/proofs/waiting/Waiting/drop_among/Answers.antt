use Rattle.std.proofs.Common.{◌≡◌, ◌≤◌, rules, List, length, ap, arith}
use Rattle.std.specs.Prelude.{vec_capacity}
use Rattle.std.proofs.lemmas.Fn.{filter_same}
use Rattle.cany_base.specs.Frame.{FrameParts}
use Rattle.cany_model.specs.Bus.Frames.{identity_of}
use Rattle.cany_model.specs.Bus.Waiting.{without}
use Rattle.can_controller.proofs.KeptFacts.{kept-without}
use Rattle.can_controller.proofs.waiting.Waiting.drop_among.Goals as goal

-- what `retain` leaves
left : (c : goal.After-retain) → c.retain.new.self.items ≡ without (identity_of c.args.frame.now) c.self.inside.frames.items
left c = filter_same _ _ _ (λ x b f' k. search rules) _ _ c.retain.ensures.filtered

pub invariant_of-self : goal.invariant_of-self
invariant_of-self c =
    let frames : List FrameParts = c.self.inside.frames.items in
    let fewer : length (without (identity_of c.args.frame.now) frames) ≤ length frames = omega (arith, c.retain.ensures.bound, ap length (left c)) in
    rw (left c, c.retain.ensures.capacity)
    (kept-without c.self.inside.format frames c.self.inside.room (vec_capacity c.self.inside.frames) (identity_of c.args.frame.now) c.self.invariant fewer)

pub returns : goal.returns
returns c =
    rw (← c.self.view_is) (ap (λ (fs : List FrameParts). record { format = c.self.inside.format; frames = fs; room = c.self.inside.room }) (left c))
