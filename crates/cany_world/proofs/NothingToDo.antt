-- Where no running node has anything to do, nobody waits with a frame, and every notice is read.
use Rattle.std.proofs.Common.{◌≡◌, ℕ, suc, ◌==◌, ◌&&◌, ◌||◌, true, false, not, List, [], ◌∷◌, length, refl, ap, ◌∙◌}
use Rattle.std.specs.Prelude.{is_none, Option, None, Some}
use Rattle.std.specs.List.{list_all, list_any}
use Rattle.cany_base.specs.Frame.{FrameParts}
use Rattle.cany_base.specs.declared.notice.Notice.{Notice}
use Rattle.cany_model.specs.Bus.Frames.{Identity}
use Rattle.cany_model.specs.Bus.Waiting.{waits}
use Rattle.can_controller.specs.Controller.{ControllerState}
use Rattle.cany_world.specs.Controllers.{awaits, has_read}
use Rattle.cany_world.specs.Resting.{HaveNothingToDo}

none_is_named : (frames : List Identity) → list_any (λ x. waits x []) frames ≡ false
none_is_named [] = refl
none_is_named (x ∷ frames) = none_is_named frames

awaits_none : (stopped : Option ℕ) (waiting : List FrameParts) (frames : List Identity) → (stopped ≡ None → waiting ≡ [])
    → (is_none stopped && list_any (λ x. waits x waiting) frames) ≡ false
awaits_none None waiting frames nothing = ap (λ w. list_any (λ x. waits x w) frames) (nothing refl) ∙ none_is_named frames
awaits_none (Some stop) waiting frames nothing = refl

has_read_all : (stopped : Option ℕ) (unread : List Notice) → (stopped ≡ None → unread ≡ [])
    → (not (is_none stopped) || length unread == 0) ≡ true
has_read_all None unread nothing = ap (λ (u : List Notice). length u == 0) (nothing refl)
has_read_all (Some stop) unread nothing = refl

nobody_awaits : (frames : List Identity) (controllers : List ControllerState) → HaveNothingToDo controllers → list_any (awaits frames) controllers ≡ false
nobody_awaits frames [] nothing = refl
nobody_awaits frames (c ∷ controllers) nothing =
    let here : awaits frames c ≡ false = awaits_none c.stopped c.waiting frames (λ running. (nothing 0 c refl running).waiting) in
    ap (λ b. b || list_any (awaits frames) controllers) here ∙ nobody_awaits frames controllers (λ i x at. nothing (suc i) x at)

all_have_read : (controllers : List ControllerState) → HaveNothingToDo controllers → list_all has_read controllers ≡ true
all_have_read [] nothing = refl
all_have_read (c ∷ controllers) nothing =
    let here : has_read c ≡ true = has_read_all c.stopped c.unread (λ running. (nothing 0 c refl running).unread) in
    ap (λ b. b && list_all has_read controllers) here ∙ all_have_read controllers (λ i x at. nothing (suc i) x at)

pub nobody_waits_where_nothing_to_do : (frames : List Identity) (controllers : List ControllerState) → HaveNothingToDo controllers
    → (not (list_any (awaits frames) controllers) && list_all has_read controllers) ≡ true
nobody_waits_where_nothing_to_do frames controllers nothing =
    ap (λ b. not b && list_all has_read controllers) (nobody_awaits frames controllers nothing) ∙ all_have_read controllers nothing
