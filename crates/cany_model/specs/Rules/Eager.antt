-- Eager diffusion: a node that got a frame for the first time sends it too, until enough copies
-- were seen.
use Rattle.std.specs.Prelude.{ℕ, ◌+◌, ◌==◌, ◌&&◌, Bool, not, nat_le, if◌then◌else◌, List, [], ◌∷◌}
use Rattle.cany_base.specs.declared.notice.NoticeKind.{NoticeKind}
use Rattle.cany_base.specs.Frame.{FrameParts}
use Rattle.cany_model.specs.Rules.Effect.{Effect, Ask, Withdraw}
use Rattle.cany_model.specs.Bus.Frames.{Identity, identity_of}
use Rattle.cany_model.specs.Bus.History.{copies, has_own}

-- whether more than omit copies were read
abbrev pub has_enough : ℕ → Identity → List NoticeKind → Bool
has_enough omit x past = nat_le (omit + 1) (copies x past)

-- whether just one copy was read, of a frame that the node has not sent itself
abbrev pub is_first_copy : Identity → List NoticeKind → Bool
is_first_copy x past = copies x past == 1 && not (has_own x past)

-- At a notice by which the node got the frame: what was read is given with that notice first. With
-- more than omit copies the frame is withdrawn; else at the first copy it is asked for, unless the
-- node has sent it itself.
unfoldable pub eager_effects : ℕ → FrameParts → List NoticeKind → List Effect
eager_effects omit f past =
    if has_enough omit (identity_of f) past then Withdraw (identity_of f) ∷ []
    else if is_first_copy (identity_of f) past then Ask f ∷ []
    else []
