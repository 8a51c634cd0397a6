-- The actions of eager diffusion, from what the copy of a frame calls for.
use Rattle.std.specs.Prelude.{nat_le}
use Rattle.std.proofs.Common.{◌≡◌, ℕ, ◌+◌, ◌==◌, ◌&&◌, Bool, true, false, if◌then◌else◌, not, List, [], ◌∷◌, refl}
use Rattle.cany_base.specs.declared.format.Format.{Format}
use Rattle.cany_base.specs.declared.notice.NoticeKind.{NoticeKind}
use Rattle.cany_base.specs.Frame.{FrameParts}
use Rattle.cany_diffuse.specs.declared.learnt.Learnt.TheVariants.{First, Again, Enough}
use Rattle.cany_diffuse.specs.Eager.{learnt_of}
use Rattle.cany_message.specs.Actions.{relay_actions}
use Rattle.cany_model.specs.Bus.Frames.{identity_of}
use Rattle.cany_model.specs.Bus.History.{copies, has_own}
use Rattle.cany_model.specs.Rules.Actions.{actions_of}
use Rattle.cany_model.specs.Rules.Eager.{eager_effects}
use Rattle.cany_model.specs.Rules.Effect.{Ask, Withdraw}

-- what the rule of eager diffusion calls for is what the copy of the frame does
pub eager_is : (format : Format) (omit : ℕ) (f : FrameParts) (past : List NoticeKind)
    → actions_of format (eager_effects omit f past) ≡ relay_actions format (learnt_of omit (copies (identity_of f) past) (has_own (identity_of f) past)) f
unfolding eager_effects
eager_is format omit f past = go (nat_le (omit + 1) (copies (identity_of f) past)) (copies (identity_of f) past == 1 && not (has_own (identity_of f) past))
  where
    go : (t u : Bool) → actions_of format (if t then Withdraw (identity_of f) ∷ [] else if u then Ask f ∷ [] else [])
        ≡ relay_actions format (if t then Enough (copies (identity_of f) past) else if u then First else Again (copies (identity_of f) past)) f
    go true u = refl
    go false true = refl
    go false false = refl
