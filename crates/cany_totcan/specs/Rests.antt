-- What an idle notice leaves as it is.
use Rattle.std.specs.Prelude.{◌≡◌, ℕ, List, [], ◌∷◌, None}
use Rattle.cany_base.specs.declared.notice.NoticeKind.{NoticeKind}
use Rattle.cany_base.specs.declared.notice.NoticeKind.TheVariants.{Idle}
use Rattle.cany_base.specs.Scenario.{ScenarioParts}
use Rattle.cany_model.specs.Rules.Backlog.{next_after}
use Rattle.cany_model.specs.Rules.Messages.{Message}
use Rattle.cany_model.specs.Rules.Totcan.{totcan_effects}
use Rattle.cany_totcan.specs.Totcan.{IsTotcanOf, TotcanParts}

-- After one more notice, of an idle slot, it is the value as it is that stands for what was read;
-- in the turn of that notice nothing closes, nothing is delivered, and no message of the backlog is
-- asked for.
pub record Rests (scenario : ScenarioParts) (i : ℕ) (past : List NoticeKind) (messages : List Message) (count : ℕ) (v : TotcanParts) : Type 0 where
  pub stands : IsTotcanOf scenario i (Idle ∷ past) messages count v
  pub effects : totcan_effects scenario i (Idle ∷ past) ≡ []
  pub none : next_after scenario.params (Idle ∷ past) messages count ≡ None
