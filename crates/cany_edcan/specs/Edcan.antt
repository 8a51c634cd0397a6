-- What an EDCAN value stands for.
use Rattle.std.specs.Prelude.{◌≡◌, ℕ, Bool, true, List, [], ◌∷◌}
use Rattle.cany_base.specs.declared.class.Class.TheVariants as class
use Rattle.cany_base.specs.declared.format.Format.{Format}
use Rattle.cany_base.specs.declared.message.Service.TheVariants as service
use Rattle.cany_base.specs.declared.notice.Notice.{Notice}
use Rattle.cany_base.specs.declared.notice.NoticeKind.{NoticeKind}
use Rattle.cany_base.specs.declared.notice.NoticeKind.TheVariants.{Idle}
use Rattle.cany_base.specs.Scenario.{ScenarioParts, IsLegalScenario}
use Rattle.cany_diffuse.specs.Eager.{EagerParts}
use Rattle.cany_message.specs.Table.{IsTableOf}
use Rattle.cany_model.specs.Rules.Edcan.{edcan_effects}
use Rattle.cany_model.specs.Rules.Notices.{IsNextNotice}

-- the node, the format of identifiers, and the copies of data frames
pub record EdcanParts : Type 0 where
  pub node : ℕ
  pub format : Format
  pub copies : EagerParts

-- the node's own transmissions are noted of all messages, for it relays those of others
abbrev pub of_all : ℕ → Bool
of_all origin = true

-- The value is that of node i after these notices, newest first: it has of each data frame the
-- copies and the node's own transmission that stand in them, and room for each message of the
-- scenario by EDCAN. Its identifiers are those of the scenario's format.
pub record IsEdcanOf (scenario : ScenarioParts) (i : ℕ) (past : List NoticeKind) (v : EdcanParts) : Type 0 where
  pub legal : IsLegalScenario scenario
  pub node : v.node ≡ i
  pub format : v.format ≡ scenario.params.format
  pub copies : IsTableOf scenario service.Ed class.Ed of_all past v.copies

-- An idle notice leads to nothing: the value as it is stands for the notices and this one too.
pub record Rests (scenario : ScenarioParts) (i : ℕ) (past : List NoticeKind) (v : EdcanParts) : Type 0 where
  pub stands : IsEdcanOf scenario i (Idle ∷ past) v
  pub effects : edcan_effects scenario i (Idle ∷ past) ≡ []

-- there are notices that the value stands for, and this one can come after them
pub record CanRead (v : EdcanParts) (notice : Notice) : Type 0 where
  pub scenario : ScenarioParts
  pub past : List NoticeKind
  pub stands : IsEdcanOf scenario v.node past v
  pub next : IsNextNotice scenario past notice
