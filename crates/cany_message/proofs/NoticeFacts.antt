-- What a notice of a scenario says of the frame in it.
use Rattle.std.proofs.Common.{◌≡◌, ◌<◌, ◌≤◌, ℕ, List, ap, arith}
use Rattle.cany_base.specs.declared.class.Class.{Class}
use Rattle.cany_base.specs.declared.message.Service.{Service}
use Rattle.cany_base.specs.declared.message.Service.TheVariants.{Ed, Rel, Tot}
use Rattle.cany_base.specs.declared.notice.Notice.{Notice}
use Rattle.cany_base.specs.declared.notice.NoticeKind.{NoticeKind}
use Rattle.cany_base.specs.declared.notice.NoticeKind.TheVariants.{Got, Sent}
use Rattle.cany_base.specs.Frame.{FrameParts, data_class}
use Rattle.cany_base.specs.Layout.{layout}
use Rattle.cany_base.specs.Scenario.{IsLegalScenario, ScenarioParts}
use Rattle.can_frame.specs.Identifier.{HasSmallNumbers}
use Rattle.cany_model.specs.Bus.Frames.{identity_of}
use Rattle.cany_model.proofs.Rules.NumberFacts.{IsSmall, belongs_small}
use Rattle.cany_model.specs.Rules.Notices.{BelongsTo, IsDataOf, IsNextNotice, IsReadable, NamesMessage}

-- a data frame names its message
pub data_names : (scenario : ScenarioParts) (by : Service) (f : FrameParts) → IsDataOf scenario by f → NamesMessage scenario by f
data_names scenario by f d = record {
  message = d.message;
  stands = d.stands;
  sent_by = d.sent_by;
  number = ap (λ (g : FrameParts). g.number) d.frame;
  origin = ap (λ (g : FrameParts). g.node) d.frame;
}

data_from : (scenario : ScenarioParts) (slot : ℕ) (by : Service) (k : Class) (f : FrameParts) → k ≡ data_class by → BelongsTo scenario slot k f → IsDataOf scenario by f
data_from scenario slot Ed k f is belongs = rw is at belongs
data_from scenario slot Rel k f is belongs = rw is at belongs
data_from scenario slot Tot k f is belongs = rw is at belongs

-- a frame that can have been read in a slot of the run has small numbers
small_in : (scenario : ScenarioParts) (slot : ℕ) (f : FrameParts) → IsLegalScenario scenario → slot < scenario.params.slots → BelongsTo scenario slot f.class f
    → HasSmallNumbers scenario.params.format f
small_in scenario slot f legal within belongs =
    let small : IsSmall scenario (identity_of f) = belongs_small scenario slot f legal within belongs in
    let nodes : scenario.params.nodes ≤ (layout scenario.params.format).nodes = legal.in_range.nodes.1 in
    (small.number, omega (arith, small.node, nodes))

module _ (scenario : ScenarioParts) (past : List NoticeKind) (notice : Notice) (f : FrameParts) (next : IsNextNotice scenario past notice) where
  -- the frame of a notice belongs to the scenario
  pub got_belongs : notice.kind ≡ Got f → BelongsTo scenario notice.slot f.class f
  got_belongs kind = let readable : IsReadable scenario notice.slot (Got f) = rw kind at next.readable in readable

  pub sent_belongs : notice.kind ≡ Sent f → BelongsTo scenario notice.slot f.class f
  sent_belongs kind = let readable : IsReadable scenario notice.slot (Sent f) = rw kind at next.readable in readable

  -- so its numbers are small
  pub got_small : IsLegalScenario scenario → notice.kind ≡ Got f → HasSmallNumbers scenario.params.format f
  got_small legal kind = small_in scenario notice.slot f legal next.within (got_belongs kind)

  -- and a data frame of a service names its message
  pub got_names : (by : Service) → notice.kind ≡ Got f → f.class ≡ data_class by → NamesMessage scenario by f
  got_names by kind is = data_names scenario by f (data_from scenario notice.slot by f.class f is (got_belongs kind))

  pub sent_names : (by : Service) → notice.kind ≡ Sent f → f.class ≡ data_class by → NamesMessage scenario by f
  sent_names by kind is = data_names scenario by f (data_from scenario notice.slot by f.class f is (sent_belongs kind))
