-- Each protocol of a node stands for what the node has read, as the protocol itself names the node.
use Rattle.std.proofs.Common.{List, subst, sym}
use Rattle.cany_base.specs.declared.notice.NoticeKind.{NoticeKind}
use Rattle.cany_base.specs.Scenario.{ScenarioParts}
use Rattle.cany_edcan.specs.Edcan.{IsEdcanOf}
use Rattle.cany_model.specs.Rules.Backlog.{asked, backlog}
use Rattle.cany_relcan.specs.Relcan.{IsRelcanOf}
use Rattle.cany_totcan.specs.Totcan.{IsTotcanOf}
use Rattle.cany_node.specs.Node.{IsNodeOf, NodeParts}

module _ (scenario : ScenarioParts) (past : List NoticeKind) (v : NodeParts) (h : IsNodeOf scenario past v) where
  pub edcan_now : IsEdcanOf scenario v.edcan.node past v.edcan
  edcan_now = subst (λ n. IsEdcanOf scenario n past v.edcan) (sym h.edcan.node) h.edcan

  pub relcan_now : IsRelcanOf scenario v.relcan.node past v.relcan
  relcan_now = subst (λ n. IsRelcanOf scenario n past v.relcan) (sym h.relcan.limits.node) h.relcan

  pub totcan_now : IsTotcanOf scenario v.totcan.node past (backlog scenario v.node past) (asked scenario v.node past) v.totcan
  totcan_now = subst (λ n. IsTotcanOf scenario n past (backlog scenario v.node past) (asked scenario v.node past) v.totcan) (sym h.totcan.limits.node) h.totcan
