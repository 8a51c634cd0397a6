-- The first part of a turn: the protocols hear the notice, one after another.
use Rattle.std.proofs.Common.{◌≡◌, ℕ, List, ◌∷◌, ◌++◌, count_by, length, refl, ap, sym, subst, ◌∙◌, arith, append_assoc}
use Rattle.std.proofs.lemmas.List.{map-append}
use Rattle.cany_base.specs.declared.actions.Action.{Action}
use Rattle.cany_base.specs.declared.notice.Notice.{Notice}
use Rattle.cany_base.specs.declared.notice.NoticeKind.{NoticeKind}
use Rattle.cany_base.specs.Scenario.{ScenarioParts}
use Rattle.cany_model.specs.Rules.Actions.{action_of, actions_of}
use Rattle.cany_model.specs.Rules.Backlog.{asked, backlog}
use Rattle.cany_model.specs.Rules.Edcan.{edcan_effects}
use Rattle.cany_model.specs.Rules.Effect.{Effect}
use Rattle.cany_model.specs.Rules.Messages.{Message, is_from}
use Rattle.cany_model.specs.Rules.Relcan.{relcan_effects}
use Rattle.cany_model.specs.Rules.Totcan.{totcan_effects}
use Rattle.cany_edcan.specs.Edcan.{EdcanParts, IsEdcanOf}
use Rattle.cany_relcan.specs.Relcan.{IsRelcanOf, RelcanParts}
use Rattle.cany_totcan.specs.Totcan.{IsTotcanOf, TotcanParts}
use Rattle.cany_node.specs.Node.{IsNodeOf, NodeParts}
use Rattle.cany_node.specs.Membership.{IsMembershipOf, MembershipParts, membership_effects}
use Rattle.cany_node.specs.Turning.{HasHeard, heard_effects}
use Rattle.cany_node.proofs.OwnNode.{totcan_now}

-- what is listed after this
pub listed_more : (scenario : ScenarioParts) (before after : List Action) (first rest : List Effect) → after ≡ before ++ actions_of scenario.params.format first
    → after ++ actions_of scenario.params.format rest ≡ before ++ actions_of scenario.params.format (first ++ rest)
listed_more scenario before after first rest more =
    ap (λ xs. xs ++ actions_of scenario.params.format rest) more
    ∙ append_assoc before (actions_of scenario.params.format first) (actions_of scenario.params.format rest)
    ∙ ap (λ xs. before ++ xs) (sym (map-append (action_of scenario.params.format) first rest))

-- TOTCAN has room as it had for the messages that it is given
pub same_room : (scenario : ScenarioParts) (i j : ℕ) (before after : List NoticeKind) (messages : List Message) (m n : ℕ) (t u : TotcanParts) → i ≡ j
    → IsTotcanOf scenario i before messages m t → IsTotcanOf scenario j after messages n u
    → (length u.backlog.given ≡ length t.backlog.given) × (u.backlog.room ≡ t.backlog.room)
same_room scenario i j before after messages m n t u same h k = (
  ap length k.backlog.given ∙ sym (ap length h.backlog.given),
  k.backlog.room ∙ ap (λ x. count_by (is_from x) scenario.sends) (sym same) ∙ sym h.backlog.room,
)

module _ (scenario : ScenarioParts) (past : List NoticeKind) (notice : Notice) (v : NodeParts) (stands : IsNodeOf scenario past v) where
  abbrev heard : List NoticeKind
  heard = notice.kind ∷ past

  abbrev messages : List Message
  messages = backlog scenario v.node past

  abbrev count : ℕ
  count = asked scenario v.node past

  pub heard_listed : (out ed rel tot membership : List Action)
      → ed ≡ out ++ actions_of scenario.params.format (edcan_effects scenario v.edcan.node heard)
      → rel ≡ ed ++ actions_of scenario.params.format (relcan_effects scenario v.relcan.node heard)
      → tot ≡ rel ++ actions_of scenario.params.format (totcan_effects scenario v.totcan.node heard)
      → membership ≡ tot ++ actions_of scenario.params.format (membership_effects scenario v.node heard)
      → membership ≡ out ++ actions_of scenario.params.format (heard_effects scenario v.node heard)
  heard_listed out ed rel tot membership one two three four =
      let a : List Effect = edcan_effects scenario v.node heard in
      let b : List Effect = relcan_effects scenario v.node heard in
      let c : List Effect = totcan_effects scenario v.node heard in
      let d : List Effect = membership_effects scenario v.node heard in
      let ed_is : ed ≡ out ++ actions_of scenario.params.format a =
      one ∙ ap (λ i. out ++ actions_of scenario.params.format (edcan_effects scenario i heard)) stands.edcan.node in
      let rel_is : rel ≡ ed ++ actions_of scenario.params.format b =
      two ∙ ap (λ i. ed ++ actions_of scenario.params.format (relcan_effects scenario i heard)) stands.relcan.limits.node in
      let tot_is : tot ≡ rel ++ actions_of scenario.params.format c =
      three ∙ ap (λ i. rel ++ actions_of scenario.params.format (totcan_effects scenario i heard)) stands.totcan.limits.node in
      four ∙ listed_more scenario rel tot c d tot_is ∙ listed_more scenario ed rel b (c ++ d) rel_is ∙ listed_more scenario out ed a (b ++ (c ++ d)) ed_is

  pub has_heard : (edcan : EdcanParts) (relcan : RelcanParts) (totcan : TotcanParts) (membership : MembershipParts)
      → IsEdcanOf scenario v.edcan.node heard edcan → IsRelcanOf scenario v.relcan.node heard relcan
      → IsTotcanOf scenario v.totcan.node heard messages count totcan → IsMembershipOf scenario v.node heard membership
      → HasHeard scenario past notice.kind (record v { edcan = edcan; relcan = relcan; totcan = totcan; membership = membership })
  has_heard edcan relcan totcan membership ed rel tot knows =
      let same = same_room scenario v.totcan.node v.totcan.node past heard messages count count v.totcan totcan refl (totcan_now scenario past v stands) tot in
      record {
        edcan = subst (λ i. IsEdcanOf scenario i heard edcan) stands.edcan.node ed;
        relcan = subst (λ i. IsRelcanOf scenario i heard relcan) stands.relcan.limits.node rel;
        totcan = subst (λ i. IsTotcanOf scenario i heard messages count totcan) stands.totcan.limits.node tot;
        membership = knows;
        agenda = stands.agenda;
        joins = stands.joins;
        leaves = stands.leaves;
        room_to_give = omega (arith, same.0, same.1, stands.room_to_give);
      }
