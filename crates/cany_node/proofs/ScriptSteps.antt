-- What the script asks for in a slot, from its parts: the sends, the joins and the leaves.
use Rattle.std.proofs.Common.{◌≡◌, ℕ, ◌+◌, ◌≤◌, List, ◌∷◌, ◌++◌, filter, length, ap, sym, subst, ◌∙◌}
use Rattle.std.specs.List.{flat_map}
use Rattle.cany_base.specs.declared.actions.Action.{Action}
use Rattle.cany_base.specs.declared.notice.NoticeKind.{NoticeKind}
use Rattle.cany_base.specs.Nodes.{Nodes}
use Rattle.cany_base.specs.Params.{Parameters}
use Rattle.cany_base.specs.Scenario.{ScenarioParts}
use Rattle.cany_model.specs.Rules.Actions.{actions_of}
use Rattle.cany_model.specs.Rules.Backlog.{asked, backlog, joins_in}
use Rattle.cany_model.specs.Rules.Effect.{Effect}
use Rattle.cany_model.specs.Rules.Membership.{asks_in}
use Rattle.cany_model.specs.Rules.Sends.{send_effects, sendable}
use Rattle.cany_model.specs.Rules.KnowledgeOf.{knowledge_of}
use Rattle.cany_model.specs.Rules.Views.{join_asked, leave_asked}
use Rattle.cany_totcan.specs.Totcan.{IsTotcanOf, TotcanParts}
use Rattle.cany_node.specs.Agenda.{AgendaParts, IsAgendaOf, sent_asks}
use Rattle.cany_node.specs.Asks.{AreAsksOf, asked_as, asks_of}
use Rattle.cany_node.specs.declared.asks.AskKind.TheVariants.{Join, Leave}
use Rattle.cany_node.specs.Node.{NodeParts}
use Rattle.cany_node.specs.Turning.{HasHeard, HasScripted, script_effects}
use Rattle.cany_node.proofs.HeardTurn.{listed_more}

-- the joins and the leaves of a slot, as actions
abbrev join_actions : ScenarioParts → Parameters → ℕ → ℕ → Nodes → List Action
join_actions scenario p i slot members = actions_of p.format (flat_map (λ ask. asked_as Join p 0 i slot members) (asks_in scenario i slot (asks_of Join scenario)))

abbrev leave_actions : ScenarioParts → Parameters → ℕ → ℕ → Nodes → List Action
leave_actions scenario p i slot members = actions_of p.format (flat_map (λ ask. asked_as Leave p 0 i slot members) (asks_in scenario i slot (asks_of Leave scenario)))

module _ (scenario : ScenarioParts) (past : List NoticeKind) (notice : NoticeKind) (slot : ℕ) (v : NodeParts) (heard : HasHeard scenario past notice v)
    (now : slot ≡ length past) where
  abbrev read : List NoticeKind
  read = notice ∷ past

  abbrev members : Nodes
  members = (knowledge_of scenario v.node (notice ∷ past)).members

  pub agenda_now : IsAgendaOf scenario v.node slot v.agenda
  agenda_now = subst (λ n. IsAgendaOf scenario v.node n v.agenda) (sym now) heard.agenda

  pub joins_now : AreAsksOf scenario v.membership.views.node slot (asks_of Join scenario) v.joins
  joins_now =
      subst (λ i. AreAsksOf scenario i slot scenario.joins v.joins) (sym heard.membership.views.limits.is_node)
      (subst (λ n. AreAsksOf scenario v.node n scenario.joins v.joins) (sym now) heard.joins)

  pub leaves_now : AreAsksOf scenario v.membership.views.node slot (asks_of Leave scenario) v.leaves
  leaves_now =
      subst (λ i. AreAsksOf scenario i slot scenario.leaves v.leaves) (sym heard.membership.views.limits.is_node)
      (subst (λ n. AreAsksOf scenario v.node n scenario.leaves v.leaves) (sym now) heard.leaves)

  sends_are : actions_of scenario.params.format (sent_asks v.node slot (sendable scenario slot)) ≡ actions_of scenario.params.format (send_effects scenario v.node read)
  unfolding send_effects
  sends_are = ap (λ n. actions_of scenario.params.format (sent_asks v.node n (sendable scenario n))) now

  -- what the parameters, the node, the slot and the members make is the same as of those of the
  -- scenario
  same_asks : (asks : Parameters → ℕ → ℕ → Nodes → List Action)
      → asks v.membership.views.params v.membership.views.node slot v.membership.views.members ≡ asks scenario.params v.node (length past) members
  same_asks asks =
      ap (λ p. asks p v.membership.views.node slot v.membership.views.members) heard.membership.views.limits.are_params
      ∙ ap (λ i. asks scenario.params i slot v.membership.views.members) heard.membership.views.limits.is_node
      ∙ ap (λ n. asks scenario.params v.node n v.membership.views.members) now
      ∙ ap (λ m. asks scenario.params v.node (length past) m) heard.membership.views.members

  pub script_listed : (out sent joined left : List Action)
      → sent ≡ out ++ actions_of scenario.params.format (sent_asks v.node slot (sendable scenario slot))
      → joined ≡ sent ++ actions_of v.membership.views.params.format
      (flat_map (λ ask. asked_as Join v.membership.views.params 0 v.membership.views.node slot v.membership.views.members) (asks_in scenario v.membership.views.node slot (asks_of Join scenario)))
      → left ≡ joined ++ actions_of v.membership.views.params.format
      (flat_map (λ ask. asked_as Leave v.membership.views.params 0 v.membership.views.node slot v.membership.views.members) (asks_in scenario v.membership.views.node slot (asks_of Leave scenario)))
      → left ≡ out ++ actions_of scenario.params.format (script_effects scenario v.node (notice ∷ past))
  script_listed out sent joined left one two three =
      let joins : List Effect = flat_map (λ ask. join_asked scenario.params 0 v.node (length past) members) (asks_in scenario v.node (length past) scenario.joins) in
      let leaves : List Effect = flat_map (λ ask. leave_asked scenario.params 0 v.node (length past) members) (asks_in scenario v.node (length past) scenario.leaves) in
      three ∙ ap (λ xs. joined ++ xs) (same_asks (leave_actions scenario))
      ∙ listed_more scenario sent joined joins leaves (two ∙ ap (λ xs. sent ++ xs) (same_asks (join_actions scenario)))
      ∙ listed_more scenario out sent (send_effects scenario v.node read) (joins ++ leaves) (one ∙ ap (λ xs. out ++ xs) sends_are)

  -- what has joined the backlog by now
  pub scripted_totcan : (t : TotcanParts)
      → IsTotcanOf scenario v.node (notice ∷ past) (backlog scenario v.node past ++ filter (joins_in v.node slot) (sendable scenario slot)) (asked scenario v.node past) t
      → IsTotcanOf scenario v.node (notice ∷ past) (backlog scenario v.node (notice ∷ past)) (asked scenario v.node past) t
  unfolding backlog
  scripted_totcan t h =
      subst (λ n. IsTotcanOf scenario v.node read (backlog scenario v.node past ++ filter (joins_in v.node n) (sendable scenario n)) (asked scenario v.node past) t) now h

  pub has_scripted : (t : TotcanParts) (agenda : AgendaParts) (joins leaves : List ℕ)
      → IsTotcanOf scenario v.node (notice ∷ past) (backlog scenario v.node past ++ filter (joins_in v.node slot) (sendable scenario slot)) (asked scenario v.node past) t
      → IsAgendaOf scenario v.node (slot + 1) agenda
      → AreAsksOf scenario v.membership.views.node (slot + 1) (asks_of Join scenario) joins
      → AreAsksOf scenario v.membership.views.node (slot + 1) (asks_of Leave scenario) leaves
      → length t.backlog.given + length agenda.left ≤ t.backlog.room
      → HasScripted scenario past notice (record v { totcan = t; agenda = agenda; joins = joins; leaves = leaves })
  has_scripted t agenda joins leaves tot plan joining leaving room = record {
    edcan = heard.edcan;
    relcan = heard.relcan;
    totcan = scripted_totcan t tot;
    membership = heard.membership;
    agenda = subst (λ n. IsAgendaOf scenario v.node (n + 1) agenda) now plan;
    joins = subst (λ i. AreAsksOf scenario i (length past + 1) scenario.joins joins) heard.membership.views.limits.is_node
        (subst (λ n. AreAsksOf scenario v.membership.views.node (n + 1) scenario.joins joins) now joining);
    leaves = subst (λ i. AreAsksOf scenario i (length past + 1) scenario.leaves leaves) heard.membership.views.limits.is_node
        (subst (λ n. AreAsksOf scenario v.membership.views.node (n + 1) scenario.leaves leaves) now leaving);
    room_to_give = room;
  }
