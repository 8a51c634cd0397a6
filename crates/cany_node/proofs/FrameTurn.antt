-- The turn of a frame of EDCAN or of RELCAN, or of none, in a slot for which nothing is due but a
-- timer of RELCAN: TOTCAN, the site, the script and the backlog have nothing to do.
use Rattle.std.proofs.Common.{◌≡◌, ℕ, List, [], ◌∷◌, ◌++◌, length, None, ap, sym, ◌∙◌, subst}
use Rattle.cany_base.specs.declared.notice.NoticeKind.{NoticeKind}
use Rattle.cany_base.specs.declared.notice.NoticeKind.TheVariants.{Idle}
use Rattle.cany_base.specs.Scenario.{ScenarioParts}
use Rattle.cany_edcan.specs.Edcan.{EdcanParts, IsEdcanOf}
use Rattle.cany_model.specs.Rules.Backlog.{ask_for, asked, asked_after, backlog, backlog_effects, next_after, one_more}
use Rattle.cany_model.specs.Rules.Totcan.{totcan_effects}
use Rattle.cany_relcan.specs.Relcan.{IsRelcanOf, RelcanParts}
use Rattle.cany_totcan.specs.Totcan.{IsTotcanOf}
use Rattle.cany_node.specs.Node.{IsNodeOf, NodeParts}
use Rattle.cany_node.specs.Membership.{membership_effects}
use Rattle.cany_node.specs.Turning.{HasScripted, script_effects}
use Rattle.cany_node.proofs.Idle.IdleTurn.{OthersRest, agenda_later, asks_later, no_script, none_next as idle_next, same_count, still_totcan, tot_rests}
use Rattle.cany_node.proofs.Idle.MembershipRest.{both_none}
use Rattle.cany_node.proofs.TellsNothingOfPlaces.{IsUnplaced, next_same, totcan_same, totcan_unheard}
use Rattle.cany_node.proofs.TellsNothingOfTheSite.{IsUnheard, site_same, site_unheard}

-- ---- the turn

module _ (scenario : ScenarioParts) (past : List NoticeKind) (e : NoticeKind) (places : IsUnplaced e) (site : IsUnheard e) (v : NodeParts)
    (stands : IsNodeOf scenario past v) (others : OthersRest scenario past v) where
  abbrev i : ℕ
  i = v.node

  abbrev idle : List NoticeKind
  idle = Idle ∷ past

  abbrev read : List NoticeKind
  read = e ∷ past

  -- ---- the script and the backlog ask for nothing

  none_next : next_after scenario.params read (backlog scenario i read) (asked scenario i past) ≡ None
  unfolding backlog
  none_next = next_same e places past scenario i (backlog scenario i idle) (asked scenario i past) (still_totcan scenario past v stands others).backlog.are_own ∙ idle_next scenario past v stands others

  backlog_none : backlog_effects scenario i read ≡ []
  unfolding backlog_effects
  backlog_none = ap ask_for none_next

  -- ---- and in this one the others do nothing

  pub later_none : totcan_effects scenario i read ++ membership_effects scenario i read ≡ []
  later_none =
      both_none (totcan_effects scenario i read) (membership_effects scenario i read)
      (totcan_same e places past scenario i ∙ (tot_rests scenario past v stands others).effects)
      (site_same scenario i past e site ∙ others.membership.effects)

  pub after_none : script_effects scenario i read ++ backlog_effects scenario i read ≡ []
  after_none = both_none (script_effects scenario i read) (backlog_effects scenario i read) (no_script scenario past v stands others e) backlog_none

  still_asked : asked_after scenario.params read (backlog scenario i read) (asked scenario i past) ≡ asked scenario i past
  still_asked = ap (one_more (asked scenario i past)) none_next

  totcan_stands : IsTotcanOf scenario i read (backlog scenario i read) (asked scenario i past) v.totcan
  unfolding backlog
  totcan_stands =
      totcan_unheard e places past scenario i (backlog scenario i idle) (asked scenario i past) v.totcan
      (subst (λ n. IsTotcanOf scenario i idle (backlog scenario i idle) n v.totcan) (same_count scenario past v stands others) (still_totcan scenario past v stands others))

  -- the backlog asks for nothing
  pub none_asked_for : IsTotcanOf scenario v.totcan.node (e ∷ past) (backlog scenario v.node (e ∷ past))
      (asked_after scenario.params (e ∷ past) (backlog scenario v.node (e ∷ past)) (asked scenario v.node past)) v.totcan
  none_asked_for =
      subst (λ n. IsTotcanOf scenario n read (backlog scenario i read) (asked_after scenario.params read (backlog scenario i read) (asked scenario i past)) v.totcan)
      (sym stands.totcan.limits.node)
      (subst (λ n. IsTotcanOf scenario i read (backlog scenario i read) n v.totcan) (sym still_asked) totcan_stands)

  -- the protocols whose frame it may be have changed
  pub scripted_with : (edcan : EdcanParts) (relcan : RelcanParts) → IsEdcanOf scenario i read edcan → IsRelcanOf scenario i read relcan
      → HasScripted scenario past e (record v { edcan = edcan; relcan = relcan })
  scripted_with edcan relcan ed rel = record {
    edcan = ed;
    relcan = rel;
    totcan = totcan_stands;
    membership = site_unheard scenario i past e site v.membership others.membership.stands;
    agenda = agenda_later scenario i (length past) v.agenda stands.agenda others.sends;
    joins = asks_later scenario i (length past) scenario.joins v.joins stands.joins others.joins;
    leaves = asks_later scenario i (length past) scenario.leaves v.leaves stands.leaves others.leaves;
    room_to_give = stands.room_to_give;
  }
