-- An idle slot that is nothing to the protocols, and for which nothing is scripted, is nothing to
-- the node.
use Rattle.std.proofs.Common.{◌≡◌, ℕ, ◌+◌, List, [], ◌∷◌, ◌++◌, filter, length, map, None, refl, ap, sym, ◌∙◌, subst, arith, append-nil}
use Rattle.std.specs.List.{flat_map}
use Rattle.cany_base.specs.declared.message.NodeAsk.{NodeAsk}
use Rattle.cany_base.specs.declared.notice.NoticeKind.{NoticeKind}
use Rattle.cany_base.specs.declared.notice.NoticeKind.TheVariants.{Idle}
use Rattle.cany_base.specs.Nodes.{Nodes}
use Rattle.cany_base.specs.Scenario.{ScenarioParts}
use Rattle.cany_edcan.specs.Edcan as edcan
use Rattle.cany_edcan.specs.Edcan.{IsEdcanOf}
use Rattle.cany_model.specs.Rules.Backlog.{ask_for, asked, backlog, backlog_effects, joins_in, next_after, one_more}
use Rattle.cany_model.specs.Rules.Edcan.{edcan_effects}
use Rattle.cany_model.specs.Rules.Effect.{Effect, entered}
use Rattle.cany_model.specs.Rules.Log.{log_from}
use Rattle.cany_model.specs.Rules.Membership.{asks_in}
use Rattle.cany_model.specs.Rules.Messages.{Message}
use Rattle.cany_model.specs.Rules.Relcan.{relcan_effects}
use Rattle.cany_model.specs.Rules.Sends.{send_effects, sendable}
use Rattle.cany_model.specs.Rules.KnowledgeOf.{knowledge_of}
use Rattle.cany_model.specs.Rules.Totcan.{totcan_effects}
use Rattle.cany_model.specs.Rules.Turn.{turn_effects}
use Rattle.cany_model.specs.Rules.Views.{join_asked, leave_asked}
use Rattle.cany_relcan.specs.Relcan as relcan
use Rattle.cany_relcan.specs.Relcan.{IsRelcanOf}
use Rattle.cany_totcan.specs.Rests as totcan
use Rattle.cany_totcan.specs.Totcan.{IsTotcanOf}
use Rattle.cany_node.specs.Agenda.{AgendaParts, IsAgendaOf, IsRising, is_for, message_from, sent_asks}
use Rattle.cany_node.specs.Apply.{all_stamped}
use Rattle.cany_node.specs.Asks.{AreAsksOf, IsRisingFrom, slot_of}
use Rattle.cany_node.specs.Node.{NodeParts, IsNodeOf}
use Rattle.cany_node.specs.Resting.{Rests, MembershipRests}
use Rattle.cany_node.specs.Membership.{membership_effects}
use Rattle.cany_node.specs.Turning.{asks_plain, heard_effects, plain_effects, script_effects}
use Rattle.cany_node.proofs.AskFacts.{none_at}
use Rattle.cany_node.proofs.GiveFacts.{none_joined}
use Rattle.cany_node.proofs.SendFacts.{asks-from_slot, none_asked, none_for}
use Rattle.cany_node.proofs.Idle.MembershipRest.{both_none}
use Rattle.cany_node.proofs.StampedEffects.{turn_stamped}

-- ---- a slot for which nothing is scripted

module _ (scenario : ScenarioParts) (i slot : ℕ) (a : AgendaParts) (is : IsAgendaOf scenario i slot a) (later : IsRising (slot + 1) a.left) where
  none_left : filter (is_for slot) a.left ≡ []
  none_left = none_for slot (slot + 1) a.left (omega arith) later

  pub agenda_later : IsAgendaOf scenario i (slot + 1) a
  agenda_later = record {
    planned = is.planned;
    left = λ s late. is.left s (omega (arith, late));
    rising = later;
    few = is.few;
  }

  pub none_join : filter (joins_in i slot) (sendable scenario slot) ≡ []
  none_join = none_joined i slot (sendable scenario slot) (ap (map (message_from i)) (sym none_left) ∙ is.left slot (omega arith))

  pub none_sent : sent_asks i slot (sendable scenario slot) ≡ []
  none_sent =
      sym (asks-from_slot i slot a.left (sendable scenario slot) (is.left slot (omega arith))) ∙ none_asked i slot (slot + 1) a.left (omega arith) later

module _ (scenario : ScenarioParts) (i slot : ℕ) (asks : List NodeAsk) (plan : List ℕ) (are : AreAsksOf scenario i slot asks plan)
    (later : IsRisingFrom (slot + 1) plan) where
  pub asks_later : AreAsksOf scenario i (slot + 1) asks plan
  asks_later = record { left = λ s late. are.left s (omega (arith, late)); rising = later; few = are.few }

  pub none_of_slot : asks_in scenario i slot asks ≡ []
  none_of_slot =
      unmapped (asks_in scenario i slot asks)
      (sym (are.left slot (omega arith)) ∙ none_at slot (slot + 1) plan (omega arith) later)
    where
      unmapped : (xs : List NodeAsk) → map slot_of xs ≡ [] → xs ≡ []
      unmapped [] none = refl
      unmapped (x ∷ xs) none = cc

-- ---- the turn

-- in the next slot, if it is idle, no part of the node but EDCAN and RELCAN has anything to do
pub record OthersRest (scenario : ScenarioParts) (past : List NoticeKind) (v : NodeParts) : Type 0 where
  pub totcan : totcan.Rests scenario v.totcan.node past (backlog scenario v.node past) (asked scenario v.node past) v.totcan
  pub membership : MembershipRests scenario v.node past v.membership
  pub sends : IsRising (length past + 1) v.agenda.left
  pub joins : IsRisingFrom (length past + 1) v.joins
  pub leaves : IsRisingFrom (length past + 1) v.leaves

module _ (scenario : ScenarioParts) (past : List NoticeKind) (v : NodeParts) (h : IsNodeOf scenario past v) where
  abbrev i : ℕ
  i = v.node

  abbrev idle : List NoticeKind
  idle = Idle ∷ past

  abbrev messages : List Message
  messages = backlog scenario i past

  abbrev count : ℕ
  count = asked scenario i past

  module _ (others : OthersRest scenario past v) where
    pub tot_rests : totcan.Rests scenario i past messages count v.totcan
    tot_rests = subst (λ n. totcan.Rests scenario n past messages count v.totcan) h.totcan.limits.node others.totcan

    -- ---- the backlog

    pub same_backlog : (e : NoticeKind) → backlog scenario v.node (e ∷ past) ≡ backlog scenario v.node past
    unfolding backlog
    same_backlog e = ap (λ ms. messages ++ ms) (none_join scenario i (length past) v.agenda h.agenda others.sends) ∙ append-nil messages

    pub none_next : next_after scenario.params idle (backlog scenario i idle) count ≡ None
    none_next = ap (λ ms. next_after scenario.params idle ms count) (same_backlog Idle) ∙ tot_rests.none

    pub same_count : asked scenario i idle ≡ count
    unfolding asked
    same_count = ap (one_more count) none_next

    pub no_next : backlog_effects scenario i idle ≡ []
    unfolding backlog_effects
    no_next = ap ask_for none_next

    -- ---- the script

    no_sends : (e : NoticeKind) → send_effects scenario i (e ∷ past) ≡ []
    unfolding send_effects
    no_sends e = none_sent scenario i (length past) v.agenda h.agenda others.sends

    no_asks : (e : NoticeKind) → asks_plain scenario i (e ∷ past) ≡ []
    no_asks e =
        let members : Nodes = (knowledge_of scenario i (e ∷ past)).members in
        let join : NodeAsk → List Effect = λ ask. join_asked scenario.params 0 i (length past) members in
        let leave : NodeAsk → List Effect = λ ask. leave_asked scenario.params 0 i (length past) members in
        both_none (flat_map join (asks_in scenario i (length past) scenario.joins)) (flat_map leave (asks_in scenario i (length past) scenario.leaves))
        (ap (flat_map join) (none_of_slot scenario i (length past) scenario.joins v.joins h.joins others.joins))
        (ap (flat_map leave) (none_of_slot scenario i (length past) scenario.leaves v.leaves h.leaves others.leaves))

    -- whatever is read in the slot
    pub no_script : (e : NoticeKind) → script_effects scenario v.node (e ∷ past) ≡ []
    no_script e = both_none (send_effects scenario i (e ∷ past)) (asks_plain scenario i (e ∷ past)) (no_sends e) (no_asks e)

    -- ---- TOTCAN

    pub still_totcan : IsTotcanOf scenario i idle (backlog scenario i idle) (asked scenario i idle) v.totcan
    still_totcan =
        subst (λ n. IsTotcanOf scenario i idle (backlog scenario i idle) n v.totcan) (sym same_count)
        (subst (λ ms. IsTotcanOf scenario i idle ms count v.totcan) (sym (same_backlog Idle)) tot_rests.stands)

    module _ (ed : edcan.Rests scenario v.edcan.node past v.edcan) (rel : relcan.Rests scenario v.relcan.node Idle past v.relcan) where
      -- ---- what is done

      no_heard : heard_effects scenario i idle ≡ []
      no_heard =
          both_none (edcan_effects scenario i idle) _ (subst (λ n. edcan_effects scenario n idle ≡ []) h.edcan.node ed.effects)
          (both_none (relcan_effects scenario i idle) _ (subst (λ n. relcan_effects scenario n idle ≡ []) h.relcan.limits.node rel.effects)
          (both_none (totcan_effects scenario i idle) (membership_effects scenario i idle) tot_rests.effects others.membership.effects))

      none_plain : plain_effects scenario i idle ≡ []
      none_plain =
          both_none (heard_effects scenario i idle) _ no_heard
          (both_none (script_effects scenario i idle) (backlog_effects scenario i idle) (no_script Idle) no_next)

      none_done : turn_effects scenario i idle ≡ []
      none_done = sym (turn_stamped scenario i Idle past) ∙ ap (all_stamped scenario.inc) none_plain

      -- ---- the node

      same_log : log_from scenario i idle ≡ log_from scenario i past
      unfolding log_from entered
      same_log = ap (λ es. log_from scenario i past ++ entered es) none_done ∙ append-nil (log_from scenario i past)

      still : IsNodeOf scenario idle (record v { read = length past + 1 })
      still = record {
        legal = h.legal;
        inc = h.inc;
        from = h.from;
        log = h.log ∙ sym same_log;
        room = h.room;
        read = one_more_read;
        readable = (tt, h.readable);
        edcan = subst (λ n. IsEdcanOf scenario n idle v.edcan) h.edcan.node ed.stands;
        relcan = subst (λ n. IsRelcanOf scenario n idle v.relcan) h.relcan.limits.node rel.stands;
        totcan = still_totcan;
        membership = others.membership.stands;
        agenda = subst (λ n. IsAgendaOf scenario i n v.agenda) one_more_read (agenda_later scenario i (length past) v.agenda h.agenda others.sends);
        joins = subst (λ n. AreAsksOf scenario i n scenario.joins v.joins) one_more_read
            (asks_later scenario i (length past) scenario.joins v.joins h.joins others.joins);
        leaves = subst (λ n. AreAsksOf scenario i n scenario.leaves v.leaves) one_more_read
            (asks_later scenario i (length past) scenario.leaves v.leaves h.leaves others.leaves);
        room_to_give = h.room_to_give;
      }
        where
          one_more_read : length past + 1 ≡ length idle
          one_more_read = omega arith

      pub node_rests : Rests scenario past v
      node_rests = record { stands = still; effects = none_done }
