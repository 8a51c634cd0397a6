-- A turn from its parts: what the protocols and the script list is done, and the node stands for
-- the notice too.
use Rattle.std.proofs.Common.{◌≡◌, ℕ, ◌+◌, ◌≤◌, List, [], ◌∷◌, ◌++◌, count_by, length, refl, ap, sym, subst, ◌∙◌, arith}
use Rattle.std.specs.List.{AllByRecursion}
use Rattle.std.proofs.lemmas.List.{length-append}
use Rattle.cany_base.specs.declared.actions.Action.{Action}
use Rattle.cany_base.specs.declared.log_entry.LogEntry.{LogEntry}
use Rattle.cany_base.specs.declared.notice.Notice.{Notice}
use Rattle.cany_base.specs.declared.notice.NoticeKind.{NoticeKind}
use Rattle.cany_base.specs.Bounded.{Bounded}
use Rattle.cany_base.specs.Limits.{most_restarts_of_node}
use Rattle.cany_base.specs.Scenario.{ScenarioParts, IsLegalScenario}
use Rattle.cany_model.specs.Rules.Actions.{actions_of}
use Rattle.cany_model.specs.Rules.Backlog.{ask_for, asked, asked_after, backlog, backlog_effects, next_after}
use Rattle.cany_model.specs.Rules.Effect.{Effect, entered}
use Rattle.cany_model.specs.Rules.Log.{log_from}
use Rattle.cany_model.specs.Rules.Notices.{IsReadable}
use Rattle.cany_model.specs.Rules.Rooms.{waiting_room}
use Rattle.cany_model.specs.Rules.Turn.{turn_effects}
use Rattle.cany_model.proofs.Among.{one_at_most}
use Rattle.cany_model.proofs.Promises.SignCounts.{turn_asks}
use Rattle.cany_model.proofs.Rules.Site.LifeCounts.{due_in}
use Rattle.can_controller.specs.Controller.{ControllerState}
use Rattle.cany_totcan.specs.Totcan.{IsTotcanOf, TotcanParts}
use Rattle.cany_node.specs.Agenda.{IsAgendaOf}
use Rattle.cany_node.specs.Apply.{AreAskable, AreDone, CanApply, NamesAskable, all_stamped, asks_sign, is_sign}
use Rattle.cany_node.specs.Asks.{AreAsksOf}
use Rattle.cany_node.specs.Node.{NodeParts, IsNodeOf, CanAct}
use Rattle.cany_node.specs.Membership.{IsNextOf}
use Rattle.cany_node.specs.Stamping.{AreStamped}
use Rattle.cany_node.specs.Turning.{CanScript, HasHeard, HasScripted, IsActed, heard_effects, plain_effects, script_effects}
use Rattle.cany_node.proofs.Askable.{turn_names}
use Rattle.cany_node.proofs.NextAction.{entered_stamped, signs_asked}
use Rattle.cany_node.proofs.RoomsSuffice.{log_within}
use Rattle.cany_node.proofs.HeardTurn.{listed_more, same_room}
use Rattle.cany_node.proofs.StampedEffects.{names_plain, signs_plain, turn_stamped}

-- what the parts of a turn leave as it was
pub record IsSame (v w : NodeParts) : Type 0 where
  pub node : w.node ≡ v.node
  pub inc : w.inc ≡ v.inc
  pub from : w.from ≡ v.from
  pub cycle : w.cycle ≡ v.cycle
  pub log : w.log ≡ v.log
  pub room : w.room ≡ v.room

pub same_after : (v u w : NodeParts) → u ≡ record v { edcan = u.edcan; relcan = u.relcan; totcan = u.totcan; membership = u.membership }
    → w ≡ record u { edcan = w.edcan; relcan = w.relcan; totcan = w.totcan; agenda = w.agenda; joins = w.joins; leaves = w.leaves } → IsSame v w
same_after v u w one two = record {
  node = ap (λ (x : NodeParts). x.node) two ∙ ap (λ (x : NodeParts). x.node) one;
  inc = ap (λ (x : NodeParts). x.inc) two ∙ ap (λ (x : NodeParts). x.inc) one;
  from = ap (λ (x : NodeParts). x.from) two ∙ ap (λ (x : NodeParts). x.from) one;
  cycle = ap (λ (x : NodeParts). x.cycle) two ∙ ap (λ (x : NodeParts). x.cycle) one;
  log = ap (λ (x : NodeParts). x.log) two ∙ ap (λ (x : NodeParts). x.log) one;
  room = ap (λ (x : NodeParts). x.room) two ∙ ap (λ (x : NodeParts). x.room) one;
}

-- the script of the slot comes next
pub can_script : (scenario : ScenarioParts) (past : List NoticeKind) (notice : Notice) (i : ℕ) (u : NodeParts) → IsNextOf scenario i past notice
    → HasHeard scenario past notice.kind u → CanScript u notice.slot
can_script scenario past notice i u next heard = record {
  scenario = scenario;
  past = past;
  notice = notice.kind;
  stands = heard;
  now = next.next.slot;
  within = next.next.within;
}

module _ (scenario : ScenarioParts) (past : List NoticeKind) (notice : Notice) (v w : NodeParts) (stands : IsNodeOf scenario past v)
    (next : IsNextOf scenario v.node past notice) (same : IsSame v w) (scripted : HasScripted scenario past notice.kind w) where
  abbrev read : List NoticeKind
  read = notice.kind ∷ past

  abbrev pub effects : List Effect
  effects = turn_effects scenario v.node (notice.kind ∷ past)

  abbrev pub plain : List Effect
  plain = plain_effects scenario v.node (notice.kind ∷ past)

  readable : IsReadable scenario (length past) notice.kind
  readable = subst (λ n. IsReadable scenario n notice.kind) next.next.slot next.next.readable

  pub one_more_read : notice.slot + 1 ≡ length (notice.kind ∷ past)
  one_more_read = omega (arith, next.next.slot)

  -- ---- what is listed

  -- the backlog after the script of the slot
  pub joined : IsTotcanOf scenario w.totcan.node (notice.kind ∷ past) (backlog scenario w.node (notice.kind ∷ past)) (asked scenario w.node past) w.totcan
  joined =
      subst (λ i. IsTotcanOf scenario i read (backlog scenario w.node read) (asked scenario w.node past) w.totcan) (sym scripted.totcan.limits.node) scripted.totcan

  next_is : actions_of scenario.params.format (ask_for (next_after scenario.params read (backlog scenario w.node read) (asked scenario w.node past)))
      ≡ actions_of scenario.params.format (backlog_effects scenario v.node read)
  unfolding backlog_effects
  next_is =
      ap (λ i. actions_of scenario.params.format (ask_for (next_after scenario.params read (backlog scenario i read) (asked scenario i past)))) same.node

  pub listed : (start heard sent asks : List Action) → start ≡ []
      → heard ≡ start ++ actions_of scenario.params.format (heard_effects scenario v.node (notice.kind ∷ past))
      → sent ≡ heard ++ actions_of scenario.params.format (script_effects scenario v.node (notice.kind ∷ past))
      → asks ≡ sent ++ actions_of scenario.params.format
      (ask_for (next_after scenario.params (notice.kind ∷ past) (backlog scenario w.node (notice.kind ∷ past)) (asked scenario w.node past)))
      → asks ≡ actions_of scenario.params.format (plain_effects scenario v.node (notice.kind ∷ past))
  listed start heard sent asks none one two three =
      three ∙ ap (λ xs. sent ++ xs) next_is
      ∙ listed_more scenario heard sent (script_effects scenario v.node read) (backlog_effects scenario v.node read) two
      ∙ listed_more scenario start heard (heard_effects scenario v.node read) (script_effects scenario v.node read ++ backlog_effects scenario v.node read) one
      ∙ ap (λ xs. xs ++ actions_of scenario.params.format plain) none

  -- ---- that it can be done

  stamped : all_stamped scenario.inc plain ≡ effects
  stamped = turn_stamped scenario v.node notice.kind past

  names : AllByRecursion (NamesAskable scenario v.node) effects
  names =
      turn_names scenario read stands.legal (readable, stands.readable) (omega (arith, next.next.slot, next.next.within)) v.node stands.membership.history.limits.place
      (omega (arith, next.few, next.next.within))

  plain_names : AllByRecursion (NamesAskable scenario v.node) plain
  plain_names = names_plain scenario v.node scenario.inc plain (subst (AllByRecursion (NamesAskable scenario v.node)) (sym stamped) names)

  -- no more than one life sign is asked for
  one_sign : count_by asks_sign plain ≤ 1
  one_sign =
      omega (
        arith,
        signs_plain scenario.inc plain,
        ap (λ es. count_by asks_sign es) stamped,
        signs_asked effects,
        turn_asks scenario v.node notice.kind past,
        one_at_most (due_in scenario v.node notice.kind past),
      )

  entered_is : entered plain ≡ entered effects
  entered_is = sym (entered_stamped scenario.inc plain) ∙ ap entered stamped

  -- the log after the turn, and that there is room for it
  logged : log_from scenario v.node past ++ entered effects ≡ log_from scenario v.node read
  unfolding log_from
  logged = refl

  room_to_enter : length w.log + length (entered plain) ≤ w.room
  room_to_enter =
      omega (
        arith,
        log_within scenario v.node read (readable, stands.readable) (omega (arith, next.next.slot, next.next.within)),
        ap length logged,
        length-append (log_from scenario v.node past) (entered effects),
        ap length entered_is,
        ap length (same.log ∙ stands.log),
        same.room,
        stands.room,
      )

  pub can_apply : (actions : List Action) (ctl : ControllerState) → actions ≡ actions_of scenario.params.format (plain_effects scenario v.node (notice.kind ∷ past))
      → w.inc ≤ most_restarts_of_node → ctl.params.format ≡ scenario.params.format → ctl.room ≡ waiting_room scenario → AreAskable scenario v.node ctl.waiting
      → AreStamped v.inc ctl.waiting → count_by is_sign ctl.waiting ≤ 2 → CanApply w.inc actions ctl (record { items = w.log; room = w.room })
  can_apply actions ctl are number format room askable tells signs = record {
    scenario = scenario;
    node = v.node;
    effects = plain;
    legal = stands.legal;
    number = number;
    format = format;
    are = are;
    names = plain_names;
    waiting = askable;
    stamped = subst (λ n. AreStamped n ctl.waiting) (sym same.inc) tells;
    signs = omega (arith, signs, one_sign);
    room = room;
    entries = room_to_enter;
  }

  -- what is listed is done
  pub done : (actions : List Action) (ctl ctl' : ControllerState) (log log' : Bounded LogEntry)
      → ((s : ScenarioParts) (i : ℕ) (es : List Effect) → IsLegalScenario s → ctl.params.format ≡ s.params.format → actions ≡ actions_of s.params.format es
      → AllByRecursion (NamesAskable s i) es → AreStamped w.inc ctl.waiting → AreDone (all_stamped w.inc es) ctl ctl' log log')
      → ctl.params.format ≡ scenario.params.format → actions ≡ actions_of scenario.params.format (plain_effects scenario v.node (notice.kind ∷ past))
      → AreStamped v.inc ctl.waiting → AreDone (turn_effects scenario v.node (notice.kind ∷ past)) ctl ctl' log log'
  done actions ctl ctl' log log' all format are tells =
      subst (λ es. AreDone es ctl ctl' log log') (ap (λ n. all_stamped n plain) (same.inc ∙ stands.inc) ∙ stamped)
      (all scenario v.node plain stands.legal format are plain_names (subst (λ n. AreStamped n ctl.waiting) (sym same.inc) tells))

  -- ---- the node after the turn

  pub stands_after : (t : TotcanParts) (log : Bounded LogEntry) → log.items ≡ w.log ++ entered (turn_effects scenario v.node (notice.kind ∷ past)) → log.room ≡ w.room
      → IsTotcanOf scenario w.totcan.node (notice.kind ∷ past) (backlog scenario w.node (notice.kind ∷ past))
      (asked_after scenario.params (notice.kind ∷ past) (backlog scenario w.node (notice.kind ∷ past)) (asked scenario w.node past)) t
      → IsNodeOf scenario (notice.kind ∷ past) (record w { totcan = t; log = log.items; room = log.room; read = notice.slot + 1 })
  unfolding asked
  stands_after t log items room asks =
      let gives = same_room scenario w.totcan.node w.totcan.node read read (backlog scenario w.node read) (asked scenario w.node past)
      (asked_after scenario.params read (backlog scenario w.node read) (asked scenario w.node past)) w.totcan t refl joined asks in
      record {
        legal = stands.legal;
        inc = same.inc ∙ stands.inc;
        from = same.from ∙ stands.from;
        log = items ∙ ap (λ l. l ++ entered effects) (same.log ∙ stands.log) ∙ logged ∙ ap (λ i. log_from scenario i read) (sym same.node);
        room = room ∙ same.room ∙ stands.room;
        read = omega (arith, next.next.slot);
        readable = (readable, stands.readable);
        edcan = scripted.edcan;
        relcan = scripted.relcan;
        totcan = subst (λ i. IsTotcanOf scenario i read (backlog scenario w.node read) (asked scenario w.node read) t) scripted.totcan.limits.node asks;
        membership = scripted.membership;
        agenda = subst (λ n. IsAgendaOf scenario w.node n w.agenda) more scripted.agenda;
        joins = subst (λ n. AreAsksOf scenario w.node n scenario.joins w.joins) more scripted.joins;
        leaves = subst (λ n. AreAsksOf scenario w.node n scenario.leaves w.leaves) more scripted.leaves;
        room_to_give = omega (arith, gives.0, gives.1, scripted.room_to_give);
      }
    where
      more : length past + 1 ≡ length read
      more = omega arith

-- ---- the turn, whatever the node has heard

-- What the rules say of the notice is listed. `w` is the node after it, but that its TOTCAN is `t`,
-- which has asked for the next message of the backlog too.
pub record IsListed (scenario : ScenarioParts) (past : List NoticeKind) (notice : Notice) (v w : NodeParts) (t : TotcanParts) (actions : List Action) : Type 0 where
  pub same : IsSame v w
  pub scripted : HasScripted scenario past notice.kind w
  pub listed : actions ≡ actions_of scenario.params.format (plain_effects scenario v.node (notice.kind ∷ past))
  pub asks : IsTotcanOf scenario w.totcan.node (notice.kind ∷ past) (backlog scenario w.node (notice.kind ∷ past))
      (asked_after scenario.params (notice.kind ∷ past) (backlog scenario w.node (notice.kind ∷ past)) (asked scenario w.node past)) t

abbrev pub AlwaysListed : Notice → NodeParts → NodeParts → TotcanParts → List Action → Type 0
AlwaysListed notice v w t actions =
    (scenario : ScenarioParts) (past : List NoticeKind) → IsNodeOf scenario past v → IsNextOf scenario v.node past notice → IsListed scenario past notice v w t actions

module _ (notice : Notice) (u v w : NodeParts) (viewed : v ≡ u) (t : TotcanParts) (actions : List Action) (ctl : ControllerState) (out : Bounded Action)
    (acts : CanAct u notice ctl out) (all : AlwaysListed notice v w t actions) where
  acts_now : CanAct v notice ctl out
  acts_now = subst (λ (x : NodeParts). CanAct x notice ctl out) (sym viewed) acts

  pub listed_apply : w.inc ≤ most_restarts_of_node → CanApply w.inc actions ctl (record { items = w.log; room = w.room })
  listed_apply number =
      let is = all acts_now.scenario acts_now.past acts_now.stands acts_now.next in
      can_apply acts_now.scenario acts_now.past notice v w acts_now.stands acts_now.next is.same is.scripted actions ctl is.listed number
      acts_now.format acts_now.room acts_now.askable acts_now.stamped acts_now.signs

  module _ (ctl' : ControllerState) (log log' : Bounded LogEntry) (items : log.items ≡ w.log) (room : log.room ≡ w.room)
      (applied : (s : ScenarioParts) (i : ℕ) (es : List Effect) → IsLegalScenario s → ctl.params.format ≡ s.params.format → actions ≡ actions_of s.params.format es
      → AllByRecursion (NamesAskable s i) es → AreStamped w.inc ctl.waiting → AreDone (all_stamped w.inc es) ctl ctl' log log') where
    abbrev after : NodeParts
    after = record w { totcan = t; log = log'.items; room = log'.room; read = notice.slot + 1 }

    turn_done : (scenario : ScenarioParts) (past : List NoticeKind) (stands : IsNodeOf scenario past v) (next : IsNextOf scenario v.node past notice)
        → AreDone (turn_effects scenario v.node (notice.kind ∷ past)) ctl ctl' log log'
    turn_done scenario past stands next =
        let is = all scenario past stands next in
        done scenario past notice v w stands next is.same is.scripted actions ctl ctl' log log' applied
        (acts_now.format ∙ sym acts_now.stands.edcan.format ∙ stands.edcan.format) is.listed acts_now.stamped

    acted_now : IsActed notice v after ctl ctl' out out
    acted_now =
        let acts = acts_now in
        let is = all acts.scenario acts.past acts.stands acts.next in
        record {
          controller = λ scenario past stands next. (turn_done scenario past stands next).controller;
          stands = λ scenario past stands next.
              let is = all scenario past stands next in
              let turn = turn_done scenario past stands next in
              stands_after scenario past notice v w stands next is.same is.scripted t log'
              (turn.entries ∙ ap (λ l. l ++ entered (turn_effects scenario v.node (notice.kind ∷ past))) items) (turn.room ∙ room) is.asks;
          node = is.same.node;
          inc = is.same.inc;
          cycle = is.same.cycle;
          out = refl;
        }

    pub listed_acted : IsActed notice u (record w { totcan = t; log = log'.items; room = log'.room; read = notice.slot + 1 }) ctl ctl' out out
    listed_acted = subst (λ (x : NodeParts). IsActed notice x after ctl ctl' out out) viewed acted_now

-- the same where the room for actions was filled and is free again
pub acted_cleared : (notice : Notice) (u w : NodeParts) (ctl ctl' : ControllerState) (out filled out' : Bounded Action) → IsActed notice u w ctl ctl' out out
    → out' ≡ record { items = []; room = filled.room } → filled.room ≡ out.room → out.items ≡ [] → IsActed notice u w ctl ctl' out out'
acted_cleared notice u w ctl ctl' out filled out' acted is room free = record {
  controller = acted.controller;
  stands = acted.stands;
  node = acted.node;
  inc = acted.inc;
  cycle = acted.cycle;
  out = is ∙ (λ j. record { items = (sym free) j; room = room j });
}
