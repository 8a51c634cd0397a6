-- A node before its first turn.
use Rattle.std.proofs.Common.{◌≡◌, ℕ, zero, suc, ◌+◌, ◌<◌, ◌≤◌, inl, inr, List, [], ◌∷◌, filter, length, map, nat_lt, replicate, refl, ap, sym, subst, ◌∙◌, arith}
use Rattle.std.proofs.lemmas.Bool.{cases_Bool, lt-ltb, ltb-false, ltb-true, ne_eqb}
use Rattle.std.proofs.lemmas.List.{length-replicate}
use Rattle.cany_base.specs.declared.notice.NoticeKind.{NoticeKind}
use Rattle.cany_base.specs.declared.notice.NoticeKind.TheVariants.{Idle}
use Rattle.cany_base.specs.Params.{Parameters}
use Rattle.cany_base.specs.Scenario.{ScenarioParts}
use Rattle.cany_base.specs.Nodes.{nobody}
use Rattle.cany_model.specs.Bus.State.{Incarnation}
use Rattle.cany_model.specs.Rules.Backlog.{asked, backlog}
use Rattle.cany_model.specs.Rules.Effect.{entered}
use Rattle.cany_model.specs.Rules.Log.{log_from}
use Rattle.cany_model.specs.Rules.Turn.{scenario_for}
use Rattle.cany_model.proofs.Promises.OwnSlotsAlone.{from_later, members_later}
use Rattle.cany_model.proofs.Rules.IdleBeforeTakingPart.{AreIdle, IsBegun, begun_before}
use Rattle.cany_model.proofs.Rules.MutedFacts.{turn_muted}
use Rattle.cany_model.proofs.Rules.Services.SendFacts.{sendable_late}
use Rattle.cany_edcan.specs.Edcan.{IsEdcanOf}
use Rattle.cany_edcan.proofs.EdcanFacts.{edcan_for}
use Rattle.cany_relcan.proofs.FollowedFacts.{relcan_for}
use Rattle.cany_totcan.specs.Totcan.{IsTotcanOf}
use Rattle.cany_totcan.proofs.FollowedFacts.{totcan_for}
use Rattle.cany_node.specs.Agenda.{AgendaParts, ArePassed, IsAgendaOf, IsPlanOf, IsRising, is_due, message_from}
use Rattle.cany_node.specs.Asks.{AreAsksPassed}
use Rattle.cany_node.specs.Node.{AreReadable, IsNodeOf, IsWaiting, NodeParts}
use Rattle.cany_node.specs.Membership.{MembershipParts}
use Rattle.cany_node.proofs.AgendaFacts.{rising-earlier}
use Rattle.cany_node.proofs.AskFacts.{passed_asks, whole_asks}
use Rattle.cany_node.proofs.SendFacts.{none_for}
use Rattle.cany_node.proofs.MembershipBeforeFirstTurn.{IsOutside, site_begins, site_opens}

whole_agenda : (scenario : ScenarioParts) (i : ℕ) (a : AgendaParts) → scenario.from ≡ 0 → IsPlanOf scenario i a → IsAgendaOf scenario i 0 a
whole_agenda scenario i a first plan = record {
  planned = plan.planned;
  left = λ s later. plan.left s ∙ ap (filter (is_due i s)) (sym (sendable_late scenario s (omega (arith, first))));
  rising = plan.rising;
  few = plan.few;
}

-- ---- the node of the opening

-- it waits for nothing
pub opens : (scenario : ScenarioParts) (v : NodeParts) → IsWaiting scenario v → scenario.from ≡ 0 → scenario.inc ≡ 0
    → v.inc ≡ 0 → v.from ≡ 0 → v.read ≡ 0 → IsNodeOf scenario [] v
unfolding log_from backlog asked
opens scenario v waits first original inc from read = record {
  legal = waits.legal;
  inc = inc ∙ sym original;
  from = from ∙ sym first;
  log = waits.log;
  room = waits.room;
  read = read;
  readable = tt;
  edcan = waits.edcan 0;
  relcan = waits.relcan 0;
  totcan = waits.totcan 0;
  membership = site_opens scenario v.node v.membership waits.membership;
  agenda = whole_agenda scenario v.node v.agenda first waits.agenda;
  joins = whole_asks scenario v.node scenario.joins v.joins first waits.joins;
  leaves = whole_asks scenario v.node scenario.leaves v.leaves first waits.leaves;
  room_to_give = waits.room_to_give;
}

-- ---- idle slots

-- a past of idle slots alone
pub all_idle : (past : List NoticeKind) → AreIdle past → past ≡ replicate (length past) Idle
all_idle [] h = refl
all_idle (e ∷ past) h = λ k. h.0 k ∷ all_idle past h.1 k

idle_slots : (n : ℕ) → AreIdle (replicate n Idle)
idle_slots zero = tt
idle_slots (suc n) = (refl, idle_slots n)

idle_readable : (scenario : ScenarioParts) (n : ℕ) → AreReadable scenario (replicate n Idle)
idle_readable scenario zero = tt
idle_readable scenario (suc n) = (tt, idle_readable scenario n)

-- a node that has only begun has entered nothing
pub log_muted : (scenario : ScenarioParts) (i : ℕ) (past : List NoticeKind) → IsBegun scenario past → log_from scenario i past ≡ []
unfolding log_from entered
log_muted scenario i [] begun = refl
log_muted scenario i (e ∷ past) begun =
    rw (
      log_muted scenario i past (begun_before scenario e past begun),
      turn_muted scenario i (e ∷ past) begun,
    ) refl

-- nothing has joined its backlog, and it has asked for nothing
backlog_muted : (scenario : ScenarioParts) (i : ℕ) (past : List NoticeKind) → IsBegun scenario past → backlog scenario i past ≡ []
unfolding backlog
backlog_muted scenario i [] begun = refl
backlog_muted scenario i (e ∷ past) begun =
    rw (
      backlog_muted scenario i past (begun_before scenario e past begun),
      lt-ltb (length past) scenario.from (omega (arith, begun.early)),
    ) refl

asked_muted : (scenario : ScenarioParts) (i : ℕ) (past : List NoticeKind) → IsBegun scenario past → asked scenario i past ≡ 0
unfolding asked
asked_muted scenario i [] begun = refl
asked_muted scenario i (e ∷ past) begun =
    rw (backlog_muted scenario i (e ∷ past) begun, asked_muted scenario i past (begun_before scenario e past begun)) refl

-- ---- an incarnation of a restarted node

-- none of its sends is made before its first slot, and those of that slot and later ones are still
-- to come
passed_agenda : (scenario : ScenarioParts) (i slot : ℕ) (old new : AgendaParts) → IsPlanOf scenario i old → ArePassed scenario.from old new
    → slot ≤ scenario.from → IsAgendaOf scenario i slot new
passed_agenda scenario i slot old new plan passed early = record {
  planned = ap (map (message_from i)) passed.planned ∙ plan.planned;
  left = λ s later. elim (cases_Bool (nat_lt s scenario.from)) [
    | inl before ↦
        ap (map (message_from i)) (none_for s scenario.from new.left (ltb-true s scenario.from before) rising)
        ∙ sym (rw before refl)
    | inr from ↦
        let late = ltb-false s scenario.from from in
        ap (map (message_from i)) (passed.later s late) ∙ plan.left s ∙ ap (filter (is_due i s)) (sym (sendable_late scenario s late))
  ];
  rising = rising-earlier slot scenario.from new.left early rising;
  few = omega (arith, passed.few, plan.few);
}
  where
    rising : IsRising scenario.from new.left
    rising = passed.rising plan.rising

plan_for : (scenario : ScenarioParts) (inc : Incarnation) (i : ℕ) (a : AgendaParts) → IsPlanOf scenario i a → IsPlanOf (scenario_for scenario inc) i a
plan_for scenario inc i a plan =
    record { planned = plan.planned; left = plan.left; rising = plan.rising; few = plan.few; own = plan.own }

inc_later : (scenario : ScenarioParts) (inc : Incarnation) → 0 < inc.number → (scenario_for scenario inc).inc ≡ inc.number
inc_later scenario inc later = rw (ne_eqb inc.number 0 (λ e. omega (arith, e, later))) refl

-- It takes part from this slot and this cycle on, as a node that is at first no member, and what
-- its script has of earlier slots is passed over.
pub record Begins (restart from cycle : ℕ) (membership : MembershipParts) (old new : NodeParts) : Type 0 where
  pub first : from ≡ restart + 1 + (old.params.bound + old.params.lag)
  pub outside : IsOutside old.membership membership
  pub passed : ℕ
  pub before : passed ≡ from
  pub agenda : ArePassed passed old.agenda new.agenda
  pub joins : AreAsksPassed passed old.joins new.joins
  pub leaves : AreAsksPassed passed old.leaves new.leaves
  pub state : new ≡ record old {
    from = from;
    cycle = cycle;
    read = restart + 1;
    membership = membership;
    agenda = new.agenda;
    joins = new.joins;
    leaves = new.leaves;
  }

-- it has heard nothing in the slots so far
pub begins : (scenario : ScenarioParts) (inc : Incarnation) (restart from cycle : ℕ) (membership : MembershipParts) (old new : NodeParts)
    → IsWaiting scenario old → 0 < inc.number → inc.number ≡ old.inc
    → inc.from ≡ restart + 1 + (scenario.params.bound + scenario.params.lag) → Begins restart from cycle membership old new
    → IsNodeOf (scenario_for scenario inc) (replicate (restart + 1) Idle) new
begins scenario inc restart from cycle membership old new waits later number starts does =
    subst (IsNodeOf followed past) (sym does.state) (record {
      legal = edcan.legal;
      inc = sym number ∙ sym (inc_later scenario inc later);
      from = at;
      log = waits.log ∙ sym (log_muted followed old.node past begun);
      room = waits.room;
      read = sym long;
      readable = idle_readable followed (restart + 1);
      edcan = edcan;
      relcan = relcan_for scenario inc old.node past old.relcan (waits.relcan (restart + 1));
      totcan = subst (λ ms. IsTotcanOf followed old.node past ms (asked followed old.node past) old.totcan)
          (sym (backlog_muted followed old.node past begun))
          (subst (λ n. IsTotcanOf followed old.node past [] n old.totcan) (sym (asked_muted followed old.node past begun))
          (totcan_for scenario inc old.node past [] 0 old.totcan (waits.totcan (restart + 1))));
      membership = site_begins scenario inc old.node (restart + 1) old.membership membership waits.membership does.outside edcan.legal outside begun;
      agenda = passed_agenda followed old.node (length past) old.agenda new.agenda (plan_for scenario inc old.node old.agenda waits.agenda)
          (subst (λ n. ArePassed n old.agenda new.agenda) (does.before ∙ at) does.agenda) begun.early;
      joins = passed_asks followed old.node (length past) scenario.joins old.joins new.joins waits.joins
          (subst (λ n. AreAsksPassed n old.joins new.joins) (does.before ∙ at) does.joins) begun.early;
      leaves = passed_asks followed old.node (length past) scenario.leaves old.leaves new.leaves waits.leaves
          (subst (λ n. AreAsksPassed n old.leaves new.leaves) (does.before ∙ at) does.leaves) begun.early;
      room_to_give = omega (arith, waits.room_to_give, does.agenda.few);
    })
  where
    followed : ScenarioParts
    followed = scenario_for scenario inc

    past : List NoticeKind
    past = replicate (restart + 1) Idle

    edcan : IsEdcanOf followed old.node past old.edcan
    edcan = edcan_for scenario inc old.node past old.edcan (waits.edcan (restart + 1))

    long : length past ≡ restart + 1
    long = length-replicate (restart + 1) Idle

    starts_here : restart + 1 + (old.params.bound + old.params.lag) ≡ restart + 1 + (scenario.params.bound + scenario.params.lag)
    starts_here = ap (λ (p : Parameters). restart + 1 + (p.bound + p.lag)) waits.params

    at : from ≡ followed.from
    at = does.first ∙ starts_here ∙ sym starts ∙ sym (from_later scenario inc later)

    outside : followed.members ≡ nobody
    outside = members_later scenario inc later

    begun : IsBegun followed past
    begun = record { idle = idle_slots (restart + 1); early = omega (arith, long, at, does.first); outside = λ some. outside }
