-- How a slot, a turn and a restart keep the incarnations of a node those of a run.
use Rattle.std.proofs.Common.{◌≡◌, ◌≢◌, ℕ, ◌+◌, ◌-◌, ◌<◌, ◌≤◌, List, [], ◌∷◌, length, get_or, map, refl, ap, sym, ◌∙◌, subst, arith}
use Rattle.std.specs.Prelude.{slice_get, slice_set, Option, Some, None}
use Rattle.std.specs.List.{AllByRecursion}
use Rattle.std.proofs.lemmas.List.{length-set, set-get_or}
use Rattle.cany_base.specs.declared.notice.Notice.{Notice}
use Rattle.cany_base.specs.declared.notice.NoticeKind.{NoticeKind}
use Rattle.cany_base.specs.declared.slot_note.SlotNote.{SlotNote}
use Rattle.cany_base.specs.Scenario.{ScenarioParts}
use Rattle.cany_model.specs.declared.span.Span.{Span}
use Rattle.cany_model.specs.Bus.History.{ended_history}
use Rattle.cany_model.specs.Bus.Restart.{ended_at, next_incarnation, restarted}
use Rattle.cany_model.specs.Bus.State.{EndedIncarnation, Incarnation, NodeState}
use Rattle.cany_model.specs.Rules.Log.{log_from}
use Rattle.cany_model.specs.Rules.Notices.{error_as_idle}
use Rattle.cany_model.specs.Rules.Turn.{scenario_for}
use Rattle.cany_model.proofs.Bus.Seen.{Numbered}
use Rattle.cany_model.proofs.Rules.ErrorFacts.{error_log}
use Rattle.can_controller.specs.Controller.{ControllerState}
use Rattle.cany_node.specs.declared.reply.TurnReply.{TurnReply}
use Rattle.cany_node.specs.declared.reply.TurnReply.TheVariants.{Turned, NothingYet, Stopped}
use Rattle.cany_node.specs.Node.{NodeParts, IsNodeOf, IsRefused, IsTurnOf}
use Rattle.cany_world.specs.Incarnations.{IncarnationsParts, HasTurned, IsBegunAs, IsLeft, IsRestarted, span_until, spans_after}
use Rattle.cany_world.specs.Kept.{IsEndedAt, IsKeptAt, IsPresentAt, IsWaitingAt, heard_of, past_of}
use Rattle.cany_world.proofs.Endings.{ended_below, ended_past, heard_restarted}
use Rattle.cany_world.proofs.InOrder.{HaveSame, IsInOrder}
use Rattle.cany_world.proofs.PlaceFacts.{got_other, got_same}

-- ---- of those that ended

-- what was read stays
ended_still : (scenario : ScenarioParts) (trace trace' : List SlotNote) (i : ℕ) (v : IncarnationsParts) (ended : List EndedIncarnation)
    → AllByRecursion (λ e. ended_history i trace' e ≡ ended_history i trace e) ended → AllByRecursion (IsEndedAt scenario trace i v) ended
    → AllByRecursion (IsEndedAt scenario trace' i v) ended
ended_still scenario trace trace' i v [] same h = tt
ended_still scenario trace trace' i v (e ∷ ended) same h = (
  record {
    it = h.0.it;
    at = h.0.at;
    from = h.0.from;
    log = h.0.log ∙ ap (log_from (scenario_for scenario e.incarnation) i) (sym same.0);
    span = h.0.span;
  },
  ended_still scenario trace trace' i v ended same.1 h.1,
)

-- the incarnations below this number are as they were
record AreSameBelow (count : ℕ) (v v' : IncarnationsParts) : Type 0 where
  nodes : (k : ℕ) → k < count → slice_get v'.nodes k ≡ slice_get v.nodes k
  spans : (k : ℕ) → k < count → slice_get v'.spans k ≡ slice_get v.spans k

ended_below_stay : (scenario : ScenarioParts) (trace : List SlotNote) (i count : ℕ) (v v' : IncarnationsParts) (ended : List EndedIncarnation) → AreSameBelow count v v'
    → AllByRecursion (λ e. e.incarnation.number < count) ended → AllByRecursion (IsEndedAt scenario trace i v) ended → AllByRecursion (IsEndedAt scenario trace i v') ended
ended_below_stay scenario trace i count v v' [] same below h = tt
ended_below_stay scenario trace i count v v' (e ∷ ended) same below h = (
  record {
    it = h.0.it;
    at = same.nodes e.incarnation.number below.0 ∙ h.0.at;
    from = h.0.from;
    log = h.0.log;
    span = same.spans e.incarnation.number below.0 ∙ h.0.span;
  },
  ended_below_stay scenario trace i count v v' ended same below.1 h.1,
)

-- ---- where no incarnation changes

pub kept_still : (scenario : ScenarioParts) (trace trace' : List SlotNote) (i : ℕ) (node node' : NodeState) (v : IncarnationsParts) → HaveSame node node'
    → past_of i trace' node' ≡ past_of i trace node → AllByRecursion (λ e. ended_history i trace' e ≡ ended_history i trace e) node.ended
    → IsKeptAt scenario trace i node v → IsKeptAt scenario trace' i node' v
kept_still scenario trace trace' i node node' v same past ends kept =
    let p : IsPresentAt scenario trace i node v = kept.present in
    record {
      whole = kept.whole;
      spans = kept.spans;
      number = kept.number ∙ ap (λ (inc : Incarnation). inc.number) (sym same.present);
      present = record {
        it = p.it;
        at = p.at;
        number = p.number;
        inc = p.inc ∙ ap (λ (inc : Incarnation). inc.number) (sym same.present);
        cycle = subst (λ (inc : Incarnation). 0 < inc.number → p.it.cycle ≡ inc.cycle) (sym same.present) p.cycle;
        stands = subst (λ read. IsNodeOf (scenario_for scenario node'.present) (map error_as_idle read) p.it) (sym past)
            (subst (λ (inc : Incarnation). IsNodeOf (scenario_for scenario inc) (heard_of i trace node) p.it) (sym same.present) p.stands);
        span = p.span;
        span_at = p.span_at;
        since = p.since ∙ ap (λ (inc : Incarnation). inc.since) (sym same.present);
      };
      ended = subst (AllByRecursion (IsEndedAt scenario trace' i v)) (sym same.ended) (ended_still scenario trace trace' i v node.ended ends kept.ended);
      waiting = kept.waiting;
    }

-- ---- a turn

module _ (scenario : ScenarioParts) (trace : List SlotNote) (i : ℕ) (node node' : NodeState) (v : IncarnationsParts) (it after : NodeParts)
    (order : IsInOrder trace node) (same : HaveSame node node') (kept : IsKeptAt scenario trace i node v) (at : slice_get v.nodes v.present ≡ Some it)
    (number : after.node ≡ it.node) (inc : after.inc ≡ it.inc) (cycle : after.cycle ≡ it.cycle)
    (stands : IsNodeOf (scenario_for scenario node.present) (heard_of i trace node') after) where
  abbrev changed : IncarnationsParts
  changed = record v { nodes = slice_set v.nodes v.present after }

  present : IsPresentAt scenario trace i node v
  present = kept.present

  turned_ended : AllByRecursion (IsEndedAt scenario trace i changed) node'.ended
  turned_ended =
      subst (AllByRecursion (IsEndedAt scenario trace i changed)) (sym same.ended)
      (ended_below_stay scenario trace i v.present v changed node.ended
      (record { nodes = λ k below. got_other v.nodes v.present k after (λ e. absurd (omega (arith, e, below))); spans = λ k below. refl })
      (subst (λ n. AllByRecursion (λ e. e.incarnation.number < n) node.ended) (sym kept.number) (ended_below node.present node.ended order.order)) kept.ended)

  turned_waiting : (k : ℕ) → v.present < k → k < length v.nodes → IsWaitingAt scenario i changed k
  turned_waiting k later within =
      let w : IsWaitingAt scenario i v k = kept.waiting k later within in
      record {
        it = w.it;
        at = got_other v.nodes v.present k after (λ e. absurd (omega (arith, e, later))) ∙ w.at;
        node = w.node;
        inc = w.inc;
        waits = w.waits;
        span = w.span;
        span_at = w.span_at;
        unset = w.unset;
      }

  it_is : present.it ≡ it
  it_is = let e : Some present.it ≡ Some it = sym present.at ∙ at in cc

  pub kept_turned : IsKeptAt scenario trace i node' changed
  kept_turned = record {
    whole = length-set v.nodes v.present after ∙ kept.whole;
    spans = kept.spans ∙ sym (length-set v.nodes v.present after);
    number = kept.number ∙ ap (λ (x : Incarnation). x.number) (sym same.present);
    present = record {
      it = after;
      at = got_same v.nodes v.present after it at;
      number = number ∙ ap (λ (x : NodeParts). x.node) (sym it_is) ∙ present.number;
      inc = inc ∙ ap (λ (x : NodeParts). x.inc) (sym it_is) ∙ present.inc ∙ ap (λ (x : Incarnation). x.number) (sym same.present);
      cycle = subst (λ (x : Incarnation). 0 < x.number → after.cycle ≡ x.cycle) (sym same.present)
          (λ later. cycle ∙ ap (λ (x : NodeParts). x.cycle) (sym it_is) ∙ present.cycle later);
      stands = subst (λ (x : Incarnation). IsNodeOf (scenario_for scenario x) (heard_of i trace node') after) (sym same.present) stands;
      span = present.span;
      span_at = present.span_at;
      since = present.since ∙ ap (λ (x : Incarnation). x.since) (sym same.present);
    };
    ended = turned_ended;
    waiting = λ k later within. turned_waiting k later (omega (arith, within, length-set v.nodes v.present after));
  }

-- ---- a restart

module _ (scenario : ScenarioParts) (trace : List SlotNote) (i slot : ℕ) (node : NodeState) (v v' : IncarnationsParts) (stopped : Option ℕ) (next : ℕ)
    (order : IsInOrder trace node) (numbered : Numbered trace) (ran : length trace ≡ slot + 1) (short : node.unread ≤ length trace)
    (kept : IsKeptAt scenario trace i node v) (more : v.present + 1 < length v.nodes) (stop_is : stopped ≡ node.stopped) (next_is : next ≡ slot + 1 - node.unread)
    (made : IsRestarted slot stopped next v v') where
  was : IsPresentAt scenario trace i node v
  was = kept.present

  waits : IsWaitingAt scenario i v (v.present + 1)
  waits = kept.waiting (v.present + 1) (omega arith) more

  begun : IsBegunAs slot waits.it made.after
  begun = made.begun waits.it waits.at

  spans_are : v'.spans ≡ spans_after slot stopped next v was.span
  spans_are = made.spans was.span was.span_at

  -- each but the next is as it was
  node_stays : (k : ℕ) → k ≢ v.present + 1 → slice_get v'.nodes k ≡ slice_get v.nodes k
  node_stays k other = ap (λ (x : List NodeParts). slice_get x k) made.nodes ∙ got_other v.nodes (v.present + 1) k made.after other

  abbrev ended_span : Span
  ended_span = span_until stopped next was.span

  span_stays : (k : ℕ) → k ≢ v.present + 1 → k ≢ v.present → slice_get v'.spans k ≡ slice_get v.spans k
  span_stays k other other' =
      ap (λ (x : List Span). slice_get x k) spans_are
      ∙ got_other (slice_set v.spans v.present ended_span) (v.present + 1) k (record { since = slot + 1; stopped = None; read = 0 }) other
      ∙ got_other v.spans v.present k ended_span other'

  span_ended : slice_get v'.spans v.present ≡ Some ended_span
  span_ended =
      ap (λ (x : List Span). slice_get x v.present) spans_are
      ∙ got_other (slice_set v.spans v.present ended_span) (v.present + 1) v.present (record { since = slot + 1; stopped = None; read = 0 }) (λ e. absurd (omega (arith, e)))
      ∙ got_same v.spans v.present ended_span was.span was.span_at

  begun_span : slice_get v'.spans (v.present + 1) ≡ Some (record { since = slot + 1; stopped = None; read = 0 })
  begun_span =
      ap (λ (x : List Span). slice_get x (v.present + 1)) spans_are
      ∙ got_same (slice_set v.spans v.present ended_span) (v.present + 1) (record { since = slot + 1; stopped = None; read = 0 }) waits.span
      (got_other v.spans v.present (v.present + 1) ended_span (λ e. absurd (omega (arith, e))) ∙ waits.span_at)

  ended_here : IsEndedAt scenario trace i v' (ended_at slot node)
  ended_here =
      let span : Some ended_span ≡ Some (record { since = node.present.since; stopped = node.stopped; read = slot + 1 - node.unread - node.present.since }) =
      rw (was.since, stop_is, next_is) refl in
      record {
        it = was.it;
        at = ap (slice_get v'.nodes) (sym kept.number) ∙ node_stays v.present (λ e. absurd (omega (arith, e))) ∙ was.at;
        from = was.stands.from;
        log = was.stands.log ∙ ap (λ n. log_from (scenario_for scenario node.present) n (heard_of i trace node)) was.number
            ∙ error_log (scenario_for scenario node.present) i (past_of i trace node)
            ∙ ap (log_from (scenario_for scenario node.present) i) (sym (ended_past i slot trace node ran short));
        span = ap (slice_get v'.spans) (sym kept.number) ∙ span_ended ∙ span;
      }

  ended_all : AllByRecursion (IsEndedAt scenario trace i v') (ended_at slot node ∷ node.ended)
  ended_all = (
    ended_here,
    ended_below_stay scenario trace i v.present v v' node.ended
        (record {
          nodes = λ k below. node_stays k (λ e. absurd (omega (arith, e, below)));
          spans = λ k below. span_stays k (λ e. absurd (omega (arith, e, below))) (λ e. absurd (omega (arith, e, below)));
        })
        (subst (λ n. AllByRecursion (λ e. e.incarnation.number < n) node.ended) (sym kept.number) (ended_below node.present node.ended order.order)) kept.ended,
  )

  waiting_all : (k : ℕ) → v.present + 1 < k → k < length v.nodes → IsWaitingAt scenario i v' k
  waiting_all k later within =
      let w : IsWaitingAt scenario i v k = kept.waiting k (omega (arith, later)) within in
      record {
        it = w.it;
        at = node_stays k (λ e. absurd (omega (arith, e, later))) ∙ w.at;
        node = w.node;
        inc = w.inc;
        waits = w.waits;
        span = w.span;
        span_at = span_stays k (λ e. absurd (omega (arith, e, later))) (λ e. absurd (omega (arith, e, later))) ∙ w.span_at;
        unset = w.unset;
      }

  begun_stands : IsNodeOf (scenario_for scenario (next_incarnation scenario.params slot node.present)) (heard_of i trace (restarted scenario.params slot node)) made.after
  begun_stands =
      subst (λ past. IsNodeOf (scenario_for scenario (next_incarnation scenario.params slot node.present)) past made.after)
      (sym (heard_restarted i scenario.params slot trace node numbered ran))
      (begun.stands scenario (next_incarnation scenario.params slot node.present) (omega (arith, kept.number, waits.inc)) refl waits.waits)

  length_nodes : length v'.nodes ≡ length v.nodes
  length_nodes = ap (λ (x : List NodeParts). length x) made.nodes ∙ length-set v.nodes (v.present + 1) made.after

  length_spans : length v'.spans ≡ length v.spans
  length_spans =
      ap (λ (x : List Span). length x) spans_are
      ∙ length-set (slice_set v.spans v.present ended_span) (v.present + 1) (record { since = slot + 1; stopped = None; read = 0 })
      ∙ length-set v.spans v.present ended_span

  pub kept_restarted : IsKeptAt scenario trace i (restarted scenario.params slot node) v'
  kept_restarted = record {
    whole = length_nodes ∙ kept.whole;
    spans = length_spans ∙ kept.spans ∙ sym length_nodes;
    number = omega (arith, made.present, kept.number);
    present = record {
      it = made.after;
      at = ap (λ k. slice_get v'.nodes k) made.present ∙ ap (λ (x : List NodeParts). slice_get x (v.present + 1)) made.nodes
          ∙ got_same v.nodes (v.present + 1) made.after waits.it waits.at;
      number = begun.node ∙ waits.node;
      inc = begun.inc ∙ waits.inc ∙ ap (λ n. n + 1) kept.number;
      cycle = λ later. begun.cycle scenario waits.waits;
      stands = begun_stands;
      span = record { since = slot + 1; stopped = None; read = 0 };
      span_at = ap (λ k. slice_get v'.spans k) made.present ∙ begun_span;
      since = refl;
    };
    ended = ended_all;
    waiting = λ k later within. waiting_all k (omega (arith, later, made.present)) (omega (arith, within, length_nodes));
  }

-- ---- what the calls of the incarnations leave, by its parts

pub turned_by : (scenario : ScenarioParts) (past : List NoticeKind) (notice : Notice) (it after : NodeParts) (v was : IncarnationsParts) {v' : IncarnationsParts} (ctl ctl' : ControllerState)
    → was ≡ v → v'.nodes ≡ slice_set was.nodes was.present after → v'.spans ≡ was.spans → v'.present ≡ was.present → after.node ≡ it.node → after.inc ≡ it.inc
    → after.cycle ≡ it.cycle → IsTurnOf scenario past notice it after ctl ctl' → HasTurned scenario past notice it v v' ctl ctl'
turned_by scenario past notice it after v was {v'} ctl ctl' same nodes spans present number inc cycle turn =
    subst (λ (x : IncarnationsParts). HasTurned scenario past notice it x v' ctl ctl') same
    (record { after = after; is = λ k. record { nodes = nodes k; spans = spans k; present = present k }; number = number; inc = inc; cycle = cycle; turn = turn })

-- a node that is refused its turn is left as it is
pub left_by : (reply : TurnReply) (d after : NodeParts) (v was : IncarnationsParts) {v' : IncarnationsParts} (ctl ctl' : ControllerState)
    → was ≡ v → v'.nodes ≡ slice_set was.nodes was.present after → v'.spans ≡ was.spans → v'.present ≡ was.present
    → IsRefused reply (get_or was.nodes was.present d) after ctl ctl' → IsLeft reply v v' ctl ctl'
left_by (Turned slot) _ _ _ _ _ _ _ _ _ _ _ = tt
left_by (NothingYet now) d after v was ctl ctl' same nodes spans present left =
    let kept = nodes ∙ ap (slice_set was.nodes was.present) left.0 ∙ set-get_or was.nodes was.present d in
    ((λ k. record { nodes = kept k; spans = spans k; present = present k }) ∙ same, left.1)
left_by (Stopped slot) d after v was ctl ctl' same nodes spans present left =
    let kept = nodes ∙ ap (slice_set was.nodes was.present) left.0 ∙ set-get_or was.nodes was.present d in
    ((λ k. record { nodes = kept k; spans = spans k; present = present k }) ∙ same, left.1)

pub restarted_by : (slot : ℕ) (stopped : Option ℕ) (next : ℕ) (after : NodeParts) (v was : IncarnationsParts) {v' : IncarnationsParts} → was ≡ v
    → v'.nodes ≡ slice_set was.nodes (was.present + 1) after → ((span : Span) → slice_get was.spans was.present ≡ Some span → v'.spans ≡ spans_after slot stopped next was span)
    → v'.present ≡ was.present + 1 → ((it : NodeParts) → slice_get was.nodes (was.present + 1) ≡ Some it → IsBegunAs slot it after) → IsRestarted slot stopped next v v'
restarted_by slot stopped next after v was {v'} same nodes spans present begun =
    subst (λ (x : IncarnationsParts). IsRestarted slot stopped next x v') same (record { after = after; nodes = nodes; spans = spans; present = present; begun = begun })
