-- What is told of the incarnations of a node: their spans, their logs, since when they take part,
-- and which began at the end of a slot.
use Rattle.std.proofs.Common.{◌≡◌, ℕ, zero, suc, ◌+◌, ◌-◌, ◌<◌, ◌≤◌, ◌==◌, ◌&&◌, ◌||◌, Bool, true, false, not, nat_lt, List, [], ◌∷◌, length, refl, ap, sym, ◌∙◌, arith, inl, inr}
use Rattle.std.specs.Prelude.{slice_get, find, option_map, Some}
use Rattle.std.specs.List.{AllByRecursion, list_any}
use Rattle.std.specs.Option.{option_map_or}
use Rattle.std.proofs.lemmas.Bool.{and_from, and_parts, cases_Bool, cases_eq, cases_lt, eq-eqb, eqb-true, le-ltb, lt-ltb, ne_eqb, not_from_false}
use Rattle.std.proofs.lemmas.Option.{slice_get_within}
use Rattle.cany_base.specs.declared.log_entry.LogEntry.{LogEntry}
use Rattle.cany_base.specs.declared.slot_note.SlotNote.{SlotNote}
use Rattle.cany_base.specs.declared.step.Step.{Step}
use Rattle.cany_base.specs.Scenario.{ScenarioParts}
use Rattle.cany_model.specs.declared.span.Span.{Span}
use Rattle.cany_model.specs.Bus.History.{ended_history}
use Rattle.cany_model.specs.Runs.Incarnations.{incarnation_of, log_of, span_from, span_of}
use Rattle.cany_model.specs.Bus.Restart.{began_at}
use Rattle.cany_model.specs.Runs.Run.{run}
use Rattle.cany_model.specs.Bus.State.{EndedIncarnation, Incarnation, NodeState, RunState, node_at, reads}
use Rattle.cany_model.specs.Rules.Log.{log, log_from}
use Rattle.cany_model.specs.Rules.Turn.{scenario_for}
use Rattle.cany_model.proofs.Runs.Runs.{orderly}
use Rattle.cany_model.proofs.Bus.Seen.{ended_history-present, history-is}
use Rattle.cany_model.proofs.Bus.States.{node_at_past}
use Rattle.cany_model.proofs.Promises.OwnSlotsAlone.{from_later}
use Rattle.cany_model.proofs.Rules.ErrorFacts.{error_log}
use Rattle.can_controller.specs.Controller.{ControllerState}
use Rattle.cany_node.specs.Node.{NodeParts}
use Rattle.cany_world.specs.Incarnations.{IncarnationsParts, began_in, span_in, takes_part_since}
use Rattle.cany_world.specs.Kept.{IsEndedAt, IsKeptAs, IsKeptAt, IsPresentAt, IsWaitingAt, heard_of, past_of}
use Rattle.cany_world.proofs.Endings.{HasEnded, has_ended}
use Rattle.cany_world.proofs.InOrder.{AreInOrder, IsInOrder, first_is_original, in_order}
use Rattle.cany_world.proofs.PlaceFacts.{there}

-- ---- the present one

-- it is found first
found_present : (s : RunState) (i number : ℕ) → number ≡ (node_at s.nodes i).present.number
    → incarnation_of s i number ≡ Some (record { incarnation = (node_at s.nodes i).present; next = reads s i; stopped = (node_at s.nodes i).stopped })
unfolding incarnation_of
found_present s i number here = rw (eq-eqb (node_at s.nodes i).present.number number (sym here)) refl

-- an earlier one among those that ended
found_ended : (s : RunState) (i number : ℕ) (e : EndedIncarnation) → number < (node_at s.nodes i).present.number
    → find (λ x. x.incarnation.number == number) (node_at s.nodes i).ended ≡ Some e → incarnation_of s i number ≡ Some e
unfolding incarnation_of
found_ended s i number e below found = rw (ne_eqb (node_at s.nodes i).present.number number (λ same. absurd (omega (arith, same, below)))) found

-- the log of the present one
pub log_is : (scenario : ScenarioParts) (s : RunState) (i : ℕ) (v : IncarnationsParts) (it : NodeParts) (entries : List LogEntry) → IsKeptAt scenario s.trace i (node_at s.nodes i) v
    → slice_get v.nodes v.present ≡ Some it → entries ≡ it.log → entries ≡ log scenario s i
log_is scenario s i v it entries kept at e =
    let p : IsPresentAt scenario s.trace i (node_at s.nodes i) v = kept.present in
    let some : Some p.it ≡ Some it = sym p.at ∙ at in
    let same : p.it ≡ it = cc in
    e ∙ ap (λ (x : NodeParts). x.log) (sym same) ∙ p.stands.log
    ∙ ap (λ k. log_from (scenario_for scenario (node_at s.nodes i).present) k (heard_of i s.trace (node_at s.nodes i))) p.number
    ∙ error_log (scenario_for scenario (node_at s.nodes i).present) i (past_of i s.trace (node_at s.nodes i))
    ∙ ap (log_from (scenario_for scenario (node_at s.nodes i).present) i) (sym (history-is i s))

-- ---- by its number

-- that of the opening takes part from the start
from_start : (inc : Incarnation) (ended : List EndedIncarnation) → AreInOrder inc ended → AllByRecursion (λ e. e.incarnation.number ≡ 0 → e.incarnation.from ≡ 0) ended
unfolding AreInOrder
from_start inc [] order = tt
from_start inc (e ∷ ended) order = (
  λ first. ap (λ (x : Incarnation). x.from) (first_is_original e.incarnation ended order.1 first),
  from_start e.incarnation ended order.1,
)

module _ (scenario : ScenarioParts) (s : RunState) (i number : ℕ) (v : IncarnationsParts) (order : IsInOrder s.trace (node_at s.nodes i)) (short : (node_at s.nodes i).unread ≤ length s.trace)
    (kept : IsKeptAt scenario s.trace i (node_at s.nodes i) v) (within : number ≤ (node_at s.nodes i).present.number) where
  p : IsPresentAt scenario s.trace i (node_at s.nodes i) v
  p = kept.present

  ends : number < (node_at s.nodes i).present.number → HasEnded (IsEndedAt scenario s.trace i v) (node_at s.nodes i).ended number
  ends below = has_ended (IsEndedAt scenario s.trace i v) (node_at s.nodes i).present (node_at s.nodes i).ended number order.order kept.ended below

  pub log_of_is : (it : NodeParts) (entries : List LogEntry) → slice_get v.nodes number ≡ Some it → entries ≡ it.log → entries ≡ log_of scenario s i number
  log_of_is it entries at e = elim (cases_lt number (node_at s.nodes i).present.number) [
    | inl below ↦
        let x : HasEnded (IsEndedAt scenario s.trace i v) (node_at s.nodes i).ended number = ends below in
        let some : Some x.has.it ≡ Some it = sym x.has.at ∙ ap (slice_get v.nodes) x.is ∙ at in
        let same : x.has.it ≡ it = cc in
        e ∙ ap (λ (n : NodeParts). n.log) (sym same) ∙ x.has.log
        ∙ sym (ap (λ o. option_map_or (λ z. log_from (scenario_for scenario z.incarnation) i (ended_history i s.trace z)) o []) (found_ended s i number x.end below x.found))
    | inr past ↦
        let here : number ≡ (node_at s.nodes i).present.number = omega (arith, past, within) in
        let is : entries ≡ log scenario s i = log_is scenario s i v it entries kept (ap (slice_get v.nodes) (kept.number ∙ sym here) ∙ at) e in
        is ∙ ap (log_from (scenario_for scenario (node_at s.nodes i).present) i) (sym (ended_history-present i s short))
        ∙ sym (ap (λ o. option_map_or (λ z. log_from (scenario_for scenario z.incarnation) i (ended_history i s.trace z)) o []) (found_present s i number here))
  ]

  pub span_of_is : (c : ControllerState) (span result : Span) → IsKeptAs scenario s.trace i (node_at s.nodes i) c → slice_get v.spans number ≡ Some span → result ≡ span_in c number v span
      → Some result ≡ span_of s i number
  span_of_is c span result ctl at e = elim (cases_lt number (node_at s.nodes i).present.number) [
    | inl below ↦
        let x : HasEnded (IsEndedAt scenario s.trace i v) (node_at s.nodes i).ended number = ends below in
        let earlier : (number == v.present) ≡ false = ne_eqb number v.present (λ same. absurd (omega (arith, same, below, kept.number))) in
        let some : Some span ≡ Some (span_from x.end) = sym at ∙ ap (slice_get v.spans) (sym x.is) ∙ x.has.span in
        let is : result ≡ span = rw earlier at e in
        ap (λ r. Some r) is ∙ some ∙ sym (ap (option_map span_from) (found_ended s i number x.end below x.found))
    | inr past ↦
        let here : number ≡ (node_at s.nodes i).present.number = omega (arith, past, within) in
        let now : (number == v.present) ≡ true = eq-eqb number v.present (here ∙ sym kept.number) in
        let some : Some span ≡ Some p.span = sym at ∙ ap (slice_get v.spans) (here ∙ sym kept.number) ∙ p.span_at in
        let same : span ≡ p.span = cc in
        let is : result ≡ record { since = span.since; stopped = c.stopped; read = c.read - span.since } = rw now at e in
        ap (λ r. Some r) (is ∙ rw (same, p.since, ctl.stopped, ctl.read) refl) ∙ sym (ap (option_map span_from) (found_present s i number here))
  ]

  -- since when the node of it takes part
  module _ (it : NodeParts) (at : slice_get v.nodes number ≡ Some it) where
    ended_since : number < (node_at s.nodes i).present.number → (result : ℕ) → (number ≡ 0 → result ≡ 0) → (0 < number → result ≡ it.from) → Some result ≡ takes_part_since s i number
    ended_since below result first later =
        let x : HasEnded (IsEndedAt scenario s.trace i v) (node_at s.nodes i).ended number = ends below in
        let y : HasEnded (λ e. e.incarnation.number ≡ 0 → e.incarnation.from ≡ 0) (node_at s.nodes i).ended number =
        has_ended (λ e. e.incarnation.number ≡ 0 → e.incarnation.from ≡ 0) (node_at s.nodes i).present (node_at s.nodes i).ended number order.order
        (from_start (node_at s.nodes i).present (node_at s.nodes i).ended order.order) below in
        let both : Some y.end ≡ Some x.end = sym y.found ∙ x.found in
        let same_end : y.end ≡ x.end = cc in
        let some : Some x.has.it ≡ Some it = sym x.has.at ∙ ap (slice_get v.nodes) x.is ∙ at in
        let same : x.has.it ≡ it = cc in
        let is : result ≡ x.end.incarnation.from =
        elim (cases_eq number 0) [
          | inl zero' ↦ first zero' ∙ sym (y.has (y.is ∙ zero')) ∙ ap (λ (e : EndedIncarnation). e.incarnation.from) same_end
          | inr more ↦
              later (omega (arith, more)) ∙ ap (λ (n : NodeParts). n.from) (sym same) ∙ x.has.from
              ∙ from_later scenario x.end.incarnation (omega (arith, more, x.is))
        ] in
        ap (λ r. Some r) is ∙ sym (ap (option_map (λ e. e.incarnation.from)) (found_ended s i number x.end below x.found))

    present_since : number ≡ (node_at s.nodes i).present.number → (result : ℕ) → (number ≡ 0 → result ≡ 0) → (0 < number → result ≡ it.from) → Some result ≡ takes_part_since s i number
    present_since here result first later =
        let some : Some p.it ≡ Some it = sym p.at ∙ ap (slice_get v.nodes) (kept.number ∙ sym here) ∙ at in
        let same : p.it ≡ it = cc in
        let is : result ≡ (node_at s.nodes i).present.from =
        elim (cases_eq number 0) [
          | inl zero' ↦
              first zero' ∙ sym (ap (λ (x : Incarnation). x.from) (first_is_original (node_at s.nodes i).present (node_at s.nodes i).ended order.order (sym here ∙ zero')))
          | inr more ↦
              later (omega (arith, more)) ∙ ap (λ (n : NodeParts). n.from) (sym same) ∙ p.stands.from
              ∙ from_later scenario (node_at s.nodes i).present (omega (arith, more, here))
        ] in
        ap (λ r. Some r) is ∙ sym (ap (option_map (λ e. e.incarnation.from)) (found_present s i number here))

    pub since_is : (result : ℕ) → (number ≡ 0 → result ≡ 0) → (0 < number → result ≡ it.from) → Some result ≡ takes_part_since s i number
    since_is result first later = elim (cases_lt number (node_at s.nodes i).present.number) [
      | inl below ↦ ended_since below result first later
      | inr past ↦ present_since (omega (arith, past, within)) result first later
    ]

-- ---- which took part too late

-- the present one, if it is not that of the opening, takes part only since this slot
pub came_after_is : (scenario : ScenarioParts) (trace : List SlotNote) (i slot : ℕ) (node : NodeState) (v : IncarnationsParts) (it : NodeParts) → IsInOrder trace node → IsKeptAt scenario trace i node v
    → slice_get v.nodes v.present ≡ Some it → (nat_lt 0 v.present && nat_lt slot it.from) ≡ nat_lt slot node.present.from
came_after_is scenario trace i slot node v it order kept at = by_number node.present.number refl
  where
    p : IsPresentAt scenario trace i node v
    p = kept.present

    same : p.it ≡ it
    same = let some : Some p.it ≡ Some it = sym p.at ∙ at in cc

    by_number : (n : ℕ) → node.present.number ≡ n → (nat_lt 0 v.present && nat_lt slot it.from) ≡ nat_lt slot node.present.from
    by_number zero first =
        let now : nat_lt 0 v.present ≡ false = le-ltb 0 v.present (omega (arith, first, kept.number)) in
        let opening : node.present.from ≡ 0 = ap (λ (x : Incarnation). x.from) (first_is_original node.present node.ended order.order first) in
        rw now (sym (ap (nat_lt slot) opening ∙ le-ltb slot 0 (omega arith)))
    by_number (suc n) later =
        let now : nat_lt 0 v.present ≡ true = lt-ltb 0 v.present (omega (arith, later, kept.number)) in
        let from : it.from ≡ node.present.from = ap (λ (x : NodeParts). x.from) (sym same) ∙ p.stands.from ∙ from_later scenario node.present (omega (arith, later)) in
        rw now (ap (nat_lt slot) from)

-- ---- which began at the end of a slot

-- an element of a list that passes a test
record AnyPlace {X : Type 0} (test : X → Bool) (xs : List X) : Type 0 where
  place : ℕ
  what : X
  at : slice_get xs place ≡ Some what
  passes : test what ≡ true

any_place : {X : Type 0} (test : X → Bool) (xs : List X) → list_any test xs ≡ true → AnyPlace test xs
any_place test [] h = absurd (cc)
any_place test (x ∷ xs) h = elim (cases_Bool (test x)) [
  | inl here ↦ record { place = 0; what = x; at = refl; passes = here }
  | inr other ↦
      let rest : AnyPlace test xs = any_place test xs (rw other at h) in
      record { place = suc rest.place; what = rest.what; at = rest.at; passes = rest.passes }
]

any_here : (a b : Bool) → a ≡ true → (a || b) ≡ true
any_here a b h = rw h refl

any_later : (a b : Bool) → b ≡ true → (a || b) ≡ true
any_later true b h = refl
any_later false b h = h

any_at : {X : Type 0} (test : X → Bool) (xs : List X) (k : ℕ) (x : X) → slice_get xs k ≡ Some x → test x ≡ true → list_any test xs ≡ true
any_at test [] k x at h = absurd (cc)
any_at test (y ∷ xs) zero x at h = let same : y ≡ x = cc in any_here (test y) (list_any test xs) (ap test same ∙ h)
any_at test (y ∷ xs) (suc k) x at h = any_later (test y) (list_any test xs) (any_at test xs k x at h)

same_truth : (a b : Bool) → (a ≡ true → b ≡ true) → (b ≡ true → a ≡ true) → a ≡ b
same_truth true b to from = sym (to refl)
same_truth false true to from = from refl
same_truth false false to from = refl

-- an incarnation that began after a slot is not that of the opening
began_from : (slot : ℕ) (inc : Incarnation) (ended : List EndedIncarnation) → AreInOrder inc ended → inc.since ≡ slot + 1 → began_at slot inc ≡ true
began_from slot inc ended order since =
    and_from (not (inc.number == 0)) (inc.since == slot + 1)
    (not_from_false (inc.number == 0) (ne_eqb inc.number 0 (λ first. absurd (omega (arith, since, ap (λ (x : Incarnation). x.since) (first_is_original inc ended order first))))))
    (eq-eqb inc.since (slot + 1) since)

ended_began : (scenario : ScenarioParts) (trace : List SlotNote) (i slot : ℕ) (v : IncarnationsParts) (inc : Incarnation) (ended : List EndedIncarnation) → AreInOrder inc ended
    → AllByRecursion (IsEndedAt scenario trace i v) ended → (k : ℕ) (span : Span) → k < inc.number → slice_get v.spans k ≡ Some span → span.since ≡ slot + 1
    → list_any (λ e. began_at slot e.incarnation) ended ≡ true
unfolding AreInOrder
ended_began scenario trace i slot v inc [] order all k span below at since = absurd (omega (arith, below, ap (λ (x : Incarnation). x.number) order))
ended_began scenario trace i slot v inc (e ∷ ended) order all k span below at since = elim (cases_eq k e.incarnation.number) [
  | inl here ↦
      let some : Some span ≡ Some (span_from e) = sym at ∙ ap (slice_get v.spans) here ∙ all.0.span in
      let same : span ≡ span_from e = cc in
      any_here (began_at slot e.incarnation) (list_any (λ x. began_at slot x.incarnation) ended)
      (began_from slot e.incarnation ended order.1 (sym (ap (λ (x : Span). x.since) same) ∙ since))
  | inr other ↦
      any_later (began_at slot e.incarnation) (list_any (λ x. began_at slot x.incarnation) ended)
      (ended_began scenario trace i slot v e.incarnation ended order.1 all.1 k span (omega (arith, below, order.0, other)) at since)
]

spans_began : (scenario : ScenarioParts) (trace : List SlotNote) (i slot : ℕ) (v : IncarnationsParts) (ended : List EndedIncarnation)
    → AllByRecursion (IsEndedAt scenario trace i v) ended → list_any (λ e. began_at slot e.incarnation) ended ≡ true → list_any (began_in slot) v.spans ≡ true
spans_began scenario trace i slot v [] all h = absurd (cc)
spans_began scenario trace i slot v (e ∷ ended) all h = elim (cases_Bool (began_at slot e.incarnation)) [
  | inl here ↦ any_at (began_in slot) v.spans e.incarnation.number (span_from e) all.0.span
      (and_parts (not (e.incarnation.number == 0)) (e.incarnation.since == slot + 1) here).1
  | inr other ↦ spans_began scenario trace i slot v ended all.1 (rw other at h)
]

-- the spans tell whether an incarnation began at the end of the slot
pub began_is : (scenario : ScenarioParts) (trace : List SlotNote) (i slot : ℕ) (node : NodeState) (v : IncarnationsParts) → IsInOrder trace node → IsKeptAt scenario trace i node v
    → list_any (began_in slot) v.spans ≡ (began_at slot node.present || list_any (λ e. began_at slot e.incarnation) node.ended)
began_is scenario trace i slot node v order kept =
    same_truth (list_any (began_in slot) v.spans) (began_at slot node.present || list_any (λ e. began_at slot e.incarnation) node.ended) to from
  where
    p : IsPresentAt scenario trace i node v
    p = kept.present

    to : list_any (began_in slot) v.spans ≡ true → (began_at slot node.present || list_any (λ e. began_at slot e.incarnation) node.ended) ≡ true
    to h =
        let any : AnyPlace (began_in slot) v.spans = any_place (began_in slot) v.spans h in
        let since : any.what.since ≡ slot + 1 = eqb-true any.what.since (slot + 1) any.passes in
        elim (cases_lt any.place node.present.number) [
          | inl below ↦ any_later (began_at slot node.present) (list_any (λ e. began_at slot e.incarnation) node.ended)
              (ended_began scenario trace i slot v node.present node.ended order.order kept.ended any.place any.what below any.at since)
          | inr past ↦ elim (cases_eq any.place node.present.number) [
            | inl here ↦
                let some : Some any.what ≡ Some p.span = sym any.at ∙ ap (slice_get v.spans) (here ∙ sym kept.number) ∙ p.span_at in
                let same : any.what ≡ p.span = cc in
                any_here (began_at slot node.present) (list_any (λ e. began_at slot e.incarnation) node.ended)
                (began_from slot node.present node.ended order.order (sym p.since ∙ sym (ap (λ (x : Span). x.since) same) ∙ since))
            | inr other ↦
                let w : IsWaitingAt scenario i v any.place =
                kept.waiting any.place (omega (arith, past, other, kept.number)) (omega (arith, slice_get_within v.spans any.place any.what any.at, kept.spans)) in
                let some : Some any.what ≡ Some w.span = sym any.at ∙ w.span_at in
                let same : any.what ≡ w.span = cc in
                absurd (omega (arith, since, ap (λ (x : Span). x.since) same, w.unset))
          ]
        ]

    from : (began_at slot node.present || list_any (λ e. began_at slot e.incarnation) node.ended) ≡ true → list_any (began_in slot) v.spans ≡ true
    from h = elim (cases_Bool (began_at slot node.present)) [
      | inl here ↦
          let since = eqb-true node.present.since (slot + 1) (and_parts (not (node.present.number == 0)) (node.present.since == slot + 1) here).1 in
          any_at (began_in slot) v.spans v.present p.span p.span_at (eq-eqb p.span.since (slot + 1) (p.since ∙ since))
      | inr other ↦ spans_began scenario trace i slot v node.ended kept.ended (rw other at h)
    ]

-- where there is no node none began
pub none_began : (nodes : List NodeState) (slot i : ℕ) → length nodes ≤ i
    → (began_at slot (node_at nodes i).present || list_any (λ e. began_at slot e.incarnation) (node_at nodes i).ended) ≡ false
none_began nodes slot i past = rw (node_at_past nodes i past) refl

-- ---- in a run

module _ (scenario : ScenarioParts) (journal : List Step) (i number : ℕ) (v : IncarnationsParts)
    (kept : IsKeptAt scenario (run scenario journal).trace i (node_at (run scenario journal).nodes i) v) (within : number ≤ (node_at (run scenario journal).nodes i).present.number) where
  within_nodes : number < length v.nodes
  within_nodes = let all = slice_get_within v.nodes v.present kept.present.it kept.present.at in omega (arith, all, within, kept.number)

  pub told_log : (entries : List LogEntry) → ((it : NodeParts) → slice_get v.nodes number ≡ Some it → entries ≡ it.log) → entries ≡ log_of scenario (run scenario journal) i number
  told_log entries law =
      let it = there v.nodes number within_nodes in
      log_of_is scenario (run scenario journal) i number v (in_order scenario journal i) ((orderly scenario journal).unread i) kept within it.0 entries it.1 (law it.0 it.1)

  pub told_span : (c : ControllerState) (result : Span) → IsKeptAs scenario (run scenario journal).trace i (node_at (run scenario journal).nodes i) c
      → ((span : Span) → slice_get v.spans number ≡ Some span → result ≡ span_in c number v span) → Some result ≡ span_of (run scenario journal) i number
  told_span c result ctl law =
      let span = there v.spans number (omega (arith, within_nodes, kept.spans)) in
      span_of_is scenario (run scenario journal) i number v (in_order scenario journal i) ((orderly scenario journal).unread i) kept within c span.0 result ctl span.1 (law span.0 span.1)

  pub told_since : (result : ℕ) → (number ≡ 0 → result ≡ 0) → (0 < number → (it : NodeParts) → slice_get v.nodes number ≡ Some it → result ≡ it.from)
      → Some result ≡ takes_part_since (run scenario journal) i number
  told_since result first later =
      let it = there v.nodes number within_nodes in
      since_is scenario (run scenario journal) i number v (in_order scenario journal i) ((orderly scenario journal).unread i) kept within it.0 it.1 result first
      (λ more. later more it.0 it.1)
