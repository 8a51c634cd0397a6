-- The value after the timer that ends in the turn of a notice.
use Rattle.std.specs.Prelude.{nat_lt, nat_le, IfSome}
use Rattle.std.proofs.Common.{◌≡◌, ℕ, suc, ◌+◌, ◌-◌, ◌<◌, ◌≤◌, ◌&&◌, ◌||◌, Bool, true, false, if◌then◌else◌, not, List, [], ◌∷◌, ◌++◌, drop, length, Option, Some, None, refl, ap, subst, sym, ◌∙◌, arith, append_assoc}
use Rattle.std.proofs.lemmas.List.{map-append}
use Rattle.std.proofs.lemmas.Bool.Decides.{nat_tests}
use Rattle.cany_base.specs.declared.actions.Action.{Action}
use Rattle.cany_base.specs.declared.class.Class.TheVariants as class
use Rattle.cany_base.specs.declared.format.Format.{Format}
use Rattle.cany_base.specs.declared.message.Service.TheVariants as service
use Rattle.cany_base.specs.declared.notice.Notice.{Notice}
use Rattle.cany_base.specs.declared.notice.NoticeKind.{NoticeKind}
use Rattle.cany_base.specs.Frame.{FrameParts}
use Rattle.cany_base.specs.Params.{Parameters}
use Rattle.cany_base.specs.Scenario.{ScenarioParts}
use Rattle.cany_base.specs.Limits.{most_nodes}
use Rattle.cany_diffuse.specs.Eager.{EagerParts, is_held}
use Rattle.cany_message.specs.Numbers.{frame_number, message_number}
use Rattle.cany_message.specs.Table.{CanTake}
use Rattle.cany_message.proofs.HistoryFacts.{identity_is}
use Rattle.cany_model.specs.Rules.Actions.{action_of, actions_of}
use Rattle.cany_model.specs.Rules.Eager.{has_enough}
use Rattle.cany_model.specs.Rules.Effect.{Ask}
use Rattle.cany_model.specs.Bus.Frames.{identity_of}
use Rattle.cany_model.specs.Bus.History.{copies}
use Rattle.cany_model.specs.Rules.Notices.{IsNextNotice, NamesMessage}
use Rattle.cany_model.specs.Rules.Relcan.{fell_back, has_confirm, has_copy, relcan_at, relcan_effects, timer_effects}
use Rattle.cany_relcan.specs.declared.timers.Timer.{Timer}
use Rattle.cany_relcan.specs.Relcan.{RelcanParts, AreMarksOf, AreTablesOf, CanRead, HasRead, IsRelcanOf, data_identity}
use Rattle.cany_relcan.specs.RelcanSteps.{AreMarksAfter, ask_actions, asks_at_end, due_frame, is_confirmed, timer_actions, without_due}
use Rattle.cany_relcan.specs.Timers.{without_from, started_by, started_since}
use Rattle.cany_relcan.proofs.MarkFacts.{can_mark, falls_is, there_after}
use Rattle.cany_relcan.proofs.TablesFacts.{confirmed_is}
use Rattle.cany_relcan.proofs.TimerFacts.{EndsWith, ends_with, due_class, due_read, dropped_copy, end_effects, falls_with, fell_back-more, first_frame, started_now, timer_effects-is}

-- ---- how many timers run on

length-without_from : (slot : ℕ) (timers : List Timer) → length (without_from slot timers) ≤ length timers
length-without_from slot [] = omega arith
length-without_from slot (t ∷ timers) = grind (arith, nat_tests)

run_on : (early : Bool) (slot : ℕ) (timers : List Timer) → length (if early then timers else without_from slot timers) ≤ length timers
run_on true slot timers = omega arith
run_on false slot timers = length-without_from slot timers

-- ---- actions

module _ (scenario : ScenarioParts) (i : ℕ) (past : List NoticeKind) (v : RelcanParts) (h : AreTablesOf scenario i past v.copies v.confirms) where
  read_is : (f : FrameParts) → f.node < most_nodes → is_confirmed v.confirms f ≡ has_confirm (data_identity f.number f.node) past
  read_is f small = confirmed_is scenario i past v.copies v.confirms h f.number f.node small

  few_is : (omit c : ℕ) → not (nat_lt omit c) ≡ not (nat_le (omit + 1) c)
  few_is omit c = grind (arith, nat_tests)

  ask_if : (format : Format) (b : Bool) (f : FrameParts) → ask_actions b f ≡ actions_of format (if b then Ask f ∷ [] else [])
  ask_if format true f = refl
  ask_if format false f = refl

  end_actions : (p : Parameters) (due : Option FrameParts) → v.copies.omit ≡ p.omit → IfSome due (λ f. f.node < most_nodes) → ((f : FrameParts) → due ≡ Some f → f.class ≡ class.Rel)
      → timer_actions due v ≡ actions_of p.format (end_effects p past due)
  end_actions p None omit small rels = refl
  end_actions p (Some f) omit small rels =
      let rel = rels f refl in
      ask_if p.format (asks_at_end v f) f
      ∙ ap (λ b. actions_of p.format (if b then Ask f ∷ [] else []))
      (rw (read_is f small, h.data_frames.copies f.number f.node small, omit, few_is p.omit (copies (data_identity f.number f.node) past)) refl
      ∙ ap (λ x. not (has_confirm x past) && not (has_enough p.omit x past)) (sym (identity_is class.Rel f rel)))

-- ---- the turn

-- what ends in the turn of a notice that was read
record Ends (scenario : ScenarioParts) (i slot n : ℕ) (notice : NoticeKind) (past : List NoticeKind) (v : RelcanParts) : Type 0 where
  is : scenario.params.confirm ≡ suc n
  due : due_frame slot v ≡ first_frame (started_now i (drop n past))
  rest : (without_due slot v).timers.running ≡ started_since i (suc n) (notice ∷ past)

ends : (scenario : ScenarioParts) (i slot : ℕ) (notice : NoticeKind) (past : List NoticeKind) (v : RelcanParts) → HasRead scenario i notice past v → slot ≡ length past
    → Ends scenario i slot (scenario.params.confirm - 1) notice past v
ends scenario i slot notice past v h at =
    let is : scenario.params.confirm ≡ suc (scenario.params.confirm - 1) = omega (arith, h.limits.legal.in_range.confirm.0) in
    let same : v.confirm ≡ suc (scenario.params.confirm - 1) = h.limits.confirm ∙ is in
    let running = h.timers ∙ ap (λ n. started_since i n past ++ started_by i notice past) is in
    let e : EndsWith i (scenario.params.confirm - 1) notice past v.timers.running = ends_with i (scenario.params.confirm - 1) notice past v.timers.running running in
    record {
      is = is;
      due = rw (same, at) (e.due);
      rest = rw (same, at) (e.rest);
    }

due_rel : (scenario : ScenarioParts) (i slot n : ℕ) (notice : NoticeKind) (past : List NoticeKind) (v : RelcanParts) → Ends scenario i slot n notice past v
    → (f : FrameParts) → due_frame slot v ≡ Some f → f.class ≡ class.Rel
due_rel scenario i slot n notice past v e f is = due_class i (drop n past) f (sym e.due ∙ is)

-- the timer that ends is of a message of RELCAN
due_named : (scenario : ScenarioParts) (i slot n : ℕ) (notice : NoticeKind) (past : List NoticeKind) (v : RelcanParts) → HasRead scenario i notice past v
    → Ends scenario i slot n notice past v → (f : FrameParts) → due_frame slot v ≡ Some f → NamesMessage scenario service.Rel f
due_named scenario i slot n notice past v h e f is =
    let read : has_copy (identity_of f) past ≡ true = dropped_copy (identity_of f) n past (due_read i (drop n past) f (sym e.due ∙ is)) in
    h.tables.named f (due_rel scenario i slot n notice past v e f is) (grind (arith, nat_tests, read))

can_end : (scenario : ScenarioParts) (i slot : ℕ) (notice : NoticeKind) (past : List NoticeKind) (v : RelcanParts) → HasRead scenario i notice past v → slot ≡ length past
    → IfSome (due_frame slot v) (λ f. CanTake (frame_number f) v.fallen)
can_end scenario i slot notice past v h at = go (due_frame slot v) refl
  where
    go : (due : Option FrameParts) → due_frame slot v ≡ due → IfSome due (λ f. CanTake (frame_number f) v.fallen)
    go None is = tt
    go (Some f) is =
        can_mark scenario i past v.fallen f h.fallen (due_named scenario i slot (scenario.params.confirm - 1) notice past v h (ends scenario i slot notice past v h at) f is)

-- so it is once a notice was read that could be
pub can_end_after : (v w : RelcanParts) (notice : Notice) → CanRead v notice
    → ((scenario : ScenarioParts) (past : List NoticeKind) → IsRelcanOf scenario v.node past v → IsNextNotice scenario past notice
    → HasRead scenario v.node notice.kind past w)
    → IfSome (due_frame notice.slot w) (λ f. CanTake (frame_number f) w.fallen)
can_end_after v w notice reads stands =
    can_end reads.scenario v.node notice.slot notice.kind reads.past w (stands reads.scenario reads.past reads.stands reads.next) reads.next.slot

marks_are : (scenario : ScenarioParts) (i slot n : ℕ) (notice : NoticeKind) (past : List NoticeKind) (v : RelcanParts) (fallen : EagerParts) → HasRead scenario i notice past v
    → Ends scenario i slot n notice past v → IfSome (due_frame slot v) (λ f. f.node < most_nodes) → AreMarksAfter (due_frame slot v) v.confirms v.fallen fallen
    → AreMarksOf scenario i (notice ∷ past) fallen
marks_are scenario i slot n notice past v fallen h e small after = record {
  room = after.room ∙ h.fallen.room;
  held = λ s o near.
      after.held (message_number s o)
      ∙ ap (λ b. b || is_held v.fallen (message_number s o))
      (falls_is scenario i (notice ∷ past) v.copies v.confirms h.tables (due_frame slot v) small (due_rel scenario i slot n notice past v e) s o near
      ∙ ap (λ d. falls_with d (data_identity s o) (has_confirm (data_identity s o) (notice ∷ past))) e.due)
      ∙ ap (λ b. falls_with (first_frame (started_now i (drop n past))) (data_identity s o) (has_confirm (data_identity s o) (notice ∷ past)) || b)
      (h.fallen.held s o near ∙ ap (λ k. fell_back k i (data_identity s o) past) e.is)
      ∙ sym (fell_back-more i n (data_identity s o) notice past)
      ∙ ap (λ k. fell_back k i (data_identity s o) (notice ∷ past)) (sym e.is);
  messages = there_after scenario (due_frame slot v) v.confirms v.fallen fallen after (due_named scenario i slot n notice past v h e) h.fallen.messages;
}

pub ended_stands : (scenario : ScenarioParts) (i slot : ℕ) (notice : NoticeKind) (past : List NoticeKind) (v w : RelcanParts) → HasRead scenario i notice past v → slot ≡ length past
    → IfSome (due_frame slot v) (λ f. f.node < most_nodes) → w ≡ record (without_due slot v) { fallen = w.fallen } → AreMarksAfter (due_frame slot v) v.confirms v.fallen w.fallen
    → IsRelcanOf scenario i (notice ∷ past) w
ended_stands scenario i slot notice past v w h at small state after =
    let n : ℕ = scenario.params.confirm - 1 in
    let e : Ends scenario i slot n notice past v = ends scenario i slot notice past v h at in
    subst (IsRelcanOf scenario i (notice ∷ past)) (sym state) (record {
      limits = record {
        legal = h.limits.legal;
        node = h.limits.node;
        format = h.limits.format;
        confirm = h.limits.confirm;
        timers_room = h.limits.timers_room;
        timers_few = omega (arith, h.limits.timers_few, run_on (nat_lt slot v.confirm) (slot - v.confirm) v.timers.running);
      };
      tables = h.tables;
      timers = e.rest ∙ ap (λ k. started_since i k (notice ∷ past)) (sym e.is);
      fallen = marks_are scenario i slot n notice past v w.fallen h e small after;
    })

pub turn_actions : (scenario : ScenarioParts) (i slot : ℕ) (notice : NoticeKind) (past : List NoticeKind) (v : RelcanParts) (before middle after : List Action)
    → HasRead scenario i notice past v → slot ≡ length past → IfSome (due_frame slot v) (λ f. f.node < most_nodes)
    → middle ≡ before ++ actions_of scenario.params.format (relcan_at scenario.params i notice past) → after ≡ middle ++ timer_actions (due_frame slot v) v
    → after ≡ before ++ actions_of scenario.params.format (relcan_effects scenario i (notice ∷ past))
unfolding relcan_effects
turn_actions scenario i slot notice past v before middle after h at small first second =
    let n : ℕ = scenario.params.confirm - 1 in
    let e : Ends scenario i slot n notice past v = ends scenario i slot notice past v h at in
    let timer : timer_actions (due_frame slot v) v ≡ actions_of scenario.params.format (timer_effects scenario.params i (notice ∷ past)) =
    end_actions scenario i (notice ∷ past) v h.tables scenario.params (due_frame slot v) h.tables.data_frames.omit small (due_rel scenario i slot n notice past v e)
    ∙ ap (λ d. actions_of scenario.params.format (end_effects scenario.params (notice ∷ past) d)) e.due
    ∙ ap (actions_of scenario.params.format) (sym (timer_effects-is scenario.params i n notice past e.is)) in
    second
    ∙ ap (λ actions. actions ++ timer_actions (due_frame slot v) v) first
    ∙ append_assoc before (actions_of scenario.params.format (relcan_at scenario.params i notice past)) (timer_actions (due_frame slot v) v)
    ∙ ap (λ actions. before ++ actions)
    (ap (λ actions. actions_of scenario.params.format (relcan_at scenario.params i notice past) ++ actions) timer
    ∙ sym (map-append (action_of scenario.params.format) (relcan_at scenario.params i notice past) (timer_effects scenario.params i (notice ∷ past))))
