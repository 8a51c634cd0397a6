-- A LEAVE that waits was asked for by the node at which it waits. So of a node in its first
-- incarnation that has asked for no leave, none was carried.
use Rattle.std.proofs.Common.{◌≡◌, ℕ, zero, suc, ◌+◌, ◌-◌, ◌<◌, ◌++◌, ◌==◌, true, List, [], ◌∷◌, length, drop, ap, sym, ◌∙◌, subst, arith, get_or}
use Rattle.std.specs.Prelude.{Contains, Some}
use Rattle.std.proofs.lemmas.Bool.{and_parts, both_ways, eqb-true, false_from_ne_true}
use Rattle.std.proofs.lemmas.List.{get_or_default}
use Rattle.cany_base.specs.declared.class.Class.TheVariants as class
use Rattle.cany_base.specs.declared.notice.NoticeKind.{NoticeKind}
use Rattle.cany_base.specs.declared.slot_note.SlotNote.{SlotNote}
use Rattle.cany_base.specs.declared.step.Step.{Step}
use Rattle.cany_base.specs.Frame.{FrameParts}
use Rattle.cany_base.specs.Scenario.{ScenarioParts}
use Rattle.cany_model.specs.Bus.Frames.{same_class}
use Rattle.cany_model.specs.Bus.History.{history, seen}
use Rattle.cany_model.specs.Bus.Slot.{carried}
use Rattle.cany_model.specs.Bus.State.{EndedIncarnation, Incarnation, NodeState, RunState, node_at, reads}
use Rattle.cany_model.specs.Promises.Detector.{AsksNoLeave, has_asked_leave}
use Rattle.cany_model.specs.Promises.Settled.{IsCorrect}
use Rattle.cany_model.specs.Rules.Turn.{scenario_at, scenario_for}
use Rattle.cany_model.specs.Runs.Run.{run}
use Rattle.cany_model.proofs.Among.{Among-from_Contains, Contains-one, Each-of}
use Rattle.cany_model.proofs.Bus.Carried.{carried_frame}
use Rattle.cany_model.proofs.Bus.Identities.{same_class-true}
use Rattle.cany_model.proofs.Bus.Seen.{ended_history-present, history-is}
use Rattle.cany_model.proofs.Bus.States.{no_note}
use Rattle.cany_model.proofs.Promises.Diffusion.{past_of}
use Rattle.cany_model.proofs.Promises.EachNode.{each_running}
use Rattle.cany_model.proofs.Runs.Runs.{orderly}
use Rattle.cany_laws.specs.Alarms.{NoLeaveWasCarried, is_leave_of}
use Rattle.cany_laws.specs.Logs.{followed_by, present_of}
use Rattle.cany_laws.proofs.Silences.LongestUnheard.{goes_on, went}
use Rattle.cany_laws.proofs.FalseAlarms.AlarmLaws.{none_ended}
use Rattle.cany_laws.proofs.FalseAlarms.AlarmNotices.{note_in}
use Rattle.cany_laws.proofs.FalseAlarms.AlarmSigns.{carried_from}
use Rattle.cany_laws.proofs.Members.EqualMembers.{first_read}
use Rattle.cany_model.proofs.Timed.Detector.Leaving.{LeaveAsked, asked_later, leaves_are_asked}

-- ---- every run

asked_dropped : (scenario : ScenarioParts) (i n : ℕ) (past : List NoticeKind) → has_asked_leave scenario i (drop n past) ≡ true
    → has_asked_leave scenario i past ≡ true
asked_dropped scenario i zero past h = h
asked_dropped scenario i (suc n) [] h = h
asked_dropped scenario i (suc n) (e ∷ past) h = asked_later scenario i e past (asked_dropped scenario i n past h)

-- a LEAVE that a slot carried, the node has asked for that it names, where that is in its first
-- incarnation
carried_asked : (scenario : ScenarioParts) (journal : List Step) (r : ℕ) → IsCorrect scenario (run scenario journal) r
    → (node_at (run scenario journal).nodes r).present.number ≡ 0 → (n : ℕ) → n < length (run scenario journal).trace → (f : FrameParts)
    → (note_in (run scenario journal).trace n).frame ≡ Some f → f.class ≡ class.Leave → f.node ≡ r
    → has_asked_leave (scenario_at scenario (run scenario journal) r) r (history r (run scenario journal)) ≡ true
carried_asked scenario journal r correct first n ran f frame leave own =
    let s : RunState = run scenario journal in
    let from = carried_from scenario journal n ran f frame in
    let b : RunState = run scenario from.front in
    let j : ℕ = from.offer.node in
    let node : NodeState = node_at b.nodes j in
    let P : FrameParts → Type 0 = LeaveAsked (scenario_for scenario node.present) j (past_of j (seen node.present b.trace) node) in
    let asked = Each-of P f node.waiting (each_running scenario _ (leaves_are_asked scenario) from.front j from.offer.running)
    (Among-from_Contains node.waiting f from.offer.waits) leave in
    let same : j ≡ r = sym asked.0 ∙ own in
    let then : has_asked_leave (scenario_at scenario b j) j (history j b) ≡ true =
    ap (has_asked_leave (scenario_at scenario b j) j) (history-is j b) ∙ asked.1 in
    of_first scenario journal r correct first from.front from.rest from.whole
    (subst (λ k. has_asked_leave (scenario_at scenario b k) k (history k b) ≡ true) same then)
  where
    of_first : (scenario : ScenarioParts) (journal : List Step) (r : ℕ) → IsCorrect scenario (run scenario journal) r
        → (node_at (run scenario journal).nodes r).present.number ≡ 0 → (front rest : List Step) → journal ≡ front ++ rest
        → has_asked_leave (scenario_at scenario (run scenario front) r) r (history r (run scenario front)) ≡ true
        → has_asked_leave (scenario_at scenario (run scenario journal) r) r (history r (run scenario journal)) ≡ true
    of_first scenario journal r correct first front rest whole asked =
        let s : RunState = run scenario journal in
        let b : RunState = run scenario front in
        let g = goes_on scenario r correct.there journal front rest whole in
        let alone : present_of s r ≡ g.to =
        Contains-one (present_of s r) g.to (subst (λ ended. Contains (present_of s r ∷ ended) g.to)
        (none_ended scenario r correct.there journal first) g.is.stands) in
        let here : has_asked_leave (followed_by scenario g.to) r (first_read (reads b r) s r g.to) ≡ true =
        ap (has_asked_leave (followed_by scenario g.to) r) (went scenario journal front rest r whole g)
        ∙ ap (λ (inc : Incarnation). has_asked_leave (scenario_for scenario inc) r (history r b)) g.same ∙ asked in
        let now : has_asked_leave (followed_by scenario (present_of s r)) r (first_read (reads b r) s r (present_of s r)) ≡ true =
        subst (λ (e : EndedIncarnation). has_asked_leave (followed_by scenario e) r (first_read (reads b r) s r e) ≡ true) (sym alone) here in
        subst (λ past. has_asked_leave (scenario_at scenario s r) r past ≡ true) (ended_history-present r s ((orderly scenario journal).unread r))
        (asked_dropped (scenario_at scenario s r) r (reads s r - reads b r) _ now)

pub none_carried : (scenario : ScenarioParts) (journal : List Step) (r : ℕ) → IsCorrect scenario (run scenario journal) r
    → (node_at (run scenario journal).nodes r).present.number ≡ 0 → AsksNoLeave scenario (run scenario journal) r → NoLeaveWasCarried (run scenario journal) r
none_carried scenario journal r correct first asks note stands = false_from_ne_true (carried (is_leave_of r) note) (λ h.
    let s : RunState = run scenario journal in
    let f = carried_frame (is_leave_of r) note h in
    let parts = and_parts (same_class f.what.class class.Leave) (f.what.node == r) f.passes in
    let k : ℕ = stands.0 in
    let below : k < length s.trace = stands.1 in
    let n : ℕ = length s.trace - (k + 1) in
    let at : length s.trace - (n + 1) ≡ k = omega (arith, below) in
    let same : note_in s.trace n ≡ note = ap (λ m. get_or s.trace m no_note) at ∙ get_or_default s.trace k no_note note below ∙ stands.2 in
    both_ways (has_asked_leave (scenario_at scenario s r) r (history r s)) asks
    (carried_asked scenario journal r correct first n (omega (arith, below)) f.what (ap (λ (x : SlotNote). x.frame) same ∙ f.frame)
    (same_class-true f.what.class class.Leave parts.0) (eqb-true f.what.node r parts.1)))
