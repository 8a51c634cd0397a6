-- A vector waits, and is carried, only after the start of its cycle.
use Rattle.std.proofs.Common.{◌≡◌, ℕ, ◌*◌, ◌<◌, ◌≤◌, inl, inr, List, ◌∷◌, length, Some, Contains, refl, ap, sym, subst, arith}
use Rattle.std.proofs.lemmas.Bool.{cases_Bool}
use Rattle.cany_base.specs.Limits.{most_nodes}
use Rattle.cany_base.specs.declared.class.Class.TheVariants as class
use Rattle.cany_base.specs.declared.notice.NoticeKind.{NoticeKind}
use Rattle.cany_base.specs.declared.notice.NoticeKind.TheVariants.{Idle, Got, Sent, Bad}
use Rattle.cany_base.specs.declared.slot_note.SlotNote.{SlotNote}
use Rattle.cany_base.specs.declared.step.Step.{Step}
use Rattle.cany_base.specs.Frame.{FrameParts}
use Rattle.cany_base.specs.Params.{Parameters}
use Rattle.cany_base.specs.Scenario.{ScenarioParts}
use Rattle.cany_model.specs.Bus.History.{as_seen, given, history, is_hidden}
use Rattle.cany_model.specs.Runs.Run.{after_turn, run}
use Rattle.cany_model.specs.Bus.State.{Incarnation, RunState, node_at}
use Rattle.cany_model.specs.Rules.Notices.{IsReadAfterStart}
use Rattle.cany_model.specs.Rules.Turn.{scenario_for}
use Rattle.cany_base.specs.Cycles.{cycle_of}
use Rattle.cany_model.proofs.Bus.EachRead.{EachRead, each_of_history}
use Rattle.cany_model.proofs.Runs.FrameInvariants.{HoldsOfFrames, IsKeptByFrames, OfCarried, OfWaiting, frames_alone, nothing_known}
use Rattle.cany_model.proofs.Bus.Notes.{given-Got, given-Sent}
use Rattle.cany_model.proofs.Runs.Runs.{IsOrderly, history-length, orderly}
use Rattle.cany_model.proofs.Bus.Seen.{Numbered, seen_idle, seen_plain}
use Rattle.cany_model.proofs.Runs.Steps.{MayTurn, after_turn-history, after_turn-trace, next_notice}
use Rattle.cany_model.proofs.Promises.OwnSlotsAlone.{run_numbered}
use Rattle.cany_model.proofs.Rules.Site.CycleFacts.{cycle_before}
use Rattle.cany_model.proofs.Rules.ProtocolFacts.{MayAsk, vector_asked}
use Rattle.cany_model.proofs.Rules.TurnFacts.{turn_only}

-- ---- what may be asked for

-- a vector that a node may ask for is of the cycle of the slot of the newest notice
pub asks_in_cycle : (scenario : ScenarioParts) (i : ℕ) (past : List NoticeKind) (f : FrameParts) → MayAsk scenario i past f
    → f.class ≡ class.Rha
    → f.number * scenario.params.cycle < length past
asks_in_cycle scenario i past f may rha =
    let v = vector_asked scenario i past f may rha in
    let number : cycle_of scenario.params v.slot * scenario.params.cycle ≡ f.number * scenario.params.cycle =
    ap (λ (g : FrameParts). g.number * scenario.params.cycle) v.frame in
    omega (arith, number, cycle_before scenario.params v.slot, v.sends.now)

-- ---- every run

abbrev pub LateWaiting : Parameters → OfWaiting
LateWaiting p trace i f = IsReadAfterStart p (length trace) f

abbrev pub LateCarried : Parameters → OfCarried
LateCarried p trace slot f = IsReadAfterStart p slot f

abbrev pub AreLate : Parameters → RunState → Type 0
AreLate p s = HoldsOfFrames (LateWaiting p) (LateCarried p) s

late_kept : (scenario : ScenarioParts) → IsKeptByFrames scenario nothing_known (LateWaiting scenario.params) (LateCarried scenario.params)
late_kept scenario = record {
  waiting_later = λ note trace i f h rha. let before = h rha in omega (arith, before);
  carried_later = λ note trace slot f h. h;
  sent = λ note trace i f number frame sender h rha. let before = h rha in omega (arith, before, number);
  asked = λ s i o may known h.
      let sc : ScenarioParts = scenario_for scenario (node_at s.nodes i).present in
      turn_only (IsReadAfterStart scenario.params (length s.trace)) sc i (next_notice s i ∷ history i s) (λ f reason rha.
      let early = asks_in_cycle sc i (next_notice s i ∷ history i s) f reason rha in
      let short = o.unread i in
      omega (arith, early, short, may.unread, history-length i s));
}

pub late_vectors : (scenario : ScenarioParts) (journal : List Step) → scenario.params.nodes ≤ most_nodes
    → AreLate scenario.params (run scenario journal)
late_vectors scenario journal few =
    frames_alone scenario (LateWaiting scenario.params) (LateCarried scenario.params) (late_kept scenario) journal few

-- ---- what a node reads

abbrev pub IsReadLate : Parameters → ℕ → NoticeKind → Type 0
IsReadLate p slot Idle = Unit {0}
IsReadLate p slot (Got f) = IsReadAfterStart p slot f
IsReadLate p slot (Sent f) = IsReadAfterStart p slot f
IsReadLate p slot Bad = Unit {0}

-- each slot carried a vector only after the start of its cycle
abbrev AllLate : Parameters → List SlotNote → Type 0
AllLate p trace = (note : SlotNote) (f : FrameParts) → Contains trace note → note.frame ≡ Some f → IsReadAfterStart p note.slot f

given_late : (p : Parameters) (i : ℕ) (note : SlotNote) → ((f : FrameParts) → note.frame ≡ Some f → IsReadAfterStart p note.slot f)
    → IsReadLate p note.slot (given i note)
given_late p i note h = by_notice (given i note) refl
  where
    by_notice : (e : NoticeKind) → given i note ≡ e → IsReadLate p note.slot e
    by_notice Idle is = tt
    by_notice Bad is = tt
    by_notice (Got f) is = h f (given-Got i note f is).0
    by_notice (Sent f) is = h f (given-Sent i note f is).0

seen_late : (p : Parameters) (i : ℕ) (inc : Incarnation) (note : SlotNote)
    → ((f : FrameParts) → note.frame ≡ Some f → IsReadAfterStart p note.slot f)
    → IsReadLate p note.slot (given i (as_seen inc note))
seen_late p i inc note h = elim (cases_Bool (is_hidden inc note)) [
  | inl hidden ↦ subst (IsReadLate p note.slot) (sym (seen_idle i inc note hidden)) tt
  | inr plain ↦ subst (λ n. IsReadLate p note.slot (given i n)) (sym (seen_plain inc note plain)) (given_late p i note h)
]

-- so each vector that a node reads, it reads after the start of its cycle
pub notice_late : (scenario : ScenarioParts) (journal : List Step) → scenario.params.nodes ≤ most_nodes
    → (i : ℕ) → MayTurn (run scenario journal) i
    → let s = run scenario journal in IsReadLate scenario.params (length (history i s)) (next_notice s i)
notice_late scenario journal few i may =
    let s : RunState = run scenario journal in
    let o : IsOrderly scenario.params.nodes s = orderly scenario journal in
    let t : RunState = after_turn scenario i s in
    let same : s.trace ≡ t.trace = sym (after_turn-trace scenario i s) in
    let late : AllLate scenario.params t.trace = subst (AllLate scenario.params) same (late_vectors scenario journal few).carried in
    let read : EachRead (IsReadLate scenario.params) (history i t) =
    each_of_history (IsReadLate scenario.params) i t (subst Numbered same (run_numbered scenario.params.nodes s o))
    (λ note c. seen_late scenario.params i (node_at t.nodes i).present note (λ f. late note f c)) in
    (subst (EachRead (IsReadLate scenario.params)) (after_turn-history scenario i s may (o.unread i)) read).0
