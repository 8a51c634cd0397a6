-- Where confirmations come from: of each that waits or was carried, a slot had carried the
-- message's data frame with success.
use Rattle.std.specs.Prelude.{◌≡◌, ℕ, ◌≤◌, List, ◌∷◌, None, length, refl}
use Rattle.cany_base.specs.Limits.{most_nodes}
use Rattle.std.specs.List.{AllByRecursion}
use Rattle.std.proofs.Common.{sym, ap, ◌∙◌, subst, inl, inr}
use Rattle.cany_base.specs.declared.class.Class.TheVariants.{Confirm, Rel}
use Rattle.cany_base.specs.declared.notice.NoticeKind.TheVariants.{Got, Sent}
use Rattle.cany_base.specs.declared.slot_note.SlotNote.{SlotNote}
use Rattle.cany_base.specs.declared.step.Step.{Step}
use Rattle.cany_base.specs.Frame.{FrameParts}
use Rattle.cany_base.specs.Scenario.{ScenarioParts}
use Rattle.cany_model.specs.Bus.Frames.{Identity, identity_of}
use Rattle.cany_model.specs.Bus.History.{given, history}
use Rattle.cany_model.specs.Rules.Relcan.{confirm_frame, confirm_of}
use Rattle.cany_model.specs.Runs.Run.{after_turn, run}
use Rattle.cany_model.specs.Bus.State.{RunState, node_at}
use Rattle.cany_model.specs.Rules.Turn.{scenario_at, turn_effects}
use Rattle.cany_model.proofs.Among.{Among, Among-weaker, Among-which}
use Rattle.cany_model.proofs.Bus.Carried.{Carries, Has, Succeeds, Succeeds-from_sent, is_sent-from}
use Rattle.cany_model.proofs.Runs.FrameInvariants.{history_among, HoldsOfFrames, IsKeptByFrames, frames_alone, nothing_known, turn_note}
use Rattle.cany_model.proofs.Runs.Runs.{IsOrderly}
use Rattle.cany_model.proofs.Runs.Steps.{MayTurn, next_notice, after_turn-history, after_turn-trace}
use Rattle.cany_model.proofs.Rules.ProtocolFacts.{MayAsk, accepts, confirms, data_is_no_other, exchanges, lives, originates, relays, request_class, requests, signals}
use Rattle.cany_model.proofs.Rules.TurnFacts.{turn_only}
use Rattle.cany_model.proofs.Rules.Waits.{AsksOnly}

-- the data frame whose message a frame confirms
abbrev confirmed_by : FrameParts → Identity
confirmed_by f = record { class = Rel; number = f.number; node = f.node }

-- a frame that confirms a message does so of one whose data frame succeeded
abbrev IsTrue : List SlotNote → ℕ → FrameParts → Type 0
IsTrue trace k f = f.class ≡ Confirm → Among (Succeeds (confirmed_by f)) trace

abbrev pub IsConfirmed : RunState → Type 0
IsConfirmed s = HoldsOfFrames IsTrue IsTrue s

-- a frame that a node has sent, or reads in its turn that it sent, succeeded
own_succeeds : (scenario : ScenarioParts) (s : RunState) (i : ℕ) (f : FrameParts) → MayTurn s i → (node_at s.nodes i).unread ≤ length s.trace → f.class ≡ Rel
    → Among (λ n. n ≡ Sent f) (next_notice s i ∷ history i s) → Among (Succeeds (confirmed_by f)) s.trace
own_succeeds scenario s i f may short rel h =
    let t : RunState = after_turn scenario i s in
    let same : confirmed_by f ≡ identity_of f = λ k. record { class = (sym rel) k; number = f.number; node = f.node } in
    let read : Among (λ n. n ≡ Sent f) (history i t) = subst (Among (λ n. n ≡ Sent f)) (sym (after_turn-history scenario i s may short)) h in
    subst (Among (Succeeds (confirmed_by f))) (after_turn-trace scenario i s)
    (history_among t i (λ n. n ≡ Sent f) (Succeeds (confirmed_by f)) idle
    (λ note is. Succeeds-from_sent i (confirmed_by f) note (is_sent-from (confirmed_by f) f (given i note) is same)) read)
  where
    idle : (note : SlotNote) → note.frame ≡ None → Succeeds (confirmed_by f) note → ⊥
    idle note none w = let some = w.carries.frame in cc

asked_true : (scenario : ScenarioParts) (s : RunState) (i : ℕ) → IsOrderly scenario.params.nodes s → MayTurn s i → IsConfirmed s
    → AllByRecursion (AsksOnly (IsTrue s.trace i)) (turn_effects (scenario_at scenario s i) i (next_notice s i ∷ history i s))
asked_true scenario s i o may h = turn_only (IsTrue s.trace i) (scenario_at scenario s i) i (next_notice s i ∷ history i s) (λ f. by_reason f)
  where
    confirmed_frame : (g f : FrameParts) → confirm_frame g ≡ f → confirmed_by g ≡ confirmed_by f
    confirmed_frame g f e = λ k. record { class = Rel; number = (e k).number; node = (e k).node }

    by_reason : (f : FrameParts) → MayAsk (scenario_at scenario s i) i (next_notice s i ∷ history i s) f → IsTrue s.trace i f
    by_reason f (relays relayed got) = λ is.
        let note = turn_note scenario s i f may (o.unread i) (Among-weaker (λ n. n ≡ Got f) (Has f) (λ n e. inl e) (next_notice s i ∷ history i s) got) in
        h.carried note.0 f note.1 note.2 is
    by_reason f (originates m is origin slot late frame) = λ confirms. absurd (data_is_no_other m.service Confirm refl (ap (λ (x : FrameParts). x.class) frame ∙ confirms))
    by_reason f (confirms g sent rel own frame) = λ is.
        subst (λ x. Among (Succeeds x) s.trace) (confirmed_frame g f frame) (own_succeeds scenario s i g may (o.unread i) rel sent)
    by_reason f (accepts g sent tot own frame) = λ is. let class = ap (λ (x : FrameParts). x.class) frame in absurd (cc)
    by_reason f (signals sign slot now known frame) = λ is. let class = ap (λ (x : FrameParts). x.class) frame in absurd (cc)
    by_reason f (lives slot now due frame) = λ is. let class = ap (λ (x : FrameParts). x.class) frame in absurd (cc)
    by_reason f (exchanges slot v sends frame) = λ is. let class = ap (λ (x : FrameParts). x.class) frame in absurd (cc)
    by_reason f (requests slot c request frame) = λ is.
        let class = ap (λ (x : FrameParts). x.class) frame in
        elim (request_class (scenario_at scenario s i) i (next_notice s i ∷ history i s) slot c request) [
          | inl join ↦ absurd (cc)
          | inr leave ↦ absurd (cc)
        ]

confirms_kept : (scenario : ScenarioParts) → IsKeptByFrames scenario nothing_known IsTrue IsTrue
confirms_kept scenario = record {
  waiting_later = λ note trace i f h confirms. inr (h confirms);
  carried_later = λ note trace slot f h confirms. inr (h confirms);
  sent = λ note trace i f number frame sender h confirms. inr (h confirms);
  asked = λ s i o may known h. asked_true scenario s i o may h;
}

pub confirmed : (scenario : ScenarioParts) (journal : List Step) → scenario.params.nodes ≤ most_nodes → IsConfirmed (run scenario journal)
confirmed scenario journal few = frames_alone scenario IsTrue IsTrue (confirms_kept scenario) journal few

-- a message whose confirmation was carried had its data frame carried with success
pub confirm_carried : (s : RunState) → IsConfirmed s → (x : Identity) → x.class ≡ Rel → Among (Carries (confirm_of x)) s.trace → Among (Succeeds x) s.trace
confirm_carried s h x rel c =
    let w = Among-which (Carries (confirm_of x)) s.trace c in
    let same : x ≡ confirmed_by w.2.what = λ k. record { class = rel k; number = (w.2.identity k).number; node = (w.2.identity k).node } in
    rw same (h.carried w.0 w.2.what w.1 w.2.frame (sym (ap (λ (y : Identity). y.class) w.2.identity)))
