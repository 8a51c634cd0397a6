-- The failure detector is accurate: a running node has failed at no correct node. In a scenario
-- without restarts, where the vectors that are installed are one and there are quiet slots.
use Rattle.std.proofs.Common.{◌≡◌, ℕ, suc, ◌<◌, ◌≤◌, ◌&&◌, ◌||◌, ◌==◌, not, inl, inr, Bool, true, false, List, [], ◌∷◌, ◌++◌, length, map, filter, drop, Option, Some, None, refl, ap, sym, ◌∙◌, subst, arith, add-one}
use Rattle.std.specs.List.{AllByRecursion, range_with_len}
use Rattle.std.proofs.lemmas.Bool.{and_parts, both_ways, cond_both, eqb-true, false_from_ne_true, or_cases, or_from}
use Rattle.std.proofs.lemmas.List.Elements.{All-contains, All-from_recursion}
use Rattle.cany_base.specs.declared.class.Class.TheVariants as class
use Rattle.cany_base.specs.declared.notice.NoticeKind.{NoticeKind}
use Rattle.cany_base.specs.declared.notice.NoticeKind.TheVariants.{Idle, Got, Sent, Bad}
use Rattle.cany_base.specs.declared.slot_note.SlotNote.{SlotNote}
use Rattle.cany_base.specs.declared.step.Step.{Step}
use Rattle.cany_base.specs.Frame.{FrameParts}
use Rattle.cany_base.specs.Limits.{most_nodes}
use Rattle.cany_base.specs.Nodes.{Nodes, has, minus}
use Rattle.cany_base.specs.Params.{MeetsFormulas, Parameters}
use Rattle.cany_base.specs.Scenario.{ScenarioParts}
use Rattle.cany_base.proofs.NodesFacts.{has_none}
use Rattle.cany_base.proofs.SetFacts.{has_where}
use Rattle.cany_model.specs.Bus.Frames.{Identity, identity_of, same_class}
use Rattle.cany_model.specs.Bus.History.{given, history}
use Rattle.cany_model.specs.Runs.Run.{after_turn, run}
use Rattle.cany_model.specs.Bus.Slot.{FaultScript, after_slot, script, slot_note_of}
use Rattle.cany_model.specs.Bus.State.{NodeState, RunState, node_at, opening, runs}
use Rattle.cany_model.specs.Promises.Detector.{HasNotFailed}
use Rattle.cany_model.specs.Promises.Hypothesis.{IsWithin}
use Rattle.cany_model.specs.Promises.OneView.{InstallsOneVector}
use Rattle.cany_model.specs.Promises.Quiet.{HasQuietSlots}
use Rattle.cany_model.specs.Promises.Settled.{IsCorrect}
use Rattle.cany_model.specs.Rules.Effect.{Effect, Ask, Withdraw, Enter}
use Rattle.cany_model.specs.Rules.Life.{failure_effects}
use Rattle.cany_model.specs.Rules.KnowledgeOf.{ended_in, knowledge_of}
use Rattle.cany_model.specs.Rules.Knowledge.{FailureSign, Knowledge, fda_of, found, found_in, after_finding, after_hearing, after_learning, has_timed_out, knows, same_sign, sign_in, sign_of, told, told_in, with_sign, with_signs}
use Rattle.cany_model.specs.Rules.Turn.{scenario_at, turn_effects}
use Rattle.cany_model.proofs.Among.{Among, Each-append, Each-drop, Each-filter, Each-map, Each-weaker}
use Rattle.cany_model.proofs.Bus.Identities.{same_class-true}
use Rattle.cany_model.proofs.Bus.Notes.{given-Got, note_of-offered}
use Rattle.cany_model.proofs.Runs.Runs.{IsOrderly, opening_within, orderly}
use Rattle.cany_model.proofs.Bus.States.{node_at-opening, runs_within}
use Rattle.cany_model.proofs.Runs.Steps.{MayTurn, after_slot-trace, after_slot-unread, after_slot-waiting, after_turn-trace, running_before_slot, each_turned, Each-kept}
use Rattle.cany_model.proofs.Rules.Waits.{Asks, AsksOnly, Each-after}
use Rattle.cany_model.proofs.Promises.Diffusion.{Turned, past_of}
use Rattle.cany_model.proofs.Promises.EachNode.{turn_turned}
use Rattle.cany_model.proofs.Rules.Site.SignFacts.{asked_is_known}
use Rattle.cany_model.proofs.Rules.Site.KnowledgeFacts.{known_after, newly, same_sign-true, tells, HasTimedOut, timed_out}
use Rattle.cany_model.proofs.Rules.Site.KnowledgeSteps.{failed_after, failed_by, life_keeps}
use Rattle.cany_model.proofs.Rules.TurnFacts.{fda_cause}
use Rattle.cany_model.proofs.Timed.Common.StepsWithoutRestarts.{along_fronts}
use Rattle.cany_model.proofs.Timed.Detector.HeardWithin.{heard_in_time, later_state}
use Rattle.cany_model.proofs.Timed.Detector.NoRestarts.{AllOriginal, all_original, follows, history_all, sees_all}
use Rattle.cany_model.proofs.Timed.Windows.QuietSlots.{front_trace, within_dropped}
use Rattle.cany_model.proofs.Timed.Common.KnowledgeAges.{learnt_members, learnt_shown}

-- ---- a sign of a node comes by its frame or by silence

abbrev pub NotOf : ℕ → FailureSign → Type 0
NotOf r sign = sign.node ≡ r → ⊥

-- the frame tells of no failure of node r
abbrev pub NoFrame : ℕ → FrameParts → Type 0
NoFrame r f = f.class ≡ class.Fda → f.node ≡ r → ⊥

abbrev pub NoFrameIn : ℕ → SlotNote → Type 0
NoFrameIn r note = (f : FrameParts) → note.frame ≡ Some f → NoFrame r f

abbrev pub HearsNone : ℕ → NoticeKind → Type 0
HearsNone r e = (f : FrameParts) → e ≡ Got f → NoFrame r f

pub told_other : (r : ℕ) (e : NoticeKind) (st : Knowledge) → HearsNone r e → AllByRecursion (NotOf r) (told e st)
unfolding told
told_other r Idle st none = tt
told_other r Bad st none = tt
told_other r (Sent f) st none = tt
told_other r (Got f) st none =
    let test : Bool = same_class f.class class.Fda && not (knows (sign_of f) st) in
    cond_both test (sign_of f ∷ []) [] (AllByRecursion (NotOf r))
    (λ is.
    let fda = (and_parts (same_class f.class class.Fda) (not (knows (sign_of f) st)) is).0 in
    (none f refl (same_class-true f.class class.Fda fda), tt))
    (λ _. tt)

passed : (P : ℕ → Type 0) (test : ℕ → Bool) → ((q : ℕ) → test q ≡ true → P q) → (qs : List ℕ) → AllByRecursion P (filter test qs)
passed P test h [] = tt
passed P test h (q ∷ qs) =
    cond_both (test q) (q ∷ filter test qs) (filter test qs) (AllByRecursion P) (λ is. (h q is, passed P test h qs)) (λ _. passed P test h qs)

pub found_other : (r : ℕ) (p : Parameters) (i slot : ℕ) (st : Knowledge) → has_timed_out p i slot st r ≡ false
    → AllByRecursion (NotOf r) (found p i slot st)
unfolding found
found_other r p i slot st heard =
    let quiet : List ℕ = filter (has_timed_out p i slot st) (range_with_len 0 p.nodes) in
    Each-filter (NotOf r) (λ sign. not (knows sign st)) (map (sign_in p slot) quiet)
    (Each-map (sign_in p slot) (NotOf r) quiet
    (passed (λ q. q ≡ r → ⊥) (has_timed_out p i slot st)
    (λ q is same. both_ways (has_timed_out p i slot st r) heard (subst (λ x. has_timed_out p i slot st x ≡ true) same is)) (range_with_len 0 p.nodes)))

-- ---- no sign of the node is known, and it has not failed

pub record IsUnsigned (r : ℕ) (st : Knowledge) : Type 0 where
  pub failed : has st.failed r ≡ false
  pub unknown : (sign : FailureSign) → sign.node ≡ r → knows sign st ≡ false

pub none_told : (r : ℕ) (sign : FailureSign) → sign.node ≡ r → (signs : List FailureSign) → AllByRecursion (NotOf r) signs → tells sign signs ≡ false
none_told r sign of [] h = refl
none_told r sign of (other ∷ signs) h =
    or_from (same_sign sign other) (tells sign signs)
    (false_from_ne_true (same_sign sign other) (λ same. h.0 (ap (λ (s : FailureSign). s.node) (sym (same_sign-true sign other same)) ∙ of)))
    (none_told r sign of signs h.1)

with_failed : (r : ℕ) (signs : List FailureSign) (st : Knowledge) → AllByRecursion (NotOf r) signs → has st.failed r ≡ false
    → has (with_signs signs st).failed r ≡ false
unfolding with_signs
with_failed r [] st none before = before
with_failed r (sign ∷ signs) st none before =
    with_failed r signs (with_sign sign st) none.1
    (false_from_ne_true (has (with_sign sign st).failed r) (λ now.
    elim (or_cases (has st.failed r) (r == sign.node) (has_where (λ q. has st.failed q || q == sign.node) r now)) [
      | inl old ↦ both_ways (has st.failed r) before old
      | inr new ↦ none.0 (sym (eqb-true r sign.node new))
    ]))

pub ended_failed : (r : ℕ) (o : Option Nodes) (old failed : Nodes) → has failed r ≡ false → has (failed_by o old failed) r ≡ false
ended_failed r None old failed before = before
ended_failed r (Some v) old failed before =
    false_from_ne_true (has (failed_by (Some v) old failed) r) (λ now.
    both_ways (has failed r) before
    (and_parts (has failed r) (not (has (minus v old) r)) (has_where (λ q. has failed q && not (has (minus v old) q)) r now)).0)

-- after the turn that learns and finds these signs
pub found_failed : (p : Parameters) (i slot : ℕ) (e : NoticeKind) (st : Knowledge) (r : ℕ) → AllByRecursion (NotOf r) (told_in i slot e st)
    → AllByRecursion (NotOf r) (found_in p i slot e st) → has st.failed r ≡ false → has (after_finding p i slot e st).failed r ≡ false
found_failed p i slot e st r learns finds before =
    let heard : (after_hearing i slot e st).failed ≡ st.failed =
    life_keeps Nodes (λ s. s.failed) (record { shown = λ f s. refl; last = λ n s. refl }) i slot e st in
    with_failed r (found_in p i slot e st) (after_learning i slot e st) finds
    (with_failed r (told_in i slot e st) (after_hearing i slot e st) learns (ap (λ f. has f r) heard ∙ before))

pub next_unsigned : (scenario : ScenarioParts) (i r : ℕ) (e : NoticeKind) (past : List NoticeKind)
    → AllByRecursion (NotOf r) (told_in i (length past) e (knowledge_of scenario i past))
    → AllByRecursion (NotOf r) (found_in scenario.params i (length past) e (knowledge_of scenario i past))
    → IsUnsigned r (knowledge_of scenario i past) → IsUnsigned r (knowledge_of scenario i (e ∷ past))
unfolding knowledge_of
next_unsigned scenario i r e past learns finds before =
    let p : Parameters = scenario.params in
    let slot : ℕ = length past in
    let st : Knowledge = knowledge_of scenario i past in
    record {
      failed = ap (λ f. has f r) (failed_after p i slot e st)
          ∙ ended_failed r (ended_in p slot e st) st.members (after_finding p i slot e st).failed
          (found_failed p i slot e st r learns finds before.failed);
      unknown = λ sign of. known_after scenario i e past sign
          ∙ or_from (tells sign (newly p i slot e st)) (knows sign st)
          (none_told r sign of (newly p i slot e st) (Each-append (NotOf r) (told_in i slot e st) (found_in p i slot e st) learns finds))
          (before.unknown sign of);
    }

-- ---- so its frame is not asked for

not_asked : (r : ℕ) (effects : List Effect) → ((x : Identity) → x.class ≡ class.Fda → x.node ≡ r → Among (Asks x) effects → ⊥)
    → AllByRecursion (AsksOnly (NoFrame r)) effects
not_asked r [] none = tt
not_asked r (Ask f ∷ effects) none = (λ fda of. none (identity_of f) fda of (inl refl), not_asked r effects (λ x fda of h. none x fda of (inr h)))
not_asked r (Withdraw y ∷ effects) none = (tt, not_asked r effects (λ x fda of h. none x fda of (inr h)))
not_asked r (Enter entry ∷ effects) none = (tt, not_asked r effects (λ x fda of h. none x fda of (inr h)))

turn_asks_none : (scenario : ScenarioParts) (i r : ℕ) (past : List NoticeKind) → IsUnsigned r (knowledge_of scenario i past)
    → AllByRecursion (AsksOnly (NoFrame r)) (turn_effects scenario i past)
turn_asks_none scenario i r past unsigned = not_asked r (turn_effects scenario i past) (λ x fda of asked.
    let sign : FailureSign = record { node = x.node; cycle = x.number } in
    let is : x ≡ fda_of sign = λ k. record { class = fda k; number = x.number; node = x.node } in
    both_ways (knows sign (knowledge_of scenario i past)) (unsigned.unknown sign of)
    (asked_is_known scenario i past sign
    (subst (λ y. Among (Asks y) (failure_effects scenario i past)) is (fda_cause scenario i x past fda asked))))

-- ---- what is kept

pub record NoSign (scenario : ScenarioParts) (r : ℕ) (s : RunState) : Type 0 where
  pub carried : AllByRecursion (NoFrameIn r) s.trace
  pub waits : (i : ℕ) → runs (node_at s.nodes i) ≡ true → AllByRecursion (NoFrame r) (node_at s.nodes i).waiting
  pub unsigned : (i : ℕ) → runs (node_at s.nodes i) ≡ true → IsUnsigned r (knowledge_of scenario i (past_of i s.trace (node_at s.nodes i)))

pub unsigned_first : (scenario : ScenarioParts) (i r : ℕ) → IsUnsigned r (knowledge_of scenario i [])
unfolding knowledge_of
unsigned_first scenario i r = record { failed = has_none r; unknown = λ sign of. refl }

no_sign_opening : (scenario : ScenarioParts) (r : ℕ) → NoSign scenario r (opening scenario.params.nodes)
no_sign_opening scenario r = record {
  carried = tt;
  waits = λ i running. rw (node_at-opening scenario.params.nodes i (opening_within scenario.params.nodes i running)) tt;
  unsigned = λ i running. rw (node_at-opening scenario.params.nodes i (opening_within scenario.params.nodes i running)) (unsigned_first scenario i r);
}

-- a slot leaves what a node has read
pub slot_past : (rules : FaultScript) (s : RunState) (i : ℕ) → i < length s.nodes
    → past_of i (after_slot rules s).trace (node_at (after_slot rules s).nodes i) ≡ past_of i s.trace (node_at s.nodes i)
slot_past rules s i below =
    ap (λ n. map (given i) (drop n (after_slot rules s).trace)) (after_slot-unread rules s i below ∙ add-one (node_at s.nodes i).unread)
    ∙ ap (λ trace. map (given i) (drop (suc (node_at s.nodes i).unread) trace)) (after_slot-trace rules s)

no_sign_slot : (scenario : ScenarioParts) (r : ℕ) (rules : FaultScript) (s : RunState) → NoSign scenario r s → NoSign scenario r (after_slot rules s)
no_sign_slot scenario r rules s h = record {
  carried = subst (AllByRecursion (NoFrameIn r)) (sym (after_slot-trace rules s)) (
    λ f frame.
        let offer = note_of-offered rules s f frame in
        let waiting : List FrameParts = (node_at s.nodes offer.node).waiting in
        All-contains (NoFrame r) waiting f (All-from_recursion (NoFrame r) waiting (h.waits offer.node offer.running)) offer.waits,
    h.carried,
  );
  waits = λ i running.
      let ran = (running_before_slot rules s i running).0 in
      rw (after_slot-waiting rules s i ran) (Each-kept (NoFrame r) (given i (slot_note_of rules s)) (node_at s.nodes i).waiting (h.waits i ran));
  unsigned = λ i running.
      let ran = (running_before_slot rules s i running).0 in
      subst (λ past. IsUnsigned r (knowledge_of scenario i past)) (sym (slot_past rules s i (runs_within s.nodes i ran))) (h.unsigned i ran);
}

-- what a turn makes of the node, where its incarnation is that of the opening
pub turned_all : (scenario : ScenarioParts) (s : RunState) → IsOrderly scenario.params.nodes s → AllOriginal s → (i : ℕ) → MayTurn s i
    → Turned (turn_effects scenario) s.trace i (node_at s.nodes i) (node_at (after_turn scenario i s).nodes i)
turned_all scenario s o all i may =
    subst (λ sc. Turned (turn_effects sc) s.trace i (node_at s.nodes i) (node_at (after_turn scenario i s).nodes i)) (follows scenario s all i)
    (subst (λ trace. Turned (turn_effects (scenario_at scenario s i)) trace i (node_at s.nodes i) (node_at (after_turn scenario i s).nodes i))
    (sees_all scenario s all i s.trace) (turn_turned scenario i s may (o.unread i)))

-- what each slot has, the notices have that a node has read
hears_none : (r i n : ℕ) (trace : List SlotNote) → AllByRecursion (NoFrameIn r) trace → AllByRecursion (HearsNone r) (map (given i) (drop n trace))
hears_none r i n trace h =
    Each-map (given i) (HearsNone r) (drop n trace)
    (Each-weaker (NoFrameIn r) (λ note. HearsNone r (given i note)) (λ note none f got. none f (given-Got i note f got).0) (drop n trace)
    (Each-drop (NoFrameIn r) n trace h))

pub hears_none_now : (r i n : ℕ) (trace : List SlotNote) (e : NoticeKind) (past : List NoticeKind) → map (given i) (drop n trace) ≡ e ∷ past
    → AllByRecursion (NoFrameIn r) trace → HearsNone r e
hears_none_now r i n trace e past read h = (subst (AllByRecursion (HearsNone r)) read (hears_none r i n trace h)).0

no_sign_turn : (scenario : ScenarioParts) (r : ℕ) (s : RunState) → IsOrderly scenario.params.nodes s → AllOriginal s → (i : ℕ) → MayTurn s i
    → ((e : NoticeKind) → let past = past_of i s.trace (node_at s.nodes i) in
    has_timed_out scenario.params i (length past) (after_learning i (length past) e (knowledge_of scenario i past)) r ≡ false)
    → NoSign scenario r s → NoSign scenario r (after_turn scenario i s)
no_sign_turn scenario r s o all i may heard h =
    let node : NodeState = node_at s.nodes i in
    let past : List NoticeKind = past_of i s.trace node in
    let t = turned_all scenario s o all i may in
    let after : NodeState = node_at (after_turn scenario i s).nodes i in
    let e : NoticeKind = t.notice in
    let st : Knowledge = knowledge_of scenario i past in
    let learns = told_other r e (after_hearing i (length past) e st) (hears_none_now r i after.unread s.trace e past t.past h.carried) in
    let finds = found_other r scenario.params i (length past) (after_learning i (length past) e st) (heard e) in
    let now : IsUnsigned r (knowledge_of scenario i (past_of i s.trace after)) =
    subst (λ p. IsUnsigned r (knowledge_of scenario i p)) (sym t.past) (next_unsigned scenario i r e past learns finds (h.unsigned i may.running)) in
    let waits : AllByRecursion (NoFrame r) after.waiting =
    rw t.waiting (Each-after (NoFrame r) (turn_effects scenario i (past_of i s.trace after)) node.waiting
    (turn_asks_none scenario i r (past_of i s.trace after) now) (h.waits i may.running)) in
    record {
      carried = subst (AllByRecursion (NoFrameIn r)) (sym (after_turn-trace scenario i s)) h.carried;
      waits = each_turned scenario i s may (o.unread i) (λ trace j (n : NodeState). AllByRecursion (NoFrame r) n.waiting) waits h.waits;
      unsigned = each_turned scenario i s may (o.unread i) (λ trace j n. IsUnsigned r (knowledge_of scenario j (past_of j trace n))) now h.unsigned;
    }

-- ---- a running node is not silent for another

-- what is known of the run of a journal
pub record IsTimely (scenario : ScenarioParts) (journal : List Step) : Type 0 where
  pub within : IsWithin scenario.params (run scenario journal).trace
  pub quiet : HasQuietSlots scenario journal
  pub one : (k : ℕ) → InstallsOneVector scenario (run scenario journal) k

pub not_silent : (scenario : ScenarioParts) → scenario.restarts ≡ [] → scenario.params.nodes ≤ most_nodes → MeetsFormulas scenario.params
    → (journal : List Step) → IsTimely scenario journal → (r i : ℕ) → runs (node_at (run scenario journal).nodes r) ≡ true
    → runs (node_at (run scenario journal).nodes i) ≡ true
    → (e : NoticeKind) → let past = past_of i (run scenario journal).trace (node_at (run scenario journal).nodes i) in
    has_timed_out scenario.params i (length past) (after_learning i (length past) e (knowledge_of scenario i past)) r ≡ false
not_silent scenario none few formulas journal known r i running_r running_i e =
    false_from_ne_true (has_timed_out scenario.params i (length past) st r) (λ silent. silence (timed_out scenario.params i (length past) st r silent))
  where
    past : List NoticeKind
    past = past_of i (run scenario journal).trace (node_at (run scenario journal).nodes i)

    st : Knowledge
    st = after_learning i (length past) e (knowledge_of scenario i past)

    silence : HasTimedOut scenario.params i (length past) st r → ⊥
    silence h =
        let member : has (knowledge_of scenario i past).members r ≡ true = ap (λ m. has m r) (sym (learnt_members scenario i e past)) ∙ h.member in
        let heard = heard_in_time scenario none few (omega (arith, formulas.bound, formulas.life)) journal known.within known.quiet known.one
        r i h.other running_r running_i member in
        elim (learnt_shown scenario i e past r) [
          | inl now ↦ omega (arith, h.silent, now, formulas.bound, formulas.silence)
          | inr kept ↦ omega (arith, h.silent, kept, heard, formulas.silence)
        ]

-- ---- every run without restarts

-- what is known of a journal is known of each front of it
pub timely_front : (scenario : ScenarioParts) (journal : List Step) → IsWithin scenario.params (run scenario journal).trace
    → ((front rest : List Step) → journal ≡ front ++ rest → HasQuietSlots scenario front)
    → ((front rest : List Step) → journal ≡ front ++ rest → (k : ℕ) → InstallsOneVector scenario (run scenario front) k)
    → (front rest : List Step) → journal ≡ front ++ rest → IsTimely scenario front
timely_front scenario journal within quiet one front rest e =
    let part = front_trace scenario front rest in
    let all : IsWithin scenario.params (run scenario (front ++ rest)).trace = subst (λ j. IsWithin scenario.params (run scenario j).trace) e within in
    record {
      within = subst (IsWithin scenario.params) (sym part.1) (within_dropped scenario.params (run scenario (front ++ rest)).trace part.0 all);
      quiet = quiet front rest e;
      one = one front rest e;
    }

pub no_sign : (scenario : ScenarioParts) → scenario.restarts ≡ [] → scenario.params.nodes ≤ most_nodes → MeetsFormulas scenario.params
    → (journal : List Step)
    → ((front rest : List Step) → journal ≡ front ++ rest → IsTimely scenario front)
    → (r : ℕ) → runs (node_at (run scenario journal).nodes r) ≡ true → NoSign scenario r (run scenario journal)
no_sign scenario none few formulas journal known r running =
    along_fronts scenario none (NoSign scenario r) journal (no_sign_opening scenario r) (λ front rest e. record {
      slot = λ may h. no_sign_slot scenario r (script scenario.rules) (run scenario front) h;
      turn = λ i may h. no_sign_turn scenario r (run scenario front) (orderly scenario front) (all_original scenario none front) i may
          (λ notice. not_silent scenario none few formulas front (known front rest e) r i
          ((later_state scenario none journal front rest e).ran r running) may.running notice) h;
    })

-- a running node has failed at no correct node
pub not_failed : (scenario : ScenarioParts) → scenario.restarts ≡ [] → scenario.params.nodes ≤ most_nodes → MeetsFormulas scenario.params
    → (journal : List Step) → IsWithin scenario.params (run scenario journal).trace
    → ((front rest : List Step) → journal ≡ front ++ rest → HasQuietSlots scenario front)
    → ((front rest : List Step) → journal ≡ front ++ rest → (k : ℕ) → InstallsOneVector scenario (run scenario front) k)
    → (r : ℕ) → IsCorrect scenario (run scenario journal) r → HasNotFailed scenario (run scenario journal) r
not_failed scenario none few formulas journal within quiet one r correct i correct_i =
    let s : RunState = run scenario journal in
    let all = all_original scenario none journal in
    let h = no_sign scenario none few formulas journal (timely_front scenario journal within quiet one) r correct.running in
    ap (λ (sc : ScenarioParts). has (knowledge_of sc i (history i s)).failed r) (follows scenario s all i)
    ∙ ap (λ past. has (knowledge_of scenario i past).failed r) (history_all scenario s all i)
    ∙ (h.unsigned i correct_i.running).failed
