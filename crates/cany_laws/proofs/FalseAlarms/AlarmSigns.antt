-- A failure sign of a node is known to an incarnation only where an incarnation of that node
-- stopped long before. By induction on slots: a sign comes by a frame, which one sent that knew it
-- before, or by silence.
use Rattle.std.proofs.Common.{◌≡◌, ℕ, zero, suc, ◌+◌, ◌-◌, ◌<◌, ◌≤◌, ◌⊎◌, ◌&&◌, ◌==◌, not, nat_le, inl, inr, Bool, true, false, List, ◌∷◌, ◌++◌, length, Some, refl, ap, sym, ◌∙◌, subst, arith, get_or, leb-true}
use Rattle.std.specs.Prelude.{Contains}
use Rattle.std.proofs.lemmas.Bool.{and_from, and_parts, both_ways, cases_Bool, eq-eqb, eqb-true, not-true}
use Rattle.cany_base.proofs.ParamsFacts.{few_nodes}
use Rattle.cany_base.specs.declared.class.Class.TheVariants as class
use Rattle.cany_base.specs.declared.notice.NoticeKind.{NoticeKind}
use Rattle.cany_base.specs.declared.notice.NoticeKind.TheVariants.{Idle, Got, Sent, Bad}
use Rattle.cany_base.specs.declared.slot_note.SlotNote.{SlotNote}
use Rattle.cany_base.specs.declared.step.Step.{Step}
use Rattle.cany_base.specs.declared.step.Step.TheVariants as step
use Rattle.cany_base.specs.Frame.{FrameParts}
use Rattle.cany_base.specs.Nodes.{has}
use Rattle.cany_base.specs.Params.{Parameters}
use Rattle.cany_base.specs.Scenario.{IsLegalScenario, ScenarioParts}
use Rattle.cany_model.specs.Bus.Frames.{Identity, identity_of, same_class}
use Rattle.cany_model.specs.Bus.History.{as_seen, seen}
use Rattle.cany_model.specs.Bus.Slot.{script, slot_note_of}
use Rattle.cany_model.specs.Bus.State.{EndedIncarnation, Incarnation, NodeState, RunState, node_at, reads}
use Rattle.cany_model.specs.Bus.Waiting.{waits}
use Rattle.cany_model.specs.Promises.Hypothesis.{IsWithin}
use Rattle.cany_model.specs.Rules.Knowledge.{FailureSign, Knowledge, after_finding, after_hearing, after_learning, fda_of, has_timed_out, knows, sign_of}
use Rattle.cany_model.specs.Rules.KnowledgeOf.{knowledge_of}
use Rattle.cany_model.specs.Rules.Turn.{scenario_for}
use Rattle.cany_model.specs.Runs.Incarnations.{incarnations}
use Rattle.cany_model.specs.Runs.Run.{run}
use Rattle.cany_model.proofs.Among.{Among, Among-which}
use Rattle.cany_model.proofs.Bus.Identities.{same_class-true, same_class_self}
use Rattle.cany_model.proofs.Bus.Notes.{IsOffered, given-Got, note_of-offered, waits_with-from_Contains}
use Rattle.cany_model.proofs.Bus.Seen.{history-is, seen_frame}
use Rattle.cany_model.proofs.Bus.States.{no_note, runs_within}
use Rattle.cany_model.proofs.Promises.Diffusion.{past_of}
use Rattle.cany_model.proofs.Promises.DiffusionRun.{run_diffuses}
use Rattle.cany_model.proofs.Promises.SignAgrees.{sign_duty, sign_is_diffused}
use Rattle.cany_model.proofs.Rules.Site.KnowledgeFacts.{HasTimedOut, timed_out}
use Rattle.cany_model.proofs.Runs.Runs.{orderly}
use Rattle.cany_model.proofs.Rules.Waits.{waits-from_with}
use Rattle.cany_model.proofs.Runs.SlotStates.{slot_has_state, slot_state-trace, slot_state_is}
use Rattle.cany_model.proofs.Timed.Common.KnowledgeAges.{learnt_members, learnt_shown}
use Rattle.cany_model.proofs.Timed.Detector.Accuracy.{HearsNone, IsUnsigned, found_failed, found_other, next_unsigned, told_other, unsigned_first}
use Rattle.cany_model.proofs.Timed.Guarantees.{slots_are_quiet}
use Rattle.cany_laws.specs.Logs.{IsIncarnation, followed_by}
use Rattle.cany_laws.proofs.Silences.LongestUnheard.{gap, goes_on, quiet_front, went}
use Rattle.cany_laws.proofs.FalseAlarms.AlarmLife.{known_at, known_more}
use Rattle.cany_laws.proofs.FalseAlarms.AlarmNotices.{next_is, note_in, note_older}
use Rattle.cany_laws.proofs.FalseAlarms.AlarmStops.{StoppedBefore, runs_or_stopped, stays_among}
use Rattle.cany_laws.proofs.Members.EqualMembers.{first_read, first_read-length, first_read-none, next_read}
use Rattle.cany_laws.proofs.Silences.Lives.{Lived, lived}

-- ---- a turn that learns and finds nothing of the node

-- ---- a frame that tells of a sign

-- an incarnation that had read no later slot knew the sign
pub record WasKnown (scenario : ScenarioParts) (journal : List Step) (n : ℕ) (sign : FailureSign) : Type 0 where
  pub i : ℕ
  pub e : EndedIncarnation
  pub is : IsIncarnation scenario (run scenario journal) i e
  pub m : ℕ
  pub early : m ≤ n
  pub read : m ≤ e.next
  pub knew : knows sign (knowledge_of (followed_by scenario e) i (first_read m (run scenario journal) i e)) ≡ true

sign_frame : (f : FrameParts) → f.class ≡ class.Fda → identity_of f ≡ fda_of (sign_of f)
sign_frame f fda = λ k. record { class = fda k; number = f.number; node = f.node }

-- in the state in which the slot was run
waited_known : (scenario : ScenarioParts) (journal front rest : List Step) → journal ≡ front ++ rest → (n : ℕ) → length (run scenario front).trace ≡ n
    → (f : FrameParts) → f.class ≡ class.Fda → IsOffered (run scenario front).nodes f → WasKnown scenario journal n (sign_of f)
waited_known scenario journal front rest whole n number f fda offer =
    let b : RunState = run scenario front in
    let j : ℕ = offer.node in
    let node : NodeState = node_at b.nodes j in
    let inc : Incarnation = node.present in
    let o = orderly scenario front in
    let there : j < scenario.params.nodes = subst (λ k. j < k) o.count (runs_within b.nodes j offer.running) in
    let sign : FailureSign = sign_of f in
    let diffuses = run_diffuses scenario scenario.params.omit (fda_of sign) (sign_duty sign) (λ inc. sign_is_diffused (scenario_for scenario inc) sign)
    (λ inc past begun. begun) front j offer.running in
    let waiting : waits (fda_of sign) node.waiting ≡ true =
    subst (λ (x : Identity). waits x node.waiting ≡ true) (sign_frame f fda)
    (waits-from_with f node.waiting (waits_with-from_Contains f node.waiting offer.waits)) in
    let knew : knows sign (knowledge_of (scenario_for scenario inc) j (past_of j (seen inc b.trace) node)) ≡ true = diffuses.caused (inl waiting) in
    let g = goes_on scenario j there journal front rest whole in
    record {
      i = j;
      e = g.to;
      is = g.is;
      m = reads b j;
      early = omega (arith, number);
      read = g.more;
      knew = ap (λ past. knows sign (knowledge_of (followed_by scenario g.to) j past)) (went scenario journal front rest j whole g ∙ history-is j b)
          ∙ ap (λ (k : Incarnation). knows sign (knowledge_of (scenario_for scenario k) j (past_of j (seen inc b.trace) node))) g.same
          ∙ knew;
    }

-- the state in which a slot was run, where a running node offered the frame that it carried
pub record CarriedFrom (scenario : ScenarioParts) (journal : List Step) (n : ℕ) (f : FrameParts) : Type 0 where
  pub front : List Step
  pub rest : List Step
  pub whole : journal ≡ front ++ rest
  pub number : length (run scenario front).trace ≡ n
  pub offer : IsOffered (run scenario front).nodes f

pub carried_from : (scenario : ScenarioParts) (journal : List Step) (n : ℕ) → n < length (run scenario journal).trace → (f : FrameParts)
    → (note_in (run scenario journal).trace n).frame ≡ Some f → CarriedFrom scenario journal n f
carried_from scenario journal n ran f frame =
    let s : RunState = run scenario journal in
    let some = slot_has_state scenario n journal ran in
    let then : RunState = some.0 in
    let way = slot_state_is scenario n journal then some.1 in
    let split = slot_state-trace scenario n journal then some.1 in
    let note : SlotNote = slot_note_of (script scenario.rules) then in
    let number : length then.trace ≡ n = way.number in
    let newest : length (note ∷ then.trace) - (n + 1) ≡ 0 = omega (arith, number) in
    let same : note ≡ note_in s.trace n =
    sym (ap (λ k. get_or (note ∷ then.trace) k no_note) newest) ∙ note_older s.trace split.0 (note ∷ then.trace) n split.1 (omega (arith, number)) in
    let back : then ≡ run scenario way.before = sym way.state in
    let offer : IsOffered then.nodes f = note_of-offered (script scenario.rules) then f (ap (λ (x : SlotNote). x.frame) same ∙ frame) in
    record {
      front = way.before;
      rest = step.Slot ∷ way.after;
      whole = way.whole;
      number = ap (λ (r : RunState). length r.trace) way.state ∙ number;
      offer = subst (λ (r : RunState). IsOffered r.nodes f) back offer;
    }

carried_known : (scenario : ScenarioParts) (journal : List Step) (n : ℕ) → n < length (run scenario journal).trace → (f : FrameParts)
    → (note_in (run scenario journal).trace n).frame ≡ Some f → f.class ≡ class.Fda → WasKnown scenario journal n (sign_of f)
carried_known scenario journal n ran f frame fda =
    let c = carried_from scenario journal n ran f frame in
    waited_known scenario journal c.front c.rest c.whole n c.number f fda c.offer

-- ---- the induction

module _ (scenario : ScenarioParts) (legal : IsLegalScenario scenario) (journal : List Step) (within : IsWithin scenario.params (run scenario journal).trace)
    (r : ℕ) (there : r < scenario.params.nodes) where
  abbrev s : RunState
  s = run scenario journal

  -- an incarnation of node r stopped long before the last of the first n slots
  pub record StoppedFor (n : ℕ) : Type 0 where
    pub which : EndedIncarnation
    pub is : IsIncarnation scenario (run scenario journal) r which
    pub slot : ℕ
    pub stopped : which.stopped ≡ Some slot
    pub long : slot + scenario.params.silence + 1 < n + (scenario.params.life + scenario.params.lag + scenario.params.bound)

  later : (m n : ℕ) → m ≤ n → StoppedFor m → StoppedFor n
  later m n more h = record { which = h.which; is = h.is; slot = h.slot; stopped = h.stopped; long = omega (arith, h.long, more) }

  -- one that stopped before a front of the journal had run so many slots
  stopped_then : (front rest : List Step) → journal ≡ front ++ rest → (t n : ℕ) → length (run scenario front).trace ≡ t
      → t + scenario.params.silence ≤ n + (scenario.params.life + scenario.params.lag + scenario.params.bound)
      → Among (StoppedBefore scenario r there (length (run scenario front).trace)) (incarnations (run scenario front) r) → StoppedFor (n + 1)
  stopped_then front rest whole t n number long stopped =
      let P : EndedIncarnation → Type 0 = StoppedBefore scenario r there (length (run scenario front).trace) in
      let w = Among-which P (incarnations (run scenario (front ++ rest)) r)
      (stays_among scenario r there P (λ x y grows k. (k.0, grows.stops k.0 k.1, k.2)) front rest stopped) in
      record {
        which = w.0;
        is = record { there = there; stands = subst (λ j. Contains (incarnations (run scenario j) r) w.0) (sym whole) w.1 };
        slot = w.2.0;
        stopped = w.2.1;
        long = omega (arith, w.2.2, number, long);
      }

  abbrev pub OfEach : ℕ → Type 0
  OfEach n =
      (i : ℕ) (e : EndedIncarnation) → IsIncarnation scenario (run scenario journal) i e → n ≤ e.next
      → IsUnsigned r (knowledge_of (followed_by scenario e) i (first_read n (run scenario journal) i e)) ⊎ StoppedFor n

  module _ (n : ℕ) (below : (m : ℕ) → m ≤ n → OfEach m) (i : ℕ) (e : EndedIncarnation) (is : IsIncarnation scenario (run scenario journal) i e)
      (read : n < e.next) where
    abbrev sc : ScenarioParts
    sc = followed_by scenario e

    abbrev past : List NoticeKind
    past = first_read n (run scenario journal) i e

    abbrev notice : NoticeKind
    notice = next_read n (run scenario journal) i e

    l : Lived scenario journal i e
    l = lived scenario journal i e is

    size : length (first_read n (run scenario journal) i e) ≡ n
    size = first_read-length scenario journal i n e l (omega (arith, read))

    ran : n < length (run scenario journal).trace
    ran = omega (arith, read, l.short)

    -- the notice tells of no sign of the node
    hears : HearsNone r (next_read n (run scenario journal) i e) ⊎ StoppedFor (n + 1)
    hears = by_notice (next_read n (run scenario journal) i e) refl
      where
        by_frame : (f : FrameParts) → next_read n (run scenario journal) i e ≡ Got f → f.class ≡ class.Fda → f.node ≡ r → StoppedFor (n + 1)
        by_frame f got fda of =
            let note : SlotNote = note_in (run scenario journal).trace n in
            let seen_so = (given-Got i (as_seen e.incarnation note) f (sym (next_is scenario legal journal i n e l read) ∙ got)).0 in
            let w = carried_known scenario journal n ran f (seen_frame e.incarnation note f seen_so) fda in
            elim (below w.m w.early w.i w.e w.is w.read) [
              | inl unsigned ↦
                  absurd (both_ways (knows (sign_of f) (knowledge_of (followed_by scenario w.e) w.i (first_read w.m (run scenario journal) w.i w.e)))
                  (unsigned.unknown (sign_of f) of) w.knew)
              | inr stopped ↦ later w.m (n + 1) (omega (arith, w.early)) stopped
            ]

        by_notice : (k : NoticeKind) → next_read n (run scenario journal) i e ≡ k → HearsNone r k ⊎ StoppedFor (n + 1)
        by_notice Idle at = inl (λ f got. absurd (cc))
        by_notice Bad at = inl (λ f got. absurd (cc))
        by_notice (Sent g) at = inl (λ f got. absurd (cc))
        by_notice (Got g) at = elim (cases_Bool (same_class g.class class.Fda && g.node == r)) [
          | inl both ↦
              let parts = and_parts (same_class g.class class.Fda) (g.node == r) both in
              inr (by_frame g at (same_class-true g.class class.Fda parts.0) (eqb-true g.node r parts.1))
          | inr none ↦ inl (λ f got fda of. other_frame g f (got_same g f got) none fda of)
        ]
          where
            got_same : (g f : FrameParts) → Got g ≡ Got f → g ≡ f
            got_same g f e = cc

            other_frame : (g f : FrameParts) → g ≡ f → (same_class g.class class.Fda && g.node == r) ≡ false → f.class ≡ class.Fda → f.node ≡ r → ⊥
            other_frame g f same none fda of =
                both_ways (same_class g.class class.Fda && g.node == r) none
                (and_from (same_class g.class class.Fda) (g.node == r)
                (ap (λ c. same_class c class.Fda) (ap (λ (x : FrameParts). x.class) same ∙ fda) ∙ same_class_self class.Fda)
                (eq-eqb g.node r (ap (λ (x : FrameParts). x.node) same ∙ of)))

    -- nor is it silent
    silent : (st : Knowledge) → st ≡ after_learning i (length past) notice (knowledge_of sc i past)
        → HasTimedOut scenario.params i (length past) st r → StoppedFor (n + 1)
    silent st is_st h =
        let p : Parameters = scenario.params in
        let member : has (known_at scenario journal i e (lived scenario journal i e is) n).members r ≡ true =
        ap (λ m. has m r) (sym (ap (λ (k : Knowledge). k.members) is_st ∙ learnt_members sc i notice past)) ∙ h.member in
        let first : ℕ = n - p.silence + p.life + p.lag + 1 in
        let more_silence : p.life + p.lag + p.bound + 1 ≤ p.silence = omega (arith, legal.formulas.silence) in
        let enough : p.silence ≤ n = omega (arith, h.silent, size) in
        let found = slots_are_quiet scenario journal (few_nodes p legal.in_range) legal.formulas legal.members within first
        (omega (arith, more_silence, enough, ran)) in
        let t : ℕ = found.0 in
        let q = quiet_front scenario journal t found.3 in
        let number = q.number in
        elim (runs_or_stopped scenario r there q.front) [
          | inl ran_then ↦
              let g =
              gap scenario legal journal within r i h.other e is t q there ran_then.0 ran_then.1 n (omega (arith, found.2, more_silence, enough))
              (omega (arith, read)) member in
              let same = ap (λ (k : Knowledge). k.shown r) is_st in
              absurd (elim (learnt_shown sc i notice past r) [
                | inl now ↦ omega (arith, same, now, h.silent, more_silence)
                | inr kept ↦ omega (arith, same, kept, h.silent, g, found.1, size, enough, more_silence)
              ])
          | inr stopped ↦ stopped_then q.front q.rest q.whole t n number (omega (arith, found.2, enough, more_silence)) stopped
        ]

    stays_heard : (has_timed_out scenario.params i (length (first_read n (run scenario journal) i e))
        (after_learning i (length (first_read n (run scenario journal) i e)) (next_read n (run scenario journal) i e)
        (knowledge_of (followed_by scenario e) i (first_read n (run scenario journal) i e))) r ≡ false) ⊎ StoppedFor (n + 1)
    stays_heard =
        let st : Knowledge = after_learning i (length past) notice (knowledge_of sc i past) in
        elim (cases_Bool (has_timed_out scenario.params i (length past) st r)) [
          | inr heard ↦ inl heard
          | inl gone ↦ inr (silent st refl (timed_out scenario.params i (length past) st r gone))
        ]

    next : IsUnsigned r (knowledge_of (followed_by scenario e) i (first_read (n + 1) (run scenario journal) i e)) ⊎ StoppedFor (n + 1)
    next = elim (below n (omega arith) i e is (omega (arith, read))) [
      | inr stopped ↦ inr (later n (n + 1) (omega arith) stopped)
      | inl unsigned ↦ elim hears [
        | inr stopped ↦ inr stopped
        | inl none ↦ elim stays_heard [
          | inr stopped ↦ inr stopped
          | inl heard ↦
              inl (subst (IsUnsigned r) (sym (known_more scenario journal i e l n read))
              (next_unsigned sc i r notice past (told_other r notice (after_hearing i (length past) notice (knowledge_of sc i past)) none)
              (found_other r scenario.params i (length past) (after_learning i (length past) notice (knowledge_of sc i past)) heard) unsigned))
        ]
      ]
    ]

  of_all : (most n : ℕ) → n ≤ most → OfEach n
  of_all most zero few i e is read =
      inl (subst (λ past. IsUnsigned r (knowledge_of (followed_by scenario e) i past))
      (sym (first_read-none scenario journal i e (lived scenario journal i e is)))
      (unsigned_first (followed_by scenario e) i r))
  of_all zero (suc n) few i e is read = absurd (omega (arith, few))
  of_all (suc most) (suc n) few i e is read =
      let up : n + 1 ≡ suc n = omega arith in
      subst (λ m. IsUnsigned r (knowledge_of (followed_by scenario e) i (first_read m (run scenario journal) i e)) ⊎ StoppedFor m) up
      (next n (λ m early. of_all most m (omega (arith, early, few))) i e is (omega (arith, read)))

  -- so no sign of it is known, or it stopped long before
  pub unsigned_or_stopped : (n : ℕ) → OfEach n
  unsigned_or_stopped n = of_all n n (omega arith)

  -- nor has it failed once a turn has found who is silent
  pub found_lives : (i n : ℕ) (e : EndedIncarnation) (is : IsIncarnation scenario (run scenario journal) i e) (read : n < e.next)
      → (has (after_finding scenario.params i (length (first_read n (run scenario journal) i e)) (next_read n (run scenario journal) i e)
      (knowledge_of (followed_by scenario e) i (first_read n (run scenario journal) i e))).failed r ≡ false) ⊎ StoppedFor (n + 1)
  found_lives i n e is read =
      let below : (m : ℕ) → m ≤ n → OfEach m = λ m early. unsigned_or_stopped m in
      let sc : ScenarioParts = followed_by scenario e in
      let past : List NoticeKind = first_read n (run scenario journal) i e in
      let notice : NoticeKind = next_read n (run scenario journal) i e in
      let st : Knowledge = knowledge_of sc i past in
      elim (unsigned_or_stopped n i e is (omega (arith, read))) [
        | inr stopped ↦ inr (later n (n + 1) (omega arith) stopped)
        | inl unsigned ↦ elim (hears n below i e is read) [
          | inr stopped ↦ inr stopped
          | inl none ↦ elim (stays_heard n below i e is read) [
            | inr stopped ↦ inr stopped
            | inl heard ↦
                inl (found_failed scenario.params i (length past) notice st r (told_other r notice (after_hearing i (length past) notice st) none)
                (found_other r scenario.params i (length past) (after_learning i (length past) notice st) heard) unsigned.failed)
          ]
        ]
      ]
