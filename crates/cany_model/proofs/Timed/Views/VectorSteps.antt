-- What is kept of a node's vector is kept by each slot and each turn, and so holds of every run.
use Rattle.std.proofs.Common.{◌≡◌, ℕ, ◌+◌, ◌*◌, ◌<◌, ◌≤◌, ◌⊎◌, ◌==◌, ◌&&◌, inl, inr, Bool, true, false, List, [], ◌∷◌, length, Option, Some, None, count_by, nat_lt, refl, ap, sym, ◌∙◌, subst, arith}
use Rattle.std.specs.List.{AllByRecursion, list_any}
use Rattle.std.proofs.lemmas.Bool.{and_parts, cases_eq, cond_both, eqb-true, false≢true, ltb-true, not-false, or_cases}
use Rattle.cany_base.specs.Limits.{most_nodes}
use Rattle.cany_base.specs.declared.class.Class.TheVariants as class
use Rattle.cany_base.specs.declared.notice.NoticeKind.{NoticeKind}
use Rattle.cany_base.specs.declared.notice.NoticeKind.TheVariants.{Idle, Got, Sent, Bad}
use Rattle.cany_base.specs.declared.slot_note.SlotNote.{SlotNote}
use Rattle.cany_base.specs.declared.step.Step.{Step}
use Rattle.cany_base.specs.Frame.{FrameParts}
use Rattle.cany_base.specs.Layout.{layout}
use Rattle.cany_base.specs.Nodes.{AllBelow, Nodes}
use Rattle.cany_base.specs.Params.{Parameters}
use Rattle.cany_base.specs.Payload.{vector_of}
use Rattle.cany_base.specs.Scenario.{ScenarioParts}
use Rattle.cany_base.proofs.SetFacts.{same_bits}
use Rattle.cany_model.specs.Bus.Frames.{Identity, identity_of, same_class}
use Rattle.cany_model.specs.Bus.History.{given}
use Rattle.cany_model.specs.Runs.Run.{run}
use Rattle.cany_model.specs.Bus.State.{NodeState}
use Rattle.cany_model.specs.Rules.Effect.{waiting_after}
use Rattle.cany_model.specs.Rules.Notices.{IsPart}
use Rattle.cany_model.specs.Rules.Knowledge.{Knowledge}
use Rattle.cany_model.specs.Rules.Turn.{scenario_for, turn_effects}
use Rattle.cany_model.specs.Rules.Vectors.{is_covered, is_just, is_new, is_vector_got, is_vector_sent, met, met_with, rha_of, vector_in}
use Rattle.cany_model.proofs.Among.{Among, Among-from_any, Among-weaker, Among-with, Each-weaker, count-grows}
use Rattle.cany_model.proofs.Bus.Notes.{given-Sent}
use Rattle.cany_model.proofs.Runs.Steps.{kept_at}
use Rattle.cany_model.proofs.Promises.Diffusion.{past_of}
use Rattle.cany_model.proofs.Promises.EachNode.{EachRunning, IsNew}
use Rattle.cany_model.proofs.Promises.KeptVectors.{vector_at}
use Rattle.cany_model.proofs.Rules.Site.KnowledgeFacts.{begun_knowledge}
use Rattle.cany_model.proofs.Rules.Site.KnowledgeNodes.{IsVectorOfBus, first_members, knowledge_of_bus}
use Rattle.cany_model.proofs.Rules.Site.VectorFacts.{carries_vector}
use Rattle.cany_model.proofs.Timed.Views.VectorHeld.{WaitedWith, held_none, held_slot, sent_held}
use Rattle.cany_model.proofs.Timed.Views.VectorKept.{Answered, Covers, HasRead, HasVector, IsOpen, IsSentOf, NodeVector, SentCovers, Untouched, VectorKept, WaitCovers, own_frame}
use Rattle.cany_model.proofs.Timed.Views.VectorSets.{just_this, meet_left, vector_again}
use Rattle.cany_model.proofs.Timed.Views.VectorTurns.{starts_with, turn_ends, turn_exchanges, turn_other, turn_outside, turn_starts}
use Rattle.cany_model.proofs.Timed.Views.VectorLastEffect.{IsCycle, brings, brought_last_effect, met_last_effect, start_last_effect}
use Rattle.cany_model.proofs.Timed.Common.LastEffect.{by_last_effect, held, held_after, last_effect}
use Rattle.cany_model.proofs.Timed.Views.ReadableNodes.{IsReadableNodes, each_readable}

-- ---- a slot

untouched_slot : (i : ℕ) (x : Identity) (note : SlotNote) (trace : List SlotNote) (w : List FrameParts) → WaitedWith i note w
    → Untouched i x trace w → Untouched i x (note ∷ trace) (kept_at (given i note) w)
untouched_slot i x note trace w waited h = (
  held_none x (given i note) w h.0,
  λ a. elim a [
    | inl now ↦ subst (Among (λ g. g ≡ now.0)) h.0 (sent_held i note w waited x now.0 now.1 now.2)
    | inr before ↦ h.1 before
  ],
)

-- the one frame that it waits with
only_one : (f g : FrameParts) → Among (λ h. h ≡ f) (g ∷ []) → g ≡ f
only_one f g (inl e) = e
only_one f g (inr h) = absurd h

module _ (scenario : ScenarioParts) (k i : ℕ) (note : SlotNote) (trace : List SlotNote) (past : List NoticeKind) (w : List FrameParts)
    (waited : WaitedWith i note w)
  where
    abbrev own : Identity
    own = rha_of k i

    sent_covers : (v : Nodes) → WaitCovers scenario k i v w → SentCovers scenario k i v note
    sent_covers v h f sent mine =
        let there : Among (λ g. g ≡ f) (held own w) = sent_held i note w waited own f sent mine in
        elim h [
          | inl none ↦ absurd (subst (Among (λ g. g ≡ f)) none there)
          | inr one ↦ subst (Covers scenario k i v) (only_one f one.0 (subst (Among (λ g. g ≡ f)) one.1 there)) one.2
        ]

    has_vector_slot : (v : Nodes) → HasVector scenario k i trace past w v → HasVector scenario k i (note ∷ trace) past (kept_at (given i note) w) v
    has_vector_slot v h = record {
      below = h.below;
      waits = elim (held_slot own (given i note) w) [
        | inl same ↦ elim h.waits [ inl none ↦ inl (same.0 ∙ none) | inr one ↦ inr (one.0, same.0 ∙ one.1, one.2) ]
        | inr sent ↦ inl sent.3
      ];
      sent = (sent_covers v h.waits, h.sent);
      answer = elim h.answer [
        | inl waiting ↦ elim (held_slot own (given i note) w) [
          | inl same ↦ inl (same.0 ∙ waiting)
          | inr sent ↦
              let is : own_frame scenario k i v ≡ sent.0 =
              only_one sent.0 (own_frame scenario k i v)
              (subst (Among (λ g. g ≡ sent.0)) waiting (sent_held i note w waited own sent.0 sent.1 sent.2)) in
              inr (inl (inl (sent.1 ∙ ap (λ f. Sent f) (sym is))))
        ]
        | inr (inl carried) ↦ inr (inl (inr carried))
        | inr (inr many) ↦ inr (inr many)
      ];
    }

    open_slot : (v : Option Nodes) → IsOpen scenario k i trace past w v → IsOpen scenario k i (note ∷ trace) past (kept_at (given i note) w) v
    open_slot None h = untouched_slot i own note trace w waited h
    open_slot (Some v) h = has_vector_slot v h

    pub vector_slot : VectorKept scenario k i trace past w → VectorKept scenario k i (note ∷ trace) past (kept_at (given i note) w)
    vector_slot h = record {
      other = λ r differs. untouched_slot i (rha_of k r) note trace w waited (h.other r differs);
      early = λ n. untouched_slot i own note trace w waited (h.early n);
      during = λ from to. open_slot (vector_at scenario i past) (h.during from to);
      late = λ n. held_none own (given i note) w (h.late n);
    }

-- ---- a turn

covers_less : (scenario : ScenarioParts) (k i : ℕ) (u v : Nodes) → IsPart u v → (f : FrameParts) → Covers scenario k i v f → Covers scenario k i u f
covers_less scenario k i u v part f c = record { what = c.what; below = c.below; frame = c.frame; part = λ r h. c.part r (part r h) }

wait_less : (scenario : ScenarioParts) (k i : ℕ) (u v : Nodes) (w : List FrameParts) → IsPart u v → WaitCovers scenario k i v w
    → WaitCovers scenario k i u w
wait_less scenario k i u v w part (inl none) = inl none
wait_less scenario k i u v w part (inr one) = inr (one.0, one.1, covers_less scenario k i u v part one.0 one.2)

sent_less : (scenario : ScenarioParts) (k i : ℕ) (u v : Nodes) (trace : List SlotNote) → IsPart u v
    → AllByRecursion (SentCovers scenario k i v) trace → AllByRecursion (SentCovers scenario k i u) trace
sent_less scenario k i u v trace part h =
    Each-weaker (SentCovers scenario k i v) (SentCovers scenario k i u)
    (λ note c f sent mine. covers_less scenario k i u v part f (c f sent mine)) trace h

sent_none : (scenario : ScenarioParts) (k i : ℕ) (v : Nodes) (trace : List SlotNote) → (Among (IsSentOf i (rha_of k i)) trace → ⊥)
    → AllByRecursion (SentCovers scenario k i v) trace
sent_none scenario k i v [] h = tt
sent_none scenario k i v (note ∷ trace) h =
    (λ f sent mine. absurd (h (inl (f, sent, mine))), sent_none scenario k i v trace (λ a. h (inr a)))

-- a frame of the cycle with just this vector
record IsSentVector (scenario : ScenarioParts) (k i : ℕ) (v : Nodes) (e : NoticeKind) : Type 0 where
  what : FrameParts
  was : e ≡ Sent what
  mine : rha_of k i ≡ identity_of what
  carries : vector_of scenario.params.format what.payload ≡ Some v

sent_vector : (scenario : ScenarioParts) (k i : ℕ) (v : Nodes) (e : NoticeKind) → is_vector_sent scenario.params.format k i v e ≡ true
    → IsSentVector scenario k i v e
sent_vector scenario k i v Idle h = absurd (false≢true h)
sent_vector scenario k i v Bad h = absurd (false≢true h)
sent_vector scenario k i v (Got f) h = absurd (false≢true h)
sent_vector scenario k i v (Sent f) h =
    let parts = and_parts (f.node == i) (is_just v (vector_in scenario.params.format k f)) h in
    let some = just_this v (vector_in scenario.params.format k f) parts.1 in
    let is = carries_vector scenario.params.format k f v some in
    let node = eqb-true f.node i parts.0 in
    record {
      what = f;
      was = refl;
      mine = λ d. record { class = sym is.0 d; number = sym is.1 d; node = sym node d };
      carries = cond_both (same_class f.class class.Rha && f.number == k) (vector_of scenario.params.format f.payload) None
          (λ o. o ≡ Some v → vector_of scenario.params.format f.payload ≡ Some v) (λ _ h. h) (λ _ h. absurd (cc)) some;
    }

module _ (scenario : ScenarioParts) (fits : scenario.params.nodes ≤ (layout scenario.params.format).nodes) (k i : ℕ) (trace : List SlotNote) where
  abbrev p : Parameters
  p = scenario.params

  abbrev x : Identity
  x = rha_of k i

  again : (v : Nodes) → AllBelow p.nodes v → (f : FrameParts) → f ≡ own_frame scenario k i v → vector_of p.format f.payload ≡ Some v
  again v below f is =
      ap (λ (g : FrameParts). vector_of p.format g.payload) is
      ∙ vector_again p.format v (λ r there. let small = below r there in omega (arith, small, fits))

  -- what was sent with just this vector is its own frame with it
  own_sent : (v u : Nodes) (note : SlotNote) → IsSentVector scenario k i v (given i note) → SentCovers scenario k i u note
      → given i note ≡ Sent (own_frame scenario k i v)
  own_sent v u note s covers =
      let c = covers s.what s.was s.mine in
      let same : Some c.what ≡ Some v = sym (again c.what c.below s.what c.frame) ∙ s.carries in
      let equal : c.what ≡ v = cc in
      s.was ∙ ap (λ f. Sent f) (c.frame ∙ ap (own_frame scenario k i) equal)

  covered_answer : (past : List NoticeKind) → HasRead i trace past → (v u : Nodes) → AllByRecursion (SentCovers scenario k i u) trace
      → is_covered p k i v past ≡ true
      → Among (λ note. given i note ≡ Sent (own_frame scenario k i v)) trace ⊎ (p.omit < count_by (is_vector_got p.format k v) past)
  unfolding is_covered
  covered_answer past read v u covers h =
      elim (or_cases (list_any (is_vector_sent p.format k i v) past) (nat_lt p.omit (count_by (is_vector_got p.format k v) past)) h) [
        | inl own ↦
            let there : Among (λ note. is_vector_sent p.format k i v (given i note) ≡ true) trace =
            read (λ e. is_vector_sent p.format k i v e ≡ true) (Among-from_any (is_vector_sent p.format k i v) past own) in
            inl (Among-weaker (λ note. (is_vector_sent p.format k i v (given i note) ≡ true) × SentCovers scenario k i u note)
            (λ note. given i note ≡ Sent (own_frame scenario k i v))
            (λ note both. own_sent v u note (sent_vector scenario k i v (given i note) both.0) both.1) trace
            (Among-with (λ note. is_vector_sent p.format k i v (given i note) ≡ true) (SentCovers scenario k i u) trace covers there))
        | inr many ↦ inr (ltb-true p.omit (count_by (is_vector_got p.format k v) past) many)
      ]

  answer_later : (e : NoticeKind) (past : List NoticeKind) (w after : List FrameParts) (v : Nodes) → held x after ≡ held x w
      → Answered scenario k i trace past w v → Answered scenario k i trace (e ∷ past) after v
  answer_later e past w after v same (inl waiting) = inl (same ∙ waiting)
  answer_later e past w after v same (inr (inl carried)) = inr (inl carried)
  answer_later e past w after v same (inr (inr many)) = inr (inr (omega (arith, many, count-grows (is_vector_got p.format k v) e past)))

  wait_same : (v : Nodes) (w after : List FrameParts) → held x after ≡ held x w → WaitCovers scenario k i v w → WaitCovers scenario k i v after
  wait_same v w after same (inl none) = inl (same ∙ none)
  wait_same v w after same (inr one) = inr (one.0, same ∙ one.1, one.2)

  asked_covers : (v : Nodes) → AllBelow p.nodes v → Covers scenario k i v (own_frame scenario k i v)
  asked_covers v below = record { what = v; below = below; frame = refl; part = λ r h. h }

  -- what is left of the former vector when it is met with another
  record IsLeft (w : List FrameParts) (v : Nodes) : Type 0 where
    waits : WaitCovers scenario k i v w
    sent : AllByRecursion (SentCovers scenario k i v) trace

  left_of : (past : List NoticeKind) (w : List FrameParts) (old : Option Nodes) (got : Nodes) → IsOpen scenario k i trace past w old
      → IsLeft w (met_with p old got)
  left_of past w None got h = record { waits = inl h.0; sent = sent_none scenario k i _ trace h.1 }
  left_of past w (Some v) got h = record {
    waits = wait_less scenario k i (met_with p (Some v) got) v w (meet_left v got) h.waits;
    sent = sent_less scenario k i (met_with p (Some v) got) v trace (meet_left v got) h.sent;
  }

  open_answer : (past : List NoticeKind) (w : List FrameParts) (old : Option Nodes) → IsOpen scenario k i trace past w old
      → (u : Nodes) → old ≡ Some u → Answered scenario k i trace past w u
  open_answer past w None h u e = absurd (cc)
  open_answer past w (Some v) h u e = let same : v ≡ u = cc in subst (Answered scenario k i trace past w) same h.answer

  met_turn : (e : NoticeKind) (past : List NoticeKind) → HasRead i trace (e ∷ past) → (w after : List FrameParts) (old : Option Nodes) (v : Nodes)
      → AllBelow p.nodes v → IsLeft w v → ((u : Nodes) → old ≡ Some u → Answered scenario k i trace past w u)
      → held x after ≡ by_last_effect (met_last_effect p scenario.inc k i (e ∷ past) old v) (held x w) → HasVector scenario k i trace (e ∷ past) after v
  unfolding is_new
  met_turn e past read w after old v below left answers now = by_covered (is_covered p k i v (e ∷ past)) refl
    where
      by_new : (u : Option Nodes) → old ≡ u → (b : Bool) → is_new u v ≡ b → is_covered p k i v (e ∷ past) ≡ false
          → HasVector scenario k i trace (e ∷ past) after v
      by_new u is true new open_still =
          let now' : held x after ≡ own_frame scenario k i v ∷ [] = now ∙ rw (open_still, is, new) refl in
          record {
            below = below;
            waits = inr (own_frame scenario k i v, now', asked_covers v below);
            sent = left.sent;
            answer = inl now';
          }
      by_new None is false new open_still = absurd (false≢true (sym new))
      by_new (Some u) is false new open_still =
          let same : held x after ≡ held x w = now ∙ rw (open_still, is, new) refl in
          let equal : u ≡ v = same_bits u v (eqb-true u.bits v.bits (not-false (u.bits == v.bits) new)) in
          record {
            below = below;
            waits = wait_same v w after same left.waits;
            sent = left.sent;
            answer = answer_later e past w after v same (subst (Answered scenario k i trace past w) equal (answers u is));
          }

      by_covered : (b : Bool) → is_covered p k i v (e ∷ past) ≡ b → HasVector scenario k i trace (e ∷ past) after v
      by_covered true c = record {
        below = below;
        waits = inl (now ∙ rw c refl);
        sent = left.sent;
        answer = inr (covered_answer (e ∷ past) read v v left.sent c);
      }
      by_covered false c = by_new old refl (is_new old v) refl c

  exchange_turn : (e : NoticeKind) (past : List NoticeKind) → HasRead i trace (e ∷ past) → (w after : List FrameParts) (old got : Option Nodes)
      → IsOpen scenario k i trace past w old → IsVectorOfBus p (met p old got)
      → held x after ≡ by_last_effect (brought_last_effect p scenario.inc k i (e ∷ past) old got) (held x w)
      → IsOpen scenario k i trace (e ∷ past) after (met p old got)
  unfolding met
  exchange_turn e past read w after None None h below now = (now ∙ h.0, h.1)
  exchange_turn e past read w after (Some v) None h below now = record {
    below = h.below;
    waits = wait_same v w after now h.waits;
    sent = h.sent;
    answer = answer_later e past w after v now h.answer;
  }
  exchange_turn e past read w after None (Some got) h below now =
      met_turn e past read w after None (met_with p None got) below (left_of past w None got h) (open_answer past w None h) now
  exchange_turn e past read w after (Some v) (Some got) h below now =
      met_turn e past read w after (Some v) (met_with p (Some v) got) below (left_of past w (Some v) got h) (open_answer past w (Some v) h) now

  start_turn : (e : NoticeKind) (past : List NoticeKind) (w after : List FrameParts) (start : Option Nodes) → Untouched i x trace w
      → IsVectorOfBus p start → held x after ≡ by_last_effect (start_last_effect p scenario.inc k i start) (held x w)
      → IsOpen scenario k i trace (e ∷ past) after start
  start_turn e past w after None h below now = (now ∙ h.0, h.1)
  start_turn e past w after (Some v) h below now = record {
    below = below;
    waits = inr (own_frame scenario k i v, now, asked_covers v below);
    sent = sent_none scenario k i v trace h.1;
    answer = inl now;
  }

  open_none : (past : List NoticeKind) (w : List FrameParts) (v : Option Nodes) → v ≡ None → IsOpen scenario k i trace past w v → held x w ≡ []
  open_none past w v e h = (subst (IsOpen scenario k i trace past w) e h).0

  -- it is kept by a turn whose notice comes after what was read, and which leaves a vector of nodes
  -- of the bus
  pub vector_turn : IsCycle p k → (e : NoticeKind) (past : List NoticeKind) → HasRead i trace (e ∷ past)
      → IsVectorOfBus p (vector_at scenario i (e ∷ past)) → (w : List FrameParts)
      → VectorKept scenario k i trace past w → VectorKept scenario k i trace (e ∷ past) (waiting_after (turn_effects scenario i (e ∷ past)) w)
  vector_turn c e past read below w h =
      let after : List FrameParts = waiting_after (turn_effects scenario i (e ∷ past)) w in
      let now : held x after ≡ by_last_effect (last_effect x (turn_effects scenario i (e ∷ past))) (held x w) =
      held_after x (turn_effects scenario i (e ∷ past)) w in
      record {
        other = λ r differs. (
          held_after (rha_of k r) (turn_effects scenario i (e ∷ past)) w
              ∙ ap (λ z. by_last_effect z (held (rha_of k r) w))
              (turn_other scenario i e past k r (λ q. differs (ap (λ (y : Identity). y.node) q))) ∙ (h.other r differs).0,
          (h.other r differs).1,
        );
        early = λ n.
            let before = h.early (omega (arith, n)) in
            (now ∙ ap (λ z. by_last_effect z (held x w)) (turn_outside scenario k i c e past (inl (omega (arith, n)))) ∙ before.0, before.1);
        during = λ from to. elim (cases_eq (length past) (k * p.cycle)) [
          | inl at ↦
              let starts = turn_starts scenario k i c e past at in
              subst (IsOpen scenario k i trace (e ∷ past) after) (sym starts.vector)
              (start_turn e past w after (starts_with scenario i e past) (h.early (omega (arith, at))) (subst (IsVectorOfBus p) starts.vector below)
              (now ∙ ap (λ z. by_last_effect z (held x w)) starts.last_effect))
          | inr later ↦
              let from' : k * p.cycle < length past = omega (arith, from, later) in
              let ex = turn_exchanges scenario k i c e past from' (omega (arith, to)) in
              subst (IsOpen scenario k i trace (e ∷ past) after) (sym ex.vector)
              (exchange_turn e past read w after (vector_at scenario i past) (brings p.format k e) (h.during from' (omega (arith, to)))
              (subst (IsVectorOfBus p) ex.vector below) (now ∙ ap (λ z. by_last_effect z (held x w)) ex.last_effect))
        ];
        late = λ n. elim (cases_eq (length past) (k * p.cycle + p.bound)) [
          | inl at ↦ elim (turn_ends scenario k i c e past at).last_effect [
            | inl gone ↦ now ∙ ap (λ z. by_last_effect z (held x w)) gone
            | inr none ↦
                now ∙ ap (λ z. by_last_effect z (held x w)) none.0
                ∙ open_none past w (vector_at scenario i past) none.1 (h.during (omega (arith, at, c.exchanged)) (omega (arith, at)))
          ]
          | inr later ↦
              now ∙ ap (λ z. by_last_effect z (held x w)) (turn_outside scenario k i c e past (inr (omega (arith, n, later))))
              ∙ h.late (omega (arith, n, later))
        ];
      }

-- ---- a node that begins

never_sent : (i : ℕ) (y : Identity) (trace : List SlotNote) → AllByRecursion (λ note. note.frame ≡ None) trace → Among (IsSentOf i y) trace → ⊥
never_sent i y [] blank a = a
never_sent i y (note ∷ trace) blank (inl sent) = idle note.frame blank.0 (given-Sent i note sent.0 sent.1).0
  where
    idle : (o : Option FrameParts) → o ≡ None → o ≡ Some sent.0 → ⊥
    idle o a b = absurd (cc)
never_sent i y (note ∷ trace) blank (inr a) = never_sent i y trace blank.1 a

vector_new : (scenario : ScenarioParts) (k : ℕ) (trace : List SlotNote) (i : ℕ) (node : NodeState) → IsNew scenario trace i node
    → NodeVector scenario k trace i node
vector_new scenario k trace i node new =
    let sc : ScenarioParts = scenario_for scenario node.present in
    let none : (y : Identity) → Untouched i y trace node.waiting = λ y. (ap (held y) new.waiting, never_sent i y trace new.blank) in
    let vector : vector_at sc i (past_of i trace node) ≡ None =
    ap (λ (st : Knowledge). st.vector) (begun_knowledge sc i (past_of i trace node) new.past) in
    record {
      other = λ r differs. none (rha_of k r);
      early = λ n. none (rha_of k i);
      during = λ from to. subst (IsOpen sc k i trace (past_of i trace node) node.waiting) (sym vector) (none (rha_of k i));
      late = λ n. ap (held (rha_of k i)) new.waiting;
    }

-- ---- every run

kept_nodes : (scenario : ScenarioParts) → scenario.params.nodes ≤ (layout scenario.params.format).nodes
    → AllBelow scenario.params.nodes scenario.members → (k : ℕ) → IsCycle scenario.params k
    → IsReadableNodes scenario (λ sc i trace past waiting. VectorKept sc k i trace past waiting)
kept_nodes scenario fits first k c = record {
  new = λ trace i node new. vector_new scenario k trace i node new;
  slot = λ sc i note trace past waiting sends h. vector_slot sc k i note trace past waiting sends h;
  turn = λ inc i trace e past waiting all read h.
      let sc : ScenarioParts = scenario_for scenario inc in
      let known = knowledge_of_bus sc i (first_members scenario inc first) (e ∷ past) read in
      vector_turn sc fits k i trace c e past all known.vector waiting h;
}

-- so it holds of each running node of every run
pub vector_kept : (scenario : ScenarioParts) (journal : List Step) → scenario.params.nodes ≤ most_nodes
    → scenario.params.nodes ≤ (layout scenario.params.format).nodes → AllBelow scenario.params.nodes scenario.members
    → (k : ℕ) → IsCycle scenario.params k → EachRunning (NodeVector scenario k) (run scenario journal)
vector_kept scenario journal few fits first k c =
    each_readable scenario (λ sc i trace past waiting. VectorKept sc k i trace past waiting) (kept_nodes scenario fits first k c) journal few
