-- Nodes that wait with one frame send it together: so one that no node asks for after it has read
-- it is carried Clean at most lag + 2 times.
use Rattle.std.proofs.Common.{◌≡◌, ℕ, zero, suc, ◌+◌, ◌<◌, ◌≤◌, ◌⊎◌, inl, inr, Bool, true, false, List, [], ◌∷◌, count_by, ap, sym, ◌∙◌, subst, arith, Contains}
use Rattle.std.proofs.lemmas.Bool.{and_parts, both_ways, cases_Bool, cases_eq, cases_lt, false≢true}
use Rattle.std.proofs.lemmas.List.Elements.{All-contains, All-from_recursion}
use Rattle.cany_base.specs.declared.notice.NoticeKind.TheVariants.{Sent}
use Rattle.cany_base.specs.declared.slot_note.SlotNote.{SlotNote}
use Rattle.cany_base.specs.declared.step.Step.{Step}
use Rattle.cany_base.specs.Frame.{FrameParts}
use Rattle.cany_base.specs.Limits.{most_nodes}
use Rattle.cany_base.specs.Scenario.{ScenarioParts}
use Rattle.cany_model.specs.Bus.Frames.{Identity, bare, identity_of}
use Rattle.cany_model.specs.Bus.History.{given}
use Rattle.cany_model.specs.Bus.Restart.{after_restarts}
use Rattle.cany_model.specs.Bus.Slot.{FaultScript, after_slot, is_clean, script, slot_note_of}
use Rattle.cany_model.specs.Bus.State.{NodeState, RunState, node_at, opening, runs}
use Rattle.cany_model.specs.Bus.Waiting.{waits, without}
use Rattle.cany_model.specs.Runs.Run.{after_turn, run}
use Rattle.cany_model.proofs.Among.{count-no, count-yes}
use Rattle.cany_model.proofs.Bus.Notes.{given_sender, note_of-offered, waiting_sends, waits_with-from_Contains}
use Rattle.cany_model.proofs.Bus.Restarts.{after_restarts-trace, restarts_or_stays}
use Rattle.cany_model.proofs.Bus.States.{node_at-opening, note_at, runs_within}
use Rattle.cany_model.proofs.Runs.Journals.{unread_within}
use Rattle.cany_model.proofs.Runs.Runs.{opening_within}
use Rattle.cany_model.proofs.Runs.Steps.{MayTurn, after_slot-trace, after_slot-waiting, after_turn-other, after_turn-trace, kept_at, running_before_slot}
use Rattle.cany_model.proofs.Rules.Waits.{waits-from_with}
use Rattle.cany_model.proofs.Timed.Common.Ages.{Clean, carried_there, carries, carries_clean, clean_carried}
use Rattle.cany_model.proofs.Timed.Common.Counting.{Passes, at_most_0}
use Rattle.cany_model.proofs.Timed.Order.TotKept.{NoSilent}
use Rattle.cany_model.proofs.Timed.Order.TotRun.{IsOfRun, along_states, run_orderly}
use Rattle.cany_model.proofs.Timed.Order.TotSlots.{carries-true, clean_success, waiting_frame}
use Rattle.cany_laws.proofs.Frames.CarriedBare.{HasBareFrames, IsBare, bare_run, is_bare_class}
use Rattle.cany_laws.proofs.Waiting.WaitNodes.{kept_waits, without_none}

-- ---- counts

-- those that pass are among the first n
first_few : (t : SlotNote → Bool) (n : ℕ) (T : List SlotNote) → ((p : ℕ) → Passes t T p → p < n) → count_by t T ≤ n
first_few t n [] h = omega arith
first_few t zero (note ∷ T) h = let none = at_most_0 t (note ∷ T) (λ p a. let k = h p a in absurd (omega (arith, k))) in omega (arith, none)
first_few t (suc n) (note ∷ T) h =
    let rest = first_few t n T (λ p a. let k = h (suc p) a in omega (arith, k)) in
    elim (cases_Bool (t note)) [
      | inl passes ↦ omega (arith, rest, count-yes t note T passes)
      | inr other ↦ omega (arith, rest, count-no t note T other)
    ]

-- those that pass lie no more than L slots apart
near_few : (t : SlotNote → Bool) (L : ℕ) (T : List SlotNote) → ((b c : ℕ) → b ≤ c → Passes t T b → Passes t T c → c ≤ b + L) → count_by t T ≤ L + 1
near_few t L [] h = omega arith
near_few t L (note ∷ T) h = elim (cases_Bool (t note)) [
  | inl passes ↦ first_few t (L + 1) (note ∷ T) (λ p a. let k = h 0 p (omega arith) passes a in omega (arith, k))
  | inr other ↦
      let rest = near_few t L T (λ b c le x y. let k = h (suc b) (suc c) (omega (arith, le)) x y in omega (arith, k)) in
      omega (arith, rest, count-no t note T other)
]

-- and so do all but the newest
gap_few : (t : SlotNote → Bool) (L : ℕ) (T : List SlotNote)
    → ((a b c : ℕ) → a < b → b ≤ c → Passes t T a → Passes t T b → Passes t T c → c ≤ b + L) → count_by t T ≤ L + 2
gap_few t L [] h = omega arith
gap_few t L (note ∷ T) h = elim (cases_Bool (t note)) [
  | inl passes ↦
      let rest = near_few t L T (λ b c le x y. let k = h 0 (suc b) (suc c) (omega arith) (omega (arith, le)) passes x y in omega (arith, k)) in
      omega (arith, rest, count-yes t note T passes)
  | inr other ↦
      let rest = gap_few t L T (λ a b c less le x y z. let k = h (suc a) (suc b) (suc c) (omega (arith, less)) (omega (arith, le)) x y z in omega (arith, k)) in
      omega (arith, rest, count-no t note T other)
]

-- ---- a frame that no node asks for after it has read it

-- a turn makes a node wait with it only where no slot that the node had read before has carried it
-- Clean
abbrev pub IsFresh : ScenarioParts → Identity → Type 0
IsFresh scenario x =
    (s : RunState) → IsOfRun scenario s → NoSilent s.trace → (i : ℕ) → MayTurn s i → waits x (node_at (after_turn scenario i s).nodes i).waiting ≡ true
    → (waits x (node_at s.nodes i).waiting ≡ true) ⊎ ((p : ℕ) → (node_at s.nodes i).unread ≤ p → Clean s.trace p x → ⊥)

module _ (scenario : ScenarioParts) (few : scenario.params.nodes ≤ most_nodes) (x : Identity) (small : is_bare_class x.class ≡ true) (fresh : IsFresh scenario x) where
  abbrev lag : ℕ
  lag = scenario.params.lag

  -- the slots that carried it Clean lie no more than the lag apart, but for the newest; and all of
  -- them, once a node waits with it again
  record Together (s : RunState) : Type 0 where
    gap : (a b c : ℕ) → a < b → b ≤ c → Clean s.trace a x → Clean s.trace b x → Clean s.trace c x → c ≤ b + scenario.params.lag
    since : (i : ℕ) → runs (node_at s.nodes i) ≡ true → waits x (node_at s.nodes i).waiting ≡ true
        → (k : ℕ) × ((p : ℕ) → Clean s.trace p x → (k ≤ p) × (p ≤ k + scenario.params.lag))

  bare_frames : (s : RunState) → IsOfRun scenario s → HasBareFrames s
  bare_frames s of = subst HasBareFrames of.1 (bare_run scenario of.0 few)

  is_bare : (f : FrameParts) → x ≡ identity_of f → IsBare f → f ≡ bare x
  is_bare f e h = h (ap (λ (y : Identity). is_bare_class y.class) (sym e) ∙ small) ∙ ap bare (sym e)

  waiting_bare : (s : RunState) → IsOfRun scenario s → (i : ℕ) → runs (node_at s.nodes i) ≡ true → (f : FrameParts) → Contains (node_at s.nodes i).waiting f → IsBare f
  waiting_bare s of i running f c = All-contains IsBare (node_at s.nodes i).waiting f (All-from_recursion IsBare (node_at s.nodes i).waiting ((bare_frames s of).waiting i running)) c

  -- a slot that carries it Clean takes it from each node that runs
  taken : (s : RunState) → IsOfRun scenario s → carries_clean x (slot_note_of (script scenario.rules) s) ≡ true → (i : ℕ) → runs (node_at s.nodes i) ≡ true
      → waits x (node_at s.nodes i).waiting ≡ true → waits x (node_at (after_slot (script scenario.rules) s).nodes i).waiting ≡ false
  taken s of clean i running w =
      let rules : FaultScript = script scenario.rules in
      let note : SlotNote = slot_note_of (script scenario.rules) s in
      let parts = and_parts (carries x note) (is_clean note.verdict) clean in
      let c = carries-true x note parts.0 in
      let offered = note_of-offered rules s c.what c.frame in
      let mine = waiting_frame x (node_at s.nodes i).waiting w in
      let same : mine.0 ≡ c.what =
      is_bare mine.0 mine.2 (waiting_bare s of i running mine.0 mine.1)
      ∙ sym (is_bare c.what c.identity (waiting_bare s of offered.node offered.running c.what offered.waits)) in
      let below = runs_within s.nodes i running in
      let count = (run_orderly scenario s of).count in
      let sender = waiting_sends rules s c.what i (omega (arith, below, count, few)) c.frame running (subst (Contains (node_at s.nodes i).waiting) same mine.1) in
      let sent : given i note ≡ Sent c.what = given_sender i note c.what c.frame sender (clean_success note.verdict parts.1) in
      ap (waits x)
      (after_slot-waiting rules s i running ∙ ap (λ n. kept_at n (node_at s.nodes i).waiting) sent ∙ ap (λ y. without y (node_at s.nodes i).waiting) (sym c.identity))
      ∙ without_none x (node_at s.nodes i).waiting

  slot_gap : (s : RunState) → Together s → (a b c : ℕ) → a < b → b ≤ c → Clean (slot_note_of (script scenario.rules) s ∷ s.trace) a x
      → Clean (slot_note_of (script scenario.rules) s ∷ s.trace) b x → Clean (slot_note_of (script scenario.rules) s ∷ s.trace) c x → c ≤ b + scenario.params.lag
  slot_gap s h a zero c less le p q r = absurd (omega (arith, less))
  slot_gap s h a (suc b) zero less le p q r = absurd (omega (arith, le))
  slot_gap s h (suc a) (suc b) (suc c) less le p q r = let k = h.gap a b c (omega (arith, less)) (omega (arith, le)) p q r in omega (arith, k)
  slot_gap s h zero (suc b) (suc c) less le p q r =
      let rules : FaultScript = script scenario.rules in
      let note : SlotNote = slot_note_of (script scenario.rules) s in
      let parts = and_parts (carries x note) (is_clean note.verdict) p in
      let c' = carries-true x note parts.0 in
      let offered = note_of-offered rules s c'.what c'.frame in
      let waiting : waits x (node_at s.nodes offered.node).waiting ≡ true =
      ap (λ y. waits y (node_at s.nodes offered.node).waiting) c'.identity
      ∙ waits-from_with c'.what (node_at s.nodes offered.node).waiting (waits_with-from_Contains c'.what (node_at s.nodes offered.node).waiting offered.waits) in
      let k = h.since offered.node offered.running waiting in
      let old = (k.1 c r).1 in
      let new = (k.1 b q).0 in
      omega (arith, old, new)

  in_slot : (s : RunState) → IsOfRun scenario s → Together s → Together (after_slot (script scenario.rules) s)
  in_slot s of h =
      let rules : FaultScript = script scenario.rules in
      let note : SlotNote = slot_note_of (script scenario.rules) s in
      let trace = after_slot-trace rules s in
      let before : (p : ℕ) → Clean (after_slot (script scenario.rules) s).trace p x → Clean (note ∷ s.trace) p x = λ p. subst (λ t. Clean t p x) trace in
      record {
        gap = λ a b c less le p q r. slot_gap s h a b c less le (before a p) (before b q) (before c r);
        since = λ i on w.
            let ran = (running_before_slot rules s i on).0 in
            let waited : waits x (node_at s.nodes i).waiting ≡ true =
            kept_waits x (given i note) (node_at s.nodes i).waiting (ap (waits x) (sym (after_slot-waiting rules s i ran)) ∙ w) in
            let k = h.since i ran waited in
            (suc k.0, λ p clean. later s of h i ran waited w k.0 k.1 p (before p clean));
      }
    where
      later : (s : RunState) → IsOfRun scenario s → Together s → (i : ℕ) → runs (node_at s.nodes i) ≡ true → waits x (node_at s.nodes i).waiting ≡ true
          → waits x (node_at (after_slot (script scenario.rules) s).nodes i).waiting ≡ true → (k : ℕ)
          → ((p : ℕ) → Clean s.trace p x → (k ≤ p) × (p ≤ k + scenario.params.lag)) → (p : ℕ)
          → Clean (slot_note_of (script scenario.rules) s ∷ s.trace) p x → (suc k ≤ p) × (p ≤ suc k + scenario.params.lag)
      later s of h i ran waited w k each zero clean =
          absurd (both_ways (waits x (node_at (after_slot (script scenario.rules) s).nodes i).waiting) (taken s of clean i ran waited) w)
      later s of h i ran waited w k each (suc p) clean = let e = each p clean in (omega (arith, e.0), omega (arith, e.1))

  at_restart : (s : RunState) → Together s → Together (after_restarts scenario s)
  at_restart s h =
      let trace = after_restarts-trace scenario s in
      let before : (p : ℕ) → Clean (after_restarts scenario s).trace p x → Clean s.trace p x = λ p. subst (λ t. Clean t p x) trace in
      record {
        gap = λ a b c less le p q r. h.gap a b c less le (before a p) (before b q) (before c r);
        since = λ i on w. elim (restarts_or_stays scenario s i) [
          | inl new ↦ absurd (false≢true (sym (ap (λ (node : NodeState). waits x node.waiting) new.is) ∙ w))
          | inr same ↦
              let k = h.since i (sym (ap (λ (node : NodeState). runs node) same) ∙ on) (sym (ap (λ (node : NodeState). waits x node.waiting) same) ∙ w) in
              (k.0, λ p clean. k.1 p (before p clean))
        ];
      }

  in_turn : (s : RunState) → IsOfRun scenario s → NoSilent s.trace → (i : ℕ) → MayTurn s i → Together s → Together (after_turn scenario i s)
  in_turn s of plain i may h =
      let trace = after_turn-trace scenario i s in
      let before : (p : ℕ) → Clean (after_turn scenario i s).trace p x → Clean s.trace p x = λ p. subst (λ t. Clean t p x) trace in
      let short = (run_orderly scenario s of).unread i in
      let lagging : (node_at s.nodes i).unread ≤ scenario.params.lag + 1 =
      subst (λ (r : RunState). runs (node_at r.nodes i) ≡ true → (node_at r.nodes i).unread ≤ scenario.params.lag + 1) of.1 (unread_within scenario of.0 i) may.running in
      record {
        gap = λ a b c less le p q r. h.gap a b c less le (before a p) (before b q) (before c r);
        since = λ j on w. elim (cases_eq j i) [
          | inr other ↦
              let node = after_turn-other scenario i s j other in
              let k = h.since j (sym (ap (λ (n : NodeState). runs n) node) ∙ on) (sym (ap (λ (n : NodeState). waits x n.waiting) node) ∙ w) in
              (k.0, λ p clean. k.1 p (before p clean))
          | inl same ↦ elim (fresh s of plain i may (subst (λ n. waits x (node_at (after_turn scenario i s).nodes n).waiting ≡ true) same w)) [
            | inl old ↦ let k = h.since i may.running old in (k.0, λ p clean. k.1 p (before p clean))
            | inr none ↦ (0, λ p clean. (omega arith, near p (none p) (before p clean) lagging))
          ]
        ];
      }
    where
      near : (p : ℕ) → ((node_at s.nodes i).unread ≤ p → Clean s.trace p x → ⊥) → Clean s.trace p x → (node_at s.nodes i).unread ≤ scenario.params.lag + 1
          → p ≤ 0 + scenario.params.lag
      near p none clean lagging = elim (cases_lt p (node_at s.nodes i).unread) [
        | inl less ↦ omega (arith, less, lagging)
        | inr more ↦ absurd (none more clean)
      ]

  abbrev Kept : RunState → Type 0
  Kept s = NoSilent s.trace → Together s

  at_first : Together (opening scenario.params.nodes)
  at_first = record {
    gap = λ a b c less le p q r. let there = carried_there x [] a (clean_carried x (note_at [] a) p) in absurd (omega (arith, there));
    since = λ i on w.
        let node = node_at-opening scenario.params.nodes i (opening_within scenario.params.nodes i on) in
        absurd (false≢true (sym (ap (λ (n : NodeState). waits x n.waiting) node) ∙ w));
  }

  together : (journal : List Step) → Kept (run scenario journal)
  together =
      along_states scenario Kept (λ plain. at_first) (record {
        slot = λ s of may h plain.
            let plains : NoSilent (slot_note_of (script scenario.rules) s ∷ s.trace) = subst NoSilent (after_slot-trace (script scenario.rules) s) plain in
            in_slot s of (h plains.1);
        restarts = λ s o some h plain. at_restart s (h (subst NoSilent (after_restarts-trace scenario s) plain));
        turn = λ s i of may h plain. let plains = subst NoSilent (after_turn-trace scenario i s) plain in in_turn s of plains i may (h plains);
      })

  pub few_times : (journal : List Step) → NoSilent (run scenario journal).trace → count_by (carries_clean x) (run scenario journal).trace ≤ scenario.params.lag + 2
  few_times journal plain = gap_few (carries_clean x) scenario.params.lag (run scenario journal).trace (together journal plain).gap
