-- What each slot gave the incarnations that have read it: one that takes part hears the life that
-- another node has shown in it.
use Rattle.std.proofs.Common.{◌≡◌, ℕ, zero, suc, ◌+◌, ◌-◌, ◌*◌, ◌<◌, ◌≤◌, inl, inr, false, List, [], ◌∷◌, ◌++◌, length, drop, Some, refl, ap, sym, ◌∙◌, subst, arith, length-append, length-drop, get_or, nat_lt, ltb-true}
use Rattle.std.specs.List.{AllByRecursion}
use Rattle.std.proofs.Math.Nat.{mul-le-mul_right}
use Rattle.std.proofs.Math.Seq.{drop-append_seam}
use Rattle.std.proofs.lemmas.Bool.{and_parts, cases_eq, eq-eqb, false_from_ne_true}
use Rattle.std.proofs.lemmas.List.{get_or-drop, get_or-map, length-map}
use Rattle.std.proofs.lemmas.List.Elements.{recursion_from_All}
use Rattle.cany_base.proofs.ParamsFacts.{few_nodes}
use Rattle.cany_base.specs.declared.class.Class.TheVariants as class
use Rattle.cany_base.specs.declared.notice.NoticeKind.TheVariants.{Idle}
use Rattle.cany_base.specs.declared.slot_note.SlotNote.{SlotNote}
use Rattle.cany_base.specs.declared.step.Step.{Step}
use Rattle.cany_base.specs.Frame.{FrameParts}
use Rattle.cany_base.specs.Scenario.{IsLegalScenario, ScenarioParts}
use Rattle.cany_model.specs.Bus.Frames.{same_class}
use Rattle.cany_model.specs.Bus.History.{as_seen, carries_early, ended_history, given, is_hidden, seen}
use Rattle.cany_model.specs.Bus.State.{EndedIncarnation, Incarnation, RunState, node_at}
use Rattle.cany_model.specs.Promises.Hypothesis.{IsWithin, is_silent_slot}
use Rattle.cany_model.specs.Runs.Run.{run}
use Rattle.cany_model.proofs.Bus.Identities.{same_class-true}
use Rattle.cany_model.proofs.Bus.Notes.{given-Sent}
use Rattle.cany_model.proofs.Bus.Seen.{hidden_not, seen_plain}
use Rattle.cany_model.proofs.Rules.Site.NoEarlyVectors.{carries_frame}
use Rattle.cany_model.proofs.Bus.States.{no_note, note_at}
use Rattle.cany_model.proofs.Promises.Diffusion.{Heard}
use Rattle.cany_model.proofs.Promises.EachNode.{each_running}
use Rattle.cany_model.proofs.Runs.Runs.{orderly}
use Rattle.cany_model.proofs.Timed.Common.KnowledgeAges.{IsLifeOf, IsOwnLife}
use Rattle.cany_model.proofs.Timed.Detector.ShowsInTime.{SentOwn, sent_own}
use Rattle.cany_model.proofs.Timed.Views.NoLateVectors.{sees_cycle}
use Rattle.cany_model.proofs.Timed.Views.VectorQuiet.{SeesCycle}
use Rattle.cany_model.proofs.Timed.Views.VectorSlots.{cycle_age}
use Rattle.cany_laws.proofs.Members.EqualMembers.{next_read}
use Rattle.cany_laws.proofs.Silences.Lives.{Lived}
use Rattle.cany_model.proofs.Timed.Detector.HeardWithin.{heard_kept, life_heard}
use Rattle.cany_model.proofs.Timed.Views.StartViews.{front_split}

pub each_at : {X : Type 0} (P : X → Type 0) (xs : List X) (k : ℕ) (d : X) → k < length xs → AllByRecursion P xs → P (get_or xs k d)
each_at P [] k d within h = absurd (omega arith)
each_at P (x ∷ xs) zero d within h = h.0
each_at P (x ∷ xs) (suc k) d within h = each_at P xs k d (omega arith) h.1

-- the note of slot n
abbrev pub note_in : List SlotNote → ℕ → SlotNote
note_in trace n = note_at trace (length trace - (n + 1))

-- it is that of an older trace
pub note_older : (trace newer older : List SlotNote) (n : ℕ) → trace ≡ newer ++ older → n < length older → note_in older n ≡ note_in trace n
note_older trace newer older n split early =
    let size : length trace ≡ length newer + length older = ap length split ∙ length-append newer older in
    let at : length newer + (length older - (n + 1)) ≡ length trace - (n + 1) = omega (arith, size, early) in
    let left : drop (length newer) trace ≡ older = ap (drop (length newer)) split ∙ drop-append_seam newer older in
    ap (λ t. note_at t (length older - (n + 1))) (sym left) ∙ get_or-drop (length newer) trace (length older - (n + 1)) no_note ∙ ap (note_at trace) at

pub plain_original : (inc : Incarnation) (note : SlotNote) → inc.number ≡ 0 → is_hidden inc note ≡ false
unfolding is_hidden
plain_original inc note first = rw (eq-eqb inc.number 0 first) refl

module _ (scenario : ScenarioParts) (legal : IsLegalScenario scenario) (journal : List Step) where
  abbrev s : RunState
  s = run scenario journal

  -- what an incarnation has read of a slot is what the slot gave it, as it sees it
  pub next_is : (i n : ℕ) (e : EndedIncarnation) → Lived scenario journal i e → n < e.next
      → next_read n s i e ≡ given i (as_seen e.incarnation (note_in s.trace n))
  unfolding next_read ended_history
  next_is i n e l read =
      let gone : ℕ = length s.trace - e.next in
      let old : List SlotNote = drop gone (seen e.incarnation s.trace) in
      let k : ℕ = e.next - (n + 1) in
      let short = l.short in
      let size : length (seen e.incarnation s.trace) ≡ length s.trace = length-map s.trace (as_seen e.incarnation) in
      let at : gone + k ≡ length s.trace - (n + 1) = omega (arith, short, read) in
      get_or-map (given i) old k no_note Idle (omega (arith, length-drop gone (seen e.incarnation s.trace), size, short, read))
      ∙ ap (given i) (get_or-drop gone (seen e.incarnation s.trace) k no_note ∙ ap (note_at (seen e.incarnation s.trace)) at
      ∙ get_or-map (as_seen e.incarnation) s.trace (length s.trace - (n + 1)) no_note no_note (omega (arith, short, read)))

  -- it ran in it
  heard_in : (i n : ℕ) (e : EndedIncarnation) → Lived scenario journal i e → n < e.next → Heard i (as_seen e.incarnation (note_in s.trace n))
  heard_in i n e l read =
      let c : RunState = run scenario l.front in
      let part = front_split scenario journal l.front l.rest l.whole in
      let k : ℕ = length c.trace - (n + 1) in
      let next = l.next in
      let below : k < length c.trace = omega (arith, next, read) in
      let all : AllByRecursion (Heard i) (seen e.incarnation c.trace) =
      subst (λ (inc : Incarnation). AllByRecursion (Heard i) (seen inc c.trace)) l.present
      (each_running scenario (λ trace i node. AllByRecursion (Heard i) trace) (heard_kept scenario) l.front i l.running) in
      subst (Heard i) (get_or-map (as_seen e.incarnation) c.trace k no_note no_note below
      ∙ ap (as_seen e.incarnation) (note_older s.trace part.0 c.trace n part.1 (omega (arith, next, read))))
      (each_at (Heard i) (seen e.incarnation c.trace) k no_note (subst (λ m. k < m) (sym (length-map c.trace (as_seen e.incarnation))) below) all)

  -- it sees a slot after the end of a cycle since whose start it takes part, unless that carries a
  -- vector of a later one
  pub plain_after : (i n k : ℕ) (e : EndedIncarnation) → Lived scenario journal i e → n < e.next → e.incarnation.from ≤ k * scenario.params.cycle
      → k * scenario.params.cycle + scenario.params.bound ≤ n → (f : FrameParts) → (note_in s.trace n).frame ≡ Some f
      → is_hidden e.incarnation (note_in s.trace n) ≡ false
  plain_after i n k e l read from late f frame = elim (cases_eq e.incarnation.number 0) [
    | inl first ↦ plain_original e.incarnation (note_in s.trace n) first
    | inr later ↦
        let note : SlotNote = note_in s.trace n in
        let short = l.short in
        let age : ℕ = length s.trace - (n + 1) in
        let slot : note.slot ≡ n = omega (arith, (orderly scenario journal).numbered age (omega (arith, short, read)), short, read) in
        let some : 0 < scenario.params.cycle = omega (arith, legal.formulas.bound, legal.formulas.cycle) in
        let sees : e.incarnation.cycle ≤ k =
        first_of_cycle (sees_cycle scenario l.front k i some
        (subst (λ (inc : Incarnation). inc.from ≤ k * scenario.params.cycle) (sym l.present) from)) l.present later in
        hidden_not e.incarnation note (omega (arith, slot, from, late)) (false_from_ne_true (carries_early e.incarnation.cycle note) (λ early.
        let parts =
        and_parts (same_class f.class class.Rha) (nat_lt f.number e.incarnation.cycle) (sym (carries_frame e.incarnation.cycle note f frame) ∙ early) in
        let c =
        cycle_age scenario journal (few_nodes scenario.params legal.in_range) legal.formulas legal.members age f frame
        (same_class-true f.class class.Rha parts.0) in
        let less : f.number < e.incarnation.cycle = ltb-true f.number e.incarnation.cycle parts.1 in
        let before : suc f.number * scenario.params.cycle ≤ k * scenario.params.cycle = mul-le-mul_right scenario.params.cycle (omega (arith, less, sees)) in
        let more : suc f.number * scenario.params.cycle ≡ f.number * scenario.params.cycle + scenario.params.cycle = grind arith in
        omega (arith, c.to, before, more, late, short, read, legal.formulas.cycle, legal.formulas.bound)))
  ]
    where
      first_of_cycle : SeesCycle scenario.params k (node_at (run scenario l.front).nodes i).present
          → (node_at (run scenario l.front).nodes i).present ≡ e.incarnation
          → (e.incarnation.number ≡ 0 → ⊥) → e.incarnation.cycle ≤ k
      first_of_cycle sees same later =
          subst (λ (inc : Incarnation). inc.cycle ≤ k) same (sees.first (subst (λ (inc : Incarnation). 0 < inc.number) (sym same) (omega (arith, later))))

  -- the first incarnation sees all
  pub own_is : (r n : ℕ) (f : EndedIncarnation) → Lived scenario journal r f → n < f.next → f.incarnation.number ≡ 0
      → next_read n s r f ≡ given r (note_in s.trace n)
  own_is r n f l read first =
      next_is r n f l read ∙ ap (given r) (seen_plain f.incarnation (note_in s.trace n) (plain_original f.incarnation (note_in s.trace n) first))

  -- life that a slot has shown node r of itself, an incarnation of another node has heard that sees
  -- the slot
  pub hears : (within : IsWithin scenario.params (run scenario journal).trace) (r j n : ℕ) (e : EndedIncarnation) → (r ≡ j → ⊥)
      → Lived scenario journal j e → j < scenario.params.nodes → n < e.next
      → ((g : FrameParts) → (note_in s.trace n).frame ≡ Some g → is_hidden e.incarnation (note_in s.trace n) ≡ false)
      → IsOwnLife r (given r (note_in s.trace n)) → IsLifeOf r (next_read n s j e)
  hears within r j n e other le below re sees own =
      let note : SlotNote = note_in s.trace n in
      let age : ℕ = length s.trace - (n + 1) in
      let short = le.short in
      let there : age < length s.trace = omega (arith, short, re) in
      let plain = seen_plain e.incarnation note (sees own.0 (given-Sent r note own.0 own.1).0) in
      subst (IsLifeOf r) (sym (next_is j n e le re ∙ ap (given j) plain))
      (life_heard r j other (omega (arith, below, few_nodes scenario.params legal.in_range)) note
      (each_at (λ note. is_silent_slot note ≡ false) s.trace age no_note there (recursion_from_All (λ note. is_silent_slot note ≡ false) s.trace within.silent))
      (subst (Heard j) plain (heard_in j n e le re))
      (each_at SentOwn s.trace age no_note there (sent_own scenario journal)) own)
