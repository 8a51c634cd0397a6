-- At the turn of a node at the start of a cycle all running nodes have its view, at each slot
-- before it. Of scenarios without restart entries, where the vectors that nodes install are one.
use Rattle.std.proofs.Common.{◌≡◌, ℕ, suc, ◌+◌, ◌-◌, ◌*◌, ◌<◌, ◌≤◌, inl, inr, Bool, true, false, List, [], ◌∷◌, ◌++◌, length, map, drop, Some, None, refl, ap, sym, ◌∙◌, subst, arith, append_assoc, length-append, length-drop}
use Rattle.std.proofs.Math.Nat.{mul-le-mul_right}
use Rattle.std.proofs.Math.Seq.{drop-append_seam}
use Rattle.std.proofs.lemmas.Bool.{cases_Bool, cases_lt}
use Rattle.std.proofs.lemmas.List.{length-map}
use Rattle.cany_base.specs.declared.slot_note.SlotNote.{SlotNote}
use Rattle.cany_base.specs.declared.step.Step.{Step}
use Rattle.cany_base.specs.Params.{MeetsFormulas, Parameters}
use Rattle.cany_base.specs.Scenario.{ScenarioParts}
use Rattle.cany_model.specs.Bus.History.{given, history, history_but}
use Rattle.cany_model.specs.Runs.Run.{run}
use Rattle.cany_model.specs.Bus.State.{RunState, node_at, opening, reads, runs, slots_run}
use Rattle.cany_model.specs.Promises.Detector.{members_before}
use Rattle.cany_model.specs.Promises.OneView.{InstallsOneVector, installed_of}
use Rattle.cany_model.specs.Rules.KnowledgeOf.{knowledge_of}
use Rattle.cany_base.specs.Cycles.{cycle_of, is_end}
use Rattle.cany_model.proofs.Runs.Journals.{run_then, unread_within}
use Rattle.cany_model.proofs.Runs.Runs.{orderly}
use Rattle.cany_model.proofs.Runs.SlotStates.{trace_grows}
use Rattle.cany_model.proofs.Bus.States.{note_at}
use Rattle.cany_model.proofs.Runs.Steps.{MayTurn, next_age, next_notice}
use Rattle.cany_model.proofs.Rules.Site.KnowledgeSteps.{members_by}
use Rattle.cany_model.proofs.Timed.Detector.VectorsAgreeOn.{Says, StartSays}
use Rattle.cany_model.proofs.Timed.Detector.NoRestarts.{AllOriginal, all_original, follows, history_all, history_but_all, sees_all}
use Rattle.cany_model.proofs.Timed.Views.SameView.{end_of_rest, end_place, installed_there, no_ended, same_view}
use Rattle.cany_model.proofs.Timed.Common.KnowledgeAges.{ended_at, full, members_next}
use Rattle.cany_model.proofs.Timed.Views.VectorTurns.{starts_with}
use Rattle.cany_model.proofs.Timed.Views.VectorLastEffect.{IsCycle, at_place, no_end}

-- ---- ends of cycles

-- no cycle ends in the exchange of another one, but at its end
pub no_end_within : (p : Parameters) (k n : ℕ) → p.bound < p.cycle → k * p.cycle ≤ n → n < k * p.cycle + p.bound → is_end p n ≡ false
no_end_within p k n long from to =
    let q : ℕ = n - k * p.cycle in
    no_end p k n q (at_place p k n q (omega (arith, from)) (omega (arith, from, to, long))) (λ e. omega (arith, e, from, to))

-- nor at its start
pub start_no_end : (p : Parameters) (k n : ℕ) → IsCycle p k → n ≡ k * p.cycle → is_end p n ≡ false
start_no_end p k n c at = no_end_within p k n c.long (omega (arith, at)) (omega (arith, at, c.exchanged))

-- a cycle that ends before another one starts has ended long before
pub end_long_before : (p : Parameters) (k n : ℕ) → MeetsFormulas p → is_end p n ≡ true → n < k * p.cycle → n + p.lag < k * p.cycle
end_long_before p k n f end early =
    let at = end_place p n end in
    let d : ℕ = cycle_of p n in
    elim (cases_lt d k) [
      | inl before ↦
          let next : suc d * p.cycle ≤ k * p.cycle = mul-le-mul_right p.cycle (omega (arith, before)) in
          let more : suc d * p.cycle ≡ d * p.cycle + p.cycle = grind arith in
          omega (arith, at.1, next, more, f.cycle, f.bound)
      | inr after ↦ let step : k * p.cycle ≤ d * p.cycle = mul-le-mul_right p.cycle after in absurd (omega (arith, at.1, step, early))
    ]

-- what ends a cycle says what was installed at it
pub end_says : (b : Bool) (scenario : ScenarioParts) (r j : ℕ) (trace : List SlotNote) (unread : ℕ) (newer : List SlotNote) (note : SlotNote)
    (older : List SlotNote) → trace ≡ newer ++ (note ∷ older) → length older < length trace - unread
    → ((d : ℕ) → 0 < d → length older ≡ d * scenario.params.cycle + scenario.params.bound
    → Says r b (installed_of scenario j d (map (given j) (drop unread trace))))
    → Says r b (ended_at scenario j (given j note) (map (given j) older))
end_says b scenario r j trace unread newer note older split read installs v is = elim (cases_Bool (is_end scenario.params (length older))) [
  | inr none ↦ absurd (never (sym (no_ended scenario j note older none) ∙ is))
  | inl end ↦
      let at = end_place scenario.params (length older) end in
      let d : ℕ = cycle_of scenario.params (length older) in
      let rest = end_of_rest trace newer (note ∷ older) unread split (omega (arith, read)) in
      let there : installed_of scenario j d (map (given j) (drop unread trace)) ≡ ended_at scenario j (given j note) (map (given j) older) =
      ap (λ t. installed_of scenario j d (map (given j) t)) rest.1 ∙ installed_there scenario j d rest.0 note older at.1 in
      installs d at.0 at.1 v (there ∙ is)
]
  where
    never : None ≡ Some v → ⊥
    never e = cc

-- ---- the front of a journal

-- the trace of a front is the older part of that of the journal
pub front_split : (scenario : ScenarioParts) (journal front rest : List Step) → journal ≡ front ++ rest
    → (newer : List SlotNote) × ((run scenario journal).trace ≡ newer ++ (run scenario front).trace)
front_split scenario journal front rest e =
    let grows = trace_grows scenario (run scenario front) rest in (
      grows.0,
      ap (λ j. (run scenario j).trace) e ∙ ap (λ (s : RunState). s.trace) (run_then scenario (opening scenario.params.nodes) front rest)
          ∙ grows.1,
    )

module _ (scenario : ScenarioParts) (none : scenario.restarts ≡ []) (front : List Step) (a : ℕ) where
  abbrev s : RunState
  s = run scenario front

  -- what node a has read in it
  abbrev pub read_by : List SlotNote
  read_by = drop (node_at (run scenario front).nodes a).unread (run scenario front).trace

  -- and the note that it reads next
  abbrev pub next_note : SlotNote
  next_note = note_at (run scenario front).trace (next_age (run scenario front) a)

  -- it is enough to speak of these
  pub start_at : (k r : ℕ) (b : Bool)
      → (length read_by ≡ k * scenario.params.cycle → Says r b (starts_with scenario a (given a next_note) (map (given a) read_by)))
      → StartSays scenario k r b a (next_notice (run scenario front) a) (history a (run scenario front))
  start_at k r b says =
      let all : AllOriginal s = all_original scenario none front in
      let notice : next_notice s a ≡ given a next_note = ap (λ trace. given a (note_at trace (next_age s a))) (sees_all scenario s all a s.trace) in
      subst (λ past. length past ≡ k * scenario.params.cycle → Says r b (starts_with scenario a (next_notice s a) past))
      (sym (history_all scenario s all a))
      (λ at. subst (λ e. Says r b (starts_with scenario a e (map (given a) read_by))) (sym notice) (says (sym (length-map read_by (given a)) ∙ at)))

  -- at its turn of the start of a cycle
  module _ (f : MeetsFormulas scenario.params) (one : (k : ℕ) → InstallsOneVector scenario (run scenario front) k)
      (may : MayTurn (run scenario front) a)
      (k : ℕ) (at : length read_by ≡ k * scenario.params.cycle) (j : ℕ) (rj : runs (node_at (run scenario front).nodes j) ≡ true)
    where
      reads_all : reads s a ≡ k * scenario.params.cycle
      reads_all = sym (length-drop (node_at s.nodes a).unread s.trace) ∙ at

      -- the other nodes have read all but lag slots
      reads_late : k * scenario.params.cycle ≤ reads s j + scenario.params.lag
      reads_late = omega (
        arith,
        reads_all,
        may.unread,
        (orderly scenario front).unread a,
        unread_within scenario front j rj,
        (orderly scenario front).unread j,
      )

      no_end_late : (n : ℕ) → reads s j ≤ n → n < k * scenario.params.cycle → is_end scenario.params n ≡ false
      no_end_late n from to = elim (cases_Bool (is_end scenario.params n)) [
        | inr other ↦ other
        | inl end ↦ absurd (omega (arith, end_long_before scenario.params k n f end to, reads_late, from))
      ]

      -- so they have its view
      pub view_at : (newer base : List SlotNote) → (run scenario front).trace ≡ newer ++ base → length base ≤ k * scenario.params.cycle
          → (full scenario a base).members ≡ (full scenario j base).members
      unfolding knowledge_of
      view_at newer [] split short = refl
      view_at newer (note ∷ older) split short = elim (cases_lt (reads s j) (length (note ∷ older))) [
        | inr read ↦ same_view scenario s (orderly scenario front) (all_original scenario none front) one a j may.running rj newer
            (note ∷ older) split
            (omega (arith, short, reads_all)) read
        | inl later ↦
            let other : is_end scenario.params (length older) ≡ false = no_end_late (length older) (omega (arith, later)) (omega (arith, short)) in
            let before : (full scenario a older).members ≡ (full scenario j older).members =
            view_at (newer ++ (note ∷ [])) older (split ∙ sym (append_assoc newer (note ∷ []) older)) (omega (arith, short)) in
            members_next scenario a (given a note) (map (given a) older)
            ∙ ap (λ v. members_by v (full scenario a older).members) (no_ended scenario a note older other)
            ∙ before
            ∙ sym (members_next scenario j (given j note) (map (given j) older)
            ∙ ap (λ v. members_by v (full scenario j older).members) (no_ended scenario j note older other))
      ]

-- ---- the view before a slot

-- the view that a node has before a slot, by the slots before it
pub members_then : (scenario : ScenarioParts) → scenario.restarts ≡ [] → (journal : List Step) (i t : ℕ) (newer base : List SlotNote)
    → (run scenario journal).trace ≡ newer ++ base → length base ≡ t
    → members_before scenario (run scenario journal) t i ≡ (full scenario i base).members
members_then scenario none journal i t newer base split size =
    let s : RunState = run scenario journal in
    let all : AllOriginal s = all_original scenario none journal in
    let left : length s.trace - t ≡ length newer = omega (arith, ap length split, length-append newer base, size) in
    ap (λ (sc : ScenarioParts). (knowledge_of sc i (history_but (slots_run s - t) i s)).members) (follows scenario s all i)
    ∙ ap (λ past. (knowledge_of scenario i past).members) (history_but_all scenario s all i (slots_run s - t))
    ∙ ap (λ n. (full scenario i (drop n s.trace)).members) left
    ∙ ap (λ trace. (full scenario i (drop (length newer) trace)).members) split
    ∙ ap (λ trace. (full scenario i trace).members) (drop-append_seam newer base)
