-- A node that stopped, and does not start again, shows no life and asks for nothing after its stop.
use Rattle.std.proofs.Common.{◌≡◌, ℕ, zero, suc, ◌+◌, ◌-◌, ◌*◌, ◌<◌, ◌≤◌, ◌==◌, if◌then◌else◌, inl, inr, Bool, true, false, List, [], ◌∷◌, length, take, get_or, Some, None, Contains, refl, ap, sym, ◌∙◌, subst, arith}
use Rattle.std.specs.List.{list_any}
use Rattle.std.specs.Prelude.{is_none}
use Rattle.std.proofs.lemmas.Bool.{and_parts, both_ways, cases_Bool, cases_eq, cases_lt, eqb-true, false_from_ne_true, false≢true}
use Rattle.std.proofs.lemmas.List.{get_or-drop}
use Rattle.cany_base.specs.declared.class.Class.TheVariants as class
use Rattle.cany_base.specs.declared.notice.NoticeKind.{NoticeKind}
use Rattle.cany_base.specs.declared.notice.NoticeKind.TheVariants.{Idle, Got, Sent, Bad}
use Rattle.cany_base.specs.declared.slot_note.SlotNote.{SlotNote}
use Rattle.cany_base.specs.declared.step.Step.{Step}
use Rattle.cany_base.specs.Frame.{FrameParts}
use Rattle.cany_base.specs.Nodes.{has}
use Rattle.cany_base.specs.Scenario.{IsLegalScenario, ScenarioParts}
use Rattle.cany_model.specs.Bus.Frames.{same_class}
use Rattle.cany_model.specs.Bus.History.{as_seen, given, is_hidden}
use Rattle.cany_model.specs.Bus.Restart.{after_restarts}
use Rattle.cany_model.specs.Bus.Slot.{FaultScript, after_slot, script, slot_note_of}
use Rattle.cany_model.specs.Bus.State.{EndedIncarnation, NodeState, RunState, node_at, opening, runs}
use Rattle.cany_model.specs.Promises.Hypothesis.{IsWithin}
use Rattle.cany_model.specs.Rules.Knowledge.{hears_life, shows_life}
use Rattle.cany_model.specs.Runs.Run.{after_turn, run}
use Rattle.cany_model.proofs.Among.{Contains-cons_cases, Contains-none}
use Rattle.cany_model.proofs.Bus.Identities.{same_class-true}
use Rattle.cany_model.proofs.Bus.Notes.{given-Got, note_of-offered, note_of-slot}
use Rattle.cany_model.proofs.Bus.Restarts.{after_restarts-trace, restarts_or_stays}
use Rattle.cany_model.proofs.Bus.Seen.{seen_idle, seen_plain}
use Rattle.cany_model.proofs.Promises.OwnSlotsAlone.{run_numbered}
use Rattle.cany_model.proofs.Runs.FrameInvariants.{slot_of_note}
use Rattle.cany_model.proofs.Runs.Journals.{run_none}
use Rattle.cany_model.proofs.Runs.Runs.{orderly}
use Rattle.cany_model.proofs.Runs.Steps.{MayTurn, after_slot-node, after_slot-trace, after_turn-other, after_turn-runs, after_turn-trace, stopped_after_slot}
use Rattle.cany_model.proofs.Timed.Detector.Stopped.{IsOwn, node_after-stops, own_waits}
use Rattle.cany_laws.specs.Detection.{IsLeftOut}
use Rattle.cany_laws.specs.Logs.{past_of, past_to}
use Rattle.cany_laws.specs.Removal.{HadItLongBefore, HearsNoLifeOf, NobodyGotJoin, got_join}
use Rattle.cany_laws.proofs.Joins.AdmissionHeard.{notice_is}
use Rattle.cany_laws.proofs.Members.EachView.{past_length}
use Rattle.cany_laws.proofs.Members.EqualMembers.{next_read}
use Rattle.cany_laws.proofs.KeptAlongJournal.{kept_always}
use Rattle.cany_laws.proofs.Silences.Lives.{Lived, lived}
use Rattle.cany_laws.proofs.Members.RemovalJoiners.{note_of}
use Rattle.cany_laws.proofs.Members.RemovalOut.{removed}

-- ---- what a stopped node sends

-- no slot after slot t carried a frame that node r sends for itself alone
abbrev SilentAfter : ℕ → ℕ → List SlotNote → Type 0
SilentAfter r t trace = (note : SlotNote) → Contains trace note → t < note.slot → (f : FrameParts) → note.frame ≡ Some f → IsOwn f → f.node ≡ r → ⊥

not_both : (node : NodeState) (t : ℕ) → runs node ≡ true → node.stopped ≡ Some t → ⊥
not_both node t running stopped = false≢true (sym (ap is_none stopped) ∙ running)

module _ (scenario : ScenarioParts) (life : 0 < scenario.params.life) (r : ℕ) (there : r < scenario.params.nodes) where
  abbrev Kept : RunState → Type 0
  Kept s = (t : ℕ) → (node_at s.nodes r).stopped ≡ Some t → SilentAfter r t s.trace

  by_turn : (front : List Step) (j : ℕ) → MayTurn (run scenario front) j → Kept (run scenario front) → Kept (after_turn scenario j (run scenario front))
  by_turn front j may before t stopped =
      let s : RunState = run scenario front in
      let to : RunState = after_turn scenario j s in
      elim (cases_eq r j) [
        | inl same ↦
            let running : runs (node_at to.nodes r) ≡ true =
            after_turn-runs scenario j s r may ((orderly scenario front).unread j) ∙ subst (λ m. runs (node_at s.nodes m) ≡ true) (sym same) may.running in
            absurd (not_both (node_at to.nodes r) t running stopped)
        | inr other ↦
            subst (SilentAfter r t) (sym (after_turn-trace scenario j s))
            (before t (ap (λ (node : NodeState). node.stopped) (sym (after_turn-other scenario j s r other)) ∙ stopped))
      ]

  by_slot : (front : List Step) → Kept (run scenario front) → Kept (after_restarts scenario (after_slot (script scenario.rules) (run scenario front)))
  by_slot front before t stopped =
      let s : RunState = run scenario front in
      let rules : FaultScript = script scenario.rules in
      let slot : RunState = after_slot rules s in
      let trace : (after_restarts scenario slot).trace ≡ slot_note_of rules s ∷ s.trace = after_restarts-trace scenario slot ∙ after_slot-trace rules s in
      subst (SilentAfter r t) (sym trace) (elim (restarts_or_stays scenario slot r) [
        | inl new ↦ absurd (none_some t (sym (ap (λ (node : NodeState). node.stopped) new.is) ∙ stopped))
        | inr stays ↦
            let now : (node_at slot.nodes r).stopped ≡ Some t = ap (λ (node : NodeState). node.stopped) (sym stays) ∙ stopped in
            elim (cases_Bool (runs (node_at s.nodes r))) [
              | inl ran ↦ stops_here ran now
              | inr down ↦ was_down down (sym (stopped_after_slot rules s r down) ∙ now)
            ]
      ])
    where
      none_some : (n : ℕ) → None ≡ Some n → ⊥
      none_some n e = cc

      -- it stops in this slot, and so no later one ran yet
      stops_here : runs (node_at (run scenario front).nodes r) ≡ true
          → (node_at (after_slot (script scenario.rules) (run scenario front)).nodes r).stopped ≡ Some t
          → SilentAfter r t (slot_note_of (script scenario.rules) (run scenario front) ∷ (run scenario front).trace)
      stops_here ran now note stands late f frame own named =
          let s : RunState = run scenario front in
          let rules : FaultScript = script scenario.rules in
          let o = orderly scenario front in
          let this : SlotNote = slot_note_of rules s in
          let is : (if has this.stops r then Some this.slot else None) ≡ Some t =
          sym (node_after-stops r this (node_at s.nodes r) ran)
          ∙ sym (ap (λ (node : NodeState). node.stopped) (after_slot-node rules s r (omega (arith, there, o.count)))) ∙ now in
          let at : this.slot ≡ t = stop_slot (has this.stops r) this.slot is in
          let last : note.slot ≤ length s.trace = elim (Contains-cons_cases this note s.trace stands) [
            | inl same ↦ omega (arith, note_of-slot rules s, ap (λ (n : SlotNote). n.slot) same)
            | inr older ↦ slot_of_note scenario.params.nodes s o note older
          ] in
          omega (arith, last, late, at, note_of-slot rules s)
        where
          stop_slot : (b : Bool) (n : ℕ) → (if b then Some n else None) ≡ Some t → n ≡ t
          stop_slot true n e = cc
          stop_slot false n e = absurd (none_some t e)

      -- it had stopped before
      was_down : runs (node_at (run scenario front).nodes r) ≡ false → (node_at (run scenario front).nodes r).stopped ≡ Some t
          → SilentAfter r t (slot_note_of (script scenario.rules) (run scenario front) ∷ (run scenario front).trace)
      was_down down was note stands late f frame own named =
          let s : RunState = run scenario front in
          let rules : FaultScript = script scenario.rules in
          elim (Contains-cons_cases (slot_note_of rules s) note s.trace stands) [
            | inr older ↦ before t was note older late f frame own named
            | inl same ↦
                let offer = note_of-offered rules s f (ap (λ (n : SlotNote). n.frame) same ∙ frame) in
                let node : r ≡ offer.node = sym named ∙ own_waits scenario life front offer.node offer.running f offer.waits own in
                both_ways (runs (node_at s.nodes r)) down (subst (λ m. runs (node_at s.nodes m) ≡ true) (sym node) offer.running)
          ]

  silent_after : (journal : List Step) → Kept (run scenario journal)
  silent_after =
      kept_always scenario Kept (record { slot = λ front may before. by_slot front before; turn = λ front j may before. by_turn front j may before })
      (λ t stopped note stands. absurd (Contains-none note stands))

-- ---- what is heard of it

none_in_take : {X : Type 0} (test : X → Bool) (d : X) (n : ℕ) (xs : List X) → ((k : ℕ) → k < n → k < length xs → test (get_or xs k d) ≡ false)
    → list_any test (take n xs) ≡ false
none_in_take test d zero xs h = refl
none_in_take test d (suc n) [] h = refl
none_in_take test d (suc n) (x ∷ xs) h =
    rw (h 0 (omega arith) (omega arith)) (none_in_take test d n xs (λ k below short. h (suc k) (omega (arith, below)) (omega (arith, short))))

life_heard : (r : ℕ) (e : NoticeKind) → hears_life r e ≡ true → (f : FrameParts) × (e ≡ Got f) × IsOwn f × (f.node ≡ r)
life_heard r Idle h = absurd (false≢true h)
life_heard r Bad h = absurd (false≢true h)
life_heard r (Sent f) h = absurd (false≢true h)
life_heard r (Got f) h = let parts = and_parts (shows_life f) (r == f.node) h in (f, refl, inl parts.0, sym (eqb-true r f.node parts.1))

join_got : (r : ℕ) (e : NoticeKind) → got_join r e ≡ true → (f : FrameParts) × (e ≡ Got f) × IsOwn f × (f.node ≡ r)
join_got r Idle h = absurd (false≢true h)
join_got r Bad h = absurd (false≢true h)
join_got r (Sent f) h = absurd (false≢true h)
join_got r (Got f) h =
    let parts = and_parts (same_class f.class class.Join) (f.node == r) h in
    (f, refl, inr (same_class-true f.class class.Join parts.0), eqb-true f.node r parts.1)

module _ (scenario : ScenarioParts) (legal : IsLegalScenario scenario) (journal : List Step) (within : IsWithin scenario.params (run scenario journal).trace)
    (i r t k : ℕ) (e : EndedIncarnation) (below : r < scenario.params.nodes) (stopped : (node_at (run scenario journal).nodes r).stopped ≡ Some t)
    (h : HadItLongBefore scenario (run scenario journal) r t k i e) (silent : NobodyGotJoin scenario (run scenario journal) r t t) where
  abbrev s : RunState
  s = run scenario journal

  after : SilentAfter r t s.trace
  after = silent_after scenario (omega (arith, legal.formulas.bound, legal.formulas.life)) r below journal t stopped

  l : Lived scenario journal i e
  l = lived scenario journal i e h.is

  no_life : (n : ℕ) → t < n → n < e.next → hears_life r (next_read n s i e) ≡ false
  no_life n late read = false_from_ne_true (hears_life r (next_read n s i e)) (λ heard.
      let w = note_of s.trace n (run_numbered scenario.params.nodes s (orderly scenario journal)) (omega (arith, read, l.short)) in
      let is : next_read n s i e ≡ given i (as_seen e.incarnation w.note) =
      ap (λ m. next_read m s i e) (sym w.size) ∙ notice_is scenario journal i e l w.newer w.note w.older w.place (omega (arith, w.size, read)) in
      elim (cases_Bool (is_hidden e.incarnation w.note)) [
        | inl hidden ↦ false≢true (sym (ap (hears_life r) (is ∙ seen_idle i e.incarnation w.note hidden)) ∙ heard)
        | inr plain ↦
            let got = life_heard r (given i w.note)
            (ap (hears_life r) (sym (is ∙ ap (given i) (seen_plain e.incarnation w.note plain))) ∙ heard) in
            after w.note w.stands (omega (arith, late, w.slot)) got.0 (given-Got i w.note got.0 got.1).0 got.2 got.3
      ])

  hears_nothing : (u : ℕ) → u < e.next → HearsNoLifeOf scenario (run scenario journal) r t u i e
  unfolding next_read
  hears_nothing u read =
      let drops : ℕ = e.next - (u + 1) in
      let size = past_length scenario journal i e l in
      none_in_take (hears_life r) Idle (u - t) (past_to u s i e) (λ m few short.
      let place : drops + m ≡ e.next - (u - m + 1) = omega (arith, read, few) in
      ap (hears_life r) (get_or-drop drops (past_of s i e) m Idle ∙ ap (λ n. get_or (past_of s i e) n Idle) place)
      ∙ no_life (u - m) (omega (arith, few)) (omega (arith, read)))

  nobody : NobodyGotJoin scenario s r t (k * scenario.params.cycle)
  nobody note stands near until j = elim (cases_lt t note.slot) [
    | inr early ↦ silent note stands near early j
    | inl late ↦ false_from_ne_true (got_join r (given j note)) (λ heard.
        let got = join_got r (given j note) heard in
        after note stands late got.0 (given-Got j note got.0 got.1).0 got.2 got.3)
  ]

  pub stopped_removed : IsLeftOut scenario (run scenario journal) r k
  stopped_removed = removed scenario legal journal within i r t k e below h (hears_nothing (k * scenario.params.cycle) (omega (arith, h.read_end))) nobody
