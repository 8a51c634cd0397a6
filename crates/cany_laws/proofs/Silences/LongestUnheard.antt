-- How long an incarnation that has a node in its view can go without hearing it: where that node
-- ran in its first incarnation in a quiet state, not longer before that than the life interval and
-- the lag.
use Rattle.std.proofs.Common.{◌≡◌, ℕ, suc, ◌+◌, ◌-◌, ◌<◌, ◌≤◌, inl, inr, true, List, [], ◌∷◌, ◌++◌, length, map, drop, refl, ap, sym, ◌∙◌, subst, arith, drop-drop, length-append}
use Rattle.std.specs.Prelude.{Contains}
use Rattle.std.proofs.Math.Seq.{drop-append_seam}
use Rattle.std.proofs.lemmas.Bool.{cases_Bool}
use Rattle.cany_base.proofs.ParamsFacts.{few_nodes}
use Rattle.cany_base.specs.declared.slot_note.SlotNote.{SlotNote}
use Rattle.cany_base.specs.declared.step.Step.{Step}
use Rattle.cany_base.specs.declared.step.Step.TheVariants as step
use Rattle.cany_base.specs.Limits.{most_nodes}
use Rattle.cany_base.specs.Nodes.{has}
use Rattle.cany_base.specs.Scenario.{IsLegalScenario, ScenarioParts}
use Rattle.cany_model.specs.Bus.History.{given, history, seen}
use Rattle.cany_model.specs.Bus.State.{EndedIncarnation, Incarnation, NodeState, RunState, node_at, reads, runs}
use Rattle.cany_model.specs.Promises.Hypothesis.{IsWithin}
use Rattle.cany_model.specs.Promises.Quiet.{IsQuiet, WasQuiet}
use Rattle.cany_model.specs.Rules.Knowledge.{Knowledge}
use Rattle.cany_model.specs.Rules.KnowledgeOf.{knowledge_of}
use Rattle.cany_model.specs.Rules.Turn.{scenario_for}
use Rattle.cany_model.specs.Runs.Incarnations.{incarnations}
use Rattle.cany_model.specs.Runs.Run.{is_done, reply, run}
use Rattle.cany_model.proofs.Among.{Among-which}
use Rattle.cany_model.proofs.Bus.Seen.{drop_seen, history-is, length-seen, seen_original}
use Rattle.cany_model.proofs.Bus.States.{note_at}
use Rattle.cany_model.proofs.Promises.Diffusion.{past_of}
use Rattle.cany_model.proofs.Runs.Runs.{history-length, orderly, slot_done}
use Rattle.cany_model.proofs.Runs.SlotStates.{slot_state_is}
use Rattle.cany_model.proofs.Timed.Common.KnowledgeAges.{IsOwnLife}
use Rattle.cany_model.proofs.Timed.Detector.ShowsInTime.{ShownSince, quiet_shows, shows_life_in_time}
use Rattle.cany_laws.specs.Logs.{IsIncarnation, followed_by}
use Rattle.cany_laws.proofs.FalseAlarms.AlarmLife.{HasReason, has_reason, hears_since, known_at, last_heard, same_views, shown_later, shown_since, shown_then, first_read-is}
use Rattle.cany_laws.proofs.FalseAlarms.AlarmNotices.{note_in, note_older}
use Rattle.cany_laws.proofs.FalseAlarms.AlarmStops.{stays_among}
use Rattle.cany_laws.proofs.Members.EqualMembers.{first_read}
use Rattle.cany_laws.proofs.Silences.Lives.{Lived, lived}
use Rattle.cany_model.proofs.Timed.Views.StartViews.{front_split}

-- ---- an incarnation goes on

-- after a front of the journal the node had this incarnation, and what it had read then is the
-- first of what it has read in all
pub record Goes (scenario : ScenarioParts) (journal front : List Step) (i : ℕ) : Type 0 where
  pub to : EndedIncarnation
  pub is : IsIncarnation scenario (run scenario journal) i to
  pub same : to.incarnation ≡ (node_at (run scenario front).nodes i).present
  pub more : reads (run scenario front) i ≤ to.next

pub goes_on : (scenario : ScenarioParts) (i : ℕ) → i < scenario.params.nodes → (journal front rest : List Step) → journal ≡ front ++ rest
    → Goes scenario journal front i
goes_on scenario i there journal front rest whole =
    let s : RunState = run scenario front in
    let P : EndedIncarnation → Type 0 = λ e. (e.incarnation ≡ (node_at s.nodes i).present) × (reads s i ≤ e.next) in
    let later = stays_among scenario i there P (λ e f g h. (g.same ∙ h.0, omega (arith, h.1, g.more))) front rest (inl (refl, omega arith)) in
    let w = Among-which P (incarnations (run scenario (front ++ rest)) i) later in
    record {
      to = w.0;
      is = record { there = there; stands = subst (λ j. Contains (incarnations (run scenario j) i) w.0) (sym whole) w.1 };
      same = w.2.0;
      more = w.2.1;
    }

pub went : (scenario : ScenarioParts) (journal front rest : List Step) (i : ℕ) → journal ≡ front ++ rest → (g : Goes scenario journal front i)
    → first_read (reads (run scenario front) i) (run scenario journal) i g.to ≡ history i (run scenario front)
went scenario journal front rest i whole g =
    let s : RunState = run scenario journal in
    let b : RunState = run scenario front in
    let l = lived scenario journal i g.to g.is in
    let split = front_split scenario journal front rest whole in
    let u : ℕ = (node_at b.nodes i).unread in
    let short = (orderly scenario front).unread i in
    let at : length s.trace - reads b i ≡ length split.0 + u = omega (arith, ap length split.1, length-append split.0 b.trace, short) in
    first_read-is scenario journal i g.to l (reads b i) g.more
    ∙ ap (λ t. map (given i) (seen g.to.incarnation t)) (ap (λ k. drop k s.trace) at ∙ sym (drop-drop u (length split.0) s.trace)
    ∙ ap (drop u) (ap (drop (length split.0)) split.1 ∙ drop-append_seam split.0 b.trace))
    ∙ ap (λ (inc : Incarnation). map (given i) (seen inc (drop u b.trace))) g.same
    ∙ ap (map (given i)) (sym (drop_seen u (node_at b.nodes i).present b.trace))
    ∙ sym (history-is i b)

-- ---- a quiet state

pub record QuietFront (scenario : ScenarioParts) (journal : List Step) (t : ℕ) : Type 0 where
  pub front : List Step
  pub rest : List Step
  pub whole : journal ≡ front ++ rest
  pub number : length (run scenario front).trace ≡ t
  pub lag : (i : ℕ) → runs (node_at (run scenario front).nodes i) ≡ true → (node_at (run scenario front).nodes i).unread ≤ scenario.params.lag
  pub quiet : IsQuiet scenario (run scenario front)

pub quiet_front : (scenario : ScenarioParts) (journal : List Step) (t : ℕ) → WasQuiet scenario journal t → QuietFront scenario journal t
quiet_front scenario journal t was =
    let way = slot_state_is scenario t journal was.state was.ran in
    let back : was.state ≡ run scenario way.before = sym way.state in
    record {
      front = way.before;
      rest = step.Slot ∷ way.after;
      whole = way.whole;
      number = ap (λ (r : RunState). length r.trace) way.state ∙ way.number;
      lag = (slot_done scenario (run scenario way.before) (subst (λ r. is_done (reply scenario r step.Slot) ≡ true) back way.done)).lag;
      quiet = subst (IsQuiet scenario) back was.quiet;
    }

-- life that was shown since a slot, with the slot in which it was
shown_at : (i n : ℕ) (trace : List SlotNote) → ShownSince i n trace → (v : ℕ) × (n ≤ v) × (v < length trace) × IsOwnLife i (given i (note_in trace v))
shown_at i n [] h = absurd h
shown_at i n (note ∷ trace) (inl now) =
    let newest : 0 ≡ suc (length trace) - (length trace + 1) = omega arith in
    (length trace, now.1, omega arith, subst (λ k. IsOwnLife i (given i (note_at (note ∷ trace) k))) newest now.0)
shown_at i n (note ∷ trace) (inr before) =
    let w = shown_at i n trace before in
    (w.0, w.1, omega (arith, w.2), subst (λ x. IsOwnLife i (given i x)) (note_older (note ∷ trace) (note ∷ []) trace w.0 refl w.2) w.3)

-- ---- the gap

module _ (scenario : ScenarioParts) (legal : IsLegalScenario scenario) (journal : List Step) (within : IsWithin scenario.params (run scenario journal).trace)
    (r j : ℕ) (other : r ≡ j → ⊥) (e : EndedIncarnation) (je : IsIncarnation scenario (run scenario journal) j e) where
  abbrev Kj : ℕ → Knowledge
  Kj n = known_at scenario journal j e (lived scenario journal j e je) n

  -- where node r ran in its first incarnation, in a quiet state
  pub gap : (t : ℕ) (q : QuietFront scenario journal t) → r < scenario.params.nodes → runs (node_at (run scenario q.front).nodes r) ≡ true
      → (node_at (run scenario q.front).nodes r).present.number ≡ 0
      → (n : ℕ) → t ≤ n → n ≤ e.next → has (Kj n).members r ≡ true
      → t ≤ (Kj n).shown r + scenario.params.life + scenario.params.lag
  gap t q there running first n late re member =
      let s : RunState = run scenario journal in
      let b : RunState = run scenario q.front in
      let node : NodeState = node_at b.nodes r in
      let inc : Incarnation = node.present in
      let g = goes_on scenario r there journal q.front q.rest q.whole in
      let f : EndedIncarnation = g.to in
      let lr : Lived scenario journal r f = lived scenario journal r f g.is in
      let lj : Lived scenario journal j e = lived scenario journal j e je in
      let few : r < most_nodes = omega (arith, there, few_nodes scenario.params legal.in_range) in
      let original : f.incarnation.number ≡ 0 = ap (λ (i : Incarnation). i.number) g.same ∙ first in
      let m : ℕ = reads b r in
      let lag = q.lag r running in
      let number = q.number in
      let near : t ≤ m + scenario.params.lag = omega (arith, number, lag) in
      let short : m ≤ n = omega (arith, number, late) in
      let up : m + (n - m) ≡ n = omega (arith, short) in
      let mj : m ≤ e.next = omega (arith, short, re) in
      elim (cases_Bool (has (Kj m).members r)) [
        | inr out ↦
            let since = shown_since scenario journal j e lj r m (n - m) (omega (arith, up, re)) few out (ap (λ k. has (Kj k).members r) up ∙ member) in
            omega (arith, since, ap (λ k. (Kj k).shown r) up, near)
        | inl in_view ↦
            let mine : has (known_at scenario journal r f lr m).members r ≡ true =
            ap (λ v. has v r) (sym (same_views scenario legal journal within r j other f e original g.is je m mj g.more in_view)) ∙ in_view in
            let past : first_read m s r f ≡ past_of r (seen inc b.trace) node = went scenario journal q.front q.rest r q.whole g ∙ history-is r b in
            let follows : followed_by scenario f ≡ scenario_for scenario inc = ap (scenario_for scenario) g.same in
            let same : known_at scenario journal r f lr m ≡ knowledge_of (scenario_for scenario inc) r (past_of r (seen inc b.trace) node) =
            ap (λ sc. knowledge_of sc r (first_read m s r f)) follows ∙ ap (knowledge_of (scenario_for scenario inc) r) past in
            let some : 0 < scenario.params.life = omega (arith, legal.formulas.bound, legal.formulas.life) in
            let shows = (shows_life_in_time scenario some q.front r running).shows few in
            let kept = shown_later scenario journal j e lj r m (n - m) (omega (arith, up, re)) in
            elim (quiet_shows (scenario_for scenario inc) r (seen inc b.trace) node shows (q.quiet.waits r running) lag
            (ap (λ (k : Knowledge). has k.members r) (sym same) ∙ mine)) [
              | inl soon ↦
                  let heard = last_heard scenario legal journal within r j other f e original g.is je few m mj g.more in_view in
                  omega (
                    arith,
                    soon,
                    heard,
                    kept,
                    ap (λ k. (Kj k).shown r) up,
                    ap (λ (k : Knowledge). k.last) same,
                    length-seen inc b.trace,
                    number,
                  )
              | inr since ↦
                  let size : length (past_of r (seen inc b.trace) node) ≡ m = sym (ap length (history-is r b)) ∙ history-length r b in
                  let w = shown_at r (length (past_of r (seen inc b.trace) node)) b.trace
                  (subst (ShownSince r (length (past_of r (seen inc b.trace) node))) (seen_original inc b.trace first) since) in
                  let v : ℕ = w.0 in
                  let split = front_split scenario journal q.front q.rest q.whole in
                  let own : IsOwnLife r (given r (note_in s.trace v)) =
                  subst (λ x. IsOwnLife r (given r x)) (note_older s.trace split.0 b.trace v split.1 w.2) w.3 in
                  let below : v < e.next = omega (arith, w.2, number, late, re) in
                  let from : m ≤ v = omega (arith, w.1, size) in
                  let up_v : m + (v - m) ≡ v = omega (arith, from) in
                  let got = shown_then scenario journal j e lj r v below
                  (hears_since scenario legal journal within r j other f e original g.is je v below (inr (reason_at m v from mj in_view)) own) in
                  let last : (v + 1) + (n - (v + 1)) ≡ n = omega (arith, w.2, number, late) in
                  let more = shown_later scenario journal j e lj r (v + 1) (n - (v + 1)) (omega (arith, last, re)) in
                  omega (arith, got, more, ap (λ k. (Kj k).shown r) last, near, from)
            ]
      ]
    where
      reason_at : (m v : ℕ) → m ≤ v → m ≤ e.next → has (known_at scenario journal j e (lived scenario journal j e je) m).members r ≡ true
          → HasReason scenario (run scenario journal) j v e
      reason_at m v from mj in_view = elim (has_reason scenario legal journal within j e je r m mj in_view) [
        | inl begun ↦ inl begun
        | inr h ↦ inr (record { k = h.k; from = h.from; before = omega (arith, h.before, from); vector = h.vector; is = h.is })
      ]
