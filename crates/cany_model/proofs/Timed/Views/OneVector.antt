-- One view: the nodes that take part in a membership cycle since it starts install one vector at
-- its end, and those that take part only since later have none there.
use Rattle.std.proofs.Common.{◌≡◌, ◌≢◌, ℕ, zero, suc, ◌+◌, ◌*◌, ◌%◌, ◌<◌, ◌≤◌, ◌==◌, inl, inr, true, false, nat_lt, List, [], ◌∷◌, ◌++◌, length, map, drop, Option, Some, None, refl, ap, sym, ◌∙◌, subst, arith, length-append, length-drop}
use Rattle.std.specs.List.{AllByRecursion}
use Rattle.std.proofs.lemmas.Bool.{and_from, and_right, both_ways, cases_eq, cases_lt, cond-false, eq-eqb, lt-ltb, ne_eqb}
use Rattle.std.proofs.lemmas.List.{drop-append-le, drop-map, length-map, map-append}
use Rattle.std.proofs.lemmas.List.Elements.{recursion_from_All}
use Rattle.cany_base.specs.Limits.{most_nodes}
use Rattle.cany_base.specs.declared.class.Class.TheVariants as class
use Rattle.cany_base.specs.declared.notice.NoticeKind.{NoticeKind}
use Rattle.cany_base.specs.declared.notice.NoticeKind.TheVariants.{Idle, Got, Sent, Bad}
use Rattle.cany_base.specs.declared.slot_note.SlotNote.{SlotNote}
use Rattle.cany_base.specs.declared.step.Step.{Step}
use Rattle.cany_base.specs.declared.step.Step.TheVariants as step
use Rattle.cany_base.specs.Layout.{layout}
use Rattle.cany_base.specs.Nodes.{AllBelow, Nodes, nobody}
use Rattle.cany_base.specs.Params.{MeetsFormulas, Parameters}
use Rattle.cany_base.specs.Scenario.{ScenarioParts}
use Rattle.cany_model.specs.Bus.Frames.{same_class}
use Rattle.cany_model.specs.Bus.History.{as_seen, given, history, seen}
use Rattle.cany_model.specs.Runs.Run.{run}
use Rattle.cany_model.specs.Bus.State.{Incarnation, NodeState, RunState, node_at, reads, runs, slots_run}
use Rattle.cany_model.specs.Promises.Hypothesis.{IsWithin, is_silent_slot}
use Rattle.cany_model.specs.Promises.OneView.{HasReadEnd, InstallsOneVector, installed, installed_of}
use Rattle.cany_model.specs.Promises.Quiet.{HasQuietSlots, IsQuiet}
use Rattle.cany_model.specs.Promises.Settled.{IsCorrect}
use Rattle.cany_model.specs.Rules.Notices.{IsReadable, is_early, is_early_frame}
use Rattle.cany_model.specs.Rules.KnowledgeOf.{ended_in, knowledge_of}
use Rattle.cany_model.specs.Rules.Knowledge.{Knowledge}
use Rattle.cany_model.specs.Rules.Turn.{scenario_at, scenario_for}
use Rattle.cany_model.specs.Rules.Vectors.{met, rha_of, vector_in}
use Rattle.cany_base.specs.Cycles.{cycle_of, is_end}
use Rattle.cany_model.proofs.Among.{Each-drop, Each-weaker}
use Rattle.cany_model.proofs.Bus.EachRead.{EachRead, each_dropped, each_of_trace}
use Rattle.cany_model.proofs.Bus.Identities.{same_class_self}
use Rattle.cany_model.proofs.Runs.Runs.{IsOrderly, orderly}
use Rattle.cany_model.proofs.Bus.Seen.{IsSeenPast, history-is, length-seen, seen_frame}
use Rattle.cany_model.proofs.Rules.Site.NoEarlyVectors.{HearsNoEarly, hears_no_early_of}
use Rattle.cany_model.proofs.Promises.WithinSeen.{within_seen}
use Rattle.cany_model.proofs.Runs.SlotStates.{slot_state_is}
use Rattle.cany_model.proofs.Bus.States.{runs_within}
use Rattle.cany_model.proofs.Promises.WaitingIsAskable.{AllBelong, all_belong, readable_for, seen_readable}
use Rattle.cany_model.proofs.Promises.Diffusion.{Heard}
use Rattle.cany_model.proofs.Promises.EachNode.{EachRunning, blank_heard, each_running}
use Rattle.cany_model.proofs.Promises.OwnSlotsAlone.{from_later, history-seen, members_later, run_numbered}
use Rattle.cany_model.proofs.Promises.KeptVectors.{vector_at}
use Rattle.cany_model.proofs.Rules.MutedFacts.{begun_later}
use Rattle.cany_model.proofs.Rules.Site.KnowledgeFacts.{begun_knowledge}
use Rattle.cany_model.proofs.Rules.Site.KnowledgeNodes.{IsVectorOfBus, first_members, knowledge_of_bus}
use Rattle.cany_model.proofs.Rules.Site.VectorFacts.{carries_vector}
use Rattle.cany_model.proofs.Timed.Common.Ages.{past}
use Rattle.cany_model.proofs.Timed.Windows.QuietSlots.{front_trace, within_dropped}
use Rattle.cany_model.proofs.Timed.Views.NoLateVectors.{NoVectorSince, IsAfterCycle, NoVector, after_cycle, brings_none, no_vector_cycle, no_vector_seen, carried_late, sees_cycle, unasked_seen}
use Rattle.cany_model.proofs.Timed.Views.VectorQuiet.{CarriedLate, IsPlain, IsSettledNode, SeesCycle, none_held, one_vector_there, still_all}
use Rattle.cany_model.proofs.Timed.Views.VectorSlots.{cycle_of_formulas}
use Rattle.cany_model.proofs.Timed.Views.VectorSteps.{vector_kept}
use Rattle.cany_model.proofs.Timed.Views.VectorTurns.{turn_ends, turn_exchanges}
use Rattle.cany_model.proofs.Timed.Views.VectorLastEffect.{IsCycle, at_place, brings}

-- ---- the vector that is installed

pub installed_here : (scenario : ScenarioParts) (i k : ℕ) (e : NoticeKind) (before : List NoticeKind)
    → length before ≡ k * scenario.params.cycle + scenario.params.bound
    → installed_of scenario i k (e ∷ before) ≡ ended_in scenario.params (length before) e (knowledge_of scenario i before)
unfolding installed_of
installed_here scenario i k e before at = rw (eq-eqb (length before) (k * scenario.params.cycle + scenario.params.bound) at) refl

pub installed_before : (scenario : ScenarioParts) (i k : ℕ) (e : NoticeKind) (before : List NoticeKind)
    → length before ≢ k * scenario.params.cycle + scenario.params.bound
    → installed_of scenario i k (e ∷ before) ≡ installed_of scenario i k before
unfolding installed_of
installed_before scenario i k e before other = rw (ne_eqb (length before) (k * scenario.params.cycle + scenario.params.bound) other) refl

met_none : (p : Parameters) (old o : Option Nodes) → o ≡ None → met p old o ≡ old
unfolding met
met_none p old o none = ap (met p old) none

module _ (scenario : ScenarioParts) (k i : ℕ) (c : IsCycle scenario.params k) where
  abbrev start : ℕ
  start = k * scenario.params.cycle

  abbrev end : ℕ
  end = k * scenario.params.cycle + scenario.params.bound

  -- at the end of the cycle, where the notice brings no vector of it
  installed_at : (e : NoticeKind) (before : List NoticeKind) → length before ≡ end → brings scenario.params.format k e ≡ None
      → installed_of scenario i k (e ∷ before) ≡ vector_at scenario i before
  installed_at e before at none =
      installed_here scenario i k e before at
      ∙ (turn_ends scenario k i c e before at).installs
      ∙ met_none scenario.params (vector_at scenario i before) (brings scenario.params.format k e) none

  -- the vector stays while no vector of the cycle is carried
  vector_stays : (older newer : List SlotNote) → AllByRecursion (NoVector k) newer → start < length older → length (newer ++ older) ≤ end
      → vector_at scenario i (map (given i) (newer ++ older)) ≡ vector_at scenario i (map (given i) older)
  vector_stays older [] no_vectors from to = refl
  vector_stays older (note ∷ newer) no_vectors from to =
      let before : List NoticeKind = map (given i) (newer ++ older) in
      let size : length before ≡ length (newer ++ older) = length-map (newer ++ older) (given i) in
      let ex = turn_exchanges scenario k i c (given i note) before (omega (arith, from, size, length-append newer older)) (omega (arith, to, size)) in
      ex.vector
      ∙ met_none scenario.params (vector_at scenario i before) (brings scenario.params.format k (given i note))
      (brings_none scenario.params.format i k note no_vectors.0)
      ∙ vector_stays older newer no_vectors.1 from (omega (arith, to))

  installed_is : (older newer : List SlotNote) → AllByRecursion (NoVector k) newer → start < length older → length older ≤ end
      → end < length (newer ++ older) → installed_of scenario i k (map (given i) (newer ++ older)) ≡ vector_at scenario i (map (given i) older)
  installed_is older [] no_vectors from to ran = absurd (omega (arith, to, ran))
  installed_is older (note ∷ newer) no_vectors from to ran =
      let before : List NoticeKind = map (given i) (newer ++ older) in
      let size : length before ≡ length (newer ++ older) = length-map (newer ++ older) (given i) in
      elim (cases_eq (length (newer ++ older)) end) [
        | inl at ↦
            installed_at (given i note) before (size ∙ at) (brings_none scenario.params.format i k note no_vectors.0)
            ∙ vector_stays older newer no_vectors.1 from (omega (arith, at))
        | inr other ↦
            installed_before scenario i k (given i note) before (λ e. other (sym size ∙ e))
            ∙ installed_is older newer no_vectors.1 from to (omega (arith, ran, other))
      ]

-- ---- nodes that come later

-- of an incarnation that takes part only since later than the start of the cycle
module _ (scenario : ScenarioParts) (inc : Incarnation) (k i : ℕ) (c : IsCycle scenario.params k) (same : scenario.from ≡ inc.from)
    (outside : scenario.members ≡ nobody) (after : IsAfterCycle k inc) (from : k * scenario.params.cycle < inc.from)
  where
    early_none : (e : NoticeKind) → is_early inc.cycle e ≡ false → brings scenario.params.format k e ≡ None
    early_none Idle plain = refl
    early_none Bad plain = refl
    early_none (Sent f) plain = refl
    early_none (Got f) plain = by_vector (vector_in scenario.params.format k f) refl
      where
        by_vector : (o : Option Nodes) → vector_in scenario.params.format k f ≡ o → o ≡ None
        by_vector None is = refl
        by_vector (Some w) is =
            let of = carries_vector scenario.params.format k f w is in
            let rha : same_class f.class class.Rha ≡ true = ap (λ d. same_class d class.Rha) of.0 ∙ same_class_self class.Rha in
            absurd (both_ways (is_early_frame inc.cycle f) plain
            (and_from (same_class f.class class.Rha) (nat_lt f.number inc.cycle) rha (lt-ltb f.number inc.cycle (omega (arith, of.1, after.cycle)))))

    begun_vector : (read : List NoticeKind) → IsSeenPast inc read → length read ≤ inc.from → vector_at scenario i read ≡ None
    begun_vector read seen short =
        ap (λ (st : Knowledge). st.vector) (begun_knowledge scenario i read (begun_later inc scenario same outside read after.later seen short))

    -- until the end of the cycle it has none
    late_vector : (before : List NoticeKind) → IsSeenPast inc before → AllByRecursion (λ e. is_early inc.cycle e ≡ false) before
        → length before ≤ k * scenario.params.cycle + scenario.params.bound → vector_at scenario i before ≡ None
    late_vector [] seen plain to = begun_vector [] seen (omega arith)
    late_vector (e ∷ before) seen plain to = elim (cases_lt (length before) inc.from) [
      | inl short ↦ begun_vector (e ∷ before) seen (omega (arith, short))
      | inr part ↦
          (turn_exchanges scenario k i c e before (omega (arith, from, part)) (omega (arith, to))).vector
          ∙ met_none scenario.params (vector_at scenario i before) (brings scenario.params.format k e) (early_none e plain.0)
          ∙ late_vector before seen.1 plain.1 (omega (arith, to))
    ]

    -- and installs none
    late_installed : (before : List NoticeKind) → IsSeenPast inc before → AllByRecursion (λ e. is_early inc.cycle e ≡ false) before
        → installed_of scenario i k before ≡ None
    unfolding installed_of
    late_installed [] seen plain = refl
    late_installed (e ∷ before) seen plain = elim (cases_eq (length before) (k * scenario.params.cycle + scenario.params.bound)) [
      | inl at ↦
          installed_at scenario k i c e before at (early_none e plain.0)
          ∙ late_vector before seen.1 plain.1 (omega (arith, at))
      | inr other ↦ installed_before scenario i k e before other ∙ late_installed before seen.1 plain.1
    ]

-- no cycle of number 0 ends
none_first : (scenario : ScenarioParts) (i : ℕ) → scenario.params.bound < scenario.params.cycle → (before : List NoticeKind)
    → installed_of scenario i 0 before ≡ None
unfolding installed_of
none_first scenario i long [] = refl
none_first scenario i long (e ∷ before) = elim (cases_eq (length before) (0 * scenario.params.cycle + scenario.params.bound)) [
  | inl at ↦
      let p : Parameters = scenario.params in
      let number : cycle_of p (length before) ≡ 0 = (at_place p 0 (length before) p.bound at long).cycle in
      installed_here scenario i 0 e before at
      ∙ cond-false (is_end p (length before)) _ None
      (and_right (length before % p.cycle == p.bound) (nat_lt 0 (cycle_of p (length before))) (ap (nat_lt 0) number))
  | inr other ↦ installed_before scenario i 0 e before other ∙ none_first scenario i long before
]

-- ---- what is known in a quiet state

-- what was given to a running node is read of nodes of the bus, and so its vector is of such nodes,
-- wherever it stands
vectors_of_bus : (scenario : ScenarioParts) (journal : List Step) → scenario.params.nodes ≤ most_nodes
    → AllBelow scenario.params.nodes scenario.members → (i : ℕ) (inc : Incarnation) (age : ℕ)
    → IsVectorOfBus scenario.params (vector_at (scenario_for scenario inc) i (past i (seen inc (run scenario journal).trace) age))
vectors_of_bus scenario journal few first i inc age =
    let s : RunState = run scenario journal in
    let sc : ScenarioParts = scenario_for scenario inc in
    let belong : AllBelong scenario s = all_belong scenario journal few in
    let all : EachRead (IsReadable sc) (map (given i) (seen inc s.trace)) =
    each_of_trace (IsReadable sc) i inc s.trace (run_numbered scenario.params.nodes s (orderly scenario journal))
    (λ note there. readable_for scenario inc note.slot (given i (as_seen inc note)) (seen_readable scenario s i inc note belong there)) in
    let read : EachRead (IsReadable sc) (past i (seen inc s.trace) age) =
    subst (EachRead (IsReadable sc)) (drop-map (given i) age (seen inc s.trace))
    (each_dropped (IsReadable sc) age (map (given i) (seen inc s.trace)) all) in
    (knowledge_of_bus sc i (first_members scenario inc first) (past i (seen inc s.trace) age) read).vector

-- of all slots that it sees a running node has heard
all_heard : (scenario : ScenarioParts) (journal : List Step) → EachRunning (λ trace i node. AllByRecursion (Heard i) trace) (run scenario journal)
all_heard scenario journal =
    each_running scenario (λ trace i node. AllByRecursion (Heard i) trace) (record {
      new = λ trace i node new. Each-weaker (λ note. note.frame ≡ None) (Heard i) (λ note none. blank_heard i note none) trace new.blank;
      slot = λ note trace i node after same l h. (l.heard, h);
      turn = λ trace i node after same t h. h;
    }) journal

late_seen : (p : Parameters) (k : ℕ) (inc : Incarnation) (trace : List SlotNote) → CarriedLate p k trace → CarriedLate p k (seen inc trace)
late_seen p k inc [] h = tt
late_seen p k inc (note ∷ trace) h = (
  λ f frame rha number. let at = h.0 f (seen_frame inc note f frame) rha number in omega (arith, at, length-seen inc trace),
  late_seen p k inc trace h.1,
)

plain_within : (p : Parameters) (k : ℕ) (trace : List SlotNote) → IsWithin p trace → IsPlain p.omit k trace
plain_within p k trace within = record {
  silent = recursion_from_All (λ note. is_silent_slot note ≡ false) trace within.silent;
  few = within.omit (rha_of k 0);
}

module _ (scenario : ScenarioParts) (few : scenario.params.nodes ≤ most_nodes) (fits : scenario.params.nodes ≤ (layout scenario.params.format).nodes)
    (first : AllBelow scenario.params.nodes scenario.members) (k : ℕ) (c : IsCycle scenario.params k)
  where
    abbrev p : Parameters
    p = scenario.params

    settled_node : (front : List Step) → IsQuiet scenario (run scenario front) → IsWithin p (run scenario front).trace
        → k * p.cycle < slots_run (run scenario front) → slots_run (run scenario front) ≤ k * p.cycle + p.bound
        → (i : ℕ) → runs (node_at (run scenario front).nodes i) ≡ true
        → let inc = (node_at (run scenario front).nodes i).present in
        IsSettledNode (scenario_for scenario inc) k i (seen inc (run scenario front).trace)
    settled_node front quiet within from to i running =
        let s : RunState = run scenario front in
        let node : NodeState = node_at s.nodes i in
        let inc : Incarnation = node.present in
        let o = orderly scenario front in
        let size = length-seen inc s.trace in
        record {
          still = still_all (scenario_for scenario inc) fits k i c (seen inc s.trace) node.unread (omega (arith, o.unread i, size))
              (λ younger l. unasked_seen scenario s i younger (quiet.asks i running younger l))
              (vectors_of_bus scenario front few first i inc)
              (record {
                waiting = node.waiting;
                kept = vector_kept scenario front few fits first k c i running;
                none = none_held k i node.waiting (quiet.waits i running);
              });
          heard = all_heard scenario front i running;
          few = omega (arith, runs_within s.nodes i running, o.count, few);
          plain = plain_within p k (seen inc s.trace) (within_seen p inc s.trace within);
          late = late_seen p k inc s.trace (carried_late scenario front few k);
          from = omega (arith, from, size);
          to = omega (arith, to, size);
        }

    -- ---- two nodes that have read the end of the cycle

    -- such a node installs the vector that it had, over all that it was given, in the state from
    -- which on nothing of the cycle is carried
    installed_calm : (base s : RunState) → NoVectorSince p k base s → k * p.cycle < slots_run base → slots_run base ≤ k * p.cycle + p.bound
        → (i : ℕ) → (node_at s.nodes i).unread ≤ slots_run s → k * p.cycle + p.bound < reads s i
        → let inc = (node_at s.nodes i).present in
        installed scenario s i k ≡ vector_at (scenario_for scenario inc) i (map (given i) (seen inc base.trace))
    installed_calm base s h from to i short read =
        let inc : Incarnation = (node_at s.nodes i).present in
        let u : ℕ = (node_at s.nodes i).unread in
        let newer : List SlotNote = seen inc h.newer in
        let older : List SlotNote = seen inc base.trace in
        let whole : seen inc s.trace ≡ newer ++ older = ap (seen inc) h.trace ∙ map-append (as_seen inc) h.newer base.trace in
        let all : length s.trace ≡ length newer + length older =
        sym (length-seen inc s.trace) ∙ ap length whole ∙ length-append newer older in
        let size : length older ≡ length base.trace = length-seen inc base.trace in
        let few_unread : u ≤ length newer = omega (arith, all, size, short, read, to) in
        let left : history i s ≡ map (given i) (drop u newer ++ older) =
        history-is i s ∙ ap (λ t. map (given i) (drop u t)) whole ∙ ap (map (given i)) (drop-append-le u newer older few_unread) in
        let long : k * p.cycle + p.bound < length (drop u newer ++ older) =
        omega (arith, all, read, few_unread, length-append (drop u newer) older, length-drop u newer) in
        ap (installed_of (scenario_for scenario inc) i k) left
        ∙ installed_is (scenario_for scenario inc) k i c older (drop u newer) (Each-drop (NoVector k) u newer (no_vector_seen k inc h.newer h.no_vectors))
        (omega (arith, from, size)) (omega (arith, to, size)) long

    alike_after : (front rest : List Step) → IsQuiet scenario (run scenario front) → IsWithin p (run scenario (front ++ rest)).trace
        → k * p.cycle < slots_run (run scenario front) → slots_run (run scenario front) ≤ k * p.cycle + p.bound
        → (i j : ℕ) → HasReadEnd scenario (run scenario (front ++ rest)) k i → HasReadEnd scenario (run scenario (front ++ rest)) k j
        → installed scenario (run scenario (front ++ rest)) i k ≡ installed scenario (run scenario (front ++ rest)) j k
    alike_after front rest quiet within from to i j hi hj =
        installed_calm base s no_vectors from to i (o.unread i) hi.read
        ∙ one_vector_there scenario fits k c base.trace (run_numbered p.nodes base (orderly scenario front)) (carried_late scenario front few k) i j
        (node_at s.nodes i).present (node_at s.nodes j).present (sees i hi) (sees j hj) (settled i hi) (settled j hj)
        ∙ sym (installed_calm base s no_vectors from to j (o.unread j) hj.read)
      where
        base : RunState
        base = run scenario front

        s : RunState
        s = run scenario (front ++ rest)

        o : IsOrderly p.nodes s
        o = orderly scenario (front ++ rest)

        no_vectors : NoVectorSince p k base s
        no_vectors = no_vector_cycle scenario k c front rest quiet from

        part : (n : ℕ) × (base.trace ≡ drop n s.trace)
        part = front_trace scenario front rest

        within_base : IsWithin p base.trace
        within_base = subst (IsWithin p) (sym part.1) (within_dropped p s.trace part.0 within)

        sees : (n : ℕ) → HasReadEnd scenario s k n → SeesCycle p k (node_at s.nodes n).present
        sees n h = sees_cycle scenario (front ++ rest) k n (omega (arith, c.long)) h.correct.took_part

        settled : (n : ℕ) → HasReadEnd scenario s k n
            → IsSettledNode (scenario_for scenario (node_at s.nodes n).present) k n (seen (node_at s.nodes n).present base.trace)
        settled n h =
            let was = no_vectors.there n h.correct.correct.running h.correct.took_part in
            subst (λ (inc : Incarnation). IsSettledNode (scenario_for scenario inc) k n (seen inc base.trace)) (sym was.same)
            (settled_node front quiet within_base from to n was.ran)

-- ---- every run

-- a quiet slot of the exchange
record HasQuietFront (scenario : ScenarioParts) (journal : List Step) (k : ℕ) : Type 0 where
  front : List Step
  rest : List Step
  whole : journal ≡ front ++ rest
  quiet : IsQuiet scenario (run scenario front)
  from : k * scenario.params.cycle < slots_run (run scenario front)
  to : slots_run (run scenario front) ≤ k * scenario.params.cycle + scenario.params.bound

quiet_front : (scenario : ScenarioParts) (journal : List Step) (k : ℕ) → HasQuietSlots scenario journal
    → k * scenario.params.cycle + scenario.params.bound < slots_run (run scenario journal) → HasQuietFront scenario journal k
quiet_front scenario journal k slots ran =
    let q = slots (suc (k * scenario.params.cycle)) (omega (arith, ran)) in
    let was = q.3 in
    let way = slot_state_is scenario q.0 journal was.state was.ran in
    let number : slots_run (run scenario way.before) ≡ q.0 = ap (λ (s : RunState). slots_run s) way.state ∙ way.number in
    record {
      front = way.before;
      rest = step.Slot ∷ way.after;
      whole = way.whole;
      quiet = subst (IsQuiet scenario) {y = run scenario way.before} (sym way.state) was.quiet;
      from = omega (arith, number, q.1);
      to = omega (arith, number, q.2);
    }

module _ (scenario : ScenarioParts) (journal : List Step) (few : scenario.params.nodes ≤ most_nodes)
    (fits : scenario.params.nodes ≤ (layout scenario.params.format).nodes) (formulas : MeetsFormulas scenario.params)
    (first : AllBelow scenario.params.nodes scenario.members)
  where
    long : scenario.params.bound < scenario.params.cycle
    long = omega (arith, formulas.bound, formulas.cycle)

    installed_alike : IsWithin scenario.params (run scenario journal).trace → HasQuietSlots scenario journal → (k : ℕ) → (i j : ℕ)
        → HasReadEnd scenario (run scenario journal) k i → HasReadEnd scenario (run scenario journal) k j
        → installed scenario (run scenario journal) i k ≡ installed scenario (run scenario journal) j k
    installed_alike within slots zero i j hi hj =
        let s : RunState = run scenario journal in
        none_first (scenario_at scenario s i) i long (history i s) ∙ sym (none_first (scenario_at scenario s j) j long (history j s))
    installed_alike within slots (suc k) i j hi hj =
        let q = quiet_front scenario journal (suc k) slots (omega (arith, hi.read)) in
        let c : IsCycle scenario.params (suc k) = cycle_of_formulas scenario.params formulas (suc k) (omega arith) in
        let all : IsWithin scenario.params (run scenario (q.front ++ q.rest)).trace =
        subst (λ l. IsWithin scenario.params (run scenario l).trace) q.whole within in
        let here = subst (λ l. HasReadEnd scenario (run scenario l) (suc k) i) q.whole hi in
        let there = subst (λ l. HasReadEnd scenario (run scenario l) (suc k) j) q.whole hj in
        subst (λ l. installed scenario (run scenario l) i (suc k) ≡ installed scenario (run scenario l) j (suc k)) (sym q.whole)
        (alike_after scenario few fits first (suc k) c q.front q.rest q.quiet all q.from q.to i j here there)

    pub installed_late : (k i : ℕ) → IsCorrect scenario (run scenario journal) i
        → k * scenario.params.cycle < (node_at (run scenario journal).nodes i).present.from → installed scenario (run scenario journal) i k ≡ None
    installed_late zero i correct from =
        none_first (scenario_at scenario (run scenario journal) i) i long (history i (run scenario journal))
    installed_late (suc k) i correct from =
        let s : RunState = run scenario journal in
        let node : NodeState = node_at s.nodes i in
        let inc : Incarnation = node.present in
        let c : IsCycle scenario.params (suc k) = cycle_of_formulas scenario.params formulas (suc k) (omega arith) in
        let after = after_cycle scenario journal (suc k) i (omega (arith, long)) from in
        let heard : HearsNoEarly inc (history i s) = subst (HearsNoEarly inc) (sym (history-is i s)) (hears_no_early_of i node.unread inc s.trace) in
        late_installed (scenario_for scenario inc) inc (suc k) i c (from_later scenario inc after.later) (members_later scenario inc after.later)
        after from (history i s) (history-seen scenario.params.nodes s (orderly scenario journal) i) (heard after.later)

-- the nodes that take part since a cycle starts and have read its end install one vector there, and
-- those that come later none
pub one_vector : (scenario : ScenarioParts) (journal : List Step) → scenario.params.nodes ≤ most_nodes
    → scenario.params.nodes ≤ (layout scenario.params.format).nodes → MeetsFormulas scenario.params
    → AllBelow scenario.params.nodes scenario.members → IsWithin scenario.params (run scenario journal).trace → HasQuietSlots scenario journal
    → (k : ℕ) → InstallsOneVector scenario (run scenario journal) k
one_vector scenario journal few fits formulas first within slots k = record {
  alike = installed_alike scenario journal few fits formulas first within slots k;
  late = installed_late scenario journal few fits formulas first k;
}
