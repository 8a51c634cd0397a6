-- How long a member can go without being heard: each running node that has it in its view has heard
-- it within the life interval, the lag and the bound. In a scenario without restarts, where the
-- vectors that are installed are one and there are quiet slots.
use Rattle.std.proofs.Common.{◌≡◌, ◌≢◌, ℕ, ◌+◌, ◌-◌, ◌<◌, ◌≤◌, ◌⊎◌, inl, inr, true, false, List, [], ◌∷◌, ◌++◌, length, map, drop, take, None, refl, ap, sym, ◌∙◌, subst, arith, append_assoc, length-append, length-drop}
use Rattle.std.specs.List.{AllByRecursion}
use Rattle.std.proofs.lemmas.Bool.{both_ways, cases_Bool, cases_eq, cases_lt}
use Rattle.std.proofs.lemmas.List.{length-map, take-append-drop}
use Rattle.std.proofs.lemmas.List.Elements.{recursion_from_All}
use Rattle.cany_base.specs.declared.rule.Verdict.TheVariants.{Clean}
use Rattle.cany_base.specs.declared.slot_note.SlotNote.{SlotNote}
use Rattle.cany_base.specs.declared.step.Step.{Step}
use Rattle.cany_base.specs.declared.step.Step.TheVariants as step
use Rattle.cany_base.specs.Limits.{most_nodes}
use Rattle.cany_base.specs.Nodes.{has}
use Rattle.cany_base.specs.Scenario.{ScenarioParts}
use Rattle.cany_model.specs.Bus.Frames.{identity_of}
use Rattle.cany_model.specs.Bus.History.{given}
use Rattle.cany_model.specs.Runs.Run.{after_turn, is_done, reply, run, run_from}
use Rattle.cany_model.specs.Bus.Slot.{script}
use Rattle.cany_model.specs.Bus.State.{NodeState, RunState, node_at, opening, reads, runs}
use Rattle.cany_model.specs.Promises.Hypothesis.{IsWithin, is_silent_slot}
use Rattle.cany_model.specs.Promises.OneView.{InstallsOneVector}
use Rattle.cany_model.specs.Promises.Quiet.{HasQuietSlots, IsQuiet, WasQuiet}
use Rattle.cany_model.specs.Rules.KnowledgeOf.{knowledge_of}
use Rattle.cany_model.specs.Rules.Turn.{scenario_for}
use Rattle.cany_model.proofs.Bus.Carried.{Carries}
use Rattle.cany_model.proofs.Promises.CleanSlots.{success_is_clean, verdict_not_silent}
use Rattle.cany_model.proofs.Runs.Journals.{reads_other, reads_slot, reads_turn, run_then}
use Rattle.cany_model.proofs.Bus.Notes.{given-Sent}
use Rattle.cany_model.proofs.Runs.Runs.{IsOrderly, orderly, slot_done}
use Rattle.cany_model.proofs.Runs.SlotStates.{slot_state_is, trace_grows}
use Rattle.cany_model.proofs.Bus.States.{runs_within}
use Rattle.cany_model.proofs.Runs.Steps.{after_turn-runs, running_before_slot}
use Rattle.cany_model.proofs.Promises.Diffusion.{Heard, past_of}
use Rattle.cany_model.proofs.Promises.EachNode.{IsNodes, blank_heard, each_running}
use Rattle.cany_model.proofs.Timed.Common.StepsWithoutRestarts.{KeepsFrom, from_front}
use Rattle.cany_model.proofs.Timed.Detector.NoRestarts.{all_original, follows, sees_all}
use Rattle.cany_model.proofs.Timed.Views.SameView.{end_of_rest, same_view}
use Rattle.cany_model.proofs.Timed.Detector.ShowsInTime.{SentOwn, ShowsInTime, ShownSince, quiet_shows, sent_own, shows_life_in_time}
use Rattle.cany_model.proofs.Rules.Site.LifeCounts.{last_read}
use Rattle.cany_model.proofs.Timed.Common.KnowledgeAges.{IsLifeOf, IsOwnLife, full, last_why, shown_comes, shown_either, shown_got}

-- ---- a later state

-- a node that runs in the later state ran in the earlier one, and no node has read fewer slots in
-- it
pub record IsLater (base s : RunState) : Type 0 where
  pub ran : (i : ℕ) → runs (node_at s.nodes i) ≡ true → runs (node_at base.nodes i) ≡ true
  pub read : (i : ℕ) → i < length base.nodes → reads base i ≤ reads s i

later_steps : (scenario : ScenarioParts) (base s : RunState) → IsOrderly scenario.params.nodes s → length s.nodes ≡ length base.nodes
    → KeepsFrom scenario (IsLater base) s
later_steps scenario base s o same_count = record {
  slot = λ may h. record {
    ran = λ i running. h.ran i (running_before_slot (script scenario.rules) s i running).0;
    read = λ i below.
        let same = reads_slot scenario.params.nodes (script scenario.rules) s o i (omega (arith, below, o.count, same_count)) in
        omega (arith, h.read i below, same);
  };
  turn = λ i may h. record {
    ran = λ j running. h.ran j (sym (after_turn-runs scenario i s j may (o.unread i)) ∙ running);
    read = λ j below. elim (cases_eq j i) [
      | inl same ↦
          let more : reads s i ≤ reads (after_turn scenario i s) i = omega (arith, reads_turn scenario i s o may) in
          let there : reads s j ≤ reads (after_turn scenario i s) j = subst (λ m. reads s m ≤ reads (after_turn scenario i s) m) (sym same) more in
          omega (arith, h.read j below, there)
      | inr other ↦ omega (arith, h.read j below, reads_other scenario i s j other)
    ];
  };
}

-- so it is for each front of a journal
pub later_state : (scenario : ScenarioParts) → scenario.restarts ≡ [] → (journal front rest : List Step) → journal ≡ front ++ rest
    → IsLater (run scenario front) (run scenario journal)
later_state scenario none journal front rest e =
    let base : RunState = run scenario front in
    from_front scenario none (IsLater base) journal
    (λ front' rest' e'. later_steps scenario base (run scenario front') (orderly scenario front')
    ((orderly scenario front').count ∙ sym (orderly scenario front).count))
    front rest e (record { ran = λ i running. running; read = λ i below. omega arith })

-- ---- each running node has heard the slots that ran

pub heard_kept : (scenario : ScenarioParts) → IsNodes scenario (λ trace i node. AllByRecursion (Heard i) trace)
heard_kept scenario = record {
  new = λ trace i node new. blank trace i new.blank;
  slot = λ note trace i node after same l h. (l.heard, h);
  turn = λ trace i node after same t h. h;
}
  where
    blank : (trace : List SlotNote) (i : ℕ) → AllByRecursion (λ note. note.frame ≡ None) trace → AllByRecursion (Heard i) trace
    blank [] i none = tt
    blank (note ∷ trace) i none = (blank_heard i note none.0, blank trace i none.1)

-- what a node sent to show its life every other running node got
pub life_heard : (r j : ℕ) → r ≢ j → j < most_nodes → (note : SlotNote) → is_silent_slot note ≡ false → Heard j note → SentOwn note
    → IsOwnLife r (given r note) → IsLifeOf r (given j note)
life_heard r j other few note quiet heard own (f, sent, life, mine) =
    let parts = given-Sent r note f sent in
    let carries : Carries (identity_of f) note = record { what = f; frame = parts.0; identity = refl } in
    let clean : note.verdict ≡ Clean = success_is_clean note.verdict parts.2 (verdict_not_silent (identity_of f) note carries quiet) in
    elim (heard.clean few f parts.0 clean) [
      | inl got ↦ (f, got, life, mine)
      | inr too ↦ absurd (other (sym mine ∙ own j f parts.0 (given-Sent j note f too).1 life))
    ]

-- ---- what another node knows of its life

shown_within : (scenario : ScenarioParts) (j r : ℕ) (trace : List SlotNote) → (full scenario j trace).shown r ≤ length trace
unfolding knowledge_of
shown_within scenario j r [] = omega arith
shown_within scenario j r (note ∷ trace) =
    let size = length-map trace (given j) in
    elim (shown_either scenario j (given j note) (map (given j) trace) r) [
      | inl now ↦ omega (arith, now, size)
      | inr same ↦ omega (arith, same, shown_within scenario j r trace)
    ]

shown_later : (scenario : ScenarioParts) (j r : ℕ) (newer older : List SlotNote)
    → (full scenario j older).shown r ≤ (full scenario j (newer ++ older)).shown r
shown_later scenario j r [] older = omega arith
shown_later scenario j r (note ∷ newer) older =
    let before = shown_later scenario j r newer older in
    let size = length-map (newer ++ older) (given j) in
    elim (shown_either scenario j (given j note) (map (given j) (newer ++ older)) r) [
      | inl now ↦ omega (arith, now, before, size, shown_within scenario j r (newer ++ older))
      | inr same ↦ omega (arith, same, before)
    ]

-- a node that comes into the view has shown life then
shown_since_view : (scenario : ScenarioParts) (j r : ℕ) → r < most_nodes → (newer older : List SlotNote)
    → has (full scenario j older).members r ≡ false
    → has (full scenario j (newer ++ older)).members r ≡ true → length older ≤ (full scenario j (newer ++ older)).shown r
shown_since_view scenario j r few [] older out there = absurd (both_ways (has (full scenario j older).members r) out there)
shown_since_view scenario j r few (note ∷ newer) older out there = elim (cases_Bool (has (full scenario j (newer ++ older)).members r)) [
  | inl before ↦
      let rest = shown_since_view scenario j r few newer older out before in
      let later = shown_later scenario j r (note ∷ []) (newer ++ older) in
      omega (arith, rest, later)
  | inr absent ↦
      let now = shown_comes scenario j (given j note) (map (given j) (newer ++ older)) r few (absent, there) in
      omega (arith, now, length-map (newer ++ older) (given j), length-append newer older)
]

module _ (scenario : ScenarioParts) (r j : ℕ) (other : r ≢ j) (few_r : r < most_nodes) (few_j : j < most_nodes) where
  -- of slots in which no frame was lost in silence, that node j heard and in which nodes showed
  -- their own life alone
  record Plain (trace : List SlotNote) : Type 0 where
    pub silent : AllByRecursion (λ note. is_silent_slot note ≡ false) trace
    pub heard : AllByRecursion (Heard j) trace
    pub own : AllByRecursion SentOwn trace

  -- life that it has shown since, it has heard since
  shown_since : (n : ℕ) (trace : List SlotNote) → Plain trace → ShownSince r n trace → n ≤ (full scenario j trace).shown r
  shown_since n [] plain h = absurd h
  shown_since n (note ∷ trace) plain (inl now) =
      let shown = shown_got scenario j (given j note) (map (given j) trace) r
      (life_heard r j other few_j note plain.silent.0 plain.heard.0 plain.own.0 now.0) in
      omega (arith, shown, now.1, length-map trace (given j))
  shown_since n (note ∷ trace) plain (inr before) =
      let rest = shown_since n trace (record { silent = plain.silent.1; heard = plain.heard.1; own = plain.own.1 }) before in
      omega (arith, rest, shown_later scenario j r (note ∷ []) trace)

  -- the life that it has heard is as new as what the node knows of its own, where they have had one
  -- view
  shown_kept : (base : List SlotNote)
      → ((newer older : List SlotNote) → base ≡ newer ++ older → (full scenario r older).members ≡ (full scenario j older).members)
      → (newer older : List SlotNote) → base ≡ newer ++ older → Plain older → (full scenario r older).last ≤ (full scenario j older).shown r
  unfolding knowledge_of
  shown_kept base views newer [] split plain = omega arith
  shown_kept base views newer (note ∷ older) split plain =
      let split' : base ≡ (newer ++ (note ∷ [])) ++ older = split ∙ sym (append_assoc newer (note ∷ []) older) in
      let rest : Plain older = record { silent = plain.silent.1; heard = plain.heard.1; own = plain.own.1 } in
      let before = shown_kept base views (newer ++ (note ∷ [])) older split' rest in
      let size_r : length (map (given r) older) ≡ length older = length-map older (given r) in
      let size_j : length (map (given j) older) ≡ length older = length-map older (given j) in
      let most = last_read scenario r (map (given r) older) in
      elim (last_why scenario r (given r note) (map (given r) older)) [
        | inl set ↦ elim set.1 [
          | inl life ↦
              let shown = shown_got scenario j (given j note) (map (given j) older) r
              (life_heard r j other few_j note plain.silent.0 plain.heard.0 plain.own.0 life) in
              omega (arith, set.0, shown, size_r, size_j)
          | inr comes ↦
              let old : has (full scenario j older).members r ≡ false =
              ap (λ m. has m r) (sym (views (newer ++ (note ∷ [])) older split')) ∙ comes.0 in
              let new : has (full scenario j (note ∷ older)).members r ≡ true =
              ap (λ m. has m r) (sym (views newer (note ∷ older) split)) ∙ comes.1 in
              let shown = shown_comes scenario j (given j note) (map (given j) older) r few_r (old, new) in
              omega (arith, set.0, shown, size_r, size_j)
        ]
        | inr same ↦ elim (shown_either scenario j (given j note) (map (given j) older) r) [
          | inl now ↦ omega (arith, same, now, most, size_r, size_j)
          | inr kept ↦ omega (arith, same, kept, before)
        ]
      ]

  plain_rest : (newer older : List SlotNote) → Plain (newer ++ older) → Plain older
  plain_rest [] older plain = plain
  plain_rest (note ∷ newer) older plain = plain_rest newer older (record { silent = plain.silent.1; heard = plain.heard.1; own = plain.own.1 })

  -- In a quiet state node r has read all but so many of these slots, and node j has read all, and
  -- more: where node r is a member, it has read its last life in time, or has shown it since; where
  -- it is none, it comes into the view of node j since.
  gap_at : (before trace : List SlotNote) (unread : ℕ) → unread ≤ scenario.params.lag
      → ((newer older : List SlotNote) → drop unread trace ≡ newer ++ older → (full scenario r older).members ≡ (full scenario j older).members)
      → Plain trace
      → (has (full scenario r (drop unread trace)).members r ≡ true
      → (length trace ≤ (full scenario r (drop unread trace)).last + scenario.params.life + scenario.params.lag)
      ⊎ ShownSince r (length (map (given r) (drop unread trace))) trace)
      → has (full scenario j (before ++ trace)).members r ≡ true
      → length trace ≤ (full scenario j (before ++ trace)).shown r + scenario.params.life + scenario.params.lag
  gap_at before trace unread lag views plain shows there =
      let old : List SlotNote = drop unread trace in
      let parts : take unread trace ++ old ≡ trace = take-append-drop unread trace in
      let size : length (map (given r) old) ≡ length trace - unread = length-map old (given r) ∙ length-drop unread trace in
      let later = shown_later scenario j r before trace in
      elim (cases_Bool (has (full scenario r old).members r)) [
        | inl member ↦ elim (shows member) [
          | inl near ↦
              let kept = shown_kept old views [] old refl (plain_rest (take unread trace) old (subst Plain (sym parts) plain)) in
              let since : (full scenario j old).shown r ≤ (full scenario j trace).shown r =
              subst (λ t. (full scenario j old).shown r ≤ (full scenario j t).shown r) parts (shown_later scenario j r (take unread trace) old) in
              omega (arith, near, kept, since, later)
          | inr shown ↦
              let heard = shown_since (length (map (given r) old)) trace plain shown in
              omega (arith, heard, later, lag, size)
        ]
        | inr out ↦
            let out_j : has (full scenario j old).members r ≡ false = ap (λ m. has m r) (sym (views [] old refl)) ∙ out in
            let split : before ++ trace ≡ (before ++ take unread trace) ++ old =
            ap (λ t. before ++ t) (sym parts) ∙ sym (append_assoc before (take unread trace) old) in
            let comes = shown_since_view scenario j r few_r (before ++ take unread trace) old out_j
            (subst (λ t. has (full scenario j t).members r ≡ true) split there) in
            let same : (full scenario j ((before ++ take unread trace) ++ old)).shown r ≡ (full scenario j (before ++ trace)).shown r =
            ap (λ t. (full scenario j t).shown r) (sym split) in
            omega (arith, comes, same, lag, length-drop unread trace)
      ]

-- ---- every run without restarts

module _ (scenario : ScenarioParts) (none : scenario.restarts ≡ []) (few : scenario.params.nodes ≤ most_nodes) (journal : List Step) where
  abbrev s : RunState
  s = run scenario journal

  below_most : (i : ℕ) → runs (node_at s.nodes i) ≡ true → i < most_nodes
  below_most i running = omega (arith, runs_within s.nodes i running, (orderly scenario journal).count, few)

  shows_there : 0 < scenario.params.life → (i : ℕ) → runs (node_at s.nodes i) ≡ true → i < most_nodes
      → ShowsInTime scenario i s.trace (past_of i s.trace (node_at s.nodes i)) (node_at s.nodes i).waiting
  shows_there some i running small =
      let node : NodeState = node_at s.nodes i in
      let all = all_original scenario none journal in
      subst (λ sc. ShowsInTime sc i s.trace (past_of i s.trace node) node.waiting) (follows scenario s all i)
      (subst (λ trace. ShowsInTime (scenario_for scenario node.present) i trace (past_of i trace node) node.waiting)
      (sees_all scenario s all i s.trace)
      ((shows_life_in_time scenario some journal i running).shows small))

  heard_there : (i : ℕ) → runs (node_at s.nodes i) ≡ true → AllByRecursion (Heard i) s.trace
  heard_there i running =
      subst (AllByRecursion (Heard i)) (sees_all scenario s (all_original scenario none journal) i s.trace)
      (each_running scenario (λ trace i node. AllByRecursion (Heard i) trace) (heard_kept scenario) journal i running)

-- in a state that another one follows, where it is quiet and the next slot runs
record QuietBefore (scenario : ScenarioParts) (journal : List Step) (t : ℕ) : Type 0 where
  before : List Step
  newer : List SlotNote
  split : (run scenario journal).trace ≡ newer ++ (run scenario before).trace
  number : length (run scenario before).trace ≡ t
  later : IsLater (run scenario before) (run scenario journal)
  lag : (i : ℕ) → runs (node_at (run scenario before).nodes i) ≡ true → (node_at (run scenario before).nodes i).unread ≤ scenario.params.lag
  quiet : IsQuiet scenario (run scenario before)

quiet_before : (scenario : ScenarioParts) → scenario.restarts ≡ [] → (journal : List Step) (t : ℕ) → WasQuiet scenario journal t
    → QuietBefore scenario journal t
quiet_before scenario none journal t was =
    let way = slot_state_is scenario t journal was.state was.ran in
    let base : RunState = run scenario way.before in
    let back : was.state ≡ base = sym way.state in
    let whole : run scenario journal ≡ run_from scenario base (step.Slot ∷ way.after) =
    ap (run scenario) way.whole ∙ run_then scenario (opening scenario.params.nodes) way.before (step.Slot ∷ way.after) in
    let grows = trace_grows scenario base (step.Slot ∷ way.after) in
    let done : is_done (reply scenario base step.Slot) ≡ true = subst (λ r. is_done (reply scenario r step.Slot) ≡ true) back way.done in
    record {
      before = way.before;
      newer = grows.0;
      split = ap (λ (r : RunState). r.trace) whole ∙ grows.1;
      number = ap (λ (r : RunState). length r.trace) way.state ∙ way.number;
      later = later_state scenario none journal way.before (step.Slot ∷ way.after) way.whole;
      lag = (slot_done scenario base done).lag;
      quiet = subst (IsQuiet scenario) back was.quiet;
    }

-- a running node that another one has in its view was heard by it in time
pub heard_in_time : (scenario : ScenarioParts) → scenario.restarts ≡ [] → scenario.params.nodes ≤ most_nodes → 0 < scenario.params.life
    → (journal : List Step)
    → IsWithin scenario.params (run scenario journal).trace → HasQuietSlots scenario journal
    → ((k : ℕ) → InstallsOneVector scenario (run scenario journal) k) → (r j : ℕ) → r ≢ j
    → runs (node_at (run scenario journal).nodes r) ≡ true → runs (node_at (run scenario journal).nodes j) ≡ true
    → has (knowledge_of scenario j (past_of j (run scenario journal).trace (node_at (run scenario journal).nodes j))).members r ≡ true
    → length (past_of j (run scenario journal).trace (node_at (run scenario journal).nodes j))
    ≤ (knowledge_of scenario j (past_of j (run scenario journal).trace (node_at (run scenario journal).nodes j))).shown r
    + scenario.params.life + scenario.params.lag + scenario.params.bound
heard_in_time scenario none few some journal within quiet one r j other running_r running_j there =
    let s : RunState = run scenario journal in
    let unread : ℕ = (node_at s.nodes j).unread in
    let size : length (past_of j s.trace (node_at s.nodes j)) ≡ length s.trace - unread =
    length-map (drop unread s.trace) (given j) ∙ length-drop unread s.trace in
    elim (cases_lt (length s.trace - unread) scenario.params.bound) [
      | inl short ↦ omega (arith, short, size)
      | inr long ↦
          let found = quiet (length s.trace - unread - scenario.params.bound) (omega (arith, long)) in
          let q = quiet_before scenario none journal found.0 found.3 in
          let base : RunState = run scenario q.before in
          let node : NodeState = node_at base.nodes r in
          let few_r : r < most_nodes = below_most scenario none few journal r running_r in
          let few_j : j < most_nodes = below_most scenario none few journal j running_j in
          let ran = q.later.ran r running_r in
          let o = orderly scenario journal in
          let rest = end_of_rest s.trace q.newer base.trace unread q.split (omega (arith, q.number, found.2, long)) in
          let plain : Plain scenario r j other few_r few_j base.trace =
          plain_rest scenario r j other few_r few_j q.newer base.trace (subst (Plain scenario r j other few_r few_j) q.split (record {
            silent = recursion_from_All (λ note. is_silent_slot note ≡ false) s.trace within.silent;
            heard = heard_there scenario none few journal j running_j;
            own = sent_own scenario journal;
          })) in
          let read_r = q.later.read r (runs_within base.nodes r ran) in
          let views : (newer older : List SlotNote) → drop node.unread base.trace ≡ newer ++ older
          → (full scenario r older).members ≡ (full scenario j older).members = λ newer older e.
          let tail : base.trace ≡ (take node.unread base.trace ++ newer) ++ older =
          sym (take-append-drop node.unread base.trace) ∙ ap (λ t. take node.unread base.trace ++ t) e
          ∙ sym (append_assoc (take node.unread base.trace) newer older) in
          let split : s.trace ≡ (q.newer ++ (take node.unread base.trace ++ newer)) ++ older =
          q.split ∙ ap (λ t. q.newer ++ t) tail ∙ sym (append_assoc q.newer (take node.unread base.trace ++ newer) older) in
          let short : length older ≤ length base.trace - node.unread =
          omega (arith, length-drop node.unread base.trace, ap length e, length-append newer older) in
          same_view scenario s o (all_original scenario none journal) one r j running_r running_j
          (q.newer ++ (take node.unread base.trace ++ newer)) older split
          (omega (arith, short, read_r)) (omega (arith, short, q.number, found.2, long)) in
          let heard = gap_at scenario r j other few_r few_j rest.0 base.trace node.unread (q.lag r ran) views plain
          (λ member. quiet_shows scenario r base.trace node (shows_there scenario none few q.before some r ran few_r) (q.quiet.waits r ran)
          (q.lag r ran) member)
          (subst (λ t. has (full scenario j t).members r ≡ true) rest.1 there) in
          let same : (full scenario j (rest.0 ++ base.trace)).shown r ≡ (full scenario j (drop unread s.trace)).shown r =
          ap (λ t. (full scenario j t).shown r) (sym rest.1) in
          omega (arith, heard, same, size, q.number, found.1, long)
    ]
