-- A running member that has asked for no leave stands in each view that follows. In a scenario
-- without restarts, where the vectors that are installed are one and there are quiet slots.
use Rattle.std.proofs.Common.{◌≡◌, ℕ, zero, suc, ◌+◌, ◌-◌, ◌*◌, ◌<◌, ◌≤◌, inl, inr, Bool, true, false, List, [], ◌∷◌, ◌++◌, length, map, drop, take, Option, Some, None, Contains, refl, ap, sym, ◌∙◌, subst, arith, append_assoc, length-append, length-drop, suc-mul}
use Rattle.std.specs.List.{AllByRecursion}
use Rattle.std.proofs.Math.Nat.{mul-le-mul_right}
use Rattle.std.proofs.lemmas.Bool.{cases_lt}
use Rattle.std.proofs.lemmas.List.{drop-map, length-map, take-append-drop}
use Rattle.cany_base.specs.declared.log_entry.LogEntry.{LogEntry}
use Rattle.cany_base.specs.declared.log_entry.LogEntry.TheVariants.{View}
use Rattle.cany_base.specs.declared.notice.NoticeKind.{NoticeKind}
use Rattle.cany_base.specs.declared.slot_note.SlotNote.{SlotNote}
use Rattle.cany_base.specs.declared.step.Step.{Step}
use Rattle.cany_base.specs.Layout.{layout}
use Rattle.cany_base.specs.Limits.{most_nodes}
use Rattle.cany_base.specs.Nodes.{AllBelow, Nodes, has}
use Rattle.cany_base.specs.Params.{MeetsFormulas, Parameters}
use Rattle.cany_base.specs.Scenario.{ScenarioParts}
use Rattle.cany_model.specs.Bus.History.{given, history, history_but}
use Rattle.cany_model.specs.Runs.Run.{run, run_from}
use Rattle.cany_model.specs.Bus.State.{RunState, node_at, opening, reads, runs, slots_run}
use Rattle.cany_model.specs.Promises.Detector.{AsksNoLeave, StandsAfter, StaysInViews}
use Rattle.cany_model.specs.Promises.Hypothesis.{IsWithin}
use Rattle.cany_model.specs.Promises.OneView.{InstallsOneVector, installed, installed_of}
use Rattle.cany_model.specs.Promises.Quiet.{HasQuietSlots}
use Rattle.cany_model.specs.Promises.Settled.{IsCorrect}
use Rattle.cany_model.specs.Rules.Log.{log, log_from}
use Rattle.cany_model.specs.Rules.KnowledgeOf.{knowledge_of}
use Rattle.cany_model.specs.Rules.Knowledge.{Knowledge, after_hearing, after_learning}
use Rattle.cany_base.specs.Cycles.{cycle_of, is_end}
use Rattle.cany_model.proofs.Among.{Among, Among-from_Contains, Each-second, Each-drop}
use Rattle.cany_model.proofs.Runs.Journals.{run_then, unread_within}
use Rattle.cany_model.proofs.Bus.Notes.{given-Got, given-Sent}
use Rattle.cany_model.proofs.Runs.Runs.{IsOrderly, orderly}
use Rattle.cany_model.proofs.Runs.SlotStates.{trace_grows}
use Rattle.cany_model.proofs.Bus.States.{no_note, note_at, runs_within}
use Rattle.cany_model.proofs.Runs.Steps.{MayTurn, next_age, next_notice}
use Rattle.cany_model.proofs.Promises.Diffusion.{past_of}
use Rattle.cany_model.proofs.Rules.LogFacts.{log_split, made_by}
use Rattle.cany_model.proofs.Rules.ProtocolFacts.{IsFoundedEntry, IsInstalled}
use Rattle.cany_model.proofs.Rules.Site.KnowledgeSteps.{members_by}
use Rattle.cany_model.proofs.Timed.Detector.Accuracy.{IsTimely, NoFrameIn, found_failed, found_other, no_sign, not_silent, timely_front, told_other}
use Rattle.cany_model.proofs.Timed.Detector.VectorsAgreeOn.{Says, StartSays, all_vectors_say, each_at, most, next_given, next_there, none_says}
use Rattle.cany_model.proofs.Timed.Detector.HeardWithin.{IsLater, later_state}
use Rattle.cany_model.proofs.Timed.Detector.Leaving.{HeedsNone, NoLeaveIn, asked_leavers, heeds_none, no_leave, no_leaver, start_stays}
use Rattle.cany_model.proofs.Timed.Detector.NoRestarts.{AllOriginal, all_original, follows, history_all, history_but_all}
use Rattle.cany_model.proofs.Timed.Views.SameView.{end_of, end_place, no_ended, read_installed, same_view}
use Rattle.cany_model.proofs.Timed.Common.KnowledgeAges.{ended_at, full, members_next}
use Rattle.cany_model.proofs.Timed.Views.VectorSlots.{cycle_of_formulas}
use Rattle.cany_model.proofs.Timed.Views.VectorLastEffect.{IsCycle}

-- ---- where no cycle ends

-- a cycle starts so much later than the one before
cycle_next : (p : Parameters) (k : ℕ) → 0 < k → (k - 1) * p.cycle + p.cycle ≡ k * p.cycle
cycle_next p k some =
    let next : suc (k - 1) ≡ k = omega (arith, some) in
    sym (suc-mul (k - 1) p.cycle) ∙ ap (λ n. n * p.cycle) next

-- none ends between the end of a cycle and that of the next
pub no_end_between : (p : Parameters) (k n : ℕ) → (k - 1) * p.cycle + p.bound < n → n < k * p.cycle + p.bound → is_end p n ≡ false
no_end_between p k n from to = by_end (is_end p n) refl
  where
    by_end : (b : Bool) → is_end p n ≡ b → b ≡ false
    by_end false h = refl
    by_end true h =
        let at = end_place p n h in
        let d : ℕ = cycle_of p n in
        absurd (elim (cases_lt d k) [
          | inl less ↦
              let step : d * p.cycle ≤ (k - 1) * p.cycle = mul-le-mul_right p.cycle (omega (arith, less)) in
              omega (arith, step, at.1, from)
          | inr more ↦
              let step : k * p.cycle ≤ d * p.cycle = mul-le-mul_right p.cycle more in
              omega (arith, step, at.1, to)
        ])

-- there the view stays as it is
pub members_stay : (scenario : ScenarioParts) (j : ℕ) (mid base : List SlotNote)
    → ((n : ℕ) → length base ≤ n → n < length (mid ++ base) → is_end scenario.params n ≡ false)
    → (full scenario j (mid ++ base)).members ≡ (full scenario j base).members
members_stay scenario j [] base none = refl
members_stay scenario j (note ∷ mid) base none =
    let long = length-append mid base in
    members_next scenario j (given j note) (map (given j) (mid ++ base))
    ∙ ap (λ v. members_by v (full scenario j (mid ++ base)).members)
    (no_ended scenario j note (mid ++ base) (none (length (mid ++ base)) (omega (arith, long)) (omega arith)))
    ∙ members_stay scenario j mid base (λ n from to. none n from (omega (arith, to)))

-- ---- a member stays one

-- the vector that becomes the view in a slot, if one does, has the node
abbrev pub EndsWith : ScenarioParts → (r j : ℕ) → SlotNote → List SlotNote → Type 0
EndsWith scenario r j note older = Says r true (ended_at scenario j (given j note) (map (given j) older))

pub member_stays : (scenario : ScenarioParts) (r j : ℕ) (trace base : List SlotNote) → has (full scenario j base).members r ≡ true → (limit : ℕ)
    → ((newer : List SlotNote) (note : SlotNote) (older : List SlotNote) → trace ≡ newer ++ (note ∷ older) → length base ≤ length older
    → length older < limit → EndsWith scenario r j note older)
    → (newer mid : List SlotNote) → trace ≡ newer ++ (mid ++ base) → length (mid ++ base) ≤ limit
    → has (full scenario j (mid ++ base)).members r ≡ true
member_stays scenario r j trace base member limit ends newer [] split short = member
member_stays scenario r j trace base member limit ends newer (note ∷ mid) split short =
    let before = member_stays scenario r j trace base member limit ends (newer ++ (note ∷ [])) mid
    (split ∙ sym (append_assoc newer (note ∷ []) (mid ++ base))) (omega (arith, short)) in
    let long = length-append mid base in
    ap (λ m. has m r) (members_next scenario j (given j note) (map (given j) (mid ++ base)))
    ∙ by_ended (ended_at scenario j (given j note) (map (given j) (mid ++ base)))
    (ends newer note (mid ++ base) split (omega (arith, long)) (omega (arith, short))) before
  where
    by_ended : (v : Option Nodes) → Says r true v → has (full scenario j (mid ++ base)).members r ≡ true
        → has (members_by v (full scenario j (mid ++ base)).members) r ≡ true
    by_ended None says old = old
    by_ended (Some v) says old = says v refl

-- what a node installs says so, at each slot that it has read
end_says : (scenario : ScenarioParts) (s : RunState) → IsOrderly scenario.params.nodes s → AllOriginal s → (r j : ℕ)
    (newer : List SlotNote) (note : SlotNote) (older : List SlotNote) → s.trace ≡ newer ++ (note ∷ older) → length older < reads s j
    → ((d : ℕ) → 0 < d → length older ≡ d * scenario.params.cycle + scenario.params.bound → Says r true (installed scenario s j d))
    → EndsWith scenario r j note older
end_says scenario s o all r j newer note older split read installs = by_end (is_end scenario.params (length older)) refl
  where
    by_end : (b : Bool) → is_end scenario.params (length older) ≡ b → EndsWith scenario r j note older
    by_end false none = subst (Says r true) (sym (no_ended scenario j note older none)) (none_says r true)
    by_end true end =
        let at = end_place scenario.params (length older) end in
        let d : ℕ = cycle_of scenario.params (length older) in
        subst (Says r true) (read_installed scenario s o all j d newer note older split read at.1) (installs d at.0 at.1)

-- A node that is a member after some slot is one at the start of each cycle that ends later, where
-- it has read the end of the one before.
member_at : (scenario : ScenarioParts) (s : RunState) → IsOrderly scenario.params.nodes s → AllOriginal s → (r k : ℕ) → IsCycle scenario.params k
    → (newer base : List SlotNote) → s.trace ≡ newer ++ base → has (full scenario r base).members r ≡ true
    → length base ≤ k * scenario.params.cycle + scenario.params.bound → (k - 1) * scenario.params.cycle + scenario.params.bound < reads s r
    → ((d : ℕ) → d < k → 0 < d → length base ≤ d * scenario.params.cycle + scenario.params.bound → Says r true (installed scenario s r d))
    → (front old : List SlotNote) → s.trace ≡ front ++ old → length old ≡ k * scenario.params.cycle → has (full scenario r old).members r ≡ true
member_at scenario s o all r k c newer base place member ends read before front old split at = elim (cases_lt (length old) (length base)) [
  | inr later ↦
      let m = end_of newer base front old (sym place ∙ split) later in
      subst (λ t. has (full scenario r t).members r ≡ true) (sym m.1)
      (member_stays scenario r r s.trace base member (length old) (λ newer1 note older split1 from to. elim (cases_lt (length older) (reads s r)) [
        | inl there ↦ end_says scenario s o all r r newer1 note older split1 there (λ d some is. before d (elim (cases_lt d k) [
          | inl less ↦ less
          | inr more ↦
              let step : k * scenario.params.cycle ≤ d * scenario.params.cycle = mul-le-mul_right scenario.params.cycle more in
              absurd (omega (arith, step, is, to, at))
        ]) some (omega (arith, is, from)))
        | inr unread ↦
            let none = no_end_between scenario.params k (length older) (omega (arith, unread, read)) (omega (arith, to, at)) in
            subst (Says r true) (sym (no_ended scenario r note older none)) (none_says r true)
      ])
      front m.0 (split ∙ ap (λ t. front ++ t) m.1) (omega (arith, ap length m.1)))
  | inl now ↦
      let m = end_of front old newer base (sym split ∙ place) (omega (arith, now)) in
      let size : length base ≡ length (m.0 ++ old) = ap length m.1 in
      let same : (full scenario r base).members ≡ (full scenario r old).members =
      ap (λ t. (full scenario r t).members) m.1
      ∙ members_stay scenario r m.0 old (λ n from to. no_end_between scenario.params k n
      (omega (arith, from, at, c.long, cycle_next scenario.params k c.some)) (omega (arith, to, ends, size))) in
      ap (λ nodes. has nodes r) (sym same) ∙ member
]

-- ---- every run without restarts

module _ (scenario : ScenarioParts) (none : scenario.restarts ≡ []) (fits : scenario.params.nodes ≤ (layout scenario.params.format).nodes)
    (formulas : MeetsFormulas scenario.params) (first : AllBelow scenario.params.nodes scenario.members) (journal : List Step)
    (known : (front rest : List Step) → journal ≡ front ++ rest → IsTimely scenario front) (r : ℕ)
    (running : runs (node_at (run scenario journal).nodes r) ≡ true) (asks : AsksNoLeave scenario (run scenario journal) r)
    (newer base : List SlotNote) (place : (run scenario journal).trace ≡ newer ++ base) (member : has (full scenario r base).members r ≡ true)
  where
    abbrev s : RunState
    s = run scenario journal

    abbrev p : Parameters
    p = scenario.params

    few : p.nodes ≤ most_nodes
    few = most p.format p.nodes fits

    below : r < p.nodes
    below = omega (arith, runs_within s.nodes r running, (orderly scenario journal).count)

    -- in a front of the journal in which node a takes its turn of the slot in which cycle k starts
    module _ (k : ℕ) (some : 0 < k) (ends : length base ≤ k * p.cycle + p.bound) (front rest : List Step) (e : journal ≡ front ++ rest) (a : ℕ)
        (may : MayTurn (run scenario front) a)
        (at : length (past_of a (run scenario front).trace (node_at (run scenario front).nodes a)) ≡ k * p.cycle)
        (before : (d : ℕ) → d < k → 0 < d → length base ≤ d * p.cycle + p.bound → Says r true (installed scenario s r d))
      where
        abbrev b : RunState
        b = run scenario front

        abbrev old : List SlotNote
        old = drop (node_at b.nodes a).unread b.trace

        c : IsCycle p k
        c = cycle_of_formulas p formulas k some

        later : IsLater b s
        later = later_state scenario none journal front rest e

        ran : runs (node_at b.nodes r) ≡ true
        ran = later.ran r running

        size : length old ≡ k * p.cycle
        size = sym (length-map old (given a)) ∙ at

        split : b.trace ≡ take (node_at b.nodes a).unread b.trace ++ old
        split = sym (take-append-drop (node_at b.nodes a).unread b.trace)

        grown : (more : List SlotNote) × (s.trace ≡ more ++ b.trace)
        grown =
            let grows = trace_grows scenario b rest in
            let whole : run scenario journal ≡ run_from scenario b rest = ap (run scenario) e ∙ run_then scenario (opening p.nodes) front rest in
            (grows.0, ap (λ (t : RunState). t.trace) whole ∙ grows.1)

        -- node r has read the end of the cycle before
        read : (k - 1) * p.cycle + p.bound < reads b r
        read = omega (
          arith,
          size,
          length-drop (node_at b.nodes a).unread b.trace,
          may.unread,
          (orderly scenario front).unread a,
          unread_within scenario front r ran,
          cycle_next p k some,
          formulas.cycle,
          formulas.bound,
        )

        own_member : has (full scenario r old).members r ≡ true
        own_member =
            member_at scenario s (orderly scenario journal) (all_original scenario none journal) r k c newer base place member ends
            (omega (arith, read, later.read r (runs_within b.nodes r ran))) before (grown.0 ++ take (node_at b.nodes a).unread b.trace) old
            (grown.1 ∙ ap (λ t. grown.0 ++ t) split ∙ sym (append_assoc grown.0 (take (node_at b.nodes a).unread b.trace) old)) size

        -- the two have one view there
        one_view : (full scenario a old).members ≡ (full scenario r old).members
        one_view = elim (cases_lt (reads b r) (length old)) [
          | inr both ↦
              same_view scenario b (orderly scenario front) (all_original scenario none front) (known front rest e).one a r may.running ran
              (take (node_at b.nodes a).unread b.trace) old split (omega (arith, length-drop (node_at b.nodes a).unread b.trace)) both
          | inl short ↦
              let shared : List SlotNote = drop (node_at b.nodes r).unread b.trace in
              let apart : b.trace ≡ take (node_at b.nodes r).unread b.trace ++ shared = sym (take-append-drop (node_at b.nodes r).unread b.trace) in
              let size_shared = length-drop (node_at b.nodes r).unread b.trace in
              let m = end_of (take (node_at b.nodes r).unread b.trace) shared (take (node_at b.nodes a).unread b.trace) old (sym apart ∙ split)
              (omega (arith, short, size_shared)) in
              let size_m : length old ≡ length (m.0 ++ shared) = ap length m.1 in
              let still : (j : ℕ) → (full scenario j old).members ≡ (full scenario j shared).members = λ j.
              ap (λ t. (full scenario j t).members) m.1
              ∙ members_stay scenario j m.0 shared (λ n from to. no_end_between p k n (omega (arith, from, read, size_shared))
              (omega (arith, to, size, size_m, c.exchanged))) in
              still a
              ∙ same_view scenario b (orderly scenario front) (all_original scenario none front) (known front rest e).one a r may.running ran
              (take (node_at b.nodes r).unread b.trace) shared apart
              (omega (arith, size_shared, short, length-drop (node_at b.nodes a).unread b.trace)) (omega (arith, size_shared))
              ∙ sym (still r)
        ]

        -- so what node a starts the cycle with has node r
        start_has : StartSays scenario k r true a (next_notice b a) (past_of a b.trace (node_at b.nodes a))
        start_has _ v is =
            let past : List NoticeKind = past_of a b.trace (node_at b.nodes a) in
            let notice : NoticeKind = next_notice b a in
            let n : ℕ = length past in
            let st : Knowledge = knowledge_of scenario a past in
            let note : SlotNote = note_at b.trace (next_age b a) in
            let there : next_age b a < length b.trace = next_there p.nodes b (orderly scenario front) a may in
            let given_now : notice ≡ given a note = next_given scenario fits first none front a in
            let sign = no_sign scenario none few formulas front (λ front' rest' e'. known front' (rest' ++ rest)
            (e ∙ ap (λ l. l ++ rest) e' ∙ append_assoc front' rest' rest)) r ran in
            let leave = Each-second (NoLeaveIn r) grown.0 b.trace (subst (AllByRecursion (NoLeaveIn r)) grown.1 (no_leave scenario none r below journal asks)) in
            let hears = told_other r notice (after_hearing a n notice st) (λ f got.
            each_at (NoFrameIn r) b.trace (next_age b a) no_note sign.carried there f (given-Got a note f (sym given_now ∙ got)).0) in
            let finds = found_other r p a n (after_learning a n notice st)
            (not_silent scenario none few formulas front (known front rest e) r a ran may.running notice) in
            let lives = found_failed p a n notice st r hears finds (sign.unsigned a may.running).failed in
            let heeds : HeedsNone r notice = λ f by. each_at (NoLeaveIn r) b.trace (next_age b a) no_note leave there f (elim by [
              | inl got ↦ (given-Got a note f (sym given_now ∙ got)).0
              | inr sent ↦ (given-Sent a note f (sym given_now ∙ sent)).0
            ]) in
            let stays = asked_leavers p a n notice st r heeds
            (no_leaver scenario a r past (heeds_none r a old (Each-drop (NoLeaveIn r) (node_at b.nodes a).unread b.trace leave))) in
            start_stays p a r n notice st (omega (arith, below, few))
            (no_end_between p k n (omega (arith, at, c.long, cycle_next p k some)) (omega (arith, at, c.exchanged)))
            (ap (λ nodes. has nodes r) one_view ∙ own_member) lives stays v is

    -- each vector that is installed at the end of a cycle after the slot has the node
    installs : (limit k : ℕ) → k < limit → 0 < k → length base ≤ k * p.cycle + p.bound → (j : ℕ) → runs (node_at s.nodes j) ≡ true
        → Says r true (installed scenario s j k)
    installs zero k less some ends j running_j = absurd (omega (arith, less))
    installs (suc limit) k less some ends j running_j =
        let all = all_vectors_say scenario fits first none k r true (cycle_of_formulas p formulas k some) below journal (λ front rest e a may.
        let same = history_all scenario (run scenario front) (all_original scenario none front) a in
        subst (λ past. StartSays scenario k r true a (next_notice (run scenario front) a) past) (sym same) (λ at.
        start_has k some ends front rest e a may at
        (λ d lt pos le. installs limit d (omega (arith, lt, less)) pos le r running) at)) in
        subst (λ sc. Says r true (installed_of sc j k (history j s))) (sym (follows scenario s (all_original scenario none journal) j))
        ((all.nodes j running_j).installs)

    -- so node r stays in the view of each running node, in all slots that it has read
    pub stays_member : (j : ℕ) → runs (node_at s.nodes j) ≡ true → has (full scenario j base).members r ≡ true → (front old : List SlotNote)
        → s.trace ≡ front ++ old → length base ≤ length old → length old ≤ reads s j → has (full scenario j old).members r ≡ true
    stays_member j running_j member_j front old split long read =
        let m = end_of newer base front old (sym place ∙ split) long in
        subst (λ t. has (full scenario j t).members r ≡ true) (sym m.1)
        (member_stays scenario r j s.trace base member_j (length old)
        (λ newer1 note older split1 from to.
        end_says scenario s (orderly scenario journal) (all_original scenario none journal) r j newer1 note older split1
        (omega (arith, to, read)) (λ d pos is. installs (suc d) d (omega arith) pos (omega (arith, from, is)) j running_j))
        front m.0 (split ∙ ap (λ t. front ++ t) m.1) (omega (arith, ap length m.1)))

-- ---- the views of a log

-- the view that a node enters in a log is the one that it has after some notice, at the end of the
-- cycle of that number
record WasEntered (scenario : ScenarioParts) (s : RunState) (i number : ℕ) (members : Nodes) : Type 0 where
  front : List SlotNote
  old : List SlotNote
  split : s.trace ≡ front ++ old
  read : length old ≤ reads s i
  size : length old ≡ suc (number * scenario.params.cycle + scenario.params.bound)
  view : (full scenario i old).members ≡ members

was_entered : (scenario : ScenarioParts) (s : RunState) → AllOriginal s → (i slot number : ℕ) (members : Nodes)
    → Contains (log scenario s i) (View slot number members) → WasEntered scenario s i number members
was_entered scenario s all i slot number members logged =
    let unread : ℕ = (node_at s.nodes i).unread in
    let past : List NoticeKind = past_of i s.trace (node_at s.nodes i) in
    let P : LogEntry → Type 0 = λ entry. entry ≡ View slot number members in
    let same : log scenario s i ≡ log_from scenario i past =
    ap (λ sc. log_from sc i (history i s)) (follows scenario s all i) ∙ ap (log_from scenario i) (history_all scenario s all i) in
    let by = log_split P scenario i past (subst (Among P) same (Among-from_Contains (log scenario s i) (View slot number members) logged)) in
    let made = made_by P scenario by.0 by.1 i past by.2 in
    let is : IsInstalled scenario i (drop made.place past) slot number members =
    subst (IsFoundedEntry scenario by.0 i (drop made.place past)) made.is made.founded in
    let rest : List SlotNote = drop unread s.trace in
    let old : List SlotNote = drop made.place rest in
    let place = end_place scenario.params slot is.ends in
    let notices : drop made.place past ≡ map (given i) old = drop-map (given i) made.place rest in
    let size : length old ≡ suc slot = sym (length-map old (given i)) ∙ ap length (sym notices) ∙ is.now in
    record {
      front = take unread s.trace ++ take made.place rest;
      old = old;
      split = sym (take-append-drop unread s.trace) ∙ ap (λ t. take unread s.trace ++ t) (sym (take-append-drop made.place rest))
          ∙ sym (append_assoc (take unread s.trace) (take made.place rest) old);
      read = omega (arith, length-drop unread s.trace, length-drop made.place rest);
      size = size ∙ ap suc (place.1 ∙ ap (λ n. n * scenario.params.cycle + scenario.params.bound) (sym is.number));
      view = ap (λ p. (knowledge_of scenario i p).members) (sym notices) ∙ is.members;
    }

-- a running member that has asked for no leave stands in each view of a correct node of a cycle
-- that ends later
pub stays : (scenario : ScenarioParts) → scenario.restarts ≡ [] → scenario.params.nodes ≤ (layout scenario.params.format).nodes
    → MeetsFormulas scenario.params → AllBelow scenario.params.nodes scenario.members → (journal : List Step)
    → IsWithin scenario.params (run scenario journal).trace
    → ((front rest : List Step) → journal ≡ front ++ rest → HasQuietSlots scenario front)
    → ((front rest : List Step) → journal ≡ front ++ rest → (k : ℕ) → InstallsOneVector scenario (run scenario front) k)
    → (r t : ℕ) → IsCorrect scenario (run scenario journal) r → AsksNoLeave scenario (run scenario journal) r → StandsAfter scenario (run scenario journal) r t
    → StaysInViews scenario (run scenario journal) r t
stays scenario none fits formulas first journal within quiet one r t correct asks stands i correct_i slot number members logged after =
    let s : RunState = run scenario journal in
    let all = all_original scenario none journal in
    let newest : ℕ = slots_run s - (t + 1) in
    let base : List SlotNote = drop newest s.trace in
    let place : s.trace ≡ take newest s.trace ++ base = sym (take-append-drop newest s.trace) in
    let member : (j : ℕ) → IsCorrect scenario s j → has (full scenario j base).members r ≡ true = λ j correct_j.
    ap (λ past. has (knowledge_of scenario j past).members r) (sym (history_but_all scenario s all j newest))
    ∙ ap (λ sc. has (knowledge_of sc j (history_but newest j s)).members r) (sym (follows scenario s all j))
    ∙ stands.member j correct_j in
    let w = was_entered scenario s all i slot number members logged in
    ap (λ nodes. has nodes r) (sym w.view)
    ∙ stays_member scenario none fits formulas first journal (timely_front scenario journal within quiet one) r correct.running asks
    (take newest s.trace) base place (member r correct) i correct_i.running (member i correct_i) w.front w.old w.split
    (omega (arith, length-drop newest s.trace, stands.ran, w.size, after)) w.read
