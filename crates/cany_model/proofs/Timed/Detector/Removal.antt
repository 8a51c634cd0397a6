-- A member that stopped is in no view of a cycle that starts more than the silence after its stop.
-- Of scenarios without restart entries, where the vectors that nodes install are one.
use Rattle.std.proofs.Common.{◌≡◌, ℕ, ◌+◌, ◌-◌, ◌*◌, ◌<◌, ◌≤◌, ◌⊎◌, ◌==◌, ◌&&◌, ◌||◌, not, if◌then◌else◌, inl, inr, true, false, List, [], ◌∷◌, ◌++◌, length, map, take, Option, Some, None, Contains, refl, ap, sym, ◌∙◌, subst, arith, append_assoc, length-append, length-drop}
use Rattle.std.specs.List.{AllByRecursion}
use Rattle.std.proofs.lemmas.Bool.{and_parts, both_ways, cases_lt, cond_both, eqb-true, false_from_ne_true, not-true, or_cases}
use Rattle.std.proofs.lemmas.List.{length-map, take-append-drop}
use Rattle.cany_base.specs.Limits.{most_nodes}
use Rattle.cany_base.specs.declared.class.Class.TheVariants as class
use Rattle.cany_base.specs.declared.log_entry.LogEntry.TheVariants.{View}
use Rattle.cany_base.specs.declared.notice.NoticeKind.{NoticeKind}
use Rattle.cany_base.specs.declared.notice.NoticeKind.TheVariants.{Idle, Got, Sent, Bad}
use Rattle.cany_base.specs.declared.slot_note.SlotNote.{SlotNote}
use Rattle.cany_base.specs.declared.step.Step.{Step}
use Rattle.cany_base.specs.Layout.{layout}
use Rattle.cany_base.specs.Nodes.{AllBelow, Nodes, has, minus, with_node}
use Rattle.cany_base.specs.Params.{MeetsFormulas, Parameters}
use Rattle.cany_base.specs.Scenario.{ScenarioParts}
use Rattle.cany_base.proofs.NodesFacts.{has_none}
use Rattle.cany_base.proofs.SetFacts.{has_where}
use Rattle.cany_model.specs.Bus.Frames.{same_class}
use Rattle.cany_model.specs.Bus.History.{given, history}
use Rattle.cany_model.specs.Runs.Run.{run}
use Rattle.cany_model.specs.Bus.State.{RunState, node_at, reads, runs}
use Rattle.cany_model.specs.Promises.Detector.{IsRemoved, StandsAfter}
use Rattle.cany_model.specs.Promises.OneView.{InstallsOneVector, installed_of}
use Rattle.cany_model.specs.Rules.Log.{log_from}
use Rattle.cany_model.specs.Rules.Notices.{IsReadable}
use Rattle.cany_model.specs.Rules.KnowledgeOf.{after_asking, knowledge_of}
use Rattle.cany_model.specs.Rules.Knowledge.{Knowledge, after_finding, knows, sign_in}
use Rattle.cany_base.specs.Cycles.{cycle_of, is_end}
use Rattle.cany_model.specs.Rules.Views.{after_ask, with_joiner, with_leaver}
use Rattle.cany_model.proofs.Among.{Each-second}
use Rattle.cany_model.proofs.Bus.EachRead.{EachRead}
use Rattle.cany_model.proofs.Bus.Identities.{same_class-true}
use Rattle.cany_model.proofs.Runs.Runs.{history-length, orderly}
use Rattle.cany_model.proofs.Bus.States.{each_in_front, note_at, runs_within}
use Rattle.cany_model.proofs.Runs.Steps.{MayTurn}
use Rattle.cany_model.proofs.Rules.Site.KnowledgeSteps.{joiners_after, joiners_by, members_by}
use Rattle.cany_model.proofs.Timed.Detector.VectorsAgreeOn.{Says, all_vectors_say, few_of, read_next}
use Rattle.cany_model.proofs.Timed.Detector.SilentNode.{IsOutOrSilent, NothingOf, found_joiners, found_members, known_begun, lacks_says, shown_by, silent_fails, stays_out_or_silent}
use Rattle.cany_model.proofs.Timed.Detector.HeardWithin.{later_state}
use Rattle.cany_model.proofs.Timed.Views.LoggedViews.{installed_read, view_installed}
use Rattle.cany_model.proofs.Timed.Detector.NoRestarts.{all_original, follows, history_all}
use Rattle.cany_model.proofs.Timed.Views.SameView.{end_of}
use Rattle.cany_model.proofs.Timed.Views.StartViews.{end_says, front_split, next_note, members_then, no_end_within, read_by, start_at, start_no_end, view_at}
use Rattle.cany_model.proofs.Timed.Common.KnowledgeAges.{ended_at, full, members_next}
use Rattle.cany_model.proofs.Timed.Detector.Staying.{members_stay}
use Rattle.cany_model.proofs.Timed.Detector.Stopped.{NotFrom, not_heard, silent_since, stop_of, stopped_since}
use Rattle.cany_model.proofs.Timed.Views.VectorSlots.{cycle_of_formulas}
use Rattle.cany_model.proofs.Timed.Views.VectorTurns.{starts_with}
use Rattle.cany_model.proofs.Timed.Views.VectorLastEffect.{IsCycle, at_place}

-- ---- who does not ask to join

pub leaver_joiners : (r q : ℕ) (st : Knowledge) → has st.joiners r ≡ false → has (with_leaver q st).joiners r ≡ false
leaver_joiners r q st h =
    cond_both (has st.members q) (record st { leavers = with_node q st.leavers }) st (λ s. has s.joiners r ≡ false) (λ _. h) (λ _. h)

-- a member that asks to join becomes no joiner, and no other node does without a frame of its own
pub asks_none : (r : ℕ) (e : NoticeKind) (st : Knowledge) → (has st.members r ≡ true) ⊎ NothingOf r e → has st.joiners r ≡ false
    → has (after_ask e st).joiners r ≡ false
unfolding after_ask
asks_none r Idle st why h = h
asks_none r Bad st why h = h
asks_none r (Sent f) st why h =
    cond_both (same_class f.class class.Leave) (with_leaver f.node st) st (λ s. has s.joiners r ≡ false) (λ _. leaver_joiners r f.node st h) (λ _. h)
asks_none r (Got f) st why h =
    cond_both (same_class f.class class.Join) (with_joiner f.node st) (if same_class f.class class.Leave then with_leaver f.node st else st)
    (λ s. has s.joiners r ≡ false)
    (λ join. cond_both (has st.members f.node) st (record st { joiners = with_node f.node st.joiners }) (λ s. has s.joiners r ≡ false) (λ _. h)
    (λ out. false_from_ne_true (has (with_node f.node st.joiners) r) (λ k.
    elim (or_cases (has st.joiners r) (r == f.node) (has_where (λ q. has st.joiners q || q == f.node) r k)) [
      | inl old ↦ both_ways (has st.joiners r) h old
      | inr new ↦
          let same : r ≡ f.node = eqb-true r f.node new in
          elim why [
            | inl member ↦ both_ways (has st.members f.node) out (subst (λ q. has st.members q ≡ true) same member)
            | inr nothing ↦ nothing f refl (inr (same_class-true f.class class.Join join)) (sym same)
          ]
    ])))
    (λ _. cond_both (same_class f.class class.Leave) (with_leaver f.node st) st (λ s. has s.joiners r ≡ false)
    (λ _. leaver_joiners r f.node st h) (λ _. h))

pub asked_none : (p : Parameters) (i r slot : ℕ) (e : NoticeKind) (st : Knowledge) → (has st.members r ≡ true) ⊎ NothingOf r e → has st.joiners r ≡ false
    → has (after_asking p i slot e st).joiners r ≡ false
asked_none p i r slot e st why h =
    asks_none r e (after_finding p i slot e st)
    (elim why [ inl member ↦ inl (ap (λ m. has m r) (found_members p i slot e st) ∙ member) | inr nothing ↦ inr nothing ])
    (ap (λ m. has m r) (found_joiners p i slot e st) ∙ h)

-- and one that stands in the new view asks no longer
pub joiners_less : (v : Option Nodes) (joiners : Nodes) (r : ℕ)
    → (has joiners r ≡ false) ⊎ ((w : Nodes) × (v ≡ Some w) × (has w r ≡ true)) → has (joiners_by v joiners) r ≡ false
joiners_less None joiners r (inl h) = h
joiners_less None joiners r (inr (w, e, there)) = absurd (cc)
joiners_less (Some v) joiners r why = false_from_ne_true (has (minus joiners v) r) (λ k.
    let both = and_parts (has joiners r) (not (has v r)) (has_where (λ q. has joiners q && not (has v q)) r k) in
    elim why [
      | inl h ↦ both_ways (has joiners r) h both.0
      | inr (w, e, there) ↦ both_ways (has v r) (not-true (has v r) both.1) (let same : v ≡ w = cc in ap (λ x. has x r) same ∙ there)
    ])

pub none_next : (scenario : ScenarioParts) (i r : ℕ) (e : NoticeKind) (past : List NoticeKind)
    → (has (after_asking scenario.params i (length past) e (knowledge_of scenario i past)).joiners r ≡ false)
    ⊎ ((w : Nodes) × (ended_at scenario i e past ≡ Some w) × (has w r ≡ true))
    → has (knowledge_of scenario i (e ∷ past)).joiners r ≡ false
unfolding knowledge_of
none_next scenario i r e past why =
    let st : Knowledge = knowledge_of scenario i past in
    ap (λ m. has m r) (joiners_after scenario.params i (length past) e st)
    ∙ joiners_less (ended_at scenario i e past) (after_asking scenario.params i (length past) e st).joiners r why

pub joiners_first : (scenario : ScenarioParts) (i r : ℕ) → has (knowledge_of scenario i []).joiners r ≡ false
unfolding knowledge_of
joiners_first scenario i r = has_none r

-- a member is no joiner
pub member_no_joiner : (scenario : ScenarioParts) (i r : ℕ) (past : List NoticeKind) → has (knowledge_of scenario i past).members r ≡ true
    → has (knowledge_of scenario i past).joiners r ≡ false
member_no_joiner scenario i r [] member = joiners_first scenario i r
member_no_joiner scenario i r (e ∷ past) member = by_ended (member_no_joiner scenario i r past) (ended_at scenario i e past) refl
  where
    st : Knowledge
    st = knowledge_of scenario i past

    by_ended : (has (knowledge_of scenario i past).members r ≡ true → has (knowledge_of scenario i past).joiners r ≡ false)
        → (v : Option Nodes) → ended_at scenario i e past ≡ v → has (knowledge_of scenario i (e ∷ past)).joiners r ≡ false
    by_ended before None is =
        let old : has st.members r ≡ true =
        ap (λ m. has m r) (sym (members_next scenario i e past ∙ ap (λ v. members_by v st.members) is)) ∙ member in
        none_next scenario i r e past (inl (asked_none scenario.params i r (length past) e st (inl old) (before old)))
    by_ended before (Some v) is =
        let there : has v r ≡ true = ap (λ m. has m r) (sym (members_next scenario i e past ∙ ap (λ w. members_by w st.members) is)) ∙ member in
        none_next scenario i r e past (inr (v, is, there))

-- and who sends nothing becomes none
still_no_joiner : (scenario : ScenarioParts) (i r : ℕ) (mid base : List SlotNote) → AllByRecursion (NotFrom r) mid
    → has (full scenario i base).joiners r ≡ false → has (full scenario i (mid ++ base)).joiners r ≡ false
still_no_joiner scenario i r [] base silent h = h
still_no_joiner scenario i r (note ∷ mid) base silent h =
    let past : List NoticeKind = map (given i) (mid ++ base) in
    none_next scenario i r (given i note) past
    (inl (asked_none scenario.params i r (length past) (given i note) (full scenario i (mid ++ base)) (inr (not_heard r i note silent.0))
    (still_no_joiner scenario i r mid base silent.1 h)))

-- ---- at a turn at the start of a cycle after the stop

-- node r stopped in the slot of this note, after which running nodes have it in their view
pub record StoppedAsMember (scenario : ScenarioParts) (s : RunState) (r : ℕ) : Type 0 where
  pub newer : List SlotNote
  pub note : SlotNote
  pub older : List SlotNote
  pub place : s.trace ≡ newer ++ (note ∷ older)
  pub stops : has note.stops r ≡ true
  pub member : (i : ℕ) → runs (node_at s.nodes i) ≡ true → has (full scenario i (note ∷ older)).members r ≡ true

module _ (scenario : ScenarioParts) (fits : scenario.params.nodes ≤ (layout scenario.params.format).nodes) (f : MeetsFormulas scenario.params)
    (first : AllBelow scenario.params.nodes scenario.members) (none : scenario.restarts ≡ []) (s : RunState) (r : ℕ)
    (below : r < scenario.params.nodes) (few : r < most_nodes) (stop : StoppedAsMember scenario s r) (j : ℕ) (rj : runs (node_at s.nodes j) ≡ true)
    (front : List Step) (newest : List SlotNote) (split : s.trace ≡ newest ++ (run scenario front).trace)
    (ran : runs (node_at (run scenario front).nodes j) ≡ true) (one : (k : ℕ) → InstallsOneVector scenario (run scenario front) k)
    (a : ℕ) (may : MayTurn (run scenario front) a)
  where
    abbrev base : List SlotNote
    base = stop.note ∷ stop.older

    abbrev all : List SlotNote
    all = (run scenario front).trace

    abbrev unread : ℕ
    unread = (node_at (run scenario front).nodes a).unread

    abbrev now : List SlotNote
    now = read_by scenario none front a

    abbrev note : SlotNote
    note = next_note scenario none front a

    some_life : 0 < scenario.params.life
    some_life = omega (arith, f.bound, f.life)

    -- the slots since the stop that node a has read, where it has read that of the stop
    record Since : Type 0 where
      mid : List SlotNote
      is : now ≡ mid ++ base
      place : all ≡ (take unread all ++ mid) ++ base
      silent : AllByRecursion (NotFrom r) (take unread all ++ mid)

    since : length stop.older < length now → Since
    since later =
        let parts : all ≡ take unread all ++ now = sym (take-append-drop unread all) in
        let whole : (newest ++ take unread all) ++ now ≡ s.trace =
        append_assoc newest (take unread all) now ∙ ap (λ t. newest ++ t) (sym parts) ∙ sym split in
        let m = end_of stop.newer base (newest ++ take unread all) now (sym stop.place ∙ sym whole) (omega (arith, later)) in
        let place : all ≡ (take unread all ++ m.0) ++ base =
        parts ∙ ap (λ t. take unread all ++ t) m.1 ∙ sym (append_assoc (take unread all) m.0 base) in
        record {
          mid = m.0;
          is = m.1;
          place = place;
          silent = silent_since scenario some_life none front r (take unread all ++ m.0) stop.note stop.older place stop.stops;
        }

    -- the notice of the turn is none of the stopped node's
    nothing : Since → NothingOf r (given a note)
    nothing h =
        let silent : NotFrom r (note_at all (unread - 1)) =
        subst (λ t. NotFrom r (note_at t (unread - 1))) (sym h.place)
        (each_in_front (NotFrom r) (take unread all ++ h.mid) base (unread - 1) h.silent
        (omega (
          arith,
          may.unread,
          length-append (take unread all) h.mid,
          length-append (take unread all) now,
          ap length (take-append-drop unread all),
          length-drop unread all,
          (orderly scenario front).unread a,
        ))) in
        not_heard r a note silent

    -- nor is it the stopped node that takes it
    other : Since → r ≡ a → ⊥
    other h same =
        stopped_since scenario some_life none front r (take unread all ++ h.mid) stop.note stop.older h.place stop.stops
        (subst (λ x. runs (node_at (run scenario front).nodes x) ≡ true) (sym same) may.running)

    module _ (k : ℕ) (c : IsCycle scenario.params k) (at : length now ≡ k * scenario.params.cycle)
        (later : length stop.older < k * scenario.params.cycle) where
      view : (newer old : List SlotNote) → all ≡ newer ++ old → length old ≤ k * scenario.params.cycle
          → (full scenario a old).members ≡ (full scenario j old).members
      view newer old place short = view_at scenario none front a f one may k at j ran newer old place short

      past : List NoticeKind
      past = map (given a) now

      size : length (map (given a) now) ≡ length now
      size = length-map now (given a)

      no_end : is_end scenario.params (length (map (given a) now)) ≡ false
      no_end = start_no_end scenario.params k (length (map (given a) now)) c (size ∙ at)

      have : Since
      have = since (omega (arith, at, later))

      no_joiner : has (full scenario a now).joiners r ≡ false
      no_joiner =
          let h = have in
          let long = length-append h.mid base in
          let member : has (full scenario a base).members r ≡ true =
          ap (λ m. has m r) (view (take unread all ++ h.mid) base h.place (omega (arith, later))) ∙ stop.member j rj in
          subst (λ o. has (full scenario a o).joiners r ≡ false) (sym h.is)
          (still_no_joiner scenario a r h.mid base (Each-second (NotFrom r) (take unread all) h.mid h.silent)
          (member_no_joiner scenario a r (map (given a) base) member))

      asked : has (after_asking scenario.params a (length (map (given a) now)) (given a note) (full scenario a now)).joiners r ≡ false
      asked = asked_none scenario.params a r (length (map (given a) now)) (given a note) (full scenario a now) (inr (nothing have)) no_joiner

      -- a cycle that starts with the stopped node outside
      start_outside : has (full scenario j now).members r ≡ false → Says r false (starts_with scenario a (given a note) (map (given a) now))
      start_outside out =
          lacks_says scenario.params a r (length (map (given a) now)) (given a note) (full scenario a now) no_end
          (inl (ap (λ m. has m r) (view (take unread all) now (sym (take-append-drop unread all)) (omega (arith, at))) ∙ out)) asked

      -- the sign of the cycle is not known before it starts
      unknown : knows (sign_in scenario.params (length (map (given a) now)) r) (full scenario a now) ≡ false
      unknown = false_from_ne_true (knows (sign_in scenario.params (length (map (given a) now)) r) (full scenario a now)) (λ known.
          let read : EachRead (IsReadable scenario) (map (given a) now) =
          subst (EachRead (IsReadable scenario)) (history_all scenario (run scenario front) (all_original scenario none front) a)
          (read_next scenario fits first none front a may).1 in
          let begun = known_begun scenario a (sign_in scenario.params (length (map (given a) now)) r) (map (given a) now) read known in
          let cycle : cycle_of scenario.params (length (map (given a) now)) ≡ k =
          (at_place scenario.params k (length (map (given a) now)) 0 (omega (arith, size, at)) (omega (arith, c.long))).cycle in
          omega (arith, begun, ap (λ m. m * scenario.params.cycle) cycle, size, at))

      -- a cycle that starts late enough
      start_late : length stop.older + scenario.params.silence < k * scenario.params.cycle
          → ((newer : List SlotNote) (n : SlotNote) (older : List SlotNote) → s.trace ≡ newer ++ (n ∷ older) → length stop.older < length older
          → length older < k * scenario.params.cycle → has (full scenario j older).members r ≡ false
          → has (full scenario j (n ∷ older)).members r ≡ false)
          → Says r false (starts_with scenario a (given a note) (map (given a) now))
      start_late late excluded =
          let h = have in
          let n : ℕ = length (map (given a) now) in
          let known = ap length h.is ∙ length-append h.mid base in
          let shown : (full scenario a base).shown r ≤ length stop.older =
          omega (arith, shown_by scenario a r (given a stop.note) (map (given a) stop.older), length-map stop.older (given a)) in
          let out_stays : (newer : List SlotNote) (m : SlotNote) (older : List SlotNote) → h.mid ≡ newer ++ (m ∷ older)
          → has (full scenario a (older ++ base)).members r ≡ false → has (full scenario a (m ∷ (older ++ base))).members r ≡ false =
          λ newer m older is out.
          let ahead : List SlotNote = take unread all ++ newer in
          let place : all ≡ ahead ++ (m ∷ (older ++ base)) =
          h.place ∙ append_assoc (take unread all) h.mid base ∙ ap (λ t. take unread all ++ (t ++ base)) is
          ∙ ap (λ t. take unread all ++ t) (append_assoc newer (m ∷ older) base) ∙ sym (append_assoc (take unread all) newer (m ∷ (older ++ base))) in
          let place_s : s.trace ≡ (newest ++ ahead) ++ (m ∷ (older ++ base)) =
          split ∙ ap (λ t. newest ++ t) place ∙ sym (append_assoc newest ahead (m ∷ (older ++ base))) in
          let long = length-append older base in
          let mids = ap length is ∙ length-append newer (m ∷ older) in
          let short : length (m ∷ (older ++ base)) ≤ k * scenario.params.cycle = omega (arith, long, mids, known, at) in
          let place' : all ≡ (ahead ++ (m ∷ [])) ++ (older ++ base) = place ∙ sym (append_assoc ahead (m ∷ []) (older ++ base)) in
          ap (λ v. has v r) (view ahead (m ∷ (older ++ base)) place short)
          ∙ excluded (newest ++ ahead) m (older ++ base) place_s (omega (arith, long)) (omega (arith, short))
          (ap (λ v. has v r) (sym (view (ahead ++ (m ∷ [])) (older ++ base) place' (omega (arith, short)))) ∙ out) in
          let out_or_silent : IsOutOrSilent scenario r a (length stop.older) now =
          subst (IsOutOrSilent scenario r a (length stop.older)) (sym h.is)
          (stays_out_or_silent scenario r a (length stop.older) few base h.mid (Each-second (NotFrom r) (take unread all) h.mid h.silent)
          (inr (inr shown)) out_stays) in
          lacks_says scenario.params a r n (given a note) (full scenario a now) no_end
          (silent_fails scenario.params a r n (length stop.older) (given a note) (full scenario a now) few below (other h) (nothing h) unknown
          (omega (arith, late, size, at)) out_or_silent) asked

-- ---- every run

module _ (scenario : ScenarioParts) (fits : scenario.params.nodes ≤ (layout scenario.params.format).nodes) (f : MeetsFormulas scenario.params)
    (first : AllBelow scenario.params.nodes scenario.members) (none : scenario.restarts ≡ []) (journal : List Step)
    (one : (front rest : List Step) → journal ≡ front ++ rest → (k : ℕ) → InstallsOneVector scenario (run scenario front) k) (r : ℕ)
    (below : r < scenario.params.nodes) (few : r < most_nodes) (stop : StoppedAsMember scenario (run scenario journal) r) (j : ℕ)
    (rj : runs (node_at (run scenario journal).nodes j) ≡ true)
  where
    abbrev s : RunState
    s = run scenario journal

    -- what a start has to say, by the slots that the node has read
    starts : (k : ℕ) → ((front rest : List Step) (e : journal ≡ front ++ rest) (a : ℕ) → MayTurn (run scenario front) a
        → length (read_by scenario none front a) ≡ k * scenario.params.cycle
        → Says r false (starts_with scenario a (given a (next_note scenario none front a)) (map (given a) (read_by scenario none front a))))
        → 0 < k → Says r false (installed_of scenario j k (history j s))
    starts k says some =
        ((all_vectors_say scenario fits first none k r false (cycle_of_formulas scenario.params f k some) below journal (λ front rest e a may.
        start_at scenario none front a k r false (says front rest e a may))).nodes j rj).installs

    -- a cycle that ends with the stopped node outside does not let it in
    excluded : (newer : List SlotNote) (n : SlotNote) (older : List SlotNote) → s.trace ≡ newer ++ (n ∷ older) → length stop.older < length older
        → length older < reads s j → has (full scenario j older).members r ≡ false → has (full scenario j (n ∷ older)).members r ≡ false
    excluded newer n older place since read out =
        ap (λ m. has m r) (members_next scenario j (given j n) (map (given j) older))
        ∙ by_ended (ended_at scenario j (given j n) (map (given j) older))
        (end_says false scenario r j s.trace (node_at s.nodes j).unread newer n older place read (λ d some at.
        subst (λ past. Says r false (installed_of scenario j d past)) (history_all scenario s (all_original scenario none journal) j)
        (starts d (λ front rest e a may begun.
        let g = front_split scenario journal front rest e in
        let base : List SlotNote = stop.note ∷ stop.older in
        let c = cycle_of_formulas scenario.params f d some in
        let m1 =
        end_of stop.newer base (newer ++ (n ∷ [])) older (sym stop.place ∙ place ∙ sym (append_assoc newer (n ∷ []) older)) (omega (arith, since)) in
        elim (cases_lt (length stop.older) (d * scenario.params.cycle)) [
          | inr straddles ↦
              let same = members_stay scenario j m1.0 base
              (λ q from to. no_end_within scenario.params d q c.long (omega (arith, from, straddles)) (omega (arith, to, at, ap length m1.1))) in
              absurd (both_ways (has (full scenario j older).members r) out
              (subst (λ o. has (full scenario j o).members r ≡ true) (sym m1.1) (ap (λ m. has m r) same ∙ stop.member j rj)))
          | inl later ↦
              let now : List SlotNote = read_by scenario none front a in
              let u : ℕ = (node_at (run scenario front).nodes a).unread in
              let ahead : List SlotNote = g.0 ++ take u (run scenario front).trace in
              let parts : s.trace ≡ ahead ++ now =
              g.1 ∙ ap (λ t. g.0 ++ t) (sym (take-append-drop u (run scenario front).trace)) ∙ sym
              (append_assoc g.0 (take u (run scenario front).trace) now) in
              let m2 =
              end_of ahead now (newer ++ (n ∷ [])) older (sym parts ∙ place ∙ sym (append_assoc newer (n ∷ []) older)) (omega (arith, begun, at)) in
              let same = members_stay scenario j m2.0 now
              (λ q from to. no_end_within scenario.params d q c.long (omega (arith, from, begun)) (omega (arith, to, at, ap length m2.1))) in
              start_outside scenario fits f first none s r below few stop j rj front g.0 g.1
              ((later_state scenario none journal front rest e).ran j rj) (one front rest e) a may d c begun later
              (ap (λ m. has m r) (sym same) ∙ subst (λ t. has (full scenario j t).members r ≡ false) m2.1 out)
        ]) some))) out
      where
        by_ended : (v : Option Nodes) → Says r false v → has (full scenario j older).members r ≡ false
            → has (members_by v (full scenario j older).members) r ≡ false
        by_ended None says o = o
        by_ended (Some v) says o = says v refl

    pub left_out : (k : ℕ) (v : Nodes) → 0 < k → length stop.older + scenario.params.silence < k * scenario.params.cycle
        → installed_of scenario j k (history j s) ≡ Some v → has v r ≡ false
    left_out k v some late is =
        let read = installed_read scenario j k (history j s) v is in
        let c = cycle_of_formulas scenario.params f k some in
        starts k (λ front rest e a may begun.
        let g = front_split scenario journal front rest e in
        start_late scenario fits f first none s r below few stop j rj front g.0 g.1 ((later_state scenario none journal front rest e).ran j rj)
        (one front rest e) a may k c begun (omega (arith, late)) late (λ newer n older place since before out.
        excluded newer n older place since (omega (arith, before, read, history-length j s)) out)) some v is

-- a member that stopped in slot t is in no view of a cycle that starts more than the silence later
pub removed : (scenario : ScenarioParts) → scenario.params.nodes ≤ (layout scenario.params.format).nodes → MeetsFormulas scenario.params
    → AllBelow scenario.params.nodes scenario.members → scenario.restarts ≡ [] → (journal : List Step)
    → ((front rest : List Step) → journal ≡ front ++ rest → (k : ℕ) → InstallsOneVector scenario (run scenario front) k) → (r t : ℕ)
    → r < scenario.params.nodes → (node_at (run scenario journal).nodes r).stopped ≡ Some t → StandsAfter scenario (run scenario journal) r t
    → IsRemoved scenario (run scenario journal) r t
removed scenario fits f first none journal one r t below stopped stood i correct slot number members logged late =
    let s : RunState = run scenario journal in
    let some : 0 < scenario.params.life = omega (arith, f.bound, f.life) in
    let place = stop_of scenario some none journal r t below stopped in
    let now : length (place.note ∷ place.older) ≡ t + 1 = omega (arith, place.slot) in
    let stop : StoppedAsMember scenario s r = record {
      newer = place.newer;
      note = place.note;
      older = place.older;
      place = place.place;
      stops = place.stops;
      member = λ j rj.
          let there : j < scenario.params.nodes = omega (arith, runs_within s.nodes j rj, (orderly scenario journal).count) in
          ap (λ m. has m r) (sym (members_then scenario none journal j (t + 1) place.newer (place.note ∷ place.older) place.place now))
          ∙ stood.member j (record { there = there; running = rj });
    } in
    let in_log = subst (λ (sc : ScenarioParts). Contains (log_from sc i (history i s)) (View slot number members))
    (follows scenario s (all_original scenario none journal) i) logged in
    let view = view_installed scenario i (history i s) slot number members in_log in
    left_out scenario fits f first none journal one r below (few_of scenario fits r below) stop i correct.running number members view.0
    (omega (arith, late, place.slot)) view.1
