-- A node whose JOIN was carried Clean comes into the vector of the cycle that starts next, or stood
-- in that of the cycle before. Of scenarios without restart entries, where the vectors that nodes
-- install are one.
use Rattle.std.proofs.Common.{◌≡◌, ◌≢◌, ℕ, suc, ◌+◌, ◌-◌, ◌*◌, ◌<◌, ◌≤◌, ◌⊎◌, ◌==◌, ◌&&◌, ◌||◌, not, if◌then◌else◌, inl, inr, true, false, List, [], ◌∷◌, ◌++◌, length, map, drop, take, Option, Some, None, refl, ap, sym, ◌∙◌, subst, arith, append_assoc, length-append}
use Rattle.std.specs.List.{AllByRecursion}
use Rattle.std.proofs.Math.Nat.{mul-le-mul_right}
use Rattle.std.proofs.lemmas.Bool.{and_from, both_ways, cases_Bool, cases_eq, cases_lt, cond_both, eq-eqb, not_from_false, or_left, or_right}
use Rattle.std.proofs.lemmas.List.{drop_more, length-map, take-append-drop}
use Rattle.cany_base.specs.Limits.{most_nodes}
use Rattle.cany_base.specs.declared.class.Class.TheVariants as class
use Rattle.cany_base.specs.declared.notice.NoticeKind.{NoticeKind}
use Rattle.cany_base.specs.declared.notice.NoticeKind.TheVariants.{Idle, Got, Sent, Bad}
use Rattle.cany_base.specs.declared.rule.Verdict.TheVariants.{Clean}
use Rattle.cany_base.specs.declared.slot_note.SlotNote.{SlotNote}
use Rattle.cany_base.specs.declared.step.Step.{Step}
use Rattle.cany_base.specs.Frame.{FrameParts}
use Rattle.cany_base.specs.Layout.{layout}
use Rattle.cany_base.specs.Nodes.{AllBelow, Nodes, has, minus, with_node}
use Rattle.cany_base.specs.Params.{MeetsFormulas, Parameters}
use Rattle.cany_base.specs.Scenario.{ScenarioParts}
use Rattle.cany_model.specs.Bus.Frames.{same_class}
use Rattle.cany_model.specs.Bus.History.{given, history}
use Rattle.cany_model.specs.Runs.Run.{run}
use Rattle.cany_model.specs.Bus.State.{RunState, node_at, reads, runs}
use Rattle.cany_model.specs.Promises.Detector.{IsAdmitted, JoinWasCarried}
use Rattle.cany_model.specs.Promises.OneView.{InstallsOneVector, installed, installed_of}
use Rattle.cany_model.specs.Rules.KnowledgeOf.{after_asking, start_in, knowledge_of}
use Rattle.cany_model.specs.Rules.Knowledge.{FailureSign, Knowledge, fda_of, after_finding}
use Rattle.cany_model.specs.Rules.Turn.{scenario_for}
use Rattle.cany_base.specs.Cycles.{is_end}
use Rattle.cany_model.specs.Rules.Views.{after_ask, with_joiner, with_leaver}
use Rattle.cany_model.proofs.Among.{Among, Among-from_Contains, Each-second}
use Rattle.cany_model.proofs.Bus.Identities.{same_class_self}
use Rattle.cany_model.proofs.Bus.Notes.{given-Sent, placed_where}
use Rattle.cany_model.proofs.Runs.Runs.{history-length, orderly}
use Rattle.cany_model.proofs.Bus.Seen.{Numbered}
use Rattle.cany_model.proofs.Bus.States.{no_note, note_at, runs_within}
use Rattle.cany_model.proofs.Runs.Steps.{MayTurn}
use Rattle.cany_model.proofs.Promises.Diffusion.{Heard}
use Rattle.cany_model.proofs.Promises.DiffusionRun.{run_diffuses}
use Rattle.cany_model.proofs.Promises.OwnSlotsAlone.{run_numbered}
use Rattle.cany_model.proofs.Promises.SignAgrees.{sign_duty, sign_is_diffused}
use Rattle.cany_model.proofs.Rules.Site.KnowledgeSteps.{joiners_after, joiners_by, members_by}
use Rattle.cany_model.proofs.Timed.Detector.VectorsAgreeOn.{Says, all_vectors_say, few_of, most}
use Rattle.cany_model.proofs.Timed.Detector.SilentNode.{found_joiners, found_members, start_says}
use Rattle.cany_model.proofs.Timed.Detector.HeardWithin.{later_state}
use Rattle.cany_model.proofs.Timed.Views.LoggedViews.{installed_read}
use Rattle.cany_model.proofs.Timed.Detector.NoRestarts.{all_original, follows, history_all, sees_all}
use Rattle.cany_model.proofs.Timed.Views.SameView.{end_of}
use Rattle.cany_model.proofs.Timed.Views.StartViews.{end_says, front_split, members_then, next_note, read_by, start_at, start_no_end, view_at}
use Rattle.cany_model.proofs.Timed.Common.KnowledgeAges.{ended_at, full, members_next}
use Rattle.cany_model.proofs.Timed.Detector.Stopped.{SentItself, sent_itself}
use Rattle.cany_model.proofs.Timed.Views.VectorSlots.{cycle_of_formulas}
use Rattle.cany_model.proofs.Timed.Views.VectorTurns.{starts_with}
use Rattle.cany_model.proofs.Timed.Views.VectorLastEffect.{IsCycle}

-- ---- who asks to join

-- a joiner stays one
pub asks_keep_joiner : (r : ℕ) (e : NoticeKind) (st : Knowledge) → r < most_nodes → has st.joiners r ≡ true → has (after_ask e st).joiners r ≡ true
unfolding after_ask
asks_keep_joiner r Idle st few h = h
asks_keep_joiner r Bad st few h = h
asks_keep_joiner r (Sent f) st few h =
    cond_both (same_class f.class class.Leave) (with_leaver f.node st) st (λ s. has s.joiners r ≡ true)
    (λ _. cond_both (has st.members f.node) (record st { leavers = with_node f.node st.leavers }) st (λ s. has s.joiners r ≡ true) (λ _. h) (λ _. h))
    (λ _. h)
asks_keep_joiner r (Got f) st few h =
    cond_both (same_class f.class class.Join) (with_joiner f.node st) (if same_class f.class class.Leave then with_leaver f.node st else st)
    (λ s. has s.joiners r ≡ true)
    (λ _. cond_both (has st.members f.node) st (record st { joiners = with_node f.node st.joiners }) (λ s. has s.joiners r ≡ true) (λ _. h)
    (λ _. placed_where (λ q. has st.joiners q || q == f.node) r few ∙ or_left (has st.joiners r) (r == f.node) h))
    (λ _. cond_both (same_class f.class class.Leave) (with_leaver f.node st) st (λ s. has s.joiners r ≡ true)
    (λ _. cond_both (has st.members f.node) (record st { leavers = with_node f.node st.leavers }) st (λ s. has s.joiners r ≡ true) (λ _. h) (λ _. h))
    (λ _. h))

-- and one that is outside becomes one by its JOIN
pub joins : (r : ℕ) (f : FrameParts) (st : Knowledge) → r < most_nodes → f.class ≡ class.Join → f.node ≡ r → has st.members r ≡ false
    → has (after_ask (Got f) st).joiners r ≡ true
unfolding after_ask
joins r f st few c n out =
    let join : same_class f.class class.Join ≡ true = ap (λ x. same_class x class.Join) c ∙ same_class_self class.Join in
    let outside : has st.members f.node ≡ false = ap (has st.members) n ∙ out in
    rw (join, outside)
    (placed_where (λ q. has st.joiners q || q == f.node) r few ∙ or_right (has st.joiners r) (r == f.node) (eq-eqb r f.node (sym n)))

module _ (p : Parameters) (i r slot : ℕ) (e : NoticeKind) (st : Knowledge) (few : r < most_nodes) where
  pub asked_joiner : has st.joiners r ≡ true → has (after_asking p i slot e st).joiners r ≡ true
  asked_joiner h = asks_keep_joiner r e (after_finding p i slot e st) few (ap (λ m. has m r) (found_joiners p i slot e st) ∙ h)

  pub asked_joins : (f : FrameParts) → e ≡ Got f → f.class ≡ class.Join → f.node ≡ r → has st.members r ≡ false
      → has (after_asking p i slot e st).joiners r ≡ true
  asked_joins f got c n out =
      subst (λ x. has (after_ask x (after_finding p i slot e st)).joiners r ≡ true) (sym got)
      (joins r f (after_finding p i slot e st) few c n (ap (λ m. has m r) (found_members p i slot e st) ∙ out))

  -- a cycle starts with each joiner
  pub joiner_says : is_end p slot ≡ false → (has st.members i ≡ true → has (after_asking p i slot e st).joiners r ≡ true)
      → Says r true (start_in p i slot e st)
  joiner_says no_end h = start_says p i slot e st r true no_end (λ member.
      let now : Knowledge = after_asking p i slot e st in
      let stays : Nodes = minus (minus now.members now.failed) now.leavers in
      placed_where (λ q. has stays q || has now.joiners q) r few ∙ or_right (has stays r) (has now.joiners r) (h member))

pub joiners_left : (v : Option Nodes) (joiners : Nodes) (r : ℕ) → r < most_nodes → Says r false v → has joiners r ≡ true
    → has (joiners_by v joiners) r ≡ true
joiners_left None joiners r few says h = h
joiners_left (Some v) joiners r few says h =
    placed_where (λ q. has joiners q && not (has v q)) r few ∙ and_from (has joiners r) (not (has v r)) h (not_from_false (has v r) (says v refl))

-- a joiner that does not come into the view is one after the turn
pub joiner_next : (scenario : ScenarioParts) (i r : ℕ) (e : NoticeKind) (past : List NoticeKind) → r < most_nodes
    → Says r false (ended_at scenario i e past)
    → has (after_asking scenario.params i (length past) e (knowledge_of scenario i past)).joiners r ≡ true
    → has (knowledge_of scenario i (e ∷ past)).joiners r ≡ true
unfolding knowledge_of
joiner_next scenario i r e past few says h =
    let st : Knowledge = knowledge_of scenario i past in
    ap (λ m. has m r) (joiners_after scenario.params i (length past) e st)
    ∙ joiners_left (ended_at scenario i e past) (after_asking scenario.params i (length past) e st).joiners r few says h

-- ---- the slot of the JOIN

pub record JoinPlace (scenario : ScenarioParts) (s : RunState) (r k : ℕ) : Type 0 where
  pub newer : List SlotNote
  pub note : SlotNote
  pub older : List SlotNote
  pub place : s.trace ≡ newer ++ (note ∷ older)
  pub what : FrameParts
  pub frame : note.frame ≡ Some what
  pub join : what.class ≡ class.Join
  pub asker : what.node ≡ r
  pub clean : note.verdict ≡ Clean
  pub after : (k - 1) * scenario.params.cycle < length older
  pub by_start : length older ≤ k * scenario.params.cycle
  pub outside : (i : ℕ) → runs (node_at s.nodes i) ≡ true → has (full scenario i older).members r ≡ false

pub record Stands (trace : List SlotNote) (note : SlotNote) : Type 0 where
  pub newer : List SlotNote
  pub older : List SlotNote
  pub place : trace ≡ newer ++ (note ∷ older)
  pub slot : note.slot ≡ length older

pub stands : (trace : List SlotNote) (note : SlotNote) → Numbered trace → Among (λ n. n ≡ note) trace → Stands trace note
stands [] note numbered h = absurd h
stands (n ∷ trace) note numbered (inl same) = record {
  newer = [];
  older = trace;
  place = ap (λ m. m ∷ trace) same;
  slot = ap (λ (m : SlotNote). m.slot) (sym same) ∙ numbered.0;
}
stands (n ∷ trace) note numbered (inr later) =
    let w = stands trace note numbered.1 later in
    record { newer = n ∷ w.newer; older = w.older; place = ap (λ l. n ∷ l) w.place; slot = w.slot }

join_place : (scenario : ScenarioParts) → scenario.restarts ≡ [] → (journal : List Step) (r k : ℕ)
    → JoinWasCarried scenario (run scenario journal) r k
    → JoinPlace scenario (run scenario journal) r k
join_place scenario none journal r k h =
    let s : RunState = run scenario journal in
    let o = orderly scenario journal in
    let w = stands s.trace h.note (run_numbered scenario.params.nodes s o) (Among-from_Contains s.trace h.note h.stands) in
    let split : s.trace ≡ (w.newer ++ (h.note ∷ [])) ++ w.older = w.place ∙ sym (append_assoc w.newer (h.note ∷ []) w.older) in
    record {
      newer = w.newer;
      note = h.note;
      older = w.older;
      place = w.place;
      what = h.what;
      frame = h.frame;
      join = h.join;
      asker = h.asker;
      clean = h.clean;
      after = omega (arith, h.after, w.slot);
      by_start = omega (arith, h.by_start, w.slot);
      outside = λ i running.
          ap (λ m. has m r) (sym (members_then scenario none journal i h.note.slot (w.newer ++ (h.note ∷ [])) w.older split (sym w.slot)))
          ∙ h.outside i (record { there = omega (arith, runs_within s.nodes i running, o.count); running = running });
    }

-- a running node that is not the sender got it
join_got : (i r : ℕ) (note : SlotNote) (f : FrameParts) → note.frame ≡ Some f → f.class ≡ class.Join → f.node ≡ r → note.verdict ≡ Clean → r ≢ i
    → i < most_nodes → Heard i note → SentItself note → given i note ≡ Got f
join_got i r note f frame c n clean other few heard own = elim (heard.clean few f frame clean) [
  | inl got ↦ got
  | inr sent ↦ absurd (other (sym n ∙ own i f frame (given-Sent i note f sent).1 (inr c)))
]

-- ---- at a turn at the start of the cycle

module _ (scenario : ScenarioParts) (f : MeetsFormulas scenario.params) (none : scenario.restarts ≡ []) (small : scenario.params.nodes ≤ most_nodes)
    (s : RunState) (r : ℕ) (few : r < most_nodes) (k : ℕ) (c : IsCycle scenario.params k) (join : JoinPlace scenario s r k) (j : ℕ)
    (rj : runs (node_at s.nodes j) ≡ true)
    (stays : (newer : List SlotNote) (n : SlotNote) (old : List SlotNote) → s.trace ≡ newer ++ (n ∷ old) → length join.older ≤ length old
    → length old < k * scenario.params.cycle → has (full scenario j old).members r ≡ false → has (full scenario j (n ∷ old)).members r ≡ false)
    (front : List Step) (newest : List SlotNote) (split : s.trace ≡ newest ++ (run scenario front).trace)
    (ran : runs (node_at (run scenario front).nodes j) ≡ true) (one : (d : ℕ) → InstallsOneVector scenario (run scenario front) d)
    (a : ℕ) (may : MayTurn (run scenario front) a) (at : length (read_by scenario none front a) ≡ k * scenario.params.cycle)
  where
    abbrev all : List SlotNote
    all = (run scenario front).trace

    abbrev unread : ℕ
    unread = (node_at (run scenario front).nodes a).unread

    abbrev now : List SlotNote
    now = read_by scenario none front a

    abbrev note : SlotNote
    note = next_note scenario none front a

    out_j : (newer mid : List SlotNote) → s.trace ≡ newer ++ (mid ++ join.older) → length (mid ++ join.older) ≤ k * scenario.params.cycle
        → has (full scenario j (mid ++ join.older)).members r ≡ false
    out_j newer [] place short = join.outside j rj
    out_j newer (n ∷ mid) place short =
        stays newer n (mid ++ join.older) place (omega (arith, length-append mid join.older)) (omega (arith, short))
        (out_j (newer ++ (n ∷ [])) mid (place ∙ sym (append_assoc newer (n ∷ []) (mid ++ join.older))) (omega (arith, short)))

    -- the slots since the one before the JOIN
    out_a : (newer old mid : List SlotNote) → old ≡ mid ++ join.older → all ≡ newer ++ old → length old ≤ k * scenario.params.cycle
        → has (full scenario a old).members r ≡ false
    out_a newer old mid is place short =
        let place_s : s.trace ≡ (newest ++ newer) ++ (mid ++ join.older) =
        split ∙ ap (λ t. newest ++ t) place ∙ sym (append_assoc newest newer old) ∙ ap (λ t. (newest ++ newer) ++ t) is in
        ap (λ m. has m r) (view_at scenario none front a f one may k at j ran newer old place short)
        ∙ ap (λ t. has (full scenario j t).members r) is
        ∙ out_j (newest ++ newer) mid place_s (omega (arith, short, ap length is))

    ended_out : (newer : List SlotNote) (n : SlotNote) (old mid : List SlotNote) → old ≡ mid ++ join.older → all ≡ newer ++ (n ∷ old)
        → length (n ∷ old) ≤ k * scenario.params.cycle → Says r false (ended_at scenario a (given a n) (map (given a) old))
    ended_out newer n old mid is place short v ends =
        ap (λ m. has m r) (sym (members_next scenario a (given a n) (map (given a) old) ∙ ap (λ w. members_by w (full scenario a old).members) ends))
        ∙ out_a newer (n ∷ old) (n ∷ mid) (ap (λ t. n ∷ t) is) place short

    few_a : a < most_nodes
    few_a = omega (arith, may.there, (orderly scenario front).count, small)

    sign : FailureSign
    sign = record { node = 0; cycle = 0 }

    got : (newer : List SlotNote) → all ≡ newer ++ (join.note ∷ join.older) → r ≢ a → given a join.note ≡ Got join.what
    got newer place other =
        let diffuses =
        run_diffuses scenario scenario.params.omit (fda_of sign) (sign_duty sign) (λ inc. sign_is_diffused (scenario_for scenario inc) sign)
        (λ inc past begun. begun) front a may.running in
        let heard : AllByRecursion (Heard a) all =
        subst (AllByRecursion (Heard a)) (sees_all scenario (run scenario front) (all_original scenario none front) a all) diffuses.heard in
        join_got a r join.note join.what join.frame join.join join.asker join.clean other few_a
        (Each-second (Heard a) newer (join.note ∷ join.older) (subst (AllByRecursion (Heard a)) place heard)).0
        (Each-second SentItself newer (join.note ∷ join.older)
        (subst (AllByRecursion SentItself) place (sent_itself scenario (omega (arith, f.bound, f.life)) none front))).0

    -- it stays a joiner until the cycle starts
    joined : r ≢ a → (newer mid : List SlotNote) → all ≡ newer ++ (mid ++ (join.note ∷ join.older))
        → length (mid ++ (join.note ∷ join.older)) ≤ k * scenario.params.cycle
        → has (full scenario a (mid ++ (join.note ∷ join.older))).joiners r ≡ true
    joined other newer [] place short =
        let past : List NoticeKind = map (given a) join.older in
        let before =
        out_a (newer ++ (join.note ∷ [])) join.older [] refl (place ∙ sym (append_assoc newer (join.note ∷ []) join.older)) (omega (arith, short)) in
        joiner_next scenario a r (given a join.note) past few (ended_out newer join.note join.older [] refl place short)
        (asked_joins scenario.params a r (length past) (given a join.note) (full scenario a join.older) few join.what
        (got newer place other) join.join
        join.asker before)
    joined other newer (n ∷ mid) place short =
        let old : List SlotNote = mid ++ (join.note ∷ join.older) in
        let past : List NoticeKind = map (given a) old in
        joiner_next scenario a r (given a n) past few
        (ended_out newer n old (mid ++ (join.note ∷ [])) (sym (append_assoc mid (join.note ∷ []) join.older)) place short)
        (asked_joiner scenario.params a r (length past) (given a n) (full scenario a old) few
        (joined other (newer ++ (n ∷ [])) mid (place ∙ sym (append_assoc newer (n ∷ []) old)) (omega (arith, short))))

    -- the cycle starts with the node
    start_joins : Says r true (starts_with scenario a (given a note) (map (given a) now))
    start_joins =
        let size : length (map (given a) now) ≡ length now = length-map now (given a) in
        let no_end : is_end scenario.params (length (map (given a) now)) ≡ false =
        start_no_end scenario.params k (length (map (given a) now)) c (size ∙ at) in
        let parts : all ≡ take unread all ++ now = sym (take-append-drop unread all) in
        let whole : (newest ++ take unread all) ++ now ≡ s.trace =
        append_assoc newest (take unread all) now ∙ ap (λ t. newest ++ t) (sym parts) ∙ sym split in
        let m = end_of (join.newer ++ (join.note ∷ [])) join.older (newest ++ take unread all) now
        (append_assoc join.newer (join.note ∷ []) join.older ∙ sym join.place ∙ sym whole) (omega (arith, join.by_start, at)) in
        let out : has (full scenario a now).members r ≡ false = out_a (take unread all) now m.0 m.1 parts (omega (arith, at)) in
        joiner_says scenario.params a r (length (map (given a) now)) (given a note) (full scenario a now) few no_end (λ member.
        elim (cases_eq r a) [
          | inl same ↦ absurd (both_ways (has (full scenario a now).members r) out (ap (has (full scenario a now).members) same ∙ member))
          | inr other ↦ elim (cases_lt (length join.older) (k * scenario.params.cycle)) [
            | inl before ↦
                let q =
                end_of join.newer (join.note ∷ join.older) (newest ++ take unread all) now (sym join.place ∙ sym whole) (omega (arith, before, at)) in
                let place : all ≡ take unread all ++ (q.0 ++ (join.note ∷ join.older)) = parts ∙ ap (λ t. take unread all ++ t) q.1 in
                asked_joiner scenario.params a r (length (map (given a) now)) (given a note) (full scenario a now) few
                (subst (λ t. has (full scenario a t).joiners r ≡ true) (sym q.1)
                (joined other (take unread all) q.0 place (omega (arith, ap length q.1, at))))
            | inr not_before ↦
                let left : ℕ = unread - 1 in
                let short = (orderly scenario front).unread a in
                let inside : left < length all = omega (arith, short, may.unread) in
                let next : left + 1 ≡ unread = omega (arith, may.unread) in
                let more : drop left all ≡ note ∷ now = drop_more all left no_note inside ∙ ap (λ n. note_at all left ∷ drop n all) next in
                let place : all ≡ take left all ++ (note ∷ now) = sym (take-append-drop left all) ∙ ap (λ t. take left all ++ t) more in
                let whole' : (newest ++ take left all) ++ (note ∷ now) ≡ s.trace =
                append_assoc newest (take left all) (note ∷ now) ∙ ap (λ t. newest ++ t) (sym place) ∙ sym split in
                let q = end_of join.newer (join.note ∷ join.older) (newest ++ take left all) (note ∷ now) (sym join.place ∙ sym whole')
                (omega (arith, join.by_start, at)) in
                let heads = same_heads q.0 note join.note now join.older q.1 (omega (arith, not_before, at)) in
                let there : all ≡ take left all ++ (join.note ∷ join.older) =
                place ∙ ap (λ t. take left all ++ t) (ap (λ n. n ∷ now) heads.0 ∙ ap (λ t. join.note ∷ t) heads.1) in
                asked_joins scenario.params a r (length (map (given a) now)) (given a note) (full scenario a now) few join.what
                (ap (given a) heads.0 ∙ got (take left all) there other) join.join join.asker out
          ]
        ])
      where
        same_heads : (mid : List SlotNote) (m n : SlotNote) (xs ys : List SlotNote) → m ∷ xs ≡ mid ++ (n ∷ ys) → length xs ≤ length ys
            → (m ≡ n) × (xs ≡ ys)
        same_heads [] m n xs ys e short = (cc, cc)
        same_heads (x ∷ mid) m n xs ys e short = absurd (omega (arith, ap length e, length-append mid (n ∷ ys), short))

-- ---- every run

module _ (scenario : ScenarioParts) (fits : scenario.params.nodes ≤ (layout scenario.params.format).nodes) (f : MeetsFormulas scenario.params)
    (first : AllBelow scenario.params.nodes scenario.members) (none : scenario.restarts ≡ []) (journal : List Step)
    (one : (front rest : List Step) → journal ≡ front ++ rest → (d : ℕ) → InstallsOneVector scenario (run scenario front) d) (r k : ℕ)
    (below : r < scenario.params.nodes) (some : 0 < k) (join : JoinPlace scenario (run scenario journal) r k) (j : ℕ)
    (rj : runs (node_at (run scenario journal).nodes j) ≡ true)
    (read : k * scenario.params.cycle + scenario.params.bound < reads (run scenario journal) j)
    (former : 1 < k → Says r false (installed_of scenario j (k - 1) (history j (run scenario journal))))
  where
    abbrev s : RunState
    s = run scenario journal

    -- the one end of a cycle after the JOIN is that of the cycle before
    one_end : (d n : ℕ) → (k - 1) * scenario.params.cycle < n → n < k * scenario.params.cycle → n ≡ d * scenario.params.cycle + scenario.params.bound
        → d ≡ k - 1
    one_end d n from to at = elim (cases_lt d (k - 1)) [
      | inl less ↦
          let next : suc d * scenario.params.cycle ≤ (k - 1) * scenario.params.cycle = mul-le-mul_right scenario.params.cycle (omega (arith, less)) in
          let more : suc d * scenario.params.cycle ≡ d * scenario.params.cycle + scenario.params.cycle = grind arith in
          absurd (omega (arith, next, more, from, at, f.cycle, f.bound))
      | inr not_less ↦ elim (cases_lt d k) [
        | inl before ↦ omega (arith, not_less, before)
        | inr after ↦
            let step : k * scenario.params.cycle ≤ d * scenario.params.cycle = mul-le-mul_right scenario.params.cycle after in
            absurd (omega (arith, step, to, at))
      ]
    ]

    stays : (newer : List SlotNote) (n : SlotNote) (old : List SlotNote) → s.trace ≡ newer ++ (n ∷ old) → length join.older ≤ length old
        → length old < k * scenario.params.cycle → has (full scenario j old).members r ≡ false → has (full scenario j (n ∷ old)).members r ≡ false
    stays newer n old place from to out =
        ap (λ m. has m r) (members_next scenario j (given j n) (map (given j) old))
        ∙ by_ended (ended_at scenario j (given j n) (map (given j) old))
        (end_says false scenario r j s.trace (node_at s.nodes j).unread newer n old place (omega (arith, to, read)) (λ d begun at.
        let same : d ≡ k - 1 = one_end d (length old) (omega (arith, join.after, from)) to at in
        subst (λ past. Says r false (installed_of scenario j d past)) (history_all scenario s (all_original scenario none journal) j)
        (subst (λ e. Says r false (installed_of scenario j e (history j s))) (sym same) (former (omega (arith, begun, same)))))) out
      where
        by_ended : (v : Option Nodes) → Says r false v → has (full scenario j old).members r ≡ false
            → has (members_by v (full scenario j old).members) r ≡ false
        by_ended None says o = o
        by_ended (Some v) says o = says v refl

    comes_in : Says r true (installed_of scenario j k (history j s))
    comes_in =
        let c = cycle_of_formulas scenario.params f k some in
        let few : r < most_nodes = few_of scenario fits r below in
        ((all_vectors_say scenario fits first none k r true c below journal (λ front rest e a may.
        let g = front_split scenario journal front rest e in
        start_at scenario none front a k r true (λ at.
        start_joins scenario f none (most scenario.params.format scenario.params.nodes fits) s r few k c join j rj stays front g.0 g.1
        ((later_state scenario none journal front rest e).ran j rj) (one front rest e) a may at))).nodes j rj).installs

-- a node whose JOIN was carried is admitted
pub admitted : (scenario : ScenarioParts) → scenario.params.nodes ≤ (layout scenario.params.format).nodes → MeetsFormulas scenario.params
    → AllBelow scenario.params.nodes scenario.members → scenario.restarts ≡ [] → (journal : List Step)
    → ((front rest : List Step) → journal ≡ front ++ rest → (k : ℕ) → InstallsOneVector scenario (run scenario front) k) → (r k : ℕ)
    → r < scenario.params.nodes → JoinWasCarried scenario (run scenario journal) r k → IsAdmitted scenario (run scenario journal) r k
admitted scenario fits f first none journal one r k below carried i correct v is = by_former (installed_of scenario i (k - 1) (history i s)) refl
  where
    s : RunState
    s = run scenario journal

    same : (d : ℕ) → installed scenario (run scenario journal) i d ≡ installed_of scenario i d (history i (run scenario journal))
    same d = ap (λ (sc : ScenarioParts). installed_of sc i d (history i s)) (follows scenario s (all_original scenario none journal) i)

    join : JoinPlace scenario (run scenario journal) r k
    join = join_place scenario none journal r k carried

    some : 0 < k
    some = elim (cases_lt 0 k) [
      | inl more ↦ more
      | inr zero_k ↦ let none_k : k * scenario.params.cycle ≡ 0 * scenario.params.cycle = ap (λ n. n * scenario.params.cycle)
          (omega (arith, zero_k)) in
          absurd (omega (arith, join.after, join.by_start, none_k))
    ]

    main : (1 < k → Says r false (installed_of scenario i (k - 1) (history i (run scenario journal)))) → has v r ≡ true
    main former =
        let here : installed_of scenario i k (history i s) ≡ Some v = sym (same k) ∙ is in
        let read = installed_read scenario i k (history i s) v here in
        comes_in scenario fits f first none journal one r k below some join i correct.running (omega (arith, read, history-length i s)) former v here

    by_former : (o : Option Nodes) → installed_of scenario i (k - 1) (history i (run scenario journal)) ≡ o
        → (has v r ≡ true) ⊎ ((1 < k) × ((w : Nodes) × (installed scenario (run scenario journal) i (k - 1) ≡ Some w) × (has w r ≡ true)))
    by_former None e = inl (main (λ _ w q. absurd (let never : None ≡ Some w = sym e ∙ q in cc)))
    by_former (Some w) e = elim (cases_Bool (has w r)) [
      | inr out ↦ inl (main (λ _ x q. let one_w : Some w ≡ Some x = sym e ∙ q in let same_w : w ≡ x = cc in ap (λ y. has y r) (sym same_w) ∙ out))
      | inl there ↦ elim (cases_lt 1 k) [
        | inl later ↦ inr (later, (w, same (k - 1) ∙ e, there))
        | inr first_cycle ↦ inl (main (λ later. absurd (omega (arith, later, first_cycle))))
      ]
    ]
