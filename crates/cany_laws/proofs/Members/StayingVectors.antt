-- A node that has not stopped, of which no LEAVE was carried, and that one incarnation had in its
-- view, is in each vector that any incarnation installs later: each starts a cycle with it, so each
-- frame of the cycle has it, and so has what is installed at the end.
use Rattle.std.proofs.Common.{◌≡◌, ℕ, zero, suc, ◌+◌, ◌-◌, ◌*◌, ◌<◌, ◌≤◌, ◌&&◌, ◌==◌, inl, inr, Bool, true, false, List, [], ◌∷◌, length, drop, Option, Some, None, refl, ap, sym, ◌∙◌, subst, arith}
use Rattle.std.specs.List.{AllByRecursion}
use Rattle.std.proofs.Math.Nat.{mul-le-mul_right}
use Rattle.std.proofs.lemmas.Bool.{and_from, cases_Bool, cases_lt, cond-false, cond-true, cond_both, eq-eqb}
use Rattle.cany_base.proofs.ParamsFacts.{few_nodes}
use Rattle.cany_base.specs.Cycles.{cycle_of, is_end, is_start}
use Rattle.cany_base.specs.declared.class.Class.TheVariants as class
use Rattle.cany_base.specs.declared.notice.NoticeKind.{NoticeKind}
use Rattle.cany_base.specs.declared.notice.NoticeKind.TheVariants.{Idle, Got, Sent, Bad}
use Rattle.cany_base.specs.declared.slot_note.SlotNote.{SlotNote}
use Rattle.cany_base.specs.declared.step.Step.{Step}
use Rattle.cany_base.specs.Frame.{FrameParts}
use Rattle.cany_base.specs.Layout.{layout}
use Rattle.cany_base.specs.Limits.{most_nodes}
use Rattle.cany_base.specs.Nodes.{AllBelow, Nodes, has}
use Rattle.cany_base.specs.Params.{Parameters}
use Rattle.cany_base.specs.Payload.{vector_of}
use Rattle.cany_base.specs.Scenario.{IsLegalScenario, ScenarioParts}
use Rattle.cany_model.specs.Bus.Frames.{same_class}
use Rattle.cany_model.specs.Bus.History.{as_seen, seen}
use Rattle.cany_model.specs.Bus.State.{EndedIncarnation, Incarnation, NodeState, RunState, node_at, reads}
use Rattle.cany_model.specs.Promises.Hypothesis.{IsWithin}
use Rattle.cany_model.specs.Rules.Knowledge.{Knowledge, after_finding}
use Rattle.cany_model.specs.Rules.KnowledgeOf.{after_installing, knowledge_of, start_in}
use Rattle.cany_model.specs.Rules.Notices.{IsReadAfterStart, IsReadable}
use Rattle.cany_model.specs.Rules.Turn.{scenario_for}
use Rattle.cany_model.specs.Rules.Vectors.{met, vector_in}
use Rattle.cany_model.specs.Rules.Views.{start_of, start_vector}
use Rattle.cany_model.specs.Runs.Run.{run}
use Rattle.cany_model.proofs.Among.{Among-from_Contains, Each-drop, Each-of}
use Rattle.cany_model.proofs.Bus.EachRead.{EachRead, each_dropped}
use Rattle.cany_model.proofs.Bus.Identities.{same_class_self}
use Rattle.cany_model.proofs.Bus.Notes.{given-Got}
use Rattle.cany_model.proofs.Bus.Seen.{history-is, seen_frame}
use Rattle.cany_model.proofs.Bus.States.{runs_within}
use Rattle.cany_model.proofs.Promises.Diffusion.{past_of}
use Rattle.cany_model.proofs.Promises.KeptVectors.{CarriesVector, CoversVector, IsKeptVector, kept_vectors, vector_at}
use Rattle.cany_model.proofs.Rules.Site.CycleFacts.{IsExchangeOf}
use Rattle.cany_model.proofs.Rules.Site.KnowledgeNodes.{IsVectorOfBus, first_members, knowledge_of_bus}
use Rattle.cany_model.proofs.Rules.Site.VectorFacts.{carries_vector}
use Rattle.cany_model.proofs.Runs.Runs.{history-length, orderly}
use Rattle.cany_model.proofs.Timed.Detector.Leaving.{HeedsNone, NoLeaveIn, asked_leavers, heeds_none, no_leaver, start_stays}
use Rattle.cany_model.proofs.Timed.Detector.SilentNode.{asked_members, no_installed}
use Rattle.cany_model.proofs.Timed.Detector.VectorsAgreeOn.{Says, met_says, none_says}
use Rattle.cany_model.proofs.Timed.Views.ReadableNodes.{run_readable}
use Rattle.cany_model.proofs.Timed.Views.StartViews.{no_end_within, start_no_end}
use Rattle.cany_model.proofs.Timed.Views.SameView.{end_place}
use Rattle.cany_model.proofs.Timed.Views.VectorLastEffect.{IsCycle, brings}
use Rattle.cany_model.proofs.Timed.Views.VectorSets.{vector_again}
use Rattle.cany_model.proofs.Timed.Views.VectorSlots.{cycle_of_formulas}
use Rattle.cany_model.proofs.Timed.Views.VectorTurns.{starts_with, turn_ends, turn_exchanges, turn_starts}
use Rattle.cany_laws.specs.Logs.{IsIncarnation, followed_by}
use Rattle.cany_laws.specs.Views.{installed_as}
use Rattle.cany_laws.proofs.Silences.LongestUnheard.{goes_on, went}
use Rattle.cany_laws.proofs.FalseAlarms.AlarmLife.{first_read-is, known_at, known_more}
use Rattle.cany_laws.proofs.FalseAlarms.AlarmNotices.{next_is, note_in}
use Rattle.cany_laws.proofs.FalseAlarms.AlarmSigns.{StoppedFor, carried_from, found_lives}
use Rattle.cany_laws.proofs.Members.EachView.{view_read}
use Rattle.cany_laws.proofs.Members.EqualMembers.{ended_as, ended_installs, ended_none, first_read, first_read-length, first_read-more, next_read}
use Rattle.cany_laws.proofs.Silences.Lives.{Lived, lived}
use Rattle.cany_laws.proofs.Members.StayingViews.{keeps_member, view_stays}

-- ---- what no slot carried, none that an incarnation sees has carried

seen_no_leave : (r : ℕ) (inc : Incarnation) (trace : List SlotNote) → AllByRecursion (NoLeaveIn r) trace → AllByRecursion (NoLeaveIn r) (seen inc trace)
seen_no_leave r inc [] h = tt
seen_no_leave r inc (note ∷ trace) h = (λ f frame. h.0 f (seen_frame inc note f frame), seen_no_leave r inc trace h.1)

-- ---- a node that is no member starts a cycle with nothing

outsider_says : (p : Parameters) (i r slot : ℕ) (b : Bool) (e : NoticeKind) (st : Knowledge) → is_end p slot ≡ false → has st.members i ≡ false
    → Says r b (start_in p i slot e st)
outsider_says p i r slot b e st no_end out =
    let now : Knowledge = after_installing p i slot e st in
    let none : has now.members i ≡ false =
    ap (λ m. has m i) (ap (λ (k : Knowledge). k.members) (no_installed p i slot e st no_end) ∙ asked_members p i slot e st) ∙ out in
    cond_both (is_start p slot) (start_of i now) None (Says r b)
    (λ _. subst (Says r b) (sym (cond-false (has now.members i) (Some (start_vector now)) None none)) (none_says r b)) (λ _. none_says r b)

-- ---- what a notice brings, its slot carried

brings_says : (p : Parameters) (k r i : ℕ) (b : Bool) (e : NoticeKind) → ((f : FrameParts) → e ≡ Got f → Says r b (vector_in p.format k f))
    → Says r b (brings p.format k e)
brings_says p k r i b Idle h = none_says r b
brings_says p k r i b Bad h = none_says r b
brings_says p k r i b (Sent f) h = none_says r b
brings_says p k r i b (Got f) h = h f refl

module _ (scenario : ScenarioParts) (legal : IsLegalScenario scenario) (journal : List Step) (within : IsWithin scenario.params (run scenario journal).trace)
    (r : ℕ) (there : r < scenario.params.nodes) (never : (n : ℕ) → StoppedFor scenario legal journal within r there n → ⊥)
    (quiet : AllByRecursion (NoLeaveIn r) (run scenario journal).trace) where
  abbrev s : RunState
  s = run scenario journal

  abbrev p : Parameters
  p = scenario.params

  few : r < most_nodes
  few = omega (arith, there, few_nodes scenario.params legal.in_range)

  abbrev K : (i : ℕ) (e : EndedIncarnation) → IsIncarnation scenario (run scenario journal) i e → ℕ → Knowledge
  K i e is n = known_at scenario journal i e (lived scenario journal i e is) n

  heeds : (i n : ℕ) (e : EndedIncarnation) → IsIncarnation scenario (run scenario journal) i e → n ≤ e.next
      → AllByRecursion (HeedsNone r) (first_read n (run scenario journal) i e)
  heeds i n e is read =
      let k : ℕ = length s.trace - n in
      subst (AllByRecursion (HeedsNone r)) (sym (first_read-is scenario journal i e (lived scenario journal i e is) n read))
      (heeds_none r i (seen e.incarnation (drop k s.trace)) (seen_no_leave r e.incarnation (drop k s.trace) (Each-drop (NoLeaveIn r) k s.trace quiet)))

  -- ---- one cycle

  module _ (k : ℕ) (some : 0 < k) where
    c : IsCycle scenario.params k
    c = cycle_of_formulas scenario.params legal.formulas k some

    -- after n slots the vector of each that has one has the node
    abbrev pub HaveIt : ℕ → Type 0
    HaveIt n = (i : ℕ) (e : EndedIncarnation) (is : IsIncarnation scenario (run scenario journal) i e) → n ≤ e.next
        → Says r true (known_at scenario journal i e (lived scenario journal i e is) n).vector

    -- so has each frame of the cycle that a slot carries
    frame_has : (n : ℕ) → n ≤ k * scenario.params.cycle + scenario.params.bound → n < length (run scenario journal).trace
        → ((m : ℕ) → m ≤ n → k * scenario.params.cycle < m → HaveIt m)
        → (f : FrameParts) → (note_in (run scenario journal).trace n).frame ≡ Some f → Says r true (vector_in scenario.params.format k f)
    frame_has n until ran have f frame v is =
        let rha = carries_vector p.format k f v is in
        let from = carried_from scenario journal n ran f frame in
        let b : RunState = run scenario from.front in
        let j : ℕ = from.offer.node in
        let node : NodeState = node_at b.nodes j in
        let inc : Incarnation = node.present in
        let sc : ScenarioParts = scenario_for scenario inc in
        let past : List NoticeKind = past_of j (seen inc b.trace) node in
        let below : j < scenario.params.nodes = subst (λ m. j < m) (orderly scenario from.front).count (runs_within b.nodes j from.offer.running) in
        let kept : IsKeptVector scenario (seen inc b.trace) j node = kept_vectors scenario (omega (arith, c.long)) from.front j from.offer.running in
        let late = Each-of (IsReadAfterStart p (length past)) f node.waiting kept.late.waits (Among-from_Contains node.waiting f from.offer.waits) rha.0 in
        let size : length past ≡ reads b j = sym (ap length (history-is j b)) ∙ history-length j b in
        let start : f.number * p.cycle ≡ k * p.cycle = ap (λ m. m * p.cycle) rha.1 in
        let number = from.number in
        let m : ℕ = reads b j in
        let after : k * p.cycle < m = omega (arith, late, start, size) in
        let early : m ≤ n = omega (arith, number) in
        let exchange : IsExchangeOf p k (length past) =
        record { cycle = some; after = omega (arith, after, size); until = omega (arith, early, until, size) } in
        let covers =
        Each-of (CoversVector sc k j past) f node.waiting (kept.covers k exchange).waits (Among-from_Contains node.waiting f from.offer.waits) rha.0 rha.1 in
        let g = goes_on scenario j below journal from.front from.rest from.whole in
        let same : (known_at scenario journal j g.to (lived scenario journal j g.to g.is) m).vector ≡ vector_at sc j past =
        ap (λ h. (knowledge_of (followed_by scenario g.to) j h).vector) (went scenario journal from.front from.rest j from.whole g ∙ history-is j b)
        ∙ ap (λ (i : Incarnation). (knowledge_of (scenario_for scenario i) j past).vector) g.same in
        let own : Says r true (vector_at sc j past) = subst (Says r true) same (have m early after j g.to g.is g.more) in
        let readable : EachRead (IsReadable sc) past = run_readable scenario from.front (few_nodes p legal.in_range) j in
        by_vector sc j past (first_members scenario inc legal.members) readable (vector_at sc j past) own covers rha v is legal.in_range.nodes.1
      where
        by_vector : (sc : ScenarioParts) (j : ℕ) (past : List NoticeKind) → AllBelow sc.params.nodes sc.members → EachRead (IsReadable sc) past
            → (o : Option Nodes) → Says r true o
            → CarriesVector sc j past o f → (f.class ≡ class.Rha) × (f.number ≡ k) → (v : Nodes) → vector_in sc.params.format k f ≡ Some v
            → sc.params.nodes ≤ (layout sc.params.format).nodes → has v r ≡ true
        by_vector sc j past first read None own covers rha v is fits = absurd covers
        by_vector sc j past first read (Some w) own covers rha v is fits =
            let bus : AllBelow sc.params.nodes covers.what =
            subst (IsVectorOfBus sc.params) covers.had
            (knowledge_of_bus sc j first (drop covers.place past) (each_dropped (IsReadable sc) covers.place past read)).vector in
            let carries : vector_in sc.params.format k f ≡ Some covers.what =
            cond-true (same_class f.class class.Rha && f.number == k) (vector_of sc.params.format f.payload) None
            (and_from (same_class f.class class.Rha) (f.number == k)
            (ap (λ x. same_class x class.Rha) rha.0 ∙ same_class_self class.Rha) (eq-eqb f.number k rha.1))
            ∙ ap (vector_of sc.params.format) covers.payload
            ∙ vector_again sc.params.format covers.what (λ q h. omega (arith, bus q h, fits)) in
            let one : Some covers.what ≡ Some v = sym carries ∙ is in
            let same : covers.what ≡ v = cc in
            ap (λ x. has x r) (sym same) ∙ covers.part r (own w refl)

    -- what an incarnation reads in the slot
    notice_has : (n : ℕ) → n ≤ k * scenario.params.cycle + scenario.params.bound → ((m : ℕ) → m ≤ n → k * scenario.params.cycle < m → HaveIt m)
        → (i : ℕ) (e : EndedIncarnation) → IsIncarnation scenario (run scenario journal) i e → n < e.next
        → Says r true (brings scenario.params.format k (next_read n (run scenario journal) i e))
    notice_has n until have i e is read =
        let l : Lived scenario journal i e = lived scenario journal i e is in
        let short = l.short in
        let note : SlotNote = note_in s.trace n in
        brings_says p k r i true (next_read n s i e) (λ f got.
        frame_has n until (omega (arith, short, read)) have f
        (seen_frame e.incarnation note f (given-Got i (as_seen e.incarnation note) f (sym (next_is scenario legal journal i n e l read) ∙ got)).0))

    -- ---- where each member that starts the cycle has the node in its view

    module _ (members : (i : ℕ) (e : EndedIncarnation) (is : IsIncarnation scenario (run scenario journal) i e) → k * scenario.params.cycle < e.next
        → has (known_at scenario journal i e (lived scenario journal i e is) (k * scenario.params.cycle)).members i ≡ true
        → has (known_at scenario journal i e (lived scenario journal i e is) (k * scenario.params.cycle)).members r ≡ true) where
      starts_has : HaveIt (k * scenario.params.cycle + 1)
      starts_has i e is read =
          let n : ℕ = k * p.cycle in
          let l : Lived scenario journal i e = lived scenario journal i e is in
          let short : n < e.next = omega (arith, read) in
          let sc : ScenarioParts = followed_by scenario e in
          let past : List NoticeKind = first_read n s i e in
          let notice : NoticeKind = next_read n s i e in
          let st : Knowledge = knowledge_of sc i past in
          let at : length past ≡ n = first_read-length scenario journal i n e l (omega (arith, short)) in
          let now : (known_at scenario journal i e l (n + 1)).vector ≡ starts_with sc i notice past =
          ap (λ (h : Knowledge). h.vector) (known_more scenario journal i e l n short) ∙ (turn_starts sc k i c notice past at).vector in
          let no_end : is_end p (length past) ≡ false = start_no_end p k (length past) c at in
          subst (Says r true) (sym now) (elim (cases_Bool (has st.members i)) [
            | inr out ↦ outsider_says p i r (length past) true notice st no_end out
            | inl own ↦
                let all : AllByRecursion (HeedsNone r) (notice ∷ past) =
                subst (AllByRecursion (HeedsNone r)) (first_read-more scenario journal i n e l short) (heeds i (n + 1) e is read) in
                start_stays p i r (length past) notice st few no_end (members i e is short own) (lives i e is n short)
                (asked_leavers p i (length past) notice st r all.0 (no_leaver sc i r past all.1))
          ])
        where
          lives : (i : ℕ) (e : EndedIncarnation) (is : IsIncarnation scenario (run scenario journal) i e) (n : ℕ) → n < e.next
              → has (after_finding scenario.params i (length (first_read n (run scenario journal) i e)) (next_read n (run scenario journal) i e)
              (knowledge_of (followed_by scenario e) i (first_read n (run scenario journal) i e))).failed r ≡ false
          lives i e is n short = elim (found_lives scenario legal journal within r there i n e is short) [
            | inl alive ↦ alive
            | inr stopped ↦ absurd (never (n + 1) stopped)
          ]

      exchange_has : (n : ℕ) → k * scenario.params.cycle < n → n < k * scenario.params.cycle + scenario.params.bound
          → ((m : ℕ) → m ≤ n → k * scenario.params.cycle < m → HaveIt m) → HaveIt (n + 1)
      exchange_has n from to have i e is read =
          let l : Lived scenario journal i e = lived scenario journal i e is in
          let short : n < e.next = omega (arith, read) in
          let sc : ScenarioParts = followed_by scenario e in
          let past : List NoticeKind = first_read n s i e in
          let notice : NoticeKind = next_read n s i e in
          let at : length past ≡ n = first_read-length scenario journal i n e l (omega (arith, short)) in
          let now : (known_at scenario journal i e l (n + 1)).vector ≡ met p (vector_at sc i past) (brings p.format k notice) =
          ap (λ (h : Knowledge). h.vector) (known_more scenario journal i e l n short)
          ∙ (turn_exchanges sc k i c notice past (omega (arith, at, from)) (omega (arith, at, to))).vector in
          subst (Says r true) (sym now)
          (met_says p r true (vector_at sc i past) (brings p.format k notice) few there (have n (omega arith) from i e is (omega (arith, short)))
          (notice_has n (omega (arith, to)) have i e is short))

      all_have : (most n : ℕ) → n ≤ most → k * scenario.params.cycle < n → n ≤ k * scenario.params.cycle + scenario.params.bound → HaveIt n
      all_have zero n less from to = absurd (omega (arith, less, from))
      all_have (suc most) zero less from to = absurd (omega (arith, from))
      all_have (suc most) (suc n) less from to =
          let up : n + 1 ≡ suc n = omega arith in
          subst HaveIt up (elim (cases_lt (k * scenario.params.cycle) n) [
            | inl later ↦
                exchange_has n later (omega (arith, to)) (λ m early after. all_have most m (omega (arith, early, less)) after (omega (arith, early, to)))
            | inr first ↦
                let at : k * scenario.params.cycle + 1 ≡ n + 1 = omega (arith, first, from) in
                subst HaveIt at starts_has
          ])

      -- what is installed at the end has it
      pub installs_it : (j : ℕ) (f : EndedIncarnation) → IsIncarnation scenario (run scenario journal) j f
          → Says r true (installed_as scenario (run scenario journal) j f k)
      unfolding ended_as
      installs_it j f jf v is =
          let n : ℕ = k * p.cycle + p.bound in
          let l : Lived scenario journal j f = lived scenario journal j f jf in
          let read : n < f.next = (view_read scenario legal journal within j f jf k v is).read in
          let sc : ScenarioParts = followed_by scenario f in
          let past : List NoticeKind = first_read n s j f in
          let notice : NoticeKind = next_read n s j f in
          let at : length past ≡ n = first_read-length scenario journal j n f l (omega (arith, read)) in
          let now : installed_as scenario s j f k ≡ met p (vector_at sc j past) (brings p.format k notice) =
          sym (ended_installs scenario journal j k n f l read refl) ∙ (turn_ends sc k j c notice past at).installs in
          let have : (m : ℕ) → m ≤ n → k * p.cycle < m → HaveIt m = λ m early after. all_have m m (omega arith) after (omega (arith, early)) in
          let exchanged = c.exchanged in
          met_says p r true (vector_at sc j past) (brings p.format k notice) few there
          (have n (omega arith) (omega (arith, exchanged)) j f jf (omega (arith, read)))
          (notice_has n (omega arith) have j f jf read) v (sym now ∙ is)

  -- ---- all cycles

  -- an incarnation had the node in its view when it had read so many slots
  module _ (i t : ℕ) (e : EndedIncarnation) (is : IsIncarnation scenario (run scenario journal) i e) (read : t < e.next)
      (member : has (known_at scenario journal i e (lived scenario journal i e is) (t + 1)).members r ≡ true) where
    abbrev pub OfCycle : ℕ → Type 0
    OfCycle k =
        (j : ℕ) (f : EndedIncarnation) → IsIncarnation scenario (run scenario journal) j f → Says r true (installed_as scenario (run scenario journal) j f k)

    -- at the start of a cycle that ends later
    start_members : (k : ℕ) → 0 < k → t < k * scenario.params.cycle + scenario.params.bound
        → ((d : ℕ) → d < k → 0 < d → t < d * scenario.params.cycle + scenario.params.bound → OfCycle d)
        → (j : ℕ) (f : EndedIncarnation) (jf : IsIncarnation scenario (run scenario journal) j f) → k * scenario.params.cycle < f.next
        → (q : ℕ) → has (known_at scenario journal j f (lived scenario journal j f jf) (k * scenario.params.cycle)).members q ≡ true
        → has (known_at scenario journal j f (lived scenario journal j f jf) (k * scenario.params.cycle)).members r ≡ true
    start_members k some ends before j f jf rf q own = elim (cases_lt t (k * scenario.params.cycle)) [
      | inl early ↦
          let n : ℕ = k * scenario.params.cycle in
          let up : (t + 1) + (n - (t + 1)) ≡ n = omega (arith, early) in
          ap (λ m. has (K j f jf m).members r) (sym up)
          ∙ keeps_member scenario legal journal within r i j e f is jf (t + 1) (omega (arith, read)) member (n - (t + 1)) (omega (arith, up, rf))
          (λ d pos from to v installs. before d (elim (cases_lt d k) [
            | inl less ↦ less
            | inr more ↦
                let step : k * scenario.params.cycle ≤ d * scenario.params.cycle = mul-le-mul_right scenario.params.cycle more in
                absurd (omega (arith, step, to, up))
          ]) pos (omega (arith, from)) j f jf v installs) q (ap (λ m. has (K j f jf m).members q) up ∙ own)
      | inr late ↦
          let n : ℕ = k * scenario.params.cycle in
          let up : n + ((t + 1) - n) ≡ t + 1 = omega (arith, late) in
          let long = (cycle_of_formulas scenario.params legal.formulas k some).long in
          let still : (K i e is (t + 1)).members ≡ (K i e is n).members =
          ap (λ m. (K i e is m).members) (sym up)
          ∙ view_stays scenario journal i e (lived scenario journal i e is) n ((t + 1) - n) (omega (arith, up, read))
          (λ m from to. no_end_within scenario.params k m long from (omega (arith, to, up, ends))) in
          let zero_up : n + 0 ≡ n = omega arith in
          ap (λ m. has (K j f jf m).members r) (sym zero_up)
          ∙ keeps_member scenario legal journal within r i j e f is jf n (omega (arith, late, read))
          (ap (λ v. has v r) (sym still) ∙ member) 0 (omega (arith, rf))
          (λ d pos from to v installs. absurd (omega (arith, from, to))) q (ap (λ m. has (K j f jf m).members q) zero_up ∙ own)
    ]

    cycles : (limit k : ℕ) → k < limit → 0 < k → t < k * scenario.params.cycle + scenario.params.bound → OfCycle k
    cycles zero k less some ends j f jf = absurd (omega (arith, less))
    cycles (suc limit) k less some ends j f jf =
        installs_it k some (λ a g ag rg own.
        start_members k some ends (λ d lt pos later. cycles limit d (omega (arith, lt, less)) pos later) a g ag rg a own) j f jf

    -- there is no cycle before the first
    never_first : (j : ℕ) (f : EndedIncarnation) → IsIncarnation scenario (run scenario journal) j f → (v : Nodes)
        → installed_as scenario (run scenario journal) j f 0 ≡ Some v → ⊥
    never_first j f jf v is =
        let n : ℕ = 0 * p.cycle + p.bound in
        let l : Lived scenario journal j f = lived scenario journal j f jf in
        let read_end : n < f.next = (view_read scenario legal journal within j f jf 0 v is).read in
        elim (cases_Bool (is_end p n)) [
          | inr none ↦ none_some v (sym (ended_none scenario journal j n f l read_end none) ∙ ended_installs scenario journal j 0 n f l read_end refl ∙ is)
          | inl end ↦
              let at = end_place p n end in
              let step : 1 * p.cycle ≤ cycle_of p n * p.cycle = mul-le-mul_right p.cycle (omega (arith, at.0)) in
              omega (arith, at.1, step, legal.formulas.cycle, legal.formulas.bound)
        ]
      where
        none_some : (v : Nodes) → None ≡ Some v → ⊥
        none_some v e = cc

    pub stands_in_each : (j : ℕ) (f : EndedIncarnation) → IsIncarnation scenario (run scenario journal) j f → (k : ℕ) (v : Nodes)
        → installed_as scenario (run scenario journal) j f k ≡ Some v → t < k * scenario.params.cycle + scenario.params.bound → has v r ≡ true
    stands_in_each j f jf k v is ends = elim (cases_lt 0 k) [
      | inl some ↦ cycles (suc k) k (omega arith) some ends j f jf v is
      | inr none ↦
          let first : k ≡ 0 = omega (arith, none) in
          absurd (never_first j f jf v (ap (installed_as scenario (run scenario journal) j f) (sym first) ∙ is))
    ]
