-- Where the vectors with which members start a cycle agree on a node, all vectors of the cycle do,
-- and so does what any incarnation installs at its end.
use Rattle.std.proofs.Common.{◌≡◌, ℕ, suc, ◌+◌, ◌-◌, ◌*◌, ◌<◌, ◌≤◌, ◌==◌, ◌&&◌, inl, inr, Bool, true, false, List, [], ◌∷◌, ◌++◌, length, drop, Some, None, Contains, ap, sym, ◌∙◌, subst, arith, drop-drop, length-drop, append_assoc, refl}
use Rattle.std.proofs.lemmas.Bool.{and_from, both_ways, cases_Bool, cases_eq, cases_lt, cond-true, eq-eqb}
use Rattle.cany_base.specs.Cycles.{cycle_of, is_end}
use Rattle.cany_base.specs.declared.class.Class.TheVariants as class
use Rattle.cany_base.specs.declared.format.Format.{Format}
use Rattle.cany_base.specs.declared.notice.NoticeKind.{NoticeKind}
use Rattle.cany_base.specs.declared.slot_note.SlotNote.{SlotNote}
use Rattle.cany_base.specs.declared.step.Step.{Step}
use Rattle.cany_base.specs.Frame.{FrameParts}
use Rattle.cany_base.specs.Layout.{layout}
use Rattle.cany_base.specs.Limits.{most_nodes}
use Rattle.cany_base.specs.Nodes.{AllBelow, Nodes, has}
use Rattle.cany_base.specs.Params.{Parameters}
use Rattle.cany_base.specs.Payload.{vector_bytes, vector_of}
use Rattle.cany_base.specs.Scenario.{ScenarioParts}
use Rattle.cany_model.specs.Bus.Frames.{same_class}
use Rattle.cany_model.specs.Bus.History.{as_seen, given, history, is_hidden}
use Rattle.cany_model.specs.Bus.Slot.{FaultScript, after_slot, script, slot_note_of}
use Rattle.cany_model.specs.Bus.State.{EndedIncarnation, Incarnation, RunState, node_at, opening, runs}
use Rattle.cany_model.specs.Promises.OneView.{installed_of}
use Rattle.cany_model.specs.Rules.Notices.{IsReadable}
use Rattle.cany_model.specs.Rules.Turn.{scenario_at, scenario_for}
use Rattle.cany_model.specs.Rules.Vectors.{rha_frame, vector_in}
use Rattle.cany_model.specs.Runs.Run.{run}
use Rattle.cany_model.proofs.Among.{Among-from_Contains, Contains-cons_cases, Contains-none, Each-of}
use Rattle.cany_model.proofs.Bus.EachRead.{EachRead, each_dropped, each_of_history}
use Rattle.cany_model.proofs.Bus.Identities.{same_class_self}
use Rattle.cany_model.proofs.Bus.Notes.{note_of-offered, note_of-slot}
use Rattle.cany_model.proofs.Bus.Restarts.{after_restarts-trace}
use Rattle.cany_model.proofs.Bus.Seen.{history-is, seen_idle, seen_plain}
use Rattle.cany_model.proofs.Promises.KeptVectors.{vector_at}
use Rattle.cany_model.proofs.Promises.OwnSlotsAlone.{run_numbered}
use Rattle.cany_model.proofs.Rules.Site.CycleFacts.{cycle_before}
use Rattle.cany_model.proofs.Rules.Site.KnowledgeNodes.{IsVectorOfBus, first_members, knowledge_of_bus}
use Rattle.cany_model.proofs.Rules.ProtocolFacts.{MayAsk, accepts, confirms, data_is_no_other, exchanges, is_relayed, lives, originates, relays, request_class, requests, signals}
use Rattle.cany_model.proofs.Rules.Site.VectorFacts.{carries_vector}
use Rattle.cany_model.proofs.Runs.Journals.{run_none}
use Rattle.cany_model.proofs.Runs.Runs.{history-length, orderly}
use Rattle.cany_model.proofs.Runs.Steps.{after_slot-trace, after_turn-trace}
use Rattle.cany_model.proofs.Timed.Detector.VectorsAgreeOn.{FrameSays, Says, brings_says, met_says, none_says, some_says}
use Rattle.cany_model.proofs.Timed.Views.OneVector.{installed_before, installed_here}
use Rattle.cany_model.proofs.Timed.Views.ReadableNodes.{run_readable}
use Rattle.cany_model.proofs.Timed.Views.VectorLastEffect.{IsCycle, at_place, brings, no_end}
use Rattle.cany_model.proofs.Timed.Views.VectorSets.{vector_again}
use Rattle.cany_model.proofs.Timed.Views.VectorTurns.{turn_ends, turn_exchanges}
use Rattle.cany_laws.specs.Logs.{IsIncarnation}
use Rattle.cany_laws.specs.Views.{installed_as}
use Rattle.cany_laws.proofs.Joins.AdmissionAsked.{WasAsked, waits_asked}
use Rattle.cany_laws.proofs.KeptAlongJournal.{along_pushes, pushed}
use Rattle.cany_laws.proofs.Silences.Lives.{lived}

-- what a notice of a slot up to the end of cycle k brings says so of node r
abbrev BringsSaid : Parameters → (k r : ℕ) → Bool → ℕ → NoticeKind → Type 0
BringsSaid p k r b slot e = slot ≤ k * p.cycle + p.bound → Says r b (brings p.format k e)

-- and the vector that a node has after its turn of the slot in which cycle k starts
abbrev pub StartSaid : ScenarioParts → (k r : ℕ) → Bool → ℕ → List NoticeKind → Type 0
StartSaid scenario k r b i past =
    k * scenario.params.cycle < length past → Says r b (vector_at scenario i (drop (length past - (k * scenario.params.cycle + 1)) past))

-- ---- of what a node has read

module _ (scenario : ScenarioParts) (k r : ℕ) (b : Bool) (few : r < most_nodes) (below : r < scenario.params.nodes) (c : IsCycle scenario.params k)
    (i : ℕ) where
  abbrev p : Parameters
  p = scenario.params

  abbrev start : ℕ
  start = k * scenario.params.cycle

  abbrev end : ℕ
  end = k * scenario.params.cycle + scenario.params.bound

  start_before : (e : NoticeKind) (past : List NoticeKind) → start < length past → StartSaid scenario k r b i (e ∷ past) → StartSaid scenario k r b i past
  start_before e past after says _ =
      let less : suc (length past) - (start + 1) ≡ suc (length past - (start + 1)) = omega (arith, after) in
      subst (λ n. Says r b (vector_at scenario i (drop n (e ∷ past)))) less (says (omega (arith, after)))

  vector_says : (past : List NoticeKind) → EachRead (BringsSaid p k r b) past → StartSaid scenario k r b i past → start < length past → length past ≤ end
      → Says r b (vector_at scenario i past)
  vector_says [] read says after until = absurd (omega (arith, after))
  vector_says (e ∷ past) read says after until = elim (cases_eq (length past) start) [
    | inl at ↦
        let none : suc (length past) - (start + 1) ≡ 0 = omega (arith, at) in
        subst (λ n. Says r b (vector_at scenario i (drop n (e ∷ past)))) none (says after)
    | inr later ↦
        let from : start < length past = omega (arith, after, later) in
        subst (Says r b) (sym (turn_exchanges scenario k i c e past from (omega (arith, until))).vector)
        (met_says p r b (vector_at scenario i past) (brings p.format k e) few below
        (vector_says past read.1 (start_before e past from says) from (omega (arith, until))) (read.0 (omega (arith, until))))
  ]

  -- what it installs at the end of the cycle
  installed_says : (past : List NoticeKind) → EachRead (BringsSaid p k r b) past → StartSaid scenario k r b i past
      → Says r b (installed_of scenario i k past)
  unfolding installed_of
  installed_says [] read says = none_says r b
  installed_says (e ∷ past) read says = elim (cases_eq (length past) end) [
    | inl at ↦
        let from : start < length past = omega (arith, at, c.exchanged) in
        subst (Says r b) (sym (installed_here scenario i k e past at ∙ (turn_ends scenario k i c e past at).installs))
        (met_says p r b (vector_at scenario i past) (brings p.format k e) few below
        (vector_says past read.1 (start_before e past from says) from (omega (arith, at))) (read.0 (omega (arith, at))))
    | inr other ↦ elim (cases_lt start (length past)) [
      | inl from ↦ subst (Says r b) (sym (installed_before scenario i k e past other)) (installed_says past read.1 (start_before e past from says))
      | inr early ↦ subst (Says r b) (sym (installed_before scenario i k e past other))
          (installed_says past read.1 (λ from. absurd (omega (arith, from, early))))
    ]
  ]

  -- the frame of a vector says what the vector says
  rha_says : (inc : ℕ) (n : ℕ) (v : Nodes) → AllBelow (layout p.format).nodes v → n ≡ k → has v r ≡ b → FrameSays p.format k r b (rha_frame p.format inc n i v)
  rha_says inc n v bus at says u is =
      let same : vector_in p.format k (rha_frame p.format inc n i v) ≡ Some v =
      cond-true (same_class class.Rha class.Rha && n == k) (vector_of p.format (vector_bytes p.format v)) None
      (and_from (same_class class.Rha class.Rha) (n == k) (same_class_self class.Rha) (eq-eqb n k at)) ∙ vector_again p.format v bus in
      some_says r b v says u (sym same ∙ is)

  -- so does each frame of the cycle that it asks for before the end
  asked_says : (past : List NoticeKind) (f : FrameParts) → p.nodes ≤ (layout p.format).nodes → AllBelow p.nodes scenario.members
      → EachRead (IsReadable scenario) past → EachRead (BringsSaid p k r b) past → StartSaid scenario k r b i past → length past ≤ end
      → MayAsk scenario i past f → FrameSays p.format k r b f
  asked_says past f fits first readable read says until (exchanges slot v is frame) = λ u carried.
      let number : cycle_of p slot ≡ k = ap (λ (g : FrameParts). g.number) frame ∙ (carries_vector p.format k f u carried).1 in
      let begun : start ≤ slot = omega (arith, cycle_before p slot, ap (λ n. n * p.cycle) number) in
      let now = is.now in
      let long = c.long in
      let none : is_end p slot ≡ false =
      no_end p k slot (slot - start) (at_place p k slot (slot - start) (omega (arith, begun)) (omega (arith, begun, now, until, long)))
      (λ e. omega (arith, e, begun, now, until)) in
      let had = is.vector (inr none) in
      let brings_says : has v r ≡ b = vector_says past read says (omega (arith, begun, now)) until v had in
      let bus : AllBelow p.nodes v = subst (IsVectorOfBus p) had (knowledge_of_bus scenario i first past readable).vector in
      rha_says scenario.inc (cycle_of p slot) v (λ q h. omega (arith, bus q h, fits)) number brings_says u (ap (vector_in p.format k) frame ∙ carried)
  asked_says past f fits first readable read says until (relays relayed got) = λ u carried.
      absurd (both_ways (is_relayed f.class) (ap is_relayed (carries_vector p.format k f u carried).0) relayed)
  asked_says past f fits first readable read says until (originates m is origin late from frame) = λ u carried.
      absurd (data_is_no_other m.service class.Rha refl (ap (λ (g : FrameParts). g.class) frame ∙ (carries_vector p.format k f u carried).0))
  asked_says past f fits first readable read says until (confirms g sent rel own frame) = λ u carried.
      let e : class.Confirm ≡ class.Rha = ap (λ (x : FrameParts). x.class) frame ∙ (carries_vector p.format k f u carried).0 in absurd (cc)
  asked_says past f fits first readable read says until (accepts g sent tot own frame) = λ u carried.
      let e : class.Accept ≡ class.Rha = ap (λ (x : FrameParts). x.class) frame ∙ (carries_vector p.format k f u carried).0 in absurd (cc)
  asked_says past f fits first readable read says until (signals sign slot now known frame) = λ u carried.
      let e : class.Fda ≡ class.Rha = ap (λ (x : FrameParts). x.class) frame ∙ (carries_vector p.format k f u carried).0 in absurd (cc)
  asked_says past f fits first readable read says until (lives slot now due frame) = λ u carried.
      let e : class.Els ≡ class.Rha = ap (λ (x : FrameParts). x.class) frame ∙ (carries_vector p.format k f u carried).0 in absurd (cc)
  asked_says past f fits first readable read says until (requests slot q request frame) = λ u carried.
      let class = ap (λ (x : FrameParts). x.class) frame ∙ (carries_vector p.format k f u carried).0 in
      elim (request_class scenario i past slot q request) [ inl join ↦ absurd (cc) | inr leave ↦ absurd (cc) ]

-- ---- of what was carried

seen_brings : (format : Format) (k r : ℕ) (b : Bool) (i : ℕ) (inc : Incarnation) (note : SlotNote)
    → ((f : FrameParts) → note.frame ≡ Some f → FrameSays format k r b f) → Says r b (brings format k (given i (as_seen inc note)))
seen_brings format k r b i inc note says = elim (cases_Bool (is_hidden inc note)) [
  | inl hidden ↦ subst (λ e. Says r b (brings format k e)) (sym (seen_idle i inc note hidden)) (none_says r b)
  | inr plain ↦ subst (λ (n : SlotNote). Says r b (brings format k (given i n))) (sym (seen_plain inc note plain)) (brings_says format k r b i note says)
]

-- each frame that a slot up to the end of the cycle carried
abbrev NotesSaid : ScenarioParts → (k r : ℕ) → Bool → List SlotNote → Type 0
NotesSaid scenario k r b trace =
    (note : SlotNote) → Contains trace note → note.slot ≤ k * scenario.params.cycle + scenario.params.bound
    → (f : FrameParts) → note.frame ≡ Some f → FrameSays scenario.params.format k r b f

module _ (scenario : ScenarioParts) (fits : scenario.params.nodes ≤ (layout scenario.params.format).nodes) (small : scenario.params.nodes ≤ most_nodes)
    (first : AllBelow scenario.params.nodes scenario.members) (k r : ℕ) (b : Bool) (below : r < scenario.params.nodes) (c : IsCycle scenario.params k)
    (journal : List Step)
    (starts : (front rest : List Step) → journal ≡ front ++ rest → (i : ℕ) → runs (node_at (run scenario front).nodes i) ≡ true
    → StartSaid (scenario_at scenario (run scenario front) i) k r b i (history i (run scenario front))) where
  few : r < most_nodes
  few = omega (arith, below, small)

  -- what a running node has read
  read_says : (front : List Step) → NotesSaid scenario k r b (run scenario front).trace → (i : ℕ)
      → EachRead (BringsSaid scenario.params k r b) (history i (run scenario front))
  read_says front notes i =
      let s : RunState = run scenario front in
      each_of_history (BringsSaid scenario.params k r b) i s (run_numbered scenario.params.nodes s (orderly scenario front))
      (λ note stands until. seen_brings scenario.params.format k r b i (node_at s.nodes i).present note (λ f. notes note stands until f))

  start_dropped : (sc : ScenarioParts) (i n : ℕ) (past : List NoticeKind) → StartSaid sc k r b i past → StartSaid sc k r b i (drop n past)
  start_dropped sc i n past says after =
      let size : length (drop n past) ≡ length past - n = length-drop n past in
      let place : n + (length (drop n past) - (k * sc.params.cycle + 1)) ≡ length past - (k * sc.params.cycle + 1) = omega (arith, size, after) in
      subst (λ l. Says r b (vector_at sc i l))
      (ap (λ m. drop m past) (sym place) ∙ sym (drop-drop (length (drop n past) - (k * sc.params.cycle + 1)) n past))
      (says (omega (arith, size, after)))

  -- the note of the slot that is run next
  next_says : (front rest : List Step) → journal ≡ front ++ rest → NotesSaid scenario k r b (run scenario front).trace
      → (f : FrameParts) → (slot_note_of (script scenario.rules) (run scenario front)).frame ≡ Some f
      → length (run scenario front).trace ≤ k * scenario.params.cycle + scenario.params.bound → FrameSays scenario.params.format k r b f
  next_says front rest whole notes f frame until =
      let s : RunState = run scenario front in
      let offer = note_of-offered (script scenario.rules) s f frame in
      let i : ℕ = offer.node in
      let sc : ScenarioParts = scenario_at scenario s i in
      let past : List NoticeKind = history i s in
      let was : WasAsked sc i past f =
      Each-of (WasAsked sc i past) f (node_at s.nodes i).waiting (waits_asked scenario front i offer.running)
      (Among-from_Contains (node_at s.nodes i).waiting f offer.waits) in
      let readable : EachRead (IsReadable sc) past = subst (EachRead (IsReadable sc)) (sym (history-is i s)) (run_readable scenario front small i) in
      asked_says sc k r b few below (record { some = c.some; exchanged = c.exchanged; long = c.long }) i (drop was.place past) f fits
      (first_members scenario (node_at s.nodes i).present first)
      (each_dropped (IsReadable sc) was.place past readable) (each_dropped (BringsSaid scenario.params k r b) was.place past (read_says front notes i))
      (start_dropped sc i was.place past (starts front rest whole i offer.running))
      (omega (arith, length-drop was.place past, history-length i s, until)) was.may

  abbrev Kept : List Step → Type 0
  Kept front = (rest : List Step) → journal ≡ front ++ rest → NotesSaid scenario k r b (run scenario front).trace

  kept_none : Kept []
  kept_none rest whole note stands =
      absurd (Contains-none note (subst (λ (s : RunState). Contains s.trace note) (run_none scenario (opening scenario.params.nodes)) stands))

  kept_more : (front : List Step) (next : Step) → Kept front → Kept (front ++ next ∷ [])
  kept_more front next before rest whole =
      let s : RunState = run scenario front in
      let split : journal ≡ front ++ (next ∷ rest) = whole ∙ append_assoc front (next ∷ []) rest in
      let old = before (next ∷ rest) split in
      elim (pushed scenario front next).is [
        | inl refused ↦ subst (λ (q : RunState). NotesSaid scenario k r b q.trace) (sym refused) old
        | inr (inr turn) ↦
            subst (NotesSaid scenario k r b) (sym (ap (λ (q : RunState). q.trace) turn.2 ∙ after_turn-trace scenario turn.0 s)) old
        | inr (inl slot) ↦
            let rules : FaultScript = script scenario.rules in
            let trace : (run scenario (front ++ next ∷ [])).trace ≡ slot_note_of rules s ∷ s.trace =
            ap (λ (q : RunState). q.trace) slot.1 ∙ after_restarts-trace scenario (after_slot rules s) ∙ after_slot-trace rules s in
            subst (NotesSaid scenario k r b) (sym trace) (λ note stands until f frame.
            elim (Contains-cons_cases (slot_note_of rules s) note s.trace stands) [
              | inr older ↦ old note older until f frame
              | inl now ↦ next_says front (next ∷ rest) split old f (ap (λ (n : SlotNote). n.frame) now ∙ frame)
                  (omega (arith, until, note_of-slot rules s, ap (λ (n : SlotNote). n.slot) now))
            ])
      ]

  notes_before : (front rest : List Step) → journal ≡ front ++ rest → NotesSaid scenario k r b (run scenario front).trace
  notes_before front rest whole = along_pushes Kept kept_none kept_more front rest whole

  -- what any incarnation installs in the cycle
  pub installs_say : (i : ℕ) (e : EndedIncarnation) → IsIncarnation scenario (run scenario journal) i e
      → Says r b (installed_as scenario (run scenario journal) i e k)
  installs_say i e is =
      let l = lived scenario journal i e is in
      let s : RunState = run scenario l.front in
      let sc : ScenarioParts = scenario_at scenario s i in
      let brings_says : Says r b (installed_of sc i k (history i s)) =
      installed_says sc k r b few below (record { some = c.some; exchanged = c.exchanged; long = c.long }) i (history i s)
      (read_says l.front (notes_before l.front l.rest l.whole) i) (starts l.front l.rest l.whole i l.running) in
      subst (Says r b)
      (ap (λ (inc : Incarnation). installed_of (scenario_for scenario inc) i k (history i s)) l.present
      ∙ ap (installed_of (scenario_for scenario e.incarnation) i k) l.past) brings_says
