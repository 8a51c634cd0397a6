-- What a node reads of vectors in a run, it can read as the exchange of vectors rests on it.
use Rattle.std.proofs.Common.{◌≡◌, ℕ, ◌<◌, ◌≤◌, ◌==◌, ◌&&◌, List, drop, length, Option, Some, None, refl, ap, sym, ◌∙◌, subst, arith}
use Rattle.std.specs.Int.{from_be_bytes}
use Rattle.std.specs.List.{AllByRecursion}
use Rattle.std.proofs.lemmas.Bool.{cond_both}
use Rattle.cany_base.specs.Limits.{most_nodes}
use Rattle.cany_base.specs.declared.class.Class.TheVariants as class
use Rattle.cany_base.specs.declared.format.Format.{Format}
use Rattle.cany_base.specs.declared.notice.NoticeKind.{NoticeKind}
use Rattle.cany_base.specs.declared.notice.NoticeKind.TheVariants.{Idle, Got, Sent, Bad}
use Rattle.cany_base.specs.declared.slot_note.SlotNote.{SlotNote}
use Rattle.cany_base.specs.declared.step.Step.{Step}
use Rattle.cany_base.specs.Frame.{FrameParts}
use Rattle.cany_base.specs.Layout.{layout}
use Rattle.cany_base.specs.Nodes.{Nodes, AllBelow}
use Rattle.cany_base.specs.Params.{IsInRange, Parameters}
use Rattle.cany_base.specs.Payload.{vector_bytes, vector_of, vector_width}
use Rattle.cany_base.specs.Scenario.{ScenarioParts}
use Rattle.cany_base.proofs.NodesFacts.{bits-lt}
use Rattle.cany_base.proofs.ParamsFacts.{few_nodes}
use Rattle.cany_base.proofs.PayloadFacts.{bits-back}
use Rattle.cany_model.specs.Bus.Frames.{same_class}
use Rattle.cany_model.specs.Bus.History.{history, seen}
use Rattle.cany_model.specs.Runs.Run.{run}
use Rattle.cany_model.specs.Bus.State.{Incarnation, NodeState, RunState, node_at}
use Rattle.cany_model.specs.Rules.Notices.{CarriesMore, IsPart, IsReadable, IsReadableVector, IsSentWithMore}
use Rattle.cany_model.specs.Rules.Turn.{scenario_at}
use Rattle.cany_model.specs.Rules.Vectors.{vector_in}
use Rattle.cany_base.specs.Cycles.{cycle_of}
use Rattle.cany_model.proofs.Among.{Among-get_or, Each-of}
use Rattle.cany_model.proofs.Bus.EachRead.{EachRead, each_dropped, each_of_history}
use Rattle.cany_model.proofs.Runs.Runs.{orderly}
use Rattle.cany_model.proofs.Bus.Seen.{history-is, length-seen}
use Rattle.cany_model.proofs.Bus.States.{no_note, note_at}
use Rattle.cany_model.proofs.Runs.Steps.{MayTurn, next_age, next_notice}
use Rattle.cany_model.proofs.Promises.WaitingIsAskable.{AllBelong, all_belong, readable_for, seen_readable}
use Rattle.cany_model.proofs.Promises.Diffusion.{past_of}
use Rattle.cany_model.proofs.Promises.OwnSlotsAlone.{run_numbered}
use Rattle.cany_model.proofs.Promises.KeptVectors.{CarriesVector, CoversVector, IsSentWith, kept_vectors, vector_at}
use Rattle.cany_model.proofs.Promises.LateVectors.{IsReadLate, notice_late}
use Rattle.cany_model.proofs.Rules.Site.CycleFacts.{IsExchangeOf, exchange_slot}
use Rattle.cany_model.proofs.Rules.Site.KnowledgeNodes.{IsVectorOfBus, first_members, knowledge_of_bus}

-- ---- the vector that a frame carries

-- the bytes of a vector give it back, where its nodes are those of a bus of the format
bytes_back : (format : Format) (u w : Nodes) → AllBelow (layout format).nodes u → vector_of format (vector_bytes format u) ≡ Some w → u ≡ w
bytes_back format u w below h =
    cond_both (length (vector_bytes format u) == (layout format).vector)
    (Some (record { bits = from_be_bytes (vector_width format) (vector_bytes format u) })) None
    (λ o. o ≡ Some w → u ≡ w) (λ _ some. same some) (λ _ none. cc) h
  where
    same : Some (record { bits = from_be_bytes (vector_width format) (vector_bytes format u) }) ≡ Some w → u ≡ w
    same some =
        let back : from_be_bytes (vector_width format) (vector_bytes format u) ≡ u.bits =
        bits-back format u.bits (bits-lt (layout format).nodes u below) in
        let bits : from_be_bytes (vector_width format) (vector_bytes format u) ≡ w.bits = cc in
        λ k. record { bits = (sym back ∙ bits) k }

-- the vector in a frame of the cycle is that of its payload
in_payload : (format : Format) (cycle : ℕ) (f : FrameParts) (w : Nodes) → vector_in format cycle f ≡ Some w
    → vector_of format f.payload ≡ Some w
in_payload format cycle f w h =
    cond_both (same_class f.class class.Rha && f.number == cycle) (vector_of format f.payload) None
    (λ o. o ≡ Some w → vector_of format f.payload ≡ Some w) (λ _ some. some) (λ _ none. cc) h

-- ---- what a node has read names nodes of the bus

history_readable : (scenario : ScenarioParts) (journal : List Step) → scenario.params.nodes ≤ most_nodes → (i : ℕ)
    → let s = run scenario journal in EachRead (IsReadable (scenario_at scenario s i)) (history i s)
history_readable scenario journal few i =
    let s : RunState = run scenario journal in
    let inc : Incarnation = (node_at s.nodes i).present in
    let belong : AllBelong scenario s = all_belong scenario journal few in
    each_of_history (IsReadable (scenario_at scenario s i)) i s (run_numbered scenario.params.nodes s (orderly scenario journal))
    (λ note c. readable_for scenario inc note.slot _ (seen_readable scenario s i inc note belong c))

-- ---- its own vectors

-- a frame that carries a vector that the node had once, and that has all of the present one, is
-- read as such
carries_more : (scenario : ScenarioParts) (i : ℕ) (past : List NoticeKind) → scenario.params.nodes ≤ (layout scenario.params.format).nodes
    → AllBelow scenario.params.nodes scenario.members → EachRead (IsReadable scenario) past
    → (k : ℕ) (f : FrameParts) (vector : Option Nodes)
    → CarriesVector scenario i past vector f → CarriesMore scenario.params k f vector
carries_more scenario i past few first read k f None h = h
carries_more scenario i past few first read k f (Some v) h = λ w is.
    let format = scenario.params.format in
    let before : List NoticeKind = drop h.place past in
    let known = knowledge_of_bus scenario i first before (each_dropped (IsReadable scenario) h.place past read) in
    let below : AllBelow (layout format).nodes h.what =
    λ r there. let small = had_below h.what h.had known.vector r there in omega (arith, small, few) in
    let same : h.what ≡ w =
    bytes_back format h.what w below (ap (vector_of format) (sym h.payload) ∙ in_payload format k f w is) in
    subst (IsPart v) same h.part
  where
    had_below : (u : Nodes) → vector_at scenario i (drop h.place past) ≡ Some u
        → IsVectorOfBus scenario.params (vector_at scenario i (drop h.place past))
        → AllBelow scenario.params.nodes u
    had_below u had of = subst (IsVectorOfBus scenario.params) had of

module _ (scenario : ScenarioParts) (range : IsInRange scenario.params) (first : AllBelow scenario.params.nodes scenario.members)
    (short : scenario.params.bound ≤ scenario.params.cycle) (journal : List Step) (i : ℕ) (may : MayTurn (run scenario journal) i)
  where
    abbrev s : RunState
    s = run scenario journal

    abbrev node : NodeState
    node = node_at s.nodes i

    abbrev p : Parameters
    p = scenario.params

    abbrev sc : ScenarioParts
    sc = scenario_at scenario s i

    abbrev slot : ℕ
    slot = length (history i s)

    abbrev trace : List SlotNote
    trace = seen node.present s.trace

    -- the vectors of the cycle that it has sent, read or not
    own_sent : IsExchangeOf p (cycle_of p slot) slot
        → AllByRecursion (IsSentWith (CoversVector sc (cycle_of p slot) i (history i s)) i) trace
    own_sent exchange =
        let past : history i s ≡ past_of i trace node = history-is i s in
        let kept = kept_vectors scenario short journal i may.running in
        subst (λ read. AllByRecursion (IsSentWith (CoversVector sc (cycle_of p slot) i read) i) trace) (sym past)
        (kept.covers (cycle_of p slot) (subst (λ read. IsExchangeOf p (cycle_of p slot) (length read)) past exchange)).sent

    sent_with_more : (f : FrameParts) → next_notice s i ≡ Sent f → IsSentWithMore p i slot (vector_at sc i (history i s)) f
    sent_with_more f is rha own number exchange =
        let note : SlotNote = note_at trace (next_age s i) in
        let below : next_age s i < length trace =
        omega (arith, (orderly scenario journal).unread i, may.unread, length-seen node.present s.trace) in
        let sent = own_sent (exchange_slot p slot exchange) in
        let covers = Each-of (IsSentWith (CoversVector sc (cycle_of p slot) i (history i s)) i) note trace sent
        (Among-get_or (λ n. n ≡ note) trace (next_age s i) no_note below refl) f is in
        carries_more sc i (history i s) range.nodes.1 (first_members scenario node.present first)
        (history_readable scenario journal (few_nodes p range) i)
        (cycle_of p slot) f (vector_at sc i (history i s)) (covers rha number)

    readable_notice : (e : NoticeKind) → next_notice s i ≡ e → IsReadLate p slot e
        → IsReadableVector p i slot (vector_at sc i (history i s)) e
    readable_notice Idle is late = tt
    readable_notice Bad is late = tt
    readable_notice (Got f) is late = late
    readable_notice (Sent f) is late = (late, sent_with_more f is)

    -- so the notice of a turn that a node may take can be read, as far as vectors go
    pub readable_vector : IsReadableVector p i slot (vector_at sc i (history i s)) (next_notice s i)
    readable_vector = readable_notice (next_notice s i) refl (notice_late scenario journal (few_nodes p range) i may)
