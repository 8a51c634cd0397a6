-- The numbers that a report of a legal scenario writes are short: those of incarnations, and those
-- in the entries of the logs.
use Rattle.std.proofs.Common.{◌≡◌, ℕ, zero, suc, ◌-◌, ◌*◌, ◌/◌, ◌^◌, ◌<◌, ◌≤◌, ◌==◌, inl, inr, false, List, [], ◌∷◌, map, drop, length, Contains, Option, Some, None, ap, sym, ◌∙◌, subst, arith, div-mul-le_self, length-drop}
use Rattle.std.specs.Prelude.{All}
use Rattle.std.specs.List.{AllByRecursion}
use Rattle.std.specs.Option.{option_map_or}
use Rattle.std.proofs.Math.Nat.{mul-le-mul_left}
use Rattle.std.proofs.lemmas.Bool.{cond_both, false≢true}
use Rattle.std.proofs.lemmas.List.{drop-map, length-map, length-replicate}
use Rattle.std.proofs.lemmas.List.Elements.{All-head, All-tail, recursion_from_All}
use Rattle.cany_base.specs.declared.log_entry.LogEntry.{LogEntry}
use Rattle.cany_base.specs.declared.log_entry.LogEntry.TheVariants.{Deliver, Failed, View}
use Rattle.cany_base.specs.declared.message.MsgKey.{MsgKey}
use Rattle.cany_base.specs.declared.message.SendAsk.{SendAsk}
use Rattle.cany_base.specs.declared.message.Service.{Service}
use Rattle.cany_base.specs.declared.message.Service.TheVariants.{Ed, Rel, Tot}
use Rattle.cany_base.specs.declared.notice.NoticeKind.{NoticeKind}
use Rattle.cany_base.specs.declared.notice.NoticeKind.TheVariants.{Got}
use Rattle.cany_base.specs.declared.slot_note.SlotNote.{SlotNote}
use Rattle.cany_base.specs.declared.step.Step.{Step}
use Rattle.cany_base.specs.Frame.{FrameParts, data_class}
use Rattle.cany_base.specs.Nodes.{AllBelow, nobody}
use Rattle.cany_base.specs.Scenario.{ScenarioParts, IsLegalScenario}
use Rattle.cany_base.proofs.NodesFacts.{has_none}
use Rattle.cany_base.proofs.ParamsFacts.{few_nodes, few_slots}
use Rattle.cany_model.specs.Bus.Frames.{identity_of}
use Rattle.cany_model.specs.Bus.History.{as_seen, ended_history, given, seen}
use Rattle.cany_model.specs.Runs.Incarnations.{incarnation_of, log_of}
use Rattle.cany_model.specs.Bus.Restart.{after_restarts}
use Rattle.cany_model.specs.Runs.Run.{after_turn, run}
use Rattle.cany_model.specs.Bus.Slot.{FaultScript, after_slot, script}
use Rattle.cany_model.specs.Bus.State.{EndedIncarnation, Incarnation, NodeState, RunState, fresh, node_at, opening, runs}
use Rattle.cany_model.specs.Rules.Messages.{Message, messages_after, messages_of}
use Rattle.cany_model.specs.Rules.Notices.{BelongsTo, IsDataOf, IsReadable}
use Rattle.cany_model.specs.Rules.Protocol.{Protocol}
use Rattle.cany_model.specs.Rules.Knowledge.{FailureSign}
use Rattle.cany_model.specs.Rules.Turn.{scenario_for}
use Rattle.cany_text.specs.ReadOff.{SendsBytes}
use Rattle.cany_model.proofs.Among.{Among, Among-drop, Among-from_Contains, Among-weaker, Contains-cons, Contains-head}
use Rattle.cany_model.proofs.Bus.Carried.{Has}
use Rattle.cany_model.proofs.Runs.Journals.{trace_short}
use Rattle.cany_model.proofs.Bus.Restarts.{after_restarts-length, after_restarts-trace, restarts_or_stays}
use Rattle.cany_model.proofs.Runs.Runs.{IsOrderly, along_run, orderly}
use Rattle.cany_model.proofs.Bus.Seen.{Numbered, length-seen}
use Rattle.cany_model.proofs.Bus.States.{node_at-opening}
use Rattle.cany_model.proofs.Runs.Steps.{MayTurn, after_slot-length, after_slot-present, after_slot-trace, after_turn-length, after_turn-present, after_turn-runs, after_turn-trace}
use Rattle.cany_model.proofs.Promises.WaitingIsAskable.{all_belong, readable_for, seen_readable}
use Rattle.cany_model.proofs.Promises.OwnSlotsAlone.{run_numbered}
use Rattle.cany_model.proofs.Rules.NumberFacts.{IsSmall, belongs_small}
use Rattle.cany_model.proofs.Rules.ProtocolFacts.{IsFoundedEntry}
use Rattle.cany_model.proofs.Rules.Site.SignRooms.{AreRead, each_made}
use Rattle.cany_model.proofs.Rules.Site.KnowledgeNodes.{knowledge_of_bus}
use Rattle.cany_text.proofs.ReadOffEntries.{AreBytes, IsWritable}
use Rattle.cany_text.proofs.ReadOffLogs.{HasShortNumbers, ended_log}

-- ---- the numbers of incarnations

-- A node restarts once a slot at most: one that is stopped came to its incarnation in an earlier
-- slot than the last one.
abbrev HasFewIncarnations : ℕ → NodeState → Type 0
HasFewIncarnations slots node = (node.present.number ≤ slots) × (runs node ≡ false → node.present.number < slots)

abbrev HaveFewIncarnations : RunState → Type 0
HaveFewIncarnations s = (i : ℕ) → i < length s.nodes → HasFewIncarnations (length s.trace) (node_at s.nodes i)

few_at_first : (nodes : ℕ) → HaveFewIncarnations (opening nodes)
few_at_first nodes i h = subst (HasFewIncarnations 0)
    (sym (node_at-opening nodes i (subst (λ n. i < n) (length-replicate nodes fresh) h))) new
  where
    new : HasFewIncarnations 0 fresh
    new = (omega arith, λ stopped. absurd (false≢true (sym stopped)))

few_slot : (rules : FaultScript) (s : RunState) → HaveFewIncarnations s → HaveFewIncarnations (after_slot rules s)
few_slot rules s few i h =
    let below : i < length s.nodes = subst (λ n. i < n) (after_slot-length rules s) h in
    let same : (node_at (after_slot rules s).nodes i).present.number ≡ (node_at s.nodes i).present.number =
    ap (λ (inc : Incarnation). inc.number) (after_slot-present rules s i below) in
    let longer : length (after_slot rules s).trace ≡ suc (length s.trace) = ap length (after_slot-trace rules s) in
    let before : (node_at s.nodes i).present.number ≤ length s.trace = (few i below).0 in
    (omega (arith, same, longer, before), λ stopped. omega (arith, same, longer, before))

few_restarts : (scenario : ScenarioParts) (s : RunState) → HaveFewIncarnations s → HaveFewIncarnations (after_restarts scenario s)
few_restarts scenario s few i h =
    let below : i < length s.nodes = subst (λ n. i < n) (after_restarts-length scenario s) h in
    subst (λ (trace : List SlotNote). HasFewIncarnations (length trace) (node_at (after_restarts scenario s).nodes i))
    (sym (after_restarts-trace scenario s))
    (elim (restarts_or_stays scenario s i) [
      | inl new ↦
          let earlier : (node_at s.nodes i).present.number < length s.trace = (few i below).1 new.stopped in
          subst (HasFewIncarnations (length s.trace)) (sym new.is) (omega (arith, earlier), λ stopped. absurd (false≢true (sym stopped)))
      | inr same ↦ subst (HasFewIncarnations (length s.trace)) (sym same) (few i below)
    ])

few_turn : (scenario : ScenarioParts) (s : RunState) (i : ℕ) → IsOrderly scenario.params.nodes s → MayTurn s i → HaveFewIncarnations s
    → HaveFewIncarnations (after_turn scenario i s)
few_turn scenario s i o may few j h =
    let below : j < length s.nodes = subst (λ n. j < n) (after_turn-length scenario i s) h in
    let same : (node_at (after_turn scenario i s).nodes j).present.number ≡ (node_at s.nodes j).present.number =
    ap (λ (inc : Incarnation). inc.number) (after_turn-present scenario i s j may (o.unread i)) in
    let runs_on : runs (node_at (after_turn scenario i s).nodes j) ≡ runs (node_at s.nodes j) = after_turn-runs scenario i s j may
    (o.unread i) in
    let long : length (after_turn scenario i s).trace ≡ length s.trace = ap length (after_turn-trace scenario i s) in
    let before : (node_at s.nodes j).present.number ≤ length s.trace = (few j below).0 in (
      omega (arith, same, long, before),
      λ stopped. let earlier : (node_at s.nodes j).present.number < length s.trace = (few j below).1 (sym runs_on ∙ stopped) in omega
          (arith, same, long, earlier),
    )

few_incarnations : (scenario : ScenarioParts) (journal : List Step) → HaveFewIncarnations (run scenario journal)
few_incarnations scenario journal =
    along_run scenario HaveFewIncarnations (few_at_first scenario.params.nodes)
    (record {
      slot = λ s o may few. few_slot (script scenario.rules) s few;
      restarts = λ s o some few. few_restarts scenario s few;
      turn = λ s i o may few. few_turn scenario s i o may few;
    })
    journal

pub short_numbers : (scenario : ScenarioParts) (journal : List Step) → IsLegalScenario scenario
    → HasShortNumbers scenario (run scenario journal)
short_numbers scenario journal legal = record {
  nodes = omega (arith, few_nodes scenario.params legal.in_range);
  incarnations = λ i below.
      let there : i < length (run scenario journal).nodes = subst (λ n. i < n) (sym (orderly scenario journal).count) below in
      let few = (few_incarnations scenario journal i there).0 in
      omega (arith, few, trace_short scenario journal, few_slots scenario.params legal.in_range);
}

-- ---- what was read

read_of_trace : (scenario : ScenarioParts) (i : ℕ) (inc : Incarnation) (trace : List SlotNote) → Numbered trace
    → ((note : SlotNote) → Contains trace note → IsReadable scenario note.slot (given i (as_seen inc note)))
    → AreRead scenario (map (given i) (seen inc trace))
read_of_trace scenario i inc [] numbered h = tt
read_of_trace scenario i inc (note ∷ trace) numbered h = (
  subst (λ n. IsReadable scenario n (given i (as_seen inc note)))
      (numbered.0 ∙ sym (length-map (seen inc trace) (given i) ∙ length-seen inc trace)) (h note (Contains-head note trace)),
  read_of_trace scenario i inc trace numbered.1 (λ n c. h n (Contains-cons note n trace c)),
)

read_later : (scenario : ScenarioParts) (n : ℕ) (past : List NoticeKind) → AreRead scenario past → AreRead scenario (drop n past)
read_later scenario zero past h = h
read_later scenario (suc n) [] h = h
read_later scenario (suc n) (e ∷ past) h = read_later scenario n past h.1

read_by : (scenario : ScenarioParts) (inc : Incarnation) (past : List NoticeKind) → AreRead scenario past
    → AreRead (scenario_for scenario inc) past
read_by scenario inc [] h = tt
read_by scenario inc (e ∷ past) h = (readable_for scenario inc (length past) e h.0, read_by scenario inc past h.1)

-- what an incarnation had read when it ended
record HasReadWithin (scenario : ScenarioParts) (past : List NoticeKind) : Type 0 where
  read : AreRead scenario past
  within : length past ≤ scenario.params.slots

ended_read : (scenario : ScenarioParts) (journal : List Step) → IsLegalScenario scenario → (i : ℕ) (e : EndedIncarnation)
    → HasReadWithin scenario (ended_history i (run scenario journal).trace e)
unfolding ended_history
ended_read scenario journal legal i e =
    let s = run scenario journal in
    let hidden : ℕ = length s.trace - e.next in
    let all = all_belong scenario journal (few_nodes scenario.params legal.in_range) in
    let numbered : Numbered s.trace = run_numbered scenario.params.nodes s (orderly scenario journal) in
    let read : AreRead scenario (map (given i) (seen e.incarnation s.trace)) =
    read_of_trace scenario i e.incarnation s.trace numbered (λ note c. seen_readable scenario s i e.incarnation note all c) in
    record {
      read = subst (AreRead scenario) (drop-map (given i) hidden (seen e.incarnation s.trace))
          (read_later scenario hidden (map (given i) (seen e.incarnation s.trace)) read);
      within = omega (
        arith,
        length-map (drop hidden (seen e.incarnation s.trace)) (given i),
        length-drop hidden (seen e.incarnation s.trace),
        length-seen e.incarnation s.trace,
        trace_short scenario journal,
      );
    }

-- a frame that was read belongs to a slot of the run
record WasReadIn (scenario : ScenarioParts) (f : FrameParts) : Type 0 where
  slot : ℕ
  within : slot < scenario.params.slots
  belongs : BelongsTo scenario slot f.class f

was_read : (scenario : ScenarioParts) (past : List NoticeKind) (f : FrameParts) → AreRead scenario past
    → length past ≤ scenario.params.slots
    → Among (Has f) past → WasReadIn scenario f
was_read scenario [] f read within h = absurd h
was_read scenario (kind ∷ past) f read within (inl (inl got)) =
    record { slot = length past; within = omega (arith, within); belongs = subst (IsReadable scenario (length past)) got read.0 }
was_read scenario (kind ∷ past) f read within (inl (inr sent)) =
    record { slot = length past; within = omega (arith, within); belongs = subst (IsReadable scenario (length past)) sent read.0 }
was_read scenario (kind ∷ past) f read within (inr h) = was_read scenario past f read.1 (omega (arith, within)) h

-- ---- payloads

message_bytes : (earlier sends : List SendAsk) (m : Message) → All (λ send. All (λ b. b < 256) send.payload) sends
    → Among (λ k. k ≡ m) (messages_after earlier sends) → AreBytes m.payload
unfolding messages_after
message_bytes earlier [] m all h = absurd h
message_bytes earlier (send ∷ sends) m all (inl e) =
    let IsSentAsBytes : SendAsk → Type 0 = λ k. All (λ b. b < 256) k.payload in
    subst (λ (k : Message). AreBytes k.payload) e (recursion_from_All (λ b. b < 256) send.payload (All-head IsSentAsBytes send sends all))
message_bytes earlier (send ∷ sends) m all (inr h) =
    let IsSentAsBytes : SendAsk → Type 0 = λ k. All (λ b. b < 256) k.payload in
    message_bytes (send ∷ earlier) sends m (All-tail IsSentAsBytes send sends all) h

data_of : (scenario : ScenarioParts) (slot : ℕ) (f : FrameParts) (by : Service) → BelongsTo scenario slot (data_class by) f
    → IsDataOf scenario by f
data_of scenario slot f Ed h = h
data_of scenario slot f Rel h = h
data_of scenario slot f Tot h = h

frame_bytes : (scenario : ScenarioParts) → SendsBytes scenario → (slot : ℕ) (f : FrameParts) (by : Service) → f.class ≡ data_class by
    → BelongsTo scenario slot f.class f → AreBytes f.payload
frame_bytes scenario bytes slot f by class h =
    let carried = data_of scenario slot f by (subst (λ c. BelongsTo scenario slot c f) class h) in
    subst (λ (g : FrameParts). AreBytes g.payload) carried.frame
    (message_bytes [] scenario.sends carried.message bytes
    (Among-from_Contains (messages_of scenario.sends) carried.message carried.stands))

-- ---- entries

quotient_below : (n m : ℕ) → 0 < m → n / m ≤ n
quotient_below n m some = let more : n / m * 1 ≤ n / m * m = mul-le-mul_left (n / m) some in omega (arith, more, div-mul-le_self n m)

members_below : (scenario : ScenarioParts) → IsLegalScenario scenario → (inc : Incarnation)
    → AllBelow scenario.params.nodes (scenario_for scenario inc).members
members_below scenario legal inc =
    cond_both (inc.number == 0) scenario.members nobody (AllBelow scenario.params.nodes) (λ _. legal.members)
    (λ _ node has_it. absurd (false≢true (sym (has_none node) ∙ has_it)))

short_slot : (scenario : ScenarioParts) → IsLegalScenario scenario → (past : List NoticeKind) (place slot : ℕ)
    → length past ≤ scenario.params.slots
    → length (drop place past) ≡ suc slot → slot < 2 ^ 64
short_slot scenario legal past place slot within now =
    let rest : length (drop place past) ≡ length past - place = length-drop place past in
    omega (arith, rest, within, now, few_slots scenario.params legal.in_range)

writable : (scenario : ScenarioParts) → IsLegalScenario scenario → SendsBytes scenario
    → (inc : Incarnation) (i : ℕ) (past : List NoticeKind)
    → HasReadWithin scenario past → (p : Protocol) (place : ℕ) (entry : LogEntry)
    → IsFoundedEntry (scenario_for scenario inc) p i (drop place past) entry
    → IsWritable entry
writable scenario legal bytes inc i past h p place (Deliver slot by msg payload) r =
    let w = was_read scenario past r.frame h.read h.within (Among-drop (Has r.frame) place past r.read) in
    let small : IsSmall scenario (identity_of r.frame) = belongs_small scenario w.slot r.frame legal w.within w.belongs in
    let origin : r.frame.node ≡ msg.origin = ap (λ (k : MsgKey). k.origin) r.key in
    let seq : r.frame.number ≡ msg.seq = ap (λ (k : MsgKey). k.seq) r.key in (
      short_slot scenario legal past place slot h.within r.now,
      omega (arith, small.node, origin, few_nodes scenario.params legal.in_range),
      omega (arith, small.number, seq),
      subst AreBytes r.carries (frame_bytes scenario bytes w.slot r.frame by r.class w.belongs),
    )
writable scenario legal bytes inc i past h p place (Failed slot node cycle) r =
    let early : slot < 2 ^ 64 = short_slot scenario legal past place slot h.within r.now in
    elim r.because [
      | inr found ↦
          let quotient : slot / scenario.params.cycle ≤ slot = quotient_below slot scenario.params.cycle legal.in_range.cycle.0 in
          (early, omega (arith, found.node, few_nodes scenario.params legal.in_range), omega (arith, found.cycle, quotient, early))
      | inl told ↦
          let f : FrameParts = told.frame in
          let w = was_read scenario past f h.read h.within
          (Among-drop (Has f) place past (Among-weaker (λ n. n ≡ Got f) (Has f) (λ n e. inl e) (drop place past) told.read)) in
          let small : IsSmall scenario (identity_of f) = belongs_small scenario w.slot f legal w.within w.belongs in
          let names : f.node ≡ node = ap (λ (a : FailureSign). a.node) told.tells in
          let of : f.number ≡ cycle = ap (λ (a : FailureSign). a.cycle) told.tells in
          (early, omega (arith, small.node, names, few_nodes scenario.params legal.in_range), omega (arith, small.number, of))
    ]
writable scenario legal bytes inc i past h p place (View slot number members) r =
    let early : slot < 2 ^ 64 = short_slot scenario legal past place slot h.within r.now in
    let quotient : slot / scenario.params.cycle ≤ slot = quotient_below slot scenario.params.cycle legal.in_range.cycle.0 in
    let knowledge = knowledge_of_bus (scenario_for scenario inc) i (members_below scenario legal inc) (drop place past)
    (read_later (scenario_for scenario inc) place past (read_by scenario inc past h.read)) in
    let below : AllBelow scenario.params.nodes members = subst (AllBelow scenario.params.nodes) r.members knowledge.members in (
      early,
      omega (arith, r.number, quotient, early),
      λ node has_it. let near = below node has_it in omega
          (arith, near, few_nodes scenario.params legal.in_range),
    )

pub log_writable : (scenario : ScenarioParts) (journal : List Step) → IsLegalScenario scenario → SendsBytes scenario → (i number : ℕ)
    → AllByRecursion IsWritable (log_of scenario (run scenario journal) i number)
log_writable scenario journal legal bytes i number = by_option (incarnation_of (run scenario journal) i number)
  where
    by_option : (o : Option EndedIncarnation) → AllByRecursion IsWritable (option_map_or (ended_log scenario (run scenario journal) i) o [])
    by_option None = tt
    by_option (Some e) =
        each_made IsWritable (scenario_for scenario e.incarnation) i (ended_history i (run scenario journal).trace e)
        (writable scenario legal bytes e.incarnation i (ended_history i (run scenario journal).trace e)
        (ended_read scenario journal legal i e))
