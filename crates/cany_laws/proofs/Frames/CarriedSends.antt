-- A node sends a frame no more often than its turns ask for it, through all its incarnations; and
-- the bus carries it Clean no more often than it is sent.
use Rattle.std.proofs.Common.{◌≡◌, ℕ, zero, suc, ◌+◌, ◌<◌, ◌≤◌, inl, inr, Bool, true, false, List, [], ◌∷◌, length, count_by, ap, sym, ◌∙◌, subst, arith}
use Rattle.std.proofs.lemmas.Bool.{and_parts, cases_Bool, cases_eq}
use Rattle.cany_base.specs.declared.notice.NoticeKind.{NoticeKind}
use Rattle.cany_base.specs.declared.slot_note.SlotNote.{SlotNote}
use Rattle.cany_base.specs.declared.step.Step.{Step}
use Rattle.cany_base.specs.Frame.{FrameParts}
use Rattle.cany_base.specs.Limits.{most_nodes}
use Rattle.cany_base.specs.Scenario.{ScenarioParts}
use Rattle.cany_model.specs.Bus.Frames.{Identity, identity_of}
use Rattle.cany_model.specs.Bus.History.{is_sent, given, history}
use Rattle.cany_model.specs.Bus.Restart.{after_restarts}
use Rattle.cany_model.specs.Bus.Slot.{is_clean, FaultScript, after_slot, script, slot_note_of}
use Rattle.cany_model.specs.Bus.State.{NodeState, RunState, node_at, opening, reads, runs}
use Rattle.cany_model.specs.Bus.Waiting.{waits, without}
use Rattle.cany_model.specs.Rules.Effect.{waiting_after}
use Rattle.cany_model.specs.Rules.Turn.{scenario_at, turn_effects}
use Rattle.cany_model.specs.Runs.Run.{after_turn, run}
use Rattle.cany_model.proofs.Among.{Among, Among-get_or, count-from_Among, count-no, count-yes, one_if}
use Rattle.cany_model.proofs.Bus.Carried.{is_sent-true}
use Rattle.cany_model.proofs.Bus.Identities.{same_identity-from}
use Rattle.cany_model.proofs.Bus.Notes.{given-Sent, note_of-offered, sender_waits, waits_with-from_Contains}
use Rattle.cany_model.proofs.Bus.Restarts.{after_restarts-trace, restarts_or_stays}
use Rattle.cany_model.proofs.Bus.States.{no_note, node_at-opening, note_at, runs_within}
use Rattle.cany_model.proofs.Runs.Runs.{IsOrderly, along_run, opening_within}
use Rattle.cany_model.proofs.Runs.Steps.{MayTurn, after_slot-trace, after_slot-waiting, after_turn-node, after_turn-other, after_turn-trace, kept_at, next_notice, running_before_slot}
use Rattle.cany_model.proofs.Rules.Waits.{Asks, waits-from_after, waits-from_with}
use Rattle.cany_model.proofs.Timed.Common.Ages.{carries, carries_clean, carried_there, clean_carried}
use Rattle.cany_model.proofs.Timed.Common.Counting.{Passes}
use Rattle.cany_model.proofs.Timed.Order.TotSlots.{carries-true}
use Rattle.cany_laws.specs.Carried.{times_clean}
use Rattle.cany_laws.proofs.Waiting.WaitNodes.{has_sent, same_after_turn, same_reads, turn_reads}
use Rattle.cany_laws.proofs.Waiting.WaitTotals.{one_if_weaker}
use Rattle.cany_laws.proofs.Frames.CarriedCounts.{sent_by}
use Rattle.cany_laws.proofs.Waiting.WaitNodes.{kept_waits, without_none}
use Rattle.cany_model.proofs.Timed.Windows.FewVectors.{count_weaker}

-- ---- a number that no step makes smaller, and that each turn of node i that asks for the frame makes larger

pub record CountsAsks (scenario : ScenarioParts) (x : Identity) (i : ℕ) (n : RunState → ℕ) : Type 0 where
  pub slot : (rules : FaultScript) (s : RunState) → IsOrderly scenario.params.nodes s → n s ≤ n (after_slot rules s)
  pub restarts : (s : RunState) → IsOrderly scenario.params.nodes s → n s ≤ n (after_restarts scenario s)
  pub turn : (s : RunState) (j : ℕ) → IsOrderly scenario.params.nodes s → MayTurn s j → n s ≤ n (after_turn scenario j s)
  pub asks : (s : RunState) → IsOrderly scenario.params.nodes s → MayTurn s i
      → Among (Asks x) (turn_effects (scenario_at scenario s i) i (next_notice s i ∷ history i s)) → n s < n (after_turn scenario i s)

module _ (scenario : ScenarioParts) (x : Identity) (i : ℕ) (n : RunState → ℕ) (counts : CountsAsks scenario x i n) where
  -- node i has sent the frame so often at most, and once less where it waits with it
  record SentSoOften (s : RunState) : Type 0 where
    most : count_by (sent_by x i) s.trace ≤ n s
    running : runs (node_at s.nodes i) ≡ true → count_by (sent_by x i) s.trace + one_if (waits x (node_at s.nodes i).waiting) ≤ n s

  in_slot : (rules : FaultScript) (s : RunState) → IsOrderly scenario.params.nodes s → SentSoOften s → SentSoOften (after_slot rules s)
  in_slot rules s o h =
      let note : SlotNote = slot_note_of rules s in
      let e : NoticeKind = given i note in
      let grows = counts.slot rules s o in
      let counted : count_by (sent_by x i) (after_slot rules s).trace ≡ count_by (sent_by x i) (note ∷ s.trace) =
      ap (count_by (sent_by x i)) (after_slot-trace rules s) in
      elim (cases_Bool (sent_by x i note)) [
        | inr silent ↦
            let same = count-no (sent_by x i) note s.trace silent in
            let most = h.most in
            record {
              most = omega (arith, counted, same, grows, most);
              running = λ on.
                  let ran = (running_before_slot rules s i on).0 in
                  let was = h.running ran in
                  let fewer : one_if (waits x (node_at (after_slot rules s).nodes i).waiting) ≤ one_if (waits x (node_at s.nodes i).waiting) =
                  one_if_weaker (waits x (node_at (after_slot rules s).nodes i).waiting) (waits x (node_at s.nodes i).waiting)
                  (λ still. kept_waits x e (node_at s.nodes i).waiting (ap (waits x) (sym (after_slot-waiting rules s i ran)) ∙ still)) in
                  omega (arith, counted, same, grows, was, fewer);
            }
        | inl sent ↦
            let g = is_sent-true x e sent in
            let parts = given-Sent i note g.what g.was in
            let waited = sender_waits rules s g.what i parts.0 parts.1 in
            let waits_before : waits x (node_at s.nodes i).waiting ≡ true =
            ap (λ y. waits y (node_at s.nodes i).waiting) g.identity
            ∙ waits-from_with g.what (node_at s.nodes i).waiting (waits_with-from_Contains g.what (node_at s.nodes i).waiting waited.1) in
            let more = count-yes (sent_by x i) note s.trace sent in
            let was = h.running waited.0 in
            let one : one_if (waits x (node_at s.nodes i).waiting) ≡ 1 = ap one_if waits_before in
            let gone : waits x (kept_at e (node_at s.nodes i).waiting) ≡ false =
            ap (waits x) (ap (λ k. kept_at k (node_at s.nodes i).waiting) g.was ∙ ap (λ y. without y (node_at s.nodes i).waiting) (sym g.identity))
            ∙ without_none x (node_at s.nodes i).waiting in
            let none : one_if (waits x (node_at (after_slot rules s).nodes i).waiting) ≡ 0 =
            ap one_if (ap (waits x) (after_slot-waiting rules s i waited.0) ∙ gone) in
            record {
              most = omega (arith, counted, more, grows, was, one);
              running = λ on. omega (arith, counted, more, grows, was, one, none);
            }
      ]

  at_restart : (s : RunState) → IsOrderly scenario.params.nodes s → SentSoOften s → SentSoOften (after_restarts scenario s)
  at_restart s o h =
      let trace = ap (count_by (sent_by x i)) (after_restarts-trace scenario s) in
      let grows = counts.restarts s o in
      let most = h.most in
      record {
        most = omega (arith, trace, grows, most);
        running = λ on. elim (restarts_or_stays scenario s i) [
          | inl new ↦
              let none : waits x (node_at (after_restarts scenario s).nodes i).waiting ≡ false = ap (λ (node : NodeState). waits x node.waiting) new.is in
              omega (arith, trace, grows, most, ap one_if none)
          | inr same ↦
              let was = h.running (sym (ap (λ (node : NodeState). runs node) same) ∙ on) in
              let waiting = ap (λ (node : NodeState). one_if (waits x node.waiting)) same in
              omega (arith, trace, grows, was, waiting)
        ];
      }

  in_own : (s : RunState) → IsOrderly scenario.params.nodes s → MayTurn s i → SentSoOften s
      → count_by (sent_by x i) s.trace + one_if (waits x (node_at (after_turn scenario i s).nodes i).waiting) ≤ n (after_turn scenario i s)
  in_own s o may h =
      let to : RunState = after_turn scenario i s in
      let effects = turn_effects (scenario_at scenario s i) i (next_notice s i ∷ history i s) in
      let w : List FrameParts = (node_at s.nodes i).waiting in
      let grows = counts.turn s i o may in
      let was = h.running may.running in
      let waiting : (node_at to.nodes i).waiting ≡ waiting_after effects w =
      ap (λ (node : NodeState). node.waiting) (after_turn-node scenario i s may (o.unread i)) in
      elim (cases_Bool (waits x (node_at to.nodes i).waiting)) [
        | inr none ↦ omega (arith, was, grows, ap one_if none)
        | inl some ↦ elim (waits-from_after x effects w (ap (waits x) (sym waiting) ∙ some)) [
          | inl before ↦ omega (arith, was, grows, ap one_if some, ap one_if before)
          | inr asks ↦ let more = counts.asks s o may asks in omega (arith, was, more, ap one_if some)
        ]
      ]

  in_turn : (s : RunState) (j : ℕ) → IsOrderly scenario.params.nodes s → MayTurn s j → SentSoOften s → SentSoOften (after_turn scenario j s)
  in_turn s j o may h =
      let trace = ap (count_by (sent_by x i)) (after_turn-trace scenario j s) in
      let grows = counts.turn s j o may in
      let most = h.most in
      record {
        most = omega (arith, trace, grows, most);
        running = λ on. elim (cases_eq i j) [
          | inr other ↦
              let node = after_turn-other scenario j s i other in
              let was = h.running (sym (ap (λ (k : NodeState). runs k) node) ∙ on) in
              let waiting = ap (λ (k : NodeState). one_if (waits x k.waiting)) node in
              omega (arith, trace, grows, was, waiting)
          | inl same ↦
              let own = in_own s o (subst (MayTurn s) (sym same) may) h in
              let here : count_by (sent_by x i) s.trace + one_if (waits x (node_at (after_turn scenario j s).nodes i).waiting) ≤ n (after_turn scenario j s) =
              subst (λ k. count_by (sent_by x i) s.trace + one_if (waits x (node_at (after_turn scenario k s).nodes i).waiting) ≤ n (after_turn scenario k s))
              same own in
              omega (arith, trace, here)
        ];
      }

  at_first : SentSoOften (opening scenario.params.nodes)
  at_first = record {
    most = omega arith;
    running = λ on.
        let node = node_at-opening scenario.params.nodes i (opening_within scenario.params.nodes i on) in
        let none : waits x (node_at (opening scenario.params.nodes).nodes i).waiting ≡ false = ap (λ (k : NodeState). waits x k.waiting) node in
        omega (arith, ap one_if none);
  }

  so_often : (journal : List Step) → SentSoOften (run scenario journal)
  so_often =
      along_run scenario SentSoOften at_first (record {
        slot = λ s o may h. in_slot (script scenario.rules) s o h;
        restarts = λ s o some h. at_restart s o h;
        turn = λ s j o may h. in_turn s j o may h;
      })

  pub sent_so_often : (journal : List Step) → count_by (sent_by x i) (run scenario journal).trace ≤ n (run scenario journal)
  sent_so_often journal = (so_often journal).most

-- a frame that no turn of the node asks for, it never sends
pub never_sent : (scenario : ScenarioParts) (x : Identity) (i : ℕ)
    → ((s : RunState) → IsOrderly scenario.params.nodes s → MayTurn s i
    → Among (Asks x) (turn_effects (scenario_at scenario s i) i (next_notice s i ∷ history i s)) → ⊥)
    → (journal : List Step) → count_by (sent_by x i) (run scenario journal).trace ≡ 0
never_sent scenario x i never journal =
    let none = sent_so_often scenario x i (λ s. 0)
    (record {
      slot = λ rules s o. omega arith;
      restarts = λ s o. omega arith;
      turn = λ s j o may. omega arith;
      asks = λ s o may asks. absurd (never s o may asks);
    })
    journal in
    omega (arith, none)

-- what is no node sends nothing
pub absent_never_sends : (scenario : ScenarioParts) (x : Identity) (i : ℕ) → scenario.params.nodes ≤ i → (journal : List Step)
    → count_by (sent_by x i) (run scenario journal).trace ≡ 0
absent_never_sends scenario x i past =
    never_sent scenario x i (λ s o may asks. let below = may.there in let count = o.count in absurd (omega (arith, below, count, past)))

-- ---- how many slots a node has read

pub reads_turn : (scenario : ScenarioParts) (s : RunState) (i j : ℕ) → MayTurn s j → (node_at s.nodes j).unread ≤ length s.trace
    → reads s i ≤ reads (after_turn scenario j s) i
reads_turn scenario s i j may short = elim (cases_eq i j) [
  | inl same ↦ subst (λ k. reads s k ≤ reads (after_turn scenario j s) k) (sym same) (omega (arith, turn_reads scenario s j may short))
  | inr other ↦ omega (arith, same_reads s (after_turn scenario j s) i (same_after_turn scenario s j i other))
]

-- ---- each slot that carries it Clean has a sender

passes_counts : (t : SlotNote → Bool) (T : List SlotNote) (p : ℕ) → p < length T → Passes t T p → 0 < count_by t T
passes_counts t T p below h = count-from_Among t T (Among-get_or (λ note. t note ≡ true) T p no_note below h)

module _ (scenario : ScenarioParts) (few : scenario.params.nodes ≤ most_nodes) (x : Identity) where
  -- a node that sent it, for each slot that carried it Clean
  abbrev HasSenders : List SlotNote → Type 0
  HasSenders T = (p : ℕ) → Passes (carries_clean x) T p → (i : ℕ) × (i < scenario.params.nodes) × Passes (sent_by x i) T p

  slot_sender : (rules : FaultScript) (s : RunState) → IsOrderly scenario.params.nodes s → HasSenders s.trace → HasSenders (slot_note_of rules s ∷ s.trace)
  slot_sender rules s o h (suc p) clean = let w = h p clean in (w.0, w.1, w.2)
  slot_sender rules s o h zero clean =
      let note : SlotNote = slot_note_of rules s in
      let parts = and_parts (carries x note) (is_clean note.verdict) clean in
      let c = carries-true x note parts.0 in
      let offered = note_of-offered rules s c.what c.frame in
      let within = runs_within s.nodes offered.node offered.running in
      let count = o.count in
      let below : offered.node < scenario.params.nodes = omega (arith, within, count) in
      let sent = has_sent rules s c.what c.frame parts.1 offered (omega (arith, below, few)) in
      (offered.node, below, ap (is_sent x) sent ∙ same_identity-from x (identity_of c.what) c.identity)

  senders : (journal : List Step) → HasSenders (run scenario journal).trace
  senders =
      along_run scenario (λ s. HasSenders s.trace)
      (λ p clean. let there = carried_there x [] p (clean_carried x (note_at [] p) clean) in absurd (omega (arith, there)))
      (record {
        slot = λ s o may h. subst HasSenders (sym (after_slot-trace (script scenario.rules) s)) (slot_sender (script scenario.rules) s o h);
        restarts = λ s o some h. subst HasSenders (sym (after_restarts-trace scenario s)) h;
        turn = λ s i o may h. subst HasSenders (sym (after_turn-trace scenario i s)) h;
      })

  -- a frame that one node alone sends is carried Clean no more often than this node sends it
  pub by_one_node : (journal : List Step) (at : ℕ) → ((i : ℕ) → (i ≡ at → ⊥) → count_by (sent_by x i) (run scenario journal).trace ≡ 0)
      → times_clean x (run scenario journal).trace ≤ count_by (sent_by x at) (run scenario journal).trace
  by_one_node journal at never =
      let T : List SlotNote = (run scenario journal).trace in
      count_weaker (carries_clean x) (sent_by x at) T (λ p clean.
      let w = senders journal p clean in
      elim (cases_eq w.0 at) [
        | inl same ↦ subst (λ i. Passes (sent_by x i) T p) same w.2
        | inr other ↦
            let below = carried_there x T p (clean_carried x (note_at T p) clean) in
            absurd (omega (arith, passes_counts (sent_by x w.0) T p below w.2, never w.0 other))
      ])
