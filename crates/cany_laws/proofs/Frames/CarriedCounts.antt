-- How often the bus carries one frame Clean: no more often than nodes, or their incarnations, send
-- it.
use Rattle.std.proofs.Common.{◌≡◌, ℕ, ◌≤◌, inl, inr, Bool, List, [], length, count_by, ap, sym, ◌∙◌, subst, arith}
use Rattle.std.proofs.lemmas.Bool.{cases_lt}
use Rattle.std.proofs.lemmas.List.{length-replicate}
use Rattle.cany_base.specs.declared.message.MsgKey.{MsgKey}
use Rattle.cany_base.specs.declared.slot_note.SlotNote.{SlotNote}
use Rattle.cany_base.specs.declared.step.Step.{Step}
use Rattle.cany_base.specs.Limits.{most_nodes}
use Rattle.cany_base.specs.Scenario.{ScenarioParts}
use Rattle.cany_model.specs.Bus.Frames.{Identity}
use Rattle.cany_model.specs.Bus.History.{given, is_sent}
use Rattle.cany_model.specs.Bus.Slot.{FaultScript, after_slot, script}
use Rattle.cany_model.specs.Bus.State.{fresh, NodeState, RunState, node_at, opening}
use Rattle.cany_model.specs.Rules.Messages.{accept_of_key}
use Rattle.cany_model.specs.Rules.Totcan.{tot_of_key}
use Rattle.cany_model.specs.Runs.Run.{run}
use Rattle.cany_model.proofs.Bus.States.{node_at-opening, node_at_past, note_at}
use Rattle.cany_model.proofs.Runs.Runs.{along_run}
use Rattle.cany_model.proofs.Runs.Steps.{after_slot-length}
use Rattle.cany_model.proofs.Timed.Common.Ages.{carries_clean, clean_carried}
use Rattle.cany_model.proofs.Timed.Common.Counting.{at_most_1, cover, total, total_most}
use Rattle.cany_model.proofs.Timed.Detector.NoRestarts.{restarts_none}
use Rattle.cany_model.proofs.Timed.Order.TotKept.{NoSilent, TraceKept}
use Rattle.cany_model.proofs.Timed.Order.TotRun.{tot_kept}
use Rattle.cany_laws.specs.Carried.{incarnations_of_first, times_clean}
use Rattle.cany_laws.proofs.KeptAlongJournal.{after_slot-ended, after_turn-ended}
use Rattle.cany_laws.proofs.Waiting.WaitTimes.{below_is, lives}

-- whether node i sent the frame in the slot
abbrev pub sent_by : Identity → ℕ → SlotNote → Bool
sent_by x i note = is_sent x (given i note)

-- ---- each slot that carries it Clean has a sender

module _ (scenario : ScenarioParts) (T : List SlotNote) (t : TraceKept scenario T) where
  pub by_senders : (x : Identity) → times_clean x T ≤ total (λ i. count_by (sent_by x i) T) scenario.params.nodes
  by_senders x = cover (carries_clean x) (sent_by x) scenario.params.nodes T (λ p clean. let s = t.sender p x clean in (s.0, s.1, s.2))

  one_data : (key : MsgKey) → times_clean (tot_of_key key) T ≤ 1
  one_data key = at_most_1 (carries_clean (tot_of_key key)) T (λ p q less a b. t.data_first p q key less (clean_carried (tot_of_key key) (note_at T p) a) b)

  each_accepts : (key : MsgKey) → times_clean (accept_of_key key) T ≤ scenario.params.nodes
  each_accepts key =
      let one = total_most (λ i. count_by (sent_by (accept_of_key key) i) T) 1
      (λ i. at_most_1 (sent_by (accept_of_key key) i) T (λ p q less a b. t.sent_once i p q key less a b)) scenario.params.nodes in
      omega (arith, by_senders (accept_of_key key), one)

-- ---- where no node can start again

slot_ended : (rules : FaultScript) (s : RunState) (i : ℕ) → length (node_at (after_slot rules s).nodes i).ended ≡ length (node_at s.nodes i).ended
slot_ended rules s i = elim (cases_lt i (length s.nodes)) [
  | inl below ↦ ap length (after_slot-ended rules s i below)
  | inr past ↦
      ap (λ (node : NodeState). length node.ended)
      (node_at_past (after_slot rules s).nodes i (omega (arith, past, after_slot-length rules s)) ∙ sym (node_at_past s.nodes i past))
]

none_ended : (scenario : ScenarioParts) → scenario.restarts ≡ [] → (journal : List Step) → (i : ℕ) → length (node_at (run scenario journal).nodes i).ended ≡ 0
none_ended scenario none =
    along_run scenario (λ s. (i : ℕ) → length (node_at s.nodes i).ended ≡ 0)
    (λ i. elim (cases_lt i scenario.params.nodes) [
      | inl below ↦ ap (λ (n : NodeState). length n.ended) (node_at-opening scenario.params.nodes i below)
      | inr past ↦
          ap (λ (n : NodeState). length n.ended)
          (node_at_past (opening scenario.params.nodes).nodes i (subst (λ n. n ≤ i) (sym (length-replicate scenario.params.nodes fresh)) past))
    ])
    (record {
      slot = λ s o may h i. slot_ended (script scenario.rules) s i ∙ h i;
      restarts = λ s o some h i. ap (λ (r : RunState). length (node_at r.nodes i).ended) (restarts_none scenario none s) ∙ h i;
      turn = λ s i o may h j. ap length (after_turn-ended scenario i s j may (o.unread i)) ∙ h j;
    })

pub incarnations_few : (scenario : ScenarioParts) → scenario.restarts ≡ [] → (journal : List Step) → (n : ℕ) → incarnations_of_first (run scenario journal) n ≤ n
incarnations_few scenario none journal n =
    let s : RunState = run scenario journal in
    let one = total_most (lives s) 1 (λ i. let e = none_ended scenario none journal i in omega (arith, e)) n in
    omega (arith, below_is n s, one)

pub data_once : (scenario : ScenarioParts) (journal : List Step) → scenario.params.nodes ≤ most_nodes → NoSilent (run scenario journal).trace
    → (key : MsgKey) → times_clean (tot_of_key key) (run scenario journal).trace ≤ 1
data_once scenario journal few plain key = one_data scenario (run scenario journal).trace (tot_kept scenario few journal plain).trace key

pub accepts_few : (scenario : ScenarioParts) (journal : List Step) → scenario.params.nodes ≤ most_nodes → NoSilent (run scenario journal).trace
    → (key : MsgKey) → times_clean (accept_of_key key) (run scenario journal).trace ≤ scenario.params.nodes
accepts_few scenario journal few plain key = each_accepts scenario (run scenario journal).trace (tot_kept scenario few journal plain).trace key
