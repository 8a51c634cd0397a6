-- When vectors are carried, and by whom: after the start of their cycle, no later than the lag
-- allows after its exchange, and by the node that they name.
use Rattle.std.proofs.Common.{◌≡◌, ℕ, zero, suc, ◌+◌, ◌-◌, ◌*◌, ◌<◌, ◌≤◌, inl, inr, true, List, [], ◌∷◌, ◌++◌, drop, length, Some, ap, sym, ◌∙◌, subst, arith, length-append}
use Rattle.std.specs.List.{AllByRecursion}
use Rattle.std.proofs.Math.Seq.{drop-append_seam}
use Rattle.std.proofs.lemmas.Bool.{cases_lt}
use Rattle.std.proofs.lemmas.List.{nil_from_length}
use Rattle.cany_base.specs.Limits.{most_nodes}
use Rattle.cany_base.specs.declared.class.Class.TheVariants as class
use Rattle.cany_base.specs.declared.notice.NoticeKind.{NoticeKind}
use Rattle.cany_base.specs.declared.slot_note.SlotNote.{SlotNote}
use Rattle.cany_base.specs.declared.step.Step.{Step}
use Rattle.cany_base.specs.Frame.{FrameParts}
use Rattle.cany_base.specs.Nodes.{AllBelow, has}
use Rattle.cany_base.specs.Params.{MeetsFormulas, Parameters}
use Rattle.cany_base.specs.Scenario.{ScenarioParts}
use Rattle.cany_model.specs.Bus.History.{seen}
use Rattle.cany_model.specs.Runs.Run.{run, is_done, reply}
use Rattle.cany_model.specs.Bus.Slot.{FaultScript, script, slot_note_of}
use Rattle.cany_model.specs.Bus.State.{NodeState, RunState, node_at, runs}
use Rattle.cany_base.specs.declared.step.Step.TheVariants as step
use Rattle.cany_model.specs.Rules.Turn.{scenario_for}
use Rattle.cany_model.specs.Rules.Vectors.{rha_of}
use Rattle.cany_model.proofs.Among.{Among-from_Contains, Each-of}
use Rattle.cany_model.proofs.Bus.Notes.{note_of-offered, waiting_sends}
use Rattle.cany_model.proofs.Runs.Runs.{MaySlot, history-length, orderly, slot_done}
use Rattle.cany_model.proofs.Bus.Seen.{history-is}
use Rattle.cany_model.proofs.Runs.SlotStates.{slot_has_state, slot_state-trace, slot_state_is}
use Rattle.cany_model.proofs.Bus.States.{note_at, runs_within}
use Rattle.cany_model.proofs.Promises.Diffusion.{past_of}
use Rattle.cany_model.proofs.Promises.EachNode.{each_running, waiting_has}
use Rattle.cany_model.proofs.Rules.ProtocolFacts.{MayAsk, vector_asked}
use Rattle.cany_model.proofs.Timed.Views.VectorBudget.{BudgetKept, budget_kept}
use Rattle.cany_model.proofs.Timed.Views.VectorHeld.{held_some}
use Rattle.cany_model.proofs.Timed.Views.VectorLastEffect.{IsCycle}
use Rattle.cany_model.proofs.Timed.Common.LastEffect.{held}

-- ---- a vector that waits

-- it is the node's own, of a cycle that has a start
abbrev pub IsOwnVector : ℕ → FrameParts → Type 0
IsOwnVector i f = f.class ≡ class.Rha → (f.node ≡ i) × (0 < f.number)

asks_own : (scenario : ScenarioParts) (i : ℕ) (past : List NoticeKind) (f : FrameParts) → MayAsk scenario i past f → IsOwnVector i f
asks_own scenario i past f may rha =
    let asks = vector_asked scenario i past f may rha in
    let number = ap (λ (g : FrameParts). g.number) asks.frame in
    (sym (ap (λ (g : FrameParts). g.node) asks.frame), omega (arith, number, asks.sends.cycle))

pub own_vectors : (scenario : ScenarioParts) (journal : List Step) (i : ℕ) → runs (node_at (run scenario journal).nodes i) ≡ true
    → AllByRecursion (IsOwnVector i) (node_at (run scenario journal).nodes i).waiting
own_vectors scenario journal i running =
    each_running scenario _
    (waiting_has scenario (λ inc i f. IsOwnVector i f) (λ inc i past f may. asks_own (scenario_for scenario inc) i past f may)) journal i running

-- ---- a slot that carries one

pub cycle_of_formulas : (p : Parameters) → MeetsFormulas p → (k : ℕ) → 0 < k → IsCycle p k
cycle_of_formulas p f k some = record { some = some; exchanged = omega (arith, f.bound); long = omega (arith, f.bound, f.cycle) }

-- the slot that runs once these have run
pub record IsCycleSlot (p : Parameters) (trace : List SlotNote) (note : SlotNote) (f : FrameParts) : Type 0 where
  pub some : 0 < f.number
  pub from : f.number * p.cycle < length trace
  pub to : length trace ≤ f.number * p.cycle + (p.bound + p.lag)
  pub node : f.node < p.nodes
  pub sender : has note.senders f.node ≡ true

-- a node that waits with its vector of a cycle has read the start and not yet the end of the
-- exchange
waits_within : (scenario : ScenarioParts) (k i : ℕ) (trace : List SlotNote) (past : List NoticeKind) (w : List FrameParts)
    → BudgetKept scenario k i trace past w → (held (rha_of k i) w ≡ [] → ⊥)
    → (k * scenario.params.cycle < length past) × (length past ≤ k * scenario.params.cycle + scenario.params.bound)
waits_within scenario k i trace past w h some =
    elim (cases_lt (k * scenario.params.cycle) (length past)) [
      | inr early ↦ absurd (some (nil_from_length (held (rha_of k i) w) (omega (arith, h.early early))))
      | inl from ↦ elim (cases_lt (k * scenario.params.cycle + scenario.params.bound) (length past)) [
        | inl late ↦ absurd (some (h.late late).1)
        | inr to ↦ (from, to)
      ]
    ]

pub carried_in : (scenario : ScenarioParts) (journal : List Step) → scenario.params.nodes ≤ most_nodes → MeetsFormulas scenario.params
    → AllBelow scenario.params.nodes scenario.members → MaySlot scenario (run scenario journal) → (f : FrameParts)
    → (slot_note_of (script scenario.rules) (run scenario journal)).frame ≡ Some f → f.class ≡ class.Rha
    → IsCycleSlot scenario.params (run scenario journal).trace (slot_note_of (script scenario.rules) (run scenario journal)) f
carried_in scenario journal few formulas first may f frame rha =
    let p : Parameters = scenario.params in
    let s : RunState = run scenario journal in
    let rules : FaultScript = script scenario.rules in
    let o = orderly scenario journal in
    let offer = note_of-offered rules s f frame in
    let i : ℕ = offer.node in
    let node : NodeState = node_at s.nodes i in
    let own =
    Each-of (IsOwnVector i) f node.waiting (own_vectors scenario journal i offer.running) (Among-from_Contains node.waiting f offer.waits) rha in
    let kept = budget_kept scenario journal few f.number (cycle_of_formulas p formulas f.number own.1) first i offer.running in
    let read : length (past_of i (seen node.present s.trace) node) ≡ length s.trace - node.unread =
    sym (ap length (history-is i s)) ∙ history-length i s in
    let below : i < p.nodes = subst (λ n. i < n) o.count (runs_within s.nodes i offer.running) in
    let within = waits_within (scenario_for scenario node.present) f.number i (seen node.present s.trace) (past_of i (seen node.present s.trace) node)
    node.waiting kept (held_some (rha_of f.number i) f node.waiting (mine i own.0) offer.waits) in
    record {
      some = own.1;
      from = omega (arith, within.0, read);
      to = omega (arith, within.1, read, may.lag i offer.running, o.unread i);
      node = omega (arith, own.0, below);
      sender = subst (λ r. has (slot_note_of rules s).senders r ≡ true) (sym own.0)
          (waiting_sends rules s f i (omega (arith, below, few)) frame offer.running offer.waits);
    }
  where
    mine : (i : ℕ) → f.node ≡ i → rha_of f.number i ≡ record { class = f.class; number = f.number; node = f.node }
    mine i own d = record { class = sym rha d; number = f.number; node = sym own d }

-- ---- the slots of a run

-- the slot of this age was run in the state that the run of these steps comes to
pub record SlotAt (scenario : ScenarioParts) (trace : List SlotNote) (age : ℕ) : Type 0 where
  pub before : List Step
  pub may : MaySlot scenario (run scenario before)
  pub split : drop age trace ≡ slot_note_of (script scenario.rules) (run scenario before) ∷ (run scenario before).trace

state_at : (scenario : ScenarioParts) (trace : List SlotNote) (age : ℕ) (before : List Step) (s : RunState) → run scenario before ≡ s
    → is_done (reply scenario s step.Slot) ≡ true → (newer : List SlotNote) → trace ≡ newer ++ (slot_note_of (script scenario.rules) s ∷ s.trace)
    → length newer ≡ age → SlotAt scenario trace age
state_at scenario trace age before s is done newer whole at =
    let older : List SlotNote = slot_note_of (script scenario.rules) s ∷ s.trace in
    let split : drop age trace ≡ slot_note_of (script scenario.rules) s ∷ s.trace =
    ap (drop age) whole ∙ ap (λ n. drop n (newer ++ older)) (sym at) ∙ drop-append_seam newer older in
    record {
      before = before;
      may = subst (MaySlot scenario) {y = run scenario before} (sym is) (slot_done scenario s done);
      split = subst (λ (r : RunState). drop age trace ≡ slot_note_of (script scenario.rules) r ∷ r.trace) {y = run scenario before} (sym is) split;
    }

pub slot_at : (scenario : ScenarioParts) (journal : List Step) (age : ℕ) → age < length (run scenario journal).trace
    → SlotAt scenario (run scenario journal).trace age
slot_at scenario journal age there =
    let all : List SlotNote = (run scenario journal).trace in
    let t : ℕ = length all - suc age in
    let found = slot_has_state scenario t journal (omega (arith, there)) in
    let s : RunState = found.0 in
    let way = slot_state_is scenario t journal s found.1 in
    let split = slot_state-trace scenario t journal s found.1 in
    let size : length all ≡ length split.0 + suc (length s.trace) =
    ap length split.1 ∙ length-append split.0 (slot_note_of (script scenario.rules) s ∷ s.trace) in
    state_at scenario all age way.before s way.state way.done split.0 split.1 (omega (arith, size, way.number, there))

-- what stands at the front after so many are dropped
pub drop_at : (age : ℕ) (trace : List SlotNote) (note : SlotNote) (rest : List SlotNote) → drop age trace ≡ note ∷ rest
    → (note_at trace age ≡ note) × (length trace ≡ age + suc (length rest))
drop_at zero [] note rest h = absurd (cc)
drop_at zero (n ∷ trace) note rest h = (cc, omega (arith, ap length h))
drop_at (suc age) [] note rest h = absurd (cc)
drop_at (suc age) (n ∷ trace) note rest h = let r = drop_at age trace note rest h in (r.0, omega (arith, r.1))

-- the slot of this age carried the vector
pub record IsCycleAge (p : Parameters) (trace : List SlotNote) (age : ℕ) (f : FrameParts) : Type 0 where
  pub some : 0 < f.number
  pub from : f.number * p.cycle + suc age < length trace
  pub to : length trace ≤ f.number * p.cycle + (p.bound + p.lag) + suc age
  pub node : f.node < p.nodes
  pub sender : has (note_at trace age).senders f.node ≡ true

frame_there : (age : ℕ) (trace : List SlotNote) (f : FrameParts) → (note_at trace age).frame ≡ Some f → age < length trace
frame_there age [] f h = absurd (cc)
frame_there zero (note ∷ trace) f h = omega arith
frame_there (suc age) (note ∷ trace) f h = omega (arith, frame_there age trace f h)

pub cycle_age : (scenario : ScenarioParts) (journal : List Step) → scenario.params.nodes ≤ most_nodes → MeetsFormulas scenario.params
    → AllBelow scenario.params.nodes scenario.members → (age : ℕ) (f : FrameParts) → (note_at (run scenario journal).trace age).frame ≡ Some f
    → f.class ≡ class.Rha → IsCycleAge scenario.params (run scenario journal).trace age f
cycle_age scenario journal few formulas first age f frame rha =
    let all : List SlotNote = (run scenario journal).trace in
    let at = slot_at scenario journal age (frame_there age all f frame) in
    let s : RunState = run scenario at.before in
    let note : SlotNote = slot_note_of (script scenario.rules) s in
    let place = drop_at age all note s.trace at.split in
    let there : note.frame ≡ Some f = ap (λ (n : SlotNote). n.frame) (sym place.0) ∙ frame in
    let c = carried_in scenario at.before few formulas first at.may f there rha in
    record {
      some = c.some;
      from = omega (arith, c.from, place.1);
      to = omega (arith, c.to, place.1);
      node = c.node;
      sender = ap (λ (n : SlotNote). has n.senders f.node) place.0 ∙ c.sender;
    }
