-- The steps that can be made while a run has not ended.
use Rattle.std.proofs.Common.{◌≡◌, ℕ, ◌+◌, ◌-◌, ◌*◌, ◌<◌, ◌&&◌, Bool, true, false, not, List, [], ◌∷◌, ◌++◌, length, refl, sym, ap, ◌∙◌, subst, inl, inr, arith}
use Rattle.std.specs.Prelude.{nat_lt, nat_le, reverse, Option, Some, None, is_some, is_none, if◌then◌else◌}
use Rattle.std.proofs.lemmas.Bool.{cases_lt, false≢true, le-ltb, leb-false, lt-ltb}
use Rattle.std.proofs.lemmas.List.{length-append, length-reverse}
use Rattle.cany_base.specs.declared.slot_note.SlotNote.{SlotNote}
use Rattle.cany_base.specs.declared.step.Step.{Step}
use Rattle.cany_base.specs.declared.step.Step.TheVariants.{Slot, Turn}
use Rattle.cany_base.specs.Scenario.{ScenarioParts}
use Rattle.cany_model.specs.declared.reply.StepReply.{StepReply}
use Rattle.cany_model.specs.Runs.RoundRobin.{is_to_read}
use Rattle.cany_model.specs.Runs.Run.{IsLegal, all_read, has_ended, is_done, reply, run}
use Rattle.cany_model.specs.Bus.State.{NodeState, RunState, node_at, reads, runs, slots_run}
use Rattle.cany_model.proofs.Runs.Journals.{legal_push, legal_short}
use Rattle.cany_model.proofs.Runs.Rounds.{may_read}
use Rattle.cany_model.proofs.Runs.Runs.{orderly, slot_is_done, turn_done, turn_is_done}
use Rattle.cany_model.proofs.Bus.States.{runs_within}
use Rattle.cany_world.specs.World.{WorldParts, state_of}
use Rattle.cany_model.proofs.Runs.RoundRobinEnds.{all_have_read, none_to_read}

-- ---- what is unread

-- a node has read fewer slots than ran exactly where it has an unread notice
pub unread_is : (scenario : ScenarioParts) (journal : List Step) (i : ℕ) → let s = run scenario journal in
    nat_lt (reads s i) (slots_run s) ≡ nat_lt 0 (node_at s.nodes i).unread
unread_is scenario journal i =
    let s : RunState = run scenario journal in
    let few = (orderly scenario journal).unread i in
    elim (cases_lt 0 (node_at s.nodes i).unread) [
      | inl some ↦ lt-ltb (reads s i) (slots_run s) (omega (arith, some, few)) ∙ sym (lt-ltb 0 (node_at s.nodes i).unread some)
      | inr none ↦ le-ltb (reads s i) (slots_run s) (omega (arith, none)) ∙ sym (le-ltb 0 (node_at s.nodes i).unread none)
    ]

-- whether a node has something to read, by its two parts
pub stopped_reads : (node : NodeState) → runs node ≡ false → is_to_read node ≡ false
stopped_reads node stopped = ap (λ b. b && nat_lt 0 node.unread) stopped

pub running_reads : (node : NodeState) → runs node ≡ true → is_to_read node ≡ nat_lt 0 node.unread
running_reads node running = ap (λ b. b && nat_lt 0 node.unread) running

none_is : (o : Option ℕ) (b : Bool) → is_some o ≡ not b → b ≡ true → is_none o ≡ true
none_is None b h e = refl
none_is (Some slot) b h e = absurd (false≢true (sym (h ∙ ap not e)))

-- the test of a node that runs, by what a world answers
pub unread_test : (scenario : ScenarioParts) (journal : List Step) (i : ℕ) (stopped : Option ℕ) (b : Bool) (read : ℕ) (notes : List SlotNote)
    → let s = run scenario journal in stopped ≡ (node_at s.nodes i).stopped → is_some stopped ≡ not b → b ≡ true → read ≡ reads s i → reverse notes ≡ s.trace
    → nat_lt read (length notes) ≡ is_to_read (node_at s.nodes i)
unread_test scenario journal i stopped b read notes same some none is newest =
    let s : RunState = run scenario journal in
    let running : runs (node_at s.nodes i) ≡ true = subst (λ o. is_none o ≡ true) same (none_is stopped b some none) in
    let long : length notes ≡ slots_run s = sym (length-reverse notes) ∙ ap (λ (t : List SlotNote). length t) newest in
    ap (λ n. nat_lt n (length notes)) is ∙ ap (λ n. nat_lt (reads s i) n) long ∙ unread_is scenario journal i
    ∙ sym (running_reads (node_at s.nodes i) running)

-- ---- steps that are done

pub turn_can_be : (scenario : ScenarioParts) (journal : List Step) (i : ℕ) → is_to_read (node_at (run scenario journal).nodes i) ≡ true
    → is_done (reply scenario (run scenario journal) (Turn i)) ≡ true
turn_can_be scenario journal i reads =
    turn_is_done scenario (run scenario journal) i (orderly scenario journal).count (may_read (run scenario journal) i reads)

pub turn_within : (scenario : ScenarioParts) (journal : List Step) (i : ℕ) → is_done (reply scenario (run scenario journal) (Turn i)) ≡ true
    → i < scenario.params.nodes
turn_within scenario journal i done =
    let count = (orderly scenario journal).count in
    let there = (turn_done scenario (run scenario journal) i count done).there in
    omega (arith, count, there)

pub turn_push : (scenario : ScenarioParts) (journal : List Step) (i : ℕ) → IsLegal scenario journal → is_to_read (node_at (run scenario journal).nodes i) ≡ true
    → IsLegal scenario (journal ++ Turn i ∷ [])
turn_push scenario journal i legal reads = legal_push scenario journal (Turn i) legal (turn_can_be scenario journal i reads)

-- where no node has something to read, the next slot can run, unless all ran
pub slot_can_be : (scenario : ScenarioParts) (journal : List Step)
    → ((i : ℕ) → i < scenario.params.nodes → is_to_read (node_at (run scenario journal).nodes i) ≡ false)
    → has_ended scenario (run scenario journal) ≡ false → is_done (reply scenario (run scenario journal) Slot) ≡ true
slot_can_be scenario journal none goes_on =
    let s : RunState = run scenario journal in
    let count = (orderly scenario journal).count in
    let read : (i : ℕ) → runs (node_at s.nodes i) ≡ true → (node_at s.nodes i).unread ≡ 0 =
    λ i running. let within = runs_within s.nodes i running in none_to_read (node_at s.nodes i) (none i (omega (arith, within, count))) running in
    let left : nat_le scenario.params.slots (slots_run s) ≡ false = not_all (nat_le scenario.params.slots (slots_run s)) (all_read s) (all_have_read s read) goes_on in
    slot_is_done scenario s (record {
      room = leb-false scenario.params.slots (slots_run s) left;
      lag = λ i running. omega (arith, read i running);
    })
  where
    not_all : (b all : Bool) → all ≡ true → (b && all) ≡ false → b ≡ false
    not_all true all e h = absurd (false≢true (sym h ∙ e))
    not_all false all e h = refl

pub slot_push : (scenario : ScenarioParts) (journal : List Step) → IsLegal scenario journal
    → ((i : ℕ) → i < scenario.params.nodes → is_to_read (node_at (run scenario journal).nodes i) ≡ false)
    → has_ended scenario (run scenario journal) ≡ false → IsLegal scenario (journal ++ Slot ∷ [])
slot_push scenario journal legal none goes_on = legal_push scenario journal Slot legal (slot_can_be scenario journal none goes_on)

-- ---- how many steps are left

pub steps_left : ScenarioParts → List Step → ℕ
steps_left scenario journal = scenario.params.slots * (scenario.params.nodes + 1) - length journal

pub fewer_left : (scenario : ScenarioParts) (journal after : List Step) (step : Step) → IsLegal scenario (journal ++ step ∷ []) → after ≡ journal ++ step ∷ []
    → steps_left scenario after < steps_left scenario journal
unfolding steps_left
fewer_left scenario journal after step legal e =
    let long : length after ≡ length journal + 1 = ap length e ∙ length-append journal (step ∷ []) in
    let short = legal_short scenario (journal ++ step ∷ []) legal in
    let same : length (journal ++ step ∷ []) ≡ length journal + 1 = length-append journal (step ∷ []) in
    omega (arith, long, short, same)

-- a step that was made leaves fewer
pub made_leaves_fewer : (world new : WorldParts) (step made : Step) (r : StepReply) → made ≡ step → r ≡ reply world.scenario (state_of world) made
    → is_done (reply world.scenario (state_of world) step) ≡ true → IsLegal world.scenario (world.journal ++ step ∷ [])
    → new ≡ (if is_done r then record world { journal = world.journal ++ made ∷ [] } else world)
    → steps_left new.scenario new.journal < steps_left world.scenario world.journal
made_leaves_fewer world new step made r same replied done legal is =
    let was : is_done r ≡ true = ap is_done (replied ∙ ap (reply world.scenario (state_of world)) same) ∙ done in
    let now : new ≡ record world { journal = world.journal ++ made ∷ [] } = rw was at is in
    let journal : new.journal ≡ world.journal ++ step ∷ [] =
    ap (λ (w : WorldParts). w.journal) now ∙ ap (λ (s : Step). world.journal ++ s ∷ []) same in
    let scenario : new.scenario ≡ world.scenario = ap (λ (w : WorldParts). w.scenario) now in
    subst (λ (s : ScenarioParts). steps_left s new.journal < steps_left world.scenario world.journal) (sym scenario)
    (fewer_left world.scenario world.journal new.journal step legal journal)
