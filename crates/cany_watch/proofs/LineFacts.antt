-- The line of a node grows with each step, and is the logs of the incarnations by their numbers.
use Rattle.std.proofs.Common.{◌≡◌, ◌≢◌, ℕ, zero, suc, ◌+◌, ◌-◌, ◌<◌, ◌≤◌, ◌==◌, ◌⊎◌, List, [], ◌∷◌, ◌++◌, length, length-append, map, drop, refl, ap, sym, subst, ◌∙◌, arith, inl, inr, append_assoc}
use Rattle.std.specs.Prelude.{true, find, if◌then◌else◌}
use Rattle.std.specs.List.{AllByRecursion, flat_map, range_with_len}
use Rattle.std.specs.Option.{option_map_or}
use Rattle.std.proofs.lemmas.Bool.{cases_eq, cases_Bool, eq-eqb, ne_eqb}
use Rattle.std.proofs.lemmas.List.{append-nil}
use mathlib.Core.List.{IsPrefix}
use Rattle.cany_base.specs.declared.log_entry.LogEntry.{LogEntry}
use Rattle.cany_base.specs.declared.notice.NoticeKind.{NoticeKind}
use Rattle.cany_base.specs.declared.slot_note.SlotNote.{SlotNote}
use Rattle.cany_base.specs.declared.step.Step.{Step}
use Rattle.cany_base.specs.declared.step.Step.TheVariants as step
use Rattle.cany_base.specs.Scenario.{ScenarioParts}
use Rattle.cany_model.specs.Bus.History.{ended_history, given, history, seen}
use Rattle.cany_model.specs.Bus.Restart.{after_restarts, ended_at, restarted}
use Rattle.cany_model.specs.Bus.Slot.{FaultScript, after_slot, script, slot_note_of}
use Rattle.cany_model.specs.Bus.State.{EndedIncarnation, Incarnation, NodeState, RunState, node_at, opening, reads, slots_run}
use Rattle.cany_model.specs.Rules.Effect.{entered}
use Rattle.cany_model.specs.Rules.Log.{log, log_from}
use Rattle.cany_model.specs.Rules.Turn.{scenario_for, turn_effects}
use Rattle.cany_model.specs.Runs.Incarnations.{incarnation_of, incarnations, log_of}
use Rattle.cany_model.specs.Runs.Run.{after_turn, is_done, proceed, reply, run}
use Rattle.cany_model.proofs.Bus.Restarts.{restarts_or_stays}
use Rattle.cany_model.proofs.Bus.Seen.{ended_history-present, history-is}
use Rattle.cany_model.proofs.Promises.EachNode.{restarted_new}
use Rattle.cany_model.proofs.Rules.IdleBeforeTakingPart.{IsBegun, begun_before}
use Rattle.cany_model.proofs.Rules.MutedFacts.{turn_muted}
use Rattle.cany_model.proofs.Runs.Journals.{run_push, step_is}
use Rattle.cany_model.proofs.Runs.Runs.{IsOrderly, orderly, orderly_restarts, orderly_slot, orderly_turn, turn_done}
use Rattle.cany_model.proofs.Runs.Steps.{MayTurn, after_slot-history, after_slot-trace, after_turn-history, after_turn-other, after_turn-trace, next_notice}
use Rattle.cany_world.proofs.Endings.{ended_later, ended_past}
use Rattle.cany_world.proofs.InOrder.{AllInOrder, AreInOrder, in_order, slot_same, turn_same}
use Rattle.cany_model.specs.declared.reply.StepReply.{StepReply}
use Rattle.cany_world.specs.World.{WorldParts, state_of}
use Rattle.cany_watch.specs.Lines.{Longer, line, line_of, nodes_of}
use Rattle.cany_watch.proofs.Prefixes.{prefix_self, prefix_trans}

-- ---- the logs of the incarnations as a list, the newest first

unfoldable logs_of : ScenarioParts → ℕ → List SlotNote → List EndedIncarnation → List LogEntry
logs_of scenario i trace [] = []
logs_of scenario i trace (e ∷ earlier) =
    logs_of scenario i trace earlier ++ log_from (scenario_for scenario e.incarnation) i (ended_history i trace e)

abbrev listed : ScenarioParts → RunState → ℕ → List LogEntry
listed scenario s i = logs_of scenario i s.trace (incarnations s i)

-- the log of the present incarnation stands behind those of the earlier ones
line_is : (scenario : ScenarioParts) (s : RunState) (i : ℕ) → (node_at s.nodes i).unread ≤ length s.trace
    → listed scenario s i ≡ logs_of scenario i s.trace (node_at s.nodes i).ended ++ log_from (scenario_for scenario (node_at s.nodes i).present) i (history i s)
unfolding logs_of
line_is scenario s i short =
    ap (λ past. logs_of scenario i s.trace (node_at s.nodes i).ended ++ log_from (scenario_for scenario (node_at s.nodes i).present) i past) (ended_history-present i s short)

-- a slot that runs later changes nothing in those that ended
logs_later : (scenario : ScenarioParts) (i : ℕ) (note : SlotNote) (trace : List SlotNote) (ended : List EndedIncarnation)
    → AllByRecursion (λ e. e.next ≤ length trace) ended → logs_of scenario i (note ∷ trace) ended ≡ logs_of scenario i trace ended
unfolding logs_of
logs_later scenario i note trace [] within = refl
logs_later scenario i note trace (e ∷ earlier) within =
    ap (λ logs. logs ++ log_from (scenario_for scenario e.incarnation) i (ended_history i (note ∷ trace) e)) (logs_later scenario i note trace earlier within.1)
    ∙ ap (λ past. logs_of scenario i trace earlier ++ log_from (scenario_for scenario e.incarnation) i past) (ended_later i note trace e within.0)

-- ---- a slot

slot_line : (scenario : ScenarioParts) (rules : FaultScript) (s : RunState) (i : ℕ) → i < length s.nodes → IsOrderly scenario.params.nodes s → AllInOrder s
    → listed scenario (after_slot rules s) i ≡ listed scenario s i
slot_line scenario rules s i below o order =
    let after : RunState = after_slot rules s in
    let same = slot_same rules s i in
    let o' = orderly_slot scenario.params.nodes rules s o in
    line_is scenario after i (o'.unread i)
    ∙ ap (λ past. logs_of scenario i after.trace (node_at after.nodes i).ended ++ log_from (scenario_for scenario (node_at after.nodes i).present) i past) (after_slot-history rules s i below)
    ∙ ap (λ (inc : Incarnation). logs_of scenario i after.trace (node_at after.nodes i).ended ++ log_from (scenario_for scenario inc) i (history i s)) same.present
    ∙ ap (λ ended. logs_of scenario i after.trace ended ++ log_from (scenario_for scenario (node_at s.nodes i).present) i (history i s)) same.ended
    ∙ ap (λ trace. logs_of scenario i trace (node_at s.nodes i).ended ++ log_from (scenario_for scenario (node_at s.nodes i).present) i (history i s)) (after_slot-trace rules s)
    ∙ ap (λ logs. logs ++ log_from (scenario_for scenario (node_at s.nodes i).present) i (history i s)) (logs_later scenario i (slot_note_of rules s) s.trace (node_at s.nodes i).ended (order i).past)
    ∙ sym (line_is scenario s i (o.unread i))

-- ---- the restarts at its end

-- a node that has only begun has entered nothing
begun_log : (scenario : ScenarioParts) (i : ℕ) (past : List NoticeKind) → IsBegun scenario past → log_from scenario i past ≡ []
unfolding log_from entered
begun_log scenario i [] begun = refl
begun_log scenario i (e ∷ before) begun = rw (begun_log scenario i before (begun_before scenario e before begun), turn_muted scenario i (e ∷ before) begun) refl

-- a node that starts again has entered nothing since, and its earlier logs stay
restarts_line : (scenario : ScenarioParts) (s : RunState) (i : ℕ) → IsOrderly scenario.params.nodes s → 0 < length s.trace
    → listed scenario (after_restarts scenario s) i ≡ listed scenario s i
unfolding logs_of after_restarts
restarts_line scenario s i o some = elim (restarts_or_stays scenario s i) [
  | inl new ↦
      let slot = slots_run s - 1 in
      let node = node_at s.nodes i in
      let to : RunState = after_restarts scenario s in
      let begun : NodeState = node_at to.nodes i in
      let past = ended_past i slot s.trace node (omega (arith, some)) (o.unread i) ∙ sym (history-is i s) in
      let earlier : listed scenario s i ≡ logs_of scenario i s.trace (ended_at slot node ∷ node.ended) =
      line_is scenario s i (o.unread i) ∙ ap (λ h. logs_of scenario i s.trace node.ended ++ log_from (scenario_for scenario node.present) i h) (sym past) in
      let none : log_from (scenario_for scenario begun.present) i (history i to) ≡ [] =
      ap (log_from (scenario_for scenario begun.present) i) (history-is i to)
      ∙ begun_log (scenario_for scenario begun.present) i (map (given i) (drop begun.unread (seen begun.present s.trace))) (restarted_new scenario s i o some new).past in
      line_is scenario to i ((orderly_restarts scenario.params.nodes scenario s o).unread i)
      ∙ ap (λ l. logs_of scenario i s.trace begun.ended ++ l) none
      ∙ append-nil (logs_of scenario i s.trace begun.ended)
      ∙ ap (λ (n : NodeState). logs_of scenario i s.trace n.ended) new.is ∙ sym earlier
  | inr same ↦
      ap (λ (n : NodeState). logs_of scenario i s.trace (record { incarnation = n.present; next = length s.trace - n.unread; stopped = n.stopped } ∷ n.ended)) same
]

-- ---- a turn

-- what the turn of a node makes longer: its line by what its log gets
record TurnAdds (scenario : ScenarioParts) (k : ℕ) (s : RunState) : Type 0 where
  new : List LogEntry
  line : listed scenario s k ++ new ≡ listed scenario (after_turn scenario k s) k
  log : log scenario s k ++ new ≡ log scenario (after_turn scenario k s) k

turn_line : (scenario : ScenarioParts) (k : ℕ) (s : RunState) → MayTurn s k → (node_at s.nodes k).unread ≤ length s.trace → (node_at (after_turn scenario k s).nodes k).unread ≤ length s.trace
    → TurnAdds scenario k s
unfolding log_from
turn_line scenario k s may short short' =
    let after : RunState = after_turn scenario k s in
    let same = turn_same scenario k s k may short in
    let earlier = logs_of scenario k s.trace (node_at s.nodes k).ended in
    let own = scenario_for scenario (node_at s.nodes k).present in
    let new = entered (turn_effects own k (next_notice s k ∷ history k s)) in
    let log_is : log_from (scenario_for scenario (node_at after.nodes k).present) k (history k after) ≡ log_from own k (history k s) ++ new =
    ap (λ past. log_from (scenario_for scenario (node_at after.nodes k).present) k past) (after_turn-history scenario k s may short)
    ∙ ap (λ (inc : Incarnation). log_from (scenario_for scenario inc) k (next_notice s k ∷ history k s)) same.present in
    let is : listed scenario after k ≡ earlier ++ (log_from own k (history k s) ++ new) =
    line_is scenario after k (subst (λ trace. (node_at after.nodes k).unread ≤ length trace) (sym (after_turn-trace scenario k s)) short')
    ∙ ap (λ l. logs_of scenario k after.trace (node_at after.nodes k).ended ++ l) log_is
    ∙ ap (λ ended. logs_of scenario k after.trace ended ++ (log_from own k (history k s) ++ new)) same.ended
    ∙ ap (λ trace. logs_of scenario k trace (node_at s.nodes k).ended ++ (log_from own k (history k s) ++ new)) (after_turn-trace scenario k s) in
    record {
      new = new;
      line = ap (λ l. l ++ new) (line_is scenario s k short) ∙ append_assoc earlier (log_from own k (history k s)) new ∙ sym is;
      log = sym log_is;
    }

-- of another node it changes nothing
other_listed : (scenario : ScenarioParts) (k : ℕ) (s : RunState) (i : ℕ) → i ≢ k → listed scenario (after_turn scenario k s) i ≡ listed scenario s i
unfolding after_turn
other_listed scenario k s i other =
    ap (λ (n : NodeState). logs_of scenario i s.trace (record { incarnation = n.present; next = length s.trace - n.unread; stopped = n.stopped } ∷ n.ended)) (after_turn-other scenario k s i other)

-- ---- a step that is done

slot_listed : (scenario : ScenarioParts) (s : RunState) (i : ℕ) → i < length s.nodes → IsOrderly scenario.params.nodes s → AllInOrder s
    → listed scenario (proceed scenario s step.Slot) i ≡ listed scenario s i
unfolding proceed
slot_listed scenario s i below o order =
    let rules : FaultScript = script scenario.rules in
    let after : RunState = after_slot rules s in
    let some : 0 < length after.trace = subst (λ trace. 0 < length trace) (sym (after_slot-trace rules s)) (omega arith) in
    restarts_line scenario after i (orderly_slot scenario.params.nodes rules s o) some ∙ slot_line scenario rules s i below o order

turn_listed : (scenario : ScenarioParts) (k : ℕ) (s : RunState) → IsOrderly scenario.params.nodes s → is_done (reply scenario s (step.Turn k)) ≡ true → TurnAdds scenario k s
unfolding after_turn
turn_listed scenario k s o done =
    let may = turn_done scenario s k o.count done in
    turn_line scenario k s may (o.unread k) ((orderly_turn scenario.params.nodes scenario k s may o).unread k)

proceed_line : (scenario : ScenarioParts) (s : RunState) (made : Step) (i : ℕ) → i < length s.nodes → IsOrderly scenario.params.nodes s → AllInOrder s → is_done (reply scenario s made) ≡ true
    → IsPrefix (listed scenario s i) (listed scenario (proceed scenario s made) i)
unfolding proceed
proceed_line scenario s step.Slot i below o order done =
    subst (IsPrefix (listed scenario s i)) (sym (slot_listed scenario s i below o order)) (prefix_self (listed scenario s i))
proceed_line scenario s (step.Turn k) i below o order done =
    elim (cases_eq i k) [
      | inl same ↦
          let adds = turn_listed scenario k s o done in
          subst (λ n. IsPrefix (listed scenario s n) (listed scenario (after_turn scenario k s) n)) (sym same) (adds.new, adds.line)
      | inr other ↦ subst (IsPrefix (listed scenario s i)) (sym (other_listed scenario k s i other)) (prefix_self (listed scenario s i))
    ]

-- a node that the step leaves: by a slot each, by a turn each other, and that one too where its log
-- got no entry
abbrev pub Leaves : Step → ScenarioParts → RunState → RunState → ℕ → Type 0
Leaves step.Slot scenario s s' i = Unit {0}
Leaves (step.Turn k) scenario s s' i = (i ≢ k) ⊎ (length (log scenario s' i) ≡ length (log scenario s i))

nothing_more : {A : Type 0} (xs new ys : List A) → xs ++ new ≡ ys → length ys ≡ length xs → new ≡ []
nothing_more xs [] ys is same = refl
nothing_more xs (x ∷ new) ys is same = absurd (omega (arith, same, ap length is, length-append xs (x ∷ new)))

proceed_left : (scenario : ScenarioParts) (s : RunState) (made : Step) (i : ℕ) → i < length s.nodes → IsOrderly scenario.params.nodes s → AllInOrder s → is_done (reply scenario s made) ≡ true
    → Leaves made scenario s (proceed scenario s made) i → listed scenario (proceed scenario s made) i ≡ listed scenario s i
unfolding proceed
proceed_left scenario s step.Slot i below o order done left = slot_listed scenario s i below o order
proceed_left scenario s (step.Turn k) i below o order done (inl other) = other_listed scenario k s i other
proceed_left scenario s (step.Turn k) i below o order done (inr none) = elim (cases_eq i k) [
  | inl same ↦
      let adds = turn_listed scenario k s o done in
      let none' : length (log scenario (after_turn scenario k s) k) ≡ length (log scenario s k) =
      subst (λ n. length (log scenario (after_turn scenario k s) n) ≡ length (log scenario s n)) same none in
      let new : adds.new ≡ [] = nothing_more (log scenario s k) adds.new (log scenario (after_turn scenario k s) k) adds.log none' in
      subst (λ n. listed scenario (after_turn scenario k s) n ≡ listed scenario s n) (sym same)
      (sym adds.line ∙ ap (λ l. listed scenario s k ++ l) new ∙ append-nil (listed scenario s k))
  | inr other ↦ other_listed scenario k s i other
]

-- ---- the logs by their numbers

-- the logs of the incarnations below this number
abbrev pub logs_below : ScenarioParts → RunState → ℕ → ℕ → List LogEntry
logs_below scenario s i zero = []
logs_below scenario s i (suc n) = logs_below scenario s i n ++ log_of scenario s i n

module _ (scenario : ScenarioParts) (i : ℕ) (trace : List SlotNote) where
  abbrev entries : EndedIncarnation → List LogEntry
  entries e = log_from (scenario_for scenario e.incarnation) i (ended_history i trace e)

  -- the log of the one with this number, among these
  abbrev log_in : List EndedIncarnation → ℕ → List LogEntry
  log_in all n = option_map_or entries (find (λ e. e.incarnation.number == n) all) []

  abbrev below_in : List EndedIncarnation → ℕ → List LogEntry
  below_in all zero = []
  below_in all (suc n) = below_in all n ++ log_in all n

  log_past : (e : EndedIncarnation) (earlier : List EndedIncarnation) (n : ℕ) → n < e.incarnation.number → log_in (e ∷ earlier) n ≡ log_in earlier n
  log_past e earlier n less = rw (ne_eqb e.incarnation.number n (λ same. absurd (omega (arith, same, less)))) refl

  log_here : (e : EndedIncarnation) (earlier : List EndedIncarnation) → log_in (e ∷ earlier) e.incarnation.number ≡ entries e
  log_here e earlier = rw (eq-eqb e.incarnation.number e.incarnation.number refl) refl

  below_past : (e : EndedIncarnation) (earlier : List EndedIncarnation) (n : ℕ) → n ≤ e.incarnation.number → below_in (e ∷ earlier) n ≡ below_in earlier n
  below_past e earlier zero le = refl
  below_past e earlier (suc n) le =
      ap (λ l. l ++ log_in (e ∷ earlier) n) (below_past e earlier n (omega arith)) ∙ ap (λ l. below_in earlier n ++ l) (log_past e earlier n (omega arith))

  below_all : (e : EndedIncarnation) (earlier : List EndedIncarnation) → AreInOrder e.incarnation earlier
      → below_in (e ∷ earlier) (suc e.incarnation.number) ≡ logs_of scenario i trace (e ∷ earlier)
  unfolding AreInOrder logs_of
  below_all e [] order =
      ap (λ l. l ++ log_in (e ∷ []) e.incarnation.number) (below_past e [] e.incarnation.number (omega arith) ∙ ap (λ (inc : Incarnation). below_in [] inc.number) order)
      ∙ ap (λ l. [] ++ l) (log_here e [])
  below_all e (e' ∷ earlier) order =
      ap (λ l. l ++ log_in (e ∷ e' ∷ earlier) e.incarnation.number)
      (below_past e (e' ∷ earlier) e.incarnation.number (omega arith) ∙ ap (below_in (e' ∷ earlier)) order.0 ∙ below_all e' earlier order.1)
      ∙ ap (λ l. logs_of scenario i trace (e' ∷ earlier) ++ l) (log_here e (e' ∷ earlier))

below_is : (scenario : ScenarioParts) (s : RunState) (i n : ℕ) → logs_below scenario s i n ≡ below_in scenario i s.trace (incarnations s i) n
unfolding incarnation_of
below_is scenario s i zero = refl
below_is scenario s i (suc n) = ap (λ l. l ++ log_in scenario i s.trace (incarnations s i) n) (below_is scenario s i n)

numbers_listed : (scenario : ScenarioParts) (journal : List Step) (i : ℕ)
    → logs_below scenario (run scenario journal) i (suc (node_at (run scenario journal).nodes i).present.number) ≡ listed scenario (run scenario journal) i
numbers_listed scenario journal i =
    let s = run scenario journal in
    let node = node_at s.nodes i in
    below_is scenario s i (suc node.present.number)
    ∙ below_all scenario i s.trace (record { incarnation = node.present; next = reads s i; stopped = node.stopped }) node.ended (in_order scenario journal i).order

logs_are : (scenario : ScenarioParts) (s : RunState) (i n : ℕ) → flat_map (log_of scenario s i) (range_with_len 0 n) ≡ logs_below scenario s i n
logs_are scenario s i n = let e : 0 + n ≡ n = omega arith in ranged 0 n ∙ ap (logs_below scenario s i) e
  where
    ranged : (from n : ℕ) → logs_below scenario s i from ++ flat_map (log_of scenario s i) (range_with_len from n) ≡ logs_below scenario s i (from + n)
    ranged from zero = let e : from ≡ from + 0 = omega arith in append-nil (logs_below scenario s i from) ∙ ap (logs_below scenario s i) e
    ranged from (suc n) =
        let rest = flat_map (log_of scenario s i) (range_with_len (from + 1) n) in
        let e : suc from ≡ from + 1 = omega arith in
        let e' : from + 1 + n ≡ from + suc n = omega arith in
        sym (append_assoc (logs_below scenario s i from) (log_of scenario s i from) rest)
        ∙ ap (λ k. logs_below scenario s i k ++ rest) e ∙ ranged (from + 1) n ∙ ap (logs_below scenario s i) e'

-- the line is the logs of all numbers up to the present one
pub line_by_numbers : (scenario : ScenarioParts) (s : RunState) (i : ℕ) → logs_below scenario s i (suc (node_at s.nodes i).present.number) ≡ line scenario s i
unfolding line
line_by_numbers scenario s i = sym (logs_are scenario s i (suc (node_at s.nodes i).present.number))

line_listed : (scenario : ScenarioParts) (journal : List Step) (i : ℕ) → line scenario (run scenario journal) i ≡ listed scenario (run scenario journal) i
line_listed scenario journal i = sym (line_by_numbers scenario (run scenario journal) i) ∙ numbers_listed scenario journal i

logs_begin : (scenario : ScenarioParts) (s : RunState) (i n more : ℕ) → IsPrefix (logs_below scenario s i n) (logs_below scenario s i (n + more))
logs_begin scenario s i n zero =
    let e : n ≡ n + 0 = omega arith in subst (λ k. IsPrefix (logs_below scenario s i n) (logs_below scenario s i k)) e (prefix_self (logs_below scenario s i n))
logs_begin scenario s i n (suc more) =
    let e : suc (n + more) ≡ n + suc more = omega arith in
    let next : IsPrefix (logs_below scenario s i (n + more)) (logs_below scenario s i (suc (n + more))) = (log_of scenario s i (n + more), refl) in
    subst (λ k. IsPrefix (logs_below scenario s i n) (logs_below scenario s i k)) e
    (prefix_trans (logs_below scenario s i n) (logs_below scenario s i (n + more)) (logs_below scenario s i (suc (n + more))) (logs_begin scenario s i n more) next)

-- and begins with those up to any number
pub logs_begin_line : (scenario : ScenarioParts) (s : RunState) (i n : ℕ) → n ≤ (node_at s.nodes i).present.number
    → IsPrefix (logs_below scenario s i n ++ log_of scenario s i n) (line scenario s i)
logs_begin_line scenario s i n within =
    let last = (node_at s.nodes i).present.number in
    let e : suc n + (last - n) ≡ suc last = omega (arith, within) in
    subst (IsPrefix (logs_below scenario s i (suc n))) (ap (logs_below scenario s i) e ∙ line_by_numbers scenario s i) (logs_begin scenario s i (suc n) (last - n))

-- ---- the line of a run only grows

-- a step that is done makes a longer journal
step_run : (scenario : ScenarioParts) (journal : List Step) (made : Step) → is_done (reply scenario (run scenario journal) made) ≡ true
    → run scenario (journal ++ made ∷ []) ≡ proceed scenario (run scenario journal) made
step_run scenario journal made done = run_push scenario (opening scenario.params.nodes) journal made ∙ step_is scenario (run scenario journal) made done

pub step_line : (scenario : ScenarioParts) (journal : List Step) (made : Step) (i : ℕ) → i < scenario.params.nodes → is_done (reply scenario (run scenario journal) made) ≡ true
    → IsPrefix (line scenario (run scenario journal) i) (line scenario (run scenario (journal ++ made ∷ [])) i)
step_line scenario journal made i below done =
    let s = run scenario journal in
    let o = orderly scenario journal in
    let grows : IsPrefix (listed scenario s i) (listed scenario (run scenario (journal ++ made ∷ [])) i) =
    subst (λ after. IsPrefix (listed scenario s i) (listed scenario after i)) (sym (step_run scenario journal made done))
    (proceed_line scenario s made i (omega (arith, o.count, below)) o (in_order scenario journal) done) in
    subst (λ l. IsPrefix l (line scenario (run scenario (journal ++ made ∷ [])) i)) (sym (line_listed scenario journal i))
    (subst (IsPrefix (listed scenario s i)) (sym (line_listed scenario (journal ++ made ∷ []) i)) grows)

-- the lines of a world grow with each step that is asked for
pub world_longer : (w w' : WorldParts) (made : Step) (r : StepReply) → r ≡ reply w.scenario (state_of w) made
    → w' ≡ (if is_done r then record w { journal = w.journal ++ made ∷ [] } else w) → Longer w w'
world_longer w w' made r is new = elim (cases_Bool (is_done r)) [
  | inl done ↦
      let next : w' ≡ record w { journal = w.journal ++ made ∷ [] } = rw done at new in
      subst (Longer w) (sym next) (record { nodes = refl; lines = λ i below. step_line w.scenario w.journal made i below (ap is_done (sym is) ∙ done) })
  | inr left ↦
      let same : w' ≡ w = rw left at new in
      subst (Longer w) (sym same) (record { nodes = refl; lines = λ i below. prefix_self (line w.scenario (state_of w) i) })
]

-- a step leaves the line of a node whose log got no entry by its turn
pub step_left : (w w' : WorldParts) (made : Step) (r : StepReply) → r ≡ reply w.scenario (state_of w) made
    → w' ≡ (if is_done r then record w { journal = w.journal ++ made ∷ [] } else w)
    → (i : ℕ) → i < nodes_of w → Leaves made w.scenario (state_of w) (state_of w') i → line_of w' i ≡ line_of w i
step_left w w' made r is new i below left = elim (cases_Bool (is_done r)) [
  | inl done ↦
      let next : w' ≡ record w { journal = w.journal ++ made ∷ [] } = rw done at new in
      let s = state_of w in
      let o = orderly w.scenario w.journal in
      let done' : is_done (reply w.scenario s made) ≡ true = ap is_done (sym is) ∙ done in
      let after : state_of w' ≡ proceed w.scenario s made = ap state_of next ∙ step_run w.scenario w.journal made done' in
      ap (λ (x : WorldParts). line_of x i) next
      ∙ line_listed w.scenario (w.journal ++ made ∷ []) i
      ∙ ap (λ (x : RunState). listed w.scenario x i) (step_run w.scenario w.journal made done')
      ∙ proceed_left w.scenario s made i (omega (arith, o.count, below)) o (in_order w.scenario w.journal) done' (subst (λ (x : RunState). Leaves made w.scenario s x i) after left)
      ∙ sym (line_listed w.scenario w.journal i)
  | inr kept ↦
      let same : w' ≡ w = rw kept at new in
      ap (λ (x : WorldParts). line_of x i) same
]
