-- The rounds of the round robin journal, as a world makes them.
use Rattle.std.proofs.Common.{◌≡◌, ℕ, suc, ◌+◌, ◌-◌, ◌<◌, ◌≤◌, Bool, true, false, cond, List, [], ◌∷◌, ◌++◌, length, map, refl, sym, ap, ◌∙◌, subst, arith, append_assoc}
use Rattle.std.specs.Prelude.{if◌then◌else◌}
use Rattle.std.proofs.lemmas.List.{append-nil}
use Rattle.cany_base.specs.declared.step.Step.{Step}
use Rattle.cany_base.specs.declared.step.Step.TheVariants.{Slot, Turn}
use Rattle.cany_base.specs.Scenario.{ScenarioParts}
use Rattle.cany_model.specs.declared.reply.StepReply.{StepReply}
use Rattle.cany_model.specs.declared.reply.StepReply.TheVariants.{Done, Lagging, Over, NothingYet, Stopped, NoNode}
use Rattle.cany_base.specs.declared.slot_note.SlotNote.{SlotNote}
use Rattle.cany_model.specs.Runs.RoundRobin.{reading_nodes, round, rounds, round_robin}
use Rattle.cany_model.specs.Runs.Run.{IsLegal, after_step, after_turn, has_ended, is_done, proceed, reply, run, run_from}
use Rattle.cany_model.specs.Bus.State.{RunState, opening, slots_run}
use Rattle.cany_model.proofs.Runs.Journals.{run_then, slot_step-trace, step_is}
use Rattle.cany_model.proofs.Runs.Steps.{after_turn-trace}
use Rattle.cany_model.proofs.Runs.RoundRobinEnds.{round_robin_ends}
use Rattle.cany_model.proofs.Runs.Rounds.{RoundSoFar, round_begins, round_turn, round_skips, round_ends, round_slot_done, to_read, turn_exactly, rounds_next, rounds_none, rounds_opening, next_round_legal}
use Rattle.cany_node.specs.declared.reply.TurnReply.{TurnReply}
use Rattle.cany_world.specs.Replies.{has_turned, step_reply}
use Rattle.cany_world.specs.World.{WorldParts, state_of}
use Rattle.cany_world.proofs.Idle.IdleRounds.{rounds_split}
use Rattle.cany_world.proofs.JournalFacts.{made, turned_done}

-- ---- a round

-- the scenario stays, and the steps of the round were made for the nodes below i
pub record IsInRound (before now : WorldParts) (i : ℕ) : Type 0 where
  pub scenario : now.scenario ≡ before.scenario
  pub steps : RoundSoFar before.scenario before.journal now.journal i

is_done_done : (r : StepReply) → is_done r ≡ true → r ≡ Done
is_done_done Done e = refl
is_done_done (Lagging node unread) e = cc
is_done_done (Over slots) e = cc
is_done_done (NothingYet now) e = cc
is_done_done (Stopped slot) e = cc
is_done_done (NoNode node) e = cc

-- the slot of a round can be made
pub round_slot_can : (before : WorldParts) → IsLegal before.scenario (before.journal ++ round before.scenario (state_of before)) → reply before.scenario (state_of before) Slot ≡ Done
round_slot_can before legal = is_done_done (reply before.scenario (state_of before) Slot) (round_slot_done before.scenario before.journal legal)

pub round_slot : (before new : WorldParts) → new ≡ record before { journal = before.journal ++ Slot ∷ [] } → IsInRound before new 0
round_slot before new e = record {
  scenario = ap (λ (w : WorldParts). w.scenario) e;
  steps = round_begins before.scenario before.journal new.journal (ap (λ (w : WorldParts). w.journal) e);
}

-- the world after the turn of a node, if it can be made
abbrev pub turn_made : WorldParts → ℕ → WorldParts
turn_made now i = if is_done (reply now.scenario (state_of now) (Turn i)) then record now { journal = now.journal ++ Turn i ∷ [] } else now

pub as_made : (now new : WorldParts) (i : ℕ) (r : TurnReply) → step_reply r ≡ reply now.scenario (state_of now) (Turn i)
    → new ≡ (if has_turned r then record now { journal = now.journal ++ Turn i ∷ [] } else now) → new ≡ turn_made now i
as_made now new i r replies is =
    is ∙ ap (λ (b : Bool). if b then record now { journal = now.journal ++ Turn i ∷ [] } else now) (turned_done r ∙ ap is_done replies)

pub round_next : (before now new : WorldParts) (i : ℕ) → IsInRound before now i → new ≡ turn_made now i → IsInRound before new (i + 1)
round_next before now new i so e = go (to_read before.scenario now.journal i) refl
  where
    done : Bool
    done = is_done (reply now.scenario (state_of now) (Turn i))

    next : (new.scenario ≡ now.scenario) × (new.journal ≡ (if done then now.journal ++ Turn i ∷ [] else now.journal))
    next = made now new (now.journal ++ Turn i ∷ []) done e

    -- the turn is made exactly where the node has something to read
    test : done ≡ to_read before.scenario now.journal i
    test = turn_exactly now.scenario now.journal i ∙ ap (λ (s : ScenarioParts). to_read s now.journal i) so.scenario

    go : (b : Bool) → to_read before.scenario now.journal i ≡ b → IsInRound before new (i + 1)
    go true reads = record {
      scenario = next.0 ∙ so.scenario;
      steps = round_turn before.scenario before.journal now.journal new.journal i so.steps reads (rw (test ∙ reads) at next.1);
    }
    go false skips =
        let still : now.journal ≡ new.journal = sym (rw (test ∙ skips) at next.1) in
        record {
          scenario = next.0 ∙ so.scenario;
          steps = subst (λ (j : List Step). RoundSoFar before.scenario before.journal j (i + 1)) still
              (round_skips before.scenario before.journal now.journal i so.steps skips);
        }

pub round_whole : (before now : WorldParts) (i : ℕ) → IsInRound before now i → i ≡ before.scenario.params.nodes
    → now ≡ record before { journal = before.journal ++ round before.scenario (state_of before) }
round_whole before now i so all = λ k. record {
  scenario = so.scenario k;
  journal = (round_ends before.scenario before.journal now.journal i so.steps all) k;
}

-- ---- the slots that ran

turn_trace : (scenario : ScenarioParts) (s : RunState) (i : ℕ) → (after_step scenario s (Turn i)).trace ≡ s.trace
unfolding after_step proceed
turn_trace scenario s i = elim (is_done (reply scenario s (Turn i))) as (λ b. (cond b (after_turn scenario i s) s).trace ≡ s.trace) [
  | true ↦ after_turn-trace scenario i s
  | false ↦ refl
]

turns_trace : (scenario : ScenarioParts) (s : RunState) (nodes : List ℕ) → (run_from scenario s (map (λ i. Turn i) nodes)).trace ≡ s.trace
unfolding run_from
turns_trace scenario s [] = refl
turns_trace scenario s (i ∷ nodes) = turns_trace scenario (after_step scenario s (Turn i)) nodes ∙ turn_trace scenario s i

-- a round runs one slot
pub round_ran : (scenario : ScenarioParts) (journal next : List Step) → IsLegal scenario (journal ++ round scenario (run scenario journal))
    → next ≡ journal ++ round scenario (run scenario journal) → slots_run (run scenario next) ≡ slots_run (run scenario journal) + 1
unfolding round run_from
round_ran scenario journal next legal is =
    let s : RunState = run scenario journal in
    let nodes : List ℕ = reading_nodes (after_step scenario s Slot).nodes in
    let slot : (after_step scenario s Slot).trace ≡ (proceed scenario s Slot).trace =
    ap (λ (t : RunState). t.trace) (step_is scenario s Slot (round_slot_done scenario journal legal)) in
    let longer : length (run scenario next).trace ≡ length (proceed scenario s Slot).trace =
    ap (λ (j : List Step). length (run scenario j).trace) is
    ∙ ap (λ (t : RunState). length t.trace) (run_then scenario (opening scenario.params.nodes) journal (round scenario s))
    ∙ ap (λ (t : List SlotNote). length t) (turns_trace scenario (after_step scenario s Slot) nodes ∙ slot) in
    omega (arith, longer, ap (λ (t : List SlotNote). length t) (slot_step-trace scenario s))

-- ---- all rounds

-- the rounds that are left after the first ones
pub rounds_rest : (scenario : ScenarioParts) (journal next : List Step) (left made n : ℕ) → left ≡ made + n
    → next ≡ journal ++ rounds scenario made (run scenario journal)
    → next ++ rounds scenario n (run scenario next) ≡ journal ++ rounds scenario left (run scenario journal)
rounds_rest scenario journal next left made n e is =
    let s : RunState = run scenario journal in
    ap (λ (j : List Step). j ++ rounds scenario n (run scenario j)) is
    ∙ append_assoc journal (rounds scenario made s) (rounds scenario n (run scenario (journal ++ rounds scenario made s)))
    ∙ ap (λ (t : RunState). journal ++ (rounds scenario made s ++ rounds scenario n t)) (run_then scenario (opening scenario.params.nodes) journal (rounds scenario made s))
    ∙ ap (λ (j : List Step). journal ++ j) (sym (rounds_split scenario made n s))
    ∙ ap (λ k. journal ++ rounds scenario k s) (sym e)

-- the scenario stays, and what was made and what is left are the same steps
pub record IsAdvanced (before now : WorldParts) (left more : ℕ) : Type 0 where
  pub scenario : now.scenario ≡ before.scenario
  pub made : now.journal ++ rounds now.scenario more (state_of now) ≡ before.journal ++ rounds before.scenario left (state_of before)
  pub ran : slots_run (state_of now) + more ≡ slots_run (state_of before) + left

pub after_rested : (before now : WorldParts) (left made : ℕ) → made ≤ left → now ≡ record before { journal = before.journal ++ rounds before.scenario made (state_of before) }
    → slots_run (state_of now) ≡ slots_run (state_of before) + made → IsAdvanced before now left (left - made)
after_rested before now left made within is ran =
    let scenario : now.scenario ≡ before.scenario = ap (λ (w : WorldParts). w.scenario) is in
    let steps = rounds_rest before.scenario before.journal now.journal left made (left - made) (omega (arith, within)) (ap (λ (w : WorldParts). w.journal) is) in
    record {
      scenario = scenario;
      made = ap (λ (s : ScenarioParts). now.journal ++ rounds s (left - made) (run s now.journal)) scenario ∙ steps;
      ran = omega (arith, ran, within);
    }

pub may_round : (before now : WorldParts) (left more n : ℕ) → IsAdvanced before now left more → more ≡ suc n
    → IsLegal before.scenario (before.journal ++ rounds before.scenario left (state_of before))
    → IsLegal now.scenario (now.journal ++ round now.scenario (state_of now))
may_round before now left more n so e legal =
    next_round_legal now.scenario now.journal (before.journal ++ rounds before.scenario left (state_of before)) more n e
    (subst (λ (s : ScenarioParts). IsLegal s (before.journal ++ rounds before.scenario left (state_of before))) (sym so.scenario) legal) so.made

pub after_round : (before now next : WorldParts) (left more n : ℕ) → IsAdvanced before now left more → more ≡ suc n
    → IsLegal before.scenario (before.journal ++ rounds before.scenario left (state_of before))
    → next ≡ record now { journal = now.journal ++ round now.scenario (state_of now) } → IsAdvanced before next left n
after_round before now next left more n so e legal is =
    let scenario : next.scenario ≡ now.scenario = ap (λ (w : WorldParts). w.scenario) is in
    let journal : next.journal ≡ now.journal ++ round now.scenario (state_of now) = ap (λ (w : WorldParts). w.journal) is in
    let ran : slots_run (state_of next) ≡ slots_run (state_of now) + 1 =
    ap (λ (s : ScenarioParts). slots_run (run s next.journal)) scenario
    ∙ round_ran now.scenario now.journal next.journal (may_round before now left more n so e legal) journal in
    record {
      scenario = scenario ∙ so.scenario;
      made = ap (λ (s : ScenarioParts). next.journal ++ rounds s n (run s next.journal)) scenario
          ∙ rounds_next now.scenario now.journal next.journal more n e journal ∙ so.made;
      ran = omega (arith, ran, so.ran, e);
    }

-- the same by what was made: all but those that are left
abbrev pub all_but : WorldParts → ℕ → ℕ → WorldParts
all_but before left more = record before { journal = before.journal ++ rounds before.scenario (left - more) (state_of before) }

pub advanced_by : (before now : WorldParts) (left more : ℕ) → more < left → now ≡ all_but before left more → slots_run (state_of now) + more ≡ slots_run (state_of before) + left
    → IsAdvanced before now left more
advanced_by before now left more fewer is ran =
    let back : left - (left - more) ≡ more = omega (arith, fewer) in
    subst (IsAdvanced before now left) back (after_rested before now left (left - more) (omega arith) is (omega (arith, ran, fewer)))

-- where some were passed
pub rested_new : (before now : WorldParts) (left made : ℕ) → made ≤ left → now ≡ record before { journal = before.journal ++ rounds before.scenario made (state_of before) }
    → now ≡ all_but before left (left - made)
rested_new before now left made within is =
    let back : made ≡ left - (left - made) = omega (arith, within) in
    is ∙ ap (λ n. record before { journal = before.journal ++ rounds before.scenario n (state_of before) }) back

-- where none was, and one round was made
pub round_new : (before mid now : WorldParts) (left made : ℕ) → 0 < left → made ≡ 0 → mid ≡ record before { journal = before.journal ++ rounds before.scenario made (state_of before) }
    → now ≡ record mid { journal = mid.journal ++ round mid.scenario (state_of mid) } → now ≡ all_but before left (left - 1)
unfolding rounds
round_new before mid now left made some none still is =
    let s : RunState = state_of before in
    let one : 1 ≡ left - (left - 1) = omega (arith, some) in
    let same : mid ≡ before =
    still ∙ ap (λ n. record before { journal = before.journal ++ rounds before.scenario n s }) none
    ∙ ap (λ (j : List Step). record before { journal = j }) (append-nil before.journal) in
    is ∙ ap (λ (w : WorldParts). record w { journal = w.journal ++ round w.scenario (state_of w) }) same
    ∙ ap (λ (j : List Step). record before { journal = before.journal ++ j }) (sym (append-nil (round before.scenario s)))
    ∙ ap (λ n. record before { journal = before.journal ++ rounds before.scenario n s }) one

-- what is left of the round robin journal
pub record IsInRounds (before now : WorldParts) (left : ℕ) : Type 0 where
  pub scenario : now.scenario ≡ before.scenario
  pub steps : now.journal ++ rounds before.scenario left (run before.scenario now.journal) ≡ round_robin before.scenario
  pub ran : slots_run (state_of now) + left ≡ before.scenario.params.slots

pub rounds_begin : (before : WorldParts) (left : ℕ) → before.journal ≡ [] → left ≡ before.scenario.params.slots → IsInRounds before before left
unfolding run_from
rounds_begin before left none e = record {
  scenario = refl;
  steps = rounds_opening before.scenario before.journal left none ∙ ap (λ n. rounds before.scenario n (opening before.scenario.params.nodes)) e;
  ran = omega (arith, e, ap (λ (j : List Step). slots_run (run before.scenario j)) none);
}

-- they are legal, and there is room for them
pub rounds_legal : (before now : WorldParts) (left : ℕ) → IsInRounds before now left → IsLegal now.scenario (now.journal ++ rounds now.scenario left (state_of now))
rounds_legal before now left so =
    subst (λ (s : ScenarioParts). IsLegal s (now.journal ++ rounds s left (run s now.journal))) (sym so.scenario)
    (subst (λ (j : List Step). IsLegal before.scenario j) (sym so.steps) (round_robin_ends before.scenario).0)

pub rounds_room : (before now : WorldParts) (left : ℕ) → IsInRounds before now left → slots_run (state_of now) + left ≤ now.scenario.params.slots
rounds_room before now left so = omega (arith, so.ran, ap (λ (s : ScenarioParts). s.params.slots) so.scenario)

pub rounds_step : (before now new : WorldParts) (left more : ℕ) → IsInRounds before now left → IsAdvanced now new left more → IsInRounds before new more
rounds_step before now new left more so made = record {
  scenario = made.scenario ∙ so.scenario;
  steps = ap (λ (s : ScenarioParts). new.journal ++ rounds s more (run s new.journal)) (sym (made.scenario ∙ so.scenario)) ∙ made.made
      ∙ ap (λ (s : ScenarioParts). now.journal ++ rounds s left (run s now.journal)) so.scenario ∙ so.steps;
  ran = made.ran ∙ so.ran;
}

pub rounds_whole : (before now : WorldParts) (left : ℕ) → IsInRounds before now left → left ≡ 0 → now ≡ record { scenario = before.scenario; journal = round_robin before.scenario }
rounds_whole before now left so e = λ k. record {
  scenario = so.scenario k;
  journal = (sym (rounds_none before.scenario now.journal left e) ∙ so.steps) k;
}

pub rounds_end : (before now : WorldParts) → now ≡ record { scenario = before.scenario; journal = round_robin before.scenario } → has_ended now.scenario (state_of now) ≡ true
rounds_end before now is = ap (λ (w : WorldParts). has_ended w.scenario (state_of w)) is ∙ (round_robin_ends before.scenario).1

pub rounds_made : (before now : WorldParts) → now ≡ record { scenario = before.scenario; journal = round_robin before.scenario } → now.journal ≡ round_robin now.scenario
rounds_made before now is =
    ap (λ (w : WorldParts). w.journal) is ∙ ap round_robin (sym (ap (λ (w : WorldParts). w.scenario) is))
