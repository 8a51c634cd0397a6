-- The lines of nodes over some of the rounds of the round robin journal.
use Rattle.std.proofs.Common.{◌≡◌, ℕ, ◌+◌, ◌-◌, ◌<◌, true, List, [], ◌∷◌, ◌++◌, refl, ap, sym, subst, append_assoc}
use Rattle.std.proofs.lemmas.List.{append-nil}
use mathlib.Core.List.{IsPrefix}
use Rattle.cany_base.specs.declared.step.Step.{Step}
use Rattle.cany_base.specs.Scenario.{ScenarioParts}
use Rattle.cany_model.specs.Bus.State.{opening, slots_run}
use Rattle.cany_model.specs.Runs.RoundRobin.{rounds}
use Rattle.cany_model.specs.Runs.Run.{IsLegal, is_done, reply, run}
use Rattle.cany_model.proofs.Runs.Journals.{legal_first, legal_next}
use Rattle.cany_world.specs.World.{WorldParts, state_of}
use Rattle.cany_world.proofs.RoundFacts.{advanced_by, all_but}
use Rattle.cany_watch.specs.Lines.{Longer, line}
use Rattle.cany_watch.proofs.LineFacts.{step_line}
use Rattle.cany_watch.proofs.Prefixes.{prefix_self, prefix_trans}

-- the line only grows over the steps of a legal journal
steps_line : (scenario : ScenarioParts) (journal more : List Step) (i : ℕ) → i < scenario.params.nodes → IsLegal scenario (journal ++ more)
    → IsPrefix (line scenario (run scenario journal) i) (line scenario (run scenario (journal ++ more)) i)
steps_line scenario journal [] i below legal =
    subst (λ j. IsPrefix (line scenario (run scenario journal) i) (line scenario (run scenario j) i)) (sym (append-nil journal)) (prefix_self (line scenario (run scenario journal) i))
steps_line scenario journal (made ∷ more) i below legal =
    let longer = journal ++ made ∷ [] in
    let whole : longer ++ more ≡ journal ++ made ∷ more = append_assoc journal (made ∷ []) more in
    let done : is_done (reply scenario (run scenario journal) made) ≡ true = legal_next scenario (opening scenario.params.nodes) journal made more legal in
    let rest : IsPrefix (line scenario (run scenario longer) i) (line scenario (run scenario (longer ++ more)) i) =
    steps_line scenario longer more i below (subst (IsLegal scenario) (sym whole) legal) in
    subst (λ j. IsPrefix (line scenario (run scenario journal) i) (line scenario (run scenario j) i)) whole
    (prefix_trans (line scenario (run scenario journal) i) (line scenario (run scenario longer) i) (line scenario (run scenario (longer ++ more)) i)
    (step_line scenario journal made i below done) rest)

-- the lines of a world grow with some of the rounds that are left
pub rounds_longer : (w w' : WorldParts) (left more : ℕ) → more < left → IsLegal w.scenario (w.journal ++ rounds w.scenario left (state_of w))
    → w' ≡ all_but w left more → slots_run (state_of w') + more ≡ slots_run (state_of w) + left → Longer w w'
rounds_longer w w' left more fewer legal is ran =
    let scenario = w.scenario in
    let so = advanced_by w w' left more fewer is ran in
    let whole : IsLegal scenario (w'.journal ++ rounds w'.scenario more (state_of w')) = subst (IsLegal scenario) (sym so.made) legal in
    let here : IsLegal scenario w'.journal = legal_first scenario (opening scenario.params.nodes) w'.journal (rounds w'.scenario more (state_of w')) whole in
    let made : IsLegal scenario (all_but w left more).journal = subst (IsLegal scenario) (ap (λ (x : WorldParts). x.journal) is) here in
    subst (Longer w) (sym is) (record { nodes = refl; lines = λ i below. steps_line scenario w.journal (rounds scenario (left - more) (state_of w)) i below made })
