-- The scenario of its parts.
use Rattle.std.proofs.Common.{◌≡◌}
use Rattle.std.specs.Prelude.{Ok, Err}
use Rattle.cany_base.specs.Scenario.{ScenarioParts}
use Rattle.cany_text.specs.declared.scenario_fault.KeyName.TheVariants as key
use Rattle.cany_text.specs.declared.scenario_fault.ScenarioFault.{ScenarioFault}
use Rattle.cany_text.specs.AsksText.{joins_of, leaves_of, restarts_of}
use Rattle.cany_text.specs.FaultsText.{rules_of}
use Rattle.cany_text.specs.JournalText.{journal_of_text}
use Rattle.cany_text.specs.NodesText.{all_nodes, nodes_from}
use Rattle.cany_text.specs.ParamsText.{params_of}
use Rattle.cany_text.specs.ScenarioText.{top_keys, scenario_from}
use Rattle.cany_text.specs.SendsText.{sends_of}
use Rattle.cany_text.specs.TomlKeys.{Read, ◌>>=◌, Entry, only_keys, optional}
use Rattle.cany_scenario.specs.AsksParts.{all_good}

-- the scenario whose parts were read, and each of whose scripted asks is made
pub scenario_from-parts : (top : Entry) (s : ScenarioParts) → only_keys top_keys top ≡ Ok tt → params_of top ≡ Ok s.params
    → optional (nodes_from s.params) (all_nodes s.params) key.Members top ≡ Ok s.members
    → sends_of s.params top ≡ Ok s.sends → rules_of s.params top ≡ Ok s.rules → joins_of s.params top ≡ Ok s.joins
    → leaves_of s.params top ≡ Ok s.leaves → restarts_of s.params top ≡ Ok s.restarts → journal_of_text s.params.format top ≡ Ok s.journal
    → 0 ≡ s.from → 0 ≡ s.inc → scenario_from top ≡ Ok s
unfolding scenario_from
scenario_from-parts top s known read named listed scripted joined left restarted given first original =
    rw (known, read, named, listed, scripted, joined, left, restarted, given) (λ j. Ok (record s { from = first j; inc = original j }))

-- what comes after three parts, of which the first bad one decides
pub three_fault : {A B C D : Type 0} (a : Read A) (b : Read B) (c : Read C) (whole : A → B → C → Read D) (fault : ScenarioFault)
    → (a >>= (λ x. b >>= (λ y. c >>= (λ z. all_good)))) ≡ Err fault → (a >>= (λ x. b >>= (λ y. c >>= (λ z. whole x y z)))) ≡ Err fault
three_fault (Err e) b c whole fault bad = cc
three_fault (Ok x) (Err e) c whole fault bad = cc
three_fault (Ok x) (Ok y) (Err e) whole fault bad = cc
three_fault (Ok x) (Ok y) (Ok z) whole fault bad = cc
