use Rattle.std.proofs.Common.{[], ◌∷◌, ◌++◌, List, Option, map, ap, ◌∙◌}
use Rattle.std.specs.Prelude.{if◌then◌else◌}
use Rattle.cany_base.specs.declared.message.NodeAsk.{NodeAsk}
use Rattle.cany_base.specs.Scenario.{ScenarioParts}
use Rattle.cany_world.specs.World.{state_of}
use Rattle.cany_check.specs.declared.unused_entries.unused_entry.Unused.{Unused}
use Rattle.cany_check.specs.declared.unused_entries.unused_entry.UnusedEntry.{UnusedEntry}
use Rattle.cany_check.specs.declared.unused_entries.unused_entry.UnusedEntry.TheVariants as entry
use Rattle.cany_check.specs.Idle.Unused.{as_list, is_unused_restart}
use Rattle.cany_check.proofs.Idle.PlacesFound.{all_found, found_more, if_list, none_found}
use Rattle.cany_check.proofs.unused_entries.unused_restarts.push_restarts.Goals as goal

pub loop-place-init : goal.loop-place-init
loop-place-init c =
    none_found (λ (ask : NodeAsk). if is_unused_restart (state_of c.args.world.now) ask then entry.Restart ∷ [] else []) (λ (e : UnusedEntry). e) c.args.found.now.items

pub loop-place-preserved : goal.loop-place-preserved
loop-place-preserved c =
    let ask : NodeAsk = c.index-restarts-place.result in
    let place = c.loop-place.place in
    let here : List UnusedEntry → List Unused = λ es. c.loop-place.found.items ++ map (λ (e : UnusedEntry). record { place = place; entry = e }) es in
    found_more (λ (ask : NodeAsk). if is_unused_restart (state_of c.args.world.now) ask then entry.Restart ∷ [] else []) (λ (e : UnusedEntry). e) c.restarts-restarts.result.now place ask c.args.found.now.items c.loop-place.found.items c.push_found.new.found.items
    c.loop-place-test.true c.index-restarts-place.is c.loop-place.invariant
    (c.in_ok-push_found.ensures ∙ ap (λ (o : Option UnusedEntry). here (as_list o)) c.unused_restart.ensures
    ∙ ap here (if_list (is_unused_restart (state_of c.args.world.now) ask) entry.Restart))

pub returns : goal.returns
returns c =
    all_found (λ (ask : NodeAsk). if is_unused_restart (state_of c.args.world.now) ask then entry.Restart ∷ [] else []) (λ (e : UnusedEntry). e) c.restarts-restarts.result.now c.args.world.now.scenario.restarts c.loop-place.place c.args.found.now.items c.loop-place.found.items c.loop-place-test.false
    (c.restarts-restarts.ensures ∙ ap (λ (s : ScenarioParts). s.restarts) c.scenario.ensures) c.loop-place.invariant
