use Rattle.std.proofs.Common.{[], ◌∷◌}
use Rattle.std.specs.Prelude.{if◌then◌else◌}
use Rattle.cany_base.specs.declared.class.Class.TheVariants.{Join, Leave}
use Rattle.cany_base.specs.declared.message.NodeAsk.{NodeAsk}
use Rattle.cany_base.specs.declared.message.SendAsk.{SendAsk}
use Rattle.cany_world.specs.World.{state_of}
use Rattle.cany_check.specs.declared.unused_entries.unused_entry.UnusedEntry.{UnusedEntry}
use Rattle.cany_check.specs.declared.unused_entries.unused_entry.UnusedEntry.TheVariants as entry
use Rattle.cany_check.specs.Idle.Unused.{as_list, is_unused_restart, unused, unused_ask, unused_rule, unused_send, with_places}
use Rattle.cany_check.proofs.Idle.PlacesFound.{five_found}
use Rattle.cany_check.proofs.unused_entries.idle_entries.unused_by.Goals as goal

pub returns : goal.returns
unfolding unused
returns c =
    let scenario = c.args.world.now.scenario in
    let s = state_of c.args.world.now in
    five_found (with_places (λ (send : SendAsk). as_list (unused_send s send)) (λ why. entry.Send why) 0 scenario.sends)
    (with_places (unused_rule scenario s) (λ why. entry.Fault why) 0 scenario.rules)
    (with_places (λ (ask : NodeAsk). as_list (unused_ask scenario s Join ask)) (λ why. entry.Join why) 0 scenario.joins)
    (with_places (λ (ask : NodeAsk). as_list (unused_ask scenario s Leave ask)) (λ why. entry.Leave why) 0 scenario.leaves)
    (with_places (λ (ask : NodeAsk). if is_unused_restart s ask then entry.Restart ∷ [] else []) (λ (e : UnusedEntry). e) 0 scenario.restarts)
    c.new-found.result.items c.push_sends.new.found.items c.push_faults.new.found.items c.push_asks.new.found.items c.push_asks-2.new.found.items c.push_restarts.new.found.items
    c.new-found.ensures.items c.in_ok-push_sends.ensures c.in_ok-push_faults.ensures c.in_ok-push_asks.ensures c.in_ok-push_asks-2.ensures c.in_ok-push_restarts.ensures
