use Rattle.std.proofs.Common.{◌≡◌, None, rules}
use Rattle.cany_model.specs.Runs.Follow.{journal_of}
use Rattle.cany_world.specs.World.{WorldParts}
use Rattle.cany_command.specs.Refused.{own_fault}
use Rattle.cany_command.proofs.RunFacts.{kept_promises}
use Rattle.cany_command.proofs.running.run_to_end.Goals as goal

pub returns-in_default-clause-promises : goal.returns-in_default-clause-promises
returns-in_default-clause-promises c =
    let followed : own_fault c.args.scenario ≡ None = search rules in
    let is : ◌≡◌ {A = WorldParts} c.round_robin.new.world (record { scenario = c.args.scenario; journal = journal_of c.args.scenario }) = search rules in
    kept_promises c.round_robin_is_whole.ensures c.followed_journals.ensures c.args.scenario c.round_robin.new.world followed is
    c.hypothesis.ensures.integrity (λ within. c.hypothesis.ensures.safe (c.hypothesis.ensures.within.1 within))

pub returns-in-Ok-clause-promises : goal.returns-in-Ok-clause-promises
returns-in-Ok-clause-promises c =
    let followed : own_fault c.args.scenario ≡ None = search rules in
    let is : ◌≡◌ {A = WorldParts} c.follow.new.world (record { scenario = c.args.scenario; journal = journal_of c.args.scenario }) = search rules in
    kept_promises c.round_robin_is_whole.ensures c.followed_journals.ensures c.args.scenario c.follow.new.world followed is
    c.hypothesis-in-Ok.ensures.integrity (λ within. c.hypothesis-in-Ok.ensures.safe (c.hypothesis-in-Ok.ensures.within.1 within))

-- of a journal that is refused nothing is said but its fault
pub returns-clause-ended : goal.returns-clause-ended
returns-clause-ended c = tt

pub returns-clause-followed : goal.returns-clause-followed
returns-clause-followed c = tt

pub returns-clause-promises : goal.returns-clause-promises
returns-clause-promises c = tt
