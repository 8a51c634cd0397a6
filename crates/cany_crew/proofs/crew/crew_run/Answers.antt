use Rattle.cany_crew.proofs.crew.crew_run.Goals as goal

pub returns-in-Ok-None-clause-scenario : goal.returns-in-Ok-None-clause-scenario
returns-in-Ok-None-clause-scenario g c = c.run_crew-world.ensures.scenario

pub returns-in-Ok-None-clause-count : goal.returns-in-Ok-None-clause-count
returns-in-Ok-None-clause-count g c = c.run_crew-world.ensures.fell

pub returns-in-Ok-Some-clause-count : goal.returns-in-Ok-Some-clause-count
returns-in-Ok-Some-clause-count g c = c.run_crew-world.ensures.fell

pub returns-in-Ok-Some-clause-back : goal.returns-in-Ok-Some-clause-back
returns-in-Ok-Some-clause-back g c = c.run_crew-world.ensures.scenario

pub returns-in-Err-clause-count : goal.returns-in-Err-clause-count
returns-in-Err-clause-count g c = c.run_crew-world.ensures.fell

pub returns-in-Err-clause-back : goal.returns-in-Err-clause-back
returns-in-Err-clause-back g c = c.run_crew-world.ensures.scenario

pub returns-in-Err-clause-memory : goal.returns-in-Err-clause-memory
returns-in-Err-clause-memory g c = rw c.in-Err.is at c.run_crew-world.ensures.memory
