use Rattle.cany_crew.proofs.crew.run_crew.Given as goal

abbrev pub ghosts-run_as-L-Course : goal.ghosts-run_as-L-Course
ghosts-run_as-L-Course g a = record { scenario = a.world.scenario }

abbrev pub ghosts-run_as-L-Ledger : goal.ghosts-run_as-L-Ledger
ghosts-run_as-L-Ledger g a = record { name = a.turns.name; parts = a.turns.parts }

abbrev pub ghosts-run_as-B-Ledger : goal.ghosts-run_as-B-Ledger
ghosts-run_as-B-Ledger g a = record { name = a.slots.name; parts = a.slots.parts }
