use Rattle.cany_crew_tests.proofs.tests.yard.seats_by_hand.Given as goal

abbrev pub ghosts-worked-L-Course : goal.ghosts-worked-L-Course
ghosts-worked-L-Course g a = record { scenario = a.world.scenario }

abbrev pub ghosts-worked-L-Ledger : goal.ghosts-worked-L-Ledger
ghosts-worked-L-Ledger g a = record { name = a.turns.name; parts = a.turns.parts }

abbrev pub ghosts-worked-B-Ledger : goal.ghosts-worked-B-Ledger
ghosts-worked-B-Ledger g a = record { name = a.slots.name; parts = a.slots.parts }
