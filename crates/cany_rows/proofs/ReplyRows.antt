-- Worked rows of the replies to a step, and of when a message is settled.
use Rattle.std.specs.Prelude.{ℕ, ◌≡◌, true, false, List, [], ◌∷◌, Some, None, replicate, refl, map, codes}
use Rattle.cany_base.specs.declared.rule.Rule.{Rule}
use Rattle.cany_base.specs.declared.rule.Verdict.TheVariants.{Clean}
use Rattle.cany_base.specs.Scenario.{ScenarioParts}
use Rattle.cany_model.specs.declared.reply.StepReply.TheVariants.{Lagging, Over, NothingYet, Stopped, NoNode}
use Rattle.cany_model.specs.Runs.Run.{run}
use Rattle.cany_rows.proofs.RowWords.{lag_1, Followed-all, Refused, Unfinished, follow, one_message, report, row, scenario, send, slot_rule, steps, three, running_node, whole_run, report_of}

unfoldable quiet : ℕ → List Rule → ScenarioParts
quiet slots rules = scenario (lag_1 slots 1) [] rules

least_lagging_node : follow (quiet 3 []) (steps (codes "...")) ≡ Refused 2 (Lagging 0 2)
unfolding row lag_1 quiet
least_lagging_node = refl

next_lagging_node : follow (quiet 3 []) (steps (codes "..002.")) ≡ Refused 5 (Lagging 1 2)
unfolding row lag_1 quiet
next_lagging_node = refl

over_comes_before_lagging : follow (quiet 2 []) (steps (codes "...")) ≡ Refused 2 (Over 2)
unfolding row lag_1 quiet
over_comes_before_lagging = refl

stopped_node_does_not_lag : follow (quiet 3 (slot_rule 0 Clean 1 ∷ [])) (steps (codes "..12.1212")) ≡ Followed-all
unfolding row lag_1 quiet
stopped_node_does_not_lag = refl

stopped_node_has_unread_notices : follow (quiet 3 (slot_rule 1 Clean 1 ∷ [])) (steps (codes "..0")) ≡ Refused 2 (Stopped 1)
unfolding row lag_1 quiet
stopped_node_has_unread_notices = refl

no_such_node : follow (quiet 3 []) (steps (codes ".3")) ≡ Refused 1 (NoNode 3)
unfolding row lag_1 quiet
no_such_node = refl

nothing_before_the_first_slot : follow (quiet 3 []) (steps (codes "0")) ≡ Refused 0 (NothingYet 0)
unfolding row lag_1 quiet
nothing_before_the_first_slot = refl

nothing_after_two_notices : follow (quiet 3 []) (steps (codes "..222")) ≡ Refused 4 (NothingYet 2)
unfolding row lag_1 quiet
nothing_after_two_notices = refl

slots_are_left : follow (quiet 3 []) (steps (codes ".012")) ≡ Unfinished 1 None
unfolding row lag_1 quiet
slots_are_left = refl

notices_are_left : follow (quiet 2 []) (steps (codes ".012.02")) ≡ Unfinished 2 (Some 1)
unfolding row lag_1 quiet
notices_are_left = refl

-- a refused step changes nothing, so a run goes on after it
refused_step_changes_nothing :
    run (quiet 3 []) (steps (codes "...3.0120012")) ≡ run (quiet 3 []) (steps (codes "..012012"))
unfolding row lag_1 quiet
refused_step_changes_nothing = refl

-- Settled.

-- not before the origin's turn of its slot, not while a frame waits, not while a notice is unread,
-- and then before the run ends
settled_in_time :
    map (λ journal. (report (scenario (three 5 1 2) one_message []) (steps journal)).settled)
    ([] ∷ codes "." ∷ codes ".012" ∷ codes ".012." ∷ codes ".012.0" ∷ codes ".012.012" ∷ codes ".012.012." ∷ codes ".012.012.12" ∷ codes ".012.012.012" ∷ [])
    ≡ (false ∷ []) ∷ (false ∷ []) ∷ (false ∷ []) ∷ (false ∷ []) ∷ (false ∷ []) ∷ (false ∷ []) ∷ (false ∷ []) ∷ (false ∷ []) ∷ (true ∷ []) ∷ []
unfolding row
settled_in_time = refl

-- at slot 0 all has been read and nobody waits, but a one_message of slot 2 is not asked for; it is
-- settled once its origin stops
not_asked_for :
    map (λ rules. (report (scenario (three 5 1 2) (send 2 0 [] ∷ []) rules) (steps (codes ".012.12"))).settled)
    ([] ∷ (slot_rule 1 Clean 1 ∷ []) ∷ [])
    ≡ (false ∷ []) ∷ (true ∷ []) ∷ []
unfolding row
not_asked_for = refl

-- a one_message of the last slot is asked for and never carried
open_at_the_end :
    report_of (scenario (three 1 1 2) one_message []) ≡ whole_run (steps (codes ".012"))
    []
    (replicate 3 (running_node 1 []))
    (false ∷ [])
unfolding row
open_at_the_end = refl
