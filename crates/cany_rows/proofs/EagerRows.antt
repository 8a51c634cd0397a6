-- Worked rows of eager diffusion, also at a lag.
use Rattle.std.specs.Prelude.{ℕ, ◌≡◌, true, List, [], ◌∷◌, replicate, refl, codes}
use Rattle.cany_base.specs.declared.notice.NoticeKind.{NoticeKind}
use Rattle.cany_base.specs.declared.notice.NoticeKind.TheVariants.{Idle, Got, Sent, Bad}
use Rattle.cany_base.specs.declared.rule.Verdict.TheVariants.{Clean, Partial}
use Rattle.cany_base.specs.Scenario.{ScenarioParts}
use Rattle.cany_model.specs.declared.breaks.BreakKind.TheVariants as kind
use Rattle.cany_model.specs.Rules.Delivery.{delivery_effects}
use Rattle.cany_model.specs.Rules.Eager.{eager_effects}
use Rattle.cany_model.specs.Rules.Edcan.{edcan_at, edcan_effects}
use Rattle.cany_model.specs.Rules.Effect.{Effect, Ask, Withdraw, Enter}
use Rattle.cany_model.specs.Bus.Frames.{identity_of, same_class, same_identity}
use Rattle.cany_model.specs.Bus.History.{copies, has_own}
use Rattle.cany_rows.proofs.RowWords.{broken_run, lag_1, carries, delivered, delivers, ed, first_frame, one_message, report, row, scenario, set, slot_rule, steps, three, running_node, stopped_node, whole_run, report_of}

-- with omit 0 the first copy is already enough: nobody relays
one_copy_is_enough :
    report_of (scenario (three 4 0 2) one_message []) ≡ whole_run (steps (codes ".012.012.012.012"))
    (carries 1 first_frame 1 6 Clean 0 ∷ [])
    (replicate 3 (running_node 4 (delivered 1)))
    (true ∷ [])
unfolding row
one_copy_is_enough = refl

-- one slot that breaks omit and errors is a break of omit
omit_comes_before_errors :
    report_of (scenario (three 4 0 0) one_message (slot_rule 1 (Partial (set 4)) 0 ∷ [])) ≡ broken_run kind.Omit 1 (steps (codes ".012.012.012.012"))
    (carries 1 first_frame 1 2 (Partial (set 4)) 0 ∷ carries 2 first_frame 1 6 Clean 0 ∷ [])
    (running_node 4 (delivered 2) ∷ running_node 4 (delivered 1) ∷ running_node 4 (delivered 2) ∷ [])
    (true ∷ [])
unfolding row
omit_comes_before_errors = refl

-- What the rules say of a past, newest first. In a run an origin reads no copy before its own
-- transmission: while its frame waits it is a sender of each slot that carries it.
unfoldable effects : ℕ → ℕ → List NoticeKind → List Effect
unfolding edcan_effects edcan_at delivery_effects eager_effects copies has_own same_class same_identity
effects omit i past = edcan_effects (scenario (three 9 omit 2) [] []) i past

origin_gets_a_copy_first : effects 1 0 (Got first_frame ∷ Idle ∷ []) ≡ Enter (delivers 1 0 0 (1 ∷ [])) ∷ Ask first_frame ∷ []
unfolding row effects
origin_gets_a_copy_first = refl

no_second_delivery_at_own : effects 1 0 (Sent first_frame ∷ Got first_frame ∷ Idle ∷ []) ≡ []
unfolding row effects
no_second_delivery_at_own = refl

own_is_delivered_by_its_origin : effects 1 0 (Sent first_frame ∷ Bad ∷ Idle ∷ []) ≡ Enter (delivers 2 0 0 (1 ∷ [])) ∷ []
unfolding row effects
own_is_delivered_by_its_origin = refl

own_of_another_origin_is_not : effects 1 1 (Sent first_frame ∷ []) ≡ []
unfolding row effects
own_of_another_origin_is_not = refl

first_copy_after_own : effects 1 0 (Got first_frame ∷ Sent first_frame ∷ []) ≡ []
unfolding row effects
first_copy_after_own = refl

first_copy_after_own_at_omit_0 : effects 0 0 (Got first_frame ∷ Sent first_frame ∷ []) ≡ Withdraw (identity_of first_frame) ∷ []
unfolding row effects
first_copy_after_own_at_omit_0 = refl

first_copy_at_omit_0 : effects 0 1 (Got first_frame ∷ []) ≡ Enter (delivers 0 0 0 (1 ∷ [])) ∷ Withdraw (identity_of first_frame) ∷ []
unfolding row effects
first_copy_at_omit_0 = refl

second_copy_at_omit_2 : effects 2 1 (Got first_frame ∷ Got first_frame ∷ []) ≡ []
unfolding row effects
second_copy_at_omit_2 = refl

second_copy_after_own : effects 2 1 (Got first_frame ∷ Sent first_frame ∷ Got first_frame ∷ []) ≡ []
unfolding row effects
second_copy_after_own = refl

third_copy_at_omit_2 : effects 2 1 (Got first_frame ∷ Bad ∷ Got first_frame ∷ Sent first_frame ∷ Got first_frame ∷ []) ≡ Withdraw (identity_of first_frame) ∷ []
unfolding row effects
third_copy_at_omit_2 = refl

fourth_copy_at_omit_2 : effects 2 1 (Got first_frame ∷ Got first_frame ∷ Got first_frame ∷ Got first_frame ∷ []) ≡ Withdraw (identity_of first_frame) ∷ []
unfolding row effects
fourth_copy_at_omit_2 = refl

another_message_counts_apart :
    effects 1 1 (Got (ed 0 1 (2 ∷ [])) ∷ Got first_frame ∷ []) ≡ Enter (delivers 1 0 1 (2 ∷ [])) ∷ Ask (ed 0 1 (2 ∷ [])) ∷ []
unfolding row effects
another_message_counts_apart = refl

-- Lag.

-- Two Partial copies reach node 1 before it reads either: with omit 1 it asks and withdraws, and
-- node 2 never gets the one_message.
unfoldable twice_partial : ℕ → ScenarioParts
twice_partial omit = scenario (lag_1 5 omit) one_message (slot_rule 1 (Partial (set 4)) 0 ∷ slot_rule 2 (Partial (set 4)) 1 ∷ [])

too_many_partial_copies_lose_a_message : report (twice_partial 1) (steps (codes ".012.02.112.12.12")) ≡ broken_run kind.Omit 2 (steps (codes ".012.02.112.12.12"))
    (carries 1 first_frame 1 2 (Partial (set 4)) 0 ∷ carries 2 first_frame 1 2 (Partial (set 4)) 1 ∷ [])
    (stopped_node 2 2 [] ∷ running_node 5 (delivered 1) ∷ running_node 5 [] ∷ [])
    (true ∷ [])
unfolding row lag_1 twice_partial
too_many_partial_copies_lose_a_message = refl

-- with omit 2 the same run is within the hypothesis, and node 1 relays
two_partial_copies_within : report (twice_partial 2) (steps (codes ".012.02.112.12.12")) ≡ whole_run (steps (codes ".012.02.112.12.12"))
    (carries 1 first_frame 1 2 (Partial (set 4)) 0 ∷ carries 2 first_frame 1 2 (Partial (set 4)) 1 ∷ carries 3 first_frame 2 4 Clean 0 ∷ carries 4 first_frame 4 2 Clean 0 ∷ [])
    (stopped_node 2 2 [] ∷ running_node 5 (delivered 1) ∷ running_node 5 (delivered 3) ∷ [])
    (true ∷ [])
unfolding row lag_1 twice_partial
two_partial_copies_within = refl
