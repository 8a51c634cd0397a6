-- What RELCAN does in a turn, after a past, newest first, where the timer takes 2 slots.
use Rattle.std.specs.Prelude.{ℕ, ◌≡◌, List, [], ◌∷◌, refl}
use Rattle.cany_base.specs.declared.notice.NoticeKind.{NoticeKind}
use Rattle.cany_base.specs.declared.notice.NoticeKind.TheVariants.{Idle, Got, Sent, Bad}
use Rattle.cany_model.specs.Rules.Delivery.{delivery_effects}
use Rattle.cany_model.specs.Rules.Effect.{Effect, Ask, Withdraw, Enter}
use Rattle.cany_model.specs.Bus.Frames.{identity_of, same_class, same_identity}
use Rattle.cany_model.specs.Bus.History.{copies}
use Rattle.cany_model.specs.Rules.Relcan.{fell_back, relcan_at, relcan_effects, timer_effects}
use Rattle.cany_rows.proofs.RowWords.{confirm, delivers_rel, ed, first_confirm, first_rel, row, scenario, three}

unfoldable effects : ℕ → ℕ → List NoticeKind → List Effect
unfolding relcan_effects relcan_at timer_effects fell_back delivery_effects copies same_class same_identity
effects omit i past = relcan_effects (scenario (record (three 9 omit 2) { confirm = 2 }) [] []) i past

-- ---- the notice

first_copy_is_delivered : effects 1 1 (Got first_rel ∷ Idle ∷ []) ≡ Enter (delivers_rel 1 0 0 (1 ∷ [])) ∷ []
unfolding row effects
first_copy_is_delivered = refl

origin_confirms_at_its_own : effects 1 0 (Sent first_rel ∷ Idle ∷ []) ≡ Enter (delivers_rel 1 0 0 (1 ∷ [])) ∷ Ask first_confirm ∷ []
unfolding row effects
origin_confirms_at_its_own = refl

another_node_does_not : effects 1 1 (Sent first_rel ∷ Idle ∷ Idle ∷ Got first_rel ∷ []) ≡ []
unfolding row effects
another_node_does_not = refl

origin_that_got_a_copy_first : effects 1 0 (Sent first_rel ∷ Got first_rel ∷ []) ≡ Ask first_confirm ∷ []
unfolding row effects
origin_that_got_a_copy_first = refl

an_edcan_frame_is_not_its : effects 1 0 (Sent (ed 0 0 []) ∷ []) ≡ []
unfolding row effects
an_edcan_frame_is_not_its = refl

nor_is_one_got : effects 1 1 (Idle ∷ Idle ∷ Got (ed 0 0 []) ∷ []) ≡ []
unfolding row effects
nor_is_one_got = refl

-- ---- the timer

timer_runs_out : effects 1 1 (Idle ∷ Idle ∷ Got first_rel ∷ Idle ∷ []) ≡ Ask first_rel ∷ []
unfolding row effects
timer_runs_out = refl

not_one_slot_early : effects 1 1 (Idle ∷ Got first_rel ∷ Idle ∷ []) ≡ []
unfolding row effects
not_one_slot_early = refl

not_one_slot_late : effects 1 1 (Idle ∷ Idle ∷ Idle ∷ Got first_rel ∷ []) ≡ []
unfolding row effects
not_one_slot_late = refl

confirmation_stops_it : effects 1 1 (Idle ∷ Got first_confirm ∷ Got first_rel ∷ []) ≡ []
unfolding row effects
confirmation_stops_it = refl

also_in_the_very_slot : effects 1 1 (Got first_confirm ∷ Idle ∷ Got first_rel ∷ []) ≡ []
unfolding row effects
also_in_the_very_slot = refl

also_before_the_first_copy : effects 1 1 (Idle ∷ Idle ∷ Got first_rel ∷ Got first_confirm ∷ []) ≡ []
unfolding row effects
also_before_the_first_copy = refl

confirmation_of_another_message_does_not : effects 1 1 (Idle ∷ Got (confirm 0 1) ∷ Got first_rel ∷ []) ≡ Ask first_rel ∷ []
unfolding row effects
confirmation_of_another_message_does_not = refl

origin_has_no_timer : effects 1 0 (Idle ∷ Idle ∷ Got first_rel ∷ []) ≡ []
unfolding row effects
origin_has_no_timer = refl

second_copy_starts_none : effects 2 1 (Idle ∷ Idle ∷ Got first_rel ∷ Got first_rel ∷ []) ≡ []
unfolding row effects
second_copy_starts_none = refl

copies_enough_at_the_timer : effects 1 1 (Idle ∷ Got first_rel ∷ Got first_rel ∷ []) ≡ []
unfolding row effects
copies_enough_at_the_timer = refl

first_copy_enough_at_omit_0 : effects 0 1 (Idle ∷ Idle ∷ Got first_rel ∷ []) ≡ []
unfolding row effects
first_copy_enough_at_omit_0 = refl

a_copy_that_is_one_too_few : effects 2 1 (Bad ∷ Got first_rel ∷ Got first_rel ∷ []) ≡ Ask first_rel ∷ []
unfolding row effects
a_copy_that_is_one_too_few = refl

-- ---- after it

late_copy_withdraws : effects 1 1 (Got first_rel ∷ Idle ∷ Idle ∷ Got first_rel ∷ []) ≡ Withdraw (identity_of first_rel) ∷ []
unfolding row effects
late_copy_withdraws = refl

late_copy_below_enough : effects 2 1 (Got first_rel ∷ Idle ∷ Idle ∷ Got first_rel ∷ []) ≡ []
unfolding row effects
late_copy_below_enough = refl

-- a confirmation that is read later has no effect
late_confirmation : effects 1 1 (Got first_rel ∷ Got first_confirm ∷ Idle ∷ Idle ∷ Got first_rel ∷ []) ≡ Withdraw (identity_of first_rel) ∷ []
unfolding row effects
late_confirmation = refl

copy_in_the_very_slot : effects 1 1 (Got first_rel ∷ Idle ∷ Got first_rel ∷ []) ≡ []
unfolding row effects
copy_in_the_very_slot = refl

copy_after_that : effects 1 1 (Got first_rel ∷ Got first_rel ∷ Idle ∷ Got first_rel ∷ []) ≡ Withdraw (identity_of first_rel) ∷ []
unfolding row effects
copy_after_that = refl

confirmed_node_withdraws_nothing : effects 1 1 (Got first_rel ∷ Got first_rel ∷ Idle ∷ Got first_confirm ∷ Got first_rel ∷ []) ≡ []
unfolding row effects
confirmed_node_withdraws_nothing = refl

origin_withdraws_nothing : effects 1 0 (Got first_rel ∷ Got first_rel ∷ Got first_rel ∷ Got first_rel ∷ []) ≡ []
unfolding row effects
origin_withdraws_nothing = refl
