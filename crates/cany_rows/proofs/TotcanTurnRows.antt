-- What TOTCAN does in a turn, after a past, newest first, where a message closes 3 slots after its
-- place.
use Rattle.std.specs.Prelude.{ℕ, ◌≡◌, Bool, true, false, List, [], ◌∷◌, map, refl}
use Rattle.cany_base.specs.declared.log_entry.LogEntry.{LogEntry}
use Rattle.cany_base.specs.declared.message.Service.{Service}
use Rattle.cany_base.specs.declared.message.Service.TheVariants as service
use Rattle.cany_base.specs.declared.notice.NoticeKind.{NoticeKind}
use Rattle.cany_base.specs.declared.notice.NoticeKind.TheVariants.{Idle, Got, Sent, Bad}
use Rattle.cany_base.specs.Frame.{FrameParts}
use Rattle.cany_base.specs.Params.{Parameters}
use Rattle.cany_model.specs.Bus.Frames.{identity_of}
use Rattle.cany_model.specs.Rules.Effect.{Effect, Ask, Withdraw, Enter, waiting_after}
use Rattle.cany_model.specs.Rules.Messages.{Message}
use Rattle.cany_model.specs.Rules.Totcan.{has_closing_ahead, totcan_effects}
use Rattle.cany_model.specs.Rules.Turn.{turn_effects}
use Rattle.cany_rows.proofs.RowWords.{accept, delivers_tot, ed, first_accept, first_confirm, first_rel, first_tot, rel, report, row, scenario, send, send_tot, three, tot}

-- messages of nodes 1 and 2, beside the first one of node 0
abbrev second_tot : FrameParts
second_tot = tot 1 0 (2 ∷ [])

abbrev second_accept : FrameParts
second_accept = accept 1 0

abbrev third_tot : FrameParts
third_tot = tot 2 0 (3 ∷ [])

unfoldable first_delivered : ℕ → LogEntry
first_delivered slot = delivers_tot slot 0 0 (1 ∷ [])

unfoldable second_delivered : ℕ → LogEntry
second_delivered slot = delivers_tot slot 1 0 (2 ∷ [])

unfoldable third_delivered : ℕ → LogEntry
third_delivered slot = delivers_tot slot 2 0 (3 ∷ [])

unfoldable closes_after_3 : ℕ → Parameters
closes_after_3 omit = record (three 9 omit 2) { bound = 3 }

unfoldable effects : ℕ → ℕ → List NoticeKind → List Effect
unfolding report
effects omit i past = totcan_effects (scenario (closes_after_3 omit) [] []) i past

-- at node 2, where a message closes 5 slots after its place
unfoldable wide_effects : List NoticeKind → List Effect
unfolding report
wide_effects past = totcan_effects (scenario (record (three 9 1 2) { bound = 5 }) [] []) 2 past

-- opens all that a row here is written with
unfoldable turn_row : Unit {0}
unfolding row effects wide_effects closes_after_3 first_delivered second_delivered third_delivered
turn_row = tt

-- ---- a message that is held, and a frame that accepts it

first_copy_waits : effects 1 2 (Got first_tot ∷ Idle ∷ []) ≡ []
unfolding turn_row
first_copy_waits = refl

accepted_in_the_next_slot : effects 1 2 (Got first_accept ∷ Got first_tot ∷ []) ≡ Ask first_accept ∷ Enter (first_delivered 1) ∷ []
unfolding turn_row
accepted_in_the_next_slot = refl

-- In the last slot of the window a frame is in time. It is asked for, and withdrawn by the closing
-- of the same turn.
accepted_in_the_last_slot :
    effects 1 2 (Got first_accept ∷ Idle ∷ Idle ∷ Got first_tot ∷ []) ≡ Ask first_accept ∷ Withdraw (identity_of first_accept) ∷ Enter (first_delivered 3) ∷ []
unfolding turn_row
accepted_in_the_last_slot = refl

nothing_waits_after_it : waiting_after (effects 1 2 (Got first_accept ∷ Idle ∷ Idle ∷ Got first_tot ∷ [])) [] ≡ []
unfolding turn_row
nothing_waits_after_it = refl

not_one_slot_later : effects 1 2 (Got first_accept ∷ Idle ∷ Idle ∷ Idle ∷ Got first_tot ∷ []) ≡ []
unfolding turn_row
not_one_slot_later = refl

one_that_is_not_held : effects 1 2 (Got first_accept ∷ Idle ∷ []) ≡ []
unfolding turn_row
one_that_is_not_held = refl

frame_before_the_place_does_not_accept : effects 1 2 (Got first_tot ∷ Got first_accept ∷ []) ≡ []
unfolding turn_row
frame_before_the_place_does_not_accept = refl

frame_of_another_message_does_not : effects 1 2 (Got second_accept ∷ Got first_tot ∷ []) ≡ []
unfolding turn_row
frame_of_another_message_does_not = refl

nor_one_of_another_number : effects 1 2 (Got (accept 0 1) ∷ Got first_tot ∷ []) ≡ []
unfolding turn_row
nor_one_of_another_number = refl

confirmation_does_not : effects 1 2 (Got first_confirm ∷ Got first_tot ∷ []) ≡ []
unfolding turn_row
confirmation_does_not = refl

own_transmission_of_it_does_not : effects 1 2 (Sent first_accept ∷ Got first_tot ∷ []) ≡ []
unfolding turn_row
own_transmission_of_it_does_not = refl

data_frame_of_another_service_is_not_its : effects 1 2 (Got first_accept ∷ Got first_rel ∷ []) ≡ []
unfolding turn_row
data_frame_of_another_service_is_not_its = refl

rejected_frame_is_not_held : effects 1 2 (Got first_accept ∷ Bad ∷ []) ≡ []
unfolding turn_row
rejected_frame_is_not_held = refl

-- ---- the origin

origin_accepts_at_its_own : effects 1 0 (Sent first_tot ∷ Idle ∷ []) ≡ Ask first_accept ∷ Enter (first_delivered 1) ∷ []
unfolding turn_row
origin_accepts_at_its_own = refl

also_at_omit_0 : effects 0 0 (Sent first_tot ∷ Idle ∷ []) ≡ Ask first_accept ∷ Enter (first_delivered 1) ∷ []
unfolding turn_row
also_at_omit_0 = refl

own_of_another_origin : effects 1 2 (Sent first_tot ∷ Idle ∷ []) ≡ []
unfolding turn_row
own_of_another_origin = refl

-- which no run has: a node does not get what it sends
origin_gets_its_own_message : effects 1 0 (Got first_tot ∷ Idle ∷ []) ≡ []
unfolding turn_row
origin_gets_its_own_message = refl

own_of_another_service : effects 1 0 (Sent first_rel ∷ Idle ∷ []) ≡ []
unfolding turn_row
own_of_another_service = refl

origin_reads_an_error : effects 1 0 (Bad ∷ Idle ∷ []) ≡ []
unfolding turn_row
origin_reads_an_error = refl

-- ---- the eager rule, by the frames that were read after the place

second_copy_withdraws : effects 1 2 (Got first_accept ∷ Got first_accept ∷ Got first_tot ∷ []) ≡ Withdraw (identity_of first_accept) ∷ []
unfolding turn_row
second_copy_withdraws = refl

first_copy_is_enough_at_omit_0 :
    effects 0 2 (Got first_accept ∷ Got first_tot ∷ []) ≡ Withdraw (identity_of first_accept) ∷ Enter (first_delivered 1) ∷ []
unfolding turn_row
first_copy_is_enough_at_omit_0 = refl

second_copy_at_omit_2 : effects 2 2 (Got first_accept ∷ Got first_accept ∷ Got first_tot ∷ []) ≡ []
unfolding turn_row
second_copy_at_omit_2 = refl

-- it is the closing of this turn that withdraws at the third copy too
third_copy_at_omit_2 :
    effects 2 2 (Got first_accept ∷ Got first_accept ∷ Got first_accept ∷ Got first_tot ∷ [])
    ≡ Withdraw (identity_of first_accept) ∷ Withdraw (identity_of first_accept) ∷ []
unfolding turn_row
third_copy_at_omit_2 = refl

first_copy_after_own : effects 1 0 (Got first_accept ∷ Sent first_accept ∷ Sent first_tot ∷ []) ≡ []
unfolding turn_row
first_copy_after_own = refl

first_copy_before_own : effects 1 0 (Got first_accept ∷ Sent first_tot ∷ []) ≡ Ask first_accept ∷ []
unfolding turn_row
first_copy_before_own = refl

copy_before_the_place_does_not_count :
    effects 1 2 (Got first_accept ∷ Got first_tot ∷ Got first_accept ∷ []) ≡ Ask first_accept ∷ Enter (first_delivered 2) ∷ []
unfolding turn_row
copy_before_the_place_does_not_count = refl

-- a copy of a message that was delivered: the place moves, the count begins anew, and it is not
-- delivered again
copy_before_a_later_place_does_not_count :
    effects 1 2 (Got first_accept ∷ Got first_tot ∷ Got first_accept ∷ Got first_tot ∷ []) ≡ Ask first_accept ∷ []
unfolding turn_row
copy_before_a_later_place_does_not_count = refl

own_before_a_later_place_does_not_count :
    effects 1 2 (Got first_accept ∷ Got first_tot ∷ Sent first_accept ∷ Got first_accept ∷ Got first_tot ∷ []) ≡ Ask first_accept ∷ []
unfolding turn_row
own_before_a_later_place_does_not_count = refl

copy_after_the_closing_does_not_count :
    effects 1 2 (Got first_accept ∷ Got first_tot ∷ Got first_accept ∷ Idle ∷ Idle ∷ Idle ∷ Got first_tot ∷ [])
    ≡ Ask first_accept ∷ Enter (first_delivered 6) ∷ []
unfolding turn_row
copy_after_the_closing_does_not_count = refl

-- ---- the closing

closing_of_an_unaccepted_message : effects 1 2 (Idle ∷ Idle ∷ Idle ∷ Got first_tot ∷ []) ≡ Withdraw (identity_of first_accept) ∷ []
unfolding turn_row
closing_of_an_unaccepted_message = refl

closing_of_an_accepted_message : effects 1 2 (Idle ∷ Idle ∷ Got first_accept ∷ Got first_tot ∷ []) ≡ Withdraw (identity_of first_accept) ∷ []
unfolding turn_row
closing_of_an_accepted_message = refl

closing_at_the_origin : effects 1 0 (Idle ∷ Idle ∷ Idle ∷ Sent first_tot ∷ []) ≡ Withdraw (identity_of first_accept) ∷ []
unfolding turn_row
closing_at_the_origin = refl

closing_not_one_slot_early : effects 1 2 (Idle ∷ Idle ∷ Got first_tot ∷ []) ≡ []
unfolding turn_row
closing_not_one_slot_early = refl

closing_not_one_slot_late : effects 1 2 (Idle ∷ Idle ∷ Idle ∷ Idle ∷ Got first_tot ∷ []) ≡ []
unfolding turn_row
closing_not_one_slot_late = refl

-- a copy in the slot of the closing moves the place first
copy_in_the_slot_of_the_closing : effects 1 2 (Got first_tot ∷ Idle ∷ Idle ∷ Got first_tot ∷ []) ≡ []
unfolding turn_row
copy_in_the_slot_of_the_closing = refl

-- a frame of another message there does not
another_copy_in_the_slot_of_the_closing : effects 1 2 (Got second_tot ∷ Idle ∷ Idle ∷ Got first_tot ∷ []) ≡ Withdraw (identity_of first_accept) ∷ []
unfolding turn_row
another_copy_in_the_slot_of_the_closing = refl

-- ---- the place

-- the window of the later place: the first closed in slot 3, the frame comes in slot 5
late_copy_opens_a_later_window :
    effects 1 2 (Got first_accept ∷ Idle ∷ Idle ∷ Got first_tot ∷ Idle ∷ Got first_tot ∷ [])
    ≡ Ask first_accept ∷ Withdraw (identity_of first_accept) ∷ Enter (first_delivered 5) ∷ []
unfolding turn_row
late_copy_opens_a_later_window = refl

-- an older message that is neither accepted nor closed holds back a later one
older_message_holds_back : effects 1 2 (Got second_accept ∷ Got second_tot ∷ Got first_tot ∷ []) ≡ Ask second_accept ∷ []
unfolding turn_row
older_message_holds_back = refl

late_copy_moves_the_place :
    wide_effects (Got second_accept ∷ Got first_tot ∷ Got second_tot ∷ Got first_tot ∷ []) ≡ Ask second_accept ∷ Enter (second_delivered 3) ∷ []
unfolding turn_row
late_copy_moves_the_place = refl

-- without that copy the first message holds it back
without_a_late_copy : wide_effects (Got second_accept ∷ Idle ∷ Got second_tot ∷ Got first_tot ∷ []) ≡ Ask second_accept ∷ []
unfolding turn_row
without_a_late_copy = refl

-- the place that a copy moved comes after that of the other message, which is pending
late_copy_is_held_back : wide_effects (Got first_accept ∷ Got first_tot ∷ Got second_tot ∷ Got first_tot ∷ []) ≡ Ask first_accept ∷ []
unfolding turn_row
late_copy_is_held_back = refl

-- a copy after the closing is a new place
copy_after_a_closing :
    effects 1 2 (Got first_accept ∷ Got first_tot ∷ Idle ∷ Idle ∷ Idle ∷ Got first_tot ∷ []) ≡ Ask first_accept ∷ Enter (first_delivered 5) ∷ []
unfolding turn_row
copy_after_a_closing = refl

copy_after_a_closing_is_held_back :
    effects 1 2 (Got first_accept ∷ Got first_tot ∷ Got second_tot ∷ Idle ∷ Idle ∷ Idle ∷ Got first_tot ∷ []) ≡ Ask first_accept ∷ []
unfolding turn_row
copy_after_a_closing_is_held_back = refl

-- After its place moved the first message is not accepted any more, though it was delivered before.
-- So it holds the second back, until it closes in slot 5. No run has this: a data frame that was
-- sent with success is not sent again.
moved_message_is_not_accepted :
    effects 1 2 (Got second_accept ∷ Got second_tot ∷ Got first_tot ∷ Got first_accept ∷ Got first_tot ∷ []) ≡ Ask second_accept ∷ []
unfolding turn_row
moved_message_is_not_accepted = refl

moved_message_closes :
    effects 1 2 (Idle ∷ Got second_accept ∷ Got second_tot ∷ Got first_tot ∷ Got first_accept ∷ Got first_tot ∷ [])
    ≡ Withdraw (identity_of first_accept) ∷ Enter (second_delivered 5) ∷ []
unfolding turn_row
moved_message_closes = refl

-- ---- deliveries

-- the closing of the older message in slot 3 lets the later one go, which was accepted in slot 2
closing_lets_a_later_one_go :
    effects 1 2 (Idle ∷ Got second_accept ∷ Got second_tot ∷ Got first_tot ∷ []) ≡ Withdraw (identity_of first_accept) ∷ Enter (second_delivered 3) ∷ []
unfolding turn_row
closing_lets_a_later_one_go = refl

not_again_in_the_next_turn : effects 1 2 (Idle ∷ Idle ∷ Got second_accept ∷ Got second_tot ∷ Got first_tot ∷ []) ≡ Withdraw (identity_of second_accept) ∷ []
unfolding turn_row
not_again_in_the_next_turn = refl

closed_message_is_passed_over :
    effects 1 2 (Got second_accept ∷ Got second_tot ∷ Idle ∷ Idle ∷ Idle ∷ Got first_tot ∷ []) ≡ Ask second_accept ∷ Enter (second_delivered 5) ∷ []
unfolding turn_row
closed_message_is_passed_over = refl

-- node 1 is the origin of the second message, and accepted it at its own transmission: the first
-- one lets it go
two_in_the_order_of_their_places :
    effects 1 1 (Got first_accept ∷ Sent second_tot ∷ Got first_tot ∷ []) ≡ Ask first_accept ∷ Enter (first_delivered 2) ∷ Enter (second_delivered 2) ∷ []
unfolding turn_row
two_in_the_order_of_their_places = refl

-- the other way round at node 0: the order is that of the places, not of the origins
two_in_the_other_order :
    effects 1 0 (Got second_accept ∷ Sent first_tot ∷ Got second_tot ∷ []) ≡ Ask second_accept ∷ Enter (second_delivered 2) ∷ Enter (first_delivered 2) ∷ []
unfolding turn_row
two_in_the_other_order = refl

-- In slot 3 the first message closes, and the second is accepted: both later ones go.
closing_and_acceptance_in_one_turn :
    effects 1 2 (Got second_accept ∷ Sent third_tot ∷ Got second_tot ∷ Got first_tot ∷ [])
    ≡ Ask second_accept ∷ Withdraw (identity_of first_accept) ∷ Enter (second_delivered 3) ∷ Enter (third_delivered 3) ∷ []
unfolding turn_row
closing_and_acceptance_in_one_turn = refl

-- if only the closing comes, the second still holds the third back
second_still_holds_back : effects 1 2 (Idle ∷ Sent third_tot ∷ Got second_tot ∷ Got first_tot ∷ []) ≡ Withdraw (identity_of first_accept) ∷ []
unfolding turn_row
second_still_holds_back = refl

-- also where other notices lie between the two
held_back_from_afar : effects 1 2 (Sent third_tot ∷ Bad ∷ Got first_tot ∷ []) ≡ Ask (accept 2 0) ∷ []
unfolding turn_row
held_back_from_afar = refl

one_after_another :
    wide_effects (Got second_accept ∷ Got second_tot ∷ Got first_accept ∷ Got first_tot ∷ []) ≡ Ask second_accept ∷ Enter (second_delivered 3) ∷ []
unfolding turn_row
one_after_another = refl

own_message_is_held_back : effects 1 1 (Sent second_tot ∷ Got first_tot ∷ []) ≡ Ask second_accept ∷ []
unfolding turn_row
own_message_is_held_back = refl

later_message_does_not_hold_back :
    effects 1 2 (Got first_accept ∷ Got second_tot ∷ Got first_tot ∷ []) ≡ Ask first_accept ∷ Enter (first_delivered 2) ∷ []
unfolding turn_row
later_message_does_not_hold_back = refl

not_delivered_twice : effects 2 2 (Got first_accept ∷ Got first_accept ∷ Got first_tot ∷ Idle ∷ []) ≡ []
unfolding turn_row
not_delivered_twice = refl

-- ---- what is ahead

unfoldable first_message : Service → Message
first_message by = record { slot = 0; origin = 0; seq = 0; service = by; payload = 1 ∷ [] }

unfoldable is_ahead : Service → List NoticeKind → Bool
is_ahead by past = has_closing_ahead (scenario (closes_after_3 1) [] []) (first_message by) 2 past

closing_is_ahead_until_its_slot :
    map (is_ahead service.Tot) ((Got first_tot ∷ []) ∷ (Got first_accept ∷ Got first_tot ∷ []) ∷ (Idle ∷ Idle ∷ Got first_tot ∷ [])
    ∷ (Idle ∷ Idle ∷ Idle ∷ Got first_tot ∷ []) ∷ (Got first_tot ∷ Idle ∷ Idle ∷ Got first_tot ∷ []) ∷ [])
    ≡ true ∷ true ∷ true ∷ false ∷ true ∷ []
unfolding turn_row first_message is_ahead
closing_is_ahead_until_its_slot = refl

none_is_ahead_of_what_is_not_held :
    map (is_ahead service.Tot) ([] ∷ (Got first_accept ∷ []) ∷ (Got second_tot ∷ []) ∷ (Got (tot 0 1 []) ∷ []) ∷ [])
    ≡ false ∷ false ∷ false ∷ false ∷ []
unfolding turn_row first_message is_ahead
none_is_ahead_of_what_is_not_held = refl

nor_of_another_service : map (λ by. is_ahead by (Got first_tot ∷ [])) (service.Ed ∷ service.Rel ∷ []) ≡ false ∷ false ∷ []
unfolding turn_row first_message is_ahead
nor_of_another_service = refl

-- ---- the order of a turn

-- In slot 4 the timer of a RELCAN message runs out, a TOTCAN message closes and lets another go,
-- and node 0 sends two messages: that of its backlog comes last, though it stands first in the
-- file.
all_in_one_turn :
    turn_effects (scenario (record (three 9 1 2) { bound = 4; confirm = 2 }) (send_tot 4 0 (5 ∷ []) ∷ send 4 0 (6 ∷ []) ∷ []) []) 0
    (Idle ∷ Got (accept 2 0) ∷ Got (rel 1 1 (4 ∷ [])) ∷ Got third_tot ∷ Got second_tot ∷ [])
    ≡ Ask (rel 1 1 (4 ∷ [])) ∷ Withdraw (identity_of second_accept) ∷ Enter (third_delivered 4) ∷ Ask (ed 0 1 (6 ∷ [])) ∷ Ask (tot 0 0 (5 ∷ [])) ∷ []
unfolding turn_row
all_in_one_turn = refl
