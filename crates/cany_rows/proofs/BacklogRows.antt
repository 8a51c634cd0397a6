-- What a node does for its backlog in a turn, after a past, newest first. The next message is asked
-- for 4 slots after the place of the one before: bound is 3 and lag is 1.
use Rattle.std.specs.Prelude.{ℕ, ◌≡◌, ◌++◌, List, [], ◌∷◌, map, replicate, refl}
use Rattle.cany_base.specs.declared.message.SendAsk.{SendAsk}
use Rattle.cany_base.specs.declared.notice.NoticeKind.{NoticeKind}
use Rattle.cany_base.specs.declared.notice.NoticeKind.TheVariants.{Idle, Got, Sent, Bad}
use Rattle.cany_base.specs.Frame.{FrameParts}
use Rattle.cany_base.specs.Scenario.{ScenarioParts}
use Rattle.cany_model.specs.Rules.Backlog.{asked, backlog, backlog_effects}
use Rattle.cany_model.specs.Rules.Effect.{Effect, Ask}
use Rattle.cany_model.specs.Rules.Turn.{turn_effects}
use Rattle.cany_rows.proofs.RowWords.{ed, first_tot, report, row, scenario, send, send_rel, send_tot, three, tot}

unfoldable four_apart : List SendAsk → ScenarioParts
four_apart sends = scenario (record (three 99 1 2) { bound = 3; lag = 1 }) sends []

-- of node 0
unfoldable effects : List SendAsk → List NoticeKind → List Effect
unfolding report
effects sends past = backlog_effects (four_apart sends) 0 past

-- the numbers of the messages that stand in the backlog of node 0 after so many slots
unfoldable numbers : ScenarioParts → ℕ → List ℕ
unfolding report
numbers sc slots = map (λ m. m.seq) (backlog sc 0 (replicate slots Idle))

-- so many idle slots after these notices
unfoldable idle_after : ℕ → List NoticeKind → List NoticeKind
idle_after slots past = replicate slots Idle ++ past

-- so many after slot 1, in which the first message was sent
unfoldable after_first : ℕ → List NoticeKind
after_first slots = idle_after slots (Sent first_tot ∷ Idle ∷ [])

-- opens all that a row here is written with
unfoldable backlog_row : Unit {0}
unfolding row four_apart effects numbers idle_after after_first
backlog_row = tt

-- two messages of slot 0, and one of slot 2
unfoldable two : List SendAsk
two = send_tot 0 0 (1 ∷ []) ∷ send_tot 0 0 (2 ∷ []) ∷ []

abbrev second_tot : FrameParts
second_tot = tot 0 1 (2 ∷ [])

-- ---- the first message

asked_for_in_its_slot :
    map (λ slots. effects (send_tot 2 0 (1 ∷ []) ∷ []) (replicate slots Idle)) (2 ∷ 3 ∷ 4 ∷ []) ≡ [] ∷ (Ask first_tot ∷ []) ∷ [] ∷ []
unfolding backlog_row
asked_for_in_its_slot = refl

before_any_turn : effects two [] ≡ []
unfolding backlog_row
before_any_turn = refl

-- ---- the second

first_of_two : effects two (Idle ∷ []) ≡ Ask first_tot ∷ []
unfolding backlog_row two
first_of_two = refl

-- the first was sent in slot 1: bound and lag after that is slot 5
second_of_two : effects two (after_first 4) ≡ Ask second_tot ∷ []
unfolding backlog_row two
second_of_two = refl

second_not_one_slot_early : effects two (after_first 3) ≡ []
unfolding backlog_row two
second_not_one_slot_early = refl

second_not_twice : effects two (after_first 5) ≡ []
unfolding backlog_row two
second_not_twice = refl

second_not_at_the_own_of_the_first : effects two (Sent first_tot ∷ Idle ∷ []) ≡ []
unfolding backlog_row two
second_not_at_the_own_of_the_first = refl

-- not so long as the own transmission of the first is not read, though its slot lies far back
second_not_before_the_own_of_the_first :
    map (effects two) (replicate 12 Idle ∷ replicate 9 Bad ∷ idle_after 9 (Got first_tot ∷ Idle ∷ []) ∷ idle_after 9 (Sent (ed 0 0 (1 ∷ [])) ∷ Idle ∷ []) ∷ [])
    ≡ [] ∷ [] ∷ [] ∷ [] ∷ []
unfolding backlog_row two
second_not_before_the_own_of_the_first = refl

asked_for_so_far :
    map (asked (four_apart two) 0)
    ([] ∷ replicate 1 Idle ∷ replicate 9 Idle ∷ after_first 3 ∷ after_first 4 ∷ after_first 9 ∷ [])
    ≡ 0 ∷ 1 ∷ 1 ∷ 1 ∷ 2 ∷ 2 ∷ []
unfolding backlog_row two
asked_for_so_far = refl

-- one that is scripted while the node waits is asked for in slot 5 too, and one of a later slot in
-- that slot
scripted_while_it_waits :
    map (effects (send_tot 0 0 (1 ∷ []) ∷ send_tot 3 0 (2 ∷ []) ∷ []))
    (map after_first (2 ∷ 3 ∷ 4 ∷ []))
    ≡ [] ∷ [] ∷ (Ask second_tot ∷ []) ∷ []
unfolding backlog_row
scripted_while_it_waits = refl

scripted_after_it_waited :
    map (effects (send_tot 0 0 (1 ∷ []) ∷ send_tot 7 0 (2 ∷ []) ∷ []))
    (map after_first (4 ∷ 5 ∷ 6 ∷ 7 ∷ []))
    ≡ [] ∷ [] ∷ (Ask second_tot ∷ []) ∷ [] ∷ []
unfolding backlog_row
scripted_after_it_waited = refl

-- the third waits for the place of the second, which was sent in slot 6: until slot 10
third_waits_for_the_second :
    map (effects (two ++ send_tot 0 0 (3 ∷ []) ∷ []))
    (idle_after 3 (Sent second_tot ∷ after_first 4) ∷ idle_after 4 (Sent second_tot ∷ after_first 4) ∷ after_first 9 ∷ [])
    ≡ [] ∷ (Ask (tot 0 2 (3 ∷ [])) ∷ []) ∷ [] ∷ []
unfolding backlog_row two
third_waits_for_the_second = refl

-- ---- its order

one_slot_in_file_order :
    map (numbers (four_apart (send_tot 0 0 [] ∷ send_tot 0 0 [] ∷ send_tot 0 0 [] ∷ []))) (0 ∷ 1 ∷ 2 ∷ [])
    ≡ [] ∷ (0 ∷ 1 ∷ 2 ∷ []) ∷ (0 ∷ 1 ∷ 2 ∷ []) ∷ []
unfolding backlog_row
one_slot_in_file_order = refl

different_slots_by_slot :
    map (numbers (four_apart (send_tot 3 0 [] ∷ send_tot 0 0 [] ∷ send_tot 1 0 [] ∷ send_tot 0 0 [] ∷ []))) (1 ∷ 2 ∷ 3 ∷ 4 ∷ [])
    ≡ (1 ∷ 3 ∷ []) ∷ (1 ∷ 3 ∷ 2 ∷ []) ∷ (1 ∷ 3 ∷ 2 ∷ []) ∷ (1 ∷ 3 ∷ 2 ∷ 0 ∷ []) ∷ []
unfolding backlog_row
different_slots_by_slot = refl

-- the numbers count all sends of the node, and those of other nodes and services do not join
only_its_own_by_totcan :
    numbers (four_apart (send 0 0 [] ∷ send_tot 0 1 [] ∷ send_tot 0 0 [] ∷ send_rel 0 0 [] ∷ send_tot 0 2 [] ∷ send_tot 0 0 [] ∷ [])) 4 ≡ 1 ∷ 3 ∷ []
unfolding backlog_row
only_its_own_by_totcan = refl

-- the later one of the file is asked for first, as its slot comes first
asked_for_by_slot :
    (let sends : List SendAsk = send_tot 3 0 (1 ∷ []) ∷ send_tot 0 0 (2 ∷ []) ∷ [] in
    map (effects sends) ((Idle ∷ []) ∷ idle_after 3 (Sent second_tot ∷ Idle ∷ []) ∷ idle_after 4 (Sent second_tot ∷ Idle ∷ []) ∷ []))
    ≡ (Ask second_tot ∷ []) ∷ [] ∷ (Ask first_tot ∷ []) ∷ []
unfolding backlog_row
asked_for_by_slot = refl

-- ---- the first slot in which an incarnation takes part

-- that of slot 2 never joins where this is slot 3
unfoldable from_3 : ScenarioParts
from_3 = record (four_apart (send_tot 2 0 (1 ∷ []) ∷ send_tot 3 0 (2 ∷ []) ∷ [])) { from = 3 }

scripted_before_it : map (numbers from_3) (3 ∷ 4 ∷ 9 ∷ []) ≡ [] ∷ (1 ∷ []) ∷ (1 ∷ []) ∷ []
unfolding backlog_row from_3
scripted_before_it = refl

asked_for_since_then :
    map (λ slots. backlog_effects from_3 0 (replicate slots Idle)) (3 ∷ 4 ∷ 5 ∷ []) ≡ [] ∷ (Ask second_tot ∷ []) ∷ [] ∷ []
unfolding backlog_row from_3
asked_for_since_then = refl

-- ---- in a turn

-- the sends of a slot come before the message of the backlog
after_the_scripted_sends :
    turn_effects (four_apart (send_tot 0 0 (1 ∷ []) ∷ send 0 0 (2 ∷ []) ∷ [])) 0 (Idle ∷ []) ≡ Ask (ed 0 1 (2 ∷ [])) ∷ Ask first_tot ∷ []
unfolding backlog_row
after_the_scripted_sends = refl
