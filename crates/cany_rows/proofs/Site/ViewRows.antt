-- Worked rows of views: asks to join and to leave, what a member starts a cycle with, and how a
-- vector becomes the view. Cycles have 8 slots and end in their slots 3, so cycle 1 starts in slot
-- 8 and ends in slot 11.
use Rattle.std.specs.Prelude.{ℕ, ◌+◌, ◌/◌, ◌≡◌, List, [], ◌∷◌, ◌++◌, Some, None, map, replicate, refl}
use Rattle.cany_base.specs.declared.log_entry.LogEntry.TheVariants.{Failed, View}
use Rattle.cany_base.specs.declared.message.NodeAsk.{NodeAsk}
use Rattle.cany_base.specs.declared.notice.NoticeKind.{NoticeKind}
use Rattle.cany_base.specs.declared.notice.NoticeKind.TheVariants.{Idle, Got, Sent, Bad}
use Rattle.cany_base.specs.Scenario.{ScenarioParts}
use Rattle.cany_model.specs.Bus.Frames.{identity_of}
use Rattle.cany_model.specs.Rules.Effect.{Effect, Ask, Withdraw, Enter, waiting_after}
use Rattle.cany_model.specs.Rules.Membership.{ask_effects, exchange_effects, install_effects}
use Rattle.cany_model.specs.Rules.KnowledgeOf.{knowledge_of}
use Rattle.cany_model.specs.Rules.Knowledge.{Knowledge, knowledge_at_first}
use Rattle.cany_model.specs.Rules.Turn.{turn_effects}
use Rattle.cany_model.specs.Rules.Views.{after_ask, start_of, with_ended}
use Rattle.cany_rows.proofs.RowWords.{ed, report, scenario, send, send_tot, set, tot}
use Rattle.cany_rows.proofs.Site.SiteWords.{asks_at, classes, els, fda, idle_slots, join, leave, of_members, plain, read, rha, short_cycles, site_row, with_asks}

-- ---- what a row is written with

unfoldable site : ℕ → ScenarioParts
site members = of_members members (scenario (short_cycles 1) [] [])

-- the bits of the members and of those that have failed, that join and that leave
pub record Known : Type 0 where
  pub members : ℕ
  pub failed : ℕ
  pub joiners : ℕ
  pub leavers : ℕ

unfoldable known : ℕ → ℕ → ℕ → ℕ → Known
known members failed joiners leavers = record { members = members; failed = failed; joiners = joiners; leavers = leavers }

unfoldable of_knowledge : Knowledge → Known
of_knowledge st = record { members = st.members.bits; failed = st.failed.bits; joiners = st.joiners.bits; leavers = st.leavers.bits }

-- what node 0 knows after these notices, read from slot 8 on
unfoldable knows : ℕ → List NoticeKind → Known
unfolding report
knows members notices = of_knowledge (knowledge_of (site members) 0 (read 8 notices))

unfoldable knowledge : ℕ → ℕ → ℕ → ℕ → Knowledge
knowledge members failed joiners leavers =
    record (knowledge_at_first (set members)) { failed = set failed; joiners = set joiners; leavers = set leavers }

unfoldable view_row : Unit {0}
unfolding site_row site known of_knowledge knows knowledge
view_row = tt

-- ---- asks that are heard

-- Node 0 hears a frame of each class of another member, and of a node that is none. A node that is
-- no member joins, and a member leaves.
asks_by_class :
    map (λ node. map (λ c. let st = after_ask (Got (plain c node 0)) (knowledge 3 0 0 0) in st.joiners.bits ∷ st.leavers.bits ∷ []) classes) (1 ∷ 2 ∷ [])
    ≡ (let none : List ℕ = 0 ∷ 0 ∷ [] in
    (none ∷ none ∷ none ∷ none ∷ none ∷ (0 ∷ 2 ∷ []) ∷ none ∷ none ∷ none ∷ none ∷ [])
    ∷ (none ∷ none ∷ none ∷ none ∷ (4 ∷ 0 ∷ []) ∷ none ∷ none ∷ none ∷ none ∷ none ∷ []) ∷ [])
unfolding view_row
asks_by_class = refl

-- of its own asks, as it reads that it has sent them, that to leave counts where it is a member,
-- and that to join does not
own_asks :
    map (λ members. map (λ f. of_knowledge (after_ask (Sent f) (knowledge members 0 0 0))) (join 0 0 ∷ leave 0 0 ∷ els 0 0 ∷ [])) (3 ∷ 2 ∷ [])
    ≡ (known 3 0 0 0 ∷ known 3 0 0 1 ∷ known 3 0 0 0 ∷ []) ∷ replicate 3 (known 2 0 0 0) ∷ []
unfolding view_row
own_asks = refl

-- they come together
asks_come_together :
    map (knows 3) ((Idle ∷ Got (join 2 1) ∷ Got (leave 1 1) ∷ []) ∷ (Idle ∷ Got (join 2 0) ∷ Got (join 3 5) ∷ []) ∷ (Idle ∷ Sent (leave 0 1) ∷ Got (leave 1 1) ∷ []) ∷ (Idle ∷ Bad ∷ []) ∷ [])
    ≡ known 3 0 4 2 ∷ known 3 0 12 0 ∷ known 3 0 0 3 ∷ known 3 0 0 0 ∷ []
unfolding view_row
asks_come_together = refl

-- a node that is no member hears them too
non_member_hears_asks : map (knows 6) ((Idle ∷ Got (join 3 1) ∷ []) ∷ (Idle ∷ Got (leave 1 1) ∷ []) ∷ []) ≡ known 6 0 8 0 ∷ known 6 0 0 2 ∷ []
unfolding view_row
non_member_hears_asks = refl

-- ---- the start of a cycle

-- what node 0 starts with: its members that have not failed and do not leave, and those that join,
-- be they failed or not
starts_with :
    map (start_of 0) (knowledge 7 0 0 0 ∷ knowledge 7 2 0 0 ∷ knowledge 7 0 0 2 ∷ knowledge 7 0 8 0 ∷ knowledge 7 10 8 4 ∷ knowledge 7 1 0 0 ∷ knowledge 7 0 0 1 ∷ knowledge 7 7 0 0 ∷ [])
    ≡ map (λ bits. Some (set bits)) (7 ∷ 5 ∷ 5 ∷ 15 ∷ 9 ∷ 6 ∷ 6 ∷ 0 ∷ [])
unfolding view_row
starts_with = refl

non_member_starts_with_nothing : map (start_of 0) (knowledge 6 0 0 0 ∷ knowledge 0 0 7 0 ∷ knowledge 6 0 1 0 ∷ []) ≡ None ∷ None ∷ None ∷ []
unfolding view_row
non_member_starts_with_nothing = refl

-- The notice of the slot in which the cycle starts counts: node 0 reads it in slot 8.
notice_of_the_start :
    map (λ notice. exchange_effects (site 7) 0 (read 8 (notice ∷ [])))
    (Idle ∷ Got (join 3 1) ∷ Got (leave 1 1) ∷ Sent (leave 0 1) ∷ Sent (join 0 1) ∷ Got (fda 2 1) ∷ Got (leave 3 1) ∷ [])
    ≡ map (λ bits. Ask (rha 0 1 bits) ∷ []) (7 ∷ 15 ∷ 5 ∷ 6 ∷ 7 ∷ 3 ∷ 7 ∷ [])
unfolding view_row
notice_of_the_start = refl

-- one of a later slot does not change the vector any more, and counts in the next cycle, which
-- starts in slot 16
notice_after_the_start :
    map (λ notice. let past = read 8 (Idle ∷ notice ∷ []) in ((knowledge_of (site 7) 0 past).vector ∷ start_of 0 (knowledge_of (site 7) 0 (idle_slots 6 ++ past)) ∷ []))
    (Got (join 3 1) ∷ Got (leave 1 1) ∷ Got (fda 2 1) ∷ [])
    ≡ map (λ bits. Some (set 7) ∷ Some (set bits) ∷ []) (15 ∷ 5 ∷ 3 ∷ [])
unfolding view_row
notice_after_the_start = refl

-- ---- the view

-- The vector becomes the members. Those of it join no more, and of those that leave the ones in it
-- stay. The newly admitted have not failed.
vector_becomes_the_view :
    map (λ bits. of_knowledge (with_ended 0 11 (Some (set bits)) (knowledge 7 10 24 6))) (7 ∷ 11 ∷ 5 ∷ 24 ∷ 0 ∷ [])
    ∷ map (λ v. of_knowledge (with_ended 0 11 v (knowledge 7 10 24 6))) (None ∷ []) ∷ []
    ≡ (known 7 10 24 6 ∷ known 11 2 16 2 ∷ known 5 10 24 4 ∷ known 24 2 0 0 ∷ known 0 10 24 0 ∷ []) ∷ (known 7 10 24 6 ∷ []) ∷ []
unfolding view_row
vector_becomes_the_view = refl

-- The vector is given up. The newly admitted show life in the slot of the end, and so does the node
-- itself if it is one of them.
unfoldable lives : Knowledge → List ℕ
lives st = st.last ∷ map st.shown (0 ∷ 1 ∷ 2 ∷ [])

newly_admitted_show_life :
    map (λ members. lives (with_ended 0 11 (Some (set 7)) (record (knowledge members 0 0 0) { shown = λ r. 5; last = 4 }))) (7 ∷ 5 ∷ 6 ∷ 0 ∷ [])
    ≡ (4 ∷ 5 ∷ 5 ∷ 5 ∷ []) ∷ (4 ∷ 5 ∷ 11 ∷ 5 ∷ []) ∷ (11 ∷ 11 ∷ 5 ∷ 5 ∷ []) ∷ (11 ∷ 11 ∷ 11 ∷ 11 ∷ []) ∷ []
unfolding view_row lives
newly_admitted_show_life = refl

vector_is_given_up : (with_ended 0 11 (Some (set 7)) (record (knowledge 7 0 0 0) { vector = Some (set 7) })).vector ≡ None
unfolding view_row
vector_is_given_up = refl

-- Asks of the very slot of the end: one to join is taken back by a vector that has the node, and
-- one to leave by a vector that has it not.
asks_in_the_slot_of_the_end :
    map (knows 7)
    ((Got (join 3 1) ∷ Idle ∷ Idle ∷ Got (join 4 1) ∷ []) ∷ (Idle ∷ Got (rha 1 1 3) ∷ Idle ∷ Got (leave 2 1) ∷ [])
    ∷ (Idle ∷ Got (rha 1 1 3) ∷ Idle ∷ Got (leave 1 1) ∷ []) ∷ (Idle ∷ Got (rha 1 1 3) ∷ Idle ∷ Got (join 2 1) ∷ []) ∷ [])
    ≡ known 15 0 16 0 ∷ known 3 0 0 0 ∷ known 3 0 0 2 ∷ known 3 0 0 0 ∷ []
unfolding view_row
asks_in_the_slot_of_the_end = refl

-- the node to be admitted asks again in that slot
joiner_asks_in_the_slot_of_its_view : knows 7 (Got (join 3 1) ∷ Idle ∷ Idle ∷ Got (join 3 1) ∷ []) ≡ known 15 0 0 0
unfolding view_row
joiner_asks_in_the_slot_of_its_view = refl

-- A failure that is told in the slot of the end, or before, is forgotten of a node that is newly
-- admitted, and not of a member.
failures_at_the_end :
    map (knows 7)
    ((Got (join 3 1) ∷ Idle ∷ Idle ∷ Got (fda 3 1) ∷ []) ∷ (Got (join 3 1) ∷ Got (fda 3 1) ∷ Idle ∷ Idle ∷ [])
    ∷ (Got (join 3 1) ∷ Idle ∷ Idle ∷ Idle ∷ Got (fda 3 1) ∷ []) ∷ (Idle ∷ Idle ∷ Idle ∷ Got (fda 2 1) ∷ []) ∷ [])
    ≡ known 15 0 0 0 ∷ known 15 0 0 0 ∷ known 15 8 0 0 ∷ known 7 4 0 0 ∷ []
unfolding view_row
failures_at_the_end = refl

-- a node that is no member and got no vector keeps what it knows
no_vector_no_view : map (knows 6) ((Idle ∷ Idle ∷ Got (join 3 1) ∷ Idle ∷ []) ∷ (Idle ∷ Got (rha 1 1 3) ∷ Idle ∷ Idle ∷ []) ∷ []) ≡ known 6 0 8 0 ∷ known 3 0 0 0 ∷ []
unfolding view_row
no_vector_no_view = refl

-- ---- what a node enters and withdraws at the end

-- asks of node 0 in slots 2, 9 and 30, that is in cycles 0, 1 and 3, and of another node
unfoldable asks : List NodeAsk
asks = asks_at 2 0 ∷ asks_at 9 0 ∷ asks_at 9 1 ∷ asks_at 30 0 ∷ []

unfoldable at_the_end : ℕ → List NodeAsk → List NodeAsk → List NoticeKind → List Effect
unfolding report
at_the_end members joins leaves notices = install_effects (with_asks joins leaves (site members)) 0 (read 8 notices)

unfoldable enters : ℕ → ℕ → Effect
enters slot bits = Enter (View slot (slot / 8) (set bits))

-- a node of the view enters it, in the slot of the end alone
view_is_entered :
    map (λ slots. at_the_end 7 [] [] (idle_slots slots)) (1 ∷ 2 ∷ 3 ∷ 4 ∷ 5 ∷ 9 ∷ 12 ∷ 20 ∷ [])
    ≡ [] ∷ [] ∷ [] ∷ (enters 11 7 ∷ []) ∷ [] ∷ [] ∷ (enters 19 7 ∷ []) ∷ (enters 27 7 ∷ []) ∷ []
unfolding view_row at_the_end enters
view_is_entered = refl

-- view 0 is entered by nobody
no_view_of_cycle_0 : map (λ slots. install_effects (site 7) 0 (idle_slots slots)) (1 ∷ 3 ∷ 4 ∷ []) ≡ [] ∷ [] ∷ [] ∷ []
unfolding view_row
no_view_of_cycle_0 = refl

-- by the vector that the slot of the end leaves
entered_by_the_vector :
    map (at_the_end 7 [] []) ((Idle ∷ Got (rha 1 1 3) ∷ Idle ∷ Idle ∷ []) ∷ (Idle ∷ Idle ∷ Idle ∷ Got (rha 1 1 5) ∷ []) ∷ (Idle ∷ Got (rha 1 1 3) ∷ Idle ∷ Got (rha 2 1 5) ∷ []) ∷ [])
    ≡ (enters 11 3 ∷ []) ∷ (enters 11 5 ∷ []) ∷ (enters 11 1 ∷ []) ∷ []
unfolding view_row at_the_end enters
entered_by_the_vector = refl

-- one that is not in it enters nothing, be it a member or not; a node that was none enters the view
-- that has it
who_enters :
    at_the_end 7 [] [] (Idle ∷ Got (rha 1 1 6) ∷ Idle ∷ Idle ∷ []) ∷ at_the_end 6 [] [] (Idle ∷ Got (rha 1 1 6) ∷ Idle ∷ Idle ∷ [])
    ∷ at_the_end 6 [] [] (Idle ∷ Got (rha 1 1 7) ∷ Idle ∷ Idle ∷ []) ∷ at_the_end 6 [] [] (Idle ∷ Idle ∷ Idle ∷ Idle ∷ []) ∷ []
    ≡ [] ∷ [] ∷ (enters 11 7 ∷ []) ∷ [] ∷ []
unfolding view_row at_the_end enters
who_enters = refl

-- Who is in the view withdraws its asks to join, of whatever number, and who is not in it those to
-- leave. Without a vector nothing is withdrawn.
unfoldable withdrawn : (ℕ → ℕ → Effect) → List Effect
withdrawn ask = ask 0 0 ∷ ask 0 1 ∷ ask 0 3 ∷ []

unfoldable join_withdrawn : ℕ → ℕ → Effect
join_withdrawn node cycle = Withdraw (identity_of (join node cycle))

unfoldable leave_withdrawn : ℕ → ℕ → Effect
leave_withdrawn node cycle = Withdraw (identity_of (leave node cycle))

asks_are_withdrawn :
    map (λ notices. at_the_end 6 asks asks notices)
    ((Idle ∷ Got (rha 1 1 7) ∷ Idle ∷ Idle ∷ []) ∷ (Idle ∷ Got (rha 1 1 6) ∷ Idle ∷ Idle ∷ []) ∷ (Idle ∷ Got (rha 1 1 7) ∷ Idle ∷ []) ∷ (Idle ∷ Idle ∷ Idle ∷ Idle ∷ []) ∷ [])
    ≡ (enters 11 7 ∷ withdrawn join_withdrawn) ∷ withdrawn leave_withdrawn ∷ [] ∷ [] ∷ []
unfolding view_row asks at_the_end enters withdrawn join_withdrawn leave_withdrawn
asks_are_withdrawn = refl

-- so they wait no longer
asks_wait_no_longer :
    waiting_after (at_the_end 6 asks [] (Idle ∷ Got (rha 1 1 7) ∷ Idle ∷ Idle ∷ [])) (join 0 0 ∷ join 0 1 ∷ leave 0 1 ∷ []) ≡ leave 0 1 ∷ []
unfolding view_row asks at_the_end
asks_wait_no_longer = refl

-- ---- asks that are scripted

unfoldable asked : ℕ → List NodeAsk → List NodeAsk → List NoticeKind → List Effect
unfolding report
asked members joins leaves past = ask_effects (with_asks joins leaves (site members)) 0 past

-- a node that is no member asks to join, in the slot of its ask; a member does not
scripted_join :
    map (λ members. map (λ slots. asked members (asks_at 10 0 ∷ []) [] (idle_slots slots)) (10 ∷ 11 ∷ 12 ∷ [])) (6 ∷ 7 ∷ [])
    ≡ ([] ∷ (Ask (join 0 1) ∷ []) ∷ [] ∷ []) ∷ ([] ∷ [] ∷ [] ∷ []) ∷ []
unfolding view_row asked
scripted_join = refl

-- a member asks to leave, and another node does not
scripted_leave :
    map (λ members. map (λ slots. asked members [] (asks_at 10 0 ∷ []) (idle_slots slots)) (10 ∷ 11 ∷ 12 ∷ [])) (6 ∷ 7 ∷ [])
    ≡ ([] ∷ [] ∷ [] ∷ []) ∷ ([] ∷ (Ask (leave 0 1) ∷ []) ∷ [] ∷ []) ∷ []
unfolding view_row asked
scripted_leave = refl

-- the number is that of the cycle, from 0 on; the ask of another node is not made; two asks of a
-- slot are made twice
scripted_asks_of_slots :
    map (λ slot. asked 6 (asks_at slot 1 ∷ asks_at slot 0 ∷ asks_at slot 0 ∷ []) [] (idle_slots (slot + 1))) (0 ∷ 7 ∷ 8 ∷ 99 ∷ [])
    ≡ map (λ cycle. replicate 2 (Ask (join 0 cycle))) (0 ∷ 0 ∷ 1 ∷ 12 ∷ [])
unfolding view_row asked
scripted_asks_of_slots = refl

-- The members are those after the turn: in the slot of the end the view counts that comes then.
asks_by_the_new_view :
    map (λ bits. map (λ members. asked members (asks_at 11 0 ∷ []) (asks_at 11 0 ∷ []) (read 8 (Idle ∷ Got (rha 1 1 bits) ∷ Idle ∷ Idle ∷ []))) (6 ∷ 7 ∷ [])) (6 ∷ 7 ∷ [])
    ≡ replicate 2 (Ask (join 0 1) ∷ []) ∷ replicate 2 (Ask (leave 0 1) ∷ []) ∷ []
unfolding view_row asked
asks_by_the_new_view = refl

-- none is made before the first slot in which the node takes part, and an ask tells its incarnation
scripted_asks_of_an_incarnation :
    map (λ slot. ask_effects (record (with_asks (asks_at slot 0 ∷ []) (asks_at slot 0 ∷ []) (site 6)) { from = 10; inc = 2 }) 0 (idle_slots (slot + 1))) (9 ∷ 10 ∷ 11 ∷ [])
    ++ map (λ slot. ask_effects (record (with_asks (asks_at slot 0 ∷ []) (asks_at slot 0 ∷ []) (site 7)) { from = 10; inc = 2 }) 0 (idle_slots (slot + 1))) (9 ∷ 10 ∷ [])
    ≡ [] ∷ replicate 2 (Ask (record (join 0 1) { inc = 2 }) ∷ []) ++ [] ∷ (Ask (record (leave 0 1) { inc = 2 }) ∷ []) ∷ []
unfolding view_row
scripted_asks_of_an_incarnation = refl

-- ---- a whole turn

-- The newly admitted node shows life its life interval after the slot of the end, and has been
-- silent for no time then.
life_after_admission :
    map (λ slots. turn_effects (record (site 6) { params = record (short_cycles 1) { cycle = 40; life = 4 } }) 0 (idle_slots slots ++ read 41 (Got (rha 1 1 7) ∷ Idle ∷ Idle ∷ [])))
    (3 ∷ 4 ∷ 5 ∷ []) ≡ [] ∷ (Ask (els 0 0) ∷ []) ∷ [] ∷ []
unfolding view_row
life_after_admission = refl

-- In slot 11 node 0 gets a vector; node 2 is silent; the cycle ends with a view that has node 0;
-- its life sign is due; a send, a join and two leaves are scripted, and a TOTCAN message.
order_of_the_turn_of_the_end :
    turn_effects
    (with_asks (asks_at 11 0 ∷ asks_at 3 0 ∷ []) (asks_at 11 0 ∷ asks_at 11 0 ∷ [])
    (of_members 7 (scenario (record (short_cycles 1) { life = 11; silence = 11 }) (send_tot 11 0 [] ∷ send 11 0 [] ∷ []) []))) 0
    (Got (rha 1 1 3) ∷ idle_slots 11)
    ≡ Enter (Failed 11 2 1) ∷ Ask (fda 2 1) ∷ Ask (rha 0 1 3) ∷ Withdraw (identity_of (rha 0 1 3)) ∷ Enter (View 11 1 (set 3)) ∷ Withdraw (identity_of (join 0 1))
    ∷ Withdraw (identity_of (join 0 0)) ∷ Ask (els 0 0) ∷ Ask (ed 0 1 []) ∷ Ask (leave 0 1) ∷ Ask (leave 0 1) ∷ Ask (tot 0 0 []) ∷ []
unfolding view_row
order_of_the_turn_of_the_end = refl

-- In slot 16, in which a cycle starts, node 2 is found: it is not in the vector with which node 0
-- starts.
order_of_the_turn_of_the_start :
    turn_effects (with_asks (asks_at 16 0 ∷ []) (asks_at 16 0 ∷ []) (of_members 5 (scenario (record (short_cycles 1) { life = 16; silence = 16 }) [] []))) 0 (idle_slots 17)
    ≡ Enter (Failed 16 2 2) ∷ Ask (fda 2 2) ∷ Ask (rha 0 2 1) ∷ Ask (els 0 0) ∷ Ask (leave 0 2) ∷ []
unfolding view_row
order_of_the_turn_of_the_start = refl
