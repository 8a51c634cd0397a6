-- Worked rows of reception history vectors: what a node sends and withdraws in a turn, and its
-- vector after it. Cycles have 8 slots and end in their slots 3, so cycle 1 starts in slot 8 and
-- ends in slot 11.
use Rattle.std.specs.Prelude.{ℕ, ◌≡◌, true, false, List, [], ◌∷◌, ◌++◌, Option, Some, None, map, replicate, refl}
use Rattle.cany_base.specs.declared.format.Format.TheVariants.{One, Two}
use Rattle.cany_base.specs.declared.notice.NoticeKind.{NoticeKind}
use Rattle.cany_base.specs.declared.notice.NoticeKind.TheVariants.{Idle, Got, Sent, Bad}
use Rattle.cany_base.specs.Nodes.{Nodes}
use Rattle.cany_base.specs.Scenario.{ScenarioParts}
use Rattle.cany_model.specs.Bus.Frames.{identity_of}
use Rattle.cany_model.specs.Rules.Effect.{Effect, Ask, Withdraw, waiting_after}
use Rattle.cany_model.specs.Rules.Membership.{exchange_effects}
use Rattle.cany_model.specs.Rules.KnowledgeOf.{knowledge_of}
use Rattle.cany_model.specs.Rules.Vectors.{rha_frame, vector_in}
use Rattle.cany_base.specs.Cycles.{cycle_of, is_end, is_exchange, is_start}
use Rattle.cany_rows.proofs.RowWords.{report, scenario, set}
use Rattle.cany_rows.proofs.Site.SiteWords.{classes, els, idle_slots, of_members, plain, read, rha, short_cycles, site_row}

-- ---- what a row is written with

unfoldable site : ℕ → ℕ → ScenarioParts
site omit members = of_members members (scenario (short_cycles omit) [] [])

-- a turn of node 0: what it does, and its vector after it
pub record Exchanged : Type 0 where
  pub does : List Effect
  pub vector : Option Nodes

unfoldable both : List Effect → Option Nodes → Exchanged
both effects v = record { does = effects; vector = v }

unfoldable after : ℕ → ℕ → List NoticeKind → Exchanged
unfolding report
after omit members past = both (exchange_effects (site omit members) 0 past) (knowledge_of (site omit members) 0 past).vector

-- the turn of the last of these notices, read from slot 8 on, where one Partial slot may come; and
-- what is done alone
unfoldable turn : ℕ → List NoticeKind → Exchanged
unfolding after
turn members notices = after 1 members (read 8 notices)

unfoldable does : ℕ → ℕ → List NoticeKind → List Effect
unfolding after
does omit members notices = (after omit members (read 8 notices)).does

-- the turns of this notice in these slots, where nothing was read before it
unfoldable in_slots : ℕ → NoticeKind → List ℕ → List Exchanged
unfolding after
in_slots members notice slots = map (λ slot. after 1 members (notice ∷ idle_slots slot)) slots

unfoldable nothing : Option Nodes → Exchanged
nothing v = both [] v

unfoldable sends : ℕ → List Effect
sends bits = Ask (rha 0 1 bits) ∷ []

unfoldable withdraws : List Effect
withdraws = Withdraw (identity_of (rha 0 1 0)) ∷ []

-- vectors that others sent in cycle 1, and the node's own
unfoldable got : ℕ → ℕ → NoticeKind
got node bits = Got (rha node 1 bits)

unfoldable sent : ℕ → NoticeKind
sent bits = Sent (rha 0 1 bits)

unfoldable vector_row : Unit {0}
unfolding site_row site both after turn does in_slots nothing sends withdraws got sent
vector_row = tt

-- ---- cycles

unfoldable slots : List ℕ
slots = 0 ∷ 2 ∷ 3 ∷ 7 ∷ 8 ∷ 9 ∷ 11 ∷ 12 ∷ 16 ∷ 19 ∷ []

cycles_by_slot : map (cycle_of (short_cycles 1)) slots ≡ 0 ∷ 0 ∷ 0 ∷ 0 ∷ 1 ∷ 1 ∷ 1 ∷ 1 ∷ 2 ∷ 2 ∷ []
unfolding vector_row slots
cycles_by_slot = refl

-- whether one starts, whether vectors are exchanged, and whether it ends
parts_of_a_cycle :
    (let p = short_cycles 1 in map (is_start p) slots ∷ map (is_exchange p) slots ∷ map (is_end p) slots ∷ [])
    ≡ (false ∷ false ∷ false ∷ false ∷ true ∷ false ∷ false ∷ false ∷ true ∷ false ∷ [])
    ∷ (false ∷ false ∷ false ∷ false ∷ false ∷ true ∷ true ∷ false ∷ false ∷ true ∷ [])
    ∷ (false ∷ false ∷ false ∷ false ∷ false ∷ false ∷ true ∷ false ∷ false ∷ true ∷ []) ∷ []
unfolding vector_row slots
parts_of_a_cycle = refl

-- ---- the start

-- A member sends its members as the cycle starts, and keeps them as its vector until the cycle
-- ends. Nothing starts in slot 0.
member_starts :
    in_slots 7 Idle (0 ∷ 3 ∷ 7 ∷ 8 ∷ 9 ∷ 10 ∷ 11 ∷ 12 ∷ 15 ∷ 16 ∷ [])
    ≡ nothing None ∷ nothing None ∷ nothing None ∷ both (sends 7) (Some (set 7)) ∷ nothing (Some (set 7)) ∷ nothing (Some (set 7)) ∷ both withdraws None
    ∷ nothing None ∷ nothing None ∷ both (Ask (rha 0 2 7) ∷ []) (Some (set 7)) ∷ []
unfolding vector_row
member_starts = refl

-- another node has no vector, and sends none
non_member_does_not_start : in_slots 6 Idle (0 ∷ 8 ∷ 9 ∷ 11 ∷ 16 ∷ []) ≡ replicate 5 (nothing None)
unfolding vector_row
non_member_does_not_start = refl

-- its frame tells its incarnation
vector_tells_the_incarnation :
    exchange_effects (record (site 1 7) { inc = 3 }) 0 (idle_slots 9) ∷ exchange_effects (record (site 1 7) { inc = 3 }) 0 (Got (rha 1 1 3) ∷ idle_slots 9) ∷ []
    ≡ (Ask (record (rha 0 1 7) { inc = 3 }) ∷ []) ∷ (Ask (record (rha 0 1 3) { inc = 3 }) ∷ []) ∷ []
unfolding vector_row
vector_tells_the_incarnation = refl

-- ---- a vector is met

-- the node's own is met with each that it gets, and sent where it is new
vectors_are_met :
    map (turn 7) ((Idle ∷ got 1 3 ∷ []) ∷ (Idle ∷ got 1 3 ∷ got 2 5 ∷ []) ∷ (Idle ∷ got 1 3 ∷ got 2 4 ∷ []) ∷ [])
    ≡ both (sends 3) (Some (set 3)) ∷ both (sends 1) (Some (set 1)) ∷ both (sends 0) (Some (set 0)) ∷ []
unfolding vector_row
vectors_are_met = refl

-- One that takes nothing away is not sent again. What the node itself sent is not met, and neither
-- is an error.
vector_stays : map (λ notice. turn 7 (Idle ∷ notice ∷ [])) (got 1 7 ∷ got 1 15 ∷ sent 3 ∷ Idle ∷ Bad ∷ []) ≡ replicate 5 (nothing (Some (set 7)))
unfolding vector_row
vector_stays = refl

-- Of the slots of a cycle those after its start count up to its end. In the slot of the end the
-- vector is met, sent and withdrawn, and given up.
slots_in_which_vectors_count :
    in_slots 7 (got 1 3) (7 ∷ 8 ∷ 9 ∷ 10 ∷ 11 ∷ 12 ∷ 15 ∷ [])
    ≡ nothing None ∷ both (sends 7) (Some (set 7)) ∷ both (sends 3) (Some (set 3)) ∷ both (sends 3) (Some (set 3)) ∷ both (sends 3 ++ withdraws) None
    ∷ nothing None ∷ nothing None ∷ []
unfolding vector_row
slots_in_which_vectors_count = refl

-- no vector of cycle 0 counts
no_vectors_in_cycle_0 : in_slots 7 (Got (rha 1 0 3)) (0 ∷ 1 ∷ 2 ∷ 3 ∷ []) ≡ replicate 4 (nothing None)
unfolding vector_row
no_vectors_in_cycle_0 = refl

-- in cycle 1 none of another cycle does, whoever the node is
vectors_of_other_cycles :
    map (λ members. map (λ cycle. turn members (Idle ∷ Got (rha 1 cycle 3) ∷ [])) (0 ∷ 1 ∷ 2 ∷ [])) (7 ∷ 6 ∷ [])
    ≡ (nothing (Some (set 7)) ∷ both (sends 3) (Some (set 3)) ∷ nothing (Some (set 7)) ∷ [])
    ∷ (nothing None ∷ both (sends 3) (Some (set 3)) ∷ nothing None ∷ []) ∷ []
unfolding vector_row
vectors_of_other_cycles = refl

-- frames of other classes bring none
vectors_by_class :
    map (λ c. (turn 6 (Idle ∷ Got (record (plain c 1 1) { payload = 0 ∷ 0 ∷ 0 ∷ 3 ∷ [] }) ∷ [])).vector) classes
    ≡ None ∷ Some (set 3) ∷ None ∷ None ∷ None ∷ None ∷ None ∷ None ∷ None ∷ None ∷ []
unfolding vector_row
vectors_by_class = refl

-- ---- a node that is no member

-- At the first vector that it gets it takes the set of all nodes of the bus, and meets this: it has
-- had none, so it is new.
non_member_takes_a_vector :
    map (turn 6) ((Idle ∷ got 1 7 ∷ []) ∷ (Idle ∷ got 1 31 ∷ []) ∷ (Idle ∷ got 1 6 ∷ []) ∷ (Idle ∷ Idle ∷ Idle ∷ got 1 6 ∷ []) ∷ [])
    ≡ both (sends 7) (Some (set 7)) ∷ both (sends 7) (Some (set 7)) ∷ both (sends 6) (Some (set 6)) ∷ both (sends 6 ++ withdraws) None ∷ []
unfolding vector_row
non_member_takes_a_vector = refl

-- from then on it is as any other node
non_member_goes_on :
    map (does 1 6) ((Idle ∷ got 1 7 ∷ got 2 7 ∷ []) ∷ (Idle ∷ got 1 7 ∷ got 2 5 ∷ []) ∷ (Idle ∷ got 1 7 ∷ Idle ∷ []) ∷ (Idle ∷ got 1 7 ∷ Idle ∷ Idle ∷ []) ∷ [])
    ≡ withdraws ∷ sends 5 ∷ [] ∷ withdraws ∷ []
unfolding vector_row
non_member_goes_on = refl

-- a vector that it sent without having one, as no node does, gives it none
non_member_gets_no_vector_by_sending : turn 6 (Idle ∷ sent 7 ∷ []) ≡ nothing None
unfolding vector_row
non_member_gets_no_vector_by_sending = refl

-- ---- a vector is covered

-- by more than omit copies of just this vector: at each of these the node's own is withdrawn
covered_by_copies :
    map (λ omit. map (λ n. does omit 7 (Idle ∷ replicate n (got 1 7))) (1 ∷ 2 ∷ [])) (0 ∷ 1 ∷ 2 ∷ [])
    ≡ (withdraws ∷ withdraws ∷ []) ∷ ([] ∷ withdraws ∷ []) ∷ ([] ∷ [] ∷ []) ∷ []
unfolding vector_row
covered_by_copies = refl

-- copies of one node and of two count alike, and those of other vectors do not count
copies_of_just_this_vector :
    map (does 1 7) ((Idle ∷ got 1 3 ∷ got 2 3 ∷ []) ∷ (Idle ∷ got 1 3 ∷ got 2 7 ∷ []) ∷ (Idle ∷ got 1 7 ∷ got 2 3 ∷ []) ∷ (Idle ∷ got 1 3 ∷ got 2 5 ∷ []) ∷ [])
    ≡ withdraws ∷ [] ∷ sends 3 ∷ sends 1 ∷ []
unfolding vector_row
copies_of_just_this_vector = refl

-- a copy of another cycle does not count
copies_of_this_cycle : map (λ cycle. does 1 7 (Idle ∷ Got (rha 1 cycle 7) ∷ got 2 7 ∷ [])) (0 ∷ 1 ∷ 2 ∷ []) ≡ [] ∷ withdraws ∷ [] ∷ []
unfolding vector_row
copies_of_this_cycle = refl

-- By the node's own transmission it is covered too, of just this vector in this cycle. It is seen
-- at a copy, not as the node reads that it has sent.
covered_by_own_transmission :
    map (does 1 7)
    ((Idle ∷ sent 7 ∷ []) ∷ (Idle ∷ sent 7 ∷ got 1 7 ∷ []) ∷ (Idle ∷ sent 7 ∷ got 1 3 ∷ []) ∷ (Idle ∷ Sent (rha 0 0 7) ∷ got 1 7 ∷ [])
    ∷ (Idle ∷ Sent (rha 2 1 7) ∷ got 1 7 ∷ []) ∷ (Idle ∷ got 1 3 ∷ sent 3 ∷ []) ∷ [])
    ≡ [] ∷ withdraws ∷ sends 3 ∷ [] ∷ [] ∷ [] ∷ []
unfolding vector_row
covered_by_own_transmission = refl

-- Where a cycle starts in slot 20 and ends in slot 25 there is room for longer stories: these
-- notices are read from slot 21 on.
unfoldable story : ℕ → List NoticeKind → List Effect
unfolding after
story omit notices = exchange_effects (record (site omit 7) { params = record (short_cycles omit) { bound = 5; cycle = 20 } }) 0 (read 21 notices)

new_vector_is_sent_and_covered :
    map (story 1) ((got 1 3 ∷ sent 3 ∷ got 2 3 ∷ []) ∷ (got 1 3 ∷ sent 3 ∷ got 2 1 ∷ []) ∷ (got 1 3 ∷ got 2 7 ∷ got 2 3 ∷ []) ∷ (got 1 3 ∷ got 2 3 ∷ got 1 1 ∷ []) ∷ [])
    ≡ withdraws ∷ sends 1 ∷ withdraws ∷ sends 1 ∷ []
unfolding vector_row story
new_vector_is_sent_and_covered = refl

-- ---- where one copy is enough

-- a new vector is covered by the copy that brought it, unless less came of it
one_copy_covers :
    map (λ bits. does 0 7 (Idle ∷ got 1 bits ∷ [])) (7 ∷ 3 ∷ [])
    ++ map (λ notices. does 0 7 (Idle ∷ notices)) ((got 1 3 ∷ got 2 5 ∷ []) ∷ (got 1 3 ∷ got 2 7 ∷ []) ∷ [])
    ++ map (λ bits. does 0 6 (Idle ∷ got 1 bits ∷ [])) (7 ∷ 15 ∷ [])
    ≡ withdraws ∷ withdraws ∷ sends 1 ∷ withdraws ∷ withdraws ∷ sends 7 ∷ []
unfolding vector_row
one_copy_covers = refl

-- ---- the end

-- what is asked for in the slot of the end does not wait after it
nothing_waits_after_the_end : waiting_after (does 1 7 (Idle ∷ Idle ∷ Idle ∷ got 1 3 ∷ [])) (rha 0 1 7 ∷ []) ≡ []
unfolding vector_row
nothing_waits_after_the_end = refl

-- ---- frames

-- a vector as the bytes of each format, and back: of other lengths they are none
vectors_as_bytes : map (λ format. (rha_frame format 2 5 1 (set 258)).payload) (One ∷ Two ∷ []) ≡ (0 ∷ 0 ∷ 1 ∷ 2 ∷ []) ∷ (0 ∷ 0 ∷ 0 ∷ 0 ∷ 0 ∷ 0 ∷ 1 ∷ 2 ∷ []) ∷ []
unfolding vector_row
vectors_as_bytes = refl

vectors_of_frames :
    map (λ format. map (λ f. vector_in format 5 f) (rha_frame One 2 5 1 (set 258) ∷ rha_frame Two 2 5 1 (set 258) ∷ rha_frame format 2 4 1 (set 258) ∷ els 1 5 ∷ [])) (One ∷ Two ∷ [])
    ≡ (Some (set 258) ∷ None ∷ None ∷ None ∷ []) ∷ (None ∷ Some (set 258) ∷ None ∷ None ∷ []) ∷ []
unfolding vector_row
vectors_of_frames = refl
