-- Worked rows of a frame that waits: behind how many others, and when it was carried.
use Rattle.std.specs.Prelude.{◌≡◌, ℕ, zero, suc, ◌+◌, ◌-◌, ◌*◌, ◌<◌, ◌&&◌, Bool, true, false, List, [], ◌∷◌, Contains, Option, Some, None, drop, filter, length, map, nat_lt, refl, reverse, slice_index_or, take}
use Rattle.std.specs.List.{list_any}
use Rattle.std.specs.Option.{option_map_or}
use Rattle.std.proofs.Common.{ap, arith, inl, inr, lit<, lit≤, ◌∙◌, subst, sym}
use Rattle.std.proofs.lemmas.Bool.{and_from, and_parts, both_ways, cases_lt, false≢true, lt-ltb}
use Rattle.std.proofs.lemmas.List.{get_or_past}
use Rattle.std.proofs.lemmas.List.Folds.{list_any_at}
use Rattle.cany_base.specs.declared.log_entry.LogEntry.{LogEntry}
use Rattle.cany_base.specs.declared.log_entry.LogEntry.TheVariants.{Deliver, Failed, View}
use Rattle.cany_base.specs.declared.class.Class.TheVariants as class
use Rattle.cany_base.specs.declared.message.Service.TheVariants.{Ed}
use Rattle.cany_base.specs.declared.rule.Verdict.TheVariants.{Clean, Lost}
use Rattle.cany_base.specs.declared.slot_note.SlotNote.{SlotNote}
use Rattle.cany_base.specs.Params.{default_parameters}
use Rattle.cany_base.specs.Scenario.{ScenarioParts}
use Rattle.cany_model.specs.Bus.Frames.{Identity, is_of, same_class, same_identity}
use Rattle.cany_model.specs.Bus.Slot.{carried, is_clean}
use Rattle.cany_model.specs.Bus.State.{NodeState, RunState, absent, node_at, reads, runs}
use Rattle.cany_model.specs.Bus.Waiting.{waits}
use Rattle.cany_model.specs.Promises.Acceptance.{history_to}
use Rattle.cany_model.specs.Rules.Log.{log}
use Rattle.cany_model.specs.Rules.Messages.{Message, data_id, messages_after}
use Rattle.cany_model.specs.Rules.Turn.{has_asked, scenario_at}
use Rattle.cany_model.specs.Runs.RoundRobin.{round_robin}
use Rattle.cany_model.specs.Runs.Run.{slot_state, slot_state_from}
use Rattle.cany_model.proofs.Among.{Among-from_Contains, Among-from_any, Among-place, Each-of}
use Rattle.cany_laws.specs.Carried.{incarnations_of_first, times_clean}
use Rattle.cany_laws.specs.Waits.{HasAskedBy, HasDeliveredBy, IsAwaitedThrough, IsAwaitedUntilCarried, WasAwaited, WasCarriedIn, least_left, most_taken, interference, waits_since, window}
use Rattle.cany_law_rows.proofs.PremiseWords.{asked_of, none_has, note_in, run_of}
use Rattle.cany_law_rows.proofs.RowWords.{delivers, row, seen_of, send, set, slot_rule, two, within}

-- of two nodes a window has 19 slots, of which 18 may be taken and one is left
windows_of_two :
    window (default_parameters 2 58) ∷ most_taken (default_parameters 2 58) ∷ least_left (default_parameters 2 58) ∷ [] ≡ 19 ∷ 18 ∷ 1 ∷ []
windows_of_two = refl

-- ---- slots in which a frame is waited with

abbrev waits_there : Identity → NodeState → Bool
waits_there x node = runs node && waits x node.waiting

-- whether a running node waited with such a frame when the slot was run
abbrev was_awaited_in : Identity → Option RunState → Bool
was_awaited_in x state = option_map_or (λ (s : RunState). list_any (waits_there x) s.nodes) state false

abbrev was_awaited : ScenarioParts → Identity → ℕ → Bool
was_awaited sc x t = was_awaited_in x (slot_state sc t (round_robin sc))

-- then it was, and not otherwise
awaited : (sc : ScenarioParts) (x : Identity) (t : ℕ) → was_awaited sc x t ≡ true → WasAwaited sc (round_robin sc) x t
unfolding node_at
awaited sc x t was = by_state (slot_state sc t (round_robin sc)) refl was
  where
    by_state : (state : Option RunState) → slot_state sc t (round_robin sc) ≡ state → was_awaited_in x state ≡ true → WasAwaited sc (round_robin sc) x t
    by_state None ran test = absurd (false≢true test)
    by_state (Some s) ran test =
        let place = Among-place (λ node. waits_there x node ≡ true) absent 0 s.nodes (Among-from_any (waits_there x) s.nodes test) in
        let parts = and_parts (runs (node_at s.nodes place.0)) (waits x (node_at s.nodes place.0).waiting) place.3 in
        record { state = s; ran = ran; node = place.0; running = parts.0; waits = parts.1 }

was_awaited_when : (sc : ScenarioParts) (x : Identity) (t : ℕ) → WasAwaited sc (round_robin sc) x t → was_awaited sc x t ≡ true
unfolding node_at
was_awaited_when sc x t w = ap (was_awaited_in x) w.ran ∙ list_any_at (waits_there x) w.state.nodes w.node absent there both
  where
    both : waits_there x (node_at w.state.nodes w.node) ≡ true
    both = and_from (runs (node_at w.state.nodes w.node)) (waits x (node_at w.state.nodes w.node).waiting) w.running w.waits

    there : w.node < length w.state.nodes
    there = elim (cases_lt w.node (length w.state.nodes)) [
      | inl below ↦ below
      | inr past ↦ absurd (false≢true (sym (ap runs (get_or_past w.state.nodes w.node absent past)) ∙ w.running))
    ]

-- ---- two messages of one origin

-- the slots that carried the data frame of a message Clean
abbrev carried_in : RunState → Message → List ℕ
carried_in s m = reverse (map (λ note. note.slot) (filter (λ note. carried (is_of (data_id m)) note && is_clean note.verdict) s.trace))

-- Node 0 asks for both in its turn of slot 0. The second waits behind the first, which both nodes
-- send.
unfoldable in_a_row : ScenarioParts
in_a_row = two 58 (send Ed 0 0 (1 ∷ []) ∷ send Ed 0 0 (2 ∷ []) ∷ []) [] []

abbrev second : Message
second = record { slot = 0; origin = 0; seq = 1; service = Ed; payload = 2 ∷ [] }

-- it waits in slots 1 to 4, and is carried Clean in slots 3 and 4
waits_and_is_carried :
    map (was_awaited in_a_row (data_id second)) (0 ∷ 1 ∷ 2 ∷ 3 ∷ 4 ∷ 5 ∷ []) ≡ false ∷ true ∷ true ∷ true ∷ true ∷ false ∷ []
unfolding row in_a_row slot_state_from
waits_and_is_carried = refl

-- whether the slot carried it, and lies before this one
abbrev carries_it_before : ℕ → SlotNote → Bool
carries_it_before slot note = carried (is_of (data_id second)) note && nat_lt note.slot slot

-- How many of the 57 slots from slot 1 on carried a frame that wins over it; whether the origin had
-- asked for it by its turn of slot 0, runs, and has read how far; the slots that carried it Clean,
-- whether any before slot 3 did, and the note of slot 3; the logs; and how often it was carried, of
-- how many incarnations.
record Awaited : Type 0 where
  others : ℕ
  asked : Bool
  runs : Bool
  from : ℕ
  reads : ℕ
  clean : List ℕ
  sooner : Bool
  note : List SlotNote
  log_0 : List LogEntry
  log_1 : List LogEntry
  times : ℕ
  incarnations : ℕ

abbrev awaited_in : RunState → Awaited
awaited_in s = record {
  others = interference (data_id second) s (waits_since in_a_row.params 0) 57;
  asked = has_asked (scenario_at in_a_row s 0) second 0 (history_to 0 0 s);
  runs = runs (node_at s.nodes 0);
  from = (node_at s.nodes 0).present.from;
  reads = reads s 0;
  clean = carried_in s second;
  sooner = list_any (carries_it_before 3) s.trace;
  note = take 1 (drop 54 s.trace);
  log_0 = log in_a_row s 0;
  log_1 = log in_a_row s 1;
  times = times_clean (data_id second) s.trace;
  incarnations = incarnations_of_first s 2;
}

-- two of the 57 slots carried a frame that wins over it; of three windows at least three slots are
-- left: the law says that it is carried Clean before slot 58
abbrev its_log : List LogEntry
its_log = delivers 1 Ed 0 0 (1 ∷ []) ∷ delivers 3 Ed 0 1 (2 ∷ []) ∷ View 57 1 (set 3) ∷ []

abbrev its_note : SlotNote
its_note = record {
  slot = 3;
  frame = Some (record { class = class.Ed; number = 1; node = 0; inc = 0; payload = 2 ∷ [] });
  senders = set 1;
  takers = set 2;
  verdict = Clean;
  stops = set 0;
}

abbrev behind_two : Awaited
behind_two = record {
  others = 2;
  asked = true;
  runs = true;
  from = 0;
  reads = 58;
  clean = 3 ∷ 4 ∷ [];
  sooner = false;
  note = its_note ∷ [];
  log_0 = its_log;
  log_1 = its_log;
  times = 2;
  incarnations = 2;
}

carried_and_delivered_in_slot_3 : seen_of awaited_in in_a_row ≡ within behind_two
unfolding row in_a_row incarnations_of_first
carried_and_delivered_in_slot_3 = refl

-- ---- what the laws say of it

abbrev its_run : RunState
its_run = run_of in_a_row

seen_in_it : awaited_in its_run ≡ behind_two
seen_in_it = asked_of awaited_in in_a_row (within behind_two) carried_and_delivered_in_slot_3

stands_in_the_trace : Contains its_run.trace its_note
stands_in_the_trace = note_in its_run.trace 54 its_note (ap (λ (seen : Awaited). seen.note) seen_in_it)

its_slot : (n : ℕ) → 3 < 1 + n → WasCarriedIn its_run.trace (data_id second) 1 n
unfolding same_class same_identity
its_slot n later = record { note = its_note; stands = stands_in_the_trace; from = lit≤ tt; to = later; frame = refl; clean = refl }

-- The frame is waited with up to slot 3, which is the first that carried it Clean,
awaited_up_to_its_slot : IsAwaitedUntilCarried in_a_row (round_robin in_a_row) (data_id second) 1 57
awaited_up_to_its_slot zero from to none = absurd (omega (arith, from))
awaited_up_to_its_slot (suc zero) from to none = awaited in_a_row (data_id second) 1 (ap (λ (all : List Bool). slice_index_or all 1 false) waits_and_is_carried)
awaited_up_to_its_slot (suc (suc zero)) from to none = awaited in_a_row (data_id second) 2 (ap (λ (all : List Bool). slice_index_or all 2 false) waits_and_is_carried)
awaited_up_to_its_slot (suc (suc (suc zero))) from to none = awaited in_a_row (data_id second) 3 (ap (λ (all : List Bool). slice_index_or all 3 false) waits_and_is_carried)
awaited_up_to_its_slot (suc (suc (suc (suc t)))) from to none = absurd (none (its_slot (suc (suc (suc (suc t))) - 1) (omega arith)))

-- and not in all slots of the windows: it is gone in slot 5
not_awaited_through : IsAwaitedThrough in_a_row (round_robin in_a_row) (data_id second) 1 57 → ⊥
not_awaited_through says =
    false≢true (sym (ap (λ (all : List Bool). slice_index_or all 5 false) waits_and_is_carried)
    ∙ was_awaited_when in_a_row (data_id second) 5 (says 5 (lit≤ tt) (lit< tt)))

-- so the law says that one of these slots carried it Clean, as slot 3 did
few_frames_before_it : interference (data_id second) its_run 1 57 < 3 * least_left in_a_row.params
unfolding two in_a_row
few_frames_before_it = omega (arith, ap (λ (seen : Awaited). seen.others) seen_in_it)

one_of_them_did : WasCarriedIn its_run.trace (data_id second) 1 57
one_of_them_did = its_slot 57 (lit< tt)

-- Slots 1 and 2 did not, and it is waited with in both.
carried_not_so_soon : WasCarriedIn its_run.trace (data_id second) 1 2 → ⊥
carried_not_so_soon w =
    let to = w.to in
    both_ways (carries_it_before 3 w.note)
    (none_has (carries_it_before 3) its_run.trace (ap (λ (seen : Awaited). seen.sooner) seen_in_it) w.note w.stands)
    (and_from (carried (is_of (data_id second)) w.note) (nat_lt w.note.slot 3) w.frame (lt-ltb w.note.slot 3 (omega (arith, to))))

awaited_before : IsAwaitedThrough in_a_row (round_robin in_a_row) (data_id second) 1 2
awaited_before t from to = awaited_up_to_its_slot t from (omega (arith, to)) (λ w. carried_not_so_soon (sooner w))
  where
    sooner : WasCarriedIn its_run.trace (data_id second) 1 (t - 1) → WasCarriedIn its_run.trace (data_id second) 1 2
    sooner w = let before = w.to in record {
      note = w.note;
      stands = w.stands;
      from = w.from;
      to = omega (arith, before, from, to);
      frame = w.frame;
      clean = w.clean;
    }

-- ---- delivery

origin_had_asked : HasAskedBy in_a_row its_run second 0
unfolding two in_a_row send messages_after
origin_had_asked = record {
  stands = (1, lit< tt, refl);
  origin = record {
    correct = record { there = lit< tt; running = ap (λ (seen : Awaited). seen.runs) seen_in_it };
    took_part = omega (arith, ap (λ (seen : Awaited). seen.from) seen_in_it);
  };
  read = omega (arith, ap (λ (seen : Awaited). seen.reads) seen_in_it);
  asked = ap (λ (seen : Awaited). seen.asked) seen_in_it;
}

carried_in_its_slot : WasCarriedIn its_run.trace (data_id second) 3 1
unfolding same_class same_identity
carried_in_its_slot = record { note = its_note; stands = stands_in_the_trace; from = lit≤ tt; to = lit< tt; frame = refl; clean = refl }

-- node 1 has delivered it in slot 3, and not earlier
delivered_by_then : HasDeliveredBy in_a_row its_run second 3 1
delivered_by_then = record {
  slot = 3;
  stands = subst (λ entries. Contains entries (delivers 3 Ed 0 1 (2 ∷ []))) (sym (ap (λ (seen : Awaited). seen.log_1) seen_in_it)) (1, lit< tt, refl);
  by_then = lit≤ tt;
}

-- a delivery of the second message is in slot 3
abbrev IsInSlot3 : LogEntry → Type 0
IsInSlot3 (Deliver slot by msg payload) = msg.seq ≡ 1 → slot ≡ 3
IsInSlot3 (Failed slot node cycle) = Unit {0}
IsInSlot3 (View slot number members) = Unit {0}

not_by_slot_2 : HasDeliveredBy in_a_row its_run second 2 1 → ⊥
not_by_slot_2 says =
    let by_then = says.by_then in
    let entry : LogEntry = delivers says.slot Ed 0 1 (2 ∷ []) in
    let stands = subst (λ entries. Contains entries entry) (ap (λ (seen : Awaited). seen.log_1) seen_in_it) says.stands in
    let slot : says.slot ≡ 3 =
    Each-of IsInSlot3 entry its_log ((λ same. absurd (omega (arith, same))), ((λ same. refl), (tt, tt))) (Among-from_Contains its_log entry stands) refl in
    omega (arith, by_then, slot)

-- ---- a disturbed slot

-- The same with slot 1 lost, which the hypothesis allows. The second message still waits behind
-- two frames, and a slot longer: a lost slot counts too.
unfoldable disturbed : ScenarioParts
disturbed = two 58 (send Ed 0 0 (1 ∷ []) ∷ send Ed 0 0 (2 ∷ []) ∷ []) (slot_rule 1 Lost 0 ∷ []) []

-- how many of the three slots from slot 1 on carried a frame that wins over it, and those that
-- carried it
record Disturbed : Type 0 where
  others : ℕ
  clean : List ℕ

abbrev disturbed_in : RunState → Disturbed
disturbed_in s = record { others = interference (data_id second) s (waits_since disturbed.params 0) 3; clean = carried_in s second }

a_slot_longer : seen_of disturbed_in disturbed ≡ within (record { others = 2; clean = 4 ∷ 5 ∷ [] })
unfolding row disturbed
a_slot_longer = refl
