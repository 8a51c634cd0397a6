-- Worked rows of how often the bus carries the frame that confirms a message, and those that ask to
-- join and to leave.
use Rattle.std.specs.Prelude.{◌≡◌, ℕ, List, [], ◌∷◌, Some, drop, take, refl}
use Rattle.std.proofs.Common.{ap, arith, sym}
use Rattle.std.proofs.lemmas.Bool.{false≢true}
use Rattle.cany_base.specs.declared.class.Class.TheVariants.{Join, Leave}
use Rattle.cany_base.specs.declared.message.Service.TheVariants.{Rel}
use Rattle.cany_base.specs.declared.rule.Verdict.TheVariants.{Clean}
use Rattle.cany_base.specs.declared.slot_note.SlotNote.{SlotNote}
use Rattle.cany_base.specs.Scenario.{ScenarioParts}
use Rattle.cany_model.specs.Bus.State.{RunState}
use Rattle.cany_model.specs.Rules.Messages.{confirm_of_key, data_of}
use Rattle.cany_model.specs.Rules.Views.{ask_of}
use Rattle.cany_model.specs.Bus.Frames.{same_class}
use Rattle.cany_laws.specs.Alarms.{NoLeaveWasCarried}
use Rattle.cany_laws.specs.Carried.{times_clean}
use Rattle.cany_laws.specs.Requests.{CarriesFewRequests, entries_of}
use Rattle.cany_law_rows.proofs.PremiseWords.{asked_of, note_in, run_of}
use Rattle.cany_law_rows.proofs.RowWords.{again, key, row, seen_of, send, set, slot_rule, two, within}

-- ---- a message that is confirmed

-- how often the data frame of node 0's first message was carried Clean, and the frame that confirms
-- it
abbrev frames_of_it : RunState → List ℕ
frames_of_it s = times_clean (data_of Rel (key 0 0)) s.trace ∷ times_clean (confirm_of_key (key 0 0)) s.trace ∷ []

-- The origin confirms its message.
unfoldable confirmed : ScenarioParts
confirmed = two 14 (send Rel 0 0 (1 ∷ []) ∷ []) [] []

once_each : seen_of frames_of_it confirmed ≡ within (1 ∷ 1 ∷ [])
unfolding row confirmed
once_each = refl

-- The origin stops in the slot of the data frame, and starts again: the other node falls back, and
-- nobody ever confirms the message.
unfoldable unconfirmed : ScenarioParts
unconfirmed = two 30 (send Rel 0 0 (1 ∷ []) ∷ []) (slot_rule 1 Clean 1 ∷ []) (again 2 0 ∷ [])

never_confirmed : seen_of frames_of_it unconfirmed ≡ within (2 ∷ 0 ∷ [])
unfolding row unconfirmed
never_confirmed = refl

-- ---- asks to join and to leave

-- how often the frames by which node 1 asks in cycle 0 were carried Clean, and how many entries
-- they make
record Requests : Type 0 where
  joins : ℕ
  join_entries : ℕ
  leaves : ℕ
  leave_entries : ℕ

abbrev requests_of : ScenarioParts → RunState → Requests
requests_of sc s = record {
  joins = times_clean (ask_of Join 0 1) s.trace;
  join_entries = entries_of sc.params 1 0 sc.joins;
  leaves = times_clean (ask_of Leave 0 1) s.trace;
  leave_entries = entries_of sc.params 1 0 sc.leaves;
}

-- Node 1 is no member, and asks in two slots of one cycle to join: the frame is carried twice, and
-- not once a cycle.
unfoldable joins_twice : ScenarioParts
joins_twice = let sc = two 6 [] [] [] in record sc { members = set 1; joins = again 0 1 ∷ again 3 1 ∷ [] }

abbrev two_joins : Requests
two_joins = record { joins = 2; join_entries = 2; leaves = 0; leave_entries = 0 }

twice_in_a_cycle : seen_of (requests_of joins_twice) joins_twice ≡ within two_joins
unfolding row joins_twice
twice_in_a_cycle = refl

no_more_joins_than_entries : CarriesFewRequests joins_twice (run_of joins_twice) 1 0
no_more_joins_than_entries =
    let seen = asked_of (requests_of joins_twice) joins_twice (within two_joins) twice_in_a_cycle in
    record {
      joins = omega (arith, ap (λ (r : Requests). r.joins) seen, ap (λ (r : Requests). r.join_entries) seen);
      leaves = omega (arith, ap (λ (r : Requests). r.leaves) seen);
    }

-- A member asks to leave by two entries of one slot: the frame is carried once.
unfoldable leaves_once : ScenarioParts
leaves_once = let sc = two 6 [] [] [] in record sc { leaves = again 0 1 ∷ again 0 1 ∷ [] }

-- the same, and the note of slot 1
record Left : Type 0 where
  requests : Requests
  note : List SlotNote

abbrev left_in : RunState → Left
left_in s = record { requests = requests_of leaves_once s; note = take 1 (drop 4 s.trace) }

abbrev its_leave : SlotNote
its_leave = record {
  slot = 1;
  frame = Some (record { class = Leave; number = 0; node = 1; inc = 0; payload = [] });
  senders = set 2;
  takers = set 1;
  verdict = Clean;
  stops = set 0;
}

abbrev left : Left
left = record { requests = record { joins = 0; join_entries = 0; leaves = 1; leave_entries = 2 }; note = its_leave ∷ [] }

once_in_a_slot : seen_of left_in leaves_once ≡ within left
unfolding row leaves_once
once_in_a_slot = refl

seen_left : left_in (run_of leaves_once) ≡ left
seen_left = asked_of left_in leaves_once (within left) once_in_a_slot

no_more_leaves_than_entries : CarriesFewRequests leaves_once (run_of leaves_once) 1 0
no_more_leaves_than_entries = record {
  joins = omega (arith, ap (λ (l : Left). l.requests.joins) seen_left);
  leaves = omega (arith, ap (λ (l : Left). l.requests.leaves) seen_left, ap (λ (l : Left). l.requests.leave_entries) seen_left);
}

-- so the law on members that stay does not speak of node 1
a_leave_was_carried : NoLeaveWasCarried (run_of leaves_once) 1 → ⊥
unfolding same_class
a_leave_was_carried says =
    false≢true (sym (says its_leave (note_in (run_of leaves_once).trace 4 its_leave (ap (λ (l : Left). l.note) seen_left))))
