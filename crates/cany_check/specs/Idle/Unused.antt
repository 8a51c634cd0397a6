-- The entries of a scenario that did nothing in a run.
use Rattle.std.specs.Prelude.{ℕ, ◌+◌, ◌==◌, ◌&&◌, Bool, true, false, not, is_some, nat_le, nat_lt, if◌then◌else◌, List, [], ◌∷◌, ◌++◌, find, map, Option, Some, None}
use Rattle.std.specs.List.{cons_option, list_any, range_with_len}
use Rattle.std.specs.Option.{option_map_or}
use Rattle.cany_base.specs.declared.class.Class.{Class}
use Rattle.cany_base.specs.declared.class.Class.TheVariants.{Join, Leave}
use Rattle.cany_base.specs.declared.message.NodeAsk.{NodeAsk}
use Rattle.cany_base.specs.declared.message.SendAsk.{SendAsk}
use Rattle.cany_base.specs.declared.rule.Place.{Place}
use Rattle.cany_base.specs.declared.rule.Place.TheVariants.{At, FrameNth}
use Rattle.cany_base.specs.declared.rule.Rule.{Rule}
use Rattle.cany_base.specs.declared.rule.Verdict.{Verdict}
use Rattle.cany_base.specs.declared.rule.Verdict.TheVariants.{Clean, Lost, Partial, Silent}
use Rattle.cany_base.specs.declared.slot_note.SlotNote.{SlotNote}
use Rattle.cany_base.specs.Cycles.{cycle_of}
use Rattle.cany_base.specs.Limits.{most_nodes}
use Rattle.cany_base.specs.Nodes.{Nodes, has, nobody, is_nobody}
use Rattle.cany_base.specs.Scenario.{ScenarioParts}
use Rattle.cany_model.specs.Bus.Frames.{Identity, is_of}
use Rattle.cany_model.specs.Bus.Restart.{restarted_in}
use Rattle.cany_model.specs.Bus.Slot.{attempts, carried, is_clean, slot_rule}
use Rattle.cany_model.specs.Bus.State.{EndedIncarnation, RunState}
use Rattle.cany_model.specs.Runs.Incarnations.{incarnations}
use Rattle.cany_check.specs.declared.unused_entries.unused_entry.NoAsk.{NoAsk}
use Rattle.cany_check.specs.declared.unused_entries.unused_entry.NoAsk.TheVariants.{From, Stopped, NeverCarried}
use Rattle.cany_check.specs.declared.unused_entries.unused_entry.NoFault.{NoFault}
use Rattle.cany_check.specs.declared.unused_entries.unused_entry.NoFault.TheVariants.{Attempts, Ruled, Idle, RejectsNobody, StopsNobody}
use Rattle.cany_check.specs.declared.unused_entries.unused_entry.Unused.{Unused}
use Rattle.cany_check.specs.declared.unused_entries.unused_entry.UnusedEntry.{UnusedEntry}
use Rattle.cany_check.specs.declared.unused_entries.unused_entry.UnusedEntry.TheVariants as entry

-- ---- what a node did in a slot

-- whether the incarnation has its first notice in this slot or before, and did not stop before it
abbrev pub ran_as : ℕ → EndedIncarnation → Bool
ran_as slot e = nat_le e.incarnation.since slot && option_map_or (λ stop. nat_le slot stop) e.stopped true

abbrev pub ran_in : RunState → ℕ → ℕ → Bool
ran_in s slot i = list_any (ran_as slot) (incarnations s i)

-- whether the incarnation read the notice of the slot
abbrev pub read_notice : ℕ → EndedIncarnation → Bool
read_notice slot e = nat_le e.incarnation.since slot && nat_lt slot e.next

-- whether it takes part in the slot, and read its notice
abbrev pub made_asks_as : ℕ → EndedIncarnation → Bool
made_asks_as slot e = nat_le e.incarnation.from slot && read_notice slot e

abbrev pub made_asks : RunState → ℕ → ℕ → Bool
made_asks s slot i = list_any (made_asks_as slot) (incarnations s i)

-- ---- sends, joins and leaves

-- by the incarnation that read the notice of the slot
abbrev pub missed_by : Option EndedIncarnation → NoAsk
missed_by None = Stopped
missed_by (Some e) = From e.incarnation.from

-- why node i did not make its asks of the slot, if so
abbrev pub missed : RunState → ℕ → ℕ → Option NoAsk
missed s slot i = if made_asks s slot i then None else Some (missed_by (find (read_notice slot) (incarnations s i)))

-- whether a later slot carried the frame by which a node asks to join or to leave in the cycle of
-- this slot
abbrev pub is_carried_later : ScenarioParts → RunState → Class → NodeAsk → Bool
is_carried_later scenario s c ask =
    list_any (λ note. nat_lt ask.slot note.slot && carried (is_of (record { class = c; number = cycle_of scenario.params ask.slot; node = ask.node })) note) s.trace

abbrev pub unused_send : RunState → SendAsk → Option NoAsk
unused_send s send = missed s send.slot send.node

abbrev pub carried_or_not : Bool → Option NoAsk → Option NoAsk
carried_or_not later (Some why) = Some why
carried_or_not later None = if later then None else Some NeverCarried

-- of a join or a leave
abbrev pub unused_ask : ScenarioParts → RunState → Class → NodeAsk → Option NoAsk
unused_ask scenario s c ask = carried_or_not (is_carried_later scenario s c ask) (missed s ask.slot ask.node)

-- ---- fault rules

-- the slot that carried the frame as its attempt of this number: of slots newest first
unfoldable pub attempt_slot : Identity → ℕ → List SlotNote → Option ℕ
attempt_slot x nth [] = None
attempt_slot x nth (note ∷ before) =
    if carried (is_of x) note && attempts x before + 1 == nth then Some note.slot else attempt_slot x nth before

abbrev pub note_of : ℕ → List SlotNote → Option SlotNote
note_of slot trace = find (λ note. note.slot == slot) trace

abbrev pub is_idle : Option SlotNote → Bool
is_idle note = option_map_or (λ n. not (is_some n.frame)) note true

-- the set of a Partial or Silent verdict
abbrev pub reject_set : Verdict → Nodes
reject_set Clean = nobody
reject_set Lost = nobody
reject_set (Partial reject) = reject
reject_set (Silent reject) = reject

-- whether the node was a receiver in the slot: it ran, and did not send
abbrev pub is_receiver : RunState → SlotNote → ℕ → Bool
is_receiver s note i = ran_in s note.slot i && not (has note.senders i)

abbrev pub some_node_of : Nodes → (ℕ → Bool) → Bool
some_node_of nodes test = list_any (λ i. has nodes i && test i) (range_with_len 0 most_nodes)

-- whether a verdict that is not Clean meets a slot that carried nothing
abbrev pub hits_idle_slot : Verdict → Option SlotNote → Bool
hits_idle_slot verdict note = not (is_clean verdict) && is_idle note

-- whether it rejects nodes, and none of them was a receiver of the frame that the slot carried
abbrev pub rejects_no_receiver : RunState → Verdict → Option SlotNote → Bool
rejects_no_receiver s verdict None = false
rejects_no_receiver s verdict (Some note) =
    is_some note.frame && not (is_nobody (reject_set verdict)) && not (some_node_of (reject_set verdict) (is_receiver s note))

-- why the verdict of a rule that acts in this slot had no effect, where it had none
abbrev pub unused_verdict : RunState → ℕ → Verdict → Option SlotNote → List NoFault
unused_verdict s slot verdict note =
    if hits_idle_slot verdict note then Idle slot ∷ []
    else if rejects_no_receiver s verdict note then RejectsNobody slot ∷ []
    else []

-- and why its stops had none
abbrev pub unused_stops : ℕ → Nodes → Option SlotNote → List NoFault
unused_stops slot stop note =
    if not (is_nobody stop) && not (some_node_of stop (λ i. option_map_or (λ n. has n.stops i) note false)) then StopsNobody slot ∷ [] else []

-- of a rule that acts in this slot
abbrev pub unused_in : RunState → ℕ → Rule → List NoFault
unused_in s slot rule =
    unused_verdict s slot rule.verdict (note_of slot s.trace) ++ unused_stops slot rule.stop (note_of slot s.trace)

-- of a rule for a frame, by the slot of its attempt: a rule for the slot is used in its place
abbrev pub unused_of_frame : ScenarioParts → RunState → Identity → Rule → Option ℕ → List NoFault
unused_of_frame scenario s x rule None = Attempts (attempts x s.trace) ∷ []
unused_of_frame scenario s x rule (Some slot) =
    if is_some (slot_rule scenario.rules slot) then Ruled slot ∷ [] else unused_in s slot rule

abbrev pub unused_by_place : ScenarioParts → RunState → Rule → Place → List NoFault
unused_by_place scenario s rule (At slot) = unused_in s slot rule
unused_by_place scenario s rule (FrameNth class number node nth) =
    let x : Identity = record { class = class; number = number; node = node } in
    unused_of_frame scenario s x rule (attempt_slot x nth s.trace)

abbrev pub unused_rule : ScenarioParts → RunState → Rule → List NoFault
unused_rule scenario s rule = unused_by_place scenario s rule rule.place

-- ---- restarts

-- the node did not start again in the slot
abbrev pub is_unused_restart : RunState → NodeAsk → Bool
is_unused_restart s ask = not (has (restarted_in s ask.slot) ask.node)

-- ---- all of them

-- what is found of each entry of a list, with the place of the entry, counted from this one
unfoldable pub with_places : {X Y : Type 0} → (X → List Y) → (Y → UnusedEntry) → ℕ → List X → List Unused
with_places found as_entry place [] = []
with_places found as_entry place (x ∷ xs) =
    map (λ y. record { place = place; entry = as_entry y }) (found x) ++ with_places found as_entry (place + 1) xs

abbrev pub as_list : {X : Type 0} → Option X → List X
as_list o = cons_option o []

-- those of sends, faults, joins, leaves and restarts, each in file order
unfoldable pub unused : ScenarioParts → RunState → List Unused
unused scenario s =
    with_places (λ send. as_list (unused_send s send)) (λ why. entry.Send why) 0 scenario.sends
    ++ with_places (unused_rule scenario s) (λ why. entry.Fault why) 0 scenario.rules
    ++ with_places (λ ask. as_list (unused_ask scenario s Join ask)) (λ why. entry.Join why) 0 scenario.joins
    ++ with_places (λ ask. as_list (unused_ask scenario s Leave ask)) (λ why. entry.Leave why) 0 scenario.leaves
    ++ with_places (λ ask. if is_unused_restart s ask then entry.Restart ∷ [] else []) (λ e. e) 0 scenario.restarts
