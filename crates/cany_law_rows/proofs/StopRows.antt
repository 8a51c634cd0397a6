-- Worked rows of nodes that stop: what their logs have, and what they have accepted.
use Rattle.std.specs.Prelude.{Bool, ◌≡◌, ℕ, ◌+◌, ◌<◌, true, false, List, [], ◌∷◌, Option, Some, Contains, refl}
use Rattle.std.proofs.Common.{ap, arith, lit<, ◌∙◌, sym}
use Rattle.cany_base.specs.declared.log_entry.LogEntry.{LogEntry}
use Rattle.cany_base.specs.declared.log_entry.LogEntry.TheVariants.{Deliver, Failed, View}
use Rattle.cany_base.specs.declared.message.Service.TheVariants.{Tot}
use Rattle.cany_base.specs.declared.rule.Verdict.TheVariants.{Clean, Partial}
use Rattle.cany_base.specs.Scenario.{ScenarioParts}
use Rattle.cany_base.specs.Nodes.{Nodes}
use Rattle.cany_model.specs.Bus.State.{EndedIncarnation, RunState}
use Rattle.cany_model.proofs.Among.{Among-from_Contains, Each-of}
use Rattle.cany_laws.specs.Acceptance.{IsAcceptedByEachOrNone, accepted_in_time_as}
use Rattle.cany_laws.specs.Logs.{HasReadClosingAs, IsIncarnation, log_as, present_of}
use Rattle.cany_laws.specs.Views.{EachHasOneView, EachInstallsOneVector, HasReadEndAs, installed_as}
use Rattle.cany_law_rows.proofs.PremiseWords.{asked_of, is_present, of_each, run_of}
use Rattle.cany_law_rows.proofs.RowWords.{delivers, key, lived, lived_in, of_nodes, row, seen_of, send, set, slot_rule, three, two, within, Lived}

-- ---- a node that stopped

-- Node 0 accepts its own message, which was carried Clean in slot 1, delivers it and stops in the
-- next slot, in which the frame that accepts it reaches nobody.
unfoldable alone : ScenarioParts
alone = three 45 (send Tot 0 0 (1 ∷ []) ∷ []) (slot_rule 2 (Partial (set 6)) 1 ∷ []) []

-- of an incarnation what it came to, and whether it has accepted the message
record WithIt : Type 0 where
  came : Lived
  accepted : Bool

abbrev with_it : RunState → ℕ → EndedIncarnation → WithIt
with_it s i e = record { came = lived_in alone s i e; accepted = accepted_in_time_as alone s (key 0 0) 1 i e }

abbrev without_it : WithIt
without_it = record { came = lived 0 45 []; accepted = false }

-- It did not read slot 37, in which the message closes. The law on acceptance is of those that did:
-- the other two have not accepted it.
abbrev by_one_node : List (List WithIt)
by_one_node = (record { came = lived 0 2 (delivers 1 Tot 0 0 (1 ∷ []) ∷ []); accepted = true } ∷ []) ∷ (without_it ∷ []) ∷ (without_it ∷ []) ∷ []

delivered_by_a_stopped_node : seen_of (of_nodes with_it 3) alone ≡ within by_one_node
unfolding row alone
delivered_by_a_stopped_node = refl

-- so what has read the closing is not it
abbrev HasNotIt : ℕ → WithIt → Type 0
HasNotIt i found = 1 + 36 < found.came.next → found.accepted ≡ false

each_that_read_it_has_not_accepted : (i : ℕ) (e : EndedIncarnation) → HasReadClosingAs alone (run_of alone) 1 i e
    → accepted_in_time_as alone (run_of alone) (key 0 0) 1 i e ≡ false
unfolding three alone
each_that_read_it_has_not_accepted i e h =
    of_each HasNotIt with_it alone (run_of alone) by_one_node (asked_of (of_nodes with_it 3) alone (within by_one_node) delivered_by_a_stopped_node)
    (((λ read. absurd (omega (arith, read))), tt), (((λ read. refl), tt), (((λ read. refl), tt), tt))) i e h.is h.read

accepted_by_all_of_them_or_none : IsAcceptedByEachOrNone alone (run_of alone) (key 0 0) 1
accepted_by_all_of_them_or_none i j e f here there =
    each_that_read_it_has_not_accepted i e here ∙ sym (each_that_read_it_has_not_accepted j f there)

-- Node 1 stops once it has read slot 20, in which the message closes. It has delivered it, as the
-- other one has.
unfoldable stops_after_the_closing : ScenarioParts
stops_after_the_closing = two 30 (send Tot 0 0 (1 ∷ []) ∷ []) (slot_rule 22 Clean 2 ∷ []) []

-- of an incarnation what it came to, and whether it has accepted the message
abbrev closing_of : RunState → ℕ → EndedIncarnation → WithIt
closing_of s i e = record { came = lived_in stops_after_the_closing s i e; accepted = accepted_in_time_as stops_after_the_closing s (key 0 0) 1 i e }

-- of all incarnations, and of the present ones of both nodes
record Closed : Type 0 where
  all : List (List WithIt)
  running : WithIt
  stopped : WithIt

abbrev closed_in : RunState → Closed
closed_in s = record { all = of_nodes closing_of 2 s; running = closing_of s 0 (present_of s 0); stopped = closing_of s 1 (present_of s 1) }

abbrev with_a_delivery : ℕ → ℕ → WithIt
with_a_delivery next slot = record { came = lived 0 next (delivers slot Tot 0 0 (1 ∷ []) ∷ []); accepted = true }

abbrev closed : Closed
closed = record { all = (with_a_delivery 30 1 ∷ []) ∷ (with_a_delivery 22 2 ∷ []) ∷ []; running = with_a_delivery 30 1; stopped = with_a_delivery 22 2 }

delivered_by_both : seen_of closed_in stops_after_the_closing ≡ within closed
unfolding row stops_after_the_closing
delivered_by_both = refl

abbrev closing_run : RunState
closing_run = run_of stops_after_the_closing

seen_at_the_closing : closed_in closing_run ≡ closed
seen_at_the_closing = asked_of closed_in stops_after_the_closing (within closed) delivered_by_both

-- Both have read the closing of a message that was carried in slot 1, the node that runs and the
-- one that stopped. The latter has read that of one which was carried in slot 2, and not in slot 3.
running_node_has_read_it : HasReadClosingAs stops_after_the_closing closing_run 1 0 (present_of closing_run 0)
unfolding two stops_after_the_closing
running_node_has_read_it = record {
  is = is_present stops_after_the_closing closing_run 0 (lit< tt);
  took_part = omega (arith, ap (λ (seen : Closed). seen.running.came.from) seen_at_the_closing);
  read = omega (arith, ap (λ (seen : Closed). seen.running.came.next) seen_at_the_closing);
}

stopped_node_has_read_it : HasReadClosingAs stops_after_the_closing closing_run 2 1 (present_of closing_run 1)
unfolding two stops_after_the_closing
stopped_node_has_read_it = record {
  is = is_present stops_after_the_closing closing_run 1 (lit< tt);
  took_part = omega (arith, ap (λ (seen : Closed). seen.stopped.came.from) seen_at_the_closing);
  read = omega (arith, ap (λ (seen : Closed). seen.stopped.came.next) seen_at_the_closing);
}

and_not_that_of_the_next_slot : HasReadClosingAs stops_after_the_closing closing_run 3 1 (present_of closing_run 1) → ⊥
unfolding two stops_after_the_closing
and_not_that_of_the_next_slot says =
    let read : 3 + 19 < (present_of closing_run 1).next = says.read in
    omega (arith, read, ap (λ (seen : Closed). seen.stopped.came.next) seen_at_the_closing)

-- Node 1 stops once it has read the end of cycle 1, in slot 57. Its log has the view that the other
-- one has.
unfoldable stops_with_the_view : ScenarioParts
stops_with_the_view = two 60 [] (slot_rule 58 Clean 2 ∷ []) []

-- of an incarnation what it came to, and the vector of cycle 1
record WithVector : Type 0 where
  came : Lived
  vector : Option Nodes

abbrev with_vector : RunState → ℕ → EndedIncarnation → WithVector
with_vector s i e = record { came = lived_in stops_with_the_view s i e; vector = installed_as stops_with_the_view s i e 1 }

-- of all incarnations, and of the one that stopped
record Installed : Type 0 where
  all : List (List WithVector)
  stopped : WithVector

abbrev installed_in : RunState → Installed
installed_in s = record { all = of_nodes with_vector 2 s; stopped = with_vector s 1 (present_of s 1) }

abbrev both_install_it : ℕ → WithVector
both_install_it next = record { came = lived 0 next (View 57 1 (set 3) ∷ []); vector = Some (set 3) }

abbrev installed : Installed
installed = record { all = (both_install_it 60 ∷ []) ∷ (both_install_it 58 ∷ []) ∷ []; stopped = both_install_it 58 }

a_stopped_node_has_the_view : seen_of installed_in stops_with_the_view ≡ within installed
unfolding row stops_with_the_view
a_stopped_node_has_the_view = refl

abbrev view_run : RunState
view_run = run_of stops_with_the_view

seen_at_the_end : installed_in view_run ≡ installed
seen_at_the_end = asked_of installed_in stops_with_the_view (within installed) a_stopped_node_has_the_view

stopped_node_has_read_the_end : HasReadEndAs stops_with_the_view view_run 1 1 (present_of view_run 1)
unfolding two stops_with_the_view
stopped_node_has_read_the_end = record {
  is = is_present stops_with_the_view view_run 1 (lit< tt);
  took_part = omega (arith, ap (λ (seen : Installed). seen.stopped.came.from) seen_at_the_end);
  read = omega (arith, ap (λ (seen : Installed). seen.stopped.came.next) seen_at_the_end);
}

each_has_it : (i : ℕ) (e : EndedIncarnation) → IsIncarnation stops_with_the_view view_run i e
    → (installed_as stops_with_the_view view_run i e 1 ≡ Some (set 3)) × (e.incarnation.from ≡ 0)
unfolding two stops_with_the_view
each_has_it =
    of_each (λ i found. (found.vector ≡ Some (set 3)) × (found.came.from ≡ 0)) with_vector stops_with_the_view view_run installed.all
    (ap (λ (seen : Installed). seen.all) seen_at_the_end) (((refl, refl), tt), (((refl, refl), tt), tt))

each_installs_one_vector : EachInstallsOneVector stops_with_the_view view_run 1
each_installs_one_vector = record {
  alike = λ i j e f here there. (each_has_it i e here.is).0 ∙ sym (each_has_it j f there.is).0;
  late = λ i e is late. absurd (omega (arith, late, (each_has_it i e is).1));
}

-- and the logs have one view
abbrev HasItsMembers : LogEntry → Type 0
HasItsMembers (Deliver slot service msg payload) = Unit {0}
HasItsMembers (Failed slot node cycle) = Unit {0}
HasItsMembers (View slot number members) = members ≡ set 3

each_view_has_them : (i : ℕ) (e : EndedIncarnation) → IsIncarnation stops_with_the_view view_run i e
    → (entry : LogEntry) → Contains (log_as stops_with_the_view view_run i e) entry → HasItsMembers entry
unfolding two stops_with_the_view
each_view_has_them =
    of_each (λ i (found : WithVector). (entry : LogEntry) → Contains found.came.log entry → HasItsMembers entry) with_vector stops_with_the_view view_run
    installed.all (ap (λ (seen : Installed). seen.all) seen_at_the_end) ((of_its_view, tt), ((of_its_view, tt), tt))
  where
    of_its_view : (entry : LogEntry) → Contains (View 57 1 (set 3) ∷ []) entry → HasItsMembers entry
    of_its_view entry stands = Each-of HasItsMembers entry (View 57 1 (set 3) ∷ []) (refl, tt) (Among-from_Contains (View 57 1 (set 3) ∷ []) entry stands)

each_has_one_view : EachHasOneView stops_with_the_view view_run
each_has_one_view i j e f is also number here there members others view other =
    each_view_has_them i e is (View here number members) view ∙ sym (each_view_has_them j f also (View there number others) other)
