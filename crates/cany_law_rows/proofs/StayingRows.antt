-- Worked rows of members that stay in the views: one that runs all the time, beside one that starts
-- again and does not stay.
use Rattle.std.specs.Prelude.{◌≡◌, ℕ, ◌+◌, ◌*◌, ◌<◌, ◌≤◌, Bool, true, false, List, [], ◌∷◌, Some, None, Option, refl}
use Rattle.std.specs.List.{list_any}
use Rattle.std.proofs.Common.{ap, arith, lit<, lit≤}
use Rattle.std.proofs.lemmas.Bool.{false≢true}
use Rattle.cany_base.specs.declared.log_entry.LogEntry.TheVariants.{Failed, View}
use Rattle.cany_base.specs.declared.rule.Verdict.TheVariants.{Clean}
use Rattle.cany_base.specs.Nodes.{Nodes, has}
use Rattle.cany_base.specs.Scenario.{ScenarioParts}
use Rattle.cany_model.specs.Bus.Slot.{carried}
use Rattle.cany_model.specs.Bus.State.{EndedIncarnation, RunState, node_at}
use Rattle.cany_model.specs.Runs.RoundRobin.{round_robin}
use Rattle.cany_laws.specs.Alarms.{HadInView, NoLeaveWasCarried, StandsInEachVector, is_leave_of}
use Rattle.cany_laws.specs.Logs.{present_of}
use Rattle.cany_laws.specs.Membership.{members_as}
use Rattle.cany_laws.specs.Views.{installed_as}
use Rattle.cany_law_rows.proofs.PremiseWords.{asked_of, below_three, has_read_the_end, is_earlier, is_present, none_has, of_each, of_no_vector, of_vector, run_of, stopped_in}
use Rattle.cany_law_rows.proofs.RowWords.{again, lived, lived_in, of_nodes, row, seen_of, set, slot_rule, two, within, Lived}

-- Node 1 stops in slot 5, starts again at the end of slot 6, and takes part since slot 26. It is in
-- the vector of cycle 1 without having asked to join, and asks for no leave. With no omission a
-- vector of node 0 covers its own, so nobody hears it: with a `silence` of 60 it counts as failed
-- in slot 60, though it runs and is a member, and it is out of the vector of cycle 2, which is
-- installed in slot 95. Node 0, which never stopped, is in both.
unfoldable back_unheard : ScenarioParts
unfolding two
back_unheard =
    let sc = two 97 [] (slot_rule 5 Clean 2 ∷ []) (again 6 1 ∷ []) in
    record sc { params = record sc.params { silence = 60; omit = 0 } }

-- of an incarnation what it came to, its view after slot 58, and the vectors of cycles 0, 1 and 2
record Kept : Type 0 where
  came : Lived
  members : Nodes
  vector_0 : Option Nodes
  vector_1 : Option Nodes
  vector_2 : Option Nodes

abbrev kept_in : RunState → ℕ → EndedIncarnation → Kept
kept_in s i e = record {
  came = lived_in back_unheard s i e;
  members = members_as back_unheard s 58 i e;
  vector_0 = installed_as back_unheard s i e 0;
  vector_1 = installed_as back_unheard s i e 1;
  vector_2 = installed_as back_unheard s i e 2;
}

-- of all incarnations, of the present ones, and of the earlier one of node 1, and whether a slot
-- carried a LEAVE of node 0
record Stayed : Type 0 where
  all : List (List Kept)
  first : Kept
  again : Kept
  earlier : List EndedIncarnation
  at_first : Nodes
  left : Bool

abbrev stayed_in : RunState → Stayed
stayed_in s = record {
  all = of_nodes kept_in 2 s;
  first = kept_in s 0 (present_of s 0);
  again = kept_in s 1 (present_of s 1);
  earlier = (node_at s.nodes 1).ended;
  at_first = members_as back_unheard s 4 1 (stopped_in 5);
  left = list_any (carried (is_leave_of 0)) s.trace;
}

abbrev of_node_0 : Kept
of_node_0 = record {
  came = lived 0 97 (View 57 1 (set 3) ∷ Failed 60 1 1 ∷ View 95 2 (set 1) ∷ []);
  members = set 3;
  vector_0 = None;
  vector_1 = Some (set 3);
  vector_2 = Some (set 1);
}

abbrev of_node_1 : Kept
of_node_1 = record {
  came = lived 26 97 (View 57 1 (set 3) ∷ Failed 61 1 1 ∷ []);
  members = set 3;
  vector_0 = None;
  vector_1 = Some (set 3);
  vector_2 = Some (set 1);
}

abbrev of_earlier : Kept
of_earlier = record { came = lived 0 5 []; members = set 3; vector_0 = None; vector_1 = None; vector_2 = None }

abbrev stayed : Stayed
stayed = record {
  all = (of_node_0 ∷ []) ∷ (of_node_1 ∷ of_earlier ∷ []) ∷ [];
  first = of_node_0;
  again = of_node_1;
  earlier = stopped_in 5 ∷ [];
  at_first = set 3;
  left = false;
}

it_does_not_stay : seen_of stayed_in back_unheard ≡ within stayed
unfolding row back_unheard
it_does_not_stay = refl

-- ---- what the laws say of it

abbrev its_run : RunState
its_run = run_of back_unheard

seen_in_it : stayed_in its_run ≡ stayed
seen_in_it = asked_of stayed_in back_unheard (within stayed) it_does_not_stay

-- The incarnation of the opening of node 1 had node 0 in its view after slot 4, and that of node 0
-- had both in its view after slot 58. The former has not read slot 5.
stopped_node_had_node_0 : HadInView back_unheard its_run 0 4 1 (stopped_in 5)
unfolding two back_unheard has
stopped_node_had_node_0 = record {
  is = is_earlier back_unheard its_run 1 (stopped_in 5) (lit< tt) (ap (λ (seen : Stayed). seen.earlier) seen_in_it);
  read = lit< tt;
  member = ap (λ (seen : Stayed). has seen.at_first 0) seen_in_it;
}

and_not_in_the_slot_of_its_stop : HadInView back_unheard its_run 0 5 1 (stopped_in 5) → ⊥
and_not_in_the_slot_of_its_stop says = let read = says.read in omega (arith, read)

node_0_had_node_1 : HadInView back_unheard its_run 1 58 0 (present_of its_run 0)
unfolding two back_unheard has
node_0_had_node_1 = record {
  is = is_present back_unheard its_run 0 (lit< tt);
  read = omega (arith, ap (λ (seen : Stayed). seen.first.came.next) seen_in_it);
  member = ap (λ (seen : Stayed). has seen.first.members 1) seen_in_it;
}

no_leave_of_node_0 : NoLeaveWasCarried its_run 0
no_leave_of_node_0 = none_has (carried (is_leave_of 0)) its_run.trace (ap (λ (seen : Stayed). seen.left) seen_in_it)

-- so node 0 stands in each vector of a cycle that ends after slot 4
abbrev HaveNode0 : Option Nodes → Type 0
HaveNode0 vector = (v : Nodes) → vector ≡ Some v → has v 0 ≡ true

abbrev KeepsNode0 : ℕ → Kept → Type 0
KeepsNode0 i found = (found.came.next ≤ 97) × (HaveNode0 found.vector_0 × (HaveNode0 found.vector_1 × HaveNode0 found.vector_2))

none_has_it : HaveNode0 None
none_has_it = of_no_vector (λ v. has v 0 ≡ true)

both_have_it : HaveNode0 (Some (set 3))
unfolding has
both_have_it = of_vector (λ v. has v 0 ≡ true) (Some (set 3)) (set 3) refl refl

one_has_it : HaveNode0 (Some (set 1))
unfolding has
one_has_it = of_vector (λ v. has v 0 ≡ true) (Some (set 1)) (set 1) refl refl

node_0_stays : StandsInEachVector back_unheard its_run 0 4
unfolding two back_unheard
node_0_stays j f is k v installs later =
    let found = of_each KeepsNode0 kept_in back_unheard its_run stayed.all (ap (λ (seen : Stayed). seen.all) seen_in_it) (
      ((lit≤ tt, (none_has_it, (both_have_it, one_has_it))), tt),
      (((lit≤ tt, (none_has_it, (both_have_it, one_has_it))), ((lit≤ tt, (none_has_it, (none_has_it, none_has_it))), tt)), tt),
    ) j f is in
    let read : k * 38 + 19 < f.next = has_read_the_end back_unheard (round_robin back_unheard) j k f is v installs in
    below_three (λ d. HaveNode0 (installed_as back_unheard its_run j f d)) found.1.0 found.1.1.0 found.1.1.1 k
    (omega (arith, read, found.0)) v installs

-- and node 1, which started again, does not stay
node_1_does_not_stay : StandsInEachVector back_unheard its_run 1 58 → ⊥
unfolding two back_unheard has
node_1_does_not_stay says =
    false≢true (says 0 (present_of its_run 0) (is_present back_unheard its_run 0 (lit< tt)) 2 (set 1)
    (ap (λ (seen : Stayed). seen.first.vector_2) seen_in_it) (lit< tt))
