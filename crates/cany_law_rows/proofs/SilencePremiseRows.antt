-- Worked rows of silent nodes that stay in the views: runs that lack a premise of the laws which
-- leave such a node out.
use Rattle.std.specs.Prelude.{Bool, ◌≡◌, ℕ, ◌+◌, ◌*◌, ◌<◌, true, false, List, [], ◌∷◌, Option, Some, refl}
use Rattle.std.specs.List.{list_any}
use Rattle.std.proofs.Common.{ap, arith, lit<, lit≤, ◌∙◌, sym}
use Rattle.std.proofs.lemmas.Bool.{false≢true}
use Rattle.cany_base.specs.declared.log_entry.LogEntry.TheVariants.{Failed, View}
use Rattle.cany_base.specs.declared.rule.Verdict.TheVariants.{Lost, Partial}
use Rattle.cany_base.specs.Nodes.{Nodes, has}
use Rattle.cany_base.specs.Scenario.{ScenarioParts}
use Rattle.cany_model.specs.Bus.State.{EndedIncarnation, RunState}
use Rattle.cany_model.specs.Rules.Knowledge.{hears_life}
use Rattle.cany_laws.specs.Detection.{FailedAtStart, HasFailedBy, IsLeftOut, WasSilentAtStart}
use Rattle.cany_laws.specs.Logs.{past_to, present_of}
use Rattle.cany_laws.specs.Membership.{knowledge_as, members_as}
use Rattle.cany_laws.specs.Views.{installed_as}
use Rattle.cany_law_rows.proofs.PremiseWords.{asked_of, is_present, run_of}
use Rattle.cany_law_rows.proofs.RowWords.{again, lived, lived_in, of_nodes, row, seen_of, set, slot_rule, three_by, within, Lived}

-- ---- a node that stops with what it found

-- Node 2 stops in slot 76. Node 0 counts it as failed in slot 144, in which cycle 2 starts, and
-- stops in the next slot, in which its vector without node 2 reaches nobody. Node 1, which heard
-- node 2 later, installs a vector with it: a member that has not read the cycle to its end does not
-- count.
unfoldable stops_with_what_it_found : ScenarioParts
stops_with_what_it_found = three_by 105 10 181 [] (slot_rule 76 (Partial (set 1)) 4 ∷ slot_rule 145 Lost 1 ∷ []) []

-- what the incarnations came to, the next slot that node 0 would read, who counts as failed there
-- after slot 144, its view then, and the vector that node 1 installs in cycle 2
record Stopped : Type 0 where
  came : List (List Lived)
  next : ℕ
  failed : Nodes
  members : Nodes
  vector : Option Nodes

abbrev stopped_in : RunState → Stopped
stopped_in s = record {
  came = of_nodes (lived_in stops_with_what_it_found) 3 s;
  next = (present_of s 0).next;
  failed = (knowledge_as stops_with_what_it_found s 144 0 (present_of s 0)).failed;
  members = members_as stops_with_what_it_found s 144 0 (present_of s 0);
  vector = installed_as stops_with_what_it_found s 1 (present_of s 1) 2;
}

abbrev stopped : Stopped
stopped = record {
  came = (lived 0 145 (View 108 1 (set 7) ∷ Failed 144 2 2 ∷ []) ∷ []) ∷ (lived 0 181 (View 108 1 (set 7) ∷ View 180 2 (set 7) ∷ []) ∷ [])
      ∷ (lived 0 76 [] ∷ []) ∷ [];
  next = 145;
  failed = set 4;
  members = set 7;
  vector = Some (set 7);
}

the_others_have_it : seen_of stopped_in stops_with_what_it_found ≡ within stopped
unfolding row stops_with_what_it_found
the_others_have_it = refl

abbrev first_run : RunState
first_run = run_of stops_with_what_it_found

seen_in_the_first : stopped_in first_run ≡ stopped
seen_in_the_first = asked_of stopped_in stops_with_what_it_found (within stopped) the_others_have_it

-- it had failed at node 0 when the cycle started, and both were in its view
it_had_failed : HasFailedBy stops_with_what_it_found first_run 144 0 (present_of first_run 0) 2
unfolding has
it_had_failed = ap (λ (seen : Stopped). has seen.failed 2) seen_in_the_first

both_were_members :
    (has (members_as stops_with_what_it_found first_run 144 0 (present_of first_run 0)) 0 ≡ true)
    × (has (members_as stops_with_what_it_found first_run 144 0 (present_of first_run 0)) 2 ≡ true)
unfolding has
both_were_members = (ap (λ (seen : Stopped). has seen.members 0) seen_in_the_first, ap (λ (seen : Stopped). has seen.members 2) seen_in_the_first)

-- but node 0 did not read the end
did_not_read_the_end : FailedAtStart stops_with_what_it_found first_run 2 2 0 (present_of first_run 0) → ⊥
unfolding three_by stops_with_what_it_found
did_not_read_the_end says =
    let read : 2 * 72 + 36 < (present_of first_run 0).next = says.read in
    omega (arith, read, ap (λ (seen : Stopped). seen.next) seen_in_the_first)

needs_the_end : IsLeftOut stops_with_what_it_found first_run 2 2 → ⊥
unfolding three_by stops_with_what_it_found has
needs_the_end says =
    false≢true
    (sym (says 1 (present_of first_run 1) (is_present stops_with_what_it_found first_run 1 (lit< tt)) (set 7)
    (ap (λ (seen : Stopped). seen.vector) seen_in_the_first)))

-- ---- a node that is in the view for a shorter time

-- Node 2, which is no member at first, asks to join in slot 10, and the vector of cycle 1, which is
-- installed in slot 108, has it. Nobody hears life of it up to slot 144, in which cycle 2 starts,
-- and it is in the vector of that cycle too: a silence counts only from a slot on after which the
-- node is in the view.
unfoldable joins_and_is_silent : ScenarioParts
unfolding three_by
joins_and_is_silent =
    let sc = three_by 73 10 181 [] [] [] in
    record sc { members = set 3; joins = again 10 2 ∷ [] }

-- of an incarnation what it came to, whether it hears life of node 2 up to slot 144, its view after
-- slot 71, a silence of 73 slots before, and the vector of cycle 2
record OfNode2 : Type 0 where
  came : Lived
  heard : Bool
  members : Nodes
  vector : Option Nodes

abbrev of_node_2 : RunState → ℕ → EndedIncarnation → OfNode2
of_node_2 s i e = record {
  came = lived_in joins_and_is_silent s i e;
  heard = list_any (hears_life 2) (past_to 144 s i e);
  members = members_as joins_and_is_silent s 71 i e;
  vector = installed_as joins_and_is_silent s i e 2;
}

abbrev in_both_views : OfNode2
in_both_views = record {
  came = lived 0 181 (View 108 1 (set 7) ∷ View 180 2 (set 7) ∷ []);
  heard = false;
  members = set 3;
  vector = Some (set 7);
}

-- of all incarnations, and of node 0
record Joined : Type 0 where
  all : List (List OfNode2)
  first : OfNode2

abbrev joined_in : RunState → Joined
joined_in s = record { all = of_nodes of_node_2 3 s; first = of_node_2 s 0 (present_of s 0) }

abbrev joined : Joined
joined = record { all = (in_both_views ∷ []) ∷ (in_both_views ∷ []) ∷ (in_both_views ∷ []) ∷ []; first = in_both_views }

it_stays : seen_of joined_in joins_and_is_silent ≡ within joined
unfolding row joins_and_is_silent
it_stays = refl

abbrev second_run : RunState
second_run = run_of joins_and_is_silent

seen_at_node_0 : of_node_2 second_run 0 (present_of second_run 0) ≡ in_both_views
seen_at_node_0 = ap (λ (seen : Joined). seen.first) (asked_of joined_in joins_and_is_silent (within joined) it_stays)

was_no_member_for_a_silence : WasSilentAtStart joins_and_is_silent second_run 2 2 0 (present_of second_run 0) → ⊥
unfolding three_by joins_and_is_silent has
was_no_member_for_a_silence says =
    false≢true (sym (ap (λ (seen : OfNode2). has seen.members 2) seen_at_node_0) ∙ says.heard.member 71 (lit≤ tt) (lit< tt))

needs_a_whole_silence : IsLeftOut joins_and_is_silent second_run 2 2 → ⊥
unfolding three_by joins_and_is_silent has
needs_a_whole_silence says =
    false≢true
    (sym (says 0 (present_of second_run 0) (is_present joins_and_is_silent second_run 0 (lit< tt)) (set 7)
    (ap (λ (seen : OfNode2). seen.vector) seen_at_node_0)))
