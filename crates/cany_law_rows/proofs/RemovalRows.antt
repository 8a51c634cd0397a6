-- Worked rows of nodes that are heard no more: two that stay out of the views, and one that an old
-- JOIN brings back.
use Rattle.std.specs.Prelude.{◌≡◌, ℕ, ◌+◌, ◌≤◌, Bool, true, false, List, [], ◌∷◌, Option, Some, None, drop, take, refl}
use Rattle.std.specs.List.{list_any}
use Rattle.std.proofs.Common.{ap, arith, lit<, lit≤, ◌∙◌, sym}
use Rattle.std.proofs.lemmas.Bool.{false≢true}
use Rattle.cany_base.specs.declared.class.Class.TheVariants as class
use Rattle.cany_base.specs.declared.rule.Verdict.TheVariants.{Clean}
use Rattle.cany_base.specs.declared.slot_note.SlotNote.{SlotNote}
use Rattle.cany_base.specs.Nodes.{Nodes, has}
use Rattle.cany_base.specs.Scenario.{ScenarioParts}
use Rattle.cany_model.specs.Bus.Frames.{same_class}
use Rattle.cany_model.specs.Bus.Slot.{carried, share_of}
use Rattle.cany_model.specs.Bus.State.{EndedIncarnation, RunState, node_at}
use Rattle.cany_model.specs.Rules.Knowledge.{hears_life}
use Rattle.cany_laws.specs.Detection.{IsLeftOut}
use Rattle.cany_laws.specs.Logs.{past_to, present_of}
use Rattle.cany_laws.specs.Membership.{members_as}
use Rattle.cany_laws.specs.Removal.{HadItLongBefore, HearsNoLifeOf, NobodyGotJoin}
use Rattle.cany_laws.specs.Views.{installed_as}
use Rattle.cany_law_rows.proofs.PremiseWords.{asked_of, gave_no_join, is_join_of, is_present, none_has, note_in, of_each, of_no_vector, of_vector, run_of}
use Rattle.cany_law_rows.proofs.RowWords.{again, of_nodes, row, seen_of, set, slot_rule, three, two, within}

-- ---- a node that starts again, and does not ask to join

-- Node 1 stops in slot 5 and starts again in slot 60, but does not ask to join. Cycle 2 starts in
-- slot 76 without it, and so does cycle 3 in slot 114: of the 39 slots before, node 0 had it in its
-- view after the first 20 alone.
unfoldable does_not_ask : ScenarioParts
does_not_ask = two 134 [] (slot_rule 5 Clean 2 ∷ []) (again 60 1 ∷ [])

-- Of node 0 the next slot that it would read, whether it hears life of node 1 in the slots after 5
-- and up to 114, and its views after slots 5, 75 and 113.
record AtNode0 : Type 0 where
  next : ℕ
  heard : Bool
  view_5 : Nodes
  view_75 : Nodes
  view_113 : Nodes

-- The same, whether a slot carried a JOIN of node 1, whether the new incarnation of this one hears
-- life of node 0 in the slots after 80 and up to 114, the vectors of node 0 in cycles 1 and 2, and
-- those of all incarnations in cycle 3.
record Unheard : Type 0 where
  there : AtNode0
  joined : Bool
  again : Bool
  vectors : List (Option Nodes)
  last : List (List (Option Nodes))

abbrev at_node_0 : RunState → AtNode0
at_node_0 s =
    let e = present_of s 0 in
    record {
      next = e.next;
      heard = list_any (hears_life 1) (take 109 (past_to 114 s 0 e));
      view_5 = members_as does_not_ask s 5 0 e;
      view_75 = members_as does_not_ask s 75 0 e;
      view_113 = members_as does_not_ask s 113 0 e;
    }

abbrev vector_3_of : RunState → ℕ → EndedIncarnation → Option Nodes
vector_3_of s i e = installed_as does_not_ask s i e 3

abbrev unheard_in : RunState → Unheard
unheard_in s = record {
  there = at_node_0 s;
  joined = list_any (carried (is_join_of 1)) s.trace;
  again = list_any (hears_life 0) (take 34 (past_to 114 s 1 (present_of s 1)));
  vectors = installed_as does_not_ask s 0 (present_of s 0) 1 ∷ installed_as does_not_ask s 0 (present_of s 0) 2 ∷ [];
  last = of_nodes vector_3_of 2 s;
}

abbrev unheard : Unheard
unheard = record {
  there = record { next = 134; heard = false; view_5 = set 3; view_75 = set 3; view_113 = set 1 };
  joined = false;
  again = true;
  vectors = Some (set 3) ∷ Some (set 1) ∷ [];
  last = (Some (set 1) ∷ []) ∷ (Some (set 1) ∷ None ∷ []) ∷ [];
}

out_from_cycle_2_on : seen_of unheard_in does_not_ask ≡ within unheard
unfolding row does_not_ask
out_from_cycle_2_on = refl

abbrev first_run : RunState
first_run = run_of does_not_ask

seen_unheard : unheard_in first_run ≡ unheard
seen_unheard = asked_of unheard_in does_not_ask (within unheard) out_from_cycle_2_on

unheard_at_node_0 : at_node_0 first_run ≡ unheard.there
unheard_at_node_0 = ap (λ (seen : Unheard). seen.there) seen_unheard

-- So the premises of a removal from cycle 3 are met, though node 1 is no member any more when it
-- starts,
had_it_long_before : HadItLongBefore does_not_ask first_run 1 5 3 0 (present_of first_run 0)
unfolding two does_not_ask has
had_it_long_before = record {
  is = is_present does_not_ask first_run 0 (lit< tt);
  other = λ same. omega (arith, same);
  late = lit≤ tt;
  member = ap (λ (seen : AtNode0). has seen.view_5 1) unheard_at_node_0;
  own = ap (λ (seen : AtNode0). has seen.view_113 0) unheard_at_node_0;
  read_end = omega (arith, ap (λ (seen : AtNode0). seen.next) unheard_at_node_0);
}

hears_no_life_of_it : HearsNoLifeOf does_not_ask first_run 1 5 114 0 (present_of first_run 0)
hears_no_life_of_it = ap (λ (seen : AtNode0). seen.heard) unheard_at_node_0

nobody_got_a_join : NobodyGotJoin does_not_ask first_run 1 5 114
nobody_got_a_join note stands late by_then =
    gave_no_join 1 note (none_has (carried (is_join_of 1)) first_run.trace (ap (λ (seen : Unheard). seen.joined) seen_unheard) note stands)

-- and no vector of cycle 3 has it
is_left_out : IsLeftOut does_not_ask first_run 1 3
unfolding two does_not_ask has
is_left_out =
    let without = of_vector (λ v. has v 1 ≡ false) (Some (set 1)) (set 1) refl refl in
    of_each (λ i vector. (v : Nodes) → vector ≡ Some v → has v 1 ≡ false) vector_3_of does_not_ask first_run unheard.last
    (ap (λ (seen : Unheard). seen.last) seen_unheard) ((without, tt), ((without, (of_no_vector (λ v. has v 1 ≡ false), tt)), tt))

-- Cycle 1 starts too early after slot 5. And the new incarnation of node 1 hears life of node 0.
too_early_for_cycle_1 : HadItLongBefore does_not_ask first_run 1 5 1 0 (present_of first_run 0) → ⊥
unfolding two does_not_ask
too_early_for_cycle_1 says = let late : 5 + 39 ≤ 38 = says.late in omega (arith, late)

the_other_is_heard : HearsNoLifeOf does_not_ask first_run 0 80 114 1 (present_of first_run 1) → ⊥
the_other_is_heard says = false≢true (sym says ∙ ap (λ (seen : Unheard). seen.again) seen_unheard)

-- ---- a node that stops for good

-- Node 1 stops in slot 5, and node 2, which stops in slot 6, starts again. Nobody asks to join.
-- Both are in the vector of cycle 1, and neither in that of cycle 2, which starts in slot 144, a
-- silence of 73 slots or more after slot 5: node 0 is in its own view and reads cycle 2 to its end.
unfoldable stops_for_good : ScenarioParts
stops_for_good = three 182 [] (slot_rule 5 Clean 2 ∷ slot_rule 6 Clean 4 ∷ []) (again 7 2 ∷ [])

-- when node 1 stopped; of node 0 the next slot that it would read, its view after slot 5, that
-- before cycle 2 starts, and the vector of cycle 1; whether a slot carried a JOIN of node 1; and
-- the vectors of all incarnations in cycle 2
record Stopped : Type 0 where
  stopped : Option ℕ
  next : ℕ
  view_5 : Nodes
  view_143 : Nodes
  vector_1 : Option Nodes
  joined : Bool
  last : List (List (Option Nodes))

abbrev vector_2_of : RunState → ℕ → EndedIncarnation → Option Nodes
vector_2_of s i e = installed_as stops_for_good s i e 2

abbrev stopped_in : RunState → Stopped
stopped_in s =
    let e = present_of s 0 in
    record {
      stopped = (node_at s.nodes 1).stopped;
      next = e.next;
      view_5 = members_as stops_for_good s 5 0 e;
      view_143 = members_as stops_for_good s 143 0 e;
      vector_1 = installed_as stops_for_good s 0 e 1;
      joined = list_any (carried (is_join_of 1)) s.trace;
      last = of_nodes vector_2_of 3 s;
    }

abbrev stopped : Stopped
stopped = record {
  stopped = Some 5;
  next = 182;
  view_5 = set 7;
  view_143 = set 7;
  vector_1 = Some (set 7);
  joined = false;
  last = (Some (set 1) ∷ []) ∷ (None ∷ []) ∷ (Some (set 1) ∷ None ∷ []) ∷ [];
}

stopped_and_out : seen_of stopped_in stops_for_good ≡ within stopped
unfolding row stops_for_good
stopped_and_out = refl

abbrev second_run : RunState
second_run = run_of stops_for_good

seen_stopped : stopped_in second_run ≡ stopped
seen_stopped = asked_of stopped_in stops_for_good (within stopped) stopped_and_out

had_the_stopped_one : HadItLongBefore stops_for_good second_run 1 5 2 0 (present_of second_run 0)
unfolding three stops_for_good has
had_the_stopped_one = record {
  is = is_present stops_for_good second_run 0 (lit< tt);
  other = λ same. omega (arith, same);
  late = lit≤ tt;
  member = ap (λ (seen : Stopped). has seen.view_5 1) seen_stopped;
  own = ap (λ (seen : Stopped). has seen.view_143 0) seen_stopped;
  read_end = omega (arith, ap (λ (seen : Stopped). seen.next) seen_stopped);
}

nobody_got_its_join : NobodyGotJoin stops_for_good second_run 1 5 5
nobody_got_its_join note stands late by_then =
    gave_no_join 1 note (none_has (carried (is_join_of 1)) second_run.trace (ap (λ (seen : Stopped). seen.joined) seen_stopped) note stands)

the_stopped_one_is_left_out : IsLeftOut stops_for_good second_run 1 2
unfolding three stops_for_good has
the_stopped_one_is_left_out =
    let without = of_vector (λ v. has v 1 ≡ false) (Some (set 1)) (set 1) refl refl in
    let never = of_no_vector (λ v. has v 1 ≡ false) in
    of_each (λ i vector. (v : Nodes) → vector ≡ Some v → has v 1 ≡ false) vector_2_of stops_for_good second_run stopped.last
    (ap (λ (seen : Stopped). seen.last) seen_stopped) ((without, tt), ((never, tt), ((without, (never, tt)), tt)))

-- ---- a JOIN from before

-- Nodes 0 and 2 are members at first. Node 2 asks to leave; nodes 1 and 2 stop in slot 2 and start
-- again, and both ask to join: their JOINs are carried in slots 40 and 41, and node 2 stops for
-- good in slot 42. Node 0 has it in its view until cycle 1 ends, so it does not count its JOIN;
-- node 1 has nobody in its view, and does. Node 0 asks to leave too, is out in cycle 1, which
-- starts in slot 68, and asks to join again. So node 1 alone starts cycle 2, in slot 136, with
-- both, and node 2 is in the vector of this cycle: more than the silence of 69 slots after its
-- stop, after which node 0 had it in its view. The law on removal asks of the observer that it
-- stands in its own view when the cycle starts, as node 0 does not, and that nobody got a JOIN of
-- node 2 in the `cycle` + `bound` slots before slot 42: two premises that cycle 2 breaks both.
-- Cycle 3 breaks the second alone, for as a member node 0 starts it with node 2 as well: the
-- scenario `kept_by_a_join_before_the_stop` shows it.
unfoldable an_old_ask : ScenarioParts
unfolding three
an_old_ask =
    let sc = three 171 [] (slot_rule 2 Clean 6 ∷ slot_rule 42 Clean 4 ∷ []) (again 3 1 ∷ again 3 2 ∷ []) in
    record sc {
      params = record sc.params { errors = 0; bound = 34; cycle = 68; life = 34; silence = 69 };
      members = set 5;
      joins = again 39 1 ∷ again 39 2 ∷ again 104 0 ∷ [];
      leaves = again 0 2 ∷ again 60 0 ∷ [];
    }

-- of node 0 its view after slot 42, that before cycle 2 starts, and the vector of cycle 2; and the
-- note of slot 41
record Brought : Type 0 where
  view_42 : Nodes
  view_135 : Nodes
  vector_2 : Option Nodes
  note : List SlotNote

abbrev brought_in : RunState → Brought
brought_in s = record {
  view_42 = members_as an_old_ask s 42 0 (present_of s 0);
  view_135 = members_as an_old_ask s 135 0 (present_of s 0);
  vector_2 = installed_as an_old_ask s 0 (present_of s 0) 2;
  note = take 1 (drop 129 s.trace);
}

-- the JOIN of node 2, which nodes 0 and 1 take
abbrev its_note : SlotNote
its_note = record {
  slot = 41;
  frame = Some (record { class = class.Join; number = 0; node = 2; inc = 1; payload = [] });
  senders = set 4;
  takers = set 3;
  verdict = Clean;
  stops = set 0;
}

abbrev brought : Brought
brought = record { view_42 = set 5; view_135 = set 2; vector_2 = Some (set 7); note = its_note ∷ [] }

stopped_and_admitted : seen_of brought_in an_old_ask ≡ within brought
unfolding row an_old_ask
stopped_and_admitted = refl

abbrev third_run : RunState
third_run = run_of an_old_ask

seen_brought : brought_in third_run ≡ brought
seen_brought = asked_of brought_in an_old_ask (within brought) stopped_and_admitted

-- the two premises that are broken
stands_not_in_its_own_view : HadItLongBefore an_old_ask third_run 2 42 2 0 (present_of third_run 0) → ⊥
unfolding three an_old_ask has
stands_not_in_its_own_view says = false≢true (sym (ap (λ (seen : Brought). has seen.view_135 0) seen_brought) ∙ says.own)

node_1_got_the_join : NobodyGotJoin an_old_ask third_run 2 42 42 → ⊥
unfolding three an_old_ask has same_class share_of
node_1_got_the_join says =
    let stands = note_in third_run.trace 129 its_note (ap (λ (seen : Brought). seen.note) seen_brought) in
    false≢true (sym (says its_note stands (lit< tt) (lit≤ tt) 1))

-- and the node is in the vector of cycle 2
is_not_left_out : IsLeftOut an_old_ask third_run 2 2 → ⊥
unfolding three an_old_ask has
is_not_left_out says =
    false≢true (sym (says 0 (present_of third_run 0) (is_present an_old_ask third_run 0 (lit< tt)) (set 7)
    (ap (λ (seen : Brought). seen.vector_2) seen_brought)))
