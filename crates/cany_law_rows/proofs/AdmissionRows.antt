-- Worked rows of a node that started again, asks to join when it knows that it is outside, and is
-- admitted.
use Rattle.std.specs.Prelude.{◌≡◌, ℕ, true, false, List, [], ◌∷◌, Option, Some, None, drop, take, refl}
use Rattle.std.proofs.Common.{ap, arith, inl, inr, lit<, lit≤}
use Rattle.cany_base.specs.declared.class.Class.TheVariants as class
use Rattle.cany_base.specs.declared.rule.Verdict.TheVariants.{Clean}
use Rattle.cany_base.specs.declared.slot_note.SlotNote.{SlotNote}
use Rattle.cany_base.specs.Frame.{FrameParts}
use Rattle.cany_base.specs.Nodes.{Nodes, has}
use Rattle.cany_base.specs.Scenario.{ScenarioParts}
use Rattle.cany_model.specs.Bus.State.{EndedIncarnation, RunState}
use Rattle.cany_laws.specs.Admission.{IsAdmittedByEach, IsOutsideAtEach, JoinIsCarried, KnowsItOutside}
use Rattle.cany_laws.specs.Logs.{IsIncarnation, present_of}
use Rattle.cany_laws.specs.Membership.{members_as}
use Rattle.cany_laws.specs.Views.{installed_as}
use Rattle.cany_law_rows.proofs.PremiseWords.{asked_of, is_present, note_in, of_each, of_no_vector, of_vector, run_of}
use Rattle.cany_law_rows.proofs.RowWords.{again, joining, of_nodes, row, seen_of, set, slot_rule, within}

-- Node 1 is no member, stops in slot 2, starts again and takes part since slot 23. Cycle 1, which
-- starts in slot 38, ends in slot 57 with a vector without it, so it knows that it is outside. The
-- JOIN that it asks for in slot 60 is carried in slot 61, before cycle 2 starts in slot 76, and the
-- vector of this cycle has it.
unfoldable asks_when_it_knows : ScenarioParts
asks_when_it_knows = joining 97 38 (set 1) (again 60 1 ∷ []) (slot_rule 2 Clean 2 ∷ []) (again 3 1 ∷ [])

-- of an incarnation of that run since which slot it takes part, the next slot that it would read,
-- the vectors of cycles 1 and 2, and the view after slot 60
record Admitted : Type 0 where
  from : ℕ
  next : ℕ
  vector_1 : Option Nodes
  vector_2 : Option Nodes
  view : Nodes

abbrev admitted_in : RunState → ℕ → EndedIncarnation → Admitted
admitted_in s i e = record {
  from = e.incarnation.from;
  next = e.next;
  vector_1 = installed_as asks_when_it_knows s i e 1;
  vector_2 = installed_as asks_when_it_knows s i e 2;
  view = members_as asks_when_it_knows s 60 i e;
}

-- of all incarnations, of the present ones, the number of that of node 0, and the note of slot 61
record Asked : Type 0 where
  all : List (List Admitted)
  first : Admitted
  again : Admitted
  number : ℕ
  note : List SlotNote

abbrev asked_in : RunState → Asked
asked_in s = record {
  all = of_nodes admitted_in 2 s;
  first = admitted_in s 0 (present_of s 0);
  again = admitted_in s 1 (present_of s 1);
  number = (present_of s 0).incarnation.number;
  note = take 1 (drop 35 s.trace);
}

abbrev since_slot : ℕ → Admitted
since_slot from = record { from = from; next = 97; vector_1 = Some (set 1); vector_2 = Some (set 3); view = set 1 }

-- its JOIN of cycle 1, which node 0 takes
abbrev its_join : FrameParts
its_join = record { class = class.Join; number = 1; node = 1; inc = 1; payload = [] }

abbrev its_note : SlotNote
its_note = record { slot = 61; frame = Some its_join; senders = set 2; takers = set 1; verdict = Clean; stops = set 0 }

abbrev asked : Asked
asked = record {
  all = (since_slot 0 ∷ []) ∷ (since_slot 23 ∷ record { from = 0; next = 2; vector_1 = None; vector_2 = None; view = set 1 } ∷ []) ∷ [];
  first = since_slot 0;
  again = since_slot 23;
  number = 0;
  note = its_note ∷ [];
}

comes_into_the_next_vector : seen_of asked_in asks_when_it_knows ≡ within asked
unfolding row joining asks_when_it_knows
comes_into_the_next_vector = refl

-- ---- what the laws say of it

abbrev its_run : RunState
its_run = run_of asks_when_it_knows

seen_in_it : asked_in its_run ≡ asked
seen_in_it = asked_of asked_in asks_when_it_knows (within asked) comes_into_the_next_vector

all_in_it : of_nodes admitted_in 2 its_run ≡ asked.all
all_in_it = ap (λ (seen : Asked). seen.all) seen_in_it

its_join_is_carried : JoinIsCarried asks_when_it_knows its_run 1 2 61
unfolding joining asks_when_it_knows
its_join_is_carried = record {
  note = its_note;
  stands = note_in its_run.trace 35 its_note (ap (λ (seen : Asked). seen.note) seen_in_it);
  here = refl;
  what = its_join;
  frame = refl;
  join = refl;
  asker = refl;
  clean = refl;
  after = lit< tt;
  by_start = lit≤ tt;
}

it_is_outside_at_each : IsOutsideAtEach asks_when_it_knows its_run 1 2 61
unfolding joining asks_when_it_knows has
it_is_outside_at_each i e is from read =
    of_each (λ j (found : Admitted). has found.view 1 ≡ false) admitted_in asks_when_it_knows its_run asked.all all_in_it
    ((refl, tt), ((refl, (refl, tt)), tt)) i e is

-- Node 0 knows that it is outside since it is of the opening, and the new incarnation of node 1
-- since cycle 1 has ended with a vector without it.
node_0_knows_it : KnowsItOutside asks_when_it_knows its_run 1 61 0 (present_of its_run 0)
unfolding joining asks_when_it_knows has
node_0_knows_it = record {
  is = is_present asks_when_it_knows its_run 0 (lit< tt);
  view = inl (ap (λ (seen : Asked). seen.number) seen_in_it);
  read = omega (arith, ap (λ (seen : Asked). seen.first.next) seen_in_it);
  outside = ap (λ (seen : Asked). has seen.first.view 1) seen_in_it;
}

it_knows_it_itself : KnowsItOutside asks_when_it_knows its_run 1 61 1 (present_of its_run 1)
unfolding joining asks_when_it_knows has
it_knows_it_itself = record {
  is = is_present asks_when_it_knows its_run 1 (lit< tt);
  view = inr (1, set 1, lit< tt, ap (λ (seen : Asked). seen.again.vector_1) seen_in_it);
  read = omega (arith, ap (λ (seen : Asked). seen.again.next) seen_in_it);
  outside = ap (λ (seen : Asked). has seen.again.view 1) seen_in_it;
}

-- so it is in each vector of cycle 2
abbrev HasNode1 : ℕ → Admitted → Type 0
HasNode1 i found = (v : Nodes) → found.vector_2 ≡ Some v → has v 1 ≡ true

each_has_node_1 : (i : ℕ) (e : EndedIncarnation) → IsIncarnation asks_when_it_knows its_run i e
    → (v : Nodes) → installed_as asks_when_it_knows its_run i e 2 ≡ Some v → has v 1 ≡ true
unfolding joining asks_when_it_knows has
each_has_node_1 =
    let both = of_vector (λ v. has v 1 ≡ true) (Some (set 3)) (set 3) refl refl in
    of_each HasNode1 admitted_in asks_when_it_knows its_run asked.all all_in_it
    ((both, tt), ((both, (of_no_vector (λ v. has v 1 ≡ true), tt)), tt))

it_is_admitted_by_each : IsAdmittedByEach asks_when_it_knows its_run 1 2
it_is_admitted_by_each = record {
  since = λ i e is from v installs. inl (each_has_node_1 i e is v installs);
  each = λ i e is v installs. inl (each_has_node_1 i e is v installs);
}
