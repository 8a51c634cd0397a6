-- Worked rows of a node that is not heard: when it has failed, and that it is out of the view of
-- the next cycle.
use Rattle.std.specs.Prelude.{Bool, ◌≡◌, ℕ, ◌+◌, ◌-◌, ◌<◌, true, false, List, [], ◌∷◌, Option, Some, None, take, refl}
use Rattle.std.specs.List.{list_all, list_any, range_with_len}
use Rattle.std.proofs.Common.{ap, arith, inl, inr, lit<, lit≤, ◌∙◌, sym}
use Rattle.std.proofs.lemmas.Bool.{false≢true}
use Rattle.cany_base.specs.declared.rule.Verdict.TheVariants.{Clean}
use Rattle.cany_base.specs.Scenario.{ScenarioParts}
use Rattle.cany_model.specs.Rules.Knowledge.{hears_life, knows}
use Rattle.cany_laws.specs.Detection.{FailedAtStart, HasFailedBy, HearsNothingOf, IsDetected, IsLeftOut, WasSilentAtStart}
use Rattle.cany_laws.specs.Logs.{IsIncarnation, past_to, present_of}
use Rattle.cany_base.specs.Nodes.{Nodes, has}
use Rattle.cany_model.specs.Bus.State.{EndedIncarnation, RunState}
use Rattle.cany_laws.specs.Membership.{knowledge_as, members_as}
use Rattle.cany_laws.specs.Views.{installed_as}
use Rattle.cany_law_rows.proofs.PremiseWords.{asked_of, each_of, is_present, of_each, of_no_vector, of_vector, run_of}
use Rattle.cany_law_rows.proofs.RowWords.{of_nodes, row, seen_of, set, slot_rule, two, within}

-- Node 1 stops in slot 5, and never showed life. A cycle starts in slot 38, and the next one in
-- slot 76; it ends in slot 95.
unfoldable never_heard : ScenarioParts
never_heard = two 97 [] (slot_rule 5 Clean 2 ∷ []) []

-- whether node 0 hears life of node 1 in the silence after a slot, and whether it has node 1 in its
-- view after that slot and after each but the last of this silence
record Stretch : Type 0 where
  heard : Bool
  member : Bool

abbrev has_node_1 : RunState → ℕ → Bool
has_node_1 s slot = has (members_as never_heard s slot 0 (present_of s 0)) 1

abbrev silence_after : RunState → ℕ → Stretch
silence_after s t = record {
  heard = list_any (hears_life 1) (take 39 (past_to (t + 39) s 0 (present_of s 0)));
  member = list_all (has_node_1 s) (range_with_len t 39);
}

-- At node 0: the next slot that it would read; the silence after slot 0, and that before slot 76;
-- its views after slots 75 and 76; who counts as failed after its turns of slots 38, 39 and 76; and
-- the vector of cycle 1.
record AtNode0 : Type 0 where
  next : ℕ
  first : Stretch
  last : Stretch
  view_75 : Nodes
  view_76 : Nodes
  failed_38 : Nodes
  failed_39 : Nodes
  failed_76 : Nodes
  vector_1 : Option Nodes

abbrev at_node_0 : RunState → AtNode0
at_node_0 s =
    let e = present_of s 0 in
    record {
      next = e.next;
      first = silence_after s 0;
      last = silence_after s 37;
      view_75 = members_as never_heard s 75 0 e;
      view_76 = members_as never_heard s 76 0 e;
      failed_38 = (knowledge_as never_heard s 38 0 e).failed;
      failed_39 = (knowledge_as never_heard s 39 0 e).failed;
      failed_76 = (knowledge_as never_heard s 76 0 e).failed;
      vector_1 = installed_as never_heard s 0 e 1;
    }

-- whether it knows the sign of node 1 of cycle 1 from the start, and the vectors that the
-- incarnations install in cycle 2
record Unheard : Type 0 where
  there : AtNode0
  known : Bool
  vectors : List (List (Option Nodes))

abbrev vector_2_of : RunState → ℕ → EndedIncarnation → Option Nodes
vector_2_of s i e = installed_as never_heard s i e 2

abbrev unheard_in : RunState → Unheard
unheard_in s = record {
  there = at_node_0 s;
  known = knows (record { node = 1; cycle = 1 }) (knowledge_as never_heard s 0 0 (present_of s 0));
  vectors = of_nodes vector_2_of 2 s;
}

abbrev silent_member : Stretch
silent_member = record { heard = false; member = true }

abbrev unheard : Unheard
unheard = record {
  there = record {
    next = 97;
    first = silent_member;
    last = silent_member;
    view_75 = set 3;
    view_76 = set 3;
    failed_38 = set 0;
    failed_39 = set 2;
    failed_76 = set 2;
    vector_1 = Some (set 3);
  };
  known = false;
  vectors = (Some (set 1) ∷ []) ∷ (None ∷ []) ∷ [];
}

-- it hears none, and counts node 1 as failed in slot 39: node 1 is in the view of the cycle that
-- started before that, and not in that of the next one
out_of_the_next_view : seen_of unheard_in never_heard ≡ within unheard
unfolding row never_heard
out_of_the_next_view = refl

-- ---- what the laws say of it

abbrev its_run : RunState
its_run = run_of never_heard

abbrev node_0 : EndedIncarnation
node_0 = present_of its_run 0

seen_in_it : unheard_in its_run ≡ unheard
seen_in_it = asked_of unheard_in never_heard (within unheard) out_of_the_next_view

at_node_0_in_it : at_node_0 its_run ≡ unheard.there
at_node_0_in_it = ap (λ (seen : Unheard). seen.there) seen_in_it

reads_so_far : node_0.next ≡ 97
reads_so_far = ap (λ (seen : AtNode0). seen.next) at_node_0_in_it

node_0_is : IsIncarnation never_heard its_run 0 node_0
unfolding two never_heard
node_0_is = is_present never_heard its_run 0 (lit< tt)

-- node 0 hears nothing of it in a silence after such a slot
hears_nothing_after : (t : ℕ) → silence_after its_run t ≡ silent_member → t + 39 < 97 → HearsNothingOf never_heard its_run 0 node_0 1 t (t + 39)
unfolding two never_heard
hears_nothing_after t silent sooner =
    let whole : t + 39 - t ≡ 39 = omega arith in
    record {
      is = node_0_is;
      there = lit< tt;
      other = λ same. omega (arith, same);
      later = omega arith;
      read = omega (arith, reads_so_far, sooner);
      member = λ slot from before. each_of (has_node_1 its_run) t 39 (ap (λ (seen : Stretch). seen.member) silent) slot from before;
      nothing = ap (λ n. list_any (hears_life 1) (take n (past_to (t + 39) its_run 0 node_0))) whole ∙ ap (λ (seen : Stretch). seen.heard) silent;
    }

hears_nothing_at_first : HearsNothingOf never_heard its_run 0 node_0 1 0 39
hears_nothing_at_first = hears_nothing_after 0 (ap (λ (seen : AtNode0). seen.first) at_node_0_in_it) (lit< tt)

-- so node 1 has failed after slot 39, whether a cycle started since slot 0 or not
it_is_detected : IsDetected never_heard its_run 0 node_0 1 0 39
unfolding has
it_is_detected =
    let failed : HasFailedBy never_heard its_run 39 0 node_0 1 = ap (λ (seen : AtNode0). has seen.failed_39 1) at_node_0_in_it in
    record { failed = inl failed; after_start = λ started. failed }

-- and not a slot earlier, though its sign was not known before
not_a_slot_earlier : IsDetected never_heard its_run 0 node_0 1 0 38 → ⊥
unfolding has two never_heard
not_a_slot_earlier says = elim says.failed [
  | inl failed ↦ false≢true (sym (ap (λ (seen : AtNode0). has seen.failed_38 1) at_node_0_in_it) ∙ failed)
  | inr known ↦ false≢true (sym (ap (λ (seen : Unheard). seen.known) seen_in_it) ∙ known)
]

-- it was silent when cycle 2 started
is_silent_at_the_start : WasSilentAtStart never_heard its_run 1 2 0 node_0
unfolding two never_heard has
is_silent_at_the_start = record {
  some = lit< tt;
  enough = lit≤ tt;
  heard = hears_nothing_after 37 (ap (λ (seen : AtNode0). seen.last) at_node_0_in_it) (lit< tt);
  own = ap (λ (seen : AtNode0). has seen.view_75 0) at_node_0_in_it;
  read_end = omega (arith, reads_so_far);
}

-- and had failed then
is_failed_at_the_start : FailedAtStart never_heard its_run 1 2 0 node_0
unfolding two never_heard has
is_failed_at_the_start = record {
  is = node_0_is;
  some = lit< tt;
  read = omega (arith, reads_so_far);
  own = ap (λ (seen : AtNode0). has seen.view_76 0) at_node_0_in_it;
  member = ap (λ (seen : AtNode0). has seen.view_76 1) at_node_0_in_it;
  failed = ap (λ (seen : AtNode0). has seen.failed_76 1) at_node_0_in_it;
}

-- so nobody installs a vector with it in cycle 2
it_is_left_out : IsLeftOut never_heard its_run 1 2
unfolding two never_heard has
it_is_left_out =
    of_each (λ i vector. (v : Nodes) → vector ≡ Some v → has v 1 ≡ false) vector_2_of never_heard its_run unheard.vectors
    (ap (λ (seen : Unheard). seen.vectors) seen_in_it)
    ((of_vector (λ v. has v 1 ≡ false) (Some (set 1)) (set 1) refl refl, tt), ((of_no_vector (λ v. has v 1 ≡ false), tt), tt))

-- when cycle 1 started it had not, and node 0 installs a vector with it
not_failed_a_cycle_earlier : FailedAtStart never_heard its_run 1 1 0 node_0 → ⊥
unfolding two never_heard has
not_failed_a_cycle_earlier says = false≢true (sym (ap (λ (seen : AtNode0). has seen.failed_38 1) at_node_0_in_it) ∙ says.failed)

not_left_out_a_cycle_earlier : IsLeftOut never_heard its_run 1 1 → ⊥
unfolding has
not_left_out_a_cycle_earlier says =
    false≢true (sym (says 0 node_0 node_0_is (set 3) (ap (λ (seen : AtNode0). seen.vector_1) at_node_0_in_it)))
