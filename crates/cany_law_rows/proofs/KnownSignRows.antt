-- A worked row of a silence that is not detected in its cycle: the observer knew the sign of this
-- cycle before.
use Rattle.std.specs.Prelude.{Bool, ◌≡◌, ℕ, ◌+◌, ◌<◌, ◌≤◌, true, false, [], ◌∷◌, take, refl}
use Rattle.std.specs.List.{list_all, list_any, range_with_len}
use Rattle.std.proofs.Common.{ap, arith, inr, lit<, lit≤, ◌∙◌, sym}
use Rattle.std.proofs.lemmas.Bool.{false≢true}
use Rattle.cany_base.specs.declared.log_entry.LogEntry.TheVariants.{Failed}
use Rattle.cany_base.specs.declared.rule.Verdict.TheVariants.{Clean}
use Rattle.cany_base.specs.Nodes.{Nodes, has}
use Rattle.cany_base.specs.Scenario.{ScenarioParts}
use Rattle.cany_model.specs.Bus.State.{EndedIncarnation, RunState}
use Rattle.cany_model.specs.Rules.Knowledge.{hears_life, knows}
use Rattle.cany_laws.specs.Detection.{HasFailedBy, HearsNothingOf, IsDetected}
use Rattle.cany_laws.specs.Logs.{past_to, present_of}
use Rattle.cany_laws.specs.Membership.{knowledge_as, members_as}
use Rattle.cany_law_rows.proofs.PremiseWords.{asked_of, each_of, is_present, run_of}
use Rattle.cany_law_rows.proofs.RowWords.{again, lived, lived_in, row, seen_of, set, slot_rule, three_by, within, Lived}

-- So that the row is short, a cycle has 20 slots and ends in its slot 6, and a member has failed
-- after 9 slots without life, which the formulas do not allow; the run is within the hypothesis.
-- Node 2 shows life in slot 12 and stops in slot 13. Node 0 stops in slot 11, starts again, and
-- takes part since slot 19. Node 1 starts cycle 1 in slot 20, finds node 2 to have failed in slot
-- 21, and tells node 0. Both install the vector of the cycle, which still has node 2, in slot 26:
-- node 2 is new in the view of node 0, and counts as alive there from this slot on. Node 0 hears
-- nothing of it in the silence after that, but does not count it as failed in slot 35, since it
-- knows the sign of cycle 1. Cycle 2 would start in slot 40.
unfoldable known_before : ScenarioParts
unfolding three_by
known_before =
    let sc = three_by 9 10 36 [] (slot_rule 11 Clean 1 ∷ slot_rule 13 Clean 4 ∷ []) (again 12 0 ∷ []) in
    record sc { params = record sc.params { bound = 6; cycle = 20; life = 4 } }

abbrev has_node_2 : RunState → ℕ → Bool
has_node_2 s slot = has (members_as known_before s slot 0 (present_of s 0)) 2

-- of the new incarnation of node 0 what it came to, whether it hears life of node 2 in the slots
-- after 26 and up to 35, whether it has node 2 in its view after slot 26 and each but the last of
-- these, whether it knows the sign of cycle 1 after slot 26, and who has failed after slot 35
record Known : Type 0 where
  came : Lived
  heard : Bool
  member : Bool
  known : Bool
  failed : Nodes

abbrev known_in : RunState → Known
known_in s =
    let e = present_of s 0 in
    record {
      came = lived_in known_before s 0 e;
      heard = list_any (hears_life 2) (take 9 (past_to 35 s 0 e));
      member = list_all (has_node_2 s) (range_with_len 26 9);
      known = knows (record { node = 2; cycle = 1 }) (knowledge_as known_before s 26 0 e);
      failed = (knowledge_as known_before s 35 0 e).failed;
    }

abbrev found : Known
found = record {
  came = lived 19 36 (Failed 20 0 0 ∷ Failed 25 2 1 ∷ []);
  heard = false;
  member = true;
  known = true;
  failed = set 1;
}

not_in_the_same_cycle : seen_of known_in known_before ≡ within found
unfolding row known_before
not_in_the_same_cycle = refl

-- ---- what the law says of it

abbrev its_run : RunState
its_run = run_of known_before

abbrev node_0 : EndedIncarnation
node_0 = present_of its_run 0

seen_in_it : known_in its_run ≡ found
seen_in_it = asked_of known_in known_before (within found) not_in_the_same_cycle

hears_nothing_of_it : HearsNothingOf known_before its_run 0 node_0 2 26 35
unfolding three_by known_before
hears_nothing_of_it = record {
  is = is_present known_before its_run 0 (lit< tt);
  there = lit< tt;
  other = λ same. omega (arith, same);
  later = lit< tt;
  read = omega (arith, ap (λ (seen : Known). seen.came.next) seen_in_it);
  member = λ slot from before. each_of (has_node_2 its_run) 26 9 (ap (λ (seen : Known). seen.member) seen_in_it) slot from before;
  nothing = ap (λ (seen : Known). seen.heard) seen_in_it;
}

for_a_whole_silence : 26 + known_before.params.silence ≤ 35
unfolding three_by known_before
for_a_whole_silence = lit≤ tt

has_not_failed : HasFailedBy known_before its_run 35 0 node_0 2 → ⊥
unfolding has
has_not_failed says = false≢true (sym (ap (λ (seen : Known). has seen.failed 2) seen_in_it) ∙ says)

-- the law leaves this open, since the sign was known, and no cycle started since
left_open : IsDetected known_before its_run 0 node_0 2 26 35
unfolding three_by known_before
left_open = record {
  failed = inr (ap (λ (seen : Known). seen.known) seen_in_it);
  after_start = λ started. let late : 26 < 20 = started in absurd (omega (arith, late));
}
