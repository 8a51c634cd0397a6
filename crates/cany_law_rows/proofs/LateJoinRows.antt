-- Worked rows of JOINs that do not help: one that comes too early, one of an incarnation that
-- begins too late, and one that a node without the vector does not count.
use Rattle.std.specs.Prelude.{◌≡◌, ℕ, ◌+◌, ◌*◌, ◌<◌, false, List, [], ◌∷◌, Option, Some, None, refl}
use Rattle.std.proofs.Common.{ap, arith, inl, inr, lit<, lit≤, ◌∙◌, sym}
use Rattle.std.proofs.lemmas.Bool.{false≢true}
use Rattle.std.proofs.lemmas.Option.{none-some}
use Rattle.cany_base.specs.declared.log_entry.LogEntry.TheVariants.{Failed, View}
use Rattle.cany_base.specs.declared.rule.Verdict.TheVariants.{Clean, Silent}
use Rattle.cany_base.specs.Nodes.{Nodes, has}
use Rattle.cany_base.specs.Scenario.{ScenarioParts}
use Rattle.cany_model.specs.declared.breaks.BreakKind.TheVariants as kind
use Rattle.cany_model.specs.Bus.State.{EndedIncarnation, RunState}
use Rattle.cany_laws.specs.Admission.{InstalledItBefore, IsAdmittedByEach, IsOutsideAtEach, KnowsItOutside}
use Rattle.cany_laws.specs.Logs.{present_of}
use Rattle.cany_laws.specs.Membership.{HasOneMembership, members_as}
use Rattle.cany_laws.specs.Views.{EachInstallsOneVector, HasReadEndAs, installed_as}
use Rattle.cany_law_rows.proofs.PremiseWords.{asked_of, is_present, of_vector, run_of}
use Rattle.cany_law_rows.proofs.RowWords.{again, joining, lived, lived_in, lives_of, of_nodes, row, seen_of, set, slot_rule, two, within, Lived, Seen}

-- Node 1, a member, stops in slot 5, starts again and takes part since slot 26. It counts as failed
-- at node 0, so cycle 1 starts without it in slot 42. Its JOIN is carried in slot 48: node 0 still
-- has it in its view, so the JOIN has no effect, and node 1 is in no vector of cycle 1 or of
-- cycle 2. Once cycle 1 has ended it knows that it is outside.
unfoldable asks_too_early : ScenarioParts
asks_too_early = joining 104 42 (set 3) (again 47 1 ∷ []) (slot_rule 5 Clean 2 ∷ []) (again 6 1 ∷ [])

-- Of all incarnations what they came to; of that of node 0 the next slot that it would read, its
-- view after slot 47, the vectors of cycles 1 and 2, and since when it takes part; and of the
-- present one of node 1 its number and the vector of cycle 0
record TooEarly : Type 0 where
  came : List (List Lived)
  next : ℕ
  view : Nodes
  vector_1 : Option Nodes
  vector_2 : Option Nodes
  from : ℕ
  number : ℕ
  vector_0 : Option Nodes

abbrev too_early_in : RunState → TooEarly
too_early_in s = record {
  came = of_nodes (lived_in asks_too_early) 2 s;
  next = (present_of s 0).next;
  view = members_as asks_too_early s 47 0 (present_of s 0);
  vector_1 = installed_as asks_too_early s 0 (present_of s 0) 1;
  vector_2 = installed_as asks_too_early s 0 (present_of s 0) 2;
  from = (present_of s 0).incarnation.from;
  number = (present_of s 1).incarnation.number;
  vector_0 = installed_as asks_too_early s 1 (present_of s 1) 0;
}

abbrev too_early : TooEarly
too_early = record {
  came = (lived 0 104 (Failed 39 1 0 ∷ View 61 1 (set 1) ∷ View 103 2 (set 1) ∷ []) ∷ []) ∷ (lived 26 104 (Failed 41 1 0 ∷ []) ∷ lived 0 5 [] ∷ []) ∷ [];
  next = 104;
  view = set 3;
  vector_1 = Some (set 1);
  vector_2 = Some (set 1);
  from = 0;
  number = 1;
  vector_0 = None;
}

without_effect : seen_of too_early_in asks_too_early ≡ within too_early
unfolding row joining asks_too_early
without_effect = refl

abbrev early_run : RunState
early_run = run_of asks_too_early

seen_too_early : too_early_in early_run ≡ too_early
seen_too_early = asked_of too_early_in asks_too_early (within too_early) without_effect

-- Node 0 still has it in its view when the JOIN is carried, and the node itself has no view yet.
is_not_outside_at_node_0 : IsOutsideAtEach asks_too_early early_run 1 2 48 → ⊥
unfolding joining asks_too_early has
is_not_outside_at_node_0 says =
    false≢true (sym (says 0 (present_of early_run 0) (is_present asks_too_early early_run 0 (lit< tt))
    (omega (arith, ap (λ (seen : TooEarly). seen.from) seen_too_early)) (omega (arith, ap (λ (seen : TooEarly). seen.next) seen_too_early)))
    ∙ ap (λ (seen : TooEarly). has seen.view 1) seen_too_early)

knows_nothing_itself : KnowsItOutside asks_too_early early_run 1 48 1 (present_of early_run 1) → ⊥
unfolding joining asks_too_early
knows_nothing_itself says = elim says.view [
  | inl first ↦ let again = ap (λ (seen : TooEarly). seen.number) seen_too_early in omega (arith, first, again)
  | inr has_one ↦
      let ended : has_one.0 * 42 + 19 < 48 = has_one.2 in
      let cycle : has_one.0 ≡ 0 = omega (arith, ended) in
      none-some has_one.1 (sym (ap (λ (seen : TooEarly). seen.vector_0) seen_too_early)
      ∙ sym (ap (λ d. installed_as asks_too_early early_run 1 (present_of early_run 1) d) cycle) ∙ has_one.3)
]

-- and the vectors of cycles 1 and 2 are without it
is_not_admitted : IsAdmittedByEach asks_too_early early_run 1 2 → ⊥
unfolding joining asks_too_early has
is_not_admitted says =
    let vector = ap (λ (seen : TooEarly). seen.vector_2) seen_too_early in
    let before = ap (λ (seen : TooEarly). seen.vector_1) seen_too_early in
    elim (says.since 0 (present_of early_run 0) (is_present asks_too_early early_run 0 (lit< tt)) (omega (arith, ap (λ (seen : TooEarly). seen.from) seen_too_early)) (set 1) vector) [
      | inl there ↦ false≢true there
      | inr former ↦
          false≢true
          (sym (of_vector (λ v. has v 1 ≡ false) (installed_as asks_too_early early_run 0 (present_of early_run 0) 1) (set 1) before refl
          former.1.0 former.1.1)
          ∙ former.1.2)
    ]

-- Node 1 is no member, asks to join in slot 5, and stops in slot 45. Its next incarnation takes
-- part since slot 66, and so not since cycle 1 starts in slot 60. The vector of cycle 1 has the
-- node by its first JOIN, and is installed in slot 79. The JOIN of the new incarnation, which is
-- carried in slot 71, has no effect then: this incarnation is no member by itself, shows no life,
-- counts as failed in slot 118, and is out of the vector of cycle 2.
unfoldable asks_again : ScenarioParts
asks_again = joining 140 60 (set 1) (again 5 1 ∷ again 70 1 ∷ []) (slot_rule 45 Clean 2 ∷ []) (again 46 1 ∷ [])

admitted_and_no_member_by_itself :
    lives_of asks_again
    ≡ within ((lived 0 140 (View 79 1 (set 3) ∷ Failed 118 1 1 ∷ View 139 2 (set 1) ∷ []) ∷ []) ∷ (lived 66 140 (Failed 119 1 1 ∷ []) ∷ lived 0 45 [] ∷ []) ∷ [])
unfolding row joining asks_again
admitted_and_no_member_by_itself = refl

-- ---- a vector that one node does not hear

-- So that the row is short, a cycle has 14 slots and ends 5 slots after its start, and a member has
-- failed after 9 slots without life, which the formulas do not allow. Node 1 is no member and asks
-- to join. The vector that has it reaches node 0 alone, since a Silent slot hides it from node 1,
-- which the hypothesis does not allow either. So node 1 shows no life, and is out of the vector of
-- the next cycle, which both install. Node 0 had node 1 in the one before, and node 1 had no vector
-- there.
unfoldable hidden : ScenarioParts
unfolding two
hidden =
    let sc = two 34 [] (slot_rule 15 (Silent (set 2)) 0 ∷ []) [] in
    record sc { params = record sc.params { bound = 5; cycle = 14; life = 6; silence = 9 }; members = set 1; joins = again 2 1 ∷ [] }

-- of an incarnation since which slot it takes part, the next slot that it would read, its view
-- after slot 19, and the vectors of cycles 1 and 2
record Vectors : Type 0 where
  from : ℕ
  next : ℕ
  view : Nodes
  vector_1 : Option Nodes
  vector_2 : Option Nodes

abbrev vectors_in : RunState → ℕ → EndedIncarnation → Vectors
vectors_in s i e = record { from = e.incarnation.from; next = e.next; view = members_as hidden s 19 i e; vector_1 = installed_as hidden s i e 1; vector_2 = installed_as hidden s i e 2 }

-- of the present ones
record Hidden : Type 0 where
  first : Vectors
  second : Vectors

abbrev hidden_in : RunState → Hidden
hidden_in s = record { first = vectors_in s 0 (present_of s 0); second = vectors_in s 1 (present_of s 1) }

abbrev found_hidden : Seen Hidden
found_hidden = record {
  broken = Some (record { kind = kind.Silent; slot = 15 });
  seen = record {
    first = record { from = 0; next = 34; view = set 3; vector_1 = Some (set 3); vector_2 = Some (set 1) };
    second = record { from = 0; next = 34; view = set 1; vector_1 = None; vector_2 = Some (set 1) };
  };
}

vectors_apart : seen_of hidden_in hidden ≡ found_hidden
unfolding row hidden
vectors_apart = refl

abbrev hidden_run : RunState
hidden_run = run_of hidden

seen_apart : hidden_in hidden_run ≡ found_hidden.seen
seen_apart = asked_of hidden_in hidden found_hidden vectors_apart

-- some incarnation had node 1 in the vector of the cycle before
node_0_had_it : InstalledItBefore hidden hidden_run 1 2 0 (present_of hidden_run 0)
unfolding has
node_0_had_it = (lit< tt, (set 3, ap (λ (seen : Hidden). seen.first.vector_1) seen_apart, refl))

-- which is not enough for node 1, which takes part since before
needs_its_own : IsAdmittedByEach hidden hidden_run 1 2 → ⊥
unfolding two hidden has
needs_its_own says =
    let vector = ap (λ (seen : Hidden). seen.second.vector_2) seen_apart in
    let before = ap (λ (seen : Hidden). seen.second.vector_1) seen_apart in
    elim (says.since 1 (present_of hidden_run 1) (is_present hidden hidden_run 1 (lit< tt))
    (omega (arith, ap (λ (seen : Hidden). seen.second.from) seen_apart)) (set 1) vector) [
      | inl there ↦ false≢true there
      | inr former ↦ none-some former.1.0 (sym before ∙ former.1.1)
    ]

-- Both have read the end of cycle 1, and only one has a vector there; nor have they one view then.
both_have_read_the_end : HasReadEndAs hidden hidden_run 1 0 (present_of hidden_run 0) × HasReadEndAs hidden hidden_run 1 1 (present_of hidden_run 1)
unfolding two hidden
both_have_read_the_end = (
  record {
    is = is_present hidden hidden_run 0 (lit< tt);
    took_part = omega (arith, ap (λ (seen : Hidden). seen.first.from) seen_apart);
    read = omega (arith, ap (λ (seen : Hidden). seen.first.next) seen_apart);
  },
  record {
    is = is_present hidden hidden_run 1 (lit< tt);
    took_part = omega (arith, ap (λ (seen : Hidden). seen.second.from) seen_apart);
    read = omega (arith, ap (λ (seen : Hidden). seen.second.next) seen_apart);
  },
)

not_one_vector : EachInstallsOneVector hidden hidden_run 1 → ⊥
not_one_vector says =
    none-some (set 3)
    (sym (ap (λ (seen : Hidden). seen.second.vector_1) seen_apart)
    ∙ says.alike 1 0 (present_of hidden_run 1) (present_of hidden_run 0) both_have_read_the_end.1 both_have_read_the_end.0
    ∙ ap (λ (seen : Hidden). seen.first.vector_1) seen_apart)

not_one_membership : HasOneMembership hidden hidden_run → ⊥
unfolding two hidden has
not_one_membership says =
    let first = both_have_read_the_end.0 in
    let second = both_have_read_the_end.1 in
    let same = says.installed 0 1 (present_of hidden_run 0) (present_of hidden_run 1) first.is second.is 1 first.took_part second.took_part (set 3)
    (ap (λ (seen : Hidden). seen.first.vector_1) seen_apart) 19 (lit≤ tt) first.read second.read in
    false≢true
    (sym (ap (λ (seen : Hidden). has seen.second.view 1) seen_apart) ∙ sym (ap (λ (v : Nodes). has v 1) same)
    ∙ ap (λ (seen : Hidden). has seen.first.view 1) seen_apart)
