-- Worked rows of nodes that start again: their views, and what they know.
use Rattle.std.specs.Prelude.{◌≡◌, ℕ, ◌+◌, ◌-◌, List, [], ◌∷◌, Some, None, refl}
use Rattle.std.proofs.Common.{ap, arith, lit≤, ◌∙◌, subst, sym}
use Rattle.std.proofs.lemmas.Bool.{false≢true}
use Rattle.cany_base.specs.declared.log_entry.LogEntry.TheVariants.{Failed, View}
use Rattle.cany_base.specs.declared.message.Service.TheVariants.{Rel}
use Rattle.cany_base.specs.declared.rule.Verdict.TheVariants.{Clean, Lost}
use Rattle.cany_base.specs.Nodes.{Nodes, has}
use Rattle.cany_base.specs.Scenario.{ScenarioParts}
use Rattle.cany_model.specs.Bus.State.{EndedIncarnation, RunState}
use Rattle.cany_laws.specs.Logs.{present_of}
use Rattle.cany_laws.specs.Membership.{HaveEqualMembers, members_as}
use Rattle.cany_laws.specs.Views.{installed_as}
use Rattle.cany_law_rows.proofs.PremiseWords.{asked_of, below_three, run_of}
use Rattle.cany_law_rows.proofs.RowWords.{again, delivers, lived, lived_in, lives_of, of_nodes, row, seen_of, send, set, slot_rule, three, three_by, two, within, Lived}

-- Node 1 stops in slot 5 and starts again at the end of slot 6. It takes part since slot 26, so in
-- cycle 1, which starts in slot 38 and ends in slot 57.
unfoldable back_in_time : ScenarioParts
back_in_time = two 60 [] (slot_rule 5 Clean 2 ∷ []) (again 6 1 ∷ [])

-- of an incarnation what it came to, and its views after slots 56 to 59
record WithViews : Type 0 where
  came : Lived
  view_56 : Nodes
  view_57 : Nodes
  view_58 : Nodes
  view_59 : Nodes

abbrev viewed_in : RunState → ℕ → EndedIncarnation → WithViews
viewed_in s i e = record {
  came = lived_in back_in_time s i e;
  view_56 = members_as back_in_time s 56 i e;
  view_57 = members_as back_in_time s 57 i e;
  view_58 = members_as back_in_time s 58 i e;
  view_59 = members_as back_in_time s 59 i e;
}

-- of all incarnations, and of the present ones
record Viewed : Type 0 where
  all : List (List WithViews)
  first : WithViews
  again : WithViews

abbrev both_viewed_in : RunState → Viewed
both_viewed_in s = record { all = of_nodes viewed_in 2 s; first = viewed_in s 0 (present_of s 0); again = viewed_in s 1 (present_of s 1) }

abbrev of_node_0 : WithViews
of_node_0 = record { came = lived 0 60 (Failed 39 1 1 ∷ View 57 1 (set 3) ∷ []); view_56 = set 3; view_57 = set 3; view_58 = set 3; view_59 = set 3 }

abbrev of_node_1 : WithViews
of_node_1 = record { came = lived 26 60 (Failed 41 1 1 ∷ View 57 1 (set 3) ∷ []); view_56 = set 0; view_57 = set 3; view_58 = set 3; view_59 = set 3 }

abbrev of_earlier : WithViews
of_earlier = record { came = lived 0 5 []; view_56 = set 3; view_57 = set 3; view_58 = set 3; view_59 = set 3 }

abbrev viewed : Viewed
viewed = record { all = (of_node_0 ∷ []) ∷ (of_node_1 ∷ of_earlier ∷ []) ∷ []; first = of_node_0; again = of_node_1 }

-- It stands in the view of node 0 all the time without having asked to join, and counts as failed
-- there since slot 39 although it runs. The two have one view from the end of that cycle on, and
-- not before: the law on membership asks for a vector that was installed.
back_without_asking : seen_of both_viewed_in back_in_time ≡ within viewed
unfolding row back_in_time
back_without_asking = refl

abbrev viewed_run : RunState
viewed_run = run_of back_in_time

seen_of_both : both_viewed_in viewed_run ≡ viewed
seen_of_both = asked_of both_viewed_in back_in_time (within viewed) back_without_asking

-- of the view of node 0 and that of node 1, both as they were computed
same_views : (t : ℕ) (view : Nodes) → members_as back_in_time viewed_run t 0 (present_of viewed_run 0) ≡ view
    → members_as back_in_time viewed_run t 1 (present_of viewed_run 1) ≡ view
    → members_as back_in_time viewed_run t 0 (present_of viewed_run 0) ≡ members_as back_in_time viewed_run t 1 (present_of viewed_run 1)
same_views t view here there = here ∙ sym there

equal_from_the_end_on : HaveEqualMembers back_in_time viewed_run 57 0 (present_of viewed_run 0) 1 (present_of viewed_run 1)
equal_from_the_end_on t late read also =
    let next = ap (λ (seen : Viewed). seen.first.came.next) seen_of_both in
    let place : 57 + (t - 57) ≡ t = omega (arith, late) in
    subst (λ u. members_as back_in_time viewed_run u 0 (present_of viewed_run 0) ≡ members_as back_in_time viewed_run u 1 (present_of viewed_run 1)) place
    (below_three
    (λ d. members_as back_in_time viewed_run (57 + d) 0 (present_of viewed_run 0) ≡ members_as back_in_time viewed_run (57 + d) 1 (present_of viewed_run 1))
    (same_views 57 (set 3) (ap (λ (seen : Viewed). seen.first.view_57) seen_of_both) (ap (λ (seen : Viewed). seen.again.view_57) seen_of_both))
    (same_views 58 (set 3) (ap (λ (seen : Viewed). seen.first.view_58) seen_of_both) (ap (λ (seen : Viewed). seen.again.view_58) seen_of_both))
    (same_views 59 (set 3) (ap (λ (seen : Viewed). seen.first.view_59) seen_of_both) (ap (λ (seen : Viewed). seen.again.view_59) seen_of_both))
    (t - 57) (omega (arith, late, read, next)))

and_not_a_slot_earlier : HaveEqualMembers back_in_time viewed_run 56 0 (present_of viewed_run 0) 1 (present_of viewed_run 1) → ⊥
unfolding has
and_not_a_slot_earlier says =
    let same = says 56 (lit≤ tt) (omega (arith, ap (λ (seen : Viewed). seen.first.came.next) seen_of_both))
    (omega (arith, ap (λ (seen : Viewed). seen.again.came.next) seen_of_both)) in
    false≢true (sym (ap (λ (seen : Viewed). has seen.again.view_56 0) seen_of_both) ∙ sym (ap (λ (v : Nodes). has v 0) same)
    ∙ ap (λ (seen : Viewed). has seen.first.view_56 0) seen_of_both)

-- ---- a stopped node that stays

-- Node 1 starts again while the others run, and installs the vector of cycle 1 in slot 108: before
-- that it has no node in its view. Node 2 stops in slot 40, and is in the vector of cycle 2, which
-- starts in slot 144, so more than the silence of 73 slots later: the laws ask for an incarnation
-- that had it in its view a silence or more before the cycle starts, and reads the cycle to its
-- end.
unfoldable stays_after_its_stop : ScenarioParts
stays_after_its_stop = three 182 [] (slot_rule 3 Clean 2 ∷ slot_rule 40 Clean 4 ∷ slot_rule 74 Clean 1 ∷ []) (again 4 1 ∷ [])

stopped_and_in_a_later_view :
    seen_of (of_nodes (λ s i e. installed_as stays_after_its_stop s i e 2) 3) stays_after_its_stop
    ≡ within ((None ∷ []) ∷ (Some (set 7) ∷ None ∷ []) ∷ (None ∷ []) ∷ [])
unfolding row stays_after_its_stop
stopped_and_in_a_later_view = refl

-- ---- a message that two incarnations deliver

-- Node 1 delivers a RELCAN message in slot 1, stops, starts again, and takes part since slot 40.
-- Its origin stopped too, so node 2 sends the message again once its timer has run, and node 1
-- delivers it again: that a message is delivered once is said of one incarnation.
unfoldable sent_again : ScenarioParts
sent_again = three_by 73 50 53 (send Rel 0 0 [] ∷ []) (slot_rule 2 Lost 3 ∷ []) (again 3 1 ∷ [])

delivered_by_two_incarnations :
    lives_of sent_again
    ≡ within ((lived 0 2 (delivers 1 Rel 0 0 [] ∷ []) ∷ []) ∷ (lived 40 53 (delivers 52 Rel 0 0 [] ∷ []) ∷ lived 0 2 (delivers 1 Rel 0 0 [] ∷ []) ∷ [])
    ∷ (lived 0 53 (delivers 1 Rel 0 0 [] ∷ []) ∷ []) ∷ [])
unfolding row sent_again
delivered_by_two_incarnations = refl

-- ---- no member is left

-- Both nodes stop and start again, and take part since slot 26. Each asks to join, and each ask is
-- carried, but neither stands in its own view: nobody starts a vector in the two cycles that
-- follow, and there is no view any more.
unfoldable no_member_is_left : ScenarioParts
unfolding two
no_member_is_left =
    let sc = two 97 [] (slot_rule 5 Clean 3 ∷ []) (again 6 0 ∷ again 6 1 ∷ []) in
    record sc { joins = again 30 0 ∷ again 31 1 ∷ [] }

without_a_view : lives_of no_member_is_left ≡ within ((lived 26 97 [] ∷ lived 0 5 [] ∷ []) ∷ (lived 26 97 [] ∷ lived 0 5 [] ∷ []) ∷ [])
unfolding row no_member_is_left
without_a_view = refl
