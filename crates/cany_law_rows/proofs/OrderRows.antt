-- Worked rows of one order for all logs: of an incarnation what it has delivered, and the order.
use Rattle.std.specs.Prelude.{◌≡◌, ℕ, ◌++◌, List, [], ◌∷◌, codes, length, refl}
use Rattle.std.proofs.Common.{ap, arith, length-append, ◌∙◌}
use Rattle.cany_base.specs.declared.message.Service.TheVariants.{Tot}
use Rattle.cany_base.specs.declared.rule.Verdict.TheVariants.{Clean, Lost}
use Rattle.cany_base.specs.declared.step.Step.{Step}
use Rattle.cany_base.specs.Scenario.{ScenarioParts}
use Rattle.cany_model.specs.Bus.State.{EndedIncarnation, RunState}
use Rattle.cany_model.specs.Promises.Order.{Content, order, order_by}
use Rattle.cany_model.specs.Runs.Run.{run}
use Rattle.cany_laws.specs.Logs.{present_of}
use Rattle.cany_laws.specs.Order.{EachFollowsOrder, IsPrefixOf, deliveries_as, is_accepted_by_it_or_some, ordered_deliveries}
use Rattle.cany_law_rows.proofs.PremiseWords.{asked_by, of_each}
use Rattle.cany_law_rows.proofs.RowWords.{again, key, of_nodes, repeated, row, seen_by, seen_of, send, slot_rule, steps, three_at_lag_1, two, within}

-- since which slot it takes part, what it has delivered, of this what a running node has accepted,
-- and the two orders from that slot on
record Parts : Type 0 where
  from : ℕ
  delivered : List Content
  ordered : List Content
  order : List Content
  longer : List Content

abbrev parts_of : ScenarioParts → RunState → ℕ → EndedIncarnation → Parts
parts_of sc s i e = record {
  from = e.incarnation.from;
  delivered = deliveries_as sc s i e;
  ordered = ordered_deliveries sc s i e;
  order = order sc s e.incarnation.from;
  longer = order_by (is_accepted_by_it_or_some sc s i e) e.incarnation.from s.trace;
}

-- of one that takes part since a slot and has delivered the whole order from there on
abbrev whole_order : ℕ → List Content → Parts
whole_order from order = record { from = from; delivered = order; ordered = order; order = order; longer = order }

abbrev content : ℕ → ℕ → ℕ → Content
content origin seq byte = record { msg = key origin seq; payload = byte ∷ [] }

-- ---- a node that stopped

-- At a lag of one slot node 2 delivers the message of node 0 in slot 2, its own in slot 4 and that
-- of node 1 in slot 6, and stops in slot 8. The other two deliver those of node 0 and node 1. What
-- node 2 has delivered is no prefix of the order, also not without its last message: between two
-- messages of the order it has one that it alone has accepted. Without that one it is.
unfoldable at_lag_1 : ScenarioParts
at_lag_1 = three_at_lag_1 90 (send Tot 0 0 (3 ∷ []) ∷ send Tot 3 2 (1 ∷ []) ∷ send Tot 4 1 (2 ∷ []) ∷ []) (slot_rule 8 Lost 4 ∷ [])

unfoldable its_journal : List Step
its_journal = steps (codes ".012.012.012.012.01.0122.012.012" ++ repeated 82 (codes ".01"))

abbrev of_the_others : Parts
of_the_others = whole_order 0 (content 0 0 3 ∷ content 1 0 2 ∷ [])

abbrev of_the_stopped : Parts
of_the_stopped = record {
  from = 0;
  delivered = content 0 0 3 ∷ content 2 0 1 ∷ content 1 0 2 ∷ [];
  ordered = content 0 0 3 ∷ content 1 0 2 ∷ [];
  order = content 0 0 3 ∷ content 1 0 2 ∷ [];
  longer = content 0 0 3 ∷ content 2 0 1 ∷ content 1 0 2 ∷ [];
}

-- of all incarnations, and of that of node 2
record Followed : Type 0 where
  all : List (List Parts)
  stopped : Parts

abbrev followed_in : RunState → Followed
followed_in s = record { all = of_nodes (parts_of at_lag_1) 3 s; stopped = parts_of at_lag_1 s 2 (present_of s 2) }

abbrev followed : Followed
followed = record { all = (of_the_others ∷ []) ∷ (of_the_others ∷ []) ∷ (of_the_stopped ∷ []) ∷ []; stopped = of_the_stopped }

a_prefix_without_the_lone_one : seen_by followed_in at_lag_1 its_journal ≡ within followed
unfolding row at_lag_1 its_journal
a_prefix_without_the_lone_one = refl

abbrev its_run : RunState
its_run = run at_lag_1 its_journal

seen_in_it : followed_in its_run ≡ followed
seen_in_it = asked_by followed_in at_lag_1 its_journal (within followed) a_prefix_without_the_lone_one

seen_at_the_stopped : parts_of at_lag_1 its_run 2 (present_of its_run 2) ≡ of_the_stopped
seen_at_the_stopped = ap (λ (seen : Followed). seen.stopped) seen_in_it

-- each log follows the order
abbrev Follows : ℕ → Parts → Type 0
Follows i parts = IsPrefixOf parts.ordered parts.order × IsPrefixOf parts.delivered parts.longer

each_follows_the_order : EachFollowsOrder at_lag_1 its_run
unfolding three_at_lag_1 at_lag_1
each_follows_the_order i e is =
    let found = of_each Follows (parts_of at_lag_1) at_lag_1 its_run followed.all (ap (λ (seen : Followed). seen.all) seen_in_it)
    (((([], refl), ([], refl)), tt), (((([], refl), ([], refl)), tt), (((([], refl), ([], refl)), tt), tt))) i e is in
    record { ordered = found.0; whole = found.1 }

-- with its lone message what it has delivered is none
not_with_the_lone_one :
    IsPrefixOf (deliveries_as at_lag_1 its_run 2 (present_of its_run 2)) (order at_lag_1 its_run (present_of its_run 2).incarnation.from) → ⊥
not_with_the_lone_one says =
    let all : List Content = deliveries_as at_lag_1 its_run 2 (present_of its_run 2) in
    let sizes = ap length says.1 ∙ length-append all says.0 in
    let three = ap (λ (parts : Parts). length parts.delivered) seen_at_the_stopped in
    let two_of_them = ap (λ (parts : Parts). length parts.order) seen_at_the_stopped in
    omega (arith, sizes, three, two_of_them)

-- ---- a node that started again

-- Node 1 stops in slot 5, starts again at the end of slot 6, and takes part since slot 26. Each of
-- its two incarnations has a prefix of the order from the first slot in which it takes part.
unfoldable restarted : ScenarioParts
restarted = two 60 (send Tot 0 0 (1 ∷ []) ∷ send Tot 30 0 (2 ∷ []) ∷ []) (slot_rule 5 Clean 2 ∷ []) (again 6 1 ∷ [])

abbrev all : Parts
all = whole_order 0 (content 0 0 1 ∷ content 0 1 2 ∷ [])

abbrev earlier : Parts
earlier = record {
  from = 0;
  delivered = content 0 0 1 ∷ [];
  ordered = content 0 0 1 ∷ [];
  order = content 0 0 1 ∷ content 0 1 2 ∷ [];
  longer = content 0 0 1 ∷ content 0 1 2 ∷ [];
}

abbrev again_there : Parts
again_there = whole_order 26 (content 0 1 2 ∷ [])

each_since_it_takes_part : seen_of (of_nodes (parts_of restarted) 2) restarted ≡ within ((all ∷ []) ∷ (again_there ∷ earlier ∷ []) ∷ [])
unfolding row restarted
each_since_it_takes_part = refl
