-- The counts of scripted sends, one send after another.
use Rattle.std.proofs.Common.{◌≡◌, ℕ, ◌+◌, ◌<◌, ◌==◌, List, [], ◌∷◌, ◌++◌, count_by, cond, get_or, length, refl, ap, sym, ◌∙◌, arith}
use Rattle.std.proofs.lemmas.Grind.{common_steps}
use Rattle.std.proofs.lemmas.List.{length-set}
use Rattle.std.proofs.lemmas.List.Sums.{count_by-le-length, sum_by_push}
use Rattle.std.specs.Prelude.{slice_set}
use Rattle.cany_base.specs.declared.message.SendAsk.{SendAsk}
use Rattle.cany_base.specs.declared.message.Service.{Service}
use Rattle.cany_base.specs.declared.message.Service.TheVariants.{Ed, Rel, Tot}
use Rattle.cany_base.specs.declared.send_counts.SendCounts.{SendCounts}
use Rattle.cany_base.specs.Frame.{class_number, data_class}
use Rattle.cany_base.specs.Limits.{most_nodes, most_sends}
use Rattle.cany_base.specs.SendCounts.{AreCountsOf, counted_by, is_send_by, is_send_of}

-- one send more by a service
abbrev pub after_one_by : Service → SendCounts → SendCounts
after_one_by Ed counts = record counts { ed = counts.ed + 1 }
after_one_by Rel counts = record counts { rel = counts.rel + 1 }
after_one_by Tot counts = record counts { tot = counts.tot + 1 }

-- one send more of a node
abbrev pub after_one_of : ℕ → List ℕ → List ℕ
after_one_of node counts = slice_set counts node (get_or counts node 0 + 1)

one_more_by : (by service : Service) (counts : SendCounts)
    → counted_by (after_one_by by counts) service ≡ counted_by counts service + cond (class_number (data_class service) == class_number (data_class by)) 1 0
one_more_by Ed Ed counts = refl
one_more_by Ed Rel counts = omega arith
one_more_by Ed Tot counts = omega arith
one_more_by Rel Ed counts = omega arith
one_more_by Rel Rel counts = refl
one_more_by Rel Tot counts = omega arith
one_more_by Tot Ed counts = omega arith
one_more_by Tot Rel counts = omega arith
one_more_by Tot Tot counts = refl

-- the counts by service are kept apart from those by node
by_service : (service : Service) (counts : SendCounts) (of_node : List ℕ) → counted_by (record counts { of_node = of_node }) service ≡ counted_by counts service
by_service Ed counts of_node = refl
by_service Rel counts of_node = refl
by_service Tot counts of_node = refl

same_nodes : (by : Service) (counts : SendCounts) → (after_one_by by counts).of_node ≡ counts.of_node
same_nodes Ed counts = refl
same_nodes Rel counts = refl
same_nodes Tot counts = refl

one_more_of : (node : ℕ) (counts : List ℕ) (i : ℕ) → node < length counts
    → get_or (after_one_of node counts) i 0 ≡ get_or counts i 0 + cond (node == i) 1 0
one_more_of node counts i within = grind (arith, common_steps)

module _ (earlier : List SendAsk) (counts : SendCounts) (counted : AreCountsOf earlier counts) where
  pub by_few : (service : Service) → length earlier < most_sends → counted_by counts service < most_sends
  by_few service few = omega (arith, counted.by service, count_by-le-length (is_send_by service) earlier)

  pub counted_more : (send : SendAsk) (next : SendCounts) (place : ℕ) → next ≡ after_one_by send.service counts → place ≡ send.node → place < most_nodes
      → AreCountsOf (earlier ++ send ∷ []) (record next { of_node = after_one_of place next.of_node })
  counted_more send next place is here small =
      let all : length next.of_node ≡ most_nodes = ap (λ n. length n.of_node) is ∙ ap length (same_nodes send.service counts) ∙ counted.nodes in
      let within : place < length next.of_node = omega arith in
      record {
        nodes = length-set next.of_node place (get_or next.of_node place 0 + 1) ∙ all;
        by = λ service.
            by_service service next (after_one_of place next.of_node)
            ∙ ap (λ n. counted_by n service) is
            ∙ one_more_by send.service service counts
            ∙ ap (λ n. n + cond (is_send_by service send) 1 0) (counted.by service)
            ∙ sym (sum_by_push (λ s. cond (is_send_by service s) 1 0) earlier send);
        of_node = λ node small.
            one_more_of place next.of_node node within
            ∙ ap (λ n. get_or n.of_node node 0 + cond (place == node) 1 0) is
            ∙ ap (λ n. get_or n node 0 + cond (place == node) 1 0) (same_nodes send.service counts)
            ∙ ap (λ n. n + cond (place == node) 1 0) (counted.of_node node small)
            ∙ ap (λ n. count_by (is_send_of node) earlier + cond (n == node) 1 0) here
            ∙ sym (sum_by_push (λ s. cond (is_send_of node s) 1 0) earlier send);
      }

-- no sends
pub none_by : (of_node : List ℕ) (service : Service) → counted_by (record { ed = 0; rel = 0; tot = 0; of_node = of_node }) service ≡ 0
none_by of_node Ed = refl
none_by of_node Rel = refl
none_by of_node Tot = refl
