-- A worked row of one sequence: a node that stopped has delivered a message that nobody else
-- delivers, and after it one that all deliver.
use Rattle.std.specs.Prelude.{◌≡◌, ℕ, ◌==◌, ◌&&◌, ◌++◌, ◌≤◌, Bool, false, List, [], ◌∷◌, codes, count_by, refl}
use Rattle.std.proofs.Common.{ap, arith, inl, inr, subst, sym}
use Rattle.std.proofs.lemmas.Bool.{cases_eq, ne_eqb}
use Rattle.cany_base.specs.declared.message.MsgKey.{MsgKey}
use Rattle.cany_base.specs.declared.message.Service.TheVariants.{Tot}
use Rattle.cany_base.specs.declared.rule.Verdict.TheVariants.{Lost}
use Rattle.cany_base.specs.declared.step.Step.{Step}
use Rattle.cany_base.specs.Scenario.{ScenarioParts}
use Rattle.cany_model.specs.Bus.State.{EndedIncarnation, RunState}
use Rattle.cany_model.specs.Runs.Run.{run}
use Rattle.cany_laws.specs.Logs.{IsIncarnation, log_as}
use Rattle.cany_model.specs.Promises.Order.{Content, tot_deliveries}
use Rattle.cany_laws.specs.Sequence.{HasOneSequence, IsSubsequence, clean_sequence, is_content_of}
use Rattle.cany_model.proofs.Among.{count-cons, count-no, one_at_most}
use Rattle.cany_law_rows.proofs.PremiseWords.{asked_by, of_each}
use Rattle.cany_law_rows.proofs.RowWords.{key, of_nodes, repeated, row, seen_by, send, slot_rule, steps, three_at_lag_1, within}

-- At a lag of one slot node 2 delivers its own message in slot 1 and that of node 1 in slot 3, and
-- stops in slot 5. The other two deliver that of node 1 alone. So what a stopped node has delivered
-- is not the order of the others with one message more at its end: it is part of one sequence.
unfoldable at_lag_1 : ScenarioParts
at_lag_1 = three_at_lag_1 100 (send Tot 0 2 (1 ∷ []) ∷ send Tot 1 1 (2 ∷ []) ∷ []) (slot_rule 5 Lost 4 ∷ [])

unfoldable its_journal : List Step
its_journal = steps (codes ".012.01.0122.012.012" ++ repeated 95 (codes ".01"))

abbrev lone : Content
lone = record { msg = key 2 0; payload = 1 ∷ [] }

abbrev common : Content
common = record { msg = key 1 0; payload = 2 ∷ [] }

-- since which slot each incarnation takes part, what it has delivered, and the sequence
record Delivered : Type 0 where
  since : List (List ℕ)
  logs : List (List (List Content))
  sequence : List Content

abbrev delivered_in : RunState → Delivered
delivered_in s = record {
  since = of_nodes (λ r i e. e.incarnation.from) 3 s;
  logs = of_nodes (λ r i e. tot_deliveries (log_as at_lag_1 r i e)) 3 s;
  sequence = clean_sequence 0 s.trace;
}

abbrev delivered : Delivered
delivered = record {
  since = (0 ∷ []) ∷ (0 ∷ []) ∷ (0 ∷ []) ∷ [];
  logs = ((common ∷ []) ∷ []) ∷ ((common ∷ []) ∷ []) ∷ ((lone ∷ common ∷ []) ∷ []) ∷ [];
  sequence = lone ∷ common ∷ [];
}

one_between : seen_by delivered_in at_lag_1 its_journal ≡ within delivered
unfolding row at_lag_1 its_journal
one_between = refl

abbrev its_run : RunState
its_run = run at_lag_1 its_journal

seen_in_it : delivered_in its_run ≡ delivered
seen_in_it = asked_by delivered_in at_lag_1 its_journal (within delivered) one_between

-- what each has delivered is part of the one sequence
each_log_is_part : (i : ℕ) (e : EndedIncarnation) → IsIncarnation at_lag_1 its_run i e
    → IsSubsequence (tot_deliveries (log_as at_lag_1 its_run i e)) (clean_sequence 0 its_run.trace)
unfolding three_at_lag_1 at_lag_1
each_log_is_part i e is =
    subst (IsSubsequence (tot_deliveries (log_as at_lag_1 its_run i e))) (sym (ap (λ (d : Delivered). d.sequence) seen_in_it))
    (of_each (λ j contents. IsSubsequence contents (lone ∷ common ∷ [])) (λ s j f. tot_deliveries (log_as at_lag_1 s j f)) at_lag_1 its_run delivered.logs
    (ap (λ (d : Delivered). d.logs) seen_in_it)
    ((inr (inl (refl, tt)), tt), ((inr (inl (refl, tt)), tt), ((inl (refl, inl (refl, tt)), tt), tt))) i e is)

takes_part_since_0 : (i : ℕ) (e : EndedIncarnation) → IsIncarnation at_lag_1 its_run i e → e.incarnation.from ≡ 0
unfolding three_at_lag_1 at_lag_1
takes_part_since_0 =
    of_each (λ j from. from ≡ 0) (λ s j f. f.incarnation.from) at_lag_1 its_run delivered.since (ap (λ (d : Delivered). d.since) seen_in_it)
    ((refl, tt), ((refl, tt), ((refl, tt), tt)))

-- no message stands twice in it
once_at_most : (key : MsgKey) → count_by (is_content_of key) (lone ∷ common ∷ []) ≤ 1
once_at_most key =
    let test : Content → Bool = is_content_of key in
    let both = count-cons test lone (common ∷ []) in
    let rest = count-cons test common [] in
    elim (cases_eq 2 key.origin) [
      | inl first ↦
          let other : test common ≡ false = ap (λ b. b && 0 == key.seq) (ne_eqb 1 key.origin (λ same. omega (arith, same, first))) in
          omega (arith, both, count-no test common [] other, one_at_most (test lone))
      | inr other ↦
          let none : test lone ≡ false = ap (λ b. b && 0 == key.seq) (ne_eqb 2 key.origin other) in
          omega (arith, count-no test lone (common ∷ []) none, rest, one_at_most (test common))
    ]

one_sequence : HasOneSequence at_lag_1 its_run
one_sequence = record {
  once = λ key.
      subst (λ sequence. count_by (is_content_of key) sequence ≤ 1) (sym (ap (λ (d : Delivered). d.sequence) seen_in_it)) (once_at_most key);
  part = λ i e is.
      subst (λ from. IsSubsequence (tot_deliveries (log_as at_lag_1 its_run i e)) (clean_sequence from its_run.trace))
      (sym (takes_part_since_0 i e is)) (each_log_is_part i e is);
}

not_one_message : common ≡ lone → ⊥
not_one_message same = let origins = ap (λ (c : Content). c.msg.origin) same in omega (arith, origins)

-- in another order the two are not
order_counts : IsSubsequence (common ∷ lone ∷ []) (lone ∷ common ∷ []) → ⊥
order_counts (inl first) = not_one_message first.0
order_counts (inr (inl second)) = second.1
order_counts (inr (inr none)) = none
