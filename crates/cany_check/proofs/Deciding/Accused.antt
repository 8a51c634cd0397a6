-- Nobody is accused in the account of a run exactly where no log of a correct node has a failure
-- entry of one that ran all the time; and in a run within the fault hypothesis of a scenario
-- without restart entries none has one of a node that runs.
use Rattle.std.proofs.Common.{◌≡◌, ℕ, ◌↔◌, true, false, List, [], ◌∷◌, ◌++◌, map, refl, ap, sym, subst, ◌∙◌, inl, inr}
use Rattle.std.specs.Prelude.{min, max, filter, option_map, Some, None}
use Rattle.std.specs.List.{AllByRecursion, flat_map, fold, list_any}
use Rattle.std.proofs.lemmas.Bool.{cases_Bool, eq-eqb, eqb-true, false≢true, le-leb, leb-true}
use Rattle.cany_base.specs.declared.log_entry.LogEntry.{LogEntry}
use Rattle.cany_base.specs.declared.log_entry.LogEntry.TheVariants.{Deliver, Failed, View}
use Rattle.cany_base.specs.declared.step.Step.{Step}
use Rattle.cany_base.specs.Scenario.{IsLegalScenario, ScenarioParts}
use Rattle.cany_base.proofs.ParamsFacts.{few_nodes}
use Rattle.cany_model.specs.Bus.History.{history}
use Rattle.cany_model.specs.Bus.State.{RunState, node_at}
use Rattle.cany_model.specs.Promises.Hypothesis.{IsWithin}
use Rattle.cany_model.specs.Promises.Settled.{IsCorrect, IsCorrectFrom}
use Rattle.cany_model.specs.Rules.Knowledge.{FailureSign, knows}
use Rattle.cany_model.specs.Rules.KnowledgeOf.{knowledge_of}
use Rattle.cany_model.specs.Rules.Log.{log}
use Rattle.cany_model.specs.Rules.Turn.{scenario_at}
use Rattle.cany_model.specs.Runs.Run.{run}
use Rattle.cany_model.proofs.Among.{Among, Among-flat_map, Among-from_Contains, Among-map, Among-weaker, Contains-from_Among, Each-of, any-from_Among}
use Rattle.cany_model.proofs.Promises.SignAgrees.{signed_known}
use Rattle.cany_model.proofs.Timed.Detector.Accuracy.{NoSign, no_sign, timely_front}
use Rattle.cany_model.proofs.Timed.Detector.DetectorLaws.{one_vector_fronts, quiet_fronts}
use Rattle.cany_model.proofs.Timed.Detector.NoRestarts.{all_original, follows, history_all}
use Rattle.cany_check.specs.declared.account.record.FirstAndLast.{FirstAndLast}
use Rattle.cany_check.specs.Accounts.Account.{AccountParts, LogParts, account_of}
use Rattle.cany_check.specs.Deciding.Accuracy.{accusation_of, accusations, accusers, is_failure_of}
use Rattle.cany_check.specs.Deciding.Fates.{least_and_greatest, slots_where, with_slot}
use Rattle.cany_check.specs.Promise.{StandsInNone}
use Rattle.cany_check.specs.Accounts.Words.{correct, entry_slot, nodes_of, takes_part}
use Rattle.cany_check.proofs.Deciding.CorrectLogs.{IsLogOfCorrect, among_filter, each_correct, each_filter, has_correct, log_at, unread_fits}
use Rattle.cany_check.proofs.ListFacts.{made_none, no_map, none_made}

-- ---- within the hypothesis, without restarts

module _ (scenario : ScenarioParts) (legal : IsLegalScenario scenario) (none : scenario.restarts ≡ []) (journal : List Step)
    (within : IsWithin scenario.params (run scenario journal).trace) where
  pub runs_unaccused : (r : ℕ) → IsCorrect scenario (run scenario journal) r → StandsInNone scenario (run scenario journal) r
  runs_unaccused r correct_r i c slot cycle stands =
      let s : RunState = run scenario journal in
      let all = all_original scenario none journal in
      let sign : FailureSign = record { node = r; cycle = cycle } in
      let h : NoSign scenario r s =
      no_sign scenario none (few_nodes scenario.params legal.in_range) legal.formulas journal (timely_front scenario journal within (quiet_fronts scenario legal none journal within)
      (one_vector_fronts scenario legal none journal within)) r correct_r.running in
      let known : knows sign (knowledge_of (scenario_at scenario s i) i (history i s)) ≡ true =
      signed_known scenario s i sign (record { entry = Failed slot r cycle; stands = stands; tells = (refl, refl) }) in
      let unknown : knows sign (knowledge_of (scenario_at scenario s i) i (history i s)) ≡ false =
      ap (λ (sc : ScenarioParts). knows sign (knowledge_of sc i (history i s))) (follows scenario s all i)
      ∙ ap (λ past. knows sign (knowledge_of scenario i past)) (history_all scenario s all i)
      ∙ (h.unsigned i c.running).unknown sign refl in
      false≢true (sym unknown ∙ known)

-- ---- the accusations of an account

still_some : (slots : List ℕ) (x : FirstAndLast) → fold with_slot (Some x) slots ≡ None → ⊥
still_some [] x h = absurd (cc)
still_some (slot ∷ slots) x h = still_some slots (record { first = min slot x.first; last = max slot x.last }) h

some_slots : (slots : List ℕ) → least_and_greatest slots ≡ None → slots ≡ []
unfolding least_and_greatest
some_slots [] h = refl
some_slots (slot ∷ slots) h = absurd (still_some slots (record { first = slot; last = slot }) h)

no_slots : (slots : List ℕ) → slots ≡ [] → least_and_greatest slots ≡ None
unfolding least_and_greatest
no_slots slots e = ap (fold with_slot None) e

none_in_nil : {X : Type 0} (P : X → Type 0) (xs : List X) → xs ≡ [] → Among P xs → ⊥
none_in_nil P xs e h = subst (λ (l : List _). Among P l) e h

all_empty : {X Y : Type 0} (f : X → List Y) (xs : List X) → AllByRecursion (λ x. f x ≡ []) xs → flat_map f xs ≡ []
all_empty f [] h = refl
all_empty f (x ∷ xs) h = ap (λ l. l ++ flat_map f xs) h.0 ∙ all_empty f xs h.1

-- an entry of a failure of node r
failure_is : (r : ℕ) (entry : LogEntry) → is_failure_of r entry ≡ true → (slot : ℕ) × (cycle : ℕ) × (entry ≡ Failed slot r cycle)
failure_is r (Deliver slot by msg payload) h = absurd (false≢true h)
failure_is r (Failed slot node cycle) h = (slot, cycle, ap (λ n. Failed slot n cycle) (eqb-true node r h))
failure_is r (View slot number members) h = absurd (false≢true h)

module _ (scenario : ScenarioParts) (journal : List Step) where
  abbrev s : RunState
  s = run scenario journal

  abbrev a : AccountParts
  a = account_of scenario s

  abbrev failure_slots : ℕ → List LogParts → List ℕ
  failure_slots r logs = flat_map (λ (l : LogParts). map entry_slot (filter (is_failure_of r) l.entries)) logs

  -- no entry of a list is one of a failure of node r
  none_fail : (r : ℕ) (entries : List LogEntry) → ((slot cycle : ℕ) → Among (λ e. e ≡ Failed slot r cycle) entries → ⊥) → map entry_slot (filter (is_failure_of r) entries) ≡ []
  none_fail r [] h = refl
  none_fail r (e ∷ entries) h = elim (cases_Bool (is_failure_of r e)) [
    | inl is ↦ let it = failure_is r e is in absurd (h it.0 it.1 (inl it.2))
    | inr other ↦ rw other (none_fail r entries (λ slot cycle c. h slot cycle (inr c)))
  ]

  unaccused : (r : ℕ) → StandsInNone scenario s r → accusation_of a (log_at scenario s r) ≡ None
  unaccused r none =
      ap (option_map (λ (slots : FirstAndLast). record { node = r; by = nodes_of (accusers a r); first = slots.first }))
      (no_slots (failure_slots r (accusers a r)) (all_empty (λ (l : LogParts). map entry_slot (filter (is_failure_of r) l.entries)) (accusers a r)
      (each_filter (λ (l : LogParts). map entry_slot (filter (is_failure_of r) l.entries) ≡ []) (λ (l : LogParts). list_any (is_failure_of r) l.entries) (correct a) (along (correct a) (each_correct scenario s (unread_fits scenario journal))))))
    where
      along : (logs : List LogParts) → AllByRecursion (IsLogOfCorrect scenario s (unread_fits scenario journal)) logs
          → AllByRecursion (λ (l : LogParts). list_any (is_failure_of r) l.entries ≡ true → map entry_slot (filter (is_failure_of r) l.entries) ≡ []) logs
      along [] h = tt
      along (x ∷ logs) h = (
        λ _. ap (λ (y : LogParts). map entry_slot (filter (is_failure_of r) y.entries)) h.0.2
            ∙ none_fail r (log scenario s h.0.0) (λ slot cycle c. none h.0.0 h.0.1 slot cycle (Contains-from_Among (log scenario s h.0.0) (Failed slot r cycle) c)),
        along logs h.1,
      )

  -- a node of which a failure entry stands in the log of a correct node has an accusation
  accused : (r : ℕ) → accusation_of a (log_at scenario s r) ≡ None → StandsInNone scenario s r
  accused r none i c slot cycle stands =
      let entry : LogEntry = Failed slot r cycle in
      let empty : failure_slots r (accusers a r) ≡ [] =
      some_slots (failure_slots r (accusers a r)) (no_map (λ (slots : FirstAndLast). record { node = r; by = nodes_of (accusers a r); first = slots.first }) (slots_where (is_failure_of r) (accusers a r)) none) in
      let among : Among (λ e. e ≡ entry) (log scenario s i) = Among-from_Contains (log scenario s i) entry stands in
      let passes : is_failure_of r entry ≡ true = eq-eqb r r refl in
      let tells : list_any (is_failure_of r) (log scenario s i) ≡ true =
      any-from_Among (is_failure_of r) (log scenario s i)
      (Among-weaker (λ e. e ≡ entry) (λ e. is_failure_of r e ≡ true) (λ e same. ap (is_failure_of r) same ∙ passes) (log scenario s i) among) in
      let here : Among (λ n. n ≡ slot) (map entry_slot (filter (is_failure_of r) (log scenario s i))) =
      Among-map entry_slot (λ n. n ≡ slot) (filter (is_failure_of r) (log scenario s i))
      (Among-weaker (λ e. e ≡ entry) (λ e. entry_slot e ≡ slot) (λ e same. ap entry_slot same) (filter (is_failure_of r) (log scenario s i))
      (among_filter (λ e. e ≡ entry) (is_failure_of r) (log scenario s i) (λ e same. ap (is_failure_of r) same ∙ passes) among)) in
      none_in_nil (λ n. n ≡ slot) (failure_slots r (accusers a r)) empty
      (Among-flat_map (λ (l : LogParts). map entry_slot (filter (is_failure_of r) l.entries)) (λ n. n ≡ slot) (accusers a r)
      (Among-weaker (λ x. x ≡ log_at scenario s i) (λ (l : LogParts). Among (λ n. n ≡ slot) (map entry_slot (filter (is_failure_of r) l.entries)))
      (λ x e. subst (λ (l : LogParts). Among (λ n. n ≡ slot) (map entry_slot (filter (is_failure_of r) l.entries))) (sym e) here) (accusers a r)
      (among_filter (λ x. x ≡ log_at scenario s i) (λ (l : LogParts). list_any (is_failure_of r) l.entries) (correct a)
      (λ x e. ap (λ (l : LogParts). list_any (is_failure_of r) l.entries) e ∙ tells) (has_correct scenario s (unread_fits scenario journal) i c))))

  pub nobody_accused : (accusations a ≡ []) ↔ ((r : ℕ) → IsCorrectFrom scenario s 0 r → StandsInNone scenario s r)
  nobody_accused = (to, from)
    where
      to : accusations a ≡ [] → (r : ℕ) → IsCorrectFrom scenario s 0 r → StandsInNone scenario s r
      to none r c =
          accused r (Each-of (λ x. accusation_of a x ≡ None) (log_at scenario s r) (filter (takes_part 0) (correct a)) (made_none (accusation_of a) (filter (takes_part 0) (correct a)) none)
          (among_filter (λ x. x ≡ log_at scenario s r) (takes_part 0) (correct a)
          (λ x e. ap (takes_part 0) e ∙ le-leb (node_at s.nodes r).present.from 0 c.took_part) (has_correct scenario s (unread_fits scenario journal) r c.correct)))

      from : ((r : ℕ) → IsCorrectFrom scenario s 0 r → StandsInNone scenario s r) → accusations a ≡ []
      from none =
          none_made (accusation_of a) (filter (takes_part 0) (correct a))
          (each_filter (λ x. accusation_of a x ≡ None) (takes_part 0) (correct a) (along (correct a) (each_correct scenario s (unread_fits scenario journal))))
        where
          along : (logs : List LogParts) → AllByRecursion (IsLogOfCorrect scenario s (unread_fits scenario journal)) logs → AllByRecursion (λ x. takes_part 0 x ≡ true → accusation_of a x ≡ None) logs
          along [] h = tt
          along (x ∷ logs) h = (
            λ since.
                ap (accusation_of a) h.0.2
                ∙ unaccused h.0.0 (none h.0.0 (record {
                  correct = h.0.1;
                  took_part = leb-true (node_at s.nodes h.0.0).present.from 0 (ap (takes_part 0) (sym h.0.2) ∙ since);
                })),
            along logs h.1,
          )
