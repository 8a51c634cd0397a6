-- The logs of the correct nodes in the account of a run: each is the log of a node that runs, with
-- the slot since which it takes part, and each node that runs has one.
use Rattle.std.proofs.Common.{◌≡◌, ℕ, zero, suc, ◌+◌, ◌<◌, ◌≤◌, ◌==◌, ◌&&◌, Bool, true, List, [], ◌∷◌, length, refl, ap, subst, ◌∙◌, arith, inl, inr}
use Rattle.std.specs.Prelude.{filter, option_map, unwrap_or, Some}
use Rattle.std.specs.List.{AllByRecursion, range_with_len}
use Rattle.std.specs.Option.{option_map_or}
use Rattle.std.proofs.lemmas.Bool.{and_from, and_parts, cases_Bool, cases_eq, eq-eqb, eqb-true}
use Rattle.cany_base.specs.declared.step.Step.{Step}
use Rattle.cany_base.specs.Scenario.{ScenarioParts}
use Rattle.cany_model.specs.Bus.History.{ended_history}
use Rattle.cany_model.specs.Bus.State.{EndedIncarnation, RunState, node_at, reads, runs}
use Rattle.cany_model.specs.Promises.Settled.{IsCorrect}
use Rattle.cany_model.specs.Rules.Log.{log, log_from}
use Rattle.cany_model.specs.Rules.Turn.{scenario_for}
use Rattle.cany_model.specs.Runs.Incarnations.{incarnation_of}
use Rattle.cany_model.specs.Runs.Run.{run}
use Rattle.cany_model.proofs.Among.{Among, Among-flat_map, Among-map, Each-flat_map, Each-map}
use Rattle.cany_model.proofs.Bus.Seen.{ended_history-present}
use Rattle.cany_model.proofs.Runs.Runs.{orderly}
use Rattle.cany_check.specs.Accounts.Account.{LogParts, account_of, log_record, logs_of, logs_of_node, running}
use Rattle.cany_check.specs.Accounts.Words.{correct}

-- ---- lists

pub each_range : (P : ℕ → Type 0) (a n : ℕ) → ((i : ℕ) → i < a + n → P i) → AllByRecursion P (range_with_len a n)
each_range P a zero h = tt
each_range P a (suc n) h = (h a (omega arith), each_range P (a + 1) n (λ i below. h i (omega (arith, below))))

pub among_range : (P : ℕ → Type 0) (a n i : ℕ) → a ≤ i → i < a + n → P i → Among P (range_with_len a n)
among_range P a zero i from below h = absurd (omega (arith, from, below))
among_range P a (suc n) i from below h = elim (cases_eq i a) [
  | inl here ↦ inl (subst P here h)
  | inr other ↦ inr (among_range P (a + 1) n i (omega (arith, from, other)) (omega (arith, below)) h)
]

pub each_filter : {X : Type 0} (P : X → Type 0) (p : X → Bool) (xs : List X) → AllByRecursion (λ x. p x ≡ true → P x) xs → AllByRecursion P (filter p xs)
each_filter P p [] h = tt
each_filter P p (x ∷ xs) h = elim (cases_Bool (p x)) [
  | inl passes ↦ rw passes (h.0 passes, each_filter P p xs h.1)
  | inr other ↦ rw other (each_filter P p xs h.1)
]

pub among_filter : {X : Type 0} (P : X → Type 0) (p : X → Bool) (xs : List X) → ((x : X) → P x → p x ≡ true) → Among P xs → Among P (filter p xs)
among_filter P p [] f h = h
among_filter P p (x ∷ xs) f (inl here) = rw (f x here) (inl here)
among_filter P p (x ∷ xs) f (inr later) = elim (cases_Bool (p x)) [
  | inl passes ↦ rw passes (inr (among_filter P p xs f later))
  | inr other ↦ rw other (among_filter P p xs f later)
]

-- ---- one node

-- no node of a run has more unread than slots ran
pub unread_fits : (scenario : ScenarioParts) (journal : List Step) (i : ℕ)
    → (node_at (run scenario journal).nodes i).unread ≤ length (run scenario journal).trace
unread_fits scenario journal = (orderly scenario journal).unread

-- the log of a node that runs
abbrev pub log_at : ScenarioParts → RunState → ℕ → LogParts
log_at scenario s i = record { node = i; from = (node_at s.nodes i).present.from; runs = true; entries = log scenario s i }

abbrev present_of : RunState → ℕ → EndedIncarnation
present_of s i = record { incarnation = (node_at s.nodes i).present; next = reads s i; stopped = (node_at s.nodes i).stopped }

found_present : (s : RunState) (i : ℕ) → incarnation_of s i (node_at s.nodes i).present.number ≡ Some (present_of s i)
unfolding incarnation_of
found_present s i = rw (eq-eqb (node_at s.nodes i).present.number (node_at s.nodes i).present.number refl) refl

module _ (scenario : ScenarioParts) (s : RunState) (short : (i : ℕ) → (node_at s.nodes i).unread ≤ length s.trace) where
  present_is : (i : ℕ) → runs (node_at s.nodes i) ≡ true → log_record scenario s i (node_at s.nodes i).present.number ≡ log_at scenario s i
  present_is i running' =
      let number : ℕ = (node_at s.nodes i).present.number in
      let from : unwrap_or (option_map (λ (e : EndedIncarnation). e.incarnation.from) (incarnation_of s i number)) 0 ≡ (node_at s.nodes i).present.from =
      ap (λ o. unwrap_or (option_map (λ (e : EndedIncarnation). e.incarnation.from) o) 0) (found_present s i) in
      let runs_here : (runs (node_at s.nodes i) && number == number) ≡ true = and_from (runs (node_at s.nodes i)) (number == number) running' (eq-eqb number number refl) in
      let entries : option_map_or (λ (e : EndedIncarnation). log_from (scenario_for scenario e.incarnation) i (ended_history i s.trace e)) (incarnation_of s i number) [] ≡ log scenario s i =
      ap (λ o. option_map_or (λ (e : EndedIncarnation). log_from (scenario_for scenario e.incarnation) i (ended_history i s.trace e)) o []) (found_present s i)
      ∙ ap (log_from (scenario_for scenario (node_at s.nodes i).present) i) (ended_history-present i s (short i)) in
      λ k. record { node = i; from = from k; runs = runs_here k; entries = entries k }

  pub record_is : (i number : ℕ) → (log_record scenario s i number).runs ≡ true → (runs (node_at s.nodes i) ≡ true) × (log_record scenario s i number ≡ log_at scenario s i)
  record_is i number h =
      let parts = and_parts (runs (node_at s.nodes i)) (number == (node_at s.nodes i).present.number) h in
      let here : number ≡ (node_at s.nodes i).present.number = eqb-true number (node_at s.nodes i).present.number parts.1 in
      (parts.0, ap (log_record scenario s i) here ∙ present_is i parts.0)

  -- ---- all nodes

  abbrev pub IsLogOfCorrect : LogParts → Type 0
  IsLogOfCorrect x = (i : ℕ) × IsCorrect scenario s i × (x ≡ log_at scenario s i)

  pub each_running : AllByRecursion IsLogOfCorrect (running (logs_of scenario s))
  each_running =
      each_filter IsLogOfCorrect (λ x. x.runs) (logs_of scenario s)
      (Each-flat_map (logs_of_node scenario s) (λ x. x.runs ≡ true → IsLogOfCorrect x) (range_with_len 0 scenario.params.nodes)
      (each_range (λ i. AllByRecursion (λ x. x.runs ≡ true → IsLogOfCorrect x) (logs_of_node scenario s i)) 0 scenario.params.nodes
      (λ i below. Each-map (log_record scenario s i) (λ x. x.runs ≡ true → IsLogOfCorrect x) (range_with_len 0 ((node_at s.nodes i).present.number + 1))
      (each_range (λ number. (log_record scenario s i number).runs ≡ true → IsLogOfCorrect (log_record scenario s i number)) 0 ((node_at s.nodes i).present.number + 1)
      (λ number within h.
      let is = record_is i number h in
      (i, record { there = omega (arith, below); running = is.0 }, is.1))))))

  pub has_running : (i : ℕ) → IsCorrect scenario s i → Among (λ x. x ≡ log_at scenario s i) (running (logs_of scenario s))
  has_running i c =
      among_filter (λ x. x ≡ log_at scenario s i) (λ x. x.runs) (logs_of scenario s) (λ x e. ap (λ (y : LogParts). y.runs) e)
      (Among-flat_map (logs_of_node scenario s) (λ x. x ≡ log_at scenario s i) (range_with_len 0 scenario.params.nodes)
      (among_range (λ k. Among (λ x. x ≡ log_at scenario s i) (logs_of_node scenario s k)) 0 scenario.params.nodes i (omega arith) (omega (arith, c.there))
      (Among-map (log_record scenario s i) (λ x. x ≡ log_at scenario s i) (range_with_len 0 ((node_at s.nodes i).present.number + 1))
      (among_range (λ number. log_record scenario s i number ≡ log_at scenario s i) 0 ((node_at s.nodes i).present.number + 1) (node_at s.nodes i).present.number
      (omega arith) (omega arith) (present_is i c.running)))))

  pub each_correct : AllByRecursion IsLogOfCorrect (correct (account_of scenario s))
  unfolding account_of
  each_correct = each_running

  pub has_correct : (i : ℕ) → IsCorrect scenario s i → Among (λ x. x ≡ log_at scenario s i) (correct (account_of scenario s))
  unfolding account_of
  has_correct i c = has_running i c
