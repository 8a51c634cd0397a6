-- In the account of a run within the fault hypothesis no part of the promise is broken, but for
-- accuracy.
use Rattle.std.proofs.Common.{◌≡◌, ℕ, ◌≤◌, Bool, true, false, List, [], ◌∷◌, map, refl, ap, sym, subst, ◌∙◌, inl, inr, Contains}
use Rattle.std.specs.Prelude.{filter, is_some, None, if◌then◌else◌}
use Rattle.std.specs.List.{AllByRecursion, list_any}
use Rattle.std.proofs.lemmas.Bool.{cases_Bool, false≢true}
use Rattle.cany_base.specs.declared.message.Service.{Service}
use Rattle.cany_base.specs.declared.step.Step.{Step}
use Rattle.cany_base.specs.Limits.{most_nodes}
use Rattle.cany_base.specs.Scenario.{ScenarioParts}
use Rattle.cany_model.specs.Bus.State.{RunState}
use Rattle.cany_model.specs.Promises.OneView.{HasOneView}
use Rattle.cany_model.specs.Promises.Safe.{IsAgreedOn, IsSafe, IsSignAgreedOn}
use Rattle.cany_model.specs.Promises.Settled.{IsCorrectFrom}
use Rattle.cany_model.specs.Rules.Knowledge.{FailureSign}
use Rattle.cany_model.specs.Rules.Messages.{Message, is_service, messages_of}
use Rattle.cany_model.specs.Runs.Run.{all_read, run}
use Rattle.cany_model.proofs.Among.{Each-filter, Each-map}
use Rattle.cany_check.specs.declared.deciders.findings.Fate.{Fate}
use Rattle.cany_check.specs.declared.deciders.findings.Fate.TheVariants.{Apart}
use Rattle.cany_check.specs.declared.deciders.findings.Judgement.{Judgement}
use Rattle.cany_check.specs.declared.deciders.findings.Judgement.TheVariants.{Held, Broken, Open}
use Rattle.cany_check.specs.declared.deciders.findings.Part.{Part}
use Rattle.cany_check.specs.declared.deciders.findings.Part.TheVariants as part
use Rattle.cany_check.specs.Accounts.Account.{AccountParts, account_of, logs_of, message_record, sign_record, signs_told}
use Rattle.cany_check.specs.Deciding.Fates.{message_fate, sign_fate}
use Rattle.cany_check.specs.Deciding.Integrity.{wrong_entry}
use Rattle.cany_check.specs.Deciding.OneOrder.{parting}
use Rattle.cany_check.specs.Deciding.Views.{view_partings}
use Rattle.cany_check.specs.Deciding.Verdict.{broken_if, fates_of_service, is_apart, is_broken_judgement, is_open, is_some_of, judgement, of_fates}
use Rattle.cany_check.specs.Promise.{StandsInNone}
use Rattle.cany_check.proofs.Deciding.Accused.{nobody_accused}
use Rattle.cany_check.proofs.Deciding.FateFacts.{apart_by}
use Rattle.cany_check.proofs.Deciding.FatesOfRun.{apart_where, sign_apart_where}
use Rattle.cany_check.proofs.Deciding.IntegrityOfRun.{nothing_wrong}
use Rattle.cany_check.proofs.ListFacts.{each_of_list}
use Rattle.cany_check.proofs.Deciding.OrderOfRun.{nobody_parts}
use Rattle.cany_check.proofs.Deciding.ViewsOfRun.{none_apart}

pub not_broken : (j : Judgement) → is_broken_judgement j ≡ false → j ≡ Broken → ⊥
not_broken j h e = absurd (false≢true (sym h ∙ ap is_broken_judgement e))

pub whole_fates : (fates : List Fate) → AllByRecursion (λ f. f ≡ Apart → ⊥) fates → is_broken_judgement (of_fates fates) ≡ false
whole_fates fates h = by_open (list_any is_open fates) (none_apart_in fates h)
  where
    none_apart_in : (fs : List Fate) → AllByRecursion (λ f. f ≡ Apart → ⊥) fs → list_any is_apart fs ≡ false
    none_apart_in [] k = refl
    none_apart_in (f ∷ fs) k = elim (cases_Bool (is_apart f)) [
      | inl apart ↦ absurd (k.0 (apart_by f apart))
      | inr other ↦ rw other (none_apart_in fs k.1)
    ]

    by_open : (b : Bool) → list_any is_apart fates ≡ false → is_broken_judgement (if list_any is_apart fates then Broken else if b then Open else Held) ≡ false
    by_open true e = rw e refl
    by_open false e = rw e refl

-- what is promised of a run, but for accuracy
pub record KeepsButAccuracy (scenario : ScenarioParts) (s : RunState) : Type 0 where
  pub agreement : (m : Message) → Contains (messages_of scenario.sends) m → IsAgreedOn scenario s m
  pub order : parting (account_of scenario s) ≡ None
  pub views : HasOneView scenario s
  pub signs : (sign : FailureSign) → IsSignAgreedOn scenario s sign

pub safe_keeps : (scenario : ScenarioParts) (journal : List Step) → scenario.params.nodes ≤ most_nodes → IsSafe scenario (run scenario journal)
    → KeepsButAccuracy scenario (run scenario journal)
safe_keeps scenario journal few safe = record {
  agreement = safe.agreement;
  order = nobody_parts scenario journal few safe.order;
  views = safe.views;
  signs = safe.signs;
}

module _ (scenario : ScenarioParts) (journal : List Step) (few : scenario.params.nodes ≤ most_nodes) (read : all_read (run scenario journal) ≡ true)
    (safe : KeepsButAccuracy scenario (run scenario journal)) where
  abbrev s : RunState
  s = run scenario journal

  abbrev a : AccountParts
  a = account_of scenario s

  all_agree : AllByRecursion (λ m. message_fate (account_of scenario s) m ≡ Apart → ⊥) (account_of scenario s).messages
  unfolding account_of
  all_agree =
      Each-map (message_record scenario s) (λ m. message_fate (account_of scenario s) m ≡ Apart → ⊥) (messages_of scenario.sends)
      (each_of_list (λ m. message_fate (account_of scenario s) (message_record scenario s m) ≡ Apart → ⊥) (messages_of scenario.sends) (messages_of scenario.sends) (λ x c. c)
      (λ m stands apart. (apart_where scenario journal few read m).0 apart (safe.agreement m stands)))

  all_signs_agree : AllByRecursion (λ x. sign_fate (account_of scenario s) x ≡ Apart → ⊥) (account_of scenario s).signs
  unfolding account_of
  all_signs_agree =
      Each-map (sign_record s) (λ x. sign_fate (account_of scenario s) x ≡ Apart → ⊥) (signs_told (logs_of scenario s))
      (each_of_list (λ sign. sign_fate (account_of scenario s) (sign_record s sign) ≡ Apart → ⊥) (signs_told (logs_of scenario s)) (signs_told (logs_of scenario s)) (λ x c. c)
      (λ sign stands apart. (sign_apart_where scenario journal few read sign).0 apart (safe.signs sign)))

  messages_agree : (by : Service) → AllByRecursion (λ f. f ≡ Apart → ⊥) (fates_of_service a by)
  messages_agree by =
      Each-map (message_fate a) (λ f. f ≡ Apart → ⊥) (filter (λ m. is_service m.service by) a.messages)
      (Each-filter (λ m. message_fate a m ≡ Apart → ⊥) (λ m. is_service m.service by) a.messages all_agree)

  pub only_accuracy : (p : Part) → judgement a p ≡ Broken → p ≡ part.Accuracy
  unfolding judgement
  only_accuracy part.Integrity h =
      absurd (not_broken (broken_if (is_some (wrong_entry a))) (ap (λ o. is_broken_judgement (broken_if (is_some o))) (nothing_wrong scenario journal few)) h)
  only_accuracy (part.Agreement by) h = absurd (not_broken (of_fates (fates_of_service a by)) (whole_fates (fates_of_service a by) (messages_agree by)) h)
  only_accuracy part.Order h =
      absurd (not_broken (broken_if (is_some (parting a))) (ap (λ o. is_broken_judgement (broken_if (is_some o))) safe.order) h)
  only_accuracy part.Views h =
      absurd (not_broken (broken_if (is_some_of (view_partings a))) (ap (λ l. is_broken_judgement (broken_if (is_some_of l))) ((none_apart scenario journal).1 safe.views)) h)
  only_accuracy part.Signs h =
      absurd (not_broken (of_fates (map (sign_fate a) a.signs)) (whole_fates (map (sign_fate a) a.signs)
      (Each-map (sign_fate a) (λ f. f ≡ Apart → ⊥) a.signs all_signs_agree)) h)
  only_accuracy part.Accuracy h = refl

  accuracy_holds : ((r : ℕ) → IsCorrectFrom scenario s 0 r → StandsInNone scenario s r) → is_broken_judgement (judgement a part.Accuracy) ≡ false
  unfolding judgement
  accuracy_holds none = ap (λ l. is_broken_judgement (broken_if (is_some_of l))) ((nobody_accused scenario journal).1 none)

  -- and with accuracy nothing is
  pub none_breaks : ((r : ℕ) → IsCorrectFrom scenario s 0 r → StandsInNone scenario s r) → (p : Part) → judgement a p ≡ Broken → ⊥
  none_breaks none p h =
      not_broken (judgement a part.Accuracy) (accuracy_holds none) (subst (λ q. judgement a q ≡ Broken) (only_accuracy p h) h)
