-- The status of the verdict on a run: 9 exactly where the promise is not kept, 10 exactly where it
-- is and something is open.
use Rattle.std.proofs.Common.{◌≡◌, ℕ, ◌≤◌, ◌↔◌, ◌⊎◌, ◌==◌, Bool, true, false, List, [], ◌∷◌, map, refl, ap, sym, subst, ◌∙◌, arith, inl, inr, Contains}
use Rattle.std.specs.Prelude.{filter, is_some, if◌then◌else◌, Option, Some, None}
use Rattle.std.specs.List.{AllByRecursion, flat_map, list_any}
use Rattle.std.proofs.lemmas.Bool.{and_from, cases_Bool, eq-eqb, false≢true}
use Rattle.cany_base.specs.declared.log_entry.LogEntry.{LogEntry}
use Rattle.cany_base.specs.declared.log_entry.LogEntry.TheVariants.{Deliver, Failed, View}
use Rattle.cany_base.specs.declared.message.Service.{Service}
use Rattle.cany_base.specs.declared.message.Service.TheVariants as service
use Rattle.cany_base.specs.declared.step.Step.{Step}
use Rattle.cany_base.specs.Limits.{most_nodes}
use Rattle.cany_base.specs.Scenario.{ScenarioParts}
use Rattle.cany_model.specs.Bus.State.{RunState}
use Rattle.cany_model.specs.Promises.Entries.{HasLoggedFailure}
use Rattle.cany_model.specs.Promises.Safe.{IsSignAgreedOn}
use Rattle.cany_model.specs.Promises.Settled.{IsCorrect}
use Rattle.cany_model.specs.Rules.Knowledge.{FailureSign, same_sign}
use Rattle.cany_model.specs.Rules.Log.{log}
use Rattle.cany_model.specs.Rules.Messages.{Message, is_service, messages_of}
use Rattle.cany_model.specs.Runs.Run.{all_read, run}
use Rattle.cany_model.proofs.Among.{Among, Among-from_Contains, Among-from_any, Among-from_map, Among-map, Among-weaker, Among-which, Among-with, Each-filter, Each-flat_map, Each-map, Each-weaker, any-from_Among}
use Rattle.cany_model.proofs.Rules.Site.KnowledgeFacts.{same_sign-true}
use Rattle.cany_check.specs.declared.account.record.MessageRecord.{MessageRecord}
use Rattle.cany_check.specs.declared.account.record.SignRecord.{SignRecord}
use Rattle.cany_check.specs.declared.deciders.findings.Fate.{Fate}
use Rattle.cany_check.specs.declared.deciders.findings.Fate.TheVariants as fate
use Rattle.cany_check.specs.declared.deciders.findings.Judgement.{Judgement}
use Rattle.cany_check.specs.declared.deciders.findings.Judgement.TheVariants.{Held, Broken, Open}
use Rattle.cany_check.specs.declared.deciders.findings.Part.{Part}
use Rattle.cany_check.specs.declared.deciders.findings.Part.TheVariants as part
use Rattle.cany_check.specs.Accounts.Account.{AccountParts, LogParts, account_of, is_sign_before, logs_of, message_record, running, sign_in, sign_record, signs_told}
use Rattle.cany_check.specs.Deciding.Accuracy.{accusations}
use Rattle.cany_check.specs.Deciding.Fates.{message_fate, sign_fate}
use Rattle.cany_check.specs.Deciding.Integrity.{wrong_entry}
use Rattle.cany_check.specs.Deciding.OneOrder.{parting}
use Rattle.cany_check.specs.Promise.{HasOpenMessage, HasOpenSign, IsOpen, KeepsPromise}
use Rattle.cany_check.specs.Deciding.Verdict.{broken_if, fates_of_service, is_apart, is_broken_judgement, is_open, is_open_judgement, is_some_of, judgement, of_fates, parts, status}
use Rattle.cany_check.specs.Deciding.Views.{view_partings}
use Rattle.cany_check.proofs.Deciding.Accused.{nobody_accused}
use Rattle.cany_check.proofs.Deciding.CorrectLogs.{IsLogOfCorrect, among_filter, each_running, unread_fits}
use Rattle.cany_check.proofs.InOrderFacts.{each_ascending}
use Rattle.cany_check.proofs.Deciding.Decided.{is_service-self}
use Rattle.cany_check.proofs.Deciding.FatesOfRun.{agreed_unless_apart, open_where, sign_agreed, sign_open_where, signs_are_told, unlisted_agreed}
use Rattle.cany_check.proofs.ListFacts.{each_of_list}
use Rattle.cany_check.proofs.Deciding.PartingFacts.{parting_found}
use Rattle.cany_check.proofs.Deciding.ViewsOfRun.{none_apart}
use Rattle.cany_check.proofs.Deciding.Within.{none_breaks}

-- ---- judgements

broken_by : (j : Judgement) → is_broken_judgement j ≡ true → j ≡ Broken
broken_by Held h = absurd (false≢true h)
broken_by Broken h = refl
broken_by Open h = absurd (false≢true h)

fates_broken : (fates : List Fate) → list_any is_apart fates ≡ true → of_fates fates ≡ Broken
fates_broken fates h = rw h refl

fates_open : (fates : List Fate) → is_open_judgement (of_fates fates) ≡ true → list_any is_open fates ≡ true
fates_open fates h = by_apart (list_any is_apart fates) (list_any is_open fates) refl h
  where
    by_apart : (b c : Bool) → list_any is_open fates ≡ c → is_open_judgement (if b then Broken else if c then Open else Held) ≡ true → list_any is_open fates ≡ true
    by_apart true c e k = absurd (false≢true k)
    by_apart false true e k = e
    by_apart false false e k = absurd (false≢true k)

open_fates : (fates : List Fate) → list_any is_open fates ≡ true → is_broken_judgement (of_fates fates) ≡ false → is_open_judgement (of_fates fates) ≡ true
open_fates fates h whole = by_apart (list_any is_apart fates) (rw h at whole)
  where
    by_apart : (b : Bool) → is_broken_judgement (if list_any is_apart fates then Broken else Open) ≡ false → is_open_judgement (of_fates fates) ≡ true
    by_apart b k = rw h (elim (cases_Bool (list_any is_apart fates)) [
      | inl apart ↦ absurd (false≢true (sym (rw apart at k)))
      | inr other ↦ rw other refl
    ])

never_open : (b : Bool) → is_open_judgement (broken_if b) ≡ false
never_open true = refl
never_open false = refl

is_apart-Apart : (f : Fate) → f ≡ fate.Apart → is_apart f ≡ true
is_apart-Apart f e = ap is_apart e

is_open-Open : (f : Fate) → is_open f ≡ true → f ≡ fate.Open
is_open-Open fate.All h = absurd (false≢true h)
is_open-Open fate.Nobody h = absurd (false≢true h)
is_open-Open fate.Apart h = absurd (false≢true h)
is_open-Open fate.Open h = refl

-- each part is one of the list
part_there : (p : Part) → Among (λ q. q ≡ p) parts
part_there part.Integrity = inl refl
part_there (part.Agreement service.Ed) = inr (inl refl)
part_there (part.Agreement service.Rel) = inr (inr (inl refl))
part_there (part.Agreement service.Tot) = inr (inr (inr (inl refl)))
part_there part.Order = inr (inr (inr (inr (inl refl))))
part_there part.Views = inr (inr (inr (inr (inr (inl refl)))))
part_there part.Signs = inr (inr (inr (inr (inr (inr (inl refl))))))
part_there part.Accuracy = inr (inr (inr (inr (inr (inr (inr (inl refl)))))))

any_part : (test : Part → Bool) (p : Part) → test p ≡ true → list_any test parts ≡ true
any_part test p h = any-from_Among test parts (Among-weaker (λ q. q ≡ p) (λ q. test q ≡ true) (λ q e. ap test e ∙ h) parts (part_there p))

which_part : (test : Part → Bool) → list_any test parts ≡ true → (p : Part) × (test p ≡ true)
which_part test h = let one = Among-which (λ q. test q ≡ true) parts (Among-from_any test parts h) in (one.0, one.2)

nothing_some : {X : Type 0} (xs : List X) → is_some_of xs ≡ false → xs ≡ []
nothing_some [] h = refl
nothing_some (x ∷ xs) h = absurd (false≢true (sym h))

nothing_found : {X : Type 0} (o : Option X) → is_some o ≡ false → o ≡ None
nothing_found None h = refl
nothing_found (Some x) h = absurd (false≢true (sym h))

held_if : (b : Bool) → (broken_if b ≡ Broken → ⊥) → b ≡ false
held_if true h = absurd (h refl)
held_if false h = refl

abbrev status_by : (broken opened : Bool) → ℕ
status_by broken opened = if broken then 9 else if opened then 10 else 0

nine_by : (b c : Bool) → status_by b c ≡ 9 → b ≡ true
nine_by true c h = refl
nine_by false true h = absurd (omega (arith, h))
nine_by false false h = absurd (omega (arith, h))

ten_by : (b c : Bool) → status_by b c ≡ 10 → (b ≡ false) × (c ≡ true)
ten_by true c h = absurd (omega (arith, h))
ten_by false true h = (refl, refl)
ten_by false false h = absurd (omega (arith, h))

-- ---- a run

module _ (scenario : ScenarioParts) (journal : List Step) (few : scenario.params.nodes ≤ most_nodes) (read : all_read (run scenario journal) ≡ true) where
  abbrev s : RunState
  s = run scenario journal

  abbrev a : AccountParts
  a = account_of scenario s

  -- the account has the record of a message, and of a sign
  message_there : (m : Message) → Contains (messages_of scenario.sends) m → Among (λ r. r ≡ message_record scenario s m) a.messages
  unfolding account_of
  message_there m stands =
      Among-map (message_record scenario s) (λ r. r ≡ message_record scenario s m) (messages_of scenario.sends)
      (Among-weaker (λ x. x ≡ m) (λ x. message_record scenario s x ≡ message_record scenario s m) (λ x e. ap (message_record scenario s) e) (messages_of scenario.sends)
      (Among-from_Contains (messages_of scenario.sends) m stands))

  sign_there : (sign : FailureSign) → Among (λ x. x ≡ sign) (signs_told (logs_of scenario s)) → Among (λ r. r ≡ sign_record s sign) a.signs
  unfolding account_of
  sign_there sign told =
      Among-map (sign_record s) (λ r. r ≡ sign_record s sign) (signs_told (logs_of scenario s))
      (Among-weaker (λ x. x ≡ sign) (λ x. sign_record s x ≡ sign_record s sign) (λ x e. ap (sign_record s) e) (signs_told (logs_of scenario s)) told)

  -- a fate of the account is that of a message of the service
  service_fate : (test : Fate → Bool) (m : Message) → Contains (messages_of scenario.sends) m → test (message_fate a (message_record scenario s m)) ≡ true
      → list_any test (fates_of_service a m.service) ≡ true
  service_fate test m stands h =
      any-from_Among test (fates_of_service a m.service)
      (Among-map (message_fate a) (λ f. test f ≡ true) (filter (λ r. is_service r.service m.service) a.messages)
      (Among-weaker (λ r. r ≡ message_record scenario s m) (λ r. test (message_fate a r) ≡ true) (λ r e. ap (λ x. test (message_fate a x)) e ∙ h)
      (filter (λ r. is_service r.service m.service) a.messages)
      (among_filter (λ r. r ≡ message_record scenario s m) (λ r. is_service r.service m.service) a.messages
      (λ r e. ap (λ (x : MessageRecord). is_service x.service m.service) e ∙ is_service-self m.service) (message_there m stands))))

  -- ---- what is kept where nothing is broken

  module _ (whole : (p : Part) → judgement a p ≡ Broken → ⊥) where
    agrees : (m : Message) → Contains (messages_of scenario.sends) m → message_fate a (message_record scenario s m) ≡ fate.Apart → ⊥
    unfolding judgement
    agrees m stands apart =
        whole (part.Agreement m.service) (fates_broken (fates_of_service a m.service) (service_fate is_apart m stands (is_apart-Apart (message_fate a (message_record scenario s m)) apart)))

    sign_agrees : (sign : FailureSign) → Among (λ x. x ≡ sign) (signs_told (logs_of scenario s)) → sign_fate a (sign_record s sign) ≡ fate.Apart → ⊥
    unfolding judgement
    sign_agrees sign told apart =
        whole part.Signs (fates_broken (map (sign_fate a) a.signs)
        (any-from_Among is_apart (map (sign_fate a) a.signs)
        (Among-map (sign_fate a) (λ f. is_apart f ≡ true) a.signs
        (Among-weaker (λ r. r ≡ sign_record s sign) (λ r. is_apart (sign_fate a r) ≡ true)
        (λ r e. ap (λ x. is_apart (sign_fate a x)) e ∙ is_apart-Apart (sign_fate a (sign_record s sign)) apart) a.signs (sign_there sign told)))))

    order_held : parting a ≡ None
    unfolding judgement
    order_held = nothing_found (parting a) (held_if (is_some (parting a)) (whole part.Order))

    views_held : view_partings a ≡ []
    unfolding judgement
    views_held = nothing_some (view_partings a) (held_if (is_some_of (view_partings a)) (whole part.Views))

    accuracy_held : accusations a ≡ []
    unfolding judgement
    accuracy_held = nothing_some (accusations a) (held_if (is_some_of (accusations a)) (whole part.Accuracy))

    by_listed : (sign : FailureSign) → (list_any (same_sign sign) (signs_told (logs_of scenario s)) ≡ true) ⊎ (list_any (same_sign sign) (signs_told (logs_of scenario s)) ≡ false)
        → IsSignAgreedOn scenario s sign
    by_listed sign (inl listed) =
        sign_agreed scenario journal few read sign (sign_agrees sign
        (Among-weaker (λ x. same_sign sign x ≡ true) (λ x. x ≡ sign) (λ x e. sym (same_sign-true sign x e)) (signs_told (logs_of scenario s))
        (Among-from_any (same_sign sign) (signs_told (logs_of scenario s)) listed)))
    by_listed sign (inr unlisted) =
        unlisted_agreed scenario journal few sign (λ stands. absurd (false≢true (sym unlisted ∙ any-from_Among (same_sign sign) (signs_told (logs_of scenario s))
        (Among-weaker (λ x. x ≡ sign) (λ x. same_sign sign x ≡ true)
        (λ x e. and_from (sign.node == x.node) (sign.cycle == x.cycle) (eq-eqb sign.node x.node (ap (λ (y : FailureSign). y.node) (sym e))) (eq-eqb sign.cycle x.cycle (ap (λ (y : FailureSign). y.cycle) (sym e))))
        (signs_told (logs_of scenario s)) (Among-from_Contains (signs_told (logs_of scenario s)) sign stands))))) read

    kept : KeepsPromise scenario s
    kept = record {
      agreement = λ m stands. agreed_unless_apart scenario journal few read m (agrees m stands);
      order = (parting_found a).0 order_held;
      views = (none_apart scenario journal).0 views_held;
      signs = λ sign. by_listed sign (cases_Bool (list_any (same_sign sign) (signs_told (logs_of scenario s))));
      accuracy = (nobody_accused scenario journal).0 accuracy_held;
    }

  -- and nothing is broken where it is kept
  unbroken : KeepsPromise scenario s → (p : Part) → judgement a p ≡ Broken → ⊥
  unbroken keeps p =
      none_breaks scenario journal few read (record { agreement = keeps.agreement; order = (parting_found a).1 keeps.order; views = keeps.views; signs = keeps.signs }) keeps.accuracy p

  -- ---- the status

  abbrev broken : Bool
  broken = list_any (λ p. is_broken_judgement (judgement a p)) parts

  abbrev opened : Bool
  opened = list_any (λ p. is_open_judgement (judgement a p)) parts

  status_is : status a ≡ status_by broken opened
  unfolding status
  status_is = refl

  broken_where : KeepsPromise scenario s → broken ≡ false
  broken_where keeps = elim (cases_Bool broken) [
    | inl some ↦
        let one = which_part (λ p. is_broken_judgement (judgement a p)) some in
        absurd (unbroken keeps one.0 (broken_by (judgement a one.0) one.1))
    | inr none ↦ none
  ]

  kept_where : broken ≡ false → KeepsPromise scenario s
  kept_where none = kept (λ p h. false≢true (sym none ∙ any_part (λ q. is_broken_judgement (judgement a q)) p (ap is_broken_judgement h)))

  pub nine_where : (status a ≡ 9) ↔ (KeepsPromise scenario s → ⊥)
  nine_where = (
    λ h keeps. false≢true (sym (broken_where keeps) ∙ nine_by broken opened (sym status_is ∙ h)),
    λ h. elim (cases_Bool broken) [
      | inl some ↦ status_is ∙ ap (λ b. status_by b opened) some
      | inr none ↦ absurd (h (kept_where none))
    ],
  )

  -- ---- what is open

  abbrev OpensMessage : MessageRecord → Type 0
  OpensMessage r = message_fate a r ≡ fate.Open → HasOpenMessage scenario s

  each_message : AllByRecursion OpensMessage a.messages
  unfolding account_of
  each_message =
      Each-map (message_record scenario s) OpensMessage (messages_of scenario.sends)
      (each_of_list (λ m. OpensMessage (message_record scenario s m)) (messages_of scenario.sends) (messages_of scenario.sends) (λ x c. c)
      (λ m stands h. record { message = m; stands = stands; unsettled = (open_where scenario journal few read m).0 h }))

  -- a correct node that knows each sign of the account
  told_signs : AllByRecursion (λ sign. (i : ℕ) × IsCorrect scenario s i × HasLoggedFailure scenario s i sign) (signs_told (logs_of scenario s))
  told_signs =
      each_ascending is_sign_before (λ sign. (i : ℕ) × IsCorrect scenario s i × HasLoggedFailure scenario s i sign) (flat_map (λ (l : LogParts). flat_map sign_in l.entries) (running (logs_of scenario s)))
      (Each-flat_map (λ (l : LogParts). flat_map sign_in l.entries) (λ sign. (i : ℕ) × IsCorrect scenario s i × HasLoggedFailure scenario s i sign) (running (logs_of scenario s))
      (along (running (logs_of scenario s)) (each_running scenario s (unread_fits scenario journal))))
    where
      of_entry : (i : ℕ) → IsCorrect scenario s i → (entry : LogEntry) → Contains (log scenario s i) entry
          → AllByRecursion (λ sign. (j : ℕ) × IsCorrect scenario s j × HasLoggedFailure scenario s j sign) (sign_in entry)
      of_entry i c (Deliver slot by msg payload) stands = tt
      of_entry i c (Failed slot node cycle) stands = ((i, c, record { entry = Failed slot node cycle; stands = stands; tells = (refl, refl) }), tt)
      of_entry i c (View slot number members) stands = tt

      along : (logs : List LogParts) → AllByRecursion (IsLogOfCorrect scenario s (unread_fits scenario journal)) logs
          → AllByRecursion (λ (l : LogParts). AllByRecursion (λ sign. (i : ℕ) × IsCorrect scenario s i × HasLoggedFailure scenario s i sign) (flat_map sign_in l.entries)) logs
      along [] h = tt
      along (x ∷ logs) h = (
        subst (λ (l : LogParts). AllByRecursion (λ sign. (i : ℕ) × IsCorrect scenario s i × HasLoggedFailure scenario s i sign) (flat_map sign_in l.entries)) (sym h.0.2)
            (Each-flat_map sign_in (λ sign. (i : ℕ) × IsCorrect scenario s i × HasLoggedFailure scenario s i sign) (log scenario s h.0.0)
            (each_of_list (λ entry. AllByRecursion (λ sign. (i : ℕ) × IsCorrect scenario s i × HasLoggedFailure scenario s i sign) (sign_in entry)) (log scenario s h.0.0) (log scenario s h.0.0) (λ y c. c)
            (of_entry h.0.0 h.0.1))),
        along logs h.1,
      )

  abbrev OpensSign : SignRecord → Type 0
  OpensSign r = sign_fate a r ≡ fate.Open → HasOpenSign scenario s

  each_sign : AllByRecursion OpensSign a.signs
  unfolding account_of
  each_sign =
      Each-map (sign_record s) OpensSign (signs_told (logs_of scenario s))
      (Each-weaker (λ sign. (i : ℕ) × IsCorrect scenario s i × HasLoggedFailure scenario s i sign) (λ sign. OpensSign (sign_record s sign))
      (λ sign known h. record { sign = sign; node = known.0; correct = known.1; knows = known.2; awaited = (sign_open_where scenario journal few read sign).0 h })
      (signs_told (logs_of scenario s)) told_signs)

  open_part : (p : Part) → is_open_judgement (judgement a p) ≡ true → IsOpen scenario s
  unfolding judgement
  open_part part.Integrity h = absurd (false≢true (sym (never_open (is_some (wrong_entry a))) ∙ h))
  open_part (part.Agreement by) h =
      let some = Among-from_map (message_fate a) (λ f. is_open f ≡ true) (filter (λ r. is_service r.service by) a.messages)
      (Among-from_any is_open (fates_of_service a by) (fates_open (fates_of_service a by) h)) in
      let which = Among-which (λ r. (is_open (message_fate a r) ≡ true) × OpensMessage r) (filter (λ r. is_service r.service by) a.messages)
      (Among-with (λ r. is_open (message_fate a r) ≡ true) OpensMessage (filter (λ r. is_service r.service by) a.messages)
      (Each-filter OpensMessage (λ r. is_service r.service by) a.messages each_message) some) in
      inl (which.2.1 (is_open-Open (message_fate a which.0) which.2.0))
  open_part part.Order h = absurd (false≢true (sym (never_open (is_some (parting a))) ∙ h))
  open_part part.Views h = absurd (false≢true (sym (never_open (is_some_of (view_partings a))) ∙ h))
  open_part part.Signs h =
      let some = Among-from_map (sign_fate a) (λ f. is_open f ≡ true) a.signs (Among-from_any is_open (map (sign_fate a) a.signs) (fates_open (map (sign_fate a) a.signs) h)) in
      let which = Among-which (λ r. (is_open (sign_fate a r) ≡ true) × OpensSign r) a.signs
      (Among-with (λ r. is_open (sign_fate a r) ≡ true) OpensSign a.signs each_sign some) in
      inr (which.2.1 (is_open-Open (sign_fate a which.0) which.2.0))
  open_part part.Accuracy h = absurd (false≢true (sym (never_open (is_some_of (accusations a))) ∙ h))

  not_broken_is : KeepsPromise scenario s → (p : Part) → is_broken_judgement (judgement a p) ≡ false
  not_broken_is keeps p = elim (cases_Bool (is_broken_judgement (judgement a p))) [
    | inl broken' ↦ absurd (unbroken keeps p (broken_by (judgement a p) broken'))
    | inr whole ↦ whole
  ]

  opens_part : KeepsPromise scenario s → IsOpen scenario s → (p : Part) × (is_open_judgement (judgement a p) ≡ true)
  unfolding judgement
  opens_part keeps (inl it) =
      let by : Service = it.message.service in
      let opens : list_any is_open (fates_of_service a by) ≡ true =
      service_fate is_open it.message it.stands (ap is_open ((open_where scenario journal few read it.message).1 it.unsettled)) in
      (part.Agreement by, open_fates (fates_of_service a by) opens (not_broken_is keeps (part.Agreement by)))
  opens_part keeps (inr it) =
      let opens : list_any is_open (map (sign_fate a) a.signs) ≡ true =
      any-from_Among is_open (map (sign_fate a) a.signs)
      (Among-map (sign_fate a) (λ f. is_open f ≡ true) a.signs
      (Among-weaker (λ r. r ≡ sign_record s it.sign) (λ r. is_open (sign_fate a r) ≡ true)
      (λ r e. ap (λ x. is_open (sign_fate a x)) e ∙ ap is_open ((sign_open_where scenario journal few read it.sign).1 it.awaited)) a.signs
      (sign_there it.sign (signs_are_told scenario journal few it.sign it.node it.correct it.knows)))) in
      (part.Signs, open_fates (map (sign_fate a) a.signs) opens (not_broken_is keeps part.Signs))

  pub ten_where : (status a ≡ 10) ↔ (KeepsPromise scenario s × IsOpen scenario s)
  ten_where = (
    λ h.
        let both = ten_by broken opened (sym status_is ∙ h) in
        let one = which_part (λ p. is_open_judgement (judgement a p)) both.1 in
        (kept_where both.0, open_part one.0 one.1),
    λ h.
        let one = opens_part h.0 h.1 in
        status_is ∙ ap (λ b. status_by b opened) (broken_where h.0) ∙ ap (λ b. status_by false b) (any_part (λ p. is_open_judgement (judgement a p)) one.0 one.1),
  )
