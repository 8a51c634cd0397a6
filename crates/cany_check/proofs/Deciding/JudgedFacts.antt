-- Fates that are judged one after another come to what is judged of all.
use Rattle.std.proofs.Common.{◌≡◌, ℕ, ◌+◌, ◌<◌, ◌==◌, ◌||◌, Bool, true, false, not, List, [], ◌∷◌, map, drop, length, refl, ap, sym, ◌∙◌, arith, inl, inr, get_or}
use Rattle.std.specs.Prelude.{filter, is_some, if◌then◌else◌, Option}
use Rattle.std.specs.List.{fold, list_any}
use Rattle.std.proofs.lemmas.Bool.{cases_Bool, ne_eqb}
use Rattle.std.proofs.lemmas.List.{drop_more}
use Rattle.cany_base.specs.declared.message.Service.{Service}
use Rattle.cany_base.specs.declared.message.Service.TheVariants as service
use Rattle.cany_model.specs.Rules.Messages.{is_service}
use Rattle.cany_check.specs.declared.deciders.findings.Fate.{Fate}
use Rattle.cany_check.specs.declared.deciders.findings.Fate.TheVariants as fate
use Rattle.cany_check.specs.declared.deciders.findings.Judgement.{Judgement}
use Rattle.cany_check.specs.declared.deciders.findings.Judgement.TheVariants.{Held, Broken, Open}
use Rattle.cany_check.specs.declared.deciders.findings.Accusation.{Accusation}
use Rattle.cany_check.specs.declared.deciders.findings.EntryAt.{EntryAt}
use Rattle.cany_check.specs.declared.deciders.findings.Part.{Part}
use Rattle.cany_check.specs.declared.deciders.findings.Part.TheVariants.{Integrity, Agreement, Order, Views, Signs, Accuracy}
use Rattle.cany_check.specs.declared.deciders.findings.Parting.{Parting}
use Rattle.cany_check.specs.declared.deciders.findings.Told.{Told}
use Rattle.cany_check.specs.declared.deciders.findings.ViewParting.{ViewParting}
use Rattle.cany_check.specs.declared.account.record.MessageRecord.{MessageRecord}
use Rattle.cany_check.specs.declared.account.record.SignRecord.{SignRecord}
use Rattle.cany_check.specs.Accounts.Account.{AccountParts}
use Rattle.cany_check.specs.Deciding.Fates.{message_fate, message_told, sign_fate, sign_told}
use Rattle.cany_check.specs.Deciding.Findings.{AreFindings, FoundParts}
use Rattle.cany_check.specs.Deciding.Judged.{fates_by, judged, with_fate}
use Rattle.cany_check.specs.Deciding.Verdict.{broken_if, is_apart, is_broken_judgement, is_open, is_open_judgement, is_some_of, judgement, of_fates, parts, status}

-- ---- one after another

after : (so_far : Judgement) (fates : List Fate) → fold with_fate so_far fates
    ≡ (if is_broken_judgement so_far || list_any is_apart fates then Broken else if is_open_judgement so_far || list_any is_open fates then Open else Held)
after Held [] = refl
after Broken [] = refl
after Open [] = refl
after Held (fate.All ∷ fates) = after Held fates
after Held (fate.Nobody ∷ fates) = after Held fates
after Held (fate.Apart ∷ fates) = after Broken fates
after Held (fate.Open ∷ fates) = after Open fates
after Broken (fate.All ∷ fates) = after Broken fates
after Broken (fate.Nobody ∷ fates) = after Broken fates
after Broken (fate.Apart ∷ fates) = after Broken fates
after Broken (fate.Open ∷ fates) = after Broken fates
after Open (fate.All ∷ fates) = after Open fates
after Open (fate.Nobody ∷ fates) = after Open fates
after Open (fate.Apart ∷ fates) = after Broken fates
after Open (fate.Open ∷ fates) = after Open fates

pub judged_of_all : (fates : List Fate) → fold with_fate Held fates ≡ of_fates fates
judged_of_all fates = after Held fates

-- ---- of a service

-- one more message, with what is told of it
module _ (by : Service) (so_far : Judgement) (messages : List MessageRecord) (told : List Told) (i : ℕ) (d : MessageRecord) (e : Told) (here : i < length messages) (there : i < length told) where
  abbrev m : MessageRecord
  m = get_or messages i d

  abbrev t : Told
  t = get_or told i e

  by_first : fold with_fate (if is_service m.service by then with_fate so_far t.fate else so_far) (fates_by by (drop (i + 1) messages) (drop (i + 1) told))
      ≡ fold with_fate so_far (fates_by by (m ∷ drop (i + 1) messages) (t ∷ drop (i + 1) told))
  by_first = elim (cases_Bool (is_service m.service by)) [ inl of_it ↦ rw of_it refl | inr other ↦ rw other refl ]

  pub fates_of_rest : fold with_fate (if is_service m.service by then with_fate so_far t.fate else so_far) (fates_by by (drop (i + 1) messages) (drop (i + 1) told))
      ≡ fold with_fate so_far (fates_by by (drop i messages) (drop i told))
  fates_of_rest =
      by_first ∙ ap (fold with_fate so_far) (sym (ap (λ l. fates_by by l (drop i told)) (drop_more messages i d here) ∙ ap (fates_by by (m ∷ drop (i + 1) messages)) (drop_more told i e there)))

pub fates_told : (by : Service) (a : AccountParts) (messages : List MessageRecord) → fates_by by messages (map (message_told a) messages)
    ≡ map (message_fate a) (filter (λ m. is_service m.service by) messages)
fates_told by a [] = refl
fates_told by a (m ∷ messages) = elim (cases_Bool (is_service m.service by)) [
  | inl of_it ↦ rw of_it (ap (λ l. message_fate a m ∷ l) (fates_told by a messages))
  | inr other ↦ rw other (fates_told by a messages)
]

-- ---- of a list

pub some_of : {X : Type 0} (xs : List X) → not (length xs == 0) ≡ is_some_of xs
some_of [] = refl
some_of (x ∷ xs) = ap not (ne_eqb (length (x ∷ xs)) 0 (λ e. omega (arith, e)))

pub sign_fates_told : (a : AccountParts) → map (λ (t : Told). t.fate) (map (sign_told a) a.signs) ≡ map (sign_fate a) a.signs
sign_fates_told a = along a.signs
  where
    along : (signs : List SignRecord) → map (λ (t : Told). t.fate) (map (sign_told a) signs) ≡ map (sign_fate a) signs
    along [] = refl
    along (x ∷ signs) = ap (λ l. sign_fate a x ∷ l) (along signs)

-- ---- the findings of an account

module _ (a : AccountParts) (found : FoundParts) (are : AreFindings a found) where
  pub judged_is : (part : Part) → judged found part ≡ judgement a part
  unfolding judgement
  judged_is Integrity = ap (λ (o : Option EntryAt). broken_if (is_some o)) are.wrong
  judged_is (Agreement service.Ed) = are.ed
  judged_is (Agreement service.Rel) = are.rel
  judged_is (Agreement service.Tot) = are.tot
  judged_is Order = ap (λ (o : Option Parting). broken_if (is_some o)) are.parting
  judged_is Views = ap (λ (l : List ViewParting). broken_if (is_some_of l)) are.views
  judged_is Signs = ap (λ (l : List Told). of_fates (map (λ (t : Told). t.fate) l)) are.signs ∙ ap of_fates (sign_fates_told a)
  judged_is Accuracy = ap (λ (l : List Accusation). broken_if (is_some_of l)) are.accusations

  any_is : (test : Judgement → Bool) (some : List Part) → list_any (λ part. test (judged found part)) some ≡ list_any (λ part. test (judgement a part)) some
  any_is test [] = refl
  any_is test (part ∷ some) = ap (λ j. test j || list_any (λ p. test (judged found p)) some) (judged_is part) ∙ ap (λ b. test (judgement a part) || b) (any_is test some)

  pub nine : list_any (λ part. is_broken_judgement (judged found part)) parts ≡ true → status a ≡ 9
  unfolding status
  nine broken = rw (sym (any_is is_broken_judgement parts) ∙ broken) refl

  pub ten : list_any (λ part. is_broken_judgement (judged found part)) parts ≡ false → list_any (λ part. is_open_judgement (judged found part)) parts ≡ true → status a ≡ 10
  unfolding status
  ten whole unsettled = rw (sym (any_is is_broken_judgement parts) ∙ whole, sym (any_is is_open_judgement parts) ∙ unsettled) refl

  pub nought : list_any (λ part. is_broken_judgement (judged found part)) parts ≡ false → list_any (λ part. is_open_judgement (judged found part)) parts ≡ false → status a ≡ 0
  unfolding status
  nought whole settled = rw (sym (any_is is_broken_judgement parts) ∙ whole, sym (any_is is_open_judgement parts) ∙ settled) refl
