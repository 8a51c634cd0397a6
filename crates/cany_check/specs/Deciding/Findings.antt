-- What is found of an account: the answers of all that decide on it.
use Rattle.std.specs.Prelude.{◌≡◌, ℕ, List, Option, length}
use Rattle.cany_base.specs.declared.message.Service.TheVariants as service
use Rattle.cany_check.specs.declared.deciders.findings.Accusation.{Accusation}
use Rattle.cany_check.specs.declared.deciders.findings.EntryAt.{EntryAt}
use Rattle.cany_check.specs.declared.deciders.findings.Judgement.{Judgement}
use Rattle.cany_check.specs.declared.deciders.findings.Part.TheVariants.{Agreement}
use Rattle.cany_check.specs.declared.deciders.findings.Parting.{Parting}
use Rattle.cany_check.specs.declared.deciders.findings.Told.{Told}
use Rattle.cany_check.specs.declared.deciders.findings.ViewParting.{ViewParting}
use Rattle.cany_check.specs.Accounts.Account.{AccountParts}
use Rattle.cany_check.specs.Deciding.Accuracy.{accusations}
use Rattle.cany_check.specs.Deciding.Fates.{message_fates, sign_fates}
use Rattle.cany_check.specs.Deciding.Integrity.{wrong_entry}
use Rattle.cany_check.specs.Deciding.OneOrder.{parting}
use Rattle.cany_check.specs.Deciding.Verdict.{judgement}
use Rattle.cany_check.specs.Deciding.Views.{view_numbers, view_partings}

-- what a contract sees of findings
pub record FoundParts : Type 0 where
  pub wrong : Option EntryAt
  -- one for each message, and one for each sign
  pub messages : List Told
  pub signs : List Told
  pub parting : Option Parting
  -- how many numbers there is a view of
  pub numbers : ℕ
  pub views : List ViewParting
  pub accusations : List Accusation
  -- what is judged of the messages of each service
  pub ed : Judgement
  pub rel : Judgement
  pub tot : Judgement

-- they are those of this account
pub record AreFindings (a : AccountParts) (found : FoundParts) : Type 0 where
  pub wrong : found.wrong ≡ wrong_entry a
  pub messages : found.messages ≡ message_fates a
  pub signs : found.signs ≡ sign_fates a
  pub parting : found.parting ≡ parting a
  pub numbers : found.numbers ≡ length (view_numbers a)
  pub views : found.views ≡ view_partings a
  pub accusations : found.accusations ≡ accusations a
  pub ed : found.ed ≡ judgement a (Agreement service.Ed)
  pub rel : found.rel ≡ judgement a (Agreement service.Rel)
  pub tot : found.tot ≡ judgement a (Agreement service.Tot)
