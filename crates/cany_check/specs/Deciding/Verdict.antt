-- What is judged of each part of the promise, and the status.
use Rattle.std.specs.Prelude.{ℕ, Bool, true, false, is_some, if◌then◌else◌, List, [], ◌∷◌, filter, map}
use Rattle.std.specs.List.{list_any}
use Rattle.cany_base.specs.declared.message.Service.{Service}
use Rattle.cany_base.specs.declared.message.Service.TheVariants as service
use Rattle.cany_model.specs.Rules.Messages.{is_service}
use Rattle.cany_check.specs.declared.deciders.findings.Fate.{Fate}
use Rattle.cany_check.specs.declared.deciders.findings.Fate.TheVariants as fate
use Rattle.cany_check.specs.declared.deciders.findings.Judgement.{Judgement}
use Rattle.cany_check.specs.declared.deciders.findings.Judgement.TheVariants.{Held, Broken, Open}
use Rattle.cany_check.specs.declared.deciders.findings.Part.{Part}
use Rattle.cany_check.specs.declared.deciders.findings.Part.TheVariants.{Integrity, Agreement, Order, Views, Signs, Accuracy}
use Rattle.cany_check.specs.Accounts.Account.{AccountParts}
use Rattle.cany_check.specs.Deciding.Accuracy.{accusations}
use Rattle.cany_check.specs.Deciding.Fates.{message_fate, sign_fate}
use Rattle.cany_check.specs.Deciding.Integrity.{wrong_entry}
use Rattle.cany_check.specs.Deciding.OneOrder.{parting}
use Rattle.cany_check.specs.Deciding.Views.{view_partings}

abbrev pub is_apart : Fate → Bool
is_apart fate.All = false
is_apart fate.Nobody = false
is_apart fate.Apart = true
is_apart fate.Open = false

abbrev pub is_open : Fate → Bool
is_open fate.All = false
is_open fate.Nobody = false
is_open fate.Apart = false
is_open fate.Open = true

-- broken where one is apart, else open where one is open
abbrev pub of_fates : List Fate → Judgement
of_fates fates = if list_any is_apart fates then Broken else if list_any is_open fates then Open else Held

abbrev pub broken_if : Bool → Judgement
broken_if broken = if broken then Broken else Held

-- whether the list has an element
abbrev pub is_some_of : {X : Type 0} → List X → Bool
is_some_of [] = false
is_some_of (x ∷ xs) = true

-- the fates of the messages of a service
abbrev pub fates_of_service : AccountParts → Service → List Fate
fates_of_service a by = map (message_fate a) (filter (λ m. is_service m.service by) a.messages)

unfoldable pub judgement : AccountParts → Part → Judgement
judgement a Integrity = broken_if (is_some (wrong_entry a))
judgement a (Agreement by) = of_fates (fates_of_service a by)
judgement a Order = broken_if (is_some (parting a))
judgement a Views = broken_if (is_some_of (view_partings a))
judgement a Signs = of_fates (map (sign_fate a) a.signs)
judgement a Accuracy = broken_if (is_some_of (accusations a))

abbrev pub parts : List Part
parts = Integrity ∷ Agreement service.Ed ∷ Agreement service.Rel ∷ Agreement service.Tot ∷ Order ∷ Views ∷ Signs ∷ Accuracy ∷ []

abbrev pub is_broken_judgement : Judgement → Bool
is_broken_judgement Held = false
is_broken_judgement Broken = true
is_broken_judgement Open = false

abbrev pub is_open_judgement : Judgement → Bool
is_open_judgement Held = false
is_open_judgement Broken = false
is_open_judgement Open = true

-- 9 where a part is broken, else 10 where one is open, else 0
unfoldable pub status : AccountParts → ℕ
status a =
    if list_any (λ part. is_broken_judgement (judgement a part)) parts then 9
    else if list_any (λ part. is_open_judgement (judgement a part)) parts then 10
    else 0
