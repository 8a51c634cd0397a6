-- What is judged of findings, and how fates are judged one after another.
use Rattle.std.specs.Prelude.{◌||◌, Bool, not, is_some, if◌then◌else◌, List, [], ◌∷◌, map}
use Rattle.cany_base.specs.declared.message.Service.{Service}
use Rattle.cany_base.specs.declared.message.Service.TheVariants as service
use Rattle.cany_model.specs.Rules.Messages.{is_service}
use Rattle.cany_check.specs.declared.deciders.findings.Fate.{Fate}
use Rattle.cany_check.specs.declared.deciders.findings.Judgement.{Judgement}
use Rattle.cany_check.specs.declared.deciders.findings.Judgement.TheVariants.{Held, Broken, Open}
use Rattle.cany_check.specs.declared.deciders.findings.Part.{Part}
use Rattle.cany_check.specs.declared.deciders.findings.Part.TheVariants.{Integrity, Agreement, Order, Views, Signs, Accuracy}
use Rattle.cany_check.specs.declared.deciders.findings.Told.{Told}
use Rattle.cany_check.specs.declared.account.record.MessageRecord.{MessageRecord}
use Rattle.cany_check.specs.Deciding.Findings.{FoundParts}
use Rattle.cany_check.specs.Deciding.Verdict.{broken_if, is_apart, is_broken_judgement, is_open, is_open_judgement, is_some_of, of_fates}

-- what is judged of a part, by what is found
abbrev pub judged : FoundParts → Part → Judgement
judged found Integrity = broken_if (is_some found.wrong)
judged found (Agreement service.Ed) = found.ed
judged found (Agreement service.Rel) = found.rel
judged found (Agreement service.Tot) = found.tot
judged found Order = broken_if (is_some found.parting)
judged found Views = broken_if (is_some_of found.views)
judged found Signs = of_fates (map (λ t. t.fate) found.signs)
judged found Accuracy = broken_if (is_some_of found.accusations)

-- what is judged of some fates, with one more
abbrev pub with_fate : Judgement → Fate → Judgement
with_fate so_far fate =
    if is_apart fate || is_broken_judgement so_far then Broken
    else if is_open fate || is_open_judgement so_far then Open
    else Held

-- the fates of those of some messages that are of a service, where this is told of each message
abbrev pub fates_by : Service → List MessageRecord → List Told → List Fate
fates_by by [] told = []
fates_by by (m ∷ messages) [] = []
fates_by by (m ∷ messages) (t ∷ told) = if is_service m.service by then t.fate ∷ fates_by by messages told else fates_by by messages told

-- whether a judgement is this one
abbrev pub is_judgement : Judgement → Judgement → Bool
is_judgement Held found = not (is_broken_judgement found || is_open_judgement found)
is_judgement Broken found = is_broken_judgement found
is_judgement Open found = is_open_judgement found
