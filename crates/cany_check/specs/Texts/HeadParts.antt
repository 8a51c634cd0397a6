-- The head of a verdict, as the code puts it together.
use Rattle.std.specs.Prelude.{ℕ, List, [], ◌∷◌, Option, Some, None, codes, decimal}
use Rattle.cany_base.specs.declared.message.Service.{Service}
use Rattle.cany_text.specs.TextNames.{service_name}
use Rattle.cany_check.specs.declared.text.counts.FateCounts.{FateCounts}
use Rattle.cany_check.specs.declared.deciders.findings.Part.{Part}
use Rattle.cany_check.specs.declared.deciders.findings.Part.TheVariants.{Integrity, Agreement, Order, Views, Signs, Accuracy}
use Rattle.cany_check.specs.declared.text.head.Count.{Count}
use Rattle.cany_check.specs.Accounts.Account.{AccountParts}
use Rattle.cany_check.specs.Texts.CheckHead.{accuracy_line, agreement_line, integrity_line, order_line, signs_line, views_line}

-- the line of a part of the promise
unfoldable pub part_line : AccountParts → Part → List ℕ
part_line a Integrity = integrity_line a
part_line a (Agreement by) = agreement_line a by
part_line a Order = order_line a
part_line a Views = views_line a
part_line a Signs = signs_line a
part_line a Accuracy = accuracy_line a

abbrev pub count_texts : Count → List (List ℕ)
count_texts count = count.name.now ∷ decimal count.number ∷ []

-- the name of the service, where it is of one
abbrev pub service_texts : Option Service → List (List ℕ)
service_texts None = []
service_texts (Some by) = service_name by ∷ []

abbrev pub fate_count_texts : FateCounts → List (List ℕ)
fate_count_texts counts =
    codes "all" ∷ decimal counts.all ∷ codes "none" ∷ decimal counts.nobody
    ∷ codes "apart" ∷ decimal counts.apart ∷ codes "open" ∷ decimal counts.unsettled ∷ []
