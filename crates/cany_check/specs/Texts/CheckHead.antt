-- The head of a verdict: ten lines that stand in every one.
use Rattle.std.specs.Prelude.{ℕ, min, max, List, [], ◌∷◌, count_by, length, map, Option, Bool, true, false, codes, decimal}
use Rattle.cany_base.specs.declared.format.Format.{Format}
use Rattle.cany_base.specs.declared.message.Service.{Service}
use Rattle.cany_base.specs.declared.message.Service.TheVariants.{Ed, Rel, Tot}
use Rattle.cany_base.specs.Layout.{format_number}
use Rattle.cany_model.specs.declared.breaks.Break.{Break}
use Rattle.cany_text.specs.ReportLines.{hypothesis_line, line_of}
use Rattle.cany_text.specs.TextNames.{service_name}
use Rattle.cany_check.specs.declared.deciders.findings.Fate.{Fate}
use Rattle.cany_check.specs.declared.deciders.findings.Fate.TheVariants as fate
use Rattle.cany_check.specs.declared.deciders.findings.Judgement.{Judgement}
use Rattle.cany_check.specs.declared.deciders.findings.Judgement.TheVariants.{Held, Broken, Open}
use Rattle.cany_check.specs.declared.deciders.findings.Part.{Part}
use Rattle.cany_check.specs.declared.deciders.findings.Part.TheVariants.{Integrity, Agreement, Order, Views, Signs, Accuracy}
use Rattle.cany_check.specs.Accounts.Account.{AccountParts}
use Rattle.cany_check.specs.Deciding.Fates.{sign_fate}
use Rattle.cany_check.specs.Deciding.OneOrder.{deliveries}
use Rattle.cany_check.specs.Deciding.Verdict.{fates_of_service, is_apart, is_open, judgement}
use Rattle.cany_check.specs.Deciding.Views.{view_numbers, view_partings}
use Rattle.cany_check.specs.Accounts.Words.{correct}

unfoldable pub judgement_name : Judgement → List ℕ
judgement_name Held = codes "held"
judgement_name Broken = codes "broken"
judgement_name Open = codes "open"

abbrev pub verdict_on : AccountParts → Part → List ℕ
verdict_on a part = judgement_name (judgement a part)

-- ---- what is counted

abbrev pub is_all : Fate → Bool
is_all fate.All = true
is_all fate.Nobody = false
is_all fate.Apart = false
is_all fate.Open = false

abbrev pub is_none_of : Fate → Bool
is_none_of fate.All = false
is_none_of fate.Nobody = true
is_none_of fate.Apart = false
is_none_of fate.Open = false

-- how many there are of each
abbrev pub fate_counts : List Fate → List (List ℕ)
fate_counts fates =
    codes "all" ∷ decimal (count_by is_all fates) ∷ codes "none" ∷ decimal (count_by is_none_of fates)
    ∷ codes "apart" ∷ decimal (count_by is_apart fates) ∷ codes "open" ∷ decimal (count_by is_open fates) ∷ []

-- 0, where there are none
unfoldable pub least : List ℕ → ℕ
least [] = 0
least (n ∷ []) = n
least (n ∷ (m ∷ ns)) = min n (least (m ∷ ns))

unfoldable pub greatest : List ℕ → ℕ
greatest [] = 0
greatest (n ∷ ns) = max n (greatest ns)

-- how many messages the log of each correct node delivers by TOTCAN
abbrev pub delivery_counts : AccountParts → List ℕ
delivery_counts a = map (λ log. length (deliveries log)) (correct a)

-- ---- the lines

-- that the text is a verdict, and in which format the scenario was
unfoldable pub first_line : Format → List ℕ
first_line format = line_of (codes "canely check" ∷ decimal (format_number format) ∷ [])

unfoldable pub integrity_line : AccountParts → List ℕ
integrity_line a = line_of (codes "integrity" ∷ verdict_on a Integrity ∷ [])

-- and how many messages of the service have each fate
unfoldable pub agreement_line : AccountParts → Service → List ℕ
agreement_line a by = line_of (codes "agreement" ∷ service_name by ∷ verdict_on a (Agreement by) ∷ fate_counts (fates_of_service a by))

-- and how many messages correct nodes delivered, at least and at most
unfoldable pub order_line : AccountParts → List ℕ
order_line a = line_of (
    codes "order" ∷ verdict_on a Order ∷ codes "shortest" ∷ decimal (least (delivery_counts a))
    ∷ codes "longest" ∷ decimal (greatest (delivery_counts a)) ∷ [])

-- and of how many numbers a correct node holds a view, and how many of them are apart
unfoldable pub views_line : AccountParts → List ℕ
views_line a = line_of (
    codes "views" ∷ verdict_on a Views ∷ codes "numbers" ∷ decimal (length (view_numbers a))
    ∷ codes "apart" ∷ decimal (length (view_partings a)) ∷ [])

-- and how many signs have each fate
unfoldable pub signs_line : AccountParts → List ℕ
signs_line a = line_of (codes "signs" ∷ verdict_on a Signs ∷ fate_counts (map (sign_fate a) a.signs))

unfoldable pub accuracy_line : AccountParts → List ℕ
accuracy_line a = line_of (codes "accuracy" ∷ verdict_on a Accuracy ∷ [])

unfoldable pub head_lines : AccountParts → Option Break → List (List ℕ)
head_lines a found =
    first_line a.params.format ∷ hypothesis_line found ∷ integrity_line a
    ∷ agreement_line a Ed ∷ agreement_line a Rel ∷ agreement_line a Tot
    ∷ order_line a ∷ views_line a ∷ signs_line a ∷ accuracy_line a ∷ []
