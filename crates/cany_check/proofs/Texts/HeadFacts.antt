-- The head of a verdict, line by line.
use Rattle.std.proofs.Common.{◌≡◌, ℕ, [], ◌∷◌, ◌++◌, length, map, Option, refl}
use Rattle.std.specs.Prelude.{codes, decimal}
use Rattle.std.specs.List.{concat}
use Rattle.cany_base.specs.declared.format.Format.{Format}
use Rattle.cany_base.specs.declared.message.Service.{Service}
use Rattle.cany_model.specs.declared.breaks.Break.{Break}
use Rattle.cany_text.specs.ReportLines.{hypothesis_line, line_of}
use Rattle.cany_text.specs.TextNames.{service_name}
use Rattle.cany_check.specs.declared.text.counts.FateCounts.{FateCounts}
use Rattle.cany_check.specs.declared.text.counts.Lengths.{Lengths}
use Rattle.cany_check.specs.declared.deciders.findings.Judgement.{Judgement}
use Rattle.cany_check.specs.declared.deciders.findings.Part.{Part}
use Rattle.cany_check.specs.declared.deciders.findings.Part.TheVariants.{Integrity, Agreement, Order, Views, Signs, Accuracy}
use Rattle.cany_check.specs.Accounts.Account.{AccountParts}
use Rattle.cany_check.specs.Texts.CheckHead.{accuracy_line, agreement_line, first_line, head_lines, integrity_line, judgement_name, order_line, signs_line, views_line}
use Rattle.cany_check.specs.Texts.Counts.{counts_of, lengths_of, running_counts}
use Rattle.cany_check.specs.Deciding.Fates.{sign_fate}
use Rattle.cany_check.specs.Texts.HeadParts.{fate_count_texts, part_line}
use Rattle.cany_check.specs.Deciding.Verdict.{fates_of_service, judgement, parts}
use Rattle.cany_check.specs.Deciding.Views.{view_numbers, view_partings}

-- ---- the lines of the parts, by what is judged and counted of each

module _ (a : AccountParts) (judged : Judgement) (part : Part) (is : judged ≡ judgement a part) where
  pub integrity-put : part ≡ Integrity → part_line a part ≡ line_of (codes "integrity" ∷ judgement_name judged ∷ [])
  unfolding part_line integrity_line
  integrity-put of = rw (is, of) refl

  pub agreement-put : (by : Service) (counts : FateCounts) → part ≡ Agreement by → counts ≡ counts_of (fates_of_service a by)
      → part_line a part ≡ line_of (codes "agreement" ∷ service_name by ∷ judgement_name judged ∷ fate_count_texts counts)
  unfolding part_line agreement_line
  agreement-put by counts of counted = rw (is, of, counted) refl

  pub order-put : (lengths : Lengths) → part ≡ Order → lengths ≡ lengths_of (running_counts a.logs)
      → part_line a part ≡ line_of (codes "order" ∷ judgement_name judged ∷ codes "shortest" ∷ decimal lengths.shortest ∷ codes "longest" ∷ decimal lengths.longest ∷ [])
  unfolding part_line order_line
  order-put lengths of counted = rw (is, of, counted) refl

  pub views-put : (numbers apart : ℕ) → part ≡ Views → numbers ≡ length (view_numbers a) → apart ≡ length (view_partings a)
      → part_line a part ≡ line_of (codes "views" ∷ judgement_name judged ∷ codes "numbers" ∷ decimal numbers ∷ codes "apart" ∷ decimal apart ∷ [])
  unfolding part_line views_line
  views-put numbers apart of n p = rw (is, of, n, p) refl

  pub signs-put : (counts : FateCounts) → part ≡ Signs → counts ≡ counts_of (map (sign_fate a) a.signs)
      → part_line a part ≡ line_of (codes "signs" ∷ judgement_name judged ∷ fate_count_texts counts)
  unfolding part_line signs_line
  signs-put counts of counted = rw (is, of, counted) refl

  pub accuracy-put : part ≡ Accuracy → part_line a part ≡ line_of (codes "accuracy" ∷ judgement_name judged ∷ [])
  unfolding part_line accuracy_line
  accuracy-put of = rw (is, of) refl

-- ---- the head

pub head-is : (a : AccountParts) (found : Option Break) (format : Format) → format ≡ a.params.format
    → concat (head_lines a found) ≡ first_line format ++ (hypothesis_line found ++ concat (map (part_line a) parts))
unfolding head_lines part_line
head-is a found format is = rw is refl
