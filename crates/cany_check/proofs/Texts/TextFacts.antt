-- The text of a verdict, part by part.
use Rattle.std.proofs.Common.{◌≡◌, List, [], ◌∷◌, ◌++◌, map, Option, Some, None, ◌∙◌, ap, append_assoc, append-nil}
use Rattle.std.specs.Prelude.{ℕ, codes, option_to_list, MatchOption}
use Rattle.std.specs.List.{concat}
use Rattle.std.proofs.lemmas.List.Folds.{concat-append}
use Rattle.cany_model.specs.declared.breaks.Break.{Break}
use Rattle.cany_text.specs.ReportLines.{line_of}
use Rattle.cany_check.specs.declared.deciders.findings.Accusation.{Accusation}
use Rattle.cany_check.specs.declared.deciders.findings.EntryAt.{EntryAt}
use Rattle.cany_check.specs.declared.deciders.findings.Parting.{Parting}
use Rattle.cany_check.specs.declared.deciders.findings.ViewParting.{ViewParting}
use Rattle.cany_check.specs.declared.unused_entries.unused_entry.Unused.{Unused}
use Rattle.cany_check.specs.Accounts.Account.{AccountParts}
use Rattle.cany_check.specs.Deciding.Accuracy.{accusations}
use Rattle.cany_check.specs.Texts.CheckHead.{head_lines}
use Rattle.cany_check.specs.Texts.CheckLines.{accused_line, entry_line, parted_line, unused_line, view_line}
use Rattle.cany_check.specs.Texts.CheckText.{message_lines, sign_lines, verdict_lines, verdict_text}
use Rattle.cany_check.specs.Deciding.Integrity.{wrong_entry}
use Rattle.cany_check.specs.Deciding.OneOrder.{parting}
use Rattle.cany_check.specs.Texts.TextParts.{delivery_lines, ending_lines, membership_lines}
use Rattle.cany_check.specs.Deciding.Views.{view_partings}

three : (xs ys zs : List (List ℕ)) → concat (xs ++ (ys ++ zs)) ≡ concat xs ++ (concat ys ++ concat zs)
three xs ys zs = concat-append xs (ys ++ zs) ∙ ap (λ l. concat xs ++ l) (concat-append ys zs)

three_in_turn : (xs ys zs : List (List ℕ)) → concat ((xs ++ ys) ++ zs) ≡ concat xs ++ (concat ys ++ concat zs)
three_in_turn xs ys zs = ap concat (append_assoc xs ys zs) ∙ three xs ys zs

-- the slice of a choice has what there is
pub listed : {X : Type 0} (o all : Option X) (xs : List X) → o ≡ all → MatchOption o (xs ≡ []) (λ x. xs ≡ x ∷ []) → xs ≡ option_to_list all
listed {X = X} o all xs is slice = by_case o slice ∙ ap option_to_list is
  where
    by_case : (o : Option X) → MatchOption o (xs ≡ []) (λ x. xs ≡ x ∷ []) → xs ≡ option_to_list o
    by_case None h = h
    by_case (Some x) h = h

pub delivery-is : (a : AccountParts) (wrong : List EntryAt) (parted : List Parting) → wrong ≡ option_to_list (wrong_entry a) → parted ≡ option_to_list (parting a)
    → concat (delivery_lines a) ≡ concat (map entry_line wrong) ++ (concat (message_lines a) ++ concat (map parted_line parted))
unfolding delivery_lines
delivery-is a wrong parted w p =
    rw (w, p) (three_in_turn (map entry_line (option_to_list (wrong_entry a))) (message_lines a) (map parted_line (option_to_list (parting a))))

pub membership-is : (a : AccountParts) (views : List ViewParting) (accused : List Accusation) → views ≡ view_partings a → accused ≡ accusations a
    → concat (membership_lines a) ≡ concat (map view_line views) ++ (concat (sign_lines a) ++ concat (map accused_line accused))
unfolding membership_lines
membership-is a views accused v x = rw (v, x) (three_in_turn (map view_line (view_partings a)) (sign_lines a) (map accused_line (accusations a)))

pub ending-is : (idle : List Unused) → concat (ending_lines idle) ≡ concat (map unused_line idle) ++ line_of (codes "end" ∷ [])
unfolding ending_lines
ending-is idle = concat-append (map unused_line idle) (line_of (codes "end" ∷ []) ∷ []) ∙ ap (λ l. concat (map unused_line idle) ++ l) (append-nil (line_of (codes "end" ∷ [])))

-- ---- the text

lines-are : (a : AccountParts) (found : Option Break) (idle : List Unused)
    → verdict_lines a found idle ≡ head_lines a found ++ (delivery_lines a ++ (membership_lines a ++ ending_lines idle))
unfolding verdict_lines delivery_lines membership_lines ending_lines
lines-are a found idle = simp append_assoc

pub text-is : (a : AccountParts) (found : Option Break) (idle : List Unused) → verdict_text a found idle
    ≡ concat (head_lines a found) ++ (concat (delivery_lines a) ++ (concat (membership_lines a) ++ concat (ending_lines idle)))
unfolding verdict_text
text-is a found idle =
    ap concat (lines-are a found idle)
    ∙ concat-append (head_lines a found) (delivery_lines a ++ (membership_lines a ++ ending_lines idle))
    ∙ ap (λ l. concat (head_lines a found) ++ l) (three (delivery_lines a) (membership_lines a) (ending_lines idle))
