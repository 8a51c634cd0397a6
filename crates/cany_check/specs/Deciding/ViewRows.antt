-- The views that correct nodes hold, in a table by number.
use Rattle.std.specs.Prelude.{◌≡◌, ℕ, ◌==◌, Bool, not, if◌then◌else◌, List, [], ◌∷◌, filter, find, slice_index_or, Option, Some, None, unwrap_or}
use Rattle.std.specs.List.{flat_map}
use Rattle.cany_base.specs.Nodes.{Nodes}
use Rattle.cany_check.specs.declared.deciders.findings.ViewParting.{ViewParting}
use Rattle.cany_check.specs.Accounts.Account.{LogParts}
use Rattle.cany_check.specs.Deciding.Views.{HeldView, as_parting, same_members, view_in}

-- those of a log
abbrev pub views_in : LogParts → List HeldView
views_in log = flat_map (view_in log.node) log.entries

abbrev pub of_number : ℕ → List HeldView → List HeldView
of_number number views = filter (λ v. v.number == number) views

abbrev pub has_other_members : HeldView → HeldView → Bool
has_other_members v w = not (same_members v.members w.members)

-- of these views of a number the first, and the first that has other members or, where none has,
-- the first again
abbrev pub row_of : List HeldView → Option ViewParting
row_of [] = None
row_of (v ∷ views) = Some (as_parting v (unwrap_or (find (has_other_members v) views) v))

abbrev pub views_differ : ViewParting → Bool
views_differ row = not (same_members row.members row.others)

-- with one more view
abbrev pub with_other : ViewParting → ℕ → Nodes → ViewParting
with_other row node members =
    if views_differ row then row
    else if same_members row.members members then row
    else record { number = row.number; first = row.first; members = row.members; second = node; others = members }

abbrev pub with_view : Option ViewParting → HeldView → Option ViewParting
with_view None v = Some (as_parting v v)
with_view (Some row) v = Some (with_other row v.node v.members)

-- where the views of a row part
abbrev pub row_parting : Option ViewParting → Option ViewParting
row_parting None = None
row_parting (Some row) = if views_differ row then Some row else None

-- at each number the table has the row of the views of that number
pub record HasRows (views : List HeldView) (rows : List (Option ViewParting)) : Type 0 where
  pub each : (number : ℕ) → slice_index_or rows number None ≡ row_of (of_number number views)
