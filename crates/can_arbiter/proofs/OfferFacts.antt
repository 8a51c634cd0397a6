-- Rows of no offers.
use Rattle.std.proofs.Common.{◌≡◌, ℕ, None, slice_index_or, inl, inr, sym, ◌∙◌}
use Rattle.std.specs.Prelude.{Option, replicate}
use Rattle.std.proofs.lemmas.List.{get_or-replicate, get_or_past}
use Rattle.std.proofs.lemmas.Bool.{cases_lt}
use Rattle.std.proofs.lemmas.Option.{none-some}
use Rattle.cany_base.specs.Frame.{FrameParts}
use Rattle.cany_base.specs.Limits.{most_nodes}
use Rattle.cany_base.specs.declared.format.Format.{Format}
use Rattle.can_arbiter.specs.Offers.{AllFit}

pub no_offer : (node : ℕ) → slice_index_or (replicate {A = Option FrameParts} most_nodes None) node None ≡ None
no_offer node = elim (cases_lt node most_nodes) [
  | inl inside ↦ get_or-replicate {A = Option FrameParts} most_nodes node None None inside
  | inr past ↦ get_or_past {X = Option FrameParts} (replicate most_nodes None) node None past
]

-- a table of no offers fits every format
pub all_fit : (format : Format) → AllFit format (replicate {A = Option FrameParts} most_nodes None)
all_fit format node f h = absurd (none-some f (sym (no_offer node) ∙ h))
