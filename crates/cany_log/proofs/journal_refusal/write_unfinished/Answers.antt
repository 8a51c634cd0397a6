use Rattle.std.proofs.Common.{◌≡◌, ℕ, [], ◌∷◌, ◌++◌, Option, Some, None, refl}
use Rattle.std.specs.Prelude.{codes, decimal}
use Rattle.cany_model.specs.declared.follow.FollowFault.TheVariants.{Unfinished}
use Rattle.cany_text.specs.RefusalLines.{journal_refusal_line}
use Rattle.cany_text.specs.ReportLines.{line_of}
use Rattle.cany_log.specs.Fields.{number_if_any}
use Rattle.cany_log.proofs.journal_refusal.write_unfinished.Goals as goal

unfinished_line : (ran : ℕ) (node : Option ℕ)
    → journal_refusal_line (Unfinished ran node) ≡ line_of (codes "refused journal unfinished ran" ∷ decimal ran ∷ number_if_any (codes "node") node ++ [])
unfolding journal_refusal_line
unfinished_line ran None = refl
unfinished_line ran (Some n) = refl

pub returns : goal.returns
returns g c = rw (unfinished_line c.args.ran c.args.node) (rw c.number_of.ensures at c.write_line.ensures)
