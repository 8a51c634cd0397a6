use Rattle.std.proofs.Common.{◌≡◌, length}
use Rattle.toml.specs.View.{items_view}
use Rattle.cany_scenario.specs.Arrays.{after}
use Rattle.cany_scenario.specs.JournalParts.{texts_in_order}
use Rattle.cany_scenario.proofs.JournalFacts.{texts_at}
use Rattle.cany_scenario.proofs.journal.read_texts.Given as goal

-- the steps so far, and those of the texts that are left
abbrev pub invariant-loop-value : goal.invariant-loop-value
invariant-loop-value l =
    texts_in_order l.format l.at 0 (items_view l.texts) ≡ after l.steps.items (texts_at l.format l.at (length l.steps.items) l.texts l.value-index)
