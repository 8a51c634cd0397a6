use Rattle.std.proofs.Common.{◌≡◌, length}
use denote.Text.{Utf8}
use denote.Shadow.{shadow}
use Rattle.cany_base.specs.Nodes.{nobody}
use Rattle.cany_media.specs.MediaWords.{parts, set_with}
use Rattle.cany_media.proofs.fault_words.set_in.Given as goal

-- what is left of the text gives the rest of the set
abbrev pub invariant-loop-word : goal.invariant-loop-word
invariant-loop-word l = shadow (Utf8 l.rest) × (set_with nobody (parts 44 l.text) ≡ set_with l.nodes (parts 44 l.rest))

abbrev pub decreases-loop-word : goal.decreases-loop-word
decreases-loop-word l = length l.rest
