use Rattle.std.proofs.Common.{◌≡◌, Some, map, string_bytes, take}
use Rattle.cany_media.specs.MediaWords.{faults_in}
use Rattle.cany_media.proofs.fault_words.faults_in.Given as goal

-- the faults of the words so far
abbrev pub invariant-loop-word : goal.invariant-loop-word
invariant-loop-word l = faults_in (map string_bytes (take l.word-index l.words)) ≡ Some l.faults.items
