use Rattle.std.proofs.Common.{◌≡◌, map, string_bytes, take, true}
use Rattle.std.specs.Option.{is_some}
use Rattle.cany_media.specs.MediaWords.{faults_in}
use Rattle.cany_media.proofs.fault_words.are_faults.Given as goal

-- those so far do
abbrev pub invariant-loop-word : goal.invariant-loop-word
invariant-loop-word l = is_some (faults_in (map string_bytes (take l.word-index l.words))) ≡ true
