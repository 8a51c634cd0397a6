use Rattle.std.proofs.Common.{◌≡◌, ◌+◌, ◌∷◌, ◌++◌, [], Global, string_bytes, take, ap, sym, ◌∙◌}
use Rattle.std.specs.Option.{is_some}
use Rattle.std.proofs.lemmas.List.{take_more}
use Rattle.cany_media.proofs.WordFacts.{faults_none, no_faults, some_more}
use Rattle.cany_media.proofs.fault_words.are_faults.Goals as goal

pub loop-word-init : goal.loop-word-init
loop-word-init c = ap is_some (no_faults (string_bytes {Z = Global}))

pub returns-then-not-is_fault : goal.returns-then-not-is_fault
returns-then-not-is_fault c =
    faults_none string_bytes c.args.words.now c.loop-word.word-index c.word-item.result c.loop-word-test.true c.word-item.is
    (rw (sym c.as_str.ensures.value) (sym c.is_fault.ensures ∙ c.if-not-is_fault.true))

pub loop-word-preserved : goal.loop-word-preserved
loop-word-preserved c =
    let before = take c.loop-word.word-index c.args.words.now in
    let more : take (c.loop-word.word-index + 1) c.args.words.now ≡ before ++ c.word-item.result ∷ [] =
    take_more c.args.words.now c.loop-word.word-index c.word-item.result c.loop-word-test.true ∙ ap (λ v. before ++ v ∷ []) (sym c.word-item.is) in
    rw more (some_more string_bytes before c.word-item.result c.loop-word.invariant
    (rw (sym c.as_str.ensures.value) (sym c.is_fault.ensures ∙ c.if-not-is_fault.false)))
