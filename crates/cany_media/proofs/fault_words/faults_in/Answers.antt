use Rattle.std.proofs.Common.{◌≡◌, ◌+◌, ◌∷◌, ◌++◌, [], Global, Some, map, string_bytes, take, ap, sym, ◌∙◌}
use Rattle.std.proofs.lemmas.List.{take_all, take_more}
use Rattle.cany_media.specs.MediaWords.{fault_in, faults_in}
use Rattle.cany_media.proofs.WordFacts.{faults_more, no_faults, some_at}
use Rattle.cany_media.proofs.fault_words.faults_in.Goals as goal

pub loop-word-init : goal.loop-word-init
loop-word-init c = no_faults (string_bytes {Z = Global}) ∙ ap (λ fs. Some fs) (sym c.new-faults.ensures.items)

pub unreachable-requires : goal.unreachable-requires
unreachable-requires c =
    some_at (string_bytes {Z = Global}) c.args.words.now c.loop-word.word-index c.word-item.result c.loop-word-test.true c.word-item.is c.requires
    (ap fault_in (sym c.as_str.ensures.value) ∙ sym c.fault_in.ensures ∙ c.in_default.is)

pub loop-word-preserved : goal.loop-word-preserved
loop-word-preserved c =
    let before = take c.loop-word.word-index c.args.words.now in
    let more : take (c.loop-word.word-index + 1) c.args.words.now ≡ before ++ c.word-item.result ∷ [] =
    take_more c.args.words.now c.loop-word.word-index c.word-item.result c.loop-word-test.true ∙ ap (λ v. before ++ v ∷ []) (sym c.word-item.is) in
    rw (more, c.in_ok-push.ensures.items)
    (faults_more (string_bytes {Z = Global}) before (Some c.in-Some.fault) c.loop-word.faults.items c.word-item.result c.loop-word.invariant
    (sym c.in-Some.is ∙ c.fault_in.ensures ∙ ap fault_in c.as_str.ensures.value))

pub returns : goal.returns
returns c =
    ap (λ ws. faults_in (map (string_bytes {Z = Global}) ws)) (sym (take_all c.loop-word.word-index c.args.words.now c.loop-word-test.false)) ∙ c.loop-word.invariant
