use Rattle.std.proofs.Common.{Global, length, map, string_bytes, ap, sym, ◌∙◌}
use Rattle.std.specs.Option.{is_some}
use Rattle.std.proofs.lemmas.Bool.{eqb-true, false≢true}
use Rattle.std.proofs.lemmas.Result.{IfOk-weaker}
use Rattle.cany_media.specs.MediaWords.{faults_in}
use Rattle.cany_media.proofs.WordFacts.{all_but_first, media_rest, no_words}
use Rattle.cany_media.proofs.fault_words.media_faults.Goals as goal

pub returns-then-is_empty : goal.returns-then-is_empty
returns-then-is_empty c =
    absurd (false≢true (no_words (string_bytes {Z = Global}) c.args.words.now (eqb-true (length c.args.words.now) 0 (sym c.is_empty.ensures ∙ c.if-is_empty.true)) ∙ c.requires))

pub faults_in-requires : goal.faults_in-requires
faults_in-requires c =
    ap (λ ws. is_some (faults_in (map (string_bytes {Z = Global}) ws))) (all_but_first c.args.words.now)
    ∙ sym (ap is_some (media_rest (string_bytes {Z = Global}) c.args.words.now c.requires)) ∙ c.requires

pub returns : goal.returns
returns c =
    IfOk-weaker c.faults_in.result _ _ (λ faults is.
    media_rest (string_bytes {Z = Global}) c.args.words.now c.requires
    ∙ sym (ap (λ ws. faults_in (map (string_bytes {Z = Global}) ws)) (all_but_first c.args.words.now)) ∙ is) c.faults_in.ensures
