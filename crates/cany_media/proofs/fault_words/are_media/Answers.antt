use Rattle.std.proofs.Common.{◌≡◌, arith, true, codes, length, map, string_bytes, ap, sym, ◌∙◌}
use Rattle.std.specs.Option.{is_some}
use Rattle.std.specs.Str.{bytes_eq}
use Rattle.std.proofs.lemmas.Bool.{eqb-false, eqb-true}
use Rattle.cany_media.specs.MediaWords.{faults_in}
use Rattle.cany_media.proofs.WordFacts.{all_but_first, media_first, no_words, not_false, not_true, other_first}
use Rattle.cany_media.proofs.fault_words.are_media.Goals as goal
use Rattle.cany_media.proofs.fault_words.are_media.Goals.{then-is_empty-via-then-is_empty, then-is_empty-via-else-is_empty+then-ne}

pub returns-then-is_empty : goal.returns-then-is_empty
returns-then-is_empty c = elim c.then-is_empty.branch [
  | then-is_empty-via-then-is_empty w ↦ no_words string_bytes c.args.words.now (eqb-true (length c.args.words.now) 0 (sym c.is_empty.ensures ∙ w.if-is_empty.true))
  | then-is_empty-via-else-is_empty+then-ne w ↦
      other_first string_bytes c.args.words.now w.index-words-0.result w.index-words-0.is
      (ap (λ b. bytes_eq b (codes "media")) (sym w.as_str.ensures.value) ∙ not_true (bytes_eq w.as_str.result.now (codes "media")) (sym w.ne.ensures ∙ w.if-ne.true))
]

pub returns : goal.returns
returns c =
    let some = eqb-false (length c.args.words.now) 0 (sym c.is_empty.ensures ∙ c.if-is_empty.false) in
    let same : bytes_eq (string_bytes c.index-words-0.result) (codes "media") ≡ true =
    ap (λ b. bytes_eq b (codes "media")) (sym c.as_str.ensures.value) ∙ not_false (bytes_eq c.as_str.result.now (codes "media")) (sym c.ne.ensures ∙ c.if-ne.false) in
    c.are_faults.ensures
    ∙ ap (λ ws. is_some (faults_in (map string_bytes ws))) (all_but_first c.args.words.now)
    ∙ sym (ap is_some (media_first string_bytes c.args.words.now c.index-words-0.result c.index-words-0.is (omega arith) same))
