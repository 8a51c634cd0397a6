use Rattle.cany_media.proofs.WordFacts.{cut_parts, cut_shorter}
use Rattle.cany_media.proofs.fault_words.cut.Goals as goal

pub returns : goal.returns
returns c = record {
  parts = cut_parts c.args.mark c.args.text.now c.split_once.result c.split_once.ensures.cases c.requires;
  shorter = cut_shorter c.args.mark c.args.text.now c.split_once.result c.split_once.ensures.cases c.requires;
}
