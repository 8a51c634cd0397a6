use Rattle.std.proofs.Common.{decimal}
use Rattle.cany_media.proofs.TextFacts.{numbered}
use Rattle.cany_media.proofs.refusal.numbered.Goals as goal

pub returns : goal.returns
returns c =
    rw (c.put-4.ensures, c.put-3.ensures, c.put-2.ensures, c.put.ensures, c.new-line.ensures, c.as_bytes.ensures.value, c.as_bytes-2.ensures.value, c.format-digits.ensures.text) (numbered c.args.words.now (decimal c.args.number))
