use Rattle.std.proofs.Common.{map, string_bytes}
use Rattle.cany_command.proofs.WordFacts.{one_word, is_word}
use Rattle.cany_command.proofs.words.is_only.Goals as goal

pub returns-in-len1 : goal.returns-in-len1
returns-in-len1 c =
    is_word (map string_bytes c.args.words.now) (string_bytes c.word-item.result) c.as_str.result.now c.args.name.now c.eq.result
    (one_word string_bytes c.args.words.now c.word-item.result c.in-len1.len_at_least c.in-len1.len_below c.word-item.is)
    c.as_str.ensures.value c.eq.ensures
