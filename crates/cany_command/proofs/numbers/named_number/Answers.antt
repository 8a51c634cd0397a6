use Rattle.std.proofs.Common.{map, string_bytes}
use Rattle.cany_command.proofs.NumberFacts.{named, other_command, too_few, too_many, two_words}
use Rattle.cany_command.proofs.numbers.named_number.Goals as goal

pub returns-in-len2-clause-number : goal.returns-in-len2-clause-number
returns-in-len2-clause-number c =
    named c.args.command.now c.args.most (map string_bytes c.args.words.now) (string_bytes c.name-item.result) (string_bytes c.word-item.result)
    c.as_str.result.now c.as_str-in-len2.result.now c.eq.result c.number_in.result
    (two_words string_bytes c.args.words.now c.name-item.result c.word-item.result c.in-len2.len_at_least c.in-len2.len_below c.name-item.is c.word-item.is)
    c.as_str.ensures.value c.eq.ensures c.if-eq.true c.as_str-in-len2.ensures.value c.number_in.ensures.number

pub returns-in_default-clause-number : goal.returns-in_default-clause-number
returns-in_default-clause-number c = too_few c.args.command.now c.args.most string_bytes c.args.words.now c.in_default.len_below

pub returns-in_default-2-clause-number : goal.returns-in_default-2-clause-number
returns-in_default-2-clause-number c =
    other_command c.args.command.now c.args.most (map string_bytes c.args.words.now) (string_bytes c.name-item.result) (string_bytes c.word-item.result)
    c.as_str.result.now c.eq.result
    (two_words string_bytes c.args.words.now c.name-item.result c.word-item.result c.in-len2.len_at_least c.in-len2.len_below c.name-item.is c.word-item.is)
    c.as_str.ensures.value c.eq.ensures c.if-eq.false

pub returns-in_default-3-clause-number : goal.returns-in_default-3-clause-number
returns-in_default-3-clause-number c = too_many c.args.command.now c.args.most string_bytes c.args.words.now c.in_default.len_at_least
