use Rattle.std.proofs.Common.{sym, ◌∙◌, arith, rules}
use Rattle.cany_log.proofs.FieldFacts.{HasFields-room, HasFields-done}
use Rattle.cany_log.proofs.line.write_row.Goals as goal

pub put_field-requires : goal.put_field-requires
put_field-requires g c =
    (search rules, omega (arith, c.requires.room, HasFields-room _ _ _ _ c.loop-left.invariant (omega arith) c.index-fields-left.is))

pub returns : goal.returns
returns g c =
    let done = HasFields-done c.args.words.now c.args.fields.now _ _ _ c.loop-left.invariant (omega arith) (c.put_bytes-2.ensures ∙ cc) in
    let text = sym done ∙ sym c.as_slice.ensures in
    rw text (record {
      bytes = c.write_whole.ensures.bytes;
      prefix = c.write_whole.ensures.prefix;
      count = c.write_whole.ensures.count;
      failed = c.write_whole.ensures.failed;
    })
