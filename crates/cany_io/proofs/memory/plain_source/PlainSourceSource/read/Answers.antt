use Rattle.std.proofs.Common.{◌++◌, ◌+◌, drop, sym, ap, ◌∙◌}
use Rattle.std.proofs.lemmas.List.{take_rest}
use Rattle.cany_io.proofs.SourceFacts.{take-append-drop-add}
use Rattle.cany_io.proofs.memory.plain_source.PlainSourceSource.read.Goals as goal

-- the copied bytes stand before those that are left
pub returns-clause-bytes : goal.returns-clause-bytes
returns-clause-bytes c =
    let bytes = c.self.inside.bytes.items in
    let at = c.self.inside.position in
    let count = c.copy_front-count.result in
    let copied = rw (c.deref.ensures.value, take_rest) at c.copy_front-count.ensures.copied in
    sym c.self.view_is ∙ sym (take-append-drop-add bytes at count) ∙ ap (λ front. front ++ drop (at + count) bytes) (sym copied)
