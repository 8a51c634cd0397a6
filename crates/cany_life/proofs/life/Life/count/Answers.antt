use Rattle.std.specs.Prelude.{nat_le}
use Rattle.std.proofs.Common.{◌≡◌, ◌+◌, ap, subst, sym, ◌∙◌}
use Rattle.cany_diffuse.specs.Eager.{EagerParts, copies_of}
use Rattle.cany_diffuse.proofs.LearntFacts.{enough_is}
use Rattle.cany_message.specs.Table.{CanTake}
use Rattle.cany_message.proofs.NumberFacts.{room_to_take}
use Rattle.cany_life.specs.Life.{LifeParts, sign_number}
use Rattle.cany_life.proofs.life.Life.count.Goals as goal

pub learn-requires-clause-room : goal.learn-requires-clause-room
learn-requires-clause-room c =
    let takes : CanTake (sign_number c.args.sign) c.self.inside.copies =
    subst (λ (table : EagerParts). CanTake (sign_number c.args.sign) table) (sym (ap (λ (v : LifeParts). v.copies) c.self.view_is)) c.requires.takes in
    room_to_take (sign_number c.args.sign) c.self.inside.copies takes c.copies-copies.ensures.counted

pub returns-clause-enough : goal.returns-clause-enough
returns-clause-enough c =
    let omit : c.self.inside.copies.omit ≡ c.self.inside.params.omit =
    ap (λ (v : LifeParts). v.copies.omit) c.self.view_is ∙ c.requires.omit ∙ sym (ap (λ (v : LifeParts). v.params.omit) c.self.view_is) in
    rw (c.is_enough.ensures, c.learn.ensures.answer, enough_is)
    (ap (λ n. nat_le (n + 1) (copies_of c.learn.new.self (sign_number c.args.sign))) omit)
