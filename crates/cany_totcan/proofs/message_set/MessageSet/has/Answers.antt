use Rattle.std.proofs.Common.{◌≡◌, ◌≤◌, length, false, subst, sym, ◌∙◌, arith}
use Rattle.std.specs.Prelude.{nat_lt}
use Rattle.std.proofs.lemmas.Bool.Decides.{nat_tests}
use Rattle.cany_totcan.specs.MessageSet.{MessageSetParts}
use Rattle.cany_totcan.proofs.MessageSetFacts.{none_past}
use Rattle.cany_totcan.proofs.message_set.MessageSet.has.Goals as goal

pub returns-else-place-len : goal.returns-else-place-len
returns-else-place-len c =
    let test : nat_lt c.from-place.result c.len.result ≡ false = grind (arith, nat_tests, c.if-place-len.false) in
    let past : length c.self.inside.origins.items ≤ c.args.msg.now.seq = omega (arith, c.len.ensures.len, c.from-place.ensures, c.if-place-len.false) in
    test
    ∙ sym (none_past c.args.self.now c.args.msg.now.seq c.args.msg.now.origin
    (subst (λ (v : MessageSetParts). length v.origins ≤ c.args.msg.now.seq) c.self.view_is past))
