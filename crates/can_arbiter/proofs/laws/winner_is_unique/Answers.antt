use Rattle.std.proofs.Common.{◌≡◌, ◌≤◌, sym, ◌∙◌, ap, arith}
use Rattle.std.proofs.lemmas.Option.{same_Some}
use Rattle.cany_base.specs.Frame.{key_of}
use Rattle.can_arbiter.specs.Offers.{offer_at}
use Rattle.can_arbiter.proofs.laws.winner_is_unique.Goals as goal

pub returns : goal.returns
returns c = λ offers a b first second.
    let at_most : key_of offers.format a ≤ key_of offers.format b = first.least_key second.node b second.offered in
    let at_least : key_of offers.format b ≤ key_of offers.format a = second.least_key first.node a first.offered in
    let one_way : first.node ≤ second.node = first.least_node second.node b second.offered (omega arith) in
    let other_way : second.node ≤ first.node = second.least_node first.node a first.offered (omega arith) in
    let node : first.node ≡ second.node = omega arith in
    same_Some a b (sym first.offered ∙ ap (offer_at offers) node ∙ second.offered)
