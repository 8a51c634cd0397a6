use Rattle.std.proofs.Common.{◌≡◌, [], ap, sym, ◌∙◌}
use Rattle.cany_relcan.specs.Relcan.{RelcanParts}
use Rattle.cany_relcan.proofs.AheadFacts.{none_ahead}
use Rattle.cany_relcan.proofs.relcan.Relcan.has_nothing_ahead.Goals as goal

pub returns : goal.returns
returns c = λ are scenario past m h stands.
    let none : c.args.self.now.timers.running ≡ [] =
    ap (λ (v : RelcanParts). v.timers.running) (sym c.self.view_is) ∙ c.are_none.ensures are in
    none_ahead scenario c.args.self.now.node past c.args.self.now h none m
