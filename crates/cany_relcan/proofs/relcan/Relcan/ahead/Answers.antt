use Rattle.std.proofs.Common.{◌≡◌, [], ap, sym, ◌∙◌}
use Rattle.cany_relcan.specs.Relcan.{RelcanParts}
use Rattle.cany_relcan.proofs.AheadFacts.{ahead_is, none_ahead, none_awaited}
use Rattle.cany_relcan.proofs.relcan.Relcan.ahead.Goals as goal

pub returns-then-are_none-clause-message : goal.returns-then-are_none-clause-message
returns-then-are_none-clause-message c = λ scenario past m h stands key.
    let none : c.args.self.now.timers.running ≡ [] =
    ap (λ (v : RelcanParts). v.timers.running) (sym c.self.view_is) ∙ c.are_none.ensures c.if-are_none.true in
    sym (none_ahead scenario c.args.self.now.node past c.args.self.now h none m)

pub returns-clause-message : goal.returns-clause-message
returns-clause-message c = λ scenario past m h stands key.
    c.is_awaited.ensures.awaited ∙ ahead_is scenario c.args.self.now.node past c.args.self.now c.args.msg h c.is_awaited.ensures.in_range m stands key

pub returns-clause-no_message : goal.returns-clause-no_message
returns-clause-no_message c = λ scenario past h none.
    c.is_awaited.ensures.awaited ∙ none_awaited scenario c.args.self.now.node past c.args.self.now c.args.msg h c.is_awaited.ensures.in_range none
