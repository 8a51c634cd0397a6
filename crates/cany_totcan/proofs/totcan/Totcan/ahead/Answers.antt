use Rattle.std.specs.List.{list_any}
use Rattle.std.proofs.Common.{ap, ◌∙◌}
use Rattle.cany_totcan.specs.Queue.{is_at}
use Rattle.cany_totcan.specs.Totcan.{TotcanParts}
use Rattle.cany_totcan.proofs.OpenFacts.{ahead_is, none_open}
use Rattle.cany_totcan.proofs.totcan.Totcan.ahead.Goals as goal

pub returns-clause-message : goal.returns-clause-message
returns-clause-message c = λ scenario past messages count m h stands key.
    c.has.ensures
    ∙ ap (λ (v : TotcanParts). list_any (is_at c.args.msg) v.queue.items) c.self.view_is
    ∙ ahead_is scenario c.args.self.now.node past messages count c.args.self.now c.args.msg h m stands key

pub returns-clause-no_message : goal.returns-clause-no_message
returns-clause-no_message c = λ scenario past messages count h none.
    c.has.ensures
    ∙ ap (λ (v : TotcanParts). list_any (is_at c.args.msg) v.queue.items) c.self.view_is
    ∙ none_open scenario c.args.self.now.node past messages count c.args.self.now c.args.msg h none
