use Rattle.std.specs.List.{list_any}
use Rattle.std.proofs.Common.{ap, refl, sym, ◌∙◌}
use Rattle.cany_model.specs.Rules.Messages.{message_key}
use Rattle.cany_totcan.specs.Queue.{is_at}
use Rattle.cany_totcan.specs.Totcan.{TotcanParts}
use Rattle.cany_totcan.proofs.OpenFacts.{ahead_is}
use Rattle.cany_totcan.proofs.totcan.Totcan.has_nothing_ahead.Goals as goal

pub returns : goal.returns
returns c = λ is scenario past messages count m h stands.
    sym (ahead_is scenario c.args.self.now.node past messages count c.args.self.now (message_key m) h m stands refl)
    ∙ sym (ap (λ (v : TotcanParts). list_any (is_at (message_key m)) v.queue.items) c.self.view_is)
    ∙ ap (list_any (is_at (message_key m))) (c.is_empty.ensures is)
