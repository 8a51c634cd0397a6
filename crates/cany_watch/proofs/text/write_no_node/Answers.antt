use Rattle.std.proofs.Common.{[], ◌∷◌, ℕ, codes, decimal, subst}
use Rattle.cany_log.specs.Written.{IsWritten}
use Rattle.cany_text.specs.ReportLines.{line_of}
use Rattle.cany_watch.specs.WatchText.{no_node_line}
use Rattle.cany_watch.proofs.text.write_no_node.Goals as goal

pub returns : goal.returns
unfolding no_node_line
returns g c =
    subst (λ (n : ℕ). IsWritten (line_of (codes "refused no node" ∷ decimal n ∷ [])) c.write_short_line.result
    (g.K.Sink.taken c.args.sink.now) (g.K.Sink.taken c.write_short_line.new.sink) (g.K.Sink.faults c.args.sink.now) (g.K.Sink.faults c.write_short_line.new.sink))
    c.from.ensures c.write_short_line.ensures
