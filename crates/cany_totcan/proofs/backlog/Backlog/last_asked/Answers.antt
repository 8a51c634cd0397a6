-- The last message that was asked for is one of those given, and so one of the node's.
use Rattle.std.proofs.Common.{◌<◌, ap, arith, length, subst, sym}
use Rattle.cany_totcan.specs.Backlog.{BacklogParts}
use Rattle.cany_totcan.proofs.BacklogFacts.{free_kept, given_within}
use Rattle.cany_totcan.proofs.backlog.Backlog.last_asked.Goals as goal

pub get-last-requires : goal.get-last-requires
get-last-requires c = omega (arith, c.self.invariant.some, c.requires, ap (λ (v : BacklogParts). v.asked) c.self.view_is)

pub get-requires : goal.get-requires
get-requires c =
    let v = c.self.inside in
    subst (λ n. n < length v.own.items) (sym c.from.ensures) (given_within v.given.items _ _ c.get-last.result c.self.invariant.messages c.get-last.ensures)

pub returns : goal.returns
returns c = λ now spacing.
    free_kept now spacing _ c.args.self.now c.get-last.result c.from.result _ c.self.view_is
    (omega (arith, c.requires, ap (λ (v : BacklogParts). v.asked) c.self.view_is)) c.get-last.ensures c.from.ensures c.get.ensures
