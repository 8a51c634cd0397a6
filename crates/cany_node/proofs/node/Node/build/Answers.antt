use Rattle.std.proofs.Common.{length, ap, ◌∙◌, sym, subst, arith}
use Rattle.cany_base.specs.Bounded.{Bounded}
use Rattle.cany_base.specs.declared.log_entry.LogEntry.{LogEntry}
use Rattle.cany_node.specs.Node.{IsWaiting, NodeParts}
use Rattle.cany_node.proofs.BeforeFirstTurn.{opens}
use Rattle.cany_node.proofs.MessageLists.{planned_count}
use Rattle.cany_node.proofs.node.Node.build.Goals as goal

pub returns-clause-waits : goal.returns-clause-waits
returns-clause-waits c = subst (IsWaiting c.args.scenario.now) (sym c.of_parts.ensures) (record {
  legal = c.params-params.ensures.legal;
  params = c.params-params.ensures.params;
  log = ap (λ (b : Bounded LogEntry). b.items) c.in_ok-own.ensures.log;
  room = ap (λ (b : Bounded LogEntry). b.room) c.in_ok-own.ensures.log;
  edcan = c.in_ok-protocols.ensures.edcan;
  relcan = c.in_ok-protocols.ensures.others.others.relcan;
  totcan = c.in_ok-protocols.ensures.others.totcan;
  membership = c.in_ok-protocols.ensures.others.others.membership;
  agenda = c.in_ok-own.ensures.plan.agenda;
  joins = c.in_ok-own.ensures.plan.joins;
  leaves = c.in_ok-own.ensures.plan.leaves;
  room_to_give =
      let tot = (c.in_ok-protocols.ensures.others.totcan 0).backlog in
      let plan = c.in_ok-own.ensures.plan.agenda in
      let count = planned_count c.args.node c.args.scenario.now.sends c.in_ok-own.own.plan.agenda.planned plan.planned in
      omega (arith, ap length tot.given, tot.room, plan.own, count);
})

pub returns-clause-stands : goal.returns-clause-stands
returns-clause-stands c first =
    opens _ _ (returns-clause-waits c) c.params-params.ensures.whole c.params-params.ensures.opening (ap (λ (v : NodeParts). v.inc) c.of_parts.ensures ∙ first)
    (ap (λ (v : NodeParts). v.from) c.of_parts.ensures) (ap (λ (v : NodeParts). v.read) c.of_parts.ensures)
