use Rattle.cany_media.proofs.LegalFacts.{legal_as_read}
use Rattle.cany_media.proofs.single_bus.single.Goals as goal

pub of_parts-requires : goal.of_parts-requires
of_parts-requires c =
    let own = c.params-params.ensures in
    rw (
      own.params,
      c.members.ensures,
      c.in_ok-rules.ensures.ok,
      c.in_ok-sends.ensures.items,
      c.sends.ensures,
      c.in_ok-joins.ensures.items,
      c.joins.ensures,
      c.in_ok-leaves.ensures.items,
      c.leaves.ensures,
      c.in_ok-restarts.ensures.items,
      c.restarts.ensures,
      c.in_ok-journal.ensures,
    )
    (legal_as_read c.args.scenario.now c.args.plan.now own.legal c.in_ok-rules.ensures.few own.whole own.opening)
