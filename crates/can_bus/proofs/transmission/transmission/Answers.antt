use Rattle.can_bus.proofs.NoteFacts.{transmitted}
use Rattle.can_bus.proofs.transmission.transmission.Goals as goal

pub returns-in-Won : goal.returns-in-Won
returns-in-Won c nodes contest run =
    transmitted c.args.slot nodes c.args.outcome.now c.in-Won.frame c.in-Won.senders c.args.running c.acceptors.result c.empty.result c.args.verdict.now c.in-Won.is contest run
    c.acceptors.ensures c.empty.ensures.set
