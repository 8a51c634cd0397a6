use Rattle.can_arbiter.proofs.OrderFacts.{walk_by_keys}
use Rattle.can_arbiter.proofs.laws.walk_orders_by_key.Goals as goal

pub returns : goal.returns
returns c = walk_by_keys c.args.format
