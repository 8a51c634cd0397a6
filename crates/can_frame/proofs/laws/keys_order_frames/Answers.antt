use Rattle.can_frame.proofs.IdentityFacts.{keys_order, keys_tell}
use Rattle.can_frame.proofs.laws.keys_order_frames.Goals as goal

pub returns : goal.returns
returns c = record { less = keys_order c.args.format; same = keys_tell c.args.format }
