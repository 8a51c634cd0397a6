use Rattle.can_frame.proofs.DecodingFacts.{one_frame}
use Rattle.can_frame.proofs.laws.decoding_is_unique.Goals as goal

pub returns : goal.returns
returns c = one_frame c.args.format
