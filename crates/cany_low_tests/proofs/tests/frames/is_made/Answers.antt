use Rattle.std.proofs.Common.{refl}
use Rattle.cany_low_tests.proofs.tests.frames.is_made.Goals as goal

pub identifier-encoded-requires : goal.identifier-encoded-requires
identifier-encoded-requires c = ((c.in_ok-frame.ensures.frame c.in_ok-frame.frame).0 refl).fits

pub key-order-requires : goal.key-order-requires
key-order-requires c = ((c.in_ok-frame.ensures.frame c.in_ok-frame.frame).0 refl).fits
