use Rattle.std.proofs.Common.{append-nil}
use Rattle.cany_log.proofs.WrittenFacts.{IsWritten-nothing}
use Rattle.cany_replica.proofs.text.write_value.Goals as goal

pub returns-in-Some : goal.returns-in-Some
returns-in-Some g c = rw (c.in-Some.is, append-nil) c.write_key.ensures

pub returns-in-None : goal.returns-in-None
returns-in-None g c = rw c.in-None.is (IsWritten-nothing _ _)
