-- What the fields of a table of places stand for.
use Rattle.std.specs.Prelude.{List}
use Rattle.cany_check.specs.declared.account.places.Places.TheInside.{Inside}
use Rattle.cany_check.specs.declared.account.record.MessageRecord.{MessageRecord}
use Rattle.cany_check.specs.Accounts.Places.{AreNumbered, AreRows, lists_of}

abbrev pub messages_of : Inside → List MessageRecord
messages_of v = v.messages.now

pub record AreKept (v : Inside) : Type 0 where
  pub numbered : AreNumbered v.messages.now
  pub rows : AreRows v.messages.now (lists_of v.of_origin.items)
