-- What the fields of an account stand for.
use Rattle.std.specs.Prelude.{map}
use Rattle.cany_check.specs.declared.account.Account.TheInside.{Inside}
use Rattle.cany_check.specs.declared.account.record.LogRecord.{LogRecord}
use Rattle.cany_check.specs.Accounts.Account.{AccountParts, LogParts}
use Rattle.cany_check.specs.Accounts.Orderly.{IsOrderly}

abbrev pub log_parts : LogRecord → LogParts
log_parts log = record { node = log.node; from = log.from; runs = log.runs; entries = log.entries.now }

abbrev pub account_parts : Inside → AccountParts
account_parts v = record { params = v.params; messages = v.messages.items; logs = map log_parts v.logs.items; signs = v.signs.items }

abbrev pub IsOrderlyInside : Inside → Type 0
IsOrderlyInside v = IsOrderly (account_parts v)
