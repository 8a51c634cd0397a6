use Rattle.std.proofs.Common.{None}
use Rattle.cany_model.specs.Promises.FirstSlots.{first_carried}
use Rattle.cany_check.specs.Accounts.Account.{last_carried}
use Rattle.cany_check.proofs.account.sign_records.new_record.Goals as goal

pub returns : goal.returns
unfolding first_carried last_carried
returns c = λ k. record { node = c.args.node; cycle = c.args.cycle; carried = None; waits = c.waiting_sign.ensures.set k }
