use Rattle.std.proofs.Common.{◌∙◌}
use Rattle.cany_check.proofs.Accounts.SignTable.{idle_slot}
use Rattle.cany_check.proofs.account.sign_records.go_over.Goals as goal

pub returns-in-None : goal.returns-in-None
returns-in-None c = λ s trace told so. so ∙ idle_slot c.args.note.now c.in-None.is s trace told
