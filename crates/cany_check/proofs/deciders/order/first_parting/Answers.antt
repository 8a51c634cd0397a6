use Rattle.std.proofs.Common.{◌≡◌, subst}
use Rattle.std.specs.Prelude.{option_map, IfOk}
use Rattle.cany_check.specs.Deciding.Reference.{first_clash, parting_at}
use Rattle.cany_check.proofs.deciders.order.first_parting.Goals as goal

pub returns : goal.returns
returns c sorted are =
    subst (λ l. IfOk c.first_clash.result (λ found. found ≡ option_map parting_at (first_clash c.args.messages.now l sorted))) c.new-reference.ensures.items (c.first_clash.ensures sorted are)
