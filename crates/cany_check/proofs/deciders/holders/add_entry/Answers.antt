use Rattle.std.proofs.Common.{◌≡◌, ap, ◌∙◌}
use Rattle.cany_check.specs.Accounts.AccountFields.{log_parts}
use Rattle.cany_check.specs.Deciding.Holders.{with_entry}
use Rattle.cany_check.specs.Accounts.Words.{entry_slot}
use Rattle.cany_check.proofs.Deciding.HolderFacts.{tells_of_none, tells_of_one}
use Rattle.cany_check.proofs.deciders.holders.add_entry.Goals as goal

pub returns-in-None : goal.returns-in-None
returns-in-None g c before entries are =
    let number = g.S.Subjects.number c.args.subjects.now in
    let tells = g.S.Subjects.tells c.args.subjects.now in
    tells_of_none number tells (g.S.Subjects.since c.args.subjects.now) before (log_parts c.args.log.now) entries c.args.entry.now c.args.holders.now are c.in-None.ensures

pub returns-in-Some : goal.returns-in-Some
returns-in-Some g c before entries are =
    let number = g.S.Subjects.number c.args.subjects.now in
    let tells = g.S.Subjects.tells c.args.subjects.now in
    let since = g.S.Subjects.since c.args.subjects.now in
    let log = log_parts c.args.log.now in
    let more : c.with_entry.result ≡ with_entry c.index-holders-index.result (since c.in-Some.index) log (entry_slot c.args.entry.now) =
    c.with_entry.ensures ∙ ap (λ s. with_entry c.index-holders-index.result s log c.entry_slot.result) c.since-since.ensures
    ∙ ap (λ t. with_entry c.index-holders-index.result (since c.in-Some.index) log t) c.entry_slot.ensures in
    tells_of_one number tells since before log entries c.args.entry.now c.args.holders.now are
    c.in-Some.index c.index-holders-index.result c.with_entry.result c.in-Some.ensures c.index-holders-index.is more
