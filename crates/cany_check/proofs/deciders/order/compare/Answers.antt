use Rattle.std.proofs.Common.{◌+◌, ◌++◌, ◌∙◌, List, ap, drop, length, sym}
use Rattle.std.specs.Prelude.{option_map}
use Rattle.std.proofs.lemmas.List.{drop_all}
use Rattle.cany_base.specs.declared.log_entry.LogEntry.{LogEntry}
use Rattle.cany_check.specs.declared.deciders.order.Item.{Item}
use Rattle.cany_check.specs.Accounts.AccountFields.{log_parts}
use Rattle.cany_check.specs.Deciding.Meeting.{ahead}
use Rattle.cany_check.specs.Deciding.Reference.{clash, cut, items_in, items_of, parting_at}
use Rattle.cany_check.proofs.Deciding.MeetingFacts.{clash_end, entry_more, found_is, none_is}
use Rattle.cany_check.proofs.deciders.order.compare.Goals as goal

pub loop-entry-preserved : goal.loop-entry-preserved
loop-entry-preserved c =
    let log = c.args.log.now in
    let messages = c.args.messages.now in
    let i = c.loop-entry.entry-index in
    let reached = ahead log.from c.loop-entry.cursor c.loop-entry.reference.items in
    let later = cut log.from (items_in messages log.node (drop (i + 1) log.entries.now)) in
    let more = entry_more messages log.from log.node log.entries.now i c.entry-item.result c.loop-entry-test.true c.entry-item.is in
    let goes = c.in_ok-found.ensures.on (none_is c.in_ok-found.found (sym c.is_some.ensures ∙ c.if-is_some.false)) in
    record {
      within = goes.within;
      behind = goes.behind;
      clash_is = goes.clash_is later ∙ ap (λ (l : List Item). clash c.loop-entry.cursor.place reached l) (sym more) ∙ c.loop-entry.invariant.clash_is;
      list_is = goes.list_is later ∙ ap (λ (l : List Item). c.loop-entry.reference.items ++ drop (length reached) l) (sym more) ∙ c.loop-entry.invariant.list_is;
    }

pub returns-then-is_some-clause-found : goal.returns-then-is_some-clause-found
returns-then-is_some-clause-found c =
    let log = c.args.log.now in
    let messages = c.args.messages.now in
    let i = c.loop-entry.entry-index in
    let entries = log.entries.now in
    let reached = ahead log.from c.loop-entry.cursor c.loop-entry.reference.items in
    let later = cut log.from (items_in messages log.node (drop (i + 1) entries)) in
    let more = entry_more messages log.from log.node entries i c.entry-item.result c.loop-entry-test.true c.entry-item.is in
    found_is c.in_ok-found.found (option_map parting_at (clash 0 (cut log.from c.args.reference.now.items) (items_of messages (log_parts log)))) (sym c.is_some.ensures ∙ c.if-is_some.true)
    (λ p e.
    ap (option_map parting_at) (sym c.loop-entry.invariant.clash_is) ∙ ap (λ (l : List Item). option_map parting_at (clash c.loop-entry.cursor.place reached l)) more
    ∙ c.in_ok-found.ensures.off p e later)

pub returns-clause-found : goal.returns-clause-found
returns-clause-found c =
    let log = c.args.log.now in
    let reached = ahead log.from c.loop-entry.cursor c.loop-entry.reference.items in
    let ends = drop_all c.loop-entry.entry-index log.entries.now c.loop-entry-test.false in
    ap (option_map parting_at)
    (sym (clash_end c.loop-entry.cursor.place reached)
    ∙ ap (λ (l : List LogEntry). clash c.loop-entry.cursor.place reached (cut log.from (items_in c.args.messages.now log.node l))) (sym ends)
    ∙ c.loop-entry.invariant.clash_is)
