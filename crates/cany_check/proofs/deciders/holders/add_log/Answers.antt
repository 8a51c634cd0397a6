use Rattle.std.proofs.Common.{◌≡◌, ◌+◌, [], ◌∷◌, ◌++◌, take, ap, sym, subst, ◌∙◌}
use Rattle.std.proofs.lemmas.List.{take_all, take_more}
use Rattle.cany_base.specs.declared.log_entry.LogEntry.{LogEntry}
use Rattle.cany_check.specs.Accounts.AccountFields.{log_parts}
use Rattle.cany_check.specs.Deciding.Holders.{AreHolders, log_with}
use Rattle.cany_check.proofs.Deciding.HolderFacts.{with_no_entry}
use Rattle.cany_check.proofs.deciders.holders.add_log.Goals as goal

pub loop-entry-init : goal.loop-entry-init
loop-entry-init g c before are =
    with_no_entry (g.S.Subjects.number c.args.subjects.now) (g.S.Subjects.tells c.args.subjects.now) (g.S.Subjects.since c.args.subjects.now) before (log_parts c.args.log.now) c.args.holders.now are

pub loop-entry-preserved : goal.loop-entry-preserved
loop-entry-preserved g c before are =
    let entries = c.args.log.now.entries.now in
    let i = c.loop-entry.entry-index in
    let e : LogEntry = c.entry-item.result in
    let more : take (i + 1) entries ≡ take i entries ++ e ∷ [] =
    take_more entries i e c.loop-entry-test.true ∙ ap (λ (y : LogEntry). take i entries ++ y ∷ []) (sym c.entry-item.is) in
    subst (λ es. AreHolders (g.S.Subjects.number c.args.subjects.now) (g.S.Subjects.tells c.args.subjects.now) (g.S.Subjects.since c.args.subjects.now)
    (before ++ log_with (log_parts c.args.log.now) es ∷ []) c.add_entry.new.holders) (sym more)
    (c.add_entry.ensures before (take i entries) (c.loop-entry.invariant before are))

pub returns : goal.returns
returns g c before are =
    let entries = c.args.log.now.entries.now in
    subst (λ es. AreHolders (g.S.Subjects.number c.args.subjects.now) (g.S.Subjects.tells c.args.subjects.now) (g.S.Subjects.since c.args.subjects.now)
    (before ++ log_with (log_parts c.args.log.now) es ∷ []) c.loop-entry.holders) (take_all c.loop-entry.entry-index entries c.loop-entry-test.false)
    (c.loop-entry.invariant before are)
