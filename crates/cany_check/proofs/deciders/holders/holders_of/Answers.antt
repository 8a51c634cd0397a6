use Rattle.std.proofs.Common.{◌≡◌, ◌+◌, [], ◌∷◌, ◌++◌, drop, length, map, take, ap, sym, subst, ◌∙◌, arith}
use Rattle.std.specs.Prelude.{None, replicate}
use Rattle.std.proofs.lemmas.List.{map_more, take_at}
use Rattle.cany_check.specs.declared.account.record.LogRecord.{LogRecord}
use Rattle.cany_check.specs.Accounts.AccountFields.{log_parts}
use Rattle.cany_check.specs.Deciding.Holders.{AreHolders, no_holders}
use Rattle.cany_check.proofs.Deciding.HolderFacts.{none_yet}
use Rattle.cany_check.proofs.deciders.holders.holders_of.Goals as goal

pub loop-i-init : goal.loop-i-init
loop-i-init g c =
    let none : record { has = c.empty.result; had = c.empty-2.result; slots = None } ≡ no_holders =
    λ k. record { has = c.empty.ensures.set k; had = c.empty-2.ensures.set k; slots = None } in
    none_yet (g.S.Subjects.number c.args.subjects.now) (g.S.Subjects.tells c.args.subjects.now) (g.S.Subjects.since c.args.subjects.now) c.in_ok-holders.holders.items
    (c.in_ok-holders.ensures.items_if_clones_equal (λ y e. e) ∙ ap (replicate c.count.result) none ∙ ap (λ n. replicate n no_holders) c.count.ensures)

pub loop-i-preserved : goal.loop-i-preserved
loop-i-preserved g c =
    let logs = c.args.logs.now in
    let x : LogRecord = c.index-logs-i.result in
    let so_far = map log_parts (take c.loop-i.i logs) in
    let more : map log_parts (take (c.loop-i.i + 1) logs) ≡ so_far ++ log_parts x ∷ [] =
    map_more log_parts logs c.loop-i.i x c.loop-i-test.true ∙ ap (λ (y : LogRecord). so_far ++ log_parts y ∷ []) (sym c.index-logs-i.is) in
    let number = g.S.Subjects.number c.args.subjects.now in
    let tells = g.S.Subjects.tells c.args.subjects.now in
    let since = g.S.Subjects.since c.args.subjects.now in
    let new : AreHolders number tells since (so_far ++ log_parts x ∷ []) c.add_log.new.holders =
    c.add_log.ensures so_far (subst (AreHolders number tells since so_far) (sym c.deref_mut.ensures.value) c.loop-i.invariant) in
    let full : length c.add_log.new.holders ≡ c.loop-i.holders.len = omega (arith, new.count, c.loop-i.invariant.count, c.loop-i.holders.ok.0) in
    let written = take_at c.add_log.new.holders (drop (length c.add_log.new.holders) c.loop-i.holders.items) c.loop-i.holders.len full in
    subst (AreHolders number tells since (map log_parts (take (c.loop-i.i + 1) logs))) (sym written) (subst (λ l. AreHolders number tells since l c.add_log.new.holders) (sym more) new)
