use Rattle.std.proofs.Common.{◌≡◌, ◌-◌, suc, sym, ◌∙◌, drop, false, subst, arith}
use Rattle.std.specs.List.{list_any}
use Rattle.cany_totcan.specs.Acceptances.{placed_of}
use Rattle.cany_totcan.specs.Queue.{is_at}
use Rattle.cany_totcan.proofs.NotedFacts.{index_here, none_from, none_past_all}
use Rattle.cany_totcan.proofs.queue.index_of.Goals as goal

pub loop-left-init : goal.loop-left-init
loop-left-init c =
    let all = c.args.entries.now.ok.0 in
    record {
      within = omega (arith, c.len-left.ensures, all);
      none = none_past_all c.args.entries.now.items c.len-left.result c.args.msg.now (omega (arith, c.len-left.ensures, all));
    }

pub index-requires : goal.index-requires
index-requires c = omega (arith, c.loop-left.invariant.within, c.loop-left-test.true, c.args.entries.now.ok.0)

pub returns-then-is_at-clause-found : goal.returns-then-is_at-clause-found
returns-then-is_at-clause-found c =
    index_here c.args.entries.now.items (c.loop-left.left - 1) c.args.msg.now c.index.result.now
    (omega (arith, c.loop-left.invariant.within, c.loop-left-test.true)) c.index.ensures (sym c.is_at.ensures ∙ c.if-is_at.true)

pub loop-left-preserved : goal.loop-left-preserved
loop-left-preserved c =
    let next : c.loop-left.left ≡ suc (c.loop-left.left - 1) = omega (arith, c.loop-left-test.true) in
    record {
      within = omega (arith, c.loop-left.invariant.within);
      none =
          none_from c.args.entries.now.items (c.loop-left.left - 1) c.args.msg.now c.index.result.now
          (omega (arith, c.loop-left.invariant.within, c.loop-left-test.true)) c.index.ensures (sym c.is_at.ensures ∙ c.if-is_at.false)
          (subst (λ n. list_any (is_at c.args.msg.now) (drop n (placed_of c.args.entries.now.items)) ≡ false) next c.loop-left.invariant.none);
    }

pub returns-clause-absent : goal.returns-clause-absent
returns-clause-absent c =
    let none_left : c.loop-left.left ≡ 0 = omega (arith, c.loop-left-test.false) in
    subst (λ n. list_any (is_at c.args.msg.now) (drop n (placed_of c.args.entries.now.items)) ≡ false) none_left c.loop-left.invariant.none
