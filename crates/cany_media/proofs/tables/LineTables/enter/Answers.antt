use Rattle.std.proofs.Common.{arith, sym, ap, ◌≡◌, ◌≢◌, ◌<◌, ◌∙◌, ℕ, List, refl}
use Rattle.cany_media.specs.Plan.{FaultParts}
use Rattle.cany_media.specs.Stretches.{IsTableOf}
use Rattle.cany_media.proofs.PlanFacts.{not_taken, table_more, table_same, taken_from}
use Rattle.cany_media.proofs.tables.LineTables.enter.Goals as goal

-- a table of the fault's line
of_line : (faults : List FaultParts) (fault : FaultParts) (line : ℕ) (table : List FaultParts) → fault.line ≡ line → IsTableOf faults line table → IsTableOf faults fault.line table
of_line faults fault line table same is = rw same is

second_line : (line : ℕ) → line < 2 → line ≢ 0 → line ≡ 1
second_line line few other = omega arith

zero_one : (n m : ℕ) → n ≡ 0 → m ≡ 1 → n ≡ m → ⊥
zero_one n m zero one e = omega arith

pub returns-then-line-eq0-clause-taken : goal.returns-then-line-eq0-clause-taken
returns-then-line-eq0-clause-taken c faults is taken =
    let line : c.args.fault.now.line ≡ 0 = ap (λ (f : FaultParts). f.line) (sym c.fault.view_is) ∙ c.if-line-eq0.true in
    taken_from faults c.args.fault.now c.args.self.now.first (of_line faults c.args.fault.now 0 c.args.self.now.first line is.first) (c.enter.ensures.taken taken)

pub returns-then-line-eq0-clause-free : goal.returns-then-line-eq0-clause-free
returns-then-line-eq0-clause-free c faults is free =
    let line : c.args.fault.now.line ≡ 0 = ap (λ (f : FaultParts). f.line) (sym c.fault.view_is) ∙ c.if-line-eq0.true in
    not_taken faults c.args.fault.now c.args.self.now.first (of_line faults c.args.fault.now 0 c.args.self.now.first line is.first) (c.enter.ensures.free free)

pub returns-then-line-eq0-clause-entered : goal.returns-then-line-eq0-clause-entered
returns-then-line-eq0-clause-entered c faults is free =
    let line : c.args.fault.now.line ≡ 0 = ap (λ (f : FaultParts). f.line) (sym c.fault.view_is) ∙ c.if-line-eq0.true in
    record {
      first = table_more faults c.args.fault.now c.args.self.now.first c.enter.new.self 0 line is.first (c.enter.ensures.free free) (c.enter.ensures.entered free);
      second = table_same faults c.args.fault.now c.args.self.now.second 1 (λ e. zero_one c.args.fault.now.line 1 line refl e) is.second;
    }

pub returns-else-line-eq0-clause-taken : goal.returns-else-line-eq0-clause-taken
returns-else-line-eq0-clause-taken c faults is taken =
    let line : c.args.fault.now.line ≡ 1 = ap (λ (f : FaultParts). f.line) (sym c.fault.view_is) ∙ second_line c.fault.inside.line c.fault.invariant.line c.if-line-eq0.false in
    taken_from faults c.args.fault.now c.args.self.now.second (of_line faults c.args.fault.now 1 c.args.self.now.second line is.second) (c.enter-else-line-eq0.ensures.taken taken)

pub returns-else-line-eq0-clause-free : goal.returns-else-line-eq0-clause-free
returns-else-line-eq0-clause-free c faults is free =
    let line : c.args.fault.now.line ≡ 1 = ap (λ (f : FaultParts). f.line) (sym c.fault.view_is) ∙ second_line c.fault.inside.line c.fault.invariant.line c.if-line-eq0.false in
    not_taken faults c.args.fault.now c.args.self.now.second (of_line faults c.args.fault.now 1 c.args.self.now.second line is.second) (c.enter-else-line-eq0.ensures.free free)

pub returns-else-line-eq0-clause-entered : goal.returns-else-line-eq0-clause-entered
returns-else-line-eq0-clause-entered c faults is free =
    let line : c.args.fault.now.line ≡ 1 = ap (λ (f : FaultParts). f.line) (sym c.fault.view_is) ∙ second_line c.fault.inside.line c.fault.invariant.line c.if-line-eq0.false in
    record {
      first = table_same faults c.args.fault.now c.args.self.now.first 0 (λ e. zero_one 0 c.args.fault.now.line refl line (sym e)) is.first;
      second = table_more faults c.args.fault.now c.args.self.now.second c.enter-else-line-eq0.new.self 1 line is.second (c.enter-else-line-eq0.ensures.free free) (c.enter-else-line-eq0.ensures.entered free);
    }
