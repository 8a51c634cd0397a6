use Rattle.std.proofs.Common.{◌≡◌, ◌≤◌, ◌<◌, ℕ, Some, None, rules, arith, sym, subst, ◌∙◌}
use Rattle.cany_base.specs.Frame.{FrameParts, key_of}
use Rattle.can_arbiter.specs.declared.arbitration.Outcome.{Outcome}
use Rattle.can_arbiter.specs.Outcome.{IsOutcomeAmong}
use Rattle.can_arbiter.proofs.EnterFacts.{joins, keeps, takes}
use Rattle.can_arbiter.proofs.arbitration.Outcome.enter.Goals as goal
use Rattle.can_arbiter.proofs.arbitration.Outcome.enter.Goals.{in-Won+else-eq+else-key, in_default}

pub returns-then-eq-clause-outcome : goal.returns-then-eq-clause-outcome
returns-then-eq-clause-outcome c before after was entered =
    let same : c.in-Won.best ≡ c.args.frame.now = search rules in
    joins c.args.format before after c.args.node c.args.frame.now entered c.in-Won.best c.in-Won.senders c.insert.new.self
    (subst (λ (o : Outcome). IsOutcomeAmong c.args.format before o) c.in-Won.is was) (sym same) c.insert.ensures.has

pub returns-then-key-clause-outcome : goal.returns-then-key-clause-outcome
returns-then-key-clause-outcome c before after was entered =
    let differ : c.args.frame.now ≡ c.in-Won.best → ⊥ = search rules in
    keeps c.args.format before after c.args.node c.args.frame.now entered c.in-Won.best c.in-Won.senders
    (subst (λ (o : Outcome). IsOutcomeAmong c.args.format before o) c.in-Won.is was) differ (omega arith)

pub returns-clause-outcome : goal.returns-clause-outcome
returns-clause-outcome c before after was entered =
    takes c.args.format before after c.args.node c.args.frame.now entered c.only.result less c.only.ensures
  where
    less : (k : ℕ) (r : FrameParts) → before k ≡ Some r → key_of c.args.format c.args.frame.now < key_of c.args.format r
    less k r e = elim c.match-self.branch [
      | in-Won+else-eq+else-key w ↦
          let it = subst (λ (o : Outcome). IsOutcomeAmong c.args.format before o) w.in-Won.is was in
          let more : key_of c.args.format w.in-Won.best ≤ key_of c.args.format r = it.0.least_key k r e in
          omega (arith, more)
      | in_default w ↦
          let none : before k ≡ None = subst (λ (o : Outcome). IsOutcomeAmong c.args.format before o) w.in_default.is was k in
          let no : None ≡ Some r = sym none ∙ e in
          cc
    ]
