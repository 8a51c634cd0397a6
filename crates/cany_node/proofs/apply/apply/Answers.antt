use Rattle.std.proofs.Common.{◌==◌, not, filter, ap, sym, subst, ◌∙◌, refl}
use Rattle.cany_base.specs.Frame.{identifier_of}
use Rattle.cany_node.specs.Apply.{WithdrawsFitting}
use Rattle.cany_node.specs.Stamping.{ident_with}
use Rattle.cany_node.proofs.Applying.{done-ask, done-withdraw, done-enter}
use Rattle.cany_node.proofs.StampedIdentifiers.{withdrawn_stamped}
use Rattle.cany_node.proofs.apply.apply.Goals as goal

pub returns-in-Ask : goal.returns-in-Ask
returns-in-Ask c effect e fits stamped =
    done-ask c.args.ctl.now.params.format c.args.inc c.in-Ask.frame c.with_incarnation.result effect _ _ _ _ (e ∙ c.in-Ask.is) c.with_incarnation.ensures c.ask.ensures refl

pub returns-in-Withdraw : goal.returns-in-Withdraw
returns-in-Withdraw c effect e fits stamped =
    let format = c.args.ctl.now.params.format in
    let waiting = c.args.ctl.now.waiting in
    done-withdraw format c.args.inc c.in-Withdraw.ident effect c.args.ctl.now c.withdraw.new.self _ _ (e ∙ c.in-Withdraw.is)
    (λ x is number. c.withdraw.ensures.by_identifier
    ∙ ap (λ n. record c.args.ctl.now { waiting = filter (λ f. not (identifier_of format f == n)) waiting })
    (c.ident_with.ensures ∙ ap (ident_with c.args.inc) (sym number))
    ∙ ap (λ w. record c.args.ctl.now { waiting = w })
    (withdrawn_stamped format c.args.inc x waiting c.requires.number (subst (WithdrawsFitting format) is fits) c.requires.fit stamped))
    refl

pub returns-in-Enter : goal.returns-in-Enter
returns-in-Enter c effect e fits stamped =
    done-enter c.args.ctl.now.params.format c.args.inc c.in-Enter.entry effect _ _ _ _ (e ∙ c.in-Enter.is) refl c.push_copy.ensures
