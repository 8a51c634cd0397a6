use Rattle.std.proofs.Common.{◌++◌, ap, sym, ◌∙◌, append-nil}
use Rattle.cany_message.specs.Calls.{actions_at}
use Rattle.cany_message.proofs.calls.put.Goals as goal

pub returns-in-Got-clause-actions : goal.returns-in-Got-clause-actions
returns-in-Got-clause-actions c =
    c.put_of.ensures.actions ∙ ap (λ kind. c.args.out.now.items ++ actions_at c.args.service c.args.notice.now.slot c.args.calls.now kind) (sym c.in-Got.is)

pub returns-in-Sent-clause-actions : goal.returns-in-Sent-clause-actions
returns-in-Sent-clause-actions c =
    c.put_of-in-Sent.ensures.actions ∙ ap (λ kind. c.args.out.now.items ++ actions_at c.args.service c.args.notice.now.slot c.args.calls.now kind) (sym c.in-Sent.is)

pub returns-in-Idle-clause-actions : goal.returns-in-Idle-clause-actions
returns-in-Idle-clause-actions c =
    sym (append-nil _) ∙ ap (λ kind. c.args.out.now.items ++ actions_at c.args.service c.args.notice.now.slot c.args.calls.now kind) (sym c.in-Idle.is)

pub returns-in-Bad-clause-actions : goal.returns-in-Bad-clause-actions
returns-in-Bad-clause-actions c =
    sym (append-nil _) ∙ ap (λ kind. c.args.out.now.items ++ actions_at c.args.service c.args.notice.now.slot c.args.calls.now kind) (sym c.in-Bad.is)
