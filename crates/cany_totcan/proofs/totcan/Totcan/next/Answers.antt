-- The next message of the backlog is asked for.
use Rattle.std.proofs.Common.{◌≡◌, ◌++◌, ◌∷◌, [], ap, sym, ◌∙◌, subst}
use Rattle.std.proofs.lemmas.List.{append-nil}
use Rattle.cany_base.specs.declared.actions.Action.TheVariants as action
use Rattle.cany_model.specs.Rules.Actions.{actions_of}
use Rattle.cany_model.specs.Rules.Backlog.{ask_for, asked_after, next_after}
use Rattle.cany_totcan.specs.Backlog.{after_next, next_given}
use Rattle.cany_totcan.specs.Totcan.{TotcanParts, IsBacklogOf, IsTotcanOf}
use Rattle.cany_totcan.proofs.NextFacts.{asked_actions, next_actions, next_stands, tot_frame, with_backlog}
use Rattle.cany_totcan.proofs.totcan.Totcan.next.Goals as goal
use Rattle.cany_totcan.proofs.totcan.Totcan.next.Goals.{in-Some, in_default}

pub returns-clause-actions : goal.returns-clause-actions
returns-clause-actions c = λ scenario past messages count h turn.
    let v = c.args.self.now in
    let before = c.args.out.now.items in
    let next : c.next.result ≡ next_given c.args.now v.spacing v.backlog =
    c.next.ensures.next ∙ ap (λ (w : TotcanParts). next_given c.args.now w.spacing w.backlog) c.self.view_is in
    let format = scenario.params.format in
    let actions : before ++ asked_actions v.node c.next.result ≡ before ++ actions_of format (ask_for (next_after scenario.params past messages count)) =
    ap (λ given. before ++ asked_actions v.node given) next
    ∙ ap (λ actions. before ++ actions)
    (next_actions scenario v.node past messages count v.backlog h.backlog c.args.now v.spacing turn h.limits.spacing format) in
    elim c.match-next.branch [
      | in-Some w ↦
          let given = w.in-Some.given in
          ap (λ out. out.items) (w.out-is ∙ w.push.ensures)
          ∙ ap (λ (u : TotcanParts). before ++ action.Ask (tot_frame u.node given) ∷ []) c.self.view_is
          ∙ ap (λ o. before ++ asked_actions v.node o) (sym w.in-Some.is) ∙ actions
      | in_default w ↦
          ap (λ out. out.items) w.out-is ∙ sym (append-nil before) ∙ ap (λ o. before ++ asked_actions v.node o) (sym w.in_default.is) ∙ actions
    ]

pub returns-clause-stands : goal.returns-clause-stands
returns-clause-stands c = λ scenario past messages count h turn.
    let v = c.args.self.now in
    let asked = asked_after scenario.params past messages count in
    let after : c.next.new.self ≡ after_next c.args.now v.spacing v.backlog =
    c.next.ensures.after ∙ ap (λ (w : TotcanParts). after_next c.args.now w.spacing w.backlog) c.self.view_is in
    let stands : IsBacklogOf scenario v.node past messages asked c.next.new.self =
    subst (IsBacklogOf scenario v.node past messages asked) (sym after)
    (next_stands scenario v.node past messages count v.backlog h.backlog c.args.now v.spacing turn h.limits.spacing) in
    subst (IsTotcanOf scenario v.node past messages asked) (ap (λ (w : TotcanParts). record w { backlog = c.next.new.self }) (sym c.self.view_is))
    (with_backlog scenario v.node past messages messages count asked v c.next.new.self h stands)
