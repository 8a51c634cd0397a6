-- A sign that is known calls for nothing; another becomes known.
use Rattle.std.proofs.Common.{[], ◌∷◌, ◌++◌, if◌then◌else◌, ap, append_assoc, sym, ◌∙◌}
use Rattle.std.proofs.lemmas.List.{append-nil}
use Rattle.cany_base.specs.declared.actions.Action.{Action}
use Rattle.cany_base.specs.declared.actions.Action.TheVariants.{Ask, Enter}
use Rattle.cany_base.specs.declared.log_entry.LogEntry.TheVariants.{Failed}
use Rattle.cany_base.specs.Bounded.{Bounded}
use Rattle.cany_base.specs.Frame.{FrameParts}
use Rattle.cany_life.specs.LifeSteps.{all_marked, known_actions}
use Rattle.cany_model.specs.Rules.Knowledge.{FailureSign}
use Rattle.cany_life.proofs.life.Life.know.Goals as goal

pub returns-then-is_known-clause-state : goal.returns-then-is_known-clause-state
unfolding all_marked
returns-then-is_known-clause-state c =
    ap (λ b. all_marked (if b then [] else c.args.sign ∷ []) c.args.self.now) (sym c.if-is_known.true ∙ c.is_known.ensures)

pub returns-then-is_known-clause-actions : goal.returns-then-is_known-clause-actions
returns-then-is_known-clause-actions c =
    let out = c.args.out.now.items in
    sym (append-nil out)
    ∙ ap (λ b. out ++ known_actions c.args.slot c.args.is_enough (if b then [] else c.args.sign ∷ [])) (sym c.if-is_known.true ∙ c.is_known.ensures)

pub returns-else-not-is_enough-clause-state : goal.returns-else-not-is_enough-clause-state
unfolding all_marked
returns-else-not-is_enough-clause-state c =
    c.mark.ensures ∙ ap (λ b. all_marked (if b then [] else c.args.sign ∷ []) c.args.self.now) (sym c.if-is_known.false ∙ c.is_known.ensures)

pub returns-then-not-is_enough-clause-state : goal.returns-then-not-is_enough-clause-state
unfolding all_marked
returns-then-not-is_enough-clause-state c =
    c.mark.ensures ∙ ap (λ b. all_marked (if b then [] else c.args.sign ∷ []) c.args.self.now) (sym c.if-is_known.false ∙ c.is_known.ensures)

pub returns-else-not-is_enough-clause-actions : goal.returns-else-not-is_enough-clause-actions
returns-else-not-is_enough-clause-actions c =
    let out = c.args.out.now.items in
    ap (λ (list : Bounded Action). list.items) c.push.ensures
    ∙ ap (λ (sign : FailureSign). out ++ Enter (Failed c.args.slot sign.node sign.cycle) ∷ []) c.sign.view_is
    ∙ ap (λ b. out ++ known_actions c.args.slot b (c.args.sign ∷ [])) (sym c.if-not-is_enough.false)
    ∙ ap (λ b. out ++ known_actions c.args.slot c.args.is_enough (if b then [] else c.args.sign ∷ [])) (sym c.if-is_known.false ∙ c.is_known.ensures)

pub returns-then-not-is_enough-clause-actions : goal.returns-then-not-is_enough-clause-actions
returns-then-not-is_enough-clause-actions c =
    let out = c.args.out.now.items in
    let failed = Enter (Failed c.args.slot c.args.sign.node c.args.sign.cycle) in
    ap (λ (list : Bounded Action). list.items) c.push-then-not-is_enough.ensures
    ∙ ap (λ (list : Bounded Action). list.items ++ Ask c.form.result ∷ []) c.push.ensures
    ∙ ap (λ (sign : FailureSign). (out ++ Enter (Failed c.args.slot sign.node sign.cycle) ∷ []) ++ Ask c.form.result ∷ []) c.sign.view_is
    ∙ append_assoc out (failed ∷ []) (Ask c.form.result ∷ [])
    ∙ ap (λ (f : FrameParts). out ++ failed ∷ Ask f ∷ []) c.form.ensures
    ∙ ap (λ b. out ++ known_actions c.args.slot b (c.args.sign ∷ [])) (sym c.if-not-is_enough.true)
    ∙ ap (λ b. out ++ known_actions c.args.slot c.args.is_enough (if b then [] else c.args.sign ∷ [])) (sym c.if-is_known.false ∙ c.is_known.ensures)
