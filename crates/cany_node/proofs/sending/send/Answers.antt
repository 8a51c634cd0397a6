use Rattle.std.proofs.Common.{◌++◌, [], ◌∷◌, ap, sym, subst, refl}
use Rattle.cany_base.specs.declared.message.Service.TheVariants.{Ed, Rel}
use Rattle.cany_model.specs.Rules.Messages.{Message}
use Rattle.cany_totcan.specs.Totcan.{IsTotcanOf}
use Rattle.cany_node.specs.Agenda.{message_from}
use Rattle.cany_node.proofs.GiveFacts.{joins_none, joins_one}
use Rattle.cany_node.proofs.sending.send.Goals as goal

pub returns-in-Ed-clause-gives : goal.returns-in-Ed-clause-gives
returns-in-Ed-clause-gives c = λ scenario past messages count is stands.
    subst (λ ms. IsTotcanOf scenario c.args.node past ms count c.args.totcan.now) (sym (joins_none c.args.node c.args.planned.now messages Ed c.in-Ed.is refl)) is

pub returns-in-Rel-clause-gives : goal.returns-in-Rel-clause-gives
returns-in-Rel-clause-gives c = λ scenario past messages count is stands.
    subst (λ ms. IsTotcanOf scenario c.args.node past ms count c.args.totcan.now) (sym (joins_none c.args.node c.args.planned.now messages Rel c.in-Rel.is refl)) is

pub returns-in-Tot-clause-gives : goal.returns-in-Tot-clause-gives
returns-in-Tot-clause-gives c = λ scenario past messages count is stands.
    let m : Message = message_from c.args.node c.args.planned.now in
    let ours = subst (λ i. IsTotcanOf scenario i past messages count c.args.totcan.now) (sym is.limits.node) is in
    let given =
    c.send-in-Tot.ensures.stands scenario past messages count m ours (record { stands = stands; sent_by = c.in-Tot.is; origin = sym is.limits.node }) refl refl in
    subst (λ ms. IsTotcanOf scenario c.args.node past ms count c.send-in-Tot.new.self) (ap (λ ms. messages ++ ms) (sym (joins_one c.args.node c.args.planned.now c.in-Tot.is)))
    (subst (λ i. IsTotcanOf scenario i past (messages ++ m ∷ []) count c.send-in-Tot.new.self) is.limits.node given)
