-- What becomes of the vector, and what follows, by whether the new one is covered, and whether it
-- is another.
use Rattle.std.proofs.Common.{◌≡◌, ℕ, Bool, false, true, List, [], ◌∷◌, ◌++◌, if◌then◌else◌, ap, subst, sym, ◌∙◌}
use Rattle.std.proofs.lemmas.List.{append-nil}
use Rattle.cany_base.specs.declared.actions.Action.{Action}
use Rattle.cany_base.specs.declared.actions.Action.TheVariants.{Ask}
use Rattle.cany_base.specs.Bounded.{Bounded}
use Rattle.cany_base.specs.Frame.{FrameParts}
use Rattle.cany_base.specs.Nodes.{AllBelow, Nodes}
use Rattle.cany_history.specs.History.{HistoryParts}
use Rattle.cany_history.specs.HistorySteps.{IsInRun, ask_at, got_actions, is_covered_by, met_actions, met_by, with_vector, withdrawal_at}
use Rattle.cany_model.specs.Rules.Vectors.{is_new, met_with}
use Rattle.cany_history.proofs.history.History.meet.Goals as goal

module _ (slot : ℕ) (got own : Nodes) (is_other : Bool) (v w : HistoryParts) (took : w ≡ with_vector got own is_other v) where
  runs : IsInRun slot v → IsInRun slot w
  runs run = subst (IsInRun slot) (sym took) (record { cycle = run.cycle; number = run.number; nodes = run.nodes; place = run.place })

  module _ (met : own ≡ met_with v.params v.vector got) (new : is_other ≡ is_new v.vector own) where
    met_is : w ≡ met_by got v
    met_is = took ∙ (λ k. with_vector got (met k) ((new ∙ ap (is_new v.vector) met) k) v)

    actions_are : met_actions slot own is_other w ≡ got_actions slot got v
    actions_are = λ k. met_actions slot (met k) ((new ∙ ap (is_new v.vector) met) k) (met_is k)

    -- what is appended, by whether the vector is covered
    actions_after : (out : List Action) (covered : Bool) {after : List Action} → covered ≡ is_covered_by w
        → after ≡ out ++ (if covered then withdrawal_at slot w ∷ [] else if is_other then ask_at slot w own ∷ [] else [])
        → after ≡ out ++ got_actions slot got v
    actions_after out covered is appended =
        appended ∙ ap (λ b. out ++ (if b then withdrawal_at slot w ∷ [] else if is_other then ask_at slot w own ∷ [] else [])) is
        ∙ ap (λ actions. out ++ actions) actions_are

pub withdraw-requires-clause-run : goal.withdraw-requires-clause-run
withdraw-requires-clause-run c =
    runs c.args.slot c.args.got c.met_with-vector.result c.is_new-is_new.result c.args.self.now c.take.new.self c.take.ensures c.requires.run

pub frame-requires-clause-run : goal.frame-requires-clause-run
frame-requires-clause-run c =
    runs c.args.slot c.args.got c.met_with-vector.result c.is_new-is_new.result c.args.self.now c.take.new.self c.take.ensures c.requires.run

pub withdraw-requires-clause-below : goal.withdraw-requires-clause-below
withdraw-requires-clause-below c =
    subst (λ (w : HistoryParts). AllBelow w.params.nodes c.met_with-vector.result) (sym c.take.ensures) c.met_with-vector.ensures.below

pub frame-requires-clause-below : goal.frame-requires-clause-below
frame-requires-clause-below c =
    subst (λ (w : HistoryParts). AllBelow w.params.nodes c.met_with-vector.result) (sym c.take.ensures) c.met_with-vector.ensures.below

pub returns-then-is_covered-clause-state : goal.returns-then-is_covered-clause-state
returns-then-is_covered-clause-state c = met_is c.args.slot _ _ _ c.args.self.now _ c.take.ensures c.met_with-vector.ensures.met c.is_new-is_new.ensures

pub returns-then-is_new-clause-state : goal.returns-then-is_new-clause-state
returns-then-is_new-clause-state c = met_is c.args.slot _ _ _ c.args.self.now _ c.take.ensures c.met_with-vector.ensures.met c.is_new-is_new.ensures

pub returns-else-is_new-clause-state : goal.returns-else-is_new-clause-state
returns-else-is_new-clause-state c = met_is c.args.slot _ _ _ c.args.self.now _ c.take.ensures c.met_with-vector.ensures.met c.is_new-is_new.ensures

pub returns-then-is_covered-clause-actions : goal.returns-then-is_covered-clause-actions
returns-then-is_covered-clause-actions c =
    actions_after c.args.slot c.args.got _ _ c.args.self.now _ c.take.ensures c.met_with-vector.ensures.met c.is_new-is_new.ensures c.args.out.now.items true
    (sym c.if-is_covered.true ∙ c.is_covered.ensures) c.withdraw.ensures.actions

pub returns-then-is_new-clause-actions : goal.returns-then-is_new-clause-actions
returns-then-is_new-clause-actions c =
    actions_after c.args.slot c.args.got _ _ c.args.self.now _ c.take.ensures c.met_with-vector.ensures.met c.is_new-is_new.ensures c.args.out.now.items false
    (sym c.if-is_covered.false ∙ c.is_covered.ensures)
    (ap (λ (list : Bounded Action). list.items) c.push.ensures
    ∙ ap (λ (f : FrameParts). c.args.out.now.items ++ Ask f ∷ []) c.frame.ensures
    ∙ ap (λ b. c.args.out.now.items ++ (if b then ask_at c.args.slot c.take.new.self c.met_with-vector.result ∷ [] else [])) (sym c.if-is_new.true))

pub returns-else-is_new-clause-actions : goal.returns-else-is_new-clause-actions
returns-else-is_new-clause-actions c =
    actions_after c.args.slot c.args.got _ _ c.args.self.now _ c.take.ensures c.met_with-vector.ensures.met c.is_new-is_new.ensures c.args.out.now.items false
    (sym c.if-is_covered.false ∙ c.is_covered.ensures)
    (sym (append-nil c.args.out.now.items)
    ∙ ap (λ b. c.args.out.now.items ++ (if b then ask_at c.args.slot c.take.new.self c.met_with-vector.result ∷ [] else [])) (sym c.if-is_new.false))
