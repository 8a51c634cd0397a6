-- Whether a life sign is due, by what the value knows of its node's last life.
use Rattle.std.proofs.Common.{◌≡◌, ℕ, ◌+◌, ◌==◌, ◌&&◌, List, [], ◌∷◌, ◌++◌, if◌then◌else◌, ap, sym, ◌∙◌}
use Rattle.std.proofs.lemmas.List.{append-nil}
use Rattle.cany_base.specs.declared.actions.Action.{Action}
use Rattle.cany_base.specs.declared.actions.Action.TheVariants as action
use Rattle.cany_base.specs.declared.notice.NoticeKind.{NoticeKind}
use Rattle.cany_base.specs.Bounded.{Bounded}
use Rattle.cany_base.specs.Frame.{FrameParts}
use Rattle.cany_base.specs.Nodes.{Nodes, has}
use Rattle.cany_base.specs.Scenario.{ScenarioParts}
use Rattle.cany_life.specs.Life.{IsLifeOf, LifeParts}
use Rattle.cany_model.specs.Rules.Actions.{actions_of}
use Rattle.cany_model.specs.Rules.Effect.{Ask}
use Rattle.cany_model.specs.Rules.Knowledge.{Knowledge, with_members}
use Rattle.cany_model.specs.Rules.Life.{els_frame, is_due, life_signs_sent}
use Rattle.cany_life.proofs.life.Life.sign.Goals as goal

due_is : (scenario : ScenarioParts) (past : List NoticeKind) (knowledge : Knowledge) (v : LifeParts) (members : Nodes) (slot : ℕ)
    → IsLifeOf scenario v.node past knowledge v
    → is_due scenario.params.life v.node slot (with_members members knowledge) ≡ (has members v.node && slot == v.last + v.params.life)
due_is scenario past knowledge v members slot h = λ k. has members v.node && slot == sym h.lives.is_last k + (sym h.limits.are_params k).life

pub returns-then-is_due-clause-actions : goal.returns-then-is_due-clause-actions
returns-then-is_due-clause-actions c = λ scenario past knowledge h.
    let v = c.args.self.now in
    let out = c.args.out.now.items in
    let due = due_is scenario past knowledge v c.args.members c.args.now h ∙ sym c.is_due.ensures ∙ c.if-is_due.true in
    ap (λ (list : Bounded Action). list.items) c.push.ensures
    ∙ ap (λ (f : FrameParts). out ++ action.Ask f ∷ []) (c.life_sign.ensures ∙ ap (els_frame 0 v.node) h.lives.are_sent)
    ∙ ap (λ b. out ++ actions_of scenario.params.format (if b then Ask (els_frame 0 v.node (life_signs_sent v.node past)) ∷ [] else [])) (sym due)

pub returns-else-is_due-clause-actions : goal.returns-else-is_due-clause-actions
returns-else-is_due-clause-actions c = λ scenario past knowledge h.
    let v = c.args.self.now in
    let out = c.args.out.now.items in
    let due = due_is scenario past knowledge v c.args.members c.args.now h ∙ sym c.is_due.ensures ∙ c.if-is_due.false in
    sym (append-nil out)
    ∙ ap (λ b. out ++ actions_of scenario.params.format (if b then Ask (els_frame 0 v.node (life_signs_sent v.node past)) ∷ [] else [])) (sym due)
