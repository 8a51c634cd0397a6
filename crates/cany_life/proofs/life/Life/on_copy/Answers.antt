use Rattle.std.proofs.Common.{◌≡◌, subst, sym}
use Rattle.cany_diffuse.specs.Eager.{EagerParts, IsLearnt}
use Rattle.cany_model.specs.Rules.Knowledge.{FailureSign, sign_of}
use Rattle.cany_life.specs.Life.{sign_number}
use Rattle.cany_life.specs.LifeSteps.{all_marked, unknown}
use Rattle.cany_life.proofs.CountFacts.{copy_actions, copy_state, same_copies}
use Rattle.cany_life.proofs.life.Life.on_copy.Goals as goal

pub returns-clause-learnt : goal.returns-clause-learnt
returns-clause-learnt c =
    let sign : FailureSign = sign_of c.args.frame.now in
    let state : c.know.new.self ≡ all_marked (unknown sign c.count-is_enough.new.self) c.count-is_enough.new.self = rw c.of-sign.ensures.sign at c.know.ensures.state in
    let learnt : IsLearnt (sign_number sign) c.args.self.now.copies c.count-is_enough.new.self.copies = rw c.of-sign.ensures.sign at c.count-is_enough.ensures.learnt in
    subst (λ (table : EagerParts). IsLearnt (sign_number sign) c.args.self.now.copies table)
    (sym (same_copies sign c.args.self.now c.count-is_enough.new.self c.know.new.self c.count-is_enough.ensures.state state)) learnt

pub returns-clause-state : goal.returns-clause-state
returns-clause-state c =
    copy_state (sign_of c.args.frame.now) c.args.self.now c.count-is_enough.new.self c.know.new.self c.count-is_enough.ensures.state
    (rw c.of-sign.ensures.sign at c.know.ensures.state)

pub returns-clause-actions : goal.returns-clause-actions
returns-clause-actions c =
    copy_actions (sign_of c.args.frame.now) c.args.self.now c.count-is_enough.new.self c.know.new.self c.count-is_enough.ensures.state
    (rw c.of-sign.ensures.sign at c.know.ensures.state) c.args.slot c.format-format.result c.args.self.now.params.format c.args.frame.now
    c.count-is_enough.result c.args.out.now.items c.know.new.out.items c.withdraw.new.out.items c.withdraw.ensures.actions
    (rw c.of-sign.ensures.sign at c.know.ensures.actions) (rw c.of-sign.ensures.sign at c.count-is_enough.ensures.enough) c.format-format.ensures
