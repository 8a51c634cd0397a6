use Rattle.std.proofs.Common.{zero, ◌∷◌, [], refl, arith}
use Rattle.cany_node.proofs.Applying.{done-none}
use Rattle.cany_node.proofs.NextAction.{all_done, can_do, next_done, next_stands}
use Rattle.cany_node.proofs.apply.apply_one.Goals as goal

pub apply-requires-clause-can : goal.apply-requires-clause-can
apply-requires-clause-can c =
    can_do c.args.inc (c.args.action.now ∷ []) c.args.ctl.now _ c.args.log.now _ c.requires zero c.args.action.now
    (next_stands c.requires.scenario.params.format c.requires.effects (c.args.action.now ∷ []) (c.args.action.now ∷ []) zero c.args.action.now c.requires.are refl (omega arith) refl)
    (done-none _ _) c.frames_ascend.ensures

pub returns : goal.returns
returns c scenario i effects legal format are names stamped =
    let one = next_stands scenario.params.format effects (c.args.action.now ∷ []) (c.args.action.now ∷ []) zero c.args.action.now are refl (omega arith) refl in
    all_done scenario.params.format c.args.inc effects (c.args.action.now ∷ []) (c.args.action.now ∷ []) 1 _ _ _ _ are refl (omega arith)
    (next_done scenario i c.args.inc effects zero c.args.action.now _ _ _ _ _ _ legal format names stamped one c.apply.ensures (done-none _ _))
