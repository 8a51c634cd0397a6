use Rattle.std.proofs.Common.{◌≡◌, List, get_or, refl, ap, sym, subst, ◌∙◌}
use Rattle.std.specs.Prelude.{slice_get, Some}
use Rattle.cany_node.specs.Node.{NodeParts, CanTurn, IsRefused, IsTurnOf, Reads}
use Rattle.cany_world.specs.Incarnations.{IncarnationsParts}
use Rattle.cany_world.specs.IncarnationsFields.{incarnations_parts}
use Rattle.cany_world.proofs.NodeFacts.{left_by, turned_by}
use Rattle.cany_world.proofs.PlaceFacts.{one_written, read_at}
use Rattle.cany_world.proofs.SoundFacts.{sound_where_written}
use Rattle.cany_world.proofs.incarnations.Incarnations.turn.Goals as goal

pub returns-clause-turn : goal.returns-clause-turn
returns-clause-turn c it at scenario past notice reads =
    let here : slice_get c.self.inside.nodes.items c.self.inside.present ≡ Some it =
    subst (λ (x : IncarnationsParts). slice_get x.nodes x.present ≡ Some it) (sym c.self.view_is) at in
    let same = read_at c.self.inside.nodes.items c.as_mut_slice-nodes.result.now c.self.inside.present it c.index-nodes-self.result c.as_mut_slice-nodes.ensures.value here in
    turned_by scenario past notice it c.turn.new.self c.args.self.now (incarnations_parts c.self.inside) c.args.ctl.now c.turn.new.ctl c.self.view_is
    (one_written c.self.inside.nodes.items c.as_mut_slice-nodes.result.now _ c.self.inside.nodes.len c.self.inside.present c.turn.new.self
    c.as_mut_slice-nodes.ensures.value c.as_mut_slice-nodes.ensures.len)
    refl refl (c.turn.ensures.node ∙ ap (λ (x : NodeParts). x.node) same) (c.turn.ensures.inc ∙ ap (λ (x : NodeParts). x.inc) same)
    (c.turn.ensures.cycle ∙ ap (λ (x : NodeParts). x.cycle) same)
    (subst (λ (x : NodeParts). IsTurnOf scenario past notice x c.turn.new.self c.args.ctl.now c.turn.new.ctl) same
    (c.turn.ensures.turn scenario past notice (subst (λ (x : NodeParts). Reads scenario past notice x c.args.ctl.now) (sym same) reads)))

pub turn-requires : goal.turn-requires
turn-requires c =
    let here : slice_get c.self.inside.nodes.items c.self.inside.present ≡ Some c.requires.it =
    subst (λ (x : IncarnationsParts). slice_get x.nodes x.present ≡ Some c.requires.it) (sym c.self.view_is) c.requires.at in
    subst (λ (x : NodeParts). CanTurn x c.args.ctl.now c.args.out.now)
    (sym (read_at c.self.inside.nodes.items c.as_mut_slice-nodes.result.now c.self.inside.present c.requires.it c.index-nodes-self.result
    c.as_mut_slice-nodes.ensures.value here)) c.requires.can

pub returns-clause-reply : goal.returns-clause-reply
returns-clause-reply c = c.turn.ensures.reply

pub returns-clause-refused : goal.returns-clause-refused
returns-clause-refused c =
    left_by c.turn.result c.index-nodes-self.result c.turn.new.self c.args.self.now (incarnations_parts c.self.inside) c.args.ctl.now c.turn.new.ctl c.self.view_is
    (one_written c.self.inside.nodes.items c.as_mut_slice-nodes.result.now _ c.self.inside.nodes.len c.self.inside.present c.turn.new.self
    c.as_mut_slice-nodes.ensures.value c.as_mut_slice-nodes.ensures.len)
    refl refl
    (subst (λ (l : List NodeParts). IsRefused c.turn.result (get_or l c.self.inside.present c.index-nodes-self.result) c.turn.new.self c.args.ctl.now c.turn.new.ctl)
    c.as_mut_slice-nodes.ensures.value c.turn.ensures.refused)

pub invariant_of-self : goal.invariant_of-self
invariant_of-self c =
    sound_where_written c.self.inside _ c.self.invariant c.as_mut_slice-nodes.result.now _ c.turn.new.self c.as_mut_slice-nodes.ensures.value
    c.as_mut_slice-nodes.ensures.len refl refl refl
