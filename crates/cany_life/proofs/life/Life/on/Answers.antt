-- The turn: what stands after each step, at the notices that there are, and at all that the value
-- stands for.
use Rattle.std.proofs.Common.{◌≡◌, ◌<◌, length, ap, arith, ◌∙◌}
use Rattle.cany_base.specs.declared.notice.Notice.{Notice}
use Rattle.cany_base.specs.Nodes.{Nodes}
use Rattle.cany_base.specs.Params.{Parameters}
use Rattle.cany_model.specs.Rules.Knowledge.{after_hearing, with_members}
use Rattle.cany_life.specs.Life.{CanRead, LifeParts}
use Rattle.cany_life.specs.LifeSteps.{CanFind, found_below, heard}
use Rattle.cany_life.proofs.MarkFacts.{marked-node, marked-params}
use Rattle.cany_life.proofs.TurnFacts.{Learns, can_find, can_learn, few_sent, heard_node, heard_own, own_params, some_silence, turn_acts, turn_stands}
use Rattle.cany_life.proofs.life.Life.on.Goals as goal

-- once it has learnt from the notice, at a history that there is
module _ (v w x : LifeParts) (members : Nodes) (notice : Notice) (reads : CanRead v notice) (hears : w ≡ heard notice.slot notice.kind v)
    (learns : Learns notice w x) where
  can_find_then : CanFind x notice.slot
  can_find_then = can_find reads.scenario v.node reads.past reads.knowledge members notice v w reads.stands reads.next hears x learns

  some_silence_then : 0 < x.params.silence
  some_silence_then = some_silence reads.scenario v.node reads.past reads.knowledge members notice v w reads.stands reads.next hears x learns

  same_params_then : x.params ≡ v.params
  same_params_then = own_params reads.scenario v.node reads.past reads.knowledge members notice v w reads.stands reads.next hears x learns

pub see-requires : goal.see-requires
see-requires c =
    let reads = c.requires.reads in
    few_sent reads.scenario c.args.self.now.node reads.past reads.knowledge c.args.notice.now c.args.self.now reads.stands reads.next.next

pub learn-requires-clause-learns : goal.learn-requires-clause-learns
learn-requires-clause-learns c =
    let reads = c.requires.reads in
    can_learn reads.scenario c.args.self.now.node reads.past reads.knowledge c.args.members c.args.notice.now c.args.self.now c.see.new.self reads.stands reads.next c.see.ensures

pub find-requires-clause-finds : goal.find-requires-clause-finds
find-requires-clause-finds c =
    can_find_then c.args.self.now c.see.new.self c.learn.new.self c.args.members c.args.notice.now c.requires.reads c.see.ensures c.learn.ensures.stands

pub find-requires-clause-silence : goal.find-requires-clause-silence
find-requires-clause-silence c =
    some_silence_then c.args.self.now c.see.new.self c.learn.new.self c.args.members c.args.notice.now c.requires.reads c.see.ensures c.learn.ensures.stands

pub find-requires-clause-room : goal.find-requires-clause-room
find-requires-clause-room c =
    let params =
    same_params_then c.args.self.now c.see.new.self c.learn.new.self c.args.members c.args.notice.now c.requires.reads c.see.ensures c.learn.ensures.stands in
    omega (arith, ap (λ (p : Parameters). p.nodes) params, c.learn.ensures.few, c.learn.ensures.room, c.requires.room)

pub returns-clause-actions : goal.returns-clause-actions
returns-clause-actions c = λ scenario past knowledge h next.
    turn_acts scenario c.args.self.now.node past knowledge c.args.members c.args.notice.now c.args.self.now c.see.new.self h next
    c.see.ensures c.learn.new.self c.learn.ensures.stands c.args.out.now.items c.learn.new.out.items c.find.new.out.items
    (c.learn.ensures.actions scenario past (after_hearing c.args.self.now.node (length past) c.args.notice.now.kind (with_members c.args.members knowledge))
    (heard_own scenario c.args.self.now.node past knowledge c.args.members c.args.notice.now c.args.self.now c.see.new.self h next c.see.ensures) next.next)
    c.find.ensures.actions

pub returns-clause-stands : goal.returns-clause-stands
returns-clause-stands c = λ scenario past knowledge h next.
    turn_stands scenario c.args.self.now.node past knowledge c.args.members c.args.notice.now c.args.self.now c.see.new.self h next
    c.see.ensures c.learn.new.self c.learn.ensures.stands c.find.new.self c.find.ensures.state

pub returns-clause-node : goal.returns-clause-node
returns-clause-node c =
    let reads = c.requires.reads in
    marked-node (found_below c.learn.new.self c.args.members c.args.notice.now.slot c.learn.new.self.params.nodes) c.learn.new.self c.find.new.self c.find.ensures.state
    ∙ c.learn.ensures.node
    ∙ heard_node reads.scenario c.args.self.now.node reads.past reads.knowledge c.args.members c.args.notice.now c.args.self.now c.see.new.self reads.stands reads.next c.see.ensures

pub returns-clause-params : goal.returns-clause-params
returns-clause-params c =
    let reads = c.requires.reads in
    marked-params (found_below c.learn.new.self c.args.members c.args.notice.now.slot c.learn.new.self.params.nodes) c.learn.new.self c.find.new.self c.find.ensures.state
    ∙ own_params reads.scenario c.args.self.now.node reads.past reads.knowledge c.args.members c.args.notice.now c.args.self.now c.see.new.self reads.stands reads.next
    c.see.ensures c.learn.new.self c.learn.ensures.stands

pub returns-clause-few : goal.returns-clause-few
returns-clause-few c =
    let reads = c.requires.reads in
    let params =
    own_params reads.scenario c.args.self.now.node reads.past reads.knowledge c.args.members c.args.notice.now c.args.self.now c.see.new.self reads.stands reads.next
    c.see.ensures c.learn.new.self c.learn.ensures.stands in
    omega (arith, ap (λ (p : Parameters). p.nodes) params, c.learn.ensures.few, c.find.ensures.few)
