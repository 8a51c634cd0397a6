use Rattle.std.proofs.Common.{refl, ap, sym, subst, ◌∙◌, ◌++◌, ◌∷◌, length, arith}
use Rattle.cany_base.proofs.ParamsFacts.{few_slots}
use Rattle.cany_model.specs.Rules.Actions.{actions_of}
use Rattle.cany_node.specs.Node.{NodeParts}
use Rattle.cany_node.specs.Turning.{HasScripted, script_effects, script_room}
use Rattle.cany_node.proofs.ActSteps.{AlwaysListed, IsSame, acted_cleared, can_apply, can_script, joined, listed, listed_acted, one_more_read, same_after}
use Rattle.cany_node.proofs.Idle.IdleFacts.{not_idle}
use Rattle.cany_node.proofs.RoomsSuffice.{actions_within, script_fits}
use Rattle.cany_node.proofs.node.Node.follow_rules.Goals as goal

pub hear-requires-clause-hears : goal.hear-requires-clause-hears
hear-requires-clause-hears c = record { scenario = c.requires.scenario; past = c.requires.past; stands = c.requires.stands; next = c.requires.next }

pub hear-requires-clause-room : goal.hear-requires-clause-room
hear-requires-clause-room c =
    omega (arith, actions_within c.requires.scenario c.requires.past c.args.self.now c.requires.stands, ap length c.requires.free, c.requires.actions)

pub plan-requires-clause-scripts : goal.plan-requires-clause-scripts
plan-requires-clause-scripts c =
    can_script c.requires.scenario c.requires.past c.args.notice.now c.args.self.now.node c.hear.new.self c.requires.next
    (c.hear.ensures.stands c.requires.scenario c.requires.past c.requires.stands c.requires.next)

pub plan-requires-clause-room : goal.plan-requires-clause-room
plan-requires-clause-room c =
    let fits =
    script_fits c.requires.scenario c.requires.past c.args.self.now c.hear.new.self c.args.out.now c.hear.new.out c.requires.stands c.requires.free c.requires.actions
    c.hear.ensures.few c.hear.ensures.room (ap script_room c.hear.ensures.state) in
    omega (arith, fits)

pub next-requires : goal.next-requires
next-requires c =
    let fits =
    script_fits c.requires.scenario c.requires.past c.args.self.now c.hear.new.self c.args.out.now c.hear.new.out c.requires.stands c.requires.free c.requires.actions
    c.hear.ensures.few c.hear.ensures.room (ap script_room c.hear.ensures.state) in
    record { room = omega (arith, fits, c.plan.ensures.few, c.plan.ensures.room) }

pub apply_all-requires : goal.apply_all-requires
apply_all-requires c =
    let scenario = c.requires.scenario in
    let past = c.requires.past in
    let v = c.args.self.now in
    let notice = c.args.notice.now in
    let heard = c.hear.ensures.stands scenario past c.requires.stands c.requires.next in
    let done_script = c.plan.ensures.stands scenario past notice.kind heard c.requires.next.next.slot in
    let same = subst (IsSame v) (sym c.self.view_is) (same_after v c.hear.new.self c.plan.new.self c.hear.ensures.state c.plan.ensures.state) in
    let scripted = subst (HasScripted scenario past notice.kind) (sym c.self.view_is) done_script in
    let sent =
    c.plan.ensures.actions scenario past notice.kind heard c.requires.next.next.slot
    ∙ ap (λ (x : NodeParts). c.hear.new.out.items ++ actions_of scenario.params.format (script_effects scenario x.node (notice.kind ∷ past))) c.hear.ensures.state in
    can_apply scenario past notice v _ c.requires.stands c.requires.next same scripted c.next.new.out.items c.args.ctl.now
    (listed scenario past notice v _ c.requires.stands c.requires.next same scripted c.args.out.now.items c.hear.new.out.items c.plan.new.out.items c.next.new.out.items
    c.requires.free (c.hear.ensures.actions scenario past c.requires.stands c.requires.next) sent
    (c.next.ensures.actions scenario (notice.kind ∷ past) _ _ (joined scenario past notice v _ c.requires.stands c.requires.next same scripted)
    (one_more_read scenario past notice v _ c.requires.stands c.requires.next same scripted)))
    c.self.invariant.few c.requires.format c.requires.room c.requires.askable c.requires.stamped c.requires.signs

pub overflow_add-self : goal.overflow_add-self
overflow_add-self c = omega (arith, c.requires.next.next.within, few_slots c.requires.scenario.params c.requires.stands.legal.in_range)

pub invariant_of-self : goal.invariant_of-self
invariant_of-self c = record { few = c.self.invariant.few; idle_until = not_idle _ _ c.forget_idle.ensures }

pub invariant_of-self-2 : goal.invariant_of-self-2
invariant_of-self-2 c = record { few = c.self.invariant.few; idle_until = c.next_due-self-inside.ensures }

pub returns : goal.returns
returns c =
    let v = c.args.self.now in
    let notice = c.args.notice.now in
    let turn : AlwaysListed notice v _ c.next.new.self c.next.new.out.items =
    λ scenario past stands next.
    let heard = c.hear.ensures.stands scenario past stands next in
    let same = subst (IsSame v) (sym c.self.view_is) (same_after v c.hear.new.self c.plan.new.self c.hear.ensures.state c.plan.ensures.state) in
    let scripted = subst (HasScripted scenario past notice.kind) (sym c.self.view_is) (c.plan.ensures.stands scenario past notice.kind heard next.next.slot) in
    let sent =
    c.plan.ensures.actions scenario past notice.kind heard next.next.slot
    ∙ ap (λ (x : NodeParts). c.hear.new.out.items ++ actions_of scenario.params.format (script_effects scenario x.node (notice.kind ∷ past))) c.hear.ensures.state in
    let ours = joined scenario past notice v _ stands next same scripted in
    let one_more = one_more_read scenario past notice v _ stands next same scripted in
    record {
      same = same;
      scripted = scripted;
      listed =
          listed scenario past notice v _ stands next same scripted c.args.out.now.items c.hear.new.out.items c.plan.new.out.items c.next.new.out.items
          c.requires.free (c.hear.ensures.actions scenario past stands next) sent (c.next.ensures.actions scenario (notice.kind ∷ past) _ _ ours one_more);
      asks = c.next.ensures.stands scenario (notice.kind ∷ past) _ _ ours one_more;
    } in
    acted_cleared notice _ _ _ _ _ c.next.new.out _
    (listed_acted notice v v _ refl _ c.next.new.out.items c.args.ctl.now c.args.out.now c.requires turn c.apply_all.new.ctl c.self.inside.log
    c.apply_all.new.log refl refl c.apply_all.ensures)
    c.clear.ensures (c.next.ensures.room ∙ c.plan.ensures.room ∙ c.hear.ensures.room) c.requires.free
