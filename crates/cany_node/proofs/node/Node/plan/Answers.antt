use Rattle.std.proofs.Common.{◌<◌, ◌+◌, ◌≤◌, ap, length, sym, subst, ◌∙◌, ◌++◌, ◌∷◌, arith}
use Rattle.cany_base.specs.Params.{Parameters}
use Rattle.cany_model.specs.Rules.Actions.{actions_of}
use Rattle.cany_node.specs.Membership.{IsMembershipOf, MembershipParts}
use Rattle.cany_node.specs.Node.{NodeParts}
use Rattle.cany_node.specs.Turning.{HasHeard, script_effects, script_room}
use Rattle.cany_edcan.specs.Edcan.{EdcanParts, IsEdcanOf}
use Rattle.cany_relcan.specs.Relcan.{IsRelcanOf, RelcanParts}
use Rattle.cany_node.proofs.GiveFacts.{left_own}
use Rattle.cany_node.proofs.Idle.IdleFacts.{not_idle}
use Rattle.cany_node.proofs.ScriptSteps.{agenda_now, has_scripted, joins_now, leaves_now, script_listed}
use Rattle.cany_node.proofs.node.Node.plan.Goals as goal

pub send_due-requires-clause-own : goal.send_due-requires-clause-own
send_due-requires-clause-own c =
    let scenario = c.requires.scripts.scenario in
    let past = c.requires.scripts.past in
    let notice = c.requires.scripts.notice in
    let heard = subst (HasHeard scenario past notice) (sym c.self.view_is) c.requires.scripts.stands in
    left_own scenario c.self.inside.node c.args.slot _ c.self.inside.agenda (agenda_now scenario past notice c.args.slot _ heard c.requires.scripts.now) heard.totcan.backlog.own

pub send_due-requires-clause-room : goal.send_due-requires-clause-room
send_due-requires-clause-room c = omega (arith, c.requires.room, ap script_room c.self.view_is)

pub send_due-requires-clause-given : goal.send_due-requires-clause-given
send_due-requires-clause-given c =
    subst (λ (v : NodeParts). length v.totcan.backlog.given + length v.agenda.left ≤ v.totcan.backlog.room) (sym c.self.view_is) c.requires.scripts.stands.room_to_give

pub ask_due-requires-clause-slot : goal.ask_due-requires-clause-slot
ask_due-requires-clause-slot c =
    let scripts = c.requires.scripts in
    let heard = subst (HasHeard scripts.scenario scripts.past scripts.notice) (sym c.self.view_is) scripts.stands in
    subst (λ (p : Parameters). c.args.slot < p.slots) (sym heard.membership.views.limits.are_params) scripts.within

pub ask_due-requires-clause-room : goal.ask_due-requires-clause-room
ask_due-requires-clause-room c = omega (arith, c.requires.room, ap script_room c.self.view_is, c.send_due.ensures.few, c.send_due.ensures.room)

pub ask_due-requires-2-clause-slot : goal.ask_due-requires-2-clause-slot
ask_due-requires-2-clause-slot c =
    let scripts = c.requires.scripts in
    let heard = subst (HasHeard scripts.scenario scripts.past scripts.notice) (sym c.self.view_is) scripts.stands in
    subst (λ (m : MembershipParts). c.args.slot < m.views.params.slots) (sym c.ask_due.ensures.kept)
    (subst (λ (p : Parameters). c.args.slot < p.slots) (sym heard.membership.views.limits.are_params) scripts.within)

pub ask_due-requires-2-clause-room : goal.ask_due-requires-2-clause-room
ask_due-requires-2-clause-room c =
    omega (arith, c.requires.room, ap script_room c.self.view_is, c.send_due.ensures.few, c.send_due.ensures.room, c.ask_due.ensures.few, c.ask_due.ensures.room)

pub invariant_of-self : goal.invariant_of-self
invariant_of-self c = record { few = c.self.invariant.few; idle_until = not_idle _ _ c.forget_idle.ensures }

pub returns-clause-few : goal.returns-clause-few
returns-clause-few c = omega (arith, ap script_room c.self.view_is, c.send_due.ensures.few, c.ask_due.ensures.few, c.ask_due-2.ensures.few)

pub returns-clause-room : goal.returns-clause-room
returns-clause-room c = c.ask_due-2.ensures.room ∙ c.ask_due.ensures.room ∙ c.send_due.ensures.room

pub returns-clause-actions : goal.returns-clause-actions
returns-clause-actions c = λ scenario past notice stands now.
    let heard = subst (HasHeard scenario past notice) (sym c.self.view_is) stands in
    let leaves = rw c.ask_due.ensures.kept at c.ask_due-2.ensures.actions in
    script_listed scenario past notice c.args.slot _ heard now c.args.out.now.items c.send_due.new.out.items c.ask_due.new.out.items c.ask_due-2.new.out.items
    (c.send_due.ensures.asks scenario (agenda_now scenario past notice c.args.slot _ heard now))
    (c.ask_due.ensures.actions scenario (joins_now scenario past notice c.args.slot _ heard now))
    (leaves scenario (leaves_now scenario past notice c.args.slot _ heard now))
    ∙ ap (λ (v : NodeParts). c.args.out.now.items ++ actions_of scenario.params.format (script_effects scenario v.node (notice ∷ past))) c.self.view_is

pub returns-clause-stands : goal.returns-clause-stands
returns-clause-stands c = λ scenario past notice stands now.
    let heard = subst (HasHeard scenario past notice) (sym c.self.view_is) stands in
    let plan = agenda_now scenario past notice c.args.slot _ heard now in
    let leaves = rw c.ask_due.ensures.kept at c.ask_due-2.ensures.plan in
    let scripted =
    has_scripted scenario past notice c.args.slot _ heard now c.send_due.new.totcan c.send_due.new.agenda c.ask_due.new.plan c.ask_due-2.new.plan
    (c.send_due.ensures.gives scenario (notice ∷ past) _ _ plan heard.totcan) (c.send_due.ensures.agenda scenario plan)
    (c.ask_due.ensures.plan scenario (joins_now scenario past notice c.args.slot _ heard now))
    (leaves scenario (leaves_now scenario past notice c.args.slot _ heard now)) c.send_due.ensures.given in
    record {
      edcan = subst (λ (e : EdcanParts). IsEdcanOf scenario c.self.inside.node (notice ∷ past) e) (sym c.send_due.ensures.edcan) scripted.edcan;
      relcan = subst (λ (r : RelcanParts). IsRelcanOf scenario c.self.inside.node (notice ∷ past) r) (sym c.send_due.ensures.relcan) scripted.relcan;
      totcan = scripted.totcan;
      membership = subst (λ (m : MembershipParts). IsMembershipOf scenario c.self.inside.node (notice ∷ past) m)
          (sym (c.ask_due-2.ensures.kept ∙ c.ask_due.ensures.kept)) scripted.membership;
      agenda = scripted.agenda;
      joins = scripted.joins;
      leaves = scripted.leaves;
      room_to_give = scripted.room_to_give;
    }
