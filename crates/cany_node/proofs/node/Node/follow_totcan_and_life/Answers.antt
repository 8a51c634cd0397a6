use Rattle.std.proofs.Common.{◌≡◌, length, sym, subst, refl, ap, arith}
use Rattle.cany_base.proofs.ParamsFacts.{few_slots}
use Rattle.cany_node.specs.Membership.{IsNextOf}
use Rattle.cany_node.specs.Node.{IsNodeOf, NodeParts}
use Rattle.cany_node.proofs.ActSteps.{acted_cleared, listed_acted, listed_apply}
use Rattle.cany_node.proofs.OwnNode.{totcan_now}
use Rattle.cany_node.proofs.RoomsSuffice.{actions_within}
use Rattle.cany_node.proofs.TotcanAndLifeTurn.{totcan_and_life_turn}
use Rattle.cany_node.proofs.node.Node.follow_totcan_and_life.Goals as goal

pub apply_all-requires : goal.apply_all-requires
apply_all-requires c =
    listed_apply c.args.notice.now _ _ _ c.self.view_is _ c.follow_totcan-totcan.new.out.items c.args.ctl.now c.args.out.now c.requires.acts
    (totcan_and_life_turn c.args.notice.now _ _ c.self.view_is c.requires.brings c.requires.idle c.requires.relcan c.follow_totcan-totcan.new.totcan c.see-site.new.self
    c.args.out.now.items _ c.requires.acts.free c.follow_totcan-totcan.ensures.actions c.follow_totcan-totcan.ensures.stands
    c.see-site.ensures.none c.see-site.ensures.stands)
    c.self.invariant.few

pub returns : goal.returns
returns c =
    acted_cleared c.args.notice.now _ _ _ _ _ c.follow_totcan-totcan.new.out _
    (listed_acted c.args.notice.now _ _ _ c.self.view_is _ c.follow_totcan-totcan.new.out.items c.args.ctl.now c.args.out.now c.requires.acts
    (totcan_and_life_turn c.args.notice.now _ _ c.self.view_is c.requires.brings c.requires.idle c.requires.relcan c.follow_totcan-totcan.new.totcan c.see-site.new.self
    c.args.out.now.items _ c.requires.acts.free c.follow_totcan-totcan.ensures.actions c.follow_totcan-totcan.ensures.stands
    c.see-site.ensures.none c.see-site.ensures.stands)
    c.apply_all.new.ctl c.self.inside.log c.apply_all.new.log refl refl c.apply_all.ensures)
    c.clear.ensures c.follow_totcan-totcan.ensures.room c.requires.acts.free

pub overflow_add-self : goal.overflow_add-self
overflow_add-self c =
    let acts = c.requires.acts in
    omega (arith, acts.next.next.within, few_slots acts.scenario.params acts.stands.legal.in_range)

pub see-site-requires-clause-rests : goal.see-site-requires-clause-rests
see-site-requires-clause-rests c =
    let before = subst (λ (v : NodeParts). v.read ≡ c.args.notice.now.slot) (sym c.self.view_is) (omega (arith, c.requires.acts.stands.read, c.requires.acts.next.next.slot)) in
    λ scenario i past h later early within. c.self.invariant.idle_until.membership scenario i past h (omega (arith, later, before)) early within

pub invariant_of-self : goal.invariant_of-self
invariant_of-self c = record {
  few = c.self.invariant.few;
  idle_until = record {
    totcan = λ scenario past messages count is early. c.follow_totcan-totcan.ensures.rests scenario past messages count is (omega (arith, early, c.min-self-inside.ensures));
    membership = λ scenario i past is later early within. c.see-site.ensures.rests scenario i past is later (omega (arith, early, c.min-self-inside.ensures)) within;
    sends = λ n early. c.self.invariant.idle_until.sends n (omega (arith, early, c.min-self-inside.ensures, c.see-site.ensures.sooner));
    joins = λ n early. c.self.invariant.idle_until.joins n (omega (arith, early, c.min-self-inside.ensures, c.see-site.ensures.sooner));
    leaves = λ n early. c.self.invariant.idle_until.leaves n (omega (arith, early, c.min-self-inside.ensures, c.see-site.ensures.sooner));
  };
}

pub follow_totcan-totcan-requires-clause-reads : goal.follow_totcan-totcan-requires-clause-reads
follow_totcan-totcan-requires-clause-reads c =
    let acts = c.requires.acts in
    let kept = subst (IsNodeOf acts.scenario acts.past) (sym c.self.view_is) acts.stands in
    record {
      scenario = acts.scenario;
      past = acts.past;
      messages = _;
      count = _;
      stands = totcan_now acts.scenario acts.past _ kept;
      next = acts.next.next;
    }

pub follow_totcan-totcan-requires-clause-rests : goal.follow_totcan-totcan-requires-clause-rests
follow_totcan-totcan-requires-clause-rests c = c.self.invariant.idle_until.totcan

pub follow_totcan-totcan-requires-clause-room : goal.follow_totcan-totcan-requires-clause-room
follow_totcan-totcan-requires-clause-room c =
    let acts = c.requires.acts in
    omega (
      arith,
      actions_within acts.scenario acts.past c.args.self.now acts.stands,
      ap length acts.free,
      acts.actions,
      ap (λ (v : NodeParts). v.totcan.queue.room) c.self.view_is,
    )

pub see-site-requires-clause-hears : goal.see-site-requires-clause-hears
see-site-requires-clause-hears c = record {
  scenario = c.requires.acts.scenario;
  node = c.self.inside.node;
  past = c.requires.acts.past;
  stands = (subst (IsNodeOf c.requires.acts.scenario c.requires.acts.past) (sym c.self.view_is) c.requires.acts.stands).membership;
  next = subst (λ (v : NodeParts). IsNextOf c.requires.acts.scenario v.node c.requires.acts.past c.args.notice.now) (sym c.self.view_is) c.requires.acts.next;
}
