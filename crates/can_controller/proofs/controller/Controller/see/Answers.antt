use Rattle.std.proofs.Common.{◌≡◌, ◌+◌, ◌<◌, length, true, false, ap, sym, ◌∙◌, refl, arith}
use Rattle.std.specs.Prelude.{Some, None, if◌then◌else◌}
use Rattle.cany_model.specs.declared.share.Share.{Share}
use Rattle.cany_model.specs.Bus.Slot.{after_share, exceeds}
use Rattle.cany_model.specs.Bus.State.{NodeState}
use Rattle.circular_buffer.specs.Buffer.{Buffer}
use Rattle.cany_base.specs.declared.notice.Notice.{Notice}
use Rattle.can_controller.specs.declared.controller.Controller.TheInside.{Inside}
use Rattle.can_controller.specs.Controller.{node_state}
use Rattle.can_controller.specs.ControllerFields.{controller_state}
use Rattle.can_controller.proofs.SeenFacts.{within_limit, state_seen}
use Rattle.can_controller.proofs.controller.Controller.see.Goals as goal

-- the node that the controller is part of, once it has had the share
abbrev after_by : Share → Inside → NodeState
after_by share controller = after_share share (node_state (controller_state controller))

pub invariant_of-self-else-exceed_limit : goal.invariant_of-self-else-exceed_limit
invariant_of-self-else-exceed_limit c =
    let transmit = c.after-self-inside.ensures.transmit (node_state (controller_state c.self.inside)) refl in
    let receive = c.after-self-inside.ensures.receive (node_state (controller_state c.self.inside)) refl in
    let low : exceeds (after_by c.args.share c.self.inside) ≡ false = sym (c.exceed_limit.ensures (after_by c.args.share c.self.inside) (sym transmit) (sym receive)) ∙ c.if-exceed_limit.false in
    record {
      format = c.settle.ensures.format ∙ c.self.invariant.format;
      lag = c.self.invariant.lag;
      ring = ap (λ (b : Buffer Notice). b.capacity) c.keep.ensures ∙ c.self.invariant.ring;
      counting = λ _. rw (transmit, receive) (within_limit (after_by c.args.share c.self.inside) low);
    }

pub returns-then-exceed_limit : goal.returns-then-exceed_limit
returns-then-exceed_limit c =
    let transmit = c.after-self-inside.ensures.transmit (node_state (controller_state c.self.inside)) refl in
    let receive = c.after-self-inside.ensures.receive (node_state (controller_state c.self.inside)) refl in
    let many : exceeds (after_by c.args.share c.self.inside) ≡ true = sym (c.exceed_limit.ensures (after_by c.args.share c.self.inside) (sym transmit) (sym receive)) ∙ c.if-exceed_limit.true in
    rw (← c.self.view_is)
    (state_seen c.args.slot c.args.share c.self.inside c.settle.new.self c.after-self-inside.result c.keep.new.ring c.notice_of-kind.result (Some c.args.slot)
    (c.settle.ensures.frames (node_state (controller_state c.self.inside)) refl) c.settle.ensures.room transmit receive c.keep.ensures c.notice_of-kind.ensures
    (ap (λ b. if b then Some c.args.slot else None) (sym many)))

pub returns-else-exceed_limit : goal.returns-else-exceed_limit
returns-else-exceed_limit c =
    let transmit = c.after-self-inside.ensures.transmit (node_state (controller_state c.self.inside)) refl in
    let receive = c.after-self-inside.ensures.receive (node_state (controller_state c.self.inside)) refl in
    let low : exceeds (after_by c.args.share c.self.inside) ≡ false = sym (c.exceed_limit.ensures (after_by c.args.share c.self.inside) (sym transmit) (sym receive)) ∙ c.if-exceed_limit.false in
    let running : c.self.inside.stopped ≡ None = rw (← c.self.view_is) at c.requires.running in
    rw (← c.self.view_is)
    (state_seen c.args.slot c.args.share c.self.inside c.settle.new.self c.after-self-inside.result c.keep.new.ring c.notice_of-kind.result c.self.inside.stopped
    (c.settle.ensures.frames (node_state (controller_state c.self.inside)) refl) c.settle.ensures.room transmit receive c.keep.ensures c.notice_of-kind.ensures
    (running ∙ ap (λ b. if b then Some c.args.slot else None) (sym low)))

pub keep-requires : goal.keep-requires
keep-requires c =
    let unread : length c.self.inside.notices.items < c.self.inside.params.lag + 1 = rw (← c.self.view_is) at c.requires.room in
    omega (arith, c.self.invariant.ring)
