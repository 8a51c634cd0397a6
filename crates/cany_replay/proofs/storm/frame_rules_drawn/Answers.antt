use Rattle.std.proofs.Common.{◌*◌, ◌<◌, ap, length, arith, sym, ◌∙◌}
use Rattle.cany_base.specs.declared.message.MsgKey.{MsgKey}
use Rattle.cany_base.specs.declared.rule.Rule.{Rule}
use Rattle.cany_model.specs.Rules.Messages.{Message, messages_of}
use Rattle.cany_replay.specs.Storm.{fifth_rule_drawn, no_message, rule_drawn}
use Rattle.cany_replay.proofs.DrawFacts.{drawn-none, drawn-next}
use Rattle.cany_replay.proofs.MessagePlaces.{key_each, message_there}
use Rattle.rand_pcg.specs.Lcg.{Lcg}
use Rattle.cany_replay.proofs.storm.frame_rules_drawn.Goals as goal

pub loop-q-init : goal.loop-q-init
loop-q-init c = drawn-none (fifth_rule_drawn (messages_of c.args.sends.now)) _ _ c.in_ok-rules.ensures.items

pub bounds-keys-i : goal.bounds-keys-i
bounds-keys-i c =
    omega (arith, c.requires, c.loop-q-test.true, key_each c.args.sends.now c.as_slice-keys.result.now (c.as_slice-keys.ensures.value ∙ c.in_ok-keys.ensures))

pub bounds-keys-i-in-loop-q : goal.bounds-keys-i-in-loop-q
bounds-keys-i-in-loop-q c =
    omega (arith, c.requires, c.loop-q-test.true, key_each c.args.sends.now c.as_slice-keys.result.now (c.as_slice-keys.ensures.value ∙ c.in_ok-keys.ensures))

pub loop-q-preserved : goal.loop-q-preserved
loop-q-preserved c =
    let inside : 5 * c.loop-q.q < length c.args.sends.now = omega (arith, c.requires, c.loop-q-test.true) in
    let message = message_there c.args.sends.now (5 * c.loop-q.q) c.index-sends-i.result c.as_slice-keys.result.now c.index-keys-i.result no_message inside
    c.index-sends-i.is (c.as_slice-keys.ensures.value ∙ c.in_ok-keys.ensures) c.index-keys-i.is in
    let send = c.index-sends-i.result in
    let with_key : MsgKey → Rule × Lcg = λ key.
    rule_drawn (record { slot = send.slot; origin = send.node; seq = key.seq; service = send.service; payload = send.payload }) c.loop-q.words in
    drawn-next (fifth_rule_drawn (messages_of c.args.sends.now)) c.loop-q.q _ _ _ c.loop-q.rules.items _ c.rule_drawn-place.result c.loop-q.invariant
    (c.rule_drawn-place.ensures ∙ ap with_key (sym c.index-keys-i.is) ∙ ap (λ (m : Message). rule_drawn m c.loop-q.words) message) c.in_ok-push.ensures.items
