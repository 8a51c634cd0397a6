use Rattle.std.proofs.Common.{◌≡◌, ◌<◌, length, ap, subst, arith, List}
use Rattle.std.specs.Prelude.{slice_get, IsSomeAnd}
use Rattle.cany_base.specs.declared.message.MsgKey.{MsgKey}
use Rattle.cany_model.specs.Rules.Messages.{message_key, messages_of}
use Rattle.cany_world.specs.World.{WorldParts}
use Rattle.cany_world.proofs.SettledFacts.{key_names, length-keys}
use Rattle.cany_world.proofs.world.World.key.Goals as goal

pub bounds-keys-index : goal.bounds-keys-index
bounds-keys-index c =
    let within : c.args.index < length c.self.inside.scenario.sends = omega (arith, c.requires, ap (λ (w : WorldParts). length w.scenario.sends) c.self.view_is) in
    omega (arith, within, ap (λ (k : List MsgKey). length k) c.as_slice-keys.ensures.value, length-keys c.self.inside.scenario.sends c.self.inside.keys.items c.self.invariant.keys)

pub returns : goal.returns
returns c =
    let within : c.args.index < length c.self.inside.scenario.sends = omega (arith, c.requires, ap (λ (w : WorldParts). length w.scenario.sends) c.self.view_is) in
    subst (λ (w : WorldParts). IsSomeAnd (slice_get (messages_of w.scenario.sends) c.args.index) (λ m. c.index-keys-index.result ≡ message_key m)) c.self.view_is
    (key_names c.self.inside.scenario.sends c.self.inside.keys.items c.as_slice-keys.result.now c.args.index c.index-keys-index.result c.self.invariant.keys within
    c.as_slice-keys.ensures.value c.index-keys-index.is)
