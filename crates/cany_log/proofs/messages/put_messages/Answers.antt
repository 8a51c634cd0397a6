use Rattle.std.proofs.Common.{◌≡◌, ◌-◌, ◌<◌, ◌++◌, drop, get_or, length, take, sym, ◌∙◌, ap, arith}
use Rattle.std.specs.List.{flat_map}
use Rattle.std.proofs.lemmas.List.{get_or-take, length-take}
use Rattle.cany_model.specs.Rules.Messages.{messages_of}
use Rattle.cany_model.specs.Runs.Run.{run}
-- a send has one message: of the model's own words
use Rattle.cany_model.proofs.Rules.Services.MessageKeys.{length-messages_of}
use Rattle.cany_log.specs.ReportItems.{message_text}
use Rattle.cany_log.proofs.PageFacts.{HasPut-start, HasPut-next}
use Rattle.cany_log.proofs.ReportFacts.{message_is}
use Rattle.cany_log.proofs.messages.put_messages.Goals as goal

pub loop-place-init : goal.loop-place-init
loop-place-init c =
    let all = length-messages_of c.args.world.now.scenario.sends in
    record {
      put = HasPut-start (message_text c.args.world.now.scenario (run c.args.world.now.scenario c.args.world.now.journal)) _ _ _
          (omega (arith, all, length-take c.args.end (messages_of c.args.world.now.scenario.sends), c.requires.order));
      short = omega arith;
      order = omega (arith, c.requires.order);
    }

pub key-requires : goal.key-requires
key-requires c = omega (arith, c.loop-place.invariant.put.within, length-take c.args.end (messages_of c.args.world.now.scenario.sends), c.requires.order)

pub settled_by-requires-clause-index : goal.settled_by-requires-clause-index
settled_by-requires-clause-index c = omega (arith, c.loop-place.invariant.put.within, length-take c.args.end (messages_of c.args.world.now.scenario.sends), c.requires.order)

pub loop-place-preserved : goal.loop-place-preserved
loop-place-preserved c =
    let scenario = c.args.world.now.scenario in
    let s = run c.args.world.now.scenario c.args.world.now.journal in
    let sends = c.sends-sends.ensures ∙ ap (λ s. s.sends) c.scenario.ensures in
    let near : c.loop-place.place - 1 < c.args.end = omega (arith, c.loop-place.invariant.put.within, length-take c.args.end (messages_of scenario.sends)) in
    let inside : c.loop-place.place - 1 < length scenario.sends = omega (arith, near, c.requires.order) in
    let is = c.index-sends-place.is ∙ ap (λ xs. get_or xs (c.loop-place.place - 1) c.index-sends-place.result) sends in
    let it = message_is scenario s (c.loop-place.place - 1) c.index-sends-place.result c.key.result c.settled_by.result inside is c.key.ensures c.settled_by.ensures in
    record {
      put = HasPut-next (message_text scenario s) _ _ _ _ _ _ c.loop-place.invariant.put (omega arith)
          (it.at ∙ sym (get_or-take c.args.end (messages_of scenario.sends) (c.loop-place.place - 1) it.message near))
          (rw (it.text, sym c.from-seq.ensures) c.put_message.ensures.text);
      short = omega (arith, c.loop-place.invariant.short, c.put_message.ensures.short);
      order = omega (arith, c.loop-place.invariant.order);
    }

pub returns : goal.returns
returns c =
    let at : c.loop-place.place ≡ c.args.first = omega (arith, c.loop-place.invariant.order) in
    let line = message_text c.args.world.now.scenario (run c.args.world.now.scenario c.args.world.now.journal) in
    c.loop-place.invariant.put.text ∙ ap (λ i. flat_map line (drop i (take c.args.end (messages_of c.args.world.now.scenario.sends))) ++ c.args.page.now) at
