use Rattle.std.proofs.Common.{◌≡◌, ◌∙◌, ℕ, List, Some, ap, map, subst, sym}
use Rattle.cany_base.specs.declared.actions.Action.TheVariants.{Enter}
use Rattle.cany_io.specs.Sink.{Takes, TakesPrefix}
use Rattle.cany_watch.specs.Lines.{line_of}
use Rattle.cany_watch.proofs.TopFacts.{text_read}
use Rattle.cany_watch.proofs.top.watch_world.Goals as goal

pub returns-in-Ok-write_watched-clause-written : goal.returns-in-Ok-write_watched-clause-written
returns-in-Ok-write_watched-clause-written g c = λ words named.
    let node : c.args.node ≡ c.get.result = sym c.get.ensures.value in
    let read : c.as_slice.result.now ≡ map Enter (line_of c.args.world.now c.get.result) =
    c.as_slice.ensures.items ∙ c.in-Ok.ensures ∙ ap (λ (n : ℕ). map Enter (line_of c.args.world.now n)) node in
    subst (λ (text : List ℕ). Takes (g.K.Sink.taken c.args.sink.now) text (g.K.Sink.taken c.write_watched.new.sink))
    (text_read words c.get.result c.args.world.now.scenario c.args.world.now.journal c.as_slice.result.now (named ∙ ap (λ (n : ℕ). Some n) node) read)
    c.in-Ok-write_watched.ensures.bytes

pub returns-clause-prefix : goal.returns-clause-prefix
returns-clause-prefix g c = λ failed words named.
    let node : c.args.node ≡ c.get.result = sym c.get.ensures.value in
    let read : c.as_slice.result.now ≡ map Enter (line_of c.args.world.now c.get.result) =
    c.as_slice.ensures.items ∙ c.in-Ok.ensures ∙ ap (λ (n : ℕ). map Enter (line_of c.args.world.now n)) node in
    subst (λ (text : List ℕ). TakesPrefix (g.K.Sink.taken c.args.sink.now) text (g.K.Sink.taken c.write_watched.new.sink))
    (text_read words c.get.result c.args.world.now.scenario c.args.world.now.journal c.as_slice.result.now (named ∙ ap (λ (n : ℕ). Some n) node) read)
    c.write_watched.ensures.prefix
