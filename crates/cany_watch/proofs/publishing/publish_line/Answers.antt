use Rattle.std.proofs.Common.{Bool, List, true, subst}
use Rattle.cany_base.specs.declared.log_entry.LogEntry.{LogEntry}
use Rattle.cany_watch.specs.Halls.{HasTakenUp}
use Rattle.cany_watch.specs.Lines.{line_of}
use Rattle.cany_watch.proofs.PublishFacts.{not_published, now_published}
use Rattle.cany_watch.proofs.publishing.publish_line.Goals as goal

pub returns-then-not-take_line : goal.returns-then-not-take_line
returns-then-not-take_line g c =
    not_published c.take_line.result (line_of c.args.world.now c.args.node) c.args.publisher.now c.take_line.new.publisher c.take_line.ensures c.requires.shown

pub returns : goal.returns
returns g c =
    let line : List LogEntry = line_of c.args.world.now c.args.node in
    let all : HasTakenUp true line c.args.publisher.now c.take_line.new.publisher =
    subst (λ (is : Bool). HasTakenUp is line c.args.publisher.now c.take_line.new.publisher) c.if-not-take_line.false c.take_line.ensures in
    now_published c.publish.result line c.args.publisher.now c.take_line.new.publisher c.publish.new.self all c.requires.shown c.publish.ensures.book c.publish.ensures.shown
