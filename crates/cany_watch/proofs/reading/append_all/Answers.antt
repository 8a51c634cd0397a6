use Rattle.cany_watch.proofs.Cuts.{entered_all, entered_more, entered_none, still_room}
use Rattle.cany_watch.proofs.reading.append_all.Goals as goal

pub loop-entry-init : goal.loop-entry-init
loop-entry-init c = entered_none c.args.out.now c.args.entries.now

pub push-requires : goal.push-requires
push-requires c =
    still_room c.args.out.now c.loop-entry.out c.args.entries.now c.loop-entry.entry-index c.loop-entry-test.true c.requires c.loop-entry.invariant

pub loop-entry-preserved : goal.loop-entry-preserved
loop-entry-preserved c =
    entered_more c.args.out.now c.loop-entry.out c.push.new.self c.args.entries.now c.loop-entry.entry-index c.entry-item.result
    c.loop-entry-test.true c.entry-item.is c.loop-entry.invariant c.push.ensures

pub returns : goal.returns
returns c = entered_all c.args.out.now c.loop-entry.out c.args.entries.now c.loop-entry.entry-index c.loop-entry-test.false c.loop-entry.invariant
