use Rattle.cany_watch.proofs.Showing.{follows_self, follows_trans}
use Rattle.cany_watch.proofs.watching.read_often.Goals as goal

pub loop-init : goal.loop-init
loop-init g c = follows_self c.args.reading.now

pub loop-preserved : goal.loop-preserved
loop-preserved g c = follows_trans c.args.reading.now c.loop.reading c.read.new.self c.loop.invariant c.read.ensures.list
