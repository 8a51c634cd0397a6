use Rattle.cany_history.proofs.ActFacts.{turn_acts}
use Rattle.cany_history.proofs.TurnFacts.{after_node, after_params, after_stands, end_run, end_start, ended_has_below, ended_is, few_copies, in_run, own_below, read_below, read_run}
use Rattle.cany_history.proofs.history.History.on.Goals as goal

pub read-requires-clause-run : goal.read-requires-clause-run
read-requires-clause-run c =
    let reads = c.requires.reads in
    in_run reads.scenario c.args.self.now.node reads.past reads.vector c.args.notice.now c.args.self.now reads.stands reads.next

pub read-requires-clause-below : goal.read-requires-clause-below
read-requires-clause-below c =
    let reads = c.requires.reads in
    own_below reads.scenario c.args.self.now.node reads.past reads.vector c.args.notice.now c.args.self.now reads.stands reads.next

pub read-requires-clause-few : goal.read-requires-clause-few
read-requires-clause-few c =
    let reads = c.requires.reads in
    few_copies reads.scenario c.args.self.now.node reads.past reads.vector c.args.notice.now c.args.self.now reads.stands reads.next

pub end-ended-requires-clause-run : goal.end-ended-requires-clause-run
end-ended-requires-clause-run c =
    let reads = c.requires.reads in
    read_run reads.scenario c.args.self.now.node reads.past reads.vector c.args.notice.now c.args.self.now reads.stands reads.next
    c.read.new.self c.read.ensures.state

pub end-ended-requires-clause-below : goal.end-ended-requires-clause-below
end-ended-requires-clause-below c =
    let reads = c.requires.reads in
    read_below reads.scenario c.args.self.now.node reads.past reads.vector c.args.notice.now c.args.self.now reads.stands reads.next
    c.read.new.self c.read.ensures.state

pub start-requires-clause-run : goal.start-requires-clause-run
start-requires-clause-run c =
    let reads = c.requires.reads in
    end_run reads.scenario c.args.self.now.node reads.past reads.vector c.args.notice.now c.args.self.now reads.stands reads.next
    c.read.new.self c.read.ensures.state c.end-ended.new.self c.end-ended.ensures.state

pub start-requires-clause-start : goal.start-requires-clause-start
start-requires-clause-start c =
    let reads = c.requires.reads in
    end_start reads.scenario c.args.self.now.node reads.past reads.vector c.args.notice.now c.args.self.now reads.stands reads.next
    c.read.new.self c.read.ensures.state c.end-ended.new.self c.end-ended.ensures.state c.args.start c.requires.start

pub returns-clause-ended : goal.returns-clause-ended
returns-clause-ended c = λ scenario past vector h next.
    ended_is scenario c.args.self.now.node past vector c.args.notice.now c.args.self.now h next c.read.new.self c.read.ensures.state
    c.end-ended.new.self c.end-ended.ensures.state c.end-ended.result c.end-ended.ensures.ended

pub returns-clause-below : goal.returns-clause-below
returns-clause-below c =
    let reads = c.requires.reads in
    ended_has_below reads.scenario c.args.self.now.node reads.past reads.vector c.args.notice.now c.args.self.now reads.stands reads.next
    c.read.new.self c.read.ensures.state c.end-ended.new.self c.end-ended.ensures.state c.end-ended.result c.end-ended.ensures.ended

pub returns-clause-actions : goal.returns-clause-actions
returns-clause-actions c = λ scenario past vector h next.
    turn_acts scenario c.args.self.now.node past vector c.args.notice.now c.args.self.now h next c.read.new.self c.read.ensures.state
    c.end-ended.new.self c.end-ended.ensures.state c.args.start c.requires.start
    c.args.out.now.items c.read.new.out.items c.end-ended.new.out.items c.start.new.out.items
    c.read.ensures.actions c.end-ended.ensures.actions c.start.ensures.actions

pub returns-clause-stands : goal.returns-clause-stands
returns-clause-stands c = λ scenario past vector h next.
    after_stands scenario c.args.self.now.node past vector c.args.notice.now c.args.self.now h next c.read.new.self c.read.ensures.state
    c.end-ended.new.self c.end-ended.ensures.state c.args.start c.requires.start c.start.new.self c.start.ensures.state

pub returns-clause-node : goal.returns-clause-node
returns-clause-node c =
    let reads = c.requires.reads in
    after_node reads.scenario c.args.self.now.node reads.past reads.vector c.args.notice.now c.args.self.now reads.stands reads.next
    c.read.new.self c.read.ensures.state c.end-ended.new.self c.end-ended.ensures.state c.args.start c.requires.start c.start.new.self c.start.ensures.state

pub returns-clause-params : goal.returns-clause-params
returns-clause-params c =
    let reads = c.requires.reads in
    after_params reads.scenario c.args.self.now.node reads.past reads.vector c.args.notice.now c.args.self.now reads.stands reads.next
    c.read.new.self c.read.ensures.state c.end-ended.new.self c.end-ended.ensures.state c.args.start c.requires.start c.start.new.self c.start.ensures.state
