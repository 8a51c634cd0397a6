-- A turn: the notice, then what closes in it, then what is delivered.
use Rattle.std.proofs.Common.{◌≤◌, length, subst, arith}
use Rattle.cany_totcan.specs.Totcan.{TotcanParts}
use Rattle.cany_totcan.specs.TotcanSteps.{HaveGone}
use Rattle.cany_totcan.proofs.KnownFacts.{closed_few, known_closed, known_heard}
use Rattle.cany_totcan.proofs.TurnFacts.{turn_actions, turn_stands}
use Rattle.cany_totcan.proofs.totcan.Totcan.on.Goals as goal

pub close-requires-clause-known : goal.close-requires-clause-known
close-requires-clause-known c =
    let reads = c.requires.reads in
    known_heard reads.scenario c.args.self.now.node c.args.notice.now.kind reads.past reads.messages reads.count c.hear.new.self
    (c.hear.ensures.stands reads.scenario reads.past reads.messages reads.count reads.stands reads.next)

pub deliver_done-requires-clause-known : goal.deliver_done-requires-clause-known
deliver_done-requires-clause-known c =
    let reads = c.requires.reads in
    known_closed c.args.notice.now.slot c.hear.new.self c.close.new.self
    (known_heard reads.scenario c.args.self.now.node c.args.notice.now.kind reads.past reads.messages reads.count c.hear.new.self
    (c.hear.ensures.stands reads.scenario reads.past reads.messages reads.count reads.stands reads.next))
    c.close.ensures.state c.close.ensures.added

pub deliver_done-requires-clause-room : goal.deliver_done-requires-clause-room
deliver_done-requires-clause-room c =
    let reads = c.requires.reads in
    let few : length c.close.new.self.queue.items ≤ c.hear.new.self.queue.room =
    closed_few reads.scenario c.args.self.now.node c.args.notice.now.kind reads.past reads.messages reads.count c.args.notice.now.slot c.hear.new.self c.close.new.self
    (c.hear.ensures.stands reads.scenario reads.past reads.messages reads.count reads.stands reads.next) c.close.ensures.state in
    omega (arith, few, c.hear.ensures.queue, c.hear.ensures.few, c.hear.ensures.room, c.close.ensures.few, c.close.ensures.room, c.requires.room)

pub returns-clause-few : goal.returns-clause-few
returns-clause-few c =
    let reads = c.requires.reads in
    let few : length c.close.new.self.queue.items ≤ c.hear.new.self.queue.room =
    closed_few reads.scenario c.args.self.now.node c.args.notice.now.kind reads.past reads.messages reads.count c.args.notice.now.slot c.hear.new.self c.close.new.self
    (c.hear.ensures.stands reads.scenario reads.past reads.messages reads.count reads.stands reads.next) c.close.ensures.state in
    omega (arith, few, c.hear.ensures.queue, c.hear.ensures.few, c.close.ensures.few, c.deliver_done.ensures.few)

pub returns-clause-actions : goal.returns-clause-actions
returns-clause-actions c = λ scenario past messages count h next.
    let gone = subst (λ (w : TotcanParts). HaveGone c.args.notice.now.slot w c.deliver_done.new.self c.close.new.out.items c.deliver_done.new.out.items) c.close.ensures.state c.deliver_done.ensures.gone in
    turn_actions scenario c.args.self.now.node c.args.notice.now.kind past messages count c.hear.new.self (c.hear.ensures.stands scenario past messages count h next)
    c.args.notice.now.slot next.slot c.close.new.self.acceptances c.close.ensures.noted c.close.new.self.deliveries c.close.ensures.added c.deliver_done.new.self c.close.new.out.items c.deliver_done.new.out.items gone c.deliver_done.ensures.all c.hear.new.out.items c.args.out.now.items (c.hear.ensures.actions scenario past messages count h next) c.close.ensures.actions

pub returns-clause-stands : goal.returns-clause-stands
returns-clause-stands c = λ scenario past messages count h next.
    let gone = subst (λ (w : TotcanParts). HaveGone c.args.notice.now.slot w c.deliver_done.new.self c.close.new.out.items c.deliver_done.new.out.items) c.close.ensures.state c.deliver_done.ensures.gone in
    turn_stands scenario c.args.self.now.node c.args.notice.now.kind past messages count c.hear.new.self (c.hear.ensures.stands scenario past messages count h next)
    c.args.notice.now.slot next.slot c.close.new.self.acceptances c.close.ensures.noted c.close.new.self.deliveries c.close.ensures.added c.deliver_done.new.self c.close.new.out.items c.deliver_done.new.out.items gone c.deliver_done.ensures.all
