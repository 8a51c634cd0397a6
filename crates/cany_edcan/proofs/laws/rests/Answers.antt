use Rattle.cany_edcan.proofs.EdcanFacts.{rests}
use Rattle.cany_edcan.proofs.laws.rests.Goals as goal

pub returns : goal.returns
returns c = λ scenario past h. rests scenario c.args.edcan.now.node past c.args.edcan.now h
