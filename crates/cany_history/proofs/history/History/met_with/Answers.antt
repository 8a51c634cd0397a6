use Rattle.std.proofs.Common.{◌≡◌, rules}
use Rattle.cany_model.specs.Rules.Vectors.{met_with}
use Rattle.cany_history.proofs.MetFacts.{met_with_below}
use Rattle.cany_history.proofs.history.History.met_with.Goals as goal

pub returns-clause-below : goal.returns-clause-below
returns-clause-below c =
    let is : c.meet.result ≡ met_with c.args.self.now.params c.args.self.now.vector c.args.got = search rules in
    rw is (met_with_below c.args.self.now.params c.args.self.now.vector c.args.got c.requires.below)
