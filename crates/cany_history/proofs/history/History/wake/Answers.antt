-- No cycle starts or ends before the slot that is answered.
use Rattle.std.proofs.Common.{◌≡◌, length, ap, ◌∙◌}
use Rattle.cany_history.specs.History.{HistoryParts}
use Rattle.cany_history.specs.HistorySteps.{IsPlain}
use Rattle.cany_history.proofs.CycleFacts.{has_cycles}
use Rattle.cany_history.proofs.RestFacts.{rests}
use Rattle.cany_history.proofs.history.History.wake.Goals as goal

pub returns : goal.returns
returns c = record {
  rests = λ scenario past vector h after before.
      let params : c.self.inside.params ≡ scenario.params = ap (λ (v : HistoryParts). v.params) c.self.view_is ∙ h.limits.are_params in
      let cycles = has_cycles scenario h.limits.legal in
      let none : IsPlain scenario.params (length past) = rw params at c.next_start_or_end.ensures cycles.long (length past) after before in
      rests scenario c.args.self.now.node past vector c.args.self.now h none;
}
