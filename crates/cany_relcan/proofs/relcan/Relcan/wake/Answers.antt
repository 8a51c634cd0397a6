use Rattle.std.proofs.Common.{◌≤◌, ◌+◌, subst}
use Rattle.cany_relcan.specs.Relcan.{RelcanParts}
use Rattle.cany_relcan.specs.Timers.{oldest_start}
use Rattle.cany_relcan.proofs.RestFacts.{rests_before, saturated}
use Rattle.cany_relcan.proofs.relcan.Relcan.wake.Goals as goal

pub returns : goal.returns
returns c = record {
  rests = λ scenario past notice h before other.
      let v = c.args.self.now in
      let wake = c.saturating_add.result in
      rests_before scenario v.node notice other past v h wake
      (subst (λ (x : RelcanParts). wake ≤ oldest_start x.timers.running + x.confirm) c.self.view_is
      (subst (λ n. wake ≤ n + c.self.inside.confirm) c.oldest.ensures (saturated c.oldest.result c.self.inside.confirm _ wake c.saturating_add.ensures))) before;
}
