-- A restarted node does nothing before its first slot.
use Rattle.std.proofs.Common.{◌≡◌, ℕ, ◌<◌, ◌≤◌, List, [], ◌∷◌, length, refl, arith}
use Rattle.std.specs.List.{AllByRecursion, flat_map}
use Rattle.cany_base.specs.declared.notice.NoticeKind.{NoticeKind}
use Rattle.cany_base.specs.Scenario.{ScenarioParts}
use Rattle.cany_base.specs.Nodes.{nobody}
use Rattle.cany_model.specs.Bus.State.{Incarnation}
use Rattle.cany_model.specs.Rules.Protocol.{Protocol}
use Rattle.cany_model.specs.Rules.Turn.{protocols, turn_effects}
use Rattle.cany_model.proofs.Bus.Seen.{IsSeenPast}
use Rattle.cany_model.proofs.Rules.IdleBeforeTakingPart.{AreIdle, IsBegun}
use Rattle.cany_model.proofs.Rules.ProtocolFacts.{IsLawful}
use Rattle.cany_model.proofs.Rules.Protocols.{are_lawful}

none_of : (scenario : ScenarioParts) (i : ℕ) (past : List NoticeKind) → IsBegun scenario past → (ps : List Protocol) → AllByRecursion IsLawful ps
    → flat_map (λ p. p.effects scenario i past) ps ≡ []
none_of scenario i past begun [] lawful = refl
none_of scenario i past begun (p ∷ ps) lawful = rw (lawful.0.muted scenario i past begun) (none_of scenario i past begun ps lawful.1)

pub turn_muted : (scenario : ScenarioParts) (i : ℕ) (past : List NoticeKind) → IsBegun scenario past → turn_effects scenario i past ≡ []
unfolding turn_effects
turn_muted scenario i past begun = none_of scenario i past begun protocols are_lawful

all_idle : (inc : Incarnation) (past : List NoticeKind) → 0 < inc.number → IsSeenPast inc past → length past ≤ inc.from → AreIdle past
all_idle inc [] later seen short = tt
all_idle inc (e ∷ past) later seen short =
    (seen.0 later (omega (arith, short)), all_idle inc past later seen.1 (omega (arith, short)))

-- a restarted node that has read no slot in which it takes part has only begun
pub begun_later : (inc : Incarnation) (scenario : ScenarioParts) → scenario.from ≡ inc.from → scenario.members ≡ nobody → (past : List NoticeKind)
    → 0 < inc.number → IsSeenPast inc past → length past ≤ inc.from → IsBegun scenario past
begun_later inc scenario from outside past later seen short =
    record { idle = all_idle inc past later seen short; early = omega (arith, short, from); outside = λ some. outside }

pub does_nothing : (inc : Incarnation) (scenario : ScenarioParts) → scenario.from ≡ inc.from → scenario.members ≡ nobody → (i : ℕ) (e : NoticeKind)
    (past : List NoticeKind) → 0 < inc.number → IsSeenPast inc (e ∷ past) → length past < inc.from → turn_effects scenario i (e ∷ past) ≡ []
does_nothing inc scenario from outside i e past later seen early =
    turn_muted scenario i (e ∷ past) (begun_later inc scenario from outside (e ∷ past) later seen (omega (arith, early)))
