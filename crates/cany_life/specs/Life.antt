-- What a value of life signs and failure signs stands for.
use Rattle.std.specs.Prelude.{◌≡◌, ℕ, ◌+◌, ◌*◌, ◌<◌, ◌≤◌, true, List, [], ◌∷◌, length, slice_index_or}
use Rattle.std.specs.List.{list_any}
use Rattle.cany_base.specs.declared.notice.Notice.{Notice}
use Rattle.cany_base.specs.declared.notice.NoticeKind.{NoticeKind}
use Rattle.cany_base.specs.declared.notice.NoticeKind.TheVariants.{Idle}
use Rattle.cany_base.specs.Limits.{most_nodes}
use Rattle.cany_base.specs.Nodes.{Nodes, has, nobody}
use Rattle.cany_base.specs.Params.{Parameters}
use Rattle.cany_base.specs.Scenario.{ScenarioParts, IsLegalScenario}
use Rattle.cany_diffuse.specs.Eager.{EagerParts, copies_of, is_there}
use Rattle.cany_model.specs.Bus.History.{copies}
use Rattle.cany_model.specs.Rules.Life.{failures_at, life_sign, life_signs_sent}
use Rattle.cany_model.specs.Rules.Notices.{HasFewSigns, IsNextNotice}
use Rattle.cany_model.specs.Rules.Rooms.{cycles}
use Rattle.cany_model.specs.Rules.Knowledge.{FailureSign, Knowledge, fda_of, after_finding, knows, same_sign}

-- the node, the parameters, the nodes that have failed here, for each cycle the nodes whose sign of
-- that cycle is known, the copies of the frames of signs, for each node the slot in which it last
-- showed life, that of the node's own last life, and how many life signs of its own it has sent
pub record LifeParts : Type 0 where
  pub node : ℕ
  pub params : Parameters
  pub failed : Nodes
  pub known : List Nodes
  pub copies : EagerParts
  pub shown : List ℕ
  pub last : ℕ
  pub sent : ℕ

-- the number that stands for a sign
abbrev pub sign_number : FailureSign → ℕ
sign_number sign = sign.cycle * most_nodes + sign.node

-- the sign is that of a node of the bus, in a cycle of the run
pub record IsSignOf (scenario : ScenarioParts) (sign : FailureSign) : Type 0 where
  pub node : sign.node < scenario.params.nodes
  pub cycle : sign.cycle ≤ cycles scenario

-- a number that stands for such a sign
pub record IsSignNumber (scenario : ScenarioParts) (number : ℕ) : Type 0 where
  pub sign : FailureSign
  pub of : IsSignOf scenario sign
  pub stands : sign_number sign ≡ number

-- The table has of each sign the copies of its frame that stand in these notices. All that is there
-- is of signs that there can be, and there is room for each of them.
pub record AreCopies (scenario : ScenarioParts) (past : List NoticeKind) (table : EagerParts) : Type 0 where
  pub omit : table.omit ≡ scenario.params.omit
  pub room : table.room ≡ scenario.params.nodes * (cycles scenario + 1)
  pub copies : (sign : FailureSign) → sign.node < most_nodes → copies_of table (sign_number sign) ≡ copies (fda_of sign) past
  pub signs : (number : ℕ) → is_there table number ≡ true → IsSignNumber scenario number

-- those whose sign of a cycle is known
abbrev pub known_in : List Nodes → ℕ → Nodes
known_in known cycle = slice_index_or known cycle nobody

-- what never changes: the node is node i of the scenario, and has its parameters
pub record HasLimitsOf (scenario : ScenarioParts) (i node : ℕ) (params : Parameters) : Type 0 where
  pub legal : IsLegalScenario scenario
  pub is_node : node ≡ i
  pub are_params : params ≡ scenario.params

-- the sets, one for each cycle of the run, have the signs that are known
pub record AreKnown (scenario : ScenarioParts) (signs : List FailureSign) (sets : List Nodes) : Type 0 where
  pub cycles : length sets ≡ cycles scenario + 1
  pub known : (sign : FailureSign) → IsSignOf scenario sign → has (known_in sets sign.cycle) sign.node ≡ list_any (same_sign sign) signs

-- What is kept of lives is what is known of them, for each node the slot in which it last showed
-- life, and that of the node's own last life; and the node has sent so many life signs of its own
-- in these notices.
pub record AreLives (scenario : ScenarioParts) (i : ℕ) (past : List NoticeKind) (shown : ℕ → ℕ) (last : ℕ)
    (slots : List ℕ) (own sent : ℕ) : Type 0 where
  pub nodes : length slots ≡ most_nodes
  pub are_shown : (r : ℕ) → r < scenario.params.nodes → slice_index_or slots r 0 ≡ shown r
  pub is_last : own ≡ last
  pub are_sent : sent ≡ life_signs_sent i past
  pub few : HasFewSigns scenario i past (length past)

-- The value is that of node i after these notices, newest first, where it knows what this knowledge
-- knows, its members left aside: they are given to each call. The copies are those in notices of
-- their own, since they are counted in the middle of a turn.
pub record IsReading (scenario : ScenarioParts) (i : ℕ) (counted past : List NoticeKind) (knowledge : Knowledge) (v : LifeParts) : Type 0 where
  pub limits : HasLimitsOf scenario i v.node v.params
  pub failed : (r : ℕ) → has v.failed r ≡ has knowledge.failed r
  pub signs : AreKnown scenario knowledge.signs v.known
  pub copies : AreCopies scenario counted v.copies
  pub lives : AreLives scenario i past knowledge.shown knowledge.last v.shown v.last v.sent

-- the same between two turns
abbrev pub IsLifeOf : ScenarioParts → ℕ → List NoticeKind → Knowledge → LifeParts → Type 0
IsLifeOf scenario i past knowledge v = IsReading scenario i past past knowledge v

-- the notice can come next: of the node's own life signs there are not too many with it
pub record IsNextAt (scenario : ScenarioParts) (i : ℕ) (past : List NoticeKind) (notice : Notice) : Type 0 where
  pub next : IsNextNotice scenario past notice
  pub few : HasFewSigns scenario i (notice.kind ∷ past) notice.slot

-- there are notices, and what is known by them, that the value stands for, and this one can come
-- after them
pub record CanRead (v : LifeParts) (notice : Notice) : Type 0 where
  pub scenario : ScenarioParts
  pub past : List NoticeKind
  pub knowledge : Knowledge
  pub stands : IsLifeOf scenario v.node past knowledge v
  pub next : IsNextAt scenario v.node past notice

-- the value stands for notices the newest of which is that of the slot
pub record HasReadSlot (v : LifeParts) (slot : ℕ) : Type 0 where
  pub scenario : ScenarioParts
  pub past : List NoticeKind
  pub knowledge : Knowledge
  pub stands : IsLifeOf scenario v.node past knowledge v
  pub within : slot < scenario.params.slots
  pub newest : length past ≡ slot + 1

-- ---- an idle notice that leads to nothing

-- The value stands for one idle notice more as it is, and for what the node knew before it, its
-- members too. The node finds nobody by silence, and no life sign of its own is due.
pub record Rests (scenario : ScenarioParts) (i : ℕ) (past : List NoticeKind) (knowledge : Knowledge) (v : LifeParts) : Type 0 where
  pub stands : IsLifeOf scenario i (Idle ∷ past) knowledge v
  pub failures : failures_at scenario.params i Idle past knowledge ≡ []
  pub found : after_finding scenario.params i (length past) Idle knowledge ≡ knowledge
  pub sign : life_sign scenario.params.life 0 i (length past) knowledge (life_signs_sent i (Idle ∷ past)) ≡ []
