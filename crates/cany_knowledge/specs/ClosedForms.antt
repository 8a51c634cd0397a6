-- What a node knows of the site, each part by itself and of all that it has read: in which slot a
-- node last showed life, who has asked to join and to leave, and what its vector is. The steps of a
-- turn are not in it.
use Rattle.std.specs.Prelude.{◌≡◌, ℕ, suc, ◌-◌, ◌*◌, ◌<◌, ◌≤◌, ◌⊎◌, ◌==◌, ◌&&◌, ◌||◌, ◌++◌, Bool, true, false, not, nat_lt, if◌then◌else◌, List, [], ◌∷◌, drop, length, Option, Some, None}
use Rattle.std.specs.List.{list_all}
use Rattle.cany_base.specs.declared.class.Class.TheVariants as class
use Rattle.cany_base.specs.declared.notice.NoticeKind.{NoticeKind}
use Rattle.cany_base.specs.declared.notice.NoticeKind.TheVariants.{Idle, Got, Sent, Bad}
use Rattle.cany_base.specs.Cycles.{cycle_of, is_end}
use Rattle.cany_base.specs.Nodes.{Nodes, has, those_where, minus, plus}
use Rattle.cany_base.specs.Params.{Parameters}
use Rattle.cany_base.specs.Scenario.{ScenarioParts}
use Rattle.cany_model.specs.Bus.Frames.{same_class}
use Rattle.cany_model.specs.Rules.Knowledge.{hears_life, shows_life}
use Rattle.cany_model.specs.Rules.KnowledgeOf.{knowledge_of}
use Rattle.cany_model.specs.Rules.Vectors.{everybody, vector_in}

-- ---- the slots that were read

-- what had been read by the end of the turn of a slot, the notice of this slot first
abbrev pub up_to : ℕ → List NoticeKind → List NoticeKind
up_to slot past = drop (length past - suc slot) past

-- the slot was read, and the test holds of what had been read by then
pub record HoldsIn (test : List NoticeKind → Bool) (past : List NoticeKind) (slot : ℕ) : Type 0 where
  pub read : slot < length past
  pub holds : test (up_to slot past) ≡ true

-- the greatest of 0 and the slots in which the test holds
pub record IsGreatest (test : List NoticeKind → Bool) (past : List NoticeKind) (greatest : ℕ) : Type 0 where
  pub one : (greatest ≡ 0) ⊎ HoldsIn test past greatest
  pub most : (slot : ℕ) → HoldsIn test past slot → slot ≤ greatest

-- the first test holds in some slot, and from this slot on the second one holds in none
pub record HoldsSince (test stop : List NoticeKind → Bool) (past : List NoticeKind) : Type 0 where
  pub slot : ℕ
  pub holds : HoldsIn test past slot
  pub since : (later : ℕ) → slot ≤ later → later < length past → stop (up_to later past) ≡ false

-- ---- the vector of a cycle

abbrev pub members_of : ScenarioParts → ℕ → List NoticeKind → Nodes
members_of scenario i past = (knowledge_of scenario i past).members

-- the vector of cycle k that the frame has which is got
abbrev pub vector_got : Parameters → ℕ → NoticeKind → Option Nodes
vector_got p k Idle = None
vector_got p k (Got f) = vector_in p.format k f
vector_got p k (Sent f) = None
vector_got p k Bad = None

abbrev pub listed : Option Nodes → List Nodes
listed None = []
listed (Some v) = v ∷ []

-- those that were got in the slots after the start of the cycle
unfoldable pub vectors_got : Parameters → ℕ → List NoticeKind → List Nodes
vectors_got p k [] = []
vectors_got p k (notice ∷ older) =
    if nat_lt (k * p.cycle) (length older) then listed (vector_got p k notice) ++ vectors_got p k older else []

-- the nodes of a set that are in each of these vectors
abbrev pub met_with_all : Nodes → List Nodes → Nodes
met_with_all set vectors = those_where (λ r. has set r && list_all (λ v. has v r) vectors)

abbrev pub met_with_some : Nodes → List Nodes → Option Nodes
met_with_some set [] = None
met_with_some set (v ∷ vectors) = Some (met_with_all set (v ∷ vectors))

-- The vector of node i in cycle k. A member starts with the members that have not failed and do not
-- leave, and with those that join: this set is met with all vectors that were got since. Another
-- node has none until it gets one, and meets the set of all nodes.
unfoldable pub vector_of_cycle : ScenarioParts → (i k : ℕ) → List NoticeKind → Option Nodes
vector_of_cycle scenario i k past =
    let start = knowledge_of scenario i (up_to (k * scenario.params.cycle) past) in
    let got = vectors_got scenario.params k past in
    if has start.members i then Some (met_with_all (plus (minus (minus start.members start.failed) start.leavers) start.joiners) got)
    else met_with_some (everybody scenario.params) got

-- the vector that becomes the view in the newest slot
unfoldable pub installed_in : ScenarioParts → ℕ → List NoticeKind → Option Nodes
installed_in scenario i [] = None
installed_in scenario i (notice ∷ older) =
    if is_end scenario.params (length older) then vector_of_cycle scenario i (cycle_of scenario.params (length older)) (notice ∷ older) else None

-- ---- tests of the newest slot

abbrev pub hears_itself : ℕ → NoticeKind → Bool
hears_itself i Idle = false
hears_itself i (Got f) = false
hears_itself i (Sent f) = shows_life f && f.node == i
hears_itself i Bad = false

-- node r comes into the view of node i
unfoldable pub is_admitted_in : ScenarioParts → (i r : ℕ) → List NoticeKind → Bool
is_admitted_in scenario i r [] = false
is_admitted_in scenario i r (notice ∷ older) = has (members_of scenario i (notice ∷ older)) r && not (has (members_of scenario i older) r)

-- a frame that shows that node r lives is got, or node r comes into the view
unfoldable pub shows_life_in : ScenarioParts → (i r : ℕ) → List NoticeKind → Bool
shows_life_in scenario i r [] = false
shows_life_in scenario i r (notice ∷ older) = is_admitted_in scenario i r (notice ∷ older) || hears_life r notice

-- node i reads that it has sent such a frame of its own, or comes into its own view
unfoldable pub shows_own_life_in : ScenarioParts → ℕ → List NoticeKind → Bool
shows_own_life_in scenario i [] = false
shows_own_life_in scenario i (notice ∷ older) = is_admitted_in scenario i i (notice ∷ older) || hears_itself i notice

abbrev pub hears_join : ℕ → NoticeKind → Bool
hears_join r Idle = false
hears_join r (Got f) = same_class f.class class.Join && r == f.node
hears_join r (Sent f) = false
hears_join r Bad = false

abbrev pub hears_leave : ℕ → NoticeKind → Bool
hears_leave r Idle = false
hears_leave r (Got f) = same_class f.class class.Leave && r == f.node
hears_leave r (Sent f) = same_class f.class class.Leave && r == f.node
hears_leave r Bad = false

-- a JOIN of node r is got while it is outside the view before the turn
unfoldable pub joins_in : ScenarioParts → (i r : ℕ) → List NoticeKind → Bool
joins_in scenario i r [] = false
joins_in scenario i r (notice ∷ older) = hears_join r notice && not (has (members_of scenario i older) r)

-- a LEAVE of node r is got, or is the node's own, while it is in the view before the turn
unfoldable pub leaves_in : ScenarioParts → (i r : ℕ) → List NoticeKind → Bool
leaves_in scenario i r [] = false
leaves_in scenario i r (notice ∷ older) = hears_leave r notice && has (members_of scenario i older) r

-- a vector is installed that has the node, and one that has it not
abbrev pub is_with : ℕ → Option Nodes → Bool
is_with r None = false
is_with r (Some v) = has v r

abbrev pub is_without : ℕ → Option Nodes → Bool
is_without r None = false
is_without r (Some v) = not (has v r)
