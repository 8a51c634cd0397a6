-- What the worked rows of the site are written with: life signs, failure signs, vectors, and asks
-- to join and to leave.
use Rattle.std.specs.Prelude.{ℕ, ◌++◌, List, [], ◌∷◌, replicate, reverse}
use Rattle.std.specs.List.{concat}
use Rattle.cany_base.specs.declared.class.Class.{Class}
use Rattle.cany_base.specs.declared.class.Class.TheVariants as class
use Rattle.cany_base.specs.declared.format.Format.TheVariants.{One}
use Rattle.cany_base.specs.declared.message.NodeAsk.{NodeAsk}
use Rattle.cany_base.specs.declared.notice.NoticeKind.{NoticeKind}
use Rattle.cany_base.specs.declared.notice.NoticeKind.TheVariants.{Idle}
use Rattle.cany_base.specs.Frame.{FrameParts}
use Rattle.cany_base.specs.Params.{Parameters}
use Rattle.cany_base.specs.Payload.{vector_bytes}
use Rattle.cany_base.specs.Scenario.{ScenarioParts}
use Rattle.cany_model.specs.Rules.Knowledge.{FailureSign}
use Rattle.cany_rows.proofs.RowWords.{row, set, three}

-- ---- frames

-- a frame of a class, with a node and a number and without payload; and the classes in their order
unfoldable pub plain : Class → ℕ → ℕ → FrameParts
plain c node number = record { class = c; number = number; node = node; inc = 0; payload = [] }

unfoldable pub classes : List Class
classes = class.Accept ∷ class.Rha ∷ class.Els ∷ class.Fda ∷ class.Join ∷ class.Leave ∷ class.Confirm ∷ class.Tot ∷ class.Rel ∷ class.Ed ∷ []

-- a life sign of a node, and the failure sign of a node that was found in a cycle
unfoldable pub els : ℕ → ℕ → FrameParts
els node number = record { class = class.Els; number = number; node = node; inc = 0; payload = [] }

unfoldable pub fda : ℕ → ℕ → FrameParts
fda node cycle = record { class = class.Fda; number = cycle; node = node; inc = 0; payload = [] }

-- the vector that a node sends in a cycle: the set of these bits
unfoldable pub rha : ℕ → ℕ → ℕ → FrameParts
rha node cycle bits = record { class = class.Rha; number = cycle; node = node; inc = 0; payload = vector_bytes One (set bits) }

-- the asks of a node, in a cycle
unfoldable pub join : ℕ → ℕ → FrameParts
join node cycle = record { class = class.Join; number = cycle; node = node; inc = 0; payload = [] }

unfoldable pub leave : ℕ → ℕ → FrameParts
leave node cycle = record { class = class.Leave; number = cycle; node = node; inc = 0; payload = [] }

-- ---- scenarios

unfoldable pub of_members : ℕ → ScenarioParts → ScenarioParts
of_members members sc = record sc { members = set members }

-- a scripted ask, and a scenario with these asks to join and to leave
unfoldable pub asks_at : ℕ → ℕ → NodeAsk
asks_at slot node = record { slot = slot; node = node }

unfoldable pub with_asks : List NodeAsk → List NodeAsk → ScenarioParts → ScenarioParts
with_asks joins leaves sc = record sc { joins = joins; leaves = leaves }

-- so many rounds of a journal
unfoldable pub rounds_of : ℕ → List ℕ → List ℕ
rounds_of n round = concat (replicate n round)

-- ---- what a node read and knows

unfoldable pub idle_slots : ℕ → List NoticeKind
idle_slots n = replicate n Idle

-- so many idle slots, and then these notices, the oldest first: what was read is newest first
unfoldable pub read : ℕ → List NoticeKind → List NoticeKind
read slots notices = reverse notices ++ replicate slots Idle

unfoldable pub sign : ℕ → ℕ → FailureSign
sign node cycle = record { node = node; cycle = cycle }

-- of a run: three nodes with cycles of 8 slots, which end in their slots 3; life signs and silence
-- lie far off
unfoldable pub short_cycles : ℕ → Parameters
short_cycles omit = record (three 99 omit 2) { bound = 3; cycle = 8; life = 60; silence = 90 }

-- opens all of these
unfoldable pub site_row : Unit {0}
unfolding row plain classes els fda rha join leave of_members asks_at with_asks rounds_of idle_slots read sign short_cycles
site_row = tt
