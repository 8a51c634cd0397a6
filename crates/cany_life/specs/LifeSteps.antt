-- What a notice, and a sign that becomes known, do to a value of life signs and failure signs, and
-- the actions that a sign calls for.
use Rattle.std.specs.Prelude.{◌≡◌, ℕ, zero, suc, ◌+◌, ◌-◌, ◌<◌, ◌≤◌, ◌==◌, ◌&&◌, Bool, true, not, nat_le, if◌then◌else◌, List, [], ◌∷◌, ◌++◌, length, slice_index_or, slice_set}
use Rattle.std.specs.List.{flat_map}
use Rattle.cany_base.specs.Cycles.{cycle_of}
use Rattle.cany_base.specs.declared.actions.Action.{Action}
use Rattle.cany_base.specs.declared.actions.Action.TheVariants.{Ask, Enter}
use Rattle.cany_base.specs.declared.class.Class.TheVariants as class
use Rattle.cany_base.specs.declared.log_entry.LogEntry.TheVariants.{Failed}
use Rattle.cany_base.specs.declared.notice.Notice.{Notice}
use Rattle.cany_base.specs.declared.notice.NoticeKind.{NoticeKind}
use Rattle.cany_base.specs.declared.notice.NoticeKind.TheVariants.{Idle, Got, Sent, Bad}
use Rattle.cany_base.specs.Limits.{most_nodes, most_numbers}
use Rattle.cany_base.specs.Nodes.{Nodes, has, with_node}
use Rattle.cany_base.specs.Scenario.{ScenarioParts}
use Rattle.cany_diffuse.specs.Eager.{copies_of}
use Rattle.cany_model.specs.Bus.Frames.{same_class}
use Rattle.cany_model.specs.Rules.Notices.{IsNextNotice}
use Rattle.cany_model.specs.Rules.Knowledge.{FailureSign, Knowledge, fda_frame, shows_life, sign_in}
use Rattle.cany_life.specs.Life.{IsReading, LifeParts, known_in, sign_number}

-- ---- who shows life

-- the slot in which a node last showed life
abbrev pub shown_by : LifeParts → ℕ → ℕ
shown_by v r = slice_index_or v.shown r 0

unfoldable pub heard : ℕ → NoticeKind → LifeParts → LifeParts
heard slot Idle v = v
heard slot (Got f) v = if shows_life f then record v { shown = slice_set v.shown f.node slot } else v
heard slot (Sent f) v = if f.node == v.node then record v {
  last = if shows_life f then slot else v.last;
  sent = v.sent + (if same_class f.class class.Els then 1 else 0);
} else v
heard slot Bad v = v

-- ---- a sign becomes known

abbrev pub is_known : FailureSign → LifeParts → Bool
is_known sign v = has (known_in v.known sign.cycle) sign.node

unfoldable pub marked : FailureSign → LifeParts → LifeParts
marked sign v = record v {
  failed = with_node sign.node v.failed;
  known = slice_set v.known sign.cycle (with_node sign.node (known_in v.known sign.cycle));
}

-- these, one after another
unfoldable pub all_marked : List FailureSign → LifeParts → LifeParts
all_marked [] v = v
all_marked (sign ∷ signs) v = all_marked signs (marked sign v)

-- the sign, where it is not known
abbrev pub unknown : FailureSign → LifeParts → List FailureSign
unknown sign v = if is_known sign v then [] else sign ∷ []

-- whether more than omit copies of its frame were read
abbrev pub has_enough_of : LifeParts → FailureSign → Bool
has_enough_of v sign = nat_le (v.params.omit + 1) (copies_of v.copies (sign_number sign))

-- what a sign that becomes known calls for, with enough copies or not
abbrev pub sign_actions : ℕ → Bool → FailureSign → List Action
sign_actions slot is_enough sign = Enter (Failed slot sign.node sign.cycle) ∷ (if is_enough then [] else Ask (fda_frame sign) ∷ [])

abbrev pub known_actions : ℕ → Bool → List FailureSign → List Action
known_actions slot is_enough signs = flat_map (sign_actions slot is_enough) signs

-- ---- signs by silence

-- whether silence can find node r, one of these members: it is another one that has not failed
abbrev pub is_watched : LifeParts → Nodes → ℕ → Bool
is_watched v members r = has members r && not (r == v.node) && not (has v.failed r)

-- whether it finds it: the node has shown no life for as many slots as the silence has
abbrev pub has_timed_out_at : LifeParts → Nodes → ℕ → ℕ → Bool
has_timed_out_at v members slot r = is_watched v members r && nat_le v.params.silence (slot - shown_by v r)

-- before this slot it finds none of these members
abbrev pub IsIdleUntil : ℕ → Nodes → LifeParts → Type 0
IsIdleUntil idle_until members v = (r : ℕ) → r < most_nodes → is_watched v members r ≡ true → idle_until ≤ shown_by v r + v.params.silence

-- the sign of a node that is silent, where it is not known
abbrev pub found_at : LifeParts → Nodes → ℕ → ℕ → List FailureSign
found_at v members slot r = if has_timed_out_at v members slot r then unknown (sign_in v.params slot r) v else []

-- those of the nodes below n, ascending
unfoldable pub found_below : LifeParts → Nodes → ℕ → ℕ → List FailureSign
found_below v members slot zero = []
found_below v members slot (suc n) = found_below v members slot n ++ found_at v members slot n

-- what they call for
abbrev pub found_actions : LifeParts → ℕ → List FailureSign → List Action
found_actions v slot signs = flat_map (λ sign. sign_actions slot (has_enough_of v sign) sign) signs

-- the value can have signs of a slot by silence: the cycle of the slot is one of the run, and each
-- node has its bit
pub record CanFind (v : LifeParts) (slot : ℕ) : Type 0 where
  pub cycle : 0 < v.params.cycle
  pub number : cycle_of v.params slot < most_numbers
  pub known : cycle_of v.params slot < length v.known
  pub nodes : v.params.nodes ≤ most_nodes

-- ---- in the middle of a turn

-- it has read the notice, but counted no copy in it, and the notice came next
pub record CanLearn (v : LifeParts) (notice : Notice) : Type 0 where
  pub scenario : ScenarioParts
  pub past : List NoticeKind
  pub knowledge : Knowledge
  pub stands : IsReading scenario v.node past (notice.kind ∷ past) knowledge v
  pub next : IsNextNotice scenario past notice
