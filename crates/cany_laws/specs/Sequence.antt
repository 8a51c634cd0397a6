-- One sequence for the TOTCAN deliveries of all logs.
use Rattle.std.specs.Prelude.{◌≡◌, ℕ, ◌≤◌, ◌==◌, ◌&&◌, ◌⊎◌, Bool, true, List, [], ◌∷◌, count_by}
use Rattle.cany_base.specs.declared.message.MsgKey.{MsgKey}
use Rattle.cany_base.specs.declared.slot_note.SlotNote.{SlotNote}
use Rattle.cany_base.specs.Scenario.{ScenarioParts}
use Rattle.cany_model.specs.Bus.State.{EndedIncarnation, RunState}
use Rattle.cany_model.specs.Promises.Order.{Content, order_by, tot_deliveries}
use Rattle.cany_laws.specs.Logs.{IsIncarnation, log_as}

-- the TOTCAN messages whose data frames were carried Clean in this slot or later, in the order of
-- these slots, whether anybody accepts them or not
abbrev pub clean_sequence : ℕ → List SlotNote → List Content
clean_sequence from trace = order_by (λ key. true) from trace

abbrev pub is_content_of : MsgKey → Content → Bool
is_content_of key c = c.msg.origin == key.origin && c.msg.seq == key.seq

-- the first list is left of the second where some elements are taken out
abbrev pub IsSubsequence : List Content → List Content → Type 0
IsSubsequence [] all = Unit {0}
IsSubsequence (x ∷ some) [] = ⊥
IsSubsequence (x ∷ some) (y ∷ all) = ((x ≡ y) × IsSubsequence some all) ⊎ IsSubsequence (x ∷ some) all

-- No message stands twice in the sequence, and what any incarnation has delivered by TOTCAN is part
-- of it, from its first slot on. So no two logs contradict each other in the order of two messages.
pub record HasOneSequence (scenario : ScenarioParts) (s : RunState) : Type 0 where
  pub once : (key : MsgKey) → count_by (is_content_of key) (clean_sequence 0 s.trace) ≤ 1
  pub part : (i : ℕ) (e : EndedIncarnation) → IsIncarnation scenario s i e
      → IsSubsequence (tot_deliveries (log_as scenario s i e)) (clean_sequence e.incarnation.from s.trace)
