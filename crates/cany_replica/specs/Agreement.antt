-- What is promised of the tables of a run within the fault hypothesis.
use Rattle.std.specs.Prelude.{◌≡◌, ℕ, ◌≤◌, Contains, length, take}
use Rattle.cany_base.specs.Scenario.{ScenarioParts}
use Rattle.cany_model.specs.Bus.State.{RunState, node_at}
use Rattle.cany_model.specs.Promises.Order.{order}
use Rattle.cany_model.specs.Promises.Settled.{IsCorrect, IsCorrectFrom}
use Rattle.cany_replica.specs.declared.answer.Answer.{Answer}
use Rattle.cany_replica.specs.Fold.{replies_of, table_of}
use Rattle.cany_replica.specs.ReplicaText.{applied}

-- The table of a correct node, and its replies, are those of the first messages, as many as it
-- applied, of the one order of TOTCAN: of the order from the slot on since which the node takes
-- part.
pub record FollowsTable (scenario : ScenarioParts) (s : RunState) (i from : ℕ) : Type 0 where
  pub few : length (applied scenario s i) ≤ length (order scenario s from)
  pub table : table_of (applied scenario s i) ≡ table_of (take (length (applied scenario s i)) (order scenario s from))
  pub answers : replies_of (applied scenario s i) ≡ replies_of (take (length (applied scenario s i)) (order scenario s from))

-- the tables and the replies of two nodes
pub record AreEqual (scenario : ScenarioParts) (s : RunState) (i j : ℕ) : Type 0 where
  pub tables : table_of (applied scenario s i) ≡ table_of (applied scenario s j)
  pub answers : replies_of (applied scenario s i) ≡ replies_of (applied scenario s j)

pub record HasOneTable (scenario : ScenarioParts) (s : RunState) : Type 0 where
  -- each correct node follows the one order, one that started again from its own first slot on
  pub follows : (i : ℕ) → IsCorrect scenario s i → FollowsTable scenario s i (node_at s.nodes i).present.from
  -- and one that takes part from the start the order from slot 0 on
  pub from_the_start : (i : ℕ) → IsCorrectFrom scenario s 0 i → FollowsTable scenario s i 0
  -- two of these that applied equally many messages have equal tables and replies
  pub equal : (i j : ℕ) → IsCorrectFrom scenario s 0 i → IsCorrectFrom scenario s 0 j
      → length (applied scenario s i) ≡ length (applied scenario s j) → AreEqual scenario s i j
  -- and each message that two of them applied has one reply
  pub one_reply : (i j : ℕ) → IsCorrectFrom scenario s 0 i → IsCorrectFrom scenario s 0 j → (a b : Answer)
      → Contains (replies_of (applied scenario s i)) a → Contains (replies_of (applied scenario s j)) b → a.msg ≡ b.msg → a.reply ≡ b.reply
