-- How many sends of each node were counted.
use Rattle.std.specs.Prelude.{◌≡◌, ℕ, ◌<◌, List, slice_index_or, count_by}
use Rattle.cany_base.specs.declared.message.SendAsk.{SendAsk}
use Rattle.cany_model.specs.Rules.Messages.{is_from}
use Rattle.cany_base.specs.Limits.{most_nodes}

-- how many sends of a node these numbers count
abbrev pub sent_by : List ℕ → ℕ → ℕ
sent_by numbers node = slice_index_or numbers node 0

-- they count these sends, newest first
abbrev pub HaveCounted : List SendAsk → List ℕ → Type 0
HaveCounted earlier numbers = (node : ℕ) → node < most_nodes → sent_by numbers node ≡ count_by (is_from node) earlier
