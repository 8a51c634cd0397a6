-- How many scripted sends are by each service and of each node.
use Rattle.std.specs.Prelude.{◌≡◌, ◌<◌, ◌==◌, ℕ, Bool, List, count_by, length, slice_index_or}
use Rattle.cany_base.specs.declared.message.SendAsk.{SendAsk}
use Rattle.cany_base.specs.declared.message.Service.{Service}
use Rattle.cany_base.specs.declared.message.Service.TheVariants.{Ed, Rel, Tot}
use Rattle.cany_base.specs.declared.send_counts.SendCounts.{SendCounts}
use Rattle.cany_base.specs.Frame.{class_number, data_class}
use Rattle.cany_base.specs.Limits.{most_nodes}

-- whether a send is by this service
abbrev pub is_send_by : Service → SendAsk → Bool
is_send_by service send = class_number (data_class service) == class_number (data_class send.service)

-- whether a send is of this node
abbrev pub is_send_of : ℕ → SendAsk → Bool
is_send_of node send = send.node == node

abbrev pub counted_by : SendCounts → Service → ℕ
counted_by counts Ed = counts.ed
counted_by counts Rel = counts.rel
counted_by counts Tot = counts.tot

-- these are the counts of these sends
pub record AreCountsOf (sends : List SendAsk) (counts : SendCounts) : Type 0 where
  pub by : (service : Service) → counted_by counts service ≡ count_by (is_send_by service) sends
  pub nodes : length counts.of_node ≡ most_nodes
  pub of_node : (node : ℕ) → node < most_nodes → slice_index_or counts.of_node node 0 ≡ count_by (is_send_of node) sends
