-- The messages of a scenario of one send, or of two equal ones, and the notices of their data
-- frames.
use Rattle.std.proofs.Common.{◌≡◌, ◌<◌, ℕ, List, [], ◌∷◌, Contains, count_by, length, refl, ap, arith, eq-eqb}
use Rattle.cany_base.specs.declared.class.Class.{Class}
use Rattle.cany_base.specs.declared.message.SendAsk.{SendAsk}
use Rattle.cany_base.specs.declared.message.Service.{Service}
use Rattle.cany_base.specs.declared.message.Service.TheVariants.{Ed, Rel, Tot}
use Rattle.cany_base.specs.declared.notice.NoticeKind.{NoticeKind}
use Rattle.cany_base.specs.declared.notice.NoticeKind.TheVariants.{Got}
use Rattle.cany_base.specs.Frame.{FrameParts, data_class}
use Rattle.cany_base.specs.Scenario.{ScenarioParts}
use Rattle.cany_model.specs.Rules.Messages.{is_from, message_of, messages_after, messages_of}
use Rattle.cany_model.specs.Rules.Notices.{BelongsTo, IsDataOf, IsNextNotice}

-- the data frame of a send, whose message has this number
abbrev pub data_sent : SendAsk → ℕ → FrameParts
data_sent send number = record { class = data_class send.service; number = number; node = send.node; inc = 0; payload = send.payload }

module _ (scenario : ScenarioParts) (send : SendAsk) where
  pub only_message : scenario.sends ≡ send ∷ [] → Contains (messages_of scenario.sends) (message_of [] send)
  unfolding messages_after
  only_message only = rw only (0, omega arith, refl)

  pub only_data : scenario.sends ≡ send ∷ [] → IsDataOf scenario send.service (data_sent send 0)
  only_data only = record { message = message_of [] send; stands = only_message only; sent_by = refl; frame = refl }

  second_message : scenario.sends ≡ send ∷ send ∷ [] → Contains (messages_of scenario.sends) (message_of (send ∷ []) send)
  unfolding messages_after
  second_message both = rw both (1, omega arith, refl)

  second_number : count_by (is_from send.node) (send ∷ []) ≡ 1
  second_number = rw (eq-eqb send.node send.node refl) refl

  pub second_data : scenario.sends ≡ send ∷ send ∷ [] → IsDataOf scenario send.service (data_sent send 1)
  second_data both = record { message = message_of (send ∷ []) send; stands = second_message both; sent_by = refl; frame = ap (data_sent send) second_number }

belongs : (scenario : ScenarioParts) (slot : ℕ) (by : Service) (k : Class) (f : FrameParts) → k ≡ data_class by → IsDataOf scenario by f → BelongsTo scenario slot k f
belongs scenario slot Ed k f is carries = rw is carries
belongs scenario slot Rel k f is carries = rw is carries
belongs scenario slot Tot k f is carries = rw is carries

-- the data frame of a message can be read in any slot of the run
pub got_next : (scenario : ScenarioParts) (past : List NoticeKind) (slot : ℕ) (by : Service) (f : FrameParts) → IsDataOf scenario by f → f.class ≡ data_class by
    → slot ≡ length past → slot < scenario.params.slots → IsNextNotice scenario past (record { slot = slot; kind = Got f })
got_next scenario past slot by f carries is at within = record { slot = at; within = within; readable = belongs scenario slot by f.class f is carries }
