-- No rule tells an error from an idle slot: a turn, the log, and what is asked of a message.
use Rattle.std.proofs.Common.{◌≡◌, ℕ, List, [], ◌∷◌, refl}
use Rattle.cany_base.specs.declared.notice.NoticeKind.{NoticeKind}
use Rattle.cany_base.specs.Scenario.{ScenarioParts}
use Rattle.cany_model.specs.Rules.Log.{log_from}
use Rattle.cany_model.specs.Rules.Messages.{Message}
use Rattle.cany_model.specs.Rules.Sends.{send_effects}
use Rattle.cany_model.specs.Rules.Turn.{has_asked, is_ahead_at, origin_effects, turn_effects}
use Rattle.cany_model.proofs.Rules.ErrorCounts.{plain, plain-length}
use Rattle.cany_model.proofs.Rules.ErrorMessages.{plain_backlog_effects, plain_closing_ahead, plain_edcan, plain_relcan, plain_timer_ahead, plain_totcan}
use Rattle.cany_model.proofs.Rules.ErrorMembership.{plain_asks, plain_exchange, plain_failures, plain_install, plain_life}

plain_sends : (scenario : ScenarioParts) (i : ℕ) (past : List NoticeKind) → send_effects scenario i (plain past) ≡ send_effects scenario i past
unfolding send_effects
plain_sends scenario i [] = refl
plain_sends scenario i (e ∷ past) = rw (plain-length past) refl

pub error_turn : (scenario : ScenarioParts) (i : ℕ) (past : List NoticeKind) → turn_effects scenario i (plain past) ≡ turn_effects scenario i past
unfolding turn_effects
error_turn scenario i past =
    rw (
      plain_edcan scenario i past,
      plain_relcan scenario i past,
      plain_totcan scenario i past,
      plain_failures scenario i past,
      plain_exchange scenario i past,
      plain_install scenario i past,
      plain_life scenario i past,
      plain_sends scenario i past,
      plain_asks scenario i past,
      plain_backlog_effects scenario i past,
    ) refl

pub error_log : (scenario : ScenarioParts) (i : ℕ) (past : List NoticeKind) → log_from scenario i (plain past) ≡ log_from scenario i past
unfolding log_from
error_log scenario i [] = refl
error_log scenario i (e ∷ past) = rw (error_log scenario i past, error_turn scenario i (e ∷ past)) refl

plain_origin : (scenario : ScenarioParts) (i : ℕ) (past : List NoticeKind) → origin_effects scenario i (plain past) ≡ origin_effects scenario i past
plain_origin scenario i past = rw (plain_sends scenario i past, plain_backlog_effects scenario i past) refl

pub error_asked : (scenario : ScenarioParts) (m : Message) (i : ℕ) (past : List NoticeKind) → has_asked scenario m i (plain past) ≡ has_asked scenario m i past
unfolding has_asked
error_asked scenario m i [] = refl
error_asked scenario m i (e ∷ past) = rw (plain_origin scenario i (e ∷ past), error_asked scenario m i past) refl

pub error_ahead : (scenario : ScenarioParts) (m : Message) (i : ℕ) (past : List NoticeKind) → is_ahead_at scenario m i (plain past) ≡ is_ahead_at scenario m i past
error_ahead scenario m i past = rw (plain_timer_ahead scenario m i past, plain_closing_ahead scenario m i past) refl
