-- A value stands for the same as an incarnation follows the scenario.
use Rattle.std.proofs.Common.{ℕ, List}
use Rattle.cany_base.specs.declared.message.Service.TheVariants as service
use Rattle.cany_base.specs.declared.notice.NoticeKind.{NoticeKind}
use Rattle.cany_base.specs.Scenario.{ScenarioParts}
use Rattle.cany_message.proofs.FollowedFacts.{legal_for}
use Rattle.cany_model.specs.Bus.State.{Incarnation}
use Rattle.cany_model.specs.Rules.Messages.{Message}
use Rattle.cany_model.specs.Rules.Notices.{NamesMessage}
use Rattle.cany_model.specs.Rules.Turn.{scenario_for}
use Rattle.cany_model.proofs.Among.{Each-weaker}
use Rattle.cany_totcan.specs.Backlog.{BacklogParts}
use Rattle.cany_totcan.specs.declared.queue.Placed.{Placed}
use Rattle.cany_totcan.specs.Totcan.{AreOpen, HasLimitsOf, IsBacklogOf, IsOwnTot, IsTotcanOf, TotcanParts}

module _ (scenario : ScenarioParts) (inc : Incarnation) where
  limits_for : (i : ℕ) (v : TotcanParts) → HasLimitsOf scenario i v → HasLimitsOf (scenario_for scenario inc) i v
  limits_for i v h = record {
    legal = legal_for scenario inc h.legal;
    node = h.node;
    format = h.format;
    bound = h.bound;
    spacing = h.spacing;
    omit = h.omit;
    room = h.room;
    at_once = h.at_once;
    numbers = h.numbers;
    deliveries = h.deliveries;
  }

  open_for : (newest : ℕ) (past : List NoticeKind) (items : List Placed) → AreOpen scenario newest past items → AreOpen (scenario_for scenario inc) newest past items
  open_for newest past items h = record {
    places = h.places;
    messages = Each-weaker (λ x. NamesMessage scenario service.Tot x.frame) (λ x. NamesMessage (scenario_for scenario inc) service.Tot x.frame)
        (λ x m. record { message = m.message; stands = m.stands; sent_by = m.sent_by; number = m.number; origin = m.origin }) items h.messages;
  }

  own_for : (i : ℕ) (m : Message) → IsOwnTot scenario i m → IsOwnTot (scenario_for scenario inc) i m
  own_for i m h = record { stands = h.stands; sent_by = h.sent_by; origin = h.origin }

  backlog_for : (i : ℕ) (past : List NoticeKind) (messages : List Message) (count : ℕ) (v : BacklogParts) → IsBacklogOf scenario i past messages count v
      → IsBacklogOf (scenario_for scenario inc) i past messages count v
  backlog_for i past messages count v h = record {
    given = h.given;
    are_own = Each-weaker (IsOwnTot scenario i) (IsOwnTot (scenario_for scenario inc) i) (own_for i) messages h.are_own;
    asked = h.asked;
    some = h.some;
    room = h.room;
    own = h.own;
    sent = h.sent;
    places = h.places;
    marks = h.marks;
    earlier = h.earlier;
  }

  pub totcan_for : (i : ℕ) (past : List NoticeKind) (messages : List Message) (count : ℕ) (v : TotcanParts) → IsTotcanOf scenario i past messages count v
      → IsTotcanOf (scenario_for scenario inc) i past messages count v
  totcan_for i past messages count v h = record {
    limits = limits_for i v h.limits;
    queue = open_for scenario.params.bound past v.queue.items h.queue;
    acceptances = h.acceptances;
    are_delivered = h.are_delivered;
    done = h.done;
    pending = h.pending;
    backlog = backlog_for i past messages count v.backlog h.backlog;
  }
