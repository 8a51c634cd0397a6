-- A value stands for the same as an incarnation follows the scenario.
use Rattle.std.proofs.Common.{ℕ, List}
use Rattle.cany_base.specs.declared.class.Class.TheVariants as class
use Rattle.cany_base.specs.declared.message.Service.TheVariants as service
use Rattle.cany_base.specs.declared.notice.NoticeKind.{NoticeKind}
use Rattle.cany_base.specs.Frame.{FrameParts}
use Rattle.cany_base.specs.Scenario.{ScenarioParts}
use Rattle.cany_diffuse.specs.Eager.{EagerParts}
use Rattle.cany_message.proofs.FollowedFacts.{legal_for, table_for}
use Rattle.cany_model.specs.Bus.State.{Incarnation}
use Rattle.cany_model.specs.Rules.Notices.{NamesMessage}
use Rattle.cany_model.specs.Rules.Turn.{scenario_for}
use Rattle.cany_relcan.specs.Relcan.{AreTablesOf, IsRelcanOf, RelcanParts, of_none, of_own}

module _ (scenario : ScenarioParts) (inc : Incarnation) where
  names_for : (f : FrameParts) → NamesMessage scenario service.Rel f → NamesMessage (scenario_for scenario inc) service.Rel f
  names_for f h = record { message = h.message; stands = h.stands; sent_by = h.sent_by; number = h.number; origin = h.origin }

  tables_for : (i : ℕ) (past : List NoticeKind) (copies confirms : EagerParts) → AreTablesOf scenario i past copies confirms
      → AreTablesOf (scenario_for scenario inc) i past copies confirms
  tables_for i past copies confirms h = record {
    data_frames = table_for scenario inc service.Rel class.Rel (of_own i) past copies h.data_frames;
    confirmations = table_for scenario inc service.Rel class.Confirm of_none past confirms h.confirmations;
    named = λ f is copy. names_for f (h.named f is copy);
  }

  pub relcan_for : (i : ℕ) (past : List NoticeKind) (v : RelcanParts) → IsRelcanOf scenario i past v → IsRelcanOf (scenario_for scenario inc) i past v
  relcan_for i past v h = record {
    limits = record {
      legal = legal_for scenario inc h.limits.legal;
      node = h.limits.node;
      format = h.limits.format;
      confirm = h.limits.confirm;
      timers_room = h.limits.timers_room;
      timers_few = h.limits.timers_few;
    };
    tables = tables_for i past v.copies v.confirms h.tables;
    timers = h.timers;
    fallen = record { room = h.fallen.room; held = h.fallen.held; messages = h.fallen.messages };
  }
