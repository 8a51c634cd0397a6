-- Worked rows of integrity, on accounts that no run has: which entry of a log is the first wrong
-- one.
use Rattle.std.specs.Prelude.{◌≡◌, ℕ, true, false, Bool, List, [], ◌∷◌, Option, Some, None, map, option_map, refl}
use Rattle.cany_base.specs.declared.log_entry.LogEntry.{LogEntry}
use Rattle.cany_base.specs.declared.log_entry.LogEntry.TheVariants.{Deliver, Failed, View}
use Rattle.cany_base.specs.declared.message.Service.TheVariants.{Ed, Rel}
use Rattle.cany_base.specs.Nodes.{nobody}
use Rattle.cany_base.specs.Params.{default_parameters}
use Rattle.cany_model.specs.Bus.Frames.{same_class}
use Rattle.cany_model.specs.Rules.Messages.{is_service}
use Rattle.cany_check.specs.Accounts.Account.{AccountParts}
use Rattle.cany_check.specs.Deciding.Integrity.{first_wrong, first_wrong_of, wrong_entry}

-- three nodes, one EDCAN message of node 0 that was first carried in slot 1, and one log, of node 1
account_with : Bool → List LogEntry → AccountParts
account_with runs entries = record {
  params = default_parameters 3 200;
  messages = record {
    key = record { origin = 0; seq = 0 };
    service = Ed;
    payload = 7 ∷ [];
    slot = 0;
    sent = Some 1;
    carried = Some (record { first = 1; last = 2 });
    queued = false;
    waits = nobody;
    ahead = nobody;
  } ∷ [];
  logs = record { node = 1; from = 0; runs = runs; entries = entries } ∷ [];
  signs = [];
}

delivery : ℕ → ℕ → LogEntry
delivery slot byte = Deliver slot Ed (record { origin = 0; seq = 0 }) (byte ∷ [])

wrong_place : Bool → List LogEntry → Option ℕ
unfolding first_wrong first_wrong_of same_class is_service
wrong_place runs entries = option_map (λ e. e.place) (wrong_entry (account_with runs entries))

-- a delivery since the message was sent, a failure of a node there in a cycle that had begun, and
-- the view of the slot's cycle
nothing_is_wrong : wrong_place true (delivery 1 7 ∷ Failed 73 2 1 ∷ View 108 1 nobody ∷ []) ≡ None
unfolding wrong_place account_with delivery
nothing_is_wrong = refl

-- one delivery too many, one before it was sent, another payload, another service, a message that
-- is none
wrong_deliveries : map (wrong_place true) (
    (delivery 1 7 ∷ delivery 2 7 ∷ []) ∷ (delivery 0 7 ∷ []) ∷ (delivery 1 8 ∷ [])
    ∷ (Deliver 1 Rel (record { origin = 0; seq = 0 }) (7 ∷ []) ∷ []) ∷ (Deliver 1 Ed (record { origin = 0; seq = 1 }) (7 ∷ []) ∷ []) ∷ [])
    ≡ Some 1 ∷ Some 0 ∷ Some 0 ∷ Some 0 ∷ Some 0 ∷ []
unfolding wrong_place account_with delivery
wrong_deliveries = refl

-- a node that is not there, a cycle that had not begun, a view of another cycle
wrong_failures_and_views : map (wrong_place true) ((Failed 73 3 1 ∷ []) ∷ (Failed 73 2 2 ∷ []) ∷ (View 108 2 nobody ∷ []) ∷ []) ≡ Some 0 ∷ Some 0 ∷ Some 0 ∷ []
unfolding wrong_place account_with delivery
wrong_failures_and_views = refl

-- the log of a node that stopped is not looked at
stopped_nodes_may_be_wrong : wrong_place false (Failed 73 3 1 ∷ []) ≡ None
unfolding wrong_place account_with delivery
stopped_nodes_may_be_wrong = refl
