-- The controller as the program keeps it.
use Rattle.std.specs.Prelude.{◌≡◌, ◌+◌, ◌≤◌, None}
use Rattle.cany_base.specs.Limits.{greatest_error_counter, greatest_lag}
use Rattle.can_controller.specs.declared.controller.Controller.TheInside.{Inside}
use Rattle.can_controller.specs.Controller.{ControllerState}

abbrev pub controller_state : Inside → ControllerState
controller_state c = record {
  node = c.node;
  params = c.params;
  room = c.waiting.room;
  waiting = c.waiting.frames;
  transmit = c.counters.transmit;
  receive = c.counters.receive;
  unread = c.notices.items;
  read = c.read;
  stopped = c.stopped;
}

-- the ring holds one notice more than the lag, and the counters of a running controller are at most
-- the limit
pub record IsSound (c : Inside) : Type 0 where
  pub format : c.waiting.format ≡ c.params.format
  pub lag : c.params.lag ≤ greatest_lag
  pub ring : c.notices.capacity ≡ c.params.lag + 1
  pub counting : c.stopped ≡ None → (c.counters.transmit ≤ greatest_error_counter) × (c.counters.receive ≤ greatest_error_counter)
