use Rattle.std.proofs.Common.{◌≡◌, ◌+◌, ◌*◌, ◌≤◌, ◌++◌, length}
use Rattle.cany_life.specs.LifeSteps.{all_marked, found_actions, found_below}
use Rattle.cany_life.proofs.life.Life.find_among.Given as goal

abbrev pub invariant-loop-n : goal.invariant-loop-n
invariant-loop-n l = record {
  state : l.self ≡ all_marked (found_below l.initial.self l.members l.slot l.n) l.initial.self;
  actions : l.out.items ≡ l.initial.out.items ++ found_actions l.initial.self l.slot (found_below l.initial.self l.members l.slot l.n);
  few : length l.out.items ≤ length l.initial.out.items + 2 * l.n;
  room : l.out.room ≡ l.initial.out.room;
}
