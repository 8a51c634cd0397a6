use Rattle.std.proofs.Common.{◌≡◌, ℕ, ◌<◌, ◌≤◌, if◌then◌else◌, slice_index}
use Rattle.cany_base.specs.Nodes.{has}
use Rattle.cany_life.proofs.life.show.Given as goal

abbrev pub invariant-loop-i : goal.invariant-loop-i
invariant-loop-i l = record {
  changed : (r : ℕ) → r < l.i → slice_index l.shown r ≡ (if has l.nodes r then l.slot else slice_index l.initial.shown r);
  kept : (r : ℕ) → l.i ≤ r → slice_index l.shown r ≡ slice_index l.initial.shown r;
}
