use Rattle.std.proofs.Common.{◌+◌, ◌≤◌, ◌++◌, length, take, arith}
use Rattle.std.proofs.lemmas.List.{length-take, length-take-le, take-append-le}
use Rattle.cany_io.proofs.SourceFacts.{Gives-append, given_more, length-append-take}
use Rattle.cany_io.proofs.whole.read_all.Goals as goal

-- the bytes of this turn come after those of the turns before, where memory or the limit ends the
-- reading too
pub returns-then-count-space-clause-at_most : goal.returns-then-count-space-clause-at_most
returns-then-count-space-clause-at_most g c =
    let front = take c.in_ok-count.count c.read.new.buf in
    let size = length-append-take c.turns.bytes.items c.read.new.buf c.in_ok-count.count c.in_ok-count.ensures.bound in
    (c.turns.bytes.items ++ front, omega (arith, size, c.in_ok-count.ensures.bound, c.turns.bytes.ok.0, length-take (c.min-want.result + 1) c.turns.chunk), Gives-append _ _ _ _ _ c.turns.invariant.given c.in_ok-count.ensures.bytes)

pub returns-in_err-extend_from_slice-clause-at_most : goal.returns-in_err-extend_from_slice-clause-at_most
returns-in_err-extend_from_slice-clause-at_most g c =
    let front = take c.in_ok-count.count c.read.new.buf in
    let size = length-append-take c.turns.bytes.items c.read.new.buf c.in_ok-count.count c.in_ok-count.ensures.bound in
    (c.turns.bytes.items ++ front, omega (arith, size, c.in_ok-count.ensures.bound, c.turns.bytes.ok.0), Gives-append _ _ _ _ _ c.turns.invariant.given c.in_ok-count.ensures.bytes)

pub returns-then-count-space-clause-stops : goal.returns-then-count-space-clause-stops
returns-then-count-space-clause-stops g c = λ _.
    let front = take c.in_ok-count.count c.read.new.buf in
    let size = length-append-take c.turns.bytes.items c.read.new.buf c.in_ok-count.count c.in_ok-count.ensures.bound in
    (c.turns.bytes.items ++ front, omega (arith, size, c.in_ok-count.ensures.bound, c.turns.bytes.ok.0, length-take (c.min-want.result + 1) c.turns.chunk), Gives-append _ _ _ _ _ c.turns.invariant.given c.in_ok-count.ensures.bytes)

pub returns-then-count-space-clause-too_long : goal.returns-then-count-space-clause-too_long
returns-then-count-space-clause-too_long g c = λ _.
    let front = take c.in_ok-count.count c.read.new.buf in
    let size = length-append-take c.turns.bytes.items c.read.new.buf c.in_ok-count.count c.in_ok-count.ensures.bound in
    given_more _ _ (c.turns.bytes.items ++ front) c.args.limit (Gives-append _ _ _ _ _ c.turns.invariant.given c.in_ok-count.ensures.bytes) (omega (arith, size, c.turns.bytes.ok.0))

pub turns-preserved : goal.turns-preserved
turns-preserved g c =
    let there : c.in_ok-count.count ≤ length c.read.new.buf = c.in_ok-count.ensures.bound in
    let len = rw take-append-le at c.in_ok-extend_from_slice.ensures.len in
    record {
      within = omega (arith, len, length-take-le c.in_ok-count.count c.read.new.buf there);
      given = rw (c.in_ok-extend_from_slice.ensures.items, take-append-le) (Gives-append _ _ _ _ _ c.turns.invariant.given c.in_ok-count.ensures.bytes);
      count = omega (arith, c.in_ok-count.ensures.count);
    }

pub turns-smaller : goal.turns-smaller
turns-smaller g c =
    let there : c.in_ok-count.count ≤ length c.read.new.buf = c.in_ok-count.ensures.bound in
    let len = rw take-append-le at c.in_ok-extend_from_slice.ensures.len in
    omega (arith, len, length-take-le c.in_ok-count.count c.read.new.buf there)
