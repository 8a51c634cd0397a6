use Rattle.std.proofs.Common.{◌≡◌, suc, ◌+◌, ◌-◌, ap, arith}
use Rattle.std.specs.Prelude.{replicate}
use Rattle.std.specs.List.{concat}
use Rattle.std.proofs.lemmas.Result.{err_from_is_err_and}
use Rattle.cany_log.proofs.UpToFacts.{IsWrittenUpTo-start, IsWrittenUpTo-next, IsWrittenUpTo-cut, IsWrittenUpTo-all}
use Rattle.cany_log.proofs.page.write_times.Goals as goal

pub loop-time-init : goal.loop-time-init
loop-time-init g c =
    let all : c.args.times ≡ c.args.times - 0 = omega arith in
    IsWrittenUpTo-start _ _ _ _ (ap (λ n. concat (replicate n c.args.bytes.now)) all)

pub loop-time-preserved : goal.loop-time-preserved
loop-time-preserved g c =
    let left : c.args.times - c.loop-time._time ≡ suc (c.args.times - (c.loop-time._time + 1)) = omega (arith, c.loop-time-test.true) in
    IsWrittenUpTo-next _ _ _ _ _ _ _ _ _ _ c.loop-time.invariant (ap (λ n. concat (replicate n c.args.bytes.now)) left) (record {
      bytes = c.in_ok-write_whole.ensures.bytes;
      prefix = c.in_ok-write_whole.ensures.prefix;
      count = c.in_ok-write_whole.ensures.count;
      failed = c.in_ok-write_whole.ensures.failed;
    })

pub returns-in_err-write_whole : goal.returns-in_err-write_whole
returns-in_err-write_whole g c =
    let p = err_from_is_err_and c.from_residual.result c.from_residual.ensures.1 in
    let left : c.args.times - c.loop-time._time ≡ suc (c.args.times - (c.loop-time._time + 1)) = omega (arith, c.loop-time-test.true) in
    rw p.1 (IsWrittenUpTo-cut _ _ _ _ _ _ _ _ _ _ _ c.loop-time.invariant (ap (λ n. concat (replicate n c.args.bytes.now)) left) (record {
      bytes = c.in_err-write_whole.ensures.bytes;
      prefix = c.in_err-write_whole.ensures.prefix;
      count = c.in_err-write_whole.ensures.count;
      failed = c.in_err-write_whole.ensures.failed;
    }))

pub returns : goal.returns
returns g c =
    let none : c.args.times - c.loop-time._time ≡ 0 = omega (arith, c.loop-time-test.false) in
    IsWrittenUpTo-all _ _ _ _ _ _ c.loop-time.invariant (ap (λ n. concat (replicate n c.args.bytes.now)) none)
