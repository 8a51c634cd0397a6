use Rattle.std.proofs.Common.{refl}
use Rattle.std.proofs.lemmas.Result.{err_from_is_err_and}
use Rattle.cany_model.specs.Promises.Hypothesis.{first_break}
use Rattle.cany_world.specs.World.{state_of}
use Rattle.cany_log.proofs.ReportFacts.{bus-is}
use Rattle.cany_log.proofs.WrittenFacts.{IsWritten-then, IsWritten-short}
use Rattle.cany_log.proofs.report.write_bus_part.Goals as goal

pub returns-in_err-write_bus : goal.returns-in_err-write_bus
returns-in_err-write_bus g c =
    let p = err_from_is_err_and c.from_residual.result c.from_residual.ensures.1 in
    record {
      written = rw (p.1, bus-is c.args.world.now.scenario (state_of c.args.world.now) (first_break c.args.world.now.scenario.params (state_of c.args.world.now).trace) refl)
          (IsWritten-short _ _ _ _ _ _ _ c.in_err-write_bus.ensures.written);
      empty = c.in_err-write_bus.ensures.empty;
    }

pub returns : goal.returns
returns g c = record {
  written = rw (bus-is c.args.world.now.scenario (state_of c.args.world.now) c.hypothesis.result c.hypothesis.ensures.first)
      (IsWritten-then _ _ _ _ _ _ _ _ _ c.in_ok-write_bus.ensures.written c.write_hypothesis.ensures);
  empty = c.in_ok-write_bus.ensures.empty;
}
