use Rattle.std.proofs.Common.{sym}
use Rattle.cany_media.specs.Plan.{FaultParts}
use Rattle.cany_media.proofs.TextFacts.{medium_is}
use Rattle.cany_media.proofs.medium_lines.put_line.Goals as goal

pub returns : goal.returns
returns c =
    let fault : FaultParts = record { line = c.fault.inside.line; from = c.fault.inside.from; to = c.fault.inside.to; state = c.fault.inside.state } in
    rw (
      c.in_ok-put-2.ensures,
      c.in_ok-put_state.ensures,
      c.in_ok-put_number-3.ensures,
      c.in_ok-put_number-2.ensures,
      c.in_ok-put_number.ensures,
      c.in_ok-put.ensures,
      c.from.ensures,
      sym c.fault.view_is,
    ) (medium_is c.args.text.now.items fault)
