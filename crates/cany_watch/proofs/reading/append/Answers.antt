use Rattle.std.proofs.Common.{◌++◌, ap, ◌∙◌, List, ◌-◌, length}
use Rattle.cany_base.specs.declared.actions.Action.{Action}
use Rattle.cany_base.specs.declared.actions.Action.TheVariants.{Enter}
use Rattle.cany_watch.proofs.Cuts.{cut}
use Rattle.cany_watch.proofs.reading.append.Goals as goal

pub returns : goal.returns
returns c =
    let out = c.args.out.now in
    let spare = out.room - length out.items in
    c.append_all.ensures ∙ ap (λ (xs : List Action). record { items = out.items ++ xs; room = out.room }) (cut Enter c.args.entries.now c.args.from spare c.min.result c.min-count.result (cc (c.min.ensures)) (cc (c.min-count.ensures, c.room.ensures, c.len.ensures.len)))
