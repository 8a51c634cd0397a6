use Rattle.std.proofs.Common.{◌≡◌, ◌+◌, [], ◌∷◌, ◌++◌, take, subst, sym, ap, ◌∙◌, add-one}
use Rattle.std.proofs.Math.Seq.{take-suc}
use Rattle.cany_base.specs.SendCounts.{AreCountsOf}
use Rattle.cany_base.proofs.send_counts.SendCounts.of.Goals as goal

pub loop-send-preserved : goal.loop-send-preserved
loop-send-preserved c =
    let sends = c.args.sends.now in
    let i = c.loop-send.send-index in
    let send = c.send-item.result in
    let longer : take (i + 1) sends ≡ take i sends ++ send ∷ [] =
    rw add-one (take-suc sends i send c.loop-send-test.true ∙ ap (λ x. take i sends ++ x ∷ []) (sym c.send-item.is)) in
    subst (λ earlier. AreCountsOf earlier c.add.new.self) (sym longer) (c.add.ensures (take i sends) c.loop-send.invariant)
