-- Of one length, the bytes are equal where the rows are.
use Rattle.std.proofs.Common.{◌≡◌, length, sym, ◌∙◌}
use Rattle.cany_base.proofs.PayloadFacts.{rows_decide, length-bytes_of}
use Rattle.cany_base.proofs.payload.PayloadPartialEq.eq.Goals as goal

pub returns-then-self-other : goal.returns-then-self-other
returns-then-self-other c =
    let same : length c.args.self.now ≡ length c.args.other.now = rw (← c.self.view_is, ← c.other.view_is) (length-bytes_of c.self.inside c.self.invariant ∙ c.if-self-other.true ∙ sym (length-bytes_of c.other.inside c.other.invariant)) in
    c.eq.ensures ∙ rw (c.row.ensures.row, c.row-then-self-other.ensures.row) (rows_decide c.args.self.now c.args.other.now c.row.ensures.short c.row-then-self-other.ensures.short same)
