-- A fault is entered where none of the earlier ones shares a slot with it, and else it is the first
-- that does.
use Rattle.std.proofs.Common.{◌≡◌, ◌+◌, ◌∷◌, ◌++◌, [], true, false, Ok, Some, length, take, refl, ap, sym, ◌∙◌, subst, arith}
use Rattle.std.proofs.lemmas.List.{take_more}
use Rattle.std.proofs.lemmas.Option.{slice_get_read}
use Rattle.cany_media.specs.Overlaps.{first_overlap}
use Rattle.cany_media.proofs.OverlapFacts.{first_overlaps, none_overlaps, one_more}
use Rattle.cany_media.proofs.plan.MediaPlan.build.Goals as goal

pub returns-then-not-branch-clause-overlap : goal.returns-then-not-branch-clause-overlap
returns-then-not-branch-clause-overlap c = λ index h.
    let faults = c.args.faults.now in
    let same : c.loop-index.index ≡ index = cc in
    let found = c.index-faults-index in
    let at = slice_get_read faults (length faults) c.loop-index.index found.result refl c.loop-index-test.true found.is in
    let was : c.enter.result ≡ Ok false = c.in_ok-enter.was ∙ ap (λ b. Ok b) c.if-not-branch.true in
    subst (λ k. first_overlap faults ≡ Some k) same
    (first_overlaps faults c.loop-index.index found.result c.loop-index-test.true at c.loop-index.invariant.free
    (c.enter.ensures.taken (take c.loop-index.index faults) c.loop-index.invariant.tables was))

pub loop-index-preserved : goal.loop-index-preserved
loop-index-preserved c =
    let faults = c.args.faults.now in
    let found = c.index-faults-index in
    let before = take c.loop-index.index faults in
    let at = slice_get_read faults (length faults) c.loop-index.index found.result refl c.loop-index-test.true found.is in
    let more : take (c.loop-index.index + 1) faults ≡ before ++ found.result ∷ [] =
    take_more faults c.loop-index.index found.result c.loop-index-test.true ∙ ap (λ f. before ++ f ∷ []) (sym found.is) in
    let was : c.enter.result ≡ Ok true = c.in_ok-enter.was ∙ ap (λ b. Ok b) c.if-not-branch.false in
    record {
      tables = rw more (c.enter.ensures.entered before c.loop-index.invariant.tables was);
      free = one_more faults c.loop-index.index found.result c.loop-index.invariant.free at (c.enter.ensures.free before c.loop-index.invariant.tables was);
    }

pub returns-clause-none : goal.returns-clause-none
returns-clause-none c = none_overlaps c.args.faults.now c.loop-index.index (omega (arith, c.loop-index-test.false)) c.loop-index.invariant.free
