-- A rule is entered where its place is free, and else it is the first that has the place of an
-- earlier one.
use Rattle.std.proofs.Common.{◌≡◌, ◌+◌, ◌∷◌, ◌++◌, [], Option, Some, None, false, length, take, refl, ap, sym, ◌∙◌, subst}
use Rattle.std.specs.Option.{is_some}
use Rattle.std.proofs.lemmas.Bool.{false≢true}
use Rattle.std.proofs.lemmas.List.{take_more, take_all}
use Rattle.std.proofs.lemmas.Option.{slice_get_read}
use Rattle.cany_base.specs.declared.rule.Rule.{Rule}
use Rattle.cany_base.specs.Scenario.{HaveDistinctPlaces}
use Rattle.can_fault.specs.Rules.{IsFirstRepeated}
use Rattle.can_fault.proofs.TableFacts.{IsTableOf-push, distinct_push, first_repeated}
use Rattle.can_fault.proofs.script.Script.build.Goals as goal

none_from : (o : Option Rule) → is_some o ≡ false → o ≡ None
none_from None h = refl
none_from (Some r) h = absurd (false≢true (sym h))

pub returns-then-is_some-clause-repeated : goal.returns-then-is_some-clause-repeated
returns-then-is_some-clause-repeated c = λ index h.
    let same : c.loop-index.index ≡ index = cc in
    let found = c.index-rules-index in
    subst (IsFirstRepeated c.args.rules.now) same
    (first_repeated c.args.rules.now c.loop-index.index found.result c.loop-index.table c.in_ok-enter.field-0
    (slice_get_read c.args.rules.now (length c.args.rules.now) c.loop-index.index found.result refl c.loop-index-test.true found.is)
    c.loop-index.invariant.table c.loop-index.invariant.distinct c.in_ok-enter.ensures.earlier (sym c.is_some.ensures ∙ c.if-is_some.true))

pub loop-index-preserved : goal.loop-index-preserved
loop-index-preserved c =
    let rule = c.index-rules-index.result in
    let before = take c.loop-index.index c.args.rules.now in
    let kept = c.loop-index.invariant in
    let more : take (c.loop-index.index + 1) c.args.rules.now ≡ before ++ rule ∷ [] =
    take_more c.args.rules.now c.loop-index.index rule c.loop-index-test.true ∙ ap (λ r. before ++ r ∷ []) (sym c.index-rules-index.is) in
    let free = sym c.in_ok-enter.ensures.earlier ∙ none_from c.in_ok-enter.field-0 (sym c.is_some.ensures ∙ c.if-is_some.false) in
    record {
      table = rw more (IsTableOf-push before c.loop-index.table c.enter.new.self rule kept.table free c.in_ok-enter.ensures.entered);
      distinct = rw more (distinct_push before rule kept.distinct (sym (kept.table rule.place) ∙ free));
    }

pub returns-clause-distinct : goal.returns-clause-distinct
returns-clause-distinct c =
    subst HaveDistinctPlaces (take_all c.loop-index.index c.args.rules.now c.loop-index-test.false) c.loop-index.invariant.distinct
