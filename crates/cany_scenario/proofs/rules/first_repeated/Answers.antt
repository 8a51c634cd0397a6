use Rattle.std.proofs.Common.{◌≡◌, ◌<◌, ℕ, true, false, cond, length, ap, sym, ◌∙◌, below_more, arith}
use Rattle.std.specs.HashSet.{contains}
use Rattle.cany_base.specs.declared.rule.Rule.{Rule}
use Rattle.cany_text.specs.FaultsText.{repeats}
use Rattle.cany_text.proofs.FirstAfter.{holds_at, first_after-none, first_after-some}
use Rattle.cany_scenario.proofs.PlacesFacts.{is_equal, repeats_by_place, has_place-more, held_before, new_before}
use Rattle.cany_scenario.proofs.rules.first_repeated.Goals as goal

pub returns-then-not-branch-clause-ok : goal.returns-then-not-branch-clause-ok
returns-then-not-branch-clause-ok c =
    let rules = c.args.rules.now in
    let index = c.loop-index.index in
    let rule = c.index-rules-index.result in
    let within : index < length rules = omega arith in
    let held = held_before c.in_ok-insert.field-0 (contains is_equal c.loop-index.places rule.place) c.in_ok-insert.ensures.added c.if-not-branch.true in
    sym (first_after-some repeats rules index rule within (λ j below. c.loop-index.invariant.apart j rule below)
    (repeats_by_place rules index rule rule within c.index-rules-index.is ∙ sym (c.loop-index.invariant.seen rule.place) ∙ held))

pub loop-index-preserved : goal.loop-index-preserved
loop-index-preserved c =
    let rules = c.args.rules.now in
    let index = c.loop-index.index in
    let rule = c.index-rules-index.result in
    let within : index < length rules = omega arith in
    let new = new_before c.in_ok-insert.field-0 (contains is_equal c.loop-index.places rule.place) c.in_ok-insert.ensures.added c.if-not-branch.false in
    record {
      apart = λ k d before. below_more (λ (j : ℕ). (e : Rule) → holds_at repeats rules j e ≡ false) index
          (λ j below e. c.loop-index.invariant.apart j e below)
          (λ e. repeats_by_place rules index rule e within c.index-rules-index.is ∙ sym (c.loop-index.invariant.seen rule.place) ∙ new) k before d;
      seen = λ place.
          c.in_ok-insert.ensures.updates.0 place ∙ ap (cond (is_equal rule.place place) true) (c.loop-index.invariant.seen place)
          ∙ sym (has_place-more rules index rule place within c.index-rules-index.is);
    }

pub returns-clause-ok : goal.returns-clause-ok
returns-clause-ok c = sym (first_after-none repeats c.args.rules.now (λ k d within. c.loop-index.invariant.apart k d (omega arith)))
