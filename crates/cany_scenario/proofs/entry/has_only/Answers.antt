use Rattle.std.proofs.Common.{◌≡◌, false, true, string_bytes, sym, ◌∙◌, ap}
use Rattle.cany_scenario.specs.Entries.{is_one_of}
use Rattle.cany_scenario.proofs.EntryFacts.{all_are_among-keys_of, all_are_among-good, all_are_among-bad, all_are_among-none}
use Rattle.cany_scenario.proofs.entry.has_only.Goals as goal

pub loop-key-init : goal.loop-key-init
loop-key-init c =
    rw (c.into_iter-key-iterator.ensures.into_iter_gives, c.keys-key-items.ensures.rest)
    (sym (all_are_among-keys_of c.args.keys.now c.args.table.now.entries))

pub loop-key-preserved : goal.loop-key-preserved
loop-key-preserved c =
    let good : is_one_of c.args.keys.now (string_bytes c.in-Some.key.now) ≡ true =
    ap (is_one_of c.args.keys.now) (sym c.as_str.ensures.value) ∙ sym c.is_one_of.ensures ∙ c.if-not-is_one_of.false in
    c.loop-key.invariant ∙ all_are_among-good c.args.keys.now _ _ c.in-Some.key.now c.in-Some.ensures.steps good

pub returns-then-not-is_one_of : goal.returns-then-not-is_one_of
returns-then-not-is_one_of c =
    let bad : is_one_of c.args.keys.now (string_bytes c.in-Some.key.now) ≡ false =
    ap (is_one_of c.args.keys.now) (sym c.as_str.ensures.value) ∙ sym c.is_one_of.ensures ∙ c.if-not-is_one_of.true in
    sym (c.loop-key.invariant ∙ all_are_among-bad c.args.keys.now _ _ c.in-Some.key.now c.in-Some.ensures.steps bad)

pub returns : goal.returns
returns c = sym (c.loop-key.invariant ∙ all_are_among-none c.args.keys.now _ c.in-None.ensures.steps.0)
