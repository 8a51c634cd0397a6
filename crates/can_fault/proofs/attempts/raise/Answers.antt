use Rattle.std.proofs.Common.{◌≡◌, Some, None, ap, sym, ◌∙◌}
use Rattle.std.specs.BTreeMap.{get}
use Rattle.std.specs.Option.{is_some, option_map, option_copied_mut}
use Rattle.can_fault.specs.Attempts.{raised}
use Rattle.can_fault.specs.Identities.{identity_cmp}
use Rattle.can_fault.proofs.AttemptFacts.{missing_raised, found_raised}
use Rattle.can_fault.proofs.attempts.raise.Goals as goal

pub returns-in_err-count-clause-answer : goal.returns-in_err-count-clause-answer
returns-in_err-count-clause-answer c =
    let missing : get identity_cmp c.args.counts.now c.args.identity.now ≡ None = sym c.get_mut.ensures.value ∙ ap option_copied_mut c.in_err-count.was in
    c.from_residual.ensures ∙ sym (ap (option_map raised) missing)

pub returns-in_err-count-clause-raised : goal.returns-in_err-count-clause-raised
returns-in_err-count-clause-raised c =
    let missing : get identity_cmp c.args.counts.now c.args.identity.now ≡ None = sym c.get_mut.ensures.value ∙ ap option_copied_mut c.in_err-count.was in
    missing_raised c.args.identity.now c.args.counts.now _ missing c.get_mut.follows.holds-at-none

pub returns-clause-answer : goal.returns-clause-answer
returns-clause-answer c =
    let found : get identity_cmp c.args.counts.now c.args.identity.now ≡ Some c.in_ok-count.count.now = sym c.get_mut.ensures.value ∙ ap option_copied_mut c.in_ok-count.was in
    ap (λ n. Some n) c.saturating_add.ensures ∙ sym (ap (option_map raised) found)

pub returns-clause-raised : goal.returns-clause-raised
returns-clause-raised c =
    let found : get identity_cmp c.args.counts.now c.args.identity.now ≡ Some c.in_ok-count.count.now = sym c.get_mut.ensures.value ∙ ap option_copied_mut c.in_ok-count.was in
    found_raised c.args.identity.now c.in_ok-count.count.now _ c.args.counts.now (c.get_mut.follows.lender c.saturating_add.result) found c.saturating_add.ensures
    ((c.get_mut.follows.holds c.saturating_add.result).3 (ap is_some found)).0
