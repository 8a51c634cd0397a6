use Rattle.std.proofs.Common.{◌≡◌, ◌∙◌, ap, map, subst, sym, Some, None, true, false}
use Rattle.std.specs.BTreeMap.{insert_entry, is_at}
use Rattle.std.specs.List.Sorted.{IsStrictlySortedBy}
use Rattle.std.specs.Map.{keys_of, lookup}
use Rattle.cany_base.specs.declared.class.Class.TheVariants as class
use Rattle.cany_base.specs.Frame.{FrameParts}
use Rattle.cany_model.specs.Bus.Frames.{same_class}
use Rattle.cany_model.specs.Rules.Knowledge.{sign_of}
use Rattle.cany_check.specs.Accounts.Records.{sign_entry, sign_key, with_last}
use Rattle.cany_check.proofs.Accounts.SignTable.{carried_known, carried_no_sign, carried_unknown, sign_cmp}
use Rattle.cany_check.proofs.account.sign_records.carry.Goals as goal

pub returns-then-not-is_fda : goal.returns-then-not-is_fda
returns-then-not-is_fda c = λ s trace note told is slot so.
    let other : same_class class.Fda c.args.frame.now.class ≡ false = sym c.is_fda.ensures ∙ c.if-not-is_fda.true in
    so ∙ carried_no_sign note c.args.frame.now is other s trace told

pub returns-in_ok-insert-in-Some : goal.returns-in_ok-insert-in-Some
returns-in_ok-insert-in-Some c = λ s trace note told is slot so.
    let f : FrameParts = c.args.frame.now in
    let key : c.sign_key-key.result ≡ sign_key (sign_of f) = c.sign_key-key.ensures ∙ ap (λ (x : FrameParts). sign_key (sign_of x)) c.frame.view_is in
    let fda : same_class class.Fda f.class ≡ true = sym c.is_fda.ensures ∙ c.if-not-is_fda.false in
    let found : lookup (is_at (sign_cmp (sign_key (sign_of f)))) (map (sign_entry s trace) told) ≡ Some c.in-Some.sign =
    ap (λ k. lookup (is_at (sign_cmp k)) (map (sign_entry s trace) told)) (sym key) ∙ ap (lookup (is_at (sign_cmp c.sign_key-key.result))) (sym so)
    ∙ sym c.get.ensures.value ∙ sym c.copied.ensures ∙ c.in-Some.is in
    let sorted : IsStrictlySortedBy sign_cmp (keys_of (map (sign_entry s trace) told)) =
    subst (λ l. IsStrictlySortedBy sign_cmp (keys_of l)) so c.in_ok-insert-in-Some.ensures.was_ordered in
    let value : c.carried_in.result ≡ record c.in-Some.sign { carried = with_last c.in-Some.sign.carried note.slot } =
    c.carried_in.ensures ∙ ap (λ n. record c.in-Some.sign { carried = with_last c.in-Some.sign.carried n }) (sym slot) in
    c.in_ok-insert-in-Some.ensures.entries
    ∙ ap (λ l. insert_entry sign_cmp l c.sign_key-key.result c.carried_in.result) so
    ∙ ap (λ k. insert_entry sign_cmp (map (sign_entry s trace) told) k c.carried_in.result) key
    ∙ ap (insert_entry sign_cmp (map (sign_entry s trace) told) (sign_key (sign_of f))) value
    ∙ carried_known note f is fda s trace told c.in-Some.sign sorted found

pub returns-in-None : goal.returns-in-None
returns-in-None c = λ s trace note told is slot so.
    let f : FrameParts = c.args.frame.now in
    let key : c.sign_key-key.result ≡ sign_key (sign_of f) = c.sign_key-key.ensures ∙ ap (λ (x : FrameParts). sign_key (sign_of x)) c.frame.view_is in
    let fda : same_class class.Fda f.class ≡ true = sym c.is_fda.ensures ∙ c.if-not-is_fda.false in
    let none : lookup (is_at (sign_cmp (sign_key (sign_of f)))) (map (sign_entry s trace) told) ≡ None =
    ap (λ k. lookup (is_at (sign_cmp k)) (map (sign_entry s trace) told)) (sym key) ∙ ap (lookup (is_at (sign_cmp c.sign_key-key.result))) (sym so)
    ∙ sym c.get.ensures.value ∙ sym c.copied.ensures ∙ c.in-None.is in
    so ∙ carried_unknown note f is fda s trace told none
