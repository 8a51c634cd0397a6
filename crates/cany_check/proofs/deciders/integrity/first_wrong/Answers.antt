use Rattle.std.proofs.Common.{◌≡◌, ℕ, ◌+◌, ◌<◌, ◌∙◌, true, false, ◌++◌, List, [], ◌∷◌, Some, ap, arith, drop, get_or, length, subst, sym, take}
use Rattle.std.proofs.lemmas.List.{drop_all, drop_more, length-take-le, take_more}
use Rattle.cany_base.specs.declared.log_entry.LogEntry.{LogEntry}
use Rattle.cany_check.specs.Accounts.Account.{AccountParts}
use Rattle.cany_check.specs.Deciding.Integrity.{first_wrong, is_wrong}
use Rattle.cany_check.specs.Deciding.Marks.{AreMarked}
use Rattle.cany_check.proofs.Deciding.MarkFacts.{wrong_here, wrong_later, wrong_nowhere}
use Rattle.cany_check.proofs.deciders.integrity.first_wrong.Goals as goal

-- what is left begins with the entry at a place
rest_is : (entries : List LogEntry) (i : ℕ) (x : LogEntry) → i < length entries → x ≡ get_or entries i x → drop i entries ≡ x ∷ drop (i + 1) entries
rest_is entries i x below is = drop_more entries i x below ∙ ap (λ y. y ∷ drop (i + 1) entries) (sym is)

pub returns-then-is_wrong-clause-place : goal.returns-then-is_wrong-clause-place
returns-then-is_wrong-clause-place c =
    let a : AccountParts = c.args.account.now in
    let entries : List LogEntry = c.args.entries.now in
    let i = c.loop-i.i in
    let x : LogEntry = c.index-entries-i.result in
    let wrong : is_wrong a (take i entries) x ≡ true = sym (c.is_wrong.ensures.wrong (take i entries) c.loop-i.invariant.1) ∙ c.if-is_wrong.true in
    ap (λ n. Some n) (sym (length-take-le i entries (omega (arith, c.loop-i-test.true))))
    ∙ sym (wrong_here a (take i entries) (drop (i + 1) entries) x wrong)
    ∙ ap (first_wrong a (take i entries)) (sym (rest_is entries i x c.loop-i-test.true c.index-entries-i.is))
    ∙ c.loop-i.invariant.0

pub loop-i-preserved : goal.loop-i-preserved
loop-i-preserved c =
    let a : AccountParts = c.args.account.now in
    let entries : List LogEntry = c.args.entries.now in
    let i = c.loop-i.i in
    let x : LogEntry = c.index-entries-i.result in
    let right : is_wrong a (take i entries) x ≡ false = sym (c.is_wrong.ensures.wrong (take i entries) c.loop-i.invariant.1) ∙ c.if-is_wrong.false in
    let more : take (i + 1) entries ≡ take i entries ++ x ∷ [] =
    take_more entries i x c.loop-i-test.true ∙ ap (λ y. take i entries ++ y ∷ []) (sym c.index-entries-i.is) in (
      ap (λ l. first_wrong a l (drop (i + 1) entries)) more
          ∙ sym (wrong_later a (take i entries) (drop (i + 1) entries) x right)
          ∙ ap (first_wrong a (take i entries)) (sym (rest_is entries i x c.loop-i-test.true c.index-entries-i.is))
          ∙ c.loop-i.invariant.0,
      subst (λ l. AreMarked a.messages c.args.number l c.is_wrong.new.marks) (sym more)
          (c.is_wrong.ensures.marked (take i entries) c.loop-i.invariant.1 c.if-is_wrong.false),
    )

pub returns-clause-place : goal.returns-clause-place
returns-clause-place c =
    let a : AccountParts = c.args.account.now in
    let entries : List LogEntry = c.args.entries.now in
    sym (wrong_nowhere a (take c.loop-i.i entries)) ∙ ap (first_wrong a (take c.loop-i.i entries)) (sym (drop_all c.loop-i.i entries (omega arith))) ∙ c.loop-i.invariant.0
