use Rattle.std.proofs.Common.{map, string_bytes, Some, ◌≡◌, refl, inr, arith, rules}
use Rattle.cany_command.proofs.PerformedFacts.{if_some, not_some, other_words, succeeded, textless, unsucceeded, words_refused}
use Rattle.cany_command.proofs.performing.perform.Goals as goal

-- other words
pub returns-then-not-are_words : goal.returns-then-not-are_words
returns-then-not-are_words g c =
    let other : g.C.Command.are_words (map string_bytes c.args.words.now) → ⊥ = search rules in
    other_words _ _ _ _ g.met.C.Command.no_fault other refl refl

-- the command refuses its words
pub returns-in-Err-Refused : goal.returns-in-Err-Refused
returns-in-Err-Refused g c =
    let said = map string_bytes c.args.words.now in
    let line = g.C.Refusal.RefusalLine.line c.in-Err-Refused.refusal in
    let are : g.C.Command.are_words said = search rules in
    let some : g.C.Command.words_refusal said ≡ Some line = search rules in
    words_refused _ said _ _ g.met.C.Command.no_fault c.refuse.result line are some refl c.refuse.ensures.status
    (rw c.in-Err-Refused.field-0-is at c.refuse.ensures.refused) c.refuse.ensures.write_fault (rw c.in-Err-Refused.field-0-is at c.refuse.ensures.prefix)

-- there is no memory for the plan
pub returns-in-Err-Memory : goal.returns-in-Err-Memory
returns-in-Err-Memory g c =
    let said = map string_bytes c.args.words.now in
    let are : g.C.Command.are_words said = search rules in
    textless _ said _ _ g.met.C.Command.no_fault _ are (if_some (g.C.Command.words_refusal said) _ (refl, refl)) refl (inr (inr refl))
    (λ is. absurd (omega (arith, is))) (λ is. absurd (omega (arith, is)))

-- there is no text
pub returns-in-Err : goal.returns-in-Err
returns-in-Err g c =
    let said = map string_bytes c.args.words.now in
    let are : g.C.Command.are_words said = search rules in
    textless _ said _ _ g.met.C.Command.no_fault c.in-Err.status are (not_some (g.C.Command.words_refusal said) _ c.in-Ok.ensures.accepted) refl
    c.in-Err.ensures.status c.in-Err.ensures.read_fault c.in-Err.ensures.too_long

-- the text of the run is written
pub returns-in-Ok-perform_text : goal.returns-in-Ok-perform_text
returns-in-Ok-perform_text g c =
    let said = map string_bytes c.args.words.now in
    let planned = c.in-Ok.ensures.plan in
    let read = c.in-Ok-text_from.ensures in
    let made = c.in-Ok-perform_text.ensures in
    let are : g.C.Command.are_words said = search rules in
    succeeded _ said _ _ g.met.C.Command.no_fault c.in-Ok-perform_text.status c.in-Ok-text_from.text.items are c.in-Ok.ensures.accepted
    (record { whole = read.whole; end = read.end; within = read.within }) made.status (made.done said planned) (made.success said planned) (made.accepted said planned)

-- the text is refused, or its answer is not written, or not all of it
pub returns-in-Err-perform_text : goal.returns-in-Err-perform_text
returns-in-Err-perform_text g c =
    let said = map string_bytes c.args.words.now in
    let planned = c.in-Ok.ensures.plan in
    let read = c.in-Ok-text_from.ensures in
    let made = c.in-Err-perform_text.ensures in
    let are : g.C.Command.are_words said = search rules in
    unsucceeded _ said _ _ g.met.C.Command.no_fault c.in-Err-perform_text.status c.in-Ok-text_from.text.items are c.in-Ok.ensures.accepted
    (record { whole = read.whole; end = read.end; within = read.within }) made.other (λ is. made.refused is said planned) made.write_fault
    (λ is. made.prefix is said planned) made.untouched
