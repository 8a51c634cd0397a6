-- The summary, part by part.
use Rattle.std.proofs.Common.{◌≡◌, ℕ, ◌+◌, ◌<◌, ◌≤◌, Bool, true, false, not, ◌&&◌, List, [], ◌∷◌, ◌++◌, Option, Some, None, take, reverse, length, get_or, refl, sym, ◌∙◌, ap, append_assoc, append-nil, inl, inr, arith}
use Rattle.std.specs.Prelude.{codes, count_by, IsSomeAnd, slice_get}
use Rattle.std.specs.Int.{from_bool}
use Rattle.std.proofs.lemmas.Bool.{cases_Bool}
use Rattle.std.proofs.lemmas.List.{take_all}
use Rattle.std.proofs.lemmas.List.Sums.{count_by_more_no, count_by_more_yes}
use Rattle.std.proofs.lemmas.Option.{get_or_from_slice_get}
use Rattle.cany_base.specs.declared.slot_note.SlotNote.{SlotNote}
use Rattle.cany_base.specs.declared.step.Step.{Step}
use Rattle.cany_base.specs.Scenario.{ScenarioParts}
use Rattle.cany_model.specs.declared.breaks.Break.{Break}
use Rattle.cany_model.specs.Runs.Run.{run}
use Rattle.cany_model.specs.Bus.Slot.{carried}
use Rattle.cany_model.specs.Bus.State.{RunState}
use Rattle.cany_model.specs.Promises.Hypothesis.{any_frame, first_break, is_partial, is_silent}
use Rattle.cany_model.specs.Promises.Settled.{is_settled}
use Rattle.cany_model.specs.Rules.Messages.{messages_of}
use Rattle.cany_text.specs.ReportLines.{hypothesis_line, line_of}
-- counts do not depend on the order, and a send has one message: of the model's own words
use Rattle.cany_model.proofs.Among.{count-no, count-yes}
use Rattle.cany_model.proofs.Rules.Services.MessageKeys.{length-messages_of}
use Rattle.cany_text.proofs.FirstAfter.{count_by-reverse}
use Rattle.cany_log.specs.Summary.{all_entries, entries_line, frames_line, is_lost, open_count, settled_count, settled_line, storm_line, summary, summary_lines}
use Rattle.cany_log.specs.SummaryParts.{counts_text, ending_text}

-- ---- slots

-- the slots are counted in either order
frames_line-reverse : (trace : List SlotNote) → frames_line (reverse trace) ≡ frames_line trace
unfolding frames_line
frames_line-reverse trace =
    rw (
      count_by-reverse (carried any_frame) trace,
      count_by-reverse (λ note. carried any_frame note && is_lost note.verdict) trace,
      count_by-reverse (λ note. carried any_frame note && is_partial note.verdict) trace,
      count_by-reverse (λ note. carried any_frame note && is_silent note.verdict) trace,
    ) refl

-- ---- messages

-- what the option has, of which the fact holds
some_of : {A : Type 0} (P : A → Type 0) (o : Option A) → IsSomeAnd o P → (x : A) × (o ≡ Some x) × P x
some_of P None h = absurd h
some_of P (Some x) h = (x, refl, h)

pub one_at_most : (b : Bool) (one : ℕ) → one ≡ from_bool b → one ≤ 1
one_at_most true one is = omega (arith, is)
one_at_most false one is = omega (arith, is)

count_next : {A : Type 0} (test : A → Bool) (xs : List A) (i : ℕ) (x : A) (passes : Bool) (one : ℕ) → i < length xs → get_or xs i x ≡ x → passes ≡ test x
    → one ≡ from_bool passes → count_by test (take i xs) + one ≡ count_by test (take (i + 1) xs)
count_next test xs i x true one inside at is counts =
    omega (arith, counts, count_by_more_yes test xs i x inside (ap test at ∙ sym is))
count_next test xs i x false one inside at is counts =
    omega (arith, counts, count_by_more_no test xs i x inside (ap test at ∙ sym is))

-- one more message is settled, or not
pub settled_next : (scenario : ScenarioParts) (s : RunState) (i settled one : ℕ) (passes : Bool) → i < length scenario.sends
    → settled ≡ count_by (is_settled scenario s) (take i (messages_of scenario.sends))
    → IsSomeAnd (slice_get (messages_of scenario.sends) i) (λ m. passes ≡ is_settled scenario s m) → one ≡ from_bool passes
    → settled + one ≡ count_by (is_settled scenario s) (take (i + 1) (messages_of scenario.sends))
settled_next scenario s i settled one passes inside before settles counts =
    let found = some_of (λ m. passes ≡ is_settled scenario s m) (slice_get (messages_of scenario.sends) i) settles in
    let at = get_or_from_slice_get (messages_of scenario.sends) i found.0 found.0 found.1 in
    ap (λ n. n + one) before
    ∙ count_next (is_settled scenario s) (messages_of scenario.sends) i found.0 passes one (omega (arith, inside, length-messages_of scenario.sends)) at found.2 counts

pub settled_all : (scenario : ScenarioParts) (s : RunState) (i settled : ℕ) → length scenario.sends ≤ i
    → settled ≡ count_by (is_settled scenario s) (take i (messages_of scenario.sends)) → settled ≡ settled_count scenario s
unfolding settled_count
settled_all scenario s i settled past before =
    before ∙ ap (count_by (is_settled scenario s)) (take_all i (messages_of scenario.sends) (omega (arith, past, length-messages_of scenario.sends)))

count_both : {A : Type 0} (test : A → Bool) (xs : List A) → count_by test xs + count_by (λ x. not (test x)) xs ≡ length xs
count_both test [] = refl
count_both test (x ∷ xs) = elim (cases_Bool (test x)) [
  | inl passes ↦ omega (arith, count_both test xs, count-yes test x xs passes, count-no (λ y. not (test y)) x xs (ap not passes))
  | inr fails ↦ omega (arith, count_both test xs, count-no test x xs fails, count-yes (λ y. not (test y)) x xs (ap not fails))
]

-- each message is settled or open
pub settled_or_open : (scenario : ScenarioParts) (s : RunState) → settled_count scenario s + open_count scenario s ≡ length scenario.sends
unfolding settled_count open_count
settled_or_open scenario s = count_both (is_settled scenario s) (messages_of scenario.sends) ∙ length-messages_of scenario.sends

-- ---- the parts

pub counts-is : (scenario : ScenarioParts) (s : RunState) (notes : List SlotNote) → notes ≡ reverse s.trace
    → counts_text scenario s ≡ frames_line notes ++ (entries_line (all_entries scenario s) ++ settled_line scenario s)
unfolding counts_text
counts-is scenario s notes are =
    ap (λ line. line ++ (entries_line (all_entries scenario s) ++ settled_line scenario s)) (sym (ap frames_line are ∙ frames_line-reverse s.trace))

pub ending-is : (scenario : ScenarioParts) (s : RunState) (found : Option Break) → found ≡ first_break scenario.params s.trace
    → ending_text scenario s ≡ hypothesis_line found ++ line_of (codes "end" ∷ [])
unfolding ending_text
ending-is scenario s found found_is = rw found_is refl

pub summary-is : (number : ℕ) (scenario : ScenarioParts) (journal : List Step)
    → summary number scenario journal ≡ storm_line number ++ (counts_text scenario (run scenario journal) ++ ending_text scenario (run scenario journal))
unfolding summary summary_lines counts_text ending_text
summary-is number scenario journal = simp (append_assoc, append-nil)
