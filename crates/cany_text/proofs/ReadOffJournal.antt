-- The journal and the parameters are read off the report.
use Rattle.std.proofs.Common.{◌≡◌, ℕ, zero, suc, ◌+◌, ◌*◌, ◌-◌, ◌/◌, ◌^◌, ◌<◌, ◌≤◌, Bool, true, false, List, [], ◌∷◌, ◌++◌, map, length, take, drop, refl, ap, sym, ◌∙◌, arith, leb-false, length-append, drop-drop}
use Rattle.std.specs.Prelude.{if◌then◌else◌, nat_le, slice_index_or, codes, decimal}
use Rattle.std.specs.List.{AllByRecursion, flat_map, range_with_len}
use Rattle.std.proofs.Math.Seq.{take-add, take-append_seam}
use Rattle.std.proofs.Math.Nat.{div-add-mod, mod-lt}
use Rattle.std.proofs.lemmas.Bool.{and_parts, false≢true}
use Rattle.std.proofs.lemmas.Fmt.{decimal_injective}
use Rattle.std.proofs.lemmas.List.{map-append, take_all}
use Rattle.std.proofs.lemmas.Option.{same_Some}
use Rattle.cany_base.specs.declared.format.Format.{Format}
use Rattle.cany_base.specs.declared.format.Format.TheVariants.{One, Two}
use Rattle.cany_base.specs.declared.step.Step.{Step}
use Rattle.cany_base.specs.declared.step.Step.TheVariants.{Slot, Turn}
use Rattle.cany_base.specs.Layout.{format_number}
use Rattle.cany_base.specs.Limits.{most_nodes}
use Rattle.cany_base.specs.Params.{Parameters, IsInRange}
use Rattle.cany_base.specs.Scenario.{ScenarioParts}
use Rattle.cany_base.proofs.ParamsFacts.{few_nodes, few_slots}
use Rattle.cany_model.specs.declared.reply.StepReply.{StepReply}
use Rattle.cany_model.specs.declared.reply.StepReply.TheVariants.{NoNode}
use Rattle.cany_model.specs.Runs.Run.{is_legal_from, is_done, reply, after_step}
use Rattle.cany_model.specs.Bus.State.{RunState}
use Rattle.cany_text.specs.JournalText.{step_of}
use Rattle.cany_text.specs.ReportLines.{line_of, first_line, params_line, journal_line, journal_lines, step_letter}
use Rattle.cany_text.proofs.JournalLetters.{IsStepIn, step_of-letter}
use Rattle.cany_text.proofs.ReadOffLists.{cons_same, lists_same}
use Rattle.cany_text.proofs.ReadOffText.{Lacks, Told, line_fields, no_space, number, texts_lack, word}

-- ---- letters

-- a slot, or the turn of a node that a letter names
abbrev pub HasLetter : Step → Type 0
HasLetter step = IsStepIn Two step

letters_same : (j k : List Step) → AllByRecursion HasLetter j → AllByRecursion HasLetter k → map step_letter j ≡ map step_letter k → j ≡ k
letters_same = lists_same step_letter HasLetter (λ x y a b e. same_Some x y (sym (step_of-letter Two x a) ∙ ap (step_of Two) e ∙ step_of-letter Two y b))

-- each step of a legal journal has a letter
done_below : (b : Bool) (i : ℕ) (otherwise : StepReply) → is_done (if b then NoNode i else otherwise) ≡ true → b ≡ false
done_below true i otherwise h = absurd (false≢true h)
done_below false i otherwise h = refl

pub legal_letters : (scenario : ScenarioParts) → scenario.params.nodes ≤ most_nodes → (s : RunState) (journal : List Step)
    → is_legal_from scenario s journal ≡ true → AllByRecursion HasLetter journal
unfolding is_legal_from reply
legal_letters scenario few s [] h = tt
legal_letters scenario few s (Slot ∷ journal) h = (
  tt,
  legal_letters scenario few (after_step scenario s Slot) journal
      (and_parts (is_done (reply scenario s Slot)) (is_legal_from scenario (after_step scenario s Slot) journal) h).1,
)
legal_letters scenario few s (Turn i ∷ journal) h =
    let parts = and_parts (is_done (reply scenario s (Turn i))) (is_legal_from scenario (after_step scenario s (Turn i)) journal) h in
    let below = leb-false scenario.params.nodes i (done_below (nat_le scenario.params.nodes i) i _ parts.0) in
    (omega (arith, below, few), legal_letters scenario few (after_step scenario s (Turn i)) journal parts.1)

-- ---- 64 letters a line

abbrev chunk : List Step → ℕ → List Step
chunk journal k = take 64 (drop (64 * k) journal)

chunks_are : (journal : List Step) (first many : ℕ)
    → flat_map (chunk journal) (range_with_len first many) ≡ take (64 * many) (drop (64 * first) journal)
chunks_are journal first zero = refl
chunks_are journal first (suc many) =
    let next : 64 * first + 64 ≡ 64 * (first + 1) = omega arith in
    let more : 64 + 64 * many ≡ 64 * suc many = omega arith in
    ap (λ rest. chunk journal first ++ rest)
    (chunks_are journal (first + 1) many
    ∙ ap (take (64 * many)) (ap (λ n. drop n journal) (sym next) ∙ sym (drop-drop 64 (64 * first) journal)))
    ∙ sym (take-add 64 (64 * many) (drop (64 * first) journal)) ∙ ap (λ n. take n (drop (64 * first) journal)) more

abbrev line_count : List Step → ℕ
line_count journal = (length journal + 63) / 64

enough_lines : (n : ℕ) → n ≤ 64 * ((n + 63) / 64)
enough_lines n = let some : 0 < 64 = omega arith in omega (arith, div-add-mod (n + 63) 64, mod-lt (n + 63) some)

chunks_whole : (journal : List Step) → flat_map (chunk journal) (range_with_len 0 (line_count journal)) ≡ journal
chunks_whole journal = chunks_are journal 0 (line_count journal)
    ∙ take_all (64 * line_count journal) journal (enough_lines (length journal))

-- what stands between the word `journal` and the line feed
abbrev letters_in : List ℕ → List ℕ
letters_in line = take (length (drop 8 line) - 1) (drop 8 line)

before_last : (letters : List ℕ) (last : ℕ) → take (length (letters ++ last ∷ []) - 1) (letters ++ last ∷ []) ≡ letters
before_last letters last =
    let shorter : length (letters ++ last ∷ []) - 1 ≡ length letters = omega (arith, length-append letters (last ∷ [])) in
    ap (λ n. take n (letters ++ last ∷ [])) shorter ∙ take-append_seam letters (last ∷ [])

letters_back : (steps : List Step) → letters_in (journal_line steps) ≡ map step_letter steps
unfolding journal_line line_of
letters_back steps = before_last (map step_letter steps) 10

lines_back : (journal : List Step) (places : List ℕ)
    → flat_map letters_in (map (λ k. journal_line (chunk journal k)) places) ≡ map step_letter (flat_map (chunk journal) places)
lines_back journal [] = refl
lines_back journal (k ∷ places) =
    ap (λ letters. letters ++ flat_map letters_in (map (λ n. journal_line (chunk journal n)) places)) (letters_back (chunk journal k))
    ∙ ap (λ rest. map step_letter (chunk journal k) ++ rest) (lines_back journal places)
    ∙ sym (map-append step_letter (chunk journal k) (flat_map (chunk journal) places))

journal_back : (journal : List Step) → flat_map letters_in (journal_lines journal) ≡ map step_letter journal
unfolding journal_lines
journal_back journal = lines_back journal (range_with_len 0 (line_count journal)) ∙ ap (map step_letter) (chunks_whole journal)

pub journals_same : (j k : List Step) → AllByRecursion HasLetter j → AllByRecursion HasLetter k → journal_lines j ≡ journal_lines k → j ≡ k
journals_same j k a b e = letters_same j k a b (sym (journal_back j) ∙ ap (flat_map letters_in) e ∙ journal_back k)

-- ---- parameters

two_words : (n : ℕ) → line_of (codes "canely report" ∷ decimal n ∷ []) ≡ line_of (codes "canely" ∷ codes "report" ∷ decimal n ∷ [])
unfolding line_of
two_words n = refl

formats_same : (f g : Format) → first_line f ≡ first_line g → f ≡ g
unfolding first_line
formats_same f g e =
    let fields = line_fields (codes "canely") (codes "canely") (codes "report" ∷ decimal (format_number f) ∷ [])
    (codes "report" ∷ decimal (format_number g) ∷ [])
    (refl, (refl, (no_space (format_number f), tt))) (refl, (refl, (no_space (format_number g), tt)))
    (sym (two_words (format_number f)) ∙ e ∙ two_words (format_number g)) in
    by_number f g (decimal_injective (format_number f) (format_number g) (small f) (small g)
    (third (decimal (format_number f)) (decimal (format_number g)) fields))
  where
    small : (h : Format) → format_number h < 2 ^ 64
    small One = omega arith
    small Two = omega arith

    third : (u v : List ℕ) → codes "canely" ∷ codes "report" ∷ u ∷ [] ≡ codes "canely" ∷ codes "report" ∷ v ∷ [] → u ≡ v
    third u v h = ap (λ all. slice_index_or all 2 []) h

    by_number : (h i : Format) → format_number h ≡ format_number i → h ≡ i
    by_number One One n = refl
    by_number One Two n = absurd (omega (arith, n))
    by_number Two One n = absurd (omega (arith, n))
    by_number Two Two n = refl

-- what follows the word `params`
abbrev params_fields : Parameters → List (List ℕ)
params_fields p =
    codes "nodes" ∷ decimal p.nodes ∷ codes "lag" ∷ decimal p.lag ∷ codes "omit" ∷ decimal p.omit
    ∷ codes "errors" ∷ decimal p.errors ∷ codes "bound" ∷ decimal p.bound ∷ codes "cycle" ∷ decimal p.cycle
    ∷ codes "life" ∷ decimal p.life ∷ codes "silence" ∷ decimal p.silence ∷ codes "confirm" ∷ decimal p.confirm
    ∷ codes "slots" ∷ decimal p.slots ∷ []

abbrev plain : (text : List ℕ) → Lacks 32 text → Told 32
plain text h = word 32 text h

abbrev decimal_of : ℕ → Told 32
decimal_of n = number 32 (omega arith) n

no_spaces : (p : Parameters) → AllByRecursion (Lacks 32) (codes "params" ∷ params_fields p)
no_spaces p = texts_lack (
    plain (codes "params") refl ∷ plain (codes "nodes") refl ∷ decimal_of p.nodes ∷ plain (codes "lag") refl ∷ decimal_of p.lag
    ∷ plain (codes "omit") refl ∷ decimal_of p.omit ∷ plain (codes "errors") refl ∷ decimal_of p.errors ∷ plain (codes "bound") refl
    ∷ decimal_of p.bound
    ∷ plain (codes "cycle") refl ∷ decimal_of p.cycle ∷ plain (codes "life") refl ∷ decimal_of p.life ∷ plain (codes "silence") refl
    ∷ decimal_of p.silence
    ∷ plain (codes "confirm") refl ∷ decimal_of p.confirm ∷ plain (codes "slots") refl ∷ decimal_of p.slots ∷ [])

params_parted : (p : Parameters) → params_line p ≡ line_of (codes "params" ∷ params_fields p)
unfolding params_line line_of
params_parted p = refl

params_same : (p q : Parameters) → IsInRange p → IsInRange q → p.format ≡ q.format → params_line p ≡ params_line q → p ≡ q
params_same p q r s format e = λ i. record {
  format = format i;
  nodes = decimal_injective p.nodes q.nodes (omega (arith, few_nodes p r)) (omega (arith, few_nodes q s)) (at 1) i;
  lag = decimal_injective p.lag q.lag (omega (arith, r.lag)) (omega (arith, s.lag)) (at 3) i;
  omit = decimal_injective p.omit q.omit (omega (arith, r.omit)) (omega (arith, s.omit)) (at 5) i;
  errors = decimal_injective p.errors q.errors (omega (arith, r.errors)) (omega (arith, s.errors)) (at 7) i;
  bound = decimal_injective p.bound q.bound (omega (arith, r.bound.1)) (omega (arith, s.bound.1)) (at 9) i;
  cycle = decimal_injective p.cycle q.cycle (omega (arith, r.cycle.1)) (omega (arith, s.cycle.1)) (at 11) i;
  life = decimal_injective p.life q.life (omega (arith, r.life.1)) (omega (arith, s.life.1)) (at 13) i;
  silence = decimal_injective p.silence q.silence (omega (arith, r.silence.1)) (omega (arith, s.silence.1)) (at 15) i;
  confirm = decimal_injective p.confirm q.confirm (omega (arith, r.confirm.1)) (omega (arith, s.confirm.1)) (at 17) i;
  slots = decimal_injective p.slots q.slots (omega (arith, few_slots p r)) (omega (arith, few_slots q s)) (at 19) i;
}
  where
    fields : codes "params" ∷ params_fields p ≡ codes "params" ∷ params_fields q
    fields = line_fields (codes "params") (codes "params") (params_fields p) (params_fields q) (no_spaces p) (no_spaces q)
        (sym (params_parted p) ∙ e ∙ params_parted q)

    at : (place : ℕ) → slice_index_or (params_fields p) place [] ≡ slice_index_or (params_fields q) place []
    at place = ap (λ all. slice_index_or all place [])
        (cons_same (codes "params") (codes "params") (params_fields p) (params_fields q) fields).1

-- the two lines that tell the parameters
pub parameters_same : (p q : Parameters) → IsInRange p → IsInRange q → first_line p.format ≡ first_line q.format
    → params_line p ≡ params_line q → p ≡ q
parameters_same p q r s first e = params_same p q r s (formats_same p.format q.format first) e
