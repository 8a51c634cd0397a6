-- The steps of a journal's bytes and texts, one after another.
use Rattle.std.proofs.Common.{◌≡◌, ℕ, suc, ◌+◌, ◌<◌, true, false, List, [], ◌∷◌, ◌++◌, length, get_or, drop, Option, Some, None, refl, ap, sym, ◌∙◌, append_assoc, append-nil, arith, length-append}
use Rattle.std.specs.Prelude.{is_some, option_and_then, option_map, Ok, Err}
use Rattle.std.specs.List.{concat}
use Rattle.std.proofs.Math.Seq.{drop-length}
use Rattle.std.proofs.lemmas.Bool.{false≢true}
use Rattle.std.proofs.lemmas.List.{drop_more, length_push}
use Rattle.std.proofs.lemmas.Option.{same_Some}
use Rattle.toml.specs.Data.{Data, as_array, as_str, item}
use Rattle.toml.specs.View.{view, items_view}
use Rattle.toml.specs.declared.value.Value.{Value}
use Rattle.toml.proofs.Views.{items_view-drop}
use Rattle.cany_base.specs.declared.format.Format.{Format}
use Rattle.cany_base.specs.declared.step.Step.{Step}
use Rattle.cany_text.specs.declared.scenario_fault.Position.{Position}
use Rattle.cany_text.specs.declared.scenario_fault.ScenarioFault.{ScenarioFault}
use Rattle.cany_text.specs.declared.scenario_fault.ScenarioFault.TheVariants.{BadJournal, WrongKind}
use Rattle.cany_text.specs.JournalText.{step_of, steps_from, journal_from}
use Rattle.cany_text.specs.TomlKeys.{Read, ◌>>=◌, or_fault, of_kind, each_of}
use Rattle.cany_scenario.specs.Arrays.{after}
use Rattle.cany_scenario.specs.JournalParts.{are_texts, texts_in_order}
use Rattle.cany_scenario.proofs.ArraysFacts.{after-first}
use Rattle.cany_scenario.proofs.KindsFacts.{each_of-is_some, each_of-none}

-- no steps, but a fault
abbrev pub failed : ScenarioFault → Read (List Step)
failed fault = Err fault

-- ---- what was found, and then the rest

pub after-nothing : {A : Type 0} (rest : Read (List A)) → after [] rest ≡ rest
after-nothing (Err fault) = refl
after-nothing (Ok others) = refl

after-after : {A : Type 0} (a b : List A) (rest : Read (List A)) → after a (after b rest) ≡ after (a ++ b) rest
after-after a b (Err fault) = refl
after-after a b (Ok others) = ap Ok (sym (append_assoc a b others))

-- ---- bytes

no_bytes : (format : Format) (place : ℕ) → steps_from format place [] ≡ Ok []
unfolding steps_from
no_bytes format place = refl

one_longer : (found : List Step) (step : Step) → suc (length found) ≡ length (found ++ step ∷ [])
one_longer found step = omega (arith, length_push found step)

at_next_place : (found : List Step) (first : Read Step) (rest : ℕ → Read (List Step))
    → (first >>= (λ step. after (found ++ step ∷ []) (rest (suc (length found))))) ≡ (first >>= (λ step. after (found ++ step ∷ []) (rest (length (found ++ step ∷ [])))))
at_next_place found (Err fault) rest = refl
at_next_place found (Ok step) rest = ap (λ n. after (found ++ step ∷ []) (rest n)) (one_longer found step)

-- one more byte, which writes a step or none
pub bytes_next : (format : Format) (bytes : List ℕ) (i d : ℕ) (found : List Step) → i < length bytes
    → after found (steps_from format (length found) (drop i bytes))
    ≡ (or_fault (BadJournal (length found)) (step_of format (get_or bytes i d)) >>= (λ step. after (found ++ step ∷ []) (steps_from format (length (found ++ step ∷ [])) (drop (i + 1) bytes))))
unfolding steps_from
bytes_next format bytes i d found inside =
    ap (λ rest. after found (steps_from format (length found) rest)) (drop_more bytes i d inside)
    ∙ after-first found (or_fault (BadJournal (length found)) (step_of format (get_or bytes i d))) (steps_from format (suc (length found)) (drop (i + 1) bytes))
    ∙ at_next_place found (or_fault (BadJournal (length found)) (step_of format (get_or bytes i d))) (λ n. steps_from format n (drop (i + 1) bytes))

pub bytes_done : (format : Format) (bytes : List ℕ) (found : List Step) → after found (steps_from format (length found) (drop (length bytes) bytes)) ≡ Ok found
bytes_done format bytes found =
    ap (λ rest. after found (steps_from format (length found) rest)) (drop-length bytes)
    ∙ ap (after found) (no_bytes format (length found)) ∙ ap Ok (append-nil found)

-- ---- texts

one_front : (step : Step) (steps : List Step) (rest : Read (List Step)) → (after steps rest >>= (λ others. Ok (step ∷ others))) ≡ after (step ∷ steps) rest
one_front step steps (Err fault) = refl
one_front step steps (Ok others) = refl

append_step : (place : ℕ) (first : Read Step) (p : Read (List Step)) (q : ℕ → Read (List Step))
    → (first >>= (λ step. (p >>= (λ steps. after steps (q (suc place + length steps)))) >>= (λ others. Ok (step ∷ others))))
    ≡ ((first >>= (λ step. p >>= (λ others. Ok (step ∷ others)))) >>= (λ steps. after steps (q (place + length steps))))
append_step place (Err fault) p q = refl
append_step place (Ok step) (Err fault) q = refl
append_step place (Ok step) (Ok steps) q =
    let same : suc place + length steps ≡ place + suc (length steps) = omega arith in
    one_front step steps (q (suc place + length steps)) ∙ ap (λ n. after (step ∷ steps) (q n)) same

-- the steps of two texts
steps_from-append : (format : Format) (place : ℕ) (a b : List ℕ)
    → steps_from format place (a ++ b) ≡ (steps_from format place a >>= (λ steps. after steps (steps_from format (place + length steps) b)))
unfolding steps_from
steps_from-append format place [] b =
    let same : place ≡ place + 0 = omega arith in
    ap (λ n. steps_from format n b) same ∙ sym (after-nothing (steps_from format (place + 0) b))
steps_from-append format place (byte ∷ a) b =
    rw (steps_from-append format (suc place) a b)
    (append_step place (or_fault (BadJournal place) (step_of format byte)) (steps_from format (suc place) a) (λ n. steps_from format n b))

then_same : (o : Read (List Step)) (f g : List Step → Read (List Step)) → ((steps : List Step) → f steps ≡ g steps) → (o >>= f) ≡ (o >>= g)
then_same (Err fault) f g same = refl
then_same (Ok steps) f g same = same steps

first_text : (format : Format) (at : Position) (place : ℕ) (first : Option (List ℕ)) (rest : Option (List (List ℕ))) (texts : List (List ℕ)) (found : ℕ → Read (List Step))
    → option_and_then (λ x. option_map (λ others. x ∷ others) rest) first ≡ Some texts
    → ((n : ℕ) (others : List (List ℕ)) → rest ≡ Some others → steps_from format n (concat others) ≡ found n)
    → steps_from format place (concat texts) ≡ (of_kind at first >>= (λ text. steps_from format place text >>= (λ steps. after steps (found (place + length steps)))))
first_text format at place None rest texts found split next = cc
first_text format at place (Some x) None texts found split next = cc
first_text format at place (Some x) (Some others) texts found split next =
    ap (λ ts. steps_from format place (concat ts)) (sym (same_Some _ _ split)) ∙ steps_from-append format place x (concat others)
    ∙ then_same (steps_from format place x) (λ steps. after steps (steps_from format (place + length steps) (concat others))) (λ steps. after steps (found (place + length steps)))
    (λ steps. ap (after steps) (next (place + length steps) others refl))

-- joined texts, or one text after another
texts_from : (format : Format) (at : Position) (values : List Value) (place : ℕ) (texts : List (List ℕ)) → each_of as_str (items_view values) ≡ Some texts
    → steps_from format place (concat texts) ≡ texts_in_order format at place (items_view values)
texts_from format at [] place texts is = rw (← same_Some _ _ is) (no_bytes format place)
texts_from format at (v ∷ vs) place texts is =
    first_text format at place (as_str (view v)) (each_of as_str (items_view vs)) texts (λ n. texts_in_order format at n (items_view vs)) is
    (λ n others e. texts_from format at vs n others e)

by_texts : (format : Format) (at : Position) (values : List Value) (o : Option (List (List ℕ))) → each_of as_str (items_view values) ≡ o → is_some o ≡ true
    → (of_kind at o >>= (λ texts. steps_from format 0 (concat texts) >>= (λ steps. Ok (Some steps)))) ≡ (texts_in_order format at 0 (items_view values) >>= (λ steps. Ok (Some steps)))
by_texts format at values None is some = absurd (false≢true some)
by_texts format at values (Some texts) is some = ap (λ (found : Read (List Step)). found >>= (λ steps. Ok (Some steps))) (texts_from format at values 0 texts is)

-- ---- the value of `journal`

pub journal_from-no_array : (format : Format) (at : Position) (value : Data) → as_array value ≡ None → journal_from format at value ≡ Err (WrongKind at.table at.place at.name)
unfolding journal_from
journal_from-no_array format at value is = rw is refl

pub journal_from-others : (format : Format) (at : Position) (value : Data) (values : List Value) → as_array value ≡ Some (items_view values)
    → are_texts values ≡ false → journal_from format at value ≡ Err (WrongKind at.table at.place at.name)
unfolding journal_from
journal_from-others format at value values is none = rw (is, each_of-none as_str values none) refl

-- the texts in order give steps, or a fault
pub journal_from-texts : (format : Format) (at : Position) (value : Data) (values : List Value) (found : Read (List Step)) → as_array value ≡ Some (items_view values)
    → are_texts values ≡ true → texts_in_order format at 0 (items_view values) ≡ found → journal_from format at value ≡ (found >>= (λ steps. Ok (Some steps)))
unfolding journal_from
journal_from-texts format at value values found is all read =
    rw is (by_texts format at values (each_of as_str (items_view values)) refl (sym (each_of-is_some as_str values) ∙ all)
    ∙ ap (λ (steps : Read (List Step)). steps >>= (λ those. Ok (Some those))) read)

-- ---- one text after another

-- the steps of the texts from index i on
abbrev pub texts_at : Format → Position → ℕ → List Value → ℕ → Read (List Step)
texts_at format at place values i = texts_in_order format at place (items_view (drop i values))

-- what was found before it, then some steps and more
after-steps : (found : List Step) (o : Read (List Step)) (q : ℕ → Read (List Step))
    → after found (o >>= (λ steps. after steps (q (length found + length steps)))) ≡ (after found o >>= (λ more. after more (q (length more))))
after-steps found (Err fault) q = refl
after-steps found (Ok steps) q =
    after-after found steps (q (length found + length steps)) ∙ ap (λ n. after (found ++ steps) (q n)) (sym (length-append found steps))

by_text : (format : Format) (found : List Step) (first : Read (List ℕ)) (q : ℕ → Read (List Step))
    → after found (first >>= (λ text. steps_from format (length found) text >>= (λ steps. after steps (q (length found + length steps)))))
    ≡ (first >>= (λ text. after found (steps_from format (length found) text) >>= (λ more. after more (q (length more)))))
by_text format found (Err fault) q = refl
by_text format found (Ok text) q = after-steps found (steps_from format (length found) text) q

-- one more value, which is a text that writes steps, or else gives a fault
pub texts_next : (format : Format) (at : Position) (values : List Value) (i : ℕ) (value : Value) (found : List Step) → i < length values → value ≡ get_or values i value
    → after found (texts_at format at (length found) values i)
    ≡ (of_kind at (as_str (view value)) >>= (λ text. after found (steps_from format (length found) text) >>= (λ more. after more (texts_at format at (length more) values (i + 1)))))
texts_next format at values i value found inside is =
    ap (λ items. after found (texts_in_order format at (length found) items)) (items_view-drop values i value inside)
    ∙ ap (λ (v : Value). after found (texts_in_order format at (length found) (item (view v) (items_view (drop (i + 1) values))))) (sym is)
    ∙ by_text format found (of_kind at (as_str (view value))) (λ n. texts_at format at n values (i + 1))

pub texts_done : (format : Format) (at : Position) (values : List Value) (found : List Step) → after found (texts_at format at (length found) values (length values)) ≡ Ok found
texts_done format at values found =
    ap (λ vs. after found (texts_in_order format at (length found) (items_view vs))) (drop-length values) ∙ ap Ok (append-nil found)
