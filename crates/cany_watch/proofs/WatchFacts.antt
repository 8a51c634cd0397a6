-- A run whose steps a hall makes, and what is read of a line.
use Rattle.std.proofs.Common.{◌≡◌, ℕ, ◌+◌, ◌-◌, ◌<◌, true, List, [], ◌∷◌, ◌++◌, length, map, take, drop, get_or, false, Option, Some, None, is_some, refl, ap, sym, subst, ◌∙◌, arith}
use Rattle.std.specs.Prelude.{if◌then◌else◌, option_map, slice_get, slice_index_or, unwrap_or}
use Rattle.std.proofs.lemmas.List.{drop_more, take_more, take-append-drop, take-map}
use Rattle.std.proofs.lemmas.Option.{slice_get_read}
use mathlib.Core.List.{IsPrefix}
use Rattle.cany_base.specs.Bounded.{Bounded}
use Rattle.cany_base.specs.declared.actions.Action.{Action}
use Rattle.cany_base.specs.declared.actions.Action.TheVariants.{Enter}
use Rattle.cany_base.specs.declared.log_entry.LogEntry.{LogEntry}
use Rattle.cany_base.specs.declared.step.Step.{Step}
use Rattle.cany_base.specs.Scenario.{ScenarioParts}
use Rattle.cany_model.specs.declared.reply.StepReply.{StepReply}
use Rattle.cany_model.specs.Bus.State.{opening}
use Rattle.cany_model.specs.Runs.Follow.{journal_of}
use Rattle.cany_model.specs.Runs.RoundRobin.{round_robin}
use Rattle.cany_model.specs.Runs.Run.{IsLegal, is_done, is_legal_from, reply, run}
use Rattle.cany_model.proofs.Runs.Journals.{legal_next}
use Rattle.cany_world.specs.World.{WorldParts, state_of}
use Rattle.cany_watch.specs.Halls.{publisher_at}
use Rattle.cany_watch.specs.Notes.{NoteParts}
use Rattle.cany_watch.specs.Publishers.{PublisherParts, note_of}

-- each step of a legal journal is done when it comes
pub step_made : (first w w' : WorldParts) (steps : List Step) (i : ℕ) (made : Step) (r : StepReply) → IsLegal first.scenario steps → i < length steps → made ≡ get_or steps i made
    → w ≡ record first { journal = take i steps } → r ≡ reply w.scenario (state_of w) made → w' ≡ (if is_done r then record w { journal = w.journal ++ made ∷ [] } else w)
    → w' ≡ record first { journal = take (i + 1) steps }
step_made first w w' steps i made r legal within at is replied new =
    let parts : steps ≡ take i steps ++ made ∷ drop (i + 1) steps =
    sym (take-append-drop i steps) ∙ ap (λ l. take i steps ++ l) (drop_more steps i made within ∙ ap (λ x. x ∷ drop (i + 1) steps) (sym at)) in
    let done : is_done (reply first.scenario (run first.scenario (take i steps)) made) ≡ true =
    legal_next first.scenario (opening first.scenario.params.nodes) (take i steps) made (drop (i + 1) steps)
    (subst (λ l. is_legal_from first.scenario (opening first.scenario.params.nodes) l ≡ true) parts legal) in
    let here : is_done r ≡ true = ap is_done (replied ∙ ap (λ (x : WorldParts). reply x.scenario (state_of x) made) is) ∙ done in
    let next : w' ≡ record w { journal = w.journal ++ made ∷ [] } = rw here at new in
    let longer : take i steps ++ made ∷ [] ≡ take (i + 1) steps = ap (λ x. take i steps ++ x ∷ []) at ∙ sym (take_more steps i made within) in
    next ∙ ap (λ (x : WorldParts). record x { journal = x.journal ++ made ∷ [] }) is ∙ ap (λ (l : List Step). record first { journal = l }) longer

prefix_taken : {A : Type 0} (xs ys : List A) → IsPrefix xs ys → take (length xs) ys ≡ xs
prefix_taken [] ys p = refl
prefix_taken (x ∷ xs) [] p = absurd (cc (p.1))
prefix_taken {A} (x ∷ xs) (y ∷ ys) p =
    let head : x ≡ y = cc (p.1) in
    let tail : take (length xs) ys ≡ xs = prefix_taken xs ys (p.0, cc (p.1)) in cc (head, tail)

-- what was read into as much room as the line needs is the line
pub line_read : (line told entered : List LogEntry) (room : ℕ) (old out : Bounded Action) → told ≡ line → room ≡ length told → IsPrefix told entered
    → old ≡ record { items = []; room = room } → out ≡ record { items = old.items ++ take (old.room - length old.items) (map Enter (drop 0 entered)); room = old.room } → out.items ≡ map Enter line
line_read line told entered room old out is whole begins empty read =
    let e : room - 0 ≡ length told = omega (arith, whole) in
    let items : out.items ≡ take (room - 0) (map Enter entered) =
    ap (λ (b : Bounded Action). b.items) read ∙ ap (λ (b : Bounded Action). b.items ++ take (b.room - length b.items) (map Enter entered)) empty in
    items ∙ ap (λ n. take n (map Enter entered)) e ∙ take-map Enter (length told) entered ∙ ap (map Enter) (prefix_taken told entered begins ∙ is)

-- the reading of a node is of the book of its publisher
pub book_of : (readings : List NoteParts) (publishers : List PublisherParts) (i node : ℕ) (reading : NoteParts) → i ≡ node → i < length readings → reading ≡ slice_index_or readings i reading
    → slice_get readings node ≡ Some (note_of (publisher_at publishers node)) → reading.book ≡ (publisher_at publishers node).book
book_of readings publishers i node reading at within is told =
    let read : slice_get readings i ≡ Some reading = slice_get_read readings (length readings) i reading refl within is in
    let same : Some reading ≡ Some (note_of (publisher_at publishers node)) = sym read ∙ ap (λ (k : ℕ). slice_get readings k) at ∙ told in
    let e : reading ≡ note_of (publisher_at publishers node) = cc in
    ap (λ (n : NoteParts). n.book) e

-- a scenario without a journal of its own runs by round robin
pub none_given : {T : Type 0} (scenario : ScenarioParts) (steps : List Step) (given : Option T) (seen : T → List Step) → is_some given ≡ false
    → option_map seen given ≡ scenario.journal → steps ≡ journal_of scenario → steps ≡ round_robin scenario
none_given scenario steps None seen none has is = is ∙ ap (λ o. unwrap_or o (round_robin scenario)) (sym has)
none_given scenario steps (Some x) seen none has is = absurd (cc none)
