-- The entries that wait to be published.
use Rattle.std.proofs.Common.{◌≡◌, List, [], ◌∷◌, ◌++◌, Option, Some, None, Result, Ok, Err, fold, map, refl, ap, sym, subst, ◌∙◌, append_assoc, ℕ}
use Rattle.std.proofs.lemmas.List.{append-nil}
use Rattle.std.proofs.lemmas.List.Sums.{fold-append}
use Rattle.std.specs.Option.{IsSomeAnd}
use Rattle.std.specs.Result.{MatchResult, result_err}
use mathlib.Core.List.{IsPrefix}
use Rattle.crossbeam_utils.specs.Register.{TurnsAt}
use Rattle.cany_base.specs.declared.log_entry.LogEntry.{LogEntry}
use Rattle.cany_watch.specs.declared.published.Growth.{Growth}
use Rattle.cany_watch.specs.declared.published.Published.{Published}
use Rattle.cany_watch.specs.Notes.{NoteParts, Follows}
use Rattle.cany_watch.specs.Shown.{State, Keeps, Shows, grown, state_of}
use Rattle.cany_watch.specs.Publishers.{IsWriterOf, held_list}
use Rattle.cany_watch.proofs.Showing.{shows}

pub some_map : {T : Type 0} (P Q : T → Type 0) (o : Option T) → ((x : T) → P x → Q x) → IsSomeAnd o P → IsSomeAnd o Q
some_map P Q None h p = p
some_map P Q (Some x) h p = h x p

-- what waits goes behind what is published
pub grown_entries : (s : State) (gs : List Growth) → (fold grown s gs).0 ≡ s.0 ++ map (λ g. g.entry) gs
grown_entries s [] = sym (append-nil s.0)
grown_entries s (g ∷ gs) = grown_entries (grown s g) gs ∙ append_assoc s.0 (g.entry ∷ []) (map (λ g. g.entry) gs)

pub published_begins : (taken : NoteParts) (value : Published) (waiting : List Growth) → IsWriterOf taken value waiting → IsPrefix value.entries.items taken.entries
published_begins taken value waiting is = (map (λ g. g.entry) waiting, sym (grown_entries (state_of value) waiting) ∙ ap (λ (s : State). s.0) is.next)

-- one entry more waits
pub waits_more : (taken taken' : NoteParts) (value : Published) (waiting : List Growth) (g : Growth) → IsWriterOf taken value waiting → taken'.book ≡ taken.book
    → taken'.entries ≡ taken.entries ++ g.entry ∷ [] → g.front ≡ taken' → IsWriterOf taken' value (waiting ++ g ∷ [])
waits_more taken taken' value waiting g is book entries front = record {
  shown = is.shown;
  book = is.book ∙ sym book;
  next = fold-append grown (state_of value) waiting (g ∷ []) ∙ (ap (λ (s : State). grown s g) is.next ∙ λ i. (sym entries i, front i));
}

-- what is published next follows what is published
pub may_show : (seat : ℕ) (v : Option NoteParts) (taken : NoteParts) (value next : Published) (waiting : List Growth) → IsWriterOf taken value waiting
    → state_of next ≡ fold grown (state_of value) waiting → TurnsAt Keeps seat v value next Shows
may_show seat v taken value next waiting is after =
    let all : state_of next ≡ (taken.entries, taken) = after ∙ is.next in
    let front : next.front ≡ taken = ap (λ (s : State). s.1) all in
    let entries : next.entries.items ≡ taken.entries = ap (λ (s : State). s.0) all in
    let follows : Follows value.front taken = (sym is.book, subst (λ (l : List LogEntry). IsPrefix l taken.entries) (sym is.shown) (published_begins taken value waiting is)) in
    shows seat v value next (ap (λ (n : NoteParts). n.entries) front ∙ sym entries) (subst (λ (n : NoteParts). Follows value.front n) (sym front) follows)

-- once it is published, nothing waits
pub now_shown : (taken : NoteParts) (value next : Published) (waiting : List Growth) → IsWriterOf taken value waiting
    → state_of next ≡ fold grown (state_of value) waiting → IsWriterOf taken next []
now_shown taken value next waiting is after =
    let all : state_of next ≡ (taken.entries, taken) = after ∙ is.next in record {
      shown = ap (λ (s : State). s.1.entries) all ∙ sym (ap (λ (s : State). s.0) all);
      book = ap (λ (s : State). s.1.book) all;
      next = all;
    }

-- an operation that the writer could not take waits as before
pub waits_still : (taken : NoteParts) (value value' : Published) (waiting waiting' : List Growth) → value' ≡ value → waiting' ≡ waiting → IsWriterOf taken value waiting → IsWriterOf taken value' waiting'
waits_still taken value value' waiting waiting' same still is = rw (same, still) is

-- what waits at the writer, and the operation that came back from it, are what waited before
pub waits_held : {U : Type 0} (taken : Result U Growth) (held : Growth) (before after : List Growth)
    → MatchResult taken (λ _. after ≡ before ++ held ∷ []) (λ back. (back ≡ held) × (after ≡ before)) → after ++ held_list (result_err taken) ≡ before ++ held ∷ []
waits_held (Ok done) held before after is = append-nil after ∙ is
waits_held (Err back) held before after is = rw (is.0, is.1) refl
