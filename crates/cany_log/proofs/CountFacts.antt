-- Counts of log entries, log by log.
use Rattle.std.proofs.Common.{◌≡◌, ℕ, suc, ◌+◌, ◌*◌, ◌<◌, ◌≤◌, Bool, cond, List, [], ◌∷◌, ◌++◌, take, length, get_or, refl, sym, ◌∙◌, ap, append-nil, arith}
use Rattle.std.specs.Prelude.{codes, count_by, decimal}
use Rattle.std.specs.List.{flat_map, range_with_len}
use Rattle.std.proofs.lemmas.List.{take_all, take_more}
use Rattle.std.proofs.lemmas.List.Concat.{flat_map-append}
use Rattle.std.proofs.lemmas.List.Sums.{sum_by-append}
use Rattle.cany_base.specs.declared.log_entry.LogEntry.{LogEntry}
use Rattle.cany_log.specs.declared.entry_counts.EntryCounts.{EntryCounts}
use Rattle.cany_log.specs.Counted.{AreAtMost, counts_of}
use Rattle.cany_base.specs.Scenario.{ScenarioParts}
use Rattle.cany_model.specs.Runs.Incarnations.{log_of}
use Rattle.cany_model.specs.Bus.State.{RunState, node_at}
use Rattle.cany_text.specs.ReportLines.{line_of}
use Rattle.cany_log.specs.Summary.{all_entries, entries_line, entries_of_node, is_delivery, is_failure, is_view}

abbrev pub plus : EntryCounts → EntryCounts → EntryCounts
plus a b = record {
  deliveries = a.deliveries + b.deliveries;
  failures = a.failures + b.failures;
  views = a.views + b.views;
}

count_by-append : (test : LogEntry → Bool) (xs ys : List LogEntry) → count_by test (xs ++ ys) ≡ count_by test xs + count_by test ys
count_by-append test xs ys = sum_by-append (λ x. cond (test x) 1 0) xs ys

counts-append : (xs ys : List LogEntry) → counts_of (xs ++ ys) ≡ plus (counts_of xs) (counts_of ys)
counts-append xs ys = rw (count_by-append is_delivery xs ys, count_by-append is_failure xs ys, count_by-append is_view xs ys) refl

-- Of the logs of the first i of these things the entries are counted, where each log has at most so
-- many of a kind.
pub record AreCounted {X : Type 0} (f : X → List LogEntry) (xs : List X) (most i : ℕ) (counts : EntryCounts) : Type 0 where
  pub value : counts ≡ counts_of (flat_map f (take i xs))
  pub few : AreAtMost (i * most) counts

module _ {X : Type 0} (f : X → List LogEntry) (xs : List X) (most : ℕ) where
  pub AreCounted-none : AreCounted f xs most 0 (record { deliveries = 0; failures = 0; views = 0 })
  AreCounted-none = record { value = refl; few = (omega arith, omega arith, omega arith) }

  next_log : (i : ℕ) (x : X) → i < length xs → x ≡ get_or xs i x → flat_map f (take (i + 1) xs) ≡ flat_map f (take i xs) ++ f x
  next_log i x inside is =
      ap (flat_map f) (take_more xs i x inside ∙ ap (λ y. take i xs ++ y ∷ []) (sym is))
      ∙ flat_map-append f (take i xs) (x ∷ [])
      ∙ ap (λ r. flat_map f (take i xs) ++ r) (append-nil (f x))

  -- and those of one more log
  pub AreCounted-next : (i : ℕ) (x : X) (counts more all : EntryCounts) → AreCounted f xs most i counts → i < length xs → x ≡ get_or xs i x → more ≡ counts_of (f x)
      → AreAtMost most more → all ≡ plus counts more → i * most + most ≤ (i + 1) * most → AreCounted f xs most (i + 1) all
  AreCounted-next i x counts more all before inside is more_is few sum room = record {
    value =
        sum ∙ ap (λ c. plus c more) before.value ∙ ap (plus (counts_of (flat_map f (take i xs)))) more_is
        ∙ sym (counts-append (flat_map f (take i xs)) (f x)) ∙ ap counts_of (sym (next_log i x inside is));
    few = (
      omega (arith, room, before.few.0, few.0, ap (λ (c : EntryCounts). c.deliveries) sum),
      omega (arith, room, before.few.1, few.1, ap (λ (c : EntryCounts). c.failures) sum),
      omega (arith, room, before.few.2, few.2, ap (λ (c : EntryCounts). c.views) sum),
    );
  }

  pub AreCounted-all : (i : ℕ) (counts : EntryCounts) → AreCounted f xs most i counts → length xs ≤ i → counts ≡ counts_of (flat_map f xs)
  AreCounted-all i counts before past = before.value ∙ ap (λ ys. counts_of (flat_map f ys)) (take_all i xs past)

-- ---- of a world

pub node_entries : (scenario : ScenarioParts) (s : RunState) (i count : ℕ) → count ≡ suc (node_at s.nodes i).present.number
    → flat_map (log_of scenario s i) (range_with_len 0 count) ≡ entries_of_node scenario s i
unfolding entries_of_node
node_entries scenario s i count is = ap (λ n. flat_map (log_of scenario s i) (range_with_len 0 n)) is

pub world_entries : (scenario : ScenarioParts) (s : RunState) (count : ℕ) → count ≡ scenario.params.nodes
    → flat_map (entries_of_node scenario s) (range_with_len 0 count) ≡ all_entries scenario s
unfolding all_entries
world_entries scenario s count is = ap (λ n. flat_map (entries_of_node scenario s) (range_with_len 0 n)) is

pub entries_line-is : (entries : List LogEntry) (counts : EntryCounts) → counts ≡ counts_of entries
    → entries_line entries ≡ line_of (
    codes "deliveries" ∷ decimal counts.deliveries ∷ codes "failures" ∷ decimal counts.failures ∷ codes "views" ∷ decimal counts.views ∷ [])
unfolding entries_line
entries_line-is entries counts are = rw are refl
