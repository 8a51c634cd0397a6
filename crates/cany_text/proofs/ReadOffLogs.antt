-- The lines of each incarnation's log are read off the report.
use Rattle.std.proofs.Common.{◌≡◌, ℕ, suc, ◌^◌, ◌<◌, ◌≤◌, ◌==◌, Bool, true, false, List, [], ◌∷◌, ◌++◌, map, Option, Some, None, inl, inr, refl, ap, sym, ◌∙◌, subst, arith, append_assoc}
use Rattle.std.specs.Prelude.{if◌then◌else◌, option_map, slice_index, codes, decimal}
use Rattle.std.specs.List.{AllByRecursion, flat_map, range_with_len}
use Rattle.std.specs.Option.{option_map_or}
use Rattle.std.proofs.lemmas.Bool.{eqb-true, eq-eqb, false≢true}
use Rattle.std.proofs.lemmas.Fmt.{decimal_injective}
use Rattle.std.proofs.lemmas.List.{append-nil}
use Rattle.cany_base.specs.declared.log_entry.LogEntry.{LogEntry}
use Rattle.cany_base.specs.Scenario.{ScenarioParts}
use Rattle.cany_model.specs.declared.span.Span.{Span}
use Rattle.cany_model.specs.Bus.History.{ended_history}
use Rattle.cany_model.specs.Runs.Incarnations.{incarnation_of, log_of, span_from}
use Rattle.cany_model.specs.Bus.State.{EndedIncarnation, RunState, node_at, reads}
use Rattle.cany_model.specs.Rules.Log.{log_from}
use Rattle.cany_model.specs.Rules.Turn.{scenario_for}
use Rattle.cany_text.specs.Report.{incarnation_lines, node_lines}
use Rattle.cany_text.specs.ReportLines.{line_of, node_line, entry_line}
use Rattle.cany_model.proofs.Among.{Among, Among-flat_map, Among-from_flat_map, Each-append, Each-flat_map, Each-map}
use Rattle.cany_text.proofs.ReadOffLines.{entry_begins, incarnation_part, is_entry, node_begins}
use Rattle.cany_text.proofs.ReadOffLists.{Pass, StopsAt, always, among_numbers, cons_same, flat_map_alike, flat_map_twice, fronts_same, number_among}
use Rattle.cany_text.proofs.ReadOffText.{Lacks, line_fields, no_space}

-- ---- groups: the line of an incarnation, and those of its log

abbrev Group : Type 0
Group = List ℕ × List (List ℕ)

abbrev lines_of_group : Group → List (List ℕ)
lines_of_group g = g.0 ∷ g.1

abbrev pub ended_log : ScenarioParts → RunState → ℕ → EndedIncarnation → List LogEntry
ended_log scenario s i e = log_from (scenario_for scenario e.incarnation) i (ended_history i s.trace e)

abbrev group_of : ScenarioParts → RunState → ℕ → ℕ → EndedIncarnation → Group
group_of scenario s i inc e = (node_line i inc (span_from e), map entry_line (ended_log scenario s i e))

abbrev groups_from : ScenarioParts → RunState → ℕ → ℕ → Option EndedIncarnation → List Group
groups_from scenario s i inc None = []
groups_from scenario s i inc (Some e) = group_of scenario s i inc e ∷ []

abbrev groups_of : ScenarioParts → RunState → ℕ → ℕ → List Group
groups_of scenario s i inc = groups_from scenario s i inc (incarnation_of s i inc)

abbrev numbers_at : RunState → ℕ → List ℕ
numbers_at s i = range_with_len 0 (suc (node_at s.nodes i).present.number)

abbrev groups_at : ScenarioParts → RunState → ℕ → List Group
groups_at scenario s i = flat_map (groups_of scenario s i) (numbers_at s i)

abbrev groups : ScenarioParts → RunState → List Group
groups scenario s = flat_map (groups_at scenario s) (range_with_len 0 scenario.params.nodes)

grouped_from : (scenario : ScenarioParts) (s : RunState) (i inc : ℕ) (o : Option EndedIncarnation)
    → option_map_or (λ span. node_line i inc span ∷ []) (option_map span_from o) []
    ++ map entry_line (option_map_or (ended_log scenario s i) o [])
    ≡ flat_map lines_of_group (groups_from scenario s i inc o)
grouped_from scenario s i inc None = refl
grouped_from scenario s i inc (Some e) = sym (append-nil (node_line i inc (span_from e) ∷ map entry_line (ended_log scenario s i e)))

incarnation_grouped : (scenario : ScenarioParts) (s : RunState) (i inc : ℕ)
    → incarnation_lines scenario s i inc ≡ flat_map lines_of_group (groups_of scenario s i inc)
unfolding incarnation_lines
incarnation_grouped scenario s i inc = grouped_from scenario s i inc (incarnation_of s i inc)

node_grouped : (scenario : ScenarioParts) (s : RunState) (i : ℕ)
    → node_lines scenario s i ≡ flat_map lines_of_group (groups_at scenario s i)
unfolding node_lines
node_grouped scenario s i =
    flat_map_alike (incarnation_lines scenario s i) (λ inc. flat_map lines_of_group (groups_of scenario s i inc))
    (incarnation_grouped scenario s i) (numbers_at s i)
    ∙ sym (flat_map_twice (groups_of scenario s i) lines_of_group (numbers_at s i))

site_grouped : (scenario : ScenarioParts) (s : RunState)
    → flat_map (node_lines scenario s) (range_with_len 0 scenario.params.nodes) ≡ flat_map lines_of_group (groups scenario s)
site_grouped scenario s =
    flat_map_alike (node_lines scenario s) (λ i. flat_map lines_of_group (groups_at scenario s i)) (node_grouped scenario s)
    (range_with_len 0 scenario.params.nodes)
    ∙ sym (flat_map_twice (groups_at scenario s) lines_of_group (range_with_len 0 scenario.params.nodes))

-- ---- the lines determine the groups

abbrev IsGroup : Group → Type 0
IsGroup g = (is_entry g.0 ≡ false) × Pass is_entry g.1

from_are_groups : (scenario : ScenarioParts) (s : RunState) (i inc : ℕ) (o : Option EndedIncarnation)
    → AllByRecursion IsGroup (groups_from scenario s i inc o)
from_are_groups scenario s i inc None = tt
from_are_groups scenario s i inc (Some e) = (
  (
    (node_begins i inc (span_from e)).1,
    Each-map entry_line (λ line. is_entry line ≡ true) (ended_log scenario s i e)
        (always (λ entry. is_entry (entry_line entry) ≡ true) (λ entry. (entry_begins entry).1) (ended_log scenario s i e)),
  ),
  tt,
)

are_groups : (scenario : ScenarioParts) (s : RunState) → AllByRecursion IsGroup (groups scenario s)
are_groups scenario s =
    Each-flat_map (groups_at scenario s) IsGroup (range_with_len 0 scenario.params.nodes)
    (always (λ i. AllByRecursion IsGroup (groups_at scenario s i))
    (λ i. Each-flat_map (groups_of scenario s i) IsGroup (numbers_at s i)
    (always (λ inc. AllByRecursion IsGroup (groups_of scenario s i inc))
    (λ inc. from_are_groups scenario s i inc (incarnation_of s i inc)) (numbers_at s i)))
    (range_with_len 0 scenario.params.nodes))

groups_stop : (gs : List Group) → AllByRecursion IsGroup gs → StopsAt is_entry (flat_map lines_of_group gs)
groups_stop [] all = tt
groups_stop (g ∷ gs) all = all.0.0

groups_same : (gs hs : List Group) → AllByRecursion IsGroup gs → AllByRecursion IsGroup hs
    → flat_map lines_of_group gs ≡ flat_map lines_of_group hs → gs ≡ hs
groups_same [] [] a b e = refl
groups_same [] (h ∷ hs) a b e = absurd (cc)
groups_same (g ∷ gs) [] a b e = absurd (cc)
groups_same (g ∷ gs) (h ∷ hs) a b e =
    let head = cons_same g.0 h.0 (g.1 ++ flat_map lines_of_group gs) (h.1 ++ flat_map lines_of_group hs) e in
    let rest = fronts_same is_entry g.1 h.1 (flat_map lines_of_group gs) (flat_map lines_of_group hs) a.0.1 b.0.1
    (groups_stop gs a.1) (groups_stop hs b.1) head.1 in
    let first : g ≡ h = λ i. (head.0 i, rest.0 i) in
    let others = groups_same gs hs a.1 b.1 rest.1 in
    cc

-- ---- the line of an incarnation tells which it is

abbrev is_number_word : List ℕ → Bool
is_number_word field = slice_index field 0 == 105

-- its fields, of which those behind the number of the incarnation are left open
record NodeFields (i inc : ℕ) (span : Span) : Type 0 where
  since : ℕ
  rest : List (List ℕ)
  stops : StopsAt is_number_word rest
  lack : AllByRecursion (Lacks 32) (codes "node" ∷ decimal i ∷ incarnation_part inc since ++ rest)
  is : node_line i inc span ≡ line_of (codes "node" ∷ decimal i ∷ incarnation_part inc since ++ rest)

part_lacks : (inc since : ℕ) → AllByRecursion (Lacks 32) (incarnation_part inc since)
part_lacks inc since = by_first (inc == 0)
  where
    by_first : (b : Bool) → AllByRecursion (Lacks 32) (if b then [] else codes "inc" ∷ decimal inc ∷ codes "since" ∷ decimal since ∷ [])
    by_first true = tt
    by_first false = (refl, (no_space inc, (refl, (no_space since, tt))))

fields_at : (stopped : Option ℕ) (i inc : ℕ) (span : Span) → NodeFields i inc (record span { stopped = stopped })
unfolding node_line
fields_at None i inc span = record {
  since = span.since;
  rest = codes "correct" ∷ codes "read" ∷ decimal span.read ∷ [];
  stops = refl;
  lack = (
    refl,
    (
      no_space i,
      Each-append (Lacks 32) (incarnation_part inc span.since) (codes "correct" ∷ codes "read" ∷ decimal span.read ∷ [])
          (part_lacks inc span.since) (refl, (refl, (no_space span.read, tt))),
    ),
  );
  is = ap (λ fields. line_of (codes "node" ∷ decimal i ∷ fields))
      (append_assoc (incarnation_part inc span.since) (codes "correct" ∷ []) (codes "read" ∷ decimal span.read ∷ []));
}
fields_at (Some slot) i inc span = record {
  since = span.since;
  rest = codes "stopped" ∷ decimal slot ∷ codes "read" ∷ decimal span.read ∷ [];
  stops = refl;
  lack = (
    refl,
    (
      no_space i,
      Each-append (Lacks 32) (incarnation_part inc span.since) (codes "stopped" ∷ decimal slot ∷ codes "read" ∷ decimal span.read ∷ [])
          (part_lacks inc span.since) (refl, (no_space slot, (refl, (no_space span.read, tt)))),
    ),
  );
  is = ap (λ fields. line_of (codes "node" ∷ decimal i ∷ fields))
      (append_assoc (incarnation_part inc span.since) (codes "stopped" ∷ decimal slot ∷ []) (codes "read" ∷ decimal span.read ∷ []));
}

node_fields : (i inc : ℕ) (span : Span) → NodeFields i inc span
node_fields i inc span = fields_at span.stopped i inc span

starts_so : (r : List (List ℕ)) (word : List ℕ) (more : List (List ℕ)) → StopsAt is_number_word r → is_number_word word ≡ true
    → r ≡ word ∷ more → ⊥
starts_so [] word more stop starts e = absurd (cc)
starts_so (x ∷ r) word more stop starts e = false≢true (sym stop ∙ ap is_number_word (cons_same x word r more e).0 ∙ starts)

abbrev shown : ℕ → ℕ → List (List ℕ)
shown inc since = codes "inc" ∷ decimal inc ∷ codes "since" ∷ decimal since ∷ []

numbers_same : (m n a b : ℕ) (r t : List (List ℕ)) → m < 2 ^ 64 → n < 2 ^ 64 → StopsAt is_number_word r → StopsAt is_number_word t
    → incarnation_part m a ++ r ≡ incarnation_part n b ++ t → m ≡ n
numbers_same m n a b r t below under c d e = by_tests (m == 0) (n == 0) refl refl e
  where
    by_tests : (p q : Bool) → (m == 0) ≡ p → (n == 0) ≡ q → (if p then [] else shown m a) ++ r ≡ (if q then [] else shown n b) ++ t → m ≡ n
    by_tests true true mp nq h = eqb-true m 0 mp ∙ sym (eqb-true n 0 nq)
    by_tests true false mp nq h = absurd (starts_so r (codes "inc") (decimal n ∷ codes "since" ∷ decimal b ∷ t) c refl h)
    by_tests false true mp nq h = absurd (starts_so t (codes "inc") (decimal m ∷ codes "since" ∷ decimal a ∷ r) d refl (sym h))
    by_tests false false mp nq h =
        let tail = cons_same (codes "inc") (codes "inc") (decimal m ∷ codes "since" ∷ decimal a ∷ r)
        (decimal n ∷ codes "since" ∷ decimal b ∷ t) h in
        decimal_injective m n below under
        (cons_same (decimal m) (decimal n) (codes "since" ∷ decimal a ∷ r) (codes "since" ∷ decimal b ∷ t) tail.1).0

-- the node and the number of the incarnation
which : (i inc : ℕ) (span : Span) (j num : ℕ) (told : Span) → i < 2 ^ 64 → j < 2 ^ 64 → inc < 2 ^ 64 → num < 2 ^ 64
    → node_line i inc span ≡ node_line j num told → (i ≡ j) × (inc ≡ num)
which i inc span j num told i_below j_below inc_below num_below e =
    let f = node_fields i inc span in
    let g = node_fields j num told in
    let fields = line_fields (codes "node") (codes "node") (decimal i ∷ incarnation_part inc f.since ++ f.rest)
    (decimal j ∷ incarnation_part num g.since ++ g.rest)
    f.lack g.lack (sym f.is ∙ e ∙ g.is) in
    let tail = cons_same (codes "node") (codes "node") (decimal i ∷ incarnation_part inc f.since ++ f.rest)
    (decimal j ∷ incarnation_part num g.since ++ g.rest) fields in
    let parts = cons_same (decimal i) (decimal j) (incarnation_part inc f.since ++ f.rest)
    (incarnation_part num g.since ++ g.rest) tail.1 in (
      decimal_injective i j i_below j_below parts.0,
      numbers_same inc num f.since g.since f.rest g.rest inc_below num_below f.stops g.stops parts.1,
    )

-- ---- the groups of a run

-- a group of the run that has the property
record Listed (P : Group → Type 0) (scenario : ScenarioParts) (s : RunState) : Type 0 where
  node : ℕ
  number : ℕ
  ended : EndedIncarnation
  below : node < scenario.params.nodes
  within : number ≤ (node_at s.nodes node).present.number
  is : incarnation_of s node number ≡ Some ended
  has : P (group_of scenario s node number ended)

listed : (P : Group → Type 0) (scenario : ScenarioParts) (s : RunState) → Among P (groups scenario s) → Listed P scenario s
listed P scenario s h =
    let at = number_among (λ i. Among P (groups_at scenario s i)) 0 scenario.params.nodes
    (Among-from_flat_map (groups_at scenario s) P (range_with_len 0 scenario.params.nodes) h) in
    let num = number_among (λ inc. Among P (groups_of scenario s at.at inc)) 0 (suc (node_at s.nodes at.at).present.number)
    (Among-from_flat_map (groups_of scenario s at.at) P (numbers_at s at.at) at.has) in
    by_option at.at num.at (omega (arith, at.high)) (omega (arith, num.high)) (incarnation_of s at.at num.at) refl num.has
  where
    by_option : (i inc : ℕ) → i < scenario.params.nodes → inc ≤ (node_at s.nodes i).present.number → (o : Option EndedIncarnation)
        → incarnation_of s i inc ≡ o
        → Among P (groups_from scenario s i inc o) → Listed P scenario s
    by_option i inc below within None e none = absurd none
    by_option i inc below within (Some ended) e (inl p) =
        record { node = i; number = inc; ended = ended; below = below; within = within; is = e; has = p }
    by_option i inc below within (Some ended) e (inr none) = absurd none

lists : (P : Group → Type 0) (scenario : ScenarioParts) (s : RunState) (i inc : ℕ) (e : EndedIncarnation) → i < scenario.params.nodes
    → inc ≤ (node_at s.nodes i).present.number → incarnation_of s i inc ≡ Some e → P (group_of scenario s i inc e)
    → Among P (groups scenario s)
lists P scenario s i inc e below within is p =
    Among-flat_map (groups_at scenario s) P (range_with_len 0 scenario.params.nodes)
    (among_numbers (λ k. Among P (groups_at scenario s k)) 0 scenario.params.nodes i (omega arith) (omega (arith, below))
    (Among-flat_map (groups_of scenario s i) P (numbers_at s i)
    (among_numbers (λ n. Among P (groups_of scenario s i n)) 0 (suc (node_at s.nodes i).present.number) inc (omega arith)
    (omega (arith, within))
    (subst (λ o. Among P (groups_from scenario s i inc o)) (sym is) (inl p)))))

-- ---- two runs with equal lines

-- the numbers of nodes and incarnations are short enough for a line
pub record HasShortNumbers (scenario : ScenarioParts) (s : RunState) : Type 0 where
  pub nodes : scenario.params.nodes < 2 ^ 64
  pub incarnations : (i : ℕ) → i < scenario.params.nodes → (node_at s.nodes i).present.number < 2 ^ 64

-- an incarnation of the other run with the same lines
record Found (a : ScenarioParts) (s : RunState) (i inc : ℕ) (e : EndedIncarnation) (b : ScenarioParts) (t : RunState) : Type 0 where
  ended : EndedIncarnation
  is : incarnation_of t i inc ≡ Some ended
  within : inc ≤ (node_at t.nodes i).present.number
  lines : map entry_line (ended_log a s i e) ≡ map entry_line (ended_log b t i ended)

found : (a : ScenarioParts) (s : RunState) (b : ScenarioParts) (t : RunState) → HasShortNumbers a s → HasShortNumbers b t
    → groups a s ≡ groups b t
    → (i inc : ℕ) (e : EndedIncarnation) → i < a.params.nodes → inc ≤ (node_at s.nodes i).present.number → incarnation_of s i inc ≡ Some e
    → Found a s i inc e b t
found a s b t short brief same i inc e below within is =
    let own : Group = group_of a s i inc e in
    let w = listed (λ g. own ≡ g) b t (subst (Among (λ g. own ≡ g)) same (lists (λ g. own ≡ g) a s i inc e below within is refl)) in
    let there = which i inc (span_from e) w.node w.number (span_from w.ended) (omega (arith, below, short.nodes))
    (omega (arith, w.below, brief.nodes))
    (omega (arith, within, short.incarnations i below)) (omega (arith, w.within, brief.incarnations w.node w.below))
    (ap (λ (g : Group). g.0) w.has) in
    moved w.node w.number (sym there.0) (sym there.1) w.ended w.is w.within (ap (λ (g : Group). g.1) w.has)
  where
    moved : (j num : ℕ) → j ≡ i → num ≡ inc → (f : EndedIncarnation) → incarnation_of t j num ≡ Some f → num ≤ (node_at t.nodes j).present.number
        → map entry_line (ended_log a s i e) ≡ map entry_line (ended_log b t j f) → Found a s i inc e b t
    moved j num node number f h k lines =
        record {
          ended = f;
          is = sym (ap (λ (n : ℕ). incarnation_of t n inc) node) ∙ sym (ap (λ n. incarnation_of t j n) number) ∙ h;
          within = subst (λ n. inc ≤ (node_at t.nodes n).present.number) node
              (subst (λ n. n ≤ (node_at t.nodes j).present.number) number k);
          lines = lines ∙ ap (λ n. map entry_line (ended_log b t n f)) node;
        }

-- ---- the lines of each log

present_is : (s : RunState) (i : ℕ) → (e : EndedIncarnation) × (incarnation_of s i (node_at s.nodes i).present.number ≡ Some e)
unfolding incarnation_of
present_is s i =
    let node = node_at s.nodes i in (
      record { incarnation = node.present; next = reads s i; stopped = node.stopped },
      rw (eq-eqb node.present.number node.present.number refl) refl,
    )

present_below : (a : ScenarioParts) (s : RunState) (b : ScenarioParts) (t : RunState) → HasShortNumbers a s → HasShortNumbers b t
    → groups a s ≡ groups b t
    → (i : ℕ) → i < a.params.nodes → (node_at s.nodes i).present.number ≤ (node_at t.nodes i).present.number
present_below a s b t short brief same i below =
    (found a s b t short brief same i (node_at s.nodes i).present.number (present_is s i).0 below (omega arith) (present_is s i).1).within

abbrev log_text : ScenarioParts → RunState → ℕ → Option EndedIncarnation → List (List ℕ)
log_text scenario s i o = map entry_line (option_map_or (ended_log scenario s i) o [])

log_text_same : (a : ScenarioParts) (s : RunState) (b : ScenarioParts) (t : RunState) → HasShortNumbers a s → HasShortNumbers b t
    → groups a s ≡ groups b t
    → (i inc : ℕ) → i < a.params.nodes → i < b.params.nodes → inc ≤ (node_at s.nodes i).present.number
    → inc ≤ (node_at t.nodes i).present.number
    → map entry_line (log_of a s i inc) ≡ map entry_line (log_of b t i inc)
log_text_same a s b t short brief same i inc below under within there = by_options (incarnation_of s i inc)
    (incarnation_of t i inc) refl refl
  where
    by_options : (o p : Option EndedIncarnation) → incarnation_of s i inc ≡ o → incarnation_of t i inc ≡ p → log_text a s i o ≡ log_text b t i p
    by_options None None e f = refl
    by_options None (Some ended) e f =
        let w = found b t a s brief short (sym same) i inc ended under there f in
        let is = w.is in
        absurd (cc)
    by_options (Some ended) p e f = let w = found a s b t short brief same i inc ended below within e in w.lines
        ∙ ap (log_text b t i) (sym w.is ∙ f)

-- Where the lines of the nodes are equal, each node has as many incarnations, and each incarnation
-- a log with equal lines.
pub record HaveSameLogLines (a : ScenarioParts) (s : RunState) (b : ScenarioParts) (t : RunState) : Type 0 where
  pub incarnations : (i : ℕ) → i < a.params.nodes → (node_at s.nodes i).present.number ≡ (node_at t.nodes i).present.number
  pub logs : (i inc : ℕ) → i < a.params.nodes → inc ≤ (node_at s.nodes i).present.number
      → map entry_line (log_of a s i inc) ≡ map entry_line (log_of b t i inc)

pub log_lines_same : (a : ScenarioParts) (s : RunState) (b : ScenarioParts) (t : RunState) → HasShortNumbers a s → HasShortNumbers b t
    → a.params.nodes ≡ b.params.nodes
    → flat_map (node_lines a s) (range_with_len 0 a.params.nodes) ≡ flat_map (node_lines b t) (range_with_len 0 b.params.nodes)
    → HaveSameLogLines a s b t
log_lines_same a s b t short brief nodes e =
    let same : groups a s ≡ groups b t =
    groups_same (groups a s) (groups b t) (are_groups a s) (are_groups b t) (sym (site_grouped a s) ∙ e ∙ site_grouped b t) in
    let count : (i : ℕ) → i < a.params.nodes → (node_at s.nodes i).present.number ≡ (node_at t.nodes i).present.number =
    λ i below. omega (
      arith,
      present_below a s b t short brief same i below,
      present_below b t a s brief short (sym same) i
          (omega (arith, below, nodes)),
    ) in
    record {
      incarnations = count;
      logs = λ i inc below within. log_text_same a s b t short brief same i inc below (omega (arith, below, nodes)) within
          (omega (arith, within, count i below));
    }
