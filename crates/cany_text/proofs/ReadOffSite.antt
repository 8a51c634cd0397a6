-- A report is cut into its lines, and the lines of the nodes into those of their incarnations.
use Rattle.std.proofs.Common.{◌≡◌, ℕ, suc, ◌+◌, ◌*◌, ◌/◌, Bool, true, false, List, [], ◌∷◌, ◌++◌, map, take, drop, length, Option, Some, None, ap, sym, ◌∙◌, append_assoc}
use Rattle.std.specs.Prelude.{filter, reverse, codes}
use Rattle.std.specs.List.{AllByRecursion, concat, flat_map, range_with_len}
use Rattle.std.specs.Option.{option_map_or}
use Rattle.cany_base.specs.declared.log_entry.LogEntry.{LogEntry}
use Rattle.cany_base.specs.declared.slot_note.SlotNote.{SlotNote}
use Rattle.cany_base.specs.declared.step.Step.{Step}
use Rattle.cany_base.specs.Nodes.{Nodes}
use Rattle.cany_base.specs.Scenario.{ScenarioParts}
use Rattle.cany_model.specs.declared.span.Span.{Span}
use Rattle.cany_model.specs.Runs.Incarnations.{log_of, span_of}
use Rattle.cany_model.specs.Bus.Restart.{restarted_in}
use Rattle.cany_model.specs.Runs.Run.{run}
use Rattle.cany_model.specs.Bus.State.{RunState, node_at}
use Rattle.cany_model.specs.Promises.Hypothesis.{first_break}
use Rattle.cany_model.specs.Promises.Settled.{is_settled}
use Rattle.cany_model.specs.Rules.Messages.{Message, messages_of}
use Rattle.cany_text.specs.Report.{bus_lines, incarnation_lines, node_lines, message_lines, report_lines, report}
use Rattle.cany_text.specs.ReportLines.{line_of, first_line, params_line, journal_line, journal_lines, bus_line, is_shown, hypothesis_line, node_line, entry_line, message_line}
use Rattle.cany_model.proofs.Among.{Each-append, Each-flat_map, Each-map}
use Rattle.cany_text.proofs.ReadOffLines.{bus_begins, bus_line_is, end_begins, end_line_is, entry_begins, entry_line_is, first_line_is, hypothesis_begins, hypothesis_line_is, is_bus, is_journal, is_of_node, journal_begins, journal_line_is, message_begins, message_line_is, node_begins, node_line_is, params_line_is}
use Rattle.cany_text.proofs.ReadOffLists.{StopsAt, always, cons_same, fronts_same, stops-append}
use Rattle.cany_text.proofs.ReadOffText.{IsLine, lines_same}

-- ---- the parts of a report

abbrev site_lines : ScenarioParts → RunState → List (List ℕ)
site_lines scenario s = flat_map (node_lines scenario s) (range_with_len 0 scenario.params.nodes)

-- the lines of the messages and the last one
abbrev closing : ScenarioParts → RunState → List (List ℕ)
closing scenario s = message_lines scenario s ++ line_of (codes "end" ∷ []) ∷ []

abbrev after_bus : ScenarioParts → RunState → List (List ℕ)
after_bus scenario s = hypothesis_line (first_break scenario.params s.trace) ∷ (site_lines scenario s ++ closing scenario s)

abbrev after_journal : ScenarioParts → RunState → List (List ℕ)
after_journal scenario s = bus_lines s ++ after_bus scenario s

abbrev all_lines : ScenarioParts → List Step → RunState → List (List ℕ)
all_lines scenario journal s = first_line scenario.params.format ∷
    (params_line scenario.params ∷ (journal_lines journal ++ after_journal scenario s))

report_parts : (scenario : ScenarioParts) (journal : List Step) (s : RunState)
    → report_lines scenario journal s ≡ all_lines scenario journal s
unfolding report_lines
report_parts scenario journal s =
    ap (λ lines. first_line scenario.params.format ∷ (params_line scenario.params ∷ lines))
    (regrouped (journal_lines journal) (bus_lines s) (hypothesis_line (first_break scenario.params s.trace)) (site_lines scenario s)
    (message_lines scenario s) (line_of (codes "end" ∷ []) ∷ []))
  where
    regrouped : (p q : List (List ℕ)) (line : List ℕ) (r m l : List (List ℕ))
        → p ++ q ++ line ∷ [] ++ r ++ m ++ l ≡ p ++ (q ++ (line ∷ (r ++ (m ++ l))))
    regrouped p q line r m l =
        append_assoc (p ++ q ++ line ∷ [] ++ r) m l ∙ append_assoc (p ++ q ++ line ∷ []) r (m ++ l)
        ∙ append_assoc (p ++ q) (line ∷ []) (r ++ (m ++ l)) ∙ append_assoc p q (line ∷ (r ++ (m ++ l)))

-- of each line of the journal
each_journal : (P : List ℕ → Type 0) → ((steps : List Step) → P (journal_line steps)) → (journal : List Step)
    → AllByRecursion P (journal_lines journal)
unfolding journal_lines
each_journal P h journal =
    Each-map (λ k. journal_line (take 64 (drop (64 * k) journal))) P (range_with_len 0 ((length journal + 63) / 64))
    (always (λ k. P (journal_line (take 64 (drop (64 * k) journal)))) (λ k. h (take 64 (drop (64 * k) journal)))
    (range_with_len 0 ((length journal + 63) / 64)))

each_bus : (P : List ℕ → Type 0) → ((note : SlotNote) (again : Nodes) → P (bus_line note again)) → (s : RunState)
    → AllByRecursion P (bus_lines s)
unfolding bus_lines
each_bus P h s =
    Each-map (λ note. bus_line note (restarted_in s note.slot)) P
    (filter (λ note. is_shown note (restarted_in s note.slot)) (reverse s.trace))
    (always (λ note. P (bus_line note (restarted_in s note.slot))) (λ note. h note (restarted_in s note.slot))
    (filter (λ note. is_shown note (restarted_in s note.slot)) (reverse s.trace)))

each_message : (P : List ℕ → Type 0) → ((m : Message) (settled : Bool) → P (message_line m settled))
    → (scenario : ScenarioParts) (s : RunState)
    → AllByRecursion P (message_lines scenario s)
unfolding message_lines
each_message P h scenario s =
    Each-map (λ m. message_line m (is_settled scenario s m)) P (messages_of scenario.sends)
    (always (λ m. P (message_line m (is_settled scenario s m))) (λ m. h m (is_settled scenario s m)) (messages_of scenario.sends))

head_each : (P : List ℕ → Type 0) → ((i inc : ℕ) (span : Span) → P (node_line i inc span)) → (i inc : ℕ) (o : Option Span)
    → AllByRecursion P (option_map_or (λ span. node_line i inc span ∷ []) o [])
head_each P head i inc None = tt
head_each P head i inc (Some span) = (head i inc span, tt)

incarnation_each : (P : List ℕ → Type 0) → ((i inc : ℕ) (span : Span) → P (node_line i inc span))
    → ((entry : LogEntry) → P (entry_line entry))
    → (scenario : ScenarioParts) (s : RunState) (i inc : ℕ) → AllByRecursion P (incarnation_lines scenario s i inc)
unfolding incarnation_lines
incarnation_each P head entry scenario s i inc =
    Each-append P (option_map_or (λ span. node_line i inc span ∷ []) (span_of s i inc) []) (map entry_line (log_of scenario s i inc))
    (head_each P head i inc (span_of s i inc))
    (Each-map entry_line P (log_of scenario s i inc) (always (λ e. P (entry_line e)) entry (log_of scenario s i inc)))

node_each : (P : List ℕ → Type 0) → ((i inc : ℕ) (span : Span) → P (node_line i inc span)) → ((entry : LogEntry) → P (entry_line entry))
    → (scenario : ScenarioParts) (s : RunState) (i : ℕ) → AllByRecursion P (node_lines scenario s i)
unfolding node_lines
node_each P head entry scenario s i =
    Each-flat_map (incarnation_lines scenario s i) P (range_with_len 0 (suc (node_at s.nodes i).present.number))
    (always (λ inc. AllByRecursion P (incarnation_lines scenario s i inc)) (λ inc. incarnation_each P head entry scenario s i inc)
    (range_with_len 0 (suc (node_at s.nodes i).present.number)))

site_each : (P : List ℕ → Type 0) → ((i inc : ℕ) (span : Span) → P (node_line i inc span)) → ((entry : LogEntry) → P (entry_line entry))
    → (scenario : ScenarioParts) (s : RunState) → AllByRecursion P (site_lines scenario s)
site_each P head entry scenario s =
    Each-flat_map (node_lines scenario s) P (range_with_len 0 scenario.params.nodes)
    (always (λ i. AllByRecursion P (node_lines scenario s i)) (λ i. node_each P head entry scenario s i)
    (range_with_len 0 scenario.params.nodes))

all_are_lines : (scenario : ScenarioParts) (journal : List Step) (s : RunState) → AllByRecursion IsLine (all_lines scenario journal s)
all_are_lines scenario journal s = (
  first_line_is scenario.params.format,
  (
    params_line_is scenario.params,
    Each-append IsLine (journal_lines journal) (after_journal scenario s) (each_journal IsLine journal_line_is journal)
        (Each-append IsLine (bus_lines s) (after_bus scenario s) (each_bus IsLine bus_line_is s) (
          hypothesis_line_is (first_break scenario.params s.trace),
          Each-append IsLine (site_lines scenario s) (closing scenario s) (site_each IsLine node_line_is entry_line_is scenario s)
              (Each-append IsLine (message_lines scenario s) (line_of (codes "end" ∷ []) ∷ [])
              (each_message IsLine message_line_is scenario s) (end_line_is, tt)),
        )),
  ),
)

-- ---- where each part ends

closing_stops : (scenario : ScenarioParts) (s : RunState) → StopsAt is_of_node (closing scenario s)
closing_stops scenario s =
    stops-append is_of_node (message_lines scenario s) (line_of (codes "end" ∷ []) ∷ [])
    (each_message (λ line. is_of_node line ≡ false) message_begins scenario s) end_begins

bus_stops : (scenario : ScenarioParts) (s : RunState) → StopsAt is_journal (after_journal scenario s)
bus_stops scenario s =
    stops-append is_journal (bus_lines s) (after_bus scenario s)
    (each_bus (λ line. is_journal line ≡ false) (λ note again. (bus_begins note again).1) s)
    (hypothesis_begins (first_break scenario.params s.trace)).1

-- equal reports have equal parts
pub record HaveSameLines (a : ScenarioParts) (j : List Step) (b : ScenarioParts) (k : List Step) : Type 0 where
  pub format : first_line a.params.format ≡ first_line b.params.format
  pub params : params_line a.params ≡ params_line b.params
  pub journal : journal_lines j ≡ journal_lines k
  pub bus : bus_lines (run a j) ≡ bus_lines (run b k)
  pub hypothesis : hypothesis_line (first_break a.params (run a j).trace) ≡ hypothesis_line (first_break b.params (run b k).trace)
  pub site : flat_map (node_lines a (run a j)) (range_with_len 0 a.params.nodes) ≡ flat_map (node_lines b (run b k))
      (range_with_len 0 b.params.nodes)

lines_parted : (a : ScenarioParts) (j : List Step) (b : ScenarioParts) (k : List Step) → all_lines a j (run a j) ≡ all_lines b k (run b k)
    → HaveSameLines a j b k
lines_parted a j b k e =
    let s = run a j in
    let t = run b k in
    let first = cons_same (first_line a.params.format) (first_line b.params.format)
    (params_line a.params ∷ (journal_lines j ++ after_journal a s)) (params_line b.params ∷ (journal_lines k ++ after_journal b t)) e in
    let second = cons_same (params_line a.params) (params_line b.params) (journal_lines j ++ after_journal a s)
    (journal_lines k ++ after_journal b t) first.1 in
    let third = fronts_same is_journal (journal_lines j) (journal_lines k) (after_journal a s) (after_journal b t)
    (each_journal (λ line. is_journal line ≡ true) journal_begins j) (each_journal (λ line. is_journal line ≡ true) journal_begins k)
    (bus_stops a s) (bus_stops b t) second.1 in
    let fourth = fronts_same is_bus (bus_lines s) (bus_lines t) (after_bus a s) (after_bus b t)
    (each_bus (λ line. is_bus line ≡ true) (λ note again. (bus_begins note again).0) s)
    (each_bus (λ line. is_bus line ≡ true) (λ note again. (bus_begins note again).0) t)
    (hypothesis_begins (first_break a.params s.trace)).0 (hypothesis_begins (first_break b.params t.trace)).0 third.1 in
    let fifth = cons_same (hypothesis_line (first_break a.params s.trace)) (hypothesis_line (first_break b.params t.trace))
    (site_lines a s ++ closing a s) (site_lines b t ++ closing b t) fourth.1 in
    let sixth = fronts_same is_of_node (site_lines a s) (site_lines b t) (closing a s) (closing b t)
    (site_each (λ line. is_of_node line ≡ true) (λ i inc span. (node_begins i inc span).0) (λ entry. (entry_begins entry).0) a s)
    (site_each (λ line. is_of_node line ≡ true) (λ i inc span. (node_begins i inc span).0) (λ entry. (entry_begins entry).0) b t)
    (closing_stops a s) (closing_stops b t) fifth.1 in
    record { format = first.0; params = second.0; journal = third.0; bus = fourth.0; hypothesis = fifth.0; site = sixth.0 }

pub same_lines : (a : ScenarioParts) (j : List Step) (b : ScenarioParts) (k : List Step) → report a j ≡ report b k → HaveSameLines a j b k
unfolding report
same_lines a j b k e =
    lines_parted a j b k (lines_same (all_lines a j (run a j)) (all_lines b k (run b k)) (all_are_lines a j (run a j))
    (all_are_lines b k (run b k))
    (sym (ap concat (report_parts a j (run a j))) ∙ e ∙ ap concat (report_parts b k (run b k))))
