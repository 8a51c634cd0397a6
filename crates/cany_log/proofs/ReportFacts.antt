-- The parts of the report, item by item.
use Rattle.std.proofs.Common.{◌≡◌, ℕ, suc, Option, Some, slice_get, ◌+◌, ◌*◌, ◌-◌, ◌<◌, ◌≤◌, min, inl, inr, Bool, true, false, cond, List, [], ◌∷◌, ◌++◌, map, take, drop, reverse, get_or, length, refl, sym, ◌∙◌, ap, append_assoc, append-nil, length-drop, arith}
use Rattle.std.specs.Prelude.{filter, if◌then◌else◌, codes, IsSomeAnd}
use Rattle.std.specs.List.{concat, flat_map, range_with_len}
use Rattle.std.specs.Option.{option_map_or}
use Rattle.std.proofs.lemmas.Option.{get_or_from_slice_get, slice_get_read}
use Rattle.std.proofs.lemmas.Bool.{cases_lt}
use Rattle.std.proofs.lemmas.List.{take_all}
use Rattle.std.proofs.lemmas.List.Folds.{concat-append}
use Rattle.std.proofs.lemmas.List.FromFn.{length-range_with_len, get_or-range_with_len, take-map-range_with_len}
use Rattle.cany_base.specs.declared.log_entry.LogEntry.{LogEntry}
use Rattle.cany_base.specs.declared.message.MsgKey.{MsgKey}
use Rattle.cany_base.specs.declared.message.SendAsk.{SendAsk}
use Rattle.cany_base.specs.declared.slot_note.SlotNote.{SlotNote}
use Rattle.cany_base.specs.declared.step.Step.{Step}
use Rattle.cany_base.specs.Nodes.{Nodes}
use Rattle.cany_base.specs.Params.{Parameters}
use Rattle.cany_base.specs.Scenario.{ScenarioParts}
use Rattle.cany_model.specs.declared.breaks.Break.{Break}
use Rattle.cany_model.specs.declared.span.Span.{Span}
use Rattle.cany_model.specs.Runs.Incarnations.{log_of, span_of}
use Rattle.cany_model.specs.Bus.Restart.{restarted_in}
use Rattle.cany_model.specs.Runs.Run.{run}
use Rattle.cany_model.specs.Bus.State.{RunState, node_at}
use Rattle.cany_model.specs.Promises.Hypothesis.{first_break}
use Rattle.cany_model.specs.Promises.Settled.{is_settled}
use Rattle.cany_model.specs.Rules.Messages.{Message, message_key, message_of, messages_of}
use Rattle.cany_text.specs.Report.{bus_lines, incarnation_lines, node_lines, message_lines, report_lines, report}
use Rattle.cany_text.specs.ReportLines.{line_of, first_line, params_line, hypothesis_line, bus_line, is_shown, journal_line, journal_lines, node_line, entry_line, message_line}
-- a send has one message: of the model's own words
use Rattle.cany_model.proofs.Rules.Services.MessageKeys.{message_at}
use Rattle.cany_log.specs.ReportItems.{journal_text, line_count, message_text, shown_line}
use Rattle.cany_log.specs.ReportParts.{heading_text, bus_text, nodes_and_messages_text}
use Rattle.cany_log.proofs.PageFacts.{next_items}
use Rattle.cany_log.proofs.WrittenFacts.{concat-map}

-- items of which some are written: the lines of those are what is written of each
shown_first : {X : Type 0} (b : Bool) (f : X → List ℕ) (x : X) (xs : List X) (r : List ℕ) → concat (map f xs) ≡ r
    → concat (map f (cond b (x ∷ xs) xs)) ≡ (if b then f x else []) ++ r
shown_first true f x xs r same = ap (λ r. f x ++ r) same
shown_first false f x xs r same = same

shown_text : {X : Type 0} (shown : X → Bool) (f : X → List ℕ) (xs : List X) → concat (map f (filter shown xs)) ≡ flat_map (λ x. if shown x then f x else []) xs
shown_text shown f [] = refl
shown_text shown f (x ∷ xs) =
    shown_first (shown x) f x (filter shown xs) (flat_map (λ x. if shown x then f x else []) xs) (shown_text shown f xs)

pub bus_lines_text : (s : RunState) (trace : List SlotNote) → trace ≡ reverse s.trace → concat (bus_lines s) ≡ flat_map (shown_line s) trace
unfolding bus_lines
bus_lines_text s trace is =
    shown_text (λ note. is_shown note (restarted_in s note.slot)) (λ note. bus_line note (restarted_in s note.slot)) (reverse s.trace)
    ∙ ap (flat_map (shown_line s)) (sym is)

pub shown_line-shown : (s : RunState) (note : SlotNote) (again : Nodes) (b : Bool) → again ≡ restarted_in s note.slot → b ≡ is_shown note again → b ≡ true
    → shown_line s note ≡ bus_line note again
shown_line-shown s note again b are test shown =
    ap (λ (nodes : Nodes). if is_shown note nodes then bus_line note nodes else []) (sym are)
    ∙ ap (λ b. if b then bus_line note again else []) (sym test ∙ shown)

pub shown_line-hidden : (s : RunState) (note : SlotNote) (again : Nodes) (b : Bool) → again ≡ restarted_in s note.slot → b ≡ is_shown note again → b ≡ false
    → shown_line s note ≡ []
shown_line-hidden s note again b are test hidden =
    ap (λ (nodes : Nodes). if is_shown note nodes then bus_line note nodes else []) (sym are)
    ∙ ap (λ b. if b then bus_line note again else []) (sym test ∙ hidden)

-- the first of the numbers below n
take-range_with_len : (j n : ℕ) → j ≤ n → take j (range_with_len 0 n) ≡ range_with_len 0 j
take-range_with_len j n within = ap (take j) (sym (map_same (range_with_len 0 n))) ∙ take-map-range_with_len (λ k. k) 0 n j within ∙ map_same (range_with_len 0 j)
  where
    map_same : (xs : List ℕ) → map (λ k. k) xs ≡ xs
    map_same [] = refl
    map_same (x ∷ xs) = ap (λ r. x ∷ r) (map_same xs)

-- the numbers below n, as a loop meets them
pub at_number : (n i : ℕ) → i < n → i ≡ get_or (range_with_len 0 n) i i
at_number n i inside = sym (get_or-range_with_len 0 n i i inside ∙ omega arith)

pub below_length : (n i : ℕ) → i < n → i < length (range_with_len 0 n)
below_length n i inside = omega (arith, length-range_with_len 0 n)

pub past_length : (n i : ℕ) → n ≤ i → length (range_with_len 0 n) ≤ i
past_length n i past = omega (arith, length-range_with_len 0 n)

pub journal_lines_text : (journal : List Step) → concat (journal_lines journal) ≡ flat_map (journal_text journal) (range_with_len 0 (line_count journal))
unfolding journal_lines
journal_lines_text journal = concat-map (journal_text journal) (range_with_len 0 (line_count journal))

-- the steps of a line, cut out of the journal
pub steps_of_line : (journal : List Step) (k start end : ℕ) → start ≡ k * 64 → start ≤ length journal → end ≡ min (start + 64) (length journal)
    → journal_line (take (end - start) (drop start journal)) ≡ journal_text journal k
steps_of_line journal k start end start_is inside end_is =
    let at : start ≡ 64 * k = omega (arith, start_is) in
    let left : length (drop start journal) ≡ length journal - start = length-drop start journal in
    let same : take (end - start) (drop start journal) ≡ take 64 (drop start journal) = elim (cases_lt (length journal) (start + 64)) [
      | inl last ↦
          take_all (end - start) (drop start journal) (omega (arith, left, end_is, last))
          ∙ sym (take_all 64 (drop start journal) (omega (arith, left, last)))
      | inr more ↦
          let full : end - start ≡ 64 = omega (arith, end_is, more) in
          ap (λ n. take n (drop start journal)) full
    ] in
    ap journal_line same ∙ ap (λ n. journal_line (take 64 (drop n journal))) at

-- the lines from one number on to before another, and then those after them
pub next_lines : (f : ℕ → List ℕ) (i j n : ℕ) → i ≤ j → j ≤ n
    → flat_map f (drop i (range_with_len 0 n)) ≡ flat_map f (drop i (range_with_len 0 j)) ++ flat_map f (drop j (range_with_len 0 n))
next_lines f i j n order within =
    next_items f (range_with_len 0 n) i j order (omega (arith, within, length-range_with_len 0 n))
    ∙ ap (λ r. flat_map f (drop i r) ++ flat_map f (drop j (range_with_len 0 n))) (take-range_with_len j n within)

-- lines of lists of lines
pub concat-flat_map : {X : Type 0} (f : X → List (List ℕ)) (xs : List X) → concat (flat_map f xs) ≡ flat_map (λ x. concat (f x)) xs
concat-flat_map f [] = refl
concat-flat_map f (x ∷ xs) = concat-append (f x) (flat_map f xs) ∙ ap (λ r. concat (f x) ++ r) (concat-flat_map f xs)

-- an incarnation of a node: its own line, and then the lines of its log
pub incarnation_text : (scenario : ScenarioParts) (s : RunState) (i inc : ℕ) (span : Span) (entries : List LogEntry)
    → Some span ≡ span_of s i inc → entries ≡ log_of scenario s i inc
    → concat (incarnation_lines scenario s i inc) ≡ node_line i inc span ++ flat_map entry_line entries
unfolding incarnation_lines
incarnation_text scenario s i inc span entries span_is entries_are =
    ap (λ (o : Option Span). concat (option_map_or (λ span. node_line i inc span ∷ []) o [] ++ map entry_line (log_of scenario s i inc))) (sym span_is)
    ∙ ap (λ r. node_line i inc span ++ r) (concat-map entry_line (log_of scenario s i inc))
    ∙ ap (λ es. node_line i inc span ++ flat_map entry_line es) (sym entries_are)

-- what is written of an incarnation
abbrev pub incarnation_part : ScenarioParts → List Step → ℕ → ℕ → List ℕ
incarnation_part scenario journal i inc = concat (incarnation_lines scenario (run scenario journal) i inc)

pub node_lines_text : (scenario : ScenarioParts) (journal : List Step) (i count : ℕ) → count ≡ suc (node_at (run scenario journal).nodes i).present.number
    → concat (node_lines scenario (run scenario journal) i) ≡ flat_map (incarnation_part scenario journal i) (range_with_len 0 count)
unfolding node_lines
node_lines_text scenario journal i count is =
    concat-flat_map (incarnation_lines scenario (run scenario journal) i) (range_with_len 0 (suc (node_at (run scenario journal).nodes i).present.number))
    ∙ ap (λ n. flat_map (incarnation_part scenario journal i) (range_with_len 0 n)) (sym is)

pub message_lines_text : (scenario : ScenarioParts) (s : RunState) → concat (message_lines scenario s) ≡ flat_map (message_text scenario s) (messages_of scenario.sends)
unfolding message_lines
message_lines_text scenario s = concat-map (message_text scenario s) (messages_of scenario.sends)

-- the message of a send, and what is written of it
pub record IsMessageOf (scenario : ScenarioParts) (s : RunState) (i : ℕ) (send : SendAsk) (key : MsgKey) (settled : Bool) : Type 0 where
  pub message : Message
  pub at : message ≡ get_or (messages_of scenario.sends) i message
  pub text : message_text scenario s message
      ≡ message_line (record { slot = send.slot; origin = send.node; seq = key.seq; service = send.service; payload = send.payload }) settled

pub message_is : (scenario : ScenarioParts) (s : RunState) (i : ℕ) (send : SendAsk) (key : MsgKey) (settled : Bool) → i < length scenario.sends → send ≡ get_or scenario.sends i send
    → IsSomeAnd (slice_get (messages_of scenario.sends) i) (λ m. key ≡ message_key m) → IsSomeAnd (slice_get (messages_of scenario.sends) i) (λ m. settled ≡ is_settled scenario s m)
    → IsMessageOf scenario s i send key settled
message_is scenario s i send key settled inside is key_is settled_is =
    let found : (before : List SendAsk) × (slice_get (messages_of scenario.sends) i ≡ Some (message_of before send)) =
    message_at [] scenario.sends i send (slice_get_read scenario.sends (length scenario.sends) i send refl inside is) in
    let m : Message = message_of found.0 send in
    let named : key ≡ message_key m = rw found.1 at key_is in
    let settles : settled ≡ is_settled scenario s m = rw found.1 at settled_is in
    record { message = m; at = sym (get_or_from_slice_get (messages_of scenario.sends) i m m found.1); text = rw (named, settles) refl }

-- what is written of a node
abbrev pub node_part : ScenarioParts → List Step → ℕ → List ℕ
node_part scenario journal i = concat (node_lines scenario (run scenario journal) i)

-- the parts of the report
pub heading-is : (scenario : ScenarioParts) (params : Parameters) (journal steps : List Step) → params ≡ scenario.params → steps ≡ journal
    → heading_text scenario journal ≡ first_line params.format ++ (params_line params ++ concat (journal_lines steps))
unfolding heading_text
heading-is scenario params journal steps params_are steps_are = rw (params_are, steps_are) refl

pub bus-is : (scenario : ScenarioParts) (s : RunState) (found : Option Break) → found ≡ first_break scenario.params s.trace
    → bus_text scenario s ≡ concat (bus_lines s) ++ hypothesis_line found
unfolding bus_text
bus-is scenario s found found_is = rw found_is refl

pub nodes_and_messages-is : (scenario : ScenarioParts) (s : RunState)
    → nodes_and_messages_text scenario s ≡ concat (flat_map (node_lines scenario s) (range_with_len 0 scenario.params.nodes)) ++ (concat (message_lines scenario s) ++ line_of (codes "end" ∷ []))
unfolding nodes_and_messages_text
nodes_and_messages-is scenario s = refl

pub report-is : (scenario : ScenarioParts) (journal : List Step)
    → report scenario journal ≡ heading_text scenario journal ++ (bus_text scenario (run scenario journal) ++ nodes_and_messages_text scenario (run scenario journal))
unfolding report report_lines heading_text bus_text nodes_and_messages_text
report-is scenario journal = simp (concat-append, append_assoc, append-nil)
