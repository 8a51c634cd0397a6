-- The text, part by part.
use Rattle.std.proofs.Common.{◌≡◌, ℕ, ◌+◌, ◌<◌, Bool, true, false, List, [], ◌∷◌, ◌++◌, length, map, take, drop, get_or, count_by, Option, Ok, Err, refl, sym, ◌∙◌, ap, subst, append-nil, arith}
use Rattle.std.specs.Prelude.{if◌then◌else◌}
use Rattle.std.specs.List.{concat, flat_map, range_with_len}
use Rattle.std.proofs.lemmas.List.{map-append, take-append-drop}
use Rattle.std.proofs.lemmas.List.Folds.{concat-append}
use Rattle.std.proofs.lemmas.Grind.{flat_map-append}
use Rattle.cany_base.specs.declared.log_entry.LogEntry.{LogEntry}
use Rattle.cany_base.specs.declared.log_entry.LogEntry.TheVariants.{Deliver, Failed as AsFailed, View}
use Rattle.cany_base.specs.declared.message.MsgKey.{MsgKey}
use Rattle.cany_base.specs.declared.message.Service.{Service}
use Rattle.cany_base.specs.declared.message.Service.TheVariants.{Tot}
use Rattle.cany_base.specs.declared.step.Step.{Step}
use Rattle.cany_base.specs.Scenario.{ScenarioParts}
use Rattle.cany_io.specs.declared.failed.Failed.{Failed}
-- no contract speaks of two writes, one after another
use Rattle.cany_log.proofs.ReportFacts.{concat-flat_map}
use Rattle.cany_log.proofs.WrittenFacts.{next_item, IsWritten-nothing, IsWritten-short, IsWritten-then}
use Rattle.cany_log.specs.Written.{IsWritten}
use Rattle.cany_model.proofs.Among.{count-no, count-yes}
use Rattle.cany_model.specs.Bus.State.{node_at}
use Rattle.cany_model.specs.declared.breaks.Break.{Break}
use Rattle.cany_model.specs.Promises.Hypothesis.{first_break}
use Rattle.cany_model.specs.Promises.Order.{Content, tot_content, tot_deliveries}
use Rattle.cany_model.specs.Rules.Log.{log}
use Rattle.cany_model.specs.Rules.Messages.{is_service}
use Rattle.cany_model.specs.Runs.Run.{run}
use Rattle.cany_text.specs.ReportLines.{hypothesis_line}
use Rattle.cany_replica.specs.declared.answer.Answer.{Answer}
use Rattle.cany_replica.specs.Fold.{replies_after, replies_of, is_applied, table_after, table_of}
use Rattle.cany_replica.specs.ReplicaText.{first_line, key_lines, last_line, node_line, node_lines, replica_lines, replica_text, reply_line, value_lines}
use Rattle.cany_replica.specs.Table.{TableParts, empty_table, value_at}
use Rattle.cany_replica.proofs.FoldFacts.{answers-append}

-- ---- how many messages a log applies

count-one : (b : Bool) (m : Content) (ms : List Content) (n k : ℕ) → n ≡ length ms → k ≡ (if b then 1 else 0) + n → k ≡ length ((if b then m ∷ [] else []) ++ ms)
count-one true m ms n k same more = omega (arith, same, more)
count-one false m ms n k same more = omega (arith, same, more)

count-tot : (slot : ℕ) (service : Service) (msg : MsgKey) (payload : List ℕ) (entries : List LogEntry) (b : Bool) → is_service service Tot ≡ b
    → count_by is_applied (Deliver slot service msg payload ∷ entries) ≡ (if b then 1 else 0) + count_by is_applied entries
count-tot slot service msg payload entries true is = omega (arith, count-yes is_applied (Deliver slot service msg payload) entries is)
count-tot slot service msg payload entries false is = omega (arith, count-no is_applied (Deliver slot service msg payload) entries is)

pub count_applied : (entries : List LogEntry) → count_by is_applied entries ≡ length (tot_deliveries entries)
count_applied [] = refl
count_applied (Deliver slot service msg payload ∷ entries) =
    count-one (is_service service Tot) (record { msg = msg; payload = payload }) (tot_deliveries entries) (count_by is_applied entries)
    (count_by is_applied (Deliver slot service msg payload ∷ entries)) (count_applied entries)
    (count-tot slot service msg payload entries (is_service service Tot) refl)
count_applied (AsFailed slot node cycle ∷ entries) = count-no is_applied (AsFailed slot node cycle) entries refl ∙ count_applied entries
count_applied (View slot number members ∷ entries) = count-no is_applied (View slot number members) entries refl ∙ count_applied entries

-- ---- replies

-- the lines of the replies to messages
abbrev pub replies : TableParts → List Content → List ℕ
replies table ms = concat (map reply_line (replies_after table ms))

replies-append : (table : TableParts) (xs ys : List Content) → replies table (xs ++ ys) ≡ replies table xs ++ replies (table_after table xs) ys
replies-append table xs ys =
    ap (λ (l : List Answer). concat (map reply_line l)) (answers-append table xs ys)
    ∙ ap concat (map-append reply_line (replies_after table xs) (replies_after (table_after table xs) ys))
    ∙ concat-append (map reply_line (replies_after table xs)) (map reply_line (replies_after (table_after table xs) ys))

-- the first entries of a log
abbrev pub first_replies : TableParts → List LogEntry → ℕ → List ℕ
first_replies table entries i = replies table (tot_deliveries (take i entries))

pub replies-nothing : (table : TableParts) (entries : List LogEntry) (old : Option (List ℕ)) (n : ℕ) → IsWritten (first_replies table entries 0) (Ok tt) old old n n
unfolding replies_after
replies-nothing table entries old n = IsWritten-nothing old n

next_replies : (table : TableParts) (entries : List LogEntry) (i : ℕ) (entry : LogEntry) → i < length entries → entry ≡ get_or entries i entry
    → first_replies table entries (i + 1) ≡ first_replies table entries i ++ replies (table_after table (tot_deliveries (take i entries))) (tot_content entry)
next_replies table entries i entry inside is =
    ap (replies table) (next_item tot_content entries i entry inside is) ∙ replies-append table (tot_deliveries (take i entries)) (tot_content entry)

-- the table is the one after the entries before
pub replies-next : (table now : TableParts) (entries : List LogEntry) (i : ℕ) (entry : LogEntry) (s0 s1 s2 : Option (List ℕ)) (n0 n1 n2 : ℕ)
    → i < length entries → entry ≡ get_or entries i entry → now ≡ table_after table (tot_deliveries (take i entries))
    → IsWritten (first_replies table entries i) (Ok tt) s0 s1 n0 n1 → IsWritten (replies now (tot_content entry)) (Ok tt) s1 s2 n1 n2
    → IsWritten (first_replies table entries (i + 1)) (Ok tt) s0 s2 n0 n2
replies-next table now entries i entry s0 s1 s2 n0 n1 n2 inside is table_is before this =
    let here = subst (λ (t : TableParts). IsWritten (replies t (tot_content entry)) (Ok tt) s1 s2 n1 n2) table_is this in
    subst (λ (t : List ℕ). IsWritten t (Ok tt) s0 s2 n0 n2) (sym (next_replies table entries i entry inside is))
    (IsWritten-then (first_replies table entries i) (replies (table_after table (tot_deliveries (take i entries))) (tot_content entry)) (Ok tt) s0 s1 s2 n0 n1 n2 before here)

all_replies : (table : TableParts) (entries : List LogEntry) (i : ℕ)
    → replies table (tot_deliveries entries) ≡ first_replies table entries i ++ replies (table_after table (tot_deliveries (take i entries))) (tot_deliveries (drop i entries))
all_replies table entries i =
    ap (λ (es : List LogEntry). replies table (tot_deliveries es)) (sym (take-append-drop i entries))
    ∙ ap (replies table) (flat_map-append tot_content (take i entries) (drop i entries))
    ∙ replies-append table (tot_deliveries (take i entries)) (tot_deliveries (drop i entries))

pub replies-cut : (table now : TableParts) (entries : List LogEntry) (i : ℕ) (entry : LogEntry) (e : Failed) (s0 s1 s2 : Option (List ℕ)) (n0 n1 n2 : ℕ)
    → i < length entries → entry ≡ get_or entries i entry → now ≡ table_after table (tot_deliveries (take i entries))
    → IsWritten (first_replies table entries i) (Ok tt) s0 s1 n0 n1 → IsWritten (replies now (tot_content entry)) (Err e) s1 s2 n1 n2
    → IsWritten (replies table (tot_deliveries entries)) (Err e) s0 s2 n0 n2
replies-cut table now entries i entry e s0 s1 s2 n0 n1 n2 inside is table_is before this =
    let here = subst (λ (t : TableParts). IsWritten (replies t (tot_content entry)) (Err e) s1 s2 n1 n2) table_is this in
    let more = IsWritten-then (first_replies table entries i) (replies (table_after table (tot_deliveries (take i entries))) (tot_content entry)) (Err e) s0 s1 s2 n0 n1 n2 before here in
    let rest = replies (table_after table (tot_deliveries (take (i + 1) entries))) (tot_deliveries (drop (i + 1) entries)) in
    subst (λ (t : List ℕ). IsWritten t (Err e) s0 s2 n0 n2) (sym (all_replies table entries (i + 1)))
    (IsWritten-short (first_replies table entries (i + 1)) rest e s0 s2 n0 n2
    (subst (λ (t : List ℕ). IsWritten t (Err e) s0 s2 n0 n2) (sym (next_replies table entries i entry inside is)) more))

-- ---- keys

-- what is written of a key
abbrev pub key_part : TableParts → ℕ → List ℕ
key_part table key = concat (value_lines key (value_at table key))

pub key_lines_text : (table : TableParts) → concat (key_lines table) ≡ flat_map (key_part table) (range_with_len 0 256)
unfolding key_lines
key_lines_text table = concat-flat_map (λ key. value_lines key (value_at table key)) (range_with_len 0 256)

-- ---- a node

-- what is written of a node, by what the world says of it
pub node_text_is : (scenario : ScenarioParts) (journal : List Step) (i inc count : ℕ) (stopped : Option ℕ) (entries : List LogEntry)
    → entries ≡ log scenario (run scenario journal) i → inc ≡ (node_at (run scenario journal).nodes i).present.number
    → stopped ≡ (node_at (run scenario journal).nodes i).stopped → count ≡ count_by is_applied entries
    → concat (node_lines scenario (run scenario journal) i)
    ≡ node_line i inc stopped count ++ (replies empty_table (tot_deliveries entries) ++ concat (key_lines (table_of (tot_deliveries entries))))
unfolding node_lines
node_text_is scenario journal i inc count stopped entries log_is inc_is stopped_is count_is =
    let ms = tot_deliveries entries in
    rw (← log_is, ← inc_is, ← stopped_is, count_is ∙ count_applied entries)
    (ap (λ r. node_line i inc stopped (length ms) ++ r) (concat-append (map reply_line (replies_of ms)) (key_lines (table_of ms))))

-- what is written of each
abbrev pub node_part : ScenarioParts → List Step → ℕ → List ℕ
node_part scenario journal i = concat (node_lines scenario (run scenario journal) i)

-- ---- the whole

pub replica_is : (scenario : ScenarioParts) (journal : List Step) (found : Option Break) → found ≡ first_break scenario.params (run scenario journal).trace
    → replica_text scenario journal
    ≡ first_line ++ (hypothesis_line found ++ (concat (flat_map (node_lines scenario (run scenario journal)) (range_with_len 0 scenario.params.nodes)) ++ last_line))
unfolding replica_text replica_lines
replica_is scenario journal found is =
    let nodes = flat_map (node_lines scenario (run scenario journal)) (range_with_len 0 scenario.params.nodes) in
    rw is
    (ap (λ r. first_line ++ (hypothesis_line (first_break scenario.params (run scenario journal).trace) ++ r))
    (concat-append nodes (last_line ∷ []) ∙ ap (λ r. concat nodes ++ r) (append-nil last_line)))
