-- Folds of messages one after another.
use Rattle.std.proofs.Common.{◌≡◌, ℕ, ◌+◌, ◌<◌, List, [], ◌∷◌, ◌++◌, length, take, get_or, refl, ap, sym, ◌∙◌}
use Rattle.cany_base.specs.declared.log_entry.LogEntry.{LogEntry}
use Rattle.cany_model.specs.Promises.Order.{Content, tot_content, tot_deliveries}
use Rattle.cany_log.proofs.WrittenFacts.{next_item}
use Rattle.cany_replica.specs.Fold.{replies_after, table_after}
use Rattle.cany_replica.specs.Table.{TableParts, apply}

pub table-append : (table : TableParts) (xs ys : List Content) → table_after table (xs ++ ys) ≡ table_after (table_after table xs) ys
unfolding table_after
table-append table [] ys = refl
table-append table (x ∷ xs) ys = table-append (apply table x.payload).0 xs ys

pub answers-append : (table : TableParts) (xs ys : List Content)
    → replies_after table (xs ++ ys) ≡ replies_after table xs ++ replies_after (table_after table xs) ys
unfolding table_after replies_after
answers-append table [] ys = refl
answers-append table (x ∷ xs) ys =
    ap (λ later. record { msg = x.msg; reply = (apply table x.payload).1 } ∷ later) (answers-append (apply table x.payload).0 xs ys)

pub next_table : (table : TableParts) (entries : List LogEntry) (i : ℕ) (entry : LogEntry) → i < length entries → entry ≡ get_or entries i entry
    → table_after (table_after table (tot_deliveries (take i entries))) (tot_content entry) ≡ table_after table (tot_deliveries (take (i + 1) entries))
next_table table entries i entry inside is =
    sym (ap (table_after table) (next_item tot_content entries i entry inside is)
    ∙ table-append table (tot_deliveries (take i entries)) (tot_content entry))
