-- The records of logs, one more and those of one more node.
use Rattle.std.proofs.Common.{◌≡◌, ℕ, ◌+◌, List, [], ◌∷◌, ◌++◌, map, ap, sym, ◌∙◌, arith}
use Rattle.std.specs.List.{flat_map, range_with_len}
use Rattle.std.proofs.lemmas.List.{flat_map_more, map-append, map-id}
use Rattle.std.proofs.lemmas.List.FromFn.{map-range_with_len_more}
use Rattle.cany_check.specs.declared.account.record.LogRecord.{LogRecord}
use Rattle.cany_check.specs.Accounts.Account.{LogParts}
use Rattle.cany_check.specs.Accounts.AccountFields.{log_parts}

range_more : (n : ℕ) → range_with_len 0 (n + 1) ≡ range_with_len 0 n ++ n ∷ []
range_more n =
    sym (map-id (range_with_len 0 (n + 1))) ∙ map-range_with_len_more (λ x. x) 0 n n (omega arith) ∙ ap (λ xs. xs ++ n ∷ []) (map-id (range_with_len 0 n))

pub one_more : (f : ℕ → LogParts) (n : ℕ) (logs : List LogRecord) (x : LogRecord) → map log_parts logs ≡ map f (range_with_len 0 n) → log_parts x ≡ f n
    → map log_parts (logs ++ x ∷ []) ≡ map f (range_with_len 0 (n + 1))
one_more f n logs x so is =
    map-append log_parts logs (x ∷ []) ∙ ap (λ l. l ++ log_parts x ∷ []) so ∙ ap (λ y. map f (range_with_len 0 n) ++ y ∷ []) is
    ∙ sym (map-range_with_len_more f 0 n n (omega arith))

pub one_node_more : (f : ℕ → List LogParts) (n i : ℕ) (logs own : List LogRecord) → map log_parts logs ≡ flat_map f (range_with_len 0 n) → map log_parts own ≡ f i
    → i ≡ n → map log_parts (logs ++ own) ≡ flat_map f (range_with_len 0 (n + 1))
one_node_more f n i logs own so is same =
    map-append log_parts logs own ∙ ap (λ l. l ++ map log_parts own) so ∙ ap (λ l. flat_map f (range_with_len 0 n) ++ l) (is ∙ ap f same)
    ∙ flat_map_more f [] (range_with_len 0 n) n ∙ ap (flat_map f) (sym (range_more n))
