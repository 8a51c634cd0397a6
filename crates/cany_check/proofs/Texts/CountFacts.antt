-- What the head of a verdict counts.
use Rattle.std.proofs.Common.{◌≡◌, ℕ, ◌+◌, ◌<◌, ◌≤◌, min, max, Bool, true, false, cond, ◌&&◌, List, [], ◌∷◌, ◌++◌, length, map, take, get_or, Option, Some, None, refl, sym, ◌∙◌, ap, append-nil, arith, inl, inr}
use Rattle.std.specs.Prelude.{count_by, filter}
use Rattle.std.specs.List.{flat_map}
use Rattle.std.proofs.lemmas.Bool.{cases_Bool}
use Rattle.std.proofs.lemmas.List.{get_or-map, map-append, take_all, take_more}
use Rattle.std.proofs.lemmas.List.Elements.{filter-append}
use Rattle.cany_base.specs.declared.log_entry.LogEntry.{LogEntry}
use Rattle.cany_base.specs.declared.log_entry.LogEntry.TheVariants.{Deliver, Failed, View}
use Rattle.cany_base.specs.declared.message.Service.{Service}
use Rattle.cany_base.specs.declared.message.Service.TheVariants.{Tot}
use Rattle.cany_model.specs.Rules.Messages.{is_service}
use Rattle.cany_model.proofs.Among.{count-cons, count-no}
use Rattle.cany_check.specs.declared.text.counts.Lengths.{Lengths}
use Rattle.cany_check.specs.declared.deciders.findings.Fate.{Fate}
use Rattle.cany_check.specs.declared.account.record.LogRecord.{LogRecord}
use Rattle.cany_check.specs.declared.account.record.MessageRecord.{MessageRecord}
use Rattle.cany_check.specs.Accounts.Account.{AccountParts, LogParts}
use Rattle.cany_check.specs.Accounts.AccountFields.{log_parts}
use Rattle.cany_check.specs.Texts.CheckHead.{greatest, least}
use Rattle.cany_check.specs.Texts.Counts.{fate_count, is_fate, is_tot_delivery, lengths_of, running_counts, with_length, with_log}
use Rattle.cany_check.specs.Deciding.Fates.{message_fate}
use Rattle.cany_check.specs.Deciding.OneOrder.{deliveries, delivery_in}
use Rattle.cany_check.specs.Deciding.Verdict.{fates_of_service}

-- what stands in a mapped list, by what stands in the list
pub mapped_at : {X Y : Type 0} (f : X → Y) (xs : List X) (ys : List Y) (i : ℕ) (x : X) (y : Y) → ys ≡ map f xs → i < length xs
    → x ≡ get_or xs i x → y ≡ get_or ys i y → y ≡ f x
mapped_at f xs ys i x y are inside x_is y_is =
    y_is ∙ ap (λ l. get_or l i y) are ∙ get_or-map f xs i x y inside ∙ ap f (sym x_is)

-- ---- counting

-- the test on the messages of which the head counts how many there are
abbrev pub is_counted : AccountParts → Service → Fate → MessageRecord → Bool
is_counted a by wanted m = is_service m.service by && is_fate wanted (message_fate a m)

count_filtered : {X Y : Type 0} (f : X → Y) (keeps : X → Bool) (test : Y → Bool) (xs : List X) → count_by test (map f (filter keeps xs)) ≡ count_by (λ x. keeps x && test (f x)) xs
count_filtered f keeps test [] = refl
count_filtered f keeps test (x ∷ xs) = elim (cases_Bool (keeps x)) [
  | inl kept ↦
      ap (λ b. count_by test (map f (cond b (x ∷ filter keeps xs) (filter keeps xs)))) kept
      ∙ count-cons test (f x) (map f (filter keeps xs))
      ∙ ap (λ n. cond (test (f x)) 1 0 + n) (count_filtered f keeps test xs)
      ∙ sym (count-cons (λ x. keeps x && test (f x)) x xs ∙ ap (λ b. cond (b && test (f x)) 1 0 + count_by (λ x. keeps x && test (f x)) xs) kept)
  | inr dropped ↦
      ap (λ b. count_by test (map f (cond b (x ∷ filter keeps xs) (filter keeps xs)))) dropped
      ∙ count_filtered f keeps test xs
      ∙ sym (count-no (λ x. keeps x && test (f x)) x xs (ap (λ b. b && test (f x)) dropped))
]

pub messages_counted : (a : AccountParts) (by : Service) (wanted : Fate) (i count : ℕ) → length a.messages ≤ i → count ≡ count_by (is_counted a by wanted) (take i a.messages)
    → count ≡ fate_count wanted (fates_of_service a by)
messages_counted a by wanted i count past is =
    is ∙ ap (count_by (is_counted a by wanted)) (take_all i a.messages past) ∙ sym (count_filtered (message_fate a) (λ m. is_service m.service by) (is_fate wanted) a.messages)

-- ---- how many messages logs deliver by TOTCAN

pub deliveries_counted : (entries : List LogEntry) → count_by is_tot_delivery entries ≡ length (flat_map delivery_in entries)
deliveries_counted [] = refl
deliveries_counted (Deliver slot service msg payload ∷ entries) =
    count-cons is_tot_delivery (Deliver slot service msg payload) entries ∙ by_service (deliveries_counted entries) (is_service service Tot)
  where
    by_service : count_by is_tot_delivery entries ≡ length (flat_map delivery_in entries) → (b : Bool)
        → cond b 1 0 + count_by is_tot_delivery entries ≡ length (cond b (record { msg = msg; slot = slot } ∷ []) [] ++ flat_map delivery_in entries)
    by_service later true = omega (arith, later)
    by_service later false = omega (arith, later)
deliveries_counted (Failed slot node cycle ∷ entries) = omega (arith, deliveries_counted entries)
deliveries_counted (View slot number members ∷ entries) = omega (arith, deliveries_counted entries)

abbrev pub lengths_so_far : List ℕ → Option Lengths
lengths_so_far [] = None
lengths_so_far (n ∷ ns) = Some (lengths_of (n ∷ ns))

least-more : (n k : ℕ) (ns : List ℕ) → least (n ∷ (ns ++ k ∷ [])) ≡ min k (least (n ∷ ns))
unfolding least
least-more n k [] = omega arith
least-more n k (m ∷ ns) = omega (arith, least-more m k ns)

greatest-more : (k : ℕ) (ns : List ℕ) → greatest (ns ++ k ∷ []) ≡ max k (greatest ns)
unfolding greatest
greatest-more k [] = refl
greatest-more k (n ∷ ns) = omega (arith, greatest-more k ns)

one_length : (k : ℕ) → with_length None k ≡ lengths_so_far (k ∷ [])
unfolding least greatest
one_length k = let same : k ≡ max k 0 = omega arith in ap (λ n. Some (record { shortest = k; longest = n })) same

lengths-more : (counts : List ℕ) (k : ℕ) → with_length (lengths_so_far counts) k ≡ lengths_so_far (counts ++ k ∷ [])
lengths-more [] k = one_length k
lengths-more (n ∷ ns) k =
    ap (λ low. Some (record { shortest = low; longest = max k (greatest (n ∷ ns)) })) (sym (least-more n k ns))
    ∙ ap (λ high. Some (record { shortest = least (n ∷ (ns ++ k ∷ [])); longest = high })) (sym (greatest-more k (n ∷ ns)))

running-more : (logs : List LogParts) (log : LogParts) → with_log (lengths_so_far (running_counts logs)) log ≡ lengths_so_far (running_counts (logs ++ log ∷ []))
running-more logs log =
    by_log log.runs
    ∙ ap lengths_so_far (sym (map-append (λ log. length (deliveries log)) (filter (λ log. log.runs) logs) (filter (λ log. log.runs) (log ∷ [])))
    ∙ ap (map (λ log. length (deliveries log))) (sym (filter-append (λ log. log.runs) logs (log ∷ []))))
  where
    by_log : (b : Bool) → cond b (with_length (lengths_so_far (running_counts logs)) (length (deliveries log))) (lengths_so_far (running_counts logs))
        ≡ lengths_so_far (running_counts logs ++ map (λ log. length (deliveries log)) (cond b (log ∷ []) []))
    by_log true = lengths-more (running_counts logs) (length (deliveries log))
    by_log false = ap lengths_so_far (sym (append-nil (running_counts logs)))

pub lengths-next : (logs : List LogRecord) (i : ℕ) (log : LogRecord) (before after : Option Lengths) → before ≡ lengths_so_far (running_counts (map log_parts (take i logs)))
    → i < length logs → log ≡ get_or logs i log → after ≡ with_log before (log_parts log) → after ≡ lengths_so_far (running_counts (map log_parts (take (i + 1) logs)))
lengths-next logs i log before after so_far inside is put =
    put ∙ ap (λ lengths. with_log lengths (log_parts log)) so_far ∙ running-more (map log_parts (take i logs)) (log_parts log)
    ∙ ap (λ logs. lengths_so_far (running_counts logs))
    (sym (map-append log_parts (take i logs) (log ∷ [])) ∙ ap (map log_parts) (sym (take_more logs i log inside ∙ ap (λ x. take i logs ++ x ∷ []) (sym is))))

no_length : record { shortest = 0; longest = 0 } ≡ lengths_of []
unfolding least greatest
no_length = refl

-- all logs were looked at
pub lengths-none : (logs : List LogRecord) (i : ℕ) → length logs ≤ i → None ≡ lengths_so_far (running_counts (map log_parts (take i logs)))
    → record { shortest = 0; longest = 0 } ≡ lengths_of (running_counts (map log_parts logs))
lengths-none logs i past is = of_counts (running_counts (map log_parts logs)) (is ∙ ap (λ logs. lengths_so_far (running_counts (map log_parts logs))) (take_all i logs past))
  where
    of_counts : (counts : List ℕ) → None ≡ lengths_so_far counts → record { shortest = 0; longest = 0 } ≡ lengths_of counts
    of_counts [] h = no_length
    of_counts (n ∷ ns) h = absurd (cc)

pub lengths-some : (logs : List LogRecord) (i : ℕ) (lengths : Lengths) → length logs ≤ i → Some lengths ≡ lengths_so_far (running_counts (map log_parts (take i logs)))
    → lengths ≡ lengths_of (running_counts (map log_parts logs))
lengths-some logs i lengths past is = of_counts (running_counts (map log_parts logs)) (is ∙ ap (λ logs. lengths_so_far (running_counts (map log_parts logs))) (take_all i logs past))
  where
    of_counts : (counts : List ℕ) → Some lengths ≡ lengths_so_far counts → lengths ≡ lengths_of counts
    of_counts [] h = absurd (cc)
    of_counts (n ∷ ns) h = cc
