-- The messages of an account: of which one an entry tells, and what is told of each.
use Rattle.std.proofs.Common.{◌≡◌, ℕ, ◌<◌, ◌==◌, ◌&&◌, Bool, true, false, not, List, length, filter, refl, ap, sym, subst, ◌∙◌, inl, inr}
use Rattle.std.specs.Prelude.{option_map, slice_get, slice_index_or, Option, None, Some, IfSome}
use Rattle.std.specs.List.{list_any}
use Rattle.std.specs.Option.{option_map_or}
use Rattle.std.specs.Str.{bytes_eq}
use Rattle.std.proofs.lemmas.Bool.{and_parts, cases_Bool, cases_eq, eq-eqb, false≢true, ne_eqb}
use Rattle.std.proofs.lemmas.Option.{none-some, slice_get_read, slice_get_within}
use Rattle.cany_base.specs.declared.log_entry.LogEntry.{LogEntry}
use Rattle.cany_base.specs.declared.log_entry.LogEntry.TheVariants.{Deliver, Failed, View}
use Rattle.cany_base.specs.Nodes.{Nodes, has, minus}
use Rattle.cany_model.specs.Rules.Messages.{is_service}
use Rattle.cany_check.specs.declared.deciders.holders.Holders.{Holders}
use Rattle.cany_check.specs.declared.account.record.MessageRecord.{MessageRecord}
use Rattle.cany_check.specs.Accounts.Account.{AccountParts, LogParts}
use Rattle.cany_check.specs.Deciding.Fates.{fate_by, message_fate, message_has, message_lacks, message_told, origin_counts, slots_where}
use Rattle.cany_check.specs.Deciding.Holders.{AreHolders, IsOnly, counts_since, holders_in}
use Rattle.cany_check.specs.Deciding.MessageSubjects.{delivers_at, place_named, since_at}
use Rattle.cany_check.specs.Accounts.Orderly.{IsOrderly}
use Rattle.cany_check.specs.Accounts.Places.{AreNumbered}
use Rattle.cany_check.specs.Accounts.Words.{counting, delivers, is_delivery, is_settled, nodes_of, same_key, since, takes_part}
use Rattle.cany_check.proofs.Deciding.HolderFacts.{both_tests, has_node, held_at, lacking_nodes, one_runs_of}
use Rattle.cany_check.proofs.Accounts.PlacesFacts.{place_is, place_within}

-- ---- of which message an entry tells

named_within : (ms : List MessageRecord) (e : LogEntry) (place : ℕ) → place_named ms e ≡ Some place → place < length ms
named_within ms (Deliver slot service msg payload) place named = subst (λ o. IfSome o (λ p. p < length ms)) named (place_within msg ms)
named_within ms (Failed slot node cycle) place named = absurd (none-some place named)
named_within ms (View slot number members) place named = absurd (none-some place named)

-- what stands at the place that an entry names, where it was read from a list that is this one
pub named_at : (ms list : List MessageRecord) (e : LogEntry) (place : ℕ) (m : MessageRecord) → list ≡ ms → place_named ms e ≡ Some place → m ≡ slice_index_or list place m
    → slice_get ms place ≡ Some m
named_at ms list e place m is named read =
    slice_get_read ms (length ms) place m refl (named_within ms e place named) (subst (λ (l : List MessageRecord). m ≡ slice_index_or l place m) is read)

module _ (ms : List MessageRecord) (numbered : AreNumbered ms) where
  delivered_at : (e : LogEntry) (k : ℕ) (m : MessageRecord) → slice_get ms k ≡ Some m → is_delivery m e ≡ true → place_named ms e ≡ Some k
  delivered_at (Deliver slot service msg payload) k m at is =
      place_is ms numbered msg k m at (and_parts (same_key m.key msg) (is_service m.service service) (and_parts (same_key m.key msg && is_service m.service service) (bytes_eq m.payload payload) is).0).0
  delivered_at (Failed slot node cycle) k m at is = absurd (false≢true is)
  delivered_at (View slot number members) k m at is = absurd (false≢true is)

  -- where an entry delivers what stands at a place, it names this place
  named_by : (e : LogEntry) (k : ℕ) (o : Option MessageRecord) → slice_get ms k ≡ o → option_map_or (λ m. is_delivery m e) o false ≡ true → place_named ms e ≡ Some k
  named_by e k None at is = absurd (false≢true is)
  named_by e k (Some m) at is = delivered_at e k m at is

  pub tells_of_message : (e : LogEntry) (place : ℕ) (m : MessageRecord) → place_named ms e ≡ Some place → slice_get ms place ≡ Some m → is_delivery m e ≡ true
      → IsOnly (length ms) (λ k. delivers_at ms k e) (Some place)
  tells_of_message e place m named at is = record { within = slice_get_within ms place m at; only = λ k below. only k }
    where
      only : (k : ℕ) → delivers_at ms k e ≡ (k == place)
      only k = elim (cases_eq k place) [
        | inl same ↦ ap (λ j. delivers_at ms j e) same ∙ ap (λ o. option_map_or (λ x. is_delivery x e) o false) at ∙ is ∙ sym (eq-eqb k place same)
        | inr other ↦ elim (cases_Bool (delivers_at ms k e)) [
          | inl told ↦ absurd (other (cc (named_by e k (slice_get ms k) refl told, named)))
          | inr not_told ↦ not_told ∙ sym (ne_eqb k place other)
        ]
      ]

  pub tells_of_no_message : (e : LogEntry) → ((k : ℕ) (m : MessageRecord) → place_named ms e ≡ Some k → slice_get ms k ≡ Some m → is_delivery m e ≡ false)
      → IsOnly (length ms) (λ k. delivers_at ms k e) None
  tells_of_no_message e not_it = record { within = tt; only = λ k below. only k (slice_get ms k) refl }
    where
      only : (k : ℕ) (o : Option MessageRecord) → slice_get ms k ≡ o → option_map_or (λ x. is_delivery x e) o false ≡ false
      only k None at = refl
      only k (Some m) at = elim (cases_Bool (is_delivery m e)) [
        | inl told ↦ absurd (false≢true (sym (not_it k m (delivered_at e k m at told) at) ∙ told))
        | inr not_told ↦ not_told
      ]

-- ---- what is told of a message

module _ (a : AccountParts) (orderly : IsOrderly a) (m : MessageRecord) (holders : Holders) (are : holders ≡ holders_in (is_delivery m) (Some (since m)) a.logs) where
  counted : filter (counts_since (Some (since m))) a.logs ≡ counting a m
  counted = sym (both_tests (takes_part (since m)) (λ (x : LogParts). x.runs) a.logs)

  pub those_that_count : (nodes : Nodes) → nodes ≡ nodes_of (filter (counts_since (Some (since m))) a.logs) → has nodes m.key.origin ≡ origin_counts a m
  those_that_count nodes is = ap (λ n. has n m.key.origin) is ∙ has_node a orderly (counts_since (Some (since m))) m.key.origin ∙ ap (list_any (λ log. log.node == m.key.origin)) counted

  has_is : holders.has ≡ nodes_of (message_has a m)
  unfolding holders_in
  has_is = ap (λ (h : Holders). h.has) are ∙ ap (λ l. nodes_of (filter (delivers m) l)) counted

  lacks_is : (nodes : Nodes) → nodes ≡ nodes_of (filter (counts_since (Some (since m))) a.logs) → minus nodes holders.has ≡ nodes_of (message_lacks a m)
  unfolding holders_in
  lacks_is nodes is =
      let runs : (x : LogParts) → counts_since (Some (since m)) x ≡ true → x.runs ≡ true = λ x counted. (and_parts x.runs (takes_part (since m) x) counted).0 in
      ap (λ n. minus n holders.has) is ∙ ap (λ (h : Holders). minus (nodes_of (filter (counts_since (Some (since m))) a.logs)) h.has) are
      ∙ lacking_nodes (counts_since (Some (since m))) (delivers m) runs a.logs (one_runs_of a orderly)
      ∙ ap (λ l. nodes_of (filter (λ x. not (delivers m x)) l)) counted

  pub told_is : (counting lacks : Nodes) (origin : Bool) → counting ≡ nodes_of (filter (counts_since (Some (since m))) a.logs) → lacks ≡ minus counting holders.has → origin ≡ has counting m.key.origin
      → record { fate = fate_by (is_settled m) holders.has lacks origin; has = holders.has; lacks = lacks; had = holders.had; slots = holders.slots } ≡ message_told a m
  unfolding holders_in message_fate
  told_is counting lacks origin c l o =
      let lacking = l ∙ lacks_is counting c in
      let by_origin = o ∙ those_that_count counting c in
      let had = ap (λ (h : Holders). h.had) are in
      let slots = ap (λ (h : Holders). h.slots) are ∙ ap (λ logs. slots_where (is_delivery m) (filter (delivers m) logs)) counted in
      λ k. record { fate = fate_by (is_settled m) (has_is k) (lacking k) (by_origin k); has = has_is k; lacks = lacking k; had = had k; slots = slots k }

-- the holders of the message at a place
pub holders_of_one : (a : AccountParts) (ms : List MessageRecord) (holders : List Holders) (i : ℕ) (m : MessageRecord) (h : Holders) → ms ≡ a.messages
    → AreHolders (length a.messages) (delivers_at a.messages) (since_at a.messages) a.logs holders → i < length ms → m ≡ slice_index_or ms i m → h ≡ slice_index_or holders i h
    → h ≡ holders_in (is_delivery m) (Some (since m)) a.logs
holders_of_one a ms holders i m h is are below m_is h_is =
    let own : Option MessageRecord → Holders = λ o. holders_in (λ e. option_map_or (λ x. is_delivery x e) o false) (option_map since o) a.logs in
    let at : slice_get a.messages i ≡ Some m = ap (λ (l : List MessageRecord). slice_get l i) (sym is) ∙ slice_get_read ms (length ms) i m refl below m_is in
    held_at (length a.messages) (delivers_at a.messages) (since_at a.messages) a.logs holders i h are (subst (λ (l : List MessageRecord). i < length l) is below) h_is ∙ ap own at
