-- The accusations of an account, one log after another.
use Rattle.std.proofs.Common.{◌≡◌, ℕ, ◌<◌, ◌&&◌, Bool, true, false, List, [], ◌∷◌, ◌++◌, refl, ap, sym, ◌∙◌, inl, inr}
use Rattle.std.specs.Prelude.{filter, filter_map, if◌then◌else◌, slice_index_or, Option, Some, None, option_map}
use Rattle.std.specs.List.{cons_option}
use Rattle.std.proofs.lemmas.Bool.{cases_Bool}
use Rattle.std.proofs.lemmas.List.Elements.{filter-append}
use Rattle.std.proofs.lemmas.Option.{get_or_from_slice_get}
use Rattle.cany_base.specs.Limits.{most_nodes}
use Rattle.cany_base.specs.Nodes.{Nodes}
use Rattle.cany_check.specs.declared.deciders.findings.Accusation.{Accusation}
use Rattle.cany_check.specs.declared.deciders.holders.Holders.{Holders}
use Rattle.cany_check.specs.declared.account.record.FirstAndLast.{FirstAndLast}
use Rattle.cany_check.specs.Accounts.Account.{AccountParts, LogParts, running}
use Rattle.cany_check.specs.Deciding.Accuracy.{accusation_of, accuses, is_failure_of}
use Rattle.cany_check.specs.Deciding.Fates.{slots_where}
use Rattle.cany_check.specs.Deciding.Holders.{AreHolders, counts_since, holders_in, since_ever}
use Rattle.cany_check.specs.Accounts.Words.{nodes_of, takes_part}

map_append : {X Y : Type 0} (f : X → Option Y) (xs ys : List X) → filter_map f (xs ++ ys) ≡ filter_map f xs ++ filter_map f ys
map_append f [] ys = refl
map_append {X = X} {Y = Y} f (x ∷ xs) ys = ap (cons_option (f x)) (map_append f xs ys) ∙ by_first (f x) (filter_map f xs) (filter_map f ys)
  where
    by_first : (o : Option Y) (ps qs : List Y) → cons_option o (ps ++ qs) ≡ cons_option o ps ++ qs
    by_first None ps qs = refl
    by_first (Some y) ps qs = refl

module _ (a : AccountParts) where
  one_log : (x : LogParts) → filter_map (accusation_of a) (filter (takes_part 0) (running (x ∷ []))) ≡ cons_option (if x.runs && takes_part 0 x then accusation_of a x else None) []
  one_log x = elim (cases_Bool x.runs) [
    | inl runs ↦ elim (cases_Bool (takes_part 0 x)) [
      | inl all_time ↦ rw (runs, all_time) refl
      | inr late ↦ rw (runs, late) refl
    ]
    | inr stopped ↦ rw stopped refl
  ]

  pub found_more : (logs : List LogParts) (x : LogParts) (found found' : List Accusation) (o : Option Accusation)
      → found ≡ filter_map (accusation_of a) (filter (takes_part 0) (running logs)) → o ≡ (if x.runs && takes_part 0 x then accusation_of a x else None)
      → found' ≡ found ++ cons_option o [] → found' ≡ filter_map (accusation_of a) (filter (takes_part 0) (running (logs ++ x ∷ [])))
  found_more logs x found found' o so is more =
      more ∙ ap (λ l. l ++ cons_option o []) so
      ∙ ap (λ p. filter_map (accusation_of a) (filter (takes_part 0) (running logs)) ++ cons_option p []) is
      ∙ ap (λ l. filter_map (accusation_of a) (filter (takes_part 0) (running logs)) ++ l) (sym (one_log x))
      ∙ sym (map_append (accusation_of a) (filter (takes_part 0) (running logs)) (filter (takes_part 0) (running (x ∷ []))))
      ∙ ap (filter_map (accusation_of a)) (sym (filter-append (takes_part 0) (running logs) (running (x ∷ []))))
      ∙ ap (λ l. filter_map (accusation_of a) (filter (takes_part 0) l)) (sym (filter-append (λ (y : LogParts). y.runs) logs (x ∷ [])))

-- ---- the accusation of one node

all_that_run : (logs : List LogParts) → filter (counts_since None) logs ≡ running logs
all_that_run [] = refl
all_that_run (x ∷ logs) = by_test x.runs (filter (counts_since None) logs) (running logs) (all_that_run logs)
  where
    by_test : (runs : Bool) (ps qs : List LogParts) → ps ≡ qs → (if runs && true then x ∷ ps else ps) ≡ (if runs then x ∷ qs else qs)
    by_test true ps qs same = ap (λ l. x ∷ l) same
    by_test false ps qs same = same

abbrev accusation_by : (node : ℕ) → Nodes → Option FirstAndLast → Option Accusation
accusation_by node by slots = option_map (λ (s : FirstAndLast). record { node = node; by = by; first = s.first }) slots

-- it is read off those that accuse the node, if they did so in some slots
pub accused_by : (a : AccountParts) (log : LogParts) (accusers : List Holders) (i : ℕ) (h : Holders) (slots : Option FirstAndLast)
    → AreHolders most_nodes is_failure_of since_ever a.logs accusers
    → i ≡ log.node → log.node < most_nodes → h ≡ slice_index_or accusers i h → h.slots ≡ slots → accusation_by log.node h.has slots ≡ accusation_of a log
unfolding holders_in
accused_by a log accusers i h slots are here below is told =
    let of_all = holders_in (is_failure_of log.node) None a.logs in
    let same : h ≡ of_all = is ∙ ap (λ k. slice_index_or accusers k h) here ∙ get_or_from_slice_get accusers log.node of_all h (are.each log.node below) in
    ap (accusation_by log.node h.has) (sym told)
    ∙ ap (λ (x : Holders). accusation_by log.node x.has x.slots) same
    ∙ ap (λ logs. option_map (λ (slots : FirstAndLast). record { node = log.node; by = nodes_of (filter (accuses log.node) logs); first = slots.first }) (slots_where (is_failure_of log.node) (filter (accuses log.node) logs)))
    (all_that_run a.logs)
