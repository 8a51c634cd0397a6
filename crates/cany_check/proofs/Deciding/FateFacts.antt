-- When a message and a failure sign of an account are apart or open, and what the sets of those
-- that have it and lack it say.
use Rattle.std.proofs.Common.{◌≡◌, ℕ, ◌<◌, ◌&&◌, ◌||◌, Bool, true, false, not, List, [], ◌∷◌, refl, ap, sym, ◌∙◌, ◌⊎◌, inl, inr}
use Rattle.std.specs.Prelude.{filter, if◌then◌else◌}
use Rattle.std.specs.List.{AllByRecursion}
use Rattle.std.proofs.lemmas.Bool.{cases_Bool, false≢true}
use Rattle.cany_base.specs.Limits.{most_nodes}
use Rattle.cany_base.specs.Scenario.{ScenarioParts}
use Rattle.cany_base.specs.Nodes.{is_nobody}
use Rattle.cany_model.specs.Bus.State.{RunState}
use Rattle.cany_model.proofs.Among.{Among, Each-of}
use Rattle.cany_check.specs.declared.deciders.findings.Fate.{Fate}
use Rattle.cany_check.specs.declared.deciders.findings.Fate.TheVariants.{All, Nobody, Apart, Open}
use Rattle.cany_check.specs.Accounts.Account.{LogParts}
use Rattle.cany_check.specs.Deciding.Verdict.{is_apart, is_open}
use Rattle.cany_check.specs.Accounts.Words.{nodes_of}
use Rattle.cany_check.proofs.Deciding.CorrectLogs.{among_filter, each_filter, log_at}
use Rattle.cany_check.proofs.Deciding.Decided.{some_log, somebody}

-- ---- the fate of a message, by whether it is settled, nobody has it, nobody lacks it, and its origin counts

abbrev pub fate_of : (settled none_has none_lacks origin : Bool) → Fate
fate_of settled none_has none_lacks origin =
    if not settled then Open
    else if not none_lacks && (not none_has || origin) then Apart
    else if none_lacks && not none_has then All
    else Nobody

pub record IsApartBy (settled none_has none_lacks origin : Bool) : Type 0 where
  pub settled_is : settled ≡ true
  pub lacking : none_lacks ≡ false
  pub having : (none_has ≡ false) ⊎ (origin ≡ true)

not_apart : (f : Fate) → is_apart f ≡ false → f ≡ Apart → ⊥
not_apart f h e = absurd (false≢true (sym h ∙ ap is_apart e))

pub apart_by : (f : Fate) → is_apart f ≡ true → f ≡ Apart
apart_by All h = absurd (false≢true h)
apart_by Nobody h = absurd (false≢true h)
apart_by Apart h = refl
apart_by Open h = absurd (false≢true h)

pub apart_only : (settled none_has none_lacks origin : Bool) → fate_of settled none_has none_lacks origin ≡ Apart → IsApartBy settled none_has none_lacks origin
apart_only false h l o e = absurd (not_apart Open refl e)
apart_only true true true o e = absurd (not_apart Nobody refl e)
apart_only true false true o e = absurd (not_apart All refl e)
apart_only true false false o e = record { settled_is = refl; lacking = refl; having = inl refl }
apart_only true true false true e = record { settled_is = refl; lacking = refl; having = inr refl }
apart_only true true false false e = absurd (not_apart Nobody refl e)

pub apart_if : (settled none_has none_lacks origin : Bool) → IsApartBy settled none_has none_lacks origin → fate_of settled none_has none_lacks origin ≡ Apart
apart_if false h l o is = absurd (false≢true is.settled_is)
apart_if true h true o is = absurd (false≢true (sym is.lacking))
apart_if true false false o is = refl
apart_if true true false true is = refl
apart_if true true false false is = elim is.having [ inl some ↦ absurd (false≢true (sym some)) | inr counts ↦ absurd (false≢true counts) ]

pub not_open : (f : Fate) → is_open f ≡ false → f ≡ Open → ⊥
not_open f h e = absurd (false≢true (sym h ∙ ap is_open e))

pub open_only : (settled none_has none_lacks origin : Bool) → fate_of settled none_has none_lacks origin ≡ Open → settled ≡ false
open_only false h l o e = refl
open_only true true true o e = absurd (not_open Nobody refl e)
open_only true false true o e = absurd (not_open All refl e)
open_only true false false o e = absurd (not_open Apart refl e)
open_only true true false true e = absurd (not_open Apart refl e)
open_only true true false false e = absurd (not_open Nobody refl e)

pub open_if : (settled none_has none_lacks origin : Bool) → settled ≡ false → fate_of settled none_has none_lacks origin ≡ Open
open_if false h l o e = refl
open_if true h l o e = absurd (false≢true (sym e))

-- ---- the fate of a sign, by whether somebody waits with its frame, it was carried, nobody knows it, and nobody lacks it

abbrev pub sign_fate_of : (waited carried none_knows none_lacks : Bool) → Fate
sign_fate_of waited carried none_knows none_lacks =
    if waited then Open
    else if not none_knows && (not none_lacks || not carried) then Apart
    else if carried && not none_knows && none_lacks then All
    else Nobody

pub record IsSignApartBy (waited carried none_knows none_lacks : Bool) : Type 0 where
  pub nobody_waits : waited ≡ false
  pub known : none_knows ≡ false
  pub lacking : (none_lacks ≡ false) ⊎ (carried ≡ false)

pub sign_apart_only : (waited carried none_knows none_lacks : Bool) → sign_fate_of waited carried none_knows none_lacks ≡ Apart → IsSignApartBy waited carried none_knows none_lacks
sign_apart_only true c k l e = absurd (not_apart Open refl e)
sign_apart_only false true true l e = absurd (not_apart Nobody refl e)
sign_apart_only false false true l e = absurd (not_apart Nobody refl e)
sign_apart_only false c false false e = record { nobody_waits = refl; known = refl; lacking = inl refl }
sign_apart_only false false false true e = record { nobody_waits = refl; known = refl; lacking = inr refl }
sign_apart_only false true false true e = absurd (not_apart All refl e)

pub sign_apart_if : (waited carried none_knows none_lacks : Bool) → IsSignApartBy waited carried none_knows none_lacks → sign_fate_of waited carried none_knows none_lacks ≡ Apart
sign_apart_if true c k l is = absurd (false≢true (sym is.nobody_waits))
sign_apart_if false c true l is = absurd (false≢true (sym is.known))
sign_apart_if false c false false is = refl
sign_apart_if false false false true is = refl
sign_apart_if false true false true is = elim is.lacking [ inl some ↦ absurd (false≢true (sym some)) | inr never ↦ absurd (false≢true (sym never)) ]

-- ---- those that count: who has it, and who lacks it

-- these logs are those of the nodes that count
pub record AreLogsOf (scenario : ScenarioParts) (s : RunState) (Counts : ℕ → Type 0) (logs : List LogParts) : Type 0 where
  pub each : AllByRecursion (λ x. (i : ℕ) × Counts i × (x ≡ log_at scenario s i)) logs
  pub there : (i : ℕ) → Counts i → Among (λ x. x ≡ log_at scenario s i) logs

module _ (scenario : ScenarioParts) (s : RunState) (Counts : ℕ → Type 0) (logs : List LogParts) (are : AreLogsOf scenario s Counts logs)
    (small : (i : ℕ) → Counts i → i < most_nodes) (p : LogParts → Bool) where
  abbrev pub having : List LogParts
  having = filter p logs

  abbrev pub lacking : List LogParts
  lacking = filter (λ x. not (p x)) logs

  -- one of a part of them, by the test of that part
  one_of : (q : LogParts → Bool) → is_nobody (nodes_of (filter q logs)) ≡ false → (i : ℕ) × Counts i × (q (log_at scenario s i) ≡ true)
  one_of q h =
      let some = some_log (filter q logs) h in
      let each = each_filter (λ x. (i : ℕ) × Counts i × (q (log_at scenario s i) ≡ true)) q logs (passing logs are.each) in
      Each-of (λ x. (i : ℕ) × Counts i × (q (log_at scenario s i) ≡ true)) some.0 (filter q logs) each some.1
    where
      passing : (xs : List LogParts) → AllByRecursion (λ x. (i : ℕ) × Counts i × (x ≡ log_at scenario s i)) xs
          → AllByRecursion (λ x. q x ≡ true → (i : ℕ) × Counts i × (q (log_at scenario s i) ≡ true)) xs
      passing [] all = tt
      passing (x ∷ xs) all = (λ passes. (all.0.0, all.0.1, ap q (sym all.0.2) ∙ passes), passing xs all.1)

  -- a node that counts is in the part whose test it passes
  in_part : (q : LogParts → Bool) (i : ℕ) → Counts i → q (log_at scenario s i) ≡ true → is_nobody (nodes_of (filter q logs)) ≡ false
  in_part q i c passes =
      somebody (filter q logs) (log_at scenario s i) (small i c)
      (among_filter (λ x. x ≡ log_at scenario s i) q logs (λ x e. ap q e ∙ passes) (are.there i c))

  pub one_has : is_nobody (nodes_of having) ≡ false → (i : ℕ) × Counts i × (p (log_at scenario s i) ≡ true)
  one_has h = one_of p h

  pub one_lacks : is_nobody (nodes_of lacking) ≡ false → (i : ℕ) × Counts i × (p (log_at scenario s i) ≡ false)
  one_lacks h = let one = one_of (λ x. not (p x)) h in (one.0, one.1, flipped (p (log_at scenario s one.0)) one.2)
    where
      flipped : (b : Bool) → not b ≡ true → b ≡ false
      flipped true e = sym e
      flipped false e = refl

  pub has_it : (i : ℕ) → Counts i → p (log_at scenario s i) ≡ true → is_nobody (nodes_of having) ≡ false
  has_it i c passes = in_part p i c passes

  -- where nobody lacks it, all have it
  pub all_have : is_nobody (nodes_of lacking) ≡ true → (i : ℕ) → Counts i → p (log_at scenario s i) ≡ true
  all_have none i c = elim (cases_Bool (p (log_at scenario s i))) [
    | inl passes ↦ passes
    | inr fails ↦ absurd (false≢true (sym (in_part (λ x. not (p x)) i c (ap not fails)) ∙ none))
  ]
