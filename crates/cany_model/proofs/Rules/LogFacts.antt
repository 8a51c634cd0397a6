-- What stands in a log: the entries of the protocols, each with its reason, and of one key at most
-- one.
use Rattle.std.proofs.Common.{◌≡◌, ℕ, suc, ◌+◌, ◌<◌, ◌≤◌, inl, inr, Bool, true, false, cond, List, [], ◌∷◌, ◌++◌, length, drop, count_by, refl, ap, ◌∙◌, arith, suc-le-suc}
use Rattle.std.specs.List.{AllByRecursion, flat_map}
use Rattle.std.proofs.lemmas.Bool.{cases_lt, false≢true}
use Rattle.std.proofs.lemmas.List.Sums.{sum_by-append, sum_by-cons}
use Rattle.cany_base.specs.declared.log_entry.LogEntry.{LogEntry}
use Rattle.cany_base.specs.declared.message.MsgKey.{MsgKey}
use Rattle.cany_base.specs.declared.message.Service.{Service}
use Rattle.cany_base.specs.declared.notice.NoticeKind.{NoticeKind}
use Rattle.cany_base.specs.Scenario.{ScenarioParts}
use Rattle.cany_model.specs.Promises.Entries.{delivers_key}
use Rattle.cany_model.specs.Rules.Effect.{Effect, Ask, Withdraw, Enter, entered}
use Rattle.cany_model.specs.Rules.Log.{log_from}
use Rattle.cany_model.specs.Rules.Protocol.{Protocol}
use Rattle.cany_model.specs.Rules.Turn.{protocols, turn_effects}
use Rattle.cany_model.proofs.Among.{Among, Among-append_cases, Among-append_left, Among-append_right, Among-from_flat_map, Among-which, Among-with, Each-weaker, one_if}
use Rattle.cany_model.proofs.Rules.Services.DeliveryFacts.{entered-append}
use Rattle.cany_model.proofs.Rules.ProtocolFacts.{IsFounded, IsFoundedEntry, IsLawful, log_by}
use Rattle.cany_model.proofs.Rules.Protocols.{IsProtocol, are_lawful, one_delivers}
use Rattle.cany_model.proofs.Rules.TurnFacts.{turn_has}

-- ---- what a turn enters

-- the effect makes an entry that has the property
abbrev pub EntersSome : (LogEntry → Type 0) → Effect → Type 0
EntersSome P (Ask f) = ⊥
EntersSome P (Withdraw x) = ⊥
EntersSome P (Enter entry) = P entry

pub entered-from : (P : LogEntry → Type 0) (effects : List Effect) → Among P (entered effects) → Among (EntersSome P) effects
unfolding entered
entered-from P [] h = h
entered-from P (Ask f ∷ effects) h = inr (entered-from P effects h)
entered-from P (Withdraw x ∷ effects) h = inr (entered-from P effects h)
entered-from P (Enter entry ∷ effects) (inl here) = inl here
entered-from P (Enter entry ∷ effects) (inr h) = inr (entered-from P effects h)

pub entered-to : (P : LogEntry → Type 0) (effects : List Effect) → Among (EntersSome P) effects → Among P (entered effects)
unfolding entered
entered-to P [] h = h
entered-to P (Ask f ∷ effects) (inl none) = absurd none
entered-to P (Ask f ∷ effects) (inr h) = entered-to P effects h
entered-to P (Withdraw x ∷ effects) (inl none) = absurd none
entered-to P (Withdraw x ∷ effects) (inr h) = entered-to P effects h
entered-to P (Enter entry ∷ effects) (inl here) = inl here
entered-to P (Enter entry ∷ effects) (inr h) = inr (entered-to P effects h)

-- ---- from the log to what was read

-- an entry that has the property, which the protocol made in the turn of the notice at this place
-- of what was read
pub record IsMade (P : LogEntry → Type 0) (scenario : ScenarioParts) (p : Protocol) (i : ℕ) (past : List NoticeKind) : Type 0 where
  pub entry : LogEntry
  pub is : P entry
  pub place : ℕ
  pub below : place < length past
  pub founded : IsFoundedEntry scenario p i (drop place past) entry

entry_of : (P : LogEntry → Type 0) (scenario : ScenarioParts) (p : Protocol) (i : ℕ) (past : List NoticeKind) (e : Effect) → EntersSome P e
    → IsFounded scenario p i past e → (entry : LogEntry) × P entry × IsFoundedEntry scenario p i past entry
entry_of P scenario p i past (Ask f) h k = absurd h
entry_of P scenario p i past (Withdraw x) h k = absurd h
entry_of P scenario p i past (Enter entry) h k = (entry, h, k)

-- each entry of a protocol has its reason
pub made_by : (P : LogEntry → Type 0) (scenario : ScenarioParts) (p : Protocol) → IsLawful p → (i : ℕ) (past : List NoticeKind)
    → Among P (log_by p scenario i past) → IsMade P scenario p i past
made_by P scenario p lawful i [] h = absurd h
made_by P scenario p lawful i (notice ∷ before) h =
    elim (Among-append_cases P (log_by p scenario i before) (entered (p.effects scenario i (notice ∷ before))) h) [
      | inl earlier ↦
          let w = made_by P scenario p lawful i before earlier in
          record { entry = w.entry; is = w.is; place = suc w.place; below = suc-le-suc w.below; founded = w.founded }
      | inr now ↦
          let effects = p.effects scenario i (notice ∷ before) in
          let w = Among-which (λ e. EntersSome P e × IsFounded scenario p i (notice ∷ before) e) effects
          (Among-with (EntersSome P) (IsFounded scenario p i (notice ∷ before)) effects (lawful.founded scenario i (notice ∷ before))
          (entered-from P effects now)) in
          let made = entry_of P scenario p i (notice ∷ before) w.0 w.2.0 w.2.1 in
          record { entry = made.0; is = made.1; place = 0; below = omega arith; founded = made.2 }
    ]

-- each entry of a log was made by one of the protocols
pub log_split : (P : LogEntry → Type 0) (scenario : ScenarioParts) (i : ℕ) (past : List NoticeKind) → Among P (log_from scenario i past)
    → (p : Protocol) × IsLawful p × Among P (log_by p scenario i past)
unfolding log_from turn_effects
log_split P scenario i [] h = absurd h
log_split P scenario i (notice ∷ before) h =
    elim (Among-append_cases P (log_from scenario i before) (entered (turn_effects scenario i (notice ∷ before))) h) [
      | inl earlier ↦
          let w = log_split P scenario i before earlier in
          (w.0, w.1, Among-append_left P (log_by w.0 scenario i before) (entered (w.0.effects scenario i (notice ∷ before))) w.2)
      | inr now ↦
          let w = Among-which (λ p. Among (EntersSome P) (p.effects scenario i (notice ∷ before)) × IsLawful p) protocols
          (Among-with (λ p. Among (EntersSome P) (p.effects scenario i (notice ∷ before))) IsLawful protocols are_lawful
          (Among-from_flat_map (λ p. p.effects scenario i (notice ∷ before)) (EntersSome P) protocols
          (entered-from P (turn_effects scenario i (notice ∷ before)) now))) in (
            w.0,
            w.2.1,
            Among-append_right P (log_by w.0 scenario i before) (entered (w.0.effects scenario i (notice ∷ before)))
                (entered-to P (w.0.effects scenario i (notice ∷ before)) w.2.0),
          )
    ]

-- ---- from the log of a protocol to the log

pub log_has : (P : LogEntry → Type 0) (scenario : ScenarioParts) (i : ℕ) (p : Protocol) → IsProtocol p → (past : List NoticeKind)
    → Among P (log_by p scenario i past) → Among P (log_from scenario i past)
unfolding log_from
log_has P scenario i p is [] h = h
log_has P scenario i p is (notice ∷ before) h =
    elim (Among-append_cases P (log_by p scenario i before) (entered (p.effects scenario i (notice ∷ before))) h) [
      | inl earlier ↦
          Among-append_left P (log_from scenario i before) (entered (turn_effects scenario i (notice ∷ before))) (log_has P scenario i p is before earlier)
      | inr now ↦
          Among-append_right P (log_from scenario i before) (entered (turn_effects scenario i (notice ∷ before)))
          (entered-to P (turn_effects scenario i (notice ∷ before))
          (turn_has (EntersSome P) scenario i (notice ∷ before) p is (entered-from P (p.effects scenario i (notice ∷ before)) now)))
    ]

-- ---- at most one of a key

abbrev count : MsgKey → List LogEntry → ℕ
count key entries = count_by (delivers_key key) entries

count-append : (key : MsgKey) (first rest : List LogEntry) → count key (first ++ rest) ≡ count key first + count key rest
count-append key first rest = sum_by-append (λ entry. cond (delivers_key key entry) 1 0) first rest

-- the sum over protocols
abbrev pub total : (Protocol → ℕ) → List Protocol → ℕ
total f [] = 0
total f (p ∷ ps) = f p + total f ps

total-plus : (f g : Protocol → ℕ) (ps : List Protocol) → total (λ p. f p + g p) ps ≡ total f ps + total g ps
total-plus f g [] = refl
total-plus f g (p ∷ ps) = omega (arith, total-plus f g ps)

total-same : (f g : Protocol → ℕ) → ((p : Protocol) → f p ≡ g p) → (ps : List Protocol) → total f ps ≡ total g ps
total-same f g e [] = refl
total-same f g e (p ∷ ps) = omega (arith, e p, total-same f g e ps)

count_turn : (scenario : ScenarioParts) (i : ℕ) (key : MsgKey) (past : List NoticeKind) (ps : List Protocol)
    → count key (entered (flat_map (λ p. p.effects scenario i past) ps)) ≡ total (λ p. count key (entered (p.effects scenario i past))) ps
unfolding entered
count_turn scenario i key past [] = refl
count_turn scenario i key past (p ∷ ps) =
    ap (count key) (entered-append (p.effects scenario i past) (flat_map (λ q. q.effects scenario i past) ps))
    ∙ count-append key (entered (p.effects scenario i past)) (entered (flat_map (λ q. q.effects scenario i past) ps))
    ∙ ap (λ n. count key (entered (p.effects scenario i past)) + n) (count_turn scenario i key past ps)

none_counted : (key : MsgKey) (scenario : ScenarioParts) (i : ℕ) (ps : List Protocol) → 0 ≡ total (λ p. count key (log_by p scenario i [])) ps
none_counted key scenario i [] = refl
none_counted key scenario i (p ∷ ps) = omega (arith, none_counted key scenario i ps)

-- a log has as many deliveries of a key as the protocols together
count_log : (scenario : ScenarioParts) (i : ℕ) (key : MsgKey) (past : List NoticeKind)
    → count key (log_from scenario i past) ≡ total (λ p. count key (log_by p scenario i past)) protocols
unfolding log_from turn_effects
count_log scenario i key [] = none_counted key scenario i protocols
count_log scenario i key (notice ∷ before) =
    let now : Protocol → ℕ = λ p. count key (entered (p.effects scenario i (notice ∷ before))) in
    let earlier : Protocol → ℕ = λ p. count key (log_by p scenario i before) in
    let whole : Protocol → ℕ = λ p. count key (log_by p scenario i (notice ∷ before)) in
    let split = count-append key (log_from scenario i before) (entered (turn_effects scenario i (notice ∷ before))) in
    let a = count_log scenario i key before in
    let b = count_turn scenario i key (notice ∷ before) protocols in
    let c = total-same whole (λ p. earlier p + now p)
    (λ p. count-append key (log_by p scenario i before) (entered (p.effects scenario i (notice ∷ before)))) protocols in
    let d = total-plus earlier now protocols in
    split ∙ omega (arith, a, b, c, d)

-- where each has at most one, and none where the test fails
few_in : (f : Protocol → ℕ) (test : Protocol → Bool) (ps : List Protocol) → AllByRecursion (λ p. f p ≤ one_if (test p)) ps → total f ps ≤ count_by test ps
few_in f test [] all = omega arith
few_in f test (p ∷ ps) all = omega (arith, all.0, few_in f test ps all.1, sum_by-cons (λ q. cond (test q) 1 0) p ps)

some_in : (f : Protocol → ℕ) (ps : List Protocol) → AllByRecursion IsLawful ps → 0 < total f ps → (p : Protocol) × IsLawful p × (0 < f p)
some_in f [] all h = absurd (omega arith)
some_in f (p ∷ ps) all h = elim (cases_lt 0 (f p)) [ inl here ↦ (p, all.0, here) | inr none ↦ some_in f ps all.1 (omega arith) ]

one_of : (n : ℕ) (test : Bool) → n ≤ 1 → (0 < n → test ≡ true) → n ≤ one_if test
one_of n true few h = few
one_of n false few h = elim (cases_lt 0 n) [ inl some ↦ absurd (false≢true (h some)) | inr none ↦ none ]

-- a log has at most one delivery of a key, where all protocols that made one deliver the messages
-- of one service
pub log_once : (scenario : ScenarioParts) (i : ℕ) (key : MsgKey) (past : List NoticeKind)
    → ((p : Protocol) → IsLawful p → 0 < count_by (delivers_key key) (log_by p scenario i past)
    → (by : Service) × ((q : Protocol) → IsLawful q → 0 < count_by (delivers_key key) (log_by q scenario i past) → q.delivers by ≡ true))
    → count_by (delivers_key key) (log_from scenario i past) ≤ 1
log_once scenario i key past alone =
    let f : Protocol → ℕ = λ p. count key (log_by p scenario i past) in
    let same : count key (log_from scenario i past) ≡ total f protocols = count_log scenario i key past in
    elim (cases_lt 0 (total f protocols)) [
      | inr none ↦ omega (arith, same, none)
      | inl some ↦
          let first = some_in f protocols are_lawful some in
          let by = alone first.0 first.1 first.2 in
          let few : total f protocols ≤ count_by (λ p. p.delivers by.0) protocols =
          few_in f (λ p. p.delivers by.0) protocols
          (Each-weaker IsLawful (λ p. f p ≤ one_if (p.delivers by.0))
          (λ p lawful. one_of (f p) (p.delivers by.0) (lawful.once scenario i key past) (by.1 p lawful)) protocols are_lawful) in
          omega (arith, same, few, one_delivers by.0)
    ]
