-- The sends of a slot, one after another.
use Rattle.std.proofs.Common.{◌≡◌, ℕ, ◌+◌, ◌<◌, ◌≤◌, ◌==◌, ◌&&◌, Bool, true, false, cond, List, [], ◌∷◌, ◌++◌, length, filter, map, refl, ap, sym, subst, ◌∙◌, arith, append_assoc, append-nil}
use Rattle.std.proofs.lemmas.Bool.{eq-eqb}
use Rattle.std.proofs.lemmas.Bool.Decides.{nat_tests}
use Rattle.std.proofs.lemmas.List.{map-append}
use Rattle.std.proofs.lemmas.List.Elements.{filter_agree}
use Rattle.cany_base.specs.declared.actions.Action.{Action}
use Rattle.cany_base.specs.declared.format.Format.{Format}
use Rattle.cany_base.specs.Scenario.{ScenarioParts}
use Rattle.cany_model.specs.Rules.Actions.{action_of, actions_of}
use Rattle.cany_model.specs.Rules.Effect.{Effect, Ask}
use Rattle.cany_model.specs.Rules.Messages.{Message, data_frame}
use Rattle.cany_model.specs.Rules.Sends.{is_sent_at_once, is_sent_in, sendable}
use Rattle.cany_node.specs.declared.agenda.Planned.{Planned}
use Rattle.cany_node.proofs.AgendaFacts.{filter_both}
use Rattle.cany_node.specs.Agenda.{AgendaParts, message_from, is_for, is_due, IsRising, IsAgendaOf, asked_by, asks_for, sent_asks}

at_once : List Message → List Effect
at_once messages = map (λ m. Ask (data_frame m)) (filter (λ m. is_sent_at_once m.service) messages)

one_at_once : (b : Bool) (m : Message) (messages : List Message)
    → cond b (Ask (data_frame m) ∷ []) [] ++ at_once messages
    ≡ map (λ m. Ask (data_frame m)) (cond b (m ∷ filter (λ m. is_sent_at_once m.service) messages) (filter (λ m. is_sent_at_once m.service) messages))
unfolding at_once
one_at_once true m messages = refl
one_at_once false m messages = refl

once : (i slot : ℕ) (planned : List Planned) → asks_for i slot planned ≡ at_once (map (message_from i) (filter (is_for slot) planned))
unfolding asks_for at_once
once i slot [] = refl
once i slot (p ∷ planned) =
    elim (p.slot == slot) as (λ b. cond b (asked_by i p ++ asks_for i slot planned) (asks_for i slot planned) ≡ at_once (map (message_from i) (cond b (p ∷ filter (is_for slot) planned) (filter (is_for slot) planned)))) [
      | true ↦ ap (λ es. asked_by i p ++ es) (once i slot planned) ∙ one_at_once (is_sent_at_once p.service) (message_from i p) (map (message_from i) (filter (is_for slot) planned))
      | false ↦ once i slot planned
    ]

pub turned : (a b o : Bool) → ((a && b) && o) ≡ ((o && a) && b)
turned true true true = refl
turned true true false = refl
turned true false true = refl
turned true false false = refl
turned false b true = refl
turned false b false = refl

-- those of a slot that are sent at once
pub asks-from_slot : (i slot : ℕ) (planned : List Planned) (messages : List Message) → map (message_from i) (filter (is_for slot) planned) ≡ filter (is_due i slot) messages
    → asks_for i slot planned ≡ sent_asks i slot messages
unfolding at_once
asks-from_slot i slot planned messages same =
    once i slot planned ∙ ap at_once same
    ∙ ap (map (λ m. Ask (data_frame m)))
    (filter_both (is_due i slot) (λ m. is_sent_at_once m.service) messages
    ∙ filter_agree (λ m. is_due i slot m && is_sent_at_once m.service) (is_sent_in i slot) (λ m. turned (m.origin == i) (m.slot == slot) (is_sent_at_once m.service)) messages)

-- where all are for later slots, none is for this one
pub none_for : (s n : ℕ) (planned : List Planned) → s < n → IsRising n planned → filter (is_for s) planned ≡ []
unfolding IsRising
none_for s n [] less up = refl
none_for s n (p ∷ planned) less up = rw (other_slot p.slot s (omega (arith, up.0))) (none_for s p.slot planned (omega (arith, up.0)) up.1)
  where
    other_slot : (a b : ℕ) → b < a → (a == b) ≡ false
    other_slot a b h = grind (arith, nat_tests)

pub none_asked : (i s n : ℕ) (planned : List Planned) → s < n → IsRising n planned → asks_for i s planned ≡ []
unfolding at_once
none_asked i s n planned less up = once i s planned ∙ ap (λ ps. at_once (map (message_from i) ps)) (none_for s n planned less up)

-- what the loop keeps: what was asked for and what is still to be, together, and the sends of later
-- slots
pub record KeepsSending (i slot : ℕ) (old new : AgendaParts) (before after : List Action) : Type 0 where
  pub asks : (format : Format) → after ++ actions_of format (asks_for i slot new.left) ≡ before ++ actions_of format (asks_for i slot old.left)
  pub later : (s : ℕ) → slot < s → filter (is_for s) new.left ≡ filter (is_for s) old.left
  pub rising : IsRising slot old.left → IsRising slot new.left
  pub planned : new.planned ≡ old.planned
  pub few : length new.left ≤ length old.left

pub keeps-start : (i slot : ℕ) (a : AgendaParts) (out : List Action) → KeepsSending i slot a a out out
keeps-start i slot a out = record { asks = λ format. refl; later = λ s h. refl; rising = λ h. h; planned = refl; few = omega arith }

pub keeps-more : (i slot : ℕ) (old mid new : AgendaParts) (before between after : List Action) (p : Planned) → KeepsSending i slot old mid before between
    → mid.left ≡ p ∷ new.left → p.slot ≡ slot → new.planned ≡ mid.planned → ((format : Format) → after ≡ between ++ actions_of format (asked_by i p)) → KeepsSending i slot old new before after
unfolding asks_for IsRising
keeps-more i slot old mid new before between after p keeps split at same made =
    let here : asks_for i slot mid.left ≡ asked_by i p ++ asks_for i slot new.left =
    ap (asks_for i slot) split ∙ ap (λ b. cond b (asked_by i p ++ asks_for i slot new.left) (asks_for i slot new.left)) (eq-eqb p.slot slot at) in
    record {
      asks = λ format.
          ap (λ x. x ++ actions_of format (asks_for i slot new.left)) (made format)
          ∙ append_assoc between (actions_of format (asked_by i p)) (actions_of format (asks_for i slot new.left))
          ∙ ap (λ x. between ++ x) (sym (map-append (action_of format) (asked_by i p) (asks_for i slot new.left)) ∙ ap (actions_of format) (sym here)) ∙ keeps.asks format;
      later = λ s less. sym (ap (filter (is_for s)) split ∙ rw (other p.slot s (omega (arith, at, less))) refl) ∙ keeps.later s less;
      rising = λ up. let tail = subst (IsRising slot) split (keeps.rising up) in subst (λ n. IsRising n new.left) at tail.1;
      planned = same ∙ keeps.planned;
      few = omega (arith, keeps.few, ap length split);
    }
  where
    other : (a b : ℕ) → a < b → (a == b) ≡ false
    other a b h = grind (arith, nat_tests)

-- once no more is for the slot
pub all_asked : (scenario : ScenarioParts) (i slot : ℕ) (old new : AgendaParts) (before after : List Action) → KeepsSending i slot old new before after
    → (IsRising slot new.left → IsRising (slot + 1) new.left) → IsAgendaOf scenario i slot old
    → after ≡ before ++ actions_of scenario.params.format (sent_asks i slot (sendable scenario slot))
all_asked scenario i slot old new before after keeps later is =
    let none : asks_for i slot new.left ≡ [] = none_asked i slot (slot + 1) new.left (omega arith) (later (keeps.rising is.rising)) in
    sym (append-nil after) ∙ ap (λ es. after ++ actions_of scenario.params.format es) (sym none) ∙ keeps.asks scenario.params.format
    ∙ ap (λ es. before ++ actions_of scenario.params.format es) (asks-from_slot i slot old.left (sendable scenario slot) (is.left slot (omega arith)))
