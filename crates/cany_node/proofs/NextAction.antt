-- The next action can be done, and what waits then tells the incarnation still.
use Rattle.std.proofs.Common.{◌≡◌, ℕ, ◌+◌, ◌<◌, ◌≤◌, ◌++◌, inl, Bool, if◌then◌else◌, List, [], ◌∷◌, length, take, drop, get_or, count_by, refl, ap, sym, subst, ◌∙◌, arith}
use Rattle.std.specs.List.{AllByRecursion}
use Rattle.std.proofs.lemmas.List.{length-append, length-map, map-append, take_all}
use Rattle.cany_base.specs.declared.actions.Action.{Action}
use Rattle.cany_base.specs.declared.format.Format.{Format}
use Rattle.cany_base.specs.declared.log_entry.LogEntry.{LogEntry}
use Rattle.cany_base.specs.Bounded.{Bounded}
use Rattle.cany_base.specs.Frame.{FrameParts}
use Rattle.cany_base.specs.Limits.{most_restarts_of_node}
use Rattle.cany_base.specs.Scenario.{ScenarioParts, IsLegalScenario}
use Rattle.cany_model.specs.Rules.Actions.{action_of, actions_of}
use Rattle.cany_model.specs.Rules.Effect.{Effect, Ask, Withdraw, Enter, waiting_after, entered}
use Rattle.cany_model.specs.Bus.Frames.{identity_of}
use Rattle.cany_model.specs.Rules.Rooms.{IsAskable, waiting_room}
use Rattle.cany_model.proofs.Among.{Each-first, Each-second, count-cons}
use Rattle.cany_model.proofs.Rules.Waits.{AsksOnly, Each-after}
use Rattle.cany_model.proofs.Promises.SignCounts.{asks_more, els_asks, waiting_few}
use Rattle.cany_model.proofs.Rules.Services.DeliveryFacts.{entered-append}
use Rattle.can_frame.specs.Identifier.{FitsFormat}
use Rattle.can_controller.specs.Controller.{ControllerState}
use Rattle.can_controller.specs.Waiting.{IsAscending}
use Rattle.cany_node.specs.Apply.{AreAskable, NamesAskable, AreDone, CanApply, CanDo, WithdrawsFitting, all_stamped, asks_sign, is_sign}
use Rattle.cany_node.specs.Stamping.{AreStamped, IsStamped, stamped_effect, with_incarnation}
use Rattle.cany_node.proofs.Applying.{Stands, stands, done-then}
use Rattle.cany_node.proofs.Askable.{askable_fits}
use Rattle.cany_node.proofs.RoomsSuffice.{waiting_below}
use Rattle.cany_node.proofs.StampedIdentifiers.{ident_small}

pub withdraws_fitting : (scenario : ScenarioParts) (i : ℕ) (effect : Effect) → IsLegalScenario scenario → NamesAskable scenario i effect
    → WithdrawsFitting scenario.params.format effect
withdraws_fitting scenario i (Ask f) legal is = tt
withdraws_fitting scenario i (Withdraw x) legal is = askable_fits scenario i x legal is
withdraws_fitting scenario i (Enter entry) legal is = tt

-- ---- what waits after effects that tell the incarnation

asks_askable : (scenario : ScenarioParts) (i inc : ℕ) (effects : List Effect) → AllByRecursion (NamesAskable scenario i) effects
    → AllByRecursion (AsksOnly (λ f. IsAskable scenario i (identity_of f))) (all_stamped inc effects)
asks_askable scenario i inc [] h = tt
asks_askable scenario i inc (Ask f ∷ effects) h = (h.0.0, asks_askable scenario i inc effects h.1)
asks_askable scenario i inc (Withdraw x ∷ effects) h = (tt, asks_askable scenario i inc effects h.1)
asks_askable scenario i inc (Enter entry ∷ effects) h = (tt, asks_askable scenario i inc effects h.1)

-- it may be asked for
pub still_askable : (scenario : ScenarioParts) (i inc : ℕ) (effects : List Effect) (w : List FrameParts)
    → AllByRecursion (NamesAskable scenario i) effects
    → AreAskable scenario i w → AreAskable scenario i (waiting_after (all_stamped inc effects) w)
still_askable scenario i inc effects w names all =
    Each-after (λ f. IsAskable scenario i (identity_of f)) (all_stamped inc effects) w (asks_askable scenario i inc effects names) all

frame_tells : (inc : ℕ) (f : FrameParts) → IsStamped inc (with_incarnation inc f)
frame_tells inc f tells = ap (λ (stamped : Bool). if stamped then inc else f.inc) tells

asks_tell : (inc : ℕ) (effects : List Effect) → AllByRecursion (AsksOnly (IsStamped inc)) (all_stamped inc effects)
asks_tell inc [] = tt
asks_tell inc (Ask f ∷ effects) = (frame_tells inc f, asks_tell inc effects)
asks_tell inc (Withdraw x ∷ effects) = (tt, asks_tell inc effects)
asks_tell inc (Enter entry ∷ effects) = (tt, asks_tell inc effects)

-- and tells the incarnation
pub still_stamped : (inc : ℕ) (effects : List Effect) (w : List FrameParts) → AreStamped inc w → AreStamped inc (waiting_after (all_stamped inc effects) w)
still_stamped inc effects w stamped = Each-after (IsStamped inc) (all_stamped inc effects) w (asks_tell inc effects) stamped

-- what is entered does not depend on it
pub entered_stamped : (inc : ℕ) (effects : List Effect) → entered (all_stamped inc effects) ≡ entered effects
unfolding entered
entered_stamped inc [] = refl
entered_stamped inc (Ask f ∷ effects) = entered_stamped inc effects
entered_stamped inc (Withdraw x ∷ effects) = entered_stamped inc effects
entered_stamped inc (Enter entry ∷ effects) = ap (λ entries. entry ∷ entries) (entered_stamped inc effects)

-- ---- life signs

pub signs_asked : (effects : List Effect) → count_by asks_sign effects ≡ els_asks effects
signs_asked [] = refl
signs_asked (Ask f ∷ effects) = omega (arith, count-cons asks_sign (Ask f) effects, signs_asked effects)
signs_asked (Withdraw x ∷ effects) = omega (arith, count-cons asks_sign (Withdraw x) effects, signs_asked effects)
signs_asked (Enter entry ∷ effects) = omega (arith, count-cons asks_sign (Enter entry) effects, signs_asked effects)

pub signs_stamped : (inc : ℕ) (effects : List Effect) → els_asks (all_stamped inc effects) ≡ els_asks effects
signs_stamped inc [] = refl
signs_stamped inc (Ask f ∷ effects) = omega (arith, signs_stamped inc effects)
signs_stamped inc (Withdraw x ∷ effects) = signs_stamped inc effects
signs_stamped inc (Enter entry ∷ effects) = signs_stamped inc effects

-- those that wait after the first effects are no more than all effects bring
signs_so_far : (inc : ℕ) (effects front back : List Effect) (effect : Effect) (w : List FrameParts) (most : ℕ)
    → effects ≡ front ++ effect ∷ back
    → count_by is_sign w + count_by asks_sign effects ≤ most → count_by is_sign (waiting_after (all_stamped inc front) w) ≤ most
signs_so_far inc effects front back effect w most whole few =
    omega (arith, waiting_few (all_stamped inc front) w, signs_stamped inc front, signs_asked effects, ap els_asks whole, asks_more front (effect ∷ back), few)

-- ---- the next effect

can_do_effect : (scenario : ScenarioParts) (i inc : ℕ) (effect : Effect) (ctl : ControllerState) (log : Bounded LogEntry)
    → IsLegalScenario scenario
    → inc ≤ most_restarts_of_node → NamesAskable scenario i effect → ctl.params.format ≡ scenario.params.format
    → AreAskable scenario i ctl.waiting
    → IsAscending ctl.params.format ctl.waiting → count_by is_sign ctl.waiting ≤ 3 → ctl.room ≡ waiting_room scenario
    → length log.items + length (entered (effect ∷ [])) ≤ log.room → CanDo inc (action_of scenario.params.format effect) ctl log
unfolding entered
can_do_effect scenario i inc (Ask f) ctl log legal number is format all up signs room few = (
  subst (λ k. FitsFormat k f) (sym format) (askable_fits scenario i (identity_of f) legal is),
  inl (omega (arith, waiting_below scenario i ctl.params.format ctl.waiting up all signs, room)),
)
can_do_effect scenario i inc (Withdraw x) ctl log legal number is format all up signs room few =
    ident_small scenario.params.format x inc (askable_fits scenario i x legal is) number
can_do_effect scenario i inc (Enter entry) ctl log legal number is format all up signs room few = omega (arith, few)

pub can_do : (inc : ℕ) (actions : List Action) (start ctl : ControllerState) (before log : Bounded LogEntry) (can : CanApply inc actions start before) (place : ℕ)
    (a : Action) → Stands can.scenario.params.format can.effects place a
    → AreDone (all_stamped inc (take place can.effects)) start ctl before log
    → IsAscending ctl.params.format ctl.waiting → CanDo inc a ctl log
can_do inc actions start ctl before log can place a at done up =
    let i : ℕ = can.node in
    let front : List Effect = take place can.effects in
    let back : List Effect = drop (place + 1) can.effects in
    let names = subst (AllByRecursion (NamesAskable can.scenario i)) at.whole can.names in
    let left : waiting_after (all_stamped inc front) start.waiting ≡ ctl.waiting = sym (ap (λ (s : ControllerState). s.waiting) done.controller) in
    let waiting : AreAskable can.scenario i ctl.waiting =
    subst (AreAskable can.scenario i) left
    (still_askable can.scenario i inc front start.waiting (Each-first (NamesAskable can.scenario i) front (at.effect ∷ back) names) can.waiting) in
    let signs : count_by is_sign ctl.waiting ≤ 3 =
    subst (λ w. count_by is_sign w ≤ 3) left (signs_so_far inc can.effects front back at.effect start.waiting 3 at.whole can.signs) in
    let format : ctl.params.format ≡ can.scenario.params.format = ap (λ (s : ControllerState). s.params.format) done.controller ∙ can.format in
    let room : ctl.room ≡ waiting_room can.scenario = ap (λ (s : ControllerState). s.room) done.controller ∙ can.room in
    let all : length (entered can.effects) ≡ length (entered front) + (length (entered (at.effect ∷ [])) + length (entered back)) =
    ap (λ es. length (entered es)) at.whole ∙ ap length (entered-append front (at.effect ∷ back)) ∙ length-append (entered front) (entered (at.effect ∷ back))
    ∙ ap (λ n. length (entered front) + n) (ap length (entered-append (at.effect ∷ []) back) ∙ length-append (entered (at.effect ∷ [])) (entered back)) in
    let made : length log.items ≡ length before.items + length (entered front) =
    ap length done.entries ∙ length-append before.items (entered (all_stamped inc front))
    ∙ ap (λ entries. length before.items + length entries) (entered_stamped inc front) in
    subst (λ x. CanDo inc x ctl log) at.action
    (can_do_effect can.scenario i inc at.effect ctl log can.legal can.number (Each-second (NamesAskable can.scenario i) front (at.effect ∷ back) names).0 format waiting up signs
    room (omega (arith, all, made, can.entries, done.room)))

-- the effect of the next action
pub next_stands : (format : Format) (effects : List Effect) (out actions : List Action) (i : ℕ) (a : Action)
    → out ≡ actions_of format effects → actions ≡ out → i < length actions
    → a ≡ get_or actions i a → Stands format effects i a
next_stands format effects out actions i a are same within is =
    let all : actions ≡ actions_of format effects = same ∙ are in
    stands format effects i a (omega (arith, ap length all, length-map effects (action_of format))) (is ∙ ap (λ x. get_or x i a) all)

pub next_done : (scenario : ScenarioParts) (i inc : ℕ) (effects : List Effect) (place : ℕ) (a : Action) (start ctl ctl' : ControllerState) (before log log' : Bounded LogEntry)
    → IsLegalScenario scenario → start.params.format ≡ scenario.params.format → AllByRecursion (NamesAskable scenario i) effects
    → AreStamped inc start.waiting
    → Stands scenario.params.format effects place a
    → ((effect : Effect) → action_of ctl.params.format effect ≡ a → WithdrawsFitting ctl.params.format effect → AreStamped inc ctl.waiting
    → AreDone (all_stamped inc (effect ∷ [])) ctl ctl' log log')
    → AreDone (all_stamped inc (take place effects)) start ctl before log
    → AreDone (all_stamped inc (take (place + 1) effects)) start ctl' before log'
next_done scenario i inc effects place a start ctl ctl' before log log' legal same names stamped at one done =
    let front : List Effect = take place effects in
    let format : ctl.params.format ≡ scenario.params.format = ap (λ (s : ControllerState). s.params.format) done.controller ∙ same in
    let named = (Each-second (NamesAskable scenario i) front (at.effect ∷ drop (place + 1) effects) (subst (AllByRecursion (NamesAskable scenario i)) at.whole names)).0 in
    let tells : AreStamped inc ctl.waiting =
    subst (AreStamped inc) (sym (ap (λ (s : ControllerState). s.waiting) done.controller)) (still_stamped inc front start.waiting stamped) in
    subst (λ es. AreDone es start ctl' before log') (sym (ap (all_stamped inc) at.taken ∙ map-append (stamped_effect inc) front (at.effect ∷ [])))
    (done-then (all_stamped inc front) (all_stamped inc (at.effect ∷ [])) start ctl ctl' before log log' done
    (one at.effect (subst (λ k. action_of k at.effect ≡ a) (sym format) at.action)
    (subst (λ k. WithdrawsFitting k at.effect) (sym format) (withdraws_fitting scenario i at.effect legal named)) tells))

pub all_done : (format : Format) (inc : ℕ) (effects : List Effect) (out actions : List Action) (place : ℕ) (start ctl : ControllerState) (before log : Bounded LogEntry)
    → out ≡ actions_of format effects → actions ≡ out → length actions ≤ place
    → AreDone (all_stamped inc (take place effects)) start ctl before log
    → AreDone (all_stamped inc effects) start ctl before log
all_done format inc effects out actions place start ctl before log are same past done =
    subst (λ es. AreDone (all_stamped inc es) start ctl before log)
    (take_all place effects (omega (arith, ap length (same ∙ are), length-map effects (action_of format)))) done
