-- Actions in two parts: both can be done, one after the other, where all of them can.
use Rattle.std.proofs.Common.{◌≡◌, ℕ, ◌+◌, List, [], ◌∷◌, ◌++◌, count_by, length, refl, ap, sym, subst, ◌∙◌, arith, append-nil}
use Rattle.std.specs.List.{AllByRecursion}
use Rattle.std.proofs.lemmas.List.{length-append, map-append}
use Rattle.cany_base.specs.declared.actions.Action.{Action}
use Rattle.cany_base.specs.declared.format.Format.{Format}
use Rattle.cany_base.specs.declared.log_entry.LogEntry.{LogEntry}
use Rattle.cany_base.specs.Bounded.{Bounded}
use Rattle.cany_model.specs.Rules.Actions.{action_of, actions_of}
use Rattle.cany_model.specs.Rules.Effect.{Effect, waiting_after, entered}
use Rattle.cany_model.proofs.Among.{Each-first, Each-second}
use Rattle.cany_model.proofs.Promises.SignCounts.{asks_more, els_asks, waiting_few}
use Rattle.cany_model.proofs.Rules.Services.DeliveryFacts.{entered-append}
use Rattle.can_controller.specs.Controller.{ControllerState}
use Rattle.cany_node.specs.Apply.{AreApplied, AreAskable, AreDone, CanApply, NamesAskable, all_stamped, asks_sign, is_sign}
use Rattle.cany_node.specs.Stamping.{AreStamped, stamped_effect}
use Rattle.cany_node.proofs.Applying.{done-none, done-then}
use Rattle.cany_node.proofs.NextAction.{entered_stamped, signs_asked, signs_stamped, still_askable, still_stamped}

-- ---- the effects of each part

record Parts (format : Format) (effects : List Effect) (xs ys : List Action) : Type 0 where
  front : List Effect
  back : List Effect
  whole : effects ≡ front ++ back
  first : xs ≡ actions_of format front
  rest : ys ≡ actions_of format back

parts : (format : Format) (effects : List Effect) (xs ys : List Action) → xs ++ ys ≡ actions_of format effects → Parts format effects xs ys
parts format effects [] ys are = record { front = []; back = effects; whole = refl; first = refl; rest = are }
parts format [] (x ∷ xs) ys are = absurd (cc)
parts format (e ∷ effects) (x ∷ xs) ys are =
    let head : x ≡ action_of format e = cc in
    let tail : xs ++ ys ≡ actions_of format effects = cc in
    let more = parts format effects xs ys tail in
    record {
      front = e ∷ more.front;
      back = more.back;
      whole = ap (λ es. e ∷ es) more.whole;
      first = λ j. head j ∷ more.first j;
      rest = more.rest;
    }

none_of : (format : Format) (effects : List Effect) → [] ≡ actions_of format effects → effects ≡ []
none_of format [] are = refl
none_of format (e ∷ effects) are = absurd (cc)

pub none_applied : (inc : ℕ) (ctl : ControllerState) (log : Bounded LogEntry) → AreApplied inc [] ctl ctl log log
none_applied inc ctl log = λ scenario i effects legal format are names stamped.
    subst (λ es. AreDone (all_stamped inc es) ctl ctl log log) (sym (none_of scenario.params.format effects are)) (done-none ctl log)

-- ---- a part of what can be done

entered_both : (xs ys : List Effect) → length (entered (xs ++ ys)) ≡ length (entered xs) + length (entered ys)
entered_both xs ys = ap length (entered-append xs ys) ∙ length-append (entered xs) (entered ys)

-- once what comes before it is done
module _ (inc : ℕ) (all actions : List Action) (start ctl : ControllerState) (before log : Bounded LogEntry) (can : CanApply inc all start before)
    (first part rest : List Effect) (whole : can.effects ≡ first ++ (part ++ rest)) (are : actions ≡ actions_of can.scenario.params.format part)
    (done : AreDone (all_stamped inc first) start ctl before log) where
  names : AllByRecursion (NamesAskable can.scenario can.node) (first ++ (part ++ rest))
  names = subst (AllByRecursion (NamesAskable can.scenario can.node)) whole can.names

  left : waiting_after (all_stamped inc first) start.waiting ≡ ctl.waiting
  left = sym (ap (λ (s : ControllerState). s.waiting) done.controller)

  signs_all : count_by asks_sign can.effects ≡ els_asks first + (els_asks part + els_asks rest)
  signs_all = signs_asked can.effects ∙ ap els_asks whole ∙ asks_more first (part ++ rest) ∙ ap (λ n. els_asks first + n) (asks_more part rest)

  entered_all : length (entered can.effects) ≡ length (entered first) + (length (entered part) + length (entered rest))
  entered_all = ap (λ es. length (entered es)) whole ∙ entered_both first (part ++ rest) ∙ ap (λ n. length (entered first) + n) (entered_both part rest)

  made : length log.items ≡ length before.items + length (entered first)
  made =
      ap length done.entries ∙ length-append before.items (entered (all_stamped inc first))
      ∙ ap (λ entries. length before.items + length entries) (entered_stamped inc first)

  can_part : CanApply inc actions ctl log
  can_part = record {
    scenario = can.scenario;
    node = can.node;
    effects = part;
    legal = can.legal;
    number = can.number;
    format = ap (λ (s : ControllerState). s.params.format) done.controller ∙ can.format;
    are = are;
    names = Each-first (NamesAskable can.scenario can.node) part rest (Each-second (NamesAskable can.scenario can.node) first (part ++ rest) names);
    waiting =
        subst (AreAskable can.scenario can.node) left
        (still_askable can.scenario can.node inc first start.waiting (Each-first (NamesAskable can.scenario can.node) first (part ++ rest) names) can.waiting);
    stamped = subst (AreStamped inc) left (still_stamped inc first start.waiting can.stamped);
    signs = omega (
      arith,
      can.signs,
      signs_all,
      signs_asked part,
      ap (count_by is_sign) left,
      waiting_few (all_stamped inc first) start.waiting,
      signs_stamped inc first,
    );
    room = ap (λ (s : ControllerState). s.room) done.controller ∙ can.room;
    entries = omega (arith, can.entries, entered_all, made, done.room);
  }

module _ (inc : ℕ) (xs ys : List Action) (start : ControllerState) (before : Bounded LogEntry) (can : CanApply inc (xs ++ ys) start before) where
  abbrev split : Parts can.scenario.params.format can.effects xs ys
  split = parts can.scenario.params.format can.effects xs ys can.are

  pub can_front : CanApply inc xs start before
  can_front = can_part inc (xs ++ ys) xs start start before before can [] split.front split.back split.whole split.first (done-none start before)

  names_front : AllByRecursion (NamesAskable can.scenario can.node) split.front
  names_front =
      Each-first (NamesAskable can.scenario can.node) split.front split.back (subst (AllByRecursion (NamesAskable can.scenario can.node)) split.whole can.names)

  pub can_back : (ctl : ControllerState) (log : Bounded LogEntry) → AreApplied inc xs start ctl before log → CanApply inc ys ctl log
  can_back ctl log applied =
      can_part inc (xs ++ ys) ys start ctl before log can split.front split.back [] (split.whole ∙ ap (λ es. split.front ++ es) (sym (append-nil split.back))) split.rest
      (applied can.scenario can.node split.front can.legal can.format split.first names_front can.stamped)

-- what is done of each part is done of both
pub both_applied : (inc : ℕ) (xs ys : List Action) (a b c : ControllerState) (x y z : Bounded LogEntry) → AreApplied inc xs a b x y → AreApplied inc ys b c y z
    → AreApplied inc (xs ++ ys) a c x z
both_applied inc xs ys a b c x y z one two = λ scenario i effects legal format are names stamped.
    let split = parts scenario.params.format effects xs ys are in
    let named = subst (AllByRecursion (NamesAskable scenario i)) split.whole names in
    let first = one scenario i split.front legal format split.first (Each-first (NamesAskable scenario i) split.front split.back named) stamped in
    let tells : AreStamped inc b.waiting =
    subst (AreStamped inc) (sym (ap (λ (s : ControllerState). s.waiting) first.controller)) (still_stamped inc split.front a.waiting stamped) in
    let rest =
    two scenario i split.back legal (ap (λ (s : ControllerState). s.params.format) first.controller ∙ format) split.rest
    (Each-second (NamesAskable scenario i) split.front split.back named) tells in
    subst (λ es. AreDone es a c x z) (sym (ap (all_stamped inc) split.whole ∙ map-append (stamped_effect inc) split.front split.back))
    (done-then (all_stamped inc split.front) (all_stamped inc split.back) a b c x y z first rest)
