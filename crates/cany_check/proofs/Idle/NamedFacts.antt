-- The frames that the entries of a scenario name: each has its count, and each cycle of an ask a
-- number.
use Rattle.std.proofs.Common.{◌≡◌, ℕ, ◌<◌, ◌||◌, Bool, true, false, List, [], ◌∷◌, length, get_or, All, refl, ap, sym, subst, ◌∙◌}
use Rattle.std.proofs.lemmas.Bool.{false≢true}
use Rattle.std.proofs.lemmas.List.Elements.{All-weaker}
use Rattle.std.proofs.lemmas.List.Folds.{list_any_at}
use Rattle.cany_base.specs.declared.class.Class.{Class}
use Rattle.cany_base.specs.declared.class.Class.TheVariants.{Join, Leave}
use Rattle.cany_base.specs.declared.message.NodeAsk.{NodeAsk}
use Rattle.cany_base.specs.declared.rule.Rule.{Rule}
use Rattle.cany_base.specs.Cycles.{cycle_of}
use Rattle.cany_base.specs.Limits.{most_numbers}
use Rattle.cany_base.specs.Scenario.{IsAskOf, IsLegalScenario, ScenarioParts}
use Rattle.cany_model.specs.Bus.Frames.{Identity, same_identity}
use Rattle.cany_model.proofs.Bus.Identities.{same_identity_self}
use Rattle.cany_model.proofs.Rules.NumberFacts.{cycle_small}
use Rattle.cany_check.specs.declared.unused_entries.unused_asks.Asks.{Asks}
use Rattle.cany_check.specs.declared.unused_entries.unused_asks.Asks.TheVariants.{Joins, Leaves}
use Rattle.cany_check.specs.Idle.Asks.{ask_class, asks_of}
use Rattle.can_fault.specs.Rules.{names_frame}
use Rattle.cany_check.specs.Idle.Attempts.{asked_frame, is_asked, is_named, is_ruled}

or_first : (a b : Bool) → a ≡ true → (a || b) ≡ true
or_first a b h = rw h refl

or_second : (a b : Bool) → b ≡ true → (a || b) ≡ true
or_second true b h = refl
or_second false b h = h

pub or_none : (a : Bool) → (a || false) ≡ true → a ≡ true
or_none true h = refl
or_none false h = absurd (false≢true h)

-- the frame of a rule of the scenario
pub ruled_named : (scenario : ScenarioParts) (i : ℕ) (rule : Rule) → i < length scenario.rules → rule ≡ get_or scenario.rules i rule
    → (x : Identity) → is_ruled (rule ∷ []) x ≡ true → is_named scenario x ≡ true
ruled_named scenario i rule below at x h =
    let here : is_ruled scenario.rules x ≡ true =
    list_any_at (λ (r : Rule). names_frame x r.place) scenario.rules i rule below (ap (λ (r : Rule). names_frame x r.place) (sym at) ∙ or_none (names_frame x rule.place) h) in
    or_first (is_ruled scenario.rules x || is_asked scenario.params Join scenario.joins x) (is_asked scenario.params Leave scenario.leaves x)
    (or_first (is_ruled scenario.rules x) (is_asked scenario.params Join scenario.joins x) here)

asked_here : (scenario : ScenarioParts) (c : Class) (asks : List NodeAsk) (i : ℕ) (ask : NodeAsk) → i < length asks → ask ≡ get_or asks i ask
    → is_asked scenario.params c asks (asked_frame scenario.params c ask) ≡ true
asked_here scenario c asks i ask below at =
    let x : Identity = asked_frame scenario.params c ask in
    list_any_at (λ (a : NodeAsk). same_identity (asked_frame scenario.params c a) x) asks i ask below
    (ap (λ (a : NodeAsk). same_identity (asked_frame scenario.params c a) x) (sym at) ∙ same_identity_self x)

module _ (scenario : ScenarioParts) where
  -- the asks of a legal scenario are each of it
  pub asks_legal : IsLegalScenario scenario → (kind : Asks) → All (IsAskOf scenario.params) (asks_of kind scenario)
  asks_legal legal Joins = legal.joins
  asks_legal legal Leaves = legal.leaves

  -- the frame of a join or a leave
  asks_named : (kind : Asks) (x : Identity) → is_asked scenario.params (ask_class kind) (asks_of kind scenario) x ≡ true → is_named scenario x ≡ true
  asks_named Joins x here =
      or_first (is_ruled scenario.rules x || is_asked scenario.params Join scenario.joins x) (is_asked scenario.params Leave scenario.leaves x)
      (or_second (is_ruled scenario.rules x) (is_asked scenario.params Join scenario.joins x) here)
  asks_named Leaves x here = or_second (is_ruled scenario.rules x || is_asked scenario.params Join scenario.joins x) (is_asked scenario.params Leave scenario.leaves x) here

  pub ask_named : (kind : Asks) (asks : List NodeAsk) (i : ℕ) (ask : NodeAsk) → asks ≡ asks_of kind scenario → i < length asks → ask ≡ get_or asks i ask
      → is_named scenario (asked_frame scenario.params (ask_class kind) ask) ≡ true
  ask_named kind asks i ask e below at =
      let x : Identity = asked_frame scenario.params (ask_class kind) ask in
      asks_named kind x (ap (λ l. is_asked scenario.params (ask_class kind) l x) (sym e) ∙ asked_here scenario (ask_class kind) asks i ask below at)

-- ---- numbers of cycles

pub cycles_small : (scenario : ScenarioParts) → IsLegalScenario scenario → (asks : List NodeAsk) → All (IsAskOf scenario.params) asks
    → All (λ ask. cycle_of scenario.params ask.slot < most_numbers) asks
cycles_small scenario legal asks all =
    All-weaker (IsAskOf scenario.params) (λ ask. cycle_of scenario.params ask.slot < most_numbers) (λ ask of. cycle_small scenario legal ask.slot of.0) asks all

-- what holds of each ask, of one at its place
pub one_of : {X : Type 0} (P : X → Type 0) (xs : List X) (i : ℕ) (x : X) → All P xs → i < length xs → x ≡ get_or xs i x → P x
one_of P xs i x all below at = subst P (sym at) (all i x below)

-- ---- of a list that is that of the scenario

pub one_at : {X : Type 0} (P : X → Type 0) (xs ys : List X) (i : ℕ) (x : X) → xs ≡ ys → All P ys → i < length xs → x ≡ get_or xs i x → P x
one_at P xs ys i x e all below at = one_of P xs i x (subst (All P) (sym e) all) below at

pub ruled_at : (scenario : ScenarioParts) (rules : List Rule) (i : ℕ) (rule : Rule) → rules ≡ scenario.rules → i < length rules → rule ≡ get_or rules i rule
    → (x : Identity) → is_ruled (rule ∷ []) x ≡ true → is_named scenario x ≡ true
ruled_at scenario rules i rule e below at = ruled_named scenario i rule (subst (λ l. i < length l) e below) (subst (λ l. rule ≡ get_or l i rule) e at)
