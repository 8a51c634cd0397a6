-- Why a message is not settled: what the controllers and the nodes tell of it, and that nobody
-- waits, or has anything ahead, exactly where the set of those that do is empty.
use Rattle.std.proofs.Common.{◌≡◌, ℕ, zero, suc, ◌+◌, ◌^◌, ◌<◌, ◌≤◌, ◌↔◌, ◌&&◌, ◌||◌, ◌==◌, Bool, true, false, not, nat_lt, List, [], ◌∷◌, length, get_or, All, refl, ap, sym, subst, ◌∙◌, arith, inl, inr}
use Rattle.std.specs.Prelude.{Some, None, Option, is_none, is_some}
use Rattle.std.specs.List.{list_any, range_with_len}
use Rattle.std.proofs.lemmas.Bool.{cases_Bool, cases_lt, lt-ltb, true≢false}
use Rattle.std.proofs.lemmas.List.Elements.{All-head, All-tail}
use Rattle.std.proofs.lemmas.Option.{slice_get_read}
use Rattle.cany_base.specs.declared.format.Format.{Format}
use Rattle.cany_base.specs.declared.format.Format.TheVariants.{One, Two}
use Rattle.cany_base.specs.declared.step.Step.{Step}
use Rattle.cany_base.specs.Frame.{FrameParts}
use Rattle.cany_base.specs.Layout.{layout}
use Rattle.cany_base.specs.Limits.{most_nodes}
use Rattle.cany_base.specs.Nodes.{Nodes, has, nobody, those_where}
use Rattle.cany_base.specs.Scenario.{ScenarioParts}
use Rattle.cany_base.proofs.NodesFacts.{has-those_where, has_none, same_as_those_where}
use Rattle.cany_model.specs.Bus.Frames.{Identity, identity_of, is_of}
use Rattle.cany_model.specs.Bus.History.{history}
use Rattle.cany_model.specs.Bus.State.{NodeState, RunState, absent, node_at, runs}
use Rattle.cany_model.specs.Bus.Waiting.{waits}
use Rattle.cany_model.specs.Promises.Settled.{is_ahead, is_awaited, nobody_waits_with_sign}
use Rattle.cany_model.specs.Rules.Knowledge.{FailureSign, fda_of}
use Rattle.cany_model.specs.Rules.Messages.{Message}
use Rattle.cany_model.specs.Rules.Turn.{is_ahead_at, scenario_at}
use Rattle.cany_model.specs.Runs.Run.{run}
use Rattle.cany_model.proofs.Bus.Identities.{same_identity-true}
use Rattle.cany_model.proofs.Bus.States.{node_at_past}
use Rattle.cany_model.proofs.Runs.Runs.{orderly}
use Rattle.can_bus.proofs.SetFacts.{SetSoFar, so_far_all, so_far_more}
use Rattle.can_controller.specs.Controller.{ControllerState}
use Rattle.can_frame.specs.Identifier.{FitsIdentifier}
use Rattle.cany_world.specs.Controllers.{HaveFormat, awaits}
use Rattle.cany_world.specs.Kept.{AreControllersOf, IsKeptAs}
use Rattle.cany_world.specs.Settled.{has_ahead, is_waiting, nodes_ahead, waiting_nodes}

-- ---- at one node

-- what its controller tells
pub waiting_is : (scenario : ScenarioParts) (s : RunState) (i : ℕ) (frames : List Identity) (c : ControllerState) → IsKeptAs scenario s.trace i (node_at s.nodes i) c
    → awaits frames c ≡ is_waiting frames s i
waiting_is scenario s i frames c it = rw (it.stopped, it.waiting) refl

-- where there is no node
pub none_waiting : (frames : List Identity) (s : RunState) (i : ℕ) → length s.nodes ≤ i → is_waiting frames s i ≡ false
none_waiting frames s i past = ap (λ node. runs node && list_any (λ x. waits x node.waiting) frames) (node_at_past s.nodes i past)

-- the controller that is read at a place keeps the format
pub format_at : (format : Format) (controllers : List ControllerState) (i : ℕ) (c : ControllerState) → HaveFormat format controllers → i < length controllers
    → c ≡ get_or controllers i c → c.params.format ≡ format
format_at format controllers i c have within at = have i c (slice_get_read controllers (length controllers) i c refl within at)

-- the set of those that wait, filled node by node
module _ (scenario : ScenarioParts) (journal : List Step) (frames : List Identity) (controllers : List ControllerState)
    (are : AreControllersOf scenario (run scenario journal) controllers) where
  pub waiting_more : (old new : Nodes) (i : ℕ) (c : ControllerState) (so : Bool) → i < length controllers → c ≡ get_or controllers i c
      → SetSoFar old i (is_waiting frames (run scenario journal)) → ((k : ℕ) → has new k ≡ (has old k || (so && k == i))) → so ≡ awaits frames c
      → SetSoFar new (i + 1) (is_waiting frames (run scenario journal))
  waiting_more old new i c so within at before step is =
      so_far_more old new i _ so before step
      (is ∙ waiting_is scenario (run scenario journal) i frames c (are.each i c (slice_get_read controllers (length controllers) i c refl within at)))

  pub waiting_all : (set : Nodes) (i : ℕ) → i ≤ most_nodes → length controllers ≤ i → SetSoFar set i (is_waiting frames (run scenario journal))
      → set ≡ waiting_nodes frames (run scenario journal)
  unfolding waiting_nodes
  waiting_all set i few past before =
      so_far_all set i _ before few (λ k over. none_waiting frames (run scenario journal) k (omega (arith, over, past, are.whole, (orderly scenario journal).count)))

pub none_has_ahead : (scenario : ScenarioParts) (s : RunState) (m : Message) (i : ℕ) → length s.nodes ≤ i → has_ahead scenario s m i ≡ false
none_has_ahead scenario s m i past = ap (λ node. runs node && is_ahead_at (scenario_at scenario s i) m i (history i s)) (node_at_past s.nodes i past)

-- ---- the frame of a sign

pub node_fits : (format : Format) (node : ℕ) → node < (layout format).nodes → node < 2 ^ (layout format).node_width
node_fits One node h = h
node_fits Two node h = h

none_of : (test : FrameParts → Bool) (P : FrameParts → Type 0) → ((f : FrameParts) → P f → test f ≡ false) → (w : List FrameParts) → All P w → list_any test w ≡ false
none_of test P no' [] all = refl
none_of test P no' (f ∷ w) all = rw (no' f (All-head P f w all)) (none_of test P no' w (All-tail P f w all))

both_false : (b c : Bool) → c ≡ false → (b && c) ≡ false
both_false true c h = h
both_false false c h = refl

-- a controller that has stopped waits with nothing
pub stopped_awaits : (frames : List Identity) (c : ControllerState) (o : Option ℕ) → o ≡ c.stopped → is_some o ≡ true → false ≡ awaits frames c
stopped_awaits frames c None e h = absurd (true≢false (sym h))
stopped_awaits frames c (Some slot) e h = ap (λ x. is_none x && list_any (λ y. waits y c.waiting) frames) e

-- nor does one with a frame whose number does not fit
module _ (sign : FailureSign) (c : ControllerState) where
  is_other : (f : FrameParts) → FitsIdentifier c.params.format f → (sign.cycle < 2 ^ (layout c.params.format).number_width → ⊥) → is_of (fda_of sign) f ≡ false
  is_other f fits over = elim (cases_Bool (is_of (fda_of sign) f)) [
    | inl here ↦
        let number : sign.cycle ≡ f.number = ap (λ (x : Identity). x.number) (same_identity-true (fda_of sign) (identity_of f) here) in
        absurd (over (subst (λ n. n < 2 ^ (layout c.params.format).number_width) (sym number) fits.0.0))
    | inr other ↦ other
  ]

  pub unfit_awaits : (format : Format) → c.params.format ≡ format → All (FitsIdentifier c.params.format) c.waiting → (sign.cycle < 2 ^ (layout format).number_width → ⊥)
      → false ≡ awaits (fda_of sign ∷ []) c
  unfit_awaits format same fit over =
      let none : waits (fda_of sign) c.waiting ≡ false =
      none_of (is_of (fda_of sign)) (FitsIdentifier c.params.format) (λ f fits. is_other f fits (λ below. over (subst (λ x. sign.cycle < 2 ^ (layout x).number_width) same below))) c.waiting fit in
      sym (both_false (is_none c.stopped) (waits (fda_of sign) c.waiting || false) (ap (λ b. b || false) none))

-- one that runs waits with a frame where it is among its waiting frames
pub awaits_one : (x : Identity) (c : ControllerState) (o : Option ℕ) → o ≡ c.stopped → is_some o ≡ false → waits x c.waiting ≡ awaits (x ∷ []) c
awaits_one x c None e h = sym (or_no (waits x c.waiting)) ∙ ap (λ y. is_none y && (waits x c.waiting || false)) e
  where
    or_no : (b : Bool) → (b || false) ≡ b
    or_no true = refl
    or_no false = refl
awaits_one x c (Some slot) e h = absurd (true≢false h)

-- ---- the whole set

or_first : (a b : Bool) → (a || b) ≡ false → a ≡ false
or_first true b h = h
or_first false b h = refl

or_second : (a b : Bool) → (a || b) ≡ false → b ≡ false
or_second true b h = absurd (true≢false h)
or_second false b h = h

-- none of a row of numbers passes
none_in_range : (test : ℕ → Bool) (from n : ℕ) → list_any test (range_with_len from n) ≡ false → (i : ℕ) → i < n → test (from + i) ≡ false
none_in_range test from zero h i below = absurd (omega arith)
none_in_range test from (suc n) h zero below =
    let at : from + 0 ≡ from = omega arith in
    ap test at ∙ or_first (test from) (list_any test (range_with_len (from + 1) n)) h
none_in_range test from (suc n) h (suc i) below =
    let at : from + suc i ≡ from + 1 + i = omega arith in
    ap test at ∙ none_in_range test (from + 1) n (or_second (test from) (list_any test (range_with_len (from + 1) n)) h) i (omega arith)

range_has_none : (test : ℕ → Bool) (from n : ℕ) → ((i : ℕ) → test i ≡ false) → list_any test (range_with_len from n) ≡ false
range_has_none test from zero none = refl
range_has_none test from (suc n) none = rw (none from) (range_has_none test (from + 1) n none)

-- none of the nodes passes
module _ (test : NodeState → Bool) (gone : test absent ≡ false) where
  none_of_nodes : (nodes : List NodeState) → list_any test nodes ≡ false → (i : ℕ) → test (node_at nodes i) ≡ false
  unfolding node_at
  none_of_nodes [] h i = gone
  none_of_nodes (node ∷ nodes) h zero = or_first (test node) (list_any test nodes) h
  none_of_nodes (node ∷ nodes) h (suc i) = none_of_nodes nodes (or_second (test node) (list_any test nodes) h) i

  nodes_have_none : (nodes : List NodeState) → ((i : ℕ) → test (node_at nodes i) ≡ false) → list_any test nodes ≡ false
  unfolding node_at
  nodes_have_none [] none = refl
  nodes_have_none (node ∷ nodes) none = rw (none 0) (nodes_have_none nodes (λ i. none (suc i)))

-- nobody is in the set of those where a test holds
module _ (test : ℕ → Bool) (past : (i : ℕ) → most_nodes ≤ i → test i ≡ false) where
  none_there : those_where test ≡ nobody → (i : ℕ) → test i ≡ false
  none_there e i = elim (cases_lt i most_nodes) [
    | inl below ↦ sym (ap (λ b. b && test i) (lt-ltb i most_nodes below)) ∙ sym (has-those_where test i) ∙ ap (λ (s : Nodes). has s i) e ∙ has_none i
    | inr above ↦ past i above
  ]

  nobody_there : ((i : ℕ) → test i ≡ false) → those_where test ≡ nobody
  nobody_there none = sym (same_as_those_where nobody test (λ i. has_none i ∙ sym (both_false (nat_lt i most_nodes) (test i) (none i))))

module _ (scenario : ScenarioParts) (journal : List Step) (few : scenario.params.nodes ≤ most_nodes) where
  short : length (run scenario journal).nodes ≤ most_nodes
  short = omega (arith, (orderly scenario journal).count, few)

  pub nobody_waits : (frames : List Identity) → (waiting_nodes frames (run scenario journal) ≡ nobody) ↔ (is_awaited frames (run scenario journal) ≡ false)
  unfolding waiting_nodes
  nobody_waits frames =
      let s : RunState = run scenario journal in
      let test : NodeState → Bool = λ node. runs node && list_any (λ x. waits x node.waiting) frames in
      let past : (i : ℕ) → most_nodes ≤ i → is_waiting frames s i ≡ false = λ i above. none_waiting frames s i (omega (arith, above, short)) in (
        λ e. nodes_have_none test refl s.nodes (none_there (is_waiting frames s) past e),
        λ h. nobody_there (is_waiting frames s) past (none_of_nodes test refl s.nodes h),
      )

  pub nobody_waits_with : (sign : FailureSign) → (waiting_nodes (fda_of sign ∷ []) (run scenario journal) ≡ nobody) ↔ (nobody_waits_with_sign (run scenario journal) sign ≡ true)
  nobody_waits_with sign =
      let both = nobody_waits (fda_of sign ∷ []) in
      (λ e. ap not (both.0 e), λ h. both.1 (not_true (is_awaited (fda_of sign ∷ []) (run scenario journal)) h))
    where
      not_true : (b : Bool) → not b ≡ true → b ≡ false
      not_true true h = sym h
      not_true false h = refl

  pub nobody_has_ahead : (m : Message) → (nodes_ahead scenario (run scenario journal) m ≡ nobody) ↔ (is_ahead scenario (run scenario journal) m ≡ false)
  unfolding nodes_ahead
  nobody_has_ahead m =
      let s : RunState = run scenario journal in
      let test : ℕ → Bool = has_ahead scenario s m in
      let past : (i : ℕ) → length s.nodes ≤ i → test i ≡ false = λ i above. none_has_ahead scenario s m i above in
      let above : (i : ℕ) → most_nodes ≤ i → test i ≡ false = λ i h. past i (omega (arith, h, short)) in (
        λ e. range_has_none test 0 scenario.params.nodes (none_there test above e),
        λ h. nobody_there test above (λ i. elim (cases_lt i scenario.params.nodes) [
          | inl below ↦
              let at : 0 + i ≡ i = omega arith in
              ap test (sym at) ∙ none_in_range test 0 scenario.params.nodes h i below
          | inr out ↦ past i (omega (arith, out, (orderly scenario journal).count))
        ]),
      )
