-- Each frame that waits at a running node, and whose class tells an incarnation, tells the number
-- of the node's own.
use Rattle.std.proofs.Common.{◌≡◌, ℕ, ◌==◌, true, List, refl, ap, sym, ◌∙◌}
use Rattle.std.specs.List.{AllByRecursion}
use Rattle.std.proofs.lemmas.Bool.{cond_both, eqb-true}
use Rattle.cany_base.specs.declared.class.Class.{Class}
use Rattle.cany_base.specs.declared.class.Class.TheVariants as class
use Rattle.cany_base.specs.declared.message.Service.{Service}
use Rattle.cany_base.specs.declared.message.Service.TheVariants.{Ed, Rel, Tot}
use Rattle.cany_base.specs.declared.notice.NoticeKind.{NoticeKind}
use Rattle.cany_base.specs.declared.step.Step.{Step}
use Rattle.cany_base.specs.Frame.{FrameParts, data_class, has_incarnation}
use Rattle.cany_base.specs.Scenario.{ScenarioParts}
use Rattle.cany_model.specs.Runs.Run.{run}
use Rattle.cany_model.specs.Bus.State.{Incarnation, node_at, runs}
use Rattle.cany_model.specs.Rules.Turn.{scenario_for}
use Rattle.cany_model.proofs.Promises.EachNode.{each_running, waiting_has}
use Rattle.cany_model.proofs.Rules.ProtocolFacts.{MayAsk, accepts, confirms, exchanges, is_relayed, lives, originates, relays, requests, signals}

-- the frame tells this incarnation, if its class tells one
abbrev pub TellsIncarnation : Incarnation → FrameParts → Type 0
TellsIncarnation inc f = has_incarnation f.class ≡ true → f.inc ≡ inc.number

-- the incarnation follows the scenario with its own number
number_told : (scenario : ScenarioParts) (inc : Incarnation) → scenario.inc ≡ 0 → (scenario_for scenario inc).inc ≡ inc.number
number_told scenario inc first =
    cond_both (inc.number == 0) scenario.inc inc.number (λ n. n ≡ inc.number) (λ zero. first ∙ sym (eqb-true inc.number 0 zero)) (λ _. refl)

relayed_tells_none : (c : Class) → is_relayed c ≡ true → has_incarnation c ≡ true → ⊥
relayed_tells_none class.Accept r t = cc
relayed_tells_none class.Rha r t = cc
relayed_tells_none class.Els r t = cc
relayed_tells_none class.Fda r t = cc
relayed_tells_none class.Join r t = cc
relayed_tells_none class.Leave r t = cc
relayed_tells_none class.Confirm r t = cc
relayed_tells_none class.Tot r t = cc
relayed_tells_none class.Rel r t = cc
relayed_tells_none class.Ed r t = cc

data_tells_none : (by : Service) → has_incarnation (data_class by) ≡ true → ⊥
data_tells_none Ed t = cc
data_tells_none Rel t = cc
data_tells_none Tot t = cc

asks_tell : (scenario : ScenarioParts) → scenario.inc ≡ 0 → (inc : Incarnation) (i : ℕ) (past : List NoticeKind) (f : FrameParts)
    → MayAsk (scenario_for scenario inc) i past f → TellsIncarnation inc f
asks_tell scenario first inc i past f may tells = by_reason may
  where
    -- a frame that is of no such class
    tells_not : (g : FrameParts) → g ≡ f → (has_incarnation g.class ≡ true → ⊥) → f.inc ≡ inc.number
    tells_not g frame none = absurd (none (ap (λ (h : FrameParts). has_incarnation h.class) frame ∙ tells))

    of_scenario : (g : FrameParts) → g ≡ f → g.inc ≡ (scenario_for scenario inc).inc → f.inc ≡ inc.number
    of_scenario g frame own = sym (ap (λ (h : FrameParts). h.inc) frame) ∙ own ∙ number_told scenario inc first

    by_reason : MayAsk (scenario_for scenario inc) i past f → f.inc ≡ inc.number
    by_reason (relays relayed got) = absurd (relayed_tells_none f.class relayed tells)
    by_reason (originates m is origin slot late frame) = tells_not _ frame (data_tells_none m.service)
    by_reason (confirms g sent rel own frame) = tells_not _ frame (λ t. cc)
    by_reason (accepts g sent tot own frame) = tells_not _ frame (λ t. cc)
    by_reason (signals sign slot now known frame) = tells_not _ frame (λ t. cc)
    by_reason (lives slot now due frame) = of_scenario _ frame refl
    by_reason (exchanges slot v sends frame) = of_scenario _ frame refl
    by_reason (requests slot c request frame) = of_scenario _ frame refl

-- ---- every run

pub tells_incarnation : (scenario : ScenarioParts) → scenario.inc ≡ 0 → (journal : List Step) (i : ℕ)
    → runs (node_at (run scenario journal).nodes i) ≡ true
    → AllByRecursion (TellsIncarnation (node_at (run scenario journal).nodes i).present) (node_at (run scenario journal).nodes i).waiting
tells_incarnation scenario first journal i running =
    each_running scenario _ (waiting_has scenario (λ inc i f. TellsIncarnation inc f) (asks_tell scenario first)) journal i running
