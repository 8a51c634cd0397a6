-- What membership enters in a turn: vectors and scripted asks nothing, and the end of a cycle a
-- view alone.
use Rattle.std.proofs.Common.{◌≡◌, ℕ, ◌==◌, if◌then◌else◌, List, [], ◌∷◌, ◌++◌, filter, length, Option, Some, None, refl}
use Rattle.std.specs.List.{AllByRecursion, flat_map}
use Rattle.std.proofs.lemmas.Bool.{cond_both}
use Rattle.cany_base.specs.declared.class.Class.{Class}
use Rattle.cany_base.specs.declared.class.Class.TheVariants as class
use Rattle.cany_base.specs.declared.log_entry.LogEntry.{LogEntry}
use Rattle.cany_base.specs.declared.log_entry.LogEntry.TheVariants.{Deliver, Failed, View}
use Rattle.cany_base.specs.declared.message.NodeAsk.{NodeAsk}
use Rattle.cany_base.specs.declared.notice.NoticeKind.{NoticeKind}
use Rattle.cany_base.specs.Nodes.{Nodes, has}
use Rattle.cany_base.specs.Params.{Parameters}
use Rattle.cany_base.specs.Scenario.{ScenarioParts}
use Rattle.cany_model.specs.Rules.Effect.{Effect, Ask, Withdraw, Enter, entered}
use Rattle.cany_model.specs.Rules.Membership.{ask_effects, asks_in, exchange_effects, install_effects, scripted_asks, vectors, views}
use Rattle.cany_model.specs.Rules.KnowledgeOf.{ended_in, start_in, knowledge_of}
use Rattle.cany_model.specs.Rules.Vectors.{brought, end_effects, ended, exchange_at, is_covered, is_new, met, met_with, rha_frame, rha_of, start_effects, vector_effects}
use Rattle.cany_base.specs.Cycles.{cycle_of, is_start}
use Rattle.cany_model.specs.Rules.Views.{ask_frame, ask_of, join_asked, leave_asked, view_effects, withdrawn_asks}
use Rattle.cany_model.proofs.Among.{Each-append, Each-flat_map, Each-map}
use Rattle.cany_model.proofs.Rules.Services.DeliveryFacts.{EntersNone, entered-none}

pub each : {X : Type 0} (P : X → Type 0) → ((x : X) → P x) → (xs : List X) → AllByRecursion P xs
each P all [] = tt
each P all (x ∷ xs) = (all x, each P all xs)

-- ---- vectors

vector_enters : (p : Parameters) (inc i slot : ℕ) (past : List NoticeKind) (old w : Option Nodes)
    → AllByRecursion EntersNone (vector_effects p inc i slot past old w)
unfolding vector_effects
vector_enters p inc i slot past old None = tt
vector_enters p inc i slot past old (Some w) =
    let v : Nodes = met_with p old w in
    let asks : List Effect = if is_new old v then Ask (rha_frame p.format inc (cycle_of p slot) i v) ∷ [] else [] in
    cond_both (is_covered p (cycle_of p slot) i v past) (Withdraw (rha_of (cycle_of p slot) i) ∷ []) asks (AllByRecursion EntersNone)
    (λ _. (tt, tt))
    (λ _. cond_both (is_new old v) (Ask (rha_frame p.format inc (cycle_of p slot) i v) ∷ []) [] (AllByRecursion EntersNone)
    (λ _. (tt, tt)) (λ _. tt))

end_enters : (p : Parameters) (i slot : ℕ) (w : Option Nodes) → AllByRecursion EntersNone (end_effects p i slot w)
unfolding end_effects
end_enters p i slot None = tt
end_enters p i slot (Some v) = (tt, tt)

start_enters : (p : Parameters) (inc i slot : ℕ) (w : Option Nodes) → AllByRecursion EntersNone (start_effects p inc i slot w)
unfolding start_effects
start_enters p inc i slot None = tt
start_enters p inc i slot (Some v) =
    cond_both (is_start p slot) (Ask (rha_frame p.format inc (cycle_of p slot) i v) ∷ []) [] (AllByRecursion EntersNone) (λ _. (tt, tt)) (λ _. tt)

exchange_enters : (p : Parameters) (inc i : ℕ) (e : NoticeKind) (past : List NoticeKind) (old start : Option Nodes)
    → AllByRecursion EntersNone (exchange_at p inc i e past old start)
unfolding exchange_at
exchange_enters p inc i e past old start =
    let slot : ℕ = length past in
    let exchanged : List Effect = vector_effects p inc i slot (e ∷ past) old (brought p slot e) in
    let gone : List Effect = end_effects p i slot (ended p slot (met p old (brought p slot e))) in
    Each-append EntersNone (exchanged ++ gone) (start_effects p inc i slot start)
    (Each-append EntersNone exchanged gone (vector_enters p inc i slot (e ∷ past) old (brought p slot e))
    (end_enters p i slot (ended p slot (met p old (brought p slot e)))))
    (start_enters p inc i slot start)

pub vectors_enter_none : (scenario : ScenarioParts) (i : ℕ) (past : List NoticeKind) → entered (vectors.effects scenario i past) ≡ []
unfolding exchange_effects entered
vectors_enter_none scenario i [] = refl
vectors_enter_none scenario i (e ∷ past) =
    let old : Option Nodes = (knowledge_of scenario i past).vector in
    let start : Option Nodes = start_in scenario.params i (length past) e (knowledge_of scenario i past) in
    entered-none (exchange_at scenario.params scenario.inc i e past old start) (exchange_enters scenario.params scenario.inc i e past old start)

-- ---- scripted asks

join_enters : (p : Parameters) (inc i slot : ℕ) (members : Nodes) → AllByRecursion EntersNone (join_asked p inc i slot members)
join_enters p inc i slot members =
    cond_both (has members i) [] (Ask (ask_frame class.Join inc (cycle_of p slot) i) ∷ []) (AllByRecursion EntersNone) (λ _. tt) (λ _. (tt, tt))

leave_enters : (p : Parameters) (inc i slot : ℕ) (members : Nodes) → AllByRecursion EntersNone (leave_asked p inc i slot members)
leave_enters p inc i slot members =
    cond_both (has members i) (Ask (ask_frame class.Leave inc (cycle_of p slot) i) ∷ []) [] (AllByRecursion EntersNone) (λ _. (tt, tt)) (λ _. tt)

pub asks_enter_none : (scenario : ScenarioParts) (i : ℕ) (past : List NoticeKind) → entered (scripted_asks.effects scenario i past) ≡ []
unfolding ask_effects entered
asks_enter_none scenario i [] = refl
asks_enter_none scenario i (e ∷ past) =
    let p : Parameters = scenario.params in
    let members : Nodes = (knowledge_of scenario i (e ∷ past)).members in
    let joins : NodeAsk → List Effect = λ ask. join_asked p scenario.inc i (length past) members in
    let leaves : NodeAsk → List Effect = λ ask. leave_asked p scenario.inc i (length past) members in
    let joining : List NodeAsk = asks_in scenario i (length past) scenario.joins in
    let leaving : List NodeAsk = asks_in scenario i (length past) scenario.leaves in
    entered-none (flat_map joins joining ++ flat_map leaves leaving)
    (Each-append EntersNone (flat_map joins joining) (flat_map leaves leaving)
    (Each-flat_map joins EntersNone joining
    (each (λ ask. AllByRecursion EntersNone (joins ask)) (λ ask. join_enters p scenario.inc i (length past) members) joining))
    (Each-flat_map leaves EntersNone leaving
    (each (λ ask. AllByRecursion EntersNone (leaves ask)) (λ ask. leave_enters p scenario.inc i (length past) members) leaving)))

-- ---- views

abbrev pub IsOfView : LogEntry → Type 0
IsOfView (Deliver slot by msg payload) = ⊥
IsOfView (Failed slot node cycle) = ⊥
IsOfView (View slot number members) = Unit {0}

pub withdrawn_enter : (class : Class) (p : Parameters) (i : ℕ) (asks : List NodeAsk) → entered (withdrawn_asks class p i asks) ≡ []
withdrawn_enter class p i asks =
    let own : List NodeAsk = filter (λ ask. ask.node == i) asks in
    entered-none (withdrawn_asks class p i asks)
    (Each-map (λ ask. Withdraw (ask_of class (cycle_of p ask.slot) i)) EntersNone own
    (each (λ ask. EntersNone (Withdraw (ask_of class (cycle_of p ask.slot) i))) (λ ask. tt) own))

view_enters : (p : Parameters) (joins leaves : List NodeAsk) (i slot : ℕ) (w : Option Nodes)
    → AllByRecursion IsOfView (entered (view_effects p joins leaves i slot w))
unfolding view_effects entered
view_enters p joins leaves i slot None = tt
view_enters p joins leaves i slot (Some v) =
    cond_both (has v i) (Enter (View slot (cycle_of p slot) v) ∷ withdrawn_asks class.Join p i joins) (withdrawn_asks class.Leave p i leaves)
    (λ effects. AllByRecursion IsOfView (entered effects))
    (λ _. (tt, rw (withdrawn_enter class.Join p i joins) tt)) (λ _. rw (withdrawn_enter class.Leave p i leaves) tt)

pub views_enter : (scenario : ScenarioParts) (i : ℕ) (past : List NoticeKind) → AllByRecursion IsOfView (entered (views.effects scenario i past))
unfolding install_effects entered
views_enter scenario i [] = tt
views_enter scenario i (e ∷ past) =
    view_enters scenario.params scenario.joins scenario.leaves i (length past)
    (ended_in scenario.params (length past) e (knowledge_of scenario i past))
