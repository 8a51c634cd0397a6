-- What the views and the scripted asks to join and to leave do in a turn.
use Rattle.std.proofs.Common.{◌≡◌, ℕ, ◌==◌, ◌<◌, inl, inr, Bool, true, List, [], ◌∷◌, length, filter, Option, Some, None, nat_lt, refl, ap, ◌∙◌, arith}
use Rattle.std.specs.List.{AllByRecursion, flat_map}
use Rattle.std.proofs.lemmas.Bool.{and_parts, cond-true, cond_both, eqb-true, lt-ltb, ltb-false}
use Rattle.cany_base.specs.declared.class.Class.{Class}
use Rattle.cany_base.specs.declared.class.Class.TheVariants as class
use Rattle.cany_base.specs.declared.log_entry.LogEntry.TheVariants.{View}
use Rattle.cany_base.specs.declared.message.NodeAsk.{NodeAsk}
use Rattle.cany_base.specs.declared.notice.NoticeKind.{NoticeKind}
use Rattle.cany_base.specs.declared.notice.NoticeKind.TheVariants.{Idle}
use Rattle.cany_base.specs.Nodes.{Nodes, has}
use Rattle.cany_base.specs.Params.{Parameters}
use Rattle.cany_base.specs.Scenario.{ScenarioParts}
use Rattle.cany_model.specs.Bus.Frames.{same_class}
use Rattle.cany_model.specs.Rules.Effect.{Effect, Ask, Withdraw, Enter}
use Rattle.cany_model.specs.Rules.Membership.{ask_effects, asks_in, install_effects, is_ask_in, scripted_asks, views}
use Rattle.cany_model.specs.Rules.KnowledgeOf.{ended_in, met_in, knowledge_of}
use Rattle.cany_model.specs.Rules.Knowledge.{Knowledge, knowledge_at_first}
use Rattle.cany_model.specs.Rules.Vectors.{brought, ended, met}
use Rattle.cany_base.specs.Cycles.{cycle_of, is_end}
use Rattle.cany_model.specs.Rules.Views.{ask_frame, ask_of, join_asked, leave_asked, view_effects, withdrawn_asks}
use Rattle.cany_model.proofs.Among.{Among, Contains-from_Among, Each-append, Each-flat_map, Each-map, Each-weaker}
use Rattle.cany_model.proofs.Rules.IdleBeforeTakingPart.{IsBegun, begun_before}
use Rattle.cany_model.proofs.Rules.Services.NoDelivery.{undelivering_is_lawful}
use Rattle.cany_model.proofs.Rules.ProtocolFacts.{IsAskOf, IsFounded, IsLawful, IsScripted, answered, requests}
use Rattle.cany_model.proofs.Rules.Site.KnowledgeFacts.{begun_knowledge}
use Rattle.cany_model.proofs.Rules.Site.KnowledgeSteps.{members_after, members_by}

-- ---- lists

each_stands : {X : Type 0} (xs : List X) → AllByRecursion (λ x. Among (λ y. y ≡ x) xs) xs
each_stands [] = tt
each_stands (x ∷ xs) =
    (inl refl, Each-weaker (λ y. Among (λ z. z ≡ y) xs) (λ y. Among (λ z. z ≡ y) (x ∷ xs)) (λ y h. inr h) xs (each_stands xs))

-- each that is kept has passed the test
each_kept : {X : Type 0} (P : X → Type 0) (p : X → Bool) (xs : List X) → AllByRecursion P xs
    → AllByRecursion (λ x. (p x ≡ true) × P x) (filter p xs)
each_kept P p [] h = tt
each_kept P p (x ∷ xs) h =
    cond_both (p x) (x ∷ filter p xs) (filter p xs) (AllByRecursion (λ y. (p y ≡ true) × P y)) (λ is. ((is, h.0), each_kept P p xs h.1))
    (λ _. each_kept P p xs h.1)

-- ---- the members after a turn

-- the vector that ends a cycle becomes the view
pub installed_members : (scenario : ScenarioParts) (i : ℕ) (e : NoticeKind) (past : List NoticeKind) (v : Nodes)
    → ended_in scenario.params (length past) e (knowledge_of scenario i past) ≡ Some v → (knowledge_of scenario i (e ∷ past)).members ≡ v
unfolding knowledge_of
installed_members scenario i e past v is =
    let st : Knowledge = knowledge_of scenario i past in
    members_after scenario.params i (length past) e st ∙ ap (λ w. members_by w st.members) is

-- ---- views

names_join : (views.names class.Join ≡ true) × (scripted_asks.names class.Join ≡ true)
unfolding same_class
names_join = (refl, refl)

names_leave : (views.names class.Leave ≡ true) × (scripted_asks.names class.Leave ≡ true)
unfolding same_class
names_leave = (refl, refl)

-- an end comes only at the end of a cycle
ended_ends : (p : Parameters) (slot : ℕ) (m : Option Nodes) (v : Nodes) → ended p slot m ≡ Some v → is_end p slot ≡ true
ended_ends p slot m v h = cond_both (is_end p slot) m None (λ o. o ≡ Some v → is_end p slot ≡ true) (λ yes _. yes) (λ no some. cc) h

withdrawals_founded : (scenario : ScenarioParts) (i : ℕ) (e : NoticeKind) (past : List NoticeKind) (c : Class) (asks : List NodeAsk)
    → is_end scenario.params (length past) ≡ true → views.names c ≡ true
    → ((ask : NodeAsk) → Among (λ a. a ≡ ask) asks → IsAskOf scenario c ask)
    → AllByRecursion (IsFounded scenario views i (e ∷ past)) (withdrawn_asks c scenario.params i asks)
withdrawals_founded scenario i e past c asks ends named is =
    let own : NodeAsk → Bool = λ ask. ask.node == i in
    let gone : NodeAsk → Effect = λ ask. Withdraw (ask_of c (cycle_of scenario.params ask.slot) i) in
    let P : NodeAsk → Type 0 = λ ask. Among (λ a. a ≡ ask) asks in
    Each-map gone (IsFounded scenario views i (e ∷ past)) (filter own asks)
    (Each-weaker (λ ask. (own ask ≡ true) × P ask) (λ ask. IsFounded scenario views i (e ∷ past) (gone ask))
    (λ ask k. (answered (length past) c ask refl ends (is ask k.1) (eqb-true ask.node i k.0) refl, named)) (filter own asks)
    (each_kept P own asks (each_stands asks)))

view_founded : (scenario : ScenarioParts) (i : ℕ) (e : NoticeKind) (past : List NoticeKind) (o : Option Nodes)
    → ended_in scenario.params (length past) e (knowledge_of scenario i past) ≡ o
    → AllByRecursion (IsFounded scenario views i (e ∷ past)) (view_effects scenario.params scenario.joins scenario.leaves i (length past) o)
unfolding view_effects
view_founded scenario i e past None is = tt
view_founded scenario i e past (Some v) is =
    let p : Parameters = scenario.params in
    let slot : ℕ = length past in
    let ends = ended_ends p slot (met_in p slot e (knowledge_of scenario i past)) v is in
    let joined : List Effect = withdrawn_asks class.Join p i scenario.joins in
    let left : List Effect = withdrawn_asks class.Leave p i scenario.leaves in
    cond_both (has v i) (Enter (View slot (cycle_of p slot) v) ∷ joined) left (AllByRecursion (IsFounded scenario views i (e ∷ past)))
    (λ member. (
      record { now = refl; number = refl; ends = ends; members = installed_members scenario i e past v is; member = member },
      withdrawals_founded scenario i e past class.Join scenario.joins ends names_join.0
          (λ ask stands. inl (refl, Contains-from_Among scenario.joins ask stands)),
    ))
    (λ _. withdrawals_founded scenario i e past class.Leave scenario.leaves ends names_leave.0
    (λ ask stands. inr (refl, Contains-from_Among scenario.leaves ask stands)))

views_founded : (scenario : ScenarioParts) (i : ℕ) (past : List NoticeKind)
    → AllByRecursion (IsFounded scenario views i past) (install_effects scenario i past)
unfolding install_effects
views_founded scenario i [] = tt
views_founded scenario i (e ∷ past) =
    view_founded scenario i e past (ended_in scenario.params (length past) e (knowledge_of scenario i past)) refl

-- a node that has no vector comes to no view at an idle notice
idle_view : (scenario : ScenarioParts) (i : ℕ) (past : List NoticeKind)
    → view_effects scenario.params scenario.joins scenario.leaves i (length past)
    (ended_in scenario.params (length past) Idle (knowledge_at_first scenario.members)) ≡ []
unfolding view_effects brought met
idle_view scenario i past =
    cond_both (is_end scenario.params (length past)) None None
    (λ o. view_effects scenario.params scenario.joins scenario.leaves i (length past) o ≡ []) (λ _. refl) (λ _. refl)

views_muted : (scenario : ScenarioParts) (i : ℕ) (e : NoticeKind) (past : List NoticeKind) → IsBegun scenario (e ∷ past) → install_effects scenario i (e ∷ past) ≡ []
unfolding install_effects
views_muted scenario i e past begun =
    ap (λ n. install_effects scenario i (n ∷ past)) begun.idle.0
    ∙ ap (λ st. view_effects scenario.params scenario.joins scenario.leaves i (length past)
    (ended_in scenario.params (length past) Idle st))
    (begun_knowledge scenario i past (begun_before scenario e past begun))
    ∙ idle_view scenario i past

pub views_are_lawful : IsLawful views
unfolding install_effects
views_are_lawful = undelivering_is_lawful views (λ by. refl) (λ scenario m i past. refl) (λ scenario i. refl) views_muted views_founded

-- ---- scripted asks

-- those that are made in a slot
asks_stand : (scenario : ScenarioParts) (i : ℕ) (e : NoticeKind) (past : List NoticeKind) (asks : List NodeAsk)
    → AllByRecursion (λ ask. IsScripted scenario asks i (e ∷ past) (length past)) (asks_in scenario i (length past) asks)
asks_stand scenario i e past asks =
    let slot : ℕ = length past in
    let P : NodeAsk → Type 0 = λ ask. Among (λ a. a ≡ ask) asks in
    let R : NodeAsk → Type 0 = λ ask. IsScripted scenario asks i (e ∷ past) slot in
    cond_both (nat_lt slot scenario.from) [] (filter (is_ask_in i slot) asks) (AllByRecursion R) (λ _. tt)
    (λ late. Each-weaker (λ ask. (is_ask_in i slot ask ≡ true) × P ask) R
    (λ ask k.
    let parts = and_parts (ask.node == i) (ask.slot == slot) k.0 in
    record {
      ask = ask;
      stands = Contains-from_Among asks ask k.1;
      asker = eqb-true ask.node i parts.0;
      asked_in = eqb-true ask.slot slot parts.1;
      now = refl;
      late = ltb-false slot scenario.from late;
    })
    (filter (is_ask_in i slot) asks) (each_kept P (is_ask_in i slot) asks (each_stands asks)))

joins_founded : (scenario : ScenarioParts) (i : ℕ) (e : NoticeKind) (past : List NoticeKind)
    → IsScripted scenario scenario.joins i (e ∷ past) (length past)
    → AllByRecursion (IsFounded scenario scripted_asks i (e ∷ past))
    (join_asked scenario.params scenario.inc i (length past) (knowledge_of scenario i (e ∷ past)).members)
joins_founded scenario i e past scripted =
    cond_both (has (knowledge_of scenario i (e ∷ past)).members i) []
    (Ask (ask_frame class.Join scenario.inc (cycle_of scenario.params (length past)) i) ∷ [])
    (AllByRecursion (IsFounded scenario scripted_asks i (e ∷ past))) (λ _. tt)
    (λ outside. ((requests (length past) class.Join (inl (refl, scripted, outside)) refl, names_join.1), tt))

leaves_founded : (scenario : ScenarioParts) (i : ℕ) (e : NoticeKind) (past : List NoticeKind)
    → IsScripted scenario scenario.leaves i (e ∷ past) (length past)
    → AllByRecursion (IsFounded scenario scripted_asks i (e ∷ past))
    (leave_asked scenario.params scenario.inc i (length past) (knowledge_of scenario i (e ∷ past)).members)
leaves_founded scenario i e past scripted =
    cond_both (has (knowledge_of scenario i (e ∷ past)).members i)
    (Ask (ask_frame class.Leave scenario.inc (cycle_of scenario.params (length past)) i) ∷ []) []
    (AllByRecursion (IsFounded scenario scripted_asks i (e ∷ past)))
    (λ member. ((requests (length past) class.Leave (inr (refl, scripted, member)) refl, names_leave.1), tt)) (λ _. tt)

asks_founded : (scenario : ScenarioParts) (i : ℕ) (past : List NoticeKind)
    → AllByRecursion (IsFounded scenario scripted_asks i past) (ask_effects scenario i past)
unfolding ask_effects
asks_founded scenario i [] = tt
asks_founded scenario i (e ∷ past) =
    let p : Parameters = scenario.params in
    let slot : ℕ = length past in
    let members : Nodes = (knowledge_of scenario i (e ∷ past)).members in
    let P : Effect → Type 0 = IsFounded scenario scripted_asks i (e ∷ past) in
    let join : NodeAsk → List Effect = λ ask. join_asked p scenario.inc i slot members in
    let leave : NodeAsk → List Effect = λ ask. leave_asked p scenario.inc i slot members in
    let joins : List NodeAsk = asks_in scenario i slot scenario.joins in
    let leaves : List NodeAsk = asks_in scenario i slot scenario.leaves in
    Each-append P (flat_map join joins) (flat_map leave leaves)
    (Each-flat_map join P joins
    (Each-weaker (λ ask. IsScripted scenario scenario.joins i (e ∷ past) slot) (λ ask. AllByRecursion P (join ask))
    (λ ask scripted. joins_founded scenario i e past scripted) joins (asks_stand scenario i e past scenario.joins)))
    (Each-flat_map leave P leaves
    (Each-weaker (λ ask. IsScripted scenario scenario.leaves i (e ∷ past) slot) (λ ask. AllByRecursion P (leave ask))
    (λ ask scripted. leaves_founded scenario i e past scripted) leaves (asks_stand scenario i e past scenario.leaves)))

-- none is made before the first slot of which one may be
none_in : (scenario : ScenarioParts) (i slot : ℕ) (asks : List NodeAsk) → slot < scenario.from → asks_in scenario i slot asks ≡ []
none_in scenario i slot asks early =
    cond-true (nat_lt slot scenario.from) [] (filter (is_ask_in i slot) asks) (lt-ltb slot scenario.from early)

asks_muted : (scenario : ScenarioParts) (i : ℕ) (e : NoticeKind) (past : List NoticeKind) → IsBegun scenario (e ∷ past) → ask_effects scenario i (e ∷ past) ≡ []
unfolding ask_effects
asks_muted scenario i e past begun =
    let early : length past < scenario.from = omega (arith, begun.early) in
    rw (none_in scenario i (length past) scenario.joins early, none_in scenario i (length past) scenario.leaves early) refl

pub asks_are_lawful : IsLawful scripted_asks
unfolding ask_effects
asks_are_lawful = undelivering_is_lawful scripted_asks (λ by. refl) (λ scenario m i past. refl) (λ scenario i. refl) asks_muted asks_founded
