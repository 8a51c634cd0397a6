-- What a node knows of members, of those that ask to join and of its vector names nodes of the bus
-- alone.
use Rattle.std.proofs.Common.{◌≡◌, ℕ, ◌==◌, true, nat_lt, if◌then◌else◌, List, [], ◌∷◌, length, Option, Some, None, refl, sym, ◌∙◌, subst}
use Rattle.std.proofs.lemmas.Bool.{cond_both, ltb-true}
use Rattle.cany_base.specs.declared.class.Class.TheVariants as class
use Rattle.cany_base.specs.declared.notice.NoticeKind.{NoticeKind}
use Rattle.cany_base.specs.declared.notice.NoticeKind.TheVariants.{Idle, Got, Sent, Bad}
use Rattle.cany_base.specs.Nodes.{Nodes, AllBelow, nobody, has, minus, with_node}
use Rattle.cany_base.specs.Params.{Parameters}
use Rattle.cany_base.specs.Scenario.{ScenarioParts}
use Rattle.cany_base.proofs.SetFacts.{below_meet, below_minus, below_nobody, below_plus, below_with, has_where}
use Rattle.cany_model.specs.Bus.Frames.{same_class}
use Rattle.cany_model.specs.Bus.State.{Incarnation}
use Rattle.cany_model.specs.Rules.Notices.{BelongsTo, IsReadable, NamesNode}
use Rattle.cany_model.specs.Rules.KnowledgeOf.{after_notice, ended_in, after_asking, after_installing, met_in, start_in, knowledge_of}
use Rattle.cany_model.specs.Rules.Knowledge.{Knowledge, after_finding}
use Rattle.cany_model.specs.Rules.Turn.{scenario_for}
use Rattle.cany_model.specs.Rules.Vectors.{brought, everybody, met}
use Rattle.cany_base.specs.Cycles.{is_end, is_start}
use Rattle.cany_model.specs.Rules.Views.{after_ask, start_of, start_vector, with_joiner, with_leaver}
use Rattle.cany_model.proofs.Bus.Identities.{same_class-true}
use Rattle.cany_model.proofs.Rules.Site.SignRooms.{AreRead}
use Rattle.cany_model.proofs.Rules.Site.KnowledgeSteps.{found_keeps, joiners_after, joiners_by, life_keeps, members_after, members_by, start_keeps, vector_after}

-- ---- sets

pub everybody_below : (p : Parameters) → AllBelow p.nodes (everybody p)
everybody_below p r h = ltb-true r p.nodes (has_where (λ q. nat_lt q p.nodes) r h)

-- the first members of an incarnation are nodes of the bus, where those of the scenario are
pub first_members : (scenario : ScenarioParts) (inc : Incarnation) → AllBelow scenario.params.nodes scenario.members
    → AllBelow scenario.params.nodes (scenario_for scenario inc).members
first_members scenario inc below =
    cond_both (inc.number == 0) scenario.members nobody (AllBelow scenario.params.nodes) (λ _. below) (λ _. below_nobody scenario.params.nodes)

-- ---- a vector

abbrev pub IsVectorOfBus : Parameters → Option Nodes → Type 0
IsVectorOfBus p None = Unit {0}
IsVectorOfBus p (Some v) = AllBelow p.nodes v

met_below : (p : Parameters) (old o : Option Nodes) → IsVectorOfBus p old → IsVectorOfBus p (met p old o)
unfolding met
met_below p old None below = below
met_below p None (Some w) below = below_meet p.nodes (everybody p) w (everybody_below p)
met_below p (Some v) (Some w) below = below_meet p.nodes v w below

-- ---- what a node knows

pub record IsOfBus (p : Parameters) (knowledge : Knowledge) : Type 0 where
  pub members : AllBelow p.nodes knowledge.members
  pub joiners : AllBelow p.nodes knowledge.joiners
  pub vector : IsVectorOfBus p knowledge.vector

module _ (scenario : ScenarioParts) (i slot : ℕ) (e : NoticeKind) (st : Knowledge) (readable : IsReadable scenario slot e)
    (before : IsOfBus scenario.params st)
  where
    abbrev p : Parameters
    p = scenario.params

    ended_below : IsVectorOfBus p (ended_in p slot e st)
    ended_below =
        cond_both (is_end p slot) (met_in p slot e st) None (IsVectorOfBus p)
        (λ _. met_below p st.vector (brought p slot e) before.vector) (λ _. tt)

    members_below : AllBelow p.nodes (after_notice p i slot e st).members
    members_below =
        subst (AllBelow p.nodes) (sym (members_after p i slot e st)) (by_view (ended_in p slot e st) ended_below)
      where
        by_view : (o : Option Nodes) → IsVectorOfBus p o → AllBelow p.nodes (members_by o st.members)
        by_view None below = before.members
        by_view (Some v) below = below

    -- a node that asks to join is one of the bus
    heard_below : (knowledge : Knowledge) → AllBelow p.nodes knowledge.joiners → (notice : NoticeKind) → IsReadable scenario slot notice
        → AllBelow p.nodes (after_ask notice knowledge).joiners
    unfolding after_ask
    heard_below knowledge below Idle names = below
    heard_below knowledge below Bad names = below
    heard_below knowledge below (Sent f) names =
        cond_both (same_class f.class class.Leave) (with_leaver f.node knowledge) knowledge (λ s. AllBelow p.nodes s.joiners)
        (λ _. leaver_below f.node) (λ _. below)
      where
        leaver_below : (r : ℕ) → AllBelow p.nodes (with_leaver r knowledge).joiners
        leaver_below r =
            cond_both (has knowledge.members r) (record knowledge { leavers = with_node r knowledge.leavers }) knowledge
            (λ s. AllBelow p.nodes s.joiners) (λ _. below) (λ _. below)
    heard_below knowledge below (Got f) names =
        cond_both (same_class f.class class.Join) (with_joiner f.node knowledge)
        (if same_class f.class class.Leave then with_leaver f.node knowledge else knowledge)
        (λ s. AllBelow p.nodes s.joiners) joins
        (λ _. cond_both (same_class f.class class.Leave) (with_leaver f.node knowledge) knowledge (λ s. AllBelow p.nodes s.joiners)
        (λ _. cond_both (has knowledge.members f.node) (record knowledge { leavers = with_node f.node knowledge.leavers }) knowledge
        (λ s. AllBelow p.nodes s.joiners) (λ _. below) (λ _. below)) (λ _. below))
      where
        joins : same_class f.class class.Join ≡ true → AllBelow p.nodes (with_joiner f.node knowledge).joiners
        joins is =
            let named : NamesNode scenario p.cycle slot f =
            subst (λ c. BelongsTo scenario slot c f) (same_class-true f.class class.Join is) names in
            cond_both (has knowledge.members f.node) knowledge (record knowledge { joiners = with_node f.node knowledge.joiners })
            (λ s. AllBelow p.nodes s.joiners)
            (λ _. below) (λ _. below_with p.nodes f.node knowledge.joiners named.node below)

    asked_below : AllBelow p.nodes (after_asking p i slot e st).joiners
    asked_below =
        heard_below (after_finding p i slot e st)
        (subst (AllBelow p.nodes)
        (sym (found_keeps Nodes (λ s. s.joiners) (λ sign s. refl) p i slot e st
        ∙ life_keeps Nodes (λ s. s.joiners) (record { shown = λ f s. refl; last = λ n s. refl }) i slot e st)) before.joiners) e readable

    joiners_below : AllBelow p.nodes (after_notice p i slot e st).joiners
    joiners_below =
        subst (AllBelow p.nodes) (sym (joiners_after p i slot e st)) (by_view (ended_in p slot e st))
      where
        by_view : (o : Option Nodes) → AllBelow p.nodes (joiners_by o (after_asking p i slot e st).joiners)
        by_view None = asked_below
        by_view (Some v) = below_minus p.nodes (after_asking p i slot e st).joiners v asked_below

    start_below : IsVectorOfBus p (start_in p i slot e st)
    unfolding after_notice
    start_below =
        let now : Knowledge = after_installing p i slot e st in
        let members : AllBelow p.nodes now.members =
        subst (AllBelow p.nodes) (start_keeps Nodes (λ s. s.members) (λ v s. refl) p i slot e st) members_below in
        let joiners : AllBelow p.nodes now.joiners =
        subst (AllBelow p.nodes) (start_keeps Nodes (λ s. s.joiners) (λ v s. refl) p i slot e st) joiners_below in
        let stays : Nodes = minus now.members now.failed in
        let left : Nodes = minus stays now.leavers in
        let left_below : AllBelow p.nodes left =
        below_minus p.nodes stays now.leavers (below_minus p.nodes now.members now.failed members) in
        cond_both (is_start p slot) (start_of i now) None (IsVectorOfBus p)
        (λ _. cond_both (has now.members i) (Some (start_vector now)) None (IsVectorOfBus p)
        (λ _. below_plus p.nodes left now.joiners left_below joiners)
        (λ _. tt))
        (λ _. tt)

    vector_below : IsVectorOfBus p (after_notice p i slot e st).vector
    vector_below =
        subst (IsVectorOfBus p) (sym (vector_after p i slot e st))
        (cond_both (is_start p slot) (start_in p i slot e st) (if is_end p slot then None else met p st.vector (brought p slot e))
        (IsVectorOfBus p) (λ _. start_below)
        (λ _. cond_both (is_end p slot) None (met p st.vector (brought p slot e)) (IsVectorOfBus p) (λ _. tt)
        (λ _. met_below p st.vector (brought p slot e) before.vector)))

    of_bus_after : IsOfBus p (after_notice p i slot e st)
    of_bus_after = record { members = members_below; joiners = joiners_below; vector = vector_below }

-- what it knows after it has read these, where the first members are nodes of the bus
pub knowledge_of_bus : (scenario : ScenarioParts) (i : ℕ) → AllBelow scenario.params.nodes scenario.members → (past : List NoticeKind)
    → AreRead scenario past
    → IsOfBus scenario.params (knowledge_of scenario i past)
unfolding knowledge_of
knowledge_of_bus scenario i first [] read =
    record { members = first; joiners = below_nobody scenario.params.nodes; vector = tt }
knowledge_of_bus scenario i first (e ∷ past) read =
    of_bus_after scenario i (length past) e (knowledge_of scenario i past) read.0 (knowledge_of_bus scenario i first past read.1)
