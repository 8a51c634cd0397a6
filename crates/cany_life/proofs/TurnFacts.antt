-- A turn, step by step: the value hears, learns, and finds.
use Rattle.std.proofs.Common.{◌≡◌, ℕ, ◌<◌, ◌≤◌, ◌/◌, ◌==◌, ◌&&◌, List, [], ◌∷◌, ◌++◌, length, refl, ap, subst, sym, ◌∙◌, arith}
use Rattle.std.specs.List.{flat_map}
use Rattle.std.proofs.lemmas.Bool.{cond_both}
use Rattle.cany_base.specs.declared.actions.Action.{Action}
use Rattle.cany_base.specs.declared.notice.Notice.{Notice}
use Rattle.cany_base.specs.declared.notice.NoticeKind.{NoticeKind}
use Rattle.cany_base.specs.declared.notice.NoticeKind.TheVariants.{Idle, Got, Sent, Bad}
use Rattle.cany_base.specs.Limits.{most_nodes, most_numbers, most_slots}
use Rattle.cany_base.specs.Nodes.{Nodes}
use Rattle.cany_base.specs.Scenario.{ScenarioParts}
use Rattle.cany_base.proofs.ParamsFacts.{few_nodes, few_slots}
use Rattle.cany_message.proofs.DeliveryFacts.{both_actions}
use Rattle.cany_model.specs.Rules.Actions.{actions_of}
use Rattle.cany_model.specs.Rules.Effect.{Effect}
use Rattle.cany_model.specs.Rules.Life.{failures_at, fda_copy_effects, failure_sign_effects}
use Rattle.cany_model.specs.Rules.Notices.{IsNextNotice}
use Rattle.cany_model.specs.Rules.Knowledge.{FailureSign, Knowledge, after_life, fda_frame, found, after_finding, after_hearing, after_learning, shows_life, told, told_in, with_members, with_shown, with_signs}
use Rattle.cany_model.proofs.Rules.NumberFacts.{belongs_small}
use Rattle.cany_life.specs.Life.{IsLifeOf, IsNextAt, IsReading, LifeParts}
use Rattle.cany_life.specs.LifeSteps.{CanFind, CanLearn, all_marked, found_actions, found_below, heard}
use Rattle.cany_life.proofs.FindFacts.{find_acts, find_stands}
use Rattle.cany_life.proofs.HeardFacts.{heard_stands}
use Rattle.cany_life.proofs.LearnFacts.{cycle_of_run}
use Rattle.cany_life.proofs.SentFacts.{life_signs_sent-few}

-- ---- the members are left alone

life_keeps_members : (i slot : ℕ) (e : NoticeKind) (knowledge : Knowledge) → (after_life i slot e knowledge).members ≡ knowledge.members
unfolding after_life
life_keeps_members i slot Idle knowledge = refl
life_keeps_members i slot Bad knowledge = refl
life_keeps_members i slot (Got f) knowledge =
    cond_both (shows_life f) (with_shown f.node slot knowledge) knowledge (λ s. s.members ≡ knowledge.members) (λ _. refl) (λ _. refl)
life_keeps_members i slot (Sent f) knowledge =
    cond_both (shows_life f && f.node == i) (record knowledge { last = slot }) knowledge (λ s. s.members ≡ knowledge.members) (λ _. refl) (λ _. refl)

signs_keep_members : (signs : List FailureSign) (knowledge : Knowledge) → (with_signs signs knowledge).members ≡ knowledge.members
unfolding with_signs
signs_keep_members [] knowledge = refl
signs_keep_members (sign ∷ signs) knowledge = signs_keep_members signs _

learnt_members : (i slot : ℕ) (e : NoticeKind) (knowledge : Knowledge) → (after_learning i slot e knowledge).members ≡ knowledge.members
learnt_members i slot e knowledge = signs_keep_members (told_in i slot e knowledge) (after_hearing i slot e knowledge) ∙ life_keeps_members i slot e knowledge

-- ---- what stands for a node stands for its own

pub at_own_node : (scenario : ScenarioParts) (i : ℕ) (past : List NoticeKind) (knowledge : Knowledge) (v : LifeParts) → IsLifeOf scenario i past knowledge v
    → IsLifeOf scenario v.node past knowledge v
at_own_node scenario i past knowledge v h = subst (λ n. IsLifeOf scenario n past knowledge v) (sym h.limits.is_node) h

-- what learning ensures, at each history that the value stands for
abbrev pub Learns : Notice → LifeParts → LifeParts → Type 0
Learns notice w x =
    (scenario : ScenarioParts) (past : List NoticeKind) (knowledge : Knowledge) → IsReading scenario w.node past (notice.kind ∷ past) knowledge w
    → IsNextNotice scenario past notice → IsReading scenario w.node (notice.kind ∷ past) (notice.kind ∷ past) (with_signs (told notice.kind knowledge) knowledge) x

-- the count of life signs has room for one more
pub few_sent : (scenario : ScenarioParts) (i : ℕ) (past : List NoticeKind) (knowledge : Knowledge) (notice : Notice) (v : LifeParts)
    → IsLifeOf scenario i past knowledge v → IsNextNotice scenario past notice → v.sent < most_slots
few_sent scenario i past knowledge notice v h next =
    omega (arith, h.lives.are_sent, life_signs_sent-few i past, next.slot, next.within, few_slots scenario.params h.limits.legal.in_range)

module _ (scenario : ScenarioParts) (i : ℕ) (past : List NoticeKind) (knowledge : Knowledge) (members : Nodes) (notice : Notice) (v w : LifeParts)
    (h : IsLifeOf scenario i past knowledge v) (next : IsNextAt scenario i past notice) (hears : w ≡ heard notice.slot notice.kind v) where
  -- what the node knew before the turn
  abbrev before : Knowledge
  before = with_members members knowledge

  heard_reads : IsReading scenario i past (notice.kind ∷ past) (after_hearing i (length past) notice.kind before) w
  heard_reads =
      subst (IsReading scenario i past (notice.kind ∷ past) (after_hearing i (length past) notice.kind before)) (sym hears)
      (heard_stands scenario i past knowledge members v h notice.kind notice.slot next.next.slot next.next.within next.next.readable next.few)

  pub heard_node : w.node ≡ i
  heard_node = heard_reads.limits.is_node

  pub heard_own : IsReading scenario w.node past (notice.kind ∷ past) (after_hearing i (length past) notice.kind before) w
  heard_own = subst (λ n. IsReading scenario n past (notice.kind ∷ past) (after_hearing i (length past) notice.kind before) w) (sym heard_node) heard_reads

  pub can_learn : CanLearn w notice
  can_learn = record {
    scenario = scenario;
    past = past;
    knowledge = after_hearing i (length past) notice.kind before;
    stands = heard_own;
    next = next.next;
  }

  -- it has learnt, as at each history that it stands for
  module _ (x : LifeParts) (learns : Learns notice w x) where
    learnt_reads : IsReading scenario i (notice.kind ∷ past) (notice.kind ∷ past) (after_learning i (length past) notice.kind before) x
    learnt_reads =
        subst (λ n. IsReading scenario n (notice.kind ∷ past) (notice.kind ∷ past) (after_learning i (length past) notice.kind before) x) heard_node
        (learns scenario past (after_hearing i (length past) notice.kind before) heard_own next.next)

    same_members : (after_learning i (length past) notice.kind before).members ≡ members
    same_members = learnt_members i (length past) notice.kind before

    abbrev learnt : Knowledge
    learnt = after_learning i (length past) notice.kind before

    pub own_params : x.params ≡ v.params
    own_params = learnt_reads.limits.are_params ∙ sym h.limits.are_params

    -- what finding rests on
    some_cycle : 0 < x.params.cycle
    some_cycle = rw learnt_reads.limits.are_params (omega (arith, h.limits.legal.in_range.cycle.0))

    few_cycles : notice.slot / x.params.cycle < most_numbers
    few_cycles =
        let sign : FailureSign = record { node = 0; cycle = notice.slot / scenario.params.cycle } in
        let small = belongs_small scenario notice.slot (fda_frame sign) h.limits.legal next.next.within (record {
          node = omega (arith, h.limits.legal.in_range.nodes.0);
          number = omega arith;
        }) in
        rw learnt_reads.limits.are_params small.number

    has_cycle : notice.slot / x.params.cycle < length x.known
    has_cycle =
        rw learnt_reads.limits.are_params
        (omega (arith, learnt_reads.signs.cycles, cycle_of_run scenario notice.slot (notice.slot / scenario.params.cycle) h.limits.legal next.next.within (omega arith)))

    few_enough : x.params.nodes ≤ most_nodes
    few_enough = rw learnt_reads.limits.are_params (few_nodes scenario.params h.limits.legal.in_range)

    pub can_find : CanFind x notice.slot
    can_find = record { cycle = some_cycle; number = few_cycles; known = has_cycle; nodes = few_enough }

    pub some_silence : 0 < x.params.silence
    some_silence = rw learnt_reads.limits.are_params (omega (arith, h.limits.legal.in_range.silence.0))

    -- and finds
    pub turn_stands : (y : LifeParts) → y ≡ all_marked (found_below x members notice.slot x.params.nodes) x
        → IsLifeOf scenario i (notice.kind ∷ past) (after_finding scenario.params i (length past) notice.kind before) y
    turn_stands y finds =
        subst (λ k. IsReading scenario i (notice.kind ∷ past) (notice.kind ∷ past) (with_signs (found scenario.params i k learnt) learnt) y) next.next.slot
        (find_stands scenario i (notice.kind ∷ past) (notice.kind ∷ past) learnt x notice.slot learnt_reads next.next.within members same_members y finds)

    pub turn_acts : (start here end : List Action)
        → here ≡ start ++ actions_of scenario.params.format
        (flat_map (failure_sign_effects scenario.params.omit (length past) (notice.kind ∷ past)) (told_in i (length past) notice.kind before)
        ++ fda_copy_effects scenario.params.omit notice.kind (notice.kind ∷ past))
        → end ≡ here ++ found_actions x notice.slot (found_below x members notice.slot x.params.nodes)
        → end ≡ start ++ actions_of scenario.params.format (failures_at scenario.params i notice.kind past before)
    unfolding failures_at
    turn_acts start here end learns_acts finds_acts =
        let effects : FailureSign → List Effect = failure_sign_effects scenario.params.omit (length past) (notice.kind ∷ past) in
        let early : List Effect =
        flat_map effects (told_in i (length past) notice.kind before) ++ fda_copy_effects scenario.params.omit notice.kind (notice.kind ∷ past) in
        let late : found_actions x notice.slot (found_below x members notice.slot x.params.nodes)
        ≡ actions_of scenario.params.format (flat_map effects (found scenario.params i (length past) learnt)) =
        find_acts scenario i (notice.kind ∷ past) (notice.kind ∷ past) learnt x notice.slot learnt_reads next.next.within members same_members (length past) next.next.slot
        ∙ ap (λ k. actions_of scenario.params.format (flat_map effects (found scenario.params i k learnt))) next.next.slot in
        finds_acts
        ∙ ap (λ actions. actions ++ found_actions x notice.slot (found_below x members notice.slot x.params.nodes)) learns_acts
        ∙ both_actions scenario.params.format start early (flat_map effects (found scenario.params i (length past) learnt)) _ _ refl (sym late)
