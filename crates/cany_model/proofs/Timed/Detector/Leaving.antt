-- A node that has asked for no leave is never among those that leave; so a member that has not
-- failed starts each cycle.
use Rattle.std.proofs.Common.{◌≡◌, ℕ, ◌<◌, ◌≤◌, ◌++◌, nat_lt, filter, ◌⊎◌, ◌&&◌, ◌||◌, ◌==◌, not, inl, inr, if◌then◌else◌, Bool, true, false, List, [], ◌∷◌, length, map, Option, Some, None, refl, ap, sym, ◌∙◌, subst, arith}
use Rattle.std.specs.List.{AllByRecursion, flat_map, list_any}
use Rattle.std.proofs.lemmas.Bool.{and_from, and_parts, both_ways, cases_Bool, cases_eq, cond-false, cond_both, eq-eqb, eqb-true, false_from_ne_true, ltb-true, or_right, not_from_false, or_cases, or_left}
use Rattle.std.proofs.lemmas.List.Elements.{All-contains, All-from_recursion}
use Rattle.cany_base.specs.declared.class.Class.{Class}
use Rattle.cany_base.specs.declared.class.Class.TheVariants as class
use Rattle.cany_base.specs.declared.message.NodeAsk.{NodeAsk}
use Rattle.cany_base.specs.declared.notice.NoticeKind.{NoticeKind}
use Rattle.cany_base.specs.declared.notice.NoticeKind.TheVariants.{Idle, Got, Sent, Bad}
use Rattle.cany_base.specs.declared.slot_note.SlotNote.{SlotNote}
use Rattle.cany_base.specs.declared.step.Step.{Step}
use Rattle.cany_base.specs.Frame.{FrameParts}
use Rattle.cany_base.specs.Limits.{most_nodes}
use Rattle.cany_base.specs.Nodes.{Nodes, has, meet, minus, with_node}
use Rattle.cany_base.specs.Params.{Parameters}
use Rattle.cany_base.specs.Scenario.{ScenarioParts}
use Rattle.cany_base.proofs.NodesFacts.{has_none}
use Rattle.cany_base.proofs.SetFacts.{has_where, meet_both}
use Rattle.cany_model.specs.Bus.Frames.{same_class}
use Rattle.cany_model.specs.Bus.History.{given, history, seen}
use Rattle.cany_model.specs.Runs.Run.{after_turn, run}
use Rattle.cany_model.specs.Bus.Slot.{FaultScript, after_slot, carried, script, slot_note_of}
use Rattle.cany_model.specs.Bus.State.{NodeState, RunState, node_at}
use Rattle.cany_model.specs.Promises.Detector.{AsksNoLeave, asks_leave, has_asked_leave}
use Rattle.cany_model.specs.Rules.KnowledgeOf.{ended_in, after_asking, after_installing, after_meeting, start_in, knowledge_of}
use Rattle.cany_model.specs.Rules.Knowledge.{Knowledge, after_finding}
use Rattle.cany_model.specs.Rules.Effect.{Effect, Ask}
use Rattle.cany_model.specs.Rules.Membership.{ask_effects, asks_in, is_ask_in}
use Rattle.cany_model.specs.Rules.Turn.{scenario_at, scenario_for, turn_effects}
use Rattle.cany_base.specs.Cycles.{cycle_of, is_end, is_start}
use Rattle.cany_model.specs.Rules.Views.{after_ask, ask_frame, join_asked, leave_asked, start_of, start_vector, with_ended, with_joiner, with_leaver}
use Rattle.cany_model.proofs.Among.{Among, Among-append_right, Among-flat_map, Among-from_Contains, Among-weaker, Each-weaker, any-from_Among}
use Rattle.cany_model.proofs.Bus.Carried.{carried_frame, is_carried}
use Rattle.cany_model.proofs.Bus.Identities.{same_class-true, same_class_self}
use Rattle.cany_model.proofs.Bus.Notes.{given-Got, given-Sent, note_of-offered, placed_where}
use Rattle.cany_model.proofs.Bus.Seen.{history-is}
use Rattle.cany_model.proofs.Runs.Runs.{along_run}
use Rattle.cany_model.proofs.Runs.Steps.{MayTurn, after_slot-history, after_slot-present, after_slot-trace, after_turn-history, after_turn-other_history, after_turn-present, after_turn-trace, next_notice, Each-kept}
use Rattle.cany_model.proofs.Rules.Waits.{Each-after}
use Rattle.cany_model.proofs.Promises.Diffusion.{past_of}
use Rattle.cany_model.proofs.Promises.EachNode.{EachRunning, IsNodes, nodes_at_first, nodes_kept}
use Rattle.cany_model.proofs.Promises.OwnSlotsAlone.{AllWaitForOwnSlots}
use Rattle.cany_model.proofs.Rules.ProtocolFacts.{IsScripted, MayAsk, MayRequest, request_asked}
use Rattle.cany_model.proofs.Rules.TurnFacts.{turn_only}
use Rattle.cany_model.proofs.Timed.Detector.NoRestarts.{restarts_none}
use Rattle.cany_model.proofs.Rules.Site.KnowledgeSteps.{found_keeps, leavers_after, leavers_by, life_keeps, met_keeps}

-- ---- a frame by which it asks to leave is asked for

abbrev pub NoLeave : ℕ → FrameParts → Type 0
NoLeave r f = f.class ≡ class.Leave → f.node ≡ r → ⊥

-- if the frame asks to leave, it is one of node i itself, which has asked to leave
abbrev pub LeaveAsked : ScenarioParts → ℕ → List NoticeKind → FrameParts → Type 0
LeaveAsked scenario i past f = f.class ≡ class.Leave → (f.node ≡ i) × (has_asked_leave scenario i past ≡ true)

pub Among-filter : {X : Type 0} (p : X → Bool) (x : X) (xs : List X) → p x ≡ true → Among (λ y. y ≡ x) xs → Among (λ y. y ≡ x) (filter p xs)
Among-filter p x [] passes h = h
Among-filter p x (y ∷ xs) passes h =
    cond_both (p y) (y ∷ filter p xs) (filter p xs) (Among (λ z. z ≡ x))
    (λ _. elim h [ inl here ↦ inl here | inr later ↦ inr (Among-filter p x xs passes later) ])
    (λ no. elim h [
      | inl here ↦ absurd (both_ways (p y) no (ap p here ∙ passes))
      | inr later ↦ Among-filter p x xs passes later
    ])

-- a scripted leave of a member asks to leave
pub leave_asks : (scenario : ScenarioParts) (i : ℕ) (e : NoticeKind) (past : List NoticeKind) (slot : ℕ)
    → IsScripted scenario scenario.leaves i (e ∷ past) slot → has (knowledge_of scenario i (e ∷ past)).members i ≡ true
    → list_any asks_leave (ask_effects scenario i (e ∷ past)) ≡ true
unfolding ask_effects same_class
leave_asks scenario i e past slot scripted member =
    let p : Parameters = scenario.params in
    let now : ℕ = length past in
    let size = scripted.now in
    let at : now ≡ slot = omega (arith, size) in
    let members : Nodes = (knowledge_of scenario i (e ∷ past)).members in
    let join : NodeAsk → List Effect = λ ask. join_asked p scenario.inc i now members in
    let leave : NodeAsk → List Effect = λ ask. leave_asked p scenario.inc i now members in
    let ask : NodeAsk = scripted.ask in
    let own : is_ask_in i now ask ≡ true =
    and_from (ask.node == i) (ask.slot == now) (eq-eqb ask.node i scripted.asker) (eq-eqb ask.slot now (scripted.asked_in ∙ sym at)) in
    let late : nat_lt now scenario.from ≡ false =
    false_from_ne_true (nat_lt now scenario.from) (λ early. let less = ltb-true now scenario.from early in omega (arith, less, at, scripted.late)) in
    let made : Among (λ a. a ≡ ask) (asks_in scenario i now scenario.leaves) =
    subst (Among (λ a. a ≡ ask)) (sym (cond-false {A = List NodeAsk} (nat_lt now scenario.from) [] (filter (is_ask_in i now) scenario.leaves) late))
    (Among-filter (is_ask_in i now) ask scenario.leaves own (Among-from_Contains scenario.leaves ask scripted.stands)) in
    let asked : Among (λ effect. asks_leave effect ≡ true) (leave ask) =
    cond_both (has members i) (Ask (ask_frame class.Leave scenario.inc (cycle_of p now) i) ∷ []) [] (Among (λ effect. asks_leave effect ≡ true))
    (λ _. inl refl) (λ outside. absurd (both_ways (has members i) outside member)) in
    any-from_Among asks_leave (flat_map join (asks_in scenario i now scenario.joins) ++ flat_map leave (asks_in scenario i now scenario.leaves))
    (Among-append_right (λ effect. asks_leave effect ≡ true) (flat_map join (asks_in scenario i now scenario.joins))
    (flat_map leave (asks_in scenario i now scenario.leaves))
    (Among-flat_map leave (λ effect. asks_leave effect ≡ true) (asks_in scenario i now scenario.leaves)
    (Among-weaker (λ a. a ≡ ask) (λ a. Among (λ effect. asks_leave effect ≡ true) (leave a)) (λ a _. asked) (asks_in scenario i now scenario.leaves) made)))

pub leave_requested : (scenario : ScenarioParts) (i : ℕ) (past : List NoticeKind) (slot : ℕ) (c : Class)
    → MayRequest scenario i past slot c → c ≡ class.Leave → has_asked_leave scenario i past ≡ true
unfolding has_asked_leave
leave_requested scenario i past slot c (inl join) is = let e : class.Join ≡ class.Leave = sym join.0 ∙ is in absurd (cc)
leave_requested scenario i [] slot c (inr leave) is = let none = leave.1.now in absurd (omega (arith, none))
leave_requested scenario i (e ∷ past) slot c (inr leave) is =
    or_left (list_any asks_leave (ask_effects scenario i (e ∷ past))) (has_asked_leave scenario i past)
    (leave_asks scenario i e past slot leave.1 leave.2)

pub leave_may : (scenario : ScenarioParts) (i : ℕ) (past : List NoticeKind) (f : FrameParts) → MayAsk scenario i past f → LeaveAsked scenario i past f
leave_may scenario i past f may is =
    let r = request_asked scenario i past f may (inr is) in (
      sym (ap (λ (h : FrameParts). h.node) r.frame),
      leave_requested scenario i past r.slot r.class r.may (ap (λ (h : FrameParts). h.class) r.frame ∙ is),
    )

-- ---- so one that waits was asked for by the node at which it waits

pub asked_later : (scenario : ScenarioParts) (i : ℕ) (e : NoticeKind) (past : List NoticeKind) → has_asked_leave scenario i past ≡ true
    → has_asked_leave scenario i (e ∷ past) ≡ true
unfolding has_asked_leave
asked_later scenario i e past h = or_right (list_any asks_leave (ask_effects scenario i (e ∷ past))) (has_asked_leave scenario i past) h

abbrev pub LeavesAreAsked : ScenarioParts → List SlotNote → ℕ → NodeState → Type 0
LeavesAreAsked scenario trace i node =
    AllByRecursion (LeaveAsked (scenario_for scenario node.present) i (past_of i trace node)) node.waiting

pub leaves_are_asked : (scenario : ScenarioParts) → IsNodes scenario (LeavesAreAsked scenario)
leaves_are_asked scenario = record {
  new = λ trace i node new. rw new.waiting tt;
  slot = λ note trace i node after same l h.
      rw (same, l.past, l.kept)
      (Each-kept (LeaveAsked (scenario_for scenario node.present) i (past_of i trace node)) (given i note) node.waiting h);
  turn = λ trace i node after same t h.
      let sc : ScenarioParts = scenario_for scenario node.present in
      let before : List NoticeKind = past_of i trace node in
      let read : List NoticeKind = past_of i trace after in
      let later : AllByRecursion (LeaveAsked sc i read) node.waiting =
      Each-weaker (LeaveAsked sc i before) (LeaveAsked sc i read) (λ f asked is.
      let a = asked is in (a.0, subst (λ past. has_asked_leave sc i past ≡ true) (sym t.past) (asked_later sc i t.notice before a.1)))
      node.waiting h in
      rw (same, t.waiting)
      (Each-after (LeaveAsked sc i read) (turn_effects sc i read) node.waiting (turn_only (LeaveAsked sc i read) sc i read (leave_may sc i read)) later);
}

-- ---- and one that was carried by the node that it names

abbrev pub NoLeaveIn : ℕ → SlotNote → Type 0
NoLeaveIn r note = (f : FrameParts) → note.frame ≡ Some f → NoLeave r f

-- node r has asked to leave
abbrev HasAsked : ScenarioParts → ℕ → RunState → Type 0
HasAsked scenario r s = has_asked_leave (scenario_at scenario s r) r (history r s) ≡ true

abbrev asks_for_itself : ℕ → FrameParts → Bool
asks_for_itself r f = same_class f.class class.Leave && f.node == r

slot_leave : (scenario : ScenarioParts) (r : ℕ) (rules : FaultScript) (s : RunState) → EachRunning (LeavesAreAsked scenario) s
    → HasAsked scenario r s ⊎ NoLeaveIn r (slot_note_of rules s)
slot_leave scenario r rules s all = elim (cases_Bool (carried (asks_for_itself r) (slot_note_of rules s))) [
  | inr none ↦ inr (λ f frame is own. both_ways (carried (asks_for_itself r) (slot_note_of rules s)) none
      (is_carried (asks_for_itself r) (slot_note_of rules s) f frame
      (and_from (same_class f.class class.Leave) (f.node == r) (ap (λ c. same_class c class.Leave) is ∙ same_class_self class.Leave) (eq-eqb f.node r own))))
  | inl some ↦
      let f = carried_frame (asks_for_itself r) (slot_note_of rules s) some in
      let parts = and_parts (same_class f.what.class class.Leave) (f.what.node == r) f.passes in
      let offer = note_of-offered rules s f.what f.frame in
      let i : ℕ = offer.node in
      let node : NodeState = node_at s.nodes i in
      let P : FrameParts → Type 0 = LeaveAsked (scenario_for scenario node.present) i (past_of i (seen node.present s.trace) node) in
      let asked = All-contains P node.waiting f.what (All-from_recursion P node.waiting (all i offer.running)) offer.waits
      (same_class-true f.what.class class.Leave parts.0) in
      let own : i ≡ r = sym asked.0 ∙ eqb-true f.what.node r parts.1 in
      inl (subst (λ k. HasAsked scenario k s) own
      (ap (has_asked_leave (scenario_at scenario s i) i) (history-is i s) ∙ asked.1))
]

-- ---- so a node that has asked for no leave has none carried, in a scenario without restarts

slot_asked : (scenario : ScenarioParts) (r : ℕ) (rules : FaultScript) (s : RunState) → r < length s.nodes → HasAsked scenario r s
    → HasAsked scenario r (after_slot rules s)
slot_asked scenario r rules s there h =
    ap (λ inc. has_asked_leave (scenario_for scenario inc) r (history r (after_slot rules s))) (after_slot-present rules s r there)
    ∙ ap (has_asked_leave (scenario_at scenario s r) r) (after_slot-history rules s r there) ∙ h

turn_asked : (scenario : ScenarioParts) (r i : ℕ) (s : RunState) → MayTurn s i → (node_at s.nodes i).unread ≤ length s.trace → HasAsked scenario r s
    → HasAsked scenario r (after_turn scenario i s)
turn_asked scenario r i s may short h =
    ap (λ inc. has_asked_leave (scenario_for scenario inc) r (history r (after_turn scenario i s))) (after_turn-present scenario i s r may short)
    ∙ elim (cases_eq r i) [
      | inl same ↦ subst (λ k. HasAsked scenario k s → has_asked_leave (scenario_at scenario s k) k (history k (after_turn scenario i s)) ≡ true) (sym same)
          (λ before. ap (has_asked_leave (scenario_at scenario s i) i) (after_turn-history scenario i s may short)
          ∙ asked_later (scenario_at scenario s i) i (next_notice s i) (history i s) before) h
      | inr other ↦ ap (has_asked_leave (scenario_at scenario s r) r) (after_turn-other_history scenario i s r other) ∙ h
    ]

pub no_leave : (scenario : ScenarioParts) → scenario.restarts ≡ [] → (r : ℕ) → r < scenario.params.nodes → (journal : List Step)
    → AsksNoLeave scenario (run scenario journal) r → AllByRecursion (NoLeaveIn r) (run scenario journal).trace
no_leave scenario none r below journal asks =
    let P : List SlotNote → ℕ → NodeState → Type 0 = LeavesAreAsked scenario in
    let is : IsNodes scenario P = leaves_are_asked scenario in
    let kept = nodes_kept scenario P is in
    let rules : FaultScript = script scenario.rules in
    let either = (along_run scenario
    (λ s. (AllWaitForOwnSlots s × EachRunning P s) × (HasAsked scenario r s ⊎ AllByRecursion (NoLeaveIn r) s.trace))
    (nodes_at_first scenario P is, inr tt)
    (record {
      slot = λ s o may h.
          let there : r < length s.nodes = omega (arith, below, o.count) in (
            kept.slot s o may h.0,
            elim (slot_leave scenario r rules s h.0.1) [
              | inl asked ↦ inl (slot_asked scenario r rules s there asked)
              | inr now ↦ elim h.1 [
                | inl asked ↦ inl (slot_asked scenario r rules s there asked)
                | inr before ↦ inr (subst (AllByRecursion (NoLeaveIn r)) (sym (after_slot-trace rules s)) (now, before))
              ]
            ],
          );
      restarts = λ s o some h.
          subst (λ t. (AllWaitForOwnSlots t × EachRunning P t) × (HasAsked scenario r t ⊎ AllByRecursion (NoLeaveIn r) t.trace))
          (sym (restarts_none scenario none s)) h;
      turn = λ s i o may h. (
        kept.turn s i o may h.0,
        elim h.1 [
          | inl asked ↦ inl (turn_asked scenario r i s may (o.unread i) asked)
          | inr before ↦ inr (subst (AllByRecursion (NoLeaveIn r)) (sym (after_turn-trace scenario i s)) before)
        ],
      );
    })
    journal).1 in
    elim either [
      | inl asked ↦ absurd (both_ways (has_asked_leave (scenario_at scenario (run scenario journal) r) r (history r (run scenario journal))) asks asked)
      | inr carried ↦ carried
    ]

-- ---- so it is not among those that leave

-- the notice brings no such frame
abbrev pub HeedsNone : ℕ → NoticeKind → Type 0
HeedsNone r e = (f : FrameParts) → (e ≡ Got f) ⊎ (e ≡ Sent f) → NoLeave r f

pub heeds_none : (r i : ℕ) (trace : List SlotNote) → AllByRecursion (NoLeaveIn r) trace → AllByRecursion (HeedsNone r) (map (given i) trace)
heeds_none r i [] h = tt
heeds_none r i (note ∷ trace) h = (heeds, heeds_none r i trace h.1)
  where
    heeds : HeedsNone r (given i note)
    heeds f (inl got) = h.0 f (given-Got i note f got).0
    heeds f (inr sent) = h.0 f (given-Sent i note f sent).0

leaver_other : (r q : ℕ) (st : Knowledge) → (q ≡ r → ⊥) → has st.leavers r ≡ false → has (with_leaver q st).leavers r ≡ false
leaver_other r q st other h =
    cond_both (has st.members q) (record st { leavers = with_node q st.leavers }) st (λ s. has s.leavers r ≡ false)
    (λ _. false_from_ne_true (has (with_node q st.leavers) r) (λ now.
    elim (or_cases (has st.leavers r) (r == q) (has_where (λ x. has st.leavers x || x == q) r now)) [
      | inl old ↦ both_ways (has st.leavers r) h old
      | inr new ↦ other (sym (eqb-true r q new))
    ]))
    (λ _. h)

joiner_leavers : (r q : ℕ) (st : Knowledge) → has st.leavers r ≡ false → has (with_joiner q st).leavers r ≡ false
joiner_leavers r q st h =
    cond_both (has st.members q) st (record st { joiners = with_node q st.joiners }) (λ s. has s.leavers r ≡ false) (λ _. h) (λ _. h)

ask_leavers : (r : ℕ) (e : NoticeKind) (st : Knowledge) → HeedsNone r e → has st.leavers r ≡ false → has (after_ask e st).leavers r ≡ false
unfolding after_ask
ask_leavers r Idle st none h = h
ask_leavers r Bad st none h = h
ask_leavers r (Sent f) st none h =
    cond_both (same_class f.class class.Leave) (with_leaver f.node st) st (λ s. has s.leavers r ≡ false)
    (λ is. leaver_other r f.node st (none f (inr refl) (same_class-true f.class class.Leave is)) h) (λ _. h)
ask_leavers r (Got f) st none h =
    cond_both (same_class f.class class.Join) (with_joiner f.node st) (if same_class f.class class.Leave then with_leaver f.node st else st)
    (λ s. has s.leavers r ≡ false) (λ _. joiner_leavers r f.node st h)
    (λ _. cond_both (same_class f.class class.Leave) (with_leaver f.node st) st (λ s. has s.leavers r ≡ false)
    (λ is. leaver_other r f.node st (none f (inl refl) (same_class-true f.class class.Leave is)) h) (λ _. h))

pub asked_leavers : (p : Parameters) (i slot : ℕ) (e : NoticeKind) (st : Knowledge) (r : ℕ) → HeedsNone r e → has st.leavers r ≡ false
    → has (after_asking p i slot e st).leavers r ≡ false
asked_leavers p i slot e st r none before =
    let found : (after_finding p i slot e st).leavers ≡ st.leavers =
    found_keeps Nodes (λ s. s.leavers) (λ sign s. refl) p i slot e st
    ∙ life_keeps Nodes (λ s. s.leavers) (record { shown = λ f s. refl; last = λ n s. refl }) i slot e st in
    ask_leavers r e (after_finding p i slot e st) none (ap (λ nodes. has nodes r) found ∙ before)

ended_leavers : (r : ℕ) (o : Option Nodes) (leavers : Nodes) → has leavers r ≡ false → has (leavers_by o leavers) r ≡ false
ended_leavers r None leavers h = h
ended_leavers r (Some v) leavers h =
    false_from_ne_true (has (meet leavers v) r) (λ now.
    both_ways (has leavers r) h (meet_both leavers v r now).0)

pub no_leaver : (scenario : ScenarioParts) (i r : ℕ) (past : List NoticeKind) → AllByRecursion (HeedsNone r) past
    → has (knowledge_of scenario i past).leavers r ≡ false
unfolding knowledge_of
no_leaver scenario i r [] none = has_none r
no_leaver scenario i r (e ∷ past) none =
    let p : Parameters = scenario.params in
    let slot : ℕ = length past in
    let st : Knowledge = knowledge_of scenario i past in
    ap (λ nodes. has nodes r) (leavers_after p i slot e st)
    ∙ ended_leavers r (ended_in p slot e st) (after_asking p i slot e st).leavers
    (asked_leavers p i slot e st r none.0 (no_leaver scenario i r past none.1))

-- ---- the start of a cycle

module _ (p : Parameters) (i r slot : ℕ) (e : NoticeKind) (st : Knowledge) (few : r < most_nodes) (no_end : is_end p slot ≡ false)
    (member : has st.members r ≡ true) (lives : has (after_finding p i slot e st).failed r ≡ false)
    (stays : has (after_asking p i slot e st).leavers r ≡ false)
  where
    met : Knowledge
    met = after_meeting p i slot e st

    not_ended : after_installing p i slot e st ≡ after_meeting p i slot e st
    unfolding with_ended
    not_ended = rw no_end refl

    member_met : has (after_meeting p i slot e st).members r ≡ true
    member_met =
        ap (λ nodes. has nodes r)
        (met_keeps Nodes (λ s. s.members) (record { joiners = λ n s. refl; leavers = λ n s. refl }) (λ v s. refl) p i slot e st
        ∙ found_keeps Nodes (λ s. s.members) (λ sign s. refl) p i slot e st
        ∙ life_keeps Nodes (λ s. s.members) (record { shown = λ f s. refl; last = λ n s. refl }) i slot e st)
        ∙ member

    lives_met : has (after_meeting p i slot e st).failed r ≡ false
    lives_met =
        ap (λ nodes. has nodes r)
        (met_keeps Nodes (λ s. s.failed) (record { joiners = λ n s. refl; leavers = λ n s. refl }) (λ v s. refl) p i slot e st)
        ∙ lives

    starts : (now : Knowledge) → has now.members r ≡ true → has now.failed r ≡ false → has now.leavers r ≡ false → has (start_vector now) r ≡ true
    starts now a b c =
        placed_where (λ x. has (minus (minus now.members now.failed) now.leavers) x || has now.joiners x) r few
        ∙ or_left (has (minus (minus now.members now.failed) now.leavers) r) (has now.joiners r)
        (placed_where (λ x. has (minus now.members now.failed) x && not (has now.leavers x)) r few
        ∙ and_from (has (minus now.members now.failed) r) (not (has now.leavers r))
        (placed_where (λ x. has now.members x && not (has now.failed x)) r few
        ∙ and_from (has now.members r) (not (has now.failed r)) a (not_from_false (has now.failed r) b))
        (not_from_false (has now.leavers r) c))

    -- a member that has not failed and does not leave stands in what a node starts a cycle with, in
    -- a slot at which no cycle ends
    pub start_stays : (v : Nodes) → start_in p i slot e st ≡ Some v → has v r ≡ true
    start_stays v is =
        cond_both (is_start p slot) (start_of i (after_installing p i slot e st)) None (λ o. o ≡ Some v → has v r ≡ true)
        (λ _ here. by_member (has (after_installing p i slot e st).members i) here) (λ _ none. absurd (cc)) is
      where
        by_member : (b : Bool) → (if b then Some (start_vector (after_installing p i slot e st)) else None) ≡ Some v → has v r ≡ true
        by_member true here =
            let same : start_vector (after_installing p i slot e st) ≡ v = cc in
            ap (λ nodes. has nodes r) (sym same) ∙ ap (λ (now : Knowledge). has (start_vector now) r) not_ended
            ∙ starts (after_meeting p i slot e st) member_met lives_met stays
        by_member false none = absurd (cc)
