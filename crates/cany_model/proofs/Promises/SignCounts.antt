-- The numbers of life signs: a node has sent, and waits with, no more of them than it has asked
-- for.
use Rattle.std.proofs.Common.{◌≡◌, ℕ, suc, ◌+◌, ◌*◌, ◌≤◌, ◌==◌, inl, inr, Bool, true, false, not, cond, List, [], ◌∷◌, ◌++◌, map, drop, length, count_by, None, refl, ap, sym, ◌∙◌, arith, le_trans, mul-le-mul_right}
use Rattle.std.specs.List.{AllByRecursion, flat_map}
use Rattle.std.proofs.lemmas.Bool.{and_parts, both_ways, cases_Bool, cond-false, cond-true, cond_both, false≢true, not-false, not-true, or_cases}
use Rattle.std.proofs.lemmas.List.{drop-map}
use Rattle.cany_base.specs.declared.class.Class.TheVariants as class
use Rattle.cany_base.specs.declared.notice.NoticeKind.{NoticeKind}
use Rattle.cany_base.specs.declared.notice.NoticeKind.TheVariants.{Idle, Got, Sent, Bad}
use Rattle.cany_base.specs.declared.slot_note.SlotNote.{SlotNote}
use Rattle.cany_base.specs.Frame.{FrameParts}
use Rattle.cany_base.specs.Scenario.{ScenarioParts}
use Rattle.cany_model.specs.Bus.Frames.{Identity, identity_of, is_before, is_of, same_class}
use Rattle.cany_model.specs.Bus.History.{given, history, seen}
use Rattle.cany_model.specs.Runs.Run.{after_turn}
use Rattle.cany_model.specs.Bus.State.{Incarnation, NodeState, RunState, node_at}
use Rattle.cany_model.specs.Bus.Waiting.{put_in_order, waits, with_frame, without}
use Rattle.cany_model.specs.Rules.Effect.{Effect, Ask, Withdraw, Enter, waiting_after}
use Rattle.cany_model.specs.Rules.Life.{els_frame, is_own_sign, life_effects, life_signs_sent}
use Rattle.cany_model.specs.Rules.Notices.{HasFewSigns}
use Rattle.cany_model.specs.Rules.Protocol.{Protocol}
use Rattle.cany_model.specs.Rules.Turn.{protocols, scenario_at, scenario_for, turn_effects}
use Rattle.cany_model.proofs.Among.{count-cons, count-drop, count-grows, count-no, count-yes, one_if}
use Rattle.cany_model.proofs.Bus.Identities.{same_class-true, same_class_self, same_identity-true}
use Rattle.cany_model.proofs.Bus.Notes.{given-Sent, given_idle}
use Rattle.cany_model.proofs.Runs.Steps.{MayTurn, after_turn-history, after_turn-present, after_turn-trace, kept_at, next_notice}
use Rattle.cany_model.proofs.Promises.Diffusion.{Lived, past_of}
use Rattle.cany_model.proofs.Promises.EachNode.{EachRunning, IsNodes}
use Rattle.cany_model.proofs.Bus.Seen.{history-is}
use Rattle.cany_model.proofs.Rules.Site.LifeCounts.{asked_few, due_in, signs_asked}
use Rattle.cany_model.proofs.Rules.LogFacts.{total}
use Rattle.cany_model.proofs.Rules.ProtocolFacts.{IsFounded, IsLawful}
use Rattle.cany_model.proofs.Rules.Protocols.{are_lawful}
use Rattle.cany_model.proofs.Rules.RoomFacts.{is_in}

abbrev pub is_els : FrameParts → Bool
is_els f = is_in class.Els f

-- ---- the life signs that wait

pub without_fewer : (y : Identity) (w : List FrameParts) → count_by is_els (without y w) ≤ count_by is_els w
without_fewer y [] = omega arith
without_fewer y (g ∷ w) =
    cond_both (not (is_of y g)) (g ∷ without y w) (without y w) (λ v. count_by is_els v ≤ count_by is_els (g ∷ w))
    (λ _. omega (arith, count-cons is_els g (without y w), count-cons is_els g w, without_fewer y w))
    (λ _. omega (arith, count-grows is_els g w, without_fewer y w))

pub els_test : (g : FrameParts) → g.class ≡ class.Els → is_els g ≡ true
els_test g e = ap (λ c. same_class c class.Els) e ∙ same_class_self class.Els

-- one that waits and is taken away is one fewer
pub without_one : (y : Identity) → y.class ≡ class.Els → (w : List FrameParts) → waits y w ≡ true → suc (count_by is_els (without y w)) ≤ count_by is_els w
without_one y els [] h = absurd (false≢true h)
without_one y els (g ∷ w) h =
    cond_both (not (is_of y g)) (g ∷ without y w) (without y w) (λ v. suc (count_by is_els v) ≤ count_by is_els (g ∷ w))
    (λ kept. elim (or_cases (is_of y g) (waits y w) h) [
      | inl here ↦ absurd (both_ways (is_of y g) (not-true (is_of y g) kept) here)
      | inr there ↦ omega (arith, count-cons is_els g (without y w), count-cons is_els g w, without_one y els w there)
    ])
    (λ gone.
    let class : g.class ≡ class.Els = sym (ap (λ (x : Identity). x.class) (same_identity-true y (identity_of g) (not-false (is_of y g) gone))) ∙ els in
    omega (arith, count-yes is_els g w (els_test g class), without_fewer y w))

pub put_one : (f : FrameParts) (w : List FrameParts) → count_by is_els (put_in_order f w) ≡ one_if (is_els f) + count_by is_els w
unfolding put_in_order
put_one f [] = count-cons is_els f []
put_one f (g ∷ w) =
    cond_both (is_before f g) (f ∷ (g ∷ w)) (g ∷ put_in_order f w) (λ v. count_by is_els v ≡ one_if (is_els f) + count_by is_els (g ∷ w))
    (λ _. count-cons is_els f (g ∷ w))
    (λ _. omega (arith, count-cons is_els g (put_in_order f w), count-cons is_els g w, put_one f w))

-- how many of the effects ask for one
abbrev pub els_asks : List Effect → ℕ
els_asks [] = 0
els_asks (Ask f ∷ effects) = one_if (is_els f) + els_asks effects
els_asks (Withdraw x ∷ effects) = els_asks effects
els_asks (Enter entry ∷ effects) = els_asks effects

pub waiting_few : (effects : List Effect) (w : List FrameParts) → count_by is_els (waiting_after effects w) ≤ els_asks effects + count_by is_els w
unfolding waiting_after
waiting_few [] w = omega arith
waiting_few (Ask f ∷ effects) w =
    omega (arith, waiting_few effects (with_frame f w), put_one f (without (identity_of f) w), without_fewer (identity_of f) w)
waiting_few (Withdraw x ∷ effects) w = omega (arith, waiting_few effects (without x w), without_fewer x w)
waiting_few (Enter entry ∷ effects) w = waiting_few effects w

-- ---- a turn asks for one at most, where one is due

pub asks_more : (first rest : List Effect) → els_asks (first ++ rest) ≡ els_asks first + els_asks rest
asks_more [] rest = omega arith
asks_more (Ask f ∷ first) rest = omega (arith, asks_more first rest)
asks_more (Withdraw x ∷ first) rest = asks_more first rest
asks_more (Enter entry ∷ first) rest = asks_more first rest

-- a protocol that names no life sign asks for none
pub asks_none : (scenario : ScenarioParts) (p : Protocol) → p.names class.Els ≡ false → (i : ℕ) (past : List NoticeKind) (effects : List Effect)
    → AllByRecursion (IsFounded scenario p i past) effects → els_asks effects ≡ 0
asks_none scenario p never i past [] h = refl
asks_none scenario p never i past (Withdraw x ∷ effects) h = asks_none scenario p never i past effects h.1
asks_none scenario p never i past (Enter entry ∷ effects) h = asks_none scenario p never i past effects h.1
asks_none scenario p never i past (Ask f ∷ effects) h = elim (cases_Bool (is_els f)) [
  | inl els ↦ absurd (false≢true (sym never ∙ sym (ap p.names (same_class-true f.class class.Els els)) ∙ h.0.1))
  | inr other ↦
      let none : one_if (is_els f) ≡ 0 = cond-false {A = ℕ} (is_els f) 1 0 other in
      omega (arith, none, asks_none scenario p never i past effects h.1)
]

abbrev asks_by : ScenarioParts → ℕ → List NoticeKind → Protocol → ℕ
asks_by scenario i past p = cond (p.names class.Els) (els_asks (p.effects scenario i past)) 0

asks_total : (scenario : ScenarioParts) (i : ℕ) (past : List NoticeKind) (ps : List Protocol) → AllByRecursion IsLawful ps
    → els_asks (flat_map (λ p. p.effects scenario i past) ps) ≤ total (asks_by scenario i past) ps
asks_total scenario i past [] lawful = omega arith
asks_total scenario i past (p ∷ ps) lawful =
    let rest = asks_total scenario i past ps lawful.1 in
    let split = asks_more (p.effects scenario i past) (flat_map (λ q. q.effects scenario i past) ps) in
    elim (cases_Bool (p.names class.Els)) [
      | inl names ↦
          let all : asks_by scenario i past p ≡ els_asks (p.effects scenario i past) =
          cond-true {A = ℕ} (p.names class.Els) (els_asks (p.effects scenario i past)) 0 names in
          omega (arith, rest, split, all)
      | inr never ↦
          let none = asks_none scenario p never i past (p.effects scenario i past) (lawful.0.founded scenario i past) in
          omega (arith, rest, split, none)
    ]

total_is : (scenario : ScenarioParts) (i : ℕ) (past : List NoticeKind) → total (asks_by scenario i past) protocols ≡ els_asks (life_effects scenario i past)
unfolding same_class
total_is scenario i past = omega arith

life_asks : (scenario : ScenarioParts) (i : ℕ) (e : NoticeKind) (past : List NoticeKind)
    → els_asks (life_effects scenario i (e ∷ past)) ≡ one_if (due_in scenario i e past)
unfolding life_effects same_class
life_asks scenario i e past = by_due (due_in scenario i e past)
  where
    by_due : (b : Bool) → els_asks (cond b (Ask (els_frame scenario.inc i (life_signs_sent i (e ∷ past))) ∷ []) []) ≡ one_if b
    by_due true = refl
    by_due false = refl

pub turn_asks : (scenario : ScenarioParts) (i : ℕ) (e : NoticeKind) (past : List NoticeKind)
    → els_asks (turn_effects scenario i (e ∷ past)) ≤ one_if (due_in scenario i e past)
unfolding turn_effects
turn_asks scenario i e past =
    omega (arith, asks_total scenario i (e ∷ past) protocols are_lawful, total_is scenario i (e ∷ past), life_asks scenario i e past)

-- ---- along a run

-- those that the node has sent, read or not, and those that wait are no more than were asked for
abbrev pub Counted : ScenarioParts → List SlotNote → ℕ → NodeState → Type 0
Counted scenario trace i node =
    life_signs_sent i (map (given i) trace) + count_by (is_in class.Els) node.waiting ≤ signs_asked (scenario_for scenario node.present) i (past_of i trace node)

pub blank_none : (i : ℕ) (trace : List SlotNote) → AllByRecursion (λ note. note.frame ≡ None) trace → life_signs_sent i (map (given i) trace) ≡ 0
unfolding life_signs_sent
blank_none i [] h = refl
blank_none i (note ∷ trace) h =
    count-no (is_own_sign i) (given i note) (map (given i) trace) (ap (is_own_sign i) (given_idle i note h.0)) ∙ blank_none i trace h.1

-- one that is sent waits no longer
pub sent_one : (note : SlotNote) (trace : List SlotNote) (i : ℕ) (node after : NodeState) → Lived note trace i node after
    → one_if (is_own_sign i (given i note)) + count_by is_els after.waiting ≤ count_by is_els node.waiting
sent_one note trace i node after l = by_notice (given i note) refl
  where
    by_notice : (e : NoticeKind) → given i note ≡ e → one_if (is_own_sign i e) + count_by is_els after.waiting ≤ count_by is_els node.waiting
    by_notice Idle h = omega (arith, ap (count_by is_els) (l.kept ∙ ap (λ n. kept_at n node.waiting) h))
    by_notice Bad h = omega (arith, ap (count_by is_els) (l.kept ∙ ap (λ n. kept_at n node.waiting) h))
    by_notice (Got f) h = omega (arith, ap (count_by is_els) (l.kept ∙ ap (λ n. kept_at n node.waiting) h))
    by_notice (Sent f) h =
        let parts = given-Sent i note f h in
        let left : count_by is_els after.waiting ≡ count_by is_els (without (identity_of f) node.waiting) =
        ap (count_by is_els) (l.kept ∙ ap (λ n. kept_at n node.waiting) h) in
        elim (cases_Bool (is_own_sign i (Sent f))) [
          | inl own ↦
              let els = same_class-true f.class class.Els (and_parts (same_class f.class class.Els) (f.node == i) own).0 in
              let one : one_if (is_own_sign i (Sent f)) ≡ 1 = cond-true {A = ℕ} (is_own_sign i (Sent f)) 1 0 own in
              omega (arith, one, left, without_one (identity_of f) els node.waiting (l.sender f parts.0 parts.1))
          | inr other ↦
              let none : one_if (is_own_sign i (Sent f)) ≡ 0 = cond-false {A = ℕ} (is_own_sign i (Sent f)) 1 0 other in
              omega (arith, none, left, without_fewer (identity_of f) node.waiting)
        ]

pub signs_counted : (scenario : ScenarioParts) → IsNodes scenario (Counted scenario)
unfolding life_signs_sent
signs_counted scenario = record {
  new = λ trace i node new. omega (arith, blank_none i trace new.blank, ap (count_by is_els) new.waiting);
  slot = λ note trace i node after same l h.
      let asked : signs_asked (scenario_for scenario after.present) i (past_of i (note ∷ trace) after)
      ≡ signs_asked (scenario_for scenario node.present) i (past_of i trace node) =
      ap (λ inc. signs_asked (scenario_for scenario inc) i (past_of i (note ∷ trace) after)) same
      ∙ ap (signs_asked (scenario_for scenario node.present) i) l.past in
      omega (arith, asked, h, sent_one note trace i node after l, count-cons (is_own_sign i) (given i note) (map (given i) trace));
  turn = λ trace i node after same t h.
      let sc : ScenarioParts = scenario_for scenario node.present in
      let asked : signs_asked (scenario_for scenario after.present) i (past_of i trace after) ≡ signs_asked sc i (t.notice ∷ past_of i trace node) =
      ap (λ inc. signs_asked (scenario_for scenario inc) i (past_of i trace after)) same ∙ ap (signs_asked sc i) t.past in
      let waiting : after.waiting ≡ waiting_after (turn_effects sc i (t.notice ∷ past_of i trace node)) node.waiting =
      t.waiting ∙ ap (λ past. waiting_after (turn_effects sc i past) node.waiting) t.past in
      omega (
        arith,
        asked,
        h,
        ap (count_by is_els) waiting,
        waiting_few (turn_effects sc i (t.notice ∷ past_of i trace node)) node.waiting,
        turn_asks sc i t.notice (past_of i trace node),
      );
}

-- so a running node that may take a turn has sent so few, with the notice of that turn, that a life
-- interval passed before each
pub signs_spaced : (scenario : ScenarioParts) (s : RunState) (i : ℕ) → MayTurn s i → (node_at s.nodes i).unread ≤ length s.trace
    → EachRunning (Counted scenario) s → HasFewSigns (scenario_at scenario s i) i (next_notice s i ∷ history i s) (length (history i s))
unfolding life_signs_sent
signs_spaced scenario s i may short all =
    let node : NodeState = node_at s.nodes i in
    let trace : List SlotNote = seen node.present s.trace in
    let sc : ScenarioParts = scenario_at scenario s i in
    let t : RunState = after_turn scenario i s in
    let unread : ℕ = (node_at t.nodes i).unread in
    let read : next_notice s i ∷ history i s ≡ drop unread (map (given i) trace) =
    sym (after_turn-history scenario i s may short) ∙ history-is i t
    ∙ ap (λ (inc : Incarnation). map (given i) (drop unread (seen inc t.trace))) (after_turn-present scenario i s i may short)
    ∙ ap (λ notes. map (given i) (drop unread (seen node.present notes))) (after_turn-trace scenario i s)
    ∙ sym (drop-map (given i) unread trace) in
    let sent : count_by (is_own_sign i) (next_notice s i ∷ history i s) ≡ count_by (is_own_sign i) (drop unread (map (given i) trace)) =
    ap (count_by (is_own_sign i)) read in
    let asked : signs_asked sc i (past_of i trace node) ≡ signs_asked sc i (history i s) = ap (signs_asked sc i) (sym (history-is i s)) in
    let few : count_by (is_own_sign i) (next_notice s i ∷ history i s) ≤ signs_asked sc i (history i s) =
    omega (arith, sent, asked, count-drop (is_own_sign i) unread (map (given i) trace), all i may.running) in
    let slots : count_by (is_own_sign i) (next_notice s i ∷ history i s) * scenario.params.life ≤ signs_asked sc i (history i s) * scenario.params.life =
    mul-le-mul_right scenario.params.life few in
    le_trans slots (asked_few sc i (history i s))
