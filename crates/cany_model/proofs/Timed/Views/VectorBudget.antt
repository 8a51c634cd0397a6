-- How many frames of a membership cycle a node sends: each has a smaller vector than the one
-- before. So the frames that it has sent, the one that waits, and the size of its present vector
-- are together no more than one more than there are nodes.
use Rattle.std.proofs.Common.{◌≡◌, ℕ, ◌+◌, ◌*◌, ◌<◌, ◌≤◌, ◌==◌, inl, inr, Bool, true, false, List, [], ◌∷◌, length, Option, Some, None, count_by, refl, ap, sym, ◌∙◌, subst, arith}
use Rattle.std.specs.List.{AllByRecursion}
use Rattle.std.proofs.lemmas.Bool.{both_ways, cases_Bool, cases_eq, eq-eqb}
use Rattle.std.proofs.lemmas.List.{nil_from_length}
use Rattle.cany_base.specs.declared.notice.NoticeKind.{NoticeKind}
use Rattle.cany_base.specs.declared.notice.NoticeKind.TheVariants.{Sent}
use Rattle.cany_base.specs.declared.slot_note.SlotNote.{SlotNote}
use Rattle.cany_base.specs.Frame.{FrameParts}
use Rattle.cany_base.specs.Nodes.{Nodes, AllBelow}
use Rattle.cany_base.specs.Params.{Parameters}
use Rattle.cany_base.specs.Scenario.{ScenarioParts}
use Rattle.cany_base.specs.Limits.{most_nodes}
use Rattle.cany_base.specs.declared.step.Step.{Step}
use Rattle.cany_model.specs.Runs.Run.{run}
use Rattle.cany_model.specs.Bus.State.{NodeState}
use Rattle.cany_model.specs.Rules.Knowledge.{Knowledge}
use Rattle.cany_model.proofs.Bus.Notes.{given_idle}
use Rattle.cany_model.proofs.Promises.Diffusion.{past_of}
use Rattle.cany_model.proofs.Promises.EachNode.{EachRunning, IsNew}
use Rattle.cany_model.proofs.Rules.Site.KnowledgeFacts.{begun_knowledge}
use Rattle.cany_model.specs.Bus.Frames.{Identity, identity_of}
use Rattle.cany_model.specs.Bus.History.{given, is_sent}
use Rattle.cany_model.specs.Rules.Effect.{waiting_after}
use Rattle.cany_model.specs.Rules.Notices.{IsPart}
use Rattle.cany_model.specs.Rules.Turn.{scenario_for, turn_effects}
use Rattle.cany_model.specs.Rules.Vectors.{is_covered, is_new, met, met_with, rha_frame, rha_of}
use Rattle.cany_model.proofs.Among.{count-no, count-yes}
use Rattle.cany_model.proofs.Bus.Carried.{is_sent-from, is_sent-true}
use Rattle.cany_model.proofs.Runs.Steps.{kept_at}
use Rattle.cany_model.proofs.Promises.KeptVectors.{vector_at}
use Rattle.cany_model.proofs.Rules.Site.KnowledgeNodes.{IsVectorOfBus, first_members, knowledge_of_bus}
use Rattle.cany_model.proofs.Timed.Views.VectorHeld.{WaitedWith, held_none, held_slot, held_some}
use Rattle.cany_model.proofs.Timed.Views.VectorSets.{meet_left, size, size_le, size_less, size_most}
use Rattle.cany_model.proofs.Timed.Views.VectorTurns.{starts_with, turn_ends, turn_exchanges, turn_outside, turn_starts}
use Rattle.cany_model.proofs.Timed.Views.VectorLastEffect.{IsCycle, brings, brought_last_effect, met_last_effect, start_last_effect}
use Rattle.cany_model.proofs.Timed.Common.LastEffect.{LastEffect, NoEffect, Asked, Withdrawn, by_last_effect, held, held_after, last_effect}
use Rattle.cany_model.proofs.Timed.Views.ReadableNodes.{IsReadableNodes, each_readable}

-- ---- what a node may still send

abbrev pub is_sent_note : ℕ → ℕ → SlotNote → Bool
is_sent_note k i note = is_sent (rha_of k i) (given i note)

-- the frames of the cycle that the node sent with success
abbrev pub sent_count : ℕ → ℕ → List SlotNote → ℕ
sent_count k i trace = count_by (is_sent_note k i) trace

-- with those that wait
abbrev pub spent : ℕ → ℕ → List SlotNote → List FrameParts → ℕ
spent k i trace waiting = sent_count k i trace + length (held (rha_of k i) waiting)

-- what it may still ask for: all that there can be where it has no vector yet, and else no more
-- than its vector has nodes
pub credit : ℕ → Option Nodes → ℕ
credit n None = n + 1
credit n (Some v) = size v n

-- Of a node that has read this, and waits with this.
pub record BudgetKept (scenario : ScenarioParts) (k i : ℕ) (trace : List SlotNote) (past : List NoticeKind) (waiting : List FrameParts) : Type 0 where
  -- up to the start of the cycle it sends none of its frames
  pub early : length past ≤ k * scenario.params.cycle → spent k i trace waiting ≡ 0
  pub during : k * scenario.params.cycle < length past → length past ≤ k * scenario.params.cycle + scenario.params.bound
      → spent k i trace waiting + credit scenario.params.nodes (vector_at scenario i past) ≤ scenario.params.nodes + 1
  -- after the exchange none waits
  pub late : k * scenario.params.cycle + scenario.params.bound < length past
      → (spent k i trace waiting ≤ scenario.params.nodes + 1) × (held (rha_of k i) waiting ≡ [])

abbrev pub NodeBudget : ScenarioParts → ℕ → List SlotNote → ℕ → NodeState → Type 0
NodeBudget scenario k trace i node = BudgetKept (scenario_for scenario node.present) k i trace (past_of i trace node) node.waiting

-- ---- a slot

nonempty : {X : Type 0} (xs : List X) → (xs ≡ [] → ⊥) → 0 < length xs
nonempty [] h = absurd (h refl)
nonempty (x ∷ xs) h = omega arith

-- one that is sent waits no longer
pub spent_slot : (k i : ℕ) (note : SlotNote) (trace : List SlotNote) (w : List FrameParts)
    → WaitedWith i note w → spent k i (note ∷ trace) (kept_at (given i note) w) ≤ spent k i trace w
spent_slot k i note trace w sends =
    let x : Identity = rha_of k i in
    elim (held_slot x (given i note) w) [
      | inl same ↦ omega (arith, count-no (is_sent_note k i) note trace (not_sent same.1), ap length same.0)
      | inr sent ↦
          let yes_sent : is_sent_note k i note ≡ true = is_sent-from x sent.0 (given i note) sent.1 sent.2 in
          let some : 0 < length (held x w) = nonempty (held x w) (held_some x sent.0 w sent.2 (sends sent.0 sent.1)) in
          omega (arith, count-yes (is_sent_note k i) note trace yes_sent, ap length sent.3, some)
    ]
  where
    not_sent : ((f : FrameParts) → given i note ≡ Sent f → rha_of k i ≡ identity_of f → ⊥) → is_sent_note k i note ≡ false
    not_sent never = elim (cases_Bool (is_sent_note k i note)) [
      | inl yes_sent ↦ let g = is_sent-true (rha_of k i) (given i note) yes_sent in absurd (never g.what g.was g.identity)
      | inr none ↦ none
    ]

pub budget_slot : (scenario : ScenarioParts) (k i : ℕ) (note : SlotNote) (trace : List SlotNote) (past : List NoticeKind) (w : List FrameParts)
    → WaitedWith i note w → BudgetKept scenario k i trace past w → BudgetKept scenario k i (note ∷ trace) past (kept_at (given i note) w)
budget_slot scenario k i note trace past w sends h =
    let less = spent_slot k i note trace w sends in
    record {
      early = λ n. omega (arith, h.early n, less);
      during = λ from to. omega (arith, h.during from to, less);
      late = λ n. (omega (arith, (h.late n).0, less), held_none (rha_of k i) (given i note) w (h.late n).1);
    }

-- ---- a turn

few_left : (z : LastEffect) (ws : List FrameParts) → ws ≡ [] → length (by_last_effect z ws) ≤ 1
few_left NoEffect ws e = omega (arith, ap length e)
few_left (Asked f) ws e = omega arith
few_left Withdrawn ws e = omega arith

module _ (scenario : ScenarioParts) (k i : ℕ) (trace : List SlotNote) (all : List NoticeKind) (w after : List FrameParts) where
  abbrev n : ℕ
  n = scenario.params.nodes

  abbrev p : Parameters
  p = scenario.params

  abbrev x : Identity
  x = rha_of k i

  -- it has met its vector with one that a notice brought
  met_budget : (old : Option Nodes) (v : Nodes) → spent k i trace w + credit n old ≤ n + 1 → IsVectorOfBus p old
      → ((u : Nodes) → old ≡ Some u → IsPart v u) → AllBelow n v
      → held x after ≡ by_last_effect (met_last_effect p scenario.inc k i all old v) (held x w)
      → spent k i trace after + size v n ≤ n + 1
  unfolding credit is_new
  met_budget None v b below part small now =
      let empty : held x w ≡ [] = nil_from_length (held x w) (omega (arith, b)) in
      let few : length (held x after) ≤ 1 =
      subst (λ ws. length ws ≤ 1) (sym now) (few_left (met_last_effect p scenario.inc k i all None v) (held x w) empty) in
      omega (arith, few, b, size_most v n)
  met_budget (Some u) v b below part small now = by_covered (is_covered p k i v all) refl (u.bits == v.bits) refl
    where
      le : size v n ≤ size u n
      le = size_le n v u (part u refl)

      by_covered : (c : Bool) → is_covered p k i v all ≡ c → (o : Bool) → (u.bits == v.bits) ≡ o → spent k i trace after + size v n ≤ n + 1
      by_covered true c o e =
          let gone : held x after ≡ [] = now ∙ rw c refl in
          omega (arith, ap length gone, b, le)
      by_covered false c true e =
          let same : held x after ≡ held x w = now ∙ rw (c, e) refl in
          omega (arith, ap length same, b, le)
      by_covered false c false e =
          let asked : held x after ≡ rha_frame p.format scenario.inc k i v ∷ [] = now ∙ rw (c, e) refl in
          let less : size v n < size u n =
          size_less n v u (part u refl) small below
          (λ q. both_ways (u.bits == v.bits) e (eq-eqb u.bits v.bits (sym (ap (λ (y : Nodes). y.bits) q)))) in
          omega (arith, ap length asked, b, less)

  exchange_budget : (old got : Option Nodes) → spent k i trace w + credit n old ≤ n + 1 → IsVectorOfBus p old
      → (now_has : Option Nodes) → now_has ≡ met p old got → IsVectorOfBus p now_has
      → held x after ≡ by_last_effect (brought_last_effect p scenario.inc k i all old got) (held x w)
      → spent k i trace after + credit n now_has ≤ n + 1
  unfolding credit met
  exchange_budget old None b below now_has is small now = omega (arith, ap length now, b, ap (credit n) is)
  exchange_budget old (Some got) b below now_has is small now =
      let v : Nodes = met_with p old got in
      let few = met_budget old v b below (part old) (subst (IsVectorOfBus p) is small) now in
      omega (arith, few, ap (credit n) is)
    where
      part : (o : Option Nodes) (u : Nodes) → o ≡ Some u → IsPart (met_with p o got) u
      part o u e = subst (λ (q : Option Nodes). IsPart (met_with p q got) u) (sym e) (meet_left u got)

  start_budget : (start now_has : Option Nodes) → spent k i trace w ≡ 0 → now_has ≡ start
      → held x after ≡ by_last_effect (start_last_effect p scenario.inc k i start) (held x w)
      → spent k i trace after + credit n now_has ≤ n + 1
  unfolding credit
  start_budget None now_has none is now = omega (arith, ap length now, none, ap (credit n) is)
  start_budget (Some v) now_has none is now = omega (arith, ap length now, none, ap (credit n) is, size_most v n)

all_left : (n : ℕ) → credit n None ≡ n + 1
unfolding credit
all_left n = refl

pub budget_turn : (scenario : ScenarioParts) (k i : ℕ) → IsCycle scenario.params k → (trace : List SlotNote) (e : NoticeKind) (past : List NoticeKind)
    (w : List FrameParts) → IsVectorOfBus scenario.params (vector_at scenario i past)
    → IsVectorOfBus scenario.params (vector_at scenario i (e ∷ past))
    → BudgetKept scenario k i trace past w → BudgetKept scenario k i trace (e ∷ past) (waiting_after (turn_effects scenario i (e ∷ past)) w)
budget_turn scenario k i c trace e past w below small h =
    let p : Parameters = scenario.params in
    let x : Identity = rha_of k i in
    let after : List FrameParts = waiting_after (turn_effects scenario i (e ∷ past)) w in
    let now : held x after ≡ by_last_effect (last_effect x (turn_effects scenario i (e ∷ past))) (held x w) = held_after x (turn_effects scenario i (e ∷ past)) w in
    let still : last_effect x (turn_effects scenario i (e ∷ past)) ≡ NoEffect → held x after ≡ held x w =
    λ no_effect. now ∙ ap (λ z. by_last_effect z (held x w)) no_effect in
    record {
      early = λ n.
          let same = still (turn_outside scenario k i c e past (inl (omega (arith, n)))) in
          omega (arith, ap length same, h.early (omega (arith, n)));
      during = λ from to. elim (cases_eq (length past) (k * p.cycle)) [
        | inl at ↦
            let starts = turn_starts scenario k i c e past at in
            start_budget scenario k i trace (e ∷ past) w after (starts_with scenario i e past) (vector_at scenario i (e ∷ past))
            (h.early (omega (arith, at))) starts.vector (now ∙ ap (λ z. by_last_effect z (held x w)) starts.last_effect)
        | inr other ↦
            let from' : k * p.cycle < length past = omega (arith, from, other) in
            let ex = turn_exchanges scenario k i c e past from' (omega (arith, to)) in
            exchange_budget scenario k i trace (e ∷ past) w after (vector_at scenario i past) (brings p.format k e)
            (h.during from' (omega (arith, to))) below (vector_at scenario i (e ∷ past)) ex.vector small
            (now ∙ ap (λ z. by_last_effect z (held x w)) ex.last_effect)
      ];
      late = λ n. elim (cases_eq (length past) (k * p.cycle + p.bound)) [
        | inl at ↦
            let before = h.during (omega (arith, at, c.exchanged)) (omega (arith, at)) in
            elim (turn_ends scenario k i c e past at).last_effect [
              | inl gone ↦
                  let none : held x after ≡ [] = now ∙ ap (λ z. by_last_effect z (held x w)) gone in
                  (omega (arith, ap length none, before), none)
              | inr (no_effect, none) ↦
                  let same = still no_effect in
                  let full : credit p.nodes (vector_at scenario i past) ≡ p.nodes + 1 = ap (credit p.nodes) none ∙ all_left p.nodes in
                  let empty : held x w ≡ [] = nil_from_length (held x w) (omega (arith, before, full)) in
                  (omega (arith, ap length same, before), same ∙ empty)
            ]
        | inr other ↦
            let same = still (turn_outside scenario k i c e past (inr (omega (arith, n, other)))) in
            let before = h.late (omega (arith, n, other)) in
            (omega (arith, ap length same, before.0), same ∙ before.1)
      ];
    }

-- ---- a node that begins

blank_none : (k i : ℕ) (trace : List SlotNote) → AllByRecursion (λ note. note.frame ≡ None) trace → sent_count k i trace ≡ 0
blank_none k i [] h = refl
blank_none k i (note ∷ trace) h =
    count-no (is_sent_note k i) note trace (ap (is_sent (rha_of k i)) (given_idle i note h.0)) ∙ blank_none k i trace h.1

budget_new : (scenario : ScenarioParts) (k : ℕ) (trace : List SlotNote) (i : ℕ) (node : NodeState) → IsNew scenario trace i node
    → NodeBudget scenario k trace i node
budget_new scenario k trace i node new =
    let sc : ScenarioParts = scenario_for scenario node.present in
    let past : List NoticeKind = past_of i trace node in
    let none : spent k i trace node.waiting ≡ 0 = omega (arith, blank_none k i trace new.blank, ap (λ w. length (held (rha_of k i) w)) new.waiting) in
    let full : credit sc.params.nodes (vector_at sc i past) ≡ sc.params.nodes + 1 =
    ap (λ (st : Knowledge). credit sc.params.nodes st.vector) (begun_knowledge sc i past new.past) ∙ all_left sc.params.nodes in
    record {
      early = λ n. none;
      during = λ from to. omega (arith, none, full);
      late = λ n. (omega (arith, none), ap (held (rha_of k i)) new.waiting);
    }

-- ---- along a run

budget_nodes : (scenario : ScenarioParts) (k : ℕ) → IsCycle scenario.params k → AllBelow scenario.params.nodes scenario.members
    → IsReadableNodes scenario (λ sc i trace past waiting. BudgetKept sc k i trace past waiting)
budget_nodes scenario k c first = record {
  new = λ trace i node new. budget_new scenario k trace i node new;
  slot = λ sc i note trace past waiting sends h. budget_slot sc k i note trace past waiting sends h;
  turn = λ inc i trace e past waiting all read h.
      let sc : ScenarioParts = scenario_for scenario inc in
      let members = first_members scenario inc first in
      budget_turn sc k i c trace e past waiting (knowledge_of_bus sc i members past read.1).vector
      (knowledge_of_bus sc i members (e ∷ past) read).vector h;
}

-- so it holds of each running node of every run
pub budget_kept : (scenario : ScenarioParts) (journal : List Step) → scenario.params.nodes ≤ most_nodes → (k : ℕ) → IsCycle scenario.params k
    → AllBelow scenario.params.nodes scenario.members
    → EachRunning (NodeBudget scenario k) (run scenario journal)
budget_kept scenario journal few k c first =
    each_readable scenario (λ sc i trace past waiting. BudgetKept sc k i trace past waiting) (budget_nodes scenario k c first) journal few
