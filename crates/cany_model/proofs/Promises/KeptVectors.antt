-- While vectors of a cycle are exchanged, each vector of the cycle that a node waits with or has
-- sent has all nodes of its present one: the node sends the one that it has after a turn, and that
-- only loses nodes.
use Rattle.std.proofs.Common.{◌≡◌, ℕ, suc, ◌*◌, ◌≤◌, ◌⊎◌, inl, inr, true, false, List, ◌∷◌, drop, length, Option, Some, None, ap, sym, subst, arith}
use Rattle.std.specs.List.{AllByRecursion}
use Rattle.std.proofs.lemmas.Bool.{cases_lt}
use Rattle.cany_base.specs.declared.class.Class.TheVariants as class
use Rattle.cany_base.specs.declared.notice.NoticeKind.{NoticeKind}
use Rattle.cany_base.specs.declared.notice.NoticeKind.TheVariants.{Sent}
use Rattle.cany_base.specs.declared.slot_note.SlotNote.{SlotNote}
use Rattle.cany_base.specs.declared.step.Step.{Step}
use Rattle.cany_base.specs.Frame.{FrameParts}
use Rattle.cany_base.specs.Nodes.{Nodes}
use Rattle.cany_base.specs.Params.{Parameters}
use Rattle.cany_base.specs.Payload.{vector_bytes}
use Rattle.cany_base.specs.Scenario.{ScenarioParts}
use Rattle.cany_model.specs.Bus.History.{given}
use Rattle.cany_model.specs.Runs.Run.{run}
use Rattle.cany_model.specs.Bus.State.{Incarnation, NodeState}
use Rattle.cany_model.specs.Rules.Notices.{IsPart, IsReadAfterStart}
use Rattle.cany_model.specs.Rules.KnowledgeOf.{knowledge_of}
use Rattle.cany_model.specs.Rules.Turn.{scenario_for, turn_effects}
use Rattle.cany_model.specs.Rules.Vectors.{brought, met}
use Rattle.cany_base.specs.Cycles.{is_end, is_start}
use Rattle.cany_base.proofs.SetFacts.{meet_both}
use Rattle.cany_model.proofs.Among.{Each-of, Each-weaker, Among-from_Contains}
use Rattle.cany_model.proofs.Bus.Notes.{given-Sent}
use Rattle.cany_model.proofs.Rules.Waits.{Each-after}
use Rattle.cany_model.proofs.Runs.Steps.{Each-kept}
use Rattle.cany_model.proofs.Promises.Diffusion.{Lived, Turned, past_of}
use Rattle.cany_model.proofs.Promises.EachNode.{EachRunning, IsNew, IsNodes, each_running}
use Rattle.cany_model.proofs.Promises.LateVectors.{asks_in_cycle}
use Rattle.cany_model.proofs.Rules.Site.CycleFacts.{IsExchangeOf, in_exchange, in_start}
use Rattle.cany_model.proofs.Rules.ProtocolFacts.{MayAsk, vector_asked}
use Rattle.cany_model.proofs.Rules.TurnFacts.{turn_only}
use Rattle.cany_model.proofs.Rules.Site.VectorFacts.{vector_met}

-- ---- what is said of a frame

abbrev pub vector_at : ScenarioParts → ℕ → List NoticeKind → Option Nodes
vector_at scenario i past = (knowledge_of scenario i past).vector

-- the frame carries a vector that the node had once, and that has all of this one
pub record CarriesAll (scenario : ScenarioParts) (i : ℕ) (past : List NoticeKind) (v : Nodes) (f : FrameParts) : Type 0 where
  pub what : Nodes
  pub payload : f.payload ≡ vector_bytes scenario.params.format what
  pub part : IsPart v what
  pub place : ℕ
  pub had : vector_at scenario i (drop place past) ≡ Some what

-- there is a vector, and the frame carries all of it
abbrev pub CarriesVector : ScenarioParts → ℕ → List NoticeKind → Option Nodes → FrameParts → Type 0
CarriesVector scenario i past None f = ⊥
CarriesVector scenario i past (Some v) f = CarriesAll scenario i past v f

-- so it is with a frame of the cycle, and the vector that the node has
abbrev pub CoversVector : ScenarioParts → ℕ → ℕ → List NoticeKind → FrameParts → Type 0
CoversVector scenario k i past f = f.class ≡ class.Rha → f.number ≡ k → CarriesVector scenario i past (vector_at scenario i past) f

-- and with one that the node read as sent
abbrev pub IsSentWith : (FrameParts → Type 0) → ℕ → SlotNote → Type 0
IsSentWith P i note = (f : FrameParts) → given i note ≡ Sent f → P f

-- what each frame has that waits at the node, or that it has sent
pub record HoldsOfOwn (P : FrameParts → Type 0) (trace : List SlotNote) (i : ℕ) (node : NodeState) : Type 0 where
  pub waits : AllByRecursion P node.waiting
  pub sent : AllByRecursion (IsSentWith P i) trace

sent_none : (P : FrameParts → Type 0) (i : ℕ) (trace : List SlotNote) → AllByRecursion (λ note. note.frame ≡ None) trace
    → AllByRecursion (IsSentWith P i) trace
sent_none P i trace blank =
    Each-weaker (λ note. note.frame ≡ None) (IsSentWith P i) (λ note none f sent. idle note f none (given-Sent i note f sent).0) trace blank
  where
    idle : (note : SlotNote) (f : FrameParts) → note.frame ≡ None → note.frame ≡ Some f → P f
    idle note f a b = absurd (cc)

own_new : (P : FrameParts → Type 0) (scenario : ScenarioParts) (trace : List SlotNote) (i : ℕ) (node : NodeState)
    → IsNew scenario trace i node
    → HoldsOfOwn P trace i node
own_new P scenario trace i node new = record { waits = rw new.waiting tt; sent = sent_none P i trace new.blank }

own_slot : (P : FrameParts → Type 0) (note : SlotNote) (trace : List SlotNote) (i : ℕ) (node after : NodeState)
    → Lived note trace i node after
    → HoldsOfOwn P trace i node → HoldsOfOwn P (note ∷ trace) i after
own_slot P note trace i node after l h = record {
  waits = rw l.kept (Each-kept P (given i note) node.waiting h.waits);
  sent = (λ f sent. Each-of P f node.waiting h.waits (Among-from_Contains node.waiting f (l.sends f sent)), h.sent);
}

own_weaker : (P Q : FrameParts → Type 0) → ((f : FrameParts) → P f → Q f) → (trace : List SlotNote) (i : ℕ) (node : NodeState)
    → HoldsOfOwn P trace i node
    → HoldsOfOwn Q trace i node
own_weaker P Q gives trace i node h = record {
  waits = Each-weaker P Q gives node.waiting h.waits;
  sent = Each-weaker (IsSentWith P i) (IsSentWith Q i) (λ note k f sent. gives f (k f sent)) trace h.sent;
}

-- a turn, where each frame that it asks for has it too
own_turn : (P : FrameParts → Type 0) (scenario : ScenarioParts) (trace : List SlotNote) (i : ℕ) (node after : NodeState)
    → Turned (turn_effects scenario) trace i node after → ((f : FrameParts) → MayAsk scenario i (past_of i trace after) f → P f)
    → HoldsOfOwn P trace i node → HoldsOfOwn P trace i after
own_turn P scenario trace i node after t asked h = record {
  waits = rw t.waiting (Each-after P (turn_effects scenario i (past_of i trace after)) node.waiting
      (turn_only P scenario i (past_of i trace after) asked) h.waits);
  sent = h.sent;
}

-- ---- after the start of its cycle

abbrev pub LateOwn : ScenarioParts → List SlotNote → ℕ → NodeState → Type 0
LateOwn scenario trace i node = HoldsOfOwn (IsReadAfterStart scenario.params (length (past_of i trace node))) trace i node

late_own : (scenario : ScenarioParts) → IsNodes scenario (LateOwn scenario)
late_own scenario = record {
  new = λ trace i node new. own_new (IsReadAfterStart scenario.params (length (past_of i trace node))) scenario trace i node new;
  slot = λ note trace i node after same l h.
      own_weaker (IsReadAfterStart scenario.params (length (past_of i trace node)))
      (IsReadAfterStart scenario.params (length (past_of i (note ∷ trace) after)))
      (λ f k rha. let late = k rha in omega (arith, late, ap length l.past)) (note ∷ trace) i after
      (own_slot (IsReadAfterStart scenario.params (length (past_of i trace node))) note trace i node after l h);
  turn = λ trace i node after same t h.
      own_turn (IsReadAfterStart scenario.params (length (past_of i trace after))) (scenario_for scenario node.present) trace i node after t
      (λ f may. asks_in_cycle (scenario_for scenario node.present) i (past_of i trace after) f may)
      (own_weaker (IsReadAfterStart scenario.params (length (past_of i trace node)))
      (IsReadAfterStart scenario.params (length (past_of i trace after)))
      (λ f k rha. let late = k rha in omega (arith, late, ap length t.past)) trace i node h);
}

-- ---- the vector of the node

-- what a vector carries that has it all, carries all that is left of it once it was met
carries_met : (scenario : ScenarioParts) (i : ℕ) (e : NoticeKind) (past : List NoticeKind) (old o : Option Nodes) (f : FrameParts)
    → CarriesVector scenario i past old f → CarriesVector scenario i (e ∷ past) (met scenario.params old o) f
unfolding met
carries_met scenario i e past None o f h = absurd h
carries_met scenario i e past (Some v) None f h =
    record { what = h.what; payload = h.payload; part = h.part; place = suc h.place; had = h.had }
carries_met scenario i e past (Some v) (Some w) f h = record {
  what = h.what;
  payload = h.payload;
  part = λ r left. h.part r (meet_both v w r left).0;
  place = suc h.place;
  had = h.had;
}

-- the vector that a node may ask for is the one that it has after the turn, but at the end of the
-- exchange
asked_covers : (scenario : ScenarioParts) (i : ℕ) (past : List NoticeKind)
    → ((slot : ℕ) → length past ≡ suc slot → (is_start scenario.params slot ≡ true) ⊎ (is_end scenario.params slot ≡ false))
    → (k : ℕ) (f : FrameParts) → MayAsk scenario i past f → CoversVector scenario k i past f
asked_covers scenario i past goes k f may rha number =
    let asks = vector_asked scenario i past f may rha in
    let now = asks.sends.vector (goes asks.slot asks.sends.now) in
    subst (λ o. CarriesVector scenario i past o f) (sym now)
    (record { what = asks.what; payload = ap (λ (g : FrameParts). g.payload) (sym asks.frame); part = λ r h. h; place = 0; had = now })

-- ---- along a run

-- While vectors of a cycle are exchanged, each of the cycle that waits at the node or that it has
-- sent has all of the present one; and none is of a cycle that has not started.
pub record IsKeptVector (scenario : ScenarioParts) (trace : List SlotNote) (i : ℕ) (node : NodeState) : Type 0 where
  pub late : LateOwn scenario trace i node
  pub covers : (k : ℕ) → IsExchangeOf scenario.params k (length (past_of i trace node))
      → HoldsOfOwn (CoversVector (scenario_for scenario node.present) k i (past_of i trace node)) trace i node

module _ (scenario : ScenarioParts) (short : scenario.params.bound ≤ scenario.params.cycle) where
  kept_new : (trace : List SlotNote) (i : ℕ) (node : NodeState) → IsNew scenario trace i node → IsKeptVector scenario trace i node
  kept_new trace i node new = record {
    late = (late_own scenario).new trace i node new;
    covers = λ k open_slot. own_new _ scenario trace i node new;
  }

  kept_slot : (note : SlotNote) (trace : List SlotNote) (i : ℕ) (node after : NodeState) → after.present ≡ node.present
      → Lived note trace i node after
      → IsKeptVector scenario trace i node → IsKeptVector scenario (note ∷ trace) i after
  kept_slot note trace i node after same l h =
      let sc : ScenarioParts = scenario_for scenario node.present in
      record {
        late = (late_own scenario).slot note trace i node after same l h.late;
        covers = λ k exchange.
            subst (λ (inc : Incarnation). HoldsOfOwn (CoversVector (scenario_for scenario inc) k i (past_of i (note ∷ trace) after)) (note ∷ trace) i after)
            (sym same)
            (subst (λ past. HoldsOfOwn (CoversVector sc k i past) (note ∷ trace) i after) (sym l.past)
            (own_slot (CoversVector sc k i (past_of i trace node)) note trace i node after l
            (h.covers k (subst (λ past. IsExchangeOf scenario.params k (length past)) l.past exchange))));
      }

  -- what it has of the cycle before the turn, if vectors of the cycle are exchanged after it
  before_turn : (trace : List SlotNote) (i : ℕ) (node : NodeState) (e : NoticeKind) → IsKeptVector scenario trace i node → (k : ℕ)
      → let past = past_of i trace node in
      let sc = scenario_for scenario node.present in
      IsExchangeOf scenario.params k (suc (length past))
      → HoldsOfOwn (CoversVector sc k i (e ∷ past)) trace i node
      × ((is_start scenario.params (length past) ≡ true) ⊎ (is_end scenario.params (length past) ≡ false))
  before_turn trace i node e h k exchange =
      let p : Parameters = scenario.params in
      let past : List NoticeKind = past_of i trace node in
      let sc : ScenarioParts = scenario_for scenario node.present in
      elim (cases_lt (k * p.cycle) (length past)) [
        | inl later ↦
            let inside = in_exchange p k (length past) short later (omega (arith, exchange.until)) in
            let earlier = h.covers k (record { cycle = exchange.cycle; after = later; until = omega (arith, exchange.until) }) in (
              own_weaker (CoversVector sc k i past) (CoversVector sc k i (e ∷ past))
                  (λ f covers rha number. subst (λ o. CarriesVector sc i (e ∷ past) o f) (sym (vector_met sc i e past inside.start inside.last))
                  (carries_met sc i e past (vector_at sc i past) (brought p (length past) e) f (covers rha number))) trace i node earlier,
              inr inside.last,
            )
        | inr first ↦
            let at : length past ≡ k * p.cycle = omega (arith, first, exchange.after) in (
              own_weaker (IsReadAfterStart p (length past)) (CoversVector sc k i (e ∷ past))
                  (λ f late rha number.
                  let early = late rha in
                  let same : f.number * p.cycle ≡ k * p.cycle = ap (λ n. n * p.cycle) number in
                  absurd (omega (arith, early, same, at))) trace i node h.late,
              inl (in_start p k (length past) exchange.cycle (omega (arith, short, exchange.until, at)) at),
            )
      ]

  kept_turn : (trace : List SlotNote) (i : ℕ) (node after : NodeState) → after.present ≡ node.present
      → Turned (turn_effects (scenario_for scenario node.present)) trace i node after → IsKeptVector scenario trace i node
      → IsKeptVector scenario trace i after
  kept_turn trace i node after same t h =
      let p : Parameters = scenario.params in
      let sc : ScenarioParts = scenario_for scenario node.present in
      record {
        late = (late_own scenario).turn trace i node after same t h.late;
        covers = λ k exchange.
            let old = before_turn trace i node t.notice h k (subst (λ past. IsExchangeOf p k (length past)) t.past exchange) in
            subst (λ (inc : Incarnation). HoldsOfOwn (CoversVector (scenario_for scenario inc) k i (past_of i trace after)) trace i after) (sym same)
            (own_turn (CoversVector sc k i (past_of i trace after)) sc trace i node after t
            (λ f may. asked_covers sc i (past_of i trace after)
            (λ slot at.
            let here : length (past_of i trace node) ≡ slot = omega (arith, at, ap length t.past) in
            subst (λ n. (is_start p n ≡ true) ⊎ (is_end p n ≡ false)) here old.1) k f may)
            (subst (λ past. HoldsOfOwn (CoversVector sc k i past) trace i node) (sym t.past) old.0));
      }

  pub kept_vectors : (journal : List Step) → EachRunning (IsKeptVector scenario) (run scenario journal)
  kept_vectors journal =
      each_running scenario (IsKeptVector scenario) (record { new = kept_new; slot = kept_slot; turn = kept_turn }) journal
