-- Where the vectors with which members start a cycle agree on a node, all vectors of the cycle do,
-- and so does what is installed at its end. Of scenarios without restart entries.
use Rattle.std.proofs.Common.{◌≡◌, ℕ, zero, suc, ◌+◌, ◌*◌, ◌<◌, ◌≤◌, ◌==◌, ◌&&◌, ◌++◌, inl, inr, Bool, true, false, if◌then◌else◌, List, [], ◌∷◌, length, Option, Some, None, Contains, nat_lt, slice_index_or, unwrap_or, refl, ap, sym, ◌∙◌, subst, arith}
use Rattle.std.specs.List.{AllByRecursion}
use Rattle.std.proofs.lemmas.Bool.{and_from, and_right, both_ways, cases_eq, cond-true, cond_both, eq-eqb, lt-ltb}
use Rattle.cany_base.specs.Limits.{most_nodes}
use Rattle.cany_base.specs.declared.class.Class.TheVariants as class
use Rattle.cany_base.specs.declared.format.Format.{Format}
use Rattle.cany_base.specs.declared.format.Format.TheVariants.{One, Two}
use Rattle.cany_base.specs.declared.notice.NoticeKind.{NoticeKind}
use Rattle.cany_base.specs.declared.notice.NoticeKind.TheVariants.{Idle, Got, Sent, Bad}
use Rattle.cany_base.specs.declared.slot_note.SlotNote.{SlotNote}
use Rattle.cany_base.specs.declared.step.Step.{Step}
use Rattle.cany_base.specs.Frame.{FrameParts}
use Rattle.cany_base.specs.Layout.{layout}
use Rattle.cany_base.specs.Nodes.{AllBelow, Nodes, has, meet}
use Rattle.cany_base.specs.Params.{Parameters}
use Rattle.cany_base.specs.Payload.{vector_bytes, vector_of}
use Rattle.cany_base.specs.Scenario.{ScenarioParts}
use Rattle.cany_model.specs.Bus.Frames.{same_class}
use Rattle.cany_model.specs.Bus.History.{given, history, seen}
use Rattle.cany_model.specs.Runs.Run.{after_turn, run}
use Rattle.cany_model.specs.Bus.Slot.{FaultScript, after_slot, script, slot_note_of}
use Rattle.cany_model.specs.Bus.State.{NodeState, RunState, node_at, opening, runs}
use Rattle.cany_model.specs.Promises.OneView.{installed_of}
use Rattle.cany_model.specs.Rules.Backlog.{tot_backlog}
use Rattle.cany_model.specs.Rules.Edcan.{edcan}
use Rattle.cany_model.specs.Rules.Effect.{Effect, Ask, Withdraw, Enter, waiting_after}
use Rattle.cany_model.specs.Rules.Life.{failure_signs, life_signs}
use Rattle.cany_model.specs.Rules.Membership.{exchange_effects, scripted_asks, views}
use Rattle.cany_model.specs.Rules.Notices.{IsReadable}
use Rattle.cany_model.specs.Rules.Protocol.{Protocol}
use Rattle.cany_model.specs.Rules.Relcan.{relcan}
use Rattle.cany_model.specs.Rules.Sends.{scripted_sends}
use Rattle.cany_model.specs.Rules.Totcan.{totcan}
use Rattle.cany_model.specs.Rules.Turn.{protocols, turn_effects}
use Rattle.cany_model.specs.Rules.Vectors.{brought, end_effects, ended, everybody, exchange_at, is_covered, is_new, met, met_with, rha_frame, rha_of, start_effects, vector_effects, vector_in}
use Rattle.cany_base.specs.Cycles.{cycle_of, is_start}
use Rattle.cany_base.proofs.SetFacts.{below_meet}
use Rattle.cany_model.proofs.Among.{Each-append, Each-flat_map, Each-of, Each-weaker, Among-from_Contains, Among-get_or, Contains-from_Among}
use Rattle.cany_model.proofs.Bus.EachRead.{EachRead}
use Rattle.cany_model.proofs.Bus.Identities.{same_class_self}
use Rattle.cany_model.proofs.Bus.Notes.{given-Got, note_of-offered, placed_where}
use Rattle.cany_model.proofs.Runs.Runs.{IsOrderly, history-length, history-opening, opening_within, orderly}
use Rattle.cany_model.proofs.Bus.Seen.{history-is}
use Rattle.cany_model.proofs.Bus.States.{no_note, node_at-opening, note_at, runs_within}
use Rattle.cany_model.proofs.Runs.Steps.{MayTurn, after_slot-history, after_slot-trace, after_slot-waiting, after_turn-history, after_turn-node, after_turn-other, after_turn-other_history, after_turn-runs, after_turn-trace, next_age, next_notice, running_before_slot, Each-kept}
use Rattle.cany_model.proofs.Rules.Waits.{AsksOnly, Each-after}
use Rattle.cany_model.proofs.Promises.WaitingIsAskable.{all_belong, readable}
use Rattle.cany_model.proofs.Promises.Diffusion.{past_of}
use Rattle.cany_model.proofs.Promises.KeptVectors.{vector_at}
use Rattle.cany_model.proofs.Rules.Site.CycleFacts.{exchange_slot, start_slot}
use Rattle.cany_model.proofs.Rules.ProtocolFacts.{IsFounded, IsLawful}
use Rattle.cany_model.proofs.Rules.Protocols.{are_lawful}
use Rattle.cany_model.proofs.Rules.Site.KnowledgeNodes.{IsVectorOfBus, everybody_below, knowledge_of_bus}
use Rattle.cany_model.proofs.Rules.Site.VectorFacts.{brought_exchanged, carries_vector, vector_starts}
use Rattle.cany_model.proofs.Timed.Common.StepsWithoutRestarts.{along_fronts}
use Rattle.cany_model.proofs.Timed.Detector.NoRestarts.{AllOriginal, all_original, follows, sees_all}
use Rattle.cany_model.proofs.Timed.Views.ReadableNodes.{run_readable}
pub use Rattle.cany_model.proofs.Timed.Views.OneVector.{installed_before, installed_here as installed_now}
use Rattle.cany_model.proofs.Timed.Views.VectorSets.{vector_again}
use Rattle.cany_model.proofs.Timed.Views.VectorTurns.{starts_with, turn_ends, turn_exchanges, turn_starts}
use Rattle.cany_model.proofs.Timed.Views.VectorLastEffect.{IsCycle, brings, brought_in}

-- ---- what is said of node r

-- a vector, if there is one, has it or has it not
abbrev pub Says : ℕ → Bool → Option Nodes → Type 0
Says r b o = (v : Nodes) → o ≡ Some v → has v r ≡ b

pub none_says : (r : ℕ) (b : Bool) → Says r b None
none_says r b v e = absurd (cc)

pub some_says : (r : ℕ) (b : Bool) (v : Nodes) → has v r ≡ b → Says r b (Some v)
some_says r b v h w e = let same : v ≡ w = cc in ap (λ x. has x r) (sym same) ∙ h

-- so with the vector of cycle k in a frame, and in a slot
abbrev pub FrameSays : Format → ℕ → ℕ → Bool → FrameParts → Type 0
FrameSays format k r b f = Says r b (vector_in format k f)

abbrev pub NoteSays : Format → ℕ → ℕ → Bool → SlotNote → Type 0
NoteSays format k r b note = (f : FrameParts) → note.frame ≡ Some f → FrameSays format k r b f

everybody_has : (p : Parameters) (r : ℕ) → r < most_nodes → r < p.nodes → has (everybody p) r ≡ true
everybody_has p r few below = placed_where (λ x. nat_lt x p.nodes) r few ∙ lt-ltb r p.nodes below

meet_says : (r : ℕ) (b : Bool) (u w : Nodes) → r < most_nodes → (b ≡ true → has u r ≡ true) → has w r ≡ b → has (meet u w) r ≡ b
meet_says r true u w few own got = placed_where (λ x. has u x && has w x) r few ∙ and_from (has u r) (has w r) (own refl) got
meet_says r false u w few own got = placed_where (λ x. has u x && has w x) r few ∙ and_right (has u r) (has w r) got

own_says : (p : Parameters) (r : ℕ) (b : Bool) (old : Option Nodes) → r < most_nodes → r < p.nodes → Says r b old → b ≡ true
    → has (unwrap_or old (everybody p)) r ≡ true
own_says p r b None few below h e = everybody_has p r few below
own_says p r b (Some v) few below h e = h v refl ∙ e

-- a vector that is met with another one that says so
pub met_says : (p : Parameters) (r : ℕ) (b : Bool) (old got : Option Nodes) → r < most_nodes → r < p.nodes → Says r b old → Says r b got
    → Says r b (met p old got)
unfolding met
met_says p r b old None few below h g = h
met_says p r b old (Some w) few below h g =
    some_says r b (met_with p old w) (meet_says r b (unwrap_or old (everybody p)) w few (own_says p r b old few below h) (g w refl))

-- what a notice brings, its slot carried
pub brings_says : (format : Format) (k r : ℕ) (b : Bool) (i : ℕ) (note : SlotNote) → NoteSays format k r b note
    → Says r b (brings format k (given i note))
brings_says format k r b i note says = by_notice (given i note) refl
  where
    by_notice : (e : NoticeKind) → given i note ≡ e → Says r b (brings format k e)
    by_notice Idle h = none_says r b
    by_notice Bad h = none_says r b
    by_notice (Sent f) h = none_says r b
    by_notice (Got f) h = says f (given-Got i note f h).0

-- ---- the frames that a turn asks for

own_below : (p : Parameters) (old : Option Nodes) → IsVectorOfBus p old → AllBelow p.nodes (unwrap_or old (everybody p))
own_below p None below = everybody_below p
own_below p (Some v) below = below

-- the frame of a vector says what the vector says
rha_says : (p : Parameters) → p.nodes ≤ (layout p.format).nodes → (k r : ℕ) (b : Bool) (inc c i : ℕ) (v : Nodes) → AllBelow p.nodes v
    → (c ≡ k → has v r ≡ b) → FrameSays p.format k r b (rha_frame p.format inc c i v)
rha_says p fits k r b inc c i v below says u e =
    let at : c ≡ k = (carries_vector p.format k (rha_frame p.format inc c i v) u e).1 in
    let same : vector_in p.format k (rha_frame p.format inc c i v) ≡ Some v =
    cond-true (same_class class.Rha class.Rha && c == k) (vector_of p.format (vector_bytes p.format v)) None
    (and_from (same_class class.Rha class.Rha) (c == k) (same_class_self class.Rha) (eq-eqb c k at))
    ∙ vector_again p.format v (λ q h. omega (arith, below q h, fits)) in
    some_says r b v (says at) u (sym same ∙ e)

-- what is said of the vector with which a cycle starts
abbrev pub StartSays : ScenarioParts → ℕ → ℕ → Bool → ℕ → NoticeKind → List NoticeKind → Type 0
StartSays scenario k r b i e past = length past ≡ k * scenario.params.cycle → Says r b (starts_with scenario i e past)

-- and of what a node has while vectors of the cycle are exchanged
abbrev pub VectorSays : ScenarioParts → ℕ → ℕ → Bool → ℕ → List NoticeKind → Type 0
VectorSays scenario k r b i past =
    k * scenario.params.cycle < length past → length past ≤ k * scenario.params.cycle + scenario.params.bound → Says r b (vector_at scenario i past)

module _ (scenario : ScenarioParts) (fits : scenario.params.nodes ≤ (layout scenario.params.format).nodes)
    (first : AllBelow scenario.params.nodes scenario.members) (k r : ℕ) (few : r < most_nodes) (below : r < scenario.params.nodes) (b : Bool)
    (c : IsCycle scenario.params k) (i : ℕ) (e : NoticeKind) (past : List NoticeKind) (read : EachRead (IsReadable scenario) (e ∷ past))
    (got : Says r b (brings scenario.params.format k e)) (start : StartSays scenario k r b i e past) (own : VectorSays scenario k r b i past)
  where
    abbrev p : Parameters
    p = scenario.params

    abbrev slot : ℕ
    slot = length past

    abbrev Only : Effect → Type 0
    Only = AsksOnly (FrameSays p.format k r b)

    brought_only : (w : Option Nodes) → brought p slot e ≡ w
        → AllByRecursion Only (vector_effects p scenario.inc i slot (e ∷ past) (vector_at scenario i past) w)
    unfolding vector_effects
    brought_only None is = tt
    brought_only (Some w) is =
        let old : Option Nodes = vector_at scenario i past in
        let v : Nodes = met_with p old w in
        let during = brought_exchanged p slot e w is in
        let at = exchange_slot p slot during in
        let says : cycle_of p slot ≡ k → has v r ≡ b = λ same.
        let start_k : cycle_of p slot * p.cycle ≡ k * p.cycle = ap (λ n. n * p.cycle) same in
        let own_now = own (omega (arith, at.after, start_k)) (omega (arith, at.until, start_k)) in
        let brings_w : brings p.format k e ≡ Some w = sym (brought_in p k slot e same during) ∙ is in
        meet_says r b (unwrap_or old (everybody p)) w few (own_says p r b old few below own_now) (got w brings_w) in
        let bus : AllBelow p.nodes v =
        below_meet p.nodes (unwrap_or old (everybody p)) w (own_below p old (knowledge_of_bus scenario i first past read.1).vector) in
        cond_both (is_covered p (cycle_of p slot) i v (e ∷ past)) (Withdraw (rha_of (cycle_of p slot) i) ∷ [])
        (if is_new old v then Ask (rha_frame p.format scenario.inc (cycle_of p slot) i v) ∷ [] else []) (AllByRecursion Only)
        (λ _. (tt, tt))
        (λ _. cond_both (is_new old v) (Ask (rha_frame p.format scenario.inc (cycle_of p slot) i v) ∷ []) [] (AllByRecursion Only)
        (λ _. (rha_says p fits k r b scenario.inc (cycle_of p slot) i v bus says, tt)) (λ _. tt))

    end_only : (v : Option Nodes) → AllByRecursion Only (end_effects p i slot v)
    unfolding end_effects
    end_only None = tt
    end_only (Some v) = (tt, tt)

    start_only : (v : Option Nodes) → starts_with scenario i e past ≡ v → AllByRecursion Only (start_effects p scenario.inc i slot v)
    unfolding start_effects
    start_only None is = tt
    start_only (Some v) is =
        cond_both (is_start p slot) (Ask (rha_frame p.format scenario.inc (cycle_of p slot) i v) ∷ []) [] (AllByRecursion Only)
        (λ starts.
        let bus : AllBelow p.nodes v =
        subst (IsVectorOfBus p) (vector_starts scenario i e past starts ∙ is) (knowledge_of_bus scenario i first (e ∷ past) read).vector in (
          rha_says p fits k r b scenario.inc (cycle_of p slot) i v bus
              (λ same. start (start_slot p slot starts ∙ ap (λ n. n * p.cycle) same) v is),
          tt,
        ))
        (λ _. tt)

    vectors_only : AllByRecursion Only (exchange_effects scenario i (e ∷ past))
    unfolding exchange_effects exchange_at
    vectors_only =
        let old : Option Nodes = vector_at scenario i past in
        let asked : List Effect = vector_effects p scenario.inc i slot (e ∷ past) old (brought p slot e) in
        let gone : List Effect = end_effects p i slot (ended p slot (met p old (brought p slot e))) in
        Each-append Only (asked ++ gone) (start_effects p scenario.inc i slot (starts_with scenario i e past))
        (Each-append Only asked gone (brought_only (brought p slot e) refl) (end_only (ended p slot (met p old (brought p slot e)))))
        (start_only (starts_with scenario i e past) refl)

    -- the other protocols ask for no vector
    others_only : (q : Protocol) → IsLawful q → q.names class.Rha ≡ false → AllByRecursion Only (q.effects scenario i (e ∷ past))
    others_only q lawful other =
        Each-weaker (IsFounded scenario q i (e ∷ past)) Only one (q.effects scenario i (e ∷ past)) (lawful.founded scenario i (e ∷ past))
      where
        one : (effect : Effect) → IsFounded scenario q i (e ∷ past) effect → Only effect
        one (Ask f) founded = λ v is.
            absurd (both_ways (q.names class.Rha) other (ap (λ x. q.names x) (sym (carries_vector p.format k f v is).0) ∙ founded.1))
        one (Withdraw x) founded = tt
        one (Enter entry) founded = tt

    turn_only : AllByRecursion Only (turn_effects scenario i (e ∷ past))
    unfolding turn_effects same_class
    turn_only =
        let l = are_lawful in
        Each-flat_map (λ q. q.effects scenario i (e ∷ past)) Only protocols (
          others_only edcan l.0 refl,
          (
            others_only relcan l.1.0 refl,
            (
              others_only totcan l.1.1.0 refl,
              (
                others_only failure_signs l.1.1.1.0 refl,
                (
                  vectors_only,
                  (
                    others_only views l.1.1.1.1.1.0 refl,
                    (
                      others_only life_signs l.1.1.1.1.1.1.0 refl,
                      (
                        others_only scripted_sends l.1.1.1.1.1.1.1.0 refl,
                        (others_only scripted_asks l.1.1.1.1.1.1.1.1.0 refl, (others_only tot_backlog l.1.1.1.1.1.1.1.1.1.0 refl, tt)),
                      ),
                    ),
                  ),
                ),
              ),
            ),
          ),
        )

    -- ---- what is said after the turn

    -- what is installed at the end of the cycle
    abbrev InstalledSays : List NoticeKind → Type 0
    InstalledSays l = Says r b (installed_of scenario i k l)

    vector_next : VectorSays scenario k r b i (e ∷ past)
    vector_next from to = elim (cases_eq slot (k * p.cycle)) [
      | inl at ↦ subst (Says r b) (sym (turn_starts scenario k i c e past at).vector) (start at)
      | inr later ↦
          subst (Says r b) (sym (turn_exchanges scenario k i c e past (omega (arith, from, later)) (omega (arith, to))).vector)
          (met_says p r b (vector_at scenario i past) (brings p.format k e) few below (own (omega (arith, from, later)) (omega (arith, to))) got)
    ]

    installed_next : InstalledSays past → InstalledSays (e ∷ past)
    installed_next before = elim (cases_eq slot (k * p.cycle + p.bound)) [
      | inr other ↦ subst (Says r b) (sym (installed_before scenario i k e past other)) before
      | inl at ↦
          let now : installed_of scenario i k (e ∷ past) ≡ met p (vector_at scenario i past) (brings p.format k e) =
          installed_now scenario i k e past at ∙ (turn_ends scenario k i c e past at).installs in
          subst (Says r b) (sym now)
          (met_says p r b (vector_at scenario i past) (brings p.format k e) few below (own (omega (arith, at, c.exchanged)) (omega (arith, at))) got)
    ]

-- ---- every run

-- what is said of a running node
pub record NodeSays (scenario : ScenarioParts) (k r : ℕ) (b : Bool) (i : ℕ) (past : List NoticeKind) (waiting : List FrameParts) : Type 0 where
  pub vector : VectorSays scenario k r b i past
  pub waits : AllByRecursion (FrameSays scenario.params.format k r b) waiting
  pub installs : Says r b (installed_of scenario i k past)

pub record AllVectorsSay (scenario : ScenarioParts) (k r : ℕ) (b : Bool) (s : RunState) : Type 0 where
  pub notes : AllByRecursion (NoteSays scenario.params.format k r b) s.trace
  pub nodes : (i : ℕ) → runs (node_at s.nodes i) ≡ true → NodeSays scenario k r b i (history i s) (node_at s.nodes i).waiting

says_opening : (scenario : ScenarioParts) (k r : ℕ) (b : Bool) → AllVectorsSay scenario k r b (opening scenario.params.nodes)
unfolding installed_of
says_opening scenario k r b = record {
  notes = tt;
  nodes = λ i running.
      rw (history-opening scenario.params.nodes i, node_at-opening scenario.params.nodes i (opening_within scenario.params.nodes i running)) (record {
        vector = λ from to. absurd (omega (arith, from));
        waits = tt;
        installs = none_says r b;
      });
}

says_slot : (scenario : ScenarioParts) (k r : ℕ) (b : Bool) (rules : FaultScript) (s : RunState) → AllVectorsSay scenario k r b s
    → AllVectorsSay scenario k r b (after_slot rules s)
says_slot scenario k r b rules s h = record {
  notes = subst (AllByRecursion (NoteSays scenario.params.format k r b)) (sym (after_slot-trace rules s)) (now, h.notes);
  nodes = λ i running.
      let before = (running_before_slot rules s i running).0 in
      let old = h.nodes i before in
      rw (after_slot-history rules s i (runs_within s.nodes i before), after_slot-waiting rules s i before) (record {
        vector = old.vector;
        waits = Each-kept (FrameSays scenario.params.format k r b) (given i (slot_note_of rules s)) (node_at s.nodes i).waiting old.waits;
        installs = old.installs;
      });
}
  where
    now : NoteSays scenario.params.format k r b (slot_note_of rules s)
    now f frame =
        let offer = note_of-offered rules s f frame in
        Each-of (FrameSays scenario.params.format k r b) f (node_at s.nodes offer.node).waiting (h.nodes offer.node offer.running).waits
        (Among-from_Contains (node_at s.nodes offer.node).waiting f offer.waits)

pub each_at : {X : Type 0} (P : X → Type 0) (xs : List X) (age : ℕ) (d : X) → AllByRecursion P xs → age < length xs → P (slice_index_or xs age d)
each_at P [] age d all h = absurd (omega (arith, h))
each_at P (x ∷ xs) zero d all h = all.0
each_at P (x ∷ xs) (suc age) d all h = each_at P xs age d all.1 (omega (arith, h))

-- the notice of a turn that may be taken is that of a slot of the trace, and can be read
pub next_there : (nodes : ℕ) (s : RunState) → IsOrderly nodes s → (i : ℕ) → MayTurn s i → next_age s i < length s.trace
next_there nodes s o i may = omega (arith, may.unread, o.unread i)

-- a format has no more nodes than there can be
pub most : (format : Format) (nodes : ℕ) → nodes ≤ (layout format).nodes → nodes ≤ most_nodes
most One nodes h = omega (arith, h)
most Two nodes h = h

pub few_of : (scenario : ScenarioParts) → scenario.params.nodes ≤ (layout scenario.params.format).nodes → (r : ℕ) → r < scenario.params.nodes
    → r < most_nodes
few_of scenario fits r below = omega (arith, below, most scenario.params.format scenario.params.nodes fits)

module _ (scenario : ScenarioParts) (fits : scenario.params.nodes ≤ (layout scenario.params.format).nodes)
    (first : AllBelow scenario.params.nodes scenario.members) (none : scenario.restarts ≡ []) (journal : List Step)
  where
    abbrev s : RunState
    s = run scenario journal

    few_nodes : scenario.params.nodes ≤ most_nodes
    few_nodes = most scenario.params.format scenario.params.nodes fits

    all_plain : AllOriginal s
    all_plain = all_original scenario none journal

    pub next_given : (i : ℕ)
        → next_notice (run scenario journal) i ≡ given i (note_at (run scenario journal).trace (next_age (run scenario journal) i))
    next_given i = ap (λ trace. given i (note_at trace (next_age s i))) (sees_all scenario s all_plain i s.trace)

    next_readable : (i : ℕ) → MayTurn s i → IsReadable scenario (length (history i s)) (next_notice s i)
    next_readable i may =
        let age : ℕ = next_age s i in
        let o = orderly scenario journal in
        let there = next_there scenario.params.nodes s o i may in
        let note : SlotNote = note_at s.trace age in
        let stands : Contains s.trace note = Contains-from_Among s.trace note (Among-get_or (λ n. n ≡ note) s.trace age no_note there refl) in
        let slot : note.slot ≡ length (history i s) = omega (arith, o.numbered age there, history-length i s, may.unread, there) in
        subst (IsReadable scenario (length (history i s))) (sym (next_given i))
        (subst (λ n. IsReadable scenario n (given i note)) slot (readable scenario s i note (all_belong scenario journal few_nodes) stands))

    pub read_next : (i : ℕ) → MayTurn (run scenario journal) i
        → EachRead (IsReadable scenario) (next_notice (run scenario journal) i ∷ history i (run scenario journal))
    read_next i may = (
      next_readable i may,
      subst (EachRead (IsReadable scenario)) (sym (history-is i s))
          (subst (λ (sc : ScenarioParts). EachRead (IsReadable sc) (past_of i (seen (node_at s.nodes i).present s.trace) (node_at s.nodes i)))
          (follows scenario s all_plain i) (run_readable scenario journal few_nodes i)),
    )

    says_turn : (k r : ℕ) (b : Bool) → IsCycle scenario.params k → r < scenario.params.nodes → (i : ℕ) → MayTurn s i
        → StartSays scenario k r b i (next_notice s i) (history i s) → AllVectorsSay scenario k r b s → AllVectorsSay scenario k r b (after_turn scenario i s)
    says_turn k r b c below i may start h =
        let o = orderly scenario journal in
        let short = o.unread i in
        let node : NodeState = node_at s.nodes i in
        let e : NoticeKind = next_notice s i in
        let past : List NoticeKind = history i s in
        let few : r < most_nodes = omega (arith, below, few_nodes) in
        let got : Says r b (brings scenario.params.format k e) =
        subst (λ x. Says r b (brings scenario.params.format k x)) (sym (next_given i))
        (brings_says scenario.params.format k r b i (note_at s.trace (next_age s i))
        (each_at (NoteSays scenario.params.format k r b) s.trace (next_age s i) no_note h.notes (next_there scenario.params.nodes s o i may))) in
        let old = h.nodes i may.running in
        let read = read_next i may in
        let waiting : (node_at (after_turn scenario i s).nodes i).waiting ≡ waiting_after (turn_effects scenario i (e ∷ past)) node.waiting =
        ap (λ (n : NodeState). n.waiting) (after_turn-node scenario i s may short)
        ∙ ap (λ (sc : ScenarioParts). waiting_after (turn_effects sc i (next_notice s i ∷ history i s)) (node_at s.nodes i).waiting)
        (follows scenario s all_plain i) in
        record {
          notes = subst (AllByRecursion (NoteSays scenario.params.format k r b)) (sym (after_turn-trace scenario i s)) h.notes;
          nodes = λ j running. elim (cases_eq j i) [
            | inl same ↦
                subst (λ m. NodeSays scenario k r b m (history m (after_turn scenario i s)) (node_at (after_turn scenario i s).nodes m).waiting)
                (sym same)
                (rw (after_turn-history scenario i s may short, waiting) (record {
                  vector = vector_next scenario fits first k r few below b c i e past read got start old.vector;
                  waits = Each-after (FrameSays scenario.params.format k r b) (turn_effects scenario i (e ∷ past)) node.waiting
                      (turn_only scenario fits first k r few below b c i e past read got start old.vector) old.waits;
                  installs = installed_next scenario fits first k r few below b c i e past read got start old.vector old.installs;
                }))
            | inr other ↦
                rw (after_turn-other_history scenario i s j other, after_turn-other scenario i s j other)
                (h.nodes j (sym (after_turn-runs scenario i s j may short) ∙ running))
          ];
        }

-- where each start of the cycle says so, so does what is installed at its end
pub all_vectors_say : (scenario : ScenarioParts) → scenario.params.nodes ≤ (layout scenario.params.format).nodes
    → AllBelow scenario.params.nodes scenario.members → scenario.restarts ≡ [] → (k r : ℕ) (b : Bool) → IsCycle scenario.params k
    → r < scenario.params.nodes → (journal : List Step)
    → ((front rest : List Step) → journal ≡ front ++ rest → (i : ℕ) → MayTurn (run scenario front) i
    → StartSays scenario k r b i (next_notice (run scenario front) i) (history i (run scenario front)))
    → AllVectorsSay scenario k r b (run scenario journal)
all_vectors_say scenario fits first none k r b c below journal starts =
    along_fronts scenario none (AllVectorsSay scenario k r b) journal (says_opening scenario k r b) (λ front rest e. record {
      slot = λ may h. says_slot scenario k r b (script scenario.rules) (run scenario front) h;
      turn = λ i may h. says_turn scenario fits first none front k r b c below i may (starts front rest e i may) h;
    })
