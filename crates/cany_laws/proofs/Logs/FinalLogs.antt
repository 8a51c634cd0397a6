-- What became of a settled message is final: it stays settled, no later slot carries a frame of it,
-- and no log has a delivery of it in a later slot.
use Rattle.std.proofs.Common.{◌≡◌, ℕ, suc, ◌<◌, ◌≤◌, ◌⊎◌, inl, inr, true, List, [], ◌∷◌, ◌++◌, length, map, drop, refl, ap, sym, ◌∙◌, subst, arith, Contains, length-append, length-drop}
use Rattle.std.specs.List.{AllByRecursion}
use Rattle.std.proofs.lemmas.Bool.{cases_eq}
use Rattle.cany_base.proofs.ParamsFacts.{few_nodes}
use Rattle.cany_base.specs.Limits.{most_nodes}
use Rattle.cany_base.specs.declared.log_entry.LogEntry.{LogEntry}
use Rattle.cany_base.specs.declared.log_entry.LogEntry.TheVariants.{Deliver, Failed, View}
use Rattle.cany_base.specs.declared.message.Service.{Service}
use Rattle.cany_base.specs.declared.notice.NoticeKind.{NoticeKind}
use Rattle.cany_base.specs.declared.slot_note.SlotNote.{SlotNote}
use Rattle.cany_base.specs.declared.step.Step.{Step}
use Rattle.cany_base.specs.Scenario.{IsLegalScenario, ScenarioParts}
use Rattle.cany_model.specs.Bus.History.{given, history, seen}
use Rattle.cany_model.specs.Bus.Restart.{after_restarts}
use Rattle.cany_model.specs.Bus.Slot.{FaultScript, after_slot, script}
use Rattle.cany_model.specs.Bus.State.{EndedIncarnation, Incarnation, NodeState, RunState, node_at, runs, slots_run}
use Rattle.cany_model.specs.Promises.Settled.{is_settled}
use Rattle.cany_model.specs.Rules.Effect.{Effect, Ask, Withdraw, Enter, entered}
use Rattle.cany_model.specs.Rules.Log.{log, log_from}
use Rattle.cany_model.specs.Rules.Messages.{Message, message_key, messages_of}
use Rattle.cany_model.specs.Rules.Turn.{scenario_at, scenario_for, turn_effects}
use Rattle.cany_model.specs.Runs.Run.{after_turn, run}
use Rattle.cany_model.proofs.Among.{Among-from_Contains, Each-append, Each-of}
use Rattle.cany_model.proofs.Bus.Restarts.{after_restarts-trace, restarts_or_stays}
use Rattle.cany_model.proofs.Bus.Seen.{history-is}
use Rattle.cany_model.proofs.Bus.States.{runs_within}
use Rattle.cany_model.proofs.Promises.Diffusion.{past_of}
use Rattle.cany_model.proofs.Promises.EachNode.{restarted_new}
use Rattle.cany_model.proofs.Promises.OwnSlotsAlone.{run_numbered}
use Rattle.cany_model.proofs.Rules.IdleBeforeTakingPart.{IsBegun, begun_before}
use Rattle.cany_model.proofs.Rules.LogFacts.{log_split, made_by}
use Rattle.cany_model.proofs.Rules.Services.MessageKeys.{IsOneOf, same_message}
use Rattle.cany_model.proofs.Rules.MutedFacts.{turn_muted}
use Rattle.cany_model.proofs.Rules.ProtocolFacts.{IsFoundedEntry}
use Rattle.cany_model.proofs.Runs.Runs.{history-length, orderly, orderly_slot}
use Rattle.cany_model.proofs.Runs.Steps.{MayTurn, after_slot-history, after_slot-present, after_slot-trace, after_turn-history, after_turn-other_history, after_turn-present, after_turn-runs, next_notice, running_before_slot}
use Rattle.cany_laws.specs.Final.{IsFinal}
use Rattle.cany_laws.specs.Logs.{IsIncarnation, log_as}
use Rattle.cany_laws.proofs.KeptAlongJournal.{along_rest, pushed}
use Rattle.cany_laws.proofs.Logs.IntegralLogs.{lived_log, sent_as}
use Rattle.cany_laws.proofs.Silences.Lives.{lived}
use Rattle.cany_laws.proofs.Logs.NoLateDelivery.{DeliversIt, EntersNot, turn_not}
use Rattle.cany_laws.proofs.Logs.StaySettled.{IsDoneSince, done_is_settled, done_is_silent, done_step, next_free, settled_is_done}
use Rattle.cany_model.proofs.Timed.Views.StartViews.{front_split}

-- ---- entries in time

-- the entry, if it delivers the message by its service, is of a slot before these
abbrev IsEarly : Message → ℕ → LogEntry → Type 0
IsEarly m slots (Deliver slot by msg payload) = (msg ≡ message_key m) × (by ≡ m.service) → slot < slots
IsEarly m slots (Failed slot node cycle) = Unit {0}
IsEarly m slots (View slot number members) = Unit {0}

abbrev AllEarly : Message → ℕ → List LogEntry → Type 0
AllEarly m slots entries = AllByRecursion (IsEarly m slots) entries

entry_early : (m : Message) (slots : ℕ) (entry : LogEntry) → (DeliversIt m entry → ⊥) → IsEarly m slots entry
entry_early m slots (Deliver slot by msg payload) none = λ h. absurd (none h)
entry_early m slots (Failed slot node cycle) none = tt
entry_early m slots (View slot number members) none = tt

entered_early : (m : Message) (slots : ℕ) (effects : List Effect) → AllByRecursion (EntersNot m) effects → AllEarly m slots (entered effects)
unfolding entered
entered_early m slots [] h = tt
entered_early m slots (Ask f ∷ effects) h = entered_early m slots effects h.1
entered_early m slots (Withdraw x ∷ effects) h = entered_early m slots effects h.1
entered_early m slots (Enter entry ∷ effects) h = (entry_early m slots entry h.0, entered_early m slots effects h.1)

log_more : (scenario : ScenarioParts) (m : Message) (slots i : ℕ) (e : NoticeKind) (before : List NoticeKind) → AllEarly m slots (log_from scenario i before)
    → AllByRecursion (EntersNot m) (turn_effects scenario i (e ∷ before)) → AllEarly m slots (log_from scenario i (e ∷ before))
unfolding log_from
log_more scenario m slots i e before old new =
    Each-append (IsEarly m slots) (log_from scenario i before) (entered (turn_effects scenario i (e ∷ before))) old
    (entered_early m slots (turn_effects scenario i (e ∷ before)) new)

begun_log : (scenario : ScenarioParts) (i : ℕ) (past : List NoticeKind) → IsBegun scenario past → log_from scenario i past ≡ []
unfolding log_from entered
begun_log scenario i [] begun = refl
begun_log scenario i (e ∷ before) begun = rw (begun_log scenario i before (begun_before scenario e before begun), turn_muted scenario i (e ∷ before) begun) refl

-- an entry is that of a slot that was read
pub entry_read : (scenario : ScenarioParts) (i : ℕ) (past : List NoticeKind) (slot : ℕ) (by : Service) (m : Message) (payload : List ℕ)
    → Contains (log_from scenario i past) (Deliver slot by (message_key m) payload) → slot < length past
entry_read scenario i past slot by m payload c =
    let entry : LogEntry = Deliver slot by (message_key m) payload in
    let split = log_split (λ y. y ≡ entry) scenario i past (Among-from_Contains (log_from scenario i past) entry c) in
    let made = made_by (λ y. y ≡ entry) scenario split.0 split.1 i past split.2 in
    let founded = subst (IsFoundedEntry scenario split.0 i (drop made.place past)) made.is made.founded in
    omega (arith, founded.now, length-drop made.place past)

-- ---- along the rest of the journal

module _ (scenario : ScenarioParts) (m : Message) (is : IsOneOf (messages_of scenario.sends) m) (confirm : 0 < scenario.params.confirm)
    (bound : 0 < scenario.params.bound) (old : List SlotNote) (late : m.slot < length old) (few : scenario.params.nodes ≤ most_nodes) where
  abbrev EachEarly : RunState → Type 0
  EachEarly s = (i : ℕ) → runs (node_at s.nodes i) ≡ true → AllEarly m (length old) (log scenario s i)

  same_log : (s to : RunState) (i : ℕ) → (node_at to.nodes i).present ≡ (node_at s.nodes i).present → history i to ≡ history i s
      → AllEarly m (length old) (log scenario s i) → AllEarly m (length old) (log scenario to i)
  same_log s to i present past h =
      subst (λ l. AllEarly m (length old) (log_from (scenario_at scenario to i) i l)) (sym past)
      (subst (λ (inc : Incarnation). AllEarly m (length old) (log_from (scenario_for scenario inc) i (history i s))) (sym present) h)

  turn_early : (journal : List Step) (j : ℕ) → MayTurn (run scenario journal) j → IsDoneSince scenario m old (run scenario journal) → EachEarly (run scenario journal)
      → EachEarly (after_turn scenario j (run scenario journal))
  turn_early journal j may done h i running =
      let s : RunState = run scenario journal in
      let o = orderly scenario journal in
      let to : RunState = after_turn scenario j s in
      let ran : runs (node_at s.nodes i) ≡ true = sym (after_turn-runs scenario j s i may (o.unread j)) ∙ running in
      let present : (node_at to.nodes i).present ≡ (node_at s.nodes i).present = after_turn-present scenario j s i may (o.unread j) in
      elim (cases_eq i j) [
        | inr other ↦ same_log s to i present (after_turn-other_history scenario j s i other) (h i ran)
        | inl this ↦
            let may' : MayTurn s i = subst (MayTurn s) (sym this) may in
            let past : history i to ≡ next_notice s i ∷ history i s =
            ap (λ k. history i (after_turn scenario k s)) (sym this) ∙ after_turn-history scenario i s may' (o.unread i) in
            let sc : ScenarioParts = scenario_at scenario s i in
            subst (λ l. AllEarly m (length old) (log_from (scenario_at scenario to i) i l)) (sym past)
            (subst (λ (inc : Incarnation). AllEarly m (length old) (log_from (scenario_for scenario inc) i (next_notice s i ∷ history i s))) (sym present)
            (log_more sc m (length old) i (next_notice s i) (history i s) (h i ran)
            (turn_not sc m i (next_notice s i) (history i s) (next_free scenario m old s o done i may') (done.nodes i ran).done)))
      ]

  slot_early : (journal : List Step) → EachEarly (run scenario journal) → EachEarly (after_slot (script scenario.rules) (run scenario journal))
  slot_early journal h i running =
      let s : RunState = run scenario journal in
      let rules : FaultScript = script scenario.rules in
      let ran : runs (node_at s.nodes i) ≡ true = (running_before_slot rules s i running).0 in
      let below : i < length s.nodes = runs_within s.nodes i ran in
      same_log s (after_slot rules s) i (after_slot-present rules s i below) (after_slot-history rules s i below) (h i ran)

  restarts_early : (journal : List Step) → EachEarly (after_slot (script scenario.rules) (run scenario journal))
      → EachEarly (after_restarts scenario (after_slot (script scenario.rules) (run scenario journal)))
  restarts_early journal h i running =
      let rules : FaultScript = script scenario.rules in
      let s : RunState = after_slot rules (run scenario journal) in
      let o = orderly_slot scenario.params.nodes rules (run scenario journal) (orderly scenario journal) in
      let to : RunState = after_restarts scenario s in
      let trace : to.trace ≡ s.trace = after_restarts-trace scenario s in
      elim (restarts_or_stays scenario s i) [
        | inr stays ↦
            let past : history i to ≡ history i s =
            history-is i to
            ∙ ap (λ (n : NodeState). map (given i) (drop n.unread (seen n.present to.trace))) stays
            ∙ ap (λ t. map (given i) (drop (node_at s.nodes i).unread (seen (node_at s.nodes i).present t))) trace ∙ sym (history-is i s) in
            same_log s to i (ap (λ (n : NodeState). n.present) stays) past (h i (sym (ap (λ (n : NodeState). runs n) stays) ∙ running))
        | inl new ↦
            let node : NodeState = node_at to.nodes i in
            let some : 0 < length s.trace = omega (arith, ap length (after_slot-trace rules (run scenario journal))) in
            let past : history i to ≡ past_of i (seen node.present s.trace) node =
            history-is i to ∙ ap (λ t. map (given i) (drop node.unread (seen node.present t))) trace in
            subst (λ l. AllEarly m (length old) (log_from (scenario_at scenario to i) i l)) (sym past)
            (subst (AllEarly m (length old)) (sym (begun_log (scenario_at scenario to i) i (past_of i (seen node.present s.trace) node) (restarted_new scenario s i o some new).past)) tt)
      ]

  abbrev BothKept : List Step → Type 0
  BothKept journal = IsDoneSince scenario m old (run scenario journal) × EachEarly (run scenario journal)

  step_early : (journal : List Step) (next : Step) → BothKept journal → BothKept (journal ++ next ∷ [])
  step_early journal next h = (
    done_step scenario m is confirm bound old late few journal next h.0,
    elim (pushed scenario journal next).is [
      | inl refused ↦ subst EachEarly (sym refused) h.1
      | inr (inl slot) ↦ subst EachEarly (sym slot.1) (restarts_early journal (slot_early journal h.1))
      | inr (inr turn) ↦ subst EachEarly (sym turn.2) (turn_early journal turn.0 turn.1 h.0 h.1)
    ],
  )

  pub early_since : (front rest : List Step) → BothKept front → BothKept (front ++ rest)
  early_since = along_rest BothKept step_early

-- ---- of two fronts of a journal one goes on from the other

prefixes : {X : Type 0} (a b c d : List X) → a ++ b ≡ c ++ d → ((mid : List X) × (c ≡ a ++ mid)) ⊎ ((mid : List X) × (a ≡ c ++ mid))
prefixes [] b c d e = inl (c, refl)
prefixes (x ∷ a) b [] d e = inr (x ∷ a, refl)
prefixes (x ∷ a) b (y ∷ c) d e =
    let head : y ≡ x = cc in
    let tail : a ++ b ≡ c ++ d = cc in
    elim (prefixes a b c d tail) [
      | inl h ↦ inl (h.0, ap (λ l. y ∷ l) h.1 ∙ ap (λ z. z ∷ (a ++ h.0)) head)
      | inr h ↦ inr (h.0, ap (λ l. x ∷ l) h.1 ∙ ap (λ z. z ∷ (c ++ h.0)) (sym head))
    ]

-- ---- a settled message

early_entries : (m : Message) (slots : ℕ) (entries : List LogEntry) → ((entry : LogEntry) → Contains entries entry → IsEarly m slots entry) → AllEarly m slots entries
early_entries m slots [] h = tt
early_entries m slots (entry ∷ entries) h =
    (h entry (0, omega arith, refl), early_entries m slots entries (λ x c. h x (suc c.0, omega (arith, c.1), c.2)))

module _ (scenario : ScenarioParts) (legal : IsLegalScenario scenario) (front rest : List Step) (m : Message) (is : Contains (messages_of scenario.sends) m)
    (scripted : m.slot < slots_run (run scenario front)) (settled : is_settled scenario (run scenario front) m ≡ true) where
  few : scenario.params.nodes ≤ most_nodes
  few = few_nodes scenario.params legal.in_range

  one : IsOneOf (messages_of scenario.sends) m
  one = Among-from_Contains (messages_of scenario.sends) m is

  confirm : 0 < scenario.params.confirm
  confirm = omega (arith, legal.in_range.confirm.0)

  bound : 0 < scenario.params.bound
  bound = omega (arith, legal.in_range.bound.0)

  abbrev old : List SlotNote
  old = (run scenario front).trace

  log_at_front : (i : ℕ) → AllEarly m (length old) (log scenario (run scenario front) i)
  log_at_front i =
      early_entries m (length old) (log scenario (run scenario front) i) (λ entry c. by_entry entry c)
    where
      by_entry : (entry : LogEntry) → Contains (log scenario (run scenario front) i) entry → IsEarly m (length old) entry
      by_entry (Deliver slot by msg payload) c = λ h.
          let c' : Contains (log scenario (run scenario front) i) (Deliver slot by (message_key m) payload) =
          subst (λ k. Contains (log scenario (run scenario front) i) (Deliver slot by k payload)) h.0 c in
          omega (
            arith,
            entry_read (scenario_at scenario (run scenario front) i) i (history i (run scenario front)) slot by m payload c',
            history-length i (run scenario front),
          )
      by_entry (Failed slot node cycle) c = tt
      by_entry (View slot number members) c = tt

  both : (more : List Step) → BothKept scenario m one confirm bound old scripted few (front ++ more)
  both more =
      early_since scenario m one confirm bound old scripted few front more
      (settled_is_done scenario front m settled, λ i running. log_at_front i)

  final_log : (i : ℕ) (e : EndedIncarnation) → IsIncarnation scenario (run scenario (front ++ rest)) i e → (slot : ℕ) (by : Service) (payload : List ℕ)
      → Contains (log_as scenario (run scenario (front ++ rest)) i e) (Deliver slot by (message_key m) payload) → slot < length old
  final_log i e inc slot by payload c =
      let l = lived scenario (front ++ rest) i e inc in
      let c' : Contains (log scenario (run scenario l.front) i) (Deliver slot by (message_key m) payload) =
      subst (λ entries. Contains entries (Deliver slot by (message_key m) payload)) (lived_log scenario (front ++ rest) i e l) c in
      let sound = sent_as scenario (front ++ rest) few i e inc (Deliver slot by (message_key m) payload) c in
      let same : sound.0 ≡ m =
      same_message scenario.sends sound.0 m (Among-from_Contains (messages_of scenario.sends) sound.0 sound.1) one
      (ap (λ k. k.origin) sound.2) (ap (λ k. k.seq) sound.2) in
      let service : by ≡ m.service = sym sound.3 ∙ ap (λ (k : Message). k.service) same in
      elim (prefixes front rest l.front l.rest l.whole) [
        | inl longer ↦
            let all : AllEarly m (length old) (log scenario (run scenario l.front) i) =
            subst (λ j. (k : ℕ) → runs (node_at (run scenario j).nodes k) ≡ true → AllEarly m (length old) (log scenario (run scenario j) k)) (sym longer.1) (both longer.0).1 i l.running in
            Each-of (IsEarly m (length old)) (Deliver slot by (message_key m) payload) (log scenario (run scenario l.front) i) all
            (Among-from_Contains (log scenario (run scenario l.front) i) (Deliver slot by (message_key m) payload) c') (refl, service)
        | inr shorter ↦
            let split = front_split scenario front l.front shorter.0 shorter.1 in
            let read = entry_read (scenario_at scenario (run scenario l.front) i) i (history i (run scenario l.front)) slot by m payload c' in
            omega (arith, read, history-length i (run scenario l.front), ap length split.1, length-append split.0 (run scenario l.front).trace)
      ]

  pub is_final : IsFinal scenario front rest m
  is_final = record {
    settled = λ all. done_is_settled scenario m old (run scenario (front ++ rest)) (both rest).0 all;
    silent = λ note stands late.
        done_is_silent scenario m old (run scenario (front ++ rest)) (both rest).0
        (run_numbered scenario.params.nodes (run scenario (front ++ rest)) (orderly scenario (front ++ rest))) note stands late;
    delivered = λ i e inc slot by payload c. final_log i e inc slot by payload c;
  }
