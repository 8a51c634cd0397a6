-- A message that is settled stays settled: along the rest of the journal nobody waits with a frame
-- of it, no later slot carries one, and nothing of it is ahead.
use Rattle.std.proofs.Common.{◌≡◌, ℕ, ◌+◌, ◌-◌, ◌<◌, ◌≤◌, ◌&&◌, ◌||◌, ◌==◌, ◌⊎◌, inl, inr, Bool, true, false, not, List, [], ◌∷◌, ◌++◌, length, map, drop, Option, Some, None, refl, ap, sym, ◌∙◌, subst, arith, Contains, length-append}
use Rattle.std.specs.List.{AllByRecursion, list_any, range_with_len}
use Rattle.std.specs.Option.{option_map_or}
use Rattle.std.proofs.lemmas.Bool.{and_from, and_parts, both_ways, cases_Bool, cases_eq, cond-false, ne_eqb, false_from_ne_true, false≢true, lt-ltb, not_from_false, or_cases, or_left, or_right}
use Rattle.std.proofs.lemmas.List.{get_or-map}
use Rattle.std.proofs.lemmas.List.Elements.{Contains-get_or}
use Rattle.std.proofs.lemmas.List.Folds.{list_any_at}
use Rattle.cany_base.specs.declared.notice.NoticeKind.{NoticeKind}
use Rattle.cany_base.specs.declared.slot_note.SlotNote.{SlotNote}
use Rattle.cany_base.specs.declared.step.Step.{Step}
use Rattle.cany_base.specs.Frame.{FrameParts}
use Rattle.cany_base.specs.Limits.{most_nodes}
use Rattle.cany_base.specs.Scenario.{ScenarioParts}
use Rattle.cany_model.specs.Bus.Frames.{Identity, identity_of, is_of}
use Rattle.cany_model.specs.Bus.History.{as_seen, given, history, seen}
use Rattle.cany_model.specs.Bus.Restart.{after_restarts, next_incarnation}
use Rattle.cany_model.specs.Bus.Slot.{FaultScript, after_slot, carried, script, slot_note_of}
use Rattle.cany_model.specs.Bus.State.{Incarnation, NodeState, RunState, absent, node_at, reads, runs, slots_run}
use Rattle.cany_model.specs.Bus.Waiting.{waits}
use Rattle.cany_model.specs.Promises.Settled.{IsCorrect, came_too_late, is_ahead, is_awaited, is_settled, origin_has_asked}
use Rattle.cany_model.specs.Rules.Messages.{Message, frames_of, messages_of}
use Rattle.cany_model.specs.Rules.Relcan.{has_timer_ahead, relcan}
use Rattle.cany_model.specs.Rules.Totcan.{has_closing_ahead, totcan}
use Rattle.cany_model.specs.Rules.Turn.{has_asked, is_ahead_at, scenario_at, scenario_for, turn_effects}
use Rattle.cany_model.specs.Runs.Run.{after_turn, all_read, run}
use Rattle.cany_model.proofs.Among.{Among, Among-append_cases, Among-from_Contains, Among-from_any, Among-place, Among-weaker, Among-which, Each-of, any-from_Among}
use Rattle.cany_model.proofs.Bus.Carried.{Has, frame_of_notice}
use Rattle.cany_model.proofs.Bus.Notes.{note_of-offered}
use Rattle.cany_model.proofs.Bus.Restarts.{after_restarts-trace, restarts_or_stays}
use Rattle.cany_model.proofs.Bus.Identities.{same_identity-from, same_identity-true}
use Rattle.cany_model.proofs.Bus.Seen.{Numbered, history-is, seen_frame}
use Rattle.cany_model.proofs.Bus.States.{each_in_front, no_note, note_at, runs_within}
use Rattle.cany_model.proofs.Promises.Diffusion.{past_of}
use Rattle.cany_model.proofs.Promises.EachNode.{restarted_new}
use Rattle.cany_model.proofs.Promises.SettledFacts.{parts, settled_asked_or_late, settled_none_ahead, settled_read, none_awaited}
use Rattle.cany_model.proofs.Promises.Sources.{IsSourced, sourced}
use Rattle.cany_model.proofs.Rules.Services.MessageKeys.{IsOneOf}
use Rattle.cany_model.proofs.Rules.Protocols.{relcan_is_one, totcan_is_one}
use Rattle.cany_model.proofs.Runs.Runs.{IsOrderly, history-length, orderly, orderly_slot}
use Rattle.cany_model.proofs.Runs.Steps.{MayTurn, after_slot-history, after_slot-present, after_slot-trace, after_slot-unread, after_slot-waiting, after_turn-history, after_turn-node, after_turn-other, after_turn-other_history, after_turn-trace, next_notice, running_before_slot, Each-kept}
use Rattle.cany_model.proofs.Rules.Waits.{Each-after}
use Rattle.cany_model.proofs.Timed.Order.TotSlots.{waiting_frame}
use Rattle.cany_laws.specs.Final.{is_frame_of}
use Rattle.cany_laws.proofs.Logs.DoneTurns.{Free, FreeNotice, IsDone, IsSourcedNotice, asked_on, done_begun, done_next, turn_free}
use Rattle.cany_laws.proofs.KeptAlongJournal.{along_rest, pushed}
use Rattle.cany_laws.proofs.Since.{begins_now}

-- ---- one node

-- the slot carried no frame of the message
abbrev pub FreeNote : Message → SlotNote → Type 0
FreeNote m note = (f : FrameParts) → note.frame ≡ Some f → Free m f

-- of a running node, since so many slots had run
pub record IsDoneAt (scenario : ScenarioParts) (m : Message) (since : ℕ) (s : RunState) (i : ℕ) : Type 0 where
  pub waits : AllByRecursion (Free m) (node_at s.nodes i).waiting
  pub done : IsDone (scenario_at scenario s i) m i (history i s)
  pub read : since ≤ reads s i
  pub origin : m.origin ≡ i → (has_asked (scenario_at scenario s i) m i (history i s) ≡ true) ⊎ (m.slot < (node_at s.nodes i).present.from)

-- and of the run
pub record IsDoneSince (scenario : ScenarioParts) (m : Message) (old : List SlotNote) (s : RunState) : Type 0 where
  pub newer : List SlotNote
  pub split : s.trace ≡ newer ++ old
  pub free : AllByRecursion (FreeNote m) newer
  pub nodes : (i : ℕ) → runs (node_at s.nodes i) ≡ true → IsDoneAt scenario m (length old) s i

-- a later incarnation makes the scripted asks since the slot in which it takes part
later_from : (scenario : ScenarioParts) (inc : Incarnation) (slot : ℕ) → 0 < inc.number → slot < inc.from → slot < (scenario_for scenario inc).from
later_from scenario inc slot later late =
    subst (λ n. slot < n) (sym (cond-false (inc.number == 0) scenario.from inc.from (ne_eqb inc.number 0 (λ zero. omega (arith, later, zero))))) late

-- ---- a notice that was not read then

module _ (scenario : ScenarioParts) (m : Message) (old : List SlotNote) (s : RunState) (o : IsOrderly scenario.params.nodes s) (h : IsDoneSince scenario m old s)
    (i : ℕ) (may : MayTurn s i) where
  abbrev note : SlotNote
  note = note_at s.trace ((node_at s.nodes i).unread - 1)

  short : (node_at s.nodes i).unread ≤ length s.trace
  short = o.unread i

  below : (node_at s.nodes i).unread - 1 < length h.newer
  below =
      omega (arith, may.unread, short, (h.nodes i may.running).read, ap length h.split, length-append h.newer old)

  note_free : FreeNote m note
  note_free =
      subst (λ t. FreeNote m (note_at t ((node_at s.nodes i).unread - 1))) (sym h.split)
      (each_in_front (FreeNote m) h.newer old ((node_at s.nodes i).unread - 1) h.free below)

  of_note : (f : FrameParts) → Has f (next_notice s i) → note.frame ≡ Some f
  of_note f has_f =
      let inc : Incarnation = (node_at s.nodes i).present in
      let at : note_at (seen inc s.trace) ((node_at s.nodes i).unread - 1) ≡ as_seen inc note =
      get_or-map (as_seen inc) s.trace ((node_at s.nodes i).unread - 1) no_note no_note (omega (arith, may.unread, short)) in
      seen_frame inc note f (frame_of_notice i (as_seen inc note) f (subst (λ n. Has f (given i n)) at has_f))

  pub next_free : FreeNotice m (next_notice s i)
  next_free f has_f = note_free f (of_note f has_f)

  next_sourced : IsSourced scenario s → IsSourcedNotice (scenario_at scenario s i) (next_notice s i)
  next_sourced sources f has_f carries =
      let sent = sources.carried note f (Contains-get_or s.trace ((node_at s.nodes i).unread - 1) no_note (omega (arith, may.unread, short))) (of_note f has_f) carries in
      (sent.message, Among-from_Contains (messages_of scenario.sends) sent.message sent.stands, sent.is)

-- ---- the steps

module _ (scenario : ScenarioParts) (m : Message) (is : IsOneOf (messages_of scenario.sends) m) (confirm : 0 < scenario.params.confirm)
    (bound : 0 < scenario.params.bound) (old : List SlotNote) (late : m.slot < length old) where
  pub turn_done_since : (s : RunState) (j : ℕ) → IsOrderly scenario.params.nodes s → IsSourced scenario s → MayTurn s j → IsDoneSince scenario m old s
      → IsDoneSince scenario m old (after_turn scenario j s)
  turn_done_since s j o sources may h =
      let to : RunState = after_turn scenario j s in
      let own = h.nodes j may.running in
      let sc : ScenarioParts = scenario_at scenario s j in
      let e : NoticeKind = next_notice s j in
      let free = next_free scenario m old s o h j may in
      let node = after_turn-node scenario j s may (o.unread j) in
      let past : history j to ≡ e ∷ history j s = after_turn-history scenario j s may (o.unread j) in
      let same : scenario_at scenario to j ≡ sc = ap (λ (n : NodeState). scenario_for scenario n.present) node in
      let size : length (history j s) ≡ length s.trace - (node_at s.nodes j).unread = history-length j s in
      let moved : IsDoneAt scenario m (length old) to j = record {
        waits = subst (λ (n : NodeState). AllByRecursion (Free m) n.waiting) (sym node)
            (Each-after (Free m) (turn_effects sc j (e ∷ history j s)) (node_at s.nodes j).waiting
            (turn_free sc m is j confirm e (history j s) free (next_sourced scenario m old s o h j may sources) (omega (arith, size, own.read, late)) own.done)
            own.waits);
        done = subst (λ l. IsDone (scenario_at scenario to j) m j l) (sym past)
            (subst (λ (x : ScenarioParts). IsDone x m j (e ∷ history j s)) (sym same) (done_next sc m j e (history j s) confirm bound free own.done));
        read = omega (arith, own.read, ap (λ (n : NodeState). n.unread) node, ap length (after_turn-trace scenario j s));
        origin = λ here. elim (own.origin here) [
          | inl asked ↦ inl (subst (λ l. has_asked (scenario_at scenario to j) m j l ≡ true) (sym past)
              (subst (λ (x : ScenarioParts). has_asked x m j (e ∷ history j s) ≡ true) (sym same) (asked_on sc m j e (history j s) asked)))
          | inr begun ↦ inr (subst (λ (n : NodeState). m.slot < n.present.from) (sym node) begun)
        ];
      } in
      record {
        newer = h.newer;
        split = after_turn-trace scenario j s ∙ h.split;
        free = h.free;
        nodes = λ i running. elim (cases_eq i j) [
          | inl this ↦ subst (IsDoneAt scenario m (length old) to) (sym this) moved
          | inr other ↦
              let still : node_at to.nodes i ≡ node_at s.nodes i = after_turn-other scenario j s i other in
              let was = h.nodes i (sym (ap (λ (n : NodeState). runs n) still) ∙ running) in
              record {
                waits = subst (λ (n : NodeState). AllByRecursion (Free m) n.waiting) (sym still) was.waits;
                done = subst (λ l. IsDone (scenario_at scenario to i) m i l) (sym (after_turn-other_history scenario j s i other))
                    (subst (λ (n : NodeState). IsDone (scenario_for scenario n.present) m i (history i s)) (sym still) was.done);
                read = omega (arith, was.read, ap (λ (n : NodeState). n.unread) still, ap length (after_turn-trace scenario j s));
                origin = λ here. elim (was.origin here) [
                  | inl asked ↦ inl (subst (λ l. has_asked (scenario_at scenario to i) m i l ≡ true) (sym (after_turn-other_history scenario j s i other))
                      (subst (λ (n : NodeState). has_asked (scenario_for scenario n.present) m i (history i s) ≡ true) (sym still) asked))
                  | inr begun ↦ inr (subst (λ (n : NodeState). m.slot < n.present.from) (sym still) begun)
                ];
              }
        ];
      }

  pub slot_done_since : (s : RunState) → IsOrderly scenario.params.nodes s → IsDoneSince scenario m old s → IsDoneSince scenario m old (after_slot (script scenario.rules) s)
  slot_done_since s o h =
      let rules : FaultScript = script scenario.rules in
      let to : RunState = after_slot rules s in
      record {
        newer = slot_note_of rules s ∷ h.newer;
        split = after_slot-trace rules s ∙ ap (λ t. slot_note_of rules s ∷ t) h.split;
        free = (
          λ f frame.
              let offer = note_of-offered rules s f frame in
              Each-of (Free m) f (node_at s.nodes offer.node).waiting (h.nodes offer.node offer.running).waits
              (Among-from_Contains (node_at s.nodes offer.node).waiting f offer.waits),
          h.free,
        );
        nodes = λ i running.
            let ran : runs (node_at s.nodes i) ≡ true = (running_before_slot rules s i running).0 in
            let below : i < length s.nodes = runs_within s.nodes i ran in
            let was = h.nodes i ran in
            let present : (node_at to.nodes i).present ≡ (node_at s.nodes i).present = after_slot-present rules s i below in
            record {
              waits = subst (AllByRecursion (Free m)) (sym (after_slot-waiting rules s i ran))
                  (Each-kept (Free m) (given i (slot_note_of rules s)) (node_at s.nodes i).waiting was.waits);
              done = subst (λ l. IsDone (scenario_at scenario to i) m i l) (sym (after_slot-history rules s i below))
                  (subst (λ (inc : Incarnation). IsDone (scenario_for scenario inc) m i (history i s)) (sym present) was.done);
              read = omega (arith, was.read, after_slot-unread rules s i below, ap length (after_slot-trace rules s), o.unread i);
              origin = λ here. elim (was.origin here) [
                | inl asked ↦ inl (subst (λ l. has_asked (scenario_at scenario to i) m i l ≡ true) (sym (after_slot-history rules s i below))
                    (subst (λ (inc : Incarnation). has_asked (scenario_for scenario inc) m i (history i s) ≡ true) (sym present) asked))
                | inr begun ↦ inr (subst (λ (inc : Incarnation). m.slot < inc.from) (sym present) begun)
              ];
            };
      }

  restarts_done_since : (s : RunState) → IsOrderly scenario.params.nodes s → 0 < length s.trace → IsDoneSince scenario m old s
      → IsDoneSince scenario m old (after_restarts scenario s)
  restarts_done_since s o some h =
      let to : RunState = after_restarts scenario s in
      let trace : to.trace ≡ s.trace = after_restarts-trace scenario s in
      record {
        newer = h.newer;
        split = trace ∙ h.split;
        free = h.free;
        nodes = λ i running. elim (restarts_or_stays scenario s i) [
          | inr stays ↦
              let was = h.nodes i (sym (ap (λ (n : NodeState). runs n) stays) ∙ running) in
              let past : history i to ≡ history i s =
              history-is i to
              ∙ ap (λ (n : NodeState). map (given i) (drop n.unread (seen n.present to.trace))) stays
              ∙ ap (λ t. map (given i) (drop (node_at s.nodes i).unread (seen (node_at s.nodes i).present t))) trace ∙ sym (history-is i s) in
              record {
                waits = subst (λ (n : NodeState). AllByRecursion (Free m) n.waiting) (sym stays) was.waits;
                done = subst (λ l. IsDone (scenario_at scenario to i) m i l) (sym past)
                    (subst (λ (n : NodeState). IsDone (scenario_for scenario n.present) m i (history i s)) (sym stays) was.done);
                read = omega (arith, was.read, ap (λ (n : NodeState). n.unread) stays, ap length trace);
                origin = λ here. elim (was.origin here) [
                  | inl asked ↦ inl (subst (λ l. has_asked (scenario_at scenario to i) m i l ≡ true) (sym past)
                      (subst (λ (n : NodeState). has_asked (scenario_for scenario n.present) m i (history i s) ≡ true) (sym stays) asked))
                  | inr begun ↦ inr (subst (λ (n : NodeState). m.slot < n.present.from) (sym stays) begun)
                ];
              }
          | inl new ↦
              let node : NodeState = node_at to.nodes i in
              let fresh = restarted_new scenario s i o some new in
              let past : history i to ≡ past_of i (seen node.present s.trace) node =
              history-is i to ∙ ap (λ t. map (given i) (drop node.unread (seen node.present t))) trace in
              let long : length s.trace ≡ length h.newer + length old = ap length h.split ∙ length-append h.newer old in
              let begun : m.slot < node.present.from =
              subst (λ (n : NodeState). m.slot < n.present.from) (sym new.is) (omega (arith, late, long, some)) in
              let from : m.slot < (scenario_for scenario node.present).from =
              subst (λ (n : NodeState). m.slot < (scenario_for scenario n.present).from) (sym new.is)
              (later_from scenario (next_incarnation scenario.params (slots_run s - 1) (node_at s.nodes i).present) m.slot (omega arith) (omega (arith, late, long, some))) in
              record {
                waits = subst (AllByRecursion (Free m)) (sym fresh.waiting) tt;
                done = subst (λ l. IsDone (scenario_at scenario to i) m i l) (sym past)
                    (done_begun (scenario_at scenario to i) m i (past_of i (seen node.present s.trace) node) fresh.past from);
                read = omega (arith, ap (λ (n : NodeState). n.unread) new.is, ap length trace, long);
                origin = λ here. inr begun;
              }
        ];
      }

  -- ---- the rest of a journal

  pub done_step : scenario.params.nodes ≤ most_nodes → (journal : List Step) (next : Step) → IsDoneSince scenario m old (run scenario journal)
      → IsDoneSince scenario m old (run scenario (journal ++ next ∷ []))
  done_step few journal next h = elim (pushed scenario journal next).is [
    | inl refused ↦ subst (IsDoneSince scenario m old) (sym refused) h
    | inr (inl slot) ↦
        let o = orderly scenario journal in
        let o' = orderly_slot scenario.params.nodes (script scenario.rules) (run scenario journal) o in
        subst (IsDoneSince scenario m old) (sym slot.1)
        (restarts_done_since (after_slot (script scenario.rules) (run scenario journal)) o'
        (omega (arith, ap length (after_slot-trace (script scenario.rules) (run scenario journal))))
        (slot_done_since (run scenario journal) o h))
    | inr (inr turn) ↦
        subst (IsDoneSince scenario m old) (sym turn.2)
        (turn_done_since (run scenario journal) turn.0 (orderly scenario journal) (sourced scenario journal few) turn.1 h)
  ]

  pub done_since : scenario.params.nodes ≤ most_nodes → (front rest : List Step) → IsDoneSince scenario m old (run scenario front)
      → IsDoneSince scenario m old (run scenario (front ++ rest))
  done_since few = along_rest (λ journal. IsDoneSince scenario m old (run scenario journal)) (done_step few)

-- ---- a settled message

-- a frame that waits
waits_with_its_identity : (f : FrameParts) (w : List FrameParts) → Among (λ g. g ≡ f) w → (x : Identity) → x ≡ identity_of f → waits x w ≡ true
waits_with_its_identity f [] h x same = absurd h
waits_with_its_identity f (g ∷ w) (inl here) x same =
    or_left (is_of x g) (waits x w) (same_identity-from x (identity_of g) (same ∙ sym (ap identity_of here)))
waits_with_its_identity f (g ∷ w) (inr there) x same = or_right (is_of x g) (waits x w) (waits_with_its_identity f w there x same)

each_free : (m : Message) (w : List FrameParts) → ((f : FrameParts) → Among (λ g. g ≡ f) w → Free m f) → AllByRecursion (Free m) w
each_free m [] h = tt
each_free m (f ∷ w) h = (h f (inl refl), each_free m w (λ g among. h g (inr among)))

awaited_free : (s : RunState) (m : Message) → is_awaited (frames_of m) s ≡ false → (i : ℕ) → runs (node_at s.nodes i) ≡ true
    → AllByRecursion (Free m) (node_at s.nodes i).waiting
unfolding node_at
awaited_free s m quiet i running =
    let w : List FrameParts = (node_at s.nodes i).waiting in
    each_free m w (λ f among of.
    let test : NodeState → Bool = λ node. runs node && list_any (λ x. waits x node.waiting) (frames_of m) in
    let some : list_any (λ x. waits x w) (frames_of m) ≡ true =
    any-from_Among (λ x. waits x w) (frames_of m)
    (Among-weaker (λ x. x ≡ identity_of f) (λ x. waits x w ≡ true) (λ x e. waits_with_its_identity f w among x e) (frames_of m) of) in
    both_ways (list_any test s.nodes) quiet
    (list_any_at test s.nodes i absent (runs_within s.nodes i running)
    (and_from (runs (node_at s.nodes i)) (list_any (λ x. waits x w) (frames_of m)) running some)))

pub settled_is_done : (scenario : ScenarioParts) (front : List Step) (m : Message) → is_settled scenario (run scenario front) m ≡ true
    → IsDoneSince scenario m (run scenario front).trace (run scenario front)
settled_is_done scenario front m settled =
    let s : RunState = run scenario front in
    let p = parts scenario s m settled in
    record {
      newer = [];
      split = refl;
      free = tt;
      nodes = λ i running.
          let correct : IsCorrect scenario s i =
          record { there = omega (arith, runs_within s.nodes i running, (orderly scenario front).count); running = running } in
          let origin : m.origin ≡ i → (has_asked (scenario_at scenario s i) m i (history i s) ≡ true) ⊎ (m.slot < (node_at s.nodes i).present.from) =
          λ here. subst (λ k. (has_asked (scenario_at scenario s k) m k (history k s) ≡ true) ⊎ (m.slot < (node_at s.nodes k).present.from)) here
          (settled_asked_or_late scenario s m settled (subst (λ k. runs (node_at s.nodes k) ≡ true) (sym here) running)) in
          record {
            waits = awaited_free s m p.quiet i running;
            done = record {
              timer = settled_none_ahead scenario s m settled i correct relcan relcan_is_one;
              closing = settled_none_ahead scenario s m settled i correct totcan totcan_is_one;
              asked = λ here. elim (origin here) [
                | inl asked ↦ inl asked
                | inr late ↦ inr (late_from scenario front i m.slot late)
              ];
            };
            read = omega (arith, settled_read scenario s m settled i running);
            origin = origin;
          };
    }
  where
    some : (n : ℕ) → (n ≡ 0 → ⊥) → 0 < n
    some n h = omega (arith, h)

    late_from : (scenario : ScenarioParts) (front : List Step) (i slot : ℕ) → slot < (node_at (run scenario front).nodes i).present.from
        → slot < (scenario_at scenario (run scenario front) i).from
    late_from scenario front i slot late =
        let inc : Incarnation = (node_at (run scenario front).nodes i).present in
        later_from scenario inc slot (some inc.number (λ zero. let first = (begins_now scenario front i).first zero in omega (arith, late, first))) late

-- ---- where all is read again

-- a node that waits with no frame of it waits with none of its identities
waits_none : (m : Message) (w : List FrameParts) → AllByRecursion (Free m) w → list_any (λ x. waits x w) (frames_of m) ≡ true → ⊥
waits_none m w free h = among_none (frames_of m) (λ x among. among) (Among-from_any (λ x. waits x w) (frames_of m) h)
  where
    among_none : (xs : List Identity) → ((x : Identity) → Among (λ y. y ≡ x) xs → Among (λ y. y ≡ x) (frames_of m)) → Among (λ x. waits x w ≡ true) xs → ⊥
    among_none [] all h = h
    among_none (x ∷ xs) all (inr later) = among_none xs (λ y among. all y (inr among)) later
    among_none (x ∷ xs) all (inl here) =
        let f = waiting_frame x w here in
        Each-of (Free m) f.0 w free (Among-from_Contains w f.0 f.1)
        (Among-weaker (λ y. y ≡ x) (λ y. y ≡ identity_of f.0) (λ y e. e ∙ f.2) (frames_of m) (all x (inl refl)))

none_is_ahead : (scenario : ScenarioParts) (s : RunState) (m : Message)
    → ((i : ℕ) → runs (node_at s.nodes i) ≡ true → IsDone (scenario_at scenario s i) m i (history i s)) → is_ahead scenario s m ≡ false
none_is_ahead scenario s m done =
    let ahead : ℕ → Bool = λ i. is_ahead_at (scenario_at scenario s i) m i (history i s) in
    let test : ℕ → Bool = λ i. runs (node_at s.nodes i) && ahead i in
    false_from_ne_true (list_any test (range_with_len 0 scenario.params.nodes)) (λ h.
    let w = Among-which (λ i. test i ≡ true) (range_with_len 0 scenario.params.nodes) (Among-from_any test (range_with_len 0 scenario.params.nodes) h) in
    let both = and_parts (runs (node_at s.nodes w.0)) (ahead w.0) w.2 in
    let d = done w.0 both.0 in
    elim (or_cases (has_timer_ahead (scenario_at scenario s w.0) m w.0 (history w.0 s)) (has_closing_ahead (scenario_at scenario s w.0) m w.0 (history w.0 s) || false) both.1) [
      | inl timer ↦ both_ways (has_timer_ahead (scenario_at scenario s w.0) m w.0 (history w.0 s)) d.timer timer
      | inr rest ↦ elim (or_cases (has_closing_ahead (scenario_at scenario s w.0) m w.0 (history w.0 s)) false rest) [
        | inl closing ↦ both_ways (has_closing_ahead (scenario_at scenario s w.0) m w.0 (history w.0 s)) d.closing closing
        | inr never ↦ false≢true never
      ]
    ])

pub done_is_settled : (scenario : ScenarioParts) (m : Message) (old : List SlotNote) (s : RunState) → IsDoneSince scenario m old s → all_read s ≡ true
    → is_settled scenario s m ≡ true
unfolding is_settled
done_is_settled scenario m old s h all =
    let asked : Bool = origin_has_asked scenario s m || not (runs (node_at s.nodes m.origin)) || came_too_late s m in
    let quiet : Bool = not (is_awaited (frames_of m) s) in
    and_from (asked && quiet && all_read s) (not (is_ahead scenario s m))
    (and_from (asked && quiet) (all_read s)
    (and_from asked quiet is_asked (not_from_false (is_awaited (frames_of m) s) (none_awaited (frames_of m) s (λ i running. waits_none m (node_at s.nodes i).waiting (h.nodes i running).waits)))) all)
    (not_from_false (is_ahead scenario s m) (none_is_ahead scenario s m (λ i running. (h.nodes i running).done)))
  where
    is_asked : (origin_has_asked scenario s m || not (runs (node_at s.nodes m.origin)) || came_too_late s m) ≡ true
    is_asked =
        let asked : Bool = origin_has_asked scenario s m in
        let stopped : Bool = not (runs (node_at s.nodes m.origin)) in
        elim (cases_Bool (runs (node_at s.nodes m.origin))) [
          | inr gone ↦ or_left (asked || stopped) (came_too_late s m) (or_right asked stopped (not_from_false (runs (node_at s.nodes m.origin)) gone))
          | inl running ↦ elim ((h.nodes m.origin running).origin refl) [
            | inl yes' ↦ or_left (asked || stopped) (came_too_late s m) (or_left asked stopped yes')
            | inr late ↦ or_right (asked || stopped) (came_too_late s m) (lt-ltb m.slot (node_at s.nodes m.origin).present.from late)
          ]
        ]

-- a later slot carried no frame of it
pub done_is_silent : (scenario : ScenarioParts) (m : Message) (old : List SlotNote) (s : RunState) → IsDoneSince scenario m old s → Numbered s.trace
    → (note : SlotNote) → Contains s.trace note → length old ≤ note.slot → carried (is_frame_of m) note ≡ false
done_is_silent scenario m old s h numbered note stands late = elim (Among-append_cases (λ n. n ≡ note) h.newer old (subst (Among (λ n. n ≡ note)) h.split (Among-from_Contains s.trace note stands))) [
  | inl new ↦ by_frame note.frame refl (Each-of (FreeNote m) note h.newer h.free new)
  | inr earlier ↦ absurd (omega (arith, late, old_slots old (older_numbered h.newer old (subst Numbered h.split numbered)) note earlier))
]
  where
    old_slots : (old : List SlotNote) → Numbered old → (note : SlotNote) → Among (λ n. n ≡ note) old → note.slot < length old
    old_slots [] numbered note h = absurd h
    old_slots (first ∷ old) numbered note (inl e) = omega (arith, numbered.0, ap (λ (n : SlotNote). n.slot) e)
    old_slots (first ∷ old) numbered note (inr h) = omega (arith, old_slots old numbered.1 note h)

    older_numbered : (newer old : List SlotNote) → Numbered (newer ++ old) → Numbered old
    older_numbered [] old n = n
    older_numbered (first ∷ newer) old n = older_numbered newer old n.1

    by_frame : (o : Option FrameParts) → note.frame ≡ o → FreeNote m note → carried (is_frame_of m) note ≡ false
    by_frame None is free = rw is refl
    by_frame (Some f) is free =
        let none : is_frame_of m f ≡ false =
        false_from_ne_true (list_any (λ x. is_of x f) (frames_of m)) (λ yes'.
        free f is
        (Among-weaker (λ x. is_of x f ≡ true) (λ x. x ≡ identity_of f) (λ x e. same_identity-true x (identity_of f) e) (frames_of m)
        (Among-from_any (λ x. is_of x f) (frames_of m) yes'))) in
        ap (λ o. option_map_or (is_frame_of m) o false) is ∙ none
