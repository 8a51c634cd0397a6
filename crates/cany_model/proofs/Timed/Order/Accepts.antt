-- Acceptance: a message that a running node has accepted, each running node accepts that sees its
-- data frame, at every reading that reaches as far as the bound after that frame.
use Rattle.std.proofs.Common.{◌≡◌, ℕ, zero, suc, ◌+◌, ◌-◌, ◌<◌, ◌≤◌, ◌⊎◌, ◌&&◌, ◌==◌, ◌++◌, inl, inr, Bool, true, false, List, [], ◌∷◌, length, drop, map, refl, ap, sym, ◌∙◌, subst, arith, length-append, drop-drop}
use Rattle.std.specs.List.{list_any, range_with_len}
use Rattle.std.proofs.lemmas.Bool.{and_from, and_parts, both_ways, cases_Bool, cases_lt, eq-eqb, eqb-true, false≢true, or_cases, or_left, or_right}
use Rattle.std.proofs.lemmas.List.{drop-map}
use Rattle.std.proofs.lemmas.List.Elements.{recursion_from_All}
use Rattle.cany_base.specs.declared.class.Class.TheVariants as class
use Rattle.cany_base.specs.declared.message.MsgKey.{MsgKey}
use Rattle.cany_base.specs.declared.notice.NoticeKind.{NoticeKind}
use Rattle.cany_base.specs.declared.slot_note.SlotNote.{SlotNote}
use Rattle.cany_base.specs.declared.step.Step.{Step}
use Rattle.cany_base.specs.declared.step.Step.TheVariants as step
use Rattle.cany_base.specs.Frame.{FrameParts}
use Rattle.cany_base.specs.Limits.{most_nodes}
use Rattle.cany_base.specs.Scenario.{ScenarioParts}
use Rattle.cany_model.specs.Bus.Frames.{Identity, same_class}
use Rattle.cany_model.specs.Bus.History.{copies, given, has_own, is_got, is_hidden, is_sent, seen}
use Rattle.cany_model.specs.Runs.Run.{run, run_from}
use Rattle.cany_model.specs.Bus.State.{Incarnation, RunState, node_at, opening, reads, runs, slots_run}
use Rattle.cany_model.specs.Bus.Waiting.{waits}
use Rattle.cany_model.specs.Promises.Acceptance.{HasReadClosing, IsAcceptedByAllOrNone, WasCarriedClean, accepted_in_time, history_to}
use Rattle.cany_model.specs.Promises.Hypothesis.{IsWithin, is_partial_slot_of, is_silent_slot, partial_slots}
use Rattle.cany_model.specs.Promises.Order.{is_accepted_by_some, has_accepted}
use Rattle.cany_model.specs.Promises.Quiet.{HasQuietSlots, IsQuiet}
use Rattle.cany_model.specs.Promises.Settled.{IsCorrect}
use Rattle.cany_model.specs.Bus.Slot.{is_clean}
use Rattle.cany_model.specs.Rules.Messages.{accept_of_key}
use Rattle.cany_model.specs.Rules.Totcan.{is_accepted, is_heard, can_be_accepted, tot_of_key}
use Rattle.cany_model.specs.Rules.Turn.{scenario_for, turn_effects}
use Rattle.cany_model.proofs.Among.{Among, Among-from_Contains, Among-place, count-grows, count-no, count-yes}
use Rattle.cany_model.proofs.Runs.Journals.{run_then}
use Rattle.cany_model.proofs.Runs.Runs.{IsOrderly, orderly}
use Rattle.cany_model.proofs.Bus.Seen.{carries_other, hidden_not, history-is, length-seen}
use Rattle.cany_model.proofs.Promises.WithinSeen.{partial_seen}
use Rattle.cany_model.proofs.Runs.SlotStates.{slot_state_is, trace_grows}
use Rattle.cany_model.proofs.Bus.States.{no_note, note_at}
use Rattle.cany_model.proofs.Rules.Waits.{Asks, waits-from_after}
use Rattle.cany_model.proofs.Promises.EachNode.{EachRunning}
use Rattle.cany_model.proofs.Rules.Services.AskedFacts.{same_answer}
use Rattle.cany_model.proofs.Timed.Order.Accepted.{accepted_done, accepted_on, heard_at, heard_from, not_vector, sees_accept, some_node}
use Rattle.cany_model.proofs.Timed.Common.Ages.{Carried, Clean, Done, Gets, NoPlace, Sends, any_past, carried_there, carries, carries_clean, clean_carried, gave, open_from, past, some_past}
use Rattle.cany_model.proofs.Timed.Order.AcceptanceRelays.{AcceptsLater, Answer, Answers, Hears, accepts_later, heard_holds, later_seen, many_copies}
use Rattle.cany_model.proofs.Timed.Order.AcceptanceRelaysRun.{AnswerNode, answers_run}
use Rattle.cany_model.proofs.Timed.Order.NoLateAcceptances.{NoAcceptanceSince, IsCarriedOnce, at_older, no_acceptance_after, quiet_asks, quiet_waits, unseen_later}
use Rattle.cany_model.proofs.Timed.Order.OrderAt.{one_done}
use Rattle.cany_model.proofs.Timed.Common.SeenAges.{Sees, carried_from, clean_from, clean_to, done_from, done_to, gets_from, gets_to, partial_to, sends_from, sends_to}
use Rattle.cany_model.proofs.Timed.Order.TotKept.{NoSilent, TotKept}
use Rattle.cany_model.proofs.Timed.Order.TotRun.{past_next, tot_kept}
use Rattle.cany_model.proofs.Timed.Order.TotSlots.{carries-true, got_carried, holds_carried, sends_clean}
use Rattle.cany_model.proofs.Timed.Order.TotEffects.{NoAsk, copies_read, now_cases, own_read}

-- What a running node has accepted by now, node j had accepted by each reading that reaches the
-- closing, if its incarnation sees the Clean slot of the data frame, which has the age q.
abbrev pub AcceptedAt : ScenarioParts → RunState → Type 0
AcceptedAt scenario s =
    (key : MsgKey) (j q v : ℕ) → runs (node_at s.nodes j) ≡ true → Done (seen (node_at s.nodes j).present s.trace) q key
    → is_accepted_by_some scenario s key ≡ true → (node_at s.nodes j).unread ≤ v → v + scenario.params.bound ≤ q
    → is_accepted scenario.params.bound j key (past j (seen (node_at s.nodes j).present s.trace) v) ≡ true

-- ---- more copies than there may be Partial slots

clean_or_few : (i u : ℕ) (x : Identity) (T : List SlotNote) → ((p : ℕ) → Gets i T p x → Clean T p x ⊎ (is_partial_slot_of x (note_at T p) ≡ true))
    → ((r : ℕ) × Clean T r x) ⊎ (copies x (past i T u) ≤ partial_slots x T)
unfolding copies
clean_or_few i zero x [] h = inr (omega arith)
clean_or_few i (suc u) x [] h = inr (omega arith)
clean_or_few i (suc u) x (note ∷ T) h = elim (clean_or_few i u x T (λ p. h (suc p))) [
  | inl clean ↦ inl (suc clean.0, clean.1)
  | inr few ↦ let more = count-grows (is_partial_slot_of x) note T in inr (omega (arith, few, more))
]
clean_or_few i zero x (note ∷ T) h = elim (clean_or_few i 0 x T (λ p. h (suc p))) [
  | inl clean ↦ inl (suc clean.0, clean.1)
  | inr few ↦ elim (cases_Bool (is_got x (given i note))) [
    | inr other ↦
        let more = count-grows (is_partial_slot_of x) note T in
        let same = count-no (is_got x) (given i note) (map (given i) T) other in
        inr (omega (arith, few, more, same))
    | inl got ↦ elim (h 0 got) [
      | inl clean ↦ inl (0, clean)
      | inr partial ↦
          let one = count-yes (is_got x) (given i note) (map (given i) T) got in
          let more = count-yes (is_partial_slot_of x) note T partial in
          inr (omega (arith, few, one, more))
    ]
  ]
]

partial_older : (x : Identity) (newer older : List SlotNote) → partial_slots x older ≤ partial_slots x (newer ++ older)
partial_older x [] older = omega arith
partial_older x (note ∷ newer) older =
    let rest = partial_older x newer older in
    let more = count-grows (is_partial_slot_of x) note (newer ++ older) in
    omega (arith, rest, more)

plain_older : (newer older : List SlotNote) → NoSilent (newer ++ older) → NoSilent older
plain_older [] older plain = plain
plain_older (note ∷ newer) older plain = plain_older newer older plain.1

-- ---- in a quiet state

-- Of a running node that waits with no frame that accepts the message and asks for none at what it
-- has not read: if it got a copy of it, or is the origin and sent the data frame, the frame that
-- accepts was carried Clean.
module _ (scenario : ScenarioParts) (i : ℕ) (T : List SlotNote) (u : ℕ) (W : List FrameParts) (m : MsgKey) (short : u ≤ length T)
    (later : AcceptsLater T) (hears : Hears i T) (a : Answers scenario.params i T u W)
    (own_clean : (c : ℕ) → Sends i T c (accept_of_key m) → (r : ℕ) × Clean T r (accept_of_key m))
    (many_clean : (v : ℕ) → scenario.params.omit < copies (accept_of_key m) (past i T v) → (r : ℕ) × Clean T r (accept_of_key m))
    (none : waits (accept_of_key m) W ≡ true → ⊥)
    (asks : (c : ℕ) → c < u → Among (Asks (accept_of_key m)) (turn_effects scenario i (past i T c)) → ⊥)
    (q : ℕ) (d : Done T q m) (near : q < scenario.params.bound) where
  abbrev Found : Type 0
  Found = (r : ℕ) × Clean T r (accept_of_key m)

  by_answer : Answer scenario.params i T u W m q → Found
  by_answer (inl w) = absurd (none w)
  by_answer (inr (inl sent)) = own_clean sent.0 sent.1
  by_answer (inr (inr (inl many))) = many_clean u many
  by_answer (inr (inr (inr late))) = absurd (omega (arith, late, near))

  -- the message is open at each notice since its data frame
  open_at : (v : ℕ) → v ≤ q → can_be_accepted scenario.params.bound m (past i T v) ≡ true
  open_at v from = open_from scenario.params.bound i v q m T from (omega (arith, near)) (heard_holds i T hears m q d)

  -- at a notice that it has not read
  by_notice : (c : ℕ) → c < u → c ≤ q → (NoAsk scenario.params i m (gave i T c) (past i T (suc c)) → Found) → Found
  by_notice c below from silent =
      let next : past i T c ≡ gave i T c ∷ past i T (suc c) = past_next i T c (omega (arith, below, short)) in
      elim (now_cases scenario i (gave i T c) (past i T (suc c)) [] m) [
        | inl no_ask ↦ silent no_ask
        | inr (inl w) ↦ elim (waits-from_after (accept_of_key m) (turn_effects scenario i (gave i T c ∷ past i T (suc c))) [] w) [
          | inl never ↦ absurd (false≢true never)
          | inr asked ↦
              absurd (asks c below (subst (λ (l : List NoticeKind). Among (Asks (accept_of_key m)) (turn_effects scenario i l)) (sym next) asked))
        ]
        | inr (inr (inl closes)) ↦
            absurd (both_ways (can_be_accepted scenario.params.bound m (gave i T c ∷ past i T (suc c))) closes.1
            (subst (λ (l : List NoticeKind). can_be_accepted scenario.params.bound m l ≡ true) next (open_at c from)))
        | inr (inr (inr many)) ↦
            let more = many_copies scenario.params m (gave i T c) (past i T (suc c)) many in
            many_clean c (omega (arith, more, ap (copies (accept_of_key m)) next))
      ]

  copy_step : (c : ℕ) → (c < u → (v : ℕ) → suc c ≤ v → Gets i T v (accept_of_key m) → Found) → Gets i T c (accept_of_key m) → Found
  copy_step c on got =
      let older = later m c q (got_carried (accept_of_key m) i (note_at T c) got) d in
      elim (cases_lt c u) [
        | inr read ↦ by_answer (a.to_copy m c q read got d (omega (arith, near)))
        | inl unread ↦ by_notice c unread (omega (arith, older)) (λ no_ask. elim (no_ask.got got (open_at (suc c) (omega (arith, older)))) [
          | inl copy ↦
              let g = any_past (is_got (accept_of_key m)) i (suc c) T (copies_read m (accept_of_key m) (past i T (suc c)) copy) in
              on unread g.0 g.1 g.2
          | inr own ↦
              let s = any_past (is_sent (accept_of_key m)) i (suc c) T (own_read m (accept_of_key m) (past i T (suc c)) own) in
              own_clean s.0 s.2
        ])
      ]

  copy_clean_by : (fuel c : ℕ) → u ≤ c + fuel → Gets i T c (accept_of_key m) → Found
  copy_clean_by zero c enough got = copy_step c (λ below v from g. absurd (omega (arith, below, enough))) got
  copy_clean_by (suc fuel) c enough got = copy_step c (λ below v from g. copy_clean_by fuel v (omega (arith, enough, from)) g) got

  pub copy_clean : (c : ℕ) → Gets i T c (accept_of_key m) → (r : ℕ) × Clean T r (accept_of_key m)
  copy_clean c got = copy_clean_by u c (omega arith) got

  pub sent_clean : m.origin ≡ i → Sends i T q (tot_of_key m) → (r : ℕ) × Clean T r (accept_of_key m)
  sent_clean mine sent = elim (cases_lt q u) [
    | inr read ↦ by_answer (a.to_sent m q mine read sent d)
    | inl unread ↦ by_notice q unread (omega arith) (λ no_ask. absurd (no_ask.sent sent mine))
  ]

-- ---- around a quiet state

-- What is known of a state of a run, and of an earlier state of it that was quiet: the data frame
-- of the message was carried Clean before the quiet one, in which the message is still open.
pub record AtQuiet (scenario : ScenarioParts) (s base : RunState) (m : MsgKey) (q : ℕ) : Type 0 where
  pub orderly : IsOrderly scenario.params.nodes s
  pub plain : NoSilent s.trace
  pub few : (x : Identity) → partial_slots x s.trace ≤ scenario.params.omit
  pub tot : TotKept scenario s
  pub orderly_base : IsOrderly scenario.params.nodes base
  pub tot_base : TotKept scenario base
  pub answers : EachRunning (AnswerNode scenario) base
  pub quiet : IsQuiet scenario base
  pub not_carried : NoAcceptanceSince m base s
  pub done : Done s.trace q m
  pub age : ℕ
  pub ages : q ≡ length not_carried.newer + age
  pub near : age < scenario.params.bound

module _ (scenario : ScenarioParts) (s base : RunState) (m : MsgKey) (q : ℕ) (k : AtQuiet scenario s base m q) where
  -- what holds of an older slot of the trace, holds of that slot in the quiet state
  back : (P : SlotNote → Type 0) (c v : ℕ) → c ≡ length k.not_carried.newer + v → P (note_at s.trace c) → P (note_at base.trace v)
  back P c v at h =
      subst P (ap (note_at s.trace) at ∙ ap (λ t. note_at t (length k.not_carried.newer + v)) k.not_carried.trace ∙ at_older k.not_carried.newer base.trace v) h

  forth : (P : SlotNote → Type 0) (v : ℕ) → P (note_at base.trace v) → P (note_at s.trace (length k.not_carried.newer + v))
  forth P v h = subst P (sym (ap (λ t. note_at t (length k.not_carried.newer + v)) k.not_carried.trace ∙ at_older k.not_carried.newer base.trace v)) h

  plain_base : NoSilent base.trace
  plain_base = plain_older k.not_carried.newer base.trace (subst NoSilent k.not_carried.trace k.plain)

  done_base : Done base.trace k.age m
  done_base = back (λ n. carries_clean (tot_of_key m) n ≡ true) q k.age k.ages k.done

  there : q < length s.trace
  there = carried_there (tot_of_key m) s.trace q (clean_carried (tot_of_key m) (note_at s.trace q) k.done)

  once : (c : ℕ) → Done s.trace c m → c ≡ q
  once c d = one_done s.trace (λ a r n. k.tot.trace.data_first a r n) m c q d k.done

  -- a copy is older than the quiet state
  copy_old : (c : ℕ) → Carried s.trace c (accept_of_key m) → length k.not_carried.newer ≤ c
  copy_old c carried = elim (cases_lt c (length k.not_carried.newer)) [ inl fresh ↦ absurd (k.not_carried.not_carried c fresh carried) | inr old ↦ old ]

  -- ---- a node of the quiet state, by what its incarnation sees of it

  module _ (i : ℕ) (ran : runs (node_at base.nodes i) ≡ true) where
    abbrev inc : Incarnation
    inc = (node_at base.nodes i).present

    abbrev T : List SlotNote
    T = seen (node_at base.nodes i).present base.trace

    own_found : (c : ℕ) → Sends i T c (accept_of_key m) → (r : ℕ) × Clean T r (accept_of_key m)
    own_found c sent =
        let f = sends_from inc base.trace i c (accept_of_key m) sent in
        (c, clean_to inc base.trace c (accept_of_key m) f.0 (sends_clean base.trace plain_base i c (accept_of_key m) f.1))

    got_from : (p : ℕ) → Gets i T p (accept_of_key m)
        → Clean T p (accept_of_key m) ⊎ (is_partial_slot_of (accept_of_key m) (note_at T p) ≡ true)
    got_from p got =
        let f = gets_from inc base.trace i p (accept_of_key m) got in
        elim (k.tot_base.trace.got_from i p (accept_of_key m) f.1) [
          | inl clean ↦ inl (clean_to inc base.trace p (accept_of_key m) f.0 clean)
          | inr partial ↦ inr (partial_to inc base.trace p (accept_of_key m) f.0 partial)
        ]

    many_found : (v : ℕ) → scenario.params.omit < copies (accept_of_key m) (past i T v) → (r : ℕ) × Clean T r (accept_of_key m)
    many_found v many = elim (clean_or_few i v (accept_of_key m) T got_from) [
      | inl clean ↦ clean
      | inr less ↦
          let by_seen = partial_seen (accept_of_key m) inc base.trace in
          let by_age = partial_older (accept_of_key m) k.not_carried.newer base.trace in
          let most = k.few (accept_of_key m) in
          absurd (omega (arith, many, less, by_seen, by_age, most, ap (partial_slots (accept_of_key m)) k.not_carried.trace))
    ]

    pub base_clean : Sees (node_at base.nodes i).present base.trace k.age
        → ((c : ℕ) × Gets i (seen (node_at base.nodes i).present base.trace) c (accept_of_key m))
        ⊎ ((m.origin ≡ i) × Sends i (seen (node_at base.nodes i).present base.trace) k.age (tot_of_key m))
        → (r : ℕ) × Clean base.trace r (accept_of_key m)
    base_clean sees h =
        let sc : ScenarioParts = scenario_for scenario inc in
        let u : ℕ = (node_at base.nodes i).unread in
        let W : List FrameParts = (node_at base.nodes i).waiting in
        let short = k.orderly_base.unread i in
        let within : u ≤ length T = omega (arith, short, length-seen inc base.trace) in
        let later = later_seen inc base.trace (accepts_later scenario base.trace k.tot_base.trace) in
        let hears = (k.tot_base.nodes i ran).heard in
        let d : Done T k.age m = done_to inc base.trace k.age m sees done_base in
        let silent = quiet_waits scenario base k.quiet i ran m in
        let asks = quiet_asks scenario base k.quiet i ran m in
        let found : (r : ℕ) × Clean T r (accept_of_key m) = elim h [
          | inl copy ↦
              copy_clean sc i T u W m within later hears (k.answers i ran) own_found many_found silent asks k.age d k.near copy.0 copy.1
          | inr own ↦
              sent_clean sc i T u W m within later hears (k.answers i ran) own_found many_found silent asks k.age d k.near own.0 own.1
        ] in
        (found.0, (clean_from inc base.trace found.0 (accept_of_key m) found.1).1)

  -- ---- a node that has accepted the message by now

  pub accept_clean : (i : ℕ) → runs (node_at s.nodes i) ≡ true
      → is_accepted scenario.params.bound i m (past i (seen (node_at s.nodes i).present s.trace) (node_at s.nodes i).unread) ≡ true
      → (r : ℕ) × Clean base.trace r (accept_of_key m)
  unfolding is_accepted has_own
  accept_clean i running h =
      let inc = (node_at s.nodes i).present in
      let S = seen (node_at s.nodes i).present s.trace in
      let u = (node_at s.nodes i).unread in
      let x = tot_of_key m in
      let y = accept_of_key m in
      let read = accepted_done scenario s.trace inc k.plain k.orderly.numbered k.tot.trace i u m h in
      let was = done_from inc s.trace read.0 m read.2 in
      let sees : Sees inc s.trace q = subst (Sees inc s.trace) (once read.0 was.1) was.0 in
      elim (k.not_carried.who i running) [
        | inr later ↦
            absurd (unseen_later base k.not_carried.newer s.trace (node_at s.nodes i) k.not_carried.trace k.orderly.numbered later q (omega (arith, k.ages)) there
            sees)
        | inl stays ↦
            let sees_base : Sees (node_at base.nodes i).present base.trace k.age =
            subst (λ (n : Incarnation). Sees n base.trace k.age) stays.same (back (λ n. is_hidden inc n ≡ false) q k.age k.ages sees) in
            elim (or_cases (is_heard scenario.params.bound m (past i S u)) (m.origin == i && list_any (is_sent x) (past i S u)) h) [
              | inl heard ↦
                  let g = heard_at scenario.params.bound i u m S heard in
                  let f = gets_from inc s.trace i g.0 y g.2 in
                  let old = copy_old g.0 (got_carried y i (note_at s.trace g.0) f.1) in
                  let v : ℕ = g.0 - length k.not_carried.newer in
                  let at : g.0 ≡ length k.not_carried.newer + v = omega (arith, old) in
                  let got : Gets i (seen inc base.trace) v y =
                  gets_to inc base.trace i v y (back (λ n. is_hidden inc n ≡ false) g.0 v at f.0)
                  (back (λ n. is_got y (given i n) ≡ true) g.0 v at f.1) in
                  base_clean i stays.ran sees_base (inl (v, subst (λ (n : Incarnation). Gets i (seen n base.trace) v y) stays.same got))
              | inr own ↦
                  let parts = and_parts (m.origin == i) (list_any (is_sent x) (past i S u)) own in
                  let g = any_past (is_sent x) i u S parts.1 in
                  let f = sends_from inc s.trace i g.0 x g.2 in
                  let same : g.0 ≡ q = once g.0 (sends_clean s.trace k.plain i g.0 x f.1) in
                  let sent : Sends i (seen (node_at base.nodes i).present base.trace) k.age x =
                  sends_to (node_at base.nodes i).present base.trace i k.age x sees_base
                  (back (λ n. is_sent x (given i n) ≡ true) g.0 k.age (same ∙ k.ages) f.1) in
                  base_clean i stays.ran sees_base (inr (eqb-true m.origin i parts.0, sent))
            ]
      ]

  -- ---- a node that sees the data frame, at a reading that reaches the closing

  module _ (j v : ℕ) (running : runs (node_at s.nodes j) ≡ true) (sees : Done (seen (node_at s.nodes j).present s.trace) q m)
      (late : v + scenario.params.bound ≤ q) where
    abbrev eye : Incarnation
    eye = (node_at s.nodes j).present

    abbrev S : List SlotNote
    S = seen (node_at s.nodes j).present s.trace

    abbrev heard_by : Bool
    heard_by = is_heard scenario.params.bound m (past j S v)

    got_accepts : (r : ℕ) → Gets j S r (accept_of_key m) → is_accepted scenario.params.bound j m (past j S v) ≡ true
    unfolding is_accepted
    got_accepts r got =
        let c = got_carried (accept_of_key m) j (note_at s.trace r) (gets_from eye s.trace j r (accept_of_key m) got).1 in
        let old = copy_old r c in
        let older = accepts_later scenario s.trace k.tot.trace m r q c k.done in
        let held = heard_holds j S (k.tot.nodes j running).heard m q sees in
        let in_time : can_be_accepted scenario.params.bound m (past j S (suc r)) ≡ true =
        open_from scenario.params.bound j (suc r) q m S (omega (arith, older)) (omega (arith, k.ages, k.near, old)) held in
        let no_place : NoPlace j v r m S =
        λ p _ below place.
        let c = carried_from eye s.trace p (tot_of_key m) (holds_carried m j (note_at S p) place) in
        k.tot.trace.data_first p q m (omega (arith, below, older)) c.1 k.done in
        or_left heard_by (m.origin == j && has_own (tot_of_key m) (past j S v))
        (heard_from scenario.params.bound j v r m S no_place (omega (arith, k.ages, k.near, late, old)) got in_time)

    own_accepts : m.origin ≡ j → (c : ℕ) → Sends j S c (tot_of_key m) → is_accepted scenario.params.bound j m (past j S v) ≡ true
    unfolding is_accepted has_own
    own_accepts mine c sent =
        let same : c ≡ q = once c (sends_clean s.trace k.plain j c (tot_of_key m) (sends_from eye s.trace j c (tot_of_key m) sent).1) in
        or_right heard_by (m.origin == j && list_any (is_sent (tot_of_key m)) (past j S v))
        (and_from (m.origin == j) (list_any (is_sent (tot_of_key m)) (past j S v)) (eq-eqb m.origin j mine)
        (some_past (is_sent (tot_of_key m)) j v c S refl (omega (arith, same, late)) sent))

    pub all_accept : (r : ℕ) → Clean base.trace r (accept_of_key m)
        → is_accepted scenario.params.bound j m (past j (seen (node_at s.nodes j).present s.trace) v) ≡ true
    all_accept r clean =
        let x = accept_of_key m in
        let c : ℕ = length k.not_carried.newer + r in
        let now : Clean s.trace c x = forth (λ n. carries_clean x n ≡ true) r clean in
        let carried = clean_carried x (note_at s.trace c) now in
        let older = accepts_later scenario s.trace k.tot.trace m c q carried k.done in
        let by_eye : Sees eye s.trace c =
        sees_accept scenario s.trace eye k.plain k.orderly.numbered k.tot.trace m c q (omega (arith, older)) there
        (done_from eye s.trace q m sees).0 carried in
        elim ((k.tot.nodes j running).heard c x (clean_to eye s.trace c x by_eye now)) [
          | inl got ↦ got_accepts c got
          | inr sent ↦ elim ((k.tot.nodes j running).accept_cause m (inr (c, sent))) [
            | inl own ↦ own_accepts own.0 own.1.0 own.1.2
            | inr copy ↦ got_accepts copy.1.0 copy.1.2
          ]
        ]

-- ---- every run

-- the quiet slot between the data frame and the closing
at_quiet : (scenario : ScenarioParts) (journal : List Step) → scenario.params.nodes ≤ most_nodes
    → IsWithin scenario.params (run scenario journal).trace → HasQuietSlots scenario journal → (m : MsgKey) (q : ℕ)
    → Done (run scenario journal).trace q m → scenario.params.bound ≤ q
    → (base : RunState) × AtQuiet scenario (run scenario journal) base m q
at_quiet scenario journal few within slots m q d late =
    let T : List SlotNote = (run scenario journal).trace in
    let plain : NoSilent T = recursion_from_All (λ note. is_silent_slot note ≡ false) T within.silent in
    let tot : TotKept scenario (run scenario journal) = tot_kept scenario few journal plain in
    let there = carried_there (tot_of_key m) T q (clean_carried (tot_of_key m) (note_at T q) d) in
    let t = slots (length T - q) (omega (arith, there, late)) in
    let r = slot_state_is scenario t.0 journal t.3.state t.3.ran in
    let base : RunState = run scenario r.before in
    let rest : List Step = step.Slot ∷ r.after in
    let whole : run scenario journal ≡ run_from scenario base rest =
    ap (run scenario) r.whole ∙ run_then scenario (opening scenario.params.nodes) r.before rest in
    let number : length base.trace ≡ t.0 = ap slots_run r.state ∙ r.number in
    let grows = trace_grows scenario base rest in
    let is : T ≡ grows.0 ++ base.trace = ap (λ (s : RunState). s.trace) whole ∙ grows.1 in
    let long : length T ≡ length grows.0 + length base.trace = ap length is ∙ length-append grows.0 base.trace in
    let age : ℕ = q - length grows.0 in
    let at : q ≡ length grows.0 + age = omega (arith, long, number, t.1, there) in
    let quiet : IsQuiet scenario base = subst (IsQuiet scenario) (sym r.state) t.3.quiet in
    let done : Done base.trace age m =
    subst (λ (n : SlotNote). carries_clean (tot_of_key m) n ≡ true)
    (ap (note_at T) at ∙ ap (λ l. note_at l (length grows.0 + age)) is ∙ at_older grows.0 base.trace age) d in
    let once : IsCarriedOnce m T = λ c r. tot.trace.data_first c r m in
    let not_carried : NoAcceptanceSince m base (run scenario journal) =
    subst (NoAcceptanceSince m base) (sym whole)
    (no_acceptance_after scenario few m base (orderly scenario r.before) quiet age done rest (subst (λ (s : RunState). IsCarriedOnce m s.trace) whole once)) in
    let long' : length T ≡ length not_carried.newer + length base.trace = ap length not_carried.trace ∙ length-append not_carried.newer base.trace in
    let plain_base : NoSilent base.trace = plain_older not_carried.newer base.trace (subst NoSilent not_carried.trace plain) in (
      base,
      record {
        orderly = orderly scenario journal;
        plain = plain;
        few = within.omit;
        tot = tot;
        orderly_base = orderly scenario r.before;
        tot_base = tot_kept scenario few r.before plain_base;
        answers = answers_run scenario few r.before plain_base;
        quiet = quiet;
        not_carried = not_carried;
        done = d;
        age = age;
        ages = omega (arith, long, long', at);
        near = omega (arith, long, number, t.2, at, there);
      },
    )

-- a running node among those that accept
pub some_number : (test : ℕ → Bool) (l : List ℕ) → list_any test l ≡ true → (i : ℕ) × (test i ≡ true)
some_number test [] h = absurd (false≢true h)
some_number test (x ∷ l) h = elim (or_cases (test x) (list_any test l) h) [ inl here ↦ (x, here) | inr there ↦ some_number test l there ]

accepted_now : (scenario : ScenarioParts) (s : RunState) (i : ℕ) (m : MsgKey) → has_accepted scenario s m i ≡ true
    → is_accepted scenario.params.bound i m (past i (seen (node_at s.nodes i).present s.trace) (node_at s.nodes i).unread) ≡ true
accepted_now scenario s i m h = ap (is_accepted scenario.params.bound i m) (sym (history-is i s)) ∙ h

-- by ages
pub acceptance_at : (scenario : ScenarioParts) (journal : List Step) → scenario.params.nodes ≤ most_nodes
    → IsWithin scenario.params (run scenario journal).trace → HasQuietSlots scenario journal → AcceptedAt scenario (run scenario journal)
acceptance_at scenario journal few within slots m j q v running sees some unread late =
    let s : RunState = run scenario journal in
    let d : Done s.trace q m = (done_from (node_at s.nodes j).present s.trace q m sees).1 in
    let at = at_quiet scenario journal few within slots m q d (omega (arith, late)) in
    let i = some_number (λ k. runs (node_at s.nodes k) && has_accepted scenario s m k) (range_with_len 0 scenario.params.nodes) some in
    let parts = and_parts (runs (node_at s.nodes i.0)) (has_accepted scenario s m i.0) i.1 in
    let clean = accept_clean scenario s at.0 m q at.1 i.0 parts.0 (accepted_now scenario s i.0 m parts.1) in
    all_accept scenario s at.0 m q at.1 j v running sees late clean.0 clean.1

-- ---- by slots

-- the age of a slot in which the data frame was carried Clean
carried_at : (T : List SlotNote) → ((age : ℕ) → age < length T → (note_at T age).slot ≡ length T - 1 - age) → (key : MsgKey) (c : ℕ)
    → WasCarriedClean T key c → (q : ℕ) × Done T q key × (suc (q + c) ≡ length T)
carried_at T numbered key c h =
    let w = Among-place (λ n. n ≡ h.note) no_note 0 T (Among-from_Contains T h.note h.stands) in
    let number = numbered w.0 w.2 in
    let clean : carries_clean (tot_of_key key) h.note ≡ true =
    and_from (carries (tot_of_key key) h.note) (is_clean h.note.verdict) h.frame (ap is_clean h.clean) in (
      w.0,
      subst (λ (n : SlotNote). carries_clean (tot_of_key key) n ≡ true) (sym w.3) clean,
      omega (arith, number, ap (λ (n : SlotNote). n.slot) w.3, h.here, w.2),
    )

-- a node that takes part in the slot sees it
sees_taken : (inc : Incarnation) (T : List SlotNote) (q : ℕ) (m : MsgKey) → Done T q m → inc.from ≤ (note_at T q).slot → Sees inc T q
sees_taken inc T q m d from =
    let w = carries-true (tot_of_key m) (note_at T q) (clean_carried (tot_of_key m) (note_at T q) d) in
    let other : same_class w.what.class class.Rha ≡ false = ap (λ (x : Identity). same_class x.class class.Rha) (sym w.identity) ∙ not_vector in
    hidden_not inc (note_at T q) from (carries_other inc.cycle (note_at T q) w.what w.frame other)

-- what a node had read after its turn of the slot of a closing
to_closing : (s : RunState) (i c bound q : ℕ) → suc (q + c) ≡ length s.trace → c + bound < reads s i
    → history_to (c + bound) i s ≡ past i (seen (node_at s.nodes i).present s.trace) (q - bound)
to_closing s i c bound q at read =
    let n : ℕ = reads s i - (c + bound + 1) in
    let u : ℕ = (node_at s.nodes i).unread in
    let T : List SlotNote = seen (node_at s.nodes i).present s.trace in
    let left : u + n ≡ q - bound = omega (arith, at, read) in
    ap (drop n) (history-is i s) ∙ drop-map (given i) n (drop u T) ∙ ap (map (given i)) (drop-drop n u T ∙ ap (λ k. drop k T) left)

-- Of a message whose data frame was carried Clean all nodes that have read its closing accepted it
-- in time, or none, and no running node accepts it otherwise.
pub acceptance : (scenario : ScenarioParts) (journal : List Step) → scenario.params.nodes ≤ most_nodes
    → IsWithin scenario.params (run scenario journal).trace → HasQuietSlots scenario journal → (key : MsgKey) (c : ℕ)
    → WasCarriedClean (run scenario journal).trace key c → IsAcceptedByAllOrNone scenario (run scenario journal) key c
acceptance scenario journal few within slots key c carried = record {
  alike = λ i j read_i read_j.
      same_answer (accepted_in_time scenario s key c i) (accepted_in_time scenario s key c j)
      (λ h. by_some (by_one i read_i.correct.correct (now i read_i h)) j read_j)
      (λ h. by_some (by_one j read_j.correct.correct (now j read_j h)) i read_i);
  by_all = λ i correct h j read. by_some (by_one i correct h) j read;
}
  where
    s : RunState
    s = run scenario journal

    o : IsOrderly scenario.params.nodes s
    o = orderly scenario journal

    plain : NoSilent s.trace
    plain = recursion_from_All (λ note. is_silent_slot note ≡ false) s.trace within.silent

    tot : TotKept scenario s
    tot = tot_kept scenario few journal plain

    at : (q : ℕ) × Done s.trace q key × (suc (q + c) ≡ length s.trace)
    at = carried_at s.trace o.numbered key c carried

    by_one : (i : ℕ) → IsCorrect scenario s i → has_accepted scenario s key i ≡ true → is_accepted_by_some scenario s key ≡ true
    by_one i correct h =
        some_node (λ k. runs (node_at s.nodes k) && has_accepted scenario s key k) scenario.params.nodes i correct.there
        (and_from (runs (node_at s.nodes i)) (has_accepted scenario s key i) correct.running h)

    -- what a node had accepted in time, it has accepted by now
    now : (i : ℕ) → HasReadClosing scenario s c i → accepted_in_time scenario s key c i ≡ true → has_accepted scenario s key i ≡ true
    now i read h =
        let node = node_at s.nodes i in
        ap (is_accepted scenario.params.bound i key) (history-is i s)
        ∙ accepted_on scenario s.trace node.present plain o.numbered tot.trace i node.unread (at.0 - scenario.params.bound) key
        (omega (arith, at.2, read.read))
        (ap (is_accepted scenario.params.bound i key) (sym (to_closing s i c scenario.params.bound at.0 at.2 read.read)) ∙ h)

    by_some : is_accepted_by_some scenario s key ≡ true → (j : ℕ) → HasReadClosing scenario s c j → accepted_in_time scenario s key c j ≡ true
    by_some some j read =
        let inc = (node_at s.nodes j).present in
        let number = o.numbered at.0 (omega (arith, at.2)) in
        let sees : Sees inc s.trace at.0 = sees_taken inc s.trace at.0 key at.1 (omega (arith, number, at.2, read.correct.took_part)) in
        ap (is_accepted scenario.params.bound j key) (to_closing s j c scenario.params.bound at.0 at.2 read.read)
        ∙ acceptance_at scenario journal few within slots key j at.0 (at.0 - scenario.params.bound) read.correct.correct.running
        (done_to inc s.trace at.0 key sees at.1) some (omega (arith, at.2, read.read)) (omega (arith, at.2, read.read))
