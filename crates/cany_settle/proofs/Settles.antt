-- In a whole run all of whose running nodes are at rest, every message is settled.
use Rattle.std.proofs.Common.{◌≡◌, ℕ, ◌+◌, ◌<◌, ◌≤◌, ◌==◌, ◌&&◌, ◌||◌, inl, inr, Bool, true, false, not, nat_lt, List, [], ◌∷◌, filter, length, take, drop, refl, ap, sym, ◌∙◌, subst, arith}
use Rattle.std.specs.List.{AllByRecursion, list_any, range_with_len}
use Rattle.std.proofs.lemmas.Bool.{and_from, and_parts, both_ways, cases_Bool, cases_eq, cond_both, eq-eqb, false_from_ne_true, false≢true, le-ltb, lt-ltb, ltb-false, not-true, not_from_false, or_cases, or_left, or_right}
use Rattle.cany_base.specs.declared.class.Class.TheVariants as class
use Rattle.cany_base.specs.declared.message.Service.{Service}
use Rattle.cany_base.specs.declared.message.Service.TheVariants.{Ed, Rel, Tot}
use Rattle.cany_base.specs.declared.notice.NoticeKind.{NoticeKind}
use Rattle.cany_base.specs.declared.slot_note.SlotNote.{SlotNote}
use Rattle.cany_base.specs.Frame.{FrameParts}
use Rattle.cany_base.specs.Scenario.{ScenarioParts}
use Rattle.cany_model.specs.Bus.Frames.{Identity, identity_of, same_class}
use Rattle.cany_model.specs.Bus.History.{history, is_got, seen}
use Rattle.cany_model.specs.Bus.State.{Incarnation, RunState, node_at, runs}
use Rattle.cany_model.specs.Bus.Waiting.{waits}
use Rattle.cany_model.specs.Promises.Settled.{came_too_late, is_ahead, is_awaited, is_settled, origin_has_asked}
use Rattle.cany_model.specs.Promises.Quiet.{is_top}
use Rattle.cany_model.specs.Rules.Backlog.{backlog, joins_in}
use Rattle.cany_model.specs.Rules.Messages.{Message, accept_of_key, confirm_of_key, data_frame, data_id, frames_of, is_service, message_key, messages_of}
use Rattle.cany_model.specs.Rules.Relcan.{has_confirm, has_copy, has_timer_ahead, is_timed}
use Rattle.cany_model.specs.Rules.Sends.{is_sent_at_once, sendable}
use Rattle.cany_model.specs.Rules.Totcan.{can_be_accepted, has_closing_ahead}
use Rattle.cany_model.specs.Rules.Turn.{has_asked, is_ahead_at, scenario_at, scenario_for}
use Rattle.cany_model.specs.Runs.Run.{all_read}
use Rattle.cany_model.proofs.Among.{Among, Among-append_left, Among-append_right, Among-from_Contains, Among-from_any, Among-weaker, Among-which, Each-of, any-from_Among}
use Rattle.cany_model.proofs.Bus.Carried.{is_got-true}
use Rattle.cany_model.proofs.Bus.Identities.{same_class-true}
use Rattle.cany_model.proofs.Bus.Seen.{history-is}
use Rattle.cany_model.proofs.Promises.EachNode.{EachRunning}
use Rattle.cany_model.proofs.Promises.SettledFacts.{each_has_read, none_awaited}
use Rattle.cany_model.proofs.Rules.Services.AskedFacts.{asked_at_once, asked_of_backlog}
use Rattle.cany_model.proofs.Rules.Services.MessageKeys.{IsOneOf, is_service-from}
use Rattle.cany_model.proofs.Runs.Runs.{IsOrderly, history-length}
use Rattle.cany_model.proofs.Rules.Services.MessageClasses.{data_of_message, is_of_message}
use Rattle.cany_model.proofs.Timed.Common.Ages.{any_past, gave, past, some_past}
use Rattle.cany_model.proofs.Timed.Order.TotBacklog.{past_dropped}
use Rattle.cany_model.proofs.Timed.Order.TotSlots.{waiting_frame}
use Rattle.cany_model.proofs.Timed.Order.TotTurn.{AreNumbered}
use Rattle.cany_settle.specs.LongEnough.{settling_time}
use Rattle.cany_settle.proofs.Resting.{AreScriptedBy, NoLowerSlotAfter, Resting, greater-left, greater-right, low_at, none_low}
use Rattle.cany_settle.proofs.Turns.{AllAsked, IsOther, is_low, not_recent, top_rel}

-- ---- nobody waits

-- a node that waits with no frame of a message waits with none of this one
waits_not : (w : List FrameParts) → AllByRecursion IsOther w → (x : Identity) → is_of_message x.class ≡ true → waits x w ≡ true → ⊥
waits_not w others x of h =
    let f = waiting_frame x w h in
    let other : is_of_message f.0.class ≡ false = Each-of IsOther f.0 w others (Among-from_Contains w f.0 f.1) in
    false≢true (sym other ∙ ap (λ (y : Identity). is_of_message y.class) (sym f.2) ∙ of)

any_waits_not : (w : List FrameParts) → AllByRecursion IsOther w → (m : Message) → list_any (λ x. waits x w) (frames_of m) ≡ true → ⊥
any_waits_not w others m h =
    let x : Identity = data_id m in
    let y : Identity = confirm_of_key (message_key m) in
    let z : Identity = accept_of_key (message_key m) in
    elim (or_cases (waits x w) (waits y w || (waits z w || false)) h) [
      | inl data' ↦ waits_not w others x (data_of_message m.service) data'
      | inr rest ↦ elim (or_cases (waits y w) (waits z w || false) rest) [
        | inl confirm ↦ waits_not w others y refl confirm
        | inr last ↦ elim (or_cases (waits z w) false last) [ inl accept ↦ waits_not w others z refl accept | inr never ↦ false≢true never ]
      ]
    ]

-- ---- nothing is ahead

module _ (scenario : ScenarioParts) (i last : ℕ) (inc : Incarnation) (T : List SlotNote) (numbered : AreNumbered T) (no_lower : NoLowerSlotAfter last T)
    (late : last + settling_time scenario.params < length T) (m : Message) where
  abbrev read : List NoticeKind
  read = past i (seen inc T) 0

  no_timer : has_timer_ahead scenario m i read ≡ true → ⊥
  no_timer h =
      let x : Identity = identity_of (data_frame m) in
      let timed : Bool = is_timed i x in
      let copy : Bool = has_copy x read in
      let early : Bool = has_copy x (drop scenario.params.confirm read) in
      let outer = and_parts (timed && copy && not early) (not (has_confirm x read)) h in
      let inner = and_parts (timed && copy) (not early) outer.0 in
      let first = and_parts timed copy inner.0 in
      let rel : same_class x.class class.Rel ≡ true = (and_parts (same_class x.class class.Rel) (not (x.node == i)) first.0).0 in
      let q = any_past (is_got x) i 0 (seen inc T) first.1 in
      let low = low_at last i inc T q.0 numbered no_lower (got_low x rel (gave i (seen inc T) q.0) q.2) in
      let a = greater-left scenario.params.confirm (scenario.params.bound + scenario.params.lag) in
      let old : has_copy x (past i (seen inc T) (0 + scenario.params.confirm)) ≡ true =
      some_past (is_got x) i (0 + scenario.params.confirm) q.0 (seen inc T) refl (omega (arith, low.1, late, a)) q.2 in
      both_ways early (not-true early inner.1) (ap (has_copy x) (past_dropped i (seen inc T) 0 scenario.params.confirm) ∙ old)
    where
      got_low : (x : Identity) → same_class x.class class.Rel ≡ true → (e : NoticeKind) → is_got x e ≡ true → is_low e ≡ true
      got_low x rel e h =
          let g = is_got-true x e h in
          ap is_low g.was ∙ ap (λ (y : Identity). not (is_top y.class)) (sym g.identity)
          ∙ ap (λ c. not (is_top c)) (same_class-true x.class class.Rel rel) ∙ ap (λ b. not b) top_rel

  no_closing : has_closing_ahead scenario m i read ≡ true → ⊥
  no_closing h =
      let b = greater-right scenario.params.confirm (scenario.params.bound + scenario.params.lag) in
      both_ways (can_be_accepted scenario.params.bound (message_key m) read)
      (not_recent scenario.params.bound (message_key m) read (none_low scenario i last inc T numbered no_lower scenario.params.bound 0 (omega (arith, late, b))))
      (and_parts (is_service m.service Tot) (can_be_accepted scenario.params.bound (message_key m) read) h).1

  none_ahead : is_ahead_at scenario m i read ≡ true → ⊥
  none_ahead h = elim (or_cases (has_timer_ahead scenario m i read) (has_closing_ahead scenario m i read || false) h) [
    | inl timer ↦ no_timer timer
    | inr rest ↦ elim (or_cases (has_closing_ahead scenario m i read) false rest) [ inl closing ↦ no_closing closing | inr never ↦ false≢true never ]
  ]

-- ---- the origin has asked

among_filter : {X : Type 0} (test : X → Bool) (x : X) (xs : List X) → test x ≡ true → Among (λ y. y ≡ x) xs → Among (λ y. y ≡ x) (filter test xs)
among_filter test x [] passes h = absurd h
among_filter test x (y ∷ xs) passes (inl here) =
    cond_both (test y) (y ∷ filter test xs) (filter test xs) (λ ys. Among (λ z. z ≡ x) ys) (λ _. inl here)
    (λ fails. absurd (false≢true (sym fails ∙ ap test here ∙ passes)))
among_filter test x (y ∷ xs) passes (inr there) =
    cond_both (test y) (y ∷ filter test xs) (filter test xs) (λ ys. Among (λ z. z ≡ x) ys) (λ _. inr (among_filter test x xs passes there))
    (λ _. among_filter test x xs passes there)

-- a message of TOTCAN whose slot was read has joined its origin's backlog
has_joined : (scenario : ScenarioParts) (m : Message) → IsOneOf (messages_of scenario.sends) m → m.service ≡ Tot → scenario.from ≤ m.slot
    → (past : List NoticeKind) → m.slot < length past → Among (λ k. k ≡ m) (backlog scenario m.origin past)
unfolding backlog
has_joined scenario m is tot begun [] read = absurd (omega (arith, read))
has_joined scenario m is tot begun (e ∷ before) read = elim (cases_eq m.slot (length before)) [
  | inr older ↦
      Among-append_left (λ k. k ≡ m) (backlog scenario m.origin before) _ (has_joined scenario m is tot begun before (omega (arith, read, older)))
  | inl now ↦
      let joins : joins_in m.origin (length before) m ≡ true =
      and_from (is_service m.service Tot && m.origin == m.origin) (m.slot == length before)
      (and_from (is_service m.service Tot) (m.origin == m.origin) (is_service-from m.service Tot tot) (eq-eqb m.origin m.origin refl))
      (eq-eqb m.slot (length before) now) in
      let may : sendable scenario (length before) ≡ messages_of scenario.sends =
      rw (le-ltb (length before) scenario.from (omega (arith, begun, now))) refl in
      Among-append_right (λ k. k ≡ m) (backlog scenario m.origin before) _
      (among_filter (joins_in m.origin (length before)) m (sendable scenario (length before)) joins (subst (λ ms. IsOneOf ms m) (sym may) is))
]

take_all : (messages : List Message) → take (length messages) messages ≡ messages
take_all [] = refl
take_all (m ∷ messages) = ap (λ ms. m ∷ ms) (take_all messages)

at_once : (scenario : ScenarioParts) (m : Message) → IsOneOf (messages_of scenario.sends) m → scenario.from ≤ m.slot → (past : List NoticeKind)
    → m.slot < length past → is_sent_at_once m.service ≡ true → has_asked scenario m m.origin past ≡ true
at_once scenario m is begun past read once =
    asked_at_once scenario m m.origin past is once refl
    ∙ and_from (is_sent_at_once m.service && nat_lt m.slot (length past)) (not (nat_lt m.slot scenario.from))
    (and_from (is_sent_at_once m.service) (nat_lt m.slot (length past)) once (lt-ltb m.slot (length past) read))
    (not_from_false (nat_lt m.slot scenario.from) (le-ltb m.slot scenario.from begun))

-- the origin, if it takes part since the scripted slot, has asked: it has read all slots, and has
-- asked for all of its backlog
asked_by : (scenario : ScenarioParts) (m : Message) → IsOneOf (messages_of scenario.sends) m → scenario.from ≤ m.slot → (past : List NoticeKind)
    → m.slot < length past → AllAsked scenario m.origin past → (by : Service) → m.service ≡ by → has_asked scenario m m.origin past ≡ true
asked_by scenario m is begun past read all Tot tot =
    let messages : List Message = backlog scenario m.origin past in
    let among : Among (λ k. (k.seq == m.seq) ≡ true) messages =
    Among-weaker (λ k. k ≡ m) (λ k. (k.seq == m.seq) ≡ true) (λ k e. eq-eqb k.seq m.seq (ap (λ (n : Message). n.seq) e)) messages
    (has_joined scenario m is tot begun past read) in
    asked_of_backlog scenario m m.origin past tot refl
    ∙ ap (λ ms. list_any (λ k. k.seq == m.seq) ms) (ap (λ n. take n messages) all ∙ take_all messages)
    ∙ any-from_Among (λ k. k.seq == m.seq) messages among
asked_by scenario m is begun past read all Ed ed = at_once scenario m is begun past read (ap is_sent_at_once ed)
asked_by scenario m is begun past read all Rel rel = at_once scenario m is begun past read (ap is_sent_at_once rel)

-- ---- every message

module _ (scenario : ScenarioParts) (last : ℕ) (s : RunState) (o : IsOrderly scenario.params.nodes s) (begins : scenario.from ≡ 0)
    (no_lower : NoLowerSlotAfter last s.trace) (scripted : AreScriptedBy last scenario) (all : all_read s ≡ true)
    (late : last + settling_time scenario.params < length s.trace) (rest : EachRunning (Resting scenario last) s) (m : Message)
    (is : IsOneOf (messages_of scenario.sends) m) where
  read_all : (i : ℕ) → runs (node_at s.nodes i) ≡ true → history i s ≡ past i (seen (node_at s.nodes i).present s.trace) 0
  read_all i running =
      history-is i s ∙ ap (past i (seen (node_at s.nodes i).present s.trace)) (each_has_read s all i running)

  origin_asked : runs (node_at s.nodes m.origin) ≡ true → came_too_late s m ≡ false → origin_has_asked scenario s m ≡ true
  origin_asked running early =
      let i : ℕ = m.origin in
      let inc : Incarnation = (node_at s.nodes i).present in
      let sc : ScenarioParts = scenario_for scenario inc in
      let unread = each_has_read s all i running in
      let slot = scripted m is in
      let begun : sc.from ≤ m.slot =
      cond_both (inc.number == 0) scenario.from inc.from (λ f. f ≤ m.slot) (λ _. omega (arith, begins)) (λ _. ltb-false m.slot inc.from early) in
      let asked : AllAsked sc i (history i s) = subst (AllAsked sc i) (sym (history-is i s)) (rest i running).asked in
      asked_by sc m is begun (history i s) (omega (arith, history-length i s, unread, slot, late)) asked m.service refl

  is_asked : (origin_has_asked scenario s m || not (runs (node_at s.nodes m.origin)) || came_too_late s m) ≡ true
  is_asked =
      let asked : Bool = origin_has_asked scenario s m in
      let stopped : Bool = not (runs (node_at s.nodes m.origin)) in
      elim (cases_Bool (came_too_late s m)) [
        | inl late' ↦ or_right (asked || stopped) (came_too_late s m) late'
        | inr early ↦ or_left (asked || stopped) (came_too_late s m) (elim (cases_Bool (runs (node_at s.nodes m.origin))) [
          | inl running ↦ or_left asked stopped (origin_asked running early)
          | inr gone ↦ or_right asked stopped (not_from_false (runs (node_at s.nodes m.origin)) gone)
        ])
      ]

  none_is_ahead : is_ahead scenario s m ≡ false
  none_is_ahead =
      let ahead : ℕ → Bool = λ i. is_ahead_at (scenario_at scenario s i) m i (history i s) in
      let test : ℕ → Bool = λ i. runs (node_at s.nodes i) && ahead i in
      false_from_ne_true (list_any test (range_with_len 0 scenario.params.nodes)) (λ h.
      let w = Among-which (λ i. test i ≡ true) (range_with_len 0 scenario.params.nodes) (Among-from_any test (range_with_len 0 scenario.params.nodes) h) in
      let i : ℕ = w.0 in
      let inc : Incarnation = (node_at s.nodes i).present in
      let parts = and_parts (runs (node_at s.nodes i)) (ahead i) w.2 in
      none_ahead (scenario_for scenario inc) i last inc s.trace o.numbered no_lower late m
      (subst (λ (l : List NoticeKind). is_ahead_at (scenario_for scenario inc) m i l ≡ true) (read_all i parts.0) parts.1))

  pub settles : is_settled scenario s m ≡ true
  unfolding is_settled
  settles =
      let asked : Bool = origin_has_asked scenario s m || not (runs (node_at s.nodes m.origin)) || came_too_late s m in
      let quiet : Bool = not (is_awaited (frames_of m) s) in
      and_from (asked && quiet && all_read s) (not (is_ahead scenario s m))
      (and_from (asked && quiet) (all_read s)
      (and_from asked quiet is_asked (not_from_false (is_awaited (frames_of m) s) (none_awaited (frames_of m) s (λ i running. any_waits_not (node_at s.nodes i).waiting (rest i running).waits m)))) all)
      (not_from_false (is_ahead scenario s m) none_is_ahead)
