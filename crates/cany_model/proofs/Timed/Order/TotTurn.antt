-- A turn keeps what is kept of its node.
use Rattle.std.specs.Prelude.{slice_index_or}
use Rattle.std.proofs.Common.{◌≡◌, ℕ, suc, ◌+◌, ◌-◌, ◌<◌, ◌≤◌, ◌⊎◌, inl, inr, true, false, List, ◌∷◌, Some, length, ap, sym, ◌∙◌, subst, arith}
use Rattle.std.proofs.lemmas.Bool.{both_ways, cases_Bool, cases_eq, cases_lt, or_cases, or_left, or_right}
use Rattle.cany_base.specs.declared.class.Class.TheVariants as class
use Rattle.cany_base.specs.declared.message.MsgKey.{MsgKey}
use Rattle.cany_base.specs.declared.notice.NoticeKind.{NoticeKind}
use Rattle.cany_base.specs.declared.notice.NoticeKind.TheVariants.{Idle}
use Rattle.cany_base.specs.declared.slot_note.SlotNote.{SlotNote}
use Rattle.cany_base.specs.Frame.{FrameParts}
use Rattle.cany_base.specs.Scenario.{ScenarioParts}
use Rattle.cany_model.specs.Bus.Frames.{Identity, same_class}
use Rattle.cany_model.specs.Bus.History.{has_own, is_got, is_hidden, is_sent, seen}
use Rattle.cany_model.specs.Bus.State.{Incarnation}
use Rattle.cany_model.specs.Bus.Waiting.{waits}
use Rattle.cany_model.specs.Rules.Backlog.{asked, backlog, next_after}
use Rattle.cany_model.specs.Rules.Effect.{waiting_after}
use Rattle.cany_model.specs.Rules.Messages.{Message, accept_of_key, data_id}
use Rattle.cany_model.specs.Rules.Totcan.{after_place, holds, can_be_accepted, tot_of_key}
use Rattle.cany_model.specs.Rules.Turn.{turn_effects}
use Rattle.cany_model.proofs.Bus.Seen.{carries_other, hidden_why}
use Rattle.cany_model.proofs.Bus.States.{note_at}
use Rattle.cany_model.proofs.Rules.Services.BacklogFacts.{next_joined}
use Rattle.cany_model.proofs.Timed.Common.Ages.{Carried, Done, Gets, NoPlace, Sends, at_past, carried_there, clean_carried, copies_after_place, gave, open_place, own_after_place, past}
use Rattle.cany_model.proofs.Timed.Common.OwnSlots.{sees_from}
use Rattle.cany_model.proofs.Timed.Common.SeenAges.{Sees, carried_from, done_from, done_to, gets_from, sends_from}
use Rattle.cany_model.proofs.Timed.Order.TotBacklog.{IsLongSent, long_sent, planned_long, planned_next, planned_on, planned_other}
use Rattle.cany_model.proofs.Timed.Order.TotKept.{Cause, IsPlanned, NoSilent, NodeKept, TraceKept}
use Rattle.cany_model.proofs.Timed.Order.TotSlots.{carries-true, got_carried, holds_carried, sends_clean, sent_carried}
use Rattle.cany_model.proofs.Timed.Order.TotEffects.{AskCause, IsClosing, IsNextMessage, data_then, waits_still, waits_then}

-- the slots of the trace are numbered one after another
abbrev pub AreNumbered : List SlotNote → Type 0
AreNumbered T = (age : ℕ) → age < length T → (note_at T age).slot ≡ length T - 1 - age

-- an incarnation that sees a slot, sees a newer one that carried the data frame of a message
data_seen : (inc : Incarnation) (T : List SlotNote) → AreNumbered T → (newer older : ℕ) (m : MsgKey) → newer ≤ older → older < length T
    → Sees inc T older → Carried T newer (tot_of_key m) → Sees inc T newer
unfolding same_class
data_seen inc T numbered newer older m order there sees carried = elim (cases_Bool (is_hidden inc (note_at T newer))) [
  | inr plain ↦ plain
  | inl hidden ↦
      let why = hidden_why inc (note_at T newer) hidden in
      let c = carries-true (tot_of_key m) (note_at T newer) carried in
      elim why.1 [
        | inl early ↦
            let from = sees_from inc T older sees why.0 in
            let a = numbered newer (omega (arith, order, there)) in
            let b = numbered older there in
            absurd (omega (arith, early, from, a, b, order, there))
        | inr vector ↦
            let other : same_class c.what.class class.Rha ≡ false = ap (λ (x : Identity). same_class x.class class.Rha) (sym c.identity) in
            absurd (both_ways _ (carries_other inc.cycle (note_at T newer) c.what c.frame other) vector)
      ]
]

pub tot_one : (m k : MsgKey) → tot_of_key m ≡ tot_of_key k → m ≡ k
tot_one m k e = λ j. record { origin = (e j).node; seq = (e j).number }

some_same : (k l : Message) → Some k ≡ Some l → k ≡ l
some_same k l h = cc

module _ (scenario : ScenarioParts) (i : ℕ) (inc : Incarnation) (T : List SlotNote) (u : ℕ) (W : List FrameParts) (plain : NoSilent T)
    (numbered : AreNumbered T) (t : TraceKept scenario T) (step : past i (seen inc T) u ≡ gave i (seen inc T) u ∷ past i (seen inc T) (suc u))
    (n : NodeKept scenario i (seen inc T) (suc u) W) where
  abbrev S : List SlotNote
  S = seen inc T

  abbrev before : List NoticeKind
  before = past i (seen inc T) (suc u)

  abbrev now : List NoticeKind
  now = gave i (seen inc T) u ∷ past i (seen inc T) (suc u)

  abbrev after : List FrameParts
  after = waiting_after (turn_effects scenario i (gave i (seen inc T) u ∷ past i (seen inc T) (suc u))) W

  -- ---- of the slots that it sees

  sent_done : (q : ℕ) (m : MsgKey) → Sends i S q (tot_of_key m) → Done S q m
  sent_done q m h = let s = sends_from inc T i q (tot_of_key m) h in done_to inc T q m s.0 (sends_clean T plain i q (tot_of_key m) s.1)

  held_seen : (q : ℕ) (m : MsgKey) → holds m (gave i S q) ≡ true → Sees inc T q × Carried T q (tot_of_key m)
  held_seen q m h = carried_from inc T q (tot_of_key m) (holds_carried m i (note_at S q) h)

  -- a data frame that was carried Clean is not carried after that
  done_last : (p q : ℕ) (m : MsgKey) → p < q → Carried S p (tot_of_key m) → Done S q m → ⊥
  done_last p q m less c d = t.data_first p q m less (carried_from inc T p (tot_of_key m) c).1 (done_from inc T q m d).1

  held_last : (p q : ℕ) (m : MsgKey) → p < q → holds m (gave i S p) ≡ true → Done S q m → ⊥
  held_last p q m less h d = done_last p q m less (holds_carried m i (note_at S p) h) d

  -- ---- the frame that accepts a message

  -- at a slot that carried it or an older one there is no place of the message up to there
  no_place : (m : MsgKey) (v q : ℕ) → Carried S q (accept_of_key m) → NoPlace i v q m S
  no_place m v q c p from to held =
      let d = t.accept_after q m (carried_from inc T q (accept_of_key m) c).1 in
      t.data_first p d.0 m (omega (arith, to, d.1)) (held_seen p m held).1 d.3

  -- the closing, by ages
  closes_at : (m : MsgKey) (q : ℕ) → Done S q m → q ≡ u + scenario.params.bound → IsClosing scenario.params.bound m now
  closes_at m q d at =
      let held : holds m (gave i S q) ≡ true = elim (n.heard q (tot_of_key m) d) [
        | inl got ↦ or_left (is_got (tot_of_key m) (gave i S q)) (is_sent (tot_of_key m) (gave i S q)) got
        | inr sent ↦ or_right (is_got (tot_of_key m) (gave i S q)) (is_sent (tot_of_key m) (gave i S q)) sent
      ] in
      let is : slice_index_or (past i S u) scenario.params.bound Idle ≡ gave i S q =
      at_past i scenario.params.bound u S ∙ ap (λ a. gave i S a) (sym at) in
      subst (λ (l : List NoticeKind). IsClosing scenario.params.bound m l) step (
        ap (holds m) is ∙ held,
        elim (cases_Bool (can_be_accepted scenario.params.bound m (past i S u))) [
          | inr shut ↦ shut
          | inl in_time ↦
              let p = open_place scenario.params.bound i u m S in_time in
              absurd (held_last p.0 q m (omega (arith, p.2, at)) p.3 d)
        ],
      )

  -- a data frame of its own that it read, it has sent
  own_held : (q : ℕ) (m : MsgKey) → m.origin ≡ i → holds m (gave i S q) ≡ true → Done S q m
  own_held q m mine held = elim (or_cases (is_got (tot_of_key m) (gave i S q)) (is_sent (tot_of_key m) (gave i S q)) held) [
    | inl got ↦ absurd (t.no_own_got q m (subst (λ j. Gets j T q (tot_of_key m)) (sym mine) (gets_from inc T i q (tot_of_key m) got).1))
    | inr sent ↦ sent_done q m sent
  ]

  closed_origin : (m : MsgKey) → m.origin ≡ i → IsClosing scenario.params.bound m now → Done S (u + scenario.params.bound) m
  closed_origin m mine c =
      own_held (u + scenario.params.bound) m mine
      (ap (holds m) (sym (at_past i scenario.params.bound u S))
      ∙ ap (λ (l : List NoticeKind). holds m (slice_index_or l scenario.params.bound Idle)) step ∙ c.0)

  -- an origin does not ask for it at a copy
  origin_got : (m : MsgKey) → m.origin ≡ i → Gets i S u (accept_of_key m) → can_be_accepted scenario.params.bound m before ≡ true
      → has_own (accept_of_key m) (after_place m before) ≡ false → ⊥
  origin_got m mine got in_time none = elim (n.origin_sends m u mine got) [
    | inl sent ↦
        both_ways (has_own (accept_of_key m) (after_place m before)) none
        (own_after_place i (suc u) sent.0 m (accept_of_key m) S
        (no_place m (suc u) sent.0 (sent_carried (accept_of_key m) i (note_at S sent.0) sent.2).0) (omega (arith, sent.1)) sent.2)
    | inr late ↦
        let p = open_place scenario.params.bound i (suc u) m S in_time in
        held_last p.0 late.0 m (omega (arith, p.2, late.1)) p.3 late.2
  ]

  -- the data frame of what waits or is asked for was carried Clean, and is not older than the slot
  -- that closes now
  done_near : (m : MsgKey) → (waits (accept_of_key m) W ≡ true) ⊎ AskCause scenario.params i m (gave i S u) before
      → (q : ℕ) × Done S q m × (q ≤ u + scenario.params.bound)
  done_near m (inl w) = let a = n.accept_age m w in (a.0, a.1, omega (arith, a.2))
  done_near m (inr (inl sent)) = (u, sent_done u m sent.0, omega arith)
  done_near m (inr (inr got)) =
      let a = t.accept_after u m (carried_from inc T u (accept_of_key m) (got_carried (accept_of_key m) i (note_at S u) got.0)).1 in
      let p = open_place scenario.params.bound i (suc u) m S got.1 in
      let place = held_seen p.0 m p.3 in
      elim (cases_lt p.0 a.0) [
        | inl less ↦ absurd (t.data_first p.0 a.0 m less place.1 a.3)
        | inr more ↦
            let sees = data_seen inc T numbered a.0 p.0 m more (carried_there (tot_of_key m) T p.0 place.1) place.0
            (clean_carried (tot_of_key m) (note_at T a.0) a.3) in
            (a.0, done_to inc T a.0 m sees a.3, omega (arith, more, p.2))
      ]

  turn_accept_age : (m : MsgKey) → waits (accept_of_key m) after ≡ true → (q : ℕ) × Done S q m × (q < u + scenario.params.bound)
  turn_accept_age m w =
      let h = waits_then scenario i (gave i S u) before W m w in
      let d = done_near m h.0 in (
        d.0,
        d.1,
        elim (cases_eq d.0 (u + scenario.params.bound)) [
          | inl at ↦ absurd (h.1 (closes_at m d.0 d.1 at))
          | inr other ↦ omega (arith, other, d.2)
        ],
      )

  sooner : (m : MsgKey) → Cause i S (suc u) m → Cause i S u m
  sooner m (inl a) = inl (a.0, (a.1.0, omega (arith, a.1.1), a.1.2))
  sooner m (inr b) = inr (b.0, (b.1.0, omega (arith, b.1.1), b.1.2))

  ask_cause : (m : MsgKey) → AskCause scenario.params i m (gave i S u) before → Cause i S u m
  ask_cause m (inl sent) = inl (sent.1, (u, omega arith, sent.0))
  ask_cause m (inr got) = elim (cases_eq m.origin i) [
    | inl mine ↦ absurd (origin_got m mine got.0 got.1 got.3)
    | inr other ↦ inr (other, (u, omega arith, got.0))
  ]

  turn_accept_cause : (m : MsgKey) → (waits (accept_of_key m) after ≡ true) ⊎ ((p : ℕ) × Sends i S p (accept_of_key m)) → Cause i S u m
  turn_accept_cause m (inr sent) = sooner m (n.accept_cause m (inr sent))
  turn_accept_cause m (inl w) = elim (waits_then scenario i (gave i S u) before W m w).0 [
    | inl old ↦ sooner m (n.accept_cause m (inl old))
    | inr asks ↦ ask_cause m asks
  ]

  ask_once : (m : MsgKey) (p : ℕ) → AskCause scenario.params i m (gave i S u) before → Sends i S p (accept_of_key m) → ⊥
  ask_once m p (inl sent) h = elim (n.accept_cause m (inr (p, h))) [
    | inl own ↦
        done_last u own.1.0 m (omega (arith, own.1.1)) (sent_carried (tot_of_key m) i (note_at S u) sent.0).0 (sent_done own.1.0 m own.1.2)
    | inr other ↦ other.0 sent.1
  ]
  ask_once m p (inr got) h = elim (n.accept_cause m (inr (p, h))) [
    | inl own ↦ origin_got m own.0 got.0 got.1 got.3
    | inr other ↦
        let many = copies_after_place i (suc u) other.1.0 m (accept_of_key m) S
        (no_place m (suc u) other.1.0 (got_carried (accept_of_key m) i (note_at S other.1.0) other.1.2)) other.1.1 other.1.2 in
        omega (arith, many, got.2)
  ]

  turn_accept_once : (m : MsgKey) (p : ℕ) → waits (accept_of_key m) after ≡ true → Sends i S p (accept_of_key m) → ⊥
  turn_accept_once m p w h = elim (waits_then scenario i (gave i S u) before W m w).0 [
    | inl old ↦ n.accept_once m p old h
    | inr asks ↦ ask_once m p asks h
  ]

  turn_origin_waits : (m : MsgKey) (p : ℕ) → m.origin ≡ i → Carried S p (accept_of_key m)
      → (waits (accept_of_key m) after ≡ true)
      ⊎ (((q : ℕ) × Sends i S q (accept_of_key m)) ⊎ ((q : ℕ) × Done S q m × (u + scenario.params.bound ≤ q)))
  turn_origin_waits m p mine c = elim (n.origin_waits m p mine c) [
    | inr (inl sent) ↦ inr (inl sent)
    | inr (inr late) ↦ inr (inr (late.0, late.1, omega (arith, late.2)))
    | inl w ↦ elim (waits_still scenario i (gave i S u) before W m w) [
      | inl still ↦ inl still
      | inr (inl closes) ↦ inr (inr (u + scenario.params.bound, closed_origin m mine closes, omega arith))
      | inr (inr many) ↦ elim (n.origin_sends m u mine many.got) [
        | inl sent ↦ inr (inl (sent.0, sent.2))
        | inr late ↦ inr (inr (late.0, late.2, omega (arith, late.1)))
      ]
    ]
  ]

  -- ---- data frames

  abbrev IsNext : MsgKey → Type 0
  IsNext m = IsNextMessage scenario i (gave i S u) before W m

  next_mine : (m : MsgKey) → IsNext m → m.origin ≡ i
  next_mine m next =
      sym (ap (λ (x : Identity). x.node) next.2) ∙ (next_joined scenario i (gave i S u) before next.0 next.1).origin

  -- what was planned was sent long before anything else is asked for
  planned_sent : (k : Message) → next_after scenario.params now (backlog scenario i now) (asked scenario i before) ≡ Some k → (m : MsgKey)
      → IsPlanned scenario i before m → (q : ℕ) × (u + (scenario.params.bound + scenario.params.lag) ≤ q) × Done S q m
  planned_sent k h m planned =
      let s = long_sent i S u (scenario.params.bound + scenario.params.lag) (tot_of_key m)
      (subst (λ (l : List NoticeKind). IsLongSent (scenario.params.bound + scenario.params.lag) l (tot_of_key m)) (sym step)
      (planned_long scenario i (gave i S u) before m k h planned)) in
      (s.0, s.1, sent_done s.0 m s.2)

  nothing_waits : (m k : MsgKey) → IsNext k → waits (tot_of_key m) W ≡ true → ⊥
  nothing_waits m k next w = let d = planned_sent next.0 next.1 m (n.data_asked m (inl w)) in n.data_new m d.0 w d.2

  turn_data_mine : (m : MsgKey) → waits (tot_of_key m) after ≡ true → m.origin ≡ i
  turn_data_mine m w = elim (data_then scenario i (gave i S u) before W m w) [ inl old ↦ n.data_mine m old | inr next ↦ next_mine m next ]

  turn_data_far : (m : MsgKey) (q : ℕ) (k : MsgKey) → waits (tot_of_key m) after ≡ true → Done S q k → k.origin ≡ i
      → scenario.params.bound + scenario.params.lag ≤ q
  turn_data_far m q k w d mine = elim (data_then scenario i (gave i S u) before W m w) [
    | inl old ↦ n.data_far m q k old d mine
    | inr next ↦
        let s = planned_sent next.0 next.1 k (n.data_asked k (inr (q, d, mine))) in
        elim (cases_lt q s.0) [
          | inl newer ↦ absurd (done_last q s.0 k newer (clean_carried (tot_of_key k) (note_at S q) d) s.2)
          | inr older ↦ omega (arith, older, s.1)
        ]
  ]

  turn_data_new : (m : MsgKey) (q : ℕ) → waits (tot_of_key m) after ≡ true → Done S q m → ⊥
  turn_data_new m q w d = elim (data_then scenario i (gave i S u) before W m w) [
    | inl old ↦ n.data_new m q old d
    | inr next ↦
        planned_other scenario i (gave i S u) before m next.0 next.1 (n.data_asked m (inr (q, d, next_mine m next))) next.2
  ]

  turn_data_one : (m k : MsgKey) → waits (tot_of_key m) after ≡ true → waits (tot_of_key k) after ≡ true → m ≡ k
  turn_data_one m k a b = elim (data_then scenario i (gave i S u) before W m a) [
    | inl old ↦ elim (data_then scenario i (gave i S u) before W k b) [
      | inl other ↦ n.data_one m k old other
      | inr next ↦ absurd (nothing_waits m k next old)
    ]
    | inr next ↦ elim (data_then scenario i (gave i S u) before W k b) [
      | inl other ↦ absurd (nothing_waits k m next other)
      | inr also ↦
          let same : next.0 ≡ also.0 = some_same next.0 also.0 (sym next.1 ∙ also.1) in
          tot_one m k (sym next.2 ∙ ap data_id same ∙ also.2)
    ]
  ]

  turn_data_asked : (m : MsgKey) → (waits (tot_of_key m) after ≡ true) ⊎ ((q : ℕ) × Done S q m × (m.origin ≡ i)) → IsPlanned scenario i (past i S u) m
  turn_data_asked m h = subst (λ (l : List NoticeKind). IsPlanned scenario i l m) (sym step) (elim h [
    | inr d ↦ planned_on scenario i (gave i S u) before m (n.data_asked m (inr d))
    | inl w ↦ elim (data_then scenario i (gave i S u) before W m w) [
      | inl old ↦ planned_on scenario i (gave i S u) before m (n.data_asked m (inl old))
      | inr next ↦ planned_next scenario i (gave i S u) before m next.0 next.1 next.2
    ]
  ])

  node_after_turn : NodeKept scenario i S u after
  node_after_turn = record {
    heard = n.heard;
    data_mine = turn_data_mine;
    data_far = turn_data_far;
    data_new = turn_data_new;
    data_one = turn_data_one;
    data_asked = turn_data_asked;
    accept_age = turn_accept_age;
    accept_cause = turn_accept_cause;
    accept_once = turn_accept_once;
    origin_waits = turn_origin_waits;
    origin_sends = n.origin_sends;
  }

pub turn_node : (scenario : ScenarioParts) (i : ℕ) (inc : Incarnation) (T : List SlotNote) (u : ℕ) (W : List FrameParts) → NoSilent T → AreNumbered T
    → TraceKept scenario T → past i (seen inc T) u ≡ gave i (seen inc T) u ∷ past i (seen inc T) (suc u) → NodeKept scenario i (seen inc T) (suc u) W
    → NodeKept scenario i (seen inc T) u (waiting_after (turn_effects scenario i (gave i (seen inc T) u ∷ past i (seen inc T) (suc u))) W)
turn_node scenario i inc T u W plain numbered t step n = node_after_turn scenario i inc T u W plain numbered t step n
