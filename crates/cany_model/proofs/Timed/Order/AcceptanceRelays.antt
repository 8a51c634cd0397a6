-- A node that read a copy of a frame that accepts a message in time, or at the origin its own
-- transmission of the data frame, waits with the frame that accepts, or has sent it, or has read
-- more than omit copies, or has read so far that the message is closed.
use Rattle.std.proofs.Common.{◌≡◌, ℕ, zero, suc, ◌+◌, ◌<◌, ◌≤◌, ◌⊎◌, inl, inr, true, false, List, ◌∷◌, ap, arith, subst}
use Rattle.std.proofs.lemmas.Bool.{both_ways, cases_eq, cases_lt, or_left, or_right}
use Rattle.cany_base.specs.declared.message.MsgKey.{MsgKey}
use Rattle.cany_base.specs.declared.notice.NoticeKind.{NoticeKind}
use Rattle.cany_base.specs.declared.slot_note.SlotNote.{SlotNote}
use Rattle.cany_base.specs.Frame.{FrameParts}
use Rattle.cany_base.specs.Params.{Parameters}
use Rattle.cany_base.specs.Scenario.{ScenarioParts}
use Rattle.cany_model.specs.Bus.Frames.{Identity}
use Rattle.cany_model.specs.Bus.History.{copies, given, is_got, is_sent, seen}
use Rattle.cany_model.specs.Bus.State.{Incarnation}
use Rattle.cany_model.specs.Bus.Waiting.{waits}
use Rattle.cany_model.specs.Rules.Effect.{waiting_after}
use Rattle.cany_model.specs.Rules.Messages.{accept_of_key}
use Rattle.cany_model.specs.Rules.Totcan.{holds, can_be_accepted, tot_of_key}
use Rattle.cany_model.specs.Rules.Turn.{turn_effects}
use Rattle.cany_model.proofs.Bus.States.{note_at}
use Rattle.cany_model.proofs.Promises.Diffusion.{copies_got, copies_grow}
use Rattle.cany_model.proofs.Runs.Steps.{kept_at}
use Rattle.cany_model.proofs.Timed.Common.Ages.{Carried, Clean, Done, Gets, Sends, any_past, clean_carried, gave, open_from, past}
use Rattle.cany_model.proofs.Timed.Common.SeenAges.{carried_from, done_from}
use Rattle.cany_model.proofs.Timed.Order.TotKept.{TraceKept}
use Rattle.cany_model.proofs.Timed.Order.TotSlots.{got_carried, waits_on}
use Rattle.cany_model.proofs.Timed.Order.TotEffects.{TooMany, WaitsUnless, copies_fewer, copies_read, now_cases, own_read, waits_still}

-- ---- what is kept of a node

-- node i waits with the frame that accepts, or has sent it, or has read more than omit copies, or
-- the closing of the message
abbrev pub Answer : Parameters → ℕ → List SlotNote → ℕ → List FrameParts → MsgKey → ℕ → Type 0
Answer p i T u W m q =
    (waits (accept_of_key m) W ≡ true)
    ⊎ (((c : ℕ) × Sends i T c (accept_of_key m)) ⊎ ((p.omit < copies (accept_of_key m) (past i T u)) ⊎ (u + p.bound ≤ q)))

-- Of a running node that waits with W, has not read the u newest slots, and whose incarnation sees
-- the trace T.
pub record Answers (p : Parameters) (i : ℕ) (T : List SlotNote) (u : ℕ) (W : List FrameParts) : Type 0 where
  pub to_copy : (m : MsgKey) (c q : ℕ) → u ≤ c → Gets i T c (accept_of_key m) → Done T q m → q ≤ c + p.bound → Answer p i T u W m q
  pub to_sent : (m : MsgKey) (q : ℕ) → m.origin ≡ i → u ≤ q → Sends i T q (tot_of_key m) → Done T q m → Answer p i T u W m q

-- ---- what it takes

-- a frame that accepts a message is carried only after the data frame was carried Clean
abbrev pub AcceptsLater : List SlotNote → Type 0
AcceptsLater T = (m : MsgKey) (c q : ℕ) → Carried T c (accept_of_key m) → Done T q m → c < q

pub accepts_later : (scenario : ScenarioParts) (T : List SlotNote) → TraceKept scenario T → AcceptsLater T
accepts_later scenario T t m c q accept d = elim (cases_lt c q) [
  | inl older ↦ older
  | inr newer ↦
      let a = t.accept_after c m accept in
      absurd (t.data_first q a.0 m (omega (arith, newer, a.1)) (clean_carried (tot_of_key m) (note_at T q) d) a.3)
]

pub later_before : (note : SlotNote) (T : List SlotNote) → AcceptsLater (note ∷ T) → AcceptsLater T
later_before note T later m c q accept d = let older = later m (suc c) (suc q) accept d in omega (arith, older)

-- and so an incarnation sees it
pub later_seen : (inc : Incarnation) (T : List SlotNote) → AcceptsLater T → AcceptsLater (seen inc T)
later_seen inc T later m c q accept d = later m c q (carried_from inc T c (accept_of_key m) accept).1 (done_from inc T q m d).1

-- node i got or sent what was carried Clean
abbrev pub Hears : ℕ → List SlotNote → Type 0
Hears i T = (q : ℕ) (x : Identity) → Clean T q x → Gets i T q x ⊎ Sends i T q x

pub heard_holds : (i : ℕ) (T : List SlotNote) → Hears i T → (m : MsgKey) (q : ℕ) → Done T q m → holds m (gave i T q) ≡ true
heard_holds i T hears m q d = elim (hears q (tot_of_key m) d) [
  | inl got ↦ or_left (is_got (tot_of_key m) (gave i T q)) (is_sent (tot_of_key m) (gave i T q)) got
  | inr sent ↦ or_right (is_got (tot_of_key m) (gave i T q)) (is_sent (tot_of_key m) (gave i T q)) sent
]

-- more copies than omit after the place, with this one, are more of all that was read
pub many_copies : (p : Parameters) (m : MsgKey) (e : NoticeKind) (before : List NoticeKind) → TooMany p m e before
    → p.omit < copies (accept_of_key m) (e ∷ before)
many_copies p m e before h =
    let fewer = copies_fewer m (accept_of_key m) before in
    let more = copies_got (accept_of_key m) e before h.got in
    let many = h.many in
    omega (arith, fewer, more, many)

-- ---- a slot

pub answers_slot : (p : Parameters) (i : ℕ) (note : SlotNote) (T : List SlotNote) (u : ℕ) (W : List FrameParts) → AcceptsLater (note ∷ T)
    → Answers p i T u W → Answers p i (note ∷ T) (suc u) (kept_at (given i note) W)
answers_slot p i note T u W later a = record { to_copy = to_copy; to_sent = to_sent }
  where
    on : (m : MsgKey) (q : ℕ) → Answer p i T u W m q → Answer p i (note ∷ T) (suc u) (kept_at (given i note) W) m (suc q)
    on m q (inl w) = elim (waits_on (accept_of_key m) (given i note) W w) [ inl still ↦ inl still | inr sent ↦ inr (inl (0, sent)) ]
    on m q (inr (inl sent)) = inr (inl (suc sent.0, sent.1))
    on m q (inr (inr (inl many))) = inr (inr (inl many))
    on m q (inr (inr (inr late))) = inr (inr (inr (omega (arith, late))))

    to_copy : (m : MsgKey) (c q : ℕ) → suc u ≤ c → Gets i (note ∷ T) c (accept_of_key m) → Done (note ∷ T) q m → q ≤ c + p.bound
        → Answer p i (note ∷ T) (suc u) (kept_at (given i note) W) m q
    to_copy m zero q from got d near = absurd (omega (arith, from))
    to_copy m (suc c) zero from got d near =
        absurd (let l = later m (suc c) 0 (got_carried (accept_of_key m) i (note_at T c) got) d in omega (arith, l))
    to_copy m (suc c) (suc q) from got d near = on m q (a.to_copy m c q (omega (arith, from)) got d (omega (arith, near)))

    to_sent : (m : MsgKey) (q : ℕ) → m.origin ≡ i → suc u ≤ q → Sends i (note ∷ T) q (tot_of_key m) → Done (note ∷ T) q m
        → Answer p i (note ∷ T) (suc u) (kept_at (given i note) W) m q
    to_sent m zero mine from sent d = absurd (omega (arith, from))
    to_sent m (suc q) mine from sent d = on m q (a.to_sent m q mine (omega (arith, from)) sent d)

-- ---- a turn

module _ (scenario : ScenarioParts) (i : ℕ) (T : List SlotNote) (u : ℕ) (W : List FrameParts)
    (step : past i T u ≡ gave i T u ∷ past i T (suc u)) (later : AcceptsLater T) (hears : Hears i T) (a : Answers scenario.params i T (suc u) W) where
  abbrev after : List FrameParts
  after = waiting_after (turn_effects scenario i (gave i T u ∷ past i T (suc u))) W

  abbrev Answered : MsgKey → ℕ → Type 0
  Answered m q = Answer scenario.params i T u after m q

  late_closing : (m : MsgKey) (q : ℕ) → Done T q m → u ≤ q → can_be_accepted scenario.params.bound m (gave i T u ∷ past i T (suc u)) ≡ false
      → u + scenario.params.bound ≤ q
  late_closing m q d from shut = elim (cases_lt q (u + scenario.params.bound)) [
    | inr late ↦ late
    | inl near ↦ absurd (both_ways (can_be_accepted scenario.params.bound m (gave i T u ∷ past i T (suc u))) shut
        (subst (λ (l : List NoticeKind). can_be_accepted scenario.params.bound m l ≡ true) step
        (open_from scenario.params.bound i u q m T from near (heard_holds i T hears m q d))))
  ]

  outcome : (m : MsgKey) (q : ℕ) → Done T q m → u ≤ q → WaitsUnless scenario i (gave i T u) (past i T (suc u)) W m → Answered m q
  outcome m q d from (inl w) = inl w
  outcome m q d from (inr (inl closes)) = inr (inr (inr (late_closing m q d from closes.1)))
  outcome m q d from (inr (inr many)) =
      let more = many_copies scenario.params m (gave i T u) (past i T (suc u)) many in
      inr (inr (inl (omega (arith, more, ap (copies (accept_of_key m)) step))))

  still : (m : MsgKey) (q : ℕ) → Done T q m → u ≤ q → Answer scenario.params i T (suc u) W m q → Answered m q
  still m q d from (inl w) = outcome m q d from (waits_still scenario i (gave i T u) (past i T (suc u)) W m w)
  still m q d from (inr (inl sent)) = inr (inl sent)
  still m q d from (inr (inr (inl many))) =
      let more = copies_grow (accept_of_key m) (gave i T u) (past i T (suc u)) in
      inr (inr (inl (omega (arith, many, more, ap (copies (accept_of_key m)) step))))
  still m q d from (inr (inr (inr late))) = inr (inr (inr (omega (arith, late))))

  turn_copy : (m : MsgKey) (c q : ℕ) → u ≤ c → Gets i T c (accept_of_key m) → Done T q m → q ≤ c + scenario.params.bound → Answered m q
  turn_copy m c q from got d near =
      let older = later m c q (got_carried (accept_of_key m) i (note_at T c) got) d in
      elim (cases_eq c u) [
        | inr other ↦ still m q d (omega (arith, older, from)) (a.to_copy m c q (omega (arith, from, other)) got d near)
        | inl same ↦
            let in_time : can_be_accepted scenario.params.bound m (past i T (suc u)) ≡ true =
            open_from scenario.params.bound i (suc u) q m T (omega (arith, older, same)) (omega (arith, near, same)) (heard_holds i T hears m q d) in
            elim (now_cases scenario i (gave i T u) (past i T (suc u)) W m) [
              | inr now ↦ outcome m q d (omega (arith, older, from)) now
              | inl none ↦ elim (none.got (subst (λ x. Gets i T x (accept_of_key m)) same got) in_time) [
                | inl copy ↦
                    let g = any_past (is_got (accept_of_key m)) i (suc u) T (copies_read m (accept_of_key m) (past i T (suc u)) copy) in
                    still m q d (omega (arith, older, from)) (a.to_copy m g.0 q g.1 g.2 d (omega (arith, near, same, g.1)))
                | inr own ↦
                    let s = any_past (is_sent (accept_of_key m)) i (suc u) T (own_read m (accept_of_key m) (past i T (suc u)) own) in
                    inr (inl (s.0, s.2))
              ]
            ]
      ]

  turn_sent : (m : MsgKey) (q : ℕ) → m.origin ≡ i → u ≤ q → Sends i T q (tot_of_key m) → Done T q m → Answered m q
  turn_sent m q mine from sent d = elim (cases_eq q u) [
    | inr other ↦ still m q d from (a.to_sent m q mine (omega (arith, from, other)) sent d)
    | inl same ↦ elim (now_cases scenario i (gave i T u) (past i T (suc u)) W m) [
      | inr now ↦ outcome m q d from now
      | inl none ↦ absurd (none.sent (subst (λ x. Sends i T x (tot_of_key m)) same sent) mine)
    ]
  ]

  pub answers_turn : Answers scenario.params i T u (waiting_after (turn_effects scenario i (gave i T u ∷ past i T (suc u))) W)
  answers_turn = record { to_copy = turn_copy; to_sent = turn_sent }
