-- A slot keeps what is kept of TOTCAN. What an older incarnation of a node sent lies so long before
-- all that the present one sends, that each fact that the present one cannot see is one of slots
-- far apart.
use Rattle.std.proofs.Common.{◌≡◌, ℕ, zero, suc, ◌+◌, ◌<◌, ◌≤◌, ◌⊎◌, inl, inr, true, false, List, [], ◌∷◌, Contains, length, refl, ap, sym, ◌∙◌, subst, arith}
use Rattle.std.proofs.lemmas.Bool.{both_ways, cases_Bool, cases_lt, cases_order, false≢true}
use Rattle.std.proofs.lemmas.List.Elements.{All-contains, All-from_recursion}
use Rattle.cany_base.specs.declared.class.Class.TheVariants as class
use Rattle.cany_base.specs.declared.message.MsgKey.{MsgKey}
use Rattle.cany_base.specs.declared.slot_note.SlotNote.{SlotNote}
use Rattle.cany_base.specs.Frame.{FrameParts}
use Rattle.cany_base.specs.Limits.{most_nodes}
use Rattle.cany_base.specs.Nodes.{has}
use Rattle.cany_base.specs.Scenario.{ScenarioParts}
use Rattle.cany_model.specs.Bus.Frames.{Identity, same_class}
use Rattle.cany_model.specs.Bus.History.{given, is_got, is_hidden, is_sent, seen}
use Rattle.cany_model.specs.Bus.Slot.{FaultScript, slot_note_of}
use Rattle.cany_model.specs.Bus.State.{Incarnation, RunState, node_at, runs}
use Rattle.cany_model.specs.Bus.Waiting.{waits}
use Rattle.cany_model.specs.Promises.Hypothesis.{is_partial_slot_of, is_silent_slot}
use Rattle.cany_model.specs.Rules.Messages.{accept_of_key}
use Rattle.cany_model.specs.Rules.Totcan.{tot_of_key}
use Rattle.cany_model.specs.Rules.Turn.{scenario_for}
use Rattle.cany_model.proofs.Bus.Notes.{note_of-offered, note_of-slot, waiting_sends}
use Rattle.cany_model.proofs.Runs.Runs.{IsOrderly}
use Rattle.cany_model.proofs.Bus.Seen.{carries_other, hidden_why}
use Rattle.cany_model.proofs.Bus.States.{note_at, runs_within}
use Rattle.cany_model.proofs.Runs.Steps.{kept_at}
use Rattle.cany_model.proofs.Promises.EachNode.{EachRunning}
use Rattle.cany_model.proofs.Promises.OwnSlotsAlone.{AllWaitForOwnSlots, sent_plain}
use Rattle.cany_model.proofs.Timed.Common.Ages.{Carried, Clean, Done, Gets, Sends, carried_there, carries, carries_clean, clean_carried, past}
use Rattle.cany_model.proofs.Timed.Common.OwnSlots.{IsLongBefore, OwnSlots, sees_from, sent_when}
use Rattle.cany_model.proofs.Timed.Common.SeenAges.{Sees, carried_from, clean_from, done_from, done_to, gets_from, gets_to, sends_from, sends_to, carried_to}
use Rattle.cany_model.proofs.Timed.Order.TotFrames.{HasLateFrames, HasSoundFrames, SoundWaiting, accept_one, data_late}
use Rattle.cany_model.proofs.Timed.Order.TotKept.{Cause, IsPlanned, KeptNode, NoSilent, NodeKept, TraceKept}
use Rattle.cany_model.proofs.Timed.Order.TotSlots.{Offers, carried_offer, carries-true, got_carried, got_clean, got_it, hears_it, offer_sends, sent_carried, sent_it, waiting_frame, waits_before, waits_on}

-- what is known of the state before the slot
pub record IsReady (scenario : ScenarioParts) (s : RunState) : Type 0 where
  pub few : length s.nodes ≤ most_nodes
  pub o : IsOrderly scenario.params.nodes s
  pub lag : (i : ℕ) → runs (node_at s.nodes i) ≡ true → (node_at s.nodes i).unread ≤ scenario.params.lag
  pub own_slots_alone : AllWaitForOwnSlots s
  pub own : OwnSlots scenario s
  pub sound : HasSoundFrames scenario s
  pub late : EachRunning (HasLateFrames scenario) s

-- the data frame of a message is carried Clean once
pub done_once : (scenario : ScenarioParts) (T : List SlotNote) → TraceKept scenario T → (a b : ℕ) (m : MsgKey) → Done T a m → Done T b m → a ≡ b
done_once scenario T t a b m x y = elim (cases_order a b) [
  | inl same ↦ same
  | inr (inl less) ↦ absurd (t.data_first a b m less (clean_carried (tot_of_key m) (note_at T a) x) y)
  | inr (inr more) ↦ absurd (t.data_first b a m more (clean_carried (tot_of_key m) (note_at T b) y) x)
]

nothing_waits : (x : Identity) (w : List FrameParts) → w ≡ [] → waits x w ≡ true → ⊥
nothing_waits x w e h = false≢true (sym (ap (waits x) e) ∙ h)

accept_plain : (m : MsgKey) (note : SlotNote) → carries (accept_of_key m) note ≡ true → (inc : Incarnation) → is_hidden inc note ≡ true
    → (0 < inc.number) × (note.slot < inc.from)
unfolding same_class
accept_plain m note h inc hidden =
    let why = hidden_why inc note hidden in
    let c = carries-true (accept_of_key m) note h in (
      why.0,
      elim why.1 [
        | inl early ↦ early
        | inr vector ↦
            let other : same_class c.what.class class.Rha ≡ false = ap (λ (x : Identity). same_class x.class class.Rha) (sym c.identity) in
            absurd (both_ways _ (carries_other inc.cycle note c.what c.frame other) vector)
      ],
    )

module _ (scenario : ScenarioParts) (rules : FaultScript) (s : RunState) (r : IsReady scenario s)
    (plain : is_silent_slot (slot_note_of rules s) ≡ false) (plains : NoSilent s.trace) (t : TraceKept scenario s.trace)
    (all : EachRunning (KeptNode scenario) s) where
  abbrev note : SlotNote
  note = slot_note_of rules s

  abbrev after : List SlotNote
  after = slot_note_of rules s ∷ s.trace

  abbrev window : ℕ
  window = scenario.params.bound + scenario.params.lag

  abbrev present : ℕ → Incarnation
  present i = (node_at s.nodes i).present

  abbrev held : ℕ → List FrameParts
  held i = (node_at s.nodes i).waiting

  -- ---- incarnations

  -- an incarnation that waits with a frame takes part by now
  takes_part : (i : ℕ) (x : Identity) → runs (node_at s.nodes i) ≡ true → waits x (held i) ≡ true → 0 < (present i).number
      → (present i).from ≤ length s.trace
  takes_part i x running waiting later = elim (cases_lt (length s.trace) (present i).from) [
    | inl early ↦ absurd (nothing_waits x (held i) ((r.own_slots_alone i running).quiet later early) waiting)
    | inr here ↦ here
  ]

  -- what it has sent before, it sees or sent long before
  own_before : (i : ℕ) (q : ℕ) (x : Identity) → runs (node_at s.nodes i) ≡ true → Sends i s.trace q x
      → Sees (present i) s.trace q ⊎ IsLongBefore scenario.params (present i) s.trace q
  own_before i q x running h = sent_when scenario.params scenario.params.nodes s i (present i) r.o (r.own i running) q x h

  -- so its own data that were carried Clean
  done_before : (i : ℕ) (q : ℕ) (k : MsgKey) → runs (node_at s.nodes i) ≡ true → k.origin ≡ i → Done s.trace q k
      → Sees (present i) s.trace q ⊎ IsLongBefore scenario.params (present i) s.trace q
  done_before i q k running origin d =
      let by = t.sender q (tot_of_key k) d in
      let mine : by.0 ≡ i = sym (t.own_data by.0 q k by.2) ∙ origin in
      own_before i q (tot_of_key k) running (subst (λ j. Sends j s.trace q (tot_of_key k)) mine by.2)

  -- a slot in which a node sends, its incarnation sees
  offer_seen : (i : ℕ) (x : Identity) → Offers s note x i → carries x note ≡ true → Sees (present i) after 0
  offer_seen i x o h =
      let c = carries-true x note h in
      sent_plain rules s i (r.own_slots_alone i o.running) c.what c.frame o.sender

  -- ---- this slot

  below : (i : ℕ) → runs (node_at s.nodes i) ≡ true → i < scenario.params.nodes
  below i running = let h = runs_within s.nodes i running in omega (arith, h, r.o.count)

  not_got : (x : Identity) (i : ℕ) → has note.senders i ≡ true → is_got x (given i note) ≡ true → ⊥
  not_got x i sends got = let g = got_it rules s x i got in both_ways (has note.senders i) g.silent sends

  sent_now : (x : Identity) (i : ℕ) → is_sent x (given i note) ≡ true → Offers s note x i
  sent_now x i h = (sent_it rules s x i h).offers

  -- the data frame of a message is sent by its origin
  data_offer : (m : MsgKey) → carries (tot_of_key m) note ≡ true → Offers s note (tot_of_key m) m.origin
  data_offer m h =
      let o = carried_offer rules s (tot_of_key m) r.few h in
      let mine : m.origin ≡ o.0 = (all o.0 o.1.running).data_mine m o.1.waiting in
      subst (λ i. Offers s note (tot_of_key m) i) (sym mine) o.1

  data_sent : (m : MsgKey) → carries_clean (tot_of_key m) note ≡ true → is_sent (tot_of_key m) (given m.origin note) ≡ true
  data_sent m h = offer_sends rules s (tot_of_key m) m.origin r.few (data_offer m (clean_carried (tot_of_key m) note h)) h

  -- a node that waits with a frame that accepts is among its senders: all frames of the identity
  -- are one
  accept_sender : (m : MsgKey) (i : ℕ) → runs (node_at s.nodes i) ≡ true → waits (accept_of_key m) (held i) ≡ true
      → carries (accept_of_key m) note ≡ true
      → has note.senders i ≡ true
  accept_sender m i running waiting h =
      let c = carries-true (accept_of_key m) note h in
      let offer = note_of-offered rules s c.what c.frame in
      let w = waiting_frame (accept_of_key m) (held i) waiting in
      let mine = All-contains (SoundWaiting scenario s.trace i) (held i) w.0
      (All-from_recursion (SoundWaiting scenario s.trace i) (held i) (r.sound.waiting i running)) w.1 in
      let other = All-contains (SoundWaiting scenario s.trace offer.node) (held offer.node) c.what
      (All-from_recursion (SoundWaiting scenario s.trace offer.node) (held offer.node) (r.sound.waiting offer.node offer.running)) offer.waits in
      let same : w.0 ≡ c.what = accept_one scenario (length s.trace) m w.0 c.what w.2 c.identity mine other in
      let within = runs_within s.nodes i running in
      waiting_sends rules s c.what i (omega (arith, within, r.few)) c.frame running (subst (λ (f : FrameParts). Contains (held i) f) same w.1)

  -- ---- why a frame that accepts is carried now

  -- its data frame was carried Clean before, as the sender has seen
  record HasAge (m : MsgKey) (i : ℕ) : Type 0 where
    age : ℕ
    done : Done s.trace age m
    near : age < window
    sees : Sees (present i) s.trace age

  accept_age : (m : MsgKey) (i : ℕ) → runs (node_at s.nodes i) ≡ true → waits (accept_of_key m) (held i) ≡ true → HasAge m i
  accept_age m i running waiting =
      let a = (all i running).accept_age m waiting in
      let was = done_from (present i) s.trace a.0 m a.1 in
      let near : a.0 < (node_at s.nodes i).unread + scenario.params.bound = a.2 in
      record { age = a.0; done = was.1; near = omega (arith, near, r.lag i running); sees = was.0 }

  -- a copy that was carried before
  record Copy (m : MsgKey) : Type 0 where
    age : ℕ
    copied : Carried s.trace age (accept_of_key m)
    since : ℕ
    done : Done s.trace since m
    later : age < since
    near : since < window

  -- the origin sends it, or a copy of it was carried before
  accept_cause : (m : MsgKey) → carries (accept_of_key m) note ≡ true → Offers s note (accept_of_key m) m.origin ⊎ Copy m
  accept_cause m h =
      let o = carried_offer rules s (accept_of_key m) r.few h in
      let a = accept_age m o.0 o.1.running o.1.waiting in
      elim ((all o.0 o.1.running).accept_cause m (inl o.1.waiting)) [
        | inl origin ↦ inl (subst (λ i. Offers s note (accept_of_key m) i) (sym origin.0) o.1)
        | inr copy ↦
            let got = (gets_from (present o.0) s.trace o.0 copy.1.0 (accept_of_key m) copy.1.2).1 in
            let copied = got_carried (accept_of_key m) o.0 (note_at s.trace copy.1.0) got in
            let was = t.accept_after copy.1.0 m copied in
            let same = done_once scenario s.trace t was.0 a.age m was.3 a.done in
            let near = a.near in
            inr (record { age = copy.1.0; copied = copied; since = was.0; done = was.3; later = was.1; near = omega (arith, same, near) })
      ]

  -- an origin that sees this slot has seen the copy
  saw_copy : (m : MsgKey) (i : ℕ) → runs (node_at s.nodes i) ≡ true → m.origin ≡ i → Sees (present i) after 0 → (c : Copy m)
      → Carried (seen (present i) s.trace) c.age (accept_of_key m)
  saw_copy m i running origin sees c = carried_to (present i) s.trace c.age (accept_of_key m) plain_then c.copied
    where
      not_before : (0 < (present i).number) × ((note_at s.trace c.age).slot < (present i).from) → ⊥
      not_before why =
          let there = carried_there (accept_of_key m) s.trace c.age c.copied in
          let done_there = carried_there (tot_of_key m) s.trace c.since (clean_carried (tot_of_key m) (note_at s.trace c.since) c.done) in
          let number = r.o.numbered c.age there in
          let done_number = r.o.numbered c.since done_there in
          let early = why.1 in
          let later = c.later in
          let near = c.near in
          elim (done_before i c.since m running origin c.done) [
            | inl saw ↦
                let from = sees_from (present i) s.trace c.since saw why.0 in
                omega (arith, from, number, done_number, early, later, there, done_there)
            | inr before ↦
                let from = sees_from (present i) after 0 sees why.0 in
                let far = before.far in
                omega (arith, from, note_of-slot rules s, far, near)
          ]

      plain_then : Sees (present i) s.trace c.age
      plain_then = elim (cases_Bool (is_hidden (present i) (note_at s.trace c.age))) [
        | inl hidden ↦ absurd (not_before (accept_plain m (note_at s.trace c.age) c.copied (present i) hidden))
        | inr saw ↦ saw
      ]

  -- ---- the trace

  slot_spaced : (p q : ℕ) (m k : MsgKey) → p < q → Done after p m → Done after q k → m.origin ≡ k.origin → p + window < q
  slot_spaced p zero m k h dp dq e = absurd (omega (arith, h))
  slot_spaced zero (suc q) m k h dp dq e =
      let o = data_offer m (clean_carried (tot_of_key m) note dp) in
      elim (done_before m.origin q k o.running (sym e) dq) [
        | inl saw ↦
            let far : window ≤ q = (all m.origin o.running).data_far m q k o.waiting (done_to (present m.origin) s.trace q k saw dq) (sym e) in
            omega (arith, far)
        | inr before ↦
            let from = takes_part m.origin (tot_of_key m) o.running o.waiting before.later in
            let far = before.far in
            omega (arith, from, far)
      ]
  slot_spaced (suc p) (suc q) m k h dp dq e = let far = t.spaced p q m k (omega (arith, h)) dp dq e in omega (arith, far)

  slot_data_first : (p q : ℕ) (m : MsgKey) → p < q → Carried after p (tot_of_key m) → Done after q m → ⊥
  slot_data_first p zero m h c d = omega (arith, h)
  slot_data_first zero (suc q) m h c d =
      let o = data_offer m c in
      elim (done_before m.origin q m o.running refl d) [
        | inl saw ↦ (all m.origin o.running).data_new m q o.waiting (done_to (present m.origin) s.trace q m saw d)
        | inr before ↦
            let carried_then = clean_carried (tot_of_key m) (note_at s.trace q) d in
            let from = data_late scenario s r.sound r.late m.origin o.running m q o.waiting carried_then before.later in
            let number = r.o.numbered q before.there in
            let far = before.far in
            let there = before.there in
            omega (arith, from, number, far, there)
      ]
  slot_data_first (suc p) (suc q) m h c d = t.data_first p q m (omega (arith, h)) c d

  slot_accept_after : (p : ℕ) (m : MsgKey) → Carried after p (accept_of_key m) → (q : ℕ) × (p < q) × (q ≤ p + window) × Done after q m
  slot_accept_after zero m c =
      let o = carried_offer rules s (accept_of_key m) r.few c in
      let a = accept_age m o.0 o.1.running o.1.waiting in
      let near = a.near in
      (suc a.age, omega arith, omega (arith, near), a.done)
  slot_accept_after (suc p) m c = let a = t.accept_after p m c in (suc a.0, omega (arith, a.1), omega (arith, a.2), a.3)

  slot_sent_once : (i p q : ℕ) (m : MsgKey) → p < q → Sends i after p (accept_of_key m) → Sends i after q (accept_of_key m) → ⊥
  slot_sent_once i p zero m h a b = omega (arith, h)
  slot_sent_once i zero (suc q) m h a b =
      let o = sent_now (accept_of_key m) i a in
      elim (own_before i q (accept_of_key m) o.running b) [
        | inl saw ↦ (all i o.running).accept_once m q o.waiting (sends_to (present i) s.trace i q (accept_of_key m) saw b)
        | inr before ↦
            let age = accept_age m i o.running o.waiting in
            let was = t.accept_after q m (sent_carried (accept_of_key m) i (note_at s.trace q) b).0 in
            let same = done_once scenario s.trace t was.0 age.age m was.3 age.done in
            let from = sees_from (present i) s.trace age.age age.sees before.later in
            let done_there = carried_there (tot_of_key m) s.trace age.age (clean_carried (tot_of_key m) (note_at s.trace age.age) age.done) in
            let number = r.o.numbered age.age done_there in
            let far = before.far in
            let after_it = was.1 in
            omega (arith, same, from, number, far, after_it, done_there)
      ]
  slot_sent_once i (suc p) (suc q) m h a b = t.sent_once i p q m (omega (arith, h)) a b

  slot_sender : (p : ℕ) (x : Identity) → Clean after p x → (i : ℕ) × (i < scenario.params.nodes) × Sends i after p x
  slot_sender zero x h =
      let o = carried_offer rules s x r.few (clean_carried x note h) in
      (o.0, below o.0 o.1.running, offer_sends rules s x o.0 r.few o.1 h)
  slot_sender (suc p) x h = t.sender p x h

  slot_origin_there : (p : ℕ) (m : MsgKey) → Done after p m → m.origin < scenario.params.nodes
  slot_origin_there zero m h = below m.origin (data_offer m (clean_carried (tot_of_key m) note h)).running
  slot_origin_there (suc p) m h = t.origin_there p m h

  slot_got_from : (i p : ℕ) (x : Identity) → Gets i after p x → Clean after p x ⊎ (is_partial_slot_of x (note_at after p) ≡ true)
  slot_got_from i zero x h = let g = got_it rules s x i h in got_clean x note i g.carries_it g.lets plain
  slot_got_from i (suc p) x h = t.got_from i p x h

  slot_own_data : (i p : ℕ) (m : MsgKey) → Sends i after p (tot_of_key m) → m.origin ≡ i
  slot_own_data i zero m h = let o = sent_now (tot_of_key m) i h in (all i o.running).data_mine m o.waiting
  slot_own_data i (suc p) m h = t.own_data i p m h

  slot_no_own_got : (p : ℕ) (m : MsgKey) → Gets m.origin after p (tot_of_key m) → ⊥
  slot_no_own_got zero m h =
      let g = got_it rules s (tot_of_key m) m.origin h in
      not_got (tot_of_key m) m.origin (data_offer m g.carries_it).sender h
  slot_no_own_got (suc p) m h = t.no_own_got p m h

  pub slot_trace : TraceKept scenario (slot_note_of rules s ∷ s.trace)
  slot_trace = record {
    spaced = slot_spaced;
    data_first = slot_data_first;
    accept_after = slot_accept_after;
    origin_there = slot_origin_there;
    sender = slot_sender;
    got_from = slot_got_from;
    own_data = slot_own_data;
    no_own_got = slot_no_own_got;
    sent_once = slot_sent_once;
  }

  -- ---- a node

  module _ (i : ℕ) (running : runs (node_at s.nodes i) ≡ true) where
    abbrev inc : Incarnation
    inc = (node_at s.nodes i).present

    abbrev unread : ℕ
    unread = (node_at s.nodes i).unread

    -- what it waits with after the slot, and what its incarnation sees before and after it
    abbrev kept : List FrameParts
    kept = kept_at (given i (slot_note_of rules s)) (node_at s.nodes i).waiting

    abbrev sight : List SlotNote
    sight = seen (node_at s.nodes i).present s.trace

    abbrev sight_after : List SlotNote
    sight_after = seen (node_at s.nodes i).present (slot_note_of rules s ∷ s.trace)

    n : NodeKept (scenario_for scenario (node_at s.nodes i).present) i sight unread (node_at s.nodes i).waiting
    n = all i running

    before : (x : Identity) → waits x kept ≡ true → (waits x (held i) ≡ true) × (is_sent x (given i note) ≡ false)
    before x w = waits_before x (given i note) (held i) w

    node_heard : (p : ℕ) (x : Identity) → Clean sight_after p x → Gets i sight_after p x ⊎ Sends i sight_after p x
    node_heard zero x h =
        let c = clean_from inc after 0 x h in
        elim (hears_it rules s x i r.few running c.1) [
          | inl got ↦ inl (gets_to inc after i 0 x c.0 got)
          | inr sent ↦ inr (sends_to inc after i 0 x c.0 sent)
        ]
    node_heard (suc p) x h = n.heard p x h

    own_now : (k : MsgKey) → carries_clean (tot_of_key k) note ≡ true → k.origin ≡ i
        → (waits (tot_of_key k) (held i) ≡ true) × (is_sent (tot_of_key k) (given i note) ≡ true)
    own_now k h e =
        let o = data_offer k (clean_carried (tot_of_key k) note h) in
        (subst (λ j. waits (tot_of_key k) (held j) ≡ true) e o.waiting, subst (λ j. is_sent (tot_of_key k) (given j note) ≡ true) e (data_sent k h))

    -- a data frame of its own that is carried Clean now, waits no longer, and no other waits
    clash : (m k : MsgKey) → waits (tot_of_key m) kept ≡ true → carries_clean (tot_of_key k) note ≡ true → k.origin ≡ i → ⊥
    clash m k w h e =
        let b = before (tot_of_key m) w in
        let o = own_now k h e in
        let same : m ≡ k = n.data_one m k b.0 o.0 in
        both_ways (is_sent (tot_of_key m) (given i note)) b.1 (subst (λ (x : MsgKey). is_sent (tot_of_key x) (given i note) ≡ true) (sym same) o.1)

    node_data_far : (m : MsgKey) (q : ℕ) (k : MsgKey) → waits (tot_of_key m) kept ≡ true → Done sight_after q k → k.origin ≡ i → window ≤ q
    node_data_far m zero k w d e = absurd (clash m k w (done_from inc after 0 k d).1 e)
    node_data_far m (suc q) k w d e =
        let far : window ≤ q = n.data_far m q k (before (tot_of_key m) w).0 d e in
        omega (arith, far)

    node_data_new : (m : MsgKey) (q : ℕ) → waits (tot_of_key m) kept ≡ true → Done sight_after q m → ⊥
    node_data_new m zero w d = clash m m w (done_from inc after 0 m d).1 (n.data_mine m (before (tot_of_key m) w).0)
    node_data_new m (suc q) w d = n.data_new m q (before (tot_of_key m) w).0 d

    abbrev Planned : MsgKey → Type 0
    Planned m = IsPlanned (scenario_for scenario (node_at s.nodes i).present) i (past i sight unread) m

    done_planned : (m : MsgKey) (q : ℕ) → Done sight_after q m → m.origin ≡ i → Planned m
    done_planned m zero d e = n.data_asked m (inl (own_now m (done_from inc after 0 m d).1 e).0)
    done_planned m (suc q) d e = n.data_asked m (inr (q, d, e))

    node_data_asked : (m : MsgKey) → (waits (tot_of_key m) kept ≡ true) ⊎ ((q : ℕ) × Done sight_after q m × (m.origin ≡ i)) → Planned m
    node_data_asked m (inl w) = n.data_asked m (inl (before (tot_of_key m) w).0)
    node_data_asked m (inr d) = done_planned m d.0 d.1 d.2

    node_accept_age : (m : MsgKey) → waits (accept_of_key m) kept ≡ true → (q : ℕ) × Done sight_after q m × (q < suc unread + scenario.params.bound)
    node_accept_age m w =
        let a = n.accept_age m (before (accept_of_key m) w).0 in
        let near : a.0 < unread + scenario.params.bound = a.2 in
        (suc a.0, a.1, omega (arith, near))

    later_cause : (m : MsgKey) → Cause i sight unread m → Cause i sight_after (suc unread) m
    later_cause m (inl a) = inl (a.0, (suc a.1.0, omega (arith, a.1.1), a.1.2))
    later_cause m (inr b) = inr (b.0, (suc b.1.0, omega (arith, b.1.1), b.1.2))

    sent_cause : (m : MsgKey) (p : ℕ) → Sends i sight_after p (accept_of_key m) → Cause i sight unread m
    sent_cause m zero h = n.accept_cause m (inl (sent_now (accept_of_key m) i (sends_from inc after i 0 (accept_of_key m) h).1).waiting)
    sent_cause m (suc p) h = n.accept_cause m (inr (p, h))

    node_accept_cause : (m : MsgKey) → (waits (accept_of_key m) kept ≡ true) ⊎ ((p : ℕ) × Sends i sight_after p (accept_of_key m))
        → Cause i sight_after (suc unread) m
    node_accept_cause m (inl w) = later_cause m (n.accept_cause m (inl (before (accept_of_key m) w).0))
    node_accept_cause m (inr d) = later_cause m (sent_cause m d.0 d.1)

    node_accept_once : (m : MsgKey) (p : ℕ) → waits (accept_of_key m) kept ≡ true → Sends i sight_after p (accept_of_key m) → ⊥
    node_accept_once m zero w h =
        both_ways (is_sent (accept_of_key m) (given i note)) (before (accept_of_key m) w).1 (sends_from inc after i 0 (accept_of_key m) h).1
    node_accept_once m (suc p) w h = n.accept_once m p (before (accept_of_key m) w).0 h

    abbrev OriginState : MsgKey → Type 0
    OriginState m = (waits (accept_of_key m) kept ≡ true)
        ⊎ (((q : ℕ) × Sends i sight_after q (accept_of_key m)) ⊎ ((q : ℕ) × Done sight_after q m × (suc unread + scenario.params.bound ≤ q)))

    origin_on : (m : MsgKey) → waits (accept_of_key m) (held i) ≡ true → OriginState m
    origin_on m w = elim (waits_on (accept_of_key m) (given i note) (held i) w) [
      | inl still ↦ inl still
      | inr sent ↦
          let o = sent_now (accept_of_key m) i sent in
          let sees = offer_seen i (accept_of_key m) o (sent_it rules s (accept_of_key m) i sent).carries_it in
          inr (inl (0, sends_to inc after i 0 (accept_of_key m) sees sent))
    ]

    origin_before : (m : MsgKey) (p : ℕ) → m.origin ≡ i → Carried sight p (accept_of_key m) → OriginState m
    origin_before m p e c = elim (n.origin_waits m p e c) [
      | inl w ↦ origin_on m w
      | inr (inl sent) ↦ inr (inl (suc sent.0, sent.1))
      | inr (inr late) ↦
          let far : unread + scenario.params.bound ≤ late.0 = late.2 in
          inr (inr (suc late.0, late.1, omega (arith, far)))
    ]

    node_origin_waits : (m : MsgKey) (p : ℕ) → m.origin ≡ i → Carried sight_after p (accept_of_key m) → OriginState m
    node_origin_waits m zero e c =
        let now = carried_from inc after 0 (accept_of_key m) c in
        elim (accept_cause m now.1) [
          | inl o ↦ origin_on m (subst (λ j. waits (accept_of_key m) (held j) ≡ true) e o.waiting)
          | inr copy ↦ origin_before m copy.age e (saw_copy m i running e now.0 copy)
        ]
    node_origin_waits m (suc p) e c = origin_before m p e c

    node_origin_sends : (m : MsgKey) (p : ℕ) → m.origin ≡ i → Gets i sight_after p (accept_of_key m)
        → ((q : ℕ) × (p < q) × Sends i sight_after q (accept_of_key m)) ⊎ ((q : ℕ) × (p + scenario.params.bound < q) × Done sight_after q m)
    node_origin_sends m (suc p) e h = elim (n.origin_sends m p e h) [
      | inl sent ↦ inl (suc sent.0, omega (arith, sent.1), sent.2)
      | inr late ↦
          let far : p + scenario.params.bound < late.0 = late.1 in
          inr (suc late.0, omega (arith, far), late.2)
    ]
    node_origin_sends m zero e h =
        let now = gets_from inc after i 0 (accept_of_key m) h in
        let carries_it = got_carried (accept_of_key m) i note now.1 in
        elim (accept_cause m carries_it) [
          | inl o ↦ absurd (not_got (accept_of_key m) i (subst (λ j. has note.senders j ≡ true) e o.sender) now.1)
          | inr copy ↦ elim (n.origin_waits m copy.age e (saw_copy m i running e now.0 copy)) [
            | inl waiting ↦ absurd (not_got (accept_of_key m) i (accept_sender m i running waiting carries_it) now.1)
            | inr (inl sent) ↦ inl (suc sent.0, omega arith, sent.1)
            | inr (inr late) ↦
                let far : unread + scenario.params.bound ≤ late.0 = late.2 in
                inr (suc late.0, omega (arith, far), late.1)
          ]
        ]

    pub slot_node : NodeKept (scenario_for scenario (node_at s.nodes i).present) i (seen (node_at s.nodes i).present (slot_note_of rules s ∷ s.trace))
        (suc (node_at s.nodes i).unread) (kept_at (given i (slot_note_of rules s)) (node_at s.nodes i).waiting)
    slot_node = record {
      heard = node_heard;
      data_mine = λ m w. n.data_mine m (before (tot_of_key m) w).0;
      data_far = node_data_far;
      data_new = node_data_new;
      data_one = λ m k a b. n.data_one m k (before (tot_of_key m) a).0 (before (tot_of_key k) b).0;
      data_asked = node_data_asked;
      accept_age = node_accept_age;
      accept_cause = node_accept_cause;
      accept_once = node_accept_once;
      origin_waits = node_origin_waits;
      origin_sends = node_origin_sends;
    }
