-- Eager diffusion: a node that is to send a frame waits with it, or the frame was carried with
-- success, or the node read more than omit copies of it. All of it is said of the trace, a node's
-- number and that node's state.
use Rattle.std.proofs.Common.{◌≡◌, ℕ, ◌<◌, ◌≤◌, ◌⊎◌, inl, inr, true, false, List, ◌∷◌, map, drop, Some, Contains, ap, sym, subst, arith, suc}
use Rattle.cany_base.specs.Limits.{most_nodes}
use Rattle.std.specs.List.{AllByRecursion}
use Rattle.std.proofs.lemmas.Bool.{both_ways}
use Rattle.cany_base.specs.declared.notice.NoticeKind.{NoticeKind}
use Rattle.cany_base.specs.declared.notice.NoticeKind.TheVariants.{Got, Sent}
use Rattle.cany_base.specs.declared.rule.Verdict.TheVariants.{Clean}
use Rattle.cany_base.specs.declared.slot_note.SlotNote.{SlotNote}
use Rattle.cany_base.specs.Frame.{FrameParts}
use Rattle.cany_base.specs.Nodes.{has}
use Rattle.cany_base.specs.Params.{Parameters}
use Rattle.cany_model.specs.Rules.Effect.{Effect, waiting_after}
use Rattle.cany_model.specs.Bus.Frames.{Identity, identity_of}
use Rattle.cany_model.specs.Bus.History.{given, copies, has_own, is_got, is_sent}
use Rattle.cany_model.specs.Promises.Hypothesis.{IsWithin}
use Rattle.cany_model.specs.Bus.State.{NodeState}
use Rattle.cany_model.specs.Bus.Waiting.{waits, without}
use Rattle.cany_model.proofs.Among.{Among, Among-weaker, Among-with, Among-drop, Among-map, Among-either, Among-from_count, Each-weaker, count-grows, count-yes}
use Rattle.cany_model.proofs.Bus.Carried.{Succeeds, CarriesClean, SentBy, Succeeds-from_own, Succeeds-from_sent, is_got-from, is_sent-from}
use Rattle.cany_model.proofs.Promises.CleanSlots.{Accepts, clean_from_copies, clean_from_success}
use Rattle.cany_model.proofs.Bus.Notes.{given-Sent}
use Rattle.cany_model.proofs.Runs.Steps.{kept_at}
use Rattle.cany_model.proofs.Rules.Waits.{Asks, Withdraws, waits_after, waits-from_after, waits-without, waits-from_without}

-- what the node has read
abbrev pub past_of : ℕ → List SlotNote → NodeState → List NoticeKind
past_of i trace node = map (given i) (drop node.unread trace)

-- what a slot was to a node that ran in it
pub record Heard (i : ℕ) (note : SlotNote) : Type 0 where
  -- a frame that it got, the verdict let it accept
  pub accepts : Accepts i note
  -- it got or sent a frame that was carried Clean
  pub clean : i < most_nodes → (f : FrameParts) → note.frame ≡ Some f → note.verdict ≡ Clean → (given i note ≡ Got f) ⊎ (given i note ≡ Sent f)

-- What a protocol says of a frame that it diffuses, by what a node has read.
pub record Duty : Type 1 where
  -- the node is to send the frame
  pub owes : ℕ → List NoticeKind → Type 0
  -- the node may send the frame without a copy, as its origin may, or one that found out by itself
  pub starts : ℕ → List NoticeKind → Type 0
  -- what a node has read that has only begun, at the opening or by a restart
  pub begins : List NoticeKind → Type 0

-- in the turn of the notice the node asks for the frame, unless the copies are enough or it has
-- sent the frame
abbrev pub IsAnswered : (turn : ℕ → List NoticeKind → List Effect) (omit : ℕ) (x : Identity) (i : ℕ) (e : NoticeKind) (past : List NoticeKind) → Type 0
IsAnswered turn omit x i e past =
    Among (Asks x) (turn i (e ∷ past)) ⊎ ((omit < copies x (e ∷ past)) ⊎ (has_own x (e ∷ past) ≡ true))

-- the rules of a protocol do their duty for the frame x
pub record IsDiffused (turn : ℕ → List NoticeKind → List Effect) (omit : ℕ) (x : Identity) (duty : Duty) : Type 0 where
  pub at_first : (i : ℕ) (past : List NoticeKind) → duty.begins past → duty.owes i past → ⊥
  pub stays : (i : ℕ) (e : NoticeKind) (past : List NoticeKind) → duty.owes i past → duty.owes i (e ∷ past)
  -- a node that owes the frame may start, or has read a copy
  pub known : (i : ℕ) (past : List NoticeKind) → duty.owes i past → duty.starts i past ⊎ (0 < copies x past)
  -- a node that comes to owe the frame answers in that turn
  pub asked : (i : ℕ) (e : NoticeKind) (past : List NoticeKind) → duty.owes i (e ∷ past) → duty.owes i past ⊎ IsAnswered turn omit x i e past
  -- it is withdrawn only with more than omit copies
  pub withdrawn : (i : ℕ) (past : List NoticeKind) → Among (Withdraws x) (turn i past) → omit < copies x past
  -- it is asked for only by a node that owes it
  pub cause : (i : ℕ) (past : List NoticeKind) → Among (Asks x) (turn i past) → duty.owes i past

-- what then holds of a running node
pub record Diffuses (omit : ℕ) (x : Identity) (duty : Duty) (trace : List SlotNote) (i : ℕ) (node : NodeState) : Type 0 where
  pub kept : duty.owes i (past_of i trace node) → (waits x node.waiting ≡ true) ⊎ (Among (Succeeds x) trace ⊎ (omit < copies x (past_of i trace node)))
  pub caused : (waits x node.waiting ≡ true) ⊎ Among (SentBy i x) trace → duty.owes i (past_of i trace node)
  pub heard : AllByRecursion (Heard i) trace

-- ---- a turn of the node

-- what a turn makes of the node that takes it
pub record Turned (turn : ℕ → List NoticeKind → List Effect) (trace : List SlotNote) (i : ℕ) (node after : NodeState) : Type 0 where
  pub notice : NoticeKind
  pub past : past_of i trace after ≡ notice ∷ past_of i trace node
  pub waiting : after.waiting ≡ waiting_after (turn i (past_of i trace after)) node.waiting

pub copies_grow : (x : Identity) (e : NoticeKind) (past : List NoticeKind) → copies x past ≤ copies x (e ∷ past)
unfolding copies
copies_grow x e past = count-grows (is_got x) e past

pub copies_got : (x : Identity) (e : NoticeKind) (past : List NoticeKind) → is_got x e ≡ true → copies x (e ∷ past) ≡ suc (copies x past)
unfolding copies
copies_got x e past h = count-yes (is_got x) e past h

pub own_carried : (x : Identity) (i : ℕ) (trace : List SlotNote) (unread : ℕ) → has_own x (map (given i) (drop unread trace)) ≡ true → Among (Succeeds x) trace
own_carried x i trace unread h = Among-drop (Succeeds x) unread trace (Succeeds-from_own i x (drop unread trace) h)

waits_or : (turn : ℕ → List NoticeKind → List Effect) (omit : ℕ) (x : Identity) (duty : Duty) → IsDiffused turn omit x duty
    → (i : ℕ) (past : List NoticeKind) (w : List FrameParts) → (waits x w ≡ true) ⊎ Among (Asks x) (turn i past)
    → (waits x (waiting_after (turn i past) w) ≡ true) ⊎ (omit < copies x past)
waits_or turn omit x duty rule i past w h = elim (waits_after x (turn i past) w h) [
  | inl gone ↦ inr (rule.withdrawn i past gone)
  | inr still ↦ inl still
]

turn_kept : (turn : ℕ → List NoticeKind → List Effect) (omit : ℕ) (x : Identity) (duty : Duty) → IsDiffused turn omit x duty
    → (trace : List SlotNote) (i : ℕ) (node after : NodeState) → Turned turn trace i node after → Diffuses omit x duty trace i node
    → duty.owes i (past_of i trace after)
    → (waits x after.waiting ≡ true) ⊎ (Among (Succeeds x) trace ⊎ (omit < copies x (past_of i trace after)))
turn_kept turn omit x duty rule trace i node after t h owes =
    let after_or : (waits x node.waiting ≡ true) ⊎ Among (Asks x) (turn i (past_of i trace after))
    → (waits x after.waiting ≡ true) ⊎ (Among (Succeeds x) trace ⊎ (omit < copies x (past_of i trace after))) =
    λ k. elim (waits_or turn omit x duty rule i (past_of i trace after) node.waiting k) [ inl still ↦ inl (rw t.waiting still) | inr many ↦ inr (inr many) ] in
    elim (rule.asked i t.notice (past_of i trace node) (subst (duty.owes i) t.past owes)) [
      | inl before ↦ elim (h.kept before) [
        | inl waiting ↦ after_or (inl waiting)
        | inr (inl carried) ↦ inr (inl carried)
        | inr (inr many) ↦ inr (inr (rw t.past (omega (arith, many, copies_grow x t.notice (past_of i trace node)))))
      ]
      | inr (inl asks) ↦ after_or (inr (rw t.past asks))
      | inr (inr (inl many)) ↦ inr (inr (rw t.past many))
      | inr (inr (inr own)) ↦ inr (inl (own_carried x i trace after.unread (rw t.past own)))
    ]

turn_caused : (turn : ℕ → List NoticeKind → List Effect) (omit : ℕ) (x : Identity) (duty : Duty) → IsDiffused turn omit x duty
    → (trace : List SlotNote) (i : ℕ) (node after : NodeState) → Turned turn trace i node after → Diffuses omit x duty trace i node
    → (waits x after.waiting ≡ true) ⊎ Among (SentBy i x) trace → duty.owes i (past_of i trace after)
turn_caused turn omit x duty rule trace i node after t h k =
    let later : duty.owes i (past_of i trace node) → duty.owes i (past_of i trace after) =
    λ owes. subst (duty.owes i) (sym t.past) (rule.stays i t.notice (past_of i trace node) owes) in
    elim k [
      | inl waiting ↦ elim (waits-from_after x (turn i (past_of i trace after)) node.waiting (rw t.waiting at waiting)) [
        | inl before ↦ later (h.caused (inl before))
        | inr asks ↦ rule.cause i (past_of i trace after) asks
      ]
      | inr sent ↦ later (h.caused (inr sent))
    ]

pub turn_diffuses : (turn : ℕ → List NoticeKind → List Effect) (omit : ℕ) (x : Identity) (duty : Duty) → IsDiffused turn omit x duty
    → (trace : List SlotNote) (i : ℕ) (node after : NodeState) → Turned turn trace i node after → Diffuses omit x duty trace i node
    → Diffuses omit x duty trace i after
turn_diffuses turn omit x duty rule trace i node after t h = record {
  kept = turn_kept turn omit x duty rule trace i node after t h;
  caused = turn_caused turn omit x duty rule trace i node after t h;
  heard = h.heard;
}

-- ---- a slot

-- what a slot makes of a node that still runs after it
pub record Lived (note : SlotNote) (trace : List SlotNote) (i : ℕ) (node after : NodeState) : Type 0 where
  pub past : past_of i (note ∷ trace) after ≡ past_of i trace node
  pub kept : after.waiting ≡ kept_at (given i note) node.waiting
  pub waiting : (after.waiting ≡ node.waiting) ⊎ ((f : FrameParts) × (given i note ≡ Sent f) × (after.waiting ≡ without (identity_of f) node.waiting))
  pub heard : Heard i note
  pub sender : (f : FrameParts) → note.frame ≡ Some f → has note.senders i ≡ true → waits (identity_of f) node.waiting ≡ true
  pub sends : (f : FrameParts) → given i note ≡ Sent f → Contains node.waiting f

sent_succeeds : (i : ℕ) (x : Identity) (note : SlotNote) (f : FrameParts) → given i note ≡ Sent f → x ≡ identity_of f → Succeeds x note
sent_succeeds i x note f h e = Succeeds-from_sent i x note (is_sent-from x f (given i note) h e)

slot_waits : (note : SlotNote) (trace : List SlotNote) (x : Identity) (i : ℕ) (node after : NodeState) → Lived note trace i node after → waits x node.waiting ≡ true
    → (waits x after.waiting ≡ true) ⊎ Succeeds x note
slot_waits note trace x i node after l h = elim l.waiting [
  | inl same ↦ inl (rw same h)
  | inr (f, sent, rest) ↦ elim (waits-without x (identity_of f) node.waiting h) [
    | inl e ↦ inr (sent_succeeds i x note f sent e)
    | inr still ↦ inl (rw rest still)
  ]
]

slot_waited : (note : SlotNote) (trace : List SlotNote) (x : Identity) (i : ℕ) (node after : NodeState) → Lived note trace i node after
    → waits x after.waiting ≡ true → waits x node.waiting ≡ true
slot_waited note trace x i node after l h = elim l.waiting [
  | inl same ↦ rw same at h
  | inr (f, sent, rest) ↦ waits-from_without x (identity_of f) node.waiting (rw rest at h)
]

sender_waited : (note : SlotNote) (trace : List SlotNote) (x : Identity) (i : ℕ) (node after : NodeState) → Lived note trace i node after → SentBy i x note
    → waits x node.waiting ≡ true
sender_waited note trace x i node after l s = rw s.carries.identity (l.sender s.carries.what s.carries.frame s.sender)

pub slot_diffuses : (omit : ℕ) (x : Identity) (duty : Duty) (note : SlotNote) (trace : List SlotNote) (i : ℕ) (node after : NodeState)
    → Lived note trace i node after → Diffuses omit x duty trace i node → Diffuses omit x duty (note ∷ trace) i after
slot_diffuses omit x duty note trace i node after l h = record {
  kept = λ owes. elim (h.kept (subst (duty.owes i) l.past owes)) [
    | inl waiting ↦ elim (slot_waits note trace x i node after l waiting) [ inl still ↦ inl still | inr carried ↦ inr (inl (inl carried)) ]
    | inr (inl carried) ↦ inr (inl (inr carried))
    | inr (inr many) ↦ inr (inr (rw l.past many))
  ];
  caused = λ k. rw l.past (h.caused (elim k [
    | inl waiting ↦ inl (slot_waited note trace x i node after l waiting)
    | inr (inl now) ↦ inl (sender_waited note trace x i node after l now)
    | inr (inr sent) ↦ inr sent
  ]));
  heard = (l.heard, h.heard);
}

-- ---- what follows

accepts_of : (i : ℕ) (trace : List SlotNote) → AllByRecursion (Heard i) trace → AllByRecursion (Accepts i) trace
accepts_of i trace h = Each-weaker (Heard i) (Accepts i) (λ note k. k.accepts) trace h

-- within the hypothesis, a frame that a node owes and does not wait with was carried Clean
pub owed_is_carried : (p : Parameters) (x : Identity) (duty : Duty) (trace : List SlotNote) (i : ℕ) (node : NodeState)
    → Diffuses p.omit x duty trace i node → IsWithin p trace → waits x node.waiting ≡ false → duty.owes i (past_of i trace node) → Among (CarriesClean x) trace
owed_is_carried p x duty trace i node h within gone owes = elim (h.kept owes) [
  | inl waiting ↦ absurd (both_ways (waits x node.waiting) gone waiting)
  | inr (inl carried) ↦ clean_from_success p x trace within carried
  | inr (inr many) ↦ clean_from_copies p i x trace node.unread (accepts_of i trace h.heard) within many
]

-- a node that runs got a frame that was carried Clean, or sent it
pub got_or_sent : (i : ℕ) (x : Identity) (note : SlotNote) → i < most_nodes → CarriesClean x note → Heard i note
    → (is_got x (given i note) ≡ true) ⊎ (SentBy i x note × (is_sent x (given i note) ≡ true))
got_or_sent i x note few c heard = elim (heard.clean few c.carries.what c.carries.frame c.clean) [
  | inl got ↦ inl (is_got-from x c.carries.what (given i note) got c.carries.identity)
  | inr sent ↦ inr (
    record { carries = c.carries; sender = (given-Sent i note c.carries.what sent).1 },
    is_sent-from x c.carries.what (given i note) sent c.carries.identity,
  )
]

-- so of a frame that was carried Clean, a node that runs and has read every notice has got it, or
-- may start it and has sent it
pub carried_is_read : (turn : ℕ → List NoticeKind → List Effect) (omit : ℕ) (x : Identity) (duty : Duty) → IsDiffused turn omit x duty
    → (trace : List SlotNote) (i : ℕ) (node : NodeState) → Diffuses omit x duty trace i node → i < most_nodes → node.unread ≡ 0 → Among (CarriesClean x) trace
    → Among (λ e. is_got x e ≡ true) (past_of i trace node) ⊎ (duty.starts i (past_of i trace node) × Among (λ e. is_sent x e ≡ true) (past_of i trace node))
unfolding copies
carried_is_read turn omit x duty rule trace i node h few read clean =
    let past : past_of i trace node ≡ map (given i) trace = ap (λ n. map (given i) (drop n trace)) read in
    let each : Among (λ note. (is_got x (given i note) ≡ true) ⊎ (SentBy i x note × (is_sent x (given i note) ≡ true))) trace =
    Among-weaker (λ note. CarriesClean x note × Heard i note) (λ note. (is_got x (given i note) ≡ true) ⊎ (SentBy i x note × (is_sent x (given i note) ≡ true)))
    (λ note k. got_or_sent i x note few k.0 k.1) trace (Among-with (CarriesClean x) (Heard i) trace h.heard clean) in
    elim (Among-either (λ note. is_got x (given i note) ≡ true) (λ note. SentBy i x note × (is_sent x (given i note) ≡ true)) trace each) [
      | inl got ↦ inl (rw past (Among-map (given i) (λ e. is_got x e ≡ true) trace got))
      | inr sent ↦
          let own : Among (SentBy i x) trace =
          Among-weaker (λ note. SentBy i x note × (is_sent x (given i note) ≡ true)) (SentBy i x) (λ note k. k.0) trace sent in
          elim (rule.known i (past_of i trace node) (h.caused (inr own))) [
            | inl origin ↦ inr (
              origin,
              rw past (Among-map (given i) (λ e. is_sent x e ≡ true) trace
                  (Among-weaker (λ note. SentBy i x note × (is_sent x (given i note) ≡ true)) (λ note. is_sent x (given i note) ≡ true) (λ note k. k.1) trace sent)),
            )
            | inr some ↦ inl (Among-from_count (is_got x) (past_of i trace node) some)
          ]
    ]
