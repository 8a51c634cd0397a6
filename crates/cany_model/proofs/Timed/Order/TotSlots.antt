-- What a slot of a run says of a frame, by the identity of the frame: who offered it, who sent and
-- who got it, and what waits after the slot.
use Rattle.std.proofs.Common.{◌≡◌, ℕ, zero, suc, ◌≤◌, ◌⊎◌, inl, inr, true, false, not, List, [], ◌∷◌, Some, None, Option, Contains, length, refl, ap, sym, ◌∙◌, subst, arith}
use Rattle.std.proofs.lemmas.Bool.{and_from, and_parts, both_ways, cases_Bool, cond_both, false≢true, not-true, or_cases}
use Rattle.cany_base.specs.declared.message.MsgKey.{MsgKey}
use Rattle.cany_base.specs.declared.notice.NoticeKind.{NoticeKind}
use Rattle.cany_base.specs.declared.notice.NoticeKind.TheVariants.{Idle, Got, Sent, Bad}
use Rattle.cany_base.specs.declared.rule.Verdict.{Verdict}
use Rattle.cany_base.specs.declared.rule.Verdict.TheVariants as verdict
use Rattle.cany_base.specs.declared.slot_note.SlotNote.{SlotNote}
use Rattle.cany_base.specs.Frame.{FrameParts}
use Rattle.cany_base.specs.Limits.{most_nodes}
use Rattle.cany_base.specs.Nodes.{has}
use Rattle.cany_model.specs.Bus.Frames.{Identity, identity_of, is_of}
use Rattle.cany_model.specs.Bus.History.{given, is_got, is_sent}
use Rattle.cany_model.specs.Bus.Slot.{FaultScript, is_success, lets_accept, slot_note_of, is_clean}
use Rattle.cany_model.specs.Bus.State.{RunState, node_at, runs}
use Rattle.cany_model.specs.Bus.Waiting.{waits, without}
use Rattle.cany_model.specs.Promises.Hypothesis.{count_together, is_partial, is_partial_slot_of, is_silent, is_silent_slot}
use Rattle.cany_model.specs.Rules.Totcan.{holds, tot_of_key}
use Rattle.cany_model.proofs.Among.{Contains-cons, Contains-head}
use Rattle.cany_model.proofs.Bus.Carried.{Carries, is_got-from, is_got-true, is_sent-from, is_sent-true}
use Rattle.cany_model.proofs.Promises.CleanSlots.{verdict_not_silent, count_together-itself}
use Rattle.cany_model.proofs.Bus.Identities.{same_identity-from, same_identity-true}
use Rattle.cany_model.proofs.Bus.Notes.{given-Got, given-Sent, given_sender, given_taker, note_of-offered, running_takes, sender_waits, taker_accepts, waiting_sends, waits_with-from_Contains}
use Rattle.cany_model.proofs.Bus.States.{note_at, runs_within}
use Rattle.cany_model.proofs.Runs.Steps.{kept_at}
use Rattle.cany_model.proofs.Rules.Waits.{waits-from_with, waits-from_without, waits-without}
use Rattle.cany_model.proofs.Timed.Common.Ages.{Clean, Sends, carries, carries_clean}
use Rattle.cany_model.proofs.Timed.Order.TotKept.{NoSilent}

-- ---- of any note

pub carries-from : (x : Identity) (note : SlotNote) (f : FrameParts) → note.frame ≡ Some f → x ≡ identity_of f → carries x note ≡ true
carries-from x note f frame e = rw frame (same_identity-from x (identity_of f) e)

pub carries-true : (x : Identity) (note : SlotNote) → carries x note ≡ true → Carries x note
carries-true x note h = by_frame note.frame refl
  where
    by_frame : (o : Option FrameParts) → note.frame ≡ o → Carries x note
    by_frame None e = absurd (false≢true (rw e at h))
    by_frame (Some f) e = record { what = f; frame = e; identity = same_identity-true x (identity_of f) (rw e at h) }

pub got_carried : (x : Identity) (i : ℕ) (note : SlotNote) → is_got x (given i note) ≡ true → carries x note ≡ true
got_carried x i note h =
    let g = is_got-true x (given i note) h in
    carries-from x note g.what (given-Got i note g.what g.was).0 g.identity

pub sent_carried : (x : Identity) (i : ℕ) (note : SlotNote) → is_sent x (given i note) ≡ true
    → (carries x note ≡ true) × (is_success note.verdict ≡ true)
sent_carried x i note h =
    let g = is_sent-true x (given i note) h in
    let parts = given-Sent i note g.what g.was in
    (carries-from x note g.what parts.0 g.identity, parts.2)

pub holds_carried : (m : MsgKey) (i : ℕ) (note : SlotNote) → holds m (given i note) ≡ true → carries (tot_of_key m) note ≡ true
holds_carried m i note h = elim (or_cases (is_got (tot_of_key m) (given i note)) (is_sent (tot_of_key m) (given i note)) h) [
  | inl got ↦ got_carried (tot_of_key m) i note got
  | inr sent ↦ (sent_carried (tot_of_key m) i note sent).0
]

-- a notice is not both
pub not_got_sent : (x y : Identity) (e : NoticeKind) → is_got x e ≡ true → is_sent y e ≡ true → ⊥
not_got_sent x y Idle a b = false≢true a
not_got_sent x y (Got f) a b = false≢true b
not_got_sent x y (Sent f) a b = false≢true a
not_got_sent x y Bad a b = false≢true a

-- ---- verdicts

pub clean_success : (v : Verdict) → is_clean v ≡ true → is_success v ≡ true
clean_success verdict.Clean h = refl
clean_success verdict.Lost h = h
clean_success (verdict.Partial reject) h = h
clean_success (verdict.Silent reject) h = absurd (false≢true h)

clean_lets : (v : Verdict) (i : ℕ) → is_clean v ≡ true → lets_accept v i ≡ true
clean_lets verdict.Clean i h = refl
clean_lets verdict.Lost i h = h
clean_lets (verdict.Partial reject) i h = absurd (false≢true h)
clean_lets (verdict.Silent reject) i h = absurd (false≢true h)

success_clean : (v : Verdict) → is_success v ≡ true → is_silent v ≡ false → is_clean v ≡ true
success_clean verdict.Clean h n = refl
success_clean verdict.Lost h n = h
success_clean (verdict.Partial reject) h n = h
success_clean (verdict.Silent reject) h n = absurd (false≢true (sym n))

lets_cases : (v : Verdict) (i : ℕ) → lets_accept v i ≡ true → is_silent v ≡ false → (is_clean v ≡ true) ⊎ (is_partial v ≡ true)
lets_cases verdict.Clean i h n = inl refl
lets_cases verdict.Lost i h n = absurd (false≢true h)
lets_cases (verdict.Partial reject) i h n = inr refl
lets_cases (verdict.Silent reject) i h n = absurd (false≢true (sym n))

-- in a slot that is not Silent, a success is Clean
pub sent_clean : (x : Identity) (note : SlotNote) → carries x note ≡ true → is_success note.verdict ≡ true → is_silent_slot note ≡ false
    → carries_clean x note ≡ true
sent_clean x note c success plain =
    and_from (carries x note) (is_clean note.verdict) c
    (success_clean note.verdict success (verdict_not_silent x note (carries-true x note c) plain))

-- and what a node got, was carried Clean or by a Partial slot
pub got_clean : (x : Identity) (note : SlotNote) (i : ℕ) → carries x note ≡ true → lets_accept note.verdict i ≡ true → is_silent_slot note ≡ false
    → (carries_clean x note ≡ true) ⊎ (is_partial_slot_of x note ≡ true)
got_clean x note i c lets plain =
    let w = carries-true x note c in
    elim (lets_cases note.verdict i lets (verdict_not_silent x note w plain)) [
      | inl clean ↦ inl (and_from (carries x note) (is_clean note.verdict) c clean)
      | inr partial ↦
          inr (and_from _ (is_partial note.verdict) (rw w.frame (ap (λ y. count_together x y) (sym w.identity) ∙ count_together-itself x)) partial)
    ]

pub plain_at : (T : List SlotNote) → NoSilent T → (q : ℕ) → is_silent_slot (note_at T q) ≡ false
plain_at [] h q = refl
plain_at (note ∷ T) h zero = h.0
plain_at (note ∷ T) h (suc q) = plain_at T h.1 q

-- without a Silent slot, what a node sent was carried Clean
pub sends_clean : (T : List SlotNote) → NoSilent T → (i q : ℕ) (x : Identity) → Sends i T q x → Clean T q x
sends_clean T plain i q x h =
    let c = sent_carried x i (note_at T q) h in
    sent_clean x (note_at T q) c.0 c.1 (plain_at T plain q)

-- ---- of the slot that a state is about to run

pub waits_of : (x : Identity) (f : FrameParts) (w : List FrameParts) → x ≡ identity_of f → Contains w f → waits x w ≡ true
waits_of x f w e c = subst (λ y. waits y w ≡ true) (sym e) (waits-from_with f w (waits_with-from_Contains f w c))

-- the frame of the identity that waits
pub waiting_frame : (x : Identity) (w : List FrameParts) → waits x w ≡ true → (f : FrameParts) × Contains w f × (x ≡ identity_of f)
waiting_frame x [] h = absurd (false≢true h)
waiting_frame x (f ∷ w) h = elim (or_cases (is_of x f) (waits x w) h) [
  | inl here ↦ (f, Contains-head f w, same_identity-true x (identity_of f) here)
  | inr there ↦ let r = waiting_frame x w there in (r.0, Contains-cons f r.0 w r.1, r.2)
]

-- node i runs and waits with a frame of the identity, and is among the senders of the note
pub record Offers (s : RunState) (note : SlotNote) (x : Identity) (i : ℕ) : Type 0 where
  pub running : runs (node_at s.nodes i) ≡ true
  pub waiting : waits x (node_at s.nodes i).waiting ≡ true
  pub sender : has note.senders i ≡ true

-- what is carried, some node offers
pub carried_offer : (rules : FaultScript) (s : RunState) (x : Identity) → length s.nodes ≤ most_nodes → carries x (slot_note_of rules s) ≡ true
    → (i : ℕ) × Offers s (slot_note_of rules s) x i
carried_offer rules s x few h =
    let c = carries-true x (slot_note_of rules s) h in
    let offer = note_of-offered rules s c.what c.frame in
    let below = runs_within s.nodes offer.node offer.running in (
      offer.node,
      record {
        running = offer.running;
        waiting = waits_of x c.what (node_at s.nodes offer.node).waiting c.identity offer.waits;
        sender = waiting_sends rules s c.what offer.node (omega (arith, below, few)) c.frame offer.running offer.waits;
      },
    )

pub record SentIt (s : RunState) (note : SlotNote) (x : Identity) (i : ℕ) : Type 0 where
  pub offers : Offers s note x i
  pub carries_it : carries x note ≡ true
  pub success : is_success note.verdict ≡ true

pub sent_it : (rules : FaultScript) (s : RunState) (x : Identity) (i : ℕ) → is_sent x (given i (slot_note_of rules s)) ≡ true
    → SentIt s (slot_note_of rules s) x i
sent_it rules s x i h =
    let g = is_sent-true x (given i (slot_note_of rules s)) h in
    let parts = given-Sent i (slot_note_of rules s) g.what g.was in
    let w = sender_waits rules s g.what i parts.0 parts.1 in
    record {
      offers = record { running = w.0; waiting = waits_of x g.what (node_at s.nodes i).waiting g.identity w.1; sender = parts.1 };
      carries_it = carries-from x (slot_note_of rules s) g.what parts.0 g.identity;
      success = parts.2;
    }

pub record GotIt (s : RunState) (note : SlotNote) (x : Identity) (i : ℕ) : Type 0 where
  pub running : runs (node_at s.nodes i) ≡ true
  pub carries_it : carries x note ≡ true
  pub silent : has note.senders i ≡ false
  pub lets : lets_accept note.verdict i ≡ true

pub got_it : (rules : FaultScript) (s : RunState) (x : Identity) (i : ℕ) → is_got x (given i (slot_note_of rules s)) ≡ true
    → GotIt s (slot_note_of rules s) x i
got_it rules s x i h =
    let g = is_got-true x (given i (slot_note_of rules s)) h in
    let parts = given-Got i (slot_note_of rules s) g.what g.was in
    let t = taker_accepts rules s g.what i parts.0 parts.2 in
    record { running = t.0; carries_it = carries-from x (slot_note_of rules s) g.what parts.0 g.identity; silent = parts.1; lets = t.1 }

-- a running node gets or sends what is carried Clean
pub hears_it : (rules : FaultScript) (s : RunState) (x : Identity) (i : ℕ) → length s.nodes ≤ most_nodes → runs (node_at s.nodes i) ≡ true
    → carries_clean x (slot_note_of rules s) ≡ true
    → (is_got x (given i (slot_note_of rules s)) ≡ true) ⊎ (is_sent x (given i (slot_note_of rules s)) ≡ true)
hears_it rules s x i few running h =
    let note = slot_note_of rules s in
    let parts = and_parts (carries x note) (is_clean note.verdict) h in
    let c = carries-true x note parts.0 in
    let below = runs_within s.nodes i running in
    elim (cases_Bool (has note.senders i)) [
      | inl sends ↦
          inr (is_sent-from x c.what (given i note) (given_sender i note c.what c.frame sends (clean_success note.verdict parts.1)) c.identity)
      | inr silent ↦
          let takes = running_takes rules s c.what i (omega (arith, below, few)) c.frame running silent (clean_lets note.verdict i parts.1) in
          inl (is_got-from x c.what (given i note) (given_taker i note c.what c.frame silent takes) c.identity)
    ]

-- who offers it, sends it
pub offer_sends : (rules : FaultScript) (s : RunState) (x : Identity) (i : ℕ) → length s.nodes ≤ most_nodes → Offers s (slot_note_of rules s) x i
    → carries_clean x (slot_note_of rules s) ≡ true → is_sent x (given i (slot_note_of rules s)) ≡ true
offer_sends rules s x i few o h = elim (hears_it rules s x i few o.running h) [
  | inl got ↦ let g = got_it rules s x i got in absurd (both_ways (has (slot_note_of rules s).senders i) g.silent o.sender)
  | inr sent ↦ sent
]

-- ---- what waits after a slot

without_gone : (x y : Identity) → x ≡ y → (w : List FrameParts) → waits x (without y w) ≡ true → ⊥
without_gone x y e [] h = false≢true h
without_gone x y e (g ∷ w) h =
    cond_both (not (is_of y g)) (g ∷ without y w) (without y w) (λ v. waits x v ≡ true → ⊥)
    (λ other k. elim (or_cases (is_of x g) (waits x (without y w)) k) [
      | inl here ↦ both_ways (is_of y g) (not-true (is_of y g) other) (subst (λ z. is_of z g ≡ true) e here)
      | inr there ↦ without_gone x y e w there
    ])
    (λ _ k. without_gone x y e w k)
    h

pub waits_before : (x : Identity) (e : NoticeKind) (w : List FrameParts) → waits x (kept_at e w) ≡ true → (waits x w ≡ true) × (is_sent x e ≡ false)
waits_before x Idle w h = (h, refl)
waits_before x Bad w h = (h, refl)
waits_before x (Got f) w h = (h, refl)
waits_before x (Sent f) w h = (
  waits-from_without x (identity_of f) w h,
  elim (cases_Bool (is_of x f)) [
    | inl same ↦ absurd (without_gone x (identity_of f) (same_identity-true x (identity_of f) same) w h)
    | inr other ↦ other
  ],
)

pub waits_on : (x : Identity) (e : NoticeKind) (w : List FrameParts) → waits x w ≡ true → (waits x (kept_at e w) ≡ true) ⊎ (is_sent x e ≡ true)
waits_on x Idle w h = inl h
waits_on x Bad w h = inl h
waits_on x (Got f) w h = inl h
waits_on x (Sent f) w h = elim (waits-without x (identity_of f) w h) [ inl e ↦ inr (same_identity-from x (identity_of f) e) | inr on ↦ inl on ]
