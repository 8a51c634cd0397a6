-- What a note says of a frame: that the slot carried it, with success, or Clean.
use Rattle.std.proofs.Common.{◌≡◌, ℕ, ◌⊎◌, inl, inr, Bool, true, List, map, drop, Option, Some, None, Contains, refl}
use Rattle.std.proofs.lemmas.Bool.{false≢true}
use Rattle.cany_base.specs.declared.notice.NoticeKind.{NoticeKind}
use Rattle.cany_base.specs.declared.notice.NoticeKind.TheVariants.{Idle, Got, Sent, Bad}
use Rattle.cany_base.specs.declared.rule.Verdict.TheVariants.{Clean}
use Rattle.cany_base.specs.declared.slot_note.SlotNote.{SlotNote}
use Rattle.cany_base.specs.Frame.{FrameParts}
use Rattle.cany_base.specs.Nodes.{has}
use Rattle.cany_model.specs.Bus.Frames.{Identity, identity_of}
use Rattle.cany_model.specs.Bus.History.{given, is_got, is_sent, has_own}
use Rattle.cany_model.specs.Bus.Slot.{carried, is_success}
use Rattle.cany_model.proofs.Among.{Among, Among-which, Among-drop, Among-from_any, Among-from_map, Among-weaker}
use Rattle.cany_model.proofs.Bus.Identities.{same_identity-from, same_identity-true}
use Rattle.cany_model.proofs.Bus.Notes.{given-Got, given-Sent}

-- the frame of the slot passes the test
pub record CarriedFrame (test : FrameParts → Bool) (note : SlotNote) : Type 0 where
  pub what : FrameParts
  pub frame : note.frame ≡ Some what
  pub passes : test what ≡ true

pub carried_frame : (test : FrameParts → Bool) (note : SlotNote) → carried test note ≡ true → CarriedFrame test note
carried_frame test note h = by_frame note.frame refl
  where
    by_frame : (o : Option FrameParts) → note.frame ≡ o → CarriedFrame test note
    by_frame None e = absurd (false≢true (rw e at h))
    by_frame (Some f) e = record { what = f; frame = e; passes = rw e at h }

pub is_carried : (test : FrameParts → Bool) (note : SlotNote) (f : FrameParts) → note.frame ≡ Some f → test f ≡ true → carried test note ≡ true
is_carried test note f frame h = rw frame h

-- the slot carried a frame of the identity
pub record Carries (x : Identity) (note : SlotNote) : Type 0 where
  pub what : FrameParts
  pub frame : note.frame ≡ Some what
  pub identity : x ≡ identity_of what

-- its senders saw success
pub record Succeeds (x : Identity) (note : SlotNote) : Type 0 where
  pub carries : Carries x note
  pub success : is_success note.verdict ≡ true

pub record CarriesClean (x : Identity) (note : SlotNote) : Type 0 where
  pub carries : Carries x note
  pub clean : note.verdict ≡ Clean

-- the node was among its senders
pub record SentBy (i : ℕ) (x : Identity) (note : SlotNote) : Type 0 where
  pub carries : Carries x note
  pub sender : has note.senders i ≡ true

-- A notice of the node for a frame of the identity.
pub record IsGot (x : Identity) (notice : NoticeKind) : Type 0 where
  pub what : FrameParts
  pub was : notice ≡ Got what
  pub identity : x ≡ identity_of what

pub record IsSent (x : Identity) (notice : NoticeKind) : Type 0 where
  pub what : FrameParts
  pub was : notice ≡ Sent what
  pub identity : x ≡ identity_of what

pub is_got-true : (x : Identity) (notice : NoticeKind) → is_got x notice ≡ true → IsGot x notice
is_got-true x Idle h = absurd (false≢true h)
is_got-true x (Got f) h = record { what = f; was = refl; identity = same_identity-true x (identity_of f) h }
is_got-true x (Sent f) h = absurd (false≢true h)
is_got-true x Bad h = absurd (false≢true h)

pub is_sent-true : (x : Identity) (notice : NoticeKind) → is_sent x notice ≡ true → IsSent x notice
is_sent-true x Idle h = absurd (false≢true h)
is_sent-true x (Got f) h = absurd (false≢true h)
is_sent-true x (Sent f) h = record { what = f; was = refl; identity = same_identity-true x (identity_of f) h }
is_sent-true x Bad h = absurd (false≢true h)

pub is_got-from : (x : Identity) (f : FrameParts) (notice : NoticeKind) → notice ≡ Got f → x ≡ identity_of f → is_got x notice ≡ true
is_got-from x f notice e s = rw e (same_identity-from x (identity_of f) s)

pub is_sent-from : (x : Identity) (f : FrameParts) (notice : NoticeKind) → notice ≡ Sent f → x ≡ identity_of f → is_sent x notice ≡ true
is_sent-from x f notice e s = rw e (same_identity-from x (identity_of f) s)

-- what a node got or sent, the slot carried
pub Carries-from_got : (i : ℕ) (x : Identity) (note : SlotNote) → is_got x (given i note) ≡ true → Carries x note
Carries-from_got i x note h =
    let g = is_got-true x (given i note) h in
    record { what = g.what; frame = (given-Got i note g.what g.was).0; identity = g.identity }

pub Succeeds-from_sent : (i : ℕ) (x : Identity) (note : SlotNote) → is_sent x (given i note) ≡ true → Succeeds x note
Succeeds-from_sent i x note h =
    let g = is_sent-true x (given i note) h in
    let parts = given-Sent i note g.what g.was in
    record { carries = record { what = g.what; frame = parts.0; identity = g.identity }; success = parts.2 }

-- a node that has read its own transmission sent the frame with success
pub Succeeds-from_own : (i : ℕ) (x : Identity) (trace : List SlotNote) → has_own x (map (given i) trace) ≡ true → Among (Succeeds x) trace
unfolding has_own
Succeeds-from_own i x trace h =
    Among-weaker (λ note. is_sent x (given i note) ≡ true) (Succeeds x) (Succeeds-from_sent i x) trace
    (Among-from_map (given i) (λ notice. is_sent x notice ≡ true) trace (Among-from_any (is_sent x) (map (given i) trace) h))

-- the notice has the frame
abbrev pub Has : FrameParts → NoticeKind → Type 0
Has f notice = (notice ≡ Got f) ⊎ (notice ≡ Sent f)

pub frame_of_notice : (i : ℕ) (note : SlotNote) (f : FrameParts) → Has f (given i note) → note.frame ≡ Some f
frame_of_notice i note f (inl got) = (given-Got i note f got).0
frame_of_notice i note f (inr sent) = (given-Sent i note f sent).0

-- a frame that a node has read was carried
pub read_note : (i : ℕ) (unread : ℕ) (trace : List SlotNote) (f : FrameParts) → Among (Has f) (map (given i) (drop unread trace))
    → (note : SlotNote) × Contains trace note × (note.frame ≡ Some f)
read_note i unread trace f h =
    let w = Among-which (λ note. Has f (given i note)) trace
    (Among-drop (λ note. Has f (given i note)) unread trace (Among-from_map (given i) (Has f) (drop unread trace) h)) in
    (w.0, w.1, frame_of_notice i w.0 f w.2)

-- what follows of the slot whose notice a node has read
pub read_among : (i : ℕ) (unread : ℕ) (P : NoticeKind → Type 0) (Q : SlotNote → Type 0) → ((note : SlotNote) → P (given i note) → Q note)
    → (trace : List SlotNote) → Among P (map (given i) (drop unread trace)) → Among Q trace
read_among i unread P Q f trace h =
    Among-drop Q unread trace (Among-weaker (λ note. P (given i note)) Q f (drop unread trace) (Among-from_map (given i) P (drop unread trace) h))
