-- What a node has delivered by TOTCAN is a front of the order, where it accepts in time what passes
-- the test of the order, and nothing else.
use Rattle.std.proofs.Common.{◌≡◌, ℕ, zero, suc, ◌+◌, ◌-◌, ◌<◌, ◌≤◌, ◌⊎◌, ◌&&◌, ◌++◌, inl, inr, not, Bool, true, false, List, [], ◌∷◌, length, drop, take, Option, Some, None, nat_lt, refl, ap, sym, ◌∙◌, subst, arith, append-nil}
use Rattle.std.specs.List.{list_any}
use Rattle.std.proofs.lemmas.Bool.{and_from, and_left, and_parts, and_right, both_ways, cases_Bool, cases_eq, cases_lt, lt-ltb, not_from_false, not_from_true}
use Rattle.cany_base.specs.declared.class.Class.TheVariants as class
use Rattle.cany_base.specs.declared.message.MsgKey.{MsgKey}
use Rattle.cany_base.specs.declared.notice.NoticeKind.{NoticeKind}
use Rattle.cany_base.specs.declared.slot_note.SlotNote.{SlotNote}
use Rattle.cany_base.specs.Frame.{FrameParts}
use Rattle.cany_base.specs.Params.{Parameters}
use Rattle.cany_model.specs.Bus.Frames.{same_class}
use Rattle.cany_model.specs.Bus.History.{given}
use Rattle.cany_model.specs.Bus.Slot.{is_clean}
use Rattle.cany_model.specs.Rules.Totcan.{delivered, done, done_at, done_from, holds, is_accepted, is_clear, is_pending, is_place, is_recent, message_in, tot_in, tot_of_key, with_new}
use Rattle.cany_model.proofs.Bus.Carried.{frame_of_notice}
use Rattle.cany_model.proofs.Bus.Identities.{same_class_self}
use Rattle.cany_model.proofs.Bus.States.{note_at}
use Rattle.cany_model.proofs.Rules.Services.PlaceFacts.{holds-place, tot_in-brings, tot_in-holds}
use Rattle.cany_model.proofs.Timed.Common.Ages.{Done, any_take, carries, gave, past, some_take}
use Rattle.cany_model.proofs.Timed.Order.AcceptanceRelays.{Hears, heard_holds}
use Rattle.cany_model.proofs.Timed.Order.OrderAt.{DataFirst, clean_done, frame_none, frame_of, frame_some, frames_by, frames_end, frames_more, merged, segment}
use Rattle.cany_model.proofs.Timed.Order.TotRun.{past_next}
use Rattle.cany_model.proofs.Timed.Order.TotSlots.{holds_carried}

-- ---- notices and slots

read_end : (i : ℕ) (T : List SlotNote) → past i T (length T) ≡ []
read_end i [] = refl
read_end i (note ∷ T) = read_end i T

-- the data frame that a notice brings was carried
frame_in : (i : ℕ) (note : SlotNote) (f : FrameParts) → tot_in (given i note) ≡ Some f → (note.frame ≡ Some f) × (same_class f.class class.Tot ≡ true)
frame_in i note f h =
    let b = tot_in-brings (given i note) f h in
    (frame_of_notice i note f b.has, ap (λ c. same_class c class.Tot) b.tot ∙ same_class_self class.Tot)

held_frame : (m : MsgKey) (e : NoticeKind) → holds m e ≡ true → tot_in e ≡ None → ⊥
held_frame m e h none = let w = holds-place m e h in let some : None ≡ Some w.frame = sym none ∙ w.brought in cc

-- ---- a reading of a node

-- of a node that has not read the v newest slots of the trace that its incarnation sees
pub record Reads (p : Parameters) (T : List SlotNote) (i v : ℕ) (test : MsgKey → Bool) : Type 0 where
  -- each frame that was carried Clean it got or sent
  pub heard : Hears i T
  -- the data frame of a message that it has accepted was carried Clean at an age that it has read,
  -- and the message passes the test
  pub accepted_done : (m : MsgKey) → is_accepted p.bound i m (past i T v) ≡ true → (q : ℕ) × (v ≤ q) × Done T q m
  pub accepted_test : (m : MsgKey) → is_accepted p.bound i m (past i T v) ≡ true → test m ≡ true
  -- what passes it has accepted once it has read the closing
  pub test_accepted : (m : MsgKey) (q : ℕ) → Done T q m → test m ≡ true → v + p.bound ≤ q → is_accepted p.bound i m (past i T v) ≡ true

-- ---- what is done at a reading

module _ (p : Parameters) (T : List SlotNote) (i v : ℕ) (test : MsgKey → Bool) (first : DataFirst T) (reads : Reads p T i v test) where
  -- what the node has read
  abbrev P : List NoticeKind
  P = past i T v

  -- at this age, and before it
  abbrev now : ℕ → Option FrameParts
  now r = tot_in (gave i T r)

  abbrev older : ℕ → List NoticeKind
  older r = past i T (suc r)

  -- a data frame that was carried Clean has its place there
  pub done_place : (m : MsgKey) (k r : ℕ) → r ≡ v + k → Done T r m → is_recent k m P ≡ false
  unfolding is_recent
  done_place m k r at d = elim (cases_Bool (list_any (holds m) (take k P))) [
    | inr none ↦ none
    | inl newer ↦
        let a = any_take (holds m) i k v T newer in
        absurd (first a.0 r m (omega (arith, a.2, at)) (holds_carried m i (note_at T a.0) a.3) d)
  ]

  moved : (m : MsgKey) (k q : ℕ) → v ≤ q → q < v + k → Done T q m → is_place k P m ≡ false
  unfolding is_recent
  moved m k q from to d =
      not_from_true (list_any (holds m) (take k P)) (some_take (holds m) i k v q T refl from to (heard_holds i T reads.heard m q d))

  record Front (k r : ℕ) : Type 0 where
    front : ℕ
    old : r ≤ front
    is : done_from p i P k (past i T r) ≡ frames_by test (drop front T)
    clear : is_clear p i P k (past i T r) ≡ true → front ≡ r

  done_more : (k r : ℕ) → r < length T → done_from p i P k (past i T r) ≡ done_from p i P (k + 1) (older r) ++ done_at p i P k (older r) (now r)
  unfolding done_from
  done_more k r there = ap (λ (l : List NoticeKind). done_from p i P k l) (past_next i T r there)

  clear_more : (k r : ℕ) → r < length T
      → is_clear p i P k (past i T r) ≡ (not (is_pending p i P k (now r)) && is_clear p i P (k + 1) (older r))
  unfolding is_clear
  clear_more k r there = ap (λ (l : List NoticeKind). is_clear p i P k l) (past_next i T r there)

  -- a notice adds what the order has there, where nothing older holds it back
  abbrev Adds : ℕ → ℕ → Option FrameParts → Type 0
  Adds k r o =
      ((is_pending p i P k o ≡ true) × (done_at p i P k (older r) o ≡ []))
      ⊎ (done_at p i P k (older r) o ≡ frame_of test (note_at T r) (note_at T r).frame)

  none_added : (k r : ℕ) (f : FrameParts) → is_place k P (message_in f) && is_accepted p.bound i (message_in f) P ≡ false
      → done_at p i P k (older r) (Some f) ≡ []
  none_added k r f h = rw (and_left (is_place k P (message_in f) && is_accepted p.bound i (message_in f) P) (is_clear p i P (k + 1) (older r)) h) refl

  not_accepted : (k r : ℕ) (f : FrameParts) → is_accepted p.bound i (message_in f) P ≡ false → done_at p i P k (older r) (Some f) ≡ []
  not_accepted k r f a = none_added k r f (and_right (is_place k P (message_in f)) (is_accepted p.bound i (message_in f) P) a)

  adds_none : (k r : ℕ) → now r ≡ None → Adds k r None
  adds_none k r e = inr (sym (frame_none test (note_at T r) (λ f frame tot clean passes.
      let d = clean_done (note_at T r) f frame tot clean in
      held_frame (message_in f) (gave i T r) (heard_holds i T reads.heard (message_in f) r d) e)))

  -- of a slot that was Clean
  adds_clean : (k r : ℕ) → r ≡ v + k → is_clear p i P (k + 1) (older r) ≡ true → (f : FrameParts) → now r ≡ Some f
      → is_clean (note_at T r).verdict ≡ true → Adds k r (Some f)
  adds_clean k r at clear f e clean = elim (cases_Bool (is_accepted p.bound i m P)) [
    | inl a ↦ inr (rw (place, a, clear) refl ∙ sym (frame_some test (note_at T r) f frame.0 frame.1 clean (reads.accepted_test m a)))
    | inr a ↦ elim (cases_lt k p.bound) [
      | inl early ↦ inl (
        and_from (is_place k P m && nat_lt k p.bound) (not (is_accepted p.bound i m P))
            (and_from (is_place k P m) (nat_lt k p.bound) place (lt-ltb k p.bound early)) (not_from_false (is_accepted p.bound i m P) a),
        not_accepted k r f a,
      )
      | inr late ↦ inr (not_accepted k r f a ∙ sym (frame_none test (note_at T r) (λ g frame' _ _ passes.
          let some : Some f ≡ Some g = sym frame.0 ∙ frame' in
          let same : f ≡ g = cc in
          both_ways (is_accepted p.bound i m P) a
          (reads.test_accepted m r done_here (ap (λ (x : FrameParts). test (message_in x)) same ∙ passes) (omega (arith, late, at))))))
    ]
  ]
    where
      m : MsgKey
      m = message_in f

      frame : ((note_at T r).frame ≡ Some f) × (same_class f.class class.Tot ≡ true)
      frame = frame_in i (note_at T r) f e

      done_here : Done T r m
      done_here = clean_done (note_at T r) f frame.0 frame.1 clean

      place : is_place k P m ≡ true
      place = not_from_false (is_recent k m P) (done_place m k r at done_here)

  -- of one that was not: an accepted message has a newer place
  adds_other : (k r : ℕ) → r ≡ v + k → (f : FrameParts) → now r ≡ Some f → is_clean (note_at T r).verdict ≡ false → Adds k r (Some f)
  adds_other k r at f e unclean =
      inr (none ∙ sym (frame_none test (note_at T r) (λ g _ _ clean _. both_ways (is_clean (note_at T r).verdict) unclean clean)))
    where
      m : MsgKey
      m = message_in f

      newer : (q : ℕ) → Done T q m → q < r
      newer q d = elim (cases_lt q r) [
        | inl less ↦ less
        | inr more ↦ elim (cases_eq q r) [
          | inl same ↦ absurd (both_ways (is_clean (note_at T r).verdict) unclean
              (subst (λ x. is_clean (note_at T x).verdict ≡ true) same
              (and_parts (carries (tot_of_key m) (note_at T q)) (is_clean (note_at T q).verdict) d).1))
          | inr other ↦
              absurd (first r q m (omega (arith, more, other)) (holds_carried m i (note_at T r) (tot_in-holds (gave i T r) f e)) d)
        ]
      ]

      none : done_at p i P k (older r) (Some f) ≡ []
      none = elim (cases_Bool (is_accepted p.bound i m P)) [
        | inr a ↦ not_accepted k r f a
        | inl a ↦
            let q = reads.accepted_done m a in
            let less = newer q.0 q.2 in
            none_added k r f (and_left (is_place k P m) (is_accepted p.bound i m P) (moved m k q.0 q.1 (omega (arith, less, at)) q.2))
      ]

  adds : (k r : ℕ) → r ≡ v + k → is_clear p i P (k + 1) (older r) ≡ true → (o : Option FrameParts) → now r ≡ o → Adds k r o
  adds k r at clear None e = adds_none k r e
  adds k r at clear (Some f) e = elim (cases_Bool (is_clean (note_at T r).verdict)) [
    | inl clean ↦ adds_clean k r at clear f e clean
    | inr unclean ↦ adds_other k r at f e unclean
  ]

  add_front : (k r : ℕ) → r < length T → done_from p i P (k + 1) (older r) ≡ frames_by test (drop (suc r) T) → Adds k r (now r) → Front k r
  add_front k r there before (inl pending) = record {
    front = suc r;
    old = omega arith;
    is = done_more k r there ∙ ap (λ l. done_from p i P (k + 1) (older r) ++ l) pending.1 ∙ append-nil (done_from p i P (k + 1) (older r)) ∙ before;
    clear = λ c. absurd (both_ways (not (is_pending p i P k (now r))) (not_from_true (is_pending p i P k (now r)) pending.0)
        (and_parts (not (is_pending p i P k (now r))) (is_clear p i P (k + 1) (older r)) (sym (clear_more k r there) ∙ c)).0);
  }
  add_front k r there before (inr same) = record {
    front = r;
    old = omega arith;
    is = done_more k r there ∙ ap (λ l. l ++ done_at p i P k (older r) (now r)) before ∙ ap (λ l. frames_by test (drop (suc r) T) ++ l) same
        ∙ sym (frames_more test r T there);
    clear = λ c. refl;
  }

  held_back : (k r : ℕ) (o : Option FrameParts) → is_clear p i P (k + 1) (older r) ≡ false → done_at p i P k (older r) o ≡ []
  held_back k r None h = refl
  held_back k r (Some f) h =
      rw (and_right (is_place k P (message_in f) && is_accepted p.bound i (message_in f) P) (is_clear p i P (k + 1) (older r)) h) refl

  at_end : (k r : ℕ) → r ≡ length T → Front k r
  unfolding done_from
  at_end k r e = record {
    front = r;
    old = omega arith;
    is = ap (λ (l : List NoticeKind). done_from p i P k l) (ap (λ n. past i T n) e ∙ read_end i T)
        ∙ sym (ap (λ n. frames_by test (drop n T)) e ∙ frames_end test T);
    clear = λ _. refl;
  }

  -- from the oldest slot on: what is done up to an age is the order up to some age, and up to just
  -- this one where nothing holds later ones back
  fronts : (n k r : ℕ) → r + n ≡ length T → r ≡ v + k → Front k r
  fronts zero k r size at = at_end k r (omega (arith, size))
  fronts (suc n) k r size at =
      let there : r < length T = omega (arith, size) in
      let rest = fronts n (k + 1) (suc r) (omega (arith, size)) (omega (arith, at)) in
      let rest_old = rest.old in
      elim (cases_Bool (is_clear p i P (k + 1) (older r))) [
        | inr kept_back ↦ record {
          front = rest.front;
          old = omega (arith, rest_old);
          is = done_more k r there ∙ ap (λ l. done_from p i P (k + 1) (older r) ++ l) (held_back k r (now r) kept_back)
              ∙ append-nil (done_from p i P (k + 1) (older r)) ∙ rest.is;
          clear = λ c. absurd (both_ways (is_clear p i P (k + 1) (older r)) kept_back
              (and_parts (not (is_pending p i P k (now r))) (is_clear p i P (k + 1) (older r)) (sym (clear_more k r there) ∙ c)).1);
        }
        | inl clear ↦
            add_front k r there (rest.is ∙ ap (λ x. frames_by test (drop x T)) (rest.clear clear)) (adds k r at clear (now r) refl)
      ]

  -- what is done is a front of the order
  pub done_front : v ≤ length T → (b : ℕ) × (b ≤ length T) × (done p i P ≡ frames_by test (drop b T))
  done_front there =
      let f = fronts (length T - v) 0 v (omega (arith, there)) (omega arith) in
      elim (cases_lt (length T) f.front) [
        | inr short ↦ (f.front, omega (arith, short), f.is)
        | inl long ↦ (length T, omega arith, f.is ∙ ap (frames_by test) (drop_long f.front T long) ∙ sym (frames_end test T))
      ]
    where
      drop_long : (b : ℕ) (T : List SlotNote) → length T < b → drop b T ≡ []
      drop_long zero T h = absurd (omega (arith, h))
      drop_long (suc b) [] h = refl
      drop_long (suc b) (n ∷ T) h = drop_long b T (omega (arith, h))

-- ---- what a node has delivered

module _ (p : Parameters) (T : List SlotNote) (i u : ℕ) (test : MsgKey → Bool) (first : DataFirst T)
    (reads : (v : ℕ) → u ≤ v → Reads p T i v test) where
  record Delivered (v : ℕ) : Type 0 where
    front : ℕ
    there : front ≤ length T
    is : delivered p i (past i T v) ≡ frames_by test (drop front T)

  delivered_end : (v : ℕ) → v ≡ length T → Delivered v
  unfolding delivered
  delivered_end v e = record {
    front = length T;
    there = omega arith;
    is = ap (λ (l : List NoticeKind). delivered p i l) (ap (λ n. past i T n) e ∙ read_end i T) ∙ sym (frames_end test T);
  }

  delivered_more : (v : ℕ) → v < length T → delivered p i (past i T v) ≡ with_new (delivered p i (past i T (suc v))) (done p i (past i T v))
  unfolding delivered
  delivered_more v there =
      ap (λ (l : List NoticeKind). delivered p i l) (past_next i T v there)
      ∙ ap (λ (l : List NoticeKind). with_new (delivered p i (past i T (suc v))) (done p i l)) (sym (past_next i T v there))

  delivers : (n v : ℕ) → v + n ≡ length T → u ≤ v → Delivered v
  delivers zero v size from = delivered_end v (omega (arith, size))
  delivers (suc n) v size from =
      let there : v < length T = omega (arith, size) in
      let before = delivers n (suc v) (omega (arith, size)) (omega (arith, from)) in
      let now = done_front p T i v test first (reads v from) (omega (arith, there)) in
      let both = merged T first test before.front now.0 before.there now.1 in
      record {
        front = both.0;
        there = both.1;
        is = delivered_more v there ∙ ap (λ l. with_new l (done p i (past i T v))) before.is
            ∙ ap (λ l. with_new (frames_by test (drop before.front T)) l) now.2 ∙ both.2;
      }

  -- the order begins with it
  pub delivered_first : u ≤ length T → (rest : List FrameParts) × (frames_by test T ≡ delivered p i (past i T u) ++ rest)
  delivered_first short =
      let d = delivers (length T - u) u (omega (arith, short)) (omega arith) in
      let s = segment T test d.front 0 d.front (omega arith) d.there in
      (s.part, s.is ∙ ap (λ l. l ++ s.part) (sym d.is))
