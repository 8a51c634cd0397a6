-- What is noted of acceptances after one notice more.
use Rattle.std.proofs.Common.{◌≡◌, ℕ, ◌+◌, ◌<◌, ◌≤◌, ◌||◌, true, false, if◌then◌else◌, inl, inr, Bool, List, [], ◌∷◌, length, replicate, Some, None, refl, ap, sym, ◌∙◌, arith}
use Rattle.std.proofs.lemmas.Bool.{cases_Bool, false≢true, false_from_ne_true}
use Rattle.std.proofs.lemmas.Bool.Decides.{nat_tests}
use Rattle.cany_base.specs.declared.class.Class.TheVariants as class
use Rattle.cany_base.specs.declared.message.MsgKey.{MsgKey}
use Rattle.cany_base.specs.declared.notice.NoticeKind.{NoticeKind}
use Rattle.cany_base.specs.declared.notice.NoticeKind.TheVariants.{Idle, Got, Sent, Bad}
use Rattle.cany_base.specs.Frame.{FrameParts}
use Rattle.cany_base.specs.Limits.{most_slots}
use Rattle.cany_diffuse.specs.Eager.{raised}
use Rattle.cany_message.proofs.HistoryFacts.{copies-few, copies-no, copies-yes, has_own-more, is_not_this, is_this}
use Rattle.cany_model.specs.Bus.Frames.{Identity, is_of, same_class}
use Rattle.cany_model.specs.Bus.History.{copies, has_own, is_got, is_sent}
use Rattle.cany_model.specs.Rules.Messages.{accept_of_key}
use Rattle.cany_model.specs.Rules.Totcan.{after_place, holds, is_recent, message_in, tot_in}
use Rattle.cany_totcan.specs.declared.queue.Noted.{Noted}
use Rattle.cany_totcan.specs.declared.queue.Open.{Open}
use Rattle.cany_totcan.specs.Acceptances.{IsNoted, forgotten, noted_of, nothing, with_copy, with_own}
use Rattle.cany_totcan.specs.Totcan.{AreAcceptances, key_of}
use Rattle.cany_totcan.proofs.AcceptedFacts.{after_held, after_other}
use Rattle.cany_totcan.proofs.PlaceFacts.{holds-none, holds-some, is_of_key, is_of_key-true, recent_more, recent_weaker}

abbrev pub accept_id : (seq origin : ℕ) → Identity
accept_id seq origin = accept_of_key (key_of seq origin)

-- ---- lists

pub length-after_place : (key : MsgKey) (past : List NoticeKind) → length (after_place key past) ≤ length past
unfolding after_place
length-after_place key [] = omega arith
length-after_place key (notice ∷ before) = elim (cases_Bool (holds key notice)) [
  | inl here ↦ rw here (omega arith)
  | inr other ↦ rw other (omega (arith, length-after_place key before))
]

copies-empty : (s o : ℕ) → copies (accept_id s o) [] ≡ 0
unfolding copies
copies-empty s o = refl

has_own-empty : (s o : ℕ) → has_own (accept_id s o) [] ≡ false
unfolding has_own
has_own-empty s o = refl

-- a frame that carries a message accepts none
pub not_accepting : (f : FrameParts) → f.class ≡ class.Tot → same_class f.class class.Accept ≡ false
unfolding same_class
not_accepting f is = rw is refl

pub not_carrying : (f : FrameParts) → f.class ≡ class.Accept → same_class f.class class.Tot ≡ false
unfolding same_class
not_carrying f is = rw is refl

-- ---- notices that say nothing of open messages

-- the notice does not accept an open message
pub record AcceptsNone (newest : ℕ) (notice : NoticeKind) (before : List NoticeKind) : Type 0 where
  pub got : (s o : ℕ) → is_recent newest (key_of s o) before ≡ true → is_got (accept_id s o) notice ≡ false
  pub sent : (s o : ℕ) → is_recent newest (key_of s o) before ≡ true → is_sent (accept_id s o) notice ≡ false

pub accepts_none-idle : (newest : ℕ) (before : List NoticeKind) → AcceptsNone newest Idle before
accepts_none-idle newest before = record { got = λ s o recent. refl; sent = λ s o recent. refl }

pub accepts_none-bad : (newest : ℕ) (before : List NoticeKind) → AcceptsNone newest Bad before
accepts_none-bad newest before = record { got = λ s o recent. refl; sent = λ s o recent. refl }

pub accepts_none-got : (newest : ℕ) (f : FrameParts) (before : List NoticeKind) → same_class f.class class.Accept ≡ false → AcceptsNone newest (Got f) before
accepts_none-got newest f before other = record { got = λ s o recent. is_not_this class.Accept s o f other; sent = λ s o recent. refl }

pub accepts_none-sent : (newest : ℕ) (f : FrameParts) (before : List NoticeKind) → same_class f.class class.Accept ≡ false → AcceptsNone newest (Sent f) before
accepts_none-sent newest f before other = record { got = λ s o recent. refl; sent = λ s o recent. is_not_this class.Accept s o f other }

-- nor does a frame that accepts a closed message
module _ (newest : ℕ) (f : FrameParts) (before : List NoticeKind) (is : f.class ≡ class.Accept) (closed : is_recent newest (message_in f) before ≡ false) where
  of_other : (s o : ℕ) → is_recent newest (key_of s o) before ≡ true → is_of (accept_id s o) f ≡ false
  of_other s o recent = false_from_ne_true (is_of (accept_id s o) f) (λ here.
      let this : is_of_key (key_of s o) f ≡ true = sym (is_this class.Accept s o f is) ∙ here in
      false≢true (sym closed ∙ ap (λ k. is_recent newest k before) (sym (is_of_key-true (key_of s o) f this)) ∙ recent))

  pub accepts_none-got_closed : AcceptsNone newest (Got f) before
  accepts_none-got_closed = record { got = of_other; sent = λ s o recent. refl }

  pub accepts_none-sent_closed : AcceptsNone newest (Sent f) before
  accepts_none-sent_closed = record { got = λ s o recent. refl; sent = of_other }

-- ---- what is noted

pub acceptances_fresh : (newest n : ℕ) (entries : List Open) → ((key : MsgKey) → is_recent newest key (replicate n Idle) ≡ false)
    → AreAcceptances newest (replicate n Idle) entries
acceptances_fresh newest n entries none = record {
  copies = λ key recent. absurd (false≢true (sym (none key) ∙ recent));
  owned = λ key recent. absurd (false≢true (sym (none key) ∙ recent));
}

-- of fewer notices, where the messages that are open still have the same
pub acceptances_fewer : (n m : ℕ) (past : List NoticeKind) (old new : List Open) → n ≤ m
    → ((key : MsgKey) → is_recent n key past ≡ true → noted_of new key ≡ noted_of old key) → AreAcceptances m past old → AreAcceptances n past new
acceptances_fewer n m past old new fewer same h = record {
  copies = λ key recent. ap (λ (x : Noted). x.copies) (same key recent) ∙ h.copies key (recent_weaker n m key past fewer recent);
  owned = λ key recent. ap (λ (x : Noted). x.owned) (same key recent) ∙ h.owned key (recent_weaker n m key past fewer recent);
}

module _ (n : ℕ) (before : List NoticeKind) (old : List Open) (h : AreAcceptances n before old) where
  -- a notice that brings no data frame moves no place
  module _ (notice : NoticeKind) (none : tot_in notice ≡ None) where
    recent_before : (key : MsgKey) → is_recent (n + 1) key (notice ∷ before) ≡ true → is_recent n key before ≡ true
    recent_before key recent =
        sym (recent_more n key notice before ∙ ap (λ b. b || is_recent n key before) (holds-none key notice none)) ∙ recent

    after_is : (key : MsgKey) → after_place key (notice ∷ before) ≡ notice ∷ after_place key before
    after_is key = after_other key notice before (holds-none key notice none)

    pub acceptances_same : AcceptsNone n notice before → AreAcceptances (n + 1) (notice ∷ before) old
    acceptances_same other = record {
      copies = λ key recent.
          let was = recent_before key recent in
          h.copies key was
          ∙ sym (ap (copies (accept_of_key key)) (after_is key) ∙ copies-no (accept_of_key key) notice (after_place key before) (other.got key.seq key.origin was));
      owned = λ key recent.
          let was = recent_before key recent in
          h.owned key was
          ∙ sym (ap (has_own (accept_of_key key)) (after_is key) ∙ has_own-more (accept_of_key key) notice (after_place key before)
          ∙ ap (λ b. b || has_own (accept_of_key key) (after_place key before)) (other.sent key.seq key.origin was));
    }

  -- a frame that accepts a message
  module _ (f : FrameParts) (new : List Open) (is : f.class ≡ class.Accept) where
    this : (key : MsgKey) → is_of_key key f ≡ is_of (accept_of_key key) f
    this key = sym (is_this class.Accept key.seq key.origin f is)

    copies_then : (key : MsgKey) (past : List NoticeKind) → copies (accept_of_key key) (Got f ∷ past)
        ≡ (if is_of (accept_of_key key) f then copies (accept_of_key key) past + 1 else copies (accept_of_key key) past)
    copies_then key past = grind (arith, nat_tests, copies-yes (accept_of_key key) (Got f) past, copies-no (accept_of_key key) (Got f) past)

    -- the count does not stand still
    raised_is : (key : MsgKey) (past : List NoticeKind) → length past < most_slots → raised (copies (accept_of_key key) past) ≡ copies (accept_of_key key) past + 1
    raised_is key past short = grind (arith, nat_tests, copies-few (accept_of_key key) past, short)

    copies_counted : (key : MsgKey) (past : List NoticeKind) (b : Bool) → length past < most_slots
        → (noted_of old key).copies ≡ copies (accept_of_key key) past
        → (if b then with_copy (noted_of old key) else noted_of old key).copies ≡ (if b then copies (accept_of_key key) past + 1 else copies (accept_of_key key) past)
    copies_counted key past true short was = ap raised was ∙ raised_is key past short
    copies_counted key past false short was = was

    owned_counted : (b : Bool) (x : Noted) → (if b then with_copy x else x).owned ≡ x.owned
    owned_counted true x = refl
    owned_counted false x = refl

    pub acceptances_learnt : tot_in (Got f) ≡ None → length before < most_slots → IsNoted with_copy (message_in f) old new
        → AreAcceptances (n + 1) (Got f ∷ before) new
    acceptances_learnt none short learnt = record {
      copies = λ key recent.
          let past : List NoticeKind = after_place key before in
          let few : length past < most_slots = omega (arith, length-after_place key before, short) in
          ap (λ (x : Noted). x.copies) (learnt.noted key)
          ∙ copies_counted key past (is_of_key key f) few (h.copies key (recent_before (Got f) none key recent))
          ∙ ap (λ b. if b then copies (accept_of_key key) past + 1 else copies (accept_of_key key) past) (this key)
          ∙ sym (ap (copies (accept_of_key key)) (after_is (Got f) none key) ∙ copies_then key past);
      owned = λ key recent.
          ap (λ (x : Noted). x.owned) (learnt.noted key)
          ∙ owned_counted (is_of_key key f) (noted_of old key)
          ∙ h.owned key (recent_before (Got f) none key recent)
          ∙ sym (ap (has_own (accept_of_key key)) (after_is (Got f) none key) ∙ has_own-more (accept_of_key key) (Got f) (after_place key before));
    }

    copies_owned : (b : Bool) (x : Noted) → (if b then with_own x else x).copies ≡ x.copies
    copies_owned true x = refl
    copies_owned false x = refl

    owned_owned : (b : Bool) (x : Noted) → (if b then with_own x else x).owned ≡ (b || x.owned)
    owned_owned true x = refl
    owned_owned false x = refl

    pub acceptances_owned : tot_in (Sent f) ≡ None → IsNoted with_own (message_in f) old new → AreAcceptances (n + 1) (Sent f ∷ before) new
    acceptances_owned none owned = record {
      copies = λ key recent.
          ap (λ (x : Noted). x.copies) (owned.noted key)
          ∙ copies_owned (is_of_key key f) (noted_of old key)
          ∙ h.copies key (recent_before (Sent f) none key recent)
          ∙ sym (ap (copies (accept_of_key key)) (after_is (Sent f) none key) ∙ copies-no (accept_of_key key) (Sent f) (after_place key before) refl);
      owned = λ key recent.
          ap (λ (x : Noted). x.owned) (owned.noted key)
          ∙ owned_owned (is_of_key key f) (noted_of old key)
          ∙ ap (λ b. b || (noted_of old key).owned) (this key)
          ∙ ap (λ b. is_of (accept_of_key key) f || b) (h.owned key (recent_before (Sent f) none key recent))
          ∙ sym (ap (has_own (accept_of_key key)) (after_is (Sent f) none key) ∙ has_own-more (accept_of_key key) (Sent f) (after_place key before));
    }

  -- a data frame, whose message is accepted by what is read from now on
  module _ (f : FrameParts) (notice : NoticeKind) (new : List Open) (brings : tot_in notice ≡ Some f) (other : AcceptsNone n notice before)
      (gone : IsNoted forgotten (message_in f) old new) where
    recent_still : (key : MsgKey) → holds key notice ≡ false → is_recent (n + 1) key (notice ∷ before) ≡ true → is_recent n key before ≡ true
    recent_still key apart recent = sym (recent_more n key notice before ∙ ap (λ b. b || is_recent n key before) apart) ∙ recent

    noted_then : (key : MsgKey) (b : Bool) → holds key notice ≡ b → noted_of new key ≡ (if b then nothing else noted_of old key)
    noted_then key b is = gone.noted key ∙ ap (λ b. if b then nothing else noted_of old key) (sym (holds-some key notice f brings) ∙ is)

    -- so each part of what is noted is what is read of it since the place, where it is so before
    -- the notice, which changes nothing of it
    part_moved : {X : Type 0} (part : Noted → X) (read : Identity → List NoticeKind → X)
        → ((key : MsgKey) → read (accept_of_key key) [] ≡ part nothing)
        → ((key : MsgKey) → is_recent n key before ≡ true → part (noted_of old key) ≡ read (accept_of_key key) (after_place key before))
        → ((key : MsgKey) → is_recent n key before ≡ true
        → read (accept_of_key key) (notice ∷ after_place key before) ≡ read (accept_of_key key) (after_place key before))
        → (key : MsgKey) → is_recent (n + 1) key (notice ∷ before) ≡ true
        → part (noted_of new key) ≡ read (accept_of_key key) (after_place key (notice ∷ before))
    part_moved part read empty is still key recent = elim (cases_Bool (holds key notice)) [
      | inl here ↦
          ap part (noted_then key true here)
          ∙ sym (ap (read (accept_of_key key)) (after_held key notice before here) ∙ empty key)
      | inr apart ↦
          let was = recent_still key apart recent in
          ap part (noted_then key false apart)
          ∙ is key was
          ∙ sym (ap (read (accept_of_key key)) (after_other key notice before apart) ∙ still key was)
    ]

    pub acceptances_moved : AreAcceptances (n + 1) (notice ∷ before) new
    acceptances_moved = record {
      copies =
          part_moved (λ (x : Noted). x.copies) copies (λ key. copies-empty key.seq key.origin) h.copies
          (λ key was. copies-no (accept_of_key key) notice (after_place key before) (other.got key.seq key.origin was));
      owned =
          part_moved (λ (x : Noted). x.owned) has_own (λ key. has_own-empty key.seq key.origin) h.owned
          (λ key was.
          has_own-more (accept_of_key key) notice (after_place key before)
          ∙ ap (λ b. b || has_own (accept_of_key key) (after_place key before)) (other.sent key.seq key.origin was));
    }
