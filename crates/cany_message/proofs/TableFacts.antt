-- A table after one notice more.
use Rattle.std.proofs.Common.{◌≡◌, ℕ, ◌+◌, ◌<◌, ◌==◌, ◌&&◌, Bool, true, false, if◌then◌else◌, List, ◌∷◌, length, replicate, refl, ap, sym, ◌∙◌, arith}
use Rattle.std.proofs.lemmas.Bool.{false≢true}
use Rattle.std.proofs.lemmas.Bool.Decides.{nat_tests}
use Rattle.cany_base.specs.declared.class.Class.{Class}
use Rattle.cany_base.specs.declared.message.Service.{Service}
use Rattle.cany_base.specs.declared.notice.NoticeKind.{NoticeKind}
use Rattle.cany_base.specs.declared.notice.NoticeKind.TheVariants.{Idle, Got, Sent, Bad}
use Rattle.cany_base.specs.Frame.{FrameParts}
use Rattle.cany_base.specs.Scenario.{ScenarioParts}
use Rattle.cany_diffuse.specs.Eager.{EagerParts, is_there, is_among, IsFresh, IsPut, IsLearnt, IsOwned}
use Rattle.cany_model.specs.Bus.Frames.{is_of, same_class}
use Rattle.cany_model.specs.Bus.History.{copies, is_got, is_sent}
use Rattle.cany_model.specs.Rules.Notices.{NamesMessage}
use Rattle.cany_model.specs.Rules.Rooms.{sends_by}
use Rattle.cany_model.proofs.Bus.Identities.{same_class-true}
use Rattle.cany_base.specs.Limits.{most_nodes, most_slots}
use Rattle.cany_message.specs.Numbers.{message_number, message_numbers, frame_number}
use Rattle.cany_message.specs.Table.{IsTableOf, CanTake, frame_identity}
use Rattle.cany_message.proofs.HistoryFacts.{is_this, is_not_this, copies-yes, copies-no, has_own-more, copies-few, copies-idle, has_own-idle}
use Rattle.cany_message.proofs.NumberFacts.{same_number, named_among, length-message_numbers}

-- a notice of which nothing is noted in a table of the class
abbrev pub IsOther : Class → (ℕ → Bool) → NoticeKind → Type 0
IsOther class notes Idle = Unit {0}
IsOther class notes Bad = Unit {0}
IsOther class notes (Got f) = same_class f.class class ≡ false
IsOther class notes (Sent f) = (same_class f.class class && notes f.node) ≡ false

module _ (scenario : ScenarioParts) (by : Service) (class : Class) (notes : ℕ → Bool) where
  pub table_fresh : (n omit room : ℕ) (table : EagerParts) → IsFresh omit room table → omit ≡ scenario.params.omit → room ≡ sends_by scenario by
      → IsTableOf scenario by class notes (replicate n Idle) table
  table_fresh n omit room table fresh omit_is room_is = record {
    omit = fresh.omit ∙ omit_is;
    room = fresh.room ∙ room_is;
    copies = λ s o _. fresh.copies (message_number s o) ∙ sym (copies-idle (frame_identity class s o) n);
    owned = λ s o _. grind (arith, nat_tests, fresh.owned (message_number s o), has_own-idle (frame_identity class s o) n);
    there = λ number. fresh.there number ∙ sym (rw (fresh.copies number, fresh.owned number) refl);
    messages = λ number h. absurd (false≢true (sym (fresh.there number) ∙ h));
  }

  pub can_take : (past : List NoticeKind) (table : EagerParts) (f : FrameParts) → IsTableOf scenario by class notes past table
      → NamesMessage scenario by f → CanTake (frame_number f) table
  can_take past table f h named = record {
    numbers = message_numbers scenario by;
    room = omega (arith, length-message_numbers scenario by, h.room);
    all = h.messages;
    this = named_among scenario by f named;
  }

  -- the numbers that are there after one is put in
  messages_put : (f : FrameParts) (old new : EagerParts) → NamesMessage scenario by f → IsPut (frame_number f) old new
      → ((number : ℕ) → is_there old number ≡ true → is_among number (message_numbers scenario by) ≡ true)
      → (number : ℕ) → is_there new number ≡ true → is_among number (message_numbers scenario by) ≡ true
  messages_put f old new named put before number h =
      grind (arith, nat_tests, before number, h, put.there number, ap (λ n. is_among n (message_numbers scenario by)), named_among scenario by f named)

  -- a frame of the class
  module _ (f : FrameParts) (is : f.class ≡ class) (small : f.node < most_nodes) (named : NamesMessage scenario by f)
      (past : List NoticeKind) (old new : EagerParts) (h : IsTableOf scenario by class notes past old) where
    this : (s o : ℕ) → o < most_nodes → (message_number s o == frame_number f) ≡ is_of (frame_identity class s o) f
    this s o near = same_number s o f.number f.node near small ∙ sym (is_this class s o f is)

    copies_then : (s o : ℕ) → copies (frame_identity class s o) (Got f ∷ past)
        ≡ (if is_of (frame_identity class s o) f then copies (frame_identity class s o) past + 1 else copies (frame_identity class s o) past)
    copies_then s o = grind (arith, nat_tests, copies-yes (frame_identity class s o) (Got f) past, copies-no (frame_identity class s o) (Got f) past)

    -- a copy of it
    pub table_got : length past < most_slots → IsLearnt (frame_number f) old new → IsTableOf scenario by class notes (Got f ∷ past) new
    table_got short learnt = record {
      omit = learnt.put.omit ∙ h.omit;
      room = learnt.put.room ∙ h.room;
      copies = λ s o near.
          grind (arith, nat_tests, learnt.copies (message_number s o), this s o near, h.copies s o near, copies_then s o, copies-few (frame_identity class s o) past, short);
      owned = λ s o near. grind (arith, nat_tests, learnt.owned (message_number s o), h.owned s o near, has_own-more (frame_identity class s o) (Got f) past);
      there = λ number. grind (arith, nat_tests, learnt.put.there number, h.there number, learnt.copies number, learnt.owned number);
      messages = messages_put f old new named learnt.put h.messages;
    }

    noted : (s o : ℕ) → notes f.node ≡ true → is_of (frame_identity class s o) f ≡ true → notes o ≡ true
    noted s o notes_it same = grind (arith, nat_tests, is_this class s o f is, same, notes_it)

    -- the node's own transmission of it
    pub table_sent : notes f.node ≡ true → IsOwned (frame_number f) old new
        → IsTableOf scenario by class notes (Sent f ∷ past) new
    table_sent notes_it owned = record {
      omit = owned.put.omit ∙ h.omit;
      room = owned.put.room ∙ h.room;
      copies = λ s o near. owned.copies (message_number s o) ∙ h.copies s o near ∙ sym (copies-no (frame_identity class s o) (Sent f) past refl);
      owned = λ s o near.
          grind (arith, nat_tests, owned.owned (message_number s o), this s o near, h.owned s o near, has_own-more (frame_identity class s o) (Sent f) past, noted s o notes_it);
      there = λ number. grind (arith, nat_tests, owned.put.there number, h.there number, owned.copies number, owned.owned number);
      messages = messages_put f old new named owned.put h.messages;
    }

  -- a notice of which nothing is noted
  table_same : (notice : NoticeKind) (past : List NoticeKind) (table : EagerParts)
      → ((s o : ℕ) → is_got (frame_identity class s o) notice ≡ false) → ((s o : ℕ) → (notes o && is_sent (frame_identity class s o) notice) ≡ false)
      → IsTableOf scenario by class notes past table → IsTableOf scenario by class notes (notice ∷ past) table
  table_same notice past table got sent h = record {
    omit = h.omit;
    room = h.room;
    copies = λ s o near. h.copies s o near ∙ sym (copies-no (frame_identity class s o) notice past (got s o));
    owned = λ s o near. grind (arith, nat_tests, h.owned s o near, has_own-more (frame_identity class s o) notice past, sent s o);
    there = h.there;
    messages = h.messages;
  }

  not_noted : (f : FrameParts) (s o : ℕ) → (same_class f.class class && notes f.node) ≡ false → (notes o && is_of (frame_identity class s o) f) ≡ false
  not_noted f s o other =
      let named : same_class f.class class ≡ true → is_of (frame_identity class s o) f ≡ (s == f.number && o == f.node) =
      λ is. is_this class s o f (same_class-true f.class class is) in
      grind (arith, nat_tests, other, is_not_this class s o f, named)

  none : (s o : ℕ) → (notes o && false) ≡ false
  none s o = grind (arith, nat_tests)

  pub table_other : (notice : NoticeKind) (past : List NoticeKind) (table : EagerParts) → IsOther class notes notice
      → IsTableOf scenario by class notes past table → IsTableOf scenario by class notes (notice ∷ past) table
  table_other Idle past table other h = table_same Idle past table (λ s o. refl) none h
  table_other Bad past table other h = table_same Bad past table (λ s o. refl) none h
  table_other (Got f) past table other h = table_same (Got f) past table (λ s o. is_not_this class s o f other) none h
  table_other (Sent f) past table other h = table_same (Sent f) past table (λ s o. refl) (λ s o. not_noted f s o other) h
