-- The tables of data frames and of confirmations after one notice more.
use Rattle.std.specs.Prelude.{nat_lt}
use Rattle.std.proofs.Common.{◌≡◌, ℕ, zero, suc, ◌<◌, ◌&&◌, ◌||◌, true, false, inl, inr, List, ◌∷◌, replicate, length, refl, ap, sym, ◌∙◌, arith, eq-eqb}
use Rattle.std.proofs.lemmas.Bool.{or_cases, false≢true}
use Rattle.std.proofs.lemmas.Bool.Decides.{nat_tests}
use Rattle.cany_base.specs.declared.class.Class.{Class}
use Rattle.cany_base.specs.declared.class.Class.TheVariants as class
use Rattle.cany_base.specs.declared.message.Service.TheVariants as service
use Rattle.cany_base.specs.declared.notice.Notice.{Notice}
use Rattle.cany_base.specs.declared.notice.NoticeKind.{NoticeKind}
use Rattle.cany_base.specs.declared.notice.NoticeKind.TheVariants.{Idle, Got, Sent, Bad}
use Rattle.cany_base.specs.Frame.{FrameParts}
use Rattle.cany_base.specs.Scenario.{ScenarioParts}
use Rattle.cany_diffuse.specs.Eager.{EagerParts, copies_of, IsFresh, IsLearnt, IsOwned}
use Rattle.cany_base.specs.Limits.{most_nodes, most_slots}
use Rattle.cany_message.specs.Numbers.{message_number, frame_number}
use Rattle.cany_message.proofs.HistoryFacts.{has_copy-counted, identity_is, is_not_this}
use Rattle.cany_message.proofs.NoticeFacts.{got_belongs}
use Rattle.cany_message.proofs.TableFacts.{IsOther, table_fresh, table_got, table_other, table_sent}
use Rattle.cany_model.specs.Bus.Frames.{identity_of, is_of, same_class}
use Rattle.cany_model.specs.Bus.History.{is_got}
use Rattle.cany_model.specs.Rules.Notices.{BelongsTo, IsNextNotice, NamesMessage}
use Rattle.cany_model.specs.Rules.Relcan.{confirm_of, has_confirm, has_copy}
use Rattle.cany_model.specs.Rules.Rooms.{sends_by}
use Rattle.cany_model.proofs.Bus.Identities.{same_identity-true}
use Rattle.cany_relcan.specs.Relcan.{AreTablesOf, data_identity, of_own, of_none}

-- the frame of a notice confirms a message of RELCAN
confirmation_names : (scenario : ScenarioParts) (slot : ℕ) (k : Class) (f : FrameParts) → k ≡ class.Confirm → BelongsTo scenario slot k f → NamesMessage scenario service.Rel f
confirmation_names scenario slot k f is belongs = rw is at belongs

pub confirm_names : (scenario : ScenarioParts) (past : List NoticeKind) (notice : Notice) (f : FrameParts) → IsNextNotice scenario past notice → notice.kind ≡ Got f → f.class ≡ class.Confirm
    → NamesMessage scenario service.Rel f
confirm_names scenario past notice f next kind is = confirmation_names scenario notice.slot f.class f is (got_belongs scenario past notice f next kind)

-- whether a confirmation was read
pub confirmed_is : (scenario : ScenarioParts) (i : ℕ) (past : List NoticeKind) (copies confirms : EagerParts) → AreTablesOf scenario i past copies confirms → (s o : ℕ) → o < most_nodes
    → nat_lt 0 (copies_of confirms (message_number s o)) ≡ has_confirm (data_identity s o) past
confirmed_is scenario i past copies confirms h s o near = ap (nat_lt 0) (h.confirmations.copies s o near) ∙ sym (has_copy-counted (confirm_of (data_identity s o)) past)

has_copy-idle : (f : FrameParts) (n : ℕ) → has_copy (identity_of f) (replicate n Idle) ≡ false
has_copy-idle f zero = refl
has_copy-idle f (suc n) = has_copy-idle f n

pub tables_fresh : (scenario : ScenarioParts) (i n omit room : ℕ) (copies confirms : EagerParts) → IsFresh omit room copies → IsFresh omit room confirms
    → omit ≡ scenario.params.omit → room ≡ sends_by scenario service.Rel
    → AreTablesOf scenario i (replicate n Idle) copies confirms
tables_fresh scenario i n omit room copies confirms copies_new confirms_new is_omit is_room = record {
  data_frames = table_fresh scenario service.Rel class.Rel (of_own i) n omit room copies copies_new is_omit is_room;
  confirmations = table_fresh scenario service.Rel class.Confirm of_none n omit room confirms confirms_new is_omit is_room;
  named = λ f rel h. absurd (false≢true (sym (has_copy-idle f n) ∙ h));
}

data_other : (f : FrameParts) → f.class ≡ class.Rel → same_class f.class class.Confirm ≡ false
unfolding same_class
data_other f is = rw is refl

confirmation_other : (f : FrameParts) → f.class ≡ class.Confirm → same_class f.class class.Rel ≡ false
unfolding same_class
confirmation_other f is = rw is refl

pub none_noted : (f : FrameParts) → (same_class f.class class.Confirm && false) ≡ false
none_noted f = grind (arith, nat_tests)

-- the message that a frame names, where another frame has the same name
named_too : (scenario : ScenarioParts) (f g : FrameParts) → g.number ≡ f.number → g.node ≡ f.node → NamesMessage scenario service.Rel f → NamesMessage scenario service.Rel g
named_too scenario f g number node named = record {
  message = named.message;
  stands = named.stands;
  sent_by = named.sent_by;
  number = named.number ∙ sym number;
  origin = named.origin ∙ sym node;
}

module _ (scenario : ScenarioParts) (i : ℕ) (past : List NoticeKind) (copies confirms : EagerParts) (h : AreTablesOf scenario i past copies confirms) where
  named_then : (f : FrameParts) → NamesMessage scenario service.Rel f
      → (g : FrameParts) → g.class ≡ class.Rel → has_copy (identity_of g) (Got f ∷ past) ≡ true → NamesMessage scenario service.Rel g
  named_then f named g rel copy = elim (or_cases (is_of (identity_of g) f) (has_copy (identity_of g) past) copy) [
    | inl here ↦
        let same = same_identity-true (identity_of g) (identity_of f) here in
        named_too scenario f g (λ k. (same k).number) (λ k. (same k).node) named
    | inr there ↦ h.named g rel there
  ]

  -- a frame of a message of RELCAN
  module _ (f : FrameParts) (small : f.node < most_nodes) (named : NamesMessage scenario service.Rel f) (new : EagerParts) where
    pub tables_got : f.class ≡ class.Rel → length past < most_slots → IsLearnt (frame_number f) copies new → AreTablesOf scenario i (Got f ∷ past) new confirms
    tables_got is short learnt = record {
      data_frames = table_got scenario service.Rel class.Rel (of_own i) f is small named past copies new h.data_frames short learnt;
      confirmations =
          table_other scenario service.Rel class.Confirm of_none (Got f) past confirms (data_other f is) h.confirmations;
      named = named_then f named;
    }

    pub tables_confirmed : f.class ≡ class.Confirm → length past < most_slots → IsLearnt (frame_number f) confirms new → AreTablesOf scenario i (Got f ∷ past) copies new
    tables_confirmed is short learnt = record {
      data_frames =
          table_other scenario service.Rel class.Rel (of_own i) (Got f) past copies (confirmation_other f is) h.data_frames;
      confirmations = table_got scenario service.Rel class.Confirm of_none f is small named past confirms new h.confirmations short learnt;
      named = named_then f named;
    }

    pub tables_sent : f.class ≡ class.Rel → f.node ≡ i → IsOwned (frame_number f) copies new → AreTablesOf scenario i (Sent f ∷ past) new confirms
    tables_sent is own owned = record {
      data_frames = table_sent scenario service.Rel class.Rel (of_own i) f is small named past copies new h.data_frames (eq-eqb f.node i own) owned;
      confirmations =
          table_other scenario service.Rel class.Confirm of_none (Sent f) past confirms (none_noted f) h.confirmations;
      named = h.named;
    }

  -- a notice of which nothing is noted
  pub tables_other : (notice : NoticeKind) → IsOther class.Rel (of_own i) notice → IsOther class.Confirm of_none notice → AreTablesOf scenario i (notice ∷ past) copies confirms
  tables_other notice no_data no_confirm = record {
    data_frames = table_other scenario service.Rel class.Rel (of_own i) notice past copies no_data h.data_frames;
    confirmations = table_other scenario service.Rel class.Confirm of_none notice past confirms no_confirm h.confirmations;
    named = λ f rel copy. h.named f rel (ap (λ b. b || has_copy (identity_of f) past) (sym (not_got notice no_data f rel)) ∙ copy);
  }
    where
      not_got : (notice : NoticeKind) → IsOther class.Rel (of_own i) notice → (g : FrameParts) → g.class ≡ class.Rel → is_got (identity_of g) notice ≡ false
      not_got Idle other g rel = refl
      not_got Bad other g rel = refl
      not_got (Sent f) other g rel = refl
      not_got (Got f) other g rel = ap (λ x. is_of x f) (identity_is class.Rel g rel) ∙ is_not_this class.Rel g.number g.node f other
