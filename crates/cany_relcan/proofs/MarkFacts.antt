-- The messages for which the node fell back, as they are marked.
use Rattle.std.specs.Prelude.{IfSome}
use Rattle.std.proofs.Common.{◌≡◌, ℕ, ◌<◌, ◌==◌, ◌&&◌, ◌||◌, Bool, true, false, not, inl, inr, List, replicate, Option, Some, None, refl, ap, sym, ◌∙◌, arith}
use Rattle.std.proofs.lemmas.Bool.{and_parts, eqb-true, false≢true, or_cases}
use Rattle.std.proofs.lemmas.Bool.Decides.{nat_tests}
use Rattle.cany_base.specs.declared.class.Class.TheVariants as class
use Rattle.cany_base.specs.declared.message.Service.TheVariants as service
use Rattle.cany_base.specs.declared.notice.NoticeKind.{NoticeKind}
use Rattle.cany_base.specs.declared.notice.NoticeKind.TheVariants.{Idle}
use Rattle.cany_base.specs.Frame.{FrameParts}
use Rattle.cany_base.specs.Limits.{most_nodes}
use Rattle.cany_base.specs.Scenario.{ScenarioParts}
use Rattle.cany_diffuse.specs.Eager.{EagerParts, is_among, is_held, is_there, IsFresh, IsOwned}
use Rattle.cany_message.specs.Numbers.{frame_number, message_number, message_numbers}
use Rattle.cany_message.specs.Table.{CanTake}
use Rattle.cany_message.proofs.HistoryFacts.{identity_is, is_this}
use Rattle.cany_message.proofs.NumberFacts.{length-message_numbers, named_among, same_number}
use Rattle.cany_model.specs.Bus.Frames.{identity_of, is_of}
use Rattle.cany_model.specs.Rules.Notices.{NamesMessage}
use Rattle.cany_model.specs.Rules.Relcan.{has_confirm}
use Rattle.cany_model.specs.Rules.Rooms.{sends_by}
use Rattle.cany_model.proofs.Bus.Identities.{same_identity-true}
use Rattle.cany_relcan.specs.Relcan.{AreMarksOf, AreTablesOf, data_identity}
use Rattle.cany_relcan.specs.RelcanSteps.{AreMarksAfter, falls, is_confirmed}
use Rattle.cany_relcan.proofs.TablesFacts.{confirmed_is}
use Rattle.cany_relcan.proofs.TimerFacts.{falls_with, fell_back-idle}

pub marks_fresh : (scenario : ScenarioParts) (i n omit room : ℕ) (fallen : EagerParts) → IsFresh omit room fallen → room ≡ sends_by scenario service.Rel
    → AreMarksOf scenario i (replicate n Idle) fallen
marks_fresh scenario i n omit room fallen fresh is = record {
  room = fresh.room ∙ is;
  held = λ s o _. (rw (fresh.copies (message_number s o), fresh.owned (message_number s o)) refl) ∙ sym (fell_back-idle scenario.params.confirm i (data_identity s o) n);
  messages = λ number h. absurd (false≢true (sym (fresh.there number) ∙ h));
}

-- ---- what is marked after a timer

pub marked_none : (confirms fallen : EagerParts) → AreMarksAfter None confirms fallen fallen
marked_none confirms fallen = record { room = refl; held = λ _. refl; there = λ _. refl }

pub marked_confirmed : (f : FrameParts) (confirms fallen : EagerParts) → is_confirmed confirms f ≡ true → AreMarksAfter (Some f) confirms fallen fallen
marked_confirmed f confirms fallen is = record {
  room = refl;
  held = λ number. none (number == frame_number f) (is_confirmed confirms f) (is_held fallen number) is;
  there = λ number. none (number == frame_number f) (is_confirmed confirms f) (is_there fallen number) is;
}
  where
    none : (same confirmed before : Bool) → confirmed ≡ true → before ≡ ((same && not confirmed) || before)
    none same confirmed before at = grind (arith, nat_tests, at)

pub marked_now : (f : FrameParts) (confirms old new : EagerParts) → is_confirmed confirms f ≡ false → IsOwned (frame_number f) old new → AreMarksAfter (Some f) confirms old new
marked_now f confirms old new is owned = record {
  room = owned.put.room;
  held = λ number. grind (arith, nat_tests, is, owned.copies number, owned.owned number);
  there = λ number. grind (arith, nat_tests, is, owned.put.there number);
}

-- ---- the marks of a history

-- there is room for the message of a frame
pub can_mark : (scenario : ScenarioParts) (i : ℕ) (past : List NoticeKind) (fallen : EagerParts) (f : FrameParts) → AreMarksOf scenario i past fallen
    → NamesMessage scenario service.Rel f → CanTake (frame_number f) fallen
can_mark scenario i past fallen f h named = record {
  numbers = message_numbers scenario service.Rel;
  room = omega (arith, length-message_numbers scenario service.Rel, h.room);
  all = h.messages;
  this = named_among scenario service.Rel f named;
}

module _ (scenario : ScenarioParts) (i : ℕ) (past : List NoticeKind) (copies confirms : EagerParts) (h : AreTablesOf scenario i past copies confirms) where
  same_confirm : (s o : ℕ) (f : FrameParts) → f.class ≡ class.Rel → is_of (data_identity s o) f ≡ true → has_confirm (data_identity s o) past ≡ has_confirm (data_identity f.number f.node) past
  same_confirm s o f rel is = ap (λ x. has_confirm x past) (same_identity-true (data_identity s o) (identity_of f) is ∙ identity_is class.Rel f rel)

  -- whose message it is for which the node falls back
  pub falls_is : (due : Option FrameParts) → IfSome due (λ f. f.node < most_nodes) → ((f : FrameParts) → due ≡ Some f → f.class ≡ class.Rel) → (s o : ℕ) → o < most_nodes
      → falls due confirms (message_number s o) ≡ falls_with due (data_identity s o) (has_confirm (data_identity s o) past)
  falls_is None small rels s o near = refl
  falls_is (Some f) small rels s o near =
      let rel = rels f refl in
      grind (
        arith,
        nat_tests,
        same_number s o f.number f.node near small,
        is_this class.Rel s o f rel,
        confirmed_is scenario i past copies confirms h f.number f.node small,
        same_confirm s o f rel,
      )

-- what is there after a timer is of messages of the scenario
pub there_after : (scenario : ScenarioParts) (due : Option FrameParts) (confirms old new : EagerParts) → AreMarksAfter due confirms old new
    → ((f : FrameParts) → due ≡ Some f → NamesMessage scenario service.Rel f)
    → ((number : ℕ) → is_there old number ≡ true → is_among number (message_numbers scenario service.Rel) ≡ true)
    → (number : ℕ) → is_there new number ≡ true → is_among number (message_numbers scenario service.Rel) ≡ true
there_after scenario due confirms old new after names before number is =
    elim (or_cases (falls due confirms number) (is_there old number) (sym (after.there number) ∙ is)) [
      | inl now ↦ fallen due now names
      | inr there ↦ before number there
    ]
  where
    fallen : (due : Option FrameParts) → falls due confirms number ≡ true → ((f : FrameParts) → due ≡ Some f → NamesMessage scenario service.Rel f)
        → is_among number (message_numbers scenario service.Rel) ≡ true
    fallen None now names = absurd (false≢true now)
    fallen (Some f) now names =
        let same : number ≡ frame_number f = eqb-true number (frame_number f) (and_parts (number == frame_number f) (not (is_confirmed confirms f)) now).0 in
        ap (λ n. is_among n (message_numbers scenario service.Rel)) same ∙ named_among scenario service.Rel f (names f refl)
