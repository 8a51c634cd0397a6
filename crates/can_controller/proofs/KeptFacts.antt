-- What is true of the waiting frames stays true when a frame comes or goes.
use Rattle.std.proofs.Common.{◌≡◌, ℕ, ◌<◌, ◌≤◌, inl, inr, Bool, true, false, not, List, ◌∷◌, length, take, drop, set, filter, refl, ap, sym, ◌∙◌, arith}
use Rattle.std.specs.Prelude.{All, insert, remove, Result, Ok, Err, IsOk, is_ok, if◌then◌else◌}
use Rattle.std.proofs.lemmas.List.Edits.{length-insert, length-remove}
use Rattle.std.proofs.lemmas.List.{length-set}
use Rattle.std.proofs.lemmas.List.Elements.{All-cons, All-append, All-set, All-take, All-drop, All-filter}
use Rattle.cany_base.specs.declared.format.Format.{Format}
use Rattle.cany_base.specs.Frame.{FrameParts, identifier_of}
use Rattle.cany_model.specs.Bus.Frames.{Identity, identity_of, is_of}
use Rattle.cany_model.specs.Bus.Waiting.{waits, without}
use Rattle.can_frame.specs.Identifier.{FitsIdentifier}
use Rattle.can_controller.specs.Waiting.{IsKept, IsPlaceOf, IsGapFor, HasRoomFor, identity_number}
use Rattle.can_controller.proofs.AscendingFacts.{ascending-filter, ascending-insert, ascending-set}
use Rattle.can_controller.proofs.OrderFacts.{ascending_identifiers, waits_identity}
use Rattle.can_controller.proofs.PlaceFacts.{but_numbered, gap_others, none_numbered, place_removed}

pub kept-set : (format : Format) (frames : List FrameParts) (room capacity place : ℕ) (f : FrameParts) → IsKept format frames room capacity
    → FitsIdentifier format f → IsPlaceOf (identity_number format) (identity_number format f) place frames → IsKept format (set frames place f) room capacity
kept-set format frames room capacity place f kept fits at = record {
  fit = All-set (FitsIdentifier format) frames place f fits kept.fit;
  ascending = ascending-set (identity_number format) f frames place kept.ascending at.within (at.numbered f);
  in_room = omega (arith, kept.in_room, length-set frames place f);
  reserved = kept.reserved;
}

pub kept-insert : (format : Format) (frames : List FrameParts) (room capacity larger place : ℕ) (f : FrameParts) → IsKept format frames room capacity
    → capacity ≤ larger → FitsIdentifier format f → length frames < room → IsGapFor (identity_number format) (identity_number format f) place frames → IsKept format (insert frames place f) room larger
kept-insert format frames room capacity larger place f kept grown fits spare gap = record {
  fit =
      All-append (FitsIdentifier format) (take place frames) (f ∷ drop place frames) (All-take (FitsIdentifier format) place frames kept.fit)
      (All-cons (FitsIdentifier format) f (drop place frames) fits (All-drop (FitsIdentifier format) place frames kept.fit));
  ascending = ascending-insert (identity_number format) f frames place kept.ascending gap.within gap.before gap.after;
  in_room = omega (arith, length-insert frames place f gap.within);
  reserved = omega (arith, kept.reserved);
}

kept-filter : (format : Format) (frames : List FrameParts) (room capacity : ℕ) (p : FrameParts → Bool) → IsKept format frames room capacity
    → length (filter p frames) ≤ length frames → IsKept format (filter p frames) room capacity
kept-filter format frames room capacity p kept fewer = record {
  fit = All-filter p (FitsIdentifier format) frames kept.fit;
  ascending = ascending-filter (identity_number format) p frames kept.ascending;
  in_room = omega (arith, kept.in_room);
  reserved = kept.reserved;
}

pub kept-without : (format : Format) (frames : List FrameParts) (room capacity : ℕ) (x : Identity) → IsKept format frames room capacity
    → length (without x frames) ≤ length frames → IsKept format (without x frames) room capacity
kept-without format frames room capacity x kept fewer = kept-filter format frames room capacity (λ f. not (is_of x f)) kept fewer

pub kept-remove : (format : Format) (frames : List FrameParts) (room capacity ident place : ℕ) → IsKept format frames room capacity
    → IsPlaceOf (identifier_of format) ident place frames → IsKept format (remove frames place) room capacity
kept-remove format frames room capacity ident place kept at =
    let up = ascending_identifiers format frames kept.fit kept.ascending in
    let e : but_numbered (identifier_of format) ident frames ≡ remove frames place = place_removed (identifier_of format) ident frames place up at in
    let fewer : length (remove frames place) ≤ length frames = omega (arith, length-remove frames place at.within) in
    rw (← e)
    (kept-filter format frames room capacity _ kept (omega (arith, fewer, ap length e)))

clash : (b : Bool) → b ≡ true → b ≡ false → ⊥
clash b passed failed = cc

-- where no frame of its identity waits there is room for one more
pub gap_spare : (format : Format) (frames : List FrameParts) (room place : ℕ) (f : FrameParts) → All (FitsIdentifier format) frames → FitsIdentifier format f
    → HasRoomFor f frames room → IsGapFor (identity_number format) (identity_number format f) place frames → length frames < room
gap_spare format frames room place f all fits has_room gap =
    elim has_room [
      | inl spare ↦ spare
      | inr there ↦
          let none : waits (identity_of f) frames ≡ false = sym (waits_identity format f frames fits all) ∙ none_numbered (identity_number format) (identity_number format f) frames (gap_others (identity_number format) (identity_number format f) place frames gap) in
          absurd (clash (waits (identity_of f) frames) there none)
    ]

-- what `insert` leaves where it succeeds
pub inserted : {T E X : Type 0} (r : Result T E) (xs ys : List X) → IsOk r → (if is_ok r then xs else ys) ≡ xs
inserted (Ok x) xs ys succeeds = refl
inserted (Err e) xs ys succeeds = cc
