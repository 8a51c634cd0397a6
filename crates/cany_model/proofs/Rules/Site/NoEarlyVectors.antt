-- Of the vectors that a restarted node has read none is of a cycle before its first.
use Rattle.std.proofs.Common.{◌≡◌, ℕ, ◌<◌, inl, inr, false, List, [], ◌∷◌, map, drop, Some, refl, sym, ◌∙◌, subst}
use Rattle.std.specs.List.{AllByRecursion}
use Rattle.std.proofs.lemmas.Bool.{both_ways, cases_Bool, false_from_ne_true}
use Rattle.cany_base.specs.declared.notice.NoticeKind.{NoticeKind}
use Rattle.cany_base.specs.declared.notice.NoticeKind.TheVariants.{Idle, Got, Sent, Bad}
use Rattle.cany_base.specs.declared.slot_note.SlotNote.{SlotNote}
use Rattle.cany_base.specs.Frame.{FrameParts}
use Rattle.cany_model.specs.Bus.History.{as_seen, carries_early, given, is_hidden, seen}
use Rattle.cany_model.specs.Bus.State.{Incarnation}
use Rattle.cany_model.specs.Rules.Notices.{is_early, is_early_frame}
use Rattle.cany_model.proofs.Bus.Notes.{given-Got, given-Sent}
use Rattle.cany_model.proofs.Bus.Seen.{drop_seen, seen_idle, seen_plain, vector_hidden}

-- whether it carries one of an earlier cycle, its frame tells
pub carries_frame : (cycle : ℕ) (note : SlotNote) (f : FrameParts) → note.frame ≡ Some f → carries_early cycle note ≡ is_early_frame cycle f
carries_frame cycle note f frame = rw frame refl

-- of the vectors that it has read, none is of a cycle before its first
abbrev pub HearsNoEarly : Incarnation → List NoticeKind → Type 0
HearsNoEarly inc past = 0 < inc.number → AllByRecursion (λ e. is_early inc.cycle e ≡ false) past

given_early : (cycle i : ℕ) (note : SlotNote) (e : NoticeKind) → given i note ≡ e → carries_early cycle note ≡ false → is_early cycle e ≡ false
given_early cycle i note Idle is plain = refl
given_early cycle i note Bad is plain = refl
given_early cycle i note (Got f) is plain = sym (carries_frame cycle note f (given-Got i note f is).0) ∙ plain
given_early cycle i note (Sent f) is plain = sym (carries_frame cycle note f (given-Sent i note f is).0) ∙ plain

heard_early : (i : ℕ) (inc : Incarnation) (note : SlotNote) → 0 < inc.number → is_early inc.cycle (given i (as_seen inc note)) ≡ false
heard_early i inc note later = elim (cases_Bool (is_hidden inc note)) [
  | inl hidden ↦ rw (seen_idle i inc note hidden) refl
  | inr plain ↦
      rw (seen_plain inc note plain)
      (given_early inc.cycle i note (given i note) refl
      (false_from_ne_true (carries_early inc.cycle note) (λ early. both_ways (is_hidden inc note) plain (vector_hidden inc note later early))))
]

pub hears_no_early : (i : ℕ) (inc : Incarnation) (trace : List SlotNote) → HearsNoEarly inc (map (given i) (seen inc trace))
hears_no_early i inc [] later = tt
hears_no_early i inc (note ∷ trace) later = (heard_early i inc note later, hears_no_early i inc trace later)

pub hears_no_early_of : (i n : ℕ) (inc : Incarnation) (trace : List SlotNote) → HearsNoEarly inc (map (given i) (drop n (seen inc trace)))
hears_no_early_of i n inc trace = subst (λ t. HearsNoEarly inc (map (given i) t)) (sym (drop_seen n inc trace)) (hears_no_early i inc (drop n trace))
