-- What each notice has that a node has read, in its slot: by the slots of the trace, as its
-- incarnation sees them.
use Rattle.std.proofs.Common.{◌≡◌, ℕ, zero, suc, List, [], ◌∷◌, map, drop, length, Contains, ap, sym, ◌∙◌, subst}
use Rattle.std.proofs.lemmas.List.{length-map}
use Rattle.cany_base.specs.declared.notice.NoticeKind.{NoticeKind}
use Rattle.cany_base.specs.declared.slot_note.SlotNote.{SlotNote}
use Rattle.cany_model.specs.Bus.History.{as_seen, given, history, seen}
use Rattle.cany_model.specs.Bus.State.{Incarnation, RunState, node_at}
use Rattle.cany_model.proofs.Among.{Among-drop, Among-from_Contains, Contains-cons, Contains-from_Among, Contains-head}
use Rattle.cany_model.proofs.Bus.Seen.{Numbered, drop_seen, history-is, length-seen, numbered_drop}

-- each of these notices, newest first, in its slot
abbrev pub EachRead : (ℕ → NoticeKind → Type 0) → List NoticeKind → Type 0
EachRead P [] = Unit {0}
EachRead P (e ∷ past) = P (length past) e × EachRead P past

pub each_of_trace : (P : ℕ → NoticeKind → Type 0) (i : ℕ) (inc : Incarnation) (trace : List SlotNote) → Numbered trace
    → ((note : SlotNote) → Contains trace note → P note.slot (given i (as_seen inc note))) → EachRead P (map (given i) (seen inc trace))
each_of_trace P i inc [] numbered h = tt
each_of_trace P i inc (note ∷ trace) numbered h = (
  subst (λ n. P n (given i (as_seen inc note)))
      (numbered.0 ∙ sym (length-map (seen inc trace) (given i) ∙ length-seen inc trace)) (h note (Contains-head note trace)),
  each_of_trace P i inc trace numbered.1 (λ n c. h n (Contains-cons note n trace c)),
)

contains_drop : (n : ℕ) (trace : List SlotNote) (note : SlotNote) → Contains (drop n trace) note → Contains trace note
contains_drop n trace note c =
    Contains-from_Among trace note (Among-drop (λ m. m ≡ note) n trace (Among-from_Contains (drop n trace) note c))

pub each_of_history : (P : ℕ → NoticeKind → Type 0) (i : ℕ) (s : RunState) → Numbered s.trace
    → ((note : SlotNote) → Contains s.trace note → P note.slot (given i (as_seen (node_at s.nodes i).present note)))
    → EachRead P (history i s)
each_of_history P i s numbered h =
    let node = node_at s.nodes i in
    subst (EachRead P) (sym (history-is i s ∙ ap (map (given i)) (drop_seen node.unread node.present s.trace)))
    (each_of_trace P i node.present (drop node.unread s.trace) (numbered_drop node.unread s.trace numbered)
    (λ note c. h note (contains_drop node.unread s.trace note c)))

-- and of those before
pub each_dropped : (P : ℕ → NoticeKind → Type 0) (n : ℕ) (past : List NoticeKind) → EachRead P past → EachRead P (drop n past)
each_dropped P zero past h = h
each_dropped P (suc n) [] h = h
each_dropped P (suc n) (e ∷ past) h = each_dropped P n past h.1
