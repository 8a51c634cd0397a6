-- The end of an incarnation and the beginning of the next: what both have read.
use Rattle.std.proofs.Common.{◌≡◌, ℕ, zero, suc, ◌+◌, ◌-◌, ◌<◌, ◌≤◌, ◌==◌, inl, inr, List, [], ◌∷◌, length, map, drop, refl, ap, ◌∙◌, arith}
use Rattle.std.specs.Prelude.{Some, find, replicate}
use Rattle.std.specs.List.{AllByRecursion}
use Rattle.std.proofs.lemmas.Bool.{cases_eq, eq-eqb, ne_eqb}
use Rattle.cany_base.specs.declared.notice.NoticeKind.TheVariants.{Idle}
use Rattle.cany_base.specs.declared.slot_note.SlotNote.{SlotNote}
use Rattle.cany_base.specs.Params.{Parameters}
use Rattle.cany_model.specs.Bus.History.{ended_history, given, seen}
use Rattle.cany_model.specs.Bus.Restart.{ended_at, next_incarnation, restarted}
use Rattle.cany_model.specs.Bus.State.{EndedIncarnation, Incarnation, NodeState}
use Rattle.cany_model.proofs.Bus.Seen.{Numbered, early_hidden, seen_idle}
use Rattle.cany_model.specs.Rules.Notices.{error_as_idle}
use Rattle.cany_world.specs.Kept.{heard_of, past_of}
use Rattle.cany_world.proofs.InOrder.{AreInOrder, weaker}

-- ---- what a restarted node has read

hidden_all : (i : ℕ) (inc : Incarnation) (trace : List SlotNote) → Numbered trace → 0 < inc.number → length trace ≤ inc.from
    → map (given i) (seen inc trace) ≡ replicate (length trace) Idle
hidden_all i inc [] numbered later early = refl
hidden_all i inc (note ∷ trace) numbered later early =
    ap (λ e. e ∷ map (given i) (seen inc trace)) (seen_idle i inc note (early_hidden inc note later (omega (arith, numbered.0, early))))
    ∙ ap (λ past. Idle ∷ past) (hidden_all i inc trace numbered.1 later (omega (arith, early)))

-- an idle notice for each slot that ran before
past_restarted : (i : ℕ) (p : Parameters) (slot : ℕ) (trace : List SlotNote) (node : NodeState) → Numbered trace → length trace ≡ slot + 1
    → past_of i trace (restarted p slot node) ≡ replicate (slot + 1) Idle
past_restarted i p slot trace node numbered e =
    hidden_all i (next_incarnation p slot node.present) trace numbered (omega arith) (omega (arith, e)) ∙ ap (λ n. replicate n Idle) e

idle_heard : (n : ℕ) → map error_as_idle (replicate n Idle) ≡ replicate n Idle
idle_heard zero = refl
idle_heard (suc n) = ap (λ past. Idle ∷ past) (idle_heard n)

pub heard_restarted : (i : ℕ) (p : Parameters) (slot : ℕ) (trace : List SlotNote) (node : NodeState) → Numbered trace → length trace ≡ slot + 1
    → heard_of i trace (restarted p slot node) ≡ replicate (slot + 1) Idle
heard_restarted i p slot trace node numbered e = ap (λ past. map error_as_idle past) (past_restarted i p slot trace node numbered e) ∙ idle_heard (slot + 1)

-- ---- what an incarnation that ended had read

-- it ended with what it had read
pub ended_past : (i slot : ℕ) (trace : List SlotNote) (node : NodeState) → length trace ≡ slot + 1 → node.unread ≤ length trace
    → ended_history i trace (ended_at slot node) ≡ past_of i trace node
unfolding ended_history
ended_past i slot trace node e short =
    let left : length trace - (slot + 1 - node.unread) ≡ node.unread = omega (arith, e, short) in
    ap (λ n. map (given i) (drop n (seen node.present trace))) left

-- and this stays so
pub ended_later : (i : ℕ) (note : SlotNote) (trace : List SlotNote) (e : EndedIncarnation) → e.next ≤ length trace
    → ended_history i (note ∷ trace) e ≡ ended_history i trace e
unfolding ended_history
ended_later i note trace e within =
    let more : length (note ∷ trace) - e.next ≡ suc (length trace - e.next) = omega (arith, within) in
    ap (λ n. map (given i) (drop n (seen e.incarnation (note ∷ trace)))) more

-- ---- an incarnation by its number

-- that of a number below the present one has ended
pub record HasEnded (P : EndedIncarnation → Type 0) (ended : List EndedIncarnation) (number : ℕ) : Type 0 where
  pub end : EndedIncarnation
  pub found : find (λ e. e.incarnation.number == number) ended ≡ Some end
  pub is : end.incarnation.number ≡ number
  pub has : P end

pub has_ended : (P : EndedIncarnation → Type 0) (inc : Incarnation) (ended : List EndedIncarnation) (number : ℕ) → AreInOrder inc ended → AllByRecursion P ended → number < inc.number
    → HasEnded P ended number
unfolding AreInOrder
has_ended P inc [] number order all below = absurd (omega (arith, below, ap (λ (x : Incarnation). x.number) order))
has_ended P inc (e ∷ ended) number order all below = elim (cases_eq e.incarnation.number number) [
  | inl here ↦ record { end = e; found = rw (eq-eqb e.incarnation.number number here) refl; is = here; has = all.0 }
  | inr other ↦
      let rest : HasEnded P ended number = has_ended P e.incarnation ended number order.1 all.1 (omega (arith, order.0, below, other)) in
      record { end = rest.end; found = rw (ne_eqb e.incarnation.number number other) rest.found; is = rest.is; has = rest.has }
]

-- each that ended has a lower number
pub ended_below : (inc : Incarnation) (ended : List EndedIncarnation) → AreInOrder inc ended → AllByRecursion (λ e. e.incarnation.number < inc.number) ended
unfolding AreInOrder
ended_below inc [] order = tt
ended_below inc (e ∷ ended) order = (
  omega (arith, order.0),
  weaker (λ x. x.incarnation.number < e.incarnation.number) (λ x. x.incarnation.number < inc.number) (λ x h. omega (arith, h, order.0)) ended (ended_below e.incarnation ended order.1),
)
