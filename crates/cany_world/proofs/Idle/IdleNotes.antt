-- What idle slots add to what a node has read, and to what was read by the incarnations that ended.
use Rattle.std.proofs.Common.{◌≡◌, ℕ, zero, suc, ◌+◌, ◌≤◌, Bool, true, false, List, ◌∷◌, ◌++◌, length, map, drop, replicate, refl, ap, sym, ◌∙◌, arith}
use Rattle.std.specs.Prelude.{if◌then◌else◌, None}
use Rattle.std.specs.List.{AllByRecursion}
use Rattle.cany_base.specs.declared.notice.NoticeKind.{NoticeKind}
use Rattle.cany_base.specs.declared.notice.NoticeKind.TheVariants.{Idle}
use Rattle.cany_base.specs.declared.slot_note.SlotNote.{SlotNote}
use Rattle.cany_model.specs.Bus.History.{as_seen, ended_history, given, is_hidden, seen}
use Rattle.cany_model.specs.Bus.Slot.{share_of}
use Rattle.cany_model.specs.Bus.State.{EndedIncarnation, Incarnation, NodeState}
use Rattle.cany_model.specs.Rules.Notices.{error_as_idle}
use Rattle.can_bus.specs.Rest.{idle_note, idle_trace}
use Rattle.can_bus.proofs.RestFacts.{length-idle_trace}
use Rattle.cany_world.specs.Kept.{heard_of, past_of}
use Rattle.cany_world.proofs.Endings.{ended_later}
use Rattle.cany_world.proofs.InOrder.{weaker}

-- ---- what was read

-- an idle slot gives nothing, whether it is hidden or not
idle_given : (i slot : ℕ) (inc : Incarnation) → given i (as_seen inc (idle_note slot)) ≡ Idle
unfolding as_seen share_of
idle_given i slot inc = either (is_hidden inc (idle_note slot))
  where
    either : (b : Bool) → given i (if b then record (idle_note slot) { frame = None } else idle_note slot) ≡ Idle
    either true = refl
    either false = refl

idle_seen : (i slots : ℕ) (inc : Incarnation) (trace : List SlotNote)
    → map (given i) (seen inc (idle_trace slots trace)) ≡ replicate slots Idle ++ map (given i) (seen inc trace)
unfolding idle_trace
idle_seen i zero inc trace = refl
idle_seen i (suc slots) inc trace =
    ap (λ kind. kind ∷ map (given i) (seen inc (idle_trace slots trace))) (idle_given i (length (idle_trace slots trace)) inc)
    ∙ ap (λ past. Idle ∷ past) (idle_seen i slots inc trace)

-- a node that has read every notice reads the idle ones too
pub past_rested : (i slots : ℕ) (trace : List SlotNote) (node : NodeState) → node.unread ≡ 0
    → past_of i (idle_trace slots trace) node ≡ replicate slots Idle ++ past_of i trace node
past_rested i slots trace node all =
    ap (λ n. map (given i) (drop n (seen node.present (idle_trace slots trace)))) all
    ∙ idle_seen i slots node.present trace
    ∙ ap (λ n. replicate slots Idle ++ map (given i) (drop n (seen node.present trace))) (sym all)

pub plain_rested : (slots : ℕ) (past : List NoticeKind) → map error_as_idle (replicate slots Idle ++ past) ≡ replicate slots Idle ++ map error_as_idle past
plain_rested zero past = refl
plain_rested (suc slots) past = ap (λ heard. Idle ∷ heard) (plain_rested slots past)

pub heard_rested : (i slots : ℕ) (trace : List SlotNote) (node : NodeState) → node.unread ≡ 0
    → heard_of i (idle_trace slots trace) node ≡ replicate slots Idle ++ heard_of i trace node
heard_rested i slots trace node all = ap (map error_as_idle) (past_rested i slots trace node all) ∙ plain_rested slots (past_of i trace node)

-- one that does not read them has read what it had
seen_later : (slots unread : ℕ) (inc : Incarnation) (trace : List SlotNote)
    → drop (unread + slots) (seen inc (idle_trace slots trace)) ≡ drop unread (seen inc trace)
unfolding idle_trace
seen_later zero unread inc trace = let e : unread + 0 ≡ unread = omega arith in ap (λ n. drop n (seen inc trace)) e
seen_later (suc slots) unread inc trace =
    let e : unread + suc slots ≡ suc (unread + slots) = omega arith in
    ap (λ n. drop n (seen inc (idle_note (length (idle_trace slots trace)) ∷ idle_trace slots trace))) e ∙ seen_later slots unread inc trace

pub past_unread : (i slots : ℕ) (trace : List SlotNote) (node : NodeState)
    → past_of i (idle_trace slots trace) (record node { unread = node.unread + slots }) ≡ past_of i trace node
past_unread i slots trace node = ap (map (given i)) (seen_later slots node.unread node.present trace)

-- ---- what the incarnations had read that ended

ended_rested : (i slots : ℕ) (trace : List SlotNote) (e : EndedIncarnation) → e.next ≤ length trace → ended_history i (idle_trace slots trace) e ≡ ended_history i trace e
unfolding idle_trace
ended_rested i zero trace e within = refl
ended_rested i (suc slots) trace e within =
    ended_later i (idle_note (length (idle_trace slots trace))) (idle_trace slots trace) e (omega (arith, within, length-idle_trace slots trace))
    ∙ ended_rested i slots trace e within

pub all_ended_rested : (i slots : ℕ) (trace : List SlotNote) (ended : List EndedIncarnation) → AllByRecursion (λ e. e.next ≤ length trace) ended
    → AllByRecursion (λ e. ended_history i (idle_trace slots trace) e ≡ ended_history i trace e) ended
all_ended_rested i slots trace ended =
    weaker (λ e. e.next ≤ length trace) (λ e. ended_history i (idle_trace slots trace) e ≡ ended_history i trace e) (λ e within. ended_rested i slots trace e within) ended

-- ---- the nodes after them
