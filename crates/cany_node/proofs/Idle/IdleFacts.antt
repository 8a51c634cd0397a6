-- A node that is idle until a slot rests until then, or until its next timer.
use Rattle.std.proofs.Common.{◌≡◌, ℕ, ◌+◌, ◌≤◌, ◌<◌, List, length, subst, sym, arith}
use Rattle.cany_base.specs.declared.actions.Action.{Action}
use Rattle.cany_base.specs.declared.log_entry.LogEntry.{LogEntry}
use Rattle.cany_base.specs.declared.notice.Notice.{Notice}
use Rattle.cany_base.specs.declared.notice.NoticeKind.{NoticeKind}
use Rattle.cany_base.specs.declared.notice.NoticeKind.TheVariants.{Idle}
use Rattle.cany_base.specs.Bounded.{Bounded}
use Rattle.cany_base.specs.Scenario.{ScenarioParts}
use Rattle.can_controller.specs.Controller.{ControllerState}
use Rattle.cany_edcan.specs.Edcan as edcan
use Rattle.cany_edcan.specs.Edcan.{EdcanParts, IsEdcanOf}
use Rattle.cany_relcan.specs.Relcan as relcan
use Rattle.cany_relcan.specs.Relcan.{IsRelcanOf, RelcanParts}
use Rattle.cany_node.specs.Membership.{IsNextOf}
use Rattle.cany_node.specs.Node.{CanAct, IsNodeOf, NodeParts}
use Rattle.cany_node.specs.Resting.{IsIdleUntil, RestsUntil}
use Rattle.cany_node.proofs.Idle.IdleTurn.{OthersRest, node_rests}
use Rattle.cany_node.proofs.OwnNode.{edcan_now, relcan_now, totcan_now}

-- EDCAN has nothing to do in any idle slot, and RELCAN in none before its next timer is due
abbrev pub EdcanRests : EdcanParts → Type 0
EdcanRests e = (scenario : ScenarioParts) (past : List NoticeKind) → IsEdcanOf scenario e.node past e → edcan.Rests scenario e.node past e

abbrev pub RelcanRests : ℕ → RelcanParts → Type 0
RelcanRests wake r =
    (scenario : ScenarioParts) (past : List NoticeKind) → IsRelcanOf scenario r.node past r → length past < wake → relcan.Rests scenario r.node Idle past r

-- the others have nothing to do
others_rest : (scenario : ScenarioParts) (past : List NoticeKind) (idle_until : ℕ) (v : NodeParts) → IsIdleUntil idle_until v
    → IsNodeOf scenario past (record v { read = length past }) → v.read ≤ length past → length past < idle_until → length past < scenario.params.slots
    → OthersRest scenario past (record v { read = length past })
others_rest scenario past idle_until v is h later early within = record {
  totcan = is.totcan scenario past _ _ (totcan_now scenario past _ h) early;
  membership = is.membership scenario _ past h.membership later early within;
  sends = is.sends (length past) early h.agenda.rising;
  joins = is.joins (length past) early h.joins.rising;
  leaves = is.leaves (length past) early h.leaves.rising;
}

pub idle_rests : (idle_until wake : ℕ) (v : NodeParts) → IsIdleUntil idle_until v → wake ≤ idle_until → EdcanRests v.edcan → RelcanRests wake v.relcan
    → RestsUntil wake v
idle_rests idle_until wake v is less ed rel = λ scenario past h later early within.
    let kept : IsNodeOf scenario past (record v { read = length past }) = h in
    let others = others_rest scenario past idle_until v is kept later (omega (arith, less, early)) within in
    let now = node_rests scenario past _ kept others
    (ed scenario past (edcan_now scenario past _ kept))
    (rel scenario past (relcan_now scenario past _ kept) early) in
    record { stands = now.stands; effects = now.effects }

-- in the slot of the notice the others would have nothing to do if it were idle
pub others_in_turn : (scenario : ScenarioParts) (past : List NoticeKind) (notice : Notice) (idle_until : ℕ) (v : NodeParts) → IsIdleUntil idle_until v
    → notice.slot < idle_until → (stands : IsNodeOf scenario past v) → IsNextOf scenario v.node past notice → OthersRest scenario past v
others_in_turn scenario past notice idle_until v is early stands next = record {
  totcan = is.totcan scenario past _ _ (totcan_now scenario past v stands) (omega (arith, early, next.next.slot));
  membership = is.membership scenario v.node past stands.membership (omega (arith, stands.read)) (omega (arith, early, next.next.slot)) (omega (arith, next.next.slot, next.next.within));
  sends = is.sends (length past) (omega (arith, early, next.next.slot)) stands.agenda.rising;
  joins = is.joins (length past) (omega (arith, early, next.next.slot)) stands.joins.rising;
  leaves = is.leaves (length past) (omega (arith, early, next.next.slot)) stands.leaves.rising;
}

-- it is so until an earlier slot
pub idle_sooner : (idle_until sooner : ℕ) (v : NodeParts) → IsIdleUntil idle_until v → sooner ≤ idle_until → IsIdleUntil sooner v
idle_sooner idle_until sooner v is less = record {
  totcan = λ scenario past messages count h early. is.totcan scenario past messages count h (omega (arith, less, early));
  membership = λ scenario i past h later early within. is.membership scenario i past h later (omega (arith, less, early)) within;
  sends = λ n early. is.sends n (omega (arith, less, early));
  joins = λ n early. is.joins n (omega (arith, less, early));
  leaves = λ n early. is.leaves n (omega (arith, less, early));
}

-- it stays so when it has read more, whatever EDCAN and RELCAN did then and the log says
pub idle_later : (idle_until read room : ℕ) (e : EdcanParts) (r : RelcanParts) (log : List LogEntry) (v : NodeParts) → IsIdleUntil idle_until v → v.read ≤ read
    → IsIdleUntil idle_until (record v { read = read; edcan = e; relcan = r; log = log; room = room })
idle_later idle_until read room e r log v is more = record {
  totcan = is.totcan;
  membership = λ scenario i past h later early within. is.membership scenario i past h (omega (arith, more, later)) early within;
  sends = is.sends;
  joins = is.joins;
  leaves = is.leaves;
}

-- no slot is before the first one
pub not_idle : (idle_until : ℕ) (v : NodeParts) → idle_until ≡ 0 → IsIdleUntil idle_until v
not_idle idle_until v none = record {
  totcan = λ scenario past messages count h early. absurd (omega (arith, none, early));
  membership = λ scenario i past h later early within. absurd (omega (arith, none, early));
  sends = λ n early. absurd (omega (arith, none, early));
  joins = λ n early. absurd (omega (arith, none, early));
  leaves = λ n early. absurd (omega (arith, none, early));
}

-- so it does when it has read the notice that comes next
pub idle_after : (idle_until : ℕ) (notice : Notice) (u v : NodeParts) (ctl : ControllerState) (out : Bounded Action) → v ≡ u → CanAct u notice ctl out → IsIdleUntil idle_until v
    → (room : ℕ) (e : EdcanParts) (r : RelcanParts) (log : List LogEntry)
    → IsIdleUntil idle_until (record v { read = notice.slot + 1; edcan = e; relcan = r; log = log; room = room })
idle_after idle_until notice u v ctl out viewed acts is room e r log =
    let before : v.read ≤ notice.slot = subst (λ (x : NodeParts). x.read ≤ notice.slot) (sym viewed) (omega (arith, acts.stands.read, acts.next.next.slot)) in
    idle_later idle_until (notice.slot + 1) room e r log v is (omega (arith, before))
