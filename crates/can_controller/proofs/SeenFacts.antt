-- What a share in a slot leaves of a controller.
use Rattle.std.proofs.Common.{◌≡◌, ℕ, ◌+◌, ◌-◌, ◌<◌, ◌≤◌, Bool, true, false, List, [], ◌∷◌, ◌++◌, length, refl, ap, sym, ◌∙◌, arith, length-append}
use Rattle.std.specs.Prelude.{Option, Some, None, Result, Ok, Err, IsOk, OnOk, ◌↔◌, ◌||◌, nat_lt, unwrap_or, is_none, if◌then◌else◌}
use Rattle.std.proofs.lemmas.Bool.{le-ltb}
use Rattle.std.proofs.lemmas.Bool.Decides.{nat_tests}
use Rattle.circular_buffer.specs.Buffer.{Buffer, buffer}
use Rattle.cany_base.specs.declared.notice.Notice.{Notice}
use Rattle.cany_base.specs.declared.notice.NoticeKind.{NoticeKind}
use Rattle.cany_base.specs.declared.notice.NoticeKind.TheVariants.{Got, Sent}
use Rattle.cany_base.specs.declared.slot_note.SlotNote.{SlotNote}
use Rattle.cany_base.specs.Frame.{FrameParts}
use Rattle.cany_base.specs.Limits.{greatest_error_counter}
use Rattle.cany_base.specs.Nodes.{has}
use Rattle.cany_model.specs.declared.share.Share.{Share}
use Rattle.cany_model.specs.declared.share.Share.TheVariants as share
use Rattle.cany_model.specs.Bus.Frames.{identity_of}
use Rattle.cany_model.specs.Bus.History.{notice_of}
use Rattle.cany_model.specs.Bus.Slot.{after_share, exceeds, node_after, share_of}
use Rattle.cany_model.specs.Bus.State.{NodeState}
use Rattle.cany_model.specs.Bus.Waiting.{without}
use Rattle.can_controller.specs.declared.controller.Controller.TheInside.{Inside}
use Rattle.can_controller.specs.declared.counters.Counters.{Counters}
use Rattle.can_controller.specs.Controller.{ControllerState, SeenIsNodeAfter, node_state, seen, stopped_at}
use Rattle.can_controller.specs.ControllerFields.{IsSound, controller_state}
use Rattle.can_controller.specs.Waiting.{WaitingFrames}

on_ok : {T E : Type 0} (r : Result T E) (P : Type 0) → IsOk r → OnOk r P → P
on_ok (Ok x) P succeeds holds = holds
on_ok (Err e) P succeeds holds = cc

-- what is pushed to a buffer with room stands at its end
pub pushed : {X T : Type 0} (r : Result T X) (old new : Buffer X) (x : X) → length old.items < old.capacity
    → IsOk r ↔ (length old.items < old.capacity) → OnOk r (new ≡ buffer (old.items ++ x ∷ []) old.capacity)
    → new ≡ buffer (old.items ++ x ∷ []) old.capacity
pushed r old new x room fits ok = on_ok r (new ≡ buffer (old.items ++ x ∷ []) old.capacity) (fits.1 room) ok

both : (a b limit : ℕ) → (nat_lt limit a || nat_lt limit b) ≡ false → (a ≤ limit) × (b ≤ limit)
both a b limit e = (grind (arith, nat_tests), grind (arith, nat_tests))

-- counters that do not exceed the limit
pub within_limit : (node : NodeState) → exceeds node ≡ false → (node.transmit ≤ greatest_error_counter) × (node.receive ≤ greatest_error_counter)
within_limit node low = both node.transmit node.receive greatest_error_counter low

-- the fields that a share leaves are those of the state that it leaves
pub state_seen : (slot : ℕ) (share : Share) (old : Inside) (waiting : WaitingFrames) (counters : Counters) (notices : Buffer Notice) (kind : NoticeKind) (stopped : Option ℕ)
    → waiting.frames ≡ (after_share share (node_state (controller_state old))).waiting
    → waiting.room ≡ old.waiting.room
    → counters.transmit ≡ (after_share share (node_state (controller_state old))).transmit
    → counters.receive ≡ (after_share share (node_state (controller_state old))).receive
    → notices ≡ buffer (old.notices.items ++ record { slot = slot; kind = kind } ∷ []) old.notices.capacity
    → kind ≡ notice_of share
    → stopped ≡ (if exceeds (after_share share (node_state (controller_state old))) then Some slot else None)
    → controller_state (record old { waiting = waiting; counters = counters; notices = notices; stopped = stopped }) ≡ seen slot share (controller_state old)
state_seen slot share old waiting counters notices kind stopped same_frames same_room same_transmit same_receive same_notices same_kind same_stop =
    rw (same_frames, same_room, same_transmit, same_receive, ap (λ (b : Buffer Notice). b.items) same_notices, same_kind, same_stop) refl

lower : (a b limit : ℕ) → a ≤ limit → b ≤ limit → (nat_lt limit a || nat_lt limit b) ≡ false
lower a b limit low also = rw (le-ltb limit a low, le-ltb limit b also) refl

-- a running controller that took the frame of a slot, and has the notice of it
pub taken_seen : (old : Inside) (frame : FrameParts) (notice : Notice) (counters : Counters) (notices : Buffer Notice) → IsSound old → old.stopped ≡ None
    → notice.kind ≡ Got frame → counters ≡ record old.counters { receive = old.counters.receive - 1 } → notices ≡ buffer (old.notices.items ++ notice ∷ []) old.notices.capacity
    → controller_state (record old { counters = counters; notices = notices }) ≡ seen notice.slot (share.Took frame) (controller_state old)
unfolding after_share
taken_seen old frame notice counters notices sound running brings less kept =
    let within = sound.counting running in
    state_seen notice.slot (share.Took frame) old old.waiting counters notices notice.kind old.stopped refl refl
    (ap (λ (n : Counters). n.transmit) less) (ap (λ (n : Counters). n.receive) less) kept brings
    (running ∙ ap (λ b. if b then Some notice.slot else None) (sym (lower old.counters.transmit (old.counters.receive - 1) greatest_error_counter within.0 (omega (arith, within.1)))))

-- a running controller that sent the frame of a slot with success, and has the notice of it
pub sent_seen : (old : Inside) (frame : FrameParts) (notice : Notice) (waiting : WaitingFrames) (counters : Counters) (notices : Buffer Notice) → IsSound old → old.stopped ≡ None
    → notice.kind ≡ Sent frame → waiting ≡ record old.waiting { frames = without (identity_of frame) old.waiting.frames }
    → counters ≡ record old.counters { transmit = old.counters.transmit - 1 } → notices ≡ buffer (old.notices.items ++ notice ∷ []) old.notices.capacity
    → controller_state (record old { waiting = waiting; counters = counters; notices = notices }) ≡ seen notice.slot (share.Confirmed frame) (controller_state old)
unfolding after_share
sent_seen old frame notice waiting counters notices sound running brings dropped less kept =
    let within = sound.counting running in
    state_seen notice.slot (share.Confirmed frame) old waiting counters notices notice.kind old.stopped
    (ap (λ (w : WaitingFrames). w.frames) dropped) (ap (λ (w : WaitingFrames). w.room) dropped)
    (ap (λ (n : Counters). n.transmit) less) (ap (λ (n : Counters). n.receive) less) kept brings
    (running ∙ ap (λ b. if b then Some notice.slot else None) (sym (lower (old.counters.transmit - 1) old.counters.receive greatest_error_counter (omega (arith, within.0)) within.1)))

stop_kept : (b : Bool) (slot : ℕ) → unwrap_or (if b then Some slot else None) slot ≡ slot
stop_kept true slot = refl
stop_kept false slot = refl

not_true : (b : Bool) → (b ≡ true → false ≡ true) → b ≡ false
not_true true h = sym (h refl)
not_true false h = refl

one_more : {X : Type 0} (xs : List X) (x : X) → length (xs ++ x ∷ []) ≡ length xs + 1
one_more xs x = omega (arith, length-append xs (x ∷ []))

-- a share ends no incarnation
share_keeps : (share : Share) (node : NodeState) → ((after_share share node).present ≡ node.present) × ((after_share share node).ended ≡ node.ended)
unfolding after_share
share_keeps share.Idle node = (refl, refl)
share_keeps (share.Took f) node = (refl, refl)
share_keeps share.Rejected node = (refl, refl)
share_keeps (share.Confirmed f) node = (refl, refl)
share_keeps share.Errored node = (refl, refl)

-- a share, and then a stop or none
with_stop : (slot : ℕ) (share : Share) (c : ControllerState) (b : Bool) → (exceeds (after_share share (node_state c)) ≡ true → b ≡ true)
    → node_state (if b then stopped_at slot (seen slot share c) else seen slot share c)
    ≡ record (after_share share (node_state c)) { unread = length c.unread + 1; stopped = if b then Some slot else None }
with_stop slot share c true stops =
    rw (
      one_more c.unread (record { slot = slot; kind = notice_of share }),
      stop_kept (exceeds (after_share share (node_state c))) slot,
      (share_keeps share (node_state c)).0,
      (share_keeps share (node_state c)).1,
    ) refl
with_stop slot share c false stops =
    let low : exceeds (after_share share (node_state c)) ≡ false = not_true (exceeds (after_share share (node_state c))) stops in
    rw (one_more c.unread (record { slot = slot; kind = notice_of share }), low, (share_keeps share (node_state c)).0, (share_keeps share (node_state c)).1) refl

-- a share, and the stop where the note has it, make the node after the slot
pub seen_is_after : (i : ℕ) (note : SlotNote) (c : ControllerState) → SeenIsNodeAfter i note c
unfolding node_after
seen_is_after i note c running stops =
    with_stop note.slot (share_of i note) c (has note.stops i) stops
    ∙ ap
    (λ (stop : Option ℕ).
    if is_none stop
    then record (after_share (share_of i note) (node_state c)) { unread = length c.unread + 1; stopped = if has note.stops i then Some note.slot else None }
    else record (node_state c) { unread = length c.unread + 1 })
    (sym running)
