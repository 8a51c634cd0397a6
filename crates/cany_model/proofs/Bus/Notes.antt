-- What the note of a slot says: who offered the frame, who sent and accepted it, and what the slot
-- gave a node.
use Rattle.std.specs.Prelude.{◌≡◌, ℕ, suc, ◌<◌, Bool, true, false, not, ◌&&◌, if◌then◌else◌, List, [], ◌∷◌, Option, Some, None, length, Contains, ◌⊎◌, refl}
use Rattle.cany_base.specs.Limits.{most_nodes}
use Rattle.std.specs.List.{flat_map}
use Rattle.std.proofs.Common.{sym, ap, ◌∙◌, subst, inl, inr, arith}
use Rattle.std.proofs.lemmas.Bool.{false≢true, and_parts, and_from, lt-ltb, not_from_false, or_cases}
use Rattle.std.proofs.lemmas.List.Elements.{Contains-append_cases}
use Rattle.cany_base.specs.declared.slot_note.SlotNote.{SlotNote}
use Rattle.cany_base.specs.Frame.{FrameParts}
use Rattle.cany_base.specs.Nodes.{has, those_where}
use Rattle.cany_base.proofs.NodesFacts.{has-those_where}
use Rattle.cany_base.proofs.SetFacts.{has_where}
use Rattle.cany_model.specs.Bus.Slot.{FaultScript, better, least_frame, offered, winner, lets_accept, is_success, sends, transmission, share_in, share_of, slot_note_of}
use Rattle.cany_model.specs.Bus.State.{NodeState, RunState, node_at, runs}
use Rattle.cany_model.specs.Bus.Frames.{same_frame, is_before}
use Rattle.std.proofs.lemmas.List.Folds.{list_any_at}
use Rattle.cany_base.specs.declared.rule.Verdict.{Verdict}
use Rattle.cany_base.specs.declared.notice.NoticeKind.{NoticeKind}
use Rattle.cany_base.specs.declared.notice.NoticeKind.TheVariants.{Got, Sent, Bad}
use Rattle.cany_base.specs.declared.notice.NoticeKind.TheVariants as notice
use Rattle.cany_model.specs.Bus.History.{notice_of, given}
use Rattle.cany_model.specs.Bus.Waiting.{waits_with}
use Rattle.cany_model.specs.declared.share.Share.TheVariants.{Took, Rejected, Confirmed, Errored}
use Rattle.cany_model.proofs.Among.{Contains-cons, Contains-head}
use Rattle.cany_model.proofs.Bus.Identities.{same_frame-true, same_frame_self}

-- ---- sets of nodes

-- a node that has a place in a set is in the set where the test holds
pub placed_where : (test : ℕ → Bool) (i : ℕ) → i < most_nodes → has (those_where test) i ≡ test i
placed_where test i h = has-those_where test i ∙ rw (lt-ltb i most_nodes h) refl

-- ---- the frame that is carried

pub waits_with-Contains : (f : FrameParts) (waiting : List FrameParts) → waits_with f waiting ≡ true → Contains waiting f
waits_with-Contains f [] h = absurd (false≢true h)
waits_with-Contains f (g ∷ waiting) h =
    elim (or_cases (same_frame f g) (waits_with f waiting) h) [
      | inl here ↦ subst (λ (x : FrameParts). Contains (x ∷ waiting) f) (same_frame-true f g here) (Contains-head f waiting)
      | inr later ↦ Contains-cons g f waiting (waits_with-Contains f waiting later)
    ]

pub waits_with-from_Contains : (f : FrameParts) (waiting : List FrameParts) → Contains waiting f → waits_with f waiting ≡ true
waits_with-from_Contains f waiting c =
    list_any_at (same_frame f) waiting c.0 f c.1 (ap (λ g. same_frame f g) c.2 ∙ same_frame_self f)

better_is : (b : Bool) (f g : FrameParts) → ((if b then g else f) ≡ f) ⊎ ((if b then g else f) ≡ g)
better_is true f g = inr refl
better_is false f g = inl refl

least_step : (f g : FrameParts) (fs : List FrameParts) (rest : Option FrameParts) → ((h : FrameParts) → rest ≡ Some h → Contains fs h)
    → Some (better f rest) ≡ Some g → Contains (f ∷ fs) g
least_step f g fs None all h = let e : f ≡ g = cc in subst (λ (x : FrameParts). Contains (f ∷ fs) x) e (Contains-head f fs)
least_step f g fs (Some k) all h =
    elim (better_is (is_before k f) f k) [
      | inl e ↦ let same : f ≡ g = cc in subst (λ (x : FrameParts). Contains (f ∷ fs) x) same (Contains-head f fs)
      | inr e ↦ let same : k ≡ g = cc in subst (λ (x : FrameParts). Contains (f ∷ fs) x) same (Contains-cons f k fs (all k refl))
    ]

least_frame-Contains : (fs : List FrameParts) (g : FrameParts) → least_frame fs ≡ Some g → Contains fs g
unfolding least_frame
least_frame-Contains [] g h = absurd (cc)
least_frame-Contains (f ∷ fs) g h = least_step f g fs (least_frame fs) (least_frame-Contains fs) h

offered_by : (b : Bool) (waiting : List FrameParts) (f : FrameParts) → Contains (if b then waiting else []) f → (b ≡ true) × Contains waiting f
offered_by true waiting f c = (refl, c)
offered_by false waiting f c = absurd (omega (arith, c.1))

-- a running node that waits with the frame
pub record IsOffered (nodes : List NodeState) (f : FrameParts) : Type 0 where
  pub node : ℕ
  pub running : runs (node_at nodes node) ≡ true
  pub waits : Contains (node_at nodes node).waiting f

offered-Contains : (nodes : List NodeState) (f : FrameParts) → Contains (flat_map offered nodes) f → IsOffered nodes f
unfolding node_at
offered-Contains [] f c = absurd (omega (arith, c.1))
offered-Contains (node ∷ nodes) f c =
    elim (Contains-append_cases (offered node) (flat_map offered nodes) f c) [
      | inl here ↦ let h = offered_by (runs node) node.waiting f here in record { node = 0; running = h.0; waits = h.1 }
      | inr later ↦ let h = offered-Contains nodes f later in record { node = suc h.node; running = h.running; waits = h.waits }
    ]

pub winner-offered : (nodes : List NodeState) (f : FrameParts) → winner nodes ≡ Some f → IsOffered nodes f
unfolding winner
winner-offered nodes f h = offered-Contains nodes f (least_frame-Contains (flat_map offered nodes) f h)

-- ---- the note of a slot

pub note_of-slot : (rules : FaultScript) (s : RunState) → (slot_note_of rules s).slot ≡ length s.trace
unfolding slot_note_of
note_of-slot rules s = transmission_slot (length s.trace) s.nodes (rules s.trace (winner s.nodes)).verdict (winner s.nodes)
  where
    transmission_slot : (slot : ℕ) (nodes : List NodeState) (verdict : Verdict) (frame : Option FrameParts)
        → (transmission slot nodes verdict frame).slot ≡ slot
    transmission_slot slot nodes verdict None = refl
    transmission_slot slot nodes verdict (Some f) = refl

transmission_frame : (slot : ℕ) (nodes : List NodeState) (verdict : Verdict) (frame : Option FrameParts)
    → (transmission slot nodes verdict frame).frame ≡ frame
transmission_frame slot nodes verdict None = refl
transmission_frame slot nodes verdict (Some f) = refl

pub note_of-frame : (rules : FaultScript) (s : RunState) → (slot_note_of rules s).frame ≡ winner s.nodes
unfolding slot_note_of
note_of-frame rules s = transmission_frame (length s.trace) s.nodes (rules s.trace (winner s.nodes)).verdict (winner s.nodes)

-- the frame of a slot was offered by a running node
pub note_of-offered : (rules : FaultScript) (s : RunState) (f : FrameParts) → (slot_note_of rules s).frame ≡ Some f → IsOffered s.nodes f
note_of-offered rules s f h = winner-offered s.nodes f (sym (note_of-frame rules s) ∙ h)

transmission_senders : (slot : ℕ) (nodes : List NodeState) (verdict : Verdict) (frame : Option FrameParts) (f : FrameParts)
    → (transmission slot nodes verdict frame).frame ≡ Some f
    → (transmission slot nodes verdict frame).senders ≡ those_where (λ i. sends f (node_at nodes i))
transmission_senders slot nodes verdict None f h = absurd (cc)
transmission_senders slot nodes verdict (Some g) f h =
    let e : g ≡ f = cc in ap (λ x. those_where (λ i. sends x (node_at nodes i))) e

transmission_takers : (slot : ℕ) (nodes : List NodeState) (verdict : Verdict) (frame : Option FrameParts) (f : FrameParts)
    → (transmission slot nodes verdict frame).frame ≡ Some f
    → (transmission slot nodes verdict frame).takers
    ≡ those_where (λ i. runs (node_at nodes i) && not (sends f (node_at nodes i)) && lets_accept (transmission slot nodes verdict frame).verdict i)
transmission_takers slot nodes verdict None f h = absurd (cc)
transmission_takers slot nodes verdict (Some g) f h =
    let e : g ≡ f = cc in
    ap (λ x. those_where (λ i. runs (node_at nodes i) && not (sends x (node_at nodes i)) && lets_accept verdict i)) e

note_of-senders : (rules : FaultScript) (s : RunState) (f : FrameParts) → (slot_note_of rules s).frame ≡ Some f
    → (slot_note_of rules s).senders ≡ those_where (λ i. sends f (node_at s.nodes i))
unfolding slot_note_of
note_of-senders rules s f h = transmission_senders (length s.trace) s.nodes (rules s.trace (winner s.nodes)).verdict (winner s.nodes) f h

note_of-takers : (rules : FaultScript) (s : RunState) (f : FrameParts) → (slot_note_of rules s).frame ≡ Some f
    → (slot_note_of rules s).takers
    ≡ those_where (λ i. runs (node_at s.nodes i) && not (sends f (node_at s.nodes i)) && lets_accept (slot_note_of rules s).verdict i)
unfolding slot_note_of
note_of-takers rules s f h = transmission_takers (length s.trace) s.nodes (rules s.trace (winner s.nodes)).verdict (winner s.nodes) f h

-- a sender ran, and waited with the frame
pub sender_waits : (rules : FaultScript) (s : RunState) (f : FrameParts) (i : ℕ) → (slot_note_of rules s).frame ≡ Some f
    → has (slot_note_of rules s).senders i ≡ true → (runs (node_at s.nodes i) ≡ true) × Contains (node_at s.nodes i).waiting f
sender_waits rules s f i h sent =
    let passes : sends f (node_at s.nodes i) ≡ true =
    has_where (λ k. sends f (node_at s.nodes k)) i (sym (ap (λ x. has x i) (note_of-senders rules s f h)) ∙ sent) in
    let parts = and_parts (runs (node_at s.nodes i)) (waits_with f (node_at s.nodes i).waiting) passes in
    (parts.0, waits_with-Contains f (node_at s.nodes i).waiting parts.1)

-- a running node that waits with the frame sends it
pub waiting_sends : (rules : FaultScript) (s : RunState) (f : FrameParts) (i : ℕ) → i < most_nodes → (slot_note_of rules s).frame ≡ Some f
    → runs (node_at s.nodes i) ≡ true → Contains (node_at s.nodes i).waiting f → has (slot_note_of rules s).senders i ≡ true
waiting_sends rules s f i few h running waits =
    ap (λ x. has x i) (note_of-senders rules s f h)
    ∙ placed_where (λ k. sends f (node_at s.nodes k)) i few
    ∙ and_from (runs (node_at s.nodes i)) (waits_with f (node_at s.nodes i).waiting) running
    (waits_with-from_Contains f (node_at s.nodes i).waiting waits)

-- a taker ran, and the verdict let it accept the frame
pub taker_accepts : (rules : FaultScript) (s : RunState) (f : FrameParts) (i : ℕ) → (slot_note_of rules s).frame ≡ Some f
    → has (slot_note_of rules s).takers i ≡ true → (runs (node_at s.nodes i) ≡ true) × (lets_accept (slot_note_of rules s).verdict i ≡ true)
taker_accepts rules s f i h took =
    let passes : (runs (node_at s.nodes i) && not (sends f (node_at s.nodes i)) && lets_accept (slot_note_of rules s).verdict i) ≡ true =
    has_where (λ k. runs (node_at s.nodes k) && not (sends f (node_at s.nodes k)) && lets_accept (slot_note_of rules s).verdict k) i
    (sym (ap (λ x. has x i) (note_of-takers rules s f h)) ∙ took) in
    let outer = and_parts (runs (node_at s.nodes i) && not (sends f (node_at s.nodes i))) (lets_accept (slot_note_of rules s).verdict i) passes in
    let inner = and_parts (runs (node_at s.nodes i)) (not (sends f (node_at s.nodes i))) outer.0 in
    (inner.0, outer.1)

-- a running node that does not send the frame accepts it, where the verdict lets it
pub running_takes : (rules : FaultScript) (s : RunState) (f : FrameParts) (i : ℕ) → i < most_nodes → (slot_note_of rules s).frame ≡ Some f
    → runs (node_at s.nodes i) ≡ true → has (slot_note_of rules s).senders i ≡ false
    → lets_accept (slot_note_of rules s).verdict i ≡ true → has (slot_note_of rules s).takers i ≡ true
running_takes rules s f i few h running silent lets =
    let quiet : sends f (node_at s.nodes i) ≡ false =
    sym (placed_where (λ k. sends f (node_at s.nodes k)) i few)
    ∙ sym (ap (λ x. has x i) (note_of-senders rules s f h)) ∙ silent in
    ap (λ x. has x i) (note_of-takers rules s f h)
    ∙ placed_where (λ k. runs (node_at s.nodes k) && not (sends f (node_at s.nodes k)) && lets_accept (slot_note_of rules s).verdict k) i few
    ∙ and_from (runs (node_at s.nodes i) && not (sends f (node_at s.nodes i))) (lets_accept (slot_note_of rules s).verdict i)
    (and_from (runs (node_at s.nodes i)) (not (sends f (node_at s.nodes i))) running (not_from_false (sends f (node_at s.nodes i)) quiet)) lets

-- ---- what a slot gave a node

-- the notice of a share, by the answers to: did the node send, was it a success, did it accept the
-- frame
abbrev notice_by : Bool → Bool → Bool → FrameParts → NoticeKind
notice_by sent success took f = notice_of (if sent then (if success then Confirmed f else Errored) else if took then Took f else Rejected)

notice_by_got : (sent success took : Bool) (f g : FrameParts) → notice_by sent success took f ≡ Got g → (f ≡ g) × (sent ≡ false) × (took ≡ true)
notice_by_got true true took f g h = absurd (cc)
notice_by_got true false took f g h = absurd (cc)
notice_by_got false success true f g h = (cc, refl, refl)
notice_by_got false success false f g h = absurd (cc)

notice_by_sent : (sent success took : Bool) (f g : FrameParts) → notice_by sent success took f ≡ Sent g → (f ≡ g) × (sent ≡ true) × (success ≡ true)
notice_by_sent true true took f g h = (cc, refl, refl)
notice_by_sent true false took f g h = absurd (cc)
notice_by_sent false success true f g h = absurd (cc)
notice_by_sent false success false f g h = absurd (cc)

given_in : (i : ℕ) (note : SlotNote) (f : FrameParts) → note.frame ≡ Some f
    → given i note ≡ notice_by (has note.senders i) (is_success note.verdict) (has note.takers i) f
unfolding share_of
given_in i note f h = ap (λ x. notice_of (share_in i note x)) h

pub given_idle : (i : ℕ) (note : SlotNote) → note.frame ≡ None → given i note ≡ notice.Idle
unfolding share_of
given_idle i note h = ap (λ x. notice_of (share_in i note x)) h

pub given-Got : (i : ℕ) (note : SlotNote) (f : FrameParts) → given i note ≡ Got f
    → (note.frame ≡ Some f) × (has note.senders i ≡ false) × (has note.takers i ≡ true)
given-Got i note f h = go note.frame refl
  where
    go : (frame : Option FrameParts) → note.frame ≡ frame → (note.frame ≡ Some f) × (has note.senders i ≡ false) × (has note.takers i ≡ true)
    go None e = let none : given i note ≡ notice.Idle = given_idle i note e in absurd (cc)
    go (Some g) e =
        let parts = notice_by_got (has note.senders i) (is_success note.verdict) (has note.takers i) g f (sym (given_in i note g e) ∙ h) in
        (e ∙ ap (λ x. Some x) parts.0, parts.1, parts.2)

pub given-Sent : (i : ℕ) (note : SlotNote) (f : FrameParts) → given i note ≡ Sent f
    → (note.frame ≡ Some f) × (has note.senders i ≡ true) × (is_success note.verdict ≡ true)
given-Sent i note f h = go note.frame refl
  where
    go : (frame : Option FrameParts) → note.frame ≡ frame → (note.frame ≡ Some f) × (has note.senders i ≡ true) × (is_success note.verdict ≡ true)
    go None e = let none : given i note ≡ notice.Idle = given_idle i note e in absurd (cc)
    go (Some g) e =
        let parts = notice_by_sent (has note.senders i) (is_success note.verdict) (has note.takers i) g f (sym (given_in i note g e) ∙ h) in
        (e ∙ ap (λ x. Some x) parts.0, parts.1, parts.2)

pub given_taker : (i : ℕ) (note : SlotNote) (f : FrameParts) → note.frame ≡ Some f → has note.senders i ≡ false → has note.takers i ≡ true
    → given i note ≡ Got f
given_taker i note f h silent took = given_in i note f h ∙ rw (silent, took)

pub given_sender : (i : ℕ) (note : SlotNote) (f : FrameParts) → note.frame ≡ Some f → has note.senders i ≡ true → is_success note.verdict ≡ true
    → given i note ≡ Sent f
given_sender i note f h sent success = given_in i note f h ∙ rw (sent, success)
