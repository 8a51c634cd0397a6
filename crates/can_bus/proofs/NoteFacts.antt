-- The note of a slot.
use Rattle.std.proofs.Common.{◌≡◌, ◌≤◌, ℕ, ◌&&◌, ◌||◌, not, Bool, true, false, nat_lt, List, length, refl, ap, sym, subst, ◌∙◌, inl, inr}
use Rattle.std.proofs.lemmas.Bool.{cases_lt, lt-ltb}
use Rattle.std.specs.Prelude.{Option, Some, None, IfSome}
use Rattle.cany_base.specs.Limits.{most_nodes}
use Rattle.cany_base.specs.declared.rule.Verdict.{Verdict}
use Rattle.cany_base.specs.declared.slot_note.SlotNote.{SlotNote}
use Rattle.cany_base.specs.Frame.{FrameParts}
use Rattle.cany_base.specs.Nodes.{Nodes, has, those_where, nobody}
use Rattle.cany_base.proofs.NodesFacts.{has-those_where, same_as_those_where}
use Rattle.cany_model.specs.Bus.Slot.{Ruling, FaultScript, after_share, exceeds, transmission, lets_accept, note_by, sends, share_of, slot_note_of, stopping, winner, with_stops}
use Rattle.cany_model.specs.Bus.State.{NodeState, node_at, runs}
use Rattle.can_arbiter.specs.declared.arbitration.Outcome.{Outcome}
use Rattle.can_arbiter.specs.declared.arbitration.Outcome.TheVariants.{Won}
use Rattle.can_controller.specs.Controller.{ControllerState}
use Rattle.can_bus.specs.Contest.{IsContestOf, running_nodes, seen_by}
use Rattle.can_bus.specs.Each.{each}
use Rattle.can_bus.specs.Controllers.{nodes_of}
use Rattle.can_bus.proofs.NodeFacts.{runs_seen, state_past}

-- ---- the acceptors

taking : (l r s a : Bool) → ((l && r) && not (l && s) && a) ≡ (l && (r && not s && a))
taking true r s a = refl
taking false r s a = refl

acceptors_are : (nodes : List NodeState) (f : FrameParts) (verdict : Verdict) (running senders acceptors : Nodes) → running ≡ running_nodes nodes
    → senders ≡ those_where (λ i. sends f (node_at nodes i)) → ((i : ℕ) → has acceptors i ≡ (has running i && not (has senders i) && lets_accept verdict i))
    → acceptors ≡ those_where (λ i. runs (node_at nodes i) && not (sends f (node_at nodes i)) && lets_accept verdict i)
acceptors_are nodes f verdict running senders acceptors run sent step =
    same_as_those_where acceptors (λ i. runs (node_at nodes i) && not (sends f (node_at nodes i)) && lets_accept verdict i) (λ i.
    step i
    ∙ ap (λ b. b && not (has senders i) && lets_accept verdict i) (ap (λ s. has s i) run ∙ has-those_where (λ k. runs (node_at nodes k)) i)
    ∙ ap (λ b. (nat_lt i most_nodes && runs (node_at nodes i)) && not b && lets_accept verdict i) (ap (λ s. has s i) sent ∙ has-those_where (λ k. sends f (node_at nodes k)) i)
    ∙ taking (nat_lt i most_nodes) (runs (node_at nodes i)) (sends f (node_at nodes i)) (lets_accept verdict i))

pub transmitted : (slot : ℕ) (nodes : List NodeState) (outcome : Outcome) (f : FrameParts) (senders running acceptors none : Nodes) (verdict : Verdict) → outcome ≡ Won f senders
    → IsContestOf nodes outcome → running ≡ running_nodes nodes → ((i : ℕ) → has acceptors i ≡ (has running i && not (has senders i) && lets_accept verdict i)) → none ≡ nobody
    → ◌≡◌ {A = SlotNote} (record { slot = slot; frame = Some f; senders = senders; takers = acceptors; verdict = verdict; stops = none }) (transmission slot nodes verdict (winner nodes))
transmitted slot nodes outcome f senders running acceptors none verdict won contest run step no_stops =
    let P : Outcome → Type 0 = λ o. IsContestOf nodes o in
    let it : IsContestOf nodes (Won f senders) = subst P won contest in
    let take : acceptors ≡ those_where (λ i. runs (node_at nodes i) && not (sends f (node_at nodes i)) && lets_accept verdict i) =
    acceptors_are nodes f verdict running senders acceptors run it.senders step in
    (λ j. record { slot = slot; frame = Some f; senders = it.senders j; takers = take j; verdict = verdict; stops = no_stops j })
    ∙ ap (transmission slot nodes verdict) it.frame

-- ---- the stops

abbrev stops_at : Nodes → List NodeState → SlotNote → ℕ → Bool
stops_at scripted nodes note i = runs (node_at nodes i) && (has scripted i || exceeds (after_share (share_of i note) (node_at nodes i)))

stopping_by : (l r s x : Bool) → ((l && r) && not ((l && (r && not x)) && not s)) ≡ (l && (r && (s || x)))
stopping_by false r s x = refl
stopping_by true false s x = refl
stopping_by true true true true = refl
stopping_by true true true false = refl
stopping_by true true false true = refl
stopping_by true true false false = refl

-- those that ran before the shares, and are named or do not run after them
pub stops_are : (scripted : Nodes) (controllers : List ControllerState) (bare : SlotNote) (seen : List ControllerState) (before after stops : Nodes)
    → seen ≡ each (seen_by bare) 0 controllers → before ≡ running_nodes (nodes_of controllers) → after ≡ running_nodes (nodes_of seen)
    → ((i : ℕ) → has stops i ≡ (has before i && not (has after i && not (has scripted i)))) → stops ≡ stopping scripted (nodes_of controllers) bare
stops_are scripted controllers bare seen before after stops all ran runs_on step =
    same_as_those_where stops (stops_at scripted (nodes_of controllers) bare) (λ i.
    let over : Bool = exceeds (after_share (share_of i bare) (node_at (nodes_of controllers) i)) in
    let still : has after i ≡ (nat_lt i most_nodes && (runs (node_at (nodes_of controllers) i) && not over)) =
    ap (λ s. has s i) runs_on ∙ has-those_where (λ k. runs (node_at (nodes_of seen) k)) i
    ∙ ap (λ (cs : List ControllerState). nat_lt i most_nodes && runs (node_at (nodes_of cs) i)) all
    ∙ ap (λ b. nat_lt i most_nodes && b) (runs_seen bare controllers i) in
    step i
    ∙ ap (λ b. b && not (has after i && not (has scripted i))) (ap (λ s. has s i) ran ∙ has-those_where (λ k. runs (node_at (nodes_of controllers) k)) i)
    ∙ ap (λ b. (nat_lt i most_nodes && runs (node_at (nodes_of controllers) i)) && not (b && not (has scripted i))) still
    ∙ stopping_by (nat_lt i most_nodes) (runs (node_at (nodes_of controllers) i)) (has scripted i) over)

still_running : (l n r x : Bool) → (r ≡ true → n ≡ true) → ((l && r) && not (n && not (r && not x))) ≡ (l && (r && not x))
still_running l true true true below = elim l as (λ b. ((b && true) && false) ≡ (b && false)) [ true ↦ refl | false ↦ refl ]
still_running l true true false below = elim l as (λ b. ((b && true) && true) ≡ (b && true)) [ true ↦ refl | false ↦ refl ]
still_running l true false x below = elim l as (λ b. ((b && false) && false) ≡ (b && false)) [ true ↦ refl | false ↦ refl ]
still_running l false false x below = elim l as (λ b. ((b && false) && true) ≡ (b && false)) [ true ↦ refl | false ↦ refl ]
still_running l false true x below = let no : false ≡ true = below refl in cc

-- a node that runs has a controller
running_below : (controllers : List ControllerState) (k : ℕ) → runs (node_at (nodes_of controllers) k) ≡ true → nat_lt k (length controllers) ≡ true
running_below controllers k run = elim (cases_lt k (length controllers)) [
  | inl below ↦ lt-ltb k (length controllers) below
  | inr past ↦ let stopped : false ≡ true = sym (ap runs (state_past controllers k past)) ∙ run in cc
]

-- those that ran before the shares but for those that have then stopped
pub run_on : (bare : SlotNote) (controllers seen : List ControllerState) (before stopped after : Nodes) → seen ≡ each (seen_by bare) 0 controllers
    → length controllers ≤ most_nodes → before ≡ running_nodes (nodes_of controllers)
    → ((k : ℕ) → has stopped k ≡ (nat_lt k (length controllers) && not (runs (node_at (nodes_of seen) k))))
    → ((k : ℕ) → has after k ≡ (has before k && not (has stopped k))) → after ≡ running_nodes (nodes_of seen)
run_on bare controllers seen before stopped after all few ran stop step =
    same_as_those_where after (λ k. runs (node_at (nodes_of seen) k)) (λ k.
    let r : Bool = runs (node_at (nodes_of controllers) k) in
    let over : Bool = exceeds (after_share (share_of k bare) (node_at (nodes_of controllers) k)) in
    let still : runs (node_at (nodes_of seen) k) ≡ (r && not over) =
    ap (λ (cs : List ControllerState). runs (node_at (nodes_of cs) k)) all ∙ runs_seen bare controllers k in
    step k
    ∙ ap (λ b. b && not (has stopped k)) (ap (λ s. has s k) ran ∙ has-those_where (λ i. runs (node_at (nodes_of controllers) i)) k)
    ∙ ap (λ b. (nat_lt k most_nodes && r) && not b) (stop k ∙ ap (λ b. nat_lt k (length controllers) && not b) still)
    ∙ still_running (nat_lt k most_nodes) (nat_lt k (length controllers)) r over (running_below controllers k)
    ∙ ap (λ b. nat_lt k most_nodes && b) (sym still))

-- ---- the whole note

pub noted : (rules : FaultScript) (trace : List SlotNote) (nodes : List NodeState) (slot : ℕ) (ruling : Ruling) (bare : SlotNote) (stops : Nodes) → slot ≡ length trace
    → ruling ≡ rules trace (winner nodes) → bare ≡ transmission slot nodes ruling.verdict (winner nodes) → stops ≡ stopping ruling.stop nodes bare
    → record bare { stops = stops } ≡ slot_note_of rules (record { trace = trace; nodes = nodes })
unfolding slot_note_of
noted rules trace nodes slot ruling bare stops at ruled transmitted_ stopped =
    ap (λ (s : Nodes). record bare { stops = s }) stopped
    ∙ ap (with_stops ruling.stop nodes) transmitted_
    ∙ ap (note_by slot nodes (winner nodes)) ruled
    ∙ ap (λ n. note_by n nodes (winner nodes) (rules trace (winner nodes))) at

-- the frame of a note that is not whole yet
pub frame_noted : (slot : ℕ) (nodes : List NodeState) (verdict : Verdict) (o : Option FrameParts) → (transmission slot nodes verdict o).frame ≡ o
frame_noted slot nodes verdict None = refl
frame_noted slot nodes verdict (Some f) = refl

pub slot_noted : (slot : ℕ) (nodes : List NodeState) (verdict : Verdict) (o : Option FrameParts) → (transmission slot nodes verdict o).slot ≡ slot
slot_noted slot nodes verdict None = refl
slot_noted slot nodes verdict (Some f) = refl

-- a note has the number of the slots before it
pub note_numbered : (rules : FaultScript) (trace : List SlotNote) (nodes : List NodeState) (note : SlotNote)
    → note ≡ slot_note_of rules (record { trace = trace; nodes = nodes }) → note.slot ≡ length trace
unfolding slot_note_of
note_numbered rules trace nodes note is =
    ap (λ (n : SlotNote). n.slot) is ∙ slot_noted (length trace) nodes (rules trace (winner nodes)).verdict (winner nodes)

ruled_by : (slot : ℕ) (nodes : List NodeState) (ruling : Option FrameParts → Ruling) (o : Option FrameParts)
    → IfSome (note_by slot nodes o (ruling o)).frame (λ f. (note_by slot nodes o (ruling o)).verdict ≡ (ruling (Some f)).verdict)
ruled_by slot nodes ruling None = tt
ruled_by slot nodes ruling (Some f) = refl

-- the verdict of a note is that of the script
pub note_ruled : (rules : FaultScript) (trace : List SlotNote) (nodes : List NodeState) (note : SlotNote)
    → note ≡ slot_note_of rules (record { trace = trace; nodes = nodes }) → IfSome note.frame (λ f. note.verdict ≡ (rules trace (Some f)).verdict)
unfolding slot_note_of
note_ruled rules trace nodes note is =
    let P : SlotNote → Type 0 = λ n. IfSome n.frame (λ f. n.verdict ≡ (rules trace (Some f)).verdict) in
    subst P (sym is) (ruled_by (length trace) nodes (rules trace) (winner nodes))
