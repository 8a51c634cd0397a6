-- The frames of TOTCAN in a run: all that accept a message are one frame, and each data frame is
-- that of a message of its origin, which comes no earlier than the message's scripted slot, and
-- that is one of the incarnation that sends it.
use Rattle.std.proofs.Common.{◌≡◌, ℕ, suc, ◌<◌, ◌≤◌, ◌||◌, inl, inr, true, false, List, [], ◌∷◌, length, refl, ap, sym, ◌∙◌, subst, arith}
use Rattle.std.specs.List.{AllByRecursion}
use Rattle.std.proofs.lemmas.Bool.{both_ways, false≢true}
use Rattle.std.proofs.lemmas.List.{get_or_default}
use Rattle.std.proofs.lemmas.List.Elements.{All-contains, All-from_recursion}
use Rattle.cany_base.specs.declared.class.Class.{Class}
use Rattle.cany_base.specs.declared.class.Class.TheVariants as class
use Rattle.cany_base.specs.declared.message.MsgKey.{MsgKey}
use Rattle.cany_base.specs.declared.message.Service.{Service}
use Rattle.cany_base.specs.declared.message.Service.TheVariants.{Ed, Rel, Tot}
use Rattle.cany_base.specs.declared.notice.NoticeKind.{NoticeKind}
use Rattle.cany_base.specs.declared.notice.NoticeKind.TheVariants.{Got}
use Rattle.cany_base.specs.declared.slot_note.SlotNote.{SlotNote}
use Rattle.cany_base.specs.declared.step.Step.{Step}
use Rattle.cany_base.specs.Frame.{FrameParts, data_class}
use Rattle.cany_base.specs.Limits.{most_nodes}
use Rattle.cany_base.specs.Scenario.{ScenarioParts}
use Rattle.cany_model.specs.Bus.Frames.{Identity, identity_of, same_class}
use Rattle.cany_model.specs.Bus.History.{history}
use Rattle.cany_model.specs.Runs.Run.{run}
use Rattle.cany_model.specs.Bus.State.{Incarnation, NodeState, RunState, node_at, runs}
use Rattle.cany_model.specs.Bus.Waiting.{waits}
use Rattle.cany_model.specs.Rules.Messages.{Message, accept_of_key, data_frame, messages_of}
use Rattle.cany_model.specs.Rules.Totcan.{accept_frame, tot_of_key}
use Rattle.cany_model.specs.Rules.Turn.{scenario_at, scenario_for, turn_effects}
use Rattle.cany_model.proofs.Among.{Among-weaker}
use Rattle.cany_model.proofs.Bus.Carried.{Has}
use Rattle.cany_model.proofs.Bus.Identities.{same_class_self}
use Rattle.cany_model.proofs.Runs.FrameInvariants.{HoldsOfFrames, IsKeptByFrames, frames_alone, nothing_known, slot_of_note, turn_note}
use Rattle.cany_model.proofs.Runs.Runs.{IsOrderly, history-length}
use Rattle.cany_model.proofs.Bus.States.{no_note, note_at}
use Rattle.cany_model.proofs.Runs.Steps.{MayTurn, next_notice}
use Rattle.cany_model.proofs.Rules.Waits.{AsksOnly}
use Rattle.cany_model.proofs.Promises.EachNode.{EachRunning, each_running, waiting_has}
use Rattle.cany_model.proofs.Promises.OwnSlotsAlone.{from_later}
use Rattle.cany_model.proofs.Rules.Services.MessageKeys.{IsOneOf, same_message}
use Rattle.cany_model.proofs.Rules.ProtocolFacts.{MayAsk, accepts, confirms, exchanges, is_relayed, lives, originates, relays, request_class, requests, signals}
use Rattle.cany_model.proofs.Rules.TurnFacts.{turn_only}
use Rattle.cany_model.proofs.Timed.Common.Ages.{Carried, carried_there}
use Rattle.cany_model.proofs.Timed.Order.TotSlots.{carries-true, waiting_frame}

-- a message of the scenario whose data frame this is, and whose scripted slot has come by then
pub record IsOfScript (scenario : ScenarioParts) (slot : ℕ) (f : FrameParts) : Type 0 where
  pub message : Message
  pub stands : IsOneOf (messages_of scenario.sends) message
  pub is : data_frame message ≡ f
  pub by_then : message.slot ≤ slot

-- what is kept of a frame by this slot
pub record IsSound (scenario : ScenarioParts) (slot : ℕ) (f : FrameParts) : Type 0 where
  pub accept : f.class ≡ class.Accept → f ≡ accept_frame f
  pub data_of : f.class ≡ class.Tot → IsOfScript scenario slot f

abbrev pub SoundWaiting : ScenarioParts → List SlotNote → ℕ → FrameParts → Type 0
SoundWaiting scenario trace i f = IsSound scenario (length trace) f

abbrev pub SoundCarried : ScenarioParts → List SlotNote → ℕ → FrameParts → Type 0
SoundCarried scenario trace slot f = IsSound scenario slot f

abbrev pub HasSoundFrames : ScenarioParts → RunState → Type 0
HasSoundFrames scenario s = HoldsOfFrames (SoundWaiting scenario) (SoundCarried scenario) s

sound_later : (scenario : ScenarioParts) (early late : ℕ) (f : FrameParts) → early ≤ late → IsSound scenario early f → IsSound scenario late f
sound_later scenario early late f l h = record {
  accept = h.accept;
  data_of = λ c. let d = h.data_of c in record { message = d.message; stands = d.stands; is = d.is; by_then = omega (arith, d.by_then, l) };
}

-- ---- what a turn asks for

-- a frame of neither class
other_sound : (scenario : ScenarioParts) (slot : ℕ) (f : FrameParts) (c : Class) → c ≡ f.class
    → (same_class c class.Accept || same_class c class.Tot) ≡ false → IsSound scenario slot f
unfolding same_class
other_sound scenario slot f c at other = record {
  accept = λ is. absurd (false≢true (sym other ∙ ap (λ x. same_class x class.Accept || same_class x class.Tot) (at ∙ is)));
  data_of = λ is. absurd (false≢true (sym other ∙ ap (λ x. same_class x class.Accept || same_class x class.Tot) (at ∙ is)));
}

relayed_tot : (c : Class) → is_relayed c ≡ true → c ≡ class.Tot → ⊥
relayed_tot c h e = false≢true (sym (ap is_relayed e) ∙ h)

data_accept : (m : Message) (f : FrameParts) → data_frame m ≡ f → f.class ≡ class.Accept → ⊥
data_accept m f frame e = by_service m.service (ap (λ (x : FrameParts). x.class) frame ∙ e)
  where
    by_service : (s : Service) → data_class s ≡ class.Accept → ⊥
    by_service Ed e = cc
    by_service Rel e = cc
    by_service Tot e = cc

sound_asked : (scenario : ScenarioParts) (s : RunState) (i : ℕ) → IsOrderly scenario.params.nodes s → MayTurn s i → HasSoundFrames scenario s
    → AllByRecursion (AsksOnly (SoundWaiting scenario s.trace i)) (turn_effects (scenario_at scenario s i) i (next_notice s i ∷ history i s))
unfolding same_class
sound_asked scenario s i o may h =
    turn_only (SoundWaiting scenario s.trace i) (scenario_at scenario s i) i (next_notice s i ∷ history i s) (λ f. by_reason f)
  where
    by_reason : (f : FrameParts) → MayAsk (scenario_at scenario s i) i (next_notice s i ∷ history i s) f → IsSound scenario (length s.trace) f
    by_reason f (relays relayed got) =
        let read = Among-weaker (λ n. n ≡ Got f) (Has f) (λ n e. inl e) (next_notice s i ∷ history i s) got in
        let note = turn_note scenario s i f may (o.unread i) read in
        sound_later scenario note.0.slot (length s.trace) f (slot_of_note scenario.params.nodes s o note.0 note.1) (h.carried note.0 f note.1 note.2)
    by_reason f (originates m is origin slot late frame) = record {
      accept = λ e. absurd (data_accept m f frame e);
      data_of = λ e. record { message = m; stands = is; is = frame; by_then = omega (arith, slot, history-length i s, may.unread, o.unread i) };
    }
    by_reason f (confirms g sent rel own frame) = other_sound scenario (length s.trace) f class.Confirm (ap (λ (x : FrameParts). x.class) frame) refl
    by_reason f (accepts g sent tot own frame) = record {
      accept = λ e. subst (λ (x : FrameParts). x ≡ accept_frame x) frame refl;
      data_of = λ e. let c : class.Accept ≡ class.Tot = ap (λ (x : FrameParts). x.class) frame ∙ e in absurd (cc);
    }
    by_reason f (signals sign slot now known frame) = other_sound scenario (length s.trace) f class.Fda (ap (λ (x : FrameParts). x.class) frame) refl
    by_reason f (lives slot now due frame) = other_sound scenario (length s.trace) f class.Els (ap (λ (x : FrameParts). x.class) frame) refl
    by_reason f (exchanges slot v sends frame) = other_sound scenario (length s.trace) f class.Rha (ap (λ (x : FrameParts). x.class) frame) refl
    by_reason f (requests slot c request frame) =
        other_sound scenario (length s.trace) f c (ap (λ (x : FrameParts). x.class) frame)
        (elim (request_class (scenario_at scenario s i) i (next_notice s i ∷ history i s) slot c request) [
          | inl join ↦ rw join refl
          | inr leave ↦ rw leave refl
        ])

sound_kept : (scenario : ScenarioParts) → IsKeptByFrames scenario nothing_known (SoundWaiting scenario) (SoundCarried scenario)
sound_kept scenario = record {
  waiting_later = λ note trace i f h. sound_later scenario (length trace) (suc (length trace)) f (omega arith) h;
  carried_later = λ note trace slot f h. h;
  sent = λ note trace i f number frame sender h. subst (λ n. IsSound scenario n f) (sym number) h;
  asked = λ s i o may known h. sound_asked scenario s i o may h;
}

pub sound_run : (scenario : ScenarioParts) (journal : List Step) → scenario.params.nodes ≤ most_nodes → HasSoundFrames scenario (run scenario journal)
sound_run scenario journal few = frames_alone scenario (SoundWaiting scenario) (SoundCarried scenario) (sound_kept scenario) journal few

-- ---- the data frames that an incarnation waits with

-- the message of the data frame is one that the incarnation sends: not of a slot before its first
-- one
pub record IsOfIncarnation (scenario : ScenarioParts) (inc : Incarnation) (f : FrameParts) : Type 0 where
  pub message : Message
  pub stands : IsOneOf (messages_of scenario.sends) message
  pub is : data_frame message ≡ f
  pub late : 0 < inc.number → inc.from ≤ message.slot

abbrev pub IsLate : ScenarioParts → Incarnation → ℕ → FrameParts → Type 0
IsLate scenario inc i f = f.class ≡ class.Tot → IsOfIncarnation scenario inc f

abbrev pub HasLateFrames : ScenarioParts → List SlotNote → ℕ → NodeState → Type 0
HasLateFrames scenario trace i node = AllByRecursion (IsLate scenario node.present i) node.waiting

-- a frame of another class
no_data : (scenario : ScenarioParts) (inc : Incarnation) (f : FrameParts) (c : Class) → c ≡ f.class → same_class c class.Tot ≡ false
    → f.class ≡ class.Tot
    → IsOfIncarnation scenario inc f
no_data scenario inc f c at other e =
    absurd (both_ways (same_class c class.Tot) other (ap (λ x. same_class x class.Tot) (at ∙ e) ∙ same_class_self class.Tot))

late_asked : (scenario : ScenarioParts) (inc : Incarnation) (i : ℕ) (past : List NoticeKind) (f : FrameParts)
    → MayAsk (scenario_for scenario inc) i past f
    → IsLate scenario inc i f
unfolding same_class
late_asked scenario inc i past f (relays relayed got) e = absurd (relayed_tot f.class relayed e)
late_asked scenario inc i past f (originates m is origin slot late frame) e = record {
  message = m;
  stands = is;
  is = frame;
  late = λ later. let from = from_later scenario inc later in omega (arith, late, from);
}
late_asked scenario inc i past f (confirms g sent rel own frame) e =
    no_data scenario inc f class.Confirm (ap (λ (x : FrameParts). x.class) frame) refl e
late_asked scenario inc i past f (accepts g sent tot own frame) e =
    no_data scenario inc f class.Accept (ap (λ (x : FrameParts). x.class) frame) refl e
late_asked scenario inc i past f (signals sign slot now known frame) e =
    no_data scenario inc f class.Fda (ap (λ (x : FrameParts). x.class) frame) refl e
late_asked scenario inc i past f (lives slot now due frame) e =
    no_data scenario inc f class.Els (ap (λ (x : FrameParts). x.class) frame) refl e
late_asked scenario inc i past f (exchanges slot v sends frame) e =
    no_data scenario inc f class.Rha (ap (λ (x : FrameParts). x.class) frame) refl e
late_asked scenario inc i past f (requests slot c request frame) e = elim (request_class (scenario_for scenario inc) i past slot c request) [
  | inl join ↦ no_data scenario inc f class.Join (sym join ∙ ap (λ (x : FrameParts). x.class) frame) refl e
  | inr leave ↦ no_data scenario inc f class.Leave (sym leave ∙ ap (λ (x : FrameParts). x.class) frame) refl e
]

pub late_run : (scenario : ScenarioParts) (journal : List Step) → EachRunning (HasLateFrames scenario) (run scenario journal)
late_run scenario journal =
    each_running scenario (HasLateFrames scenario)
    (waiting_has scenario (IsLate scenario) (λ inc i past f may. late_asked scenario inc i past f may)) journal

-- ---- by identity and age

waits_has : (P : FrameParts → Type 0) (w : List FrameParts) → AllByRecursion P w → (x : Identity) → waits x w ≡ true
    → (f : FrameParts) × (x ≡ identity_of f) × P f
waits_has P w all x h =
    let f = waiting_frame x w h in
    (f.0, f.2, All-contains P w f.0 (All-from_recursion P w all) f.1)

carried_has : (scenario : ScenarioParts) (s : RunState) → HasSoundFrames scenario s → (q : ℕ) (x : Identity) → Carried s.trace q x
    → (f : FrameParts) × (x ≡ identity_of f) × IsSound scenario (note_at s.trace q).slot f
carried_has scenario s sound q x h =
    let there = carried_there x s.trace q h in
    let c = carries-true x (note_at s.trace q) h in (
      c.what,
      c.identity,
      sound.carried (note_at s.trace q) c.what
          (q, there, get_or_default s.trace q (note_at s.trace q) no_note there) c.frame,
    )

-- a data frame that a restarted node waits with was not carried before the first slot of its
-- incarnation
pub data_late : (scenario : ScenarioParts) (s : RunState) → HasSoundFrames scenario s → EachRunning (HasLateFrames scenario) s → (i : ℕ)
    → runs (node_at s.nodes i) ≡ true → (m : MsgKey) (q : ℕ) → waits (tot_of_key m) (node_at s.nodes i).waiting ≡ true
    → Carried s.trace q (tot_of_key m)
    → 0 < (node_at s.nodes i).present.number → (node_at s.nodes i).present.from ≤ (note_at s.trace q).slot
data_late scenario s sound late i running m q w c later =
    let node = node_at s.nodes i in
    let mine = waits_has (IsLate scenario node.present i) node.waiting (late i running) (tot_of_key m) w in
    let then = carried_has scenario s sound q (tot_of_key m) c in
    let own = mine.2 (sym (ap (λ (x : Identity). x.class) mine.1)) in
    let old = then.2.data_of (sym (ap (λ (x : Identity). x.class) then.1)) in
    let ids : identity_of (data_frame own.message) ≡ identity_of (data_frame old.message) =
    ap identity_of own.is ∙ sym mine.1 ∙ then.1 ∙ sym (ap identity_of old.is) in
    let one : own.message ≡ old.message = same_message scenario.sends own.message old.message own.stands old.stands
    (ap (λ (x : Identity). x.node) ids) (ap (λ (x : Identity). x.number) ids) in
    let slots : own.message.slot ≡ old.message.slot = ap (λ (n : Message). n.slot) one in
    let from = own.late later in
    let by_then = old.by_then in
    omega (arith, slots, from, by_then)

-- two frames that accept a message are one
pub accept_one : (scenario : ScenarioParts) (slot : ℕ) (m : MsgKey) (f g : FrameParts) → accept_of_key m ≡ identity_of f
    → accept_of_key m ≡ identity_of g
    → IsSound scenario slot f → IsSound scenario slot g → f ≡ g
accept_one scenario slot m f g a b p q =
    let mine : f ≡ accept_frame f = p.accept (sym (ap (λ (x : Identity). x.class) a)) in
    let own : g ≡ accept_frame g = q.accept (sym (ap (λ (x : Identity). x.class) b)) in
    let ids : identity_of f ≡ identity_of g = sym a ∙ b in
    let same : accept_frame f ≡ accept_frame g =
    λ k. record { class = class.Accept; number = (ids k).number; node = (ids k).node; inc = 0; payload = [] } in
    mine ∙ same ∙ sym own
