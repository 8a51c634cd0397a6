-- Integrity of every run: no message is delivered twice, or without having been sent.
use Rattle.std.specs.Prelude.{◌≡◌, ℕ, suc, ◌+◌, ◌-◌, ◌/◌, ◌<◌, ◌≤◌, ◌==◌, true, List, Some, length, drop, count_by, Contains}
use Rattle.cany_base.specs.Limits.{most_nodes}
use Rattle.std.proofs.Common.{sym, ap, ◌∙◌, subst, inl, inr, arith, length-drop, eqb-true}
use Rattle.std.proofs.lemmas.Bool.{and_parts}
use Rattle.std.proofs.lemmas.List.{get_or-map}
use Rattle.std.proofs.lemmas.List.Elements.{Contains-get_or}
use Rattle.cany_base.specs.declared.log_entry.LogEntry.{LogEntry}
use Rattle.cany_base.specs.declared.log_entry.LogEntry.TheVariants.{Deliver, Failed, View}
use Rattle.cany_base.specs.declared.message.MsgKey.{MsgKey}
use Rattle.cany_base.specs.declared.message.Service.{Service}
use Rattle.cany_base.specs.declared.notice.NoticeKind.TheVariants.{Got, Idle}
use Rattle.cany_base.specs.declared.step.Step.{Step}
use Rattle.cany_base.specs.Frame.{FrameParts, data_class}
use Rattle.cany_base.specs.Scenario.{ScenarioParts}
use Rattle.cany_model.specs.Bus.Frames.{identity_of}
use Rattle.cany_model.specs.Bus.History.{as_seen, given, history}
use Rattle.cany_model.specs.Runs.Run.{run}
use Rattle.cany_model.specs.Bus.State.{Incarnation, RunState, node_at}
use Rattle.cany_model.specs.Promises.Entries.{delivers_key}
use Rattle.cany_model.specs.Promises.Safe.{IsSound, IsIntegral}
use Rattle.cany_model.specs.Rules.Log.{log}
use Rattle.cany_model.specs.Rules.Messages.{data_of}
use Rattle.cany_model.specs.Rules.Notices.{BelongsTo}
use Rattle.cany_model.specs.Rules.Protocol.{Protocol}
use Rattle.cany_model.specs.Rules.Knowledge.{FailureSign}
use Rattle.cany_model.specs.Rules.Turn.{scenario_at}
use Rattle.cany_model.proofs.Among.{Among, Among-from_Contains, Among-from_count, Among-get_or, Among-place, Among-weaker}
use Rattle.cany_model.proofs.Bus.Carried.{Carries, Has, frame_of_notice}
use Rattle.cany_model.proofs.Runs.Runs.{IsOrderly, orderly, history-length, history-at}
use Rattle.cany_model.proofs.Bus.Seen.{seen_frame}
use Rattle.cany_model.proofs.Bus.States.{no_note, note_at}
use Rattle.cany_model.proofs.Promises.WaitingIsAskable.{AllBelong, all_belong, fda_names, readable_later}
use Rattle.cany_model.proofs.Promises.OneFrame.{data_carries, one_service}
use Rattle.cany_model.proofs.Promises.Sources.{IsSent, IsSourced, sourced}
use Rattle.cany_model.proofs.Rules.LogFacts.{log_once, log_split, made_by}
use Rattle.cany_model.proofs.Rules.Services.MessageKeys.{data_class-one}
use Rattle.cany_model.proofs.Rules.ProtocolFacts.{IsFoundedEntry, IsLawful, IsSignal, log_by, is_data}

-- ---- what was read by some slot, was carried by then

record WasCarried (s : RunState) (f : FrameParts) (slot : ℕ) : Type 0 where
  age : ℕ
  below : age < length s.trace
  frame : (note_at s.trace age).frame ≡ Some f
  by_then : (note_at s.trace age).slot ≤ slot

read_carried : (nodes : ℕ) (s : RunState) (i : ℕ) → IsOrderly nodes s → (f : FrameParts) (place slot : ℕ) → length (drop place (history i s)) ≡ suc slot
    → Among (Has f) (drop place (history i s)) → WasCarried s f slot
read_carried nodes s i o f place slot len h =
    let inc : Incarnation = (node_at s.nodes i).present in
    let w = Among-place (Has f) Idle place (history i s) h in
    let read : length (history i s) ≡ length s.trace - (node_at s.nodes i).unread = history-length i s in
    let later : place ≤ w.0 = w.1 in
    let within : w.0 < length (history i s) = w.2 in
    let age : ℕ = (node_at s.nodes i).unread + w.0 in
    let below : age < length s.trace = omega arith in
    let number : (note_at s.trace age).slot ≡ length s.trace - 1 - age = o.numbered age below in
    let rest : length (drop place (history i s)) ≡ length (history i s) - place = length-drop place (history i s) in
    let saw : Has f (given i (as_seen inc (note_at s.trace age))) =
    subst (Has f) (history-at i s w.0 Idle within ∙ ap (given i) (get_or-map (as_seen inc) s.trace age no_note no_note below)) w.3 in
    record {
      age = age;
      below = below;
      frame = seen_frame inc (note_at s.trace age) f (frame_of_notice i (as_seen inc (note_at s.trace age)) f saw);
      by_then = omega arith;
    }

carries_of : (s : RunState) (by : Service) (key : MsgKey) (f : FrameParts) (slot : ℕ) → data_of by key ≡ identity_of f → WasCarried s f slot
    → Among (Carries (data_of by key)) s.trace
carries_of s by key f slot same w =
    Among-get_or (Carries (data_of by key)) s.trace w.age no_note w.below (record { what = f; frame = w.frame; identity = same })

-- ---- what is told of a failure

-- a frame that was carried can be read in the slot of the entry
carried_belongs : (scenario : ScenarioParts) (s : RunState) → AllBelong scenario s → (f : FrameParts) (slot : ℕ) → WasCarried s f slot
    → BelongsTo scenario slot f.class f
carried_belongs scenario s all f slot w =
    readable_later scenario (note_at s.trace w.age).slot slot f f.class w.by_then
    (all.carried (note_at s.trace w.age) f (Contains-get_or s.trace w.age no_note w.below) w.frame)

signal_sound : (scenario : ScenarioParts) (s : RunState) (i : ℕ) → IsOrderly scenario.params.nodes s → AllBelong scenario s → (place slot : ℕ) (sign : FailureSign)
    → IsSignal (scenario_at scenario s i) i (drop place (history i s)) slot sign
    → (sign.node < scenario.params.nodes) × (sign.cycle ≤ slot / scenario.params.cycle)
signal_sound scenario s i o all place slot sign r = elim r.because [
  | inr found ↦ (found.node, omega (arith, found.cycle))
  | inl told ↦
      let f : FrameParts = told.frame in
      let read : Among (Has f) (drop place (history i s)) = Among-weaker (λ n. n ≡ Got f) (Has f) (λ n e. inl e) (drop place (history i s)) told.read in
      let names = fda_names scenario slot f told.class
      (carried_belongs scenario s all f slot (read_carried scenario.params.nodes s i o f place slot r.now read)) in
      let node : f.node ≡ sign.node = ap (λ (a : FailureSign). a.node) told.tells in
      let cycle : f.number ≡ sign.cycle = ap (λ (a : FailureSign). a.cycle) told.tells in
      (omega (arith, node, names.node), omega (arith, cycle, names.number))
]

-- ---- what is delivered was sent

sent_of : (scenario : ScenarioParts) (s : RunState) → IsSourced scenario s → (f : FrameParts) (by : Service) (slot : ℕ) → f.class ≡ data_class by → (w : WasCarried s f slot)
    → IsSent scenario s.trace f (note_at s.trace w.age).slot
sent_of scenario s h f by slot class w =
    h.carried (note_at s.trace w.age) f (Contains-get_or s.trace w.age no_note w.below) w.frame (ap (λ c. is_data c) class ∙ data_carries by)

sound : (scenario : ScenarioParts) (s : RunState) (i : ℕ) → IsOrderly scenario.params.nodes s → IsSourced scenario s → AllBelong scenario s → (p : Protocol)
    (place : ℕ) (entry : LogEntry)
    → IsFoundedEntry (scenario_at scenario s i) p i (drop place (history i s)) entry → IsSound scenario s entry
sound scenario s i o h all p place (Deliver slot by msg payload) r =
    let w = read_carried scenario.params.nodes s i o r.frame place slot r.now r.read in
    let sent = sent_of scenario s h r.frame by slot r.class w in (
      sent.message,
      sent.stands,
      ap (λ (g : FrameParts). record { origin = g.node; seq = g.number }) sent.is ∙ r.key,
      data_class-one sent.message.service by (ap (λ (g : FrameParts). g.class) sent.is ∙ r.class),
      ap (λ (g : FrameParts). g.payload) sent.is ∙ r.carries,
      record { note = sent.sent.note; stands = sent.sent.stands; by_then = omega (arith, sent.sent.by_then, w.by_then); frame = sent.sent.frame; sender = sent.sent.sender },
    )
sound scenario s i o h all p place (Failed slot node cycle) r = signal_sound scenario s i o all place slot (record { node = node; cycle = cycle }) r
sound scenario s i o h all p place (View slot number members) r = r.number

-- ---- and once

-- the service by which a protocol delivered a message of the key, which a slot carried
record Served (s : RunState) (p : Protocol) (key : MsgKey) : Type 0 where
  by : Service
  serves : p.delivers by ≡ true
  carried : Among (Carries (data_of by key)) s.trace

served_by : (scenario : ScenarioParts) (nodes : ℕ) (s : RunState) (i : ℕ) → IsOrderly nodes s → (p : Protocol) (key : MsgKey) (place : ℕ) (entry : LogEntry) → delivers_key key entry ≡ true
    → IsFoundedEntry scenario p i (drop place (history i s)) entry → Served s p key
served_by scenario nodes s i o p key place (Deliver slot by msg payload) is r =
    let parts = and_parts (msg.origin == key.origin) (msg.seq == key.seq) is in
    let origin : r.frame.node ≡ key.origin = ap (λ (k : MsgKey). k.origin) r.key ∙ eqb-true msg.origin key.origin parts.0 in
    let seq : r.frame.number ≡ key.seq = ap (λ (k : MsgKey). k.seq) r.key ∙ eqb-true msg.seq key.seq parts.1 in
    let same : data_of by key ≡ identity_of r.frame = λ k. record { class = (sym r.class) k; number = (sym seq) k; node = (sym origin) k } in
    record { by = by; serves = r.serves; carried = carries_of s by key r.frame slot same (read_carried nodes s i o r.frame place slot r.now r.read) }
served_by scenario nodes s i o p key place (Failed slot node cycle) is r = absurd (cc)
served_by scenario nodes s i o p key place (View slot number members) is r = absurd (cc)

served : (scenario : ScenarioParts) (s : RunState) (i : ℕ) → IsOrderly scenario.params.nodes s → (key : MsgKey) (p : Protocol) → IsLawful p
    → 0 < count_by (delivers_key key) (log_by p (scenario_at scenario s i) i (history i s)) → Served s p key
served scenario s i o key p lawful some =
    let made = made_by (λ entry. delivers_key key entry ≡ true) (scenario_at scenario s i) p lawful i (history i s)
    (Among-from_count (delivers_key key) (log_by p (scenario_at scenario s i) i (history i s)) some) in
    served_by (scenario_at scenario s i) scenario.params.nodes s i o p key made.place made.entry made.is made.founded

-- messages of one key have one service
one_serves : (scenario : ScenarioParts) (s : RunState) → IsSourced scenario s → (key : MsgKey) (p q : Protocol) (first : Served s p key) → Served s q key
    → q.delivers first.by ≡ true
one_serves scenario s h key p q first next =
    let same : next.by ≡ first.by = one_service scenario s h next.by first.by key next.carried first.carried in
    ap (λ by. q.delivers by) (sym same) ∙ next.serves

delivered_once : (scenario : ScenarioParts) (s : RunState) → IsOrderly scenario.params.nodes s → IsSourced scenario s → (i : ℕ) (key : MsgKey)
    → count_by (delivers_key key) (log scenario s i) ≤ 1
delivered_once scenario s o h i key =
    log_once (scenario_at scenario s i) i key (history i s) (λ p lawful some. (
      (served scenario s i o key p lawful some).by,
      λ q other more. one_serves scenario s h key p q (served scenario s i o key p lawful some) (served scenario s i o key q other more),
    ))

sound_entry : (scenario : ScenarioParts) (s : RunState) → IsOrderly scenario.params.nodes s → IsSourced scenario s → AllBelong scenario s → (i : ℕ) (entry : LogEntry)
    → Contains (log scenario s i) entry → IsSound scenario s entry
sound_entry scenario s o h all i entry c =
    let split = log_split (λ y. y ≡ entry) (scenario_at scenario s i) i (history i s) (Among-from_Contains (log scenario s i) entry c) in
    let made = made_by (λ y. y ≡ entry) (scenario_at scenario s i) split.0 split.1 i (history i s) split.2 in
    sound scenario s i o h all split.0 made.place entry
    (subst (IsFoundedEntry (scenario_at scenario s i) split.0 i (drop made.place (history i s))) made.is made.founded)

pub integral : (scenario : ScenarioParts) (journal : List Step) → scenario.params.nodes ≤ most_nodes → IsIntegral scenario (run scenario journal)
integral scenario journal few = record {
  once = λ i correct key. delivered_once scenario (run scenario journal) (orderly scenario journal) (sourced scenario journal few) i key;
  sent = λ i correct entry c. sound_entry scenario (run scenario journal) (orderly scenario journal) (sourced scenario journal few)
      (all_belong scenario journal few) i entry c;
}
