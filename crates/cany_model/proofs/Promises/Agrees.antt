-- Agreement on a message whose data frame is diffused and that is delivered at once: the frame is
-- agreed on, and who got it or sent it as its origin has delivered it.
use Rattle.std.proofs.Common.{◌≡◌, ℕ, ◌<◌, ◌≤◌, ◌==◌, ◌&&◌, ◌⊎◌, inl, inr, true, false, not, nat_lt, List, length, drop, Contains, Option, Some, None, refl, ap, sym, ◌∙◌, subst, arith, ltb-false}
use Rattle.cany_base.specs.Limits.{most_nodes}
use Rattle.std.proofs.lemmas.Bool.{or_left, or_right, and_from, and_parts, cases_eq, eq-eqb, ltb-true, not-true}
use Rattle.cany_base.specs.declared.class.Class.TheVariants as class
use Rattle.cany_base.specs.declared.log_entry.LogEntry.{LogEntry}
use Rattle.cany_base.specs.declared.log_entry.LogEntry.TheVariants.{Deliver, Failed, View}
use Rattle.cany_base.specs.declared.message.MsgKey.{MsgKey}
use Rattle.cany_base.specs.declared.message.Service.{Service}
use Rattle.cany_base.specs.declared.message.Service.TheVariants.{Ed, Rel, Tot}
use Rattle.cany_base.specs.declared.notice.NoticeKind.{NoticeKind}
use Rattle.cany_base.specs.declared.step.Step.{Step}
use Rattle.cany_base.specs.Frame.{FrameParts, data_class}
use Rattle.cany_base.specs.Scenario.{ScenarioParts}
use Rattle.cany_model.specs.Bus.Frames.{Identity, identity_of, same_class}
use Rattle.cany_model.specs.Bus.History.{history, copies, has_own, is_got, is_sent}
use Rattle.cany_model.specs.Runs.Run.{run}
use Rattle.cany_model.specs.Bus.State.{Incarnation, RunState}
use Rattle.cany_base.specs.Nodes.{has}
use Rattle.cany_model.specs.Promises.Hypothesis.{IsWithin}
use Rattle.cany_model.specs.Promises.Entries.{HasDelivered, is_delivery_of}
use Rattle.cany_model.specs.Promises.FirstSlots.{first_carried}
use Rattle.cany_model.specs.Promises.Safe.{IsAgreedFrom, IsAgreedOn}
use Rattle.cany_model.specs.Promises.Settled.{IsCorrect, IsCorrectFrom, is_settled, origin_has_asked}
use Rattle.cany_model.specs.Rules.Delivery.{brings, delivery}
use Rattle.cany_model.specs.Rules.Log.{log}
use Rattle.cany_model.specs.Rules.Messages.{Message, messages_of, data_frame, data_id}
use Rattle.cany_model.specs.Rules.Protocol.{Protocol}
use Rattle.cany_model.specs.Rules.Sends.{is_sent_at_once}
use Rattle.cany_model.specs.Rules.Turn.{scenario_at, scenario_for, turn_effects}
use Rattle.cany_model.proofs.Among.{Among, Among-drop, Among-either, Among-from_Contains, Among-weaker, Among-which, Contains-from_Among, any-from_Among, count-from_Among}
use Rattle.cany_model.proofs.Bus.Carried.{Carries, CarriesClean, Has, SentBy, is_got-from, is_sent-from}
use Rattle.cany_model.proofs.Promises.Agreement.{IsAtRest, carried_read, owed_carried, own_clean, sent_carried}
use Rattle.cany_model.proofs.Promises.Diffusion.{Duty, IsDiffused}
use Rattle.cany_model.proofs.Promises.DiffusionRun.{run_diffuses}
use Rattle.cany_model.proofs.Promises.OwnSlotsAlone.{run_numbered}
use Rattle.cany_model.proofs.Promises.Firsts.{carried_has_first, first_some}
use Rattle.cany_model.proofs.Promises.OneFrame.{data_carries, only_frame}
use Rattle.cany_model.proofs.Promises.SettledFacts.{settled_asked_or_late, settled_read, settled_waits}
use Rattle.cany_model.proofs.Promises.Sources.{IsSourced, sourced}
use Rattle.cany_model.proofs.Rules.Services.AskedFacts.{asked_at_once}
use Rattle.cany_model.proofs.Rules.Services.DeliveryFacts.{DeliversAtOnce, entry_from_brought}
use Rattle.cany_model.proofs.Rules.LogFacts.{log_has, log_split, made_by}
use Rattle.cany_model.proofs.Rules.Services.MessageKeys.{IsOneOf}
use Rattle.cany_model.proofs.Runs.FrameInvariants.{history_note}
use Rattle.cany_model.proofs.Runs.Runs.{orderly}
use Rattle.cany_model.proofs.Rules.IdleBeforeTakingPart.{IsBegun}
use Rattle.cany_model.proofs.Rules.ProtocolFacts.{IsFoundedEntry, MayStart, is_data}
use Rattle.cany_model.proofs.Rules.Protocols.{IsProtocol}

-- a data frame carries no vector
pub data_is_heard : (by : Service) → same_class (data_class by) class.Rha ≡ false
unfolding same_class
data_is_heard Ed = refl
data_is_heard Rel = refl
data_is_heard Tot = refl

-- which nodes are to send the frame of the message, by the scenario that their incarnation follows
-- and what they have read
abbrev pub Owes : Type 1
Owes = ScenarioParts → ℕ → List NoticeKind → Type 0

-- its origin may send it without a copy
abbrev pub duty_of : Message → Owes → ScenarioParts → Duty
duty_of m owes scenario = record { owes = owes scenario; starts = MayStart scenario m; begins = IsBegun scenario }

-- what the argument uses of a state
pub record Ground (scenario : ScenarioParts) (m : Message) (owes : Owes) (s : RunState) : Type 0 where
  pub at_once : is_sent_at_once m.service ≡ true
  pub rest : IsAtRest scenario (data_id m) (duty_of m owes) s
  pub sourced : IsSourced scenario s
  pub is : IsOneOf (messages_of scenario.sends) m
  pub settled : is_settled scenario s m ≡ true

-- what a protocol has to show besides
pub record Rules (scenario : ScenarioParts) (m : Message) (owes : Owes) (s : RunState) : Type 0 where
  pub protocol : Protocol
  pub is_one : IsProtocol protocol
  pub delivers : DeliversAtOnce protocol m.service
  -- an origin is to send the frame once it has read its slot
  pub origin_owes : (sc : ScenarioParts) (i : ℕ) (past : List NoticeKind) → MayStart sc m i past → owes sc i past
  -- a frame that a correct node got was carried Clean, where the node is not its origin
  pub got_carried : Ground scenario m owes s → (i : ℕ) → IsCorrect scenario s i → (m.origin ≡ i → ⊥) → 0 < copies (data_id m) (history i s)
      → Among (CarriesClean (data_id m)) s.trace

-- ---- from a correct origin or a delivery to a Clean slot

-- an origin that takes part since the scripted slot was to send it
pub origin_owed : (scenario : ScenarioParts) (m : Message) (owes : Owes) (s : RunState) → Rules scenario m owes s → Ground scenario m owes s
    → IsCorrectFrom scenario s m.slot m.origin → Among (CarriesClean (data_id m)) s.trace
origin_owed scenario m owes s rules g correct =
    let i : ℕ = m.origin in
    let sc : ScenarioParts = scenario_at scenario s i in
    let parts = asked_parts sc m (history i s) (sym (asked_at_once sc m i (history i s) g.is g.at_once refl) ∙ asked) in
    owed_carried scenario (data_id m) (duty_of m owes) s g.rest i correct.correct (rules.origin_owes sc i (history i s) (refl, parts.0, parts.1))
  where
    asked : origin_has_asked scenario s m ≡ true
    asked = elim (settled_asked_or_late scenario s m g.settled correct.correct.running) [
      | inl h ↦ h
      | inr late ↦ let from = correct.took_part in absurd (omega (arith, late, from))
    ]

    asked_parts : (sc : ScenarioParts) (m : Message) (past : List NoticeKind)
        → (is_sent_at_once m.service && nat_lt m.slot (length past) && not (nat_lt m.slot sc.from)) ≡ true → (m.slot < length past) × (sc.from ≤ m.slot)
    asked_parts sc m past h =
        let outer = and_parts (is_sent_at_once m.service && nat_lt m.slot (length past)) (not (nat_lt m.slot sc.from)) h in
        let read = and_parts (is_sent_at_once m.service) (nat_lt m.slot (length past)) outer.0 in
        (ltb-true m.slot (length past) read.1, ltb-false m.slot sc.from (not-true (nat_lt m.slot sc.from) outer.1))

-- the origin was among the senders of a slot that carried it
pub origin_sent : (scenario : ScenarioParts) (m : Message) (s : RunState) → IsSourced scenario s → Among (Carries (data_id m)) s.trace
    → Among (SentBy m.origin (data_id m)) s.trace
origin_sent scenario m s sourced carried =
    let w = Among-which (Carries (data_id m)) s.trace carried in
    let sent = sourced.carried w.0 w.2.what w.1 w.2.frame (ap (λ (y : Identity). is_data y.class) (sym w.2.identity) ∙ data_carries m.service) in
    let id : data_id m ≡ identity_of (data_frame sent.message) = w.2.identity ∙ sym (ap identity_of sent.is) in
    let origin : m.origin ≡ sent.message.origin = ap (λ (y : Identity). y.node) id in
    Among-weaker (λ n. n ≡ sent.sent.note) (SentBy m.origin (data_id m))
    (λ n e. subst (SentBy m.origin (data_id m)) (sym e) (record {
      carries = record { what = data_frame sent.message; frame = sent.sent.frame; identity = id };
      sender = subst (λ r. has sent.sent.note.senders r ≡ true) (sym origin) sent.sent.sender;
    })) s.trace (Among-from_Contains s.trace sent.sent.note sent.sent.stands)

-- an origin that takes part since the first slot that carried it was to send it
origin_clean : (scenario : ScenarioParts) (m : Message) (owes : Owes) (s : RunState) → Ground scenario m owes s → (first : ℕ)
    → first_carried (data_id m) s.trace ≡ Some first → (i : ℕ) → IsCorrectFrom scenario s first i → i ≡ m.origin → Among (CarriesClean (data_id m)) s.trace
origin_clean scenario m owes s g first is i correct origin =
    sent_carried scenario (data_id m) (duty_of m owes) s g.rest first is i correct
    (subst (λ k. Among (SentBy k (data_id m)) s.trace) (sym origin) (origin_sent scenario m s g.sourced (first_some (data_id m) s.trace first is)))

-- the frame of what a log delivers was got, or sent
read_either : (x : Identity) (f : FrameParts) (past : List NoticeKind) → x ≡ identity_of f → Among (Has f) past → (0 < copies x past) ⊎ (has_own x past ≡ true)
unfolding copies has_own
read_either x f past same h =
    elim (Among-either (λ e. is_got x e ≡ true) (λ e. is_sent x e ≡ true) past
    (Among-weaker (Has f) (λ e. (is_got x e ≡ true) ⊎ (is_sent x e ≡ true))
    (λ e has. elim has [ inl got ↦ inl (is_got-from x f e got same) | inr sent ↦ inr (is_sent-from x f e sent same) ]) past h)) [
      | inl got ↦ inl (count-from_Among (is_got x) past got)
      | inr sent ↦ inr (any-from_Among (is_sent x) past sent)
    ]

-- the frame that a founded delivery of the message is of
record WasRead (m : Message) (past : List NoticeKind) : Type 0 where
  frame : FrameParts
  same : data_id m ≡ identity_of frame
  read : Among (Has frame) past

delivered_frame : (m : Message) (scenario : ScenarioParts) (i : ℕ) (p : Protocol) (past : List NoticeKind) (place : ℕ) (entry : LogEntry) → is_delivery_of m entry
    → IsFoundedEntry scenario p i (drop place past) entry → WasRead m past
delivered_frame m scenario i p past place (Deliver slot by msg payload) is r =
    let key = is.0 ∙ sym r.key in
    let number : m.seq ≡ r.frame.number = ap (λ (k : MsgKey). k.seq) key in
    let origin : m.origin ≡ r.frame.node = ap (λ (k : MsgKey). k.origin) key in
    let class : data_class m.service ≡ r.frame.class = ap data_class is.1 ∙ sym r.class in
    record {
      frame = r.frame;
      same = λ k. record { class = class k; number = number k; node = origin k };
      read = Among-drop (Has r.frame) place past r.read;
    }
delivered_frame m scenario i p past place (Failed slot node cycle) is r = absurd is
delivered_frame m scenario i p past place (View slot number members) is r = absurd is

-- a message that a node delivered, it has read
delivered_read : (scenario : ScenarioParts) (s : RunState) (i : ℕ) (m : Message) → HasDelivered scenario s i m → WasRead m (history i s)
delivered_read scenario s i m h =
    let sc : ScenarioParts = scenario_at scenario s i in
    let split = log_split (λ y. y ≡ h.entry) sc i (history i s) (Among-from_Contains (log scenario s i) h.entry h.stands) in
    let made = made_by (λ y. y ≡ h.entry) sc split.0 split.1 i (history i s) split.2 in
    delivered_frame m sc i split.0 (history i s) made.place made.entry (subst (is_delivery_of m) (sym made.is) h.delivers) made.founded

delivered_carried : (scenario : ScenarioParts) (m : Message) (owes : Owes) (s : RunState) → Rules scenario m owes s → Ground scenario m owes s → (first : ℕ)
    → first_carried (data_id m) s.trace ≡ Some first → (i : ℕ) → IsCorrectFrom scenario s first i → HasDelivered scenario s i m
    → Among (CarriesClean (data_id m)) s.trace
delivered_carried scenario m owes s rules g first is i correct h =
    let r = delivered_read scenario s i m h in
    elim (cases_eq m.origin i) [
      | inl origin ↦ origin_clean scenario m owes s g first is i correct (sym origin)
      | inr other ↦ elim (read_either (data_id m) r.frame (history i s) r.same r.read) [
        | inl some ↦ rules.got_carried g i correct.correct other some
        | inr own ↦ own_clean scenario (data_id m) s g.rest.within i own
      ]
    ]

-- one that was never carried, no node delivered
never_delivered : (scenario : ScenarioParts) (m : Message) (s : RunState) → first_carried (data_id m) s.trace ≡ None → (i : ℕ) → HasDelivered scenario s i m → ⊥
never_delivered scenario m s never i h =
    let r = delivered_read scenario s i m h in
    let note = history_note s i r.frame r.read in
    carried_has_first (data_id m) s.trace
    (Among-weaker (λ n. n ≡ note.0) (Carries (data_id m))
    (λ n e. subst (Carries (data_id m)) (sym e) (record { what = r.frame; frame = note.2; identity = r.same })) s.trace (Among-from_Contains s.trace note.0 note.1)) never

-- ---- from a Clean slot to every log

-- what was carried Clean, every correct node that takes part since the first slot that carried it
-- has read
carried_brought : (scenario : ScenarioParts) (m : Message) (owes : Owes) (s : RunState) → Ground scenario m owes s → (first : ℕ)
    → first_carried (data_id m) s.trace ≡ Some first → (j : ℕ) → IsCorrectFrom scenario s first j
    → Among (CarriesClean (data_id m)) s.trace → Among (λ e. brings j (data_id m) e ≡ true) (history j s)
carried_brought scenario m owes s g first is j correct clean =
    elim (carried_read scenario (data_id m) (duty_of m owes) s g.rest first is j correct clean) [
      | inl got ↦ Among-weaker (λ e. is_got (data_id m) e ≡ true) (λ e. brings j (data_id m) e ≡ true)
          (λ e k. or_left (is_got (data_id m) e) (m.origin == j && is_sent (data_id m) e) k) (history j s) got
      | inr sent ↦ Among-weaker (λ e. is_sent (data_id m) e ≡ true) (λ e. brings j (data_id m) e ≡ true)
          (λ e k. or_right (is_got (data_id m) e) (m.origin == j && is_sent (data_id m) e)
          (and_from (m.origin == j) (is_sent (data_id m) e) (eq-eqb m.origin j sent.0.0) k)) (history j s) sent.1
    ]

-- a frame of the message that a node read is the message's
read_frame : (scenario : ScenarioParts) (m : Message) (owes : Owes) (s : RunState) → Ground scenario m owes s → (i : ℕ) (f : FrameParts) → data_id m ≡ identity_of f
    → Among (Has f) (history i s) → f ≡ data_frame m
read_frame scenario m owes s g i f e h =
    let note = history_note s i f h in
    only_frame scenario s m g.sourced g.is note.0 f note.1 note.2 e

-- so every such node delivered it
brought_delivered : (scenario : ScenarioParts) (m : Message) (owes : Owes) (s : RunState) → Rules scenario m owes s → Ground scenario m owes s → (j : ℕ)
    → Among (λ e. brings j (data_id m) e ≡ true) (history j s) → HasDelivered scenario s j m
brought_delivered scenario m owes s rules g j brought =
    let sc : ScenarioParts = scenario_at scenario s j in
    let made = entry_from_brought rules.protocol m.service rules.delivers sc j (data_id m) (history j s) refl brought in
    let same : made.what ≡ data_frame m = read_frame scenario m owes s g j made.what made.identity made.read in
    record {
      entry = delivery made.slot m.service made.what;
      stands = Contains-from_Among (log scenario s j) (delivery made.slot m.service made.what)
          (log_has (λ y. y ≡ delivery made.slot m.service made.what) sc j rules.protocol rules.is_one (history j s) made.stands);
      delivers = (ap (λ (f : FrameParts). record { origin = f.node; seq = f.number }) (sym same), refl, ap (λ (f : FrameParts). f.payload) (sym same));
    }

ground_agrees : (scenario : ScenarioParts) (m : Message) (owes : Owes) (s : RunState) → Rules scenario m owes s
    → (is_settled scenario s m ≡ true → Ground scenario m owes s) → IsAgreedOn scenario s m
ground_agrees scenario m owes s rules ground = by_first (first_carried (data_id m) s.trace) refl
  where
    by_first : (o : Option ℕ) → first_carried (data_id m) s.trace ≡ o → IsAgreedFrom scenario s m o
    by_first (Some first) is = λ settled i correct because j correct_j.
        let g = ground settled in
        let clean : Among (CarriesClean (data_id m)) s.trace = elim because [
          | inl origin ↦ origin_clean scenario m owes s g first is i correct origin
          | inr delivered ↦ delivered_carried scenario m owes s rules g first is i correct delivered
        ] in
        brought_delivered scenario m owes s rules g j (carried_brought scenario m owes s g first is j correct_j clean)
    by_first None never = (
      λ i correct delivered. never_delivered scenario m s never i delivered,
      λ settled correct.
          let clean = origin_owed scenario m owes s rules (ground settled) correct in
          carried_has_first (data_id m) s.trace (Among-weaker (CarriesClean (data_id m)) (Carries (data_id m)) (λ note c. c.carries) s.trace clean) never,
    )

-- ---- every run

-- what is diffused is agreed on
pub run_agrees : (scenario : ScenarioParts) → scenario.params.nodes ≤ most_nodes → (journal : List Step) → IsWithin scenario.params (run scenario journal).trace
    → (m : Message) → Contains (messages_of scenario.sends) m → is_sent_at_once m.service ≡ true → (owes : Owes)
    → (IsOneOf (messages_of scenario.sends) m → (inc : Incarnation)
    → IsDiffused (turn_effects (scenario_for scenario inc)) scenario.params.omit (data_id m) (duty_of m owes (scenario_for scenario inc)))
    → Rules scenario m owes (run scenario journal) → IsAgreedOn scenario (run scenario journal) m
run_agrees scenario few journal within m stands at_once owes diffused rules =
    let s : RunState = run scenario journal in
    let is : IsOneOf (messages_of scenario.sends) m = Among-from_Contains (messages_of scenario.sends) m stands in
    ground_agrees scenario m owes s rules (λ settled. record {
      at_once = at_once;
      rest = record {
        few = few;
        within = within;
        numbered = run_numbered scenario.params.nodes s (orderly scenario journal);
        heard = data_is_heard m.service;
        rules = diffused is;
        diffuses = run_diffuses scenario scenario.params.omit (data_id m) (duty_of m owes) (diffused is) (λ inc past begun. begun) journal;
        gone = settled_waits scenario s m settled;
        read = settled_read scenario s m settled;
      };
      sourced = sourced scenario journal few;
      is = is;
      settled = settled;
    })
