-- How many frames wait at most, how many entries a log has, and how many actions a turn.
use Rattle.std.proofs.Common.{◌≡◌, ℕ, ◌+◌, ◌*◌, ◌<◌, ◌≤◌, ◌==◌, inl, inr, true, List, [], ◌∷◌, length, drop, filter, count_by, refl, ap, sym, subst, ◌∙◌, arith, eqb-true, eq-eqb, All}
use Rattle.std.proofs.Math.Nat.{mul-le-mul_left}
use Rattle.std.proofs.lemmas.Bool.{and_from, and_parts, cases_Bool, false≢true}
use Rattle.std.proofs.lemmas.List.{length-map}
use Rattle.std.proofs.lemmas.List.Elements.{All-head, All-tail}
use Rattle.std.proofs.lemmas.List.Sums.{count_by-le-length, length-filter}
use Rattle.cany_base.specs.declared.actions.Action.{Action}
use Rattle.cany_base.specs.declared.format.Format.{Format}
use Rattle.cany_base.specs.declared.log_entry.LogEntry.{LogEntry}
use Rattle.cany_base.specs.declared.log_entry.LogEntry.TheVariants.{Deliver, Failed, View}
use Rattle.cany_base.specs.declared.message.MsgKey.{MsgKey}
use Rattle.cany_base.specs.declared.message.NodeAsk.{NodeAsk}
use Rattle.cany_base.specs.declared.message.Service.{Service}
use Rattle.cany_base.specs.declared.message.Service.TheVariants.{Ed, Rel, Tot}
use Rattle.cany_base.specs.declared.notice.NoticeKind.{NoticeKind}
use Rattle.cany_base.specs.Bounded.{Bounded}
use Rattle.cany_base.specs.Frame.{FrameParts, data_class, identifier_of}
use Rattle.cany_base.specs.Params.{Parameters}
use Rattle.cany_base.specs.Scenario.{ScenarioParts}
use Rattle.cany_model.specs.Bus.Frames.{Identity, bare, identity_of, is_of}
use Rattle.cany_model.specs.Promises.Entries.{delivers_key}
use Rattle.cany_model.specs.Rules.Log.{log_from}
use Rattle.cany_model.specs.Rules.Messages.{Message, messages_of, message_key}
use Rattle.cany_model.specs.Rules.Notices.{BelongsTo, IsDataOf}
use Rattle.cany_model.specs.Rules.Protocol.{Protocol}
use Rattle.cany_model.specs.Rules.Rooms.{actions_room, cycles, log_room, waiting_room}
use Rattle.cany_base.specs.Cycles.{cycle_of}
use Rattle.cany_model.proofs.Among.{Among, Among-drop, Among-from_Contains, Among-from_count, Among-weaker, count-no, count-yes}
use Rattle.cany_model.proofs.Bus.Carried.{Has}
use Rattle.cany_model.proofs.Bus.Identities.{same_identity-true}
use Rattle.cany_model.proofs.Rules.LogFacts.{log_once, made_by}
use Rattle.cany_model.proofs.Rules.Services.MessageKeys.{IsOneOf, length-messages_of, same_message}
use Rattle.cany_model.proofs.Rules.ProtocolFacts.{IsFoundedEntry, IsLawful, log_by}
use Rattle.cany_model.proofs.Rules.RoomFacts.{few_waiting, pigeonhole}
use Rattle.cany_model.proofs.Rules.Site.SignRooms.{each_made, few_signs, is_delivered, log_parts}
use Rattle.cany_model.proofs.Rules.Site.ViewLog.{few_views}
use Rattle.cany_message.proofs.NumberFacts.{few_sends}
use Rattle.can_controller.specs.Waiting.{IsAscending, identity_number}
use Rattle.cany_views.specs.Views.{asked_cycles}
use Rattle.cany_node.specs.Apply.{AreAskable, is_sign}
use Rattle.cany_node.specs.Node.{AreReadable, IsNodeOf, NodeParts}
use Rattle.cany_node.specs.Turning.{heard_room, script_room}
use Rattle.cany_node.proofs.Askable.{read_belongs}

-- ---- the waiting frames

is_of-ident : (format : Format) (x : Identity) (f : FrameParts) → is_of x f ≡ true
    → identifier_of format (bare x) ≡ identity_number format f
is_of-ident format x f is = ap (λ y. identifier_of format (bare y)) (same_identity-true x (identity_of f) is)

none_above : (format : Format) (x : Identity) (n : ℕ) (w : List FrameParts) → identifier_of format (bare x) ≡ n
    → All (λ g. n < identity_number format g) w → count_by (is_of x) w ≡ 0
none_above format x n [] is up = refl
none_above format x n (g ∷ w) is up = elim (cases_Bool (is_of x g)) [
  | inl same ↦ absurd (omega (arith, is, is_of-ident format x g same, All-head (λ h. n < identity_number format h) g w up))
  | inr other ↦ count-no (is_of x) g w other ∙ none_above format x n w is (All-tail (λ h. n < identity_number format h) g w up)
]

ascending_distinct : (format : Format) (w : List FrameParts) → IsAscending format w → (x : Identity) → count_by (is_of x) w ≤ 1
ascending_distinct format [] up x = omega arith
ascending_distinct format (f ∷ w) up x = elim (cases_Bool (is_of x f)) [
  | inl same ↦ omega (arith, count-yes (is_of x) f w same, none_above format x (identity_number format f) w (is_of-ident format x f same) up.0)
  | inr other ↦ omega (arith, count-no (is_of x) f w other, ascending_distinct format w up.1 x)
]

pub waiting_below : (scenario : ScenarioParts) (i : ℕ) (format : Format) (w : List FrameParts) → IsAscending format w
    → AreAskable scenario i w
    → count_by is_sign w ≤ 3 → length w < waiting_room scenario
waiting_below scenario i format w up all signs = few_waiting scenario i w (ascending_distinct format w up) all signs

-- ---- a delivery is of a message of the scenario

-- the protocol delivered the message of a key, by its service
record Served (scenario : ScenarioParts) (p : Protocol) (key : MsgKey) : Type 0 where
  message : Message
  stands : IsOneOf (messages_of scenario.sends) message
  named : message_key message ≡ key
  serves : p.delivers message.service ≡ true

belongs_data : (scenario : ScenarioParts) (by : Service) (slot : ℕ) (f : FrameParts) → BelongsTo scenario slot (data_class by) f
    → IsDataOf scenario by f
belongs_data scenario Ed slot f h = h
belongs_data scenario Rel slot f h = h
belongs_data scenario Tot slot f h = h

served_by : (scenario : ScenarioParts) (p : Protocol) (i : ℕ) (past : List NoticeKind) (place : ℕ) (key : MsgKey) (entry : LogEntry)
    → AreReadable scenario past → delivers_key key entry ≡ true → IsFoundedEntry scenario p i (drop place past) entry
    → Served scenario p key
served_by scenario p i past place key (Deliver slot by msg payload) readable is r =
    let parts = and_parts (msg.origin == key.origin) (msg.seq == key.seq) is in
    let same : msg ≡ key = λ k. record { origin = eqb-true msg.origin key.origin parts.0 k; seq = eqb-true msg.seq key.seq parts.1 k } in
    let read = read_belongs scenario past r.frame readable (Among-drop (Has r.frame) place past r.read) in
    let found = belongs_data scenario by read.0 r.frame (subst (λ c. BelongsTo scenario read.0 c r.frame) r.class read.1) in
    record {
      message = found.message;
      stands = Among-from_Contains (messages_of scenario.sends) found.message found.stands;
      named = ap (λ (f : FrameParts). record { origin = f.node; seq = f.number }) found.frame ∙ r.key ∙ same;
      serves = ap p.delivers found.sent_by ∙ r.serves;
    }
served_by scenario p i past place key (Failed slot node cycle) readable is r = absurd (false≢true is)
served_by scenario p i past place key (View slot number members) readable is r = absurd (false≢true is)

-- ---- no key twice

served : (scenario : ScenarioParts) (i : ℕ) (past : List NoticeKind) (key : MsgKey) (p : Protocol) → AreReadable scenario past → IsLawful p
    → 0 < count_by (delivers_key key) (log_by p scenario i past) → Served scenario p key
served scenario i past key p readable lawful some =
    let made = made_by (λ entry. delivers_key key entry ≡ true) scenario p lawful i past (Among-from_count (delivers_key key) (log_by p scenario i past) some) in
    served_by scenario p i past made.place key made.entry readable made.is made.founded

one_serves : (scenario : ScenarioParts) (key : MsgKey) (p q : Protocol) (first : Served scenario p key) → Served scenario q key
    → q.delivers first.message.service ≡ true
one_serves scenario key p q first next =
    let keys : message_key first.message ≡ message_key next.message = first.named ∙ sym next.named in
    ap (λ (m : Message). q.delivers m.service)
    (same_message scenario.sends first.message next.message first.stands next.stands (ap (λ (k : MsgKey). k.origin) keys) (ap (λ (k : MsgKey). k.seq) keys))
    ∙ next.serves

delivered_once : (scenario : ScenarioParts) (i : ℕ) (past : List NoticeKind) → AreReadable scenario past → (key : MsgKey)
    → count_by (delivers_key key) (log_from scenario i past) ≤ 1
delivered_once scenario i past readable key =
    log_once scenario i key past (λ p lawful some. (
      (served scenario i past key p readable lawful some).message.service,
      λ q other more. one_serves scenario key p q (served scenario i past key p readable lawful some) (served scenario i past key q readable other more),
    ))

-- ---- as many as the messages

-- the entry delivers one of the messages, if it delivers one
abbrev Known : ScenarioParts → LogEntry → Type 0
Known scenario e = is_delivered e ≡ true → Among (λ m. delivers_key (message_key m) e ≡ true) (messages_of scenario.sends)

known : (scenario : ScenarioParts) (i : ℕ) (past : List NoticeKind) → AreReadable scenario past → (p : Protocol) (place : ℕ) (e : LogEntry)
    → IsFoundedEntry scenario p i (drop place past) e → Known scenario e
known scenario i past readable p place (Deliver slot by msg payload) r is =
    let e : LogEntry = Deliver slot by msg payload in
    let itself : delivers_key msg e ≡ true =
    and_from (msg.origin == msg.origin) (msg.seq == msg.seq) (eq-eqb msg.origin msg.origin refl) (eq-eqb msg.seq msg.seq refl) in
    let s = served_by scenario p i past place msg e readable itself r in
    Among-weaker (λ k. k ≡ s.message) (λ m. delivers_key (message_key m) e ≡ true)
    (λ m same. ap (λ k. delivers_key (message_key k) e) same ∙ ap (λ key. delivers_key key e) s.named ∙ itself) (messages_of scenario.sends) s.stands
known scenario i past readable p place (Failed slot node cycle) r is = absurd (false≢true is)
known scenario i past readable p place (View slot number members) r is = absurd (false≢true is)

-- no log has more deliveries than there are messages
few_delivered : (scenario : ScenarioParts) (i : ℕ) (past : List NoticeKind) → AreReadable scenario past
    → count_by is_delivered (log_from scenario i past) ≤ length scenario.sends
few_delivered scenario i past readable =
    omega (
      arith,
      pigeonhole (λ m e. delivers_key (message_key m) e) is_delivered (λ m. true) (log_from scenario i past) (messages_of scenario.sends)
          (each_made (Known scenario) scenario i past (known scenario i past readable))
          (λ m. delivered_once scenario i past readable (message_key m)),
      count_by-le-length (λ m. true) (messages_of scenario.sends),
      length-messages_of scenario.sends,
    )

-- ---- the whole log

-- no log has more entries than its room: its deliveries, its failure signs and its views
pub log_within : (scenario : ScenarioParts) (i : ℕ) (past : List NoticeKind) → AreReadable scenario past
    → length past ≤ scenario.params.slots
    → length (log_from scenario i past) ≤ log_room scenario
log_within scenario i past readable within =
    omega (
      arith,
      log_parts scenario i past,
      few_delivered scenario i past readable,
      few_signs scenario i past readable within,
      few_views scenario i past within,
    )

-- ---- the actions of a turn

-- a node makes no more of the scripted asks than there are
own_asks : (p : Parameters) (i : ℕ) (asks : List NodeAsk) → length (asked_cycles p i asks) ≤ length asks
own_asks p i asks =
    let own : List NodeAsk = filter (λ ask. ask.node == i) asks in
    omega (
      arith,
      length-map own (λ ask. cycle_of p ask.slot),
      length-filter (λ ask. ask.node == i) asks,
      count_by-le-length (λ ask. ask.node == i) asks,
    )

-- there is room for what the protocols do at a notice, for what the script asks for, and for the
-- next of the backlog
pub actions_within : (scenario : ScenarioParts) (past : List NoticeKind) (v : NodeParts) → IsNodeOf scenario past v
    → heard_room v + script_room v < actions_room scenario
actions_within scenario past v stands =
    let two : (scenario.params.nodes + 1) * 2 ≤ (scenario.params.nodes + 1) * (cycles scenario + 2) = mul-le-mul_left (scenario.params.nodes + 1) (omega arith) in
    omega (
      arith,
      two,
      stands.totcan.limits.room,
      few_sends scenario Tot,
      ap (λ (p : Parameters). p.nodes) stands.membership.life.limits.are_params,
      ap length stands.membership.views.limits.are_joins,
      ap length stands.membership.views.limits.are_leaves,
      own_asks scenario.params v.node scenario.joins,
      own_asks scenario.params v.node scenario.leaves,
      stands.agenda.few,
      stands.joins.few,
      stands.leaves.few,
    )

-- what the protocols did at a notice leaves room for the script
pub script_fits : (scenario : ScenarioParts) (past : List NoticeKind) (v heard : NodeParts) (out filled : Bounded Action) → IsNodeOf scenario past v → out.items ≡ []
    → out.room ≡ actions_room scenario → length filled.items ≤ length out.items + heard_room v → filled.room ≡ out.room → script_room heard ≡ script_room v
    → length filled.items + script_room heard < filled.room
script_fits scenario past v heard out filled stands free actions few room same =
    omega (arith, actions_within scenario past v stands, ap length free, actions, few, room, same)
