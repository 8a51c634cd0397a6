-- What is proved of each protocol. Proofs about runs see a turn through these facts and the list of
-- protocols alone.
use Rattle.std.proofs.Common.{◌≡◌, ℕ, suc, ◌/◌, ◌<◌, ◌≤◌, ◌⊎◌, inl, inr, Bool, true, false, List, [], ◌∷◌, ◌++◌, length, count_by, Contains, Some, refl, ap, sym, ◌∙◌, arith}
use Rattle.std.specs.List.{AllByRecursion}
use Rattle.std.proofs.lemmas.Bool.{false≢true}
use Rattle.cany_base.specs.declared.class.Class.{Class}
use Rattle.cany_base.specs.declared.class.Class.TheVariants as class
use Rattle.cany_base.specs.declared.log_entry.LogEntry.{LogEntry}
use Rattle.cany_base.specs.declared.log_entry.LogEntry.TheVariants.{Deliver, Failed, View}
use Rattle.cany_base.specs.declared.message.MsgKey.{MsgKey}
use Rattle.cany_base.specs.declared.message.NodeAsk.{NodeAsk}
use Rattle.cany_base.specs.declared.message.Service.{Service}
use Rattle.cany_base.specs.declared.message.Service.TheVariants.{Ed, Rel, Tot}
use Rattle.cany_base.specs.declared.notice.NoticeKind.{NoticeKind}
use Rattle.cany_base.specs.declared.notice.NoticeKind.TheVariants.{Got, Sent}
use Rattle.cany_base.specs.Frame.{FrameParts, data_class}
use Rattle.cany_base.specs.Nodes.{Nodes, has}
use Rattle.cany_base.specs.Scenario.{ScenarioParts}
use Rattle.cany_model.specs.Bus.Frames.{Identity, identity_of}
use Rattle.cany_model.specs.Bus.History.{copies, is_got}
use Rattle.cany_model.specs.Promises.Entries.{delivers_key}
use Rattle.cany_model.specs.Rules.Effect.{Effect, Ask, Withdraw, Enter, entered}
use Rattle.cany_model.specs.Rules.Life.{els_frame, is_due, life_signs_sent}
use Rattle.cany_model.specs.Rules.Messages.{Message, messages_of, accept_of_key, data_frame, data_id}
use Rattle.cany_model.specs.Rules.Protocol.{Protocol}
use Rattle.cany_model.specs.Rules.Relcan.{confirm_frame}
use Rattle.cany_model.specs.Rules.KnowledgeOf.{knowledge_of}
use Rattle.cany_model.specs.Rules.Knowledge.{FailureSign, fda_frame, knows, sign_of}
use Rattle.cany_model.specs.Rules.Totcan.{accept_frame, after_place, can_be_accepted, message_in}
use Rattle.cany_model.specs.Rules.Vectors.{rha_frame, rha_of}
use Rattle.cany_base.specs.Cycles.{cycle_of, is_end, is_exchange, is_start}
use Rattle.cany_model.specs.Rules.Views.{ask_frame, ask_of as ask_id}
use Rattle.cany_model.proofs.Among.{Among, Among-gives, Among-weaker, Among-with, count-from_Among}
use Rattle.cany_model.proofs.Bus.Carried.{Has, is_got-from}
use Rattle.cany_model.proofs.Rules.Waits.{Asks, Withdraws, AsksOnly}
use Rattle.cany_model.proofs.Rules.IdleBeforeTakingPart.{IsBegun}
use Rattle.cany_model.proofs.Rules.Services.MessageKeys.{IsOneOf, same_message}

-- ---- one effect

-- the classes whose frames are sent by nodes that got them
abbrev pub is_relayed : Class → Bool
is_relayed class.Accept = true
is_relayed class.Fda = true
is_relayed class.Rel = true
is_relayed class.Ed = true
is_relayed other = false

-- a copy of its frame tells of the sign
pub record IsTold (past : List NoticeKind) (sign : FailureSign) : Type 0 where
  pub frame : FrameParts
  pub read : Among (λ n. n ≡ Got frame) past
  pub class : frame.class ≡ class.Fda
  pub tells : sign_of frame ≡ sign

-- silence can bring the sign in the slot: it names a node of the bus, and the cycle of the slot
pub record IsFound (scenario : ScenarioParts) (slot : ℕ) (sign : FailureSign) : Type 0 where
  pub node : sign.node < scenario.params.nodes
  pub cycle : sign.cycle ≡ slot / scenario.params.cycle

-- why a sign is known in the turn of the slot
abbrev pub IsKnownBy : ScenarioParts → ℕ → List NoticeKind → FailureSign → Type 0
IsKnownBy scenario slot past sign = IsTold past sign ⊎ IsFound scenario slot sign

-- vectors are exchanged in the slot, and the node has got one of its cycle
pub record IsTaken (scenario : ScenarioParts) (past : List NoticeKind) (slot : ℕ) : Type 0 where
  pub frame : FrameParts
  pub read : Among (λ n. n ≡ Got frame) past
  pub class : frame.class ≡ class.Rha
  pub number : frame.number ≡ cycle_of scenario.params slot
  pub exchange : is_exchange scenario.params slot ≡ true

-- Node i sends the vector in the turn of the newest notice: a cycle starts in its slot, or it has
-- got another one. It has the vector after the turn, but where the cycle ends: there it gives the
-- vector up, and the frame waits no longer.
pub record IsExchanged (scenario : ScenarioParts) (i : ℕ) (past : List NoticeKind) (slot : ℕ) (v : Nodes) : Type 0 where
  pub now : length past ≡ suc slot
  pub cycle : 0 < cycle_of scenario.params slot
  pub during : (is_start scenario.params slot ≡ true) ⊎ IsTaken scenario past slot
  pub vector : (is_start scenario.params slot ≡ true) ⊎ (is_end scenario.params slot ≡ false) → (knowledge_of scenario i past).vector ≡ Some v

-- one of these scripted asks is that of node i in the slot, which is that of the newest notice, and
-- one whose scripted asks are made
pub record IsScripted (scenario : ScenarioParts) (asks : List NodeAsk) (i : ℕ) (past : List NoticeKind) (slot : ℕ) : Type 0 where
  pub ask : NodeAsk
  pub stands : Contains asks ask
  pub asker : ask.node ≡ i
  pub asked_in : ask.slot ≡ slot
  pub now : length past ≡ suc slot
  pub late : scenario.from ≤ slot

-- a node that is no member asks to join, and a member to leave
abbrev pub MayRequest : ScenarioParts → ℕ → List NoticeKind → ℕ → Class → Type 0
MayRequest scenario i past slot c =
    ((c ≡ class.Join) × IsScripted scenario scenario.joins i past slot × (has (knowledge_of scenario i past).members i ≡ false))
    ⊎ ((c ≡ class.Leave) × IsScripted scenario scenario.leaves i past slot × (has (knowledge_of scenario i past).members i ≡ true))

-- why a node may ask for a frame, by what it has read
pub data MayAsk (scenario : ScenarioParts) (i : ℕ) (past : List NoticeKind) (f : FrameParts) : Type 0 where
  -- it has got the frame, which is one that is relayed
  relays : is_relayed f.class ≡ true → Among (λ n. n ≡ Got f) past → MayAsk scenario i past f
  -- the frame carries a message of its own, whose slot it has read and is one whose scripted asks
  -- are made
  originates : (m : Message) → IsOneOf (messages_of scenario.sends) m → m.origin ≡ i → m.slot < length past → scenario.from ≤ m.slot
      → data_frame m ≡ f → MayAsk scenario i past f
  -- the frame confirms a message of its own that it has sent
  confirms : (g : FrameParts) → Among (λ n. n ≡ Sent g) past → g.class ≡ class.Rel → g.node ≡ i → confirm_frame g ≡ f
      → MayAsk scenario i past f
  -- the frame accepts a message of its own that it has sent
  accepts : (g : FrameParts) → Among (λ n. n ≡ Sent g) past → g.class ≡ class.Tot → g.node ≡ i → accept_frame g ≡ f
      → MayAsk scenario i past f
  -- the frame is that of a failure sign: a copy told of it, or silence brought it in the slot of
  -- the newest notice
  signals : (sign : FailureSign) (slot : ℕ) → length past ≡ suc slot → IsKnownBy scenario slot past sign → fda_frame sign ≡ f → MayAsk scenario i past f
  -- the frame is the node's own life sign, which is due in the slot of the newest notice
  lives : (slot : ℕ) → length past ≡ suc slot → is_due scenario.params.life i slot (knowledge_of scenario i past) ≡ true → els_frame scenario.inc i (life_signs_sent i past) ≡ f
      → MayAsk scenario i past f
  -- the frame carries the node's own vector, of the cycle of the slot of the newest notice
  exchanges : (slot : ℕ) (v : Nodes) → IsExchanged scenario i past slot v
      → rha_frame scenario.params.format scenario.inc (cycle_of scenario.params slot) i v ≡ f → MayAsk scenario i past f
  -- the frame is that of a scripted ask of the node, to join or to leave
  requests : (slot : ℕ) (c : Class) → MayRequest scenario i past slot c → ask_frame c scenario.inc (cycle_of scenario.params slot) i ≡ f
      → MayAsk scenario i past f

-- what is delivered in the turn of the newest notice is what a data frame of the service carried,
-- which the node has read by then
pub record IsRead (p : Protocol) (past : List NoticeKind) (slot : ℕ) (by : Service) (msg : MsgKey) (payload : List ℕ) : Type 0 where
  pub frame : FrameParts
  pub read : Among (Has frame) past
  pub class : frame.class ≡ data_class by
  pub key : record { origin = frame.node; seq = frame.number } ≡ msg
  pub carries : frame.payload ≡ payload
  pub now : length past ≡ suc slot
  pub serves : p.delivers by ≡ true

-- the sign that is entered in the turn of the newest notice was told of, or silence brought it, and
-- is known then
pub record IsSignal (scenario : ScenarioParts) (i : ℕ) (past : List NoticeKind) (slot : ℕ) (sign : FailureSign) : Type 0 where
  pub now : length past ≡ suc slot
  pub because : IsKnownBy scenario slot past sign
  pub known : knows sign (knowledge_of scenario i past) ≡ true

-- the view is that of a member, which comes to it at the end of a cycle, in the turn of the newest
-- notice
pub record IsInstalled (scenario : ScenarioParts) (i : ℕ) (past : List NoticeKind) (slot cycle : ℕ) (view : Nodes) : Type 0 where
  pub now : length past ≡ suc slot
  pub number : cycle ≡ cycle_of scenario.params slot
  pub ends : is_end scenario.params slot ≡ true
  pub members : (knowledge_of scenario i past).members ≡ view
  pub member : has view i ≡ true

-- an entry that a protocol makes
abbrev pub IsFoundedEntry : ScenarioParts → Protocol → ℕ → List NoticeKind → LogEntry → Type 0
IsFoundedEntry scenario p i past (Deliver slot by msg payload) = IsRead p past slot by msg payload
IsFoundedEntry scenario p i past (Failed slot node cycle) = IsSignal scenario i past slot (record { node = node; cycle = cycle })
IsFoundedEntry scenario p i past (View slot number members) = IsInstalled scenario i past slot number members

-- The frames that are withdrawn only with more than omit copies: those of eager diffusion by all
-- copies, and those of a node that falls back. A frame that accepts a message is not among them:
-- the copies since the place of the message count, and it is withdrawn when the message closes.
abbrev pub is_diffused : Class → Bool
is_diffused class.Fda = true
is_diffused class.Rel = true
is_diffused class.Ed = true
is_diffused other = false

-- vectors are exchanged in the slot, or the exchange ends in it
abbrev pub MaySettle : ScenarioParts → List NoticeKind → ℕ → Type 0
MaySettle scenario past slot =
    (length past ≡ suc slot) × ((is_exchange scenario.params slot ≡ true) ⊎ (is_end scenario.params slot ≡ true))

-- the ask is a scripted one, of this class
abbrev pub IsAskOf : ScenarioParts → Class → NodeAsk → Type 0
IsAskOf scenario c ask =
    ((c ≡ class.Join) × Contains scenario.joins ask) ⊎ ((c ≡ class.Leave) × Contains scenario.leaves ask)

-- why a node may withdraw a frame
pub data MayWithdraw (scenario : ScenarioParts) (i : ℕ) (past : List NoticeKind) (x : Identity) : Type 0 where
  -- more than omit copies were read of a frame that is diffused
  enough : is_diffused x.class ≡ true → scenario.params.omit < copies x past → MayWithdraw scenario i past x
  -- it accepts a message, and more than omit copies were read after the place of the message
  enough_accept : (f : FrameParts) → Among (λ n. n ≡ Got f) past → f.class ≡ class.Accept → identity_of f ≡ x
      → scenario.params.omit < copies x (after_place (message_in f) past) → MayWithdraw scenario i past x
  -- it accepts a message that is closed, whose data frame was read
  closes : (f : FrameParts) → Among (Has f) past → f.class ≡ class.Tot → accept_of_key (message_in f) ≡ x
      → can_be_accepted scenario.params.bound (message_in f) past ≡ false → MayWithdraw scenario i past x
  -- it carries the node's own vector, of the cycle of the slot of the newest notice
  settles : (slot : ℕ) → MaySettle scenario past slot → rha_of (cycle_of scenario.params slot) i ≡ x → MayWithdraw scenario i past x
  -- it is that of a scripted ask of the node, and a cycle ends in the slot of the newest notice
  answered : (slot : ℕ) (c : Class) (ask : NodeAsk) → length past ≡ suc slot → is_end scenario.params slot ≡ true → IsAskOf scenario c ask
      → ask.node ≡ i → ask_id c (cycle_of scenario.params ask.slot) i ≡ x → MayWithdraw scenario i past x

-- a frame that is diffused is relayed
pub diffused_is_relayed : (c : Class) → is_diffused c ≡ true → is_relayed c ≡ true
diffused_is_relayed class.Accept h = refl
diffused_is_relayed class.Rha h = h
diffused_is_relayed class.Els h = h
diffused_is_relayed class.Fda h = h
diffused_is_relayed class.Join h = h
diffused_is_relayed class.Leave h = h
diffused_is_relayed class.Confirm h = h
diffused_is_relayed class.Tot h = h
diffused_is_relayed class.Rel h = h
diffused_is_relayed class.Ed h = h

-- the effect has its reason in what was read, and names only what the protocol names
abbrev pub IsFounded : ScenarioParts → Protocol → ℕ → List NoticeKind → Effect → Type 0
IsFounded scenario p i past (Ask f) = MayAsk scenario i past f × (p.names f.class ≡ true)
IsFounded scenario p i past (Withdraw x) = MayWithdraw scenario i past x × (p.names x.class ≡ true)
IsFounded scenario p i past (Enter entry) = IsFoundedEntry scenario p i past entry

-- ---- a protocol

-- the entries that it makes
abbrev pub log_by : Protocol → ScenarioParts → ℕ → List NoticeKind → List LogEntry
log_by p scenario i [] = []
log_by p scenario i (notice ∷ before) = log_by p scenario i before ++ entered (p.effects scenario i (notice ∷ before))

pub record IsLawful (p : Protocol) : Type 0 where
  -- it does nothing without a notice, nor in a turn before the first slot whose scripted asks are
  -- made if all that was read is idle
  pub muted : (scenario : ScenarioParts) (i : ℕ) (past : List NoticeKind) → IsBegun scenario past → p.effects scenario i past ≡ []
  -- each effect has its reason
  pub founded : (scenario : ScenarioParts) (i : ℕ) (past : List NoticeKind) → AllByRecursion (IsFounded scenario p i past) (p.effects scenario i past)
  -- what it has ahead is of a message that it delivers
  pub ahead_serves : (scenario : ScenarioParts) (m : Message) (i : ℕ) (past : List NoticeKind) → p.ahead scenario m i past ≡ true → p.delivers m.service ≡ true
  -- it delivers no message twice
  pub once : (scenario : ScenarioParts) (i : ℕ) (key : MsgKey) (past : List NoticeKind) → count_by (delivers_key key) (log_by p scenario i past) ≤ 1

-- ---- what follows of an effect

got_copies : (past : List NoticeKind) (x : Identity) (f : FrameParts) → x ≡ identity_of f → Among (λ n. n ≡ Got f) past → 0 < copies x past
unfolding copies
got_copies past x f same got =
    count-from_Among (is_got x) past (Among-weaker (λ n. n ≡ Got f) (λ n. is_got x n ≡ true) (λ n is. is_got-from x f n is same) past got)

-- the origin may send its message: it has read the slot, which is one whose scripted asks are made
abbrev pub MayStart : ScenarioParts → Message → ℕ → List NoticeKind → Type 0
MayStart scenario m i past = (m.origin ≡ i) × (m.slot < length past) × (scenario.from ≤ m.slot)

-- the classes of the data of messages
abbrev pub is_data : Class → Bool
is_data class.Ed = true
is_data class.Rel = true
is_data class.Tot = true
is_data other = false

pub data_is_no_other : (by : Service) (c : Class) → is_data c ≡ false → data_class by ≡ c → ⊥
data_is_no_other Ed c other is = false≢true (sym other ∙ sym (ap is_data is))
data_is_no_other Rel c other is = false≢true (sym other ∙ sym (ap is_data is))
data_is_no_other Tot c other is = false≢true (sym other ∙ sym (ap is_data is))

pub data_requests_none : (by : Service) (c : Class) → (c ≡ class.Join) ⊎ (c ≡ class.Leave) → data_class by ≡ c → ⊥
data_requests_none by c (inl join) is = data_is_no_other by c (ap is_data join) is
data_requests_none by c (inr leave) is = data_is_no_other by c (ap is_data leave) is

-- the class of a frame that asks to join or to leave
pub request_class : (scenario : ScenarioParts) (i : ℕ) (past : List NoticeKind) (slot : ℕ) (c : Class) → MayRequest scenario i past slot c
    → (c ≡ class.Join) ⊎ (c ≡ class.Leave)
request_class scenario i past slot c (inl join) = inl join.0
request_class scenario i past slot c (inr leave) = inr leave.0

-- the frame carries a vector that the node sends in the turn
pub record AsksVector (scenario : ScenarioParts) (i : ℕ) (past : List NoticeKind) (f : FrameParts) : Type 0 where
  pub slot : ℕ
  pub what : Nodes
  pub sends : IsExchanged scenario i past slot what
  pub frame : rha_frame scenario.params.format scenario.inc (cycle_of scenario.params slot) i what ≡ f

-- for no other reason may a node ask for the frame of a vector
pub vector_asked : (scenario : ScenarioParts) (i : ℕ) (past : List NoticeKind) (f : FrameParts) → MayAsk scenario i past f → f.class ≡ class.Rha
    → AsksVector scenario i past f
vector_asked scenario i past f may rha = by_reason may
  where
    other : (g : FrameParts) → g ≡ f → (g.class ≡ class.Rha → ⊥) → AsksVector scenario i past f
    other g frame none = absurd (none (ap (λ (h : FrameParts). h.class) frame ∙ rha))

    by_reason : MayAsk scenario i past f → AsksVector scenario i past f
    by_reason (relays relayed got) = absurd (false≢true (ap is_relayed (sym rha) ∙ relayed))
    by_reason (originates m is origin slot late frame) = other _ frame (data_is_no_other m.service class.Rha refl)
    by_reason (confirms g sent rel own frame) = other _ frame (λ c. cc)
    by_reason (accepts g sent tot own frame) = other _ frame (λ c. cc)
    by_reason (signals sign slot now known frame) = other _ frame (λ c. cc)
    by_reason (lives slot now due frame) = other _ frame (λ c. cc)
    by_reason (requests slot c request frame) =
        other _ frame (λ is. elim (request_class scenario i past slot c request) [ inl join ↦ cc | inr leave ↦ cc ])
    by_reason (exchanges slot v sends frame) = record { slot = slot; what = v; sends = sends; frame = frame }

-- the frame is that of a scripted ask, to join or to leave
pub record IsRequested (scenario : ScenarioParts) (i : ℕ) (past : List NoticeKind) (f : FrameParts) : Type 0 where
  pub slot : ℕ
  pub class : Class
  pub may : MayRequest scenario i past slot class
  pub frame : ask_frame class scenario.inc (cycle_of scenario.params slot) i ≡ f

-- for no other reason may a node ask for the frame of a join or a leave
pub request_asked : (scenario : ScenarioParts) (i : ℕ) (past : List NoticeKind) (f : FrameParts) → MayAsk scenario i past f
    → (f.class ≡ class.Join) ⊎ (f.class ≡ class.Leave) → IsRequested scenario i past f
request_asked scenario i past f may is = by_reason may
  where
    other : (g : FrameParts) → g ≡ f → (g.class ≡ class.Join → ⊥) → (g.class ≡ class.Leave → ⊥) → IsRequested scenario i past f
    other g frame no_join no_leave =
        let same = ap (λ (h : FrameParts). h.class) frame in
        absurd (elim is [ inl join ↦ no_join (same ∙ join) | inr leave ↦ no_leave (same ∙ leave) ])

    unrelayed : (f.class ≡ class.Join) ⊎ (f.class ≡ class.Leave) → is_relayed f.class ≡ false
    unrelayed (inl join) = ap is_relayed join
    unrelayed (inr leave) = ap is_relayed leave

    by_reason : MayAsk scenario i past f → IsRequested scenario i past f
    by_reason (relays relayed got) = absurd (false≢true (sym (unrelayed is) ∙ relayed))
    by_reason (originates m stands origin slot late frame) = absurd (data_requests_none m.service f.class is (ap (λ (h : FrameParts). h.class) frame))
    by_reason (confirms g sent rel own frame) = other _ frame (λ c. cc) (λ c. cc)
    by_reason (accepts g sent tot own frame) = other _ frame (λ c. cc) (λ c. cc)
    by_reason (signals sign slot now known frame) = other _ frame (λ c. cc) (λ c. cc)
    by_reason (lives slot now due frame) = other _ frame (λ c. cc) (λ c. cc)
    by_reason (exchanges slot v sends frame) = other _ frame (λ c. cc) (λ c. cc)
    by_reason (requests slot c request frame) = record { slot = slot; class = c; may = request; frame = frame }

-- and its slot
pub request_now : (scenario : ScenarioParts) (i : ℕ) (past : List NoticeKind) (slot : ℕ) (c : Class) → MayRequest scenario i past slot c
    → length past ≡ suc slot
request_now scenario i past slot c (inl join) = join.1.now
request_now scenario i past slot c (inr leave) = leave.1.now

-- the data frame of a message is asked for because a copy was read, or by its origin
pub asked_start : (scenario : ScenarioParts) (i : ℕ) (past : List NoticeKind) (m : Message) → IsOneOf (messages_of scenario.sends) m → (f : FrameParts)
    → data_id m ≡ identity_of f → MayAsk scenario i past f → MayStart scenario m i past ⊎ (0 < copies (data_id m) past)
asked_start scenario i past m is f same (relays relayed got) = inr (got_copies past (data_id m) f same got)
asked_start scenario i past m is f same (originates k stands origin slot late frame) =
    let carried : data_id m ≡ data_id k = same ∙ sym (ap identity_of frame) in
    let one : m ≡ k = same_message scenario.sends m k is stands (ap (λ (x : Identity). x.node) carried) (ap (λ (x : Identity). x.number) carried) in
    let at : m.slot ≡ k.slot = ap (λ (n : Message). n.slot) one in
    inl (ap (λ (n : Message). n.origin) one ∙ origin, omega (arith, at, slot), omega (arith, at, late))
asked_start scenario i past m is f same (confirms g sent rel own frame) =
    absurd (data_is_no_other m.service class.Confirm refl (ap (λ (x : Identity). x.class) same ∙ sym (ap (λ (h : FrameParts). h.class) frame)))
asked_start scenario i past m is f same (accepts g sent tot own frame) =
    absurd (data_is_no_other m.service class.Accept refl (ap (λ (x : Identity). x.class) same ∙ sym (ap (λ (h : FrameParts). h.class) frame)))
asked_start scenario i past m is f same (signals sign slot now known frame) =
    absurd (data_is_no_other m.service class.Fda refl (ap (λ (x : Identity). x.class) same ∙ sym (ap (λ (h : FrameParts). h.class) frame)))
asked_start scenario i past m is f same (lives slot now due frame) =
    absurd (data_is_no_other m.service class.Els refl (ap (λ (x : Identity). x.class) same ∙ sym (ap (λ (h : FrameParts). h.class) frame)))
asked_start scenario i past m is f same (exchanges slot v sends frame) =
    absurd (data_is_no_other m.service class.Rha refl (ap (λ (x : Identity). x.class) same ∙ sym (ap (λ (h : FrameParts). h.class) frame)))
asked_start scenario i past m is f same (requests slot c may frame) =
    absurd (data_requests_none m.service c (request_class scenario i past slot c may)
    (ap (λ (x : Identity). x.class) same ∙ sym (ap (λ (h : FrameParts). h.class) frame)))

-- an effect that asks, withdraws or enters among effects that have their reason
pub ask_of : (scenario : ScenarioParts) (p : Protocol) (i : ℕ) (past : List NoticeKind) (x : Identity) (e : Effect) → Asks x e → IsFounded scenario p i past e
    → (f : FrameParts) × (x ≡ identity_of f) × MayAsk scenario i past f
ask_of scenario p i past x (Ask f) h k = (f, h, k.0)
ask_of scenario p i past x (Withdraw y) h k = absurd h
ask_of scenario p i past x (Enter entry) h k = absurd h

accepts_undiffused : (x y : Identity) → y.class ≡ class.Accept → y ≡ x → is_diffused x.class ≡ true → ⊥
accepts_undiffused x y accept same diffused =
    false≢true (sym (ap is_diffused (sym (ap (λ (z : Identity). z.class) same) ∙ accept)) ∙ diffused)

vectors_undiffused : (x y : Identity) → y.class ≡ class.Rha → y ≡ x → is_diffused x.class ≡ true → ⊥
vectors_undiffused x y rha same diffused =
    false≢true (sym (ap is_diffused (sym (ap (λ (z : Identity). z.class) same) ∙ rha)) ∙ diffused)

asks_undiffused : (scenario : ScenarioParts) (c : Class) (ask : NodeAsk) (x y : Identity) → IsAskOf scenario c ask → y.class ≡ c → y ≡ x
    → is_diffused x.class ≡ true → ⊥
asks_undiffused scenario c ask x y (inl join) at same diffused =
    false≢true (sym (ap is_diffused (sym (ap (λ (z : Identity). z.class) same) ∙ at ∙ join.0)) ∙ diffused)
asks_undiffused scenario c ask x y (inr leave) at same diffused =
    false≢true (sym (ap is_diffused (sym (ap (λ (z : Identity). z.class) same) ∙ at ∙ leave.0)) ∙ diffused)

enough_of : (scenario : ScenarioParts) (i : ℕ) (past : List NoticeKind) (x : Identity) → MayWithdraw scenario i past x → is_diffused x.class ≡ true
    → scenario.params.omit < copies x past
enough_of scenario i past x (enough diffused many) d = many
enough_of scenario i past x (enough_accept f got accept same many) d = absurd (accepts_undiffused x (identity_of f) accept same d)
enough_of scenario i past x (closes f read tot same closed) d = absurd (accepts_undiffused x (accept_of_key (message_in f)) refl same d)
enough_of scenario i past x (settles slot may same) d = absurd (vectors_undiffused x (rha_of (cycle_of scenario.params slot) i) refl same d)
enough_of scenario i past x (answered slot c ask now ends is own same) d =
    absurd (asks_undiffused scenario c ask x (ask_id c (cycle_of scenario.params ask.slot) i) is refl same d)

-- a frame that a lawful protocol asks for is of a class that it names
named_of : (scenario : ScenarioParts) (p : Protocol) (i : ℕ) (past : List NoticeKind) (x : Identity) (e : Effect) → Asks x e → IsFounded scenario p i past e
    → p.names x.class ≡ true
named_of scenario p i past x (Ask f) h k = ap (λ (y : Identity). p.names y.class) h ∙ k.1
named_of scenario p i past x (Withdraw y) h k = absurd h
named_of scenario p i past x (Enter entry) h k = absurd h

pub asks_named : (p : Protocol) → IsLawful p → (scenario : ScenarioParts) (i : ℕ) (x : Identity) (past : List NoticeKind)
    → Among (Asks x) (p.effects scenario i past) → p.names x.class ≡ true
asks_named p lawful scenario i x past h =
    Among-gives (λ e. Asks x e × IsFounded scenario p i past e) (p.names x.class ≡ true) (λ e both. named_of scenario p i past x e both.0 both.1)
    (p.effects scenario i past)
    (Among-with (Asks x) (IsFounded scenario p i past) (p.effects scenario i past) (lawful.founded scenario i past) h)

pub withdrawal_of : (scenario : ScenarioParts) (p : Protocol) (i : ℕ) (past : List NoticeKind) (x : Identity) (e : Effect) → Withdraws x e
    → IsFounded scenario p i past e → is_diffused x.class ≡ true → scenario.params.omit < copies x past
withdrawal_of scenario p i past x (Ask f) h k d = absurd h
withdrawal_of scenario p i past x (Withdraw y) h k d = rw h (enough_of scenario i past y k.0 (rw h at d))
withdrawal_of scenario p i past x (Enter entry) h k d = absurd h

pub asks_only : (scenario : ScenarioParts) (p : Protocol) (i : ℕ) (past : List NoticeKind) (P : FrameParts → Type 0) (e : Effect)
    → ((f : FrameParts) → MayAsk scenario i past f → P f) → IsFounded scenario p i past e → AsksOnly P e
asks_only scenario p i past P (Ask f) gives k = gives f k.0
asks_only scenario p i past P (Withdraw y) gives k = tt
asks_only scenario p i past P (Enter entry) gives k = tt
