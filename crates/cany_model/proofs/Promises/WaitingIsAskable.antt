-- Each frame that waits at a running node or was carried in a run belongs to the scenario: a node
-- can read it, and one may ask for it where it waits.
use Rattle.std.specs.Prelude.{◌≡◌, ℕ, suc, true, ◌*◌, ◌/◌, ◌<◌, ◌≤◌, List, ◌∷◌, length, Contains, refl}
use Rattle.cany_base.specs.Limits.{most_nodes}
use Rattle.std.specs.List.{AllByRecursion}
use Rattle.std.proofs.Common.{sym, ap, ◌∙◌, subst, inl, inr, arith}
use Rattle.std.proofs.lemmas.Bool.{cases_Bool, false≢true}
use Rattle.cany_base.specs.declared.class.Class.{Class}
use Rattle.cany_base.specs.declared.class.Class.TheVariants as class
use Rattle.cany_base.specs.declared.message.NodeAsk.{NodeAsk}
use Rattle.cany_base.specs.declared.message.Service.{Service}
use Rattle.cany_base.specs.declared.message.Service.TheVariants.{Ed, Rel, Tot}
use Rattle.cany_base.specs.declared.notice.NoticeKind.{NoticeKind}
use Rattle.cany_base.specs.declared.notice.NoticeKind.TheVariants.{Idle, Got, Sent, Bad}
use Rattle.cany_base.specs.declared.slot_note.SlotNote.{SlotNote}
use Rattle.cany_base.specs.declared.step.Step.{Step}
use Rattle.cany_base.specs.Frame.{FrameParts, data_class}
use Rattle.cany_base.specs.Nodes.{Nodes}
use Rattle.cany_base.specs.Scenario.{ScenarioParts}
use Rattle.cany_model.specs.Bus.Frames.{Identity, identity_of}
use Rattle.cany_model.specs.Bus.History.{as_seen, given, history, is_hidden}
use Rattle.cany_model.specs.Runs.Run.{run}
use Rattle.cany_model.specs.Bus.State.{Incarnation, RunState, node_at}
use Rattle.cany_model.specs.Rules.Life.{els_frame, life_signs_sent}
use Rattle.cany_model.specs.Rules.Messages.{IsOfMessage, Message, messages_of, data_frame}
use Rattle.cany_model.specs.Rules.Notices.{BelongsTo, IsDataOf, IsReadable, NamesNode}
use Rattle.cany_model.specs.Rules.Relcan.{confirm_frame}
use Rattle.cany_model.specs.Rules.Rooms.{IsAskable, IsAskableAs, IsOfAsk, IsOfNode, IsOfVector}
use Rattle.cany_model.specs.Rules.Knowledge.{FailureSign, fda_frame}
use Rattle.cany_model.specs.Rules.Totcan.{accept_frame}
use Rattle.cany_model.specs.Rules.Turn.{scenario_at, scenario_for, turn_effects}
use Rattle.cany_model.specs.Rules.Vectors.{rha_frame}
use Rattle.cany_base.specs.Cycles.{cycle_of}
use Rattle.cany_model.specs.Rules.Views.{ask_frame}
use Rattle.cany_model.proofs.Among.{Among, Among-weaker, Contains-from_Among}
use Rattle.cany_model.proofs.Bus.Carried.{Has}
use Rattle.cany_model.proofs.Runs.FrameInvariants.{HoldsOfFrames, IsKeptByFrames, holds_of_frames, slot_of_note, turn_note}
use Rattle.cany_model.proofs.Bus.Notes.{given-Got, given-Sent}
use Rattle.cany_model.proofs.Runs.Runs.{IsOrderly, history-length}
use Rattle.cany_model.proofs.Bus.Seen.{seen_idle, seen_plain}
use Rattle.cany_model.proofs.Runs.Steps.{MayTurn, next_notice}
use Rattle.cany_model.proofs.Rules.Waits.{AsksOnly}
use Rattle.cany_model.proofs.Promises.EachNode.{EachRunning, nodes_at_first, nodes_kept}
use Rattle.cany_model.proofs.Promises.OwnSlotsAlone.{AllWaitForOwnSlots}
use Rattle.cany_model.proofs.Promises.SignCounts.{Counted, signs_counted, signs_spaced}
use Rattle.cany_model.proofs.Rules.Site.SignRooms.{div_grows}
use Rattle.cany_model.proofs.Rules.ProtocolFacts.{IsScripted, MayAsk, MayRequest, accepts, confirms, exchanges, is_relayed, lives, originates, relays, request_now, requests, signals}
use Rattle.cany_model.proofs.Rules.TurnFacts.{turn_only}

-- the frame can be read in this slot, and node i may ask for it, where the slot is one of the run
pub record Belongs (scenario : ScenarioParts) (i slot : ℕ) (f : FrameParts) : Type 0 where
  pub readable : BelongsTo scenario slot f.class f
  pub askable : slot ≤ scenario.params.slots → IsAskable scenario i (identity_of f)

abbrev pub Waiting : ScenarioParts → List SlotNote → ℕ → FrameParts → Type 0
Waiting scenario trace i f = Belongs scenario i (length trace) f

-- the frame that was carried can be read since
abbrev pub WasCarried : ScenarioParts → List SlotNote → ℕ → FrameParts → Type 0
WasCarried scenario trace slot f = BelongsTo scenario slot f.class f

abbrev pub AllBelong : ScenarioParts → RunState → Type 0
AllBelong scenario s = HoldsOfFrames (Waiting scenario) (WasCarried scenario) s

-- the life signs of each running node are counted
abbrev AreCounted : ScenarioParts → RunState → Type 0
AreCounted scenario s = AllWaitForOwnSlots s × EachRunning (Counted scenario) s

-- ---- in a later slot

names_later : (scenario : ScenarioParts) (interval a b : ℕ) (f : FrameParts) → a ≤ b → NamesNode scenario interval a f → NamesNode scenario interval b f
names_later scenario interval a b f l h = record { node = h.node; number = omega (arith, h.number, div_grows a b interval l) }

pub readable_later : (scenario : ScenarioParts) (a b : ℕ) (f : FrameParts) (c : Class) → a ≤ b → BelongsTo scenario a c f → BelongsTo scenario b c f
readable_later scenario a b f class.Accept l h = h
readable_later scenario a b f class.Rha l h = names_later scenario scenario.params.cycle a b f l h
readable_later scenario a b f class.Els l h = record { node = h.node; passed = omega (arith, h.passed, l) }
readable_later scenario a b f class.Fda l h = names_later scenario scenario.params.cycle a b f l h
readable_later scenario a b f class.Join l h = names_later scenario scenario.params.cycle a b f l h
readable_later scenario a b f class.Leave l h = names_later scenario scenario.params.cycle a b f l h
readable_later scenario a b f class.Confirm l h = h
readable_later scenario a b f class.Tot l h = h
readable_later scenario a b f class.Rel l h = h
readable_later scenario a b f class.Ed l h = h

belongs_in : (scenario : ScenarioParts) (i a b : ℕ) (f : FrameParts) → a ≤ b → Belongs scenario i a f → Belongs scenario i b f
belongs_in scenario i a b f l h =
    record { readable = readable_later scenario a b f f.class l h.readable; askable = λ within. h.askable (omega (arith, l, within)) }

-- ---- what a turn asks for

-- the frame of the same message, where the data frame of it belongs to the scenario
of_message : (scenario : ScenarioParts) (by : Service) (g f : FrameParts) → g.number ≡ f.number → g.node ≡ f.node → IsDataOf scenario by g
    → IsOfMessage scenario by (identity_of f)
of_message scenario by g f number node h = record {
  message = h.message;
  stands = h.stands;
  sent_by = h.sent_by;
  number = ap (λ (x : FrameParts). x.number) h.frame ∙ number;
  origin = ap (λ (x : FrameParts). x.node) h.frame ∙ node;
}

pub of_data : (scenario : ScenarioParts) (by : Service) (f : FrameParts) → IsDataOf scenario by f → IsOfMessage scenario by (identity_of f)
of_data scenario by f h = of_message scenario by f f refl refl h

-- a frame that is relayed may be asked for by each node, where it can be read
relayed_askable : (scenario : ScenarioParts) (i slot : ℕ) (f : FrameParts) (c : Class) → is_relayed c ≡ true → BelongsTo scenario slot c f
    → slot ≤ scenario.params.slots → IsAskableAs scenario i (identity_of f) c
relayed_askable scenario i slot f class.Accept relayed h within = h
relayed_askable scenario i slot f class.Rha relayed h within = absurd (false≢true relayed)
relayed_askable scenario i slot f class.Els relayed h within = absurd (false≢true relayed)
relayed_askable scenario i slot f class.Fda relayed h within =
    record { node = h.node; number = omega (arith, h.number, div_grows slot scenario.params.slots scenario.params.cycle within) }
relayed_askable scenario i slot f class.Join relayed h within = absurd (false≢true relayed)
relayed_askable scenario i slot f class.Leave relayed h within = absurd (false≢true relayed)
relayed_askable scenario i slot f class.Confirm relayed h within = absurd (false≢true relayed)
relayed_askable scenario i slot f class.Tot relayed h within = of_data scenario Tot f h
relayed_askable scenario i slot f class.Rel relayed h within = of_data scenario Rel f h
relayed_askable scenario i slot f class.Ed relayed h within = of_data scenario Ed f h

data_belongs : (scenario : ScenarioParts) (i slot : ℕ) (m : Message) → Contains (messages_of scenario.sends) m → (by : Service) → m.service ≡ by
    → (f : FrameParts) → data_frame m ≡ f → f.class ≡ data_class by → Belongs scenario i slot f
data_belongs scenario i slot m stands by service f frame class = record {
  readable = subst (λ c. BelongsTo scenario slot c f) (sym class) (readable by service);
  askable = λ within. subst (IsAskableAs scenario i (identity_of f)) (sym class) (askable by service);
}
  where
    readable : (by : Service) → m.service ≡ by → BelongsTo scenario slot (data_class by) f
    readable Ed e = record { message = m; stands = stands; sent_by = e; frame = frame }
    readable Rel e = record { message = m; stands = stands; sent_by = e; frame = frame }
    readable Tot e = record { message = m; stands = stands; sent_by = e; frame = frame }

    of : (by : Service) → m.service ≡ by → IsOfMessage scenario by (identity_of f)
    of by e = record {
      message = m;
      stands = stands;
      sent_by = e;
      number = ap (λ (g : FrameParts). g.number) frame;
      origin = ap (λ (g : FrameParts). g.node) frame;
    }

    askable : (by : Service) → m.service ≡ by → IsAskableAs scenario i (identity_of f) (data_class by)
    askable Ed e = of Ed e
    askable Rel e = of Rel e
    askable Tot e = of Tot e

-- a frame that answers a data frame that can be read, in a class of frames that are of a message of
-- its service
answer_belongs : (scenario : ScenarioParts) (i slot : ℕ) (by : Service) (c : Class)
    → ((f : FrameParts) → IsOfMessage scenario by (identity_of f) → BelongsTo scenario slot c f × IsAskableAs scenario i (identity_of f) c)
    → (g f : FrameParts) → IsDataOf scenario by g → c ≡ f.class → g.number ≡ f.number → g.node ≡ f.node → Belongs scenario i slot f
answer_belongs scenario i slot by c gives g f h class number node =
    let both = gives f (of_message scenario by g f number node h) in
    record {
      readable = subst (λ c. BelongsTo scenario slot c f) class both.0;
      askable = λ within. subst (IsAskableAs scenario i (identity_of f)) class both.1;
    }

-- the confirmation of a data frame that can be read
confirm_belongs : (scenario : ScenarioParts) (i slot : ℕ) (g f : FrameParts) → g.class ≡ class.Rel → confirm_frame g ≡ f
    → BelongsTo scenario slot g.class g → Belongs scenario i slot f
confirm_belongs scenario i slot g f rel frame h =
    answer_belongs scenario i slot Rel class.Confirm (λ f of. (of, of)) g f (subst (λ c. BelongsTo scenario slot c g) rel h)
    (ap (λ (x : FrameParts). x.class) frame) (ap (λ (x : FrameParts). x.number) frame) (ap (λ (x : FrameParts). x.node) frame)

-- the frame that accepts its message
accept_belongs : (scenario : ScenarioParts) (i slot : ℕ) (g f : FrameParts) → g.class ≡ class.Tot → accept_frame g ≡ f
    → BelongsTo scenario slot g.class g → Belongs scenario i slot f
accept_belongs scenario i slot g f tot frame h =
    answer_belongs scenario i slot Tot class.Accept (λ f of. (of, of)) g f (subst (λ c. BelongsTo scenario slot c g) tot h)
    (ap (λ (x : FrameParts). x.class) frame) (ap (λ (x : FrameParts). x.number) frame) (ap (λ (x : FrameParts). x.node) frame)

-- a failure sign that can be read names a node, and a cycle that has begun
pub fda_names : (scenario : ScenarioParts) (slot : ℕ) (f : FrameParts) → f.class ≡ class.Fda → BelongsTo scenario slot f.class f
    → NamesNode scenario scenario.params.cycle slot f
fda_names scenario slot f fda h = subst (λ c. BelongsTo scenario slot c f) fda h

-- the frame of a sign that does so belongs to it
sign_belongs : (scenario : ScenarioParts) (i slot : ℕ) (sign : FailureSign) (f : FrameParts) → fda_frame sign ≡ f → sign.node < scenario.params.nodes
    → sign.cycle ≤ slot / scenario.params.cycle → Belongs scenario i slot f
sign_belongs scenario i slot sign f frame node cycle = subst (Belongs scenario i slot) frame (record {
  readable = record { node = node; number = cycle };
  askable = λ within. record { node = node; number = omega (arith, cycle, div_grows slot scenario.params.slots scenario.params.cycle within) };
})

-- so does that of a life sign with a number that the node can have reached
life_belongs : (scenario : ScenarioParts) (i slot inc number : ℕ) (f : FrameParts) → els_frame inc i number ≡ f → i < scenario.params.nodes
    → number * scenario.params.life ≤ slot → Belongs scenario i slot f
life_belongs scenario i slot inc number f frame node passed = subst (Belongs scenario i slot) frame (record {
  readable = record { node = node; passed = passed };
  askable = λ within. record { node = node; passed = omega (arith, passed, within) };
})

-- so does the vector of a node, in a cycle that has begun
vector_belongs : (scenario : ScenarioParts) (i slot inc cycle : ℕ) (v : Nodes) (f : FrameParts)
    → rha_frame scenario.params.format inc cycle i v ≡ f → i < scenario.params.nodes → cycle ≤ slot / scenario.params.cycle → Belongs scenario i slot f
vector_belongs scenario i slot inc cycle v f frame node begun = subst (Belongs scenario i slot) frame (record {
  readable = record { node = node; number = begun };
  askable = λ within. record { node = refl; number = omega (arith, begun, div_grows slot scenario.params.slots scenario.params.cycle within) };
})

-- and what it asks by a scripted ask, in the cycle of its slot
request_belongs : (scenario : ScenarioParts) (inc : Incarnation) (i slot now : ℕ) (past : List NoticeKind) (c : Class) (f : FrameParts)
    → ask_frame c (scenario_for scenario inc).inc (cycle_of scenario.params slot) i ≡ f → i < scenario.params.nodes → slot ≤ now
    → MayRequest (scenario_for scenario inc) i past slot c → Belongs scenario i now f
request_belongs scenario inc i slot now past c f frame node early may = subst (Belongs scenario i now) frame (by_class may)
  where
    number : ℕ
    number = (scenario_for scenario inc).inc

    names : NamesNode scenario scenario.params.cycle now (ask_frame c number (cycle_of scenario.params slot) i)
    names = record { node = node; number = div_grows slot now scenario.params.cycle early }

    of : (asks : List NodeAsk) → IsScripted (scenario_for scenario inc) asks i past slot
        → IsOfAsk scenario asks i (identity_of (ask_frame c number (cycle_of scenario.params slot) i))
    of asks s = record {
      ask = s.ask;
      stands = s.stands;
      asker = s.asker;
      node = refl;
      number = ap (λ n. n / scenario.params.cycle) (sym s.asked_in);
    }

    by_class : MayRequest (scenario_for scenario inc) i past slot c
        → Belongs scenario i now (ask_frame c number (cycle_of scenario.params slot) i)
    by_class (inl join) = record {
      readable = subst (λ k. BelongsTo scenario now k (ask_frame c number (cycle_of scenario.params slot) i)) (sym join.0) names;
      askable = λ within. subst (IsAskableAs scenario i (identity_of (ask_frame c number (cycle_of scenario.params slot) i))) (sym join.0)
          (of scenario.joins join.1);
    }
    by_class (inr leave) = record {
      readable = subst (λ k. BelongsTo scenario now k (ask_frame c number (cycle_of scenario.params slot) i)) (sym leave.0) names;
      askable = λ within. subst (IsAskableAs scenario i (identity_of (ask_frame c number (cycle_of scenario.params slot) i))) (sym leave.0)
          (of scenario.leaves leave.1);
    }

asked_belongs : (scenario : ScenarioParts) (s : RunState) (i : ℕ) → IsOrderly scenario.params.nodes s → MayTurn s i → AreCounted scenario s
    → AllBelong scenario s
    → AllByRecursion (AsksOnly (Waiting scenario s.trace i)) (turn_effects (scenario_at scenario s i) i (next_notice s i ∷ history i s))
asked_belongs scenario s i o may counted h =
    turn_only (Waiting scenario s.trace i) (scenario_at scenario s i) i (next_notice s i ∷ history i s) (λ f. by_reason f)
  where
    read : (f : FrameParts) → Among (Has f) (next_notice s i ∷ history i s) → BelongsTo scenario (length s.trace) f.class f
    read f has =
        let note = turn_note scenario s i f may (o.unread i) has in
        readable_later scenario note.0.slot (length s.trace) f f.class (slot_of_note scenario.params.nodes s o note.0 note.1)
        (h.carried note.0 f note.1 note.2)

    node : i < scenario.params.nodes
    node = subst (λ n. i < n) o.count may.there

    early : (slot : ℕ) → length (next_notice s i ∷ history i s) ≡ suc slot → slot ≤ length s.trace
    early slot now = omega (arith, now, history-length i s)

    by_reason : (f : FrameParts) → MayAsk (scenario_at scenario s i) i (next_notice s i ∷ history i s) f → Belongs scenario i (length s.trace) f
    by_reason f (relays relayed got) =
        let h = read f (Among-weaker (λ n. n ≡ Got f) (Has f) (λ n e. inl e) (next_notice s i ∷ history i s) got) in
        record { readable = h; askable = relayed_askable scenario i (length s.trace) f f.class relayed h }
    by_reason f (originates m is origin slot late frame) =
        let class : f.class ≡ data_class m.service = sym (ap (λ (g : FrameParts). g.class) frame) in
        data_belongs scenario i (length s.trace) m (Contains-from_Among (messages_of scenario.sends) m is) m.service refl f frame class
    by_reason f (confirms g sent rel own frame) =
        confirm_belongs scenario i (length s.trace) g f rel frame
        (read g (Among-weaker (λ n. n ≡ Sent g) (Has g) (λ n e. inr e) (next_notice s i ∷ history i s) sent))
    by_reason f (accepts g sent tot own frame) =
        accept_belongs scenario i (length s.trace) g f tot frame
        (read g (Among-weaker (λ n. n ≡ Sent g) (Has g) (λ n e. inr e) (next_notice s i ∷ history i s) sent))
    by_reason f (signals sign slot now known frame) = elim known [
      | inl told ↦
          let g : FrameParts = told.frame in
          let names = fda_names scenario (length s.trace) g told.class
          (read g (Among-weaker (λ n. n ≡ Got g) (Has g) (λ n e. inl e) (next_notice s i ∷ history i s) told.read)) in
          let same : g.node ≡ sign.node = ap (λ (a : FailureSign). a.node) told.tells in
          let cycle : g.number ≡ sign.cycle = ap (λ (a : FailureSign). a.cycle) told.tells in
          sign_belongs scenario i (length s.trace) sign f frame (omega (arith, same, names.node)) (omega (arith, cycle, names.number))
      | inr found ↦
          sign_belongs scenario i (length s.trace) sign f frame found.node
          (omega (arith, found.cycle, div_grows slot (length s.trace) scenario.params.cycle (early slot now)))
    ]
    by_reason f (lives slot now due frame) =
        let passed = signs_spaced scenario s i may (o.unread i) counted.1 in
        life_belongs scenario i (length s.trace) (scenario_at scenario s i).inc (life_signs_sent i (next_notice s i ∷ history i s)) f frame node
        (omega (arith, passed, history-length i s))
    by_reason f (exchanges slot v sends frame) =
        vector_belongs scenario i (length s.trace) (scenario_at scenario s i).inc (cycle_of scenario.params slot) v f frame node
        (div_grows slot (length s.trace) scenario.params.cycle (early slot sends.now))
    by_reason f (requests slot c request frame) =
        request_belongs scenario (node_at s.nodes i).present i slot (length s.trace) (next_notice s i ∷ history i s) c f frame node
        (early slot (request_now (scenario_at scenario s i) i (next_notice s i ∷ history i s) slot c request)) request

-- ---- every run

belonging_kept : (scenario : ScenarioParts) → IsKeptByFrames scenario (AreCounted scenario) (Waiting scenario) (WasCarried scenario)
belonging_kept scenario = record {
  waiting_later = λ note trace i f h. belongs_in scenario i (length trace) (length (note ∷ trace)) f (omega arith) h;
  carried_later = λ note trace slot f h. h;
  sent = λ note trace i f number frame sender h.
      readable_later scenario (length trace) note.slot f f.class (omega (arith, number)) h.readable;
  asked = asked_belongs scenario;
}

pub all_belong : (scenario : ScenarioParts) (journal : List Step) → scenario.params.nodes ≤ most_nodes → AllBelong scenario (run scenario journal)
all_belong scenario journal few =
    holds_of_frames scenario (AreCounted scenario) (nodes_at_first scenario (Counted scenario) (signs_counted scenario))
    (nodes_kept scenario (Counted scenario) (signs_counted scenario)) (Waiting scenario) (WasCarried scenario) (belonging_kept scenario) journal few

-- what a slot of a run gave a node can be read
pub readable : (scenario : ScenarioParts) (s : RunState) (i : ℕ) (note : SlotNote) → AllBelong scenario s → Contains s.trace note
    → IsReadable scenario note.slot (given i note)
readable scenario s i note h c = go (given i note) refl
  where
    go : (notice : NoticeKind) → given i note ≡ notice → IsReadable scenario note.slot notice
    go Idle e = tt
    go Bad e = tt
    go (Got f) e = h.carried note f c (given-Got i note f e).0
    go (Sent f) e = h.carried note f c (given-Sent i note f e).0

-- so can what its incarnation sees of it
pub seen_readable : (scenario : ScenarioParts) (s : RunState) (i : ℕ) (inc : Incarnation) (note : SlotNote) → AllBelong scenario s → Contains s.trace note
    → IsReadable scenario note.slot (given i (as_seen inc note))
seen_readable scenario s i inc note h c = elim (cases_Bool (is_hidden inc note)) [
  | inl hidden ↦ subst (IsReadable scenario note.slot) (sym (seen_idle i inc note hidden)) tt
  | inr plain ↦ subst (λ n. IsReadable scenario note.slot (given i n)) (sym (seen_plain inc note plain)) (readable scenario s i note h c)
]

-- ---- as an incarnation follows the scenario

message_for : (scenario : ScenarioParts) (inc : Incarnation) (by : Service) (x : Identity) → IsOfMessage scenario by x → IsOfMessage (scenario_for scenario inc) by x
message_for scenario inc by x h = record { message = h.message; stands = h.stands; sent_by = h.sent_by; number = h.number; origin = h.origin }

data_for : (scenario : ScenarioParts) (inc : Incarnation) (by : Service) (f : FrameParts) → IsDataOf scenario by f → IsDataOf (scenario_for scenario inc) by f
data_for scenario inc by f h = record { message = h.message; stands = h.stands; sent_by = h.sent_by; frame = h.frame }

node_for : (scenario : ScenarioParts) (inc : Incarnation) (interval slot : ℕ) (f : FrameParts) → NamesNode scenario interval slot f
    → NamesNode (scenario_for scenario inc) interval slot f
node_for scenario inc interval slot f h = record { node = h.node; number = h.number }

belongs_for : (scenario : ScenarioParts) (inc : Incarnation) (slot : ℕ) (f : FrameParts) (c : Class) → BelongsTo scenario slot c f
    → BelongsTo (scenario_for scenario inc) slot c f
belongs_for scenario inc slot f class.Accept h = message_for scenario inc Tot (identity_of f) h
belongs_for scenario inc slot f class.Rha h = node_for scenario inc scenario.params.cycle slot f h
belongs_for scenario inc slot f class.Els h = record { node = h.node; passed = h.passed }
belongs_for scenario inc slot f class.Fda h = node_for scenario inc scenario.params.cycle slot f h
belongs_for scenario inc slot f class.Join h = node_for scenario inc scenario.params.cycle slot f h
belongs_for scenario inc slot f class.Leave h = node_for scenario inc scenario.params.cycle slot f h
belongs_for scenario inc slot f class.Confirm h = message_for scenario inc Rel (identity_of f) h
belongs_for scenario inc slot f class.Tot h = data_for scenario inc Tot f h
belongs_for scenario inc slot f class.Rel h = data_for scenario inc Rel f h
belongs_for scenario inc slot f class.Ed h = data_for scenario inc Ed f h

-- what can be read in a run of the scenario, can be read in what an incarnation follows
pub readable_for : (scenario : ScenarioParts) (inc : Incarnation) (slot : ℕ) (notice : NoticeKind) → IsReadable scenario slot notice
    → IsReadable (scenario_for scenario inc) slot notice
readable_for scenario inc slot Idle h = tt
readable_for scenario inc slot Bad h = tt
readable_for scenario inc slot (Got f) h = belongs_for scenario inc slot f f.class h
readable_for scenario inc slot (Sent f) h = belongs_for scenario inc slot f f.class h

of_node_for : (scenario : ScenarioParts) (inc : Incarnation) (interval : ℕ) (x : Identity) → IsOfNode scenario interval x
    → IsOfNode (scenario_for scenario inc) interval x
of_node_for scenario inc interval x h = record { node = h.node; number = h.number }

vector_for : (scenario : ScenarioParts) (inc : Incarnation) (i : ℕ) (x : Identity) → IsOfVector scenario i x
    → IsOfVector (scenario_for scenario inc) i x
vector_for scenario inc i x h = record { node = h.node; number = h.number }

ask_for : (scenario : ScenarioParts) (inc : Incarnation) (asks : List NodeAsk) (i : ℕ) (x : Identity) → IsOfAsk scenario asks i x
    → IsOfAsk (scenario_for scenario inc) asks i x
ask_for scenario inc asks i x h = record { ask = h.ask; stands = h.stands; asker = h.asker; node = h.node; number = h.number }

-- so it is with what may be asked for
pub askable_for : (scenario : ScenarioParts) (inc : Incarnation) (i : ℕ) (x : Identity) → IsAskable scenario i x
    → IsAskable (scenario_for scenario inc) i x
askable_for scenario inc i x h = by_class x.class h
  where
    by_class : (c : Class) → IsAskableAs scenario i x c → IsAskableAs (scenario_for scenario inc) i x c
    by_class class.Accept h = message_for scenario inc Tot x h
    by_class class.Rha h = vector_for scenario inc i x h
    by_class class.Els h = record { node = h.node; passed = h.passed }
    by_class class.Fda h = of_node_for scenario inc scenario.params.cycle x h
    by_class class.Join h = ask_for scenario inc scenario.joins i x h
    by_class class.Leave h = ask_for scenario inc scenario.leaves i x h
    by_class class.Confirm h = message_for scenario inc Rel x h
    by_class class.Tot h = message_for scenario inc Tot x h
    by_class class.Rel h = message_for scenario inc Rel x h
    by_class class.Ed h = message_for scenario inc Ed x h
