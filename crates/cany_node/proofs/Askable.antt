-- What a node may ask for fits the identifiers, and a turn names nothing else.
use Rattle.std.proofs.Common.{◌≡◌, ℕ, suc, ◌*◌, ◌/◌, ◌<◌, ◌≤◌, true, inl, inr, List, [], ◌∷◌, length, All, Contains, refl, ap, sym, ◌∙◌, subst, arith}
use Rattle.std.specs.List.{AllByRecursion}
use Rattle.std.proofs.Math.Nat.{div-lt_iff_lt-mul, div-mul-le_self, mul-le-mul_left}
use Rattle.std.proofs.lemmas.Bool.{false≢true}
use Rattle.std.proofs.lemmas.List.Elements.{All-contains}
use Rattle.std.proofs.lemmas.Nat.{le-div}
use Rattle.cany_base.specs.declared.class.Class.{Class}
use Rattle.cany_base.specs.declared.class.Class.TheVariants as class
use Rattle.cany_base.specs.declared.message.NodeAsk.{NodeAsk}
use Rattle.cany_base.specs.declared.message.Service.{Service}
use Rattle.cany_base.specs.declared.message.Service.TheVariants as service
use Rattle.cany_base.specs.declared.notice.NoticeKind.{NoticeKind}
use Rattle.cany_base.specs.declared.notice.NoticeKind.TheVariants.{Got, Sent}
use Rattle.cany_base.specs.Frame.{FrameParts, data_class}
use Rattle.cany_base.specs.Limits.{most_numbers, most_slots}
use Rattle.cany_base.specs.Scenario.{ScenarioParts, IsAskOf, IsLegalScenario}
use Rattle.cany_base.proofs.ParamsFacts.{few_slots}
use Rattle.cany_message.proofs.NoticeFacts.{data_names}
use Rattle.cany_model.specs.Bus.Frames.{Identity, bare, identity_of}
use Rattle.cany_model.specs.Bus.History.{copies, is_got}
use Rattle.cany_model.specs.Rules.Effect.{Effect, Ask, Withdraw, Enter}
use Rattle.cany_model.specs.Rules.Life.{els_frame, life_signs_sent}
use Rattle.cany_model.specs.Rules.Messages.{Message, messages_of, data_frame, accept_of_key}
use Rattle.cany_model.specs.Rules.Notices.{BelongsTo, HasFewSigns, IsReadable}
use Rattle.cany_model.specs.Rules.Protocol.{Protocol}
use Rattle.cany_model.specs.Rules.Relcan.{confirm_frame}
use Rattle.cany_model.specs.Rules.Rooms.{IsAskable, IsAskableAs, IsOfAsk, IsOfNode}
use Rattle.cany_model.specs.Rules.Knowledge.{FailureSign, fda_frame}
use Rattle.cany_model.specs.Rules.Totcan.{message_in}
use Rattle.cany_model.specs.Rules.Turn.{protocols, turn_effects}
use Rattle.cany_model.specs.Rules.Vectors.{rha_of}
use Rattle.cany_base.specs.Cycles.{cycle_of}
use Rattle.cany_model.specs.Rules.Views.{ask_of as ask_id}
use Rattle.cany_model.proofs.Among.{Among, Among-from_Contains, Among-from_count, Among-weaker, Among-which, Contains-from_Among, Each-flat_map, Each-weaker}
use Rattle.cany_model.proofs.Bus.Carried.{Has, is_got-true}
use Rattle.cany_model.proofs.Rules.NumberFacts.{bound_long, message_is_small}
use Rattle.cany_model.proofs.Rules.ProtocolFacts.{accepts, answered, closes, confirms, diffused_is_relayed, enough, enough_accept, exchanges, is_relayed, IsAskOf as IsScriptedAs, IsFounded, IsKnownBy, IsLawful, IsScripted, lives, MayAsk, MayRequest, MayWithdraw, originates, relays, requests, settles, signals}
use Rattle.cany_model.proofs.Rules.Protocols.{are_lawful}
use Rattle.cany_model.proofs.Rules.Site.SignRooms.{div_grows}
use Rattle.can_frame.specs.Identifier.{FitsFormat}
use Rattle.can_frame.proofs.IdentityFacts.{small_fits}
use Rattle.cany_node.specs.Apply.{MayName, NamesAskable}
use Rattle.cany_node.specs.Node.{AreReadable}

-- ---- numbers

-- the number of so many intervals in a run, where an interval has 17 slots at least
intervals_few : (slots interval number : ℕ) → slots ≤ most_slots → 17 ≤ interval → number ≤ slots / interval → number < most_numbers
intervals_few slots interval number few long n =
    let some : 0 < interval = omega (arith, long) in
    let more : most_numbers * 17 ≤ most_numbers * interval = mul-le-mul_left most_numbers long in
    let below : slots / interval < most_numbers = (div-lt_iff_lt-mul some).1 (omega (arith, few, more)) in
    omega (arith, below, n)

-- what a node may ask for has a number below what every format has room for
askable_number : (scenario : ScenarioParts) (i : ℕ) (x : Identity) → IsLegalScenario scenario → IsAskable scenario i x
    → x.number < most_numbers
askable_number scenario i x legal is = by_class x.class is
  where
    cycle : 17 ≤ scenario.params.cycle
    cycle = omega (arith, bound_long scenario legal, legal.formulas.cycle)

    life : 17 ≤ scenario.params.life
    life = omega (arith, bound_long scenario legal, legal.formulas.life)

    few : (interval : ℕ) → 17 ≤ interval → x.number ≤ scenario.params.slots / interval → x.number < most_numbers
    few interval long number = intervals_few scenario.params.slots interval x.number (few_slots scenario.params legal.in_range) long number

    asked : (asks : List NodeAsk) → All (IsAskOf scenario.params) asks → IsOfAsk scenario asks i x → x.number < most_numbers
    asked asks within h =
        let slot : h.ask.slot < scenario.params.slots = (All-contains (IsAskOf scenario.params) asks h.ask within h.stands).0 in
        few scenario.params.cycle cycle
        (omega (arith, h.number, div_grows h.ask.slot scenario.params.slots scenario.params.cycle (omega (arith, slot))))

    by_class : (c : Class) → IsAskableAs scenario i x c → x.number < most_numbers
    by_class class.Accept m = (message_is_small scenario service.Tot x legal m).number
    by_class class.Rha n = few scenario.params.cycle cycle n.number
    by_class class.Els n = few scenario.params.life life (le-div x.number scenario.params.slots scenario.params.life (omega (arith, life)) n.passed)
    by_class class.Fda n = few scenario.params.cycle cycle n.number
    by_class class.Join n = asked scenario.joins legal.joins n
    by_class class.Leave n = asked scenario.leaves legal.leaves n
    by_class class.Confirm m = (message_is_small scenario service.Rel x legal m).number
    by_class class.Tot m = (message_is_small scenario service.Tot x legal m).number
    by_class class.Rel m = (message_is_small scenario service.Rel x legal m).number
    by_class class.Ed m = (message_is_small scenario service.Ed x legal m).number

pub askable_fits : (scenario : ScenarioParts) (i : ℕ) (x : Identity) → IsLegalScenario scenario → MayName scenario i x
    → FitsFormat scenario.params.format (bare x)
askable_fits scenario i x legal is =
    small_fits scenario.params.format (bare x) (askable_number scenario i x legal is.0, omega (arith, is.1, legal.in_range.nodes.1))

-- ---- what a node may ask for names a node of the bus, if the node is one

pub names_node : (scenario : ScenarioParts) (i : ℕ) (x : Identity) → IsLegalScenario scenario → i < scenario.params.nodes
    → IsAskable scenario i x → x.node < scenario.params.nodes
names_node scenario i x legal there is = by_class x.class is
  where
    by_class : (c : Class) → IsAskableAs scenario i x c → x.node < scenario.params.nodes
    by_class class.Accept m = (message_is_small scenario service.Tot x legal m).node
    by_class class.Rha n = omega (arith, n.node, there)
    by_class class.Els n = n.node
    by_class class.Fda n = n.node
    by_class class.Join n = omega (arith, n.node, there)
    by_class class.Leave n = omega (arith, n.node, there)
    by_class class.Confirm m = (message_is_small scenario service.Rel x legal m).node
    by_class class.Tot m = (message_is_small scenario service.Tot x legal m).node
    by_class class.Rel m = (message_is_small scenario service.Rel x legal m).node
    by_class class.Ed m = (message_is_small scenario service.Ed x legal m).node

-- ---- a frame that was read

-- what was read belongs to the scenario, in the slot in which it was read
read_in_time : (scenario : ScenarioParts) (past : List NoticeKind) (f : FrameParts) → AreReadable scenario past → Among (Has f) past
    → (slot : ℕ) × (slot < length past) × BelongsTo scenario slot f.class f
read_in_time scenario [] f readable h = absurd h
read_in_time scenario (kind ∷ past) f readable (inl (inl got)) = (length past, omega arith, subst (IsReadable scenario (length past)) got readable.0)
read_in_time scenario (kind ∷ past) f readable (inl (inr sent)) = (length past, omega arith, subst (IsReadable scenario (length past)) sent readable.0)
read_in_time scenario (kind ∷ past) f readable (inr h) =
    let read = read_in_time scenario past f readable.1 h in
    (read.0, omega (arith, read.1), read.2)

pub read_belongs : (scenario : ScenarioParts) (past : List NoticeKind) (f : FrameParts) → AreReadable scenario past → Among (Has f) past
    → (slot : ℕ) × BelongsTo scenario slot f.class f
read_belongs scenario past f readable h = let read = read_in_time scenario past f readable h in (read.0, read.2)

-- what is known to a node that has read no more slots than the run has
module _ (scenario : ScenarioParts) (past : List NoticeKind) (legal : IsLegalScenario scenario) (readable : AreReadable scenario past)
    (within : length past ≤ scenario.params.slots) where
  -- the cycle of a slot of the run is one of the run
  cycle_within : (slot : ℕ) → slot ≤ length past → slot / scenario.params.cycle ≤ scenario.params.slots / scenario.params.cycle
  cycle_within slot early =
      le-div (slot / scenario.params.cycle) scenario.params.slots scenario.params.cycle (omega (arith, legal.in_range.cycle.0))
      (omega (arith, div-mul-le_self slot scenario.params.cycle, early, within))

  -- of node i
  module _ (i : ℕ) (there : i < scenario.params.nodes) where
    -- a frame that others send too
    belongs_askable : (slot : ℕ) (f : FrameParts) (c : Class) → is_relayed c ≡ true → slot < length past → BelongsTo scenario slot c f
        → IsAskableAs scenario i (identity_of f) c
    belongs_askable slot f class.Accept relayed early h = record { message = h.message; stands = h.stands; sent_by = h.sent_by; number = h.number; origin = h.origin }
    belongs_askable slot f class.Rha relayed early h = absurd (false≢true relayed)
    belongs_askable slot f class.Els relayed early h = absurd (false≢true relayed)
    belongs_askable slot f class.Fda relayed early h = record { node = h.node; number = omega (arith, h.number, cycle_within slot (omega (arith, early))) }
    belongs_askable slot f class.Join relayed early h = absurd (false≢true relayed)
    belongs_askable slot f class.Leave relayed early h = absurd (false≢true relayed)
    belongs_askable slot f class.Confirm relayed early h = absurd (false≢true relayed)
    belongs_askable slot f class.Tot relayed early h = absurd (false≢true relayed)
    belongs_askable slot f class.Rel relayed early h = data_names scenario service.Rel f h
    belongs_askable slot f class.Ed relayed early h = data_names scenario service.Ed f h

    read_askable : (f : FrameParts) → Among (Has f) past → is_relayed f.class ≡ true → IsAskable scenario i (identity_of f)
    read_askable f h relayed =
        let read = read_in_time scenario past f readable h in
        belongs_askable read.0 f f.class relayed read.1 read.2

    got_askable : (f : FrameParts) → Among (λ n. n ≡ Got f) past → is_relayed f.class ≡ true → IsAskable scenario i (identity_of f)
    got_askable f got relayed = read_askable f (Among-weaker (λ n. n ≡ Got f) (Has f) (λ n e. inl e) past got) relayed

    message_askable : (m : Message) → Contains (messages_of scenario.sends) m → IsAskable scenario i (identity_of (data_frame m))
    message_askable m stands = by_service m.service refl
      where
        by_service : (by : Service) → m.service ≡ by → IsAskableAs scenario i (identity_of (data_frame m)) (data_class by)
        by_service service.Ed e = record { message = m; stands = stands; sent_by = e; number = refl; origin = refl }
        by_service service.Rel e = record { message = m; stands = stands; sent_by = e; number = refl; origin = refl }
        by_service service.Tot e = record { message = m; stands = stands; sent_by = e; number = refl; origin = refl }

    confirm_askable : (g : FrameParts) → Among (Has g) past → g.class ≡ class.Rel → IsAskable scenario i (identity_of (confirm_frame g))
    confirm_askable g h rel =
        let read = read_belongs scenario past g readable h in
        let m = data_names scenario service.Rel g (subst (λ c. BelongsTo scenario read.0 c g) rel read.1) in
        record { message = m.message; stands = m.stands; sent_by = m.sent_by; number = m.number; origin = m.origin }

    accept_askable : (g : FrameParts) → Among (Has g) past → g.class ≡ class.Tot → IsAskable scenario i (accept_of_key (message_in g))
    accept_askable g h tot =
        let read = read_belongs scenario past g readable h in
        let m = data_names scenario service.Tot g (subst (λ c. BelongsTo scenario read.0 c g) tot read.1) in
        record { message = m.message; stands = m.stands; sent_by = m.sent_by; number = m.number; origin = m.origin }

    -- a failure sign names a node of the bus, and a cycle that has come
    signal_askable : (sign : FailureSign) (slot : ℕ) → length past ≡ suc slot → IsKnownBy scenario slot past sign
        → IsAskable scenario i (identity_of (fda_frame sign))
    signal_askable sign slot now (inl told) =
        let f : FrameParts = told.frame in
        let read = read_in_time scenario past f readable (Among-weaker (λ n. n ≡ Got f) (Has f) (λ n e. inl e) past told.read) in
        let of : IsOfNode scenario scenario.params.cycle (identity_of f) =
        belongs_askable read.0 f class.Fda refl read.1 (subst (λ c. BelongsTo scenario read.0 c f) told.class read.2) in
        let node : f.node ≡ sign.node = ap (λ (s : FailureSign). s.node) told.tells in
        let cycle : f.number ≡ sign.cycle = ap (λ (s : FailureSign). s.cycle) told.tells in
        record { node = omega (arith, of.node, node); number = omega (arith, of.number, cycle) }
    signal_askable sign slot now (inr found) =
        record { node = found.node; number = omega (arith, found.cycle, cycle_within slot (omega (arith, now))) }

    -- the node's own vector, of a cycle that has come
    vector_askable : (slot : ℕ) → length past ≡ suc slot → IsAskable scenario i (rha_of (cycle_of scenario.params slot) i)
    vector_askable slot now = record { node = refl; number = cycle_within slot (omega (arith, now)) }

    -- its scripted ask of a slot
    scripted_askable : (asks : List NodeAsk) (ask : NodeAsk) (c : Class) → Contains asks ask → ask.node ≡ i
        → IsOfAsk scenario asks i (ask_id c (cycle_of scenario.params ask.slot) i)
    scripted_askable asks ask c stands asker = record { ask = ask; stands = stands; asker = asker; node = refl; number = refl }

    request_askable : (asks : List NodeAsk) (slot : ℕ) (c : Class) → IsScripted scenario asks i past slot
        → IsOfAsk scenario asks i (ask_id c (cycle_of scenario.params slot) i)
    request_askable asks slot c h =
        subst (λ n. IsOfAsk scenario asks i (ask_id c (cycle_of scenario.params n) i)) h.asked_in (scripted_askable asks h.ask c h.stands h.asker)

    requested_askable : (slot : ℕ) (c : Class) → MayRequest scenario i past slot c
        → IsAskable scenario i (ask_id c (cycle_of scenario.params slot) i)
    requested_askable slot c (inl join) =
        subst (IsAskableAs scenario i (ask_id c (cycle_of scenario.params slot) i)) (sym join.0) (request_askable scenario.joins slot c join.1)
    requested_askable slot c (inr leave) =
        subst (IsAskableAs scenario i (ask_id c (cycle_of scenario.params slot) i)) (sym leave.0) (request_askable scenario.leaves slot c leave.1)

    answered_askable : (c : Class) (ask : NodeAsk) → IsScriptedAs scenario c ask → ask.node ≡ i
        → IsAskable scenario i (ask_id c (cycle_of scenario.params ask.slot) i)
    answered_askable c ask (inl join) asker =
        subst (IsAskableAs scenario i (ask_id c (cycle_of scenario.params ask.slot) i)) (sym join.0) (scripted_askable scenario.joins ask c join.1 asker)
    answered_askable c ask (inr leave) asker =
        subst (IsAskableAs scenario i (ask_id c (cycle_of scenario.params ask.slot) i)) (sym leave.0) (scripted_askable scenario.leaves ask c leave.1 asker)

    asked_askable : (f : FrameParts) → life_signs_sent i past * scenario.params.life ≤ scenario.params.slots → MayAsk scenario i past f
        → IsAskable scenario i (identity_of f)
    asked_askable f few (relays relayed got) = got_askable f got relayed
    asked_askable f few (originates m is origin slot late frame) =
        subst (λ g. IsAskable scenario i (identity_of g)) frame (message_askable m (Contains-from_Among (messages_of scenario.sends) m is))
    asked_askable f few (confirms g sent rel own frame) =
        subst (λ h. IsAskable scenario i (identity_of h)) frame (confirm_askable g (Among-weaker (λ n. n ≡ Sent g) (Has g) (λ n e. inr e) past sent) rel)
    asked_askable f few (accepts g sent tot own frame) =
        subst (λ h. IsAskable scenario i (identity_of h)) frame (accept_askable g (Among-weaker (λ n. n ≡ Sent g) (Has g) (λ n e. inr e) past sent) tot)
    asked_askable f few (signals sign slot now known frame) =
        subst (λ g. IsAskable scenario i (identity_of g)) frame (signal_askable sign slot now known)
    asked_askable f few (lives slot now due frame) =
        let own : IsAskable scenario i (identity_of (els_frame scenario.inc i (life_signs_sent i past))) = record { node = there; passed = few } in
        subst (λ g. IsAskable scenario i (identity_of g)) frame own
    asked_askable f few (exchanges slot v sends frame) = subst (λ g. IsAskable scenario i (identity_of g)) frame (vector_askable slot sends.now)
    asked_askable f few (requests slot c request frame) = subst (λ g. IsAskable scenario i (identity_of g)) frame (requested_askable slot c request)

    -- a copy of which was read
    copied_askable : (x : Identity) → is_relayed x.class ≡ true → 0 < copies x past → IsAskable scenario i x
    unfolding copies
    copied_askable x relayed some =
        let w = Among-which (λ n. is_got x n ≡ true) past (Among-from_count (is_got x) past some) in
        let got = is_got-true x w.0 w.2 in
        subst (IsAskable scenario i) (sym got.identity)
        (read_askable got.what (Among-weaker (λ n. n ≡ w.0) (Has got.what) (λ n e. inl (e ∙ got.was)) past (Among-from_Contains past w.0 w.1))
        (ap (λ (y : Identity). is_relayed y.class) (sym got.identity) ∙ relayed))

    withdrawn_askable : (x : Identity) → MayWithdraw scenario i past x → IsAskable scenario i x
    withdrawn_askable x (enough diffused many) = copied_askable x (diffused_is_relayed x.class diffused) (omega (arith, many))
    withdrawn_askable x (enough_accept f got accept same many) = subst (IsAskable scenario i) same (got_askable f got (ap is_relayed accept))
    withdrawn_askable x (closes f read tot same closed) = subst (IsAskable scenario i) same (accept_askable f read tot)
    withdrawn_askable x (settles slot may same) = subst (IsAskable scenario i) same (vector_askable slot may.0)
    withdrawn_askable x (answered slot c ask now end scripted asker same) = subst (IsAskable scenario i) same (answered_askable c ask scripted asker)

    -- ---- what a turn names

    may_name : (x : Identity) → IsAskable scenario i x → MayName scenario i x
    may_name x is = (is, names_node scenario i x legal there is)

    module _ (few : HasFewSigns scenario i past scenario.params.slots) where
      effect_names : (p : Protocol) (e : Effect) → IsFounded scenario p i past e → NamesAskable scenario i e
      effect_names p (Ask f) k = may_name (identity_of f) (asked_askable f few k.0)
      effect_names p (Withdraw x) k = may_name x (withdrawn_askable x k.0)
      effect_names p (Enter entry) k = tt

      each_names : (ps : List Protocol) → AllByRecursion IsLawful ps
          → AllByRecursion (λ p. AllByRecursion (NamesAskable scenario i) (p.effects scenario i past)) ps
      each_names [] lawful = tt
      each_names (p ∷ ps) lawful = (
        Each-weaker (IsFounded scenario p i past) (NamesAskable scenario i) (effect_names p) (p.effects scenario i past) (lawful.0.founded scenario i past),
        each_names ps lawful.1,
      )

      pub turn_names : AllByRecursion (NamesAskable scenario i) (turn_effects scenario i past)
      unfolding turn_effects
      turn_names = Each-flat_map (λ p. p.effects scenario i past) (NamesAskable scenario i) protocols (each_names protocols are_lawful)
