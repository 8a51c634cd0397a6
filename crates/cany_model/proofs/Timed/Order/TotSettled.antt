-- Agreement of TOTCAN: a settled message stands in the logs of all nodes that take part since its
-- data frame was first carried, or of none.
use Rattle.std.proofs.Common.{◌≡◌, ℕ, ◌≤◌, ◌||◌, ◌&&◌, ◌==◌, inl, inr, Bool, true, false, if◌then◌else◌, List, [], ◌∷◌, Contains, Option, Some, None, refl, ap, sym, ◌∙◌, subst, arith}
use Rattle.std.specs.List.{AllByRecursion, list_any}
use Rattle.std.proofs.lemmas.Bool.{and_from, eq-eqb, false≢true, or_cases, or_left, or_right}
use Rattle.cany_base.specs.declared.class.Class.{Class}
use Rattle.cany_base.specs.declared.class.Class.TheVariants as class
use Rattle.cany_base.specs.declared.message.MsgKey.{MsgKey}
use Rattle.cany_base.specs.declared.message.Service.TheVariants.{Tot}
use Rattle.cany_base.specs.declared.notice.NoticeKind.{NoticeKind}
use Rattle.cany_base.specs.declared.slot_note.SlotNote.{SlotNote}
use Rattle.cany_base.specs.declared.step.Step.{Step}
use Rattle.cany_base.specs.Frame.{data_class}
use Rattle.cany_base.specs.Limits.{most_nodes}
use Rattle.cany_base.specs.Scenario.{ScenarioParts}
use Rattle.cany_model.specs.Bus.Frames.{Identity, identity_of, same_class}
use Rattle.cany_model.specs.Bus.History.{has_own, history, is_got, is_sent}
use Rattle.cany_model.specs.Runs.Run.{run}
use Rattle.cany_model.specs.Bus.State.{RunState, node_at}
use Rattle.cany_model.specs.Promises.Hypothesis.{IsWithin}
use Rattle.cany_model.specs.Promises.Order.{FollowsOrder, content_of, is_accepted_by_some, order, tot_deliveries}
use Rattle.cany_model.specs.Promises.Entries.{HasDelivered}
use Rattle.cany_model.specs.Promises.FirstSlots.{first_carried}
use Rattle.cany_model.specs.Promises.Safe.{IsAgreedFrom, IsAgreedOn}
use Rattle.cany_model.specs.Promises.Settled.{IsCorrectFrom, is_settled, origin_has_asked}
use Rattle.cany_model.specs.Bus.Slot.{is_clean}
use Rattle.cany_model.specs.Rules.Backlog.{backlog_effects}
use Rattle.cany_model.specs.Rules.Effect.{Effect, Ask, Withdraw, Enter}
use Rattle.cany_model.specs.Rules.Log.{log}
use Rattle.cany_model.specs.Rules.Messages.{Message, data_frame, data_id, message_key, messages_of}
use Rattle.cany_model.specs.Rules.Protocol.{Protocol}
use Rattle.cany_model.specs.Rules.Sends.{send_effects}
use Rattle.cany_model.specs.Rules.Totcan.{is_accepted, is_heard, tot_of_key}
use Rattle.cany_model.specs.Rules.Turn.{asks_for, has_asked, origin_effects, protocols, scenario_for, turn_effects}
use Rattle.cany_base.specs.Cycles.{cycle_of}
use Rattle.cany_model.specs.Rules.Views.{ask_of as ask_id}
use Rattle.cany_model.proofs.Among.{Among, Among-append_left, Among-flat_map, Among-from_Contains, Among-from_flat_map, Among-weaker, Among-which, Among-with, Contains-from_Among, any-from_Among}
use Rattle.cany_model.proofs.Bus.Carried.{Carries, CarriesClean}
use Rattle.cany_model.proofs.Bus.Identities.{same_class_self, same_identity-from, same_identity-true}
use Rattle.cany_model.proofs.Runs.Runs.{orderly}
use Rattle.cany_model.proofs.Bus.Seen.{history-is}
use Rattle.cany_model.proofs.Rules.Waits.{Asks, Withdraws}
use Rattle.cany_model.proofs.Promises.Agrees.{origin_sent}
use Rattle.cany_model.proofs.Promises.Agreement.{IsAtRest, carried_read, owed_carried, sent_carried}
use Rattle.cany_model.proofs.Promises.Diffusion.{Duty, IsDiffused}
use Rattle.cany_model.proofs.Promises.DiffusionRun.{run_diffuses}
use Rattle.cany_model.proofs.Promises.OwnSlotsAlone.{run_numbered}
use Rattle.cany_model.proofs.Promises.Firsts.{carried_has_first, first_is_first, first_some}
use Rattle.cany_model.proofs.Promises.OneFrame.{only_frame}
use Rattle.cany_model.proofs.Promises.SettledFacts.{settled_asked_or_late, settled_read, settled_waits}
use Rattle.cany_model.proofs.Promises.Sources.{IsSourced, sourced}
use Rattle.cany_model.proofs.Rules.IdleBeforeTakingPart.{IsBegun, begun_before, begun_copies, begun_short}
use Rattle.cany_model.proofs.Rules.Services.MessageKeys.{IsOneOf}
use Rattle.cany_model.proofs.Rules.ProtocolFacts.{IsFounded, IsLawful, MayWithdraw, answered, asks_named, closes, enough, enough_accept, is_diffused, settles}
use Rattle.cany_model.proofs.Rules.Protocols.{are_lawful}
use Rattle.cany_model.proofs.Rules.TurnFacts.{turn_cause_data, turn_effect}
use Rattle.cany_model.proofs.Timed.Order.Accepts.{AcceptedAt}
use Rattle.cany_model.proofs.Timed.Common.Ages.{any_past}
use Rattle.cany_model.proofs.Timed.Order.OneOrder.{Ground, accepted_by_one, follows, ground_of, read_by, seen_by}
use Rattle.cany_model.proofs.Timed.Order.OrderAt.{IsOrdered, Orders, order_has, order_which, orders_carries, orders_from}
use Rattle.cany_model.proofs.Timed.Order.OrderLog.{delivered_content}
use Rattle.cany_model.proofs.Timed.Common.SeenAges.{gets_from}
use Rattle.cany_model.proofs.Timed.Order.Accepted.{not_vector}
use Rattle.cany_model.proofs.Timed.Order.TotBacklog.{tot_id}
use Rattle.cany_model.proofs.Timed.Order.TotKept.{TotKept}

-- ---- an origin that asks for a data frame waits with it until it was carried Clean

pub asks_true : (x : Identity) (effects : List Effect) → list_any (asks_for x) effects ≡ true → Among (Asks x) effects
asks_true x [] h = absurd (false≢true h)
asks_true x (Ask f ∷ effects) h = elim (or_cases (asks_for x (Ask f)) (list_any (asks_for x) effects) h) [
  | inl here ↦ inl (same_identity-true x (identity_of f) here)
  | inr later ↦ inr (asks_true x effects later)
]
asks_true x (Withdraw y ∷ effects) h = inr (asks_true x effects h)
asks_true x (Enter entry ∷ effects) h = inr (asks_true x effects h)

asks_from : (x : Identity) (effects : List Effect) → Among (Asks x) effects → list_any (asks_for x) effects ≡ true
asks_from x [] h = absurd h
asks_from x (Ask f ∷ effects) (inl here) = or_left (asks_for x (Ask f)) (list_any (asks_for x) effects) (same_identity-from x (identity_of f) here)
asks_from x (Ask f ∷ effects) (inr later) = or_right (asks_for x (Ask f)) (list_any (asks_for x) effects) (asks_from x effects later)
asks_from x (Withdraw y ∷ effects) (inl never) = absurd never
asks_from x (Withdraw y ∷ effects) (inr later) = asks_from x effects later
asks_from x (Enter entry ∷ effects) (inl never) = absurd never
asks_from x (Enter entry ∷ effects) (inr later) = asks_from x effects later

-- the effects of a protocol by which an origin asks
abbrev by_origin : ScenarioParts → ℕ → List NoticeKind → Protocol → List Effect
by_origin scenario i past p = if p.originates then p.effects scenario i past else []

pub turn_of_origin : (P : Effect → Type 0) (scenario : ScenarioParts) (i : ℕ) (past : List NoticeKind) → Among P (origin_effects scenario i past)
    → Among P (turn_effects scenario i past)
unfolding turn_effects
turn_of_origin P scenario i past h =
    Among-flat_map (λ p. p.effects scenario i past) P protocols
    (Among-weaker (λ p. Among P (by_origin scenario i past p)) (λ p. Among P (p.effects scenario i past))
    (λ p a. either p.originates (p.effects scenario i past) a) protocols (Among-from_flat_map (by_origin scenario i past) P protocols h))
  where
    either : (b : Bool) (effects : List Effect) → Among P (if b then effects else []) → Among P effects
    either true effects a = a
    either false effects a = absurd a

-- what names data frames of TOTCAN, an origin does for its own messages
abbrev IsOrigins : Protocol → Type 0
IsOrigins p = p.names class.Tot ≡ true → p.originates ≡ true

are_origins : AllByRecursion IsOrigins protocols
unfolding same_class
are_origins = (λ h. h, (λ h. h, (λ h. h, (λ h. h, (λ h. h, (λ h. h, (λ h. h, (λ h. refl, (λ h. h, (λ h. refl, tt))))))))))

origin_of_turn : (scenario : ScenarioParts) (i : ℕ) (past : List NoticeKind) (x : Identity) → x.class ≡ class.Tot
    → Among (Asks x) (turn_effects scenario i past) → Among (Asks x) (origin_effects scenario i past)
unfolding turn_effects
origin_of_turn scenario i past x tot h =
    Among-flat_map (by_origin scenario i past) (Asks x) protocols
    (Among-weaker (λ p. (Among (Asks x) (p.effects scenario i past) × IsLawful p) × IsOrigins p) (λ p. Among (Asks x) (by_origin scenario i past p))
    (λ p a.
    let names : p.names class.Tot ≡ true = ap p.names (sym tot) ∙ asks_named p a.0.1 scenario i x past a.0.0 in
    rw (a.1 names) a.0.0) protocols
    (Among-with (λ p. Among (Asks x) (p.effects scenario i past) × IsLawful p) IsOrigins protocols are_origins
    (Among-with (λ p. Among (Asks x) (p.effects scenario i past)) IsLawful protocols are_lawful
    (Among-from_flat_map (λ p. p.effects scenario i past) (Asks x) protocols h))))

-- a data frame of TOTCAN is never withdrawn
tot_is : (c : Class) (x y : Identity) → y ≡ x → y.class ≡ c → x.class ≡ class.Tot → c ≡ class.Tot
tot_is c x y same is tot = sym is ∙ ap (λ (z : Identity). z.class) same ∙ tot

pub never_withdrawn : (scenario : ScenarioParts) (i : ℕ) (past : List NoticeKind) (x : Identity) → x.class ≡ class.Tot → MayWithdraw scenario i past x → ⊥
never_withdrawn scenario i past x tot (enough diffused many) = false≢true (sym (ap is_diffused tot) ∙ diffused)
never_withdrawn scenario i past x tot (enough_accept f got accept same many) = let e = tot_is class.Accept x (identity_of f) same accept tot in cc
never_withdrawn scenario i past x tot (closes f read of same closed) =
    let e : class.Accept ≡ class.Tot = ap (λ (z : Identity). z.class) same ∙ tot in cc
never_withdrawn scenario i past x tot (settles slot may same) = let e : class.Rha ≡ class.Tot = ap (λ (z : Identity). z.class) same ∙ tot in cc
never_withdrawn scenario i past x tot (answered slot c ask now ends (inl join) own same) =
    let e = tot_is class.Join x (ask_id c (cycle_of scenario.params ask.slot) i) same join.0 tot in cc
never_withdrawn scenario i past x tot (answered slot c ask now ends (inr leave) own same) =
    let e = tot_is class.Leave x (ask_id c (cycle_of scenario.params ask.slot) i) same leave.0 tot in cc

none_withdrawn : (scenario : ScenarioParts) (p : Protocol) (i : ℕ) (past : List NoticeKind) (x : Identity) → x.class ≡ class.Tot → (e : Effect)
    → Withdraws x e → IsFounded scenario p i past e → ⊥
none_withdrawn scenario p i past x tot (Ask f) h k = h
none_withdrawn scenario p i past x tot (Withdraw y) h k = never_withdrawn scenario i past y (ap (λ (z : Identity). z.class) (sym h) ∙ tot) k.0
none_withdrawn scenario p i past x tot (Enter entry) h k = h

-- an origin that has asked for the message is to send its data frame
abbrev tot_duty : Message → ScenarioParts → Duty
tot_duty m scenario = record {
  owes = λ i past. has_asked scenario m i past ≡ true;
  starts = λ i past. has_asked scenario m i past ≡ true;
  begins = IsBegun scenario;
}

pub has_started : (scenario : ScenarioParts) (m : Message) → IsOneOf (messages_of scenario.sends) m → (i : ℕ) (past : List NoticeKind)
    → IsBegun scenario past → has_asked scenario m i past ≡ true → ⊥
unfolding has_asked
has_started scenario m is i [] begun h = false≢true h
has_started scenario m is i (e ∷ past) begun h =
    elim (or_cases (list_any (asks_for (data_id m)) (origin_effects scenario i (e ∷ past))) (has_asked scenario m i past) h) [
      | inr before ↦ has_started scenario m is i past (begun_before scenario e past begun) before
      | inl now ↦
          let asks = turn_of_origin (Asks (data_id m)) scenario i (e ∷ past) (asks_true (data_id m) (origin_effects scenario i (e ∷ past)) now) in
          elim (turn_cause_data scenario i m (e ∷ past) is asks) [
            | inl may ↦ begun_short scenario (e ∷ past) begun m.slot may.1 may.2
            | inr some ↦ let none = begun_copies scenario (data_id m) (e ∷ past) begun in omega (arith, some, none)
          ]
    ]

pub asked_more : (scenario : ScenarioParts) (m : Message) (i : ℕ) (e : NoticeKind) (past : List NoticeKind)
    → has_asked scenario m i (e ∷ past) ≡ (list_any (asks_for (data_id m)) (origin_effects scenario i (e ∷ past)) || has_asked scenario m i past)
unfolding has_asked
asked_more scenario m i e past = refl

asks_is_asked : (scenario : ScenarioParts) (m : Message) → m.service ≡ Tot → (i : ℕ) (past : List NoticeKind)
    → Among (Asks (data_id m)) (turn_effects scenario i past) → has_asked scenario m i past ≡ true
unfolding send_effects backlog_effects
asks_is_asked scenario m tot i [] h = absurd (origin_of_turn scenario i [] (data_id m) (ap data_class tot) h)
asks_is_asked scenario m tot i (e ∷ past) h =
    asked_more scenario m i e past
    ∙ or_left (list_any (asks_for (data_id m)) (origin_effects scenario i (e ∷ past))) (has_asked scenario m i past)
    (asks_from (data_id m) (origin_effects scenario i (e ∷ past)) (origin_of_turn scenario i (e ∷ past) (data_id m) (ap data_class tot) h))

tot_is_diffused : (scenario : ScenarioParts) (m : Message) → IsOneOf (messages_of scenario.sends) m → m.service ≡ Tot
    → IsDiffused (turn_effects scenario) scenario.params.omit (data_id m) (tot_duty m scenario)
tot_is_diffused scenario m is tot = record {
  at_first = λ i past begun owes. has_started scenario m is i past begun owes;
  stays = λ i e past owes.
      asked_more scenario m i e past
      ∙ or_right (list_any (asks_for (data_id m)) (origin_effects scenario i (e ∷ past))) (has_asked scenario m i past) owes;
  known = λ i past owes. inl owes;
  asked = λ i e past owes.
      let now_asked : Bool = list_any (asks_for (data_id m)) (origin_effects scenario i (e ∷ past)) in
      elim (or_cases now_asked (has_asked scenario m i past) (sym (asked_more scenario m i e past) ∙ owes)) [
        | inl now ↦ inr (inl (turn_of_origin (Asks (data_id m)) scenario i (e ∷ past)
            (asks_true (data_id m) (origin_effects scenario i (e ∷ past)) now)))
        | inr before ↦ inl before
      ];
  withdrawn = λ i past h.
      let w = turn_effect (Withdraws (data_id m)) scenario i past h in
      absurd (none_withdrawn scenario w.protocol i past (data_id m) (ap data_class tot) w.effect w.is w.founded);
  cause = λ i past h. asks_is_asked scenario m tot i past h;
}

-- ---- a settled message

-- what the argument uses of a state
abbrev AtRest : ScenarioParts → Message → RunState → Type 0
AtRest scenario m s = IsAtRest scenario (data_id m) (tot_duty m) s

at_rest : (scenario : ScenarioParts) (journal : List Step) → scenario.params.nodes ≤ most_nodes
    → IsWithin scenario.params (run scenario journal).trace → (m : Message) → Contains (messages_of scenario.sends) m
    → m.service ≡ Tot → is_settled scenario (run scenario journal) m ≡ true → AtRest scenario m (run scenario journal)
at_rest scenario journal few within m stands tot settled =
    let s : RunState = run scenario journal in
    let is : IsOneOf (messages_of scenario.sends) m = Among-from_Contains (messages_of scenario.sends) m stands in
    record {
      few = few;
      within = within;
      numbered = run_numbered scenario.params.nodes s (orderly scenario journal);
      heard = ap (λ by. same_class (data_class by) class.Rha) tot ∙ not_vector;
      rules = λ inc. tot_is_diffused (scenario_for scenario inc) m is tot;
      diffuses = run_diffuses scenario scenario.params.omit (data_id m) (tot_duty m) (λ inc. tot_is_diffused (scenario_for scenario inc) m is tot)
          (λ inc past begun. begun) journal;
      gone = settled_waits scenario s m settled;
      read = settled_read scenario s m settled;
    }

-- an origin that takes part since the first slot that carried it, has accepted it: it has read its
-- own transmission
origin_accepts : (scenario : ScenarioParts) (m : Message) (s : RunState) → Ground scenario s → m.service ≡ Tot → AtRest scenario m s → (first : ℕ)
    → first_carried (data_id m) s.trace ≡ Some first → IsCorrectFrom scenario s first m.origin → Among (CarriesClean (data_id m)) s.trace
    → is_accepted_by_some scenario s (message_key m) ≡ true
unfolding is_accepted has_own
origin_accepts scenario m s k tot rest first is correct clean =
    let i : ℕ = m.origin in
    let x : Identity = tot_of_key (message_key m) in
    let same : data_id m ≡ x = tot_id m tot in
    let read = carried_read scenario (data_id m) (tot_duty m) s rest first is i correct clean in
    let own : Among (λ e. is_sent (data_id m) e ≡ true) (history i s) = elim read [
      | inr sent ↦ sent.1
      | inl got ↦
          let some : list_any (is_got x) (read_by s i) ≡ true =
          ap (λ y. list_any (is_got y) (read_by s i)) (sym same) ∙ ap (list_any (is_got (data_id m))) (sym (history-is i s))
          ∙ any-from_Among (is_got (data_id m)) (history i s) got in
          let g = any_past (is_got x) i (node_at s.nodes i).unread (seen_by s i) some in
          absurd (k.tot.trace.no_own_got g.0 (message_key m) (gets_from (node_at s.nodes i).present s.trace i g.0 x g.2).1)
    ] in
    let sent : list_any (is_sent x) (read_by s i) ≡ true =
    ap (λ y. list_any (is_sent y) (read_by s i)) (sym same) ∙ ap (list_any (is_sent (data_id m))) (sym (history-is i s))
    ∙ any-from_Among (is_sent (data_id m)) (history i s) own in
    accepted_by_one scenario s k i correct.correct.running (message_key m)
    (or_right (is_heard scenario.params.bound (message_key m) (read_by s i)) (i == i && list_any (is_sent x) (read_by s i))
    (and_from (i == i) (list_any (is_sent x) (read_by s i)) (eq-eqb i i refl) sent))

-- a slot that carried it Clean has it in the order, where it is accepted
clean_orders : (scenario : ScenarioParts) (m : Message) (s : RunState) → IsSourced scenario s → Contains (messages_of scenario.sends) m
    → m.service ≡ Tot → is_accepted_by_some scenario s (message_key m) ≡ true → Among (CarriesClean (data_id m)) s.trace
    → Among (Orders (is_accepted_by_some scenario s) (content_of m)) s.trace
clean_orders scenario m s sources stands tot accepted clean =
    let w = Among-which (CarriesClean (data_id m)) s.trace clean in
    let c = w.2.carries in
    let same : c.what ≡ data_frame m =
    only_frame scenario s m sources (Among-from_Contains (messages_of scenario.sends) m stands) w.0 c.what w.1 c.frame c.identity in
    let ordered : IsOrdered (is_accepted_by_some scenario s) w.0 (data_frame m) = record {
      frame = c.frame ∙ ap (λ f. Some f) same;
      tot = ap (λ by. same_class (data_class by) class.Tot) tot ∙ same_class_self class.Tot;
      clean = ap is_clean w.2.clean;
      passes = accepted;
    } in
    Among-weaker (λ n. n ≡ w.0) (Orders (is_accepted_by_some scenario s) (content_of m))
    (λ n e. subst (Orders (is_accepted_by_some scenario s) (content_of m)) (sym e)
    (orders_from (is_accepted_by_some scenario s) w.0 (data_frame m) ordered)) s.trace (Among-from_Contains s.trace w.0 w.1)

orders_data : (m : Message) → m.service ≡ Tot → (test : MsgKey → Bool) (note : SlotNote) → Orders test (content_of m) note → Carries (data_id m) note
orders_data m tot test note h = subst (λ x. Carries x note) (sym (tot_id m tot)) (orders_carries test (content_of m) note h)

-- so it stands in the order of each node that takes part since the first slot that carried it
in_order : (scenario : ScenarioParts) (journal : List Step) (m : Message) → m.service ≡ Tot → (first : ℕ)
    → first_carried (data_id m) (run scenario journal).trace ≡ Some first → (from : ℕ) → from ≤ first
    → Among (Orders (is_accepted_by_some scenario (run scenario journal)) (content_of m)) (run scenario journal).trace
    → Contains (order scenario (run scenario journal) from) (content_of m)
in_order scenario journal m tot first is from early h =
    let s : RunState = run scenario journal in
    let test : MsgKey → Bool = is_accepted_by_some scenario s in
    let numbered = run_numbered scenario.params.nodes s (orderly scenario journal) in
    Contains-from_Among (order scenario s from) (content_of m)
    (order_has test from (content_of m) s.trace
    (Among-weaker (λ note. Orders test (content_of m) note × (Carries (data_id m) note → first ≤ note.slot))
    (λ note. Orders test (content_of m) note × (from ≤ note.slot))
    (λ note both. let late = both.1 (orders_data m tot test note both.0) in (both.0, omega (arith, late, early))) s.trace
    (Among-with (Orders test (content_of m)) (λ note. Carries (data_id m) note → first ≤ note.slot) s.trace
    (first_is_first (data_id m) s.trace numbered first is) h)))

-- what a correct node has delivered, a slot has in the order
delivered_orders : (scenario : ScenarioParts) (s : RunState) (i : ℕ) → FollowsOrder scenario s i → (m : Message) → m.service ≡ Tot
    → HasDelivered scenario s i m → Among (Orders (is_accepted_by_some scenario s) (content_of m)) s.trace
delivered_orders scenario s i follows m tot h =
    let test : MsgKey → Bool = is_accepted_by_some scenario s in
    let from : ℕ = (node_at s.nodes i).present.from in
    order_which test from (content_of m) s.trace
    (subst (Among (λ c. c ≡ content_of m)) (sym follows.prefix)
    (Among-append_left (λ c. c ≡ content_of m) (tot_deliveries (log scenario s i)) follows.rest
    (Among-from_Contains (tot_deliveries (log scenario s i)) (content_of m) (delivered_content scenario s i m tot h))))

-- ---- agreement

module _ (scenario : ScenarioParts) (journal : List Step) (few : scenario.params.nodes ≤ most_nodes)
    (within : IsWithin scenario.params (run scenario journal).trace) (kept : Ground scenario (run scenario journal)) (m : Message)
    (stands : Contains (messages_of scenario.sends) m) (tot : m.service ≡ Tot) where
  abbrev s : RunState
  s = run scenario journal

  carried_orders : (first : ℕ) → first_carried (data_id m) s.trace ≡ Some first → is_settled scenario s m ≡ true
      → IsCorrectFrom scenario s first m.origin → Among (Orders (is_accepted_by_some scenario s) (content_of m)) s.trace
  carried_orders first is settled correct =
      let sources = sourced scenario journal few in
      let rest = at_rest scenario journal few within m stands tot settled in
      let sent = origin_sent scenario m s sources (first_some (data_id m) s.trace first is) in
      let clean = sent_carried scenario (data_id m) (tot_duty m) s rest first is m.origin correct sent in
      clean_orders scenario m s sources stands tot (origin_accepts scenario m s kept tot rest first is correct clean) clean

  carries_none : first_carried (data_id m) s.trace ≡ None → Among (Carries (data_id m)) s.trace → ⊥
  carries_none never h = carried_has_first (data_id m) s.trace h never

  agrees_from : (o : Option ℕ) → first_carried (data_id m) s.trace ≡ o → IsAgreedFrom scenario s m o
  agrees_from (Some first) is = λ settled i correct because j correct_j.
      let orders : Among (Orders (is_accepted_by_some scenario s) (content_of m)) s.trace = elim because [
        | inl origin ↦ carried_orders first is settled (subst (IsCorrectFrom scenario s first) origin correct)
        | inr had ↦ delivered_orders scenario s i (follows scenario journal few kept i correct.correct) m tot had
      ] in
      (follows scenario journal few kept j correct_j.correct).settled m stands tot settled
      (in_order scenario journal m tot first is (node_at s.nodes j).present.from correct_j.took_part orders)
  agrees_from None never = (
    λ i correct had.
        carries_none never (Among-weaker (Orders (is_accepted_by_some scenario s) (content_of m)) (Carries (data_id m))
        (λ note h. orders_data m tot (is_accepted_by_some scenario s) note h) s.trace
        (delivered_orders scenario s i (follows scenario journal few kept i correct) m tot had)),
    λ settled correct.
        let rest = at_rest scenario journal few within m stands tot settled in
        let asked : origin_has_asked scenario s m ≡ true = elim (settled_asked_or_late scenario s m settled correct.correct.running) [
          | inl h ↦ h
          | inr late ↦ let from = correct.took_part in absurd (omega (arith, late, from))
        ] in
        carries_none never (Among-weaker (CarriesClean (data_id m)) (Carries (data_id m)) (λ note c. c.carries) s.trace
        (owed_carried scenario (data_id m) (tot_duty m) s rest m.origin correct.correct asked)),
  )

-- a message of TOTCAN is agreed on
pub totcan_agrees : (scenario : ScenarioParts) (journal : List Step) → scenario.params.nodes ≤ most_nodes
    → IsWithin scenario.params (run scenario journal).trace → TotKept scenario (run scenario journal) → AcceptedAt scenario (run scenario journal)
    → (m : Message) → Contains (messages_of scenario.sends) m → m.service ≡ Tot → IsAgreedOn scenario (run scenario journal) m
totcan_agrees scenario journal few within tot accepted m stands is =
    agrees_from scenario journal few within (ground_of scenario journal within tot accepted) m stands is
    (first_carried (data_id m) (run scenario journal).trace) refl
