-- What the backlog of a node holds, and what is asked for of it.
use Rattle.std.proofs.Common.{◌≡◌, ℕ, zero, suc, ◌+◌, ◌-◌, ◌<◌, ◌≤◌, ◌==◌, ◌&&◌, inl, inr, Bool, true, not, List, [], ◌∷◌, ◌++◌, filter, length, take, drop, Option, Some, None, refl, ap, sym, ◌∙◌, subst, arith, length-append, length-drop}
use Rattle.std.specs.List.{AllByRecursion, last_or, list_all}
use Rattle.std.specs.Option.{option_map_or}
use Rattle.std.proofs.Math.Bool.{and-true, and_assoc}
use Rattle.std.proofs.lemmas.Bool.{and_from, and_parts, cond_both, eqb-true, lt-ltb, or_right}
use Rattle.std.proofs.lemmas.List.{take-append-le}
use Rattle.cany_base.specs.declared.message.Service.TheVariants.{Tot}
use Rattle.cany_base.specs.declared.notice.NoticeKind.{NoticeKind}
use Rattle.cany_base.specs.Frame.{data_class}
use Rattle.cany_base.specs.Params.{Parameters}
use Rattle.cany_base.specs.Scenario.{ScenarioParts}
use Rattle.cany_model.specs.Bus.Frames.{same_class}
use Rattle.cany_model.specs.Bus.History.{has_own, is_sent}
use Rattle.cany_model.specs.Rules.Backlog.{ask_for, asked, backlog, backlog_effects, is_free, is_past_last, joins_in, next_after, next_of, one_more, tot_backlog}
use Rattle.cany_model.specs.Rules.Effect.{entered}
use Rattle.cany_model.specs.Rules.Messages.{Message, messages_of, data_id, is_service, message_key}
use Rattle.cany_model.specs.Rules.Sends.{sendable}
use Rattle.cany_model.specs.Rules.Totcan.{is_recent}
use Rattle.cany_model.proofs.Among.{Each-append, Each-drop, Each-weaker}
use Rattle.cany_model.proofs.Rules.IdleBeforeTakingPart.{IsBegun}
use Rattle.cany_model.proofs.Rules.Services.MessageKeys.{IsOneOf, is_service-true}
use Rattle.cany_model.proofs.Rules.Services.NoDelivery.{undelivering_is_lawful}
use Rattle.cany_model.proofs.Rules.ProtocolFacts.{IsFounded, IsLawful, originates}
use Rattle.cany_model.proofs.Rules.Services.SendFacts.{sendable_one}

-- ---- what has joined it

-- a TOTCAN message of node i whose slot is below this one, and is one whose scripted asks are made
pub record HasJoined (scenario : ScenarioParts) (i slot : ℕ) (m : Message) : Type 0 where
  pub stands : IsOneOf (messages_of scenario.sends) m
  pub tot : m.service ≡ Tot
  pub origin : m.origin ≡ i
  pub read : m.slot < slot
  pub late : scenario.from ≤ m.slot

joined_now : (scenario : ScenarioParts) (i slot : ℕ) (messages : List Message)
    → ((m : Message) → IsOneOf messages m → IsOneOf (messages_of scenario.sends) m × (scenario.from ≤ slot))
    → AllByRecursion (HasJoined scenario i (suc slot)) (filter (joins_in i slot) messages)
joined_now scenario i slot [] are = tt
joined_now scenario i slot (m ∷ messages) are =
    let rest = joined_now scenario i slot messages (λ k h. are k (inr h)) in
    cond_both (joins_in i slot m) (m ∷ filter (joins_in i slot) messages) (filter (joins_in i slot) messages) (AllByRecursion (HasJoined scenario i (suc slot)))
    (λ joins. (joined_one joins (are m (inl refl)), rest)) (λ _. rest)
  where
    joined_one : joins_in i slot m ≡ true → IsOneOf (messages_of scenario.sends) m × (scenario.from ≤ slot) → HasJoined scenario i (suc slot) m
    joined_one joins one =
        let outer = and_parts (is_service m.service Tot && m.origin == i) (m.slot == slot) joins in
        let inner = and_parts (is_service m.service Tot) (m.origin == i) outer.0 in
        let at = eqb-true m.slot slot outer.1 in
        record {
          stands = one.0;
          tot = is_service-true m.service Tot inner.0;
          origin = eqb-true m.origin i inner.1;
          read = omega (arith, at);
          late = omega (arith, at, one.1);
        }

joined_later : (scenario : ScenarioParts) (i slot : ℕ) (m : Message) → HasJoined scenario i slot m → HasJoined scenario i (suc slot) m
joined_later scenario i slot m h =
    record { stands = h.stands; tot = h.tot; origin = h.origin; read = omega (arith, h.read); late = h.late }

pub backlog_joined : (scenario : ScenarioParts) (i : ℕ) (past : List NoticeKind) → AllByRecursion (HasJoined scenario i (length past)) (backlog scenario i past)
unfolding backlog
backlog_joined scenario i [] = tt
backlog_joined scenario i (e ∷ past) =
    Each-append (HasJoined scenario i (length (e ∷ past))) (backlog scenario i past) (filter (joins_in i (length past)) (sendable scenario (length past)))
    (Each-weaker (HasJoined scenario i (length past)) (HasJoined scenario i (length (e ∷ past))) (λ m h. joined_later scenario i (length past) m h)
    (backlog scenario i past) (backlog_joined scenario i past))
    (joined_now scenario i (length past) (sendable scenario (length past)) (sendable_one scenario (length past)))

-- none joins before the first slot whose scripted asks are made
none_joined : (scenario : ScenarioParts) (i : ℕ) (past : List NoticeKind) → length past ≤ scenario.from → backlog scenario i past ≡ []
unfolding backlog
none_joined scenario i [] early = refl
none_joined scenario i (e ∷ past) early =
    rw (none_joined scenario i past (omega (arith, early)), lt-ltb (length past) scenario.from (omega (arith, early))) refl

-- ---- what is asked for

-- the message that is asked for next is the first after those that were asked for
pub next_is : (p : Parameters) (past : List NoticeKind) (earlier later : List Message) (m : Message) → next_of p past earlier later ≡ Some m
    → (rest : List Message) × (later ≡ m ∷ rest)
next_is p past earlier [] m h = absurd (cc)
next_is p past earlier (k ∷ rest) m h =
    cond_both (is_free p earlier past) (Some k) None (λ o. o ≡ Some m → (more : List Message) × ((k ∷ rest) ≡ m ∷ more))
    (λ _ is. (rest, cc)) (λ _ none. absurd (cc)) h

next_one : (p : Parameters) (past : List NoticeKind) (messages : List Message) (n : ℕ) (m : Message) → next_after p past messages n ≡ Some m
    → (P : Message → Type 0) → AllByRecursion P messages → P m
next_one p past messages n m h P all =
    let w = next_is p past (take n messages) (drop n messages) m h in
    (subst (AllByRecursion P) w.1 (Each-drop P n messages all)).0

-- so it is one of the backlog
pub next_joined : (scenario : ScenarioParts) (i : ℕ) (e : NoticeKind) (past : List NoticeKind) (m : Message)
    → next_after scenario.params (e ∷ past) (backlog scenario i (e ∷ past)) (asked scenario i past) ≡ Some m → HasJoined scenario i (length (e ∷ past)) m
next_joined scenario i e past m is =
    next_one scenario.params (e ∷ past) (backlog scenario i (e ∷ past)) (asked scenario i past) m is (HasJoined scenario i (length (e ∷ past)))
    (backlog_joined scenario i (e ∷ past))

-- ---- each effect is founded

ask_founded : (scenario : ScenarioParts) (i : ℕ) (past : List NoticeKind) (o : Option Message)
    → ((m : Message) → o ≡ Some m → HasJoined scenario i (length past) m) → AllByRecursion (IsFounded scenario tot_backlog i past) (ask_for o)
unfolding same_class
ask_founded scenario i past None is = tt
ask_founded scenario i past (Some m) is =
    let h = is m refl in
    ((originates m h.stands h.origin h.read h.late refl, ap (λ by. tot_backlog.names (data_class by)) h.tot), tt)

pub asks_enter_none : (o : Option Message) → entered (ask_for o) ≡ []
unfolding entered
asks_enter_none None = refl
asks_enter_none (Some m) = refl

turn_founded : (scenario : ScenarioParts) (i : ℕ) (past : List NoticeKind) → AllByRecursion (IsFounded scenario tot_backlog i past) (backlog_effects scenario i past)
unfolding backlog_effects
turn_founded scenario i [] = tt
turn_founded scenario i (e ∷ past) =
    ask_founded scenario i (e ∷ past) (next_after scenario.params (e ∷ past) (backlog scenario i (e ∷ past)) (asked scenario i past))
    (λ m is. next_joined scenario i e past m is)

backlog_muted : (scenario : ScenarioParts) (i : ℕ) (e : NoticeKind) (past : List NoticeKind) → IsBegun scenario (e ∷ past) → backlog_effects scenario i (e ∷ past) ≡ []
unfolding backlog_effects
backlog_muted scenario i e past begun = rw (none_joined scenario i (e ∷ past) begun.early) (drop_none (asked scenario i past))
  where
    drop_none : (n : ℕ) → ask_for (next_after scenario.params (e ∷ past) [] n) ≡ []
    drop_none zero = refl
    drop_none (suc n) = refl

pub backlog_is_lawful : IsLawful tot_backlog
unfolding backlog_effects
backlog_is_lawful = undelivering_is_lawful tot_backlog (λ by. refl) (λ scenario m i past. refl) (λ scenario i. refl) backlog_muted turn_founded

-- ---- how many were asked for

drop_some : (n : ℕ) (messages : List Message) (m : Message) (rest : List Message) → drop n messages ≡ m ∷ rest → n < length messages
drop_some n messages m rest e = let long : length (drop n messages) ≡ length (m ∷ rest) = ap length e in omega (arith, long, length-drop n messages)

-- not more than have joined
pub asked-few : (scenario : ScenarioParts) (i : ℕ) (past : List NoticeKind) → asked scenario i past ≤ length (backlog scenario i past)
unfolding asked backlog
asked-few scenario i [] = omega arith
asked-few scenario i (e ∷ past) =
    let joined = filter (joins_in i (length past)) (sendable scenario (length past)) in
    few (next_after scenario.params (e ∷ past) (backlog scenario i past ++ joined) (asked scenario i past))
    (λ m is.
    let w = next_is scenario.params (e ∷ past) (take (asked scenario i past) (backlog scenario i past ++ joined))
    (drop (asked scenario i past) (backlog scenario i past ++ joined)) m is in
    drop_some (asked scenario i past) (backlog scenario i past ++ joined) m w.0 w.1)
    (omega (arith, asked-few scenario i past, length-append (backlog scenario i past) joined))
  where
    few : (o : Option Message) → ((m : Message) → o ≡ Some m → asked scenario i past < length (backlog scenario i (e ∷ past)))
        → asked scenario i past ≤ length (backlog scenario i (e ∷ past)) → one_more (asked scenario i past) o ≤ length (backlog scenario i (e ∷ past))
    few None next less = less
    few (Some m) next less = omega (arith, next m refl)

-- ---- which of them were read

module _ (scenario : ScenarioParts) (i : ℕ) where
  abbrev is_read : List NoticeKind → Message → Bool
  is_read past m = has_own (data_id m) past

  read_later : (e : NoticeKind) (past : List NoticeKind) (messages : List Message) → list_all (is_read past) messages ≡ true
      → list_all (is_read (e ∷ past)) messages ≡ true
  unfolding has_own
  read_later e past [] h = refl
  read_later e past (m ∷ messages) h =
      let parts = and_parts (is_read past m) (list_all (is_read past) messages) h in
      and_from (is_read (e ∷ past) m) (list_all (is_read (e ∷ past)) messages) (or_right (is_sent (data_id m) e) (is_read past m) parts.0)
      (read_later e past messages parts.1)

  -- the node has read its own transmission of each that was asked for before the last
  abbrev pub AreRead : List NoticeKind → Type 0
  AreRead past = list_all (λ m. has_own (data_id m) past) (take (asked scenario i past - 1) (backlog scenario i past)) ≡ true

  free_read : (past : List NoticeKind) (earlier later : List Message) (m : Message) → next_of scenario.params past earlier later ≡ Some m
      → list_all (is_read past) earlier ≡ true
  free_read past earlier [] m h = absurd (cc)
  free_read past earlier (k ∷ rest) m h =
      cond_both (is_free scenario.params earlier past) (Some k) None (λ o. o ≡ Some m → list_all (is_read past) earlier ≡ true)
      (λ free _. (and_parts (list_all (is_read past) earlier) (is_past_last (scenario.params.bound + scenario.params.lag) earlier past) free).0)
      (λ _ none. absurd (cc)) h

  -- in a turn in which so many of these were asked for before, and these others join
  read_after : (e : NoticeKind) (past : List NoticeKind) (n : ℕ) (before joined : List Message) → n ≤ length before
      → list_all (is_read past) (take (n - 1) before) ≡ true
      → (o : Option Message) → next_after scenario.params (e ∷ past) (before ++ joined) n ≡ o
      → list_all (is_read (e ∷ past)) (take (one_more n o - 1) (before ++ joined)) ≡ true
  read_after e past n before joined few read None is =
      ap (list_all (is_read (e ∷ past))) (take-append-le (n - 1) before joined (omega (arith, few))) ∙ read_later e past (take (n - 1) before) read
  read_after e past n before joined few read (Some m) is =
      let same : n + 1 - 1 ≡ n = omega arith in
      ap (λ k. list_all (is_read (e ∷ past)) (take k (before ++ joined))) same
      ∙ free_read (e ∷ past) (take n (before ++ joined)) (drop n (before ++ joined)) m is

  pub asked-read : (past : List NoticeKind) → AreRead past
  unfolding asked backlog
  asked-read [] = refl
  asked-read (e ∷ past) =
      let joined : List Message = filter (joins_in i (length past)) (sendable scenario (length past)) in
      read_after e past (asked scenario i past) (backlog scenario i past) joined (asked-few scenario i past) (asked-read past)
      (next_after scenario.params (e ∷ past) (backlog scenario i past ++ joined) (asked scenario i past)) refl

-- ---- when the next one may be sent

all_more : (q : Message → Bool) (messages : List Message) (m : Message) → list_all q (messages ++ m ∷ []) ≡ (list_all q messages && q m)
all_more q [] m = and-true (q m)
all_more q (k ∷ messages) m = ap (λ b. q k && b) (all_more q messages m) ∙ sym (and_assoc (q k) (list_all q messages) (q m))

last_is : (o : Option Message) (earlier : List Message) (m : Message) → last_or o (earlier ++ m ∷ []) ≡ Some m
last_is o [] m = refl
last_is o (k ∷ earlier) m = last_is (Some k) earlier m

-- it is seen at the last one, where the node has read its own transmission of each before
pub free-after : (p : Parameters) (past : List NoticeKind) (earlier : List Message) (last : Message)
    → list_all (λ m. has_own (data_id m) past) earlier ≡ true
    → is_free p (earlier ++ last ∷ []) past
    ≡ (has_own (data_id last) past && not (is_recent (p.bound + p.lag) (message_key last) past))
free-after p past earlier last read =
    ap (λ b. b && is_past_last (p.bound + p.lag) (earlier ++ last ∷ []) past)
    (all_more (λ m. has_own (data_id m) past) earlier last ∙ ap (λ b. b && has_own (data_id last) past) read)
    ∙ ap (λ o. has_own (data_id last) past && option_map_or (λ m. not (is_recent (p.bound + p.lag) (message_key m) past)) o true) (last_is None earlier last)
