-- The backlog of a node by places: each message has one place, and when one is asked for, those
-- before it were sent long before.
use Rattle.std.specs.Prelude.{slice_index_or}
use Rattle.std.proofs.Common.{◌≡◌, ℕ, zero, suc, ◌+◌, ◌<◌, ◌≤◌, ◌==◌, ◌&&◌, inl, inr, Bool, true, false, not, List, [], ◌∷◌, ◌++◌, filter, length, map, take, drop, Option, Some, None, refl, ap, sym, ◌∙◌, subst, arith, count_by, drop-drop, length-append, nat_lt}
use Rattle.std.specs.List.{AllByRecursion, last_or, list_all, list_any}
use Rattle.std.specs.Option.{option_map_or}
use Rattle.std.proofs.Math.ListN.{get_or-append}
use Rattle.std.proofs.lemmas.Bool.{and_parts, cases_eq, cond_both, eq-eqb, eqb-true, false≢true, not-true, or_cases, or_left, or_parts, or_right}
use Rattle.std.proofs.lemmas.List.{drop-map}
use Rattle.std.proofs.lemmas.List.Elements.{All-from_recursion, All-get_or}
use Rattle.cany_base.specs.declared.message.MsgKey.{MsgKey}
use Rattle.cany_base.specs.declared.message.SendAsk.{SendAsk}
use Rattle.cany_base.specs.declared.message.Service.TheVariants.{Tot}
use Rattle.cany_base.specs.declared.notice.NoticeKind.{NoticeKind}
use Rattle.cany_base.specs.declared.slot_note.SlotNote.{SlotNote}
use Rattle.cany_base.specs.Frame.{data_class}
use Rattle.cany_base.specs.Params.{Parameters}
use Rattle.cany_base.specs.Scenario.{ScenarioParts}
use Rattle.cany_model.specs.Bus.Frames.{Identity}
use Rattle.cany_model.specs.Bus.History.{given, has_own, is_got, is_sent}
use Rattle.cany_model.specs.Rules.Backlog.{asked, backlog, is_free, is_past_last, joins_in, next_after, next_of, one_more}
use Rattle.cany_model.specs.Rules.Messages.{Message, data_id, is_from, is_service, message_key, message_of, messages_after, messages_of}
use Rattle.cany_model.specs.Rules.Sends.{sendable}
use Rattle.cany_model.specs.Rules.Totcan.{holds, is_recent, tot_of_key}
use Rattle.cany_model.proofs.Among.{Each-append, Each-filter, Each-weaker, count-grows, count-yes}
use Rattle.cany_model.proofs.Rules.Services.BacklogFacts.{HasJoined, asked-few, backlog_joined, next_is}
use Rattle.cany_model.proofs.Rules.Services.MessageKeys.{IsOneOf, same_message}
use Rattle.cany_model.proofs.Rules.Services.SendFacts.{sendable_one}
use Rattle.cany_model.proofs.Timed.Common.Ages.{Sends, any_past, past}
use Rattle.cany_model.proofs.Timed.Order.TotKept.{IsPlanned, no_message}

abbrev pub at_place : List Message → ℕ → Message
at_place messages place = slice_index_or messages place no_message

-- ---- one place

abbrev Differs : Message → Message → Type 0
Differs m k = data_id m ≡ data_id k → ⊥

abbrev Distinct : List Message → Type 0
Distinct [] = Unit {0}
Distinct (m ∷ messages) = AllByRecursion (Differs m) messages × Distinct messages

-- the numbers of later messages of a node count the earlier ones
later_numbers : (earlier sends : List SendAsk) → AllByRecursion (λ m. count_by (is_from m.origin) earlier ≤ m.seq) (messages_after earlier sends)
unfolding messages_after
later_numbers earlier [] = tt
later_numbers earlier (send ∷ sends) = (
  omega arith,
  Each-weaker (λ m. count_by (is_from m.origin) (send ∷ earlier) ≤ m.seq) (λ m. count_by (is_from m.origin) earlier ≤ m.seq)
      (λ m h. omega (arith, h, count-grows (is_from m.origin) send earlier)) (messages_after (send ∷ earlier) sends)
      (later_numbers (send ∷ earlier) sends),
)

messages_distinct : (earlier sends : List SendAsk) → Distinct (messages_after earlier sends)
unfolding messages_after
messages_distinct earlier [] = tt
messages_distinct earlier (send ∷ sends) = (
  Each-weaker (λ m. count_by (is_from m.origin) (send ∷ earlier) ≤ m.seq) (Differs (message_of earlier send)) differs
      (messages_after (send ∷ earlier) sends) (later_numbers (send ∷ earlier) sends),
  messages_distinct (send ∷ earlier) sends,
)
  where
    differs : (m : Message) → count_by (is_from m.origin) (send ∷ earlier) ≤ m.seq → Differs (message_of earlier send) m
    differs m more same =
        let node : send.node ≡ m.origin = ap (λ (x : Identity). x.node) same in
        let number : count_by (is_from send.node) earlier ≡ m.seq = ap (λ (x : Identity). x.number) same in
        let counts : count_by (is_from send.node) earlier ≡ count_by (is_from m.origin) earlier = ap (λ n. count_by (is_from n) earlier) node in
        omega (arith, more, number, counts, count-yes (is_from m.origin) send earlier (eq-eqb send.node m.origin node))

filter_distinct : (test : Message → Bool) (messages : List Message) → Distinct messages → Distinct (filter test messages)
filter_distinct test [] h = tt
filter_distinct test (m ∷ messages) h =
    cond_both (test m) (m ∷ filter test messages) (filter test messages) Distinct
    (λ _. (Each-filter (Differs m) test messages h.0, filter_distinct test messages h.1)) (λ _. filter_distinct test messages h.1)

both_distinct : (first rest : List Message) → Distinct first → Distinct rest → AllByRecursion (λ m. AllByRecursion (Differs m) rest) first
    → Distinct (first ++ rest)
both_distinct [] rest a b apart = b
both_distinct (m ∷ first) rest a b apart =
    (Each-append (Differs m) first rest a.0 apart.0, both_distinct first rest a.1 b apart.1)

sendable_distinct : (scenario : ScenarioParts) (slot : ℕ) → Distinct (sendable scenario slot)
sendable_distinct scenario slot =
    cond_both (nat_lt slot scenario.from) [] (messages_of scenario.sends) Distinct (λ _. tt) (λ _. messages_distinct [] scenario.sends)

-- what joins in a slot is of that slot
joined_of : (scenario : ScenarioParts) (i slot : ℕ) (messages : List Message) → AllByRecursion (IsOneOf (messages_of scenario.sends)) messages
    → AllByRecursion (λ m. IsOneOf (messages_of scenario.sends) m × (m.slot ≡ slot)) (filter (joins_in i slot) messages)
joined_of scenario i slot [] are = tt
joined_of scenario i slot (m ∷ messages) are =
    let rest = joined_of scenario i slot messages are.1 in
    cond_both (joins_in i slot m) (m ∷ filter (joins_in i slot) messages) (filter (joins_in i slot) messages)
    (AllByRecursion (λ k. IsOneOf (messages_of scenario.sends) k × (k.slot ≡ slot)))
    (λ joins. ((are.0, eqb-true m.slot slot (and_parts (is_service m.service Tot && m.origin == i) (m.slot == slot) joins).1), rest)) (λ _. rest)

each_one : (P : Message → Type 0) (messages : List Message) → ((m : Message) → IsOneOf messages m → P m) → AllByRecursion P messages
each_one P [] h = tt
each_one P (m ∷ messages) h = (h m (inl refl), each_one P messages (λ k one. h k (inr one)))

backlog_distinct : (scenario : ScenarioParts) (i : ℕ) (past : List NoticeKind) → Distinct (backlog scenario i past)
unfolding backlog
backlog_distinct scenario i [] = tt
backlog_distinct scenario i (e ∷ past) =
    let joined = filter (joins_in i (length past)) (sendable scenario (length past)) in
    both_distinct (backlog scenario i past) joined (backlog_distinct scenario i past)
    (filter_distinct (joins_in i (length past)) (sendable scenario (length past)) (sendable_distinct scenario (length past)))
    (Each-weaker (HasJoined scenario i (length past)) (λ m. AllByRecursion (Differs m) joined)
    (λ m before. Each-weaker (λ k. IsOneOf (messages_of scenario.sends) k × (k.slot ≡ length past)) (Differs m)
    (λ k now. apart m k before now.0 now.1) joined
    (joined_of scenario i (length past) (sendable scenario (length past))
    (each_one (IsOneOf (messages_of scenario.sends)) (sendable scenario (length past)) (λ k one. (sendable_one scenario (length past) k one).0))))
    (backlog scenario i past) (backlog_joined scenario i past))
  where
    apart : (m k : Message) → HasJoined scenario i (length past) m → IsOneOf (messages_of scenario.sends) k → k.slot ≡ length past → Differs m k
    apart m k before one now same =
        let equal : m ≡ k =
        same_message scenario.sends m k before.stands one (ap (λ (x : Identity). x.node) same) (ap (λ (x : Identity). x.number) same) in
        let at : m.slot ≡ k.slot = ap (λ (n : Message). n.slot) equal in
        omega (arith, before.read, now, at)

each_at : (P : Message → Type 0) (messages : List Message) (place : ℕ) → place < length messages → AllByRecursion P messages
    → P (at_place messages place)
each_at P messages place below all = All-get_or P messages place no_message below (All-from_recursion P messages all)

distinct_at : (messages : List Message) → Distinct messages → (j k : ℕ) → j < k → k < length messages
    → Differs (at_place messages j) (at_place messages k)
distinct_at [] h j k less below same = omega (arith, below)
distinct_at (m ∷ messages) h j zero less below same = omega (arith, less)
distinct_at (m ∷ messages) h zero (suc k) less below same = each_at (Differs m) messages k (omega (arith, below)) h.0 same
distinct_at (m ∷ messages) h (suc j) (suc k) less below same = distinct_at messages h.1 j k (omega (arith, less)) (omega (arith, below)) same

-- a message of the backlog has one place there
pub one_place : (scenario : ScenarioParts) (i : ℕ) (past : List NoticeKind) (j k : ℕ) → j < k → k < length (backlog scenario i past)
    → data_id (at_place (backlog scenario i past) j) ≡ data_id (at_place (backlog scenario i past) k) → ⊥
one_place scenario i past j k less below same =
    distinct_at (backlog scenario i past) (backlog_distinct scenario i past) j k less below same

-- ---- the backlog grows at its end

pub backlog_longer : (scenario : ScenarioParts) (i : ℕ) (e : NoticeKind) (before : List NoticeKind)
    → length (backlog scenario i before) ≤ length (backlog scenario i (e ∷ before))
unfolding backlog
backlog_longer scenario i e before =
    omega (arith, length-append (backlog scenario i before) (filter (joins_in i (length before)) (sendable scenario (length before))))

pub backlog_same : (scenario : ScenarioParts) (i : ℕ) (e : NoticeKind) (before : List NoticeKind) (place : ℕ)
    → place < length (backlog scenario i before)
    → at_place (backlog scenario i (e ∷ before)) place ≡ at_place (backlog scenario i before) place
unfolding backlog
backlog_same scenario i e before place below =
    get_or-append (backlog scenario i before) (filter (joins_in i (length before)) (sendable scenario (length before))) no_message place below

-- ---- what was read long ago

pub any_dropped : {X : Type 0} (test : X → Bool) (n : ℕ) (xs : List X) → list_any test (drop (suc n) xs) ≡ true → list_any test (drop n xs) ≡ true
any_dropped test n [] h = absurd (false≢true h)
any_dropped test zero (x ∷ xs) h = or_right (test x) (list_any test xs) h
any_dropped test (suc n) (x ∷ xs) h = any_dropped test n xs h

any_drop_more : {X : Type 0} (test : X → Bool) (n : ℕ) (x : X) (xs : List X) → list_any test (drop n xs) ≡ true
    → list_any test (drop n (x ∷ xs)) ≡ true
any_drop_more test zero x xs h = or_right (test x) (list_any test xs) h
any_drop_more test (suc n) x xs h = any_dropped test n xs h

any_older : {X : Type 0} (test wider : X → Bool) (n : ℕ) (xs : List X) → ((x : X) → test x ≡ true → wider x ≡ true)
    → list_any wider (take n xs) ≡ false → list_any test xs ≡ true → list_any test (drop n xs) ≡ true
any_older test wider zero xs gives none h = h
any_older test wider (suc n) [] gives none h = h
any_older test wider (suc n) (x ∷ xs) gives none h = elim (or_cases (test x) (list_any test xs) h) [
  | inl now ↦ absurd (false≢true (sym none ∙ or_left (wider x) (list_any wider (take n xs)) (gives x now)))
  | inr before ↦ any_older test wider n xs gives (or_parts (wider x) (list_any wider (take n xs)) none).1 before
]

-- the node has read its own transmission of the frame, so many slots ago or more
abbrev pub IsLongSent : ℕ → List NoticeKind → Identity → Type 0
IsLongSent slots past x = has_own x (drop slots past) ≡ true

long_more : (slots : ℕ) (e : NoticeKind) (past : List NoticeKind) (x : Identity) → IsLongSent slots past x → IsLongSent slots (e ∷ past) x
unfolding has_own
long_more slots e past x h = any_drop_more (is_sent x) slots e past h

-- the frame of a TOTCAN message is that of its key
pub tot_id : (m : Message) → m.service ≡ Tot → data_id m ≡ tot_of_key (message_key m)
tot_id m tot = λ k. record { class = ap data_class tot k; number = m.seq; node = m.origin }

long_own : (slots : ℕ) (past : List NoticeKind) (m : Message) → m.service ≡ Tot → has_own (data_id m) past ≡ true
    → is_recent slots (message_key m) past ≡ false → IsLongSent slots past (data_id m)
unfolding has_own is_recent
long_own slots past m tot own old =
    any_older (is_sent (data_id m)) (holds (message_key m)) slots past
    (λ e sent. or_right (is_got (tot_of_key (message_key m)) e) (is_sent (tot_of_key (message_key m)) e)
    (ap (λ x. is_sent x e) (sym (tot_id m tot)) ∙ sent))
    old own

pub past_dropped : (i : ℕ) (T : List SlotNote) (u slots : ℕ) → drop slots (past i T u) ≡ past i T (u + slots)
past_dropped i T u slots = drop-map (given i) slots (drop u T) ∙ ap (map (given i)) (drop-drop slots u T)

pub long_sent : (i : ℕ) (T : List SlotNote) (u slots : ℕ) (x : Identity) → IsLongSent slots (past i T u) x
    → (q : ℕ) × (u + slots ≤ q) × Sends i T q x
unfolding has_own
long_sent i T u slots x h = any_past (is_sent x) i (u + slots) T (ap (list_any (is_sent x)) (sym (past_dropped i T u slots)) ∙ h)

-- ---- the next one

all_take : (test : Message → Bool) (messages : List Message) (n j : ℕ) → list_all test (take n messages) ≡ true → j < n → j < length messages
    → test (at_place messages j) ≡ true
all_take test [] n j h below there = absurd (omega (arith, there))
all_take test (m ∷ messages) zero j h below there = absurd (omega (arith, below))
all_take test (m ∷ messages) (suc n) zero h below there = (and_parts (test m) (list_all test (take n messages)) h).0
all_take test (m ∷ messages) (suc n) (suc j) h below there =
    all_take test messages n j (and_parts (test m) (list_all test (take n messages)) h).1 (omega (arith, below)) (omega (arith, there))

last_take : (o : Option Message) (messages : List Message) (j : ℕ) → j < length messages
    → last_or o (take (suc j) messages) ≡ Some (at_place messages j)
last_take o [] j below = absurd (omega (arith, below))
last_take o (m ∷ messages) zero below = refl
last_take o (m ∷ messages) (suc j) below = last_take (Some m) messages j (omega (arith, below))

dropped : (messages : List Message) (n : ℕ) (k : Message) (rest : List Message) → drop n messages ≡ k ∷ rest
    → (n < length messages) × (at_place messages n ≡ k)
dropped [] zero k rest h = absurd (cc)
dropped [] (suc n) k rest h = absurd (cc)
dropped (m ∷ messages) zero k rest h = (omega arith, cc)
dropped (m ∷ messages) (suc n) k rest h = let r = dropped messages n k rest h in (omega (arith, r.0), r.1)

next_free : (p : Parameters) (past : List NoticeKind) (earlier later : List Message) (k : Message) → next_of p past earlier later ≡ Some k
    → is_free p earlier past ≡ true
next_free p past earlier [] k h = absurd (cc)
next_free p past earlier (m ∷ later) k h =
    cond_both (is_free p earlier past) (Some m) None (λ o. o ≡ Some k → is_free p earlier past ≡ true) (λ free _. free) (λ _ none. absurd (cc)) h

-- the message at this place is asked for next, where those before the last of the earlier ones were
-- sent long ago
record IsFreeNext (p : Parameters) (past : List NoticeKind) (messages : List Message) (n : ℕ) (k : Message) : Type 0 where
  there : n < length messages
  is : at_place messages n ≡ k
  own : (j : ℕ) → j < n → has_own (data_id (at_place messages j)) past ≡ true
  old : (j : ℕ) → suc j ≡ n → is_recent (p.bound + p.lag) (message_key (at_place messages j)) past ≡ false

free_next : (p : Parameters) (past : List NoticeKind) (messages : List Message) (n : ℕ) (k : Message) → next_after p past messages n ≡ Some k
    → IsFreeNext p past messages n k
free_next p past messages n k h =
    let w = next_is p past (take n messages) (drop n messages) k h in
    let d = dropped messages n k w.0 w.1 in
    let free = and_parts (list_all (λ m. has_own (data_id m) past) (take n messages)) (is_past_last (p.bound + p.lag) (take n messages) past)
    (next_free p past (take n messages) (drop n messages) k h) in
    record {
      there = d.0;
      is = d.1;
      own = λ j below. all_take (λ m. has_own (data_id m) past) messages n j free.0 below (omega (arith, below, d.0));
      old = λ j at.
          not-true (is_recent (p.bound + p.lag) (message_key (at_place messages j)) past)
          (ap (λ o. option_map_or (λ m. not (is_recent (p.bound + p.lag) (message_key m) past)) o true)
          (sym (ap (λ c. last_or None (take c messages)) (sym at) ∙ last_take None messages j (omega (arith, at, d.0)))) ∙ free.1);
    }

-- each that was asked for before the last one, was sent long before
abbrev AreLong : ScenarioParts → ℕ → List NoticeKind → Type 0
AreLong scenario i past =
    (j : ℕ) → suc j < asked scenario i past
    → IsLongSent (scenario.params.bound + scenario.params.lag) past (data_id (at_place (backlog scenario i past) j))

abbrev pub next_in : ScenarioParts → ℕ → NoticeKind → List NoticeKind → Option Message
next_in scenario i e before = next_after scenario.params (e ∷ before) (backlog scenario i (e ∷ before)) (asked scenario i before)

long_before : (scenario : ScenarioParts) (i : ℕ) (e : NoticeKind) (before : List NoticeKind) → AreLong scenario i before
    → (j : ℕ) → suc j < asked scenario i before
    → IsLongSent (scenario.params.bound + scenario.params.lag) (e ∷ before) (data_id (at_place (backlog scenario i (e ∷ before)) j))
long_before scenario i e before are j below =
    subst (λ m. IsLongSent (scenario.params.bound + scenario.params.lag) (e ∷ before) (data_id m))
    (sym (backlog_same scenario i e before j (omega (arith, below, asked-few scenario i before))))
    (long_more (scenario.params.bound + scenario.params.lag) e before (data_id (at_place (backlog scenario i before) j)) (are j below))

long_now : (scenario : ScenarioParts) (i : ℕ) (e : NoticeKind) (before : List NoticeKind) → AreLong scenario i before
    → (k : Message) → next_in scenario i e before ≡ Some k → (j : ℕ) → j < asked scenario i before
    → IsLongSent (scenario.params.bound + scenario.params.lag) (e ∷ before) (data_id (at_place (backlog scenario i (e ∷ before)) j))
long_now scenario i e before are k h j below = elim (cases_eq (suc j) (asked scenario i before)) [
  | inr other ↦ long_before scenario i e before are j (omega (arith, below, other))
  | inl last ↦
      let x = free_next scenario.params (e ∷ before) (backlog scenario i (e ∷ before)) (asked scenario i before) k h in
      let joined = each_at (HasJoined scenario i (length (e ∷ before))) (backlog scenario i (e ∷ before)) j (omega (arith, below, x.there))
      (backlog_joined scenario i (e ∷ before)) in
      long_own (scenario.params.bound + scenario.params.lag) (e ∷ before) (at_place (backlog scenario i (e ∷ before)) j) joined.tot
      (x.own j below) (x.old j last)
]

are_long : (scenario : ScenarioParts) (i : ℕ) (past : List NoticeKind) → AreLong scenario i past
unfolding asked
are_long scenario i [] j below = absurd (omega (arith, below))
are_long scenario i (e ∷ before) j below = by_next (are_long scenario i before) (next_in scenario i e before) refl
  where
    by_next : AreLong scenario i before → (o : Option Message) → next_in scenario i e before ≡ o
        → IsLongSent (scenario.params.bound + scenario.params.lag) (e ∷ before) (data_id (at_place (backlog scenario i (e ∷ before)) j))
    by_next are None is =
        let same : asked scenario i (e ∷ before) ≡ asked scenario i before = ap (one_more (asked scenario i before)) is in
        long_before scenario i e before are j (omega (arith, below, same))
    by_next are (Some k) is =
        let more : asked scenario i (e ∷ before) ≡ asked scenario i before + 1 = ap (one_more (asked scenario i before)) is in
        long_now scenario i e before are k is j (omega (arith, below, more))

-- The message that is asked for in this turn: its place is the next one, and each before it was
-- sent at least bound + lag slots before.
pub record IsNext (scenario : ScenarioParts) (i : ℕ) (e : NoticeKind) (before : List NoticeKind) (k : Message) : Type 0 where
  pub there : asked scenario i before < length (backlog scenario i (e ∷ before))
  pub is : at_place (backlog scenario i (e ∷ before)) (asked scenario i before) ≡ k
  pub long : (j : ℕ) → j < asked scenario i before
      → IsLongSent (scenario.params.bound + scenario.params.lag) (e ∷ before) (data_id (at_place (backlog scenario i (e ∷ before)) j))
  pub more : asked scenario i (e ∷ before) ≡ asked scenario i before + 1

pub next_stands : (scenario : ScenarioParts) (i : ℕ) (e : NoticeKind) (before : List NoticeKind) (k : Message)
    → next_after scenario.params (e ∷ before) (backlog scenario i (e ∷ before)) (asked scenario i before) ≡ Some k → IsNext scenario i e before k
unfolding asked
next_stands scenario i e before k h =
    let x = free_next scenario.params (e ∷ before) (backlog scenario i (e ∷ before)) (asked scenario i before) k h in
    record {
      there = x.there;
      is = x.is;
      long = long_now scenario i e before (are_long scenario i before) k h;
      more = ap (one_more (asked scenario i before)) h;
    }

pub asked_grows : (scenario : ScenarioParts) (i : ℕ) (e : NoticeKind) (before : List NoticeKind)
    → asked scenario i before ≤ asked scenario i (e ∷ before)
unfolding asked
asked_grows scenario i e before = more (asked scenario i before) (next_in scenario i e before)
  where
    more : (n : ℕ) (o : Option Message) → n ≤ one_more n o
    more n None = omega arith
    more n (Some k) = omega arith

-- ---- what is planned

-- it stays so
pub planned_on : (scenario : ScenarioParts) (i : ℕ) (e : NoticeKind) (before : List NoticeKind) (m : MsgKey) → IsPlanned scenario i before m
    → IsPlanned scenario i (e ∷ before) m
planned_on scenario i e before m h = record {
  place = h.place;
  asked_for = omega (arith, h.asked_for, asked_grows scenario i e before);
  there = omega (arith, h.there, backlog_longer scenario i e before);
  is = ap data_id (backlog_same scenario i e before h.place h.there) ∙ h.is;
}

-- the message that is asked for is planned then
pub planned_next : (scenario : ScenarioParts) (i : ℕ) (e : NoticeKind) (before : List NoticeKind) (m : MsgKey) (k : Message)
    → next_after scenario.params (e ∷ before) (backlog scenario i (e ∷ before)) (asked scenario i before) ≡ Some k → data_id k ≡ tot_of_key m
    → IsPlanned scenario i (e ∷ before) m
planned_next scenario i e before m k h same =
    let x = next_stands scenario i e before k h in
    record {
      place = asked scenario i before;
      asked_for = omega (arith, x.more);
      there = x.there;
      is = ap data_id x.is ∙ same;
    }

-- and none that was planned before: those were sent long before
pub planned_long : (scenario : ScenarioParts) (i : ℕ) (e : NoticeKind) (before : List NoticeKind) (m : MsgKey) (k : Message)
    → next_after scenario.params (e ∷ before) (backlog scenario i (e ∷ before)) (asked scenario i before) ≡ Some k → IsPlanned scenario i before m
    → IsLongSent (scenario.params.bound + scenario.params.lag) (e ∷ before) (tot_of_key m)
planned_long scenario i e before m k h planned =
    subst (λ x. IsLongSent (scenario.params.bound + scenario.params.lag) (e ∷ before) x)
    (ap data_id (backlog_same scenario i e before planned.place planned.there) ∙ planned.is)
    ((next_stands scenario i e before k h).long planned.place planned.asked_for)

pub planned_other : (scenario : ScenarioParts) (i : ℕ) (e : NoticeKind) (before : List NoticeKind) (m : MsgKey) (k : Message)
    → next_after scenario.params (e ∷ before) (backlog scenario i (e ∷ before)) (asked scenario i before) ≡ Some k → IsPlanned scenario i before m
    → data_id k ≡ tot_of_key m → ⊥
planned_other scenario i e before m k h planned same =
    let x = next_stands scenario i e before k h in
    one_place scenario i (e ∷ before) planned.place (asked scenario i before) planned.asked_for x.there
    (ap data_id (backlog_same scenario i e before planned.place planned.there) ∙ planned.is ∙ sym same ∙ sym (ap data_id x.is))
