-- The message of a backlog that is asked for next, from what the node kept of its messages.
use Rattle.std.specs.Prelude.{nat_le, nat_lt, slice_get, option_map}
use Rattle.std.specs.List.{AllByRecursion, last_or, list_all, list_any}
use Rattle.std.specs.Option.{option_map_or}
use Rattle.std.proofs.Common.{◌≡◌, ◌⊎◌, ℕ, zero, suc, ◌+◌, ◌-◌, ◌<◌, ◌≤◌, ◌==◌, ◌&&◌, ◌||◌, Bool, true, false, not, if◌then◌else◌, inl, inr, List, [], ◌∷◌, ◌++◌, None, Option, Some, count_by, drop, get_or, length, take, refl, ap, sym, ◌∙◌, subst, arith}
use Rattle.std.proofs.lemmas.Bool.{and_from, and_parts, cases_Bool, cases_lt, cond_both, eq-eqb, lt-ltb, le-ltb, ne_eqb, or_right}
use Rattle.std.proofs.lemmas.Bool.Decides.{nat_tests}
use Rattle.std.proofs.lemmas.List.{drop_all, drop_more, length-map, length-set, take_more}
use Rattle.std.proofs.lemmas.List.Folds.{list_all-append, list_any_more}
use Rattle.std.proofs.lemmas.Option.{slice_get-map}
use Rattle.cany_base.specs.declared.actions.Action.{Action}
use Rattle.cany_base.specs.declared.actions.Action.TheVariants as action
use Rattle.cany_base.specs.declared.class.Class.TheVariants as class
use Rattle.cany_base.specs.declared.format.Format.{Format}
use Rattle.cany_base.specs.declared.message.MsgKey.{MsgKey}
use Rattle.cany_base.specs.declared.notice.NoticeKind.{NoticeKind}
use Rattle.cany_base.specs.Frame.{FrameParts, data_class}
use Rattle.cany_base.specs.Params.{Parameters}
use Rattle.cany_base.specs.Scenario.{ScenarioParts}
use Rattle.cany_model.specs.Bus.History.{has_own}
use Rattle.cany_model.specs.Rules.Actions.{actions_of}
use Rattle.cany_model.specs.Rules.Backlog.{ask_for, asked_after, is_free as may_follow, next_after, next_of}
use Rattle.cany_model.specs.Rules.Messages.{Message, data_frame, data_id, is_from, message_key}
use Rattle.cany_model.specs.Rules.Totcan.{holds, is_recent, tot_of_key}
use Rattle.cany_model.proofs.Among.{Among-get_or, Each-of}
use Rattle.cany_totcan.specs.declared.backlog.Given.{Given}
use Rattle.cany_totcan.specs.declared.backlog.OwnMessage.{OwnMessage}
use Rattle.cany_totcan.specs.Backlog.{BacklogParts, after_next, is_free, is_past, marked, next_given, own_at}
use Rattle.cany_totcan.specs.Totcan.{TotcanParts, IsBacklogOf, IsOwnTot, IsTotcanOf, given_of, has_seq, key_of, place_of}
use Rattle.cany_totcan.proofs.BacklogFacts.{free_first, free_last}
use Rattle.cany_totcan.proofs.LimitsFacts.{limits_with}
use Rattle.cany_totcan.proofs.OwnFacts.{field_set, seq_below}

-- ---- places

-- whether a place is among so many newest of these many notices
abbrev is_late : ℕ → ℕ → Option ℕ → Bool
is_late notices many place = option_map_or (λ c. nat_le many (c + notices)) place false

none_late : (key : MsgKey) (past : List NoticeKind) (many : ℕ) → length past ≤ many → is_late 0 many (place_of key past) ≡ false
unfolding place_of
none_late key [] many few = refl
none_late key (notice ∷ before) many few =
    cond_both (holds key notice) (Some (length before)) (place_of key before) (λ place. is_late 0 many place ≡ false)
    (λ _. grind (arith, nat_tests)) (λ _. none_late key before many (omega arith))

one_later : (notices many : ℕ) (place : Option ℕ) → is_late (suc notices) (suc many) place ≡ is_late notices many place
one_later notices many None = refl
one_later notices many (Some c) = grind (arith, nat_tests)

recent_one : (notices many : ℕ) (here before : Bool) (place : Option ℕ) → before ≡ is_late notices many place
    → (here || before) ≡ is_late (suc notices) (suc many) (if here then Some many else place)
recent_one notices many true before place is = grind (arith, nat_tests)
recent_one notices many false before place is = is ∙ sym (one_later notices many place)

-- the newest notices that hold the message are those after which its place comes
recent_is : (notices : ℕ) (key : MsgKey) (past : List NoticeKind) → is_recent notices key past ≡ is_late notices (length past) (place_of key past)
unfolding is_recent place_of
recent_is zero key past = sym (none_late key past (length past) (omega arith))
recent_is (suc notices) key [] = refl
recent_is (suc notices) key (notice ∷ before) =
    recent_one notices (length before) (holds key notice) (is_recent notices key before) (place_of key before) (recent_is notices key before)

past_late : (now notices many : ℕ) (place : Option ℕ) → now + 1 ≡ many → is_past now notices place ≡ not (is_late notices many place)
past_late now notices many None at = refl
past_late now notices many (Some c) at = grind (arith, nat_tests)

-- in the turn of the newest notice so many slots have passed since the place, or it is one of so
-- many newest notices
pub past_is : (now notices : ℕ) (key : MsgKey) (past : List NoticeKind) → now + 1 ≡ length past
    → is_past now notices (place_of key past) ≡ not (is_recent notices key past)
past_is now notices key past at = past_late now notices (length past) (place_of key past) at ∙ ap not (sym (recent_is notices key past))

-- ---- lists

last_push : {X : Type 0} (o : Option X) (xs : List X) (x : X) → last_or o (xs ++ x ∷ []) ≡ Some x
last_push o [] x = refl
last_push o (y ∷ xs) x = last_push (Some y) xs x

all_from_each : {X : Type 0} (p : X → Bool) (xs : List X) → AllByRecursion (λ x. p x ≡ true) xs → list_all p xs ≡ true
all_from_each p [] each = refl
all_from_each p (x ∷ xs) each = and_from (p x) (list_all p xs) each.0 (all_from_each p xs each.1)

each_from_all : {X : Type 0} (p : X → Bool) (xs : List X) → list_all p xs ≡ true → AllByRecursion (λ x. p x ≡ true) xs
each_from_all p [] all = tt
each_from_all p (x ∷ xs) all = let parts = and_parts (p x) (list_all p xs) all in (parts.0, each_from_all p xs parts.1)

-- the message is at this place
record IsAt (messages : List Message) (n : ℕ) (m : Message) : Type 0 where
  within : n < length messages
  here : get_or messages n m ≡ m
  get : slice_get messages n ≡ Some m

message_at : (messages : List Message) (n : ℕ) → n < length messages → (m : Message) × IsAt messages n m
message_at [] n within = absurd (omega arith)
message_at (m ∷ messages) zero within = (m, record { within = within; here = refl; get = refl })
message_at (m ∷ messages) (suc n) within =
    let rest = message_at messages n (omega arith) in
    (rest.0, record { within = within; here = rest.1.here; get = rest.1.get })

-- the data frame of a message that was given, and the actions that ask for it
abbrev pub tot_frame : ℕ → Given → FrameParts
tot_frame i g = record { class = class.Tot; number = g.seq; node = i; inc = 0; payload = g.payload }

abbrev pub asked_actions : ℕ → Option Given → List Action
asked_actions i None = []
asked_actions i (Some g) = action.Ask (tot_frame i g) ∷ []

-- ---- whether the next message may be asked for

and_one : (a b : Bool) → ((a && true) && b) ≡ (a && b)
and_one true b = refl
and_one false b = refl

or_none : (a : Bool) → (a || false) ≡ a
or_none true = refl
or_none false = refl

-- by the rule, where the messages before the last were sent
follows_last : (p : Parameters) (past : List NoticeKind) (earlier : List Message) (m : Message)
    → AllByRecursion (λ k. has_own (data_id k) past ≡ true) earlier
    → may_follow p (earlier ++ m ∷ []) past ≡ (has_own (data_id m) past && not (is_recent (p.bound + p.lag) (message_key m) past))
follows_last p past earlier m sent =
    rw (
      list_all-append (λ k. has_own (data_id k) past) earlier (m ∷ []),
      all_from_each (λ k. has_own (data_id k) past) earlier sent,
      last_push None earlier m,
    )
    (and_one (has_own (data_id m) past) (not (is_recent (p.bound + p.lag) (message_key m) past)))

module _ (scenario : ScenarioParts) (i : ℕ) (past : List NoticeKind) (messages : List Message) (count : ℕ) (v : BacklogParts)
    (h : IsBacklogOf scenario i past messages count v) where
  own_of : (n : ℕ) (m : Message) → IsAt messages n m → IsOwnTot scenario i m
  own_of n m at = Each-of (IsOwnTot scenario i) m messages h.are_own (Among-get_or (λ k. k ≡ m) messages n m at.within at.here)

  number_within : (m : Message) → IsOwnTot scenario i m → m.seq < length v.own
  number_within m own = omega (arith, seq_below scenario m own.stands, ap (λ n. count_by (is_from n) scenario.sends) own.origin, h.own)

  given_at : (n : ℕ) (m : Message) → IsAt messages n m → slice_get v.given n ≡ Some (given_of m)
  given_at n m at = ap (λ given. slice_get given n) h.given ∙ slice_get-map given_of messages n ∙ ap (option_map given_of) at.get

  module _ (now spacing : ℕ) (turn : now + 1 ≡ length past) (far : spacing ≡ scenario.params.bound + scenario.params.lag) where
    kept_is : (m : Message) → IsOwnTot scenario i m
        → ((own_at v.own m.seq).sent && is_past now spacing (own_at v.own m.seq).place)
        ≡ (has_own (data_id m) past && not (is_recent spacing (message_key m) past))
    kept_is m own =
        let within = number_within m own in
        let key : key_of m.seq i ≡ message_key m = λ k. record { origin = sym own.origin k; seq = m.seq } in
        let identity : tot_of_key (key_of m.seq i) ≡ data_id m =
        λ k. record { class = data_class (sym own.sent_by k); number = m.seq; node = sym own.origin k } in
        ap (λ b. b && is_past now spacing (own_at v.own m.seq).place) (h.sent m.seq within ∙ ap (λ x. has_own x past) identity)
        ∙ ap (λ b. has_own (data_id m) past && b)
        (ap (is_past now spacing) (h.places m.seq within) ∙ past_is now spacing (key_of m.seq i) past turn ∙ ap (λ k. not (is_recent spacing k past)) key)

    free_is : is_free now spacing v ≡ may_follow scenario.params (take count messages) past
    free_is = elim (cases_lt 0 count) [
      | inr none ↦
          let first : count ≡ 0 = omega (arith, none) in
          free_first now spacing v (h.asked ∙ first) ∙ ap (λ n. may_follow scenario.params (take n messages) past) (sym first)
      | inl some ↦
          let last = message_at messages (count - 1) (omega (arith, h.some)) in
          let m = last.0 in
          let earlier = take (count - 1) messages in
          let one_more : count ≡ count - 1 + 1 = omega arith in
          let asked : take count messages ≡ earlier ++ m ∷ [] =
          ap (λ n. take n messages) one_more ∙ take_more messages (count - 1) m last.1.within ∙ ap (λ k. earlier ++ k ∷ []) last.1.here in
          free_last now spacing v (given_of m) (omega (arith, h.asked)) (ap (λ n. slice_get v.given (n - 1)) h.asked ∙ given_at (count - 1) m last.1)
          ∙ kept_is m (own_of (count - 1) m last.1)
          ∙ ap (λ n. has_own (data_id m) past && not (is_recent n (message_key m) past)) far
          ∙ sym (ap (λ k. may_follow scenario.params k past) asked ∙ follows_last scenario.params past earlier m h.earlier)
    ]

    -- ---- what is asked for

    -- this message is, in the turn of the newest notice
    record IsNext (m : Message) : Type 0 where
      at : IsAt messages count m
      follows : may_follow scenario.params (take count messages) past ≡ true
      rule : next_after scenario.params past messages count ≡ Some m
      given : next_given now spacing v ≡ Some (given_of m)

    -- none is
    record IsNoneNext : Type 0 where
      rule : next_after scenario.params past messages count ≡ None
      given : next_given now spacing v ≡ None

    as_many : length v.given ≡ length messages
    as_many = ap length h.given ∙ length-map messages given_of

    next_cases : IsNoneNext ⊎ ((m : Message) × IsNext m)
    next_cases = elim (cases_lt count (length messages)) [
      | inr all ↦
          inl
          (record {
            rule = ap (next_of scenario.params past (take count messages)) (drop_all count messages all);
            given = rw (le-ltb v.asked (length v.given) (omega (arith, h.asked, as_many))) refl;
          })
      | inl within ↦
          let next = message_at messages count within in
          let m = next.0 in
          let later = drop (count + 1) messages in
          let rest : drop count messages ≡ m ∷ later = drop_more messages count m within ∙ ap (λ k. k ∷ later) next.1.here in
          let get : slice_get v.given v.asked ≡ Some (given_of m) = ap (slice_get v.given) h.asked ∙ given_at count m next.1 in
          let less : nat_lt v.asked (length v.given) ≡ true = lt-ltb v.asked (length v.given) (omega (arith, h.asked, as_many)) in
          elim (cases_Bool (may_follow scenario.params (take count messages) past)) [
            | inl follows ↦
                inr (m, record { at = next.1; follows = follows; rule = rw (rest, follows) refl; given = rw (less, free_is ∙ follows, get) refl })
            | inr waits ↦ inl (record { rule = rw (rest, waits) refl; given = rw (less, free_is ∙ waits) refl })
          ]
    ]

    -- the actions of the turn
    pub next_actions : (format : Format)
        → asked_actions i (next_given now spacing v) ≡ actions_of format (ask_for (next_after scenario.params past messages count))
    next_actions format = elim next_cases [
      | inl none ↦ rw (none.rule, none.given) refl
      | inr some ↦
          let m = some.0 in
          let own = own_of count m some.1.at in
          let frame : tot_frame i (given_of m) ≡ data_frame m =
          λ k. record { class = data_class (sym own.sent_by k); number = m.seq; node = sym own.origin k; inc = 0; payload = m.payload } in
          rw (some.1.rule, some.1.given) (ap (λ f. action.Ask f ∷ []) frame)
    ]

    -- one message more was asked for
    module _ (m : Message) (next : IsNext m) where
      within_own : m.seq < length v.own
      within_own = number_within m (own_of count m next.at)

      mark_is : (s : ℕ) → (own_at (marked v.own m.seq) s).asked ≡ list_any (has_seq s) (take (count + 1) messages)
      mark_is s =
          let before = list_any (has_seq s) (take count messages) in
          let more : list_any (has_seq s) (take (count + 1) messages) ≡ (before || s == m.seq) =
          list_any_more (has_seq s) messages count m next.at.within ∙ ap (λ k. before || has_seq s k) next.at.here in
          field_set (λ x. x.asked) v.own m.seq s (record (own_at v.own m.seq) { asked = true }) _ within_own
          (λ here. sym (more ∙ or_right before (s == m.seq) (eq-eqb s m.seq here)))
          (λ apart. h.marks s ∙ sym (more ∙ ap (λ b. before || b) (ne_eqb s m.seq apart) ∙ or_none before))

      marked_stands : IsBacklogOf scenario i past messages (count + 1) (record v { asked = v.asked + 1; own = marked v.own m.seq })
      marked_stands =
          let y : OwnMessage = record (own_at v.own m.seq) { asked = true } in
          let same : length (marked v.own m.seq) ≡ length v.own = length-set v.own m.seq y in
          let all_but_last : count ≡ count + 1 - 1 = omega arith in
          record {
            given = h.given;
            are_own = h.are_own;
            asked = ap (λ n. n + 1) h.asked;
            some = omega (arith, next.at.within);
            room = h.room;
            own = same ∙ h.own;
            sent = λ s in_range.
                field_set (λ x. x.sent) v.own m.seq s y _ within_own
                (λ here. ap (λ k. (own_at v.own k).sent) (sym here) ∙ h.sent s (omega arith)) (λ _. h.sent s (omega arith));
            places = λ s in_range.
                field_set (λ x. x.place) v.own m.seq s y _ within_own
                (λ here. ap (λ k. (own_at v.own k).place) (sym here) ∙ h.places s (omega arith)) (λ _. h.places s (omega arith));
            marks = mark_is;
            earlier = subst (λ n. AllByRecursion (λ k. has_own (data_id k) past ≡ true) (take n messages)) all_but_last
                (each_from_all (λ k. has_own (data_id k) past) (take count messages) (and_parts _ _ next.follows).0);
          }

    -- the backlog after the turn
    pub next_stands : IsBacklogOf scenario i past messages (asked_after scenario.params past messages count) (after_next now spacing v)
    next_stands = elim next_cases [
      | inl none ↦ rw (none.rule, none.given) h
      | inr some ↦ rw (some.1.rule, some.1.given) (marked_stands some.0 some.1)
    ]

-- the value with another backlog
pub with_backlog : (scenario : ScenarioParts) (i : ℕ) (past : List NoticeKind) (messages others : List Message) (count many : ℕ)
    (v : TotcanParts) (b : BacklogParts) → IsTotcanOf scenario i past messages count v → IsBacklogOf scenario i past others many b
    → IsTotcanOf scenario i past others many (record v { backlog = b })
with_backlog scenario i past messages others count many v b h of_b = record {
  limits = limits_with scenario i v v.queue v.acceptances v.deliveries b h.limits refl refl refl;
  queue = h.queue;
  acceptances = h.acceptances;
  are_delivered = h.are_delivered;
  done = h.done;
  pending = h.pending;
  backlog = of_b;
}
