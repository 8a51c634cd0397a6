-- What the rules of TOTCAN do in a turn: each effect has its reason, and no message is delivered
-- twice.
use Rattle.std.specs.Prelude.{slice_index_or}
use Rattle.std.proofs.Common.{◌≡◌, ℕ, suc, ◌+◌, ◌<◌, ◌≤◌, ◌==◌, ◌&&◌, ◌||◌, inl, inr, Bool, true, false, not, cond, List, [], ◌∷◌, ◌++◌, map, filter, count_by, length, drop, Option, Some, None, refl, ap, sym, ◌∙◌, arith, drop-drop}
use Rattle.std.specs.List.{AllByRecursion}
use Rattle.std.proofs.lemmas.Bool.{false≢true, and_parts, cases_Bool, cases_lt, cond_both, eqb-true, leb-true, not-true}
use Rattle.std.proofs.lemmas.List.{get_or_past}
use Rattle.std.proofs.lemmas.List.Sums.{sum_by-append}
use Rattle.cany_base.specs.declared.class.Class.TheVariants as class
use Rattle.cany_base.specs.declared.message.MsgKey.{MsgKey}
use Rattle.cany_base.specs.declared.message.Service.TheVariants.{Tot}
use Rattle.cany_base.specs.declared.notice.NoticeKind.{NoticeKind}
use Rattle.cany_base.specs.declared.notice.NoticeKind.TheVariants.{Idle, Got, Sent, Bad}
use Rattle.cany_base.specs.Frame.{FrameParts}
use Rattle.cany_base.specs.Params.{Parameters}
use Rattle.cany_base.specs.Scenario.{ScenarioParts}
use Rattle.cany_model.specs.Bus.Frames.{identity_of, same_class, same_identity}
use Rattle.cany_model.specs.Bus.History.{copies}
use Rattle.cany_model.specs.Promises.Entries.{delivers_key}
use Rattle.cany_model.specs.Rules.Delivery.{delivery}
use Rattle.cany_model.specs.Rules.Eager.{eager_effects, has_enough, is_first_copy}
use Rattle.cany_model.specs.Rules.Effect.{Effect, Ask, Withdraw, entered}
use Rattle.cany_model.specs.Rules.Messages.{Message, accept_of_key, is_service, message_key}
use Rattle.cany_model.specs.Rules.Totcan.{accept_effects, accept_frame, after_place, closing_effects, closing_of, delivered, delivered_now, done, done_at, done_from, has_closing_ahead, holds, is_accepted, is_among, is_clear, can_be_accepted, is_place, is_recent, message_in, new_among, tot_delivery, tot_in, totcan, totcan_effects}
use Rattle.cany_model.proofs.Among.{Among, Among-from_count, Among-get_or, Among-gives, Among-weaker, Among-with, Each-append, Each-filter, Each-weaker, any-from_Among, count-cons, count-no, count-yes}
use Rattle.cany_model.proofs.Bus.Carried.{Has}
use Rattle.cany_model.proofs.Bus.Identities.{same_class-true, same_identity-from}
use Rattle.cany_model.proofs.Rules.IdleBeforeTakingPart.{AreIdle, idle_at}
use Rattle.cany_model.proofs.Rules.Services.DeliveryFacts.{EntersNone, entered-append, entered-none}
use Rattle.cany_model.proofs.Rules.Services.EagerFacts.{eager_enters}
use Rattle.cany_model.proofs.Rules.Services.PlaceFacts.{recent-more, tot_in-brings, tot_in-holds}
use Rattle.cany_model.proofs.Rules.ProtocolFacts.{IsFounded, IsLawful, accepts, closes, enough_accept, is_relayed, log_by, relays}

serves : totcan.delivers Tot ≡ true
unfolding is_service same_class
serves = refl

names_accept : totcan.names class.Accept ≡ true
unfolding same_class
names_accept = refl

-- ---- the notice

-- a frame that accepts a message: asked for as one that was got, and withdrawn with enough copies
-- since the place
eager_accept : (scenario : ScenarioParts) (i : ℕ) (f : FrameParts) (past : List NoticeKind) → same_class f.class class.Accept ≡ true
    → AllByRecursion (IsFounded scenario totcan i (Got f ∷ past)) (eager_effects scenario.params.omit f (after_place (message_in f) (Got f ∷ past)))
unfolding eager_effects
eager_accept scenario i f past names =
    let since : List NoticeKind = after_place (message_in f) (Got f ∷ past) in
    let accept : f.class ≡ class.Accept = same_class-true f.class class.Accept names in
    cond_both (has_enough scenario.params.omit (identity_of f) since) _ _ (AllByRecursion (IsFounded scenario totcan i (Got f ∷ past)))
    (λ many. (
      (enough_accept f (inl refl) accept refl (omega (arith, leb-true (scenario.params.omit + 1) (copies (identity_of f) since) many)), names),
      tt,
    ))
    (λ _. cond_both (is_first_copy (identity_of f) since) (Ask f ∷ []) [] (AllByRecursion (IsFounded scenario totcan i (Got f ∷ past)))
    (λ _. ((relays (ap is_relayed accept) (inl refl), names), tt))
    (λ _. tt))

accept_founded : (scenario : ScenarioParts) (i : ℕ) (e : NoticeKind) (past : List NoticeKind)
    → AllByRecursion (IsFounded scenario totcan i (e ∷ past)) (accept_effects scenario.params i e past)
unfolding accept_effects
accept_founded scenario i Idle past = tt
accept_founded scenario i Bad past = tt
accept_founded scenario i (Got f) past =
    cond_both (same_class f.class class.Accept && can_be_accepted scenario.params.bound (message_in f) past) _ []
    (AllByRecursion (IsFounded scenario totcan i (Got f ∷ past)))
    (λ h. eager_accept scenario i f past (and_parts (same_class f.class class.Accept) (can_be_accepted scenario.params.bound (message_in f) past) h).0)
    (λ _. tt)
accept_founded scenario i (Sent f) past =
    cond_both (same_class f.class class.Tot && f.node == i) (Ask (accept_frame f) ∷ []) [] (AllByRecursion (IsFounded scenario totcan i (Sent f ∷ past)))
    (λ h.
    let parts = and_parts (same_class f.class class.Tot) (f.node == i) h in
    ((accepts f (inl refl) (same_class-true f.class class.Tot parts.0) (eqb-true f.node i parts.1) refl, names_accept), tt))
    (λ _. tt)

accept_enters : (p : Parameters) (i : ℕ) (e : NoticeKind) (past : List NoticeKind) → AllByRecursion EntersNone (accept_effects p i e past)
unfolding accept_effects
accept_enters p i Idle past = tt
accept_enters p i Bad past = tt
accept_enters p i (Got f) past =
    cond_both (same_class f.class class.Accept && can_be_accepted p.bound (message_in f) past) _ [] (AllByRecursion EntersNone)
    (λ _. eager_enters p.omit f (after_place (message_in f) (Got f ∷ past))) (λ _. tt)
accept_enters p i (Sent f) past =
    cond_both (same_class f.class class.Tot && f.node == i) (Ask (accept_frame f) ∷ []) [] (AllByRecursion EntersNone) (λ _. (tt, tt)) (λ _. tt)

-- ---- the closing

-- the notice at a place of what was read
brought_at : (n : ℕ) (f : FrameParts) (past : List NoticeKind) → tot_in (slice_index_or past n Idle) ≡ Some f → Among (λ e. tot_in e ≡ Some f) past
unfolding tot_in
brought_at n f past at = elim (cases_lt n (length past)) [
  | inl below ↦ Among-get_or (λ e. tot_in e ≡ Some f) past n Idle below at
  | inr over ↦ let none : None ≡ Some f = sym (ap tot_in (get_or_past past n Idle over)) ∙ at in absurd (cc)
]

brought_has : (f : FrameParts) (past : List NoticeKind) → Among (λ e. tot_in e ≡ Some f) past → Among (Has f) past
brought_has f past h = Among-weaker (λ e. tot_in e ≡ Some f) (Has f) (λ e is. (tot_in-brings e f is).has) past h

brought_tot : (f : FrameParts) (past : List NoticeKind) → Among (λ e. tot_in e ≡ Some f) past → f.class ≡ class.Tot
brought_tot f past h = Among-gives (λ e. tot_in e ≡ Some f) (f.class ≡ class.Tot) (λ e is. (tot_in-brings e f is).tot) past h

close_founded : (scenario : ScenarioParts) (i : ℕ) (past : List NoticeKind) (o : Option FrameParts)
    → ((f : FrameParts) → o ≡ Some f → Among (λ e. tot_in e ≡ Some f) past)
    → AllByRecursion (IsFounded scenario totcan i past) (closing_of scenario.params.bound past o)
close_founded scenario i past None brought = tt
close_founded scenario i past (Some f) brought =
    cond_both (can_be_accepted scenario.params.bound (message_in f) past) [] (Withdraw (accept_of_key (message_in f)) ∷ [])
    (AllByRecursion (IsFounded scenario totcan i past)) (λ _. tt)
    (λ closed.
    let read = brought f refl in
    ((closes f (brought_has f past read) (brought_tot f past read) refl closed, names_accept), tt))

closing_founded : (scenario : ScenarioParts) (i : ℕ) (past : List NoticeKind)
    → AllByRecursion (IsFounded scenario totcan i past) (closing_effects scenario.params.bound past)
unfolding closing_effects
closing_founded scenario i past =
    close_founded scenario i past (tot_in (slice_index_or past scenario.params.bound Idle)) (λ f at. brought_at scenario.params.bound f past at)

close_enters : (bound : ℕ) (past : List NoticeKind) (o : Option FrameParts) → AllByRecursion EntersNone (closing_of bound past o)
close_enters bound past None = tt
close_enters bound past (Some f) =
    cond_both (can_be_accepted bound (message_in f) past) [] (Withdraw (accept_of_key (message_in f)) ∷ []) (AllByRecursion EntersNone) (λ _. tt) (λ _. (tt, tt))

closing_enters : (bound : ℕ) (past : List NoticeKind) → AllByRecursion EntersNone (closing_effects bound past)
unfolding closing_effects
closing_enters bound past = close_enters bound past (tot_in (slice_index_or past bound Idle))

-- ---- what is done was read

-- one of the notices brings the data frame
abbrev pub IsBrought : List NoticeKind → FrameParts → Type 0
IsBrought past f = Among (λ e. tot_in e ≡ Some f) past

done_at_brought : (p : Parameters) (i : ℕ) (past : List NoticeKind) (age : ℕ) (e : NoticeKind) (older : List NoticeKind) (o : Option FrameParts) → tot_in e ≡ o
    → AllByRecursion (IsBrought (e ∷ older)) (done_at p i past age older o)
done_at_brought p i past age e older None is = tt
done_at_brought p i past age e older (Some f) is =
    cond_both (is_place age past (message_in f) && is_accepted p.bound i (message_in f) past && is_clear p i past (age + 1) older) (f ∷ []) []
    (AllByRecursion (IsBrought (e ∷ older))) (λ _. (inl is, tt)) (λ _. tt)

done_from_brought : (p : Parameters) (i : ℕ) (past : List NoticeKind) (age : ℕ) (notices : List NoticeKind)
    → AllByRecursion (IsBrought notices) (done_from p i past age notices)
unfolding done_from
done_from_brought p i past age [] = tt
done_from_brought p i past age (e ∷ older) =
    Each-append (IsBrought (e ∷ older)) (done_from p i past (age + 1) older) (done_at p i past age older (tot_in e))
    (Each-weaker (IsBrought older) (IsBrought (e ∷ older)) (λ f h. inr h) (done_from p i past (age + 1) older) (done_from_brought p i past (age + 1) older))
    (done_at_brought p i past age e older (tot_in e) refl)

pub done_brought : (p : Parameters) (i : ℕ) (past : List NoticeKind) → AllByRecursion (IsBrought past) (done p i past)
done_brought p i past = done_from_brought p i past 0 past

now_brought : (p : Parameters) (i : ℕ) (past : List NoticeKind) → AllByRecursion (IsBrought past) (delivered_now p i past)
unfolding delivered_now
now_brought p i [] = tt
now_brought p i (e ∷ before) =
    Each-filter (IsBrought (e ∷ before)) (λ f. not (is_among (delivered p i before) f)) (done p i (e ∷ before)) (done_brought p i (e ∷ before))

pub delivered_brought : (p : Parameters) (i : ℕ) (past : List NoticeKind) → AllByRecursion (IsBrought past) (delivered p i past)
unfolding delivered
delivered_brought p i [] = tt
delivered_brought p i (e ∷ before) =
    Each-append (IsBrought (e ∷ before)) (delivered p i before) (new_among (delivered p i before) (done p i (e ∷ before)))
    (Each-weaker (IsBrought before) (IsBrought (e ∷ before)) (λ f h. inr h) (delivered p i before) (delivered_brought p i before))
    (Each-filter (IsBrought (e ∷ before)) (λ f. not (is_among (delivered p i before) f)) (done p i (e ∷ before)) (done_brought p i (e ∷ before)))

-- ---- the deliveries

deliveries_founded : (scenario : ScenarioParts) (i : ℕ) (past : List NoticeKind) (slot : ℕ) → length past ≡ suc slot → (frames : List FrameParts)
    → AllByRecursion (IsBrought past) frames → AllByRecursion (IsFounded scenario totcan i past) (map (tot_delivery slot) frames)
deliveries_founded scenario i past slot now [] read = tt
deliveries_founded scenario i past slot now (f ∷ frames) read = (
  record {
    frame = f;
    read = brought_has f past read.0;
    class = brought_tot f past read.0;
    key = refl;
    carries = refl;
    now = now;
    serves = serves;
  },
  deliveries_founded scenario i past slot now frames read.1,
)

deliveries_enter : (slot : ℕ) (frames : List FrameParts) → entered (map (tot_delivery slot) frames) ≡ map (delivery slot Tot) frames
unfolding entered
deliveries_enter slot [] = refl
deliveries_enter slot (f ∷ frames) = ap (λ entries. delivery slot Tot f ∷ entries) (deliveries_enter slot frames)

-- a turn enters the deliveries alone
pub totcan_enters : (scenario : ScenarioParts) (i : ℕ) (e : NoticeKind) (before : List NoticeKind)
    → entered (totcan_effects scenario i (e ∷ before)) ≡ map (delivery (length before) Tot) (delivered_now scenario.params i (e ∷ before))
unfolding totcan_effects
totcan_enters scenario i e before =
    let accept : List Effect = accept_effects scenario.params i e before in
    let closing : List Effect = closing_effects scenario.params.bound (e ∷ before) in
    let deliveries : List Effect = map (tot_delivery (length before)) (delivered_now scenario.params i (e ∷ before)) in
    entered-append (accept ++ closing) deliveries
    ∙ ap (λ entries. entries ++ entered deliveries)
    (entered-none (accept ++ closing)
    (Each-append EntersNone accept closing (accept_enters scenario.params i e before) (closing_enters scenario.params.bound (e ∷ before))))
    ∙ deliveries_enter (length before) (delivered_now scenario.params i (e ∷ before))

-- ---- none twice

abbrev pub is_named : MsgKey → FrameParts → Bool
is_named key f = f.node == key.origin && f.number == key.seq

abbrev count : MsgKey → List FrameParts → ℕ
count key frames = count_by (is_named key) frames

named-true : (key : MsgKey) (f : FrameParts) → is_named key f ≡ true → message_in f ≡ key
named-true key f h =
    let parts = and_parts (f.node == key.origin) (f.number == key.seq) h in
    λ k. record { origin = (eqb-true f.node key.origin parts.0) k; seq = (eqb-true f.number key.seq parts.1) k }

count-append : (key : MsgKey) (first rest : List FrameParts) → count key (first ++ rest) ≡ count key first + count key rest
count-append key first rest = sum_by-append (λ f. cond (is_named key f) 1 0) first rest

pub drop-next : (past : List NoticeKind) (age : ℕ) (e : NoticeKind) (older : List NoticeKind) → drop age past ≡ e ∷ older → drop (age + 1) past ≡ older
drop-next past age e older at = sym (drop-drop 1 age past) ∙ ap (drop 1) at

-- at one place: where the message is done there, none of its notices is newer, and its older ones
-- are no places
module _ (p : Parameters) (i : ℕ) (key : MsgKey) (past : List NoticeKind) where
  abbrev left : ℕ → ℕ
  left age = cond (is_recent age key past) 0 1

  left_less : (age : ℕ) (e : NoticeKind) (older : List NoticeKind) → drop age past ≡ e ∷ older → left (age + 1) ≤ left age
  left_less age e older at = rw (recent-more age key past e older at) (less (is_recent age key past) (holds key e))
    where
      less : (a b : Bool) → cond (a || b) 0 1 ≤ cond a 0 1
      less true b = omega arith
      less false true = omega arith
      less false false = omega arith

  left_now : (age : ℕ) (e : NoticeKind) (older : List NoticeKind) (f : FrameParts) → drop age past ≡ e ∷ older → tot_in e ≡ Some f → is_named key f ≡ true
      → is_place age past (message_in f) ≡ true → left (age + 1) + 1 ≤ left age
  left_now age e older f at brought named place =
      let same : message_in f ≡ key = named-true key f named in
      let new : is_recent age key past ≡ false = ap (λ k. is_recent age k past) (sym same) ∙ not-true (is_recent age (message_in f) past) place in
      let here : holds key e ≡ true = ap (λ k. holds k e) (sym same) ∙ tot_in-holds e f brought in
      rw (recent-more age key past e older at, new, here) (omega arith)

  counted_at : (age : ℕ) (e : NoticeKind) (older : List NoticeKind) → drop age past ≡ e ∷ older → (o : Option FrameParts) → tot_in e ≡ o
      → left (age + 1) + count key (done_at p i past age older o) ≤ left age
  counted_at age e older at None brought = omega (arith, left_less age e older at)
  counted_at age e older at (Some f) brought =
      cond_both (is_place age past (message_in f) && is_accepted p.bound i (message_in f) past && is_clear p i past (age + 1) older) (f ∷ []) []
      (λ frames. left (age + 1) + count key frames ≤ left age)
      (λ h.
      let placed = and_parts (is_place age past (message_in f)) (is_accepted p.bound i (message_in f) past)
      (and_parts (is_place age past (message_in f) && is_accepted p.bound i (message_in f) past) (is_clear p i past (age + 1) older) h).0 in
      elim (cases_Bool (is_named key f)) [
        | inl named ↦ omega (arith, left_now age e older f at brought named placed.0, count-yes (is_named key) f [] named)
        | inr other ↦ omega (arith, left_less age e older at, count-no (is_named key) f [] other)
      ])
      (λ _. omega (arith, left_less age e older at))

  counted : (age : ℕ) (notices : List NoticeKind) → drop age past ≡ notices → count key (done_from p i past age notices) ≤ left age
  unfolding done_from
  counted age [] at = omega arith
  counted age (e ∷ older) at =
      omega (
        arith,
        count-append key (done_from p i past (age + 1) older) (done_at p i past age older (tot_in e)),
        counted (age + 1) older (drop-next past age e older at),
        counted_at age e older at (tot_in e) refl,
      )

  pub done_once : count key (done p i past) ≤ 1
  done_once = omega (arith, counted 0 past refl, one (is_recent 0 key past))
    where
      one : (b : Bool) → cond b 0 1 ≤ 1
      one true = omega arith
      one false = omega arith

-- ---- over all turns

fewer : (key : MsgKey) (q : FrameParts → Bool) (frames : List FrameParts) → count key (filter q frames) ≤ count key frames
fewer key q [] = omega arith
fewer key q (f ∷ frames) =
    cond_both (q f) (f ∷ filter q frames) (filter q frames) (λ kept. count key kept ≤ count key (f ∷ frames))
    (λ _. omega (arith, count-cons (is_named key) f (filter q frames), count-cons (is_named key) f frames, fewer key q frames))
    (λ _. omega (arith, count-cons (is_named key) f frames, fewer key q frames))

-- one that was delivered is not new
pub not_new : (key : MsgKey) (earlier : List FrameParts) → AllByRecursion (λ g. g.class ≡ class.Tot) earlier → 0 < count key earlier
    → (frames : List FrameParts) → AllByRecursion (λ f. f.class ≡ class.Tot) frames → count key (new_among earlier frames) ≤ 0
not_new key earlier tot some [] are = omega arith
not_new key earlier tot some (f ∷ frames) are =
    cond_both (not (is_among earlier f)) (f ∷ new_among earlier frames) (new_among earlier frames) (λ kept. count key kept ≤ 0)
    (λ new. elim (cases_Bool (is_named key f)) [
      | inl named ↦ absurd (false≢true (sym (not-true (is_among earlier f) new) ∙ among named))
      | inr other ↦ omega (arith, count-no (is_named key) f (new_among earlier frames) other, not_new key earlier tot some frames are.1)
    ])
    (λ _. not_new key earlier tot some frames are.1)
  where
    among : is_named key f ≡ true → is_among earlier f ≡ true
    among named =
        let a = named-true key f named in
        any-from_Among (λ g. same_identity (identity_of f) (identity_of g)) earlier
        (Among-weaker (λ g. (is_named key g ≡ true) × (g.class ≡ class.Tot)) (λ g. same_identity (identity_of f) (identity_of g) ≡ true)
        (λ g both.
        let b = named-true key g both.0 in
        same_identity-from (identity_of f) (identity_of g)
        (λ k. record {
          class = (are.0 ∙ sym both.1) k;
          number = (ap (λ (m : MsgKey). m.seq) (a ∙ sym b)) k;
          node = (ap (λ (m : MsgKey). m.origin) (a ∙ sym b)) k;
        }))
        earlier (Among-with (λ g. is_named key g ≡ true) (λ g. g.class ≡ class.Tot) earlier tot (Among-from_count (is_named key) earlier some)))

pub all_tot : (past : List NoticeKind) (frames : List FrameParts) → AllByRecursion (IsBrought past) frames → AllByRecursion (λ f. f.class ≡ class.Tot) frames
all_tot past frames h = Each-weaker (IsBrought past) (λ f. f.class ≡ class.Tot) (λ f read. brought_tot f past read) frames h

delivered_once : (p : Parameters) (i : ℕ) (key : MsgKey) (past : List NoticeKind) → count key (delivered p i past) ≤ 1
unfolding delivered
delivered_once p i key [] = omega arith
delivered_once p i key (e ∷ before) =
    let earlier : List FrameParts = delivered p i before in
    let now : List FrameParts = done p i (e ∷ before) in
    let both = count-append key earlier (new_among earlier now) in
    elim (cases_lt 0 (count key earlier)) [
      | inl some ↦
          omega (
            arith,
            both,
            delivered_once p i key before,
            not_new key earlier (all_tot before earlier (delivered_brought p i before)) some now (all_tot (e ∷ before) now (done_brought p i (e ∷ before))),
          )
      | inr none ↦ omega (arith, both, none, fewer key (λ f. not (is_among earlier f)) now, done_once p i key (e ∷ before))
    ]

count_deliveries : (slot : ℕ) (key : MsgKey) (frames : List FrameParts) → count_by (delivers_key key) (map (delivery slot Tot) frames) ≡ count key frames
count_deliveries slot key [] = refl
count_deliveries slot key (f ∷ frames) =
    omega (
      arith,
      count-cons (delivers_key key) (delivery slot Tot f) (map (delivery slot Tot) frames),
      count-cons (is_named key) f frames,
      count_deliveries slot key frames,
    )

-- the log has as many deliveries of a key as were delivered
count_log : (scenario : ScenarioParts) (i : ℕ) (key : MsgKey) (past : List NoticeKind)
    → count_by (delivers_key key) (log_by totcan scenario i past) ≡ count key (delivered scenario.params i past)
unfolding delivered delivered_now
count_log scenario i key [] = refl
count_log scenario i key (e ∷ before) =
    let now : List FrameParts = delivered_now scenario.params i (e ∷ before) in
    sum_by-append (λ entry. cond (delivers_key key entry) 1 0) (log_by totcan scenario i before) (entered (totcan_effects scenario i (e ∷ before)))
    ∙ ap (λ entries. count_by (delivers_key key) (log_by totcan scenario i before) + count_by (delivers_key key) entries) (totcan_enters scenario i e before)
    ∙ omega (arith, count_log scenario i key before, count_deliveries (length before) key now, count-append key (delivered scenario.params i before) now)

-- ---- a turn

-- nothing is done where nothing was read
idle_done : (p : Parameters) (i : ℕ) (past : List NoticeKind) (age : ℕ) (notices : List NoticeKind) → AreIdle notices → done_from p i past age notices ≡ []
unfolding done_from tot_in
idle_done p i past age [] idle = refl
idle_done p i past age (e ∷ older) idle = rw (idle_done p i past (age + 1) older idle.1, idle.0) refl

pub totcan_is_lawful : IsLawful totcan
unfolding totcan_effects accept_effects closing_effects delivered_now tot_in
totcan_is_lawful = record {
  muted = λ scenario i past begun. mute scenario i past begun.idle;
  founded = λ scenario i past. each scenario i past;
  ahead_serves = λ scenario m i past h. serves_open scenario m i past h;
  once = λ scenario i key past. omega (arith, count_log scenario i key past, delivered_once scenario.params i key past);
}
  where
    each : (scenario : ScenarioParts) (i : ℕ) (past : List NoticeKind) → AllByRecursion (IsFounded scenario totcan i past) (totcan_effects scenario i past)
    each scenario i [] = tt
    each scenario i (e ∷ before) =
        let accept : List Effect = accept_effects scenario.params i e before in
        let closing : List Effect = closing_effects scenario.params.bound (e ∷ before) in
        Each-append (IsFounded scenario totcan i (e ∷ before)) (accept ++ closing)
        (map (tot_delivery (length before)) (delivered_now scenario.params i (e ∷ before)))
        (Each-append (IsFounded scenario totcan i (e ∷ before)) accept closing (accept_founded scenario i e before) (closing_founded scenario i (e ∷ before)))
        (deliveries_founded scenario i (e ∷ before) (length before) refl (delivered_now scenario.params i (e ∷ before))
        (now_brought scenario.params i (e ∷ before)))

    mute : (scenario : ScenarioParts) (i : ℕ) (past : List NoticeKind) → AreIdle past → totcan_effects scenario i past ≡ []
    mute scenario i [] idle = refl
    mute scenario i (e ∷ past) idle =
        rw (idle_done scenario.params i (e ∷ past) 0 (e ∷ past) idle, idle_at (e ∷ past) idle scenario.params.bound, idle.0) refl

    serves_open : (scenario : ScenarioParts) (m : Message) (i : ℕ) (past : List NoticeKind) → has_closing_ahead scenario m i past ≡ true
        → totcan.delivers m.service ≡ true
    serves_open scenario m i past h = (and_parts (is_service m.service Tot) (can_be_accepted scenario.params.bound (message_key m) past) h).0
