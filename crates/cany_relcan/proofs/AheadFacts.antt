-- Which messages have a timer ahead.
use Rattle.std.specs.Prelude.{nat_lt, Contains}
use Rattle.std.proofs.Common.{◌≡◌, ◌≢◌, ℕ, zero, suc, ◌<◌, ◌==◌, ◌&&◌, ◌||◌, Bool, true, false, if◌then◌else◌, not, inl, inr, List, [], ◌∷◌, ◌++◌, drop, length, refl, ap, subst, sym, ◌∙◌, arith}
use Rattle.std.proofs.lemmas.Bool.{cases_Bool, false_from_ne_true, false≢true}
use Rattle.std.proofs.lemmas.Bool.Decides.{nat_tests}
use Rattle.cany_base.specs.declared.class.Class.TheVariants as class
use Rattle.cany_base.specs.declared.message.MsgKey.{MsgKey}
use Rattle.cany_base.specs.declared.message.Service.{Service}
use Rattle.cany_base.specs.declared.message.Service.TheVariants as service
use Rattle.cany_base.specs.declared.notice.NoticeKind.{NoticeKind}
use Rattle.cany_base.specs.declared.notice.NoticeKind.TheVariants.{Idle, Got, Sent, Bad}
use Rattle.cany_base.specs.Frame.{data_class}
use Rattle.cany_base.specs.Scenario.{ScenarioParts}
use Rattle.cany_base.specs.Limits.{most_nodes}
use Rattle.cany_message.proofs.HistoryFacts.{has_copy-counted}
use Rattle.cany_model.specs.Bus.Frames.{Identity, identity_of, is_of, same_class}
use Rattle.cany_model.specs.Bus.History.{is_got}
use Rattle.cany_model.specs.Rules.Messages.{Message, messages_of, message_key, data_frame}
use Rattle.cany_model.specs.Rules.Notices.{NamesMessage}
use Rattle.cany_model.specs.Rules.Relcan.{fell_back, has_confirm, has_copy, has_timer_ahead, is_first_got, is_timed}
use Rattle.cany_model.proofs.Among.{Among-from_Contains}
use Rattle.cany_model.proofs.Bus.Identities.{same_identity-true}
use Rattle.cany_model.proofs.Rules.Services.MessageKeys.{same_message}
use Rattle.cany_relcan.specs.declared.timers.Timer.{Timer}
use Rattle.cany_relcan.specs.Relcan.{RelcanParts, IsRelcanOf, data_identity}
use Rattle.cany_relcan.specs.RelcanSteps.{is_awaited}
use Rattle.cany_relcan.specs.Timers.{started_by, started_since}
use Rattle.cany_relcan.proofs.TablesFacts.{confirmed_is}

abbrev pub data_of : MsgKey → Identity
data_of msg = data_identity msg.seq msg.origin

-- ---- without a confirmation the node has fallen back once the timer has run out

timed_is : (i s o : ℕ) → is_timed i (data_identity s o) ≡ not (o == i)
unfolding same_class
timed_is i s o = refl

drop_more : (n : ℕ) (notice : NoticeKind) (before : List NoticeKind) → drop n before ≡ drop 1 (drop n (notice ∷ before))
drop_more zero notice before = refl
drop_more (suc zero) notice [] = refl
drop_more (suc (suc n)) notice [] = refl
drop_more (suc n) notice (next ∷ before) = drop_more n next before

first_or_before : (x : Identity) (newest : List NoticeKind) → (is_first_got x newest || has_copy x (drop 1 newest)) ≡ has_copy x newest
first_or_before x [] = refl
first_or_before x (notice ∷ before) = go (is_got x notice) (has_copy x before)
  where
    go : (now before : Bool) → ((now && not before) || before) ≡ (now || before)
    go true true = refl
    go true false = refl
    go false before = refl

unconfirmed : (timed first confirmed fell before whole : Bool) → confirmed ≡ false → fell ≡ (timed && before) → (first || before) ≡ whole
    → (((timed && first) && not confirmed) || fell) ≡ (timed && whole)
unconfirmed timed first confirmed fell before whole none is both = grind (arith, nat_tests, none, is, both)

no_confirm_before : (x : Identity) (notice : NoticeKind) (before : List NoticeKind) → has_confirm x (notice ∷ before) ≡ false → has_confirm x before ≡ false
no_confirm_before x notice before none = grind (arith, nat_tests, none)

fell_unconfirmed : (n i : ℕ) (x : Identity) (past : List NoticeKind) → has_confirm x past ≡ false → fell_back n i x past ≡ (is_timed i x && has_copy x (drop n past))
unfolding fell_back
fell_unconfirmed zero i x [] none = grind (arith, nat_tests)
fell_unconfirmed (suc n) i x [] none = grind (arith, nat_tests)
fell_unconfirmed n i x (notice ∷ before) none =
    unconfirmed (is_timed i x) (is_first_got x (drop n (notice ∷ before))) (has_confirm x (notice ∷ before)) (fell_back n i x before) (has_copy x (drop n before))
    (has_copy x (drop n (notice ∷ before))) none (fell_unconfirmed n i x before (no_confirm_before x notice before none))
    (ap (λ newest. is_first_got x (drop n (notice ∷ before)) || has_copy x newest) (drop_more n notice before) ∙ first_or_before x (drop n (notice ∷ before)))

-- ---- whether a timer of a message lies ahead

abbrev is_ahead : ℕ → ℕ → Identity → List NoticeKind → Bool
is_ahead confirm i x past = is_timed i x && has_copy x past && not (has_copy x (drop confirm past)) && not (has_confirm x past)

awaited_when : (confirmed own timed got fell late : Bool) → timed ≡ not own → (confirmed ≡ false → fell ≡ (timed && late))
    → (not confirmed && (not own && (got && not fell))) ≡ (((timed && got) && not late) && not confirmed)
awaited_when confirmed own timed got fell late is when = grind (arith, nat_tests, is, when)

module _ (scenario : ScenarioParts) (i : ℕ) (past : List NoticeKind) (v : RelcanParts) (msg : MsgKey) (h : IsRelcanOf scenario i past v) (small : msg.origin < most_nodes) where
  -- what a value says of a message is so in its history
  awaited_is : is_awaited v msg
      ≡ (not (has_confirm (data_of msg) past) && (not (msg.origin == i) && (has_copy (data_of msg) past && not (fell_back scenario.params.confirm i (data_of msg) past))))
  awaited_is =
      grind (
        arith,
        nat_tests,
        confirmed_is scenario i past v.copies v.confirms h.tables msg.seq msg.origin small,
        h.limits.node,
        ap (nat_lt 0) (h.tables.data_frames.copies msg.seq msg.origin small),
        has_copy-counted (data_of msg) past,
        h.fallen.held msg.seq msg.origin small,
      )

  history_is : is_awaited v msg ≡ is_ahead scenario.params.confirm i (data_of msg) past
  history_is =
      awaited_is
      ∙ awaited_when (has_confirm (data_of msg) past) (msg.origin == i) (is_timed i (data_of msg)) (has_copy (data_of msg) past)
      (fell_back scenario.params.confirm i (data_of msg) past) (has_copy (data_of msg) (drop scenario.params.confirm past))
      (timed_is i msg.seq msg.origin) (fell_unconfirmed scenario.params.confirm i (data_of msg) past)

  -- a message that is awaited is one of RELCAN
  awaited_named : is_awaited v msg ≡ true → NamesMessage scenario service.Rel (record { class = class.Rel; number = msg.seq; node = msg.origin; inc = 0; payload = [] })
  awaited_named awaited =
      let copy : has_copy (data_of msg) past ≡ true = grind (arith, nat_tests, awaited, awaited_is) in
      h.tables.named (record { class = class.Rel; number = msg.seq; node = msg.origin; inc = 0; payload = [] }) refl copy

  -- none is that is no message
  pub none_awaited : ((m : Message) → Contains (messages_of scenario.sends) m → message_key m ≢ msg) → is_awaited v msg ≡ false
  none_awaited none =
      false_from_ne_true (is_awaited v msg)
      (λ awaited.
      let named = awaited_named awaited in
      none named.message named.stands (λ k. record { origin = named.origin k; seq = named.number k }))

  module _ (m : Message) (stands : Contains (messages_of scenario.sends) m) (key : message_key m ≡ msg) where
    same_service : NamesMessage scenario service.Rel (record { class = class.Rel; number = msg.seq; node = msg.origin; inc = 0; payload = [] }) → m.service ≡ service.Rel
    same_service named =
        let same : named.message ≡ m = same_message scenario.sends named.message m
        (Among-from_Contains (messages_of scenario.sends) named.message named.stands) (Among-from_Contains (messages_of scenario.sends) m stands)
        (named.origin ∙ sym (ap (λ (k : MsgKey). k.origin) key)) (named.number ∙ sym (ap (λ (k : MsgKey). k.seq) key)) in
        ap (λ (k : Message). k.service) (sym same) ∙ named.sent_by

    ahead_none : same_class (data_class m.service) class.Rel ≡ false → (m.service ≡ service.Rel → ⊥) → is_awaited v msg ≡ has_timer_ahead scenario m i past
    ahead_none other apart =
        let rests : is_awaited v msg ≡ false = false_from_ne_true (is_awaited v msg) (λ awaited. apart (same_service (awaited_named awaited))) in
        grind (arith, nat_tests, rests, other)

    ahead_rel : m.service ≡ service.Rel → is_awaited v msg ≡ has_timer_ahead scenario m i past
    ahead_rel is =
        let x_is : identity_of (data_frame m) ≡ data_of msg = λ k. record { class = data_class (is k); number = (key k).seq; node = (key k).origin } in
        history_is ∙ ap (λ x. is_ahead scenario.params.confirm i x past) (sym x_is)

    ahead_by : (by : Service) → m.service ≡ by → is_awaited v msg ≡ has_timer_ahead scenario m i past
    unfolding same_class
    ahead_by service.Ed is = ahead_none (ap (λ s. same_class (data_class s) class.Rel) is) (λ rel. let no' : service.Ed ≡ service.Rel = sym is ∙ rel in cc)
    ahead_by service.Tot is = ahead_none (ap (λ s. same_class (data_class s) class.Rel) is) (λ rel. let no' : service.Tot ≡ service.Rel = sym is ∙ rel in cc)
    ahead_by service.Rel is = ahead_rel is

    pub ahead_is : is_awaited v msg ≡ has_timer_ahead scenario m i past
    ahead_is = ahead_by m.service refl

-- ---- where no timer runs

both_none : (timers more : List Timer) → timers ++ more ≡ [] → (timers ≡ []) × (more ≡ [])
both_none [] more none = (refl, none)
both_none (timer ∷ timers) more none = absurd (cc)

first_read : (timed now before : Bool) (timer : Timer) → timed ≡ true → (if timed && not before then timer ∷ [] else []) ≡ [] → (now || before) ≡ before
first_read timed true true timer is none = refl
first_read timed false before timer is none = refl
first_read true true false timer is none = absurd (cc)
first_read false true false timer is none = absurd (false≢true is)

-- a copy that starts no timer is not the first
copied_before : (i : ℕ) (x : Identity) (notice : NoticeKind) (before : List NoticeKind) → is_timed i x ≡ true → started_by i notice before ≡ []
    → has_copy x (notice ∷ before) ≡ has_copy x before
copied_before i x Idle before timed none = refl
copied_before i x Bad before timed none = refl
copied_before i x (Sent f) before timed none = refl
copied_before i x (Got f) before timed none = elim (cases_Bool (is_of x f)) [
  | inl is ↦
      let same : identity_of f ≡ x = sym (same_identity-true x (identity_of f) is) in
      let timer : Timer = record { frame = f; first = length before } in
      first_read (is_timed i x) (is_of x f) (has_copy x before) timer timed
      (subst (λ y. (if is_timed i y && not (has_copy y before) then timer ∷ [] else []) ≡ []) same none)
  | inr other ↦ ap (λ b. b || has_copy x before) other
]

copied_late : (i n : ℕ) (x : Identity) (past : List NoticeKind) → is_timed i x ≡ true → started_since i n past ≡ [] → has_copy x past ≡ has_copy x (drop n past)
unfolding started_since
copied_late i zero x past timed none = refl
copied_late i (suc n) x [] timed none = refl
copied_late i (suc n) x (notice ∷ before) timed none =
    let parts = both_none (started_since i n before) (started_by i notice before) none in
    copied_before i x notice before timed parts.1 ∙ copied_late i n x before timed parts.0

none_of : (timed now late confirmed : Bool) → (timed ≡ true → now ≡ late) → ((timed && now) && not late) && not confirmed ≡ false
none_of timed now late confirmed same = grind (arith, nat_tests, same)

pub none_ahead : (scenario : ScenarioParts) (i : ℕ) (past : List NoticeKind) (v : RelcanParts) → IsRelcanOf scenario i past v → v.timers.running ≡ []
    → (m : Message) → has_timer_ahead scenario m i past ≡ false
none_ahead scenario i past v h none m =
    let x = identity_of (data_frame m) in
    none_of (is_timed i x) (has_copy x past) (has_copy x (drop scenario.params.confirm past)) (has_confirm x past)
    (λ timed. copied_late i scenario.params.confirm x past timed (sym h.timers ∙ none))
