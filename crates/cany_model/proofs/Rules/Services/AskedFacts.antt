-- When the origin has asked for a message: an EDCAN or RELCAN message once it has read the scripted
-- slot, a TOTCAN message once it is one of those that were asked for of its backlog.
use Rattle.std.proofs.Common.{◌≡◌, ℕ, suc, ◌==◌, ◌&&◌, ◌||◌, inl, inr, Bool, true, false, not, nat_lt, List, [], ◌∷◌, ◌++◌, filter, length, take, drop, Option, Some, None, refl, ap, sym, ◌∙◌, arith, append-nil}
use Rattle.std.specs.List.{list_any}
use Rattle.std.proofs.Math.Bool.{or-false, or_comm}
use Rattle.std.proofs.lemmas.Bool.{false≢true, and_from, and_parts, cases_Bool, eq-eqb, eqb-false, eqb-true, false_from_ne_true, le-ltb, lt-ltb, ltb-false, ltb-true, not-true, not_from_false, or_cases, or_left, or_right}
use Rattle.std.proofs.lemmas.List.{take-append-le}
use Rattle.std.proofs.lemmas.List.Folds.{list_any-append}
use Rattle.cany_base.specs.declared.message.Service.{Service}
use Rattle.cany_base.specs.declared.message.Service.TheVariants.{Ed, Rel, Tot}
use Rattle.cany_base.specs.declared.notice.NoticeKind.{NoticeKind}
use Rattle.cany_base.specs.Frame.{data_class}
use Rattle.cany_base.specs.Params.{Parameters}
use Rattle.cany_base.specs.Scenario.{ScenarioParts}
use Rattle.cany_model.specs.Bus.Frames.{Identity, identity_of, is_of, same_class}
use Rattle.cany_model.specs.Rules.Backlog.{ask_for, asked, backlog, backlog_effects, joins_in, next_after, one_more, tot_backlog}
use Rattle.cany_model.specs.Rules.Effect.{Effect, Ask, Withdraw, Enter}
use Rattle.cany_model.specs.Rules.Messages.{Message, messages_of, data_frame, data_id}
use Rattle.cany_model.specs.Rules.Protocol.{Protocol}
use Rattle.cany_model.specs.Rules.Sends.{is_sent_at_once, is_sent_in, scripted_sends, send_effects, sendable}
use Rattle.cany_model.specs.Rules.Turn.{asks_for, has_asked, origin_effects}
use Rattle.cany_model.proofs.Among.{Among-from_any, Among-weaker, any-from_Among}
use Rattle.cany_model.proofs.Bus.Identities.{same_identity-from, same_identity-true}
use Rattle.cany_model.proofs.Rules.Waits.{Asks}
use Rattle.cany_model.proofs.Rules.Services.BacklogFacts.{HasJoined, asked-few, backlog_is_lawful, next_is, next_joined}
use Rattle.cany_model.proofs.Rules.Services.MessageKeys.{IsOneOf}
use Rattle.cany_model.proofs.Rules.Services.PlaceFacts.{any_more}
use Rattle.cany_model.proofs.Rules.ProtocolFacts.{IsLawful, asks_named}
use Rattle.cany_model.proofs.Rules.Services.SendFacts.{is_sent_in-true, sendable_one, sends_are_lawful, sends_ask, sent_of}

pub same_answer : (a b : Bool) → (a ≡ true → b ≡ true) → (b ≡ true → a ≡ true) → a ≡ b
same_answer true true f g = refl
same_answer true false f g = sym (f refl)
same_answer false true f g = g refl
same_answer false false f g = refl

asks_for-true : (x : Identity) (e : Effect) → asks_for x e ≡ true → Asks x e
asks_for-true x (Ask f) h = same_identity-true x (identity_of f) h
asks_for-true x (Withdraw y) h = absurd (false≢true h)
asks_for-true x (Enter entry) h = absurd (false≢true h)

asks_for-from : (x : Identity) (e : Effect) → Asks x e → asks_for x e ≡ true
asks_for-from x (Ask f) h = same_identity-from x (identity_of f) h
asks_for-from x (Withdraw y) h = absurd h
asks_for-from x (Enter entry) h = absurd h

-- ---- in one turn

-- an origin asks by its scripted sends, or for what is next of its backlog
origin_asks : (x : Identity) (scenario : ScenarioParts) (i : ℕ) (past : List NoticeKind)
    → list_any (asks_for x) (origin_effects scenario i past)
    ≡ (list_any (asks_for x) (send_effects scenario i past) || list_any (asks_for x) (backlog_effects scenario i past))
origin_asks x scenario i past =
    ap (λ rest. list_any (asks_for x) (send_effects scenario i past ++ rest)) (append-nil (backlog_effects scenario i past))
    ∙ list_any-append (asks_for x) (send_effects scenario i past) (backlog_effects scenario i past)

-- a protocol asks for no frame of a class that it does not name
none_asked : (p : Protocol) → IsLawful p → (scenario : ScenarioParts) (i : ℕ) (x : Identity) (past : List NoticeKind) → p.names x.class ≡ false
    → list_any (asks_for x) (p.effects scenario i past) ≡ false
none_asked p lawful scenario i x past other =
    false_from_ne_true (list_any (asks_for x) (p.effects scenario i past)) (λ h.
    false≢true (sym other ∙ asks_named p lawful scenario i x past
    (Among-weaker (λ e. asks_for x e ≡ true) (Asks x) (asks_for-true x) (p.effects scenario i past) (Among-from_any (asks_for x) (p.effects scenario i past) h))))

not_backlog : (by : Service) → is_sent_at_once by ≡ true → tot_backlog.names (data_class by) ≡ false
unfolding same_class
not_backlog Ed h = refl
not_backlog Rel h = refl
not_backlog Tot h = absurd (false≢true h)

sends_not_tot : scripted_sends.names (data_class Tot) ≡ false
unfolding same_class
sends_not_tot = refl

-- ---- a message that is sent at once

asked_in : (scenario : ScenarioParts) (m : Message) (i : ℕ) (e : NoticeKind) (past : List NoticeKind) → IsOneOf (messages_of scenario.sends) m
    → is_sent_at_once m.service ≡ true
    → list_any (asks_for (data_id m)) (origin_effects scenario i (e ∷ past)) ≡ (is_sent_in i (length past) m && not (nat_lt m.slot scenario.from))
unfolding send_effects
asked_in scenario m i e past is at_once =
    origin_asks (data_id m) scenario i (e ∷ past)
    ∙ ap (λ b. list_any (asks_for (data_id m)) (send_effects scenario i (e ∷ past)) || b)
    (none_asked tot_backlog backlog_is_lawful scenario i (data_id m) (e ∷ past) (not_backlog m.service at_once))
    ∙ or-false (list_any (asks_for (data_id m)) (send_effects scenario i (e ∷ past)))
    ∙ same_answer (list_any (asks_for (data_id m)) (send_effects scenario i (e ∷ past))) (is_sent_in i (length past) m && not (nat_lt m.slot scenario.from))
    (λ h.
    let sent = sent_of scenario i (length past) m is (sendable scenario (length past)) (sendable_one scenario (length past))
    (Among-weaker (λ a. asks_for (data_id m) a ≡ true) (Asks (data_id m)) (asks_for-true (data_id m)) (send_effects scenario i (e ∷ past))
    (Among-from_any (asks_for (data_id m)) (send_effects scenario i (e ∷ past)) h)) in
    let at = (is_sent_in-true i (length past) m sent.0).at in
    and_from (is_sent_in i (length past) m) (not (nat_lt m.slot scenario.from)) sent.0
    (not_from_false (nat_lt m.slot scenario.from) (le-ltb m.slot scenario.from (omega (arith, at, sent.1)))))
    (λ h.
    let parts = and_parts (is_sent_in i (length past) m) (not (nat_lt m.slot scenario.from)) h in
    let sent = is_sent_in-true i (length past) m parts.0 in
    let late = ltb-false m.slot scenario.from (not-true (nat_lt m.slot scenario.from) parts.1) in
    any-from_Among (asks_for (data_id m)) (send_effects scenario i (e ∷ past))
    (Among-weaker (Asks (data_id m)) (λ a. asks_for (data_id m) a ≡ true) (asks_for-from (data_id m)) (send_effects scenario i (e ∷ past))
    (sends_ask scenario i m e past is sent.at_once sent.origin late sent.at)))

one_slot_more : (slot n : ℕ) → (slot == n || nat_lt slot n) ≡ nat_lt slot (suc n)
one_slot_more slot n =
    same_answer (slot == n || nat_lt slot n) (nat_lt slot (suc n))
    (λ h. elim (or_cases (slot == n) (nat_lt slot n) h) [
      | inl now ↦ lt-ltb slot (suc n) (omega (arith, eqb-true slot n now))
      | inr before ↦ lt-ltb slot (suc n) (omega (arith, ltb-true slot n before))
    ])
    (λ h. elim (cases_Bool (slot == n)) [
      | inl now ↦ or_left (slot == n) (nat_lt slot n) now
      | inr other ↦ or_right (slot == n) (nat_lt slot n) (lt-ltb slot n (omega (arith, ltb-true slot (suc n) h, eqb-false slot n other)))
    ])

asked_more : (once origin : Bool) (slot n : ℕ) → origin ≡ true
    → ((once && origin && slot == n) || (once && nat_lt slot n)) ≡ (once && nat_lt slot (suc n))
asked_more true origin slot n own = rw own (one_slot_more slot n)
asked_more false origin slot n own = refl

never_asked : (once : Bool) (slot : ℕ) → false ≡ (once && nat_lt slot 0)
never_asked true slot = sym (false_from_ne_true (nat_lt slot 0) (λ h. absurd (omega (arith, ltb-true slot 0 h))))
never_asked false slot = refl

both_and : (a b c : Bool) → ((a && c) || (b && c)) ≡ ((a || b) && c)
both_and true b true = refl
both_and true true false = refl
both_and true false false = refl
both_and false b c = refl

-- the origin has asked for a message that is sent at once exactly where its slot was read, and is
-- one whose scripted asks are made
pub asked_at_once : (scenario : ScenarioParts) (m : Message) (i : ℕ) (past : List NoticeKind) → IsOneOf (messages_of scenario.sends) m
    → is_sent_at_once m.service ≡ true → m.origin ≡ i
    → has_asked scenario m i past ≡ (is_sent_at_once m.service && nat_lt m.slot (length past) && not (nat_lt m.slot scenario.from))
unfolding has_asked
asked_at_once scenario m i [] is at_once origin =
    ap (λ b. b && not (nat_lt m.slot scenario.from)) (never_asked (is_sent_at_once m.service) m.slot)
asked_at_once scenario m i (e ∷ past) is at_once origin =
    rw (asked_in scenario m i e past is at_once, asked_at_once scenario m i past is at_once origin)
    (both_and (is_sent_in i (length past) m) (is_sent_at_once m.service && nat_lt m.slot (length past)) (not (nat_lt m.slot scenario.from))
    ∙ ap (λ b. b && not (nat_lt m.slot scenario.from))
    (asked_more (is_sent_at_once m.service) (m.origin == i) m.slot (length past) (eq-eqb m.origin i origin)))

-- ---- a message of the backlog

abbrev is_numbered : ℕ → Message → Bool
is_numbered seq k = k.seq == seq

-- whether the message is the one that is asked for, told by its sequence number
abbrev is_next : ℕ → Option Message → Bool
is_next seq None = false
is_next seq (Some k) = is_numbered seq k

one_named : (scenario : ScenarioParts) (m : Message) (i slot : ℕ) → m.service ≡ Tot → m.origin ≡ i → (k : Message) → HasJoined scenario i slot k
    → is_of (data_id m) (data_frame k) ≡ is_numbered m.seq k
one_named scenario m i slot tot origin k h =
    same_answer (is_of (data_id m) (data_frame k)) (is_numbered m.seq k)
    (λ same. eq-eqb k.seq m.seq (sym (ap (λ (x : Identity). x.number) (same_identity-true (data_id m) (data_id k) same))))
    (λ same. same_identity-from (data_id m) (data_id k)
    (λ j. record { class = (ap data_class (tot ∙ sym h.tot)) j; number = (sym (eqb-true k.seq m.seq same)) j; node = (origin ∙ sym h.origin) j }))

next_named : (scenario : ScenarioParts) (m : Message) (i slot : ℕ) → m.service ≡ Tot → m.origin ≡ i → (o : Option Message)
    → ((k : Message) → o ≡ Some k → HasJoined scenario i slot k) → list_any (asks_for (data_id m)) (ask_for o) ≡ is_next m.seq o
next_named scenario m i slot tot origin None joined = refl
next_named scenario m i slot tot origin (Some k) joined =
    or-false (is_of (data_id m) (data_frame k)) ∙ one_named scenario m i slot tot origin k (joined k refl)

tot_asked_in : (scenario : ScenarioParts) (m : Message) (i : ℕ) (e : NoticeKind) (past : List NoticeKind) → m.service ≡ Tot → m.origin ≡ i
    → list_any (asks_for (data_id m)) (origin_effects scenario i (e ∷ past))
    ≡ is_next m.seq (next_after scenario.params (e ∷ past) (backlog scenario i (e ∷ past)) (asked scenario i past))
unfolding backlog_effects
tot_asked_in scenario m i e past tot origin =
    origin_asks (data_id m) scenario i (e ∷ past)
    ∙ ap (λ b. b || list_any (asks_for (data_id m)) (backlog_effects scenario i (e ∷ past)))
    (none_asked scripted_sends sends_are_lawful scenario i (data_id m) (e ∷ past) (ap (λ by. scripted_sends.names (data_class by)) tot ∙ sends_not_tot))
    ∙ next_named scenario m i (length (e ∷ past)) tot origin (next_after scenario.params (e ∷ past) (backlog scenario i (e ∷ past)) (asked scenario i past))
    (λ k is. next_joined scenario i e past k is)

-- of the messages that were asked for, with the one that is next
with_next : (p : Parameters) (past : List NoticeKind) (messages : List Message) (n seq : ℕ) (o : Option Message) → next_after p past messages n ≡ o
    → list_any (is_numbered seq) (take (one_more n o) messages) ≡ (list_any (is_numbered seq) (take n messages) || is_next seq o)
with_next p past messages n seq None is = sym (or-false (list_any (is_numbered seq) (take n messages)))
with_next p past messages n seq (Some k) is =
    let w = next_is p past (take n messages) (drop n messages) k is in any_more (is_numbered seq) n messages k w.0 w.1

-- the origin has asked for a TOTCAN message exactly where it is one of those that were asked for of
-- its backlog
pub asked_of_backlog : (scenario : ScenarioParts) (m : Message) (i : ℕ) (past : List NoticeKind) → m.service ≡ Tot → m.origin ≡ i
    → has_asked scenario m i past ≡ list_any (λ k. k.seq == m.seq) (take (asked scenario i past) (backlog scenario i past))
unfolding has_asked asked backlog
asked_of_backlog scenario m i [] tot origin = refl
asked_of_backlog scenario m i (e ∷ past) tot origin =
    let joined : List Message = filter (joins_in i (length past)) (sendable scenario (length past)) in
    let n : ℕ = asked scenario i past in
    let before : List Message = backlog scenario i past in
    let o : Option Message = next_after scenario.params (e ∷ past) (before ++ joined) n in
    ap (λ b. b || has_asked scenario m i past) (tot_asked_in scenario m i e past tot origin)
    ∙ ap (λ b. is_next m.seq o || b) (asked_of_backlog scenario m i past tot origin)
    ∙ or_comm (is_next m.seq o) (list_any (is_numbered m.seq) (take n before))
    ∙ ap (λ ms. list_any (is_numbered m.seq) ms || is_next m.seq o) (sym (take-append-le n before joined (asked-few scenario i past)))
    ∙ sym (with_next scenario.params (e ∷ past) (before ++ joined) n m.seq o refl)
