-- Where each message that was asked for was sent long ago, and the newest turn asked for none that
-- was sent, all of the backlog was asked for: else the newest turn would have asked for the next
-- one.
use Rattle.std.proofs.Common.{◌≡◌, ℕ, zero, suc, ◌+◌, ◌<◌, ◌≤◌, inl, inr, Bool, true, false, not, List, [], ◌∷◌, length, take, Option, Some, None, refl, ap, sym, ◌∙◌, arith}
use Rattle.std.specs.List.{last_or, list_all}
use Rattle.std.specs.Option.{option_map_or}
use Rattle.std.proofs.lemmas.Bool.{and_from, cases_lt, not_from_false}
use Rattle.std.proofs.lemmas.List.{drop_more}
use Rattle.cany_base.specs.declared.message.MsgKey.{MsgKey}
use Rattle.cany_base.specs.declared.notice.NoticeKind.{NoticeKind}
use Rattle.cany_base.specs.Params.{Parameters}
use Rattle.cany_base.specs.Scenario.{ScenarioParts}
use Rattle.cany_model.specs.Bus.History.{has_own}
use Rattle.cany_model.specs.Rules.Backlog.{asked, backlog, is_free, is_past_last, next_after, next_of, one_more}
use Rattle.cany_model.specs.Rules.Messages.{Message, data_id, message_key}
use Rattle.cany_model.specs.Rules.Totcan.{is_recent}
use Rattle.cany_model.proofs.Rules.Services.BacklogFacts.{asked-few}
use Rattle.cany_model.proofs.Timed.Order.TotBacklog.{at_place, next_stands}
use Rattle.cany_model.proofs.Timed.Order.TotKept.{no_message}
use Rattle.cany_settle.proofs.Backlogs.{AskedForUnsent, asked_is, next_in}
use Rattle.cany_settle.proofs.Turns.{AllAsked}

-- ---- when the next one is asked for

all_taken : (test : Message → Bool) (messages : List Message) (n : ℕ) → n ≤ length messages
    → ((j : ℕ) → j < n → test (at_place messages j) ≡ true) → list_all test (take n messages) ≡ true
all_taken test messages zero few each = refl
all_taken test [] (suc n) few each = absurd (omega (arith, few))
all_taken test (m ∷ messages) (suc n) few each =
    and_from (test m) (list_all test (take n messages)) (each 0 (omega arith))
    (all_taken test messages n (omega (arith, few)) (λ j below. each (suc j) (omega (arith, below))))

past_last : (slots : ℕ) (past : List NoticeKind) → ((key : MsgKey) → is_recent slots key past ≡ false) → (o : Option Message)
    → option_map_or (λ m. not (is_recent slots (message_key m) past)) o true ≡ true
past_last slots past old None = refl
past_last slots past old (Some m) = not_from_false (is_recent slots (message_key m) past) (old (message_key m))

free : (p : Parameters) (past : List NoticeKind) (messages : List Message) (n : ℕ) → n ≤ length messages
    → ((j : ℕ) → j < n → has_own (data_id (at_place messages j)) past ≡ true) → ((key : MsgKey) → is_recent (p.bound + p.lag) key past ≡ false)
    → is_free p (take n messages) past ≡ true
free p past messages n few own old =
    and_from (list_all (λ m. has_own (data_id m) past) (take n messages)) (is_past_last (p.bound + p.lag) (take n messages) past)
    (all_taken (λ m. has_own (data_id m) past) messages n few own)
    (past_last (p.bound + p.lag) past old (last_or None (take n messages)))

free_next : (p : Parameters) (past : List NoticeKind) (messages : List Message) (n : ℕ) → n < length messages
    → is_free p (take n messages) past ≡ true → next_after p past messages n ≡ Some (at_place messages n)
free_next p past messages n below is =
    ap (next_of p past (take n messages)) (drop_more messages n no_message below) ∙ rw is refl

-- ---- all were asked for

pub all_asked : (scenario : ScenarioParts) (i : ℕ) (e : NoticeKind) (before : List NoticeKind)
    → ((j : ℕ) → j < asked scenario i (e ∷ before) → has_own (data_id (at_place (backlog scenario i (e ∷ before)) j)) (e ∷ before) ≡ true)
    → ((key : MsgKey) → is_recent (scenario.params.bound + scenario.params.lag) key (e ∷ before) ≡ false)
    → AskedForUnsent scenario i (e ∷ before) → AllAsked scenario i (e ∷ before)
all_asked scenario i e before own old unsent = by_next (next_in scenario i e before) refl
  where
    messages : List Message
    messages = backlog scenario i (e ∷ before)

    n : ℕ
    n = asked scenario i before

    none_some : (k : Message) → None ≡ Some k → ⊥
    none_some k h = cc

    by_next : (o : Option Message) → next_in scenario i e before ≡ o → AllAsked scenario i (e ∷ before)
    by_next None is =
        let same : asked scenario i (e ∷ before) ≡ n = asked_is scenario i e before ∙ ap (one_more n) is in
        let few = asked-few scenario i (e ∷ before) in
        elim (cases_lt n (length messages)) [
          | inl below ↦
              let all_own : (j : ℕ) → j < n → has_own (data_id (at_place messages j)) (e ∷ before) ≡ true =
              λ j less. own j (omega (arith, less, same)) in
              absurd (none_some (at_place messages n) (sym is
              ∙ free_next scenario.params (e ∷ before) messages n below (free scenario.params (e ∷ before) messages n (omega (arith, below)) all_own old)))
          | inr all ↦ omega (arith, all, few, same)
        ]
    by_next (Some k) is =
        let next = next_stands scenario i e before k is in
        let more = next.more in
        absurd (unsent k is (ap (λ m. has_own (data_id m) (e ∷ before)) (sym next.is) ∙ own n (omega (arith, more))))
