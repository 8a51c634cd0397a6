-- Which messages are open, and the value of a node that has read nothing.
use Rattle.std.proofs.Common.{◌≡◌, ◌≢◌, ℕ, zero, suc, ◌+◌, ◌==◌, ◌&&◌, ◌||◌, true, false, List, [], ◌∷◌, ◌++◌, Contains, inl, inr, length, replicate, take, refl, ap, sym, ◌∙◌}
use Rattle.std.specs.List.{AllByRecursion, list_any}
use Rattle.std.proofs.lemmas.Bool.{and_parts, cases_Bool, eqb-true, false≢true, false_from_ne_true}
use Rattle.cany_base.specs.declared.message.MsgKey.{MsgKey}
use Rattle.cany_base.specs.declared.message.Service.{Service}
use Rattle.cany_base.specs.declared.message.Service.TheVariants as service
use Rattle.cany_base.specs.declared.notice.NoticeKind.{NoticeKind}
use Rattle.cany_base.specs.declared.notice.NoticeKind.TheVariants.{Idle}
use Rattle.cany_base.specs.Params.{Parameters}
use Rattle.cany_base.specs.Scenario.{ScenarioParts}
use Rattle.cany_model.specs.Bus.Frames.{same_class}
use Rattle.cany_model.specs.Rules.Messages.{IsOfMessage, Message, is_service, message_key, messages_of}
use Rattle.cany_model.specs.Rules.Notices.{NamesMessage}
use Rattle.cany_model.specs.Rules.Totcan.{delivered, done, has_closing_ahead, can_be_accepted, is_recent, tot_in, tot_of_key, with_new}
use Rattle.cany_model.proofs.Among.{Among-from_Contains}
use Rattle.cany_model.proofs.Rules.Services.MessageKeys.{same_message}
use Rattle.cany_totcan.specs.declared.queue.Placed.{Placed}
use Rattle.cany_totcan.specs.Queue.{is_at, placed_from, placed_in}
use Rattle.cany_totcan.specs.Totcan.{IsTotcanOf, TotcanParts}
use Rattle.cany_totcan.proofs.DoneFacts.{done_is, done_of}
use Rattle.cany_totcan.proofs.HeardFacts.{open_is_recent}
use Rattle.cany_totcan.proofs.PlaceFacts.{open_is, placed_whole}

-- ---- which are open

-- a message that is there is one of the scenario
there_named : (scenario : ScenarioParts) (key : MsgKey) (items : List Placed) → AllByRecursion (λ x. NamesMessage scenario service.Tot x.frame) items
    → list_any (is_at key) items ≡ true → IsOfMessage scenario service.Tot (tot_of_key key)
there_named scenario key [] named there = absurd (false≢true there)
there_named scenario key (x ∷ items) named there = elim (cases_Bool (is_at key x)) [
  | inl here ↦
      let same = and_parts (key.seq == x.frame.number) (key.origin == x.frame.node) here in
      let this = named.0 in
      record {
        message = this.message;
        stands = this.stands;
        sent_by = this.sent_by;
        number = this.number ∙ sym (eqb-true key.seq x.frame.number same.0);
        origin = this.origin ∙ sym (eqb-true key.origin x.frame.node same.1);
      }
  | inr other ↦ there_named scenario key items named.1 (sym (ap (λ b. b || list_any (is_at key) items) other) ∙ there)
]

module _ (scenario : ScenarioParts) (i : ℕ) (past : List NoticeKind) (messages : List Message) (count : ℕ) (v : TotcanParts) (msg : MsgKey)
    (h : IsTotcanOf scenario i past messages count v) where
  pub none_open : ((m : Message) → Contains (messages_of scenario.sends) m → message_key m ≢ msg) → list_any (is_at msg) v.queue.items ≡ false
  none_open none = false_from_ne_true (list_any (is_at msg) v.queue.items) (λ there.
      let named = there_named scenario msg v.queue.items h.queue.messages there in
      none named.message named.stands (λ k. record { origin = named.origin k; seq = named.number k }))

  module _ (m : Message) (stands : Contains (messages_of scenario.sends) m) (key : message_key m ≡ msg) where
    open_tot : list_any (is_at msg) v.queue.items ≡ true → m.service ≡ service.Tot
    open_tot there =
        let named = there_named scenario msg v.queue.items h.queue.messages there in
        let same : named.message ≡ m = same_message scenario.sends named.message m
        (Among-from_Contains (messages_of scenario.sends) named.message named.stands) (Among-from_Contains (messages_of scenario.sends) m stands)
        (named.origin ∙ sym (ap (λ (k : MsgKey). k.origin) key)) (named.number ∙ sym (ap (λ (k : MsgKey). k.seq) key)) in
        ap (λ (k : Message). k.service) (sym same) ∙ named.sent_by

    open_is_key : list_any (is_at msg) v.queue.items ≡ can_be_accepted scenario.params.bound (message_key m) past
    open_is_key = open_is_recent scenario i past messages count v msg h ∙ ap (λ k. is_recent scenario.params.bound k past) (sym key)

    ahead_none : is_service m.service service.Tot ≡ false → (m.service ≡ service.Tot → ⊥) → list_any (is_at msg) v.queue.items ≡ has_closing_ahead scenario m i past
    ahead_none other apart =
        false_from_ne_true (list_any (is_at msg) v.queue.items) (λ there. apart (open_tot there))
        ∙ sym (ap (λ b. b && can_be_accepted scenario.params.bound (message_key m) past) other)

    ahead_tot : is_service m.service service.Tot ≡ true → list_any (is_at msg) v.queue.items ≡ has_closing_ahead scenario m i past
    ahead_tot is = open_is_key ∙ sym (ap (λ b. b && can_be_accepted scenario.params.bound (message_key m) past) is)

    ahead_by : (by : Service) → m.service ≡ by → list_any (is_at msg) v.queue.items ≡ has_closing_ahead scenario m i past
    unfolding is_service same_class
    ahead_by service.Ed is = ahead_none (ap (λ s. is_service s service.Tot) is) (λ tot. let no' : service.Ed ≡ service.Tot = sym is ∙ tot in cc)
    ahead_by service.Rel is = ahead_none (ap (λ s. is_service s service.Tot) is) (λ tot. let no' : service.Rel ≡ service.Tot = sym is ∙ tot in cc)
    ahead_by service.Tot is = ahead_tot (ap (λ s. is_service s service.Tot) is)

    pub ahead_is : list_any (is_at msg) v.queue.items ≡ has_closing_ahead scenario m i past
    ahead_is = ahead_by m.service refl

-- ---- idle slots

placed-idle : (past : List NoticeKind) (age m n : ℕ) → placed_from past age (take m (replicate n Idle)) ≡ []
unfolding placed_from tot_in
placed-idle past age zero zero = refl
placed-idle past age zero (suc n) = refl
placed-idle past age (suc m) zero = refl
placed-idle past age (suc m) (suc n) = ap (λ items. items ++ []) (placed-idle past (age + 1) m n)

pub none_placed : (m n : ℕ) → placed_in m (replicate n Idle) ≡ []
none_placed m n = placed-idle (replicate n Idle) 0 m n

pub none_recent : (m n : ℕ) (key : MsgKey) → is_recent m key (replicate n Idle) ≡ false
none_recent m n key = sym (open_is m key (replicate n Idle)) ∙ ap (list_any (is_at key)) (none_placed m n)

none_done : (p : Parameters) (i n : ℕ) → done p i (replicate n Idle) ≡ []
none_done p i n =
    done_is p i (replicate n Idle)
    ∙ ap (done_of p i (replicate n Idle)) (sym (placed_whole (replicate n Idle)) ∙ none_placed (length (replicate n Idle)) n)

pub none_delivered : (p : Parameters) (i n : ℕ) → delivered p i (replicate n Idle) ≡ []
unfolding delivered
none_delivered p i zero = refl
none_delivered p i (suc n) = λ k. with_new (none_delivered p i n k) (none_done p i (suc n) k)
