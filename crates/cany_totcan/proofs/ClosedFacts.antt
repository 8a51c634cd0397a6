-- What a value that has heard a notice knows of its open messages, and what becomes of them at the
-- closing in that turn.
use Rattle.std.proofs.Common.{◌≡◌, ℕ, zero, suc, ◌+◌, ◌-◌, ◌<◌, ◌≤◌, ◌==◌, ◌&&◌, ◌||◌, inl, inr, Bool, true, false, if◌then◌else◌, List, [], ◌∷◌, ◌++◌, length, take, Option, Some, None, refl, ap, sym, subst, ◌∙◌, arith}
use Rattle.std.specs.Prelude.{nat_lt}
use Rattle.std.specs.List.{AllByRecursion, list_any}
use Rattle.std.proofs.lemmas.Bool.{cases_Bool, eqb-true}
use Rattle.std.proofs.lemmas.Bool.Decides.{nat_tests}
use Rattle.cany_base.specs.declared.class.Class.TheVariants as class
use Rattle.cany_base.specs.declared.message.Service.TheVariants as service
use Rattle.cany_base.specs.declared.notice.NoticeKind.{NoticeKind}
use Rattle.cany_base.specs.Frame.{FrameParts}
use Rattle.cany_base.specs.Limits.{most_nodes}
use Rattle.cany_base.specs.Scenario.{ScenarioParts}
use Rattle.cany_model.specs.Bus.History.{copies, has_own}
use Rattle.cany_model.specs.Rules.Actions.{actions_of}
use Rattle.cany_model.specs.Rules.Messages.{Message, accept_of_key}
use Rattle.cany_model.specs.Rules.Notices.{NamesMessage}
use Rattle.cany_model.specs.Rules.Totcan.{after_place, closing_effects, is_accepted, is_recent, message_in, tot_of_key}
use Rattle.cany_model.proofs.Among.{Each-weaker}
use Rattle.cany_totcan.specs.declared.queue.Placed.{Placed}
use Rattle.cany_totcan.specs.Backlog.{own_at}
use Rattle.cany_totcan.specs.Queue.{OpenParts, is_at, oldest_from, placed_in, without_oldest, without_oldest_from}
use Rattle.cany_totcan.specs.Totcan.{HasHeard, TotcanParts, key_of}
use Rattle.cany_totcan.specs.TotcanSteps.{closing_accepted, closing_actions, closing_frame, is_accepted_by, without_closing}
use Rattle.cany_totcan.proofs.AcceptedFacts.{accepted_counted}
use Rattle.cany_totcan.proofs.DoneFacts.{done_of, done_of-closing, has_accepted, if_accepted}
use Rattle.cany_totcan.proofs.KnownFacts.{closing_is_each, near_named, own_named}
use Rattle.cany_totcan.proofs.PlaceFacts.{WasRead, closing_is, closing_none, is_of_key-self, open_is, placed_all, placed_read, rest_is, withdrawal_of}

-- ---- those that are accepted

-- each message is one of them
pub each_there : (items : List Placed) → AllByRecursion (λ x. list_any (is_at (message_in x.frame)) items ≡ true) items
each_there [] = tt
each_there (x ∷ items) = (
  ap (λ b. b || list_any (is_at (message_in x.frame)) items) (is_of_key-self x.frame),
  Each-weaker _ _ (λ y there. or_true (is_at (message_in y.frame) x) (list_any (is_at (message_in y.frame)) items) there) items (each_there items),
)
  where
    or_true : (a b : Bool) → b ≡ true → (a || b) ≡ true
    or_true true b h = refl
    or_true false b h = h

module _ (scenario : ScenarioParts) (i : ℕ) (notice : NoticeKind) (before : List NoticeKind) (messages : List Message) (count : ℕ) (v : TotcanParts)
    (h : HasHeard scenario i notice before messages count v) where
  -- the value knows which of its messages are accepted
  own_sent : (f : FrameParts) → NamesMessage scenario service.Tot f
      → (f.node == v.node && (own_at v.backlog.own f.number).sent) ≡ (f.node == i && has_own (tot_of_key (message_in f)) (notice ∷ before))
  own_sent f named = ap (λ n. f.node == n && (own_at v.backlog.own f.number).sent) h.limits.node ∙ elim (cases_Bool (f.node == i)) [
    | inl here ↦
        let own = eqb-true f.node i here in
        let within = own_named scenario f h.limits.legal named i own in
        rw here
        (h.backlog.sent f.number (omega (arith, within, h.backlog.own)) ∙ ap (λ n. has_own (tot_of_key (key_of f.number n)) (notice ∷ before)) (sym own))
    | inr other ↦ rw other refl
  ]

  pub accepted_is : (f : FrameParts) → NamesMessage scenario service.Tot f → is_recent (scenario.params.bound + 1) (message_in f) (notice ∷ before) ≡ true
      → is_accepted_by v f ≡ is_accepted scenario.params.bound i (message_in f) (notice ∷ before)
  accepted_is f named recent =
      ap (λ n. nat_lt 0 n || (f.node == v.node && (own_at v.backlog.own f.number).sent)) (h.acceptances.copies (message_in f) recent)
      ∙ ap (λ b. nat_lt 0 (copies (accept_of_key (message_in f)) (after_place (message_in f) (notice ∷ before))) || b) (own_sent f named)
      ∙ sym (accepted_counted scenario.params.bound i (message_in f) (notice ∷ before) recent)

  -- what is known of each of its messages
  pub record IsHeard (x : Placed) : Type 0 where
    pub accepted : is_accepted_by v x.frame ≡ has_accepted scenario.params i (notice ∷ before) x
    pub tot : x.frame.class ≡ class.Tot
    pub near : x.frame.node < most_nodes
    pub named : NamesMessage scenario service.Tot x.frame

  pub heard_each : AllByRecursion IsHeard v.queue.items
  heard_each = both v.queue.items h.queue.messages there read
    where
      there : AllByRecursion (λ x. is_recent (scenario.params.bound + 1) (message_in x.frame) (notice ∷ before) ≡ true) v.queue.items
      there =
          Each-weaker _ _ (λ x is.
          sym (ap (list_any (is_at (message_in x.frame))) h.queue.places ∙ open_is (scenario.params.bound + 1) (message_in x.frame) (notice ∷ before)) ∙ is)
          v.queue.items (each_there v.queue.items)

      read : AllByRecursion (WasRead (notice ∷ before)) v.queue.items
      read = subst (AllByRecursion (WasRead (notice ∷ before))) (sym h.queue.places) (placed_read (scenario.params.bound + 1) (notice ∷ before))

      both : (items : List Placed) → AllByRecursion (λ x. NamesMessage scenario service.Tot x.frame) items
          → AllByRecursion (λ x. is_recent (scenario.params.bound + 1) (message_in x.frame) (notice ∷ before) ≡ true) items
          → AllByRecursion (WasRead (notice ∷ before)) items
          → AllByRecursion IsHeard items
      both [] named there read = tt
      both (x ∷ items) named there read = (
        record { accepted = accepted_is x.frame named.0 there.0; tot = read.0.0; near = near_named scenario x.frame h.limits.legal named.0; named = named.0 },
        both items named.1 there.1 read.1,
      )

  -- ---- the closing

  module _ (slot : ℕ) (at : slot ≡ length before) where
    late : nat_lt slot v.bound ≡ false → scenario.params.bound ≤ slot
    late is = grind (arith, nat_tests, is, h.limits.bound)

    early : nat_lt slot v.bound ≡ true → length (notice ∷ before) ≤ scenario.params.bound
    early is = grind (arith, nat_tests, is, h.limits.bound, at)

    oldest : nat_lt slot v.bound ≡ false → oldest_from (slot - v.bound) v.queue.items
        ≡ oldest_from (slot - scenario.params.bound) (placed_in (scenario.params.bound + 1) (notice ∷ before))
    oldest is = λ k. oldest_from (slot - h.limits.bound k) (h.queue.places k)

    pub closed_items : (without_closing slot v).queue.items ≡ placed_in scenario.params.bound (notice ∷ before)
    closed_items = elim (cases_Bool (nat_lt slot v.bound)) [
      | inl is ↦ rw is (h.queue.places ∙ placed_all scenario.params.bound (notice ∷ before) (early is))
      | inr is ↦ rw is (ap (λ n. (without_oldest (slot - n) v.queue).items) h.limits.bound
          ∙ rest_is scenario.params.bound slot (notice ∷ before) (ap suc (sym at)) (late is) v.queue h.queue.places)
    ]

    accepted_if : (closing : Option FrameParts)
        → ((f : FrameParts) → closing ≡ Some f → is_accepted_by v f ≡ is_accepted scenario.params.bound i (message_in f) (notice ∷ before))
        → if_accepted scenario.params i (notice ∷ before) closing ≡ closing_accepted v closing
    accepted_if None same = refl
    accepted_if (Some f) same = ap (λ b. if b then f ∷ [] else []) (sym (same f refl))

    closing_accepted_is : if_accepted scenario.params i (notice ∷ before) (closing_frame slot v) ≡ closing_accepted v (closing_frame slot v)
    closing_accepted_is =
        accepted_if (closing_frame slot v) (λ f is.
        closing_is_each (λ g. is_accepted_by v g ≡ is_accepted scenario.params.bound i (message_in g) (notice ∷ before)) slot v f
        (Each-weaker _ _ (λ x heard. heard.accepted) v.queue.items heard_each) is)

    pub done_split : done_of scenario.params i (notice ∷ before) (placed_in (scenario.params.bound + 1) (notice ∷ before))
        ≡ closing_accepted v (closing_frame slot v) ++ done_of scenario.params i (notice ∷ before) (placed_in scenario.params.bound (notice ∷ before))
    done_split =
        elim (cases_Bool (nat_lt slot v.bound)) [
          | inl is ↦ rw is (ap (done_of scenario.params i (notice ∷ before)) (placed_all scenario.params.bound (notice ∷ before) (early is)))
          | inr is ↦ rw is (done_of-closing scenario.params i slot (notice ∷ before) (ap suc (sym at)) (late is)
              ∙ ap (λ closing.
              if_accepted scenario.params i (notice ∷ before) closing
              ++ done_of scenario.params i (notice ∷ before) (placed_in scenario.params.bound (notice ∷ before))) (sym (oldest is)))
        ]
        ∙ ap (λ frames. frames ++ done_of scenario.params i (notice ∷ before) (placed_in scenario.params.bound (notice ∷ before))) closing_accepted_is

    withdraws : (closing : Option FrameParts) → closing_actions scenario.params.format closing ≡ actions_of scenario.params.format (withdrawal_of closing)
    withdraws None = refl
    withdraws (Some f) = refl

    pub closing_actions_are : closing_actions v.format (closing_frame slot v) ≡ actions_of scenario.params.format (closing_effects scenario.params.bound (notice ∷ before))
    closing_actions_are =
        ap (λ format. closing_actions format (closing_frame slot v)) h.limits.format
        ∙ withdraws (closing_frame slot v)
        ∙ ap (actions_of scenario.params.format) (elim (cases_Bool (nat_lt slot v.bound)) [
          | inl is ↦ rw is (sym (closing_none scenario.params.bound (notice ∷ before) (early is)))
          | inr is ↦ rw is (ap withdrawal_of (oldest is) ∙ sym (closing_is scenario.params.bound slot (notice ∷ before) (ap suc (sym at)) (late is)))
        ])

    -- those that are done without it
    rest_done : (P : Placed → Type 0) (place : ℕ) (q : OpenParts) (items : List Placed) → AllByRecursion P (take q.done q.items)
        → AllByRecursion P (take q.done items)
        → AllByRecursion P (take (without_oldest_from place q items).done (without_oldest_from place q items).items)
    rest_done P place q [] here all = here
    rest_done P place q (x ∷ items) here all = go (x.place == place)
      where
        fewer : (n : ℕ) → AllByRecursion P (take n (x ∷ items)) → AllByRecursion P (take (n - 1) items)
        fewer zero done = tt
        fewer (suc n) done = let less : suc n - 1 ≡ n = omega arith in rw less done.1

        go : (b : Bool)
            → AllByRecursion P (take (if b then record q { items = items; done = q.done - 1 } else q).done (if b then record q { items = items; done = q.done - 1 } else q).items)
        go true = fewer q.done all
        go false = here

    pub closed_done : (P : Placed → Type 0) → AllByRecursion P (take v.queue.done v.queue.items)
        → AllByRecursion P (take (without_closing slot v).queue.done (without_closing slot v).queue.items)
    closed_done P done = go (nat_lt slot v.bound)
      where
        go : (b : Bool)
            → AllByRecursion P (take (if b then v.queue else without_oldest (slot - v.bound) v.queue).done (if b then v.queue else without_oldest (slot - v.bound) v.queue).items)
        go true = done
        go false = rest_done P (slot - v.bound) v.queue v.queue.items done done
