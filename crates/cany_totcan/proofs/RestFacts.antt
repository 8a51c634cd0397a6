-- An idle notice in whose turn nothing closes and no message is asked for leaves the value as it
-- is.
use Rattle.std.proofs.Common.{◌≡◌, ℕ, ◌-◌, ◌≤◌, ◌==◌, ◌&&◌, ◌||◌, inl, inr, if◌then◌else◌, List, [], ◌∷◌, ◌++◌, length, Option, Some, None, refl, ap, sym, subst, ◌∙◌, arith}
use Rattle.std.specs.Prelude.{nat_lt, option_map, slice_get}
use Rattle.std.proofs.Math.Bool.{or-false}
use Rattle.std.proofs.lemmas.Bool.{cases_Bool}
use Rattle.std.proofs.lemmas.Bool.Decides.{nat_tests}
use Rattle.cany_base.specs.declared.format.Format.{Format}
use Rattle.cany_base.specs.declared.message.MsgKey.{MsgKey}
use Rattle.cany_base.specs.declared.notice.NoticeKind.{NoticeKind}
use Rattle.cany_base.specs.declared.notice.NoticeKind.TheVariants.{Idle}
use Rattle.cany_base.specs.Scenario.{ScenarioParts}
use Rattle.cany_message.proofs.HistoryFacts.{has_own-more}
use Rattle.cany_model.specs.Rules.Actions.{actions_of}
use Rattle.cany_model.specs.Rules.Backlog.{ask_for, next_after}
use Rattle.cany_model.specs.Rules.Effect.{Effect}
use Rattle.cany_model.specs.Rules.Messages.{Message}
use Rattle.cany_model.specs.Rules.Totcan.{is_accepted, is_heard, message_in, tot_of_key, totcan_effects}
use Rattle.cany_model.proofs.Among.{Each-weaker}
use Rattle.cany_totcan.specs.declared.queue.Placed.{Placed}
use Rattle.cany_totcan.specs.Backlog.{next_given}
use Rattle.cany_totcan.specs.Queue.{oldest_from}
use Rattle.cany_totcan.specs.Rests.{Rests}
use Rattle.cany_totcan.specs.Totcan.{HasHeard, IsFirstPending, IsTotcanOf, TotcanParts}
use Rattle.cany_totcan.specs.TotcanSteps.{AreAdded, HaveGone, closing_accepted, closing_actions, closing_frame, due, fresh_of, is_accepted_by, tot_actions, without_closing}
use Rattle.cany_totcan.proofs.ClosedFacts.{heard_each}
use Rattle.cany_totcan.proofs.DoneFacts.{has_accepted}
use Rattle.cany_totcan.proofs.DueFacts.{due-end, due-none, each_at, gone_none}
use Rattle.cany_totcan.proofs.HeardFacts.{heard_idle, nothing_idle}
use Rattle.cany_totcan.proofs.KnownFacts.{closing_kept, nothing_added}
use Rattle.cany_totcan.proofs.NextFacts.{asked_actions, next_actions}
use Rattle.cany_totcan.proofs.TurnFacts.{turn_actions, turn_stands}

-- ---- acceptance

-- an idle notice accepts no message
accepted_idle : (bound i : ℕ) (key : MsgKey) (past : List NoticeKind) → is_accepted bound i key (Idle ∷ past) ≡ is_accepted bound i key past
unfolding is_accepted is_heard
accepted_idle bound i key past = λ k. or-false (is_heard bound key past) k || key.origin == i && has_own-more (tot_of_key key) Idle past k

-- ---- what closes

closing_in : (slot bound : ℕ) (items : List Placed) → (bound ≤ slot → oldest_from (slot - bound) items ≡ None)
    → (if nat_lt slot bound then None else oldest_from (slot - bound) items) ≡ None
closing_in slot bound items none = elim (cases_Bool (nat_lt slot bound)) [
  | inl early ↦ rw early refl
  | inr late ↦ rw late (none (grind (arith, nat_tests, late)))
]

-- nothing does, if the place of the oldest is another
pub closing_none : (slot : ℕ) (v : TotcanParts) → (v.bound ≤ slot → oldest_from (slot - v.bound) v.queue.items ≡ None) → closing_frame slot v ≡ None
closing_none slot v none = closing_in slot v.bound v.queue.items none

-- ---- actions

no_effects : (format : Format) (effects : List Effect) → [] ≡ actions_of format effects → effects ≡ []
no_effects format [] none = refl
no_effects format (effect ∷ effects) none = absurd (cc)

no_next : (format : Format) (next : Option Message) → [] ≡ actions_of format (ask_for next) → next ≡ None
no_next format None none = refl
no_next format (Some m) none = absurd (cc)

-- ---- the turn of an idle notice

module _ (scenario : ScenarioParts) (i : ℕ) (past : List NoticeKind) (messages : List Message) (count : ℕ) (v : TotcanParts)
    (h : IsTotcanOf scenario i past messages count v) where
  heard : HasHeard scenario i Idle past messages count v
  heard = heard_idle scenario i past messages count v h

  each_heard : (n : ℕ) (x : Placed) → slice_get v.queue.items n ≡ Some x → is_accepted_by v x.frame ≡ has_accepted scenario.params i (Idle ∷ past) x
  each_heard n x at =
      each_at (λ y. is_accepted_by v y.frame ≡ has_accepted scenario.params i (Idle ∷ past) y) v.queue.items n x
      (Each-weaker _ _ (λ y is. is.accepted) v.queue.items (heard_each scenario i Idle past messages count v heard)) at

  none_due : due v ≡ []
  none_due = go (slice_get v.queue.items v.queue.done) refl h.pending
    where
      go : (next : Option Placed) → slice_get v.queue.items v.queue.done ≡ next → IsFirstPending scenario.params i past next → due v ≡ []
      go None at pending = due-end v v.queue.done v.queue.items at
      go (Some x) at pending =
          due-none v v.queue.done v.queue.items x.frame (ap (λ o. option_map (λ y. y.frame) o) at)
          (each_heard v.queue.done x at ∙ accepted_idle scenario.params.bound i (message_in x.frame) past ∙ pending)

  module _ (closing : closing_frame (length past) v ≡ None) where
    none_added : AreAdded (closing_accepted v (closing_frame (length past) v)) v.deliveries v.deliveries
    none_added = nothing_added (length past) v closing

    none_gone : HaveGone (length past) (record (without_closing (length past) v) { acceptances = v.acceptances; deliveries = v.deliveries }) v [] []
    none_gone = subst (λ u. HaveGone (length past) u v [] []) (sym (closing_kept (length past) v closing)) (gone_none (length past) v [])

    idle_stands : IsTotcanOf scenario i (Idle ∷ past) messages count v
    idle_stands = turn_stands scenario i Idle past messages count v heard (length past) refl v.acceptances (record { noted = λ key there. refl }) v.deliveries none_added v [] [] none_gone none_due

    none_closed : [] ≡ closing_actions v.format (closing_frame (length past) v)
        ++ tot_actions (length past) (fresh_of v.deliveries (closing_accepted v (closing_frame (length past) v)))
    none_closed = sym (ap (λ o. closing_actions v.format o ++ tot_actions (length past) (fresh_of v.deliveries (closing_accepted v o))) closing)

    idle_effects : totcan_effects scenario i (Idle ∷ past) ≡ []
    idle_effects =
        no_effects scenario.params.format (totcan_effects scenario i (Idle ∷ past))
        (turn_actions scenario i Idle past messages count v heard (length past) refl v.acceptances (record { noted = λ key there. refl }) v.deliveries none_added v [] [] none_gone none_due [] []
        (sym (ap (actions_of scenario.params.format) (nothing_idle scenario i past))) none_closed)

    module _ (none : next_given (length past) v.spacing v.backlog ≡ None) where
      idle_next : next_after scenario.params (Idle ∷ past) messages count ≡ None
      idle_next =
          no_next scenario.params.format (next_after scenario.params (Idle ∷ past) messages count)
          (sym (ap (asked_actions i) none)
          ∙ next_actions scenario i (Idle ∷ past) messages count v.backlog idle_stands.backlog (length past) v.spacing (omega arith) h.limits.spacing
          scenario.params.format)

      pub rests : Rests scenario i past messages count v
      rests = record { stands = idle_stands; effects = idle_effects; none = idle_next }
