-- One action after another.
use Rattle.std.proofs.Common.{◌≡◌, ℕ, zero, suc, ◌+◌, ◌<◌, List, [], ◌∷◌, ◌++◌, length, take, drop, get_or, refl, ap, sym, ◌∙◌, arith, append_assoc, append-nil}
use Rattle.cany_base.specs.declared.actions.Action.{Action}
use Rattle.cany_base.specs.declared.actions.Action.TheVariants as action
use Rattle.cany_base.specs.declared.format.Format.{Format}
use Rattle.cany_base.specs.declared.log_entry.LogEntry.{LogEntry}
use Rattle.cany_base.specs.Bounded.{Bounded}
use Rattle.cany_base.specs.Frame.{FrameParts}
use Rattle.cany_model.specs.Rules.Actions.{ident_of, action_of, actions_of}
use Rattle.cany_model.specs.Rules.Effect.{Effect, Ask, Withdraw, Enter, waiting_after, entered}
use Rattle.cany_model.specs.Bus.Frames.{Identity}
use Rattle.cany_model.specs.Bus.Waiting.{with_frame, without}
use Rattle.cany_model.proofs.Rules.Services.DeliveryFacts.{entered-append}
use Rattle.can_controller.specs.Controller.{ControllerState}
use Rattle.cany_node.specs.Apply.{AreDone, all_stamped}
use Rattle.cany_node.specs.Stamping.{with_incarnation}

pub waiting-append : (first rest : List Effect) (w : List FrameParts)
    → waiting_after (first ++ rest) w ≡ waiting_after rest (waiting_after first w)
unfolding waiting_after
waiting-append [] rest w = refl
waiting-append (Ask f ∷ first) rest w = waiting-append first rest (with_frame f w)
waiting-append (Withdraw x ∷ first) rest w = waiting-append first rest (without x w)
waiting-append (Enter entry ∷ first) rest w = waiting-append first rest w

-- ---- one effect

pub done-ask : (format : Format) (inc : ℕ) (f stamped : FrameParts) (effect : Effect) (ctl ctl' : ControllerState) (log log' : Bounded LogEntry)
    → action_of format effect ≡ action.Ask f → stamped ≡ with_incarnation inc f → ctl' ≡ record ctl { waiting = with_frame stamped ctl.waiting }
    → log' ≡ log
    → AreDone (all_stamped inc (effect ∷ [])) ctl ctl' log log'
unfolding waiting_after entered
done-ask format inc f stamped (Ask g) ctl ctl' log log' e tells is same =
    let frame : g ≡ f = cc in
    record {
      controller = is ∙ ap (λ (h : FrameParts). record ctl { waiting = with_frame h ctl.waiting }) (tells ∙ ap (with_incarnation inc) (sym frame));
      entries = ap (λ (b : Bounded LogEntry). b.items) same ∙ sym (append-nil log.items);
      room = ap (λ (b : Bounded LogEntry). b.room) same;
    }
done-ask format inc f stamped (Withdraw x) ctl ctl' log log' e tells is same = absurd (cc)
done-ask format inc f stamped (Enter entry) ctl ctl' log log' e tells is same = absurd (cc)

pub done-withdraw : (format : Format) (inc ident : ℕ) (effect : Effect) (ctl ctl' : ControllerState) (log log' : Bounded LogEntry)
    → action_of format effect ≡ action.Withdraw ident
    → ((x : Identity) → effect ≡ Withdraw x → ident_of format x ≡ ident → ctl' ≡ record ctl { waiting = without x ctl.waiting })
    → log' ≡ log
    → AreDone (all_stamped inc (effect ∷ [])) ctl ctl' log log'
unfolding waiting_after entered
done-withdraw format inc ident (Withdraw x) ctl ctl' log log' e is same =
    let number : ident_of format x ≡ ident = cc in
    record {
      controller = is x refl number;
      entries = ap (λ (b : Bounded LogEntry). b.items) same ∙ sym (append-nil log.items);
      room = ap (λ (b : Bounded LogEntry). b.room) same;
    }
done-withdraw format inc ident (Ask g) ctl ctl' log log' e is same = absurd (cc)
done-withdraw format inc ident (Enter entry) ctl ctl' log log' e is same = absurd (cc)

pub done-enter : (format : Format) (inc : ℕ) (entry : LogEntry) (effect : Effect) (ctl ctl' : ControllerState) (log log' : Bounded LogEntry)
    → action_of format effect ≡ action.Enter entry → ctl' ≡ ctl → log' ≡ record { items = log.items ++ entry ∷ []; room = log.room }
    → AreDone (all_stamped inc (effect ∷ [])) ctl ctl' log log'
unfolding waiting_after entered
done-enter format inc entry (Enter made) ctl ctl' log log' e is same =
    let one : made ≡ entry = cc in
    record {
      controller = is;
      entries = ap (λ (b : Bounded LogEntry). b.items) same ∙ ap (λ m. log.items ++ m ∷ []) (sym one);
      room = ap (λ (b : Bounded LogEntry). b.room) same;
    }
done-enter format inc entry (Ask g) ctl ctl' log log' e is same = absurd (cc)
done-enter format inc entry (Withdraw x) ctl ctl' log log' e is same = absurd (cc)

-- ---- one after another

pub done-none : (ctl : ControllerState) (log : Bounded LogEntry) → AreDone [] ctl ctl log log
unfolding waiting_after entered
done-none ctl log = record { controller = refl; entries = sym (append-nil log.items); room = refl }

pub done-then : (first rest : List Effect) (a b c : ControllerState) (x y z : Bounded LogEntry) → AreDone first a b x y
    → AreDone rest b c y z
    → AreDone (first ++ rest) a c x z
done-then first rest a b c x y z one two = record {
  controller =
      two.controller ∙ ap (λ (s : ControllerState). record s { waiting = waiting_after rest s.waiting }) one.controller
      ∙ ap (λ (w : List FrameParts). record a { waiting = w }) (sym (waiting-append first rest a.waiting));
  entries =
      two.entries ∙ ap (λ items. items ++ entered rest) one.entries ∙ append_assoc x.items (entered first) (entered rest)
      ∙ ap (λ items. x.items ++ items) (sym (entered-append first rest));
  room = two.room ∙ one.room;
}

-- the effect at a place, and those before and after it
pub record Stands (format : Format) (effects : List Effect) (i : ℕ) (a : Action) : Type 0 where
  pub effect : Effect
  pub action : action_of format effect ≡ a
  pub taken : take (i + 1) effects ≡ take i effects ++ effect ∷ []
  pub whole : effects ≡ take i effects ++ effect ∷ drop (i + 1) effects

pub stands : (format : Format) (effects : List Effect) (i : ℕ) (a : Action) → i < length effects
    → a ≡ get_or (actions_of format effects) i a → Stands format effects i a
stands format [] i a within is = absurd (omega arith)
stands format (effect ∷ effects) zero a within is = record { effect = effect; action = sym is; taken = refl; whole = refl }
stands format (first ∷ effects) (suc i) a within is =
    let rest = stands format effects i a (omega arith) is in
    let next : suc i + 1 ≡ suc (i + 1) = omega arith in
    record {
      effect = rest.effect;
      action = rest.action;
      taken = ap (λ n. take n (first ∷ effects)) next ∙ ap (λ t. first ∷ t) rest.taken;
      whole = ap (λ t. first ∷ t) rest.whole ∙ ap (λ n. first ∷ (take i effects ++ rest.effect ∷ drop n (first ∷ effects))) (sym next);
    }
