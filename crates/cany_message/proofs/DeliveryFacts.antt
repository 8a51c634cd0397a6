-- The actions of a delivery, and of effects one after another.
use Rattle.std.proofs.Common.{◌≡◌, ℕ, ◌==◌, ◌&&◌, Bool, true, false, if◌then◌else◌, not, List, [], ◌∷◌, ◌++◌, length, refl, ap, sym, ◌∙◌, append_assoc}
use Rattle.std.specs.List.{list_any}
use Rattle.std.proofs.lemmas.List.{map-append, append-nil}
use Rattle.cany_base.specs.declared.actions.Action.{Action}
use Rattle.cany_base.specs.declared.format.Format.{Format}
use Rattle.cany_base.specs.declared.message.Service.{Service}
use Rattle.cany_base.specs.declared.notice.NoticeKind.{NoticeKind}
use Rattle.cany_base.specs.declared.notice.NoticeKind.TheVariants.{Got, Sent}
use Rattle.cany_base.specs.Frame.{FrameParts}
use Rattle.cany_model.specs.Bus.Frames.{identity_of}
use Rattle.cany_model.specs.Rules.Actions.{action_of, actions_of}
use Rattle.cany_model.specs.Rules.Delivery.{brings, delivery, delivery_effects, is_delivery}
use Rattle.cany_model.specs.Rules.Effect.{Effect, Enter}
use Rattle.cany_model.proofs.Bus.Identities.{same_identity_self}
use Rattle.cany_message.specs.Actions.{delivery_actions}

module _ (format : Format) where
  delivery_if : (by : Service) (slot : ℕ) (f : FrameParts) (b : Bool) → actions_of format (if b then Enter (delivery slot by f) ∷ [] else []) ≡ delivery_actions by slot b f
  delivery_if by slot f true = refl
  delivery_if by slot f false = refl

  -- with or without a delivery before
  module _ (by : Service) (i : ℕ) (past : List NoticeKind) (f : FrameParts) (before : Bool) (is : list_any (brings i (identity_of f)) past ≡ before) where
    pub delivery_got : actions_of format (delivery_effects by i f (Got f) past) ≡ delivery_actions by (length past) (not before) f
    unfolding delivery_effects
    delivery_got =
        delivery_if by (length past) f (is_delivery i f (Got f) past)
        ∙ ap (λ b. delivery_actions by (length past) b f) (rw (same_identity_self (identity_of f), is) refl)

    pub delivery_sent : actions_of format (delivery_effects by i f (Sent f) past) ≡ delivery_actions by (length past) (f.node == i && not before) f
    unfolding delivery_effects
    delivery_sent =
        delivery_if by (length past) f (is_delivery i f (Sent f) past)
        ∙ ap (λ b. delivery_actions by (length past) b f) (rw (same_identity_self (identity_of f), is) (both (f.node == i) (not before)))
      where
        both : (own new : Bool) → ((own && true) && new) ≡ (own && new)
        both true new = refl
        both false new = refl

  -- ---- effects, as actions after those before

  pub both_actions : (before : List Action) (x y : List Effect) (a b : List Action) → actions_of format x ≡ a → actions_of format y ≡ b
      → (before ++ a) ++ b ≡ before ++ actions_of format (x ++ y)
  both_actions before x y a b is_a is_b =
      append_assoc before a b
      ∙ ap (λ actions. before ++ actions) (sym (map-append (action_of format) x y ∙ ap (λ actions. actions ++ actions_of format y) is_a ∙ ap (λ actions. a ++ actions) is_b))

  pub no_actions : (before : List Action) (x : List Effect) → x ≡ [] → before ≡ before ++ actions_of format x
  no_actions before x none = sym (ap (λ effects. before ++ actions_of format effects) none ∙ append-nil before)
