-- The outcome of arbitration once a node more has entered its offer.
use Rattle.std.proofs.Common.{◌≡◌, ◌≢◌, ℕ, ◌<◌, ◌≤◌, ◌==◌, ◌||◌, Bool, true, false, Some, None, arith, inl, inr, refl, ap, sym, ◌∙◌}
use Rattle.std.specs.Prelude.{Option}
use Rattle.std.proofs.lemmas.Bool.{cases_eq, cases_lt, eq-eqb, ne_eqb, false≢true}
use Rattle.std.proofs.lemmas.Option.{same_Some}
use Rattle.cany_base.specs.declared.format.Format.{Format}
use Rattle.cany_base.specs.Frame.{FrameParts, key_of}
use Rattle.cany_base.specs.Nodes.{Nodes, has}
use Rattle.can_arbiter.specs.Outcome.{AreSendersAmong, IsEntered, Wins}

or_at : (a b : Bool) → b ≡ true → (a || b) ≡ true
or_at true b e = refl
or_at false b e = e

or_apart : (a b : Bool) → b ≡ false → (a || b) ≡ a
or_apart true b e = refl
or_apart false b e = e

one_key : (format : Format) (f g : FrameParts) → f ≡ g → key_of format f ≡ key_of format g
one_key format f g e = ap (key_of format) e

module _ (format : Format) (before after : ℕ → Option FrameParts) (node : ℕ) (g : FrameParts) (entered : IsEntered node (Some g) before after) where
  -- who offered before is a lesser node
  lesser : (k : ℕ) (r : FrameParts) → before k ≡ Some r → k < node
  lesser k r e = elim (cases_lt k node) [
    | inl below ↦ below
    | inr above ↦ let none : None ≡ Some r = sym (entered.last k above) ∙ e in cc
  ]

  apart : (k : ℕ) (r : FrameParts) → before k ≡ Some r → k ≢ node
  apart k r e same = omega (arith, lesser k r e, same)

  stays : (k : ℕ) (r : FrameParts) → before k ≡ Some r → after k ≡ Some r
  stays k r e = entered.others k (apart k r e) ∙ e

  here : (k : ℕ) (r : FrameParts) → k ≡ node → after k ≡ Some r → g ≡ r
  here k r at e = same_Some g r (sym entered.here ∙ ap after (sym at) ∙ e)

  -- the frame that wins goes on to win
  still_wins : (f : FrameParts) → Wins format before f → key_of format f ≤ key_of format g → Wins format after f
  still_wins f wins more = record {
    node = wins.node;
    offered = stays wins.node f wins.offered;
    least_key = λ k r e. elim (cases_eq k node) [
      | inl at ↦ omega (arith, more, one_key format g r (here k r at e))
      | inr other ↦ wins.least_key k r (sym (entered.others k other) ∙ e)
    ];
    least_node = λ k r e same. elim (cases_eq k node) [
      | inl at ↦ omega (arith, at, lesser wins.node f wins.offered)
      | inr other ↦ wins.least_node k r (sym (entered.others k other) ∙ e) same
    ];
  }

  -- the node offers the frame that wins
  pub joins : (f : FrameParts) (old new : Nodes) → Wins format before f × AreSendersAmong before f old → g ≡ f
      → ((k : ℕ) → has new k ≡ (has old k || k == node)) → Wins format after f × AreSendersAmong after f new
  joins f old new was same step = (
    still_wins f was.0 (omega (arith, one_key format g f same)),
    λ k. (
      (λ h. elim (cases_eq k node) [
        | inl at ↦ ap after at ∙ entered.here ∙ ap (λ x. Some x) same
        | inr other ↦ stays k f ((was.1 k).0 (sym (or_apart (has old k) (k == node) (ne_eqb k node other)) ∙ sym (step k) ∙ h))
      ]),
      (λ e. elim (cases_eq k node) [
        | inl at ↦ step k ∙ or_at (has old k) (k == node) (eq-eqb k node at)
        | inr other ↦ step k ∙ or_apart (has old k) (k == node) (ne_eqb k node other) ∙ (was.1 k).1 (sym (entered.others k other) ∙ e)
      ]),
    ),
  )

  -- the node offers another frame, of no lesser key
  pub keeps : (f : FrameParts) (senders : Nodes) → Wins format before f × AreSendersAmong before f senders → (g ≡ f → ⊥) → key_of format f ≤ key_of format g
      → Wins format after f × AreSendersAmong after f senders
  keeps f senders was differ more = (
    still_wins f was.0 more,
    λ k. (
      (λ h. stays k f ((was.1 k).0 h)),
      (λ e. elim (cases_eq k node) [
        | inl at ↦ absurd (differ (here k f at e))
        | inr other ↦ (was.1 k).1 (sym (entered.others k other) ∙ e)
      ]),
    ),
  )

  -- the node offers a frame of a lesser key than all before it
  pub takes : (senders : Nodes) → ((k : ℕ) (r : FrameParts) → before k ≡ Some r → key_of format g < key_of format r)
      → ((k : ℕ) → has senders k ≡ (k == node)) → Wins format after g × AreSendersAmong after g senders
  takes senders less step = (
    record {
      node = node;
      offered = entered.here;
      least_key = λ k r e. elim (cases_eq k node) [
        | inl at ↦ omega (arith, one_key format g r (here k r at e))
        | inr other ↦ omega (arith, less k r (sym (entered.others k other) ∙ e))
      ];
      least_node = λ k r e same. elim (cases_eq k node) [
        | inl at ↦ omega (arith, at)
        | inr other ↦ absurd (omega (arith, less k r (sym (entered.others k other) ∙ e), same))
      ];
    },
    λ k. (
      (λ h. elim (cases_eq k node) [
        | inl at ↦ ap after at ∙ entered.here
        | inr other ↦ absurd (false≢true (sym (ne_eqb k node other) ∙ sym (step k) ∙ h))
      ]),
      (λ e. elim (cases_eq k node) [
        | inl at ↦ step k ∙ eq-eqb k node at
        | inr other ↦ let own : key_of format g < key_of format g = less k g (sym (entered.others k other) ∙ e) in absurd (omega (arith, own))
      ]),
    ),
  )
