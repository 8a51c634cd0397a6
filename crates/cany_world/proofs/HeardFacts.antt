-- What an incarnation hears of a slot is what the slot, as it sees it, gave its node, with an error
-- as an idle slot.
use Rattle.std.proofs.Common.{◌≡◌, ℕ, zero, suc, ◌<◌, ◌==◌, ◌&&◌, ◌||◌, ◌⊎◌, inl, inr, not, nat_lt, Option, Some, None, refl, ap, sym, ◌∙◌, arith}
use Rattle.std.proofs.lemmas.Bool.{cases_Bool, cond_both, eq-eqb}
use Rattle.cany_base.specs.declared.notice.NoticeKind.{NoticeKind}
use Rattle.cany_base.specs.declared.notice.NoticeKind.TheVariants.{Idle}
use Rattle.cany_base.specs.declared.slot_note.SlotNote.{SlotNote}
use Rattle.cany_base.specs.Frame.{FrameParts}
use Rattle.cany_base.specs.Nodes.{has}
use Rattle.cany_base.specs.Scenario.{ScenarioParts}
use Rattle.cany_model.specs.Bus.History.{as_seen, carries_early, given, is_hidden}
use Rattle.cany_model.specs.Bus.Slot.{is_success, share_of}
use Rattle.cany_model.specs.Bus.State.{Incarnation}
use Rattle.cany_model.specs.Rules.Notices.{error_as_idle, is_early}
use Rattle.cany_model.specs.Rules.Turn.{scenario_for}
use Rattle.cany_model.proofs.Bus.Seen.{seen_idle, seen_plain}
use Rattle.cany_model.proofs.Promises.OwnSlotsAlone.{from_later}
use Rattle.cany_node.specs.Node.{heard}

-- a notice of no frame, or one that shows whether the slot carried an early vector
early_or_plain : (i cycle : ℕ) (note : SlotNote) → (error_as_idle (given i note) ≡ Idle) ⊎ (is_early cycle (given i note) ≡ carries_early cycle note)
unfolding share_of
early_or_plain i cycle note = by_frame note.frame refl
  where
    by_frame : (o : Option FrameParts) → note.frame ≡ o → (error_as_idle (given i note) ≡ Idle) ⊎ (is_early cycle (given i note) ≡ carries_early cycle note)
    by_frame None e = inl (rw e refl)
    by_frame (Some f) e = elim (cases_Bool (has note.senders i)) [
      | inl sends ↦ elim (cases_Bool (is_success note.verdict)) [
        | inl success ↦ inr (rw (e, sends, success) refl)
        | inr error ↦ inl (rw (e, sends, error) refl)
      ]
      | inr receives ↦ elim (cases_Bool (has note.takers i)) [
        | inl takes ↦ inr (rw (e, receives, takes) refl)
        | inr rejects ↦ inl (rw (e, receives, rejects) refl)
      ]
    ]

-- where the slot gave no frame the incarnation sees and hears an idle one
seen_without_frame : (i : ℕ) (inc : Incarnation) (note : SlotNote) → error_as_idle (given i note) ≡ Idle → error_as_idle (given i (as_seen inc note)) ≡ Idle
seen_without_frame i inc note no_frame = elim (cases_Bool (is_hidden inc note)) [
  | inl hidden ↦ ap error_as_idle (seen_idle i inc note hidden)
  | inr plain ↦ ap (λ n. error_as_idle (given i n)) (seen_plain inc note plain) ∙ no_frame
]

heard_without_frame : (number from cycle slot : ℕ) (kind : NoticeKind) → error_as_idle kind ≡ Idle → heard number from cycle slot kind ≡ Idle
heard_without_frame number from cycle slot kind no_frame =
    cond_both (not (number == 0) && (nat_lt slot from || is_early cycle kind)) Idle (error_as_idle kind) (λ k. k ≡ Idle) (λ _. refl) (λ _. no_frame)

heard-is : (i : ℕ) (inc : Incarnation) (note : SlotNote) → error_as_idle (given i (as_seen inc note)) ≡ heard inc.number inc.from inc.cycle note.slot (given i note)
unfolding is_hidden
heard-is i inc note = elim (early_or_plain i inc.cycle note) [
  | inl no_frame ↦ seen_without_frame i inc note no_frame ∙ sym (heard_without_frame inc.number inc.from inc.cycle note.slot (given i note) no_frame)
  | inr early ↦ elim (cases_Bool (is_hidden inc note)) [
    | inl hidden ↦ ap error_as_idle (seen_idle i inc note hidden) ∙ sym (rw (early, hidden) refl)
    | inr plain ↦ ap (λ n. error_as_idle (given i n)) (seen_plain inc note plain) ∙ sym (rw (early, plain) refl)
  ]
]

-- the incarnation of the opening hears everything
heard-original : (inc from cycle slot : ℕ) (kind : NoticeKind) → inc ≡ 0 → heard inc from cycle slot kind ≡ error_as_idle kind
heard-original inc from cycle slot kind first = rw (eq-eqb inc 0 first) refl

-- the same of a node that follows the scenario as the incarnation does
pub heard-followed : (scenario : ScenarioParts) (i : ℕ) (inc : Incarnation) (note : SlotNote) (number from cycle : ℕ) → number ≡ inc.number
    → from ≡ (scenario_for scenario inc).from → (0 < inc.number → cycle ≡ inc.cycle)
    → error_as_idle (given i (as_seen inc note)) ≡ heard number from cycle note.slot (given i note)
heard-followed scenario i inc note number from cycle is starts since = by_number inc.number refl
  where
    by_number : (n : ℕ) → inc.number ≡ n → error_as_idle (given i (as_seen inc note)) ≡ heard number from cycle note.slot (given i note)
    by_number zero first =
        heard-is i inc note ∙ heard-original inc.number inc.from inc.cycle note.slot (given i note) first
        ∙ sym (heard-original number from cycle note.slot (given i note) (is ∙ first))
    by_number (suc n) later =
        let at : from ≡ inc.from = starts ∙ from_later scenario inc (omega (arith, later)) in
        let with_cycle : cycle ≡ inc.cycle = since (omega (arith, later)) in
        heard-is i inc note ∙ rw (is, at, with_cycle) refl
