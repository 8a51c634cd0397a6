-- What is kept after a slot, by its verdict.
use Rattle.std.proofs.Common.{◌≡◌, ℕ, ◌+◌, Bool, true, false, not, List, ◌∷◌, Some, None, refl, ap, sym, ◌∙◌, length, take, if◌then◌else◌}
use Rattle.std.specs.Bool.{then_some}
use Rattle.std.specs.Prelude.{nat_lt}
use Rattle.cany_base.specs.declared.rule.Verdict.TheVariants.{Clean, Lost, Partial}
use Rattle.cany_base.specs.declared.slot_note.SlotNote.{SlotNote}
use Rattle.cany_base.specs.Frame.{FrameParts}
use Rattle.cany_base.specs.Nodes.{Nodes}
use Rattle.cany_base.specs.Params.{Parameters}
use Rattle.cany_model.specs.declared.breaks.BreakKind.TheVariants as kind
use Rattle.cany_model.specs.Bus.Frames.{identity_of}
use Rattle.cany_model.specs.Promises.Hypothesis.{is_partial, is_error, partial_slots, error_slots, break_at}
use Rattle.can_fault.specs.declared.counts.Counted.{Counted}
use Rattle.can_fault.specs.declared.counts.PartialCounts.{PartialCounts}
use Rattle.can_fault.specs.declared.breaks.Breaks.{Breaks}
use Rattle.can_fault.specs.Counted.{same_counted, counted_of}
use Rattle.can_fault.specs.Counts.{partials_of}
use Rattle.can_fault.specs.Breaks.{IsKeptOf}
use Rattle.can_fault.specs.Window.{Window, is_crowded, error_places}
use Rattle.can_fault.proofs.BreakFacts.{error_is, partials_same, recent_more, crowded_is, break_clean, break_lost, break_partial, unbroken_more, counted_more, break_idle, partials_idle, no_error}
use Rattle.can_fault.proofs.WindowFacts.{places-error, places-other}

-- the newest slot carried the frame
pub record IsNewest (note : SlotNote) (before : List SlotNote) (f : FrameParts) : Type 0 where
  pub frame : note.frame ≡ Some f
  pub slot : note.slot ≡ length before

-- the window after the slot was noted
abbrev pub noted : Window → ℕ → Window
noted window slot = record window { recent = take (window.errors + 1) (slot ∷ window.recent) }

module _ (p : Parameters) (before : List SlotNote) (old : Breaks) (note : SlotNote) (f : FrameParts) (kept : IsKeptOf p before old) (newest : IsNewest note before f) where
  recent_after : (window : Window) → window ≡ noted old.window note.slot → is_error note.verdict ≡ true → window.recent ≡ take (p.errors + 1) (error_places (note ∷ before))
  recent_after window e error =
      ap (λ (w : Window). w.recent) e
      ∙ ap (λ n. take (n + 1) (note.slot ∷ old.window.recent)) kept.errors
      ∙ ap (λ r. take (p.errors + 1) (note.slot ∷ r)) kept.recent
      ∙ recent_more p.errors note.slot (error_places before)
      ∙ ap (λ r. take (p.errors + 1) r) (sym (places-error note before (error_is note f newest.frame ∙ error)))

  too_many : (window : Window) (crowded : Bool) → window ≡ noted old.window note.slot → crowded ≡ is_crowded window note.slot → is_error note.verdict ≡ true
      → crowded ≡ nat_lt p.errors (error_slots (take (p.bound + p.lag) (note ∷ before)))
  too_many window crowded e flag error =
      flag ∙ crowded_is p note before window (newest.slot, kept.numbered)
      (ap (λ (w : Window). w.errors) e ∙ kept.errors) (ap (λ (w : Window). w.span) e ∙ kept.span) (recent_after window e error)

  then_some_is : (b : Bool) → then_some b kind.Errors ≡ (if b then Some kind.Errors else None)
  then_some_is true = refl
  then_some_is false = refl

  pub clean_breaks : note.verdict ≡ Clean → None ≡ break_at p note before
  clean_breaks v = sym (break_clean p note before f newest.frame v kept.unbroken)

  pub clean_kept : note.verdict ≡ Clean → IsKeptOf p (note ∷ before) old
  clean_kept v = record {
    numbered = (newest.slot, kept.numbered);
    unbroken = unbroken_more p note before kept.unbroken (sym (clean_breaks v));
    omit = kept.omit;
    errors = kept.errors;
    span = kept.span;
    counts = λ x. kept.counts x ∙ sym (partials_same x note before f newest.frame (ap is_partial v));
    recent = kept.recent ∙ ap (λ r. take (p.errors + 1) r) (sym (places-other note before (error_is note f newest.frame ∙ ap is_error v)));
  }

  pub lost_breaks : (window : Window) (crowded : Bool) → note.verdict ≡ Lost → window ≡ noted old.window note.slot → crowded ≡ is_crowded window note.slot
      → then_some crowded kind.Errors ≡ break_at p note before
  lost_breaks window crowded v e flag =
      then_some_is crowded ∙ sym (break_lost p note before f crowded newest.frame v kept.unbroken (too_many window crowded e flag (ap is_error v)))

  pub lost_kept : (window : Window) → note.verdict ≡ Lost → window ≡ noted old.window note.slot → break_at p note before ≡ None
      → IsKeptOf p (note ∷ before) (record { omit = old.omit; counts = old.counts; window = window })
  lost_kept window v e unbroken = record {
    numbered = (newest.slot, kept.numbered);
    unbroken = unbroken_more p note before kept.unbroken unbroken;
    omit = kept.omit;
    errors = ap (λ (w : Window). w.errors) e ∙ kept.errors;
    span = ap (λ (w : Window). w.span) e ∙ kept.span;
    counts = λ x. kept.counts x ∙ sym (partials_same x note before f newest.frame (ap is_partial v));
    recent = recent_after window e (ap is_error v);
  }

  fits_is : (fits : Bool) → fits ≡ nat_lt (partials_of old.counts.items (counted_of (identity_of f))) old.omit → fits ≡ nat_lt (partial_slots (identity_of f) before) p.omit
  fits_is fits e = e ∙ ap (λ n. nat_lt n old.omit) (kept.counts (identity_of f)) ∙ ap (λ n. nat_lt (partial_slots (identity_of f) before) n) kept.omit

  pub omit_breaks : (reject : Nodes) (fits : Bool) → note.verdict ≡ Partial reject → fits ≡ nat_lt (partials_of old.counts.items (counted_of (identity_of f))) old.omit → fits ≡ false
      → Some kind.Omit ≡ break_at p note before
  omit_breaks reject fits v e full =
      let crowded = nat_lt p.errors (error_slots (take (p.bound + p.lag) (note ∷ before))) in
      ap (λ b. if not b then Some kind.Omit else if crowded then Some kind.Errors else None) (sym full) ∙ sym (break_partial p note before f reject fits crowded newest.frame v (fits_is fits e) refl)

  pub partial_breaks : (reject : Nodes) (fits : Bool) (window : Window) (crowded : Bool) → note.verdict ≡ Partial reject → fits ≡ nat_lt (partials_of old.counts.items (counted_of (identity_of f))) old.omit → fits ≡ true
      → window ≡ noted old.window note.slot → crowded ≡ is_crowded window note.slot → then_some crowded kind.Errors ≡ break_at p note before
  partial_breaks reject fits window crowded v e free at flag =
      then_some_is crowded ∙ ap (λ b. if not b then Some kind.Omit else if crowded then Some kind.Errors else None) (sym free)
      ∙ sym (break_partial p note before f reject fits crowded newest.frame v (fits_is fits e) (too_many window crowded at flag (ap is_error v)))

  pub partial_kept : (reject : Nodes) (window : Window) (counts : PartialCounts) → note.verdict ≡ Partial reject → window ≡ noted old.window note.slot → break_at p note before ≡ None
      → ((other : Counted) → partials_of counts.items other ≡ partials_of old.counts.items other + (if same_counted other (counted_of (identity_of f)) then 1 else 0))
      → IsKeptOf p (note ∷ before) (record { omit = old.omit; counts = counts; window = window })
  partial_kept reject window counts v e unbroken counted = record {
    numbered = (newest.slot, kept.numbered);
    unbroken = unbroken_more p note before kept.unbroken unbroken;
    omit = kept.omit;
    errors = ap (λ (w : Window). w.errors) e ∙ kept.errors;
    span = ap (λ (w : Window). w.span) e ∙ kept.span;
    counts = counted_more p note before f old.counts.items counts.items newest.frame (ap is_partial v) kept.counts counted;
    recent = recent_after window e (ap is_error v);
  }

-- ---- an idle slot

module _ (p : Parameters) (before : List SlotNote) (old : Breaks) (note : SlotNote) (kept : IsKeptOf p before old) (idle : note.frame ≡ None) (slot : note.slot ≡ length before) where
  pub idle_breaks : break_at p note before ≡ None
  idle_breaks = break_idle p note before idle kept.unbroken

  pub idle_kept : IsKeptOf p (note ∷ before) old
  idle_kept = record {
    numbered = (slot, kept.numbered);
    unbroken = unbroken_more p note before kept.unbroken idle_breaks;
    omit = kept.omit;
    errors = kept.errors;
    span = kept.span;
    counts = λ x. kept.counts x ∙ sym (partials_idle x note before idle);
    recent = kept.recent ∙ ap (λ r. take (p.errors + 1) r) (sym (places-other note before (no_error note idle)));
  }
