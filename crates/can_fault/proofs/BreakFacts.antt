-- What a slot that carried a frame breaks, and what is kept of it.
use Rattle.std.proofs.Common.{◌≡◌, ℕ, zero, suc, ◌+◌, ◌-◌, ◌==◌, ◌&&◌, Bool, true, false, not, inl, inr, List, [], ◌∷◌, Option, Some, None, refl, ap, sym, ◌∙◌, arith, length, take, if◌then◌else◌, add-one}
use Rattle.std.specs.Prelude.{nat_lt, slice_get}
use Rattle.std.specs.Option.{option_map_or}
use Rattle.std.proofs.lemmas.Bool.{cases_Bool, cases_lt, cond_both, lt-ltb, le-ltb, and_right, eq-eqb}
use Rattle.cany_base.specs.declared.class.Class.TheVariants.{Rha}
use Rattle.cany_base.specs.declared.rule.Verdict.TheVariants.{Clean, Lost, Partial, Silent}
use Rattle.cany_base.specs.declared.slot_note.SlotNote.{SlotNote}
use Rattle.cany_base.specs.Frame.{FrameParts}
use Rattle.cany_base.specs.Nodes.{Nodes}
use Rattle.cany_base.specs.Params.{Parameters}
use Rattle.cany_model.specs.declared.breaks.BreakKind.{BreakKind}
use Rattle.cany_model.specs.declared.breaks.BreakKind.TheVariants as kind
use Rattle.cany_model.specs.Bus.Frames.{Identity, identity_of, same_class, same_identity}
use Rattle.cany_model.specs.Promises.Hypothesis.{IsWithin, is_silent, is_partial, is_error, is_silent_slot, is_error_slot, is_partial_slot_of, count_together, partial_slots, error_slots, break_at, first_break}
use Rattle.cany_model.specs.Bus.Slot.{carried}
use Rattle.cany_model.proofs.Bus.Identities.{same_identity_self}
use Rattle.can_fault.specs.declared.counts.Counted.{Counted}
use Rattle.can_fault.specs.Counted.{same_counted, counted_of}
use Rattle.can_fault.specs.Counts.{partials_of}
use Rattle.can_fault.specs.Window.{Window, IsNumbered, is_crowded, error_places}
use Rattle.cany_model.proofs.Among.{count-yes, count-no}
use Rattle.cany_model.proofs.Promises.BreakFacts.{first_break_exact}
use Rattle.can_fault.proofs.CountedFacts.{together}
use Rattle.can_fault.proofs.WindowFacts.{errors_in_window, quiet_window}

-- ---- what the slot is, by its verdict

silent_is : (note : SlotNote) (f : FrameParts) → note.frame ≡ Some f → is_silent_slot note ≡ is_silent note.verdict
silent_is note f e = ap (λ o. option_map_or (λ (g : FrameParts). true) o false && is_silent note.verdict) e

pub error_is : (note : SlotNote) (f : FrameParts) → note.frame ≡ Some f → is_error_slot note ≡ is_error note.verdict
error_is note f e = ap (λ o. option_map_or (λ (g : FrameParts). true) o false && is_error note.verdict) e

partial_is : (x : Identity) (note : SlotNote) (f : FrameParts) → note.frame ≡ Some f → is_partial_slot_of x note ≡ (count_together x (identity_of f) && is_partial note.verdict)
partial_is x note f e = ap (λ o. option_map_or (λ (g : FrameParts). count_together x (identity_of g)) o false && is_partial note.verdict) e

and_true : (b : Bool) → (b && true) ≡ b
and_true true = refl
and_true false = refl

pub partials_same : (x : Identity) (note : SlotNote) (before : List SlotNote) (f : FrameParts) → note.frame ≡ Some f → is_partial note.verdict ≡ false
    → partial_slots x (note ∷ before) ≡ partial_slots x before
partials_same x note before f e other =
    count-no (is_partial_slot_of x) note before (partial_is x note f e ∙ ap (λ b. count_together x (identity_of f) && b) other ∙ and_right (count_together x (identity_of f)) false refl)

pub partials_more : (x : Identity) (note : SlotNote) (before : List SlotNote) (f : FrameParts) → note.frame ≡ Some f → is_partial note.verdict ≡ true
    → partial_slots x (note ∷ before) ≡ partial_slots x before + (if count_together x (identity_of f) then 1 else 0)
partials_more x note before f e partial =
    let is : is_partial_slot_of x note ≡ count_together x (identity_of f) =
    partial_is x note f e ∙ ap (λ b. count_together x (identity_of f) && b) partial ∙ and_true (count_together x (identity_of f)) in
    elim (cases_Bool (count_together x (identity_of f))) [
      | inl here ↦ rw here (omega (arith, count-yes (is_partial_slot_of x) note before (is ∙ here)))
      | inr apart ↦ rw apart (omega (arith, count-no (is_partial_slot_of x) note before (is ∙ apart)))
    ]

itself : (x : Identity) → count_together x x ≡ true
unfolding count_together
itself x =
    cond_both (same_class x.class Rha) (same_class x.class Rha && x.number == x.number) (same_identity x x) (λ b. b ≡ true)
    (λ rha. rw rha (eq-eqb x.number x.number refl)) (λ _. same_identity_self x)

-- ---- the window that ends at the slot

take_less : (n : ℕ) (xs : List ℕ) → take n (take (suc n) xs) ≡ take n xs
take_less zero xs = refl
take_less (suc n) [] = refl
take_less (suc n) (x ∷ xs) = ap (λ r. x ∷ r) (take_less n xs)

pub recent_more : (n s : ℕ) (places : List ℕ) → take (n + 1) (s ∷ take (n + 1) places) ≡ take (n + 1) (s ∷ places)
recent_more n s places = rw add-one (ap (λ r. s ∷ r) (take_less n places))

last_taken : (n : ℕ) (xs : List ℕ) → slice_get (take (suc n) xs) n ≡ slice_get xs n
last_taken zero [] = refl
last_taken zero (x ∷ xs) = refl
last_taken (suc n) [] = refl
last_taken (suc n) (x ∷ xs) = last_taken n xs

slot_test : (n w : ℕ) (o : Option ℕ) → option_map_or (λ e. nat_lt (n - e) w) o false ≡ option_map_or (λ e. nat_lt (suc n - suc e) w) o false
slot_test n w None = refl
slot_test n w (Some e) = ap (λ m. nat_lt m w) (omega arith)

pub crowded_is : (p : Parameters) (note : SlotNote) (before : List SlotNote) (window : Window) → IsNumbered (note ∷ before)
    → window.errors ≡ p.errors → window.span ≡ p.bound + p.lag → window.recent ≡ take (p.errors + 1) (error_places (note ∷ before))
    → is_crowded window note.slot ≡ nat_lt p.errors (error_slots (take (p.bound + p.lag) (note ∷ before)))
crowded_is p note before window numbered errors span recent =
    let at : slice_get window.recent window.errors ≡ slice_get (error_places (note ∷ before)) p.errors =
    rw (errors, recent, add-one) (last_taken p.errors (error_places (note ∷ before))) in
    ap (λ o. option_map_or (λ e. nat_lt (note.slot - e) window.span) o false) at
    ∙ ap (λ w. option_map_or (λ e. nat_lt (note.slot - e) w) (slice_get (error_places (note ∷ before)) p.errors) false) span
    ∙ ap (λ n. option_map_or (λ e. nat_lt (n - e) (p.bound + p.lag)) (slice_get (error_places (note ∷ before)) p.errors) false) numbered.0
    ∙ slot_test (length before) (p.bound + p.lag) (slice_get (error_places (note ∷ before)) p.errors)
    ∙ sym (errors_in_window (note ∷ before) p.errors (p.bound + p.lag) numbered)

-- ---- what the slot breaks

abbrev shape : Bool → Bool → Bool → Option BreakKind
shape silent omits crowded = if silent then Some kind.Silent else if omits then Some kind.Omit else if crowded then Some kind.Errors else None

break_shape : (p : Parameters) (note : SlotNote) (before : List SlotNote) (f : FrameParts) (s o e : Bool) → note.frame ≡ Some f
    → is_silent note.verdict ≡ s → nat_lt p.omit (partial_slots (identity_of f) (note ∷ before)) ≡ o
    → nat_lt p.errors (error_slots (take (p.bound + p.lag) (note ∷ before))) ≡ e → break_at p note before ≡ shape s o e
unfolding break_at
break_shape p note before f s o e frame silent omits crowded =
    ap (λ b. shape b (carried (λ g. nat_lt p.omit (partial_slots (identity_of g) (note ∷ before))) note) (nat_lt p.errors (error_slots (take (p.bound + p.lag) (note ∷ before))))) (silent_is note f frame ∙ silent)
    ∙ ap (λ b. shape s b (nat_lt p.errors (error_slots (take (p.bound + p.lag) (note ∷ before)))))
    (ap (λ (g : Option FrameParts). option_map_or (λ g. nat_lt p.omit (partial_slots (identity_of g) (note ∷ before))) g false) frame ∙ omits)
    ∙ ap (λ b. shape s o b) crowded

within_of : (p : Parameters) (trace : List SlotNote) → first_break p trace ≡ None → IsWithin p trace
within_of p trace h = (first_break_exact p trace).0 h

few_partials : (p : Parameters) (note : SlotNote) (before : List SlotNote) (f : FrameParts) → note.frame ≡ Some f → first_break p before ≡ None
    → is_partial note.verdict ≡ false → nat_lt p.omit (partial_slots (identity_of f) (note ∷ before)) ≡ false
few_partials p note before f frame unbroken other =
    le-ltb p.omit (partial_slots (identity_of f) (note ∷ before))
    (omega (arith, partials_same (identity_of f) note before f frame other, (within_of p before unbroken).omit (identity_of f)))

few_errors : (p : Parameters) (note : SlotNote) (before : List SlotNote) (f : FrameParts) → note.frame ≡ Some f → first_break p before ≡ None
    → is_error note.verdict ≡ false → nat_lt p.errors (error_slots (take (p.bound + p.lag) (note ∷ before))) ≡ false
few_errors p note before f frame unbroken other =
    le-ltb p.errors (error_slots (take (p.bound + p.lag) (note ∷ before)))
    (omega (arith, quiet_window note before (p.bound + p.lag) (error_is note f frame ∙ other), (within_of p before unbroken).errors 0))

pub break_silent : (p : Parameters) (note : SlotNote) (before : List SlotNote) (f : FrameParts) (reject : Nodes) → note.frame ≡ Some f → note.verdict ≡ Silent reject
    → break_at p note before ≡ Some kind.Silent
break_silent p note before f reject frame v = break_shape p note before f true _ _ frame (ap is_silent v) refl refl

pub break_clean : (p : Parameters) (note : SlotNote) (before : List SlotNote) (f : FrameParts) → note.frame ≡ Some f → note.verdict ≡ Clean → first_break p before ≡ None
    → break_at p note before ≡ None
break_clean p note before f frame v unbroken =
    break_shape p note before f false false false frame (ap is_silent v) (few_partials p note before f frame unbroken (ap is_partial v)) (few_errors p note before f frame unbroken (ap is_error v))

pub break_lost : (p : Parameters) (note : SlotNote) (before : List SlotNote) (f : FrameParts) (crowded : Bool) → note.frame ≡ Some f → note.verdict ≡ Lost → first_break p before ≡ None
    → crowded ≡ nat_lt p.errors (error_slots (take (p.bound + p.lag) (note ∷ before))) → break_at p note before ≡ (if crowded then Some kind.Errors else None)
break_lost p note before f crowded frame v unbroken e =
    break_shape p note before f false false crowded frame (ap is_silent v) (few_partials p note before f frame unbroken (ap is_partial v)) (sym e)

-- whether one more Partial slot is one too many
one_too_many : (a b omit : ℕ) (fits : Bool) → b ≡ a + 1 → fits ≡ nat_lt a omit → nat_lt omit b ≡ not fits
one_too_many a b omit fits more e = elim (cases_lt a omit) [
  | inl less ↦ rw (e, lt-ltb a omit less) (le-ltb omit b (omega arith))
  | inr reached ↦ rw (e, le-ltb a omit reached) (lt-ltb omit b (omega arith))
]

pub break_partial : (p : Parameters) (note : SlotNote) (before : List SlotNote) (f : FrameParts) (reject : Nodes) (fits crowded : Bool) → note.frame ≡ Some f → note.verdict ≡ Partial reject
    → fits ≡ nat_lt (partial_slots (identity_of f) before) p.omit → crowded ≡ nat_lt p.errors (error_slots (take (p.bound + p.lag) (note ∷ before)))
    → break_at p note before ≡ (if not fits then Some kind.Omit else if crowded then Some kind.Errors else None)
break_partial p note before f reject fits crowded frame v fit e =
    let x = identity_of f in
    let more : partial_slots x (note ∷ before) ≡ partial_slots x before + 1 =
    partials_more x note before f frame (ap is_partial v) ∙ ap (λ b. partial_slots x before + (if b then 1 else 0)) (itself x) in
    break_shape p note before f false (not fits) crowded frame (ap is_silent v)
    (one_too_many (partial_slots x before) (partial_slots x (note ∷ before)) p.omit fits more fit) (sym e)

-- ---- what is kept

pub unbroken_more : (p : Parameters) (note : SlotNote) (before : List SlotNote) → first_break p before ≡ None → break_at p note before ≡ None → first_break p (note ∷ before) ≡ None
unfolding first_break
unbroken_more p note before h b = rw (h, b) refl

-- counts of a key in place of those of the frames that it stands for
pub counted_more : (p : Parameters) (note : SlotNote) (before : List SlotNote) (f : FrameParts) (old new : List (Counted × ℕ)) → note.frame ≡ Some f → is_partial note.verdict ≡ true
    → ((x : Identity) → partials_of old (counted_of x) ≡ partial_slots x before)
    → ((other : Counted) → partials_of new other ≡ partials_of old other + (if same_counted other (counted_of (identity_of f)) then 1 else 0))
    → (x : Identity) → partials_of new (counted_of x) ≡ partial_slots x (note ∷ before)
counted_more p note before f old new frame partial counts counted x =
    counted (counted_of x)
    ∙ ap (λ b. partials_of old (counted_of x) + (if b then 1 else 0)) (together x (identity_of f))
    ∙ ap (λ n. n + (if count_together x (identity_of f) then 1 else 0)) (counts x)
    ∙ sym (partials_more x note before f frame partial)

-- ---- an idle slot

pub no_error : (note : SlotNote) → note.frame ≡ None → is_error_slot note ≡ false
no_error note e = ap (λ o. option_map_or (λ (g : FrameParts). true) o false && is_error note.verdict) e

no_silence : (note : SlotNote) → note.frame ≡ None → is_silent_slot note ≡ false
no_silence note e = ap (λ o. option_map_or (λ (g : FrameParts). true) o false && is_silent note.verdict) e

pub partials_idle : (x : Identity) (note : SlotNote) (before : List SlotNote) → note.frame ≡ None → partial_slots x (note ∷ before) ≡ partial_slots x before
partials_idle x note before e =
    count-no (is_partial_slot_of x) note before (ap (λ o. option_map_or (λ (g : FrameParts). count_together x (identity_of g)) o false && is_partial note.verdict) e)

pub break_idle : (p : Parameters) (note : SlotNote) (before : List SlotNote) → note.frame ≡ None → first_break p before ≡ None → break_at p note before ≡ None
unfolding break_at
break_idle p note before idle unbroken =
    let allowed : nat_lt p.errors (error_slots (take (p.bound + p.lag) (note ∷ before))) ≡ false =
    le-ltb p.errors (error_slots (take (p.bound + p.lag) (note ∷ before)))
    (omega (arith, quiet_window note before (p.bound + p.lag) (no_error note idle), (within_of p before unbroken).errors 0)) in
    ap (λ b. shape b (carried (λ g. nat_lt p.omit (partial_slots (identity_of g) (note ∷ before))) note) (nat_lt p.errors (error_slots (take (p.bound + p.lag) (note ∷ before))))) (no_silence note idle)
    ∙ ap (λ b. shape false b (nat_lt p.errors (error_slots (take (p.bound + p.lag) (note ∷ before)))))
    (ap (λ (g : Option FrameParts). option_map_or (λ g. nat_lt p.omit (partial_slots (identity_of g) (note ∷ before))) g false) idle)
    ∙ ap (λ b. shape false false b) allowed

-- ---- the first break

-- a break that is found is the first where there was none
pub broken_next : (p : Parameters) (note : SlotNote) (before : List SlotNote) (what : BreakKind) → first_break p before ≡ None → break_at p note before ≡ Some what
    → first_break p (note ∷ before) ≡ Some (record { kind = what; slot = note.slot })
unfolding first_break
broken_next p note before what h b = rw (h, b) refl
