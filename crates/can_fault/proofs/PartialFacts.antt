-- Each Partial slot uses a rule of its own.
use Rattle.std.proofs.Common.{◌≡◌, ℕ, suc, ◌+◌, ◌<◌, ◌≤◌, ◌&&◌, Bool, true, false, inl, inr, List, [], ◌∷◌, Option, Some, None, refl, ap, sym, ◌∙◌, arith, length}
use Rattle.std.specs.Prelude.{nat_lt, nat_le, IfSome}
use Rattle.std.specs.List.{find, count_by}
use Rattle.std.specs.Option.{option_or, option_map_or}
use Rattle.std.proofs.lemmas.Bool.{false≢true, cases_Bool, lt-ltb, le-ltb, ltb-true, leb-true, le-leb, lt-leb}
use Rattle.std.proofs.lemmas.List.Sums.{count_by-le-length}
use Rattle.cany_base.specs.declared.rule.Place.{Place}
use Rattle.cany_base.specs.declared.rule.Place.TheVariants.{At, FrameNth}
use Rattle.cany_base.specs.declared.rule.Rule.{Rule}
use Rattle.cany_base.specs.declared.slot_note.SlotNote.{SlotNote}
use Rattle.cany_base.specs.Frame.{FrameParts}
use Rattle.cany_base.specs.Scenario.{same_place}
use Rattle.cany_base.proofs.PlaceFacts.{same_place-true}
use Rattle.cany_model.specs.Bus.Frames.{Identity, identity_of, is_of}
use Rattle.cany_model.specs.Promises.Hypothesis.{is_partial}
use Rattle.cany_model.specs.Bus.Slot.{ruling_of, script, carried, attempts, slot_rule, frame_rule}
use Rattle.cany_model.proofs.Bus.Identities.{same_identity_self}
use Rattle.can_fault.specs.Rules.{IsRuledBy}
use Rattle.can_fault.specs.Tally.{is_partial_slot}
use Rattle.cany_model.proofs.Among.{count-yes, count-no, count-grows}
use Rattle.can_fault.proofs.AttemptFacts.{one_more}

-- whether a rule with the place can act no more
abbrev is_past : List SlotNote → Place → Bool
is_past trace (At slot) = nat_lt slot (length trace)
is_past trace (FrameNth class number node nth) = nat_le nth (attempts (record { class = class; number = number; node = node }) trace)

still_past : (note : SlotNote) (before : List SlotNote) (place : Place) → is_past before place ≡ true → is_past (note ∷ before) place ≡ true
still_past note before (At slot) h = lt-ltb slot (suc (length before)) (omega (arith, ltb-true slot (length before) h))
still_past note before (FrameNth class number node nth) h =
    let x : Identity = record { class = class; number = number; node = node } in
    le-leb nth (attempts x (note ∷ before)) (omega (arith, leb-true nth (attempts x before) h, count-grows (carried (is_of x)) note before))

-- ---- tests that grow

some_none : (r : Rule) → None ≡ Some r → ⊥
some_none r h = cc

counts_more : (p q : Rule → Bool) → ((r : Rule) → p r ≡ true → q r ≡ true) → (rules : List Rule) → count_by p rules ≤ count_by q rules
counts_more p q grow [] = omega arith
counts_more p q grow (r ∷ rules) = elim (cases_Bool (p r)) [
  | inl here ↦ omega (arith, counts_more p q grow rules, count-yes p r rules here, count-yes q r rules (grow r here))
  | inr other ↦ omega (arith, counts_more p q grow rules, count-no p r rules other, count-grows q r rules)
]

-- a rule that is found and that only the second test passes
found_counts : (p q test : Rule → Bool) → ((r : Rule) → p r ≡ true → q r ≡ true) → ((r : Rule) → test r ≡ true → (p r ≡ false) × (q r ≡ true))
    → (rules : List Rule) (r : Rule) → find test rules ≡ Some r → count_by p rules < count_by q rules
found_counts p q test grow apart [] r h = absurd (some_none r h)
found_counts p q test grow apart (x ∷ rules) r h = elim (cases_Bool (test x)) [
  | inl here ↦
      let new = apart x here in
      omega (arith, counts_more p q grow rules, count-no p x rules new.0, count-yes q x rules new.1)
  | inr other ↦
      let rest = found_counts p q test grow apart rules r (rw other at h) in
      elim (cases_Bool (p x)) [
        | inl one ↦ omega (arith, rest, count-yes p x rules one, count-yes q x rules (grow x one))
        | inr two ↦ omega (arith, rest, count-no p x rules two, count-grows q x rules)
      ]
]

-- ---- the rule of a Partial slot

abbrev past_rules : List Rule → List SlotNote → ℕ
past_rules rules trace = count_by (λ r. is_past trace r.place) rules

slot_used : (rules : List Rule) (note : SlotNote) (before : List SlotNote) (r : Rule) → slot_rule rules (length before) ≡ Some r → past_rules rules before < past_rules rules (note ∷ before)
slot_used rules note before r found =
    found_counts (λ r. is_past before r.place) (λ r. is_past (note ∷ before) r.place) (λ r. same_place r.place (At (length before)))
    (λ r. still_past note before r.place)
    (λ r here.
    let at : r.place ≡ At (length before) = same_place-true r.place (At (length before)) here in
    (ap (is_past before) at ∙ le-ltb (length before) (length before) (omega arith), ap (is_past (note ∷ before)) at ∙ lt-ltb (length before) (suc (length before)) (omega arith)))
    rules r found

attempt_used : (rules : List Rule) (note : SlotNote) (before : List SlotNote) (f : FrameParts) (r : Rule) → note.frame ≡ Some f
    → frame_rule rules (identity_of f) (attempts (identity_of f) before + 1) ≡ Some r → past_rules rules before < past_rules rules (note ∷ before)
attempt_used rules note before f r frame found =
    let x = identity_of f in
    let n = attempts x before in
    let place = FrameNth f.class f.number f.node (n + 1) in
    let more : attempts x (note ∷ before) ≡ n + 1 = one_more x before note f frame (same_identity_self x) in
    found_counts (λ r. is_past before r.place) (λ r. is_past (note ∷ before) r.place) (λ r. same_place r.place place)
    (λ r. still_past note before r.place)
    (λ r here.
    let at : r.place ≡ place = same_place-true r.place place here in
    (ap (is_past before) at ∙ lt-leb (n + 1) n (omega arith), ap (is_past (note ∷ before)) at ∙ le-leb (n + 1) (attempts x (note ∷ before)) (omega arith)))
    rules r found

one_of : (a b : Option Rule) {G : Type 0} → ((r : Rule) → a ≡ Some r → G) → ((r : Rule) → b ≡ Some r → G) → is_partial (ruling_of (option_or a b)).verdict ≡ true → G
one_of (Some r) b first second h = first r refl
one_of None (Some r) first second h = second r refl
one_of None None first second h = absurd (false≢true h)

ruled_partial : (rules : List Rule) (note : SlotNote) (before : List SlotNote) (f : FrameParts) → note.frame ≡ Some f → is_partial note.verdict ≡ true → note.verdict ≡ (script rules before (Some f)).verdict
    → past_rules rules before < past_rules rules (note ∷ before)
unfolding script
ruled_partial rules note before f frame partial ruled =
    one_of (slot_rule rules (length before)) (frame_rule rules (identity_of f) (attempts (identity_of f) before + 1))
    (slot_used rules note before) (λ r. attempt_used rules note before f r frame) (ap is_partial (sym ruled) ∙ partial)

partial_uses : (rules : List Rule) (note : SlotNote) (before : List SlotNote) (frame : Option FrameParts) → note.frame ≡ frame → IfSome frame (λ f. note.verdict ≡ (script rules before (Some f)).verdict)
    → (option_map_or (λ f. true) frame false && is_partial note.verdict) ≡ true → past_rules rules before < past_rules rules (note ∷ before)
partial_uses rules note before None e ruled h = absurd (false≢true h)
partial_uses rules note before (Some f) e ruled h = ruled_partial rules note before f e h ruled

-- so many rules can act no more
partials_past : (rules : List Rule) (trace : List SlotNote) → IsRuledBy rules trace → count_by is_partial_slot trace ≤ past_rules rules trace
partials_past rules [] h = omega arith
partials_past rules (note ∷ before) h = elim (cases_Bool (is_partial_slot note)) [
  | inl partial ↦
      omega (arith, partials_past rules before h.1, count-yes is_partial_slot note before partial, partial_uses rules note before note.frame refl h.0 partial)
  | inr other ↦
      omega (arith, partials_past rules before h.1, count-no is_partial_slot note before other, counts_more (λ r. is_past before r.place) (λ r. is_past (note ∷ before) r.place) (λ r. still_past note before r.place) rules)
]

pub fewer_than_rules : (rules : List Rule) (trace : List SlotNote) (note : SlotNote) → IsRuledBy rules (note ∷ trace) → is_partial_slot note ≡ true → count_by is_partial_slot trace < length rules
fewer_than_rules rules trace note h partial =
    omega (arith, partials_past rules trace h.1, partial_uses rules note trace note.frame refl h.0 partial, count_by-le-length (λ (r : Rule). is_past (note ∷ trace) r.place) rules)
