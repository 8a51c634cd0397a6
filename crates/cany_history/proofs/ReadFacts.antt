-- One notice more: what a value has after it, and what was read of the cycle while its vectors are
-- exchanged.
use Rattle.std.proofs.Common.{◌≡◌, ℕ, ◌+◌, ◌≤◌, inl, inr, ◌==◌, ◌&&◌, ◌||◌, Bool, true, false, not, cond, if◌then◌else◌, List, ◌∷◌, Option, Some, None, IfSome, count_by, refl, ap, sym, ◌∙◌, subst, arith}
use Rattle.std.specs.List.{list_any}
use Rattle.std.proofs.lemmas.Bool.{cases_Bool, eqb-true}
use Rattle.cany_base.specs.declared.notice.NoticeKind.{NoticeKind}
use Rattle.cany_base.specs.declared.notice.NoticeKind.TheVariants.{Idle, Got, Sent, Bad}
use Rattle.cany_base.specs.Frame.{FrameParts}
use Rattle.cany_base.specs.Nodes.{Nodes}
use Rattle.cany_base.specs.Params.{Parameters}
use Rattle.cany_base.proofs.SetFacts.{same_bits}
use Rattle.cany_model.specs.Rules.Notices.{CarriesMore, IsPart, IsReadableVector, IsSentWithMore}
use Rattle.cany_model.specs.Rules.Vectors.{brought, is_just, is_new, is_vector_got, is_vector_sent, met, met_with, vector_in}
use Rattle.cany_base.specs.Cycles.{cycle_of, is_exchange}
use Rattle.cany_model.proofs.Among.{count-cons, count-no}
use Rattle.cany_history.specs.History.{HasMore, HistoryParts, IsExchangeOf, StandsIn}
use Rattle.cany_history.specs.HistorySteps.{after_meeting, after_reading, is_just_own, is_own_vector, met_by}
use Rattle.cany_history.proofs.PastFacts.{new_copies, new_own, smaller_more, vector_frame}
use Rattle.cany_history.proofs.MetFacts.{met_part_got, met_part_own}

-- ---- what a value has after a notice

pub record IsRead (p : Parameters) (own brings : Option Nodes) (v w : HistoryParts) : Type 0 where
  pub node : w.node ≡ v.node
  pub params : w.params ≡ v.params
  pub vector : w.vector ≡ met p own brings
  pub few : w.copies ≤ v.copies + 1

one_more : (b e : Bool) (n : ℕ) → (if b then 0 else n) + (if e then 1 else 0) ≤ n + 1
one_more true true n = omega arith
one_more true false n = omega arith
one_more false true n = omega arith
one_more false false n = omega arith

met_is : (brings : Option Nodes) (v : HistoryParts) → IsRead v.params v.vector brings v (after_meeting brings v)
unfolding after_meeting met
met_is None v = record { node = refl; params = refl; vector = refl; few = omega arith }
met_is (Some got) v = record {
  node = refl;
  params = refl;
  vector = refl;
  few = one_more (is_new v.vector (met_with v.params v.vector got)) (got.bits == (met_with v.params v.vector got).bits) v.copies;
}

pub read_is : (slot : ℕ) (notice : NoticeKind) (v : HistoryParts)
    → IsRead v.params v.vector (brought v.params slot notice) v (after_reading slot notice v)
unfolding after_reading brought met
read_is slot Idle v = record { node = refl; params = refl; vector = refl; few = omega arith }
read_is slot Bad v = record { node = refl; params = refl; vector = refl; few = omega arith }
read_is slot (Got f) v = met_is (if is_exchange v.params slot then vector_in v.params.format (cycle_of v.params slot) f else None) v
read_is slot (Sent f) v = by_own (is_own_vector slot f v)
  where
    by_own : (b : Bool) → IsRead v.params v.vector None v (if b then record v { sent = true } else v)
    by_own true = record { node = refl; params = refl; vector = refl; few = omega arith }
    by_own false = record { node = refl; params = refl; vector = refl; few = omega arith }

-- ---- what was read of the cycle

-- the value with these parts
abbrev pub value : ℕ → Parameters → Option Nodes → ℕ → Bool → HistoryParts
value i p own copies sent = record { node = i; params = p; vector = own; copies = copies; sent = sent }

some_then : (o : Option Nodes) (P Q : Nodes → Type 0) → IfSome o P → ((v : Nodes) → o ≡ Some v → P v → Q v) → IfSome o Q
some_then None P Q h step = tt
some_then (Some v) P Q h step = step v refl h

-- a vector that is not new is the one from before
old_vector : (old : Option Nodes) (v : Nodes) → is_new old v ≡ false → old ≡ Some v
unfolding is_new
old_vector None v h = absurd (cc)
old_vector (Some u) v h = elim (cases_Bool (u.bits == v.bits)) [
  | inl same ↦ ap Some (same_bits u v (eqb-true u.bits v.bits same))
  | inr other ↦ let e : not false ≡ false = rw other at h in absurd (cc)
]

module _ (p : Parameters) (i slot : ℕ) (past : List NoticeKind) (own : Option Nodes) (copies : ℕ) (sent : Bool)
    (h : IsExchangeOf p (cycle_of p slot) i past own (value i p own copies sent)) where
  -- a notice that says nothing of it
  nothing_read : (notice : NoticeKind) → HasMore p.format (cycle_of p slot) i own notice
      → ((v : Nodes) → is_vector_got p.format (cycle_of p slot) v notice ≡ false)
      → ((v : Nodes) → is_vector_sent p.format (cycle_of p slot) i v notice ≡ false)
      → IsExchangeOf p (cycle_of p slot) i (notice ∷ past) own (value i p own copies sent)
  nothing_read notice more no_copy not_own = record {
    more = (more, h.more);
    copies = some_then own _ _ h.copies (λ v at e. e ∙ sym (count-no (is_vector_got p.format (cycle_of p slot) v) notice past (no_copy v)));
    sent = some_then own _ _ h.sent (λ v at e. e ∙ sym (ap (λ b. b || list_any (is_vector_sent p.format (cycle_of p slot) i v) past) (not_own v)));
  }

  no_more : (notice : NoticeKind) (x : Option Nodes) → x ≡ None → (w : Nodes) → x ≡ Some w → StandsIn own w
  no_more notice x none w e = let apart : None ≡ Some w = sym none ∙ e in absurd (cc)

  -- ---- a vector that is got

  module _ (f : FrameParts) (got : Nodes) (carries : vector_in p.format (cycle_of p slot) f ≡ Some got) where
    abbrev now : Nodes
    now = met_with p own got

    part_of_old : (old : Nodes) → own ≡ Some old → IsPart now old
    part_of_old old at = subst (λ o. IsPart (met_with p o got) old) (sym at) (met_part_own p old got)

    copies_before : (if is_new own now then 0 else copies) ≡ count_by (is_vector_got p.format (cycle_of p slot) now) past
    copies_before = elim (cases_Bool (is_new own now)) [
      | inl new ↦ rw new (sym (new_copies p.format (cycle_of p slot) i own now part_of_old new past h.more))
      | inr old ↦
          let kept : IfSome (Some now) (λ v. copies ≡ count_by (is_vector_got p.format (cycle_of p slot) v) past) =
          subst (λ o. IfSome o (λ v. copies ≡ count_by (is_vector_got p.format (cycle_of p slot) v) past)) (old_vector own now old) h.copies in
          rw old kept
    ]

    sent_before : (if is_new own now then false else sent) ≡ list_any (is_vector_sent p.format (cycle_of p slot) i now) past
    sent_before = elim (cases_Bool (is_new own now)) [
      | inl new ↦ rw new (sym (new_own p.format (cycle_of p slot) i own now part_of_old new past h.more))
      | inr old ↦
          let kept : IfSome (Some now) (λ v. sent ≡ list_any (is_vector_sent p.format (cycle_of p slot) i v) past) =
          subst (λ o. IfSome o (λ v. sent ≡ list_any (is_vector_sent p.format (cycle_of p slot) i v) past)) (old_vector own now old) h.sent in
          rw old kept
    ]

    this_copy : is_vector_got p.format (cycle_of p slot) now (Got f) ≡ (got.bits == now.bits)
    unfolding is_just
    this_copy = rw carries refl

    copies_now : (if is_new own now then 0 else copies) + (if got.bits == now.bits then 1 else 0)
        ≡ count_by (is_vector_got p.format (cycle_of p slot) now) (Got f ∷ past)
    copies_now =
        let counted : count_by (is_vector_got p.format (cycle_of p slot) now) (Got f ∷ past)
        ≡ cond (is_vector_got p.format (cycle_of p slot) now (Got f)) 1 0 + count_by (is_vector_got p.format (cycle_of p slot) now) past =
        count-cons (is_vector_got p.format (cycle_of p slot) now) (Got f) past in
        let this = ap (λ (b : Bool). cond {A = ℕ} b 1 0) this_copy in
        omega (arith, counted, this, copies_before)

    pub got_some : IsExchangeOf p (cycle_of p slot) i (Got f ∷ past) (Some now) (met_by got (value i p own copies sent))
    got_some = record {
      more = (
        λ w e. let is : got ≡ w = cc (carries, e) in subst (λ x. IsPart now x) is (met_part_got p own got),
        smaller_more p.format (cycle_of p slot) i own now part_of_old past h.more,
      );
      copies = copies_now;
      sent = sent_before;
    }

  got_none : (f : FrameParts) → vector_in p.format (cycle_of p slot) f ≡ None
      → IsExchangeOf p (cycle_of p slot) i (Got f ∷ past) own (value i p own copies sent)
  unfolding is_just
  got_none f none = nothing_read (Got f) (no_more (Got f) (vector_in p.format (cycle_of p slot) f) none) (λ v. rw none refl) (λ v. refl)

  module _ (exchanged : is_exchange p slot ≡ true) where
    pub after_got : (f : FrameParts)
        → IsExchangeOf p (cycle_of p slot) i (Got f ∷ past) (met p own (brought p slot (Got f))) (after_reading slot (Got f) (value i p own copies sent))
    unfolding after_reading after_meeting brought met
    after_got f = rw exchanged (by_vector (vector_in p.format (cycle_of p slot) f) refl)
      where
        by_vector : (x : Option Nodes) → vector_in p.format (cycle_of p slot) f ≡ x
            → IsExchangeOf p (cycle_of p slot) i (Got f ∷ past) (met p own x) (after_meeting x (value i p own copies sent))
        by_vector None e = got_none f e
        by_vector (Some got) e = got_some f got e

    -- ---- a transmission of its own

    own_more : (f : FrameParts) → IsSentWithMore p i slot own f → (w : Nodes)
        → (if f.node == i then vector_in p.format (cycle_of p slot) f else None) ≡ Some w
        → StandsIn own w
    own_more f sent_with w e = elim (cases_Bool (f.node == i)) [
      | inl mine ↦
          let carries : vector_in p.format (cycle_of p slot) f ≡ Some w = rw mine at e in
          let frame = vector_frame p.format (cycle_of p slot) f w carries in
          stands own w carries (sent_with frame.class (eqb-true f.node i mine) frame.number exchanged)
      | inr other ↦ let apart : None ≡ Some w = rw other at e in absurd (cc)
    ]
      where
        stands : (o : Option Nodes) (w : Nodes) → vector_in p.format (cycle_of p slot) f ≡ Some w → CarriesMore p (cycle_of p slot) f o
            → StandsIn o w
        stands None w carries none = none
        stands (Some v) w carries more = more w carries

    note : (b : Bool)
        → (if b then record (value i p own copies sent) { sent = true } else value i p own copies sent) ≡ value i p own copies (if b then true else sent)
    note true = refl
    note false = refl

    noted : (b any : Bool) → sent ≡ any → (if b then true else sent) ≡ (b || any)
    noted true any e = refl
    noted false any e = e

    sent_some : (f : FrameParts) → IsSentWithMore p i slot own f
        → IsExchangeOf p (cycle_of p slot) i (Sent f ∷ past) own (value i p own copies (if is_own_vector slot f (value i p own copies sent) then true else sent))
    unfolding is_just_own
    sent_some f sent_with = record {
      more = (own_more f sent_with, h.more);
      copies = some_then own _ _ h.copies (λ v at e. e ∙ sym (count-no (is_vector_got p.format (cycle_of p slot) v) (Sent f) past refl));
      sent = some_then own _ _ h.sent (λ v at e.
          noted (is_own_vector slot f (value i p own copies sent)) (list_any (is_vector_sent p.format (cycle_of p slot) i v) past) e
          ∙ ap (λ o. (f.node == i && is_just_own o (vector_in p.format (cycle_of p slot) f)) || list_any (is_vector_sent p.format (cycle_of p slot) i v) past) at);
    }

    pub after_sent : (f : FrameParts) → IsSentWithMore p i slot own f
        → IsExchangeOf p (cycle_of p slot) i (Sent f ∷ past) (met p own (brought p slot (Sent f))) (after_reading slot (Sent f) (value i p own copies sent))
    unfolding after_reading brought met
    after_sent f sent_with =
        subst (IsExchangeOf p (cycle_of p slot) i (Sent f ∷ past) own) (sym (note (is_own_vector slot f (value i p own copies sent)))) (sent_some f sent_with)

    -- ---- any notice

    pub exchange_after_reading : (notice : NoticeKind) → IsReadableVector p i slot own notice
        → IsExchangeOf p (cycle_of p slot) i (notice ∷ past) (met p own (brought p slot notice)) (after_reading slot notice (value i p own copies sent))
    unfolding after_reading brought met
    exchange_after_reading Idle readable = nothing_read Idle (no_more Idle None refl) (λ v. refl) (λ v. refl)
    exchange_after_reading Bad readable = nothing_read Bad (no_more Bad None refl) (λ v. refl) (λ v. refl)
    exchange_after_reading (Got f) readable = after_got f
    exchange_after_reading (Sent f) readable = after_sent f readable.1
