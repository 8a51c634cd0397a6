-- Those of a set that pass a test, found by taking out the others.
use Rattle.std.proofs.Common.{◌≡◌, ℕ, ◌↔◌, Bool, false, IsTrue, inl, inr, sym, ◌∙◌}
use Rattle.std.proofs.lemmas.Bool.{cases_eq, false≢true}
use Rattle.can_arbiter.proofs.RestFacts.{IsWithout, taken_out, left_in, was_in}

-- of the set all but the rest are gone over: those that fail the test are out
pub record AreChecked (set rest kept : ℕ → Bool) (Test : ℕ → Type 0) : Type 0 where
  pub within : (i : ℕ) → IsTrue (rest i) → IsTrue (set i)
  pub from : (i : ℕ) → IsTrue (kept i) → IsTrue (set i)
  pub waits : (i : ℕ) → IsTrue (rest i) → IsTrue (kept i)
  pub passed : (i : ℕ) → rest i ≡ false → IsTrue (kept i) → Test i
  pub stays : (i : ℕ) → IsTrue (set i) → Test i → IsTrue (kept i)

pub all_wait : (set : ℕ → Bool) (Test : ℕ → Type 0) → AreChecked set set set Test
all_wait set Test = record {
  within = λ i h. h;
  from = λ i h. h;
  waits = λ i h. h;
  passed = λ i none h. absurd (false≢true (sym none ∙ h));
  stays = λ i h test. h;
}

module _ (set rest less kept : ℕ → Bool) (node : ℕ) (Test : ℕ → Type 0) (out : IsWithout rest node less) (are : AreChecked set rest kept Test) where
  -- the node passes
  pub one_stays : Test node → AreChecked set less kept Test
  one_stays test = record {
    within = λ i h. are.within i (was_in rest less node i out h);
    from = are.from;
    waits = λ i h. are.waits i (was_in rest less node i out h);
    passed = λ i none h. elim (cases_eq i node) [
      | inl at ↦ rw at test
      | inr other ↦ are.passed i (sym (left_in rest less node i out other) ∙ none) h
    ];
    stays = are.stays;
  }

  -- the node fails
  pub one_goes : (fewer : ℕ → Bool) → IsWithout kept node fewer → (Test node → ⊥) → AreChecked set less fewer Test
  one_goes fewer gone fails = record {
    within = λ i h. are.within i (was_in rest less node i out h);
    from = λ i h. are.from i (was_in kept fewer node i gone h);
    waits = λ i h. elim (cases_eq i node) [
      | inl at ↦ absurd (false≢true (sym (taken_out rest less node out) ∙ (rw at at h)))
      | inr other ↦ left_in kept fewer node i gone other ∙ are.waits i (was_in rest less node i out h)
    ];
    passed = λ i none h. elim (cases_eq i node) [
      | inl at ↦ absurd (false≢true (sym (taken_out kept fewer node gone) ∙ (rw at at h)))
      | inr other ↦ are.passed i (sym (left_in rest less node i out other) ∙ none) (was_in kept fewer node i gone h)
    ];
    stays = λ i h test. elim (cases_eq i node) [
      | inl at ↦ absurd (fails (rw at at test))
      | inr other ↦ left_in kept fewer node i gone other ∙ are.stays i h test
    ];
  }

pub all_checked : (set rest kept : ℕ → Bool) (Test : ℕ → Type 0) → ((i : ℕ) → rest i ≡ false) → AreChecked set rest kept Test
    → (i : ℕ) → IsTrue (kept i) ↔ (IsTrue (set i) × Test i)
all_checked set rest kept Test none are i = ((λ h. (are.from i h, are.passed i (none i) h)), (λ both. are.stays i both.0 both.1))
