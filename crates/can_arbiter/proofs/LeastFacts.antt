-- The least word of some nodes, found by going over them.
use Rattle.std.proofs.Common.{◌≡◌, ◌≢◌, ℕ, ◌-◌, ◌<◌, ◌≤◌, ◌/◌, ◌^◌, ◌==◌, ◌&&◌, ◌||◌, ◌⊎◌, Bool, true, false, nat_lt, IsTrue, cond, if◌then◌else◌, inl, inr, ap, sym, ◌∙◌, arith, refl}
use Rattle.std.proofs.lemmas.Bool.{cases_eq, cases_order, false≢true, false_from_ne_true, eq-eqb, ne_eqb, eqb-true, lt-ltb, le-ltb}
use Rattle.can_arbiter.specs.Walk.{IsWalked}
use Rattle.can_arbiter.proofs.RestFacts.{IsWithout, left_in, was_in}

-- the greatest word that there can be
abbrev pub greatest : ℕ
greatest = 2 ^ 32 - 1

-- of the nodes that offer all but the rest are gone over: this is the least of their words, and
-- these have it
pub record AreLeastSoFar (offering rest : ℕ → Bool) (word : ℕ → ℕ) (least : ℕ) (nodes : ℕ → Bool) : Type 0 where
  pub within : (i : ℕ) → IsTrue (rest i) → IsTrue (offering i)
  pub offer : (i : ℕ) → IsTrue (nodes i) → IsTrue (offering i)
  pub same : (i : ℕ) → IsTrue (nodes i) → word i ≡ least
  pub all : (i : ℕ) → IsTrue (offering i) → rest i ≡ false → word i ≡ least → IsTrue (nodes i)
  pub at_least : (i : ℕ) → IsTrue (offering i) → rest i ≡ false → least ≤ word i
  pub found : ((i : ℕ) × IsTrue (nodes i)) ⊎ ((least ≡ greatest) × ((i : ℕ) → IsTrue (offering i) → IsTrue (rest i)))

pub none_so_far : (offering nodes : ℕ → Bool) (word : ℕ → ℕ) → ((i : ℕ) → nodes i ≡ false) → AreLeastSoFar offering offering word greatest nodes
none_so_far offering nodes word none = record {
  within = λ i h. h;
  offer = λ i h. absurd (false≢true (sym (none i) ∙ h));
  same = λ i h. absurd (false≢true (sym (none i) ∙ h));
  all = λ i h out e. absurd (false≢true (sym out ∙ h));
  at_least = λ i h out. absurd (false≢true (sym out ∙ h));
  found = inr (refl, λ i h. h);
}

or_false : (b : Bool) → (b || false) ≡ b
or_false true = refl
or_false false = refl

or_true : (b : Bool) → (b || true) ≡ true
or_true true = refl
or_true false = refl

-- the word and the nodes after one node more
pub record AreEntered (node w old_word new_word : ℕ) (old new : ℕ → Bool) : Type 0 where
  pub word : new_word ≡ (if nat_lt w old_word then w else old_word)
  pub nodes : (i : ℕ) → new i ≡ (if nat_lt w old_word then i == node else (old i || (w == old_word && i == node)))

module _ (offering rest less : ℕ → Bool) (word : ℕ → ℕ) (least node : ℕ) (nodes : ℕ → Bool) (out : IsWithout rest node less) (here : IsTrue (rest node))
    (are : AreLeastSoFar offering rest word least nodes) where
  still : (i : ℕ) → IsTrue (less i) → IsTrue (offering i)
  still i h = are.within i (was_in rest less node i out h)

  gone : (i : ℕ) → i ≢ node → less i ≡ false → rest i ≡ false
  gone i other none = sym (left_in rest less node i out other) ∙ none

  -- the node has a lesser word than those before it
  lesser : (new : ℕ → Bool) → word node < least → ((i : ℕ) → new i ≡ (i == node)) → AreLeastSoFar offering less word (word node) new
  lesser new below is = record {
    within = still;
    offer = λ i h. let at : i ≡ node = eqb-true i node (sym (is i) ∙ h) in rw at (are.within node here);
    same = λ i h. ap word (eqb-true i node (sym (is i) ∙ h));
    all = λ i o none e. elim (cases_eq i node) [
      | inl at ↦ is i ∙ eq-eqb i node at
      | inr other ↦ absurd (omega (arith, below, e, are.at_least i o (gone i other none)))
    ];
    at_least = λ i o none. elim (cases_eq i node) [
      | inl at ↦ omega (arith, ap word at)
      | inr other ↦ omega (arith, below, are.at_least i o (gone i other none))
    ];
    found = inl (node, is node ∙ eq-eqb node node refl);
  }

  -- it has the same word as they
  equal : (new : ℕ → Bool) → word node ≡ least → ((i : ℕ) → new i ≡ (nodes i || i == node)) → AreLeastSoFar offering less word least new
  equal new same is = record {
    within = still;
    offer = λ i h. elim (cases_eq i node) [
      | inl at ↦ rw at (are.within node here)
      | inr other ↦ are.offer i (before i other h)
    ];
    same = λ i h. elim (cases_eq i node) [
      | inl at ↦ ap word at ∙ same
      | inr other ↦ are.same i (before i other h)
    ];
    all = λ i o none e. elim (cases_eq i node) [
      | inl at ↦ is i ∙ ap (λ b. nodes i || b) (eq-eqb i node at) ∙ or_true (nodes i)
      | inr other ↦ is i ∙ ap (λ b. b || i == node) (are.all i o (gone i other none) e)
    ];
    at_least = λ i o none. elim (cases_eq i node) [
      | inl at ↦ omega (arith, ap word at, same)
      | inr other ↦ are.at_least i o (gone i other none)
    ];
    found = inl (node, is node ∙ ap (λ b. nodes node || b) (eq-eqb node node refl) ∙ or_true (nodes node));
  }
    where
      before : (i : ℕ) → i ≢ node → IsTrue (new i) → IsTrue (nodes i)
      before i other h = sym (or_false (nodes i)) ∙ ap (λ b. nodes i || b) (sym (ne_eqb i node other)) ∙ sym (is i) ∙ h

  -- it has a greater word
  greater : (new : ℕ → Bool) → least < word node → word node ≤ greatest → ((i : ℕ) → new i ≡ nodes i) → AreLeastSoFar offering less word least new
  greater new above small is = record {
    within = still;
    offer = λ i h. are.offer i (sym (is i) ∙ h);
    same = λ i h. are.same i (sym (is i) ∙ h);
    all = λ i o none e. elim (cases_eq i node) [
      | inl at ↦ absurd (omega (arith, above, e, ap word at))
      | inr other ↦ is i ∙ are.all i o (gone i other none) e
    ];
    at_least = λ i o none. elim (cases_eq i node) [
      | inl at ↦ omega (arith, ap word at, above)
      | inr other ↦ are.at_least i o (gone i other none)
    ];
    found = elim are.found [
      | inl one ↦ inl (one.0, is one.0 ∙ one.1)
      | inr none ↦ absurd (omega (arith, above, small, none.0))
    ];
  }

  -- one node more
  pub one_more : (w new_word : ℕ) (new : ℕ → Bool) → w ≡ word node → w ≤ greatest → AreEntered node w least new_word nodes new
      → AreLeastSoFar offering less word new_word new
  one_more w new_word new e small entered = elim (cases_order w least) [
    | inl same ↦
        let no : nat_lt w least ≡ false = le-ltb w least (omega (arith, same)) in
        let word_is : new_word ≡ least = entered.word ∙ ap (λ b. cond b w least) no in
        rw word_is (equal new (sym e ∙ same) (λ i.
        entered.nodes i ∙ ap (λ b. cond b (i == node) (nodes i || (w == least && i == node))) no ∙ ap (λ b. nodes i || (b && i == node)) (eq-eqb w least same)))
    | inr (inl below) ↦
        let yes : nat_lt w least ≡ true = lt-ltb w least below in
        let word_is : new_word ≡ word node = entered.word ∙ ap (λ b. cond b w least) yes ∙ e in
        rw word_is (lesser new (omega (arith, below, e)) (λ i.
        entered.nodes i ∙ ap (λ b. cond b (i == node) (nodes i || (w == least && i == node))) yes))
    | inr (inr above) ↦
        let no : nat_lt w least ≡ false = le-ltb w least (omega (arith, above)) in
        let word_is : new_word ≡ least = entered.word ∙ ap (λ b. cond b w least) no in
        rw word_is (greater new (omega (arith, above, e)) (omega (arith, small, e)) (λ i.
        entered.nodes i ∙ ap (λ b. cond b (i == node) (nodes i || (w == least && i == node))) no
        ∙ ap (λ b. nodes i || (b && i == node)) (ne_eqb w least (λ same. omega (arith, above, same))) ∙ or_false (nodes i)))
  ]

-- all are gone over
pub all_gone_over : (offering rest : ℕ → Bool) (word : ℕ → ℕ) (least : ℕ) (nodes : ℕ → Bool) → ((i : ℕ) → rest i ≡ false)
    → AreLeastSoFar offering rest word least nodes → IsWalked offering nodes word 0
all_gone_over offering rest word least nodes none are = record {
  leads = λ i h. record {
    offers = are.offer i h;
    least = λ k o. omega (arith, are.same i h, are.at_least k o (none k));
  };
  stays = λ i leads. elim are.found [
    | inl one ↦
        let most : word i / 2 ^ 0 ≤ word one.0 / 2 ^ 0 = leads.least one.0 (are.offer one.0 one.1) in
        are.all i leads.offers (none i) (omega (arith, most, are.same one.0 one.1, are.at_least i leads.offers (none i)))
    | inr empty ↦ absurd (false≢true (sym (none i) ∙ empty.1 i leads.offers))
  ];
  nobody = λ nobody i. elim are.found [
    | inl one ↦ absurd (false≢true (sym (nobody one.0) ∙ one.1))
    | inr empty ↦ false_from_ne_true (offering i) (λ o. false≢true (sym (none i) ∙ empty.1 i o))
  ];
}
