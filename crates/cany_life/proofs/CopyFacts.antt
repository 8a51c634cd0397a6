-- The table of copies: there is room for each sign that there can be, and a copy that is read
-- counts.
use Rattle.std.proofs.Common.{◌≡◌, ℕ, zero, suc, ◌+◌, ◌*◌, ◌<◌, inl, inr, ◌==◌, ◌||◌, true, false, if◌then◌else◌, List, [], ◌∷◌, ◌++◌, length, replicate, refl, ap, sym, ◌∙◌, arith, eq-eqb, length-append}
use Rattle.std.proofs.lemmas.Bool.{false≢true, cases_eq, eqb-true, or_cases, or_left, or_right}
use Rattle.std.proofs.lemmas.Bool.Decides.{nat_tests}
use Rattle.cany_base.specs.declared.class.Class.TheVariants as class
use Rattle.cany_base.specs.declared.notice.NoticeKind.{NoticeKind}
use Rattle.cany_base.specs.declared.notice.NoticeKind.TheVariants.{Idle, Got, Sent, Bad}
use Rattle.cany_base.specs.Frame.{FrameParts}
use Rattle.cany_base.specs.Limits.{most_nodes, most_slots}
use Rattle.cany_base.specs.Scenario.{ScenarioParts}
use Rattle.cany_diffuse.specs.Eager.{EagerParts, is_among, is_there, IsFresh, IsLearnt}
use Rattle.cany_message.specs.Table.{CanTake}
use Rattle.cany_message.proofs.HistoryFacts.{copies-few, copies-idle, copies-no, copies-yes, is_not_this, is_this}
use Rattle.cany_message.proofs.NumberFacts.{same_number}
use Rattle.cany_model.specs.Bus.Frames.{is_of, same_class}
use Rattle.cany_model.specs.Bus.History.{copies, is_got}
use Rattle.cany_model.specs.Rules.Rooms.{cycles}
use Rattle.cany_model.specs.Rules.Knowledge.{FailureSign, fda_of, sign_of}
use Rattle.cany_life.specs.Life.{AreCopies, IsSignNumber, IsSignOf, sign_number}

-- ---- all signs that there can be

-- the numbers of the signs of the nodes below n in a cycle
row_below : ℕ → ℕ → List ℕ
row_below cycle zero = []
row_below cycle (suc n) = (cycle * most_nodes + n) ∷ row_below cycle n

-- those of the cycles below c
rows_below : ℕ → ℕ → List ℕ
rows_below n zero = []
rows_below n (suc c) = row_below c n ++ rows_below n c

length-row_below : (cycle n : ℕ) → length (row_below cycle n) ≡ n
unfolding row_below
length-row_below cycle zero = refl
length-row_below cycle (suc n) = ap suc (length-row_below cycle n)

length-rows_below : (n c : ℕ) → length (rows_below n c) ≡ n * c
unfolding rows_below
length-rows_below n zero = omega arith
length-rows_below n (suc c) = length-append (row_below c n) (rows_below n c) ∙ omega (arith, length-row_below c n, length-rows_below n c)

is_among-left : (q : ℕ) (xs ys : List ℕ) → is_among q xs ≡ true → is_among q (xs ++ ys) ≡ true
is_among-left q [] ys h = absurd (false≢true h)
is_among-left q (x ∷ xs) ys h = elim (or_cases (q == x) (is_among q xs) h) [
  | inl here ↦ or_left (q == x) (is_among q (xs ++ ys)) here
  | inr there ↦ or_right (q == x) (is_among q (xs ++ ys)) (is_among-left q xs ys there)
]

is_among-right : (q : ℕ) (xs ys : List ℕ) → is_among q ys ≡ true → is_among q (xs ++ ys) ≡ true
is_among-right q [] ys h = h
is_among-right q (x ∷ xs) ys h = or_right (q == x) (is_among q (xs ++ ys)) (is_among-right q xs ys h)

in_row : (cycle n r : ℕ) → r < n → is_among (cycle * most_nodes + r) (row_below cycle n) ≡ true
unfolding row_below
in_row cycle zero r h = absurd (omega arith)
in_row cycle (suc n) r h = elim (cases_eq r n) [
  | inl at ↦ or_left _ (is_among (cycle * most_nodes + r) (row_below cycle n)) (eq-eqb (cycle * most_nodes + r) (cycle * most_nodes + n) (ap (λ q. cycle * most_nodes + q) at))
  | inr other ↦ or_right (cycle * most_nodes + r == cycle * most_nodes + n) _ (in_row cycle n r (omega arith))
]

in_rows : (n c : ℕ) (sign : FailureSign) → sign.node < n → sign.cycle < c → is_among (sign_number sign) (rows_below n c) ≡ true
unfolding rows_below
in_rows n zero sign node cycle = absurd (omega arith)
in_rows n (suc c) sign node cycle = elim (cases_eq sign.cycle c) [
  | inl at ↦
      is_among-left (sign_number sign) (row_below c n) (rows_below n c)
      (rw at (in_row c n sign.node node))
  | inr other ↦ is_among-right (sign_number sign) (row_below c n) (rows_below n c) (in_rows n c sign node (omega arith))
]

module _ (scenario : ScenarioParts) where
  sign_among : (sign : FailureSign) → IsSignOf scenario sign → is_among (sign_number sign) (rows_below scenario.params.nodes (cycles scenario + 1)) ≡ true
  sign_among sign of = in_rows scenario.params.nodes (cycles scenario + 1) sign of.node (omega (arith, of.cycle))

  number_among : (number : ℕ) → IsSignNumber scenario number → is_among number (rows_below scenario.params.nodes (cycles scenario + 1)) ≡ true
  number_among number h = ap (λ n. is_among n (rows_below scenario.params.nodes (cycles scenario + 1))) (sym h.stands) ∙ sign_among h.sign h.of

  pub can_take : (past : List NoticeKind) (table : EagerParts) (sign : FailureSign) → AreCopies scenario past table → IsSignOf scenario sign
      → CanTake (sign_number sign) table
  can_take past table sign h of = record {
    numbers = rows_below scenario.params.nodes (cycles scenario + 1);
    room = omega (arith, length-rows_below scenario.params.nodes (cycles scenario + 1), h.room);
    all = λ number there. number_among number (h.signs number there);
    this = sign_among sign of;
  }

  -- ---- at first

  pub copies_fresh : (n omit room : ℕ) (table : EagerParts) → IsFresh omit room table → omit ≡ scenario.params.omit
      → room ≡ scenario.params.nodes * (cycles scenario + 1) → AreCopies scenario (replicate n Idle) table
  copies_fresh n omit room table fresh omit_is room_is = record {
    omit = fresh.omit ∙ omit_is;
    room = fresh.room ∙ room_is;
    copies = λ sign near. fresh.copies (sign_number sign) ∙ sym (copies-idle (fda_of sign) n);
    signs = λ number h. absurd (false≢true (sym (fresh.there number) ∙ h));
  }

  -- ---- one notice more

  signs_put : (sign : FailureSign) (old new : EagerParts) → IsSignOf scenario sign → ((q : ℕ) → is_there new q ≡ (q == sign_number sign || is_there old q))
      → ((number : ℕ) → is_there old number ≡ true → IsSignNumber scenario number) → (number : ℕ) → is_there new number ≡ true → IsSignNumber scenario number
  signs_put sign old new of put before number h = elim (or_cases (number == sign_number sign) (is_there old number) (sym (put number) ∙ h)) [
    | inl this ↦ record { sign = sign; of = of; stands = sym (eqb-true number (sign_number sign) this) }
    | inr there ↦ before number there
  ]

  -- a copy of the frame of a sign
  pub copies_got : (past : List NoticeKind) (f : FrameParts) (old new : EagerParts) → f.class ≡ class.Fda → f.node < most_nodes
      → IsSignOf scenario (sign_of f) → length past < most_slots → AreCopies scenario past old → IsLearnt (sign_number (sign_of f)) old new
      → AreCopies scenario (Got f ∷ past) new
  copies_got past f old new is near of short h learnt = record {
    omit = learnt.put.omit ∙ h.omit;
    room = learnt.put.room ∙ h.room;
    copies = λ sign small.
        let this : (sign_number sign == sign_number (sign_of f)) ≡ is_of (fda_of sign) f =
        same_number sign.cycle sign.node f.number f.node small near ∙ sym (is_this class.Fda sign.cycle sign.node f is) in
        let after : copies (fda_of sign) (Got f ∷ past) ≡ (if is_of (fda_of sign) f then copies (fda_of sign) past + 1 else copies (fda_of sign) past) =
        grind (arith, nat_tests, copies-yes (fda_of sign) (Got f) past, copies-no (fda_of sign) (Got f) past) in
        grind (arith, nat_tests, learnt.copies (sign_number sign), this, h.copies sign small, after, copies-few (fda_of sign) past, short);
    signs = signs_put (sign_of f) old new of learnt.put.there h.signs;
  }

  -- a notice that is no copy of such a frame
  copies_same : (past : List NoticeKind) (notice : NoticeKind) (table : EagerParts) → ((sign : FailureSign) → is_got (fda_of sign) notice ≡ false)
      → AreCopies scenario past table → AreCopies scenario (notice ∷ past) table
  copies_same past notice table none h = record {
    omit = h.omit;
    room = h.room;
    copies = λ sign small. h.copies sign small ∙ sym (copies-no (fda_of sign) notice past (none sign));
    signs = h.signs;
  }

  pub copies_idle : (past : List NoticeKind) (table : EagerParts) → AreCopies scenario past table → AreCopies scenario (Idle ∷ past) table
  copies_idle past table h = copies_same past Idle table (λ sign. refl) h

  pub copies_bad : (past : List NoticeKind) (table : EagerParts) → AreCopies scenario past table → AreCopies scenario (Bad ∷ past) table
  copies_bad past table h = copies_same past Bad table (λ sign. refl) h

  pub copies_sent : (past : List NoticeKind) (f : FrameParts) (table : EagerParts) → AreCopies scenario past table → AreCopies scenario (Sent f ∷ past) table
  copies_sent past f table h = copies_same past (Sent f) table (λ sign. refl) h

  pub copies_other : (past : List NoticeKind) (f : FrameParts) (table : EagerParts) → same_class f.class class.Fda ≡ false → AreCopies scenario past table
      → AreCopies scenario (Got f ∷ past) table
  copies_other past f table other h = copies_same past (Got f) table (λ sign. is_not_this class.Fda sign.cycle sign.node f other) h
