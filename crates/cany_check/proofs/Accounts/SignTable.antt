-- A table of signs by their keys ascends as the signs of an account do; and what a slot makes of
-- it.
use Rattle.std.proofs.Common.{Ordering, Less, Equal, Greater, ◌≡◌, ℕ, ◌<◌, ◌⊎◌, ◌==◌, ◌&&◌, Bool, true, false, nat_lt, List, [], ◌∷◌, ◌++◌, map, refl, ap, sym, subst, ◌∙◌, arith, inl, inr}
use Rattle.std.specs.Prelude.{Some, None}
use Rattle.std.specs.BTreeMap.{insert_entry, is_at}
use Rattle.std.specs.List.{AllByRecursion}
use Rattle.std.specs.List.Sorted.{IsStrictlySortedBy}
use Rattle.std.specs.Map.{keys_of, lookup}
use Rattle.std.specs.Ordering.{nat_cmp, ordering_then}
use Rattle.std.proofs.lemmas.Bool.{cases_eq, cases_lt, eq-eqb, le-ltb, lt-ltb, ne_eqb}
use Rattle.std.proofs.lemmas.Map.Keys.{sorted_head, sorted_tail}
use Rattle.cany_base.specs.declared.class.Class.TheVariants as class
use Rattle.cany_base.specs.declared.slot_note.SlotNote.{SlotNote}
use Rattle.cany_base.specs.Frame.{FrameParts}
use Rattle.cany_model.specs.Bus.Frames.{is_of, same_class, same_identity}
use Rattle.cany_model.specs.Bus.Slot.{carried}
use Rattle.cany_model.specs.Bus.State.{RunState}
use Rattle.cany_model.specs.Rules.Knowledge.{FailureSign, fda_of, sign_of}
use Rattle.cany_check.specs.declared.account.record.SignRecord.{SignRecord}
use Rattle.cany_check.specs.Accounts.Account.{is_sign_before, sign_record}
use Rattle.cany_check.specs.InOrder.{ascending, put_once}
use Rattle.cany_check.specs.Accounts.Records.{sign_entry, sign_key, sign_so_far, with_last}
use Rattle.cany_check.proofs.Accounts.SlotFacts.{sign_now, sign_same}

-- ---- the order of signs

-- how a tree compares keys
abbrev pub sign_cmp : ℕ × ℕ → ℕ × ℕ → Ordering
sign_cmp x y = ordering_then (nat_cmp x.0 y.0) (nat_cmp x.1 y.1)

-- the first comes before the second, by cycle and then node
abbrev Precedes : FailureSign → FailureSign → Type 0
Precedes a b = (a.cycle < b.cycle) ⊎ ((a.cycle ≡ b.cycle) × (a.node < b.node))

record AreApart (a b : FailureSign) : Type 0 where
  order : Precedes a b
  before : is_sign_before a b ≡ true
  not_after : is_sign_before b a ≡ false
  less : sign_cmp (sign_key a) (sign_key b) ≡ Less
  greater : sign_cmp (sign_key b) (sign_key a) ≡ Greater
  other : (b.cycle == a.cycle && b.node == a.node) ≡ false
  other' : (a.cycle == b.cycle && a.node == b.node) ≡ false

record AreSame (a b : FailureSign) : Type 0 where
  is : a ≡ b
  not_before : is_sign_before a b ≡ false
  not_after : is_sign_before b a ≡ false
  equal : sign_cmp (sign_key a) (sign_key b) ≡ Equal
  both : (b.cycle == a.cycle && b.node == a.node) ≡ true

and_no : (b : Bool) → (b && false) ≡ false
and_no true = refl
and_no false = refl

apart : (a b : FailureSign) → Precedes a b → AreApart a b
apart a b (inl earlier) =
    let below : nat_lt a.cycle b.cycle ≡ true = lt-ltb a.cycle b.cycle earlier in
    let above : nat_lt b.cycle a.cycle ≡ false = le-ltb b.cycle a.cycle (omega (arith, earlier)) in
    let unequal : (a.cycle == b.cycle) ≡ false = ne_eqb a.cycle b.cycle (λ e. absurd (omega (arith, e, earlier))) in
    let unequal' : (b.cycle == a.cycle) ≡ false = ne_eqb b.cycle a.cycle (λ e. absurd (omega (arith, e, earlier))) in
    record {
      order = inl earlier;
      before = rw below refl;
      not_after = rw (above, unequal') refl;
      less = rw below refl;
      greater = rw (above, unequal') refl;
      other = rw unequal' refl;
      other' = rw unequal refl;
    }
apart a b (inr later) =
    let cycle : (a.cycle == b.cycle) ≡ true = eq-eqb a.cycle b.cycle later.0 in
    let cycle' : (b.cycle == a.cycle) ≡ true = eq-eqb b.cycle a.cycle (sym later.0) in
    let level : nat_lt a.cycle b.cycle ≡ false = le-ltb a.cycle b.cycle (omega (arith, later.0)) in
    let level' : nat_lt b.cycle a.cycle ≡ false = le-ltb b.cycle a.cycle (omega (arith, later.0)) in
    let below : nat_lt a.node b.node ≡ true = lt-ltb a.node b.node later.1 in
    let above : nat_lt b.node a.node ≡ false = le-ltb b.node a.node (omega (arith, later.1)) in
    let unequal : (a.node == b.node) ≡ false = ne_eqb a.node b.node (λ e. absurd (omega (arith, e, later.1))) in
    let unequal' : (b.node == a.node) ≡ false = ne_eqb b.node a.node (λ e. absurd (omega (arith, e, later.1))) in
    record {
      order = inr later;
      before = rw (level, cycle, below) refl;
      not_after = rw (level', cycle', above) refl;
      less = rw (level, cycle, below) refl;
      greater = rw (level', cycle', above, unequal') refl;
      other = rw unequal' (and_no (b.cycle == a.cycle));
      other' = rw unequal (and_no (a.cycle == b.cycle));
    }

same : (a b : FailureSign) → a.cycle ≡ b.cycle → a.node ≡ b.node → AreSame a b
same a b cycle node =
    let level : nat_lt a.cycle b.cycle ≡ false = le-ltb a.cycle b.cycle (omega (arith, cycle)) in
    let level' : nat_lt b.cycle a.cycle ≡ false = le-ltb b.cycle a.cycle (omega (arith, cycle)) in
    let equal : (a.cycle == b.cycle) ≡ true = eq-eqb a.cycle b.cycle cycle in
    let equal' : (b.cycle == a.cycle) ≡ true = eq-eqb b.cycle a.cycle (sym cycle) in
    let still : nat_lt a.node b.node ≡ false = le-ltb a.node b.node (omega (arith, node)) in
    let still' : nat_lt b.node a.node ≡ false = le-ltb b.node a.node (omega (arith, node)) in
    let one : (a.node == b.node) ≡ true = eq-eqb a.node b.node node in
    let one' : (b.node == a.node) ≡ true = eq-eqb b.node a.node (sym node) in
    record {
      is = λ k. record { node = node k; cycle = cycle k };
      not_before = rw (level, equal, still) refl;
      not_after = rw (level', equal', still') refl;
      equal = rw (level, equal, still, one) refl;
      both = rw (equal', one') refl;
    }

-- two signs stand in one of three ways
standing : (a b : FailureSign) → AreApart a b ⊎ (AreSame a b ⊎ AreApart b a)
standing a b = elim (cases_lt a.cycle b.cycle) [
  | inl earlier ↦ inl (apart a b (inl earlier))
  | inr past ↦ elim (cases_lt b.cycle a.cycle) [
    | inl later ↦ inr (inr (apart b a (inl later)))
    | inr level ↦
        let cycle : a.cycle ≡ b.cycle = omega (arith, past, level) in
        elim (cases_lt a.node b.node) [
          | inl below ↦ inl (apart a b (inr (cycle, below)))
          | inr over ↦ elim (cases_eq a.node b.node) [
            | inl node ↦ inr (inl (same a b cycle node))
            | inr other ↦ inr (inr (apart b a (inr (sym cycle, omega (arith, over, other)))))
          ]
        ]
  ]
]

along : (a b c : FailureSign) → AreApart a b → AreApart b c → AreApart a c
along a b c first second = apart a c (by first.order second.order)
  where
    by : Precedes a b → Precedes b c → Precedes a c
    by (inl x) (inl y) = inl (omega (arith, x, y))
    by (inl x) (inr y) = inl (omega (arith, x, y.0))
    by (inr x) (inl y) = inl (omega (arith, x.0, y))
    by (inr x) (inr y) = inr (x.0 ∙ y.0, omega (arith, x.1, y.1))

-- ---- one more in a list that ascends

abbrev put : FailureSign → List FailureSign → List FailureSign
put x ys = put_once is_sign_before x ys

put_before : (x y : FailureSign) (ys : List FailureSign) → AreApart x y → put x (y ∷ ys) ≡ x ∷ (y ∷ ys)
unfolding put_once
put_before x y ys b = rw b.before refl

put_same : (x y : FailureSign) (ys : List FailureSign) → AreSame x y → put x (y ∷ ys) ≡ y ∷ ys
unfolding put_once
put_same x y ys e = rw (e.not_before, e.not_after) refl

put_after : (x y : FailureSign) (ys : List FailureSign) → AreApart y x → put x (y ∷ ys) ≡ y ∷ put x ys
unfolding put_once
put_after x y ys b = rw (b.not_after, b.before) refl

-- two are put in either order
put_both : (x y : FailureSign) → AreApart x y → (zs : List FailureSign) → put x (put y zs) ≡ put y (put x zs)
unfolding put_once
put_both x y b [] = put_before x y [] b ∙ sym (put_after y x [] b)
put_both x y b (z ∷ zs) = elim (standing y z) [
  | inl below ↦
      let first : AreApart x z = along x y z b below in
      ap (put x) (put_before y z zs below) ∙ put_before x y (z ∷ zs) b ∙ ap (λ l. x ∷ l) (sym (put_before y z zs below)) ∙ sym (put_after y x (z ∷ zs) b)
      ∙ ap (put y) (sym (put_before x z zs first))
  | inr (inl e) ↦
      let first : AreApart x z = subst (AreApart x) e.is b in
      ap (put x) (put_same y z zs e) ∙ put_before x z zs first ∙ ap (λ l. x ∷ l) (sym (put_same y z zs e)) ∙ sym (put_after y x (z ∷ zs) b)
      ∙ ap (put y) (sym (put_before x z zs first))
  | inr (inr above) ↦ elim (standing x z) [
    | inl first ↦
        ap (put x) (put_after y z zs above) ∙ put_before x z (put y zs) first ∙ ap (λ l. x ∷ l) (sym (put_after y z zs above)) ∙ sym (put_after y x (z ∷ zs) b)
        ∙ ap (put y) (sym (put_before x z zs first))
    | inr (inl e) ↦ ap (put x) (put_after y z zs above) ∙ put_same x z (put y zs) e ∙ sym (put_after y z zs above) ∙ ap (put y) (sym (put_same x z zs e))
    | inr (inr over) ↦
        ap (put x) (put_after y z zs above) ∙ put_after x z (put y zs) over ∙ ap (λ l. z ∷ l) (put_both x y b zs) ∙ sym (put_after y z (put x zs) above)
        ∙ ap (put y) (sym (put_after x z zs over))
  ]
]

put_either : (x y : FailureSign) (zs : List FailureSign) → put x (put y zs) ≡ put y (put x zs)
put_either x y zs = elim (standing x y) [
  | inl b ↦ put_both x y b zs
  | inr (inl e) ↦ subst (λ w. put x (put w zs) ≡ put w (put x zs)) e.is refl
  | inr (inr b) ↦ sym (put_both y x b zs)
]

pub ascending_more : (xs : List FailureSign) (x : FailureSign) → ascending is_sign_before (xs ++ x ∷ []) ≡ put_once is_sign_before x (ascending is_sign_before xs)
unfolding ascending
ascending_more [] x = refl
ascending_more (y ∷ xs) x = ap (put y) (ascending_more xs x) ∙ put_either y x (ascending is_sign_before xs)

-- ---- one more in a table

module _ (s : RunState) where
  put_in : (x : FailureSign) (ys : List FailureSign)
      → insert_entry sign_cmp (map (sign_entry s []) ys) (sign_key x) (sign_so_far s [] x) ≡ map (sign_entry s []) (put_once is_sign_before x ys)
  unfolding put_once
  put_in x [] = refl
  put_in x (y ∷ ys) = elim (standing x y) [
    | inl b ↦ rw (b.less, b.before) refl
    | inr (inl e) ↦ rw (e.equal, e.not_before, e.not_after) (ap (λ z. (sign_key y, sign_so_far s [] z) ∷ map (sign_entry s []) ys) e.is)
    | inr (inr b) ↦ rw (b.greater, b.not_after, b.before) (ap (λ l. sign_entry s [] y ∷ l) (put_in x ys))
  ]

  pub entered : (told : List FailureSign) (x : FailureSign)
      → insert_entry sign_cmp (map (sign_entry s []) (ascending is_sign_before told)) (sign_key x) (sign_so_far s [] x)
      ≡ map (sign_entry s []) (ascending is_sign_before (told ++ x ∷ []))
  entered told x = put_in x (ascending is_sign_before told) ∙ ap (map (sign_entry s [])) (sym (ascending_more told x))

-- ---- a slot that carried a frame

module _ (note : SlotNote) (f : FrameParts) (is : note.frame ≡ Some f) where
  -- of another class
  module _ (other : same_class class.Fda f.class ≡ false) where
    not_of_class : (sign : FailureSign) → carried (is_of (fda_of sign)) note ≡ false
    unfolding same_identity
    not_of_class sign = rw (is, other) refl

    pub carried_no_sign : (s : RunState) (trace : List SlotNote) (told : List FailureSign) → map (sign_entry s trace) told ≡ map (sign_entry s (note ∷ trace)) told
    carried_no_sign s trace [] = refl
    carried_no_sign s trace (sign ∷ told) =
        ap (λ r. (sign_key sign, r) ∷ map (sign_entry s trace) told) (sym (sign_same s sign note trace (not_of_class sign)))
        ∙ ap (λ l. sign_entry s (note ∷ trace) sign ∷ l) (carried_no_sign s trace told)

  -- that of a sign
  module _ (fda : same_class class.Fda f.class ≡ true) where
    abbrev it : FailureSign
    it = sign_of f

    carried_test : (sign : FailureSign) → carried (is_of (fda_of sign)) note ≡ (sign.cycle == f.number && sign.node == f.node)
    unfolding same_identity
    carried_test sign = rw (is, fda) refl

    not_it : (sign : FailureSign) → AreApart it sign → carried (is_of (fda_of sign)) note ≡ false
    not_it sign b = carried_test sign ∙ b.other

    not_it' : (sign : FailureSign) → AreApart sign it → carried (is_of (fda_of sign)) note ≡ false
    not_it' sign b = carried_test sign ∙ b.other'

    module _ (s : RunState) (trace : List SlotNote) where
      one_unknown : (z : FailureSign) (told : List FailureSign) → carried (is_of (fda_of z)) note ≡ false
          → map (sign_entry s trace) told ≡ map (sign_entry s (note ∷ trace)) told → map (sign_entry s trace) (z ∷ told) ≡ map (sign_entry s (note ∷ trace)) (z ∷ told)
      one_unknown z told other rest =
          ap (λ r. (sign_key z, r) ∷ map (sign_entry s trace) told) (sym (sign_same s z note trace other)) ∙ ap (λ l. sign_entry s (note ∷ trace) z ∷ l) rest

      -- a table whose keys are all above that of the sign
      later_same : (told : List FailureSign) → AllByRecursion (AreApart it) told → map (sign_entry s trace) told ≡ map (sign_entry s (note ∷ trace)) told
      later_same [] h = refl
      later_same (sign ∷ told) h =
          ap (λ r. (sign_key sign, r) ∷ map (sign_entry s trace) told) (sym (sign_same s sign note trace (not_it sign h.0)))
          ∙ ap (λ l. sign_entry s (note ∷ trace) sign ∷ l) (later_same told h.1)

      later_none : (told : List FailureSign) → AllByRecursion (AreApart it) told → lookup (is_at (sign_cmp (sign_key it))) (map (sign_entry s trace) told) ≡ None
      later_none [] h = refl
      later_none (sign ∷ told) h = rw (h.0.less) (later_none told h.1)

      -- those after a sign in a table come after each that is not after it
      are_later : (x z : FailureSign) → AreApart x z ⊎ AreSame x z → (told : List FailureSign)
          → AllByRecursion (λ k. sign_cmp (sign_key z) k ≡ Less) (keys_of (map (sign_entry s trace) told)) → AllByRecursion (AreApart x) told
      are_later x z near [] h = tt
      are_later x z near (w ∷ told) h = (by near (standing z w), are_later x z near told h.1)
        where
          further : AreApart z w → AreApart x z ⊎ AreSame x z → AreApart x w
          further b (inl a) = along x z w a b
          further b (inr e) = subst (λ y. AreApart y w) (sym e.is) b

          by : AreApart x z ⊎ AreSame x z → AreApart z w ⊎ (AreSame z w ⊎ AreApart w z) → AreApart x w
          by n (inl b) = further b n
          by n (inr (inl e)) = absurd (let both : Equal ≡ Less = sym e.equal ∙ h.0 in cc)
          by n (inr (inr b)) = absurd (let both : Greater ≡ Less = sym b.greater ∙ h.0 in cc)

      pub carried_unknown : (told : List FailureSign) → lookup (is_at (sign_cmp (sign_key it))) (map (sign_entry s trace) told) ≡ None
          → map (sign_entry s trace) told ≡ map (sign_entry s (note ∷ trace)) told
      carried_unknown [] none = refl
      carried_unknown (z ∷ told) none = elim (standing it z) [
        | inl b ↦ one_unknown z told (not_it z b) (carried_unknown told (rw b.less at none))
        | inr (inl e) ↦ absurd (let some : Some (sign_so_far s trace z) ≡ None = rw e.equal at none in cc)
        | inr (inr b) ↦ one_unknown z told (not_it' z b) (carried_unknown told (rw b.greater at none))
      ]

      pub carried_known : (told : List FailureSign) (r : SignRecord) → IsStrictlySortedBy sign_cmp (keys_of (map (sign_entry s trace) told))
          → lookup (is_at (sign_cmp (sign_key it))) (map (sign_entry s trace) told) ≡ Some r
          → insert_entry sign_cmp (map (sign_entry s trace) told) (sign_key it) (record r { carried = with_last r.carried note.slot })
          ≡ map (sign_entry s (note ∷ trace)) told
      carried_known [] r sorted found = absurd (cc)
      carried_known (z ∷ told) r sorted found =
          let rest = sorted_tail sign_cmp (sign_key z) (keys_of (map (sign_entry s trace) told)) sorted in
          let head = sorted_head sign_cmp (sign_key z) (keys_of (map (sign_entry s trace) told)) sorted in
          elim (standing it z) [
            | inl b ↦
                let later = are_later it z (inl b) told head in
                absurd (let some : None ≡ Some r = sym (later_none (z ∷ told) (b, later)) ∙ found in cc)
            | inr (inl e) ↦
                let some : Some (sign_so_far s trace z) ≡ Some r = rw e.equal at found in
                let here : sign_so_far s trace z ≡ r = cc in
                let now : carried (is_of (fda_of z)) note ≡ true = carried_test z ∙ e.both in
                rw e.equal (
                ap (λ (x : SignRecord). (sign_key z, record x { carried = with_last x.carried note.slot }) ∷ map (sign_entry s trace) told) (sym here)
                ∙ ap (λ x. (sign_key z, x) ∷ map (sign_entry s trace) told) (sym (sign_now s z note trace now))
                ∙ ap (λ l. sign_entry s (note ∷ trace) z ∷ l) (later_same told (are_later it z (inr e) told head))
                )
            | inr (inr b) ↦
                rw b.greater (
                ap (λ x. (sign_key z, x) ∷ insert_entry sign_cmp (map (sign_entry s trace) told) (sign_key it) (record r { carried = with_last r.carried note.slot }))
                (sym (sign_same s z note trace (not_it' z b)))
                ∙ ap (λ l. sign_entry s (note ∷ trace) z ∷ l) (carried_known told r rest (rw b.greater at found))
                )
          ]

-- ---- a slot that carried none

pub idle_slot : (note : SlotNote) → note.frame ≡ None → (s : RunState) (trace : List SlotNote) (told : List FailureSign)
    → map (sign_entry s trace) told ≡ map (sign_entry s (note ∷ trace)) told
idle_slot note is s trace [] = refl
idle_slot note is s trace (sign ∷ told) =
    let none : carried (is_of (fda_of sign)) note ≡ false = rw is refl in
    ap (λ r. (sign_key sign, r) ∷ map (sign_entry s trace) told) (sym (sign_same s sign note trace none))
    ∙ ap (λ l. sign_entry s (note ∷ trace) sign ∷ l) (idle_slot note is s trace told)

-- ---- the records of a table

pub records_told : (s : RunState) (told : List FailureSign) → map (λ e. e.1) (map (sign_entry s s.trace) told) ≡ map (sign_record s) told
records_told s [] = refl
records_told s (sign ∷ told) = ap (λ l. sign_record s sign ∷ l) (records_told s told)
