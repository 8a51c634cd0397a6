-- Which messages are done, by a walk over those that have a place, and what is delivered.
use Rattle.std.proofs.Common.{◌≡◌, ℕ, zero, suc, ◌+◌, ◌-◌, ◌<◌, ◌≤◌, ◌&&◌, ◌||◌, inl, inr, Bool, true, false, if◌then◌else◌, not, List, [], ◌∷◌, ◌++◌, length, map, filter, Option, Some, None, refl, ap, sym, ◌∙◌, subst, append_assoc, arith}
use Rattle.std.specs.Prelude.{nat_lt, slice_index_or}
use Rattle.std.specs.List.{AllByRecursion, list_all, list_any}
use Rattle.std.proofs.Math.Bool.{and_comm, or-false}
use Rattle.std.proofs.lemmas.Bool.{and_from, cases_Bool, cases_lt, false≢true, false_from_ne_true, le-ltb, lt-ltb, not-true, or_cases, or_from, or_left, or_parts, or_right}
use Rattle.std.proofs.lemmas.List.{get_or_past, take_all}
use Rattle.std.proofs.lemmas.List.Elements.{filter-append, filter_passes, recursion_from_All}
use Rattle.std.proofs.lemmas.List.Folds.{list_all-append, list_any-append}
use Rattle.std.proofs.lemmas.Option.{none-some}
use Rattle.std.proofs.lemmas.Map.Views.{any-filter_same}
use Rattle.cany_base.specs.declared.class.Class.TheVariants as class
use Rattle.cany_base.specs.declared.message.MsgKey.{MsgKey}
use Rattle.cany_base.specs.declared.notice.NoticeKind.{NoticeKind}
use Rattle.cany_base.specs.declared.notice.NoticeKind.TheVariants.{Idle}
use Rattle.cany_base.specs.Frame.{FrameParts}
use Rattle.cany_base.specs.Params.{Parameters}
use Rattle.cany_message.proofs.HistoryFacts.{identity_is}
use Rattle.cany_model.specs.Bus.Frames.{Identity, identity_of, same_identity}
use Rattle.cany_model.specs.Rules.Totcan.{delivered, delivered_now, done, done_at, done_from, holds, is_accepted, is_among, is_clear, is_pending, is_recent, message_in, new_among, tot_in, tot_of_key, with_new}
use Rattle.cany_model.proofs.Among.{Each-append, Each-filter, Each-weaker}
use Rattle.cany_model.proofs.Bus.Identities.{same_identity-from, same_identity-true, same_identity_self}
use Rattle.cany_totcan.specs.declared.queue.Placed.{Placed}
use Rattle.cany_totcan.specs.Queue.{AreOnce, is_at, oldest_from, placed_at, placed_from, placed_in}
use Rattle.cany_totcan.proofs.AcceptedFacts.{accepted_before, accepted_placed}
use Rattle.cany_totcan.proofs.PlaceFacts.{IsAtAge, IsWithin, at_age, at_age_cases, first_frame, oldest_is, open_is, placed_once, placed_split, placed_whole, placed_within, recent_more, recent_none, recent_weaker, tot_in-class}
use Rattle.cany_totcan.proofs.QueueFacts.{same_key, same_key-true, same_key_self}

-- ---- the walk over the messages that have a place

abbrev pub has_accepted : Parameters → ℕ → List NoticeKind → Placed → Bool
has_accepted p i past x = is_accepted p.bound i (message_in x.frame) past

-- whether the message is closed
abbrev pub is_past : Parameters → List NoticeKind → Placed → Bool
is_past p past x = nat_lt (x.place + p.bound) (length past)

-- the data frames of those that are done of these messages, the oldest place first: those that are
-- accepted, up to the first that is neither accepted nor closed
abbrev pub done_of : Parameters → ℕ → List NoticeKind → List Placed → List FrameParts
done_of p i past [] = []
done_of p i past (x ∷ items) =
    if has_accepted p i past x then x.frame ∷ done_of p i past items else if is_past p past x then done_of p i past items else []

-- whether it holds none back
abbrev pub is_settled : Parameters → ℕ → List NoticeKind → Placed → Bool
is_settled p i past x = has_accepted p i past x || is_past p past x

past_is : (age bound slots : ℕ) → age + 1 ≤ slots → nat_lt (slots - (age + 1) + bound) slots ≡ not (nat_lt age bound)
past_is age bound slots within = elim (cases_lt age bound) [
  | inl late ↦ le-ltb (slots - (age + 1) + bound) slots (omega arith) ∙ sym (ap not (lt-ltb age bound late))
  | inr early ↦ lt-ltb (slots - (age + 1) + bound) slots (omega arith) ∙ sym (ap not (le-ltb age bound early))
]

none_held_back : (settled : Placed → Bool) (x : Placed) (recent open_now accepted : Bool) → settled x ≡ (accepted || not open_now)
    → not ((not recent && open_now) && not accepted) ≡ list_all settled (if not recent then x ∷ [] else [])
none_held_back settled x true open_now accepted e = refl
none_held_back settled x false true true e = rw e refl
none_held_back settled x false true false e = rw e refl
none_held_back settled x false false true e = rw e refl
none_held_back settled x false false false e = rw e refl

settled_is : (a c l : Bool) (f : FrameParts) (d e rest : List FrameParts) → d ≡ e ++ (if l then rest else [])
    → (if a then f ∷ d else if c then d else []) ≡ (if a then f ∷ e else if c then e else []) ++ (if (a || c) && l then rest else [])
settled_is true c l f d e rest h = ap (λ xs. f ∷ xs) h
settled_is false true l f d e rest h = h
settled_is false false l f d e rest h = refl

done_or_not : (accepted clear closed : Bool) (f : FrameParts)
    → (if accepted && clear then f ∷ [] else []) ≡ (if clear then (if accepted then f ∷ [] else if closed then [] else []) else [])
done_or_not true true closed f = refl
done_or_not true false closed f = refl
done_or_not false true true f = refl
done_or_not false true false f = refl
done_or_not false false closed f = refl

nothing_either : (b : Bool) → ◌≡◌ {A = List FrameParts} [] (if b then [] else [])
nothing_either true = refl
nothing_either false = refl

module _ (p : Parameters) (i : ℕ) (past : List NoticeKind) where
  -- a message that is neither accepted nor closed holds those after it back
  done_of-split : (xs ys : List Placed)
      → done_of p i past (xs ++ ys) ≡ done_of p i past xs ++ (if list_all (is_settled p i past) xs then done_of p i past ys else [])
  done_of-split [] ys = refl
  done_of-split (x ∷ xs) ys =
      settled_is (has_accepted p i past x) (is_past p past x) (list_all (is_settled p i past) xs) x.frame (done_of p i past (xs ++ ys)) (done_of p i past xs)
      (done_of p i past ys) (done_of-split xs ys)

  pub done_of-append : (xs ys : List Placed) → list_all (is_settled p i past) xs ≡ true
      → done_of p i past (xs ++ ys) ≡ done_of p i past xs ++ done_of p i past ys
  done_of-append xs ys settled = done_of-split xs ys ∙ ap (λ b. done_of p i past xs ++ (if b then done_of p i past ys else [])) settled

  pub done_of-accepted : (xs ys : List Placed) → AllByRecursion (λ x. has_accepted p i past x ≡ true) xs
      → done_of p i past (xs ++ ys) ≡ map (λ x. x.frame) xs ++ done_of p i past ys
  done_of-accepted [] ys accepted = refl
  done_of-accepted (x ∷ xs) ys accepted = rw accepted.0 (ap (λ frames. x.frame ∷ frames) (done_of-accepted xs ys accepted.1))

  -- an open message that is not accepted holds the later ones back
  pub done_of-pending : (x : Placed) (items : List Placed) → has_accepted p i past x ≡ false → is_past p past x ≡ false → done_of p i past (x ∷ items) ≡ []
  done_of-pending x items other not_past = rw other (rw not_past refl)

  -- those that were placed in the newest `bound` notices are open
  pub open_not_past : AllByRecursion (λ x. is_past p past x ≡ false) (placed_in p.bound past)
  open_not_past =
      Each-weaker (IsWithin p.bound past) (λ x. is_past p past x ≡ false) (λ x within. le-ltb (x.place + p.bound) (length past) within.0)
      (placed_in p.bound past) (placed_within p.bound past)

  -- ---- it is the walk of the rule

  pending_is : (age : ℕ) (o : Option FrameParts) → age + 1 ≤ length past
      → not (is_pending p i past age o) ≡ list_all (is_settled p i past) (placed_at past age o)
  pending_is age None within = refl
  pending_is age (Some f) within =
      let x : Placed = record { frame = f; place = length past - (age + 1) } in
      none_held_back (is_settled p i past) x (is_recent age (message_in f) past) (nat_lt age p.bound) (is_accepted p.bound i (message_in f) past)
      (ap (λ b. is_accepted p.bound i (message_in f) past || b) (past_is age p.bound (length past) within))

  clear_is : (age : ℕ) (older : List NoticeKind) → age + length older ≤ length past
      → is_clear p i past age older ≡ list_all (is_settled p i past) (placed_from past age older)
  unfolding is_clear placed_from
  clear_is age [] within = refl
  clear_is age (notice ∷ older) within =
      let later : List Placed = placed_from past (age + 1) older in
      ap (λ b. b && is_clear p i past (age + 1) older) (pending_is age (tot_in notice) (omega arith))
      ∙ ap (λ b. list_all (is_settled p i past) (placed_at past age (tot_in notice)) && b) (clear_is (age + 1) older (omega arith))
      ∙ and_comm (list_all (is_settled p i past) (placed_at past age (tot_in notice))) (list_all (is_settled p i past) later)
      ∙ sym (list_all-append (is_settled p i past) later (placed_at past age (tot_in notice)))

  at_is : (age : ℕ) (older : List NoticeKind) (o : Option FrameParts)
      → done_at p i past age older o ≡ (if is_clear p i past (age + 1) older then done_of p i past (placed_at past age o) else [])
  at_is age older None = nothing_either (is_clear p i past (age + 1) older)
  at_is age older (Some f) = elim (cases_Bool (is_recent age (message_in f) past)) [
    | inl recent ↦ rw recent (nothing_either (is_clear p i past (age + 1) older))
    | inr first ↦
        rw first
        (done_or_not (is_accepted p.bound i (message_in f) past) (is_clear p i past (age + 1) older)
        (is_past p past (record { frame = f; place = length past - (age + 1) })) f)
  ]

  from_is : (age : ℕ) (older : List NoticeKind) → age + length older ≤ length past
      → done_from p i past age older ≡ done_of p i past (placed_from past age older)
  unfolding done_from placed_from
  from_is age [] within = refl
  from_is age (notice ∷ older) within =
      let later : List Placed = placed_from past (age + 1) older in
      let here : List Placed = placed_at past age (tot_in notice) in
      ap (λ frames. frames ++ done_at p i past age older (tot_in notice)) (from_is (age + 1) older (omega arith))
      ∙ ap (λ frames. done_of p i past later ++ frames) (at_is age older (tot_in notice))
      ∙ ap (λ b. done_of p i past later ++ (if b then done_of p i past here else [])) (clear_is (age + 1) older (omega arith))
      ∙ sym (done_of-split later here)

pub done_is : (p : Parameters) (i : ℕ) (past : List NoticeKind) → done p i past ≡ done_of p i past (placed_from past 0 past)
done_is p i past = from_is p i past 0 past (omega arith)

-- ---- the message that closes now

-- the frame, if its message is accepted
abbrev pub if_accepted : Parameters → ℕ → List NoticeKind → Option FrameParts → List FrameParts
if_accepted p i past None = []
if_accepted p i past (Some f) = if is_accepted p.bound i (message_in f) past then f ∷ [] else []

-- a place of this age is one of the notices
age_within : (n : ℕ) (past : List NoticeKind) → IsAtAge n past → n < length past
unfolding tot_in
age_within n past is = elim (cases_lt n (length past)) [
  | inl within ↦ within
  | inr after ↦ absurd (none-some is.frame (sym (ap (λ e. tot_in e) (get_or_past past n Idle after)) ∙ is.brings))
]

module _ (p : Parameters) (i : ℕ) (past : List NoticeKind) where
  first_or_not : (accepted : Bool) (f : FrameParts) (frames : List FrameParts)
      → (if accepted then f ∷ frames else frames) ≡ (if accepted then f ∷ [] else []) ++ frames
  first_or_not true f frames = refl
  first_or_not false f frames = refl

  done_of-at_age : (items : List Placed)
      → done_of p i past (at_age p.bound past ++ items) ≡ if_accepted p i past (first_frame (at_age p.bound past)) ++ done_of p i past items
  done_of-at_age items = elim (at_age_cases p.bound past) [
    | inl none ↦
        ap (λ first. done_of p i past (first ++ items)) none ∙ sym (ap (λ first. if_accepted p i past (first_frame first) ++ done_of p i past items) none)
    | inr is ↦
        let x : Placed = record { frame = is.frame; place = length past - (p.bound + 1) } in
        let closed : is_past p past x ≡ true = lt-ltb (length past - (p.bound + 1) + p.bound) (length past) (omega (arith, age_within p.bound past is)) in
        ap (λ first. done_of p i past (first ++ items)) is.alone
        ∙ ap (λ b. if has_accepted p i past x then x.frame ∷ done_of p i past items else if b then done_of p i past items else []) closed
        ∙ first_or_not (has_accepted p i past x) x.frame (done_of p i past items)
        ∙ sym (ap (λ first. if_accepted p i past (first_frame first) ++ done_of p i past items) is.alone)
  ]

-- the message that closes now comes first, and holds none back
pub done_of-closing : (p : Parameters) (i slot : ℕ) (past : List NoticeKind) → length past ≡ suc slot → p.bound ≤ slot
    → done_of p i past (placed_in (p.bound + 1) past)
    ≡ if_accepted p i past (oldest_from (slot - p.bound) (placed_in (p.bound + 1) past)) ++ done_of p i past (placed_in p.bound past)
done_of-closing p i slot past at late =
    ap (done_of p i past) (placed_split p.bound past)
    ∙ done_of-at_age p i past (placed_in p.bound past)
    ∙ ap (λ o. if_accepted p i past o ++ done_of p i past (placed_in p.bound past)) (sym (oldest_is p.bound slot past at late))

-- ---- which frames are among others

-- whether the frame of this identity is one of these
abbrev pub has_frame : Identity → List FrameParts → Bool
has_frame x frames = list_any (λ g. same_identity x (identity_of g)) frames

-- each frame is there once
abbrev pub FramesOnce : List FrameParts → Type 0
FramesOnce [] = Unit {0}
FramesOnce (f ∷ frames) = (is_among frames f ≡ false) × FramesOnce frames

same_identity_back : (x y : Identity) → same_identity x y ≡ false → same_identity y x ≡ false
same_identity_back x y apart = false_from_ne_true (same_identity y x) (λ same.
    false≢true (sym apart ∙ ap (λ z. same_identity x z) (same_identity-true y x same) ∙ same_identity_self x))

pub new_among-append : (before xs ys : List FrameParts) → new_among before (xs ++ ys) ≡ new_among before xs ++ new_among before ys
new_among-append before xs ys = filter-append (λ f. not (is_among before f)) xs ys

pub new_among-none : (before frames : List FrameParts) → AllByRecursion (λ f. is_among before f ≡ true) frames → new_among before frames ≡ []
new_among-none before [] all = refl
new_among-none before (f ∷ frames) all = rw all.0 (new_among-none before frames all.1)

-- what is there after the new ones were added
pub has_frame-with_new : (x : Identity) (before frames : List FrameParts) → has_frame x (with_new before frames) ≡ (has_frame x before || has_frame x frames)
has_frame-with_new x before frames =
    list_any-append (λ g. same_identity x (identity_of g)) before (new_among before frames)
    ∙ ap (λ b. has_frame x before || b)
    (any-filter_same (λ g. same_identity x (identity_of g)) (λ f. not (is_among before f)) (not (has_frame x before))
    (λ f same. ap (λ y. not (has_frame y before)) (sym (same_identity-true x (identity_of f) same))) frames)
    ∙ either (has_frame x before) (has_frame x frames)
  where
    either : (a b : Bool) → (a || (not a && b)) ≡ (a || b)
    either true b = refl
    either false b = refl

filter_same : {X : Type 0} (p q : X → Bool) (xs : List X) → AllByRecursion (λ x. p x ≡ q x) xs → filter p xs ≡ filter q xs
filter_same p q [] same = refl
filter_same p q (x ∷ xs) same = rw (same.0, filter_same p q xs same.1) refl

-- of frames that are there once, the later ones are not among the earlier ones
none_of : {X : Type 0} (test : X → Bool) (xs : List X) → list_any test xs ≡ false → AllByRecursion (λ x. test x ≡ false) xs
none_of test [] none = tt
none_of test (x ∷ xs) none = let parts = or_parts (test x) (list_any test xs) none in (parts.0, none_of test xs parts.1)

both_of : {X : Type 0} (P Q R : X → Type 0) → ((x : X) → P x → Q x → R x) → (xs : List X) → AllByRecursion P xs → AllByRecursion Q xs → AllByRecursion R xs
both_of P Q R f [] a b = tt
both_of P Q R f (x ∷ xs) a b = (f x a.0 b.0, both_of P Q R f xs a.1 b.1)

later_apart : (xs ys : List FrameParts) → FramesOnce (xs ++ ys) → AllByRecursion (λ f. is_among xs f ≡ false) ys
later_apart [] ys once = every ys
  where
    every : (ys : List FrameParts) → AllByRecursion (λ f. is_among [] f ≡ false) ys
    every [] = tt
    every (f ∷ ys) = (refl, every ys)
later_apart (x ∷ xs) ys once =
    let apart = or_parts (is_among xs x) (is_among ys x) (sym (list_any-append (λ g. same_identity (identity_of x) (identity_of g)) xs ys) ∙ once.0) in
    both_of (λ f. same_identity (identity_of x) (identity_of f) ≡ false) (λ f. is_among xs f ≡ false) (λ f. is_among (x ∷ xs) f ≡ false)
    (λ f a b. or_from (same_identity (identity_of f) (identity_of x)) (is_among xs f) (same_identity_back (identity_of x) (identity_of f) a) b) ys
    (none_of (λ g. same_identity (identity_of x) (identity_of g)) ys apart.1) (later_apart xs ys once.1)

-- frames that are new one after another
pub new_among-after : (before xs ys : List FrameParts) → FramesOnce (xs ++ ys) → new_among (with_new before xs) ys ≡ new_among before ys
new_among-after before xs ys once =
    filter_same (λ f. not (is_among (with_new before xs) f)) (λ f. not (is_among before f)) ys
    (Each-weaker (λ f. is_among xs f ≡ false) (λ f. not (is_among (with_new before xs) f) ≡ not (is_among before f))
    (λ f apart.
    ap not (has_frame-with_new (identity_of f) before xs ∙ ap (λ b. is_among before f || b) apart ∙ or-false (is_among before f))) ys
    (later_apart xs ys once))

pub with_new-append : (before xs ys : List FrameParts) → FramesOnce (xs ++ ys) → with_new before (xs ++ ys) ≡ with_new (with_new before xs) ys
with_new-append before xs ys once =
    ap (λ frames. before ++ frames) (new_among-append before xs ys)
    ∙ sym (append_assoc before (new_among before xs) (new_among before ys))
    ∙ ap (λ frames. with_new before xs ++ frames) (sym (new_among-after before xs ys once))

any_none : {X : Type 0} (test : X → Bool) (xs : List X) → AllByRecursion (λ x. test x ≡ false) xs → list_any test xs ≡ false
any_none test [] none = refl
any_none test (x ∷ xs) none = or_from (test x) (list_any test xs) none.0 (any_none test xs none.1)

once-append : (xs ys : List FrameParts) → FramesOnce xs → FramesOnce ys → AllByRecursion (λ f. is_among xs f ≡ false) ys → FramesOnce (xs ++ ys)
once-append [] ys a b apart = b
once-append (x ∷ xs) ys a b apart =
    let turned : is_among ys x ≡ false =
    any_none (λ g. same_identity (identity_of x) (identity_of g)) ys
    (Each-weaker (λ f. is_among (x ∷ xs) f ≡ false) (λ f. same_identity (identity_of x) (identity_of f) ≡ false)
    (λ f none.
    same_identity_back (identity_of f) (identity_of x) (or_parts (same_identity (identity_of f) (identity_of x)) (is_among xs f) none).0) ys apart) in (
      list_any-append (λ g. same_identity (identity_of x) (identity_of g)) xs ys ∙ or_from (is_among xs x) (is_among ys x) a.0 turned,
      once-append xs ys a.1 b
          (Each-weaker (λ f. is_among (x ∷ xs) f ≡ false) (λ f. is_among xs f ≡ false)
          (λ f none. (or_parts (same_identity (identity_of f) (identity_of x)) (is_among xs f) none).1) ys apart),
    )

once-filter : (p : FrameParts → Bool) (frames : List FrameParts) → FramesOnce frames → FramesOnce (filter p frames)
once-filter p [] once = tt
once-filter p (f ∷ frames) once = elim (cases_Bool (p f)) [
  | inl kept ↦
      let test : FrameParts → Bool = λ g. same_identity (identity_of f) (identity_of g) in
      rw kept (any_none test (filter p frames) (Each-filter (λ g. test g ≡ false) p frames (none_of test frames once.0)), once-filter p frames once.1)
  | inr gone ↦ rw gone (once-filter p frames once.1)
]

pub once-with_new : (before frames : List FrameParts) → FramesOnce before → FramesOnce frames → FramesOnce (with_new before frames)
once-with_new before frames a b =
    let p : FrameParts → Bool = λ f. not (is_among before f) in
    once-append before (new_among before frames) a (once-filter p frames b)
    (Each-weaker (λ f. p f ≡ true) (λ f. is_among before f ≡ false) (λ f new. not-true (is_among before f) new) (new_among before frames)
    (recursion_from_All (λ f. p f ≡ true) (new_among before frames) (filter_passes p frames)))

-- ---- each message is delivered once

module _ (p : Parameters) (i : ℕ) (past : List NoticeKind) where
  any_done : (test : FrameParts → Bool) (items : List Placed) → list_any (λ x. test x.frame) items ≡ false → list_any test (done_of p i past items) ≡ false
  any_done test [] none = refl
  any_done test (x ∷ items) none =
      let parts = or_parts (test x.frame) (list_any (λ y. test y.frame) items) none in
      elim (cases_Bool (has_accepted p i past x)) [
        | inl accepted ↦ rw accepted (or_from (test x.frame) (list_any test (done_of p i past items)) parts.0 (any_done test items parts.1))
        | inr other ↦ elim (cases_Bool (is_past p past x)) [
          | inl closed ↦ rw other (rw closed (any_done test items parts.1))
          | inr pending ↦ rw other (rw pending refl)
        ]
      ]

  -- frames of different messages have different identities
  other_frame : (f : FrameParts) (y : Placed) → is_at (message_in f) y ≡ false → same_identity (identity_of f) (identity_of y.frame) ≡ false
  other_frame f y other = false_from_ne_true (same_identity (identity_of f) (identity_of y.frame)) (λ same.
      let key : message_in f ≡ message_in y.frame =
      ap (λ (x : Identity). record { origin = x.node; seq = x.number }) (same_identity-true (identity_of f) (identity_of y.frame) same) in
      false≢true (sym other ∙ ap (λ k. same_key k (message_in y.frame)) key ∙ same_key_self (message_in y.frame)))

  walk_once : (items : List Placed) → AreOnce items → FramesOnce (done_of p i past items)
  walk_once [] once = tt
  walk_once (x ∷ items) once =
      let test : FrameParts → Bool = λ g. same_identity (identity_of x.frame) (identity_of g) in
      let apart : is_among (done_of p i past items) x.frame ≡ false =
      any_done test items
      (any_none (λ y. test y.frame) items
      (Each-weaker (λ y. is_at (message_in x.frame) y ≡ false) (λ y. test y.frame ≡ false) (other_frame x.frame) items
      (none_of (is_at (message_in x.frame)) items once.0))) in
      elim (cases_Bool (has_accepted p i past x)) [
        | inl accepted ↦ rw accepted (apart, walk_once items once.1)
        | inr other ↦ elim (cases_Bool (is_past p past x)) [
          | inl closed ↦ rw other (rw closed (walk_once items once.1))
          | inr pending ↦ rw other (rw pending tt)
        ]
      ]

pub done_of-once : (p : Parameters) (i n : ℕ) (past : List NoticeKind) → FramesOnce (done_of p i past (placed_in n past))
done_of-once p i n past = walk_once p i past (placed_in n past) (placed_once n past)

pub delivered_once : (p : Parameters) (i : ℕ) (past : List NoticeKind) → FramesOnce (delivered p i past)
unfolding delivered
delivered_once p i [] = tt
delivered_once p i (notice ∷ before) =
    let past : List NoticeKind = notice ∷ before in
    let once : FramesOnce (done p i past) =
    subst FramesOnce (sym (done_is p i past ∙ ap (done_of p i past) (sym (placed_whole past)))) (done_of-once p i (length past) past) in
    once-with_new (delivered p i before) (done p i past) (delivered_once p i before) once

-- ---- the messages that were placed before the newest notices

-- the place is older than the n newest notices
pub record IsOlder (n : ℕ) (past : List NoticeKind) (x : Placed) : Type 0 where
  pub tot : x.frame.class ≡ class.Tot
  pub early : x.place + n < length past
  pub closed : is_recent n (message_in x.frame) past ≡ false

-- of the messages whose places are so many newest notices those of the n newest come last
pub record ArePlaced (n many : ℕ) (past : List NoticeKind) : Type 0 where
  pub older : List Placed
  pub split : placed_in many past ≡ older ++ placed_in n past
  pub all : AllByRecursion (IsOlder n past) older

at_age_older : (n m : ℕ) (past : List NoticeKind) → n ≤ m → AllByRecursion (IsOlder n past) (at_age m past)
at_age_older n m past fewer = elim (at_age_cases m past) [
  | inl none ↦ subst (AllByRecursion (IsOlder n past)) (sym none) tt
  | inr is ↦
      let within : m < length past = age_within m past is in
      let x : Placed = record { frame = is.frame; place = length past - (m + 1) } in
      let old : IsOlder n past x =
      record {
        tot = tot_in-class (slice_index_or past m Idle) is.frame is.brings;
        early = omega arith;
        closed =
            false_from_ne_true (is_recent n (message_in is.frame) past)
            (λ recent. false≢true (sym is.closed ∙ recent_weaker n m (message_in is.frame) past fewer recent));
      } in
      subst (AllByRecursion (IsOlder n past)) (sym is.alone) (old, tt)
]

older_in : (n k : ℕ) (past : List NoticeKind) → ArePlaced n (n + k) past
older_in n zero past =
    let none : n + 0 ≡ n = omega arith in
    record { older = []; split = ap (λ m. placed_in m past) none; all = tt }
older_in n (suc k) past =
    let w = older_in n k past in
    let next : n + suc k ≡ n + k + 1 = omega arith in
    record {
      older = at_age (n + k) past ++ w.older;
      split =
          ap (λ m. placed_in m past) next
          ∙ placed_split (n + k) past
          ∙ ap (λ items. at_age (n + k) past ++ items) w.split
          ∙ sym (append_assoc (at_age (n + k) past) w.older (placed_in n past));
      all = Each-append (IsOlder n past) (at_age (n + k) past) w.older (at_age_older n (n + k) past (omega arith)) w.all;
    }

-- the rest is closed, and holds none back
module _ (p : Parameters) (i : ℕ) (past : List NoticeKind) where
  abbrev earlier : ArePlaced (p.bound + 1) (p.bound + 1 + length past) past
  earlier = older_in (p.bound + 1) (length past) past

  earlier_settled : (items : List Placed) → AllByRecursion (IsOlder (p.bound + 1) past) items → list_all (is_settled p i past) items ≡ true
  earlier_settled [] all = refl
  earlier_settled (x ∷ items) all =
      and_from (is_settled p i past x) (list_all (is_settled p i past) items)
      (or_right (has_accepted p i past x) (is_past p past x) (lt-ltb (x.place + p.bound) (length past) (omega (arith, all.0.early))))
      (earlier_settled items all.1)

  done_parts : done p i past ≡ done_of p i past earlier.older ++ done_of p i past (placed_in (p.bound + 1) past)
  done_parts =
      done_is p i past
      ∙ ap (λ notices. done_of p i past (placed_from past 0 notices)) (sym (take_all (p.bound + 1 + length past) past (omega arith)))
      ∙ ap (done_of p i past) earlier.split
      ∙ done_of-append p i past earlier.older (placed_in (p.bound + 1) past) (earlier_settled earlier.older earlier.all)

  -- a message that is accepted and closes now is done
  module _ (key : MsgKey) (accepted : is_accepted p.bound i key past ≡ true) (recent : is_recent (p.bound + 1) key past ≡ true)
      (closed : is_recent p.bound key past ≡ false) where
    is_closing : list_any (is_at key) (at_age p.bound past) ≡ true
    is_closing =
        let either : (list_any (is_at key) (at_age p.bound past) || list_any (is_at key) (placed_in p.bound past)) ≡ true =
        sym (list_any-append (is_at key) (at_age p.bound past) (placed_in p.bound past))
        ∙ ap (list_any (is_at key)) (sym (placed_split p.bound past))
        ∙ open_is (p.bound + 1) key past
        ∙ recent in
        elim (or_cases (list_any (is_at key) (at_age p.bound past)) (list_any (is_at key) (placed_in p.bound past)) either) [
          | inl here ↦ here
          | inr later ↦ absurd (false≢true (sym (open_is p.bound key past ∙ closed) ∙ later))
        ]

    frame_closing : has_frame (tot_of_key key) (if_accepted p i past (first_frame (at_age p.bound past))) ≡ true
    frame_closing = elim (at_age_cases p.bound past) [
      | inl none ↦ absurd (false≢true (sym (ap (list_any (is_at key)) none) ∙ is_closing))
      | inr is ↦
          let x : Placed = record { frame = is.frame; place = length past - (p.bound + 1) } in
          let here : is_at key x ≡ true = sym (or-false (is_at key x)) ∙ sym (ap (list_any (is_at key)) is.alone) ∙ is_closing in
          let same : key ≡ message_in is.frame = same_key-true key (message_in is.frame) here in
          let tot : is.frame.class ≡ class.Tot = tot_in-class (slice_index_or past p.bound Idle) is.frame is.brings in
          ap (λ first. has_frame (tot_of_key key) (if_accepted p i past (first_frame first))) is.alone
          ∙ ap (λ b. has_frame (tot_of_key key) (if b then is.frame ∷ [] else [])) (ap (λ k. is_accepted p.bound i k past) (sym same) ∙ accepted)
          ∙ or_left (same_identity (tot_of_key key) (identity_of is.frame)) false
          (same_identity-from (tot_of_key key) (identity_of is.frame) (ap (λ k. tot_of_key k) same ∙ sym (identity_is class.Tot is.frame tot)))
    ]

    closing_done : has_frame (tot_of_key key) (done p i past) ≡ true
    closing_done =
        let test : FrameParts → Bool = λ g. same_identity (tot_of_key key) (identity_of g) in
        let now : List FrameParts = if_accepted p i past (first_frame (at_age p.bound past)) in
        let rest : List FrameParts = done_of p i past (placed_in p.bound past) in
        ap (list_any test) done_parts
        ∙ ap (λ items. list_any test (done_of p i past earlier.older ++ done_of p i past items)) (placed_split p.bound past)
        ∙ ap (λ frames. list_any test (done_of p i past earlier.older ++ frames)) (done_of-at_age p i past (placed_in p.bound past))
        ∙ list_any-append test (done_of p i past earlier.older) (now ++ rest)
        ∙ or_right (list_any test (done_of p i past earlier.older)) (list_any test (now ++ rest))
        (list_any-append test now rest ∙ or_left (list_any test now) (list_any test rest) frame_closing)

-- ---- what was delivered

-- one notice before, a message whose place is older was closed
closed_before : (n : ℕ) (key : MsgKey) (notice : NoticeKind) (before : List NoticeKind) → is_recent (n + 1) key (notice ∷ before) ≡ false
    → (holds key notice ≡ false) × (is_recent n key before ≡ false)
closed_before n key notice before old = or_parts (holds key notice) (is_recent n key before) (sym (recent_more n key notice before) ∙ old)

-- an accepted message was delivered once it is closed
pub closed_delivered : (p : Parameters) (i : ℕ) (key : MsgKey) (past : List NoticeKind) → is_accepted p.bound i key past ≡ true
    → is_recent p.bound key past ≡ false → has_frame (tot_of_key key) (delivered p i past) ≡ true
unfolding delivered
closed_delivered p i key [] accepted closed = absurd (false≢true (sym (recent_none key []) ∙ accepted_placed p.bound i key [] accepted))
closed_delivered p i key (notice ∷ before) accepted closed =
    let past : List NoticeKind = notice ∷ before in
    has_frame-with_new (tot_of_key key) (delivered p i before) (done p i past)
    ∙ elim (cases_Bool (is_recent (p.bound + 1) key past)) [
      | inl recent ↦
          or_right (has_frame (tot_of_key key) (delivered p i before)) (has_frame (tot_of_key key) (done p i past))
          (closing_done p i past key accepted recent closed)
      | inr old ↦
          let w = closed_before p.bound key notice before old in
          or_left (has_frame (tot_of_key key) (delivered p i before)) (has_frame (tot_of_key key) (done p i past))
          (closed_delivered p i key before (sym (accepted_before p.bound i key notice before w.0 w.1) ∙ accepted) w.1)
    ]

-- so of those that are done the ones that were placed before the newest notices are delivered
-- already
module _ (p : Parameters) (i : ℕ) (notice : NoticeKind) (before : List NoticeKind) where
  older_delivered : (x : Placed) → IsOlder (p.bound + 1) (notice ∷ before) x → has_accepted p i (notice ∷ before) x ≡ true
      → is_among (delivered p i before) x.frame ≡ true
  older_delivered x old accepted =
      let w = closed_before p.bound (message_in x.frame) notice before old.closed in
      ap (λ y. has_frame y (delivered p i before)) (identity_is class.Tot x.frame old.tot)
      ∙ closed_delivered p i (message_in x.frame) before (sym (accepted_before p.bound i (message_in x.frame) notice before w.0 w.1) ∙ accepted) w.1

  all_delivered : (items : List Placed) → AllByRecursion (IsOlder (p.bound + 1) (notice ∷ before)) items
      → AllByRecursion (λ f. is_among (delivered p i before) f ≡ true) (done_of p i (notice ∷ before) items)
  all_delivered [] all = tt
  all_delivered (x ∷ items) all = elim (cases_Bool (has_accepted p i (notice ∷ before) x)) [
    | inl accepted ↦ rw accepted (older_delivered x all.0 accepted, all_delivered items all.1)
    | inr other ↦ elim (cases_Bool (is_past p (notice ∷ before) x)) [
      | inl closed ↦ rw other (rw closed (all_delivered items all.1))
      | inr pending ↦ rw other (rw pending tt)
    ]
  ]

  new_is : new_among (delivered p i before) (done p i (notice ∷ before))
      ≡ new_among (delivered p i before) (done_of p i (notice ∷ before) (placed_in (p.bound + 1) (notice ∷ before)))
  new_is =
      let past : List NoticeKind = notice ∷ before in
      let old = earlier p i past in
      let now : List FrameParts = done_of p i past (placed_in (p.bound + 1) past) in
      ap (new_among (delivered p i before)) (done_parts p i past)
      ∙ new_among-append (delivered p i before) (done_of p i past old.older) now
      ∙ ap (λ frames. frames ++ new_among (delivered p i before) now)
      (new_among-none (delivered p i before) (done_of p i past old.older) (all_delivered old.older old.all))

  -- what is delivered now was placed in the newest notices
  pub delivered_now_is : delivered_now p i (notice ∷ before)
      ≡ new_among (delivered p i before) (done_of p i (notice ∷ before) (placed_in (p.bound + 1) (notice ∷ before)))
  unfolding delivered_now
  delivered_now_is = new_is

  pub delivered_more : delivered p i (notice ∷ before)
      ≡ with_new (delivered p i before) (done_of p i (notice ∷ before) (placed_in (p.bound + 1) (notice ∷ before)))
  unfolding delivered
  delivered_more = ap (λ frames. delivered p i before ++ frames) new_is
