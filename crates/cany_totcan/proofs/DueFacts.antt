-- The walk over the accepted messages, step by step.
use Rattle.std.proofs.Common.{◌≡◌, ℕ, zero, suc, ◌+◌, ◌<◌, ◌≤◌, ◌==◌, ◌&&◌, ◌||◌, inl, inr, Bool, true, false, if◌then◌else◌, not, List, [], ◌∷◌, ◌++◌, length, drop, Option, Some, None, refl, ap, sym, subst, ◌∙◌, append_assoc, arith, length-append}
use Rattle.std.specs.Prelude.{slice_get, option_map}
use Rattle.std.specs.List.{AllByRecursion, list_any}
use Rattle.std.proofs.lemmas.Bool.{and_parts, cases_Bool, eqb-true, or_parts, or_from}
use Rattle.std.proofs.lemmas.Bool.Decides.{nat_tests}
use Rattle.std.proofs.lemmas.List.{append-nil, length-drop, map-append}
use Rattle.std.proofs.lemmas.List.Elements.{filter-append}
use Rattle.std.proofs.lemmas.List.Folds.{list_any-append}
use Rattle.cany_base.specs.declared.actions.Action.{Action}
use Rattle.cany_base.specs.declared.message.Service.TheVariants as service
use Rattle.cany_base.specs.Frame.{FrameParts}
use Rattle.cany_base.specs.Limits.{most_nodes}
use Rattle.cany_message.specs.Actions.{delivery_actions}
use Rattle.cany_model.proofs.Among.{Each-drop, Each-first, Each-second}
use Rattle.cany_totcan.specs.declared.queue.Placed.{Placed}
use Rattle.cany_totcan.specs.MessageSet.{MessageSetParts, has_message}
use Rattle.cany_totcan.specs.Acceptances.{RingParts}
use Rattle.cany_totcan.specs.Queue.{AreOnce, is_at}
use Rattle.cany_totcan.specs.Totcan.{TotcanParts}
use Rattle.cany_totcan.specs.TotcanSteps.{AreAdded, HaveGone, accepted_first, due, first_of, fresh_of, is_accepted_by, is_named, tot_actions}

-- ---- what is added to the deliveries

pub added_none : (v : MessageSetParts) → AreAdded [] v v
added_none v = record { delivered = λ s o near. refl; numbers = refl }

-- a message that was delivered before
pub added_again : (f : FrameParts) (v : MessageSetParts) → has_message v f.number f.node ≡ true → AreAdded (f ∷ []) v v
added_again f v was = record {
  delivered = λ s o near. elim (cases_Bool (is_named s o f)) [
    | inl here ↦
        let same = and_parts (s == f.number) (o == f.node) here in
        ap (λ n. has_message v n o) (eqb-true s f.number same.0) ∙ ap (has_message v f.number) (eqb-true o f.node same.1) ∙ was
        ∙ sym (ap (λ b. (b || false) || has_message v s o) here)
    | inr other ↦ sym (ap (λ b. (b || false) || has_message v s o) other)
  ];
  numbers = refl;
}

-- one that was not
pub added_one : (f : FrameParts) (v w : MessageSetParts)
    → ((s o : ℕ) → has_message w s o ≡ (s == f.number && o == f.node || has_message v s o))
    → length w.origins ≡ length v.origins → AreAdded (f ∷ []) v w
added_one f v w delivered numbers = record {
  delivered = λ s o near. delivered s o ∙ ap (λ b. b || has_message v s o) (or_none (is_named s o f));
  numbers = numbers;
}
  where
    or_none : (b : Bool) → b ≡ (b || false)
    or_none true = refl
    or_none false = refl

-- the actions of a delivery, if the message was not delivered before
pub delivery_is : (slot : ℕ) (v : MessageSetParts) (f : FrameParts) (new : Bool) → new ≡ not (has_message v f.number f.node)
    → delivery_actions service.Tot slot new f ≡ tot_actions slot (fresh_of v (f ∷ []))
delivery_is slot v f new is = ap (λ b. delivery_actions service.Tot slot b f) is ∙ go (not (has_message v f.number f.node))
  where
    go : (b : Bool) → delivery_actions service.Tot slot b f ≡ tot_actions slot (if b then f ∷ [] else [])
    go true = refl
    go false = refl

or_mid : (a b c : Bool) → (b || (a || c)) ≡ ((a || b) || c)
or_mid true true c = refl
or_mid true false c = refl
or_mid false true c = refl
or_mid false false c = refl

pub added_more : (xs ys : List FrameParts) (u v w : MessageSetParts) → AreAdded xs u v → AreAdded ys v w → AreAdded (xs ++ ys) u w
added_more xs ys u v w first second = record {
  delivered = λ s o near.
      second.delivered s o near ∙ ap (λ b. list_any (is_named s o) ys || b) (first.delivered s o near)
      ∙ or_mid (list_any (is_named s o) xs) (list_any (is_named s o) ys) (has_message u s o)
      ∙ ap (λ b. b || has_message u s o) (sym (list_any-append (is_named s o) xs ys));
  numbers = second.numbers ∙ first.numbers;
}

-- ---- which are to be done

-- the message at the index is the first that is to be done, if it is accepted
due-from : (v : TotcanParts) (n : ℕ) (items : List Placed) (f : FrameParts) (b : Bool) → option_map (λ x. x.frame) (slice_get items n) ≡ Some f
    → is_accepted_by v f ≡ b → accepted_first v (drop n items) ≡ (if b then f ∷ accepted_first v (drop (n + 1) items) else [])
unfolding accepted_first
due-from v zero [] f b at accepted = absurd (cc)
due-from v (suc n) [] f b at accepted = absurd (cc)
due-from v zero (x ∷ items) f b at accepted =
    let same : x.frame ≡ f = cc in
    let is : is_accepted_by v x.frame ≡ b = ap (is_accepted_by v) same ∙ accepted in
    rw is (ap (λ g. if b then g ∷ accepted_first v items else []) same)
due-from v (suc n) (x ∷ items) f b at accepted = let next : suc n + 1 ≡ suc (n + 1) = omega arith in rw next (due-from v n items f b at accepted)

due-at : (v : TotcanParts) (n : ℕ) (items : List Placed) (f : FrameParts) → option_map (λ x. x.frame) (slice_get items n) ≡ Some f → is_accepted_by v f ≡ true
    → accepted_first v (drop n items) ≡ f ∷ accepted_first v (drop (n + 1) items)
due-at v n items f at accepted = due-from v n items f true at accepted

pub due-none : (v : TotcanParts) (n : ℕ) (items : List Placed) (f : FrameParts) → option_map (λ x. x.frame) (slice_get items n) ≡ Some f → is_accepted_by v f ≡ false
    → accepted_first v (drop n items) ≡ []
due-none v n items f at other = due-from v n items f false at other

pub due-end : (v : TotcanParts) (n : ℕ) (items : List Placed) → slice_get items n ≡ None → accepted_first v (drop n items) ≡ []
unfolding accepted_first
due-end v zero [] at = refl
due-end v (suc n) [] at = refl
due-end v zero (x ∷ items) at = absurd (cc)
due-end v (suc n) (x ∷ items) at = due-end v n items at

-- the first that is to be done stands at the index, and is accepted
pub record IsFirstDue (v : TotcanParts) (n : ℕ) (items : List Placed) (f : FrameParts) : Type 0 where
  pub within : n < length items
  pub at : option_map (λ x. x.frame) (slice_get items n) ≡ Some f
  pub accepted : is_accepted_by v f ≡ true

pub due-first : (v : TotcanParts) (n : ℕ) (items : List Placed) (f : FrameParts) → first_of (accepted_first v (drop n items)) ≡ Some f → IsFirstDue v n items f
unfolding accepted_first
due-first v zero [] f is = absurd (cc)
due-first v (suc n) [] f is = absurd (cc)
due-first v (suc n) (x ∷ items) f is =
    let rest = due-first v n items f is in
    record { within = omega (arith, rest.within); at = rest.at; accepted = rest.accepted }
due-first v zero (x ∷ items) f is = go (is_accepted_by v x.frame) refl is
  where
    go : (b : Bool) → is_accepted_by v x.frame ≡ b → first_of (if b then x.frame ∷ accepted_first v items else []) ≡ Some f → IsFirstDue v zero (x ∷ items) f
    go true accepted at =
        let same : x.frame ≡ f = cc in
        record { within = omega arith; at = ap (λ g. Some g) same; accepted = ap (is_accepted_by v) (sym same) ∙ accepted }
    go false other at = absurd (cc)

pub each_at : (P : Placed → Type 0) (items : List Placed) (n : ℕ) (x : Placed) → AllByRecursion P items → slice_get items n ≡ Some x → P x
each_at P [] zero x each at = absurd (cc)
each_at P [] (suc n) x each at = absurd (cc)
each_at P (y ∷ items) zero x each at = let same : y ≡ x = cc in subst P same each.0
each_at P (y ∷ items) (suc n) x each at = each_at P items n x each.1 at

-- what is true of the frames of all
pub each_frame_at : (P : FrameParts → Type 0) (items : List Placed) (n : ℕ) (f : FrameParts) → AllByRecursion (λ x. P x.frame) items
    → option_map (λ x. x.frame) (slice_get items n) ≡ Some f → P f
each_frame_at P [] zero f each at = absurd (cc)
each_frame_at P [] (suc n) f each at = absurd (cc)
each_frame_at P (y ∷ items) zero f each at = let same : y.frame ≡ f = cc in subst P same each.0
each_frame_at P (y ∷ items) (suc n) f each at = each_frame_at P items n f each.1 at

pub length-due : (v : TotcanParts) (items : List Placed) → length (accepted_first v items) ≤ length items
unfolding accepted_first
length-due v [] = omega arith
length-due v (x ∷ items) = elim (cases_Bool (is_accepted_by v x.frame)) [
  | inl is ↦ rw is (omega (arith, length-due v items))
  | inr other ↦ rw other (omega arith)
]

pub each-due : (P : FrameParts → Type 0) (v : TotcanParts) (items : List Placed) → AllByRecursion (λ x. P x.frame) items → AllByRecursion P (accepted_first v items)
unfolding accepted_first
each-due P v [] each = tt
each-due P v (x ∷ items) each = elim (cases_Bool (is_accepted_by v x.frame)) [
  | inl is ↦ rw is (each.0, each-due P v items each.1)
  | inr other ↦ rw other tt
]

-- the same by another value that has the same acceptances and backlog
pub due-same : (v w : TotcanParts) (items : List Placed) → ((f : FrameParts) → is_accepted_by v f ≡ is_accepted_by w f)
    → accepted_first v items ≡ accepted_first w items
unfolding accepted_first
due-same v w [] same = refl
due-same v w (x ∷ items) same = rw (same x.frame, due-same v w items same) refl

-- ---- each is there once

abbrev pub NamedOnce : List FrameParts → Type 0
NamedOnce [] = Unit {0}
NamedOnce (f ∷ frames) = (list_any (is_named f.number f.node) frames ≡ false) × NamedOnce frames

due_among : (v : TotcanParts) (s o : ℕ) (items : List Placed) → list_any (is_at (record { origin = o; seq = s })) items ≡ false
    → list_any (is_named s o) (accepted_first v items) ≡ false
unfolding accepted_first
due_among v s o [] none = refl
due_among v s o (x ∷ items) none =
    let parts = or_parts (is_at (record { origin = o; seq = s }) x) (list_any (is_at (record { origin = o; seq = s })) items) none in
    elim (cases_Bool (is_accepted_by v x.frame)) [
      | inl is ↦ rw is (or_from (is_named s o x.frame) (list_any (is_named s o) (accepted_first v items)) parts.0 (due_among v s o items parts.1))
      | inr other ↦ rw other refl
    ]

pub due-once : (v : TotcanParts) (items : List Placed) → AreOnce items → NamedOnce (accepted_first v items)
unfolding accepted_first
due-once v [] once = tt
due-once v (x ∷ items) once = elim (cases_Bool (is_accepted_by v x.frame)) [
  | inl is ↦ rw is (due_among v x.frame.number x.frame.node items once.0, due-once v items once.1)
  | inr other ↦ rw other tt
]

pub once-drop : (n : ℕ) (items : List Placed) → AreOnce items → AreOnce (drop n items)
once-drop zero items once = once
once-drop (suc n) [] once = tt
once-drop (suc n) (x ∷ items) once = once-drop n items once.1

-- the later ones are not among the earlier ones
pub once-apart : (xs ys : List FrameParts) → NamedOnce (xs ++ ys) → AllByRecursion (λ f. list_any (is_named f.number f.node) xs ≡ false) ys
once-apart [] ys once = none ys
  where
    none : (ys : List FrameParts) → AllByRecursion (λ f. list_any (is_named f.number f.node) [] ≡ false) ys
    none [] = tt
    none (y ∷ ys) = (refl, none ys)
once-apart (x ∷ xs) ys once = both ys (once-apart xs ys once.1) (or_parts-append xs ys once.0)
  where
    or_parts-append : (xs ys : List FrameParts) → list_any (is_named x.number x.node) (xs ++ ys) ≡ false
        → AllByRecursion (λ f. is_named x.number x.node f ≡ false) ys
    or_parts-append xs [] none = tt
    or_parts-append [] (y ∷ ys) none =
        let parts = or_parts (is_named x.number x.node y) (list_any (is_named x.number x.node) ys) none in
        (parts.0, or_parts-append [] ys parts.1)
    or_parts-append (z ∷ xs) (y ∷ ys) none =
        or_parts-append xs (y ∷ ys) (or_parts (is_named x.number x.node z) (list_any (is_named x.number x.node) (xs ++ (y ∷ ys))) none).1

    back : (f : FrameParts) → is_named x.number x.node f ≡ false → is_named f.number f.node x ≡ false
    back f apart = grind (arith, nat_tests, apart)

    both : (ys : List FrameParts) → AllByRecursion (λ f. list_any (is_named f.number f.node) xs ≡ false) ys
        → AllByRecursion (λ f. is_named x.number x.node f ≡ false) ys
        → AllByRecursion (λ f. (is_named f.number f.node x || list_any (is_named f.number f.node) xs) ≡ false) ys
    both [] later apart = tt
    both (y ∷ ys) later apart = (or_from (is_named y.number y.node x) (list_any (is_named y.number y.node) xs) (back y apart.0) later.0, both ys later.1 apart.1)

pub once-left : (xs ys : List FrameParts) → NamedOnce (xs ++ ys) → NamedOnce xs
once-left [] ys once = tt
once-left (x ∷ xs) ys once =
    let parts = or_parts (list_any (is_named x.number x.node) xs) (list_any (is_named x.number x.node) ys)
    (sym (list_any-append (is_named x.number x.node) xs ys) ∙ once.0) in
    (parts.0, once-left xs ys once.1)

-- ---- those that were not delivered

pub fresh-append : (v : MessageSetParts) (xs ys : List FrameParts) → fresh_of v (xs ++ ys) ≡ fresh_of v xs ++ fresh_of v ys
fresh-append v xs ys = filter-append (λ f. not (has_message v f.number f.node)) xs ys

pub fresh-same : (u v : MessageSetParts) (xs ys : List FrameParts) → AreAdded xs u v → AllByRecursion (λ f. f.node < most_nodes) ys
    → AllByRecursion (λ f. list_any (is_named f.number f.node) xs ≡ false) ys → fresh_of v ys ≡ fresh_of u ys
fresh-same u v xs [] added small apart = refl
fresh-same u v xs (y ∷ ys) added small apart =
    let same : has_message v y.number y.node ≡ has_message u y.number y.node =
    added.delivered y.number y.node small.0 ∙ ap (λ b. b || has_message u y.number y.node) apart.0 in
    rw (same, fresh-same u v xs ys added small.1 apart.1) refl

pub actions-append : (slot : ℕ) (xs ys : List FrameParts) → tot_actions slot (xs ++ ys) ≡ tot_actions slot xs ++ tot_actions slot ys
actions-append slot xs ys = map-append _ xs ys

-- ---- steps

pub gone_none : (slot : ℕ) (v : TotcanParts) (before : List Action) → HaveGone slot v v before before
gone_none slot v before = record {
  gone = [];
  rest = refl;
  done = omega arith;
  state = refl;
  added = added_none v.deliveries;
  actions = sym (append-nil before);
}

-- some more
module _ (slot : ℕ) (u v w : TotcanParts) (a b c : List Action) (first : HaveGone slot u v a b) (second : HaveGone slot v w b c)
    (once : AreOnce u.queue.items) (small : AllByRecursion (λ x. x.frame.node < most_nodes) u.queue.items) where
  all : due u ≡ (first.gone ++ second.gone) ++ due w
  all = first.rest ∙ ap (λ rest. first.gone ++ rest) second.rest ∙ sym (append_assoc first.gone second.gone (due w))

  all_once : NamedOnce (first.gone ++ second.gone)
  all_once =
      once-left (first.gone ++ second.gone) (due w)
      (subst NamedOnce all (due-once u (drop u.queue.done u.queue.items) (once-drop u.queue.done u.queue.items once)))

  second_small : AllByRecursion (λ f. f.node < most_nodes) second.gone
  second_small =
      let near : AllByRecursion (λ f. f.node < most_nodes) (due u) =
      each-due (λ f. f.node < most_nodes) u (drop u.queue.done u.queue.items) (Each-drop (λ x. x.frame.node < most_nodes) u.queue.done u.queue.items small) in
      Each-second (λ f. f.node < most_nodes) first.gone second.gone
      (Each-first (λ f. f.node < most_nodes) (first.gone ++ second.gone) (due w) (subst (AllByRecursion (λ f. f.node < most_nodes)) all near))

  fresh_is : fresh_of v.deliveries second.gone ≡ fresh_of u.deliveries second.gone
  fresh_is = fresh-same u.deliveries v.deliveries first.gone second.gone first.added second_small (once-apart first.gone second.gone all_once)

  pub gone_more : HaveGone slot u w a c
  gone_more = record {
    gone = first.gone ++ second.gone;
    rest = all;
    done = omega (arith, second.done, first.done, length-append first.gone second.gone);
    state = second.state ∙ ap (λ (x : TotcanParts). record x { queue = record x.queue { done = w.queue.done }; deliveries = w.deliveries }) first.state;
    added = added_more first.gone second.gone u.deliveries v.deliveries w.deliveries first.added second.added;
    actions =
        second.actions
        ∙ ap (λ actions. actions ++ tot_actions slot (fresh_of v.deliveries second.gone)) first.actions
        ∙ append_assoc a (tot_actions slot (fresh_of u.deliveries first.gone)) (tot_actions slot (fresh_of v.deliveries second.gone))
        ∙ ap (λ actions. a ++ actions)
        (ap (λ frames. tot_actions slot (fresh_of u.deliveries first.gone) ++ tot_actions slot frames) fresh_is
        ∙ sym (actions-append slot (fresh_of u.deliveries first.gone) (fresh_of u.deliveries second.gone))
        ∙ ap (tot_actions slot) (sym (fresh-append u.deliveries first.gone second.gone)));
  }

-- one step: the first that is due
pub due_one : (u w : TotcanParts) (f : FrameParts) → option_map (λ x. x.frame) (slice_get u.queue.items u.queue.done) ≡ Some f
    → is_accepted_by u f ≡ true → w ≡ record u { queue = record u.queue { done = u.queue.done + 1 }; deliveries = w.deliveries } → due u ≡ f ∷ due w
due_one u w f at accepted state =
    let rest : due w ≡ accepted_first u (drop (u.queue.done + 1) u.queue.items) =
    ap due state
    ∙ due-same (record u { queue = record u.queue { done = u.queue.done + 1 }; deliveries = w.deliveries }) u (drop (u.queue.done + 1) u.queue.items) (λ g. refl) in
    due-at u u.queue.done u.queue.items f at accepted ∙ ap (λ frames. f ∷ frames) (sym rest)

pub gone_one : (slot : ℕ) (u w : TotcanParts) (f : FrameParts) (a c : List Action) → option_map (λ x. x.frame) (slice_get u.queue.items u.queue.done) ≡ Some f
    → is_accepted_by u f ≡ true → w ≡ record u { queue = record u.queue { done = u.queue.done + 1 }; deliveries = w.deliveries }
    → AreAdded (f ∷ []) u.deliveries w.deliveries → c ≡ a ++ tot_actions slot (fresh_of u.deliveries (f ∷ [])) → HaveGone slot u w a c
gone_one slot u w f a c at accepted state added actions =
    let done : w.queue.done ≡ u.queue.done + 1 = ap (λ (x : TotcanParts). x.queue.done) state in
    record {
      gone = f ∷ [];
      rest = due_one u w f at accepted state;
      done = done;
      state = state ∙ ap (λ n. record u { queue = record u.queue { done = n }; deliveries = w.deliveries }) (sym done);
      added = added;
      actions = actions;
    }

-- the walk stands where the first that is not done is not accepted
pub gone_end : (v : TotcanParts) → first_of (due v) ≡ None → due v ≡ []
gone_end v none = go (due v) none
  where
    go : (frames : List FrameParts) → first_of frames ≡ None → frames ≡ []
    go [] none = refl
    go (f ∷ frames) none = absurd (cc)

-- ---- the first that is due, from the message that is not done

pub first_none : (v : TotcanParts) → option_map (λ x. x.frame) (slice_get v.queue.items v.queue.done) ≡ None → None ≡ first_of (due v)
first_none v at = ap first_of (sym (due-end v v.queue.done v.queue.items (none (slice_get v.queue.items v.queue.done) at)))
  where
    none : (o : Option Placed) → option_map (λ x. x.frame) o ≡ None → o ≡ None
    none None is = refl
    none (Some x) is = absurd (cc)

pub first_accepted : (v : TotcanParts) (f : FrameParts) → option_map (λ x. x.frame) (slice_get v.queue.items v.queue.done) ≡ Some f → is_accepted_by v f ≡ true
    → Some f ≡ first_of (due v)
first_accepted v f at accepted = ap first_of (sym (due-at v v.queue.done v.queue.items f at accepted))

pub first_pending : (v : TotcanParts) (f : FrameParts) → option_map (λ x. x.frame) (slice_get v.queue.items v.queue.done) ≡ Some f → is_accepted_by v f ≡ false
    → None ≡ first_of (due v)
first_pending v f at other = ap first_of (sym (due-none v v.queue.done v.queue.items f at other))

pub some_due : (v : TotcanParts) (f : FrameParts) → first_of (due v) ≡ Some f → 0 < length (due v)
some_due v f is = go (due v) is
  where
    go : (frames : List FrameParts) → first_of frames ≡ Some f → 0 < length frames
    go [] none = absurd (cc)
    go (g ∷ frames) some = omega arith

pub few_due : (v : TotcanParts) → length (due v) ≤ length v.queue.items
few_due v = omega (arith, length-due v (drop v.queue.done v.queue.items), length-drop v.queue.done v.queue.items)

-- the value after one step, by its parts
pub state_one : (v w inside : TotcanParts) (q : RingParts) → w ≡ record inside { queue = q.messages; acceptances = q.entries; deliveries = w.deliveries }
    → q ≡ record { messages = record inside.queue { done = inside.queue.done + 1 }; entries = inside.acceptances } → inside ≡ v
    → w ≡ record v { queue = record v.queue { done = v.queue.done + 1 }; deliveries = w.deliveries }
state_one v w inside q state advanced is =
    state
    ∙ ap (λ (p : RingParts). record inside { queue = p.messages; acceptances = p.entries; deliveries = w.deliveries }) advanced
    ∙ ap (λ (x : TotcanParts). record x { queue = record x.queue { done = x.queue.done + 1 }; deliveries = w.deliveries }) is
