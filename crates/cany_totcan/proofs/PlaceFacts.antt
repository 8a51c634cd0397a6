-- The places of messages: what one notice more does to them, how old they are, and which message
-- closes.
use Rattle.std.proofs.Common.{◌≡◌, ℕ, zero, suc, ◌+◌, ◌-◌, ◌<◌, ◌≤◌, ◌&&◌, ◌||◌, ◌⊎◌, inl, inr, Bool, true, false, if◌then◌else◌, not, List, [], ◌∷◌, ◌++◌, length, take, get_or, filter, Option, Some, None, refl, ap, sym, ◌∙◌, add-one, append_assoc, arith}
use Rattle.std.specs.Prelude.{slice_index_or}
use Rattle.std.specs.List.{AllByRecursion, list_any}
use Rattle.std.proofs.Math.Bool.{or-false}
use Rattle.std.proofs.lemmas.Bool.{cases_Bool, eq-eqb, false≢true, ne_eqb, or_cases, or_left, or_right}
use Rattle.std.proofs.lemmas.List.{append-nil, get_or_past, take_all, length-append}
use Rattle.std.proofs.lemmas.List.Elements.{filter-append, filter_agree}
use Rattle.std.proofs.lemmas.Option.{none-some}
use Rattle.cany_base.specs.declared.class.Class.TheVariants as class
use Rattle.cany_base.specs.declared.message.MsgKey.{MsgKey}
use Rattle.cany_base.specs.declared.notice.NoticeKind.{NoticeKind}
use Rattle.cany_base.specs.declared.notice.NoticeKind.TheVariants.{Idle, Got, Sent, Bad}
use Rattle.cany_base.specs.Frame.{FrameParts}
use Rattle.cany_message.proofs.HistoryFacts.{is_not_this, is_this}
use Rattle.cany_model.specs.Bus.Frames.{same_class}
use Rattle.cany_model.specs.Bus.History.{is_got}
use Rattle.cany_model.specs.Rules.Effect.{Effect, Withdraw}
use Rattle.cany_model.specs.Rules.Messages.{accept_of_key}
use Rattle.cany_model.specs.Rules.Totcan.{closing_effects, closing_of, holds, is_recent, message_in, tot_in, tot_of_key}
use Rattle.cany_model.proofs.Among.{Among, Each-append, Each-filter, Each-weaker}
use Rattle.cany_model.proofs.Bus.Carried.{Has}
use Rattle.cany_model.proofs.Bus.Identities.{same_class-true}
use Rattle.cany_totcan.specs.declared.queue.Placed.{Placed}
use Rattle.cany_totcan.specs.Queue.{AreAscending, AreOnce, OpenParts, is_at, oldest_from, placed_at, placed_from, placed_in, without_key, without_oldest, without_oldest_from}
use Rattle.cany_totcan.proofs.QueueFacts.{any-append_one, any-without, any-without_self, ascending-append_one, ascending-filter, once-append_one, once-without, same_key, same_key-true, same_key_self, length-without-le}

-- ---- what a notice brings

-- whether the frame is of the message
abbrev pub is_of_key : MsgKey → FrameParts → Bool
is_of_key key f = same_key key (message_in f)

pub is_of_key-self : (f : FrameParts) → is_of_key (message_in f) f ≡ true
is_of_key-self f = same_key_self (message_in f)

pub is_of_key-true : (key : MsgKey) (f : FrameParts) → is_of_key key f ≡ true → key ≡ message_in f
is_of_key-true key f is = same_key-true key (message_in f) is

-- it does not matter which of the two keys comes first
same_key_back : (a b : MsgKey) → same_key a b ≡ same_key b a
same_key_back a b = elim (cases_Bool (same_key a b)) [
  | inl same ↦ same ∙ sym (ap (λ k. same_key b k) (same_key-true a b same) ∙ same_key_self b)
  | inr other ↦ elim (cases_Bool (same_key b a)) [
    | inl same ↦ ap (λ k. same_key a k) (same_key-true b a same) ∙ same_key_self a ∙ sym same
    | inr back ↦ other ∙ sym back
  ]
]

pub is_of_key_back : (f g : FrameParts) → is_of_key (message_in f) g ≡ is_of_key (message_in g) f
is_of_key_back f g = same_key_back (message_in f) (message_in g)

pub tot_in-got : (f : FrameParts) → same_class f.class class.Tot ≡ true → tot_in (Got f) ≡ Some f
unfolding tot_in
tot_in-got f is = rw is refl

pub tot_in-sent : (f : FrameParts) → same_class f.class class.Tot ≡ true → tot_in (Sent f) ≡ Some f
unfolding tot_in
tot_in-sent f is = rw is refl

pub tot_in-got_other : (f : FrameParts) → same_class f.class class.Tot ≡ false → tot_in (Got f) ≡ None
unfolding tot_in
tot_in-got_other f other = rw other refl

pub tot_in-sent_other : (f : FrameParts) → same_class f.class class.Tot ≡ false → tot_in (Sent f) ≡ None
unfolding tot_in
tot_in-sent_other f other = rw other refl

if_some : (b : Bool) (f g : FrameParts) → (if b then Some f else None) ≡ Some g → (b ≡ true) × (f ≡ g)
if_some true f g some = (refl, cc)
if_some false f g some = absurd (cc)

if_none : (b : Bool) (f : FrameParts) → (if b then Some f else None) ≡ None → b ≡ false
if_none true f none = absurd (cc)
if_none false f none = refl

-- what a notice brings is a data frame of TOTCAN that was got or sent
pub tot_in-class : (notice : NoticeKind) (f : FrameParts) → tot_in notice ≡ Some f → f.class ≡ class.Tot
unfolding tot_in
tot_in-class Idle f brings = absurd (none-some f brings)
tot_in-class (Got g) f brings =
    let w = if_some (same_class g.class class.Tot) g f brings in
    ap (λ (h : FrameParts). h.class) (sym w.1) ∙ same_class-true g.class class.Tot w.0
tot_in-class (Sent g) f brings =
    let w = if_some (same_class g.class class.Tot) g f brings in
    ap (λ (h : FrameParts). h.class) (sym w.1) ∙ same_class-true g.class class.Tot w.0
tot_in-class Bad f brings = absurd (none-some f brings)

pub tot_in-has : (notice : NoticeKind) (f : FrameParts) → tot_in notice ≡ Some f → Has f notice
unfolding tot_in
tot_in-has Idle f brings = absurd (none-some f brings)
tot_in-has (Got g) f brings = inl (ap Got (if_some (same_class g.class class.Tot) g f brings).1)
tot_in-has (Sent g) f brings = inr (ap Sent (if_some (same_class g.class class.Tot) g f brings).1)
tot_in-has Bad f brings = absurd (none-some f brings)

holds_has : (key : MsgKey) (notice : NoticeKind) (f : FrameParts) → f.class ≡ class.Tot → Has f notice → holds key notice ≡ is_of_key key f
holds_has key notice f is (inl got) =
    ap (holds key) got ∙ or-false (is_got (tot_of_key key) (Got f)) ∙ is_this class.Tot key.seq key.origin f is
holds_has key notice f is (inr sent) = ap (holds key) sent ∙ is_this class.Tot key.seq key.origin f is

pub holds-some : (key : MsgKey) (notice : NoticeKind) (f : FrameParts) → tot_in notice ≡ Some f → holds key notice ≡ is_of_key key f
holds-some key notice f brings = holds_has key notice f (tot_in-class notice f brings) (tot_in-has notice f brings)

pub holds-none : (key : MsgKey) (notice : NoticeKind) → tot_in notice ≡ None → holds key notice ≡ false
unfolding tot_in
holds-none key Idle none = refl
holds-none key (Got f) none = rw (is_not_this class.Tot key.seq key.origin f (if_none (same_class f.class class.Tot) f none)) refl
holds-none key (Sent f) none = rw (is_not_this class.Tot key.seq key.origin f (if_none (same_class f.class class.Tot) f none)) refl
holds-none key Bad none = refl

-- a message that a notice holds is that of the frame which it brings
pub holds-true : (key : MsgKey) (notice : NoticeKind) (f : FrameParts) → tot_in notice ≡ Some f → holds key notice ≡ true → key ≡ message_in f
holds-true key notice f brings held = is_of_key-true key f (sym (holds-some key notice f brings) ∙ held)

-- ---- whether a place is one of the newest notices

pub recent_none : (key : MsgKey) (past : List NoticeKind) → is_recent 0 key past ≡ false
unfolding is_recent
recent_none key past = refl

recent_next : (n : ℕ) (key : MsgKey) (notice : NoticeKind) (before : List NoticeKind)
    → is_recent (suc n) key (notice ∷ before) ≡ (holds key notice || is_recent n key before)
unfolding is_recent
recent_next n key notice before = refl

pub recent_more : (n : ℕ) (key : MsgKey) (notice : NoticeKind) (before : List NoticeKind)
    → is_recent (n + 1) key (notice ∷ before) ≡ (holds key notice || is_recent n key before)
recent_more n key notice before = rw add-one (recent_next n key notice before)

pub recent_weaker : (n m : ℕ) (key : MsgKey) (past : List NoticeKind) → n ≤ m → is_recent n key past ≡ true → is_recent m key past ≡ true
unfolding is_recent
recent_weaker zero m key past fewer recent = absurd (false≢true recent)
recent_weaker (suc n) zero key past fewer recent = absurd (omega arith)
recent_weaker (suc n) (suc m) key [] fewer recent = absurd (false≢true recent)
recent_weaker (suc n) (suc m) key (notice ∷ before) fewer recent = elim (or_cases (holds key notice) (is_recent n key before) recent) [
  | inl held ↦ or_left (holds key notice) (is_recent m key before) held
  | inr older ↦ or_right (holds key notice) (is_recent m key before) (recent_weaker n m key before (omega arith) older)
]

-- a place is one of all notices
pub recent_whole : (n : ℕ) (key : MsgKey) (past : List NoticeKind) → is_recent n key past ≡ true → is_recent (length past) key past ≡ true
unfolding is_recent
recent_whole zero key past recent = absurd (false≢true recent)
recent_whole (suc n) key [] recent = absurd (false≢true recent)
recent_whole (suc n) key (notice ∷ before) recent = elim (or_cases (holds key notice) (is_recent n key before) recent) [
  | inl held ↦ or_left (holds key notice) (is_recent (length before) key before) held
  | inr older ↦ or_right (holds key notice) (is_recent (length before) key before) (recent_whole n key before older)
]

-- ---- one notice more

-- the place does not move
abbrev stays : NoticeKind → Placed → Bool
stays notice x = not (holds (message_in x.frame) notice)

stays_or_goes : (keeps : Placed → Bool) (held recent : Bool) (x y : Placed) → x ≡ y → keeps y ≡ not held
    → (if not (held || recent) then x ∷ [] else []) ≡ filter keeps (if not recent then y ∷ [] else [])
stays_or_goes keeps true true x y e k = refl
stays_or_goes keeps true false x y e k = rw k refl
stays_or_goes keeps false true x y e k = refl
stays_or_goes keeps false false x y e k = rw k (ap (λ z. z ∷ []) e)

module _ (notice : NoticeKind) (before : List NoticeKind) where
  next_at : (age : ℕ) (o : Option FrameParts) → placed_at (notice ∷ before) (age + 1) o ≡ filter (stays notice) (placed_at before age o)
  next_at age None = refl
  next_at age (Some f) =
      let place : suc (length before) - (age + 1 + 1) ≡ length before - (age + 1) = omega arith in
      rw (recent_more age (message_in f) notice before)
      (stays_or_goes (stays notice) (holds (message_in f) notice) (is_recent age (message_in f) before)
      (record { frame = f; place = suc (length before) - (age + 1 + 1) }) (record { frame = f; place = length before - (age + 1) })
      (λ k. record { frame = f; place = place k }) refl)

  next_from : (age : ℕ) (older : List NoticeKind) → placed_from (notice ∷ before) (age + 1) older ≡ filter (stays notice) (placed_from before age older)
  unfolding placed_from
  next_from age [] = refl
  next_from age (d ∷ older) =
      ap (λ xs. xs ++ placed_at (notice ∷ before) (age + 1) (tot_in d)) (next_from (age + 1) older)
      ∙ ap (λ ys. filter (stays notice) (placed_from before (age + 1) older) ++ ys) (next_at age (tot_in d))
      ∙ sym (filter-append (stays notice) (placed_from before (age + 1) older) (placed_at before age (tot_in d)))

  next_in : (n : ℕ) → placed_in (suc n) (notice ∷ before) ≡ filter (stays notice) (placed_in n before) ++ placed_at (notice ∷ before) 0 (tot_in notice)
  unfolding placed_from
  next_in n = ap (λ xs. xs ++ placed_at (notice ∷ before) 0 (tot_in notice)) (next_from 0 (take n before))

filter_every : {X : Type 0} (p : X → Bool) → ((x : X) → p x ≡ true) → (xs : List X) → filter p xs ≡ xs
filter_every p every [] = refl
filter_every p every (x ∷ xs) = rw (every x) (ap (λ ys. x ∷ ys) (filter_every p every xs))

kept_next : (n : ℕ) (notice : NoticeKind) (before : List NoticeKind) → tot_in notice ≡ None → placed_in (suc n) (notice ∷ before) ≡ placed_in n before
kept_next n notice before none =
    next_in notice before n
    ∙ ap (λ o. filter (stays notice) (placed_in n before) ++ placed_at (notice ∷ before) 0 o) none
    ∙ append-nil (filter (stays notice) (placed_in n before))
    ∙ filter_every (stays notice) (λ x. ap not (holds-none (message_in x.frame) notice none)) (placed_in n before)

pub placed_kept : (n : ℕ) (notice : NoticeKind) (before : List NoticeKind) → tot_in notice ≡ None → placed_in (n + 1) (notice ∷ before) ≡ placed_in n before
placed_kept n notice before none = rw add-one (kept_next n notice before none)

last_at : (notice : NoticeKind) (before : List NoticeKind) (f : FrameParts)
    → placed_at (notice ∷ before) 0 (Some f) ≡ record { frame = f; place = length before } ∷ []
last_at notice before f =
    let place : suc (length before) - (0 + 1) ≡ length before = omega arith in
    rw (recent_none (message_in f) (notice ∷ before)) (ap (λ n. record { frame = f; place = n } ∷ []) place)

moved_next : (n : ℕ) (notice : NoticeKind) (before : List NoticeKind) (f : FrameParts) → tot_in notice ≡ Some f
    → placed_in (suc n) (notice ∷ before) ≡ without_key (message_in f) (placed_in n before) ++ record { frame = f; place = length before } ∷ []
moved_next n notice before f brings =
    next_in notice before n
    ∙ ap (λ o. filter (stays notice) (placed_in n before) ++ placed_at (notice ∷ before) 0 o) brings
    ∙ ap (λ ys. filter (stays notice) (placed_in n before) ++ ys) (last_at notice before f)
    ∙ ap (λ xs. xs ++ record { frame = f; place = length before } ∷ [])
    (filter_agree (stays notice) (λ x. not (is_at (message_in f) x))
    (λ x. ap not (holds-some (message_in x.frame) notice f brings ∙ is_of_key_back x.frame f)) (placed_in n before))

pub placed_moved : (n : ℕ) (notice : NoticeKind) (before : List NoticeKind) (f : FrameParts) → tot_in notice ≡ Some f
    → placed_in (n + 1) (notice ∷ before) ≡ without_key (message_in f) (placed_in n before) ++ record { frame = f; place = length before } ∷ []
placed_moved n notice before f brings = rw add-one (moved_next n notice before f brings)

-- A fact about the messages whose places are the n newest notices holds if it holds where there are
-- none and is kept by one notice more.
module _ (Q : ℕ → List NoticeKind → List Placed → Type 0) (none : (past : List NoticeKind) → Q 0 past []) (empty : (n : ℕ) → Q (suc n) [] [])
    (kept : (n : ℕ) (notice : NoticeKind) (before : List NoticeKind) (items : List Placed) → tot_in notice ≡ None → Q n before items
    → Q (suc n) (notice ∷ before) items)
    (moved : (n : ℕ) (notice : NoticeKind) (before : List NoticeKind) (items : List Placed) (f : FrameParts) → tot_in notice ≡ Some f → Q n before items
    → Q (suc n) (notice ∷ before) (without_key (message_in f) items ++ record { frame = f; place = length before } ∷ [])) where
  by_case : (n : ℕ) (notice : NoticeKind) (before : List NoticeKind) (o : Option FrameParts) → tot_in notice ≡ o → Q n before (placed_in n before)
      → Q (suc n) (notice ∷ before) (placed_in (suc n) (notice ∷ before))
  by_case n notice before None brings q = rw (kept_next n notice before brings) (kept n notice before (placed_in n before) brings q)
  by_case n notice before (Some f) brings q = rw (moved_next n notice before f brings) (moved n notice before (placed_in n before) f brings q)

  pub by_places : (n : ℕ) (past : List NoticeKind) → Q n past (placed_in n past)
  unfolding placed_from
  by_places zero past = none past
  by_places (suc n) [] = empty n
  by_places (suc n) (notice ∷ before) = by_case n notice before (tot_in notice) refl (by_places n before)

-- ---- one notice older

split_from : (past : List NoticeKind) (age n : ℕ) (older : List NoticeKind)
    → placed_from past age (take (suc n) older) ≡ placed_at past (age + n) (tot_in (get_or older n Idle)) ++ placed_from past age (take n older)
unfolding placed_from tot_in
split_from past age zero [] = refl
split_from past age (suc n) [] = refl
split_from past age zero (notice ∷ older) =
    let here : age ≡ age + 0 = omega arith in
    ap (λ a. placed_at past a (tot_in notice)) here ∙ sym (append-nil (placed_at past (age + 0) (tot_in notice)))
split_from past age (suc n) (notice ∷ older) =
    let first : List Placed = placed_at past (age + suc n) (tot_in (get_or older n Idle)) in
    let there : (age + 1) + n ≡ age + suc n = omega arith in
    ap (λ xs. xs ++ placed_at past age (tot_in notice))
    (split_from past (age + 1) n older ∙ ap (λ a. placed_at past a (tot_in (get_or older n Idle)) ++ placed_from past (age + 1) (take n older)) there)
    ∙ append_assoc first (placed_from past (age + 1) (take n older)) (placed_at past age (tot_in notice))

pub placed_split : (n : ℕ) (past : List NoticeKind) → placed_in (n + 1) past ≡ placed_at past n (tot_in (slice_index_or past n Idle)) ++ placed_in n past
placed_split n past =
    let whole : 0 + n ≡ n = omega arith in
    rw add-one (split_from past 0 n past ∙ ap (λ a. placed_at past a (tot_in (slice_index_or past n Idle)) ++ placed_in n past) whole)

-- there is none past the end
pub placed_all : (n : ℕ) (past : List NoticeKind) → length past ≤ n → placed_in (n + 1) past ≡ placed_in n past
unfolding tot_in
placed_all n past all = placed_split n past ∙ ap (λ e. placed_at past n (tot_in e) ++ placed_in n past) (get_or_past past n Idle all)

-- all places
pub placed_whole : (past : List NoticeKind) → placed_in (length past) past ≡ placed_from past 0 past
placed_whole past = ap (placed_from past 0) (take_all (length past) past (omega arith))

-- ---- what the messages at their places are

open_moved : (here there : Bool) → ((not here && there) || here) ≡ (here || there)
open_moved true there = refl
open_moved false there = or-false there

-- the messages are those whose place is one of these notices
pub open_is : (n : ℕ) (key : MsgKey) (past : List NoticeKind) → list_any (is_at key) (placed_in n past) ≡ is_recent n key past
unfolding is_recent
open_is n key past =
    by_places (λ n past items. list_any (is_at key) items ≡ is_recent n key past) (λ past. refl) (λ n. refl)
    (λ n notice before items none is. is ∙ sym (ap (λ b. b || is_recent n key before) (holds-none key notice none)))
    (λ n notice before items f brings is.
    any-append_one key (without_key (message_in f) items) (record { frame = f; place = length before })
    ∙ ap (λ b. b || is_of_key key f) (any-without key (message_in f) items)
    ∙ ap (λ b. not b && list_any (is_at key) items || is_of_key key f) (same_key_back (message_in f) key)
    ∙ open_moved (is_of_key key f) (list_any (is_at key) items)
    ∙ ap (λ b. is_of_key key f || b) is
    ∙ ap (λ b. b || is_recent n key before) (sym (holds-some key notice f brings)))
    n past

-- their frames are data frames of TOTCAN that were read
abbrev pub WasRead : List NoticeKind → Placed → Type 0
WasRead past x = (x.frame.class ≡ class.Tot) × Among (Has x.frame) past

read_more : (notice : NoticeKind) (before : List NoticeKind) (x : Placed) → WasRead before x → WasRead (notice ∷ before) x
read_more notice before x read = (read.0, inr read.1)

pub placed_read : (n : ℕ) (past : List NoticeKind) → AllByRecursion (WasRead past) (placed_in n past)
placed_read n past =
    by_places (λ n past items. AllByRecursion (WasRead past) items) (λ past. tt) (λ n. tt)
    (λ n notice before items none all. Each-weaker (WasRead before) (WasRead (notice ∷ before)) (read_more notice before) items all)
    (λ n notice before items f brings all.
    Each-append (WasRead (notice ∷ before)) (without_key (message_in f) items) (record { frame = f; place = length before } ∷ [])
    (Each-weaker (WasRead before) (WasRead (notice ∷ before)) (read_more notice before) (without_key (message_in f) items)
    (Each-filter (WasRead before) (λ x. not (is_at (message_in f) x)) items all))
    ((tot_in-class notice f brings, inl (tot_in-has notice f brings)), tt))
    n past

pub placed_once : (n : ℕ) (past : List NoticeKind) → AreOnce (placed_in n past)
placed_once n past =
    by_places (λ n past items. AreOnce items) (λ past. tt) (λ n. tt) (λ n notice before items none once. once)
    (λ n notice before items f brings once.
    once-append_one (without_key (message_in f) items) (record { frame = f; place = length before }) (once-without (message_in f) items once)
    (any-without_self (message_in f) items))
    n past

-- each notice is the place of one message at most
pub placed_few : (n : ℕ) (past : List NoticeKind) → length (placed_in n past) ≤ n
placed_few n past =
    by_places (λ n past items. length items ≤ n) (λ past. omega arith) (λ n. omega arith)
    (λ n notice before items none few. omega (arith, few))
    (λ n notice before items f brings few.
    omega (arith, few, length-without-le (message_in f) items, length-append (without_key (message_in f) items) (record { frame = f; place = length before } ∷ [])))
    n past

-- the place is one of the n newest notices
abbrev pub IsWithin : ℕ → List NoticeKind → Placed → Type 0
IsWithin n past x = (length past ≤ x.place + n) × (x.place < length past)

within_more : (n : ℕ) (notice : NoticeKind) (before : List NoticeKind) (x : Placed) → IsWithin n before x → IsWithin (suc n) (notice ∷ before) x
within_more n notice before x within = (omega (arith, within.0), omega (arith, within.1))

pub placed_within : (n : ℕ) (past : List NoticeKind) → AllByRecursion (IsWithin n past) (placed_in n past)
placed_within n past =
    by_places (λ n past items. AllByRecursion (IsWithin n past) items) (λ past. tt) (λ n. tt)
    (λ n notice before items none all. Each-weaker (IsWithin n before) (IsWithin (suc n) (notice ∷ before)) (within_more n notice before) items all)
    (λ n notice before items f brings all.
    Each-append (IsWithin (suc n) (notice ∷ before)) (without_key (message_in f) items) (record { frame = f; place = length before } ∷ [])
    (Each-weaker (IsWithin n before) (IsWithin (suc n) (notice ∷ before)) (within_more n notice before) (without_key (message_in f) items)
    (Each-filter (IsWithin n before) (λ x. not (is_at (message_in f) x)) items all))
    ((omega arith, omega arith), tt))
    n past

abbrev IsAscendingBelow : ℕ → List NoticeKind → List Placed → Type 0
IsAscendingBelow n past items = AreAscending items × AllByRecursion (λ x. x.place < length past) items

pub placed_ascending : (n : ℕ) (past : List NoticeKind) → AreAscending (placed_in n past)
placed_ascending n past = (by_places IsAscendingBelow (λ past. (tt, tt)) (λ n. (tt, tt)) kept_up moved_up n past).0
  where
    kept_up : (n : ℕ) (notice : NoticeKind) (before : List NoticeKind) (items : List Placed) → tot_in notice ≡ None → IsAscendingBelow n before items
        → IsAscendingBelow (suc n) (notice ∷ before) items
    kept_up n notice before items none up =
        (up.0, Each-weaker (λ x. x.place < length before) (λ x. x.place < suc (length before)) (λ x h. omega arith) items up.1)

    moved_up : (n : ℕ) (notice : NoticeKind) (before : List NoticeKind) (items : List Placed) (f : FrameParts) → tot_in notice ≡ Some f
        → IsAscendingBelow n before items
        → IsAscendingBelow (suc n) (notice ∷ before) (without_key (message_in f) items ++ record { frame = f; place = length before } ∷ [])
    moved_up n notice before items f brings up =
        let left : AllByRecursion (λ x. x.place < length before) (without_key (message_in f) items) =
        Each-filter (λ x. x.place < length before) (λ x. not (is_at (message_in f) x)) items up.1 in (
          ascending-append_one (without_key (message_in f) items) (record { frame = f; place = length before })
              (ascending-filter (λ x. not (is_at (message_in f) x)) items up.0) left,
          Each-append (λ x. x.place < suc (length before)) (without_key (message_in f) items) (record { frame = f; place = length before } ∷ [])
              (Each-weaker (λ x. x.place < length before) (λ x. x.place < suc (length before)) (λ x h. omega arith) (without_key (message_in f) items) left)
              (omega arith, tt),
        )

-- ---- the oldest

-- the frame of the first
abbrev pub first_frame : List Placed → Option FrameParts
first_frame [] = None
first_frame (x ∷ items) = Some x.frame

oldest_later : (slot : ℕ) (items : List Placed) → AllByRecursion (λ x. slot < x.place) items → oldest_from slot items ≡ None
oldest_later slot [] later = refl
oldest_later slot (x ∷ items) later = rw (ne_eqb x.place slot (λ e. omega (arith, later.0))) refl

stays_later : (slot : ℕ) (v : OpenParts) (items : List Placed) → AllByRecursion (λ x. slot < x.place) items → without_oldest_from slot v items ≡ v
stays_later slot v [] later = refl
stays_later slot v (x ∷ items) later = rw (ne_eqb x.place slot (λ e. omega (arith, later.0))) refl

-- the message whose place is the notice of this age, if there is one
abbrev pub at_age : ℕ → List NoticeKind → List Placed
at_age n past = placed_at past n (tot_in (slice_index_or past n Idle))

-- there is such a message
pub record IsAtAge (n : ℕ) (past : List NoticeKind) : Type 0 where
  pub frame : FrameParts
  pub brings : tot_in (slice_index_or past n Idle) ≡ Some frame
  pub closed : is_recent n (message_in frame) past ≡ false
  pub alone : at_age n past ≡ record { frame = frame; place = length past - (n + 1) } ∷ []

pub at_age_cases : (n : ℕ) (past : List NoticeKind) → (at_age n past ≡ []) ⊎ IsAtAge n past
at_age_cases n past = go (tot_in (slice_index_or past n Idle)) refl
  where
    go : (o : Option FrameParts) → tot_in (slice_index_or past n Idle) ≡ o → (at_age n past ≡ []) ⊎ IsAtAge n past
    go None none = inl (ap (placed_at past n) none)
    go (Some f) brings = elim (cases_Bool (is_recent n (message_in f) past)) [
      | inl recent ↦ inl (ap (placed_at past n) brings ∙ (rw recent refl))
      | inr closed ↦ inr (record { frame = f; brings = brings; closed = closed; alone = ap (placed_at past n) brings ∙ (rw closed refl) })
    ]

module _ (bound slot : ℕ) (past : List NoticeKind) (at : length past ≡ suc slot) (late : bound ≤ slot) where
  all_later : AllByRecursion (λ x. slot - bound < x.place) (placed_in bound past)
  all_later =
      Each-weaker (IsWithin bound past) (λ x. slot - bound < x.place) (λ x within. omega (arith, within.0, at, late))
      (placed_in bound past) (placed_within bound past)

  at_age_place : length past - (bound + 1) ≡ slot - bound
  at_age_place = omega arith

  pub oldest_is : oldest_from (slot - bound) (placed_in (bound + 1) past) ≡ first_frame (at_age bound past)
  oldest_is =
      let oldest = λ (first : List Placed). oldest_from (slot - bound) (first ++ placed_in bound past) in
      ap (oldest_from (slot - bound)) (placed_split bound past)
      ∙ elim (at_age_cases bound past) as (λ _. oldest (at_age bound past) ≡ first_frame (at_age bound past)) [
        | inl none ↦ ap oldest none ∙ oldest_later (slot - bound) (placed_in bound past) all_later ∙ sym (ap first_frame none)
        | inr is ↦ ap oldest is.alone ∙ (rw (eq-eqb (length past - (bound + 1)) (slot - bound) at_age_place) refl) ∙ sym (ap first_frame is.alone)
      ]

  -- what is left without it
  left_is : (v : OpenParts) → v.items ≡ placed_in (bound + 1) past
      → ((at_age bound past ≡ []) × (without_oldest (slot - bound) v ≡ v))
      ⊎ (IsAtAge bound past × (without_oldest (slot - bound) v ≡ record v { items = placed_in bound past; done = v.done - 1 }))
  left_is v items =
      let left = λ (first : List Placed). without_oldest_from (slot - bound) v (first ++ placed_in bound past) in
      let split : without_oldest (slot - bound) v ≡ left (at_age bound past) = ap (without_oldest_from (slot - bound) v) (items ∙ placed_split bound past) in
      elim (at_age_cases bound past) [
        | inl none ↦ inl (none, split ∙ ap left none ∙ stays_later (slot - bound) v (placed_in bound past) all_later)
        | inr is ↦ inr (is, split ∙ ap left is.alone ∙ (rw (eq-eqb (length past - (bound + 1)) (slot - bound) at_age_place) refl))
      ]

  pub rest_is : (v : OpenParts) → v.items ≡ placed_in (bound + 1) past → (without_oldest (slot - bound) v).items ≡ placed_in bound past
  rest_is v items = elim (left_is v items) [
    | inl w ↦ ap (λ (u : OpenParts). u.items) w.1 ∙ items ∙ placed_split bound past ∙ ap (λ first. first ++ placed_in bound past) w.0
    | inr w ↦ ap (λ (u : OpenParts). u.items) w.1
  ]

  pub rest_none : (v : OpenParts) → v.items ≡ placed_in (bound + 1) past → oldest_from (slot - bound) v.items ≡ None → without_oldest (slot - bound) v ≡ v
  rest_none v items none = elim (left_is v items) [
    | inl w ↦ w.1
    | inr w ↦ absurd (none-some w.0.frame (sym none ∙ ap (oldest_from (slot - bound)) items ∙ oldest_is ∙ ap first_frame w.0.alone))
  ]

  pub rest_some : (v : OpenParts) (f : FrameParts) → v.items ≡ placed_in (bound + 1) past → oldest_from (slot - bound) v.items ≡ Some f
      → without_oldest (slot - bound) v ≡ record v { items = placed_in bound past; done = v.done - 1 }
  rest_some v f items some = elim (left_is v items) [
    | inl w ↦ absurd (none-some f (sym (ap (oldest_from (slot - bound)) items ∙ oldest_is ∙ ap first_frame w.0) ∙ some))
    | inr w ↦ w.1
  ]

-- what withdraws the frames that accept the message of this data frame
abbrev pub withdrawal_of : Option FrameParts → List Effect
withdrawal_of None = []
withdrawal_of (Some f) = Withdraw (accept_of_key (message_in f)) ∷ []

closing_at_age : (bound : ℕ) (past : List NoticeKind) (o : Option FrameParts) → closing_of bound past o ≡ withdrawal_of (first_frame (placed_at past bound o))
closing_at_age bound past None = refl
closing_at_age bound past (Some f) = elim (cases_Bool (is_recent bound (message_in f) past)) [ inl recent ↦ rw recent refl | inr closed ↦ rw closed refl ]

pub closing_is : (bound slot : ℕ) (past : List NoticeKind) → length past ≡ suc slot → bound ≤ slot
    → closing_effects bound past ≡ withdrawal_of (oldest_from (slot - bound) (placed_in (bound + 1) past))
unfolding closing_effects
closing_is bound slot past at late =
    closing_at_age bound past (tot_in (slice_index_or past bound Idle)) ∙ ap withdrawal_of (sym (oldest_is bound slot past at late))

pub closing_none : (bound : ℕ) (past : List NoticeKind) → length past ≤ bound → closing_effects bound past ≡ []
unfolding closing_effects tot_in
closing_none bound past early = ap (λ e. closing_of bound past (tot_in e)) (get_or_past past bound Idle early)
