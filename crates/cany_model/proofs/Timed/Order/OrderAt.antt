-- The order of TOTCAN by the ages of the slots: the data frames that it has, and the parts between
-- two ages.
use Rattle.std.proofs.Common.{◌≡◌, ℕ, zero, suc, ◌+◌, ◌-◌, ◌<◌, ◌≤◌, ◌&&◌, ◌++◌, inl, inr, not, nat_le, Bool, true, false, if◌then◌else◌, List, [], ◌∷◌, length, map, drop, Option, Some, None, refl, ap, sym, ◌∙◌, subst, arith, append_assoc, append-nil}
use Rattle.std.specs.List.{AllByRecursion}
use Rattle.std.proofs.lemmas.Bool.{and_from, and_parts, both_ways, cases_Bool, cases_eq, cases_lt, cond_both, le-leb, lt-leb, not_from_false, not_from_true, or_left, or_right}
use Rattle.std.proofs.lemmas.List.{map-append}
use Rattle.cany_base.specs.declared.class.Class.TheVariants as class
use Rattle.cany_base.specs.declared.message.MsgKey.{MsgKey}
use Rattle.cany_base.specs.declared.slot_note.SlotNote.{SlotNote}
use Rattle.cany_base.specs.Frame.{FrameParts}
use Rattle.cany_model.specs.Bus.Frames.{Identity, identity_of, same_class, same_identity}
use Rattle.cany_model.specs.Bus.History.{as_seen, carries_early, is_hidden, seen}
use Rattle.cany_model.specs.Bus.State.{Incarnation}
use Rattle.cany_model.specs.Promises.Order.{Content, order_by, ordered_in}
use Rattle.cany_model.specs.Bus.Slot.{is_clean}
use Rattle.cany_model.specs.Rules.Totcan.{is_among, message_in, new_among, tot_of_key, with_new}
use Rattle.cany_model.proofs.Among.{Among, Among-append_cases, Among-append_left, Among-append_right, Among-from_map, Each-append, Each-weaker}
use Rattle.cany_model.proofs.Bus.Carried.{Carries}
use Rattle.cany_model.proofs.Bus.Identities.{same_class-true, same_identity-from, same_identity-true}
use Rattle.cany_model.proofs.Bus.Seen.{early_hidden, hidden_why, seen_hidden, seen_plain}
use Rattle.cany_model.proofs.Bus.States.{note_at}
use Rattle.cany_model.proofs.Timed.Common.Ages.{Carried, Done, carries, carries_clean, clean_carried}
use Rattle.cany_model.proofs.Timed.Order.OrderLog.{content_in}

-- ---- the data frames of the order

-- the data frame that the slot carried Clean, if that is so and its message passes the test
abbrev pub frame_of : (MsgKey → Bool) → SlotNote → Option FrameParts → List FrameParts
frame_of test note None = []
frame_of test note (Some f) = if same_class f.class class.Tot && is_clean note.verdict && test (message_in f) then f ∷ [] else []

-- of slots newest first, in the order of the slots
abbrev pub frames_by : (MsgKey → Bool) → List SlotNote → List FrameParts
frames_by test [] = []
frames_by test (note ∷ before) = frames_by test before ++ frame_of test note note.frame

pub frames_more : (test : MsgKey → Bool) (n : ℕ) (T : List SlotNote) → n < length T
    → frames_by test (drop n T) ≡ frames_by test (drop (suc n) T) ++ frame_of test (note_at T n) (note_at T n).frame
frames_more test n [] h = absurd (omega (arith, h))
frames_more test zero (note ∷ T) h = refl
frames_more test (suc n) (note ∷ T) h = frames_more test n T (omega (arith, h))

pub frames_end : (test : MsgKey → Bool) (T : List SlotNote) → frames_by test (drop (length T) T) ≡ []
frames_end test [] = refl
frames_end test (note ∷ T) = frames_end test T

-- a slot that did not carry such a data frame Clean adds nothing
pub frame_none : (test : MsgKey → Bool) (note : SlotNote)
    → ((f : FrameParts) → note.frame ≡ Some f → same_class f.class class.Tot ≡ true → is_clean note.verdict ≡ true → test (message_in f) ≡ true → ⊥)
    → frame_of test note note.frame ≡ []
frame_none test note never = by_frame note.frame refl
  where
    by_frame : (o : Option FrameParts) → note.frame ≡ o → frame_of test note o ≡ []
    by_frame None e = refl
    by_frame (Some f) e =
        cond_both (same_class f.class class.Tot && is_clean note.verdict && test (message_in f)) (f ∷ []) [] (λ l. l ≡ [])
        (λ is.
        let outer = and_parts (same_class f.class class.Tot && is_clean note.verdict) (test (message_in f)) is in
        let inner = and_parts (same_class f.class class.Tot) (is_clean note.verdict) outer.0 in
        absurd (never f e inner.0 inner.1 outer.1))
        (λ _. refl)

pub frame_some : (test : MsgKey → Bool) (note : SlotNote) (f : FrameParts) → note.frame ≡ Some f → same_class f.class class.Tot ≡ true
    → is_clean note.verdict ≡ true → test (message_in f) ≡ true → frame_of test note note.frame ≡ f ∷ []
frame_some test note f e tot clean passes = ap (frame_of test note) e ∙ rw (tot, clean, passes) refl

-- ---- the order as an incarnation sees it

content_of_frame : (test : MsgKey → Bool) (note : SlotNote) (o : Option FrameParts) → ordered_in test note o ≡ map content_in (frame_of test note o)
content_of_frame test note None = refl
content_of_frame test note (Some f) =
    let passes : Bool = same_class f.class class.Tot && is_clean note.verdict && test (message_in f) in
    cond_both passes (f ∷ []) [] (λ l. (if passes then content_in f ∷ [] else []) ≡ map content_in l) (λ e. rw e refl) (λ e. rw e refl)

-- a slot that carries a vector adds nothing
vector_adds_none : (test : MsgKey → Bool) (cycle : ℕ) (note : SlotNote) → carries_early cycle note ≡ true → ordered_in test note note.frame ≡ []
unfolding same_class
vector_adds_none test cycle note early = by_frame note.frame refl
  where
    by_frame : (o : Option FrameParts) → note.frame ≡ o → ordered_in test note o ≡ []
    by_frame None e = refl
    by_frame (Some f) e =
        let vector = early_vector f e in
        let other : same_class f.class class.Tot ≡ false = ap (λ c. same_class c class.Tot) vector in
        rw other refl
      where
        early_vector : (f : FrameParts) → note.frame ≡ Some f → f.class ≡ class.Rha
        early_vector f e = same_class-true f.class class.Rha (and_parts (same_class f.class class.Rha) _ (rw e at early)).0

ordered_slot : (test : MsgKey → Bool) (inc : Incarnation) (note : SlotNote) → (inc.number ≡ 0 → inc.from ≡ 0)
    → (if nat_le inc.from note.slot then ordered_in test note note.frame else [])
    ≡ map content_in (frame_of test (as_seen inc note) (as_seen inc note).frame)
ordered_slot test inc note first = elim (cases_Bool (is_hidden inc note)) [
  | inl hidden ↦
      rw (seen_hidden inc note hidden) (elim (hidden_why inc note hidden).1 [
        | inl early ↦ rw (lt-leb inc.from note.slot early) refl
        | inr vector ↦ rw (vector_adds_none test inc.cycle note vector) (either (nat_le inc.from note.slot))
      ])
  | inr plain ↦
      let late : inc.from ≤ note.slot = elim (cases_lt note.slot inc.from) [
        | inr late ↦ late
        | inl early ↦ elim (cases_lt 0 inc.number) [
          | inl later ↦ absurd (both_ways (is_hidden inc note) plain (early_hidden inc note later early))
          | inr never ↦ let zero_from = first (omega (arith, never)) in omega (arith, zero_from)
        ]
      ] in
      rw (seen_plain inc note plain, le-leb inc.from note.slot late) (content_of_frame test note note.frame)
]
  where
    either : (b : Bool) → (if b then [] else []) ≡ map content_in []
    either true = refl
    either false = refl

-- the order of the slots from its first one on is that of the slots that it sees
pub order_seen : (test : MsgKey → Bool) (inc : Incarnation) → (inc.number ≡ 0 → inc.from ≡ 0) → (T : List SlotNote)
    → order_by test inc.from T ≡ map content_in (frames_by test (seen inc T))
unfolding order_by
order_seen test inc first [] = refl
order_seen test inc first (note ∷ T) =
    ap (λ l. l ++ (if nat_le inc.from note.slot then ordered_in test note note.frame else [])) (order_seen test inc first T)
    ∙ ap (λ l. map content_in (frames_by test (seen inc T)) ++ l) (ordered_slot test inc note first)
    ∙ sym (map-append content_in (frames_by test (seen inc T)) (frame_of test (as_seen inc note) (as_seen inc note).frame))

-- ---- parts of the order

pub clean_done : (note : SlotNote) (f : FrameParts) → note.frame ≡ Some f → same_class f.class class.Tot ≡ true → is_clean note.verdict ≡ true
    → carries_clean (tot_of_key (message_in f)) note ≡ true
clean_done note f e tot clean =
    let x : Identity = tot_of_key (message_in f) in
    let same : x ≡ identity_of f = λ k. record { class = sym (same_class-true f.class class.Tot tot) k; number = f.number; node = f.node } in
    and_from (carries x note) (is_clean note.verdict) (rw e (same_identity-from x (identity_of f) same)) clean

-- no data frame is carried again once it was carried Clean
abbrev pub DataFirst : List SlotNote → Type 0
DataFirst T = (p q : ℕ) (m : MsgKey) → p < q → Carried T p (tot_of_key m) → Done T q m → ⊥

pub one_done : (T : List SlotNote) → DataFirst T → (m : MsgKey) (q r : ℕ) → Done T q m → Done T r m → q ≡ r
one_done T first m q r a b = elim (cases_lt q r) [
  | inl less ↦ absurd (first q r m less (clean_carried (tot_of_key m) (note_at T q) a) b)
  | inr more ↦ elim (cases_eq q r) [
    | inl same ↦ same
    | inr other ↦ absurd (first r q m (omega (arith, more, other)) (clean_carried (tot_of_key m) (note_at T r) b) a)
  ]
]

-- the data frame was carried Clean at an age between the two
abbrev IsDoneIn : List SlotNote → ℕ → ℕ → FrameParts → Type 0
IsDoneIn T low high f = (r : ℕ) × (low ≤ r) × (r < high) × Done T r (message_in f)

-- the order up to the age b is that up to the older age a, and then a part whose frames were
-- carried between
pub record Segment (T : List SlotNote) (test : MsgKey → Bool) (b a : ℕ) : Type 0 where
  pub part : List FrameParts
  pub is : frames_by test (drop b T) ≡ frames_by test (drop a T) ++ part
  pub each : AllByRecursion (IsDoneIn T b a) part

frame_each : (T : List SlotNote) (test : MsgKey → Bool) (r low high : ℕ) → low ≤ r → r < high
    → AllByRecursion (IsDoneIn T low high) (frame_of test (note_at T r) (note_at T r).frame)
frame_each T test r low high from to = by_frame (note_at T r).frame refl
  where
    by_frame : (o : Option FrameParts) → (note_at T r).frame ≡ o → AllByRecursion (IsDoneIn T low high) (frame_of test (note_at T r) o)
    by_frame None e = tt
    by_frame (Some f) e =
        cond_both (same_class f.class class.Tot && is_clean (note_at T r).verdict && test (message_in f)) (f ∷ []) []
        (AllByRecursion (IsDoneIn T low high))
        (λ is.
        let outer = and_parts (same_class f.class class.Tot && is_clean (note_at T r).verdict) (test (message_in f)) is in
        let inner = and_parts (same_class f.class class.Tot) (is_clean (note_at T r).verdict) outer.0 in
        ((r, from, to, clean_done (note_at T r) f e inner.0 inner.1), tt))
        (λ _. tt)

weaker_in : (T : List SlotNote) (low low' high : ℕ) → low' ≤ low → (f : FrameParts) → IsDoneIn T low high f → IsDoneIn T low' high f
weaker_in T low low' high le f h = (h.0, omega (arith, le, h.1), h.2, h.3)

pub segment : (T : List SlotNote) (test : MsgKey → Bool) (n b a : ℕ) → a ≡ b + n → a ≤ length T → Segment T test b a
segment T test zero b a e long =
    let same : b ≡ a = omega (arith, e) in
    record { part = []; is = ap (λ x. frames_by test (drop x T)) same ∙ sym (append-nil (frames_by test (drop a T))); each = tt }
segment T test (suc n) b a e long =
    let rest = segment T test n (suc b) a (omega (arith, e)) long in
    let here : List FrameParts = frame_of test (note_at T b) (note_at T b).frame in
    record {
      part = rest.part ++ here;
      is = frames_more test b T (omega (arith, e, long)) ∙ ap (λ l. l ++ here) rest.is ∙ append_assoc (frames_by test (drop a T)) rest.part here;
      each = Each-append (IsDoneIn T b a) rest.part here
          (Each-weaker (IsDoneIn T (suc b) a) (IsDoneIn T b a) (weaker_in T (suc b) b a (omega arith)) rest.part rest.each)
          (frame_each T test b b a (omega arith) (omega (arith, e)));
    }

-- ---- what stands in the order

-- the slot carried Clean a data frame whose message passes
pub record IsOrdered (test : MsgKey → Bool) (note : SlotNote) (f : FrameParts) : Type 0 where
  pub frame : note.frame ≡ Some f
  pub tot : same_class f.class class.Tot ≡ true
  pub clean : is_clean note.verdict ≡ true
  pub passes : test (message_in f) ≡ true

frame_ordered : (test : MsgKey → Bool) (P : FrameParts → Type 0) (note : SlotNote) → Among P (frame_of test note note.frame)
    → (f : FrameParts) × P f × IsOrdered test note f
frame_ordered test P note h = by_frame note.frame refl h
  where
    by_frame : (o : Option FrameParts) → note.frame ≡ o → Among P (frame_of test note o) → (f : FrameParts) × P f × IsOrdered test note f
    by_frame None e a = absurd a
    by_frame (Some f) e a =
        cond_both (same_class f.class class.Tot && is_clean note.verdict && test (message_in f)) (f ∷ []) []
        (λ l. Among P l → (f : FrameParts) × P f × IsOrdered test note f)
        (λ is b.
        let outer = and_parts (same_class f.class class.Tot && is_clean note.verdict) (test (message_in f)) is in
        let inner = and_parts (same_class f.class class.Tot) (is_clean note.verdict) outer.0 in
        elim b [
          | inl p ↦ (f, p, record { frame = e; tot = inner.0; clean = inner.1; passes = outer.1 })
          | inr none ↦ absurd none
        ])
        (λ _ none. absurd none)
        a

-- a data frame of the order was carried Clean at some age
pub frames_in : (test : MsgKey → Bool) (P : FrameParts → Type 0) (T : List SlotNote) → Among P (frames_by test T)
    → (f : FrameParts) × P f × (test (message_in f) ≡ true) × ((q : ℕ) × Done T q (message_in f))
frames_in test P [] h = absurd h
frames_in test P (note ∷ T) h = elim (Among-append_cases P (frames_by test T) (frame_of test note note.frame) h) [
  | inl before ↦ let r = frames_in test P T before in (r.0, r.1, r.2, (suc r.3.0, r.3.1))
  | inr now ↦ let r = frame_ordered test P note now in (r.0, r.1, r.2.passes, (0, clean_done note r.0 r.2.frame r.2.tot r.2.clean))
]

-- the slot has this message in the order
abbrev pub Orders : (MsgKey → Bool) → Content → SlotNote → Type 0
Orders test c note = Among (λ d. d ≡ c) (ordered_in test note note.frame)

pub orders_carries : (test : MsgKey → Bool) (c : Content) (note : SlotNote) → Orders test c note → Carries (tot_of_key c.msg) note
orders_carries test c note h =
    let there : Among (λ f. content_in f ≡ c) (frame_of test note note.frame) =
    Among-from_map content_in (λ d. d ≡ c) (frame_of test note note.frame) (subst (Among (λ d. d ≡ c)) (content_of_frame test note note.frame) h) in
    let r = frame_ordered test (λ f. content_in f ≡ c) note there in
    let msg : message_in r.0 ≡ c.msg = ap (λ (d : Content). d.msg) r.1 in
    record {
      what = r.0;
      frame = r.2.frame;
      identity = λ k. record { class = sym (same_class-true r.0.class class.Tot r.2.tot) k; number = (sym msg k).seq; node = (sym msg k).origin };
    }

pub orders_from : (test : MsgKey → Bool) (note : SlotNote) (f : FrameParts) → IsOrdered test note f → Orders test (content_in f) note
orders_from test note f h = rw (h.frame, h.tot, h.clean, h.passes) (inl refl)

-- a message stands in the order of the slots from one on, exactly where one of these slots has it
pub order_has : (test : MsgKey → Bool) (from : ℕ) (c : Content) (T : List SlotNote) → Among (λ note. Orders test c note × (from ≤ note.slot)) T
    → Among (λ d. d ≡ c) (order_by test from T)
unfolding order_by
order_has test from c [] h = absurd h
order_has test from c (note ∷ T) (inl now) =
    Among-append_right (λ d. d ≡ c) (order_by test from T) (if nat_le from note.slot then ordered_in test note note.frame else [])
    (rw (le-leb from note.slot now.1) now.0)
order_has test from c (note ∷ T) (inr before) =
    Among-append_left (λ d. d ≡ c) (order_by test from T) (if nat_le from note.slot then ordered_in test note note.frame else [])
    (order_has test from c T before)

pub order_which : (test : MsgKey → Bool) (from : ℕ) (c : Content) (T : List SlotNote) → Among (λ d. d ≡ c) (order_by test from T)
    → Among (Orders test c) T
unfolding order_by
order_which test from c [] h = absurd h
order_which test from c (note ∷ T) h =
    elim (Among-append_cases (λ d. d ≡ c) (order_by test from T) (if nat_le from note.slot then ordered_in test note note.frame else []) h) [
      | inl before ↦ inr (order_which test from c T before)
      | inr now ↦ inl (cond_both (nat_le from note.slot) (ordered_in test note note.frame) [] (λ l. Among (λ d. d ≡ c) l → Orders test c note)
          (λ _ a. a) (λ _ none. absurd none) now)
    ]

-- ---- with what is new

among_self : (f : FrameParts) → same_identity (identity_of f) (identity_of f) ≡ true
among_self f = same_identity-from (identity_of f) (identity_of f) refl

pub all_among : (l x : List FrameParts) → AllByRecursion (λ f. is_among l f ≡ true) x → new_among l x ≡ []
all_among l [] h = refl
all_among l (f ∷ x) h = rw (not_from_true (is_among l f) h.0) (all_among l x h.1)

none_among : (l x : List FrameParts) → AllByRecursion (λ f. is_among l f ≡ false) x → new_among l x ≡ x
none_among l [] h = refl
none_among l (f ∷ x) h = rw (not_from_false (is_among l f) h.0) (ap (λ y. f ∷ y) (none_among l x h.1))

pub new_append : (l a b : List FrameParts) → new_among l (a ++ b) ≡ new_among l a ++ new_among l b
new_append l [] b = refl
new_append l (f ∷ a) b =
    cond_both (not (is_among l f)) (f ∷ new_among l (a ++ b)) (new_among l (a ++ b))
    (λ y. y ≡ (if not (is_among l f) then f ∷ new_among l a else new_among l a) ++ new_among l b)
    (λ e. rw e (ap (λ y. f ∷ y) (new_append l a b))) (λ e. rw e (new_append l a b))

own_among : (x r : List FrameParts) → AllByRecursion (λ f. is_among (x ++ r) f ≡ true) x
own_among [] r = tt
own_among (f ∷ x) r = (
  or_left (same_identity (identity_of f) (identity_of f)) (is_among (x ++ r) f) (among_self f),
  Each-weaker (λ g. is_among (x ++ r) g ≡ true) (λ g. is_among (f ∷ (x ++ r)) g ≡ true)
      (λ g h. or_right (same_identity (identity_of g) (identity_of f)) (is_among (x ++ r) g) h) x (own_among x r),
)

-- what was carried later is not among what was carried before
apart_each : (T : List SlotNote) → DataFirst T → (b a : ℕ) (l : List FrameParts) → AllByRecursion (IsDoneIn T a (length T)) l → (f : FrameParts)
    → IsDoneIn T b a f → is_among l f ≡ false
apart_each T first b a [] h f d = refl
apart_each T first b a (g ∷ l) h f d =
    let rest = apart_each T first b a l h.1 f d in
    elim (cases_Bool (same_identity (identity_of f) (identity_of g))) [
      | inr other ↦ rw other rest
      | inl same ↦
          let x : identity_of f ≡ identity_of g = same_identity-true (identity_of f) (identity_of g) same in
          let m : message_in f ≡ message_in g = λ k. record { origin = (x k).node; seq = (x k).number } in
          let one : d.0 ≡ h.0.0 = one_done T first (message_in f) d.0 h.0.0 d.3 (subst (λ (y : MsgKey). Done T h.0.0 y) (sym m) h.0.3) in
          absurd (omega (arith, one, d.2, h.0.1))
    ]

-- two fronts of the order make the longer one
pub merged : (T : List SlotNote) → DataFirst T → (test : MsgKey → Bool) (a b : ℕ) → a ≤ length T → b ≤ length T
    → (c : ℕ) × (c ≤ length T) × (with_new (frames_by test (drop a T)) (frames_by test (drop b T)) ≡ frames_by test (drop c T))
merged T first test a b la lb = elim (cases_lt b a) [
  | inr older ↦
      let s = segment T test (b - a) a b (omega (arith, older)) lb in
      let B = frames_by test (drop b T) in
      let none : new_among (B ++ s.part) B ≡ [] = all_among (B ++ s.part) B (own_among B s.part) in
      (a, la, ap (λ l. with_new l B) s.is ∙ ap (λ l. (B ++ s.part) ++ l) none ∙ append-nil (B ++ s.part) ∙ sym s.is)
  | inl newer ↦
      let s = segment T test (a - b) b a (omega (arith, newer)) la in
      let A = frames_by test (drop a T) in
      let whole = segment T test (length T - a) a (length T) (omega (arith, la)) (omega arith) in
      let all : AllByRecursion (IsDoneIn T a (length T)) A =
      subst (AllByRecursion (IsDoneIn T a (length T))) (sym (whole.is ∙ ap (λ l. l ++ whole.part) (frames_end test T))) whole.each in
      let free : new_among A s.part ≡ s.part =
      none_among A s.part (Each-weaker (IsDoneIn T b a) (λ f. is_among A f ≡ false) (λ f d. apart_each T first b a A all f d) s.part s.each) in
      let own : new_among A A ≡ [] = all_among A A (subst (λ l. AllByRecursion (λ f. is_among l f ≡ true) A) (append-nil A) (own_among A [])) in
      (b, lb, ap (λ l. A ++ new_among A l) s.is ∙ ap (λ l. A ++ l) (new_append A A s.part ∙ ap (λ l. l ++ new_among A s.part) own ∙ free) ∙ sym s.is)
]
