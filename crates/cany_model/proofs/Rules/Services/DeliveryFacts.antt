-- Delivery at the first notice that brings a data frame: what it enters, and that no key is entered
-- twice.
use Rattle.std.specs.Prelude.{◌≡◌, ℕ, ◌+◌, ◌≤◌, ◌==◌, ◌&&◌, ◌||◌, Bool, true, false, not, cond, if◌then◌else◌, List, [], ◌∷◌, ◌++◌, length, count_by, refl}
use Rattle.std.specs.List.{AllByRecursion, list_any}
use Rattle.std.proofs.Common.{sym, ap, ◌∙◌, inl, inr, arith, eqb-true}
use Rattle.std.proofs.lemmas.Bool.{and_from, and_parts, cases_Bool, cond_both, not-true, not_from_false, or_cases}
use Rattle.std.proofs.lemmas.List.Sums.{sum_by-append}
use Rattle.cany_base.specs.declared.log_entry.LogEntry.{LogEntry}
use Rattle.cany_base.specs.declared.message.MsgKey.{MsgKey}
use Rattle.cany_base.specs.declared.message.Service.{Service}
use Rattle.cany_base.specs.declared.notice.NoticeKind.{NoticeKind}
use Rattle.cany_base.specs.declared.notice.NoticeKind.TheVariants.{Idle, Got, Sent, Bad}
use Rattle.cany_base.specs.Frame.{FrameParts, data_class}
use Rattle.cany_base.specs.Scenario.{ScenarioParts}
use Rattle.cany_model.specs.Bus.Frames.{Identity, identity_of, same_class}
use Rattle.cany_model.specs.Bus.History.{is_got, is_sent}
use Rattle.cany_model.specs.Promises.Entries.{delivers_key}
use Rattle.cany_model.specs.Rules.Delivery.{brings, is_delivery, delivery, delivery_effects}
use Rattle.cany_model.specs.Rules.Effect.{Effect, Ask, Withdraw, Enter, entered}
use Rattle.cany_model.specs.Rules.Messages.{data_of}
use Rattle.cany_model.specs.Rules.Protocol.{Protocol}
use Rattle.cany_model.proofs.Among.{Among, Among-append_left, Among-append_right, Among-from_any, one_at_most, one_if}
use Rattle.cany_model.proofs.Bus.Carried.{Has, is_got-true, is_sent-true}
use Rattle.cany_model.proofs.Bus.Identities.{same_class-true, same_class_self}
use Rattle.cany_model.proofs.Rules.ProtocolFacts.{IsFounded, log_by}

-- ---- the effect

-- a delivery is of a frame that was read
pub delivery_founded : (scenario : ScenarioParts) (p : Protocol) (by : Service) (i : ℕ) (f : FrameParts) (notice : NoticeKind) (before : List NoticeKind)
    → p.delivers by ≡ true → f.class ≡ data_class by → Has f notice
    → AllByRecursion (IsFounded scenario p i (notice ∷ before)) (delivery_effects by i f notice before)
unfolding delivery_effects
delivery_founded scenario p by i f notice before serves class has =
    cond_both (is_delivery i f notice before) (Enter (delivery (length before) by f) ∷ []) [] (AllByRecursion (IsFounded scenario p i (notice ∷ before)))
    (λ _. (record { frame = f; read = inl has; class = class; key = refl; carries = refl; now = refl; serves = serves }, tt))
    (λ _. tt)

pub entered-append : (first rest : List Effect) → entered (first ++ rest) ≡ entered first ++ entered rest
unfolding entered
entered-append [] rest = refl
entered-append (Ask f ∷ first) rest = entered-append first rest
entered-append (Withdraw x ∷ first) rest = entered-append first rest
entered-append (Enter entry ∷ first) rest = ap (λ entries. entry ∷ entries) (entered-append first rest)

-- the effect makes no entry
abbrev pub EntersNone : Effect → Type 0
EntersNone (Ask f) = Unit {0}
EntersNone (Withdraw x) = Unit {0}
EntersNone (Enter entry) = ⊥

pub entered-none : (effects : List Effect) → AllByRecursion EntersNone effects → entered effects ≡ []
unfolding entered
entered-none [] h = refl
entered-none (Ask f ∷ effects) h = entered-none effects h.1
entered-none (Withdraw x ∷ effects) h = entered-none effects h.1
entered-none (Enter entry ∷ effects) h = absurd h.0

-- ---- a protocol that delivers at once

-- the entries of a service in a turn whose notice has this frame
abbrev pub entries_with : Service → ℕ → FrameParts → NoticeKind → List NoticeKind → List LogEntry
entries_with by i f notice before =
    if same_class f.class (data_class by)
    then (if is_delivery i f notice before then delivery (length before) by f ∷ [] else [])
    else []

abbrev pub entries_at : Service → ℕ → NoticeKind → List NoticeKind → List LogEntry
entries_at by i Idle before = []
entries_at by i (Got f) before = entries_with by i f (Got f) before
entries_at by i (Sent f) before = entries_with by i f (Sent f) before
entries_at by i Bad before = []

-- its entries are the deliveries of the messages of a service, each at the first notice that brings
-- the frame
abbrev pub DeliversAtOnce : Protocol → Service → Type 0
DeliversAtOnce p by =
    (scenario : ScenarioParts) (i : ℕ) (notice : NoticeKind) (before : List NoticeKind)
    → entered (p.effects scenario i (notice ∷ before)) ≡ entries_at by i notice before

-- effects of a delivery, and others that enter nothing, where the class is that of the service
pub delivery_enters : (by : Service) (i : ℕ) (f : FrameParts) (notice : NoticeKind) (before : List NoticeKind) (rest : List Effect) → AllByRecursion EntersNone rest
    → entered (if same_class f.class (data_class by) then delivery_effects by i f notice before ++ rest else []) ≡ entries_with by i f notice before
unfolding delivery_effects entered
delivery_enters by i f notice before rest none = either (same_class f.class (data_class by)) (is_delivery i f notice before)
  where
    either : (same is : Bool)
        → entered (if same then (if is then Enter (delivery (length before) by f) ∷ [] else []) ++ rest else [])
        ≡ (if same then (if is then delivery (length before) by f ∷ [] else []) else [])
    either true true = ap (λ entries. delivery (length before) by f ∷ entries) (entered-none rest none)
    either true false = entered-none rest none
    either false is = refl

-- ---- none twice

-- whether a message of this key was brought to node i by this service
abbrev pub is_brought : ℕ → Service → MsgKey → List NoticeKind → Bool
is_brought i by key past = list_any (brings i (data_of by key)) past

abbrev count : MsgKey → List LogEntry → ℕ
count key entries = count_by (delivers_key key) entries

same_data : (by : Service) (f : FrameParts) (key : MsgKey) → f.class ≡ data_class by → f.node ≡ key.origin → f.number ≡ key.seq → identity_of f ≡ data_of by key
same_data by f key c o n = λ k. record { class = c k; number = n k; node = o k }

one_if-grows : (a b : Bool) → one_if b + 0 ≤ one_if (a || b)
one_if-grows true true = omega arith
one_if-grows true false = omega arith
one_if-grows false b = omega arith

-- the count of one delivery: it was not brought before
count_delivery : (by : Service) (i : ℕ) (key : MsgKey) (f : FrameParts) (notice : NoticeKind) (before : List NoticeKind) → f.class ≡ data_class by
    → is_delivery i f notice before ≡ true
    → one_if (is_brought i by key before) + count key (delivery (length before) by f ∷ []) ≤ one_if (is_brought i by key (notice ∷ before))
count_delivery by i key f notice before class is = elim (cases_Bool (f.node == key.origin && f.number == key.seq)) [
  | inl same ↦
      let parts = and_parts (f.node == key.origin) (f.number == key.seq) same in
      let x : identity_of f ≡ data_of by key = same_data by f key class (eqb-true f.node key.origin parts.0) (eqb-true f.number key.seq parts.1) in
      let new = and_parts (brings i (identity_of f) notice) (not (list_any (brings i (identity_of f)) before)) is in
      let here : brings i (data_of by key) notice ≡ true = ap (λ y. brings i y notice) (sym x) ∙ new.0 in
      let none : is_brought i by key before ≡ false = ap (λ y. list_any (brings i y) before) (sym x) ∙ not-true (list_any (brings i (identity_of f)) before) new.1 in
      rw (same, here, none) (omega arith)
  | inr other ↦ rw other (one_if-grows (brings i (data_of by key) notice) (is_brought i by key before))
]

count_with : (by : Service) (i : ℕ) (key : MsgKey) (f : FrameParts) (notice : NoticeKind) (before : List NoticeKind)
    → one_if (is_brought i by key before) + count key (entries_with by i f notice before) ≤ one_if (is_brought i by key (notice ∷ before))
count_with by i key f notice before =
    let none : one_if (is_brought i by key before) + count key [] ≤ one_if (is_brought i by key (notice ∷ before)) =
    one_if-grows (brings i (data_of by key) notice) (is_brought i by key before) in
    let Q : List LogEntry → Type 0 = λ entries. one_if (is_brought i by key before) + count key entries ≤ one_if (is_brought i by key (notice ∷ before)) in
    cond_both (same_class f.class (data_class by)) (if is_delivery i f notice before then delivery (length before) by f ∷ [] else []) [] Q
    (λ same. cond_both (is_delivery i f notice before) (delivery (length before) by f ∷ []) [] Q
    (λ is. count_delivery by i key f notice before (same_class-true f.class (data_class by) same) is)
    (λ _. none))
    (λ _. none)

count_at : (by : Service) (i : ℕ) (key : MsgKey) (notice : NoticeKind) (before : List NoticeKind)
    → one_if (is_brought i by key before) + count key (entries_at by i notice before) ≤ one_if (is_brought i by key (notice ∷ before))
count_at by i key Idle before = one_if-grows (brings i (data_of by key) Idle) (is_brought i by key before)
count_at by i key (Got f) before = count_with by i key f (Got f) before
count_at by i key (Sent f) before = count_with by i key f (Sent f) before
count_at by i key Bad before = one_if-grows (brings i (data_of by key) Bad) (is_brought i by key before)

count_log : (p : Protocol) (by : Service) → DeliversAtOnce p by → (scenario : ScenarioParts) (i : ℕ) (key : MsgKey) (past : List NoticeKind)
    → count key (log_by p scenario i past) ≤ one_if (is_brought i by key past)
count_log p by at_once scenario i key [] = omega arith
count_log p by at_once scenario i key (notice ∷ before) =
    rw (
      sum_by-append (λ entry. cond (delivers_key key entry) 1 0) (log_by p scenario i before) (entered (p.effects scenario i (notice ∷ before))),
      at_once scenario i notice before,
    )
    (omega (arith, count_log p by at_once scenario i key before, count_at by i key notice before))

pub delivers_once : (p : Protocol) (by : Service) → DeliversAtOnce p by → (scenario : ScenarioParts) (i : ℕ) (key : MsgKey) (past : List NoticeKind)
    → count_by (delivers_key key) (log_by p scenario i past) ≤ 1
delivers_once p by at_once scenario i key past =
    omega (arith, count_log p by at_once scenario i key past, one_at_most (is_brought i by key past))

-- ---- each that is brought

-- the delivery that the log of a protocol has of an identity
pub record HasEntry (p : Protocol) (scenario : ScenarioParts) (i : ℕ) (by : Service) (x : Identity) (past : List NoticeKind) : Type 0 where
  pub what : FrameParts
  pub identity : x ≡ identity_of what
  pub read : Among (Has what) past
  pub slot : ℕ
  pub stands : Among (λ y. y ≡ delivery slot by what) (log_by p scenario i past)

made : (by : Service) (i : ℕ) (f : FrameParts) (notice : NoticeKind) (before : List NoticeKind) → f.class ≡ data_class by → is_delivery i f notice before ≡ true
    → entries_with by i f notice before ≡ delivery (length before) by f ∷ []
made by i f notice before class is =
    let same : same_class f.class (data_class by) ≡ true = ap (λ c. same_class c (data_class by)) class ∙ same_class_self (data_class by) in
    rw (same, is) refl

made_at : (by : Service) (i : ℕ) (f : FrameParts) (notice : NoticeKind) (before : List NoticeKind) → f.class ≡ data_class by → is_delivery i f notice before ≡ true
    → Has f notice → entries_at by i notice before ≡ delivery (length before) by f ∷ []
made_at by i f notice before class is (inl got) =
    ap (λ e. entries_at by i e before) got ∙ made by i f (Got f) before class (ap (λ e. is_delivery i f e before) (sym got) ∙ is)
made_at by i f notice before class is (inr sent) =
    ap (λ e. entries_at by i e before) sent ∙ made by i f (Sent f) before class (ap (λ e. is_delivery i f e before) (sym sent) ∙ is)

entry_later : (p : Protocol) (scenario : ScenarioParts) (i : ℕ) (by : Service) (x : Identity) (e : NoticeKind) (before : List NoticeKind)
    → HasEntry p scenario i by x before → HasEntry p scenario i by x (e ∷ before)
entry_later p scenario i by x e before h = record {
  what = h.what;
  identity = h.identity;
  read = inr h.read;
  slot = h.slot;
  stands = Among-append_left (λ y. y ≡ delivery h.slot by h.what) (log_by p scenario i before) (entered (p.effects scenario i (e ∷ before))) h.stands;
}

-- what brings a frame has it, or one of its identity
record Brought (i : ℕ) (x : Identity) (e : NoticeKind) : Type 0 where
  what : FrameParts
  has : Has what e
  identity : x ≡ identity_of what

brings-true : (i : ℕ) (x : Identity) (e : NoticeKind) → brings i x e ≡ true → Brought i x e
brings-true i x e h = elim (or_cases (is_got x e) (x.node == i && is_sent x e) h) [
  | inl got ↦ let g = is_got-true x e got in record { what = g.what; has = inl g.was; identity = g.identity }
  | inr sent ↦ let g = is_sent-true x e (and_parts (x.node == i) (is_sent x e) sent).1 in record { what = g.what; has = inr g.was; identity = g.identity }
]

entry_now : (p : Protocol) (by : Service) → DeliversAtOnce p by → (scenario : ScenarioParts) (i : ℕ) (x : Identity) (e : NoticeKind) (before : List NoticeKind)
    → x.class ≡ data_class by → brings i x e ≡ true → list_any (brings i x) before ≡ false → HasEntry p scenario i by x (e ∷ before)
entry_now p by at_once scenario i x e before class b none =
    let w = brings-true i x e b in
    let is : w.what.class ≡ data_class by = sym (ap (λ (y : Identity). y.class) w.identity) ∙ class in
    let first : is_delivery i w.what e before ≡ true =
    and_from (brings i (identity_of w.what) e) (not (list_any (brings i (identity_of w.what)) before)) (rw w.identity at b)
    (not_from_false _ (rw w.identity at none)) in
    record {
      what = w.what;
      identity = w.identity;
      read = inl w.has;
      slot = length before;
      stands = Among-append_right (λ y. y ≡ delivery (length before) by w.what) (log_by p scenario i before) (entered (p.effects scenario i (e ∷ before)))
          (rw (at_once scenario i e before, made_at by i w.what e before is first w.has) (inl refl));
    }

-- what brings a frame of the service makes an entry
pub entry_from_brought : (p : Protocol) (by : Service) → DeliversAtOnce p by → (scenario : ScenarioParts) (i : ℕ) (x : Identity) (past : List NoticeKind)
    → x.class ≡ data_class by → Among (λ e. brings i x e ≡ true) past → HasEntry p scenario i by x past
entry_from_brought p by at_once scenario i x [] class h = absurd h
entry_from_brought p by at_once scenario i x (e ∷ before) class h = elim (cases_Bool (list_any (brings i x) before)) [
  | inl early ↦ entry_later p scenario i by x e before (entry_from_brought p by at_once scenario i x before class (Among-from_any (brings i x) before early))
  | inr none ↦ elim h [
    | inl now ↦ entry_now p by at_once scenario i x e before class now none
    | inr early ↦ entry_later p scenario i by x e before (entry_from_brought p by at_once scenario i x before class early)
  ]
]
