-- What an incarnation sees of a message that it accepts: its data frame was carried Clean at an age
-- that was read, and what is accepted stays so.
use Rattle.std.proofs.Common.{◌≡◌, ℕ, zero, suc, ◌-◌, ◌<◌, ◌≤◌, ◌||◌, ◌&&◌, ◌==◌, inl, inr, not, Bool, true, false, List, [], ◌∷◌, length, map, get_or, refl, ap, sym, ◌∙◌, arith}
use Rattle.std.specs.List.{list_any, range_with_len}
use Rattle.std.proofs.lemmas.Bool.{and_from, and_parts, both_ways, cases_Bool, cases_lt, false_from_ne_true, false≢true, not_from_false, or_cases, or_left, or_right}
use Rattle.std.proofs.lemmas.List.Folds.{list_any_at}
use Rattle.std.proofs.lemmas.List.FromFn.{get_or-range_with_len, length-range_with_len}
use Rattle.cany_base.specs.declared.class.Class.TheVariants as class
use Rattle.cany_base.specs.declared.message.MsgKey.{MsgKey}
use Rattle.cany_base.specs.declared.notice.NoticeKind.{NoticeKind}
use Rattle.cany_base.specs.declared.slot_note.SlotNote.{SlotNote}
use Rattle.cany_base.specs.Scenario.{ScenarioParts}
use Rattle.cany_model.specs.Bus.Frames.{Identity, same_class}
use Rattle.cany_model.specs.Bus.History.{carries_early, given, has_own, is_got, is_hidden, is_sent, seen}
use Rattle.cany_model.specs.Bus.State.{Incarnation}
use Rattle.cany_model.specs.Rules.Messages.{accept_of_key}
use Rattle.cany_model.specs.Rules.Totcan.{holds, is_accepted, is_heard, is_recent, tot_of_key}
use Rattle.cany_model.proofs.Bus.Seen.{carries_other, early_hidden, hidden_why}
use Rattle.cany_model.proofs.Bus.States.{note_at}
use Rattle.cany_model.proofs.Timed.Common.Ages.{Carried, Done, Gets, NoPlace, any_past, carried_there, clean_carried, gave_none, open_place, past, some_past}
use Rattle.cany_model.proofs.Timed.Order.OrderAt.{DataFirst}
use Rattle.cany_model.proofs.Timed.Common.SeenAges.{Sees, carried_from, done_from, done_to, gets_from, sends_from}
use Rattle.cany_model.proofs.Timed.Order.TotKept.{NoSilent, TraceKept}
use Rattle.cany_model.proofs.Timed.Order.TotSlots.{carries-true, got_carried, holds_carried, sends_clean}

-- ---- a message that was heard to be accepted

-- a frame that accepts it was got in time
pub heard_at : (b i v : ℕ) (m : MsgKey) (T : List SlotNote) → is_heard b m (past i T v) ≡ true
    → (p : ℕ) × (v ≤ p) × Gets i T p (accept_of_key m) × (is_recent b m (past i T (suc p)) ≡ true)
unfolding is_heard
heard_at b i zero m [] h = absurd (false≢true h)
heard_at b i (suc v) m [] h = absurd (false≢true h)
heard_at b i zero m (note ∷ T) h =
    let before : List NoticeKind = map (given i) T in
    let got : Bool = is_got (accept_of_key m) (given i note) in
    let parts = and_parts (not (holds m (given i note))) (is_heard b m before || got && is_recent b m before) h in
    elim (or_cases (is_heard b m before) (got && is_recent b m before) parts.1) [
      | inl early ↦ let r = heard_at b i 0 m T early in (suc r.0, omega arith, r.2, r.3)
      | inr now ↦ let two = and_parts got (is_recent b m before) now in (0, omega arith, two.0, two.1)
    ]
heard_at b i (suc v) m (note ∷ T) h = let r = heard_at b i v m T h in (suc r.0, omega (arith, r.1), r.2, r.3)

-- and where the place lies before it, the message is heard to be accepted
pub heard_from : (b j u r : ℕ) (m : MsgKey) (T : List SlotNote) → NoPlace j u r m T → u ≤ r → Gets j T r (accept_of_key m)
    → is_recent b m (past j T (suc r)) ≡ true → is_heard b m (past j T u) ≡ true
unfolding is_heard
heard_from b j u r m [] none from got near = absurd (false≢true (sym (ap (is_got (accept_of_key m)) (gave_none j r)) ∙ got))
heard_from b j zero zero m (note ∷ T) none from got near =
    let before : List NoticeKind = map (given j) T in
    let now : Bool = is_got (accept_of_key m) (given j note) in
    and_from (not (holds m (given j note))) (is_heard b m before || now && is_recent b m before)
    (not_from_false (holds m (given j note)) (false_from_ne_true (holds m (given j note)) (none 0 (omega arith) (omega arith))))
    (or_right (is_heard b m before) (now && is_recent b m before) (and_from now (is_recent b m before) got near))
heard_from b j zero (suc r) m (note ∷ T) none from got near =
    let before : List NoticeKind = map (given j) T in
    let now : Bool = is_got (accept_of_key m) (given j note) in
    let rest = heard_from b j 0 r m T (λ p x y. none (suc p) (omega arith) (omega (arith, y))) (omega arith) got near in
    and_from (not (holds m (given j note))) (is_heard b m before || now && is_recent b m before)
    (not_from_false (holds m (given j note)) (false_from_ne_true (holds m (given j note)) (none 0 (omega arith) (omega arith))))
    (or_left (is_heard b m before) (now && is_recent b m before) rest)
heard_from b j (suc u) zero m (note ∷ T) none from got near = absurd (omega (arith, from))
heard_from b j (suc u) (suc r) m (note ∷ T) none from got near =
    heard_from b j u r m T (λ p x y. none (suc p) (omega (arith, x)) (omega (arith, y))) (omega (arith, from)) got near

-- ---- what an incarnation sees of a run

pub not_vector : same_class class.Tot class.Rha ≡ false
unfolding same_class
not_vector = refl

not_vector_accept : same_class class.Accept class.Rha ≡ false
unfolding same_class
not_vector_accept = refl

module _ (scenario : ScenarioParts) (T : List SlotNote) (inc : Incarnation) (plain : NoSilent T)
    (numbered : (age : ℕ) → age < length T → (note_at T age).slot ≡ length T - 1 - age) (t : TraceKept scenario T) where
  pub seen_first : DataFirst (seen inc T)
  seen_first p q m less c d = t.data_first p q m less (carried_from inc T p (tot_of_key m) c).1 (done_from inc T q m d).1

  -- a slot that carried no vector, not older than one that it sees, it sees
  sees_other : (x : Identity) → same_class x.class class.Rha ≡ false → (a q : ℕ) → a ≤ q → q < length T → Sees inc T q → Carried T a x → Sees inc T a
  sees_other x other a q le there sees c = elim (cases_Bool (is_hidden inc (note_at T a))) [
    | inr plain_a ↦ plain_a
    | inl hidden ↦
        let why = hidden_why inc (note_at T a) hidden in
        elim why.1 [
          | inl early ↦
              let at_a = numbered a (omega (arith, le, there)) in
              let at_q = numbered q there in
              absurd (both_ways (is_hidden inc (note_at T q)) sees
              (early_hidden inc (note_at T q) why.0 (omega (arith, early, at_a, at_q, le, there))))
          | inr vector ↦
              let w = carries-true x (note_at T a) c in
              absurd (both_ways (carries_early inc.cycle (note_at T a))
              (carries_other inc.cycle (note_at T a) w.what w.frame
              (ap (λ (y : Identity). same_class y.class class.Rha) (sym w.identity) ∙ other)) vector)
        ]
  ]

  pub sees_newer : (m : MsgKey) (a q : ℕ) → a ≤ q → q < length T → Sees inc T q → Carried T a (tot_of_key m) → Sees inc T a
  sees_newer m a q le there sees c = sees_other (tot_of_key m) not_vector a q le there sees c

  pub sees_accept : (m : MsgKey) (a q : ℕ) → a ≤ q → q < length T → Sees inc T q → Carried T a (accept_of_key m) → Sees inc T a
  sees_accept m a q le there sees c = sees_other (accept_of_key m) not_vector_accept a q le there sees c

  -- the data frame of an accepted message was carried Clean at an age that is read
  pub accepted_done : (i v : ℕ) (m : MsgKey) → is_accepted scenario.params.bound i m (past i (seen inc T) v) ≡ true
      → (q : ℕ) × (v ≤ q) × Done (seen inc T) q m
  unfolding is_accepted has_own
  accepted_done i v m h = elim (or_cases (is_heard b m P) (m.origin == i && list_any (is_sent x) P) h) [
    | inl heard ↦
        let g = heard_at b i v m S heard in
        let place = open_place b i (suc g.0) m S g.3 in
        let a = t.accept_after g.0 m (got_carried (accept_of_key m) i (note_at T g.0) (gets_from inc T i g.0 (accept_of_key m) g.2).1) in
        let held = carried_from inc T place.0 x (holds_carried m i (note_at S place.0) place.3) in
        let le : a.0 ≤ place.0 = elim (cases_lt place.0 a.0) [ inl newer ↦ absurd (t.data_first place.0 a.0 m newer held.1 a.3) | inr old ↦ old ] in
        let sees = sees_newer m a.0 place.0 le (carried_there x T place.0 held.1) held.0 (clean_carried x (note_at T a.0) a.3) in
        (a.0, omega (arith, g.1, a.1), done_to inc T a.0 m sees a.3)
    | inr own ↦
        let g = any_past (is_sent x) i v S (and_parts (m.origin == i) (list_any (is_sent x) P) own).1 in
        let sent = sends_from inc T i g.0 x g.2 in
        (g.0, g.1, done_to inc T g.0 m sent.0 (sends_clean T plain i g.0 x sent.1))
  ]
    where
      b : ℕ
      b = scenario.params.bound

      S : List SlotNote
      S = seen inc T

      P : List NoticeKind
      P = past i (seen inc T) v

      x : Identity
      x = tot_of_key m

  -- what a node has accepted at a reading, it has accepted at each later one
  pub accepted_on : (i u v : ℕ) (m : MsgKey) → u ≤ v → is_accepted scenario.params.bound i m (past i (seen inc T) v) ≡ true
      → is_accepted scenario.params.bound i m (past i (seen inc T) u) ≡ true
  unfolding is_accepted has_own
  accepted_on i u v m from h = elim (or_cases (is_heard b m (past i S v)) (m.origin == i && list_any (is_sent x) (past i S v)) h) [
    | inl heard ↦
        let g = heard_at b i v m S heard in
        let a = t.accept_after g.0 m (got_carried (accept_of_key m) i (note_at T g.0) (gets_from inc T i g.0 (accept_of_key m) g.2).1) in
        or_left (is_heard b m (past i S u)) (m.origin == i && list_any (is_sent x) (past i S u))
        (heard_from b i u g.0 m S (λ p _ below held.
        t.data_first p a.0 m (omega (arith, below, a.1)) (carried_from inc T p x (holds_carried m i (note_at S p) held)).1 a.3)
        (omega (arith, from, g.1)) g.2 g.3)
    | inr own ↦
        let parts = and_parts (m.origin == i) (list_any (is_sent x) (past i S v)) own in
        let g = any_past (is_sent x) i v S parts.1 in
        or_right (is_heard b m (past i S u)) (m.origin == i && list_any (is_sent x) (past i S u))
        (and_from (m.origin == i) (list_any (is_sent x) (past i S u)) parts.0 (some_past (is_sent x) i u g.0 S refl (omega (arith, from, g.1)) g.2))
  ]
    where
      b : ℕ
      b = scenario.params.bound

      S : List SlotNote
      S = seen inc T

      x : Identity
      x = tot_of_key m

-- ---- some of the nodes

pub some_node : (test : ℕ → Bool) (n i : ℕ) → i < n → test i ≡ true → list_any test (range_with_len 0 n) ≡ true
some_node test n i below h =
    let there : i < length (range_with_len 0 n) = omega (arith, length-range_with_len 0 n, below) in
    let at : get_or (range_with_len 0 n) i 0 ≡ i = let e = get_or-range_with_len 0 n i 0 below in omega (arith, e) in
    list_any_at test (range_with_len 0 n) i 0 there (ap test at ∙ h)
