-- Which timers run after a notice, and what the one does that ends in its turn.
use Rattle.std.specs.Prelude.{slice_index_or, nat_lt}
use Rattle.std.proofs.Common.{◌≡◌, ℕ, zero, suc, ◌+◌, ◌-◌, ◌<◌, ◌≤◌, ◌==◌, ◌&&◌, ◌||◌, Bool, true, false, if◌then◌else◌, not, inl, inr, List, [], ◌∷◌, ◌++◌, drop, length, replicate, Option, Some, None, refl, ap, sym, ◌∙◌, arith, append_assoc, add-zero, eq-eqb, length-drop}
use Rattle.std.specs.List.{AllByRecursion}
use Rattle.std.proofs.lemmas.Bool.{and_parts, cases_Bool, cases_lt, cond_both, ne_eqb, lt-ltb, le-ltb}
use Rattle.std.proofs.lemmas.Bool.Decides.{nat_tests}
use Rattle.std.proofs.lemmas.List.{append-nil, get_or-drop}
use Rattle.cany_base.specs.declared.class.Class.TheVariants as class
use Rattle.cany_base.specs.declared.notice.NoticeKind.{NoticeKind}
use Rattle.cany_base.specs.declared.notice.NoticeKind.TheVariants.{Idle, Got, Sent, Bad}
use Rattle.cany_base.specs.Frame.{FrameParts}
use Rattle.cany_base.specs.Params.{Parameters}
use Rattle.cany_model.specs.Rules.Eager.{has_enough}
use Rattle.cany_model.specs.Rules.Effect.{Effect, Ask}
use Rattle.cany_model.specs.Bus.Frames.{Identity, identity_of, is_of, same_class}
use Rattle.cany_model.specs.Rules.Relcan.{fall_back_effects, fell_back, has_confirm, has_copy, is_first_got, is_timed, timer_effects}
use Rattle.cany_model.specs.Bus.History.{is_got}
use Rattle.cany_model.proofs.Among.{Among-drop, Among-from_any, any-from_Among, Each-append, Each-weaker}
use Rattle.cany_model.proofs.Bus.Identities.{same_class-true, same_identity-true, same_identity_self}
use Rattle.cany_relcan.specs.declared.timers.Timer.{Timer}
use Rattle.cany_relcan.specs.Timers.{oldest_from, without_from, started_by, started_since}

-- the timer that the newest of these notices started
abbrev pub started_now : ℕ → List NoticeKind → List Timer
started_now i [] = []
started_now i (notice ∷ before) = started_by i notice before

-- those of one notice more, by age
started_split : (i n : ℕ) (past : List NoticeKind) → started_since i (suc n) past ≡ started_now i (drop n past) ++ started_since i n past
unfolding started_since
started_split i zero [] = refl
started_split i zero (notice ∷ before) = sym (append-nil (started_by i notice before))
started_split i (suc n) [] = refl
started_split i (suc n) (notice ∷ before) =
    ap (λ timers. timers ++ started_by i notice before) (started_split i n before)
    ∙ append_assoc (started_now i (drop n before)) (started_since i n before) (started_by i notice before)

-- after a notice the oldest of those that ran is first
running_split : (i n : ℕ) (notice : NoticeKind) (past : List NoticeKind)
    → started_since i (suc n) past ++ started_by i notice past ≡ started_now i (drop n past) ++ started_since i (suc n) (notice ∷ past)
unfolding started_since
running_split i n notice past =
    ap (λ timers. timers ++ started_by i notice past) (started_split i n past)
    ∙ append_assoc (started_now i (drop n past)) (started_since i n past) (started_by i notice past)

pub started_by_each : (P : Timer → Type 0) (i : ℕ) (notice : NoticeKind) (past : List NoticeKind)
    → ((f : FrameParts) → f.class ≡ class.Rel → P (record { frame = f; first = length past })) → AllByRecursion P (started_by i notice past)
started_by_each P i Idle past p = tt
started_by_each P i Bad past p = tt
started_by_each P i (Sent f) past p = tt
started_by_each P i (Got f) past p =
    cond_both (is_timed i (identity_of f) && not (has_copy (identity_of f) past)) (record { frame = f; first = length past } ∷ []) [] (AllByRecursion P)
    (λ starts.
    let timed = (and_parts (is_timed i (identity_of f)) (not (has_copy (identity_of f) past)) starts).0 in
    let rel = (and_parts (same_class f.class class.Rel) (not (f.node == i)) timed).0 in
    (p f (same_class-true f.class class.Rel rel), tt))
    (λ _. tt)

-- the timers that run were started in the newest slots
started_late : (i n : ℕ) (past : List NoticeKind) → AllByRecursion (λ t. length past ≤ t.first + n) (started_since i n past)
unfolding started_since
started_late i zero past = tt
started_late i (suc n) [] = tt
started_late i (suc n) (notice ∷ before) =
    Each-append (λ t. suc (length before) ≤ t.first + suc n) (started_since i n before) (started_by i notice before)
    (Each-weaker (λ t. length before ≤ t.first + n) (λ t. suc (length before) ≤ t.first + suc n) (λ t h. omega arith) (started_since i n before) (started_late i n before))
    (started_by_each (λ t. suc (length before) ≤ t.first + suc n) i notice before (λ f _. omega arith))

-- and all before the slot that comes next
pub started_before : (i n : ℕ) (past : List NoticeKind) → AllByRecursion (λ t. t.first < length past) (started_since i n past)
unfolding started_since
started_before i zero past = tt
started_before i (suc n) [] = tt
started_before i (suc n) (notice ∷ before) =
    Each-append (λ t. t.first < suc (length before)) (started_since i n before) (started_by i notice before)
    (Each-weaker (λ t. t.first < length before) (λ t. t.first < suc (length before)) (λ t h. omega arith) (started_since i n before) (started_before i n before))
    (started_by_each (λ t. t.first < suc (length before)) i notice before (λ f _. omega arith))

-- ---- the oldest

abbrev pub first_frame : List Timer → Option FrameParts
first_frame [] = None
first_frame (timer ∷ timers) = Some timer.frame

later_oldest : (slot : ℕ) (timers : List Timer) → AllByRecursion (λ t. slot < t.first) timers
    → (oldest_from slot timers ≡ None) × (without_from slot timers ≡ timers)
later_oldest slot [] later = (refl, refl)
later_oldest slot (t ∷ timers) later =
    let apart : t.first ≡ slot → ⊥ = λ at. omega (arith, at, later.0) in
    (rw (ne_eqb t.first slot apart) refl, rw (ne_eqb t.first slot apart) refl)

-- at most one timer, started in this slot
record IsFrom (slot : ℕ) (timers : List Timer) : Type 0 where
  one : length timers ≤ 1
  first : AllByRecursion (λ t. t.first ≡ slot) timers

oldest_is : (slot : ℕ) (now rest : List Timer) → IsFrom slot now → AllByRecursion (λ t. slot < t.first) rest
    → (oldest_from slot (now ++ rest) ≡ first_frame now) × (without_from slot (now ++ rest) ≡ rest)
oldest_is slot [] rest from later = later_oldest slot rest later
oldest_is slot (t ∷ []) rest from later =
    (rw (eq-eqb t.first slot from.first.0) refl, rw (eq-eqb t.first slot from.first.0) refl)
oldest_is slot (t ∷ u ∷ more) rest from later = absurd (omega (arith, from.one))

pub started_by_one : (i : ℕ) (notice : NoticeKind) (past : List NoticeKind) → length (started_by i notice past) ≤ 1
started_by_one i Idle past = omega arith
started_by_one i Bad past = omega arith
started_by_one i (Sent f) past = omega arith
started_by_one i (Got f) past = grind (arith, nat_tests)

now_from : (i slot : ℕ) (newest : List NoticeKind) → length newest ≡ suc slot → IsFrom slot (started_now i newest)
now_from i slot [] len = record { one = omega arith; first = tt }
now_from i slot (notice ∷ before) len = record {
  one = started_by_one i notice before;
  first = started_by_each (λ t. t.first ≡ slot) i notice before (λ f _. omega (arith, len));
}

none_now : (i : ℕ) (newest : List NoticeKind) → length newest ≡ 0 → started_now i newest ≡ []
none_now i [] len = refl
none_now i (notice ∷ before) len = absurd (omega (arith, len))

-- what ends in the turn of the newest notice, and what runs on
pub record EndsWith (i n : ℕ) (notice : NoticeKind) (past : List NoticeKind) (running : List Timer) : Type 0 where
  pub due : (if nat_lt (length past) (suc n) then None else oldest_from (length past - suc n) running) ≡ first_frame (started_now i (drop n past))
  pub rest : (if nat_lt (length past) (suc n) then running else without_from (length past - suc n) running) ≡ started_since i (suc n) (notice ∷ past)

pub ends_with : (i n : ℕ) (notice : NoticeKind) (past : List NoticeKind) (running : List Timer)
    → running ≡ started_since i (suc n) past ++ started_by i notice past → EndsWith i n notice past running
ends_with i n notice past running is = elim (cases_lt (length past) (suc n)) [
  | inl early ↦
      let none : started_now i (drop n past) ≡ [] = none_now i (drop n past) (omega (arith, length-drop n past)) in
      record {
        due = rw (lt-ltb (length past) (suc n) early, none) refl;
        rest = rw (lt-ltb (length past) (suc n) early) (is ∙ running_split i n notice past ∙ ap (λ timers. timers ++ started_since i (suc n) (notice ∷ past)) none);
      }
  | inr late ↦
      let from : IsFrom (length past - suc n) (started_now i (drop n past)) = now_from i (length past - suc n) (drop n past) (omega (arith, length-drop n past)) in
      let later : AllByRecursion (λ t. length past - suc n < t.first) (started_since i (suc n) (notice ∷ past)) =
      Each-weaker (λ t. suc (length past) ≤ t.first + suc n) (λ t. length past - suc n < t.first) (λ t h. omega arith) (started_since i (suc n) (notice ∷ past)) (started_late i (suc n) (notice ∷ past)) in
      let both = oldest_is (length past - suc n) (started_now i (drop n past)) (started_since i (suc n) (notice ∷ past)) from later in
      record {
        due = rw (le-ltb (length past) (suc n) late, is, running_split i n notice past) both.0;
        rest = rw (le-ltb (length past) (suc n) late, is, running_split i n notice past) both.1;
      }
]

-- ---- what the definitions say of it

-- whether the node falls back for x, with the frame of the timer that ends
abbrev pub falls_with : Option FrameParts → Identity → Bool → Bool
falls_with None x confirmed = false
falls_with (Some f) x confirmed = is_of x f && not confirmed

and_none : (a b : Bool) → ((a && false) && b) ≡ false
and_none a b = grind (arith, nat_tests)

falls_when : (t m c : Bool) (f : FrameParts) (timer : Timer) → timer.frame ≡ f → (x : Identity) → is_of x f ≡ true
    → ((t && (true && m)) && not c) ≡ falls_with (first_frame (if t && m then timer ∷ [] else [])) x c
falls_when true true c f timer at x is = rw (at, is) refl
falls_when true false c f timer at x is = refl
falls_when false m c f timer at x is = refl

falls_not : (t m c : Bool) (f : FrameParts) (timer : Timer) → timer.frame ≡ f → (x : Identity) → is_of x f ≡ false
    → false ≡ falls_with (first_frame (if t && m then timer ∷ [] else [])) x c
falls_not true true c f timer at x is = rw (at, is) refl
falls_not true false c f timer at x is = refl
falls_not false m c f timer at x is = refl

falls_newest : (i : ℕ) (x : Identity) (newest : List NoticeKind) (c : Bool)
    → ((is_timed i x && is_first_got x newest) && not c) ≡ falls_with (first_frame (started_now i newest)) x c
falls_newest i x [] c = and_none (is_timed i x) (not c)
falls_newest i x (Idle ∷ before) c = and_none (is_timed i x) (not c)
falls_newest i x (Bad ∷ before) c = and_none (is_timed i x) (not c)
falls_newest i x (Sent f ∷ before) c = and_none (is_timed i x) (not c)
falls_newest i x (Got f ∷ before) c = elim (cases_Bool (is_of x f)) [
  | inl is ↦
      let same : x ≡ identity_of f = same_identity-true x (identity_of f) is in
      ap (λ b. (is_timed i x && (b && not (has_copy x before))) && not c) is
      ∙ falls_when (is_timed i x) (not (has_copy x before)) c f (record { frame = f; first = length before }) refl x is
      ∙ ap (λ y. falls_with (first_frame (if is_timed i y && not (has_copy y before) then record { frame = f; first = length before } ∷ [] else [])) x c) same
  | inr other ↦
      ap (λ b. (is_timed i x && (b && not (has_copy x before))) && not c) other
      ∙ and_none (is_timed i x) (not c)
      ∙ falls_not (is_timed i (identity_of f)) (not (has_copy (identity_of f) before)) c f (record { frame = f; first = length before }) refl x other
]

pub fell_back-more : (i n : ℕ) (x : Identity) (notice : NoticeKind) (past : List NoticeKind)
    → fell_back (suc n) i x (notice ∷ past) ≡ (falls_with (first_frame (started_now i (drop n past))) x (has_confirm x (notice ∷ past)) || fell_back (suc n) i x past)
unfolding fell_back
fell_back-more i n x notice past = ap (λ b. b || fell_back (suc n) i x past) (falls_newest i x (drop n past) (has_confirm x (notice ∷ past)))

-- what the timer that ends leads to
abbrev pub end_effects : Parameters → List NoticeKind → Option FrameParts → List Effect
end_effects p past None = []
end_effects p past (Some f) = if not (has_confirm (identity_of f) past) && not (has_enough p.omit (identity_of f) past) then Ask f ∷ [] else []

asks_when : (t m c g : Bool) (f : FrameParts) (first : ℕ) (p : Parameters) (past : List NoticeKind) → not (has_confirm (identity_of f) past) ≡ c
    → not (has_enough p.omit (identity_of f) past) ≡ g
    → (if ((t && (true && m)) && c) && g then Ask f ∷ [] else []) ≡ end_effects p past (first_frame (if t && m then record { frame = f; first = first } ∷ [] else []))
asks_when true true c g f first p past is_c is_g = rw (is_c, is_g) refl
asks_when true false c g f first p past is_c is_g = refl
asks_when false m c g f first p past is_c is_g = refl

effects_newest : (p : Parameters) (i n : ℕ) (past newest : List NoticeKind) → p.confirm ≡ suc n → drop (suc n) past ≡ newest
    → fall_back_effects p i past (slice_index_or newest 0 Idle) ≡ end_effects p past (first_frame (started_now i newest))
effects_newest p i n past [] is at = refl
effects_newest p i n past (Idle ∷ before) is at = refl
effects_newest p i n past (Bad ∷ before) is at = refl
effects_newest p i n past (Sent f ∷ before) is at = refl
effects_newest p i n past (Got f ∷ before) is at =
    rw (is, at, same_identity_self (identity_of f))
    (asks_when (is_timed i (identity_of f)) (not (has_copy (identity_of f) before)) (not (has_confirm (identity_of f) past)) (not (has_enough p.omit (identity_of f) past))
    f (length before) p past refl refl)

pub timer_effects-is : (p : Parameters) (i n : ℕ) (notice : NoticeKind) (past : List NoticeKind) → p.confirm ≡ suc n
    → timer_effects p i (notice ∷ past) ≡ end_effects p (notice ∷ past) (first_frame (started_now i (drop n past)))
unfolding timer_effects
timer_effects-is p i n notice past is =
    let place : slice_index_or (notice ∷ past) p.confirm Idle ≡ slice_index_or (drop n past) 0 Idle =
    ap (λ k. slice_index_or (notice ∷ past) k Idle) is ∙ sym (get_or-drop n past 0 Idle ∙ ap (λ k. slice_index_or past k Idle) (add-zero n)) in
    ap (fall_back_effects p i (notice ∷ past)) place ∙ effects_newest p i n (notice ∷ past) (drop n past) is refl

-- the frame of a timer is a data frame
pub due_class : (i : ℕ) (newest : List NoticeKind) (f : FrameParts) → first_frame (started_now i newest) ≡ Some f → f.class ≡ class.Rel
due_class i newest f is = first_class (started_now i newest) (now_class newest) is
  where
    now_class : (newest : List NoticeKind) → AllByRecursion (λ t. t.frame.class ≡ class.Rel) (started_now i newest)
    now_class [] = tt
    now_class (notice ∷ before) = started_by_each (λ t. t.frame.class ≡ class.Rel) i notice before (λ g rel. rel)

    first_class : (timers : List Timer) → AllByRecursion (λ t. t.frame.class ≡ class.Rel) timers → first_frame timers ≡ Some f → f.class ≡ class.Rel
    first_class [] all at = absurd (cc)
    first_class (t ∷ timers) all at = let same : t.frame ≡ f = cc in ap (λ (g : FrameParts). g.class) (sym same) ∙ all.0

-- and a copy of it was read
pub due_read : (i : ℕ) (newest : List NoticeKind) (f : FrameParts) → first_frame (started_now i newest) ≡ Some f → has_copy (identity_of f) newest ≡ true
due_read i [] f is = absurd (cc)
due_read i (Idle ∷ before) f is = absurd (cc)
due_read i (Bad ∷ before) f is = absurd (cc)
due_read i (Sent g ∷ before) f is = absurd (cc)
due_read i (Got g ∷ before) f is = go (is_timed i (identity_of g) && not (has_copy (identity_of g) before)) is
  where
    go : (starts : Bool) → first_frame (if starts then record { frame = g; first = length before } ∷ [] else []) ≡ Some f → has_copy (identity_of f) (Got g ∷ before) ≡ true
    go true at =
        let same : g ≡ f = cc in
        ap (λ (x : FrameParts). has_copy (identity_of x) (Got g ∷ before)) (sym same)
        ∙ ap (λ b. b || has_copy (identity_of g) before) (same_identity_self (identity_of g))
    go false at = absurd (cc)

-- what was read before is read still
pub dropped_copy : (x : Identity) (n : ℕ) (past : List NoticeKind) → has_copy x (drop n past) ≡ true → has_copy x past ≡ true
dropped_copy x n past h = any-from_Among (is_got x) past (Among-drop (λ e. is_got x e ≡ true) n past (Among-from_any (is_got x) (drop n past) h))

-- ---- idle slots

pub started_since-idle : (i n k : ℕ) → started_since i n (replicate k Idle) ≡ []
unfolding started_since
started_since-idle i zero k = refl
started_since-idle i (suc n) zero = refl
started_since-idle i (suc n) (suc k) = ap (λ timers. timers ++ []) (started_since-idle i n k)

none_idle : (x : Identity) (n k : ℕ) → is_first_got x (drop n (replicate k Idle)) ≡ false
none_idle x zero zero = refl
none_idle x zero (suc k) = refl
none_idle x (suc n) zero = refl
none_idle x (suc n) (suc k) = none_idle x n k

pub fell_back-idle : (confirm i : ℕ) (x : Identity) (k : ℕ) → fell_back confirm i x (replicate k Idle) ≡ false
unfolding fell_back
fell_back-idle confirm i x zero = refl
fell_back-idle confirm i x (suc k) =
    ap (λ b. ((is_timed i x && b) && not (has_confirm x (replicate (suc k) Idle))) || fell_back confirm i x (replicate k Idle)) (none_idle x confirm (suc k))
    ∙ ap (λ b. b || fell_back confirm i x (replicate k Idle)) (and_none (is_timed i x) (not (has_confirm x (replicate (suc k) Idle))))
    ∙ fell_back-idle confirm i x k
