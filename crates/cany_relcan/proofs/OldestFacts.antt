-- The oldest of the timers that run.
use Rattle.std.specs.Prelude.{slice_get}
use Rattle.std.proofs.Common.{◌≡◌, ℕ, ◌-◌, ◌^◌, List, [], ◌∷◌, drop, Some, None, refl}
use Rattle.std.proofs.lemmas.Bool.{eq-eqb, ne_eqb}
use Rattle.cany_relcan.specs.declared.timers.Timer.{Timer}
use Rattle.cany_relcan.specs.Timers.{oldest_frame, oldest_from, oldest_start, without_from}

-- ---- read off the front

pub front_started : (timers : List Timer) (timer : Timer) → Some timer ≡ slice_get timers 0 → timer.first ≡ oldest_start timers
front_started [] timer is = absurd (cc)
front_started (t ∷ timers) timer is = cc

pub none_started : (timers : List Timer) → None ≡ slice_get timers 0 → 2 ^ 64 - 1 ≡ oldest_start timers
none_started [] is = refl
none_started (t ∷ timers) is = absurd (cc)

pub front_frame : (timers : List Timer) (timer : Timer) → Some timer ≡ slice_get timers 0 → Some timer.frame ≡ oldest_frame timers
front_frame [] timer is = absurd (cc)
front_frame (t ∷ timers) timer is = cc

pub no_front : (timers : List Timer) → None ≡ slice_get timers 0 → timers ≡ []
no_front [] is = refl
no_front (t ∷ timers) is = absurd (cc)

-- ---- started in a slot, or not

module _ (slot : ℕ) where
  pub from_other : (timers : List Timer) → (oldest_start timers ≡ slot → ⊥) → None ≡ oldest_from slot timers
  from_other [] apart = refl
  from_other (timer ∷ timers) apart = rw (ne_eqb timer.first slot apart) refl

  pub without_other : (timers : List Timer) → (oldest_start timers ≡ slot → ⊥) → timers ≡ without_from slot timers
  without_other [] apart = refl
  without_other (timer ∷ timers) apart = rw (ne_eqb timer.first slot apart) refl

  pub from_oldest : (timers : List Timer) → oldest_start timers ≡ slot → oldest_frame timers ≡ oldest_from slot timers
  from_oldest [] same = refl
  from_oldest (timer ∷ timers) same = rw (eq-eqb timer.first slot same) refl

  pub without_oldest : (timers : List Timer) → oldest_start timers ≡ slot → drop 1 timers ≡ without_from slot timers
  without_oldest [] same = refl
  without_oldest (timer ∷ timers) same = rw (eq-eqb timer.first slot same) refl
