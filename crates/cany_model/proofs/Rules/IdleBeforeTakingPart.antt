-- What a node has read before it takes part: idle slots alone.
use Rattle.std.specs.Prelude.{slice_index_or}
use Rattle.std.proofs.Common.{◌≡◌, ℕ, zero, suc, ◌<◌, ◌≤◌, ◌&&◌, Bool, true, false, not, List, [], ◌∷◌, length, drop, refl, ap, arith}
use Rattle.std.specs.List.{AllByRecursion, list_any}
use Rattle.cany_base.specs.declared.notice.NoticeKind.{NoticeKind}
use Rattle.cany_base.specs.declared.notice.NoticeKind.TheVariants.{Idle}
use Rattle.cany_base.specs.Scenario.{ScenarioParts}
use Rattle.cany_model.specs.Bus.Frames.{Identity}
use Rattle.cany_model.specs.Bus.History.{copies, has_own, is_got, is_sent}
use Rattle.cany_base.specs.Nodes.{nobody}
use Rattle.cany_model.specs.Rules.Relcan.{falls_back, fell_back, has_confirm, has_copy, is_first_got, is_timed}
use Rattle.cany_model.proofs.Among.{Each-drop, count-no}

abbrev pub AreIdle : List NoticeKind → Type 0
AreIdle past = AllByRecursion (λ e. e ≡ Idle) past

-- None of these slots is one whose scripted asks are made. A node that has read some of them has
-- started again, and is no member.
pub record IsBegun (scenario : ScenarioParts) (past : List NoticeKind) : Type 0 where
  pub idle : AreIdle past
  pub early : length past ≤ scenario.from
  pub outside : 0 < length past → scenario.members ≡ nobody

-- ---- of idle slots

idle_none : (p : NoticeKind → Bool) → p Idle ≡ false → (past : List NoticeKind) → AreIdle past → list_any p past ≡ false
idle_none p none [] h = refl
idle_none p none (e ∷ past) h = rw (h.0, none) (idle_none p none past h.1)

idle_copies : (x : Identity) (past : List NoticeKind) → AreIdle past → copies x past ≡ 0
unfolding copies
idle_copies x [] h = refl
idle_copies x (e ∷ past) h =
    omega (arith, idle_copies x past h.1, count-no (is_got x) e past (ap (is_got x) h.0))

pub idle_at : (past : List NoticeKind) → AreIdle past → (k : ℕ) → slice_index_or past k Idle ≡ Idle
idle_at [] h k = refl
idle_at (e ∷ past) h zero = h.0
idle_at (e ∷ past) h (suc k) = idle_at past h.1 k

idle_first : (x : Identity) (past : List NoticeKind) → AreIdle past → is_first_got x past ≡ false
idle_first x [] h = refl
idle_first x (e ∷ past) h = rw h.0 refl

idle_falls : (timer i : ℕ) (x : Identity) (past : List NoticeKind) → AreIdle past → falls_back timer i x past ≡ false
idle_falls timer i x past h =
    rw (idle_first x (drop timer past) (Each-drop (λ e. e ≡ Idle) timer past h)) (either (is_timed i x) (not (has_confirm x past)))
  where
    either : (timed running : Bool) → (timed && false && running) ≡ false
    either true running = refl
    either false running = refl

idle_fell_back : (timer i : ℕ) (x : Identity) (past : List NoticeKind) → AreIdle past → fell_back timer i x past ≡ false
unfolding fell_back
idle_fell_back timer i x [] h = refl
idle_fell_back timer i x (e ∷ past) h = rw (idle_falls timer i x (e ∷ past) h) (idle_fell_back timer i x past h.1)

-- ---- of a node that has only begun

pub begun_first : (scenario : ScenarioParts) → IsBegun scenario []
begun_first scenario = record { idle = tt; early = omega arith; outside = λ some. absurd (omega (arith, some)) }

pub begun_before : (scenario : ScenarioParts) (e : NoticeKind) (past : List NoticeKind) → IsBegun scenario (e ∷ past) → IsBegun scenario past
begun_before scenario e past begun =
    record { idle = begun.idle.1; early = omega (arith, begun.early); outside = λ some. begun.outside (omega arith) }

pub begun_copies : (scenario : ScenarioParts) (x : Identity) (past : List NoticeKind) → IsBegun scenario past → copies x past ≡ 0
begun_copies scenario x past begun = idle_copies x past begun.idle

pub begun_own : (scenario : ScenarioParts) (x : Identity) (past : List NoticeKind) → IsBegun scenario past → has_own x past ≡ false
unfolding has_own
begun_own scenario x past begun = idle_none (is_sent x) refl past begun.idle

pub begun_copy : (scenario : ScenarioParts) (x : Identity) (past : List NoticeKind) → IsBegun scenario past → has_copy x past ≡ false
begun_copy scenario x past begun = idle_none (is_got x) refl past begun.idle

pub begun_fell_back : (scenario : ScenarioParts) (timer i : ℕ) (x : Identity) (past : List NoticeKind) → IsBegun scenario past
    → fell_back timer i x past ≡ false
begun_fell_back scenario timer i x past begun = idle_fell_back timer i x past begun.idle

-- it has read no slot in which it takes part
pub begun_short : (scenario : ScenarioParts) (past : List NoticeKind) → IsBegun scenario past → (slot : ℕ) → slot < length past → scenario.from ≤ slot → ⊥
begun_short scenario past begun slot read late = omega (arith, begun.early, read, late)
