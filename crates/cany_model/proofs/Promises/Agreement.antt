-- Agreement on a frame that is diffused, once nobody waits with it and all is read: more than omit
-- copies include a Clean one, and a frame that was asked for and no longer waits was carried Clean,
-- or was withdrawn for that reason. So where a node was to send it, a slot carried it Clean, and
-- every node that runs and took part since then got or sent it there.
use Rattle.std.proofs.Common.{◌≡◌, ℕ, ◌≤◌, ◌⊎◌, inr, true, false, List, Some, None, ap, subst, sym, ◌∙◌, arith}
use Rattle.cany_base.specs.declared.class.Class.TheVariants as class
use Rattle.cany_base.specs.Limits.{most_nodes}
use Rattle.cany_base.specs.declared.slot_note.SlotNote.{SlotNote}
use Rattle.cany_base.specs.Scenario.{ScenarioParts}
use Rattle.cany_model.specs.Bus.Frames.{Identity, same_class}
use Rattle.cany_model.specs.Bus.History.{carries_early, history, has_own, is_got, is_hidden, is_sent, seen}
use Rattle.cany_model.specs.Bus.State.{Incarnation, RunState, node_at, runs}
use Rattle.cany_model.specs.Bus.Waiting.{waits}
use Rattle.cany_model.specs.Promises.Hypothesis.{IsWithin}
use Rattle.cany_model.specs.Promises.FirstSlots.{first_carried}
use Rattle.cany_model.specs.Promises.Settled.{IsCorrect, IsCorrectFrom}
use Rattle.cany_model.specs.Rules.Turn.{scenario_at, scenario_for, turn_effects}
use Rattle.cany_model.proofs.Among.{Among, Among-weaker, Among-with}
use Rattle.cany_model.proofs.Bus.Carried.{Carries, CarriesClean, SentBy}
use Rattle.cany_model.proofs.Promises.CleanSlots.{clean_from_success}
use Rattle.cany_model.proofs.Bus.Seen.{Among-seen, Among-to_seen, Numbered, carries_other, hidden_not, history-is}
use Rattle.cany_model.proofs.Promises.WithinSeen.{within_seen}
use Rattle.cany_model.proofs.Promises.Diffusion.{Duty, IsDiffused, own_carried, owed_is_carried, carried_is_read}
use Rattle.cany_model.proofs.Promises.DiffusionRun.{NodeDiffuses}
use Rattle.cany_model.proofs.Promises.EachNode.{EachRunning}
use Rattle.cany_model.proofs.Promises.Firsts.{first_is_first}

-- what the argument uses of a state
pub record IsAtRest (scenario : ScenarioParts) (x : Identity) (duty : ScenarioParts → Duty) (s : RunState) : Type 0 where
  pub few : scenario.params.nodes ≤ most_nodes
  pub within : IsWithin scenario.params s.trace
  pub numbered : Numbered s.trace
  -- the frame is none of the class of vectors, some of which a restarted node does not hear
  pub heard : same_class x.class class.Rha ≡ false
  pub rules : (inc : Incarnation) → IsDiffused (turn_effects (scenario_for scenario inc)) scenario.params.omit x (duty (scenario_for scenario inc))
  pub diffuses : EachRunning (NodeDiffuses scenario scenario.params.omit x duty) s
  pub gone : (i : ℕ) → runs (node_at s.nodes i) ≡ true → waits x (node_at s.nodes i).waiting ≡ false
  pub read : (i : ℕ) → runs (node_at s.nodes i) ≡ true → (node_at s.nodes i).unread ≡ 0

-- an idle slot carries nothing
pub idle_carries : (x : Identity) (note : SlotNote) → note.frame ≡ None → Carries x note → ⊥
idle_carries x note none c = let frame : note.frame ≡ Some c.what = c.frame in absurd (cc)

-- what an incarnation sees to be carried Clean, was
pub seen_clean : (x : Identity) (s : RunState) (i : ℕ) → Among (CarriesClean x) (seen (node_at s.nodes i).present s.trace) → Among (CarriesClean x) s.trace
seen_clean x s i h = Among-seen (CarriesClean x) (λ note none c. idle_carries x note none c.carries) (node_at s.nodes i).present s.trace h

-- a frame that a correct node was to send was carried Clean
pub owed_carried : (scenario : ScenarioParts) (x : Identity) (duty : ScenarioParts → Duty) (s : RunState) → IsAtRest scenario x duty s → (i : ℕ)
    → IsCorrect scenario s i → (duty (scenario_at scenario s i)).owes i (history i s) → Among (CarriesClean x) s.trace
owed_carried scenario x duty s rest i correct owes =
    let inc = (node_at s.nodes i).present in
    seen_clean x s i
    (owed_is_carried scenario.params x (duty (scenario_for scenario inc)) (seen inc s.trace) i (node_at s.nodes i) (rest.diffuses i correct.running)
    (within_seen scenario.params inc s.trace rest.within) (rest.gone i correct.running)
    (subst ((duty (scenario_for scenario inc)).owes i) (history-is i s) owes))

-- so was one whose own transmission a node has read
pub own_clean : (scenario : ScenarioParts) (x : Identity) (s : RunState) → IsWithin scenario.params s.trace → (i : ℕ) → has_own x (history i s) ≡ true
    → Among (CarriesClean x) s.trace
own_clean scenario x s within i own =
    let inc = (node_at s.nodes i).present in
    seen_clean x s i
    (clean_from_success scenario.params x (seen inc s.trace) (within_seen scenario.params inc s.trace within)
    (own_carried x i (seen inc s.trace) (node_at s.nodes i).unread (subst (λ past. has_own x past ≡ true) (history-is i s) own)))

-- ---- since the first slot that carried it

-- a slot that carries a frame of another class carries no vector of an earlier cycle
carries_plain : (x : Identity) (inc : Incarnation) (note : SlotNote) → same_class x.class class.Rha ≡ false → Carries x note
    → carries_early inc.cycle note ≡ false
carries_plain x inc note heard c =
    carries_other inc.cycle note c.what c.frame (ap (λ (y : Identity). same_class y.class class.Rha) (sym c.identity) ∙ heard)

-- each slot that carried the frame is seen by an incarnation that took part since the first one
visible : (P : SlotNote → Type 0) (x : Identity) (trace : List SlotNote) (first : ℕ) (inc : Incarnation) → ((note : SlotNote) → P note → Carries x note)
    → same_class x.class class.Rha ≡ false → Numbered trace → first_carried x trace ≡ Some first → inc.from ≤ first → Among P trace → Among P (seen inc trace)
visible P x trace first inc carries heard numbered is from h =
    Among-to_seen P inc trace
    (Among-weaker (λ note. P note × (Carries x note → first ≤ note.slot)) (λ note. P note × (is_hidden inc note ≡ false))
    (λ note k.
    let late = k.1 (carries note k.0) in
    (k.0, hidden_not inc note (omega (arith, late, from)) (carries_plain x inc note heard (carries note k.0)))) trace
    (Among-with P (λ note. Carries x note → first ≤ note.slot) trace (first_is_first x trace numbered first is) h))

-- what was carried Clean, every correct node that took part since then has got, or may start and
-- has sent
pub carried_read : (scenario : ScenarioParts) (x : Identity) (duty : ScenarioParts → Duty) (s : RunState) → IsAtRest scenario x duty s → (first : ℕ)
    → first_carried x s.trace ≡ Some first → (j : ℕ) → IsCorrectFrom scenario s first j → Among (CarriesClean x) s.trace
    → Among (λ e. is_got x e ≡ true) (history j s)
    ⊎ ((duty (scenario_at scenario s j)).starts j (history j s) × Among (λ e. is_sent x e ≡ true) (history j s))
carried_read scenario x duty s rest first is j correct clean =
    let inc = (node_at s.nodes j).present in
    let running = correct.correct.running in
    rw (history-is j s)
    (carried_is_read (turn_effects (scenario_for scenario inc)) scenario.params.omit x (duty (scenario_for scenario inc)) (rest.rules inc) (seen inc s.trace) j
    (node_at s.nodes j) (rest.diffuses j running) (omega (arith, correct.correct.there, rest.few)) (rest.read j running)
    (visible (CarriesClean x) x s.trace first inc (λ note c. c.carries) rest.heard rest.numbered is correct.took_part clean))

-- a correct node that took part since then, and was a sender, owed the frame, so it was carried
-- Clean
pub sent_carried : (scenario : ScenarioParts) (x : Identity) (duty : ScenarioParts → Duty) (s : RunState) → IsAtRest scenario x duty s → (first : ℕ)
    → first_carried x s.trace ≡ Some first → (i : ℕ) → IsCorrectFrom scenario s first i → Among (SentBy i x) s.trace → Among (CarriesClean x) s.trace
sent_carried scenario x duty s rest first is i correct sent =
    let inc = (node_at s.nodes i).present in
    owed_carried scenario x duty s rest i correct.correct
    (subst ((duty (scenario_for scenario inc)).owes i) (sym (history-is i s))
    ((rest.diffuses i correct.correct.running).caused
    (inr (visible (SentBy i x) x s.trace first inc (λ note c. c.carries) rest.heard rest.numbered is correct.took_part sent))))
