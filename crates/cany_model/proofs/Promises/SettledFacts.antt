-- What it says of a node that a message is settled.
use Rattle.std.proofs.Common.{◌≡◌, ℕ, ◌<◌, ◌==◌, ◌&&◌, ◌||◌, ◌⊎◌, inl, inr, Bool, true, false, not, List, [], ◌∷◌, get_or, ap, sym, ◌∙◌, subst, arith}
use Rattle.std.specs.List.{list_any, range_with_len}
use Rattle.std.proofs.lemmas.Bool.{both_ways, and_parts, and_from, or_cases, or_left, not-true, eqb-true, ltb-true, false_from_ne_true}
use Rattle.std.proofs.lemmas.List.Folds.{list_any_at}
use Rattle.std.proofs.lemmas.List.FromFn.{get_or-range_with_len, length-range_with_len}
use Rattle.std.proofs.lemmas.List.Sums.{AllPass-from_list_all}
use Rattle.cany_base.specs.Scenario.{ScenarioParts}
use Rattle.cany_model.specs.Bus.Frames.{Identity, identity_of}
use Rattle.cany_model.specs.Bus.History.{history}
use Rattle.cany_model.specs.Rules.Messages.{Message, accept_of_key, confirm_of_key, data_frame, data_id, frames_of, message_key}
use Rattle.cany_model.specs.Rules.Protocol.{Protocol}
use Rattle.cany_model.specs.Rules.Turn.{is_ahead_at, protocols, scenario_at}
use Rattle.cany_model.specs.Runs.Run.{all_read}
use Rattle.cany_model.specs.Promises.Settled.{IsCorrect, came_too_late, is_settled, is_awaited, is_ahead, origin_has_asked}
use Rattle.cany_model.specs.Bus.State.{NodeState, RunState, absent, node_at, runs}
use Rattle.cany_model.specs.Bus.Waiting.{waits}
use Rattle.cany_model.proofs.Among.{Among-weaker, any-from_Among, Among-from_any, Among-place}
use Rattle.cany_model.proofs.Bus.States.{runs_within}
use Rattle.cany_model.proofs.Rules.Protocols.{IsProtocol}

-- the parts of what is said of a settled message
pub record Parts (scenario : ScenarioParts) (s : RunState) (m : Message) : Type 0 where
  pub asked : (origin_has_asked scenario s m || not (runs (node_at s.nodes m.origin)) || came_too_late s m) ≡ true
  pub quiet : is_awaited (frames_of m) s ≡ false
  pub read : all_read s ≡ true
  pub none_ahead : is_ahead scenario s m ≡ false

pub parts : (scenario : ScenarioParts) (s : RunState) (m : Message) → is_settled scenario s m ≡ true → Parts scenario s m
unfolding is_settled
parts scenario s m h =
    let asked : Bool = origin_has_asked scenario s m || not (runs (node_at s.nodes m.origin)) || came_too_late s m in
    let whole = and_parts (asked && not (is_awaited (frames_of m) s) && all_read s) (not (is_ahead scenario s m)) h in
    let outer = and_parts (asked && not (is_awaited (frames_of m) s)) (all_read s) whole.0 in
    let inner = and_parts asked (not (is_awaited (frames_of m) s)) outer.0 in
    record {
      asked = inner.0;
      quiet = not-true (is_awaited (frames_of m) s) inner.1;
      read = outer.1;
      none_ahead = not-true (is_ahead scenario s m) whole.1;
    }

-- where no running node waits with one of these frames, none is awaited
pub none_awaited : (frames : List Identity) (s : RunState)
    → ((i : ℕ) → runs (node_at s.nodes i) ≡ true → list_any (λ x. waits x (node_at s.nodes i).waiting) frames ≡ true → ⊥) → is_awaited frames s ≡ false
unfolding node_at
none_awaited frames s none =
    let test : NodeState → Bool = λ node. runs node && list_any (λ x. waits x node.waiting) frames in
    false_from_ne_true (list_any test s.nodes) (λ h.
    let at = Among-place (λ node. test node ≡ true) absent 0 s.nodes (Among-from_any test s.nodes h) in
    let both = and_parts (runs (node_at s.nodes at.0)) (list_any (λ x. waits x (node_at s.nodes at.0).waiting) frames) at.3 in
    none at.0 both.0 both.1)

-- an origin that runs has asked for it, or came too late
pub settled_asked : (scenario : ScenarioParts) (s : RunState) (m : Message) → is_settled scenario s m ≡ true → runs (node_at s.nodes m.origin) ≡ true
    → (origin_has_asked scenario s m ≡ true) ⊎ (came_too_late s m ≡ true)
settled_asked scenario s m h running =
    let asked : Bool = origin_has_asked scenario s m in
    let stopped : Bool = not (runs (node_at s.nodes m.origin)) in
    elim (or_cases (asked || stopped) (came_too_late s m) (parts scenario s m h).asked) [
      | inr late ↦ inr late
      | inl early ↦ elim (or_cases asked stopped early) [
        | inl done ↦ inl done
        | inr gone ↦ absurd (both_ways (runs (node_at s.nodes m.origin)) (not-true (runs (node_at s.nodes m.origin)) gone) running)
      ]
    ]

-- it came too late where it takes part only since a slot after the scripted one
pub settled_asked_or_late : (scenario : ScenarioParts) (s : RunState) (m : Message) → is_settled scenario s m ≡ true
    → runs (node_at s.nodes m.origin) ≡ true → (origin_has_asked scenario s m ≡ true) ⊎ (m.slot < (node_at s.nodes m.origin).present.from)
settled_asked_or_late scenario s m h running = elim (settled_asked scenario s m h running) [
  | inl asked ↦ inl asked
  | inr late ↦ inr (ltb-true m.slot (node_at s.nodes m.origin).present.from late)
]

-- a running node does not wait with a frame that is not awaited
pub none_waits : (s : RunState) (x : Identity) (frames : List Identity) → is_awaited (x ∷ frames) s ≡ false → (i : ℕ) → runs (node_at s.nodes i) ≡ true
    → waits x (node_at s.nodes i).waiting ≡ false
unfolding node_at
none_waits s x frames none i running =
    let test : NodeState → Bool = λ node. runs node && list_any (λ y. waits y node.waiting) (x ∷ frames) in
    false_from_ne_true (waits x (node_at s.nodes i).waiting) (λ waiting.
    both_ways (list_any test s.nodes) none
    (list_any_at test s.nodes i absent (runs_within s.nodes i running)
    (and_from (runs (get_or s.nodes i absent)) (list_any (λ y. waits y (get_or s.nodes i absent).waiting) (x ∷ frames)) running
    (or_left (waits x (get_or s.nodes i absent).waiting) _ waiting))))

-- and has read every notice where all have
pub each_has_read : (s : RunState) → all_read s ≡ true → (i : ℕ) → runs (node_at s.nodes i) ≡ true → (node_at s.nodes i).unread ≡ 0
unfolding node_at
each_has_read s all i running =
    let test : NodeState → Bool = λ node. not (runs node) || node.unread == 0 in
    let at : test (get_or s.nodes i absent) ≡ true = AllPass-from_list_all test s.nodes all i absent (runs_within s.nodes i running) in
    elim (or_cases (not (runs (get_or s.nodes i absent))) ((get_or s.nodes i absent).unread == 0) at) [
      | inl stopped ↦ absurd (both_ways (runs (get_or s.nodes i absent)) (not-true (runs (get_or s.nodes i absent)) stopped) running)
      | inr read ↦ eqb-true (get_or s.nodes i absent).unread 0 read
    ]

-- a running node does not wait with its data frame
pub settled_waits : (scenario : ScenarioParts) (s : RunState) (m : Message) → is_settled scenario s m ≡ true → (i : ℕ) → runs (node_at s.nodes i) ≡ true
    → waits (identity_of (data_frame m)) (node_at s.nodes i).waiting ≡ false
settled_waits scenario s m h i running =
    none_waits s (data_id m) (confirm_of_key (message_key m) ∷ accept_of_key (message_key m) ∷ []) (parts scenario s m h).quiet i running

-- a running node has read every notice
pub settled_read : (scenario : ScenarioParts) (s : RunState) (m : Message) → is_settled scenario s m ≡ true → (i : ℕ) → runs (node_at s.nodes i) ≡ true
    → (node_at s.nodes i).unread ≡ 0
settled_read scenario s m h i running = each_has_read s (parts scenario s m h).read i running

-- at a correct node no protocol has anything of it ahead
pub settled_none_ahead : (scenario : ScenarioParts) (s : RunState) (m : Message) → is_settled scenario s m ≡ true → (i : ℕ) → IsCorrect scenario s i
    → (p : Protocol) → IsProtocol p → p.ahead (scenario_at scenario s i) m i (history i s) ≡ false
settled_none_ahead scenario s m h i correct p is =
    let ahead : ℕ → Bool = λ k. is_ahead_at (scenario_at scenario s k) m k (history k s) in
    let test : ℕ → Bool = λ k. runs (node_at s.nodes k) && ahead k in
    let none : list_any test (range_with_len 0 scenario.params.nodes) ≡ false = (parts scenario s m h).none_ahead in
    let at : get_or (range_with_len 0 scenario.params.nodes) i 0 ≡ i = get_or-range_with_len 0 scenario.params.nodes i 0 correct.there ∙ omega arith in
    false_from_ne_true (p.ahead (scenario_at scenario s i) m i (history i s)) (λ yes'.
    let here : ahead i ≡ true =
    any-from_Among (λ q. q.ahead (scenario_at scenario s i) m i (history i s)) protocols
    (Among-weaker (λ q. q ≡ p) (λ q. q.ahead (scenario_at scenario s i) m i (history i s) ≡ true)
    (λ q e. ap (λ (r : Protocol). r.ahead (scenario_at scenario s i) m i (history i s)) e ∙ yes') protocols is) in
    both_ways (list_any test (range_with_len 0 scenario.params.nodes)) none
    (list_any_at test (range_with_len 0 scenario.params.nodes) i 0
    (subst (λ n. i < n) (sym (length-range_with_len 0 scenario.params.nodes)) correct.there)
    (ap test at ∙ and_from (runs (node_at s.nodes i)) (ahead i) correct.running here)))
