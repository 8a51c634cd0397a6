-- How the steps of idle slots are appended to the journal.
use Rattle.std.proofs.Common.{◌≡◌, ℕ, suc, ◌+◌, ◌≤◌, Bool, true, false, List, [], ◌∷◌, ◌++◌, length, map, refl, ap, sym, ◌∙◌, arith, append_assoc}
use Rattle.std.specs.Prelude.{filter, if◌then◌else◌, is_none, not, slice_get, Some}
use Rattle.std.specs.Option.{option_map_or}
use Rattle.std.specs.List.{range_with_len}
use Rattle.std.proofs.lemmas.List.{append-nil, length-append}
use Rattle.cany_base.specs.declared.step.Step.{Step}
use Rattle.cany_base.specs.declared.step.Step.TheVariants.{Slot, Turn}
use Rattle.can_controller.specs.Controller.{ControllerState}
use Rattle.cany_world.specs.Resting.{round_of, rounds_of, runs_at}

-- the turns of the nodes from i on, so many of them, that are still to be appended
abbrev pub turns_from : List ControllerState → ℕ → ℕ → List Step
turns_from controllers i left = map (λ k. Turn k) (filter (runs_at controllers) (range_with_len i left))

-- what was appended, and what is left, are the whole
pub record IsInSteps (whole now left : List Step) : Type 0 where
  pub is : now ++ left ≡ whole

pub round_begun : (controllers : List ControllerState) (before now : List Step) (left : ℕ) → left ≡ length controllers → now ≡ before ++ Slot ∷ []
    → IsInSteps (before ++ round_of controllers) now (turns_from controllers 0 left)
round_begun controllers before now left all e = record {
  is = ap (λ n. now ++ turns_from controllers 0 n) all ∙ ap (λ l. l ++ turns_from controllers 0 (length controllers)) e
      ∙ append_assoc before (Slot ∷ []) (turns_from controllers 0 (length controllers));
}

next_turns : (controllers : List ControllerState) (i left n : ℕ) → left ≡ suc n → (b : Bool) → runs_at controllers i ≡ b
    → turns_from controllers i left ≡ (if b then Turn i ∷ turns_from controllers (i + 1) n else turns_from controllers (i + 1) n)
next_turns controllers i left n e true runs = ap (turns_from controllers i) e ∙ rw runs refl
next_turns controllers i left n e false runs = ap (turns_from controllers i) e ∙ rw runs refl

-- node i runs: its turn is appended
pub turn_pushed : (controllers : List ControllerState) (whole now next : List Step) (i left n : ℕ)
    → IsInSteps whole now (turns_from controllers i left) → left ≡ suc n
    → runs_at controllers i ≡ true → next ≡ now ++ Turn i ∷ [] → IsInSteps whole next (turns_from controllers (i + 1) n)
turn_pushed controllers whole now next i left n so e runs is = record {
  is = ap (λ l. l ++ turns_from controllers (i + 1) n) is ∙ append_assoc now (Turn i ∷ []) (turns_from controllers (i + 1) n)
      ∙ ap (λ l. now ++ l) (sym (next_turns controllers i left n e true runs)) ∙ so.is;
}

-- node i has stopped
pub turn_left_out : (controllers : List ControllerState) (whole now : List Step) (i left n : ℕ)
    → IsInSteps whole now (turns_from controllers i left) → left ≡ suc n
    → runs_at controllers i ≡ false → IsInSteps whole now (turns_from controllers (i + 1) n)
turn_left_out controllers whole now i left n so e runs = record {
  is = ap (λ l. now ++ l) (sym (next_turns controllers i left n e false runs)) ∙ so.is;
}

-- ---- many rounds

pub rounds_pushed_next : (controllers : List ControllerState) (whole now next : List Step) (left n : ℕ)
    → IsInSteps whole now (rounds_of left controllers) → left ≡ suc n
    → next ≡ now ++ round_of controllers → IsInSteps whole next (rounds_of n controllers)
unfolding rounds_of
rounds_pushed_next controllers whole now next left n so e is = record {
  is = ap (λ l. l ++ rounds_of n controllers) is ∙ append_assoc now (round_of controllers) (rounds_of n controllers)
      ∙ ap (λ k. now ++ rounds_of k controllers) (sym e) ∙ so.is;
}

pub round_room : (controllers : List ControllerState) (whole now : List Step) (left n room : ℕ)
    → IsInSteps whole now (rounds_of left controllers) → left ≡ suc n
    → length whole ≤ room → length now + length (round_of controllers) ≤ room
unfolding rounds_of
round_room controllers whole now left n room so e fits =
    let more : now ++ (round_of controllers ++ rounds_of n controllers) ≡ whole = ap (λ k. now ++ rounds_of k controllers) (sym e) ∙ so.is in
    omega (arith, fits, ap (λ (l : List Step). length l) more, length-append now (round_of controllers ++ rounds_of n controllers), length-append (round_of controllers) (rounds_of n controllers))

pub rounds_pushed_all : (controllers : List ControllerState) (whole now : List Step) (left : ℕ)
    → IsInSteps whole now (rounds_of left controllers) → left ≡ 0 → now ≡ whole
unfolding rounds_of
rounds_pushed_all controllers whole now left so none = sym (append-nil now) ∙ ap (λ n. now ++ rounds_of n controllers) (sym none) ∙ so.is

-- whether the controller of node i runs, from what stands there
pub runs_here : (controllers : List ControllerState) (i : ℕ) (c : ControllerState) → slice_get controllers i ≡ Some c → (b : Bool)
    → is_none c.stopped ≡ b → runs_at controllers i ≡ b
runs_here controllers i c at b e = ap (λ o. option_map_or (λ (x : ControllerState). is_none x.stopped) o false) at ∙ e

pub not_not : (b : Bool) → not (not b) ≡ b
not_not true = refl
not_not false = refl
