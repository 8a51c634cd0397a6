-- The text, part by part.
use Rattle.std.proofs.Common.{◌≡◌, ℕ, ◌<◌, ◌≤◌, ◌==◌, true, false, length, arith, List, [], ◌∷◌, ◌++◌, Option, refl, sym, ap, append_assoc, append-nil}
use Rattle.std.specs.Prelude.{codes}
use Rattle.std.specs.List.{concat}
use Rattle.std.proofs.lemmas.Bool.{eqb-true, false≢true, le-leb, lt-leb}
use Rattle.cany_base.specs.declared.message.NodeAsk.{NodeAsk}
use Rattle.cany_base.specs.declared.step.Step.{Step}
use Rattle.cany_base.specs.Scenario.{ScenarioParts}
use Rattle.cany_log.specs.Summary.{settled_line}
use Rattle.cany_model.specs.declared.breaks.Break.{Break}
use Rattle.cany_model.specs.Bus.State.{RunState}
use Rattle.cany_model.specs.Promises.Hypothesis.{first_break}
use Rattle.cany_model.specs.Runs.Run.{run}
use Rattle.cany_settle.specs.LastEvent.{last_event}
use Rattle.cany_settle.specs.LongEnough.{needed, tail}
use Rattle.cany_settle.specs.TailText.{claim_line, ending_lines, enough_line, lengths_lines, number_line, tail_lines, tail_text, word_line}
use Rattle.cany_text.specs.ReportLines.{hypothesis_line}

pub lengths-is : (scenario : ScenarioParts) (s : RunState) (t last slots : ℕ) → t ≡ tail scenario.params → last ≡ last_event scenario s
    → slots ≡ scenario.params.slots
    → concat (lengths_lines scenario s) ≡ number_line (codes "tail") t ++ (number_line (codes "last") last ++ number_line (codes "slots") slots)
unfolding lengths_lines
lengths-is scenario s t last slots a b c = rw (a, b, c) (simp append-nil)

pub ending-is : (scenario : ScenarioParts) (s : RunState) (found : Option Break) → found ≡ first_break scenario.params s.trace
    → concat (ending_lines scenario s) ≡ settled_line scenario s ++ (hypothesis_line found ++ word_line (codes "end"))
unfolding ending_lines
ending-is scenario s found is = rw is (simp append-nil)

pub tail-is : (scenario : ScenarioParts) (journal : List Step) → let s = run scenario journal in
    tail_text scenario journal ≡ concat (lengths_lines scenario s) ++ (claim_line scenario s ++ concat (ending_lines scenario s))
unfolding tail_text tail_lines lengths_lines
tail-is scenario journal = simp (append_assoc, append-nil)

-- ---- the claim

pub enough_yes : (scenario : ScenarioParts) (s : RunState) → needed scenario s ≤ scenario.params.slots → enough_line scenario s ≡ word_line (codes "enough")
unfolding enough_line
enough_yes scenario s h = rw (le-leb (needed scenario s) scenario.params.slots h) refl

pub enough_no : (scenario : ScenarioParts) (s : RunState) (n : ℕ) → n ≡ needed scenario s → scenario.params.slots < n
    → enough_line scenario s ≡ number_line (codes "short") n
unfolding enough_line
enough_no scenario s n is h =
    rw (lt-leb (needed scenario s) scenario.params.slots (omega (arith, is, h))) (ap (number_line (codes "short")) (sym is))

pub claim_none : (scenario : ScenarioParts) (s : RunState) → true ≡ (length scenario.restarts == 0) → claim_line scenario s ≡ enough_line scenario s
unfolding claim_line
claim_none scenario s h = by_restarts scenario.restarts refl h
  where
    by_restarts : (asks : List NodeAsk) → scenario.restarts ≡ asks → true ≡ (length asks == 0) → claim_line scenario s ≡ enough_line scenario s
    by_restarts [] is h = rw is refl
    by_restarts (ask ∷ asks) is h = absurd (omega (arith, eqb-true (length (ask ∷ asks)) 0 (sym h)))

pub claim_some : (scenario : ScenarioParts) (s : RunState) → false ≡ (length scenario.restarts == 0) → claim_line scenario s ≡ word_line (codes "unclaimed")
unfolding claim_line
claim_some scenario s h = by_restarts scenario.restarts refl h
  where
    by_restarts : (asks : List NodeAsk) → scenario.restarts ≡ asks → false ≡ (length asks == 0) → claim_line scenario s ≡ word_line (codes "unclaimed")
    by_restarts [] is h = absurd (false≢true h)
    by_restarts (ask ∷ asks) is h = rw is refl
