-- An idle notice by which silence finds nobody leads to nothing.
use Rattle.std.proofs.Common.{◌≡◌, ℕ, ◌+◌, ◌<◌, ◌==◌, ◌&&◌, false, List, [], ◌∷◌, length, refl, ap, sym, ◌∙◌, arith}
use Rattle.cany_base.specs.declared.notice.NoticeKind.{NoticeKind}
use Rattle.cany_base.specs.declared.notice.NoticeKind.TheVariants.{Idle}
use Rattle.cany_base.specs.Nodes.{Nodes, has}
use Rattle.cany_base.specs.Params.{Parameters}
use Rattle.cany_base.specs.Scenario.{ScenarioParts}
use Rattle.cany_base.proofs.ParamsFacts.{few_nodes}
use Rattle.cany_model.specs.Rules.Life.{failures_at, fda_copy_effects}
use Rattle.cany_model.specs.Rules.Notices.{HasFewSigns}
use Rattle.cany_model.specs.Rules.Knowledge.{Knowledge, after_life, found, after_finding, told, with_members, with_signs}
use Rattle.cany_life.specs.Life.{IsLifeOf, IsReading, LifeParts, Rests}
use Rattle.cany_life.specs.LifeSteps.{IsIdleUntil, heard}
use Rattle.cany_life.proofs.FindFacts.{found_is}
use Rattle.cany_life.proofs.HeardFacts.{heard_stands}
use Rattle.cany_life.proofs.LearnFacts.{none_stands}
use Rattle.cany_life.proofs.IdleFacts.{none_found}
use Rattle.cany_life.proofs.SentFacts.{few_other}

module _ (scenario : ScenarioParts) (i : ℕ) (past : List NoticeKind) (knowledge : Knowledge) (members : Nodes) (v : LifeParts) (h : IsLifeOf scenario i past knowledge v)
    (within : length past < scenario.params.slots) where
  abbrev before : Knowledge
  before = with_members members knowledge

  few : HasFewSigns scenario i (Idle ∷ past) (length past)
  few = few_other scenario i Idle past (length past) refl h.lives.few

  idle_heard : IsReading scenario i past (Idle ∷ past) before v
  unfolding after_life heard
  idle_heard = heard_stands scenario i past knowledge members v h Idle (length past) refl within tt few

  idle_reads : IsReading scenario i (Idle ∷ past) (Idle ∷ past) before v
  unfolding told with_signs
  idle_reads = none_stands scenario i past before Idle Idle refl tt v idle_heard

  module _ (idle_until : IsIdleUntil (length past + 1) members v) where
    nobody_found : found scenario.params i (length past) before ≡ []
    nobody_found =
        sym (found_is scenario i (Idle ∷ past) (Idle ∷ past) before v (length past) idle_reads within members refl)
        ∙ none_found v members (length past) some idle_until v.params.nodes
        (omega (arith, few_nodes scenario.params h.limits.legal.in_range, ap (λ (p : Parameters). p.nodes) h.limits.are_params))
      where
        some : 0 < v.params.silence
        some = omega (arith, h.limits.legal.in_range.silence.0, ap (λ (p : Parameters). p.silence) h.limits.are_params)

    no_failures : failures_at scenario.params i Idle past before ≡ []
    unfolding failures_at told with_signs after_life fda_copy_effects
    no_failures = rw nobody_found refl

    as_before : after_finding scenario.params i (length past) Idle before ≡ before
    unfolding told with_signs after_life
    as_before = rw nobody_found refl

    -- the value rests where its own life sign is not due either
    pub rests : (has members v.node && length past == v.last + v.params.life) ≡ false → Rests scenario i past before v
    rests none = record {
      stands = idle_reads;
      failures = no_failures;
      found = as_before;
      sign = rw (← h.limits.is_node, ← h.limits.are_params, ← h.lives.is_last, none) refl;
    }
