-- Agreement of failure signs: each node that knows a sign, by a copy of its frame or by silence, is
-- to send the frame.
use Rattle.std.proofs.Common.{◌≡◌, ℕ, ◌≤◌, inl, inr, true, false, List, [], ◌∷◌, drop, Option, Some, None, refl, ap, sym, ◌∙◌, subst}
use Rattle.std.proofs.lemmas.Bool.{and_parts, false≢true, not-true}
use Rattle.cany_base.specs.Limits.{most_nodes}
use Rattle.cany_base.specs.declared.log_entry.LogEntry.{LogEntry}
use Rattle.cany_base.specs.declared.log_entry.LogEntry.TheVariants.{Deliver, Failed, View}
use Rattle.cany_base.specs.declared.notice.NoticeKind.{NoticeKind}
use Rattle.cany_base.specs.declared.step.Step.{Step}
use Rattle.cany_base.specs.Scenario.{ScenarioParts}
use Rattle.cany_base.specs.declared.class.Class.TheVariants as class
use Rattle.cany_model.specs.Bus.Frames.{same_class}
use Rattle.cany_model.specs.Bus.History.{history, seen}
use Rattle.cany_model.specs.Runs.Run.{all_read, run}
use Rattle.cany_model.specs.Bus.State.{RunState, node_at, runs}
use Rattle.cany_model.specs.Bus.Waiting.{waits}
use Rattle.cany_model.specs.Promises.Hypothesis.{IsWithin}
use Rattle.cany_model.specs.Promises.Entries.{HasLoggedFailure, tells_of}
use Rattle.cany_model.specs.Promises.FirstSlots.{first_carried}
use Rattle.cany_model.specs.Promises.Safe.{IsSignAgreedFrom, IsSignAgreedOn}
use Rattle.cany_model.specs.Promises.Settled.{IsCorrect, IsCorrectFrom, is_awaited, nobody_waits_with_sign}
use Rattle.cany_model.specs.Rules.Life.{failure_signs}
use Rattle.cany_model.specs.Rules.Log.{log}
use Rattle.cany_model.specs.Rules.Protocol.{Protocol}
use Rattle.cany_model.specs.Rules.KnowledgeOf.{knowledge_of}
use Rattle.cany_model.specs.Rules.Knowledge.{FailureSign, fda_of, knows}
use Rattle.cany_model.specs.Rules.Turn.{scenario_at, scenario_for, turn_effects}
use Rattle.cany_model.proofs.Among.{Among, Among-from_Contains, Among-weaker, Among-which}
use Rattle.cany_model.proofs.Bus.Carried.{Carries, CarriesClean}
use Rattle.cany_model.proofs.Runs.Runs.{orderly}
use Rattle.cany_model.proofs.Bus.Seen.{history-is}
use Rattle.cany_model.proofs.Promises.WithinSeen.{within_seen}
use Rattle.cany_model.proofs.Rules.Waits.{Asks}
use Rattle.cany_model.proofs.Promises.Agreement.{IsAtRest, carried_read, seen_clean}
use Rattle.cany_model.proofs.Promises.Diffusion.{Duty, IsDiffused, owed_is_carried}
use Rattle.cany_model.proofs.Promises.DiffusionRun.{NodeDiffuses, run_diffuses}
use Rattle.cany_model.proofs.Promises.EachNode.{EachRunning}
use Rattle.cany_model.proofs.Promises.OwnSlotsAlone.{run_numbered}
use Rattle.cany_model.proofs.Promises.Firsts.{carried_has_first}
use Rattle.cany_model.proofs.Promises.SettledFacts.{each_has_read, none_waits}
use Rattle.cany_model.proofs.Rules.IdleBeforeTakingPart.{IsBegun}
use Rattle.cany_model.proofs.Rules.LogFacts.{log_has, log_split, made_by}
use Rattle.cany_model.proofs.Rules.ProtocolFacts.{IsFoundedEntry}
use Rattle.cany_model.proofs.Rules.Protocols.{failures_are_one}
use Rattle.cany_model.proofs.Rules.Site.SignFacts.{asked_is_known, known_is_entered, sign_is_asked}
use Rattle.cany_model.proofs.Rules.Site.KnowledgeFacts.{begun_knows, got_is_known, known_since, known_stays}
use Rattle.cany_model.proofs.Rules.TurnFacts.{fda_cause, turn_has, turn_withdraws}

-- ---- the duty

-- a node is to send the frame of a sign that it knows, and may: a sign known by silence starts
-- without a copy
abbrev pub sign_duty : FailureSign → ScenarioParts → Duty
sign_duty sign scenario = record {
  owes = λ i past. knows sign (knowledge_of scenario i past) ≡ true;
  starts = λ i past. knows sign (knowledge_of scenario i past) ≡ true;
  begins = IsBegun scenario;
}

pub sign_is_diffused : (scenario : ScenarioParts) (sign : FailureSign) → IsDiffused (turn_effects scenario) scenario.params.omit (fda_of sign) (sign_duty sign scenario)
sign_is_diffused scenario sign = record {
  at_first = λ i past begun owes. false≢true (sym (begun_knows scenario i past sign begun) ∙ owes);
  stays = λ i e past owes. known_stays scenario i e past sign owes;
  known = λ i past owes. inl owes;
  asked = λ i e past owes. elim (sign_is_asked scenario i e past sign owes) [
    | inl before ↦ inl before
    | inr (inl asks) ↦ inr (inl (turn_has (Asks (fda_of sign)) scenario i (e ∷ past) failure_signs failures_are_one asks))
    | inr (inr many) ↦ inr (inr (inl many))
  ];
  withdrawn = λ i past h. turn_withdraws scenario i (fda_of sign) past refl h;
  cause = λ i past h. asked_is_known scenario i past sign (fda_cause scenario i (fda_of sign) past refl h);
}

-- ---- logs

founded_known : (sign : FailureSign) (scenario : ScenarioParts) (p : Protocol) (i : ℕ) (past : List NoticeKind) (entry : LogEntry) → tells_of sign entry
    → IsFoundedEntry scenario p i past entry → knows sign (knowledge_of scenario i past) ≡ true
founded_known sign scenario p i past (Deliver slot by msg payload) is k = absurd is
founded_known sign scenario p i past (Failed slot node cycle) is k =
    let same : record { node = node; cycle = cycle } ≡ sign = λ j. record { node = is.0 j; cycle = is.1 j } in
    ap (λ s. knows s (knowledge_of scenario i past)) (sym same) ∙ k.known
founded_known sign scenario p i past (View slot number members) is k = absurd is

-- a sign that stands in a log is known
pub signed_known : (scenario : ScenarioParts) (s : RunState) (i : ℕ) (sign : FailureSign) → HasLoggedFailure scenario s i sign
    → knows sign (knowledge_of (scenario_at scenario s i) i (history i s)) ≡ true
signed_known scenario s i sign h =
    let sc : ScenarioParts = scenario_at scenario s i in
    let split = log_split (λ y. y ≡ h.entry) sc i (history i s) (Among-from_Contains (log scenario s i) h.entry h.stands) in
    let made = made_by (λ y. y ≡ h.entry) sc split.0 split.1 i (history i s) split.2 in
    known_since sc i sign made.place (history i s)
    (founded_known sign sc split.0 i (drop made.place (history i s)) made.entry (subst (tells_of sign) (sym made.is) h.tells) made.founded)

-- and one that is known stands there
known_signed : (scenario : ScenarioParts) (s : RunState) (i : ℕ) (sign : FailureSign) → knows sign (knowledge_of (scenario_at scenario s i) i (history i s)) ≡ true
    → HasLoggedFailure scenario s i sign
known_signed scenario s i sign h =
    let sc : ScenarioParts = scenario_at scenario s i in
    let w = Among-which (tells_of sign) (log scenario s i)
    (log_has (tells_of sign) sc i failure_signs failures_are_one (history i s) (known_is_entered sc i sign (history i s) h)) in
    record { entry = w.0; stands = w.1; tells = w.2 }

-- ---- a quiet state

-- no running node waits with the frame
nobody_waits : (s : RunState) (sign : FailureSign) → nobody_waits_with_sign s sign ≡ true → (i : ℕ) → runs (node_at s.nodes i) ≡ true
    → waits (fda_of sign) (node_at s.nodes i).waiting ≡ false
nobody_waits s sign h i running = none_waits s (fda_of sign) [] (not-true (is_awaited (fda_of sign ∷ []) s) h) i running

-- ---- agreement

-- a sign that a node knows and nobody waits with was carried Clean
signed_carried : (scenario : ScenarioParts) (s : RunState) (sign : FailureSign) → IsWithin scenario.params s.trace
    → EachRunning (NodeDiffuses scenario scenario.params.omit (fda_of sign) (sign_duty sign)) s → nobody_waits_with_sign s sign ≡ true
    → (i : ℕ) → IsCorrect scenario s i → HasLoggedFailure scenario s i sign → Among (CarriesClean (fda_of sign)) s.trace
signed_carried scenario s sign within diffuses quiet i correct signed =
    let inc = (node_at s.nodes i).present in
    seen_clean (fda_of sign) s i
    (owed_is_carried scenario.params (fda_of sign) (sign_duty sign (scenario_for scenario inc)) (seen inc s.trace) i (node_at s.nodes i)
    (diffuses i correct.running) (within_seen scenario.params inc s.trace within) (nobody_waits s sign quiet i correct.running)
    (subst ((sign_duty sign (scenario_for scenario inc)).owes i) (history-is i s) (signed_known scenario s i sign signed)))

-- what was carried Clean, each correct node that took part since the first slot that carried it
-- knows
carried_known : (scenario : ScenarioParts) (s : RunState) (sign : FailureSign) → IsAtRest scenario (fda_of sign) (sign_duty sign) s → (first : ℕ)
    → first_carried (fda_of sign) s.trace ≡ Some first → (j : ℕ) → IsCorrectFrom scenario s first j → Among (CarriesClean (fda_of sign)) s.trace
    → knows sign (knowledge_of (scenario_at scenario s j) j (history j s)) ≡ true
carried_known scenario s sign rest first is j correct clean =
    elim (carried_read scenario (fda_of sign) (sign_duty sign) s rest first is j correct clean) [
      | inl got ↦ got_is_known (scenario_at scenario s j) j sign (history j s) got
      | inr known ↦ known.0
    ]

-- the frame of a sign carries no vector
sign_is_heard : (sign : FailureSign) → same_class (fda_of sign).class class.Rha ≡ false
unfolding same_class
sign_is_heard sign = refl

pub sign_agrees : (scenario : ScenarioParts) → scenario.params.nodes ≤ most_nodes → (journal : List Step) → IsWithin scenario.params (run scenario journal).trace
    → (sign : FailureSign) → IsSignAgreedOn scenario (run scenario journal) sign
sign_agrees scenario few journal within sign = by_first (first_carried (fda_of sign) (run scenario journal).trace) refl
  where
    diffuses : EachRunning (NodeDiffuses scenario scenario.params.omit (fda_of sign) (sign_duty sign)) (run scenario journal)
    diffuses =
        run_diffuses scenario scenario.params.omit (fda_of sign) (sign_duty sign) (λ inc. sign_is_diffused (scenario_for scenario inc) sign)
        (λ inc past begun. begun) journal

    rest : nobody_waits_with_sign (run scenario journal) sign ≡ true → all_read (run scenario journal) ≡ true
        → IsAtRest scenario (fda_of sign) (sign_duty sign) (run scenario journal)
    rest quiet read = record {
      few = few;
      within = within;
      numbered = run_numbered scenario.params.nodes (run scenario journal) (orderly scenario journal);
      heard = sign_is_heard sign;
      rules = λ inc. sign_is_diffused (scenario_for scenario inc) sign;
      diffuses = diffuses;
      gone = nobody_waits (run scenario journal) sign quiet;
      read = each_has_read (run scenario journal) read;
    }

    by_first : (o : Option ℕ) → first_carried (fda_of sign) (run scenario journal).trace ≡ o → IsSignAgreedFrom scenario (run scenario journal) sign o
    by_first (Some first) is = λ settled i correct signed j correct_j.
        let parts = and_parts (nobody_waits_with_sign (run scenario journal) sign) (all_read (run scenario journal)) settled in
        known_signed scenario (run scenario journal) j sign
        (carried_known scenario (run scenario journal) sign (rest parts.0 parts.1) first is j correct_j
        (signed_carried scenario (run scenario journal) sign within diffuses parts.0 i correct.correct signed))
    by_first None never = λ quiet i correct signed.
        carried_has_first (fda_of sign) (run scenario journal).trace
        (Among-weaker (CarriesClean (fda_of sign)) (Carries (fda_of sign)) (λ note c. c.carries) (run scenario journal).trace
        (signed_carried scenario (run scenario journal) sign within diffuses quiet i correct signed)) never
