-- Agreement of RELCAN: a node that got the frame of a message read a confirmation of it, so that a
-- slot had carried the frame with success, or fell back to sending it.
use Rattle.std.proofs.Common.{◌≡◌, ℕ, ◌<◌, ◌≤◌, ◌==◌, ◌⊎◌, inl, inr, true, false, not, List, ◌∷◌, drop, Contains, ap, sym, ◌∙◌, subst, arith}
use Rattle.cany_base.specs.Limits.{most_nodes}
use Rattle.std.proofs.lemmas.Bool.{and_from, both_ways, cases_Bool, ne_eqb, not_from_false, or_cases}
use Rattle.cany_base.specs.declared.class.Class.TheVariants as class
use Rattle.cany_base.specs.declared.message.Service.TheVariants.{Rel}
use Rattle.cany_base.specs.declared.notice.NoticeKind.{NoticeKind}
use Rattle.cany_base.specs.declared.step.Step.{Step}
use Rattle.cany_base.specs.Frame.{data_class}
use Rattle.cany_base.specs.Scenario.{ScenarioParts}
use Rattle.cany_model.specs.Bus.Frames.{Identity, same_class}
use Rattle.cany_model.specs.Bus.History.{copies, history, is_got}
use Rattle.cany_model.specs.Promises.Hypothesis.{IsWithin}
use Rattle.cany_model.specs.Rules.Messages.{Message, messages_of, data_id}
use Rattle.cany_model.specs.Rules.Relcan.{confirm_of, falls_back, fell_back, has_confirm, has_copy, has_timer_ahead, is_timed, relcan}
use Rattle.cany_model.specs.Runs.Run.{run}
use Rattle.cany_model.specs.Promises.Safe.{IsAgreedOn}
use Rattle.cany_model.specs.Promises.Settled.{IsCorrect}
use Rattle.cany_model.specs.Bus.State.{RunState}
use Rattle.cany_model.specs.Rules.Sends.{is_sent_at_once}
use Rattle.cany_model.specs.Rules.Turn.{scenario_at, scenario_for, turn_effects}
use Rattle.cany_model.proofs.Promises.Agreement.{idle_carries, owed_carried}
use Rattle.cany_model.proofs.Promises.Agrees.{Ground, Owes, duty_of, run_agrees}
use Rattle.cany_model.proofs.Among.{Among, Among-from_any, Among-from_count, any-from_Among}
use Rattle.cany_model.proofs.Bus.Carried.{Carries, CarriesClean, Carries-from_got}
use Rattle.cany_model.proofs.Runs.FrameInvariants.{history_among}
use Rattle.cany_model.proofs.Promises.Confirms.{IsConfirmed, confirm_carried, confirmed}
use Rattle.cany_model.proofs.Promises.CleanSlots.{clean_from_success}
use Rattle.cany_model.proofs.Promises.Diffusion.{IsDiffused, IsAnswered}
use Rattle.cany_model.proofs.Bus.Identities.{same_class_self}
use Rattle.cany_model.proofs.Rules.Services.MessageKeys.{IsOneOf}
use Rattle.cany_model.proofs.Promises.SettledFacts.{settled_none_ahead}
use Rattle.cany_model.proofs.Rules.Services.Timers.{overdue_falls_back}
use Rattle.cany_model.proofs.Rules.TurnFacts.{asks_at_its_slot, rel_cause, turn_withdraws, turn_falls_back}
use Rattle.cany_model.proofs.Rules.Services.DeliveryFacts.{DeliversAtOnce}
use Rattle.cany_model.proofs.Rules.IdleBeforeTakingPart.{begun_fell_back, begun_short}
use Rattle.cany_model.proofs.Rules.ProtocolFacts.{MayStart, is_diffused}
use Rattle.cany_model.proofs.Rules.Protocols.{relcan_is_one}
use Rattle.cany_model.proofs.Rules.Services.RelcanFacts.{fell_copies, fell_stays, relcan_delivers}

-- a node is to send the frame of a RELCAN message once it fell back, or as origin once it has read
-- its slot
abbrev pub OwesRel : Message → Owes
OwesRel m scenario i past = (fell_back scenario.params.confirm i (data_id m) past ≡ true) ⊎ MayStart scenario m i past

asked_late : (scenario : ScenarioParts) (m : Message) (i : ℕ) (e : NoticeKind) (past : List NoticeKind)
    → fell_back scenario.params.confirm i (data_id m) (e ∷ past) ≡ true
    → (fell_back scenario.params.confirm i (data_id m) past ≡ true) ⊎ IsAnswered (turn_effects scenario) scenario.params.omit (data_id m) i e past
unfolding fell_back
asked_late scenario m i e past h =
    elim (or_cases (falls_back scenario.params.confirm i (data_id m) (e ∷ past)) (fell_back scenario.params.confirm i (data_id m) past) h) [
      | inl now ↦ elim (turn_falls_back scenario i (data_id m) e past now) [ inl asks ↦ inr (inl asks) | inr many ↦ inr (inr (inl many)) ]
      | inr before ↦ inl before
    ]

-- RELCAN diffuses the frames of its messages
pub rel_is_diffused : (scenario : ScenarioParts) (m : Message) → IsOneOf (messages_of scenario.sends) m → m.service ≡ Rel
    → IsDiffused (turn_effects scenario) scenario.params.omit (data_id m) (duty_of m (OwesRel m) scenario)
rel_is_diffused scenario m is rel = record {
  at_first = λ i past begun owes. elim owes [
    | inl fell ↦ both_ways (fell_back scenario.params.confirm i (data_id m) past) (begun_fell_back scenario scenario.params.confirm i (data_id m) past begun) fell
    | inr origin ↦ begun_short scenario past begun m.slot origin.1 origin.2
  ];
  stays = λ i e past owes. elim owes [
    | inl fell ↦ inl (fell_stays scenario.params.confirm i (data_id m) e past fell)
    | inr origin ↦ let at = origin.1 in inr (origin.0, omega (arith, at), origin.2)
  ];
  known = λ i past owes. elim owes [ inl fell ↦ inr (fell_copies scenario.params.confirm i (data_id m) past fell) | inr origin ↦ inl origin ];
  asked = λ i e past owes. elim owes [
    | inl fell ↦ elim (asked_late scenario m i e past fell) [ inl before ↦ inl (inl before) | inr asked ↦ inr asked ]
    | inr origin ↦ elim (asks_at_its_slot scenario m is (ap is_sent_at_once rel) i e past origin) [ inl before ↦ inl (inr (origin.0, before, origin.2)) | inr asks ↦ inr (inl asks) ]
  ];
  withdrawn = λ i past h. turn_withdraws scenario i (data_id m) past (ap (λ by. is_diffused (data_class by)) rel) h;
  cause = λ i past h. elim (rel_cause scenario i m past is rel h) [ inl starts ↦ inr starts | inr fell ↦ inl fell ];
}

-- ---- one state

-- a confirmation that a node read, a slot carried
confirm_read : (m : Message) (s : RunState) (i : ℕ) → has_confirm (data_id m) (history i s) ≡ true → Among (Carries (confirm_of (data_id m))) s.trace
confirm_read m s i h =
    history_among s i (λ e. is_got (confirm_of (data_id m)) e ≡ true) (Carries (confirm_of (data_id m))) (idle_carries (confirm_of (data_id m)))
    (Carries-from_got i (confirm_of (data_id m))) (Among-from_any (is_got (confirm_of (data_id m))) (history i s) h)

-- so the data frame was carried Clean
confirmed_carried : (scenario : ScenarioParts) (m : Message) (s : RunState) → m.service ≡ Rel → IsConfirmed s → IsWithin scenario.params s.trace
    → (i : ℕ) → has_confirm (data_id m) (history i s) ≡ true → Among (CarriesClean (data_id m)) s.trace
confirmed_carried scenario m s rel c within i h =
    clean_from_success scenario.params (data_id m) s.trace within (confirm_carried s c (data_id m) (ap data_class rel) (confirm_read m s i h))

timed : (m : Message) (i : ℕ) → m.service ≡ Rel → (m.origin ≡ i → ⊥) → is_timed i (data_id m) ≡ true
timed m i rel other =
    and_from (same_class (data_class m.service) class.Rel) (not (m.origin == i))
    (ap (λ by. same_class (data_class by) class.Rel) rel ∙ same_class_self class.Rel)
    (not_from_false (m.origin == i) (ne_eqb m.origin i other))

-- a timer that started, and is not ahead, ran out or was stopped
timer_done : (scenario : ScenarioParts) (m : Message) (i : ℕ) (past : List NoticeKind) → is_timed i (data_id m) ≡ true → has_copy (data_id m) past ≡ true
    → has_timer_ahead scenario m i past ≡ false → (has_confirm (data_id m) past ≡ true) ⊎ (fell_back scenario.params.confirm i (data_id m) past ≡ true)
timer_done scenario m i past timed some done =
    elim (cases_Bool (has_confirm (data_id m) past)) [
      | inl confirmed ↦ inl confirmed
      | inr none ↦ elim (cases_Bool (has_copy (data_id m) (drop scenario.params.confirm past))) [
        | inl late ↦ inr (overdue_falls_back scenario.params.confirm i (data_id m) past timed late none)
        | inr early ↦
            let started = and_from (is_timed i (data_id m)) (has_copy (data_id m) past) timed some in
            let running = and_from _ (not (has_copy (data_id m) (drop scenario.params.confirm past))) started (not_from_false _ early) in
            absurd (both_ways (has_timer_ahead scenario m i past) done (and_from _ (not (has_confirm (data_id m) past)) running (not_from_false _ none)))
      ]
    ]

copied : (x : Identity) (past : List NoticeKind) → 0 < copies x past → has_copy x past ≡ true
unfolding copies
copied x past some = any-from_Among (is_got x) past (Among-from_count (is_got x) past some)

-- a frame that a correct node got was carried Clean
got_carried : (scenario : ScenarioParts) (m : Message) (s : RunState) → m.service ≡ Rel → IsConfirmed s → Ground scenario m (OwesRel m) s
    → (i : ℕ) → IsCorrect scenario s i → (m.origin ≡ i → ⊥) → 0 < copies (data_id m) (history i s) → Among (CarriesClean (data_id m)) s.trace
got_carried scenario m s rel c g i correct other some =
    elim (timer_done (scenario_at scenario s i) m i (history i s) (timed m i rel other) (copied (data_id m) (history i s) some)
    (settled_none_ahead scenario s m g.settled i correct relcan relcan_is_one)) [
      | inl confirm ↦ confirmed_carried scenario m s rel c g.rest.within i confirm
      | inr fell ↦ owed_carried scenario (data_id m) (duty_of m (OwesRel m)) s g.rest i correct (inl fell)
    ]

-- ---- every run

pub relcan_agrees : (scenario : ScenarioParts) → scenario.params.nodes ≤ most_nodes → (journal : List Step) → IsWithin scenario.params (run scenario journal).trace
    → (m : Message) → Contains (messages_of scenario.sends) m → m.service ≡ Rel → IsAgreedOn scenario (run scenario journal) m
relcan_agrees scenario few journal within m stands rel =
    run_agrees scenario few journal within m stands (ap is_sent_at_once rel) (OwesRel m) (λ is inc. rel_is_diffused (scenario_for scenario inc) m is rel)
    (record {
      protocol = relcan;
      is_one = relcan_is_one;
      delivers = subst (DeliversAtOnce relcan) (sym rel) relcan_delivers;
      origin_owes = λ sc i past may. inr may;
      got_carried = got_carried scenario m (run scenario journal) rel (confirmed scenario journal few);
    })
