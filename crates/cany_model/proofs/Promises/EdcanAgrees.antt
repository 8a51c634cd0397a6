-- Agreement of EDCAN: each node that got the frame of a message is to send it.
use Rattle.std.proofs.Common.{◌≡◌, ℕ, ◌<◌, ◌≤◌, ◌⊎◌, inl, inr, false, List, ◌∷◌, Contains, ap, sym, subst, arith}
use Rattle.cany_base.specs.Limits.{most_nodes}
use Rattle.std.proofs.lemmas.Bool.{cases_lt, cases_Bool}
use Rattle.cany_base.specs.declared.class.Class.TheVariants as class
use Rattle.cany_base.specs.declared.message.Service.TheVariants.{Ed}
use Rattle.cany_base.specs.declared.notice.NoticeKind.{NoticeKind}
use Rattle.cany_base.specs.declared.step.Step.{Step}
use Rattle.cany_base.specs.Frame.{data_class}
use Rattle.cany_base.specs.Scenario.{ScenarioParts}
use Rattle.cany_model.specs.Bus.Frames.{Identity}
use Rattle.cany_model.specs.Bus.History.{copies, is_got}
use Rattle.cany_model.specs.Promises.Hypothesis.{IsWithin}
use Rattle.cany_model.specs.Rules.Messages.{Message, messages_of, data_id}
use Rattle.cany_model.specs.Runs.Run.{run}
use Rattle.cany_model.specs.Rules.Edcan.{edcan}
use Rattle.cany_model.specs.Promises.Safe.{IsAgreedOn}
use Rattle.cany_model.specs.Bus.State.{RunState}
use Rattle.cany_model.specs.Rules.Sends.{is_sent_at_once}
use Rattle.cany_model.specs.Rules.Turn.{scenario_for, turn_effects}
use Rattle.cany_model.proofs.Promises.Agreement.{owed_carried}
use Rattle.cany_model.proofs.Promises.Agrees.{Owes, Rules, duty_of, run_agrees}
use Rattle.cany_model.proofs.Among.{count-no}
use Rattle.cany_model.proofs.Promises.Diffusion.{IsDiffused, copies_got, copies_grow, IsAnswered}
use Rattle.cany_model.proofs.Rules.Services.MessageKeys.{IsOneOf}
use Rattle.cany_model.proofs.Rules.TurnFacts.{asks_at_its_slot, turn_withdraws, turn_cause_data, turn_relays}
use Rattle.cany_model.proofs.Rules.Services.DeliveryFacts.{DeliversAtOnce}
use Rattle.cany_model.proofs.Rules.Services.EdcanFacts.{edcan_delivers}
use Rattle.cany_model.proofs.Rules.IdleBeforeTakingPart.{begun_copies, begun_short}
use Rattle.cany_model.proofs.Rules.ProtocolFacts.{MayStart, is_diffused}
use Rattle.cany_model.proofs.Rules.Protocols.{edcan_is_one}

-- a node is to send the frame of an EDCAN message once it got a copy, or as origin once it has read
-- its slot
abbrev pub OwesEd : Message → Owes
OwesEd m scenario i past = (0 < copies (data_id m) past) ⊎ MayStart scenario m i past

pub copies_other : (x : Identity) (e : NoticeKind) (past : List NoticeKind) → is_got x e ≡ false → copies x (e ∷ past) ≡ copies x past
unfolding copies
copies_other x e past h = count-no (is_got x) e past h

class_of_ed : (m : Message) → m.service ≡ Ed → (data_id m).class ≡ class.Ed
class_of_ed m ed = ap data_class ed

asked_got : (scenario : ScenarioParts) (m : Message) → m.service ≡ Ed → (i : ℕ) (e : NoticeKind) (past : List NoticeKind) → 0 < copies (data_id m) (e ∷ past)
    → (0 < copies (data_id m) past) ⊎ IsAnswered (turn_effects scenario) scenario.params.omit (data_id m) i e past
asked_got scenario m ed i e past some = elim (cases_Bool (is_got (data_id m) e)) [
  | inr other ↦ inl (omega (arith, some, copies_other (data_id m) e past other))
  | inl got ↦ elim (cases_lt 0 (copies (data_id m) past)) [
    | inl before ↦ inl before
    | inr none ↦ inr (turn_relays scenario i (data_id m) e past (class_of_ed m ed) got (omega (arith, none, copies_got (data_id m) e past got)))
  ]
]

-- EDCAN diffuses the frames of its messages
pub ed_is_diffused : (scenario : ScenarioParts) (m : Message) → IsOneOf (messages_of scenario.sends) m → m.service ≡ Ed
    → IsDiffused (turn_effects scenario) scenario.params.omit (data_id m) (duty_of m (OwesEd m) scenario)
ed_is_diffused scenario m is ed = record {
  at_first = λ i past begun owes. elim owes [
    | inl some ↦ let none = begun_copies scenario (data_id m) past begun in omega (arith, some, none)
    | inr origin ↦ begun_short scenario past begun m.slot origin.1 origin.2
  ];
  stays = λ i e past owes. elim owes [
    | inl some ↦ let more = copies_grow (data_id m) e past in inl (omega (arith, some, more))
    | inr origin ↦ let at = origin.1 in inr (origin.0, omega (arith, at), origin.2)
  ];
  known = λ i past owes. elim owes [ inl some ↦ inr some | inr origin ↦ inl origin ];
  asked = λ i e past owes. elim owes [
    | inl some ↦ elim (asked_got scenario m ed i e past some) [ inl before ↦ inl (inl before) | inr asked ↦ inr asked ]
    | inr origin ↦ elim (asks_at_its_slot scenario m is (ap is_sent_at_once ed) i e past origin) [ inl before ↦ inl (inr (origin.0, before, origin.2)) | inr asks ↦ inr (inl asks) ]
  ];
  withdrawn = λ i past h. turn_withdraws scenario i (data_id m) past (ap (λ by. is_diffused (data_class by)) ed) h;
  cause = λ i past h. elim (turn_cause_data scenario i m past is h) [ inl starts ↦ inr starts | inr some ↦ inl some ];
}

ed_rules : (scenario : ScenarioParts) (m : Message) (s : RunState) → m.service ≡ Ed → Rules scenario m (OwesEd m) s
ed_rules scenario m s ed = record {
  protocol = edcan;
  is_one = edcan_is_one;
  delivers = subst (DeliversAtOnce edcan) (sym ed) edcan_delivers;
  origin_owes = λ sc i past may. inr may;
  got_carried = λ g i correct other some. owed_carried scenario (data_id m) (duty_of m (OwesEd m)) s g.rest i correct (inl some);
}

pub edcan_agrees : (scenario : ScenarioParts) → scenario.params.nodes ≤ most_nodes → (journal : List Step) → IsWithin scenario.params (run scenario journal).trace
    → (m : Message) → Contains (messages_of scenario.sends) m → m.service ≡ Ed → IsAgreedOn scenario (run scenario journal) m
edcan_agrees scenario few journal within m stands ed =
    run_agrees scenario few journal within m stands (ap is_sent_at_once ed) (OwesEd m) (λ is inc. ed_is_diffused (scenario_for scenario inc) m is ed)
    (ed_rules scenario m (run scenario journal) ed)
