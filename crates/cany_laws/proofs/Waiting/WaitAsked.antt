-- The data frame of a message that its origin has asked for waits there, unless a slot sent it with
-- success, or the origin has read enough copies of it.
use Rattle.std.proofs.Common.{◌≡◌, ℕ, zero, suc, ◌<◌, ◌⊎◌, inl, inr, true, List, [], ◌∷◌, drop, refl, ap, sym, ◌∙◌, subst, arith}
use Rattle.std.specs.Prelude.{None}
use Rattle.std.specs.List.{AllByRecursion, list_any}
use Rattle.std.proofs.lemmas.Bool.{or_cases, or_right}
use Rattle.cany_base.specs.declared.class.Class.TheVariants as class
use Rattle.cany_base.specs.declared.message.Service.{Service}
use Rattle.cany_base.specs.declared.message.Service.TheVariants.{Ed, Rel, Tot}
use Rattle.cany_base.specs.declared.notice.NoticeKind.{NoticeKind}
use Rattle.cany_base.specs.declared.slot_note.SlotNote.{SlotNote}
use Rattle.cany_base.specs.declared.step.Step.{Step}
use Rattle.cany_base.specs.Frame.{data_class}
use Rattle.cany_base.specs.Scenario.{ScenarioParts}
use Rattle.cany_model.specs.Bus.Frames.{Identity, identity_of}
use Rattle.cany_model.specs.Bus.History.{copies}
use Rattle.cany_model.specs.Bus.State.{Incarnation, NodeState}
use Rattle.cany_model.specs.Bus.Waiting.{waits}
use Rattle.cany_model.specs.Rules.Effect.{Effect, Ask, Enter, Withdraw}
use Rattle.cany_model.specs.Rules.Messages.{Message, data_id, messages_of}
use Rattle.cany_model.specs.Rules.Protocol.{Protocol}
use Rattle.cany_model.specs.Rules.Turn.{asks_for, has_asked, origin_effects, scenario_for, turn_effects}
use Rattle.cany_model.specs.Runs.Run.{run}
use Rattle.cany_model.proofs.Among.{Among, Each-weaker}
use Rattle.cany_model.proofs.Bus.Carried.{Succeeds, Succeeds-from_sent, is_sent-from}
use Rattle.cany_model.proofs.Promises.Diffusion.{Heard, Lived, Turned, copies_grow, past_of}
use Rattle.cany_model.proofs.Promises.EachNode.{EachRunning, IsNew, blank_heard, each_running}
use Rattle.cany_model.proofs.Rules.Services.MessageKeys.{IsOneOf}
use Rattle.cany_model.proofs.Rules.ProtocolFacts.{IsFounded, MayWithdraw, answered, closes, data_is_no_other, enough, enough_accept, settles}
use Rattle.cany_model.proofs.Rules.TurnFacts.{turn_effect}
use Rattle.cany_model.proofs.Rules.Waits.{Asks, Withdraws, waits-without, waits_after}
use Rattle.cany_model.proofs.Timed.Order.TotSettled.{asks_true, has_started, turn_of_origin}

-- ---- what a turn asks for and withdraws

data_joins_none : (by : Service) → data_class by ≡ class.Join → ⊥
data_joins_none Ed e = cc
data_joins_none Rel e = cc
data_joins_none Tot e = cc

-- a data frame is withdrawn only with more than omit copies
data_withdrawn : (scenario : ScenarioParts) (i : ℕ) (past : List NoticeKind) (by : Service) (x : Identity) → x.class ≡ data_class by
    → MayWithdraw scenario i past x → scenario.params.omit < copies x past
data_withdrawn scenario i past by x of (enough diffused many) = many
data_withdrawn scenario i past by x of (enough_accept f got accept same many) =
    absurd (data_is_no_other by class.Accept refl (sym of ∙ sym (ap (λ (y : Identity). y.class) same) ∙ accept))
data_withdrawn scenario i past by x of (closes f read tot same closed) = absurd (data_is_no_other by class.Accept refl (sym of ∙ sym (ap (λ (y : Identity). y.class) same)))
data_withdrawn scenario i past by x of (settles slot may same) = absurd (data_is_no_other by class.Rha refl (sym of ∙ sym (ap (λ (y : Identity). y.class) same)))
data_withdrawn scenario i past by x of (answered slot c ask now ends (inl join) own same) =
    absurd (data_joins_none by (sym of ∙ sym (ap (λ (y : Identity). y.class) same) ∙ join.0))
data_withdrawn scenario i past by x of (answered slot c ask now ends (inr leave) own same) =
    absurd (data_is_no_other by class.Leave refl (sym of ∙ sym (ap (λ (y : Identity). y.class) same) ∙ leave.0))

founded_withdrawn : (scenario : ScenarioParts) (p : Protocol) (i : ℕ) (past : List NoticeKind) (m : Message) (e : Effect) → Withdraws (data_id m) e
    → IsFounded scenario p i past e → scenario.params.omit < copies (data_id m) past
founded_withdrawn scenario p i past m (Ask f) h k = absurd h
founded_withdrawn scenario p i past m (Withdraw y) h k =
    data_withdrawn scenario i past m.service (data_id m) refl (subst (MayWithdraw scenario i past) (sym h) k.0)
founded_withdrawn scenario p i past m (Enter entry) h k = absurd h

turn_withdrawn : (scenario : ScenarioParts) (i : ℕ) (past : List NoticeKind) (m : Message) → Among (Withdraws (data_id m)) (turn_effects scenario i past)
    → scenario.params.omit < copies (data_id m) past
turn_withdrawn scenario i past m h =
    let w = turn_effect (Withdraws (data_id m)) scenario i past h in
    founded_withdrawn scenario w.protocol i past m w.effect w.is w.founded

-- ---- by when it was asked for

-- it was asked for in the newest turn, or before
pub asked_now : (scenario : ScenarioParts) (m : Message) (i : ℕ) (e : NoticeKind) (past : List NoticeKind) → has_asked scenario m i (e ∷ past) ≡ true
    → Among (Asks (data_id m)) (turn_effects scenario i (e ∷ past)) ⊎ (has_asked scenario m i past ≡ true)
unfolding has_asked
asked_now scenario m i e past h = elim (or_cases (list_any (asks_for (data_id m)) (origin_effects scenario i (e ∷ past))) (has_asked scenario m i past) h) [
  | inl now ↦ inl (turn_of_origin (Asks (data_id m)) scenario i (e ∷ past) (asks_true (data_id m) (origin_effects scenario i (e ∷ past)) now))
  | inr before ↦ inr before
]

-- what was asked for stays so
pub asked_since : (scenario : ScenarioParts) (m : Message) (i n : ℕ) (past : List NoticeKind) → has_asked scenario m i (drop n past) ≡ true
    → has_asked scenario m i past ≡ true
unfolding has_asked
asked_since scenario m i zero past h = h
asked_since scenario m i (suc n) [] h = h
asked_since scenario m i (suc n) (e ∷ past) h =
    or_right (list_any (asks_for (data_id m)) (origin_effects scenario i (e ∷ past))) (has_asked scenario m i past) (asked_since scenario m i n past h)

-- ---- every running node

-- it waits with the frame, or the frame was sent with success, or it has read enough copies
abbrev pub WaitsOrGone : ℕ → Identity → List SlotNote → ℕ → NodeState → Type 0
WaitsOrGone omit x trace i node = (waits x node.waiting ≡ true) ⊎ (Among (Succeeds x) trace ⊎ (omit < copies x (past_of i trace node)))

pub record KeepsAsked (scenario : ScenarioParts) (m : Message) (trace : List SlotNote) (i : ℕ) (node : NodeState) : Type 0 where
  pub kept : has_asked (scenario_for scenario node.present) m i (past_of i trace node) ≡ true → WaitsOrGone scenario.params.omit (data_id m) trace i node
  pub heard : AllByRecursion (Heard i) trace

module _ (scenario : ScenarioParts) (m : Message) (is : IsOneOf (messages_of scenario.sends) m) where
  new_node : (trace : List SlotNote) (i : ℕ) (node : NodeState) → IsNew scenario trace i node → KeepsAsked scenario m trace i node
  new_node trace i node new = record {
    kept = λ asked. absurd (has_started (scenario_for scenario node.present) m is i (past_of i trace node) new.past asked);
    heard = Each-weaker (λ note. note.frame ≡ None) (Heard i) (λ note none. blank_heard i note none) trace new.blank;
  }

  slot_kept : (note : SlotNote) (trace : List SlotNote) (i : ℕ) (node after : NodeState) → Lived note trace i node after
      → WaitsOrGone scenario.params.omit (data_id m) trace i node → WaitsOrGone scenario.params.omit (data_id m) (note ∷ trace) i after
  slot_kept note trace i node after l (inl waiting) = elim l.waiting [
    | inl same ↦ inl (rw same waiting)
    | inr sent ↦ elim (waits-without (data_id m) (identity_of sent.0) node.waiting waiting) [
      | inl own ↦ inr (inl (inl (Succeeds-from_sent i (data_id m) note (is_sent-from (data_id m) sent.0 _ sent.1 own))))
      | inr still ↦ inl (rw sent.2 still)
    ]
  ]
  slot_kept note trace i node after l (inr (inl sent)) = inr (inl (inr sent))
  slot_kept note trace i node after l (inr (inr many)) = inr (inr (rw l.past many))

  turn_kept : (trace : List SlotNote) (i : ℕ) (node after : NodeState) → Turned (turn_effects (scenario_for scenario node.present)) trace i node after
      → has_asked (scenario_for scenario node.present) m i (past_of i trace after) ≡ true
      → (has_asked (scenario_for scenario node.present) m i (past_of i trace node) ≡ true → WaitsOrGone scenario.params.omit (data_id m) trace i node)
      → WaitsOrGone scenario.params.omit (data_id m) trace i after
  turn_kept trace i node after t asked kept =
      let sc : ScenarioParts = scenario_for scenario node.present in
      let past : List NoticeKind = past_of i trace after in
      let goes_on : (waits (data_id m) node.waiting ≡ true) ⊎ Among (Asks (data_id m)) (turn_effects sc i past)
      → WaitsOrGone scenario.params.omit (data_id m) trace i after =
      λ k. elim (waits_after (data_id m) (turn_effects sc i past) node.waiting k) [
        | inl gone ↦ inr (inr (turn_withdrawn sc i past m gone))
        | inr still ↦ inl (rw t.waiting still)
      ] in
      elim (asked_now sc m i t.notice (past_of i trace node) (subst (λ h. has_asked sc m i h ≡ true) t.past asked)) [
        | inl now ↦ goes_on (inr (subst (λ h. Among (Asks (data_id m)) (turn_effects sc i h)) (sym t.past) now))
        | inr before ↦ elim (kept before) [
          | inl waiting ↦ goes_on (inl waiting)
          | inr (inl sent) ↦ inr (inl sent)
          | inr (inr many) ↦ inr (inr (rw t.past (omega (arith, many, copies_grow (data_id m) t.notice (past_of i trace node)))))
        ]
      ]

  pub keeps_asked : (journal : List Step) → EachRunning (KeepsAsked scenario m) (run scenario journal)
  keeps_asked journal =
      each_running scenario (KeepsAsked scenario m) (record {
        new = new_node;
        slot = λ note trace i node after same l h. record {
          kept = λ asked. slot_kept note trace i node after l (h.kept (rw (same, l.past) at asked));
          heard = (l.heard, h.heard);
        };
        turn = λ trace i node after same t h. record {
          kept = λ asked. turn_kept trace i node after t
              (subst (λ (inc : Incarnation). has_asked (scenario_for scenario inc) m i (past_of i trace after) ≡ true) same asked) h.kept;
          heard = h.heard;
        };
      }) journal
