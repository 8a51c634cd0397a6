-- The actions of a turn are those that the rule of vectors gives.
use Rattle.std.proofs.Common.{◌≡◌, ℕ, inl, inr, Bool, true, false, if◌then◌else◌, List, [], ◌∷◌, ◌++◌, length, Option, Some, None, refl, ap, sym, ◌∙◌, subst}
use Rattle.std.proofs.lemmas.Bool.{cases_Bool}
use Rattle.cany_base.specs.declared.actions.Action.{Action}
use Rattle.cany_base.specs.declared.format.Format.{Format}
use Rattle.cany_base.specs.declared.notice.Notice.{Notice}
use Rattle.cany_base.specs.declared.notice.NoticeKind.{NoticeKind}
use Rattle.cany_base.specs.declared.notice.NoticeKind.TheVariants.{Idle, Got, Sent, Bad}
use Rattle.cany_base.specs.Frame.{FrameParts}
use Rattle.cany_base.specs.Nodes.{Nodes}
use Rattle.cany_base.specs.Params.{Parameters}
use Rattle.cany_base.specs.Scenario.{ScenarioParts}
use Rattle.cany_message.proofs.DeliveryFacts.{both_actions}
use Rattle.cany_model.specs.Rules.Actions.{actions_of}
use Rattle.cany_model.specs.Rules.Effect.{Effect}
use Rattle.cany_model.specs.Rules.Vectors.{brought, end_effects, ended, exchange_at, is_covered, is_new, met, met_with, start_effects, vector_effects, vector_effects_of, vector_in}
use Rattle.cany_base.specs.Cycles.{cycle_of, is_exchange, is_start}
use Rattle.cany_history.specs.History.{HistoryParts, IsExchangeOf, IsHistoryOf, IsNextAt, StartsWith}
use Rattle.cany_history.specs.HistorySteps.{brought_actions, end_actions, got_actions, after_ending, after_reading, is_covered_by, met_by, read_actions, start_actions}
use Rattle.cany_history.proofs.ReadFacts.{got_some, value}
use Rattle.cany_history.proofs.TurnFacts.{end_node, end_params, read_node, read_params, read_vector, same_counts, whole}

-- effects by two tests, as actions by the same ones
if_actions : (format : Format) (b c : Bool) (x y z : List Effect) → actions_of format (if b then x else if c then y else z)
    ≡ (if b then actions_of format x else if c then actions_of format y else actions_of format z)
if_actions format true c x y z = refl
if_actions format false true x y z = refl
if_actions format false false x y z = refl

-- ---- a notice

module _ (p : Parameters) (i slot : ℕ) (past : List NoticeKind) (own : Option Nodes) (copies : ℕ) (sent : Bool) where
  module _ (h : IsExchangeOf p (cycle_of p slot) i past own (value i p own copies sent)) (f : FrameParts) (got : Nodes)
      (carries : vector_in p.format (cycle_of p slot) f ≡ Some got) where
    counted : IsExchangeOf p (cycle_of p slot) i (Got f ∷ past) (Some (met_with p own got)) (met_by got (value i p own copies sent))
    counted = got_some p i slot past own copies sent h f got carries

    -- the vector is covered where the value says so
    covered_is : is_covered p (cycle_of p slot) i (met_with p own got) (Got f ∷ past) ≡ is_covered_by (met_by got (value i p own copies sent))
    unfolding is_covered
    covered_is = rw (counted.copies, counted.sent) refl

    got_acts : actions_of p.format (vector_effects_of p 0 i slot (Got f ∷ past) own (met_with p own got)) ≡ got_actions slot got (value i p own copies sent)
    got_acts =
        if_actions p.format (is_covered p (cycle_of p slot) i (met_with p own got) (Got f ∷ past)) (is_new own (met_with p own got)) _ _ []
        ∙ rw covered_is refl

  read_acts : (notice : NoticeKind)
      → (is_exchange p slot ≡ true → IsExchangeOf p (cycle_of p slot) i past own (value i p own copies sent))
      → actions_of p.format (vector_effects p 0 i slot (notice ∷ past) own (brought p slot notice)) ≡ read_actions slot notice (value i p own copies sent)
  unfolding vector_effects brought brought_actions
  read_acts Idle h = refl
  read_acts Bad h = refl
  read_acts (Sent f) h = refl
  read_acts (Got f) h = elim (cases_Bool (is_exchange p slot)) [
    | inl exchanged ↦ rw exchanged (by_vector (h exchanged) (vector_in p.format (cycle_of p slot) f) refl)
    | inr none ↦ rw none refl
  ]
    where
      by_vector : IsExchangeOf p (cycle_of p slot) i past own (value i p own copies sent) → (x : Option Nodes)
          → vector_in p.format (cycle_of p slot) f ≡ x
          → actions_of p.format (vector_effects p 0 i slot (Got f ∷ past) own x) ≡ brought_actions slot x (value i p own copies sent)
      by_vector exchange None e = refl
      by_vector exchange (Some got) e = got_acts exchange f got e

-- ---- the end of a cycle, and the start of one

end_acts : (p : Parameters) (i slot : ℕ) (v : HistoryParts) → v.params ≡ p → v.node ≡ i → (o : Option Nodes)
    → actions_of p.format (end_effects p i slot o) ≡ end_actions slot v o
unfolding end_effects end_actions
end_acts p i slot v params node None = refl
end_acts p i slot v params node (Some own) = rw (params, node) refl

start_acts : (p : Parameters) (i slot : ℕ) (v : HistoryParts) → v.params ≡ p → v.node ≡ i → (start : Option Nodes)
    → (is_start p slot ≡ false → start ≡ None)
    → actions_of p.format (start_effects p 0 i slot start) ≡ start_actions slot v start
unfolding start_effects start_actions
start_acts p i slot v params node None none = refl
start_acts p i slot v params node (Some own) none = elim (cases_Bool (is_start p slot)) [
  | inl here ↦ rw (here, params, node) refl
  | inr other ↦ let apart : Some own ≡ None = none other in absurd (cc)
]

-- ---- all of them

module _ (scenario : ScenarioParts) (i : ℕ) (past : List NoticeKind) (own : Option Nodes) (notice : Notice) (v : HistoryParts)
    (h : IsHistoryOf scenario i past own v) (next : IsNextAt scenario i past own notice)
    (read : HistoryParts) (reads : read ≡ after_reading notice.slot notice.kind v) (end : HistoryParts) (ends : end ≡ after_ending notice.slot read)
    (start : Option Nodes) (with_start : StartsWith v.params notice.slot start) where
  -- the effects of each step, at the slot of the notice
  abbrev by_notice : ℕ → List Effect
  by_notice slot = vector_effects scenario.params 0 i slot (notice.kind ∷ past) own (brought scenario.params slot notice.kind)

  abbrev by_end : ℕ → List Effect
  by_end slot = end_effects scenario.params i slot (ended scenario.params slot (met scenario.params own (brought scenario.params slot notice.kind)))

  abbrev by_start : ℕ → List Effect
  by_start slot = start_effects scenario.params 0 i slot start

  notice_acts : actions_of scenario.params.format (by_notice notice.slot) ≡ read_actions notice.slot notice.kind v
  notice_acts =
      read_acts scenario.params i notice.slot past own v.copies v.sent notice.kind (λ exchanged.
      let exchange : IsExchangeOf scenario.params (cycle_of scenario.params (length past)) i past own v = h.exchange (rw next.next.slot at exchanged) in
      let here : IsExchangeOf scenario.params (cycle_of scenario.params notice.slot) i past own v = rw next.next.slot exchange in
      same_counts scenario.params (cycle_of scenario.params notice.slot) i past own v (value i scenario.params own v.copies v.sent) refl refl here)
      ∙ ap (read_actions notice.slot notice.kind) (sym (whole scenario i past own notice v h next))

  ended_acts : actions_of scenario.params.format (by_end notice.slot) ≡ end_actions notice.slot read (ended read.params notice.slot read.vector)
  ended_acts =
      let params : read.params ≡ scenario.params = read_params scenario i past own notice v h next read reads ∙ h.limits.are_params in
      let node : read.node ≡ i = read_node scenario i past own notice v h next read reads ∙ h.limits.is_node in
      end_acts scenario.params i notice.slot read params node (ended scenario.params notice.slot (met scenario.params own (brought scenario.params notice.slot notice.kind)))
      ∙ ap (end_actions notice.slot read)
      (sym (ap (λ p. ended p notice.slot read.vector) params ∙ ap (ended scenario.params notice.slot) (read_vector scenario i past own notice v h next read reads)))

  started_acts : actions_of scenario.params.format (by_start notice.slot) ≡ start_actions notice.slot end start
  started_acts =
      start_acts scenario.params i notice.slot end (end_params scenario i past own notice v h next read reads end ends ∙ h.limits.are_params)
      (end_node scenario i past own notice v h next read reads end ends ∙ h.limits.is_node) start (subst (λ p. is_start p notice.slot ≡ false → start ≡ None) h.limits.are_params with_start.none)

  pub turn_acts : (before here there after : List Action) → here ≡ before ++ read_actions notice.slot notice.kind v
      → there ≡ here ++ end_actions notice.slot read (ended read.params notice.slot read.vector)
      → after ≡ there ++ start_actions notice.slot end start
      → after ≡ before ++ actions_of scenario.params.format (exchange_at scenario.params 0 i notice.kind past own start)
  unfolding exchange_at
  turn_acts before here there after acts_here acts_there acts_after =
      let format : Format = scenario.params.format in
      let first : there ≡ before ++ actions_of format (by_notice notice.slot ++ by_end notice.slot) =
      acts_there ∙ ap (λ actions. actions ++ end_actions notice.slot read (ended read.params notice.slot read.vector)) acts_here
      ∙ both_actions format before (by_notice notice.slot) (by_end notice.slot) _ _ notice_acts ended_acts in
      acts_after ∙ ap (λ actions. actions ++ start_actions notice.slot end start) first
      ∙ both_actions format before (by_notice notice.slot ++ by_end notice.slot) (by_start notice.slot) _ _ refl started_acts
      ∙ ap (λ slot. before ++ actions_of format ((by_notice slot ++ by_end slot) ++ by_start slot)) next.next.slot
