use Rattle.std.proofs.Common.{◌≡◌, ◌≤◌, ℕ, ap, sym, subst, ◌∙◌, arith, inl, inr}
use Rattle.std.specs.Prelude.{IfSome, Option}
use Rattle.std.proofs.lemmas.Bool.{cases_eq}
use Rattle.cany_base.specs.Frame.{FrameParts}
use Rattle.cany_model.specs.Bus.Slot.{least_frame, offered}
use Rattle.cany_model.specs.Bus.State.{NodeState, node_at, runs, absent}
use Rattle.can_arbiter.specs.Outcome.{IsOutcomeAmong}
use Rattle.can_frame.specs.Identifier.{FitsIdentifier}
use Rattle.can_controller.specs.Controller.{node_state}
use Rattle.can_bus.specs.Contest.{StandInOrder}
use Rattle.can_bus.specs.Controllers.{nodes_of}
use Rattle.can_bus.proofs.ContestFacts.{contested}
use Rattle.can_bus.proofs.EachFacts.{got}
use Rattle.can_bus.proofs.NodeFacts.{state_at, state_past}
use Rattle.can_bus.proofs.OfferFacts.{all_below, all_fit, all_in_order, next_entered, not_below}
use Rattle.can_bus.proofs.SetFacts.{so_far_none, so_far_more, so_far_all}
use Rattle.can_bus.proofs.contest.contest.Goals as goal

pub loop-i-init : goal.loop-i-init
loop-i-init c = record {
  running = so_far_none _ _ c.empty-running.ensures.set;
  outcome = λ k. not_below (nodes_of c.args.controllers.now) 0 k (omega arith);
  best = tt;
  fit = λ k below. absurd (omega (arith, below));
  in_order = λ k below. absurd (omega (arith, below));
}

pub compete-requires-clause-format : goal.compete-requires-clause-format
compete-requires-clause-format c =
    c.requires.format c.loop-i.i c.index-controllers-i.result
    (got c.args.controllers.now c.loop-i.i c.index-controllers-i.result (omega arith) c.index-controllers-i.is)

pub loop-i-preserved : goal.loop-i-preserved
loop-i-preserved c =
    let nodes = nodes_of c.args.controllers.now in
    let at : node_at nodes c.loop-i.i ≡ node_state c.index-controllers-i.result =
    state_at c.args.controllers.now c.loop-i.i c.index-controllers-i.result
    (got c.args.controllers.now c.loop-i.i c.index-controllers-i.result (omega arith) c.index-controllers-i.is) in
    record {
      running = so_far_more _ _ _ _ _ c.loop-i.invariant.running c.compete.ensures.running (ap runs (sym at));
      outcome = c.compete.ensures.outcome _ _ c.loop-i.invariant.outcome (next_entered nodes c.loop-i.i (node_state c.index-controllers-i.result) at);
      best = c.compete.ensures.best;
      fit = λ k below. elim (cases_eq k c.loop-i.i) [
        | inl same ↦ subst (λ (n : NodeState). IfSome (least_frame (offered n)) (FitsIdentifier c.args.format)) (sym (ap (node_at nodes) same ∙ at)) c.compete.ensures.fits
        | inr apart ↦ c.loop-i.invariant.fit k (omega (arith, below, apart))
      ];
      in_order = λ k below. elim (cases_eq k c.loop-i.i) [
        | inl same ↦ subst (λ (n : NodeState). StandInOrder c.args.format (offered n)) (sym (ap (node_at nodes) same ∙ at)) c.compete.ensures.in_order
        | inr apart ↦ c.loop-i.invariant.in_order k (omega (arith, below, apart))
      ];
    }

pub returns-clause-running : goal.returns-clause-running
returns-clause-running c = so_far_all _ _ _ c.loop-i.invariant.running (omega arith) (λ k past. ap runs (state_past c.args.controllers.now k (omega arith)))

pub returns-clause-contest : goal.returns-clause-contest
returns-clause-contest c =
    let nodes = nodes_of c.args.controllers.now in
    let past : (k : ℕ) → c.loop-i.i ≤ k → node_at nodes k ≡ absent = λ k above. state_past c.args.controllers.now k (omega (arith, above)) in
    let format = c.args.format in
    contested format nodes c.lesser_key_wins.ensures
    (all_fit format nodes c.loop-i.i c.loop-i.invariant.fit past) (all_in_order format nodes c.loop-i.i c.loop-i.invariant.in_order past)
    c.loop-i.outcome (λ k above. state_past c.args.controllers.now k (omega (arith, above)))
    (subst (λ (offers : ℕ → Option FrameParts). IsOutcomeAmong format offers c.loop-i.outcome) (all_below nodes c.loop-i.i past) c.loop-i.invariant.outcome)
