use Rattle.std.proofs.Common.{◌≡◌, ◌≤◌, length, get_or, not, nat_lt, ◌&&◌, ap, subst, sym, ◌∙◌, arith, refl}
use Rattle.std.specs.Prelude.{None, is_none}
use Rattle.can_controller.specs.Controller.{ControllerState}
use Rattle.cany_model.specs.Bus.State.{runs, node_at}
use Rattle.can_bus.specs.Contest.{seen_by}
use Rattle.can_bus.specs.Each.{each}
use Rattle.can_bus.specs.Controllers.{nodes_of}
use Rattle.can_bus.proofs.EachFacts.{changed_next, changed_more, changed_all, got}
use Rattle.can_bus.proofs.NodeFacts.{runs_seen_at}
use Rattle.can_bus.proofs.SetFacts.{so_far_none, so_far_more}
use Rattle.can_bus.proofs.seeing.see_each.Goals as goal

-- the controller of this turn is as it was at the beginning
was : (c : goal.After-insert_unless) → c.index-controllers-i.result ≡ get_or c.args.controllers.now c.loop-i.i c.index-controllers-i.result
was c =
    c.index-controllers-i.is ∙ ap (λ t. get_or t c.loop-i.i c.index-controllers-i.result) c.loop-i.invariant.seen
    ∙ changed_next (seen_by c.args.note.now) 0 c.loop-i.i c.args.controllers.now c.index-controllers-i.result

pub loop-i-init : goal.loop-i-init
loop-i-init c = record { seen = refl; stopped = so_far_none _ _ c.empty-stopped.ensures.set }

pub see_share-runs-requires-clause-room : goal.see_share-runs-requires-clause-room
see_share-runs-requires-clause-room c =
    let x : ControllerState = c.index-controllers-i.result in
    let was : x ≡ get_or c.args.controllers.now c.loop-i.i x =
    c.index-controllers-i.is ∙ ap (λ t. get_or t c.loop-i.i x) c.loop-i.invariant.seen ∙ changed_next (seen_by c.args.note.now) 0 c.loop-i.i c.args.controllers.now x in
    subst (λ (y : ControllerState). y.stopped ≡ None → length y.unread ≤ y.params.lag) c.index-controllers-i.is
    (c.requires.room c.loop-i.i x (got c.args.controllers.now c.loop-i.i x (omega arith) was))

pub loop-i-preserved : goal.loop-i-preserved
loop-i-preserved c =
    let seen : c.see_share-runs.new.controller ≡ seen_by c.args.note.now c.loop-i.i c.index-controllers-i.result =
    c.see_share-runs.ensures.controller ∙ ap (seen_by c.args.note.now c.loop-i.i) (sym c.index-controllers-i.is) in
    record {
      seen = changed_more (seen_by c.args.note.now) c.loop-i.i c.loop-i.controllers c.args.controllers.now c.index-controllers-i.result c.see_share-runs.new.controller c.loop-i.invariant.seen (omega arith)
          c.index-controllers-i.is seen;
      stopped = so_far_more _ _ _ _ _ c.loop-i.invariant.stopped c.insert_unless.ensures
          (ap (λ b. not b) (c.see_share-runs.ensures.runs ∙ ap (λ (x : ControllerState). is_none x.stopped) seen
          ∙ sym (runs_seen_at c.args.note.now c.args.controllers.now c.loop-i.i c.index-controllers-i.result
          (got c.args.controllers.now c.loop-i.i c.index-controllers-i.result (omega arith) (was c)))));
    }

pub returns-clause-controllers : goal.returns-clause-controllers
returns-clause-controllers c = changed_all (seen_by c.args.note.now) c.loop-i.i c.loop-i.controllers c.args.controllers.now c.loop-i.invariant.seen (omega arith)

pub returns-clause-stopped : goal.returns-clause-stopped
returns-clause-stopped c k =
    let all : c.loop-i.controllers ≡ each (seen_by c.args.note.now) 0 c.args.controllers.now =
    changed_all (seen_by c.args.note.now) c.loop-i.i c.loop-i.controllers c.args.controllers.now c.loop-i.invariant.seen (omega arith) in
    let whole : c.loop-i.i ≡ length c.args.controllers.now = omega arith in
    c.loop-i.invariant.stopped k
    ∙ ap (λ n. nat_lt k n && not (runs (node_at (nodes_of (each (seen_by c.args.note.now) 0 c.args.controllers.now)) k))) whole
    ∙ ap (λ (cs : _). nat_lt k (length c.args.controllers.now) && not (runs (node_at (nodes_of cs) k))) (sym all)
