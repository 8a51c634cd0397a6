use Rattle.std.proofs.Common.{ap, ◌+◌, ◌∙◌, length, refl, replicate, subst, sym, arith, take, []}
use Rattle.std.proofs.lemmas.List.{length-replicate}
use Rattle.cany_base.specs.Nodes.{nobody}
use Rattle.cany_totcan.proofs.MessageSetFacts.{has_no_message}
use Rattle.std.specs.Prelude.{min, slice_get}
use Rattle.cany_totcan.proofs.QueueFacts.{least}
use Rattle.cany_base.specs.declared.notice.NoticeKind.TheVariants.{Idle}
use Rattle.cany_base.specs.Params.{Parameters}
use Rattle.cany_model.specs.Rules.Totcan.{delivered}
use Rattle.cany_totcan.specs.Backlog.{BacklogParts}
use Rattle.cany_totcan.specs.Acceptances.{RingParts}
use Rattle.cany_totcan.specs.Totcan.{AreDone, AreOpen, IsBacklogOf, IsFirstPending, is_carried, key_of}
use Rattle.cany_totcan.proofs.AcceptanceFacts.{acceptances_fresh}
use Rattle.cany_totcan.proofs.OpenFacts.{none_delivered, none_placed, none_recent}
use Rattle.cany_totcan.proofs.OwnFacts.{backlog_fresh}
use Rattle.cany_totcan.proofs.totcan.Totcan.build.Goals as goal

pub returns : goal.returns
returns c = λ n.
    let scenario = c.args.scenario.now in
    let p = scenario.params in
    let params = c.params.view_is ∙ c.params-params.ensures.params in
    let room = c.sends_by-room.ensures in
    record {
      limits = record {
        legal = c.params-params.ensures.legal;
        node = refl;
        format = ap (λ (q : Parameters). q.format) params;
        bound = ap (λ (q : Parameters). q.bound) params;
        omit = ap (λ (q : Parameters). q.omit) params;
        spacing = omega (arith, ap (λ (q : Parameters). q.bound) params, ap (λ (q : Parameters). q.lag) params, c.from.ensures);
        room = least _ _ _ (ap (λ (q : RingParts). q.messages.room) c.in_ok-queue.ensures ∙ c.open_at_once.ensures ∙ ap (λ n. min n (c.params.inside.bound + 1)) room);
        at_once =
            ap (λ (q : RingParts). q.messages.room) c.in_ok-queue.ensures ∙ c.open_at_once.ensures
            ∙ (λ k. min (room k) ((ap (λ (q : Parameters). q.bound) params) k + 1));
        numbers = ap (λ (q : RingParts). q.messages.numbers) c.in_ok-queue.ensures ∙ c.numbers_of-numbers.ensures;
        deliveries = ap length c.in_ok-deliveries.ensures ∙ length-replicate c.numbers_of-numbers.result nobody ∙ c.numbers_of-numbers.ensures;
      };
      queue =
          subst (λ (q : RingParts). AreOpen scenario p.bound (replicate n Idle) q.messages.items) (sym c.in_ok-queue.ensures)
          (record { places = sym (none_placed p.bound n); messages = tt });
      acceptances = acceptances_fresh p.bound n _ (none_recent p.bound n);
      are_delivered = λ s o near. has_no_message _ c.in_ok-deliveries.deliveries c.in_ok-deliveries.ensures s o ∙ sym (ap (is_carried (key_of s o)) (none_delivered p c.args.node n));
      done =
          subst (λ (q : RingParts). AreDone p c.args.node (replicate n Idle) (delivered p c.args.node (replicate n Idle)) (take q.messages.done q.messages.items)) (sym c.in_ok-queue.ensures) tt;
      pending = subst (λ (q : RingParts). IsFirstPending p c.args.node (replicate n Idle) (slice_get q.messages.items q.messages.done)) (sym c.in_ok-queue.ensures) tt;
      backlog = subst (λ (b : BacklogParts). IsBacklogOf scenario c.args.node (replicate n Idle) [] 0 b) (sym c.in_ok-backlog.ensures) (backlog_fresh scenario c.args.node n);
    }
