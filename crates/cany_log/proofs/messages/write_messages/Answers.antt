use Rattle.std.proofs.Common.{length, ◌∙◌, ap, arith}
use Rattle.std.proofs.lemmas.Result.{err_from_is_err_and}
use Rattle.cany_model.specs.Rules.Messages.{messages_of}
use Rattle.cany_model.specs.Runs.Run.{run}
-- a send has one message: of the model's own words
use Rattle.cany_model.proofs.Rules.Services.MessageKeys.{length-messages_of}
use Rattle.cany_log.specs.ReportItems.{message_text}
use Rattle.cany_log.proofs.PageFacts.{next_items, past_items}
use Rattle.cany_log.proofs.ReportFacts.{message_lines_text}
use Rattle.cany_log.proofs.UpToFacts.{IsPagedUpTo-start, IsPagedUpTo-next, IsPagedUpTo-cut, IsPagedUpTo-all}
use Rattle.cany_log.proofs.messages.write_messages.Goals as goal

pub loop-first-init : goal.loop-first-init
loop-first-init g c = record {
  lines = IsPagedUpTo-start _ _ _ _ _ (message_lines_text c.args.world.now.scenario (run c.args.world.now.scenario c.args.world.now.journal)) c.requires;
  within = omega arith;
}

pub put_messages-requires : goal.put_messages-requires
put_messages-requires g c =
    let sends = c.sends-count.ensures ∙ ap (λ s. s.sends) c.scenario.ensures in
    record {
      order = (omega (arith, c.min-end.ensures), omega (arith, c.min-end.ensures, ap length sends));
      room = omega (arith, c.min-end.ensures, ap length c.loop-first.invariant.lines.empty);
    }

pub loop-first-preserved : goal.loop-first-preserved
loop-first-preserved g c =
    let scenario = c.args.world.now.scenario in
    let sends = c.sends-count.ensures ∙ ap (λ s. s.sends) c.scenario.ensures in
    let parts = next_items (message_text scenario (run scenario c.args.world.now.journal)) (messages_of scenario.sends) c.loop-first.first c.min-end.result (omega (arith, c.min-end.ensures))
    (omega (arith, c.min-end.ensures, ap length sends, length-messages_of scenario.sends)) in
    record {
      lines = IsPagedUpTo-next _ _ _ _ _ _ _ _ _ _ _ _ _ c.loop-first.invariant.lines parts c.put_messages.ensures c.in_ok-write_page.ensures.written c.in_ok-write_page.ensures.empty;
      within = omega (arith, c.min-end.ensures);
    }

pub returns-in_err-write_page : goal.returns-in_err-write_page
returns-in_err-write_page g c =
    let scenario = c.args.world.now.scenario in
    let sends = c.sends-count.ensures ∙ ap (λ s. s.sends) c.scenario.ensures in
    let p = err_from_is_err_and c.from_residual.result c.from_residual.ensures.1 in
    let parts = next_items (message_text scenario (run scenario c.args.world.now.journal)) (messages_of scenario.sends) c.loop-first.first c.min-end.result (omega (arith, c.min-end.ensures))
    (omega (arith, c.min-end.ensures, ap length sends, length-messages_of scenario.sends)) in
    record {
      written = IsPagedUpTo-cut _ _ _ _ _ _ _ _ _ _ _ _ _ _ c.loop-first.invariant.lines parts c.put_messages.ensures p.1 c.in_err-write_page.ensures.written;
      empty = c.in_err-write_page.ensures.empty;
    }

pub returns : goal.returns
returns g c =
    let scenario = c.args.world.now.scenario in
    let sends = c.sends-count.ensures ∙ ap (λ s. s.sends) c.scenario.ensures in
    record {
      written = IsPagedUpTo-all _ _ _ _ _ _ _ c.loop-first.invariant.lines
          (past_items (message_text scenario (run scenario c.args.world.now.journal)) (messages_of scenario.sends) c.loop-first.first
          (omega (arith, ap length sends, length-messages_of scenario.sends)));
      empty = c.loop-first.invariant.lines.empty;
    }
