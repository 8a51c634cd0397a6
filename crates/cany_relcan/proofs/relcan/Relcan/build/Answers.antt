use Rattle.std.proofs.Common.{ap, ◌+◌, ◌∙◌, refl, sym, arith}
use Rattle.std.specs.Prelude.{min}
use Rattle.cany_base.specs.Params.{Parameters}
use Rattle.cany_relcan.proofs.MarkFacts.{marks_fresh}
use Rattle.cany_relcan.proofs.TablesFacts.{tables_fresh}
use Rattle.cany_relcan.proofs.TimerFacts.{started_since-idle}
use Rattle.cany_relcan.proofs.relcan.Relcan.build.Goals as goal

pub returns : goal.returns
returns c = λ n.
    let params = c.params.view_is ∙ c.params-params.ensures.params in
    let room = c.sends_by-room.ensures in
    record {
      limits = record {
        legal = c.params-params.ensures.legal;
        node = refl;
        format = ap (λ (p : Parameters). p.format) params;
        confirm = ap (λ (p : Parameters). p.confirm) params;
        timers_room =
            ap (λ t. t.room) c.in_ok-timers.ensures ∙ c.timers_at_once.ensures
            ∙ (λ k. min (room k) ((ap (λ (p : Parameters). p.confirm) params) k + 1));
        timers_few = rw c.in_ok-timers.ensures (omega (arith, c.in_ok-tables.ensures.copies.spare, room));
      };
      tables = tables_fresh c.args.scenario.now c.args.node n c.params.inside.omit _ _ _ c.in_ok-tables.ensures.copies c.in_ok-tables.ensures.confirms (ap (λ (p : Parameters). p.omit) params) room;
      timers = ap (λ t. t.running) c.in_ok-timers.ensures ∙ sym (started_since-idle c.args.node c.args.scenario.now.params.confirm n);
      fallen = marks_fresh c.args.scenario.now c.args.node n c.params.inside.omit _ _ c.in_ok-fallen.ensures room;
    }
