use Rattle.std.proofs.Common.{refl, ap, ◌∙◌}
use Rattle.cany_base.specs.declared.class.Class.TheVariants as class
use Rattle.cany_base.specs.declared.message.Service.TheVariants as service
use Rattle.cany_base.specs.Params.{Parameters}
use Rattle.cany_message.proofs.TableFacts.{table_fresh}
use Rattle.cany_edcan.specs.Edcan.{of_all}
use Rattle.cany_edcan.proofs.edcan.Edcan.build.Goals as goal

pub returns : goal.returns
returns c = λ n.
    let params = c.params.view_is ∙ c.params-params.ensures.params in
    record {
      legal = c.params-params.ensures.legal;
      node = refl;
      format = ap (λ (p : Parameters). p.format) params;
      copies =
          table_fresh c.args.scenario.now service.Ed class.Ed of_all n _ _ c.in_ok-copies.copies c.in_ok-copies.ensures
          (ap (λ (p : Parameters). p.omit) params) c.sends_by-room.ensures;
    }
