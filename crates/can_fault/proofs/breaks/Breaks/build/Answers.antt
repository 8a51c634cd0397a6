-- Nothing is kept of a run without slots.
use Rattle.std.proofs.Common.{refl, ap, add-one}
use Rattle.cany_base.specs.Params.{Parameters}
use Rattle.cany_base.specs.Bounded.{Bounded}
use Rattle.cany_model.specs.Promises.Hypothesis.{first_break}
use Rattle.can_fault.specs.declared.counts.Counted.{Counted}
use Rattle.can_fault.specs.Counted.{counted_of}
use Rattle.can_fault.specs.Counts.{partials_of}
use Rattle.can_fault.specs.Window.{Window}
use Rattle.can_fault.proofs.breaks.Breaks.build.Goals as goal

pub returns-clause-kept : goal.returns-clause-kept
unfolding first_break
returns-clause-kept c = record {
  numbered = tt;
  unbroken = refl;
  omit = ap (λ (p : Parameters). p.omit) c.params.view_is;
  errors = ap (λ (w : Window). w.errors) c.in_ok-window.ensures;
  span = ap (λ (w : Window). w.span) c.in_ok-window.ensures;
  counts = λ x. ap (λ (b : Bounded (Counted × _)). partials_of b.items (counted_of x)) c.in_ok-counts.ensures;
  recent = rw add-one (ap (λ (w : Window). w.recent) c.in_ok-window.ensures);
}
