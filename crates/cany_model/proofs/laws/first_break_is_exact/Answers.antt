-- The laws are lemmas on every trace.
use Rattle.cany_model.proofs.Promises.BreakFacts.{first_break_exact, first_break_stays, first_break_named}
use Rattle.cany_model.proofs.laws.first_break_is_exact.Goals as goal

pub returns : goal.returns
returns c = record {
  exact = λ p trace. first_break_exact p trace;
  stays = λ p note before b h. first_break_stays p note before b h;
  named = λ p note before b none h. first_break_named p note before b none h;
}
