-- How often the bus carries the frames of a TOTCAN message, and that of a failure sign, Clean: all
-- bounds.
use Rattle.std.specs.Prelude.{◌≡◌, ◌≤◌, false, List}
use Rattle.std.proofs.Common.{refl, arith}
use Rattle.std.proofs.lemmas.List.Elements.{recursion_from_All}
use Rattle.cany_base.specs.declared.message.MsgKey.{MsgKey}
use Rattle.cany_base.specs.declared.step.Step.{Step}
use Rattle.cany_base.specs.Limits.{most_nodes}
use Rattle.cany_base.specs.Scenario.{ScenarioParts}
use Rattle.cany_model.specs.Bus.Frames.{same_class}
use Rattle.cany_model.specs.Promises.Hypothesis.{is_silent_slot}
use Rattle.cany_model.specs.Rules.Knowledge.{FailureSign, fda_of}
use Rattle.cany_model.specs.Rules.Messages.{accept_of_key}
use Rattle.cany_model.specs.Runs.Run.{run}
use Rattle.cany_model.proofs.Timed.Order.TotKept.{NoSilent}
use Rattle.cany_laws.specs.Carried.{CarriesFewOf, CarriesFewOfSign, HasNoSilentSlot}
use Rattle.cany_laws.proofs.Frames.CarriedAlone.{accepts_once}
use Rattle.cany_laws.proofs.Frames.CarriedCounts.{accepts_few, data_once, incarnations_few}
use Rattle.cany_laws.proofs.Frames.CarriedFresh.{accept_fresh, sign_fresh}
use Rattle.cany_laws.proofs.Frames.CarriedTogether.{few_times}
use Rattle.cany_laws.proofs.Frames.SignsSent.{signs_few}

module _ (scenario : ScenarioParts) (journal : List Step) (few : scenario.params.nodes ≤ most_nodes)
    (none_silent : HasNoSilentSlot (run scenario journal).trace) where
  plain : NoSilent (run scenario journal).trace
  plain = recursion_from_All (λ note. is_silent_slot note ≡ false) (run scenario journal).trace none_silent

  pub few_of_message : (key : MsgKey) → CarriesFewOf scenario (run scenario journal) key
  unfolding same_class
  few_of_message key = record {
    tot_data = data_once scenario journal few plain key;
    accepts_by_nodes = accepts_few scenario journal few plain key;
    accepts_by_lag = few_times scenario few (accept_of_key key) refl (accept_fresh scenario few key) journal plain;
    accepts_once = λ none. accepts_once scenario none key journal few plain;
  }

  pub few_of_sign : (sign : FailureSign) → CarriesFewOfSign scenario (run scenario journal) sign
  unfolding same_class
  few_of_sign sign =
      let by = signs_few scenario sign journal few plain in
      record {
        by_incarnations = by;
        by_nodes = λ none. let all = incarnations_few scenario none journal scenario.params.nodes in omega (arith, by, all);
        by_lag = λ none. few_times scenario few (fda_of sign) refl (sign_fresh scenario few none sign) journal plain;
      }
