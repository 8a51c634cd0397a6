-- Which line a step makes longer.
use Rattle.std.proofs.Common.{◌≡◌, ◌≢◌, ◌⊎◌, ℕ, ◌<◌, ◌≤◌, [], ◌∷◌, ◌++◌, Bool, true, false, length, Some, None, ap, sym, subst, ◌∙◌, arith, inl, inr}
use Rattle.std.specs.Prelude.{if◌then◌else◌}
use Rattle.std.proofs.lemmas.Bool.{cases_eq, cases_lt}
use Rattle.cany_base.specs.declared.step.Step.{Step}
use Rattle.cany_base.specs.declared.step.Step.TheVariants as step
use Rattle.cany_model.specs.declared.reply.StepReply.{StepReply}
use Rattle.cany_model.specs.Rules.Log.{log}
use Rattle.cany_model.specs.Runs.Run.{is_done, reply}
use Rattle.cany_world.specs.World.{WorldParts, state_of}
use Rattle.cany_watch.specs.Lines.{HaveGrown, nodes_of}
use Rattle.cany_watch.proofs.LineFacts.{Leaves, step_left, world_longer}

-- how many entries a log has, and 0 of a node that there is not
pub record IsLogLength (world : WorldParts) (node n : ℕ) : Type 0 where
  pub there : node < nodes_of world → n ≡ length (log world.scenario (state_of world) node)
  pub none : nodes_of world ≤ node → n ≡ 0

module _ (w w' : WorldParts) (made : Step) (r : StepReply) (is : r ≡ reply w.scenario (state_of w) made)
    (new : w' ≡ (if is_done r then record w { journal = w.journal ++ made ∷ [] } else w)) where
  leaves_other : (k i : ℕ) → made ≡ step.Turn k → i ≢ k → Leaves made w.scenario (state_of w) (state_of w') i
  leaves_other k i turn other = subst (λ (m : Step). Leaves m w.scenario (state_of w) (state_of w') i) (sym turn) (inl other)

  pub slot_grows : made ≡ step.Slot → HaveGrown None w w'
  slot_grows slot = record {
    longer = world_longer w w' made r is new;
    node = tt;
    others = λ i below _. step_left w w' made r is new i below (subst (λ (m : Step). Leaves m w.scenario (state_of w) (state_of w') i) (sym slot) tt);
  }

  same_scenario : w'.scenario ≡ w.scenario
  same_scenario = scenario_of (is_done r) new
    where
      scenario_of : (b : Bool) → w' ≡ (if b then record w { journal = w.journal ++ made ∷ [] } else w) → w'.scenario ≡ w.scenario
      scenario_of true e = ap (λ (x : WorldParts). x.scenario) e
      scenario_of false e = ap (λ (x : WorldParts). x.scenario) e

  -- the log of the node that took its turn is as long as before
  pub turn_grows_none : (k before after : ℕ) → made ≡ step.Turn k → IsLogLength w k before → IsLogLength w' k after → after ≡ before → HaveGrown None w w'
  turn_grows_none k before after turn had has same =
      let longer = world_longer w w' made r is new in record {
        longer = longer;
        node = tt;
        others = λ i below _. step_left w w' made r is new i below (elim (cases_eq i k) [
          | inl this ↦
              let there : k < nodes_of w = subst (λ n. n < nodes_of w) this below in
              let there' : k < nodes_of w' = omega (arith, there, longer.nodes) in
              let logs : length (log w'.scenario (state_of w') k) ≡ length (log w.scenario (state_of w) k) = sym (has.there there') ∙ same ∙ had.there there in
              let logs' : length (log w.scenario (state_of w') i) ≡ length (log w.scenario (state_of w) i) =
              subst (λ n. length (log w.scenario (state_of w') n) ≡ length (log w.scenario (state_of w) n)) (sym this)
              (ap (λ sc. length (log sc (state_of w') k)) (sym same_scenario) ∙ logs) in
              subst (λ (m : Step). Leaves m w.scenario (state_of w) (state_of w') i) (sym turn) (inr logs')
          | inr other ↦ leaves_other k i turn other
        ]);
      }

  -- it is longer
  pub turn_grows : (k before after : ℕ) → made ≡ step.Turn k → IsLogLength w k before → IsLogLength w' k after → after ≢ before → HaveGrown (Some k) w w'
  turn_grows k before after turn had has other =
      let longer = world_longer w w' made r is new in record {
        longer = longer;
        node = elim (cases_lt k (nodes_of w)) [
          | inl there ↦ there
          | inr past ↦ absurd (other (has.none (omega (arith, past, longer.nodes)) ∙ sym (had.none past)))
        ];
        others = λ i below away. step_left w w' made r is new i below (leaves_other k i turn (λ e. away (ap (λ (n : ℕ). Some n) (sym e))));
      }
