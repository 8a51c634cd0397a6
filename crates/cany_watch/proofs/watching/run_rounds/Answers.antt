use Rattle.std.proofs.Common.{◌≡◌, ℕ, ◌<◌, ◌∙◌, ap, subst, arith, refl}
use Rattle.cany_base.specs.Params.{Parameters}
use Rattle.cany_base.specs.Scenario.{ScenarioParts}
use Rattle.cany_world.specs.World.{WorldParts}
use Rattle.cany_world.proofs.RoundFacts.{advanced_by, rounds_begin, rounds_legal, rounds_room, rounds_step, rounds_whole}
use Rattle.cany_watch.specs.Lines.{nodes_of}
use Rattle.cany_watch.proofs.watching.run_rounds.Goals as goal

pub loop-left-init : goal.loop-left-init
loop-left-init g c =
    let scenario = c.scenario.ensures ∙ ap (λ (w : WorldParts). w.scenario) c.world.ensures in
    let slots : c.behind-scenario.inside.slots ≡ c.args.hall.now.world.scenario.params.slots =
    ap (λ (p : Parameters). p.slots) (c.behind-scenario.view_is ∙ c.params.ensures.params) ∙ ap (λ (s : ScenarioParts). s.params.slots) scenario in
    record {
      rounds = rounds_begin c.args.hall.now.world c.behind-scenario.inside.slots c.requires slots;
      books = λ i. refl;
      all = λ e. absurd (cc e);
    }

pub advance-fewer-requires-clause-room : goal.advance-fewer-requires-clause-room
advance-fewer-requires-clause-room g c = rounds_room c.args.hall.now.world c.loop-left.hall.world c.loop-left.left c.loop-left.invariant.rounds

pub advance-fewer-requires-clause-legal : goal.advance-fewer-requires-clause-legal
advance-fewer-requires-clause-legal g c = rounds_legal c.args.hall.now.world c.loop-left.hall.world c.loop-left.left c.loop-left.invariant.rounds

pub loop-left-preserved : goal.loop-left-preserved
loop-left-preserved g c =
    let made = c.advance-fewer.ensures in
    let nodes : nodes_of c.advance-fewer.new.self.world ≡ nodes_of c.loop-left.hall.world = ap nodes_of made.new in
    record {
      rounds = rounds_step c.args.hall.now.world c.loop-left.hall.world c.advance-fewer.new.self.world c.loop-left.left c.advance-fewer.result.0 c.loop-left.invariant.rounds
          (advanced_by c.loop-left.hall.world c.advance-fewer.new.self.world c.loop-left.left c.advance-fewer.result.0 made.fewer made.new made.ran);
      books = λ i. made.books i ∙ c.loop-left.invariant.books i;
      all = λ e i below. made.all e i (subst (λ (n : ℕ). i < n) nodes below);
    }

pub returns-clause-world : goal.returns-clause-world
returns-clause-world g c =
    let none : c.loop-left.left ≡ 0 = omega (arith, c.loop-left-test.false) in
    rounds_whole c.args.hall.now.world c.loop-left.hall.world c.loop-left.left c.loop-left.invariant.rounds none
