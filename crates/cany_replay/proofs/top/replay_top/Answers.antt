use Rattle.cany_replay.proofs.top.replay_top.Goals as goal

pub returns : goal.returns
returns g c = c.perform.ensures
