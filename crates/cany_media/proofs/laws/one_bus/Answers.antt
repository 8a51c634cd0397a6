use Rattle.cany_media.proofs.MediaRuns.{media_is_single}
use Rattle.cany_media.proofs.laws.one_bus.Goals as goal

pub returns : goal.returns
returns c = media_is_single
