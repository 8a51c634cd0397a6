use Rattle.cany_media.proofs.MediaRuns.{media_is_same}
use Rattle.cany_media.proofs.laws.one_line_is_enough.Goals as goal

pub returns : goal.returns
returns c = media_is_same
