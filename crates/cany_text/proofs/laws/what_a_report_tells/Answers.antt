use Rattle.cany_text.proofs.ReadOff.{reads_off}
use Rattle.cany_text.proofs.laws.what_a_report_tells.Goals as goal

pub returns : goal.returns
returns c a b j k a_legal b_legal j_legal k_legal e = reads_off a j b k a_legal b_legal j_legal k_legal e
