use Rattle.lynx_codec.proofs.Feeds.{cut_encoding_waits}
use Rattle.lynx_codec.proofs.laws.a_cut_encoding_waits.Goals as goal

pub returns : goal.returns
returns c = cut_encoding_waits
