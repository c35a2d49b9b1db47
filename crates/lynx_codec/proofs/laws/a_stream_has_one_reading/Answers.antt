use Rattle.lynx_codec.proofs.Feeds.{one_reading}
use Rattle.lynx_codec.proofs.laws.a_stream_has_one_reading.Goals as goal

pub returns : goal.returns
returns c = one_reading
