use Rattle.lynx_codec.proofs.Feeds.{no_encoding_begins_another}
use Rattle.lynx_codec.proofs.laws.no_encoding_begins_another.Goals as goal

pub returns : goal.returns
returns c = no_encoding_begins_another
