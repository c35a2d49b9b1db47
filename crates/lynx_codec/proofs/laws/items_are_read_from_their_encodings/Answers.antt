use Rattle.lynx_codec.proofs.Feeds.{read_from_encoding}
use Rattle.lynx_codec.proofs.laws.items_are_read_from_their_encodings.Goals as goal

pub returns : goal.returns
returns c = read_from_encoding
