use Rattle.lynx_codec.proofs.Runs.{begins_the_stream}
use Rattle.lynx_codec.proofs.laws.given_encodings_begin_the_stream.Goals as goal

pub returns : goal.returns
returns c = begins_the_stream
