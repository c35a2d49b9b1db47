use Rattle.lynx_codec.proofs.Runs.{whatever_pieces}
use Rattle.lynx_codec.proofs.laws.pieces_do_not_matter.Goals as goal

pub returns : goal.returns
returns c = whatever_pieces
