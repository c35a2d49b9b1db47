use Rattle.lynx_codec.proofs.Ranges.{is_in_range}
use Rattle.lynx_codec.proofs.laws.items_are_in_range.Goals as goal

pub returns : goal.returns
returns c = is_in_range
