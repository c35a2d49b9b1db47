use Rattle.lynx_late.proofs.Late.{none_listed, none_offends}
use Rattle.lynx_late.proofs.laws.none_offends_and_none_is_late.Goals as goal

pub returns : goal.returns
returns c = λ set. (none_listed set, none_offends set)
