use Rattle.lynx_text.proofs.OneSet.{one_set}
use Rattle.lynx_text.proofs.reading.no_text_spells_two_sets.Goals as goal

pub returns : goal.returns
returns c = one_set
