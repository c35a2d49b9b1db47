use Rattle.lynx_late.proofs.Late.{two_of_one}
use Rattle.lynx_late.proofs.laws.two_of_one_program.Goals as goal

pub returns : goal.returns
returns c = two_of_one
