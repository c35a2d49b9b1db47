use Rattle.lynx_commute.proofs.Framing.{AgreeOn-after, answer-agree_on}
use Rattle.lynx_commute.proofs.laws.touched_cells_decide.Goals as goal

pub returns-clause-answer : goal.returns-clause-answer
returns-clause-answer c = answer-agree_on

pub returns-clause-cells : goal.returns-clause-cells
returns-clause-cells c = AgreeOn-after
