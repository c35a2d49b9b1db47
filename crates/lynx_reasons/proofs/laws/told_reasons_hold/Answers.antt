use Rattle.lynx_reasons.proofs.Reasons.{told_lem}
use Rattle.lynx_reasons.proofs.laws.told_reasons_hold.Goals as goal

pub returns : goal.returns
returns c = λ set own leader group judges. told_lem set own.excused leader group judges.1
