use Rattle.std.proofs.lemmas.Slice.Eq.{slice_eq-Decides}
use Rattle.lynx_check.proofs.Tables.{Decides-marks}
use Rattle.lynx_check.proofs.search.is_same.Goals as goal

pub returns : goal.returns
returns c = slice_eq-Decides Decides-marks c.args.left.now c.args.right.now c.eq.result c.eq.ensures
