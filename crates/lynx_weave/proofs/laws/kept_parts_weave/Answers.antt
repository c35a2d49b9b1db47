use Rattle.lynx_weave.proofs.Parted.{parts_weave}
use Rattle.lynx_weave.proofs.laws.kept_parts_weave.Goals as goal

pub returns : goal.returns
returns c = parts_weave
