use Rattle.lynx_status.proofs.Fronts.{behind_is}
use Rattle.lynx_status.proofs.parted.behind.Goals as goal

pub returns : goal.returns
returns c = behind_is c.args.words.now c.args.text.now c.after.result c.after.ensures.found c.after.ensures.none
