use Rattle.std.proofs.Common.{sym}
use Rattle.std.proofs.lemmas.List.{drop-drop}
use Rattle.lynx_chart.proofs.restarts.place_after.Goals as goal

pub returns-then-place-len-clause-after : goal.returns-then-place-len-clause-after
returns-then-place-len-clause-after c =
    sym (drop-drop 1 c.args.place c.args.world.now.list)
