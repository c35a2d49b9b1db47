use Rattle.std.proofs.Common.{◌≡◌, take}
use Rattle.std.specs.Prelude.{filter}
use Rattle.lynx_cli.specs.Carrying.{is_kept}
use Rattle.lynx_cli.proofs.carrying.without.Given as goal

-- the cells so far that go on
abbrev pub invariant-loop-cell : goal.invariant-loop-cell
invariant-loop-cell l = l.kept.items ≡ filter (is_kept l.dropped) (take l.cell-index l.cells)
