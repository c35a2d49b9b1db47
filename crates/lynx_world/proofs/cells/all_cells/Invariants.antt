use Rattle.std.proofs.Common.{◌≡◌, take}
use Rattle.std.specs.List.{flat_map}
use Rattle.lynx_world.specs.inner.Servers.{cells_left}
use Rattle.lynx_world.proofs.cells.all_cells.Given as goal

abbrev pub invariant-loop-server : goal.invariant-loop-server
invariant-loop-server l = l.cells.items ≡ flat_map cells_left (take l.server-index l.servers)
