use Rattle.std.proofs.Common.{◌≡◌, map, take}
use Rattle.lynx_carry.specs.Naming.{by_name}
use Rattle.lynx_carry.proofs.naming.numbered_cells.Given as goal

-- the cells so far are numbered
abbrev pub invariant-loop-cell : goal.invariant-loop-cell
invariant-loop-cell l = map (by_name l.set) l.triples.items ≡ take l.cell-index l.cells
