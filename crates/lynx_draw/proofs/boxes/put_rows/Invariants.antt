use Rattle.std.proofs.Common.{◌≡◌, ◌++◌, drop}
use Rattle.std.specs.List.{flat_map}
use Rattle.lynx_draw.specs.Boxes.{below_line}
use Rattle.lynx_draw.proofs.boxes.put_rows.Given as goal

-- what is written and what is left are the whole
abbrev pub invariant-loop-pair : goal.invariant-loop-pair
invariant-loop-pair l = l.out.items ++ flat_map (below_line l.set) (drop l.pair-index l.rows) ≡ l.fn.out.items ++ flat_map (below_line l.set) l.rows
