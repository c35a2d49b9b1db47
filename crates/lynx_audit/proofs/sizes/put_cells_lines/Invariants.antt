use Rattle.std.proofs.Common.{◌≡◌, ◌++◌}
use Rattle.std.specs.List.{flat_map, range_with_len}
use Rattle.lynx_audit.specs.Sizes.{table_text}
use Rattle.lynx_audit.proofs.sizes.put_cells_lines.Given as goal

-- the lines of the tables so far
abbrev pub invariant-loop-table : goal.invariant-loop-table
invariant-loop-table l = l.text.items ≡ l.fn.text.items ++ flat_map (table_text l.set l.cells) (range_with_len 0 l.table)
