use Rattle.std.proofs.Common.{◌≡◌, ◌++◌, drop}
use Rattle.lynx_set.specs.Text.{text, tables_lines}
use Rattle.lynx_text.proofs.printing.put_tables.Given as goal

abbrev pub invariant-loop-place : goal.invariant-loop-place
invariant-loop-place l = l.out.items ++ text (tables_lines (drop l.place l.names) (drop l.place l.tables)) ≡ l.fn.out.items ++ text (tables_lines l.names l.tables)
