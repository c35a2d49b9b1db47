use Rattle.std.proofs.Common.{◌≡◌, ◌+◌, drop, length}
use Rattle.lynx_set.specs.Text.{tables_lines}
use Rattle.lynx_reasons.proofs.hop_lines.lines_of_tables.Given as goal

-- the lines so far and those of the tables that are left are all
abbrev pub invariant-loop-place : goal.invariant-loop-place
invariant-loop-place l = l.lines + length (tables_lines (drop l.place l.names) (drop l.place l.tables)) ≡ length (tables_lines l.names l.tables)
